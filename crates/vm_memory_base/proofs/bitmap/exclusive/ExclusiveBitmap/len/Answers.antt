use Rattle.std.proofs.Common.{sym, ◌∙◌}
use Rattle.vm_memory_base.specs.lemmas.NewPages.{length-flags_of}
use Rattle.vm_memory_base.proofs.bitmap.exclusive.ExclusiveBitmap.len.Goals as goal

pub returns : goal.returns
returns c = c.count.ensures ∙ sym (length-flags_of c.args.self.now.words.items _)
