use Rattle.std.proofs.Common.{ap}
use Rattle.vm_memory_base.specs.Pages.{pages_with}
use Rattle.vm_memory_base.specs.Paging.{page_size_of, count_of}
use Rattle.vm_memory_base.proofs.FlagsLemmas.{flags_of-clean}
use Rattle.vm_memory_base.proofs.bitmap.exclusive.ExclusiveBitmap.reset.Goals as goal

pub returns-clause-pages : goal.returns-clause-pages
returns-clause-pages c =
    let old = c.args.self.now in
    ap (pages_with (page_size_of old.paging))
    (rw (c.fill.ensures.items (λ y e. e)) (flags_of-clean old.words.items _ (count_of old.paging)))
