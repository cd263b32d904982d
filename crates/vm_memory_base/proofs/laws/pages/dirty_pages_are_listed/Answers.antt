use Rattle.std.proofs.Common.{refl}
use Rattle.vm_memory_base.proofs.PagesLaws.{Contains-dirty_pages, dirty_pages_ascend}
use Rattle.vm_memory_base.proofs.BitmapLemmas.{dirty_pages_decide, bit_of-dirty_words, length-dirty_words, dirty_words-lt}
use Rattle.vm_memory_base.proofs.laws.pages.dirty_pages_are_listed.Goals as goal

pub returns : goal.returns
returns c = record {
  exactly = Contains-dirty_pages;
  decide = dirty_pages_decide;
  ascending = dirty_pages_ascend;
  bits = bit_of-dirty_words;
  words = length-dirty_words;
  words_fit = dirty_words-lt;
  untracked_clean = λ offset. refl;
  untracked_no_page = refl;
}
