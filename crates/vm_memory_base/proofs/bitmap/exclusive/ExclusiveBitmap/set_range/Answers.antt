use Rattle.std.proofs.Common.{◌≡◌, ◌<◌, ◌&&◌, ℕ, Bool, List, leb, ltb, ap, length, sym, ◌∙◌}
use Rattle.std.proofs.lemmas.List.{with_items_is}
use Rattle.vm_memory_base.specs.Pages.{takes}
use Rattle.vm_memory_base.specs.Paging.{page_size_of, count_of}
use Rattle.vm_memory_base.proofs.FlagsLemmas.{inside_words, taken_between, flags_of-set, clear_after}
use Rattle.vm_memory_base.proofs.bitmap.exclusive.ExclusiveBitmap.set_range.Goals as goal

pub set_flags-requires : goal.set_flags-requires
set_flags-requires c =
    let old = c.args.self.now in
    rw c.deref_mut.ensures.value
    (inside_words old.words.items (count_of old.paging) _ old.whole c.pages_in-first.ensures.inside)

pub invariant_of-self : goal.invariant_of-self
invariant_of-self c =
    let old = c.args.self.now in
    let new = c.set_flags.new.words in
    let same = c.set_flags.ensures.len ∙ ap length c.deref_mut.ensures.value in
    let gets = rw c.deref_mut.ensures.value at c.set_flags.ensures.flags in
    rw (with_items_is old.words new (same ∙ sym old.words.ok.0))
    (record {
      whole = same ∙ old.whole;
      clear = clear_after old.words.items new (count_of old.paging) _ _ c.args.dirty c.pages_in-first.ensures.inside
          old.clear gets;
    })

pub returns-clause-pages : goal.returns-clause-pages
returns-clause-pages c =
    let old = c.args.self.now in
    let new = c.set_flags.new.words in
    let same = c.set_flags.ensures.len ∙ ap length c.deref_mut.ensures.value in
    let gets = rw c.deref_mut.ensures.value at c.set_flags.ensures.flags in
    let range = c.pages_in-first.result in
    let taken : (page : ℕ) → page < count_of old.paging
    → takes (page_size_of old.paging) c.args.start c.args.len page ≡ (leb range.0 page && ltb page range.1) =
    λ page inside. rw c.pages_in-first.ensures.pages (taken_between old.paging c.args.start c.args.len page inside) in
    ap (λ (flags : List Bool). record { page_size = page_size_of old.paging; flags = flags })
    (rw (with_items_is old.words new (same ∙ sym old.words.ok.0))
    (flags_of-set old.words.items new (count_of old.paging) range.0 range.1 _ taken c.args.dirty gets))
