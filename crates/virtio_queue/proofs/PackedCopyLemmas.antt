-- Copies of the descriptors of a packed ring, turn by turn.
use Rattle.std.proofs.Common.{◌≡◌, ◌∙◌, ℕ, suc, ◌+◌, ◌*◌, ◌-◌, ◌<◌, ◌≤◌, if◌then◌else◌, true, false, List, [], ◌∷◌, ◌++◌, Option, Some, None, Result, Ok, Err, ap, inl, inr, refl, subst, sym, arith}
use Rattle.virtio_queue.specs.Looks.{Follows, Given, Step, Tree, and_takes, gives, keeps, takes, row, word}
use Rattle.virtio_queue.specs.Packed.{slot_after}
use Rattle.virtio_queue.specs.PackedCopies.{copies_after, copies_found, copies_known, copying}
use Rattle.virtio_queue.specs.PackedPopping.{with_known}
use Rattle.virtio_queue.specs.PackedRing.{is_available, is_last, packed_of}
use Rattle.virtio_queue.specs.declared.descriptor.Descriptor.{Descriptor}
use Rattle.virtio_queue.specs.declared.error.QueueError.{QueueError}
use Rattle.virtio_queue.specs.declared.error.QueueError.TheVariants as errors
use Rattle.virtio_queue.specs.declared.packed.descriptor.PackedDescriptor.{PackedDescriptor}
use Rattle.virtio_queue.specs.declared.packed.state.PackedState.{PackedState}
use Rattle.virtio_queue.proofs.LookLemmas.{then_fails, then_follows}

module _ {S : Type 0} (look : S → (p : Step) → Result (Given p) QueueError → S → Type 0) where
  module _ (ring size room : ℕ) (front : List PackedDescriptor) (turns slot : ℕ) (known : Option ℕ) where
    abbrev on : ℕ → PackedDescriptor → Tree (List PackedDescriptor)
    on most p = if is_last p then gives (Ok (front ++ p ∷ []))
        else copies_after ring size most (front ++ p ∷ []) (slot_after size slot) None

    -- the next turn
    turn : turns < room → copies_after ring size (room - turns) front slot known
        ≡ takes (row ring slot) (λ d. keeps (on (room - (turns + 1)) (with_known known (packed_of d))))
    unfolding copies_after
    turn h = let more : room - turns ≡ suc (room - (turns + 1)) = omega arith in rw more refl

    pub copy_refused : (s new : S) (e : QueueError) → turns < room → look s (row ring slot) (Err e) new
        → Follows look (copies_after ring size (room - turns) front slot known) s (Err e) new
    copy_refused s new e h looked = rw (turn h) (Err e, new, looked, (refl, refl))

    on_last : (most : ℕ) (p : PackedDescriptor) → is_last p ≡ true → on most p ≡ gives (Ok (front ++ p ∷ []))
    on_last most p last = rw last refl

    on_next : (most : ℕ) (p : PackedDescriptor) → is_last p ≡ false
        → on most p ≡ copies_after ring size most (front ++ p ∷ []) (slot_after size slot) None
    on_next most p next = rw next refl

    module _ (s new : S) (d : Descriptor) (p : PackedDescriptor) (h : turns < room)
        (looked : look s (row ring slot) (Ok d) new) (found : PackedDescriptor) (of : found ≡ packed_of d)
        (is : p ≡ with_known known found) where
      -- what is made of the descriptor is made of the turn
      made : (result : Result (List PackedDescriptor) QueueError) (end : S)
          → Follows look (keeps (on (room - (turns + 1)) p)) new result end
          → Follows look (copies_after ring size (room - turns) front slot known) s result end
      made result end rest = rw (turn h) (
        Ok d,
        new,
        looked,
        subst (λ p. Follows look (keeps (on (room - (turns + 1)) p)) new result end)
            (is ∙ ap (with_known known) of) rest,
      )

      pub copy_full : Follows look (copies_after ring size (room - turns) front slot known) s (Err errors.Memory) new
      copy_full = made (Err errors.Memory) new (inr (refl, refl))

      pub copy_last : (after : List PackedDescriptor) → is_last p ≡ true → after ≡ front ++ p ∷ []
          → Follows look (copies_after ring size (room - turns) front slot known) s (Ok after) new
      copy_last after last so = made (Ok after) new
          (inl (subst (λ t. Follows look t new (Ok after) new) (sym (on_last (room - (turns + 1)) p last))
          (ap Ok so, refl)))

      pub copy_next : (after : List PackedDescriptor) (result : Result (List PackedDescriptor) QueueError) (end : S)
          → is_last p ≡ false → after ≡ front ++ p ∷ []
          → Follows look (copies_after ring size (room - (turns + 1)) after (slot_after size slot) None) new result end
          → Follows look (copies_after ring size (room - turns) front slot known) s result end
      copy_next after result end next so rest = made result end
          (inl (subst (λ t. Follows look t new result end) (sym (on_next (room - (turns + 1)) p next))
          (subst (λ ds. Follows look (copies_after ring size (room - (turns + 1)) ds (slot_after size slot) None)
          new result end) so rest)))

    pub copy_loop : (s : S) → room ≤ turns
        → Follows look (copies_after ring size (room - turns) front slot known) s (Err errors.DescriptorLoop) s
    unfolding copies_after
    copy_loop s h = let none : room - turns ≡ 0 = omega arith in rw none (refl, refl)

  -- the slot was found to be available
  module _ (q : PackedState) (flags : ℕ) (s mid new : S) (ready : q.ready ≡ true)
      (available : is_available flags q.next_avail.wrap ≡ true)
      (looked : look s (word q.desc_ring (16 * q.next_avail.slot + 14)) (Ok flags) mid) where
    abbrev some : List PackedDescriptor → Tree (Option (List PackedDescriptor))
    some ds = gives (Ok (Some ds))

    after_flags : copies_found q flags ≡ and_takes (copies_known q flags) some
    after_flags = rw available refl

    copies : (result : Result (Option (List PackedDescriptor)) QueueError)
        → Follows look (and_takes (copies_known q flags) some) mid result new → Follows look (copying q) s result new
    copies result h = rw ready
        (Ok flags, mid, looked, subst (λ t. Follows look t mid result new) (sym after_flags) h)

    pub copying_refused : (e : QueueError) → Follows look (copies_known q flags) mid (Err e) new
        → Follows look (copying q) s (Err e) new
    copying_refused e h = copies (Err e) (then_fails look (copies_known q flags) some mid new e h)

    pub copying_found : (ds : List PackedDescriptor) → Follows look (copies_known q flags) mid (Ok ds) new
        → Follows look (copying q) s (Ok (Some ds)) new
    copying_found ds h = copies (Ok (Some ds))
        (then_follows look (copies_known q flags) some mid new new ds (Ok (Some ds)) h (refl, refl))
