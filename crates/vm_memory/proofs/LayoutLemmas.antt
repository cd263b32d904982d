-- The commands that change layouts, and what they are in the model.
use Rattle.std.proofs.Common.{◌≡◌, ◌⊎◌, ℕ, List, [], ◌∷◌, ◌++◌, length, map, nat_lt, true, false, cond, slice_get, Option, Some, None, Result, Ok, Err, All, refl, sym, ap, subst, ◌∙◌, inl, inr}
use Rattle.std.proofs.lemmas.List.{length-map, map-append}
use Rattle.std.proofs.lemmas.List.Elements.{All-nil, All-cons, All-head, All-tail}
use Rattle.std.proofs.lemmas.Option.{slice_get-map}
use Rattle.vm_memory_base.specs.Pages.{PageSet}
use Rattle.vm_memory_base.specs.declared.address.GuestAddress.{GuestAddress}
use Rattle.vm_memory_guest.specs.Layout.{inserted, is_exactly, after_first, removed, IsFault}
use Rattle.vm_memory_guest.specs.Region.{Region, layout_error}
use Rattle.vm_memory_guest.specs.declared.region.error.GuestRegionCollectionError.{GuestRegionCollectionError}
use Rattle.vm_memory_guest.specs.declared.region.error.GuestRegionCollectionError.TheVariants as layout
use Rattle.vm_memory.specs.Commands.{MayWant}
use Rattle.vm_memory.specs.Machine.{Step, outcome}
use Rattle.vm_memory.specs.Effect.{AddsLayout, apply, laid_out, without}
use Rattle.vm_memory.specs.Parts.{Parts, state_of}
use Rattle.vm_memory.specs.Reply.{replied, reply_of_layout_error}
use Rattle.vm_memory.specs.State.{State}
use Rattle.vm_memory.specs.declared.machine.command.Command.{Command}
use Rattle.vm_memory.specs.declared.machine.command.Command.TheVariants as command
use Rattle.vm_memory.specs.declared.machine.command.Reply.{Reply}
use Rattle.vm_memory.specs.declared.machine.command.Reply.TheVariants as reply
use Rattle.vm_memory.specs.declared.machine.refusal.Refusal.{Refusal}
use Rattle.vm_memory.specs.declared.machine.refusal.Refusal.TheVariants as refusal

-- ---- regions by what they mean

inserted-map : {R : Type 0} (region : R → Region) (rs : List R) (r : R)
    → map region (inserted region rs r) ≡ inserted (λ q. q) (map region rs) (region r)
inserted-map region [] r = refl
inserted-map region (x ∷ xs) r =
    elim (nat_lt (region r).start (region x).start) as (λ b. map region (cond b (r ∷ x ∷ xs) (x ∷ inserted region xs r))
    ≡ cond b (region r ∷ region x ∷ map region xs) (region x ∷ inserted (λ q. q) (map region xs) (region r))) [
      | true ↦ refl
      | false ↦ ap (λ ys. region x ∷ ys) (inserted-map region xs r)
    ]

abbrev means : {R : Type 0} → (R → Region) → Option (List R × R) → Option (List Region × Region)
means region None = None
means region (Some p) = Some (map region p.0, region p.1)

means-behind : {R : Type 0} (region : R → Region) (x : R) (o : Option (List R × R))
    → after_first (region x) (means region o) ≡ means region (after_first x o)
means-behind region x None = refl
means-behind region x (Some p) = refl

removed-map : {R : Type 0} (region : R → Region) (rs : List R) (base size : ℕ)
    → removed (λ q. q) (map region rs) base size ≡ means region (removed region rs base size)
removed-map region [] base size = refl
removed-map region (x ∷ xs) base size =
    elim (is_exactly base size (region x)) as (λ b.
    cond b (Some (map region xs, region x)) (after_first (region x) (removed (λ q. q) (map region xs) base size))
    ≡ means region (cond b (Some (xs, x)) (after_first x (removed region xs base size)))) [
      | true ↦ refl
      | false ↦
          ap (after_first (region x)) (removed-map region xs base size)
          ∙ means-behind region x (removed region xs base size)
    ]

-- ---- what holds of each region

pub All-inserted : (P : Region → Type 0) (rs : List Region) (r : Region) → All P rs → P r
    → All P (inserted (λ q. q) rs r)
All-inserted P [] r all p = All-cons P r [] p (All-nil P)
All-inserted P (x ∷ xs) r all p =
    elim (nat_lt r.start x.start) as (λ b. All P (cond b (r ∷ x ∷ xs) (x ∷ inserted (λ q. q) xs r))) [
      | true ↦ All-cons P r (x ∷ xs) p all
      | false ↦
          All-cons P x (inserted (λ q. q) xs r) (All-head P x xs all)
          (All-inserted P xs r (All-tail P x xs all) p)
    ]

pub All-inserted_values : {R : Type 0} (region : R → Region) (P : Region → Type 0) (rs : List R) (r : R)
    → All P (map region rs) → P (region r) → All P (map region (inserted region rs r))
All-inserted_values region P rs r all p =
    subst (All P) (sym (inserted-map region rs r)) (All-inserted P (map region rs) (region r) all p)

-- what holds of the regions that are left, if one was taken out
abbrev pub OfLeft : (List Region → Type 0) → Option (List Region × Region) → Type 0
OfLeft P None = Unit {0}
OfLeft P (Some p) = P p.0

-- and of those with one before them
pub OfLeft-behind : (P Q : List Region → Type 0) (x : Region) (o : Option (List Region × Region))
    → ((xs : List Region) → P xs → Q (x ∷ xs)) → OfLeft P o → OfLeft Q (after_first x o)
OfLeft-behind P Q x None more left = tt
OfLeft-behind P Q x (Some p) more left = more p.0 left

pub All-removed : (P : Region → Type 0) (rs : List Region) (base size : ℕ) → All P rs
    → OfLeft (All P) (removed (λ q. q) rs base size)
All-removed P [] base size all = tt
All-removed P (x ∷ xs) base size all =
    elim (is_exactly base size x) as (λ b.
    OfLeft (All P) (cond b (Some (xs, x)) (after_first x (removed (λ q. q) xs base size)))) [
      | true ↦ All-tail P x xs all
      | false ↦
          OfLeft-behind (All P) (All P) x (removed (λ q. q) xs base size)
          (λ ys. All-cons P x ys (All-head P x xs all)) (All-removed P xs base size (All-tail P x xs all))
    ]

pub All-removed_values : {R : Type 0} (region : R → Region) (P : Region → Type 0) (rs others : List R) (r : R)
    (base size : ℕ) → removed region rs base size ≡ Some (others, r) → All P (map region rs)
    → All P (map region others)
All-removed_values region P rs others r base size e all =
    subst (OfLeft (All P)) (removed-map region rs base size ∙ ap (means region) e)
    (All-removed P (map region rs) base size all)

-- ---- steps

module _ {R I B : Type 0} (region : R → Region) (number_of : I → ℕ) (pages : B → PageSet) (m : Parts R I B) where
  abbrev before : State
  before = state_of region number_of pages m

  abbrev with_layout : List R → Parts R I B
  with_layout c = record m { layouts = m.layouts ++ c ∷ [] }

  after-is : (c : List R) (xs : List Region) → map region c ≡ xs
      → (reply.Layout (length m.layouts), state_of region number_of pages (with_layout c))
      ≡ apply before (AddsLayout xs)
  after-is c xs same =
      ap (λ (n : ℕ). (reply.Layout n, state_of region number_of pages (with_layout c)))
      (sym (length-map m.layouts (map region)))
      ∙ ap (λ (ls : List (List Region)). (reply.Layout (length before.layouts), record before { layouts = ls }))
      (map-append (map region) m.layouts (c ∷ []) ∙ ap (λ (ys : List Region). before.layouts ++ ys ∷ []) same)

  -- a layout was added, or there was no memory for it
  abbrev Added : List R → Result ℕ Refusal → Parts R I B → Type 0
  Added c r new = ((r ≡ Ok (length m.layouts)) × (new ≡ with_layout c)) ⊎ ((r ≡ Err refusal.Memory) × (new ≡ m))

  abbrev made_as : Result ℕ Refusal → Reply
  made_as r = replied (λ number. reply.Layout number) r

  pub step-added : (cmd : Command) (c : List R) (xs : List Region) (r : Result ℕ Refusal) (new : Parts R I B)
      → outcome before cmd ≡ apply before (AddsLayout xs) → MayWant before cmd → map region c ≡ xs → Added c r new
      → Step before cmd (made_as r) (state_of region number_of pages new)
  step-added cmd c xs r new is want same added = elim added [
    | inl p ↦
        inl (ap (λ (q : Result ℕ Refusal). (made_as q, state_of region number_of pages new)) p.0
        ∙ ap (λ (n : Parts R I B). (reply.Layout (length m.layouts), state_of region number_of pages n)) p.1
        ∙ after-is c xs same ∙ sym is)
    | inr q ↦ inr (ap (λ (x : Result ℕ Refusal). made_as x) q.0, want, ap (state_of region number_of pages) q.1)
  ]

  module _ (place number : ℕ) (rs : List R) (r : R) (there : slice_get m.layouts place ≡ Some rs)
      (at : slice_get m.regions number ≡ Some r) where
    layout-there : slice_get before.layouts place ≡ Some (map region rs)
    layout-there = rw (slice_get-map (map region) m.layouts place, there) refl

    region-there : slice_get before.regions number ≡ Some (region r)
    region-there = rw (slice_get-map region m.regions number, at) refl

    abbrev more : List Region
    more = inserted (λ q. q) (map region rs) (region r)

    insert-outcome : outcome before (command.Insert place number) ≡ apply before (laid_out more (layout_error more))
    insert-outcome = rw (layout-there, region-there) refl

    pub insert-wants : MayWant before (command.Insert place number)
    insert-wants = rw (layout-there, region-there) (refl, refl)

    pub insert-step : (c : List R) (answer : Result ℕ Refusal) (new : Parts R I B) → c ≡ inserted region rs r
        → layout_error (map region (inserted region rs r)) ≡ None → Added c answer new
        → Step before (command.Insert place number) (made_as answer) (state_of region number_of pages new)
    insert-step c answer new is none added =
        let same = inserted-map region rs r in
        let good : layout_error more ≡ None = subst (λ (xs : List Region). layout_error xs ≡ None) same none in
        step-added (command.Insert place number) c more answer new
        (insert-outcome ∙ ap (λ (o : Option GuestRegionCollectionError). apply before
        (laid_out more o)) good) insert-wants
        (ap (map region) is ∙ same) added

    pub insert-refused : (e : GuestRegionCollectionError) → IsFault (layout_error (map region (inserted region rs r))) e
        → Step before (command.Insert place number) (reply_of_layout_error e) before
    insert-refused e fault = elim fault [
      | inl memory ↦ inr (ap reply_of_layout_error memory, insert-wants, refl)
      | inr told ↦
          let bad : layout_error more ≡ Some e =
          subst (λ (xs : List Region). layout_error xs ≡ Some e) (inserted-map region rs r) told in
          inl (sym (insert-outcome
          ∙ ap (λ (o : Option GuestRegionCollectionError). apply before (laid_out more o)) bad))
    ]

  module _ (place : ℕ) (base : GuestAddress) (size : ℕ) (rs : List R)
      (there : slice_get m.layouts place ≡ Some rs) where
    abbrev cmd : Command
    cmd = command.Remove place base size

    remove-outcome : (o : Option (List R × R)) → removed region rs base.0 size ≡ o
        → outcome before cmd ≡ apply before (without (means region o))
    remove-outcome o e =
        let here : slice_get before.layouts place ≡ Some (map region rs) =
        rw (slice_get-map (map region) m.layouts place, there) refl in
        let is : removed (λ q. q) (map region rs) base.0 size ≡ means region o =
        removed-map region rs base.0 size ∙ ap (means region) e in
        rw (here, is) refl

    remove-wants : (p : List R × R) → removed region rs base.0 size ≡ Some p → MayWant before cmd
    remove-wants p e =
        let here : slice_get before.layouts place ≡ Some (map region rs) =
        rw (slice_get-map (map region) m.layouts place, there) refl in
        let is : removed (λ q. q) (map region rs) base.0 size ≡ Some (map region p.0, region p.1) =
        removed-map region rs base.0 size ∙ ap (means region) e in
        rw (here, is) refl

    pub remove-step : (others : List R) (r : R) (answer : Result ℕ Refusal) (new : Parts R I B)
        → removed region rs base.0 size ≡ Some (others, r) → Added others answer new
        → Step before cmd (made_as answer) (state_of region number_of pages new)
    remove-step others r answer new e added =
        step-added cmd others (map region others) answer new (remove-outcome (Some (others, r)) e)
        (remove-wants (others, r) e) refl added

    remove-none : removed region rs base.0 size ≡ None
        → Step before cmd (reply_of_layout_error layout.NoMemoryRegion) before
    remove-none e = inl (sym (remove-outcome None e))

    remove-memory : (o : Option (List R × R)) → removed region rs base.0 size ≡ o → (o ≡ None → ⊥)
        → Step before cmd (reply_of_layout_error layout.Memory) before
    remove-memory None e some = absurd (some refl)
    remove-memory (Some p) e some = inr (refl, remove-wants p e, refl)

    pub remove-refused : (e : GuestRegionCollectionError)
        → (e ≡ layout.NoMemoryRegion → removed region rs base.0 size ≡ None)
        → (removed region rs base.0 size ≡ None → e ≡ layout.NoMemoryRegion)
        → (e ≡ layout.NoMemoryRegion) ⊎ (e ≡ layout.Memory)
        → Step before cmd (reply_of_layout_error e) before
    remove-refused e there back either = elim either [
      | inl none ↦ rw none (remove-none (there none))
      | inr memory ↦
          rw memory (remove-memory (removed region rs base.0 size) refl
          (λ none. let is = back none in absurd (cc)))
    ]
