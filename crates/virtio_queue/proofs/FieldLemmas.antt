-- Fields of a queue: what accesses answer, told as what a queue answers.
use Rattle.std.proofs.Common.{◌≡◌, ◌∙◌, ℕ, ◌*◌, length, option_map, Result, Ok, Err, ap, inl, inr, refl, subst, sym}
use Rattle.std.specs.Int.{w16, from_le_bytes, to_le_bytes}
use Rattle.vm_memory_base.specs.declared.iotlb.Permissions.TheVariants as permissions
use Rattle.vm_memory_guest.specs.Access.{windows}
use Rattle.vm_memory_guest.specs.Answer.{Outcome}
use Rattle.vm_memory_guest.specs.Dirt.{path_cells}
use Rattle.vm_memory_guest.specs.Error.{error_of}
use Rattle.vm_memory_guest.specs.Host.{Host, bytes_at}
use Rattle.vm_memory_guest.specs.Memory.{Memory}
use Rattle.vm_memory_guest.specs.Transfer.{all_of, ended}
use Rattle.vm_memory_guest.specs.Typed.{answered, given, place_of, typed_path}
use Rattle.vm_memory_guest.specs.Walk.{NeedsPieces}
use Rattle.vm_memory_guest.specs.Window.{Window, Writes, cells, cells_of, span}
use Rattle.vm_memory_guest.specs.declared.region.error.GuestMemoryError.{GuestMemoryError}
use Rattle.vm_memory_guest.specs.declared.region.error.GuestMemoryError.TheVariants as errors
use Rattle.virtio_queue.specs.Error.{of_access}
use Rattle.virtio_queue.specs.Fields.{Answers, MayWant, StoresWord, bytes_in, descriptor_at, descriptor_of, loaded, place, reached_at, told, word_at, word_window}
use Rattle.virtio_queue.specs.Rings.{and_then}
use Rattle.virtio_queue.specs.declared.descriptor.Descriptor.{Descriptor}
use Rattle.virtio_queue.specs.declared.error.QueueError.{QueueError}

-- one function after another
answered_then : {X Y Z E : Type 0} (f : X → Y) (g : Y → Z) (r : Result X E)
    → answered (λ x. g (f x)) r ≡ answered g (answered f r)
answered_then f g (Ok x) = refl
answered_then f g (Err e) = refl

-- an access that gives something, told as what a queue answers
access_answers : {T W V : Type 0} (expected r : Result T GuestMemoryError) → (W → V)
    → Outcome errors.Memory W expected (Unit {0}) (Unit {0}) r → Answers V (told expected) (told r)
access_answers expected (Ok v) f (is, done) = inl (ap told is)
access_answers expected (Err e) f (inl (is, wants, done)) = inr (ap (λ x. Err (of_access x)) is, f wants)
access_answers expected (Err e) f (inr (is, done)) = inl (ap told is)

-- an access at a place that was found
answers_at : {T : Type 0} (wants : Type 0) (p q : Result ℕ QueueError) (a : ℕ) (f : ℕ → Result T QueueError)
    (r : Result T QueueError) → p ≡ q → p ≡ Ok a → Answers wants (f a) r → Answers wants (and_then q f) r
answers_at wants p q a f r same at h =
    let is : q ≡ Ok a = sym same ∙ at in subst (λ x. Answers wants (and_then x f) r) (sym is) h

-- a load of a number of 16 bits
pub word_answers : {B : Type 0} (m : Memory) (host : Host B) (base offset a : ℕ) (p : Result ℕ QueueError)
    (r : Result ℕ GuestMemoryError) → p ≡ place base offset 2 → p ≡ Ok a
    → (let x = reached_at m host a 2 permissions.Read in
    answered (λ w. bytes_at host.blocks (cells_of w)) (place_of 2 x)
    ≡ answered (λ xs. bytes_at host.blocks (path_cells xs)) (typed_path 2 x))
    → Outcome errors.Memory (NeedsPieces m host.tables a 2 permissions.Read)
    (answered (λ w. from_le_bytes w16 (bytes_at host.blocks (cells_of w)))
    (place_of 2 (reached_at m host a 2 permissions.Read)))
    (Unit {0}) (Unit {0}) r
    → Answers (MayWant m host base offset 2 permissions.Read) (word_at m host base offset) (told r)
word_answers m host base offset a p r placed at bytes outcome =
    let window = place_of 2 (reached_at m host a 2 permissions.Read) in
    let value = from_le_bytes w16 in
    let same : answered (λ w. value (bytes_at host.blocks (cells_of w))) window ≡ answered value (loaded m host a 2) =
    answered_then (λ w. bytes_at host.blocks (cells_of w)) value window ∙ ap (answered value) bytes in
    let wants = MayWant m host base offset 2 permissions.Read in
    let given = access_answers _ r (λ (n : NeedsPieces m host.tables a 2 permissions.Read). (a, sym placed ∙ at, n))
    outcome in
    answers_at wants p (place base offset 2) a _ (told r) placed at
    (subst (λ e. Answers wants (told e) (told r)) same given)

-- a read of a descriptor
pub descriptor_answers : {B : Type 0} (m : Memory) (host : Host B) (table i a : ℕ) (p : Result ℕ QueueError)
    (r : Result Descriptor GuestMemoryError) → p ≡ place table (16 * i) 16 → p ≡ Ok a
    → (let xs = (reached_at m host a 16 permissions.Read).path in
    (span (windows xs) ≡ length xs) × (cells (windows xs) ≡ path_cells xs))
    → (let x = reached_at m host a 16 permissions.Read in
    Outcome errors.Memory (NeedsPieces m host.tables a 16 permissions.Read)
    (answered (λ _. descriptor_of (bytes_at host.blocks (cells (windows x.path))))
    (all_of errors.PartialBuffer 16 (ended (span (windows x.path)) (option_map error_of x.fault))))
    (Unit {0}) (Unit {0}) r)
    → Answers (MayWant m host table (16 * i) 16 permissions.Read) (descriptor_at m host table i) (told r)
descriptor_answers m host table i a p r placed at (count, same_cells) outcome =
    let x = reached_at m host a 16 permissions.Read in
    let whole = all_of errors.PartialBuffer 16 (ended (length x.path) (option_map error_of x.fault)) in
    let same : answered (λ _. descriptor_of (bytes_at host.blocks (cells (windows x.path))))
    (all_of errors.PartialBuffer 16 (ended (span (windows x.path)) (option_map error_of x.fault)))
    ≡ answered descriptor_of (bytes_in m host a 16) =
    ap (λ n. answered (λ _. descriptor_of (bytes_at host.blocks (cells (windows x.path))))
    (all_of errors.PartialBuffer 16 (ended n (option_map error_of x.fault)))) count
    ∙ ap (λ cs. answered (λ (u : Unit {0}). descriptor_of (bytes_at host.blocks cs)) whole) same_cells
    ∙ answered_then (λ (u : Unit {0}). bytes_at host.blocks (path_cells x.path)) descriptor_of whole in
    let wants = MayWant m host table (16 * i) 16 permissions.Read in
    let given = access_answers _ r (λ (n : NeedsPieces m host.tables a 16 permissions.Read). (a, sym placed ∙ at, n))
    outcome in
    answers_at wants p (place table (16 * i) 16) a _ (told r) placed at
    (subst (λ e. Answers wants (told e) (told r)) same given)

-- a store of a number of 16 bits
module _ {B : Type 0} (marks : B → ℕ → ℕ → B → Type 0) (m : Memory) (base offset value : ℕ) (old new : Host B) where
  stored_in : (a : ℕ) (w : Result Window GuestMemoryError) → place base offset 2 ≡ Ok a
      → word_window m old base offset ≡ told w → (r : Result (Unit {0}) GuestMemoryError)
      → Outcome errors.Memory (NeedsPieces m old.tables a 2 permissions.Write) (answered (λ _. tt {0}) w) (new ≡ old)
      (Writes marks (given w) (to_le_bytes w16 value) old new) r
      → StoresWord marks m base offset value old (told r) new
  stored_in a (Ok w) at is (Ok u) (answer, writes) = (w, is, writes)
  stored_in a (Ok w) at is (Err e) (inl (wanted, wants, same)) = (inr (ap of_access wanted, (a, at, wants)), same)
  stored_in a (Ok w) at is (Err e) (inr (answer, writes)) = absurd (cc)
  stored_in a (Err d) at is (Ok u) (answer, writes) = absurd (cc)
  stored_in a (Err d) at is (Err e) (inl (wanted, wants, same)) = (inr (ap of_access wanted, (a, at, wants)), same)
  stored_in a (Err d) at is (Err e) (inr (answer, writes)) =
      let same : e ≡ d = cc in (inl (is ∙ ap (λ x. Err (of_access x)) (sym same)), writes)

  pub word_stores : (a : ℕ) (p : Result ℕ QueueError) → p ≡ place base offset 2 → p ≡ Ok a
      → (r : Result (Unit {0}) GuestMemoryError)
      → (let w = place_of 2 (reached_at m old a 2 permissions.Write) in
      Outcome errors.Memory (NeedsPieces m old.tables a 2 permissions.Write) (answered (λ _. tt {0}) w) (new ≡ old)
      (Writes marks (given w) (to_le_bytes w16 value) old new) r)
      → StoresWord marks m base offset value old (told r) new
  word_stores a p placed at r outcome =
      stored_in a (place_of 2 (reached_at m old a 2 permissions.Write)) (sym placed ∙ at) (rw (← placed, at) refl) r
      outcome
