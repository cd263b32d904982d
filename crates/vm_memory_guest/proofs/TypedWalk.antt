-- Values in guest memory, by the walk of their access.
use Rattle.std.specs.List.{AllByRecursion}
use Rattle.std.proofs.Common.{◌≡◌, ◌⊎◌, ℕ, ◌+◌, ◌-◌, ◌%◌, ◌≤◌, ◌&&◌, ◌==◌, Bool, true, false, cond, if◌then◌else◌, List, [], ◌∷◌, ◌++◌, take, drop, length, Option, Some, None, option_map, Result, Ok, Err, sym, ap, subst, ◌∙◌, inl, inr, arith, append_assoc, append-nil, drop-drop}
use Rattle.std.proofs.lemmas.Bool.Decides.{nat_tests}
use Rattle.std.proofs.lemmas.List.{drop_all}
use borrow.Rule.Slice.PartMut.{put_mid}
use Rattle.vm_memory_base.specs.Table.{Table}
use Rattle.vm_memory_base.specs.declared.iotlb.Permissions.{Permissions}
use Rattle.vm_memory_guest.specs.Access.{AccessFault, access_of}
use Rattle.vm_memory_guest.specs.Answer.{Reach, Outcome, filled_buffer, told}
use Rattle.vm_memory_guest.specs.Error.{error_of}
use Rattle.vm_memory_guest.specs.Host.{Host, bytes_at}
use Rattle.vm_memory_guest.specs.Memory.{Memory, route}
use Rattle.vm_memory_guest.specs.Transfer.{all_of, ended}
use Rattle.vm_memory_guest.specs.Typed.{answered, given, first_aligned, place_of}
use Rattle.vm_memory_guest.specs.Walk.{reached, GivesAccess, NeedsPieces, RefusesAccess, WantsMemory}
use Rattle.vm_memory_guest.specs.Window.{Window, Writes, cells, cells_of, span}
use Rattle.vm_memory_guest.specs.declared.region.error.GuestMemoryError.{GuestMemoryError}
use Rattle.vm_memory_guest.specs.declared.region.error.GuestMemoryError.TheVariants as errors
use Rattle.vm_memory_guest.proofs.AccessLemmas.{Gave, Wrote, Filled, accessed-refused, wrote_more, filled-more}
use Rattle.vm_memory_guest.proofs.HostLemmas.{span-one}
use Rattle.vm_memory_guest.proofs.MarkLaws.{Writes-take}
use Rattle.vm_memory_guest.proofs.WrittenLaws.{length-cells}

-- the window that serves a load or a store is one of those that are reached
chosen-held : (P : Window → Type 0) (b : Bool) (w v : Window) (e : GuestMemoryError) → P w
    → cond b (Ok w) (Err e) ≡ Ok v → P v
chosen-held P true w v e h is = let same : w ≡ v = cc in subst P same h
chosen-held P false w v e h is = absurd (cc)

pub first-held : (P : Window → Type 0) (size : ℕ) (ws : List Window) (fault : Option GuestMemoryError) (v : Window)
    → Ok v ≡ first_aligned size ws fault → AllByRecursion P ws → P v
first-held P size [] None v is each = absurd (cc)
first-held P size [] (Some e) v is each = absurd (cc)
first-held P size (w ∷ ws) fault v is each =
    chosen-held P (w.size == size && w.offset % size == 0) w v errors.InvalidBackendAddress each.0 (sym is)

module _ (memory : Memory) (tables : List Table) (a n : ℕ) (access : Permissions) where
  -- a load or a store that is refused changes nothing, and tells why
  pub typed-refused : {T : Type 0} (f : Window → T) (unchanged : Type 0) (Effect : List Window → Type 0)
      (e : GuestMemoryError) → (WantsMemory memory tables a n access e ⊎ RefusesAccess memory tables a n access e)
      → unchanged
      → Effect [] → let w = place_of n (access_of memory.regions (route memory tables) a n access) in
      Outcome errors.Memory (NeedsPieces memory tables a n access) (answered f w) unchanged (Effect (given w)) (Err e)
  typed-refused {T} f unchanged Effect e why kept done = elim why [
    | inl wanted ↦ inl (wanted.0, wanted.1, kept)
    | inr refused ↦
        let w = place_of n (access_of memory.regions (route memory tables) a n access) in
        let is : w ≡ Err e = ap (λ (r : Reach GuestMemoryError). first_aligned n r.windows r.fault)
        (accessed-refused memory tables a n access e refused) in
        let told_is : Err e ≡ answered f w = ap (answered f) (sym is) in
        inr (told_is, subst (λ (v : Result Window GuestMemoryError). Effect (given v)) (sym is) done)
  ]

-- a value is written so far: the bytes after those that are written come next
pub wrote_next : {B : Type 0}
    (marks : B → ℕ → ℕ → B → Type 0) {start left next : Reach AccessFault} {w : Window} {bytes : List ℕ}
    {old mid : Host B} {total : ℕ} → Wrote marks start left bytes old mid total → Gave left next w → (new : Host B)
    (len : ℕ) → len ≡ w.size → span start.windows ≤ length bytes → Writes marks (w ∷ []) (drop total bytes) mid new
    → Wrote marks start next bytes old new (total + len)
wrote_next marks {start} {left} {next} {w} {bytes} {old} {mid} {total} wrote gives new len len_is fits writes =
    let long : span (w ∷ []) ≡ total + len - total = let one = span-one w in omega arith in
    wrote_more marks wrote gives new len len_is fits
    (subst (λ (k : ℕ). Writes marks (w ∷ []) (take k (drop total bytes)) mid new) long
    (Writes-take marks (w ∷ []) (drop total bytes) mid new writes))

-- a value is read so far: the next window's bytes come after those that are read
pub filled_next : {start left next : Reach AccessFault} {w : Window} {blocks : List
    (List ℕ)} {old mid : List ℕ} {total : ℕ} → Filled start left blocks old mid total → Gave left next w
    → (new bytes : List ℕ) (len : ℕ) → len ≡ w.size → length bytes ≡ w.size → bytes ≡ bytes_at blocks (cells_of w)
    → new ≡ take total mid ++ bytes ++ drop (total + length bytes) mid → Filled start next blocks old new (total + len)
filled_next {start} {left} {next} {w} {blocks} {old} {mid} {total} so_far gives new bytes len len_is count is put =
    let long : length bytes ≡ total + len - total = omega arith in
    let same : put_mid total (total + len - total) mid bytes ≡ new =
    rw (← long, drop-drop (length bytes) total mid)
    (sym (append_assoc (take total mid) bytes (drop (total + length bytes) mid)) ∙ sym put) in
    subst (λ (now : List ℕ). Filled start next blocks old now (total + len)) same
    (filled-more so_far gives bytes len len_is is)

module _ (memory : Memory) (tables : List Table) (a n : ℕ) (access : Permissions) where
  -- an access of a value that is refused changes nothing, and tells why
  pub value-refused : {T : Type 0} (expected : Reach GuestMemoryError → Result T GuestMemoryError) (unchanged : Type 0)
      (Effect : List Window → Type 0) (e : GuestMemoryError)
      → (WantsMemory memory tables a n access e ⊎ RefusesAccess memory tables a n access e)
      → expected (record { windows = []; fault = Some e }) ≡ Err e → unchanged → Effect []
      → let x = told error_of (reached memory tables a n access) in
      Outcome errors.Memory (NeedsPieces memory tables a n access) (expected x) unchanged (Effect x.windows) (Err e)
  value-refused {T} expected unchanged Effect e why tells kept done = elim why [
    | inl wanted ↦ inl (wanted.0, wanted.1, kept)
    | inr refused ↦
        let x = told error_of (reached memory tables a n access) in
        let is : x ≡ record { windows = []; fault = Some e } = accessed-refused memory tables a n access e refused in
        inr (sym (ap expected is ∙ tells), subst (λ (r : Reach GuestMemoryError). Effect r.windows) (sym is) done)
  ]

-- a whole value is reached
pub record Whole (k : ℕ) (fault : Option GuestMemoryError) (n : ℕ) : Type 0 where
  pub all : k ≡ n
  pub is : all_of errors.PartialBuffer n (ended k fault) ≡ Ok tt

pub whole-reached : (k : ℕ) (fault : Option GuestMemoryError) (completed n : ℕ) → Ok completed ≡ ended k fault
    → completed ≡ n → Whole k fault n
whole-reached k None completed n is all =
    let same : k ≡ n = let e : completed ≡ k = cc in omega arith in
    record { all = same; is = rw same (grind (arith, nat_tests)) }
whole-reached k (Some e) completed n is all =
    let same : k ≡ n = grind (arith, nat_tests) in
    record { all = same; is = rw same (grind (arith, nat_tests)) }

-- a buffer that is filled whole has the bytes in the cells
filled-whole : (blocks : List (List ℕ)) (ws : List Window) (old : List ℕ) → span ws ≡ length old
    → filled_buffer blocks (cells ws) old ≡ bytes_at blocks (cells ws)
filled-whole blocks ws old all =
    let count = length-cells ws in
    let none : drop (length (cells ws)) old ≡ [] = drop_all (length (cells ws)) old (omega arith) in
    ap (λ (bs : List ℕ). bytes_at blocks (cells ws) ++ bs) none ∙ append-nil (bytes_at blocks (cells ws))

-- a value that is read whole is the value of the bytes
pub value-read : {V : Type 0} (memory : Memory) (tables : List Table) (a n : ℕ) (access : Permissions)
    (walk : Reach AccessFault) → GivesAccess memory tables a n access walk
    → (blocks : List (List ℕ)) (value : V) (value_of : List ℕ → V) (old bytes : List ℕ) (completed : ℕ)
    → Ok completed ≡ ended (span walk.windows) (option_map error_of walk.fault) → completed ≡ n → length old ≡ n
    → bytes ≡ filled_buffer blocks (cells walk.windows) old → value_of bytes ≡ value
    → let x = told error_of (reached memory tables a n access) in
    Ok value ≡ answered (λ done. value_of (bytes_at blocks (cells x.windows)))
    (all_of errors.PartialBuffer n (ended (span x.windows) x.fault))
value-read {V} memory tables a n access walk gives blocks value value_of old bytes completed is all long put same =
    let whole = whole-reached (span walk.windows) (option_map error_of walk.fault) completed n is all in
    let here : bytes ≡ bytes_at blocks (cells walk.windows) =
    put ∙ filled-whole blocks walk.windows old (whole.all ∙ sym long) in
    let told_is : Ok value ≡ answered (λ (done : Unit {0}). value_of (bytes_at blocks (cells walk.windows)))
    (all_of errors.PartialBuffer n (ended (span walk.windows) (option_map error_of walk.fault))) =
    rw whole.is (ap (λ (v : V). Ok v) (sym same ∙ ap value_of here)) in
    subst (λ (r : Reach AccessFault). Ok value
    ≡ answered (λ (done : Unit {0}). value_of (bytes_at blocks (cells r.windows)))
    (all_of errors.PartialBuffer n (ended (span r.windows) (option_map error_of r.fault)))) gives.1 told_is

-- what was completed is what was expected
pub completed-whole : (completed expected : ℕ) (u : Unit {0})
    → Ok u ≡ (if completed == expected then Ok tt else Err (errors.PartialBuffer expected completed))
    → completed ≡ expected
completed-whole completed expected u is = grind (arith, nat_tests)
