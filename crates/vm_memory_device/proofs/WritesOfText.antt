-- Writes to a text, access by access.
use Rattle.std.proofs.Common.{◌≡◌, ◌∙◌, ℕ, ◌+◌, ◌-◌, ◌≤◌, ◌^◌, List, [], ◌++◌, length, take, drop, Option, Result, refl, sym, ap, subst, arith, length-append}
use Rattle.std.specs.List.{All, flat_map}
use Rattle.std.specs.Option.{MatchOption}
use Rattle.std.proofs.lemmas.List.{map-append, length-map, length-take-le, take-take}
use Rattle.std.proofs.lemmas.List.Concat.{flat_map-append}
use Rattle.std.proofs.lemmas.List.Elements.{All-append, All-nil}
use Rattle.std.proofs.Math.Seq.{take-add}
use Rattle.vm_memory_base.specs.declared.iotlb.Permissions.TheVariants as permissions
use Rattle.vm_memory_base.proofs.TableLaws.{is_allowed-each}
use Rattle.vm_memory_guest.specs.Access.{Reached, windows}
use Rattle.vm_memory_guest.specs.Dirt.{path_cells, path_marks, window_marks}
use Rattle.vm_memory_guest.specs.Host.{Host}
use Rattle.vm_memory_guest.specs.Memory.{Memory, route}
use Rattle.vm_memory_guest.specs.Region.{IsRegion}
use Rattle.vm_memory_guest.specs.Window.{Window, Writes, cells, cells_of, span}
use Rattle.vm_memory_guest.specs.declared.region.error.GuestMemoryError.{GuestMemoryError}
use Rattle.vm_memory_guest.proofs.AccessLaws.{cells-access, follows-access}
use Rattle.vm_memory_guest.proofs.MarkLaws.{Writes-append, Writes-from_take, Writes-take, tables-Writes}
use Rattle.vm_memory_guest.proofs.PathLaws.{length-access}
use Rattle.vm_memory_guest.proofs.WrittenLaws.{length-cells}
use Rattle.vm_memory_device.specs.Chain.{AreWindowsOf, Entry, WritesText, text_windows}
use Rattle.vm_memory_device.specs.ChainText.{GoesOn, IsNext}
use Rattle.vm_memory_device.specs.Reach.{reached_by}
use Rattle.vm_memory_device.proofs.CallsOfText.{Accessed, CameTo, Ended, runs_here, turn}
use Rattle.vm_memory_device.proofs.CutsOfText.{text_windows-more, text_windows-none}

span-windows_of : (xs : List Reached) (ws : List Window) → AreWindowsOf xs ws → span ws ≡ length xs
span-windows_of xs ws are =
    sym (length-cells ws) ∙ ap length are.cells ∙ length-map xs (λ (x : Reached). x.cell)

windows_of_none : AreWindowsOf [] []
windows_of_none = record {
  cells = refl;
  marks = refl;
  fit = All-nil (λ (w : Window). w.bitmap.base + w.size ≤ 2 ^ 64);
}

-- windows of two paths, one after the other
windows_of-append : (xs ys : List Reached) (ws vs : List Window) → AreWindowsOf xs ws → AreWindowsOf ys vs
    → AreWindowsOf (xs ++ ys) (ws ++ vs)
windows_of-append xs ys ws vs front behind = record {
  cells = flat_map-append cells_of ws vs ∙ ap (λ cs. cs ++ cells vs) front.cells
      ∙ ap (λ cs. path_cells xs ++ cs) behind.cells ∙ sym (map-append (λ (x : Reached). x.cell) xs ys);
  marks = flat_map-append window_marks ws vs ∙ ap (λ ms. ms ++ flat_map window_marks vs) front.marks
      ∙ ap (λ ms. path_marks xs ++ ms) behind.marks ∙ sym (map-append (λ (x : Reached). (x.bitmap, x.mark)) xs ys);
  fit = All-append (λ (w : Window). w.bitmap.base + w.size ≤ 2 ^ 64) ws vs front.fit behind.fit;
}

module _ {B : Type 0} (marks : B → ℕ → ℕ → B → Type 0) (before : List Entry) (buffer : List ℕ) (old : Host B) where
  -- the front of the buffer went to a path, in the windows of one access a segment
  abbrev pub Wrote : Host B → List Reached → Type 0
  Wrote now xs = AreWindowsOf xs (text_windows before xs) × Writes marks (text_windows before xs) buffer old now

  pub wrote_none : Wrote old []
  wrote_none = rw (text_windows-none before) (windows_of_none, refl)

  pub tables_stay : (now : Host B) (xs : List Reached) → Wrote now xs → now.tables ≡ old.tables
  tables_stay now xs did = tables-Writes marks (text_windows before xs) buffer old now did.1

  pub writes_text : (m : Memory) (answer : Result ℕ GuestMemoryError) (left : List Entry) (new : Host B)
      → Ended m old.tables permissions.Write before (length buffer) (Wrote new) answer left
      → WritesText marks m before buffer old answer left new
  writes_text m answer left new (x, moves, (are, wrote)) = (x, moves, are, wrote)

  -- a part of the buffer goes after what was written before
  wrote_part : (now new : Host B) (xs ys : List Reached) (total n : ℕ) → Wrote now xs → length xs ≡ total
      → AreWindowsOf ys (windows ys) → text_windows before (xs ++ ys) ≡ text_windows before xs ++ windows ys
      → length ys ≤ n → total + n ≤ length buffer
      → Writes marks (windows ys) (take (total + n - total) (drop total buffer)) now new → Wrote new (xs ++ ys)
  wrote_part now new xs ys total n did count are cut short fits part =
      let ws = text_windows before xs in
      let both = windows_of-append xs ys ws (windows ys) did.0 are in
      let len : total + n - total ≡ n = omega arith in
      let span_is : span ws ≡ total = span-windows_of xs ws did.0 ∙ count in
      let first : Writes marks ws (take total buffer) old now =
      subst (λ k. Writes marks ws (take k buffer) old now) span_is (Writes-take marks ws buffer old now did.1) in
      let joined : Writes marks (ws ++ windows ys) (take (total + n) buffer) old new =
      subst (λ bs. Writes marks (ws ++ windows ys) bs old new)
      (ap (λ k. take total buffer ++ take k (drop total buffer)) len ∙ sym (take-add total n buffer))
      (Writes-append marks ws (windows ys) (take total buffer) (take (total + n - total) (drop total buffer)) old now
      new (length-take-le total buffer (omega arith) ∙ sym span_is) first part) in
      let within : span (ws ++ windows ys) ≤ total + n =
      omega (arith, span-windows_of (xs ++ ys) (ws ++ windows ys) both, length-append xs ys) in
      let whole : Writes marks (ws ++ windows ys) buffer old new =
      Writes-from_take marks (ws ++ windows ys) buffer old new
      (subst (λ bs. Writes marks (ws ++ windows ys) bs old new)
      (take-take (span (ws ++ windows ys)) (total + n) buffer within)
      (Writes-take marks (ws ++ windows ys) (take (total + n) buffer) old new joined)) in
      subst (λ vs. AreWindowsOf (xs ++ ys) vs × Writes marks vs buffer old new) (sym cut) (both, whole)

  -- a write goes on after the next access, or ends there
  pub write_turn : (m : Memory) (each : All IsRegion m.regions) (now : Host B) {total : ℕ} {at : List Entry}
      (c : CameTo m old.tables permissions.Write before (length buffer) (Wrote now) total at)
      → (a n : ℕ) → IsNext a n (length buffer - total) at
      → (new : Host B) (moved : Result ℕ GuestMemoryError) (answer : Option (Result ℕ GuestMemoryError)) (sum : ℕ)
      (left : List Entry)
      → let p = (reached_by m now.tables a n permissions.Write).path in
      Accessed m now.tables permissions.Write a n (new ≡ now)
      (Writes marks (windows p) (take (total + n - total) (drop total buffer)) now new) moved
      → GoesOn n moved total at answer sum left
      → MatchOption answer
      (CameTo m old.tables permissions.Write before (length buffer) (Wrote new) sum left)
      (λ r. Ended m old.tables permissions.Write before (length buffer) (Wrote new) r left)
  write_turn m each now {total} {at} c a n next new moved answer sum left outcome goes =
      let way = route m old.tables in
      let part = take (total + n - total) (drop total buffer) in
      let p = (reached_by m old.tables a n permissions.Write).path in
      let here = subst (λ ts. Accessed m ts permissions.Write a n (new ≡ now)
      (Writes marks (windows (reached_by m ts a n permissions.Write).path) part now new) moved)
      (tables_stay now c.reached c.did) outcome in
      let follows = follows-access m.regions each a n is_allowed-each way permissions.Write in
      let short = length-access m.regions way a n permissions.Write in
      let within = c.within in
      let fits : total + n ≤ length buffer = omega (arith, next.fits) in
      turn m old.tables permissions.Write before (length buffer) c (Wrote new) a n next (new ≡ now)
      (Writes marks (windows p) part now new) moved answer sum left here goes
      (λ same. subst (λ k. Wrote k c.reached) (sym same) c.did)
      (wrote_part now new c.reached p total n c.did c.so_far.count
      (record {
        cells = cells-access m.regions each a n way permissions.Write;
        marks = sym follows.same;
        fit = follows.fit;
      })
      (text_windows-more m.regions way permissions.Write (length buffer) before total c.reached p a n c.so_far
      (runs_here m old.tables permissions.Write before (length buffer) c (Wrote new) a n next) short fits) short fits)
