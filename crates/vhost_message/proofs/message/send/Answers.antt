use Rattle.std.proofs.Common.{◌≡◌, ◌-◌, ◌<◌, ◌≤◌, ℕ, List, [], ap, arith, drop, length, length-drop, subst, sym, take}
use Rattle.std.proofs.lemmas.List.{take_all}
use Rattle.std.proofs.KnownBytes.{Appends-kept}
use Rattle.std.specs.Io.KnownBytes.{Appends}
use Rattle.vm_memory_base.proofs.KnownBytesJoined.{appends_next}
use Rattle.vhost_message.proofs.message.send.Goals as goal
use Rattle.vhost_message.proofs.message.send.Goals.{in-Err, in-Ok}

some_bytes : (bytes : List ℕ) → 0 < length bytes → bytes ≡ [] → ⊥
some_bytes bytes some none =
    let e : length bytes ≡ 0 = ap (λ (xs : List ℕ). length xs) none in absurd (omega (arith, some, e))

pub loop-preserved : goal.loop-preserved
loop-preserved g c =
    let i = c.loop.at in
    let bytes = c.args.bytes.now in
    let a = g.W.Write.contents c.args.writer.now in
    let b = g.W.Write.contents c.loop.writer in
    let d = g.W.Write.contents c.write.new.self in
    let was = c.loop.invariant in
    elim c.match-write.branch [
      | in-Ok w ↦
          let left = length-drop i bytes in
          let whole : take (length bytes - i) (drop i bytes) ≡ drop i bytes =
          take_all (length bytes - i) (drop i bytes) (omega arith) in
          let fits = subst (λ (xs : List ℕ). w.in-Ok.count ≤ length xs) whole w.in-Ok.ensures.bound in
          let is = w.at-is in
          record {
            some = was.some;
            within = let within = was.within in omega arith;
            appended = subst (λ (k : ℕ). Appends a d (take k bytes)) (sym w.at-is)
                (appends_next a b d bytes i w.in-Ok.count was.appended
                (subst (λ (xs : List ℕ). Appends b d (take w.in-Ok.count xs)) whole w.in-Ok.ensures.bytes));
          }
      | in-Err w ↦ record {
        some = was.some;
        within = let within = was.within in let is = w.at-is in omega arith;
        appended = subst (λ (k : ℕ). Appends a d (take k bytes)) (sym w.at-is)
            (Appends-kept a b d (take i bytes) was.appended w.in-Err.ensures.bytes);
      }
    ]

pub returns : goal.returns
returns g c = let was = c.loop.invariant in (some_bytes c.args.bytes.now was.some, c.loop.at, was.appended)
