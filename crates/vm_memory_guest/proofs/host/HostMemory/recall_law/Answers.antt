use Rattle.std.proofs.Common.{◌≡◌, ℕ, List, [], length, map, get_or, ap, inl, inr, arith}
use Rattle.std.proofs.lemmas.Bool.{cases_lt}
use Rattle.std.proofs.lemmas.List.{length-map, get_or-map, get_or_past}
use Rattle.vm_memory_guest.specs.Host.{block_at}
use Rattle.vm_memory_guest.proofs.host.HostMemory.recall_law.Goals as goal

pub returns : goal.returns
returns g c = λ block.
    let blocks = c.args.self.now.blocks in
    elim (cases_lt block (length blocks)) [
      | inl within ↦
          (let count : length (map (λ (b : List ℕ). length b) blocks) ≡ length blocks = length-map blocks _ in
          let sized = c.shape-shape.ensures.sized block 0 (omega arith) in
          let is : get_or (map (λ (b : List ℕ). length b) blocks) block 0 ≡ length (block_at blocks block) =
          get_or-map (λ (b : List ℕ). length b) blocks block [] 0 within in
          omega (arith, sized, is))
      | inr past ↦
          (let is : block_at blocks block ≡ [] = get_or_past blocks block [] past in
          let none : length (block_at blocks block) ≡ 0 = ap (λ (b : List ℕ). length b) is in
          omega (arith, none))
    ]
