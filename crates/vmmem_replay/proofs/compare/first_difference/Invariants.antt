use Rattle.std.proofs.Common.{◌≡◌, map, take}
use Rattle.vmmem_replay.proofs.compare.first_difference.Given as goal

-- the lines so far are the same
abbrev pub invariant-loop-place : goal.invariant-loop-place
invariant-loop-place l = take l.place (map (λ line. line.now) l.wanted) ≡ take l.place (map (λ line. line.now) l.came)
