use Rattle.std.proofs.Common.{◌≡◌, take, replicate}
use Rattle.leaves.specs.Leaf.{signed_bytes}
use Rattle.leaves.proofs.LeafBytes.{filled}
use Rattle.leaves.proofs.leaf.value_places.Given as goal

-- the values so far, and then zeros
abbrev pub invariant-loop-j : goal.invariant-loop-j
invariant-loop-j l = l.places ≡ filled (λ pair. signed_bytes pair.value) (replicate 8 0) (take l.j l.pairs)
