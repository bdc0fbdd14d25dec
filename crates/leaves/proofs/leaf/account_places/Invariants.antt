use Rattle.std.proofs.Common.{◌≡◌, take}
use Rattle.leaves.proofs.LeafBytes.{filled}
use Rattle.leaves.proofs.leaf.account_places.Given as goal

-- the accounts so far, and then zeros
abbrev pub invariant-loop-j : goal.invariant-loop-j
invariant-loop-j l = l.places ≡ filled (λ pair. pair.account) 0 (take l.j l.pairs)
