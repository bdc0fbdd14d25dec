-- When a posting calls for help: at the failed round of its keeper whose count is the patience, and at no other turn.
use Rattle.std.specs.Prelude.{◌≡◌, ℕ, ◌+◌, Bool, ◌&&◌, ◌||◌, List, [], ◌∷◌, ◌++◌, ◌==◌, ◌≢◌}
use Rattle.posting.specs.Sources.{Meaning}
use Rattle.protocol.specs.Counting.{one}
use Rattle.protocol.specs.State.{State}
use Rattle.protocol.specs.Rules.{Answer, kind_of, house_of, number_of}
use Rattle.protocol.specs.Turn.{turn, after_turns}
use Rattle.protocol.specs.Calls.{turns_taken}
use Rattle.protocol.specs.Promises.{OfEveryOffice}

-- a turn of worker w that answers a is a failed round on posting n of house h (kind 6 or 7: its draft is dropped), and w keeps the house
abbrev pub keeper_fails : State → ℕ → Answer → ℕ → ℕ → Bool
keeper_fails s w a h n =
    (kind_of a == 6 || kind_of a == 7) && (s.keeper h == w && (house_of a == h && number_of a == n))

-- how many of the turns of these workers are so, each taken after the earlier ones
unfoldable pub failures : Meaning → State → List ℕ → ℕ → ℕ → ℕ
failures m s [] h n = 0
failures m s (w ∷ ws) h n = one (keeper_fails s w (turn m s w).answer h n) + failures m (turn m s w).state ws h n

-- a turn of worker w answers a, after the turns `before` since the opening s
pub record CallsAtPatience (m : Meaning) (s : State) (before : List ℕ) (w : ℕ) (a : Answer) : Type 0 where
  -- if the posting calls for help, w keeps its house, and this failed round makes as many as the patience
  pub only_then : kind_of a ≡ 7 → (s.keeper (house_of a) ≡ w) × (failures m s before (house_of a) (number_of a) + 1 ≡ s.patience)
  -- and a keeper's failed round that makes as many as the patience is not without a call
  pub always_then : kind_of a ≡ 6 → s.keeper (house_of a) ≡ w → failures m s before (house_of a) (number_of a) + 1 ≢ s.patience

-- of every turn that the calls take, inside a run as well
abbrev pub AlwaysCallsAtPatience : Type 0
AlwaysCallsAtPatience =
    OfEveryOffice (λ m s cs. (before : List ℕ) (w : ℕ) (later : List ℕ) → turns_taken s.workers cs ≡ before ++ (w ∷ later)
    → CallsAtPatience m s before w (turn m (after_turns m s before) w).answer)
