-- A worked run of two workers for two houses, in which a posting calls for help, another posting is still filed before it, and the
-- worker that does not keep its house files it.
use Rattle.std.specs.Prelude.{◌≡◌, ◌-◌, List, [], ◌∷◌, pos, Ok}
use Rattle.batch.specs.Plans.{Terms}
use Rattle.posting.specs.Sources.{Meaning}
use Rattle.posting.specs.Standing.{standing}
use Rattle.posting.specs.declared.standing_order.StandingOrder.{StandingOrder}
use Rattle.protocol.specs.State.{State}
use Rattle.protocol.specs.Opening.{opened}
use Rattle.protocol.specs.Calls.{Call, turns, runs, Reply, ran, turned, replies}
use Rattle.protocol.specs.Promises.{OfEveryOffice, HelpWithin}

-- house 0 moves what account 3 has above 500 to account 5, twice; house 1 what it has above 100 to account 7, once
abbrev pub worked_orders : List StandingOrder
worked_orders = record { from = 3; to = 5; floor = pos 500; times = 2 } ∷ record { from = 3; to = 7; floor = pos 100; times = 1 } ∷ []

abbrev pub worked_source : Meaning
worked_source = standing worked_orders

-- worker 0 keeps house 0 and worker 1 house 1; one failed round is enough to call; account 3 opens with 1,000
abbrev pub worked_plan : Terms
worked_plan = record {
  houses = 2;
  workers = 2;
  patience = 1;
  keepers = 0 ∷ 1 ∷ [];
  openings = pos 0 ∷ pos 0 ∷ pos 0 ∷ pos 1000 ∷ [];
}

abbrev pub worked_office : State
worked_office = opened worked_plan [] 3

-- single turns, and then a run of turns
abbrev pub worked_calls : List Call
worked_calls =
    turns 1 ∷ turns 1 ∷ turns 0 ∷ turns 0 ∷ turns 0 ∷ turns 0 ∷ turns 0 ∷ turns 0 ∷ turns 1 ∷ turns 1
    ∷ runs (record { worker = 0; count = 7 } ∷ []) ∷ []

abbrev pub worked_replies : List Reply
worked_replies =
    -- worker 1 takes up posting 1 of house 1 and drafts it
    turned (Ok (1, 1, 1, 0)) ∷ turned (Ok (4, 1, 1, 0))
    -- worker 0 takes up, drafts, files and settles posting 1 of house 0, and drafts its posting 2
    ∷ turned (Ok (1, 0, 1, 0)) ∷ turned (Ok (4, 0, 1, 0)) ∷ turned (Ok (5, 0, 1, 0)) ∷ turned (Ok (8, 0, 1, 0))
    ∷ turned (Ok (1, 0, 2, 1)) ∷ turned (Ok (4, 0, 2, 1))
    -- worker 1 passes the entry, which makes its draft stale, and calls for help
    ∷ turned (Ok (2, 1, 1, 1)) ∷ turned (Ok (7, 1, 1, 1))
    -- worker 0 files and settles posting 2 of house 0, and then takes up, drafts and files posting 1 of house 1: 7 turns, 2 entries
    ∷ ran (Ok record { turns = 7; filed = 2 }) ∷ []

abbrev pub AWorkedRun : Type 0
AWorkedRun = replies worked_source worked_office worked_calls ≡ worked_replies

-- one entry of another posting was filed after the call, so that help cannot be promised with one less
abbrev pub HelpIsNoSooner : Type 0
HelpIsNoSooner = OfEveryOffice (λ m s cs. HelpWithin (s.houses - 2) m s cs) → ⊥
