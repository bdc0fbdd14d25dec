-- What a plan says, and what accepted lines put into it.
use Rattle.std.specs.Prelude.{ℕ, cond, List, [], ◌∷◌, replicate, ℤ, pos, Some, None, Ok, Err, Option, Result, nat_lt, slice_index, slice_set}
use Rattle.batch.specs.declared.items.Item.{Item}
use Rattle.batch.specs.declared.items.Item.TheVariants.{Begins, Opened, Kept, Posts, Orders, Runs}
use Rattle.batch.specs.declared.items.BatchRefusal.{BatchRefusal}
use Rattle.batch.specs.declared.plan.Plan.{Plan}
use Rattle.batch.specs.Tables.{seen_in}

pub record Terms : Type 0 where
  pub houses : ℕ
  pub workers : ℕ
  pub patience : ℕ
  pub keepers : List ℕ
  pub openings : List ℤ

-- what a plan says
abbrev pub terms : Plan → Terms
terms p = record { houses = p.houses; workers = p.workers; patience = p.patience; keepers = p.keepers; openings = p.openings }

-- keepers and opening values not told yet are 0
abbrev pub fresh : ℕ → ℕ → ℕ → Terms
fresh h w p = record { houses = h; workers = w; patience = p; keepers = replicate 16 0; openings = replicate 64 (pos 0) }

-- 1 house, 1 worker, patience 1 and zeros
abbrev pub blank : Terms
blank = fresh 1 1 1

abbrev pub keeper_of : Terms → ℕ → Option ℕ
keeper_of p house = cond (nat_lt house p.houses) (Some (slice_index p.keepers house)) None

-- one more line, after this many houses
abbrev pub noted : Terms → ℕ → Item → Terms
noted p seen (Begins h) = fresh h.houses h.workers h.patience
noted p seen (Opened o) =
    record { houses = p.houses; workers = p.workers; patience = p.patience; keepers = p.keepers; openings = slice_set p.openings o.account o.cents }
noted p seen (Kept k) =
    record { houses = p.houses; workers = p.workers; patience = p.patience; keepers = slice_set p.keepers seen k; openings = p.openings }
noted p seen Posts = p
noted p seen (Orders o) = p
noted p seen (Runs r) = p

-- the plan of accepted lines, the latest first
abbrev pub planned : List Item → Terms
planned [] = blank
planned (i ∷ past) = noted (planned past) (seen_in past) i

-- an accepted batch sets the plan anew, a refused one leaves it as it was
abbrev pub plan_after : Terms → Result (List Item) BatchRefusal → Terms
plan_after old (Ok past) = planned past
plan_after old (Err e) = old
