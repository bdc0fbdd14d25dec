-- The rules of the fields, and what a line says after the lines before it.
use Rattle.std.specs.Prelude.{ℕ, ◌-◌, min, Bool, true, cond, List, [], length, Some, None, Ok, Err, Option, Result, ◌==◌, nat_lt, slice_index_or}
use Rattle.std.specs.Option.{option_map}
use Rattle.batch.specs.declared.records.OrderLine.{OrderLine}
use Rattle.batch.specs.declared.records.OrderLine.TheVariants as line
use Rattle.batch.specs.declared.items.Kind.{Kind}
use Rattle.batch.specs.declared.items.Kind.TheVariants.{Take, Join, Set, Raise, Need, Write}
use Rattle.batch.specs.declared.items.Mark.{Mark}
use Rattle.batch.specs.declared.items.Mark.TheVariants.{Begin, Opening, House, Posting, Order, Run}
use Rattle.batch.specs.declared.items.Item.{Item}
use Rattle.batch.specs.declared.items.Item.TheVariants.{Begins, Opened, Kept, Posts, Orders, Runs}
use Rattle.batch.specs.declared.items.Fault.{Fault}
use Rattle.batch.specs.declared.items.Fault.TheVariants.{Form, Place, Field, Room}
use Rattle.batch.specs.declared.progress.Progress.{Progress}
use Rattle.batch.specs.declared.progress.Sizes.{Sizes}
use Rattle.batch.specs.Fields.{natural, cents, nonzero}
use Rattle.batch.specs.Marks.{mark_in, field_count, stands}

-- what field k says, or a fault there
abbrev pub ask : {X : Type 0} → ℕ → Option X → (X → Result Item Fault) → Result Item Fault
ask k None next = Err (Field k)
ask k (Some x) next = next x

-- B,houses,workers,patience
abbrev pub begins : List ℕ → List ℕ → List ℕ → Result Item Fault
begins a b c =
    ask 2 (natural 1 16 a) (λ houses. ask 3 (natural 1 8 b) (λ workers. ask 4 (natural 1 1000 c) (λ patience.
    Ok (Begins record { houses = houses; workers = workers; patience = patience }))))

-- O,account,cents with accounts rising
abbrev pub opens : Progress → List ℕ → List ℕ → Result Item Fault
opens s a b =
    ask 2 (natural s.account 63 a) (λ account. ask 3 (nonzero (cents b)) (λ v.
    Ok (Opened record { account = account; cents = v })))

-- a worker of the first line's
abbrev pub worker_in : Progress → List ℕ → Option ℕ
worker_in s a = natural 0 (s.workers - 1) a

-- H,house,keeper with the houses in order
abbrev pub keeps : Progress → List ℕ → List ℕ → Result Item Fault
keeps s a b =
    ask 2 (natural s.seen (min s.seen (s.houses - 1)) a) (λ house. ask 3 (worker_in s b) (λ keeper.
    Ok (Kept keeper)))

-- T,account U,account S,cents A,cents N,cents W,account

abbrev pub account_in : List ℕ → Option ℕ
account_in a = natural 0 63 a

abbrev pub order_in : Kind → List ℕ → Option OrderLine
order_in Take a = option_map line.Take (account_in a)
order_in Join a = option_map line.Join (account_in a)
order_in Set a = option_map line.Set (cents a)
order_in Raise a = option_map line.Raise (cents a)
order_in Need a = option_map line.Need (cents a)
order_in Write a = option_map line.Write (account_in a)

abbrev pub orders : Kind → List ℕ → Result Item Fault
orders k a = ask 2 (order_in k a) (λ o. Ok (Orders o))

-- G,worker,count
abbrev pub runs : Progress → List ℕ → List ℕ → Result Item Fault
runs s a b =
    ask 2 (worker_in s a) (λ worker. ask 3 (natural 1 10000 b) (λ count.
    Ok (Runs record { worker = worker; count = count })))

-- the rule of a line's fields after its mark, leftmost first
abbrev pub said_by : Progress → Mark → List ℕ → List ℕ → List ℕ → Result Item Fault
said_by s Begin a b c = begins a b c
said_by s Opening a b c = opens s a b
said_by s House a b c = keeps s a b
said_by s Posting a b c = Ok Posts
said_by s (Order k) a b c = orders k a
said_by s Run a b c = runs s a b

-- is there room for it in its table
abbrev pub room_for : Sizes → Progress → Item → Bool
room_for t s (Begins h) = true
room_for t s (Opened o) = true
room_for t s (Kept k) = true
room_for t s Posts = nat_lt s.postings t.postings
room_for t s (Orders o) = nat_lt s.orders t.orders
room_for t s (Runs r) = nat_lt s.runs t.runs

abbrev pub seated : Sizes → Progress → Result Item Fault → Result Item Fault
seated t s (Err f) = Err f
seated t s (Ok i) = cond (room_for t s i) (Ok i) (Err Room)

-- the tests of a line, one after the other: its form, its place, its fields, room
abbrev pub tested : Sizes → Progress → ℕ → Option Mark → List ℕ → List ℕ → List ℕ → Result Item Fault
tested t s n None a b c = Err Form
tested t s n (Some m) a b c = cond (n == field_count m) (cond (stands s m) (seated t s (said_by s m a b c)) (Err Place)) (Err Form)

-- what a line says, by its fields
abbrev pub judged : Sizes → Progress → List (List ℕ) → Result Item Fault
judged t s fs = tested t s (length fs) (mark_in (slice_index_or fs 0 [])) (slice_index_or fs 1 []) (slice_index_or fs 2 []) (slice_index_or fs 3 [])
