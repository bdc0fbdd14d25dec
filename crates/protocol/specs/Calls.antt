-- The calls of an office: what each answers and leaves, and what a list of calls does.
use Rattle.std.specs.Prelude.{ℕ, ◌+◌, ◌-◌, Bool, true, false, cond, ◌&&◌, List, [], ◌∷◌, ◌++◌, length, replicate, ℤ, Some, None, Ok, Err, Option, Result, nat_le, nat_lt}
use Rattle.std.specs.List.{slice_get}
use Rattle.batch.specs.Plans.{Terms}
use Rattle.batch.specs.declared.records.Run.{Run}
use Rattle.journal.specs.Balances.{balanced}
use Rattle.journal.specs.Entries.{Posted}
use Rattle.journal.specs.Lines.{entry_line}
use Rattle.journal.specs.declared.balances.BalanceRefusal.{BalanceRefusal}
use Rattle.journal.specs.declared.lines.LineRefusal.{LineRefusal}
use Rattle.journal.specs.declared.lines.LineRefusal.TheVariants.{NoSuchEntry, DoesNotFit}
use Rattle.posting.specs.Sources.{Meaning}
use Rattle.protocol.specs.State.{House, State}
use Rattle.protocol.specs.Serving.{house_is_open}
use Rattle.protocol.specs.Rules.{Answer}
use Rattle.protocol.specs.Turn.{turn, after_turns}
use Rattle.protocol.specs.Opening.{opening_answer, opening_leaves}
use Rattle.protocol.specs.declared.refusals.OpeningRefusal.{OpeningRefusal}
use Rattle.protocol.specs.declared.refusals.TurnRefusal.{TurnRefusal}
use Rattle.protocol.specs.declared.refusals.TurnRefusal.TheVariants as turn_refusal
use Rattle.protocol.specs.declared.refusals.RunRefusal.{RunRefusal}
use Rattle.protocol.specs.declared.refusals.RunRefusal.TheVariants as run_refusal
use Rattle.protocol.specs.declared.refusals.HouseRefusal.{HouseRefusal}
use Rattle.protocol.specs.declared.refusals.HouseRefusal.TheVariants as house_refusal
use Rattle.protocol.specs.declared.told.HouseTold.{HouseTold}
use Rattle.protocol.specs.declared.told.RunTold.{RunTold}

-- the numbers of the refusals

abbrev pub turn_number : TurnRefusal → ℕ
turn_number turn_refusal.NoSuchWorker = 31

abbrev pub run_number : RunRefusal → ℕ
run_number run_refusal.TooManyItems = 33
run_number (run_refusal.NoSuchWorker item) = 31
run_number (run_refusal.BadCount item) = 32

-- the item that is refused, counted from 0; 0 where it is the list as a whole
abbrev pub run_item : RunRefusal → ℕ
run_item run_refusal.TooManyItems = 0
run_item (run_refusal.NoSuchWorker item) = item
run_item (run_refusal.BadCount item) = item

abbrev pub house_number : HouseRefusal → ℕ
house_number house_refusal.NoSuchHouse = 43

-- a turn of worker w

abbrev pub turn_answer : Meaning → State → ℕ → Result Answer TurnRefusal
turn_answer m s w = cond (nat_lt w s.workers) (Ok (turn m s w).answer) (Err turn_refusal.NoSuchWorker)

abbrev pub turn_leaves : Meaning → State → ℕ → State
turn_leaves m s w = cond (nat_lt w s.workers) (turn m s w).state s

-- a run of turns: each item gives a worker so many turns

-- the first refused item of a list, whose first item counts as k
abbrev pub refused_item : ℕ → ℕ → List Run → Option RunRefusal
refused_item workers k [] = None
refused_item workers k (r ∷ rs) =
    cond (nat_lt r.worker workers)
    (cond (nat_le 1 r.count && nat_le r.count 10000) (refused_item workers (k + 1) rs) (Some (run_refusal.BadCount k)))
    (Some (run_refusal.NoSuchWorker k))

abbrev pub run_refused : ℕ → List Run → Option RunRefusal
run_refused workers rs = cond (nat_le (length rs) 4096) (refused_item workers 0 rs) (Some run_refusal.TooManyItems)

-- whose turns they are, one after the other
abbrev pub turns_of : List Run → List ℕ
turns_of [] = []
turns_of (r ∷ rs) = replicate r.count r.worker ++ turns_of rs

abbrev pub run_from : Meaning → State → List Run → Option RunRefusal → Result RunTold RunRefusal
run_from m s rs (Some e) = Err e
run_from m s rs None =
    Ok record { turns = length (turns_of rs); filed = length (after_turns m s (turns_of rs)).journal - length s.journal }

-- how many turns were taken and how many entries filed
abbrev pub run_answer : Meaning → State → List Run → Result RunTold RunRefusal
run_answer m s rs = run_from m s rs (run_refused s.workers rs)

-- the turns that a run takes: none if it is refused
abbrev pub run_turns : Option RunRefusal → List Run → List ℕ
run_turns (Some e) rs = []
run_turns None rs = turns_of rs

abbrev pub run_leaves : Meaning → State → List Run → State
run_leaves m s rs = after_turns m s (run_turns (run_refused s.workers rs) rs)

-- house enquiry: number, help date and failed count of an open house; zeros if it is closed

abbrev pub told_of : House → Bool → HouseTold
told_of y true = record { number = y.number; date = y.date; failed = y.failed }
told_of y false = record { number = 0; date = 0; failed = 0 }

abbrev pub house_answer : Meaning → State → ℕ → Result HouseTold HouseRefusal
house_answer m s h = cond (nat_lt h s.houses) (Ok (told_of (s.house h) (house_is_open m s h))) (Err house_refusal.NoSuchHouse)

-- the line of entry k, where there is room for so many bytes

abbrev pub line_in : ℕ → ℕ → Option Posted → Result (List ℕ) LineRefusal
line_in k room None = Err NoSuchEntry
line_in k room (Some e) = cond (nat_le (length (entry_line k e)) room) (Ok (entry_line k e)) (Err DoesNotFit)

abbrev pub line_answer : State → ℕ → ℕ → Result (List ℕ) LineRefusal
line_answer s k room = line_in k room (slice_get s.journal k)

-- a call: a turn of a worker, a run of turns, the balance of an account after k entries, an enquiry after a house, the line of
-- entry k for so many bytes, an opening with a plan
pub data Call : Type 0 where
  turns : ℕ → Call
  runs : List Run → Call
  balance : ℕ → ℕ → Call
  house : ℕ → Call
  line : ℕ → ℕ → Call
  opening : Terms → Call

-- what a call answers
pub data Reply : Type 0 where
  turned : Result Answer TurnRefusal → Reply
  ran : Result RunTold RunRefusal → Reply
  balance_told : Result ℤ BalanceRefusal → Reply
  house_told : Result HouseTold HouseRefusal → Reply
  line_told : Result (List ℕ) LineRefusal → Reply
  opening_told : Result (Unit {0}) OpeningRefusal → Reply

abbrev pub reply_to : Meaning → State → Call → Reply
reply_to m s (turns w) = turned (turn_answer m s w)
reply_to m s (runs rs) = ran (run_answer m s rs)
reply_to m s (balance a k) = balance_told (balanced s.journal s.openings a k)
reply_to m s (house h) = house_told (house_answer m s h)
reply_to m s (line k room) = line_told (line_answer s k room)
reply_to m s (opening p) = opening_told (opening_answer m p s)

-- the office after a call
abbrev pub after_call : Meaning → State → Call → State
after_call m s (turns w) = turn_leaves m s w
after_call m s (runs rs) = run_leaves m s rs
after_call m s (balance a k) = s
after_call m s (house h) = s
after_call m s (line k room) = s
after_call m s (opening p) = opening_leaves (opening_answer m p s) p s

-- the office after a list of calls, and what they answered

unfoldable pub after : Meaning → State → List Call → State
after m s [] = s
after m s (c ∷ cs) = after m (after_call m s c) cs

unfoldable pub replies : Meaning → State → List Call → List Reply
replies m s [] = []
replies m s (c ∷ cs) = reply_to m s c ∷ replies m (after_call m s c) cs

-- whose turns a call takes, in an office of so many workers

abbrev pub turns_in : ℕ → Call → List ℕ
turns_in workers (turns w) = cond (nat_lt w workers) (w ∷ []) []
turns_in workers (runs rs) = run_turns (run_refused workers rs) rs
turns_in workers (balance a k) = []
turns_in workers (house h) = []
turns_in workers (line k room) = []
turns_in workers (opening p) = []

-- and whose turns a list of calls takes, in their order
abbrev pub turns_taken : ℕ → List Call → List ℕ
turns_taken workers [] = []
turns_taken workers (c ∷ cs) = turns_in workers c ++ turns_taken workers cs

-- single turns, one call for each
abbrev pub each_turn : List ℕ → List Call
each_turn [] = []
each_turn (w ∷ ws) = turns w ∷ each_turn ws
