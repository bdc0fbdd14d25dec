-- A posting worked alone: line by line, on balances that nobody alters meanwhile.
use Rattle.std.specs.Prelude.{◌≡◌, ℕ, zero, suc, ◌+◌, ◌≤◌, Bool, true, false, List, [], ◌∷◌, ◌++◌, take, replicate, ℤ, pos, Some, None, Option, slice_index_or, slice_set}
use Rattle.std.specs.declared.ops.ControlFlow.{ControlFlow}
use Rattle.std.specs.declared.ops.ControlFlow.TheVariants.{Continue, Break}
use Rattle.journal.specs.Entries.{Posted, InRange, Lawful}
use Rattle.journal.specs.Balances.{balance_after}
use Rattle.journal.specs.declared.entry.Entry.{Entry}
use Rattle.journal.specs.declared.entry.Pair.{Pair}
use Rattle.posting.specs.Sources.{Meaning}
use Rattle.posting.specs.declared.balances.Balances.{Balances}
use Rattle.posting.specs.declared.order.Order.{Order}
use Rattle.posting.specs.declared.order.Order.TheVariants.{Read, Write, GoOn, Done, Void}
use Rattle.posting.specs.declared.sheet.Sheet.{Sheet}
use Rattle.posting.specs.declared.sheet.Ending.{Ending}
use Rattle.posting.specs.declared.sheet.Ending.TheVariants.{Closed, Voided}
use Rattle.posting.specs.declared.sheet.Draft.{Draft}

-- what a posting comes to: which accounts' balances it read (place a tells of account a), whether it is void,
-- the hand that it leaves, and the accounts that it gives values to, rising
pub record Outcome : Type 0 where
  pub reads : List Bool
  pub void : Bool
  pub hand : ℤ
  pub pairs : List Pair

-- a draft lists its first `count` pairs
abbrev pub listed : Draft → List Pair
listed d = take d.count d.pairs

abbrev pub outcome : Draft → Outcome
outcome d = record { reads = d.reads; void = d.void; hand = d.hand; pairs = listed d }

-- at first nothing is read or written
abbrev pub blank : ℤ → Sheet
blank hand = record { hand = hand; reads = replicate 64 false; written = replicate 64 None }

-- a read finds what this posting has written, or else the balance
abbrev pub sought : Option ℤ → ℤ → ℤ
sought (Some value) balance = value
sought None balance = balance

-- and a balance that was sought joins the reads
abbrev pub noted : Option ℤ → ℕ → Sheet → Sheet
noted (Some value) a s = s
noted None a s = record { hand = s.hand; reads = slice_set s.reads a true; written = s.written }

-- what the source makes of a value that was found
abbrev pub told : Option ℤ → Sheet → ControlFlow Ending (Unit {0}) × Sheet
told None s = (Break Voided, s)
told (Some hand) s = (Continue tt, record { hand = hand; reads = s.reads; written = s.written })

-- one order, where `found` tells the next hand for a value that is found
abbrev pub carried : Order → (ℤ → Option ℤ) → (ℕ → ℤ) → Sheet → ControlFlow Ending (Unit {0}) × Sheet
carried (Read a) found balance s =
    told (found (sought (slice_index_or s.written a None) (balance a))) (noted (slice_index_or s.written a None) a s)
carried (Write a value) found balance s =
    (Continue tt, record { hand = s.hand; reads = s.reads; written = slice_set s.written a (Some value) })
carried (GoOn hand) found balance s = (Continue tt, record { hand = hand; reads = s.reads; written = s.written })
carried Done found balance s = (Break Closed, s)
carried Void found balance s = (Break Voided, s)

-- one line of a posting
abbrev pub line_of : Meaning → ℕ → ℕ → (ℕ → ℤ) → ℕ → Sheet → ControlFlow Ending (Unit {0}) × Sheet
line_of m house number balance line s =
    carried (m.order house number line s.hand) (m.found house number line s.hand) balance s

-- the pair of account a, if it was written
abbrev pub pair_of : ℕ → Option ℤ → List Pair
pair_of a None = []
pair_of a (Some value) = record { account = a; value = value } ∷ []

-- the pairs of what was written, from account a on
unfoldable pub pairs_from : ℕ → List (Option ℤ) → List Pair
pairs_from a [] = []
pairs_from a (w ∷ ws) = pair_of a w ++ pairs_from (a + 1) ws

-- an end with the present hand and all that was written
abbrev pub closed : Sheet → Outcome
closed s = record { reads = s.reads; void = false; hand = s.hand; pairs = pairs_from 0 s.written }

-- a void end: the hand at the start, and nothing written
abbrev pub voided : ℤ → Sheet → Outcome
voided start s = record { reads = s.reads; void = true; hand = start; pairs = [] }

-- the end after a line, or what comes of the lines that follow
abbrev pub after : ℤ → (Sheet → Outcome) → ControlFlow Ending (Unit {0}) × Sheet → Outcome
after start rest (Continue u, s) = rest s
after start rest (Break Closed, s) = closed s
after start rest (Break Voided, s) = voided start s

-- with so many lines left, from this line on; with none left the posting ends
unfoldable pub worked : Meaning → ℕ → ℕ → (ℕ → ℤ) → ℤ → ℕ → ℕ → Sheet → Outcome
worked m house number balance start zero line s = closed s
worked m house number balance start (suc left) line s =
    after start (worked m house number balance start left (line + 1)) (line_of m house number balance line s)

-- a posting worked alone on balances, from the hand at its start
abbrev pub alone : Meaning → (ℕ → ℤ) → ℕ → ℕ → ℤ → Outcome
alone m balance house number start = worked m house number balance start m.longest 0 (blank start)

-- the balances after k entries: those of all entries, if there are fewer
abbrev pub balances_after : List Posted → List ℤ → ℕ → ℕ → ℤ
balances_after es openings k a = balance_after es (slice_index_or openings a (pos 0)) a k

-- the same of the balances of a reading, of which `entries` tells its list
abbrev pub balances_of : {R : Type 0} → (R → List Posted) → Balances R → ℕ → ℤ
balances_of entries b = balances_after (entries b.journal.now) b.openings.now b.k

-- the entry that a draft makes
abbrev pub entry_for : Draft → ℕ → ℕ → Entry
entry_for d house number = record { house = house; number = number; void = d.void; hand = d.hand; count = d.count; pairs = d.pairs }

-- what the entry of an outcome says
abbrev pub posted_for : Outcome → ℕ → ℕ → Posted
posted_for o house number = record { house = house; number = number; void = o.void; hand = o.hand; pairs = o.pairs }

-- account a is among the reads
abbrev pub Among : List Bool → ℕ → Type 0
Among reads a = slice_index_or reads a false ≡ true

-- a posting depends on the balances only at its reads
abbrev pub Local : Meaning → Type 0
Local m =
    (house number : ℕ) (start : ℤ) (these those : ℕ → ℤ)
    → ((a : ℕ) → Among (alone m these house number start).reads a → these a ≡ those a)
    → alone m these house number start ≡ alone m those house number start

-- whatever the balances, a posting worked alone makes a lawful entry for its house and number
abbrev pub Enterable : Meaning → Type 0
Enterable m =
    (house number : ℕ) (start : ℤ) (balance : ℕ → ℤ)
    → house ≤ 15 → 1 ≤ number → number ≤ 4096 → InRange start
    → Lawful (posted_for (alone m balance house number start) house number)
