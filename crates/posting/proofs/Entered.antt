-- Whatever the balances, a posting worked alone makes a lawful entry.
use Rattle.std.proofs.Common.{◌≡◌, ℕ, zero, suc, ◌+◌, ◌≤◌, true, ◌&&◌, leb, List, [], ◌∷◌, length, get_or, set, replicate, ℤ, Some, None, Option, refl, ◌∙◌, arith, length-set}
use Rattle.std.specs.declared.ops.ControlFlow.{ControlFlow}
use Rattle.std.specs.declared.ops.ControlFlow.TheVariants.{Continue, Break}
use Rattle.std.proofs.lemmas.Bool.{and_from, le-leb, false≢true}
use Rattle.journal.specs.Entries.{posted, InRange, in_range, fits, rises, lawful, is_entry, Lawful}
use Rattle.journal.specs.declared.entry.Pair.{Pair}
use Rattle.journal.proofs.Lawfulness.{rises_at, rises_rising, lawful_to}
use Rattle.posting.specs.Sources.{Meaning, OrderKept, HandKept, Limits}
use Rattle.posting.specs.Alone.{Outcome, sought, noted, told, carried, line_of, pairs_from, closed, voided, after, worked, blank, outcome, entry_for, posted_for, Enterable}
use Rattle.posting.specs.declared.order.Order.{Order}
use Rattle.posting.specs.declared.order.Order.TheVariants.{Read, Write, GoOn, Done, Void}
use Rattle.posting.specs.declared.sheet.Draft.{Draft}
use Rattle.posting.specs.declared.sheet.Sheet.{Sheet}
use Rattle.posting.specs.declared.sheet.Ending.{Ending}
use Rattle.posting.specs.declared.sheet.Ending.TheVariants.{Closed, Voided}
use Rattle.posting.proofs.Lines.{line_adds, blank_none}

-- every value that was written is in range
unfoldable ValuesKept : List (Option ℤ) → Type 0
ValuesKept [] = Unit {0}
ValuesKept (w ∷ ws) = HandKept w × ValuesKept ws

values_none : (n : ℕ) → ValuesKept (replicate n None)
unfolding ValuesKept
values_none zero = tt
values_none (suc n) = (tt, values_none n)

values_set : (ws : List (Option ℤ)) (i : ℕ) (value : ℤ) → InRange value → ValuesKept ws → ValuesKept (set ws i (Some value))
unfolding ValuesKept
values_set [] i value kept h = h
values_set (w ∷ ws) zero value kept h = (kept, h.1)
values_set (w ∷ ws) (suc i) value kept h = (h.0, values_set ws i value kept h.1)

-- values in range, written to the accounts from a to 63, make pairs that rise
rises_from : (least a : ℕ) (ws : List (Option ℤ)) → least ≤ a → a + length ws ≤ 64 → ValuesKept ws → rises least (pairs_from a ws) ≡ true
unfolding ValuesKept pairs_from
rises_from least a [] from to kept = refl
rises_from least a (None ∷ ws) from to kept = rises_from least (a + 1) ws (omega arith) (omega arith) kept.1
rises_from least a (Some value ∷ ws) from to kept =
    let p : Pair = record { account = a; value = value } in
    and_from (fits least p) (rises (a + 1) (pairs_from (a + 1) ws))
    (and_from (leb least a) (leb a 63 && in_range value) (le-leb _ _ from)
    (and_from (leb a 63) (in_range value) (le-leb _ _ (omega arith)) (le-leb _ _ kept.0)))
    (rises_from (a + 1) (a + 1) ws (omega arith) (omega arith) kept.1)

-- a sheet within the limits of a source
record Kept (s : Sheet) : Type 0 where
  hand : InRange s.hand
  values : ValuesKept s.written
  all : length s.written ≡ 64

told_kept : (hand : Option ℤ) (s : Sheet) → HandKept hand → Kept s → Kept (told hand s).1
told_kept None s h k = k
told_kept (Some hand) s h k = record { hand = h; values = k.values; all = k.all }

noted_kept : (w : Option ℤ) (a : ℕ) (s : Sheet) → Kept s → Kept (noted w a s)
noted_kept (Some value) a s k = k
noted_kept None a s k = record { hand = k.hand; values = k.values; all = k.all }

carried_kept : (o : Order) (found : ℤ → Option ℤ) (balance : ℕ → ℤ) (s : Sheet) → OrderKept o → ((value : ℤ) → HandKept (found value)) → Kept s → Kept (carried o found balance s).1
carried_kept (Read a) found balance s h hands k =
    let w = get_or s.written a None in
    told_kept (found (sought w (balance a))) (noted w a s) (hands (sought w (balance a))) (noted_kept w a s k)
carried_kept (Write a value) found balance s h hands k =
    record { hand = k.hand; values = values_set s.written a value h.1 k.values; all = length-set s.written a (Some value) ∙ k.all }
carried_kept (GoOn hand) found balance s h hands k = record { hand = h; values = k.values; all = k.all }
carried_kept Done found balance s h hands k = k
carried_kept Void found balance s h hands k = k

-- an outcome that makes an entry
record Sound (o : Outcome) : Type 0 where
  hand : InRange o.hand
  few : length o.pairs ≤ 16
  rising : rises 0 o.pairs ≡ true
  void : o.void ≡ true → o.pairs ≡ []

closed_sound : (s : Sheet) → Kept s → length (pairs_from 0 s.written) ≤ 16 → Sound (closed s)
closed_sound s k few = record {
  hand = k.hand;
  few = few;
  rising = rises_from 0 0 s.written (omega arith) (omega (arith, k.all)) k.values;
  void = λ e. absurd (false≢true e);
}

voided_sound : (start : ℤ) (s : Sheet) → InRange start → Sound (voided start s)
voided_sound start s h = record { hand = h; few = omega arith; rising = refl; void = λ e. refl }

after_sound :
    (start : ℤ) (rest : Sheet → Outcome) (left : ℕ) (p : ControlFlow Ending (Unit {0}) × Sheet) → InRange start → Kept p.1 → length (pairs_from 0 p.1.written) + left ≤ 16
    → ((t : Sheet) → Kept t → length (pairs_from 0 t.written) + left ≤ 16 → Sound (rest t)) → Sound (after start rest p)
after_sound start rest left (Continue u, t) h k few sound = sound t k few
after_sound start rest left (Break Closed, t) h k few sound = closed_sound t k (omega arith)
after_sound start rest left (Break Voided, t) h k few sound = voided_sound start t h

module _ (m : Meaning) (limits : Limits m) (house number : ℕ) (balance : ℕ → ℤ) (start : ℤ) (h : InRange start) where
  worked_sound : (left line : ℕ) (s : Sheet) → Kept s → length (pairs_from 0 s.written) + left ≤ 16 → Sound (worked m house number balance start left line s)
  unfolding worked
  worked_sound zero line s k few = closed_sound s k (omega arith)
  worked_sound (suc left) line s k few =
      let next = line_of m house number balance line s in
      let more = line_adds m house number balance line s next.1 next.0 refl in
      after_sound start (worked m house number balance start left (line + 1)) left next h
      (carried_kept (m.order house number line s.hand) (m.found house number line s.hand) balance s
      (limits.orders house number line s.hand) (limits.hands house number line s.hand) k)
      (omega arith)
      (λ t kept room. worked_sound left (line + 1) t kept room)

-- what is sound makes a lawful entry
sound_lawful : (o : Outcome) (house number : ℕ) → Sound o → house ≤ 15 → 1 ≤ number → number ≤ 4096 → Lawful (posted_for o house number)
sound_lawful o house number sound low first last = record {
  house = low;
  first = first;
  last = last;
  hand = sound.hand;
  few = sound.few;
  accounts = λ j l. (rises_at 0 o.pairs j sound.rising l).to;
  rising = λ i j lt l. rises_rising 0 o.pairs i j sound.rising lt l;
  values = λ j l. (rises_at 0 o.pairs j sound.rising l).value;
  void = sound.void;
}

pub always_enterable : (m : Meaning) → Limits m → Enterable m
always_enterable m limits house number start balance low first last h =
    let k : Kept (blank start) = record { hand = h; values = values_none 64; all = refl } in
    sound_lawful _ house number
    (worked_sound m limits house number balance start h m.longest 0 (blank start) k (omega (arith, blank_none start (blank start) refl, limits.short)))
    low first last

-- the record of a lawful outcome is an entry
pub entry_lawful : (d : Draft) (house number : ℕ) → d.count ≤ 16 → Lawful (posted_for (outcome d) house number) → is_entry (entry_for d house number) ≡ true
entry_lawful d house number few ok =
    and_from (leb d.count 16) (lawful (posted (entry_for d house number))) (le-leb _ _ few) (lawful_to (posted (entry_for d house number)) ok)
