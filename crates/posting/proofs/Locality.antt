-- A posting depends on the balances only at its reads.
use Rattle.std.proofs.Common.{◌≡◌, ℕ, zero, suc, ◌+◌, ◌<◌, Bool, true, false, List, [], ◌∷◌, length, get_or, set, ℤ, Some, None, Option, refl, ap, ◌∙◌, arith, length-set}
use Rattle.std.specs.declared.ops.ControlFlow.{ControlFlow}
use Rattle.std.specs.declared.ops.ControlFlow.TheVariants.{Continue, Break}
use Rattle.std.proofs.lemmas.List.{get_or-set_same}
use Rattle.posting.specs.Sources.{Meaning, OrderKept, Limits}
use Rattle.posting.specs.Alone.{Outcome, sought, noted, told, carried, line_of, after, worked, blank, Among, Local}
use Rattle.posting.specs.declared.order.Order.{Order}
use Rattle.posting.specs.declared.order.Order.TheVariants.{Read, Write, GoOn, Done, Void}
use Rattle.posting.specs.declared.sheet.Sheet.{Sheet}
use Rattle.posting.specs.declared.sheet.Ending.{Ending}
use Rattle.posting.specs.declared.sheet.Ending.TheVariants.{Closed, Voided}

set_keeps : (bs : List Bool) (i a : ℕ) → Among bs a → Among (set bs i true) a
set_keeps [] i a h = h
set_keeps (b ∷ bs) zero zero h = refl
set_keeps (b ∷ bs) zero (suc a) h = h
set_keeps (b ∷ bs) (suc i) zero h = h
set_keeps (b ∷ bs) (suc i) (suc a) h = set_keeps bs i a h

told_reads : (hand : Option ℤ) (s : Sheet) → (told hand s).1.reads ≡ s.reads
told_reads None s = refl
told_reads (Some hand) s = refl

-- what was read stays among the reads

noted_keeps : (w : Option ℤ) (i : ℕ) (s : Sheet) (a : ℕ) → Among s.reads a → Among (noted w i s).reads a
noted_keeps (Some value) i s a h = h
noted_keeps None i s a h = set_keeps s.reads i a h

carried_keeps : (o : Order) (found : ℤ → Option ℤ) (balance : ℕ → ℤ) (s : Sheet) (a : ℕ) → Among s.reads a → Among (carried o found balance s).1.reads a
carried_keeps (Read i) found balance s a h =
    let w = get_or s.written i None in rw (told_reads (found (sought w (balance i))) (noted w i s)) (noted_keeps w i s a h)
carried_keeps (Write i value) found balance s a h = h
carried_keeps (GoOn hand) found balance s a h = h
carried_keeps Done found balance s a h = h
carried_keeps Void found balance s a h = h

-- there is a place for each account

noted_length : (w : Option ℤ) (i : ℕ) (s : Sheet) → length (noted w i s).reads ≡ length s.reads
noted_length (Some value) i s = refl
noted_length None i s = length-set s.reads i true

carried_length : (o : Order) (found : ℤ → Option ℤ) (balance : ℕ → ℤ) (s : Sheet) → length (carried o found balance s).1.reads ≡ length s.reads
carried_length (Read i) found balance s =
    let w = get_or s.written i None in
    ap length (told_reads (found (sought w (balance i))) (noted w i s)) ∙ noted_length w i s
carried_length (Write i value) found balance s = refl
carried_length (GoOn hand) found balance s = refl
carried_length Done found balance s = refl
carried_length Void found balance s = refl

-- one order on balances that are the same at the reads

read_same :
    (w : Option ℤ) (i : ℕ) (found : ℤ → Option ℤ) (these those : ℕ → ℤ) (s : Sheet) → i < length s.reads
    → ((a : ℕ) → Among (told (found (sought w (these i))) (noted w i s)).1.reads a → these a ≡ those a)
    → told (found (sought w (these i))) (noted w i s) ≡ told (found (sought w (those i))) (noted w i s)
read_same (Some value) i found these those s lt h = refl
read_same None i found these those s lt h =
    ap (λ x. told (found x) (noted None i s)) (h i (rw (told_reads (found (these i)) (noted None i s)) (get_or-set_same s.reads i true false lt)))

carried_same :
    (o : Order) (found : ℤ → Option ℤ) (these those : ℕ → ℤ) (s : Sheet) → OrderKept o → length s.reads ≡ 64
    → ((a : ℕ) → Among (carried o found these s).1.reads a → these a ≡ those a) → carried o found these s ≡ carried o found those s
carried_same (Read i) found these those s kept all h = read_same (get_or s.written i None) i found these those s (omega arith) h
carried_same (Write i value) found these those s kept all h = refl
carried_same (GoOn hand) found these those s kept all h = refl
carried_same Done found these those s kept all h = refl
carried_same Void found these those s kept all h = refl

-- the lines that follow

after_keeps : (start : ℤ) (rest : Sheet → Outcome) (p : ControlFlow Ending (Unit {0}) × Sheet) (a : ℕ) → ((t : Sheet) → Among t.reads a → Among (rest t).reads a) → Among p.1.reads a → Among (after start rest p).reads a
after_keeps start rest (Continue u, t) a keeps h = keeps t h
after_keeps start rest (Break Closed, t) a keeps h = h
after_keeps start rest (Break Voided, t) a keeps h = h

after_same :
    (start : ℤ) (rest other : Sheet → Outcome) (these those : ℕ → ℤ) (p : ControlFlow Ending (Unit {0}) × Sheet) → length p.1.reads ≡ 64
    → ((t : Sheet) → length t.reads ≡ 64 → ((a : ℕ) → Among (rest t).reads a → these a ≡ those a) → rest t ≡ other t)
    → ((a : ℕ) → Among (after start rest p).reads a → these a ≡ those a) → after start rest p ≡ after start other p
after_same start rest other these those (Continue u, t) all same h = same t all h
after_same start rest other these those (Break Closed, t) all same h = refl
after_same start rest other these those (Break Voided, t) all same h = refl

after_length : (start : ℤ) (rest : Sheet → Outcome) (p : ControlFlow Ending (Unit {0}) × Sheet) → ((t : Sheet) → length (rest t).reads ≡ length t.reads) → length (after start rest p).reads ≡ length p.1.reads
after_length start rest (Continue u, t) same = same t
after_length start rest (Break Closed, t) same = refl
after_length start rest (Break Voided, t) same = refl

module _ (m : Meaning) (house number : ℕ) (start : ℤ) where
  worked_keeps : (balance : ℕ → ℤ) (left line : ℕ) (s : Sheet) (a : ℕ) → Among s.reads a → Among (worked m house number balance start left line s).reads a
  unfolding worked
  worked_keeps balance zero line s a h = h
  worked_keeps balance (suc left) line s a h =
      after_keeps start (worked m house number balance start left (line + 1)) (line_of m house number balance line s) a
      (λ t k. worked_keeps balance left (line + 1) t a k)
      (carried_keeps (m.order house number line s.hand) (m.found house number line s.hand) balance s a h)

  worked_local :
      ((line : ℕ) (hand : ℤ) → OrderKept (m.order house number line hand)) → (these those : ℕ → ℤ) (left line : ℕ) (s : Sheet) → length s.reads ≡ 64
      → ((a : ℕ) → Among (worked m house number these start left line s).reads a → these a ≡ those a)
      → worked m house number these start left line s ≡ worked m house number those start left line s
  unfolding worked
  worked_local kept these those zero line s all h = refl
  worked_local kept these those (suc left) line s all h =
      after_same start (worked m house number these start left (line + 1)) (worked m house number those start left (line + 1)) these those
      (line_of m house number these line s)
      (carried_length (m.order house number line s.hand) (m.found house number line s.hand) these s ∙ all)
      (λ t same k. worked_local kept these those left (line + 1) t same k) h
      ∙ ap (after start (worked m house number those start left (line + 1)))
      (carried_same (m.order house number line s.hand) (m.found house number line s.hand) these those s (kept line s.hand) all
      (λ a k. h a (after_keeps start (worked m house number these start left (line + 1)) (line_of m house number these line s) a
      (λ t j. worked_keeps these left (line + 1) t a j) k)))

  -- the reads of an outcome tell of each account that a sheet has
  pub worked_length : (balance : ℕ → ℤ) (left line : ℕ) (s : Sheet) → length (worked m house number balance start left line s).reads ≡ length s.reads
  unfolding worked
  worked_length balance zero line s = refl
  worked_length balance (suc left) line s =
      after_length start (worked m house number balance start left (line + 1)) (line_of m house number balance line s) (λ t. worked_length balance left (line + 1) t)
      ∙ carried_length (m.order house number line s.hand) (m.found house number line s.hand) balance s

pub always_local : (m : Meaning) → Limits m → Local m
always_local m limits house number start these those h =
    worked_local m house number start (limits.orders house number) these those m.longest 0 (blank start) refl h
