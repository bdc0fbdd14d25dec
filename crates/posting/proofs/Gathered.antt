-- Pairs gathered account by account.
use Rattle.std.proofs.Common.{◌≡◌, ℕ, ◌+◌, ◌<◌, ◌≤◌, false, List, [], ◌∷◌, ◌++◌, length, get_or, drop, ℤ, Some, None, Option, sym, ap, ◌∙◌, append_assoc, append-nil, arith, length-append}
use Rattle.std.proofs.lemmas.List.{at_drop_more, at_drop_all}
use Rattle.journal.specs.declared.entry.Pair.{Pair}
use Rattle.posting.specs.Alone.{Outcome, outcome, listed, pair_of, pairs_from, closed}
use Rattle.posting.specs.declared.sheet.Draft.{Draft}
use Rattle.posting.specs.declared.sheet.Sheet.{Sheet}

-- the pairs gathered up to an account, and those still to come, are all that was written
pub record Gathered (s : Sheet) (a : ℕ) (d : Draft) : Type 0 where
  pub room : length d.pairs ≡ 16
  pub count : d.count ≡ length (listed d)
  pub pairs : listed d ++ pairs_from a (drop a s.written) ≡ pairs_from 0 s.written
  pub reads : d.reads ≡ s.reads
  pub void : d.void ≡ false
  pub hand : d.hand ≡ s.hand

next_pair : (ws : List (Option ℤ)) (a : ℕ) (w : Option ℤ) → a < length ws → get_or ws a None ≡ w → pairs_from a (drop a ws) ≡ pair_of a w ++ pairs_from (a + 1) (drop (a + 1) ws)
unfolding pairs_from
next_pair ws a w lt is = at_drop_more (pairs_from a) ws a None lt ∙ ap (λ x. pair_of a x ++ pairs_from (a + 1) (drop (a + 1) ws)) is

-- an account that was not written
pub passed : (s : Sheet) (a : ℕ) (d : Draft) → a < length s.written → get_or s.written a None ≡ None → Gathered s a d → Gathered s (a + 1) d
passed s a d lt is before = record {
  room = before.room;
  count = before.count;
  pairs = ap (λ x. listed d ++ x) (sym (next_pair s.written a None lt is)) ∙ before.pairs;
  reads = before.reads;
  void = before.void;
  hand = before.hand;
}

-- there is room for the pair of one that was
pub has_room : (s : Sheet) (a : ℕ) (d : Draft) (value : ℤ) → a < length s.written → get_or s.written a None ≡ Some value → length (pairs_from 0 s.written) ≤ 16 → Gathered s a d → d.count < 16
has_room s a d value lt is few before =
    let all = ap length before.pairs in
    let next = ap length (next_pair s.written a (Some value) lt is) in
    omega (arith, few, all, next, before.count, length-append (listed d) (pairs_from a (drop a s.written)))

-- and then it joins the others
pub joined :
    (s : Sheet) (a : ℕ) (d e : Draft) (value : ℤ) → a < length s.written → get_or s.written a None ≡ Some value → Gathered s a d
    → outcome e ≡ record { reads = d.reads; void = d.void; hand = d.hand; pairs = listed d ++ record { account = a; value = value } ∷ [] }
    → e.count ≡ d.count + 1 → length e.pairs ≡ 16 → Gathered s (a + 1) e
joined s a d e value lt is before out more room =
    let p : Pair = record { account = a; value = value } in
    let list : listed e ≡ listed d ++ p ∷ [] = ap (λ (x : Outcome). x.pairs) out in
    let longer : length (listed e) ≡ length (listed d) + 1 = ap length list ∙ length-append (listed d) (p ∷ []) in
    record {
      room = room;
      count = omega (arith, more, longer, before.count);
      pairs =
          ap (λ x. x ++ pairs_from (a + 1) (drop (a + 1) s.written)) list ∙ append_assoc (listed d) (p ∷ []) _
          ∙ ap (λ x. listed d ++ x) (sym (next_pair s.written a (Some value) lt is)) ∙ before.pairs;
      reads = ap (λ (x : Outcome). x.reads) out ∙ before.reads;
      void = ap (λ (x : Outcome). x.void) out ∙ before.void;
      hand = ap (λ (x : Outcome). x.hand) out ∙ before.hand;
    }

finished : (d : Draft) (s : Sheet) → d.reads ≡ s.reads → d.void ≡ false → d.hand ≡ s.hand → listed d ≡ pairs_from 0 s.written → outcome d ≡ closed s
finished d s reads void hand all = cc

-- after the last account
pub gathered : (s : Sheet) (a : ℕ) (d : Draft) → length s.written ≤ a → Gathered s a d → outcome d ≡ closed s
unfolding pairs_from
gathered s a d le before =
    let all : listed d ≡ pairs_from 0 s.written =
    sym (append-nil (listed d)) ∙ ap (λ x. listed d ++ x) (sym (at_drop_all (pairs_from a) s.written a le)) ∙ before.pairs in
    finished d s before.reads before.void before.hand all
