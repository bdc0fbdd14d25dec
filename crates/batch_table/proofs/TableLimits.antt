-- The records of a batch keep the limits of a source.
use Rattle.std.proofs.Common.{◌≡◌, ℕ, zero, suc, ◌-◌, ◌≤◌, true, false, ltb, eqb, List, [], ◌∷◌, length, get_or, drop, ℤ, ◌+ℤ◌, Some, None, Option, sym, refl, ap, ◌∙◌, ⊎_elim, subst, arith}
use lib.Signed.{le_z}
use denote.Ref.{Bor}
use Rattle.std.specs.List.{slice_get}
use Rattle.std.specs.Option.{is_some, option_copied, IfSome}
use Rattle.std.proofs.lemmas.List.Elements.{All-take, All-drop}
use Rattle.std.proofs.lemmas.List.Sums.{AllPass-from_list_all, list_all-from_AllPass}
use Rattle.std.proofs.lemmas.Bool.{and_parts, leb-true, ltb-true, le-leb, both_ways, cases_Bool, cond_both}
use Rattle.journal.specs.Entries.{InRange, in_range}
use Rattle.posting.specs.Sources.{OrderKept, HandKept, is_read, Limits}
use Rattle.posting.specs.declared.order.Order.TheVariants as order
use Rattle.posting.proofs.Outside.{limits_outside, asked_hand}
use Rattle.batch.specs.declared.records.Posting.{Posting}
use Rattle.batch.specs.declared.records.OrderLine.{OrderLine}
use Rattle.batch.specs.declared.records.OrderLine.TheVariants.{Take, Join, Set, Raise, Need, Write}
use Rattle.batch.specs.Limits.{Ordered}
use Rattle.batch.specs.Texts.{first_of, between}
use Rattle.batch_table.specs.InOrder.{unbegun, all_allowed, last_reached, in_order}
use Rattle.batch_table.specs.OrderLines.{order_at, hand_at, line_in_range, lines_in_range}
use Rattle.batch_table.specs.TableSource.{postings_of, lines_of, table_source}
use Rattle.batch_table.proofs.Orderly.{of_same, of_other, of_none, absent, few_postings, order_parts}

-- parts of order lines in range are in range

pub range_between : (a b : ℕ) (os : List OrderLine) → lines_in_range os ≡ true → lines_in_range (between a b os) ≡ true
range_between a b os h =
    list_all-from_AllPass line_in_range (between a b os)
    (All-take (λ o. line_in_range o ≡ true) (b - a) (drop a os) (All-drop (λ o. line_in_range o ≡ true) a os (AllPass-from_list_all line_in_range os h)))

pub range_of : (h k : ℕ) (ps : List Posting) (os : List OrderLine) → lines_in_range os ≡ true → lines_in_range (get_or (postings_of h ps os) k []) ≡ true
range_of h k [] os r = ap (λ l. lines_in_range (get_or l k [])) (of_none h os)
range_of h zero (p ∷ ps) os r =
    ⊎_elim
    (λ same. ap (λ l. lines_in_range (get_or l 0 [])) (of_same h p ps os same) ∙ range_between p.first (first_of ps (length os)) os r)
    (λ other. ap (λ l. lines_in_range (get_or l 0 [])) (of_other h p ps os other) ∙ range_of h zero ps os r)
    (cases_Bool (eqb p.house h))
range_of h (suc k) (p ∷ ps) os r =
    ⊎_elim
    (λ same. ap (λ l. lines_in_range (get_or l (suc k) [])) (of_same h p ps os same) ∙ range_of h k ps os r)
    (λ other. ap (λ l. lines_in_range (get_or l (suc k) [])) (of_other h p ps os other) ∙ range_of h (suc k) ps os r)
    (cases_Bool (eqb p.house h))

-- a line that there is, is in range

abbrev pub RangedLine : Option OrderLine → Type 0
RangedLine line = IfSome line (λ o. line_in_range o ≡ true)

pub range_nth : (os : List OrderLine) (i : ℕ) → lines_in_range os ≡ true → RangedLine (slice_get os i)
range_nth [] i h = tt
range_nth (o ∷ os) zero h = (and_parts (line_in_range o) _ h).0
range_nth (o ∷ os) (suc i) h = range_nth os i (and_parts (line_in_range o) _ h).1

-- also one that is copied out of the list
pub ranged_copy : (os : List OrderLine) (i : ℕ) (got : Option (Bor OrderLine)) (copy : Option OrderLine) → lines_in_range os ≡ true → is_some got ≡ ltb i (length os)
    → IfSome got (λ x. x.now ≡ get_or os i x.now) → copy ≡ option_copied got → RangedLine copy
ranged_copy os i None copy r there is e = subst RangedLine (sym e) tt
ranged_copy os i (Some x) copy r there is e =
    subst RangedLine (sym e) (ap line_in_range is ∙ AllPass-from_list_all line_in_range os r i x.now (ltb-true i (length os) (sym there)))

-- what a line does keeps the limits

order_kept : (o : Option OrderLine) (hand : ℤ) → RangedLine o → InRange hand → OrderKept (order_at o hand)
order_kept None hand r h = tt
order_kept (Some (Take a)) hand r h = leb-true a 63 r
order_kept (Some (Join a)) hand r h = leb-true a 63 r
order_kept (Some (Set v)) hand r h = leb-true _ _ r
order_kept (Some (Raise v)) hand r h = cond_both (in_range (hand +ℤ v)) (order.GoOn (hand +ℤ v)) order.Void OrderKept (λ e. leb-true _ _ e) (λ e. tt)
order_kept (Some (Need v)) hand r h = cond_both (le_z v hand) (order.GoOn hand) order.Void OrderKept (λ e. h) (λ e. tt)
order_kept (Some (Write a)) hand r h = (leb-true a 63 r, h)

hand_kept : (o : Option OrderLine) (hand value : ℤ) → InRange value → HandKept (hand_at o hand value)
hand_kept None hand value h = tt
hand_kept (Some (Take a)) hand value h = h
hand_kept (Some (Join a)) hand value h = cond_both (in_range (hand +ℤ value)) (Some (hand +ℤ value)) None HandKept (λ e. leb-true _ _ e) (λ e. tt)
hand_kept (Some (Set v)) hand value h = tt
hand_kept (Some (Raise v)) hand value h = tt
hand_kept (Some (Need v)) hand value h = tt
hand_kept (Some (Write a)) hand value h = tt

unread : (o : Option OrderLine) (hand value : ℤ) → is_read (order_at o hand) ≡ false → hand_at o hand value ≡ None
unread None hand value e = refl
unread (Some (Take a)) hand value e = absurd (both_ways _ e refl)
unread (Some (Join a)) hand value e = absurd (both_ways _ e refl)
unread (Some (Set v)) hand value e = refl
unread (Some (Raise v)) hand value e = refl
unread (Some (Need v)) hand value e = refl
unread (Some (Write a)) hand value e = refl

pub few_of : (houses h : ℕ) (ps : List Posting) (os : List OrderLine) → in_order houses ps os ≡ true → length (postings_of h ps os) ≤ 4096
few_of houses h ps os good = omega (arith, few_postings houses h unbegun ps os (omega arith) (order_parts houses ps os good).allowed)

pub none_of : (houses h : ℕ) (ps : List Posting) (os : List OrderLine) → in_order houses ps os ≡ true → houses ≤ h → postings_of h ps os ≡ []
none_of houses h ps os good l = absent houses h unbegun ps os l (order_parts houses ps os good).allowed

pub ranged_line : (houses h number line : ℕ) (ps : List Posting) (os : List OrderLine) → in_order houses ps os ≡ true → RangedLine (slice_get (lines_of h number ps os) line)
ranged_line houses h number line ps os good = range_nth (lines_of h number ps os) line (range_of h (number - 1) ps os (order_parts houses ps os good).ranged)

pub table_limits : (houses : ℕ) (ps : List Posting) (os : List OrderLine) → houses ≤ 16 → in_order houses ps os ≡ true → Limits (table_source houses ps os)
table_limits houses ps os few good = limits_outside _ record {
  houses = few;
  postings = λ house. few_of houses house ps os good;
  absent = λ house past. ap length (none_of houses house ps os good past);
  some = omega arith;
  short = omega arith;
  orders = λ house number line hand e.
      order_kept (slice_get (lines_of house number ps os) line) hand (ranged_line houses house number line ps os good) (asked_hand (table_source houses ps os) house number line hand e);
  hands = λ house number line hand value e in-range. hand_kept (slice_get (lines_of house number ps os) line) hand value (leb-true _ _ in-range);
  unread = λ house number line hand value e. unread (slice_get (lines_of house number ps os) line) hand value e;
}

pub none_in_order : in_order 0 [] [] ≡ true
unfolding all_allowed last_reached
none_in_order = refl

-- an order line is in range by test and in words

pub range_ordered : (o : OrderLine) → line_in_range o ≡ true → Ordered o
range_ordered (Take a) h = leb-true _ _ h
range_ordered (Join a) h = leb-true _ _ h
range_ordered (Set v) h = leb-true _ _ h
range_ordered (Raise v) h = leb-true _ _ h
range_ordered (Need v) h = leb-true _ _ h
range_ordered (Write a) h = leb-true _ _ h

pub ordered_range : (o : OrderLine) → Ordered o → line_in_range o ≡ true
ordered_range (Take a) h = le-leb _ _ h
ordered_range (Join a) h = le-leb _ _ h
ordered_range (Set v) h = le-leb _ _ h
ordered_range (Raise v) h = le-leb _ _ h
ordered_range (Need v) h = le-leb _ _ h
ordered_range (Write a) h = le-leb _ _ h
