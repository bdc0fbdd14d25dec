-- Standing orders: one record for each house. When the balance of `from` is above the floor, what is above it moves to `to`.
use Rattle.std.specs.Prelude.{ℕ, Bool, cond, ◌&&◌, not, List, [], length, position, ℤ, pos, ◌+ℤ◌, ◌-ℤ◌, is_ok, Some, None, Ok, Err, Option, Result, ◌==◌, int_le, nat_le, slice_index_or}
use Rattle.journal.specs.Entries.{in_range}
use Rattle.posting.specs.Sources.{Meaning, void_outside}
use Rattle.posting.specs.declared.order.Order.{Order}
use Rattle.posting.specs.declared.order.Order.TheVariants.{Read, Write, GoOn, Done, Void}
use Rattle.posting.specs.declared.standing_order.StandingOrder.{StandingOrder}
use Rattle.posting.specs.declared.standing_order.StandingRefusal.{StandingRefusal}
use Rattle.posting.specs.declared.standing_order.StandingRefusal.TheVariants.{NotOneToSixteen, BadRecord}

-- a record's accounts are among the 64, its floor is in range, and a house has at most 4,096 postings
abbrev pub good_order : StandingOrder → Bool
good_order o = nat_le o.from 63 && (nat_le o.to 63 && (in_range o.floor && nat_le o.times 4096))

-- the first bad record, counted from 0
abbrev pub first_bad : List StandingOrder → Option ℕ
first_bad os = position (λ o. not (good_order o)) os

abbrev pub standing_number : StandingRefusal → ℕ
standing_number NotOneToSixteen = 71
standing_number (BadRecord k) = 72

-- which record is bad; 0 where none is told
abbrev pub standing_record : StandingRefusal → ℕ
standing_record NotOneToSixteen = 0
standing_record (BadRecord k) = k

abbrev pub refused_at : Option ℕ → Result (Unit {0}) StandingRefusal
refused_at None = Ok tt
refused_at (Some k) = Err (BadRecord k)

-- what the check answers: 71 before 72
abbrev pub orders_checked : List StandingOrder → Result (Unit {0}) StandingRefusal
orders_checked os = cond (nat_le 1 (length os) && nat_le (length os) 16) (refused_at (first_bad os)) (Err NotOneToSixteen)

-- records that the check refuses make a source without houses
abbrev pub orders_kept : List StandingOrder → List StandingOrder
orders_kept os = cond (is_ok (orders_checked os)) os []

-- the record of a house; one without postings, where there is no such house
abbrev pub order_at : List StandingOrder → ℕ → StandingOrder
order_at os house = slice_index_or os house record { from = 0; to = 0; floor = pos 0; times = 0 }

-- a hand out of range is void

abbrev pub go_on : ℤ → Order
go_on hand = cond (in_range hand) (GoOn hand) Void

abbrev pub next_hand : ℤ → Option ℤ
next_hand hand = cond (in_range hand) (Some hand) None

-- the five lines of a posting: line 0 reads `from` into the hand, line 1 is done if the hand is at most the floor and else
-- leaves the floor on `from`, line 2 takes the floor off the hand, line 3 adds what `to` has, and line 4 writes the hand to `to`

abbrev pub line_order : StandingOrder → ℕ → ℤ → Order
line_order o line hand =
    cond (line == 0) (Read o.from)
    (cond (line == 1) (cond (int_le hand o.floor) Done (Write o.from o.floor))
    (cond (line == 2) (go_on (hand -ℤ o.floor))
    (cond (line == 3) (Read o.to) (Write o.to hand))))

abbrev pub line_found : ℕ → ℤ → ℤ → Option ℤ
line_found line hand value = cond (line == 0) (Some value) (cond (line == 3) (next_hand (hand +ℤ value)) None)

-- each house has `times` postings, all alike
abbrev pub standing : List StandingOrder → Meaning
standing os = void_outside record {
  houses = length os;
  postings = λ house. (order_at os house).times;
  longest = 5;
  order = λ house number line hand. line_order (order_at os house) line hand;
  found = λ house number line hand value. line_found line hand value;
}
