-- What an order line does, and which order lines there are.
use Rattle.std.specs.Prelude.{Bool, cond, List, ℤ, ◌+ℤ◌, Some, None, Option, int_le, nat_le}
use Rattle.std.specs.List.{list_all}
use Rattle.journal.specs.Entries.{in_range}
use Rattle.posting.specs.Standing.{go_on, next_hand}
use Rattle.posting.specs.declared.order.Order.{Order}
use Rattle.posting.specs.declared.order.Order.TheVariants as order
use Rattle.batch.specs.declared.records.OrderLine.{OrderLine}
use Rattle.batch.specs.declared.records.OrderLine.TheVariants.{Take, Join, Set, Raise, Need, Write}

-- the order that a line gives at this hand: T and U read, S and A alter the hand, N is void if the hand is lower, W writes
-- the hand; a sum out of range is void
abbrev pub order_for : OrderLine → ℤ → Order
order_for (Take a) hand = order.Read a
order_for (Join a) hand = order.Read a
order_for (Set v) hand = order.GoOn v
order_for (Raise v) hand = go_on (hand +ℤ v)
order_for (Need v) hand = cond (int_le v hand) (order.GoOn hand) order.Void
order_for (Write a) hand = order.Write a hand

-- the next hand where a line that reads finds a value: T takes it, U adds it
abbrev pub hand_for : OrderLine → ℤ → ℤ → Option ℤ
hand_for (Take a) hand value = Some value
hand_for (Join a) hand value = next_hand (hand +ℤ value)
hand_for (Set v) hand value = None
hand_for (Raise v) hand value = None
hand_for (Need v) hand value = None
hand_for (Write a) hand value = None

-- past the last line of a posting the order is done

abbrev pub order_at : Option OrderLine → ℤ → Order
order_at None hand = order.Done
order_at (Some o) hand = order_for o hand

abbrev pub hand_at : Option OrderLine → ℤ → ℤ → Option ℤ
hand_at None hand value = None
hand_at (Some o) hand value = hand_for o hand value

-- accounts from 0 to 63, cents from -10^15 to 10^15
abbrev pub line_in_range : OrderLine → Bool
line_in_range (Take a) = nat_le a 63
line_in_range (Join a) = nat_le a 63
line_in_range (Set v) = in_range v
line_in_range (Raise v) = in_range v
line_in_range (Need v) = in_range v
line_in_range (Write a) = nat_le a 63

abbrev pub lines_in_range : List OrderLine → Bool
lines_in_range os = list_all line_in_range os
