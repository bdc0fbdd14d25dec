-- What holds of every accepted line.
use Rattle.std.specs.Prelude.{◌≡◌, ◌-◌, ◌<◌, ◌≤◌, true, pos, ◌≢◌}
use Rattle.journal.specs.Entries.{InRange}
use Rattle.batch.specs.declared.records.OrderLine.{OrderLine}
use Rattle.batch.specs.declared.records.OrderLine.TheVariants.{Take, Join, Set, Raise, Need, Write}
use Rattle.batch.specs.declared.items.Kind.{Kind}
use Rattle.batch.specs.declared.items.Kind.TheVariants as kind
use Rattle.batch.specs.declared.items.Mark.{Mark}
use Rattle.batch.specs.declared.items.Mark.TheVariants.{Begin, Opening, House, Posting, Order, Run}
use Rattle.batch.specs.declared.items.Item.{Item}
use Rattle.batch.specs.declared.items.Item.TheVariants.{Begins, Opened, Kept, Posts, Orders, Runs}
use Rattle.batch.specs.declared.progress.Progress.{Progress}
use Rattle.batch.specs.declared.progress.Sizes.{Sizes}
use Rattle.batch.specs.Marks.{follows}
use Rattle.batch.specs.Rules.{room_for}

abbrev pub kind_of : OrderLine → Kind
kind_of (Take a) = kind.Take
kind_of (Join a) = kind.Join
kind_of (Set v) = kind.Set
kind_of (Raise v) = kind.Raise
kind_of (Need v) = kind.Need
kind_of (Write a) = kind.Write

abbrev pub mark_of : Item → Mark
mark_of (Begins h) = Begin
mark_of (Opened o) = Opening
mark_of (Kept k) = House
mark_of Posts = Posting
mark_of (Orders o) = Order (kind_of o)
mark_of (Runs r) = Run

-- accounts from 0 to 63, cents from -10^15 to 10^15
abbrev pub Ordered : OrderLine → Type 0
Ordered (Take a) = a ≤ 63
Ordered (Join a) = a ≤ 63
Ordered (Set v) = InRange v
Ordered (Raise v) = InRange v
Ordered (Need v) = InRange v
Ordered (Write a) = a ≤ 63

-- the limits of what a line says, after the lines before it
abbrev pub Within : Progress → Item → Type 0
Within s (Begins h) = ((1 ≤ h.houses) × (h.houses ≤ 16)) × ((1 ≤ h.workers) × (h.workers ≤ 8)) × ((1 ≤ h.patience) × (h.patience ≤ 1000))
Within s (Opened o) = (s.account ≤ o.account) × (o.account ≤ 63) × InRange o.cents × (o.cents ≢ pos 0)
Within s (Kept k) = (s.seen ≤ s.houses - 1) × (k ≤ s.workers - 1)
Within s Posts = s.here < 4096
Within s (Orders o) = (s.lines < 16) × Ordered o
Within s (Runs r) = (r.worker ≤ s.workers - 1) × (1 ≤ r.count) × (r.count ≤ 10000)

-- it may stand there, keeps its limits, and its table has room for it
pub record Allowed (t : Sizes) (s : Progress) (i : Item) : Type 0 where
  pub place : follows (mark_of i) s.stage ≡ true
  pub within : Within s i
  pub room : room_for t s i ≡ true
