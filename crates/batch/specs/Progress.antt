-- What the lines so far tell of where the next one may stand and of its limits. Lines are listed latest first.
use Rattle.std.specs.Prelude.{ℕ, ◌+◌, List, [], ◌∷◌, length}
use Rattle.batch.specs.declared.items.Item.{Item}
use Rattle.batch.specs.declared.items.Item.TheVariants.{Begins, Opened, Kept, Posts, Orders, Runs}
use Rattle.batch.specs.declared.progress.Stage.{Stage}
use Rattle.batch.specs.declared.progress.Stage.TheVariants.{Start, Heading, Housing, Drafting, Running}
use Rattle.batch.specs.declared.progress.Progress.{Progress}
use Rattle.batch.specs.Tables.{seen_in, postings_in, orders_in, runs_in}

-- what came last
abbrev pub stage_after : List Item → Stage
stage_after [] = Start
stage_after (Begins h ∷ past) = Heading
stage_after (Opened o ∷ past) = Heading
stage_after (Kept k ∷ past) = Housing
stage_after (Posts ∷ past) = Drafting
stage_after (Orders o ∷ past) = Drafting
stage_after (Runs r ∷ past) = Running

-- the houses and the workers of the first line

abbrev pub houses_in : List Item → ℕ
houses_in [] = 1
houses_in (Begins h ∷ past) = h.houses
houses_in (Opened o ∷ past) = houses_in past
houses_in (Kept k ∷ past) = houses_in past
houses_in (Posts ∷ past) = houses_in past
houses_in (Orders o ∷ past) = houses_in past
houses_in (Runs r ∷ past) = houses_in past

abbrev pub workers_in : List Item → ℕ
workers_in [] = 1
workers_in (Begins h ∷ past) = h.workers
workers_in (Opened o ∷ past) = workers_in past
workers_in (Kept k ∷ past) = workers_in past
workers_in (Posts ∷ past) = workers_in past
workers_in (Orders o ∷ past) = workers_in past
workers_in (Runs r ∷ past) = workers_in past

-- the least account whose opening value may come next
abbrev pub account_after : List Item → ℕ
account_after [] = 0
account_after (Begins h ∷ past) = account_after past
account_after (Opened o ∷ past) = o.account + 1
account_after (Kept k ∷ past) = account_after past
account_after (Posts ∷ past) = account_after past
account_after (Orders o ∷ past) = account_after past
account_after (Runs r ∷ past) = account_after past

-- how many postings the last house has
abbrev pub here_after : List Item → ℕ
here_after [] = 0
here_after (Begins h ∷ past) = here_after past
here_after (Opened o ∷ past) = here_after past
here_after (Kept k ∷ past) = 0
here_after (Posts ∷ past) = here_after past + 1
here_after (Orders o ∷ past) = here_after past
here_after (Runs r ∷ past) = here_after past

-- how many order lines the last posting has
abbrev pub lines_after : List Item → ℕ
lines_after [] = 0
lines_after (Begins h ∷ past) = lines_after past
lines_after (Opened o ∷ past) = lines_after past
lines_after (Kept k ∷ past) = lines_after past
lines_after (Posts ∷ past) = 0
lines_after (Orders o ∷ past) = lines_after past + 1
lines_after (Runs r ∷ past) = lines_after past

abbrev pub sofar : List Item → Progress
sofar past = record {
  stage = stage_after past;
  houses = houses_in past;
  workers = workers_in past;
  seen = seen_in past;
  account = account_after past;
  here = here_after past;
  lines = lines_after past;
  postings = length (postings_in past);
  orders = length (orders_in past);
  runs = length (runs_in past);
}

-- the same, one line after the other

abbrev pub start : Progress
start = record { stage = Start; houses = 1; workers = 1; seen = 0; account = 0; here = 0; lines = 0; postings = 0; orders = 0; runs = 0 }

abbrev pub entered : Progress → Item → Progress
entered s (Begins h) =
    record { stage = Heading; houses = h.houses; workers = h.workers; seen = s.seen; account = s.account; here = s.here; lines = s.lines; postings = s.postings; orders = s.orders; runs = s.runs }
entered s (Opened o) =
    record { stage = Heading; houses = s.houses; workers = s.workers; seen = s.seen; account = o.account + 1; here = s.here; lines = s.lines; postings = s.postings; orders = s.orders; runs = s.runs }
entered s (Kept k) =
    record { stage = Housing; houses = s.houses; workers = s.workers; seen = s.seen + 1; account = s.account; here = 0; lines = s.lines; postings = s.postings; orders = s.orders; runs = s.runs }
entered s Posts =
    record { stage = Drafting; houses = s.houses; workers = s.workers; seen = s.seen; account = s.account; here = s.here + 1; lines = 0; postings = s.postings + 1; orders = s.orders; runs = s.runs }
entered s (Orders o) =
    record { stage = Drafting; houses = s.houses; workers = s.workers; seen = s.seen; account = s.account; here = s.here; lines = s.lines + 1; postings = s.postings; orders = s.orders + 1; runs = s.runs }
entered s (Runs r) =
    record { stage = Running; houses = s.houses; workers = s.workers; seen = s.seen; account = s.account; here = s.here; lines = s.lines; postings = s.postings; orders = s.orders; runs = s.runs + 1 }
