use Rattle.std.proofs.Common.{◌≡◌, ◌-◌, ◌≤◌, length}
use Rattle.posting.specs.Alone.{worked, blank, balances_after, pairs_from}
use Rattle.posting.proofs.drafting.draft.Given as goal

-- the lines left bring the sheet to what the whole posting comes to, and a line has written at most one pair
abbrev pub invariant-loop-line : goal.invariant-loop-line
invariant-loop-line g l =
    (worked (g.S.Source.meaning l.source) l.posting.house l.posting.number (balances_after (g.R.Reading.entries l.journal) l.openings l.k) l.start (l.lines - l.line) l.line l.sheet
    ≡ worked (g.S.Source.meaning l.source) l.posting.house l.posting.number (balances_after (g.R.Reading.entries l.journal) l.openings l.k) l.start l.lines 0 (blank l.start))
    × (length (pairs_from 0 l.sheet.written) ≤ l.line)
