use Rattle.std.proofs.Common.{◌≡◌, ℕ, ◌+◌, ◌<◌, Bool, true, false, ◌&&◌, List, length, drop, sym, ap, ◌∙◌, rules}
use Rattle.std.proofs.lemmas.List.{at_drop_more, at_drop_all}
use Rattle.journal.specs.Entries.{rises, fits, pair_at}
use Rattle.journal.specs.declared.entry.Pair.{Pair}
use Rattle.journal.proofs.entry.pairs_rise.Goals as goal

-- the test of one pair, and what is left after it
step : (b : Bool) (least : ℕ) (ps : List Pair) (i : ℕ) → i < length ps → b ≡ fits least (pair_at ps i) → (b && rises ((pair_at ps i).account + 1) (drop (i + 1) ps)) ≡ rises least (drop i ps)
step b least ps i h e =
    ap (λ (x : Bool). x && rises ((pair_at ps i).account + 1) (drop (i + 1) ps)) e ∙ sym (at_drop_more (rises least) ps i _ h)

pub returns-then-not-pair_fits : goal.returns-then-not-pair_fits
returns-then-not-pair_fits c =
    step false c.loop-pair.least c.args.pairs.now c.loop-pair.pair-index (search rules) c.if-not-pair_fits.ensures
    ∙ c.loop-pair.invariant

pub loop-pair-preserved : goal.loop-pair-preserved
loop-pair-preserved c =
    step true c.loop-pair.least c.args.pairs.now c.loop-pair.pair-index (search rules) c.if-not-pair_fits.ensures
    ∙ c.loop-pair.invariant

pub returns : goal.returns
returns c =
    sym (at_drop_all (rises c.loop-pair.least) c.args.pairs.now c.loop-pair.pair-index (search rules))
    ∙ c.loop-pair.invariant
