use Rattle.std.proofs.Common.{◌≡◌, length, ◌∙◌, Some, None, cond, ltb, rules}
use borrow.Author.Tests.{tests}
use Rattle.std.specs.List.{position_or_len}
use Rattle.std.proofs.lemmas.Iterator.{YieldsList-from_slice}
use Rattle.std.proofs.lemmas.Iterator.Search.{position_from_yields_List}
use Rattle.batch.proofs.Cuts.{stops, at_place}
use Rattle.batch.proofs.cutting.stop.Goals as goal

pub returns-clause-front : goal.returns-clause-front
returns-clause-front c =
    let s = c.args.text.now in
    let place : c.position.result ≡ cond (ltb (position_or_len stops s) (length s)) (Some (position_or_len stops s)) None =
    position_from_yields_List stops _ _ c.position.result c.position.ensures.ran (YieldsList-from_slice s cc) (λ x b q k. search (rules, tests)) in
    c.unwrap_or.ensures ∙ at_place s c.position.result place
