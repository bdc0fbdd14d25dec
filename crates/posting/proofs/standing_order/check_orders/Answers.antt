use Rattle.std.proofs.Common.{◌≡◌, not, sym, ap, ◌∙◌, arith, rules}
use Rattle.std.proofs.lemmas.Bool.{eqb-false}
use Rattle.std.proofs.lemmas.Iterator.{YieldsList-from_slice}
use Rattle.std.proofs.lemmas.Iterator.Search.{position_from_yields_List}
use Rattle.posting.specs.Standing.{good_order, first_bad, refused_at}
use Rattle.posting.proofs.Checked.{checked_in}
use Rattle.posting.proofs.standing_order.check_orders.Goals as goal

pub returns : goal.returns
returns c =
    let os = c.args.orders.now in
    let some = eqb-false _ _ (sym c.if-is_empty.ensures) in
    let found : c.position.result ≡ first_bad os =
    position_from_yields_List (λ o. not (good_order o)) _ _ _ c.position.ensures.ran (YieldsList-from_slice os cc) (λ x b q k. search rules) in
    let told : c.map_or.result ≡ refused_at c.position.result = search rules in
    told ∙ ap refused_at found ∙ checked_in os (omega (arith, some)) (omega (arith, c.if-orders-gt-MAX_HOUSES.false))
