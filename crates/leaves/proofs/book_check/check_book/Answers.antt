use Rattle.std.proofs.Common.{◌≡◌, length, refl, sym, subst, ◌∙◌, arith, rules}
use borrow.Author.Tests.{tests}
use Rattle.std.proofs.lemmas.Iterator.{YieldsList-from_slice, IsFirst-from_position}
use Rattle.leaves.specs.Leaf.{IsLeaf}
use Rattle.leaves.specs.Pages.{BookChecked}
use Rattle.leaves.proofs.PageBooks.{broken_at, checked_book}
use Rattle.leaves.proofs.book_check.check_book.Goals as goal

pub returns : goal.returns
returns c =
    let bs = c.args.bytes.now in
    let whole : length c.as_chunks.result.1.now ≡ 0 = search (rules, tests) in
    let leaves = c.iter.ensures.rest ∙ c.as_chunks.ensures.front in
    let first = IsFirst-from_position _ _ _ (λ leaf. IsLeaf leaf → ⊥) IsLeaf c.position.ensures.ran
    (YieldsList-from_slice c.iter.result.rest.now refl) (λ x q k. search (rules, tests)) (λ x q k. search (rules, tests)) in
    let told : c.map_or.result ≡ broken_at c.position.result = search rules in
    subst (BookChecked bs) (sym told) (checked_book bs _ c.position.result (omega (arith, whole), omega (arith, whole)) leaves first)
