use Rattle.std.proofs.Common.{◌≡◌, ◌+◌, ◌∷◌, [], Some, Ok, sym, ap, ◌∙◌, arith, rules}
use Rattle.batch.specs.Cuts.{fields_in, field_total, first_in, second_in, third_in}
use Rattle.batch.specs.declared.cutting.Next.TheVariants.{Field}
use Rattle.batch.specs.Marks.{letter_mark}
use Rattle.batch.specs.Rules.{tested, judged}
use Rattle.batch.proofs.Accepted.{listed_judged, judged_few}
use Rattle.batch.proofs.judging.Reader.judge_line.Goals as goal

pub returns-in_err-item : goal.returns-in_err-item
returns-in_err-item c =
    let s = c.args.self.now in
    let f = c.line_from-line.result.fields in
    let letter : letter_mark c.args.letter ≡ Some c.in_ok-mark.mark = search rules in
    let e : c.tested.result ≡ judged s.sizes s.known ((c.args.letter ∷ []) ∷ fields_in (Field c.args.text)) =
    c.tested.ensures ∙ ap (λ o. tested s.sizes s.known (field_total f + 1) o (first_in f) (second_in f) (third_in f)) (sym letter)
    ∙ listed_judged s.sizes s.known c.args.letter f (fields_in (Field c.args.text)) c.line_from-line.ensures.fields in
    search rules

pub returns : goal.returns
returns c =
    let s = c.args.self.now in
    let f = c.line_from-line.result.fields in
    let fs = (c.args.letter ∷ []) ∷ fields_in (Field c.args.text) in
    let letter : letter_mark c.args.letter ≡ Some c.in_ok-mark.mark = search rules in
    let e : judged s.sizes s.known fs ≡ Ok c.in_ok-item.item =
    sym (c.tested.ensures ∙ ap (λ o. tested s.sizes s.known (field_total f + 1) o (first_in f) (second_in f) (third_in f)) (sym letter)
    ∙ listed_judged s.sizes s.known c.args.letter f (fields_in (Field c.args.text)) c.line_from-line.ensures.fields) ∙ c.in_ok-item.was in
    record { item = e; rest = c.line_from-line.ensures.rest (omega (arith, judged_few s.sizes s.known fs c.in_ok-item.item e)) }
