use Rattle.std.proofs.Common.{◌≡◌, true, false, nat_lt, length, get_or, ◌∙◌, arith, rules, ltb-true}
use borrow.Author.Tests.{tests, ltb-false}
use Rattle.std.proofs.lemmas.List.{take_rest}
use Rattle.batch.specs.declared.items.Mark.TheVariants.{Posting}
use Rattle.batch.proofs.Accepted.{begun_comma, begun_alone, judged_line, empty_form, alone_form, unmarked, no_comma}
use Rattle.batch.proofs.Back.{letter_back}
use Rattle.batch.proofs.judging.Reader.judge.Goals.{in-80+in-44-1, in_default+in-44-1, in_default-via-then-self-lt1, in_default-via-else-self-lt1+then-this-lt2+in_default-1, in_default-via-else-self-lt1+else-this-lt2+in-80+in_default-1, in_default-via-else-self-lt1+else-this-lt2+in_default+in_default-this-4}
use Rattle.batch.proofs.judging.Reader.judge.Goals as goal

-- a letter and a comma: whichever letter it is, the rest of the line is judged by it
pub returns-in-44 : goal.returns-in-44
returns-in-44 c =
    let s = c.args.self.now in
    let text = s.rest.now in
    let h : nat_lt (length text) 2 ≡ false = search rules in
    elim c.in-44-1.branch [
      | in-80+in-44-1 w ↦ judged_line s.sizes s.known text _ _ c.judge_line.result (begun_comma s.sizes s.known text _ (omega (arith, ltb-false (length text) 2 h)) (omega arith) (take_rest text 2)) c.judge_line.ensures
      | in_default+in-44-1 w ↦ judged_line s.sizes s.known text _ _ c.judge_line.result (begun_comma s.sizes s.known text _ (omega (arith, ltb-false (length text) 2 h)) (omega arith) (take_rest text 2)) c.judge_line.ensures
    ]

-- nothing, a letter alone, `P` with another byte after it, or another letter with no comma after it
pub returns-in_default : goal.returns-in_default
returns-in_default c =
    let s = c.args.self.now in
    let text = s.rest.now in
    elim c.in_default.branch [
      | in_default-via-then-self-lt1 w ↦ empty_form s.sizes s.known text (omega (arith, tests))
      | in_default-via-else-self-lt1+then-this-lt2+in_default-1 w ↦ (
          let h : nat_lt (length text) 1 ≡ false = search rules in
          let k : nat_lt (length text) 2 ≡ true = search rules in
          (begun_alone s.sizes s.known text (omega (arith, ltb-false (length text) 1 h, ltb-true (length text) 2 k))).said
          ∙ alone_form s.sizes s.known (get_or text 0 0) (λ e. omega (arith, letter_back (get_or text 0 0) Posting e)))
      | in_default-via-else-self-lt1+else-this-lt2+in-80+in_default-1 w ↦ (
          let h : nat_lt (length text) 2 ≡ false = search rules in
          unmarked s.sizes s.known text (omega (arith, ltb-false (length text) 2 h)) (λ e. omega (arith, e)) (λ e. omega (arith, e)))
      | in_default-via-else-self-lt1+else-this-lt2+in_default+in_default-this-4 w ↦ (
          let h : nat_lt (length text) 2 ≡ false = search rules in
          no_comma s.sizes s.known text (omega (arith, ltb-false (length text) 2 h)) (λ e. omega (arith, e)) (λ e. omega (arith, letter_back (get_or text 0 0) Posting e)))
    ]
