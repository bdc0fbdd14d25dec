-- A line of a posting by its place in the tables.
use Rattle.std.proofs.Common.{◌≡◌, ℕ, suc, ◌+◌, ◌-◌, ◌≤◌, true, List, length, drop, sym, ap, ◌∙◌, subst, add-one, arith}
use Rattle.batch.specs.declared.records.Posting.{Posting}
use Rattle.batch.specs.declared.records.OrderLine.{OrderLine}
use Rattle.batch.specs.Texts.{first_of, between}
use Rattle.batch_table.specs.InOrder.{unbegun, in_order}
use Rattle.batch_table.specs.TableSource.{postings_of, before}
use Rattle.batch_table.specs.Orderly.{posting_at, StandsAt}
use Rattle.batch_table.proofs.Orderly.{houses_rise, placed, lines_in_lem, counted, order_parts}

-- how many postings a house has, by where they begin
pub count_between : (h : ℕ) (ps : List Posting) (os : List OrderLine) (a b : ℕ) → a ≡ before h ps → b ≡ before (h + 1) ps → b ≡ a + length (postings_of h ps os)
count_between h ps os a b e f = f ∙ ap (λ n. before n ps) (add-one h) ∙ counted h ps os ∙ ap (λ n. n + length (postings_of h ps os)) (sym e)

-- where the record of a posting stands
pub found_at : (houses h number start n : ℕ) (ps : List Posting) (os : List OrderLine) → in_order houses ps os ≡ true → start ≡ before h ps → 1 ≤ number
    → number ≤ length (postings_of h ps os) → n ≡ start + (number - 1) → StandsAt h number n ps os
found_at houses h number start n ps os good e some few is =
    let parts = order_parts houses ps os good in
    let rising = houses_rise houses unbegun ps parts.allowed in
    let at = placed h 0 (number - 1) n ps os rising (omega arith) (omega arith) in
    let next : drop (suc n) ps ≡ drop (n + 1) ps = ap (λ m. drop m ps) (sym (add-one n)) in
    let inside = lines_in_lem houses unbegun ps (length os) n parts.allowed parts.ended at.within in
    record {
      within = at.within;
      from = subst (λ l. (posting_at ps n).first ≤ first_of l (length os)) next inside.0;
      to = subst (λ l. first_of l (length os) ≤ length os) next inside.1;
      lines = at.lines ∙ ap (λ l. between (posting_at ps n).first (first_of l (length os)) os) next;
    }
