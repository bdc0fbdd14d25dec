use Rattle.std.proofs.Common.{◌≡◌, ℕ, ◌*◌, ◌/◌, ◌≤◌, List, length, take, sym, ap, ◌∙◌, subst, arith}
use Rattle.std.proofs.lemmas.List.{length-take-le}
use Rattle.leaves.specs.Pages.{leaves_used, entries_on, GoodBook}
use Rattle.leaves.proofs.PageEntries.{length_entries}
use Rattle.leaves.proofs.PageBooks.{front_entries, front_good}
use Rattle.leaves.proofs.byte_journal.Leaves.as_bytes.Goals as goal

pub overflow_mul-end : goal.overflow_mul-end
overflow_mul-end c =
    let l = c.args.self.now in
    omega (arith, c.length-end.ensures, length_entries (leaves_used l.used l.bytes.now) l.bytes.now)

pub slice_bounds-result-end : goal.slice_bounds-result-end
slice_bounds-result-end c =
    let l = c.args.self.now in
    let bs = l.bytes.now in
    let n = c.length-end.result in
    let is : n ≡ leaves_used l.used bs = c.length-end.ensures ∙ length_entries (leaves_used l.used bs) bs in
    sym (length-take-le (160 * n) bs (omega arith))

pub returns : goal.returns
returns c =
    let l = c.args.self.now in
    let bs = l.bytes.now in
    let used = leaves_used l.used bs in
    let n = c.length-end.result in
    let is : n ≡ used = c.length-end.ensures ∙ length_entries used bs in
    let same : take (160 * n) bs ≡ take (160 * used) bs = ap (λ (k : ℕ). take (160 * k) bs) is in
    let fits : 160 * used ≤ length bs = omega arith in
    record {
      value = ap (λ (k : ℕ). take (160 * k) bs) c.length-end.ensures;
      entries = ap (λ (xs : List ℕ). entries_on (length xs / 160) xs) same ∙ front_entries bs used fits;
      good = subst GoodBook (sym same) (front_good bs used fits (omega arith) l.good);
    }
