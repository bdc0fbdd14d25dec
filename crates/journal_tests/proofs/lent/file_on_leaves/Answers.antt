use Rattle.std.proofs.Common.{ℕ, length, is_ok, ap, ◌∙◌, rules}
use Rattle.journal.specs.Entries.{posted}
use Rattle.journal.specs.Filing.{filing}
use Rattle.leaves.specs.Leaf.{leaf_of}
use Rattle.leaves.specs.Pages.{leaf_put}
use Rattle.leaves.specs.Stores.{leaf_size}
use Rattle.journal_tests.proofs.Returned.{lent_back}
use Rattle.journal_tests.proofs.lent.file_on_leaves.Goals as goal

pub returns : goal.returns
returns c =
    let e = c.args.e.now in
    let none = ap length c.new-journal.ensures.entries in
    record {
      answer =
          c.file.ensures.answer
          ∙ ap (λ (n : ℕ). filing e 0 n (leaf_size c.new-journal.result)) none
          ∙ ap (λ (n : ℕ). filing e 0 0 n) c.new-journal.ensures.size;
      bytes =
          lent_back (λ bs n. leaf_put bs n (leaf_of (posted e))) (is_ok c.file.result) _ _ _ c.args.bytes.now _
          (search rules) c.file.ensures.bytes c.new-journal.ensures.bytes none;
    }
