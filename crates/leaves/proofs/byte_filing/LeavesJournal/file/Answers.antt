use Rattle.std.proofs.Common.{true, ◌<◌, ◌≡◌, ℕ, ◌+◌, ◌-◌, ◌*◌, ◌/◌, ◌≤◌, min, List, [], ◌∷◌, ◌++◌, length, take, sym, refl, ap, ◌∙◌, subst, arith, rules}
use borrow.Rule.Slice.PartMut.{put_mid}
use Rattle.std.proofs.lemmas.List.{drop-drop}
use Rattle.journal.specs.Entries.{posted, IsEntry}
use Rattle.leaves.specs.Leaf.{leaf_of}
use Rattle.leaves.specs.Pages.{leaf_put, whole_leaves, leaves_used, entries_on, LeavesOfEntries}
use Rattle.leaves.specs.Stores.{leaf_entries, leaf_size}
use Rattle.journal.proofs.Filed.{can_be_filed}
use Rattle.journal.proofs.Lawfulness.{entry_decided}
use Rattle.leaves.proofs.PageEntries.{length_entries}
use Rattle.leaves.proofs.PageBooks.{length_put, entries_put, more_good}
use Rattle.leaves.proofs.RoundTrip.{length_leaf}
use Rattle.leaves.proofs.byte_filing.LeavesJournal.file.Goals as goal

-- what the write left is one leaf put
put_is : (bs leaf back : List ℕ) (n : ℕ) → leaf ≡ back → put_mid (160 * n) ((160 * n + 160) - 160 * n) bs leaf ≡ leaf_put bs n back
put_is bs leaf back n is =
    let w : (160 * n + 160) - 160 * n ≡ 160 = omega arith in
    ap (λ (k : ℕ). put_mid (160 * n) k bs leaf) w
    ∙ ap (λ (r : List ℕ). take (160 * n) bs ++ (leaf ++ r)) (drop-drop 160 (160 * n) bs)
    ∙ ap (λ (x : List ℕ). leaf_put bs n x) is

pub returns : goal.returns
returns c =
    let s = c.args.self.now in
    let e = c.args.e.now in
    let bs = s.bytes.now in
    let used = leaves_used s.used bs in
    let n = c.args.place in
    let free = can_be_filed e n (length (leaf_entries s)) (leaf_size s) (search rules) in
    let is : n ≡ used = free.end ∙ length_entries used bs in
    let ok : IsEntry e = (entry_decided e true free.entry).0 refl in
    let leaf = leaf_of (posted e) in
    let ll = length_leaf (posted e) ok.lawful.few in
    let size : n < whole_leaves bs = rw free.end free.room in
    let room : 160 * n + 160 ≤ length bs = omega arith in
    let after = put_mid (160 * n) ((160 * n + 160) - 160 * n) bs c.copy_from_slice.new.self in
    let put : after ≡ leaf_put bs n leaf = put_is bs c.copy_from_slice.new.self leaf n (c.copy_from_slice.ensures.after ∙ c.encode.ensures) in
    let same : length after ≡ length bs = ap length put ∙ length_put bs leaf n ll room in
    let more : leaves_used (n + 1) after ≡ n + 1 = omega arith in
    record {
      answer = search rules;
      entries =
          ap (λ (k : ℕ). entries_on k after) more
          ∙ ap (entries_on (n + 1)) put
          ∙ entries_put bs leaf n e room refl ok
          ∙ ap (λ (k : ℕ). entries_on k bs ++ posted e ∷ []) is;
      size = ap (λ (k : ℕ). min (k / 160) 4096) same;
      bytes = put ∙ ap (λ (k : ℕ). leaf_put bs k leaf) free.end;
      lender = search rules;
    }

pub invariant_of-self : goal.invariant_of-self
invariant_of-self c =
    let s = c.args.self.now in
    let e = c.args.e.now in
    let bs = s.bytes.now in
    let used = leaves_used s.used bs in
    let n = c.args.place in
    let free = can_be_filed e n (length (leaf_entries s)) (leaf_size s) (search rules) in
    let is : n ≡ used = free.end ∙ length_entries used bs in
    let ok : IsEntry e = (entry_decided e true free.entry).0 refl in
    let leaf = leaf_of (posted e) in
    let put = put_is bs c.copy_from_slice.new.self leaf n (c.copy_from_slice.ensures.after ∙ c.encode.ensures) in
    let more : LeavesOfEntries (n + 1) (leaf_put bs n leaf) =
    more_good bs leaf n (posted e) (omega arith) (length_leaf (posted e) ok.lawful.few) refl ok.lawful (λ j lt. s.good j (omega (arith, is, lt))) in
    record { good = subst (λ (xs : List ℕ). LeavesOfEntries (leaves_used (n + 1) xs) xs) (sym put) (λ k lt. more k (omega (arith, lt))) }
