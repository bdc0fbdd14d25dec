-- When 160 bytes are a leaf.
use Rattle.std.proofs.Common.{◌≡◌, ℕ, Bool, false, List, length, get_or, Decides, sym, ap, ◌∙◌, subst, arith}
use Rattle.std.proofs.lemmas.Bool.{false≢true}
use Rattle.journal.specs.Entries.{Posted, posted, Lawful, IsEntry, lawful}
use Rattle.leaves.specs.Leaf.{entry_on, leaf_of, IsLeaf, IsLeafOfItsEntry}
use Rattle.journal.specs.declared.entry.Entry.{Entry}
use Rattle.journal.proofs.Lawfulness.{lawful_to, lawful_from}
use Rattle.leaves.proofs.RoundTrip.{reads_back, writes_back}

-- what a leaf says is an entry
pub says_entry : (bs : List ℕ) (e : Entry) → posted e ≡ entry_on bs → e.count ≡ get_or bs 2 0 → IsLeaf bs → IsEntry e
says_entry bs e says count (m, is, eq) =
    let same : posted e ≡ m = says ∙ ap entry_on eq ∙ reads_back m is in
    let third : get_or bs 2 0 ≡ length m.pairs = ap (λ (xs : List ℕ). get_or xs 2 0) eq in
    record { counted = omega (arith, is.few); lawful = subst Lawful (sym same) is }

pub no_entry_lem : (bs : List ℕ) (e : Entry) (r : Bool) → posted e ≡ entry_on bs → e.count ≡ get_or bs 2 0 → r ≡ false → Decides r (IsEntry e) → Decides r (IsLeaf bs)
no_entry_lem bs e r says count is d = (λ t. absurd (false≢true (sym is ∙ t)), λ leaf. d.1 (says_entry bs e says count leaf))

-- bytes that say an entry are its leaf if they are what it writes
pub compared : (bs : List ℕ) (e : Entry) (r : Bool) → posted e ≡ entry_on bs → IsEntry e → Decides r (leaf_of (posted e) ≡ bs) → Decides r (IsLeaf bs)
compared bs e r says ok d =
    (λ t. (posted e, ok.lawful, sym (d.0 t)), λ leaf. d.1 (ap (λ (x : Posted). leaf_of x) says ∙ writes_back bs leaf))

-- a leaf is the leaf of its entry, and so is a leaf
pub own_leaf : (bs : List ℕ) → IsLeaf bs → IsLeafOfItsEntry bs
own_leaf bs (e, is, eq) =
    let same : entry_on bs ≡ e = ap entry_on eq ∙ reads_back e is in
    (ap lawful same ∙ lawful_to e is, writes_back bs (e, is, eq))

pub leaf_of_own : (bs : List ℕ) → IsLeafOfItsEntry bs → IsLeaf bs
leaf_of_own bs h = (entry_on bs, lawful_from (entry_on bs) h.0, sym h.1)
