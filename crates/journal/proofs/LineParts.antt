-- The pairs of a line one by one, and the line from its parts.
use Rattle.std.proofs.Common.{◌≡◌, ℕ, zero, suc, ◌+◌, ◌-◌, ◌^◌, ◌<◌, ◌≤◌, min, Bool, cond, List, [], ◌∷◌, ◌++◌, length, drop, ℤ, Some, None, Ok, Err, decimal, Option, sym, refl, ap, subst, ◌∙◌, append_assoc, add-one, arith, le-leb}
use borrow.Author.Tests.{lt-leb}
use Rattle.std.specs.Option.{option_map}
use Rattle.std.specs.List.{slice_get}
use Rattle.std.proofs.lemmas.List.{drop_all}
use Rattle.journal.specs.Entries.{Posted}
use Rattle.journal.specs.Readings.{id_of, pair_of}
use Rattle.journal.specs.Lines.{commaed, pair_fields, entry_line, answer_of, line_over}
use Rattle.journal.specs.Writing.{written, state, Wrote, head_text, pairs_of, put_for, put_of}
use Rattle.journal.specs.declared.line_buffer.LineBuffer.{LineBuffer}
use Rattle.journal.specs.declared.entry.Pair.{Pair}
use Rattle.journal.specs.declared.entry.PostingId.{PostingId}
use Rattle.journal.specs.declared.lines.LineRefusal.TheVariants.{DoesNotFit}
use Rattle.journal.proofs.Written.{written_append, then_wrote, commaed_append, place_after, written_front}

-- something is not nothing
none_apart : {X : Type 0} (x : X) → Some x ≡ None → ⊥
none_apart x h = let z : ◌≡◌ {A = ℕ} 0 1 = cc in omega arith

-- a reading's pair is the pair of the list
pub pair_nth : (o : Option Posted) (j : ℕ) → pair_of j o ≡ slice_get (pairs_of o) j
pair_nth None j = refl
pair_nth (Some e) j = refl

-- a reading's count is the length of the pairs
counted : (o : Option Posted) (n : ℕ) → option_map (λ e. length e.pairs) o ≡ Some n → length (pairs_of o) ≡ n
counted None n h = absurd (none_apart n (sym h))
counted (Some e) n h = cc

-- where there is a pair, it comes first in what is left
drop_some : (ps : List Pair) (j : ℕ) (p : Pair) → slice_get ps j ≡ Some p → drop j ps ≡ p ∷ drop (suc j) ps
drop_some [] j p h = absurd (none_apart p (sym h))
drop_some (x ∷ xs) zero p h = cc
drop_some (x ∷ xs) (suc j) p h = drop_some xs j p h

-- where there is none, nothing is left
drop_none : (ps : List Pair) (j : ℕ) → slice_get ps j ≡ None → drop (suc j) ps ≡ drop j ps
drop_none [] zero h = refl
drop_none [] (suc j) h = refl
drop_none (x ∷ xs) zero h = absurd (none_apart x h)
drop_none (x ∷ xs) (suc j) h = drop_none xs j h

-- a pair written is a pair less to write
pub pairs_more : (o : Option Posted) (j : ℕ) (p : Pair) (s t u : ℕ × List ℕ) → Some p ≡ pair_of j o → t ≡ written (commaed (pair_fields (p ∷ []))) s → u ≡ t
    → written (commaed (pair_fields (drop (j + 1) (pairs_of o)))) u ≡ written (commaed (pair_fields (drop j (pairs_of o)))) s
pairs_more o j p s t u h e same =
    let rest = pair_fields (drop (suc j) (pairs_of o)) in
    let here = drop_some (pairs_of o) j p (sym (h ∙ pair_nth o j)) in
    ap (λ n. written (commaed (pair_fields (drop n (pairs_of o)))) u) (add-one j)
    ∙ ap (written (commaed rest)) (same ∙ e)
    ∙ written_append _ _ s
    ∙ ap (λ bs. written bs s) (commaed_append (pair_fields (p ∷ [])) rest)
    ∙ ap (λ ps. written (commaed (pair_fields ps)) s) (sym here)

-- where there is none, nothing more is written
pub pairs_none : (o : Option Posted) (j : ℕ) (s t : ℕ × List ℕ) → None ≡ pair_of j o → t ≡ s
    → written (commaed (pair_fields (drop (j + 1) (pairs_of o)))) t ≡ written (commaed (pair_fields (drop j (pairs_of o)))) s
pairs_none o j s t h e =
    let gone : drop (j + 1) (pairs_of o) ≡ drop j (pairs_of o) = rw add-one (drop_none (pairs_of o) j (sym (h ∙ pair_nth o j))) in
    cc

-- after as many as there are, none is left
pub pairs_all : (o : Option Posted) (n j : ℕ) (s : ℕ × List ℕ) → option_map (λ e. length e.pairs) o ≡ Some n → n ≤ j
    → written (commaed (pair_fields (drop j (pairs_of o)))) s ≡ s
unfolding written commaed
pairs_all o n j s h le =
    let e = counted o n h in
    ap (λ ps. written (commaed (pair_fields ps)) s) (drop_all j (pairs_of o) (omega arith))

-- the parts of a line, joined
whole : (k : ℕ) (e : Posted) → (head_text k (id_of e) e.void e.hand (length e.pairs) ++ commaed (pair_fields e.pairs)) ++ (10 ∷ []) ≡ entry_line k e
whole k e =
    ap (λ bs. bs ++ (10 ∷ []))
    (append_assoc (decimal k) _ (commaed (pair_fields e.pairs)) ∙ ap (λ bs. decimal k ++ bs) (commaed_append _ (pair_fields e.pairs)))

-- the head, the pairs and the line feed make the line
pub line_from_parts : (o : Option Posted) (k : ℕ) (id : PostingId) (void : Bool) (hand cents : ℤ) (count : ℕ) (out p : List ℕ) (s t u v : LineBuffer)
    → Some id ≡ option_map id_of o → Some void ≡ option_map (λ e. e.void) o → Some hand ≡ option_map (λ e. e.hand) o → Some count ≡ option_map (λ e. length e.pairs) o
    → cents ≡ hand → state s ≡ (0, out) → Wrote (head_text k id void cents count) s t → Wrote (commaed (pair_fields (pairs_of o))) t u → Wrote (10 ∷ []) u v → p ≡ v.out.now
    → (Some v.at, p) ≡ put_of k o out
line_from_parts None k id void hand cents count out p s t u v i w h n same start x y z back = absurd (none_apart id i)
line_from_parts (Some e) k id void hand cents count out p s t u v i w h n same start x y z back =
    let head : Wrote (head_text k (id_of e) e.void e.hand (length e.pairs)) s t = record { bytes = cc; lender = x.lender } in
    let all : Wrote (entry_line k e) s v = subst (λ bs. Wrote bs s v) (whole k e) (then_wrote _ _ _ _ _ (then_wrote _ _ _ _ _ head y) z) in
    let line : state v ≡ written (entry_line k e) (0, out) = all.bytes ∙ ap (written (entry_line k e)) start in
    ap (λ bs. (Some v.at, bs)) back ∙ ap (λ w. (Some w.0, w.1)) line

-- the place that a trial tells is the line's length, if that is in reach
told : (line trial left : List ℕ) (n : ℕ) → (Some n, left) ≡ put_for line trial → n ≡ min (length line) (2 ^ 64 - 1)
told line trial left n h =
    let f : Some n ≡ Some (written line (0, trial)).0 = ap (λ v. v.0) h in
    let i : n ≡ (written line (0, trial)).0 = cc in
    i ∙ place_after line trial 0 (omega arith) ∙ omega arith

-- a trial that ends past the slice: the line is refused, and the bytes stay
pub line_too_long : (o : Option Posted) (k n : ℕ) (trial left out : List ℕ) → (Some n, left) ≡ put_of k o trial → length out < n
    → (Err DoesNotFit ≡ answer_of k (length out) o) × (out ≡ line_over k o out)
line_too_long None k n trial left out h long = absurd (none_apart n (ap (λ v. v.0) h))
line_too_long (Some e) k n trial left out h long =
    let line = entry_line k e in
    let t = told line trial left n h in
    let f = lt-leb (length line) (length out) (omega arith) in
    (ap (λ b. cond b (Ok (length line)) (Err DoesNotFit)) (sym f), ap (λ b. cond b (line ++ drop (length line) out) out) (sym f))

-- a trial that ends inside it: the line is written in front
pub line_fits : (o : Option Posted) (k n : ℕ) (trial left out p : List ℕ) (r : Option ℕ) → (Some n, left) ≡ put_of k o trial → n ≤ length out → length out < 2 ^ 64 - 1 → (r, p) ≡ put_of k o out
    → (Ok n ≡ answer_of k (length out) o) × (p ≡ line_over k o out)
line_fits None k n trial left out p r h fits small w = absurd (none_apart n (ap (λ v. v.0) h))
line_fits (Some e) k n trial left out p r h fits small w =
    let line = entry_line k e in
    let t = told line trial left n h in
    let long : n ≡ length line = omega arith in
    let f = le-leb (length line) (length out) (omega arith) in
    let q : p ≡ (written line (0, out)).1 = ap (λ v. v.1) w in (
      ap Ok long ∙ ap (λ b. cond b (Ok (length line)) (Err DoesNotFit)) (sym f),
      q ∙ written_front line out (omega arith) (omega arith) ∙ ap (λ b. cond b (line ++ drop (length line) out) out) (sym f),
    )
