-- What is written piece by piece is written as a whole, and lies in front of what was there.
use Rattle.std.proofs.Common.{◌≡◌, ℕ, ◌+◌, ◌-◌, ◌^◌, ◌≤◌, min, Bool, true, false, List, [], ◌∷◌, ◌++◌, length, drop, set, sym, refl, ap, subst, ◌∙◌, append_assoc, append-nil, arith, length-append, get_or, add-one, drop-cons, ◌<◌}
use mir.Val.{bool_byte}
use Rattle.std.proofs.lemmas.List.{set-append_right, drop_all}
use Rattle.journal.specs.Lines.{commaed, void_mark}
use Rattle.journal.specs.Writing.{written, state, Wrote}
use Rattle.journal.specs.declared.line_buffer.LineBuffer.{LineBuffer}

-- one byte is a store, which past the end changes nothing
pub written_one : (at next b : ℕ) (o p : List ℕ) → next ≡ min (at + 1) (2 ^ 64 - 1) → p ≡ set o at b → (next, p) ≡ written (b ∷ []) (at, o)
unfolding written
written_one at next b o p e f = cc

-- one piece after another is both joined
pub written_append : (xs ys : List ℕ) (s : ℕ × List ℕ) → written ys (written xs s) ≡ written (xs ++ ys) s
unfolding written
written_append [] ys s = refl
written_append (x ∷ xs) ys s = written_append xs ys _

-- a byte written is a byte less to write
pub written_next : (bs : List ℕ) (i : ℕ) (s t : ℕ × List ℕ) → i < length bs → t ≡ written (get_or bs i 0 ∷ []) s → written (drop (i + 1) bs) t ≡ written (drop i bs) s
written_next bs i s t h e =
    ap (written (drop (i + 1) bs)) e ∙ written_append (get_or bs i 0 ∷ []) (drop (i + 1) bs) s ∙ ap (λ r. written r s) (sym (rw add-one (drop-cons bs i 0 h)))

-- after all bytes none is left
pub written_none : (bs : List ℕ) (i : ℕ) (s : ℕ × List ℕ) → length bs ≤ i → written (drop i bs) s ≡ s
unfolding written
written_none bs i s h = ap (λ r. written r s) (drop_all i bs h)

-- the same of two writes in turn
pub then_wrote : (s t u : LineBuffer) (xs ys : List ℕ) → Wrote xs s t → Wrote ys t u → Wrote (xs ++ ys) s u
then_wrote s t u xs ys e f = record {
  bytes = f.bytes ∙ ap (written ys) e.bytes ∙ written_append xs ys (state s);
  lender = f.lender ∙ e.lender;
}

-- the fields one by one
pub commaed_none : commaed [] ≡ []
unfolding commaed
commaed_none = refl

pub commaed_more : (f : List ℕ) (fs : List (List ℕ)) → commaed (f ∷ fs) ≡ 44 ∷ (f ++ commaed fs)
unfolding commaed
commaed_more f fs = refl

-- fields after fields are both joined
pub commaed_append : (fs gs : List (List ℕ)) → commaed fs ++ commaed gs ≡ commaed (fs ++ gs)
unfolding commaed
commaed_append [] gs = refl
commaed_append (f ∷ fs) gs = ap (λ r. 44 ∷ r) (append_assoc f (commaed fs) (commaed gs) ∙ ap (λ r. f ++ r) (commaed_append fs gs))

-- the same of two writes in turn
pub then_fields : (s t u : LineBuffer) (fs gs : List (List ℕ)) → Wrote (commaed fs) s t → Wrote (commaed gs) t u → Wrote (commaed (fs ++ gs)) s u
then_fields s t u fs gs e f = subst (λ bs. Wrote bs s u) (commaed_append fs gs) (then_wrote s t u _ _ e f)

-- a comma and a number are a field
pub one_field : (s t u : LineBuffer) (f : List ℕ) → Wrote (44 ∷ []) s t → Wrote f t u → Wrote (commaed (f ∷ [])) s u
unfolding commaed
one_field s t u f e h = subst (λ bs. Wrote (44 ∷ bs) s u) (sym (append-nil f)) (then_wrote s t u (44 ∷ []) f e h)

-- the byte of a mark is its number
pub void_byte : (b : Bool) → bool_byte b ≡ void_mark b
void_byte true = refl
void_byte false = refl

-- the place after the last byte
pub place_after : (bs o : List ℕ) (at : ℕ) → at ≤ 2 ^ 64 - 1 → (written bs (at, o)).0 ≡ min (at + length bs) (2 ^ 64 - 1)
unfolding written
place_after [] o at h = omega arith
place_after (b ∷ bs) o at h = place_after bs (set o at b) (min (at + 1) (2 ^ 64 - 1)) (omega arith) ∙ omega arith

-- a piece written behind a front that is done
behind : (p o bs : List ℕ) (at : ℕ) → at ≡ length p → length bs ≤ length o → length p + length o ≤ 2 ^ 64 - 1
    → (written bs (at, p ++ o)).1 ≡ p ++ (bs ++ drop (length bs) o)
unfolding written
behind p o [] at e h small = refl
behind p [] (b ∷ bs) at e h small = absurd (omega arith)
behind p (x ∷ o) (b ∷ bs) at e h small =
    let z : at - at ≡ 0 = omega arith in
    let here : set (p ++ (x ∷ o)) at b ≡ (p ++ (b ∷ [])) ++ o =
    set-append_right p (x ∷ o) at at b (sym e) (omega arith) ∙ ap (λ n. p ++ set (x ∷ o) n b) z ∙ sym (append_assoc p (b ∷ []) o) in
    let on : min (at + 1) (2 ^ 64 - 1) ≡ length (p ++ (b ∷ [])) = rw length-append (omega arith) in
    let room : length (p ++ (b ∷ [])) + length o ≤ 2 ^ 64 - 1 = rw length-append (omega arith) in
    ap (λ l. (written bs (min (at + 1) (2 ^ 64 - 1), l)).1) here
    ∙ behind (p ++ (b ∷ [])) o bs (min (at + 1) (2 ^ 64 - 1)) on (omega arith) room
    ∙ append_assoc p (b ∷ []) (bs ++ drop (length bs) o)

-- what has room in front lies there, and the bytes past it stay
pub written_front : (bs o : List ℕ) → length bs ≤ length o → length o ≤ 2 ^ 64 - 1 → (written bs (0, o)).1 ≡ bs ++ drop (length bs) o
written_front bs o h small = behind [] o bs 0 refl h (omega arith)
