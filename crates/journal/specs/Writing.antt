-- Writing at a place of a slice: the place goes on past the slice's end, and the bytes there are dropped.
use Rattle.std.specs.Prelude.{◌≡◌, ℕ, ◌+◌, ◌-◌, ◌^◌, min, Bool, List, [], ◌∷◌, ◌++◌, ℤ, Some, None, decimal, Option, slice_set}
use Rattle.std.specs.Fmt.{signed_decimal}
use Rattle.std.specs.List.{slice_get}
use Rattle.journal.specs.Entries.{Posted}
use Rattle.journal.specs.Lines.{commaed, void_mark, entry_line}
use Rattle.journal.specs.declared.entry.Pair.{Pair}
use Rattle.journal.specs.declared.entry.PostingId.{PostingId}
use Rattle.journal.specs.declared.line_buffer.LineBuffer.{LineBuffer}

-- bytes written in a state, which is a place and the bytes of the slice; the place stops at the greatest `usize`
unfoldable pub written : List ℕ → ℕ × List ℕ → ℕ × List ℕ
written [] s = s
written (b ∷ bs) s = written bs (min (s.0 + 1) (2 ^ 64 - 1), slice_set s.1 s.0 b)

-- a line that is being written is such a state
abbrev pub state : LineBuffer → ℕ × List ℕ
state l = (l.at, l.out.now)

-- these bytes were written, in the memory of the same lender
pub record Wrote (bs : List ℕ) (before after : LineBuffer) : Type 0 where
  pub bytes : state after ≡ written bs (state before)
  pub lender : after.out.ghost_name ≡ before.out.ghost_name

-- what a line has before the pairs
abbrev pub head_text : ℕ → PostingId → Bool → ℤ → ℕ → List ℕ
head_text k id void hand count =
    decimal k ++ commaed (decimal id.house ∷ decimal id.number ∷ decimal (void_mark void) ∷ signed_decimal hand ∷ decimal count ∷ [])

abbrev pub pairs_of : Option Posted → List Pair
pairs_of None = []
pairs_of (Some e) = e.pairs

abbrev pub pairs_at : List Posted → ℕ → List Pair
pairs_at es k = pairs_of (slice_get es k)

-- the place and the bytes, once the whole line is written from the front on; none and the same bytes, if there is no entry

abbrev pub put_for : List ℕ → List ℕ → Option ℕ × List ℕ
put_for line out = (Some (written line (0, out)).0, (written line (0, out)).1)

abbrev pub put_of : ℕ → Option Posted → List ℕ → Option ℕ × List ℕ
put_of k None out = (None, out)
put_of k (Some e) out = put_for (entry_line k e) out

abbrev pub line_put : List Posted → ℕ → List ℕ → Option ℕ × List ℕ
line_put es k out = put_of k (slice_get es k) out
