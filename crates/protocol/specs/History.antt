-- What a journal says up to a place: which posting an entry is, how many entries of a house there are, and its last closing hand.
use Rattle.std.specs.Prelude.{◌≡◌, ℕ, zero, suc, ◌<◌, Bool, false, cond, ◌&&◌, ◌||◌, List, [], ◌∷◌, length, ℤ, pos, Some, None, Option, ◌==◌, nat_eq, slice_index_or}
use Rattle.journal.specs.Entries.{Posted}
use Rattle.journal.specs.declared.entry.Pair.{Pair}
use Rattle.journal.specs.declared.entry.PostingId.{PostingId}
use Rattle.protocol.specs.Counting.{how_many}

abbrev pub no_entry : Posted
no_entry = record { house = 0; number = 0; void = false; hand = pos 0; pairs = [] }

unfoldable pub entry_at : List Posted → ℕ → Posted
entry_at es k = slice_index_or es k no_entry

-- entry k is posting n of house h
abbrev pub Stands : List Posted → ℕ → ℕ → ℕ → Type 0
Stands es k h n = (k < length es) × ((entry_at es k).house ≡ h) × ((entry_at es k).number ≡ n)

-- the same test on what a reading tells of an entry
abbrev pub is_posting : Option PostingId → ℕ → ℕ → Bool
is_posting None h n = false
is_posting (Some id) h n = id.house == h && id.number == n

-- how many of the first k entries are of house h
unfoldable pub entries_of : List Posted → ℕ → ℕ → ℕ
entries_of es h k = how_many (λ i. nat_eq (entry_at es i).house h) k

-- the closing hand of the last of the first k entries that is of house h, or 0 where there is none
unfoldable pub last_hand : List Posted → ℕ → ℕ → ℤ
last_hand es h zero = pos 0
last_hand es h (suc k) = cond ((entry_at es k).house == h) (entry_at es k).hand (last_hand es h k)

-- one of the pairs gives an account among the reads
abbrev pub touches : List Bool → List Pair → Bool
touches reads [] = false
touches reads (p ∷ ps) = slice_index_or reads p.account false || touches reads ps
