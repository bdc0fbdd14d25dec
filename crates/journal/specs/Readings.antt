-- What a list of entries answers to the questions of a reading. What does not exist is none.
use Rattle.std.specs.Prelude.{ℕ, Bool, cond, List, [], ◌∷◌, length, ℤ, Some, None, Option, ◌==◌}
use Rattle.std.specs.Option.{option_map}
use Rattle.std.specs.List.{slice_get}
use Rattle.journal.specs.Entries.{Posted}
use Rattle.journal.specs.declared.entry.Pair.{Pair}
use Rattle.journal.specs.declared.entry.PostingId.{PostingId}

abbrev pub id_of : Posted → PostingId
id_of e = record { house = e.house; number = e.number }

abbrev pub id_at : List Posted → ℕ → Option PostingId
id_at es k = option_map id_of (slice_get es k)

abbrev pub void_at : List Posted → ℕ → Option Bool
void_at es k = option_map (λ e. e.void) (slice_get es k)

abbrev pub hand_at : List Posted → ℕ → Option ℤ
hand_at es k = option_map (λ e. e.hand) (slice_get es k)

abbrev pub count_at : List Posted → ℕ → Option ℕ
count_at es k = option_map (λ e. length e.pairs) (slice_get es k)

abbrev pub pair_of : ℕ → Option Posted → Option Pair
pair_of j None = None
pair_of j (Some e) = slice_get e.pairs j

abbrev pub pair_in : List Posted → ℕ → ℕ → Option Pair
pair_in es k j = pair_of j (slice_get es k)

-- the value in the pair with this account
abbrev pub given_in : List Pair → ℕ → Option ℤ
given_in [] a = None
given_in (p ∷ ps) a = cond (p.account == a) (Some p.value) (given_in ps a)

abbrev pub given_of : ℕ → Option Posted → Option ℤ
given_of a None = None
given_of a (Some e) = given_in e.pairs a

-- the value that entry k gives account a
abbrev pub given_at : List Posted → ℕ → ℕ → Option ℤ
given_at es k a = given_of a (slice_get es k)
