-- The numbers that a field may write.
use Rattle.std.specs.Prelude.{◌≡◌, ℕ, zero, suc, ◌≤◌, cond, ◌&&◌, List, [], ◌∷◌, ℤ, pos, negsuc, neg_ℤ, Some, None, decimal, Option, MatchOption, ◌==◌, ◌≢◌, nat_le}
use Rattle.std.specs.Option.{option_map}
use Rattle.std.specs.Str.Parse.{digits_value}
use Rattle.std.specs.Str.{bytes_eq}

-- the number from low to high whose decimal text the field is: no leading zero, no plus, no minus zero
unfoldable pub natural : ℕ → ℕ → List ℕ → Option ℕ
natural low high field =
    let n = digits_value 10 field in
    cond (bytes_eq field (decimal n) && (nat_le low n && nat_le n high)) (Some n) None

-- cents from -10^15 to 10^15: with a minus in front where they are below 0
unfoldable pub cents : List ℕ → Option ℤ
cents [] = None
cents (c ∷ cs) =
    cond (c == 45)
    (option_map (λ n. neg_ℤ (pos n)) (natural 1 1000000000000000 cs))
    (option_map pos (natural 0 1000000000000000 (c ∷ cs)))

-- cents other than 0
abbrev pub nonzero : Option ℤ → Option ℤ
nonzero None = None
nonzero (Some (pos zero)) = None
nonzero (Some (pos (suc n))) = Some (pos (suc n))
nonzero (Some (negsuc n)) = Some (negsuc n)

-- the number of which the field is the decimal text, if it is one of at most 10^15
abbrev pub Decimal : List ℕ → Option ℕ → Type 0
Decimal field r = MatchOption r ((n : ℕ) → n ≤ 1000000000000000 → field ≢ decimal n) (λ n. field ≡ decimal n)
