-- The marks: their letters, how many fields their lines have, and where they may stand.
use Rattle.std.specs.Prelude.{ℕ, Bool, true, false, cond, ◌&&◌, List, [], ◌∷◌, Some, None, Option, ◌==◌, nat_lt}
use Rattle.batch.specs.declared.items.Kind.{Kind}
use Rattle.batch.specs.declared.items.Kind.TheVariants.{Take, Join, Set, Raise, Need, Write}
use Rattle.batch.specs.declared.items.Mark.{Mark}
use Rattle.batch.specs.declared.items.Mark.TheVariants.{Begin, Opening, House, Posting, Order, Run}
use Rattle.batch.specs.declared.progress.Stage.{Stage}
use Rattle.batch.specs.declared.progress.Stage.TheVariants.{Start, Heading, Housing, Drafting, Running}
use Rattle.batch.specs.declared.progress.Progress.{Progress}

-- T U S A N W
abbrev pub kind_code : Kind → ℕ
kind_code Take = 84
kind_code Join = 85
kind_code Set = 83
kind_code Raise = 65
kind_code Need = 78
kind_code Write = 87

-- B O H P G, and those of the order lines
abbrev pub code : Mark → ℕ
code Begin = 66
code Opening = 79
code House = 72
code Posting = 80
code (Order k) = kind_code k
code Run = 71

-- the mark that a letter stands for
abbrev pub letter_mark : ℕ → Option Mark
letter_mark c =
    cond (c == 66) (Some Begin) (cond (c == 79) (Some Opening) (cond (c == 72) (Some House) (cond (c == 80) (Some Posting) (cond (c == 71) (Some Run)
    (cond (c == 84) (Some (Order Take)) (cond (c == 85) (Some (Order Join)) (cond (c == 83) (Some (Order Set)) (cond (c == 65) (Some (Order Raise))
    (cond (c == 78) (Some (Order Need)) (cond (c == 87) (Some (Order Write)) None))))))))))

-- the mark is one letter
abbrev pub mark_in : List ℕ → Option Mark
mark_in [] = None
mark_in (c ∷ []) = letter_mark c
mark_in (c ∷ d ∷ cs) = None

-- how many fields a line has, the mark included
abbrev pub field_count : Mark → ℕ
field_count Begin = 4
field_count Opening = 3
field_count House = 3
field_count Posting = 1
field_count (Order k) = 2
field_count Run = 3

abbrev row : Bool → Bool → Bool → Bool → Bool → Stage → Bool
row a b c d e Start = a
row a b c d e Heading = b
row a b c d e Housing = c
row a b c d e Drafting = d
row a b c d e Running = e

-- where a mark may stand: as the first line, after B or O, after H, after P or an order line, after G
abbrev pub follows : Mark → Stage → Bool
follows Begin = row true false false false false
follows Opening = row false true false false false
follows House = row false true true true false
follows Posting = row false false true true false
follows (Order k) = row false false false true false
follows Run = row false false true true true

-- a house has at most 4,096 postings, and a posting at most 16 order lines
abbrev pub counts : Progress → Mark → Bool
counts s Begin = true
counts s Opening = true
counts s House = true
counts s Posting = nat_lt s.here 4096
counts s (Order k) = nat_lt s.lines 16
counts s Run = true

abbrev pub stands : Progress → Mark → Bool
stands s m = follows m s.stage && counts s m
