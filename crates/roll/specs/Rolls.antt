-- What a roll means: the list that it holds and the cells that it has not used yet.
use Rattle.std.specs.Prelude.{ℕ, cond, List, length, take, drop, Ok, Err, Result, nat_lt}
use Rattle.roll.specs.declared.Full.{Full}
use Rattle.roll.specs.declared.Roll.{Roll}

-- all cells lent to the roll, used or not
abbrev pub cells_of : {A : Type 0} → Roll A → List A
cells_of r = r.cells.now

-- the list: the used cells, in the order of their pushes
abbrev pub items : {A : Type 0} → Roll A → List A
items r = take r.used (cells_of r)

-- the cells that are not used yet, as the lender left them
abbrev pub unused : {A : Type 0} → Roll A → List A
unused r = drop r.used (cells_of r)

-- how many items it can hold
abbrev pub capacity_of : {A : Type 0} → Roll A → ℕ
capacity_of r = length (cells_of r)

-- what a push answers, by the roll's length and its capacity
abbrev pub pushing : ℕ → ℕ → Result (Unit {0}) Full
pushing len capacity = cond (nat_lt len capacity) (Ok tt) (Err record {})
