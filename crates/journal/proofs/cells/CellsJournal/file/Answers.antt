use Rattle.std.proofs.Common.{ℕ, length, set, sym, ap, ◌∙◌, arith, rules}
use Rattle.roll.specs.Rolls.{items, cells_of, capacity_of}
use Rattle.roll.proofs.Pushes.{was_full}
use Rattle.journal.proofs.Filed.{room_to_file, records_push}
use Rattle.journal.proofs.cells.CellsJournal.file.Goals as goal

-- there was room, so the push is not refused
pub returns-in_err-push-clause-answer : goal.returns-in_err-push-clause-answer
returns-in_err-push-clause-answer c =
    let s = c.args.self.now in
    let room = room_to_file s c.args.e.now c.args.place (search rules) in
    let full = was_full (length (items s.roll)) (capacity_of s.roll) _ (sym c.in_err-push.was ∙ c.push.ensures.answer) in
    absurd (omega arith)

pub returns-clause-entries : goal.returns-clause-entries
returns-clause-entries c =
    let s = c.args.self.now in
    let room = room_to_file s c.args.e.now c.args.place (search rules) in
    records_push (items s.roll) _ c.args.e.now room.below c.in_ok-push.ensures.items

pub returns-clause-cells : goal.returns-clause-cells
returns-clause-cells c =
    let s = c.args.self.now in
    let room = room_to_file s c.args.e.now c.args.place (search rules) in
    c.in_ok-push.ensures.cells ∙ ap (λ (n : ℕ). set (cells_of s.roll) n c.args.e.now) room.all
