-- The refusals of a batch: each with its number, its line and its field.
use Rattle.std.specs.Prelude.{ℕ}
use Rattle.batch.specs.declared.items.Fault.{Fault}
use Rattle.batch.specs.declared.items.Fault.TheVariants as fault
use Rattle.batch.specs.declared.items.BatchRefusal.{BatchRefusal}
use Rattle.batch.specs.declared.items.BatchRefusal.TheVariants.{Size, Form, Place, Field, Room, End}

abbrev pub refusal_number : BatchRefusal → ℕ
refusal_number Size = 11
refusal_number (Form line) = 12
refusal_number (Place line) = 13
refusal_number (Field line field) = 14
refusal_number (Room line) = 15
refusal_number (End line) = 16

abbrev pub refusal_line : BatchRefusal → ℕ
refusal_line Size = 0
refusal_line (Form line) = line
refusal_line (Place line) = line
refusal_line (Field line field) = line
refusal_line (Room line) = line
refusal_line (End line) = line

abbrev pub refusal_field : BatchRefusal → ℕ
refusal_field Size = 0
refusal_field (Form line) = 0
refusal_field (Place line) = 0
refusal_field (Field line field) = field
refusal_field (Room line) = 0
refusal_field (End line) = 0

-- the refusal of a batch by a fault of this line
abbrev pub refusal_at : ℕ → Fault → BatchRefusal
refusal_at n fault.Form = Form n
refusal_at n fault.Place = Place n
refusal_at n (fault.Field f) = Field n f
refusal_at n fault.Room = Room n
