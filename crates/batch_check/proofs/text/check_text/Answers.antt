use Rattle.std.proofs.Common.{◌≡◌, ℕ, List, IfOk, Ok, Err, string_bytes, Result, subst, arith, rules}
use Rattle.batch.specs.declared.items.Item.{Item}
use Rattle.batch.specs.declared.items.BatchRefusal.{BatchRefusal}
use Rattle.batch.specs.Reading.{batch, answered}
use Rattle.batch_check.specs.Printed.{refused_text, text_for, tables}
use Rattle.batch_check.proofs.text.check_text.Goals as goal

refused : (b : Result (List Item) BatchRefusal) (e : BatchRefusal) → Err e ≡ answered b → refused_text e ≡ text_for b
refused (Ok past) e h = absurd (let z : ◌≡◌ {A = ℕ} 0 1 = cc in omega arith)
refused (Err f) e h = cc

pub returns-in-Err : goal.returns-in-Err
returns-in-Err c =
    let b = batch tables c.args.bytes.now in
    let told : Err c.in-Err.refusal ≡ answered b = search rules in
    subst (λ l. IfOk c.refused_text.result (λ text. string_bytes text ≡ l)) (refused b c.in-Err.refusal told) c.refused_text.ensures
