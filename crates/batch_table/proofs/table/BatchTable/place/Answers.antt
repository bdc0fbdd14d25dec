use Rattle.std.proofs.Common.{refl, arith}
use Rattle.batch_table.proofs.TableLines.{found_at}
use Rattle.batch_table.proofs.table.BatchTable.place.Goals as goal

pub returns : goal.returns
returns c =
    let t = c.args.self.now in
    found_at t.houses c.args.posting.house c.args.posting.number _ _ t.postings.now t.lines.now t.good
    (t.begun c.args.posting.house (omega (arith, c.requires.house, t.few))) c.requires.some c.requires.few refl
