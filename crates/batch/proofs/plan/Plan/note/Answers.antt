use Rattle.std.proofs.Common.{◌<◌, pos, sym, subst, arith, w64, SFits, rules}
use Rattle.std.proofs.lemmas.Int.{to_z-of_z}
use Rattle.journal.specs.Entries.{InRange}
use Rattle.batch.specs.declared.items.Item.TheVariants.{Opened, Kept}
use Rattle.batch.specs.Limits.{Within}
use Rattle.batch.proofs.Zeros.{set_all}
use Rattle.batch.proofs.plan.Plan.note.Goals as goal

pub invariant_of-self : goal.invariant_of-self
invariant_of-self c =
    let p = c.args.self.now in
    let o = c.in-Opened.opens in
    let w : Within c.args.known.now (Opened o) = subst (Within c.args.known.now) c.in-Opened.is c.requires.within in
    let f : SFits w64 o.cents = search rules in
    record {
      house = p.house;
      worker = p.worker;
      patient = p.patient;
      kept = p.kept;
      ranged = set_all InRange p.openings o.account _ (pos 0) p.ranged (subst InRange (sym (to_z-of_z w64 o.cents f)) w.2);
    }

pub invariant_of-self-in-Kept : goal.invariant_of-self-in-Kept
invariant_of-self-in-Kept c =
    let p = c.args.self.now in
    let w : Within c.args.known.now (Kept c.in-Kept.keeper) = subst (Within c.args.known.now) c.in-Kept.is c.requires.within in
    let k : c.in-Kept.keeper < p.workers = omega (arith, w.1, c.requires.workers, p.worker.0) in
    record {
      house = p.house;
      worker = p.worker;
      patient = p.patient;
      kept = set_all (λ x. x < p.workers) p.keepers c.args.known.now.seen c.in-Kept.keeper 0 p.kept k;
      ranged = p.ranged;
    }
