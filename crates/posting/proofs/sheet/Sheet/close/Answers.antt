use Rattle.std.proofs.Common.{◌≡◌, ◌+◌, ◌<◌, length, Some, sym, ap, ◌∙◌, subst, arith, w64, SFits, rules}
use Rattle.std.proofs.lemmas.Int.{to_z-of_z}
use Rattle.posting.proofs.Gathered.{Gathered, passed, has_room, joined, gathered}
use Rattle.posting.proofs.sheet.Sheet.close.Goals.{in-Some, in_default}
use Rattle.posting.proofs.sheet.Sheet.close.Goals as goal

pub add-requires : goal.add-requires
add-requires c =
    let all : length c.args.self.now.written ≡ 64 = search rules in
    (has_room c.args.self.now c.loop-account.account _ _ (omega (arith, all, c.loop-account-test.true)) c.in-Some.is c.requires c.loop-account.invariant, c.loop-account.invariant.room)

pub loop-account-preserved : goal.loop-account-preserved
loop-account-preserved c =
    let s = c.args.self.now in
    let a = c.loop-account.account in
    let all : length s.written ≡ 64 = search rules in
    let lt : a < length s.written = omega (arith, all, c.loop-account-test.true) in
    elim c.match-value.branch [
      | in-Some w ↦
          let fits : SFits w64 w.in-Some.value = search rules in
          subst (Gathered s (a + 1)) (sym w.draft-is)
          (joined s a c.loop-account.draft w.add.new.self _ lt (w.in-Some.is ∙ ap Some (sym (to_z-of_z w64 w.in-Some.value fits)))
          c.loop-account.invariant w.add.ensures.value w.add.ensures.count w.add.ensures.room)
      | in_default w ↦
          subst (Gathered s (a + 1)) (sym w.draft-is) (passed s a c.loop-account.draft lt (search rules) c.loop-account.invariant)
    ]

pub returns-clause-value : goal.returns-clause-value
returns-clause-value c = gathered c.args.self.now c.loop-account.account _ (search rules) c.loop-account.invariant
