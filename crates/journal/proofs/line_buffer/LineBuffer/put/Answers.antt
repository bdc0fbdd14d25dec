use Rattle.std.proofs.Common.{◌≡◌, ℕ, ◌+◌, ◌-◌, ◌^◌, ◌≤◌, min, length, set, sym, ap, ◌∙◌, arith}
use Rattle.std.proofs.lemmas.List.{set_past}
use Rattle.journal.specs.declared.line_buffer.LineBuffer.{LineBuffer}
use Rattle.journal.proofs.Written.{written_one}
use Rattle.journal.proofs.line_buffer.LineBuffer.put.Goals as goal
use Rattle.journal.proofs.line_buffer.LineBuffer.put.Goals.{then-self, else-self}

pub returns : goal.returns
returns c =
    let s = c.args.self.now in
    let bytes : c.if-self.self.out.now ≡ set s.out.now s.at c.args.byte =
    elim c.if-self.branch [
      | then-self w ↦ ap (λ (l : LineBuffer). l.out.now) w.self-is
      | else-self w ↦ let past : length s.out.now ≤ s.at = omega arith in ap (λ (l : LineBuffer). l.out.now) w.self-is ∙ sym (set_past _ _ _ past)
    ] in
    let at : c.if-self.self.at ≡ s.at =
    elim c.if-self.branch [
      | then-self w ↦ ap (λ (l : LineBuffer). l.at) w.self-is
      | else-self w ↦ ap (λ (l : LineBuffer). l.at) w.self-is
    ] in
    let lender : c.if-self.self.out.ghost_name ≡ s.out.ghost_name =
    elim c.if-self.branch [
      | then-self w ↦ ap (λ (l : LineBuffer). l.out.ghost_name) w.self-is
      | else-self w ↦ ap (λ (l : LineBuffer). l.out.ghost_name) w.self-is
    ] in
    record { bytes = written_one s.at _ c.args.byte s.out.now _ (c.saturating_add-self.ensures ∙ ap (λ (n : ℕ). min (n + 1) (2 ^ 64 - 1)) at) bytes; lender = lender }
