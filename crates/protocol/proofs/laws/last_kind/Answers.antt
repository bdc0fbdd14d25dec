use Rattle.std.proofs.Common.{refl}
use Rattle.protocol.proofs.EveryOffice.{every_office_keeps, help_is_sooner, every_turn_has_one_outcome, filing_is_never_refused, every_call_at_patience, idle_with_nothing_to_do, all_idle_is_all_done, settled_is_settled, first_to_call_is_first, left_alone_it_finishes, reads_decide}
use Rattle.protocol.proofs.TurnsTaken.{run_is_turns}
use Rattle.protocol.proofs.Worked.{a_worked_run, help_is_no_sooner}
use Rattle.protocol.proofs.laws.last_kind.Goals as goal

pub returns : goal.returns
returns c = record {
  kind = refl;
  promise = every_office_keeps;
  sooner = help_is_sooner;
  no_sooner = help_is_no_sooner;
  one_outcome = every_turn_has_one_outcome;
  filing = filing_is_never_refused;
  patience = every_call_at_patience;
  idle = idle_with_nothing_to_do;
  done = all_idle_is_all_done;
  settled = settled_is_settled;
  first = first_to_call_is_first;
  alone = left_alone_it_finishes;
  run = run_is_turns;
  reads = reads_decide;
  worked = a_worked_run;
}
