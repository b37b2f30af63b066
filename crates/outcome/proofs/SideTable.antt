-- What a `|` with two timed sides means, by computing the definitions.
use mathlib.Core.Path.{refl}
use native.Mathlib.Omega.{arith}
use Rattle.base.specs.Text.{ascii}
use Rattle.base.specs.Answers.{verdict_said, reason_said, refusal_said}
use Rattle.std.specs.Prelude.{Err, Ok}
use Rattle.base.specs.declared.Reason.TheVariants.{Broken}
use Rattle.base.specs.declared.Refusal.TheVariants.{NoTable, Alternatives}
use Rattle.outcome.specs.Check.{good_table, not_good, verdict}
use Rattle.outcome.specs.TinyTowers.{one_state, two_states, leaves_p0, enters_p0}
use Rattle.outcome.specs.SideTable.{sides, around, one_step, SideTable}
use Rattle.outcome.proofs.ElevenOutcomes.{opened}
use Rattle.outcome.proofs.TinyTowers.{makes_refused, makes_made, says_refused, says_made, judges, two}

-- All of them.
pub side_table : SideTable
unfolding opened one_state two_states two one_step sides around verdict verdict_said reason_said refusal_said
side_table =
    record {
      first_side = says_made (one_state 1) "start A 9 p0 | A 9 p1\n" one_step (omega arith) refl;
      second_side = says_made (one_state 2) "start A 9 p0 | A 9 p1\n" one_step (omega arith) refl;
      both_sides = says_made (one_state 3) "always A 9 p0 | A 9 p1\n" one_step (omega arith) refl;
      no_side = says_refused (one_state 4) "start A 9 p0 | A 9 p1\n" NoTable refl;
      side_judged = judges (one_state 2) (ascii "start A 9 p0 | A 9 p1\n") one_step (Ok good_table) refl;
      no_side_judged = judges (one_state 4) (ascii "start A 9 p0 | A 9 p1\n") one_step (Ok (not_good Broken)) refl;
      later_second = says_made (enters_p0 6) "start E 4 p0 | E 6 p0\n" two (omega arith) refl;
      later_first = says_made (enters_p0 6) "start E 6 p0 | E 4 p0\n" two (omega arith) refl;
      too_late = says_refused (enters_p0 7) "start E 4 p0 | E 6 p0\n" NoTable refl;
      one_then_other = says_refused (leaves_p0 9) "start A 9 !p0 | A 9 p0\n" NoTable refl;
      other_ended = says_made (leaves_p0 10) "start A 9 !p0 | A 9 p0\n" two (omega arith) refl;
      sixteen = makes_made (one_state 0) (around "start " 16 "\n") one_step (omega arith) refl;
      seventeen = makes_refused (one_state 0) (around "start " 17 "\n") Alternatives refl;
      all_dropped = makes_made (one_state 0) (around "start " 16 " | A 4 T\n") one_step (omega arith) refl;
      untimed_holds = makes_made (one_state 1) (around "start p0 | (" 17 ")\n") one_step (omega arith) refl;
      untimed_fails = makes_refused (one_state 0) (around "start p0 | (" 17 ")\n") Alternatives refl;
      until_ends = makes_made (one_state 1) (around "start U 5 (" 17 ", p0)\n") one_step (omega arith) refl;
      until_breaks = makes_refused (one_state 0) (around "start U 4 (" 17 ", p0)\n") NoTable refl;
      until_stays = makes_refused (one_state 0) (around "start U 5 (" 17 ", p0)\n") Alternatives refl;
      broken_side = makes_refused (one_state 0) (around "start F & (" 17 ")\n") Alternatives refl;
      broken_line = makes_refused (one_state 0) (around "start F\nstart " 17 "\n") Alternatives refl;
      broken_judged = judges (one_state 0) (around "start F\nstart " 17 "\n") one_step (Err Alternatives) refl;
    }
