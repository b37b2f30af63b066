-- What the kinds of actions mean, by computing the definitions.
use mathlib.Core.Path.{refl}
use native.Mathlib.Omega.{arith}
use Rattle.base.specs.Text.{ascii}
use Rattle.base.specs.Answers.{verdict_said, reason_said, refusal_said}
use Rattle.std.specs.Prelude.{Ok}
use Rattle.base.specs.declared.Reason.TheVariants.{Withheld, Stopped}
use Rattle.base.specs.declared.Refusal.TheVariants.{Action, NoTable}
use Rattle.outcome.specs.Check.{good_table, not_good, verdict}
use Rattle.outcome.specs.KindTable.{two_kinds, one_tick, first_alone, both, KindTable}
use Rattle.outcome.proofs.ElevenOutcomes.{opened}
use Rattle.outcome.proofs.TinyTowers.{says_refused, says_made, judges}

-- All of them.
pub kind_table : KindTable
unfolding opened two_kinds first_alone both verdict verdict_said reason_said refusal_said
kind_table =
    record {
      by_player = says_refused (two_kinds 0 1) one_tick NoTable refl;
      by_us = says_made (two_kinds 1 1) one_tick first_alone (omega arith) refl;
      by_clock = says_made (two_kinds 2 1) one_tick first_alone (omega arith) refl;
      by_player_judged = judges (two_kinds 0 1) (ascii one_tick) first_alone (Ok (not_good (Stopped 0))) refl;
      by_us_judged = judges (two_kinds 1 1) (ascii one_tick) first_alone (Ok good_table) refl;
      by_clock_judged = judges (two_kinds 2 1) (ascii one_tick) first_alone (Ok good_table) refl;
      player_withheld = says_refused (two_kinds 1 0) one_tick NoTable refl;
      clock_withheld = says_refused (two_kinds 1 2) one_tick NoTable refl;
      player_withheld_judged = judges (two_kinds 1 0) (ascii one_tick) first_alone (Ok (not_good (Withheld 0))) refl;
      clock_withheld_judged = judges (two_kinds 1 2) (ascii one_tick) first_alone (Ok (not_good (Withheld 0))) refl;
      player_alone = says_refused (two_kinds 0 0) "" NoTable refl;
      clock_beside = says_made (two_kinds 0 2) "" both (omega arith) refl;
      kind_3 = says_refused (two_kinds 1 3) "" Action refl;
    }
