-- 02, item 4: the outcome of the entry that shows why. The checker's own answer; and where that is 14 e, a shortest allowed run that is broken, the
-- lowest line that it breaks, and where. 16 comes last, if the list is shorter than the run.
use Rattle.std.specs.Prelude.{ℕ, suc, List, [], ◌++◌, length, drop, ltb}
use Rattle.std.specs.Prelude.{unwrap_or}
use Rattle.base.specs.Choice.{pick}
use Rattle.base.specs.Bytes.{long_enough, cleared}
use Rattle.base.specs.Answers.{Answer, ◌if◌else◌, ◌then◌}
use Rattle.std.specs.Prelude.{Err, Ok}
use Rattle.base.specs.declared.Reason.TheVariants.{Start, Withheld, WrongStep, Stopped, Broken}
use Rattle.base.specs.declared.Refusal.TheVariants.{Area, Output}
use Rattle.base.specs.Answers.{WhyAnswer, run_shown}
use Rattle.std.specs.Prelude.{None}
use Rattle.base.specs.declared.Rejection.TheVariants as Rejected
use Rattle.logic.specs.Tower.{Tower}
use Rattle.logic.specs.Book.{Book}
use Rattle.logic.specs.Runs.{trace}
use Rattle.logic.specs.Tables.{Table, move}
use Rattle.logic.specs.Why.{rule_at}
use Rattle.logic.specs.declared.Position.{Position}
use Rattle.judging.specs.Judging.{judged_broken, lowest_line, broken_place}
use Rattle.first_runs.specs.FirstRun.{first_run}
use Rattle.reading.specs.TowerReading.{read_tower}
use Rattle.reading.specs.BookReading.{read_book}
use Rattle.reading.specs.TableReading.{read_table}
use Rattle.alternatives.specs.Pairs.{most_pairs}
use Rattle.outcome.specs.Areas.{check_areas}
use Rattle.outcome.specs.Check.{Finding, good_table, not_good, judge}

-- ---- what is shown

-- The run, the line and the position.
pub record Shown : Type 0 where
  pub run : List ℕ
  pub line : ℕ
  pub place : Position

-- Of all allowed runs, the shorter before the longer and those of one length by action numbers compared from the left, the first that is broken.
-- Where there is one, there is one of at most 1,000 actions.
unfoldable pub shown_run : Tower → Book → Table → List ℕ
shown_run tower book table = unwrap_or (first_run (move table) tower.actions 0 (judged_broken tower book) (suc most_pairs) 0) []

-- where the run breaks line k
unfoldable pub place_in : Tower → Book → List ℕ → ℕ → Position
place_in tower book w k = broken_place tower (trace tower w) (rule_at book k).form (rule_at book k).formula

-- the run with the lowest line that it breaks
unfoldable pub shown_of : Tower → Book → List ℕ → Shown
shown_of tower book w = record { run = w; line = lowest_line tower book w; place = place_in tower book w (lowest_line tower book w) }

-- ---- the outcome

-- What is found: the checker's own finding, or what is shown in place of 14 e.
pub data WhyFinding : Type 0 where
  own : Finding → WhyFinding
  shows : Shown → WhyFinding

-- a run for a list of so many bytes: 16, or what is shown
unfoldable pub shown_in : ℕ → Shown → Answer WhyFinding
shown_in room s = Output if ltb room (length s.run) else Ok (shows s)

-- behind the checker's finding
unfoldable pub why_behind : Tower → Book → Table → ℕ → Finding → Answer WhyFinding
why_behind tower book table room good_table = Ok (own good_table)
why_behind tower book table room (not_good Start) = Ok (own (not_good Start))
why_behind tower book table room (not_good (Withheld r)) = Ok (own (not_good (Withheld r)))
why_behind tower book table room (not_good (WrongStep r)) = Ok (own (not_good (WrongStep r)))
why_behind tower book table room (not_good (Stopped r)) = Ok (own (not_good (Stopped r)))
why_behind tower book table room (not_good Broken) = shown_in room (shown_of tower book (shown_run tower book table))

-- files of a tower, a book and a table, with a list of so many bytes
unfoldable pub why_file : List ℕ → List ℕ → List ℕ → ℕ → Answer WhyFinding
why_file tower text table room =
    read_tower tower then λ t.
    read_book t.marks text then λ book.
    read_table t table then λ rows.
    judge t book rows then λ finding.
    why_behind t book rows room finding

-- the answer: the length of the run, the line and the position; or the checker's own
unfoldable pub why_answer : Answer WhyFinding → WhyAnswer
why_answer (Err r) = Err (Rejected.Refused r)
why_answer (Ok (own good_table)) = Ok None
why_answer (Ok (own (not_good reason))) = Err (Rejected.NotGood reason)
why_answer (Ok (shows s)) = run_shown (length s.run) s.line s.place.0

-- what the list holds then: the run and its own later bytes, or what it held
unfoldable pub why_list : Answer WhyFinding → List ℕ → List ℕ
why_list (Err r) list = list
why_list (Ok (own finding)) list = list
why_list (Ok (shows s)) list = s.run ++ drop (length s.run) list

-- How a call ends: the answer, and what the list and the lent areas hold then. The areas are those of the checker.
pub record WhyOutcome : Type 0 where
  pub answer : WhyAnswer
  pub list : List ℕ
  pub areas : List (List ℕ)

unfoldable pub why_outcome : List ℕ → List ℕ → List ℕ → List ℕ → List (List ℕ) → WhyOutcome
why_outcome tower text table list areas =
    pick (long_enough check_areas areas)
    (λ _. record { answer = why_answer (why_file tower text table (length list)); list = why_list (why_file tower text table (length list)) list; areas = cleared areas })
    (λ _. record { answer = why_answer (Err Area); list = list; areas = areas })
