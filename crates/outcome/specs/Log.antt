-- The log reader's outcome (02, item 2): the tower, 13, 14 a to d, 19; then the first line that does not fit, or the final row. It borrows no
-- area and writes nothing.
use Rattle.std.specs.Prelude.{ℕ, Bool, true, List, [], ◌∷◌}
use Rattle.std.specs.Prelude.{Option, None, Some}
use Rattle.base.specs.Options.{bind}
use Rattle.base.specs.Lists.{only_if}
use Rattle.base.specs.Answers.{Answer, ◌then◌}
use Rattle.std.specs.Prelude.{Result, Err, Ok}
use Rattle.base.specs.declared.Reason.{Reason}
use Rattle.base.specs.Answers.{LogAnswer}
use Rattle.base.specs.declared.Rejection.TheVariants as Rejected
use Rattle.base.specs.declared.LogEnd.TheVariants as Ends
use Rattle.logic.specs.Time.{plus, same_ticks, position, after}
use Rattle.logic.specs.Tower.{Tower}
use Rattle.logic.specs.Tables.{Table, row_at, move}
use Rattle.logic.specs.declared.Tick.{Tick}
use Rattle.logic.specs.declared.Position.{Position}
use Rattle.reading.specs.TowerReading.{read_tower}
use Rattle.reading.specs.TableReading.{read_table}
use Rattle.reading.specs.LogReading.{read_log}
use Rattle.reading.specs.declared.Stroke.{Stroke}
use Rattle.outcome.specs.Check.{Finding, good_table, not_good, rows_judged}
use Rattle.outcome.specs.declared.LogPlace.{LogPlace}
use Rattle.outcome.specs.declared.Misfit.{Misfit}

-- What the lines of a log come to, as the code has it.
abbrev pub Course : Type 0
Course = Result LogPlace Misfit

-- this line is the first that does not fit
abbrev pub misfits : Position → LogPlace → Stroke → Course
misfits line here s = Err (record { line = line; place = here; stroke = s })

-- the tick is the one that is due; 'the first tick is free'
unfoldable pub on_time : Option Tick → Tick → Bool
on_time None tick = true
on_time (Some due) tick = same_ticks due tick

-- where a line leads: its action is allowed and its tick is the one that is due; the next is due when the step has lasted its length. It leads
-- nowhere, and does not fit, if not. Numbers of ticks have no end here: 'sums never wrap'.
unfoldable pub next_place : Tower → Table → LogPlace → Stroke → Option LogPlace
next_place tower table here s =
    bind (only_if (λ row. on_time here.due s.tick) (move table here.row s.action))
    (λ row. Some (record { row = row; due = Some (plus s.tick (tower.step_length (row_at table here.row).state s.action)) }))

-- what this line makes of where the lines before it lead
unfoldable pub fits_or_fails : Position → LogPlace → Stroke → Option LogPlace → Course
fits_or_fails line here s None = misfits line here s
fits_or_fails line here s (Some next) = Ok next

-- one line more; the first that does not fit stays the one
unfoldable pub next_course : Tower → Table → Position → Course → Stroke → Course
next_course tower table line (Ok here) s = fits_or_fails line here s (next_place tower table here s)
next_course tower table line (Err misfit) s = Err misfit

-- the lines in turn, from this one on
unfoldable pub course_along : Tower → Table → Position → Course → List Stroke → Course
course_along tower table line course [] = course
course_along tower table line course (s ∷ strokes) = course_along tower table (after line) (next_course tower table line course s) strokes

-- at first: row 0, and any tick
unfoldable pub first_course : Course
first_course = Ok (record { row = 0; due = None })

-- the whole log along the table
unfoldable pub followed : Tower → Table → List Stroke → Course
followed tower table strokes = course_along tower table (position 0) first_course strokes

-- What is found of a log: that the table is not good, or what its lines come to.
pub data LogFinding : Type 0 where
  wrong_table : Reason → LogFinding
  comes_to : Course → LogFinding

-- the log, where the rows are judged: 19, then its lines
unfoldable pub log_after : Tower → Table → List ℕ → Finding → Answer LogFinding
log_after tower table log (not_good reason) = Ok (wrong_table reason)
log_after tower table log good_table = read_log log then λ strokes. Ok (comes_to (followed tower table strokes))

-- files of a tower, a table and a log
unfoldable pub logged_file : List ℕ → List ℕ → List ℕ → Answer LogFinding
logged_file tower table log =
    read_tower tower then λ t.
    read_table t table then λ rows.
    rows_judged t rows (Ok good_table) then λ finding.
    log_after t rows log finding

-- the log reader's answer: a refusal, 14 with its reason, the final row, or the first line that does not fit
unfoldable pub log_answer : Answer LogFinding → LogAnswer
log_answer (Err r) = Err (Rejected.Refused r)
log_answer (Ok (wrong_table reason)) = Err (Rejected.NotGood reason)
log_answer (Ok (comes_to (Ok here))) = Ok (Ends.Row here.row)
log_answer (Ok (comes_to (Err misfit))) = Ok (Ends.Line misfit.line.0)

unfoldable pub log_outcome : List ℕ → List ℕ → List ℕ → LogAnswer
log_outcome tower table log = log_answer (logged_file tower table log)
