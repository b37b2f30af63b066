-- A law for each way through the log reader: from what is known there, the answer is the outcome's.
use Prim.Native.Nat.{ℕ, ◌≤◌, ◌<◌}
use native.Mathlib.Nat.{zero-add}
use mathlib.Core.Path.{◌≡◌, refl, sym, ◌∙◌, ap}
use mathlib.Core.Bool.{Bool, true, false}
use mathlib.Core.List.{List}
use lib.ListN.{length}
use lib.Dec.{ltb}
use borrow.Author.Tests.{lt-ltb, le-ltb}
use Rattle.base.specs.Choice.{pick}
use Rattle.base.specs.Answers.{◌if◌else◌, ◌then◌, log_said}
use Rattle.std.specs.Prelude.{Err, Ok}
use Rattle.base.specs.declared.Refusal.TheVariants.{Log}
use Rattle.base.specs.Answers.{LogAnswer}
use Rattle.base.specs.declared.Rejection.{Rejection}
use Rattle.base.specs.declared.Rejection.TheVariants as Rejected
use Rattle.base.specs.declared.LogEnd.TheVariants as Ends
use Rattle.logic.specs.Time.{position}
use Rattle.logic.specs.Tower.{tower_of}
use Rattle.reading.specs.TableReading.{table_of}
use Rattle.reading.specs.LogReading.{log_from, read_log}
use Rattle.outcome.specs.Check.{good_table}
use Rattle.outcome.specs.Log.{course_along, first_course, followed, comes_to, log_after, logged_file, log_answer, log_outcome}
use Rattle.outcome.specs.declared.LogPlace.{LogPlace}
use Rattle.outcome.specs.declared.Misfit.{Misfit}
use Rattle.outcome.specs.Log.{Course}
use Rattle.checker_files.specs.Testing.{FilesTested}
use Rattle.base.specs.Answers.{Verdict}
use Rattle.checker_files.proofs.Laws.{behind_tests, refused_first, not_good_first, sound_first}
use Rattle.log_course.specs.Following.{LinesFollowed}
use Rattle.log_course.specs.declared.Followed.{Followed}
use Rattle.log_reader.specs.Answering.{answer_of, ReadsLog}

-- ---- ended

module _ (f : Followed) (n : ℕ) where
  pub not_of_form : f.next < n → Err (Rejected.Refused (Log f.line.0)) ≡ answer_of f n
  unfolding answer_of
  not_of_form l = rw (lt-ltb f.next n l)

  module _ (whole : n ≤ f.next) where
    pub all_fit : (here : LogPlace) → f.course ≡ Ok here → Ok (Ends.Row here.row) ≡ answer_of f n
    unfolding answer_of log_answer
    all_fit here e = rw (le-ltb f.next n whole, e)

    pub one_fails : (misfit : Misfit) → f.course ≡ Err misfit → Ok (Ends.Line misfit.line.0) ≡ answer_of f n
    unfolding answer_of log_answer
    one_fails misfit e = rw (le-ltb f.next n whole, e)

-- ---- read_lines

-- From the first line on, what was followed is the log.
pub whole_log : (tower table log : List ℕ) (f : Followed) (course : Course) (n : ℕ) (r : LogAnswer) → r ≡ answer_of f n → n ≡ length log
    → course ≡ first_course → LinesFollowed f tower table log (position 0) course
    → r ≡ log_answer (log_after (tower_of tower) (table_of table) log good_table)
unfolding answer_of log_after read_log followed ◌then◌ ◌if◌else◌ log_answer
whole_log tower table log f course n r e is-n is_first lines =
    e ∙ rw (lines.next, lines.line, lines.answer, is-n, is_first, zero-add) (go (ltb (log_from log 0).next (length log)))
  where
    go : (b : Bool)
        → pick b (λ _. Err (Rejected.Refused (Log (length (log_from log 0).strokes))))
        (λ _. log_answer (Ok (comes_to (course_along (tower_of tower) (table_of table) (position 0) first_course (log_from log 0).strokes))))
        ≡ log_answer
        (pick b (λ _. Err (Log (length (log_from log 0).strokes))) (λ _. Ok (log_from log 0).strokes) then λ strokes.
        Ok (comes_to (course_along (tower_of tower) (table_of table) (position 0) first_course strokes)))
    go true = refl
    go false = refl

-- ---- read_log

-- An answer that is the outcome's is promised.
promised : (r : LogAnswer) (tower table log : List ℕ) → r ≡ log_outcome tower table log → ReadsLog r tower table log
promised r tower table log e = record { answer = e; said = ap log_said e }

-- The outcome is what is asked behind the tests.
outcome_is : (tower table log : List ℕ) → log_outcome tower table log ≡ log_answer (behind_tests (λ t rows finding. log_after t rows log finding) tower table)
unfolding log_outcome logged_file behind_tests
outcome_is tower table log = refl

module _ (tower table log : List ℕ) (r : Verdict) (told : FilesTested r tower table) where
  pub tests_reject : (a : LogAnswer) (why : Rejection) → r ≡ Err why → a ≡ Err why → ReadsLog a tower table log
  unfolding log_answer log_after
  tests_reject a (Rejected.Refused why) e f =
      promised a tower table log
      (f ∙ sym (outcome_is tower table log ∙ ap log_answer (refused_first (λ t rows finding. log_after t rows log finding) tower table r told why e)))
  tests_reject a (Rejected.NotGood reason) e f =
      promised a tower table log
      (f ∙ sym (outcome_is tower table log ∙ ap log_answer (not_good_first (λ t rows finding. log_after t rows log finding) tower table r told reason _ e (λ t rows. refl))))

  pub lines_read : (a : LogAnswer) → r ≡ Ok tt → a ≡ log_answer (log_after (tower_of tower) (table_of table) log good_table)
      → ReadsLog a tower table log
  lines_read a e f =
      promised a tower table log
      (f ∙ sym (outcome_is tower table log ∙ ap log_answer (sound_first (λ t rows finding. log_after t rows log finding) tower table r told e)))
