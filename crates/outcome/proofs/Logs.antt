-- The log reader against the logic: lines that fit along a table without a reason from a to d are a run with right ticks, the first that does not
-- fit is the first that makes it none, and the answer is the right one of the paper's cases and no other.
use Prim.Native.Nat.{ℕ, zero, suc, ◌+◌, ◌<◌}
use mathlib.Core.Path.{◌≡◌, refl, sym, ◌∙◌, ap, subst}
use mathlib.Core.Logic.{◌↔◌, ◌⊎◌, inl, inr}
use mathlib.Core.Bool.{true}
use Rattle.std.specs.Prelude.{None, Some}
use Rattle.base.specs.Options.{bind}
use Rattle.base.proofs.Options.{bind-eq-some_iff}
use mathlib.Core.List.{List, [], ◌∷◌, ◌++◌, map, map-append}
use native.Mathlib.Omega.{arith}
use lib.ListN.{length, take, drop, take-append-drop}
use Rattle.base.specs.Lists.{only_if}
use Rattle.base.specs.Answers.{Answer}
use Rattle.std.specs.Prelude.{Err, Ok}
use Rattle.base.proofs.Lists.{whether_there, none-some, some_one, only_if_out, only_if_in}
use Rattle.base.proofs.Answers.{then_on, then_stays}
use Rattle.base.specs.declared.Reason.{Reason}
use Rattle.base.specs.declared.Refusal.{Refusal}
use Rattle.base.specs.declared.Refusal.TheVariants.{Layout, Log}
use Rattle.base.specs.Answers.{LogAnswer}
use Rattle.base.specs.declared.Rejection.TheVariants as Rejected
use Rattle.base.specs.declared.LogEnd.TheVariants as Ends
use Rattle.logic.specs.Time.{plus, same_ticks, position, after}
use Rattle.logic.specs.Tower.{Tower}
use Rattle.logic.specs.Runs.{leads, Moment, Trace, trace_from, trace, moment, Judged, duration}
use Rattle.logic.specs.Tables.{Table, row_at, move, AllowsFrom, Allows, GoodStart, StepsRight, NoneBroken}
use Rattle.logic.specs.declared.Tick.{Tick}
use Rattle.logic.specs.declared.Position.{Position}
use Rattle.logic.proofs.Leads.{leads_nil, leads_in, leads_out, append_out}
use Rattle.reading.specs.TowerReading.{read_tower}
use Rattle.reading.specs.TableReading.{read_table}
use Rattle.reading.specs.LogReading.{read_log}
use Rattle.reading.specs.declared.Stroke.{Stroke}
use Rattle.reading.proofs.FitInput.{tower_fits, table_read}
use Rattle.pending.proofs.Same.{same_ticks_eq, same_ticks_refl}
use Rattle.outcome.specs.Check.{Finding, good_table, not_good, rows_judged}
use Rattle.outcome.specs.Calls.{FitTable}
use Rattle.outcome.specs.VerdictRight.{RightBelow, FirstOfRows}
use Rattle.outcome.specs.Log.{on_time, next_place, fits_or_fails, next_course, course_along, first_course, followed, comes_to, log_after, logged_file, log_answer, log_outcome}
use Rattle.outcome.specs.LoggedRun.{logged_actions, line_of, LoggedRun, FirstMisfit}
use Rattle.outcome.specs.RightAnswer.{SoundTable, RightLogged, log_tower, log_layout, log_reason, log_form, log_misfit, log_fits}
use Rattle.outcome.specs.Shown.{HoldsGood, FinalRow, NamedLine, LogUnbroken}
use Rattle.outcome.specs.Log.{Course, misfits}
use Rattle.std.specs.Prelude.{Option}
use Rattle.outcome.specs.declared.LogPlace.{LogPlace}
use Rattle.outcome.proofs.Items.{move_inside}
use Rattle.outcome.proofs.RowReasons.{rows_decided, rows_say, rows_pass}
use Rattle.outcome.proofs.Refusals.{table_only, lines_only}
use Rattle.outcome.proofs.FitCalls.{laid_table}

-- ---- the ticks of a run, line by line

-- each tick is the one before plus the length of the step before
abbrev Timed : Tower → Trace → List Stroke → Type 0
Timed tower run strokes =
    (i : Position) → Judged run (after i) → (line_of strokes (after i)).tick ≡ plus (line_of strokes i).tick (duration tower (moment run i))

module _ (tower : Tower) (m : Moment) (run : Trace) (s : Stroke) (strokes : List Stroke) where
  -- the tick of the next line, if there is one
  abbrev Next : Type 0
  Next = Judged run (position 0) → (line_of strokes (position 0)).tick ≡ plus s.tick (duration tower m)

  timed_in : Next → Timed tower run strokes → Timed tower (m ∷ run) (s ∷ strokes)
  unfolding Judged after line_of moment
  timed_in first rest i = go i.0
    where
      go : (n : ℕ) → Judged (m ∷ run) (after (position n))
          → (line_of (s ∷ strokes) (after (position n))).tick
          ≡ plus (line_of (s ∷ strokes) (position n)).tick (duration tower (moment (m ∷ run) (position n)))
      go zero judged = first (omega arith)
      go (suc n) judged = rest (position n) (omega arith)

  timed_out : Timed tower (m ∷ run) (s ∷ strokes) → Next × Timed tower run strokes
  unfolding Judged after line_of moment
  timed_out times = (λ judged. times (position 0) (omega arith), λ i judged. times (after i) (omega arith))

ticks_in : (d e : Tick) → e ≡ d → same_ticks d e ≡ true
ticks_in d e f = subst (λ t. same_ticks d t ≡ true) (sym f) (same_ticks_refl d)

-- ---- the lines of a log along a table

module _ (tower : Tower) (table : Table) (right : RightBelow tower table (length table)) where
  -- the lines as actions of a run from a row on, each with the state that it leaves
  abbrev trace_of : LogPlace → List Stroke → Trace
  trace_of here strokes = trace_from tower (row_at table here.row).state (logged_actions strokes)

  -- The lines are a run from here on, which ends in row r; the first tick is the one that is due, and the others are right.
  record LogFrom (here : LogPlace) (strokes : List Stroke) (r : ℕ) : Type 0 where
    run : leads (move table) here.row (logged_actions strokes) ≡ Some r
    first : Judged (trace_of here strokes) (position 0) → on_time here.due (line_of strokes (position 0)).tick ≡ true
    times : Timed tower (trace_of here strokes) strokes

  -- Line k is the first that does not fit, counted from here on.
  record MisfitFrom (here : LogPlace) (strokes : List Stroke) (k : ℕ) : Type 0 where
    inside : k < length strokes
    before : (r : ℕ) × LogFrom here (take k strokes) r
    with_it : (r : ℕ) → LogFrom here (take (suc k) strokes) r → ⊥

  -- where line s leads that goes to this row
  abbrev led : LogPlace → Stroke → ℕ → LogPlace
  led here s row = record { row = row; due = Some (plus s.tick (tower.step_length (row_at table here.row).state s.action)) }

  -- the action of line s with the state that it leaves
  abbrev left_by : LogPlace → Stroke → Moment
  left_by here s = record { state = (row_at table here.row).state; action = s.action }

  next_in : (here : LogPlace) (s : Stroke) (row : ℕ) → move table here.row s.action ≡ Some row → on_time here.due s.tick ≡ true
      → next_place tower table here s ≡ Some (led here s row)
  unfolding next_place bind
  next_in here s row e timely =
      ap (λ o. bind o (λ row. Some (led here s row))) (only_if_in (λ row. on_time here.due s.tick) e timely)

  next_out : (here : LogPlace) (s : Stroke) (next : LogPlace) → next_place tower table here s ≡ Some next
      → (row : ℕ) × (move table here.row s.action ≡ Some row) × (on_time here.due s.tick ≡ true) × (led here s row ≡ next)
  unfolding next_place
  next_out here s next e =
      let (row, f, g) =
      (bind-eq-some_iff (only_if (λ row. on_time here.due s.tick) (move table here.row s.action)) (λ row. Some (led here s row))).0 e in
      let (h, timely) = only_if_out (λ row. on_time here.due s.tick) (move table here.row s.action) f in
      (row, h, timely, some_one refl g)

  module _ (here : LogPlace) (s : Stroke) (strokes : List Stroke) where
    -- the row that an allowed action leads to has the state that the tower reaches
    trace_next : (row : ℕ) → move table here.row s.action ≡ Some row
        → trace_of here (s ∷ strokes) ≡ left_by here s ∷ trace_of (led here s row) strokes
    unfolding trace_from logged_actions StepsRight
    trace_next row e = rw ((right.rows here.row (move_inside table here.row s.action row e)).c s.action row e)

    from_in : (row r : ℕ) → move table here.row s.action ≡ Some row → on_time here.due s.tick ≡ true
        → LogFrom (led here s row) strokes r → LogFrom here (s ∷ strokes) r
    unfolding logged_actions line_of on_time duration
    from_in row r e timely rest =
        record {
          run = leads_in (move table) here.row row r s.action (logged_actions strokes) e rest.run;
          first = λ judged. timely;
          times =
              subst (λ run. Timed tower run (s ∷ strokes)) (sym (trace_next row e))
              (timed_in tower (left_by here s) (trace_of (led here s row) strokes) s strokes (λ judged. sym (same_ticks_eq _ _ (rest.first judged)))
              rest.times);
        }

    from_out : (r : ℕ) → LogFrom here (s ∷ strokes) r
        → (row : ℕ) × (move table here.row s.action ≡ Some row) × (on_time here.due s.tick ≡ true) × LogFrom (led here s row) strokes r
    unfolding logged_actions line_of on_time duration Judged trace_from
    from_out r from =
        let (row, e, more) = leads_out (move table) here.row r s.action (logged_actions strokes) from.run in
        let (next, times) =
        timed_out tower (left_by here s) (trace_of (led here s row) strokes) s strokes
        (subst (λ run. Timed tower run (s ∷ strokes)) (trace_next row e) from.times) in (
          row,
          e,
          from.first (omega arith),
          record { run = more; first = λ judged. ticks_in _ _ (next judged); times = times },
        )

    -- what the lines come to where the first fits, and where it does not
    course_on : (line : Position) (next : LogPlace) → next_place tower table here s ≡ Some next
        → course_along tower table line (Ok here) (s ∷ strokes) ≡ course_along tower table (after line) (Ok next) strokes
    unfolding course_along next_course fits_or_fails
    course_on line next e = ap (λ o. course_along tower table (after line) (fits_or_fails line here s o) strokes) e

    course_fails : (line : Position) → next_place tower table here s ≡ None → course_along tower table line (Ok here) (s ∷ strokes) ≡ misfits line here s
    unfolding course_along next_course fits_or_fails
    course_fails line e =
        ap (λ o. course_along tower table (after line) (fits_or_fails line here s o) strokes) e ∙ stays strokes (after line)
      where
        stays : (rest : List Stroke) (at : Position) → course_along tower table at (misfits line here s) rest ≡ misfits line here s
        stays [] at = refl
        stays (t ∷ rest) at = stays rest (after at)

  -- no line more leads nowhere else
  from_nil : (here : LogPlace) → LogFrom here [] here.row
  unfolding logged_actions Judged trace_from
  from_nil here =
      record { run = leads_nil (move table) here.row; first = λ judged. absurd (omega arith); times = λ i judged. absurd (omega arith) }

  -- behind a line that leads to this row, the others are such a run from there on
  from_behind : (here : LogPlace) (s : Stroke) (strokes : List Stroke) (row r : ℕ) → move table here.row s.action ≡ Some row
      → LogFrom here (s ∷ strokes) r → LogFrom (led here s row) strokes r
  from_behind here s strokes row r e from =
      let (q, f, timely, rest) = from_out here s strokes r from in subst (λ z. LogFrom (led here s z) strokes r) (some_one f e) rest

  module _ (here : LogPlace) (s : Stroke) (strokes : List Stroke) where
    -- a first line that leads nowhere is the misfit
    misfit_here : next_place tower table here s ≡ None ↔ MisfitFrom here (s ∷ strokes) 0
    misfit_here = (
      λ e. record {
        inside = omega arith;
        before = (here.row, from_nil here);
        with_it = λ r from. let (row, f, timely, rest) = from_out here s [] r from in none-some e (next_in here s row f timely);
      },
      λ misfit. whether_there (next_place tower table here s) (λ e. e)
          (λ next e. let (row, f, timely, same) = next_out here s next e in
          absurd (misfit.with_it row (from_in here s [] row row f timely (from_nil (led here s row))))),
    )

    -- and behind one that leads on the misfit is the one from there on
    misfit_behind : (row k : ℕ) → move table here.row s.action ≡ Some row → on_time here.due s.tick ≡ true
        → MisfitFrom (led here s row) strokes k ↔ MisfitFrom here (s ∷ strokes) (suc k)
    misfit_behind row k e timely = (
      λ misfit. record {
        inside = omega (arith, misfit.inside);
        before = (misfit.before.0, from_in here s (take k strokes) row misfit.before.0 e timely misfit.before.1);
        with_it = λ r from. misfit.with_it r (from_behind here s (take (suc k) strokes) row r e from);
      },
      λ misfit. record {
        inside = omega (arith, misfit.inside);
        before = (misfit.before.0, from_behind here s (take k strokes) row misfit.before.0 e misfit.before.1);
        with_it = λ r from. misfit.with_it r (from_in here s (take (suc k) strokes) row r e timely from);
      },
    )

  -- what lines from here on, of which the first has this number, are to come to
  abbrev Comes : LogPlace → ℕ → List Stroke → Course → Type 0
  Comes here line strokes (Ok place) = LogFrom here strokes place.row
  Comes here line strokes (Err misfit) = (k : ℕ) × (misfit.line.0 ≡ line + k) × MisfitFrom here strokes k

  comes_behind : (here : LogPlace) (s : Stroke) (strokes : List Stroke) (row line : ℕ) → move table here.row s.action ≡ Some row
      → on_time here.due s.tick ≡ true → (c : Course) → Comes (led here s row) (suc line) strokes c → Comes here line (s ∷ strokes) c
  comes_behind here s strokes row line e timely (Ok place) from = from_in here s strokes row place.row e timely from
  comes_behind here s strokes row line e timely (Err first) (k, f, misfit) =
      (suc k, omega arith, (misfit_behind here s strokes row k e timely).0 misfit)

  comes : (strokes : List Stroke) (line : Position) (here : LogPlace) → Comes here line.0 strokes (course_along tower table line (Ok here) strokes)
  unfolding course_along after
  comes [] line here = from_nil here
  comes (s ∷ strokes) line here =
      whether_there (next_place tower table here s)
      (λ e.
      subst (Comes here line.0 (s ∷ strokes)) (sym (course_fails here s strokes line e)) (0, omega arith, (misfit_here here s strokes).0 e))
      (λ next e. on next e (comes strokes (after line) next))
    where
      on : (next : LogPlace) → next_place tower table here s ≡ Some next
          → Comes next (suc line.0) strokes (course_along tower table (after line) (Ok next) strokes)
          → Comes here line.0 (s ∷ strokes) (course_along tower table line (Ok here) (s ∷ strokes))
      on next e behind =
          let (row, f, timely, same) = next_out here s next e in
          subst (Comes here line.0 (s ∷ strokes)) (sym (course_on here s strokes line next e))
          (comes_behind here s strokes row line.0 f timely (course_along tower table (after line) (Ok next) strokes)
          (subst (λ z. Comes z (suc line.0) strokes (course_along tower table (after line) (Ok next) strokes)) (sym same) behind))

  -- and lines that are such a run, or have such a misfit, do come to that
  fits_so : (strokes : List Stroke) (line : Position) (here : LogPlace) (r : ℕ) → LogFrom here strokes r
      → (due : Option Tick) × (course_along tower table line (Ok here) strokes ≡ Ok (record { row = r; due = due }))
  unfolding course_along logged_actions
  fits_so [] line here r from =
      (here.due, ap (λ q. Ok (record { row = q; due = here.due })) (some_one (leads_nil (move table) here.row) from.run))
  fits_so (s ∷ strokes) line here r from =
      let (row, e, timely, rest) = from_out here s strokes r from in
      let (due, f) = fits_so strokes (after line) (led here s row) r rest in
      (due, course_on here s strokes line (led here s row) (next_in here s row e timely) ∙ f)

  fails_so : (strokes : List Stroke) (k : ℕ) (line n : Position) (here : LogPlace) → n.0 ≡ line.0 + k → MisfitFrom here strokes k
      → (place : LogPlace) × ((s : Stroke) × (course_along tower table line (Ok here) strokes ≡ misfits n place s))
  unfolding after
  fails_so [] k line n here e misfit = absurd (omega (arith, misfit.inside))
  fails_so (s ∷ strokes) zero line n here e misfit =
      (here, (s, course_fails here s strokes line ((misfit_here here s strokes).1 misfit) ∙ ap (λ i. misfits (position i) here s) (omega arith)))
  fails_so (s ∷ strokes) (suc k) line n here e misfit =
      let (row, f, timely, rest) = from_out here s (take k strokes) misfit.before.0 misfit.before.1 in
      let (place, (t, g)) =
      fails_so strokes k (after line) n (led here s row) (omega arith) ((misfit_behind here s strokes row k f timely).1 misfit) in
      (place, (t, course_on here s strokes line (led here s row) (next_in here s row f timely) ∙ g))

  -- ---- the whole log

  abbrev beginning : LogPlace
  beginning = record { row = 0; due = None }

  logged_iff : (strokes : List Stroke) (r : ℕ) → LogFrom beginning strokes r ↔ LoggedRun tower table strokes r
  unfolding on_time trace
  logged_iff strokes r = (
    λ from. record { run = from.run; times = subst (λ x. Timed tower (trace_from tower x (logged_actions strokes)) strokes) at_start from.times },
    λ logged. record {
      run = logged.run;
      first = λ judged. refl;
      times = subst (λ x. Timed tower (trace_from tower x (logged_actions strokes)) strokes) (sym at_start) logged.times;
    },
  )
    where
      at_start : (row_at table 0).state ≡ tower.start
      at_start = unfold GoodStart in right.a

  misfit_iff : (strokes : List Stroke) (n : Position) → MisfitFrom beginning strokes n.0 ↔ FirstMisfit tower table strokes n
  misfit_iff strokes n = (
    λ misfit. record {
      inside = misfit.inside;
      before = (misfit.before.0, (logged_iff (take n.0 strokes) misfit.before.0).0 misfit.before.1);
      with_it = λ r logged. misfit.with_it r ((logged_iff (take (suc n.0) strokes) r).1 logged);
    },
    λ misfit. record {
      inside = misfit.inside;
      before = (misfit.before.0, (logged_iff (take n.0 strokes) misfit.before.0).1 misfit.before.1);
      with_it = λ r from. misfit.with_it r ((logged_iff (take (suc n.0) strokes) r).0 from);
    },
  )

  -- The lines fit and lead to row r exactly if they are a run that ends there, with right ticks.
  pub fits_iff : (strokes : List Stroke) (r : ℕ)
      → ((due : Option Tick) × (followed tower table strokes ≡ Ok (record { row = r; due = due }))) ↔ LoggedRun tower table strokes r
  unfolding followed first_course
  fits_iff strokes r = (
    λ (due, e). (logged_iff strokes r).0 (subst (Comes beginning 0 strokes) e (comes strokes (position 0) beginning)),
    λ logged. fits_so strokes (position 0) beginning r ((logged_iff strokes r).1 logged),
  )

  -- Line n is the first that does not fit exactly if it is the first with which the lines are no such run.
  pub fails_iff : (strokes : List Stroke) (n : Position)
      → ((place : LogPlace) × ((s : Stroke) × (followed tower table strokes ≡ misfits n place s))) ↔ FirstMisfit tower table strokes n
  unfolding followed first_course
  fails_iff strokes n = (
    λ (place, (s, e)).
        let (k, f, misfit) = subst (Comes beginning 0 strokes) e (comes strokes (position 0) beginning) in
        (misfit_iff strokes n).0 (subst (MisfitFrom beginning strokes) (omega arith) misfit),
    λ misfit. fails_so strokes n.0 (position 0) n beginning (omega arith) ((misfit_iff strokes n).1 misfit),
  )

-- ---- the answer in every case

module _ (tower_file file log : List ℕ) where
  tower_said : (r : Refusal) → read_tower tower_file ≡ Err r → log_outcome tower_file file log ≡ Err (Rejected.Refused r)
  unfolding log_outcome logged_file log_answer
  tower_said r e = ap log_answer (then_stays _ e)

  layout_said : (tower : Tower) → read_tower tower_file ≡ Ok tower → read_table tower file ≡ Err Layout
      → log_outcome tower_file file log ≡ Err (Rejected.Refused Layout)
  unfolding log_outcome logged_file log_answer
  layout_said tower e f = ap log_answer (then_on _ e ∙ then_stays _ f)

  -- behind tower and table it is what the rows say, and the log if they are right
  rows_said : (tower : Tower) (table : Table) → read_tower tower_file ≡ Ok tower → FitTable tower file table → (x : Finding)
      → rows_judged tower table (Ok good_table) ≡ Ok x → log_outcome tower_file file log ≡ log_answer (log_after tower table log x)
  unfolding log_outcome logged_file FitTable
  rows_said tower table e f x g = ap log_answer (then_on _ e ∙ then_on _ f ∙ then_on _ g)

  reason_said : (tower : Tower) (table : Table) → read_tower tower_file ≡ Ok tower → FitTable tower file table → (q : Reason)
      → FirstOfRows tower table q → log_outcome tower_file file log ≡ Err (Rejected.NotGood q)
  unfolding log_after log_answer
  reason_said tower table e laid q first =
      rows_said tower table e laid (not_good q)
      (rows_say tower table (tower_fits tower_file tower e).listed (laid_table tower file table laid) q first (Ok good_table))

  -- with a sound table it is what the lines come to
  module _ (tower : Tower) (table : Table) (sound : SoundTable tower_file file tower table) where
    passed : log_outcome tower_file file log ≡ log_answer (log_after tower table log good_table)
    passed =
        rows_said tower table sound.tower_read sound.laid good_table
        (rows_pass tower table (tower_fits tower_file tower sound.tower_read).listed (laid_table tower file table sound.laid) sound.right
        (Ok good_table))

    form_said : (r : Refusal) → read_log log ≡ Err r → log_outcome tower_file file log ≡ Err (Rejected.Refused r)
    unfolding log_after log_answer
    form_said r e = passed ∙ ap log_answer (then_stays _ e)

    lines_said : (strokes : List Stroke) (c : Course) → read_log log ≡ Ok strokes → followed tower table strokes ≡ c
        → log_outcome tower_file file log ≡ log_answer (Ok (comes_to c))
    unfolding log_after
    lines_said strokes c e f = passed ∙ ap log_answer (then_on _ e ∙ ap (λ z. Ok (comes_to z)) f)

  pub log_right : RightLogged tower_file file log (log_outcome tower_file file log)
  unfolding log_answer
  log_right = by_tower (read_tower tower_file) refl
    where
      answer_by : (x : LogAnswer) → log_outcome tower_file file log ≡ x → RightLogged tower_file file log x
          → RightLogged tower_file file log (log_outcome tower_file file log)
      answer_by x e right = subst (RightLogged tower_file file log) (sym e) right

      by_course : (tower : Tower) (table : Table) → SoundTable tower_file file tower table → (strokes : List Stroke) → read_log log ≡ Ok strokes
          → (c : Course) → followed tower table strokes ≡ c → RightLogged tower_file file log (log_outcome tower_file file log)
      by_course tower table sound strokes e (Ok place) f =
          answer_by (Ok (Ends.Row place.row)) (lines_said tower table sound strokes (Ok place) e f)
          (log_fits tower table sound strokes e place.row ((fits_iff tower table sound.right strokes place.row).0 (place.due, f)))
      by_course tower table sound strokes e (Err first) f =
          answer_by (Ok (Ends.Line first.line.0)) (lines_said tower table sound strokes (Err first) e f)
          (log_misfit tower table sound strokes e first.line ((fails_iff tower table sound.right strokes first.line).0 (first.place, (first.stroke, f))))

      by_lines : (tower : Tower) (table : Table) → SoundTable tower_file file tower table → (o : Answer (List Stroke)) → read_log log ≡ o
          → RightLogged tower_file file log (log_outcome tower_file file log)
      by_lines tower table sound (Err r) e =
          let (line, same) = (lines_only (λ q. (l : ℕ) × (Log l ≡ q)) (λ l. (l, refl)) log).only r e in
          let f : read_log log ≡ Err (Log line) = e ∙ ap Err (sym same) in
          answer_by (Err (Rejected.Refused (Log line))) (form_said tower table sound (Log line) f) (log_form tower table sound line f)
      by_lines tower table sound (Ok strokes) e = by_course tower table sound strokes e (followed tower table strokes) refl

      by_rows : (tower : Tower) (table : Table) → read_tower tower_file ≡ Ok tower → FitTable tower file table
          → ((q : Reason) × FirstOfRows tower table q) ⊎ RightBelow tower table (length table)
          → RightLogged tower_file file log (log_outcome tower_file file log)
      by_rows tower table e laid (inl (q, first)) =
          answer_by (Err (Rejected.NotGood q)) (reason_said tower table e laid q first) (log_reason tower table e laid q first)
      by_rows tower table e laid (inr right) =
          by_lines tower table (record { tower_read = e; laid = laid; right = right }) (read_log log) refl

      by_table : (tower : Tower) → read_tower tower_file ≡ Ok tower → (o : Answer Table) → read_table tower file ≡ o
          → RightLogged tower_file file log (log_outcome tower_file file log)
      by_table tower e (Err r) f =
          let layout : read_table tower file ≡ Err Layout = f ∙ ap Err (sym ((table_only (λ q. Layout ≡ q) refl tower file).only r f)) in
          answer_by (Err (Rejected.Refused Layout)) (layout_said tower e layout) (log_layout tower e layout)
      by_table tower e (Ok table) f =
          let laid : FitTable tower file table = unfold FitTable in f in
          by_rows tower table e laid (rows_decided tower table (tower_fits tower_file tower e).listed (laid_table tower file table laid))

      by_tower : (o : Answer Tower) → read_tower tower_file ≡ o → RightLogged tower_file file log (log_outcome tower_file file log)
      by_tower (Err r) e = answer_by (Err (Rejected.Refused r)) (tower_said r e) (log_tower r e)
      by_tower (Ok tower) e = by_table tower e (read_table tower file) refl

  pub log_only : (x : LogAnswer) → RightLogged tower_file file log x → log_outcome tower_file file log ≡ x
  unfolding log_answer
  log_only _ (log_tower r e) = tower_said r e
  log_only _ (log_layout tower e f) = layout_said tower e f
  log_only _ (log_reason tower table e laid q first) = reason_said tower table e laid q first
  log_only _ (log_form tower table sound line e) = form_said tower table sound (Log line) e
  log_only _ (log_misfit tower table sound strokes e n misfit) =
      let (place, (s, f)) = (fails_iff tower table sound.right strokes n).1 misfit in lines_said tower table sound strokes (misfits n place s) e f
  log_only _ (log_fits tower table sound strokes e r run) =
      let (due, f) = (fits_iff tower table sound.right strokes r).1 run in
      lines_said tower table sound strokes (Ok (record { row = r; due = due })) e f

  -- what an answer without complaint of the files shows
  abbrev Shows : LogAnswer → Type 0
  Shows (Ok (Ends.Row r)) = FinalRow tower_file file log r
  Shows (Ok (Ends.Line k)) = NamedLine tower_file file log k
  Shows (Err (Rejected.NotGood q)) = Unit {0}
  Shows (Err (Rejected.Refused r)) = Unit {0}

  shows : (x : LogAnswer) → RightLogged tower_file file log x → Shows x
  shows _ (log_tower r e) = tt
  shows _ (log_layout tower e f) = tt
  shows _ (log_reason tower table e laid q first) = tt
  shows _ (log_form tower table sound line e) = tt
  shows _ (log_misfit tower table sound strokes e n misfit) =
      record { tower = tower; table = table; strokes = strokes; sound = sound; read = e; misfit = misfit }
  shows _ (log_fits tower table sound strokes e r run) =
      record { tower = tower; table = table; strokes = strokes; sound = sound; read = e; run = run }

  pub final_row : (r : ℕ) → (log_outcome tower_file file log ≡ Ok (Ends.Row r)) ↔ FinalRow tower_file file log r
  final_row r = (
    λ e. subst Shows e (shows (log_outcome tower_file file log) log_right),
    λ final. log_only (Ok (Ends.Row r)) (log_fits final.tower final.table final.sound final.strokes final.read r final.run),
  )

  pub named_line : (k : ℕ) → (log_outcome tower_file file log ≡ Ok (Ends.Line k)) ↔ NamedLine tower_file file log k
  named_line k = (
    λ e. subst Shows e (shows (log_outcome tower_file file log) log_right),
    λ named.
        log_only (Ok (Ends.Line k))
        (log_misfit named.tower named.table named.sound named.strokes named.read (position k) named.misfit),
  )

-- ---- along a good table no rule is broken

-- the actions of the first n lines and those of the others
logged_parts : (n : ℕ) (strokes : List Stroke) → logged_actions strokes ≡ logged_actions (take n strokes) ++ logged_actions (drop n strokes)
unfolding logged_actions
logged_parts n strokes =
    ap (map (λ s. s.action)) (sym (take-append-drop n strokes)) ∙ map-append (λ s. s.action) (take n strokes) (drop n strokes)

module _ (tower_file text file log : List ℕ) (holds : HoldsGood tower_file text file) where
  allowed_unbroken : (tower : Tower) (table : Table) → FitTable tower file table → (strokes : List Stroke) → read_log log ≡ Ok strokes
      → (n : ℕ) → Allows table (logged_actions (take n strokes)) → LogUnbroken tower_file text log n
  unfolding FitTable NoneBroken
  allowed_unbroken tower table laid strokes e n allowed =
      record {
        tower = holds.tower;
        book = holds.book;
        strokes = strokes;
        fit = holds.fit;
        read = e;
        unbroken = holds.good.e (logged_actions (take n strokes)) (subst (λ t. Allows t (logged_actions (take n strokes))) same allowed);
      }
    where
      same : table ≡ holds.table
      same = sym (table_read tower file table laid).3 ∙ (table_read holds.tower file holds.table holds.laid).3

  pub fits_unbroken : (r : ℕ) → log_outcome tower_file file log ≡ Ok (Ends.Row r) → (n : ℕ) → LogUnbroken tower_file text log n
  unfolding Allows AllowsFrom
  fits_unbroken r e n = go ((final_row tower_file file log r).0 e)
    where
      go : FinalRow tower_file file log r → LogUnbroken tower_file text log n
      go final =
          let (q, f, g) =
          append_out (move final.table) 0 r (logged_actions (take n final.strokes)) (logged_actions (drop n final.strokes))
          (subst (λ w. leads (move final.table) 0 w ≡ Some r) (logged_parts n final.strokes) final.run.run) in
          allowed_unbroken final.tower final.table final.sound.laid final.strokes final.read n (q, f)

  pub before_unbroken : (k : ℕ) → log_outcome tower_file file log ≡ Ok (Ends.Line k) → LogUnbroken tower_file text log k
  unfolding Allows AllowsFrom
  before_unbroken k e = go ((named_line tower_file file log k).0 e)
    where
      go : NamedLine tower_file file log k → LogUnbroken tower_file text log k
      go named =
          allowed_unbroken named.tower named.table named.sound.laid named.strokes named.read k
          (named.misfit.before.0, named.misfit.before.1.run)
