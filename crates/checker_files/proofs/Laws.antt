-- What the tests of tower and table say of whatever is asked behind them.
use Prim.Native.Nat.{ℕ}
use native.Mathlib.Omega.{arith}
use mathlib.Core.Path.{◌≡◌, refl, sym, ◌∙◌, ap}
use mathlib.Core.List.{List}
use Rattle.base.specs.Answers.{Answer, ◌then◌}
use Rattle.std.specs.Prelude.{Err, Ok}
use Rattle.base.specs.declared.Reason.{Reason}
use Rattle.base.specs.declared.Refusal.{Refusal}
use Rattle.logic.specs.Tower.{Tower, tower_of}
use Rattle.logic.specs.Tables.{Table}
use Rattle.reading.specs.TowerReading.{read_tower}
use Rattle.reading.specs.TableReading.{read_table, table_of}
use Rattle.reading.proofs.FitInput.{laid_out_read}
use Rattle.outcome.specs.Check.{Finding, good_table, not_good, rows_judged}
use Rattle.file_tower.proofs.Laws.{fit_reads}
use Rattle.checker_rows.specs.RowVerdict.{RowsJudgeable, rows_verdict, answer_after}
use Rattle.std.specs.Prelude.{Result}
use Rattle.base.specs.Answers.{Verdict}
use Rattle.base.specs.declared.Rejection.TheVariants as Rejected
use Rattle.checker_rows.proofs.Laws.{rows_after}
use Rattle.checker_files.specs.Testing.{tested_table, tested_files, tested, TableTested, FilesTested}

-- ---- what an answer says

-- The rows of a sound table can be judged.
pub sound_rows : (tower table : List ℕ) (r : Verdict) → FilesTested r tower table → r ≡ Ok tt → RowsJudgeable tower table
sound_rows tower table r told e = told.judged e

refused_by : (o : Answer Finding) (why : Refusal) → tested o ≡ Err (Rejected.Refused why) → o ≡ Err why
unfolding tested
refused_by (Err r) why e = let same : r ≡ why = cc in ap Err same
refused_by (Ok good_table) why e = let z : ◌≡◌ {A = ℕ} 0 1 = cc in absurd (omega arith)
refused_by (Ok (not_good q)) why e = let z : ◌≡◌ {A = ℕ} 0 1 = cc in absurd (omega arith)

not_good_by : (o : Answer Finding) (reason : Reason) → tested o ≡ Err (Rejected.NotGood reason) → o ≡ Ok (not_good reason)
unfolding tested
not_good_by (Err r) reason e = let z : ◌≡◌ {A = ℕ} 0 1 = cc in absurd (omega arith)
not_good_by (Ok good_table) reason e = let z : ◌≡◌ {A = ℕ} 0 1 = cc in absurd (omega arith)
not_good_by (Ok (not_good q)) reason e = let same : q ≡ reason = cc in ap (λ r. Ok (not_good r)) same

sound_by : (o : Answer Finding) → tested o ≡ Ok tt → o ≡ Ok good_table
unfolding tested
sound_by (Err r) e = let z : ◌≡◌ {A = ℕ} 0 1 = cc in absurd (omega arith)
sound_by (Ok good_table) e = refl
sound_by (Ok (not_good q)) e = let z : ◌≡◌ {A = ℕ} 0 1 = cc in absurd (omega arith)

-- ---- the rows, whatever is asked behind them

module _ (tower : Tower) (rows : Table) where
  -- Rows that are found not good are so whatever is asked behind them,
  not_good_rows : (reason : Reason) (after : Answer Finding) → rows_judged tower rows (Ok good_table) ≡ Ok (not_good reason)
      → rows_judged tower rows after ≡ Ok (not_good reason)
  not_good_rows reason after e = rows_after tower rows after ∙ go (rows_verdict tower rows) (sym (rows_after tower rows (Ok good_table)) ∙ e)
    where
      go : (v : Result (Unit {0}) Reason) → answer_after v (Ok good_table) ≡ Ok (not_good reason) → answer_after v after ≡ Ok (not_good reason)
      go (Ok tt) f = unfold answer_after in (let z : ◌≡◌ {A = ℕ} 0 1 = cc in absurd (omega arith))
      go (Err q) f = unfold answer_after in f

  -- and behind sound ones that is the answer.
  sound_rows_answer : (after : Answer Finding) → rows_judged tower rows (Ok good_table) ≡ Ok good_table → rows_judged tower rows after ≡ after
  sound_rows_answer after e = rows_after tower rows after ∙ go (rows_verdict tower rows) (sym (rows_after tower rows (Ok good_table)) ∙ e)
    where
      go : (v : Result (Unit {0}) Reason) → answer_after v (Ok good_table) ≡ Ok good_table → answer_after v after ≡ after
      go (Ok tt) f = unfold answer_after in refl
      go (Err q) f = unfold answer_after in (let z : ◌≡◌ {A = ℕ} 0 1 = cc in absurd (omega arith))

  -- Rows are not refused.
  rows_answer : (why : Refusal) → rows_judged tower rows (Ok good_table) ≡ Err why → ⊥
  rows_answer why e = go (rows_verdict tower rows) (sym (rows_after tower rows (Ok good_table)) ∙ e)
    where
      go : (v : Result (Unit {0}) Reason) → answer_after v (Ok good_table) ≡ Err why → ⊥
      go (Ok tt) f = unfold answer_after in (let z : ◌≡◌ {A = ℕ} 0 1 = cc in omega arith)
      go (Err q) f = unfold answer_after in (let z : ◌≡◌ {A = ℕ} 0 1 = cc in omega arith)

-- ---- what is asked behind

-- One chain along another: where the first comes to y, the second comes to z, if it does so behind every value, and a refusal y is the refusal z.
along : {A B C : Type 0} (o : Answer A) (f : A → Answer B) (g : A → Answer C) (y : Answer B) (z : Answer C) → (o then f) ≡ y
    → ((why : Refusal) → Err why ≡ y → Err why ≡ z) → ((x : A) → f x ≡ y → g x ≡ z) → (o then g) ≡ z
unfolding ◌then◌
along (Err q) f g y z e refused each = refused q e
along (Ok x) f g y z e refused each = each x e

-- A table that is tested, and what is asked of its rows behind that.
module _ (tower table : List ℕ) (r : Verdict) (told : TableTested r tower table) (after : Table → Answer Finding) where
  abbrev asked : Answer Finding
  asked = read_table (tower_of tower) table then λ rows. rows_judged (tower_of tower) rows (after rows)

  pub table_refused : (why : Refusal) → r ≡ Err (Rejected.Refused why) → asked ≡ Err why
  unfolding tested_table
  table_refused why e =
      along (read_table (tower_of tower) table) _ _ (Err why) (Err why)
      (refused_by (tested_table (tower_of tower) table) why (sym told.answer ∙ e))
      (λ q f. let same : q ≡ why = cc in ap Err same) (λ rows f. absurd (rows_answer (tower_of tower) rows why f))

  pub table_not_good : (reason : Reason) → r ≡ Err (Rejected.NotGood reason) → asked ≡ Ok (not_good reason)
  unfolding tested_table
  table_not_good reason e =
      along (read_table (tower_of tower) table) _ _ (Ok (not_good reason)) (Ok (not_good reason))
      (not_good_by (tested_table (tower_of tower) table) reason (sym told.answer ∙ e))
      (λ q f. let n : ◌≡◌ {A = ℕ} 0 1 = cc in absurd (omega arith)) (λ rows f. not_good_rows (tower_of tower) rows reason (after rows) f)

  pub table_sound : r ≡ Ok tt → asked ≡ after (table_of table)
  unfolding tested_table ◌then◌
  table_sound e =
      let ok = told.judged e in
      let read = laid_out_read (tower_of tower) table ok.layout ok.states ok.actions in
      let rows = rw read at (sound_by (tested_table (tower_of tower) table) (sym told.answer ∙ e)) in
      rw read (sound_rows_answer (tower_of tower) (table_of table) (after (table_of table)) rows)

module _ {A : Type 0} (after : Tower → Table → Finding → Answer A) where
  -- the tests, and then what is made of what they find
  unfoldable pub behind_tests : List ℕ → List ℕ → Answer A
  behind_tests tower table =
      read_tower tower then λ t. read_table t table then λ rows. rows_judged t rows (Ok good_table) then λ finding. after t rows finding

  -- Where the tests come to y, all of it comes to z.
  tests_along : (tower table : List ℕ) (y : Answer Finding) (z : Answer A) → tested_files tower table ≡ y
      → ((why : Refusal) → Err why ≡ y → Err why ≡ z) → ((t : Tower) (rows : Table) → (y then λ finding. after t rows finding) ≡ z)
      → behind_tests tower table ≡ z
  unfolding behind_tests tested_files tested_table
  tests_along tower table y z e refused each =
      along (read_tower tower) _ _ y z e refused (λ t f.
      along (read_table t table) _ _ y z f refused (λ rows g. ap (λ o. o then λ finding. after t rows finding) g ∙ each t rows))

  module _ (tower table : List ℕ) (r : Verdict) (told : FilesTested r tower table) where
    -- A refusal is the answer.
    pub refused_first : (why : Refusal) → r ≡ Err (Rejected.Refused why) → behind_tests tower table ≡ Err why
    unfolding ◌then◌
    refused_first why e =
        tests_along tower table (Err why) (Err why) (refused_by (tested_files tower table) why (sym told.answer ∙ e))
        (λ q f. let same : q ≡ why = cc in ap Err same) (λ t rows. refl)

    -- A reason is handed on.
    pub not_good_first : (reason : Reason) (z : Answer A) → r ≡ Err (Rejected.NotGood reason) → ((t : Tower) (rows : Table) → after t rows (not_good reason) ≡ z)
        → behind_tests tower table ≡ z
    unfolding ◌then◌
    not_good_first reason z e says =
        tests_along tower table (Ok (not_good reason)) z (not_good_by (tested_files tower table) reason (sym told.answer ∙ e))
        (λ q f. let n : ◌≡◌ {A = ℕ} 0 1 = cc in absurd (omega arith)) says

    -- Where they are sound, tower and table are those of the files.
    pub sound_first : r ≡ Ok tt → behind_tests tower table ≡ after (tower_of tower) (table_of table) good_table
    unfolding behind_tests tested_files tested_table ◌then◌
    sound_first e =
        let ok = told.judged e in
        let tower_read = fit_reads ok.fit in
        let table_read = laid_out_read (tower_of tower) table ok.layout ok.states ok.actions in
        let rows = rw (tower_read, table_read) at (sound_by (tested_files tower table) (sym told.answer ∙ e)) in
        rw (tower_read, table_read) (ap (λ o. o then λ finding. after (tower_of tower) (table_of table) finding) rows)
