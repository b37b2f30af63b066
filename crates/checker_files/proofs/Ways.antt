-- A law for each way through the tests: from what is known there, the answer is what the definitions say.
use Prim.Native.Nat.{ℕ}
use native.Mathlib.Omega.{arith}
use mathlib.Core.Path.{◌≡◌, sym, ◌∙◌}
use mathlib.Core.Bool.{Bool, true, false}
use mathlib.Core.List.{List}
use Rattle.base.specs.Answers.{◌then◌}
use Rattle.std.specs.Prelude.{Ok}
use Rattle.base.specs.declared.Reason.{Reason}
use Rattle.base.specs.declared.Refusal.{Refusal}
use Rattle.base.specs.declared.Refusal.TheVariants.{Layout}
use Rattle.logic.specs.Tower.{FitTower, tower_of}
use Rattle.reading.specs.TowerReading.{read_tower}
use Rattle.reading.specs.TableReading.{table_of}
use Rattle.reading.proofs.FitInput.{laid_out_read}
use Rattle.outcome.specs.Check.{good_table}
use Rattle.file_tower.specs.TowerRead.{tower_read}
use Rattle.std.specs.Prelude.{Result, Err}
use Rattle.base.specs.Answers.{Answer, Verdict}
use Rattle.base.specs.declared.Rejection.TheVariants as Rejected
use Rattle.file_tower.proofs.Laws.{fit_of, fit_gives, refused_of}
use Rattle.file_table.specs.Layout.{laid_out_for}
use Rattle.file_table.proofs.Laws.{laid_for_parts, not_laid_for_read}
use Rattle.checker_rows.specs.RowVerdict.{RowsJudgeable, rows_verdict, answer_after}
use Rattle.checker_rows.proofs.Laws.{rows_after}
use Rattle.checker_files.specs.Testing.{tested_table, tested_files, tested, TableTested, FilesTested}

-- ---- for_tower

-- The reader's answer for the tower's counts.
pub for_counts : (tower table : List ℕ) (s a : ℕ) (b : Bool) → s ≡ (tower_of tower).states → a ≡ (tower_of tower).actions → b ≡ laid_out_for table s a
    → b ≡ laid_out_for table (tower_of tower).states (tower_of tower).actions
for_counts tower table s a b is-s is_a e = rw (← is-s, ← is_a) e

-- ---- test_table

module _ (tower table : List ℕ) (b : Bool) (is_b : b ≡ laid_out_for table (tower_of tower).states (tower_of tower).actions) where
  -- 13.
  pub not_for_tower : b ≡ false → TableTested (Err (Rejected.Refused Layout)) tower table
  unfolding tested_table tested ◌then◌
  not_for_tower e =
      record {
        answer = sym (rw (not_laid_for_read (tower_of tower) table (sym is_b ∙ e)));
        judged = λ f. let z : ◌≡◌ {A = ℕ} 0 1 = cc in absurd (omega arith);
      }

  -- A table that is for the tower can be judged.
  pub judgeable : FitTower tower → b ≡ true → RowsJudgeable tower table
  judgeable fit e =
      let (layout, states, actions) = laid_for_parts table (tower_of tower).states (tower_of tower).actions (sym is_b ∙ e) in
      record { fit = fit; layout = layout; states = states; actions = actions }

-- What the rows say is what the tests say.
rows_say : (tower table : List ℕ) (v : Result (Unit {0}) Reason) → RowsJudgeable tower table → v ≡ rows_verdict (tower_of tower) (table_of table)
    → tested_table (tower_of tower) table ≡ answer_after v (Ok good_table)
unfolding tested_table ◌then◌
rows_say tower table v ok is-v =
    rw (laid_out_read (tower_of tower) table ok.layout ok.states ok.actions, is-v) (rows_after (tower_of tower) (table_of table) (Ok good_table))

module _ (tower table : List ℕ) (b : Bool) (fit : FitTower tower)
    (is_b : b ≡ laid_out_for table (tower_of tower).states (tower_of tower).actions) (yes_b : b ≡ true) (v : Result (Unit {0}) Reason)
    (is-v : v ≡ rows_verdict (tower_of tower) (table_of table)) where
  abbrev ok : RowsJudgeable tower table
  ok = judgeable tower table b is_b fit yes_b

  pub rows_right : v ≡ Ok tt → TableTested (Ok tt) tower table
  unfolding tested answer_after
  rows_right e = record { answer = sym (rw (rows_say tower table v ok is-v, e)); judged = λ _. ok }

  pub rows_wrong : (reason : Reason) → v ≡ Err reason → TableTested (Err (Rejected.NotGood reason)) tower table
  unfolding tested answer_after
  rows_wrong reason e = record { answer = sym (rw (rows_say tower table v ok is-v, e)); judged = λ _. ok }

-- ---- test_files

module _ (tower table : List ℕ) (t : Answer (Unit {0})) (is_t : t ≡ tower_read (read_tower tower)) where
  -- Refused with the tower's refusal.
  pub tower_refused : (why : Refusal) → t ≡ Err why → FilesTested (Err (Rejected.Refused why)) tower table
  unfolding tested_files ◌then◌ tested
  tower_refused why e =
      record { answer = sym (rw (refused_of tower t why is_t e)); judged = λ f. let z : ◌≡◌ {A = ℕ} 0 1 = cc in absurd (omega arith) }

  -- The tower is fit.
  pub tower_fit : t ≡ Ok tt → FitTower tower
  tower_fit e = fit_of tower t is_t e

  -- The table decides.
  pub tower_good : (r : Verdict) → t ≡ Ok tt → TableTested r tower table → FilesTested r tower table
  unfolding tested_files ◌then◌
  tower_good r e f = record { answer = f.answer ∙ sym (rw (fit_gives tower t is_t e)); judged = f.judged }
