-- A law for each way through the judge's code: from what is known there, the answer is what the definitions say.
use Prim.Native.Nat.{ℕ, ◌+◌, ◌-◌, ◌^◌, ◌≤◌, ◌<◌}
use native.Mathlib.Omega.{arith}
use mathlib.Core.Path.{◌≡◌, refl, sym, ◌∙◌, ap}
use mathlib.Core.Bool.{Bool, true, false, not, and-false}
use Rattle.std.specs.Prelude.{Option, None, Some}
use mathlib.Core.List.{List, [], ◌∷◌, map}
use lib.ListN.{length}
use lib.Dec.{eqb}
use mir.Syntax.{w64}
use mir.Val.{Fits}
use Rattle.base.specs.Choice.{pick}
use Rattle.base.specs.Lists.{some_of, every, count_from, below, is_there, there_with}
use Rattle.base.specs.declared.Reason.{Reason}
use Rattle.base.specs.declared.Reason.TheVariants.{Start, Withheld, WrongStep, Stopped}
use Rattle.logic.specs.Tower.{Tower, tower_of, controllable, goes_on}
use Rattle.logic.specs.Tables.{Table, row_at, move}
use Rattle.logic.specs.TableFile.{step_size}
use Rattle.reading.specs.TableReading.{rows_of, steps_of, row_state, row_count, row_first, step_place, step_action, step_target, header_right, step_of, row_of_table, table_of}
use Rattle.reading.proofs.LaidOut.{row_of_table_at, length_table_of}
use Rattle.outcome.specs.Check.{wrong_start, withheld, wrong_step, stopped}
use Rattle.std.specs.Prelude.{Result, Ok, Err}
use Rattle.file_tower.proofs.Laws.{state_reached, none_reached}
use Rattle.file_table.proofs.Laws.{header_of, laid_out_known, target_row, target_nothing}
use Rattle.checker_rows.specs.RowVerdict.{RowsJudgeable, some_withheld, some_wrong_step, row_verdict, rows_from, rows_verdict}
use Rattle.area_bytes.proofs.Scans.{Left, left_cons, left_more, left_none, every_fails, every_more}

-- ---- what the callees want

module _ (tower table : List ℕ) (ok : RowsJudgeable tower table) where
  pub has_header : header_right table ≡ true
  has_header = header_of table ok.layout

  pub row_zero : 0 < rows_of table
  row_zero = (laid_out_known table ok.layout).header.a_row

  -- The state of a row is one of the tower's.
  pub state_inside : (r x : ℕ) → r < rows_of table → x ≡ row_state table r → x < (tower_of tower).states
  state_inside r x l e = omega (arith, ok.states, ((laid_out_known table ok.layout).row r l).state)

  -- The steps of a row are steps of the file.
  pub steps_inside : (r i : ℕ) → r < rows_of table → i < row_first table r + row_count table r → i < steps_of table
  steps_inside r i l k = omega (arith, ((laid_out_known table ok.layout).row r l).last)

  -- The action of a row's step is one of the tower's.
  pub action_inside : (r i a : ℕ) → r < rows_of table → i < row_first table r + row_count table r → a ≡ step_action table i
      → a < (tower_of tower).actions
  action_inside r i a l k e = omega (arith, ok.actions, ((laid_out_known table ok.layout).step i (steps_inside r i l k)).action)

  -- The target of a row's step is a row.
  pub target_inside : (r i t : ℕ) → r < rows_of table → i < row_first table r + row_count table r → t ≡ step_target table i
      → t < rows_of table
  target_inside r i t l k e = omega (arith, ((laid_out_known table ok.layout).step i (steps_inside r i l k)).target)

  -- The end of a row's steps fits.
  pub row_end_fits : (r i n : ℕ) → r < rows_of table → i ≡ row_first table r → n ≡ row_count table r → length table < 2 ^ 64
      → Fits w64 (i + n)
  unfolding step_place step_size
  row_end_fits r i n l e f g =
      omega (arith, ((laid_out_known table ok.layout).row r l).last, (laid_out_known table ok.layout).header.size)

  -- The same of a step that is left of a row's.
  module _ {A : Type 0} (value : List ℕ → A) (r end i : ℕ) (l : r < rows_of table)
      (left : Left value (row_first table r) (row_count table r) end i) (m : i < end) where
    pub left_inside : i < steps_of table
    left_inside = steps_inside r i l (omega arith)

    pub left_action : (a : ℕ) → a ≡ step_action table i → a < (tower_of tower).actions
    left_action a e = action_inside r i a l (omega arith) e

    pub left_fits : length table < 2 ^ 64 → Fits w64 (i + 1)
    unfolding step_place step_size
    left_fits g = omega (arith, left_inside, (laid_out_known table ok.layout).header.size)

-- ---- the table's rows

module _ (table : List ℕ) (r : ℕ) (l : r < rows_of table) where
  -- The state of a row of the table is the one in the file.
  pub row_state_at : (row_at (table_of table) r).state ≡ row_state table r
  unfolding row_of_table
  row_state_at = rw (row_of_table_at table r l)

  -- So are its steps.
  pub row_steps_at : (row_at (table_of table) r).steps ≡ map (step_of table) (count_from (row_first table r) (row_count table r))
  unfolding row_of_table
  row_steps_at = rw (row_of_table_at table r l)

-- ---- a

pub start_decides : (tower table : List ℕ) (x s : ℕ) → RowsJudgeable tower table → x ≡ row_state table 0 → s ≡ (tower_of tower).start
    → not (eqb x s) ≡ wrong_start (tower_of tower) (table_of table)
unfolding wrong_start
start_decides tower table x s ok e f = rw (row_state_at table 0 (row_zero tower table ok), e, f)

-- ---- b

module _ (tower table : List ℕ) (r a k : ℕ) (b : Bool) (of_kind : k ≡ (tower_of tower).kind a) (is_b : b ≡ controllable k) where
  -- It may be withheld.
  pub withheld_ours : b ≡ true → false ≡ withheld (tower_of tower) (table_of table) r a
  unfolding withheld
  withheld_ours f =
      let h : controllable ((tower_of tower).kind a) ≡ true = cc in
      rw (h, and-false)

  module _ (x : ℕ) (v : Option ℕ) (not_ours : b ≡ false) (l : r < rows_of table) (at_x : x ≡ row_state table r)
      (is-v : v ≡ ((tower_of tower).target x a)) where
    abbrev there : Option ℕ
    there = (tower_of tower).target (row_at (table_of table) r).state a

    is_there_read : v ≡ there
    is_there_read = is-v ∙ ap (λ z. ((tower_of tower).target z a)) (at_x ∙ sym (row_state_at table r l))

    -- It is not enabled.
    pub withheld_not_enabled : v ≡ None → false ≡ withheld (tower_of tower) (table_of table) r a
    unfolding withheld is_there
    withheld_not_enabled f =
        let h : (tower_of tower).target (row_at (table_of table) r).state a ≡ None = none_reached there v is_there_read f in
        rw h

    -- It is enabled: the step decides.
    withheld_enabled : (y : ℕ) → v ≡ Some y → withheld (tower_of tower) (table_of table) r a ≡ not (is_there (move (table_of table) r a))
    unfolding withheld is_there
    withheld_enabled y f =
        let h : (tower_of tower).target (row_at (table_of table) r).state a ≡ Some y = state_reached there v y is_there_read f in
        let k : controllable ((tower_of tower).kind a) ≡ false = cc in
        rw (h, k)

    module _ (t : Option ℕ) (is_t : t ≡ (move (table_of table) r a)) where
      -- It has no step.
      pub withheld_no_step : (y : ℕ) → v ≡ Some y → t ≡ None → true ≡ withheld (tower_of tower) (table_of table) r a
      unfolding is_there
      withheld_no_step y f g =
          let h : move (table_of table) r a ≡ None = target_nothing (move (table_of table) r a) t is_t g in
          sym (withheld_enabled y f ∙ rw h)

      -- It has one.
      pub withheld_allowed : (y s : ℕ) → v ≡ Some y → t ≡ Some s → false ≡ withheld (tower_of tower) (table_of table) r a
      unfolding is_there
      withheld_allowed y s f g =
          let h : move (table_of table) r a ≡ Some s = target_row (move (table_of table) r a) t s is_t g in
          sym (withheld_enabled y f ∙ rw h)

-- The loop looks for such an action.
pub scan_withheld : (tower : Tower) (table : Table) (r n : ℕ) → n ≡ tower.actions
    → some_withheld tower table r ≡ some_of (withheld tower table r) (count_from 0 n)
unfolding some_withheld below
scan_withheld tower table r n e = rw e

-- ---- c

module _ (tower table : List ℕ) (r i x a : ℕ) (v : Option ℕ) (l : r < rows_of table) (at_x : x ≡ row_state table r)
    (at_a : a ≡ step_action table i) (is-v : v ≡ ((tower_of tower).target x a)) where
  abbrev reached : Option ℕ
  reached = (tower_of tower).target (row_at (table_of table) r).state (step_action table i)

  is_reached : v ≡ reached
  is_reached =
      is-v
      ∙ ap (λ z. ((tower_of tower).target x z)) at_a
      ∙ ap (λ z. ((tower_of tower).target z (step_action table i))) (at_x ∙ sym (row_state_at table r l))

  -- The action is not enabled.
  pub step_not_enabled : v ≡ None → true ≡ wrong_step (tower_of tower) (table_of table) r (step_of table i)
  unfolding wrong_step step_of there_with
  step_not_enabled f =
      let h : (tower_of tower).target (row_at (table_of table) r).state (step_action table i) ≡ None = none_reached reached v is_reached f in
      rw h

  -- It is: the state of the target row decides.
  pub step_enabled : (y t z : ℕ) → v ≡ Some y → t ≡ step_target table i → t < rows_of table → z ≡ row_state table t
      → not (eqb z y) ≡ wrong_step (tower_of tower) (table_of table) r (step_of table i)
  unfolding wrong_step step_of there_with
  step_enabled y t z f at_t k at-z =
      let h : (tower_of tower).target (row_at (table_of table) r).state (step_action table i) ≡ Some y = state_reached reached v y is_reached f in
      rw (h, ← at_t, row_state_at table t k, at-z)

-- a test of steps, by their numbers
pub some_mapped : {A B : Type 0} (test : B → Bool) (f : A → B) (xs : List A) → some_of test (map f xs) ≡ some_of (λ x. test (f x)) xs
unfolding some_of
some_mapped test f [] = refl
some_mapped test f (x ∷ xs) = rw (some_mapped test f xs)

every_mapped : {A B : Type 0} (test : B → Bool) (f : A → B) (xs : List A) → every test (map f xs) ≡ every (λ x. test (f x)) xs
unfolding every
every_mapped test f [] = refl
every_mapped test f (x ∷ xs) = rw (every_mapped test f xs)

-- step i of the file is wrong in row r
abbrev pub wrong_at : List ℕ → List ℕ → ℕ → ℕ → Bool
wrong_at tower table r i = wrong_step (tower_of tower) (table_of table) r (step_of table i)

-- The loop looks for such a step.
pub scan_wrong_steps : (tower table : List ℕ) (r : ℕ) → r < rows_of table
    → some_wrong_step (tower_of tower) (table_of table) r ≡ some_of (wrong_at tower table r) (count_from (row_first table r) (row_count table r))
unfolding some_wrong_step
scan_wrong_steps tower table r l =
    rw (row_steps_at table r l)
    (some_mapped (wrong_step (tower_of tower) (table_of table) r) (step_of table) (count_from (row_first table r) (row_count table r)))

-- ---- d

-- step i of the file does not go on
abbrev pub stops_at : List ℕ → List ℕ → ℕ → Bool
stops_at tower table i = not (goes_on ((tower_of tower).kind (step_action table i)))

-- The loop looks for a step that does.
pub scan_stopped : (tower table : List ℕ) (r : ℕ) → r < rows_of table
    → stopped (tower_of tower) (table_of table) r ≡ every (stops_at tower table) (count_from (row_first table r) (row_count table r))
unfolding stopped step_of
scan_stopped tower table r l =
    rw (row_steps_at table r l)
    (every_mapped (λ s. not (goes_on ((tower_of tower).kind s.action))) (step_of table) (count_from (row_first table r) (row_count table r)))

module _ (tower table : List ℕ) (first count end i a k : ℕ) (b : Bool) (left : Left (every (stops_at tower table)) first count end i)
    (l : i < end) (at_a : a ≡ step_action table i) (at_k : k ≡ (tower_of tower).kind a) (is_b : b ≡ goes_on k) where
  pub step_goes_on : (all : Bool) → all ≡ every (stops_at tower table) (count_from first count) → b ≡ true → false ≡ all
  step_goes_on all e f =
      every_fails (stops_at tower table) first count end i left (stops_at tower table i) all e l refl (rw (← at_a, ← at_k, ← is_b, f))

  pub step_stops : b ≡ false → Left (every (stops_at tower table)) first count end (i + 1)
  step_stops f = every_more (stops_at tower table) first count end i left (stops_at tower table i) l refl (rw (← at_a, ← at_k, ← is_b, f))

-- ---- one row

module _ (tower : Tower) (table : Table) (r : ℕ) (b : Bool) (is_b : b ≡ some_withheld tower table r) where
  pub row_withheld : b ≡ true → Err (Withheld r) ≡ row_verdict tower table r (Ok tt)
  unfolding row_verdict
  row_withheld f = rw (← is_b, f)

  module _ (c : Bool) (no_b : b ≡ false) (is_c : c ≡ some_wrong_step tower table r) where
    pub row_wrong_step : c ≡ true → Err (WrongStep r) ≡ row_verdict tower table r (Ok tt)
    unfolding row_verdict
    row_wrong_step f = rw (← is_b, no_b, ← is_c, f)

    module _ (d : Bool) (no_c : c ≡ false) (is_d : d ≡ stopped tower table r) where
      pub row_stopped : d ≡ true → Err (Stopped r) ≡ row_verdict tower table r (Ok tt)
      unfolding row_verdict
      row_stopped f = rw (← is_b, no_b, ← is_c, no_c, ← is_d, f)

      pub row_right : d ≡ false → Ok tt ≡ row_verdict tower table r (Ok tt)
      unfolding row_verdict
      row_right f = rw (← is_b, no_b, ← is_c, no_c, ← is_d, f)

-- ---- all rows

module _ (tower : Tower) (table : Table) (r : ℕ) (v : Result (Unit {0}) Reason) (is-v : v ≡ row_verdict tower table r (Ok tt)) (after : Result (Unit {0}) Reason) where
  -- A right row leaves it to those after it.
  row_leaves : v ≡ Ok tt → row_verdict tower table r after ≡ after
  unfolding row_verdict
  row_leaves f = go (some_withheld tower table r) (some_wrong_step tower table r) (stopped tower table r) (sym is-v ∙ f)
    where
      go : (b c d : Bool)
          → pick b (λ _. Err (Withheld r)) (λ _. pick c (λ _. Err (WrongStep r)) (λ _. pick d (λ _. Err (Stopped r)) (λ _. Ok (tt {0})))) ≡ Ok (tt {0})
          → pick b (λ _. Err (Withheld r)) (λ _. pick c (λ _. Err (WrongStep r)) (λ _. pick d (λ _. Err (Stopped r)) (λ _. after))) ≡ after
      go true c d e = cc
      go false true d e = cc
      go false false true e = cc
      go false false false e = refl

  -- A wrong one decides.
  row_decides : (q : Reason) → v ≡ Err q → row_verdict tower table r after ≡ Err q
  unfolding row_verdict
  row_decides q f = go (some_withheld tower table r) (some_wrong_step tower table r) (stopped tower table r) (sym is-v ∙ f)
    where
      go : (b c d : Bool)
          → pick b (λ _. Err (Withheld r)) (λ _. pick c (λ _. Err (WrongStep r)) (λ _. pick d (λ _. Err (Stopped r)) (λ _. Ok (tt {0})))) ≡ Err q
          → pick b (λ _. Err (Withheld r)) (λ _. pick c (λ _. Err (WrongStep r)) (λ _. pick d (λ _. Err (Stopped r)) (λ _. after))) ≡ Err q
      go true c d e = e
      go false true d e = e
      go false false true e = e
      go false false false e = cc

module _ (tower : Tower) (table : List ℕ) (w : Bool) (is-w : w ≡ wrong_start tower (table_of table)) where
  pub rows_wrong_start : w ≡ true → Err Start ≡ rows_verdict tower (table_of table)
  unfolding rows_verdict
  rows_wrong_start f = rw (← is-w, f)

  module _ (n end r : ℕ) (no_w : w ≡ false) (is-n : n ≡ rows_of table) (left : Left (rows_from tower (table_of table)) 0 n end r) where
    rows_all : rows_verdict tower (table_of table) ≡ rows_from tower (table_of table) (count_from 0 n)
    unfolding rows_verdict below
    rows_all = rw (← is-w, no_w, length_table_of table, ← is-n)

    pub rows_wrong : (v : Result (Unit {0}) Reason) (q : Reason) → r < end → v ≡ row_verdict tower (table_of table) r (Ok tt) → v ≡ Err q
        → Err q ≡ rows_verdict tower (table_of table)
    unfolding rows_from
    rows_wrong v q l e f =
        sym (rows_all ∙ sym (left_cons (rows_from tower (table_of table)) 0 n end r left l)
        ∙ row_decides tower (table_of table) r v e (rows_from tower (table_of table) (count_from (r + 1) (end - (r + 1)))) q f)

    pub rows_right : end ≤ r → Ok tt ≡ rows_verdict tower (table_of table)
    unfolding rows_from
    rows_right l = left_none (rows_from tower (table_of table)) 0 n end r left l ∙ sym rows_all

pub rows_more : (tower : Tower) (table : Table) (n end r : ℕ) (v : Result (Unit {0}) Reason) → Left (rows_from tower table) 0 n end r → r < end
    → v ≡ row_verdict tower table r (Ok tt) → v ≡ Ok tt → Left (rows_from tower table) 0 n end (r + 1)
unfolding rows_from
rows_more tower table n end r v left l e f =
    left_more (rows_from tower table) 0 n end r left l
    (row_leaves tower table r v e (rows_from tower table (count_from (r + 1) (end - (r + 1)))) f)
