-- Reasons a to d, which need no book: some of them is the first or the rows are right, and the checker's part about rows says which.
use Prim.Native.Nat.{ℕ, zero, suc, ◌+◌, ◌-◌, ◌≤◌, ◌<◌}
use mathlib.Core.Path.{◌≡◌, sym, ◌∙◌, ap}
use mathlib.Core.Logic.{◌⊎◌, inl, inr}
use mathlib.Core.Bool.{Bool, true, false}
use native.Mathlib.Omega.{arith}
use native.Mathlib.Nat.{zero-add, add-zero, suc-add}
use lib.ListN.{length}
use Rattle.base.specs.Lists.{some_of, below, count_from}
use Rattle.base.specs.Answers.{Answer}
use Rattle.std.specs.Prelude.{Ok}
use Rattle.base.proofs.Lists.{whether, never_both, true_by}
use Rattle.base.specs.declared.Reason.{Reason}
use Rattle.base.specs.declared.Reason.TheVariants.{Start, Withheld, Stopped}
use Rattle.base.specs.declared.Reason.TheVariants as Why
use Rattle.logic.specs.Tower.{Tower, Listed}
use Rattle.logic.specs.Tables.{Table, row_at, IsTable, GoodStart}
use Rattle.logic.proofs.Canonical.{below_suc}
use Rattle.outcome.specs.Check.{Finding, not_good, ◌found_if◌else◌, wrong_start, withheld, wrong_step, stopped, judge_row, judge_rows, rows_judged}
use Rattle.outcome.specs.VerdictRight.{RowRight, RightBelow, FirstOfRows, reason_a, reason_b, reason_c, reason_d}
use Rattle.outcome.proofs.Reasons.{start_right, none_withheld, steps_right, goes_right}

-- a chain goes on where its test fails, and ends with its reason where the test holds
pub found_on : (q : Reason) {b : Bool} (o : Answer Finding) → b ≡ false → (q found_if b else o) ≡ o
unfolding ◌found_if◌else◌
found_on q o e = rw e

pub found_here : (q : Reason) {b : Bool} (o : Answer Finding) → b ≡ true → (q found_if b else o) ≡ Ok (not_good q)
unfolding ◌found_if◌else◌
found_here q o e = rw e

module _ (tower : Tower) (table : Table) (listed : Listed tower) (is_table : IsTable table) where
  -- ---- which reason it is

  -- where the rows below row r are right, b, c or d is the first reason, or row r is right too
  row_decided : (r : ℕ) → r < length table → RightBelow tower table r → ((q : Reason) × FirstOfRows tower table q) ⊎ RightBelow tower table (suc r)
  row_decided r lt right =
      whether (some_of (withheld tower table r) (below tower.actions))
      (λ e. inl (Withheld r, reason_b r lt right (λ b. never_both e ((none_withheld tower table r listed).1 b))))
      (λ e.
      let b = (none_withheld tower table r listed).0 e in
      whether (some_of (wrong_step tower table r) (row_at table r).steps)
      (λ f. inl (Why.WrongStep r, reason_c r lt right b (λ c. never_both f ((steps_right tower table r (is_table.once r lt)).1 c))))
      (λ f.
      let c = (steps_right tower table r (is_table.once r lt)).0 f in
      whether (stopped tower table r)
      (λ g. inl (Stopped r, reason_d r lt right b c (λ d. never_both g ((goes_right tower table r).1 d))))
      (λ g.
      let here : RowRight tower table r = record { b = b; c = c; d = (goes_right tower table r).0 g } in
      inr (record { a = right.a; rows = below_suc (RowRight tower table) r right.rows here }))))

  rows_below : (r : ℕ) → r ≤ length table → GoodStart tower table → ((q : Reason) × FirstOfRows tower table q) ⊎ RightBelow tower table r
  rows_below zero le a = inr (record { a = a; rows = λ s lt. absurd (omega arith) })
  rows_below (suc r) le a =
      elim (rows_below r (omega arith) a) [ inl why ↦ inl why | inr right ↦ row_decided r (omega arith) right ]

  -- One of the reasons a to d is the first that holds, or none of them holds.
  pub rows_decided : ((q : Reason) × FirstOfRows tower table q) ⊎ RightBelow tower table (length table)
  rows_decided =
      whether (wrong_start tower table)
      (λ e. inl (Start, reason_a (λ a. never_both e ((start_right tower table).1 a))))
      (λ e. rows_below (length table) (omega arith) ((start_right tower table).0 e))

  -- ---- and what is said

  -- a row that is right is passed over
  row_passed : (r : ℕ) (after : Answer Finding) → r < length table → RowRight tower table r → judge_row tower table r after ≡ after
  unfolding judge_row
  row_passed r after lt right =
      found_on (Withheld r) _ ((none_withheld tower table r listed).1 right.b)
      ∙ found_on (Why.WrongStep r) _ ((steps_right tower table r (is_table.once r lt)).1 right.c)
      ∙ found_on (Stopped r) _ ((goes_right tower table r).1 right.d)

  -- and so are n rows from row k on
  rows_passed : (n k m : ℕ) (after : Answer Finding) → k + n ≤ length table → ((s : ℕ) → s < k + n → RowRight tower table s)
      → judge_rows tower table (count_from k (n + m)) after ≡ judge_rows tower table (count_from (k + n) m) after
  unfolding judge_rows count_from
  rows_passed zero k m after le right = rw (zero-add, add-zero)
  rows_passed (suc n) k m after le right =
      ap (λ i. judge_rows tower table (count_from k i) after) (suc-add n m)
      ∙ row_passed k (judge_rows tower table (count_from (suc k) (n + m)) after) (omega arith) (right k (omega arith))
      ∙ rows_passed n (suc k) m after (omega arith) (λ s lt. right s (omega arith))
      ∙ ap (λ i. judge_rows tower table (count_from i m) after) (let e : suc k + n ≡ k + suc n = omega arith in e)

  -- what is said where a and the rows below row r are right
  said_from : (r m : ℕ) (after : Answer Finding) → r + m ≡ length table → RightBelow tower table r
      → rows_judged tower table after ≡ judge_rows tower table (count_from r m) after
  unfolding below
  said_from r m after e right =
      found_on Start _ ((start_right tower table).1 right.a)
      ∙ ap (λ n. judge_rows tower table (count_from 0 n) after) (sym e)
      ∙ rows_passed r 0 m after (omega arith) (λ s lt. right.rows s (omega arith))
      ∙ ap (λ i. judge_rows tower table (count_from i m) after) (zero-add r)

  -- what is said at the first wrong row
  said_at : (r : ℕ) (o after : Answer Finding) → r < length table → RightBelow tower table r
      → ((behind : Answer Finding) → judge_row tower table r behind ≡ o) → rows_judged tower table after ≡ o
  unfolding judge_rows count_from
  said_at r o after lt right wrong = said_from r (suc (length table - suc r)) after (omega arith) right ∙ wrong _

  -- The first reason is said, whatever comes after the rows.
  pub rows_say : (q : Reason) → FirstOfRows tower table q → (after : Answer Finding) → rows_judged tower table after ≡ Ok (not_good q)
  unfolding judge_row
  rows_say _ (reason_a wrong) after = found_here Start _ (true_by (wrong_start tower table) (λ e. wrong ((start_right tower table).0 e)))
  rows_say _ (reason_b r lt right wrong) after =
      said_at r _ after lt right
      (λ behind.
      found_here (Withheld r) _
      (true_by (some_of (withheld tower table r) (below tower.actions)) (λ e. wrong ((none_withheld tower table r listed).0 e))))
  rows_say _ (reason_c r lt right b wrong) after =
      said_at r _ after lt right
      (λ behind.
      found_on (Withheld r) _ ((none_withheld tower table r listed).1 b)
      ∙ found_here (Why.WrongStep r) _
      (true_by (some_of (wrong_step tower table r) (row_at table r).steps) (λ e. wrong ((steps_right tower table r (is_table.once r lt)).0 e))))
  rows_say _ (reason_d r lt right b c wrong) after =
      said_at r _ after lt right
      (λ behind.
      found_on (Withheld r) _ ((none_withheld tower table r listed).1 b)
      ∙ found_on (Why.WrongStep r) _ ((steps_right tower table r (is_table.once r lt)).1 c)
      ∙ found_here (Stopped r) _ (true_by (stopped tower table r) (λ e. wrong ((goes_right tower table r).0 e))))

  -- Where all rows are right, what is said is what comes after them.
  pub rows_pass : RightBelow tower table (length table) → (after : Answer Finding) → rows_judged tower table after ≡ after
  unfolding judge_rows count_from
  rows_pass right after = said_from (length table) 0 after (omega arith) right
