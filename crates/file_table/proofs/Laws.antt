-- What bytes that are laid out as a table file say, for those who read them: the header, every row and every step are in range, and
-- the moves of the table are what the steps say.
use Prim.Native.Nat.{ℕ, zero, suc, ◌+◌, ◌-◌, ◌≤◌, ◌<◌}
use mathlib.Core.Path.{◌≡◌, refl, sym, ◌∙◌, ap}
use mathlib.Core.Logic.{◌⊎◌, inl, inr}
use mathlib.Core.Bool.{Bool, true, false, ◌&&◌, not}
use Rattle.std.specs.Prelude.{Option, None, Some}
use mathlib.Core.List.{List, map}
use native.Mathlib.Omega.{arith}
use native.Mathlib.Decide.{dec_lt, ℕ_discrete}
use lib.ListN.{length}
use lib.Dec.{eqb}
use borrow.Author.Tests.{eqb-true, eq-eqb, ne_eqb}
use Rattle.base.specs.Lists.{count_from}
use Rattle.base.specs.Answers.{◌if◌else◌}
use Rattle.std.specs.Prelude.{Err, Ok}
use Rattle.base.specs.declared.Refusal.TheVariants.{Layout}
use Rattle.base.proofs.Lists.{and_left, and_right, and_fails}
use Rattle.base.proofs.Answers.{if_on, if_refuses}
use Rattle.logic.specs.Tower.{Tower}
use Rattle.logic.specs.Tables.{Step, step_to, move}
use Rattle.reading.specs.TableReading.{rows_of, steps_of, table_states, table_actions, row_state, row_count, row_first, step_place, step_action, step_target, header_right, steps_right, rows_right, laid_out, step_of, row_of_table, table_of, read_table}
use Rattle.reading.proofs.TableHeader.{HeaderFits, header_out}
use Rattle.reading.proofs.LaidOut.{steps_right_out, rows_right_out, laid_out_rows, row_of_table_at}
use Rattle.file_table.specs.Layout.{laid_out_for}

-- ---- answers

-- A test whose answer is true holds.
pub holds_by : (answer test : Bool) → answer ≡ test → answer ≡ true → test ≡ true
holds_by answer test e f = sym e ∙ f

-- ---- the header

-- Laid out bytes have a right header.
pub header_of : (bytes : List ℕ) → laid_out bytes ≡ true → header_right bytes ≡ true
unfolding laid_out
header_of bytes h = and_left (header_right bytes) (rows_right bytes 0 0 (rows_of bytes)) h

-- The header gives the size of the file.
pub size : (bytes : List ℕ) → header_right bytes ≡ true → length bytes ≡ step_place bytes (steps_of bytes)
size bytes h = (header_out bytes h).size

-- With the size `omega` finds the place of every number that a right header tells of inside the file.
pub ruleset inside = (arith, size)

-- ---- rows and steps

-- The action and the target row of step i are in range.
pub record StepInside (bytes : List ℕ) (i : ℕ) : Type 0 where
  pub action : step_action bytes i < table_actions bytes
  pub target : step_target bytes i < rows_of bytes

-- The state of row r is in range, and its steps are steps of the file and right.
pub record RowInside (bytes : List ℕ) (r : ℕ) : Type 0 where
  pub state : row_state bytes r < table_states bytes
  pub last : row_first bytes r + row_count bytes r ≤ steps_of bytes
  pub steps : steps_right bytes 0 (row_first bytes r) (row_count bytes r) ≡ true

-- Each of n right steps from step i on is in range.
pub steps_inside : (bytes : List ℕ) (n low i : ℕ) → steps_right bytes low i n ≡ true → (j : ℕ) → i ≤ j → j < i + n → StepInside bytes j
steps_inside bytes zero low i h j l g = absurd (omega arith)
steps_inside bytes (suc n) low i h j l g =
    let s = steps_right_out bytes low i n h in
    let rest = steps_inside bytes n (step_action bytes i + 1) (suc i) s.more j in
    elim (dec_lt i j) [
      | yes k ↦ rest (omega arith) (omega arith)
      | no k ↦ let e : i ≡ j = omega arith in rw (← e) (record { action = s.action; target = s.target })
    ]

-- Right rows have no more steps before them than there are.
pub rows_within : (bytes : List ℕ) (n first r : ℕ) → rows_right bytes first r n ≡ true → first ≤ steps_of bytes
unfolding rows_right
rows_within bytes zero first r h = omega (arith, eqb-true first (steps_of bytes) h)
rows_within bytes (suc n) first r h =
    omega (arith, rows_within bytes n (first + row_count bytes r) (suc r) (rows_right_out bytes first r n h).more)

-- Each of n right rows from row r on is in range.
pub rows_inside : (bytes : List ℕ) (n first r : ℕ) → rows_right bytes first r n ≡ true → (k : ℕ) → r ≤ k → k < r + n → RowInside bytes k
rows_inside bytes zero first r h k l g = absurd (omega arith)
rows_inside bytes (suc n) first r h k l g =
    let s = rows_right_out bytes first r n h in
    let rest = rows_inside bytes n (first + row_count bytes r) (suc r) s.more k in
    let last = rows_within bytes n (first + row_count bytes r) (suc r) s.more in
    elim (dec_lt r k) [
      | yes d ↦ rest (omega arith) (omega arith)
      | no d ↦
          let e : r ≡ k = omega arith in
          rw (← e) (record { state = s.state; last = rw s.begin last; steps = rw s.begin s.steps })
    ]

-- Each step from the first of n right rows on is in range.
pub rows_steps_inside : (bytes : List ℕ) (n first r : ℕ) → rows_right bytes first r n ≡ true
    → (i : ℕ) → first ≤ i → i < steps_of bytes → StepInside bytes i
unfolding rows_right
rows_steps_inside bytes zero first r h i l g = absurd (omega (arith, eqb-true first (steps_of bytes) h))
rows_steps_inside bytes (suc n) first r h i l g =
    let s = rows_right_out bytes first r n h in
    let rest = rows_steps_inside bytes n (first + row_count bytes r) (suc r) s.more i in
    elim (dec_lt i (first + row_count bytes r)) [
      | yes d ↦ steps_inside bytes (row_count bytes r) 0 first s.steps i l d
      | no d ↦ rest (omega arith) g
    ]

-- What laid out bytes say.
pub record LaidOut (bytes : List ℕ) : Type 0 where
  pub header : HeaderFits bytes
  pub row : (r : ℕ) → r < rows_of bytes → RowInside bytes r
  pub step : (i : ℕ) → i < steps_of bytes → StepInside bytes i

pub laid_out_known : (bytes : List ℕ) → laid_out bytes ≡ true → LaidOut bytes
laid_out_known bytes h =
    record {
      header = header_out bytes (header_of bytes h);
      row = λ r l. rows_inside bytes (rows_of bytes) 0 0 (laid_out_rows bytes h) r (omega arith) (omega arith);
      step = λ i l. rows_steps_inside bytes (rows_of bytes) 0 0 (laid_out_rows bytes h) i (omega arith) l;
    }

-- ---- the table

-- n steps of the file from step i on
abbrev pub steps_from : List ℕ → ℕ → ℕ → List Step
steps_from bytes i n = map (step_of bytes) (count_from i n)

-- The moves of the table from a row are those of its steps in the file.
pub move_read : (bytes : List ℕ) (r a : ℕ) → r < rows_of bytes
    → move (table_of bytes) r a ≡ step_to (steps_from bytes (row_first bytes r) (row_count bytes r)) a
unfolding move row_of_table
move_read bytes r a l = rw (row_of_table_at bytes r l)

-- A step with the action leads to its target row.
pub step_to_here : (bytes : List ℕ) (i n a : ℕ) → step_action bytes i ≡ a
    → step_to (steps_from bytes i (suc n)) a ≡ Some (step_target bytes i)
unfolding count_from step_to step_of
step_to_here bytes i n a e = rw (eq-eqb (step_action bytes i) a e)

-- A step with another action is passed over.
pub step_to_next : (bytes : List ℕ) (i n a : ℕ) → (step_action bytes i ≡ a → ⊥)
    → step_to (steps_from bytes i (suc n)) a ≡ step_to (steps_from bytes (suc i) n) a
unfolding count_from step_to step_of
step_to_next bytes i n a e = rw (ne_eqb (step_action bytes i) a e)

-- A step that allows the action, among n steps from step i on.
pub record Allowing (bytes : List ℕ) (i n a t : ℕ) : Type 0 where
  pub at : ℕ
  pub from : i ≤ at
  pub below : at < i + n
  pub action : step_action bytes at ≡ a
  pub target : step_target bytes at ≡ t

-- What steps lead to is the target of one of them that has the action.
pub step_to_from : (bytes : List ℕ) (n i a t : ℕ) → step_to (steps_from bytes i n) a ≡ Some t → Allowing bytes i n a t
unfolding count_from step_to
step_to_from bytes zero i a t e = absurd (let z : ◌≡◌ {A = ℕ} 0 1 = cc in omega arith)
step_to_from bytes (suc n) i a t e =
    elim (ℕ_discrete (step_action bytes i) a) [
      | yes d ↦
          let f = sym (step_to_here bytes i n a d) ∙ e in
          record { at = i; from = omega arith; below = omega arith; action = d; target = cc }
      | no d ↦
          let s = step_to_from bytes n (suc i) a t (sym (step_to_next bytes i n a d) ∙ e) in
          record { at = s.at; from = omega (arith, s.from); below = omega (arith, s.below); action = s.action; target = s.target }
    ]

-- Right steps lead by each of their actions to its target: no action comes twice.
pub step_to_each : (bytes : List ℕ) (n low i : ℕ) → steps_right bytes low i n ≡ true → (j : ℕ) → i ≤ j → j < i + n
    → (low ≤ step_action bytes j) × (step_to (steps_from bytes i n) (step_action bytes j) ≡ Some (step_target bytes j))
step_to_each bytes zero low i h j l g = absurd (omega arith)
step_to_each bytes (suc n) low i h j l g =
    let s = steps_right_out bytes low i n h in
    let rest = step_to_each bytes n (step_action bytes i + 1) (suc i) s.more j in
    elim (dec_lt i j) [
      | yes d ↦
          let k = rest (omega arith) (omega arith) in
          (omega (arith, s.above, k.0), step_to_next bytes i n (step_action bytes j) (λ e. omega (arith, k.0)) ∙ k.1)
      | no d ↦ let e : i ≡ j = omega arith in rw (← e) (s.above, step_to_here bytes i n (step_action bytes i) refl)
    ]

-- The action of a right step is at least as many above the lowest as there are steps before it.
pub steps_low : (bytes : List ℕ) (n low i : ℕ) → steps_right bytes low i n ≡ true → (j : ℕ) → i ≤ j → j < i + n
    → low + (j - i) ≤ step_action bytes j
steps_low bytes zero low i h j l g = absurd (omega arith)
steps_low bytes (suc n) low i h j l g =
    let s = steps_right_out bytes low i n h in
    let rest = steps_low bytes n (step_action bytes i + 1) (suc i) s.more j in
    elim (dec_lt i j) [
      | yes d ↦ omega (arith, s.above, rest (omega arith) (omega arith))
      | no d ↦ let e : i ≡ j = omega arith in rw (← e) (omega (arith, s.above))
    ]

-- Actions ascend: by as many as there are steps between.
pub steps_ascend : (bytes : List ℕ) (n low i : ℕ) → steps_right bytes low i n ≡ true → (j k : ℕ) → i ≤ j → j < k → k < i + n
    → step_action bytes j + (k - j) ≤ step_action bytes k
steps_ascend bytes zero low i h j k l g m = absurd (omega arith)
steps_ascend bytes (suc n) low i h j k l g m =
    let s = steps_right_out bytes low i n h in
    elim (dec_lt i j) [
      | yes d ↦ steps_ascend bytes n (step_action bytes i + 1) (suc i) s.more j k (omega arith) g (omega arith)
      | no d ↦
          let e : i ≡ j = omega arith in
          let low_k = steps_low bytes n (step_action bytes i + 1) (suc i) s.more k (omega arith) (omega arith) in
          rw (← e) (omega arith)
    ]

-- ---- the reader's answer

-- Where the reader answers a row, the action leads to it.
pub target_row : (o : Option ℕ) (answer : Option ℕ) (row : ℕ) → answer ≡ o → answer ≡ Some row → o ≡ Some row
target_row None answer row e f = cc
target_row (Some s) answer row e f = cc

-- Where it answers nothing, the action leads nowhere.
pub target_nothing : (o : Option ℕ) (answer : Option ℕ) → answer ≡ o → answer ≡ None → o ≡ None
target_nothing None answer e f = refl
target_nothing (Some s) answer e f = cc

-- ---- a table for a tower

-- Bytes that are laid out for so many states and actions are laid out, with these numbers in the header.
pub laid_for_parts : (bytes : List ℕ) (s a : ℕ) → laid_out_for bytes s a ≡ true
    → (laid_out bytes ≡ true) × (table_states bytes ≡ s) × (table_actions bytes ≡ a)
unfolding laid_out_for
laid_for_parts bytes s a e =
    let same = and_right (laid_out bytes) (eqb (table_states bytes) s && eqb (table_actions bytes) a) e in (
      and_left (laid_out bytes) (eqb (table_states bytes) s && eqb (table_actions bytes) a) e,
      eqb-true (table_states bytes) s (and_left (eqb (table_states bytes) s) (eqb (table_actions bytes) a) same),
      eqb-true (table_actions bytes) a (and_right (eqb (table_states bytes) s) (eqb (table_actions bytes) a) same),
    )

-- Others are refused with 13.
pub not_laid_for_read : (tower : Tower) (bytes : List ℕ) → laid_out_for bytes tower.states tower.actions ≡ false
    → read_table tower bytes ≡ Err Layout
unfolding laid_out_for read_table
not_laid_for_read tower bytes e =
    go (and_fails (laid_out bytes) (eqb (table_states bytes) tower.states && eqb (table_actions bytes) tower.actions) e)
  where
    go : (laid_out bytes ≡ false) ⊎ ((eqb (table_states bytes) tower.states && eqb (table_actions bytes) tower.actions) ≡ false)
        → read_table tower bytes ≡ Err Layout
    go (inl f) = if_refuses Layout _ (ap not f)
    go (inr f) = both (not (laid_out bytes)) (ap not f)
      where
        both : (b : Bool) → not (eqb (table_states bytes) tower.states && eqb (table_actions bytes) tower.actions) ≡ true
            → (Layout if b else (Layout if not (eqb (table_states bytes) tower.states && eqb (table_actions bytes) tower.actions) else Ok (table_of bytes)))
            ≡ Err Layout
        both true g = if_refuses Layout _ refl
        both false g = if_on Layout _ refl ∙ if_refuses Layout _ g
