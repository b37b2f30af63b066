-- What the file of a table holds: every row and step of the table is read back where it was written.
use Prim.Native.Nat.{ℕ, suc, ◌+◌, ◌*◌, ◌^◌, ◌≤◌, ◌<◌}
use native.Mathlib.Omega.{arith}
use native.Mathlib.Nat.{add-zero, mul-le-mul}
use native.Mathlib.Numerals.{add-one}
use mathlib.Core.Path.{◌≡◌, refl, sym, ◌∙◌, ap, ap₂}
use mathlib.Core.Bool.{true}
use mathlib.Core.List.{List, [], ◌∷◌, ◌++◌, map, Memᴰ, append_assoc, append-nil}
use lib.ListN.{length, drop, length-append}
use lib.Seq.{drop_at}
use borrow.Author.Tests.{eq-eqb, le-leb, lt-ltb}
use Rattle.base.specs.Lists.{joined, count_from}
use Rattle.base.specs.Bytes.{byte_at, number_at, number_bytes}
use Rattle.base.proofs.Lists.{and_both}
use Rattle.base.proofs.Bytes.{number_at_one, number_read, number_behind}
use Rattle.logic.specs.declared.FileLayout.{FileLayout}
use Rattle.logic.specs.Tower.{most_actions}
use Rattle.logic.specs.Tables.{Step, Row, Table, Ascending}
use Rattle.logic.specs.TableFile.{most_rows, rows_at, row_size, step_size, steps_at, all_steps, step_bytes, row_bytes, header_bytes, table_file}
use Rattle.logic.proofs.Layouts.{IsLayout, layout_fits}
use Rattle.logic.proofs.Canonical.{ascending_mem, ascending_rest, step_equal, row_equal}
use Rattle.logic.proofs.TableFile.{Fits, RowFits, fits_row, row_few, fits_few_steps, all_steps_cons, length_all_steps, length_header, length_row_bytes}
use Rattle.reading.specs.TableReading.{rows_of, steps_of, table_states, table_actions, table_layout, row_place, row_state, row_count, row_first, step_place, step_action, step_target, steps_right, rows_right, laid_out, step_of, row_of_table}
use Rattle.reading.proofs.TableHeader.{row_place_zero, row_place_suc, step_place_suc, step_place_zero, HeaderFits, header_in}

-- ---- what is written is read

-- The bytes hold these steps from step i on.
unfoldable pub StepsAt : List ℕ → ℕ → List Step → Type 0
StepsAt bytes i [] = Unit {0}
StepsAt bytes i (s ∷ steps) = (step_of bytes i ≡ s) × StepsAt bytes (suc i) steps

-- The bytes hold a row as row r, with so many steps before it.
pub record RowAt (bytes : List ℕ) (first r : ℕ) (row : Row) : Type 0 where
  pub state : row_state bytes r ≡ row.state
  pub count : row_count bytes r ≡ length row.steps
  pub begin : row_first bytes r ≡ first
  pub steps : StepsAt bytes first row.steps

-- The bytes hold these rows from row r on.
unfoldable pub RowsAt : List ℕ → ℕ → ℕ → List Row → Type 0
RowsAt bytes first r [] = Unit {0}
RowsAt bytes first r (row ∷ rows) = RowAt bytes first r row × RowsAt bytes (first + length row.steps) (suc r) rows

-- A step's numbers fit their bytes.
record StepFits (s : Step) : Type 0 where
  action : s.action < 256
  target : s.target < 65536

one_byte : (bytes : List ℕ) (p n : ℕ) (rest : List ℕ) → drop p bytes ≡ number_bytes 1 n ++ rest → n < 256 → byte_at bytes p ≡ n
one_byte bytes p n rest e lt = sym (number_at_one bytes p) ∙ number_read 1 n bytes rest p e lt

step_held : (bytes : List ℕ) (i : ℕ) (s : Step) (rest : List ℕ) → drop (step_place bytes i) bytes ≡ step_bytes s ++ rest → StepFits s
    → (step_of bytes i ≡ s) × (drop (step_place bytes (suc i)) bytes ≡ rest)
unfolding step_bytes step_of step_action step_target
step_held bytes i s rest e f = (step_equal (step_of bytes i) s action target, ap (λ q. drop q bytes) (step_place_suc bytes i) ∙ behind)
  where
    p : ℕ
    p = step_place bytes i

    whole : drop p bytes ≡ number_bytes 1 s.action ++ (number_bytes 2 s.target ++ rest)
    whole = e ∙ append_assoc (number_bytes 1 s.action) (number_bytes 2 s.target) rest

    second : drop (p + 1) bytes ≡ number_bytes 2 s.target ++ rest
    second = number_behind 1 s.action bytes (number_bytes 2 s.target ++ rest) p whole

    action : byte_at bytes p ≡ s.action
    action = one_byte bytes p s.action (number_bytes 2 s.target ++ rest) whole f.action

    target : number_at 2 bytes (p + 1) ≡ s.target
    target = number_read 2 s.target bytes rest (p + 1) second f.target

    behind : drop (p + 1 + 2) bytes ≡ rest
    behind = number_behind 2 s.target bytes rest (p + 1) second

steps_held : (bytes : List ℕ) (i : ℕ) (steps : List Step) (rest : List ℕ)
    → drop (step_place bytes i) bytes ≡ joined (map step_bytes steps) ++ rest → ((s : Step) → Memᴰ s steps → StepFits s)
    → StepsAt bytes i steps × (drop (step_place bytes (i + length steps)) bytes ≡ rest)
unfolding StepsAt joined
steps_held bytes i [] rest e f = (tt, ap (λ q. drop (step_place bytes q) bytes) (add-zero i) ∙ e)
steps_held bytes i (s ∷ steps) rest e f =
    let (here, more) =
    step_held bytes i s (joined (map step_bytes steps) ++ rest) (e ∙ append_assoc (step_bytes s) (joined (map step_bytes steps)) rest)
    (f s (Memᴰ.head refl)) in
    let (there, behind) = steps_held bytes (suc i) steps rest more (λ t k. f t (Memᴰ.tail k)) in
    let place : i + suc (length steps) ≡ suc i + length steps = omega arith in
    ((here, there), ap (λ q. drop (step_place bytes q) bytes) place ∙ behind)

-- The steps' bytes, in two parts.
steps_bytes_append : (xs ys : List Step)
    → joined (map step_bytes (xs ++ ys)) ≡ joined (map step_bytes xs) ++ joined (map step_bytes ys)
unfolding joined
steps_bytes_append [] ys = refl
steps_bytes_append (s ∷ xs) ys =
    ap (λ l. step_bytes s ++ l) (steps_bytes_append xs ys)
    ∙ sym (append_assoc (step_bytes s) (joined (map step_bytes xs)) (joined (map step_bytes ys)))

-- A row's numbers fit their bytes.
record RowSmall (layout : FileLayout) (first : ℕ) (row : Row) : Type 0 where
  state : row.state < 256 ^ layout.width
  count : length row.steps < 256
  begin : first < 65536
  steps : (s : Step) → Memᴰ s row.steps → StepFits s

row_held : (bytes : List ℕ) (first r : ℕ) (row : Row) (rest more : List ℕ)
    → drop (row_place bytes r) bytes
    ≡ number_bytes (table_layout bytes).width row.state ++ (number_bytes 1 (length row.steps) ++ (number_bytes 2 first ++ rest))
    → drop (step_place bytes first) bytes ≡ joined (map step_bytes row.steps) ++ more → RowSmall (table_layout bytes) first row
    → RowAt bytes first r row × (drop (row_place bytes (suc r)) bytes ≡ rest)
    × (drop (step_place bytes (first + length row.steps)) bytes ≡ more)
unfolding row_state row_count row_first
row_held bytes first r row rest more e g f = (
  record {
    state = number_read width row.state bytes (number_bytes 1 (length row.steps) ++ (number_bytes 2 first ++ rest)) p e f.state;
    count = one_byte bytes (p + width) (length row.steps) (number_bytes 2 first ++ rest) second f.count;
    begin = number_read 2 first bytes rest (p + width + 1) third f.begin;
    steps = held.0;
  },
  ap (λ q. drop q bytes) (row_place_suc bytes r) ∙ number_behind 2 first bytes rest (p + width + 1) third,
  held.1,
)
  where
    p : ℕ
    p = row_place bytes r

    width : ℕ
    width = (table_layout bytes).width

    second : drop (p + width) bytes ≡ number_bytes 1 (length row.steps) ++ (number_bytes 2 first ++ rest)
    second = number_behind width row.state bytes (number_bytes 1 (length row.steps) ++ (number_bytes 2 first ++ rest)) p e

    third : drop (p + width + 1) bytes ≡ number_bytes 2 first ++ rest
    third = number_behind 1 (length row.steps) bytes (number_bytes 2 first ++ rest) (p + width) second

    held : StepsAt bytes first row.steps × (drop (step_place bytes (first + length row.steps)) bytes ≡ more)
    held = steps_held bytes first row.steps more g f.steps

rows_held : (bytes : List ℕ) (first r : ℕ) (rows : List Row) (rest more : List ℕ)
    → drop (row_place bytes r) bytes ≡ row_bytes (table_layout bytes) first rows ++ rest
    → drop (step_place bytes first) bytes ≡ joined (map step_bytes (all_steps rows)) ++ more
    → ((row : Row) (k : ℕ) → k ≤ first + length (all_steps rows) → Memᴰ row rows → RowSmall (table_layout bytes) k row)
    → RowsAt bytes first r rows
unfolding RowsAt row_bytes
rows_held bytes first r [] rest more e g f = tt
rows_held bytes first r (row ∷ rows) rest more e g f =
    let (here, next_row, next_step) =
    row_held bytes first r row (row_bytes (table_layout bytes) (first + length row.steps) rows ++ rest)
    (joined (map step_bytes (all_steps rows)) ++ more)
    (e ∙ simp append_assoc)
    (g ∙ ap (λ l. joined (map step_bytes l) ++ more) (all_steps_cons row rows)
    ∙ ap (λ l. l ++ more) (steps_bytes_append row.steps (all_steps rows))
    ∙ append_assoc (joined (map step_bytes row.steps)) (joined (map step_bytes (all_steps rows))) more)
    (f row first (omega arith) (Memᴰ.head refl)) in (
      here,
      rows_held bytes (first + length row.steps) (suc r) rows rest more next_row next_step
          (λ x k le i. f x k (omega (arith, length_all_steps row rows)) (Memᴰ.tail i)),
    )

-- ---- what is held is read

-- The steps that are held are those that are read.
pub steps_read : (bytes : List ℕ) (i : ℕ) (steps : List Step) → StepsAt bytes i steps
    → map (step_of bytes) (count_from i (length steps)) ≡ steps
unfolding StepsAt count_from
steps_read bytes i [] h = refl
steps_read bytes i (s ∷ steps) h = cc (h.0, steps_read bytes (suc i) steps h.1)

-- The rows that are held are those that are read.
pub rows_read : (bytes : List ℕ) (first r : ℕ) (rows : List Row) → RowsAt bytes first r rows
    → map (row_of_table bytes) (count_from r (length rows)) ≡ rows
unfolding RowsAt count_from row_of_table
rows_read bytes first r [] h = refl
rows_read bytes first r (row ∷ rows) (h, hs) =
    cc (
      row_equal (row_of_table bytes r) row h.state (rw (h.begin, h.count) (steps_read bytes first row.steps h.steps)),
      rows_read bytes (first + length row.steps) (suc r) rows hs,
    )

-- Held steps that ascend from `low` and lie in range are laid out right.
pub held_steps_right : (bytes : List ℕ) (low i : ℕ) (steps : List Step) → StepsAt bytes i steps → Ascending steps
    → ((s : Step) → Memᴰ s steps → (low ≤ s.action) × (s.action < table_actions bytes) × (s.target < rows_of bytes))
    → steps_right bytes low i (length steps) ≡ true
unfolding StepsAt steps_right step_of
held_steps_right bytes low i [] h up f = refl
held_steps_right bytes low i (s ∷ steps) (h, hs) up f =
    and_both (and_both (and_both (le-leb low (step_action bytes i) (rw action here.0))
    (lt-ltb (step_action bytes i) (table_actions bytes) (rw action here.1)))
    (lt-ltb (step_target bytes i) (rows_of bytes) (rw target here.2)))
    (rw (add-one i, action)
    (held_steps_right bytes (s.action + 1) (suc i) steps hs (ascending_rest s steps up) (λ t k.
    let (a, b, c) = f t (Memᴰ.tail k) in (omega (arith, ascending_mem s t steps up k), b, c))))
  where
    action : step_action bytes i ≡ s.action
    action = ap (λ x. x.action) h

    target : step_target bytes i ≡ s.target
    target = ap (λ x. x.target) h

    here : (low ≤ s.action) × (s.action < table_actions bytes) × (s.target < rows_of bytes)
    here = f s (Memᴰ.head refl)

-- Held rows that fit are laid out right, if the header gives the number of their steps.
pub held_rows_right : (bytes : List ℕ) (first r : ℕ) (rows : List Row) → RowsAt bytes first r rows
    → ((row : Row) → Memᴰ row rows → RowFits (table_states bytes) (table_actions bytes) (rows_of bytes) row)
    → first + length (all_steps rows) ≡ steps_of bytes → rows_right bytes first r (length rows) ≡ true
unfolding RowsAt rows_right all_steps joined
held_rows_right bytes first r [] h f e = eq-eqb first (steps_of bytes) (omega arith)
held_rows_right bytes first r (row ∷ rows) (h, hs) f e =
    and_both (and_both (and_both (lt-ltb (row_state bytes r) (table_states bytes) (rw h.state fit.state))
    (eq-eqb (row_first bytes r) first h.begin))
    (rw h.count (held_steps_right bytes 0 first row.steps h.steps fit.ascending (λ s k.
    (omega arith, fit.action s k, fit.target s k)))))
    (rw (h.count, add-one r)
    (held_rows_right bytes (first + length row.steps) (suc r) rows hs (λ x k. f x (Memᴰ.tail k))
    (omega (arith, length_all_steps row rows))))
  where
    fit : RowFits (table_states bytes) (table_actions bytes) (rows_of bytes) row
    fit = f row (Memᴰ.head refl)

-- ---- the file of a table

-- What the file of a table holds.
pub record FileHolds (layout : FileLayout) (states actions : ℕ) (table : Table) (bytes : List ℕ) : Type 0 where
  pub laid : table_layout bytes ≡ layout
  pub rows : rows_of bytes ≡ length table
  pub steps : steps_of bytes ≡ length (all_steps table)
  pub rows_begin : number_at 2 bytes 4 ≡ rows_at
  pub steps_begin : number_at 2 bytes 6 ≡ steps_at layout (length table)
  pub for_states : table_states bytes ≡ states
  pub for_actions : table_actions bytes ≡ actions
  pub held : RowsAt bytes 0 0 table

-- The layout of a table's file is the one that it was written in.
file_layout : (layout : FileLayout) (states actions : ℕ) (table : Table) → Fits layout states actions table
    → table_layout (table_file layout states actions table) ≡ layout
unfolding table_layout
file_layout layout states actions table f = sym f.laid.known

row_small : (layout : FileLayout) (states actions rows first : ℕ) (row : Row) → IsLayout layout → RowFits states actions rows row
    → states ≤ layout.most → actions ≤ most_actions → rows ≤ most_rows → first ≤ 16000 → RowSmall layout first row
unfolding most_actions most_rows
row_small layout states actions rows first row is f a b c le =
    record {
      state = omega (arith, f.state, (layout_fits is).states_written);
      count = omega (arith, row_few states actions rows row f);
      begin = omega arith;
      steps = λ s k. record { action = omega (arith, f.action s k); target = omega (arith, f.target s k) };
    }

file_rows_behind : (layout : FileLayout) (states actions : ℕ) (table : Table)
    → drop rows_at (table_file layout states actions table) ≡ row_bytes layout 0 table ++ joined (map step_bytes (all_steps table))
unfolding table_file header_bytes joined number_bytes rows_at
file_rows_behind layout states actions table = refl

file_steps_behind : (layout : FileLayout) (states actions : ℕ) (table : Table)
    → drop (steps_at layout (length table)) (table_file layout states actions table) ≡ joined (map step_bytes (all_steps table)) ++ []
unfolding table_file steps_at
file_steps_behind layout states actions table =
    ap (drop (steps_at layout (length table))) (sym (append_assoc header (row_bytes layout 0 table) steps))
    ∙ drop_at (header ++ row_bytes layout 0 table) steps (steps_at layout (length table)) (simp (length-append, length_header, length_row_bytes))
    ∙ sym (append-nil steps)
  where
    header : List ℕ
    header = header_bytes layout (length table) (length (all_steps table)) states actions

    steps : List ℕ
    steps = joined (map step_bytes (all_steps table))

-- The file says how many rows there are.
pub file_rows : (layout : FileLayout) (states actions : ℕ) (table : Table) → length table ≤ most_rows
    → rows_of (table_file layout states actions table) ≡ length table
unfolding table_file header_bytes joined number_bytes number_at most_rows
file_rows layout states actions table le = omega arith

-- The file holds the rows.
pub file_held : (layout : FileLayout) (states actions : ℕ) (table : Table) → Fits layout states actions table
    → RowsAt (table_file layout states actions table) 0 0 table
file_held layout states actions table f =
    rows_held file 0 0 table (joined (map step_bytes (all_steps table))) []
    (ap (λ p. drop p file) (row_place_zero file) ∙ file_rows_behind layout states actions table
    ∙ ap (λ l. row_bytes l 0 table ++ joined (map step_bytes (all_steps table))) (sym laid))
    (ap (λ p. drop p file) place ∙ file_steps_behind layout states actions table)
    (λ row k le i.
    rw laid (row_small layout states actions (length table) k row f.laid (fits_row layout states actions table f row i) f.few_states
    f.few_actions f.few_rows (omega (arith, fits_few_steps layout states actions table f))))
  where
    file : List ℕ
    file = table_file layout states actions table

    laid : table_layout file ≡ layout
    laid = file_layout layout states actions table f

    place : step_place file 0 ≡ steps_at layout (length table)
    place = step_place_zero file ∙ ap₂ steps_at laid (file_rows layout states actions table f.few_rows)

-- The place of the steps is a number of two bytes.
steps_place_small : (layout : FileLayout) (rows : ℕ) → IsLayout layout → rows ≤ most_rows → steps_at layout rows ≤ 5012
unfolding steps_at rows_at row_size most_rows
steps_place_small layout rows is le =
    let size : layout.width + 3 ≤ 5 = omega (arith, (layout_fits is).few_bytes) in
    let all : (layout.width + 3) * rows ≤ 5 * 1000 = mul-le-mul size le in
    omega arith

-- The file of a table that fits holds it.
pub file_holds : (layout : FileLayout) (states actions : ℕ) (table : Table) → Fits layout states actions table
    → FileHolds layout states actions table (table_file layout states actions table)
unfolding table_file header_bytes joined number_bytes number_at most_actions rows_at
file_holds layout states actions table f =
    record {
      laid = file_layout layout states actions table f;
      rows = file_rows layout states actions table f.few_rows;
      steps = omega (arith, fits_few_steps layout states actions table f);
      rows_begin = refl;
      steps_begin = omega (arith, steps_place_small layout (length table) f.laid f.few_rows);
      for_states = omega (arith, f.few_states, (layout_fits f.laid).few_states);
      for_actions = omega (arith, f.few_actions);
      held = file_held layout states actions table f;
    }

-- Bytes that hold a table that fits, and nothing behind it, are laid out.
pub held_laid_out : (layout : FileLayout) (states actions : ℕ) (table : Table) (bytes : List ℕ) → Fits layout states actions table
    → FileHolds layout states actions table bytes
    → length bytes ≡ steps_at layout (length table) + step_size * length (all_steps table) → laid_out bytes ≡ true
unfolding laid_out
held_laid_out layout states actions table bytes f h e =
    and_both (header_in bytes header)
    (rw h.rows (held_rows_right bytes 0 0 table h.held (λ row i.
    rw (h.for_states, h.for_actions, h.rows) (fits_row layout states actions table f row i)) (rw h.steps (omega arith))))
  where
    header : HeaderFits bytes
    header =
        record {
          whole = unfold steps_at in omega arith;
          a_row = rw h.rows f.is_table.some_row;
          few_rows = rw h.rows f.few_rows;
          rows_begin = h.rows_begin;
          steps_begin = rw (h.laid, h.rows) h.steps_begin;
          a_state = rw h.for_states f.a_state;
          few_states = rw (h.for_states, h.laid) f.few_states;
          an_action = rw h.for_actions f.an_action;
          few_actions = rw h.for_actions f.few_actions;
          size = unfold step_place in rw (h.laid, h.rows, h.steps) e;
        }
