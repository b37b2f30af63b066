-- Laid out bytes: the table that they hold, and that they are what would be written for it.
use Prim.Native.Nat.{ℕ, zero, suc, ◌+◌, ◌≤◌, ◌<◌}
use native.Mathlib.Omega.{arith}
use native.Mathlib.Nat.{add-zero, add-suc, zero-add, suc-add}
use native.Mathlib.Numerals.{add-one}
use mathlib.Core.Path.{◌≡◌, refl, sym, ◌∙◌, ap}
use mathlib.Core.Logic.{◌⊎◌, inl, inr, ⊎_elim}
use mathlib.Core.Bool.{true}
use mathlib.Core.List.Memᴰ
use mathlib.Core.List.{List, [], ◌∷◌, ◌++◌, map, Memᴰ, append_assoc, append-nil}
use lib.ListN.{length, get_or, drop, length-map}
use lib.Seq.{drop-length}
use lib.Dec.{leb, ltb, eqb}
use borrow.Author.Tests.{eqb-true, leb-true, ltb-true}
use Rattle.base.specs.Lists.{joined, below, count_from}
use Rattle.base.specs.Bytes.{byte_at, number_at, number_bytes}
use Rattle.base.proofs.Lists.{and_left, and_right, length_count_from, length_below, get_or_below}
use Rattle.base.proofs.Bytes.{AllBytes, number_at_one, number_written}
use Rattle.logic.specs.Tables.{Step, Row, row_at, Ascending}
use Rattle.logic.specs.TableFile.{rows_at, step_size, steps_at, all_steps, step_bytes, row_bytes, header_bytes}
use Rattle.logic.proofs.TableFile.{RowFits}
use Rattle.reading.specs.TableReading.{rows_of, steps_of, table_states, table_actions, table_layout, row_place, row_state, row_count, row_first, step_place, step_action, step_target, header_right, steps_right, rows_right, laid_out, step_of, row_of_table, table_of}
use Rattle.reading.proofs.TableHeader.{row_place_zero, row_place_suc, row_place_grows, step_place_suc, step_place_zero, four, HeaderFits, header_out}

-- ---- laid out bytes

-- One step is laid out right, and so are those behind it.
pub record StepRight (bytes : List ℕ) (low i n : ℕ) : Type 0 where
  pub above : low ≤ step_action bytes i
  pub action : step_action bytes i < table_actions bytes
  pub target : step_target bytes i < rows_of bytes
  pub more : steps_right bytes (step_action bytes i + 1) (suc i) n ≡ true

-- Steps that are laid out right: the first of them, and those behind it.
pub steps_right_out : (bytes : List ℕ) (low i n : ℕ) → steps_right bytes low i (suc n) ≡ true → StepRight bytes low i n
unfolding steps_right
steps_right_out bytes low i n h =
    let (a, b, c, d) =
    four (leb low (step_action bytes i)) (ltb (step_action bytes i) (table_actions bytes)) (ltb (step_target bytes i) (rows_of bytes))
    (steps_right bytes (step_action bytes i + 1) (i + 1) n) h in
    record {
      above = leb-true low (step_action bytes i) a;
      action = ltb-true (step_action bytes i) (table_actions bytes) b;
      target = ltb-true (step_target bytes i) (rows_of bytes) c;
      more = rw (add-one i) at d;
    }

-- One row is laid out right, and so are those behind it.
pub record RowLaidOut (bytes : List ℕ) (first r n : ℕ) : Type 0 where
  pub state : row_state bytes r < table_states bytes
  pub begin : row_first bytes r ≡ first
  pub steps : steps_right bytes 0 first (row_count bytes r) ≡ true
  pub more : rows_right bytes (first + row_count bytes r) (suc r) n ≡ true

-- Rows that are laid out right: the first of them, and those behind it.
pub rows_right_out : (bytes : List ℕ) (first r n : ℕ) → rows_right bytes first r (suc n) ≡ true → RowLaidOut bytes first r n
unfolding rows_right
rows_right_out bytes first r n h =
    let (a, b, c, d) =
    four (ltb (row_state bytes r) (table_states bytes)) (eqb (row_first bytes r) first) (steps_right bytes 0 first (row_count bytes r))
    (rows_right bytes (first + row_count bytes r) (r + 1) n) h in
    record {
      state = ltb-true (row_state bytes r) (table_states bytes) a;
      begin = eqb-true (row_first bytes r) first b;
      steps = c;
      more = rw (add-one r) at d;
    }

-- the steps from step i on, n of them
abbrev steps_from : List ℕ → ℕ → ℕ → List Step
steps_from bytes i n = map (step_of bytes) (count_from i n)

-- the rows from row r on, n of them
abbrev rows_from : List ℕ → ℕ → ℕ → List Row
rows_from bytes r n = map (row_of_table bytes) (count_from r n)

-- Each step that is laid out right lies in range.
right_steps : (bytes : List ℕ) (low i n : ℕ) → steps_right bytes low i n ≡ true → (s : Step) → Memᴰ s (steps_from bytes i n)
    → (low ≤ s.action) × (s.action < table_actions bytes) × (s.target < rows_of bytes)
unfolding count_from step_of
right_steps bytes low i zero h s k = absurd (Memᴰ.not-nil k)
right_steps bytes low i (suc n) h s k =
    go (steps_right_out bytes low i n h) (Memᴰ.cases_cons k) (right_steps bytes (step_action bytes i + 1) (suc i) n)
  where
    go : StepRight bytes low i n → (s ≡ step_of bytes i) ⊎ Memᴰ s (map (step_of bytes) (count_from (suc i) n))
        → (steps_right bytes (step_action bytes i + 1) (suc i) n ≡ true → (s : Step) → Memᴰ s (steps_from bytes (suc i) n)
        → (step_action bytes i + 1 ≤ s.action) × (s.action < table_actions bytes) × (s.target < rows_of bytes))
        → (low ≤ s.action) × (s.action < table_actions bytes) × (s.target < rows_of bytes)
    go h (inl e) ih = rw e (h.above, h.action, h.target)
    go h (inr j) ih = let (a, b, c) = ih h.more s j in (omega (arith, h.above), b, c)

-- Steps that are laid out right ascend.
right_ascending : (bytes : List ℕ) (low i n : ℕ) → steps_right bytes low i n ≡ true → Ascending (steps_from bytes i n)
unfolding count_from Ascending step_of
right_ascending bytes low i zero h = tt
right_ascending bytes low i (suc zero) h = tt
right_ascending bytes low i (suc (suc n)) h =
    let here = steps_right_out bytes low i (suc n) h in
    let next_one = steps_right_out bytes (step_action bytes i + 1) (suc i) n here.more in
    (omega (arith, next_one.above), right_ascending bytes (step_action bytes i + 1) (suc i) (suc n) here.more)

row_fits : (bytes : List ℕ) (first r n : ℕ) → RowLaidOut bytes first r n
    → RowFits (table_states bytes) (table_actions bytes) (rows_of bytes) (row_of_table bytes r)
unfolding row_of_table
row_fits bytes first r n h =
    rw h.begin (record {
      state = h.state;
      ascending = right_ascending bytes 0 first (row_count bytes r) h.steps;
      action = λ s k. (right_steps bytes 0 first (row_count bytes r) h.steps s k).1;
      target = λ s k. (right_steps bytes 0 first (row_count bytes r) h.steps s k).2;
    })

-- Each row that is laid out right fits.
pub right_rows : (bytes : List ℕ) (first r n : ℕ) → rows_right bytes first r n ≡ true → (row : Row) → Memᴰ row (rows_from bytes r n)
    → RowFits (table_states bytes) (table_actions bytes) (rows_of bytes) row
unfolding count_from
right_rows bytes first r zero h row k = absurd (Memᴰ.not-nil k)
right_rows bytes first r (suc n) h row k =
    let right = rows_right_out bytes first r n h in
    ⊎_elim (λ e. rw e (row_fits bytes first r n right)) (right_rows bytes (first + row_count bytes r) (suc r) n right.more row)
    (Memᴰ.cases_cons k)

-- The table that bytes hold has as many rows as the header says.
pub length_table_of : (bytes : List ℕ) → length (table_of bytes) ≡ rows_of bytes
unfolding table_of
length_table_of bytes = length-map (below (rows_of bytes)) (row_of_table bytes) ∙ length_below (rows_of bytes)

-- the element of a mapped list, within the list
map_at : {X Y : Type 0} (f : X → Y) (xs : List X) (i : ℕ) (d : X) (e : Y) → i < length xs → get_or (map f xs) i e ≡ f (get_or xs i d)
map_at f [] i d e lt = absurd (omega arith)
map_at f (x ∷ xs) zero d e lt = refl
map_at f (x ∷ xs) (suc i) d e lt = map_at f xs i d e (omega arith)

-- Row r of the table that bytes hold.
pub row_of_table_at : (bytes : List ℕ) (r : ℕ) → r < rows_of bytes → row_at (table_of bytes) r ≡ row_of_table bytes r
unfolding table_of row_at
row_of_table_at bytes r lt =
    map_at (row_of_table bytes) (below (rows_of bytes)) r 0 (record { state = 0; steps = [] }) (rw (length_below (rows_of bytes)) lt)
    ∙ ap (row_of_table bytes) (get_or_below (rows_of bytes) r 0 lt)

length_steps_from : (bytes : List ℕ) (i n : ℕ) → length (steps_from bytes i n) ≡ n
length_steps_from bytes i n = length-map (count_from i n) (step_of bytes) ∙ length_count_from i n

steps_from_append : (bytes : List ℕ) (i n m : ℕ) → steps_from bytes i (n + m) ≡ steps_from bytes i n ++ steps_from bytes (i + n) m
unfolding count_from
steps_from_append bytes i zero m = rw (zero-add m, add-zero i)
steps_from_append bytes i (suc n) m =
    rw (suc-add n m, add-suc i n, ← suc-add i n) (ap (λ l. step_of bytes i ∷ l) (steps_from_append bytes (suc i) n m))

-- The steps of row r, if it is laid out right.
row_steps : (bytes : List ℕ) (first r : ℕ) → row_first bytes r ≡ first → (row_of_table bytes r).steps ≡ steps_from bytes first (row_count bytes r)
unfolding row_of_table
row_steps bytes first r e = rw e

-- The rows that are laid out right have the steps from the first on to the last.
right_steps_all : (bytes : List ℕ) (first r n : ℕ) → rows_right bytes first r n ≡ true
    → (m : ℕ) × (first + m ≡ steps_of bytes) × (all_steps (rows_from bytes r n) ≡ steps_from bytes first m)
unfolding count_from all_steps joined rows_right
right_steps_all bytes first r zero h = (0, add-zero first ∙ eqb-true first (steps_of bytes) h, refl)
right_steps_all bytes first r (suc n) h =
    let right = rows_right_out bytes first r n h in
    let (m, e, f) = right_steps_all bytes (first + row_count bytes r) (suc r) n right.more in (
      row_count bytes r + m,
      omega arith,
      cc (row_steps bytes first r right.begin, f, steps_from_append bytes first (row_count bytes r) m),
    )

-- The header of laid out bytes fits.
pub laid_out_header : (bytes : List ℕ) → laid_out bytes ≡ true → HeaderFits bytes
unfolding laid_out
laid_out_header bytes h = header_out bytes (and_left (header_right bytes) (rows_right bytes 0 0 (rows_of bytes)) h)

-- The rows of laid out bytes are right.
pub laid_out_rows : (bytes : List ℕ) → laid_out bytes ≡ true → rows_right bytes 0 0 (rows_of bytes) ≡ true
unfolding laid_out
laid_out_rows bytes h = and_right (header_right bytes) (rows_right bytes 0 0 (rows_of bytes)) h

-- All steps of the table that laid out bytes hold: as many as the header says, in order.
pub laid_out_steps : (bytes : List ℕ) → laid_out bytes ≡ true → all_steps (table_of bytes) ≡ map (step_of bytes) (below (steps_of bytes))
unfolding table_of below
laid_out_steps bytes h =
    let (m, e, f) = right_steps_all bytes 0 0 (rows_of bytes) (laid_out_rows bytes h) in
    f ∙ ap (steps_from bytes 0) (sym (zero-add m) ∙ e)

-- ---- what is read is written

byte_written : (bytes : List ℕ) (p : ℕ) → AllBytes bytes → p + 1 ≤ length bytes
    → drop p bytes ≡ number_bytes 1 (byte_at bytes p) ++ drop (p + 1) bytes
byte_written bytes p all le = rw (← number_at_one bytes p) (number_written 1 bytes p all le)

step_written : (bytes : List ℕ) (i : ℕ) → AllBytes bytes → step_place bytes (suc i) ≤ length bytes
    → drop (step_place bytes i) bytes ≡ step_bytes (step_of bytes i) ++ drop (step_place bytes (suc i)) bytes
unfolding step_bytes step_of step_action step_target
step_written bytes i all le =
    let p = step_place bytes i in
    let place = step_place_suc bytes i in
    byte_written bytes p all (omega arith)
    ∙ ap (λ l. number_bytes 1 (byte_at bytes p) ++ l) (number_written 2 bytes (p + 1) all (omega arith))
    ∙ rw place (sym (append_assoc (number_bytes 1 (byte_at bytes p)) (number_bytes 2 (number_at 2 bytes (p + 1))) (drop (p + 1 + 2) bytes)))

steps_written : (bytes : List ℕ) (i n : ℕ) → AllBytes bytes → step_place bytes (i + n) ≤ length bytes
    → drop (step_place bytes i) bytes ≡ joined (map step_bytes (steps_from bytes i n)) ++ drop (step_place bytes (i + n)) bytes
unfolding joined count_from
steps_written bytes i zero all le = rw (add-zero i)
steps_written bytes i (suc n) all le =
    let place : i + suc n ≡ suc i + n = omega arith in
    step_written bytes i all (unfold step_place step_size in omega arith)
    ∙ ap (λ l. step_bytes (step_of bytes i) ++ l) (steps_written bytes (suc i) n all (rw place at le))
    ∙ rw place (sym (append_assoc (step_bytes (step_of bytes i)) (joined (map step_bytes (steps_from bytes (suc i) n)))
    (drop (step_place bytes (suc i + n)) bytes)))

row_written : (bytes : List ℕ) (r : ℕ) → AllBytes bytes → row_place bytes (suc r) ≤ length bytes
    → drop (row_place bytes r) bytes
    ≡ number_bytes (table_layout bytes).width (row_state bytes r)
    ++ (number_bytes 1 (row_count bytes r) ++ (number_bytes 2 (row_first bytes r) ++ drop (row_place bytes (suc r)) bytes))
unfolding row_state row_count row_first
row_written bytes r all le =
    let p = row_place bytes r in
    let width = (table_layout bytes).width in
    let place = row_place_suc bytes r in
    number_written width bytes p all (omega arith)
    ∙ ap (λ l. number_bytes width (row_state bytes r) ++ l)
    (byte_written bytes (p + width) all (omega arith)
    ∙ ap (λ l. number_bytes 1 (row_count bytes r) ++ l)
    (rw place (number_written 2 bytes (p + width + 1) all (omega arith))))

length_row_steps : (bytes : List ℕ) (r : ℕ) → length (row_of_table bytes r).steps ≡ row_count bytes r
unfolding row_of_table
length_row_steps bytes r = length_steps_from bytes (row_first bytes r) (row_count bytes r)

rows_written : (bytes : List ℕ) (first r n : ℕ) → AllBytes bytes → rows_right bytes first r n ≡ true → row_place bytes (r + n) ≤ length bytes
    → drop (row_place bytes r) bytes ≡ row_bytes (table_layout bytes) first (rows_from bytes r n) ++ drop (row_place bytes (r + n)) bytes
unfolding row_bytes count_from row_of_table
rows_written bytes first r zero all h le = rw (add-zero r)
rows_written bytes first r (suc n) all h le =
    let right = rows_right_out bytes first r n h in
    let place : r + suc n ≡ suc r + n = omega arith in
    let rest = rows_written bytes (first + row_count bytes r) (suc r) n all right.more (rw place at le) in
    let here = row_written bytes r all (omega (arith, row_place_grows bytes (suc r) (r + suc n) (omega arith))) in
    let count = length_row_steps bytes r in
    rw (count, place) (here ∙ rw (right.begin, rest) (simp append_assoc))

-- Bytes with a header that fits begin with that header.
pub header_written : (bytes : List ℕ) → AllBytes bytes → HeaderFits bytes
    → bytes
    ≡ header_bytes (table_layout bytes) (rows_of bytes) (steps_of bytes) (table_states bytes) (table_actions bytes)
    ++ drop (row_place bytes 0) bytes
unfolding header_bytes joined rows_at
header_written bytes all h =
    number_written 2 bytes 0 all (omega (arith, h.whole))
    ∙ ap (λ l. number_bytes 2 (rows_of bytes) ++ l) (number_written 2 bytes 2 all (omega (arith, h.whole))
    ∙ ap (λ l. number_bytes 2 (steps_of bytes) ++ l) (number_written 2 bytes 4 all (omega (arith, h.whole))
    ∙ ap (λ l. number_bytes 2 (number_at 2 bytes 4) ++ l) (number_written 2 bytes 6 all (omega (arith, h.whole))
    ∙ ap (λ l. number_bytes 2 (number_at 2 bytes 6) ++ l) (number_written 2 bytes 8 all (omega (arith, h.whole))
    ∙ ap (λ l. number_bytes 2 (table_states bytes) ++ l) (number_written 2 bytes 10 all (omega (arith, h.whole)))))))
    ∙ rw (h.rows_begin, h.steps_begin, row_place_zero bytes) (simp (append_assoc, append-nil))

-- behind the rows come the steps, and nothing behind them
steps_behind_rows : (bytes : List ℕ) → AllBytes bytes → laid_out bytes ≡ true
    → drop (row_place bytes (rows_of bytes)) bytes ≡ joined (map step_bytes (all_steps (table_of bytes)))
unfolding row_place steps_at below
steps_behind_rows bytes all h =
    ap (λ p. drop p bytes) (sym (step_place_zero bytes)) ∙ steps_written bytes 0 (steps_of bytes) all size
    ∙ rw (zero-add (steps_of bytes), ← (laid_out_header bytes h).size, drop-length bytes, laid_out_steps bytes h)
    (append-nil (joined (map step_bytes (steps_from bytes 0 (steps_of bytes)))))
  where
    size : step_place bytes (0 + steps_of bytes) ≤ length bytes
    size = rw (zero-add (steps_of bytes)) (omega (arith, (laid_out_header bytes h).size))

-- the rows are inside
rows_inside : (bytes : List ℕ) → HeaderFits bytes → row_place bytes (0 + rows_of bytes) ≤ length bytes
unfolding row_place step_place steps_at
rows_inside bytes h = rw (zero-add (rows_of bytes)) (omega (arith, h.size))

-- Behind the header of laid out bytes come the rows and the steps of their table.
pub rows_then_steps : (bytes : List ℕ) → AllBytes bytes → laid_out bytes ≡ true
    → drop (row_place bytes 0) bytes ≡ row_bytes (table_layout bytes) 0 (table_of bytes) ++ joined (map step_bytes (all_steps (table_of bytes)))
unfolding table_of below
rows_then_steps bytes all h =
    rows_written bytes 0 0 (rows_of bytes) all (laid_out_rows bytes h) (rows_inside bytes (laid_out_header bytes h))
    ∙ rw (zero-add (rows_of bytes)) (ap (λ l. row_bytes (table_layout bytes) 0 (table_of bytes) ++ l) (steps_behind_rows bytes all h))

-- The table that laid out bytes hold has as many steps as the header says.
pub length_laid_out_steps : (bytes : List ℕ) → laid_out bytes ≡ true → length (all_steps (table_of bytes)) ≡ steps_of bytes
unfolding below
length_laid_out_steps bytes h = ap length (laid_out_steps bytes h) ∙ length_steps_from bytes 0 (steps_of bytes)
