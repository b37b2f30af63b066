-- A file that is read up to one byte past the longest fit one gets the answer of the whole file.
use Prim.Native.Nat.{ℕ, suc, ◌+◌, ◌*◌, ◌≤◌, ◌<◌}
use mathlib.Core.Path.{◌≡◌, refl, sym, ◌∙◌, ap, fun_ext}
use mathlib.Core.Bool.{true, false, ◌||◌, not}
use mathlib.Core.List.{List}
use native.Mathlib.Omega.{arith}
use native.Mathlib.Nat.{mul-le-mul, mul-le-mul_left}
use native.Mathlib.Decide.{dec_lt}
use lib.ListN.{length, take, length-take}
use lib.Seq.{take_all, get_or-take}
use lib.Dec.{eqb, ltb, leb}
use borrow.Author.Tests.{lt-ltb, le-ltb, eqb-true, not-false}
use Rattle.base.specs.Bytes.{number_at}
use Rattle.base.specs.Answers.{◌if◌else◌, ◌then◌}
use Rattle.std.specs.Prelude.{Err, Ok}
use Rattle.base.specs.declared.Refusal.TheVariants.{TowerSize, Range, Limit, Layout}
use Rattle.base.proofs.Bytes.{number_at_take}
use Rattle.base.proofs.Lists.{whether, and_left, or_fails_left, or_fails_right}
use Rattle.base.proofs.Answers.{if_on, if_refuses}
use Rattle.logic.specs.declared.FileLayout.{FileLayout}
use Rattle.logic.specs.Tower.{Tower, most_actions, most_marks, in_range, narrow, layout_of, states_of, actions_of, marks_of, start_of, actions_offset, states_offset, states_at, state_size, state_at, no_header, bad_counts, bad_size}
use Rattle.logic.specs.TableFile.{most_rows, row_size, step_size, steps_at, table_file}
use Rattle.logic.proofs.Layouts.{file_layout_fits}
use Rattle.logic.proofs.TowerFile.{range_out}
use Rattle.logic.proofs.TableFile.{fits_few_steps}
use Rattle.reading.specs.TowerReading.{read_tower}
use Rattle.reading.specs.BookReading.{most_bytes, read_book}
use Rattle.reading.specs.TableReading.{rows_of, table_states, table_actions, table_layout, step_place, header_right, rows_right, laid_out, table_of, read_table}
use Rattle.reading.proofs.LaidOut.{length_laid_out_steps}
use Rattle.reading.proofs.TableReading.{laid_out_fits}
use Rattle.reading.proofs.TableHeader.{header_out}
use Rattle.program_limits.specs.Longest.{longest_tower, longest_table}
use Rattle.outcome.specs.Make.{made_file, table_for}
use Rattle.outcome.specs.Check.{checked_file, judge}

-- ---- towers

-- A tower whose counts are in range says of its length that it is at most the longest's.
counts_short : (bytes : List ℕ) → bad_counts bytes ≡ false → state_at bytes (states_of bytes) ≤ longest_tower (layout_of bytes)
unfolding bad_counts state_at states_at state_size longest_tower most_actions most_marks
counts_short bytes e =
    let most = (layout_of bytes).most in
    let width = (layout_of bytes).width in
    let s = not (in_range most (states_of bytes)) in
    let a = not (in_range 16 (actions_of bytes)) in
    let p = not (leb (marks_of bytes) 16) in
    let x = not (ltb (start_of bytes) (states_of bytes)) in
    let few = or_fails_left (s || a) p (or_fails_left (s || a || p) x e) in
    let states = (range_out most (states_of bytes) (not-false (in_range most (states_of bytes)) (or_fails_left s a few))).1 in
    let actions = (range_out 16 (actions_of bytes) (not-false (in_range 16 (actions_of bytes)) (or_fails_right s a few))).1 in
    let targets : width * actions_of bytes ≤ width * 16 = mul-le-mul_left width actions in
    let size : 2 + width * actions_of bytes ≤ 2 + width * 16 = omega arith in
    let all : (2 + width * actions_of bytes) * states_of bytes ≤ (2 + width * 16) * most = mul-le-mul size states in
    omega (arith, actions)

-- One of a right size is as long as it says.
size_is : (bytes : List ℕ) → bad_size bytes ≡ false → length bytes ≡ state_at bytes (states_of bytes)
unfolding bad_size
size_is bytes e =
    let a = not (eqb (actions_offset bytes) (layout_of bytes).header) in
    let b = not (eqb (states_offset bytes) (states_at bytes)) in
    let c = eqb (length bytes) (state_at bytes (states_of bytes)) in
    eqb-true (length bytes) (state_at bytes (states_of bytes)) (not-false c (or_fails_right (a || b) (not c) e))

-- So a longer one is of a wrong size.
long_tower : (bytes : List ℕ) → longest_tower (layout_of bytes) < length bytes → bad_counts bytes ≡ false → bad_size bytes ≡ true
long_tower bytes l e = whether (bad_size bytes) (λ y. y) (λ n. absurd (omega (arith, counts_short bytes e, size_is bytes n)))

-- The longest has a whole header.
header_short : (layout : FileLayout) → layout.header ≤ longest_tower layout
unfolding longest_tower
header_short layout = omega arith

-- A tower that is too long is refused with 2 or 1.
long_tower_read : (bytes : List ℕ) → longest_tower (layout_of bytes) < length bytes
    → read_tower bytes ≡ (Range if bad_counts bytes else Err TowerSize)
unfolding read_tower no_header
long_tower_read bytes l =
    if_on TowerSize _ (le-ltb (length bytes) (layout_of bytes).header (omega (arith, header_short (layout_of bytes))))
    ∙ whether (bad_counts bytes) (λ y. if_refuses Range _ y ∙ sym (if_refuses Range _ y))
    (λ n. if_on Range _ n ∙ if_refuses TowerSize _ (long_tower bytes l n) ∙ sym (if_on Range _ n))

-- what is read of a tower
abbrev tower_room : ℕ
tower_room = suc (longest_tower narrow)

-- No layout has a longer one, and the layout stands at the start.
longest_most : (bytes : List ℕ) → longest_tower (layout_of bytes) ≤ longest_tower narrow
unfolding layout_of
longest_most bytes = omega arith

layout_cut : (bytes : List ℕ) → layout_of (take tower_room bytes) ≡ layout_of bytes
unfolding layout_of
layout_cut bytes = refl

-- So do the counts.
room_least : 12 ≤ tower_room
unfolding longest_tower narrow most_actions
room_least = omega arith

states_cut : (bytes : List ℕ) → states_of (take tower_room bytes) ≡ states_of bytes
unfolding states_of
states_cut bytes =
    ap (λ k. number_at k.width (take tower_room bytes) k.states) (layout_cut bytes)
    ∙ number_at_take (layout_of bytes).width tower_room bytes (layout_of bytes).states
    (omega (arith, room_least, (file_layout_fits bytes).states_inside, (file_layout_fits bytes).short_header))

start_cut : (bytes : List ℕ) → start_of (take tower_room bytes) ≡ start_of bytes
unfolding start_of
start_cut bytes =
    ap (λ k. number_at k.width (take tower_room bytes) k.start) (layout_cut bytes)
    ∙ number_at_take (layout_of bytes).width tower_room bytes (layout_of bytes).start
    (omega (arith, room_least, (file_layout_fits bytes).start_inside, (file_layout_fits bytes).short_header))

cut_counts : (bytes : List ℕ) → bad_counts (take tower_room bytes) ≡ bad_counts bytes
unfolding bad_counts
cut_counts bytes =
    rw (
      states_cut bytes,
      start_cut bytes,
      layout_cut bytes,
      get_or-take tower_room bytes 1 0 (omega (arith, room_least)),
      get_or-take tower_room bytes 2 0 (omega (arith, room_least)),
    )

pub tower_cut : (bytes : List ℕ) → read_tower (take tower_room bytes) ≡ read_tower bytes
tower_cut bytes = elim (dec_lt tower_room (length bytes)) [
  | yes l ↦
      long_tower_read (take tower_room bytes) (rw (length-take tower_room bytes, layout_cut bytes) (omega (arith, longest_most bytes)))
      ∙ ap (λ b. Range if b else Err TowerSize) (cut_counts bytes) ∙ sym (long_tower_read bytes (omega (arith, longest_most bytes)))
  | no l ↦ ap read_tower (take_all tower_room bytes (omega arith))
]

-- ---- books

-- what is read of a book
abbrev book_room : ℕ
book_room = suc most_bytes

long_book : (marks : ℕ) (text : List ℕ) → most_bytes < length text → read_book marks text ≡ Err (Limit 0)
unfolding read_book
long_book marks text l = if_refuses (Limit 0) _ (lt-ltb most_bytes (length text) l)

pub book_cut : (marks : ℕ) (text : List ℕ) → read_book marks (take book_room text) ≡ read_book marks text
book_cut marks text = elim (dec_lt book_room (length text)) [
  | yes l ↦ long_book marks (take book_room text) (rw (length-take book_room text) (omega arith)) ∙ sym (long_book marks text (omega arith))
  | no l ↦ ap (read_book marks) (take_all book_room text (omega arith))
]

-- ---- tables

-- what is read of a table
abbrev table_room : ℕ
table_room = suc (longest_table narrow)

laid_out_short : (bytes : List ℕ) → laid_out bytes ≡ true → length bytes ≤ longest_table (table_layout bytes)
unfolding laid_out step_place steps_at step_size longest_table most_rows most_actions
laid_out_short bytes h =
    let header = header_out bytes (and_left (header_right bytes) (rows_right bytes 0 0 (rows_of bytes)) h) in
    let fits = laid_out_fits bytes h in
    let few : rows_of bytes ≤ 1000 = header.few_rows in
    let rows : row_size (table_layout bytes) * rows_of bytes ≤ row_size (table_layout bytes) * 1000 =
    mul-le-mul_left (row_size (table_layout bytes)) few in
    omega (
      arith,
      header.size,
      fits_few_steps (table_layout bytes) (table_states bytes) (table_actions bytes) (table_of bytes) fits,
      length_laid_out_steps bytes h,
    )

-- No layout has a longer one.
longest_table_most : (bytes : List ℕ) → longest_table (table_layout bytes) ≤ longest_table narrow
unfolding table_layout
longest_table_most bytes = omega arith

long_table : (tower : Tower) (bytes : List ℕ) → longest_table narrow < length bytes → read_table tower bytes ≡ Err Layout
unfolding read_table
long_table tower bytes l =
    if_refuses Layout _
    (whether (laid_out bytes) (λ y. absurd (omega (arith, laid_out_short bytes y, longest_table_most bytes))) (λ n. ap not n))

pub table_cut : (tower : Tower) (bytes : List ℕ) → read_table tower (take table_room bytes) ≡ read_table tower bytes
table_cut tower bytes = elim (dec_lt table_room (length bytes)) [
  | yes l ↦ long_table tower (take table_room bytes) (rw (length-take table_room bytes) (omega arith)) ∙ sym (long_table tower bytes (omega arith))
  | no l ↦ ap (read_table tower) (take_all table_room bytes (omega arith))
]

-- ---- what the programs answer

pub made_cut : (tower text : List ℕ) → made_file (take tower_room tower) (take book_room text) ≡ made_file tower text
unfolding made_file
made_cut tower text =
    ap (λ k. read_tower (take tower_room tower) then λ t. read_book t.marks (take book_room text) then λ book. table_for t book then λ table. Ok (table_file k t.states t.actions table)) (layout_cut tower)
    ∙ ap (λ o. o then λ t. read_book t.marks (take book_room text) then λ book. table_for t book then λ table. Ok (table_file (layout_of tower) t.states t.actions table)) (tower_cut tower)
    ∙ ap (λ f. read_tower tower then f)
    (fun_ext λ t. ap (λ o. o then λ book. table_for t book then λ table. Ok (table_file (layout_of tower) t.states t.actions table)) (book_cut t.marks text))

pub checked_cut : (tower text table : List ℕ) → checked_file (take tower_room tower) (take book_room text) (take table_room table) ≡ checked_file tower text table
unfolding checked_file
checked_cut tower text table =
    ap (λ o. o then λ t. read_book t.marks (take book_room text) then λ book. read_table t (take table_room table) then λ rows. judge t book rows) (tower_cut tower)
    ∙ ap (λ f. read_tower tower then f)
    (fun_ext λ t.
    ap (λ o. o then λ book. read_table t (take table_room table) then λ rows. judge t book rows) (book_cut t.marks text)
    ∙ ap (λ f. read_book t.marks text then f) (fun_ext λ book. ap (λ o. o then λ rows. judge t book rows) (table_cut t table)))

pub rules_cut : (tower text : List ℕ)
    → (read_tower (take tower_room tower) then λ t. read_book t.marks (take book_room text)) ≡ (read_tower tower then λ t. read_book t.marks text)
rules_cut tower text =
    ap (λ o. o then λ t. read_book t.marks (take book_room text)) (tower_cut tower)
    ∙ ap (λ f. read_tower tower then f) (fun_ext λ t. book_cut t.marks text)
