-- A law for each way through the code that follows a log: from what is known there, the answer is what the definitions say.
use Prim.Native.Nat.{ℕ, suc, ◌+◌, ◌-◌, ◌*◌, ◌≤◌, ◌<◌}
use native.Mathlib.Omega.{arith}
use native.Mathlib.Numerals.{add-one}
use mathlib.Core.Path.{◌≡◌, refl, sym, ◌∙◌, ap, subst}
use mathlib.Core.Bool.{Bool, true, false}
use Rattle.std.specs.Prelude.{Option, None, Some}
use Rattle.base.specs.Options.{bind}
use mathlib.Core.List.{List, []}
use mir.Syntax.{w8, w16, w64}
use mir.Val.{Fits}
use lib.ListN.{length, get_or, set, length-set}
use lib.Seq.{get_or-set_same, get_or-set_other}
use native.Mathlib.Decide.{ℕ_discrete}
use lib.Dec.{eqb, leb}
use borrow.Author.Tests.{leb-true, leb-false}
use Rattle.base.specs.Lists.{only_if}
use Rattle.base.specs.Bytes.{byte_at}
use Rattle.base.proofs.Lists.{whether}
use Rattle.logic.specs.Time.{ticks, plus, same_ticks, position, after}
use Rattle.logic.specs.Tower.{FitTower, tower_of, layout_of, length_of}
use Rattle.logic.specs.Tables.{move}
use Rattle.logic.specs.TableFile.{most_rows}
use Rattle.logic.specs.declared.Tick.{Tick}
use Rattle.logic.specs.declared.Position.{Position}
use Rattle.reading.specs.TableReading.{rows_of, row_state, header_right, laid_out, table_of, row_of_table}
use Rattle.reading.specs.Tokens.{Token}
use Rattle.reading.specs.LogReading.{most_tick, stroke_at, with_line, log_from}
use Rattle.reading.specs.declared.Stroke.{Stroke}
use Rattle.reading.proofs.LogReading.{stroke_parts, stroke_ahead, log_end, log_bad, log_line}
use Rattle.reading.proofs.LaidOut.{row_of_table_at, length_table_of}
use Rattle.reading.proofs.TableReading.{laid_out_fits}
use Rattle.outcome.specs.Log.{on_time, next_place, fits_or_fails, next_course, course_along}
use Rattle.outcome.specs.Log.{Course, misfits}
use Rattle.std.specs.Prelude.{Err, Ok}
use Rattle.outcome.specs.declared.LogPlace.{LogPlace}
use Rattle.outcome.specs.declared.Misfit.{Misfit}
use Rattle.file_table.proofs.Laws.{header_of, laid_out_known, target_row, target_nothing}
use Rattle.checker_rows.specs.RowVerdict.{RowsJudgeable}
use Rattle.text_numerals.proofs.Laws.{ahead_before, ahead_behind}
use Rattle.log_lines.specs.Lines.{line_told, LineEnds}
use Rattle.log_lines.specs.declared.LogLine.{LogLine}
use Rattle.log_lines.proofs.Laws.{no_line}
use Rattle.log_course.specs.Following.{Noted, OnRow, PlaceFollowed, LineFollowed, NoEnd, LastEnd, LinesFollowed}

-- ---- a move that is noted

module _ (table : List ℕ) (row action : ℕ) (laid : laid_out table ≡ true) (inside : row < rows_of table) where
  -- There are 1,000 rows at most.
  row_few : row < 1000
  unfolding most_rows
  row_few = omega (arith, (laid_out_known table laid).header.few_rows)

  pub place_fits : Fits w64 (16 * row)
  place_fits = omega (arith, row_few)

  pub cell_fits : action < 16 → Fits w64 (16 * row + action)
  cell_fits few = omega (arith, row_few)

  pub cell_there : (known : List ℕ) → Noted table known → action < 16 → 16 * row + action < length known
  cell_there known noted few = omega (arith, row_few, noted.room)

  -- A target row is one of the table's, so that its note fits.
  module _ (t : Option ℕ) (next : ℕ) (is_t : t ≡ move (table_of table) row action) (to : t ≡ Some next) where
    next_few : next < 1000
    unfolding most_rows
    next_few =
        let moves = target_row (move (table_of table) row action) t next is_t to in
        let fits = laid_out_fits table laid in
        let row_there = subst (λ n. row < n) (sym (length_table_of table)) inside in
        omega (arith, fits.is_table.targets row action next row_there moves, length_table_of table, (laid_out_known table laid).header.few_rows)

    pub note_fits : Fits w64 (next + 1)
    note_fits = omega (arith, next_few)

    pub note_small : Fits w16 (next + 1)
    note_small = omega (arith, next_few)

-- The answer, as it was told.
pub told_as : (t u said : Option ℕ) → t ≡ said → t ≡ u → u ≡ said
told_as t u said e f = sym f ∙ e

-- What is noted is a number of two bytes.
pub noted_fits : (known : List ℕ) (at : ℕ) → ((j : ℕ) → Fits w16 (get_or known j 0)) → Fits w64 (get_or known at 0)
noted_fits known at small = omega (arith, small at)

module _ (table known : List ℕ) (row action : ℕ) (so_far : Noted table known) (inside : row < rows_of table) (few : action < 16) where
  -- What is noted is the move.
  pub noted_is : (noted : ℕ) → noted ≡ get_or known (16 * row + action) 0 → 0 < noted → Some (noted - 1) ≡ move (table_of table) row action
  noted_is noted e some_one =
      let f : get_or known (16 * row + action) 0 ≡ suc (noted - 1) = omega arith in
      rw (so_far.moves row action (noted - 1) inside few f)

  -- A move that was looked up may be noted.
  pub noting : (t : Option ℕ) (next at : ℕ) → at ≡ 16 * row + action → t ≡ move (table_of table) row action → t ≡ Some next
      → 16 * row + action < length known → Noted table (set known at (next + 1))
  noting t next at is_at is_t to there_is =
      record {
        room = length-set known at (next + 1) ∙ so_far.room;
        moves = λ r a n l m e. elim (ℕ_discrete at (16 * r + a)) [
          | yes same ↦ here r a n m e same
          | no other ↦ so_far.moves r a n l m (sym (get_or-set_other known at (16 * r + a) (next + 1) 0 (λ f. other (sym f))) ∙ e)
        ];
      }
    where
      here : (r a n : ℕ) → a < 16 → get_or (set known at (next + 1)) (16 * r + a) 0 ≡ suc n → at ≡ 16 * r + a → move (table_of table) r a ≡ Some n
      here r a n m e same =
          let row_same : row ≡ r = omega arith in
          let action_same : action ≡ a = omega arith in
          let there : get_or (set known at (next + 1)) (16 * r + a) 0 ≡ next + 1 = rw (← same) (get_or-set_same known at (next + 1) 0 (omega arith)) in
          let next_same : next ≡ n = omega arith in
          rw (← row_same, ← action_same, ← next_same) (target_row (move (table_of table) row action) t next is_t to)

-- ---- the tick

pub free_fits : (due : Option Tick) (tick : Tick) → due ≡ None → true ≡ on_time due tick
unfolding on_time
free_fits due tick e = rw e

pub due_fits : (due : Option Tick) (tick wanted : Tick) → due ≡ Some wanted → eqb wanted.0 tick.0 ≡ on_time due tick
unfolding on_time same_ticks
due_fits due tick wanted e = rw e

-- ---- what the callees want

module _ (tower table : List ℕ) (ok : RowsJudgeable tower table) where
  pub has_layout : laid_out table ≡ true
  has_layout = ok.layout

  pub has_header : header_right table ≡ true
  has_header = header_of table ok.layout

  pub has_tower : FitTower tower
  has_tower = ok.fit

  -- The state of a row is one of the tower's.
  pub state_inside : (r x : ℕ) → r < rows_of table → x ≡ row_state table r → x < (tower_of tower).states
  state_inside r x l e = omega (arith, ok.states, ((laid_out_known table ok.layout).row r l).state)

  module _ (r a q : ℕ) (t : Option ℕ) (inside : r < rows_of table) (is_t : t ≡ (move (table_of table) r a)) (to : t ≡ Some q) where
    abbrev moves : move (table_of table) r a ≡ Some q
    moves = target_row (move (table_of table) r a) t q is_t to

    -- An allowed action is one of the tower's,
    pub action_inside : a < (tower_of tower).actions
    action_inside =
        let fits = laid_out_fits table ok.layout in
        omega (arith, ok.actions, fits.action r a q (subst (λ n. r < n) (sym (length_table_of table)) inside) moves)

    -- and leads to a row of the table.
    pub target_inside : q < rows_of table
    target_inside =
        let fits = laid_out_fits table ok.layout in
        subst (λ n. q < n) (length_table_of table) (fits.is_table.targets r a q (subst (λ n. r < n) (sym (length_table_of table)) inside) moves)

-- A tick of a line and the length of a step make a sum that fits.
pub sum_fits : (tower : List ℕ) (x a : ℕ) (s : Stroke) (d : Tick) → d ≡ (tower_of tower).step_length x a → s.tick.0 ≤ most_tick
    → ((j : ℕ) → Fits w8 (get_or tower j 0)) → Fits w64 (s.tick.0 + d.0)
unfolding tower_of length_of
sum_fits tower x a s d e small bytes = omega (arith, bytes ((layout_of tower).header + 2 * a), ap (λ (t : Tick). t.0) e)

-- ---- a line from a place on

-- A line that does not fit is on no row.
fails_on_row : (table : List ℕ) (line : Position) (here : LogPlace) (s : Stroke) → OnRow table (misfits line here s)
fails_on_row table line here s = record { inside = λ place e. let z : ◌≡◌ {A = ℕ} 0 1 = cc in absurd (omega arith) }

module _ (tower table : List ℕ) (line : Position) (here : LogPlace) (s : Stroke) (t : Option ℕ)
    (is_t : t ≡ move (table_of table) here.row s.action) where
  pub not_allowed : t ≡ None → PlaceFollowed (misfits line here s) tower table line here s
  unfolding next_place only_if bind fits_or_fails
  not_allowed e =
      record { answer = rw (target_nothing (move (table_of table) here.row s.action) t is_t e); on_row = fails_on_row table line here s }

  module _ (q : ℕ) (to : t ≡ Some q) (b : Bool) (is_b : b ≡ on_time here.due s.tick) where
    pub not_on_time : b ≡ false → PlaceFollowed (misfits line here s) tower table line here s
    unfolding next_place only_if bind fits_or_fails
    not_on_time e =
        record {
          answer = rw (target_row (move (table_of table) here.row s.action) t q is_t to, ← is_b, e);
          on_row = fails_on_row table line here s;
        }

    pub line_fits : b ≡ true → RowsJudgeable tower table → here.row < rows_of table → (x : ℕ) (d : Tick) → x ≡ row_state table here.row
        → d ≡ (tower_of tower).step_length x s.action
        → PlaceFollowed (Ok (record { row = q; due = Some (ticks (s.tick.0 + d.0)) })) tower table line here s
    unfolding next_place only_if bind fits_or_fails plus row_of_table
    line_fits e ok inside x d at_x is_d =
        record {
          answer = rw (target_row (move (table_of table) here.row s.action) t q is_t to, ← is_b, e, row_of_table_at table here.row inside, ← at_x, ← is_d);
          on_row = record { inside = λ place f. let g : q ≡ place.row = cc in omega (arith, target_inside tower table ok here.row s.action q t inside is_t to) };
        }

-- ---- one line more

module _ (tower table : List ℕ) (line : Position) (course : Course) (s : Stroke) where
  -- The row of a place that was reached is a row.
  pub place_inside : (here : LogPlace) → course ≡ Ok here → OnRow table course → here.row < rows_of table
  place_inside here e on = on.inside here e

  pub one_more : (here : LogPlace) (r : Course) → course ≡ Ok here → PlaceFollowed r tower table line here s
      → LineFollowed r tower table line course s
  unfolding next_course
  one_more here r e f = record { answer = rw e f.answer; on_row = f.on_row }

  pub stays_wrong : (first : Misfit) (r : Course) → course ≡ Err first → r ≡ Err first → LineFollowed r tower table line course s
  unfolding next_course
  stays_wrong first r e f = record { answer = rw (e, f); on_row = rw f (fails_on_row table first.line first.place first.stroke) }

-- ---- the end of the last line that is ended

module _ (log : List ℕ) where
  -- Past the log there is none.
  pub no_end_past : NoEnd (length log) log
  no_end_past = record { none_ahead = λ h. omega (arith, h.ahead, h.inside) }

  module _ (end : ℕ) (no_later : NoEnd end log) where
    pub no_end_before : (byte_at log (end - 1) ≡ 10 → ⊥) → NoEnd (end - 1) log
    no_end_before other = record { none_ahead = λ h. no_later.none_ahead (ahead_before _ log end (end - 1 + 1) (omega arith) (ahead_behind _ log (end - 1) h other)) }

    pub end_found : end ≤ length log → 0 < end → byte_at log (end - 1) ≡ 10 → LastEnd (end - 1 + 1) log
    end_found inside some_left e =
        let same : end ≡ end - 1 + 1 = omega arith in
        subst (λ q. LastEnd q log) same (record { inside = inside; behind = λ _. e; no_more = no_later })

    pub end_none : end ≤ 0 → LastEnd 0 log
    end_none least =
        let same : end ≡ 0 = omega arith in
        record { inside = omega arith; behind = λ some_left. absurd (omega arith); no_more = subst (λ q. NoEnd q log) same no_later }

  -- Before it byte 10 is ahead.
  pub end_ahead : (end at : ℕ) → LastEnd end log → at < end → LineEnds log at
  end_ahead end at last before =
      record { last = end - 1; ahead = omega arith; inside = omega (arith, last.inside); such = last.behind (omega arith) }

-- ---- the lines of some bytes

-- What is left from here on comes to the same as all.
pub record LinesLeft (tower table log noted_first : List ℕ) (first : ℕ) (course : Course) (known : List ℕ) (at line : ℕ) (so_far : Course) : Type 0 where
  pub same_room : length known ≡ length noted_first
  pub noted : Noted table known
  pub few : line ≤ first + at
  pub on_row : OnRow table so_far
  pub next : (log_from log at).next ≡ (log_from log 0).next
  pub count : line + length (log_from log at).strokes ≡ first + length (log_from log 0).strokes
  pub same : course_along (tower_of tower) (table_of table) (position line) so_far (log_from log at).strokes
      ≡ course_along (tower_of tower) (table_of table) (position first) course (log_from log 0).strokes

-- a line that is read, and one that is not
told_line : (o : Option (Token Stroke)) (l : LogLine) → Some l ≡ line_told o → o ≡ Some (record { said = l.stroke; next = l.next })
unfolding line_told
told_line None l e = cc
told_line (Some t) l e = let same : l ≡ record { stroke = t.said; next = t.next } = cc in rw same

told_none : (o : Option (Token Stroke)) → None ≡ line_told o → o ≡ None
unfolding line_told
told_none None e = refl
told_none (Some t) e = cc

module _ (tower table log noted_first : List ℕ) (first : ℕ) (course : Course) where
  pub lines_start : OnRow table course → Noted table noted_first → LinesLeft tower table log noted_first first course noted_first 0 first course
  lines_start on noted =
      record { same_room = refl; noted = noted; few = omega arith; on_row = on; next = refl; count = refl; same = refl }

  module _ (known : List ℕ) (at line : ℕ) (so_far : Course) (left : LinesLeft tower table log noted_first first course known at line so_far) where
    pub row_there : OnRow table so_far
    row_there = left.on_row

    pub noted_there : Noted table known
    noted_there = left.noted

    pub room_there : length known ≡ length noted_first
    room_there = left.same_room

    module _ (l : LogLine) (read : Some l ≡ line_told (stroke_at log at)) where
      abbrev line_there : stroke_at log at ≡ Some (record { said = l.stroke; next = l.next })
      line_there = told_line (stroke_at log at) l read

      pub tick_small : l.stroke.tick.0 ≤ most_tick
      tick_small =
          let (n, tick, small, (a, action, same)) = stroke_parts log at line_there in subst (λ (t : Token Stroke). t.said.tick.0 ≤ most_tick) same small

      pub line_fits_word : first + length log < 18446744073709551616 → Fits w64 (line + 1)
      line_fits_word few = let (far, in_log) = stroke_ahead log at _ line_there in omega (arith, left.few)

      pub at_falls : (n : ℕ) → n ≡ length log - at → length log - l.next < n
      at_falls n e = let (far, in_log) = stroke_ahead log at _ line_there in omega arith

      pub lines_more : (after_it : Course) (known_now : List ℕ) → LineFollowed after_it tower table (position line) so_far l.stroke → Noted table known_now
          → length known_now ≡ length known → LinesLeft tower table log noted_first first course known_now l.next (line + 1) after_it
      unfolding course_along with_line after
      lines_more after_it known_now followed noted room =
          let (far, in_log) = stroke_ahead log at _ line_there in
          let more : log_from log at ≡ with_line l.stroke (log_from log l.next) = log_line log at _ (omega arith) line_there in
          record {
            same_room = room ∙ left.same_room;
            noted = noted;
            few = omega (arith, left.few);
            on_row = followed.on_row;
            next = sym (ap (λ r. r.next) more) ∙ left.next;
            count = omega (arith, left.count, ap (λ r. length r.strokes) more);
            same = rw (followed.answer, add-one line) (sym (ap (λ r. course_along (tower_of tower) (table_of table) (position line) so_far r.strokes) more) ∙ left.same);
          }

-- Where no line is read nothing more is, in the log or past it.
none_read : (log : List ℕ) (at : ℕ) → stroke_at log at ≡ None → log_from log at ≡ record { strokes = []; next = at }
none_read log at e =
    whether (leb (length log) at) (λ f. log_end log at (leb-true (length log) at f)) (λ f. log_bad log at (leb-false (length log) at f) e)

-- The end: the first line's number is the one that was handed in.
module _ (tower table log noted_first : List ℕ) (first : Position) (course : Course) (known : List ℕ) (at line : ℕ) (so_far : Course)
    (left : LinesLeft tower table log noted_first first.0 course known at line so_far) where
  -- where no line is read, this is what was to come
  stopped : stroke_at log at ≡ None → LinesFollowed (record { next = at; line = position line; course = so_far }) tower table log first course
  unfolding course_along
  stopped bad =
      let e = none_read log at bad in
      record {
        next = sym (ap (λ r. r.next) e) ∙ left.next;
        line = ap position (sym (omega (arith, ap (λ r. length r.strokes) e)) ∙ left.count);
        answer = sym (ap (λ r. course_along (tower_of tower) (table_of table) (position line) so_far r.strokes) e) ∙ left.same;
        on_row = left.on_row;
      }

  -- Behind the last byte 10 there is no line.
  pub lines_end : (end : ℕ) → LastEnd end log → end ≤ at
      → LinesFollowed (record { next = at; line = position line; course = so_far }) tower table log first course
  lines_end end last over = stopped (no_line log at (λ h. last.no_more.none_ahead (ahead_before _ log end at over h)))

  pub lines_stop : None ≡ line_told (stroke_at log at)
      → LinesFollowed (record { next = at; line = position line; course = so_far }) tower table log first course
  lines_stop e = stopped (told_none (stroke_at log at) e)
