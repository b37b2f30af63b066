-- A log may be followed in parts, so that a program needs memory for one part and not for the log.
use Prim.Native.Nat.{ℕ, suc, ◌+◌, ◌≤◌}
use native.Mathlib.Omega.{arith}
use native.Mathlib.Nat.{add-zero}
use mathlib.Core.Path.{◌≡◌, sym, ◌∙◌, ap}
use mathlib.Core.List.{List, [], ◌∷◌, ◌++◌}
use lib.ListN.{length, drop, length-append}
use Rattle.logic.specs.Time.{position, after}
use Rattle.logic.specs.Tower.{Tower, tower_of}
use Rattle.logic.specs.Tables.{Table}
use Rattle.logic.specs.declared.Position.{Position}
use Rattle.reading.specs.TableReading.{table_of}
use Rattle.reading.specs.LogReading.{log_from}
use Rattle.reading.specs.declared.Stroke.{Stroke}
use Rattle.reading.proofs.LogPieces.{in_pieces_strokes, in_pieces_next, ends_early}
use Rattle.outcome.specs.Log.{next_course, course_along}
use Rattle.outcome.specs.Log.{Course}
use Rattle.log_course.specs.Following.{LinesFollowed}
use Rattle.log_course.specs.declared.Followed.{Followed}

-- Lines behind others go on from where those have come.
course_append : (tower : Tower) (table : Table) (line : Position) (course : Course) (xs ys : List Stroke)
    → course_along tower table line course (xs ++ ys)
    ≡ course_along tower table (position (line.0 + length xs)) (course_along tower table line course xs) ys
unfolding course_along after
course_append tower table line course [] ys = rw (add-zero line.0)
course_append tower table line course (x ∷ xs) ys =
    let e : suc line.0 + length xs ≡ line.0 + suc (length xs) = omega arith in
    course_append tower table (after line) (next_course tower table line course x) xs ys
    ∙ ap (λ n. course_along tower table (position n) (course_along tower table (after line) (next_course tower table line course x) xs) ys) e

module _ (tower table a b : List ℕ) (first : Position) (course : Course) (f : Followed) (of_a : LinesFollowed f tower table a first course) where
  -- One part, and then what is left of it with more behind it, is all of it.
  pub in_parts : (g : Followed) → LinesFollowed g tower table (drop f.next a ++ b) f.line f.course
      → LinesFollowed (record { next = f.next + g.next; line = g.line; course = g.course }) tower table (a ++ b) first course
  in_parts g of_rest =
      let of_b : LinesFollowed g tower table (drop (log_from a 0).next a ++ b) (position (first.0 + length xs)) (course_along (tower_of tower) (table_of table) first course xs) =
      rw (of_a.next, of_a.line, of_a.answer) at of_rest in
      record {
        next = rw (of_b.next, of_a.next) (sym (in_pieces_next a b));
        line = of_b.line ∙ ap position (omega (arith, ap length both, length-append xs ys));
        answer = of_b.answer ∙ sym (ap (course_along (tower_of tower) (table_of table) first course) both ∙ course_append (tower_of tower) (table_of table) first course xs ys);
        on_row = of_rest.on_row;
      }
    where
      -- the lines of the part, and those behind it
      xs : List Stroke
      xs = (log_from a 0).strokes

      ys : List Stroke
      ys = (log_from (drop (log_from a 0).next a ++ b) 0).strokes

      both : (log_from (a ++ b) 0).strokes ≡ xs ++ ys
      both = in_pieces_strokes a b

  -- Where 14 bytes or more are left of a part, the line there is not of the form, whatever comes behind.
  pub whatever_follows : f.next + 14 ≤ length a → LinesFollowed f tower table (a ++ b) first course
  whatever_follows long =
      let same : log_from (a ++ b) 0 ≡ log_from a 0 = ends_early a b (rw of_a.next at long) in
      record { next = rw same of_a.next; line = rw same of_a.line; answer = rw same of_a.answer; on_row = of_a.on_row }
