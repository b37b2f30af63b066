-- What callers may use: where a log begins, and that nothing is noted then.
use Prim.Native.Nat.{ℕ, ◌+◌, ◌*◌}
use native.Mathlib.Omega.{arith}
use mathlib.Core.Path.{◌≡◌}
use mathlib.Core.List.{List}
use lib.ListN.{replicate, length-replicate}
use Rattle.outcome.specs.Log.{first_course}
use Rattle.outcome.specs.Log.{Course}
use Rattle.area_bytes.proofs.Clearing.{cleared_byte}
use Rattle.file_table.proofs.Laws.{laid_out_known}
use Rattle.checker_rows.specs.RowVerdict.{RowsJudgeable}
use Rattle.log_course.specs.Following.{Noted, OnRow}

-- Row 0 is a row of the table.
pub first_on_row : (tower table : List ℕ) (course : Course) → course ≡ first_course → RowsJudgeable tower table → OnRow table course
unfolding first_course
first_on_row tower table course e ok =
    record { inside = λ here f. let zero : 0 ≡ here.row = cc in omega (arith, (laid_out_known table ok.layout).header.a_row) }

-- At first nothing is noted.
pub none_noted : (table : List ℕ) → Noted table (replicate 16000 0)
none_noted table =
    record { room = length-replicate {A = ℕ} 16000 0; moves = λ r a m l k e. absurd (omega (arith, cleared_byte 16000 (16 * r + a))) }
