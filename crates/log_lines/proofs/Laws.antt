-- What callers may use: where no byte 10 is ahead there is no line.
use Prim.Native.Nat.{ℕ, ◌+◌}
use native.Mathlib.Omega.{arith}
use mathlib.Core.Path.{◌≡◌, ap}
use mathlib.Core.Bool.{true}
use Rattle.std.specs.Prelude.{None, Some}
use mathlib.Core.List.{List}
use borrow.Author.Tests.{eqb-true}
use Rattle.base.specs.Bytes.{byte_at}
use Rattle.base.proofs.Lists.{whether_there}
use Rattle.reading.specs.Tokens.{stands, Token}
use Rattle.reading.specs.LogReading.{stroke_at}
use Rattle.reading.specs.declared.Stroke.{Stroke}
use Rattle.reading.proofs.LogReading.{field_parts, field_ahead, stroke_parts}
use Rattle.log_lines.specs.Lines.{LineEnds}

-- The byte that stands there.
pub stands_there : (s : List ℕ) (p b : ℕ) → stands s p b ≡ true → byte_at s p ≡ b
unfolding stands
stands_there s p b e = eqb-true (byte_at s p) b e

-- A line ends in byte 10.
stroke_ends : (s : List ℕ) (p : ℕ) {t : Token Stroke} → stroke_at s p ≡ Some t → LineEnds s p
stroke_ends s p e =
    let (n, tick, small, (a, action, same)) = stroke_parts s p e in
    let (far, inside) = field_ahead 10 32 (omega arith) s p tick in
    let (further, in_log) = field_ahead 2 10 (omega arith) s n.next action in
    let (m, number, there, ends) = field_parts 2 10 s n.next action in
    let behind : m.next + 1 ≡ a.next = ap (λ t. t.next) ends in
    record { last = m.next; ahead = omega arith; inside = omega arith; such = stands_there s m.next 10 there }

pub no_line : (s : List ℕ) (p : ℕ) → (LineEnds s p → ⊥) → stroke_at s p ≡ None
no_line s p none_ahead = whether_there (stroke_at s p) (λ e. e) (λ t e. absurd (none_ahead (stroke_ends s p e)))
