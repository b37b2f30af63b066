-- A law for each way through the reader of lines: from what is known there, the answer is what the definitions say.
use Prim.Native.Nat.{ℕ, ◌+◌, ◌≤◌, ◌<◌}
use native.Mathlib.Omega.{arith}
use mathlib.Core.Path.{◌≡◌, refl, sym, ◌∙◌, ap, subst}
use mathlib.Core.Bool.{Bool, true, false}
use Rattle.std.specs.Prelude.{Option, None, Some}
use Rattle.base.specs.Choice.{pick}
use Rattle.base.specs.Options.{bind}
use mathlib.Core.List.{List}
use lib.ListN.{length}
use borrow.Author.Tests.{eq-eqb, ne_eqb, le-leb, lt-leb}
use Rattle.base.specs.Lists.{only_if}
use Rattle.base.specs.Bytes.{byte_at}
use Rattle.logic.specs.Time.{ticks}
use Rattle.reading.specs.Tokens.{stands, is_digit, numeral}
use Rattle.reading.specs.LogReading.{field_at, stroke_at}
use Rattle.reading.proofs.LogReading.{field_parts}
use Rattle.text_numerals.specs.Numerals.{numeral_told, Stops}
use Rattle.text_numerals.specs.declared.Number.{Number}
use Rattle.text_numerals.proofs.Laws.{ahead_there, ahead_behind, behind_numeral, numeral_missing, numeral_read}
use Rattle.log_lines.specs.Lines.{ended, line_told, LineEnds}
use Rattle.log_lines.specs.declared.LogLine.{LogLine}
use Rattle.log_lines.proofs.Laws.{stands_there}

-- ---- where byte 10 is ahead

-- It is no digit.
no_digit : (b : ℕ) → b ≡ 10 → is_digit b ≡ false
unfolding is_digit
no_digit b e = rw e

pub ends_stops : (s : List ℕ) (at : ℕ) → LineEnds s at → Stops s at
ends_stops s at h = record { last = h.last; ahead = h.ahead; inside = h.inside; such = no_digit (byte_at s h.last) h.such }

-- ---- a field

module _ (s : List ℕ) (n : Number) (b : ℕ) where
  pub ended_otherwise : (byte_at s n.next ≡ b → ⊥) → None ≡ ended s n b
  unfolding ended stands
  ended_otherwise ne = rw (ne_eqb (byte_at s n.next) b ne)

  pub ended_so : byte_at s n.next ≡ b → Some (record { said = n.said; next = n.next + 1 }) ≡ ended s n b
  unfolding ended stands
  ended_so e = rw (eq-eqb (byte_at s n.next) b e)

  -- and that is what the definition makes of it
  told : numeral_told (pick (stands s n.next b) (λ _. Some (record { said = n.said; next = n.next + 1 })) (λ _. None)) ≡ ended s n b
  unfolding ended numeral_told
  told = go (stands s n.next b)
    where
      go : (d : Bool) → numeral_told (pick d (λ _. Some (record { said = n.said; next = n.next + 1 })) (λ _. None))
          ≡ pick d (λ _. Some (record { said = n.said; next = n.next + 1 })) (λ _. None)
      go true = refl
      go false = refl

module _ (most b : ℕ) (s : List ℕ) (at : ℕ) (r : Option Number) where
  pub field_missing : r ≡ None → None ≡ numeral_told (numeral most s at) → r ≡ numeral_told (field_at most b s at)
  unfolding field_at bind numeral_told
  field_missing e missing = rw (numeral_missing (numeral most s at) missing) e

  pub field_read : (n : Number) → Some n ≡ numeral_told (numeral most s at) → r ≡ ended s n b → r ≡ numeral_told (field_at most b s at)
  unfolding field_at bind
  field_read n read e = rw (numeral_read (numeral most s at) n read) (e ∙ sym (told s n b))

-- Behind a number byte 10 is still ahead, so that a byte stands there.
pub byte_there : (s : List ℕ) (at : ℕ) → LineEnds s at → (most : ℕ) (n : Number) → Some n ≡ numeral_told (numeral most s at) → n.next < length s
byte_there s at h most n read = ahead_there _ s n.next (behind_numeral _ s no_digit most at h (numeral_read (numeral most s at) n read))

-- ---- a line

-- Behind a tick and its space byte 10 is still ahead.
pub ends_behind : (s : List ℕ) (at : ℕ) → LineEnds s at → (t : Number) → Some t ≡ numeral_told (field_at 10 32 s at) → LineEnds s t.next
ends_behind s at h t read =
    let (n, number, there, same) = field_parts 10 32 s at (numeral_read (field_at 10 32 s at) t read) in
    subst (LineEnds s) (ap (λ t. t.next) same)
    (ahead_behind _ s n.next (behind_numeral _ s no_digit 10 at h number) (λ ten. omega (arith, stands_there s n.next 32 there)))

module _ (s : List ℕ) (at : ℕ) where
  pub tick_missing : (r : Option LogLine) → r ≡ None → None ≡ numeral_told (field_at 10 32 s at) → r ≡ line_told (stroke_at s at)
  unfolding stroke_at bind only_if line_told
  tick_missing r e missing = rw (numeral_missing (field_at 10 32 s at) missing) e

  module _ (t : Number) (read : Some t ≡ numeral_told (field_at 10 32 s at)) where
    pub tick_over : 4294967295 < t.said → None ≡ line_told (stroke_at s at)
    unfolding stroke_at bind only_if line_told
    tick_over over = rw (numeral_read (field_at 10 32 s at) t read, lt-leb t.said 4294967295 over)

    module _ (small : t.said ≤ 4294967295) where
      pub action_missing : (r : Option LogLine) → r ≡ None → None ≡ numeral_told (field_at 2 10 s t.next) → r ≡ line_told (stroke_at s at)
      unfolding stroke_at bind only_if line_told
      action_missing r e missing =
          rw (numeral_read (field_at 10 32 s at) t read, le-leb t.said 4294967295 small, numeral_missing (field_at 2 10 s t.next) missing) e

      pub line_read : (a : Number) → Some a ≡ numeral_told (field_at 2 10 s t.next)
          → Some (record { stroke = record { tick = ticks t.said; action = a.said }; next = a.next }) ≡ line_told (stroke_at s at)
      unfolding stroke_at bind only_if line_told
      line_read a read_too =
          rw (numeral_read (field_at 10 32 s at) t read, le-leb t.said 4294967295 small, numeral_read (field_at 2 10 s t.next) a read_too)
