-- Texts put one behind the other, and a text that fits.
use Prim.Native.Nat.{ℕ, zero, suc, ◌+◌, ◌≤◌, ◌<◌}
use mathlib.Core.Path.{◌≡◌, refl, sym, ◌∙◌, ap}
use mathlib.Core.List.{List, [], ◌∷◌, ◌++◌, append-nil}
use native.Mathlib.Omega.{arith}
use native.Mathlib.Nat.{zero-add}
use lib.ListN.{length, take, drop, set, length-set, length-take}
use lib.Seq.{take-nil, sets, length-sets, sets-eq, take-length, take-append-le}
use Rattle.base.specs.Lists.{joined}
use borrow.Author.Tests.{lt-ltb, le-ltb}
use Rattle.program_texts.specs.Putting.{Filled, filled, put_byte, put, Puts, PrintedLine}

-- A text behind another is the two as one.
pub put_append : (f : Filled) (a b : List ℕ) → put (put f a) b ≡ put f (a ++ b)
unfolding put
put_append f [] b = refl
put_append f (x ∷ a) b = put_append (put_byte f x) a b

-- Two texts, one behind the other.
pub puts_then : (r s at : ℕ) (a b out mid after : List ℕ) → Puts r a out at mid → Puts s b mid r after → Puts s (a ++ b) out at after
puts_then r s at a b out mid after p q =
    record { left = q.left ∙ ap (λ f. put f b) p.left ∙ put_append (filled out at) a b }

-- A text, and the others behind it.
pub more : (r s at : ℕ) (a : List ℕ) (b : List (List ℕ)) (out mid after : List ℕ) → Puts r a out at mid → Puts s (joined b) mid r after
    → Puts s (joined (a ∷ b)) out at after
unfolding joined
more r s at a b out mid after p q = puts_then r s at a (joined b) out mid after p q

-- The last text.
pub last : (s at : ℕ) (a out after : List ℕ) → Puts s a out at after → Puts s (joined (a ∷ [])) out at after
unfolding joined
last s at a out after p = rw (append-nil a) p

-- No text.
pub puts_nothing : (at : ℕ) (out : List ℕ) → Puts at [] out at out
unfolding put
puts_nothing at out = record { left = refl }

-- A byte that there is room for.
put_byte_room : (out : List ℕ) (at b : ℕ) → at < length out → put_byte (filled out at) b ≡ filled (set out at b) (suc at)
unfolding put_byte
put_byte_room out at b l = rw (lt-ltb at (length out) l)

-- A text that there is room for is put whole.
put_room : (out : List ℕ) (at : ℕ) (text : List ℕ) → at + length text ≤ length out
    → put (filled out at) text ≡ filled (sets out at text) (at + length text)
unfolding put
put_room out at [] l = ap (filled out) (omega arith)
put_room out at (b ∷ text) l =
    ap (λ f. put f text) (put_byte_room out at b (omega arith))
    ∙ put_room (set out at b) (suc at) text (rw (length-set out at b) (omega arith))
    ∙ ap (filled (sets (set out at b) (suc at) text)) (omega arith)

-- A text that fits stands at the start of the array.
pub line_whole : (r : ℕ) (text out after : List ℕ) → Puts r text out 0 after → length text ≤ length out → PrintedLine r text after
line_whole r text out after p l =
    record {
      within = rw (count, same_bytes, length-sets out 0 text) l;
      counted = rw (taken) count;
      bytes = taken;
    }
  where
    whole : filled after r ≡ filled (sets out 0 text) (0 + length text)
    whole = p.left ∙ put_room out 0 text (omega arith)

    same_bytes : after ≡ sets out 0 text
    same_bytes = ap (λ f. f.bytes) whole

    count : r ≡ length text
    count = ap (λ f. f.at) whole ∙ zero-add (length text)

    taken : take r after ≡ text
    taken =
        rw (count, same_bytes, sets-eq text out 0 (omega arith), take-append-le (length text) text (drop (0 + length text) out) (omega arith))
        (take-length text)

-- A full array stays as it is.
put_full : (out : List ℕ) (at : ℕ) (text : List ℕ) → length out ≤ at → put (filled out at) text ≡ filled out at
unfolding put put_byte
put_full out at [] l = refl
put_full out at (b ∷ text) l = rw (le-ltb at (length out) l) (put_full out at text l)

-- A text is cut where the array is full.
put_cut : (out : List ℕ) (at room : ℕ) (text : List ℕ) → at + room ≡ length out → put (filled out at) text ≡ put (filled out at) (take room text)
unfolding put
put_cut out at room [] e = ap (put (filled out at)) (sym (take-nil room))
put_cut out at zero (b ∷ text) e = put_full out at (b ∷ text) (omega arith)
put_cut out at (suc room) (b ∷ text) e =
    ap (λ f. put f text) (put_byte_room out at b (omega arith))
    ∙ put_cut (set out at b) (suc at) room text (rw (length-set out at b) (omega arith))
    ∙ ap (λ f. put f (take room text)) (sym (put_byte_room out at b (omega arith)))

-- A text stands at the start of the array, as much of it as fits.
pub line_cut : (r : ℕ) (text out after : List ℕ) → Puts r text out 0 after → PrintedLine r (take (length out) text) after
line_cut r text out after p =
    line_whole r (take (length out) text) out after (record { left = p.left ∙ put_cut out 0 (length out) text (omega arith) })
    (rw (length-take (length out) text) (omega arith))
