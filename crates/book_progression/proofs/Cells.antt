-- What is pending, as bytes and as it is meant: the two say the same.
use Prim.Native.Nat.{ℕ, zero, suc, ◌+◌, ◌-◌, ◌≤◌, ◌<◌}
use native.Mathlib.Omega.{arith}
use native.Mathlib.Numerals.{add-one, sub-one}
use mathlib.Core.Path.{◌≡◌, refl, sym, ◌∙◌, ap}
use Rattle.std.specs.Prelude.{None, Some}
use mathlib.Core.List.{List, [], ◌∷◌, map}
use lib.ListN.{length, get_or, set, replicate, length-map, get_or-map}
use Rattle.logic.specs.Time.{ticks}
use Rattle.logic.specs.declared.Tick.{Tick}
use Rattle.pending.specs.Pending.{Pending}
use Rattle.book_progression.specs.PendingBytes.{cell_of, cell_byte, pending_of}

-- The byte of what a byte says is that byte, and the other way round.
pub byte_of_cell : (n : ℕ) → cell_byte (cell_of n) ≡ n
unfolding cell_of cell_byte
byte_of_cell zero = refl
byte_of_cell (suc n) = refl

-- A byte that is not 0 says that its node is pending.
pub cell_there : (n : ℕ) → (n ≡ 0 → ⊥) → cell_of n ≡ Some (ticks (n - 1))
unfolding cell_of
cell_there zero not-zero = absurd (not-zero refl)
cell_there (suc n) not-zero = rw sub-one

-- A byte of 0 says nothing.
pub cell_empty : (n : ℕ) → n ≡ 0 → None ≡ cell_of n
unfolding cell_of
cell_empty n e = rw e refl

-- Where it says that so many ticks are left, it is one more.
pub cell_ticks : (n : ℕ) (q : Tick) → Some q ≡ cell_of n → n ≡ q.0 + 1
unfolding cell_of
cell_ticks zero q e = absurd (cc)
cell_ticks (suc n) q e = let same : q ≡ ticks n = cc in rw (same, add-one)

-- They are at most 254.
pub cell_low : (n : ℕ) (q : Tick) → Some q ≡ cell_of n → n < 256 → q.0 ≤ 254
cell_low n q there byte = omega (arith, cell_ticks n q there)

pub cell_one_more : (n : ℕ) → cell_of (n + 1) ≡ Some (ticks n)
unfolding cell_of
cell_one_more n = rw add-one

-- As many nodes as bytes.
pub pending_length : (cells : List ℕ) → length (pending_of cells) ≡ length cells
unfolding pending_of
pending_length cells = length-map cells cell_of

-- What is pending of node k is what its byte says.
pub pending_at : (cells : List ℕ) (k : ℕ) → get_or (pending_of cells) k None ≡ cell_of (get_or cells k 0)
unfolding pending_of cell_of
pending_at cells k = get_or-map cell_of cells k 0

-- A byte that is stored changes what is pending of its node alone.
pub pending_set : (cells : List ℕ) (k v : ℕ) → pending_of (set cells k v) ≡ set (pending_of cells) k (cell_of v)
unfolding pending_of
pending_set [] k v = refl
pending_set (c ∷ cells) zero v = refl
pending_set (c ∷ cells) (suc k) v = ap (λ (l : Pending). cell_of c ∷ l) (pending_set cells k v)

-- Bytes of 0 say that nothing is pending.
pub pending_none : (n : ℕ) → pending_of (replicate n 0) ≡ replicate n None
unfolding pending_of cell_of
pending_none zero = refl
pending_none (suc n) = ap (λ (l : Pending). None ∷ l) (pending_none n)

-- Bytes are equal exactly if they say the same.
pub pending_eq : (a b : List ℕ) → pending_of a ≡ pending_of b → a ≡ b
unfolding pending_of
pending_eq a b e = sym (back a) ∙ ap (map cell_byte) e ∙ back b
  where
    back : (l : List ℕ) → map cell_byte (map cell_of l) ≡ l
    back [] = refl
    back (x ∷ l) = rw (byte_of_cell x, back l)
