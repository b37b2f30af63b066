-- Numbers in files and lent areas: read, written, and read back.
use Prim.Native.Nat.{ℕ, zero, suc, ◌+◌, ◌/◌, ◌%◌, ◌^◌, ◌≤◌, ◌<◌}
use native.Mathlib.Omega.{arith}
use native.Mathlib.Nat.{add-zero}
use native.Mathlib.Numerals.{add-one}
use mathlib.Core.Path.{◌≡◌, sym, ◌∙◌}
use mathlib.Core.Logic.{◌⊎◌, inl, inr}
use mathlib.Core.List.{List, [], ◌∷◌}
use lib.ListN.{length, get_or, set, take, length-set}
use lib.Seq.{sets, length-sets, get_or-set_same, get_or-set_other, take-set-le}
use mir.Syntax.{w8, w32, w64}
use mir.Val.{Fits}
use Rattle.std.specs.Int.{from_le_bytes}
use Rattle.base.specs.Bytes.{number_at, number_bytes}
use Rattle.base.proofs.Bytes.{number_at_one, number_fits}

-- ---- bytes

-- A byte is a number.
pub cast_byte : (l : List ℕ) (i : ℕ) → ((j : ℕ) → Fits w8 (get_or l j 0)) → Fits w64 (get_or l i 0)
cast_byte l i h = omega (arith, h i)

-- What two stores write.
pub two_written : (l : List ℕ) (p n : ℕ) → set (set l p (n % 256)) (p + 1) (n / 256 % 256) ≡ sets l p (number_bytes 2 n)
unfolding number_bytes
two_written l p n = rw (add-one p)

-- ---- numbers of four and of eight bytes

-- A number in bytes is below the power of its width.
pub number_bound : (width : ℕ) (l : List ℕ) (p : ℕ) → ((j : ℕ) → Fits w8 (get_or l j 0)) → number_at width l p < 256 ^ width
number_bound width l p bytes = number_fits width l p (record { at = λ i. omega (arith, bytes i) })

-- What four bytes spell.
pub four_read : (l : List ℕ) (p : ℕ) → from_le_bytes w32 (get_or l p 0 ∷ get_or l (p + 1) 0 ∷ get_or l (p + 2) 0 ∷ get_or l (p + 3) 0 ∷ [])
    ≡ number_at 4 l p
unfolding number_at
four_read l p =
    let second : p + 1 + 1 ≡ p + 2 = omega arith in
    let third : p + 2 + 1 ≡ p + 3 = omega arith in
    rw (second, third) (omega arith)

-- What eight bytes spell.
pub eight_read : (l : List ℕ) (p : ℕ) → from_le_bytes w64 (get_or l p 0 ∷ get_or l (p + 1) 0 ∷ get_or l (p + 2) 0 ∷ get_or l (p + 3) 0
    ∷ get_or l (p + 4) 0 ∷ get_or l (p + 5) 0 ∷ get_or l (p + 6) 0 ∷ get_or l (p + 7) 0 ∷ []) ≡ number_at 8 l p
unfolding number_at
eight_read l p =
    let second : p + 1 + 1 ≡ p + 2 = omega arith in
    let third : p + 2 + 1 ≡ p + 3 = omega arith in
    let fourth : p + 3 + 1 ≡ p + 4 = omega arith in
    let fifth : p + 4 + 1 ≡ p + 5 = omega arith in
    let sixth : p + 5 + 1 ≡ p + 6 = omega arith in
    let seventh : p + 6 + 1 ≡ p + 7 = omega arith in
    rw (second, third, fourth, fifth, sixth, seventh) (omega arith)

-- A number that is zero has zero bytes.
pub zero_bytes : (width : ℕ) (l : List ℕ) (p : ℕ) → number_at width l p ≡ 0 → (m : ℕ) → m < width → get_or l (p + m) 0 ≡ 0
unfolding number_at
zero_bytes zero l p e m less = absurd (omega arith)
zero_bytes (suc width) l p e zero less = let here : p + 0 ≡ p = omega arith in rw here (omega arith)
zero_bytes (suc width) l p e (suc m) less =
    let place : p + 1 + m ≡ p + suc m = omega arith in
    rw (← place) (zero_bytes width l (p + 1) (omega arith) m (omega arith))

-- Equal numbers have equal bytes.
pub same_bytes : (width : ℕ) (l : List ℕ) (p q : ℕ) → ((j : ℕ) → Fits w8 (get_or l j 0)) → number_at width l p ≡ number_at width l q → (m : ℕ)
    → m < width → get_or l (p + m) 0 ≡ get_or l (q + m) 0
unfolding number_at
same_bytes zero l p q bytes e m less = absurd (omega arith)
same_bytes (suc width) l p q bytes e zero less = rw (add-zero p, add-zero q) (omega (arith, bytes p, bytes q))
same_bytes (suc width) l p q bytes e (suc m) less =
    let upper : number_at width l (p + 1) ≡ number_at width l (q + 1) = omega (arith, bytes p, bytes q) in
    let place : p + 1 + m ≡ p + suc m = omega arith in
    let place' : q + 1 + m ≡ q + suc m = omega arith in
    rw (← place, ← place') (same_bytes width l (p + 1) (q + 1) bytes upper m (omega arith))

-- ---- one byte or two

-- A number that is not of one byte is of two.
two_wide : (width : ℕ) → 1 ≤ width → width ≤ 2 → (width ≡ 1 → ⊥) → width ≡ 2
two_wide width h k f = omega arith

-- In one byte: the number is that byte.
pub number_one : (l : List ℕ) (p width : ℕ) → width ≡ 1 → get_or l p 0 ≡ number_at width l p
number_one l p width e = rw e (sym (number_at_one l p))

-- In two: it is what they spell.
pub number_two : (l : List ℕ) (p width r : ℕ) → 1 ≤ width → width ≤ 2 → (width ≡ 1 → ⊥) → r ≡ number_at 2 l p → r ≡ number_at width l p
number_two l p width r h k f e = rw (two_wide width h k f) e

-- Written in one byte,
pub one_put : (l : List ℕ) (p width n : ℕ) → width ≡ 1 → set l p (n % 256) ≡ sets l p (number_bytes width n)
unfolding number_bytes
one_put l p width n e = rw e

-- and in two.
pub two_put : (l z : List ℕ) (p width n : ℕ) → 1 ≤ width → width ≤ 2 → (width ≡ 1 → ⊥) → z ≡ sets l p (number_bytes 2 n)
    → z ≡ sets l p (number_bytes width n)
two_put l z p width n h k f e = rw (two_wide width h k f) e

-- ---- numbers written

-- l with n written at p
abbrev pub stored : List ℕ → ℕ → ℕ → List ℕ
stored l p n = sets l p (number_bytes 2 n)

low_read : (l : List ℕ) (p n : ℕ) → p + 1 < length l → get_or (stored l p n) p 0 ≡ n % 256
unfolding number_bytes
low_read l p n h =
    get_or-set_other (set l p (n % 256)) (suc p) p (n / 256 % 256) 0 (λ e. omega arith) ∙ get_or-set_same l p (n % 256) 0 (omega arith)

high_read : (l : List ℕ) (p n : ℕ) → p + 1 < length l → get_or (stored l p n) (suc p) 0 ≡ n / 256 % 256
unfolding number_bytes
high_read l p n h = get_or-set_same (set l p (n % 256)) (suc p) (n / 256 % 256) 0 (omega (arith, length-set l p (n % 256)))

-- Another byte is as it was.
pub byte_beside : (l : List ℕ) (p n q : ℕ) → (q ≡ p → ⊥) → (q ≡ suc p → ⊥) → get_or (stored l p n) q 0 ≡ get_or l q 0
unfolding number_bytes
byte_beside l p n q h k = get_or-set_other (set l p (n % 256)) (suc p) q (n / 256 % 256) 0 k ∙ get_or-set_other l p q (n % 256) 0 h

-- A number written is read back.
pub stored_read : (l : List ℕ) (p n : ℕ) → p + 1 < length l → n < 65536 → number_at 2 (stored l p n) p ≡ n
unfolding number_at
stored_read l p n h small =
    let low = low_read l p n h in
    let high : get_or (stored l p n) (p + 1) 0 ≡ n / 256 % 256 = rw (add-one p) (high_read l p n h) in
    omega arith

-- A number beside it is as it was.
pub stored_beside : (l : List ℕ) (p n q : ℕ) → (q + 1 < p) ⊎ (p + 1 < q) → number_at 2 (stored l p n) q ≡ number_at 2 l q
unfolding number_at
stored_beside l p n q (inl h) =
    let a = byte_beside l p n q (λ e. omega arith) (λ e. omega arith) in
    let b = byte_beside l p n (q + 1) (λ e. omega arith) (λ e. omega arith) in
    omega arith
stored_beside l p n q (inr h) =
    let a = byte_beside l p n q (λ e. omega arith) (λ e. omega arith) in
    let b = byte_beside l p n (q + 1) (λ e. omega arith) (λ e. omega arith) in
    omega arith

-- What lies before it is as it was.
pub take_stored : (k : ℕ) (l : List ℕ) (p n : ℕ) → k ≤ p → take k (stored l p n) ≡ take k l
unfolding number_bytes
take_stored k l p n h = take-set-le k (set l p (n % 256)) (suc p) (n / 256 % 256) (omega arith) ∙ take-set-le k l p (n % 256) h

-- The area is as long as it was.
pub length_stored : (l : List ℕ) (p n : ℕ) → length (stored l p n) ≡ length l
length_stored l p n = length-sets l p (number_bytes 2 n)
