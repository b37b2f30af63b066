-- Numbers in bytes: what is written is read back, and what is read would be written so.
use Prim.Native.Nat.{ℕ, zero, suc, ◌+◌, ◌*◌, ◌/◌, ◌%◌, ◌^◌, ◌≤◌, ◌<◌}
use native.Mathlib.Omega.{arith}
use native.Mathlib.Nat.{add_assoc, add-zero, mul-suc, mul-le-mul_left}
use native.Mathlib.Numerals.{add-one}
use mathlib.Core.Path.{◌≡◌, refl, sym, ◌∙◌, ap}
use mathlib.Core.List.{List, [], ◌∷◌, ◌++◌}
use lib.ListN.{length, drop, take, get_or-eq_default}
use lib.Seq.{get_or-drop, get_or-take, drop-cons, drop-drop, drop_at}
use Rattle.base.specs.Bytes.{byte_at, number_at, number_bytes}

-- Every element is a byte.
pub record AllBytes (bytes : List ℕ) : Type 0 where
  pub at : (i : ℕ) → byte_at bytes i < 256

-- A number takes as many bytes as its width.
pub length_number_bytes : (width n : ℕ) → length (number_bytes width n) ≡ width
unfolding number_bytes
length_number_bytes zero n = refl
length_number_bytes (suc width) n = ap suc (length_number_bytes width (n / 256))

-- No bytes are bytes.
pub no_bytes : AllBytes []
no_bytes = record { at = λ i. omega arith }

-- A byte before bytes.
pub cons_bytes : {x : ℕ} {xs : List ℕ} → x < 256 → AllBytes xs → AllBytes (x ∷ xs)
cons_bytes {x} {xs} lt h = record { at = go }
  where
    go : (i : ℕ) → byte_at (x ∷ xs) i < 256
    go zero = lt
    go (suc i) = h.at i

-- The bytes behind the first.
pub rest_bytes : {x : ℕ} {xs : List ℕ} → AllBytes (x ∷ xs) → AllBytes xs
rest_bytes h = record { at = λ i. h.at (suc i) }

-- Bytes behind bytes are bytes.
pub append_bytes : {xs ys : List ℕ} → AllBytes xs → AllBytes ys → AllBytes (xs ++ ys)
append_bytes {xs} {ys} h k = go xs h
  where
    go : (xs : List ℕ) → AllBytes xs → AllBytes (xs ++ ys)
    go [] h = k
    go (x ∷ xs) h = cons_bytes (h.at 0) (go xs (rest_bytes h))

-- A number written is made of bytes.
pub number_bytes_bytes : (width n : ℕ) → AllBytes (number_bytes width n)
unfolding number_bytes
number_bytes_bytes zero n = no_bytes
number_bytes_bytes (suc width) n = cons_bytes (omega arith) (number_bytes_bytes width (n / 256))

-- A number of one byte is that byte.
pub number_at_one : (bytes : List ℕ) (p : ℕ) → number_at 1 bytes p ≡ byte_at bytes p
unfolding number_at
number_at_one bytes p = omega arith

-- Reading behind p bytes is reading from p bytes on.
pub number_at_drop : (width : ℕ) (bytes : List ℕ) (p q : ℕ) → number_at width (drop p bytes) q ≡ number_at width bytes (p + q)
unfolding number_at
number_at_drop zero bytes p q = refl
number_at_drop (suc width) bytes p q = rw (get_or-drop p bytes q 0, number_at_drop width bytes p (q + 1), add_assoc p q 1)

-- A number that fits is read back as it was written.
pub number_back : (width n : ℕ) (rest : List ℕ) → n < 256 ^ width → number_at width (number_bytes width n ++ rest) 0 ≡ n
unfolding number_at number_bytes
number_back zero n rest lt = omega arith
number_back (suc width) n rest lt =
    let e = number_at_drop width (n % 256 ∷ number_bytes width (n / 256) ++ rest) 1 0 in
    let f = number_back width (n / 256) rest (omega arith) in
    omega arith

-- A number written at p is read back there.
pub number_read : (width n : ℕ) (bytes rest : List ℕ) (p : ℕ) → drop p bytes ≡ number_bytes width n ++ rest → n < 256 ^ width
    → number_at width bytes p ≡ n
number_read width n bytes rest p e lt =
    ap (number_at width bytes) (sym (add-zero p)) ∙ sym (number_at_drop width bytes p 0) ∙ ap (λ l. number_at width l 0) e
    ∙ number_back width n rest lt

-- Behind a number written at p comes what was written after it.
pub number_behind : (width n : ℕ) (bytes rest : List ℕ) (p : ℕ) → drop p bytes ≡ number_bytes width n ++ rest → drop (p + width) bytes ≡ rest
number_behind width n bytes rest p e =
    sym (drop-drop width p bytes) ∙ ap (drop width) e ∙ drop_at (number_bytes width n) rest width (length_number_bytes width n)

-- Past the end every number is 0.
pub number_past_end : (width : ℕ) (bytes : List ℕ) (p : ℕ) → length bytes ≤ p → number_at width bytes p ≡ 0
unfolding number_at
number_past_end zero bytes p le = refl
number_past_end (suc width) bytes p le =
    omega (arith, get_or-eq_default bytes 0 le, number_past_end width bytes (p + 1) (omega arith))

-- A number that ends in a part is read from that part.
pub number_at_take : (width k : ℕ) (bytes : List ℕ) (p : ℕ) → p + width ≤ k → number_at width (take k bytes) p ≡ number_at width bytes p
unfolding number_at
number_at_take zero k bytes p le = refl
number_at_take (suc width) k bytes p le =
    rw (get_or-take k bytes p 0 (omega arith), number_at_take width k bytes (p + 1) (omega arith))

-- A number read from bytes fits its width.
pub number_fits : (width : ℕ) (bytes : List ℕ) (p : ℕ) → AllBytes bytes → number_at width bytes p < 256 ^ width
unfolding number_at
number_fits zero bytes p h = omega arith
number_fits (suc width) bytes p h = omega (arith, h.at p, number_fits width bytes (p + 1) h)

-- Bytes from p on are the number read there, written, and what comes behind it.
pub number_written : (width : ℕ) (bytes : List ℕ) (p : ℕ) → AllBytes bytes → p + width ≤ length bytes
    → drop p bytes ≡ number_bytes width (number_at width bytes p) ++ drop (p + width) bytes
unfolding number_at number_bytes
number_written zero bytes p h le = rw (add-zero p)
number_written (suc width) bytes p h le =
    let lt : p < length bytes = omega arith in
    let low : (byte_at bytes p + 256 * number_at width bytes (p + 1)) % 256 ≡ byte_at bytes p = omega (arith, h.at p) in
    let high : (byte_at bytes p + 256 * number_at width bytes (p + 1)) / 256 ≡ number_at width bytes (p + 1) = omega (arith, h.at p) in
    let place : p + 1 + width ≡ p + suc width = omega arith in
    let rest = number_written width bytes (p + 1) h (omega arith) in
    rw (low, high, ← place, ← rest, add-one p) (drop-cons bytes p 0 lt)

-- ---- pieces of one size

-- One of n pieces of k bytes each lies within them as a whole.
pub piece_inside : (k n i : ℕ) → i < n → k * i + k ≤ k * n
piece_inside k n i lt = let next : k * suc i ≤ k * n = mul-le-mul_left k lt in omega (arith, mul-suc k i)
