-- Places in a text: what stands from a position on, piece by piece, and how spaces and digits are read there.
use Prim.Native.Nat.{ℕ, zero, suc, ◌+◌, ◌*◌, ◌≤◌, ◌<◌}
use native.Mathlib.Omega.{arith}
use native.Mathlib.Nat.{add-zero}
use mathlib.Core.Path.{◌≡◌, refl, sym, ◌∙◌, ap}
use mathlib.Core.Bool.{true, false}
use Rattle.std.specs.Prelude.{Some}
use mathlib.Core.List.{List, [], ◌∷◌, ◌++◌, append_assoc}
use lib.ListN.{length, drop, get_or, length-append, length-drop, length-replicate}
use lib.Seq.{get_or-drop, drop-drop, drop-append_seam}
use lib.Dec.{eqb}
use borrow.Author.Tests.{ne_eqb, le-leb}
use Rattle.base.specs.Lists.{leading, joined}
use Rattle.base.specs.Bytes.{byte_at}
use Rattle.base.proofs.Lists.{and_both}
use Rattle.reading.specs.Tokens.{skip, is_digit, digits, value, numeral}
use Rattle.reading.specs.Spelling.{spaces, digit, Digits, one_digit, two_digits, three_digits}

-- From position p on the text s has the bytes of t, up to position e, and then the rest.
pub record Span (s : List ℕ) (p : ℕ) (t rest : List ℕ) (e : ℕ) : Type 0 where
  pub text : drop p s ≡ t ++ rest
  pub ends : e ≡ p + length t

-- The same of pieces, one behind the other.
pub record Pieces (s : List ℕ) (p : ℕ) (ts : List (List ℕ)) (rest : List ℕ) (e : ℕ) : Type 0 where
  pub text : drop p s ≡ joined ts ++ rest
  pub ends : e ≡ p + length (joined ts)

-- Whatever follows it, the text begins with no space; with no digit.
pub record NoSpace (t : List ℕ) : Type 0 where
  pub begins : (rest : List ℕ) → eqb 32 (byte_at (t ++ rest) 0) ≡ false

pub record NoDigit (t : List ℕ) : Type 0 where
  pub begins : (rest : List ℕ) → is_digit (byte_at (t ++ rest) 0) ≡ false

-- the byte at a position is the first of what stands from there on
first_byte : (s : List ℕ) (p : ℕ) (x : List ℕ) → drop p s ≡ x → byte_at s p ≡ byte_at x 0
first_byte s p x e = ap (λ i. get_or s i 0) (sym (add-zero p)) ∙ sym (get_or-drop p s 0 0) ∙ ap (λ l. get_or l 0 0) e

-- a text that is not empty lies inside
pub span_inside : {s : List ℕ} {p : ℕ} {t rest : List ℕ} {e : ℕ} → Span s p t rest e → 1 ≤ length t → e ≤ length s
span_inside {s} {p} {t} {rest} {e} h some_bytes =
    omega (arith, h.ends, length-drop p s, ap (λ l. length l) h.text, length-append t rest)

-- so many spaces before something else are all that lead
leading_spaces : (n : ℕ) (x : List ℕ) → eqb 32 (byte_at x 0) ≡ false → leading (eqb 32) (spaces n ++ x) ≡ n
unfolding leading
leading_spaces zero [] h = refl
leading_spaces zero (b ∷ x) h = rw h
leading_spaces (suc n) x h = ap suc (leading_spaces n x h)

module _ {s : List ℕ} {p : ℕ} {rest : List ℕ} {e : ℕ} where
  -- a text of pieces
  pub pieces : (ts : List (List ℕ)) → Span s p (joined ts) rest e → Pieces s p ts rest e
  pieces ts h = record { text = h.text; ends = h.ends }

  -- the first part of a text, and the second
  pub span_left : (x y : List ℕ) → Span s p (x ++ y) rest e → Span s p x (y ++ rest) (p + length x)
  span_left x y h = record { text = h.text ∙ append_assoc x y rest; ends = refl }

  pub span_right : (x y : List ℕ) → Span s p (x ++ y) rest e → Span s (p + length x) y rest e
  span_right x y h =
      record {
        text = sym (drop-drop (length x) p s) ∙ ap (drop (length x)) (h.text ∙ append_assoc x y rest) ∙ drop-append_seam x (y ++ rest);
        ends = omega (arith, h.ends, length-append x y);
      }

  -- the first piece
  pub piece : {x : List ℕ} {more : List (List ℕ)} → Pieces s p (x ∷ more) rest e → Span s p x (joined more ++ rest) (p + length x)
  unfolding joined
  piece {x} {more} h = span_left x (joined more) (record { text = h.text; ends = h.ends })

  -- what stands behind it
  pub behind_piece : {x : List ℕ} {more : List (List ℕ)} → Pieces s p (x ∷ more) rest e → Pieces s (p + length x) more rest e
  unfolding joined
  behind_piece {x} {more} h =
      let k = span_right x (joined more) (record { text = h.text; ends = h.ends }) in
      record { text = k.text; ends = k.ends }

  -- the byte at the beginning
  pub piece_byte : {b : ℕ} {x : List ℕ} {more : List (List ℕ)} → Pieces s p ((b ∷ x) ∷ more) rest e → byte_at s p ≡ b
  unfolding joined
  piece_byte {b} {x} {more} h = first_byte s p (b ∷ x ++ joined more ++ rest) h.text

  -- whether a digit stands there
  pub piece_no_digit : {x : List ℕ} {more : List (List ℕ)} → NoDigit x → Pieces s p (x ∷ more) rest e → is_digit (byte_at s p) ≡ false
  piece_no_digit {x} {more} begins h = ap is_digit (first_byte s p (x ++ (joined more ++ rest)) (piece h).text) ∙ begins.begins (joined more ++ rest)

  -- a piece with bytes begins inside
  pub piece_inside : {b : ℕ} {x : List ℕ} {more : List (List ℕ)} → Pieces s p ((b ∷ x) ∷ more) rest e → p < length s
  piece_inside {b} {x} {more} h = let i = span_inside (piece h) (omega arith) in omega arith

  -- nothing more
  pub pieces_end : Pieces s p [] rest e → e ≡ p
  unfolding joined
  pieces_end h = omega (arith, h.ends)

  -- a piece of two pieces
  pub split_piece : (x y : List ℕ) {more : List (List ℕ)} → Pieces s p ((x ++ y) ∷ more) rest e → Pieces s p (x ∷ y ∷ more) rest e
  unfolding joined
  split_piece x y {more} h = record { text = rw (← append_assoc x y (joined more)) h.text; ends = rw (← append_assoc x y (joined more)) h.ends }

  -- spaces before something else are passed over
  pub skip_place : (n : ℕ) {more : List (List ℕ)} → Pieces s p (spaces n ∷ more) rest e → eqb 32 (byte_at (joined more ++ rest) 0) ≡ false
      → skip s p ≡ p + n
  unfolding skip
  skip_place n {more} h no_space = ap (λ l. p + leading (eqb 32) l) (piece h).text ∙ ap (λ k. p + k) (leading_spaces n (joined more ++ rest) no_space)

  pub skip_piece : (n : ℕ) {more : List (List ℕ)} → Pieces s p (spaces n ∷ more) rest e → eqb 32 (byte_at (joined more ++ rest) 0) ≡ false
      → Pieces s (skip s p) more rest e
  skip_piece n {more} h no_space = rw (skip_place n h no_space, ← length-replicate {A = ℕ} n 32) (behind_piece h)

-- the last piece
pub last_piece : {s : List ℕ} {p : ℕ} {x rest : List ℕ} {e : ℕ} → Pieces s p (x ∷ []) rest e → Span s p x rest e
unfolding joined
last_piece h = record { text = (piece h).text; ends = pieces_end (behind_piece h) }

-- ---- how pieces begin

-- as their first piece does
pub pieces_no_space : {x : List ℕ} (more : List (List ℕ)) → NoSpace x → NoSpace (joined (x ∷ more))
unfolding joined
pieces_no_space {x} more h = record { begins = λ rest. rw (append_assoc x (joined more) rest) (h.begins (joined more ++ rest)) }

pub pieces_no_digit : {x : List ℕ} (more : List (List ℕ)) → NoDigit x → NoDigit (joined (x ∷ more))
unfolding joined
pieces_no_digit {x} more h = record { begins = λ rest. rw (append_assoc x (joined more) rest) (h.begins (joined more ++ rest)) }

-- spaces before them are no digits
pub spaced_no_digit : (n : ℕ) (more : List (List ℕ)) → NoDigit (joined more) → NoDigit (joined (spaces n ∷ more))
unfolding joined is_digit
spaced_no_digit zero more h = h
spaced_no_digit (suc n) more h = record { begins = λ rest. refl }

-- ---- digits

-- the byte at some place of a span
pub span_at : {s : List ℕ} {p : ℕ} {t rest : List ℕ} {e : ℕ} → Span s p t rest e → (i q : ℕ) → q ≡ p + i → byte_at s q ≡ byte_at (t ++ rest) i
span_at {s} {p} h i q at = ap (λ j. get_or s j 0) at ∙ sym (get_or-drop p s i 0) ∙ ap (λ l. get_or l i 0) h.text

-- a digit's byte is one of a digit
pub digit_is : (d : ℕ) → d < 10 → is_digit (digit d) ≡ true
unfolding is_digit digit
digit_is d l = and_both (le-leb 48 (48 + d) (omega arith)) (le-leb (48 + d) 57 (omega arith))

-- where no digit stands there are none
pub no_digits : (n : ℕ) (s : List ℕ) (p : ℕ) → is_digit (byte_at s p) ≡ false → digits n s p ≡ 0
unfolding digits
no_digits zero s p h = refl
no_digits (suc n) s p h = rw h

-- a digit before others
pub digit_more : (n : ℕ) (s : List ℕ) (p k : ℕ) → is_digit (byte_at s p) ≡ true → digits n s (p + 1) ≡ k → digits (suc n) s p ≡ suc k
unfolding digits
digit_more n s p k h e = rw (h, e)

module _ (s : List ℕ) (p : ℕ) where
  value_one : (a : ℕ) → byte_at s (p + 0) ≡ digit a → value 1 s p ≡ a
  unfolding value digit
  value_one a e = omega arith

  value_two : (a b : ℕ) → byte_at s (p + 0) ≡ digit a → byte_at s (p + 1) ≡ digit b → value 2 s p ≡ 10 * a + b
  unfolding value digit
  value_two a b e f = omega arith

  value_three : (a b c : ℕ) → byte_at s (p + 0) ≡ digit a → byte_at s (p + 1) ≡ digit b → byte_at s (p + 2) ≡ digit c
      → value 3 s p ≡ 100 * a + 10 * b + c
  unfolding value digit
  value_three a b c e f g = omega arith

  -- so many digits of such a value make a numeral
  pub numeral_of : (most n k : ℕ) → is_digit (byte_at s p) ≡ true → digits most s p ≡ n → value n s p ≡ k
      → numeral most s p ≡ Some (record { said = k; next = p + n })
  unfolding numeral
  numeral_of most n k h e f = rw (h, e, f)

-- A number that is written is read back, where it has no more digits than may be read and no digit follows it.
pub numeral_back : {count k : ℕ} {number : List ℕ} → Digits count k number → (most : ℕ) → count ≤ most
    → {s : List ℕ} {p : ℕ} {rest : List ℕ} {e : ℕ} → Span s p number rest e → is_digit (byte_at rest 0) ≡ false
    → numeral most s p ≡ Some (record { said = k; next = e })
numeral_back (one_digit a x) zero le {s} {p} {rest} {e} h stop = absurd (omega arith)
numeral_back (one_digit a x) (suc n) le {s} {p} {rest} {e} h stop =
    let one = ap is_digit (span_at h 0 p (omega arith)) ∙ digit_is a x in
    let two = ap is_digit (span_at h 1 (p + 1) refl) ∙ stop in
    rw h.ends
    (numeral_of s p (suc n) 1 a one (digit_more n s p 0 one (no_digits n s (p + 1) two)) (value_one s p a (span_at h 0 (p + 0) refl)))
numeral_back (two_digits a b x y) zero le {s} {p} {rest} {e} h stop = absurd (omega arith)
numeral_back (two_digits a b x y) (suc zero) le {s} {p} {rest} {e} h stop = absurd (omega arith)
numeral_back (two_digits a b x y) (suc (suc n)) le {s} {p} {rest} {e} h stop =
    let one = ap is_digit (span_at h 0 p (omega arith)) ∙ digit_is a x in
    let two = ap is_digit (span_at h 1 (p + 1) refl) ∙ digit_is b y in
    let three = ap is_digit (span_at h 2 (p + 1 + 1) (omega arith)) ∙ stop in
    rw h.ends
    (numeral_of s p (suc (suc n)) 2 (10 * a + b) one
    (digit_more (suc n) s p 1 one (digit_more n s (p + 1) 0 two (no_digits n s (p + 1 + 1) three)))
    (value_two s p a b (span_at h 0 (p + 0) refl) (span_at h 1 (p + 1) refl)))
numeral_back (three_digits a b c x y z) zero le {s} {p} {rest} {e} h stop = absurd (omega arith)
numeral_back (three_digits a b c x y z) (suc zero) le {s} {p} {rest} {e} h stop = absurd (omega arith)
numeral_back (three_digits a b c x y z) (suc (suc zero)) le {s} {p} {rest} {e} h stop = absurd (omega arith)
numeral_back (three_digits a b c x y z) (suc (suc (suc n))) le {s} {p} {rest} {e} h stop =
    let one = ap is_digit (span_at h 0 p (omega arith)) ∙ digit_is a x in
    let two = ap is_digit (span_at h 1 (p + 1) refl) ∙ digit_is b y in
    let three = ap is_digit (span_at h 2 (p + 1 + 1) (omega arith)) ∙ digit_is c z in
    let four = ap is_digit (span_at h 3 (p + 1 + 1 + 1) (omega arith)) ∙ stop in
    rw h.ends
    (numeral_of s p (suc (suc (suc n))) 3 (100 * a + 10 * b + c) one
    (digit_more (suc (suc n)) s p 2 one
    (digit_more (suc n) s (p + 1) 1 two (digit_more n s (p + 1 + 1) 0 three (no_digits n s (p + 1 + 1 + 1) four))))
    (value_three s p a b c (span_at h 0 (p + 0) refl) (span_at h 1 (p + 1) refl) (span_at h 2 (p + 2) refl)))

-- A number begins with a digit, and so with no space.
pub digits_no_space : {count k : ℕ} {number : List ℕ} → Digits count k number → NoSpace number
unfolding digit
digits_no_space (one_digit a x) = record { begins = λ rest. ne_eqb 32 (48 + a) (λ e. omega arith) }
digits_no_space (two_digits a b x y) = record { begins = λ rest. ne_eqb 32 (48 + a) (λ e. omega arith) }
digits_no_space (three_digits a b c x y z) = record { begins = λ rest. ne_eqb 32 (48 + a) (λ e. omega arith) }

pub digits_some : {count k : ℕ} {number : List ℕ} → Digits count k number → (1 ≤ length number) × (count ≤ 3)
digits_some (one_digit a x) = (omega arith, omega arith)
digits_some (two_digits a b x y) = (omega arith, omega arith)
digits_some (three_digits a b c x y z) = (omega arith, omega arith)
