-- The laws of the reader of numbers: one for each way through the code, and what its answers say.
use Prim.Native.Nat.{ℕ, zero, suc, ◌+◌, ◌-◌, ◌*◌, ◌^◌, ◌≤◌, ◌<◌}
use native.Mathlib.Omega.{arith}
use native.Mathlib.Nat.{add-zero, pow-suc, pow-le-pow_right}
use native.Mathlib.Numerals.{add-one}
use native.Mathlib.Decide.{dec_lt}
use mathlib.Core.Path.{◌≡◌, refl, sym, ◌∙◌, ap, subst}
use mathlib.Core.Bool.{Bool, true, false, not}
use Rattle.std.specs.Prelude.{Option, None, Some}
use mathlib.Core.List.{List, [], ◌∷◌}
use mir.Syntax.{w8, w64}
use Rattle.std.specs.Int.{from_bool}
use mir.Val.{Fits}
use lib.ListN.{length, get_or, get_or-eq_default}
use lib.Dec.{leb, ltb}
use borrow.Author.Tests.{ltb-true, ltb-false, leb-true, le-leb, lt-leb, not-true, not-false}
use Rattle.base.specs.Bytes.{byte_at}
use Rattle.base.proofs.Lists.{and_left, whether}
use Rattle.reading.specs.Tokens.{is_digit, digits, value, Token, numeral}
use Rattle.reading.proofs.LogReading.{picked}
use Rattle.text_numerals.specs.Numerals.{numeral_told, spelled, Ahead, Stops, Spelling}
use Rattle.text_numerals.specs.declared.Number.{Number}

-- ---- bytes

-- Past the end every byte is 0.
pub byte_past : (s : List ℕ) (p : ℕ) → length s ≤ p → 0 ≡ byte_at s p
byte_past s p le = sym (get_or-eq_default s 0 le)

-- A byte that is not 0 stands before the end.
pub byte_inside : (s : List ℕ) (p : ℕ) → 1 ≤ byte_at s p → p < length s
byte_inside s p h = go (ltb p (length s)) refl
  where
    go : (b : Bool) → ltb p (length s) ≡ b → p < length s
    go true e = ltb-true p (length s) e
    go false e = absurd (omega (arith, byte_past s p (ltb-false p (length s) e)))

-- ---- digits

pub digit_below : (b : ℕ) → b < 48 → false ≡ is_digit b
unfolding is_digit
digit_below b lt = rw (lt-leb 48 b lt)

pub digit_between : (b : ℕ) → 48 ≤ b → b ≤ 57 → true ≡ is_digit b
unfolding is_digit
digit_between b from to = rw (le-leb 48 b from, le-leb b 57 to)

pub digit_above : (b : ℕ) → 57 < b → false ≡ is_digit b
unfolding is_digit
digit_above b lt = let low : 48 ≤ b = omega arith in rw (le-leb 48 b low, lt-leb b 57 lt)

pub digit_low : (b : ℕ) → is_digit b ≡ true → 48 ≤ b
unfolding is_digit
digit_low b e = leb-true 48 b (and_left (leb 48 b) (leb b 57) e)

not_both : (b : Bool) → b ≡ true → b ≡ false → ⊥
not_both b e f = let z : ◌≡◌ {A = ℕ} 0 1 = cc in omega arith

-- The byte that was read is a digit.
is_one : (s : List ℕ) (p b : ℕ) (d : Bool) → b ≡ byte_at s p → d ≡ is_digit b → not d ≡ false → is_digit (byte_at s p) ≡ true
is_one s p b d e f g = sym (ap is_digit e) ∙ sym f ∙ not-false d g

pub spelled_none : (n said next : ℕ) → n ≡ 0 → None ≡ spelled n said next
unfolding spelled
spelled_none n said next e = rw e

pub spelled_some : (n said next : ℕ) → (n ≡ 0 → ⊥) → Some (record { said = said; next = next }) ≡ spelled n said next
unfolding spelled
spelled_some zero said next h = absurd (h refl)
spelled_some (suc n) said next h = refl

pub spelling_start : (s : List ℕ) (at most : ℕ) → Spelling s at most 0 0 at
unfolding value
spelling_start s at most = record { few = omega arith; here = omega arith; told = refl; rest = let z : most - 0 ≡ most = omega arith in rw z (omega arith) }

digits_more : (s : List ℕ) (p left : ℕ) → 1 ≤ left → is_digit (byte_at s p) ≡ true → digits left s p ≡ suc (digits (left - 1) s (p + 1))
unfolding digits
digits_more s p zero h e = absurd (omega arith)
digits_more s p (suc left) h e = let z : suc left - 1 ≡ left = omega arith in rw (e, z)

digits_stop : (s : List ℕ) (p left : ℕ) → is_digit (byte_at s p) ≡ false → digits left s p ≡ 0
unfolding digits
digits_stop s p zero e = refl
digits_stop s p (suc left) e = rw e

digits_some : (s : List ℕ) (p left k : ℕ) → digits left s p ≡ suc k → is_digit (byte_at s p) ≡ true
unfolding digits
digits_some s p zero k e = absurd (omega arith)
digits_some s p (suc left) k e = go (is_digit (byte_at s p)) refl
  where
    go : (b : Bool) → is_digit (byte_at s p) ≡ b → is_digit (byte_at s p) ≡ true
    go true f = f
    go false f = absurd (omega (arith, digits_stop s p (suc left) f))

digits_none : (s : List ℕ) (p left : ℕ) → 1 ≤ left → digits left s p ≡ 0 → is_digit (byte_at s p) ≡ false
digits_none s p left h e = go (is_digit (byte_at s p)) refl
  where
    go : (b : Bool) → is_digit (byte_at s p) ≡ b → is_digit (byte_at s p) ≡ false
    go true f = absurd (omega (arith, digits_more s p left h f))
    go false f = f

value_more : (s : List ℕ) (at n said next b : ℕ) → said ≡ value n s at → next ≡ at + n → b ≡ byte_at s next
    → 10 * said + (b - 48) ≡ value (suc n) s at
unfolding value
value_more s at n said next b f g e = rw (f, e, g)

pub spelling_more : (s : List ℕ) (at most n said next b x : ℕ) (d : Bool) → Spelling s at most n said next → n < most → b ≡ byte_at s next
    → d ≡ is_digit b → not d ≡ false → x ≡ b - 48 → Spelling s at most (n + 1) (10 * said + x) (next + 1)
spelling_more s at most n said next b x d h lt e f g is-x =
    record {
      few = omega arith;
      here = omega arith;
      told = rw (add-one n, is-x) (value_more s at n said next b h.told h.here e);
      rest = h.rest ∙ rest_more (is_one s next b d e f g);
    }
  where
    rest_more : is_digit (byte_at s next) ≡ true → n + digits (most - n) s next ≡ n + 1 + digits (most - (n + 1)) s (next + 1)
    rest_more digit =
        let left : most - n - 1 ≡ most - (n + 1) = omega arith in
        rw (digits_more s next (most - n) (omega arith) digit, left) (omega arith)

spelling_end : (s : List ℕ) (at most n said next : ℕ) → 1 ≤ most → Spelling s at most n said next → digits (most - n) s next ≡ 0
    → spelled n said next ≡ numeral_told (numeral most s at)
unfolding spelled numeral numeral_told
spelling_end s at most zero said next h k e =
    let f = k.rest in rw (digits_none s at most h (omega arith))
spelling_end s at most (suc n) said next h k e =
    let f = k.rest in
    let g : digits most s at ≡ suc n = omega arith in
    rw (digits_some s at most n g, g, k.told, k.here)

pub numeral_stopped : (s : List ℕ) (at most n said next b : ℕ) (d : Bool) (r : Option Number) → 1 ≤ most → Spelling s at most n said next
    → b ≡ byte_at s next → d ≡ is_digit b → not d ≡ true → r ≡ spelled n said next → r ≡ numeral_told (numeral most s at)
numeral_stopped s at most n said next b d r h k e f g t =
    t ∙ spelling_end s at most n said next h k (digits_stop s next (most - n) (sym (ap is_digit e) ∙ sym f ∙ not-true d g))

no_digits : (s : List ℕ) (p : ℕ) → digits 0 s p ≡ 0
unfolding digits
no_digits s p = refl

pub numeral_full : (s : List ℕ) (at most n said next : ℕ) (r : Option Number) → 1 ≤ most → Spelling s at most n said next → most ≤ n
    → r ≡ spelled n said next → r ≡ numeral_told (numeral most s at)
numeral_full s at most n said next r h k le t =
    let z : most - n ≡ 0 = omega arith in
    t ∙ spelling_end s at most n said next h k (rw z (no_digits s next))

-- A number of few digits is small, whatever the bytes are.
value_below : (s : List ℕ) (p n : ℕ) → ((j : ℕ) → Fits w8 (get_or s j 0)) → value n s p + 23 ≤ 23 * 10 ^ n
unfolding value
value_below s p zero h = omega arith
value_below s p (suc n) h = omega (arith, value_below s p n h, h (p + n), pow-suc 10 n)

value_small : (s : List ℕ) (p n : ℕ) → ((j : ℕ) → Fits w8 (get_or s j 0)) → n < 10 → value n s p ≤ 23000000000
value_small s p n h lt =
    let short : n ≤ 9 = omega arith in
    let few : 10 ^ n ≤ 10 ^ 9 = pow-le-pow_right (omega arith) short in
    omega (arith, value_below s p n h)

pub said_fits : (s : List ℕ) (at most n said next : ℕ) → Spelling s at most n said next → most ≤ 10 → n < most
    → ((j : ℕ) → Fits w8 (get_or s j 0)) → Fits w64 (10 * said)
said_fits s at most n said next k le lt h = omega (arith, k.told, value_small s at n h (omega arith))

pub digit_fits : (s : List ℕ) (at most n said next b : ℕ) → Spelling s at most n said next → most ≤ 10 → n < most
    → ((j : ℕ) → Fits w8 (get_or s j 0)) → b ≡ byte_at s next → Fits w64 (10 * said + (b - 48))
digit_fits s at most n said next b k le lt h e = omega (arith, k.told, value_small s at n h (omega arith), h next)

pub digit_inside : (s : List ℕ) (next b : ℕ) (d : Bool) → b ≡ byte_at s next → d ≡ is_digit b → not d ≡ false → length s < 18446744073709551616
    → Fits w64 (next + 1)
digit_inside s next b d e f g l =
    let low = digit_low b (sym f ∙ not-false d g) in omega (arith, byte_inside s next (omega arith))

pub digit_from : (b : ℕ) (d : Bool) → d ≡ is_digit b → not d ≡ false → 48 ≤ b
digit_from b d f g = digit_low b (sym f ∙ not-false d g)

-- ---- where such a byte is ahead

module _ (Such : ℕ → Type 0) (s : List ℕ) where
  -- A byte stands here,
  pub ahead_there : (p : ℕ) → Ahead Such s p → p < length s
  ahead_there p h = omega (arith, h.ahead, h.inside)

  -- what is ahead of q is ahead of what stands before q,
  pub ahead_before : (p q : ℕ) → p ≤ q → Ahead Such s q → Ahead Such s p
  ahead_before p q le h = record { last = h.last; ahead = omega (arith, h.ahead); inside = h.inside; such = h.such }

  -- and behind another byte it is still ahead.
  pub ahead_behind : (p : ℕ) → Ahead Such s p → (Such (byte_at s p) → ⊥) → Ahead Such s (p + 1)
  ahead_behind p h other = elim (dec_lt p h.last) [
    | yes l ↦ record { last = h.last; ahead = omega (arith, l); inside = h.inside; such = h.such }
    | no l ↦ let here : h.last ≡ p = omega (arith, l, h.ahead) in absurd (other (subst (λ q. Such (byte_at s q)) here h.such))
  ]

  -- Where it is no digit, it is ahead behind digits
  module _ (no_digit : (b : ℕ) → Such b → is_digit b ≡ false) where
    behind_digits : (n p : ℕ) → Ahead Such s p → Ahead Such s (p + digits n s p)
    unfolding digits
    behind_digits zero p h = rw (add-zero p) h
    behind_digits (suc n) p h =
        whether (is_digit (byte_at s p))
        (λ e. rw e (subst (Ahead Such s) (further (digits n s (p + 1))) (behind_digits n (p + 1) (ahead_behind p h (λ x. not_both (is_digit (byte_at s p)) e (no_digit (byte_at s p) x))))))
        (λ e. rw (e, add-zero p) h)
      where
        further : (k : ℕ) → p + 1 + k ≡ p + suc k
        further k = omega arith

    -- and behind a number.
    pub behind_numeral : (most p : ℕ) {n : Token ℕ} → Ahead Such s p → numeral most s p ≡ Some n → Ahead Such s n.next
    unfolding numeral
    behind_numeral most p h e =
        let (there, same) = picked (is_digit (byte_at s p)) _ e in subst (Ahead Such s) (ap (λ t. t.next) same) (behind_digits most p h)

pub stops_there : (s : List ℕ) (p : ℕ) → Stops s p → p < length s
stops_there s p h = ahead_there _ s p h

pub stops_behind : (s : List ℕ) (p b : ℕ) (d : Bool) → Stops s p → b ≡ byte_at s p → d ≡ is_digit b → not d ≡ false → Stops s (p + 1)
stops_behind s p b d h e f g = ahead_behind _ s p h (not_both (is_digit (byte_at s p)) (is_one s p b d e f g))

-- ---- one digit or two

pub digit_counted : (b n : ℕ) (d : Bool) → d ≡ is_digit b → n ≡ from_bool d → n ≡ digits 1 (b ∷ []) 0
unfolding digits
digit_counted b n true e f = rw (← e, f)
digit_counted b n false e f = rw (← e, f)

digits_few : (n : ℕ) (s : List ℕ) (p : ℕ) → digits n s p ≤ n
unfolding digits
digits_few zero s p = omega arith
digits_few (suc n) s p = whether (is_digit (byte_at s p)) (λ e. rw e (omega (arith, digits_few n s (p + 1)))) (λ e. rw e (omega arith))

module _ (b more : ℕ) (count : more ≡ digits 1 (b ∷ []) 0) where
  one_at_most : more ≤ 1
  one_at_most = omega (arith, digits_few 1 (b ∷ []) 0)

  pub second_digit : more ≡ 1 → 48 ≤ b
  second_digit e = digit_low b (digits_some (b ∷ []) 0 1 0 (sym count ∙ e))

  pub two_spelled : (a : ℕ) → more ≡ 1 → 10 * (a - 48) + (b - 48) ≡ value (suc more) (a ∷ b ∷ []) 0
  unfolding value
  two_spelled a e = rw e (omega arith)

  pub one_spelled : (a : ℕ) → (more ≡ 1 → ⊥) → a - 48 ≡ value (suc more) (a ∷ b ∷ []) 0
  unfolding value
  one_spelled a ne = let z : more ≡ 0 = omega (arith, one_at_most) in rw z (omega arith)

  pub short_fits : (s : List ℕ) (at : ℕ) → at + 1 < length s → length s < 18446744073709551616 → Fits w64 (at + 1 + more)
  short_fits s at there small = omega (arith, one_at_most)

module _ (s : List ℕ) (at a : ℕ) (d : Bool) (first : a ≡ byte_at s at) (is_d : d ≡ is_digit a) where
  pub short_missing : not d ≡ true → None ≡ numeral_told (numeral 2 s at)
  unfolding numeral numeral_told
  short_missing e = rw (← first, ← is_d, not-true d e)

  module _ (digit : not d ≡ false) (b more : ℕ) (second : b ≡ byte_at s (at + 1)) (count : more ≡ digits 1 (b ∷ []) 0) where
    -- so many digits stand there,
    how_many : digits 2 s at ≡ suc more
    unfolding digits
    how_many = rw (is_one s at a d first is_d digit, ← second, count)

    -- and they spell what the two bytes do
    same_value : (n : ℕ) → n ≤ 1 → value (suc n) (a ∷ b ∷ []) 0 ≡ value (suc n) s at
    unfolding value
    same_value zero le = rw (first, add-zero at)
    same_value (suc zero) le = rw (first, second, add-zero at)
    same_value (suc (suc n)) le = absurd (omega arith)

    pub short_read : (said : ℕ) → said ≡ value (suc more) (a ∷ b ∷ []) 0 → Some (record { said = said; next = at + 1 + more }) ≡ numeral_told (numeral 2 s at)
    unfolding numeral numeral_told
    short_read said e =
        let far : at + 1 + more ≡ at + suc more = omega arith in
        rw (is_one s at a d first is_d digit, how_many, e, same_value more (one_at_most b more count), far)

-- ---- answers

pub numeral_missing : (o : Option (Token ℕ)) → None ≡ numeral_told o → o ≡ None
unfolding numeral_told
numeral_missing None e = refl
numeral_missing (Some t) e = cc

pub numeral_read : (o : Option (Token ℕ)) (n : Number) → Some n ≡ numeral_told o → o ≡ Some (record { said = n.said; next = n.next })
unfolding numeral_told
numeral_read None n e = cc
numeral_read (Some t) n e = let same : n ≡ record { said = t.said; next = t.next } = cc in rw same
