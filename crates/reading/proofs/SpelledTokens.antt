-- Tokens that are read were spelled: spaces, numbers, comparisons, marks and bounds.
-- Each lemma takes an answer of a token reader apart: nothing, or what was said, with the bytes that spell it.
use Prim.Native.Nat.{ℕ, zero, suc, ◌+◌, ◌-◌, ◌*◌, ◌≤◌, ◌<◌}
use native.Mathlib.Omega.{arith}
use native.Mathlib.Nat.{add-zero}
use native.Mathlib.Numerals.{add-one}
use native.Mathlib.Decide.{dec_lt}
use mathlib.Core.Path.{◌≡◌, refl, sym, ◌∙◌, ap, ap₂, subst}
use mathlib.Core.Bool.{Bool, true, false}
use Rattle.std.specs.Prelude.{Option, None, Some}
use mathlib.Core.List.{List, [], ◌∷◌, ◌++◌, append_assoc}
use lib.ListN.{length, drop, length-append, length-drop, length-replicate, get_or-eq_default}
use lib.Seq.{drop-cons, drop-drop}
use lib.Dec.{eqb, leb}
use borrow.Author.Tests.{eqb-true, leb-true}
use Rattle.base.specs.Choice.{pick}
use Rattle.base.specs.Lists.{leading, joined}
use Rattle.base.specs.Text.{ascii}
use Rattle.base.specs.Bytes.{byte_at}
use Rattle.base.proofs.Lists.{and_left, and_right}
use Rattle.logic.specs.Time.{ticks}
use Rattle.logic.specs.Book.{Comparison, no_more, less, no_less, more, Formula, proposition}
use Rattle.reading.specs.Tokens.{stands, skip, is_digit, digits, value, Token, numeral, number_token, mark_named, mark_at, with_equals, comparison_token}
use Rattle.reading.specs.Grammar.{compared, optional, BoundRead, bounded, compared_with, number_or_usual, bound_at}
use Rattle.reading.specs.Spelling.{spaces, digit, Digits, one_digit, two_digits, three_digits, BoundText, number_written, left_out, sign}
use Rattle.reading.proofs.TextPlaces.{Span, Pieces}

-- A choice has what both of its arms have.
pub pick_by : {X : Type 0} (Q : X → Type 0) (b : Bool) (x y : Unit {0} → X) → (b ≡ true → Q (x tt)) → (b ≡ false → Q (y tt)) → Q (pick b x y)
pick_by Q true x y h k = h refl
pick_by Q false x y h k = k refl

-- The text s has the bytes of t from p up to e; and those of pieces.
abbrev pub Passage : List ℕ → ℕ → List ℕ → ℕ → Type 0
Passage s p t e = Span s p t (drop e s) e

abbrev pub Passages : List ℕ → ℕ → List (List ℕ) → ℕ → Type 0
Passages s p ts e = Pieces s p ts (drop e s) e

module _ {s : List ℕ} where
  pub passages_end : (e : ℕ) → Passages s e [] e
  unfolding joined
  passages_end e = record { text = refl; ends = omega arith }

  pub passage_empty : (e : ℕ) → Passage s e [] e
  passage_empty e = record { text = refl; ends = omega arith }

  pub passage_before : {p : ℕ} {x : List ℕ} {q : ℕ} {ts : List (List ℕ)} {e : ℕ} → Passage s p x q → Passages s q ts e → Passages s p (x ∷ ts) e
  unfolding joined
  passage_before {p} {x} {q} {ts} {e} h k =
      record {
        text = h.text ∙ ap (λ l. x ++ l) k.text ∙ sym (append_assoc x (joined ts) (drop e s));
        ends = omega (arith, h.ends, k.ends, length-append x (joined ts));
      }

  pub passages_joined : {p : ℕ} {ts : List (List ℕ)} {e : ℕ} → Passages s p ts e → Passage s p (joined ts) e
  passages_joined h = record { text = h.text; ends = h.ends }

  -- one run behind another
  pub passage_append : {p : ℕ} {x : List ℕ} {q : ℕ} {y : List ℕ} {e : ℕ} → Passage s p x q → Passage s q y e → Passage s p (x ++ y) e
  passage_append {p} {x} {q} {y} {e} h k =
      record {
        text = h.text ∙ ap (λ l. x ++ l) k.text ∙ sym (append_assoc x y (drop e s));
        ends = omega (arith, h.ends, k.ends, length-append x y);
      }

-- Bytes that stand there end behind their beginning and inside the text.
pub passage_inside : {s : List ℕ} {p : ℕ} {text : List ℕ} {e : ℕ} → Passage s p text e → 1 ≤ length text → (p < e) × (e ≤ length s)
passage_inside {s} {p} {text} {e} h some_bytes =
    let all : length s - p ≡ length text + (length s - e) =
    sym (length-drop p s) ∙ ap length h.text ∙ length-append text (drop e s) ∙ ap (λ (n : ℕ). length text + n) (length-drop e s) in
    (omega (arith, h.ends), omega (arith, h.ends))

-- ---- bytes and spaces

module _ (s : List ℕ) where
  inside_by : (p : ℕ) → 1 ≤ byte_at s p → p < length s
  inside_by p h = elim (dec_lt p (length s)) [
    | yes l ↦ l
    | no l ↦ absurd (omega (arith, get_or-eq_default s 0 {n = p} (omega arith)))
  ]

  pub byte_passage : (p c : ℕ) → 1 ≤ c → byte_at s p ≡ c → Passage s p (c ∷ []) (p + 1)
  byte_passage p c one e =
      record { text = drop-cons s p 0 (inside_by p (omega arith)) ∙ ap₂ (λ (x n : ℕ). x ∷ drop n s) e (sym (add-one p)); ends = refl }

  pub stands_passage : (p c : ℕ) → 1 ≤ c → stands s p c ≡ true → Passage s p (c ∷ []) (p + 1)
  unfolding stands
  stands_passage p c one e = byte_passage p c one (eqb-true (byte_at s p) c e)

spaces_front : (x : List ℕ) → x ≡ spaces (leading (eqb 32) x) ++ drop (leading (eqb 32) x) x
unfolding leading
spaces_front [] = refl
spaces_front (b ∷ x) = go (eqb 32 b) refl (spaces_front x)
  where
    go : (t : Bool) → eqb 32 b ≡ t → x ≡ spaces (leading (eqb 32) x) ++ drop (leading (eqb 32) x) x
        → b ∷ x ≡ spaces (pick t (λ _. suc (leading (eqb 32) x)) (λ _. 0)) ++ drop (pick t (λ _. suc (leading (eqb 32) x)) (λ _. 0)) (b ∷ x)
    go true e ih = ap₂ (λ (y : ℕ) (ys : List ℕ). y ∷ ys) (sym (eqb-true 32 b e)) ih
    go false e ih = refl

-- how many spaces stand at p
unfoldable pub gap : List ℕ → ℕ → ℕ
gap s p = leading (eqb 32) (drop p s)

pub spaces_passage : (s : List ℕ) (p : ℕ) → Passage s p (spaces (gap s p)) (skip s p)
unfolding skip gap
spaces_passage s p =
    record {
      text = spaces_front (drop p s) ∙ ap (λ l. spaces (gap s p) ++ l) (drop-drop (gap s p) p s);
      ends = ap (λ n. p + n) (sym (length-replicate {A = ℕ} (gap s p) 32));
    }

-- ---- numbers

module _ (s : List ℕ) where
  -- no more digits than are counted
  pub digits_most : (n p : ℕ) → digits n s p ≤ n
  unfolding digits
  digits_most zero p = omega arith
  digits_most (suc n) p = pick_by (λ k. k ≤ suc n) (is_digit (byte_at s p)) _ _ (λ _. omega (arith, digits_most n (p + 1))) (λ _. omega arith)

  -- one at least, where a digit stands
  pub digits_some : (n p : ℕ) → 1 ≤ n → is_digit (byte_at s p) ≡ true → 1 ≤ digits n s p
  unfolding digits
  digits_some zero p one e = absurd (omega arith)
  digits_some (suc n) p one e = rw e (omega arith)

  -- each of them is a digit
  pub digits_at : (n p i : ℕ) → i < digits n s p → is_digit (byte_at s (p + i)) ≡ true
  unfolding digits
  digits_at zero p i lt = absurd (omega arith)
  digits_at (suc n) p i lt = go (is_digit (byte_at s p)) refl i lt (λ j. digits_at n (p + 1) j)
    where
      go : (t : Bool) → is_digit (byte_at s p) ≡ t → (i : ℕ) → i < pick t (λ _. suc (digits n s (p + 1))) (λ _. 0)
          → ((j : ℕ) → j < digits n s (p + 1) → is_digit (byte_at s (p + 1 + j)) ≡ true) → is_digit (byte_at s (p + i)) ≡ true
      go true e zero lt ih = ap (λ q. is_digit (byte_at s q)) (add-zero p) ∙ e
      go true e (suc j) lt ih = let at : p + suc j ≡ p + 1 + j = omega arith in ap (λ q. is_digit (byte_at s q)) at ∙ ih j (omega arith)
      go false e i lt ih = absurd (omega arith)

  -- a digit as its byte
  pub digit_passage : (p e : ℕ) → e ≡ p + 1 → is_digit (byte_at s p) ≡ true → Passage s p (digit (byte_at s p - 48) ∷ []) e × (byte_at s p - 48 < 10) × (48 ≤ byte_at s p)
  unfolding is_digit digit
  digit_passage p e at d =
      let low = leb-true 48 (byte_at s p) (and_left (leb 48 (byte_at s p)) (leb (byte_at s p) 57) d) in
      let high = leb-true (byte_at s p) 57 (and_right (leb 48 (byte_at s p)) (leb (byte_at s p) 57) d) in
      (rw at (byte_passage s p (48 + (byte_at s p - 48)) (omega arith) (omega arith)), omega arith, omega arith)

-- A number of n digits at p, with the bytes that spell it.
record NumberThere (s : List ℕ) (p n : ℕ) : Type 0 where
  number : List ℕ
  written : Digits n (value n s p) number
  passage : Passage s p number (p + n)

number_at : (s : List ℕ) (p n : ℕ) → 1 ≤ n → n ≤ 3 → ((i : ℕ) → i < n → is_digit (byte_at s (p + i)) ≡ true) → NumberThere s p n
unfolding value joined
number_at s p zero one few all = absurd (omega arith)
number_at s p (suc zero) one few all =
    let here = ap (λ q. is_digit (byte_at s q)) (sym (add-zero p)) ∙ all 0 (omega arith) in
    let same = ap (λ q. byte_at s q) (add-zero p) in
    let (r, l, m) = digit_passage s p (p + 1) refl here in
    let v : byte_at s p - 48 ≡ value 1 s p = omega arith in
    record {
      number = digit (byte_at s p - 48) ∷ [];
      written = subst (λ (k : ℕ). Digits 1 k (digit (byte_at s p - 48) ∷ [])) v (one_digit (byte_at s p - 48) l);
      passage = r;
    }
number_at s p (suc (suc zero)) one few all =
    let here = ap (λ q. is_digit (byte_at s q)) (sym (add-zero p)) ∙ all 0 (omega arith) in
    let same = ap (λ q. byte_at s q) (add-zero p) in
    let (r, l, m) = digit_passage s p (p + 1) refl here in
    let (r2, l2, m2) = digit_passage s (p + 1) (p + 2) (omega arith) (all 1 (omega arith)) in
    let v : 10 * (byte_at s p - 48) + (byte_at s (p + 1) - 48) ≡ value 2 s p = omega arith in
    record {
      number = digit (byte_at s p - 48) ∷ digit (byte_at s (p + 1) - 48) ∷ [];
      written = subst (λ (k : ℕ). Digits 2 k (digit (byte_at s p - 48) ∷ digit (byte_at s (p + 1) - 48) ∷ [])) v
          (two_digits (byte_at s p - 48) (byte_at s (p + 1) - 48) l l2);
      passage = passage_append r r2;
    }
number_at s p (suc (suc (suc zero))) one few all =
    let here = ap (λ q. is_digit (byte_at s q)) (sym (add-zero p)) ∙ all 0 (omega arith) in
    let same = ap (λ q. byte_at s q) (add-zero p) in
    let (r, l, m) = digit_passage s p (p + 1) refl here in
    let (r2, l2, m2) = digit_passage s (p + 1) (p + 2) (omega arith) (all 1 (omega arith)) in
    let (r3, l3, m3) = digit_passage s (p + 2) (p + 3) (omega arith) (all 2 (omega arith)) in
    let v : 100 * (byte_at s p - 48) + 10 * (byte_at s (p + 1) - 48) + (byte_at s (p + 2) - 48) ≡ value 3 s p = omega arith in
    record {
      number = digit (byte_at s p - 48) ∷ digit (byte_at s (p + 1) - 48) ∷ digit (byte_at s (p + 2) - 48) ∷ [];
      written = subst (λ (k : ℕ). Digits 3 k (digit (byte_at s p - 48) ∷ digit (byte_at s (p + 1) - 48) ∷ digit (byte_at s (p + 2) - 48) ∷ [])) v
          (three_digits (byte_at s p - 48) (byte_at s (p + 1) - 48) (byte_at s (p + 2) - 48) l l2 l3);
      passage = passage_append r (passage_append r2 r3);
    }
number_at s p (suc (suc (suc (suc n)))) one few all = absurd (omega arith)

-- What holds of nothing, and of every number that is spelled there, holds of what is read.
pub numeral_by : (Q : Option (Token ℕ) → Type 0) (most : ℕ) → 1 ≤ most → most ≤ 3 → (s : List ℕ) (p : ℕ) → Q None
    → ((count k e : ℕ) (number : List ℕ) → Digits count k number → count ≤ most → Passage s p number e → Q (Some (record { said = k; next = e })))
    → Q (numeral most s p)
unfolding numeral
numeral_by Q most one few s p nothing something =
    pick_by Q (is_digit (byte_at s p)) _ _ (λ d.
    let n = digits most s p in
    let l = digits_most s most p in
    let found = number_at s p n (digits_some s most p one d) (omega arith) (λ i lt. digits_at s most p i lt) in
    something n (value n s p) (p + n) found.number found.written l found.passage) (λ _. nothing)

-- ---- comparisons, marks and bounds

pub comparison_by : (Q : Option (Token Comparison) → Type 0) (s : List ℕ) (p : ℕ) → Q None
    → ((c : Comparison) (e : ℕ) → Passage s p (sign c) e → Q (Some (record { said = c; next = e }))) → Q (comparison_token s p)
unfolding comparison_token with_equals sign ascii
comparison_by Q s p nothing something =
    pick_by Q (stands s p 60) _ _ (λ a.
    pick_by (λ t. Q (Some t)) (stands s (p + 1) 61) _ _
    (λ b. something no_more (p + 2) (two 60 (omega arith) a b)) (λ b. something less (p + 1) (stands_passage s p 60 (omega arith) a))) (λ _.
    pick_by Q (stands s p 62) _ _ (λ a.
    pick_by (λ t. Q (Some t)) (stands s (p + 1) 61) _ _
    (λ b. something no_less (p + 2) (two 62 (omega arith) a b)) (λ b. something more (p + 1) (stands_passage s p 62 (omega arith) a))) (λ _. nothing))
  where
    two : (c : ℕ) → 1 ≤ c → stands s p c ≡ true → stands s (p + 1) 61 ≡ true → Passage s p (c ∷ 61 ∷ []) (p + 2)
    two c one a b =
        let at : p + 1 + 1 ≡ p + 2 = omega arith in
        let h : Passage s (p + 1) (61 ∷ []) (p + 2) = rw (← at) (stands_passage s (p + 1) 61 (omega arith) b) in
        passage_append (stands_passage s p c one a) h

-- a mark behind its `!`
pub mark_by : (Q : Option (Token Formula) → Type 0) (wanted : Bool) (s : List ℕ) (p : ℕ) → Q None
    → ((count k e : ℕ) (number : List ℕ) → Digits count k number → count ≤ 2 → Passages s p (ascii "p" ∷ number ∷ []) e
    → Q (Some (record { said = proposition wanted k; next = e })))
    → Q (mark_at wanted s p)
unfolding mark_at mark_named ascii
mark_by Q wanted s p nothing something =
    pick_by Q (stands s p 112) _ _ (λ a.
    numeral_by (λ o. Q (mark_named wanted o)) 2 (omega arith) (omega arith) s (p + 1) nothing (λ count k e number d few r.
    something count k e number d few (passage_before (stands_passage s p 112 (omega arith) a) (passage_before r (passages_end e))))) (λ _. nothing)

-- the bound of N
pub compared_by : (Q : Option BoundRead → Type 0) (usual : ℕ) (s : List ℕ) (p : ℕ) → Q None
    → ((i : ℕ) (c : Comparison) (j count t e : ℕ) (number : List ℕ) → Digits count t number
    → ((ts : List (List ℕ)) (q : ℕ) → Passages s e ts q → Passages s p (spaces i ∷ sign c ∷ spaces j ∷ number ∷ ts) q)
    → Q (Some (record { comparison = c; amount = ticks t; next = e })))
    → Q (bound_at usual compared s p)
unfolding bound_at compared_with bounded number_token
compared_by Q usual s p nothing something =
    comparison_by (λ o. Q (compared_with s o)) s (skip s p) nothing (λ c q r.
    numeral_by (λ o. Q (bounded c o)) 3 (omega arith) (omega arith) s (skip s q) nothing (λ count t e number d few u.
    something (gap s p) c (gap s q) count t e number d (λ ts z more_of.
    passage_before (spaces_passage s p) (passage_before r (passage_before (spaces_passage s q) (passage_before u more_of))))))

-- the bound of A, E or U
pub optional_by : (Q : Option BoundRead → Type 0) (usual : ℕ) (s : List ℕ) (p : ℕ)
    → ((t e : ℕ) (bound : List ℕ) → BoundText usual t bound → Passage s p bound e → Q (Some (record { comparison = no_more; amount = ticks t; next = e })))
    → Q (bound_at usual optional s p)
unfolding bound_at number_or_usual bounded number_token
optional_by Q usual s p something =
    numeral_by (λ o. Q (number_or_usual usual p o)) 3 (omega arith) (omega arith) s (skip s p)
    (something usual p [] left_out (passage_empty p))
    (λ count t e number d few r. something t e (spaces (gap s p) ++ number) (number_written (gap s p) d) (passage_append (spaces_passage s p) r))
