-- The laws of the functions, one for each way through them.
use Prim.Native.Nat.{ℕ, ◌+◌, ◌≤◌, ◌<◌}
use mathlib.Core.Path.{◌≡◌, sym, ◌∙◌, ap}
use mathlib.Core.Bool.{Bool, true, false}
use Rattle.std.specs.Prelude.{Option, None, Some, Err, Ok}
use Rattle.std.specs.Option.{ok_or}
use Rattle.std.specs.Result.{IsErrAnd}
use Rattle.std.specs.List.{starts_with}
use mathlib.Core.List.{List, [], ◌∷◌}
use lib.Dec.{eqb}
use borrow.Author.Tests.{eq-eqb, ne_eqb, lt-ltb, le-ltb}
use Rattle.base.specs.Bytes.{byte_at}
use Rattle.base.specs.Text.{ascii}
use Rattle.base.specs.Answers.{Answer, ◌if◌else◌}
use Rattle.base.specs.declared.Refusal.{Refusal}
use Rattle.base.specs.declared.Refusal.TheVariants.{Grammar, Number as NumberRefused}
use Rattle.reading.specs.Tokens.{stands, skip, number_token, numeral}
use Rattle.reading.specs.BookReading.{most_ticks}
use Rattle.text_numerals.specs.Numerals.{numeral_told}
use Rattle.text_numerals.specs.declared.Number.{Number}
use Rattle.text_numerals.proofs.Laws.{numeral_missing, numeral_read}
use Rattle.book_tokens.proofs.Laws.{begins_started}
use Rattle.book_heading.specs.Ticks.{usual_bound, has_ticks, first_rule, ticks_line, heading}
use Rattle.book_heading.specs.declared.Headed.{Headed}

-- ---- the word

pub word_read : (s : List ℕ) (r : Bool) → r ≡ starts_with eqb s (116 ∷ 105 ∷ 99 ∷ 107 ∷ 115 ∷ 32 ∷ []) → r ≡ has_ticks s
unfolding has_ticks ascii
word_read s r e = begins_started (116 ∷ 105 ∷ 99 ∷ 107 ∷ 115 ∷ 32 ∷ []) s r e

pub first_one : (s : List ℕ) (t : Bool) → t ≡ has_ticks s → t ≡ true → 1 ≡ first_rule s
unfolding first_rule
first_one s t e f = rw (sym e ∙ f)

pub first_zero : (s : List ℕ) (t : Bool) → t ≡ has_ticks s → t ≡ false → 0 ≡ first_rule s
unfolding first_rule
first_zero s t e f = rw (sym e ∙ f)

-- ---- the line

module _ (s : List ℕ) (at : ℕ) (here : at ≡ skip s 5) (o : Option Number) (is_o : o ≡ numeral_told (numeral 3 s at)) where
  pub line_missing : (r : Answer Headed) (w : Refusal) → IsErrAnd r (λ e. e ≡ w) → Err w ≡ ok_or {T = Number} o (Grammar 0) → o ≡ None
      → r ≡ ticks_line s (number_token s (skip s 5))
  unfolding ticks_line number_token
  line_missing (Err e) w same value none =
      let missing : numeral 3 s at ≡ None = numeral_missing (numeral 3 s at) (sym none ∙ is_o) in
      let why : w ≡ Grammar 0 = refused o none value in
      rw (← here, missing) (ap Err (same ∙ why))
    where
      refused : (o : Option Number) → o ≡ None → Err w ≡ ok_or {T = Number} o (Grammar 0) → w ≡ Grammar 0
      refused None n v = cc
      refused (Some x) n v = cc
  line_missing (Ok h) w same value none = absurd same

  -- the number that was read
  module _ (n : Number) (read : o ≡ Some n) where
    number_there : number_token s (skip s 5) ≡ Some (record { said = n.said; next = n.next })
    unfolding number_token
    number_there = rw (← here) (numeral_read (numeral 3 s at) n (sym read ∙ is_o))

    module _ (b : ℕ) (is_b : b ≡ byte_at s n.next) where
      pub line_unended : (b ≡ 10 → ⊥) → Err (Grammar 0) ≡ ticks_line s (number_token s (skip s 5))
      unfolding ticks_line ◌if◌else◌ stands
      line_unended other = rw (number_there, ne_eqb (byte_at s n.next) 10 (λ j. other (is_b ∙ j)))

      pub line_over : b ≡ 10 → 254 < n.said → Err (NumberRefused 0) ≡ ticks_line s (number_token s (skip s 5))
      unfolding ticks_line ◌if◌else◌ stands most_ticks
      line_over ten over = rw (number_there, eq-eqb (byte_at s n.next) 10 (sym is_b ∙ ten), lt-ltb 254 n.said over)

      pub line_read : b ≡ 10 → n.said ≤ 254 → Ok (record { usual = n.said; place = n.next + 1 }) ≡ ticks_line s (number_token s (skip s 5))
      unfolding ticks_line ◌if◌else◌ stands most_ticks
      line_read ten few = rw (number_there, eq-eqb (byte_at s n.next) 10 (sym is_b ∙ ten), le-ltb 254 n.said few)

-- ---- the heading

pub headed_ticks : (s : List ℕ) (t : Bool) (r : Answer Headed) → t ≡ has_ticks s → t ≡ true
    → r ≡ ticks_line s (number_token s (skip s 5)) → r ≡ heading s
unfolding heading
headed_ticks s t r e f g = g ∙ rw (sym e ∙ f)

pub headed_plain : (s : List ℕ) (t : Bool) → t ≡ has_ticks s → t ≡ false → Ok (record { usual = 40; place = 0 }) ≡ heading s
unfolding heading usual_bound
headed_plain s t e f = rw (sym e ∙ f)
