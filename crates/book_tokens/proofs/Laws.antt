-- The laws of the token readers: one for each way through the code, and where tokens end.
use Prim.Native.Nat.{ℕ, zero, suc, ◌+◌, ◌≤◌, ◌<◌}
use native.Mathlib.Omega.{arith}
use native.Mathlib.Numerals.{add-one}
use native.Mathlib.Nat.{add-zero}
use native.Mathlib.Decide.{dec_lt}
use mathlib.Core.Path.{◌≡◌, refl, sym, ◌∙◌, ap}
use mathlib.Core.Bool.{Bool, true, false, ◌&&◌}
use Rattle.std.specs.Prelude.{Option, None, Some, max}
use Rattle.std.specs.List.{starts_with}
use Rattle.std.specs.Option.{unwrap_or}
use mathlib.Core.List.{List, [], ◌∷◌, map}
use lib.ListN.{length, get_or, drop, length-drop}
use lib.Seq.{drop-cons}
use lib.Dec.{eqb}
use borrow.Author.Tests.{eq-eqb, ne_eqb}
use Rattle.base.specs.Choice.{pick}
use Rattle.base.specs.Lists.{leading, begins}
use Rattle.base.specs.Bytes.{byte_at}
use Rattle.base.proofs.Lists.{leading_le}
use Rattle.logic.specs.Book.{no_more, less, no_less, more}
use Rattle.logic.specs.Book as Logic
use Rattle.reading.specs.Tokens.{stands, skip, Token, numeral, number_token, with_equals, comparison_token}
use Rattle.reading.specs.Grammar.{optional, Connective, connective, connectives, bounded, compared_with, number_or_usual, bound_at}
use Rattle.reading.specs.BookArea.{comparison_code}
use Rattle.book_tokens.specs.Told.{place_behind, token_told, comparison_told, bound_told, bound_kind, row_told, led_told, longer_told, bound_by}
use Rattle.text_numerals.specs.Numerals.{numeral_told}
use Rattle.text_numerals.specs.declared.Number.{Number}
use Rattle.text_numerals.proofs.Laws.{numeral_missing, numeral_read}
use Rattle.book_tokens.specs.declared.Compared.{Compared}
use Rattle.book_tokens.specs.declared.Bounded.{Bounded}
use Rattle.book_tokens.specs.declared.BoundKind.{BoundKind}
use Rattle.book_tokens.specs.declared.BoundKind.TheVariants as Kind
use Rattle.book_tokens.specs.declared.Row.{Row}

-- ---- spaces

pub skip_over : (s : List ℕ) (p : ℕ) → p < length s → get_or s p 0 ≡ 32 → skip s (p + 1) ≡ skip s p
unfolding skip leading
skip_over s p lt e = rw (add-one p, drop-cons s p 0 lt, e) (omega arith)

pub skip_stays : (s : List ℕ) (p : ℕ) → p < length s → (get_or s p 0 ≡ 32 → ⊥) → skip s p ≡ p
unfolding skip leading
skip_stays s p lt n = rw (drop-cons s p 0 lt, ne_eqb 32 (get_or s p 0) (λ e. n (sym e))) (add-zero p)

pub skip_end : (s : List ℕ) (p : ℕ) → length s ≤ p → skip s p ≡ p
unfolding skip
skip_end s p le = let h = leading_le (eqb 32) (drop p s) in let k = length-drop p s in omega arith

-- Spaces are passed over forwards.
pub skip_ahead : (s : List ℕ) (p : ℕ) → p ≤ skip s p
unfolding skip
skip_ahead s p = omega arith

-- All bytes from the first position up to this one are spaces.
pub skip_done : (s : List ℕ) (at next : ℕ) → skip s next ≡ skip s at → next < length s → (get_or s next 0 ≡ 32 → ⊥) → next ≡ skip s at
skip_done s at next h lt n = sym (skip_stays s next lt n) ∙ h

pub skip_all : (s : List ℕ) (at next r : ℕ) → skip s next ≡ skip s at → length s ≤ next → (at ≤ length s → next ≤ length s) → r ≡ max at (length s)
    → r ≡ skip s at
skip_all s at next r h le up e = elim (dec_lt at (length s)) [
  | yes l ↦ let end : r ≡ next = omega (arith, l) in end ∙ sym (skip_end s next le) ∙ h
  | no l ↦ let here : r ≡ at = omega (arith, l) in here ∙ sym (skip_end s at (omega arith))
]

pub skip_on : (s : List ℕ) (at next : ℕ) → skip s next ≡ skip s at → next < length s → get_or s next 0 ≡ 32 → skip s (next + 1) ≡ skip s at
skip_on s at next h lt e = skip_over s next lt e ∙ h

-- ---- behind a byte

module _ (s : List ℕ) (p b q c : ℕ) (there : q ≡ skip s p) (read : c ≡ byte_at s q) where
  pub behind_other : (c ≡ b → ⊥) → None ≡ place_behind s p b
  unfolding place_behind stands
  behind_other n = rw (← there, ne_eqb (byte_at s q) b (λ e. n (read ∙ e)))

  pub behind_there : c ≡ b → Some (q + 1) ≡ place_behind s p b
  unfolding place_behind stands
  behind_there e = rw (← there, eq-eqb (byte_at s q) b (sym read ∙ e))

-- ---- words

begins_same : (word s : List ℕ) → starts_with eqb s word ≡ begins word s
unfolding begins
begins_same [] s = refl
begins_same (x ∷ word) [] = refl
begins_same (x ∷ word) (y ∷ s) = ap (λ b. eqb x y && b) (begins_same word s)

-- What the library says of a slice that starts with a word.
pub begins_started : (word s : List ℕ) (r : Bool) → r ≡ starts_with eqb s word → r ≡ begins word s
begins_started word s r e = e ∙ begins_same word s

-- ---- comparisons

module _ (s : List ℕ) (p b long short : ℕ) (read : b ≡ byte_at s (p + 1)) where
  pub equals_long : b ≡ 61 → record { code = long; next = p + 1 + 1 } ≡ longer_told s p long short
  unfolding longer_told stands
  equals_long f = rw (eq-eqb (byte_at s (p + 1)) 61 (sym read ∙ f))

  pub equals_short : (b ≡ 61 → ⊥) → record { code = short; next = p + 1 } ≡ longer_told s p long short
  unfolding longer_told stands
  equals_short n = rw (ne_eqb (byte_at s (p + 1)) 61 (λ f. n (read ∙ f)))

longer_same : (s : List ℕ) (p : ℕ) (long short : Logic.Comparison)
    → longer_told s p (comparison_code long) (comparison_code short) ≡ token_told (with_equals s p long short)
unfolding longer_told with_equals token_told
longer_same s p long short = go (stands s (p + 1) 61)
  where
    go : (b : Bool)
        → pick b (λ _. record { code = comparison_code long; next = p + 1 + 1 }) (λ _. record { code = comparison_code short; next = p + 1 })
        ≡ token_told (pick b (λ _. record { said = long; next = p + 2 }) (λ _. record { said = short; next = p + 1 }))
    go true = let e : p + 1 + 1 ≡ p + 2 = omega arith in rw e
    go false = refl

module _ (s : List ℕ) (p b : ℕ) (read : b ≡ byte_at s p) where
  pub comparison_below : (r : Compared) → b ≡ 60 → r ≡ longer_told s p 7 8 → Some r ≡ comparison_told (comparison_token s p)
  unfolding comparison_token comparison_told stands comparison_code
  comparison_below r f t = rw (eq-eqb (byte_at s p) 60 (sym read ∙ f)) (ap Some (t ∙ longer_same s p no_more less))

  pub comparison_above : (r : Compared) → b ≡ 62 → r ≡ longer_told s p 9 10 → Some r ≡ comparison_told (comparison_token s p)
  unfolding comparison_token comparison_told stands comparison_code
  comparison_above r f t =
      let e : byte_at s p ≡ 62 = sym read ∙ f in rw (e) (ap Some (t ∙ longer_same s p no_less more))

  pub comparison_none : (b ≡ 60 → ⊥) → (b ≡ 62 → ⊥) → None ≡ comparison_told (comparison_token s p)
  unfolding comparison_token comparison_told stands
  comparison_none n m = rw (ne_eqb (byte_at s p) 60 (λ g. n (read ∙ g)), ne_eqb (byte_at s p) 62 (λ g. m (read ∙ g)))

-- ---- the table

-- The rows from i on are still to be looked at.
pub record ScanningBytes (b i : ℕ) : Type 0 where
  pub few : i ≤ 9
  pub same : connective (drop i connectives) b ≡ connective connectives b

row_found : (cs : List Connective) (i b : ℕ) (d : Row) → i < length cs → (get_or (map row_told cs) i d).letter ≡ b
    → Some (get_or (map row_told cs) i d) ≡ led_told (connective (drop i cs) b)
unfolding connective led_told row_told
row_found [] i b d lt e = absurd (omega arith)
row_found (c ∷ cs) zero b d lt e = rw (eq-eqb c.letter b e)
row_found (c ∷ cs) (suc i) b d lt e = row_found cs i b d (omega arith) e

row_passed : (cs : List Connective) (i b : ℕ) (d : Row) → i < length cs → ((get_or (map row_told cs) i d).letter ≡ b → ⊥)
    → connective (drop (suc i) cs) b ≡ connective (drop i cs) b
unfolding connective row_told
row_passed [] i b d lt n = absurd (omega arith)
row_passed (c ∷ cs) zero b d lt n = rw (ne_eqb c.letter b n)
row_passed (c ∷ cs) (suc i) b d lt n = row_passed cs i b d (omega arith) n

-- the table, as the code has it
abbrev pub rows : List Row
rows =
    record { letter = 84; parts = 0; bound = Kind.NoBound } ∷ record { letter = 70; parts = 0; bound = Kind.NoBound } ∷ record { letter = 112; parts = 0; bound = Kind.NoBound }
    ∷ record { letter = 38; parts = 2; bound = Kind.NoBound } ∷ record { letter = 124; parts = 2; bound = Kind.NoBound } ∷ record { letter = 78; parts = 1; bound = Kind.Compared }
    ∷ record { letter = 65; parts = 1; bound = Kind.Optional } ∷ record { letter = 69; parts = 1; bound = Kind.Optional } ∷ record { letter = 85; parts = 2; bound = Kind.Optional } ∷ []

rows_told : rows ≡ map row_told connectives
unfolding connectives row_told bound_kind
rows_told = refl

nine : length connectives ≡ 9
unfolding connectives
nine = refl

no_rows : (b : ℕ) → None ≡ led_told (connective (drop 9 connectives) b)
unfolding connectives connective led_told
no_rows b = refl

pub scanning_start : (b : ℕ) → ScanningBytes b 0
scanning_start b = record { few = omega arith; same = refl }

pub scanning_on : (b i : ℕ) (d : Row) → ScanningBytes b i → i < 9 → ((get_or rows i d).letter ≡ b → ⊥) → ScanningBytes b (i + 1)
scanning_on b i d h lt n =
    record {
      few = omega arith;
      same = rw (add-one i) (row_passed connectives i b d (omega (arith, nine)) (λ f. n (ap (λ (l : List Row). (get_or l i d).letter) rows_told ∙ f)) ∙ h.same);
    }

pub connective_found : (b i : ℕ) (d : Row) → ScanningBytes b i → i < 9 → (get_or rows i d).letter ≡ b → Some (get_or rows i d) ≡ led_told (connective connectives b)
connective_found b i d h lt e =
    let f : (get_or (map row_told connectives) i d).letter ≡ b = sym (ap (λ (l : List Row). (get_or l i d).letter) rows_told) ∙ e in
    ap (λ (l : List Row). Some (get_or l i d)) rows_told ∙ row_found connectives i b d (omega (arith, nine)) f ∙ ap led_told h.same

pub connective_none : (b i : ℕ) → ScanningBytes b i → 9 ≤ i → None ≡ led_told (connective connectives b)
connective_none b i h le =
    let e : i ≡ 9 = omega arith in no_rows b ∙ ap led_told (rw e at h.same)

-- ---- bounds

optional_told : (usual at : ℕ) (o : Option (Token ℕ)) (n : Number) → n ≡ unwrap_or (numeral_told o) (record { said = usual; next = at })
    → Some (record { code = 7; amount = n.said; next = n.next }) ≡ bound_told (number_or_usual usual at o)
unfolding numeral_told number_or_usual bounded bound_told comparison_code
optional_told usual at None n e = rw e
optional_told usual at (Some t) n e = rw e

-- The number of a bound, or what is left out.
pub optional_read : (usual : ℕ) (s : List ℕ) (at q : ℕ) (r : Option Number) (n : Number) → q ≡ skip s at → r ≡ numeral_told (numeral 3 s q)
    → n ≡ unwrap_or r (record { said = usual; next = at })
    → Some (record { code = 7; amount = n.said; next = n.next }) ≡ bound_told (bound_at usual optional s at)
unfolding bound_at number_token
optional_read usual s at q r n here read so =
    rw (← here) (optional_told usual at (numeral 3 s q) n (so ∙ ap (λ r. unwrap_or r (record { said = usual; next = at })) read))

abbrev bounded_of : Compared → Number → Bounded
bounded_of c n = record { code = c.code; amount = n.said; next = n.next }

comparison_missing : (o : Option (Token Logic.Comparison)) → None ≡ comparison_told o → o ≡ None
unfolding comparison_told
comparison_missing None e = refl
comparison_missing (Some t) e = cc

comparison_read : (o : Option (Token Logic.Comparison)) (c : Compared) → Some c ≡ comparison_told o
    → (t : Token Logic.Comparison) × (o ≡ Some t) × (c ≡ token_told t)
unfolding comparison_told
comparison_read None c e = cc
comparison_read (Some t) c e = (t, refl, (cc))

-- A bound by its kind.
pub bound_none : (usual : ℕ) (kind : BoundKind) (s : List ℕ) (at : ℕ) → kind ≡ Kind.NoBound → None ≡ bound_by usual kind s at
unfolding bound_by
bound_none usual kind s at e = rw e

pub bound_compared : (usual : ℕ) (kind : BoundKind) (s : List ℕ) (at : ℕ) (r : Option Bounded) → kind ≡ Kind.Compared
    → r ≡ bound_told (compared_with s (comparison_token s (skip s at))) → r ≡ bound_by usual kind s at
unfolding bound_by bound_at
bound_compared usual kind s at r e f = rw e f

pub bound_optional : (usual : ℕ) (kind : BoundKind) (s : List ℕ) (at : ℕ) (r : Bounded) → kind ≡ Kind.Optional
    → Some r ≡ bound_told (bound_at usual optional s at) → Some r ≡ bound_by usual kind s at
unfolding bound_by
bound_optional usual kind s at r e f = rw e f

module _ (s : List ℕ) (at q : ℕ) (here : q ≡ skip s at) where
  pub compared_missing : (r : Option Bounded) → r ≡ None → None ≡ comparison_told (comparison_token s q)
      → r ≡ bound_told (compared_with s (comparison_token s (skip s at)))
  unfolding compared_with bound_told
  compared_missing r e missing = rw (← here, comparison_missing (comparison_token s q) missing) e

  module _ (c : Compared) (read : Some c ≡ comparison_told (comparison_token s q)) (u : ℕ) (behind : u ≡ skip s c.next) where
    pub compared_short : (r : Option Bounded) → r ≡ None → None ≡ numeral_told (numeral 3 s u)
        → r ≡ bound_told (compared_with s (comparison_token s (skip s at)))
    unfolding compared_with bounded bound_told number_token token_told
    compared_short r e missing =
        let (t, one, same) = comparison_read (comparison_token s q) c read in
        let further : u ≡ skip s t.next = behind ∙ ap (λ c. skip s c.next) same in
        rw (← here, one, ← further, numeral_missing (numeral 3 s u) missing) e

    pub compared_read : (n : Number) → Some n ≡ numeral_told (numeral 3 s u)
        → Some (bounded_of c n) ≡ bound_told (compared_with s (comparison_token s (skip s at)))
    unfolding compared_with bounded bound_told number_token token_told
    compared_read n number =
        let (t, one, same) = comparison_read (comparison_token s q) c read in
        let further : u ≡ skip s t.next = behind ∙ ap (λ c. skip s c.next) same in
        rw (← here, one, ← further, numeral_read (numeral 3 s u) n number)
        (ap (λ (c : Compared). Some (bounded_of c n)) same)
