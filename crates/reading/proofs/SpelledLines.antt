-- Lines that are read were spelled.
use Prim.Native.Nat.{ℕ, suc, ◌+◌, ◌≤◌, ◌<◌}
use native.Mathlib.Omega.{arith}
use mathlib.Core.Path.{◌≡◌, refl, sym, ◌∙◌, ap, subst}
use mathlib.Core.List.{List, [], ◌∷◌, ◌++◌}
use lib.ListN.{length, drop}
use lib.Dec.{eqb}
use Rattle.base.specs.Lists.{leading, begins}
use Rattle.base.specs.Text.{ascii}
use Rattle.base.proofs.Lists.{begins_out}
use Rattle.logic.specs.Book.{Formula, Form, at_start, everywhere, Rule}
use Rattle.reading.specs.Tokens.{stands, skip}
use Rattle.reading.specs.Grammar.{Parsed, bad, got, formula_at}
use Rattle.reading.specs.BookReading as Reading
use Rattle.reading.specs.BookReading.{ended, worded, line_at}
use Rattle.reading.specs.Spelling.{spaces, word, SpellsLine, spells_line}
use Rattle.reading.proofs.TextPlaces.{Span, span_left, span_right}
use Rattle.reading.proofs.SpelledTokens.{pick_by, Passage, passage_inside, passages_end, passage_before, passages_joined, stands_passage, gap, spaces_passage}
use Rattle.reading.proofs.SpelledFormulas.{formula_spelled}
use Rattle.reading.proofs.BookBack.{line_some}

-- From p up to e the text s is a line of the rule.
pub record LineSpelledAt (usual : ℕ) (s : List ℕ) (p : ℕ) (rule : Rule) (b e : ℕ) : Type 0 where
  pub text : List ℕ
  pub spells : SpellsLine usual rule b text
  pub passage : Passage s p text e

-- What is read as a line was spelled.
unfoldable LineSound : ℕ → List ℕ → ℕ → Reading.Line → Type 0
LineSound usual s p Reading.no_line = Unit {0}
LineSound usual s p (Reading.line form f b e) = LineSpelledAt usual s p (record { form = form; formula = f }) b e

-- spaces at q, the first of them given
some_gap : (s : List ℕ) (q : ℕ) (rest : List ℕ) → drop q s ≡ 32 ∷ rest → (i : ℕ) × (gap s q ≡ suc i)
unfolding gap leading
some_gap s q rest e = (leading (eqb 32) rest, ap (leading (eqb 32)) e)

module _ (usual : ℕ) (s : List ℕ) (p : ℕ) where
  -- the formula and the end of a line, behind its word and i + 1 spaces
  ended_sound : (form : Form) (q i : ℕ) → Passage s p (word form) q → gap s q ≡ suc i → (o : Parsed) → formula_at usual s (skip s q) ≡ o → LineSound usual s p (ended s form o)
  unfolding ended LineSound ascii
  ended_sound form q i r g bad e = tt
  ended_sound form q i r g (got f b z) e =
      pick_by (LineSound usual s p) (stands s z 10) _ _ (λ st.
      let h = formula_spelled usual s (skip s q) f b z e in
      record {
        text = _;
        spells = spells_line form i h.spells;
        passage = passages_joined (passage_before r (passage_before (subst (λ (n : ℕ). Passage s q (spaces n) (skip s q)) g (spaces_passage s q))
            (passage_before h.passage (passage_before (stands_passage s z 10 (omega arith) st) (passages_end (z + 1))))));
      }) (λ _. tt)

  -- a line of one word
  worded_sound : (form : Form) (other : Reading.Line) → LineSound usual s p other → LineSound usual s p (worded usual s p (word form) form other)
  unfolding worded ascii
  worded_sound form other h =
      pick_by (LineSound usual s p) (begins (word form ++ (32 ∷ [])) (drop p s)) _ _ (λ e.
      let q = p + length (word form) in
      let rest = drop (length (word form ++ (32 ∷ []))) (drop p s) in
      let whole : Span s p (word form ++ (32 ∷ [])) rest (p + length (word form ++ (32 ∷ []))) =
      record { text = begins_out (word form ++ (32 ∷ [])) (drop p s) e; ends = refl } in
      let behind_word = (span_right (word form) (32 ∷ []) whole).text in
      let (i, g) = some_gap s q rest behind_word in
      let here : Passage s p (word form) q =
      record { text = (span_left (word form) (32 ∷ []) whole).text ∙ ap (λ l. word form ++ l) (sym behind_word); ends = refl } in
      ended_sound form q i here g (formula_at usual s (skip s q)) refl) (λ _. h)

  line_sound : LineSound usual s p (line_at usual s p)
  unfolding line_at word LineSound
  line_sound = worded_sound everywhere _ (worded_sound at_start Reading.no_line tt)

-- A line that is read was spelled.
pub line_spelled : (usual : ℕ) (s : List ℕ) (p : ℕ) (form : Form) (f : Formula) (b e : ℕ) → line_at usual s p ≡ Reading.line form f b e
    → LineSpelledAt usual s p (record { form = form; formula = f }) b e
unfolding LineSound
line_spelled usual s p form f b e h = subst (LineSound usual s p) h (line_sound usual s p)

-- It ends behind its beginning and inside the text.
pub line_ends : (usual : ℕ) (s : List ℕ) (p : ℕ) (form : Form) (f : Formula) (b e : ℕ) → line_at usual s p ≡ Reading.line form f b e
    → (p < e) × (e ≤ length s)
line_ends usual s p form f b e h = let r = line_spelled usual s p form f b e h in passage_inside r.passage (line_some r.spells)
