-- What is spelled is read back, and what is read was spelled: formulas and lines, for every text that the rules of `Spelling` make and for no other.
use Prim.Native.Nat.{ℕ, ◌+◌}
use native.Mathlib.Omega.{arith}
use mathlib.Core.Path.{◌≡◌, refl, sym, ◌∙◌}
use mathlib.Core.Bool.{false}
use mathlib.Core.List.{List, [], ◌∷◌, ◌++◌, append_assoc}
use lib.ListN.{length, drop}
use lib.Seq.{drop-append_seam}
use Rattle.base.specs.Lists.{joined}
use Rattle.base.specs.Text.{byte}
use Rattle.logic.specs.Book.{Formula, Form, Rule}
use Rattle.reading.specs.Tokens.{is_digit}
use Rattle.reading.specs.Grammar.{got, formula_at}
use Rattle.reading.specs.BookReading.{Line, no_line, line, line_at, over_number, over_mark}
use Rattle.reading.specs.Spelling.{or_units, Spells, SpellsLine, formula_text, formula_brackets}
use Rattle.reading.proofs.TextPlaces.{Pieces}
use Rattle.reading.proofs.FormulaBack.{formula_back}
use Rattle.reading.proofs.BookBack.{line_read}
use Rattle.reading.proofs.SpelledFormulas.{formula_spelled}
use Rattle.reading.proofs.SpelledLines as Lines
use Rattle.reading.proofs.Spelled.{formula_spells}

-- A formula spelled anywhere in a text, byte 10 behind it, is read as that formula, with its brackets and its end.
pub read_back : {usual : ℕ} {f : Formula} {b : ℕ} {text : List ℕ} → Spells usual or_units f b text → (s : List ℕ) (p : ℕ) (rest : List ℕ)
    → drop p s ≡ text ++ (byte "\n" ∷ rest) → formula_at usual s p ≡ got f b (p + length text)
unfolding joined is_digit
read_back {text = text} spells s p rest e =
    let here : Pieces s p (text ∷ [] ∷ (byte "\n" ∷ []) ∷ []) rest _ = record { text = e ∙ sym (append_assoc text (byte "\n" ∷ []) rest); ends = refl } in
    formula_back spells 0 10 here refl refl refl refl

-- A line spelled anywhere in a text is read as that line.
pub line_back : {usual : ℕ} {rule : Rule} {b : ℕ} {text : List ℕ} → SpellsLine usual rule b text → (s : List ℕ) (p : ℕ) (rest : List ℕ)
    → drop p s ≡ text ++ rest → line_at usual s p ≡ line rule.form rule.formula b (p + length text)
line_back spells s p rest e = line_read spells (record { text = e; ends = refl })

-- What is read as a formula was spelled by the rules, from p up to where the reading ends.
pub read_spelled : (usual : ℕ) (s : List ℕ) (p : ℕ) (f : Formula) (b e : ℕ) → formula_at usual s p ≡ got f b e
    → (text : List ℕ) × Spells usual or_units f b text × (drop p s ≡ text ++ drop e s) × (e ≡ p + length text)
read_spelled usual s p f b e h = let r = formula_spelled usual s p f b e h in (r.text, r.spells, r.passage.text, r.passage.ends)

-- What is read as a line was spelled by the rules.
pub line_spelled : (usual : ℕ) (s : List ℕ) (p : ℕ) (form : Form) (f : Formula) (b e : ℕ) → line_at usual s p ≡ line form f b e
    → (text : List ℕ) × SpellsLine usual (record { form = form; formula = f }) b text × (drop p s ≡ text ++ drop e s) × (e ≡ p + length text)
line_spelled usual s p form f b e h = let r = Lines.line_spelled usual s p form f b e h in (r.text, r.spells, r.passage.text, r.passage.ends)

-- 6 is for texts at whose position no line stands by the rules: no line is read there exactly if none is spelled.
pub no_line_exactly : (usual : ℕ) (s : List ℕ) (p : ℕ)
    → (line_at usual s p ≡ no_line → (rule : Rule) (b : ℕ) (text rest : List ℕ) → SpellsLine usual rule b text → drop p s ≡ text ++ rest → ⊥)
    × (((rule : Rule) (b : ℕ) (text rest : List ℕ) → SpellsLine usual rule b text → drop p s ≡ text ++ rest → ⊥) → line_at usual s p ≡ no_line)
no_line_exactly usual s p = (none_then, then_none (line_at usual s p) refl)
  where
    none_then : line_at usual s p ≡ no_line → (rule : Rule) (b : ℕ) (text rest : List ℕ) → SpellsLine usual rule b text → drop p s ≡ text ++ rest → ⊥
    none_then e rule b text rest spells at =
        let f : line rule.form rule.formula b (p + length text) ≡ no_line = sym (line_back spells s p rest at) ∙ e in
        let z : ◌≡◌ {A = ℕ} 0 1 = cc in omega arith

    then_none : (l : Line) → line_at usual s p ≡ l → ((rule : Rule) (b : ℕ) (text rest : List ℕ) → SpellsLine usual rule b text → drop p s ≡ text ++ rest → ⊥)
        → line_at usual s p ≡ no_line
    then_none no_line e h = e
    then_none (line form f b q) e h = let (text, spells, at, end) = line_spelled usual s p form f b q e in absurd (h _ b text (drop q s) spells at)

-- Every formula with numbers to 254 and marks below 100 is read back as it is written down, whatever stands before it and behind its line.
pub formula_text_back : (usual : ℕ) (f : Formula) → over_number f ≡ false → over_mark 100 f ≡ false → (before rest : List ℕ)
    → formula_at usual (before ++ (formula_text f ++ (byte "\n" ∷ rest))) (length before) ≡ got f (formula_brackets f) (length before + length (formula_text f))
formula_text_back usual f numbers propositions before rest =
    read_back (formula_spells {marks = 100} (omega arith) f numbers propositions) _ (length before) rest (drop-append_seam before (formula_text f ++ (byte "\n" ∷ rest)))

-- A text spells one formula at most.
pub spells_one : {usual : ℕ} {f g : Formula} {b c : ℕ} {text : List ℕ} → Spells usual or_units f b text → Spells usual or_units g c text → f ≡ g
spells_one {f = f} {g} {b} {c} {text} one two =
    same (sym (read_back one (text ++ (byte "\n" ∷ [])) 0 [] refl) ∙ read_back two (text ++ (byte "\n" ∷ [])) 0 [] refl)
  where
    same : {q : ℕ} → got f b q ≡ got g c q → f ≡ g
    same e = cc
