-- Formulas that are read were spelled: whatever a reader gives at a position, the bytes from there on spell it by the rules.
use Prim.Native.Nat.{ℕ, zero, suc, ◌+◌, ◌≤◌, ◌<◌, max}
use native.Mathlib.Omega.{arith}
use mathlib.Core.Path.{◌≡◌, refl, sym, subst}
use mathlib.Core.Bool.{true, false}
use Rattle.std.specs.Prelude.{Option, None, Some}
use mathlib.Core.List.{List, [], ◌∷◌}
use lib.ListN.{length}
use lib.Dec.{eqb}
use borrow.Author.Tests.{eqb-true}
use Rattle.base.specs.Lists.{joined}
use Rattle.base.specs.Text.{ascii}
use Rattle.base.specs.Bytes.{byte_at}
use Rattle.base.specs.Recursion.{run}
use Rattle.base.specs.Recursion as Deep
use Rattle.logic.specs.Time.{ticks}
use Rattle.logic.specs.Book.{Formula, and, or, next, always_for, until, within}
use Rattle.reading.specs.Tokens.{stands, skip, mark_token}
use Rattle.reading.specs.Grammar.{no_bound, compared, optional, Connective, connective, connectives, bound_at, formula_one, formula_two}
use Rattle.reading.specs.Grammar.{Parsed, bad, got, onward, behind, Level, or_level, and_level, unit_level, or_rest, and_rest, Reader, joining, bracketed, two_parts, with_bound, led, marked_unit, unit_at, read_level, read_step, calls_left, formula_at}
use Rattle.reading.specs.Spelling.{spaces, negation, Shape, one_unit, and_units, or_units, Spells, spells_true, spells_false, spells_mark, spells_next, spells_always, spells_within, spells_until, spells_bracketed, spells_unit, spells_and, spells_ands, spells_or}
use Rattle.reading.proofs.FormulaBack.{spelled_some}
use Rattle.reading.proofs.SpelledTokens.{pick_by, Passage, Passages, passage_inside, passages_end, passage_before, passages_joined, passage_empty, byte_passage, stands_passage, gap, spaces_passage, mark_by, compared_by, optional_by}

-- From p up to e the text s spells the formula in this shape.
pub record SpelledAt (usual : ℕ) (shape : Shape) (s : List ℕ) (p : ℕ) (f : Formula) (b e : ℕ) : Type 0 where
  pub text : List ℕ
  pub spells : Spells usual shape f b text
  pub passage : Passage s p text e

-- It ends behind its beginning and inside the text.
pub spelled_ends : {usual : ℕ} {shape : Shape} {s : List ℕ} {p : ℕ} {f : Formula} {b e : ℕ} → SpelledAt usual shape s p f b e → (p < e) × (e ≤ length s)
spelled_ends h = passage_inside h.passage (spelled_some h.spells)

-- What a reader gives was spelled; what is joined to a formula makes a longer spelling of the one before it.
unfoldable pub Found : ℕ → List ℕ → Level → ℕ → Formula → ℕ → ℕ → Type 0
Found usual s or_level p f b e = SpelledAt usual or_units s p f b e
Found usual s and_level p f b e = SpelledAt usual and_units s p f b e
Found usual s unit_level p f b e = SpelledAt usual one_unit s p f b e
Found usual s (or_rest g c) p f b e = (o : ℕ) → SpelledAt usual or_units s o g c p → SpelledAt usual or_units s o f b e
Found usual s (and_rest g c) p f b e = (o : ℕ) → SpelledAt usual and_units s o g c p → SpelledAt usual and_units s o f b e

unfoldable pub Sound : ℕ → List ℕ → Level → ℕ → Parsed → Type 0
Sound usual s level p bad = Unit {0}
Sound usual s level p (got f b e) = Found usual s level p f b e

-- ---- ways through the readers

-- What holds of `bad`, and of whatever goes on, holds of `onward`.
pub onward_by : (Q : Parsed → Type 0) (o : Parsed) (go : Formula → ℕ → ℕ → Parsed) → Q bad
    → ((f : Formula) (b q : ℕ) → o ≡ got f b q → Q (go f b q)) → Q (onward o go)
unfolding onward
onward_by Q bad go h k = h
onward_by Q (got f b q) go h k = k f b q refl

pub behind_by : (Q : Parsed → Type 0) (s : List ℕ) (p b : ℕ) (go : ℕ → Parsed) → Q bad → (stands s (skip s p) b ≡ true → Q (go (skip s p + 1)))
    → Q (behind s p b go)
unfolding behind
behind_by Q s p b go h k = pick_by Q (stands s (skip s p) b) (λ _. go (skip s p + 1)) (λ _. bad) k (λ e. h)

-- spaces and a byte behind them
spaced_byte : {s : List ℕ} (p c : ℕ) {ts : List (List ℕ)} {e : ℕ} → 1 ≤ c → stands s (skip s p) c ≡ true → Passages s (skip s p + 1) ts e
    → Passages s p (spaces (gap s p) ∷ (c ∷ []) ∷ ts) e
spaced_byte {s} p c one st rest = passage_before (spaces_passage s p) (passage_before (stands_passage s (skip s p) c one st) rest)

-- spaces and what was spelled behind them
spaced_text : {usual : ℕ} {shape : Shape} {s : List ℕ} (p : ℕ) {f : Formula} {b q : ℕ} (h : SpelledAt usual shape s (skip s p) f b q) {ts : List (List ℕ)} {e : ℕ}
    → Passages s q ts e → Passages s p (spaces (gap s p) ∷ h.text ∷ ts) e
spaced_text {s = s} p h rest = passage_before (spaces_passage s p) (passage_before h.passage rest)

module _ (usual : ℕ) (s : List ℕ) (read : Reader) (sound : (level : Level) (p : ℕ) → Sound usual s level p (read level p)) where
  pub found : (level : Level) (p : ℕ) (f : Formula) (b q : ℕ) → read level p ≡ got f b q → Found usual s level p f b q
  unfolding Sound
  found level p f b q e = rw e at (sound level p)

  bracketed_sound : (p : ℕ) → byte_at s p ≡ 40 → Sound usual s unit_level p (bracketed s p read)
  unfolding bracketed Sound Found ascii
  bracketed_sound p at =
      onward_by (Sound usual s unit_level p) (read or_level (skip s (p + 1))) _ tt (λ f b q e.
      behind_by (Sound usual s unit_level p) s q 41 _ tt (λ st.
      let h = found or_level (skip s (p + 1)) f b q e in
      record {
        text = _;
        spells = spells_bracketed (gap s (p + 1)) (gap s q) h.spells;
        passage = passages_joined (passage_before (byte_passage s p 40 (omega arith) at) (spaced_text (p + 1) h (spaced_byte q 41 (omega arith) st (passages_end (skip s q + 1)))));
      }))

  -- the two parts of U, behind a bound that ends at k
  two_sound : (p k : ℕ) (make : Formula → Formula → Formula)
      → ((f g : Formula) (b c e i j l m n : ℕ) (first second : List ℕ) → Spells usual or_units f b first → Spells usual or_units g c second
      → Passages s k (spaces i ∷ ascii "(" ∷ spaces j ∷ first ∷ spaces l ∷ ascii "," ∷ spaces m ∷ second ∷ spaces n ∷ ascii ")" ∷ []) e
      → SpelledAt usual one_unit s p (make f g) (suc (max b c)) e)
      → Sound usual s unit_level p (two_parts s k read make)
  unfolding two_parts Sound Found ascii
  two_sound p k make made =
      behind_by (Sound usual s unit_level p) s k 40 _ tt (λ one.
      onward_by (Sound usual s unit_level p) (read or_level (skip s (skip s k + 1))) _ tt (λ f b r e.
      behind_by (Sound usual s unit_level p) s r 44 _ tt (λ two.
      onward_by (Sound usual s unit_level p) (read or_level (skip s (skip s r + 1))) _ tt (λ g c v e'.
      behind_by (Sound usual s unit_level p) s v 41 _ tt (λ three.
      let h = found or_level (skip s (skip s k + 1)) f b r e in
      let h' = found or_level (skip s (skip s r + 1)) g c v e' in
      made f g b c (skip s v + 1) (gap s k) (gap s (skip s k + 1)) (gap s r) (gap s (skip s r + 1)) (gap s v) h.text h'.text h.spells h'.spells
      (spaced_byte k 40 (omega arith) one (spaced_text (skip s k + 1) h (spaced_byte r 44 (omega arith) two
      (spaced_text (skip s r + 1) h' (spaced_byte v 41 (omega arith) three (passages_end (skip s v + 1))))))))))))

  marked_sound : (p : ℕ) → Sound usual s unit_level p (marked_unit (mark_token s p))
  unfolding mark_token marked_unit Sound Found joined negation ascii
  marked_sound p =
      pick_by (λ o. Sound usual s unit_level p (marked_unit o)) (stands s p 33) _ _
      (λ st. mark_by (λ o. Sound usual s unit_level p (marked_unit o)) false s (p + 1) tt (λ count k e number d few r.
      record { text = _; spells = spells_mark false d few; passage = passages_joined (passage_before (stands_passage s p 33 (omega arith) st) r) }))
      (λ _. mark_by (λ o. Sound usual s unit_level p (marked_unit o)) true s p tt (λ count k e number d few r.
      record { text = _; spells = spells_mark true d few; passage = passages_joined (passage_before (passage_empty p) r) }))

  -- `T`, `F`, or what the row of the table says
  row_sound : (p : ℕ) (c : Connective) → Sound usual s unit_level p (with_bound s c (bound_at usual c.bound s (p + 1)) read) → Sound usual s unit_level p (led usual s p (Some c) read)
  unfolding led Sound Found ascii
  row_sound p c h =
      pick_by (Sound usual s unit_level p) (stands s p 84) _ _ (λ st. record { text = _; spells = spells_true; passage = stands_passage s p 84 (omega arith) st }) (λ _.
      pick_by (Sound usual s unit_level p) (stands s p 70) _ _ (λ st. record { text = _; spells = spells_false; passage = stands_passage s p 70 (omega arith) st }) (λ _. h))

  -- the part behind a bound that ends at k
  part_sound : (p k : ℕ) (make : Formula → Formula)
      → ((g : Formula) (b e i : ℕ) (part : List ℕ) → Spells usual one_unit g b part → Passages s k (spaces i ∷ part ∷ []) e → SpelledAt usual one_unit s p (make g) b e)
      → Sound usual s unit_level p (onward (read unit_level (skip s k)) (λ g b q. got (make g) b q))
  unfolding Sound Found
  part_sound p k make made =
      onward_by (Sound usual s unit_level p) (read unit_level (skip s k)) _ tt (λ g b q e.
      let h = found unit_level (skip s k) g b q e in
      made g b q (gap s k) h.text h.spells (spaced_text k h (passages_end q)))

  next_sound : (p : ℕ) → 78 ≡ byte_at s p
      → Sound usual s unit_level p (with_bound s (record { letter = 78; parts = 1; bound = compared }) (bound_at usual compared s (p + 1)) read)
  unfolding with_bound formula_one Sound ascii
  next_sound p at =
      compared_by (λ o. Sound usual s unit_level p (with_bound s (record { letter = 78; parts = 1; bound = compared }) o read)) usual s (p + 1) tt
      (λ i c j count t e number d before.
      part_sound p e (next c (ticks t)) (λ g b q k part h r.
      record { text = _; spells = spells_next i c j k d h; passage = passages_joined (passage_before (byte_passage s p 78 (omega arith) (sym at)) (before _ _ r)) }))

  always_sound : (p : ℕ) → 65 ≡ byte_at s p
      → Sound usual s unit_level p (with_bound s (record { letter = 65; parts = 1; bound = optional }) (bound_at usual optional s (p + 1)) read)
  unfolding with_bound formula_one Sound ascii
  always_sound p at =
      optional_by (λ o. Sound usual s unit_level p (with_bound s (record { letter = 65; parts = 1; bound = optional }) o read)) usual s (p + 1)
      (λ t e bound d before.
      part_sound p e (always_for (ticks t)) (λ g b q k part h r.
      record { text = _; spells = spells_always k d h; passage = passages_joined (passage_before (byte_passage s p 65 (omega arith) (sym at)) (passage_before before r)) }))

  within_sound : (p : ℕ) → 69 ≡ byte_at s p
      → Sound usual s unit_level p (with_bound s (record { letter = 69; parts = 1; bound = optional }) (bound_at usual optional s (p + 1)) read)
  unfolding with_bound formula_one Sound ascii
  within_sound p at =
      optional_by (λ o. Sound usual s unit_level p (with_bound s (record { letter = 69; parts = 1; bound = optional }) o read)) usual s (p + 1)
      (λ t e bound d before.
      part_sound p e (within (ticks t)) (λ g b q k part h r.
      record { text = _; spells = spells_within k d h; passage = passages_joined (passage_before (byte_passage s p 69 (omega arith) (sym at)) (passage_before before r)) }))

  until_sound : (p : ℕ) → 85 ≡ byte_at s p
      → Sound usual s unit_level p (with_bound s (record { letter = 85; parts = 2; bound = optional }) (bound_at usual optional s (p + 1)) read)
  unfolding with_bound formula_two Sound ascii
  until_sound p at =
      optional_by (λ o. Sound usual s unit_level p (with_bound s (record { letter = 85; parts = 2; bound = optional }) o read)) usual s (p + 1)
      (λ t e bound d before.
      two_sound p e (until (ticks t)) (λ f g b c q i j l m n first second h k r.
      record { text = _; spells = spells_until i j l m n d h k; passage = passages_joined (passage_before (byte_passage s p 85 (omega arith) (sym at)) (passage_before before r)) }))

  -- a row with no bound leads nothing, nor does a byte that is no letter
  no_row : (p : ℕ) (c : Connective) → Sound usual s unit_level p (with_bound s c (bound_at usual no_bound s (p + 1)) read)
  unfolding with_bound bound_at Sound
  no_row p c = tt

  not_led : (p : ℕ) → Sound usual s unit_level p (led usual s p None read)
  unfolding led Sound
  not_led p = tt

  -- whatever the letter
  led_sound : (p : ℕ) → Sound usual s unit_level p (led usual s p (connective connectives (byte_at s p)) read)
  unfolding connectives connective
  led_sound p =
      let Q : Option Connective → Type 0 = λ o. Sound usual s unit_level p (led usual s p o read) in
      pick_by Q (eqb 84 (byte_at s p)) _ _ (λ _. row_sound p _ (no_row p _)) (λ _.
      pick_by Q (eqb 70 (byte_at s p)) _ _ (λ _. row_sound p _ (no_row p _)) (λ _.
      pick_by Q (eqb 112 (byte_at s p)) _ _ (λ _. row_sound p _ (no_row p _)) (λ _.
      pick_by Q (eqb 38 (byte_at s p)) _ _ (λ _. row_sound p _ (no_row p _)) (λ _.
      pick_by Q (eqb 124 (byte_at s p)) _ _ (λ _. row_sound p _ (no_row p _)) (λ _.
      pick_by Q (eqb 78 (byte_at s p)) _ _ (λ e. row_sound p _ (next_sound p (eqb-true 78 (byte_at s p) e))) (λ _.
      pick_by Q (eqb 65 (byte_at s p)) _ _ (λ e. row_sound p _ (always_sound p (eqb-true 65 (byte_at s p) e))) (λ _.
      pick_by Q (eqb 69 (byte_at s p)) _ _ (λ e. row_sound p _ (within_sound p (eqb-true 69 (byte_at s p) e))) (λ _.
      pick_by Q (eqb 85 (byte_at s p)) _ _ (λ e. row_sound p _ (until_sound p (eqb-true 85 (byte_at s p) e))) (λ _. not_led p)))))))))

  unit_sound : (p : ℕ) → Sound usual s unit_level p (unit_at usual s p read)
  unfolding unit_at stands
  unit_sound p =
      let Q : Parsed → Type 0 = Sound usual s unit_level p in
      pick_by Q (eqb (byte_at s p) 40) _ _ (λ e. bracketed_sound p (eqb-true (byte_at s p) 40 e)) (λ _.
      pick_by Q (eqb (byte_at s p) 33) _ _ (λ _. marked_sound p) (λ _.
      pick_by Q (eqb (byte_at s p) 112) _ _ (λ _. marked_sound p) (λ _. led_sound p)))

  -- what goes on behind a spelling, taken from its beginning
  or_from : (p q : ℕ) (f : Formula) (b : ℕ) → SpelledAt usual or_units s p f b q → (o : Parsed) → Sound usual s (or_rest f b) q o → Sound usual s or_level p o
  unfolding Sound Found
  or_from p q f b h bad k = tt
  or_from p q f b h (got g c e) k = k p h

  and_from : (p q : ℕ) (f : Formula) (b : ℕ) → SpelledAt usual and_units s p f b q → (o : Parsed) → Sound usual s (and_rest f b) q o → Sound usual s and_level p o
  unfolding Sound Found
  and_from p q f b h bad k = tt
  and_from p q f b h (got g c e) k = k p h

  or_through : (p q : ℕ) (f h : Formula) (b d : ℕ) → ((o : ℕ) → SpelledAt usual or_units s o f b p → SpelledAt usual or_units s o h d q)
      → (r : Parsed) → Sound usual s (or_rest h d) q r → Sound usual s (or_rest f b) p r
  unfolding Sound Found
  or_through p q f h b d on bad k = tt
  or_through p q f h b d on (got g c e) k = λ o before. k o (on o before)

  and_through : (p q : ℕ) (f h : Formula) (b d : ℕ) → ((o : ℕ) → SpelledAt usual and_units s o f b p → SpelledAt usual and_units s o h d q)
      → (r : Parsed) → Sound usual s (and_rest h d) q r → Sound usual s (and_rest f b) p r
  unfolding Sound Found
  and_through p q f h b d on bad k = tt
  and_through p q f h b d on (got g c e) k = λ o before. k o (on o before)

  or_rest_sound : (f : Formula) (b p : ℕ) → Sound usual s (or_rest f b) p (joining s 124 f b p or (read and_level) (λ g c q. read (or_rest g c) q))
  unfolding joining Sound Found ascii
  or_rest_sound f b p =
      pick_by (Sound usual s (or_rest f b) p) (stands s (skip s p) 124) _ _ (λ st.
      onward_by (Sound usual s (or_rest f b) p) (read and_level (skip s (skip s p + 1))) _ tt (λ g c q e.
      let h = found and_level (skip s (skip s p + 1)) g c q e in
      or_through p q f (or f g) b (max b c)
      (λ o before.
      record {
        text = _;
        spells = spells_or (gap s p) (gap s (skip s p + 1)) before.spells h.spells;
        passage = passages_joined (passage_before before.passage (spaced_byte p 124 (omega arith) st (spaced_text (skip s p + 1) h (passages_end q))));
      }) (read (or_rest (or f g) (max b c)) q) (sound (or_rest (or f g) (max b c)) q))) (λ _ o before. before)

  and_rest_sound : (f : Formula) (b p : ℕ) → Sound usual s (and_rest f b) p (joining s 38 f b p and (read unit_level) (λ g c q. read (and_rest g c) q))
  unfolding joining Sound Found ascii
  and_rest_sound f b p =
      pick_by (Sound usual s (and_rest f b) p) (stands s (skip s p) 38) _ _ (λ st.
      onward_by (Sound usual s (and_rest f b) p) (read unit_level (skip s (skip s p + 1))) _ tt (λ g c q e.
      let h = found unit_level (skip s (skip s p + 1)) g c q e in
      and_through p q f (and f g) b (max b c)
      (λ o before.
      record {
        text = _;
        spells = spells_and (gap s p) (gap s (skip s p + 1)) before.spells h.spells;
        passage = passages_joined (passage_before before.passage (spaced_byte p 38 (omega arith) st (spaced_text (skip s p + 1) h (passages_end q))));
      }) (read (and_rest (and f g) (max b c)) q) (sound (and_rest (and f g) (max b c)) q))) (λ _ o before. before)

  -- one call of any reader
  pub level_sound : (level : Level) (p : ℕ) → Sound usual s level p (read_level usual s level p read)
  unfolding read_level Sound Found
  level_sound or_level p =
      onward_by (Sound usual s or_level p) (read and_level p) _ tt (λ f b q e.
      let h = found and_level p f b q e in
      or_from p q f b (record { text = h.text; spells = spells_ands h.spells; passage = h.passage }) (read (or_rest f b) q) (sound (or_rest f b) q))
  level_sound and_level p =
      onward_by (Sound usual s and_level p) (read unit_level p) _ tt (λ f b q e.
      let h = found unit_level p f b q e in
      and_from p q f b (record { text = h.text; spells = spells_unit h.spells; passage = h.passage }) (read (and_rest f b) q) (sound (and_rest f b) q))
  level_sound unit_level p = unit_sound p
  level_sound (or_rest f b) p = or_rest_sound f b p
  level_sound (and_rest f b) p = and_rest_sound f b p

-- however deep the readers may go
deep_sound : (usual : ℕ) (s : List ℕ) (n : ℕ) (level : Level) (p : ℕ)
    → Sound usual s level p (Deep.to_depth (calls_left s) (λ _. bad) (read_step usual s) n (record { level = level; place = p }))
unfolding Deep.to_depth read_step Sound
deep_sound usual s zero level p = tt
deep_sound usual s (suc n) level p =
    level_sound usual s (λ l q. Deep.to_depth (calls_left s) (λ _. bad) (read_step usual s) n (record { level = l; place = q })) (deep_sound usual s n) level p

-- A formula that is read was spelled.
pub formula_spelled : (usual : ℕ) (s : List ℕ) (p : ℕ) (f : Formula) (b e : ℕ) → formula_at usual s p ≡ got f b e → SpelledAt usual or_units s p f b e
unfolding formula_at run Sound Found
formula_spelled usual s p f b e h = subst (Sound usual s or_level p) h (deep_sound usual s (suc (calls_left s (record { level = or_level; place = p }))) or_level p)

-- It ends behind its beginning and inside the text.
pub formula_ends : (usual : ℕ) (s : List ℕ) (p : ℕ) (f : Formula) (b e : ℕ) → formula_at usual s p ≡ got f b e → (p < e) × (e ≤ length s)
formula_ends usual s p f b e h = spelled_ends (formula_spelled usual s p f b e h)
