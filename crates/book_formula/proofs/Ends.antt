-- Where formulas end, and the unfolding of the grammar: one call of a reader is one step.
use Prim.Native.Nat.{ℕ, zero, suc, ◌+◌, ◌-◌, ◌*◌, ◌≤◌, ◌<◌}
use native.Mathlib.Omega.{arith}
use mathlib.Core.Path.{◌≡◌, refl, ◌∙◌, ap}
use mathlib.Core.Bool.{Bool, true, false}
use Rattle.std.specs.Prelude.{Option, None, Some}
use mathlib.Core.List.{List, []}
use lib.ListN.{length}
use lib.Dec.{eqb}
use borrow.Author.Tests.{eqb-true}
use Rattle.base.specs.Choice.{pick}
use Rattle.base.specs.Bytes.{byte_at}
use Rattle.base.proofs.Recursion.{Falls, run_known, run_eq}
use Rattle.logic.specs.Book.{Formula, and, or}
use Rattle.reading.specs.Tokens.{stands, skip}
use Rattle.reading.specs.Grammar.{Bound, no_bound, compared, optional, Connective, connective, connectives, BoundRead, bound_at, Parsed, bad, got, onward, behind, Level, or_level, and_level, unit_level, or_rest, and_rest, Reader, joining, bracketed, two_parts, with_bound, led, unit_at, read_level, read_step, rank, calls_left, formula_two}
use Rattle.reading.proofs.SpelledTokens.{passages_end, compared_by, optional_by}
use Rattle.reading.proofs.SpelledFormulas.{spelled_ends, Found, Sound, found, level_sound}
use Rattle.reading.proofs.FormulaBack.{rank_few}
use Rattle.text_numerals.proofs.Laws.{byte_inside}
use Rattle.book_tokens.proofs.Laws.{skip_ahead}
use Rattle.book_formula.specs.Parse.{parse}

-- ---- ends

-- A byte other than 0 stands before the end.
pub stands_inside : (s : List ℕ) (p b : ℕ) → 1 ≤ b → stands s p b ≡ true → p < length s
unfolding stands
stands_inside s p b h e = byte_inside s p (omega (arith, eqb-true (byte_at s p) b e))

some_same : {A : Type 0} {x y : A} → Some x ≡ Some y → x ≡ y
some_same e = cc

no_bound_none {ℓ} : {C : Type ℓ} (usual : ℕ) (s : List ℕ) (p : ℕ) (b : BoundRead) → bound_at usual no_bound s p ≡ Some b → C
unfolding bound_at
no_bound_none usual s p b e = let z : ◌≡◌ {A = ℕ} 0 1 = cc in absurd (omega arith)

-- The bound behind a letter that ends at p ends further on.
pub bound_end : (usual : ℕ) (kind : Bound) (s : List ℕ) (p : ℕ) (b : BoundRead) → bound_at usual kind s p ≡ Some b → p ≤ b.next
bound_end usual no_bound s p b = no_bound_none usual s p b
bound_end usual compared s p b =
    compared_by (λ (o : Option BoundRead). o ≡ Some b → p ≤ b.next) usual s p (λ e. let z : ◌≡◌ {A = ℕ} 0 1 = cc in absurd (omega arith))
    (λ i c j count t q number d before e. omega (arith, ap (λ (x : BoundRead). x.next) (some_same e), (before [] q (passages_end q)).ends))
bound_end usual optional s p b =
    optional_by (λ (o : Option BoundRead). o ≡ Some b → p ≤ b.next) usual s p (λ t q bound d passage e. omega (arith, ap (λ (x : BoundRead). x.next) (some_same e), passage.ends))

-- Only a byte other than 0 is the letter of a connective.
pub lettered : (b : ℕ) (c : Connective) → connective connectives b ≡ Some c → 1 ≤ b
unfolding connectives connective
lettered zero c e = let z : ◌≡◌ {A = ℕ} 0 1 = cc in absurd (omega arith)
lettered (suc b) c e = omega arith

module _ (usual : ℕ) (s : List ℕ) (read : Reader) (sound : (level : Level) (p : ℕ) → Sound usual s level p (read level p)) (p : ℕ) (f : Formula) (b q : ℕ) where
  or_read : read or_level p ≡ got f b q → (p < q) × (q ≤ length s)
  unfolding Found
  or_read e = spelled_ends (found usual s read sound or_level p f b q e)

  and_read : read and_level p ≡ got f b q → (p < q) × (q ≤ length s)
  unfolding Found
  and_read e = spelled_ends (found usual s read sound and_level p f b q e)

  unit_read : read unit_level p ≡ got f b q → (p < q) × (q ≤ length s)
  unfolding Found
  unit_read e = spelled_ends (found usual s read sound unit_level p f b q e)

-- ---- readings that agree further on

pick_same : {X : Type 0} (b : Bool) (x y u v : Unit {0} → X) → (b ≡ true → x tt ≡ u tt) → (b ≡ false → y tt ≡ v tt) → pick b x y ≡ pick b u v
pick_same true x y u v h k = h refl
pick_same false x y u v h k = k refl

onward_flip : (o : Parsed) (go to : Formula → ℕ → ℕ → Parsed) → ((f : Formula) (b q : ℕ) → o ≡ got f b q → go f b q ≡ to f b q)
    → onward o go ≡ onward o to
unfolding onward
onward_flip bad go to h = refl
onward_flip (got f b q) go to h = h f b q refl

onward_same : (o n : Parsed) (go to : Formula → ℕ → ℕ → Parsed) → o ≡ n → ((f : Formula) (b q : ℕ) → o ≡ got f b q → go f b q ≡ to f b q)
    → onward o go ≡ onward n to
onward_same o n go to e h = onward_flip o go to h ∙ ap (λ (x : Parsed). onward x to) e

behind_same : (s : List ℕ) (p b : ℕ) (go to : ℕ → Parsed) → (stands s (skip s p) b ≡ true → go (skip s p + 1) ≡ to (skip s p + 1))
    → behind s p b go ≡ behind s p b to
unfolding behind
behind_same s p b go to h = pick_same (stands s (skip s p) b) _ _ _ _ h (λ _. refl)

module _ (usual : ℕ) (s : List ℕ) (read other : Reader) (sound : (level : Level) (p : ℕ) → Sound usual s level p (read level p)) (p : ℕ)
    (agree : (level : Level) (q : ℕ) → p < q → p < length s → read level q ≡ other level q) where
  bracketed_same : p < length s → bracketed s p read ≡ bracketed s p other
  unfolding bracketed
  bracketed_same lt =
      onward_same _ _ _ _ (agree or_level (skip s (p + 1)) (omega (arith, skip_ahead s (p + 1))) lt) (λ f b q e. refl)

  two_same : (k : ℕ) (make : Formula → Formula → Formula) → p ≤ k → p < length s → two_parts s k read make ≡ two_parts s k other make
  unfolding two_parts
  two_same k make le lt =
      behind_same s k 40 _ _ (λ st.
      onward_same _ _ _ _ (agree or_level (skip s (skip s k + 1)) (omega (arith, skip_ahead s k, skip_ahead s (skip s k + 1))) lt) (λ f b r e.
      behind_same s r 44 _ _ (λ st'.
      onward_same _ _ _ _
      (let (l, i) = or_read usual s read sound (skip s (skip s k + 1)) f b r e in
      agree or_level (skip s (skip s r + 1))
      (omega (arith, skip_ahead s k, skip_ahead s (skip s k + 1), skip_ahead s r, skip_ahead s (skip s r + 1))) lt)
      (λ g c v e'. refl))))

  bound_same : (c : Connective) (o : Option BoundRead) → p < length s → bound_at usual c.bound s (p + 1) ≡ o
      → with_bound s c o read ≡ with_bound s c o other
  unfolding with_bound
  bound_same c None lt e = refl
  bound_same c (Some b) lt e =
      let past = bound_end usual c.bound s (p + 1) b e in
      pick_same (eqb c.parts 1) _ _ _ _
      (λ _. onward_same _ _ _ _ (agree unit_level (skip s b.next) (omega (arith, skip_ahead s b.next)) lt) (λ g d q f. refl))
      (λ _. two_same b.next (formula_two b) (omega arith) lt)

  led_same : (o : Option Connective) → connective connectives (byte_at s p) ≡ o → led usual s p o read ≡ led usual s p o other
  unfolding led
  led_same None e = refl
  led_same (Some c) e =
      pick_same (stands s p 84) _ _ _ _ (λ _. refl) (λ _.
      pick_same (stands s p 70) _ _ _ _ (λ _. refl) (λ _.
      bound_same c (bound_at usual c.bound s (p + 1)) (byte_inside s p (lettered (byte_at s p) c e)) refl))

  unit_same : unit_at usual s p read ≡ unit_at usual s p other
  unfolding unit_at
  unit_same =
      pick_same (stands s p 40) _ _ _ _ (λ e. bracketed_same (stands_inside s p 40 (omega arith) e)) (λ _.
      pick_same (stands s p 33) _ _ _ _ (λ _. refl) (λ _.
      pick_same (stands s p 112) _ _ _ _ (λ _. refl) (λ _.
      led_same (connective connectives (byte_at s p)) refl)))

  joining_same : (b : ℕ) (f : Formula) (d : ℕ) (join : Formula → Formula → Formula) (operand : Level) (rest : Formula → ℕ → Level) → 1 ≤ b
      → ((k : ℕ) (g : Formula) (c q : ℕ) → read operand k ≡ got g c q → (k < q) × (q ≤ length s))
      → joining s b f d p join (read operand) (λ g c q. read (rest g c) q) ≡ joining s b f d p join (other operand) (λ g c q. other (rest g c) q)
  unfolding joining
  joining_same b f d join operand rest one strict =
      pick_same (stands s (skip s p) b) _ _ _ _
      (λ st.
      let inside = stands_inside s (skip s p) b one st in
      onward_same _ _ _ _
      (agree operand (skip s (skip s p + 1)) (omega (arith, skip_ahead s p, skip_ahead s (skip s p + 1))) (omega (arith, skip_ahead s p)))
      (λ g c q e.
      let (l, i) = strict (skip s (skip s p + 1)) g c q e in
      agree (rest (join f g) _) q (omega (arith, skip_ahead s p, skip_ahead s (skip s p + 1))) (omega (arith, skip_ahead s p))))
      (λ _. refl)

-- One call of a reader depends only on the readings further on, and on those of a lower level at the same place.
level_same : (usual : ℕ) (s : List ℕ) (read other : Reader) → ((level : Level) (p : ℕ) → Sound usual s level p (read level p)) → (level : Level) (p : ℕ)
    → ((l : Level) (q : ℕ) → 3 * (suc (length s) - q) + rank l < 3 * (suc (length s) - p) + rank level → read l q ≡ other l q)
    → read_level usual s level p read ≡ read_level usual s level p other
unfolding read_level rank
level_same usual s read other sound or_level p agree =
    onward_same _ _ _ _ (agree and_level p (omega arith)) (λ f b q e.
    let (l, i) = and_read usual s read sound p f b q e in agree (or_rest f b) q (omega arith))
level_same usual s read other sound and_level p agree =
    onward_same _ _ _ _ (agree unit_level p (omega arith)) (λ f b q e.
    let (l, i) = unit_read usual s read sound p f b q e in agree (and_rest f b) q (omega arith))
level_same usual s read other sound unit_level p agree =
    unit_same usual s read other sound p (λ l q lt inside. agree l q (omega (arith, rank_few l)))
level_same usual s read other sound (or_rest f b) p agree =
    joining_same usual s read other sound p (λ l q lt inside. agree l q (omega (arith, rank_few l))) 124 f b or and_level or_rest (omega arith)
    (λ k g c q e. and_read usual s read sound k g c q e)
level_same usual s read other sound (and_rest f b) p agree =
    joining_same usual s read other sound p (λ l q lt inside. agree l q (omega (arith, rank_few l))) 38 f b and unit_level and_rest (omega arith)
    (λ k g c q e. unit_read usual s read sound k g c q e)

-- ---- the unfolding

reader_falls : (usual : ℕ) (s : List ℕ) → Falls (calls_left s) (λ _. bad) (read_step usual s) (λ x r. Sound usual s x.level x.place r)
unfolding read_step calls_left Sound
reader_falls usual s =
    record {
      at_stop = λ x. tt;
      kept = λ x f sound.
          level_sound usual s (λ level p. f (record { level = level; place = p })) (λ level p. sound (record { level = level; place = p })) x.level x.place;
      same = λ x f g sound agree.
          level_same usual s (λ level p. f (record { level = level; place = p })) (λ level p. g (record { level = level; place = p }))
          (λ level p. sound (record { level = level; place = p })) x.level x.place
          (λ level p lt. agree (record { level = level; place = p }) lt);
    }

-- One call of a reader is one step.
pub parse_eq : (usual : ℕ) (s : List ℕ) (level : Level) (p : ℕ) → parse usual s level p ≡ read_level usual s level p (parse usual s)
unfolding parse read_step
parse_eq usual s level p =
    run_eq (calls_left s) (λ _. bad) (read_step usual s) (λ x r. Sound usual s x.level x.place r) (reader_falls usual s) (record { level = level; place = p })

parse_sound : (usual : ℕ) (s : List ℕ) (level : Level) (p : ℕ) → Sound usual s level p (parse usual s level p)
unfolding parse
parse_sound usual s level p =
    run_known (calls_left s) (λ _. bad) (read_step usual s) (λ x r. Sound usual s x.level x.place r) (reader_falls usual s) (record { level = level; place = p })

-- A formula ends behind its beginning and inside the text.
module _ (usual : ℕ) (s : List ℕ) (p : ℕ) (f : Formula) (b q : ℕ) where
  pub or_ends : parse usual s or_level p ≡ got f b q → (p < q) × (q ≤ length s)
  or_ends = or_read usual s (parse usual s) (parse_sound usual s) p f b q

  pub and_ends : parse usual s and_level p ≡ got f b q → (p < q) × (q ≤ length s)
  and_ends = and_read usual s (parse usual s) (parse_sound usual s) p f b q

  pub unit_ends : parse usual s unit_level p ≡ got f b q → (p < q) × (q ≤ length s)
  unit_ends = unit_read usual s (parse usual s) (parse_sound usual s) p f b q
