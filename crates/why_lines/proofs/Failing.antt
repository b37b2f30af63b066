-- Where a line fails, and the lowest line that does: the ways through `first_failing`, `line_fails`, `lowest` and `judge`.
use Prim.Native.Nat.{ℕ, zero, suc, ◌+◌, ◌-◌, ◌≤◌, ◌<◌}
use native.Mathlib.Omega.{arith}
use native.Mathlib.Numerals.{add-one}
use mathlib.Core.Path.{◌≡◌, refl, sym, ◌∙◌, ap, subst}
use mathlib.Core.Bool.{Bool, true, false, not}
use mathlib.Core.List.{List, [], ◌∷◌}
use Rattle.std.specs.Prelude.{Option, Some, None}
use lib.ListN.{length, get_or, drop, length-map}
use lib.Seq.{drop-drop}
use lib.Dec.{eqb, ltb}
use borrow.Author.Tests.{not-true, not-false, ltb-true, ltb-false}
use Rattle.base.specs.Lists.{count_from, below, place_of}
use Rattle.base.proofs.Lists.{whether, not_in, every_not, none_of, mem_index, length_count_from, length_below, get_or_below, below_mem, below_every}
use Rattle.base.proofs.Lists.{place_of_first, place_of_none}
use Rattle.logic.specs.Time.{position}
use Rattle.logic.specs.declared.Position.{Position}
use Rattle.logic.specs.Tower.{Tower, tower_of}
use Rattle.logic.specs.Book.{Formula, root, at_start, everywhere, Rule, Book}
use Rattle.logic.specs.Runs.{Trace}
use Rattle.logic.specs.Why.{rule_at}
use Rattle.judging.specs.Judging.{judged, judged_at, judged_rule, lowest_position, lowest_line, broken_place}
use Rattle.reading.specs.BookArea.{nodes_in, lines_in}
use Rattle.book_progression.specs.NodeBytes.{form_of, formula_of, Stored, IsHeld}
use Rattle.book_progression.specs.Promises.{LineIs, IsLine}
use Rattle.book_progression.proofs.BookHeld as BookHeld
use Rattle.book_progression.proofs.Lines.{starts, is_everywhere}
use Rattle.why_judging.specs.Judgement.{moment_in, rest_in, kept_in, NodesJudged}
use Rattle.why_judging.proofs.Rests.{rest_some, byte_says}
use Rattle.why_lines.specs.Lines.{RunNoted, LinesReady, fails_in, KeptBefore, FirstFailing, kept_everywhere, first_at, LineFails, line_kept, line_broken, RunJudged}

-- ---- the lowest number that passes a test

module _ (test : ℕ → Bool) (n : ℕ) where
  -- it is i
  lowest_is : (i : ℕ) → i < n → test i ≡ true → ((j : ℕ) → j < i → test j ≡ false) → place_of test (below n) ≡ i
  lowest_is i low here before =
      place_of_first test (below n) i 0 (omega (arith, length_below n)) (ap test (get_or_below n i 0 low) ∙ here)
      (λ j l. ap test (get_or_below n j 0 (omega arith)) ∙ before j l)

-- ---- the lowest position where a node is not kept

pub so_far_first : (kept : List ℕ) (n k : ℕ) → KeptBefore kept k 0
so_far_first kept n k = record { before = λ j low. absurd (omega arith) }

module _ (kept : List ℕ) (n k i : ℕ) (so_far : KeptBefore kept k i) where
  pub so_far_found : (b : Bool) → i < n → b ≡ eqb (kept_in kept k i) 1 → not b ≡ true → FirstFailing kept n k (Some (position i))
  so_far_found b low judged fails = first_at (position i) low (ap not (sym judged) ∙ fails) so_far

  pub so_far_next : (b : Bool) → b ≡ eqb (kept_in kept k i) 1 → not b ≡ false → KeptBefore kept k (i + 1)
  so_far_next b judged passes =
      record {
        before = λ j l. whether (ltb j i) (λ yes_it_is. so_far.before j (ltb-true j i yes_it_is))
            (λ it_is_not. let e : j ≡ i = omega (arith, ltb-false j i it_is_not) in rw e (ap not (sym judged) ∙ passes));
      }

  pub so_far_end : n ≤ i → FirstFailing kept n k None
  so_far_end done = kept_everywhere (record { before = λ j low. so_far.before j (omega arith) })

-- ---- what is left of a run

-- what is left from position j on is the rest of the whole run
rest_from : (run states : List ℕ) (n j : ℕ) → j ≤ n → drop j (rest_in run states n 0) ≡ rest_in run states n j
rest_from run states n zero low = refl
rest_from run states n (suc j) low =
    sym (ap (λ i. drop i (rest_in run states n 0)) (add-one j)) ∙ sym (drop-drop 1 j (rest_in run states n 0))
    ∙ ap (drop 1) (rest_from run states n j (omega arith) ∙ rest_some run states n j (omega arith)) ∙ ap (rest_in run states n) (add-one j)

rest_size : (run states : List ℕ) (n : ℕ) → length (rest_in run states n 0) ≡ n
unfolding rest_in
rest_size run states n =
    let all : n - 0 ≡ n = omega arith in
    length-map (count_from 0 (n - 0)) (moment_in run states) ∙ length_count_from 0 (n - 0) ∙ all

-- ---- a formula whose node is judged

module _ (tower : Tower) (run : Trace) (f : Formula) (kept : List ℕ) (n k : ℕ) (size : length run ≡ n)
    (says : (j : ℕ) → j < n → eqb (kept_in kept k j) 1 ≡ judged_at tower run f (position j)) where
  always_kept : KeptBefore kept k n → judged_rule tower run everywhere f ≡ true
  unfolding judged_rule
  always_kept all =
      rw size (below_every (λ i. judged_at tower run f (position i)) n
      (λ i low. sym (says i low) ∙ not-false (eqb (kept_in kept k i) 1) (all.before i low)))

  module _ (r : ℕ) (low : r < n) (fails : fails_in kept k r ≡ true) where
    always_broken : judged_rule tower run everywhere f ≡ false
    unfolding judged_rule
    always_broken =
        rw size (every_not (λ i. judged_at tower run f (position i)) (below_mem n r low)
        (sym (says r low) ∙ not-true (eqb (kept_in kept k r) 1) fails))

    always_place : KeptBefore kept k r → position r ≡ broken_place tower run everywhere f
    unfolding broken_place lowest_position
    always_place kept_till =
        rw size (ap position (sym (lowest_is (λ i. not (judged_at tower run f (position i))) n r low
        (ap not (sym (says r low)) ∙ fails) (λ j l. ap not (sym (says j (omega arith))) ∙ kept_till.before j l))))

-- ---- the rule of a line

-- below the length it does not matter what stands behind the end
same_inside : (book : Book) (l : ℕ) (d e : Rule) → l < length book → get_or book l d ≡ get_or book l e
same_inside [] l d e low = absurd (omega arith)
same_inside (rule ∷ rules) zero d e low = refl
same_inside (rule ∷ rules) (suc l) d e low = same_inside rules l d e (omega arith)

module _ (nodes : List ℕ) (h : IsHeld nodes) (l : ℕ) (low : l < lines_in nodes) where
  -- line l is the book's rule l
  line_of : LineIs nodes l (rule_at h.book l) (BookHeld.nodes_before h.book l)
  unfolding rule_at BookHeld.rule_at
  line_of =
      let inside : l < length h.book = omega (arith, h.held.holds.line_count) in
      subst (λ rule. LineIs nodes l rule (BookHeld.nodes_before h.book l)) (same_inside h.book l _ _ inside)
      (BookHeld.held_line nodes h.book h.held l low)

  rule_always : (form : ℕ) → form ≡ form_of nodes l → form ≡ 1 → (rule_at h.book l).form ≡ everywhere
  rule_always form at one = is_everywhere (rule_at h.book l).form (sym (at ∙ line_of.form) ∙ one)

  rule_starts : (form : ℕ) → form ≡ form_of nodes l → (form ≡ 1 → ⊥) → (rule_at h.book l).form ≡ at_start
  rule_starts form at not_one = starts (rule_at h.book l).form (λ e. not_one (at ∙ line_of.form ∙ e))

  -- what was judged of its formula's node
  line_says : (tower run states : List ℕ) (n : ℕ) (kept : List ℕ) (k : ℕ) → k ≡ formula_of nodes l
      → NodesJudged tower nodes run states n (nodes_in nodes) kept → (j : ℕ) → j < n
      → eqb (kept_in kept k j) 1 ≡ judged_at (tower_of tower) (rest_in run states n 0) (rule_at h.book l).formula (position j)
  unfolding judged_at
  line_says tower run states n kept k at all j inside =
      let place : k ≡ root (BookHeld.nodes_before h.book l) (rule_at h.book l).formula = at ∙ line_of.place in
      let stored : Stored nodes (rule_at h.book l).formula k = rw place line_of.stored in
      byte_says (eqb (kept_in kept k j) 1) (judged (tower_of tower) (rule_at h.book l).formula (rest_in run states n j)) (kept_in kept k j) refl
      ((all.says k (omega (arith, line_of.low))).says (rule_at h.book l).formula stored j (omega arith) inside)
      ∙ ap (judged (tower_of tower) (rule_at h.book l).formula) (sym (rest_from run states n j (omega arith)))

-- ---- where a line fails

pub line_there : (nodes : List ℕ) (l : ℕ) → IsHeld nodes → l < lines_in nodes → IsLine nodes l
line_there nodes l h low = BookHeld.is_line nodes l (lines_in nodes) refl h low

-- the number of its formula's node
pub line_low : (nodes : List ℕ) (l k : ℕ) → k ≡ formula_of nodes l → l < lines_in nodes → IsHeld nodes → k < 60
line_low nodes l k at low h = omega (arith, at, (line_of nodes h l low).place, (line_of nodes h l low).low, h.few)

module _ (tower nodes run states : List ℕ) (n : ℕ) (kept : List ℕ) (l k form : ℕ) (ready : LinesReady tower nodes run states n kept)
    (low : l < lines_in nodes) (at : k ≡ formula_of nodes l) (form_at : form ≡ form_of nodes l) where
  says : (h : IsHeld nodes) (j : ℕ) → j < n
      → eqb (kept_in kept k j) 1 ≡ judged_at (tower_of tower) (rest_in run states n 0) (rule_at h.book l).formula (position j)
  says h = line_says nodes h l low tower run states n kept k at ready.all

  size : length (rest_in run states n 0) ≡ n
  size = rest_size run states n

  pub fails_always : (r : Option Position) → form ≡ 1 → FirstFailing kept n k r → LineFails tower nodes run states n l r
  fails_always None one (kept_everywhere all) =
      line_kept (λ h. rw (rule_always nodes h l low form form_at one)
      (always_kept (tower_of tower) (rest_in run states n 0) (rule_at h.book l).formula kept n k size (says h) all))
  fails_always (Some at) one (first_at _ inside fails before) =
      line_broken at
      (λ h. rw (rule_always nodes h l low form form_at one)
      (always_broken (tower_of tower) (rest_in run states n 0) (rule_at h.book l).formula kept n k size (says h) at.0 inside fails))
      (λ h. rw (rule_always nodes h l low form form_at one)
      (always_place (tower_of tower) (rest_in run states n 0) (rule_at h.book l).formula kept n k size (says h) at.0 inside fails before))

  -- a `start` line is judged at position 0 alone
  start_says : (h : IsHeld nodes) → (form ≡ 1 → ⊥) → (b : Bool) → b ≡ eqb (kept_in kept k 0) 1
      → judged_rule (tower_of tower) (rest_in run states n 0) (rule_at h.book l).form (rule_at h.book l).formula ≡ b
  unfolding judged_rule
  start_says h not_one b judged = rw (rule_starts nodes h l low form form_at not_one) (sym (judged ∙ says h 0 ready.some_position))

  pub fails_never : (b : Bool) → (form ≡ 1 → ⊥) → b ≡ eqb (kept_in kept k 0) 1 → b ≡ true → LineFails tower nodes run states n l None
  fails_never b not_one judged holds = line_kept (λ h. start_says h not_one b judged ∙ holds)

  pub fails_start : (b : Bool) → (form ≡ 1 → ⊥) → b ≡ eqb (kept_in kept k 0) 1 → b ≡ false
      → LineFails tower nodes run states n l (Some (position 0))
  unfolding broken_place
  fails_start b not_one judged fails =
      line_broken (position 0) (λ h. start_says h not_one b judged ∙ fails) (λ h. rw (rule_starts nodes h l low form form_at not_one) refl)

-- ---- the lowest line that fails

-- The lines before line l are kept.
pub record Looking (tower nodes run states : List ℕ) (n lines l : ℕ) : Type 0 where
  pub all : lines ≡ lines_in nodes
  pub inside : l ≤ lines
  pub before : (h : IsHeld nodes) (j : ℕ) → j < l
      → judged_rule (tower_of tower) (rest_in run states n 0) (rule_at h.book j).form (rule_at h.book j).formula ≡ true

pub looking_first : (tower nodes run states : List ℕ) (n lines : ℕ) → lines ≡ lines_in nodes → Looking tower nodes run states n lines 0
looking_first tower nodes run states n lines all =
    record { all = all; inside = omega arith; before = λ h j low. absurd (omega arith) }

-- the run breaks this rule
abbrev breaks : Tower → Trace → Rule → Bool
breaks tower run rule = not (judged_rule tower run rule.form rule.formula)

-- it breaks none
none_breaks : (test : Rule → Bool) (book : Book) → ((j : ℕ) → j < length book → test (rule_at book j) ≡ false) → place_of test book ≡ length book
unfolding rule_at
none_breaks test book kept = place_of_none test book (none_of test book (λ rule m. go rule (mem_index _ m)))
  where
    go : (rule : Rule) → (j : ℕ) × (j < length book) × (rule_at book j ≡ rule) → test rule ≡ false
    go rule (j, low, e) = ap test (sym e) ∙ kept j low

module _ (tower nodes run states : List ℕ) (n lines l : ℕ) (looking : Looking tower nodes run states n lines l) where
  pub looking_next : LineFails tower nodes run states n l None → l < lines → Looking tower nodes run states n lines (l + 1)
  looking_next (line_kept kept) low =
      record {
        all = looking.all;
        inside = omega arith;
        before = λ h j below. whether (ltb j l) (λ yes_it_is. looking.before h j (ltb-true j l yes_it_is))
            (λ it_is_not. let e : j ≡ l = omega (arith, ltb-false j l it_is_not) in rw e (kept h));
      }

  pub looking_found : (at : Position) → LineFails tower nodes run states n l (Some at) → RunNoted tower run states n → l < lines
      → RunJudged (record { line = l; position = at }) tower nodes run n
  unfolding lowest_line rule_at
  looking_found at (line_broken _ broken place) noted low =
      record {
        line = λ h. rw (sym noted.is)
            (sym (place_of_first (breaks (tower_of tower) (rest_in run states n 0)) h.book l _
            (omega (arith, looking.all, h.held.holds.line_count)) (not_in (broken h))
            (λ j before. ap not (looking.before h j before))));
        place = λ h inside. rw (sym noted.is) (place h);
      }

  pub looking_end : RunNoted tower run states n → lines ≤ l → RunJudged (record { line = lines; position = position 0 }) tower nodes run n
  unfolding lowest_line
  looking_end noted done =
      record {
        line = λ h. rw (sym noted.is) (looking.all ∙ h.held.holds.line_count
            ∙ sym (none_breaks (breaks (tower_of tower) (rest_in run states n 0)) h.book
            (λ j low. ap not (looking.before h j (omega (arith, looking.all, h.held.holds.line_count))))));
        place = λ h inside. absurd (omega (arith, looking.all, h.held.holds.line_count));
      }
