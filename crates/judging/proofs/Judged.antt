-- What is judged is the logic: a formula at a position, a rule, a book, the lowest line and the lowest position that break.
use Prim.Native.Nat.{ℕ, zero, suc, ◌<◌}
use native.Mathlib.Omega.{arith}
use native.Mathlib.Decide.{dec_lt}
use mathlib.Core.Path.{◌≡◌, refl, sym, ap}
use mathlib.Core.Logic.Iff
use mathlib.Core.Logic.{◌⊎◌, ◌↔◌, ⊎_elim, ⊎_map}
use mathlib.Core.Bool.{Bool, true, false, ◌&&◌, ◌||◌, not}
use mathlib.Core.List.{List, [], ◌∷◌}
use lib.ListN.{length, drop, get_or}
use borrow.Author.Tests.{not-true, not-false}
use Rattle.base.specs.Choice.{pick}
use Rattle.base.specs.Lists.{every, below, place_of}
use Rattle.base.proofs.Lists.{never_both, and_left, and_right, and_both, or_left, or_right, or_cases, not_in, false_by, beq_out, beq_in, every_at, every_all, every_false, every_below, below_every, length_below, get_or_below, place_of_found, place_of_at, place_of_before, place_of_first}
use Rattle.logic.specs.Time.{minus, at_most, position, Before}
use Rattle.logic.specs.Tower.{Tower}
use Rattle.logic.specs.Book.{Formula, constant, proposition, and, or, next, always_for, until, Comparison, compares, Form, at_start, everywhere, Rule, Book}
use Rattle.logic.specs.Runs.{Moment, Trace, trace, moment, Judged, duration, KeptAt, Kept, KeptRule, Unbroken, Broken}
use Rattle.logic.specs.Why.{rule_at, KeptLine, LowestLine, BrokenAt}
use Rattle.logic.specs.declared.Tick.{Tick}
use Rattle.logic.specs.declared.Position.{Position}
use Rattle.pending.proofs.Kept.{kept_later, Now, next_step, always_step, until_step, kept_now}
use Rattle.judging.specs.Judging.{passes_for, passes_until, if_left, judged, judged_at, lowest_position, judged_rule, judged_broken, lowest_line, broken_place}

-- ---- Tests that decide

-- the test says whether the statement holds
abbrev Decides : Bool → Type 0 → Type 0
Decides b P = (b ≡ true) ↔ P

-- two tests joined
module _ (a b : Bool) {P Q : Type 0} where
  both : Decides a P → Decides b Q → Decides (a && b) (P × Q)
  both p q = (λ e. (p.0 (and_left a b e), q.0 (and_right a b e)), λ h. and_both (p.1 h.0) (q.1 h.1))

  either : Decides a P → Decides b Q → Decides (a || b) (P ⊎ Q)
  either p q = (λ e. ⊎_map p.0 q.0 (or_cases a b e), ⊎_elim (λ h. or_left b (p.1 h)) (λ h. or_right a (q.1 h)))

-- a test that is asked only if another holds
if_so : (a b : Bool) {Q : Type 0} → Decides b Q → Decides (pick a (λ _. b) (λ _. true)) (a ≡ true → Q)
if_so true b q = (λ e yes_it_is. q.0 e, λ h. q.1 (h refl))
if_so false b q = (λ e it_is_not. never_both it_is_not refl, λ h. refl)

-- a test turned round, and what it says where it fails
module _ (b : Bool) {P : Type 0} (p : Decides b P) where
  not_so : Decides (not b) (P → ⊥)
  not_so = (λ e h. never_both (p.1 h) (not-true b e), λ no_p. not_in (false_by b (λ e. no_p (p.0 e))))

  so : (not b ≡ false) ↔ P
  so = (λ e. p.0 (not-false b e), λ h. ap not (p.1 h))

-- ---- Formulas

module _ (tower : Tower) where
  -- where nothing is left every formula is kept
  kept_end : (f : Formula) (n : ℕ) → Kept tower [] f (position n)
  unfolding Kept Judged
  kept_end f n judged = absurd (omega arith)

  -- a test of what is left of a run decides whether the formula is kept where it begins
  abbrev Right : (Trace → Bool) → Formula → Type 0
  Right test f = (run : Trace) → Decides (test run) (Kept tower run f (position 0))

  -- it does so where it passes at the end, and decides what the formula asks where a run begins with an action
  by_first : (test : Trace → Bool) (f : Formula) → test [] ≡ true → ((m : Moment) (run : Trace) → Decides (test (m ∷ run)) (Now tower m run f))
      → Right test f
  by_first test f at-end on [] = (λ e. kept_end f 0, λ h. at-end)
  by_first test f at-end on (m ∷ run) = Iff.trans (on m run) (Iff.symm (kept_now tower m run f))

  -- what such a test decides where a run begins with an action
  at_first : (test : Trace → Bool) (f : Formula) → Right test f → (m : Moment) (run : Trace) → Decides (test (m ∷ run)) (Now tower m run f)
  at_first test f right m run = Iff.trans (right (m ∷ run)) (kept_now tower m run f)

  -- the induction over formulas, connective by connective
  right_constant : (b : Bool) → Right (judged tower (constant b)) (constant b)
  unfolding judged if_left KeptAt
  right_constant b = by_first (judged tower (constant b)) (constant b) refl (λ m run. Iff.rfl)

  right_proposition : (wanted : Bool) (k : ℕ) → Right (judged tower (proposition wanted k)) (proposition wanted k)
  unfolding judged if_left KeptAt moment
  right_proposition wanted k =
      by_first (judged tower (proposition wanted k)) (proposition wanted k) refl
      (λ m run. (beq_out (tower.marked m.state k) wanted, beq_in (tower.marked m.state k) wanted))

  right_and : (f g : Formula) → Right (judged tower f) f → Right (judged tower g) g → Right (judged tower (and f g)) (and f g)
  unfolding judged KeptAt
  right_and f g ihf ihg =
      by_first (judged tower (and f g)) (and f g) (and_both ((ihf []).1 (kept_end f 0)) ((ihg []).1 (kept_end g 0)))
      (λ m run. both (judged tower f (m ∷ run)) (judged tower g (m ∷ run)) (at_first (judged tower f) f ihf m run)
      (at_first (judged tower g) g ihg m run))

  right_or : (f g : Formula) → Right (judged tower f) f → Right (judged tower g) g → Right (judged tower (or f g)) (or f g)
  unfolding judged KeptAt
  right_or f g ihf ihg =
      by_first (judged tower (or f g)) (or f g) (or_left (judged tower g []) ((ihf []).1 (kept_end f 0)))
      (λ m run. either (judged tower f (m ∷ run)) (judged tower g (m ∷ run)) (at_first (judged tower f) f ihf m run)
      (at_first (judged tower g) g ihg m run))

  right_next : (c : Comparison) (t : Tick) (g : Formula) → Right (judged tower g) g → Right (judged tower (next c t g)) (next c t g)
  unfolding judged if_left
  right_next c t g ih =
      by_first (judged tower (next c t g)) (next c t g) refl
      (λ m run. Iff.trans (both (compares c (duration tower m) t) (judged tower g run) Iff.rfl (ih run))
      (Iff.symm (next_step tower m run c t g)))

  -- for A and U the induction is over the run, and for every bound
  right_for : (test : Trace → Bool) (g : Formula) → Right test g
      → (run : Trace) (t : Tick) → Decides (passes_for tower test run t) (Kept tower run (always_for t g) (position 0))
  unfolding passes_for
  right_for test g ih [] t = (λ e. kept_end (always_for t g) 0, λ h. refl)
  right_for test g ih (m ∷ run) t =
      let left = minus t (duration tower m) in
      let on = if_so (at_most (duration tower m) t) (passes_for tower test run left) (right_for test g ih run left) in
      Iff.trans (both (test (m ∷ run)) _ (at_first test g ih m run) on)
      (Iff.symm (Iff.trans (kept_now tower m run (always_for t g)) (always_step tower m run t g)))

  right_until : (one two : Trace → Bool) (f g : Formula) → Right one f → Right two g
      → (run : Trace) (t : Tick) → Decides (passes_until tower one two run t) (Kept tower run (until t f g) (position 0))
  unfolding passes_until
  right_until one two f g ihf ihg [] t = (λ e. kept_end (until t f g) 0, λ h. refl)
  right_until one two f g ihf ihg (m ∷ run) t =
      let left = minus t (duration tower m) in
      let fits = at_most (duration tower m) t in
      let on = both fits (passes_until tower one two run left) Iff.rfl (right_until one two f g ihf ihg run left) in
      let rest = both (one (m ∷ run)) _ (at_first one f ihf m run) on in
      Iff.trans (either (two (m ∷ run)) _ (at_first two g ihg m run) (Iff.trans rest swap))
      (Iff.symm (Iff.trans (kept_now tower m run (until t f g)) (until_step tower m run t f g)))
    where
      swap : {P Q R : Type 0} → (P × (Q × R)) ↔ (Q × (P × R))
      swap = (λ h. (h.1.0, (h.0, h.1.1)), λ h. (h.1.0, (h.0, h.1.1)))

-- A formula is judged as kept where a run begins exactly if it is kept there.
pub judged_kept : (tower : Tower) (f : Formula) (run : Trace) → (judged tower f run ≡ true) ↔ Kept tower run f (position 0)
unfolding judged
judged_kept tower (constant b) run = right_constant tower b run
judged_kept tower (proposition wanted k) run = right_proposition tower wanted k run
judged_kept tower (and f g) run = right_and tower f g (judged_kept tower f) (judged_kept tower g) run
judged_kept tower (or f g) run = right_or tower f g (judged_kept tower f) (judged_kept tower g) run
judged_kept tower (next c t g) run = right_next tower c t g (judged_kept tower g) run
judged_kept tower (always_for t g) run = right_for tower (judged tower g) g (judged_kept tower g) run t
judged_kept tower (until t f g) run = right_until tower (judged tower f) (judged tower g) f g (judged_kept tower f) (judged_kept tower g) run t

-- ---- Positions

module _ (tower : Tower) (f : Formula) where
  -- a position of the rest of a run is the next one of the whole
  kept_behind : (m : Moment) (run : Trace) (n : ℕ) → Kept tower run f (position n) ↔ Kept tower (m ∷ run) f (position (suc n))
  unfolding Kept Judged
  kept_behind m run n =
      (λ h judged. (kept_later tower m run f n).1 (h (omega arith)), λ h judged. (kept_later tower m run f n).0 (h (omega arith)))

  -- the same as `judged_at_kept`, by the number of the position
  judged_number : (run : Trace) (n : ℕ) → Decides (judged tower f (drop n run)) (Kept tower run f (position n))
  judged_number run zero = judged_kept tower f run
  judged_number [] (suc n) = (λ e. kept_end tower f (suc n), λ h. (judged_kept tower f []).1 (kept_end tower f 0))
  judged_number (m ∷ run) (suc n) = Iff.trans (judged_number run n) (kept_behind m run n)

-- A formula is judged as kept at a position exactly if it is kept there.
pub judged_at_kept : (tower : Tower) (run : Trace) (f : Formula) (i : Position) → (judged_at tower run f i ≡ true) ↔ Kept tower run f i
unfolding judged_at
judged_at_kept tower run f i = judged_number tower f run i.0

-- ---- Rules

-- A rule is judged as kept exactly if it is kept.
pub judged_rule_kept : (tower : Tower) (run : Trace) (form : Form) (f : Formula)
    → (judged_rule tower run form f ≡ true) ↔ KeptRule tower run form f
unfolding judged_rule KeptRule Kept Judged
judged_rule_kept tower run everywhere f = (
  λ e i judged. (judged_at_kept tower run f i).0 (every_below (λ j. judged_at tower run f (position j)) (length run) i.0 e judged) judged,
  λ h. below_every (λ j. judged_at tower run f (position j)) (length run) (λ j l. (judged_at_kept tower run f (position j)).1 (h (position j))),
)
judged_rule_kept tower run at_start f = judged_at_kept tower run f (position 0)

module _ (tower : Tower) (book : Book) (w : List ℕ) where
  -- whether the run keeps a rule
  abbrev keeps : Rule → Bool
  keeps rule = judged_rule tower (trace tower w) rule.form rule.formula

  -- and that this decides it, of one rule and of all
  keeps_right : (rule : Rule) → Decides (keeps rule) (KeptRule tower (trace tower w) rule.form rule.formula)
  keeps_right rule = judged_rule_kept tower (trace tower w) rule.form rule.formula

  every_kept : Decides (every keeps book) (Unbroken tower book w)
  unfolding Unbroken
  every_kept = (
    λ e rule listed. (keeps_right rule).0 (every_at keeps e listed),
    λ h. every_all keeps book (λ rule listed. (keeps_right rule).1 (h rule listed)),
  )

  -- A run is judged as broken exactly if it is broken,
  pub judged_broken_iff : (judged_broken tower book w ≡ true) ↔ Broken tower book w
  unfolding judged_broken Broken
  judged_broken_iff = not_so (every keeps book) every_kept

  -- and as unbroken exactly if it is unbroken.
  pub judged_unbroken_iff : (judged_broken tower book w ≡ false) ↔ Unbroken tower book w
  unfolding judged_broken
  judged_unbroken_iff = so (every keeps book) every_kept

  -- ---- The lowest line

  -- whether the run breaks a rule
  abbrev breaks : Rule → Bool
  breaks rule = not (keeps rule)

  -- what stands past the last line
  abbrev no_rule : Rule
  no_rule = record { form = at_start; formula = constant true }

  -- a line passes the test exactly if it is broken, and fails it exactly if it is kept
  line_broken : (k : ℕ) → Decides (breaks (get_or book k no_rule)) (KeptLine tower book w k → ⊥)
  unfolding KeptLine rule_at
  line_broken k = not_so (keeps (get_or book k no_rule)) (keeps_right (get_or book k no_rule))

  line_kept : (k : ℕ) → (breaks (get_or book k no_rule) ≡ false) ↔ KeptLine tower book w k
  unfolding KeptLine rule_at
  line_kept k = so (keeps (get_or book k no_rule)) (keeps_right (get_or book k no_rule))

  -- A broken run breaks the line that is found, and no lower one.
  pub lowest_line_is : Broken tower book w → LowestLine tower book w (lowest_line tower book w)
  unfolding lowest_line Broken
  lowest_line_is broken =
      record {
        inside = inside;
        broken = (line_broken (place_of breaks book)).0 (place_of_at breaks book no_rule inside);
        lower = λ j l. (line_kept j).0 (place_of_before breaks book j no_rule l);
      }
    where
      inside : place_of breaks book < length book
      inside =
          let (rule, listed, e) = every_false keeps book (false_by (every keeps book) (λ e. broken (every_kept.0 e))) in
          place_of_found breaks listed (not_in e)

  -- No other line is the lowest that the run breaks.
  pub lowest_line_only : (k : ℕ) → LowestLine tower book w k → k ≡ lowest_line tower book w
  unfolding lowest_line
  lowest_line_only k lowest =
      sym (place_of_first breaks book k no_rule lowest.inside ((line_broken k).1 lowest.broken)
      (λ j l. (line_kept j).1 (lowest.lower j l)))

-- ---- The lowest position

module _ (tower : Tower) (run : Trace) (f : Formula) where
  -- the formula is kept at position i
  abbrev passes : ℕ → Bool
  passes i = judged_at tower run f (position i)

  -- it is not
  abbrev fails : ℕ → Bool
  fails i = not (passes i)

  -- the positions that are judged, in order
  abbrev inner : List ℕ
  inner = below (length run)

  -- a judged position passes the test exactly if the formula is not kept there, and fails it exactly if it is kept
  place_fails : (i : ℕ) → i < length run → Decides (fails (get_or inner i 0)) (Kept tower run f (position i) → ⊥)
  place_fails i l = rw (get_or_below (length run) i 0 l) (not_so (passes i) (judged_at_kept tower run f (position i)))

  place_passes : (i : ℕ) → i < length run → (fails (get_or inner i 0) ≡ false) ↔ Kept tower run f (position i)
  place_passes i l = rw (get_or_below (length run) i 0 l) (so (passes i) (judged_at_kept tower run f (position i)))

  -- a position where a formula is not kept is judged
  fails_inside : (i : ℕ) → (Kept tower run f (position i) → ⊥) → i < length run
  unfolding Kept Judged
  fails_inside i broken = by_cases (dec_lt i (length run))
    where
      by_cases : Dec (i < length run) → i < length run
      by_cases (yes l) = l
      by_cases (no above) = absurd (broken (λ judged. absurd (above judged)))

  -- an `always` rule that is not kept fails at the position that is found, and at no earlier one
  found_is : (KeptRule tower run everywhere f → ⊥) → BrokenAt tower run everywhere f (position (lowest_position tower run f))
  unfolding lowest_position BrokenAt Before judged_rule
  found_is broken = (
    (place_fails (place_of fails inner) inside).0 (place_of_at fails inner 0 within),
    λ j l. (place_passes j.0 (omega (arith, inside))).0 (place_of_before fails inner j.0 0 l),
  )
    where
      within : place_of fails inner < length inner
      within =
          let not-all = false_by (every passes inner) (λ e. broken ((judged_rule_kept tower run everywhere f).0 e)) in
          let (i, listed, e) = every_false passes inner not-all in
          place_of_found fails listed (not_in e)

      inside : place_of fails inner < length run
      inside = omega (arith, within, length_below (length run))

  -- no other position is so
  found_only : (i : Position) → BrokenAt tower run everywhere f i → i ≡ position (lowest_position tower run f)
  unfolding lowest_position BrokenAt Before
  found_only i (broken, lower) =
      ap position (sym (place_of_first fails inner i.0 0 (omega (arith, inside, length_below (length run)))
      ((place_fails i.0 inside).1 broken) (λ j l. (place_passes j (omega (arith, inside))).1 (lower (position j) l))))
    where
      inside : i.0 < length run
      inside = fails_inside i.0 broken

-- A rule that is not kept is broken at the position that is found.
pub broken_place_is : (tower : Tower) (run : Trace) (form : Form) (f : Formula) → (KeptRule tower run form f → ⊥)
    → BrokenAt tower run form f (broken_place tower run form f)
unfolding broken_place BrokenAt
broken_place_is tower run everywhere f broken = found_is tower run f broken
broken_place_is tower run at_start f broken = refl

-- No other position is where the rule is broken.
pub broken_place_only : (tower : Tower) (run : Trace) (form : Form) (f : Formula) (i : Position) → BrokenAt tower run form f i
    → i ≡ broken_place tower run form f
unfolding broken_place BrokenAt
broken_place_only tower run everywhere f i broken = found_only tower run f i broken
broken_place_only tower run at_start f i broken = broken
