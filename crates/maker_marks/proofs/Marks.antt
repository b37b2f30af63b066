-- Marks: what a byte says, and what more marks leave.
use Prim.Native.Nat.{ℕ, ◌+◌, ◌*◌, ◌≤◌, ◌<◌}
use native.Mathlib.Omega.{arith}
use native.Mathlib.Decide.{ℕ_discrete}
use mathlib.Core.Path.{◌≡◌, refl, sym, ◌∙◌, ap, subst}
use mathlib.Core.Bool.{true, false}
use mathlib.Core.List.{List}
use lib.ListN.{length, set, length-set}
use lib.Seq.{get_or-set_same, get_or-set_other}
use lib.Dec.{eqb}
use borrow.Author.Tests.{eq-eqb, ne_eqb}
use Rattle.base.specs.Bytes.{byte_at, number_at}
use Rattle.pair_graph.specs.Steps.{safe_in, class_in}
use Rattle.maker_marks.specs.Marks.{marked_in, noted_in, TrueMarks, MoreMarks, PairMarked}

-- ---- bytes

-- Equal bytes say the same.
pub marked_same : (marks after : List ℕ) (i : ℕ) → byte_at after i ≡ byte_at marks i → marked_in after i ≡ marked_in marks i
unfolding marked_in
marked_same marks after i e = ap (λ x. eqb x 1) e

-- A byte that is 1 is a mark,
pub one_marked : (marks : List ℕ) (i : ℕ) → byte_at marks i ≡ 1 → marked_in marks i ≡ true
unfolding marked_in
one_marked marks i e = eq-eqb (byte_at marks i) 1 e

-- and 0 is none.
pub zero_unmarked : (marks : List ℕ) (i : ℕ) → byte_at marks i ≡ 0 → marked_in marks i ≡ false
unfolding marked_in
zero_unmarked marks i e = rw e (ne_eqb 0 1 (λ z. omega arith))

-- A mark has the value of a safe pair's flag.
pub flag_marked : (flags marks : List ℕ) (i : ℕ) → byte_at marks i ≡ byte_at flags i → marked_in marks i ≡ safe_in flags i
unfolding marked_in safe_in
flag_marked flags marks i e = ap (λ x. eqb x 1) e

-- A pair of the list is as it was where its bytes are.
pub noted_same : (marks after : List ℕ) (p : ℕ) → ((q : ℕ) → 1000 ≤ q → q < 3000 → byte_at after q ≡ byte_at marks q) → p < 1000
    → noted_in after p ≡ noted_in marks p
unfolding number_at
noted_same marks after p same l =
    let low = same (1000 + 2 * p) (omega arith) (omega arith) in
    let high = same (1000 + 2 * p + 1) (omega arith) (omega arith) in
    omega arith

-- ---- more marks

-- None more,
pub more_none : (flags classes marks : List ℕ) → MoreMarks flags classes marks marks
more_none flags classes marks = record { still = λ i l e. e; list = λ q l m. refl; good = λ g. g }

-- and more than more.
pub more_yet : (flags classes marks after last : List ℕ) → MoreMarks flags classes marks after → MoreMarks flags classes after last
    → MoreMarks flags classes marks last
more_yet flags classes marks after last a b =
    record {
      still = λ i l e. b.still i l (a.still i l e);
      list = λ q l m. b.list q l m ∙ a.list q l m;
      good = λ g. b.good (a.good g);
    }

-- ---- one pair

module _ (flags classes : List ℕ) (i : ℕ) (marks : List ℕ) (small : i < 1000) (room : 3001 ≤ length marks) (safe : safe_in flags i ≡ true) where
  -- the mark is there,
  there : byte_at (set marks i 1) i ≡ 1
  there = get_or-set_same marks i 1 0 (omega arith)

  -- and every other byte as it was.
  else : (q : ℕ) → (q ≡ i → ⊥) → byte_at (set marks i 1) q ≡ byte_at marks q
  else q other = get_or-set_other marks i q 1 0 other

  module _ (after : List ℕ) (same : (q : ℕ) → q < 3000 → byte_at after q ≡ byte_at (set marks i 1) q) where
    -- Where the marks are so, the pair is marked,
    after_here : marked_in after i ≡ true
    after_here = one_marked after i (same i (omega arith) ∙ there)

    -- and the others are as they were.
    after_else : (k : ℕ) → k < 1000 → (k ≡ i → ⊥) → marked_in after k ≡ marked_in marks k
    after_else k l other = marked_same marks after k (same k (omega arith) ∙ else k other)

    -- What the byte behind the list must say is said.
    marked_more : (TrueMarks flags classes marks → (k : ℕ) → k < 1000 → marked_in after k ≡ true → class_in classes k ≡ k → byte_at after 3000 ≡ 1)
        → PairMarked flags classes i marks after
    marked_more told =
        record {
          more =
              record {
                still = still;
                list = λ q l m. same q m ∙ else q (λ e. omega arith);
                good = λ g. record { only_safe = only_safe g; told = told g };
              };
          here = λ _. after_here;
        }
      where
        still : (k : ℕ) → k < 1000 → marked_in marks k ≡ true → marked_in after k ≡ true
        still k l e =
            elim (ℕ_discrete k i) [
              | yes here ↦ subst (λ x. marked_in after x ≡ true) (sym here) after_here
              | no other ↦ after_else k l other ∙ e
            ]

        only_safe : TrueMarks flags classes marks → (k : ℕ) → k < 1000 → marked_in after k ≡ true → safe_in flags k ≡ true
        only_safe g k l e =
            elim (ℕ_discrete k i) [
              | yes here ↦ subst (λ x. safe_in flags x ≡ true) (sym here) safe
              | no other ↦ g.only_safe k l (sym (after_else k l other) ∙ e)
            ]

  -- A pair that is not the first of its class needs not be told of.
  pub marked_other : (class_in classes i ≡ i → ⊥) → PairMarked flags classes i marks (set marks i 1)
  marked_other not_first = marked_more (set marks i 1) (λ q l. refl) told
    where
      told : TrueMarks flags classes marks → (k : ℕ) → k < 1000 → marked_in (set marks i 1) k ≡ true → class_in classes k ≡ k
          → byte_at (set marks i 1) 3000 ≡ 1
      told g k l e first =
          elim (ℕ_discrete k i) [
            | yes here ↦ absurd (not_first (subst (λ x. class_in classes x ≡ x) here first))
            | no other ↦ else 3000 (λ z. omega arith)
                ∙ g.told k l (sym (after_else (set marks i 1) (λ q l. refl) k l other) ∙ e) first
          ]

  -- The first of its class is.
  pub marked_first : PairMarked flags classes i marks (set (set marks i 1) 3000 1)
  marked_first =
      marked_more (set (set marks i 1) 3000 1) (λ q l. get_or-set_other (set marks i 1) 3000 q 1 0 (λ e. omega arith))
      (λ g k l e first. get_or-set_same (set marks i 1) 3000 1 0 (omega (arith, length-set marks i 1)))
