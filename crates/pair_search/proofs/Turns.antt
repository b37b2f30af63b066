-- A breadth-first search by the number of the next one: what is still to be looked at is what was met from there on. One follower after the
-- other: those seen, with what is new.
use Prim.Native.Nat.{ℕ, zero, suc, ◌+◌, ◌-◌, ◌≤◌, ◌<◌}
use native.Mathlib.Omega.{arith}
use native.Mathlib.Numerals.{add-one}
use mathlib.Core.Path.{◌≡◌, refl, sym, ◌∙◌, ap, ap₂}
use mathlib.Core.Bool.{Bool, true, false}
use Rattle.std.specs.Prelude.{Option, None, Some}
use mathlib.Core.List.{List, [], ◌∷◌, ◌++◌, map}
use lib.ListN.{length, get_or, drop, drop_of_length-le}
use lib.Seq.{drop-cons, drop-append-le, append_snoc}
use borrow.Author.Tests.{lt-ltb, le-ltb}
use Rattle.base.specs.Choice.{pick}
use Rattle.base.specs.Lists.{some_of, count_from, present, total}
use Rattle.base.specs.Search.{new_ones, search_on}
use Rattle.pair_step.specs.Stepped.{with_one}

module _ {X : Type 0} (same : X → X → Bool) (followers : X → List X) (weight : X → ℕ) (most : ℕ) where
  search_turn : (n : ℕ) (seen : List X) (x : X) (todo : List X) → total (map weight seen) ≤ most
      → search_on same followers weight most (suc n) seen (x ∷ todo)
      ≡ search_on same followers weight most n (seen ++ new_ones same seen (followers x)) (todo ++ new_ones same seen (followers x))
  unfolding search_on
  search_turn n seen x todo l = rw (le-ltb most (total (map weight seen)) l)

  -- The followers of number i, which is x, are looked at.
  pub search_next : (fuel : ℕ) (seen : List X) (i : ℕ) (d x : X) → get_or seen i d ≡ x → i < length seen → total (map weight seen) ≤ most → i < fuel
      → search_on same followers weight most (fuel - i) seen (drop i seen)
      ≡ search_on same followers weight most (fuel - (i + 1)) (seen ++ new_ones same seen (followers x))
      (drop (i + 1) (seen ++ new_ones same seen (followers x)))
  search_next fuel seen i d x e l few more =
      let left : fuel - i ≡ suc (fuel - (i + 1)) = omega arith in
      let next : drop i seen ≡ x ∷ drop (i + 1) seen =
      drop-cons seen i d l ∙ ap₂ (λ z k. z ∷ drop k seen) e (sym (add-one i)) in
      let rest = drop-append-le (i + 1) seen (new_ones same seen (followers x)) (omega arith) in
      ap₂ (λ n todo. search_on same followers weight most n seen todo) left next
      ∙ search_turn (fuel - (i + 1)) seen x (drop (i + 1) seen) few
      ∙ ap (search_on same followers weight most (fuel - (i + 1)) (seen ++ new_ones same seen (followers x))) (sym rest)

  search_done : (n : ℕ) (seen : List X) → search_on same followers weight most n seen [] ≡ seen
  unfolding search_on
  search_done zero seen = refl
  search_done (suc n) seen = refl

  -- Nothing is left to do.
  pub search_end : (n : ℕ) (seen : List X) (i : ℕ) → length seen ≤ i → search_on same followers weight most n seen (drop i seen) ≡ seen
  search_end n seen i l = ap (search_on same followers weight most n seen) (drop_of_length-le seen l) ∙ search_done n seen

  -- They are too many.
  pub search_over : (n : ℕ) (seen todo : List X) → most < total (map weight seen) → search_on same followers weight most n seen todo ≡ seen
  unfolding search_on
  search_over zero seen todo l = refl
  search_over (suc n) seen [] l = refl
  search_over (suc n) seen (x ∷ todo) l = rw (lt-ltb most (total (map weight seen)) l)

-- ---- one follower after the other

-- The first of the numbers that are left, and the others.
pub numbers_cons : (a end : ℕ) → a < end → count_from a (end - a) ≡ a ∷ count_from (a + 1) (end - (a + 1))
unfolding count_from
numbers_cons a end l =
    let e : end - a ≡ suc (end - (a + 1)) = omega arith in
    ap (count_from a) e ∙ ap (λ z. a ∷ count_from z (end - (a + 1))) (sym (add-one a))

-- One follower: those seen with what is new, from here on.
pub one_more : {X : Type 0} (same : X → X → Bool) (seen : List X) (o : Option X) (os : List (Option X)) (all : List X) → all ≡ with_one same seen o
    → all ++ new_ones same all (present os) ≡ seen ++ new_ones same seen (present (o ∷ os))
unfolding with_one present
one_more same seen None os all e = rw e
one_more same seen (Some x) os all e = go (some_of (same x) seen) refl e
  where
    go : (b : Bool) → some_of (same x) seen ≡ b → all ≡ pick b (λ _. seen) (λ _. seen ++ (x ∷ []))
        → all ++ new_ones same all (present os) ≡ seen ++ new_ones same seen (x ∷ present os)
    go true t f = unfold new_ones in rw (t, f)
    go false t f = unfold new_ones in rw (t, f) (append_snoc seen x (new_ones same (seen ++ (x ∷ [])) (present os)))
