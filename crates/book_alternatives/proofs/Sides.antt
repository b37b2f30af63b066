-- Whether no `|` in a node has two timed sides, by the ways through `is_one_sided` and `has_leaf_parts`.
use Prim.Native.Nat.{ℕ, ◌≤◌, ◌<◌}
use native.Mathlib.Omega.{arith}
use mathlib.Core.Path.{◌≡◌, refl, sym, ◌∙◌}
use mathlib.Core.Bool.{Bool, true, false, not}
use mathlib.Core.List.{List}
use lib.Dec.{leb}
use borrow.Author.Tests.{not-false, leb-true}
use Rattle.base.proofs.Lists.{not_in, and_both}
use Rattle.logic.specs.Sides.{one_sided}
use Rattle.book_progression.specs.NodeBytes.{code_of, first_of, second_of}
use Rattle.book_progression.proofs.Nodes.{by_kind, by_until, and_first, and_second, or_first, or_second, until_first, until_second, next_part, always_part}
use Rattle.book_alternatives.specs.Offers.{two_sided, TwoSidedAt, OneSidedAt}

module _ (bytes : List ℕ) (k code : ℕ) (e : code ≡ code_of bytes k) where
  pub sides_leaf : code ≤ 3 → OneSidedAt true bytes k
  unfolding one_sided
  sides_leaf low =
      record {
        says = λ _ f s. by_kind bytes k (λ f. one_sided f ≡ true) f s
            (λ b s lo. refl) (λ a b s lo up. refl) (λ a b s at. absurd (omega arith)) (λ a b s lo up. absurd (omega arith))
            (λ a b c s lo up. absurd (omega arith)) (λ a b s at. absurd (omega arith)) (λ a b c s at. absurd (omega arith));
      }

  module _ (q : ℕ) (b : Bool) (second : q ≡ second_of bytes k) (right : OneSidedAt b bytes q) (so : not b ≡ false) where
    pub sides_only : 7 ≤ code → (code ≡ 12 → ⊥) → OneSidedAt true bytes k
    unfolding one_sided
    sides_only low other =
        record {
          says = λ _ f s. by_kind bytes k (λ f. one_sided f ≡ true) f s
              (λ b s lo. absurd (omega arith)) (λ a b s lo up. absurd (omega arith)) (λ a b s at. absurd (omega arith)) (λ a b s lo up. absurd (omega arith))
              (λ c t g s lo up. right.says (not-false b so) g (next_part bytes k q c t g s second))
              (λ t g s at. right.says (not-false b so) g (always_part bytes k q t g s second))
              (λ a b c s at. absurd (other (e ∙ at)));
        }

    module _ (p : ℕ) (c : Bool) (first : p ≡ first_of bytes k) (left : OneSidedAt c bytes p) where
      pub sides_until : code ≡ 12 → OneSidedAt c bytes k
      unfolding one_sided
      sides_until at =
          record {
            says = λ yes_it_is f s. by_until bytes k (λ f. one_sided f ≡ true) f s (sym e ∙ at)
                (λ t g h s. and_both (left.says yes_it_is g (until_first bytes k p t g h s first))
                (right.says (not-false b so) h (until_second bytes k q t g h s second)));
          }

      pub sides_both : 3 < code → code < 7 → (a : Bool) → TwoSidedAt a bytes k → a ≡ false → OneSidedAt c bytes k
      unfolding one_sided two_sided
      sides_both low high a sides not_so =
          record {
            says = λ yes_it_is f s. by_kind bytes k (λ f. one_sided f ≡ true) f s
                (λ b s lo. absurd (omega arith)) (λ a b s lo up. absurd (omega arith))
                (λ g h s at. and_both (left.says yes_it_is g (and_first bytes k p g h s first))
                (right.says (not-false b so) h (and_second bytes k q g h s second)))
                (λ g h s lo up. and_both (not_in (sym (sides.says _ s) ∙ not_so))
                (and_both (left.says yes_it_is g (or_first bytes k p g h s first)) (right.says (not-false b so) h (or_second bytes k q g h s second))))
                (λ a b c s lo up. absurd (omega arith)) (λ a b s at. absurd (omega arith)) (λ a b c s at. absurd (omega arith));
          }

-- ---- has_leaf_parts

module _ (bytes : List ℕ) (k code q part : ℕ) (e : code ≡ code_of bytes k) (second : q ≡ second_of bytes k) (low : part ≡ code_of bytes q)
    (leaf : part ≤ 3) where
  pub leaf_only : 7 ≤ code → (code ≡ 12 → ⊥) → OneSidedAt true bytes k
  leaf_only high other = sides_only bytes k code e q true second (sides_leaf bytes q part low leaf) refl high other

  pub leaf_both : (p other : ℕ) → p ≡ first_of bytes k → other ≡ code_of bytes p → code ≡ 12 → OneSidedAt (leb other 3) bytes k
  leaf_both p other first at_p until =
      record {
        says = λ few f s.
            (sides_until bytes k code e q true second (sides_leaf bytes q part low leaf) refl p true first
            (sides_leaf bytes p other at_p (leb-true other 3 few)) until).says refl f s;
      }
