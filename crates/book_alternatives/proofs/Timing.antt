-- Whether a node is timed, by the ways through `is_timed`.
use Prim.Native.Nat.{ℕ, ◌≤◌, ◌<◌}
use native.Mathlib.Omega.{arith}
use mathlib.Core.Path.{◌≡◌, refl, sym, ◌∙◌}
use mathlib.Core.Bool.{Bool, true, false}
use mathlib.Core.List.{List}
use Rattle.logic.specs.Book.{timed}
use Rattle.book_progression.specs.NodeBytes.{code_of, first_of, second_of}
use Rattle.book_progression.proofs.Nodes.{by_kind, and_first, and_second, or_first, or_second}
use Rattle.book_alternatives.specs.Offers.{TimedAt}

module _ (bytes : List ℕ) (k code : ℕ) (e : code ≡ code_of bytes k) where
  pub timed_leaf : code ≤ 3 → TimedAt false bytes k
  unfolding timed
  timed_leaf low =
      record {
        says = λ f s. by_kind bytes k (λ f. false ≡ timed f) f s
            (λ b s lo. refl) (λ a b s lo up. refl) (λ a b s at. absurd (omega arith)) (λ a b s lo up. absurd (omega arith))
            (λ a b c s lo up. absurd (omega arith)) (λ a b s at. absurd (omega arith)) (λ a b c s at. absurd (omega arith));
      }

  pub timed_node : 7 ≤ code → TimedAt true bytes k
  unfolding timed
  timed_node high =
      record {
        says = λ f s. by_kind bytes k (λ f. true ≡ timed f) f s
            (λ b s lo. absurd (omega arith)) (λ a b s lo up. absurd (omega arith)) (λ a b s at. absurd (omega arith)) (λ a b s lo up. absurd (omega arith))
            (λ a b c s lo up. refl) (λ a b s at. refl) (λ a b c s at. refl);
      }

  module _ (low : 3 < code) (high : code < 7) (p : ℕ) (a : Bool) (first : p ≡ first_of bytes k) (left : TimedAt a bytes p) where
    pub timed_first : a ≡ true → TimedAt true bytes k
    unfolding timed
    timed_first so =
        record {
          says = λ f s. by_kind bytes k (λ f. true ≡ timed f) f s
              (λ b s lo. absurd (omega arith)) (λ a b s lo up. absurd (omega arith))
              (λ g h s at. sym (rw (← left.says g (and_first bytes k p g h s first), so)))
              (λ g h s lo up. sym (rw (← left.says g (or_first bytes k p g h s first), so)))
              (λ a b c s lo up. absurd (omega arith)) (λ a b s at. absurd (omega arith)) (λ a b c s at. absurd (omega arith));
        }

    pub timed_second : (q : ℕ) (b : Bool) → a ≡ false → q ≡ second_of bytes k → TimedAt b bytes q → TimedAt b bytes k
    unfolding timed
    timed_second q b not_so second right =
        record {
          says = λ f s. by_kind bytes k (λ f. b ≡ timed f) f s
              (λ b s lo. absurd (omega arith)) (λ a b s lo up. absurd (omega arith))
              (λ g h s at. right.says h (and_second bytes k q g h s second) ∙ sym (rw (← left.says g (and_first bytes k p g h s first), not_so)))
              (λ g h s lo up. right.says h (or_second bytes k q g h s second) ∙ sym (rw (← left.says g (or_first bytes k p g h s first), not_so)))
              (λ a b c s lo up. absurd (omega arith)) (λ a b s at. absurd (omega arith)) (λ a b c s at. absurd (omega arith));
        }
