-- Which numbers the nodes of a formula have: those of its parts lie apart, and below its own.
use Prim.Native.Nat.{ℕ, ◌+◌, ◌≤◌, ◌<◌}
use native.Mathlib.Omega.{arith}
use mathlib.Core.Path.{◌≡◌, refl}
use mathlib.Core.List.{List, [], ◌∷◌, ◌++◌}
use lib.ListN.{length-append}
use Rattle.logic.specs.Book.{Formula, constant, proposition, and, or, next, always_for, until, parts, size, first_part, second_part}
use Rattle.pending.proofs.Nodes.{two_size}
use Rattle.reading.specs.BookArea.{node_first, node_second}
use Rattle.book_progression.specs.NodeBytes.{code_of, first_of, second_of, Stored}
use Rattle.book_progression.proofs.Nodes.{by_kind, and_first, and_second, or_first, or_second, until_first, until_second, next_part, always_part}
use Rattle.book_alternatives.specs.Offers.{Rooted}

-- ---- sizes

pub one_size : (h g : Formula) → parts h ≡ parts g ++ (h ∷ []) → size h ≡ size g + 1
unfolding size
one_size h g e = rw e (omega (arith, length-append (parts g) (h ∷ [])))

-- a formula has a node
pub size_pos : (f : Formula) → 0 < size f
unfolding parts size
size_pos (constant b) = omega arith
size_pos (proposition w k) = omega arith
size_pos (and f g) = omega (arith, two_size (and f g) f g refl)
size_pos (or f g) = omega (arith, two_size (or f g) f g refl)
size_pos (next c t g) = omega (arith, one_size (next c t g) g refl)
size_pos (always_for t g) = omega (arith, one_size (always_for t g) g refl)
size_pos (until t f g) = omega (arith, two_size (until t f g) f g refl)

-- ---- parts

-- A part is rooted as its formula is, and its number is lower.
abbrev pub PartRooted : List ℕ → ℕ → ℕ → ℕ → Type 0
PartRooted bytes low k p = Rooted bytes low p × (p < k)

module _ (bytes : List ℕ) (low k : ℕ) (root : Rooted bytes low k) where
  pub first_rooted : (p : ℕ) → p ≡ first_of bytes k → 3 < code_of bytes k → (6 < code_of bytes k → code_of bytes k ≡ 12) → PartRooted bytes low k p
  unfolding Stored node_first first_part parts
  first_rooted p e has only =
      by_kind bytes k (λ f. low + size f ≤ k + 1 → PartRooted bytes low k p) root.formula root.stored
      (λ b s lo. absurd (omega arith)) (λ a b s lo up. absurd (omega arith))
      (λ g h s _ l. (
        record { formula = g; stored = and_first bytes k p g h s e; numbers = omega (arith, s.0.first, two_size (and g h) g h refl, size_pos g) },
        omega (arith, s.0.first, two_size (and g h) g h refl, size_pos g),
      ))
      (λ g h s _ _ l. (
        record { formula = g; stored = or_first bytes k p g h s e; numbers = omega (arith, s.0.first, two_size (or g h) g h refl, size_pos g) },
        omega (arith, s.0.first, two_size (or g h) g h refl, size_pos g),
      ))
      (λ a b c s lo up l. absurd (omega (arith, only lo))) (λ a b s at l. absurd (omega (arith, only (omega arith))))
      (λ t g h s _ l. (
        record { formula = g; stored = until_first bytes k p t g h s e; numbers = omega (arith, s.0.first, two_size (until t g h) g h refl, size_pos g) },
        omega (arith, s.0.first, two_size (until t g h) g h refl, size_pos g),
      ))
      root.numbers

  pub second_rooted : (p : ℕ) → p ≡ second_of bytes k → 3 < code_of bytes k → PartRooted bytes low k p
  unfolding Stored node_second second_part parts
  second_rooted p e has =
      by_kind bytes k (λ f. low + size f ≤ k + 1 → PartRooted bytes low k p) root.formula root.stored
      (λ b s lo. absurd (omega arith)) (λ a b s lo up. absurd (omega arith))
      (λ g h s _ l. (
        record { formula = h; stored = and_second bytes k p g h s e; numbers = omega (arith, s.0.second, two_size (and g h) g h refl, size_pos g) },
        omega (arith, s.0.second, two_size (and g h) g h refl, size_pos g),
      ))
      (λ g h s _ _ l. (
        record { formula = h; stored = or_second bytes k p g h s e; numbers = omega (arith, s.0.second, two_size (or g h) g h refl, size_pos g) },
        omega (arith, s.0.second, two_size (or g h) g h refl, size_pos g),
      ))
      (λ c t g s _ _ l. (
        record { formula = g; stored = next_part bytes k p c t g s e; numbers = omega (arith, s.0.second, one_size (next c t g) g refl, size_pos g) },
        omega (arith, s.0.second, one_size (next c t g) g refl, size_pos g),
      ))
      (λ t g s _ l. (
        record { formula = g; stored = always_part bytes k p t g s e; numbers = omega (arith, s.0.second, one_size (always_for t g) g refl, size_pos g) },
        omega (arith, s.0.second, one_size (always_for t g) g refl, size_pos g),
      ))
      (λ t g h s _ l. (
        record { formula = h; stored = until_second bytes k p t g h s e; numbers = omega (arith, s.0.second, two_size (until t g h) g h refl, size_pos g) },
        omega (arith, s.0.second, two_size (until t g h) g h refl, size_pos g),
      ))
      root.numbers

  -- The nodes of the second side lie behind the first.
  pub rooted_behind : (p q : ℕ) → p ≡ first_of bytes k → q ≡ second_of bytes k → 3 < code_of bytes k → code_of bytes k < 7 → Rooted bytes (p + 1) q
  unfolding Stored node_first node_second first_part second_part parts
  rooted_behind p q first second has few =
      by_kind bytes k (λ f. low + size f ≤ k + 1 → Rooted bytes (p + 1) q) root.formula root.stored
      (λ b s lo. absurd (omega arith)) (λ a b s lo up. absurd (omega arith))
      (λ g h s _ l. record {
        formula = h;
        stored = and_second bytes k q g h s second;
        numbers = omega (arith, s.0.first, s.0.second, two_size (and g h) g h refl, size_pos g);
      })
      (λ g h s _ _ l. record {
        formula = h;
        stored = or_second bytes k q g h s second;
        numbers = omega (arith, s.0.first, s.0.second, two_size (or g h) g h refl, size_pos g);
      })
      (λ a b c s lo up l. absurd (omega arith)) (λ a b s at l. absurd (omega arith)) (λ a b c s at l. absurd (omega arith)) root.numbers

  -- The first number is at most its own.
  pub root_low : low ≤ k
  root_low = omega (arith, root.numbers, size_pos root.formula)
