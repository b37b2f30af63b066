-- Whether an untimed formula holds, by the ways through `holds`.
use Prim.Native.Nat.{ℕ, ◌≤◌, ◌<◌}
use native.Mathlib.Omega.{arith}
use mathlib.Core.Path.{◌≡◌, refl, sym, ◌∙◌}
use mathlib.Core.Bool.{Bool, true, false, beq}
use mathlib.Core.List.{List}
use lib.Dec.{eqb}
use Rattle.logic.specs.Tower.{bit}
use Rattle.logic.specs.Book.{constant, proposition}
use Rattle.pending.specs.Pending.{holds}
use Rattle.reading.specs.BookArea.{node_code, node_number}
use Rattle.book_progression.specs.NodeBytes.{code_of, number_of, first_of, second_of, NodeIs, Stored, MarkedState}
use Rattle.book_progression.specs.Promises.{HoldsAt}
use Rattle.book_progression.proofs.Nodes.{by_kind, by_constant, by_mark, by_and, by_or, and_first, and_second, or_first, or_second}

module _ (bytes : List ℕ) (k mask : ℕ) where
  pub holds_constant : (code : ℕ) → code ≡ code_of bytes k → code ≤ 1 → HoldsAt (eqb code 1) bytes k mask
  unfolding holds Stored node_code
  holds_constant code e low = record { says = λ f s at. by_constant bytes k (λ f. eqb code 1 ≡ holds at.tower at.state f) f s (omega arith) go }
    where
      go : (b : Bool) → NodeIs bytes k (constant b) → eqb code 1 ≡ b
      go true s = let one : code ≡ 1 = e ∙ s.code in rw one
      go false s = let zero : code ≡ 0 = e ∙ s.code in rw zero

  pub holds_mark : (code m : ℕ) (there : Bool) → code ≡ code_of bytes k → 1 < code → code ≤ 3 → m ≡ number_of bytes k → there ≡ bit m mask
      → HoldsAt (beq there (eqb code 3)) bytes k mask
  unfolding holds Stored node_code node_number
  holds_mark code m there e low high number bit_is =
      record {
        says = λ f s at. by_mark bytes k (λ f. beq there (eqb code 3) ≡ holds at.tower at.state f) f s (omega arith) (omega arith)
            (λ w i s. go at i w s (number ∙ s.number));
      }
    where
      go : (at : MarkedState mask) (i : ℕ) (w : Bool) → NodeIs bytes k (proposition w i) → m ≡ i
          → beq there (eqb code 3) ≡ beq (at.tower.marked at.state i) w
      go at i true s same = let three : code ≡ 3 = e ∙ s.code in rw (three, bit_is, same, ← at.marks i)
      go at i false s same = let two : code ≡ 2 = e ∙ s.code in rw (two, bit_is, same, ← at.marks i)

  pub holds_timed : (code : ℕ) → code ≡ code_of bytes k → 7 ≤ code → HoldsAt false bytes k mask
  unfolding holds
  holds_timed code e high =
      record {
        says = λ f s at. by_kind bytes k (λ f. false ≡ holds at.tower at.state f) f s
            (λ b s lo. absurd (omega arith)) (λ a b s lo up. absurd (omega arith)) (λ a b s at. absurd (omega arith)) (λ a b s lo up. absurd (omega arith))
            (λ a b c s lo up. refl) (λ a b s at. refl) (λ a b c s at. refl);
      }

  module _ (code p : ℕ) (a : Bool) (e : code ≡ code_of bytes k) (first : p ≡ first_of bytes k) (left : HoldsAt a bytes p mask) where
    pub holds_and_not : code ≡ 4 → a ≡ false → HoldsAt false bytes k mask
    unfolding holds
    holds_and_not four fails =
        record {
          says = λ f s at. by_and bytes k (λ f. false ≡ holds at.tower at.state f) f s (omega arith)
              (λ g h s. sym (rw (← left.says g (and_first bytes k p g h s first) at, fails)));
        }

    pub holds_and : (q : ℕ) (b : Bool) → code ≡ 4 → a ≡ true → q ≡ second_of bytes k → HoldsAt b bytes q mask → HoldsAt b bytes k mask
    unfolding holds
    holds_and q b four passes second right =
        record {
          says = λ f s at. by_and bytes k (λ f. b ≡ holds at.tower at.state f) f s (omega arith)
              (λ g h s. sym (rw (← left.says g (and_first bytes k p g h s first) at, passes, ← right.says h (and_second bytes k q g h s second) at)));
        }

    pub holds_or_first : 3 < code → code < 7 → (code ≡ 4 → ⊥) → a ≡ true → HoldsAt true bytes k mask
    unfolding holds
    holds_or_first low high other passes =
        record {
          says = λ f s at. by_or bytes k (λ f. true ≡ holds at.tower at.state f) f s (omega arith) (omega arith)
              (λ g h s. sym (rw (← left.says g (or_first bytes k p g h s first) at, passes)));
        }

    pub holds_or : (q : ℕ) (b : Bool) → 3 < code → code < 7 → (code ≡ 4 → ⊥) → a ≡ false → q ≡ second_of bytes k → HoldsAt b bytes q mask
        → HoldsAt b bytes k mask
    unfolding holds
    holds_or q b low high other fails second right =
        record {
          says = λ f s at. by_or bytes k (λ f. b ≡ holds at.tower at.state f) f s (omega arith) (omega arith)
              (λ g h s. sym (rw (← left.says g (or_first bytes k p g h s first) at, fails, ← right.says h (or_second bytes k q g h s second) at)));
        }
