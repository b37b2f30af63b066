-- Whether some `|` of a book has two timed sides, node by node.
use Prim.Native.Nat.{ℕ, ◌+◌, ◌<◌, ◌≤◌}
use native.Mathlib.Omega.{arith}
use mathlib.Core.Path.{◌≡◌, refl, sym, ◌∙◌, ap, subst}
use mathlib.Core.Bool.{Bool, true, false, ◌&&◌}
use mathlib.Core.List.Memᴰ
use mathlib.Core.List.{List, [], ◌∷◌, ◌++◌, Memᴰ}
use native.Mathlib.Decide.{dec_lt}
use Rattle.base.proofs.Lists.{not_in, and_both, mem_index, joined_in}
use Rattle.logic.specs.Book.{Formula, constant, proposition, and, or, next, always_for, until, timed, parts, nodes, Book}
use Rattle.logic.specs.Sides.{one_sided, OneSided}
use Rattle.reading.specs.BookArea.{node_code, nodes_in}
use Rattle.book_progression.specs.NodeBytes.{code_of, second_of, Stored, IsNode, HeldBook, IsHeld}
use Rattle.book_progression.specs.Promises.{AreNodes}
use Rattle.book_progression.proofs.Nodes.{by_kind, by_or, or_second}
use Rattle.book_progression.proofs.Progressing.{first_timed, first_untimed}
use Rattle.book_progression.proofs.BookHeld.{held_nodes, has_nodes}
use Rattle.book_alternatives.specs.Offers.{TimedAt, two_sided, TwoSidedAt, TwoTimed}

-- ---- one node

module _ (bytes : List ℕ) (k code : ℕ) (e : code ≡ code_of bytes k) where
  pub sided_other : (code ≡ 5 → ⊥) → TwoSidedAt false bytes k
  unfolding two_sided node_code Stored
  sided_other not_five =
      record {
        says = λ f s. by_kind bytes k (λ f. false ≡ two_sided f) f s
            (λ b s lo. refl) (λ a b s lo up. refl) (λ a b s at. refl)
            (λ g h s lo up. sym (ap (λ b. b && timed h) (first_untimed (timed g) (λ c. not_five (e ∙ s.0.code ∙ c)))))
            (λ a b c s lo up. refl) (λ a b s at. refl) (λ a b c s at. refl);
      }

  pub sided_or : (five : code ≡ 5) (p : ℕ) (b : Bool) → p ≡ second_of bytes k → TimedAt b bytes p → TwoSidedAt b bytes k
  unfolding two_sided node_code Stored
  sided_or five p b second right =
      record {
        says = λ f s. by_or bytes k (λ f. b ≡ two_sided f) f s (omega arith) (omega arith)
            (λ g h s. right.says h (or_second bytes k p g h s second)
            ∙ sym (ap (λ c. c && timed h) (first_timed (timed g) (sym s.0.code ∙ sym e ∙ five))));
      }

-- ---- all nodes

-- None of the nodes below k is so.
pub record NoneSided (bytes : List ℕ) (k : ℕ) : Type 0 where
  pub none : (j : ℕ) → j < k → TwoSidedAt false bytes j

pub none_start : (bytes : List ℕ) → NoneSided bytes 0
none_start bytes = record { none = λ j low. absurd (omega arith) }

pub none_more : (bytes : List ℕ) (k : ℕ) (b : Bool) → NoneSided bytes k → TwoSidedAt b bytes k → b ≡ false → NoneSided bytes (k + 1)
none_more bytes k b so here fails = record { none = λ j low. go j low (dec_lt j k) }
  where
    go : (j : ℕ) → j < k + 1 → Dec (j < k) → TwoSidedAt false bytes j
    go j low (yes l) = so.none j l
    go j low (no l) =
        let same : j ≡ k = omega arith in subst (TwoSidedAt false bytes) (sym same) (subst (λ c. TwoSidedAt c bytes k) fails here)

-- a formula none of whose nodes is so
parts_sided : (f : Formula) → ((g : Formula) → Memᴰ g (parts f) → two_sided g ≡ false) → one_sided f ≡ true
unfolding one_sided parts two_sided
parts_sided (constant b) h = refl
parts_sided (proposition w k) h = refl
parts_sided (and f g) h =
    and_both (parts_sided f (λ p m. h p (Memᴰ.append_left (parts g ++ (and f g ∷ [])) m)))
    (parts_sided g (λ p m. h p (Memᴰ.append_right (parts f) (Memᴰ.append_left (and f g ∷ []) m))))
parts_sided (or f g) h =
    and_both (not_in (h (or f g) (Memᴰ.append_right (parts f) (Memᴰ.append_right (parts g) (Memᴰ.head refl)))))
    (and_both (parts_sided f (λ p m. h p (Memᴰ.append_left (parts g ++ (or f g ∷ [])) m)))
    (parts_sided g (λ p m. h p (Memᴰ.append_right (parts f) (Memᴰ.append_left (or f g ∷ []) m)))))
parts_sided (next c t g) h = parts_sided g (λ p m. h p (Memᴰ.append_left (next c t g ∷ []) m))
parts_sided (always_for t g) h = parts_sided g (λ p m. h p (Memᴰ.append_left (always_for t g ∷ []) m))
parts_sided (until t f g) h =
    and_both (parts_sided f (λ p m. h p (Memᴰ.append_left (parts g ++ (until t f g ∷ [])) m)))
    (parts_sided g (λ p m. h p (Memᴰ.append_right (parts f) (Memᴰ.append_left (until t f g ∷ []) m))))

pub two_timed_none : (bytes : List ℕ) (k n : ℕ) → n ≡ nodes_in bytes → NoneSided bytes k → n ≤ k → TwoTimed false bytes
unfolding OneSided nodes
two_timed_none bytes k n all so past =
    record {
      says = λ e book held rule listed.
          parts_sided rule.formula (λ g m. at book held g (joined_in m (Memᴰ.map (λ rule. parts rule.formula) listed)));
    }
  where
    at : (book : Book) → HeldBook bytes book → (g : Formula) → Memᴰ g (nodes book) → two_sided g ≡ false
    at book held g m =
        let are : AreNodes bytes (nodes_in bytes) (nodes book) = held_nodes bytes book held (nodes_in bytes) refl in
        let (j, low, is) = mem_index (constant false) m in
        let low' : j < nodes_in bytes = omega (arith, are.all) in
        sym ((so.none j (omega arith)).says g (subst (λ f. Stored bytes f j) is (are.stored j low')))

pub two_timed_some : (bytes : List ℕ) → TwoTimed true bytes
two_timed_some bytes = record { says = λ e. absurd (let z : ◌≡◌ {A = ℕ} 0 1 = cc in omega arith) }

pub node_there : (bytes : List ℕ) (n k : ℕ) → n ≡ nodes_in bytes → IsHeld bytes → k < n → IsNode bytes k
node_there bytes n k all held low = (has_nodes bytes n all held).nodes k low
