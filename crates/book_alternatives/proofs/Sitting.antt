-- A formula that is stored as node k sits among the nodes that the bytes hold.
use Prim.Native.Nat.{ℕ, suc, ◌+◌, ◌-◌, ◌≤◌, ◌<◌}
use native.Mathlib.Omega.{arith}
use mathlib.Core.Path.{◌≡◌, refl, sym, ◌∙◌, ap, ap₂}
use mathlib.Core.Bool.{Bool, true, false}
use mathlib.Core.List.{List, [], ◌∷◌, ◌++◌, append_assoc}
use lib.ListN.{length, get_or, drop}
use lib.Seq.{drop-cons, drop-drop, drop-append_seam}
use lib.Dec.{eqb}
use Rattle.base.specs.Choice.{pick}
use Rattle.logic.specs.Time.{ticks}
use Rattle.logic.specs.Book.{Comparison, no_more, less, no_less, more, Formula, constant, proposition, and, or, next, always_for, until, timed, parts, size, first_part, second_part}
use Rattle.logic.specs.declared.Tick.{Tick}
use Rattle.pending.proofs.Nodes.{two_size, Stand, Sits}
use Rattle.reading.specs.BookArea.{comparison_code, node_code, node_number, node_first, node_second}
use Rattle.book_progression.specs.NodeBytes.{Stored}
use Rattle.book_progression.specs.Promises.{AreNodes}
use Rattle.book_progression.proofs.Nodes.{comparison_low, comparison_high, by_constant, by_mark, by_and, by_or, by_next, by_always, by_until, and_first, and_second, or_first, or_second, until_first, until_second, next_part, always_part}
use Rattle.book_alternatives.specs.Offers.{Rooted}
use Rattle.book_alternatives.proofs.Roots.{one_size, size_pos}

-- ---- one formula for each node

-- a comparison and a truth value by their codes
abbrev comparison_from : ℕ → Comparison
comparison_from n = pick (eqb n 7) (λ _. no_more) (λ _. pick (eqb n 8) (λ _. less) (λ _. pick (eqb n 9) (λ _. no_less) (λ _. more)))

comparison_back : (c : Comparison) → comparison_from (comparison_code c) ≡ c
unfolding comparison_code
comparison_back no_more = refl
comparison_back less = refl
comparison_back no_less = refl
comparison_back more = refl

constant_back : (b : Bool) → eqb (node_code (constant b)) 1 ≡ b
unfolding node_code
constant_back true = refl
constant_back false = refl

mark_back : (b : Bool) (m : ℕ) → eqb (node_code (proposition b m)) 3 ≡ b
unfolding node_code
mark_back true m = refl
mark_back false m = refl

-- the codes of a kind
constant_low : (b : Bool) → node_code (constant b) < 2
unfolding node_code
constant_low true = omega arith
constant_low false = omega arith

mark_codes : (b : Bool) (m : ℕ) → (1 < node_code (proposition b m)) × (node_code (proposition b m) < 4)
unfolding node_code
mark_codes true m = (omega arith, omega arith)
mark_codes false m = (omega arith, omega arith)

or_codes : (f g : Formula) → (4 < node_code (or f g)) × (node_code (or f g) < 7)
unfolding node_code
or_codes f g = go (timed f)
  where
    go : (b : Bool) → (4 < pick b (λ _. 5) (λ _. 6)) × (pick b (λ _. 5) (λ _. 6) < 7)
    go true = (omega arith, omega arith)
    go false = (omega arith, omega arith)

module _ (bytes : List ℕ) where
  -- Two formulas that are stored as one node are the same.
  pub stored_same : (f g : Formula) (k : ℕ) → Stored bytes f k → Stored bytes g k → g ≡ f
  unfolding Stored node_code node_number node_first node_second
  stored_same (constant b) g k s z =
      by_constant bytes k (λ h. h ≡ constant b) g z (omega (arith, s.code, constant_low b))
      (λ c z. ap constant (sym (constant_back c) ∙ ap (λ n. eqb n 1) (sym z.code ∙ s.code) ∙ constant_back b))
  stored_same (proposition w m) g k s z =
      by_mark bytes k (λ h. h ≡ proposition w m) g z (omega (arith, s.code, (mark_codes w m).0)) (omega (arith, s.code, (mark_codes w m).1))
      (λ v i z. ap₂ proposition (sym (mark_back v i) ∙ ap (λ n. eqb n 3) (sym z.code ∙ s.code) ∙ mark_back w m) (sym z.number ∙ s.number))
  stored_same (and a b) g k s z =
      by_and bytes k (λ h. h ≡ and a b) g z s.0.code
      (λ c e z. ap₂ and
      (stored_same a c (first_part k b) s.1 (and_first bytes k (first_part k b) c e z (sym s.0.first)))
      (stored_same b e (second_part k) s.2 (and_second bytes k (second_part k) c e z (sym s.0.second))))
  stored_same (or a b) g k s z =
      by_or bytes k (λ h. h ≡ or a b) g z (omega (arith, s.0.code, (or_codes a b).0)) (omega (arith, s.0.code, (or_codes a b).1))
      (λ c e z. ap₂ or
      (stored_same a c (first_part k b) s.1 (or_first bytes k (first_part k b) c e z (sym s.0.first)))
      (stored_same b e (second_part k) s.2 (or_second bytes k (second_part k) c e z (sym s.0.second))))
  stored_same (next x t b) g k s z =
      by_next bytes k (λ h. h ≡ next x t b) g z (omega (arith, s.0.code, comparison_low x)) (omega (arith, s.0.code, comparison_high x))
      (λ y u e z. next_same x y t u b e
      (sym (comparison_back y) ∙ ap comparison_from (sym z.0.code ∙ s.0.code) ∙ comparison_back x)
      (ap ticks (sym z.0.number ∙ s.0.number))
      (stored_same b e (second_part k) s.1 (next_part bytes k (second_part k) y u e z (sym s.0.second))))
    where
      next_same : (x y : Comparison) (t u : Tick) (b e : Formula) → y ≡ x → u ≡ t → e ≡ b → next y u e ≡ next x t b
      next_same x y t u b e p q r = rw (p, q, r) refl
  stored_same (always_for t b) g k s z =
      by_always bytes k (λ h. h ≡ always_for t b) g z s.0.code
      (λ u e z. ap₂ always_for (ap ticks (sym z.0.number ∙ s.0.number))
      (stored_same b e (second_part k) s.1 (always_part bytes k (second_part k) u e z (sym s.0.second))))
  stored_same (until t a b) g k s z =
      by_until bytes k (λ h. h ≡ until t a b) g z s.0.code
      (λ u c e z. until_same t u a c b e (ap ticks (sym z.0.number ∙ s.0.number))
      (stored_same a c (first_part k b) s.1 (until_first bytes k (first_part k b) u c e z (sym s.0.first)))
      (stored_same b e (second_part k) s.2 (until_second bytes k (second_part k) u c e z (sym s.0.second))))
    where
      until_same : (t u : Tick) (a c b e : Formula) → u ≡ t → c ≡ a → e ≡ b → until u c e ≡ until t a b
      until_same t u a c b e p q r = rw (p, q, r) refl

-- ---- rows of nodes

-- One row right behind another is one row.
stand_join : (all : List Formula) (n : ℕ) (xs ys : List Formula) → Stand all n xs → Stand all (n + length xs) ys → Stand all n (xs ++ ys)
stand_join all n xs ys one two =
    record {
      behind = two.behind;
      here = one.here ∙ ap (λ (l : List Formula). xs ++ l) next ∙ sym (append_assoc xs ys two.behind);
    }
  where
    next : one.behind ≡ ys ++ two.behind
    next = sym (drop-append_seam xs one.behind) ∙ ap (drop (length xs)) (sym one.here) ∙ drop-drop (length xs) n all ∙ two.here

module _ (bytes : List ℕ) (n : ℕ) (fs : List Formula) (are : AreNodes bytes n fs) where
  -- the node itself
  one_stands : (f : Formula) (k : ℕ) → Stored bytes f k → k < n → Stand fs k (f ∷ [])
  one_stands f k s low =
      let within : k < length fs = omega (arith, are.all) in
      record {
        behind = drop (suc k) fs;
        here = drop-cons fs k (constant false) within
            ∙ ap (λ h. h ∷ drop (suc k) fs) (stored_same bytes f (get_or fs k (constant false)) k s (are.stored k low));
      }

  two_stand : (h f g : Formula) (k low : ℕ) → parts h ≡ parts f ++ (parts g ++ (h ∷ [])) → k ≡ low + size f + size g → Stand fs low (parts f)
      → Stand fs (low + size f) (parts g) → Stand fs k (h ∷ []) → Stand fs low (parts h)
  unfolding size
  two_stand h f g k low e place one two last =
      rw e (stand_join fs low (parts f) (parts g ++ (h ∷ [])) one
      (stand_join fs (low + size f) (parts g) (h ∷ []) two (rw (← place) last)))

  -- the nodes of a formula stand in a row
  stands : (f : Formula) (k low : ℕ) → Stored bytes f k → k < n → low + size f ≡ k + 1 → Stand fs low (parts f)
  unfolding Stored parts size first_part second_part
  stands (constant b) k low s l e = let same : low ≡ k = omega arith in rw same (one_stands (constant b) k s l)
  stands (proposition w m) k low s l e = let same : low ≡ k = omega arith in rw same (one_stands (proposition w m) k s l)
  stands (and f g) k low s l e =
      let all = two_size (and f g) f g refl in
      two_stand (and f g) f g k low refl (omega (arith, all))
      (stands f (first_part k g) low s.1 (omega (arith, s.3)) (omega (arith, all, size_pos f)))
      (stands g (second_part k) (low + size f) s.2 (omega (arith, s.4)) (omega (arith, all, size_pos f)))
      (one_stands (and f g) k s l)
  stands (or f g) k low s l e =
      let all = two_size (or f g) f g refl in
      two_stand (or f g) f g k low refl (omega (arith, all))
      (stands f (first_part k g) low s.1 (omega (arith, s.3)) (omega (arith, all, size_pos f)))
      (stands g (second_part k) (low + size f) s.2 (omega (arith, s.4)) (omega (arith, all, size_pos f)))
      (one_stands (or f g) k s l)
  stands (next c t g) k low s l e =
      let all = one_size (next c t g) g refl in
      let place : low + size g ≡ k = omega (arith, all) in
      stand_join fs low (parts g) (next c t g ∷ []) (stands g (second_part k) low s.1 (omega (arith, s.2)) (omega (arith, all, size_pos g)))
      (rw place (one_stands (next c t g) k s l))
  stands (always_for t g) k low s l e =
      let all = one_size (always_for t g) g refl in
      let place : low + size g ≡ k = omega (arith, all) in
      stand_join fs low (parts g) (always_for t g ∷ []) (stands g (second_part k) low s.1 (omega (arith, s.2)) (omega (arith, all, size_pos g)))
      (rw place (one_stands (always_for t g) k s l))
  stands (until t f g) k low s l e =
      let all = two_size (until t f g) f g refl in
      two_stand (until t f g) f g k low refl (omega (arith, all))
      (stands f (first_part k g) low s.1 (omega (arith, s.3)) (omega (arith, all, size_pos f)))
      (stands g (second_part k) (low + size f) s.2 (omega (arith, s.4)) (omega (arith, all, size_pos f)))
      (one_stands (until t f g) k s l)

  -- A formula that is stored, and whose nodes have room before it, sits among them.
  pub stored_sits : (f : Formula) (k : ℕ) → Stored bytes f k → k < n → Rooted bytes 0 k → Sits fs f k
  stored_sits f k s low root =
      let few : size f ≤ k + 1 = omega (arith, root.numbers, ap size (stored_same bytes f root.formula k s root.stored)) in
      record {
        first = k + 1 - size f;
        row = stands f k (k + 1 - size f) s low (omega arith);
        last = omega arith;
      }
