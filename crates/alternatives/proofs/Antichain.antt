-- Sets of alternatives: what is in them, what they cover, that they are ordered antichains and do not depend on the order, and how many there are.
use Prim.Native.Nat.{suc, ◌*◌, ◌≤◌}
use mathlib.Core.Path.{◌≡◌, refl, sym, ap, ◌∙◌}
use mathlib.Core.Logic.{⊎_elim}
use mathlib.Core.List.Memᴰ
use mathlib.Core.List.{List, [], ◌∷◌, ◌++◌, map, Memᴰ}
use native.Mathlib.Nat.{zero-mul, suc-mul}
use native.Mathlib.Omega.{arith}
use lib.ListN.{length, length-append, length-map}
use Rattle.logic.specs.Book.{Formula}
use Rattle.pending.specs.Pending.{Pending}
use Rattle.alternatives.specs.Antichain.{Antichain}
use Rattle.alternatives.specs.Alternatives.{later_cells, asks_no_more, earlier, set_of, both, together}
use Rattle.alternatives.proofs.Least as Least
use Rattle.alternatives.proofs.Least.{Covered}
use Rattle.alternatives.proofs.Orders.{alternatives_ordered, no_more_antisym}

-- Each alternative has a cell for each node.
abbrev pub AllSized : List Formula → List Pending → Type 0
AllSized fs ps = (p : Pending) → Memᴰ p ps → length p ≡ length fs

-- ---- Sizes

-- Both of two alternatives have a cell for each node.
pub both_sized : (fs : List Formula) (p q : Pending) → length (both fs p q) ≡ length fs
unfolding both
both_sized [] p q = refl
both_sized (f ∷ fs) p q = ap suc (both_sized fs (later_cells p) (later_cells q))

-- So has each of some together with each of others.
pub together_sized : (fs : List Formula) (ps qs : List Pending) → AllSized fs (together fs ps qs)
unfolding together
together_sized fs [] qs s m = absurd (Memᴰ.not-nil m)
together_sized fs (p ∷ ps) qs s m =
    ⊎_elim
    (λ k. let (q, _, e) = Memᴰ.of_map (both fs p) qs k in ap length (sym e) ∙ both_sized fs p q)
    (λ k. together_sized fs ps qs s k)
    (Memᴰ.append_cases (map (both fs p) qs) m)

-- Two lists of such alternatives, one after the other, are such a list.
pub append_sized : (fs : List Formula) (ps qs : List Pending) → AllSized fs ps → AllSized fs qs → AllSized fs (ps ++ qs)
append_sized fs ps qs a b p m = ⊎_elim (a p) (b p) (Memᴰ.append_cases ps m)

-- ---- Sets

module _ (fs : List Formula) where
  -- A set has only alternatives that it is made of.
  pub set_from : (ps : List Pending) {p : Pending} → Memᴰ p (set_of fs ps) → Memᴰ p ps
  unfolding set_of
  set_from ps m = Least.least_from (asks_no_more fs) earlier ps m

  -- Of each that it is made of it has one that asks no more.
  pub set_covers : (ps : List Pending) {p : Pending} → Memᴰ p ps → Covered (asks_no_more fs) (set_of fs ps) p
  unfolding set_of
  set_covers ps m = Least.least_covers (asks_no_more fs) earlier (alternatives_ordered fs) ps m

  -- A set is an ordered antichain.
  pub set_antichain : (ps : List Pending) → Antichain (asks_no_more fs) earlier (set_of fs ps)
  unfolding set_of
  set_antichain ps = Least.least_antichain (asks_no_more fs) earlier (alternatives_ordered fs) ps

  -- An antichain is its own set.
  pub set_of_antichain : (ps : List Pending) → Antichain (asks_no_more fs) earlier ps → set_of fs ps ≡ ps
  unfolding set_of
  set_of_antichain ps c = Least.least_kept (asks_no_more fs) earlier (alternatives_ordered fs) ps c

  -- What comes first may be dropped first.
  pub set_first : (ps qs : List Pending) → set_of fs (ps ++ qs) ≡ set_of fs (set_of fs ps ++ qs)
  unfolding set_of
  set_first ps qs = Least.least_first (asks_no_more fs) earlier (alternatives_ordered fs) ps qs

  -- A set has a cell for each node if what it is made of has.
  pub set_sized : (ps : List Pending) → AllSized fs ps → AllSized fs (set_of fs ps)
  set_sized ps sized p m = sized p (set_from ps m)

  -- A set has no more alternatives than it is made of.
  pub set_length : (ps : List Pending) → length (set_of fs ps) ≤ length ps
  unfolding set_of
  set_length ps = Least.least_length (asks_no_more fs) earlier ps

  -- Two antichains that cover each other are equal.
  pub set_unique : (ps qs : List Pending) → AllSized fs ps → AllSized fs qs → Antichain (asks_no_more fs) earlier ps
      → Antichain (asks_no_more fs) earlier qs → ((p : Pending) → Memᴰ p ps → Covered (asks_no_more fs) qs p)
      → ((q : Pending) → Memᴰ q qs → Covered (asks_no_more fs) ps q) → ps ≡ qs
  set_unique ps qs a b c d to fro =
      Least.antichain_unique (asks_no_more fs) earlier (alternatives_ordered fs) (λ p. length p ≡ length fs) (no_more_antisym fs) ps qs c d a b
      to fro

  -- Two lists that cover each other make the same set.
  pub set_same : (ps qs : List Pending) → AllSized fs ps → AllSized fs qs
      → ((p : Pending) → Memᴰ p ps → Covered (asks_no_more fs) qs p)
      → ((q : Pending) → Memᴰ q qs → Covered (asks_no_more fs) ps q) → set_of fs ps ≡ set_of fs qs
  unfolding set_of
  set_same ps qs a b to fro =
      Least.least_same (asks_no_more fs) earlier (alternatives_ordered fs) (λ p. length p ≡ length fs) (no_more_antisym fs) ps qs a b to fro

  -- It does not matter which come first.
  pub set_order : (ps qs : List Pending) → AllSized fs ps → AllSized fs qs → set_of fs (ps ++ qs) ≡ set_of fs (qs ++ ps)
  unfolding set_of
  set_order ps qs a b =
      Least.least_order (asks_no_more fs) earlier (alternatives_ordered fs) (λ p. length p ≡ length fs) (no_more_antisym fs) ps qs a b

  -- What comes last may be dropped first, too.
  pub set_last : (ps qs : List Pending) → AllSized fs ps → AllSized fs qs → set_of fs (ps ++ qs) ≡ set_of fs (ps ++ set_of fs qs)
  set_last ps qs a b = set_order ps qs a b ∙ set_first qs ps ∙ set_order (set_of fs qs) ps (set_sized qs b) a

-- ---- How many together

-- Each of some together with each of others: as many as the product.
pub together_length : (fs : List Formula) (ps qs : List Pending) → length (together fs ps qs) ≡ length ps * length qs
unfolding together
together_length fs [] qs = sym (zero-mul (length qs))
together_length fs (p ∷ ps) qs =
    omega (
      arith,
      length-append (map (both fs p) qs) (together fs ps qs),
      length-map qs (both fs p),
      together_length fs ps qs,
      suc-mul (length ps) (length qs),
    )
