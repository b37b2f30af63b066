-- Every alternative that progression gives has a cell for each node, and every set is an ordered antichain and has at most 16.
use Prim.Native.Nat.{ℕ, ◌≤◌}
use native.Mathlib.Omega.{arith}
use mathlib.Core.Path.{◌≡◌, refl, ◌∙◌, ap, ap₂}
use mathlib.Core.Bool.{Bool, true, false}
use Rattle.std.specs.Prelude.{Option, None, Some}
use mathlib.Core.List.Memᴰ
use mathlib.Core.List.{List, [], ◌∷◌, ◌++◌}
use lib.ListN.{length, set, replicate, length-replicate, length-set}
use lib.Dec.{ltb}
use borrow.Author.Tests.{ltb-false, le-ltb}
use Rattle.base.specs.Choice.{pick}
use Rattle.logic.specs.Tower.{Tower}
use Rattle.logic.specs.Book.{Formula, nodes, Book}
use Rattle.logic.specs.declared.Tick.{Tick}
use Rattle.pending.specs.Pending.{Pending}
use Rattle.alternatives.specs.Alternatives.{Alternatives, over, these, broken, asks_no_more, earlier, together, set_of, most_alternatives, counted, combined, joined_with}
use Rattle.alternatives.specs.Progression.{nothing_pending, alone_pending, alternatives_of, alternatives_behind, progressed_set}
use Rattle.alternatives.specs.Antichain.{Antichain}
use Rattle.alternatives.proofs.Antichain.{AllSized, together_sized, append_sized, set_sized, set_antichain, set_of_antichain}
use Rattle.alternatives.proofs.Closed.{Closed, of_has, behind_has, progressed_has}
use Rattle.alternatives.proofs.Behind.{blank, both_blank_right}

-- What holds of all that is left after counting.
counted_by : (Has : Alternatives → Type 0) (ps : List Pending) → Has over → (length ps ≤ most_alternatives → Has (these ps)) → Has (counted ps)
unfolding counted
counted_by Has ps many few = go (ltb most_alternatives (length ps)) refl
  where
    go : (b : Bool) → ltb most_alternatives (length ps) ≡ b → Has (pick b (λ _. over) (λ _. these ps))
    go true e = many
    go false e = few (ltb-false most_alternatives (length ps) e)

-- Every alternative of the set has a cell for each node.
abbrev pub Sized : List Formula → Alternatives → Type 0
Sized fs over = Unit {0}
Sized fs (these ps) = AllSized fs ps

module _ (fs : List Formula) where
  one_sized : (p : Pending) → length p ≡ length fs → AllSized fs (p ∷ [])
  one_sized p e q m = ap length (Memᴰ.eq_of_singleton m) ∙ e

  both_are : (s t : Alternatives) → Sized fs s → Sized fs t → Sized fs (combined fs s t)
  unfolding combined
  both_are over t h k = tt
  both_are (these ps) over h k = tt
  both_are (these ps) (these qs) h k =
      counted_by (Sized fs) (set_of fs (together fs ps qs)) tt (λ few. set_sized fs (together fs ps qs) (together_sized fs ps qs))

  either_is : (s t : Alternatives) → Sized fs s → Sized fs t → Sized fs (joined_with fs s t)
  unfolding joined_with
  either_is over t h k = tt
  either_is (these ps) over h k = tt
  either_is (these ps) (these qs) h k =
      counted_by (Sized fs) (set_of fs (ps ++ qs)) tt (λ few. set_sized fs (ps ++ qs) (append_sized fs ps qs h k))

  sized_closed : Closed fs (Sized fs)
  unfolding nothing_pending alone_pending
  sized_closed =
      record {
        nothing = one_sized (replicate (length fs) None) (length-replicate {A = Option Tick} (length fs) None);
        alone = λ k r. one_sized (set (replicate (length fs) None) k (Some r))
            (length-set (replicate {A = Option Tick} (length fs) None) k (Some r) ∙ length-replicate {A = Option Tick} (length fs) None);
        none_left = λ p m. absurd (Memᴰ.not-nil m);
        both = both_are;
        either = either_is;
      }

  -- At most 16 are there.
  abbrev pub Few : Alternatives → Type 0
  Few over = Unit {0}
  Few (these ps) = length ps ≤ most_alternatives

  few_closed : Closed fs Few
  unfolding nothing_pending alone_pending combined joined_with most_alternatives
  few_closed =
      record {
        nothing = omega arith;
        alone = λ k r. omega arith;
        none_left = omega arith;
        both = few_both;
        either = few_either;
      }
    where
      few_both : (s t : Alternatives) → Few s → Few t → Few (combined fs s t)
      few_both over t h k = tt
      few_both (these ps) over h k = tt
      few_both (these ps) (these qs) h k = counted_by Few (set_of fs (together fs ps qs)) tt (λ few. few)

      few_either : (s t : Alternatives) → Few s → Few t → Few (joined_with fs s t)
      few_either over t h k = tt
      few_either (these ps) over h k = tt
      few_either (these ps) (these qs) h k = counted_by Few (set_of fs (ps ++ qs)) tt (λ few. few)

  -- They are in the one form.
  abbrev pub Ordered : Alternatives → Type 0
  Ordered over = Unit {0}
  Ordered (these ps) = Antichain (asks_no_more fs) earlier ps

  ordered_closed : Closed fs Ordered
  unfolding nothing_pending alone_pending combined joined_with Antichain
  ordered_closed =
      record {
        nothing = (λ p m. absurd (Memᴰ.not-nil m), tt);
        alone = λ k r. (λ p m. absurd (Memᴰ.not-nil m), tt);
        none_left = tt;
        both = ordered_both;
        either = ordered_either;
      }
    where
      ordered_both : (s t : Alternatives) → Ordered s → Ordered t → Ordered (combined fs s t)
      ordered_both over t h k = tt
      ordered_both (these ps) over h k = tt
      ordered_both (these ps) (these qs) h k =
          counted_by Ordered (set_of fs (together fs ps qs)) tt (λ few. set_antichain fs (together fs ps qs))

      ordered_either : (s t : Alternatives) → Ordered s → Ordered t → Ordered (joined_with fs s t)
      ordered_either over t h k = tt
      ordered_either (these ps) over h k = tt
      ordered_either (these ps) (these qs) h k = counted_by Ordered (set_of fs (ps ++ qs)) tt (λ few. set_antichain fs (ps ++ qs))

  -- ---- sets that stand

  -- counting leaves at most 16
  counted_few : (ps : List Pending) → length ps ≤ most_alternatives → counted ps ≡ these ps
  unfolding counted
  counted_few ps few = rw (le-ltb most_alternatives (length ps) few) refl

  -- A set in the one form is itself where it is joined with none.
  pub joined_none : (s : Alternatives) → Ordered s → Few s → joined_with fs broken s ≡ s
  unfolding joined_with
  joined_none over ordered few = refl
  joined_none (these ps) ordered few = rw (set_of_antichain fs ps ordered) (counted_few ps few)

  -- So it is with none,
  pub none_stands : joined_with fs broken broken ≡ broken
  none_stands = joined_none broken ordered_closed.none_left few_closed.none_left

  -- with what was joined,
  pub joined_stands : (s t : Alternatives) → joined_with fs broken (joined_with fs s t) ≡ joined_with fs s t
  unfolding joined_with
  joined_stands over t = refl
  joined_stands (these ps) over = refl
  joined_stands (these ps) (these qs) =
      counted_by (λ s. joined_with fs broken s ≡ s) (set_of fs (ps ++ qs)) refl
      (λ few. joined_none (these (set_of fs (ps ++ qs))) (set_antichain fs (ps ++ qs)) few)

  -- and with the alternatives of a node.
  pub of_alone : (tower : Tower) (x : ℕ) (d : Tick) (f : Formula) (k : ℕ) (r : Tick)
      → joined_with fs broken (alternatives_of tower fs x d f k r) ≡ alternatives_of tower fs x d f k r
  of_alone tower x d f k r =
      joined_none (alternatives_of tower fs x d f k r) (of_has fs Ordered ordered_closed tower x d f k r) (of_has fs Few few_closed tower x d f k r)

  -- each of some together with the one in which nothing is pending
  together_nothing : (ps : List Pending) → AllSized fs ps → together fs ps (blank fs ∷ []) ≡ ps
  unfolding together
  together_nothing [] sized = refl
  together_nothing (p ∷ ps) sized =
      ap₂ ◌∷◌ (both_blank_right fs p (sized p (Memᴰ.head refl))) (together_nothing ps (λ q m. sized q (Memᴰ.tail m)))

  nothing_kept : (ps : List Pending) → AllSized fs ps → Antichain (asks_no_more fs) earlier ps → length ps ≤ most_alternatives
      → combined fs (these ps) (nothing_pending fs) ≡ these ps
  unfolding combined nothing_pending
  nothing_kept ps sized ordered few = rw (together_nothing ps sized, set_of_antichain fs ps ordered) (counted_few ps few)

  -- What is combined stays where nothing more comes,
  pub combined_stands : (s t : Alternatives) → combined fs (combined fs s t) (nothing_pending fs) ≡ combined fs s t
  unfolding combined
  combined_stands over t = refl
  combined_stands (these ps) over = refl
  combined_stands (these ps) (these qs) =
      counted_by (λ s. combined fs s (nothing_pending fs) ≡ s) (set_of fs (together fs ps qs)) refl
      (λ few. nothing_kept (set_of fs (together fs ps qs)) (set_sized fs (together fs ps qs) (together_sized fs ps qs))
      (set_antichain fs (together fs ps qs)) few)

  -- and so does nothing itself.
  pub nothing_stands : combined fs (nothing_pending fs) (nothing_pending fs) ≡ nothing_pending fs
  unfolding nothing_pending
  nothing_stands = nothing_kept (blank fs ∷ []) sized_closed.nothing ordered_closed.nothing few_closed.nothing

module _ (tower : Tower) (book : Book) (x : ℕ) (d : Tick) (p : Pending) where
  -- What comes of one old alternative is itself where it is joined with none.
  pub behind_alone : joined_with (nodes book) broken (alternatives_behind tower book x d p) ≡ alternatives_behind tower book x d p
  behind_alone =
      joined_none (nodes book) (alternatives_behind tower book x d p)
      (behind_has tower book (Ordered (nodes book)) (ordered_closed (nodes book)) x d p)
      (behind_has tower book (Few (nodes book)) (few_closed (nodes book)) x d p)

module _ (tower : Tower) (book : Book) (x : ℕ) (d : Tick) (ps : List Pending) where
  -- A step leaves in every alternative a cell for each node,
  pub progressed_sized : Sized (nodes book) (progressed_set tower book x d ps)
  progressed_sized = progressed_has tower book (Sized (nodes book)) (sized_closed (nodes book)) x d ps

  -- leaves them in the one form,
  pub progressed_ordered : Ordered (nodes book) (progressed_set tower book x d ps)
  progressed_ordered = progressed_has tower book (Ordered (nodes book)) (ordered_closed (nodes book)) x d ps

  -- and leaves at most 16.
  pub progressed_few : Few (nodes book) (progressed_set tower book x d ps)
  progressed_few = progressed_has tower book (Few (nodes book)) (few_closed (nodes book)) x d ps
