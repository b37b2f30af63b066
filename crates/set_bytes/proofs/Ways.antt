-- The ways through the code of this crate that are no loops: one more candidate, and what is left of two sets.
use Prim.Native.Nat.{ℕ, ◌+◌, ◌*◌, ◌≤◌, ◌<◌}
use native.Mathlib.Omega.{arith}
use native.Mathlib.Nat.{mul-le-mul}
use mathlib.Core.Path.{◌≡◌, refl, sym, ◌∙◌, ap}
use mathlib.Core.Bool.{Bool, true, false}
use mathlib.Core.List.{List, [], ◌++◌}
use lib.ListN.{length}
use lib.Dec.{ltb}
use borrow.Author.Tests.{lt-ltb, le-ltb}
use Rattle.base.specs.Choice.{pick}
use Rattle.base.specs.Lists.{some_of}
use Rattle.logic.specs.Book.{Formula}
use Rattle.pending.specs.Pending.{Pending}
use Rattle.alternatives.specs.Least.{placed, with_one_more, with_more, least}
use Rattle.alternatives.specs.Alternatives.{Alternatives, over, these, most_alternatives, asks_no_more, earlier, set_of, counted, combined, joined_with}
use Rattle.alternatives.proofs.Least.{more_append}
use Rattle.set_bytes.specs.SetBytes.{answered, set_in, candidate, chosen, pairs_of}
use Rattle.book_progression.specs.Promises.{AreNodes}
use Rattle.book_progression.proofs.Areas.{beside_none}
use Rattle.alternative_bytes.specs.declared.Relation.{Relation}
use Rattle.alternative_bytes.specs.declared.Relation.TheVariants as Told
use Rattle.set_bytes.specs.Promises.{LookedOver, Without, Placed, Replaced, Added, Gathered, EitherGathered, PutOut, Finished, Leaves, Combines, NothingToDrop, JoinsSets, SetsReady, RoomFor}
use Rattle.set_bytes.proofs.Chosen.{chosen_length}
use Rattle.set_bytes.proofs.Sets.{answered_these, answered_over}

-- ---- one more candidate

-- One of the chosen asks no more: they stay as they are.
pub add_covered : (r : Relation) (bytes : List ℕ) (n : ℕ) (room order : List ℕ) (m c : ℕ) → LookedOver r bytes n room order m c → r ≡ Told.NoMore
    → Added m bytes n room order m c order
unfolding with_one_more
add_covered r bytes n room order m c seen is =
    record {
      size = refl;
      most = omega arith;
      below = λ below. record { low = λ i l. omega (arith, below.low i l) };
      says = λ fs are.
          let some : some_of (λ (y : Pending). asks_no_more fs y (candidate room n c)) (chosen room n order m) ≡ true =
          sym ((seen.covered is).says fs are) in
          rw some refl;
    }

-- It takes its place among those that stay.
pub replaced : (bytes : List ℕ) (n : ℕ) (room order : List ℕ) (m c left : ℕ) (mid after : List ℕ) → Without left bytes n room order m c mid
    → Placed n room mid left c after → Replaced (left + 1) bytes n room order m c after
replaced bytes n room order m c left mid after stay there =
    record {
      size = there.size ∙ stay.size;
      most = omega (arith, stay.most);
      below = λ below. there.below (stay.below c below);
      says = λ fs are. there.says fs ∙ ap (placed (asks_no_more fs) earlier (candidate room n c)) (stay.says fs are);
    }

-- None of the chosen asks no more: some may be dropped,
pub add_replaced : (r : Relation) (bytes : List ℕ) (n : ℕ) (room order : List ℕ) (m c left : ℕ) (after : List ℕ) → Replaced left bytes n room order m c after
    → LookedOver r bytes n room order m c → (r ≡ Told.NoMore → ⊥) → Added left bytes n room order m c after
unfolding with_one_more
add_replaced r bytes n room order m c left after there seen other =
    record {
      size = there.size;
      most = there.most;
      below = there.below;
      says = λ fs are.
          let none : some_of (λ (y : Pending). asks_no_more fs y (candidate room n c)) (chosen room n order m) ≡ false =
          sym ((seen.needed other).says fs are) in
          rw none (there.says fs are);
    }

-- or all stay.
pub add_apart : (r : Relation) (bytes : List ℕ) (n : ℕ) (room order : List ℕ) (m c : ℕ) (after : List ℕ) → Placed n room order m c after
    → LookedOver r bytes n room order m c → r ≡ Told.Apart → Added (m + 1) bytes n room order m c after
add_apart r bytes n room order m c after there seen is =
    add_replaced r bytes n room order m c (m + 1) after (replaced bytes n room order m c m order after (seen.apart is) there) seen (λ e. absurd (cc))

-- ---- what is left

-- They are over 16: nothing is written.
pub finish_over : (n : ℕ) (room order : List ℕ) (left : ℕ) (sets : List ℕ) (to : ℕ) → 16 < left → left ≤ length order
    → Finished 17 n room order left sets to sets
unfolding answered counted most_alternatives
finish_over n room order left sets to many listed =
    let more : ltb 16 (length (chosen room n order left)) ≡ true =
    ap (ltb 16) (chosen_length room n order left listed) ∙ lt-ltb 16 left many in
    record { most = omega arith; beside = beside_none sets to 960; is = rw more refl }

-- They are at most 16, and written.
pub finish_put : (n : ℕ) (room order : List ℕ) (left : ℕ) (sets : List ℕ) (to : ℕ) (after : List ℕ) → PutOut n room order left sets to after
    → left ≤ 16 → left ≤ length order → Finished left n room order left sets to after
unfolding counted most_alternatives
finish_put n room order left sets to after put few listed =
    let no_more : ltb 16 (length (chosen room n order left)) ≡ false =
    ap (ltb 16) (chosen_length room n order left listed) ∙ le-ltb 16 left few in
    record {
      most = omega arith;
      beside = put.beside;
      is = answered_these after n to left few ∙ (rw no_more (ap these put.is));
    }

-- ---- two sets

-- A set is over 16: so is what comes of both.
combined_over : (fs : List Formula) (s t : Alternatives) → t ≡ over → combined fs s t ≡ over
unfolding combined
combined_over fs over t e = refl
combined_over fs (these ps) t e = rw e refl

joined_over : (fs : List Formula) (s t : Alternatives) → t ≡ over → joined_with fs s t ≡ over
unfolding joined_with
joined_over fs over t e = refl
joined_over fs (these ps) t e = rw e refl

-- Nothing is changed.
leaves_all : (sets : List ℕ) (to : ℕ) (room : List ℕ) → Leaves 17 sets to room sets room
leaves_all sets to room =
    record { most = omega arith; beside = beside_none sets to 960; candidates = record { size = refl; before = refl; behind = refl } }

module _ (bytes : List ℕ) (n : ℕ) (sets : List ℕ) (p a q b to : ℕ) (room : List ℕ) where
  -- The first set is over 16,
  pub combine_over : 16 < a → Combines 17 bytes n sets p a q b to room sets room
  unfolding combined
  combine_over many =
      let e = answered_over sets n p a many in
      record { leaves = leaves_all sets to room; says = λ fs are. answered_over sets n to 17 (omega arith) ∙ sym (rw e refl) }

  pub join_over : 16 < a → JoinsSets 17 bytes n sets p a q b to room sets room
  unfolding joined_with
  join_over many =
      let e = answered_over sets n p a many in
      record { leaves = leaves_all sets to room; says = λ fs are _. answered_over sets n to 17 (omega arith) ∙ sym (rw e refl) }

  -- or the second.
  pub combine_over_too : 16 < b → Combines 17 bytes n sets p a q b to room sets room
  combine_over_too many =
      record {
        leaves = leaves_all sets to room;
        says = λ fs are.
            answered_over sets n to 17 (omega arith)
            ∙ sym (combined_over fs (answered sets n p a) (answered sets n q b) (answered_over sets n q b many));
      }

  pub join_over_too : 16 < b → JoinsSets 17 bytes n sets p a q b to room sets room
  join_over_too many =
      record {
        leaves = leaves_all sets to room;
        says = λ fs are _.
            answered_over sets n to 17 (omega arith)
            ∙ sym (joined_over fs (answered sets n p a) (answered sets n q b) (answered_over sets n q b many));
      }

-- No candidate is chosen at first, so that all of them are gathered.
gathered_set : (r : ℕ) (bytes : List ℕ) (n : ℕ) (more : List Formula → List Pending) (room order : List ℕ) (k : ℕ) (room₁ order₁ : List ℕ)
    → Gathered r bytes n more room order 0 0 k room₁ order₁ → (fs : List Formula) → AreNodes bytes n fs
    → chosen room₁ n order₁ r ≡ set_of fs (more fs)
unfolding set_of least chosen
gathered_set r bytes n more room order k room₁ order₁ gathered fs are =
    gathered.says (record { low = λ i l. absurd (omega arith) }) fs are

module _ (r left : ℕ) (bytes : List ℕ) (n : ℕ) (sets : List ℕ) (p a q b to : ℕ) (room order : List ℕ) (k : ℕ) (room₁ order₁ after : List ℕ)
    (finished : Finished r n room₁ order₁ left sets to after) where
  leaves_by : (more : List Formula → List Pending) → Gathered left bytes n more room order 0 0 k room₁ order₁ → Leaves r sets to room after room₁
  leaves_by more gathered = record { most = finished.most; beside = finished.beside; candidates = gathered.candidates }

  pub combine_done : Gathered left bytes n (pairs_of sets n p a q b) room order 0 0 k room₁ order₁ → a ≤ 16 → b ≤ 16
      → Combines r bytes n sets p a q b to room after room₁
  unfolding pairs_of combined
  combine_done gathered few few_too =
      let e = answered_these sets n p a few in
      let f = answered_these sets n q b few_too in
      record {
        leaves = leaves_by (pairs_of sets n p a q b) gathered;
        says = λ fs are.
            finished.is ∙ ap counted (gathered_set left bytes n (pairs_of sets n p a q b) room order k room₁ order₁ gathered fs are)
            ∙ sym (rw (e, f) refl);
      }

-- What counting leaves is what was counted.
counted_these : (ps qs : List Pending) → counted ps ≡ these qs → ps ≡ qs
unfolding counted
counted_these ps qs = go (ltb most_alternatives (length ps))
  where
    go : (b : Bool) → pick b (λ _. over) (λ _. these ps) ≡ these qs → ps ≡ qs
    go true e = let z : ◌≡◌ {A = ℕ} 0 1 = cc in absurd (omega arith)
    go false e = cc

-- A set that has nothing to drop is its own set.
nothing_dropped : (fs : List Formula) (s : Alternatives) (ps : List Pending) → s ≡ these ps → NothingToDrop fs s → set_of fs ps ≡ ps
unfolding joined_with
nothing_dropped fs s ps e stands = counted_these (set_of fs ps) ps (rw e at stands)

-- The others are added to it as they would be to all.
added_to : (fs : List Formula) (ps qs : List Pending) → set_of fs ps ≡ ps → with_more (asks_no_more fs) earlier ps qs ≡ set_of fs (ps ++ qs)
unfolding set_of least
added_to fs ps qs same =
    ap (λ (ys : List Pending). with_more (asks_no_more fs) earlier ys qs) (sym same) ∙ sym (more_append (asks_no_more fs) earlier [] ps qs)

pub join_done : (r left : ℕ) (bytes : List ℕ) (n : ℕ) (sets : List ℕ) (p a q b to : ℕ) (room order room₁ order₁ after : List ℕ)
    → Finished r n room₁ order₁ left sets to after → EitherGathered left bytes n sets p a q b room order room₁ order₁ → a ≤ 16 → b ≤ 16
    → JoinsSets r bytes n sets p a q b to room after room₁
unfolding joined_with
join_done r left bytes n sets p a q b to room order room₁ order₁ after finished gathered few few_too =
    let e = answered_these sets n p a few in
    let f = answered_these sets n q b few_too in
    record {
      leaves = record { most = finished.most; beside = finished.beside; candidates = gathered.candidates };
      says = λ fs are stands.
          finished.is
          ∙ ap counted (gathered.says fs are
          ∙ added_to fs (set_in sets n p a) (set_in sets n q b) (nothing_dropped fs (answered sets n p a) (set_in sets n p a) e stands))
          ∙ sym (rw (e, f) refl);
    }

-- There is room for all candidates,
pub sets_room : (n : ℕ) (sets : List ℕ) (p q to : ℕ) (room order : List ℕ) → SetsReady n sets p q to room → length order ≡ 256
    → RoomFor 256 n room order 0 0
sets_room n sets p q to room order ready all =
    record {
      nodes = ready.nodes;
      candidates = ready.candidates;
      numbers = omega arith;
      few = omega arith;
      limit = omega arith;
    }

-- and for their numbers.
pub pairs_listed : (left : ℕ) (bytes : List ℕ) (n : ℕ) (more : List Formula → List Pending) (room order : List ℕ) (a b : ℕ) (room₁ order₁ : List ℕ)
    → Gathered left bytes n more room order 0 0 (b * a) room₁ order₁ → a ≤ 16 → b ≤ 16 → length order ≡ 256 → left ≤ length order₁
pairs_listed left bytes n more room order a b room₁ order₁ gathered few few_too all =
    let most : b * a ≤ 16 * 16 = mul-le-mul few_too few in
    omega (arith, gathered.most, gathered.size)

pub either_listed : (left : ℕ) (bytes : List ℕ) (n : ℕ) (sets : List ℕ) (p a q b : ℕ) (room order room₁ order₁ : List ℕ)
    → EitherGathered left bytes n sets p a q b room order room₁ order₁ → a ≤ 16 → b ≤ 16 → length order ≡ 256 → left ≤ length order₁
either_listed left bytes n sets p a q b room order room₁ order₁ gathered few few_too all = omega (arith, gathered.most, gathered.size)
