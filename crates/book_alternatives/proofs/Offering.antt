-- The set of a node, by the ways through `offer`.
use Prim.Native.Nat.{ℕ, ◌+◌, ◌*◌, ◌≤◌, ◌<◌}
use native.Mathlib.Omega.{arith}
use mathlib.Core.Path.{◌≡◌, refl, sym, ◌∙◌, ap, ap₂}
use mathlib.Core.Bool.{true, false, true≢false}
use mathlib.Core.List.{List}
use lib.ListN.{length}
use Rattle.base.proofs.Lists.{whether}
use Rattle.logic.specs.Time.{ticks}
use Rattle.logic.specs.Book.{Formula, first_part, second_part}
use Rattle.logic.specs.declared.Tick.{Tick}
use Rattle.pending.specs.Pending.{fresh}
use Rattle.reading.specs.BookArea.{node_first, node_second}
use Rattle.alternatives.specs.Progression.{alone_pending, if_so, alternatives_of}
use Rattle.alternatives.proofs.Sized.{of_alone}
use Rattle.book_progression.specs.NodeBytes.{code_of, first_of, second_of, fresh_of, Stored, IsNode, MarkedState}
use Rattle.book_progression.specs.Promises.{AreNodes}
use Rattle.book_progression.proofs.Nodes.{by_kind, and_first, and_second, or_first, or_second, until_first, until_second, next_part, always_part, is_node, fresh_is, fresh_low}
use Rattle.set_bytes.specs.SetBytes.{answered}
use Rattle.set_bytes.specs.Promises.{NothingToDrop}
use Rattle.book_alternatives.specs.declared.SetAt.{SetAt}
use Rattle.book_alternatives.specs.Looking.{first_comes, second_comes, part_pending, staying, of_two, has_part, has_first, looked_at}
use Rattle.book_alternatives.specs.declared.Look.{Look}
use Rattle.book_alternatives.specs.declared.Look.TheVariants as Seen
use Rattle.book_alternatives.specs.Offers.{ChangedIn, OwnSet, Tested, Alone, Looked, StayReady, Stayed, TwoReady, OfTwo, Rooted, OfferReady, OfferLeaves, Offered}
use Rattle.book_alternatives.proofs.Sets.{changed_both, changed_wider, changed_beside, candidates_none, candidates_both, kept_before}
use Rattle.book_alternatives.proofs.Roots.{PartRooted, first_rooted, second_rooted, rooted_behind, root_low}

-- ---- the sets of the parts

module _ (bytes : List ℕ) (n p : ℕ) (q : Tick) (mask : ℕ) (d : Tick) (one : SetAt) (sets room after after_room : List ℕ)
    (call : Offered one bytes n p q mask d sets room after after_room) (new : q ≡ ticks (fresh_of bytes p)) (fs : List Formula) (are : AreNodes bytes n fs)
    (at : MarkedState mask) where
  -- A part that starts anew, at the place where the formula has it.
  child : (place : ℕ) (g : Formula) → p ≡ place → Stored bytes g p
      → alternatives_of at.tower fs at.state d g place (fresh g) ≡ answered after n one.at one.count
  child place g same stored = rw (← same, ← fresh_is bytes p g stored, ← new) (sym (call.says g stored fs are at))

  first_said : (k : ℕ) (f : Formula) → Stored bytes f k → p ≡ first_of bytes k → 3 < code_of bytes k → (6 < code_of bytes k → code_of bytes k ≡ 12)
      → first_comes at.tower fs at.state d f k ≡ answered after n one.at one.count
  unfolding first_comes Stored node_first
  first_said k f stored e has only =
      by_kind bytes k (λ f. first_comes at.tower fs at.state d f k ≡ answered after n one.at one.count) f stored
      (λ b s lo. absurd (omega arith)) (λ a b s lo up. absurd (omega arith))
      (λ g h s _. child (first_part k h) g (e ∙ s.0.first) (and_first bytes k p g h s e))
      (λ g h s _ _. child (first_part k h) g (e ∙ s.0.first) (or_first bytes k p g h s e))
      (λ a b c s lo up. absurd (omega (arith, only lo))) (λ a b s at. absurd (omega (arith, only (omega arith))))
      (λ t g h s _. child (first_part k h) g (e ∙ s.0.first) (until_first bytes k p t g h s e))

  second_said : (k : ℕ) (f : Formula) → Stored bytes f k → p ≡ second_of bytes k → 3 < code_of bytes k
      → second_comes at.tower fs at.state d f k ≡ answered after n one.at one.count
  unfolding second_comes Stored node_second
  second_said k f stored e has =
      by_kind bytes k (λ f. second_comes at.tower fs at.state d f k ≡ answered after n one.at one.count) f stored
      (λ b s lo. absurd (omega arith)) (λ a b s lo up. absurd (omega arith))
      (λ g h s _. child (second_part k) h (e ∙ s.0.second) (and_second bytes k p g h s e))
      (λ g h s _ _. child (second_part k) h (e ∙ s.0.second) (or_second bytes k p g h s e))
      (λ c t g s _ _. child (second_part k) g (e ∙ s.0.second) (next_part bytes k p c t g s e))
      (λ t g s _. child (second_part k) g (e ∙ s.0.second) (always_part bytes k p t g s e))
      (λ t g h s _. child (second_part k) h (e ∙ s.0.second) (until_second bytes k p t g h s e))

-- its part alone, which becomes pending
pending_said : (bytes : List ℕ) (k p : ℕ) (q : Tick) (fs : List Formula) (f : Formula) → Stored bytes f k → p ≡ second_of bytes k
    → 3 < code_of bytes k → q ≡ ticks (fresh_of bytes p) → alone_pending fs p q ≡ part_pending fs f k
unfolding part_pending Stored node_second
pending_said bytes k p q fs f stored e has new =
    by_kind bytes k (λ f. alone_pending fs p q ≡ part_pending fs f k) f stored
    (λ b s lo. absurd (omega arith)) (λ a b s lo up. absurd (omega arith))
    (λ g h s _. alike (second_part k) h (e ∙ s.0.second) (and_second bytes k p g h s e))
    (λ g h s _ _. alike (second_part k) h (e ∙ s.0.second) (or_second bytes k p g h s e))
    (λ c t g s _ _. alike (second_part k) g (e ∙ s.0.second) (next_part bytes k p c t g s e))
    (λ t g s _. alike (second_part k) g (e ∙ s.0.second) (always_part bytes k p t g s e))
    (λ t g h s _. alike (second_part k) h (e ∙ s.0.second) (until_second bytes k p t g h s e))
  where
    alike : (place : ℕ) (g : Formula) → p ≡ place → Stored bytes g p → alone_pending fs p q ≡ alone_pending fs place (fresh g)
    alike place g same stored = ap₂ (alone_pending fs) same (new ∙ fresh_is bytes p g stored)

-- ---- the part that is looked at

-- The part of node k that is looked at, or becomes pending.
pub record LookedPart (p : ℕ) (bytes : List ℕ) (k : ℕ) (look : Look) : Type 0 where
  pub second : has_first look ≡ false → p ≡ second_of bytes k
  pub first : has_first look ≡ true → p ≡ first_of bytes k

pub part_second : (p : ℕ) (bytes : List ℕ) (k : ℕ) (look : Look) → p ≡ second_of bytes k → has_first look ≡ false → LookedPart p bytes k look
part_second p bytes k look e is = record { second = λ _. e; first = λ f. absurd (true≢false (sym f ∙ is)) }

pub part_first : (p : ℕ) (bytes : List ℕ) (k : ℕ) (look : Look) → p ≡ first_of bytes k → has_first look ≡ true → LookedPart p bytes k look
part_first p bytes k look e is = record { second = λ f. absurd (true≢false (sym is ∙ f)); first = λ _. e }

module _ (bytes : List ℕ) (k : ℕ) (r : Tick) (mask : ℕ) (d : Tick) (look : Look) (p : ℕ) (looked : Looked look bytes k r mask d)
    (part : LookedPart p bytes k look) (more : has_part look ≡ true) where
  part_rooted : (low : ℕ) → Rooted bytes low k → PartRooted bytes low k p
  part_rooted low root =
      whether (has_first look)
      (λ is. first_rooted bytes low k root p (part.first is) (looked.second more) (looked.first is))
      (λ is. second_rooted bytes low k root p (part.second is) (looked.second more))

  -- What is asked of it.
  pub part_node : (n : ℕ) (sets room : List ℕ) → OfferReady bytes n k r sets room → IsNode bytes p
  part_node n sets room ready = let root = (part_rooted 0 ready.rooted).0 in is_node bytes p root.formula root.stored

  pub part_inside : (n : ℕ) (sets room : List ℕ) → OfferReady bytes n k r sets room → p < n
  part_inside n sets room ready = omega (arith, (part_rooted 0 ready.rooted).1, ready.node)

  pub part_ready : (n : ℕ) (sets room : List ℕ) → OfferReady bytes n k r sets room → (q : Tick) → q ≡ ticks (fresh_of bytes p) → (t : ℕ) → k ≡ t
      → (p < t) × OfferReady bytes n p q sets room
  part_ready n sets room ready q new t is =
      let (root, low) = part_rooted 0 ready.rooted in (
        omega arith,
        record {
          nodes = ready.nodes;
          few = ready.few;
          node = omega (arith, ready.node);
          left = rw new (fresh_low bytes p (is_node bytes p root.formula root.stored));
          rooted = root;
          sets_room = ready.sets_room;
          candidates_room = ready.candidates_room;
        },
      )

-- ---- what is left

pub own_leaves : (out : SetAt) (bytes : List ℕ) (k : ℕ) (sets room after : List ℕ) → OwnSet out k sets after → OfferLeaves out bytes k sets room after room
own_leaves out bytes k sets room after own =
    record {
      most = omega (arith, own.most);
      high = omega (arith, own.place);
      low = λ low root. omega (arith, own.place, root_low bytes low k root);
      changed = λ low root. changed_beside sets (960 * k) 960 after (960 * low) (960 * (k + 1)) own.beside (omega (arith, root_low bytes low k root))
          (omega arith);
      candidates = candidates_none room;
    }

module _ (bytes : List ℕ) (n k : ℕ) (r : Tick) (mask : ℕ) (d : Tick) (sets room : List ℕ) (look : Look) (looked : Looked look bytes k r mask d) where
  -- ---- nothing is looked at

  pub offered_broken : (out : SetAt) (after : List ℕ) → Tested out false n k sets after → look ≡ Seen.Broken
      → Offered out bytes n k r mask d sets room after room
  unfolding looked_at if_so
  offered_broken out after tested is =
      record {
        leaves = own_leaves out bytes k sets room after tested.own;
        says = λ f s fs are at. tested.says fs are.all ∙ sym (looked.says f s fs at ∙ rw is refl);
      }

  pub offered_passes : (out : SetAt) (after : List ℕ) → Tested out true n k sets after → look ≡ Seen.Passes
      → Offered out bytes n k r mask d sets room after room
  unfolding looked_at if_so
  offered_passes out after tested is =
      record {
        leaves = own_leaves out bytes k sets room after tested.own;
        says = λ f s fs are at. tested.says fs are.all ∙ sym (looked.says f s fs at ∙ rw is refl);
      }

  module _ (p : ℕ) (part : LookedPart p bytes k look) (more : has_part look ≡ true) (q : Tick) (new : q ≡ ticks (fresh_of bytes p)) where
    -- ---- its part becomes pending

    pub offered_alone : (out : SetAt) (after : List ℕ) → Alone out n k p q sets after → look ≡ Seen.Part → Offered out bytes n k r mask d sets room after room
    unfolding looked_at
    offered_alone out after alone is =
        record {
          leaves = own_leaves out bytes k sets room after alone.own;
          says = λ f s fs are at.
              alone.says fs are.all ∙ pending_said bytes k p q fs f s (part.second (ap has_first is)) (looked.second more) new
              ∙ sym (looked.says f s fs at ∙ rw is refl);
        }

    -- ---- one part

    module _ (one : SetAt) (mid mid_room : List ℕ) (call : Offered one bytes n p q mask d sets room mid mid_room)
        (ready : OfferReady bytes n k r sets room) where
      low : p < k
      low = (part_rooted bytes k r mask d look p looked part more 0 ready.rooted).1

      -- the areas are as long as they were
      sets_size_same : length mid ≡ length sets
      sets_size_same = (call.leaves.changed 0 (part_rooted bytes k r mask d look p looked part more 0 ready.rooted).0).size

      changed_part : (from : ℕ) → Rooted bytes from k → ChangedIn sets (960 * from) (960 * (k + 1)) mid
      changed_part from root =
          changed_wider sets (960 * from) (960 * (p + 1)) mid (960 * from) (960 * (k + 1))
          (call.leaves.changed from (part_rooted bytes k r mask d look p looked part more from root).0) (omega arith) (omega (arith, low))

      pub stays_ready : StayReady bytes n k r one mid mid_room
      stays_ready =
          record {
            nodes = ready.nodes;
            few = ready.few;
            node = ready.node;
            left = ready.left;
            rooted = ready.rooted;
            below = omega (arith, call.leaves.high, low);
            sets_room = omega (arith, ready.sets_room, sets_size_same);
            candidates_room = omega (arith, ready.candidates_room, call.leaves.candidates.size);
          }

      stays_by : (out : SetAt) (after after_room : List ℕ) → Stayed out bytes n k r d one mid mid_room after after_room
          → ((f : Formula) → Stored bytes f k → (fs : List Formula) → AreNodes bytes n fs → (at : MarkedState mask)
          → staying fs d f k r (answered mid n one.at one.count) ≡ looked_at look at.tower fs at.state d f k r)
          → Offered out bytes n k r mask d sets room after after_room
      stays_by out after after_room stayed same =
          record {
            leaves = record {
              most = stayed.most call.leaves.most;
              high = stayed.high;
              low = λ from root. omega (arith, stayed.low, call.leaves.low from (part_rooted bytes k r mask d look p looked part more from root).0);
              changed = λ from root.
                  changed_both sets (960 * from) (960 * (k + 1)) mid after (changed_part from root)
                  (changed_wider mid one.at (960 * (k + 1)) after (960 * from) (960 * (k + 1)) stayed.changed
                  (call.leaves.low from (part_rooted bytes k r mask d look p looked part more from root).0) (omega arith));
              candidates = candidates_both room mid_room after_room call.leaves.candidates stayed.candidates;
            };
            says = λ f s fs are at. stayed.says f s fs are ∙ same f s fs are at ∙ sym (looked.says f s fs at);
          }

      pub offered_second : (out : SetAt) (after after_room : List ℕ) → Stayed out bytes n k r d one mid mid_room after after_room
          → look ≡ Seen.Second → Offered out bytes n k r mask d sets room after after_room
      unfolding looked_at
      offered_second out after after_room stayed is =
          stays_by out after after_room stayed (λ f s fs are at.
          rw is (ap (staying fs d f k r) (sym (second_said bytes n p q mask d one sets room mid mid_room call new fs are at k f s
          (part.second (ap has_first is)) (looked.second more)))))

      pub offered_first : (out : SetAt) (after after_room : List ℕ) → Stayed out bytes n k r d one mid mid_room after after_room
          → look ≡ Seen.First → Offered out bytes n k r mask d sets room after after_room
      unfolding looked_at
      offered_first out after after_room stayed is =
          stays_by out after after_room stayed (λ f s fs are at.
          rw is (ap (staying fs d f k r) (sym (first_said bytes n p q mask d one sets room mid mid_room call new fs are at k f s
          (part.first (ap has_first is)) (looked.second more) (looked.first (ap has_first is))))))

      -- ---- two parts

      module _ (is : look ≡ Seen.Both) (p₂ : ℕ) (second : p₂ ≡ second_of bytes k) where
        second_part_rooted : (from : ℕ) → Rooted bytes from k → PartRooted bytes from k p₂
        second_part_rooted from root = second_rooted bytes from k root p₂ second (looked.second more)

        apart : Rooted bytes (p + 1) p₂
        apart = rooted_behind bytes 0 k ready.rooted p p₂ (part.first (ap has_first is)) second (looked.second more) (looked.both is)

        pub second_is_node : IsNode bytes p₂
        second_is_node = let root = (second_part_rooted 0 ready.rooted).0 in is_node bytes p₂ root.formula root.stored

        module _ (q₂ : Tick) (new₂ : q₂ ≡ ticks (fresh_of bytes p₂)) where
          pub second_part_ready : (t : ℕ) → k ≡ t → (p₂ < t) × OfferReady bytes n p₂ q₂ mid mid_room
          second_part_ready t same =
              let (root, low) = second_part_rooted 0 ready.rooted in (
                omega arith,
                record {
                  nodes = ready.nodes;
                  few = ready.few;
                  node = omega (arith, ready.node);
                  left = rw new₂ (fresh_low bytes p₂ (is_node bytes p₂ root.formula root.stored));
                  rooted = root;
                  sets_room = omega (arith, ready.sets_room, sets_size_same);
                  candidates_room = omega (arith, ready.candidates_room, call.leaves.candidates.size);
                },
              )

          module _ (two : SetAt) (last last_room : List ℕ) (other : Offered two bytes n p₂ q₂ mask d mid mid_room last last_room) where
            low₂ : p₂ < k
            low₂ = (second_part_rooted 0 ready.rooted).1

            pub two_ready : TwoReady bytes n k one two last last_room
            two_ready =
                record {
                  nodes = ready.nodes;
                  few = ready.few;
                  node = ready.node;
                  first = omega (arith, call.leaves.high, low);
                  second = omega (arith, other.leaves.high, low₂);
                  sets_room = omega (arith, ready.sets_room, sets_size_same, (other.leaves.changed (p + 1) apart).size);
                  candidates_room = omega (arith, ready.candidates_room, call.leaves.candidates.size, other.leaves.candidates.size);
                }

            -- the first set has stayed
            first_kept : answered last n one.at one.count ≡ answered mid n one.at one.count
            first_kept =
                kept_before mid (960 * (p + 1)) (960 * (p₂ + 1)) last n one.at one.count (other.leaves.changed (p + 1) apart) ready.few
                call.leaves.high

            pub offered_two : (out : SetAt) (after after_room : List ℕ) → OfTwo out bytes n k one two last last_room after after_room
                → Offered out bytes n k r mask d sets room after after_room
            unfolding looked_at
            offered_two out after after_room both =
                record {
                  leaves = record {
                    most = both.leaves.most;
                    high = omega (arith, both.place);
                    low = λ from root. omega (arith, both.place, root_low bytes from k root);
                    changed = λ from root.
                        changed_both sets (960 * from) (960 * (k + 1)) mid after (changed_part from root)
                        (changed_both mid (960 * from) (960 * (k + 1)) last after
                        (changed_wider mid (960 * from) (960 * (p₂ + 1)) last (960 * from) (960 * (k + 1))
                        (other.leaves.changed from (second_part_rooted from root).0) (omega arith) (omega (arith, low₂)))
                        (changed_beside last (960 * k) 960 after (960 * from) (960 * (k + 1)) both.leaves.beside (omega (arith, root_low bytes from k root))
                        (omega arith)));
                    candidates = candidates_both room mid_room after_room call.leaves.candidates
                        (candidates_both mid_room last_room after_room other.leaves.candidates both.leaves.candidates);
                  };
                  says = λ f s fs are at.
                      both.says f s fs are (stands fs are at)
                      ∙ ap₂ (of_two fs f)
                      (first_kept ∙ sym (first_said bytes n p q mask d one sets room mid mid_room call new fs are at k f s (part.first (ap has_first is))
                      (looked.second more) (looked.first (ap has_first is))))
                      (sym (second_said bytes n p₂ q₂ mask d two mid mid_room last last_room other new₂ fs are at k f s second (looked.second more)))
                      ∙ sym (looked.says f s fs at ∙ rw is refl);
                }
              where
                -- it is what comes of the part
                stands : (fs : List Formula) → AreNodes bytes n fs → MarkedState mask
                    → NothingToDrop fs (answered last n one.at one.count)
                stands fs are at =
                    let root = (part_rooted bytes k r mask d look p looked part more 0 ready.rooted).0 in
                    rw (first_kept ∙ call.says root.formula root.stored fs are at) (of_alone fs at.tower at.state d root.formula p q)

-- ---- what else is asked

pub fresh_few : (bytes : List ℕ) (p : ℕ) (q : Tick) → q ≡ ticks (fresh_of bytes p) → IsNode bytes p → q.0 ≤ 254
fresh_few bytes p q new node = rw new (fresh_low bytes p node)
