-- A node progresses in one alternative: the ways through `offer_one` and `combine_in_place`, and through `offer` and `combine_node`, which choose.
use Prim.Native.Nat.{ℕ, ◌+◌, ◌-◌, ◌*◌, ◌≤◌}
use native.Mathlib.Omega.{arith}
use mathlib.Core.Path.{◌≡◌, refl, sym, ◌∙◌, ap}
use mathlib.Core.Bool.{Bool, true, false}
use mathlib.Core.List.{List}
use lib.ListN.{length, take, drop, replicate}
use borrow.Rule.Slice.PartMut.{put_mid}
use Rattle.logic.specs.Book.{Formula}
use Rattle.logic.specs.declared.Tick.{Tick}
use Rattle.pending.specs.Pending.{progress}
use Rattle.alternatives.specs.Alternatives.{combined}
use Rattle.alternatives.specs.Progression.{alternatives_of}
use Rattle.alternatives.specs.OneAlternative.{single}
use Rattle.alternatives.proofs.OneAlternative.{one_alternative, combined_one}
use Rattle.book_progression.specs.PendingBytes.{pending_of, part, outcome}
use Rattle.book_progression.specs.NodeBytes.{Stored, MarkedState}
use Rattle.book_progression.specs.Promises.{AreNodes, Progresses, Beside}
use Rattle.book_progression.proofs.Cells.{pending_length}
use Rattle.book_progression.proofs.Areas.{lent, lent_length, part_length, part_back, beside_back, beside_both}
use Rattle.set_bytes.specs.SetBytes.{answered}
use Rattle.set_bytes.proofs.Elsewhere.{beside_wider}
use Rattle.book_alternatives.specs.declared.SetAt.{SetAt}
use Rattle.book_alternatives.specs.Offers.{combined_at, joined_at, OwnSet, Offered, InPlaceReady, OfferedOne, CombineReady, CombinedInPlace, NodeCombined}
use Rattle.book_alternatives.proofs.Sets.{changed_beside, candidates_none, none_answered, one_answered}
use Rattle.book_alternatives.proofs.OwnSets.{set_at, cleared_beside, cleared_part}
use Rattle.book_alternatives.proofs.Sitting.{stored_sits}
use Rattle.book_alternatives.proofs.Offering.{own_leaves}

-- ---- the alternative at a place

-- what the step leaves of it
ran : (bytes : List ℕ) (k : ℕ) (r : Tick) (mask : ℕ) (d : Tick) (n at : ℕ) (area : List ℕ) (b : Bool) (z : List ℕ)
    → Progresses b bytes k r mask d (take (at + n - at) (drop at area)) z → (f : Formula) → Stored bytes f k → (in_state : MarkedState mask)
    → progress in_state.tower in_state.state d f k r (pending_of (part area at n)) ≡ outcome b z
ran bytes k r mask d n at area b z step f s in_state = rw (← lent area at n) (step.says f s in_state)

module _ (n at : ℕ) (area : List ℕ) (fits : at + n ≤ length area) (b : Bool) (z : List ℕ)
    (size : length z ≡ length (take (at + n - at) (drop at area))) where
  whole : length z ≡ n
  whole = size ∙ lent_length area at n fits

  left_beside : Beside area at n (put_mid at (at + n - at) area z)
  left_beside = beside_back area at n z fits whole

  -- as a set of one, or of none
  left_one : b ≡ true → answered (put_mid at (at + n - at) area z) n at 1 ≡ single (outcome b z)
  unfolding single outcome
  left_one so = one_answered (put_mid at (at + n - at) area z) n at ∙ rw (part_back area at n z fits whole, so) refl

  left_none : b ≡ false → answered (put_mid at (at + n - at) area z) n at 0 ≡ single (outcome b z)
  unfolding single outcome
  left_none so = none_answered (put_mid at (at + n - at) area z) n at ∙ rw so refl

-- ---- from nothing

module _ (bytes : List ℕ) (n k : ℕ) (r : Tick) (sets zeros : List ℕ)
    (cleared : zeros ≡ replicate (length (take (960 * k + n - 960 * k) (drop (960 * k) sets))) 0) (ready : InPlaceReady bytes n k r sets) where
  own_fits : 960 * k + n ≤ length sets
  own_fits = omega (arith, ready.few, ready.node, ready.sets_room)

  abbrev mid : List ℕ
  mid = put_mid (960 * k) (960 * k + n - 960 * k) sets zeros

  emptied : Beside sets (960 * k) n mid
  emptied = cleared_beside n (960 * k) sets zeros own_fits cleared

  mid_fits : 960 * k + n ≤ length mid
  mid_fits = omega (arith, own_fits, emptied.size)

  module _ (mask : ℕ) (d : Tick) (b : Bool) (z : List ℕ) (size : length z ≡ length (take (960 * k + n - 960 * k) (drop (960 * k) mid)))
      (step : Progresses b bytes k r mask d (take (960 * k + n - 960 * k) (drop (960 * k) mid)) z) where
    from_nothing : (f : Formula) → Stored bytes f k → (fs : List Formula) → AreNodes bytes n fs → (at : MarkedState mask)
        → single (outcome b z) ≡ alternatives_of at.tower fs at.state d f k r
    from_nothing f s fs are at =
        sym (one_alternative fs at.tower at.state d f k r (stored_sits bytes n fs are f k s ready.node ready.rooted) (ready.sided.says refl f s)
        ∙ rw (are.all, ← cleared_part n (960 * k) sets zeros own_fits cleared) (ap single (ran bytes k r mask d n (960 * k) mid b z step f s at)))

    own_set : (count : ℕ) → count ≤ 1 → OwnSet (set_at (960 * k) count) k sets (put_mid (960 * k) (960 * k + n - 960 * k) mid z)
    own_set count few =
        record {
          place = refl;
          most = few;
          beside = beside_wider sets (960 * k) n (put_mid (960 * k) (960 * k + n - 960 * k) mid z) (960 * k) 960
              (beside_both sets (960 * k) n mid (put_mid (960 * k) (960 * k + n - 960 * k) mid z) emptied (left_beside n (960 * k) mid mid_fits b z size))
              (omega arith) (omega (arith, ready.few));
        }

    pub one_on : b ≡ true → OfferedOne (set_at (960 * k) 1) bytes n k r mask d sets (put_mid (960 * k) (960 * k + n - 960 * k) mid z)
    one_on so =
        record { own = own_set 1 (omega arith); says = λ f s fs are at. left_one n (960 * k) mid mid_fits b z size so ∙ from_nothing f s fs are at }

    pub one_broken : b ≡ false → OfferedOne (set_at (960 * k) 0) bytes n k r mask d sets (put_mid (960 * k) (960 * k + n - 960 * k) mid z)
    one_broken so =
        record { own = own_set 0 (omega arith); says = λ f s fs are at. left_none n (960 * k) mid mid_fits b z size so ∙ from_nothing f s fs are at }

-- ---- in what stands so far

module _ (bytes : List ℕ) (n k : ℕ) (r : Tick) (sets : List ℕ) (ready : InPlaceReady bytes n k r sets) where
  fits : 57600 + n ≤ length sets
  fits = omega (arith, ready.few, ready.sets_room)

  module _ (mask : ℕ) (d : Tick) (b : Bool) (z : List ℕ) (size : length z ≡ length (take (57600 + n - 57600) (drop 57600 sets)))
      (step : Progresses b bytes k r mask d (take (57600 + n - 57600) (drop 57600 sets)) z) where
    stepped : (f : Formula) → Stored bytes f k → (fs : List Formula) → AreNodes bytes n fs → (at : MarkedState mask)
        → single (outcome b z) ≡ combined fs (answered sets n combined_at 1) (alternatives_of at.tower fs at.state d f k r)
    stepped f s fs are at =
        sym (ap single (ran bytes k r mask d n 57600 sets b z step f s at))
        ∙ sym (rw (one_answered sets n combined_at) (combined_one fs at.tower at.state d f k r (pending_of (part sets 57600 n))
        (stored_sits bytes n fs are f k s ready.node ready.rooted) (ready.sided.says refl f s)
        (pending_length (part sets 57600 n) ∙ part_length sets 57600 n fits ∙ sym are.all)))

    pub place_on : b ≡ true → CombinedInPlace 1 bytes n k r mask d sets (put_mid 57600 (57600 + n - 57600) sets z)
    place_on so =
        record {
          most = omega arith;
          beside = left_beside n 57600 sets fits b z size;
          says = λ f s fs are at. left_one n 57600 sets fits b z size so ∙ stepped f s fs are at;
        }

    pub place_broken : b ≡ false → CombinedInPlace 0 bytes n k r mask d sets (put_mid 57600 (57600 + n - 57600) sets z)
    place_broken so =
        record {
          most = omega arith;
          beside = left_beside n 57600 sets fits b z size;
          says = λ f s fs are at. left_none n 57600 sets fits b z size so ∙ stepped f s fs are at;
        }

-- ---- where it is chosen

pub offered_one : (bytes : List ℕ) (n k : ℕ) (r : Tick) (mask : ℕ) (d : Tick) (sets room : List ℕ) (out : SetAt) (after : List ℕ)
    → OfferedOne out bytes n k r mask d sets after → Offered out bytes n k r mask d sets room after room
offered_one bytes n k r mask d sets room out after one =
    record { leaves = own_leaves out bytes k sets room after one.own; says = one.says }

pub node_in_place : (bytes : List ℕ) (n k : ℕ) (r : Tick) (mask count : ℕ) (sets room : List ℕ) (d : Tick) (out : ℕ) (after : List ℕ)
    → CombineReady bytes n k r mask count sets room → CombinedInPlace out bytes n k r mask d sets after → count ≡ 1
    → NodeCombined out bytes n k r mask d count sets room after room
node_in_place bytes n k r mask count sets room d out after ready done one =
    record {
      leaves = record {
        most = omega (arith, done.most);
        changed = changed_beside sets combined_at n after 0 joined_at done.beside (omega arith) (omega (arith, ready.offer.few));
        candidates = candidates_none room;
      };
      says = λ f s fs are at. rw one (done.says f s fs are at);
    }
