-- The ways through a pass: what the code knows at a call or a return, and what it then promises.
use Prim.Native.Nat.{ℕ, ◌+◌, ◌-◌, ◌*◌, ◌≤◌, ◌<◌}
use native.Mathlib.Omega.{arith}
use native.Mathlib.Decide.{dec_lt, ℕ_discrete}
use mathlib.Core.Path.{◌≡◌, refl, sym, ap, ◌∙◌, subst}
use mathlib.Core.Logic.{inl, inr}
use mathlib.Core.Bool.{Bool, true, false}
use mathlib.Core.List.{List, ◌++◌}
use lib.ListN.{length, get_or, take, drop, replicate, length-append, length-drop, length-replicate}
use lib.Seq.{sets, take-take, length-take-le, take-append-le}
use mir.Syntax.{w8, w64}
use mir.Val.{Fits}
use Rattle.base.specs.Bytes.{byte_at, number_at, number_bytes}
use Rattle.base.proofs.Bytes.{number_at_take}
use Rattle.area_bytes.proofs.Clearing.{part_byte}
use Rattle.area_bytes.proofs.Numbers.{stored, stored_read, stored_beside, byte_beside, take_stored, length_stored}
use Rattle.area_chains.specs.Chains.{Chained, head_in, link_in, added, Apart}
use Rattle.area_chains.proofs.Walks.{one_more, chained_none, chained_same, chained_skip}
use Rattle.area_chains.proofs.Walks.{Walking, walk_most, walk_node, walk_start, walk_first, walk_on, walk_falls, walk_ahead}
use Rattle.area_chains.proofs.Additions.{added_chains, added_front}
use Rattle.pair_graph.specs.Steps.{class_in, safe_in}
use Rattle.maker_marks.specs.Marks.{marks_size, marked_in, noted_in, ClassFirsts}
use Rattle.maker_marks.proofs.Marks.{marked_same}
use Rattle.maker_view.specs.View.{View, view_of, AlikePairs, buckets, Tells, IsBucket}
use Rattle.maker_classes.specs.Passes.{new_in, InBucket}
use Rattle.maker_classes.specs.Passes.{ClassesNumbered, Suits, PassGiven, PassReady, NotedPair, ListsLeaving, Passed, PassedFrom}
use Rattle.maker_classes.specs.Passes.{Leaving, ToAdopt, Adopted}
use Rattle.maker_classes.proofs.Turns.{alike_refl, alike_sym, alike_trans, alike_bucket}
use Rattle.maker_classes.proofs.Turns.{numbered_none, numbered_more, stays_suits}

-- The classes as a part of the area.
pub part_long : (area : List ℕ) → 8042 ≤ length area → length (take 2000 area) ≡ 2000
part_long area room = length-take-le 2000 area (omega arith)

pub part_room : (area : List ℕ) → 8042 ≤ length area → 2000 ≤ length (take 2000 area)
part_room area room = omega (arith, part_long area room)

-- A class is one of the first thousand numbers.
pub class_front : (area : List ℕ) (i : ℕ) → i < 1000 → class_in (take 2000 area) i ≡ class_in area i
class_front area i l = number_at_take 2 2000 area (2 * i) (omega arith)

-- ---- what a pass stands on

-- It stays where neither the classes nor the marks change.
given_same : (graph flags : List ℕ) (actions n : ℕ) (area marks after marks_after : List ℕ) → PassGiven graph flags actions n area marks
    → take 2000 after ≡ take 2000 area → 8042 ≤ length after → ((k : ℕ) → k < n → byte_at marks_after k ≡ byte_at marks k)
    → marks_size ≤ length marks_after → PassGiven graph flags actions n after marks_after
given_same graph flags actions n area marks after marks_after h front room same marks_room =
    record {
      given = h.given;
      firsts = subst (ClassFirsts n flags) (sym front) h.firsts;
      only_safe = λ k l e. h.only_safe k l (sym (marked k l) ∙ e);
      settled =
          λ k l p e.
          subst (λ c. AlikePairs (view_of graph flags actions c) k (class_in c k)) (sym front) (h.settled k l p (sym (marked k l) ∙ e));
      area_room = room;
      marks_room = marks_room;
    }
  where
    marked : (k : ℕ) → k < n → marked_in marks_after k ≡ marked_in marks k
    marked k l = marked_same marks marks_after k (same k l)

-- ---- the walk through a bucket

-- The walk for pair i has come to number `at` of bucket h; whatever looks the same as i is still ahead.
pub record Seeking (v : View) (i h at : ℕ) : Type 0 where
  pub walk : Walking (InBucket v) buckets i h at
  pub most : at ≤ i
  pub rest : (k : ℕ) → k < i → v.safe k ≡ true → AlikePairs v k i → k < at

module _ (graph flags : List ℕ) (actions n : ℕ) (area marks : List ℕ) (i h separated : ℕ)
    (passed : Passed graph flags actions n i area marks separated) (leaving : Leaving graph flags actions n area i)
    (in_h : IsBucket (view_of graph flags actions (take 2000 area)) i h) where
  -- the view, and what stands in a bucket of it
  abbrev here : View
  here = view_of graph flags actions (take 2000 area)

  same_bucket : (k : ℕ) → here.safe k ≡ true → AlikePairs here k i → InBucket here k h
  unfolding view_of
  same_bucket k p a =
      record {
        is_safe = p;
        leaves = λ b. leaving.apart (subst (AlikePairs here i) a.class (alike_trans here (alike_sym here a) b));
        bucket = alike_bucket here a ∙ sym in_h.is;
      }

  -- It begins at the head.
  pub seek_start : (at : ℕ) → at ≡ head_in 6000 area h → Seeking (view_of graph flags actions (take 2000 area)) i h at
  seek_start at e =
      let begun = walk_start (InBucket here) buckets (head_in 6000 area) (link_in 4000 area) i h passed.chained in_h.within at e in
      record {
        walk = begun;
        most = walk_most (InBucket here) buckets i h at begun;
        rest =
            λ k l p a.
            walk_first (InBucket here) buckets (head_in 6000 area) (link_in 4000 area) i h passed.chained in_h.within at e k l (same_bucket k p a);
      }

  module _ (at : ℕ) (w : Seeking (view_of graph flags actions (take 2000 area)) i h at) (more : 0 < at) where
    module _ (next : ℕ) (to_next : next ≡ link_in 4000 area (at - 1)) where
      -- It comes closer to the end.
      pub seek_falls : next < at
      seek_falls =
          walk_falls (InBucket here) buckets (head_in 6000 area) (link_in 4000 area) i h passed.chained in_h.within at next w.walk more to_next

      -- It goes on where a pair looks different.
      pub seek_on : (r : Bool) → Tells (view_of graph flags actions (take 2000 area)) (at - 1) i r → r ≡ false
          → Seeking (view_of graph flags actions (take 2000 area)) i h next
      seek_on r tells e =
          let on = walk_on (InBucket here) buckets (head_in 6000 area) (link_in 4000 area) i h passed.chained in_h.within at next w.walk more to_next in
          record {
            walk = on;
            most = walk_most (InBucket here) buckets i h next on;
            rest =
                λ k l p a.
                walk_ahead (InBucket here) buckets (head_in 6000 area) (link_in 4000 area) i h passed.chained in_h.within at next w.walk more
                to_next k (same_bucket k p a) (w.rest k l p a) (λ same. tells.other e (subst (λ x. AlikePairs here x i) same a));
          }

    -- The class of a pair that looks the same suits.
    pub seek_hit : (r : Bool) (c : ℕ) → Tells (view_of graph flags actions (take 2000 area)) (at - 1) i r → r ≡ true
        → c ≡ number_at 2 area (2000 + 2 * (at - 1)) → Suits (view_of graph flags actions (take 2000 area)) (new_in area) i c
    seek_hit r c tells e is_c =
        let m = walk_node (InBucket here) buckets i h at w.walk more in
        let same = tells.same e in
        let old = passed.numbered in
        let safe = m.stands.is_safe in
        rw is_c
        (record {
          most = omega (arith, old.most (at - 1) m.there, m.there);
          is_safe = λ _. old.is_safe (at - 1) m.there safe;
          alike = λ _. alike_trans here (alike_sym here same) (old.alike (at - 1) m.there safe);
          joined = λ _ k l p a. old.joined k (at - 1) l m.there p safe (alike_trans here a (alike_sym here same));
        })

  -- No pair looks the same.
  pub seek_end : (at : ℕ) → Seeking (view_of graph flags actions (take 2000 area)) i h at → at ≤ 0
      → Suits (view_of graph flags actions (take 2000 area)) (new_in area) i i
  seek_end at w l =
      record { most = omega arith; is_safe = λ p. p; alike = λ _. alike_refl here i; joined = λ _ k m p a. absurd (omega (arith, w.rest k m p a)) }

-- What is met is a pair.
pub seek_pair : (graph flags : List ℕ) (actions n : ℕ) (area : List ℕ) (i h at : ℕ) → Leaving graph flags actions n area i
    → Seeking (view_of graph flags actions (take 2000 area)) i h at → 0 < at → at - 1 < n
seek_pair graph flags actions n area i h at leaving w more = omega (arith, w.most, leaving.there)

-- ---- one pair

-- The list with one entry more.
module _ (marks : List ℕ) (entries i : ℕ) (room : marks_size ≤ length marks) (few : entries < 1000) (small : i < 1000) where
  abbrev more_marks : List ℕ
  more_marks = stored marks (1000 + 2 * entries) i

  noted_old : (p : ℕ) → p < entries → noted_in more_marks p ≡ noted_in marks p
  noted_old p l = stored_beside marks (1000 + 2 * entries) i (1000 + 2 * p) (inl (omega arith))

  noted_last : noted_in more_marks entries ≡ i
  noted_last = stored_read marks (1000 + 2 * entries) i (omega arith) (omega arith)

  noted_more : (k : ℕ) → NotedPair marks entries k → NotedPair more_marks (entries + 1) k
  noted_more k o = record { place = o.place; within = omega (arith, o.within); is = noted_old o.place o.within ∙ o.is }

module _ (graph flags : List ℕ) (n actions i : ℕ) (area marks : List ℕ) (separated : ℕ)
    (passed : Passed graph flags actions n i area marks separated) where
  -- the view
  abbrev seen : View
  seen = view_of graph flags actions (take 2000 area)

  stands : PassGiven graph flags actions n area marks
  stands = passed.stands

  few : n ≤ 1000
  few = stands.given.held.graph.pairs_most

  pub look_there : i < n → i < length marks
  look_there l = omega (arith, few, stands.marks_room)

  pub class_there : i < n → 2 * i + 1 < length (take 2000 area)
  class_there l = omega (arith, few, part_long area stands.area_room)

  pub first_there : (c : ℕ) → i < n → c ≡ class_in (take 2000 area) i → c < n
  first_there c l e = omega (arith, stands.firsts.most i l)

  pub one_fits : i < n → Fits w64 (separated + 1)
  one_fits l = omega (arith, few, passed.lists.within)

  -- A pair stays in its class: nothing is written.
  stays : i < n → (safe_in flags i ≡ true → AlikePairs seen i (class_in (take 2000 area) i))
      → PassedFrom graph flags actions n area (i + 1) area marks separated
  unfolding view_of
  stays l alike =
      record {
        passed =
            record {
              stands = stands;
              numbered =
                  numbered_more seen (new_in area) (new_in area) i (class_in (take 2000 area) i) passed.numbered
                  (stays_suits seen n stands.firsts.most stands.firsts.itself (new_in area) i passed.numbered l (stands.firsts.first_safe i l) alike)
                  (λ k m. refl) (passed.ahead i (omega arith) l);
              ahead = λ k m. passed.ahead k (omega arith);
              chained =
                  chained_skip (InBucket seen) buckets (head_in 6000 area) (link_in 4000 area) i (i + 1) passed.chained (omega arith)
                  (λ k h from less o s. let same : k ≡ i = omega arith in s.leaves (subst (λ x. AlikePairs seen x (class_in (take 2000 area) x)) (sym same) (alike (subst (λ x. safe_in flags x ≡ true) same s.is_safe))));
              lists =
                  record {
                    within = omega (arith, passed.lists.within);
                    there = λ p m. omega (arith, passed.lists.there p m);
                    is_safe = passed.lists.is_safe;
                    leaves = passed.lists.leaves;
                    all =
                        one_more (λ k. (new_in area k ≡ class_in (take 2000 area) k → ⊥) → NotedPair marks separated k) i passed.lists.all
                        (λ other. absurd (other (passed.ahead i (omega arith) l)));
                  };
            };
        front = refl;
      }

  module _ (l : i < n) (b : Bool) (is_b : b ≡ marked_in marks i) where
    -- It is not marked.
    pub look_unmarked : b ≡ false → PassedFrom graph flags actions n area (i + 1) area marks separated
    look_unmarked e = stays l (λ p. stands.settled i l p (sym is_b ∙ e))

    module _ (first : ℕ) (is_first : first ≡ class_in (take 2000 area) i) (r : Bool) (tells : Tells (view_of graph flags actions (take 2000 area)) first i r) where
      -- It looks like the first of its class.
      pub look_alike : r ≡ true → PassedFrom graph flags actions n area (i + 1) area marks separated
      look_alike f = stays l (λ _. subst (AlikePairs seen i) is_first (alike_sym seen (tells.same f)))

      -- It does not.
      pub look_leaving : b ≡ true → r ≡ false → Leaving graph flags actions n area i
      look_leaving e f =
          record {
            there = l;
            is_safe = stands.only_safe i l (sym is_b ∙ e);
            apart = λ a. tells.other f (alike_sym seen (subst (AlikePairs seen i) (sym is_first) a));
          }

  module _ (leaving : Leaving graph flags actions n area i) where
    small : i < 1000
    small = omega (arith, few, leaving.there)

    less : separated < 1000
    less = omega (arith, passed.lists.within, small)

    pub new_there : 2000 + 2 * i + 1 < length area
    new_there = omega (arith, small, stands.area_room)

    pub note_there : separated < 1000
    note_there = less

    -- Pair i gets the class that was found, and stands in its bucket and on the list.
    module _ (h c : ℕ) (mid after marks_after : List ℕ) (in_h : IsBucket (view_of graph flags actions (take 2000 area)) i h)
        (suits : Suits (view_of graph flags actions (take 2000 area)) (new_in area) i c)
        (is_mid : mid ≡ sets area (2000 + 2 * i) (number_bytes 2 c)) (is_after : after ≡ added 6000 4000 mid h i)
        (is_marks : marks_after ≡ sets marks (1000 + 2 * separated) (number_bytes 2 i)) where
      abbrev one : List ℕ
      one = stored area (2000 + 2 * i) c

      same : take 4000 after ≡ take 4000 one
      same = ap (take 4000) is_after ∙ added_front 6000 4000 mid h i 4000 (omega arith) (omega arith) ∙ ap (take 4000) is_mid

      front : take 2000 after ≡ take 2000 area
      front =
          sym (take-take 2000 4000 after (omega arith)) ∙ ap (take 2000) same ∙ take-take 2000 4000 one (omega arith)
          ∙ take_stored 2000 area (2000 + 2 * i) c (omega arith)

      new : (k : ℕ) → k < 1000 → new_in after k ≡ new_in one k
      new k m =
          sym (number_at_take 2 4000 after (2000 + 2 * k) (omega arith)) ∙ ap (λ x. number_at 2 x (2000 + 2 * k)) same
          ∙ number_at_take 2 4000 one (2000 + 2 * k) (omega arith)

      new_before : (k : ℕ) → k < i → new_in after k ≡ new_in area k
      new_before k m = new k (omega (arith, small)) ∙ stored_beside area (2000 + 2 * i) c (2000 + 2 * k) (inl (omega arith))

      new_here : new_in after i ≡ c
      new_here = new i small ∙ stored_read area (2000 + 2 * i) c new_there (omega (arith, suits.most, small))

      new_behind : (k : ℕ) → i + 1 ≤ k → k < n → new_in after k ≡ new_in area k
      new_behind k m o = new k (omega (arith, few)) ∙ stored_beside area (2000 + 2 * i) c (2000 + 2 * k) (inr (omega arith))

      class : (k : ℕ) → class_in (take 2000 after) k ≡ class_in (take 2000 area) k
      class k = ap (λ x. class_in x k) front

      long : length after ≡ length area
      unfolding added
      long = ap length is_after ∙ length_stored (stored mid (4000 + 2 * i) (head_in 6000 mid h)) (6000 + 2 * h) (i + 1)
          ∙ length_stored mid (4000 + 2 * i) (head_in 6000 mid h) ∙ ap length is_mid ∙ length_stored area (2000 + 2 * i) c

      kept : Chained (InBucket seen) buckets (head_in 6000 one) (link_in 4000 one) i
      unfolding head_in link_in
      kept =
          chained_same (InBucket seen) buckets (head_in 6000 area) (link_in 4000 area) (head_in 6000 one) (link_in 4000 one) i passed.chained
          (λ h l. stored_beside area (2000 + 2 * i) c (6000 + 2 * h) (inr (omega (arith, small))))
          (λ k l. stored_beside area (2000 + 2 * i) c (4000 + 2 * k) (inr (omega (arith, small))))

      chains : Chained (InBucket seen) buckets (head_in 6000 after) (link_in 4000 after) (i + 1)
      unfolding view_of Apart
      chains =
          let size = length_stored area (2000 + 2 * i) c in
          added_chains 6000 buckets 4000 1000 one h i (inr (omega arith)) (omega (arith, stands.area_room)) (omega (arith, stands.area_room)) in_h.within small (InBucket seen) after
          (omega (arith, small)) kept (record { is_safe = leaving.is_safe; leaves = leaving.apart; bucket = sym in_h.is })
          (λ k s. sym s.bucket ∙ sym in_h.is) (is_after ∙ ap (λ l. added 6000 4000 l h i) is_mid)

      lists : ListsLeaving flags (i + 1) after (stored marks (1000 + 2 * separated) i) (separated + 1)
      unfolding view_of
      lists =
          record {
            within = omega (arith, old.within);
            there = one_more (λ p. noted_in z p < i + 1) separated (λ p m. omega (arith, at_old p m, old.there p m)) (omega (arith, at_last));
            is_safe =
                one_more (λ p. safe_in flags (noted_in z p) ≡ true) separated (λ p m. ap (safe_in flags) (at_old p m) ∙ old.is_safe p m)
                (ap (safe_in flags) at_last ∙ leaving.is_safe);
            leaves =
                one_more (λ p. Leaves (noted_in z p)) separated
                (λ p m. subst Leaves (sym (at_old p m)) (λ e. old.leaves p m (sym (new_before (noted_in marks p) (old.there p m)) ∙ e ∙ class (noted_in marks p))))
                (subst Leaves (sym at_last) (λ e. leaving.apart (subst (AlikePairs seen i) (sym new_here ∙ e ∙ class i) (suits.alike leaving.is_safe))));
            all =
                one_more (λ k. Leaves k → NotedPair z (separated + 1) k) i
                (λ k m other. noted_more marks separated i stands.marks_room less small k (old.all k m (λ e. other (new_before k m ∙ e ∙ sym (class k)))))
                (λ _. record { place = separated; within = omega arith; is = at_last });
          }
        where
          old : ListsLeaving flags i area marks separated
          old = passed.lists

          z : List ℕ
          z = stored marks (1000 + 2 * separated) i

          Leaves : ℕ → Type 0
          Leaves k = new_in after k ≡ class_in (take 2000 after) k → ⊥

          at_old : (p : ℕ) → p < separated → noted_in z p ≡ noted_in marks p
          at_old = noted_old marks separated i stands.marks_room less small

          at_last : noted_in z separated ≡ i
          at_last = noted_last marks separated i stands.marks_room less small

      pub left : PassedFrom graph flags actions n area (i + 1) after marks_after (separated + 1)
      left =
          rw is_marks
          (record {
            passed =
                record {
                  stands =
                      given_same graph flags actions n area marks after (stored marks (1000 + 2 * separated) i) stands front (omega (arith, long, stands.area_room))
                      (λ k m. byte_beside marks (1000 + 2 * separated) i k (λ e. omega (arith, few)) (λ e. omega (arith, few)))
                      (omega (arith, length_stored marks (1000 + 2 * separated) i, stands.marks_room));
                  numbered =
                      subst (λ x. ClassesNumbered (view_of graph flags actions x) (new_in after) (i + 1)) (sym front)
                      (numbered_more seen (new_in area) (new_in after) i c passed.numbered suits new_before new_here);
                  ahead = λ k m o. new_behind k m o ∙ passed.ahead k (omega arith) o ∙ sym (class k);
                  chained = subst (λ x. Chained (InBucket (view_of graph flags actions x)) buckets (head_in 6000 after) (link_in 4000 after) (i + 1)) (sym front) chains;
                  lists = lists;
                };
            front = front;
          })

-- ---- all pairs

-- An area with zeros in the place of the heads.
abbrev emptied : List ℕ → List ℕ → List ℕ
emptied area zeros = take 6000 area ++ (zeros ++ drop 2042 (drop 6000 area))

module _ (graph flags : List ℕ) (actions n : ℕ) (area marks zeros : List ℕ) (ready : PassReady graph flags actions n area marks)
    (is_zeros : zeros ≡ replicate (length (take 2042 (drop 6000 area))) 0) where
  room : 8042 ≤ length area
  room = ready.stands.area_room

  before : length (take 6000 area) ≡ 6000
  before = length-take-le 6000 area (omega (arith, room))

  many : length (take 2042 (drop 6000 area)) ≡ 2042
  many = length-take-le 2042 (drop 6000 area) (omega (arith, length-drop 6000 area, room))

  kept_front : (p : ℕ) → p ≤ 6000 → take p (emptied area zeros) ≡ take p area
  kept_front p l =
      take-append-le p (take 6000 area) (zeros ++ drop 2042 (drop 6000 area)) (omega (arith, before)) ∙ take-take p 6000 area l

  same_new : (k : ℕ) → k < n → new_in (emptied area zeros) k ≡ new_in area k
  same_new k l =
      let few = ready.stands.given.held.graph.pairs_most in
      sym (number_at_take 2 6000 (emptied area zeros) (2000 + 2 * k) (omega arith))
      ∙ ap (λ x. number_at 2 x (2000 + 2 * k)) (kept_front 6000 (omega arith)) ∙ number_at_take 2 6000 area (2000 + 2 * k) (omega arith)

  still_long : 8042 ≤ length (emptied area zeros)
  still_long =
      let size = ap length is_zeros ∙ length-replicate {A = ℕ} (length (take 2042 (drop 6000 area))) 0 in
      omega (arith, length-append (take 6000 area) (zeros ++ drop 2042 (drop 6000 area)), length-append zeros (drop 2042 (drop 6000 area)), before, many, size)

  -- The pass begins with empty buckets and an empty list.
  pub pass_start : PassedFrom graph flags actions n (emptied area zeros) 0 (emptied area zeros) marks 0
  unfolding head_in number_at
  pass_start =
      record {
        passed =
            record {
              stands =
                  given_same graph flags actions n area marks (emptied area zeros) marks ready.stands (kept_front 2000 (omega arith)) still_long
                  (λ k l. refl) ready.stands.marks_room;
              numbered = numbered_none seen_first (new_in (emptied area zeros));
              ahead = λ k l m. same_new k m ∙ ready.level k m ∙ ap (λ x. class_in x k) (sym (kept_front 2000 (omega arith)));
              chained =
                  chained_none (InBucket seen_first) buckets (head_in 6000 (emptied area zeros)) (link_in 4000 (emptied area zeros))
                  (λ h l. omega (arith, zero (6000 + 2 * h) (omega arith) (omega arith), zero (6000 + 2 * h + 1) (omega arith) (omega arith)));
              lists =
                  record {
                    within = omega arith;
                    there = λ p l. absurd (omega arith);
                    is_safe = λ p l. absurd (omega arith);
                    leaves = λ p l. absurd (omega arith);
                    all = λ k l. absurd (omega arith);
                  };
            };
        front = refl;
      }
    where
      seen_first : View
      seen_first = view_of graph flags actions (take 2000 (emptied area zeros))

      zero : (p : ℕ) → 6000 ≤ p → p < 8042 → byte_at (emptied area zeros) p ≡ 0
      zero p l m =
          rw is_zeros
          (part_byte (take 6000 area) (drop 2042 (drop 6000 area)) (length (take 2042 (drop 6000 area))) p (omega (arith, before)) (omega (arith, before, many)))

  -- It has passed every pair, and the classes are as they were before the buckets were emptied.
  pub pass_end : (i : ℕ) (last marks_last : List ℕ) (separated : ℕ) → PassedFrom graph flags actions n (emptied area zeros) i last marks_last separated
      → i ≤ n → n ≤ i → PassedFrom graph flags actions n area n last marks_last separated
  pass_end i last marks_last separated p le ge =
      let all : i ≡ n = omega arith in
      record {
        passed = subst (λ k. Passed graph flags actions n k last marks_last separated) all p.passed;
        front = p.front ∙ kept_front 2000 (omega arith);
      }

-- One pair more.
pub pass_more : (graph flags : List ℕ) (actions n i : ℕ) (first area marks after marks_after : List ℕ) (separated r : ℕ)
    → PassedFrom graph flags actions n first i area marks separated → PassedFrom graph flags actions n area (i + 1) after marks_after r
    → PassedFrom graph flags actions n first (i + 1) after marks_after r
pass_more graph flags actions n i first area marks after marks_after separated r p q = record { passed = q.passed; front = q.front ∙ p.front }

-- ---- the new classes become the classes

-- The loop has come to entry p.
pub record Adopting (n p : ℕ) (first marks : List ℕ) (entries : ℕ) (area : List ℕ) : Type 0 where
  pub adopted : Adopted n first marks p area
  pub long : length area ≡ length first
  pub within : p ≤ entries

-- At first nothing is adopted.
pub adopt_start : (n : ℕ) (area marks : List ℕ) (entries : ℕ) → Adopting n 0 area marks entries area
adopt_start n area marks entries =
    record {
      adopted = record { here = λ p l. absurd (omega arith); else = λ k l m. refl; news = λ k. refl };
      long = refl;
      within = omega arith;
    }

module _ (n p : ℕ) (first marks : List ℕ) (entries : ℕ) (area : List ℕ) (a : Adopting n p first marks entries area)
    (to : ToAdopt n first marks entries) (l : p < entries) where
  pub adopt_entry : p < 1000
  adopt_entry = omega (arith, to.few, to.fewer)

  module _ (i : ℕ) (is_i : i ≡ noted_in marks p) where
    pub adopt_fits : Fits w64 (2 * i)
    adopt_fits = omega (arith, to.there p l, to.few)

    pub adopt_place : Fits w64 (2000 + 2 * i)
    adopt_place = omega (arith, to.there p l, to.few)

    pub adopt_new : 2000 + 2 * i + 1 < length area
    adopt_new = omega (arith, to.there p l, to.few, to.area_room, a.long)

    pub adopt_class : 2 * i + 1 < length area
    adopt_class = omega (arith, to.there p l, to.few, to.area_room, a.long)

    -- One entry more.
    pub adopt_more : (new : ℕ) (after : List ℕ) → ((j : ℕ) → Fits w8 (get_or first j 0)) → new ≡ number_at 2 area (2000 + 2 * i)
        → after ≡ sets area (2 * i) (number_bytes 2 new) → Adopting n (p + 1) first marks entries after
    unfolding number_at
    adopt_more new after bytes is_new e =
        rw e
        (record {
          adopted =
              record {
                here =
                    one_more (λ q. class_in z (noted_in marks q) ≡ new_in first (noted_in marks q)) p
                    (λ q m. at_entry (noted_in marks q) (λ _. a.adopted.here q m))
                    (subst (λ k. class_in z k ≡ new_in first k) is_i own);
                else =
                    λ k m none.
                    beside k (λ s. none (record { place = p; within = omega arith; is = sym is_i ∙ sym s }))
                    ∙ a.adopted.else k m (λ o. none (record { place = o.place; within = omega (arith, o.within); is = o.is }));
                news = λ k. stored_beside area (2 * i) new (2000 + 2 * k) (inr (omega (arith, to.there p l, to.few))) ∙ a.adopted.news k;
              };
          long = length_stored area (2 * i) new ∙ a.long;
          within = omega arith;
        })
      where
        z : List ℕ
        z = stored area (2 * i) new

        own : class_in z i ≡ new_in first i
        own =
            stored_read area (2 * i) new adopt_class (omega (arith, is_new, a.adopted.news i, bytes (2000 + 2 * i), bytes (2000 + 2 * i + 1))) ∙ is_new ∙ a.adopted.news i

        beside : (k : ℕ) → (k ≡ i → ⊥) → class_in z k ≡ class_in area k
        beside k other =
            elim (dec_lt k i) [
              | yes m ↦ stored_beside area (2 * i) new (2 * k) (inl (omega arith))
              | no m ↦ stored_beside area (2 * i) new (2 * k) (inr (omega (arith, other)))
            ]

        at_entry : (k : ℕ) → ((k ≡ i → ⊥) → class_in area k ≡ new_in first k) → class_in z k ≡ new_in first k
        at_entry k was =
            elim (ℕ_discrete k i) [
              | yes s ↦ subst (λ x. class_in z x ≡ new_in first x) (sym s) own
              | no other ↦ beside k other ∙ was other
            ]

-- All entries.
pub adopt_end : (n p : ℕ) (area marks : List ℕ) (entries : ℕ) (z : List ℕ) → Adopting n p area marks entries z → entries ≤ p
    → Adopted n area marks entries z
adopt_end n p area marks entries z a ge =
    let all : p ≡ entries = omega (arith, a.within) in subst (λ q. Adopted n area marks q z) all a.adopted
