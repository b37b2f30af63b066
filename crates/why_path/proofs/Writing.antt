-- The run to a pair, from what is noted: its length, and how it is written from its last action to its first.
use Prim.Native.Nat.{ℕ, zero, suc, ◌+◌, ◌-◌, ◌≤◌, ◌<◌}
use native.Mathlib.Omega.{arith}
use mathlib.Core.Path.{◌≡◌, refl, sym, ap, ◌∙◌, subst}
use mathlib.Core.Bool.{true, false}
use mathlib.Core.List.{List, [], ◌∷◌, ◌++◌}
use lib.ListN.{length, set, drop, length-set}
use lib.Dec.{ltb}
use lib.Seq.{drop-cons, get_or-set_same, drop-set-lt, append_snoc, set-append_seam}
use borrow.Author.Tests.{lt-ltb, le-ltb}
use Rattle.base.specs.Bytes.{byte_at}
use Rattle.first_runs.specs.Numbered.{WayTo, way_start, way_on}
use Rattle.first_runs.proofs.Sooner.{length_snoc}
use Rattle.pair_graph.specs.Steps.{HoldsGraph}
use Rattle.why_path.specs.Ways.{from_in, action_in, StepsNoted, MetFromLower, FromLower, WayLength, WayWritten, room_for, list_with, RunWritten}
use Rattle.std.specs.Prelude.{Some, None}

-- ---- runs as they were first met

module _ (from action : ℕ → ℕ) where
  -- The run to place 0 is empty.
  way_none : (j : ℕ) (w : List ℕ) → WayTo from action j w → j ≡ 0 → w ≡ []
  way_none _ _ way_start e = refl
  way_none _ _ (way_on j w l way) e = absurd (omega arith)

  -- The run to another place is one to the place from which it was met, and the action.
  record WayBehind (j : ℕ) (w : List ℕ) : Type 0 where
    run : List ℕ
    way : WayTo from action (from j) run
    same : w ≡ run ++ (action j ∷ [])

  way_behind : (j : ℕ) (w : List ℕ) → WayTo from action j w → 0 < j → WayBehind j w
  way_behind _ _ way_start l = absurd (omega arith)
  way_behind _ _ (way_on j w k way) l = record { run = w; way = way; same = refl }

  -- Where each place but the first is met from a lower one, there is a run to each.
  way_below : (n : ℕ) → ((j : ℕ) → 0 < j → j < n → from j < j) → (m j : ℕ) → j < n → j < m
      → (w : List ℕ) × WayTo from action j w
  way_below n lower zero j l k = absurd (omega arith)
  way_below n lower (suc m) zero l k = ([], way_start)
  way_below n lower (suc m) (suc j) l k =
      let less = lower (suc j) (omega arith) l in
      let (w, way) = way_below n lower m (from (suc j)) (omega arith) (omega arith) in
      (w ++ (action (suc j) ∷ []), way_on (suc j) w (omega arith) way)

-- There is a run to each pair that is noted.
pub way_exists : (n : ℕ) (ways : List ℕ) → FromLower n ways → (j : ℕ) → j < n → (w : List ℕ) × WayTo (from_in ways) (action_in ways) j w
way_exists n ways noted j l = way_below (from_in ways) (action_in ways) n noted.lower n j l l

-- A pair that is noted comes from a lower one.
lower_from : (ways : List ℕ) (n i j : ℕ) → FromLower n ways → i < n → j ≤ i → (j ≡ 0 → ⊥) → from_in ways j < j
lower_from ways n i j noted l most there = noted.lower j (omega (arith, there)) (omega arith)

-- ---- the length of a run

-- So many actions of a run have been counted, and the run to pair j is left.
pub record LeftAt (ways : List ℕ) (j count : ℕ) (w : List ℕ) : Type 0 where
  pub run : List ℕ
  pub way : WayTo (from_in ways) (action_in ways) j run
  pub long : length run + count ≡ length w

-- A loop has counted so many actions of the run to pair i and come to pair j.
pub record CountingBack (ways : List ℕ) (i j count : ℕ) : Type 0 where
  pub most : count + j ≤ i
  pub left : (w : List ℕ) → WayTo (from_in ways) (action_in ways) i w → LeftAt ways j count w

-- At first all of it is left.
pub counting_none : (ways : List ℕ) (i : ℕ) → CountingBack ways i i 0
counting_none ways i = record { most = omega arith; left = λ w way. record { run = w; way = way; long = omega arith } }

module _ (ways : List ℕ) (n i j count : ℕ) (h : CountingBack ways i j count) (noted : FromLower n ways) (l : i < n) (there : j ≡ 0 → ⊥) where
  -- The pair is one of those that are noted.
  pub pair_noted : j < 1000
  pair_noted = omega (arith, h.most, noted.few)

  -- It was met from a lower one.
  pub falls : (r : ℕ) → r ≡ from_in ways j → r < j
  falls r e = rw e (lower_from ways n i j noted l (omega (arith, h.most)) there)

  -- One more action is counted.
  pub counting_more : (r : ℕ) → r ≡ from_in ways j → CountingBack ways i r (count + 1)
  counting_more r e =
      record {
        most = omega (arith, falls r e, h.most);
        left = λ w way. go w (h.left w way);
      }
    where
      go : (w : List ℕ) → LeftAt ways j count w → LeftAt ways r (count + 1) w
      go w s =
          let b = way_behind (from_in ways) (action_in ways) j s.run s.way (omega (arith, there)) in
          record {
            run = b.run;
            way = rw e b.way;
            long = omega (arith, s.long, ap length b.same, length_snoc b.run (action_in ways j));
          }

-- All of them are counted.
pub counted : (ways : List ℕ) (i j count : ℕ) → CountingBack ways i j count → j ≡ 0 → WayLength count ways i
counted ways i j count h e =
    record {
      most = omega (arith, h.most);
      says = λ w way. go w (h.left w way);
    }
  where
    go : (w : List ℕ) → LeftAt ways j count w → count ≡ length w
    go w s = omega (arith, s.long, ap length (way_none (from_in ways) (action_in ways) j s.run s.way e))

-- ---- a run that is written

-- A byte that is written, and what lies behind it.
drop_written : (l : List ℕ) (p v : ℕ) → p < length l → drop p (set l p v) ≡ v ∷ drop (suc p) l
drop_written l p v h =
    drop-cons (set l p v) p 0 (omega (arith, length-set l p v)) ∙ rw (get_or-set_same l p v 0 h, drop-set-lt (suc p) l p v (omega arith))

-- The run to pair j is left to be written to the first k bytes of the list, which is `whole` then.
pub record LeftToWrite (ways : List ℕ) (j k : ℕ) (list whole : List ℕ) : Type 0 where
  pub run : List ℕ
  pub way : WayTo (from_in ways) (action_in ways) j run
  pub long : length run ≡ k
  pub same : run ++ drop k list ≡ whole

-- A loop has written the run to pair i, from its end to byte k, and come to pair j.
pub record WritingBack (ways : List ℕ) (i : ℕ) (old list : List ℕ) (j k : ℕ) : Type 0 where
  pub most : j ≤ i
  pub room : k ≤ length old
  pub kept : length list ≡ length old
  pub left : (w : List ℕ) → WayTo (from_in ways) (action_in ways) i w → LeftToWrite ways j k list (w ++ drop (length w) old)

-- At first all of it is left.
pub writing_none : (ways : List ℕ) (i size : ℕ) (list : List ℕ) → WayLength size ways i → size ≤ length list
    → WritingBack ways i list list i size
writing_none ways i size list h room =
    record {
      most = omega arith;
      room = room;
      kept = refl;
      left = λ w way.
          let e = h.says w way in
          record { run = w; way = way; long = sym e; same = rw e };
    }

module _ (ways : List ℕ) (n i : ℕ) (old list : List ℕ) (j k : ℕ) (h : WritingBack ways i old list j k) (noted : FromLower n ways)
    (l : i < n) (there : j ≡ 0 → ⊥) where
  -- An action is left.
  pub some_left : 1 ≤ k
  some_left = go (way_exists n ways noted i l)
    where
      go : (w : List ℕ) × WayTo (from_in ways) (action_in ways) i w → 1 ≤ k
      go (w, way) =
          let s = h.left w way in
          let b = way_behind (from_in ways) (action_in ways) j s.run s.way (omega (arith, there)) in
          omega (arith, s.long, ap length b.same, length_snoc b.run (action_in ways j))

  -- There is a byte for it.
  pub list_inside : k - 1 < length list
  list_inside = omega (arith, some_left, h.room, h.kept)

  -- The pair was met from a lower one.
  pub falls_back : (r : ℕ) → r ≡ from_in ways j → r < j
  falls_back r e = rw e (lower_from ways n i j noted l h.most there)

  -- One more action is written.
  pub writing_more : (r : ℕ) → r ≡ from_in ways j → WritingBack ways i old (set list (k - 1) (byte_at ways (2000 + j))) r (k - 1)
  writing_more r e =
      record {
        most = omega (arith, falls_back r e, h.most);
        room = omega (arith, h.room);
        kept = length-set list (k - 1) (byte_at ways (2000 + j)) ∙ h.kept;
        left = λ w way. go (w ++ drop (length w) old) (h.left w way);
      }
    where
      after : List ℕ
      after = set list (k - 1) (byte_at ways (2000 + j))

      behind : drop (k - 1) after ≡ byte_at ways (2000 + j) ∷ drop k list
      behind =
          let next : suc (k - 1) ≡ k = omega (arith, some_left) in
          subst (λ p. drop (k - 1) after ≡ byte_at ways (2000 + j) ∷ drop p list) next
          (drop_written list (k - 1) (byte_at ways (2000 + j)) list_inside)

      go : (whole : List ℕ) → LeftToWrite ways j k list whole → LeftToWrite ways r (k - 1) after whole
      go whole s =
          let b = way_behind (from_in ways) (action_in ways) j s.run s.way (omega (arith, there)) in
          record {
            run = b.run;
            way = rw e b.way;
            long = omega (arith, s.long, ap length b.same, length_snoc b.run (action_in ways j));
            same = ap (λ t. b.run ++ t) behind ∙ sym (append_snoc b.run (byte_at ways (2000 + j)) (drop k list))
                ∙ ap (λ t. t ++ drop k list) (sym b.same) ∙ s.same;
          }

-- All of them are written.
pub way_written : (ways : List ℕ) (i : ℕ) (old list : List ℕ) (j k : ℕ) → WritingBack ways i old list j k → j ≡ 0
    → WayWritten ways i old list
way_written ways i old list j k h e = record { says = λ w way. go (w ++ drop (length w) old) (h.left w way) }
  where
    ended : (run whole : List ℕ) → run ≡ [] → length run ≡ k → run ++ drop k list ≡ whole → list ≡ whole
    ended run whole none long same =
        let first : k ≡ 0 = omega (arith, ap length none) in
        rw (none, first) at same

    go : (whole : List ℕ) → LeftToWrite ways j k list whole → list ≡ whole
    go whole s = ended s.run whole (way_none (from_in ways) (action_in ways) j s.run s.way e) s.long s.same

-- ---- the answer

-- What is noted of a pair comes from a lower one, as some step from a lower one leads to it.
pub from_lower : (n actions : ℕ) (graph before ways : List ℕ) → StepsNoted n actions graph 0 ways → MetFromLower n actions graph
    → HoldsGraph n actions graph → length ways ≡ length before → 3000 ≤ length before → FromLower n ways
from_lower n actions graph before ways noted met held e room =
    record {
      room = omega arith;
      few = held.pairs_most;
      lower = λ j some_pair l.
          let below = met.lower j some_pair l in
          let listed = met.listed j some_pair l in
          let first = noted.says (met.from j) (met.action j) j (omega arith) listed (omega arith) (met.leads j some_pair l) in
          omega (arith, first.no_later, held.actions_most);
    }

module _ (n actions : ℕ) (graph : List ℕ) (i a : ℕ) (ways list : List ℕ) (size : ℕ) (noted : StepsNoted n actions graph 0 ways)
    (long : WayLength size ways i) where
  -- There is no room for the run and the action.
  pub run_too_long : length list ≤ size → RunWritten None n actions graph i a ways list list
  unfolding room_for list_with
  run_too_long short = record { noted = noted; says = λ w way. rw (more w way); written = λ w way. rw (more w way) }
    where
      more : (w : List ℕ) → WayTo (from_in ways) (action_in ways) i w → ltb (length list) (length (w ++ (a ∷ []))) ≡ true
      more w way = lt-ltb (length list) (length (w ++ (a ∷ []))) (omega (arith, length_snoc w a, long.says w way))

  -- The action is written behind the run.
  pub run_written : (after : List ℕ) → WayWritten ways i list after → size < length list
      → RunWritten (Some (size + 1)) n actions graph i a ways list (set after size a)
  unfolding room_for list_with
  run_written after h fits =
      record {
        noted = noted;
        says = λ w way. rw (enough w way) (ap (λ r. Some r) (size_is w way));
        written = λ w way. rw (enough w way) (with_action w way);
      }
    where
      size_is : (w : List ℕ) → WayTo (from_in ways) (action_in ways) i w → size + 1 ≡ length (w ++ (a ∷ []))
      size_is w way = omega (arith, length_snoc w a, long.says w way)

      enough : (w : List ℕ) → WayTo (from_in ways) (action_in ways) i w → ltb (length list) (length (w ++ (a ∷ []))) ≡ false
      enough w way = le-ltb (length list) (length (w ++ (a ∷ []))) (omega (arith, size_is w way))

      with_action : (w : List ℕ) → WayTo (from_in ways) (action_in ways) i w
          → set after size a ≡ w ++ (a ∷ []) ++ drop (length (w ++ (a ∷ []))) list
      with_action w way =
          let there : length w < length list = omega (arith, long.says w way) in
          rw (h.says w way, long.says w way, drop-cons list (length w) 0 there, length_snoc w a)
          (set-append_seam w (byte_at list (length w)) (drop (suc (length w)) list) a ∙ sym (append_snoc w a (drop (suc (length w)) list)))
