-- Passes until one separates nothing: the classes are the partition of the definition, pass by pass.
use Prim.Native.Nat.{ℕ, suc, ◌+◌, ◌-◌, ◌*◌, ◌≤◌, ◌<◌}
use native.Mathlib.Omega.{arith}
use native.Mathlib.Decide.{dec_lt}
use mathlib.Core.Path.{◌≡◌, refl, sym, ap, ◌∙◌, subst}
use mathlib.Core.Bool.{Bool, true, false}
use Rattle.std.specs.Prelude.{Option, None, Some}
use mathlib.Core.List.{List}
use lib.ListN.{length, take, replicate}
use lib.Dec.{eqb, ltb}
use mir.Syntax.{w64}
use mir.Val.{Fits}
use borrow.Author.Tests.{eqb-true, eq-eqb, ne_eqb, ltb-true, ltb-false}
use Rattle.base.specs.Lists.{same_option}
use Rattle.base.specs.Bytes.{number_at}
use Rattle.base.proofs.Lists.{never_both, same_truth, false_by}
use Rattle.area_bytes.proofs.Clearing.{cleared_byte}
use Rattle.pair_graph.specs.Graph.{Graph, to, allowed_to, SafePair}
use Rattle.pair_graph.specs.Steps.{move_at, class_in, safe_in, led_to, graph_with, FlaggedGraph}
use Rattle.refinement.specs.Passes.{pass, partition, Separates, separates, passes}
use Rattle.refinement.proofs.Partitions.{pass_same, pass_before, pass_alike, pass_keeps, separates_out, separates_in}
use Rattle.refinement.proofs.Theorems.{passes_room, passes_are}
use Rattle.maker_marks.specs.Marks.{SafeMarked}
use Rattle.maker_view.specs.View.{View, shown, shows_in, view_of, AlikePairs}
use Rattle.maker_classes.specs.Passes.{ReadyForPass, Classified, Begun, FurtherPass, ClassesNumbered, PassReady, OneLeft, PassMade}
use Rattle.maker_classes.proofs.Turns.{alike_sym, alike_trans, first_keeps}
use Rattle.maker_classes.proofs.Ways.{class_front}

-- ---- looking the same, and a pass

module _ (graph flags : List ℕ) (actions n : ℕ) (kind : ℕ → ℕ) (held : FlaggedGraph n actions graph flags) (classes : List ℕ) where
  -- the graph, its safe pairs, and which are of one class
  abbrev pairs : Graph
  pairs = graph_with n actions kind graph

  abbrev Safe : ℕ → Type 0
  Safe i = SafePair pairs (safe_in flags) i

  abbrev same : ℕ → ℕ → Bool
  same i j = eqb (class_in classes i) (class_in classes j)

  abbrev seen : View
  seen = view_of graph flags actions classes

  -- equal classes are shown exactly where steps lead to one class
  shows_out : (o p : Option ℕ) → shown (class_in classes) o ≡ shown (class_in classes) p → same_option same o p ≡ true
  unfolding shown same_option
  shows_out None None e = refl
  shows_out None (Some y) e = absurd (omega arith)
  shows_out (Some x) None e = absurd (omega arith)
  shows_out (Some x) (Some y) e = eq-eqb (class_in classes x) (class_in classes y) (omega arith)

  shows_back : (o p : Option ℕ) → same_option same o p ≡ true → shown (class_in classes) o ≡ shown (class_in classes) p
  unfolding shown same_option
  shows_back None None e = refl
  shows_back None (Some y) e = never_both e refl
  shows_back (Some x) None e = never_both e refl
  shows_back (Some x) (Some y) e = ap (λ z. z + 1) (eqb-true (class_in classes x) (class_in classes y) e)

  -- Pairs that look the same stay in one class in a pass,
  alike_passes : (i j : ℕ) → AlikePairs seen i j → pass pairs (safe_in flags) same i j ≡ true
  unfolding view_of shows_in led_to
  alike_passes i j e =
      pass_keeps pairs (safe_in flags) same i j (eq-eqb (class_in classes i) (class_in classes j) e.class)
      (record {
        state = e.state;
        steps = λ a l. shows_out (allowed_to (safe_in flags) (move_at graph i a)) (allowed_to (safe_in flags) (move_at graph j a)) (e.shows a l);
      })

  -- and no others do.
  passes_alike : (i j : ℕ) → pass pairs (safe_in flags) same i j ≡ true → AlikePairs seen i j
  unfolding view_of shows_in led_to
  passes_alike i j e =
      let now = pass_alike pairs (safe_in flags) same i j e in
      record {
        state = now.state;
        class = eqb-true (class_in classes i) (class_in classes j) (pass_before pairs (safe_in flags) same i j e);
        shows = λ a l. shows_back (allowed_to (safe_in flags) (move_at graph i a)) (allowed_to (safe_in flags) (move_at graph j a)) (now.steps a l);
      }

  targets : (i a j : ℕ) → i < n → a < actions → move_at graph i a ≡ to j → j < n
  targets = held.graph.targets

  -- New classes are the next partition.
  pub next_partition : (new : ℕ → ℕ) (m : ℕ) → ClassesNumbered (view_of graph flags actions classes) new n
      → ((i j : ℕ) → Safe i → Safe j → eqb (class_in classes i) (class_in classes j) ≡ partition pairs (safe_in flags) m i j)
      → (i j : ℕ) → Safe i → Safe j → eqb (new i) (new j) ≡ partition pairs (safe_in flags) (suc m) i j
  unfolding view_of partition
  next_partition new m h old i j si sj =
      same_truth (eqb (new i) (new j)) (pass pairs (safe_in flags) same i j)
      (λ e. alike_passes i j (together (eqb-true (new i) (new j) e)))
      (λ e. eq-eqb (new i) (new j) (h.joined i j si.there sj.there si.is_safe sj.is_safe (passes_alike i j e)))
      ∙ pass_same pairs (safe_in flags) targets same (partition pairs (safe_in flags) m) old i j si sj
    where
      together : new i ≡ new j → AlikePairs seen i j
      together e =
          alike_trans seen (subst (AlikePairs seen i) e (h.alike i si.there si.is_safe)) (alike_sym seen (h.alike j sj.there sj.is_safe))

-- ---- the first pass, and whether there is a further one

-- Zeros are class 0 for every pair.
pub begun : (n : ℕ) (flags area marks : List ℕ) (size : ℕ) → area ≡ replicate size 0 → SafeMarked n flags marks → Begun n flags area marks
begun n flags area marks size e marked = record { zeros = λ p. rw e (cleared_byte size p); marked = marked }

-- The first pass is always made,
pub goes_first : (made separated : ℕ) → made ≡ 0 → FurtherPass made separated true
goes_first made separated e = record { on = λ _ l. absurd (omega arith); off = λ f. never_both refl f }

-- and a further one where the last has separated something.
pub goes_by : (made separated : ℕ) → (made ≡ 0 → ⊥) → FurtherPass made separated (ltb 0 separated)
goes_by made separated later =
    record { on = λ e _. ltb-true 0 separated e; off = λ e. (omega (arith, later), omega (arith, ltb-false 0 separated e)) }

-- ---- the loop

-- So many passes were made: the classes are the partition that they leave, each pass before the last has separated something, and whether the
-- last has is known.
pub record Refining (graph flags : List ℕ) (actions n made separated : ℕ) (area marks : List ℕ) : Type 0 where
  pub ready : PassReady graph flags actions n area marks
  pub parted : (kind : ℕ → ℕ) (i j : ℕ) → SafePair (graph_with n actions kind graph) (safe_in flags) i
      → SafePair (graph_with n actions kind graph) (safe_in flags) j
      → eqb (class_in (take 2000 area) i) (class_in (take 2000 area) j) ≡ partition (graph_with n actions kind graph) (safe_in flags) made i j
  pub before : (kind : ℕ → ℕ) (k : ℕ) → suc k < made → separates (graph_with n actions kind graph) (safe_in flags) k ≡ true
  pub last_some : (kind : ℕ → ℕ) (m : ℕ) → made ≡ suc m → 0 < separated → separates (graph_with n actions kind graph) (safe_in flags) m ≡ true
  pub last_none : (kind : ℕ → ℕ) (m : ℕ) → made ≡ suc m → separated ≡ 0 → separates (graph_with n actions kind graph) (safe_in flags) m ≡ false

-- At first all are of class 0.
pub refining_start : (graph flags : List ℕ) (actions n : ℕ) (first first_marks area marks : List ℕ)
    → ReadyForPass graph flags actions n first first_marks → Begun n flags area marks → length area ≡ length first → length marks ≡ length first_marks
    → Refining graph flags actions n 0 0 area marks
unfolding number_at partition
refining_start graph flags actions n first first_marks area marks ready begun long marks_long =
    record {
      ready =
          record {
            stands =
                record {
                  given = ready.given;
                  firsts =
                      record {
                        most = λ i l. omega (arith, zeros i l);
                        first_safe = λ i l p. ap (safe_in flags) (zeros i l) ∙ ready.first_safe;
                        itself = λ i l p. ap (class_in (take 2000 area)) (zeros i l) ∙ zeros 0 (omega arith) ∙ sym (zeros i l);
                      };
                  only_safe = λ k l e. sym (begun.marked.same k l) ∙ e;
                  settled = λ k l p e. never_both p (sym (begun.marked.same k l) ∙ e);
                  area_room = omega (arith, long, ready.area_room);
                  marks_room = omega (arith, marks_long, ready.marks_room);
                };
            level = λ k l. zero (2000 + 2 * k) ∙ sym (zeros k l);
          };
      parted = λ kind i j si sj. eq-eqb (class_in (take 2000 area) i) (class_in (take 2000 area) j) (zeros i si.there ∙ sym (zeros j sj.there));
      before = λ kind k l. absurd (omega arith);
      last_some = λ kind m e. absurd (omega arith);
      last_none = λ kind m e. absurd (omega arith);
    }
  where
    zero : (p : ℕ) → number_at 2 area p ≡ 0
    zero p = omega (arith, begun.zeros p, begun.zeros (p + 1))

    zeros : (k : ℕ) → k < n → class_in (take 2000 area) k ≡ 0
    zeros k l = class_front area k (omega (arith, ready.given.held.graph.pairs_most)) ∙ zero (2 * k)

module _ (graph flags : List ℕ) (actions n made separated : ℕ) (first first_marks area marks : List ℕ)
    (given : ReadyForPass graph flags actions n first first_marks) (so_far : Refining graph flags actions n made separated area marks)
    (b : Bool) (goes : FurtherPass made separated b) where
  first_pair : (kind : ℕ → ℕ) → SafePair (graph_with n actions kind graph) (safe_in flags) 0
  first_pair kind = record { there = given.least; is_safe = given.first_safe }

  module _ (on : b ≡ true) where
    -- Every pass so far has separated something,
    all_some : (kind : ℕ → ℕ) (k : ℕ) → k < made → separates (graph_with n actions kind graph) (safe_in flags) k ≡ true
    all_some kind k l =
        elim (dec_lt (suc k) made) [
          | yes m ↦ so_far.before kind k m
          | no m ↦ so_far.last_some kind k (omega arith) (goes.on on (omega arith))
        ]

    -- so there are more classes than passes.
    pub made_less : made < n
    made_less = passes_room (graph_with n actions (λ _. 0) graph) (safe_in flags) made 0 (first_pair (λ _. 0)) (all_some (λ _. 0))

    pub made_fits : Fits w64 (made + 1)
    made_fits = omega (arith, made_less, given.given.held.graph.pairs_most)

    pub made_falls : suc n - (made + 1) < suc n - made
    made_falls = omega (arith, made_less)

    -- One pass more.
    pub refining_more : (r : ℕ) (after marks_after : List ℕ) → PassMade graph flags actions n area r after marks_after
        → Refining graph flags actions n (made + 1) r after marks_after
    refining_more r after marks_after p =
        record {
          ready = p.ready;
          parted = λ kind i j si sj. next kind i j si sj ∙ ap (λ m. partition (graph_with n actions kind graph) (safe_in flags) m i j) (sym one);
          before = λ kind k l. all_some kind k (omega arith);
          last_some =
              λ kind m e more.
              let same : m ≡ made = omega arith in
              subst (λ k. separates (graph_with n actions kind graph) (safe_in flags) k ≡ true) (sym same)
              (separates_in (graph_with n actions kind graph) (safe_in flags) made (some_left kind (p.some more)));
          last_none =
              λ kind m e unchanged.
              let same : m ≡ made = omega arith in
              subst (λ k. separates (graph_with n actions kind graph) (safe_in flags) k ≡ false) (sym same)
              (false_by (separates (graph_with n actions kind graph) (safe_in flags) made)
              (λ yes_it_does. none_left kind unchanged (separates_out (graph_with n actions kind graph) (safe_in flags) made yes_it_does)));
        }
      where
        one : made + 1 ≡ suc made
        one = omega arith

        old : ℕ → ℕ
        old = class_in (take 2000 area)

        new : ℕ → ℕ
        new = class_in (take 2000 after)

        next : (kind : ℕ → ℕ) (i j : ℕ) → SafePair (graph_with n actions kind graph) (safe_in flags) i
            → SafePair (graph_with n actions kind graph) (safe_in flags) j
            → eqb (new i) (new j) ≡ partition (graph_with n actions kind graph) (safe_in flags) (suc made) i j
        next kind =
            next_partition graph flags actions n kind given.given.held (take 2000 area) new made p.numbered (so_far.parted kind)

        -- A pair that has left its class is separated from the first of it.
        some_left : (kind : ℕ → ℕ) → OneLeft flags n area after → Separates (graph_with n actions kind graph) (safe_in flags) made
        some_left kind o =
            let k = o.pair in
            let firsts = so_far.ready.stands.firsts in
            let low = firsts.most k o.there in
            let c : SafePair (graph_with n actions kind graph) (safe_in flags) (old k) = record { there = omega (arith, o.there); is_safe = firsts.first_safe k o.there o.is_safe } in
            let here : SafePair (graph_with n actions kind graph) (safe_in flags) k = record { there = o.there; is_safe = o.is_safe } in
            let keeps = first_old (old k) c.there c.is_safe (firsts.itself k o.there o.is_safe) in
            record {
              first = k;
              second = old k;
              first_safe = here;
              second_safe = c;
              together = sym (so_far.parted kind k (old k) here c) ∙ eq-eqb (old k) (old (old k)) (sym (firsts.itself k o.there o.is_safe));
              apart = sym (next kind k (old k) here c) ∙ ne_eqb (new k) (new (old k)) (λ e. o.other (e ∙ keeps));
            }
          where
            first_old : (c : ℕ) → c < n → safe_in flags c ≡ true → old c ≡ c → new c ≡ c
            first_old c l s e = unfold view_of in (first_keeps (view_of graph flags actions (take 2000 area)) n so_far.ready.stands.firsts.most so_far.ready.stands.firsts.itself new n c p.numbered (omega arith) l s e)

        -- Where no pair has, nothing is separated.
        none_left : (kind : ℕ → ℕ) → r ≡ 0 → Separates (graph_with n actions kind graph) (safe_in flags) made → ⊥
        none_left kind unchanged s =
            let i = s.first in
            let j = s.second in
            let was = eqb-true (old i) (old j) (so_far.parted kind i j s.first_safe s.second_safe ∙ s.together) in
            let now : new i ≡ new j = p.none unchanged i s.first_safe.there ∙ was ∙ sym (p.none unchanged j s.second_safe.there) in
            never_both (eq-eqb (new i) (new j) now) (next kind i j s.first_safe s.second_safe ∙ s.apart)

  -- The last pass has separated nothing.
  pub refining_end : b ≡ false → Classified graph flags actions n area made
  refining_end off =
      record {
        all_passes = λ kind. by kind (made - 1) (omega (arith, (goes.off off).0));
        parted =
            λ kind i j si sj.
            rw (sym (class_front area i (omega (arith, si.there, few))), sym (class_front area j (omega (arith, sj.there, few)))) (so_far.parted kind i j si sj);
        most = λ i l. omega (arith, class_front area i (omega (arith, few)), so_far.ready.stands.firsts.most i l);
      }
    where
      few : n ≤ 1000
      few = given.given.held.graph.pairs_most

      by : (kind : ℕ → ℕ) (m : ℕ) → made ≡ suc m → made ≡ passes (graph_with n actions kind graph) (safe_in flags)
      by kind m e =
          e
          ∙ sym
          (passes_are (graph_with n actions kind graph) (safe_in flags) m 0 (first_pair kind) (λ k l. so_far.before kind k (omega arith))
          (so_far.last_none kind m e (goes.off off).1))
