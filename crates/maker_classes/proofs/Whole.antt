-- A whole pass: the new classes are adopted, and the pairs that are looked at again are marked.
use Prim.Native.Nat.{ℕ, ◌+◌, ◌≤◌, ◌<◌}
use native.Mathlib.Omega.{arith}
use native.Mathlib.Decide.{ℕ_discrete}
use mathlib.Core.Path.{◌≡◌, refl, sym, ap, ◌∙◌, subst}
use mathlib.Core.Bool.{true, false}
use Rattle.std.specs.Prelude.{Option, None, Some}
use mathlib.Core.List.{List}
use lib.ListN.{length, take}
use Rattle.pair_graph.specs.Steps.{class_in, safe_in, led_to}
use Rattle.pair_graph.proofs.Moves.{allowed_below}
use Rattle.maker_marks.specs.Marks.{marked_in, noted_in, ClassFirsts, ReadyToMark, Quiet, MarkedAgain}
use Rattle.maker_view.specs.View.{shown, shows_in, view_of, AlikePairs}
use Rattle.maker_classes.specs.Passes.{new_in, ClassesNumbered, PassGiven, NotedPair, ListsLeaving, PassedFrom, ToAdopt, Adopted, PassMade}
use Rattle.maker_classes.proofs.Turns.{numbered_as}
use Rattle.maker_classes.proofs.Ways.{part_long, part_room, class_front}

module _ (graph flags : List ℕ) (actions n : ℕ) (area mid marks : List ℕ) (separated : ℕ)
    (passed : PassedFrom graph flags actions n area n mid marks separated) where
  stands : PassGiven graph flags actions n mid marks
  stands = passed.passed.stands

  lists : ListsLeaving flags n mid marks separated
  lists = passed.passed.lists

  few : n ≤ 1000
  few = stands.given.held.graph.pairs_most

  -- The list can be adopted.
  pub to_adopt : ToAdopt n mid marks separated
  to_adopt =
      record { few = few; fewer = lists.within; there = lists.there; area_room = stands.area_room; marks_room = stands.marks_room }

  -- A class is as it was, or the pair is on the list.
  same_or_noted : (k : ℕ) → k < n → (NotedPair marks separated k → ⊥) → new_in mid k ≡ class_in (take 2000 mid) k
  same_or_noted k l unlisted = elim (ℕ_discrete (new_in mid k) (class_in (take 2000 mid) k)) [ yes e ↦ e | no other ↦ absurd (unlisted (lists.all k l other)) ]

  module _ (after : List ℕ) (adopted : Adopted n mid marks separated after) (long : length after ≡ length mid) where
    -- Every class is the new one.
    taken : (k : ℕ) → k < n → class_in (take 2000 after) k ≡ new_in mid k
    taken k l =
        class_front after k (omega (arith, few))
        ∙ elim (ℕ_discrete (new_in mid k) (class_in (take 2000 mid) k)) [
          | yes e ↦ adopted.else k l (λ o. lists.leaves o.place o.within (still o.place o.is e)) ∙ sym (class_front mid k (omega (arith, few))) ∙ sym e
          | no other ↦ on_list (lists.all k l other)
        ]
      where
        still : (p : ℕ) → noted_in marks p ≡ k → new_in mid k ≡ class_in (take 2000 mid) k → new_in mid (noted_in marks p) ≡ class_in (take 2000 mid) (noted_in marks p)
        still p e f = subst (λ x. new_in mid x ≡ class_in (take 2000 mid) x) (sym e) f

        on_list : NotedPair marks separated k → class_in after k ≡ new_in mid k
        on_list o = subst (λ x. class_in after x ≡ new_in mid x) o.is (adopted.here o.place o.within)

    numbered : ClassesNumbered (view_of graph flags actions (take 2000 area)) (class_in (take 2000 after)) n
    numbered =
        numbered_as (view_of graph flags actions (take 2000 area)) (new_in mid) (class_in (take 2000 after)) n
        (subst (λ c. ClassesNumbered (view_of graph flags actions c) (new_in mid) n) passed.front passed.passed.numbered) taken

    firsts : ClassFirsts n flags (take 2000 after)
    unfolding view_of
    firsts =
        record {
          most = numbered.most;
          first_safe = numbered.is_safe;
          itself =
              λ k l p.
              sym (numbered.joined k (class_in (take 2000 after) k) l (omega (arith, numbered.most k l)) p (numbered.is_safe k l p) (numbered.alike k l p));
        }

    pub taken_long : length (take 2000 after) ≡ 2000
    taken_long = part_long after (omega (arith, long, stands.area_room))

    -- The pairs can be marked.
    pub to_mark : ReadyToMark n actions graph flags (take 2000 after) marks separated
    to_mark =
        record {
          given = stands.given;
          firsts = firsts;
          classes_room = part_room after (omega (arith, long, stands.area_room));
          marks_room = stands.marks_room;
          few = lists.within;
          noted = lists.there;
        }

    module _ (marks_after : List ℕ) (again : MarkedAgain n actions graph flags (take 2000 after) marks separated marks_after)
        (marks_long : length marks_after ≡ length marks) where
      -- A pair to which a step from a quiet pair leads has the class that it had.
      led_same : (i a j : ℕ) → i < n → a < actions → Quiet actions graph flags marks separated i → led_to graph flags i a ≡ Some j
          → class_in (take 2000 after) j ≡ class_in (take 2000 area) j
      led_same i a j l m quiet e =
          let there = allowed_below graph flags n actions i a j stands.given.held l m e in
          taken j there ∙ same_or_noted j there (λ o. quiet.none a j o.place m e o.within o.is) ∙ ap (λ c. class_in c j) passed.front

      -- So it shows what it showed.
      shows_still : (i a : ℕ) → i < n → a < actions → Quiet actions graph flags marks separated i
          → shows_in graph flags (take 2000 after) i a ≡ shows_in graph flags (take 2000 area) i a
      unfolding shows_in
      shows_still i a l m quiet = go (led_to graph flags i a) refl
        where
          go : (o : Option ℕ) → led_to graph flags i a ≡ o → shown (class_in (take 2000 after)) o ≡ shown (class_in (take 2000 area)) o
          go None e = unfold shown in refl
          go (Some j) e = unfold shown in (ap (λ x. x + 1) (led_same i a j l m quiet e))

      settled : (k : ℕ) → k < n → safe_in flags k ≡ true → marked_in marks_after k ≡ false
          → AlikePairs (view_of graph flags actions (take 2000 after)) k (class_in (take 2000 after) k)
      unfolding view_of
      settled k l p e =
          let c = class_in (take 2000 after) k in
          let below = numbered.most k l in
          let quiet = again.quiet k l p e in
          let first_quiet = again.quiet c (omega arith) (numbered.is_safe k l p) (again.first_too k l p e) in
          let alike = numbered.alike k l p in
          record {
            state = alike.state;
            class = sym (firsts.itself k l p);
            shows = λ a m. shows_still k a l m quiet ∙ alike.shows a m ∙ sym (shows_still c a (omega arith) m first_quiet);
          }

      -- The pass is made.
      pub pass_made : PassMade graph flags actions n area separated after marks_after
      pass_made =
          record {
            numbered = numbered;
            ready =
                record {
                  stands =
                      record {
                        given = stands.given;
                        firsts = firsts;
                        only_safe = again.only_safe;
                        settled = settled;
                        area_room = omega (arith, long, stands.area_room);
                        marks_room = omega (arith, marks_long, stands.marks_room);
                      };
                  level = λ k l. adopted.news k ∙ sym (taken k l);
                };
            none =
                λ e k l.
                taken k l ∙ same_or_noted k l (λ o. omega (arith, o.within)) ∙ ap (λ c. class_in c k) passed.front;
            some =
                λ more.
                record {
                  pair = noted_in marks 0;
                  there = lists.there 0 more;
                  is_safe = lists.is_safe 0 more;
                  other =
                      λ e.
                      lists.leaves 0 more
                      (sym (taken (noted_in marks 0) (lists.there 0 more)) ∙ e ∙ sym (ap (λ c. class_in c (noted_in marks 0)) passed.front));
                };
          }
