-- What comes of the old alternatives, joined one after the other: the ways through `behind`, `join_behind` and `progressed`.
use Prim.Native.Nat.{ℕ, suc, ◌+◌, ◌*◌, ◌≤◌, ◌<◌}
use native.Mathlib.Omega.{arith}
use native.Mathlib.Numerals.{add-one}
use mathlib.Core.Path.{◌≡◌, refl, sym, ◌∙◌, ap, ap₂}
use mathlib.Core.Bool.{false}
use mathlib.Core.List.{List, ◌∷◌}
use lib.ListN.{length, get_or, drop, get_or-map, drop_of_length-le}
use lib.Seq.{drop-cons}
use Rattle.base.specs.Lists.{below}
use Rattle.base.proofs.Lists.{get_or_below}
use Rattle.logic.specs.Book.{constant, nodes, Book}
use Rattle.logic.specs.declared.Tick.{Tick}
use Rattle.pending.specs.Pending.{Pending}
use Rattle.pending.proofs.Nodes.{fit_sits}
use Rattle.reading.specs.BookArea.{nodes_in}
use Rattle.alternatives.specs.Alternatives.{joined_with}
use Rattle.alternatives.specs.Progression.{combined_nodes, combined_rules, alternatives_behind, joined_behind, progressed_set}
use Rattle.alternatives.proofs.Sized.{none_stands, joined_stands, nothing_stands, behind_alone}
use Rattle.book_progression.specs.NodeBytes.{HeldBook, MarkedState}
use Rattle.book_progression.specs.Promises.{HasNodes}
use Rattle.book_progression.proofs.BookHeld.{sits_at, held_nodes, has_nodes}
use Rattle.alternative_bytes.specs.AlternativeBytes.{alternative_in}
use Rattle.set_bytes.specs.SetBytes.{set_in, answered}
use Rattle.set_bytes.specs.Promises.{Candidates, JoinsSets, SetsReady}
use Rattle.set_bytes.proofs.Sets.{set_length}
use Rattle.book_alternatives.specs.Offers.{combined_at, joined_at, Rooted, StepReady, NodesCombined, LinesCombined, NoneCombined, AlternativeReady, Behind, JoinedStands, CombinedCopied, BehindJoined, Progressed}
use Rattle.book_alternatives.proofs.Sets.{changed_beside, candidates_none, candidates_both, kept_behind, none_answered}
use Rattle.book_alternatives.proofs.Combining.{leaves_both, still_ready}

-- ---- the nodes of a book that is held

-- Every node is rooted.
pub rooted_held : (bytes : List ℕ) (book : Book) (n k : ℕ) → HeldBook bytes book → n ≡ nodes_in bytes → k < n → Rooted bytes 0 k
rooted_held bytes book n k held all low =
    let are = held_nodes bytes book held n all in
    record {
      formula = get_or (nodes book) k (constant false);
      stored = are.stored k low;
      numbers = omega (arith, (sits_at (nodes book) (nodes book) 0 k k (fit_sits book held.fit) (omega (arith, are.all)) (omega arith)).last);
    }

-- ---- one old alternative

module _ (bytes : List ℕ) (n : ℕ) (old : List ℕ) (from : ℕ) (sets room : List ℕ) (ready : AlternativeReady bytes n old from sets room) where
  pub none_few : n ≤ 60
  none_few = omega (arith, ready.all, ready.held.few)

  pub nodes_there : HasNodes bytes n
  nodes_there = has_nodes bytes n ready.all ready.held

  module _ (mask : ℕ) (clean : List ℕ) (empty : NoneCombined n sets clean) where
    pub nodes_step : StepReady bytes n mask 1 clean room
    nodes_step =
        record {
          nodes = nodes_there;
          few = none_few;
          most = omega arith;
          stands = record { says = λ fs are at. rw (empty.says fs are.all) (nothing_stands fs) };
          rooted = λ k low. rooted_held bytes ready.held.book n k ready.held.held ready.all low;
          sets_room = omega (arith, ready.sets_room, empty.beside.size);
          candidates_room = ready.candidates_room;
        }

    module _ (d : Tick) (left : ℕ) (mid mid_room : List ℕ) (run : NodesCombined left bytes n mask d old from 1 clean room mid mid_room) where
      pub lines_step : StepReady bytes n mask left mid mid_room
      lines_step = still_ready bytes n mask 1 clean room left mid mid_room run.leaves run.stands nodes_step

      pub behind_done : (out : ℕ) (after after_room : List ℕ) → LinesCombined out bytes n mask d left mid mid_room after after_room
          → Behind out bytes n mask d old from sets room after after_room
      unfolding alternatives_behind
      behind_done out after after_room lines =
          record {
            leaves = leaves_both 1 out sets room clean room after after_room
                (record {
                  most = omega arith;
                  changed = changed_beside sets combined_at 960 clean 0 joined_at empty.beside (omega arith) (omega arith);
                  candidates = candidates_none room;
                })
                (leaves_both left out clean room mid mid_room after after_room run.leaves lines.leaves);
            says = λ book held at.
                let are = held_nodes bytes book held n ready.all in
                lines.says book held (nodes book) are at
                ∙ ap (combined_rules at.tower (nodes book) at.state d book 0)
                (run.says (nodes book) are at
                ∙ ap (combined_nodes at.tower (nodes book) at.state d (nodes book) 0 (alternative_in old n from)) (empty.says (nodes book) are.all));
          }

  module _ (mask : ℕ) (d : Tick) (next : ℕ) (mid mid_room : List ℕ) (done : Behind next bytes n mask d old from sets room mid mid_room) where
    pub join_sets : SetsReady n mid joined_at combined_at joined_at mid_room
    join_sets =
        record {
          nodes = none_few;
          first = omega (arith, ready.sets_room, done.leaves.changed.size);
          second = omega (arith, ready.sets_room, done.leaves.changed.size);
          target = omega (arith, ready.sets_room, done.leaves.changed.size);
          candidates = omega (arith, ready.candidates_room, done.leaves.candidates.size);
        }

    pub behind_joined : (out count : ℕ) (after after_room : List ℕ)
        → JoinsSets out bytes n mid joined_at count combined_at next joined_at mid_room after after_room → JoinedStands bytes n mask count sets
        → BehindJoined out bytes n mask d old from count sets room after after_room
    behind_joined out count after after_room join stands =
        record {
          most = join.leaves.most;
          size = join.leaves.beside.size ∙ done.leaves.changed.size;
          candidates = candidates_both room mid_room after_room done.leaves.candidates join.leaves.candidates;
          stands = record {
            says = λ book held at.
                rw (said book held at)
                (joined_stands (nodes book) (answered sets n joined_at count) (alternatives_behind at.tower book at.state d (alternative_in old n from)));
          };
          says = said;
        }
      where
        kept : answered mid n joined_at count ≡ answered sets n joined_at count
        kept = kept_behind sets 0 joined_at mid n joined_at count done.leaves.changed (omega arith)

        said : (book : Book) → HeldBook bytes book → (at : MarkedState mask)
            → answered after n joined_at out
            ≡ joined_with (nodes book) (answered sets n joined_at count) (alternatives_behind at.tower book at.state d (alternative_in old n from))
        said book held at =
            join.says (nodes book) (held_nodes bytes book held n ready.all) (rw kept (stands.says book held at))
            ∙ ap₂ (joined_with (nodes book)) kept (done.says book held at)

    -- Where none stands so far it is copied.
    pub behind_copied : (count : ℕ) (after : List ℕ) → CombinedCopied next mid after → count ≡ 0
        → BehindJoined next bytes n mask d old from count sets room after mid_room
    behind_copied count after copied none_yet =
        record {
          most = done.leaves.most;
          size = copied.size ∙ done.leaves.changed.size;
          candidates = done.leaves.candidates;
          stands = record {
            says = λ book held at.
                rw (copied.says n none_few ∙ done.says book held at) (behind_alone at.tower book at.state d (alternative_in old n from));
          };
          says = λ book held at.
              copied.says n none_few ∙ done.says book held at
              ∙ sym (rw (none_yet, none_answered sets n joined_at) (behind_alone at.tower book at.state d (alternative_in old n from)));
        }

-- ---- all of them

-- an alternative of a set, with those behind it
set_element : (area : List ℕ) (n at count i : ℕ) → i < count
    → drop i (set_in area n at count) ≡ alternative_in area n (at + 60 * i) ∷ drop (i + 1) (set_in area n at count)
unfolding set_in
set_element area n at count i low =
    let there : i < length (set_in area n at count) = omega (arith, set_length area n at count) in
    drop-cons (set_in area n at count) i (alternative_in area n (at + 60 * 0)) there
    ∙ rw add-one (ap (λ (p : Pending). p ∷ drop (suc i) (set_in area n at count))
    (get_or-map (λ i. alternative_in area n (at + 60 * i)) (below count) i 0 ∙ ap (λ i. alternative_in area n (at + 60 * i)) (get_or_below count i 0 low)))

-- How far the old alternatives are joined: those from number i on are left to do.
pub record Joining (bytes : List ℕ) (n mask : ℕ) (d : Tick) (old : List ℕ) (from count : ℕ) (first first_room : List ℕ) (left i : ℕ) (sets room : List ℕ) : Type 0 where
  pub low : i ≤ count
  pub most : left ≤ 17
  pub size : length sets ≡ length first
  pub candidates : Candidates first_room 0 room
  pub stands : JoinedStands bytes n mask left sets
  pub says : (book : Book) → HeldBook bytes book → (at : MarkedState mask)
      → progressed_set at.tower book at.state d (set_in old n from count)
      ≡ joined_behind at.tower book at.state d (drop i (set_in old n from count)) (answered sets n joined_at left)

pub joining_first : (bytes : List ℕ) (n mask : ℕ) (d : Tick) (old : List ℕ) (from count : ℕ) (sets room : List ℕ)
    → Joining bytes n mask d old from count sets room 0 0 sets room
unfolding progressed_set
joining_first bytes n mask d old from count sets room =
    record {
      low = omega arith;
      most = omega arith;
      size = refl;
      candidates = candidates_none room;
      stands = record { says = λ book held at. rw (none_answered sets n joined_at) (none_stands (nodes book)) };
      says = λ book held at. rw (none_answered sets n joined_at) refl;
    }

module _ (bytes : List ℕ) (n mask : ℕ) (d : Tick) (old : List ℕ) (from count : ℕ) (first first_room : List ℕ) (left i : ℕ) (sets room : List ℕ)
    (going : Joining bytes n mask d old from count first first_room left i sets room) where
  pub joining_next : (out : ℕ) (after after_room : List ℕ) → BehindJoined out bytes n mask d old (from + 60 * i) left sets room after after_room
      → i < count → Joining bytes n mask d old from count first first_room out (i + 1) after after_room
  unfolding joined_behind
  joining_next out after after_room joined low =
      record {
        low = omega arith;
        most = joined.most;
        size = joined.size ∙ going.size;
        candidates = candidates_both first_room room after_room going.candidates joined.candidates;
        stands = joined.stands;
        says = λ book held at. going.says book held at ∙ rw (set_element old n from count i low, joined.says book held at) refl;
      }

  pub joining_end : n ≡ nodes_in bytes → count ≤ i → Progressed left bytes mask d old from count first_room sets room
  unfolding joined_behind
  joining_end all over =
      record {
        most = going.most;
        candidates = going.candidates;
        says = λ book held at.
            let done : length (set_in old n from count) ≤ i = omega (arith, set_length old n from count) in
            rw (← all) (sym (going.says book held at ∙ rw (drop_of_length-le (set_in old n from count) done) refl));
      }
