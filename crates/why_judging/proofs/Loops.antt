-- Positions from the last back, and nodes in order.
use Prim.Native.Nat.{ℕ, ◌+◌, ◌-◌, ◌*◌, ◌≤◌, ◌<◌}
use native.Mathlib.Omega.{arith}
use native.Mathlib.Decide.{ℕ_discrete}
use mathlib.Core.Path.{◌≡◌, refl, ap, ◌∙◌, subst}
use mathlib.Core.Bool.{Bool}
use mathlib.Core.List.{List}
use lib.ListN.{length, set, length-set}
use lib.Seq.{get_or-set_same, get_or-set_other}
use Rattle.logic.specs.declared.Tick.{Tick}
use Rattle.reading.specs.BookArea.{nodes_in}
use Rattle.book_progression.specs.NodeBytes.{code_of, IsHeld}
use Rattle.book_progression.proofs.BookHeld.{has_nodes}
use lib.Dec.{eqb}
use Rattle.why_judging.proofs.Marks.{constant_kept}
use Rattle.why_judging.specs.Judgement.{kept_size, kept_in, kept_byte, position_room, RunMarked, NodeJudged, NodesJudged, NodeNext, NodeWaits, KeptHere}

-- ---- one node

-- Node k is judged at the positions from i on, and the nodes below it everywhere.
pub record NodeJudging (tower nodes run states marks : List ℕ) (n k : ℕ) (first : List ℕ) (i : ℕ) (kept : List ℕ) : Type 0 where
  pub least : i ≤ n
  pub long : length kept ≡ length first
  pub ready : NodeNext tower nodes run states marks n k kept
  pub done : NodeJudged tower nodes run states n k i kept

-- the position before, and one more
back : (i : ℕ) → 0 < i → i ≡ i - 1 + 1
back i some = omega arith

module _ (tower nodes run states marks : List ℕ) (n k : ℕ) where
  -- No position is judged yet.
  pub node_first : (kept : List ℕ) → NodeNext tower nodes run states marks n k kept → NodeJudging tower nodes run states marks n k kept n kept
  node_first kept ready = record { least = omega arith; long = refl; ready = ready; done = record { says = λ f s j l m. absurd (omega arith) } }

  -- with position i
  put_at : (first : List ℕ) (i : ℕ) (kept after : List ℕ) (b : Bool) → after ≡ set kept (position_room * k + i) (kept_byte b)
      → NodeJudging tower nodes run states marks n k first (i + 1) kept → KeptHere b tower nodes run states n k i
      → NodeJudging tower nodes run states marks n k first i after
  put_at first i kept after b put going here =
      record {
        least = omega (arith, going.least);
        long = room ∙ going.long;
        ready = record {
          marked = going.ready.marked;
          node = going.ready.node;
          low = going.ready.low;
          room = omega (arith, room, going.ready.room);
          below = record {
            says = λ j l. record {
              says = λ f s m from inside. elsewhere j m (λ e. omega (arith, going.ready.marked.held.few, going.least))
                  ∙ (going.ready.below.says j l).says f s m from inside;
            };
          };
        };
        done = record {
          says = λ f s j from inside. elim (ℕ_discrete j i) [
            | yes same ↦ rw same (written ∙ ap kept_byte (here.says f s))
            | no other ↦ elsewhere k j (λ e. other (omega arith)) ∙ going.done.says f s j (omega (arith, other)) inside
          ];
        };
      }
    where
      room : length after ≡ length kept
      room = ap length put ∙ length-set kept (position_room * k + i) (kept_byte b)

      elsewhere : (j m : ℕ) → (position_room * j + m ≡ position_room * k + i → ⊥) → kept_in after j m ≡ kept_in kept j m
      elsewhere j m apart = rw put (get_or-set_other kept (position_room * k + i) (position_room * j + m) (kept_byte b) 0 apart)

      written : kept_in after k i ≡ kept_byte b
      written =
          rw put (get_or-set_same kept (position_room * k + i) (kept_byte b) 0
          (omega (arith, going.ready.room, going.ready.low, going.least, going.ready.marked.held.few)))

  -- The position before is judged, too.
  pub node_put : (first : List ℕ) (i : ℕ) (kept after : List ℕ) (b : Bool) → after ≡ set kept (position_room * k + (i - 1)) (kept_byte b)
      → NodeJudging tower nodes run states marks n k first i kept → KeptHere b tower nodes run states n k (i - 1) → 0 < i
      → NodeJudging tower nodes run states marks n k first (i - 1) after
  node_put first i kept after b put going here some =
      put_at first (i - 1) kept after b put (subst (λ j. NodeJudging tower nodes run states marks n k first j kept) (back i some) going) here

  -- A constant is kept at the position before, or not.
  pub constant_back : (first : List ℕ) (i : ℕ) (kept : List ℕ) (b : Bool) → NodeJudging tower nodes run states marks n k first i kept → 0 < i
      → code_of nodes k ≤ 1 → b ≡ eqb (code_of nodes k) 1 → KeptHere b tower nodes run states n k (i - 1)
  constant_back first i kept b going some low is_b =
      constant_kept tower nodes run states n k b (i - 1) low is_b (omega (arith, going.least))

  -- What node k waits for at a position, as it is asked for the one before.
  pub waits_back : (far : Tick) (i : ℕ) → NodeWaits far tower nodes run states n k i → 0 < i → NodeWaits far tower nodes run states n k (i - 1 + 1)
  waits_back far i waits some = subst (λ j. NodeWaits far tower nodes run states n k j) (back i some) waits

  -- All are.
  pub node_end : (first : List ℕ) (i : ℕ) (kept : List ℕ) → NodeJudging tower nodes run states marks n k first i kept → i ≤ 0
      → NodesJudged tower nodes run states n (k + 1) kept
  node_end first i kept going over =
      record {
        says = λ j l. elim (ℕ_discrete j k) [
          | yes same ↦ rw same (record { says = λ f s m from inside. going.done.says f s m (omega arith) inside })
          | no other ↦ going.ready.below.says j (omega (arith, other))
        ];
      }

-- ---- all nodes

-- The nodes below node k are judged.
pub record NodesJudging (tower nodes run states : List ℕ) (n : ℕ) (first : List ℕ) (k : ℕ) (kept : List ℕ) : Type 0 where
  pub long : length kept ≡ length first
  pub room : kept_size ≤ length kept
  pub below : NodesJudged tower nodes run states n k kept

module _ (tower nodes run states : List ℕ) (n : ℕ) (first : List ℕ) where
  -- No node is judged yet.
  pub nodes_first : kept_size ≤ length first → NodesJudging tower nodes run states n first 0 first
  nodes_first room = record { long = refl; room = room; below = record { says = λ j l. absurd (omega arith) } }

  module _ (k : ℕ) (kept : List ℕ) (going : NodesJudging tower nodes run states n first k kept) where
    -- What is asked before node k is judged.
    pub nodes_ready : (count : ℕ) → count ≡ nodes_in nodes → k < count → (marks : List ℕ) → RunMarked tower run states marks n → IsHeld nodes
        → NodeNext tower nodes run states marks n k kept
    nodes_ready count all low marks marked book =
        record {
          marked = marked;
          node = (has_nodes nodes count all book).nodes k low;
          low = omega (arith, book.few);
          room = going.room;
          below = going.below;
        }

    -- Node k is judged, too.
    pub nodes_next : (after : List ℕ) → NodesJudged tower nodes run states n (k + 1) after → length after ≡ length kept
        → NodesJudging tower nodes run states n first (k + 1) after
    nodes_next after below size =
        record { long = size ∙ going.long; room = omega (arith, going.room); below = below }

    -- All are.
    pub nodes_end : (count : ℕ) → count ≡ nodes_in nodes → count ≤ k → NodesJudged tower nodes run states n (nodes_in nodes) kept
    nodes_end count all over = record { says = λ j l. going.below.says j (omega arith) }
