-- A pair that is over_full is stepped from by no action: its moves are written.
use Prim.Native.Nat.{ℕ, ◌+◌, ◌*◌, ◌≤◌, ◌<◌}
use native.Mathlib.Omega.{arith}
use native.Mathlib.Decide.{dec_lt}
use mathlib.Core.Path.{◌≡◌, refl, sym, ◌∙◌, ap, subst}
use mathlib.Core.Logic.{inl, inr}
use mathlib.Core.Bool.{Bool, true, false}
use Rattle.std.specs.Prelude.{Option, None, Some}
use mathlib.Core.List.{List}
use lib.ListN.{length}
use Rattle.base.specs.Lists.{is_there}
use Rattle.base.proofs.Lists.{is_there_out, not_there}
use Rattle.logic.specs.Tower.{Tower}
use Rattle.area_bytes.proofs.Numbers.{stored, stored_read, stored_beside, length_stored}
use Rattle.set_index.specs.Entries.{entry_number}
use Rattle.pair_graph.specs.Steps.{cell, state_in, move_of, move_at, graph_size}
use Rattle.pair_trial.specs.Walked.{Searchable}
use Rattle.pair_step.specs.Stepped.{blocked_number, Blocked}
use Rattle.pair_step.proofs.Following.{cell_inside}

-- ---- blocked_code

pub blocked_enabled : (o : Option ℕ) (r : Bool) → r ≡ is_there o → r ≡ true → 1 ≡ blocked_number o
unfolding blocked_number
blocked_enabled o r e f = let (y, goes) = is_there_out o (sym e ∙ f) in sym (ap blocked_number goes)

pub blocked_not : (o : Option ℕ) (r : Bool) → r ≡ is_there o → r ≡ false → 0 ≡ blocked_number o
unfolding blocked_number
blocked_not o r e f = sym (ap blocked_number (not_there o (sym e ∙ f)))

-- ---- block

-- At action a, where `first` was the graph.
pub record Blocking (tower : Tower) (area : List ℕ) (i x end a : ℕ) (first graph : List ℕ) : Type 0 where
  pub at : x ≡ entry_number area i
  pub last : end ≡ tower.actions
  pub few : end ≤ 16
  pub low : i < 1000
  pub inside : a ≤ end
  pub space : graph_size ≤ length graph
  pub blocked : Blocked tower area i a first graph

pub block_start : (tower : Tower) (area : List ℕ) (i x end : ℕ) (graph : List ℕ) → x ≡ entry_number area i → end ≡ tower.actions → Searchable tower
    → i < 1000 → graph_size ≤ length graph → Blocking tower area i x end 0 graph graph
block_start tower area i x end graph at last bounds low space =
    record {
      at = at;
      last = last;
      few = omega (arith, bounds.actions_most);
      low = low;
      inside = omega arith;
      space = space;
      blocked =
          record { size = refl; moves = λ a l. absurd (omega arith); before = λ j b l. refl; states = λ j. refl };
    }

small_blocked : (o : Option ℕ) → blocked_number o < 65536
unfolding blocked_number
small_blocked None = omega arith
small_blocked (Some y) = omega arith

module _ (tower : Tower) (area : List ℕ) (i x end a : ℕ) (first graph : List ℕ) (g : Blocking tower area i x end a first graph) where
  pub block_state : entry_number area i < tower.states → x < tower.states
  block_state l = omega (arith, g.at)

  pub block_listed : a < end → a < tower.actions
  block_listed l = omega (arith, g.last)

  pub block_room : a < end → a < 16
  block_room l = omega (arith, g.few)

  pub block_end : end ≤ a → Blocked tower area i tower.actions first graph
  block_end l =
      record {
        size = g.blocked.size;
        moves = λ b k. g.blocked.moves b (omega (arith, g.last));
        before = g.blocked.before;
        states = g.blocked.states;
      }

-- One move more is written.
pub block_next : (tower : Tower) (area : List ℕ) (i x end a code : ℕ) (first graph after : List ℕ) → after ≡ stored graph (cell i a) code
    → Blocking tower area i x end a first graph → code ≡ blocked_number (tower.target x a) → a < end
    → Blocking tower area i x end (a + 1) first after
block_next tower area i x end a code first graph after written g is_code l =
    record {
      at = g.at;
      last = g.last;
      few = g.few;
      low = g.low;
      inside = omega arith;
      space = omega (arith, g.space, long);
      blocked =
          record {
            size = long ∙ g.blocked.size;
            moves = λ b k. move b k (dec_lt b a);
            before = λ j b k. beside j b (omega arith) ∙ g.blocked.before j b k;
            states = λ j. state j ∙ g.blocked.states j;
          };
    }
  where
    long : length after ≡ length graph
    long = ap length written ∙ length_stored graph (cell i a) code

    beside : (j b : ℕ) → 16 * j + b < 16 * i + a → move_at after j b ≡ move_at graph j b
    beside j b k =
        unfold move_at cell in
        ap move_of (rw written (stored_beside graph (2 * (16 * i + a)) code (2 * (16 * j + b)) (inl (omega arith))))

    state : (j : ℕ) → state_in after j ≡ state_in graph j
    state j =
        unfold cell in
        (rw written (stored_beside graph (2 * (16 * i + a)) code (32000 + 2 * j) (inr (omega (arith, g.few, g.low)))))

    here : move_at after i a ≡ move_of (blocked_number (tower.target (entry_number area i) a))
    here =
        unfold move_at in
        ap move_of
        (rw written (stored_read graph (cell i a) code (cell_inside i a graph g.low (omega (arith, g.few)) g.space)
        (rw is_code (small_blocked (tower.target x a))))
        ∙ is_code ∙ ap (λ (y : ℕ). blocked_number (tower.target y a)) g.at)

    move : (b : ℕ) → b < a + 1 → Dec (b < a) → move_at after i b ≡ move_of (blocked_number (tower.target (entry_number area i) b))
    move b k (yes m) = beside i b (omega arith) ∙ g.blocked.moves b m
    move b k (no m) =
        let same : b ≡ a = omega arith in
        subst (λ (c : ℕ). move_at after i c ≡ move_of (blocked_number (tower.target (entry_number area i) c))) (sym same) here
