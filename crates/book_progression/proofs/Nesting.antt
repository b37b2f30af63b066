-- An A in an A in an A stays, from the outermost down, by the ways through `stay_nested`.
use Prim.Native.Nat.{ℕ, ◌≤◌, ◌<◌}
use native.Mathlib.Omega.{arith}
use mathlib.Core.Path.{◌≡◌, refl, sym, ◌∙◌}
use mathlib.Core.Bool.{Bool}
use mathlib.Core.List.{List}
use lib.ListN.{length}
use Rattle.logic.specs.Time.{ticks}
use Rattle.logic.specs.Book.{always_for, second_part}
use Rattle.logic.specs.declared.Tick.{Tick}
use Rattle.pending.specs.Pending.{progress}
use Rattle.reading.specs.BookArea.{node_second}
use Rattle.book_progression.specs.PendingBytes.{pending_of, outcome}
use Rattle.book_progression.specs.NodeBytes.{code_of, second_of, fresh_of, Stored, IsNode}
use Rattle.book_progression.specs.Promises.{NodeReady, Stays, Progresses}
use Rattle.book_progression.proofs.Nodes.{by_always, always_part, second_node, second_below, fresh_low}
use Rattle.book_progression.proofs.Commuting.{always_first}
use Rattle.book_progression.proofs.Progressing.{child}

-- What node p with q ticks leaves of the later cells is what node k with r ticks leaves of the earlier ones.
abbrev Leaves : List ℕ → Tick → ℕ → Tick → List ℕ → ℕ → Tick → List ℕ → Type 0
Leaves bytes d k r cells p q after =
    (b : Bool) (mask : ℕ) (last : List ℕ) → Progresses b bytes p q mask d after last → Progresses b bytes k r mask d cells last

-- An A stays, and its part starts anew.
one_always : (bytes : List ℕ) (d : Tick) (k : ℕ) (r : Tick) (cells : List ℕ) (p : ℕ) (after : List ℕ) → code_of bytes k ≡ 11
    → Stays bytes k r d cells after → p ≡ second_of bytes k → Leaves bytes d k r cells p (ticks (fresh_of bytes p)) after
unfolding Stored node_second
one_always bytes d k r cells p after eleven stays part b mask last call =
    record {
      says = λ f s at.
          by_always bytes k (λ f. progress at.tower at.state d f k r (pending_of cells) ≡ outcome b last) f s eleven
          (λ t g s. always_first bytes at.tower at.state d t g k r (pending_of cells) s
          ∙ rw (← stays.says (always_for t g) s)
          (child bytes mask d p (second_part k) (ticks (fresh_of bytes p)) b after last g (part ∙ s.0.second) (always_part bytes k p t g s part) refl call at));
    }

-- How far down the loop is: the A's from node k to node q, without q, stay.
pub record Nesting (bytes : List ℕ) (d : Tick) (k : ℕ) (r : Tick) (first : List ℕ) (q : ℕ) (left : Tick) (cells : List ℕ) : Type 0 where
  pub low : q ≤ k
  pub size : length cells ≡ length first
  pub ready : NodeReady bytes q left cells
  pub says : Leaves bytes d k r first q left cells

module _ (bytes : List ℕ) (d : Tick) (k : ℕ) (r : Tick) (first : List ℕ) (q : ℕ) (left : Tick) (cells : List ℕ)
    (going : Nesting bytes d k r first q left cells) (code : ℕ) (same : code ≡ code_of bytes q) where
  pub nesting_less : (n : ℕ) → code ≡ 11 → n ≡ second_of bytes q → n < q
  nesting_less n eleven part = (second_below bytes q n code part same (omega arith) going.ready.node q refl).0

  pub nesting_node : (n : ℕ) → code ≡ 11 → n ≡ second_of bytes q → IsNode bytes n
  nesting_node n eleven part = second_node bytes q n code part same (omega arith) going.ready.node

  pub nesting_next : (after : List ℕ) (n : ℕ) (new : Tick) → code ≡ 11 → Stays bytes q left d cells after → length after ≡ length cells
      → n ≡ second_of bytes q → new ≡ ticks (fresh_of bytes n) → Nesting bytes d k r first n new after
  nesting_next after n new eleven stays sized part is =
      let below = nesting_less n eleven part in
      let node = nesting_node n eleven part in
      record {
        low = omega (arith, below, going.low);
        size = sized ∙ going.size;
        ready = record { node = node; cell = omega (arith, below, going.ready.cell); left = rw is (fresh_low bytes n node) };
        says = λ b mask last call.
            going.says b mask last (one_always bytes d q left cells n after (sym same ∙ eleven) stays part b mask last (rw (← is) call));
      }
