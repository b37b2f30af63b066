-- A node becomes pending or stays so, by the ways through `merged`, `put`, `compares`, `progress_next` and `stay`.
use Prim.Native.Nat.{ℕ, ◌+◌, ◌-◌, ◌≤◌, ◌<◌}
use native.Mathlib.Omega.{arith}
use mathlib.Core.Path.{◌≡◌, refl, sym, ◌∙◌, ap}
use mathlib.Core.Bool.{Bool, true, false, not}
use Rattle.std.specs.Prelude.{None, Some}
use mathlib.Core.List.{List}
use lib.ListN.{get_or, set}
use borrow.Author.Tests.{not-true, not-false, le-leb, lt-leb}
use Rattle.logic.specs.Time.{ticks, minus, at_most, longer, shorter}
use Rattle.logic.specs.Book.{Comparison, Formula, next, compares, second_part}
use Rattle.logic.specs.declared.Tick.{Tick}
use Rattle.pending.specs.Pending.{merge, coming, put, fresh, provided, progress}
use Rattle.reading.specs.BookArea.{node_code, node_number, node_second}
use Rattle.book_progression.specs.PendingBytes.{cell_of, pending_of, outcome}
use Rattle.book_progression.specs.NodeBytes.{code_of, number_of, second_of, fresh_of, Stored, IsNode}
use Rattle.book_progression.specs.Promises.{Merged, NodeReady, PutsNode, Compares, NextReady, Nexts, Stays}
use Rattle.book_progression.proofs.Cells.{cell_low, cell_one_more, pending_at, pending_set}
use Rattle.book_progression.proofs.Nodes.{by_kind, by_next, by_always, by_until, next_part, second_node, second_below, fresh_low, fresh_is}

module _ (bytes : List ℕ) (k : ℕ) (r : Tick) (cell : ℕ) where
  pub merged_none : None ≡ cell_of cell → r.0 ≤ 254 → Merged r bytes k r cell
  unfolding coming
  merged_none e low = record { says = λ f s. rw (← e); small = low }

  module _ (q : Tick) (there : Some q ≡ cell_of cell) (code : ℕ) (same : code ≡ code_of bytes k) where
    pub merged_always : (m : Tick) → m ≡ longer r q → code ≡ 11 → r.0 ≤ 254 → cell < 256 → Merged m bytes k r cell
    unfolding coming merge longer
    merged_always m e eleven low byte =
        record {
          says = λ f s. by_always bytes k (λ f. m ≡ coming f r (cell_of cell)) f s (omega arith) (λ t g s. rw (← there) e);
          small = rw e (omega (arith, cell_low cell q there));
        }

    pub merged_until : (m : Tick) → m ≡ shorter r q → code ≡ 12 → r.0 ≤ 254 → Merged m bytes k r cell
    unfolding coming merge shorter
    merged_until m e twelve low =
        record {
          says = λ f s. by_until bytes k (λ f. m ≡ coming f r (cell_of cell)) f s (omega arith) (λ t g h s. rw (← there) e);
          small = rw e (omega arith);
        }

    pub merged_other : (code ≡ 11 → ⊥) → (code ≡ 12 → ⊥) → r.0 ≤ 254 → Merged r bytes k r cell
    unfolding coming merge
    merged_other not_always not_until low =
        record {
          says = λ f s. by_kind bytes k (λ f. r ≡ coming f r (cell_of cell)) f s
              (λ b s lo. rw (← there)) (λ a b s lo up. rw (← there)) (λ a b s at. rw (← there))
              (λ a b s lo up. rw (← there)) (λ a b c s lo up. rw (← there))
              (λ a b s at. absurd (omega arith)) (λ a b c s at. absurd (omega arith));
          small = low;
        }

-- The byte of what came of the merge is stored.
pub put_stored : (bytes : List ℕ) (k : ℕ) (r m : Tick) (cells : List ℕ) → Merged m bytes k r (get_or cells k 0)
    → PutsNode bytes k r cells (set cells k (m.0 + 1))
unfolding put
put_stored bytes k r m cells merged =
    record {
      says = λ f s. pending_set cells k (m.0 + 1) ∙ rw (cell_one_more m.0, pending_at cells k, ← merged.says f s);
    }

module _ (bytes : List ℕ) (k : ℕ) (d : Tick) (cells : List ℕ) (ready : NextReady bytes k cells) where
  pub next_broken : (code n : ℕ) (a : Bool) → code ≡ code_of bytes k → n ≡ number_of bytes k → Compares a code d (ticks n) → not a ≡ true
      → Nexts false bytes k d cells cells
  unfolding progress provided outcome Stored node_code node_number
  next_broken code n a e num compared fails =
      record {
        says = λ f s tower x r.
            by_next bytes k (λ f. progress tower x d f k r (pending_of cells) ≡ outcome false cells) f s ready.low ready.high
            (λ c t g s. rw (← num ∙ s.0.number, ← compared.says c (e ∙ s.0.code), not-true a fails));
      }

  pub next_put : (code n p : ℕ) (a : Bool) (q : Tick) (after : List ℕ) → code ≡ code_of bytes k → n ≡ number_of bytes k
      → Compares a code d (ticks n) → not a ≡ false → p ≡ second_of bytes k → q ≡ ticks (fresh_of bytes p) → PutsNode bytes p q cells after
      → Nexts true bytes k d cells after
  unfolding progress provided outcome Stored node_code node_number node_second
  next_put code n p a q after e num compared passes part new done =
      record {
        says = λ f s tower x r.
            by_next bytes k (λ f. progress tower x d f k r (pending_of cells) ≡ outcome true after) f s ready.low ready.high
            (λ c t g s. go c t g s (next_part bytes k p c t g s part));
      }
    where
      go : (c : Comparison) (t : Tick) (g : Formula) → Stored bytes (next c t g) k → Stored bytes g p
          → provided (compares c d t) (Some (put g (second_part k) (fresh g) (pending_of cells))) ≡ Some (pending_of after)
      go c t g s stored =
          let number : t ≡ ticks n = ap (λ m. ticks m) (sym (num ∙ s.0.number)) in
          let place : second_part k ≡ p = sym (part ∙ s.0.second) in
          rw (number, ← compared.says c (e ∙ s.0.code), not-false a passes, place, ← fresh_is bytes p g stored, ← new)
          (ap (λ l. Some l) (sym (done.says g stored)))

  pub next_node : (p : ℕ) → p ≡ second_of bytes k → IsNode bytes p
  next_node p part = second_node bytes k p (code_of bytes k) part refl (omega (arith, ready.low)) ready.node

  pub next_ready : (p : ℕ) (q : Tick) → p ≡ second_of bytes k → q ≡ ticks (fresh_of bytes p) → NodeReady bytes p q cells
  next_ready p q part new =
      record {
        node = next_node p part;
        cell = omega (arith, ready.cell, (second_below bytes k p (code_of bytes k) part refl (omega (arith, ready.low)) ready.node k refl).0);
        left = rw new (fresh_low bytes p (next_node p part));
      }

module _ (bytes : List ℕ) (k : ℕ) (r d : Tick) (cells : List ℕ) where
  pub stay_off : r.0 < d.0 → Stays bytes k r d cells cells
  unfolding at_most
  stay_off lt = record { says = λ f s. rw (lt-leb d.0 r.0 lt) }

  pub stay_on : (after : List ℕ) → d.0 ≤ r.0 → PutsNode bytes k (ticks (r.0 - d.0)) cells after → Stays bytes k r d cells after
  unfolding at_most minus
  stay_on after le done = record { says = λ f s. rw (le-leb d.0 r.0 le) (done.says f s) }
