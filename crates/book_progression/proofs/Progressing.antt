-- One node progresses, by the ways through `progress`.
use Prim.Native.Nat.{ℕ, ◌≤◌, ◌<◌}
use native.Mathlib.Omega.{arith}
use mathlib.Core.Path.{◌≡◌, refl, sym, ◌∙◌, ap}
use mathlib.Core.Bool.{Bool, true, false, not}
use Rattle.std.specs.Prelude.{Some}
use Rattle.base.specs.Options.{bind}
use mathlib.Core.List.{List}
use lib.ListN.{length}
use borrow.Author.Tests.{not-true, not-false, le-leb, lt-leb}
use Rattle.base.specs.Choice.{pick}
use Rattle.logic.specs.Time.{ticks, at_most}
use Rattle.logic.specs.Book.{Formula, constant, proposition, and, until, timed, first_part, second_part}
use Rattle.logic.specs.declared.Tick.{Tick}
use Rattle.pending.specs.Pending.{holds, fresh, provided, progress}
use Rattle.reading.specs.BookArea.{node_code, node_first, node_second}
use Rattle.book_progression.specs.PendingBytes.{pending_of, outcome}
use Rattle.book_progression.specs.NodeBytes.{code_of, first_of, second_of, fresh_of, Stored, IsNode, MarkedState}
use Rattle.book_progression.specs.Promises.{HoldsAt, NodeReady, NextReady, Nexts, Stays, Progresses, Passes}
use Rattle.book_progression.proofs.Nodes.{by_kind, by_until, by_and, by_or, and_first, and_second, or_first, or_second, until_first, until_second, first_below, until_below, second_below, fresh_low, fresh_is}

-- a test that alone decides
provided_outcome : (b : Bool) (cells : List ℕ) → provided b (Some (pending_of cells)) ≡ outcome b cells
unfolding provided outcome
provided_outcome true cells = refl
provided_outcome false cells = refl

-- the timed side of an or, by its code
pub first_timed : (b : Bool) → pick {X = ℕ} b (λ _. 5) (λ _. 6) ≡ 5 → b ≡ true
first_timed true e = refl
first_timed false e = absurd (omega arith)

pub first_untimed : (b : Bool) → (pick {X = ℕ} b (λ _. 5) (λ _. 6) ≡ 5 → ⊥) → b ≡ false
first_untimed true e = absurd (e refl)
first_untimed false e = refl

module _ (bytes : List ℕ) (mask : ℕ) (d : Tick) where
  -- A part that starts anew, at the place where the formula has it
  pub child : (p n : ℕ) (q : Tick) (a : Bool) (cells after : List ℕ) (g : Formula) → p ≡ n → Stored bytes g p → q ≡ ticks (fresh_of bytes p)
      → Progresses a bytes p q mask d cells after → (at : MarkedState mask)
      → progress at.tower at.state d g n (fresh g) (pending_of cells) ≡ outcome a after
  child p n q a cells after g same stored new call at = rw (← same, ← fresh_is bytes p g stored, ← new) (call.says g stored at)

module _ (bytes : List ℕ) (k : ℕ) (r : Tick) (mask : ℕ) (d : Tick) (cells : List ℕ) (code : ℕ) (e : code ≡ code_of bytes k) where
  -- the statement at a formula
  abbrev At : Bool → List ℕ → MarkedState mask → Formula → Type 0
  At b after at f = progress at.tower at.state d f k r (pending_of cells) ≡ outcome b after

  pub progress_leaf : (b : Bool) → code ≤ 3 → HoldsAt b bytes k mask → Progresses b bytes k r mask d cells cells
  unfolding progress
  progress_leaf b low held =
      record {
        says = λ f s at. by_kind bytes k (λ f. At b cells at f) f s
            (λ v s lo. rw (← held.says (constant v) s at) (provided_outcome b cells))
            (λ w m s lo up. rw (← held.says (proposition w m) s at) (provided_outcome b cells))
            (λ a b s at. absurd (omega arith)) (λ a b s lo up. absurd (omega arith)) (λ a b c s lo up. absurd (omega arith))
            (λ a b s at. absurd (omega arith)) (λ a b c s at. absurd (omega arith));
      }

  pub progress_next : (b : Bool) (after : List ℕ) → Nexts b bytes k d cells after → Progresses b bytes k r mask d cells after
  progress_next b after nexts = record { says = λ f s at. nexts.says f s at.tower at.state r }

  -- the second part of an until ends it
  module _ (twelve : code ≡ 12) (p : ℕ) (h : Bool) (second : p ≡ second_of bytes k) (held : HoldsAt h bytes p mask) where
    ended : (t : Tick) (f g : Formula) → Stored bytes (until t f g) k → (at : MarkedState mask) → holds at.tower at.state g ≡ h
    ended t f g s at = sym (held.says g (until_second bytes k p t f g s second) at)

    pub progress_until_ends : h ≡ true → Progresses true bytes k r mask d cells cells
    unfolding progress outcome
    progress_until_ends holds =
        record {
          says = λ f s at. by_until bytes k (λ f. At true cells at f) f s (omega arith) (λ t f g s. rw (ended t f g s at, holds));
        }

    pub progress_until_late : h ≡ false → r.0 < d.0 → Progresses false bytes k r mask d cells cells
    unfolding progress outcome provided at_most
    progress_until_late fails late =
        record {
          says = λ f s at. by_until bytes k (λ f. At false cells at f) f s (omega arith)
              (λ t f g s. rw (ended t f g s at, fails, lt-leb d.0 r.0 late));
        }

    module _ (fails : h ≡ false) (early : d.0 ≤ r.0) (n : ℕ) (q : Tick) (a : Bool) (mid : List ℕ) (first : n ≡ first_of bytes k)
        (new : q ≡ ticks (fresh_of bytes n)) (call : Progresses a bytes n q mask d cells mid) where
      until_child : (t : Tick) (f g : Formula) → Stored bytes (until t f g) k → (at : MarkedState mask)
          → progress at.tower at.state d f (first_part k g) (fresh f) (pending_of cells) ≡ outcome a mid
      unfolding Stored node_first
      until_child t f g s at =
          child bytes mask d n (first_part k g) q a cells mid f (first ∙ s.0.first) (until_first bytes k n t f g s first) new call at

      pub progress_until_broken : not a ≡ true → Progresses false bytes k r mask d cells mid
      unfolding progress bind outcome provided at_most
      progress_until_broken breaks =
          record {
            says = λ f s at. by_until bytes k (λ f. At false mid at f) f s (omega arith)
                (λ t f g s. rw (ended t f g s at, fails, le-leb d.0 r.0 early, until_child t f g s at, not-true a breaks));
          }

      pub progress_until : (after : List ℕ) → not a ≡ false → Stays bytes k r d mid after → Progresses true bytes k r mask d cells after
      unfolding progress bind outcome provided at_most
      progress_until after passes stays =
          record {
            says = λ f s at. by_until bytes k (λ f. At true after at f) f s (omega arith) (λ t f g s. go t f g s at);
          }
        where
          go : (t : Tick) (f g : Formula) → Stored bytes (until t f g) k → (at : MarkedState mask) → At true after at (until t f g)
          go t f g s at =
              rw (ended t f g s at, fails, le-leb d.0 r.0 early, until_child t f g s at, not-false a passes)
              (ap (λ l. Some l) (sym (stays.says (until t f g) s ∙ rw (le-leb d.0 r.0 early))))

  -- both parts of an and, the first before the second
  module _ (four : code ≡ 4) (p : ℕ) (q : Tick) (a : Bool) (mid : List ℕ) (first : p ≡ first_of bytes k) (new : q ≡ ticks (fresh_of bytes p))
      (call : Progresses a bytes p q mask d cells mid) where
    and_child : (f g : Formula) → Stored bytes (and f g) k → (at : MarkedState mask)
        → progress at.tower at.state d f (first_part k g) (fresh f) (pending_of cells) ≡ outcome a mid
    unfolding Stored node_first
    and_child f g s at =
        child bytes mask d p (first_part k g) q a cells mid f (first ∙ s.0.first) (and_first bytes k p f g s first) new call at

    pub progress_and_broken : not a ≡ true → Progresses false bytes k r mask d cells mid
    unfolding progress bind outcome
    progress_and_broken breaks =
        record {
          says = λ f s at. by_and bytes k (λ f. At false mid at f) f s (omega arith) (λ f g s. rw (and_child f g s at, not-true a breaks));
        }

    pub progress_and : (n : ℕ) (u : Tick) (b : Bool) (after : List ℕ) → not a ≡ false → n ≡ second_of bytes k → u ≡ ticks (fresh_of bytes n)
        → Progresses b bytes n u mask d mid after → Progresses b bytes k r mask d cells after
    unfolding progress bind outcome Stored node_second
    progress_and n u b after passes second fresh_second other =
        record {
          says = λ f s at. by_and bytes k (λ f. At b after at f) f s (omega arith)
              (λ f g s. rw (and_child f g s at, not-false a passes)
              (child bytes mask d n (second_part k) u b mid after g (second ∙ s.0.second) (and_second bytes k n f g s second) fresh_second other at));
        }

  -- the untimed side of an or, and then the other: the second is tested where the first is timed,
  module _ (five : code ≡ 5) (p : ℕ) (h : Bool) (second : p ≡ second_of bytes k) (held : HoldsAt h bytes p mask) where
    pub progress_or_second_holds : h ≡ true → Progresses true bytes k r mask d cells cells
    unfolding progress outcome Stored node_code
    progress_or_second_holds passes =
        record {
          says = λ f s at. by_or bytes k (λ f. At true cells at f) f s (omega arith) (omega arith)
              (λ f g s. rw (first_timed (timed f) (sym s.0.code ∙ sym e ∙ five), ← held.says g (or_second bytes k p f g s second) at, passes));
        }

    pub progress_or_first : (n : ℕ) (q : Tick) (b : Bool) (after : List ℕ) → h ≡ false → n ≡ first_of bytes k → q ≡ ticks (fresh_of bytes n)
        → Progresses b bytes n q mask d cells after → Progresses b bytes k r mask d cells after
    unfolding progress Stored node_code node_first
    progress_or_first n q b after fails first new call =
        record {
          says = λ f s at. by_or bytes k (λ f. At b after at f) f s (omega arith) (omega arith)
              (λ f g s. rw (first_timed (timed f) (sym s.0.code ∙ sym e ∙ five), ← held.says g (or_second bytes k p f g s second) at, fails)
              (child bytes mask d n (first_part k g) q b cells after f (first ∙ s.0.first) (or_first bytes k n f g s first) new call at));
        }

  -- and else the first.
  module _ (low : 3 < code) (high : code < 7) (not_four : code ≡ 4 → ⊥) (not_five : code ≡ 5 → ⊥) (p : ℕ) (h : Bool) (first : p ≡ first_of bytes k)
      (held : HoldsAt h bytes p mask) where
    pub progress_or_first_holds : h ≡ true → Progresses true bytes k r mask d cells cells
    unfolding progress outcome Stored node_code
    progress_or_first_holds passes =
        record {
          says = λ f s at. by_or bytes k (λ f. At true cells at f) f s (omega arith) (omega arith)
              (λ f g s. rw (first_untimed (timed f) (λ c. not_five (e ∙ s.0.code ∙ c)), ← held.says f (or_first bytes k p f g s first) at, passes));
        }

    pub progress_or_second : (n : ℕ) (q : Tick) (b : Bool) (after : List ℕ) → h ≡ false → n ≡ second_of bytes k → q ≡ ticks (fresh_of bytes n)
        → Progresses b bytes n q mask d cells after → Progresses b bytes k r mask d cells after
    unfolding progress Stored node_code node_second
    progress_or_second n q b after fails second new call =
        record {
          says = λ f s at. by_or bytes k (λ f. At b after at f) f s (omega arith) (omega arith)
              (λ f g s. rw (first_untimed (timed f) (λ c. not_five (e ∙ s.0.code ∙ c)), ← held.says f (or_first bytes k p f g s first) at, fails)
              (child bytes mask d n (second_part k) q b cells after g (second ∙ s.0.second) (or_second bytes k n f g s second) new call at));
        }

-- Nothing comes of an or whose untimed first side holds.
module _ (bytes : List ℕ) (k mask : ℕ) where
  pub passing : (code p : ℕ) (h : Bool) → code ≡ code_of bytes k → code ≡ 6 → p ≡ first_of bytes k → HoldsAt h bytes p mask → Passes h bytes k mask
  passing code p h e six first held = record { code = λ is-so. sym e ∙ six; first = λ is-so. rw (← first) held }

  pub passed : (b : Bool) → Passes b bytes k mask → b ≡ true → (r d : Tick) (cells : List ℕ) → Progresses true bytes k r mask d cells cells
  passed b pass is-so r d cells =
      let six = pass.code is-so in
      progress_or_first_holds bytes k r mask d cells (code_of bytes k) refl (omega arith) (omega arith) (λ four. omega arith) (λ five. omega arith)
      (first_of bytes k) b refl (pass.first is-so) is-so

-- What is asked of a part before it progresses, t being the number that falls.
module _ (bytes : List ℕ) (k p code : ℕ) (q : Tick) (cells : List ℕ) where
  ready : (p < k) × IsNode bytes p → q ≡ ticks (fresh_of bytes p) → k < length cells → (t : ℕ) → k ≤ t → (p < t) × NodeReady bytes p q cells
  ready below new room t low = (
    omega (arith, below.0),
    record { node = below.1; cell = omega (arith, below.0); left = rw new (fresh_low bytes p below.1) },
  )

  pub first_ready : p ≡ first_of bytes k → code ≡ code_of bytes k → 3 < code → code < 7 → IsNode bytes k → q ≡ ticks (fresh_of bytes p)
      → k < length cells → (t : ℕ) → k ≤ t → (p < t) × NodeReady bytes p q cells
  first_ready e same low high node new room = ready (first_below bytes k p code e same low high node k refl) new room

  pub until_ready : p ≡ first_of bytes k → code ≡ code_of bytes k → code ≡ 12 → IsNode bytes k → q ≡ ticks (fresh_of bytes p)
      → k < length cells → (t : ℕ) → k ≤ t → (p < t) × NodeReady bytes p q cells
  until_ready e same twelve node new room = ready (until_below bytes k p code e same twelve node k refl) new room

  pub second_ready : p ≡ second_of bytes k → code ≡ code_of bytes k → 3 < code → IsNode bytes k → q ≡ ticks (fresh_of bytes p)
      → k < length cells → (t : ℕ) → k ≤ t → (p < t) × NodeReady bytes p q cells
  second_ready e same low node new room = ready (second_below bytes k p code e same low node k refl) new room

-- The cells may have changed meanwhile.
pub still_ready : (bytes : List ℕ) (k : ℕ) (r : Tick) (cells after : List ℕ) → NodeReady bytes k r cells → length after ≡ length cells
    → NodeReady bytes k r after
still_ready bytes k r cells after was same = record { node = was.node; cell = omega (arith, was.cell); left = was.left }

-- A node of any other code is a next.
pub is_next : (bytes : List ℕ) (k code : ℕ) (r : Tick) (cells : List ℕ) → code ≡ code_of bytes k → 7 ≤ code → (code_of bytes k ≡ 11 → ⊥)
    → (code ≡ 12 → ⊥)
    → NodeReady bytes k r cells → NextReady bytes k cells
is_next bytes k code r cells e low not_always not_until was =
    record {
      node = was.node;
      cell = was.cell;
      low = omega arith;
      high = by_kind bytes k (λ _. code_of bytes k < 11) was.node.formula was.node.stored
          (λ b s lo. omega arith) (λ a b s lo up. omega arith) (λ a b s at. omega arith) (λ a b s lo up. omega arith)
          (λ a b c s lo up. up) (λ a b s at. absurd (not_always at)) (λ a b c s at. absurd (not_until (e ∙ at)));
    }
