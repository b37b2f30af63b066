-- A node at a position, by its parts there: whether it is kept, and what it waits for.
use Prim.Native.Nat.{ℕ, ◌+◌, ◌-◌, ◌*◌, ◌≤◌, ◌<◌}
use native.Mathlib.Omega.{arith}
use mathlib.Core.Path.{◌≡◌, refl, sym, ap, ap₂, ◌∙◌}
use mathlib.Core.Bool.{Bool, true, false, not, ◌&&◌, ◌||◌}
use mathlib.Core.List.{List, ◌∷◌}
use lib.ListN.{get_or}
use lib.Dec.{eqb}
use mir.Syntax.{w8}
use mir.Val.{Fits}
use borrow.Author.Tests.{not-true, not-false}
use Rattle.base.specs.Choice.{pick}
use Rattle.logic.specs.Time.{ticks, plus, at_most}
use Rattle.logic.specs.Tower.{tower_of, mask_of, bit}
use Rattle.logic.specs.Book.{Formula, next, always_for, until, Comparison, compares}
use Rattle.logic.specs.Runs.{duration}
use Rattle.logic.specs.declared.Tick.{Tick}
use Rattle.pending.specs.Pending.{holds, fresh}
use Rattle.reading.specs.BookArea.{node_code}
use Rattle.judging.specs.Judging.{judged, if_left}
use Rattle.judging.specs.Ahead.{here, never, seen_before, comes_within, fails_ahead, ends_ahead}
use Rattle.std.specs.Prelude.{Option, Some, None}
use Rattle.judging.proofs.Aheads.{passes_for_ahead, passes_until_ahead}
use Rattle.book_progression.specs.NodeBytes.{code_of, first_of, second_of, fresh_of, Stored, IsNode}
use Rattle.book_progression.specs.Promises.{HoldsAt, Compares}
use Rattle.book_progression.proofs.Nodes.{by_kind, by_and, by_or, by_next, by_always, by_until, stored_is, and_first, and_second, or_first, or_second, next_part, always_part, until_first, until_second, first_below, until_below, second_below, fresh_low, fresh_is}
use Rattle.why_judging.specs.Judgement.{never_far, ComesIn, state_in, moment_in, rest_in, kept_in, waits_for, NodeNext, NodeWaits, KeptHere}
use Rattle.why_judging.proofs.Rests.{rest_none, rest_some, judged_none, step_short, comes_here, comes_never, comes_later, byte_says}

-- ---- leaves

-- the marks of the state at a position are the bits of its mask
marks_there : (tower states : List ℕ) (i mask x k : ℕ) → mask ≡ mask_of tower x → x ≡ state_in states i
    → (tower_of tower).marked (state_in states i) k ≡ bit k mask
unfolding tower_of
marks_there tower states i mask x k is_mask is_x = ap (bit k) (sym (is_mask ∙ ap (mask_of tower) is_x))

-- A constant or a mark.
pub leaf_kept : (b : Bool) (tower nodes run states : List ℕ) (n k i mask x : ℕ) → HoldsAt b nodes k mask → mask ≡ mask_of tower x
    → x ≡ state_in states i → code_of nodes k ≤ 3 → i < n → KeptHere b tower nodes run states n k i
unfolding holds judged if_left moment_in
leaf_kept b tower nodes run states n k i mask x said is_mask is_x leaf inside =
    record {
      says = λ f s. rw (rest_some run states n i inside)
          (by_kind nodes k (λ f. b ≡ holds (tower_of tower) (state_in states i) f
          → b ≡ judged (tower_of tower) f (moment_in run states i ∷ rest_in run states n (i + 1))) f s
          (λ c s l e. e) (λ w m s l u e. e) (λ g h s at. absurd (omega arith)) (λ g h s l u. absurd (omega arith))
          (λ c t g s l u. absurd (omega arith)) (λ t g s at. absurd (omega arith)) (λ t g h s at. absurd (omega arith))
          (said.says f s (record { tower = tower_of tower; state = state_in states i; marks = λ m. marks_there tower states i mask x m is_mask is_x })));
    }

-- ---- parts

module _ (tower nodes run states marks : List ℕ) (n k : ℕ) (kept : List ℕ) (ready : NodeNext tower nodes run states marks n k kept) where
  -- the byte of a lower node says whether it is kept
  lower_says : (b : Bool) (p i : ℕ) → b ≡ eqb (kept_in kept p i) 1 → p < k → i < n → (g : Formula) → Stored nodes g p
      → b ≡ judged (tower_of tower) g (rest_in run states n i)
  lower_says b p i e low inside g s =
      byte_says b (judged (tower_of tower) g (rest_in run states n i)) (kept_in kept p i) e
      ((ready.below.says p low).says g s i (omega arith) inside)

  -- What is asked of a part: that its byte is inside.
  pub first_inside : (p : ℕ) → p ≡ first_of nodes k → 3 < code_of nodes k → code_of nodes k < 7 → p < 60
  first_inside p e low high = omega (arith, ready.low, (first_below nodes k p (code_of nodes k) e refl low high ready.node k refl).0)

  pub until_inside : (p : ℕ) → p ≡ first_of nodes k → code_of nodes k ≡ 12 → p < 60
  until_inside p e twelve = omega (arith, ready.low, (until_below nodes k p (code_of nodes k) e refl twelve ready.node k refl).0)

  pub second_inside : (q : ℕ) → q ≡ second_of nodes k → 3 < code_of nodes k → q < 60
  second_inside q e low = omega (arith, ready.low, (second_below nodes k q (code_of nodes k) e refl low ready.node k refl).0)

  pub next_inside : (q : ℕ) → q ≡ second_of nodes k → 6 < code_of nodes k → q < 60
  next_inside q e low = second_inside q e (omega arith)

  pub always_inside : (q : ℕ) → q ≡ second_of nodes k → code_of nodes k ≡ 11 → q < 60
  always_inside q e eleven = second_inside q e (omega arith)

  pub ends_inside : (q : ℕ) → q ≡ second_of nodes k → code_of nodes k ≡ 12 → q < 60
  ends_inside q e twelve = second_inside q e (omega arith)

  -- ---- `&` and `|`

  module _ (i p q : ℕ) (a b : Bool) (is_p : p ≡ first_of nodes k) (is_q : q ≡ second_of nodes k) (at_p : a ≡ eqb (kept_in kept p i) 1)
      (at_q : b ≡ eqb (kept_in kept q i) 1) (low : 3 < code_of nodes k) (high : code_of nodes k < 7) (inside : i < n) where
    first_says : (g : Formula) → Stored nodes g p → a ≡ judged (tower_of tower) g (rest_in run states n i)
    first_says = lower_says a p i at_p (first_below nodes k p (code_of nodes k) is_p refl low high ready.node k refl).0 inside

    second_says : (g : Formula) → Stored nodes g q → b ≡ judged (tower_of tower) g (rest_in run states n i)
    second_says = lower_says b q i at_q (second_below nodes k q (code_of nodes k) is_q refl low ready.node k refl).0 inside

    both_and : code_of nodes k ≡ 4 → KeptHere (a && b) tower nodes run states n k i
    unfolding judged
    both_and four =
        record {
          says = λ f s. by_and nodes k (λ f. (a && b) ≡ judged (tower_of tower) f (rest_in run states n i)) f s four
              (λ g h s. ap₂ (λ (x y : Bool). x && y) (first_says g (and_first nodes k p g h s is_p)) (second_says h (and_second nodes k q g h s is_q)));
        }

    both_or : 4 < code_of nodes k → KeptHere (a || b) tower nodes run states n k i
    unfolding judged
    both_or more =
        record {
          says = λ f s. by_or nodes k (λ f. (a || b) ≡ judged (tower_of tower) f (rest_in run states n i)) f s more high
              (λ g h s. ap₂ (λ (x y : Bool). x || y) (first_says g (or_first nodes k p g h s is_p)) (second_says h (or_second nodes k q g h s is_q)));
        }

    module _ (code : ℕ) (is_code : code ≡ code_of nodes k) where
      pub and_holds : code ≡ 4 → a ≡ true → KeptHere b tower nodes run states n k i
      and_holds four e = rw e at (both_and (omega arith))

      pub and_fails : code ≡ 4 → a ≡ false → KeptHere a tower nodes run states n k i
      and_fails four e = rw e (rw e at (both_and (omega arith)))

      pub or_holds : (code ≡ 4 → ⊥) → a ≡ true → KeptHere a tower nodes run states n k i
      or_holds other e = rw e (rw e at (both_or (omega (arith, other))))

      pub or_fails : (code ≡ 4 → ⊥) → a ≡ false → KeptHere b tower nodes run states n k i
      or_fails other e = rw e at (both_or (omega (arith, other)))

-- ---- next

module _ (tower nodes run states marks : List ℕ) (n k : ℕ) (kept : List ℕ) (ready : NodeNext tower nodes run states marks n k kept) (i code : ℕ) (d t : Tick)
    (a : Bool) (is_d : d ≡ duration (tower_of tower) (moment_in run states i)) (is_code : code ≡ code_of nodes k)
    (is_t : t ≡ ticks (fresh_of nodes k)) (says : Compares a code d t) (low : 6 < code_of nodes k) (high : code_of nodes k < 11)
    (inside : i < n) where
  -- the comparison of a next
  compared : (c : Comparison) (u : Tick) (g : Formula) → Stored nodes (next c u g) k
      → a ≡ compares c (duration (tower_of tower) (moment_in run states i)) u
  unfolding node_code fresh
  compared c u g s =
      says.says c (is_code ∙ (stored_is nodes k (next c u g) s).code)
      ∙ ap₂ (compares c) is_d (is_t ∙ fresh_is nodes k (next c u g) s)

  -- whatever its part says
  next_by : (v : Bool) → ((c : Comparison) (u : Tick) (g : Formula) → Stored nodes (next c u g) k
      → (a && v) ≡ (a && judged (tower_of tower) g (rest_in run states n (i + 1)))) → KeptHere (a && v) tower nodes run states n k i
  unfolding judged if_left
  next_by v part =
      record {
        says = λ f s. by_next nodes k (λ f. (a && v) ≡ judged (tower_of tower) f (rest_in run states n i)) f s low high
            (λ c u g s. part c u g s ∙ sym (rw (rest_some run states n i inside, ← compared c u g s)));
      }

  -- The action is not as long as it says.
  pub next_fails : not a ≡ true → KeptHere false tower nodes run states n k i
  next_fails fails = let no_it_is_not = not-true a fails in rw no_it_is_not at (next_by false (λ c u g s. rw no_it_is_not))

  -- It is, and there is no next position.
  pub next_last : not a ≡ false → i + 1 ≡ n → KeptHere true tower nodes run states n k i
  next_last passes last =
      let yes_it_is = not-false a passes in
      rw yes_it_is at (next_by true (λ c u g s. ap (λ (v : Bool). a && v)
      (sym (rw (rest_none run states n (i + 1) (omega arith), judged_none (tower_of tower) g)))))

  -- It is, and the next position is judged.
  pub next_on : not a ≡ false → (q : ℕ) (b : Bool) → b ≡ eqb (kept_in kept q (i + 1)) 1 → q ≡ second_of nodes k → (i + 1 ≡ n → ⊥)
      → KeptHere b tower nodes run states n k i
  next_on passes q b at_q is_q more =
      let yes_it_is = not-false a passes in
      rw yes_it_is at (next_by b (λ c u g s. ap (λ (v : Bool). a && v)
      (lower_says tower nodes run states marks n k kept ready b q (i + 1) at_q
      (second_below nodes k q (code_of nodes k) is_q refl (omega arith) ready.node k refl).0 (omega (arith, more)) g
      (next_part nodes k q c u g s is_q))))

-- ---- A and U

module _ (tower nodes run states : List ℕ) (n k : ℕ) where
  -- What is waited for is not too far for a number.
  pub waits_low : (marks kept : List ℕ) → NodeNext tower nodes run states marks n k kept → (far : Tick) (i : ℕ)
      → NodeWaits far tower nodes run states n k (i + 1) → far.0 ≤ 65601536
  waits_low marks kept ready far i waits = omega (arith, waits.bound, ready.marked.held.few)

  -- Behind the last position nothing fails,
  pub fails_last : code_of nodes k ≡ 11 → NodeWaits never_far tower nodes run states n k n
  unfolding waits_for fails_ahead
  fails_last eleven =
      record {
        says = λ f s. by_always nodes k (λ f. ComesIn never_far (waits_for (tower_of tower) f (rest_in run states n n))) f s eleven
            (λ t g s. rw (rest_none run states n n (omega arith)) comes_never);
        bound = omega arith;
      }

  -- and what has not ended ends with the run.
  pub ends_last : code_of nodes k ≡ 12 → NodeWaits (ticks 0) tower nodes run states n k n
  unfolding waits_for ends_ahead
  ends_last twelve =
      record {
        says = λ f s. by_until nodes k (λ f. ComesIn (ticks 0) (waits_for (tower_of tower) f (rest_in run states n n))) f s twelve
            (λ t g h s. rw (rest_none run states n n (omega arith)) comes_here);
        bound = omega arith;
      }

  module _ (i : ℕ) (far t : Tick) (w : Bool) (waits : NodeWaits far tower nodes run states n k i) (is-w : w ≡ at_most far t)
      (is_t : t ≡ ticks (fresh_of nodes k)) (node : IsNode nodes k) where
    small : t.0 ≤ 254
    small = rw is_t (fresh_low nodes k node)

    -- A is kept unless its part fails in time.
    pub always_kept : code_of nodes k ≡ 11 → KeptHere (not w) tower nodes run states n k i
    unfolding judged waits_for fresh
    always_kept eleven =
        record {
          says = λ f s. by_always nodes k (λ f. not w ≡ judged (tower_of tower) f (rest_in run states n i)) f s eleven
              (λ u g s. ap not (is-w ∙ (waits.says (always_for u g) s).says t small
              ∙ ap (comes_within (fails_ahead (tower_of tower) (judged (tower_of tower) g) (rest_in run states n i)))
              (is_t ∙ fresh_is nodes k (always_for u g) s))
              ∙ sym (passes_for_ahead (tower_of tower) (judged (tower_of tower) g) (rest_in run states n i) u));
        }

    -- U is kept if it ends in time.
    pub until_kept : code_of nodes k ≡ 12 → KeptHere w tower nodes run states n k i
    unfolding judged waits_for fresh
    until_kept twelve =
        record {
          says = λ f s. by_until nodes k (λ f. w ≡ judged (tower_of tower) f (rest_in run states n i)) f s twelve
              (λ u g h s. is-w ∙ (waits.says (until u g h) s).says t small
              ∙ ap (comes_within (ends_ahead (tower_of tower) (judged (tower_of tower) g) (judged (tower_of tower) h) (rest_in run states n i)))
              (is_t ∙ fresh_is nodes k (until u g h) s)
              ∙ sym (passes_until_ahead (tower_of tower) (judged (tower_of tower) g) (judged (tower_of tower) h) (rest_in run states n i) u));
        }

module _ (tower nodes run states marks : List ℕ) (n k : ℕ) (kept : List ℕ) (ready : NodeNext tower nodes run states marks n k kept) (i : ℕ)
    (d far r : Tick) (is_d : d ≡ duration (tower_of tower) (moment_in run states i))
    (waits : NodeWaits far tower nodes run states n k (i + 1)) (bytes : (j : ℕ) → Fits w8 (get_or tower j 0)) (inside : i < n) where
  -- Where the part of an A next fails, by where it was seen from the next position.
  pub fails_before : (q : ℕ) (b : Bool) → q ≡ second_of nodes k → b ≡ eqb (kept_in kept q i) 1
      → r ≡ pick b (λ _. plus d far) (λ _. ticks 0) → code_of nodes k ≡ 11 → NodeWaits r tower nodes run states n k i
  unfolding waits_for fails_ahead plus
  fails_before q b is_q at_q is_r eleven =
      record {
        says = λ f s. by_always nodes k (λ f. ComesIn r (waits_for (tower_of tower) f (rest_in run states n i))) f s eleven
            (λ u g s. rw (rest_some run states n i inside, ← part g (always_part nodes k q u g s is_q), ← is_d, is_r)
            (when (fails_ahead (tower_of tower) (judged (tower_of tower) g) (rest_in run states n (i + 1))) b (waits.says (always_for u g) s)));
        bound = rw is_r (bounded b);
      }
    where
      part : (g : Formula) → Stored nodes g q → b ≡ judged (tower_of tower) g (moment_in run states i ∷ rest_in run states n (i + 1))
      part g s =
          lower_says tower nodes run states marks n k kept ready b q i at_q
          (second_below nodes k q (code_of nodes k) is_q refl (omega arith) ready.node k refl).0 inside g s
          ∙ rw (rest_some run states n i inside)

      when : (ahead : Option Tick) (b : Bool) → ComesIn far ahead
          → ComesIn (pick b (λ _. plus d far) (λ _. ticks 0)) (pick b (λ _. seen_before d ahead) (λ _. here))
      when ahead true seen = comes_later d far ahead seen
      when ahead false seen = comes_here

      bounded : (b : Bool) → (pick b (λ _. plus d far) (λ _. ticks 0)).0 ≤ 65536 * (n - i + 1)
      bounded true = omega (arith, step_short tower run states i d is_d bytes, waits.bound)
      bounded false = omega arith

  -- Where a U next ends.
  pub ends_before : (p q : ℕ) (a b : Bool) → p ≡ first_of nodes k → q ≡ second_of nodes k → a ≡ eqb (kept_in kept p i) 1
      → b ≡ eqb (kept_in kept q i) 1 → r ≡ pick b (λ _. ticks 0) (λ _. pick a (λ _. plus d far) (λ _. never_far)) → code_of nodes k ≡ 12
      → NodeWaits r tower nodes run states n k i
  unfolding waits_for ends_ahead plus
  ends_before p q a b is_p is_q at_p at_q is_r twelve =
      record {
        says = λ f s. by_until nodes k (λ f. ComesIn r (waits_for (tower_of tower) f (rest_in run states n i))) f s twelve
            (λ u g h s. rw (
              rest_some run states n i inside,
              ← second h (until_second nodes k q u g h s is_q),
              ← first g (until_first nodes k p u g h s is_p),
              ← is_d,
              is_r,
            ) (when (ends_ahead (tower_of tower) (judged (tower_of tower) g) (judged (tower_of tower) h) (rest_in run states n (i + 1))) b a (waits.says (until u g h) s)));
        bound = rw is_r (bounded b a);
      }
    where
      first : (g : Formula) → Stored nodes g p → a ≡ judged (tower_of tower) g (moment_in run states i ∷ rest_in run states n (i + 1))
      first g s =
          lower_says tower nodes run states marks n k kept ready a p i at_p
          (until_below nodes k p (code_of nodes k) is_p refl twelve ready.node k refl).0 inside g s
          ∙ rw (rest_some run states n i inside)

      second : (g : Formula) → Stored nodes g q → b ≡ judged (tower_of tower) g (moment_in run states i ∷ rest_in run states n (i + 1))
      second g s =
          lower_says tower nodes run states marks n k kept ready b q i at_q
          (second_below nodes k q (code_of nodes k) is_q refl (omega arith) ready.node k refl).0 inside g s
          ∙ rw (rest_some run states n i inside)

      when : (ahead : Option Tick) (b a : Bool) → ComesIn far ahead
          → ComesIn (pick b (λ _. ticks 0) (λ _. pick a (λ _. plus d far) (λ _. never_far)))
          (pick b (λ _. here) (λ _. pick a (λ _. seen_before d ahead) (λ _. never)))
      when ahead true a seen = comes_here
      when ahead false true seen = comes_later d far ahead seen
      when ahead false false seen = comes_never

      bounded : (b a : Bool) → (pick b (λ _. ticks 0) (λ _. pick a (λ _. plus d far) (λ _. never_far))).0 ≤ 65536 * (n - i + 1)
      bounded true a = omega arith
      bounded false true = omega (arith, step_short tower run states i d is_d bytes, waits.bound)
      bounded false false = omega arith

-- A node that is nothing else is a U.
pub until_code : (nodes : List ℕ) (k code : ℕ) → code ≡ code_of nodes k → 11 ≤ code → (code ≡ 11 → ⊥) → IsNode nodes k → code_of nodes k ≡ 12
until_code nodes k code is_code high other node =
    by_kind nodes k (λ _. code_of nodes k ≡ 12) node.formula node.stored (λ b s l. absurd (omega arith)) (λ w m s l u. absurd (omega arith))
    (λ g h s at. absurd (omega arith)) (λ g h s l u. absurd (omega arith)) (λ c t g s l u. absurd (omega arith))
    (λ t g s at. absurd (other (omega arith))) (λ t g h s at. at)
