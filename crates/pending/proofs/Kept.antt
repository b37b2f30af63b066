-- The laws of `kept` that progression rests on: a position later in a longer run is the same as in the shorter one, what a formula asks at
-- position 0 in one step and of the rest of the run (E4, E5 and E7 of document 004), and two bounds on one formula as one.
use Prim.Native.Nat.{ℕ, zero, suc, ◌≤◌}
use native.Mathlib.Omega.{arith}
use native.Mathlib.Decide.{dec_le}
use mathlib.Core.Path.{◌≡◌, refl, sym, ap, subst}
use mathlib.Core.Logic.Iff
use mathlib.Core.Logic.{◌⊎◌, inl, inr, ⊎_elim, ◌↔◌, ⊎_map}
use mathlib.Core.Bool.{true}
use mathlib.Core.List.{[], ◌∷◌}
use lib.ListN.{length}
use borrow.Author.Tests.{leb-true, le-leb}
use Rattle.logic.specs.Time.{plus, minus, at_most, AtMost, longer, shorter, position, after, From, Before}
use Rattle.logic.specs.Tower.{Tower}
use Rattle.logic.specs.Book.{Formula, constant, proposition, and, or, next, always_for, until, Comparison, compares, Form, at_start, everywhere}
use Rattle.logic.specs.Runs.{Moment, Trace, moment, Judged, end, duration, sum_ticks, time_at, InTime, KeptAt, Kept, KeptRule}
use Rattle.logic.specs.declared.Tick.{Tick}
use Rattle.logic.specs.declared.Position.{Position}

-- a statement of every position, from position 0 and each position behind another
by_position : (P : Position → Type 0) → P (position 0) → ((n : ℕ) → P (position (suc n))) → (j : Position) → P j
by_position P first rest j = go j.0
  where
    go : (n : ℕ) → P (position n)
    go zero = first
    go (suc n) = rest n

-- at the last judged position an until is kept if its first part is and the action fits into its bound
until_last : (tower : Tower) (m : Moment) (t : Tick) (f g : Formula) → at_most (duration tower m) t ≡ true
    → KeptAt tower (m ∷ []) f (position 0) → KeptAt tower (m ∷ []) (until t f g) (position 0)
unfolding KeptAt Judged From end InTime AtMost plus at_most time_at sum_ticks
until_last tower m t f g fits first =
    inr (
      by_position (λ k. From (position 0) k → Judged (m ∷ []) k → KeptAt tower (m ∷ []) f k) (λ from judged. first)
          (λ k from judged. absurd (omega arith)),
      omega (arith, leb-true),
    )

module _ (tower : Tower) (m : Moment) (run : Trace) where
  -- the times of a longer run differ by the length of its first action
  in_time_later : (i j : ℕ) (t : Tick)
      → InTime tower (m ∷ run) (position (suc i)) (position (suc j)) t ↔ InTime tower run (position i) (position j) t
  unfolding InTime AtMost plus time_at sum_ticks
  in_time_later i j t = omega arith

  -- what a position asks stays the same behind one more action at the front
  abbrev Later : Formula → Type 0
  Later f = (n : ℕ) → KeptAt tower (m ∷ run) f (position (suc n)) ↔ KeptAt tower run f (position n)

  later_next : (c : Comparison) (t : Tick) (g : Formula) → Later g → Later (next c t g)
  unfolding KeptAt moment Judged after
  later_next c t g ih n =
      (λ h. (h.0, λ judged. (ih (suc n)).0 (h.1 (omega arith))), λ h. (h.0, λ judged. (ih (suc n)).1 (h.1 (omega arith))))

  later_always : (t : Tick) (g : Formula) → Later g → Later (always_for t g)
  unfolding KeptAt Judged From
  later_always t g ih n = (
    λ h j from judged time.
        (ih j.0).0 (h (position (suc j.0)) (omega arith) (omega arith) ((in_time_later n j.0 t).1 time)),
    λ h. by_position (λ j. From (position (suc n)) j → Judged (m ∷ run) j → InTime tower (m ∷ run) (position (suc n)) j t
        → KeptAt tower (m ∷ run) g j) (λ from judged time. absurd (omega arith))
        (λ j from judged time. (ih j).1 (h (position j) (omega arith) (omega arith) ((in_time_later n j t).0 time))),
  )

  later_until : (t : Tick) (f g : Formula) → Later f → Later g → Later (until t f g)
  unfolding KeptAt Judged From Before end
  later_until t f g ihf ihg n = (out, into)
    where
      out : KeptAt tower (m ∷ run) (until t f g) (position (suc n)) → KeptAt tower run (until t f g) (position n)
      out (inl (j, from, judged, holds, time, before)) =
          by_position (λ j. From (position (suc n)) j → Judged (m ∷ run) j → KeptAt tower (m ∷ run) g j
          → InTime tower (m ∷ run) (position (suc n)) j t
          → ((k : Position) → From (position (suc n)) k → Before k j → KeptAt tower (m ∷ run) f k)
          → KeptAt tower run (until t f g) (position n)) (λ from judged holds time before. absurd (omega arith))
          (λ j from judged holds time before. inl (
            position j,
            omega arith,
            omega arith,
            (ihg j).0 holds,
            (in_time_later n j t).0 time,
            λ k below above. (ihf k.0).0 (before (position (suc k.0)) (omega arith) (omega arith)),
          )) j from judged holds time before
      out (inr (all, time)) =
          inr (
            λ k from judged. (ihf k.0).0 (all (position (suc k.0)) (omega arith) (omega arith)),
            (in_time_later n (length run) t).0 time,
          )

      into : KeptAt tower run (until t f g) (position n) → KeptAt tower (m ∷ run) (until t f g) (position (suc n))
      into (inl (j, from, judged, holds, time, before)) =
          inl (
            position (suc j.0),
            omega arith,
            omega arith,
            (ihg j.0).1 holds,
            (in_time_later n j.0 t).1 time,
            by_position (λ k. From (position (suc n)) k → Before k (position (suc j.0)) → KeptAt tower (m ∷ run) f k)
                (λ below above. absurd (omega arith)) (λ k below above. (ihf k).1 (before (position k) (omega arith) (omega arith))),
          )
      into (inr (all, time)) =
          inr (
            by_position (λ k. From (position (suc n)) k → Judged (m ∷ run) k → KeptAt tower (m ∷ run) f k)
                (λ from judged. absurd (omega arith)) (λ k from judged. (ihf k).1 (all (position k) (omega arith) (omega arith))),
            (in_time_later n (length run) t).1 time,
          )

  -- A formula is kept at a position of the rest of a run if it is kept at the next position of the whole run.
  pub kept_later : (f : Formula) → Later f
  unfolding KeptAt moment
  kept_later (constant b) n = Iff.rfl
  kept_later (proposition w k) n = Iff.rfl
  kept_later (and f g) n = Iff.and (kept_later f n) (kept_later g n)
  kept_later (or f g) n =
      (⊎_map (kept_later f n).0 (kept_later g n).0, ⊎_map (kept_later f n).1 (kept_later g n).1)
  kept_later (next c t g) n = later_next c t g (kept_later g) n
  kept_later (always_for t g) n = later_always t g (kept_later g) n
  kept_later (until t f g) n = later_until t f g (kept_later f) (kept_later g) n

  -- what a formula asks where a run begins with m, and what it asks of the rest of the run
  abbrev pub Now : Formula → Type 0
  Now f = KeptAt tower (m ∷ run) f (position 0)

  abbrev pub Then : Formula → Type 0
  Then f = Kept tower run f (position 0)

  -- A next is kept if its action is as long as it says and its part is kept then.
  pub next_step : (c : Comparison) (t : Tick) (g : Formula) → Now (next c t g) ↔ ((compares c (duration tower m) t ≡ true) × Then g)
  unfolding KeptAt Kept moment Judged after
  next_step c t g =
      (λ h. (h.0, λ judged. (kept_later g 0).0 (h.1 (omega arith))), λ h. (h.0, λ judged. (kept_later g 0).1 (h.1 (omega arith))))

  -- E5: an always is kept if its part is kept now, and it is kept then with what is left of its bound, if the action fits into it.
  pub always_step : (t : Tick) (g : Formula)
      → Now (always_for t g) ↔ (Now g × (at_most (duration tower m) t ≡ true → Then (always_for (minus t (duration tower m)) g)))
  unfolding KeptAt Kept Judged From InTime AtMost plus minus at_most time_at sum_ticks
  always_step t g = (out, into)
    where
      out : Now (always_for t g) → Now g × (at_most (duration tower m) t ≡ true → Then (always_for (minus t (duration tower m)) g))
      out h = (
        h (position 0) (omega arith) (omega arith) (omega arith),
        λ fits judged j from below time.
            (kept_later g j.0).0 (h (position (suc j.0)) (omega arith) (omega arith) (omega (arith, leb-true))),
      )

      into : Now g × (at_most (duration tower m) t ≡ true → Then (always_for (minus t (duration tower m)) g)) → Now (always_for t g)
      into (now, rest) =
          by_position (λ j. From (position 0) j → Judged (m ∷ run) j → InTime tower (m ∷ run) (position 0) j t
          → KeptAt tower (m ∷ run) g j) (λ from judged time. now)
          (λ j from judged time. (kept_later g j).1 (rest (omega (arith, le-leb)) (omega arith) (position j) (omega arith) (omega arith)
          (omega arith)))

  -- E7: an until is kept if its second part is kept now; or the action fits into its bound, its first part is kept now, and it is kept then
  -- with what is left of the bound.
  pub until_step : (t : Tick) (f g : Formula)
      → Now (until t f g)
      ↔ (Now g ⊎ ((at_most (duration tower m) t ≡ true) × (Now f × Then (until (minus t (duration tower m)) f g))))
  unfolding KeptAt Kept Judged From Before end InTime AtMost plus minus at_most time_at sum_ticks
  until_step t f g = (out, ⊎_elim now rest)
    where
      Rest : Type 0
      Rest = (at_most (duration tower m) t ≡ true) × (Now f × Then (until (minus t (duration tower m)) f g))

      out : Now (until t f g) → Now g ⊎ Rest
      out (inl (j, from, judged, holds, time, before)) =
          by_position (λ j. Judged (m ∷ run) j → KeptAt tower (m ∷ run) g j → InTime tower (m ∷ run) (position 0) j t
          → ((k : Position) → From (position 0) k → Before k j → KeptAt tower (m ∷ run) f k) → Now g ⊎ Rest)
          (λ judged holds time before. inl holds)
          (λ j judged holds time before. inr (
            omega (arith, le-leb),
            (
              before (position 0) (omega arith) (omega arith),
              λ ahead.
                  inl (
                    position j,
                    omega arith,
                    omega arith,
                    (kept_later g j).0 holds,
                    omega arith,
                    λ k below above. (kept_later f k.0).0 (before (position (suc k.0)) (omega arith) (omega arith)),
                  ),
            ),
          ))
          j judged holds time before
      out (inr (all, time)) =
          inr (
            omega (arith, le-leb),
            (
              all (position 0) (omega arith) (omega arith),
              λ ahead.
                  inr (λ k from judged. (kept_later f k.0).0 (all (position (suc k.0)) (omega arith) (omega arith)), omega arith),
            ),
          )

      now : Now g → Now (until t f g)
      now holds = inl (position 0, omega arith, omega arith, holds, omega arith, λ k below above. absurd (omega arith))

      -- the rest of the run is not empty
      on : at_most (duration tower m) t ≡ true → Now f → KeptAt tower run (until (minus t (duration tower m)) f g) (position 0)
          → Now (until t f g)
      on fits first (inl (j, from, judged, holds, time, before)) =
          inl (
            position (suc j.0),
            omega arith,
            omega arith,
            (kept_later g j.0).1 holds,
            omega (arith, leb-true),
            by_position (λ k. From (position 0) k → Before k (position (suc j.0)) → KeptAt tower (m ∷ run) f k)
                (λ below above. first) (λ k below above. (kept_later f k).1 (before (position k) (omega arith) (omega arith))),
          )
      on fits first (inr (all, time)) =
          inr (
            by_position (λ k. From (position 0) k → Judged (m ∷ run) k → KeptAt tower (m ∷ run) f k) (λ from judged. first)
                (λ k from judged. (kept_later f k).1 (all (position k) (omega arith) (omega arith))),
            omega (arith, leb-true),
          )

      rest : Rest → Now (until t f g)
      rest (fits, (first, then)) = go run refl
        where
          go : (r : Trace) → run ≡ r → Now (until t f g)
          go [] e = subst (λ (r : Trace). KeptAt tower (m ∷ r) (until t f g) (position 0)) (sym e) (until_last tower m t f g fits (rw e at first))
          go (n ∷ r) e = on fits first (then (omega (arith, ap length e)))

  -- An `always` rule is kept if its formula is kept now and the rule is kept along the rest of the run.
  pub rule_step : (f : Formula) → KeptRule tower (m ∷ run) everywhere f ↔ (Now f × KeptRule tower run everywhere f)
  unfolding KeptRule Kept Judged
  rule_step f = (
    λ h. (h (position 0) (omega arith), λ i judged. (kept_later f i.0).0 (h (position (suc i.0)) (omega arith))),
    λ h. by_position (λ i. Kept tower (m ∷ run) f i) (λ judged. h.0) (λ i judged. (kept_later f i).1 (h.1 (position i) (omega arith))),
  )

  -- Where a run begins with m its position 0 is judged.
  pub kept_now : (f : Formula) → Kept tower (m ∷ run) f (position 0) ↔ Now f
  unfolding Kept Judged
  kept_now f = (λ h. h (omega arith), λ h judged. h)

-- At the end of a run every rule is kept.
pub rule_end : (tower : Tower) (form : Form) (f : Formula) → KeptRule tower [] form f
unfolding KeptRule Kept Judged
rule_end tower everywhere f = λ i judged. absurd (omega arith)
rule_end tower at_start f = λ judged. absurd (omega arith)

module _ (tower : Tower) (run : Trace) (i : Position) where
  -- Two always of one formula ask together what the one with the larger bound asks.
  pub always_merge : (r q : Tick) (g : Formula)
      → Kept tower run (always_for (longer r q) g) i ↔ (Kept tower run (always_for r g) i × Kept tower run (always_for q g) i)
  unfolding Kept KeptAt InTime AtMost plus longer
  always_merge r q g = (
    λ h. (λ judged j from below time. h judged j from below (omega arith), λ judged j from below time. h judged j from below (omega arith)),
    λ h judged j from below time. one j (dec_le q.0 r.0) (h.0 judged j from below) (h.1 judged j from below) time,
  )
    where
      one : (j : Position) → Dec (q.0 ≤ r.0) → (InTime tower run i j r → KeptAt tower run g j)
          → (InTime tower run i j q → KeptAt tower run g j)
          → InTime tower run i j (longer r q) → KeptAt tower run g j
      one j (yes le) first second time = first (omega arith)
      one j (no above) first second time = second (omega arith)

  -- an until with a bound is kept with any larger bound
  until_more : (r q : Tick) (f g : Formula) → AtMost r q → KeptAt tower run (until r f g) i → KeptAt tower run (until q f g) i
  unfolding KeptAt InTime AtMost plus
  until_more r q f g le (inl (j, from, judged, holds, time, before)) = inl (j, from, judged, holds, omega arith, before)
  until_more r q f g le (inr (all, time)) = inr (all, omega arith)

  -- Two until of the same formulas ask together what the one with the smaller bound asks.
  pub until_merge : (r q : Tick) (f g : Formula)
      → Kept tower run (until (shorter r q) f g) i ↔ (Kept tower run (until r f g) i × Kept tower run (until q f g) i)
  unfolding Kept AtMost shorter
  until_merge r q f g = (
    λ h. (
      λ judged. until_more (shorter r q) r f g (omega arith) (h judged),
      λ judged. until_more (shorter r q) q f g (omega arith) (h judged),
    ),
    λ h judged. one (dec_le r.0 q.0) (h.0 judged) (h.1 judged),
  )
    where
      one : Dec (r.0 ≤ q.0) → KeptAt tower run (until r f g) i → KeptAt tower run (until q f g) i
          → KeptAt tower run (until (shorter r q) f g) i
      one (yes le) first second = until_more r (shorter r q) f g (omega arith) first
      one (no above) first second = until_more q (shorter r q) f g (omega arith) second
