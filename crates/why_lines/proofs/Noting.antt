-- The states along a run, written one after the other: the ways through `next_state` and `note_states`.
use Prim.Native.Nat.{ℕ, zero, suc, ◌+◌, ◌-◌, ◌*◌, ◌≤◌, ◌<◌}
use native.Mathlib.Omega.{arith}
use native.Mathlib.Numerals.{add-one}
use mathlib.Core.Path.{◌≡◌, refl, sym, ◌∙◌, ap, ap₂}
use mathlib.Core.Logic.{inl}
use Rattle.std.specs.Prelude.{Option, Some, unwrap_or}
use mathlib.Core.List.{List, [], ◌∷◌, ◌++◌, map, map-append, append-nil}
use lib.ListN.{length, take, drop}
use lib.Seq.{sets, get_or-take, drop-cons, append_snoc, length-sets, length-take-le}
use lib.Dec.{ltb}
use borrow.Author.Tests.{ltb-true, ltb-false}
use Rattle.base.specs.Lists.{count_from}
use Rattle.base.specs.Bytes.{byte_at, number_bytes}
use Rattle.base.proofs.Lists.{whether, count_from_next, whether_there}
use Rattle.logic.specs.Tower.{Tower, Listed, FitTower, tower_of}
use Rattle.logic.specs.Runs.{Moment, leads, IsRun, trace_from, trace}
use Rattle.logic.proofs.Leads.{leads_out}
use Rattle.area_bytes.proofs.Numbers.{stored_read, stored_beside}
use Rattle.std.specs.Prelude.{None}
use Rattle.file_tower.proofs.Laws.{fit_bounds, state_reached, none_reached}
use Rattle.why_judging.specs.Judgement.{position_room, states_size, state_in, moment_in, rest_in}
use Rattle.why_lines.specs.Lines.{RunNoted}

-- ---- the next state

pub next_enabled : (o : Option ℕ) (r : Option ℕ) (x y : ℕ) → r ≡ o → r ≡ Some y → y ≡ unwrap_or o x
next_enabled o r x y e f = rw (state_reached o r y e f) refl

pub next_not_enabled : (o : Option ℕ) (r : Option ℕ) (x : ℕ) → r ≡ o → r ≡ None → x ≡ unwrap_or o x
next_not_enabled o r x e f = rw (none_reached o r e f) refl

-- it is a state of the tower
next_low : (tower : List ℕ) (x a : ℕ) → FitTower tower → x < (tower_of tower).states
    → unwrap_or ((tower_of tower).target x a) x < (tower_of tower).states
next_low tower x a fit here =
    whether_there ((tower_of tower).target x a) (λ e. rw e here) (λ y e. rw e ((fit_bounds fit).targets x a y here e))

-- ---- the actions

-- every action of a run is listed
actions_listed : (tower : Tower) → Listed tower → (w : List ℕ) (x z i : ℕ) → leads tower.target x w ≡ Some z → i < length w
    → byte_at w i < tower.actions
unfolding Listed
actions_listed tower listed [] x z i e low = absurd (omega arith)
actions_listed tower listed (a ∷ w) x z zero e low = let (y, f, g) = leads_out tower.target x z a w e in listed x a y f
actions_listed tower listed (a ∷ w) x z (suc i) e low =
    let (y, f, g) = leads_out tower.target x z a w e in actions_listed tower listed w y z i g (omega arith)

run_listed : (tower run : List ℕ) (n i : ℕ) → FitTower tower → n ≤ length run → IsRun (tower_of tower) (take n run) → i < n
    → byte_at run i < (tower_of tower).actions
unfolding IsRun
run_listed tower run n i fit room (z, e) low =
    let listed = actions_listed (tower_of tower) (fit_bounds fit).listed (take n run) (tower_of tower).start z i e
    (omega (arith, length-take-le n run room)) in
    omega (arith, listed, get_or-take n run i 0 low)

-- ---- the moments

abbrev moment : ℕ → ℕ → Moment
moment x a = record { state = x; action = a }

-- where the states are the same, so are the moments
moments_same : (run states after : List ℕ) (k n : ℕ) → ((j : ℕ) → j < k + n → state_in after j ≡ state_in states j)
    → map (moment_in run after) (count_from k n) ≡ map (moment_in run states) (count_from k n)
unfolding count_from moment_in
moments_same run states after k zero same = refl
moments_same run states after k (suc n) same =
    ap₂ (λ x rest. moment x (byte_at run k) ∷ rest) (same k (omega arith)) (moments_same run states after (suc k) n (λ j low. same j (omega arith)))

-- one moment more comes behind the others
moments_next : (run states : List ℕ) (i : ℕ)
    → map (moment_in run states) (count_from 0 (i + 1)) ≡ map (moment_in run states) (count_from 0 i) ++ (moment_in run states i ∷ [])
moments_next run states i =
    let last : 0 + i ≡ i = omega arith in
    ap (λ k. map (moment_in run states) (count_from 0 k)) (add-one i) ∙ ap (map (moment_in run states)) (count_from_next 0 i)
    ∙ map-append (moment_in run states) (count_from 0 i) ((0 + i) ∷ [])
    ∙ ap (λ k. map (moment_in run states) (count_from 0 i) ++ (moment_in run states k ∷ [])) last

-- ---- the loop

-- The states before position i are written, x is the state there: those before it and what is left of the run are the run.
pub record Noting (tower run : List ℕ) (n : ℕ) (first states : List ℕ) (x i : ℕ) : Type 0 where
  pub fit : FitTower tower
  pub few : n ≤ position_room
  pub run_room : n ≤ length run
  pub room : states_size ≤ length states
  pub size : length states ≡ length first
  pub inside : i ≤ n
  pub here : x < (tower_of tower).states
  pub states_low : (j : ℕ) → j < i → state_in states j < (tower_of tower).states
  pub actions_low : (j : ℕ) → j < n → byte_at run j < (tower_of tower).actions
  pub is : map (moment_in run states) (count_from 0 i) ++ trace_from (tower_of tower) x (take (n - i) (drop i run))
      ≡ trace (tower_of tower) (take n run)

pub noting_first : (tower run : List ℕ) (n : ℕ) (states : List ℕ) (x : ℕ) → x ≡ (tower_of tower).start → FitTower tower
    → n ≤ position_room → n ≤ length run → states_size ≤ length states → IsRun (tower_of tower) (take n run)
    → Noting tower run n states states x 0
unfolding count_from trace
noting_first tower run n states x start fit few run_room room run_is =
    let all : n - 0 ≡ n = omega arith in
    record {
      fit = fit;
      few = few;
      run_room = run_room;
      room = room;
      size = refl;
      inside = omega arith;
      here = omega (arith, (fit_bounds fit).start_below);
      states_low = λ j low. absurd (omega arith);
      actions_low = λ j low. run_listed tower run n j fit run_room run_is low;
      is = rw (all, start) refl;
    }

module _ (tower run : List ℕ) (n : ℕ) (first states : List ℕ) (x i : ℕ) (noting : Noting tower run n first states x i) where
  -- the action that leaves this position is one of the tower's
  pub noting_action : i < n → byte_at run i < (tower_of tower).actions
  noting_action low = noting.actions_low i low

  -- what is left of the run begins with it
  left_from : i < n → take (n - i) (drop i run) ≡ byte_at run i ∷ take (n - (i + 1)) (drop (i + 1) run)
  left_from low =
      let some_left : n - i ≡ suc (n - (i + 1)) = omega arith in
      rw (some_left, drop-cons run i 0 (omega (arith, noting.run_room)), add-one i) refl

  module _ (after : List ℕ) (low : i < n) (put : after ≡ sets states (2 * i) (number_bytes 2 x)) where
    -- the states before are as they were, and x stands here
    put_before : (j : ℕ) → j < i → state_in after j ≡ state_in states j
    put_before j before = rw put (stored_beside states (2 * i) x (2 * j) (inl (omega arith)))

    put_here : state_in after i ≡ x
    put_here =
        let small : x < 65536 = omega (arith, noting.here, (fit_bounds noting.fit).states_most) in
        rw put (stored_read states (2 * i) x (omega (arith, noting.room, noting.few)) small)

    put_size : length after ≡ length states
    put_size = ap length put ∙ length-sets states (2 * i) (number_bytes 2 x)

    put_low : (j : ℕ) → j < i + 1 → state_in after j < (tower_of tower).states
    put_low j below =
        whether (ltb j i)
        (λ yes_it_is. let l : j < i = ltb-true j i yes_it_is in rw (put_before j l) (noting.states_low j l))
        (λ it_is_not. let e : j ≡ i = omega (arith, ltb-false j i it_is_not) in rw (e, put_here) noting.here)

    put_moments : map (moment_in run after) (count_from 0 (i + 1)) ≡ map (moment_in run states) (count_from 0 i) ++ (moment x (byte_at run i) ∷ [])
    unfolding moment_in
    put_moments =
        moments_next run after i
        ∙ ap₂ (λ ms y. ms ++ (moment y (byte_at run i) ∷ [])) (moments_same run states after 0 i (λ j l. put_before j (omega arith))) put_here

    pub noting_next : (y : ℕ) → y ≡ unwrap_or ((tower_of tower).target x (byte_at run i)) x → Noting tower run n first after y (i + 1)
    unfolding trace_from
    noting_next y next =
        record {
          fit = noting.fit;
          few = noting.few;
          run_room = noting.run_room;
          room = omega (arith, noting.room, put_size);
          size = put_size ∙ noting.size;
          inside = omega arith;
          here = rw next (next_low tower x (byte_at run i) noting.fit noting.here);
          states_low = put_low;
          actions_low = noting.actions_low;
          is =
              ap₂ (λ ms z. ms ++ trace_from (tower_of tower) z left) put_moments next
              ∙ append_snoc (map (moment_in run states) (count_from 0 i)) (moment x (byte_at run i)) (trace_from (tower_of tower) next_state left)
              ∙ ap (λ w. map (moment_in run states) (count_from 0 i) ++ trace_from (tower_of tower) x w) (sym (left_from low))
              ∙ noting.is;
        }
      where
        left : List ℕ
        left = take (n - (i + 1)) (drop (i + 1) run)

        next_state : ℕ
        next_state = unwrap_or ((tower_of tower).target x (byte_at run i)) x

  pub noting_end : n ≤ i → RunNoted tower run states n
  unfolding rest_in trace_from
  noting_end done =
      let all : i ≡ n = omega (arith, noting.inside) in
      let none_left : n - n ≡ 0 = omega arith in
      let whole : n - 0 ≡ n = omega arith in
      record {
        held = record {
          fit = noting.fit;
          few = noting.few;
          run_room = noting.run_room;
          states_room = noting.room;
          states_low = λ j low. noting.states_low j (omega arith);
          actions_low = noting.actions_low;
        };
        is = rw whole (sym (append-nil (map (moment_in run states) (count_from 0 n))) ∙ rw (all, none_left) at noting.is);
      }
