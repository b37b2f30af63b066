-- A walk along a run: the state and the time of the next position from those of this one.
use Prim.Native.Nat.{ℕ, zero, suc, ◌+◌, ◌*◌, ◌≤◌, ◌<◌}
use native.Mathlib.Omega.{arith}
use native.Mathlib.Numerals.{add-one}
use mathlib.Core.Path.{◌≡◌, sym, ◌∙◌, ap, ap₂}
use Rattle.std.specs.Prelude.{unwrap_or}
use Rattle.std.specs.Prelude.{Some}
use mathlib.Core.List.{List, [], ◌∷◌, ◌++◌, map}
use lib.ListN.{length, get_or, take, drop}
use lib.Seq.{length-take-le, take-suc, split_at, get_or-take}
use mir.Syntax.{w8, w64}
use mir.Val.{Fits}
use Rattle.base.specs.Bytes.{byte_at}
use Rattle.base.proofs.Lists.{some_one, none-some}
use Rattle.logic.specs.Time.{ticks, plus, position, after}
use Rattle.logic.specs.Tower.{Tower, Listed, tower_of, length_of, layout_of}
use Rattle.logic.specs.Runs.{Moment, leads, IsRun, trace_from, trace, moment, duration, sum_ticks, time_at}
use Rattle.logic.specs.declared.Tick.{Tick}
use Rattle.logic.proofs.Leads.{leads_nil, leads_out, append_out, snoc_in}
use Rattle.std.specs.Prelude.{Option, None}
use Rattle.file_tower.proofs.Laws.{fit_bounds, state_reached, none_reached}
use Rattle.program_run.specs.declared.Point.{Point}
use Rattle.program_run.specs.Walking.{RunInList, point_at, OnRun}

-- ---- a run of a tower

abbrev leaving : ℕ → ℕ → Moment
leaving x a = record { state = x; action = a }

module _ (tower : Tower) where
  abbrev Led : ℕ → List ℕ → ℕ → Type 0
  Led x w y = leads tower.target x w ≡ Some y

  -- the time at position i of a run from state x
  abbrev time_from : ℕ → List ℕ → ℕ → Tick
  time_from x w i = sum_ticks (map (duration tower) (take i (trace_from tower x w)))

  -- Where i actions lead to y, position i is left from y,
  left_from : (w : List ℕ) (x y i : ℕ) (m : Moment) → Led x (take i w) y → i < length w → get_or (trace_from tower x w) i m ≡ leaving y (get_or w i 0)
  unfolding trace_from
  left_from [] x y i m led l = absurd (omega arith)
  left_from (a ∷ w) x y zero m led l = ap (λ z. leaving z a) (some_one (leads_nil tower.target x) led)
  left_from (a ∷ w) x y (suc i) m led l =
      let (z, step, rest) = leads_out tower.target x y a (take i w) led in
      rw step (left_from w z y i m rest (omega arith))

  -- and the next position comes as much later as the action takes there.
  time_later : (w : List ℕ) (x y i : ℕ) → Led x (take i w) y → i < length w
      → time_from x w (suc i) ≡ plus (time_from x w i) (tower.step_length y (get_or w i 0))
  unfolding trace_from sum_ticks plus duration
  time_later [] x y i led l = absurd (omega arith)
  time_later (a ∷ w) x y zero led l =
      let same : x ≡ y = some_one (leads_nil tower.target x) led in
      rw (← same) (ap ticks (omega arith))
  time_later (a ∷ w) x y (suc i) led l =
      let (z, step, rest) = leads_out tower.target x y a (take i w) led in
      let later = ap (λ (t : Tick). t.0) (time_later w z y i rest (omega arith)) in
      rw step (ap ticks (omega (arith, later)))

  -- A run leads somewhere at each of its positions, and on from there.
  part_led : (w : List ℕ) (i : ℕ) → IsRun tower w → i < length w
      → (y z : ℕ) × Led tower.start (take i w) y × (tower.target y (get_or w i 0) ≡ Some z)
  unfolding IsRun
  part_led w i (end, led) l =
      let whole : Led tower.start (take i w ++ (get_or w i 0 ∷ drop (suc i) w)) end =
      ap (leads tower.target tower.start) (sym (split_at w i 0 l)) ∙ led in
      let (y, first, rest) = append_out tower.target tower.start end (take i w) (get_or w i 0 ∷ drop (suc i) w) whole in
      let (z, step, on) = leads_out tower.target y end (get_or w i 0) (drop (suc i) w) rest in
      (y, z, first, step)

-- ---- the walk

pub walk_first : (tower run : List ℕ) (n x : ℕ) → x ≡ (tower_of tower).start → RunInList tower run n
    → OnRun (record { position = position 0; time = ticks 0; state = x }) tower run n (position 0)
unfolding point_at time_at sum_ticks leads
walk_first tower run n x start in_list =
    record {
      is = ap (λ y. record { position = position 0; time = ticks 0; state = y }) start;
      inside = omega arith;
      low = omega (arith, (fit_bounds in_list.fit).start_below);
      soon = omega arith;
    }

module _ (tower run : List ℕ) (n : ℕ) (p : Point) (on : OnRun p tower run n p.position) (in_list : RunInList tower run n)
    (here : p.position.0 < n) where
  abbrev i : ℕ
  i = p.position.0

  abbrev t : Tower
  t = tower_of tower

  abbrev w : List ℕ
  w = take n run

  inside : i < length w
  inside = omega (arith, length-take-le n run in_list.room)

  same_action : get_or w i 0 ≡ byte_at run i
  same_action = get_or-take n run i 0 here

  -- The i actions before the point lead to its state, and the next one leads on.
  on_led : (z : ℕ) × Led t t.start (take i w) p.state × (t.target p.state (byte_at run i) ≡ Some z)
  unfolding point_at
  on_led =
      let (y, z, led, step) = part_led t w i in_list.is inside in
      let state : p.state ≡ y = ap (λ (q : Point). q.state) on.is ∙ ap (λ o. unwrap_or o t.start) led in
      (z, led ∙ ap Some (sym state), ap₂ t.target state (sym same_action) ∙ step)

  pub action_low : byte_at run i < t.actions
  unfolding Listed
  action_low = let (z, led, step) = on_led in (fit_bounds in_list.fit).listed p.state (byte_at run i) z step

  -- The moment that leaves the point.
  pub moment_there : moment (trace t w) p.position ≡ leaving p.state (byte_at run i)
  unfolding moment trace
  moment_there =
      let (z, led, step) = on_led in
      left_from t w t.start p.state i _ led inside ∙ ap (leaving p.state) same_action

  -- The time of the point.
  pub time_there : p.time ≡ time_at t (trace t w) p.position
  unfolding point_at
  time_there = ap (λ (q : Point). q.time) on.is

  module _ (d : Tick) (takes : d ≡ t.step_length p.state (byte_at run i)) (bytes : (j : ℕ) → Fits w8 (get_or tower j 0)) where
    short : d.0 ≤ 65536
    unfolding tower_of length_of
    short = omega (arith, bytes ((layout_of tower).header + 2 * byte_at run i), ap (λ (e : Tick). e.0) takes)

    pub time_fits : Fits w64 (p.time.0 + d.0)
    time_fits = omega (arith, short, on.soon, in_list.few)

    module _ (r : Option ℕ) (y : ℕ) (reads : r ≡ (t.target p.state (byte_at run i))) (to : r ≡ Some y) where
      goes : t.target p.state (byte_at run i) ≡ Some y
      goes = state_reached (t.target p.state (byte_at run i)) r y reads to

      state_next : Led t t.start (take (suc i) w) y
      state_next =
          let (z, led, step) = on_led in
          ap (leads t.target t.start) (take-suc w i 0 inside)
          ∙ snoc_in t.target t.start p.state y (take i w) (get_or w i 0) led
          (ap (t.target p.state) same_action ∙ goes)

      time_next : plus p.time d ≡ time_at t (trace t w) (position (suc i))
      unfolding time_at trace
      time_next =
          let (z, led, step) = on_led in
          ap₂ plus time_there (takes ∙ ap (t.step_length p.state) (sym same_action))
          ∙ sym (time_later t w t.start p.state i led inside)

      pub walk_on : OnRun (record { position = position (i + 1); time = ticks (p.time.0 + d.0); state = y }) tower run n (after p.position)
      unfolding point_at plus after
      walk_on =
          record {
            is = ap₂ (λ k s. record { position = position k; time = ticks (p.time.0 + d.0); state = s }) (add-one i)
                (sym (ap (λ o. unwrap_or o t.start) state_next))
                ∙ ap (λ s. record { position = position (suc i); time = s; state = unwrap_or (leads t.target t.start (take (suc i) w)) t.start }) time_next;
            inside = omega arith;
            low = (fit_bounds in_list.fit).targets p.state (byte_at run i) y on.low goes;
            soon = omega (arith, short, on.soon);
          }

  -- The action is enabled there.
  pub walk_enabled : (r : Option ℕ) → r ≡ (t.target p.state (byte_at run i)) → r ≡ None
      → OnRun p tower run n (after p.position)
  walk_enabled r reads to =
      let (z, led, step) = on_led in
      absurd (none-some (none_reached (t.target p.state (byte_at run i)) r reads to) step)
