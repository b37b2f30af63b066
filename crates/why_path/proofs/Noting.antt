-- How each pair was first met is noted: step by step, from the last to the first.
use Prim.Native.Nat.{ℕ, ◌+◌, ◌-◌, ◌*◌, ◌≤◌, ◌<◌}
use native.Mathlib.Omega.{arith}
use native.Mathlib.Decide.{dec_lt, ℕ_discrete}
use mathlib.Core.Path.{◌≡◌, refl, sym, ap, ◌∙◌, subst}
use mathlib.Core.Logic.{◌⊎◌, inl, inr}
use mathlib.Core.List.{List}
use lib.ListN.{length, set}
use lib.Seq.{sets, get_or-set_same, get_or-set_other}
use mir.Syntax.{w8, w64}
use mir.Val.{Fits}
use Rattle.base.specs.Bytes.{number_at, number_bytes}
use Rattle.area_bytes.proofs.Numbers.{stored, byte_beside, stored_read, stored_beside, length_stored}
use Rattle.pair_graph.specs.Graph.{to}
use Rattle.pair_graph.specs.Steps.{cell, move_of, move_at, HoldsGraph}
use Rattle.pair_graph.proofs.Lists.{low_nowhere, one_target}
use Rattle.pair_graph.proofs.Moves.{high_move}
use Rattle.why_path.specs.Ways.{from_in, action_in, NotedStep, StepsNoted}

-- ---- bytes

-- A number beside a byte that is written is as it was.
number_beside : (l : List ℕ) (p v q : ℕ) → q + 1 < p → number_at 2 (set l p v) q ≡ number_at 2 l q
unfolding number_at
number_beside l p v q h =
    let low = get_or-set_other l p q v 0 (λ e. omega arith) in
    let high = get_or-set_other l p (q + 1) v 0 (λ e. omega arith) in
    omega arith

-- The numbers of two pairs lie apart.
apart : (j k : ℕ) → (k ≡ j → ⊥) → (2 * k + 1 < 2 * j) ⊎ (2 * j + 1 < 2 * k)
apart j k other = elim (dec_lt k j) [ yes l ↦ inl (omega arith) | no l ↦ inr (omega (arith, other)) ]

module _ (ways : List ℕ) (i a j : ℕ) (room : 3000 ≤ length ways) (below : j < 1000) where
  -- the area with the step by action a from pair i noted for pair j
  abbrev with_step : List ℕ
  with_step = set (stored ways (2 * j) i) (2000 + j) a

  -- What is noted of j,
  from_there : i < 65536 → from_in with_step j ≡ i
  from_there small =
      number_beside (stored ways (2 * j) i) (2000 + j) a (2 * j) (omega arith) ∙ stored_read ways (2 * j) i (omega arith) small

  action_there : action_in with_step j ≡ a
  action_there = get_or-set_same (stored ways (2 * j) i) (2000 + j) a 0 (omega (arith, length_stored ways (2 * j) i))

  -- and of another pair.
  from_else : (k : ℕ) → k < 1000 → (k ≡ j → ⊥) → from_in with_step k ≡ from_in ways k
  from_else k l other =
      number_beside (stored ways (2 * j) i) (2000 + j) a (2 * k) (omega arith) ∙ stored_beside ways (2 * j) i (2 * k) (apart j k other)

  action_else : (k : ℕ) → (k ≡ j → ⊥) → action_in with_step k ≡ action_in ways k
  action_else k other =
      get_or-set_other (stored ways (2 * j) i) (2000 + j) (2000 + k) a 0 (λ e. omega (arith, other))
      ∙ byte_beside ways (2 * j) i (2000 + k) (λ e. omega arith) (λ e. omega arith)

-- ---- one step

-- What was noted of a pair still is, where its bytes are as they were.
noted_still : (n actions : ℕ) (graph : List ℕ) (k l : ℕ) (ways after : List ℕ) (j c : ℕ) → k ≤ l
    → from_in after j ≡ from_in ways j → action_in after j ≡ action_in ways j → NotedStep n actions graph l ways j c
    → NotedStep n actions graph k after j c
noted_still n actions graph k l ways after j c le e f s =
    record {
      pair = rw e s.pair;
      action = rw f s.action;
      leads = rw (e, f) s.leads;
      from_on = omega (arith, s.from_on);
      no_later = omega (arith, s.no_later);
    }

module _ (n actions : ℕ) (graph ways : List ℕ) (i a m : ℕ) (held : HoldsGraph n actions graph) (l : i < n) (k : a < actions)
    (is_m : m ≡ number_at 2 graph (cell i a)) (h : StepsNoted n actions graph (16 * i + (a + 1)) ways) where
  -- the move of this step
  this_move : move_at graph i a ≡ move_of m
  unfolding move_at
  this_move = ap move_of (sym is_m)

  -- A step from this one on is this one or a later one.
  this_or_later : (P : ℕ → ℕ → Type 0) (c b : ℕ) → b < actions → 16 * i + a ≤ 16 * c + b → P i a
      → (16 * i + (a + 1) ≤ 16 * c + b → P c b) → P c b
  this_or_later P c b lb from here later = elim (dec_lt (16 * i + a) (16 * c + b)) [
    | yes after ↦ later (omega arith)
    | no not_after ↦ same (omega (arith, held.actions_most)) (omega (arith, held.actions_most))
  ]
    where
      same : i ≡ c → a ≡ b → P c b
      same e f = rw (← e, ← f) here

  -- It leads nowhere: nothing is noted.
  pub noted_nowhere : m < 2 → StepsNoted n actions graph (16 * i + a) ways
  noted_nowhere low =
      record {
        says = λ c b j lc lb from.
            this_or_later (λ c b. move_at graph c b ≡ to j → NotedStep n actions graph (16 * i + a) ways j (16 * c + b)) c b lb from
            (λ e. absurd (low_nowhere m j low (sym this_move ∙ e)))
            (λ late e. noted_still n actions graph (16 * i + a) (16 * i + (a + 1)) ways ways j (16 * c + b) (omega arith) refl refl
            (h.says c b j lc lb late e));
      }

  -- the pair that it leads to, one of the n
  goes_to : 2 ≤ m → move_at graph i a ≡ to (m - 2)
  goes_to high = this_move ∙ high_move m high

  step_below : 2 ≤ m → m - 2 < n
  step_below high = held.targets i a (m - 2) l k (goes_to high)

  -- Where it is noted: these are numbers, and inside the area.
  pub pair_place : 2 ≤ m → Fits w64 (2 * (m - 2))
  pair_place high = omega (arith, step_below high, held.pairs_most)

  pub pair_inside : 2 ≤ m → 3000 ≤ length ways → 2 * (m - 2) + 1 < length ways
  pair_inside high room = omega (arith, step_below high, held.pairs_most)

  pub action_place : 2 ≤ m → Fits w64 (2000 + (m - 2))
  action_place high = omega (arith, step_below high, held.pairs_most)

  pub action_inside : (written : List ℕ) → length written ≡ length ways → 2 ≤ m → 3000 ≤ length ways → 2000 + (m - 2) < length written
  action_inside written e high room = omega (arith, step_below high, held.pairs_most)

  -- It is noted for that pair.
  pub noted_step : (written : List ℕ) → 2 ≤ m → 3000 ≤ length ways → written ≡ sets ways (2 * (m - 2)) (number_bytes 2 i)
      → StepsNoted n actions graph (16 * i + a) (set written (2000 + (m - 2)) a)
  noted_step written high room e = rw e (record { says = λ c b j lc lb from f. go c b j lc lb from f (ℕ_discrete j (m - 2)) })
    where
      below : m - 2 < 1000
      below = omega (arith, step_below high, held.pairs_most)

      after : List ℕ
      after = with_step ways i a (m - 2) room below

      this_step : (c : ℕ) → 16 * i + a ≤ c → NotedStep n actions graph (16 * i + a) after (m - 2) c
      this_step c le =
          let first = from_there ways i a (m - 2) room below (omega (arith, held.pairs_most)) in
          let second = action_there ways i a (m - 2) room below in
          record {
            pair = rw first l;
            action = rw second k;
            leads = rw (first, second) (goes_to high);
            from_on = omega arith;
            no_later = omega arith;
          }

      go : (c b j : ℕ) → c < n → b < actions → 16 * i + a ≤ 16 * c + b → move_at graph c b ≡ to j → Dec (j ≡ m - 2)
          → NotedStep n actions graph (16 * i + a) after j (16 * c + b)
      go c b j lc lb from f (yes same) = rw same (this_step (16 * c + b) from)
      go c b j lc lb from f (no other) =
          this_or_later (λ c b. move_at graph c b ≡ to j → NotedStep n actions graph (16 * i + a) after j (16 * c + b)) c b lb from
          (λ g. absurd (other (one_target (move_at graph i a) (m - 2) j (goes_to high) g)))
          (λ late g. noted_still n actions graph (16 * i + a) (16 * i + (a + 1)) ways after j (16 * c + b) (omega arith)
          (from_else ways i a (m - 2) room below j (omega (arith, held.targets c b j lc lb f, held.pairs_most)) other)
          (action_else ways i a (m - 2) room below j other)
          (h.says c b j lc lb late g))
          f

-- The action is a byte.
pub action_fits : (n actions : ℕ) (graph : List ℕ) (a : ℕ) → HoldsGraph n actions graph → a < actions → Fits w8 a
action_fits n actions graph a held k = omega (arith, held.actions_most)

-- ---- the loops

-- A loop has come back to step k; the area is as long as it was.
pub record NotingBack (n actions : ℕ) (graph : List ℕ) (end k : ℕ) (old ways : List ℕ) : Type 0 where
  pub noted : StepsNoted n actions graph k ways
  pub long : length ways ≡ length old
  pub most : k ≤ end

-- No step of a pair is behind its last action.
pub noting_pair : (n actions : ℕ) (graph : List ℕ) (i a : ℕ) (ways : List ℕ) → HoldsGraph n actions graph
    → StepsNoted n actions graph (16 * (i + 1)) ways → a ≡ actions → NotingBack n actions graph (16 * i + actions) (16 * i + a) ways ways
noting_pair n actions graph i a ways held h e =
    record {
      noted = record {
        says = λ c b j lc lb from to_j.
            noted_still n actions graph (16 * i + a) (16 * (i + 1)) ways ways j (16 * c + b) (omega (arith, held.actions_most))
            refl refl (h.says c b j lc lb (omega (arith, held.actions_most)) to_j);
      };
      long = refl;
      most = omega arith;
    }

-- One more step of a pair: what is asked of it, and what is noted then.
pub step_before : (n actions : ℕ) (graph : List ℕ) (end i a : ℕ) (old ways : List ℕ)
    → NotingBack n actions graph end (16 * i + a) old ways → 0 < a → StepsNoted n actions graph (16 * i + (a - 1 + 1)) ways
step_before n actions graph end i a old ways h l =
    let e : a - 1 + 1 ≡ a = omega arith in
    rw e h.noted

pub noting_step : (n actions : ℕ) (graph : List ℕ) (i a : ℕ) (old ways after : List ℕ)
    → NotingBack n actions graph (16 * i + actions) (16 * i + a) old ways → StepsNoted n actions graph (16 * i + (a - 1)) after
    → length after ≡ length ways → NotingBack n actions graph (16 * i + actions) (16 * i + (a - 1)) old after
noting_step n actions graph i a old ways after h more e =
    record { noted = more; long = e ∙ h.long; most = omega (arith, h.most) }

-- All steps of a pair are noted.
pub noted_pair : (n actions : ℕ) (graph : List ℕ) (end i a : ℕ) (old ways : List ℕ)
    → NotingBack n actions graph end (16 * i + a) old ways → a ≤ 0 → StepsNoted n actions graph (16 * i) ways
noted_pair n actions graph end i a old ways h l =
    let e : 16 * i + a ≡ 16 * i = omega arith in
    subst (λ k. StepsNoted n actions graph k ways) e h.noted

-- No step is behind those of the last pair.
pub noting_all : (n actions : ℕ) (graph ways : List ℕ) → HoldsGraph n actions graph
    → NotingBack n actions graph (16 * n) (16 * n) ways ways
noting_all n actions graph ways held =
    record {
      noted = record { says = λ c b j lc lb from e. absurd (omega (arith, held.actions_most)) };
      long = refl;
      most = omega arith;
    }

-- One more pair: what is asked of it, and what is noted then.
pub pair_before : (n actions : ℕ) (graph : List ℕ) (end i : ℕ) (old ways : List ℕ) → NotingBack n actions graph end (16 * i) old ways
    → 0 < i → StepsNoted n actions graph (16 * (i - 1 + 1)) ways
pair_before n actions graph end i old ways h l =
    let e : i - 1 + 1 ≡ i = omega arith in
    rw e h.noted

pub noting_more : (n actions : ℕ) (graph : List ℕ) (i : ℕ) (old ways after : List ℕ)
    → NotingBack n actions graph (16 * n) (16 * i) old ways → StepsNoted n actions graph (16 * (i - 1)) after
    → length after ≡ length ways → NotingBack n actions graph (16 * n) (16 * (i - 1)) old after
noting_more n actions graph i old ways after h more e =
    record { noted = more; long = e ∙ h.long; most = omega (arith, h.most) }

-- The steps of all pairs are noted.
pub noted_all : (n actions : ℕ) (graph : List ℕ) (end i : ℕ) (old ways : List ℕ) → NotingBack n actions graph end (16 * i) old ways
    → i ≤ 0 → StepsNoted n actions graph 0 ways
noted_all n actions graph end i old ways h l =
    let e : 16 * i ≡ 0 = omega arith in
    subst (λ k. StepsNoted n actions graph k ways) e h.noted
