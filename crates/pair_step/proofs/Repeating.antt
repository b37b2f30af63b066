-- `lead` where an earlier action led to the same pair: what waits of both is the same, and so is the state.
use Prim.Native.Nat.{ℕ, ◌+◌, ◌-◌, ◌*◌, ◌≤◌, ◌<◌}
use native.Mathlib.Omega.{arith}
use mathlib.Core.Path.{◌≡◌, refl, sym, ◌∙◌, ap, subst}
use mathlib.Core.Bool.{Bool, true}
use Rattle.std.specs.Prelude.{Some}
use mathlib.Core.List.{List}
use Rattle.base.specs.Lists.{some_of}
use Rattle.base.proofs.Lists.{some_of_mem, mem_get_or}
use Rattle.alternatives.specs.Alternatives.{these}
use Rattle.alternatives.specs.Pairs.{same_pair, alternatives_by, pair_step}
use Rattle.alternatives.proofs.Same.{same_pair_refl}
use Rattle.alternatives.proofs.Steps.{Standing, tried_step_in, pair_step_spare, pair_step_out}
use Rattle.book_progression.specs.NodeBytes.{IsHeld}
use Rattle.set_index.specs.Entries.{entry_number}
use Rattle.pair_graph.specs.Steps.{move_at}
use Rattle.pair_repeats.specs.Repeats.{MovesWritten, LedAlike, LedBefore}
use Rattle.pair_trial.specs.Walked.{walked}
use Rattle.pair_trial.specs.Trial.{pair_in, waiting_set}
use Rattle.pair_step.specs.Stepped.{pairs_of, with_one, SaysMove, moves_to, Searching, ActionFollowed}
use Rattle.pair_step.proofs.PairEntries.{pairs_length, pairs_at, state_of_pair}
use Rattle.pair_step.proofs.Entering.{says_leads}
use Rattle.pair_step.proofs.Following.{move_more}

module _ (tower table : List ℕ) (rows : Bool) (nodes : List ℕ) (wide : Bool) (area : List ℕ) (n : ℕ) (index graph room : List ℕ) (i a : ℕ)
    (was : Searching tower table rows nodes wide area n index graph room i (i + 1) (16 * i + a))
    (listed : a < (walked tower table rows).actions) where
  -- what the move of an earlier action says
  says_before : (h : IsHeld nodes) (b : ℕ) → b < a
      → SaysMove (walked tower table rows) h.book nodes area n (pair_in nodes area i) b (move_at graph i b)
  says_before h b l = was.turning.right.says h i b (omega (arith, listed)) (omega arith)

  pub moves_written : MovesWritten area graph room i a
  moves_written =
      record {
        size = was.turning.filled.size;
        graph_room = was.turning.graph_room;
        space = was.space;
        low = omega (arith, was.turning.low, was.turning.most);
        action = omega (arith, was.turning.world.files.search.actions_most, listed);
        inside = λ b j l e.
            let h = was.turning.world.held in
            let met = (says_leads (walked tower table rows) h.book nodes area n (pair_in nodes area i) b j (move_at graph i b) (says_before h b l) e).0 in
            omega (arith, met, was.turning.most);
      }

  module _ (y j b : ℕ) (is_wide : wide ≡ true) (goes : (walked tower table rows).target (entry_number area i) a ≡ Some y)
      (alike : LedAlike j area graph room i a b y) where
    step_before : (h : IsHeld nodes)
        → (j < n) × (pair_step (walked tower table rows) h.book (pair_in nodes area i) b ≡ Some (pair_in nodes area j))
    step_before h =
        says_leads (walked tower table rows) h.book nodes area n (pair_in nodes area i) b j (move_at graph i b)
        (says_before h b alike.earlier) alike.leads

    -- what comes of pair i by action b
    came_before : (h : IsHeld nodes)
        → ((walked tower table rows).target (pair_in nodes area i).state b ≡ Some (pair_in nodes area j).state)
        × (alternatives_by (walked tower table rows) h.book (pair_in nodes area i) b ≡ these (pair_in nodes area j).pending)
        × Standing (pair_in nodes area j)
    came_before h =
        pair_step_out (walked tower table rows) h.book (pair_in nodes area i) (pair_in nodes area j) b (step_before h).1

    same_waits : waiting_set nodes room b ≡ waiting_set nodes room a
    unfolding waiting_set
    same_waits = rw (alike.count, alike.place) refl

    -- is what comes of it by action a.
    came : (h : IsHeld nodes)
        → alternatives_by (walked tower table rows) h.book (pair_in nodes area i) a ≡ these (pair_in nodes area j).pending
    came h =
        ((was.waiting is_wide).waits a y listed goes).is h
        ∙ ap these (sym same_waits)
        ∙ sym (((was.waiting is_wide).waits b (pair_in nodes area j).state (omega (arith, alike.earlier, listed)) enabled).is h)
        ∙ (came_before h).1
      where
        enabled : (walked tower table rows).target (entry_number area i) b ≡ Some (pair_in nodes area j).state
        enabled = ap (λ (z : ℕ). (walked tower table rows).target z b) (sym (state_of_pair nodes area i)) ∙ (came_before h).0

    goes_there : (walked tower table rows).target (pair_in nodes area i).state a ≡ Some (pair_in nodes area j).state
    goes_there =
        ap (λ (z : ℕ). (walked tower table rows).target z a) (state_of_pair nodes area i)
        ∙ goes
        ∙ ap Some (sym (state_of_pair nodes area j ∙ alike.state))

    step_there : (h : IsHeld nodes)
        → pair_step (walked tower table rows) h.book (pair_in nodes area i) a ≡ Some (pair_in nodes area j)
    step_there h =
        pair_step_spare (walked tower table rows) h.book (pair_in nodes area i) a (was.spare h)
        ∙ tried_step_in (walked tower table rows) h.book (pair_in nodes area i) (pair_in nodes area j) a goes_there (came h) (came_before h).2

    -- The pair is among those that were met.
    was_met : j < n → some_of (same_pair (pair_in nodes area j)) (pairs_of nodes area n) ≡ true
    was_met l =
        some_of_mem (same_pair (pair_in nodes area j))
        (mem_get_or (pairs_of nodes area n) j (pair_in nodes area 0) (omega (arith, pairs_length nodes area n)))
        (ap (same_pair (pair_in nodes area j)) (pairs_at nodes area n j l) ∙ same_pair_refl (pair_in nodes area j))

    led_again : ActionFollowed (record { code = j + 2; met = n }) (walked tower table rows) nodes wide area i a n area index
    unfolding with_one
    led_again =
        let inside = (step_before was.turning.world.held).0 in
        record {
          least = omega arith;
          most = omega arith;
          filled = was.turning.filled;
          indexed = was.turning.indexed;
          kept = λ k l. refl;
          small = omega (arith, inside, was.turning.most);
          says = λ h. subst (SaysMove (walked tower table rows) h.book nodes area n (pair_in nodes area i) a) (sym (move_more j))
              (moves_to j inside (step_there h));
          grown = λ h. sym (rw (step_there h, was_met inside) refl);
        }

  -- Where an earlier action leads so, this one does.
  pub lead_again : (y j : ℕ) → LedBefore j area graph room i a y → wide ≡ true
      → (walked tower table rows).target (entry_number area i) a ≡ Some y
      → ActionFollowed (record { code = j + 2; met = n }) (walked tower table rows) nodes wide area i a n area index
  lead_again y j before is_wide goes = led_again y j before.action is_wide goes before.alike
