-- What is shown is what the logic asks for: the run, the line and the position, and no others.
use Prim.Native.Nat.{ℕ, suc, ◌≤◌, ◌<◌}
use mathlib.Core.Path.{◌≡◌, refl, ◌∙◌, ap, subst}
use mathlib.Core.Logic.{◌↔◌, inl}
use Rattle.std.specs.Prelude.{Option, None, Some, unwrap_or}
use mathlib.Core.List.{List, [], ◌∷◌, ◌++◌}
use native.Mathlib.Omega.{arith}
use lib.ListN.{length, length-append}
use lib.Dec.{ltb}
use borrow.Author.Tests.{ltb-true, ltb-false}
use Rattle.base.proofs.Lists.{whether}
use Rattle.logic.specs.Tower.{Tower}
use Rattle.logic.specs.Book.{Book}
use Rattle.logic.specs.Runs.{leads, trace_from, trace, Unbroken, Broken}
use Rattle.logic.specs.Tables.{Table, move, AllowsFrom, Allows}
use Rattle.logic.specs.Why.{Sooner, Soonest, AllowedBroken, rule_at, KeptLine, ShowsWhy}
use Rattle.logic.specs.declared.Position.{Position}
use Rattle.logic.proofs.Leads.{append_out}
use Rattle.pending.proofs.Kept.{rule_end}
use Rattle.judging.specs.Judging.{judged_broken, lowest_line}
use Rattle.judging.proofs.Judged.{judged_broken_iff, judged_unbroken_iff, lowest_line_is, lowest_line_only, broken_place_is, broken_place_only}
use Rattle.first_runs.specs.FirstRun.{first_run}
use Rattle.first_runs.proofs.Sooner.{soonest_one, soonest_same}
use Rattle.first_runs.proofs.Tried.{Passing, first_run_right, first_run_none}
use Rattle.alternatives.specs.Pairs.{most_pairs}
use Rattle.why_outcome.specs.Why.{shown_run, place_in}

module _ (tower : Tower) (book : Book) (table : Table) where
  -- the kind of run that is shown
  abbrev Kind : List ℕ → Type 0
  Kind = AllowedBroken tower book table

  -- What is tried passes exactly if it is allowed and broken.
  passing_iff : (w : List ℕ) → Passing (move table) 0 (judged_broken tower book) w ↔ Kind w
  unfolding Allows AllowsFrom
  passing_iff w = (
    λ p. record { allowed = p.led; broken = (judged_broken_iff tower book w).0 p.passes },
    λ k. record { led = k.allowed; passes = (judged_broken_iff tower book w).1 k.broken },
  )

  -- Where some allowed run of at most 1,000 actions is broken, what is shown is the soonest one.
  pub shown_soonest : ((r s a : ℕ) → move table r a ≡ Some s → a < tower.actions) → (v : List ℕ) → Kind v → length v ≤ most_pairs
      → Soonest Kind (shown_run tower book table)
  unfolding shown_run
  shown_soonest inside v is few = go (first_run (move table) tower.actions 0 (judged_broken tower book) (suc most_pairs) 0) refl
    where
      go : (o : Option (List ℕ)) → first_run (move table) tower.actions 0 (judged_broken tower book) (suc most_pairs) 0 ≡ o
          → Soonest Kind (unwrap_or o [])
      go None e =
          absurd (first_run_none (move table) tower.actions 0 (judged_broken tower book) inside (suc most_pairs) e v ((passing_iff v).1 is)
          (omega arith))
      go (Some w) e =
          soonest_same (Passing (move table) 0 (judged_broken tower book)) Kind passing_iff w
          (first_run_right (move table) tower.actions 0 (judged_broken tower book) inside (suc most_pairs) w e)

  -- With the lowest line that it breaks and the place there, a soonest run shows why.
  pub shows_why : (w : List ℕ) → Soonest Kind w
      → ShowsWhy tower book table w (lowest_line tower book w) (place_in tower book w (lowest_line tower book w))
  unfolding place_in KeptLine
  shows_why w first =
      let line = lowest_line_is tower book w first.is.broken in
      record {
        run = first;
        line = line;
        place = broken_place_is tower (trace tower w) (rule_at book (lowest_line tower book w)).form (rule_at book (lowest_line tower book w)).formula line.broken;
      }

  -- No other line and no other place do, and no other run.
  pub line_only : (w : List ℕ) (k : ℕ) (i : Position) → ShowsWhy tower book table w k i → k ≡ lowest_line tower book w
  line_only w k i why = lowest_line_only tower book w k why.line

  pub place_only : (w : List ℕ) (k : ℕ) (i : Position) → ShowsWhy tower book table w k i → i ≡ place_in tower book w (lowest_line tower book w)
  unfolding place_in
  place_only w k i why =
      broken_place_only tower (trace tower w) (rule_at book k).form (rule_at book k).formula i why.place
      ∙ ap (λ j. place_in tower book w j) (line_only w k i why)

  pub run_only : (v w : List ℕ) (k : ℕ) (i : Position) → Soonest Kind v → ShowsWhy tower book table w k i → w ≡ v
  run_only v w k i first why = soonest_one Kind w v why.run first

  -- ---- what follows for a soonest run

  -- The empty run is unbroken,
  empty_unbroken : Unbroken tower book []
  unfolding Unbroken trace trace_from
  empty_unbroken rule member = rule_end tower rule.form rule.formula

  -- so that it has an action;
  pub soonest_some : (w : List ℕ) → Soonest Kind w → 0 < length w
  unfolding Broken
  soonest_some [] first = absurd (first.is.broken empty_unbroken)
  soonest_some (a ∷ w) first = omega arith

  -- it has no more than another of the kind;
  pub soonest_few : (w v : List ℕ) → Soonest Kind w → Kind v → length v ≤ most_pairs → length w ≤ most_pairs
  unfolding Sooner
  soonest_few w v first is few =
      whether (ltb (length v) (length w)) (λ less. absurd (first.none_sooner v is (inl (ltb-true (length v) (length w) less))))
      (λ no_less. omega (arith, ltb-false (length v) (length w) no_less))

  -- and every shorter beginning of it is unbroken.
  pub soonest_beginnings : (w : List ℕ) → Soonest Kind w → (u v : List ℕ) → w ≡ u ++ v → 0 < length v → Unbroken tower book u
  unfolding Sooner Allows AllowsFrom
  soonest_beginnings w first u v e some_left =
      whether (judged_broken tower book u) (λ broke. absurd (first.none_sooner u (record { allowed = led; broken = (judged_broken_iff tower book u).0 broke }) (inl shorter)))
      (λ whole. (judged_unbroken_iff tower book u).0 whole)
    where
      shorter : length u < length w
      shorter = omega (arith, ap length e, length-append u v)

      parts : (s : ℕ) → leads (move table) 0 w ≡ Some s → (t : ℕ) × (leads (move table) 0 u ≡ Some t)
      parts s f = let (t, there, on) = append_out (move table) 0 s u v (subst (λ z. leads (move table) 0 z ≡ Some s) e f) in (t, there)

      led : (t : ℕ) × (leads (move table) 0 u ≡ Some t)
      led = parts first.is.allowed.0 first.is.allowed.1
