-- What the maker makes, the checker accepts: a made table's rows with what is pending count no more than the pairs, and none gives over 16
-- alternatives.
use Prim.Native.Nat.{ℕ, ◌<◌}
use mathlib.Core.Path.{◌≡◌, sym, ◌∙◌, ap, ap₂, subst}
use mathlib.Core.Logic.{◌⊎◌, inl, inr}
use mathlib.Core.Bool.{true, false}
use Rattle.base.proofs.Options.{map-eq-some_iff}
use mathlib.Core.List.Memᴰ
use mathlib.Core.List.{List, map, map-map}
use Rattle.base.specs.Lists.{total}
use Rattle.std.specs.Prelude.{Err, Ok}
use Rattle.base.specs.declared.Refusal.TheVariants.{Pairs, Alternatives}
use Rattle.base.proofs.Lists.{never_both, some_one, distinct_map}
use Rattle.logic.specs.Tower.{Tower}
use Rattle.logic.specs.Book.{Book}
use Rattle.logic.specs.Runs.{leads}
use Rattle.logic.specs.Tables.{Table, row_at, rows_tower}
use Rattle.pending.specs.Pending.{Pending}
use Rattle.alternatives.specs.Pairs.{Pair, pair_weight, first_pair, over_pairs, over_alternatives, most_pairs}
use Rattle.alternatives.proofs.Steps.{leads_tried, spare_leads}
use Rattle.outcome.specs.Game.{safe, safe_step}
use Rattle.outcome.specs.Rows.{made_table}
use Rattle.outcome.specs.Make.{table_for}
use Rattle.outcome.specs.Check.{good_table, judge}
use Rattle.outcome.specs.MadeRight.{Makeable, GivenTable}
use Rattle.outcome.specs.Reached.{ReachedPair, ReachedItem, MoreThan, GivesOver}
use Rattle.outcome.proofs.RowPairs.{row_number}
use Rattle.outcome.proofs.Items.{pair_of, item_by, item_enabled, RunTo, run_to}
use Rattle.outcome.proofs.Counted.{over_pairs_iff, over_alternatives_iff, never_over}
use Rattle.outcome.proofs.Checker.{good_accepted}
use Rattle.outcome.proofs.Maker.{so, follows, safe_leads, made_good, made_made, table_made}

module _ (tower : Tower) (book : Book) (able : Makeable tower book)
    (few : over_pairs tower book ≡ false) (narrow : over_alternatives tower book ≡ false) (first_safe : safe tower book (first_pair tower book) ≡ true) where
  -- the pair of a row with what is pending
  pair : Pair → Pair
  pair v = pair_of tower book (made_table tower book) v.state v.pending

  run : (v : Pair) → ReachedItem tower book (made_table tower book) v → RunTo tower book (made_table tower book) v
  run v reached =
      run_to tower book (made_table tower book) (follows tower book able few first_safe) v reached

  -- the row is that of the pair
  row_is : (v : Pair) → ReachedItem tower book (made_table tower book) v → row_number tower book (pair v) ≡ v.state
  unfolding pair
  row_is v reached =
      let to = run v reached in
      let (z, f, g) =
      (map-eq-some_iff (row_number tower book) (leads (safe_step tower book) (first_pair tower book) to.run)).0
      (sym ((so tower book able few first_safe).runs to.run) ∙ to.row) in
      ap (row_number tower book) (some_one to.pair (leads_tried tower book (first_pair tower book) z to.run
      (safe_leads tower book able to.run (first_pair tower book) z f))) ∙ g

  abbrev item : ℕ → List Pending → Pair
  item r ps = record { state = r; pending = ps }

  -- so different rows with what is pending have different pairs
  pair_apart : (v w : Pair) → ReachedItem tower book (made_table tower book) v → ReachedItem tower book (made_table tower book) w → pair v ≡ pair w → v ≡ w
  pair_apart v w rv rw e =
      ap₂ item (sym (row_is v rv) ∙ ap (row_number tower book) e ∙ row_is w rw) (unfold pair in ap (λ z. z.pending) e)

  -- the pair is reached
  reached : (v : Pair) → ReachedItem tower book (made_table tower book) v → ReachedPair tower book (pair v)
  unfolding ReachedPair pair first_pair
  reached v is_reached =
      let to = run v is_reached in
      (to.run, spare_leads tower book (first_pair tower book) (pair v) to.run (never_over tower book able.listed few narrow) to.pair)

  -- and they count no more than the pairs
  items_few : MoreThan most_pairs (ReachedItem tower book (made_table tower book)) → MoreThan most_pairs (ReachedPair tower book)
  unfolding MoreThan pair_weight pair
  items_few (vs, many, distinct, all) = (
    map pair vs,
    subst (λ n. most_pairs < n) (ap total (sym (map-map pair_weight pair vs))) many,
    distinct_map pair vs (λ v w m n. pair_apart v w (all v m) (all w n)) distinct,
    λ z m.
        let (v, here, e) = Memᴰ.of_map pair vs m in
        subst (ReachedPair tower book) e (reached v (all v here)),
  )

  -- nor does one of them give over 16 alternatives where no pair does
  items_narrow : GivesOver (rows_tower tower (made_table tower book)) book → GivesOver tower book
  unfolding rows_tower pair ReachedItem
  items_narrow gives =
      record {
        pair = pair gives.pair;
        reached = reached gives.pair gives.reached;
        action = gives.action;
        state = (row_at (made_table tower book) gives.state).state;
        enabled =
            item_enabled tower book (made_table tower book) (follows tower book able few first_safe) gives.pair.state gives.action
            gives.state gives.enabled;
        many = sym (item_by tower book (made_table tower book) gives.pair gives.action) ∙ gives.many;
      }

  -- What is made is accepted.
  pub made_accepted : judge tower book (made_table tower book) ≡ Ok good_table
  made_accepted =
      go
      (good_accepted tower book (made_table tower book)
      (record { listed = able.listed; fit = able.fit; is_table = (so tower book able few first_safe).is_table })
      (made_good tower book able few first_safe))
    where
      go : ((judge tower book (made_table tower book) ≡ Ok good_table) × (MoreThan most_pairs (ReachedItem tower book (made_table tower book)) → ⊥)
          × (GivesOver (rows_tower tower (made_table tower book)) book → ⊥))
          ⊎ (((judge tower book (made_table tower book) ≡ Err Pairs) × MoreThan most_pairs (ReachedItem tower book (made_table tower book)))
          ⊎ ((judge tower book (made_table tower book) ≡ Err Alternatives) × GivesOver (rows_tower tower (made_table tower book)) book))
          → judge tower book (made_table tower book) ≡ Ok good_table
      go (inl (e, fewer, narrower)) = e
      go (inr (inl (e, many))) = never_both ((over_pairs_iff tower book able.listed).1 (items_few many)) few
      go (inr (inr (e, wide))) = never_both ((over_alternatives_iff tower book able.listed few).1 (items_narrow wide)) narrow

pub given_table : (tower : Tower) (book : Book) → Makeable tower book → (table : Table) → table_for tower book ≡ Ok table
    → GivenTable tower book table
given_table tower book able table e =
    let is = table_made tower book able table e in
    subst (GivenTable tower book) is.same
    (record {
      made = made_made tower book able is.few is.first_safe is.narrow;
      few_rows = (so tower book able is.few is.first_safe).few;
      accepted = made_accepted tower book able is.few is.narrow is.first_safe;
    })
