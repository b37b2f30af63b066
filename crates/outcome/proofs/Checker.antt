-- The checker's answer is the first reason that holds: exactly so, for every table with distinct actions and targets that are rows.
use Prim.Native.Nat.{ℕ}
use mathlib.Core.Path.{◌≡◌, refl, sym, ◌∙◌, subst}
use mathlib.Core.Logic.{◌⊎◌, inl, inr}
use mathlib.Core.Bool.{true, false}
use native.Mathlib.Omega.{arith}
use lib.ListN.{length}
use Rattle.base.specs.Answers.{Answer, ◌if◌else◌}
use Rattle.std.specs.Prelude.{Err, Ok}
use Rattle.base.proofs.Lists.{whether, never_both, false_by, true_by}
use Rattle.base.proofs.Answers.{gives_not_refuses, if_on, if_refuses}
use Rattle.base.specs.declared.Reason.{Reason}
use Rattle.base.specs.declared.Reason.TheVariants.{Broken}
use Rattle.base.specs.declared.Refusal.TheVariants.{Pairs, Alternatives}
use Rattle.logic.specs.Tower.{Tower, Listed}
use Rattle.logic.specs.Book.{Book}
use Rattle.logic.specs.Tables.{Table, rows_tower, NoneBroken, Good}
use Rattle.logic.proofs.Canonical.{FollowsRuns}
use Rattle.alternatives.specs.Pairs.{most_pairs, over_alternatives}
use Rattle.alternatives.proofs.Theorems.{tried_unbroken}
use Rattle.outcome.specs.Check.{Finding, good_table, not_good, ◌found_if◌else◌, rows_judged, judge, over_items, some_broken}
use Rattle.outcome.specs.Reached.{ReachedItem, MoreThan, GivesOver}
use Rattle.outcome.specs.VerdictRight.{Judgeable, RightBelow, FirstOfRows, FirstReason, by_rows, too_many, too_wide, reason_e, good}
use Rattle.outcome.proofs.RowReasons.{found_on, found_here, rows_decided, rows_say, rows_pass}
use Rattle.outcome.proofs.Items.{rows_listed, all_walked, none_found}
use Rattle.outcome.proofs.Counted.{over_items_iff, over_full_items_iff}

module _ (tower : Tower) (book : Book) (table : Table) (known : Judgeable tower book table) where
  pub right_follows : RightBelow tower table (length table) → FollowsRuns tower table
  right_follows right = record { is_table = known.is_table; start = right.a; steps = λ r lt. (right.rows r lt).c }

  -- what is allowed is one of the tower's actions
  pub right_listed : RightBelow tower table (length table) → Listed (rows_tower tower table)
  right_listed right = rows_listed tower table known.listed (right_follows right)

  pub good_right : Good tower book table → RightBelow tower table (length table)
  good_right g = record { a = g.a; rows = λ r lt. record { b = g.b r lt; c = g.c r lt; d = g.d r lt } }

  -- what is asked behind the rows: 11, 20 and e
  abbrev behind : Answer Finding
  behind =
      Pairs if over_items tower book table else
      (Alternatives if over_alternatives (rows_tower tower table) book else
      (Broken found_if some_broken (rows_tower tower table) book else
      Ok good_table))

  passed : RightBelow tower table (length table) → rows_judged tower table behind ≡ behind
  passed right = rows_pass tower table known.listed known.is_table right behind

  -- ---- each of the three tests, in the words of the logic

  -- distinct rows with what is pending are reached that count more than 1,000
  abbrev pub Many : Type 0
  Many = MoreThan most_pairs (ReachedItem tower book table)

  -- one that is reached gives over 16 alternatives by some allowed action
  abbrev pub Wide : Type 0
  Wide = GivesOver (rows_tower tower table) book

  module _ (right : RightBelow tower table (length table)) where
    pub many_out : over_items tower book table ≡ true → Many
    many_out e = (over_items_iff tower book table (right_listed right)).0 e

    pub many_in : Many → over_items tower book table ≡ true
    many_in many = (over_items_iff tower book table (right_listed right)).1 many

    pub few_in : (Many → ⊥) → over_items tower book table ≡ false
    few_in not_many = false_by (over_items tower book table) (λ e. not_many (many_out e))

    pub few_out : over_items tower book table ≡ false → Many → ⊥
    few_out few many = never_both (many_in many) few

    module _ (few : over_items tower book table ≡ false) where
      wide_out : over_alternatives (rows_tower tower table) book ≡ true → Wide
      wide_out e = (over_full_items_iff tower book table (right_listed right) few).0 e

      wide_in : Wide → over_alternatives (rows_tower tower table) book ≡ true
      wide_in wide = (over_full_items_iff tower book table (right_listed right) few).1 wide

      narrow_in : (Wide → ⊥) → over_alternatives (rows_tower tower table) book ≡ false
      narrow_in not_wide = false_by (over_alternatives (rows_tower tower table) book) (λ e. not_wide (wide_out e))

      pub narrow_out : over_alternatives (rows_tower tower table) book ≡ false → Wide → ⊥
      narrow_out narrow wide = never_both (wide_in wide) narrow

      -- no broken step is found: no allowed run is broken
      whole_out : some_broken (rows_tower tower table) book ≡ false → NoneBroken tower book table
      unfolding NoneBroken
      whole_out whole w allowed =
          let (v, e) = all_walked tower book table (right_follows right) (right_listed right) few whole w allowed in
          tried_unbroken tower book known.fit w v e

    -- no allowed run is broken, and none gives over 16: no broken step is found
    whole_in : over_alternatives (rows_tower tower table) book ≡ false → NoneBroken tower book table
        → some_broken (rows_tower tower table) book ≡ false
    whole_in narrow none = none_found tower book table (right_follows right) known.fit (right_listed right) none narrow

    -- So what is said behind the rows is right.
    last : FirstReason tower book table behind
    last =
        whether (over_items tower book table)
        (λ many. subst (FirstReason tower book table) (sym (if_refuses Pairs _ many)) (too_many right (many_out many)))
        (λ few. subst (FirstReason tower book table) (sym (if_on Pairs _ few)) (tried few))
      where
        sound : over_items tower book table ≡ false → some_broken (rows_tower tower table) book ≡ false → Good tower book table
        sound few whole =
            record {
              is_table = known.is_table;
              a = right.a;
              b = λ r lt. (right.rows r lt).b;
              c = λ r lt. (right.rows r lt).c;
              d = λ r lt. (right.rows r lt).d;
              e = whole_out few whole;
            }

        walked : over_items tower book table ≡ false → over_alternatives (rows_tower tower table) book ≡ false
            → FirstReason tower book table (Broken found_if some_broken (rows_tower tower table) book else Ok good_table)
        walked few narrow =
            whether (some_broken (rows_tower tower table) book)
            (λ broken.
            subst (FirstReason tower book table) (sym (found_here Broken _ broken))
            (reason_e right (few_out few) (narrow_out few narrow) (λ none. never_both broken (whole_in narrow none))))
            (λ whole.
            subst (FirstReason tower book table) (sym (found_on Broken _ whole)) (good (sound few whole) (few_out few) (narrow_out few narrow)))

        tried : over_items tower book table ≡ false
            → FirstReason tower book table
            (Alternatives if over_alternatives (rows_tower tower table) book else
            (Broken found_if some_broken (rows_tower tower table) book else Ok good_table))
        tried few =
            whether (over_alternatives (rows_tower tower table) book)
            (λ wide.
            subst (FirstReason tower book table) (sym (if_refuses Alternatives _ wide)) (too_wide right (few_out few) (wide_out few wide)))
            (λ narrow. subst (FirstReason tower book table) (sym (if_on Alternatives _ narrow)) (walked few narrow))

  -- What the checker says of a table is the first reason that holds.
  pub judged : FirstReason tower book table (judge tower book table)
  unfolding judge
  judged = go (rows_decided tower table known.listed known.is_table)
    where
      go : ((q : Reason) × FirstOfRows tower table q) ⊎ RightBelow tower table (length table) → FirstReason tower book table (rows_judged tower table behind)
      go (inl (q, first)) =
          subst (FirstReason tower book table) (sym (rows_say tower table known.listed known.is_table q first behind)) (by_rows q first)
      go (inr right) = subst (FirstReason tower book table) (sym (passed right)) (last right)

  -- ---- and no other answer is

  -- Only one answer is the right one.
  pub judge_is : (o : Answer Finding) → FirstReason tower book table o → judge tower book table ≡ o
  unfolding judge
  judge_is o (by_rows q first) = rows_say tower table known.listed known.is_table q first behind
  judge_is o (too_many right many) = passed right ∙ if_refuses Pairs _ (many_in right many)
  judge_is o (too_wide right not_many wide) =
      passed right ∙ if_on Pairs _ (few_in right not_many) ∙ if_refuses Alternatives _ (wide_in right (few_in right not_many) wide)
  judge_is o (reason_e right not_many not_wide wrong) =
      passed right
      ∙ if_on Pairs _ (few_in right not_many)
      ∙ if_on Alternatives _ (narrow_in right (few_in right not_many) not_wide)
      ∙ found_here Broken _
      (true_by (some_broken (rows_tower tower table) book) (λ e. wrong (whole_out right (few_in right not_many) e)))
  judge_is o (good g not_many not_wide) =
      let right = good_right g in
      let narrow = narrow_in right (few_in right not_many) not_wide in
      passed right ∙ if_on Pairs _ (few_in right not_many) ∙ if_on Alternatives _ narrow ∙ found_on Broken _ (whole_in right narrow g.e)

  -- what is not good is not found to be good
  found_not_good : {q : Reason} → ◌≡◌ {A = Answer _} (Ok (not_good q)) (Ok good_table) → Good tower book table
  found_not_good e = let z : ◌≡◌ {A = ℕ} 0 1 = cc in absurd (omega arith)

  -- A table is accepted only if it is good by the logic.
  pub accepted_good : judge tower book table ≡ Ok good_table → Good tower book table
  accepted_good e = go (judge tower book table) judged e
    where
      go : (o : Answer Finding) → FirstReason tower book table o → o ≡ Ok good_table → Good tower book table
      go o (by_rows q first) f = found_not_good f
      go o (too_many right many) f = gives_not_refuses f refl
      go o (too_wide right not_many wide) f = gives_not_refuses f refl
      go o (reason_e right not_many not_wide wrong) f = found_not_good f
      go o (good g not_many not_wide) f = g

  -- A good table is turned down only for the stated sizes.
  pub good_accepted : Good tower book table
      → ((judge tower book table ≡ Ok good_table) × (Many → ⊥) × (Wide → ⊥))
      ⊎ (((judge tower book table ≡ Err Pairs) × Many) ⊎ ((judge tower book table ≡ Err Alternatives) × Wide))
  good_accepted g =
      whether (over_items tower book table)
      (λ many. let more = many_out right many in inr (inl (judge_is (Err Pairs) (too_many right more), more)))
      (λ few.
      whether (over_alternatives (rows_tower tower table) book)
      (λ full. let wide = wide_out right few full in inr (inr (judge_is (Err Alternatives) (too_wide right (few_out right few) wide), wide)))
      (λ narrow.
      let not_many = few_out right few in
      let not_wide = narrow_out right few narrow in
      inl (judge_is (Ok good_table) (good g not_many not_wide), not_many, not_wide)))
    where
      right : RightBelow tower table (length table)
      right = good_right g
