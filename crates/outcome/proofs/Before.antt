-- Books without two timed sides give the bytes they gave: what maker and checker answer for them is what they answered before.
use Prim.Native.Nat.{ℕ}
use mathlib.Core.Path.{◌≡◌, refl, sym, ◌∙◌, subst}
use mathlib.Core.Logic.{◌↔◌}
use mathlib.Core.Bool.{false}
use mathlib.Core.List.{List}
use lib.ListN.{length}
use Rattle.base.specs.Answers.{Answer, ◌then◌}
use Rattle.std.specs.Prelude.{Ok}
use Rattle.base.proofs.Lists.{never_both, false_by}
use Rattle.logic.specs.Tower.{Tower, layout_of}
use Rattle.logic.specs.Book.{Book}
use Rattle.logic.specs.Sides.{OneSided}
use Rattle.logic.specs.Tables.{Table, rows_tower}
use Rattle.logic.specs.TableFile.{table_file}
use Rattle.pending.specs.Pairs as Old
use Rattle.alternatives.specs.Pairs.{over_pairs, most_pairs}
use Rattle.alternatives.proofs.OnePairs.{over_pairs_one, over_alternatives_one}
use Rattle.outcome.specs.Make.{table_for, made_file}
use Rattle.outcome.specs.Check.{Finding, judge, over_items, checked_file}
use Rattle.outcome.specs.Reached.{ReachedPair, MoreThan, GivesOver}
use Rattle.outcome.specs.MadeRight.{Makeable, RightTable}
use Rattle.outcome.specs.MadeRight as Right
use Rattle.outcome.specs.VerdictRight.{Judgeable, RightBelow, FirstReason}
use Rattle.outcome.specs.VerdictRight as First
use Rattle.outcome.specs.Before.{MadeBefore, JudgedBefore}
use Rattle.outcome.specs.Before as Before
use Rattle.outcome.specs.Calls.{FitFiles, FitTable}
use Rattle.outcome.proofs.Counted.{over_pairs_iff, over_alternatives_iff}
use Rattle.outcome.proofs.Checker.{Many, Wide, good_right, many_out, many_in, few_in, few_out, narrow_out, judged, judge_is}
use Rattle.outcome.proofs.Maker.{table_right, table_only}
use Rattle.outcome.proofs.CallLaws.{of_file, checks}
use Rattle.outcome.proofs.FitCalls.{makeable, judgeable}

-- ---- the maker

module _ (tower : Tower) (book : Book) (able : Makeable tower book) (sided : OneSided book) where
  few : Old.over_pairs tower book ≡ false → over_pairs tower book ≡ false
  few e = over_pairs_one tower book sided ∙ e

  not_many : Old.over_pairs tower book ≡ false → MoreThan most_pairs (ReachedPair tower book) → ⊥
  not_many e many = never_both ((over_pairs_iff tower book able.listed).1 many) (few e)

  not_wide : over_pairs tower book ≡ false → GivesOver tower book → ⊥
  not_wide e wide = never_both ((over_alternatives_iff tower book able.listed e).1 wide) (over_alternatives_one tower book sided)

  right_in : (o : Answer Table) → MadeBefore tower book o → RightTable tower book o
  right_in _ (Before.too_many e) = Right.too_many ((over_pairs_iff tower book able.listed).0 (over_pairs_one tower book sided ∙ e))
  right_in _ (Before.none_good e lost) = Right.none_good (not_many e) (not_wide (few e)) lost
  right_in _ (Before.made table e is) = Right.made table (not_many e) (not_wide (few e)) is

  few_old : (MoreThan most_pairs (ReachedPair tower book) → ⊥) → Old.over_pairs tower book ≡ false
  few_old none = false_by (Old.over_pairs tower book) (λ e. none ((over_pairs_iff tower book able.listed).0 (over_pairs_one tower book sided ∙ e)))

  right_out : (o : Answer Table) → RightTable tower book o → MadeBefore tower book o
  right_out _ (Right.too_many many) = Before.too_many (sym (over_pairs_one tower book sided) ∙ (over_pairs_iff tower book able.listed).1 many)
  right_out _ (Right.too_wide none wide) = absurd (not_wide (few (few_old none)) wide)
  right_out _ (Right.none_good none narrow lost) = Before.none_good (few_old none) lost
  right_out _ (Right.made table none narrow is) = Before.made table (few_old none) is

  -- The maker's answer is the one of before.
  made_before : (o : Answer Table) → (table_for tower book ≡ o) ↔ MadeBefore tower book o
  made_before o = (
    λ e. subst (MadeBefore tower book) e (right_out (table_for tower book) (table_right tower book able)),
    λ before. table_only tower book able o (right_in o before),
  )

-- ---- the checker

module _ (tower : Tower) (book : Book) (table : Table) (known : Judgeable tower book table) (sided : OneSided book) where
  same_count : over_items tower book table ≡ Old.over_pairs (rows_tower tower table) book
  unfolding over_items
  same_count = over_pairs_one (rows_tower tower table) book sided

  module _ (right : RightBelow tower table (length table)) where
    not_over : Old.over_pairs (rows_tower tower table) book ≡ false → Many tower book table known → ⊥
    not_over e = few_out tower book table known right (same_count ∙ e)

    not_full : over_items tower book table ≡ false → Wide tower book table known → ⊥
    not_full e = narrow_out tower book table known right e (over_alternatives_one (rows_tower tower table) book sided)

    few_before : (Many tower book table known → ⊥) → Old.over_pairs (rows_tower tower table) book ≡ false
    few_before none = sym same_count ∙ few_in tower book table known right none

  first_in : (o : Answer Finding) → JudgedBefore tower book table o → FirstReason tower book table o
  first_in _ (Before.by_rows q first) = First.by_rows q first
  first_in _ (Before.too_many right e) = First.too_many right (many_out tower book table known right (same_count ∙ e))
  first_in _ (Before.reason_e right e wrong) = First.reason_e right (not_over right e) (not_full right (same_count ∙ e)) wrong
  first_in _ (Before.good g e) =
      let right = good_right tower book table known g in First.good g (not_over right e) (not_full right (same_count ∙ e))

  first_out : (o : Answer Finding) → FirstReason tower book table o → JudgedBefore tower book table o
  first_out _ (First.by_rows q first) = Before.by_rows q first
  first_out _ (First.too_many right many) = Before.too_many right (sym same_count ∙ many_in tower book table known right many)
  first_out _ (First.too_wide right none wide) = absurd (not_full right (few_in tower book table known right none) wide)
  first_out _ (First.reason_e right none narrow wrong) = Before.reason_e right (few_before right none) wrong
  first_out _ (First.good g none narrow) = Before.good g (few_before (good_right tower book table known g) none)

  -- The checker's answer is the one of before.
  judged_before : (o : Answer Finding) → (judge tower book table ≡ o) ↔ JudgedBefore tower book table o
  judged_before o = (
    λ e. subst (JudgedBefore tower book table) e (first_out (judge tower book table) (judged tower book table known)),
    λ before. judge_is tower book table known o (first_in o before),
  )

-- ---- files

module _ (tower_file text : List ℕ) (tower : Tower) (book : Book) (fit : FitFiles tower_file text tower book) (sided : OneSided book) where
  for_files : (o : Answer Table) → (table_for tower book ≡ o) ↔ MadeBefore tower book o
  for_files = made_before tower book (makeable tower_file text tower book fit) sided

  pub some_made_before : (o : Answer Table) × MadeBefore tower book o
  some_made_before = (table_for tower book, (for_files (table_for tower book)).0 refl)

  pub made_as_before : (o : Answer Table) → MadeBefore tower book o
      → made_file tower_file text ≡ (o then λ table. Ok (table_file (layout_of tower_file) tower.states tower.actions table))
  made_as_before o before = of_file tower_file text tower book fit o ((for_files o).1 before)

module _ (tower_file text file : List ℕ) (tower : Tower) (book : Book) (table : Table) (fit : FitFiles tower_file text tower book)
    (laid : FitTable tower file table) (sided : OneSided book) where
  for_table : (o : Answer Finding) → (judge tower book table ≡ o) ↔ JudgedBefore tower book table o
  for_table = judged_before tower book table (judgeable tower_file text file tower book table fit laid) sided

  pub some_judged_before : (o : Answer Finding) × JudgedBefore tower book table o
  some_judged_before = (judge tower book table, (for_table (judge tower book table)).0 refl)

  pub judged_as_before : (o : Answer Finding) → JudgedBefore tower book table o → checked_file tower_file text file ≡ o
  judged_as_before o before = checks tower_file text file tower book table fit laid ∙ (for_table o).1 before
