-- The maker: 11, 20 and 12 exactly when the papers say so, and otherwise the made table of the logic.
use Prim.Native.Nat.{ℕ}
use mathlib.Core.Path.{◌≡◌, refl, sym, ◌∙◌, ap, subst}
use mathlib.Core.Bool.{true, false, not}
use Rattle.std.specs.Prelude.{Some, option_map}
use Rattle.base.proofs.Options.{map-eq-some_iff}
use mathlib.Core.List.{List, [], ◌∷◌, ◌++◌}
use native.Mathlib.Omega.{arith}
use borrow.Author.Tests.{not-false}
use Rattle.base.specs.Answers.{Answer}
use Rattle.std.specs.Prelude.{Err, Ok}
use Rattle.base.proofs.Lists.{whether, never_both, not_in, only_if_in}
use Rattle.base.proofs.Answers.{gives_not_refuses, if_on, if_refuses, if_gives}
use Rattle.base.specs.declared.Refusal.TheVariants.{Pairs, NoTable, Alternatives}
use Rattle.logic.specs.Tower.{Tower}
use Rattle.logic.specs.Book.{Book}
use Rattle.logic.specs.Runs.{leads}
use Rattle.logic.specs.Tables.{Table, move, Allows, AllowsFrom, NoneBroken, Good, GoodAllow, IsMade}
use Rattle.logic.proofs.Leads.{leads_nil, leads_in, leads_out}
use Rattle.logic.proofs.Canonical.{FollowsRuns, made_unique}
use Rattle.alternatives.specs.Pairs.{Pair, first_pair, pair_step, over_pairs, over_alternatives, most_pairs}
use Rattle.alternatives.proofs.Steps.{pair_leads_state}
use Rattle.alternatives.proofs.Theorems.{leads_unbroken, unbroken_iff}
use Rattle.outcome.specs.Game.{last_removal, safe, safe_step}
use Rattle.outcome.specs.Rows.{made_table}
use Rattle.outcome.specs.Make.{table_for}
use Rattle.outcome.specs.Reached.{ReachedPair, MoreThan, GivesOver}
use Rattle.outcome.specs.MadeRight.{Makeable, RightTable, too_many, too_wide, none_good, made}
use Rattle.outcome.proofs.Game.{Exact, Together, onward, good_stays, met_step, safe_fine}
use Rattle.outcome.proofs.Alike.{Known, safe_step_out}
use Rattle.outcome.proofs.RowPairs.{row_number}
use Rattle.outcome.proofs.MadeTable.{MadeSo, made_so}
use Rattle.outcome.proofs.Counted.{over_pairs_iff, over_alternatives_iff, never_over}

module _ (tower : Tower) (book : Book) (able : Makeable tower book) where
  exact : over_pairs tower book ≡ false → over_alternatives tower book ≡ false → Exact tower book
  unfolding first_pair
  exact few narrow =
      record {
        steps = λ w run unbroken.
            (unbroken_iff tower book able.fit able.listed (never_over tower book able.listed few narrow) w run).0 unbroken;
        state = λ w v e. pair_leads_state tower book (first_pair tower book) v w e;
      }

  -- a step to a safe pair is a safe step
  safe_in : (v w : Pair) (a : ℕ) → pair_step tower book v a ≡ Some w → safe tower book w ≡ true → safe_step tower book v a ≡ Some w
  unfolding safe_step
  safe_in v w a step is_safe = only_if_in (safe tower book) step is_safe

  -- ---- a good table stays inside the safe pairs

  module _ (few : over_pairs tower book ≡ false) (narrow : over_alternatives tower book ≡ false) (table : Table) (good : Good tower book table) where
    -- a row and a pair that one allowed run leads to
    abbrev Both : List ℕ → ℕ → Pair → Type 0
    Both = Together tower book able.listed (exact few narrow) table good

    first : Both [] 0 (first_pair tower book)
    first = record { row = leads_nil (move table) 0; pair = leads_nil (pair_step tower book) (first_pair tower book) }

    staying : (w : List ℕ) (r : ℕ) (v : Pair) → Both w r v → safe tower book v ≡ true
    unfolding safe
    staying w r v at = good_stays tower book able.listed (exact few narrow) table good (last_removal tower book) w r v at

    -- from where both are, every run that the table allows goes over safe steps
    inside : (u w : List ℕ) (r s : ℕ) (v : Pair) → Both w r v → leads (move table) r u ≡ Some s
        → (z : Pair) × (leads (safe_step tower book) v u ≡ Some z)
    inside [] w r s v at e = (v, leads_nil (safe_step tower book) v)
    inside (a ∷ u) w r s v at e =
        let (t, to, on) = leads_out (move table) r s a u e in
        let (y, step, next) = onward tower book able.listed (exact few narrow) table good w r v at a t to in
        let (z, rest) = inside u (w ++ (a ∷ [])) t s y next on in
        (z, leads_in (safe_step tower book) v y z a u (safe_in v y a step (staying (w ++ (a ∷ [])) t y next)) rest)

    -- What a good table allows goes over safe steps.
    good_inside : (w : List ℕ) → Allows table w → (z : Pair) × (leads (safe_step tower book) (first_pair tower book) w ≡ Some z)
    unfolding Allows AllowsFrom
    good_inside w (s, e) = inside w [] 0 s (first_pair tower book) first e

    -- Where a good table exists, the first pair is safe.
    good_safe : safe tower book (first_pair tower book) ≡ true
    good_safe = staying [] 0 (first_pair tower book) first

  -- ---- the made table

  -- safe steps are steps of pairs
  pub safe_leads : (w : List ℕ) (v z : Pair) → leads (safe_step tower book) v w ≡ Some z → leads (pair_step tower book) v w ≡ Some z
  safe_leads [] v z e = leads_nil (pair_step tower book) v ∙ sym (leads_nil (safe_step tower book) v) ∙ e
  safe_leads (a ∷ w) v z e =
      let (y, step, rest) = leads_out (safe_step tower book) v z a w e in
      leads_in (pair_step tower book) v y z a w (safe_step_out tower book v a y step).0 (safe_leads w y z rest)

  module _ (few : over_pairs tower book ≡ false) (first_safe : safe tower book (first_pair tower book) ≡ true) where
    known : Known tower book
    known =
        record {
          listed = able.listed;
          few = few;
          first_safe = first_safe;
          met_step = met_step tower book able.listed few;
          safe_fine = safe_fine tower book able.listed few;
        }

    pub so : MadeSo tower book
    so = made_so tower book known

    pub follows : FollowsRuns tower (made_table tower book)
    follows = record { is_table = so.is_table; start = so.a; steps = so.c }

    -- what the made table allows goes over safe steps, and the other way round
    runs_out : (w : List ℕ) → Allows (made_table tower book) w → (z : Pair) × (leads (safe_step tower book) (first_pair tower book) w ≡ Some z)
    unfolding Allows AllowsFrom
    runs_out w (r, e) =
        let (z, f, g) = (map-eq-some_iff (row_number tower book) (leads (safe_step tower book) (first_pair tower book) w)).0 (sym (so.runs w) ∙ e) in (z, f)

    runs_in : (w : List ℕ) (z : Pair) → leads (safe_step tower book) (first_pair tower book) w ≡ Some z → Allows (made_table tower book) w
    unfolding Allows AllowsFrom
    runs_in w z e = (row_number tower book z, so.runs w ∙ ap (option_map (row_number tower book)) e)

    pub made_good : Good tower book (made_table tower book)
    unfolding NoneBroken
    made_good =
        record {
          is_table = so.is_table;
          a = so.a;
          b = so.b;
          c = so.c;
          d = so.d;
          e = λ w allowed.
              let (z, led) = runs_out w allowed in leads_unbroken tower book able.fit w z (safe_leads w (first_pair tower book) z led);
        }

    -- The table is the made table of the logic.
    pub made_made : over_alternatives tower book ≡ false → IsMade tower book (made_table tower book)
    unfolding GoodAllow
    made_made narrow =
        record {
          good = made_good;
          runs = λ w. (
            λ allowed. (made_table tower book, made_good, allowed),
            λ (table, good, allowed). let (z, led) = good_inside few narrow table good w allowed in runs_in w z led,
          );
          apart = so.apart;
          ascending = so.ascending;
          first_met = so.first_met;
        }

  -- ---- the four answers

  -- What the maker answers is right.
  pub table_right : RightTable tower book (table_for tower book)
  unfolding table_for
  table_right =
      whether (over_pairs tower book)
      (λ many. subst (RightTable tower book) (sym (if_refuses Pairs _ many)) (too_many ((over_pairs_iff tower book able.listed).0 many)))
      (λ few.
      subst (RightTable tower book) (sym (if_on Pairs _ few))
      (whether (over_alternatives tower book)
      (λ wide.
      subst (RightTable tower book) (sym (if_refuses Alternatives _ wide))
      (too_wide (not_many few) ((over_alternatives_iff tower book able.listed few).0 wide)))
      (λ narrow.
      subst (RightTable tower book) (sym (if_on Alternatives _ narrow))
      (whether (safe tower book (first_pair tower book))
      (λ is_safe.
      subst (RightTable tower book) (sym (if_on NoTable _ (ap not is_safe)))
      (made (made_table tower book) (not_many few) (not_wide few narrow) (made_made few is_safe narrow)))
      (λ lost.
      subst (RightTable tower book) (sym (if_refuses NoTable _ (not_in lost)))
      (none_good (not_many few) (not_wide few narrow) (λ table good. never_both (good_safe few narrow table good) lost)))))))
    where
      not_many : over_pairs tower book ≡ false → MoreThan most_pairs (ReachedPair tower book) → ⊥
      not_many few many = never_both ((over_pairs_iff tower book able.listed).1 many) few

      not_wide : over_pairs tower book ≡ false → over_alternatives tower book ≡ false → GivesOver tower book → ⊥
      not_wide few narrow wide = never_both ((over_alternatives_iff tower book able.listed few).1 wide) narrow

  -- Only one answer is right.
  right_one : (o p : Answer Table) → RightTable tower book o → RightTable tower book p → o ≡ p
  right_one o p (too_many many) (too_many more) = refl
  right_one o p (too_many many) (too_wide few wide) = absurd (few many)
  right_one o p (too_many many) (none_good few narrow lost) = absurd (few many)
  right_one o p (too_many many) (made table few narrow is) = absurd (few many)
  right_one o p (too_wide few wide) (too_many many) = absurd (few many)
  right_one o p (too_wide few wide) (too_wide few' wide') = refl
  right_one o p (too_wide few wide) (none_good few' narrow lost) = absurd (narrow wide)
  right_one o p (too_wide few wide) (made table few' narrow is) = absurd (narrow wide)
  right_one o p (none_good few narrow lost) (too_many many) = absurd (few many)
  right_one o p (none_good few narrow lost) (too_wide few' wide) = absurd (narrow wide)
  right_one o p (none_good few narrow lost) (none_good few' narrow' lost') = refl
  right_one o p (none_good few narrow lost) (made table few' narrow' is) = absurd (lost table is.good)
  right_one o p (made table few narrow is) (too_many many) = absurd (few many)
  right_one o p (made table few narrow is) (too_wide few' wide) = absurd (narrow wide)
  right_one o p (made table few narrow is) (none_good few' narrow' lost) = absurd (lost table is.good)
  right_one o p (made table few narrow is) (made other few' narrow' is') =
      ap Ok (made_unique tower book book table other is is' (λ w. (λ g. g, λ g. g)))

  -- So the maker answers just that.
  pub table_only : (o : Answer Table) → RightTable tower book o → table_for tower book ≡ o
  table_only o right = right_one (table_for tower book) o table_right right

  -- 12 is said only if there is no good table
  pub no_table_out : table_for tower book ≡ Err NoTable → (table : Table) → Good tower book table → ⊥
  no_table_out e table good = go (table_for tower book) table_right e
    where
      go : (o : Answer Table) → RightTable tower book o → o ≡ Err NoTable → ⊥
      go o (too_many many) f = let z : ◌≡◌ {A = ℕ} 0 1 = cc in omega arith
      go o (too_wide few wide) f = let z : ◌≡◌ {A = ℕ} 0 1 = cc in omega arith
      go o (none_good few narrow lost) f = lost table good
      go o (made t few narrow is) f = gives_not_refuses refl f

  -- 11 is said only if there are too many pairs
  pub over_out : table_for tower book ≡ Err Pairs → MoreThan most_pairs (ReachedPair tower book)
  over_out e = go (table_for tower book) table_right e
    where
      go : (o : Answer Table) → RightTable tower book o → o ≡ Err Pairs → MoreThan most_pairs (ReachedPair tower book)
      go o (too_many many) f = many
      go o (too_wide few wide) f = let z : ◌≡◌ {A = ℕ} 0 1 = cc in absurd (omega arith)
      go o (none_good few narrow lost) f = let z : ◌≡◌ {A = ℕ} 0 1 = cc in absurd (omega arith)
      go o (made t few narrow is) f = gives_not_refuses refl f

  -- 20 is said only if there are not, and one of them gives over 16 alternatives
  pub wide_out : table_for tower book ≡ Err Alternatives → (MoreThan most_pairs (ReachedPair tower book) → ⊥) × GivesOver tower book
  wide_out e = go (table_for tower book) table_right e
    where
      go : (o : Answer Table) → RightTable tower book o → o ≡ Err Alternatives
          → (MoreThan most_pairs (ReachedPair tower book) → ⊥) × GivesOver tower book
      go o (too_many many) f = let z : ◌≡◌ {A = ℕ} 0 1 = cc in absurd (omega arith)
      go o (too_wide few wide) f = (few, wide)
      go o (none_good few narrow lost) f = let z : ◌≡◌ {A = ℕ} 0 1 = cc in absurd (omega arith)
      go o (made t few narrow is) f = gives_not_refuses refl f

  -- what is known of a table that was made
  pub record MadeFor (table : Table) : Type 0 where
    pub few : over_pairs tower book ≡ false
    pub narrow : over_alternatives tower book ≡ false
    pub first_safe : safe tower book (first_pair tower book) ≡ true
    pub same : made_table tower book ≡ table

  pub table_made : (table : Table) → table_for tower book ≡ Ok table → MadeFor table
  unfolding table_for
  table_made table e =
      let (few, d) = if_gives Pairs (over_pairs tower book) _ e in
      let (narrow, f) = if_gives Alternatives (over_alternatives tower book) _ d in
      let (found, g) = if_gives NoTable (not (safe tower book (first_pair tower book))) _ f in
      record { few = few; narrow = narrow; first_safe = not-false (safe tower book (first_pair tower book)) found; same = give_one g }
    where
      give_one : {x y : Table} → ◌≡◌ {A = Answer _} (Ok x) (Ok y) → x ≡ y
      give_one e = cc
