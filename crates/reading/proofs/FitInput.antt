-- What is known of a tower and a table that were read: they are fit. (The book: BookLines.)
use Prim.Native.Nat.{ℕ}
use mathlib.Core.Path.{◌≡◌, ◌∙◌, ap, subst}
use mathlib.Core.Bool.{true, ◌&&◌, not}
use mathlib.Core.List.{List}
use lib.Dec.{eqb}
use borrow.Author.Tests.{not-false, eqb-true, eq-eqb}
use Rattle.std.specs.Prelude.{Ok}
use Rattle.base.proofs.Lists.{and_left, and_right, and_both}
use Rattle.base.proofs.Answers.{give_one, if_gives, if_on}
use Rattle.base.specs.declared.Refusal.TheVariants.{TowerSize, Range, Action, Target, Mask, Layout}
use Rattle.logic.specs.Tower.{Tower, tower_of, layout_of, no_header, bad_counts, bad_size, bad_actions, bad_targets, bad_masks, FitTower}
use Rattle.logic.specs.Tables.{Table}
use Rattle.logic.proofs.TowerFile.{TowerFits, fit_tower}
use Rattle.reading.specs.TowerReading.{read_tower}
use Rattle.reading.specs.TableReading.{laid_out, table_states, table_actions, table_of, read_table}

-- ---- the tower

-- A tower that was read is that of a fit file.
pub tower_read : (bytes : List ℕ) (tower : Tower) → read_tower bytes ≡ Ok tower → FitTower bytes × (tower_of bytes ≡ tower)
unfolding read_tower
tower_read bytes tower e =
    let (a, e1) = if_gives TowerSize (no_header bytes) _ e in
    let (b, e2) = if_gives Range (bad_counts bytes) _ e1 in
    let (c, e3) = if_gives TowerSize (bad_size bytes) _ e2 in
    let (d, e4) = if_gives Action (bad_actions bytes) _ e3 in
    let (f, e5) = if_gives Target (bad_targets bytes) _ e4 in
    let (g, e6) = if_gives Mask (bad_masks bytes) _ e5 in
    (record { header = a; counts = b; size = c; actions = d; targets = f; masks = g }, give_one e6)

-- So its numbers are in range, and whatever is enabled is one of its actions.
pub tower_fits : (bytes : List ℕ) (tower : Tower) → read_tower bytes ≡ Ok tower → TowerFits (layout_of bytes) tower
tower_fits bytes tower e = let (fit, same) = tower_read bytes tower e in subst (TowerFits (layout_of bytes)) same (fit_tower bytes fit)

-- ---- the table

-- A table that was read for a tower is that of laid out bytes, with the tower's states and actions.
pub table_read : (tower : Tower) (bytes : List ℕ) (table : Table) → read_table tower bytes ≡ Ok table
    → (laid_out bytes ≡ true) × (table_states bytes ≡ tower.states) × (table_actions bytes ≡ tower.actions) × (table_of bytes ≡ table)
unfolding read_table
table_read tower bytes table e =
    let (a, e1) = if_gives Layout (not (laid_out bytes)) _ e in
    let (b, e2) = if_gives Layout (not (eqb (table_states bytes) tower.states && eqb (table_actions bytes) tower.actions)) _ e1 in
    let same = not-false (eqb (table_states bytes) tower.states && eqb (table_actions bytes) tower.actions) b in (
      not-false (laid_out bytes) a,
      eqb-true (table_states bytes) tower.states (and_left (eqb (table_states bytes) tower.states) (eqb (table_actions bytes) tower.actions) same),
      eqb-true (table_actions bytes) tower.actions (and_right (eqb (table_states bytes) tower.states) (eqb (table_actions bytes) tower.actions) same),
      give_one e2,
    )

-- Bytes that are laid out with the tower's states and actions are read as their table.
pub laid_out_read : (tower : Tower) (bytes : List ℕ) → laid_out bytes ≡ true → table_states bytes ≡ tower.states
    → table_actions bytes ≡ tower.actions → read_table tower bytes ≡ Ok (table_of bytes)
unfolding read_table
laid_out_read tower bytes a b c =
    if_on Layout _ (ap not a) ∙ if_on Layout _ (ap not (and_both (eq-eqb (table_states bytes) tower.states b) (eq-eqb (table_actions bytes) tower.actions c)))
