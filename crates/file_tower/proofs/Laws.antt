-- What callers may use: what the reader's answer means, and what a fit tower file gives.
use Prim.Native.Nat.{ℕ, ◌≤◌, ◌<◌}
use native.Mathlib.Omega.{arith}
use mathlib.Core.Path.{◌≡◌, refl, sym, ◌∙◌, ap}
use mathlib.Core.Bool.{Bool, true, false, ◌||◌, not}
use Rattle.std.specs.Prelude.{Option, None, Some}
use mathlib.Core.List.{List}
use lib.ListN.{length}
use lib.Dec.{leb, ltb, eqb}
use borrow.Author.Tests.{ltb-true, ltb-false, leb-true, eqb-true, not-false}
use Rattle.base.specs.Answers.{Answer, ◌if◌else◌}
use Rattle.std.specs.Prelude.{Err, Ok}
use Rattle.base.specs.declared.Refusal.{Refusal}
use Rattle.base.specs.declared.Refusal.TheVariants.{TowerSize, Range, Action, Target, Mask}
use Rattle.base.proofs.Lists.{or_fails_left, or_fails_right}
use Rattle.base.proofs.Answers.{if_gives}
use Rattle.logic.specs.Tower.{Tower, Listed, FitTower, tower_of, in_range, most_actions, most_marks, layout_of}
use Rattle.logic.specs.Tower.{states_of, actions_of, marks_of, start_of, actions_offset, states_offset, states_at, state_at, kind_of}
use Rattle.logic.specs.Tower.{no_header, bad_counts, bad_size, bad_actions, bad_targets, bad_masks}
use Rattle.logic.proofs.Layouts.{file_layout_fits}
use Rattle.logic.proofs.TowerFile.{target_enabled, range_out, fit_tower}
use Rattle.reading.specs.TowerReading.{read_tower}
use Rattle.file_tower.specs.TowerRead.{tower_read}
use Rattle.file_tower.specs.Stages.{Ranges, Headed, Counted, Sized}

-- ---- the counts

-- the last of several tests did not fail
last_holds : (a b : Bool) → (a || not b) ≡ false → b ≡ true
last_holds a b e = not-false b (or_fails_right a (not b) e)

-- No count is bad: they are in their ranges.
pub counts_ranges : (bytes : List ℕ) → bad_counts bytes ≡ false → Ranges bytes
unfolding bad_counts most_actions most_marks
counts_ranges bytes e =
    let most = (layout_of bytes).most in
    let s = in_range most (states_of bytes) in
    let a = in_range 16 (actions_of bytes) in
    let p = leb (marks_of bytes) 16 in
    let x = ltb (start_of bytes) (states_of bytes) in
    let e₃ = or_fails_left (not s || not a || not p) (not x) e in
    let e₂ = or_fails_left (not s || not a) (not p) e₃ in
    let in_states = range_out most (states_of bytes) (not-false s (or_fails_left (not s) (not a) e₂)) in
    let in_actions = range_out 16 (actions_of bytes) (last_holds (not s) a e₂) in
    record {
      states_least = in_states.0;
      states_most = omega (arith, in_states.1, (file_layout_fits bytes).few_states);
      actions_least = in_actions.0;
      actions_most = in_actions.1;
      marks_most = leb-true (marks_of bytes) 16 (last_holds (not s || not a) p e₃);
      start_below = ltb-true (start_of bytes) (states_of bytes) (last_holds (not s || not a || not p) x e);
    }

-- The counts and the start of a fit file are in their ranges.
pub fit_ranges : {bytes : List ℕ} → FitTower bytes → Ranges bytes
fit_ranges {bytes} fit = counts_ranges bytes fit.counts

-- ---- the layout

-- The file ends after the last state.
pub size_length : (bytes : List ℕ) → bad_size bytes ≡ false → length bytes ≡ state_at bytes (states_of bytes)
unfolding bad_size
size_length bytes e =
    eqb-true (length bytes) (state_at bytes (states_of bytes))
    (last_holds (not (eqb (actions_offset bytes) (layout_of bytes).header) || not (eqb (states_offset bytes) (states_at bytes)))
    (eqb (length bytes) (state_at bytes (states_of bytes))) e)

-- The header is whole.
pub header_whole : (bytes : List ℕ) → no_header bytes ≡ false → Headed bytes
unfolding no_header
header_whole bytes e =
    let whole = ltb-false (length bytes) (layout_of bytes).header e in
    record { header = whole; counts = omega (arith, whole, (file_layout_fits bytes).counts_inside) }

-- The first two tests found nothing.
pub counted : (bytes : List ℕ) → no_header bytes ≡ false → bad_counts bytes ≡ false → Counted bytes
counted bytes e f = record { headed = header_whole bytes e; ranges = counts_ranges bytes f }

-- The first three tests found nothing.
pub sized : (bytes : List ℕ) → no_header bytes ≡ false → bad_counts bytes ≡ false → bad_size bytes ≡ false → Sized bytes
unfolding state_at states_at
sized bytes e f g =
    record { counted = counted bytes e f; actions = omega (arith, size_length bytes g); end = size_length bytes g }

-- A fit file is as long as it has to be.
pub fit_sized : {bytes : List ℕ} → FitTower bytes → Sized bytes
fit_sized {bytes} fit = sized bytes fit.header fit.counts fit.size

-- Its header is there.
pub fit_headed : {bytes : List ℕ} → FitTower bytes → Headed bytes
fit_headed fit = (fit_sized fit).counted.headed

-- ---- actions

-- Whatever is enabled is one of the tower's actions.
pub tower_listed : (bytes : List ℕ) → Listed (tower_of bytes)
unfolding Listed tower_of
tower_listed bytes x a y e = (target_enabled bytes x a y e).action

-- ---- the tower of a fit file

-- Its states are as many as the header says.
pub tower_states : (bytes : List ℕ) → (tower_of bytes).states ≡ states_of bytes
unfolding tower_of
tower_states bytes = refl

-- So are its actions,
pub tower_actions : (bytes : List ℕ) → (tower_of bytes).actions ≡ actions_of bytes
unfolding tower_of
tower_actions bytes = refl

-- and its marks.
pub tower_marks : (bytes : List ℕ) → (tower_of bytes).marks ≡ marks_of bytes
unfolding tower_of
tower_marks bytes = refl

-- Its start is the header's.
pub tower_start : (bytes : List ℕ) → (tower_of bytes).start ≡ start_of bytes
unfolding tower_of
tower_start bytes = refl

-- The kind of an action is the one written.
pub tower_kind : (bytes : List ℕ) (a : ℕ) → (tower_of bytes).kind a ≡ kind_of bytes a
unfolding tower_of
tower_kind bytes a = refl

-- What holds of the tower of a fit file.
pub record TowerBounds (tower : Tower) : Type 0 where
  pub states_least : 1 ≤ tower.states
  pub states_most : tower.states ≤ 1000
  pub actions_least : 1 ≤ tower.actions
  pub actions_most : tower.actions ≤ 16
  pub marks_most : tower.marks ≤ 16
  pub start_below : tower.start < tower.states
  pub targets : (x a y : ℕ) → x < tower.states → tower.target x a ≡ Some y → y < tower.states
  pub listed : Listed tower

-- The tower of a fit file keeps its bounds.
pub fit_bounds : {bytes : List ℕ} → FitTower bytes → TowerBounds (tower_of bytes)
unfolding tower_of
fit_bounds {bytes} fit =
    let ranges = fit_ranges fit in
    record {
      states_least = ranges.states_least;
      states_most = ranges.states_most;
      actions_least = ranges.actions_least;
      actions_most = ranges.actions_most;
      marks_most = ranges.marks_most;
      start_below = ranges.start_below;
      targets = λ x a y l e. (fit_tower bytes fit).targets x a y e;
      listed = tower_listed bytes;
    }

-- A tower has at most 16 marks.
pub marks_few : (tower : List ℕ) (marks : ℕ) → FitTower tower → marks ≡ (tower_of tower).marks → marks ≤ 16
marks_few tower marks fit e = omega (arith, (fit_bounds fit).marks_most)

-- The answer is a state: the action leads to it.
pub state_reached : (o : Option ℕ) (r : Option ℕ) (y : ℕ) → r ≡ o → r ≡ Some y → o ≡ Some y
state_reached None r y e f = let z : ◌≡◌ {A = ℕ} 0 1 = cc in absurd (omega arith)
state_reached (Some x) r y e f = let same : x ≡ y = cc in ap Some same

-- The answer is that the action is not enabled: it leads nowhere.
pub none_reached : (o : Option ℕ) (r : Option ℕ) → r ≡ o → r ≡ None → o ≡ None
none_reached None r e f = refl
none_reached (Some x) r e f = let z : ◌≡◌ {A = ℕ} 0 1 = cc in absurd (omega arith)

-- ---- the reader's answer

-- A fit file is read as its tower.
pub fit_reads : {bytes : List ℕ} → FitTower bytes → read_tower bytes ≡ Ok (tower_of bytes)
unfolding read_tower ◌if◌else◌
fit_reads fit = rw (fit.header, fit.counts, fit.size, fit.actions, fit.targets, fit.masks)

-- A file that is read as a tower is fit.
pub reads_fit : (bytes : List ℕ) {tower : Tower} → read_tower bytes ≡ Ok tower → FitTower bytes
unfolding read_tower
reads_fit bytes e =
    let (no_1, e₁) = if_gives TowerSize (no_header bytes) _ e in
    let (no_2, e₂) = if_gives Range (bad_counts bytes) _ e₁ in
    let (no_3, e₃) = if_gives TowerSize (bad_size bytes) _ e₂ in
    let (no_4, e₄) = if_gives Action (bad_actions bytes) _ e₃ in
    let (no_5, e₅) = if_gives Target (bad_targets bytes) _ e₄ in
    let (no_6, e₆) = if_gives Mask (bad_masks bytes) _ e₅ in
    record { header = no_1; counts = no_2; size = no_3; actions = no_4; targets = no_5; masks = no_6 }

-- The answer is `Fit`: the file is fit.
pub fit_of : (bytes : List ℕ) (r : Answer (Unit {0})) → r ≡ tower_read (read_tower bytes) → r ≡ Ok tt → FitTower bytes
unfolding tower_read
fit_of bytes r e f = go (read_tower bytes) refl (sym e ∙ f)
  where
    go : (o : Answer Tower) → read_tower bytes ≡ o → tower_read o ≡ Ok tt → FitTower bytes
    go (Ok tower) p q = reads_fit bytes p
    go (Err why) p q = let z : ◌≡◌ {A = ℕ} 0 1 = cc in absurd (omega arith)

-- The answer is `Fit`: the file is read as its tower.
pub fit_gives : (bytes : List ℕ) (r : Answer (Unit {0})) → r ≡ tower_read (read_tower bytes) → r ≡ Ok tt
    → read_tower bytes ≡ Ok (tower_of bytes)
fit_gives bytes r e f = fit_reads (fit_of bytes r e f)

-- The answer is a refusal: so is the definition's, the same.
pub refused_of : (bytes : List ℕ) (r : Answer (Unit {0})) (why : Refusal) → r ≡ tower_read (read_tower bytes) → r ≡ Err why
    → read_tower bytes ≡ Err why
unfolding tower_read
refused_of bytes r why e f = go (read_tower bytes) refl (sym e ∙ f)
  where
    go : (o : Answer Tower) → read_tower bytes ≡ o → tower_read o ≡ Err why → read_tower bytes ≡ Err why
    go (Ok tower) p q = let z : ◌≡◌ {A = ℕ} 0 1 = cc in absurd (omega arith)
    go (Err other) p q = let same : other ≡ why = cc in p ∙ ap Err same
