-- The table over the list of rows: how many steps it has, its bytes, and that it is the graph's.
use Prim.Native.Nat.{ℕ, suc, ◌+◌, ◌*◌, ◌≤◌}
use native.Mathlib.Omega.{arith}
use native.Mathlib.Nat.{add-zero}
use mathlib.Core.Path.{◌≡◌, refl, ◌∙◌, ap, ap₂}
use Rattle.std.specs.Prelude.{Option, None, Some}
use mathlib.Core.List.{List, [], ◌∷◌, ◌++◌, map, map-map, map-append, append-nil}
use lib.ListN.{length, set, length-append, length-map}
use lib.Seq.{sets}
use Rattle.base.specs.Lists.{below, present, joined, total}
use Rattle.base.proofs.Lists.{length_below, joined_append}
use Rattle.logic.specs.Tables.{Step, Row}
use Rattle.logic.specs.declared.FileLayout.{FileLayout}
use Rattle.logic.specs.TableFile.{step_size, steps_at, all_steps, header_bytes, row_bytes, step_bytes, table_file}
use Rattle.logic.proofs.TableFile.{length_steps_bytes, length_table_file}
use Rattle.pair_graph.specs.Steps.{led_to}
use Rattle.maker_order.specs.Orders.{followers}
use Rattle.maker_file.specs.Writing.{step_in, step_from, steps_in, row_in, packed, steps_total, bytes_of_steps}

-- Bytes written behind others are bytes written with them.
pub sets_append : (l : List ℕ) (i : ℕ) (vs ws : List ℕ) → sets l i (vs ++ ws) ≡ sets (sets l i vs) (i + length vs) ws
sets_append l i [] ws = rw (add-zero i)
sets_append l i (v ∷ vs) ws =
    let e : suc i + length vs ≡ i + suc (length vs) = omega arith in
    sets_append (set l i v) (suc i) vs ws ∙ ap (λ (n : ℕ). sets (sets (set l i v) (suc i) vs) n ws) e

-- ---- how many steps

-- There are no more values than options.
length_present : {X : Type 0} (os : List (Option X)) → length (present os) ≤ length os
unfolding present
length_present [] = omega arith
length_present (None ∷ os) = omega (arith, length_present os)
length_present (Some x ∷ os) = omega (arith, length_present os)

-- A pair has no more followers than there are actions.
pub followers_few : (graph flags : List ℕ) (actions i : ℕ) → length (followers graph flags actions i) ≤ actions
unfolding followers
followers_few graph flags actions i =
    omega (arith, length_present (map (led_to graph flags i) (below actions)), length-map (below actions) (led_to graph flags i), length_below actions)

module _ (graph flags part order : List ℕ) where
  -- Each follower is a step.
  length_step : (a : ℕ) (o : Option ℕ) (ss : List (Option Step)) (os : List (Option ℕ)) → length (present ss) ≡ length (present os)
      → length (present (step_in part order a o ∷ ss)) ≡ length (present (o ∷ os))
  unfolding step_in present
  length_step a None ss os e = e
  length_step a (Some j) ss os e = ap suc e

  length_steps_from : (i : ℕ) (bs : List ℕ) → length (present (map (step_from graph flags part order i) bs)) ≡ length (present (map (led_to graph flags i) bs))
  unfolding step_from present
  length_steps_from i [] = refl
  length_steps_from i (a ∷ bs) =
      length_step a (led_to graph flags i a) (map (step_from graph flags part order i) bs) (map (led_to graph flags i) bs) (length_steps_from i bs)

  -- A row has as many steps as its pair has followers.
  pub length_steps : (actions i : ℕ) → length (steps_in graph flags part order actions i) ≡ length (followers graph flags actions i)
  unfolding steps_in followers
  length_steps actions i = length_steps_from i (below actions)

  -- The steps of several pairs, packed: those of the first, and the others.
  pub packed_cons : (actions i : ℕ) (is : List ℕ)
      → packed graph flags part order actions (i ∷ is) ≡ steps_in graph flags part order actions i ++ packed graph flags part order actions is
  unfolding packed joined
  packed_cons actions i is = refl

  pub packed_nil : (actions : ℕ) → packed graph flags part order actions [] ≡ []
  unfolding packed joined
  packed_nil actions = refl

  -- So many steps are packed.
  pub length_packed : (actions : ℕ) (is : List ℕ) → length (packed graph flags part order actions is) ≡ steps_total graph flags actions is
  unfolding packed joined steps_total total
  length_packed actions [] = refl
  length_packed actions (i ∷ is) =
      let e = length-append (steps_in graph flags part order actions i) (packed graph flags part order actions is) in
      omega (arith, length_steps actions i, length_packed actions is)

  -- The steps of the rows of several pairs.
  pub all_steps_rows : (actions : ℕ) (is : List ℕ)
      → all_steps (map (row_in graph flags part order actions) is) ≡ packed graph flags part order actions is
  unfolding all_steps row_in packed
  all_steps_rows actions is = ap joined (map-map (λ (row : Row). row.steps) (row_in graph flags part order actions) is)

-- The number of steps of several pairs: those of the first, and the others.
pub total_cons : (graph flags : List ℕ) (actions i : ℕ) (is : List ℕ)
    → steps_total graph flags actions (i ∷ is) ≡ length (followers graph flags actions i) + steps_total graph flags actions is
unfolding steps_total total
total_cons graph flags actions i is = refl

pub total_nil : (graph flags : List ℕ) (actions : ℕ) → steps_total graph flags actions [] ≡ 0
unfolding steps_total total
total_nil graph flags actions = refl

-- There are at most 16 for each.
pub total_few : (graph flags : List ℕ) (actions : ℕ) (is : List ℕ) → actions ≤ 16 → steps_total graph flags actions is ≤ 16 * length is
total_few graph flags actions [] h = omega (arith, total_nil graph flags actions)
total_few graph flags actions (i ∷ is) h =
    omega (arith, total_cons graph flags actions i is, followers_few graph flags actions i, total_few graph flags actions is h)

-- ---- bytes of steps

-- No steps have no bytes.
pub no_steps : bytes_of_steps [] ≡ []
unfolding bytes_of_steps joined
no_steps = refl

-- One step.
pub one_step : (s : Step) → bytes_of_steps (s ∷ []) ≡ step_bytes s
unfolding bytes_of_steps joined
one_step s = append-nil (step_bytes s)

-- Steps behind others.
pub bytes_append : (ss ts : List Step) → bytes_of_steps (ss ++ ts) ≡ bytes_of_steps ss ++ bytes_of_steps ts
unfolding bytes_of_steps
bytes_append ss ts = ap joined (map-append step_bytes ss ts) ∙ joined_append (map step_bytes ss) (map step_bytes ts)

-- Each takes three bytes.
pub length_bytes : (ss : List Step) → length (bytes_of_steps ss) ≡ 3 * length ss
unfolding bytes_of_steps step_size
length_bytes ss = length_steps_bytes ss

-- ---- the file

-- The file of the rows of several pairs, part by part.
pub file_parts : (layout : FileLayout) (states actions : ℕ) (graph flags part order is : List ℕ)
    → table_file layout states actions (map (row_in graph flags part order actions) is)
    ≡ header_bytes layout (length is) (steps_total graph flags actions is) states actions
    ++ (row_bytes layout 0 (map (row_in graph flags part order actions) is) ++ bytes_of_steps (packed graph flags part order actions is))
unfolding table_file bytes_of_steps
file_parts layout states actions graph flags part order is =
    rw (
      all_steps_rows graph flags part order actions is,
      length-map is (row_in graph flags part order actions),
      length_packed graph flags part order actions is,
    )

-- Its length.
pub file_long : (layout : FileLayout) (states actions : ℕ) (graph flags part order is : List ℕ)
    → length (table_file layout states actions (map (row_in graph flags part order actions) is))
    ≡ steps_at layout (length is) + 3 * steps_total graph flags actions is
unfolding step_size
file_long layout states actions graph flags part order is =
    let table = map (row_in graph flags part order actions) is in
    let rows = length-map is (row_in graph flags part order actions) in
    let ss = ap length (all_steps_rows graph flags part order actions is) ∙ length_packed graph flags part order actions is in
    length_table_file layout states actions table ∙ ap₂ (λ (n : ℕ) (m : ℕ). steps_at layout n + 3 * m) rows ss
