-- What removal leaves of the pairs of a tower and a book: the made table, or that there is none.
use Prim.Native.Nat.{ℕ, ◌≤◌, ◌<◌}
use native.Mathlib.Omega.{arith}
use mathlib.Core.Path.{◌≡◌, sym, ◌∙◌, ap}
use mathlib.Core.Bool.{true, false}
use mathlib.Core.List.{List}
use lib.ListN.{get_or}
use Rattle.base.specs.Answers.{◌if◌else◌, ◌then◌}
use Rattle.std.specs.Prelude.{Err, Ok}
use Rattle.base.specs.declared.Refusal.TheVariants.{NoTable}
use Rattle.base.proofs.Search.{search_first}
use Rattle.logic.specs.Tower.{Tower, tower_of, layout_of}
use Rattle.logic.specs.Book.{Book}
use Rattle.logic.specs.Tables.{Table}
use Rattle.logic.specs.TableFile.{table_file}
use Rattle.alternatives.specs.Pairs.{same_pair, first_pair, pair_followers, pairs, over_pairs, over_alternatives, pair_weight, most_pairs}
use Rattle.outcome.specs.Game.{safe}
use Rattle.outcome.specs.Make.{table_for}
use Rattle.outcome.proofs.Game.{met_step, safe_fine}
use Rattle.file_tower.proofs.Laws.{tower_listed}
use Rattle.pair_graph.specs.Graph.{Classes}
use Rattle.pair_graph.specs.Steps.{graph_of, safe_in}
use Rattle.pair_graph.specs.GraphTable.{graph_table}
use Rattle.pair_graph.specs.GraphOf.{numbered, GraphOf}
use Rattle.maker_graph.proofs.Safe.{largest_safe}
use Rattle.maker_graph.proofs.OneRow.{SafeGraph}
use Rattle.maker_graph.proofs.SameTable.{same_table}
use Rattle.maker_removal.specs.Removal.{Removed}
use Rattle.maker_rows.specs.Rows.{made_table_file, graph_in}

-- Number 0 is the first pair.
first_number : (tower : Tower) (book : Book) → numbered tower book 0 ≡ first_pair tower book
unfolding numbered pairs
first_number tower book =
    let (rest, e) = search_first same_pair (pair_followers tower book) pair_weight most_pairs (first_pair tower book) in
    ap (λ l. get_or l 0 (first_pair tower book)) e

module _ (tower graph flags : List ℕ) (n : ℕ) (least : 1 ≤ n) (removed : Removed (tower_of tower) n graph flags)
    (book : Book) (few : over_pairs (tower_of tower) book ≡ false) (narrow : over_alternatives (tower_of tower) book ≡ false)
    (of : GraphOf (tower_of tower) book (graph_in tower graph n)) where
  -- the pairs that are left are the safe ones
  safes : (i : ℕ) → i < n → safe_in flags i ≡ safe (tower_of tower) book (numbered (tower_of tower) book i)
  safes i l =
      largest_safe (tower_of tower) book (graph_in tower graph n) of (tower_listed tower) few (safe_in flags)
      removed.largest i (unfold graph_of in l)

  first_safe : safe_in flags 0 ≡ safe (tower_of tower) book (first_pair (tower_of tower) book)
  first_safe = safes 0 (omega arith) ∙ ap (safe (tower_of tower) book) (first_number (tower_of tower) book)

  -- Where the first pair went, there is no table.
  pub none_made : safe_in flags 0 ≡ false → made_table_file tower book ≡ Err NoTable
  unfolding made_table_file table_for ◌if◌else◌ ◌then◌
  none_made e =
      let unsafe : safe (tower_of tower) book (first_pair (tower_of tower) book) ≡ false = sym first_safe ∙ e in
      rw (few, narrow, unsafe)

  module _ (first : safe_in flags 0 ≡ true) (class : ℕ → ℕ) (classes : Classes (graph_in tower graph n) (safe_in flags) class) where
    is_safe : safe (tower_of tower) book (first_pair (tower_of tower) book) ≡ true
    is_safe = sym first_safe ∙ first

    safe_graph : SafeGraph (tower_of tower) book (graph_in tower graph n) (safe_in flags)
    safe_graph =
        record {
          known =
              record {
                listed = tower_listed tower;
                few = few;
                first_safe = is_safe;
                met_step = met_step (tower_of tower) book (tower_listed tower) few;
                safe_fine = safe_fine (tower_of tower) book (tower_listed tower) few;
              };
          of = of;
          safes = λ i l. safes i (unfold graph_of in l);
        }

    -- Else the table of the safe pairs is the made table.
    pub table_made : made_table_file tower book
        ≡ Ok (table_file (layout_of tower) (tower_of tower).states (tower_of tower).actions (graph_table (graph_in tower graph n) (safe_in flags) class))
    unfolding made_table_file table_for ◌if◌else◌ ◌then◌
    table_made =
        rw (few, narrow, is_safe)
        (ap (λ (table : Table). Ok (table_file (layout_of tower) (tower_of tower).states (tower_of tower).actions table))
        (sym (same_table (tower_of tower) book (graph_in tower graph n) (safe_in flags) safe_graph class classes)))
