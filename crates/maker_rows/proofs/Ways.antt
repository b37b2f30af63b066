-- A law for each way through the code from the met pairs to the table: from what is known there, answer and output are what the definitions say.
use Prim.Native.Nat.{ℕ, ◌*◌, ◌≤◌}
use native.Mathlib.Omega.{arith}
use mathlib.Core.Path.{◌≡◌, refl, sym, ◌∙◌, ap, subst}
use mathlib.Core.Bool.{Bool, true, false}
use mathlib.Core.List.{List}
use lib.ListN.{length}
use lib.Seq.{sets}
use lib.Dec.{ltb}
use Rattle.base.specs.Choice.{pick}
use Rattle.base.specs.Answers.{◌if◌else◌, ◌then◌}
use Rattle.std.specs.Prelude.{ok_or, Ok}
use Rattle.base.specs.declared.Refusal.TheVariants.{NoTable, Output}
use Rattle.base.specs.Answers.{MakeAnswer}
use Rattle.std.specs.Prelude.{Err}
use Rattle.logic.specs.Tower.{tower_of, layout_of}
use Rattle.logic.specs.declared.FileLayout.{FileLayout}
use Rattle.logic.specs.TableFile.{table_file}
use Rattle.logic.proofs.Layouts.{file_layout_fits}
use Rattle.outcome.specs.Make.{fitting, written}
use Rattle.pair_graph.specs.Graph.{Classes}
use Rattle.pair_graph.specs.Steps.{action_room, graph_of, graph_with, safe_in, class_in, HoldsGraph, FlaggedGraph}
use Rattle.pair_graph.specs.Predecessors.{Listed}
use Rattle.pair_graph.specs.GraphTable.{graph_table}
use Rattle.maker_removal.specs.Removal.{removal_size, Removed}
use Rattle.maker_classes.specs.Passes.{ReadyForPass, Classified}
use Rattle.maker_classes.proofs.Laws.{classes_right}
use Rattle.maker_file.specs.Writing.{ShortNumbers, table_in, Writable, WritesTable}
use Rattle.std.specs.Prelude.{Option, Some, None}
use Rattle.maker_file.proofs.AnyKind.{table_of_tower}
use Rattle.maker_rows.specs.Rows.{made_table_file, ending, Ends, graph_in, PairsMet, PairsSafe, SafeWritten, RowsMade}
use Rattle.maker_rows.proofs.Laws.{refused_ends, ends_along}
use Rattle.maker_rows.proofs.SafePairs.{none_made, table_made}

-- ---- how a call ends

-- A file for which there is room is written to the output, and its length is the answer.
made_ends : (file out : List ℕ) {size : ℕ} {after : List ℕ} → ltb (length out) (length file) ≡ false → size ≡ length file
    → after ≡ sets out 0 file → Ends (Ok file) out (Ok size) after
unfolding ending ◌then◌ fitting ◌if◌else◌ written
made_ends file out fits e f = record { answer = rw (fits, e); output = rw (fits, f) }

-- 16.
no_room_ends : (file out : List ℕ) {after : List ℕ} → ltb (length out) (length file) ≡ true → after ≡ out
    → Ends (Ok file) out (Err Output) after
unfolding ending ◌then◌ fitting ◌if◌else◌ written
no_room_ends file out long f = record { answer = rw long; output = rw (long, f) }

-- ---- write_safe

-- A state's number takes one byte or two.
pub short_numbers : (tower : List ℕ) (layout : FileLayout) → layout ≡ layout_of tower → ShortNumbers layout
short_numbers tower layout e =
    rw e (record { least = (file_layout_fits tower).a_byte; most = (file_layout_fits tower).few_bytes })

module _ (tower graph flags classes marks : List ℕ) (n actions : ℕ) (safe : PairsSafe tower graph flags classes marks n)
    (is_actions : actions ≡ (tower_of tower).actions) where
  met : PairsMet tower graph flags classes marks n
  met = safe.met

  flagged : FlaggedGraph n actions graph flags
  flagged =
      record {
        graph = subst (λ m. HoldsGraph n m graph) (sym is_actions) met.holds;
        flagged = omega (arith, met.flags_room, met.holds.pairs_most);
      }

  pub classifiable : ReadyForPass graph flags actions n classes marks
  classifiable =
      record {
        given =
            record {
              held = flagged;
              listed = subst (λ m. Listed n m graph (action_room * n) flags) (sym is_actions) safe.listed;
              lists_room = omega (arith, met.flags_room);
            };
        least = met.least;
        first_safe = safe.first_safe;
        area_room = omega (arith, met.classes_room);
        marks_room = omega (arith, met.marks_room);
      }

  module _ (after : List ℕ) (made : ℕ) (classified : Classified graph flags actions n after made) where
    pub writable : length after ≡ length classes → Writable graph flags after n actions
    writable same =
        record {
          least = met.least;
          held = flagged;
          classes_there = omega (arith, met.classes_room);
          class_numbers = λ i l. omega (arith, classified.most i l, met.holds.pairs_most);
        }

    module _ (states : ℕ) (out out_after : List ℕ) (w : Option ℕ) (is_states : states ≡ (tower_of tower).states)
        (layout : FileLayout) (is_layout : layout ≡ layout_of tower)
        (writes : WritesTable (table_file layout states actions (table_in graph flags after n actions)) out w out_after) where
      abbrev file : List ℕ
      file = table_file (layout_of tower) (tower_of tower).states (tower_of tower).actions (graph_table (graph_in tower graph n) (safe_in flags) (class_in after))

      same_file : table_file layout states actions (table_in graph flags after n actions) ≡ file
      same_file = rw (is_layout, is_states, is_actions) (ap (table_file (layout_of tower) (tower_of tower).states (tower_of tower).actions) (table_of_tower (tower_of tower) graph flags after n))

      right : WritesTable file out w out_after
      right = subst (λ f. WritesTable f out w out_after) same_file writes

      safe_classes : Classes (graph_in tower graph n) (safe_in flags) (class_in after)
      unfolding graph_of
      safe_classes =
          subst (λ m. Classes (graph_with n m (tower_of tower).kind graph) (safe_in flags) (class_in after)) is_actions
          (classes_right graph flags actions n classes marks after made classifiable classified (tower_of tower).kind)

      wrote : (r : MakeAnswer) → Ends (Ok file) out r out_after → SafeWritten r tower graph flags n out out_after
      wrote r ends = record { class = class_in after; classes = safe_classes; ends = ends }

      -- The table is written, or there is no room for it.
      pub safe_written : (r : MakeAnswer) → r ≡ ok_or w Output → SafeWritten r tower graph flags n out out_after
      safe_written r e =
          wrote r (go (ltb (length out) (length file)) refl (e ∙ ap (λ o. ok_or o Output) right.answered) right.left)
        where
          go : (b : Bool) → ltb (length out) (length file) ≡ b → r ≡ ok_or (pick b (λ _. None) (λ _. Some (length file))) Output
              → out_after ≡ pick b (λ _. out) (λ _. sets out 0 file) → Ends (Ok file) out r out_after
          go true p q s = rw q (no_room_ends file out p s)
          go false p q s = rw q (made_ends file out p refl s)

-- ---- make_rows

-- There is room for removal.
pub flags_enough : (tower graph flags classes marks : List ℕ) (n : ℕ) → PairsMet tower graph flags classes marks n → removal_size ≤ length flags
flags_enough tower graph flags classes marks n met = omega (arith, met.flags_room)

-- The first pair is safe, and removal has left the lists.
pub met_safe : (tower graph before flags classes marks : List ℕ) (n : ℕ) (b : Bool) → PairsMet tower graph before classes marks n
    → Removed (tower_of tower) n graph flags → length flags ≡ length before → b ≡ safe_in flags 0 → b ≡ true
    → PairsSafe tower graph flags classes marks n
met_safe tower graph before flags classes marks n b met removed same is_b e =
    record {
      met =
          record {
            fit = met.fit;
            least = met.least;
            holds = met.holds;
            flags_room = omega (arith, met.flags_room);
            classes_room = met.classes_room;
            marks_room = met.marks_room;
          };
      listed = removed.listed;
      first_safe = sym is_b ∙ e;
    }

module _ (tower graph before flags classes marks : List ℕ) (n : ℕ) (b : Bool) (met : PairsMet tower graph before classes marks n)
    (removed : Removed (tower_of tower) n graph flags) (is_b : b ≡ safe_in flags 0) where
  -- 12.
  pub no_table : (out : List ℕ) → b ≡ false → RowsMade (Err NoTable) tower graph n out out
  no_table out e =
      record {
        says =
            λ book few narrow of.
            refused_ends (made_table_file tower book) NoTable out
            (none_made tower graph flags n met.least removed book few narrow of (sym is_b ∙ e));
      }

  -- The safe pairs make the table.
  pub rows_made : (out after : List ℕ) (r : MakeAnswer) → b ≡ true → SafeWritten r tower graph flags n out after
      → RowsMade r tower graph n out after
  rows_made out after r e safe =
      record {
        says =
            λ book few narrow of.
            ends_along _ (made_table_file tower book) out r after
            (table_made tower graph flags n met.least removed book few narrow of (sym is_b ∙ e) safe.class safe.classes) safe.ends;
      }
