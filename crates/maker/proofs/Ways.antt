-- A law for each way through the maker's code: from what is known there, answer and output are what the definitions say.
use Prim.Native.Nat.{ℕ}
use native.Mathlib.Omega.{arith}
use mathlib.Core.Path.{◌≡◌, refl, sym, ◌∙◌, ap}
use mathlib.Core.Bool.{Bool, true, false}
use mathlib.Core.List.{List, [], ◌∷◌}
use lib.ListN.{length}
use Rattle.base.specs.Bytes.{long_enough, cleared}
use Rattle.base.specs.Answers.{make_said, Answer, ◌if◌else◌, ◌then◌}
use Rattle.std.specs.Prelude.{Err, Ok}
use Rattle.base.specs.declared.Refusal.{Refusal}
use Rattle.base.specs.declared.Refusal.TheVariants.{Pairs, Area, Alternatives}
use Rattle.base.specs.Answers.{BookAnswer, MakeAnswer}
use Rattle.logic.specs.Tower.{FitTower, tower_of}
use Rattle.logic.specs.Book.{Book}
use Rattle.reading.specs.TowerReading.{read_tower}
use Rattle.reading.specs.BookReading.{read_book}
use Rattle.alternatives.specs.Pairs.{over_pairs, over_alternatives}
use Rattle.outcome.specs.Areas.{make_areas}
use Rattle.outcome.specs.ReadBook.{book_answer}
use Rattle.outcome.specs.Make.{table_for, made_file, fitting, written, make_outcome}
use Rattle.file_tower.specs.TowerRead.{tower_read}
use Rattle.file_tower.proofs.Laws.{fit_reads, refused_of}
use Rattle.book_reader.specs.Lines.{Answers}
use Rattle.book_reader.proofs.BookHeld.{BookHeld}
use Rattle.book_progression.specs.NodeBytes.{IsHeld}
use Rattle.pair_search.specs.Explored.{HoldsPairs, Explored}
use Rattle.pair_trial.specs.Walked.{walked, TowerWithBook}
use Rattle.pair_search.proofs.Ended.{SearchRefuses, too_many, too_wide, FoundSays, ended_says}
use Rattle.maker_areas.specs.Lent.{Room, AllCleared}
use Rattle.maker_rows.specs.Rows.{made_table_file, ending, Ends, PairsMet, RowsMade}
use Rattle.maker_rows.proofs.Laws.{refused_ends, ends_along}
use Rattle.maker.specs.Making.{TableMade, Makes}

-- ---- how the search ends

refused_many : (tower : List ℕ) (book : Book) → over_pairs (tower_of tower) book ≡ true → made_table_file tower book ≡ Err Pairs
unfolding made_table_file table_for ◌if◌else◌ ◌then◌
refused_many tower book many = rw many

refused_wide : (tower : List ℕ) (book : Book) → (over_pairs (tower_of tower) book ≡ false) × (over_alternatives (tower_of tower) book ≡ true)
    → made_table_file tower book ≡ Err Alternatives
unfolding made_table_file table_for ◌if◌else◌ ◌then◌
refused_wide tower book (few, wide) = rw (few, wide)

-- ---- make_table

module _ (tower table nodes graph : List ℕ) (r : Answer ℕ)
    (explored : Explored r (walked tower table false) nodes graph) where
  said_of : (s : Answer ℕ) → r ≡ s → (h : IsHeld nodes) → FoundSays (tower_of tower) h.book s
  unfolding walked
  said_of s e h = ended_says (walked tower table false) nodes graph r s explored e h

  -- 11, or 20.
  pub search_refused : (out : List ℕ) (why : Refusal) (a : MakeAnswer) → r ≡ Err why → a ≡ Err why → TableMade a tower nodes out out
  search_refused out why a e f =
      rw f (record { says = λ h. refused_ends (made_table_file tower h.book) why out (refused_so h.book why (said_of (Err why) e h)) })
    where
      refused_so : (book : Book) (why : Refusal) → SearchRefuses (tower_of tower) book why → made_table_file tower book ≡ Err why
      refused_so book _ (too_many many) = refused_many tower book many
      refused_so book _ (too_wide few wide) = refused_wide tower book (few, wide)

  module _ (n : ℕ) (is : r ≡ Ok n) where
    pairs_held : HoldsPairs (tower_of tower) nodes graph n
    unfolding walked
    pairs_held = explored.pairs_held n is

    -- The area holds the pairs.
    pub pairs_met : (nodes₁ pairs₁ index₁ graph₁ sets₁ room₁ flags classes marks : List ℕ) → TowerWithBook tower nodes
        → Room nodes₁ pairs₁ index₁ graph₁ sets₁ room₁ flags classes → length marks ≡ length room₁ → PairsMet tower graph flags classes marks n
    pairs_met nodes₁ pairs₁ index₁ graph₁ sets₁ room₁ flags classes marks world room same =
        record {
          fit = world.fit;
          least = pairs_held.least;
          holds = pairs_held.holds;
          flags_room = room.flags_room;
          classes_room = room.classes_room;
          marks_room = omega (arith, same, room.lent.room_room);
        }

    -- The rows decide.
    pub few_enough : (out after : List ℕ) (a : MakeAnswer) → RowsMade a tower graph n out after
        → TableMade a tower nodes out after
    few_enough out after a rows = record { says = λ h. by h (said_of (Ok n) is h) }
      where
        by : (h : IsHeld nodes) → (over_pairs (tower_of tower) h.book ≡ false) × (over_alternatives (tower_of tower) h.book ≡ false)
            → Ends (made_table_file tower h.book) out a after
        by h (few, narrow) = rows.says h.book few narrow (pairs_held.pairs_graph h)

-- ---- make_files

-- Refused with the tower's refusal.
pub tower_refused : (tower text out : List ℕ) (t : Answer (Unit {0})) (why : Refusal) (r : MakeAnswer) → t ≡ tower_read (read_tower tower)
    → t ≡ Err why → r ≡ Err why → Ends (made_file tower text) out r out
tower_refused tower text out t why r is_t e f =
    rw f (refused_ends (made_file tower text) why out (unfold made_file ◌then◌ in (rw (refused_of tower t why is_t e))))

module _ (tower text nodes out : List ℕ) (marks : ℕ) (fit : FitTower tower) (at_marks : marks ≡ (tower_of tower).marks) where
  -- Where the tower is fit, the book comes next.
  book_next : made_file tower text ≡ (read_book (tower_of tower).marks text then λ book. made_table_file tower book)
  unfolding made_file made_table_file ◌then◌
  book_next = let read = fit_reads fit in rw read

  -- Refused with the book's refusal.
  pub book_refused : (a : BookAnswer) (why : Refusal) (r : MakeAnswer) → Answers a marks text nodes → a ≡ Err why → r ≡ Err why
      → Ends (made_file tower text) out r out
  book_refused a why r answers e f =
      rw f (refused_ends (made_file tower text) why out (book_next ∙ go (read_book (tower_of tower).marks text) told))
    where
      told : Err why ≡ book_answer (read_book (tower_of tower).marks text)
      told = sym e ∙ answers.answer ∙ ap (λ z. book_answer (read_book z text)) at_marks

      go : (o : Answer Book) → Err why ≡ book_answer o → (o then λ book. made_table_file tower book) ≡ Err why
      go (Err q) f = unfold ◌then◌ in (let same : why ≡ q = unfold book_answer in cc in ap Err (sym same))
      go (Ok book) f = absurd (unfold book_answer in let z : ◌≡◌ {A = ℕ} 0 1 = cc in omega arith)

  -- Where a book is read into the area, the table decides.
  pub book_good : (r : MakeAnswer) (after : List ℕ) → TableMade r tower nodes out after → BookHeld marks text nodes
      → Ends (made_file tower text) out r after
  unfolding ◌then◌
  book_good r after made here =
      let book = here.held.book in
      let read : read_book (tower_of tower).marks text ≡ Ok book = ap (λ z. read_book z text) (sym at_marks) ∙ here.read in
      ends_along (made_table_file tower book) (made_file tower text) out r after (book_next ∙ rw read) (made.says here.held)

-- ---- make

-- Two calls, one after the other, leave an area as long as it was.
pub kept_on : (first next last : List ℕ) → length last ≡ length next → length next ≡ length first → length last ≡ length first
kept_on first next last e f = e ∙ f

-- the areas do not change what is answered and written
written_answer : (o : Answer (List ℕ)) (out : List ℕ) (areas : List (List ℕ)) → (written o out []).answer ≡ (written o out areas).answer
unfolding written
written_answer (Err r) out areas = refl
written_answer (Ok file) out areas = refl

written_output : (o : Answer (List ℕ)) (out : List ℕ) (areas : List (List ℕ)) → (written o out []).output ≡ (written o out areas).output
unfolding written
written_output (Err r) out areas = refl
written_output (Ok file) out areas = refl

written_areas : (o : Answer (List ℕ)) (out : List ℕ) (areas : List (List ℕ)) → areas ≡ (written o out areas).areas
unfolding written
written_areas (Err r) out areas = refl
written_areas (Ok file) out areas = refl

module _ (nodes pairs index graph sets room flags classes : List ℕ) (b : Bool)
    (is_b : b ≡ long_enough make_areas (nodes ∷ pairs ∷ index ∷ graph ∷ sets ∷ room ∷ flags ∷ classes ∷ [])) where
  abbrev areas : List (List ℕ)
  areas = nodes ∷ pairs ∷ index ∷ graph ∷ sets ∷ room ∷ flags ∷ classes ∷ []

  long : long_enough make_areas areas ≡ b
  long = sym is_b

  module _ (tower text out : List ℕ) where
    -- 15 changes nothing.
    pub too_short : b ≡ false
        → Makes (Err Area) tower text out nodes pairs index graph sets room flags classes out nodes pairs index graph sets room flags classes
    unfolding make_outcome written
    too_short e =
        let short = long ∙ e in
        record { answer = rw short; said = rw short; output = rw short; areas = rw short }

    -- Every other answer leaves zeros.
    pub made_all : (r : MakeAnswer) (after n p i g s m f c n₁ p₁ i₁ g₁ s₁ m₁ f₁ c₁ : List ℕ) → b ≡ true → Ends (made_file tower text) out r after
        → AllCleared n₁ p₁ i₁ g₁ s₁ m₁ f₁ c₁ n p i g s m f c
        → length n₁ ≡ length nodes → length p₁ ≡ length pairs → length i₁ ≡ length index → length g₁ ≡ length graph
        → length s₁ ≡ length sets → length m₁ ≡ length room → length f₁ ≡ length flags → length c₁ ≡ length classes
        → Makes r tower text out nodes pairs index graph sets room flags classes after n p i g s m f c
    unfolding make_outcome ending cleared
    made_all r after n p i g s m f c n₁ p₁ i₁ g₁ s₁ m₁ f₁ c₁ e ends zero en ep ei eg es em ef ec =
        let enough = long ∙ e in
        let o = made_file tower text then λ file. fitting (length out) file in
        record {
          answer = rw enough (ends.answer ∙ written_answer o out (cleared areas));
          said = rw enough (ap make_said (ends.answer ∙ written_answer o out (cleared areas)));
          output = rw enough (ends.output ∙ written_output o out (cleared areas));
          areas =
              rw enough
              (rw (
                zero.lent.nodes_zero,
                zero.lent.pairs_zero,
                zero.lent.index_zero,
                zero.lent.graph_zero,
                zero.lent.sets_zero,
                zero.lent.room_zero,
                zero.flags_zero,
                zero.classes_zero,
                en,
                ep,
                ei,
                eg,
                es,
                em,
                ef,
                ec,
              )
              (written_areas o out (cleared areas)));
        }
