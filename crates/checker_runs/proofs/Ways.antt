-- A law for each way through the code: from what is known there, what is found is what the definitions say.
use Prim.Native.Nat.{ℕ, zero, suc, ◌+◌, ◌≤◌, ◌<◌}
use native.Mathlib.Omega.{arith}
use native.Mathlib.Decide.{dec_lt}
use mathlib.Core.Path.{◌≡◌, refl, sym, ◌∙◌, ap, subst}
use mathlib.Core.Bool.{Bool, true, false}
use mathlib.Core.List.{List, [], ◌∷◌}
use mathlib.Core.Logic.{inl, inr}
use lib.ListN.{length}
use lib.Dec.{eqb}
use borrow.Author.Tests.{ne_eqb}
use Rattle.base.specs.Lists.{below}
use Rattle.base.specs.Bytes.{number_at}
use Rattle.base.specs.Answers.{Answer, ◌if◌else◌, ◌then◌}
use Rattle.std.specs.Prelude.{Err, Ok}
use Rattle.base.specs.Answers.{BookAnswer}
use Rattle.std.specs.Prelude.{Option, Some, None}
use Rattle.base.specs.declared.Reason.{Reason}
use Rattle.base.specs.declared.Reason.TheVariants as Why
use Rattle.base.specs.declared.Refusal.{Refusal}
use Rattle.base.specs.declared.Refusal.TheVariants.{Pairs, Alternatives}
use Rattle.base.proofs.Lists.{never_both}
use Rattle.logic.specs.Tower.{Tower, FitTower, tower_of}
use Rattle.logic.specs.Book.{Book}
use Rattle.logic.specs.Tables.{Table, rows_tower}
use Rattle.first_runs.specs.Numbered.{NoLater}
use Rattle.reading.specs.TowerReading.{read_tower}
use Rattle.reading.specs.BookReading.{read_book}
use Rattle.reading.specs.TableReading.{read_table, table_of}
use Rattle.reading.proofs.FitInput.{laid_out_read}
use Rattle.outcome.specs.ReadBook.{book_answer}
use Rattle.outcome.specs.Check.{Finding, good_table, not_good, ◌found_if◌else◌, judge_row, judge_rows, rows_judged, over_items, judge, verdict, checked_file}
use Rattle.file_tower.specs.TowerRead.{tower_read}
use Rattle.base.specs.Answers.{Verdict}
use Rattle.base.specs.declared.Rejection.{Rejection}
use Rattle.base.specs.declared.Rejection.TheVariants as Rejected
use Rattle.checker_runs.specs.Examining.{Examined, broken_step}
use Rattle.file_tower.proofs.Laws.{fit_reads, refused_of}
use Rattle.book_progression.specs.NodeBytes.{IsHeld}
use Rattle.book_reader.specs.Lines.{Answers}
use Rattle.book_reader.proofs.BookHeld.{BookHeld}
use Rattle.pair_graph.specs.Steps.{cell, move_of, move_at, HoldsGraph}
use Rattle.pair_trial.specs.Walked.{walked, TowerWithBook, Walkable}
use Rattle.pair_trial.proofs.Walking.{rows_walkable, walked_actions}
use Rattle.pair_search.specs.Explored.{Explored, HoldsPairs}
use Rattle.pair_search.proofs.Ended.{SearchRefuses, too_many, too_wide, FoundSays, ended_says}
use Rattle.checker_rows.specs.RowVerdict.{RowsJudgeable}
use Rattle.checker_files.specs.Testing.{TableTested}
use Rattle.checker_files.proofs.Laws.{table_refused, table_not_good, table_sound}
use Rattle.checker_runs.specs.Breaks.{NoneBefore, is_broken, broken_at, NoBreak, FirstAction}
use Rattle.checker_runs.specs.Examining.{verdict_of, FoundBy, Searched, FoundExamined, turned_down, first_broken, none_broken, runs_answer, checked_table, TableExamined, Examines}
use Rattle.checker_runs.proofs.Breaks.{some_breaks, none_breaks}

-- ---- broken_at

broken_number : (k : ℕ) → eqb k 1 ≡ is_broken (move_of k)
unfolding is_broken move_of
broken_number zero = ne_eqb 0 1 (λ e. omega arith)
broken_number (suc zero) = refl
broken_number (suc (suc k)) = ne_eqb (suc (suc k)) 1 (λ e. omega arith)

pub broken_read : (graph : List ℕ) (i a m : ℕ) → m ≡ number_at 2 graph (cell i a) → eqb m 1 ≡ broken_at graph i a
unfolding broken_at move_at
broken_read graph i a m e = broken_number m ∙ ap (λ k. is_broken (move_of k)) e

-- ---- first_broken_action

-- What holds of the numbers below k and of k holds of those below k + 1.
up_to : (P : ℕ → Type 0) (k : ℕ) → ((j : ℕ) → j < k → P j) → P k → (j : ℕ) → j < k + 1 → P j
up_to P k each last j l = elim (dec_lt j k) [ yes low ↦ each j low | no high ↦ (let same : k ≡ j = omega arith in subst P same last) ]

-- Of no actions none is broken.
pub no_actions : (graph : List ℕ) (i : ℕ) → NoneBefore 0 graph i
no_actions graph i = record { before = λ b l. absurd (omega arith) }

module _ (graph : List ℕ) (i k : ℕ) (so_far : NoneBefore k graph i) (b : Bool) (is_b : b ≡ broken_at graph i k) where
  -- None of the first k is broken, nor is the next one.
  pub action_more : b ≡ false → NoneBefore (k + 1) graph i
  action_more e = record { before = up_to (λ c. broken_at graph i c ≡ false) k so_far.before (sym is_b ∙ e) }

  -- The next one is.
  pub action_broken : (actions : ℕ) → k < actions → b ≡ true → FirstAction (Some k) graph actions i
  action_broken actions l e =
      record {
        no_action = λ never. let z : ◌≡◌ {A = ℕ} 0 1 = cc in absurd (omega arith);
        few = λ a f. let same : k ≡ a = cc in omega arith;
        broken = λ a f. let same : k ≡ a = cc in subst (λ z. broken_at graph i z ≡ true) same (sym is_b ∙ e);
        lowest = λ a f. let same : k ≡ a = cc in subst (λ z. NoneBefore z graph i) same so_far;
      }

-- They are all.
pub actions_end : (graph : List ℕ) (i k actions : ℕ) → NoneBefore k graph i → k ≤ actions → actions ≤ k → FirstAction None graph actions i
actions_end graph i k actions so_far l m =
    record {
      no_action = λ _. (let same : k ≡ actions = omega arith in subst (λ z. NoneBefore z graph i) same so_far);
      few = λ a f. let z : ◌≡◌ {A = ℕ} 0 1 = cc in absurd (omega arith);
      broken = λ a f. let z : ◌≡◌ {A = ℕ} 0 1 = cc in absurd (omega arith);
      lowest = λ a f. let z : ◌≡◌ {A = ℕ} 0 1 = cc in absurd (omega arith);
    }

-- ---- examine_steps

-- The graph has room for so many actions.
pub steps_actions : (graph : List ℕ) (n all actions : ℕ) → HoldsGraph n all graph → actions ≡ all → actions ≤ 16
steps_actions graph n all actions holds e = omega (arith, holds.actions_most)

-- Of no pairs none breaks.
pub no_pairs : (graph : List ℕ) (actions : ℕ) → NoBreak graph 0 actions
no_pairs graph actions = record { whole = λ k b l m. absurd (omega arith) }

module _ (graph : List ℕ) (k all actions : ℕ) (r : Option ℕ) (so_far : NoBreak graph k all) (of : FirstAction r graph actions k) (e : actions ≡ all) where
  -- None of the first k breaks, nor does the next one.
  pub pair_more : r ≡ None → NoBreak graph (k + 1) all
  pair_more no_action =
      record {
        whole = λ j b l m.
            up_to (λ z. broken_at graph z b ≡ false) k (λ z low. so_far.whole z b low m) ((of.no_action no_action).before b (omega arith)) j l;
      }

  -- The next one does.
  pub pair_breaks : (n a : ℕ) → k < n → r ≡ Some a → FoundExamined graph all (Ok n) (broken_step n k a)
  unfolding NoLater
  pair_breaks n a low l =
      first_broken n k a
      (record { pair = low; action = omega (arith, of.few a l); broken = of.broken a l; first = λ j b _ m hit. by j b m hit (dec_lt j k) (dec_lt k j) (dec_lt b a) })
    where
      by : (j b : ℕ) → b < all → broken_at graph j b ≡ true → Dec (j < k) → Dec (k < j) → Dec (b < a) → NoLater k a j b
      by j b m hit (yes before) _ _ = never_both hit (so_far.whole j b before m)
      by j b m hit (no _) (yes later) _ = inl later
      by j b m hit (no after) (no here) (no late) = inr (omega arith, omega arith)
      by j b m hit (no after) (no here) (yes early) =
          let same : j ≡ k = omega arith in
          never_both (subst (λ z. broken_at graph z b ≡ true) same hit) ((of.lowest a l).before b early)

-- They are all.
pub pairs_end : (graph : List ℕ) (k all n : ℕ) → NoBreak graph k all → k ≤ n → n ≤ k → FoundExamined graph all (Ok n) (Ok None)
pairs_end graph k all n so_far l m =
    let same : k ≡ n = omega arith in
    none_broken n (subst (λ z. NoBreak graph z all) same so_far)

-- ---- examine_found

-- The graph of the pairs that were met.
pub graph_there : (found : Answer ℕ) (actions n : ℕ) (graph : List ℕ) → Searched found actions graph → found ≡ Ok n → HoldsGraph n actions graph
graph_there found actions n graph searched e = searched.pairs_held n e

module _ (graph : List ℕ) (actions : ℕ) (found : Answer ℕ) where
  -- 11, or 20.
  pub ended_refused : (why : Refusal) (r : Examined) → found ≡ Err why → r ≡ Err (Rejected.Refused why) → FoundExamined graph actions found r
  ended_refused why r e f = rw (e, f) (turned_down why)

  -- 14 e, or good.
  pub ended_met : (n : ℕ) (r : Examined) → FoundExamined graph actions (Ok n) r → found ≡ Ok n → FoundExamined graph actions found r
  ended_met n r of e = subst (λ z. FoundExamined graph actions z r) (sym e) of

-- ---- examine_table

-- The rows of the table can be searched.
pub runs_walkable : (tower table nodes : List ℕ) (t : Verdict) → TowerWithBook tower nodes → TableTested t tower table → t ≡ Ok tt
    → Walkable tower table true nodes
runs_walkable tower table nodes t world told e =
    let ok = told.judged e in
    rows_walkable tower table nodes world ok.layout ok.states

-- The search leaves a graph with the tower's actions.
pub runs_searched : (tower table nodes graph : List ℕ) (found : Answer ℕ) → Explored found (walked tower table true) nodes graph
    → Searched found (tower_of tower).actions graph
runs_searched tower table nodes graph found explored =
    record { pairs_held = λ n is. subst (λ m. HoldsGraph n m graph) (walked_actions tower table true) (explored.pairs_held n is).holds }

module _ (tower table nodes graph : List ℕ) where
  -- the table as a tower
  abbrev rows : Tower
  rows = rows_tower (tower_of tower) (table_of table)

  said : (found : Answer ℕ) → Explored found (walked tower table true) nodes graph → (h : IsHeld nodes) → FoundSays rows h.book found
  unfolding walked
  said found explored h = ended_says (walked tower table true) nodes graph found found explored refl h

  rows_held : (n : ℕ) → Explored (Ok n) (walked tower table true) nodes graph → HoldsPairs rows nodes graph n
  unfolding walked
  rows_held n explored = explored.pairs_held n refl

  -- What is found of the runs is what is asked of them,
  runs_say : (found : Answer ℕ) (r : Examined) → FoundExamined graph (tower_of tower).actions found r
      → Explored found (walked tower table true) nodes graph → (h : IsHeld nodes)
      → verdict_of r ≡ verdict (runs_answer (tower_of tower) h.book (table_of table))
  unfolding runs_answer over_items verdict ◌if◌else◌ ◌found_if◌else◌ rows_tower
  runs_say _ _ (turned_down r) explored h = refused_so r (said (Err r) explored h)
    where
      refused_so : (r : Refusal) → SearchRefuses rows h.book r
          → ◌≡◌ {A = Verdict} (Err (Rejected.Refused r)) (verdict (runs_answer (tower_of tower) h.book (table_of table)))
      refused_so _ (too_many many) = sym (rw many)
      refused_so _ (too_wide few wide) = sym (rw (few, wide))
  runs_say _ _ (first_broken n i a first) explored h =
      let few = said (Ok n) explored h in
      let broke = some_breaks rows h.book n graph ((rows_held n explored).pairs_graph h) i a first.pair first.action first.broken in
      sym (rw (few.0, few.1, broke))
  runs_say _ _ (none_broken n none) explored h =
      let few = said (Ok n) explored h in
      let whole = none_breaks rows h.book n graph ((rows_held n explored).pairs_graph h) none in
      sym (rw (few.0, few.1, whole))

  -- and so is a broken step.
  runs_found : (found : Answer ℕ) (r : Examined) → FoundExamined graph (tower_of tower).actions found r
      → Explored found (walked tower table true) nodes graph → RowsJudgeable tower table → (text : List ℕ) (h : IsHeld nodes)
      → read_book (tower_of tower).marks text ≡ Ok h.book → FoundBy tower text table nodes graph r
  runs_found _ _ (turned_down r) explored ok text h read = tt
  runs_found _ _ (first_broken n i a first) explored ok text h read =
      record {
        fit = ok.fit;
        layout = laid_out_read (tower_of tower) table ok.layout ok.states ok.actions;
        held = h;
        read = read;
        graph_held = rows_held n explored;
        first = first;
      }
  runs_found _ _ (none_broken n none) explored ok text h read = tt

-- What is asked of a table: 13, its rows, and behind them its runs.
checked_is : (tower : Tower) (book : Book) (table : List ℕ)
    → checked_table tower book table ≡ (read_table tower table then λ rows. rows_judged tower rows (runs_answer tower book rows))
unfolding checked_table judge runs_answer
checked_is tower book table = refl

-- A chain of other reasons does not end with e, if what is behind it does not,
not_e_on : (q : Reason) (b : Bool) (o : Answer Finding) → (q ≡ Why.Broken → ⊥) → (o ≡ Ok (not_good Why.Broken) → ⊥)
    → (q found_if b else o) ≡ Ok (not_good Why.Broken) → ⊥
unfolding ◌found_if◌else◌
not_e_on q true o other behind e = let same : q ≡ Why.Broken = cc in other same
not_e_on q false o other behind e = behind e

-- so e is found of no rows,
rows_not_e : (tower : Tower) (table : Table) (rs : List ℕ) → judge_rows tower table rs (Ok good_table) ≡ Ok (not_good Why.Broken) → ⊥
unfolding judge_rows judge_row
rows_not_e tower table [] e = let z : ◌≡◌ {A = ℕ} 0 1 = cc in omega arith
rows_not_e tower table (r ∷ rs) e =
    not_e_on (Why.Withheld r) _ _ (λ f. let z : ◌≡◌ {A = ℕ} 0 1 = cc in omega arith)
    (not_e_on (Why.WrongStep r) _ _ (λ f. let z : ◌≡◌ {A = ℕ} 0 1 = cc in omega arith)
    (not_e_on (Why.Stopped r) _ _ (λ f. let z : ◌≡◌ {A = ℕ} 0 1 = cc in omega arith) (rows_not_e tower table rs))) e

-- and of no table whose runs are not asked for.
table_not_e : (tower : Tower) (o : Answer Table) → (o then λ rows. rows_judged tower rows (Ok good_table)) ≡ Ok (not_good Why.Broken) → ⊥
unfolding ◌then◌
table_not_e tower (Err r) e = let z : ◌≡◌ {A = ℕ} 0 1 = cc in omega arith
table_not_e tower (Ok rows) e =
    not_e_on Why.Start _ _ (λ f. let z : ◌≡◌ {A = ℕ} 0 1 = cc in omega arith) (rows_not_e tower rows (below (length rows))) e

module _ (tower table nodes graph : List ℕ) (t : Verdict) (told : TableTested t tower table) where
  -- 13.
  table_refuses : (why : Refusal) → t ≡ Err (Rejected.Refused why) → TableExamined (Err (Rejected.Refused why)) tower table nodes graph
  unfolding verdict
  table_refuses why e =
      record {
        says = λ h. sym (ap verdict (checked_is (tower_of tower) h.book table ∙ table_refused tower table t told (runs_answer (tower_of tower) h.book) why e));
        found = λ text h read. tt;
      }

  -- 14 a to d.
  rows_wrong : (reason : Reason) → t ≡ Err (Rejected.NotGood reason) → TableExamined (Err (Rejected.NotGood reason)) tower table nodes graph
  unfolding verdict
  rows_wrong reason e =
      record {
        says = λ h. sym (ap verdict (checked_is (tower_of tower) h.book table ∙ table_not_good tower table t told (runs_answer (tower_of tower) h.book) reason e));
        found = λ text h read same.
            table_not_e (tower_of tower) (read_table (tower_of tower) table)
            (table_not_good tower table t told (λ rows. Ok good_table) reason e ∙ ap (λ q. Ok (not_good q)) same);
      }

  -- The answer stays, whatever the rejection is.
  pub table_rejects : (why : Rejection) (r : Examined) → t ≡ Err why → r ≡ Err why → TableExamined r tower table nodes graph
  table_rejects (Rejected.NotGood reason) r e f = rw f (rows_wrong reason e)
  table_rejects (Rejected.Refused why) r e f = rw f (table_refuses why e)

  -- The runs decide.
  pub runs_decide : (found : Answer ℕ) (r : Examined) → Explored found (walked tower table true) nodes graph
      → FoundExamined graph (tower_of tower).actions found r → t ≡ Ok tt → TableExamined r tower table nodes graph
  runs_decide found r explored of e =
      record {
        says = λ h.
            runs_say tower table nodes graph found r of explored h
            ∙ sym (ap verdict (checked_is (tower_of tower) h.book table ∙ table_sound tower table t told (runs_answer (tower_of tower) h.book) e));
        found = runs_found tower table nodes graph found r of explored (told.judged e);
      }

-- ---- examine

-- A refusal of the files is the answer.
refused_so : (tower text table nodes graph : List ℕ) (why : Refusal) → checked_file tower text table ≡ Err why
    → Examines (Err (Rejected.Refused why)) tower text table nodes graph
unfolding verdict
refused_so tower text table nodes graph why e =
    record {
      says = sym (ap verdict e);
      earlier = λ reason f. absurd (let z : ◌≡◌ {A = ℕ} 0 1 = cc in omega arith);
      found = λ n i a f. absurd (let z : ◌≡◌ {A = ℕ} 0 1 = cc in omega arith);
    }

-- Where the tower is fit, the book comes next.
book_next : (tower text table : List ℕ) → FitTower tower
    → checked_file tower text table ≡ (read_book (tower_of tower).marks text then λ book. checked_table (tower_of tower) book table)
unfolding checked_file checked_table ◌then◌
book_next tower text table fit = let read = fit_reads fit in rw read

-- Refused with the tower's refusal.
pub tower_refused : (tower text table nodes graph : List ℕ) (t : Answer (Unit {0})) (why : Refusal) (r : Examined)
    → t ≡ tower_read (read_tower tower) → t ≡ Err why → r ≡ Err (Rejected.Refused why) → Examines r tower text table nodes graph
unfolding checked_file ◌then◌
tower_refused tower text table nodes graph t why r is_t e f =
    rw f (refused_so tower text table nodes graph why (rw (refused_of tower t why is_t e)))

module _ (tower text table nodes graph : List ℕ) (marks : ℕ) (fit : FitTower tower) (at_marks : marks ≡ (tower_of tower).marks) where
  -- Refused with the book's refusal.
  pub book_refused : (a : BookAnswer) (why : Refusal) (r : Examined) → Answers a marks text nodes → a ≡ Err why
      → r ≡ Err (Rejected.Refused why) → Examines r tower text table nodes graph
  unfolding ◌then◌ book_answer
  book_refused a why r answers e f =
      rw f (refused_so tower text table nodes graph why (book_next tower text table fit ∙ go (read_book (tower_of tower).marks text) refl))
    where
      told : Err why ≡ book_answer (read_book (tower_of tower).marks text)
      told = sym e ∙ answers.answer ∙ ap (λ z. book_answer (read_book z text)) at_marks

      go : (o : Answer Book) → read_book (tower_of tower).marks text ≡ o → (o then λ book. checked_table (tower_of tower) book table) ≡ Err why
      go (Err q) p = let same : q ≡ why = cc (told, ap book_answer p) in ap Err same
      go (Ok book) p = cc (told, ap book_answer p)

  -- The book is read into the area: the table decides.
  pub book_good : (r : Examined) → TableExamined r tower table nodes graph → BookHeld marks text nodes → Examines r tower text table nodes graph
  unfolding ◌then◌
  book_good r of here =
      let read : read_book (tower_of tower).marks text ≡ Ok here.held.book = ap (λ z. read_book z text) (sym at_marks) ∙ here.read in
      let known = of.found text here.held read in
      record {
        says = of.says here.held ∙ ap verdict (sym (book_next tower text table fit ∙ rw read));
        earlier = λ reason e. subst (FoundBy tower text table nodes graph) e known;
        found = λ n i a e. subst (FoundBy tower text table nodes graph) e known;
      }
