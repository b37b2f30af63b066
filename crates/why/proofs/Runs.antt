-- The graph of pairs with its first broken step, and how each pair was first met, give the run that is shown.
use Prim.Native.Nat.{ℕ, ◌+◌, ◌*◌, ◌≤◌, ◌<◌}
use native.Mathlib.Omega.{arith}
use native.Mathlib.Decide.{dec_lt}
use mathlib.Core.Path.{◌≡◌, sym, ◌∙◌, ap, subst}
use mathlib.Core.Logic.{◌⊎◌, inl, inr}
use mathlib.Core.Bool.{true}
use Rattle.std.specs.Prelude.{Some}
use mathlib.Core.List.{List, [], ◌∷◌, ◌++◌}
use lib.ListN.{length}
use Rattle.base.specs.Answers.{◌then◌}
use Rattle.std.specs.Prelude.{Ok}
use Rattle.base.specs.declared.Reason.TheVariants.{Broken}
use Rattle.base.proofs.Lists.{none-some, some_one}
use Rattle.base.proofs.Answers.{then_on}
use Rattle.logic.specs.Tower.{Tower, tower_of, Listed}
use Rattle.logic.specs.Book.{Book}
use Rattle.logic.specs.Tables.{Table, rows_tower}
use Rattle.logic.specs.Why.{AllowedBroken}
use Rattle.reading.specs.TableReading.{table_of}
use Rattle.alternatives.specs.Pairs.{pairs, pair_step}
use Rattle.alternatives.proofs.Steps as Steps
use Rattle.first_runs.specs.Numbered.{NoLater, FirstMetBy, Numbered, WayTo}
use Rattle.first_runs.proofs.Sooner.{soonest_one}
use Rattle.first_runs.proofs.Ways.{break_soonest, way_there}
use Rattle.outcome.specs.Calls.{FitFiles, FitTable}
use Rattle.outcome.specs.Check.{not_good, broken_step, judge, checked_file}
use Rattle.outcome.specs.VerdictRight.{Judgeable}
use Rattle.outcome.proofs.FitCalls.{judgeable}
use Rattle.file_tower.proofs.Laws.{fit_reads}
use Rattle.pair_graph.specs.Graph.{Move, to}
use Rattle.pair_graph.specs.Steps.{move_at, graph_of}
use Rattle.pair_graph.specs.GraphOf.{numbered, SaysStep, says_not_enabled, says_broken, says_to, GraphOf}
use Rattle.why_outcome.specs.Why.{shown_run}
use Rattle.why_outcome.proofs.Numbering.{pair_number, go, numbers_apart, go_to, go_inside, go_from, go_listed, first_met, pairs_numbered, some_pair}
use Rattle.why_outcome.proofs.Breaking.{SizedRight, number_breaks, broken_step_out, turned_listed, turned_few, soonest_allowed}
use Rattle.why_outcome.proofs.Answering.{turned_down, turned, soonest_shown}
use Rattle.checker_runs.specs.Breaks.{broken_at}
use Rattle.checker_runs.proofs.Breaks.{move_breaks}
use Rattle.why_path.specs.Ways.{from_in, action_in, step_in, NotedStep, StepsNoted, MetFromLower}
use Rattle.why.specs.Showing.{ToldBroken}

module _ (tower text table nodes graph : List ℕ) (n i a : ℕ) (down : ToldBroken tower text table nodes graph n i a) where
  -- the tower, the book and the table of the files, and the table as a tower
  abbrev T : Tower
  T = tower_of tower

  abbrev book : Book
  book = down.found.held.book

  abbrev rows : Table
  rows = table_of table

  abbrev R : Tower
  R = rows_tower T rows

  -- ---- what the checker found

  pub fit : FitFiles tower text T book
  fit = record { tower_read = fit_reads down.found.fit; book_read = down.found.read }

  pub laid : FitTable T table rows
  unfolding FitTable
  laid = down.found.layout

  -- The rows' finding is 14 e.
  pub finding : judge T book rows ≡ Ok (not_good Broken)
  unfolding checked_file
  finding =
      sym (then_on (λ t. _) fit.tower_read ∙ then_on (λ b. _) fit.book_read ∙ then_on (λ r. _) down.found.layout) ∙ down.told

  pub known : Judgeable T book rows
  known = judgeable tower text table T book rows fit laid

  is_turned : SizedRight T book rows
  is_turned = turned T book rows known (turned_down T book rows known finding)

  listed : Listed R
  listed = turned_listed T book rows is_turned

  -- ---- the graph is that of the pairs

  of : GraphOf R book (graph_of R n graph)
  of = down.found.graph_held.pairs_graph down.found.held

  count : n ≡ length (pairs R book)
  unfolding graph_of
  count = of.count

  inside : (k : ℕ) → k < n → k < length (pairs R book)
  inside k l = subst (λ m. k < m) count l

  move_is : (k b : ℕ) → k < n → b < T.actions → SaysStep R book k b (move_at graph k b)
  unfolding graph_of rows_tower
  move_is k b l low = of.moves k b l low

  -- A move leads to a pair exactly if the step does.
  says_go : (k b j : ℕ) (m : Move) → k < n → SaysStep R book k b m → m ≡ to j → go R book k b ≡ Some j
  unfolding numbered pair_number
  says_go k b j _ l (says_not_enabled e) f = let z : ◌≡◌ {A = ℕ} 0 1 = cc in absurd (omega arith)
  says_go k b j _ l (says_broken y e g) f = let z : ◌≡◌ {A = ℕ} 0 1 = cc in absurd (omega arith)
  says_go k b j _ l (says_to h low e) f =
      let same : h ≡ j = cc in
      subst (λ x. go R book k b ≡ Some x) same (go_to R book k b h e (inside k l) low)

  pub move_go : (k b j : ℕ) → k < n → b < T.actions → move_at graph k b ≡ to j → go R book k b ≡ Some j
  move_go k b j l low e = says_go k b j (move_at graph k b) l (move_is k b l low) e

  go_says : (k b j : ℕ) (m : Move) → SaysStep R book k b m → j < length (pairs R book)
      → pair_step R book (pair_number R book k) b ≡ Some (pair_number R book j) → m ≡ to j
  unfolding numbered pair_number rows_tower
  go_says k b j _ (says_not_enabled e) l f = absurd (none-some e (Steps.pair_step_out R book (pair_number R book k) (pair_number R book j) b f).0)
  go_says k b j _ (says_broken y e g) l f = absurd (none-some g f)
  go_says k b j _ (says_to h low e) l f = ap to (numbers_apart R book h j low l (some_one e f))

  pub go_move : (k b j : ℕ) → go R book k b ≡ Some j → move_at graph k b ≡ to j
  go_move k b j e =
      let (low, high, step) = go_from R book listed (turned_few T book rows is_turned) k b j e in
      go_says k b j (move_at graph k b) (move_is k b (subst (λ m. k < m) (sym count) low) (listed_low k b j e)) high step
    where
      listed_low : (k b j : ℕ) → go R book k b ≡ Some j → b < T.actions
      listed_low k b j e = unfold rows_tower in go_listed R book listed (turned_few T book rows is_turned) k b j e

  -- ---- how each pair was first met

  few : length (pairs R book) ≡ n
  few = sym count

  go_below : (k b j : ℕ) → go R book k b ≡ Some j → k < n
  go_below k b j e = subst (λ m. k < m) few (go_inside R book k b j e)

  go_low : (k b j : ℕ) → go R book k b ≡ Some j → b < T.actions
  unfolding rows_tower
  go_low k b j e = go_listed R book listed (turned_few T book rows is_turned) k b j e

  -- Every pair but the first is met from a lower one.
  pub from_lower_pairs : MetFromLower n T.actions graph
  from_lower_pairs =
      let (from, action, numbering) = pairs_numbered R book listed (turned_few T book rows is_turned) in
      record {
        from = from;
        action = action;
        lower = λ j some_j low. (numbering.met j some_j (inside j low)).earlier;
        listed = λ j some_j low. go_low (from j) (action j) j (numbering.met j some_j (inside j low)).leads;
        leads = λ j some_j low. go_move (from j) (action j) j (numbering.met j some_j (inside j low)).leads;
      }

  -- A move is broken exactly if the step is.
  breaks_same : (k b : ℕ) → k < n → b < T.actions → broken_at graph k b ≡ broken_step R book (pair_number R book k) b
  unfolding pair_number numbered rows_tower
  breaks_same k b l low = move_breaks R book n graph of k b l low

  module _ (ways : List ℕ) (noted : StepsNoted n T.actions graph 0 ways) (most : T.actions ≤ 16) where
    -- What is noted of a pair is how it was first met.
    noted_first : (j : ℕ) → 0 < j → j < length (pairs R book) → FirstMetBy (go R book) j (from_in ways j) (action_in ways j)
    noted_first j some_j low =
        let (k, b, met) = first_met R book listed (turned_few T book rows is_turned) j some_j low in
        by k b met (noted.says k b j (go_below k b j met.leads) (go_low k b j met.leads) (omega arith) (go_move k b j met.leads))
      where
        by : (k b : ℕ) → FirstMetBy (go R book) j k b → NotedStep n T.actions graph 0 ways j (16 * k + b)
            → FirstMetBy (go R book) j (from_in ways j) (action_in ways j)
        by k b met step =
            let leads = move_go (from_in ways j) (action_in ways j) j step.pair step.action step.leads in
            record {
              earlier = omega (arith, step.no_later, met.earlier, go_low k b j met.leads, most);
              leads = leads;
              first = λ p c h e above. later p c (met.first p c h e above) step.no_later (go_low k b j met.leads) step.action;
            }
          where
            later : (p c : ℕ) → NoLater k b p c → step_in ways j ≤ 16 * k + b → b < T.actions → action_in ways j < T.actions
                → NoLater (from_in ways j) (action_in ways j) p c
            later p c h le low low_j = unfold NoLater in go_on h (dec_lt (from_in ways j) p)
              where
                go_on : (k < p) ⊎ ((k ≡ p) × (b ≤ c)) → Dec (from_in ways j < p) → (from_in ways j < p) ⊎ ((from_in ways j ≡ p) × (action_in ways j ≤ c))
                go_on h (yes less) = inl less
                go_on (inl less) (no not_less) = absurd (omega arith)
                go_on (inr (same, le_c)) (no not_less) = inr (omega arith, omega arith)

    numbering : Numbered (go R book) (length (pairs R book)) (from_in ways) (action_in ways)
    numbering =
        record {
          some_place = some_pair R book;
          inside = λ k b j low e. (go_from R book listed (turned_few T book rows is_turned) k b j e).1;
          met = noted_first;
        }

    -- There is a way to pair i, of fewer than 1,000 actions,
    pub way_to : (w : List ℕ) × WayTo (from_in ways) (action_in ways) i w × (length w ≤ i)
    way_to = way_there numbering i (inside i down.found.first.pair)

    first_break : (k b : ℕ) → k < length (pairs R book) → number_breaks R book k b ≡ true → NoLater i a k b
    unfolding number_breaks
    first_break k b low e =
        let (y, enabled, gone) = broken_step_out R book (pair_number R book k) b e in
        let l = subst (λ m. k < m) few low in
        down.found.first.first k b l (low_action k b y enabled) (breaks_same k b l (low_action k b y enabled) ∙ e)
      where
        low_action : (k b y : ℕ) → R.target (pair_number R book k).state b ≡ Some y → b < T.actions
        low_action k b y e = unfold Listed rows_tower in (listed (pair_number R book k).state b y e)

    -- and with the broken step behind it this is the run that is shown.
    pub way_shown : (w : List ℕ) → WayTo (from_in ways) (action_in ways) i w → shown_run T book rows ≡ w ++ (a ∷ [])
    unfolding number_breaks
    way_shown w way =
        soonest_one (AllowedBroken T book rows) (shown_run T book rows) (w ++ (a ∷ []))
        (soonest_shown T book rows known (turned_down T book rows known finding))
        (soonest_allowed T book rows is_turned (w ++ (a ∷ []))
        (break_soonest numbering (number_breaks R book) i a (inside i down.found.first.pair) broken_here first_break w way))
      where
        broken_here : number_breaks R book i a ≡ true
        broken_here = sym (breaks_same i a down.found.first.pair down.found.first.action) ∙ down.found.first.broken
