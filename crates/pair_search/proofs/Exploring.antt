-- The pairs in turn: what the search of the definitions still finds from here on is what it finds in all.
use Prim.Native.Nat.{ℕ, ◌+◌, ◌-◌, ◌*◌, ◌≤◌, ◌<◌}
use native.Mathlib.Omega.{arith}
use mathlib.Core.Path.{◌≡◌, refl, sym, ◌∙◌, ap, ap₂}
use mathlib.Core.Bool.{Bool, true, false, ◌||◌}
use Rattle.std.specs.Prelude.{Some}
use mathlib.Core.List.{List, [], ◌∷◌, ◌++◌, map}
use lib.ListN.{length, get_or, drop}
use lib.Dec.{ltb}
use borrow.Author.Tests.{lt-ltb, le-ltb}
use Rattle.base.specs.Lists.{some_of, below, count_from, total}
use Rattle.base.specs.Search.{search_on, search_from}
use Rattle.base.proofs.Lists.{some_append}
use Rattle.logic.specs.Tower.{Tower}
use Rattle.logic.specs.Book.{Book}
use Rattle.alternatives.specs.Pairs.{Pair, same_pair, pair_weight, most_pairs, first_pair, over_full, pair_step, pair_followers, pairs, over_pairs, over_alternatives}
use Rattle.book_progression.specs.NodeBytes.{IsHeld}
use Rattle.book_alternatives.specs.Offers.{TwoTimed}
use Rattle.set_index.specs.Entries.{index_size, entries_size, entry_first, entries_of, Headed, Indexed}
use Rattle.pair_sets.specs.PairSets.{First}
use Rattle.pair_sets.proofs.Entries.{first_one}
use Rattle.pair_graph.specs.Graph.{Move, to}
use Rattle.pair_graph.specs.Steps.{move_at, graph_of, graph_size}
use Rattle.pair_graph.specs.GraphOf.{numbered, SaysStep, says_not_enabled, says_broken, says_to}
use Rattle.pair_trial.specs.Walked.{walked, Searchable, Walkable}
use Rattle.pair_trial.specs.Trial.{pair_of, pair_in}
use Rattle.pair_step.specs.Stepped.{pairs_of, PairsFilled, WideRight, SaysMove, moves_not, moves_broken, moves_to, RightGraph, Turning}
use Rattle.pair_step.proofs.PairEntries.{pairs_length, pairs_at, pairs_same, pairs_more, pairs_none, get_or_there, state_of_pair, pending_of_pair, weighed, filled_few}
use Rattle.pair_search.specs.Explored.{found, HoldsPairs, Explored, with_new, Turned, SearchBegun}
use Rattle.std.specs.Prelude.{Ok, Err}
use Rattle.base.specs.declared.Refusal.TheVariants.{Pairs, Alternatives}
use Rattle.pair_search.specs.declared.Round.{Round}
use Rattle.pair_search.proofs.Turns.{search_next, search_end, search_over}

-- Some element passes: one before the last, or the last.
one_last : {X : Type 0} (test : X → Bool) (xs : List X) (x : X) → (some_of test xs || test x) ≡ some_of test (xs ++ (x ∷ []))
unfolding some_of
one_last test xs x = ap (λ (b : Bool). some_of test xs || b) (or_nothing (test x)) ∙ sym (some_append test xs (x ∷ []))
  where
    or_nothing : (b : Bool) → b ≡ (b || false)
    or_nothing true = refl
    or_nothing false = refl

-- ---- the loop

-- what is found from here on
abbrev found_on : Tower → Book → ℕ → List Pair → List Pair → List Pair
found_on tower book n seen todo = search_on same_pair (pair_followers tower book) pair_weight 1000 n seen todo

-- Before pair i is tried, with n pairs met; `over` says whether some pair before it was over_full.
pub record Exploring (tower : Tower) (nodes : List ℕ) (wide : Bool) (area index graph : List ℕ) (i n : ℕ) (over : Bool) : Type 0 where
  pub inside : i ≤ n
  pub least : 1 ≤ n
  pub most : n ≤ 1000
  pub light : entry_first area n ≤ 1000
  pub filled : PairsFilled tower nodes wide area n
  pub indexed : Indexed area index n
  pub right : RightGraph tower nodes area n graph i (16 * i)
  pub room : index_size ≤ length index
  pub graph_room : graph_size ≤ length graph
  pub fulls : (h : IsHeld nodes) → over ≡ some_of (over_full tower h.book) (pairs_of nodes area i)
  pub same : (h : IsHeld nodes)
      → found_on tower h.book (1001 - i) (pairs_of nodes area n) (drop i (pairs_of nodes area n)) ≡ pairs tower h.book

pub explore_start : (tower : Tower) (nodes : List ℕ) (wide : Bool) (area index graph : List ℕ) → SearchBegun tower nodes area index
    → index_size ≤ length index → graph_size ≤ length graph → Exploring tower nodes wide area index graph 0 1 false
unfolding pairs search_from most_pairs some_of
explore_start tower nodes wide area index graph begun room graph_room =
    record {
      inside = omega arith;
      least = omega arith;
      most = omega arith;
      light = omega (arith, begun.light);
      filled = begun.filled wide;
      indexed = begun.indexed;
      right = record { states = λ j l. absurd (omega arith); says = λ h j a l k. absurd (omega arith) };
      room = room;
      graph_room = graph_room;
      fulls = λ h. sym (ap (some_of (over_full tower h.book)) (pairs_none nodes area));
      same = λ h. ap (λ z. found_on tower h.book 1001 z z) (begun.first h);
    }

module _ (tower : Tower) (nodes : List ℕ) (wide : Bool) (area index graph : List ℕ) (i n : ℕ) (over : Bool)
    (exploring : Exploring tower nodes wide area index graph i n over) where
  all_seen : length (pairs_of nodes area n) ≡ n
  all_seen = pairs_length nodes area n

  all_weigh : total (map pair_weight (pairs_of nodes area n)) ≡ entry_first area n
  all_weigh = weighed nodes area n exploring.filled.start exploring.filled.rising

  -- ---- one turn

  module _ (done : Round) (after later later_graph : List ℕ) (l : i < n)
      (turn : Turned done over tower nodes wide area i n after later later_graph) where
    -- The search goes on from the pairs that are met after this one.
    turned : (h : IsHeld nodes)
        → found_on tower h.book (1001 - (i + 1)) (with_new tower h.book (pairs_of nodes area n) (pair_in nodes area i))
        (drop (i + 1) (with_new tower h.book (pairs_of nodes area n) (pair_in nodes area i)))
        ≡ pairs tower h.book
    unfolding with_new
    turned h =
        sym (search_next same_pair (pair_followers tower h.book) pair_weight 1000 1001 (pairs_of nodes area n) i (pair_in nodes area 0)
        (pair_in nodes area i) (pairs_at nodes area n i l) (omega (arith, all_seen)) (omega (arith, all_weigh, exploring.light))
        (omega (arith, exploring.most)))
        ∙ exploring.same h

    over_many : 1000 < entry_first after done.met → (h : IsHeld nodes) → over_pairs tower h.book ≡ true
    unfolding over_pairs most_pairs
    over_many many h =
        let heavy = turn.grown.many many h in
        let seen = with_new tower h.book (pairs_of nodes area n) (pair_in nodes area i) in
        let all = sym (turned h) ∙ search_over same_pair (pair_followers tower h.book) pair_weight 1000 (1001 - (i + 1)) seen
        (drop (i + 1) seen) heavy in
        ap (λ vs. ltb 1000 (total (map pair_weight vs))) all ∙ lt-ltb 1000 (total (map pair_weight seen)) heavy

    pub explore_many : (x : ℕ) → x ≡ entry_first after done.met → 1000 < x → Explored (Err Pairs) tower nodes later_graph
    unfolding found
    explore_many x at_x many =
        record {
          says = λ h. sym (rw (over_many (omega arith) h));
          pairs_held = λ k e. let z : ◌≡◌ {A = ℕ} 0 1 = cc in absurd (omega arith);
        }

    -- There is a head behind the last pair.
    pub explore_head : done.met ≤ 1001
    explore_head = turn.grown.most

    pub explore_size : entries_size ≤ length after
    explore_size = turn.grown.filled.size

    pub explore_more : (x : ℕ) → x ≡ entry_first after done.met → x ≤ 1000 → length later ≡ length index → length later_graph ≡ length graph
        → Exploring tower nodes wide after later later_graph (i + 1) done.met done.over
    explore_more x at_x few kept kept_graph =
        record {
          inside = omega (arith, turn.grown.least);
          least = omega (arith, turn.grown.least, exploring.least);
          most = filled_few tower nodes wide after done.met turn.grown.filled (omega arith);
          light = omega arith;
          filled = turn.grown.filled;
          indexed = turn.grown.indexed;
          right = turn.grown.right (omega arith);
          room = omega (arith, exploring.room);
          graph_room = omega (arith, exploring.graph_room);
          fulls = fulls_on;
          same = λ h. ap (λ z. found_on tower h.book (1001 - (i + 1)) z (drop (i + 1) z)) (turn.grown.done (omega arith) h) ∙ turned h;
        }
      where
        fulls_on : (h : IsHeld nodes) → done.over ≡ some_of (over_full tower h.book) (pairs_of nodes after (i + 1))
        fulls_on h =
            turn.is_over h
            ∙ ap₂ (λ (b : Bool) (v : Pair). b || over_full tower h.book v)
            (exploring.fulls h ∙ ap (some_of (over_full tower h.book)) (sym (pairs_same nodes after area i (λ j k. turn.grown.kept j (omega arith)))))
            (ap (pair_of nodes) (sym (turn.grown.kept i l)))
            ∙ one_last (over_full tower h.book) (pairs_of nodes after i) (pair_in nodes after i)
            ∙ ap (some_of (over_full tower h.book)) (sym (pairs_more nodes after i))

  -- ---- the end

  module _ (world : IsHeld nodes) (bounds : Searchable tower) (l : n ≤ i) where
    -- All pairs are expanded: they are what the search finds.
    all_found : (h : IsHeld nodes) → pairs tower h.book ≡ pairs_of nodes area n
    all_found h =
        sym (exploring.same h)
        ∙ search_end same_pair (pair_followers tower h.book) pair_weight 1000 (1001 - i) (pairs_of nodes area n) i (omega (arith, all_seen))

    all_counted : (h : IsHeld nodes) → n ≡ length (pairs tower h.book)
    all_counted h = sym all_seen ∙ ap length (sym (all_found h))

    -- Each is numbered as it was met.
    numbered_is : (h : IsHeld nodes) (j : ℕ) → j < n → numbered tower h.book j ≡ pair_in nodes area j
    unfolding numbered
    numbered_is h j k =
        ap (λ z. get_or z j (first_pair tower h.book)) (all_found h)
        ∙ get_or_there (pairs_of nodes area n) j (first_pair tower h.book) (pair_in nodes area 0) (omega (arith, all_seen))
        ∙ pairs_at nodes area n j k

    -- The move of every action of every pair is right.
    move_says : (h : IsHeld nodes) (j a : ℕ) → j < n → a < tower.actions
        → SaysMove tower h.book nodes area n (pair_in nodes area j) a (move_at graph j a)
    move_says h j a k m = exploring.right.says h j a m (omega (arith, bounds.actions_most))

    says_step : (h : IsHeld nodes) (j a : ℕ) → j < n → (move : Move)
        → SaysMove tower h.book nodes area n (pair_in nodes area j) a move → SaysStep tower h.book j a move
    says_step h j a k _ (moves_not e) = says_not_enabled (ap (λ (v : Pair). tower.target v.state a) (numbered_is h j k) ∙ e)
    says_step h j a k _ (moves_broken y e f) =
        says_broken y (ap (λ (v : Pair). tower.target v.state a) (numbered_is h j k) ∙ e)
        (ap (λ v. pair_step tower h.book v a) (numbered_is h j k) ∙ f)
    says_step h j a k _ (moves_to t m e) =
        says_to t (omega (arith, all_counted h))
        (ap (λ v. pair_step tower h.book v a) (numbered_is h j k) ∙ e ∙ ap Some (sym (numbered_is h t m)))

    leads_inside : (h : IsHeld nodes) (j a t : ℕ) (move : Move)
        → SaysMove tower h.book nodes area n (pair_in nodes area j) a move → move ≡ to t → t < n
    leads_inside h j a t _ (moves_not e) f = let z : ◌≡◌ {A = ℕ} 0 1 = cc in absurd (omega arith)
    leads_inside h j a t _ (moves_broken y e g) f = let z : ◌≡◌ {A = ℕ} 0 1 = cc in absurd (omega arith)
    leads_inside h j a t _ (moves_to s m e) f = let same : s ≡ t = cc in omega arith

    held : HoldsPairs tower nodes graph n
    unfolding graph_of
    held =
        record {
          least = exploring.least;
          holds =
              record {
                room = exploring.graph_room;
                pairs_most = exploring.most;
                actions_most = bounds.actions_most;
                targets = λ j a t k m e. leads_inside world j a t (move_at graph j a) (move_says world j a k m) e;
              };
          pairs_graph = λ h. record {
            count = all_counted h;
            actions = refl;
            kinds = λ a. refl;
            states = λ j k. exploring.right.states j (omega arith) ∙ sym (state_of_pair nodes area j) ∙ ap (λ (v : Pair). v.state) (sym (numbered_is h j k));
            moves = λ j a k m. says_step h j a k (move_at graph j a) (move_says h j a k m);
          };
        }

    not_over : (h : IsHeld nodes) → over_pairs tower h.book ≡ false
    unfolding over_pairs most_pairs
    not_over h =
        ap (λ vs. ltb 1000 (total (map pair_weight vs))) (all_found h)
        ∙ le-ltb 1000 (total (map pair_weight (pairs_of nodes area n))) (omega (arith, all_weigh, exploring.light))

    -- Whether one of them is over_full.
    says_over : (h : IsHeld nodes) → over_alternatives tower h.book ≡ over
    unfolding over_alternatives
    says_over h =
        let e : n ≡ i = omega (arith, exploring.inside) in
        ap (some_of (over_full tower h.book)) (all_found h ∙ ap (pairs_of nodes area) e) ∙ sym (exploring.fulls h)

    pub explore_wide : over ≡ true → Explored (Err Alternatives) tower nodes graph
    unfolding found
    explore_wide e =
        record {
          says = λ h. sym (rw (not_over h, says_over h, e));
          pairs_held = λ k f. let z : ◌≡◌ {A = ℕ} 0 1 = cc in absurd (omega arith);
        }

    pub explore_done : over ≡ false → Explored (Ok n) tower nodes graph
    unfolding found
    explore_done e =
        record {
          says = λ h. sym (rw (not_over h, says_over h, e, ← all_counted h));
          pairs_held = λ k f. let same : k ≡ n = cc in rw same held;
        }

-- What is asked before the next turn.
pub explore_ready : (tower table : List ℕ) (rows : Bool) (nodes : List ℕ) (wide : Bool) (area index graph : List ℕ) (i n : ℕ) (over : Bool)
    → Exploring (walked tower table rows) nodes wide area index graph i n over → Walkable tower table rows nodes → WideRight wide nodes → i < n
    → Turning tower table rows nodes wide area n index graph i i (16 * i)
explore_ready tower table rows nodes wide area index graph i n over e world width low =
    record {
      world = world;
      width = width;
      filled = e.filled;
      light = e.light;
      indexed = e.indexed;
      right = e.right;
      index_room = e.room;
      graph_room = e.graph_room;
      low = low;
      most = e.most;
    }

-- ---- the first pair

pairs_one : (nodes area : List ℕ) → pairs_of nodes area 1 ≡ pair_in nodes area 0 ∷ []
unfolding pairs_of entries_of below count_from
pairs_one nodes area = refl

pub start_small : (tower : Tower) (x : ℕ) → x ≡ tower.start → Searchable tower → x < 65536
start_small tower x e bounds = omega (arith, bounds.start_below, bounds.states_most)

pub start_headed : (nodes : List ℕ) (x : ℕ) (area : List ℕ) → First nodes x area → Headed area 0
start_headed nodes x area first = first.headed

pub start_size : (nodes : List ℕ) (x : ℕ) (area : List ℕ) → First nodes x area → entries_size ≤ length area
start_size nodes x area first = first.size

pub start_ready : (tower : Tower) (nodes : List ℕ) (x : ℕ) (area index : List ℕ) → First nodes x area → x ≡ tower.start → Searchable tower
    → Indexed area index 1 → IsHeld nodes → SearchBegun tower nodes area index
start_ready tower nodes x area index first e bounds indexed held =
    record {
      filled = λ wide. record {
        size = first.size;
        states = λ j l.
            let zeroth : j ≡ 0 = omega arith in
            rw (zeroth, first.number_is, e) bounds.start_below;
        start = first.headed.start;
        rising = λ j l. first.headed.rising j (omega arith);
        single = λ _ j l.
            let zeroth : j ≡ 0 = omega arith in
            rw zeroth (omega (arith, one, first.headed.start));
        blank = first.blank;
      };
      light = one;
      indexed = indexed;
      first = λ h. pairs_one nodes area ∙ ap (λ z. z ∷ []) (pair h);
    }
  where
    one : entry_first area 1 ≡ 1
    one = first_one nodes x area held first

    pair : (h : IsHeld nodes) → pair_in nodes area 0 ≡ first_pair tower h.book
    pair h = unfold pair_of first_pair in
        (ap₂ (λ r p. record { state = r; pending = p }) (state_of_pair nodes area 0 ∙ first.number_is ∙ e)
        (sym (pending_of_pair nodes area 0 h) ∙ first.says h.book h.held))

-- The switch is right.
pub width_right : (wide : Bool) (nodes : List ℕ) → TwoTimed wide nodes → WideRight wide nodes
width_right wide nodes answer = record { says = λ e h. answer.says e h.book h.held }
