-- The ways through marking: what the code knows at a call or a return, and what it then promises.
use Prim.Native.Nat.{ℕ, ◌+◌, ◌-◌, ◌*◌, ◌/◌, ◌≤◌, ◌<◌}
use native.Mathlib.Omega.{arith}
use native.Mathlib.Decide.{dec_lt, ℕ_discrete}
use mathlib.Core.Path.{◌≡◌, refl, sym, ◌∙◌, ap, subst}
use mathlib.Core.Bool.{Bool, true, false}
use Rattle.std.specs.Prelude.{Some}
use mathlib.Core.List.{List, ◌++◌}
use lib.ListN.{length, set, take, drop, replicate, length-set, length-append, length-drop, length-replicate, get_or-append}
use lib.Seq.{get_or-set_same, get_or-set_other, get_or-append-add, get_or-drop, length-take-le}
use Rattle.base.specs.Bytes.{byte_at, number_at}
use Rattle.base.proofs.Lists.{never_both}
use Rattle.area_bytes.proofs.Clearing.{cleared_byte}
use Rattle.area_chains.specs.Chains.{head_in, link_in}
use Rattle.area_chains.proofs.Walks.{one_more, Walking, walk_node, walk_start, walk_first, walk_on, walk_falls, walk_ahead}
use Rattle.pair_graph.specs.Graph.{to}
use Rattle.pair_graph.specs.Steps.{safe_in, class_in, move_at, led_to}
use Rattle.pair_graph.specs.Predecessors.{CellTo}
use Rattle.pair_graph.proofs.Moves.{allowed_out}
use Rattle.pair_graph.proofs.Lists.{cell_in}
use Rattle.maker_marks.specs.Marks.{marked_in, noted_in, ListedGraph, ReadyToMark, SafeMarked, MarkedAgain}
use Rattle.maker_marks.specs.Marks.{Unmarked, MoreMarks, PairMarked, AllBefore, MarkedBefore, MarkedBeforeAll}
use Rattle.maker_marks.specs.Marks.{ReadyForFirsts, MarkedWithFirst, MarkedWithFirsts}
use Rattle.maker_marks.proofs.Marks.{marked_same, one_marked, zero_unmarked, flag_marked, noted_same, more_none, more_yet, marked_other, marked_first}

-- ---- all safe pairs

-- The pairs below i have the marks of their flags.
pub record MarkingSafe (flags old marks : List ℕ) (i : ℕ) : Type 0 where
  pub done : (k : ℕ) → k < i → byte_at marks k ≡ byte_at flags k
  pub long : length marks ≡ length old

pub safe_start : (flags marks : List ℕ) → MarkingSafe flags marks marks 0
safe_start flags marks = record { done = λ k l. absurd (omega arith); long = refl }

pub safe_more : (flags old marks : List ℕ) (n i : ℕ) → MarkingSafe flags old marks i → i < n → n ≤ length old
    → MarkingSafe flags old (set marks i (byte_at flags i)) (i + 1)
safe_more flags old marks n i h l room =
    record {
      done =
          one_more (λ k. byte_at (set marks i (byte_at flags i)) k ≡ byte_at flags k) i
          (λ k m. get_or-set_other marks i k (byte_at flags i) 0 (λ e. omega arith) ∙ h.done k m)
          (get_or-set_same marks i (byte_at flags i) 0 (omega (arith, h.long)));
      long = length-set marks i (byte_at flags i) ∙ h.long;
    }

pub safe_end : (flags old marks : List ℕ) (n i : ℕ) → MarkingSafe flags old marks i → n ≤ i → SafeMarked n flags marks
safe_end flags old marks n i h l = record { same = λ k m. flag_marked flags marks k (h.done k (omega arith)) }

-- ---- marking again

-- Where all safe pairs are marked, each with a step to a pair on the list is.
pub again_safe : (n actions : ℕ) (graph flags classes marks : List ℕ) (entries : ℕ) (after : List ℕ) → SafeMarked n flags after
    → MarkedAgain n actions graph flags classes marks entries after
again_safe n actions graph flags classes marks entries after s =
    record {
      only_safe = λ i l e. sym (s.same i l) ∙ e;
      quiet = λ i l safe e. never_both (s.same i l ∙ safe) e;
      first_too = λ i l safe e. never_both (s.same i l ∙ safe) e;
    }

module _ (n actions : ℕ) (graph flags classes marks : List ℕ) (entries : ℕ) (bare : List ℕ)
    (given : ReadyToMark n actions graph flags classes marks entries) (u : Unmarked marks bare) where
  -- The list is as it was,
  bare_noted : (p : ℕ) → p < entries → noted_in bare p ≡ noted_in marks p
  bare_noted p l = noted_same marks bare p u.list (omega (arith, given.few, given.given.held.graph.pairs_most))

  -- so that marking can begin.
  pub again_ready : length bare ≡ length marks → ReadyToMark n actions graph flags classes bare entries
  again_ready long =
      record {
        given = given.given;
        firsts = given.firsts;
        classes_room = given.classes_room;
        marks_room = omega (arith, given.marks_room);
        few = given.few;
        noted = λ p l. omega (arith, bare_noted p l, given.noted p l);
      }

  module _ (last : List ℕ) (b : MarkedBeforeAll n actions graph flags classes bare entries last) where
    -- No marks are true marks, and so are those that came.
    pub again_firsts : length last ≡ length bare → length bare ≡ length marks → ReadyForFirsts n flags classes last
    again_firsts long same =
        record {
          firsts = given.firsts;
          pairs_most = given.given.held.graph.pairs_most;
          flagged = given.given.held.flagged;
          classes_room = given.classes_room;
          marks_room = omega (arith, given.marks_room);
          good =
              b.more.good
              (record { only_safe = λ i l e. never_both e (u.none i l); told = λ i l e first. never_both e (u.none i l) });
        }

    -- What marking leaves.
    pub again_end : (after : List ℕ) → MarkedWithFirsts n flags classes last after → MarkedAgain n actions graph flags classes marks entries after
    unfolding led_to
    again_end after m =
        record {
          only_safe = λ i l. m.only_safe i (omega (arith, given.given.held.graph.pairs_most));
          quiet = λ i l safe e. record { none = λ a j p k leads o is_j. never_both (reached i a j p l k safe leads o is_j) e };
          first_too = m.first_too;
        }
      where
        reached : (i a j p : ℕ) → i < n → a < actions → safe_in flags i ≡ true → led_to graph flags i a ≡ Some j → p < entries
            → noted_in marks p ≡ j → marked_in after i ≡ true
        reached i a j p l k safe leads o is_j =
            let move = (allowed_out (safe_in flags) (move_at graph i a) j leads).0 in
            let to_entry : to j ≡ to (noted_in bare p) = ap to (sym (bare_noted p o ∙ is_j)) in
            m.still i (omega (arith, given.given.held.graph.pairs_most)) ((b.all p o).each i a l k safe (move ∙ to_entry))

-- ---- no marks

-- The part with the marks is as long as it was.
pub marks_long : (marks : List ℕ) → 3001 ≤ length marks → length (take 1000 marks) ≡ 1000
marks_long marks room = length-take-le 1000 marks (omega arith)

module _ (marks zeros : List ℕ) (room : 3001 ≤ length marks) (is_zeros : zeros ≡ replicate (length (take 1000 marks)) 0) where
  -- So are the zeros,
  zeros_long : length zeros ≡ 1000
  zeros_long = ap length is_zeros ∙ length-replicate {A = ℕ} (length (take 1000 marks)) 0 ∙ marks_long marks room

  -- and the whole.
  pub cleared_long : length (zeros ++ drop 1000 marks) ≡ length marks
  cleared_long = omega (arith, length-append zeros (drop 1000 marks), zeros_long, length-drop 1000 marks)

  pub unmarked_long : length (set (zeros ++ drop 1000 marks) 3000 0) ≡ length marks
  unmarked_long = length-set (zeros ++ drop 1000 marks) 3000 0 ∙ cleared_long

  pub cleared_room : 3000 < length (zeros ++ drop 1000 marks)
  cleared_room = omega (arith, cleared_long)

  -- No mark is left.
  pub unmarked : Unmarked marks (set (zeros ++ drop 1000 marks) 3000 0)
  unmarked = record { none = none; list = list }
    where
      other : (q : ℕ) → q < 3000 → byte_at (set (zeros ++ drop 1000 marks) 3000 0) q ≡ byte_at (zeros ++ drop 1000 marks) q
      other q l = get_or-set_other (zeros ++ drop 1000 marks) 3000 q 0 0 (λ e. omega arith)

      none : (i : ℕ) → i < 1000 → marked_in (set (zeros ++ drop 1000 marks) 3000 0) i ≡ false
      none i l =
          zero_unmarked (set (zeros ++ drop 1000 marks) 3000 0) i
          (other i (omega arith) ∙ get_or-append zeros (drop 1000 marks) 0 i (omega (arith, zeros_long)) ∙ ap (λ x. byte_at x i) is_zeros
          ∙ cleared_byte (length (take 1000 marks)) i)

      list : (q : ℕ) → 1000 ≤ q → q < 3000 → byte_at (set (zeros ++ drop 1000 marks) 3000 0) q ≡ byte_at marks q
      list q l m =
          let place : length zeros + (q - 1000) ≡ q = omega (arith, zeros_long) in
          let there : 1000 + (q - 1000) ≡ q = omega arith in
          other q m ∙ ap (byte_at (zeros ++ drop 1000 marks)) (sym place) ∙ get_or-append-add zeros (drop 1000 marks) (q - 1000) 0
          ∙ get_or-drop 1000 marks (q - 1000) 0 ∙ ap (byte_at marks) there

-- ---- the whole list

-- At first no entry is done.
pub all_start : (n actions : ℕ) (graph flags classes marks : List ℕ) (p : ℕ) → p ≡ 0 → MarkedBeforeAll n actions graph flags classes marks p marks
all_start n actions graph flags classes marks p e = record { more = more_none flags classes marks; all = λ p l. absurd (omega arith) }

module _ (n actions : ℕ) (graph flags classes old : List ℕ) (entries p : ℕ) (marks : List ℕ) (j : ℕ)
    (h : MarkedBeforeAll n actions graph flags classes old p marks) (is_j : j ≡ noted_in marks p) (l : p < entries)
    (given : ReadyToMark n actions graph flags classes old entries) where
  -- The entry is as it was,
  entry_same : j ≡ noted_in old p
  entry_same = is_j ∙ noted_same old marks p h.more.list (omega (arith, given.few, given.given.held.graph.pairs_most))

  -- and one of the pairs.
  pub entry_there : j < n
  entry_there = omega (arith, entry_same, given.noted p l)

  -- One entry more.
  pub all_more : (after : List ℕ) → MarkedBefore n actions graph flags classes j marks after
      → MarkedBeforeAll n actions graph flags classes old (p + 1) after
  all_more after b =
      record {
        more = more_yet flags classes old marks after h.more b.more;
        all =
            one_more (λ q. AllBefore n actions graph flags (noted_in old q) after) p
            (λ q m. record {
              each =
                  λ i a o k safe leads. b.more.still i (omega (arith, given.given.held.graph.pairs_most)) ((h.all q m).each i a o k safe leads);
            })
            (subst (λ x. AllBefore n actions graph flags x after) entry_same b.all);
      }

-- All are done.
pub all_end : (n actions : ℕ) (graph flags classes old : List ℕ) (entries p : ℕ) (marks : List ℕ)
    → MarkedBeforeAll n actions graph flags classes old p marks → entries ≤ p → MarkedBeforeAll n actions graph flags classes old entries marks
all_end n actions graph flags classes old entries p marks h l = record { more = h.more; all = λ q m. h.all q (omega arith) }

-- ---- the predecessors of a pair

-- The walk through the list of pair j has come to cell `at`: the pairs of the cells from there on are marked.
pub record MarkingBefore (n actions : ℕ) (graph flags classes : List ℕ) (j : ℕ) (old : List ℕ) (at : ℕ) (marks : List ℕ) : Type 0 where
  pub more : MoreMarks flags classes old marks
  pub walk : Walking (CellTo actions graph) n (16 * n) j at
  pub behind : (i a : ℕ) → i < n → a < actions → at ≤ 16 * i + a → safe_in flags i ≡ true → move_at graph i a ≡ to j → marked_in marks i ≡ true
  pub long : length marks ≡ length old

-- It begins at the head.
pub before_start : (n actions : ℕ) (graph flags classes : List ℕ) (j at : ℕ) (marks : List ℕ) → ListedGraph n actions graph flags
    → at ≡ head_in 1000 flags j → j < n → MarkingBefore n actions graph flags classes j marks at marks
before_start n actions graph flags classes j at marks given e l =
    record {
      more = more_none flags classes marks;
      walk = walk_start (CellTo actions graph) n (head_in 1000 flags) (link_in 3000 flags) (16 * n) j given.listed.chained l at e;
      behind = λ i a m o from safe leads. absurd (omega (arith, ahead i a m o leads));
      long = refl;
    }
  where
    ahead : (i a : ℕ) → i < n → a < actions → move_at graph i a ≡ to j → 16 * i + a < at
    ahead i a m o leads =
        walk_first (CellTo actions graph) n (head_in 1000 flags) (link_in 3000 flags) (16 * n) j given.listed.chained l at e (16 * i + a)
        (omega (arith, given.held.graph.actions_most))
        (cell_in graph actions i a j given.held.graph.actions_most o leads)

module _ (n actions : ℕ) (graph flags classes : List ℕ) (j : ℕ) (old : List ℕ) (at : ℕ) (marks : List ℕ)
    (given : ListedGraph n actions graph flags) (h : MarkingBefore n actions graph flags classes j old at marks) where
  -- The next cell is one of the graph's,
  pub before_cell : 0 < at → at - 1 < 16 * 1000
  before_cell l = omega (arith, (walk_node (CellTo actions graph) n (16 * n) j at h.walk l).there, given.held.graph.pairs_most)

  -- and its pair one of the pairs.
  pub before_pair : (i : ℕ) → 0 < at → i ≡ (at - 1) / 16 → i < 1000
  before_pair i l e = omega (arith, (walk_node (CellTo actions graph) n (16 * n) j at h.walk l).there, given.held.graph.pairs_most)

  module _ (next : ℕ) (l : 0 < at) (k : j < n) (to_next : next ≡ link_in 3000 flags (at - 1)) where
    -- The walk comes closer to its end.
    pub before_falls : next < at
    before_falls =
        walk_falls (CellTo actions graph) n (head_in 1000 flags) (link_in 3000 flags) (16 * n) j given.listed.chained k at next h.walk l
        to_next

    -- The pair of the cell was marked.
    pub before_more : (i : ℕ) (after : List ℕ) → i ≡ (at - 1) / 16 → PairMarked flags classes i marks after → length after ≡ length marks
        → MarkingBefore n actions graph flags classes j old next after
    before_more i after is_i p long =
        record {
          more = more_yet flags classes old marks after h.more p.more;
          walk =
              walk_on (CellTo actions graph) n (head_in 1000 flags) (link_in 3000 flags) (16 * n) j given.listed.chained k at next h.walk l
              to_next;
          behind = behind;
          long = long ∙ h.long;
        }
      where
        -- A cell that is ahead is this one or still ahead.
        nearer : (x a : ℕ) → a < actions → move_at graph x a ≡ to j → 16 * x + a < at → (x ≡ i → ⊥) → 16 * x + a < next
        nearer x a o leads ahead other =
            walk_ahead (CellTo actions graph) n (head_in 1000 flags) (link_in 3000 flags) (16 * n) j given.listed.chained k at next h.walk l
            to_next (16 * x + a) (cell_in graph actions x a j given.held.graph.actions_most o leads) ahead
            (λ e. other (omega (arith, given.held.graph.actions_most)))

        behind : (x a : ℕ) → x < n → a < actions → next ≤ 16 * x + a → safe_in flags x ≡ true → move_at graph x a ≡ to j
            → marked_in after x ≡ true
        behind x a m o from safe leads =
            elim (ℕ_discrete x i) [
              | yes here ↦ subst (λ y. marked_in after y ≡ true) (sym here) (p.here (subst (λ y. safe_in flags y ≡ true) here safe))
              | no other ↦ elim (dec_lt (16 * x + a) at) [
                | yes ahead ↦ absurd (omega (arith, nearer x a o leads ahead other))
                | no past ↦ p.more.still x (omega (arith, given.held.graph.pairs_most)) (h.behind x a m o (omega arith) safe leads)
              ]
            ]

-- At the end no cell is ahead.
pub before_end : (n actions : ℕ) (graph flags classes : List ℕ) (j : ℕ) (old : List ℕ) (at : ℕ) (marks : List ℕ)
    → MarkingBefore n actions graph flags classes j old at marks → at ≤ 0 → MarkedBefore n actions graph flags classes j old marks
before_end n actions graph flags classes j old at marks h l =
    record {
      more = h.more;
      all = record { each = λ i a m o safe leads. h.behind i a m o (omega arith) safe leads };
    }

-- ---- one pair

-- A pair that is not safe stays as it is.
pub mark_unsafe : (flags classes : List ℕ) (i : ℕ) (marks : List ℕ) (r : Bool) → r ≡ safe_in flags i → r ≡ false
    → PairMarked flags classes i marks marks
mark_unsafe flags classes i marks r e f = record { more = more_none flags classes marks; here = λ s. never_both s (sym e ∙ f) }

-- What was answered of a pair's flag.
pub answered_safe : (flags : List ℕ) (i : ℕ) (r : Bool) → r ≡ safe_in flags i → r ≡ true → safe_in flags i ≡ true
answered_safe flags i r e f = sym e ∙ f

-- A safe pair is marked, whether it is the first of its class or not.
pub mark_other : (flags classes : List ℕ) (i : ℕ) (marks : List ℕ) (r : Bool) (c : ℕ) → r ≡ safe_in flags i → r ≡ true
    → c ≡ class_in classes i → (c ≡ i → ⊥) → i < 1000 → 3001 ≤ length marks → PairMarked flags classes i marks (set marks i 1)
mark_other flags classes i marks r c e f is_c other small room =
    marked_other flags classes i marks small room (sym e ∙ f) (λ z. other (is_c ∙ z))

pub mark_first : (flags classes : List ℕ) (i : ℕ) (marks : List ℕ) (v : ℕ) → v ≡ 1 → safe_in flags i ≡ true → i < 1000 → 3001 ≤ length marks
    → PairMarked flags classes i marks (set (set marks i 1) 3000 v)
mark_first flags classes i marks v e safe small room = rw e (marked_first flags classes i marks small room safe)

-- ---- all pairs with the first of their class

-- Where no first pair is marked nothing is to do.
pub firsts_none : (n : ℕ) (flags classes marks : List ℕ) → ReadyForFirsts n flags classes marks → (byte_at marks 3000 ≡ 1 → ⊥)
    → MarkedWithFirsts n flags classes marks marks
firsts_none n flags classes marks given none =
    record { still = λ i l e. e; only_safe = given.good.only_safe; first_too = first_too }
  where
    not_marked : (i : ℕ) → i < n → safe_in flags i ≡ true → (b : Bool) → marked_in marks (class_in classes i) ≡ b → b ≡ false
    not_marked i l safe true e =
        absurd (none
        (given.good.told (class_in classes i) (omega (arith, given.firsts.most i l, given.pairs_most)) e (given.firsts.itself i l safe)))
    not_marked i l safe false e = refl

    first_too : (i : ℕ) → i < n → safe_in flags i ≡ true → marked_in marks i ≡ false → marked_in marks (class_in classes i) ≡ false
    first_too i l safe e = not_marked i l safe (marked_in marks (class_in classes i)) refl

-- The pairs below i are marked where their first is.
pub record MarkingFirsts (i : ℕ) (flags classes old marks : List ℕ) : Type 0 where
  pub done : MarkedWithFirsts i flags classes old marks
  pub long : length marks ≡ length old

pub firsts_start : (n : ℕ) (flags classes marks : List ℕ) → ReadyForFirsts n flags classes marks → MarkingFirsts 0 flags classes marks marks
firsts_start n flags classes marks given =
    record {
      done = record { still = λ i l e. e; only_safe = given.good.only_safe; first_too = λ i l. absurd (omega arith) };
      long = refl;
    }

-- The class of a pair is not above it.
pub firsts_most : (n i : ℕ) (flags classes old : List ℕ) → ReadyForFirsts n flags classes old → i < n → number_at 2 classes (2 * i) ≤ i
firsts_most n i flags classes old given l = given.firsts.most i l

-- One pair more.
pub firsts_more : (n i : ℕ) (flags classes old marks after : List ℕ) → ReadyForFirsts n flags classes old
    → MarkedWithFirst flags classes i marks after → MarkingFirsts i flags classes old marks → i < n → length after ≡ length marks
    → MarkingFirsts (i + 1) flags classes old after
firsts_more n i flags classes old marks after given m h l long =
    record { done = record { still = still; only_safe = only_safe; first_too = first_too }; long = long ∙ h.long }
  where
    else : (k : ℕ) → (k ≡ i → ⊥) → marked_in after k ≡ marked_in marks k
    else k other = marked_same marks after k (m.others k other)

    still : (k : ℕ) → k < 1000 → marked_in old k ≡ true → marked_in after k ≡ true
    still k o e =
        elim (ℕ_discrete k i) [
          | yes here ↦ subst (λ x. marked_in after x ≡ true) (sym here)
              (m.still (subst (λ x. marked_in marks x ≡ true) here (h.done.still k o e)))
          | no other ↦ else k other ∙ h.done.still k o e
        ]

    only_safe : (k : ℕ) → k < 1000 → marked_in after k ≡ true → safe_in flags k ≡ true
    only_safe k o e =
        elim (ℕ_discrete k i) [
          | yes here ↦ subst (λ x. safe_in flags x ≡ true) (sym here)
              (m.only_safe (h.done.only_safe i (omega (arith, given.pairs_most))) (subst (λ x. marked_in after x ≡ true) here e))
          | no other ↦ h.done.only_safe k o (sym (else k other) ∙ e)
        ]

    first_too : (k : ℕ) → k < i + 1 → safe_in flags k ≡ true → marked_in after k ≡ false → marked_in after (class_in classes k) ≡ false
    first_too =
        one_more (λ k. safe_in flags k ≡ true → marked_in after k ≡ false → marked_in after (class_in classes k) ≡ false) i
        (λ k o safe e.
        else (class_in classes k) (λ z. omega (arith, given.firsts.most k (omega arith)))
        ∙ h.done.first_too k o safe (sym (else k (λ z. omega arith)) ∙ e))
        m.here

-- All pairs are done.
pub firsts_end : (n i : ℕ) (flags classes old marks : List ℕ) → MarkingFirsts i flags classes old marks → n ≤ i
    → MarkedWithFirsts n flags classes old marks
firsts_end n i flags classes old marks h l =
    record { still = h.done.still; only_safe = h.done.only_safe; first_too = λ k m. h.done.first_too k (omega arith) }

-- ---- a pair with the first of its class

-- A pair that is not safe stays as it is.
pub first_unsafe : (flags classes : List ℕ) (i : ℕ) (marks : List ℕ) (r : Bool) → r ≡ safe_in flags i → r ≡ false
    → MarkedWithFirst flags classes i marks marks
first_unsafe flags classes i marks r e f =
    record { here = λ s m. never_both s (sym e ∙ f); still = λ m. m; only_safe = λ g. g; others = λ k other. refl }

-- So does one whose first is not marked.
pub first_unmarked : (flags classes : List ℕ) (i : ℕ) (marks : List ℕ) (c : ℕ) (m : Bool) → c ≡ class_in classes i → m ≡ marked_in marks c → m ≡ false
    → MarkedWithFirst flags classes i marks marks
first_unmarked flags classes i marks c m is_c is_m f =
    record {
      here = λ s e. subst (λ x. marked_in marks x ≡ false) is_c (sym is_m ∙ f);
      still = λ e. e;
      only_safe = λ g. g;
      others = λ k other. refl;
    }

-- Any other is marked.
pub first_marked : (flags classes : List ℕ) (i : ℕ) (marks : List ℕ) (r : Bool) → r ≡ safe_in flags i → r ≡ true → i < length marks
    → MarkedWithFirst flags classes i marks (set marks i 1)
first_marked flags classes i marks r e f room =
    let here = one_marked (set marks i 1) i (get_or-set_same marks i 1 0 room) in
    record {
      here = λ s m. never_both here m;
      still = λ m. here;
      only_safe = λ g m. sym e ∙ f;
      others = λ k other. get_or-set_other marks i k 1 0 other;
    }
