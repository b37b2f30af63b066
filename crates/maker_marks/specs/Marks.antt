-- The marks of the pairs that are looked at again in the next pass, and the list of those that the last pass gave another class: a lent area
-- with a mark for each pair, behind the marks the list, and behind it one byte more.
use Rattle.std.specs.Prelude.{ℕ, ◌+◌, ◌*◌, ◌≤◌, ◌<◌, ◌≡◌, Bool, true, false, List, length, eqb}
use Rattle.std.specs.Prelude.{Some}
use Rattle.base.specs.Bytes.{byte_at, number_at}
use Rattle.pair_graph.specs.Graph.{to}
use Rattle.pair_graph.specs.Steps.{pair_room, action_room, move_at, class_in, safe_in, led_to, FlaggedGraph}
use Rattle.pair_graph.specs.Predecessors.{lists_end, Listed}

-- ---- the area

-- where the list begins, where the byte is that says that a first pair of a class is marked, and where the area ends
abbrev pub list_at : ℕ
list_at = 1000

abbrev pub first_at : ℕ
first_at = 3000

abbrev pub marks_size : ℕ
marks_size = 3001

-- pair i is marked
unfoldable pub marked_in : List ℕ → ℕ → Bool
marked_in marks i = eqb (byte_at marks i) 1

-- entry p of the list: the number of a pair
abbrev pub noted_in : List ℕ → ℕ → ℕ
noted_in marks p = number_at 2 marks (list_at + 2 * p)

-- ---- what marking is given

-- A class has the number of its first pair: no class is above its pair, and the first of a safe pair's class is safe and of that class.
pub record ClassFirsts (n : ℕ) (flags classes : List ℕ) : Type 0 where
  pub most : (i : ℕ) → i < n → class_in classes i ≤ i
  pub first_safe : (i : ℕ) → i < n → safe_in flags i ≡ true → safe_in flags (class_in classes i) ≡ true
  pub itself : (i : ℕ) → i < n → safe_in flags i ≡ true → class_in classes (class_in classes i) ≡ class_in classes i

-- A graph of n pairs, with their flags and the lists of predecessors behind the flags.
pub record ListedGraph (n actions : ℕ) (graph flags : List ℕ) : Type 0 where
  pub held : FlaggedGraph n actions graph flags
  pub listed : Listed n actions graph (action_room * n) flags
  pub lists_room : lists_end ≤ length flags

-- What marking is given: the graph, the classes, and a list of so many pairs.
pub record ReadyToMark (n actions : ℕ) (graph flags classes marks : List ℕ) (entries : ℕ) : Type 0 where
  pub given : ListedGraph n actions graph flags
  pub firsts : ClassFirsts n flags classes
  pub classes_room : 2000 ≤ length classes
  pub marks_room : marks_size ≤ length marks
  pub few : entries ≤ n
  pub noted : (p : ℕ) → p < entries → noted_in marks p < n

-- ---- what it leaves

-- No step from pair i leads to a pair on the list.
pub record Quiet (actions : ℕ) (graph flags marks : List ℕ) (entries i : ℕ) : Type 0 where
  pub none : (a j p : ℕ) → a < actions → led_to graph flags i a ≡ Some j → p < entries → noted_in marks p ≡ j → ⊥

-- Just the safe pairs are marked.
pub record SafeMarked (n : ℕ) (flags after : List ℕ) : Type 0 where
  pub same : (i : ℕ) → i < n → marked_in after i ≡ safe_in flags i

-- Only safe pairs are marked. From a safe pair that is not no step leads to a pair on the list, and the first of its class is not marked either.
pub record MarkedAgain (n actions : ℕ) (graph flags classes marks : List ℕ) (entries : ℕ) (after : List ℕ) : Type 0 where
  pub only_safe : (i : ℕ) → i < n → marked_in after i ≡ true → safe_in flags i ≡ true
  pub quiet : (i : ℕ) → i < n → safe_in flags i ≡ true → marked_in after i ≡ false → Quiet actions graph flags marks entries i
  pub first_too : (i : ℕ) → i < n → safe_in flags i ≡ true → marked_in after i ≡ false → marked_in after (class_in classes i) ≡ false

-- ---- what its parts leave

-- No pair is marked, and the list is as it was.
pub record Unmarked (marks after : List ℕ) : Type 0 where
  pub none : (i : ℕ) → i < list_at → marked_in after i ≡ false
  pub list : (q : ℕ) → list_at ≤ q → q < first_at → byte_at after q ≡ byte_at marks q

-- Only safe pairs are marked, and where the first pair of a class is, the byte behind the list says so.
pub record TrueMarks (flags classes marks : List ℕ) : Type 0 where
  pub only_safe : (i : ℕ) → i < list_at → marked_in marks i ≡ true → safe_in flags i ≡ true
  pub told : (i : ℕ) → i < list_at → marked_in marks i ≡ true → class_in classes i ≡ i → byte_at marks first_at ≡ 1

-- Whatever was marked still is, the list is as it was, and true marks are still true.
pub record MoreMarks (flags classes marks after : List ℕ) : Type 0 where
  pub still : (i : ℕ) → i < list_at → marked_in marks i ≡ true → marked_in after i ≡ true
  pub list : (q : ℕ) → list_at ≤ q → q < first_at → byte_at after q ≡ byte_at marks q
  pub good : TrueMarks flags classes marks → TrueMarks flags classes after

-- Pair i is marked if it is safe.
pub record PairMarked (flags classes : List ℕ) (i : ℕ) (marks after : List ℕ) : Type 0 where
  pub more : MoreMarks flags classes marks after
  pub here : safe_in flags i ≡ true → marked_in after i ≡ true

-- Every safe pair with a move to pair j is marked.
pub record AllBefore (n actions : ℕ) (graph flags : List ℕ) (j : ℕ) (after : List ℕ) : Type 0 where
  pub each : (i a : ℕ) → i < n → a < actions → safe_in flags i ≡ true → move_at graph i a ≡ to j → marked_in after i ≡ true

-- Those with a move to one pair were marked,
pub record MarkedBefore (n actions : ℕ) (graph flags classes : List ℕ) (j : ℕ) (marks after : List ℕ) : Type 0 where
  pub more : MoreMarks flags classes marks after
  pub all : AllBefore n actions graph flags j after

-- and those with a move to one of the first pairs on the list.
pub record MarkedBeforeAll (n actions : ℕ) (graph flags classes marks : List ℕ) (entries : ℕ) (after : List ℕ) : Type 0 where
  pub more : MoreMarks flags classes marks after
  pub all : (p : ℕ) → p < entries → AllBefore n actions graph flags (noted_in marks p) after

-- What is given where the pairs are marked whose first is.
pub record ReadyForFirsts (n : ℕ) (flags classes marks : List ℕ) : Type 0 where
  pub firsts : ClassFirsts n flags classes
  pub pairs_most : n ≤ pair_room
  pub flagged : n ≤ length flags
  pub classes_room : 2000 ≤ length classes
  pub marks_room : marks_size ≤ length marks
  pub good : TrueMarks flags classes marks

-- A safe pair i is marked if the first of its class is, and no other pair is.
pub record MarkedWithFirst (flags classes : List ℕ) (i : ℕ) (marks after : List ℕ) : Type 0 where
  pub here : safe_in flags i ≡ true → marked_in after i ≡ false → marked_in after (class_in classes i) ≡ false
  pub still : marked_in marks i ≡ true → marked_in after i ≡ true
  pub only_safe : (marked_in marks i ≡ true → safe_in flags i ≡ true) → marked_in after i ≡ true → safe_in flags i ≡ true
  pub others : (k : ℕ) → (k ≡ i → ⊥) → byte_at after k ≡ byte_at marks k

-- So were the pairs below n.
pub record MarkedWithFirsts (n : ℕ) (flags classes marks after : List ℕ) : Type 0 where
  pub still : (i : ℕ) → i < list_at → marked_in marks i ≡ true → marked_in after i ≡ true
  pub only_safe : (i : ℕ) → i < list_at → marked_in after i ≡ true → safe_in flags i ≡ true
  pub first_too : (i : ℕ) → i < n → safe_in flags i ≡ true → marked_in after i ≡ false → marked_in after (class_in classes i) ≡ false
