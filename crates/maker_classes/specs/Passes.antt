-- What the functions of a pass promise, and what they ask for.
use Rattle.std.specs.Prelude.{ℕ, ◌+◌, ◌*◌, ◌≤◌, ◌<◌, ◌≡◌, Bool, true, false, List, length, take, eqb}
use Rattle.base.specs.Bytes.{byte_at, number_at}
use Rattle.area_chains.specs.Chains.{Chained, head_in, link_in}
use Rattle.pair_graph.specs.Graph.{SafePair}
use Rattle.pair_graph.specs.Steps.{class_in, safe_in, graph_with}
use Rattle.refinement.specs.Passes.{partition, passes}
use Rattle.maker_marks.specs.Marks.{marks_size, marked_in, noted_in, ListedGraph, ClassFirsts, SafeMarked}
use Rattle.maker_view.specs.View.{View, view_of, AlikePairs, buckets, bucket_of}

-- ---- the parts of the area in which a pass works: the classes, the new classes, and buckets of pairs that leave their class

-- the classes that the pass begins with
abbrev pub old_part : List ℕ → List ℕ
old_part area = take 2000 area

-- the new class of pair i
abbrev pub new_in : List ℕ → ℕ → ℕ
new_in area i = number_at 2 area (2000 + 2 * i)

-- where the links of the buckets begin, one for each pair, and where their heads do
abbrev pub links_at : ℕ
links_at = 4000

abbrev pub heads_at : ℕ
heads_at = 6000

-- ---- the whole

-- The areas hold a graph of n pairs with their flags and lists of predecessors, the first pair is safe, and there is room to work.
pub record ReadyForPass (graph flags : List ℕ) (actions n : ℕ) (area marks : List ℕ) : Type 0 where
  pub given : ListedGraph n actions graph flags
  pub least : 1 ≤ n
  pub first_safe : safe_in flags 0 ≡ true
  pub area_room : 8042 ≤ length area
  pub marks_room : marks_size ≤ length marks

-- The passes made are those up to and with the first that separates nothing, and the classes are the partition that they leave, whatever the
-- kinds of the actions. No class is above its pair.
pub record Classified (graph flags : List ℕ) (actions n : ℕ) (area : List ℕ) (made : ℕ) : Type 0 where
  pub all_passes : (kind : ℕ → ℕ) → made ≡ passes (graph_with n actions kind graph) (safe_in flags)
  pub parted : (kind : ℕ → ℕ) (i j : ℕ) → SafePair (graph_with n actions kind graph) (safe_in flags) i
      → SafePair (graph_with n actions kind graph) (safe_in flags) j
      → eqb (class_in area i) (class_in area j) ≡ partition (graph_with n actions kind graph) (safe_in flags) made i j
  pub most : (i : ℕ) → i < n → class_in area i ≤ i

-- All pairs are of class 0, and the safe ones are marked.
pub record Begun (n : ℕ) (flags area marks : List ℕ) : Type 0 where
  pub zeros : (p : ℕ) → byte_at area p ≡ 0
  pub marked : SafeMarked n flags marks

-- A further pass is made: none was made yet, or the last one separated some pairs.
pub record FurtherPass (made separated : ℕ) (r : Bool) : Type 0 where
  pub on : r ≡ true → 0 < made → 0 < separated
  pub off : r ≡ false → (0 < made) × (separated ≡ 0)

-- ---- a pass

-- Pair k is safe, leaves its class, since it does not look like the first of it, and belongs to bucket h.
pub record InBucket (v : View) (k h : ℕ) : Type 0 where
  pub is_safe : v.safe k ≡ true
  pub leaves : AlikePairs v k (v.class k) → ⊥
  pub bucket : bucket_of v k ≡ h

-- Every pair below i has its new class, no later pair. That of a safe pair is safe and looks the same, and it is one for all that look the same.
pub record ClassesNumbered (v : View) (new : ℕ → ℕ) (i : ℕ) : Type 0 where
  pub most : (k : ℕ) → k < i → new k ≤ k
  pub is_safe : (k : ℕ) → k < i → v.safe k ≡ true → v.safe (new k) ≡ true
  pub alike : (k : ℕ) → k < i → v.safe k ≡ true → AlikePairs v k (new k)
  pub joined : (k l : ℕ) → k < i → l < i → v.safe k ≡ true → v.safe l ≡ true → AlikePairs v k l → new k ≡ new l

-- r suits as the new class of pair i, where those below it have theirs.
pub record Suits (v : View) (new : ℕ → ℕ) (i r : ℕ) : Type 0 where
  pub most : r ≤ i
  pub is_safe : v.safe i ≡ true → v.safe r ≡ true
  pub alike : v.safe i ≡ true → AlikePairs v i r
  pub joined : v.safe i ≡ true → (k : ℕ) → k < i → v.safe k ≡ true → AlikePairs v k i → new k ≡ r

-- What a pass stands on, and does not change: a safe pair that is not marked looks like the first of its class.
pub record PassGiven (graph flags : List ℕ) (actions n : ℕ) (area marks : List ℕ) : Type 0 where
  pub given : ListedGraph n actions graph flags
  pub firsts : ClassFirsts n flags (old_part area)
  pub only_safe : (k : ℕ) → k < n → marked_in marks k ≡ true → safe_in flags k ≡ true
  pub settled : (k : ℕ) → k < n → safe_in flags k ≡ true → marked_in marks k ≡ false
      → AlikePairs (view_of graph flags actions (old_part area)) k (class_in (old_part area) k)
  pub area_room : 8042 ≤ length area
  pub marks_room : marks_size ≤ length marks

-- A pass may begin: each new class is the class.
pub record PassReady (graph flags : List ℕ) (actions n : ℕ) (area marks : List ℕ) : Type 0 where
  pub stands : PassGiven graph flags actions n area marks
  pub level : (k : ℕ) → k < n → new_in area k ≡ class_in (old_part area) k

-- Pair k is one of the first entries of the list.
pub record NotedPair (marks : List ℕ) (entries k : ℕ) : Type 0 where
  pub place : ℕ
  pub within : place < entries
  pub is : noted_in marks place ≡ k

-- The list has just the pairs below i that leave their class.
pub record ListsLeaving (flags : List ℕ) (i : ℕ) (area marks : List ℕ) (entries : ℕ) : Type 0 where
  pub within : entries ≤ i
  pub there : (p : ℕ) → p < entries → noted_in marks p < i
  pub is_safe : (p : ℕ) → p < entries → safe_in flags (noted_in marks p) ≡ true
  pub leaves : (p : ℕ) → p < entries → new_in area (noted_in marks p) ≡ class_in (old_part area) (noted_in marks p) → ⊥
  pub all : (k : ℕ) → k < i → (new_in area k ≡ class_in (old_part area) k → ⊥) → NotedPair marks entries k

-- The pass has come to pair i: those before it have their new class, and those that leave stand in their buckets and on the list.
pub record Passed (graph flags : List ℕ) (actions n i : ℕ) (area marks : List ℕ) (separated : ℕ) : Type 0 where
  pub stands : PassGiven graph flags actions n area marks
  pub numbered : ClassesNumbered (view_of graph flags actions (old_part area)) (new_in area) i
  pub ahead : (k : ℕ) → i ≤ k → k < n → new_in area k ≡ class_in (old_part area) k
  pub chained : Chained (InBucket (view_of graph flags actions (old_part area))) buckets (head_in heads_at area) (link_in links_at area) i
  pub lists : ListsLeaving flags i area marks separated

-- It has come there, and the classes are as they were.
pub record PassedFrom (graph flags : List ℕ) (actions n : ℕ) (first : List ℕ) (i : ℕ) (area marks : List ℕ) (separated : ℕ) : Type 0 where
  pub passed : Passed graph flags actions n i area marks separated
  pub front : old_part area ≡ old_part first

-- Pair i leaves its class: it is safe, and does not look like the first of it.
pub record Leaving (graph flags : List ℕ) (actions n : ℕ) (area : List ℕ) (i : ℕ) : Type 0 where
  pub there : i < n
  pub is_safe : safe_in flags i ≡ true
  pub apart : AlikePairs (view_of graph flags actions (old_part area)) i (class_in (old_part area) i) → ⊥

-- ---- the new classes become the classes

-- There is a list of so many pairs.
pub record ToAdopt (n : ℕ) (area marks : List ℕ) (entries : ℕ) : Type 0 where
  pub few : n ≤ 1000
  pub fewer : entries ≤ n
  pub there : (p : ℕ) → p < entries → noted_in marks p < n
  pub area_room : 8042 ≤ length area
  pub marks_room : marks_size ≤ length marks

-- The class of each of the first entries is its new class, and no other class is changed.
pub record Adopted (n : ℕ) (area marks : List ℕ) (entries : ℕ) (after : List ℕ) : Type 0 where
  pub here : (p : ℕ) → p < entries → class_in after (noted_in marks p) ≡ new_in area (noted_in marks p)
  pub else : (k : ℕ) → k < n → (NotedPair marks entries k → ⊥) → class_in after k ≡ class_in area k
  pub news : (k : ℕ) → new_in after k ≡ new_in area k

-- ---- a whole pass

-- A safe pair has another class than it had.
pub record OneLeft (flags : List ℕ) (n : ℕ) (area after : List ℕ) : Type 0 where
  pub pair : ℕ
  pub there : pair < n
  pub is_safe : safe_in flags pair ≡ true
  pub other : class_in (old_part after) pair ≡ class_in (old_part area) pair → ⊥

-- Each pair has its new class, the answer says whether any is another than before, and the next pass may begin.
pub record PassMade (graph flags : List ℕ) (actions n : ℕ) (area : List ℕ) (r : ℕ) (after marks : List ℕ) : Type 0 where
  pub numbered : ClassesNumbered (view_of graph flags actions (old_part area)) (class_in (old_part after)) n
  pub ready : PassReady graph flags actions n after marks
  pub none : r ≡ 0 → (k : ℕ) → k < n → class_in (old_part after) k ≡ class_in (old_part area) k
  pub some : 0 < r → OneLeft flags n area after
