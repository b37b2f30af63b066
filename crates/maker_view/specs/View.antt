-- What a pass sees of the pairs: of each its tower state, its class, and the class that each action leads to.
use Rattle.std.specs.Prelude.{ℕ, zero, suc, ◌+◌, ◌*◌, ◌%◌, ◌≤◌, ◌<◌, ◌≡◌, Bool, true, false, List, eqb}
use Rattle.std.specs.Prelude.{Option, None, Some}
use Rattle.pair_graph.specs.Steps.{class_in, safe_in, state_in, led_to}

-- ---- what is seen

-- What is seen of the pairs.
pub record View : Type 0 where
  pub actions : ℕ
  pub safe : ℕ → Bool
  pub state : ℕ → ℕ
  pub class : ℕ → ℕ
  -- what action a of pair i shows
  pub shows : ℕ → ℕ → ℕ

-- an allowed step shows the class it leads to plus 1, and none shows 0
unfoldable pub shown : (ℕ → ℕ) → Option ℕ → ℕ
shown class None = 0
shown class (Some j) = class j + 1

-- what action a of pair i shows, with the classes in the given bytes
unfoldable pub shows_in : List ℕ → List ℕ → List ℕ → ℕ → ℕ → ℕ
shows_in graph flags classes i a = shown (class_in classes) (led_to graph flags i a)

-- action a shows the same of pairs i and j
unfoldable pub same_shows : List ℕ → List ℕ → List ℕ → ℕ → ℕ → ℕ → Bool
same_shows graph flags classes i j a = eqb (shows_in graph flags classes i a) (shows_in graph flags classes j a)

-- What is seen with the classes in the given bytes.
unfoldable pub view_of : List ℕ → List ℕ → ℕ → List ℕ → View
view_of graph flags actions classes =
    record {
      actions = actions;
      safe = safe_in flags;
      state = state_in graph;
      class = class_in classes;
      shows = shows_in graph flags classes;
    }

-- Two pairs look the same.
pub record AlikePairs (v : View) (i j : ℕ) : Type 0 where
  pub state : v.state i ≡ v.state j
  pub class : v.class i ≡ v.class j
  pub shows : (a : ℕ) → a < v.actions → v.shows i a ≡ v.shows j a

-- how many buckets there are
abbrev pub buckets : ℕ
buckets = 1021

-- the hash of what is seen of pair i, with its first `a` actions
unfoldable pub bucket_upto : View → ℕ → ℕ → ℕ
bucket_upto v i zero = (v.state i * 31 + v.class i) % buckets
bucket_upto v i (suc a) = (bucket_upto v i a * 31 + v.shows i a) % buckets

-- the bucket of pair i
unfoldable pub bucket_of : View → ℕ → ℕ
bucket_of v i = bucket_upto v i v.actions

-- ---- what the functions answer

-- r is what is seen, and at most one more than two bytes hold
pub record Seen (r x : ℕ) : Type 0 where
  pub is : r ≡ x
  pub within : r ≤ 65536

-- the answer says whether two pairs look the same
pub record Tells (v : View) (i j : ℕ) (r : Bool) : Type 0 where
  pub same : r ≡ true → AlikePairs v i j
  pub other : r ≡ false → AlikePairs v i j → ⊥

-- h is the bucket of pair i
pub record IsBucket (v : View) (i h : ℕ) : Type 0 where
  pub is : h ≡ bucket_of v i
  pub within : h < buckets
