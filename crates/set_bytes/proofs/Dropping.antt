-- Two loops over the chosen candidates: which stay since candidate c does not ask as little, and how all of them are related to it.
use Prim.Native.Nat.{ℕ, ◌+◌, ◌*◌, ◌≤◌, ◌<◌}
use native.Mathlib.Omega.{arith}
use native.Mathlib.Decide.{dec_lt}
use mathlib.Core.Path.{◌≡◌, refl, sym, ◌∙◌, ap, subst}
use mathlib.Core.Bool.{Bool, true, false}
use mathlib.Core.List.{List, [], ◌∷◌, ◌++◌, Memᴰ, append-nil}
use lib.ListN.{length, get_or, set, length-set}
use lib.Seq.{get_or-set_same, get_or-set_other}
use Rattle.base.specs.Choice.{pick}
use Rattle.base.proofs.Lists.{mem_get_or, mem_index, some_of_mem, none_of}
use Rattle.logic.specs.Book.{Formula}
use Rattle.pending.specs.Pending.{Pending}
use Rattle.alternatives.specs.Least.{without}
use Rattle.alternatives.specs.Alternatives.{asks_no_more, earlier}
use Rattle.book_progression.specs.Promises.{AreNodes}
use Rattle.alternative_bytes.specs.Promises.{NoMore, Related}
use Rattle.alternative_bytes.specs.declared.Relation.{Relation}
use Rattle.alternative_bytes.specs.declared.Relation.TheVariants as Told
use Rattle.set_bytes.specs.SetBytes.{alternative_size, candidate, chosen}
use Rattle.set_bytes.specs.Promises.{Below, IsCovered, Without, LookedOver}
use Rattle.set_bytes.proofs.Chosen.{chosen_length, chosen_at, chosen_next, chosen_set}

-- What an answer on two candidates says.
no_more_says : (b : Bool) (bytes : List ℕ) (n : ℕ) (room : List ℕ) (x y : ℕ) → NoMore b bytes n room (alternative_size * x) (alternative_size * y)
    → (fs : List Formula) → AreNodes bytes n fs → asks_no_more fs (candidate room n x) (candidate room n y) ≡ b
unfolding candidate
no_more_says b bytes n room x y answer fs are = sym (answer.says fs are)

-- ---- whether one asks no more

-- None of the first i asks no more than candidate c.
pub record NoneCovers (bytes : List ℕ) (n : ℕ) (room order : List ℕ) (i c : ℕ) : Type 0 where
  pub says : (fs : List Formula) → AreNodes bytes n fs → (j : ℕ) → j < i
      → asks_no_more fs (candidate room n (get_or order j 0)) (candidate room n c) ≡ false

pub covers_none : (bytes : List ℕ) (n : ℕ) (room order : List ℕ) (c : ℕ) → NoneCovers bytes n room order 0 c
covers_none bytes n room order c = record { says = λ fs are j l. absurd (omega arith) }

pub covers_not : (b : Bool) (bytes : List ℕ) (n : ℕ) (room order : List ℕ) (i c : ℕ) → NoneCovers bytes n room order i c
    → NoMore b bytes n room (60 * get_or order i 0) (60 * c) → b ≡ false → NoneCovers bytes n room order (i + 1) c
covers_not b bytes n room order i c going answer is = record { says = λ fs are j l. go fs are j l (dec_lt j i) }
  where
    go : (fs : List Formula) → AreNodes bytes n fs → (j : ℕ) → j < i + 1 → Dec (j < i)
        → asks_no_more fs (candidate room n (get_or order j 0)) (candidate room n c) ≡ false
    go fs are j l (yes d) = going.says fs are j d
    go fs are j l (no d) =
        let e : j ≡ i = omega arith in
        rw e (no_more_says b bytes n room (get_or order i 0) c answer fs are ∙ is)

pub covers_found : (b : Bool) (bytes : List ℕ) (n : ℕ) (room order : List ℕ) (i m c : ℕ)
    → NoMore b bytes n room (60 * get_or order i 0) (60 * c) → b ≡ true → i < m → m ≤ length order → IsCovered true bytes n room order m c
covers_found b bytes n room order i m c answer is low few =
    record {
      says = λ fs are.
          let x = candidate room n c in
          let ys = chosen room n order m in
          sym (some_of_mem (λ (y : Pending). asks_no_more fs y x)
          (subst (λ (y : Pending). Memᴰ y ys) (chosen_at room n order m i low)
          (mem_get_or ys i (candidate room n 0) (omega (arith, chosen_length room n order m few))))
          (no_more_says b bytes n room (get_or order i 0) c answer fs are ∙ is));
    }

pub covers_end : (bytes : List ℕ) (n : ℕ) (room order : List ℕ) (i m c : ℕ) → NoneCovers bytes n room order i c → m ≤ i → m ≤ length order
    → IsCovered false bytes n room order m c
covers_end bytes n room order i m c going all few = record { says = λ fs are. sym (none_of (λ (y : Pending). asks_no_more fs y x) ys (none fs are)) }
  where
    x : Pending
    x = candidate room n c

    ys : List Pending
    ys = chosen room n order m

    none : (fs : List Formula) → AreNodes bytes n fs → (y : Pending) → Memᴰ y ys → asks_no_more fs y x ≡ false
    none fs are y listed =
        let (j, l, e) = mem_index (candidate room n 0) listed in
        let low : j < m = omega (arith, chosen_length room n order m few) in
        ap (λ (z : Pending). asks_no_more fs z x) (sym e ∙ chosen_at room n order m j low)
        ∙ going.says fs are j (omega arith)

-- ---- which stay

-- What stays of two lists, one after the other.
without_append : {X : Type 0} (no_more before : X → X → Bool) (x : X) (ys zs : List X)
    → without no_more before x (ys ++ zs) ≡ without no_more before x ys ++ without no_more before x zs
unfolding without
without_append no_more before x [] zs = refl
without_append {X} no_more before x (y ∷ ys) zs = go (no_more x y) (without_append no_more before x ys zs)
  where
    go : (b : Bool) → without no_more before x (ys ++ zs) ≡ without no_more before x ys ++ without no_more before x zs
        → pick b (λ _. without no_more before x (ys ++ zs)) (λ _. y ∷ without no_more before x (ys ++ zs))
        ≡ pick b (λ _. without no_more before x ys) (λ _. y ∷ without no_more before x ys) ++ without no_more before x zs
    go true ih = ih
    go false ih = ap (λ (l : List X). y ∷ l) ih

-- One more stays, or not.
without_next : {X : Type 0} (no_more before : X → X → Bool) (x : X) (ys : List X) (y : X) (b : Bool) → no_more x y ≡ b
    → without no_more before x (ys ++ (y ∷ [])) ≡ without no_more before x ys ++ pick b (λ _. []) (λ _. y ∷ [])
unfolding without
without_next no_more before x ys y b e = without_append no_more before x ys (y ∷ []) ∙ ap (λ l. without no_more before x ys ++ l) (rw e)

-- Of the first i chosen, `left` stay, and are written in front.
pub record Dropping (bytes : List ℕ) (n : ℕ) (room first : List ℕ) (m c : ℕ) (order : List ℕ) (i left : ℕ) : Type 0 where
  pub size : length order ≡ length first
  pub done : i ≤ m
  pub fewer : left ≤ i
  pub rest : (j : ℕ) → i ≤ j → get_or order j 0 ≡ get_or first j 0
  pub below : (limit : ℕ) → Below first m limit → Below order left limit
  pub says : (fs : List Formula) → AreNodes bytes n fs
      → chosen room n order left ≡ without (asks_no_more fs) earlier (candidate room n c) (chosen room n first i)

pub drop_start : (bytes : List ℕ) (n : ℕ) (room order : List ℕ) (m c : ℕ) → Dropping bytes n room order m c order 0 0
unfolding chosen without
drop_start bytes n room order m c =
    record {
      size = refl;
      done = omega arith;
      fewer = omega arith;
      rest = λ j l. refl;
      below = λ limit b. record { low = λ j l. absurd (omega arith) };
      says = λ fs are. refl;
    }

module _ (b : Bool) (bytes : List ℕ) (n : ℕ) (room first : List ℕ) (m c : ℕ) (order : List ℕ) (i left : ℕ)
    (going : Dropping bytes n room first m c order i left) (answer : NoMore b bytes n room (60 * c) (60 * get_or order i 0)) where
  next : (fs : List Formula) → AreNodes bytes n fs → i < m → m ≤ length first
      → without (asks_no_more fs) earlier (candidate room n c) (chosen room n first (i + 1))
      ≡ chosen room n order left ++ pick b (λ _. []) (λ _. candidate room n (get_or order i 0) ∷ [])
  next fs are low few =
      let x = candidate room n c in
      let same = going.rest i (omega arith) in
      ap (without (asks_no_more fs) earlier x)
      (chosen_next room n first i (omega arith) ∙ ap (λ (k : ℕ). chosen room n first i ++ (candidate room n k ∷ [])) (sym same))
      ∙ without_next (asks_no_more fs) earlier x (chosen room n first i) (candidate room n (get_or order i 0)) b
      (no_more_says b bytes n room c (get_or order i 0) answer fs are)
      ∙ ap (λ (l : List Pending). l ++ pick b (λ _. []) (λ _. candidate room n (get_or order i 0) ∷ [])) (sym (going.says fs are))

  pub drop_dropped : b ≡ true → i < m → m ≤ length first → Dropping bytes n room first m c order (i + 1) left
  drop_dropped is low few =
      record {
        size = going.size;
        done = omega arith;
        fewer = omega (arith, going.fewer);
        rest = λ j l. going.rest j (omega arith);
        below = going.below;
        says = λ fs are. sym (next fs are low few ∙ rw is (append-nil (chosen room n order left)));
      }

  pub drop_kept : b ≡ false → i < m → m ≤ length first → Dropping bytes n room first m c (set order left (get_or order i 0)) (i + 1) (left + 1)
  drop_kept is low few =
      record {
        size = length-set order left (get_or order i 0) ∙ going.size;
        done = omega arith;
        fewer = omega (arith, going.fewer);
        rest = λ j l. get_or-set_other order left j (get_or order i 0) 0 (λ e. omega (arith, going.fewer)) ∙ going.rest j (omega arith);
        below = λ limit h. record { low = λ j l. inside limit h j l (dec_lt j left) };
        says = λ fs are. chosen_set room n order left (get_or order i 0) (omega (arith, going.fewer, going.size)) ∙ sym (next fs are low few ∙ rw is refl);
      }
    where
      inside : (limit : ℕ) → Below first m limit → (j : ℕ) → j < left + 1 → Dec (j < left) → get_or (set order left (get_or order i 0)) j 0 < limit
      inside limit h j l (yes d) =
          omega (arith, get_or-set_other order left j (get_or order i 0) 0 (λ e. omega arith), (going.below limit h).low j d)
      inside limit h j l (no d) =
          let e : j ≡ left = omega arith in
          let room_there : left < length order = omega (arith, going.fewer, going.size) in
          rw e (omega (arith, get_or-set_same order left (get_or order i 0) 0 room_there, going.rest i (omega arith), h.low i low))

pub drop_end : (bytes : List ℕ) (n : ℕ) (room first : List ℕ) (m c : ℕ) (order : List ℕ) (i left : ℕ)
    → Dropping bytes n room first m c order i left → m ≤ i → Without left bytes n room first m c order
drop_end bytes n room first m c order i left going all =
    let e : i ≡ m = omega (arith, going.done) in
    record {
      size = going.size;
      most = omega (arith, going.fewer);
      below = going.below;
      says = λ fs are. going.says fs are ∙ ap (λ (k : ℕ). without (asks_no_more fs) earlier (candidate room n c) (chosen room n first k)) e;
    }

-- One more stays where it is.
drop_stays : (bytes : List ℕ) (n : ℕ) (room order : List ℕ) (m c i : ℕ) → Dropping bytes n room order m c order i i
    → NoMore false bytes n room (60 * c) (60 * get_or order i 0) → i < m → m ≤ length order → Dropping bytes n room order m c order (i + 1) (i + 1)
drop_stays bytes n room order m c i going answer low few =
    record {
      size = refl;
      done = omega arith;
      fewer = omega arith;
      rest = λ j l. refl;
      below = λ limit h. record { low = λ j l. h.low j (omega arith) };
      says = λ fs are. chosen_next room n order i (omega arith) ∙ sym (next false bytes n room order m c order i i going answer fs are low few);
    }

-- ---- how the chosen are related to a candidate

-- None of the first i covers candidate c, and all of them stay if none was found of which it asks no more.
pub record LookingOver (bytes : List ℕ) (n : ℕ) (room order : List ℕ) (m c i : ℕ) (found : Relation) : Type 0 where
  pub low : i ≤ m
  pub needed : found ≡ Told.NoMore → ⊥
  pub none : NoneCovers bytes n room order i c
  pub stay : found ≡ Told.Apart → Dropping bytes n room order m c order i i

pub look_start : (bytes : List ℕ) (n : ℕ) (room order : List ℕ) (m c : ℕ) → LookingOver bytes n room order m c 0 Told.Apart
look_start bytes n room order m c =
    record {
      low = omega arith;
      needed = λ e. absurd (cc);
      none = covers_none bytes n room order c;
      stay = λ e. drop_start bytes n room order m c;
    }

module _ (bytes : List ℕ) (n : ℕ) (room order : List ℕ) (m c i : ℕ) (r : Relation) (one : Related r bytes n room (60 * get_or order i 0) (60 * c)) where
  pub look_covered : r ≡ Told.NoMore → i < m → m ≤ length order → LookedOver Told.NoMore bytes n room order m c
  look_covered is low few =
      record {
        covered = λ e. covers_found true bytes n room order i m c (one.no_more is) refl low few;
        needed = λ other. absurd (other refl);
        apart = λ e. absurd (cc);
      }

  pub look_needless : (found : Relation) → LookingOver bytes n room order m c i found → r ≡ Told.NoLess → i < m
      → LookingOver bytes n room order m c (i + 1) Told.NoLess
  look_needless found going is low =
      record {
        low = omega arith;
        needed = λ e. absurd (cc);
        none = covers_not false bytes n room order i c going.none (one.more (λ e. absurd (cc))) refl;
        stay = λ e. absurd (cc);
      }

  pub look_apart : (found : Relation) → LookingOver bytes n room order m c i found → r ≡ Told.Apart → i < m → m ≤ length order
      → LookingOver bytes n room order m c (i + 1) found
  look_apart found going is low few =
      record {
        low = omega arith;
        needed = going.needed;
        none = covers_not false bytes n room order i c going.none (one.more (λ e. absurd (cc))) refl;
        stay = λ e. drop_stays bytes n room order m c i (going.stay e) (one.apart is) low few;
      }

pub look_end : (bytes : List ℕ) (n : ℕ) (room order : List ℕ) (m c i : ℕ) (found : Relation) → LookingOver bytes n room order m c i found → m ≤ i
    → m ≤ length order → LookedOver found bytes n room order m c
look_end bytes n room order m c i found going all few =
    let e : i ≡ m = omega (arith, going.low) in
    record {
      covered = λ is. absurd (going.needed is);
      needed = λ other. covers_end bytes n room order i m c going.none all few;
      apart = λ is. rw e at (drop_end bytes n room order m c order i i (going.stay is) all);
    }
