-- A pair is tried: the ways of each function.
use Prim.Native.Nat.{ℕ, ◌+◌, ◌-◌, ◌*◌, ◌≤◌, ◌<◌}
use native.Mathlib.Omega.{arith}
use borrow.Author.Tests.{eqb-true}
use lib.Dec.{eqb}
use native.Mathlib.Decide.{dec_lt}
use mathlib.Core.Path.{◌≡◌, refl, sym, ◌∙◌, ap, ap₂, subst}
use mathlib.Core.Bool.{Bool, true, false}
use Rattle.std.specs.Prelude.{None, Some}
use mathlib.Core.List.{List}
use lib.ListN.{length}
use Rattle.base.specs.Lists.{is_there, there_with, below, some_of}
use Rattle.base.proofs.Lists.{is_there_out, not_there, none-some, never_both, false_by, below_some, some_below, there_with_in, there_with_out}
use Rattle.logic.specs.Tower.{Tower, FitTower, tower_of, mask_of}
use Rattle.logic.specs.Book.{Book}
use Rattle.logic.specs.declared.Tick.{Tick}
use Rattle.alternatives.specs.Alternatives.{these}
use Rattle.alternatives.specs.Progression.{progressed_set}
use Rattle.alternatives.specs.Pairs.{alternatives_by, is_over, over_full}
use Rattle.reading.specs.BookArea.{nodes_in}
use Rattle.book_progression.specs.NodeBytes.{HeldBook, IsHeld, MarkedState}
use Rattle.set_bytes.specs.SetBytes.{set_in, answered}
use Rattle.set_bytes.proofs.Sets.{answered_these, answered_over}
use Rattle.book_alternatives.specs.Offers.{sets_size, Progressed}
use Rattle.set_index.specs.Entries.{entry_number, entry_first, entry_at}
use Rattle.pair_sets.specs.PairSets.{entry_set, held_set}
use Rattle.pair_sets.proofs.Entries.{set_of_entry}
use Rattle.file_tower.proofs.Laws.{fit_bounds}
use Rattle.pair_trial.specs.Walked.{walked, tower_state}
use Rattle.pair_trial.specs.Trial.{pair_of, pair_in, room_size, OthersWait, WaitsFor, Shared, Trial, ActionTrial, TriedBefore, StepTrial, StepTried, Waits, Trying, Tried, AllTried}
use Rattle.pair_trial.proofs.Walking.{walked_actions, walked_length, walked_marks, action_below, tower_state_inside}
use Rattle.pair_trial.proofs.Waiting.{still_waits, waits_too, candidates_wait}

-- ---- tried_before

-- An action before a is one.
pub action_before : (tower table : List ℕ) (rows : Bool) (b a : ℕ) → b < a → a < (walked tower table rows).actions → b < (walked tower table rows).actions
action_before tower table rows b a l k = omega arith

pub action_before_tower : (tower table : List ℕ) (rows : Bool) (b a : ℕ) → b < a → a < (walked tower table rows).actions → b < (tower_of tower).actions
action_before_tower tower table rows b a l k = omega (arith, walked_actions tower table rows)

pub before_found : (tower table : List ℕ) (rows : Bool) (x z a b : ℕ) (d e : Tick) (q r : Bool) → e ≡ (tower_of tower).step_length z b
    → d ≡ (tower_of tower).step_length z a → q ≡ eqb e.0 d.0 → q ≡ true → r ≡ is_there ((walked tower table rows).target x b) → r ≡ true
    → z ≡ tower_state table rows x → b < a → TriedBefore b (walked tower table rows) x a
before_found tower table rows x z a b d e q r at_e at_d is_q yes_q is_r yes_r at-z l =
    record {
      earlier = l;
      enabled = is_there_out ((walked tower table rows).target x b) (sym is_r ∙ yes_r);
      same_length =
          walked_length tower table rows x b
          ∙ ap (λ y. (tower_of tower).step_length y b) (sym at-z)
          ∙ sym at_e ∙ ap (λ (n : ℕ). record { 0 = n }) (eqb-true e.0 d.0 (sym is_q ∙ yes_q)) ∙ at_d
          ∙ ap (λ y. (tower_of tower).step_length y a) at-z
          ∙ sym (walked_length tower table rows x a);
    }

-- ---- try_step

module _ (tower nodes area : List ℕ) (i z a left first last mask : ℕ) (d : Tick) (room sets middle : List ℕ)
    (progressed : Progressed left nodes mask d area (60 * first) (last - first) room sets middle)
    (at_d : d ≡ (tower_of tower).step_length z a) (at_mask : mask ≡ mask_of tower z) (at_first : first ≡ entry_first area i)
    (at_last : last ≡ entry_first area (i + 1)) where
  -- what comes of the alternatives of entry i
  came : (book : Book) → HeldBook nodes book → (at : MarkedState (mask_of tower z))
      → answered sets (nodes_in nodes) 58560 left
      ≡ progressed_set at.tower book at.state ((tower_of tower).step_length z a) (entry_set nodes area i)
  unfolding entry_set
  came book held at =
      (subst (λ m. Progressed left nodes m d area (60 * first) (last - first) room sets middle) at_mask progressed).says book held at
      ∙ ap₂ (λ e ps. progressed_set at.tower book at.state e ps) at_d
      (ap₂ (λ (s t : ℕ). set_in area (nodes_in nodes) (60 * s) (t - s)) at_first at_last)

  pub step_over : 16 < left → StepTried true tower nodes area i z a room middle
  step_over many =
      record {
        over_16 = λ _ book held at. sym (came book held at) ∙ answered_over sets (nodes_in nodes) 58560 left many;
        others = λ e. absurd (let y : ◌≡◌ {A = ℕ} 0 1 = cc in omega arith);
        few = λ e. absurd (let y : ◌≡◌ {A = ℕ} 0 1 = cc in omega arith);
        place = λ e. absurd (let y : ◌≡◌ {A = ℕ} 0 1 = cc in omega arith);
        waits = λ e. absurd (let y : ◌≡◌ {A = ℕ} 0 1 = cc in omega arith);
      }

  pub step_waits : (after : List ℕ) → WaitsFor nodes sets left a middle after → left ≤ 16 → a < 16 → StepTried false tower nodes area i z a room after
  step_waits after waits few low =
      record {
        over_16 = λ e. absurd (let y : ◌≡◌ {A = ℕ} 0 1 = cc in omega arith);
        others = λ _. candidates_wait a room middle after (omega arith) progressed.candidates waits.others;
        few = λ _. omega (arith, waits.count);
        place = λ _. waits.place;
        waits = λ _ book held at. sym (came book held at) ∙ answered_these sets (nodes_in nodes) 58560 left few ∙ ap these (sym waits.is);
      }

-- There is room for the old alternatives,
pub old_inside : (tower nodes area : List ℕ) (i z a first last : ℕ) → first ≡ entry_first area i → last ≡ entry_first area (i + 1)
    → StepTrial tower nodes area i z a → 60 * first + 60 * (last - first) ≤ length area
old_inside tower nodes area i z a first last e f trial = omega (arith, trial.rising, trial.inside, trial.size)

-- for sets and candidates as before,
pub sets_still : (before after : List ℕ) → length after ≡ length before → sets_size ≤ length before → sets_size ≤ length after
sets_still before after e l = omega arith

-- and a set for the action.
pub action_few : (tower : List ℕ) (a : ℕ) → FitTower tower → a < (tower_of tower).actions → a < 16
action_few tower a fit l = omega (arith, (fit_bounds fit).actions_most)

-- ---- try_action

-- What comes of pair i by action a, by the state that it leaves.
by_state : (tower table : List ℕ) (rows : Bool) (nodes area : List ℕ) (i a x z : ℕ) (book : Book) → IsHeld nodes
    → x ≡ entry_number area i → z ≡ tower_state table rows x
    → alternatives_by (walked tower table rows) book (pair_in nodes area i) a
    ≡ progressed_set (walked tower table rows) book x ((tower_of tower).step_length z a) (entry_set nodes area i)
unfolding alternatives_by pair_of entry_at
by_state tower table rows nodes area i a x z book held at_x at-z =
    ap (λ ps. progressed_set (walked tower table rows) book (entry_number area i) ((walked tower table rows).step_length (entry_number area i) a) ps)
    (sym (set_of_entry nodes area i held))
    ∙ ap (λ (y : ℕ). progressed_set (walked tower table rows) book y ((walked tower table rows).step_length y a) (entry_set nodes area i)) (sym at_x)
    ∙ ap (λ e. progressed_set (walked tower table rows) book x e (entry_set nodes area i))
    (walked_length tower table rows x a ∙ ap (λ (y : ℕ). (tower_of tower).step_length y a) (sym at-z))

-- Actions whose steps are of one length give the same.
by_length : (tower : Tower) (nodes area : List ℕ) (i a b : ℕ) (book : Book)
    → tower.step_length (entry_number area i) b ≡ tower.step_length (entry_number area i) a
    → alternatives_by tower book (pair_in nodes area i) a ≡ alternatives_by tower book (pair_in nodes area i) b
unfolding alternatives_by pair_of entry_at
by_length tower nodes area i a b book same =
    ap (λ e. progressed_set tower book (entry_number area i) e (held_set nodes (entry_at area i))) (sym same)

-- One action more waits.
module _ (tower : Tower) (nodes area : List ℕ) (i a : ℕ) (room after : List ℕ) (held : IsHeld nodes) (low : a < 16) (space : room_size ≤ length room) where
  one_more_waits : OthersWait a room after → ((y : ℕ) → tower.target (entry_number area i) a ≡ Some y → Waits tower nodes area i after a)
      → Trying tower nodes area i room a → Trying tower nodes area i after (a + 1)
  one_more_waits others here trying = record { waits = λ b y l e. go b y l e (dec_lt b a) }
    where
      go : (b y : ℕ) → b < a + 1 → tower.target (entry_number area i) b ≡ Some y → Dec (b < a) → Waits tower nodes area i after b
      go b y l e (yes m) =
          let was = trying.waits b y m e in
          record {
            few = omega (arith, was.few, others.counts b m);
            place = omega (arith, was.place, others.places b m);
            is = λ h. was.is h ∙ ap these (sym (still_waits nodes room after a b held others m low space was.few was.place));
          }
      go b y l e (no m) =
          let same : b ≡ a = omega arith in
          subst (λ (c : ℕ). Waits tower nodes area i after c) (sym same) (here y (subst (λ (c : ℕ). tower.target (entry_number area i) c ≡ Some y) same e))

-- In the room nothing has changed.
others_stay : (a : ℕ) (room : List ℕ) → OthersWait a room room
others_stay a room = record { size = refl; sets = λ p l m. refl; counts = λ b l. refl; places = λ b l. refl }

-- The action is not enabled.
pub try_not : (tower table : List ℕ) (rows : Bool) (nodes area : List ℕ) (i a x : ℕ) (room : List ℕ) (r : Bool)
    → r ≡ is_there ((walked tower table rows).target x a) → r ≡ false → x ≡ entry_number area i → Trial tower table rows nodes area i
    → a < (walked tower table rows).actions → room_size ≤ length room → Tried false (walked tower table rows) nodes area i a room room
try_not tower table rows nodes area i a x room r is_r no_r at_x trial listed space =
    record {
      enabled = λ e. absurd (let y : ◌≡◌ {A = ℕ} 0 1 = cc in omega arith);
      over_16 = λ e. absurd (let y : ◌≡◌ {A = ℕ} 0 1 = cc in omega arith);
      waiting = λ _ trying.
          one_more_waits (walked tower table rows) nodes area i a room room trial.world.held (omega (arith, trial.world.files.search.actions_most)) space
          (others_stay a room) (λ y e. none-some nowhere e) trying;
    }
  where
    nowhere : (walked tower table rows).target (entry_number area i) a ≡ None
    nowhere = ap (λ (y : ℕ). (walked tower table rows).target y a) (sym at_x) ∙ not_there ((walked tower table rows).target x a) (sym is_r ∙ no_r)

-- What waits of an earlier one waits of it too.
pub try_shared : (tower table : List ℕ) (rows : Bool) (nodes area : List ℕ) (i a b x : ℕ) (room after : List ℕ) → Shared a b room after
    → TriedBefore b (walked tower table rows) x a → ActionTrial tower table rows nodes area i x a → room_size ≤ length room
    → Tried false (walked tower table rows) nodes area i a room after
try_shared tower table rows nodes area i a b x room after shared before ready space =
    record {
      enabled = λ e. absurd (let y : ◌≡◌ {A = ℕ} 0 1 = cc in omega arith);
      over_16 = λ e. absurd (let y : ◌≡◌ {A = ℕ} 0 1 = cc in omega arith);
      waiting = λ _ trying.
          one_more_waits (walked tower table rows) nodes area i a room after trial.world.held low space shared.others
          (λ y e. here (trying.waits b before.enabled.0 before.earlier enabled)) trying;
    }
  where
    trial : Trial tower table rows nodes area i
    trial = ready.trial

    at_x : x ≡ entry_number area i
    at_x = ready.at

    low : a < 16
    low = omega (arith, trial.world.files.search.actions_most, ready.listed)

    enabled : (walked tower table rows).target (entry_number area i) b ≡ Some before.enabled.0
    enabled = ap (λ (y : ℕ). (walked tower table rows).target y b) (sym at_x) ∙ before.enabled.1

    one_length : (walked tower table rows).step_length (entry_number area i) b ≡ (walked tower table rows).step_length (entry_number area i) a
    one_length = ap₂ (λ (y z : ℕ). (walked tower table rows).step_length y z) (sym at_x) refl ∙ before.same_length
        ∙ ap₂ (λ (y z : ℕ). (walked tower table rows).step_length y z) at_x refl

    here : Waits (walked tower table rows) nodes area i room b → Waits (walked tower table rows) nodes area i after a
    here was =
        record {
          few = omega (arith, was.few, shared.count);
          place = omega (arith, was.place, shared.place);
          is = λ h.
              by_length (walked tower table rows) nodes area i a b h.book one_length
              ∙ was.is h ∙ ap these (sym (waits_too nodes room after a b trial.world.held shared before.earlier low space was.few was.place));
        }

-- It is tried for the first time.
pub try_stepped : (full : Bool) (tower table : List ℕ) (rows : Bool) (nodes area : List ℕ) (i a x z : ℕ) (room after : List ℕ)
    → StepTried full tower nodes area i z a room after → z ≡ tower_state table rows x → ActionTrial tower table rows nodes area i x a
    → room_size ≤ length room → Tried full (walked tower table rows) nodes area i a room after
unfolding walked_marks
try_stepped full tower table rows nodes area i a x z room after stepped at-z ready space =
    record {
      enabled = λ _. (there.0, ap (λ (y : ℕ). (walked tower table rows).target y a) (sym at_x) ∙ there.1);
      over_16 = λ e h. by_state tower table rows nodes area i a x (tower_state table rows x) h.book h at_x refl
          ∙ step.over_16 e h.book h.held (walked_marks tower table rows x);
      waiting = λ e trying.
          one_more_waits (walked tower table rows) nodes area i a room after trial.world.held low space (stepped.others e)
          (λ y f. record {
            few = stepped.few e;
            place = omega (arith, stepped.place e);
            is = λ h. by_state tower table rows nodes area i a x (tower_state table rows x) h.book h at_x refl
                ∙ step.waits e h.book h.held (walked_marks tower table rows x);
          }) trying;
    }
  where
    trial : Trial tower table rows nodes area i
    trial = ready.trial

    at_x : x ≡ entry_number area i
    at_x = ready.at

    low : a < 16
    low = omega (arith, trial.world.files.search.actions_most, ready.listed)

    there : (y : ℕ) × ((walked tower table rows).target x a ≡ Some y)
    there = is_there_out ((walked tower table rows).target x a) ready.enabled

    step : StepTried full tower nodes area i (tower_state table rows x) a room after
    step = subst (λ (y : ℕ). StepTried full tower nodes area i y a room after) at-z stepped

-- What the callees ask.
module _ (tower table : List ℕ) (rows : Bool) (nodes area : List ℕ) (i : ℕ) where
  pub trial_state : (x : ℕ) → x ≡ entry_number area i → Trial tower table rows nodes area i → x < (walked tower table rows).states
  trial_state x e trial = rw e trial.state

  pub trial_action : (a x : ℕ) (r : Bool) → r ≡ is_there ((walked tower table rows).target x a) → r ≡ true → x ≡ entry_number area i
      → Trial tower table rows nodes area i → a < (walked tower table rows).actions → ActionTrial tower table rows nodes area i x a
  trial_action a x r is_r yes_r at_x trial listed = record { trial = trial; listed = listed; at = at_x; enabled = sym is_r ∙ yes_r }

  pub enabled_state : (a x : ℕ) → ActionTrial tower table rows nodes area i x a → x < (walked tower table rows).states
  enabled_state a x ready = trial_state x ready.at ready.trial

  pub enabled_few : (a x : ℕ) → ActionTrial tower table rows nodes area i x a → a < 16
  enabled_few a x ready = omega (arith, ready.listed, ready.trial.world.files.search.actions_most)

  pub trial_step : (a x z : ℕ) → z ≡ tower_state table rows x → ActionTrial tower table rows nodes area i x a → StepTrial tower nodes area i z a
  trial_step a x z at-z ready =
      let trial = ready.trial in
      record {
        fit = trial.world.files.fit;
        state = tower_state_inside tower table rows x z at-z trial.world.files (trial_state x ready.at trial);
        action = action_below tower table rows a ready.listed;
        held = trial.world.held;
        size = trial.size;
        rising = trial.rising;
        inside = trial.inside;
        low = trial.low;
      }

-- ---- try_all

-- The actions are those of the tower.
pub all_listed : (tower table : List ℕ) (rows : Bool) (a n : ℕ) → n ≡ (tower_of tower).actions → a < n → a < (walked tower table rows).actions
all_listed tower table rows a n e l = omega (arith, walked_actions tower table rows)

pub all_behind : (tower table : List ℕ) (rows : Bool) (a n : ℕ) → n ≡ (tower_of tower).actions → n ≤ a → (walked tower table rows).actions ≤ a
all_behind tower table rows a n e l = omega (arith, walked_actions tower table rows)

module _ (tower : Tower) (nodes area : List ℕ) (i : ℕ) where
  pub trying_start : (room : List ℕ) → Trying tower nodes area i room 0
  trying_start room = record { waits = λ a y l e. absurd (omega arith) }

  pub trying_next : (full : Bool) (a : ℕ) (room after : List ℕ) → Tried full tower nodes area i a room after → full ≡ false
      → Trying tower nodes area i room a → Trying tower nodes area i after (a + 1)
  trying_next full a room after tried e trying = tried.waiting e trying

  -- the test of the definition for one action
  abbrev test : Book → ℕ → Bool
  test book a = there_with (λ y. is_over (alternatives_by tower book (pair_in nodes area i) a)) (tower.target (entry_number area i) a)

  is_test : (book : Book) → over_full tower book (pair_in nodes area i) ≡ some_of (test book) (below tower.actions)
  unfolding over_full pair_of entry_at
  is_test book = refl

  pub tried_over : (full : Bool) (a : ℕ) (room after : List ℕ) → Tried full tower nodes area i a room after → full ≡ true → a < tower.actions
      → AllTried true tower nodes area i after
  unfolding is_over
  tried_over full a room after tried e listed =
      record {
        says = λ h. sym (is_test h.book ∙ below_some (test h.book) tower.actions a listed
            (there_with_in (λ y. is_over (alternatives_by tower h.book (pair_in nodes area i) a)) (tried.enabled e).1
            (ap is_over (tried.over_16 e h))));
        waiting = λ f. absurd (let y : ◌≡◌ {A = ℕ} 0 1 = cc in omega arith);
      }

  pub tried_all : (a : ℕ) (room : List ℕ) → Trying tower nodes area i room a → tower.actions ≤ a → AllTried false tower nodes area i room
  unfolding is_over
  tried_all a room trying l =
      record {
        says = λ h. sym (is_test h.book ∙ false_by (some_of (test h.book) (below tower.actions)) (λ t.
            let (b, listed, f) = some_below (test h.book) tower.actions t in
            let (y, goes, many) = there_with_out (λ y. is_over (alternatives_by tower h.book (pair_in nodes area i) b)) (tower.target (entry_number area i) b) f in
            never_both many (ap is_over ((trying.waits b y (omega arith) goes).is h))));
        waiting = λ _. record { waits = λ b y k e. trying.waits b y (omega arith) e };
      }
