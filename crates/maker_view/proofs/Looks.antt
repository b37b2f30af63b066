-- What the code sees of a pair is what the view has of it.
use Prim.Native.Nat.{ℕ, ◌+◌, ◌*◌, ◌%◌, ◌≤◌, ◌<◌}
use native.Mathlib.Omega.{arith}
use native.Mathlib.Numerals.{add-one}
use mathlib.Core.Path.{◌≡◌, refl, sym, ap, ◌∙◌}
use mathlib.Core.Bool.{Bool, true, false}
use mathlib.Core.List.{List}
use lib.ListN.{length, get_or}
use lib.Dec.{eqb}
use borrow.Author.Tests.{eq-eqb, eqb-true}
use mir.Syntax.{w8, w64}
use mir.Val.{Fits}
use Rattle.base.specs.Bytes.{number_at}
use Rattle.base.specs.Lists.{every, below}
use Rattle.base.proofs.Lists.{never_both, every_below}
use Rattle.pair_graph.specs.Steps.{class_in, state_in, led_to, FlaggedGraph}
use Rattle.std.specs.Prelude.{Option, Some, None}
use Rattle.pair_graph.proofs.Moves.{led_some, led_none, allowed_below}
use Rattle.area_bytes.proofs.Scans.{Left, every_end}
use Rattle.maker_view.specs.View.{View, shown, shows_in, same_shows, view_of, bucket_upto, bucket_of}
use Rattle.maker_view.specs.View.{Seen, Tells, IsBucket}

-- ---- what an action shows

-- A two-byte number and 1.
pub more_fits : (l : List ℕ) (p r : ℕ) → r ≡ number_at 2 l p → ((j : ℕ) → Fits w8 (get_or l j 0)) → Fits w64 (r + 1)
unfolding number_at
more_fits l p r e h = omega (arith, h p, h (p + 1))

module _ (graph flags classes : List ℕ) (i a : ℕ) (r : Option ℕ) (is_r : r ≡ (led_to graph flags i a)) where
  -- An action that is not allowed shows 0.
  pub shows_none : r ≡ None → Seen 0 (shows_in graph flags classes i a)
  unfolding shows_in shown
  shows_none e = record { is = rw (led_none (led_to graph flags i a) r is_r e); within = omega arith }

  module _ (j : ℕ) (is_to : r ≡ Some j) where
    -- The pair that an allowed one leads to has its class there,
    pub target_there : (pairs actions : ℕ) → FlaggedGraph pairs actions graph flags → i < pairs → a < actions → 2000 ≤ length classes
        → 2 * j + 1 < length classes
    target_there pairs actions held l k room =
        omega (arith, allowed_below graph flags pairs actions i a j held l k (led_some (led_to graph flags i a) r j is_r is_to), held.graph.pairs_most)

    -- and it shows that class plus 1.
    pub shows_class : (c : ℕ) → c ≡ class_in classes j → ((j : ℕ) → Fits w8 (get_or classes j 0)) → Seen (c + 1) (shows_in graph flags classes i a)
    unfolding shows_in shown number_at
    shows_class c e h =
        record {
          is = rw (led_some (led_to graph flags i a) r j is_r is_to) (ap (λ x. x + 1) e);
          within = omega (arith, h (2 * j), h (2 * j + 1));
        }

-- ---- looking the same

module _ (graph flags : List ℕ) (actions : ℕ) (classes : List ℕ) (i j r s : ℕ) where
  -- Other states.
  pub other_state : r ≡ state_in graph i → s ≡ state_in graph j → (r ≡ s → ⊥) → Tells (view_of graph flags actions classes) i j false
  unfolding view_of
  other_state hr hs f = record { same = λ e. never_both e refl; other = λ e a. f (hr ∙ a.state ∙ sym hs) }

  -- Other classes.
  pub other_class : r ≡ class_in classes i → s ≡ class_in classes j → (r ≡ s → ⊥) → Tells (view_of graph flags actions classes) i j false
  unfolding view_of
  other_class hr hs f = record { same = λ e. never_both e refl; other = λ e a. f (hr ∙ a.class ∙ sym hs) }

-- What is read of both.
pub shows_both : (graph flags classes : List ℕ) (i j a r s : ℕ) → Seen r (shows_in graph flags classes i a)
    → Seen s (shows_in graph flags classes j a) → eqb r s ≡ same_shows graph flags classes i j a
unfolding same_shows
shows_both graph flags classes i j a r s hr hs = rw (hr.is, hs.is)

module _ (graph flags : List ℕ) (actions : ℕ) (classes : List ℕ) (i j a : ℕ)
    (left : Left (every (same_shows graph flags classes i j)) 0 actions actions a) where
  -- An action shows something else.
  pub other_step : (r : Bool) → a < actions → r ≡ same_shows graph flags classes i j a → r ≡ false
      → Tells (view_of graph flags actions classes) i j false
  unfolding view_of same_shows
  other_step r l e f =
      record {
        same = λ g. never_both g refl;
        other = λ g b. never_both (eq-eqb (shows_in graph flags classes i a) (shows_in graph flags classes j a) (b.shows a l)) (sym e ∙ f);
      }

  -- State and class are equal, and all actions show the same.
  pub all_same : (p q r s : ℕ) → actions ≤ a → p ≡ state_in graph i → q ≡ state_in graph j → p ≡ q → r ≡ class_in classes i
      → s ≡ class_in classes j → r ≡ s → Tells (view_of graph flags actions classes) i j true
  unfolding view_of same_shows below
  all_same p q r s l hp hq e hr hs f =
      let all = every_end (same_shows graph flags classes i j) 0 actions actions a left (every (same_shows graph flags classes i j) (below actions)) refl l in
      record {
        same =
            λ _.
            record {
              state = sym hp ∙ e ∙ hq;
              class = sym hr ∙ f ∙ hs;
              shows = λ b m. eqb-true (shows_in graph flags classes i b) (shows_in graph flags classes j b) (every_below (same_shows graph flags classes i j) actions b (sym all) m);
            };
        other = λ g. never_both refl g;
      }

-- ---- buckets

-- What the sum begins with.
pub first_fits : (l : List ℕ) (p r : ℕ) → r ≡ number_at 2 l p → ((j : ℕ) → Fits w8 (get_or l j 0)) → Fits w64 (r * 31)
unfolding number_at
first_fits l p r e h = omega (arith, h p, h (p + 1))

pub both_fit : (l m : List ℕ) (p q r s : ℕ) → r ≡ number_at 2 l p → ((j : ℕ) → Fits w8 (get_or l j 0)) → s ≡ number_at 2 m q
    → ((j : ℕ) → Fits w8 (get_or m j 0)) → Fits w64 (r * 31 + s)
unfolding number_at
both_fit l m p q r s e h f k = omega (arith, h p, h (p + 1), k q, k (q + 1))

-- The sum has come to action a.
pub record Summing (v : View) (i a sum : ℕ) : Type 0 where
  pub is : sum ≡ bucket_upto v i a
  pub within : sum < 1021

module _ (graph flags : List ℕ) (actions : ℕ) (classes : List ℕ) (i : ℕ) where
  -- It begins with state and class.
  pub sum_start : (r s : ℕ) → r ≡ state_in graph i → s ≡ class_in classes i
      → Summing (view_of graph flags actions classes) i 0 ((r * 31 + s) % 1021)
  unfolding view_of bucket_upto
  sum_start r s hr hs = record { is = rw (hr, hs); within = omega arith }

  -- One more action.
  pub sum_more : (a sum r : ℕ) → Summing (view_of graph flags actions classes) i a sum → Seen r (shows_in graph flags classes i a)
      → Summing (view_of graph flags actions classes) i (a + 1) ((sum * 31 + r) % 1021)
  unfolding view_of bucket_upto
  sum_more a sum r h hr = record { is = rw (add-one a, h.is, hr.is); within = omega arith }

  -- All of them.
  pub sum_end : (a sum : ℕ) → Summing (view_of graph flags actions classes) i a sum → a ≤ actions → actions ≤ a
      → IsBucket (view_of graph flags actions classes) i sum
  unfolding view_of bucket_of
  sum_end a sum h le ge =
      let same : a ≡ actions = omega arith in
      record { is = h.is ∙ ap (bucket_upto (view_of graph flags actions classes) i) same; within = h.within }
