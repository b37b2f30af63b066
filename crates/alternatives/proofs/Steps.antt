-- Pairs along a run: what a step of a pair is, and what the rest of a run has to meet before and after it.
use Prim.Native.Nat.{ℕ, suc, ◌+◌, ◌<◌}
use native.Mathlib.Omega.{arith}
use mathlib.Core.Path.{◌≡◌, refl, sym, ◌∙◌, ap, subst}
use mathlib.Core.Logic.Iff
use mathlib.Core.Logic.{◌⊎◌, inl, inr, ⊎_elim, ◌↔◌}
use mathlib.Core.Bool.{Bool, true, false}
use Rattle.std.specs.Prelude.{Option, None, Some}
use Rattle.base.specs.Options.{bind}
use Rattle.base.proofs.Options.{bind-eq-some_iff, none-ne-some, some-injective}
use mathlib.Core.List.Memᴰ
use mathlib.Core.List.{List, [], ◌∷◌, ◌++◌, append-nil, Memᴰ}
use lib.ListN.{length, length-append}
use Rattle.base.specs.Choice.{pick}
use Rattle.base.specs.Lists.{there_with}
use Rattle.base.proofs.Lists.{never_both, below_some, some_below, there_with_in, there_with_out, some_one}
use Rattle.logic.specs.Tower.{Tower, Listed}
use Rattle.logic.specs.Book.{nodes, Book, FitBook}
use Rattle.logic.specs.Runs.{leads, Moment, Trace, trace_from, duration}
use Rattle.logic.proofs.Leads.{leads_nil, leads_step, leads_out, leads_in, leads_past}
use Rattle.pending.specs.Pending.{Pending}
use Rattle.pending.proofs.Kept.{Then}
use Rattle.pending.proofs.Nodes.{fit_sits}
use Rattle.pending.proofs.Asked.{Each, NodesNow, RuleNow, meets_end, book_stands, Asked, AskedLater, meets_now}
use Rattle.alternatives.specs.Alternatives.{Alternatives, over, these, broken, joined_with}
use Rattle.alternatives.specs.Progression.{nothing_pending, combined_nodes, combined_rules, alternatives_behind, joined_behind, progressed_set}
use Rattle.alternatives.specs.Pairs.{Pair, alternatives_by, pair_at, tried_step, is_over, over_full, pair_step}
use Rattle.alternatives.specs.Asks.{FulfilsOne}
use Rattle.alternatives.proofs.Meets.{met_in, met_out}
use Rattle.alternatives.proofs.Offers.{OneMet, Offers, offers_iff, offers_nothing, offers_broken, offers_either}
use Rattle.alternatives.proofs.Exact.{merging, offers_nodes, offers_rules}

-- ---- a step in the words of the logic

-- Of one of the alternatives all is kept that is asked where moment m leaves its state.
pub record OneAsked (tower : Tower) (book : Book) (m : Moment) (run : Trace) (ps : List Pending) : Type 0 where
  pub alternative : Pending
  pub listed : Memᴰ alternative ps
  pub asked : Asked tower book m run alternative

one_asked_cons : (tower : Tower) (book : Book) (m : Moment) (run : Trace) (p : Pending) (ps : List Pending)
    → (Asked tower book m run p ⊎ OneAsked tower book m run ps) ↔ OneAsked tower book m run (p ∷ ps)
one_asked_cons tower book m run p ps = (
  ⊎_elim (λ h. record { alternative = p; listed = Memᴰ.head refl; asked = h })
      (λ one. record { alternative = one.alternative; listed = Memᴰ.tail one.listed; asked = one.asked }),
  λ one. ⊎_elim (λ e. inl (subst (Asked tower book m run) e one.asked))
      (λ k. inr (record { alternative = one.alternative; listed = k; asked = one.asked })) (Memᴰ.cases_cons one.listed),
)

module _ (tower : Tower) (book : Book) (fit : FitBook book) (m : Moment) (run : Trace) where
  -- the alternatives offer the claim P on the rest of the run
  abbrev Gives : Alternatives → Type 0 → Type 0
  Gives = Offers (nodes book) (Then tower m run)

  -- What comes of one old alternative offers what is asked of it.
  offers_behind : (p : Pending) → Gives (alternatives_behind tower book m.state (duration tower m) p) (Asked tower book m run p)
  unfolding alternatives_behind
  offers_behind p =
      offers_iff (nodes book) (Then tower m run)
      (combined_rules tower (nodes book) m.state (duration tower m) book 0 s)
      ((Unit {0} × NodesNow tower m run (nodes book) p) × Each book (RuleNow tower m run)) (Asked tower book m run p)
      (λ h. (h.0.1, h.1), λ h. ((tt, h.0), h.1))
      (offers_rules tower m run (nodes book) book 0 s (Unit {0} × NodesNow tower m run (nodes book) p) (book_stands tower book) fit
      (offers_nodes tower m run (nodes book) (nodes book) 0 p (nothing_pending (nodes book)) (Unit {0})
      (fit_sits book fit) (offers_nothing (nodes book) (Then tower m run) (Unit {0}) tt)))
    where
      s : Alternatives
      s = combined_nodes tower (nodes book) m.state (duration tower m) (nodes book) 0 p (nothing_pending (nodes book))

  offers_joined : (ps : List Pending) (s : Alternatives) (P : Type 0) → Gives s P
      → Gives (joined_behind tower book m.state (duration tower m) ps s) (P ⊎ OneAsked tower book m run ps)
  unfolding joined_behind
  offers_joined [] s P o =
      offers_iff (nodes book) (Then tower m run) s P (P ⊎ OneAsked tower book m run [])
      (inl, ⊎_elim (λ h. h) (λ one. absurd (Memᴰ.not-nil one.listed))) o
  offers_joined (p ∷ ps) s P o =
      offers_iff (nodes book) (Then tower m run) (joined_behind tower book m.state (duration tower m) ps next)
      ((P ⊎ Asked tower book m run p) ⊎ OneAsked tower book m run ps) (P ⊎ OneAsked tower book m run (p ∷ ps)) (
        ⊎_elim (⊎_elim inl (λ h. inr (cons.0 (inl h)))) (λ one. inr (cons.0 (inr one))),
        ⊎_elim (λ h. inl (inl h)) (λ one. ⊎_elim (λ h. inl (inr h)) inr (cons.1 one)),
      )
      (offers_joined ps next (P ⊎ Asked tower book m run p)
      (offers_either (nodes book) (Then tower m run) (merging tower m run (nodes book)) s behind P (Asked tower book m run p) o
      (offers_behind p)))
    where
      behind : Alternatives
      behind = alternatives_behind tower book m.state (duration tower m) p

      next : Alternatives
      next = joined_with (nodes book) s behind

      cons : (Asked tower book m run p ⊎ OneAsked tower book m run ps) ↔ OneAsked tower book m run (p ∷ ps)
      cons = one_asked_cons tower book m run p ps

  -- The alternatives behind a step offer what is asked of one of the old ones.
  pub offers_step : (ps : List Pending) → Gives (progressed_set tower book m.state (duration tower m) ps) (OneAsked tower book m run ps)
  unfolding progressed_set
  offers_step ps =
      offers_iff (nodes book) (Then tower m run) (joined_behind tower book m.state (duration tower m) ps broken)
      (⊥ ⊎ OneAsked tower book m run ps) (OneAsked tower book m run ps) (⊎_elim (λ h. absurd h) (λ one. one), inr)
      (offers_joined ps broken ⊥ (offers_broken (nodes book) (Then tower m run) ⊥ (λ h. h)))

-- A run that begins meets one of the alternatives exactly if it meets what is asked of one of them now, and the `always` rules later.
module _ (tower : Tower) (book : Book) (x a y : ℕ) (u : List ℕ) (enabled : tower.target x a ≡ Some y) where
  abbrev here : Moment
  here = record { state = x; action = a }

  abbrev rest : Trace
  rest = trace_from tower y u

  one_now : (ps : List Pending)
      → FulfilsOne tower book x ps (a ∷ u) ↔ (OneAsked tower book here rest ps × AskedLater tower book rest)
  one_now ps = (
    λ one. let h = (meets_now tower book x a y one.alternative u enabled).0 one.fulfils in
        (record { alternative = one.alternative; listed = one.listed; asked = h.0 }, h.1),
    λ h. record {
      alternative = h.0.alternative;
      listed = h.0.listed;
      fulfils = (meets_now tower book x a y h.0.alternative u enabled).1 (h.0.asked, h.1);
    },
  )

  one_then : (qs : List Pending)
      → FulfilsOne tower book y qs u ↔ (OneMet (nodes book) (Then tower here rest) qs × AskedLater tower book rest)
  one_then qs = (
    λ one. (
      record {
        alternative = one.alternative;
        listed = one.listed;
        met = met_in (Then tower here rest) (nodes book) one.alternative one.fulfils.pending;
      },
      one.fulfils.rules,
    ),
    λ h. record {
      alternative = h.0.alternative;
      listed = h.0.listed;
      fulfils = record { pending = met_out (Then tower here rest) (nodes book) h.0.alternative h.0.met; rules = h.1 };
    },
  )

  -- A run meets a set before a step exactly if its rest meets the set behind it. A broken step leaves none, so it cannot be met.
  pub meets_step : FitBook book → (ps qs : List Pending) → progressed_set tower book x (tower.step_length x a) ps ≡ these qs
      → FulfilsOne tower book x ps (a ∷ u) ↔ FulfilsOne tower book y qs u
  unfolding duration
  meets_step fit ps qs e =
      let offers : OneMet (nodes book) (Then tower here rest) qs ↔ OneAsked tower book here rest ps =
      subst (λ s. Offers (nodes book) (Then tower here rest) s (OneAsked tower book here rest ps)) e (offers_step tower book fit here rest ps) in (
        λ h. (one_then qs).1 (offers.1 ((one_now ps).0 h).0, ((one_now ps).0 h).1),
        λ h. (one_now ps).1 (offers.0 ((one_then qs).0 h).0, ((one_then qs).0 h).1),
      )

-- ---- pairs

-- Some alternative is there.
pub record Standing (v : Pair) : Type 0 where
  pub first : Pending
  pub others : List Pending
  pub are : v.pending ≡ first ∷ others

pair_at_out : (y : ℕ) (s : Alternatives) (w : Pair) → pair_at y s ≡ Some w → (y ≡ w.state) × (s ≡ these w.pending) × Standing w
unfolding pair_at
pair_at_out y over w e = absurd (none-ne-some w e)
pair_at_out y (these []) w e = absurd (none-ne-some w e)
pair_at_out y (these (p ∷ ps)) w e =
    let same : record { state = y; pending = p ∷ ps } ≡ w = some-injective _ w e in
    (ap (λ v. v.state) same, ap (λ v. these v.pending) same, record { first = p; others = ps; are = sym (ap (λ v. v.pending) same) })

-- ---- steps that are tried

pair_at_in : (y : ℕ) (p : Pending) (ps : List Pending) → pair_at y (these (p ∷ ps)) ≡ Some (record { state = y; pending = p ∷ ps })
unfolding pair_at
pair_at_in y p ps = refl

module _ (tower : Tower) (book : Book) where
  -- the step that is tried
  abbrev tried : Pair → ℕ → Option Pair
  tried = tried_step tower book

  -- A tried step goes by an enabled action, and leads to the alternatives that come of those pending; one is left.
  pub tried_step_out : (v w : Pair) (a : ℕ) → tried_step tower book v a ≡ Some w
      → (tower.target v.state a ≡ Some w.state) × (alternatives_by tower book v a ≡ these w.pending) × Standing w
  unfolding tried_step
  tried_step_out v w a e =
      let (y, enabled, there) =
      (bind-eq-some_iff (tower.target v.state a) (λ y. pair_at y (alternatives_by tower book v a))).0 e in
      let (same, next, stands) = pair_at_out y (alternatives_by tower book v a) w there in
      (enabled ∙ ap {B = Option ℕ} Some same, next, stands)

  -- An enabled action leads to the state that it reaches, with the alternatives that are left.
  pub tried_step_at : (v : Pair) (a y : ℕ) → tower.target v.state a ≡ Some y
      → tried_step tower book v a ≡ pair_at y (alternatives_by tower book v a)
  unfolding tried_step bind
  tried_step_at v a y e = rw e

  -- It makes a step where alternatives are left.
  pub tried_step_in : (v w : Pair) (a : ℕ) → tower.target v.state a ≡ Some w.state
      → alternatives_by tower book v a ≡ these w.pending → Standing w → tried_step tower book v a ≡ Some w
  tried_step_in v w a e next stands =
      tried_step_at v a w.state e ∙ ap (pair_at w.state) (next ∙ ap these stands.are) ∙ pair_at_in w.state stands.first stands.others
      ∙ ap (λ ps. Some (record { state = w.state; pending = ps })) (sym stands.are)

  -- Where tried steps lead, the tower leads to their states.
  pub tried_leads_state : (v w : Pair) (u : List ℕ) → leads (tried_step tower book) v u ≡ Some w
      → leads tower.target v.state u ≡ Some w.state
  tried_leads_state v w [] e = leads_nil tower.target v.state ∙ ap (λ z. Some z.state) (some_one (leads_nil tried v) e)
  tried_leads_state v w (a ∷ u) e =
      let (z, step, rest) = leads_out tried v w a u e in
      leads_in tower.target v.state z.state w.state a u (tried_step_out v z a step).0 (tried_leads_state z w u rest)

  -- What tried steps keep holds where they lead.
  pub tried_leads_keeps : (P : Pair → Type 0) → ((v w : Pair) (a : ℕ) → P v → tried_step tower book v a ≡ Some w → P w)
      → (v w : Pair) (u : List ℕ) → P v → leads (tried_step tower book) v u ≡ Some w → P w
  tried_leads_keeps P keeps v w [] h e = subst P (some_one (leads_nil tried v) e) h
  tried_leads_keeps P keeps v w (a ∷ u) h e =
      let (z, step, rest) = leads_out tried v w a u e in tried_leads_keeps P keeps z w u (keeps v z a h step) rest

  -- At the end of a run everything is met where some alternative is there.
  meets_nothing : (v : Pair) → Standing v → FulfilsOne tower book v.state v.pending []
  meets_nothing v stands =
      record {
        alternative = stands.first;
        listed = subst (Memᴰ stands.first) (sym stands.are) (Memᴰ.head refl);
        fulfils = meets_end tower book v.state stands.first;
      }

  -- No step along the run u from v gives over 16 alternatives.
  abbrev pub NoneOver : Pair → List ℕ → Type 0
  NoneOver v u = (t rest : List ℕ) (a : ℕ) (z : Pair) → t ++ (a ∷ rest) ≡ u → leads (tried_step tower book) v t ≡ Some z
      → alternatives_by tower book z a ≡ over → ⊥

  -- It is so of one action, if that does not at v.
  pub one_not_over : (v : Pair) (a : ℕ) → (alternatives_by tower book v a ≡ over → ⊥) → NoneOver v (a ∷ [])
  one_not_over v a few [] rest b z same on many =
      few (subst (λ y. alternatives_by tower book y a ≡ over) (sym (some_one (leads_nil tried v) on))
      (subst (λ c. alternatives_by tower book z c ≡ over) (first_one same) many))
    where
      first_one : {x y : ℕ} {xs ys : List ℕ} → ◌≡◌ {A = List ℕ} (x ∷ xs) (y ∷ ys) → x ≡ y
      first_one e = cc
  one_not_over v a few (c ∷ t) rest b z same on many = absurd (longer (ap length same) (length-append t (b ∷ rest)))
    where
      longer : suc (length (t ++ (b ∷ rest))) ≡ 1 → length (t ++ (b ∷ rest)) ≡ length t + length (b ∷ rest) → ⊥
      longer e f = omega arith

  module _ (fit : FitBook book) where
    -- one step
    by_step : (v z : Pair) (a : ℕ) (u : List ℕ) → tower.target v.state a ≡ Some z.state
        → alternatives_by tower book v a ≡ these z.pending
        → FulfilsOne tower book v.state v.pending (a ∷ u) ↔ FulfilsOne tower book z.state z.pending u
    unfolding alternatives_by
    by_step v z a u enabled next = meets_step tower book v.state a z.state u enabled fit v.pending z.pending next

    -- Behind a way of pairs the rest of the run has to meet one of the alternatives that are pending there.
    pub meets_on : (v w : Pair) (u rest : List ℕ) → leads (tried_step tower book) v u ≡ Some w
        → FulfilsOne tower book v.state v.pending (u ++ rest) ↔ FulfilsOne tower book w.state w.pending rest
    meets_on v w [] rest e =
        let same : v ≡ w = some_one (leads_nil tried v) e in (
          λ h. subst (λ z. FulfilsOne tower book z.state z.pending rest) same h,
          λ h. subst (λ z. FulfilsOne tower book z.state z.pending rest) (sym same) h,
        )
    meets_on v w (a ∷ u) rest e =
        let (z, step, later) = leads_out tried v w a u e in
        let (enabled, next, stands) = tried_step_out v z a step in
        Iff.trans (by_step v z a (u ++ rest) enabled next) (meets_on z w u rest later)

    -- Where tried steps lead, the run meets one of the alternatives.
    pub leads_meets : (v w : Pair) (u : List ℕ) → Standing v → leads (tried_step tower book) v u ≡ Some w
        → FulfilsOne tower book v.state v.pending u
    leads_meets v w u stands e =
        subst (FulfilsOne tower book v.state v.pending) (append-nil u) ((meets_on v w u [] e).1
        (meets_nothing w (tried_leads_keeps Standing (λ x y a h step. (tried_step_out x y a step).2) v w u stands e)))

    -- Where the tower leads and no step gives over 16, the run meets one of the alternatives only if tried steps lead there too.
    pub meets_leads : (v : Pair) (u : List ℕ) (y : ℕ) → NoneOver v u → leads tower.target v.state u ≡ Some y
        → FulfilsOne tower book v.state v.pending u → (w : Pair) × (leads (tried_step tower book) v u ≡ Some w)
    unfolding alternatives_by pair_at
    meets_leads v [] y few e h = (v, leads_nil tried v)
    meets_leads v (a ∷ u) y few e h =
        let (x, enabled, later) = leads_out tower.target v.state y a u e in
        go x enabled later (alternatives_by tower book v a) refl (λ z. meets_leads z u y)
      where
        go : (x : ℕ) → tower.target v.state a ≡ Some x → leads tower.target x u ≡ Some y → (s : Alternatives)
            → alternatives_by tower book v a ≡ s
            → ((z : Pair) → NoneOver z u → leads tower.target z.state u ≡ Some y → FulfilsOne tower book z.state z.pending u
            → (w : Pair) × (leads tried z u ≡ Some w)) → (w : Pair) × (leads tried v (a ∷ u) ≡ Some w)
        go x enabled later over many ih = absurd (few [] u a v refl (leads_nil tried v) many)
        go x enabled later (these []) next ih =
            absurd (Memᴰ.not-nil ((meets_step tower book v.state a x u enabled fit v.pending [] next).0 h).listed)
        go x enabled later (these (p ∷ ps)) next ih =
            let z : Pair = record { state = x; pending = p ∷ ps } in
            let step : tried v a ≡ Some z = tried_step_at v a x enabled ∙ ap (pair_at x) next in
            let (w, led) = ih z (λ t rest b q e on. few (a ∷ t) rest b q (ap (λ l. a ∷ l) e) (leads_step tried v z a t step ∙ on)) later
            ((meets_step tower book v.state a x u enabled fit v.pending (p ∷ ps) next).0 h) in
            (w, leads_step tried v z a u step ∙ led)

-- ---- steps of pairs: an over_full pair is stepped from by no action

is_over_out : (s : Alternatives) → is_over s ≡ true → s ≡ over
unfolding is_over
is_over_out over e = refl
is_over_out (these ps) e = never_both e refl

module _ (tower : Tower) (book : Book) where
  -- the step of a pair
  abbrev move : Pair → ℕ → Option Pair
  move = pair_step tower book

  -- A pair that is stepped from is not over_full, and the step is the one that was tried.
  pub pair_step_tried : (v w : Pair) (a : ℕ) → pair_step tower book v a ≡ Some w → (over_full tower book v ≡ false) × (tried_step tower book v a ≡ Some w)
  unfolding pair_step
  pair_step_tried v w a e = go (over_full tower book v) refl e
    where
      go : (b : Bool) → over_full tower book v ≡ b → pick b (λ _. None) (λ _. tried_step tower book v a) ≡ Some w
          → (over_full tower book v ≡ false) × (tried_step tower book v a ≡ Some w)
      go true full e = absurd (none-ne-some w e)
      go false spare e = (spare, e)

  -- From a pair that is not over_full every tried step is a step.
  pub pair_step_spare : (v : Pair) (a : ℕ) → over_full tower book v ≡ false → pair_step tower book v a ≡ tried_step tower book v a
  unfolding pair_step
  pair_step_spare v a spare = rw spare

  -- A step of a pair goes by an enabled action, and leads to the alternatives that come of those pending; one is left.
  pub pair_step_out : (v w : Pair) (a : ℕ) → pair_step tower book v a ≡ Some w
      → (tower.target v.state a ≡ Some w.state) × (alternatives_by tower book v a ≡ these w.pending) × Standing w
  pair_step_out v w a e = tried_step_out tower book v w a (pair_step_tried v w a e).1

  -- A step of a pair goes by one of the tower's actions.
  pub pair_step_listed : Listed tower → (v w : Pair) (a : ℕ) → pair_step tower book v a ≡ Some w → a < tower.actions
  unfolding Listed
  pair_step_listed listed v w a e = listed v.state a w.state (pair_step_out v w a e).0

  -- Where pairs lead, tried steps lead,
  pub leads_tried : (v w : Pair) (u : List ℕ) → leads (pair_step tower book) v u ≡ Some w → leads (tried_step tower book) v u ≡ Some w
  leads_tried v w [] e = leads_nil (tried_step tower book) v ∙ sym (leads_nil move v) ∙ e
  leads_tried v w (a ∷ u) e =
      let (z, step, rest) = leads_out move v w a u e in
      leads_in (tried_step tower book) v z w a u (pair_step_tried v z a step).1 (leads_tried z w u rest)

  -- and the tower leads to their states.
  pub pair_leads_state : (v w : Pair) (u : List ℕ) → leads (pair_step tower book) v u ≡ Some w
      → leads tower.target v.state u ≡ Some w.state
  pair_leads_state v w u e = tried_leads_state tower book v w u (leads_tried v w u e)

  -- An enabled action from a pair that is not over_full gives no more than 16.
  pub spare_not_over : Listed tower → (v : Pair) (a y : ℕ) → over_full tower book v ≡ false → tower.target v.state a ≡ Some y
      → alternatives_by tower book v a ≡ over → ⊥
  unfolding over_full Listed is_over
  spare_not_over listed v a y spare enabled many =
      never_both (below_some (λ b. there_with (λ z. is_over (alternatives_by tower book v b)) (tower.target v.state b)) tower.actions a
      (listed v.state a y enabled) (there_with_in (λ z. is_over (alternatives_by tower book v a)) enabled (ap is_over many))) spare

  -- A pair that is over_full gives over 16 by some enabled action.
  pub over_full_out : (v : Pair) → over_full tower book v ≡ true
      → (a y : ℕ) × (tower.target v.state a ≡ Some y) × (alternatives_by tower book v a ≡ over)
  unfolding over_full
  over_full_out v full =
      let (a, l, e) = some_below (λ b. there_with (λ z. is_over (alternatives_by tower book v b)) (tower.target v.state b)) tower.actions full in
      let (y, enabled, many) = there_with_out (λ z. is_over (alternatives_by tower book v a)) (tower.target v.state a) e in
      (a, y, enabled, is_over_out (alternatives_by tower book v a) many)

  -- No pair that is led to is over_full.
  abbrev pub Spare : Pair → Type 0
  Spare v = (u : List ℕ) (w : Pair) → leads (pair_step tower book) v u ≡ Some w → over_full tower book w ≡ false

  -- Then pairs lead where tried steps do,
  pub spare_leads : (v w : Pair) (u : List ℕ) → Spare v → leads (tried_step tower book) v u ≡ Some w → leads (pair_step tower book) v u ≡ Some w
  spare_leads v w [] spare e = leads_nil move v ∙ sym (leads_nil (tried_step tower book) v) ∙ e
  spare_leads v w (a ∷ u) spare e =
      let (z, step, rest) = leads_out (tried_step tower book) v w a u e in
      let here : move v a ≡ Some z = pair_step_spare v a (spare [] v (leads_nil move v)) ∙ step in
      leads_in move v z w a u here (spare_leads z w u (λ t y on. spare (a ∷ t) y (leads_step move v z a t here ∙ on)) rest)

  -- and no step along a run of the tower gives over 16.
  pub spare_none_over : Listed tower → (v : Pair) (u : List ℕ) (y : ℕ) → Spare v → leads tower.target v.state u ≡ Some y
      → NoneOver tower book v u
  spare_none_over listed v u y spare e t rest a z same on many =
      let run : leads tower.target z.state (a ∷ rest) ≡ Some y =
      sym (leads_past tower.target v.state z.state t (a ∷ rest) (tried_leads_state tower book v z t on))
      ∙ ap (leads tower.target v.state) same ∙ e in
      let (x, enabled, later) = leads_out tower.target z.state y a rest run in
      spare_not_over listed z a x (spare t z (spare_leads v z t spare on)) enabled many
