-- What a set of alternatives offers: a claim on the rest of the run, which holds exactly if one of the alternatives is met. The steps that the
-- progression of a set is made of. Where they are over 16 nothing is said.
use Prim.Native.Nat.{ℕ, ◌<◌}
use mathlib.Core.Path.{◌≡◌, refl, sym, subst}
use mathlib.Core.Logic.{◌⊎◌, inl, inr, ⊎_elim, ◌↔◌}
use mathlib.Core.Bool.{Bool, true, false, false≢true}
use mathlib.Core.List.Memᴰ
use mathlib.Core.List.{List, [], ◌∷◌, ◌++◌, map, Memᴰ}
use lib.ListN.{length, get_or}
use lib.Dec.{ltb}
use Rattle.base.specs.Choice.{pick}
use Rattle.logic.specs.Book.{Formula, constant}
use Rattle.logic.specs.declared.Tick.{Tick}
use Rattle.pending.specs.Pending.{Pending}
use Rattle.pending.specs.Asks.{with_left}
use Rattle.alternatives.specs.Alternatives.{Alternatives, over, these, broken, both, together, set_of, most_alternatives, counted, combined, joined_with}
use Rattle.alternatives.specs.Progression.{nothing_pending, alone_pending, if_so}
use Rattle.alternatives.proofs.Antichain.{set_from, set_covers}
use Rattle.alternatives.proofs.Meets.{Merging, Met, met_none, met_alone, met_both, met_less}

-- Each of ps together with each of qs: what is there comes of one of either.
pub record Pairing (fs : List Formula) (ps qs : List Pending) (z : Pending) : Type 0 where
  pub first : Pending
  pub second : Pending
  pub first_listed : Memᴰ first ps
  pub second_listed : Memᴰ second qs
  pub is : both fs first second ≡ z

pub together_out : (fs : List Formula) (ps qs : List Pending) {z : Pending} → Memᴰ z (together fs ps qs) → Pairing fs ps qs z
unfolding together
together_out fs [] qs m = absurd (Memᴰ.not-nil m)
together_out fs (p ∷ ps) qs {z} m =
    go (λ n. together_out fs ps qs n) (Memᴰ.append_cases (map (both fs p) qs) m)
  where
    go : (Memᴰ z (together fs ps qs) → Pairing fs ps qs z) → Memᴰ z (map (both fs p) qs) ⊎ Memᴰ z (together fs ps qs)
        → Pairing fs (p ∷ ps) qs z
    go ih (inl n) =
        let (q, listed, e) = Memᴰ.of_map (both fs p) qs n in
        record { first = p; second = q; first_listed = Memᴰ.head refl; second_listed = listed; is = e }
    go ih (inr n) =
        let c = ih n in
        record {
          first = c.first;
          second = c.second;
          first_listed = Memᴰ.tail c.first_listed;
          second_listed = c.second_listed;
          is = c.is;
        }

pub together_in : (fs : List Formula) (p q : Pending) (ps qs : List Pending) → Memᴰ p ps → Memᴰ q qs
    → Memᴰ (both fs p q) (together fs ps qs)
unfolding together
together_in fs p q [] qs m n = absurd (Memᴰ.not-nil m)
together_in fs p q (x ∷ ps) qs m n = go (λ k. together_in fs p q ps qs k n) (Memᴰ.cases_cons m)
  where
    go : (Memᴰ p ps → Memᴰ (both fs p q) (together fs ps qs)) → (p ≡ x) ⊎ Memᴰ p ps
        → Memᴰ (both fs p q) (map (both fs x) qs ++ together fs ps qs)
    go ih (inl e) =
        Memᴰ.append_left (together fs ps qs) (subst (λ z. Memᴰ (both fs p q) (map (both fs z) qs)) e (Memᴰ.map (both fs p) n))
    go ih (inr k) = Memᴰ.append_right (map (both fs x) qs) (ih k)

-- One of the alternatives is met, where Q says of a formula that the rest of the run keeps it.
pub record OneMet (fs : List Formula) (Q : Formula → Type 0) (ps : List Pending) : Type 0 where
  pub alternative : Pending
  pub listed : Memᴰ alternative ps
  pub met : Met Q fs alternative

-- The alternatives offer the claim P.
abbrev pub Offers : List Formula → (Formula → Type 0) → Alternatives → Type 0 → Type 0
Offers fs Q over P = Unit {0}
Offers fs Q (these ps) P = OneMet fs Q ps ↔ P

module _ (fs : List Formula) (Q : Formula → Type 0) where
  -- The claim may be put in other words.
  pub offers_iff : (s : Alternatives) (P P' : Type 0) → P ↔ P' → Offers fs Q s P → Offers fs Q s P'
  offers_iff over P P' e o = tt
  offers_iff (these ps) P P' e o = (λ h. e.0 (o.0 h), λ h. o.1 (e.1 h))

  -- Nothing pending offers what holds.
  pub offers_nothing : (P : Type 0) → P → Offers fs Q (nothing_pending fs) P
  unfolding nothing_pending
  offers_nothing P h =
      (λ one. h, λ also. record { alternative = _; listed = Memᴰ.head refl; met = met_none Q fs })

  -- No alternative offers what cannot be.
  pub offers_broken : (P : Type 0) → (P → ⊥) → Offers fs Q broken P
  offers_broken P no_way = (λ one. absurd (Memᴰ.not-nil one.listed), λ h. absurd (no_way h))

  -- A node that is alone pending offers what it asks.
  pub offers_alone : (k : ℕ) (r : Tick) → k < length fs → Offers fs Q (alone_pending fs k r) (Q (with_left (get_or fs k (constant false)) r))
  unfolding alone_pending
  offers_alone k r below = (
    λ one. (met_alone Q fs k r below).0 (subst (Met Q fs) (Memᴰ.eq_of_singleton one.listed) one.met),
    λ h. record { alternative = _; listed = Memᴰ.head refl; met = (met_alone Q fs k r below).1 h },
  )

  -- A test that has to hold.
  pub offers_if : (b : Bool) (s : Alternatives) (P : Type 0) → Offers fs Q s P → Offers fs Q (if_so b s) ((b ≡ true) × P)
  unfolding if_so
  offers_if true s P o = offers_iff s P ((true ≡ true) × P) (λ h. (refl, h), λ h. h.1) o
  offers_if false s P o = offers_broken ((false ≡ true) × P) (λ h. false≢true h.0)

  -- A claim that is made only if another, which a test decides, does not hold.
  pub offers_unless : (b : Bool) (s : Alternatives) (P P' : Type 0) → ((b ≡ true) ↔ P) → Offers fs Q s P'
      → Offers fs Q (pick b (λ _. nothing_pending fs) (λ _. s)) (P ⊎ P')
  offers_unless true s P P' e o = offers_nothing (P ⊎ P') (inl (e.0 refl))
  offers_unless false s P P' e o = offers_iff s P' (P ⊎ P') (inr, ⊎_elim (λ h. absurd (false≢true (e.1 h))) (λ h. h)) o

  offers_counted : (ps : List Pending) (P : Type 0) → (OneMet fs Q ps ↔ P) → Offers fs Q (counted ps) P
  unfolding counted
  offers_counted ps P e = go (ltb most_alternatives (length ps))
    where
      go : (b : Bool) → Offers fs Q (pick b (λ _. over) (λ _. these ps)) P
      go true = tt
      go false = e

  module _ (merging : Merging Q) where
    -- Dropping loses nothing: one of those that stay is met exactly if one of all is.
    pub set_met : (ps : List Pending) → OneMet fs Q (set_of fs ps) ↔ OneMet fs Q ps
    set_met ps = (
      λ one. record { alternative = one.alternative; listed = set_from fs ps one.listed; met = one.met },
      λ one. let (q, listed, less) = set_covers fs ps one.listed in
          record { alternative = q; listed = listed; met = met_less Q merging fs q one.alternative less one.met },
    )

    -- One of ps together with one of qs is met exactly if one of either is.
    together_met : (ps qs : List Pending) → OneMet fs Q (together fs ps qs) ↔ (OneMet fs Q ps × OneMet fs Q qs)
    together_met ps qs = (out, into)
      where
        out : OneMet fs Q (together fs ps qs) → OneMet fs Q ps × OneMet fs Q qs
        out one =
            let c = together_out fs ps qs one.listed in
            let h = (met_both Q merging fs c.first c.second).0 (subst (Met Q fs) (sym c.is) one.met) in (
              record { alternative = c.first; listed = c.first_listed; met = h.0 },
              record { alternative = c.second; listed = c.second_listed; met = h.1 },
            )

        into : OneMet fs Q ps × OneMet fs Q qs → OneMet fs Q (together fs ps qs)
        into (one, two) =
            record {
              alternative = both fs one.alternative two.alternative;
              listed = together_in fs one.alternative two.alternative ps qs one.listed two.listed;
              met = (met_both Q merging fs one.alternative two.alternative).1 (one.met, two.met);
            }

    -- One of either list is met.
    append_met : (ps qs : List Pending) → OneMet fs Q (ps ++ qs) ↔ (OneMet fs Q ps ⊎ OneMet fs Q qs)
    append_met ps qs = (
      λ one. ⊎_elim (λ m. inl (record { alternative = one.alternative; listed = m; met = one.met }))
          (λ m. inr (record { alternative = one.alternative; listed = m; met = one.met })) (Memᴰ.append_cases ps one.listed),
      ⊎_elim (λ one. record { alternative = one.alternative; listed = Memᴰ.append_left qs one.listed; met = one.met })
          (λ one. record { alternative = one.alternative; listed = Memᴰ.append_right ps one.listed; met = one.met }),
    )

    -- Two sets combined offer both claims.
    pub offers_both : (s t : Alternatives) (P P' : Type 0) → Offers fs Q s P → Offers fs Q t P' → Offers fs Q (combined fs s t) (P × P')
    unfolding combined
    offers_both over t P P' o u = tt
    offers_both (these ps) over P P' o u = tt
    offers_both (these ps) (these qs) P P' o u =
        offers_counted (set_of fs (together fs ps qs)) (P × P') (
          λ h. let (one, two) = (together_met ps qs).0 ((set_met (together fs ps qs)).0 h) in (o.0 one, u.0 two),
          λ h. (set_met (together fs ps qs)).1 ((together_met ps qs).1 (o.1 h.0, u.1 h.1)),
        )

    -- Two sets joined offer either claim.
    pub offers_either : (s t : Alternatives) (P P' : Type 0) → Offers fs Q s P → Offers fs Q t P' → Offers fs Q (joined_with fs s t) (P ⊎ P')
    unfolding joined_with
    offers_either over t P P' o u = tt
    offers_either (these ps) over P P' o u = tt
    offers_either (these ps) (these qs) P P' o u =
        offers_counted (set_of fs (ps ++ qs)) (P ⊎ P') (
          λ h. ⊎_elim (λ one. inl (o.0 one)) (λ one. inr (u.0 one)) ((append_met ps qs).0 ((set_met (ps ++ qs)).0 h)),
          λ h. (set_met (ps ++ qs)).1 ((append_met ps qs).1 (⊎_elim (λ one. inl (o.1 one)) (λ one. inr (u.1 one)) h)),
        )
