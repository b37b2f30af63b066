-- The follower against the logic: one answer is one move of the table, and a chain of answers is a run that the table allows.
use Prim.Native.Nat.{ℕ, ◌≤◌, ◌<◌}
use mathlib.Core.Path.{◌≡◌, refl, sym, ◌∙◌, ap, subst}
use mathlib.Core.Logic.{◌↔◌, ◌⊎◌, inl, inr}
use mathlib.Core.Bool.{true, false, ◌||◌, not}
use Rattle.std.specs.Prelude.{Option, None, Some}
use mathlib.Core.List.{List, [], ◌∷◌}
use native.Mathlib.Omega.{arith}
use lib.ListN.{length}
use lib.Dec.{leb}
use borrow.Author.Tests.{not-false, leb-true, leb-false, le-leb, lt-leb}
use Rattle.base.specs.Answers.{Answer}
use Rattle.std.specs.Prelude.{Err, Ok}
use Rattle.base.specs.declared.Refusal.TheVariants.{Layout, Outside, NotAllowed}
use Rattle.base.specs.Answers.{FollowAnswer}
use Rattle.base.proofs.Lists.{whether, whether_there, or_fails_left, or_fails_right, or_neither, or_left, or_right, not_in, some_one}
use Rattle.base.proofs.Answers.{gives_not_refuses, if_gives, if_on, if_refuses}
use Rattle.logic.specs.Tables.{move, AllowsFrom, Allows}
use Rattle.logic.specs.Runs.{leads}
use Rattle.logic.proofs.Leads.{leads_nil, leads_in, leads_out}
use Rattle.logic.proofs.TableFile.{Fits}
use Rattle.reading.specs.TableReading.{table_layout, laid_out, rows_of, table_states, table_actions, table_of}
use Rattle.reading.proofs.LaidOut.{length_table_of}
use Rattle.reading.proofs.TableReading.{laid_out_fits}
use Rattle.outcome.specs.Follow.{stepped, row_after, follow_answer, follow_outcome}
use Rattle.outcome.specs.FollowChain.{Chain, FollowsTo}
use Rattle.outcome.specs.RightAnswer.{RightFollow, follow_layout, follow_outside, follow_not, follow_row}

-- ---- one answer

answer_row : (o : Answer ℕ) (s : ℕ) → follow_answer o ≡ Ok s → o ≡ Ok s
unfolding follow_answer
answer_row (Err r) s e = let z : ◌≡◌ {A = ℕ} 0 1 = cc in absurd (omega arith)
answer_row (Ok row) s e = let f : row ≡ s = cc in ap Ok f

stepped_row : (o : Option ℕ) (s : ℕ) → stepped o ≡ Ok s → o ≡ Some s
unfolding stepped
stepped_row None s e = gives_not_refuses e refl
stepped_row (Some row) s e = let f : row ≡ s = cc in ap Some f

module _ (file : List ℕ) (row action : ℕ) where
  outside : leb (rows_of file) row ≡ false → leb (table_actions file) action ≡ false → (leb (rows_of file) row || leb (table_actions file) action) ≡ false
  outside a b = or_neither a b

  pub follows_out : (s : ℕ) → follow_outcome file row action ≡ Ok s → FollowsTo file row action s
  unfolding follow_outcome row_after
  follows_out s e =
      let (a, e1) = if_gives Layout (not (laid_out file)) _ (answer_row _ s e) in
      let (b, e2) = if_gives Outside (leb (rows_of file) row || leb (table_actions file) action) _ e1 in
      record {
        laid = not-false (laid_out file) a;
        row_inside = leb-false (rows_of file) row (or_fails_left (leb (rows_of file) row) (leb (table_actions file) action) b);
        action_inside = leb-false (table_actions file) action (or_fails_right (leb (rows_of file) row) (leb (table_actions file) action) b);
        moves = stepped_row (move (table_of file) row action) s e2;
      }

  -- where the file is laid out, and row and action lie inside, the answer is the move
  pub inside : laid_out file ≡ true → row < rows_of file → action < table_actions file
      → follow_outcome file row action ≡ follow_answer (stepped (move (table_of file) row action))
  unfolding follow_outcome row_after
  inside laid r a =
      ap follow_answer
      (if_on Layout _ (ap not laid)
      ∙ if_on Outside _ (outside (lt-leb (rows_of file) row r) (lt-leb (table_actions file) action a)))

  pub follows_in : (s : ℕ) → FollowsTo file row action s → follow_outcome file row action ≡ Ok s
  unfolding follow_answer stepped
  follows_in s to =
      inside to.laid to.row_inside to.action_inside ∙ ap (λ o. follow_answer (stepped o)) to.moves

  -- the three refusals
  pub says_layout : laid_out file ≡ false → follow_outcome file row action ≡ Err Layout
  unfolding follow_outcome row_after follow_answer
  says_layout e = ap follow_answer (if_refuses Layout _ (not_in e))

  pub says_outside : laid_out file ≡ true → (rows_of file ≤ row) ⊎ (table_actions file ≤ action) → follow_outcome file row action ≡ Err Outside
  unfolding follow_outcome row_after follow_answer
  says_outside laid (inl r) =
      ap follow_answer (if_on Layout _ (ap not laid) ∙ if_refuses Outside _ (or_left (leb (table_actions file) action) (le-leb (rows_of file) row r)))
  says_outside laid (inr a) =
      ap follow_answer (if_on Layout _ (ap not laid) ∙ if_refuses Outside _ (or_right (leb (rows_of file) row) (le-leb (table_actions file) action a)))

  pub says_not_allowed : laid_out file ≡ true → row < rows_of file → action < table_actions file → move (table_of file) row action ≡ None
      → follow_outcome file row action ≡ Err NotAllowed
  unfolding follow_answer stepped
  says_not_allowed laid r a e = inside laid r a ∙ ap (λ o. follow_answer (stepped o)) e

  pub follow_right : RightFollow file row action (follow_outcome file row action)
  follow_right =
      whether (laid_out file)
      (λ laid.
      whether (leb (rows_of file) row)
      (λ far. outside_right laid (inl (leb-true (rows_of file) row far)))
      (λ near.
      whether (leb (table_actions file) action)
      (λ far. outside_right laid (inr (leb-true (table_actions file) action far)))
      (λ close.
      let r = leb-false (rows_of file) row near in
      let a = leb-false (table_actions file) action close in
      whether_there (move (table_of file) row action)
      (λ nothing. subst (RightFollow file row action) (sym (says_not_allowed laid r a nothing)) (follow_not laid r a nothing))
      (λ s e.
      let to : FollowsTo file row action s = record { laid = laid; row_inside = r; action_inside = a; moves = e } in
      subst (RightFollow file row action) (sym (follows_in s to)) (follow_row s to)))))
      (λ not_laid. subst (RightFollow file row action) (sym (says_layout not_laid)) (follow_layout not_laid))
    where
      outside_right : laid_out file ≡ true → (rows_of file ≤ row) ⊎ (table_actions file ≤ action)
          → RightFollow file row action (follow_outcome file row action)
      outside_right laid out = subst (RightFollow file row action) (sym (says_outside laid out)) (follow_outside laid out)

  pub follow_only : (x : FollowAnswer) → RightFollow file row action x → follow_outcome file row action ≡ x
  follow_only _ (follow_layout e) = says_layout e
  follow_only _ (follow_outside laid out) = says_outside laid out
  follow_only _ (follow_not laid r a e) = says_not_allowed laid r a e
  follow_only _ (follow_row s to) = follows_in s to

-- ---- a chain of answers

module _ (file : List ℕ) (laid : laid_out file ≡ true) where
  fits : Fits (table_layout file) (table_states file) (table_actions file) (table_of file)
  fits = laid_out_fits file laid

  chain_leads : (w : List ℕ) (r s : ℕ) → Chain file r w s → leads (move (table_of file)) r w ≡ Some s
  unfolding Chain
  chain_leads [] r s e = leads_nil (move (table_of file)) r ∙ ap Some e
  chain_leads (a ∷ w) r s (q, e, rest) = leads_in (move (table_of file)) r q s a w (follows_out file r a q e).moves (chain_leads w q s rest)

  leads_chain : (w : List ℕ) (r s : ℕ) → r < length (table_of file) → leads (move (table_of file)) r w ≡ Some s → Chain file r w s
  unfolding Chain
  leads_chain [] r s lt e = some_one (leads_nil (move (table_of file)) r) e
  leads_chain (a ∷ w) r s lt e =
      let (q, to, rest) = leads_out (move (table_of file)) r s a w e in (
        q,
        follows_in file r a q
            (record { laid = laid; row_inside = subst (λ n. r < n) (length_table_of file) lt; action_inside = fits.action r a q lt to; moves = to }),
        leads_chain w q s (fits.is_table.targets r a q lt to) rest,
      )

  -- A chain from row 0 on is a run that the table allows, and each such run is a chain.
  pub chain_iff : (w : List ℕ) → ((s : ℕ) × Chain file 0 w s) ↔ Allows (table_of file) w
  unfolding Allows AllowsFrom
  chain_iff w = (
    λ (s, chain). (s, chain_leads w 0 s chain),
    λ (s, e). (s, leads_chain w 0 s fits.is_table.some_row e),
  )
