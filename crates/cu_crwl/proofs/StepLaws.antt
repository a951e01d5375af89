-- The test of steps decides that all follow.
use Rattle.std.proofs.Common.{◌≡◌, ℕ, true, List, [], ◌∷◌, ◌++◌, Option, None, Some, slice_get, append_assoc, append-nil, refl, ap, sym, subst, ◌∙◌}
use Rattle.std.proofs.lemmas.Bool.{and_from, and_parts}
use Rattle.cu_calculus.specs.Gives.{Claim}
use Rattle.cu_calculus.specs.Program.{Program}
use Rattle.cu_calculus.specs.Proof as proof
use Rattle.cu_calculus.specs.Proof.{AllFollow, Cites, Follows, Statement, Step, env_of, statements}
use Rattle.cu_crwl.specs.Steps.{all_follow, cited_by, statement_follows, step_follows, with_cited}
use Rattle.cu_crwl.proofs.TableLaws.{follows_from, follows_to}

with_some : (s : Option Statement) (ss : Option (List Statement)) (cited : List Statement) → with_cited s ss ≡ Some cited
    → (r : Statement) × (rs : List Statement) × (s ≡ Some r) × (ss ≡ Some rs) × (cited ≡ r ∷ rs)
with_some None ss cited e = let never : ⊥ = cc in absurd never
with_some (Some r) None cited e = let never : ⊥ = cc in absurd never
with_some (Some r) (Some rs) cited e = (r, rs, refl, refl, (let same : r ∷ rs ≡ cited = cc in sym same))

cites_from : (before : List Statement) (ks : List ℕ) (cited : List Statement) → cited_by before ks ≡ Some cited → Cites before ks cited
cites_from before [] cited e =
    let none : [] ≡ cited = cc in subst (λ (ss : List Statement). Cites before [] ss) none tt
cites_from before (k ∷ ks) cited e =
    let parts = with_some (slice_get before k) (cited_by before ks) cited e in
    let rest : Cites before ks parts.1 = cites_from before ks parts.1 parts.3 in
    subst (λ (ss : List Statement). Cites before (k ∷ ks) ss) (sym parts.4) (parts.2, rest)

cites_to : (before : List Statement) (ks : List ℕ) (cited : List Statement) → Cites before ks cited → cited_by before ks ≡ Some cited
cites_to before [] [] h = refl
cites_to before [] (s ∷ ss) h = absurd h
cites_to before (k ∷ ks) [] h = absurd h
cites_to before (k ∷ ks) (s ∷ ss) h =
    let rest = cites_to before ks ss h.1 in
    ap (λ (found : Option Statement). with_cited found (cited_by before ks)) h.0 ∙ ap (with_cited (Some s)) rest

module _ (program : Program) (claims : List Claim) where
  step_from : (before : List Step) (step : Step) (found : Option (List Statement)) → cited_by (statements before) step.cites ≡ found
      → statement_follows program claims step.statement found ≡ true → AllFollow program claims before
      → AllFollow program claims (before ++ step ∷ [])
  step_from before step None is e all = let never : ⊥ = cc in absurd never
  step_from before step (Some cited) is e all =
      proof.followed before (before ++ step ∷ []) cited step all (cites_from (statements before) step.cites cited is)
      (follows_from program claims cited step.statement.env step.statement.term step.statement.value e) refl

  pub all_from : (before steps : List Step) → AllFollow program claims before → all_follow program claims before steps ≡ true
      → AllFollow program claims (before ++ steps)
  all_from before [] all e = subst (λ (ss : List Step). AllFollow program claims ss) (sym (append-nil before)) all
  all_from before (step ∷ steps) all e =
      let parts = and_parts (step_follows program claims before step) (all_follow program claims (before ++ step ∷ []) steps) e in
      subst (λ (ss : List Step). AllFollow program claims ss) (append_assoc before (step ∷ []) steps)
      (all_from (before ++ step ∷ []) steps (step_from before step (cited_by (statements before) step.cites) refl parts.0 all) parts.1)

  -- a test of some steps, and then of one more
  grows : (first before : List Step) (step : Step) → all_follow program claims first before ≡ true → step_follows program claims (first ++ before) step ≡ true
      → all_follow program claims first (before ++ step ∷ []) ≡ true
  grows first [] step e f =
      and_from (step_follows program claims first step) true
      (ap (λ (ss : List Step). step_follows program claims ss step) (sym (append-nil first)) ∙ f) refl
  grows first (next ∷ before) step e f =
      let parts = and_parts (step_follows program claims first next) (all_follow program claims (first ++ next ∷ []) before) e in
      and_from (step_follows program claims first next) (all_follow program claims (first ++ next ∷ []) (before ++ step ∷ [])) parts.0
      (grows (first ++ next ∷ []) before step parts.1
      (ap (λ (ss : List Step). step_follows program claims ss step) (append_assoc first (next ∷ []) before) ∙ f))

  pub all_to : (steps : List Step) → AllFollow program claims steps → all_follow program claims [] steps ≡ true
  all_to _ proof.nothing = refl
  all_to _ (proof.followed before after cited step all cites one is) =
      subst (λ (ss : List Step). all_follow program claims [] ss ≡ true) (sym is)
      (grows [] before step (all_to before all)
      (ap (statement_follows program claims step.statement) (cites_to (statements before) step.cites cited cites)
      ∙ follows_to program claims cited step.statement.env step.statement.term step.statement.value one))

  pub all_follow_from : (steps : List Step) → all_follow program claims [] steps ≡ true → AllFollow program claims steps
  all_follow_from steps e = all_from [] steps proof.nothing e
