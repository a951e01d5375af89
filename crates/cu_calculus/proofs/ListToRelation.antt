-- What a statement of a proof says, the relation gives.
use Rattle.std.proofs.Common.{◌≡◌, ℕ, zero, suc, List, [], ◌∷◌, ◌++◌, ◌⊎◌, inl, inr, Some, slice_get, ap, sym, ◌∙◌, subst}
use Rattle.std.proofs.lemmas.List.{map-append}
use mathlib.Core.Path.{fun_ext}
use Rattle.cu_calculus.specs.declared.Head.{Head}
use Rattle.cu_calculus.specs.declared.Head.TheVariants as head
use Rattle.cu_calculus.specs.Gives as gives
use Rattle.cu_calculus.specs.Gives.{AllGive, Applied, AppliedTo, Claim, Gives}
use Rattle.cu_calculus.specs.Match.{Environment, bind, bind_all, empty}
use Rattle.cu_calculus.specs.Program.{Program}
use Rattle.cu_calculus.specs.Proof as proof
use Rattle.cu_calculus.specs.Proof.{AllFollow, AllSay, Applies, AppliesTo, Cites, Follows, Says, Statement, Step, conclusion, env_of, statements}
use Rattle.cu_calculus.specs.Term as term
use Rattle.cu_calculus.specs.Term.{Term, Terms}
use Rattle.cu_calculus.specs.Value as value
use Rattle.cu_calculus.specs.Value.{Value, Values}

-- what stands in a list with one more element is that or stands in the list
pub after_or_last : {A : Type 0} (xs : List A) (y : A) (k : ℕ) (x : A) → slice_get (xs ++ y ∷ []) k ≡ Some x
    → (slice_get xs k ≡ Some x) ⊎ (y ≡ x)
after_or_last [] y zero x e = inr (cc)
after_or_last [] y (suc k) x e = let no : ⊥ = cc in absurd no
after_or_last (z ∷ xs) y zero x e = inl e
after_or_last (z ∷ xs) y (suc k) x e = after_or_last xs y k x e

-- the last statement stands among the statements
pub conclusion_stands : (steps : List Step) (s : Statement) → conclusion steps ≡ Some s → (k : ℕ) × (slice_get (statements steps) k ≡ Some s)
conclusion_stands [] s e = let no : ⊥ = cc in absurd no
conclusion_stands (step ∷ []) s e = (0, e)
conclusion_stands (step ∷ next ∷ steps) s e = let found = conclusion_stands (next ∷ steps) s e in (suc found.0, found.1)

module _ (program : Program) (claims : List Claim) where
  -- what a statement says is given
  abbrev pub Given : Statement → Type 0
  Given s = Gives program claims (env_of s) s.term s.value

  abbrev pub AllGiven : List Statement → Type 0
  AllGiven [] = Unit {0}
  AllGiven (s ∷ ss) = Given s × AllGiven ss

  abbrev pub EachGiven : List Statement → Type 0
  EachGiven ss = (k : ℕ) (s : Statement) → slice_get ss k ≡ Some s → Given s

  cited_given : (before : List Statement) (ks : List ℕ) (cited : List Statement) → EachGiven before → Cites before ks cited → AllGiven cited
  cited_given before [] [] each h = tt
  cited_given before [] (s ∷ ss) each h = absurd h
  cited_given before (k ∷ ks) [] each h = absurd h
  cited_given before (k ∷ ks) (s ∷ ss) each h = (each k s h.0, cited_given before ks ss each h.1)

  suffix_given : (first second : List Statement) → AllGiven (first ++ second) → AllGiven second
  suffix_given [] second h = h
  suffix_given (s ∷ first) second h = suffix_given first second h.1

  prefix_given : (first second : List Statement) → AllGiven (first ++ second) → AllGiven first
  prefix_given [] second h = tt
  prefix_given (s ∷ first) second h = (h.0, prefix_given first second h.1)

  said : (s : Statement) (env : Environment) (t : Term) (v : Value) → Says s env t v → Given s → Gives program claims env t v
  said s env t v says h =
      let envs : env_of s ≡ env = fun_ext says.at in
      subst (λ (e : Environment). Gives program claims e t v) envs
      (subst (λ (u : Value). Gives program claims (env_of s) t u) says.value
      (subst (λ (x : Term). Gives program claims (env_of s) x s.value) says.term h))

  all_said : (ss : List Statement) (env : Environment) (ts : Terms) (vs : Values) → AllSay ss env ts vs → AllGiven ss
      → AllGive program claims env ts vs
  all_said [] env term.NoTerm value.NoValue h g = gives.none env
  all_said [] env term.NoTerm (value.MoreValues v vs) h g = absurd h
  all_said [] env (term.MoreTerms t ts) vs h g = absurd h
  all_said (s ∷ ss) env term.NoTerm vs h g = absurd h
  all_said (s ∷ ss) env (term.MoreTerms t ts) value.NoValue h g = absurd h
  all_said (s ∷ ss) env (term.MoreTerms t ts) (value.MoreValues v vs) h g =
      gives.more env t ts v vs (said s env t v h.0 g.0) (all_said ss env ts vs h.1 g.1)

  applies_applied : (h : Head) (us : Values) (cited : List Statement) (v : Value) → Applies program claims h us cited v → AllGiven cited
      → Applied program claims h us v
  applies_applied _ us _ _ (proof.constructed c _ v e) g =
      subst (λ (x : Value). Applied program claims (head.Con c) us x) (sym e) (gives.constructed c us)
  applies_applied _ us _ _ (proof.by_rule f function rules k rule bindings _ s v e b r m says) g =
      gives.by_rule f function rules k rule bindings us v e b r m (said s (bind_all empty bindings) rule.body v says g.0)
  applies_applied _ us _ _ (proof.builtin f function operation _ v e b answers) g = gives.builtin f function operation us v e b answers
  applies_applied _ us _ _ (proof.collect f claim k c _ v ground e f' a s p) g = gives.collect f claim k c us v ground e f' a s p

  applies_to_applied : (w u : Value) (cited : List Statement) (v : Value) → AppliesTo program claims w u cited v → AllGiven cited
      → AppliedTo program claims w u v
  applies_to_applied _ u _ _ (proof.extended h us more _ m l) g = gives.extended h us more u m l
  applies_to_applied _ u _ _ (proof.completed h us all _ last v m l app) g = gives.completed h us all u v m l (applies_applied h all last v app g)

  follows_gives : (cited : List Statement) (env : Environment) (t : Term) (v : Value) → Follows program claims cited env t v → AllGiven cited
      → Gives program claims env t v
  follows_gives _ env _ _ (proof.bottom _ t) g = gives.bottom env t
  follows_gives _ env _ _ (proof.variable _ x v p) g = gives.variable env x v p
  follows_gives _ env _ _ (proof.literal _ l) g = gives.literal env l
  follows_gives _ env _ _ (proof.whole cited parts last _ h ts us v e say app) g =
      let split : AllGiven (parts ++ last) = subst (λ (x : List Statement). AllGiven x) e g in
      gives.whole env h ts us v (all_said parts env ts us say (prefix_given parts last split))
      (applies_applied h us last v app (suffix_given parts last split))
  follows_gives _ env _ _ (proof.part cited _ h ts us say) g = gives.part env h ts us (all_said cited env ts us say g)
  follows_gives _ env _ _ (proof.applied s r last _ f a w u v p q app) g =
      gives.applied env f a w u v (said s env f w p g.0) (said r env a u q g.1.0) (applies_to_applied w u last v app g.1.1)
  follows_gives _ env _ _ (proof.bound s r _ x a b u v p q) g =
      gives.bound env x a b u v (said s env a u p g.0) (said r (bind env x u) b v q g.1.0)
  follows_gives _ env _ _ (proof.free s _ x t u v total fits p) g = gives.free env x t u v total fits (said s (bind env x u) t v p g.0)
  follows_gives _ env _ _ (proof.left s _ a b v p) g = gives.left env a b v (said s env a v p g.0)
  follows_gives _ env _ _ (proof.right s _ a b v p) g = gives.right env a b v (said s env b v p g.0)
  follows_gives _ env _ _ (proof.chosen s r _ mode a t alternatives bindings u v p selects q) g =
      gives.chosen env mode a t alternatives bindings u v (said s env a u p g.0) selects (said r (bind_all env bindings) t v q g.1.0)

  one_more : (before : List Statement) (last : Statement) → EachGiven before → Given last → EachGiven (before ++ last ∷ [])
  one_more before last each h k s e = by (after_or_last before last k s e)
    where
      by : (slice_get before k ≡ Some s) ⊎ (last ≡ s) → Given s
      by (inl f) = each k s f
      by (inr f) = subst (λ (x : Statement). Given x) f h

  pub each_given : (steps : List Step) → AllFollow program claims steps → EachGiven (statements steps)
  each_given _ proof.nothing = λ k s e. let no : ⊥ = cc in absurd no
  each_given _ (proof.followed before after cited step rest cites follows e) =
      let earlier : EachGiven (statements before) = each_given before rest in
      let last : Given step.statement =
      follows_gives cited (env_of step.statement) step.statement.term step.statement.value follows
      (cited_given (statements before) step.cites cited earlier cites) in
      subst (λ (x : List Statement). EachGiven x) (sym (ap statements e ∙ map-append (λ s. s.statement) before (step ∷ [])))
      (one_more (statements before) step.statement earlier last)

  pub concluded : (steps : List Step) (s : Statement) → AllFollow program claims steps → conclusion steps ≡ Some s → Given s
  concluded steps s follows e = let found = conclusion_stands steps s e in each_given steps follows found.0 s found.1
