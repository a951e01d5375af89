-- A derivation over claims is one over any claims that have the rows that it cites, and so is a
-- proof.
use Rattle.std.proofs.Common.{◌≡◌, ℕ, zero, suc, ◌+◌, List, [], ◌∷◌, ◌++◌, ◌⊎◌, inl, inr, length, slice_get, Some, IsTrue, refl, ap, ◌∙◌}
use Rattle.std.specs.List.{list_all}
use Rattle.cu_calculus.specs.declared.Head.{Head}
use Rattle.cu_calculus.specs.Gives as gives
use Rattle.cu_calculus.specs.Gives.{AllGive, Applied, AppliedTo, Claim, Gives}
use Rattle.cu_calculus.specs.Match.{Environment, bind, bind_all, empty}
use Rattle.cu_calculus.specs.Program.{Program}
use Rattle.cu_calculus.specs.Proof as proof
use Rattle.cu_calculus.specs.Proof.{AllFollow, Applies, AppliesTo, Checks, Follows, Statement, Step, env_of, is_claim_of}
use Rattle.cu_calculus.specs.Rows.{AreRows, all_cited, applied_cited, applied_to_cited, applying_cited, applying_to_cited, cited, following_cited, proof_cited}
use Rattle.cu_calculus.specs.Term.{Term, Terms}
use Rattle.cu_calculus.specs.Value.{Value, Values}
use Rattle.cu_calculus.proofs.Lists.{all_append, get_suffix, get_prefix}

-- rows of a list's prefix and of its rest are the list's
pub rows_prefix : (one two others : List Claim) → AreRows (one ++ two) others → AreRows one others
rows_prefix one two others rows k claim e = rows k claim (get_prefix one two k claim e)

pub rows_suffix : (one two others : List Claim) → AreRows (one ++ two) others → AreRows two others
rows_suffix one two others rows k claim e = rows (length one + k) claim (get_suffix one two k ∙ e)

pub rows_none : (others : List Claim) → AreRows [] others
rows_none others k claim e = let no : ⊥ = cc in absurd no

pub rows_one : (claim : Claim) (others : List Claim) (k : ℕ) → slice_get others k ≡ Some claim → AreRows (claim ∷ []) others
rows_one claim others place there zero other e = let same : claim ≡ other = cc in (place, there ∙ ap Some same)
rows_one claim others place there (suc k) other e = let no : ⊥ = cc in absurd no

-- a place in two lists is one in the first or in the second
pub prefix_or_suffix : (one two : List Claim) (k : ℕ) (claim : Claim) → slice_get (one ++ two) k ≡ Some claim
    → (slice_get one k ≡ Some claim) ⊎ ((m : ℕ) × (slice_get two m ≡ Some claim))
prefix_or_suffix [] two k claim e = inr (k, e)
prefix_or_suffix (x ∷ one) two zero claim e = inl e
prefix_or_suffix (x ∷ one) two (suc k) claim e = prefix_or_suffix one two k claim e

pub rows_both : (one two others : List Claim) → AreRows one others → AreRows two others → AreRows (one ++ two) others
rows_both one two others first second k claim e = by (prefix_or_suffix one two k claim e)
  where
    by : (slice_get one k ≡ Some claim) ⊎ ((m : ℕ) × (slice_get two m ≡ Some claim)) → (m : ℕ) × (slice_get others m ≡ Some claim)
    by (inl f) = first k claim f
    by (inr f) = second f.0 claim f.1

module _ (program : Program) (claims : List Claim) where
  -- what is cited is among the claims
  mutual
    pub cited_rows : (env : Environment) (t : Term) (v : Value) (d : Gives program claims env t v) → AreRows (cited program claims env t v d) claims
    cited_rows env _ _ (gives.bottom _ t) = rows_none claims
    cited_rows env _ _ (gives.variable _ x v p) = rows_none claims
    cited_rows env _ _ (gives.literal _ l) = rows_none claims
    cited_rows env _ _ (gives.whole _ h ts us v ps app) =
        rows_both (all_cited program claims env ts us ps) (applied_cited program claims h us v app) claims (all_cited_rows env ts us ps)
        (applied_cited_rows h us v app)
    cited_rows env _ _ (gives.part _ h ts us ps) = all_cited_rows env ts us ps
    cited_rows env _ _ (gives.applied _ f a w u v p q app) =
        let one = cited program claims env f w p in
        let two = cited program claims env a u q in
        rows_both (one ++ two) (applied_to_cited program claims w u v app) claims
        (rows_both one two claims (cited_rows env f w p) (cited_rows env a u q)) (applied_to_cited_rows w u v app)
    cited_rows env _ _ (gives.bound _ x a b u v p q) =
        rows_both (cited program claims env a u p) (cited program claims (bind env x u) b v q) claims (cited_rows env a u p)
        (cited_rows (bind env x u) b v q)
    cited_rows env _ _ (gives.free _ x t u v total fits p) = cited_rows (bind env x u) t v p
    cited_rows env _ _ (gives.left _ a b v p) = cited_rows env a v p
    cited_rows env _ _ (gives.right _ a b v p) = cited_rows env b v p
    cited_rows env _ _ (gives.chosen _ mode a t alternatives bindings u v p selects q) =
        rows_both (cited program claims env a u p) (cited program claims (bind_all env bindings) t v q) claims (cited_rows env a u p)
        (cited_rows (bind_all env bindings) t v q)

    pub all_cited_rows : (env : Environment) (ts : Terms) (vs : Values) (d : AllGive program claims env ts vs)
        → AreRows (all_cited program claims env ts vs d) claims
    all_cited_rows env _ _ (gives.none _) = rows_none claims
    all_cited_rows env _ _ (gives.more _ t ts v vs p ps) =
        rows_both (cited program claims env t v p) (all_cited program claims env ts vs ps) claims (cited_rows env t v p) (all_cited_rows env ts vs ps)

    pub applied_cited_rows : (h : Head) (us : Values) (v : Value) (d : Applied program claims h us v)
        → AreRows (applied_cited program claims h us v d) claims
    applied_cited_rows _ us _ (gives.constructed c _) = rows_none claims
    applied_cited_rows _ us _ (gives.by_rule f function rules k rule bindings _ v e b r m p) = cited_rows (bind_all empty bindings) rule.body v p
    applied_cited_rows _ us _ (gives.builtin f function operation _ v e b answers) = rows_none claims
    applied_cited_rows _ us _ (gives.collect f claim k c _ v g e f' a s p) = rows_one claim claims k e

    pub applied_to_cited_rows : (w u v : Value) (d : AppliedTo program claims w u v) → AreRows (applied_to_cited program claims w u v d) claims
    applied_to_cited_rows _ u _ (gives.extended h us more _ m l) = rows_none claims
    applied_to_cited_rows _ u _ (gives.completed h us all _ v m l app) = applied_cited_rows h all v app

  applying_cited_rows : (h : Head) (us : Values) (ss : List Statement) (v : Value) (d : Applies program claims h us ss v)
      → AreRows (applying_cited program claims h us ss v d) claims
  applying_cited_rows _ us _ _ (proof.constructed c _ v e) = rows_none claims
  applying_cited_rows _ us _ _ (proof.by_rule f function rules k rule bindings _ s v e b r m says) = rows_none claims
  applying_cited_rows _ us _ _ (proof.builtin f function operation _ v e b answers) = rows_none claims
  applying_cited_rows _ us _ _ (proof.collect f claim k c _ v g e f' a s p) = rows_one claim claims k e

  applying_to_cited_rows : (w u : Value) (ss : List Statement) (v : Value) (d : AppliesTo program claims w u ss v)
      → AreRows (applying_to_cited program claims w u ss v d) claims
  applying_to_cited_rows _ u _ _ (proof.extended h us more _ m l) = rows_none claims
  applying_to_cited_rows _ u _ _ (proof.completed h us all _ last v m l app) = applying_cited_rows h all last v app

  following_cited_rows : (ss : List Statement) (env : Environment) (t : Term) (v : Value) (d : Follows program claims ss env t v)
      → AreRows (following_cited program claims ss env t v d) claims
  following_cited_rows _ env _ _ (proof.whole ss parts last _ h ts us v e say app) = applying_cited_rows h us last v app
  following_cited_rows _ env _ _ (proof.applied s r last _ f a w u v p q app) = applying_to_cited_rows w u last v app
  following_cited_rows _ env _ _ _ = rows_none claims

  pub proof_cited_rows : (steps : List Step) (d : AllFollow program claims steps) → AreRows (proof_cited program claims steps d) claims
  proof_cited_rows _ proof.nothing = rows_none claims
  proof_cited_rows _ (proof.followed before after ss step rest cites follows e) =
      rows_both (proof_cited program claims before rest)
      (following_cited program claims ss (env_of step.statement) step.statement.term step.statement.value follows) claims (proof_cited_rows before rest)
      (following_cited_rows ss (env_of step.statement) step.statement.term step.statement.value follows)

module _ (program : Program) (claims others : List Claim) where
  mutual
    pub give_by_rows : (env : Environment) (t : Term) (v : Value) (d : Gives program claims env t v)
        → AreRows (cited program claims env t v d) others → Gives program others env t v
    give_by_rows env _ _ (gives.bottom _ t) rows = gives.bottom env t
    give_by_rows env _ _ (gives.variable _ x v p) rows = gives.variable env x v p
    give_by_rows env _ _ (gives.literal _ l) rows = gives.literal env l
    give_by_rows env _ _ (gives.whole _ h ts us v ps app) rows =
        let one = all_cited program claims env ts us ps in
        let two = applied_cited program claims h us v app in
        gives.whole env h ts us v (all_give_by_rows env ts us ps (rows_prefix one two others rows))
        (applied_by_rows h us v app (rows_suffix one two others rows))
    give_by_rows env _ _ (gives.part _ h ts us ps) rows = gives.part env h ts us (all_give_by_rows env ts us ps rows)
    give_by_rows env _ _ (gives.applied _ f a w u v p q app) rows =
        let one = cited program claims env f w p in
        let two = cited program claims env a u q in
        let three = applied_to_cited program claims w u v app in
        let first = rows_prefix (one ++ two) three others rows in
        gives.applied env f a w u v (give_by_rows env f w p (rows_prefix one two others first))
        (give_by_rows env a u q (rows_suffix one two others first)) (applied_to_by_rows w u v app (rows_suffix (one ++ two) three others rows))
    give_by_rows env _ _ (gives.bound _ x a b u v p q) rows =
        let one = cited program claims env a u p in
        let two = cited program claims (bind env x u) b v q in
        gives.bound env x a b u v (give_by_rows env a u p (rows_prefix one two others rows))
        (give_by_rows (bind env x u) b v q (rows_suffix one two others rows))
    give_by_rows env _ _ (gives.free _ x t u v total fits p) rows = gives.free env x t u v total fits (give_by_rows (bind env x u) t v p rows)
    give_by_rows env _ _ (gives.left _ a b v p) rows = gives.left env a b v (give_by_rows env a v p rows)
    give_by_rows env _ _ (gives.right _ a b v p) rows = gives.right env a b v (give_by_rows env b v p rows)
    give_by_rows env _ _ (gives.chosen _ mode a t alternatives bindings u v p selects q) rows =
        let one = cited program claims env a u p in
        let two = cited program claims (bind_all env bindings) t v q in
        gives.chosen env mode a t alternatives bindings u v (give_by_rows env a u p (rows_prefix one two others rows)) selects
        (give_by_rows (bind_all env bindings) t v q (rows_suffix one two others rows))

    pub all_give_by_rows : (env : Environment) (ts : Terms) (vs : Values) (d : AllGive program claims env ts vs)
        → AreRows (all_cited program claims env ts vs d) others → AllGive program others env ts vs
    all_give_by_rows env _ _ (gives.none _) rows = gives.none env
    all_give_by_rows env _ _ (gives.more _ t ts v vs p ps) rows =
        let one = cited program claims env t v p in
        let two = all_cited program claims env ts vs ps in
        gives.more env t ts v vs (give_by_rows env t v p (rows_prefix one two others rows))
        (all_give_by_rows env ts vs ps (rows_suffix one two others rows))

    pub applied_by_rows : (h : Head) (us : Values) (v : Value) (d : Applied program claims h us v)
        → AreRows (applied_cited program claims h us v d) others → Applied program others h us v
    applied_by_rows _ us _ (gives.constructed c _) rows = gives.constructed c us
    applied_by_rows _ us _ (gives.by_rule f function rules k rule bindings _ v e b r m p) rows =
        gives.by_rule f function rules k rule bindings us v e b r m (give_by_rows (bind_all empty bindings) rule.body v p rows)
    applied_by_rows _ us _ (gives.builtin f function operation _ v e b answers) rows = gives.builtin f function operation us v e b answers
    applied_by_rows _ us _ (gives.collect f claim k c _ v g e f' a s p) rows =
        let there = rows 0 claim refl in gives.collect f claim there.0 c us v g there.1 f' a s p

    pub applied_to_by_rows : (w u v : Value) (d : AppliedTo program claims w u v) → AreRows (applied_to_cited program claims w u v d) others
        → AppliedTo program others w u v
    applied_to_by_rows _ u _ (gives.extended h us more _ m l) rows = gives.extended h us more u m l
    applied_to_by_rows _ u _ (gives.completed h us all _ v m l app) rows = gives.completed h us all u v m l (applied_by_rows h all v app rows)

  applies_by_rows : (h : Head) (us : Values) (ss : List Statement) (v : Value) (d : Applies program claims h us ss v)
      → AreRows (applying_cited program claims h us ss v d) others → Applies program others h us ss v
  applies_by_rows _ us _ _ (proof.constructed c _ v e) rows = proof.constructed c us v e
  applies_by_rows _ us _ _ (proof.by_rule f function rules k rule bindings _ s v e b r m says) rows =
      proof.by_rule f function rules k rule bindings us s v e b r m says
  applies_by_rows _ us _ _ (proof.builtin f function operation _ v e b answers) rows = proof.builtin f function operation us v e b answers
  applies_by_rows _ us _ _ (proof.collect f claim k c _ v g e f' a s p) rows =
      let there = rows 0 claim refl in proof.collect f claim there.0 c us v g there.1 f' a s p

  applies_to_by_rows : (w u : Value) (ss : List Statement) (v : Value) (d : AppliesTo program claims w u ss v)
      → AreRows (applying_to_cited program claims w u ss v d) others → AppliesTo program others w u ss v
  applies_to_by_rows _ u _ _ (proof.extended h us more _ m l) rows = proof.extended h us more u m l
  applies_to_by_rows _ u _ _ (proof.completed h us all _ last v m l app) rows =
      proof.completed h us all u last v m l (applies_by_rows h all last v app rows)

  follows_by_rows : (ss : List Statement) (env : Environment) (t : Term) (v : Value) (d : Follows program claims ss env t v)
      → AreRows (following_cited program claims ss env t v d) others → Follows program others ss env t v
  follows_by_rows _ env _ _ (proof.bottom _ t) rows = proof.bottom env t
  follows_by_rows _ env _ _ (proof.variable _ x v p) rows = proof.variable env x v p
  follows_by_rows _ env _ _ (proof.literal _ l) rows = proof.literal env l
  follows_by_rows _ env _ _ (proof.whole ss parts last _ h ts us v e say app) rows =
      proof.whole ss parts last env h ts us v e say (applies_by_rows h us last v app rows)
  follows_by_rows _ env _ _ (proof.part ss _ h ts us say) rows = proof.part ss env h ts us say
  follows_by_rows _ env _ _ (proof.applied s r last _ f a w u v p q app) rows =
      proof.applied s r last env f a w u v p q (applies_to_by_rows w u last v app rows)
  follows_by_rows _ env _ _ (proof.bound s r _ x a b u v p q) rows = proof.bound s r env x a b u v p q
  follows_by_rows _ env _ _ (proof.free s _ x t u v total fits p) rows = proof.free s env x t u v total fits p
  follows_by_rows _ env _ _ (proof.left s _ a b v p) rows = proof.left s env a b v p
  follows_by_rows _ env _ _ (proof.right s _ a b v p) rows = proof.right s env a b v p
  follows_by_rows _ env _ _ (proof.chosen s r _ mode a t alternatives bindings u v p selects q) rows =
      proof.chosen s r env mode a t alternatives bindings u v p selects q

  all_follow_by_rows : (steps : List Step) (d : AllFollow program claims steps) → AreRows (proof_cited program claims steps d) others
      → AllFollow program others steps
  all_follow_by_rows _ proof.nothing rows = proof.nothing
  all_follow_by_rows _ (proof.followed before after ss step rest cites follows e) rows =
      let env = env_of step.statement in
      let one = proof_cited program claims before rest in
      let two = following_cited program claims ss env step.statement.term step.statement.value follows in
      proof.followed before after ss step (all_follow_by_rows before rest (rows_prefix one two others rows)) cites
      (follows_by_rows ss env step.statement.term step.statement.value follows (rows_suffix one two others rows)) e

  pub checks_by_rows : (steps : List Step) (checks : Checks program claims steps) → IsTrue (list_all (is_claim_of program) others)
      → AreRows (proof_cited program claims steps checks.follows) others → Checks program others steps
  checks_by_rows steps checks claimed rows = record {
    begun = checks.begun;
    speaks = checks.speaks;
    claimed = claimed;
    follows = all_follow_by_rows steps checks.follows rows;
  }

-- rows among rows
pub rows_trans : (one two three : List Claim) → AreRows one two → AreRows two three → AreRows one three
rows_trans one two three first second k claim e = let there = first k claim e in second there.0 claim there.1

pub give_more : (program : Program) (claims others : List Claim) (env : Environment) (t : Term) (v : Value) → AreRows claims others
    → Gives program claims env t v → Gives program others env t v
give_more program claims others env t v rows d =
    let used = cited program claims env t v d in
    give_by_rows program claims others env t v d (rows_trans used claims others (cited_rows program claims env t v d) rows)

pub checks_more : (program : Program) (claims others : List Claim) (steps : List Step) → AreRows claims others
    → IsTrue (list_all (is_claim_of program) others) → Checks program claims steps → Checks program others steps
checks_more program claims others steps rows claimed checks =
    let used = proof_cited program claims steps checks.follows in
    checks_by_rows program claims others steps checks claimed
    (rows_trans used claims others (proof_cited_rows program claims steps checks.follows) rows)

pub checks_further : (program : Program) (claims further : List Claim) (steps : List Step) → IsTrue (list_all (is_claim_of program) further)
    → Checks program claims steps → Checks program (claims ++ further) steps
checks_further program claims further steps claimed checks =
    checks_more program claims (claims ++ further) steps (λ k claim e. (k, get_prefix claims further k claim e))
    (all_append (is_claim_of program) claims further checks.claimed claimed) checks
