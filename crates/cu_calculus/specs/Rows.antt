-- Claims as rows of a list: those that are rows of another list, and those that derivations and
-- proofs cite.
use Rattle.std.specs.Prelude.{◌≡◌, ℕ, List, [], ◌∷◌, ◌++◌, Some, slice_get}
use Rattle.cu_calculus.specs.declared.Head.{Head}
use Rattle.cu_calculus.specs.Gives as gives
use Rattle.cu_calculus.specs.Gives.{AllGive, Applied, AppliedTo, Claim, Gives}
use Rattle.cu_calculus.specs.Match.{Environment}
use Rattle.cu_calculus.specs.Program.{Program}
use Rattle.cu_calculus.specs.Proof as proof
use Rattle.cu_calculus.specs.Proof.{AllFollow, Applies, AppliesTo, Follows, Statement, Step}
use Rattle.cu_calculus.specs.Term.{Term, Terms}
use Rattle.cu_calculus.specs.Value.{Value, Values}

-- Every row of the first claims is a row of the second.
abbrev pub AreRows : List Claim → List Claim → Type 0
AreRows claims others = (k : ℕ) (claim : Claim) → slice_get claims k ≡ Some claim
    → (m : ℕ) × (slice_get others m ≡ Some claim)

module _ (program : Program) (claims : List Claim) where
  -- the claims that a derivation cites, one for each set call in it
  abbrev mutual
    pub cited : (env : Environment) (t : Term) (v : Value) → Gives program claims env t v
        → List Claim
    cited env _ _ (gives.bottom _ t) = []
    cited env _ _ (gives.variable _ x v p) = []
    cited env _ _ (gives.literal _ l) = []
    cited env _ _ (gives.whole _ h ts us v ps app) =
        all_cited env ts us ps ++ applied_cited h us v app
    cited env _ _ (gives.part _ h ts us ps) = all_cited env ts us ps
    cited env _ _ (gives.applied _ f a w u v p q app) =
        cited env f w p ++ cited env a u q ++ applied_to_cited w u v app
    cited env _ _ (gives.bound _ x a b u v p q) = cited env a u p ++ cited _ b v q
    cited env _ _ (gives.free _ x t u v total fits p) = cited _ t v p
    cited env _ _ (gives.left _ a b v p) = cited env a v p
    cited env _ _ (gives.right _ a b v p) = cited env b v p
    cited env _ _ (gives.chosen _ mode a t alternatives bindings u v p selects q) =
        cited env a u p ++ cited _ t v q

    -- the claims that the derivations of several terms cite
    pub all_cited : (env : Environment) (ts : Terms) (vs : Values)
        → AllGive program claims env ts vs → List Claim
    all_cited env _ _ (gives.none _) = []
    all_cited env _ _ (gives.more _ t ts v vs p ps) = cited env t v p ++ all_cited env ts vs ps

    -- the claims that the call of a head on values cites
    pub applied_cited : (h : Head) (us : Values) (v : Value) → Applied program claims h us v
        → List Claim
    applied_cited _ us _ (gives.constructed c _) = []
    applied_cited _ us _ (gives.by_rule f function rules k rule bindings _ v e b r m p) =
        cited _ rule.body v p
    applied_cited _ us _ (gives.builtin f function operation _ v e b answers) = []
    applied_cited _ us _ (gives.collect f claim k c _ v g e f' a s p) = claim ∷ []

    -- the claims that the application of a functional value to one more argument cites
    pub applied_to_cited : (w u v : Value) → AppliedTo program claims w u v → List Claim
    applied_to_cited _ u _ (gives.extended h us more _ m l) = []
    applied_to_cited _ u _ (gives.completed h us all _ v m l app) = applied_cited h all v app

  -- the claim that a call of a head cites in a proof, where it is a set call
  abbrev pub applying_cited : (h : Head) (us : Values) (ss : List Statement) (v : Value)
      → Applies program claims h us ss v → List Claim
  applying_cited _ us _ _ (proof.constructed c _ v e) = []
  applying_cited _ us _ _ (proof.by_rule f function rules k rule bindings _ s v e b r m says) = []
  applying_cited _ us _ _ (proof.builtin f function operation _ v e b answers) = []
  applying_cited _ us _ _ (proof.collect f claim k c _ v g e f' a s p) = claim ∷ []

  -- the claim that an application of a functional value cites in a proof, where it completes a set
  -- call
  abbrev pub applying_to_cited : (w u : Value) (ss : List Statement) (v : Value)
      → AppliesTo program claims w u ss v → List Claim
  applying_to_cited _ u _ _ (proof.extended h us more _ m l) = []
  applying_to_cited _ u _ _ (proof.completed h us all _ last v m l app) =
      applying_cited h all last v app

  -- the claim that a statement cites in a proof, where it is about a set call
  abbrev pub following_cited : (ss : List Statement) (env : Environment) (t : Term) (v : Value)
      → Follows program claims ss env t v → List Claim
  following_cited _ env _ _ (proof.whole cited parts last _ h ts us v e say app) =
      applying_cited h us last v app
  following_cited _ env _ _ (proof.applied s r last _ f a w u v p q app) =
      applying_to_cited w u last v app
  following_cited _ env _ _ _ = []

  -- the claims that a proof cites
  abbrev pub proof_cited : (steps : List Step) → AllFollow program claims steps → List Claim
  proof_cited _ proof.nothing = []
  proof_cited _ (proof.followed before after cited step rest cites follows e) =
      proof_cited before rest
      ++ following_cited cited _ step.statement.term step.statement.value follows
