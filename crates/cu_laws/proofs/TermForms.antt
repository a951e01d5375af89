-- A derivation by the form of its term: values of the parts, of which the whole has its value.
use Rattle.std.proofs.Common.{◌≡◌, ℕ, ◌⊎◌, inl, inr, true, List, refl, subst}
use Rattle.cu_calculus.specs.declared.Head.{Head}
use Rattle.cu_calculus.specs.declared.Lit.{Lit}
use Rattle.cu_calculus.specs.Below as below
use Rattle.cu_calculus.specs.Below.{Below}
use Rattle.cu_calculus.specs.Gives as gives
use Rattle.cu_calculus.specs.Gives.{AllGive, Applied, AppliedTo, Claim, Gives}
use Rattle.cu_calculus.specs.Match.{Environment, bind}
use Rattle.cu_calculus.specs.Program.{Program}
use Rattle.cu_calculus.specs.Shape.{is_of, is_total_data}
use Rattle.cu_calculus.specs.Term as term
use Rattle.cu_calculus.specs.Term.{Term, Terms}
use Rattle.cu_calculus.specs.Value as value
use Rattle.cu_calculus.specs.Value.{Value, Values}
use Rattle.cu_calculus.proofs.BelowLaws.{below_itself}

module _ (program : Program) (claims : List Claim) (env : Environment) where
  pub literal_gives : (t : Term) (v : Value) → Gives program claims env t v → (l : Lit) → t ≡ term.Literal l → Below v (value.Literal l)
  literal_gives _ _ (gives.bottom _ t) l is = below.bottom (value.Literal l)
  literal_gives _ _ (gives.literal _ m) l is = let same : m ≡ l = cc in subst (λ (x : Lit). Below (value.Literal m) (value.Literal x)) same (below_itself (value.Literal m))
  literal_gives _ _ _ l is = let no : ⊥ = cc in absurd no

  -- values that terms have, at the least nothing
  abbrev pub nothing_of : Terms → Values
  nothing_of term.NoTerm = value.NoValue
  nothing_of (term.MoreTerms t ts) = value.MoreValues value.Bottom (nothing_of ts)

  pub nothing_given : (ts : Terms) → AllGive program claims env ts (nothing_of ts)
  nothing_given term.NoTerm = gives.none env
  nothing_given (term.MoreTerms t ts) = gives.more env t ts value.Bottom (nothing_of ts) (gives.bottom env t) (nothing_given ts)

  pub record WholeForm (h : Head) (ts : Terms) (v : Value) : Type 0 where
    pub values : Values
    pub given : AllGive program claims env ts values
    pub whole : (v ≡ value.Bottom) ⊎ Applied program claims h values v

  pub whole_form : (t : Term) (v : Value) → Gives program claims env t v → (h : Head) (ts : Terms) → t ≡ term.Whole h ts → WholeForm h ts v
  whole_form _ _ (gives.bottom _ t) h ts is = record { values = nothing_of ts; given = nothing_given ts; whole = inl refl }
  whole_form _ _ (gives.whole _ k ss us v ps app) h ts is =
      let heads : k ≡ h = cc in
      let terms : ss ≡ ts = cc in
      record {
        values = us;
        given = subst (λ (x : Terms). AllGive program claims env x us) terms ps;
        whole = inr (subst (λ (x : Head). Applied program claims x us v) heads app);
      }
  whole_form _ _ _ h ts is = let no : ⊥ = cc in absurd no

  pub record PartForm (h : Head) (ts : Terms) (v : Value) : Type 0 where
    pub values : Values
    pub given : AllGive program claims env ts values
    pub part : Below v (value.Partial h values)

  pub part_form : (t : Term) (v : Value) → Gives program claims env t v → (h : Head) (ts : Terms) → t ≡ term.Part h ts → PartForm h ts v
  part_form _ _ (gives.bottom _ t) h ts is = record { values = nothing_of ts; given = nothing_given ts; part = below.bottom (value.Partial h (nothing_of ts)) }
  part_form _ _ (gives.part _ k ss us ps) h ts is =
      let heads : k ≡ h = cc in
      let terms : ss ≡ ts = cc in
      record {
        values = us;
        given = subst (λ (x : Terms). AllGive program claims env x us) terms ps;
        part = subst (λ (x : Head). Below (value.Partial k us) (value.Partial x us)) heads (below_itself (value.Partial k us));
      }
  part_form _ _ _ h ts is = let no : ⊥ = cc in absurd no

  pub record ApplyForm (f a : Term) (v : Value) : Type 0 where
    pub function : Value
    pub argument : Value
    pub of_function : Gives program claims env f function
    pub of_argument : Gives program claims env a argument
    pub applied : (v ≡ value.Bottom) ⊎ AppliedTo program claims function argument v

  pub apply_form : (t : Term) (v : Value) → Gives program claims env t v → (f a : Term) → t ≡ term.Apply f a → ApplyForm f a v
  apply_form _ _ (gives.bottom _ t) f a is = record {
    function = value.Bottom;
    argument = value.Bottom;
    of_function = gives.bottom env f;
    of_argument = gives.bottom env a;
    applied = inl refl;
  }
  apply_form _ _ (gives.applied _ g b w u v p q app) f a is =
      let functions : g ≡ f = cc in
      let arguments : b ≡ a = cc in
      record {
        function = w;
        argument = u;
        of_function = subst (λ (x : Term). Gives program claims env x w) functions p;
        of_argument = subst (λ (x : Term). Gives program claims env x u) arguments q;
        applied = inr app;
      }
  apply_form _ _ _ f a is = let no : ⊥ = cc in absurd no

  pub record LetForm (x : ℕ) (a b : Term) (v : Value) : Type 0 where
    pub bound : Value
    pub of_bound : Gives program claims env a bound
    pub of_body : Gives program claims (bind env x bound) b v

  pub let_form : (t : Term) (v : Value) → Gives program claims env t v → (x : ℕ) (a b : Term) → t ≡ term.Let x a b → LetForm x a b v
  let_form _ _ (gives.bottom _ t) x a b is = record {
    bound = value.Bottom;
    of_bound = gives.bottom env a;
    of_body = gives.bottom (bind env x value.Bottom) b;
  }
  let_form _ _ (gives.bound _ y c d u v p q) x a b is =
      let variables : y ≡ x = cc in
      let bounds : c ≡ a = cc in
      let bodies : d ≡ b = cc in
      record {
        bound = u;
        of_bound = subst (λ (s : Term). Gives program claims env s u) bounds p;
        of_body = subst (λ (s : Term). Gives program claims (bind env x u) s v) bodies (subst (λ (z : ℕ). Gives program claims (bind env z u) d v) variables q);
      }
  let_form _ _ _ x a b is = let no : ⊥ = cc in absurd no

  pub record FreeForm (x : ℕ) (b : Term) (v : Value) : Type 0 where
    pub found : Value
    pub total : is_total_data found ≡ true
    pub of_program : is_of program found ≡ true
    pub of_body : Gives program claims (bind env x found) b v

  pub free_form : (t : Term) (v : Value) → Gives program claims env t v → (x : ℕ) (b : Term) → t ≡ term.Free x b → FreeForm x b v
  free_form _ _ (gives.bottom _ t) x b is = record {
    found = value.Variable 0;
    total = refl;
    of_program = refl;
    of_body = gives.bottom (bind env x (value.Variable 0)) b;
  }
  free_form _ _ (gives.free _ y c u v total fits p) x b is =
      let variables : y ≡ x = cc in
      let bodies : c ≡ b = cc in
      record {
        found = u;
        total = total;
        of_program = fits;
        of_body = subst (λ (s : Term). Gives program claims (bind env x u) s v) bodies (subst (λ (z : ℕ). Gives program claims (bind env z u) c v) variables p);
      }
  free_form _ _ _ x b is = let no : ⊥ = cc in absurd no

  pub record OrForm (a b : Term) (v : Value) : Type 0 where
    pub one : Value
    pub other : Value
    pub of_one : Gives program claims env a one
    pub of_other : Gives program claims env b other
    pub either : (v ≡ one) ⊎ (v ≡ other)

  pub or_form : (t : Term) (v : Value) → Gives program claims env t v → (a b : Term) → t ≡ term.Or a b → OrForm a b v
  or_form _ _ (gives.bottom _ t) a b is = record {
    one = value.Bottom;
    other = value.Bottom;
    of_one = gives.bottom env a;
    of_other = gives.bottom env b;
    either = inl refl;
  }
  or_form _ _ (gives.left _ c d v p) a b is =
      let terms : c ≡ a = cc in
      record {
        one = v;
        other = value.Bottom;
        of_one = subst (λ (s : Term). Gives program claims env s v) terms p;
        of_other = gives.bottom env b;
        either = inl refl;
      }
  or_form _ _ (gives.right _ c d v p) a b is =
      let terms : d ≡ b = cc in
      record {
        one = value.Bottom;
        other = v;
        of_one = gives.bottom env a;
        of_other = subst (λ (s : Term). Gives program claims env s v) terms p;
        either = inr refl;
      }
  or_form _ _ _ a b is = let no : ⊥ = cc in absurd no

  -- terms of which there is one more
  pub record MoreForm (t : Term) (ts : Terms) (vs : Values) : Type 0 where
    pub first : Value
    pub others : Values
    pub is : vs ≡ value.MoreValues first others
    pub of_first : Gives program claims env t first
    pub of_others : AllGive program claims env ts others

  pub more_form : (ss : Terms) (vs : Values) → AllGive program claims env ss vs → (t : Term) (ts : Terms) → ss ≡ term.MoreTerms t ts → MoreForm t ts vs
  more_form _ _ (gives.none _) t ts is = let no : ⊥ = cc in absurd no
  more_form _ _ (gives.more _ s ss v vs p ps) t ts is =
      let terms : s ≡ t = cc in
      let rest : ss ≡ ts = cc in
      record {
        first = v;
        others = vs;
        is = refl;
        of_first = subst (λ (x : Term). Gives program claims env x v) terms p;
        of_others = subst (λ (x : Terms). AllGive program claims env x vs) rest ps;
      }

  pub none_form : (ss : Terms) (vs : Values) → AllGive program claims env ss vs → ss ≡ term.NoTerm → vs ≡ value.NoValue
  none_form _ _ (gives.none _) is = refl
  none_form _ _ (gives.more _ s ss v vs p ps) is = let no : ⊥ = cc in absurd no
