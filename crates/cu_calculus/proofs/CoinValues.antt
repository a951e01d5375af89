-- What the example's functions are worth, and which rows of claims about them are true.
use Rattle.std.proofs.Common.{◌≡◌, ℕ, zero, suc, ◌<◌, ◌≤◌, true, List, [], ◌∷◌, ◌⊎◌, inl, inr, Some, IsTrue, slice_get, slice_index, refl, ap, sym, ◌∙◌, subst, arith}
use Rattle.cu_calculus.specs.declared.ConId.{ConId}
use Rattle.cu_calculus.specs.declared.FunId.{FunId}
use Rattle.cu_calculus.specs.declared.Head.{Head}
use Rattle.cu_calculus.specs.declared.Head.TheVariants as head
use Rattle.cu_calculus.specs.declared.Lit.{Lit}
use Rattle.cu_calculus.specs.declared.builtin.Primitive.{Primitive}
use Rattle.cu_calculus.specs.Claims.{Allows, AreLeastLevels, AreLevels, AreTrue, Concludes, Derives, Mention, Collected, arguments_env, body_mentions, level_of}
use Rattle.cu_calculus.specs.Coin as coin
use Rattle.cu_calculus.specs.Gives as gives
use Rattle.cu_calculus.specs.Gives.{Applied, Claim, Gives}
use Rattle.cu_calculus.specs.Match.{Environment, bind_all, empty}
use Rattle.cu_calculus.specs.Program.{External, Function, Program, Rule, Rules, arity_in, function_of}
use Rattle.cu_calculus.specs.Shape.{is_ground}
use Rattle.cu_calculus.specs.Term as term
use Rattle.cu_calculus.specs.Term.{Term}
use Rattle.cu_calculus.specs.Valid.{IsValid, by_rules}
use Rattle.cu_calculus.specs.Value as value
use Rattle.cu_calculus.specs.Value.{Value, Values}
use Rattle.cu_calculus.proofs.BelowLaws.{below_itself}
use Rattle.cu_calculus.proofs.ExactClaims.{IsExactRow, exact_true, row_determined, true_exact}

pub coin_valid : IsValid coin.program
coin_valid = record {
  constructors = refl;
  functions = refl;
  special = record {
    falsity = refl;
    truth = refl;
    ordered = omega arith;
    nil = refl;
    cons = refl;
    both = (coin.conjunction_function, refl, refl, by_rules coin.conjunction_function.body 0 0 refl);
    values = λ c e. values_arity c e;
  };
}
  where
    values_arity : (c : ConId) → Some coin.some_values ≡ Some c → arity_in coin.program (head.Con c) ≡ Some 1
    values_arity c e =
        let same : coin.some_values ≡ c = cc in subst (λ (d : ConId). arity_in coin.program (head.Con d) ≡ Some 1) same refl

-- a literal is worth itself, or nothing is known of it
abbrev pub OneOf : Value → Value → Value → Type 0
OneOf v a b = (v ≡ value.Bottom) ⊎ (v ≡ a) ⊎ (v ≡ b)

literal_gives : (program : Program) (claims : List Claim) (env : Environment) (t : Term) (v : Value) (l : Lit) → Gives program claims env t v
    → t ≡ term.Literal l → (v ≡ value.Bottom) ⊎ (v ≡ value.Literal l)
literal_gives program claims env _ _ l (gives.bottom _ t) e = inl refl
literal_gives program claims env _ _ l (gives.literal _ m) e = let same : m ≡ l = cc in inr (ap value.Literal same)
literal_gives program claims env _ _ l (gives.variable _ x v p) e = let no : ⊥ = cc in absurd no
literal_gives program claims env _ _ l (gives.whole _ h ts us v ps app) e = let no : ⊥ = cc in absurd no
literal_gives program claims env _ _ l (gives.part _ h ts us ps) e = let no : ⊥ = cc in absurd no
literal_gives program claims env _ _ l (gives.applied _ f a w u v p q app) e = let no : ⊥ = cc in absurd no
literal_gives program claims env _ _ l (gives.bound _ x a b u v p q) e = let no : ⊥ = cc in absurd no
literal_gives program claims env _ _ l (gives.free _ x t u v total of p) e = let no : ⊥ = cc in absurd no
literal_gives program claims env _ _ l (gives.left _ a b v p) e = let no : ⊥ = cc in absurd no
literal_gives program claims env _ _ l (gives.right _ a b v p) e = let no : ⊥ = cc in absurd no
literal_gives program claims env _ _ l (gives.chosen _ mode a t alternatives bindings u v p selects q) e = let no : ⊥ = cc in absurd no

-- a choice between two literals is worth one of them
choice_gives : (program : Program) (claims : List Claim) (env : Environment) (t : Term) (v : Value) (l m : Lit) → Gives program claims env t v
    → t ≡ term.Or (term.Literal l) (term.Literal m) → OneOf v (value.Literal l) (value.Literal m)
choice_gives program claims env _ _ l m (gives.bottom _ t) e = inl refl
choice_gives program claims env _ _ l m (gives.left _ a b v p) e =
    let side : a ≡ term.Literal l = cc in
    elim (literal_gives program claims env a v l p side) [ inl nothing ↦ inl nothing | inr here ↦ inr (inl here) ]
choice_gives program claims env _ _ l m (gives.right _ a b v p) e =
    let side : b ≡ term.Literal m = cc in
    elim (literal_gives program claims env b v m p side) [ inl nothing ↦ inl nothing | inr here ↦ inr (inr here) ]
choice_gives program claims env _ _ l m (gives.literal _ n) e = let no : ⊥ = cc in absurd no
choice_gives program claims env _ _ l m (gives.variable _ x v p) e = let no : ⊥ = cc in absurd no
choice_gives program claims env _ _ l m (gives.whole _ h ts us v ps app) e = let no : ⊥ = cc in absurd no
choice_gives program claims env _ _ l m (gives.part _ h ts us ps) e = let no : ⊥ = cc in absurd no
choice_gives program claims env _ _ l m (gives.applied _ f a w u v p q app) e = let no : ⊥ = cc in absurd no
choice_gives program claims env _ _ l m (gives.bound _ x a b u v p q) e = let no : ⊥ = cc in absurd no
choice_gives program claims env _ _ l m (gives.free _ x t u v total of p) e = let no : ⊥ = cc in absurd no
choice_gives program claims env _ _ l m (gives.chosen _ mode a t alternatives bindings u v p selects q) e = let no : ⊥ = cc in absurd no

-- the rule of coin
only_rule : (f : FunId) (function : Function) (rules : List Rule) (k : ℕ) (rule : Rule) → f ≡ coin.coin → function_of coin.program f ≡ Some function
    → function.body ≡ Rules rules → slice_get rules k ≡ Some rule → rule ≡ coin.coin_rule
only_rule f function rules k rule at is body there =
    let found : function_of coin.program coin.coin ≡ Some function = subst (λ (g : FunId). function_of coin.program g ≡ Some function) at is in
    let same : coin.coin_function ≡ function = cc in
    let whole : Rules (coin.coin_rule ∷ []) ≡ Rules rules = ap (λ (g : Function). g.body) same ∙ body in
    let list : coin.coin_rule ∷ [] ≡ rules = cc in
    first k (subst (λ (rs : List Rule). slice_get rs k ≡ Some rule) (sym list) there)
  where
    first : (j : ℕ) → slice_get (coin.coin_rule ∷ []) j ≡ Some rule → rule ≡ coin.coin_rule
    first zero e = let same : coin.coin_rule ≡ rule = cc in sym same
    first (suc j) e = let no : ⊥ = cc in absurd no

not_external : (f : FunId) (function : Function) (operation : Primitive) → f ≡ coin.coin → function_of coin.program f ≡ Some function
    → function.body ≡ External operation → ⊥
not_external f function operation at is body =
    let found : function_of coin.program coin.coin ≡ Some function = subst (λ (g : FunId). function_of coin.program g ≡ Some function) at is in
    let same : coin.coin_function ≡ function = cc in
    let whole : Rules (coin.coin_rule ∷ []) ≡ External operation = ap (λ (g : Function). g.body) same ∙ body in
    cc

coin_applied : (claims : List Claim) (h : Head) (us : Values) (v : Value) → Applied coin.program claims h us v → h ≡ head.Fun coin.coin
    → OneOf v (coin.literal 0) (coin.literal 1)
coin_applied claims _ us _ (gives.constructed c _) e = let no : ⊥ = cc in absurd no
coin_applied claims _ us _ (gives.collect f claim k c _ v g a b d s p) e = let no : ⊥ = cc in absurd no
coin_applied claims _ us _ (gives.builtin f function operation _ v is body answers) e =
    let at : f ≡ coin.coin = cc in absurd (not_external f function operation at is body)
coin_applied claims _ us _ (gives.by_rule f function rules k rule bindings _ v is body there match p) e =
    let at : f ≡ coin.coin = cc in
    let rules_one : rule ≡ coin.coin_rule = only_rule f function rules k rule at is body there in
    choice_gives coin.program claims (bind_all empty bindings) rule.body v (coin.number 0) (coin.number 1) p
    (ap (λ (r : Rule). r.body) rules_one)

coin_gives : (claims : List Claim) (env : Environment) (t : Term) (v : Value) → Gives coin.program claims env t v
    → t ≡ term.Whole (head.Fun coin.coin) term.NoTerm → OneOf v (coin.literal 0) (coin.literal 1)
coin_gives claims env _ _ (gives.bottom _ t) e = inl refl
coin_gives claims env _ _ (gives.whole _ h ts us v ps app) e = let at : h ≡ head.Fun coin.coin = cc in coin_applied claims h us v app at
coin_gives claims env _ _ (gives.literal _ n) e = let no : ⊥ = cc in absurd no
coin_gives claims env _ _ (gives.variable _ x v p) e = let no : ⊥ = cc in absurd no
coin_gives claims env _ _ (gives.part _ h ts us ps) e = let no : ⊥ = cc in absurd no
coin_gives claims env _ _ (gives.applied _ f a w u v p q app) e = let no : ⊥ = cc in absurd no
coin_gives claims env _ _ (gives.bound _ x a b u v p q) e = let no : ⊥ = cc in absurd no
coin_gives claims env _ _ (gives.free _ x t u v total of p) e = let no : ⊥ = cc in absurd no
coin_gives claims env _ _ (gives.left _ a b v p) e = let no : ⊥ = cc in absurd no
coin_gives claims env _ _ (gives.right _ a b v p) e = let no : ⊥ = cc in absurd no
coin_gives claims env _ _ (gives.chosen _ mode a t alternatives bindings u v p selects q) e = let no : ⊥ = cc in absurd no

-- each of the two is a value of coin
coin_body : (claims : List Claim) (v : Value) → Gives coin.program claims (bind_all empty []) coin.coin_rule.body v
    → Concludes coin.program claims coin.coin value.NoValue v
coin_body claims v p =
    let env = arguments_env value.NoValue in (
      refl,
      refl,
      gives.whole env (head.Fun coin.coin) term.NoTerm value.NoValue v (gives.none env)
          (gives.by_rule coin.coin coin.coin_function (coin.coin_rule ∷ []) 0 coin.coin_rule [] value.NoValue v refl refl refl refl p),
    )

coin_zero : (claims : List Claim) → Concludes coin.program claims coin.coin value.NoValue (coin.literal 0)
coin_zero claims =
    let env = bind_all empty [] in
    coin_body claims (coin.literal 0)
    (gives.left env (term.Literal (coin.number 0)) (term.Literal (coin.number 1)) (coin.literal 0) (gives.literal env (coin.number 0)))

coin_one : (claims : List Claim) → Concludes coin.program claims coin.coin value.NoValue (coin.literal 1)
coin_one claims =
    let env = bind_all empty [] in
    coin_body claims (coin.literal 1)
    (gives.right env (term.Literal (coin.number 0)) (term.Literal (coin.number 1)) (coin.literal 1) (gives.literal env (coin.number 1)))

ground_coin : (v : Value) → OneOf v (coin.literal 0) (coin.literal 1) → IsTrue (is_ground v)
    → (k : ℕ) × (slice_get (coin.literal 0 ∷ coin.literal 1 ∷ []) k ≡ Some v)
ground_coin v (inl nothing) ground =
    let never : is_ground value.Bottom ≡ true = subst (λ (x : Value). is_ground x ≡ true) nothing ground in
    let no : ⊥ = cc in
    absurd no
ground_coin v (inr (inl is)) ground = (0, ap Some (sym is))
ground_coin v (inr (inr is)) ground = (1, ap Some (sym is))

-- no claim is true at the level of coin
no_claims : AreTrue coin.program coin.levels 0 []
unfolding AreTrue
no_claims = refl

coin_exact : IsExactRow coin.program coin.levels (coin.coin_row (coin.literal 0 ∷ coin.literal 1 ∷ []))
coin_exact = record {
  known = refl;
  of_program = refl;
  ground = refl;
  ordered = refl;
  each = each;
  every = λ claims v t ground h.
      ground_coin v (coin_gives claims (arguments_env value.NoValue) (term.Whole (head.Fun coin.coin) term.NoTerm) v h.2 refl) ground;
}
  where
    each : (k : ℕ) (v : Value) → slice_get (coin.literal 0 ∷ coin.literal 1 ∷ []) k ≡ Some v
        → IsTrue (is_ground v) × (claims : List Claim) × AreTrue coin.program coin.levels 0 claims
        × Concludes coin.program claims coin.coin value.NoValue v
    each zero v e =
        let same : coin.literal 0 ≡ v = cc in
        subst (λ (x : Value). IsTrue (is_ground x) × (claims : List Claim) × AreTrue coin.program coin.levels 0 claims
        × Concludes coin.program claims coin.coin value.NoValue x) same (refl, [], no_claims, coin_zero [])
    each (suc zero) v e =
        let same : coin.literal 1 ≡ v = cc in
        subst (λ (x : Value). IsTrue (is_ground x) × (claims : List Claim) × AreTrue coin.program coin.levels 0 claims
        × Concludes coin.program claims coin.coin value.NoValue x) same (refl, [], no_claims, coin_one [])
    each (suc (suc k)) v e = let no : ⊥ = cc in absurd no

pub coin_true : AreTrue coin.program coin.levels 1 (coin.coin_row (coin.literal 0 ∷ coin.literal 1 ∷ []) ∷ [])
coin_true = exact_true coin.program coin.levels 1 (coin.coin_row (coin.literal 0 ∷ coin.literal 1 ∷ []) ∷ []) row
  where
    row : (k : ℕ) (claim : Claim) → slice_get (coin.coin_row (coin.literal 0 ∷ coin.literal 1 ∷ []) ∷ []) k ≡ Some claim
        → (level_of coin.levels claim.function < 1) × IsExactRow coin.program coin.levels claim
    row zero claim e =
        let same : coin.coin_row (coin.literal 0 ∷ coin.literal 1 ∷ []) ≡ claim = cc in
        let low : level_of coin.levels coin.coin < 1 = omega arith in
        subst (λ (c : Claim). (level_of coin.levels c.function < 1) × IsExactRow coin.program coin.levels c) same (low, coin_exact)
    row (suc k) claim e = let no : ⊥ = cc in absurd no

-- no other list is that of a true row
pub coin_only : (values : List Value) → AreTrue coin.program coin.levels 1 (coin.coin_row values ∷ [])
    → values ≡ coin.literal 0 ∷ coin.literal 1 ∷ []
coin_only values h =
    let exact = (true_exact coin.program coin.levels 1 (coin.coin_row values ∷ []) h 0 (coin.coin_row values) refl).1 in
    row_determined coin.program coin.levels (coin.coin_row values) (coin.coin_row (coin.literal 0 ∷ coin.literal 1 ∷ [])) exact coin_exact refl refl

-- the levels
allowed_in : (others : List ℕ) (level : ℕ) (one all : List Mention) → one ≡ all → (m : ℕ) (mention : Mention) → slice_get all m ≡ Some mention
    → ((k : ℕ) (other : Mention) → slice_get one k ≡ Some other → Allows others level other) → Allows others level mention
allowed_in others level one all e m mention at each = each m mention (subst (λ (ms : List Mention). slice_get ms m ≡ Some mention) (sym e) at)

coin_levels : AreLevels coin.program coin.levels
coin_levels = record { each = refl; allowed = allowed }
  where
    none : (level : ℕ) (k : ℕ) (mention : Mention) → slice_get [] k ≡ Some mention → Allows coin.levels level mention
    none level k mention e = let no : ⊥ = cc in absurd no

    collects : (k : ℕ) (mention : Mention) → slice_get (Collected coin.coin ∷ []) k ≡ Some mention → Allows coin.levels 1 mention
    collects zero mention e =
        let same : Collected coin.coin ≡ mention = cc in
        let low : Allows coin.levels 1 (Collected coin.coin) = omega arith in
        subst (λ (x : Mention). Allows coin.levels 1 x) same low
    collects (suc k) mention e = let no : ⊥ = cc in absurd no

    allowed : (k m : ℕ) (function : Function) (mention : Mention) → slice_get coin.program.functions k ≡ Some function
        → slice_get (body_mentions function.body) m ≡ Some mention → Allows coin.levels (slice_index coin.levels k) mention
    allowed zero m function mention e at =
        let same : coin.conjunction_function ≡ function = cc in
        allowed_in coin.levels 0 [] (body_mentions function.body) (ap (λ (f : Function). body_mentions f.body) same) m mention at (none 0)
    allowed (suc zero) m function mention e at =
        let same : coin.coin_function ≡ function = cc in
        allowed_in coin.levels 0 [] (body_mentions function.body) (ap (λ (f : Function). body_mentions f.body) same) m mention at (none 0)
    allowed (suc (suc zero)) m function mention e at =
        let same : coin.every_function ≡ function = cc in
        allowed_in coin.levels 1 (Collected coin.coin ∷ []) (body_mentions function.body) (ap (λ (f : Function). body_mentions f.body) same) m mention
        at collects
    allowed (suc (suc (suc k))) m function mention e at = let no : ⊥ = cc in absurd no

pub coin_least : AreLeastLevels coin.program coin.levels
coin_least = record { are_levels = coin_levels; least = least }
  where
    least : (others : List ℕ) (k : ℕ) → AreLevels coin.program others → slice_index coin.levels k ≤ slice_index others k
    least others zero h = omega arith
    least others (suc zero) h = omega arith
    least others (suc (suc zero)) h =
        let above : level_of others coin.coin < slice_index others 2 = h.allowed 2 0 coin.every_function (Collected coin.coin) refl refl in
        omega (arith, above)
    least others (suc (suc (suc k))) h = omega arith

-- what every is worth
pub every_derives : Derives coin.program coin.every value.NoValue coin.both_values
every_derives = record { levels = coin.levels; least = coin_least; derives = (rows, coin_true, (refl, refl, call)) }
  where
    rows : List Claim
    rows = coin.coin_row (coin.literal 0 ∷ coin.literal 1 ∷ []) ∷ []

    set_call : Gives coin.program rows (bind_all empty []) coin.every_rule.body coin.both_values
    set_call =
        gives.whole (bind_all empty []) (head.Set coin.coin) term.NoTerm value.NoValue coin.both_values (gives.none (bind_all empty []))
        (gives.collect coin.coin (coin.coin_row (coin.literal 0 ∷ coin.literal 1 ∷ [])) 0 coin.some_values value.NoValue coin.both_values refl refl refl
        refl refl (below_itself coin.both_values))

    call : Gives coin.program rows (arguments_env value.NoValue) (term.Whole (head.Fun coin.every) term.NoTerm) coin.both_values
    call =
        gives.whole (arguments_env value.NoValue) (head.Fun coin.every) term.NoTerm value.NoValue coin.both_values
        (gives.none (arguments_env value.NoValue))
        (gives.by_rule coin.every coin.every_function (coin.every_rule ∷ []) 0 coin.every_rule [] value.NoValue coin.both_values refl refl refl refl
        set_call)

pub coin_fewer : AreTrue coin.program coin.levels 1 (coin.coin_row (coin.literal 0 ∷ []) ∷ []) → ⊥
coin_fewer h = let e = coin_only (coin.literal 0 ∷ []) h in cc

pub coin_more : AreTrue coin.program coin.levels 1 (coin.coin_row (coin.literal 0 ∷ coin.literal 1 ∷ coin.literal 2 ∷ []) ∷ []) → ⊥
coin_more h = let e = coin_only (coin.literal 0 ∷ coin.literal 1 ∷ coin.literal 2 ∷ []) h in cc
