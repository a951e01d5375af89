-- From a derivation of an expression's term: values of the nodes that are built of it.
use Rattle.std.proofs.Common.{◌≡◌, ◌≢◌, ℕ, zero, suc, ◌+◌, ◌-◌, ◌<◌, ◌≤◌, ◌⊎◌, inl, inr, Bool, true, false, ◌&&◌, ◌||◌, if◌then◌else◌, List, [], ◌∷◌, ◌++◌, Option, None, Some, IsTrue, refl, ap, sym, ◌∙◌, subst, length, map, zip, nat_eq, eqb-true, option_map, slice_get, get_or, true≢false, arith, length-append}
use Rattle.std.specs.List.{list_all}
use Rattle.std.proofs.lemmas.Bool.{and_from, and_parts}
use Rattle.cu_calculus.specs.declared.ExprId.{ExprId}
use Rattle.cu_calculus.specs.declared.FunId.{FunId}
use Rattle.cu_calculus.specs.declared.Head.{Head}
use Rattle.cu_calculus.specs.declared.Head.TheVariants as head
use Rattle.cu_calculus.specs.declared.Lit.{Lit}
use Rattle.cu_calculus.specs.declared.Lit.TheVariants.{Int}
use Rattle.cu_calculus.specs.declared.Mode.{Mode}
use Rattle.cu_calculus.specs.declared.builtin.Primitive.{Primitive}
use Rattle.cu_calculus.specs.declared.builtin.Primitive.TheVariants as prim
use Rattle.cu_calculus.specs.Below as below
use Rattle.cu_calculus.specs.Below.{AllBelow, Below, EnvBelow}
use Rattle.cu_calculus.specs.Builtin as builtin
use Rattle.cu_calculus.specs.Builtin.{Answers, on_literals}
use Rattle.cu_calculus.specs.Choose.{Selects, alternative_at}
use Rattle.cu_calculus.specs.Code as code
use Rattle.cu_calculus.specs.Code.{Branch, Code, Expr, arity_of, body_of, expr_of}
use Rattle.cu_calculus.specs.FlatProgram.{alternatives_of, body_in, function_in, pattern_of, program_of, term_of, term_over, term_within, terms_of}
use Rattle.cu_calculus.specs.Gives as gives
use Rattle.cu_calculus.specs.Gives.{AllGive, Applied, AppliedTo, Claim, Gives}
use Rattle.cu_calculus.specs.Match.{Environment, bind, bind_all, empty}
use Rattle.cu_calculus.specs.Program.{External, Function, Program, Rules, function_of}
use Rattle.cu_calculus.specs.Proof.{is_claim_of}
use Rattle.cu_calculus.specs.Shape.{is_of, is_total_data, takes, takes_more}
use Rattle.cu_calculus.specs.Term as term
use Rattle.cu_calculus.specs.Term.{Alternatives, Pattern, Term}
use Rattle.cu_calculus.specs.Value as value
use Rattle.cu_calculus.specs.Value.{Value, Values, values_of}
use Rattle.cu_calculus.specs.Valid.{fits_term, holds, is_linear, variables_of}
use Rattle.cu_calculus.specs.WellFormed.{all_differ, bound_by, fit_branches, fits, fits_expr, fits_pattern, is_allowed, is_well_formed, without}
use Rattle.cu_calculus.proofs.BelowLaws.{all_below_themselves, below_itself, below_trans}
use Rattle.cu_calculus.proofs.FlatFitting.{any_variables, function_there, nat_eq_comm, within_fits}
use Rattle.cu_calculus.proofs.FlatTerms.{fits_branch}
use Rattle.cu_calculus.proofs.FlatValid.{program_valid}
use Rattle.cu_calculus.proofs.Fitting.{fits_any}
use Rattle.cu_calculus.proofs.ValuesOf.{gives_of}
use Rattle.cu_calculus.proofs.Weaken.{all_weaken, bind_below, weaken}
use Rattle.cu_machine.specs.declared.Kind.{Kind}
use Rattle.cu_machine.specs.declared.Kind.TheVariants as kind
use Rattle.cu_machine.specs.Build.{Built, BuiltParts, Fresh, Scope, Shared, Top, after, build_alone, build_case, build_expr, build_free, build_let, build_node, build_parts, build_variable, build_within, instead, kind_of_call, kind_of_whole, place_in, place_of, pushed, write, written}
use Rattle.cu_machine.specs.Graph.{Graph, Node, alone, node_at, stuck}
use Rattle.cu_machine.proofs.Building.{all_get}
use Rattle.cu_machine.proofs.Frames.{at_new, at_same, length_written}
use Rattle.cu_laws.specs.Good.{Assignment, AtMost, Distinguished, MayHave, NoValue, RisesTo, env_in}
use Rattle.cu_laws.proofs.FreeVariables.{BelowWhere, bind_all_where, depends, matched_names, names}
use Rattle.cu_laws.proofs.Inversion.{CaseGives, case_gives, variable_gives}
use Rattle.cu_laws.specs.Extends.{Extends}
use Rattle.cu_laws.proofs.Built.{AllMay, TopMay, alternatives_same, body_there, last_place}
use Rattle.cu_laws.proofs.Heads.{values_at}
use Rattle.cu_laws.proofs.Raising.{by_test, other_place, raise, raise_of, raise_rises, rises_itself, rises_trans, same_place}
use Rattle.cu_laws.proofs.Rising.{above_more, applied_rises, applied_to_rises, distinguished_rises, list_rises, may_rise}
use Rattle.cu_laws.proofs.TermForms.{apply_form, free_form, let_form, literal_gives, more_form, none_form, or_form, part_form, whole_form}
use Rattle.cu_laws.proofs.Truth.{under_bottom}

-- ---- heads with all their arguments

operation_gives : (program : Program) (claims : List Claim) (h : Head) (us : Values) (v : Value) → Applied program claims h us v → (f : FunId) (function : Function)
    (operation : Primitive) → h ≡ head.Fun f → function_of program f ≡ Some function → function.body ≡ External operation → Answers program operation us v
operation_gives program claims _ us _ (gives.constructed c _) f function operation is there body_is = let no : ⊥ = cc in absurd no
operation_gives program claims _ us v (gives.by_rule g other rules k rule bindings _ _ e b r m given) f function operation is there body_is =
    let same : g ≡ f = cc in
    let found : Some other ≡ Some function = sym (subst (λ (x : FunId). function_of program x ≡ Some other) same e) ∙ there in
    let functions : other ≡ function = cc in
    let bodies : Rules rules ≡ External operation = sym b ∙ ap (λ (x : Function). x.body) functions ∙ body_is in
    let no : ⊥ = cc in
    absurd no
operation_gives program claims _ us v (gives.builtin g other known _ _ e b answers) f function operation is there body_is =
    let same : g ≡ f = cc in
    let found : Some other ≡ Some function = sym (subst (λ (x : FunId). function_of program x ≡ Some other) same e) ∙ there in
    let functions : other ≡ function = cc in
    let bodies : External known ≡ External operation = sym b ∙ ap (λ (x : Function). x.body) functions ∙ body_is in
    let operations : known ≡ operation = cc in
    subst (λ (x : Primitive). Answers program x us v) operations answers
operation_gives program claims _ us v (gives.collect g claim k c _ _ ground e f' a s low) f function operation is there body_is = let no : ⊥ = cc in absurd no

failed_none : (program : Program) (ls : List Lit) → on_literals program prim.Failed ls ≡ None
failed_none program (Int m ∷ Int n ∷ []) = refl
failed_none program _ = refl

failed_answers : (program : Program) (operation : Primitive) (us : Values) (v : Value) → Answers program operation us v → operation ≡ prim.Failed → ⊥
failed_answers program operation us v (builtin.of_literals _ ls _ _ e f) is =
    let some : on_literals program prim.Failed ls ≡ Some v = subst (λ (x : Primitive). on_literals program x ls ≡ Some v) is f in
    let none : None ≡ Some v = sym (failed_none program ls) ∙ some in
    cc
failed_answers program _ _ v (builtin.equal a b _ answer c e) is = cc
failed_answers program _ _ v (builtin.unified a b _ same total e) is = cc
failed_answers program _ _ v (builtin.conjoined a b _ p q e) is = cc

function_known : (program : Program) (claims : List Claim) (h : Head) (us : Values) (v : Value) → Applied program claims h us v → (f : FunId) → h ≡ head.Fun f
    → (function : Function) × (function_of program f ≡ Some function)
function_known program claims _ us _ (gives.constructed c _) f is = let no : ⊥ = cc in absurd no
function_known program claims _ us v (gives.by_rule g function rules k rule bindings _ _ e b r m given) f is =
    let same : g ≡ f = cc in (function, subst (λ (x : FunId). function_of program x ≡ Some function) same e)
function_known program claims _ us v (gives.builtin g function operation _ _ e b answers) f is =
    let same : g ≡ f = cc in (function, subst (λ (x : FunId). function_of program x ≡ Some function) same e)
function_known program claims _ us v (gives.collect g claim k c _ _ ground e f' a s low) f is = let no : ⊥ = cc in absurd no

abbrev body_in_one : Option code.Function → Option code.Body
body_in_one (Some g) = Some g.body
body_in_one None = None

no_body_in : (program : Code) (function : Function) (found : Option code.Function) → body_in_one found ≡ None → option_map (function_in program) found ≡ Some function → ⊥
no_body_in program function None e f = cc
no_body_in program function (Some g) e f = cc

no_body : (program : Code) (f : FunId) (function : Function) → body_of program f ≡ None → function_of (program_of program) f ≡ Some function → ⊥
no_body program f function none there = no_body_in program function (slice_get program.functions f.0) none (sym (function_there program f) ∙ there)

external_answers : (program : Code) (claims : List Claim) (f : FunId) (operation : Primitive) (us : Values) (v : Value) → body_of program f ≡ Some (code.External operation)
    → Applied (program_of program) claims (head.Fun f) us v → Answers (program_of program) operation us v
external_answers program claims f operation us v is app =
    let found = body_there program f (code.External operation) is in
    let there : function_of (program_of program) f ≡ Some (function_in program found.0) =
    function_there program f ∙ ap (λ (o : Option code.Function). elim o [ Some function ↦ Some (function_in program function) | None ↦ None ]) found.1 in
    operation_gives (program_of program) claims (head.Fun f) us v app f (function_in program found.0) operation refl there (ap (body_in program) found.2)

-- a head on all its arguments has a node that may have what the calculus gives it
pub whole_may : (program : Code) (claims : List Claim) (assigned : Assignment) (h : Head) (args : List ℕ) (v w : Value)
    → Applied (program_of program) claims h (values_at assigned args) w → Below v w → MayHave NoValue program claims assigned (kind_of_whole program h) args v
whole_may program claims assigned (head.Con c) args v w app low = inr (w, app, low)
whole_may program claims assigned (head.Set f) args v w app low = inr (w, app, low)
whole_may program claims assigned (head.Fun f) args v w app low = by (body_of program f) refl
  where
    by : (body : Option code.Body) → body_of program f ≡ body → MayHave NoValue program claims assigned (kind_of_call f body) args v
    by None is =
        let known = function_known (program_of program) claims (head.Fun f) (values_at assigned args) w app f refl in
        absurd (no_body program f known.0 is known.1)
    by (Some (code.Rule params body)) is = inr (w, app, low)
    by (Some (code.External prim.Failed)) is =
        absurd (failed_answers (program_of program) prim.Failed (values_at assigned args) w
        (external_answers program claims f prim.Failed (values_at assigned args) w is app) refl)
    by (Some (code.External operation)) is = inr (w, external_answers program claims f operation (values_at assigned args) w is app, low)

pub bottom_whole : (program : Code) (claims : List Claim) (assigned : Assignment) (h : Head) (args : List ℕ)
    → MayHave NoValue program claims assigned (kind_of_whole program h) args value.Bottom
bottom_whole program claims assigned (head.Con c) args = inl refl
bottom_whole program claims assigned (head.Set f) args = inl refl
bottom_whole program claims assigned (head.Fun f) args = by (body_of program f)
  where
    by : (body : Option code.Body) → MayHave NoValue program claims assigned (kind_of_call f body) args value.Bottom
    by None = refl
    by (Some (code.Rule params body)) = inl refl
    by (Some (code.External prim.Failed)) = refl
    by (Some (code.External operation)) = inl refl

-- ---- branches

pub alternative_is : (t : ExprId → Term) (branches : List Branch) (k : ℕ) (p : Pattern) (s : Term) → alternative_at (alternatives_of t branches) k ≡ Some (p, s)
    → (branch : Branch) × (slice_get branches k ≡ Some branch) × (p ≡ pattern_of branch.pattern) × (s ≡ t branch.body)
alternative_is t [] k p s is = let no : ⊥ = cc in absurd no
alternative_is t (branch ∷ branches) zero p s is =
    let pairs : (pattern_of branch.pattern, t branch.body) ≡ (p, s) = some_pair (pattern_of branch.pattern, t branch.body) (p, s) is in
    (branch, refl, sym (ap (λ (x : Pattern × Term). x.0) pairs), sym (ap (λ (x : Pattern × Term). x.1) pairs))
  where
    some_pair : (a b : Pattern × Term) → Some a ≡ Some b → a ≡ b
    some_pair a b same = cc
alternative_is t (branch ∷ branches) (suc k) p s is = alternative_is t branches k p s is

bound_variables : (p : code.Shallow) → variables_of (pattern_of p) ≡ bound_by p
bound_variables (code.Exactly l) = refl
bound_variables (code.Built c xs) = any_variables xs

or_none : (b : Bool) → b ≡ true → (b || false) ≡ true
or_none b is = ap (λ (x : Bool). x || false) is

held_after : (y : ℕ) (xs ys : List ℕ) → holds y (xs ++ ys) ≡ true → (holds y ys || holds y xs) ≡ true
held_after y [] ys held = or_none (holds y ys) held
held_after y (x ∷ xs) ys held = by (nat_eq y x) (holds y ys) held (held_after y xs ys)
  where
    by : (b c : Bool) → (b || holds y (xs ++ ys)) ≡ true → (holds y (xs ++ ys) ≡ true → (c || holds y xs) ≡ true) → (c || (b || holds y xs)) ≡ true
    by true true h rest = refl
    by true false h rest = refl
    by false c h rest = rest h

module _ (program : Code) (claims : List Claim) where
  abbrev pub AllOf : Assignment → Type 0
  AllOf assigned = (id : ℕ) → IsTrue (is_of (program_of program) (assigned id))

  -- nothing is known from a place on
  abbrev pub Past : Assignment → ℕ → Type 0
  Past assigned next = (x : ℕ) → next ≤ x → assigned x ≡ value.Bottom

  -- An assignment that was extended to nodes that are pushed from a place on
  pub record Pushed (assigned : Assignment) (next : ℕ) (nodes : List Node) : Type 0 where
    pub higher : Assignment
    pub of_program : (id : ℕ) → IsTrue (is_of (program_of program) (higher id))
    pub rises : RisesTo assigned higher
    pub same : (x : ℕ) → x < next → higher x ≡ assigned x
    pub past : Past higher (next + length nodes)
    pub may : AllMay program claims higher of_program next nodes

  -- An assignment that was extended to the parts of what is built, whose top may have the value v
  pub record Extended (assigned : Assignment) (next : ℕ) (built : Built) (v : Value) : Type 0 where
    pub higher : Assignment
    pub of_program : (id : ℕ) → IsTrue (is_of (program_of program) (higher id))
    pub rises : RisesTo assigned higher
    pub same : (x : ℕ) → x < next → higher x ≡ assigned x
    pub past : Past higher (next + length built.parts)
    pub may : AllMay program claims higher of_program next built.parts
    pub top : TopMay program claims higher of_program built.top v

  -- ---- nodes that stay as they are

  pub all_may_rise : (low high : Assignment) (of_low : (id : ℕ) → IsTrue (is_of (program_of program) (low id))) (of_high : (id : ℕ) → IsTrue (is_of (program_of program) (high id)))
      (place : ℕ) (nodes : List Node) → RisesTo low high → ((x : ℕ) → x < place + length nodes → high x ≡ low x) → AllMay program claims low of_low place nodes
      → AllMay program claims high of_high place nodes
  all_may_rise low high of_low of_high place [] up same may = tt
  all_may_rise low high of_low of_high place (n ∷ nodes) up same may =
      let here : high place ≡ low place = same place (omega arith) in (
        subst (λ (v : Value). MayHave NoValue program claims high n.kind n.args v) (sym here) (may_rise NoValue program claims low high n.kind n.args (low place) up may.0),
        all_may_rise low high of_low of_high (suc place) nodes up (λ x below. same x (omega arith)) may.1,
      )

  pub all_may_join : (assigned : Assignment) (all : (id : ℕ) → IsTrue (is_of (program_of program) (assigned id))) (place : ℕ) (xs ys : List Node)
      → AllMay program claims assigned all place xs → AllMay program claims assigned all (place + length xs) ys → AllMay program claims assigned all place (xs ++ ys)
  all_may_join assigned all place [] ys may more = subst (λ (n : ℕ). AllMay program claims assigned all n ys) (omega arith) more
  all_may_join assigned all place (x ∷ xs) ys may more =
      (may.0, all_may_join assigned all (suc place) xs ys may.1 (subst (λ (n : ℕ). AllMay program claims assigned all n ys) (omega arith) more))

  -- nodes after nodes
  unfoldable pub pushed_both : (assigned : Assignment) (next : ℕ) (xs ys : List Node) (first : Pushed assigned next xs) → Pushed first.higher (next + length xs) ys
      → Pushed assigned next (xs ++ ys)
  pushed_both assigned next xs ys first second = record {
    higher = second.higher;
    of_program = second.of_program;
    rises = rises_trans assigned first.higher second.higher first.rises second.rises;
    same = λ x below. second.same x (omega arith) ∙ first.same x below;
    past = λ x above. let long = length-append xs ys in second.past x (omega arith);
    may = all_may_join second.higher second.of_program next xs ys
        (all_may_rise first.higher second.higher first.of_program second.of_program next xs second.rises second.same first.may) second.may;
  }

  pub nothing_pushed : (assigned : Assignment) (next : ℕ) → AllOf assigned → Past assigned next → Pushed assigned next []
  nothing_pushed assigned next all past = record {
    higher = assigned;
    of_program = all;
    rises = rises_itself assigned;
    same = λ x below. refl;
    past = λ x above. past x (omega arith);
    may = tt;
  }

  -- ---- a top that is pushed

  pub record PushedTop (assigned : Assignment) (next : ℕ) (built : Built) (v : Value) : Type 0 where
    pub pushes : Pushed assigned next (pushed built)
    pub there : Below v (pushes.higher (place_of next built))

  pub push_top : (assigned : Assignment) (next : ℕ) (parts : List Node) (top : Top) (v : Value) → IsTrue (is_of (program_of program) v)
      → Extended assigned next (record { parts = parts; top = top }) v → PushedTop assigned next (record { parts = parts; top = top }) v
  push_top assigned next parts (Shared id) v of_v e = record {
    pushes = record {
      higher = e.higher;
      of_program = e.of_program;
      rises = e.rises;
      same = e.same;
      past = λ x above. let long = length-append parts [] in e.past x (omega arith);
      may = all_may_join e.higher e.of_program next parts [] e.may tt;
    };
    there = e.top;
  }
  push_top assigned next parts (Fresh n) v of_v e =
      let low = e.higher in
      let place = next + length parts in
      let high = raise low place v in
      let up : RisesTo low high = raise_rises low place v (subst (λ (x : Value). Below x v) (sym (e.past place (omega arith))) (below.bottom v)) in
      let all : (id : ℕ) → IsTrue (is_of (program_of program) (high id)) = raise_of (program_of program) low place v of_v e.of_program in
      let others : (x : ℕ) → x ≢ place → high x ≡ low x = λ x other. other_place low place x v other in
      let at_place : high place ≡ v = same_place low place v in
      record {
        pushes = record {
          higher = high;
          of_program = all;
          rises = rises_trans assigned low high e.rises up;
          same = λ x below. others x (λ is. let no : ⊥ = omega arith in no) ∙ e.same x below;
          past = λ x above. let long = length-append parts (n ∷ []) in others x (λ is. let no : ⊥ = omega arith in no) ∙ e.past x (omega arith);
          may = all_may_join high all next parts (n ∷ [])
              (all_may_rise low high e.of_program all next parts up (λ x below. others x (λ is. let no : ⊥ = omega arith in no)) e.may)
              (subst (λ (x : Value). MayHave NoValue program claims high n.kind n.args x) (sym at_place) (may_rise NoValue program claims low high n.kind n.args v up e.top), tt);
        };
        there = subst (λ (x : Value). Below v x) (sym at_place) (below_itself v);
      }

  -- ---- expressions

  module _ (well : is_well_formed program ≡ true) (claimed : IsTrue (list_all (is_claim_of (program_of program)) claims)) where
    abbrev Has : ℕ → Type 0
    Has n = (variables : List ℕ) (scope : Scope) (next : ℕ) (e : ExprId) (v : Value) (assigned : Assignment) → fits n program variables e ≡ true → AllOf assigned
        → Past assigned next → Gives (program_of program) claims (env_in assigned scope) (term_within n program e) v
        → Extended assigned next (build_within n program scope next e) v

    env_of : (assigned : Assignment) (scope : Scope) → AllOf assigned → (x : ℕ) → IsTrue (is_of (program_of program) (env_in assigned scope x))
    env_of assigned scope all x = go (place_in scope x)
      where
        go : (o : Option ℕ) → IsTrue (is_of (program_of program) (elim o [ Some id ↦ assigned id | None ↦ value.Bottom ]))
        go None = refl
        go (Some id) = all id

    given_of : (n : ℕ) (variables : List ℕ) (scope : Scope) (e : ExprId) (v : Value) (assigned : Assignment) → fits n program variables e ≡ true → AllOf assigned
        → Gives (program_of program) claims (env_in assigned scope) (term_within n program e) v → IsTrue (is_of (program_of program) v)
    given_of n variables scope e v assigned fit all given =
        gives_of (program_of program) claims (program_valid program well) claimed (env_in assigned scope) (term_within n program e) v given (env_of assigned scope all)
        (fits_any (program_of program) (λ y. holds y variables) (term_within n program e) (within_fits program n variables e fit))

    push : (n : ℕ) → Has n → (variables : List ℕ) (scope : Scope) (next : ℕ) (e : ExprId) (v : Value) (assigned : Assignment) → fits n program variables e ≡ true
        → AllOf assigned → Past assigned next → Gives (program_of program) claims (env_in assigned scope) (term_within n program e) v
        → PushedTop assigned next (build_within n program scope next e) v
    push n has variables scope next e v assigned fit all past given =
        let built = build_within n program scope next e in
        push_top assigned next built.parts built.top v (given_of n variables scope e v assigned fit all given) (has variables scope next e v assigned fit all past given)

    env_rises : (low high : Assignment) (scope : Scope) → RisesTo low high → EnvBelow (env_in low scope) (env_in high scope)
    env_rises low high scope up x = go (place_in scope x)
      where
        go : (o : Option ℕ) → Below (elim o [ Some id ↦ low id | None ↦ value.Bottom ]) (elim o [ Some id ↦ high id | None ↦ value.Bottom ])
        go None = below_itself value.Bottom
        go (Some id) = up id

    record PushedParts (assigned : Assignment) (next : ℕ) (parts : BuiltParts) (us : Values) : Type 0 where
      pushes : Pushed assigned next parts.nodes
      there : AllBelow us (values_at pushes.higher parts.ids)

    parts_have : (n : ℕ) → Has n → (variables : List ℕ) (scope : Scope) (next : ℕ) (es : List ExprId) (us : Values) (assigned : Assignment)
        → list_all (fits n program variables) es ≡ true → AllOf assigned → Past assigned next
        → AllGive (program_of program) claims (env_in assigned scope) (terms_of (term_within n program) es) us
        → PushedParts assigned next (build_parts (build_within n program scope) next es) us
    unfolding pushed_both
    parts_have n has variables scope next [] us assigned fit all past given = record {
      pushes = nothing_pushed assigned next all past;
      there = subst (λ (x : Values). AllBelow x value.NoValue) (sym (none_form (program_of program) claims (env_in assigned scope) _ us given refl)) below.none;
    }
    parts_have n has variables scope next (e ∷ es) us assigned fit all past given =
        let P = program_of program in
        let env = env_in assigned scope in
        let fit_both = and_parts (fits n program variables e) (list_all (fits n program variables) es) fit in
        let form = more_form P claims env _ us given (term_within n program e) (terms_of (term_within n program) es) refl in
        let one = build_within n program scope next e in
        let first = push n has variables scope next e form.first assigned fit_both.0 all past form.of_first in
        let later = next + length (pushed one) in
        let low = first.pushes.higher in
        let rest_given = all_weaken P claims env (env_in low scope) (terms_of (term_within n program) es) form.others form.others form.of_others
        (env_rises assigned low scope first.pushes.rises) (all_below_themselves form.others) in
        let rest = parts_have n has variables scope later es form.others low fit_both.1 first.pushes.of_program first.pushes.past rest_given in
        let others = build_parts (build_within n program scope) later es in
        let high = rest.pushes.higher in
        record {
          pushes = pushed_both assigned next (pushed one) others.nodes first.pushes rest.pushes;
          there = subst (λ (x : Values). AllBelow x (values_at high (place_of next one ∷ others.ids))) (sym form.is)
              (below.more form.first (high (place_of next one)) form.others (values_at high others.ids)
              (below_trans form.first (low (place_of next one)) (high (place_of next one)) first.there (rest.pushes.rises (place_of next one))) rest.there);
        }

    -- parts, and a node over them
    over_parts : (assigned : Assignment) (next : ℕ) (parts : BuiltParts) (k : Kind) (v : Value) (pushes : Pushed assigned next parts.nodes)
        → MayHave NoValue program claims pushes.higher k parts.ids v → Extended assigned next (build_node k parts) v
    over_parts assigned next parts k v pushes may = record {
      higher = pushes.higher;
      of_program = pushes.of_program;
      rises = pushes.rises;
      same = pushes.same;
      past = pushes.past;
      may = pushes.may;
      top = may;
    }

    alone_has : (assigned : Assignment) (next : ℕ) (n : Node) (v : Value) → AllOf assigned → Past assigned next → MayHave NoValue program claims assigned n.kind n.args v
        → Extended assigned next (build_alone n) v
    alone_has assigned next n v all past may = record {
      higher = assigned;
      of_program = all;
      rises = rises_itself assigned;
      same = λ x below. refl;
      past = λ x above. past x (omega arith);
      may = tt;
      top = may;
    }

    variable_has : (assigned : Assignment) (scope : Scope) (next x : ℕ) (v : Value) (place : Option ℕ) → AllOf assigned → Past assigned next → place_in scope x ≡ place
        → Below v (env_in assigned scope x) → Extended assigned next (build_variable place) v
    variable_has assigned scope next x v (Some id) all past is low = record {
      higher = assigned;
      of_program = all;
      rises = rises_itself assigned;
      same = λ y below. refl;
      past = λ y above. past y (omega arith);
      may = tt;
      top = subst (λ (o : Option ℕ). Below v (elim o [ Some place ↦ assigned place | None ↦ value.Bottom ])) is low;
    }
    variable_has assigned scope next x v None all past is low =
        alone_has assigned next stuck v all past
        (under_bottom v (subst (λ (o : Option ℕ). Below v (elim o [ Some place ↦ assigned place | None ↦ value.Bottom ])) is low))

    at_most_of : (IsWorth : Value → Type 0) (v w : Value) → IsWorth w → Below v w → AtMost IsWorth v
    at_most_of IsWorth v w is low = inr (w, is, low)

    whole_has : (n : ℕ) → Has n → (variables : List ℕ) (scope : Scope) (next : ℕ) (h : Head) (es : List ExprId) (v : Value) (assigned : Assignment)
        → list_all (fits n program variables) es ≡ true → AllOf assigned → Past assigned next
        → Gives (program_of program) claims (env_in assigned scope) (term.Whole h (terms_of (term_within n program) es)) v
        → Extended assigned next (build_node (kind_of_whole program h) (build_parts (build_within n program scope) next es)) v
    whole_has n has variables scope next h es v assigned fit all past given =
        let P = program_of program in
        let ts = terms_of (term_within n program) es in
        let parts = build_parts (build_within n program scope) next es in
        let form = whole_form P claims (env_in assigned scope) (term.Whole h ts) v given h ts refl in
        let pushes = parts_have n has variables scope next es form.values assigned fit all past form.given in
        let high = pushes.pushes.higher in
        over_parts assigned next parts (kind_of_whole program h) v pushes.pushes (elim form.whole [
          | inl none ↦ subst (λ (x : Value). MayHave NoValue program claims high (kind_of_whole program h) parts.ids x) (sym none) (bottom_whole program claims high h parts.ids)
          | inr app ↦
              let more = applied_rises P claims h form.values (values_at high parts.ids) v app pushes.there in
              whole_may program claims high h parts.ids v more.0 more.1 more.2
        ])

    part_has : (n : ℕ) → Has n → (variables : List ℕ) (scope : Scope) (next : ℕ) (h : Head) (es : List ExprId) (v : Value) (assigned : Assignment)
        → list_all (fits n program variables) es ≡ true → AllOf assigned → Past assigned next
        → Gives (program_of program) claims (env_in assigned scope) (term.Part h (terms_of (term_within n program) es)) v
        → Extended assigned next (build_node (kind.Part h) (build_parts (build_within n program scope) next es)) v
    part_has n has variables scope next h es v assigned fit all past given =
        let P = program_of program in
        let ts = terms_of (term_within n program) es in
        let parts = build_parts (build_within n program scope) next es in
        let form = part_form P claims (env_in assigned scope) (term.Part h ts) v given h ts refl in
        let pushes = parts_have n has variables scope next es form.values assigned fit all past form.given in
        let w = value.Partial h (values_at pushes.pushes.higher parts.ids) in
        over_parts assigned next parts (kind.Part h) v pushes.pushes
        (inr (w, refl, below_trans v (value.Partial h form.values) w form.part (below.partial h form.values (values_at pushes.pushes.higher parts.ids) pushes.there)))

    -- two values below those of two places
    record TwoParts (assigned : Assignment) (next : ℕ) (parts : BuiltParts) (a b : ℕ) (u v : Value) : Type 0 where
      pushes : Pushed assigned next parts.nodes
      one : Below u (pushes.higher a)
      other : Below v (pushes.higher b)

    two_have : (n : ℕ) → Has n → (variables : List ℕ) (scope : Scope) (next : ℕ) (a b : ExprId) (u v : Value) (assigned : Assignment)
        → fits n program variables a ≡ true → fits n program variables b ≡ true → AllOf assigned → Past assigned next
        → Gives (program_of program) claims (env_in assigned scope) (term_within n program a) u
        → Gives (program_of program) claims (env_in assigned scope) (term_within n program b) v
        → TwoParts assigned next (build_parts (build_within n program scope) next (a ∷ b ∷ [])) (place_of next (build_within n program scope next a))
        (place_of (next + length (pushed (build_within n program scope next a))) (build_within n program scope (next + length (pushed (build_within n program scope next a))) b))
        u v
    two_have n has variables scope next a b u v assigned fit_a fit_b all past of_a of_b =
        let P = program_of program in
        let env = env_in assigned scope in
        let fit_both = and_from (fits n program variables a) (fits n program variables b && true) fit_a (and_from (fits n program variables b) true fit_b refl) in
        let given = gives.more env (term_within n program a) (terms_of (term_within n program) (b ∷ [])) u (value.MoreValues v value.NoValue) of_a
        (gives.more env (term_within n program b) term.NoTerm v value.NoValue of_b (gives.none env)) in
        let found = parts_have n has variables scope next (a ∷ b ∷ []) (value.MoreValues u (value.MoreValues v value.NoValue)) assigned fit_both all past given in
        let first = above_more _ _ found.there u (value.MoreValues v value.NoValue) refl in
        let second = above_more _ _ first.above_others v value.NoValue refl in
        let one = place_of next (build_within n program scope next a) in
        let later = next + length (pushed (build_within n program scope next a)) in
        let two = place_of later (build_within n program scope later b) in
        let high = found.pushes.higher in
        let is_first : value.MoreValues (high one) (value.MoreValues (high two) value.NoValue) ≡ value.MoreValues first.first first.others = first.is in
        let heads : first.first ≡ high one = cc in
        let rest : first.others ≡ value.MoreValues (high two) value.NoValue = cc in
        let is_second : value.MoreValues (high two) value.NoValue ≡ value.MoreValues second.first second.others = sym rest ∙ second.is in
        let seconds : second.first ≡ high two = cc in
        record {
          pushes = found.pushes;
          one = subst (λ (x : Value). Below u x) heads first.above_first;
          other = subst (λ (x : Value). Below v x) seconds second.above_first;
        }

    apply_has : (n : ℕ) → Has n → (variables : List ℕ) (scope : Scope) (next : ℕ) (f a : ExprId) (v : Value) (assigned : Assignment)
        → fits n program variables f ≡ true → fits n program variables a ≡ true → AllOf assigned → Past assigned next
        → Gives (program_of program) claims (env_in assigned scope) (term.Apply (term_within n program f) (term_within n program a)) v
        → Extended assigned next (build_node kind.Apply (build_parts (build_within n program scope) next (f ∷ a ∷ []))) v
    apply_has n has variables scope next f a v assigned fit_f fit_a all past given =
        let P = program_of program in
        let parts = build_parts (build_within n program scope) next (f ∷ a ∷ []) in
        let form = apply_form P claims (env_in assigned scope) (term.Apply (term_within n program f) (term_within n program a)) v given (term_within n program f) (term_within n program a) refl in
        let both = two_have n has variables scope next f a form.function form.argument assigned fit_f fit_a all past form.of_function form.of_argument in
        over_parts assigned next parts kind.Apply v both.pushes (elim form.applied [
          | inl none ↦ inl none
          | inr app ↦ let more = applied_to_rises P claims form.function form.argument _ _ v app both.one both.other in inr (more.0, more.1, more.2)
        ])

    or_has : (n : ℕ) → Has n → (variables : List ℕ) (scope : Scope) (next : ℕ) (a b : ExprId) (v : Value) (assigned : Assignment)
        → fits n program variables a ≡ true → fits n program variables b ≡ true → AllOf assigned → Past assigned next
        → Gives (program_of program) claims (env_in assigned scope) (term.Or (term_within n program a) (term_within n program b)) v
        → Extended assigned next (build_node kind.Or (build_parts (build_within n program scope) next (a ∷ b ∷ []))) v
    or_has n has variables scope next a b v assigned fit_a fit_b all past given =
        let P = program_of program in
        let parts = build_parts (build_within n program scope) next (a ∷ b ∷ []) in
        let form = or_form P claims (env_in assigned scope) (term.Or (term_within n program a) (term_within n program b)) v given (term_within n program a) (term_within n program b) refl in
        let both = two_have n has variables scope next a b form.one form.other assigned fit_a fit_b all past form.of_one form.of_other in
        let later = next + length (pushed (build_within n program scope next a)) in
        let left = both.pushes.higher (place_of next (build_within n program scope next a)) in
        let right = both.pushes.higher (place_of later (build_within n program scope later b)) in
        over_parts assigned next parts kind.Or v both.pushes (elim form.either [
          | inl is ↦ inr (left, inl refl, subst (λ (x : Value). Below x left) (sym is) both.one)
          | inr is ↦ inr (right, inr refl, subst (λ (x : Value). Below x right) (sym is) both.other)
        ])

    -- what is pushed before something that is built
    after_pushed : (assigned : Assignment) (next : ℕ) (nodes : List Node) (built : Built) (v : Value) (first : Pushed assigned next nodes)
        → Extended first.higher (next + length nodes) built v → Extended assigned next (after nodes built) v
    unfolding pushed_both
    after_pushed assigned next nodes built v first e =
        let low = first.higher in
        let high = e.higher in
        record {
          higher = high;
          of_program = e.of_program;
          rises = rises_trans assigned low high first.rises e.rises;
          same = λ x below. e.same x (omega arith) ∙ first.same x below;
          past = λ x above. let long = length-append nodes built.parts in e.past x (omega arith);
          may = all_may_join high e.of_program next nodes built.parts (all_may_rise low high first.of_program e.of_program next nodes e.rises e.same first.may) e.may;
          top = e.top;
        }

    env_above_last : (assigned : Assignment) (scope : Scope) (x id : ℕ) (u : Value) → Below u (assigned id)
        → EnvBelow (bind (env_in assigned scope) x u) (env_in assigned (scope ++ (x, id) ∷ []))
    env_above_last assigned scope x id u low y =
        subst (λ (o : Option ℕ). Below (bind (env_in assigned scope) x u y) (elim o [ Some place ↦ assigned place | None ↦ value.Bottom ])) (sym (last_place scope x id y))
        (subst (λ (b : Bool). Below (if b then u else env_in assigned scope y) (elim (if nat_eq y x then Some id else place_in scope y) [ Some place ↦ assigned place | None ↦ value.Bottom ]))
        (nat_eq_comm y x)
        (by_test (nat_eq y x) (λ b. Below (if b then u else env_in assigned scope y) (elim (if b then Some id else place_in scope y) [ Some place ↦ assigned place | None ↦ value.Bottom ]))
        (λ same. low) (λ other. below_itself (env_in assigned scope y))))

    let_has : (n : ℕ) → Has n → (inner variables : List ℕ) (scope : Scope) (next x : ℕ) (bound body : ExprId) (v : Value) (assigned : Assignment)
        → fits n program inner bound ≡ true → fits n program variables body ≡ true → AllOf assigned → Past assigned next
        → Gives (program_of program) claims (env_in assigned scope) (term.Let x (term_within n program bound) (term_within n program body)) v
        → Extended assigned next (build_let (build_within n program) scope next x bound body) v
    let_has n has inner variables scope next x bound body v assigned fit_bound fit_body all past given =
        let P = program_of program in
        let env = env_in assigned scope in
        let form = let_form P claims env (term.Let x (term_within n program bound) (term_within n program body)) v given x (term_within n program bound) (term_within n program body) refl in
        let one = build_within n program scope next bound in
        let first = push n has inner scope next bound form.bound assigned fit_bound all past form.of_bound in
        let low = first.pushes.higher in
        let id = place_of next one in
        let wider = scope ++ (x, id) ∷ [] in
        let later = next + length (pushed one) in
        let raised : EnvBelow (bind env x form.bound) (env_in low wider) =
        λ y. below_trans (bind env x form.bound y) (bind (env_in low scope) x form.bound y) (env_in low wider y)
        (bind_below env (env_in low scope) x form.bound (env_rises assigned low scope first.pushes.rises) y) (env_above_last low scope x id form.bound first.there y) in
        let inside = weaken P claims (bind env x form.bound) (env_in low wider) (term_within n program body) v v form.of_body raised (below_itself v) in
        after_pushed assigned next (pushed one) (build_within n program wider later body) v first.pushes
        (has variables wider later body v low fit_body first.pushes.of_program first.pushes.past inside)

    free_has : (n : ℕ) → Has n → (variables : List ℕ) (scope : Scope) (next x : ℕ) (body : ExprId) (v : Value) (assigned : Assignment)
        → fits n program variables body ≡ true → AllOf assigned → Past assigned next
        → Gives (program_of program) claims (env_in assigned scope) (term.Free x (term_within n program body)) v
        → Extended assigned next (build_free (build_within n program) scope next x body) v
    free_has n has variables scope next x body v assigned fit all past given =
        let P = program_of program in
        let env = env_in assigned scope in
        let form = free_form P claims env (term.Free x (term_within n program body)) v given x (term_within n program body) refl in
        let nodes = alone kind.Free ∷ [] in
        let low = raise assigned next form.found in
        let up : RisesTo assigned low = raise_rises assigned next form.found (subst (λ (y : Value). Below y form.found) (sym (past next (omega arith))) (below.bottom form.found)) in
        let there : low next ≡ form.found = same_place assigned next form.found in
        let all_low : (id : ℕ) → IsTrue (is_of P (low id)) = raise_of P assigned next form.found form.of_program all in
        let pushes : Pushed assigned next nodes = record {
          higher = low;
          of_program = all_low;
          rises = up;
          same = λ y below. other_place assigned next y form.found (λ is. let no : ⊥ = omega arith in no);
          past = λ y above. other_place assigned next y form.found (λ is. let no : ⊥ = omega arith in no) ∙ past y (omega arith);
          may = (ap is_total_data there ∙ form.total, tt);
        } in
        let wider = scope ++ (x, next) ∷ [] in
        let raised : EnvBelow (bind env x form.found) (env_in low wider) =
        λ y. below_trans (bind env x form.found y) (bind (env_in low scope) x form.found y) (env_in low wider y)
        (bind_below env (env_in low scope) x form.found (env_rises assigned low scope up) y)
        (env_above_last low scope x next form.found (subst (λ (z : Value). Below form.found z) (sym there) (below_itself form.found)) y) in
        let inside = weaken P claims (bind env x form.found) (env_in low wider) (term_within n program body) v v form.of_body raised (below_itself v) in
        let later : next + 1 ≡ next + length nodes = refl in
        after_free assigned next (build_within n program wider (next + 1) body) v pushes
        (has variables wider (next + 1) body v low fit all_low (λ y above. pushes.past y (omega arith)) inside)
      where
        after_free : (assigned : Assignment) (next : ℕ) (built : Built) (v : Value) (first : Pushed assigned next (alone kind.Free ∷ []))
            → Extended first.higher (next + 1) built v → Extended assigned next (after (alone kind.Free ∷ []) built) v
        after_free assigned next built v first e = after_pushed assigned next (alone kind.Free ∷ []) built v first e

    -- ---- case distinctions

    abbrev kept_parts : Scope → ℕ → List ℕ → BuiltParts
    kept_parts scope next kept = build_parts (λ place x. build_variable (place_in scope x)) next kept

    -- what is pushed for the variables that are kept is stuck, if anything
    kept_may : (assigned : Assignment) (all : (id : ℕ) → IsTrue (is_of (program_of program) (assigned id))) (scope : Scope) (next : ℕ) (kept : List ℕ) → Past assigned next
        → AllMay program claims assigned all next (kept_parts scope next kept).nodes
    kept_may assigned all scope next [] past = tt
    kept_may assigned all scope next (x ∷ kept) past =
        let one = build_variable (place_in scope x) in
        all_may_join assigned all next (pushed one) (kept_parts scope (next + length (pushed one)) kept).nodes (here (place_in scope x))
        (kept_may assigned all scope (next + length (pushed one)) kept (λ y above. past y (omega arith)))
      where
        here : (place : Option ℕ) → AllMay program claims assigned all next (pushed (build_variable place))
        here (Some id) = tt
        here None = (past next (omega arith), tt)

    kept_pushed : (assigned : Assignment) (scope : Scope) (next : ℕ) (kept : List ℕ) → AllOf assigned → Past assigned next
        → Pushed assigned next (kept_parts scope next kept).nodes
    kept_pushed assigned scope next kept all past = record {
      higher = assigned;
      of_program = all;
      rises = rises_itself assigned;
      same = λ x below. refl;
      past = λ x above. past x (omega arith);
      may = kept_may assigned all scope next kept past;
    }

    -- the variables that are kept have at least their values
    kept_above : (assigned : Assignment) (scope : Scope) (next : ℕ) (kept : List ℕ) (x : ℕ) → holds x kept ≡ true
        → Below (env_in assigned scope x) (bind_all empty (zip kept (map assigned (kept_parts scope next kept).ids)) x)
    kept_above assigned scope next [] x held = absurd (true≢false (sym held))
    kept_above assigned scope next (y ∷ kept) x held =
        let one = build_variable (place_in scope y) in
        let later = next + length (pushed one) in
        let v = assigned (place_of next one) in
        let rest = bind_all empty (zip kept (map assigned (kept_parts scope later kept).ids)) in
        by_test (nat_eq y x) (λ b. nat_eq y x ≡ b → Below (env_in assigned scope x) (if b then v else rest x))
        (λ same e. subst (λ (z : ℕ). Below (env_in assigned scope z) v) (eqb-true y x e) (here (place_in scope y)))
        (λ other e. kept_above assigned scope later kept x (after_it (nat_eq x y) (nat_eq_comm x y ∙ e) held)) refl
      where
        here : (place : Option ℕ) → Below (elim place [ Some id ↦ assigned id | None ↦ value.Bottom ]) (assigned (place_of next (build_variable place)))
        here (Some id) = below_itself (assigned id)
        here None = below.bottom (assigned (place_of next (build_variable None)))

        after_it : (b : Bool) → b ≡ false → (b || holds x kept) ≡ true → holds x kept ≡ true
        after_it b is h = subst (λ (z : Bool). (z || holds x kept) ≡ true) is h

    with_kept : (assigned : Assignment) (next : ℕ) (nodes : List Node) (scope : Scope) (kept : List ℕ) (first : Pushed assigned next nodes)
        → Pushed assigned next (nodes ++ (kept_parts scope (next + length nodes) kept).nodes)
    with_kept assigned next nodes scope kept first =
        pushed_both assigned next nodes (kept_parts scope (next + length nodes) kept).nodes first
        (kept_pushed first.higher scope (next + length nodes) kept first.of_program first.past)

    -- an alternative that was taken, over the variables that are kept alone
    branch_gives : (n : ℕ) → n ≤ length program.expressions → (variables : List ℕ) (mode : Mode) (e s : ExprId) (kept : List ℕ) (branches : List Branch) (low : Environment)
        (values : List Value) (v : Value) → expr_of program e ≡ Some (code.Case mode kept s branches)
        → fits_expr (fits n program) program variables (Some (code.Case mode kept s branches)) ≡ true
        → BelowWhere (λ y. holds y kept) low (bind_all empty (zip kept values))
        → (found : CaseGives (program_of program) claims low (term_within n program s) (alternatives_of (term_within n program) branches) v)
        → Distinguished program claims e found.scrutinee values v
    branch_gives n bound variables mode e s kept branches low values v is fit under found =
        let P = program_of program in
        let high = bind_all empty (zip kept values) in
        let there = list_all (λ x. holds x variables) kept in
        let fit_arms = (and_parts (there && fits n program variables s) (fit_branches (fits n program) program kept branches) fit).1 in
        let arms = and_parts (is_linear kept && all_differ branches) (list_all (fits_branch (fits n program) program kept) branches) fit_arms in
        let place = alternative_is (term_within n program) branches found.selects.choice found.selects.pattern found.term found.selects.at in
        let branch = place.0 in
        let xs = bound_by branch.pattern in
        let here = all_get (fits_branch (fits n program) program kept) branches found.selects.choice branch arms.1 place.1 in
        let fit_body = (and_parts (fits_pattern program branch.pattern) (fits n program (kept ++ xs) branch.body) here).1 in
        let fit_term : fits_term P (λ y. holds y (kept ++ xs)) found.term ≡ true =
        subst (λ (t : Term). fits_term P (λ y. holds y (kept ++ xs)) t ≡ true) (sym place.3) (within_fits program n (kept ++ xs) branch.body fit_body) in
        let named : xs ≡ names found.bindings =
        sym (ap variables_of place.2 ∙ bound_variables branch.pattern) ∙ matched_names found.selects.pattern found.scrutinee found.bindings found.selects.matches in
        let all_under = bind_all_where (λ y. holds y kept) low high found.bindings under in
        let inside = depends P claims (λ y. holds y (kept ++ xs)) (bind_all low found.bindings) (bind_all high found.bindings) found.term v found.gives fit_term
        (λ y held. all_under y (subst (λ (zs : List ℕ). (holds y zs || holds y kept) ≡ true) named (held_after y kept xs held))) in
        record {
          mode = mode;
          kept = kept;
          scrutinee = s;
          branches = branches;
          code_is = is;
          term = found.term;
          bindings = found.bindings;
          selects = subst (λ (a : Alternatives). Selects P a found.scrutinee found.term found.bindings) (alternatives_same program n variables mode kept s branches bound fit) found.selects;
          gives = inside;
        }

    case_has : (n : ℕ) → Has n → n ≤ length program.expressions → (variables : List ℕ) (scope : Scope) (next : ℕ) (mode : Mode) (e s : ExprId) (kept : List ℕ)
        (branches : List Branch) (v : Value) (assigned : Assignment) → expr_of program e ≡ Some (code.Case mode kept s branches)
        → fits_expr (fits n program) program variables (Some (code.Case mode kept s branches)) ≡ true → AllOf assigned → Past assigned next
        → Gives (program_of program) claims (env_in assigned scope) (term.Case mode (term_within n program s) (alternatives_of (term_within n program) branches)) v
        → Extended assigned next (build_case (build_within n program) scope next mode e kept s) v
    unfolding pushed_both with_kept kept_pushed
    case_has n has bound variables scope next mode e s kept branches v assigned is fit all past given =
        let P = program_of program in
        let env = env_in assigned scope in
        let there = list_all (λ x. holds x variables) kept in
        let fit_s = (and_parts there (fits n program variables s) (and_parts (there && fits n program variables s) (fit_branches (fits n program) program kept branches) fit).0).1 in
        by fit_s (case_gives P claims env (term.Case mode (term_within n program s) (alternatives_of (term_within n program) branches)) v given mode (term_within n program s)
        (alternatives_of (term_within n program) branches) refl)
      where
        with_scrutinee : (u : Value) → fits n program variables s ≡ true → Gives (program_of program) claims (env_in assigned scope) (term_within n program s) u
            → ((low : Assignment) → RisesTo assigned low → Below u (low (place_of next (build_within n program scope next s)))
            → AtMost (λ w. Distinguished program claims e (low (place_of next (build_within n program scope next s)))
            (map low (kept_parts scope (next + length (pushed (build_within n program scope next s))) kept).ids) w) v)
            → Extended assigned next (build_case (build_within n program) scope next mode e kept s) v
        with_scrutinee u fit_s of_s worth =
            let one = build_within n program scope next s in
            let later = next + length (pushed one) in
            let first = push n has variables scope next s u assigned fit_s all past of_s in
            let low = first.pushes.higher in
            let values = kept_parts scope later kept in
            over_parts assigned next (record { nodes = pushed one ++ values.nodes; ids = place_of next one ∷ values.ids }) (kind.Case mode e.0) v
            (with_kept assigned next (pushed one) scope kept first.pushes) (worth low first.pushes.rises first.there)

        by : fits n program variables s ≡ true
            → (v ≡ value.Bottom) ⊎ CaseGives (program_of program) claims (env_in assigned scope) (term_within n program s) (alternatives_of (term_within n program) branches) v
            → Extended assigned next (build_case (build_within n program) scope next mode e kept s) v
        by fit_s (inl none) = with_scrutinee value.Bottom fit_s (gives.bottom (env_in assigned scope) (term_within n program s)) (λ low up there. inl none)
        by fit_s (inr found) =
            with_scrutinee found.scrutinee fit_s found.given (λ low up there.
            let one = build_within n program scope next s in
            let later = next + length (pushed one) in
            let ids = (kept_parts scope later kept).ids in
            let distinguished = branch_gives n bound variables mode e s kept branches (env_in assigned scope) (map low ids) v is fit
            (λ x held. below_trans (env_in assigned scope x) (env_in low scope x) (bind_all empty (zip kept (map low ids)) x) (env_rises assigned low scope up x)
            (kept_above low scope later kept x held)) found in
            inr (
              v,
              distinguished_rises program claims e found.scrutinee (low (place_of next one)) (map low ids) (map low ids) v distinguished there
                  (list_rises low low ids (rises_itself low)),
              below_itself v,
            ))

    expr_has : (n : ℕ) → Has n → n ≤ length program.expressions → (variables : List ℕ) (scope : Scope) (next : ℕ) (e : ExprId) (o : Option Expr) (v : Value)
        (assigned : Assignment) → expr_of program e ≡ o → fits_expr (fits n program) program variables o ≡ true → AllOf assigned → Past assigned next
        → Gives (program_of program) claims (env_in assigned scope) (term_over (term_within n program) o) v
        → Extended assigned next (build_expr (build_within n program) program scope next e o) v
    expr_has n has bound variables scope next e None v assigned is fit all past given = absurd (true≢false (sym fit))
    expr_has n has bound variables scope next e (Some (code.Variable x)) v assigned is fit all past given =
        variable_has assigned scope next x v (place_in scope x) all past refl
        (variable_gives (program_of program) claims (env_in assigned scope) (term.Variable x) v given x refl)
    expr_has n has bound variables scope next e (Some (code.Literal l)) v assigned is fit all past given =
        alone_has assigned next (alone (kind.Lit l)) v all past
        (inr (value.Literal l, refl, literal_gives (program_of program) claims (env_in assigned scope) (term.Literal l) v given l refl))
    expr_has n has bound variables scope next e (Some (code.Whole h es)) v assigned is fit all past given =
        whole_has n has variables scope next h es v assigned
        (and_parts (is_allowed program h && takes (arity_of program h) (length es)) (list_all (fits n program variables) es) fit).1 all past given
    expr_has n has bound variables scope next e (Some (code.Part h es)) v assigned is fit all past given =
        part_has n has variables scope next h es v assigned
        (and_parts (is_allowed program h && takes_more (arity_of program h) (length es)) (list_all (fits n program variables) es) fit).1 all past given
    expr_has n has bound variables scope next e (Some (code.Apply function argument)) v assigned is fit all past given =
        let both = and_parts (fits n program variables function) (fits n program variables argument) fit in
        apply_has n has variables scope next function argument v assigned both.0 both.1 all past given
    expr_has n has bound variables scope next e (Some (code.Let x first body)) v assigned is fit all past given =
        let both = and_parts (fits n program (without x variables) first) (fits n program (variables ++ x ∷ []) body) fit in
        let_has n has (without x variables) (variables ++ x ∷ []) scope next x first body v assigned both.0 both.1 all past given
    expr_has n has bound variables scope next e (Some (code.Free x body)) v assigned is fit all past given =
        free_has n has (variables ++ x ∷ []) scope next x body v assigned fit all past given
    expr_has n has bound variables scope next e (Some (code.Or left right)) v assigned is fit all past given =
        let both = and_parts (fits n program variables left) (fits n program variables right) fit in
        or_has n has variables scope next left right v assigned both.0 both.1 all past given
    expr_has n has bound variables scope next e (Some (code.Case mode kept s branches)) v assigned is fit all past given =
        case_has n has bound variables scope next mode e s kept branches v assigned is fit all past given

    pub built_has : (n : ℕ) → n ≤ length program.expressions → Has n
    unfolding build_within term_within
    built_has zero bound variables scope next e v assigned fit all past given = absurd (true≢false (sym fit))
    built_has (suc n) bound variables scope next e v assigned fit all past given =
        expr_has n (built_has n (omega arith)) (omega arith) variables scope next e (expr_of program e) v assigned refl fit all past given

-- ---- written graphs

all_may_at : (program : Code) (claims : List Claim) (assigned : Assignment) (all : (id : ℕ) → IsTrue (is_of (program_of program) (assigned id))) (place : ℕ) (nodes : List Node)
    (i : ℕ) → AllMay program claims assigned all place nodes → i < length nodes
    → MayHave NoValue program claims assigned (get_or nodes i stuck).kind (get_or nodes i stuck).args (assigned (place + i))
all_may_at program claims assigned all place [] i may below = let no : ⊥ = omega arith in absurd no
all_may_at program claims assigned all place (n ∷ nodes) zero may below =
    subst (λ (x : ℕ). MayHave NoValue program claims assigned n.kind n.args (assigned x)) (omega arith) may.0
all_may_at program claims assigned all place (n ∷ nodes) (suc i) may below =
    subst (λ (x : ℕ). MayHave NoValue program claims assigned (get_or nodes i stuck).kind (get_or nodes i stuck).args (assigned x)) (omega arith)
    (all_may_at program claims assigned all (suc place) nodes i may.1 (omega arith))

-- what was extended to the parts of what is built over a node that has the value of its top
pub written_by : (program : Code) (claims : List Claim) (graph : Graph) (id : ℕ) (built : Built) (assigned : Assignment) → id < length graph
    → Extended program claims assigned (length graph) built (assigned id)
    → (extended : Assignment) × Extends program claims graph id (written graph id built) assigned extended
written_by program claims graph id built assigned here found =
    let after = written graph id built in
    let long = length_written graph id built in
    let high = found.higher in (
      high,
      record {
        of_program = found.of_program;
        same = found.same;
        past = λ x later. found.past x (omega arith);
        each = λ x below new. elim new [
          | inl same ↦
              subst (λ (y : ℕ). MayHave NoValue program claims high (node_at after y).kind (node_at after y).args (high y)) (sym same)
              (subst (λ (m : Node). MayHave NoValue program claims high m.kind m.args (high id)) (sym (at_same graph id built here))
              (subst (λ (v : Value). MayHave NoValue program claims high (instead built.top).kind (instead built.top).args v) (sym (found.same id here)) (top_of high found.of_program built.top (assigned id) found.top)))
          | inr later ↦
              let i = x - length graph in
              let is : length graph + i ≡ x = omega arith in
              subst (λ (y : ℕ). MayHave NoValue program claims high (node_at after y).kind (node_at after y).args (high y)) is
              (subst (λ (m : Node). MayHave NoValue program claims high m.kind m.args (high (length graph + i))) (sym (at_new graph id built i here))
              (all_may_at program claims high found.of_program (length graph) built.parts i found.may (omega arith)))
        ];
      },
    )
  where
    top_of : (high : Assignment) (of_high : (x : ℕ) → IsTrue (is_of (program_of program) (high x))) (top : Top) (v : Value) → TopMay program claims high of_high top v
        → MayHave NoValue program claims high (instead top).kind (instead top).args v
    top_of high of_high (Shared other) v may = may
    top_of high of_high (Fresh m) v may = may

pub written_has : (program : Code) (claims : List Claim) (graph : Graph) (id : ℕ) (scope : Scope) (variables : List ℕ) (e : ExprId) (assigned : Assignment)
    → is_well_formed program ≡ true → IsTrue (list_all (is_claim_of (program_of program)) claims) → id < length graph
    → fits (length program.expressions) program variables e ≡ true → ((x : ℕ) → IsTrue (is_of (program_of program) (assigned x)))
    → ((x : ℕ) → length graph ≤ x → assigned x ≡ value.Bottom)
    → Gives (program_of program) claims (env_in assigned scope) (term_of program e) (assigned id)
    → (extended : Assignment) × Extends program claims graph id (write program scope graph id e) assigned extended
written_has program claims graph id scope variables e assigned well claimed here fit all past given =
    let n = length program.expressions in
    written_by program claims graph id (build_within n program scope (length graph) e) assigned here
    (built_has program claims well claimed n (omega arith) variables scope (length graph) e (assigned id) assigned fit all past given)
