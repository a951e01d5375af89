-- What is built of an expression is worth what its term is.
use Rattle.std.proofs.Common.{◌≡◌, ℕ, zero, suc, ◌+◌, ◌<◌, ◌≤◌, inl, inr, Bool, true, ◌&&◌, if◌then◌else◌, List, [], ◌∷◌, ◌++◌, Option, None, Some, IsTrue, refl, ap, sym, ◌∙◌, subst, length, map, zip, nat_eq, eqb-true, slice_get, get_or, true≢false, arith}
use Rattle.std.specs.List.{list_all}
use Rattle.std.proofs.lemmas.Bool.{and_parts}
use Rattle.cu_calculus.specs.declared.ExprId.{ExprId}
use Rattle.cu_calculus.specs.declared.FunId.{FunId}
use Rattle.cu_calculus.specs.declared.Head.{Head}
use Rattle.cu_calculus.specs.declared.Head.TheVariants as head
use Rattle.cu_calculus.specs.declared.Mode.{Mode}
use Rattle.cu_calculus.specs.declared.builtin.Primitive.{Primitive}
use Rattle.cu_calculus.specs.declared.builtin.Primitive.TheVariants as prim
use Rattle.cu_calculus.specs.Below as below
use Rattle.cu_calculus.specs.Below.{Below, EnvBelow}
use Rattle.cu_calculus.specs.Builtin.{Answers}
use Rattle.cu_calculus.specs.Choose.{Selects}
use Rattle.cu_calculus.specs.Code as code
use Rattle.cu_calculus.specs.Code.{Branch, Code, Expr, arity_of, body_of, expr_of}
use Rattle.cu_calculus.specs.FlatProgram.{alternatives_of, body_in, function_in, program_of, term_of, term_over, term_within, terms_of}
use Rattle.cu_calculus.specs.Gives as gives
use Rattle.cu_calculus.specs.Gives.{AllGive, Applied, AppliedTo, Claim, Gives}
use Rattle.cu_calculus.specs.Match.{Environment, bind, bind_all, empty}
use Rattle.cu_calculus.specs.Program.{function_of}
use Rattle.cu_calculus.specs.Shape.{is_of, takes, takes_more}
use Rattle.cu_calculus.specs.Term as term
use Rattle.cu_calculus.specs.Term.{Alternatives, Term}
use Rattle.cu_calculus.specs.Value as value
use Rattle.cu_calculus.specs.Value.{Value, Values, values_of}
use Rattle.cu_calculus.specs.Valid.{holds}
use Rattle.cu_calculus.specs.WellFormed.{fit_branches, fits, fits_expr, is_allowed, without}
use Rattle.cu_calculus.proofs.BelowLaws.{below_itself}
use Rattle.cu_calculus.proofs.FlatFitting.{function_there, nat_eq_comm}
use Rattle.cu_calculus.proofs.FlatTerms.{over_agrees, within_any}
use Rattle.cu_calculus.proofs.Weaken.{at_bottom, bind_all_below, weaken}
use Rattle.cu_machine.specs.declared.Kind.TheVariants as kind
use Rattle.cu_machine.specs.Build.{Built, Fresh, Scope, Shared, Top, build_case, build_expr, build_free, build_let, build_parts, build_variable, build_within, instead, kind_of_call, kind_of_whole, on_top, place_in, place_of, pushed, top_id, write, written}
use Rattle.cu_machine.specs.Graph.{Graph, Node, stuck}
use Rattle.cu_machine.proofs.Frames.{at_new, at_same, length_written}
use Rattle.cu_machine.proofs.RowMoves.{some_is}
use Rattle.cu_laws.specs.Good.{Assignment, AtMost, Distinguished, Good, MayHave, NoValue, Worth, env_in}
use Rattle.cu_laws.proofs.Heads.{values_at}
use Rattle.cu_laws.proofs.Raising.{by_test}

-- ---- heads with all their arguments

pub body_there : (program : Code) (f : FunId) (body : code.Body) → body_of program f ≡ Some body
    → (function : code.Function) × (slice_get program.functions f.0 ≡ Some function) × (function.body ≡ body)
body_there program f body is = go (slice_get program.functions f.0) refl is
  where
    go : (found : Option code.Function) → slice_get program.functions f.0 ≡ found → (elim found [ Some function ↦ Some function.body | None ↦ None ]) ≡ Some body
        → (function : code.Function) × (slice_get program.functions f.0 ≡ Some function) × (function.body ≡ body)
    go None at e = let no : ⊥ = cc in absurd no
    go (Some function) at e = let same : function.body ≡ body = cc in (function, at, same)

pub operation_applies : (program : Code) (claims : List Claim) (f : FunId) (operation : Primitive) (us : Values) (v : Value)
    → body_of program f ≡ Some (code.External operation) → Answers (program_of program) operation us v → Applied (program_of program) claims (head.Fun f) us v
operation_applies program claims f operation us v is answers =
    let found = body_there program f (code.External operation) is in
    let there : function_of (program_of program) f ≡ Some (function_in program found.0) =
    function_there program f ∙ ap (λ (o : Option code.Function). elim o [ Some function ↦ Some (function_in program function) | None ↦ None ]) found.1 in
    gives.builtin f (function_in program found.0) operation us v there (ap (body_in program) found.2) answers

pub call_worth : (program : Code) (claims : List Claim) (assigned : Assignment) (f : FunId) (args : List ℕ) (v : Value) (body : Option code.Body) → body_of program f ≡ body
    → MayHave NoValue program claims assigned (kind_of_call f body) args v → AtMost (Applied (program_of program) claims (head.Fun f) (values_at assigned args)) v
call_worth program claims assigned f args v None is may = inl may
call_worth program claims assigned f args v (Some (code.Rule params body)) is may = may
call_worth program claims assigned f args v (Some (code.External prim.Failed)) is may = inl may
call_worth program claims assigned f args v (Some (code.External operation)) is may = elim may [
  | inl none ↦ inl none
  | inr found ↦ inr (found.0, operation_applies program claims f operation (values_at assigned args) found.0 is found.1, found.2)
]

-- a head on all its arguments is worth what the calculus gives it
pub whole_worth : (program : Code) (claims : List Claim) (assigned : Assignment) (h : Head) (args : List ℕ) (v : Value)
    → MayHave NoValue program claims assigned (kind_of_whole program h) args v → AtMost (Applied (program_of program) claims h (values_at assigned args)) v
whole_worth program claims assigned (head.Con c) args v may = may
whole_worth program claims assigned (head.Set f) args v may = may
whole_worth program claims assigned (head.Fun f) args v may = call_worth program claims assigned f args v (body_of program f) refl may

-- the alternatives of a case distinction, by either bound on the depth of terms
pub alternatives_same : (program : Code) (n : ℕ) (variables : List ℕ) (mode : Mode) (kept : List ℕ) (s : ExprId) (branches : List Branch)
    → n ≤ length program.expressions → fits_expr (fits n program) program variables (Some (code.Case mode kept s branches)) ≡ true
    → alternatives_of (term_within n program) branches ≡ alternatives_of (term_of program) branches
alternatives_same program n variables mode kept s branches low fit =
    let whole : term.Case mode (term_within n program s) (alternatives_of (term_within n program) branches)
    ≡ term.Case mode (term_of program s) (alternatives_of (term_of program) branches) =
    over_agrees (fits n program) (term_within n program) (term_of program) program variables (Some (code.Case mode kept s branches))
    (λ inner x fit_x. within_any program inner n (length program.expressions) x low fit_x) fit in
    cc

-- ---- scopes

-- the variable that was bound last
pub last_place : (scope : Scope) (x id y : ℕ) → place_in (scope ++ (x, id) ∷ []) y ≡ (if nat_eq y x then Some id else place_in scope y)
last_place [] x id y = refl
last_place ((z, other) ∷ scope) x id y =
    ap (λ (o : Option ℕ). elim o [ Some found ↦ Some found | None ↦ if nat_eq y z then Some other else None ]) (last_place scope x id y)
    ∙ by_test (nat_eq y x)
    (λ b. (elim (if b then Some id else place_in scope y) [ Some found ↦ Some found | None ↦ if nat_eq y z then Some other else None ])
    ≡ (if b then Some id else place_in ((z, other) ∷ scope) y)) (λ same. refl) (λ no_test. refl)

pub env_of_last : (assigned : Assignment) (scope : Scope) (x id : ℕ) → EnvBelow (env_in assigned (scope ++ (x, id) ∷ [])) (bind (env_in assigned scope) x (assigned id))
env_of_last assigned scope x id y =
    subst (λ (o : Option ℕ). Below (elim o [ Some place ↦ assigned place | None ↦ value.Bottom ]) (bind (env_in assigned scope) x (assigned id) y)) (sym (last_place scope x id y))
    (subst (λ (b : Bool). Below (elim (if nat_eq y x then Some id else place_in scope y) [ Some place ↦ assigned place | None ↦ value.Bottom ])
    (if b then assigned id else env_in assigned scope y)) (nat_eq_comm y x)
    (by_test (nat_eq y x) (λ b. Below (elim (if b then Some id else place_in scope y) [ Some place ↦ assigned place | None ↦ value.Bottom ])
    (if b then assigned id else env_in assigned scope y)) (λ same. below_itself (assigned id)) (λ other. below_itself (env_in assigned scope y))))

module _ (program : Code) (claims : List Claim) (assigned : Assignment) (all : (id : ℕ) → IsTrue (is_of (program_of program) (assigned id))) where
  -- ---- nodes that are pushed

  -- nodes from a place on have values that they may have
  abbrev pub AllMay : ℕ → List Node → Type 0
  AllMay place [] = Unit {0}
  AllMay place (n ∷ nodes) = MayHave NoValue program claims assigned n.kind n.args (assigned place) × AllMay (suc place) nodes

  abbrev pub TopMay : Top → Value → Type 0
  TopMay (Shared id) v = Below v (assigned id)
  TopMay (Fresh n) v = MayHave NoValue program claims assigned n.kind n.args v

  pub all_may_split : (place : ℕ) (xs ys : List Node) → AllMay place (xs ++ ys) → AllMay place xs × AllMay (place + length xs) ys
  all_may_split place [] ys may = (tt, subst (λ (n : ℕ). AllMay n ys) (omega arith) may)
  all_may_split place (x ∷ xs) ys may =
      let rest = all_may_split (suc place) xs ys may.1 in ((may.0, rest.0), subst (λ (n : ℕ). AllMay n ys) (omega arith) rest.1)

  pub top_may : (place : ℕ) (top : Top) → AllMay place (on_top top) → TopMay top (assigned (top_id place top))
  top_may place (Shared id) may = below_itself (assigned id)
  top_may place (Fresh n) may = may.0

  -- what is pushed whole: its parts, and the value of its place
  pub pushed_may : (next : ℕ) (built : Built) → AllMay next (pushed built) → AllMay next built.parts × TopMay built.top (assigned (place_of next built))
  pushed_may next built may =
      let both = all_may_split next built.parts (on_top built.top) may in (both.0, top_may (next + length built.parts) built.top both.1)

  -- ---- expressions

  abbrev pub BuiltIsWorth : ℕ → Type 0
  BuiltIsWorth n = (variables : List ℕ) (scope : Scope) (next : ℕ) (e : ExprId) (v : Value) → fits n program variables e ≡ true
      → AllMay next (build_within n program scope next e).parts → TopMay (build_within n program scope next e).top v
      → Gives (program_of program) claims (env_in assigned scope) (term_within n program e) v

  -- a value that a term has, or a lower one
  pub gives_at_most : (env : Environment) (t : Term) (IsWorth : Value → Type 0) (v : Value) → AtMost IsWorth v
      → ((w : Value) → IsWorth w → Gives (program_of program) claims env t w) → Gives (program_of program) claims env t v
  gives_at_most env t IsWorth v (inl none) given = at_bottom (program_of program) claims env t v none
  gives_at_most env t IsWorth v (inr found) given =
      weaken (program_of program) claims env env t found.0 v (given found.0 found.1) (λ x. below_itself (env x)) found.2

  parts_worth : (n : ℕ) → BuiltIsWorth n → (variables : List ℕ) (scope : Scope) (next : ℕ) (es : List ExprId) → list_all (fits n program variables) es ≡ true
      → AllMay next (build_parts (build_within n program scope) next es).nodes
      → AllGive (program_of program) claims (env_in assigned scope) (terms_of (term_within n program) es)
      (values_at assigned (build_parts (build_within n program scope) next es).ids)
  parts_worth n part variables scope next [] fit may = gives.none (env_in assigned scope)
  parts_worth n part variables scope next (e ∷ es) fit may =
      let one = build_within n program scope next e in
      let others = build_parts (build_within n program scope) (next + length (pushed one)) es in
      let fit_both = and_parts (fits n program variables e) (list_all (fits n program variables) es) fit in
      let both = all_may_split next (pushed one) others.nodes may in
      let first = pushed_may next one both.0 in
      gives.more (env_in assigned scope) (term_within n program e) (terms_of (term_within n program) es) (assigned (place_of next one)) (values_at assigned others.ids)
      (part variables scope next e (assigned (place_of next one)) fit_both.0 first.0 first.1)
      (parts_worth n part variables scope (next + length (pushed one)) es fit_both.1 both.1)

  variable_worth : (scope : Scope) (x : ℕ) (v : Value) (place : Option ℕ) → place_in scope x ≡ place → TopMay (build_variable place).top v
      → Gives (program_of program) claims (env_in assigned scope) (term.Variable x) v
  variable_worth scope x v (Some id) is may =
      gives.variable (env_in assigned scope) x v
      (subst (λ (o : Option ℕ). Below v (elim o [ Some place ↦ assigned place | None ↦ value.Bottom ])) (sym is) may)
  variable_worth scope x v None is may = at_bottom (program_of program) claims (env_in assigned scope) (term.Variable x) v may

  let_worth : (n : ℕ) → BuiltIsWorth n → (inner variables : List ℕ) (scope : Scope) (next x : ℕ) (bound body : ExprId) (v : Value) → fits n program inner bound ≡ true
      → fits n program variables body ≡ true → AllMay next (build_let (build_within n program) scope next x bound body).parts
      → TopMay (build_let (build_within n program) scope next x bound body).top v
      → Gives (program_of program) claims (env_in assigned scope) (term.Let x (term_within n program bound) (term_within n program body)) v
  let_worth n part inner variables scope next x bound body v fit_bound fit_body may top =
      let flat = program_of program in
      let env = env_in assigned scope in
      let first = build_within n program scope next bound in
      let id = place_of next first in
      let wider = scope ++ (x, id) ∷ [] in
      let second = build_within n program wider (next + length (pushed first)) body in
      let both = all_may_split next (pushed first) second.parts may in
      let at_first = pushed_may next first both.0 in
      gives.bound env x (term_within n program bound) (term_within n program body) (assigned id) v
      (part inner scope next bound (assigned id) fit_bound at_first.0 at_first.1)
      (weaken flat claims (env_in assigned wider) (bind env x (assigned id)) (term_within n program body) v v
      (part variables wider (next + length (pushed first)) body v fit_body both.1 top) (env_of_last assigned scope x id) (below_itself v))

  free_worth : (n : ℕ) → BuiltIsWorth n → (variables : List ℕ) (scope : Scope) (next x : ℕ) (body : ExprId) (v : Value) → fits n program variables body ≡ true
      → AllMay next (build_free (build_within n program) scope next x body).parts → TopMay (build_free (build_within n program) scope next x body).top v
      → Gives (program_of program) claims (env_in assigned scope) (term.Free x (term_within n program body)) v
  free_worth n part variables scope next x body v fit may top =
      let flat = program_of program in
      let env = env_in assigned scope in
      let wider = scope ++ (x, next) ∷ [] in
      let inner = build_within n program wider (next + 1) body in
      let parts : AllMay (next + 1) inner.parts = subst (λ (m : ℕ). AllMay m inner.parts) (omega arith) may.1 in
      gives.free env x (term_within n program body) (assigned next) v may.0 (all next)
      (weaken flat claims (env_in assigned wider) (bind env x (assigned next)) (term_within n program body) v v
      (part variables wider (next + 1) body v fit parts top) (env_of_last assigned scope x next) (below_itself v))

  -- the values that a case distinction keeps are those of their variables
  kept_below : (scope : Scope) (next : ℕ) (kept : List ℕ) → AllMay next (build_parts (λ place x. build_variable (place_in scope x)) next kept).nodes
      → EnvBelow (bind_all empty (zip kept (map assigned (build_parts (λ place x. build_variable (place_in scope x)) next kept).ids))) (env_in assigned scope)
  kept_below scope next [] may y = below.bottom (env_in assigned scope y)
  kept_below scope next (x ∷ kept) may y =
      let one = build_variable (place_in scope x) in
      let later = next + length (pushed one) in
      let values = build_parts (λ place z. build_variable (place_in scope z)) later kept in
      let both = all_may_split next (pushed one) values.nodes may in
      let first = pushed_may next one both.0 in
      let v = assigned (place_of next one) in
      let rest = bind_all empty (zip kept (map assigned values.ids)) in
      by_test (nat_eq x y) (λ b. Below (if b then v else rest y) (env_in assigned scope y))
      (λ same. subst (λ (z : ℕ). Below v (env_in assigned scope z)) (eqb-true x y same) (here (place_in scope x) v first.1))
      (λ other. kept_below scope later kept both.1 y)
    where
      here : (place : Option ℕ) (v : Value) → TopMay (build_variable place).top v → Below v (elim place [ Some id ↦ assigned id | None ↦ value.Bottom ])
      here (Some id) v top = top
      here None v top = subst (λ (u : Value). Below u value.Bottom) (sym top) (below.bottom value.Bottom)

  case_worth : (n : ℕ) → BuiltIsWorth n → n ≤ length program.expressions → (variables : List ℕ) (scope : Scope) (next : ℕ) (mode : Mode) (e s : ExprId) (kept : List ℕ)
      (branches : List Branch) (v : Value) → expr_of program e ≡ Some (code.Case mode kept s branches)
      → fits_expr (fits n program) program variables (Some (code.Case mode kept s branches)) ≡ true
      → AllMay next (build_case (build_within n program) scope next mode e kept s).parts → TopMay (build_case (build_within n program) scope next mode e kept s).top v
      → Gives (program_of program) claims (env_in assigned scope) (term.Case mode (term_within n program s) (alternatives_of (term_within n program) branches)) v
  case_worth n part low variables scope next mode e s kept branches v is fit may top =
      let flat = program_of program in
      let env = env_in assigned scope in
      let first = build_within n program scope next s in
      let later = next + length (pushed first) in
      let values = build_parts (λ place x. build_variable (place_in scope x)) later kept in
      let both = all_may_split next (pushed first) values.nodes may in
      let at_first = pushed_may next first both.0 in
      let u = assigned (place_of next first) in
      let there = list_all (λ x. holds x variables) kept in
      let fit_s = (and_parts there (fits n program variables s) (and_parts (there && fits n program variables s) (fit_branches (fits n program) program kept branches) fit).0).1 in
      let same_alternatives : alternatives_of (term_within n program) branches ≡ alternatives_of (term_of program) branches =
      alternatives_same program n variables mode kept s branches low fit in
      gives_at_most env (term.Case mode (term_within n program s) (alternatives_of (term_within n program) branches))
      (Worth program claims (kind.Case mode e.0) (map assigned (place_of next first ∷ values.ids))) v top
      (λ w d. distinguished w d same_alternatives (part variables scope next s u fit_s at_first.0 at_first.1) (kept_below scope later kept both.1))
    where
      distinguished : (w : Value) → Distinguished program claims e (assigned (place_of next (build_within n program scope next s)))
          (map assigned (build_parts (λ place x. build_variable (place_in scope x)) (next + length (pushed (build_within n program scope next s))) kept).ids) w
          → alternatives_of (term_within n program) branches ≡ alternatives_of (term_of program) branches
          → Gives (program_of program) claims (env_in assigned scope) (term_within n program s) (assigned (place_of next (build_within n program scope next s)))
          → EnvBelow (bind_all empty (zip kept (map assigned (build_parts (λ place x. build_variable (place_in scope x)) (next + length (pushed (build_within n program scope next s))) kept).ids)))
          (env_in assigned scope)
          → Gives (program_of program) claims (env_in assigned scope) (term.Case mode (term_within n program s) (alternatives_of (term_within n program) branches)) w
      distinguished w d same_alternatives given keeps =
          let flat = program_of program in
          let env = env_in assigned scope in
          let u = assigned (place_of next (build_within n program scope next s)) in
          let ids = (build_parts (λ place x. build_variable (place_in scope x)) (next + length (pushed (build_within n program scope next s))) kept).ids in
          let codes : code.Case mode kept s branches ≡ code.Case d.mode d.kept d.scrutinee d.branches = some_is (code.Case mode kept s branches) (code.Case d.mode d.kept d.scrutinee d.branches) (sym is ∙ d.code_is) in
          let keepers : d.kept ≡ kept = cc in
          let arms : d.branches ≡ branches = cc in
          let selects : Selects flat (alternatives_of (term_within n program) branches) u d.term d.bindings =
          subst (λ (a : Alternatives). Selects flat a u d.term d.bindings) (ap (alternatives_of (term_of program)) arms ∙ sym same_alternatives) d.selects in
          let inner : Gives flat claims (bind_all (bind_all empty (zip kept (map assigned ids))) d.bindings) d.term w =
          subst (λ (xs : List ℕ). Gives flat claims (bind_all (bind_all empty (zip xs (map assigned ids))) d.bindings) d.term w) keepers d.gives in
          gives.chosen env mode (term_within n program s) d.term (alternatives_of (term_within n program) branches) d.bindings u w given selects
          (weaken flat claims (bind_all (bind_all empty (zip kept (map assigned ids))) d.bindings) (bind_all env d.bindings) d.term w w inner
          (bind_all_below (bind_all empty (zip kept (map assigned ids))) env d.bindings keeps) (below_itself w))

  expr_worth : (n : ℕ) → BuiltIsWorth n → n ≤ length program.expressions → (variables : List ℕ) (scope : Scope) (next : ℕ) (e : ExprId) (o : Option Expr) (v : Value)
      → expr_of program e ≡ o → fits_expr (fits n program) program variables o ≡ true
      → AllMay next (build_expr (build_within n program) program scope next e o).parts → TopMay (build_expr (build_within n program) program scope next e o).top v
      → Gives (program_of program) claims (env_in assigned scope) (term_over (term_within n program) o) v
  expr_worth n part low variables scope next e None v is fit may top = absurd (true≢false (sym fit))
  expr_worth n part low variables scope next e (Some (code.Variable x)) v is fit may top = variable_worth scope x v (place_in scope x) refl top
  expr_worth n part low variables scope next e (Some (code.Literal l)) v is fit may top =
      gives_at_most (env_in assigned scope) (term.Literal l) _ v top
      (λ w same. subst (λ (x : Value). Gives (program_of program) claims (env_in assigned scope) (term.Literal l) x) (sym same) (gives.literal (env_in assigned scope) l))
  expr_worth n part low variables scope next e (Some (code.Whole h es)) v is fit may top =
      let env = env_in assigned scope in
      let ts = terms_of (term_within n program) es in
      let parts = build_parts (build_within n program scope) next es in
      let fit_all = (and_parts (is_allowed program h && takes (arity_of program h) (length es)) (list_all (fits n program variables) es) fit).1 in
      gives_at_most env (term.Whole h ts) (Applied (program_of program) claims h (values_at assigned parts.ids)) v (whole_worth program claims assigned h parts.ids v top)
      (λ w app. gives.whole env h ts (values_at assigned parts.ids) w (parts_worth n part variables scope next es fit_all may) app)
  expr_worth n part low variables scope next e (Some (code.Part h es)) v is fit may top =
      let env = env_in assigned scope in
      let ts = terms_of (term_within n program) es in
      let parts = build_parts (build_within n program scope) next es in
      let fit_all = (and_parts (is_allowed program h && takes_more (arity_of program h) (length es)) (list_all (fits n program variables) es) fit).1 in
      gives_at_most env (term.Part h ts) _ v top
      (λ w same. subst (λ (x : Value). Gives (program_of program) claims env (term.Part h ts) x) (sym same)
      (gives.part env h ts (values_at assigned parts.ids) (parts_worth n part variables scope next es fit_all may)))
  expr_worth n part low variables scope next e (Some (code.Apply function argument)) v is fit may top =
      let env = env_in assigned scope in
      let one = build_within n program scope next function in
      let later = next + length (pushed one) in
      let other = build_within n program scope later argument in
      let fit_both = and_parts (fits n program variables function) (fits n program variables argument) fit in
      let both = all_may_split next (pushed one) (pushed other ++ []) may in
      let first = pushed_may next one both.0 in
      let second = pushed_may later other (all_may_split later (pushed other) [] both.1).0 in
      let w = assigned (place_of next one) in
      let u = assigned (place_of later other) in
      gives_at_most env (term.Apply (term_within n program function) (term_within n program argument)) _ v top
      (λ x app. gives.applied env (term_within n program function) (term_within n program argument) w u x
      (part variables scope next function w fit_both.0 first.0 first.1) (part variables scope later argument u fit_both.1 second.0 second.1) app)
  expr_worth n part low variables scope next e (Some (code.Let x bound body)) v is fit may top =
      let fit_both = and_parts (fits n program (without x variables) bound) (fits n program (variables ++ x ∷ []) body) fit in
      let_worth n part (without x variables) (variables ++ x ∷ []) scope next x bound body v fit_both.0 fit_both.1 may top
  expr_worth n part low variables scope next e (Some (code.Free x body)) v is fit may top = free_worth n part (variables ++ x ∷ []) scope next x body v fit may top
  expr_worth n part low variables scope next e (Some (code.Or left right)) v is fit may top =
      let env = env_in assigned scope in
      let a = term_within n program left in
      let b = term_within n program right in
      let one = build_within n program scope next left in
      let later = next + length (pushed one) in
      let other = build_within n program scope later right in
      let fit_both = and_parts (fits n program variables left) (fits n program variables right) fit in
      let both = all_may_split next (pushed one) (pushed other ++ []) may in
      let first = pushed_may next one both.0 in
      let second = pushed_may later other (all_may_split later (pushed other) [] both.1).0 in
      gives_at_most env (term.Or a b) _ v top
      (λ w found. elim found [
        | inl same ↦ gives.left env a b w (subst (λ (x : Value). Gives (program_of program) claims env a x) (sym same)
            (part variables scope next left (assigned (place_of next one)) fit_both.0 first.0 first.1))
        | inr same ↦ gives.right env a b w (subst (λ (x : Value). Gives (program_of program) claims env b x) (sym same)
            (part variables scope later right (assigned (place_of later other)) fit_both.1 second.0 second.1))
      ])
  expr_worth n part low variables scope next e (Some (code.Case mode kept s branches)) v is fit may top =
      case_worth n part low variables scope next mode e s kept branches v is fit may top

  pub built_worth : (n : ℕ) → n ≤ length program.expressions → BuiltIsWorth n
  unfolding build_within term_within
  built_worth zero low variables scope next e v fit may top = absurd (true≢false (sym fit))
  built_worth (suc n) low variables scope next e v fit may top =
      expr_worth n (built_worth n (omega arith)) (omega arith) variables scope next e (expr_of program e) v refl fit may top

  -- ---- written graphs

  pub all_may_from : (nodes : List Node) (place : ℕ)
      → ((i : ℕ) → i < length nodes → MayHave NoValue program claims assigned (get_or nodes i stuck).kind (get_or nodes i stuck).args (assigned (place + i)))
      → AllMay place nodes
  all_may_from [] place each = tt
  all_may_from (n ∷ nodes) place each =
      let first : place + 0 ≡ place = omega arith in (
        subst (λ (x : ℕ). MayHave NoValue program claims assigned n.kind n.args (assigned x)) first (each 0 (omega arith)),
        all_may_from nodes (suc place) (λ i below.
            let place_is : place + suc i ≡ suc place + i = omega arith in
            subst (λ (x : ℕ). MayHave NoValue program claims assigned (get_or nodes i stuck).kind (get_or nodes i stuck).args (assigned x)) place_is (each (suc i) (omega arith))),
      )

-- what is written over a node: values that its nodes may have, and one that its place may have
pub written_may : (program : Code) (claims : List Claim) (graph : Graph) (id : ℕ) (built : Built) (assigned : Assignment) → id < length graph
    → (good : Good program claims (written graph id built) assigned)
    → AllMay program claims assigned good.of_program (length graph) built.parts × TopMay program claims assigned good.of_program built.top (assigned id)
written_may program claims graph id built assigned here good =
    let total = length_written graph id built in
    let at_id : MayHave NoValue program claims assigned (instead built.top).kind (instead built.top).args (assigned id) =
    subst (λ (m : Node). MayHave NoValue program claims assigned m.kind m.args (assigned id)) (at_same graph id built here) (good.each id (omega arith)) in (
      all_may_from program claims assigned good.of_program built.parts (length graph) (λ i below.
          subst (λ (m : Node). MayHave NoValue program claims assigned m.kind m.args (assigned (length graph + i))) (at_new graph id built i here)
          (good.each (length graph + i) (omega arith))),
      top_of built.top at_id,
    )
  where
    top_of : (top : Top) → MayHave NoValue program claims assigned (instead top).kind (instead top).args (assigned id) → TopMay program claims assigned good.of_program top (assigned id)
    top_of (Shared other) may = may
    top_of (Fresh n) may = may

-- the term of an expression that is written over a node is worth what that node is
pub written_worth : (program : Code) (claims : List Claim) (graph : Graph) (id : ℕ) (scope : Scope) (variables : List ℕ) (e : ExprId) (assigned : Assignment)
    → id < length graph → fits (length program.expressions) program variables e ≡ true → Good program claims (write program scope graph id e) assigned
    → Gives (program_of program) claims (env_in assigned scope) (term_of program e) (assigned id)
written_worth program claims graph id scope variables e assigned here fit good =
    let n = length program.expressions in
    let may = written_may program claims graph id (build_within n program scope (length graph) e) assigned here good in
    built_worth program claims assigned good.of_program n (omega arith) variables scope (length graph) e (assigned id) fit may.0 may.1
