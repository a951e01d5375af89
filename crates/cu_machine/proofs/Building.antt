-- What is built of fitting expressions over nodes that are there may be pushed.
use Rattle.std.proofs.Common.{◌≡◌, ℕ, zero, suc, ◌+◌, ◌≤◌, Bool, true, false, not, ◌&&◌, ◌||◌, List, [], ◌∷◌, ◌++◌, Option, None, Some, IsTrue, if◌then◌else◌, refl, ap, sym, ◌∙◌, subst, true≢false, length, nat_eq, slice_get, arith, eq-eqb, eqb-true, length-append}
use Rattle.std.specs.List.{list_all, zip}
use Rattle.std.proofs.lemmas.List.Folds.{list_all-append}
use Rattle.cu_calculus.specs.declared.ExprId.{ExprId}
use Rattle.cu_calculus.specs.declared.FunId.{FunId}
use Rattle.cu_calculus.specs.declared.Head.{Head}
use Rattle.cu_calculus.specs.declared.Head.TheVariants as head
use Rattle.cu_calculus.specs.declared.Mode.{Mode}
use Rattle.cu_calculus.specs.declared.Mode.TheVariants.{Flex, Rigid}
use Rattle.cu_calculus.specs.declared.builtin.Primitive.{Primitive}
use Rattle.cu_calculus.specs.declared.builtin.Primitive.TheVariants as prim
use Rattle.cu_calculus.specs.Code as code
use Rattle.cu_calculus.specs.Code.{Body, Branch, Code, Expr, Function, Shallow, arity_of, body_of, expr_of, function_arity}
use Rattle.cu_calculus.specs.Literal.{is_literal}
use Rattle.cu_calculus.specs.Shape.{takes, takes_more}
use Rattle.cu_calculus.specs.Valid.{external_arity, holds, is_arity}
use Rattle.cu_calculus.specs.WellFormed.{fit_branches, fits, fits_body, fits_case, fits_expr, fits_function, has_special, is_allowed, is_well_formed, same_mode, without}
use Rattle.cu_machine.specs.declared.Kind.{Kind}
use Rattle.cu_machine.specs.declared.Kind.TheVariants as kind
use Rattle.cu_machine.specs.Build.{Built, BuiltParts, Scope, after, build_alone, build_case, build_expr, build_free, build_let, build_node, build_parts, build_variable, build_within, kind_of_call, kind_of_whole, place_in, place_of, pushed}
use Rattle.cu_machine.specs.Graph.{Node, alone}
use Rattle.cu_machine.specs.Sets.{has_set_head, is_set_head}
use Rattle.cu_machine.specs.Validity.{has_arguments, is_call, is_case}
use Rattle.cu_machine.proofs.Frames.{AllGood, Frame, GoodBuilt, TopGood, good_append, is_there, or_right, passes, place_there, pushed_good, there_later, there_new}
use Rattle.cu_machine.proofs.Fuel.{all_follow, both_true, left_true, right_true}

-- ---- code

abbrev pub passes_expr : Bool → Expr → Bool
passes_expr sets expr = sets || not (has_set_head expr)

abbrev pub passes_head : Bool → Head → Bool
passes_head sets h = sets || not (is_set_head h)

pub record CodeGood (program : Code) (sets : Bool) : Type 0 where
  pub well_formed : IsTrue (is_well_formed program)
  pub passing : IsTrue (list_all (passes_expr sets) program.expressions)

pub all_get : {A : Type 0} (p : A → Bool) (xs : List A) (i : ℕ) (x : A) → list_all p xs ≡ true → slice_get xs i ≡ Some x → p x ≡ true
all_get p [] i x all got = let no : ⊥ = cc in absurd no
all_get p (y ∷ ys) zero x all got =
    let same : y ≡ x = cc in subst (λ z. p z ≡ true) same (left_true (p y) (list_all p ys) all)
all_get p (y ∷ ys) (suc i) x all got = all_get p ys i x (right_true (p y) (list_all p ys) all) got

pub functions_fit : (program : Code) → is_well_formed program ≡ true → list_all (fits_function program) program.functions ≡ true
functions_fit program well =
    let a = list_all (λ constructor. is_arity constructor.arity) program.constructors in
    let b = list_all (fits_function program) program.functions in
    let c = list_all (fits_case program) program.expressions in
    right_true a b (left_true (a && b) c (left_true (a && b && c) (has_special program) well))

pub cases_fit : (program : Code) → is_well_formed program ≡ true → list_all (fits_case program) program.expressions ≡ true
cases_fit program well =
    let a = list_all (λ constructor. is_arity constructor.arity) program.constructors in
    let b = list_all (fits_function program) program.functions in
    let c = list_all (fits_case program) program.expressions in
    right_true (a && b) c (left_true (a && b && c) (has_special program) well)

pub special_there : (program : Code) → is_well_formed program ≡ true → has_special program ≡ true
special_there program well =
    let a = list_all (λ constructor. is_arity constructor.arity) program.constructors in
    let b = list_all (fits_function program) program.functions in
    let c = list_all (fits_case program) program.expressions in
    right_true (a && b && c) (has_special program) well

-- ---- heads with all their arguments

pub operation_fits : (program : Code) (f : FunId) (operation : Primitive) (n : ℕ) → external_arity operation ≡ n
    → has_arguments program (kind_of_call f (Some (code.External operation))) n ≡ true
operation_fits program f prim.Failed n same = eq-eqb n 0 (sym same)
operation_fits program f _ n same = eq-eqb _ n same

pub body_fits_call : (program : Code) (f : FunId) (n : ℕ) (function : Function) (body : Body) → slice_get program.functions f.0 ≡ Some function
    → function.body ≡ body → fits_function program function ≡ true → nat_eq function.arity n ≡ true
    → has_arguments program (kind_of_call f (Some body)) n ≡ true
body_fits_call program f n function (code.Rule params e) got is fit whole =
    subst
    (λ (o : Option Function). is_call (elim o [ Some g ↦ Some g.arity | None ↦ None ]) (elim o [ Some g ↦ Some g.body | None ↦ None ]) n ≡ true)
    (sym got) (subst (λ (b : Body). is_call (Some function.arity) (Some b) n ≡ true) (sym is) whole)
body_fits_call program f n function (code.External operation) got is fit whole =
    let arity : nat_eq (external_arity operation) function.arity ≡ true =
    subst (λ (b : Body). fits_body program function.arity b ≡ true) is
    (right_true (is_arity function.arity) (fits_body program function.arity function.body) fit) in
    operation_fits program f operation n (eqb-true (external_arity operation) function.arity arity ∙ eqb-true function.arity n whole)

pub call_fits : (program : Code) (f : FunId) (n : ℕ) → is_well_formed program ≡ true → takes (function_arity program f) n ≡ true
    → has_arguments program (kind_of_call f (body_of program f)) n ≡ true
call_fits program f n well whole = go (slice_get program.functions f.0) refl whole
  where
    go : (o : Option Function) → slice_get program.functions f.0 ≡ o
        → takes (elim o [ Some function ↦ Some function.arity | None ↦ None ]) n ≡ true
        → has_arguments program (kind_of_call f (elim o [ Some function ↦ Some function.body | None ↦ None ])) n ≡ true
    go None got h = let no : ⊥ = true≢false (sym h) in absurd no
    go (Some function) got h =
        body_fits_call program f n function function.body got refl (all_get (fits_function program) program.functions f.0 function (functions_fit program well) got) h

pub whole_fits : (program : Code) (h : Head) (n : ℕ) → is_well_formed program ≡ true → is_allowed program h ≡ true → takes (arity_of program h) n ≡ true
    → has_arguments program (kind_of_whole program h) n ≡ true
whole_fits program (head.Con c) n well allowed whole = whole
whole_fits program (head.Fun f) n well allowed whole = call_fits program f n well whole
whole_fits program (head.Set f) n well allowed whole = both_true (is_allowed program (head.Set f)) (takes (arity_of program (head.Set f)) n) allowed whole

pub call_passes : (sets : Bool) (f : FunId) (body : Option Body) → passes sets (kind_of_call f body) ≡ true
call_passes sets f None = or_right sets true refl
call_passes sets f (Some (code.Rule params e)) = or_right sets true refl
call_passes sets f (Some (code.External prim.Failed)) = or_right sets true refl
call_passes sets f (Some (code.External _)) = or_right sets true refl

pub whole_passes : (program : Code) (sets : Bool) (h : Head) → passes_head sets h ≡ true → passes sets (kind_of_whole program h) ≡ true
whole_passes program sets (head.Con c) pass = pass
whole_passes program sets (head.Fun f) pass = call_passes sets f (body_of program f)
whole_passes program sets (head.Set f) pass = pass

-- ---- parts

pub all_hold : {A : Type 0} (xs : List A) → list_all (λ x. true) xs ≡ true
all_hold [] = refl
all_hold (x ∷ xs) = all_hold xs

pub record GoodParts (f : Frame) (next count : ℕ) (parts : BuiltParts) : Type 0 where
  pub nodes : AllGood f next parts.nodes
  pub ids : list_all (is_there f (next + length parts.nodes)) parts.ids ≡ true
  pub count_is : length parts.ids ≡ count

-- parts with one more before them
pub one_more : (f : Frame) (next k total : ℕ) (one : Built) (others : BuiltParts) → total ≡ k + 1 → f.first ≤ next → GoodBuilt f next one
    → GoodParts f (next + length (pushed one)) k others → GoodParts f next total (record { nodes = pushed one ++ others.nodes; ids = place_of next one ∷ others.ids })
one_more f next k total one others is from good rest =
    let later = next + length (pushed one) in
    let end : later + length others.nodes ≡ next + length (pushed one ++ others.nodes) = rw (length-append (pushed one) others.nodes) (omega arith) in
    record {
      nodes = good_append f next (pushed one) others.nodes (pushed_good f next one good) rest.nodes;
      ids = subst (λ (m : ℕ). list_all (is_there f m) (place_of next one ∷ others.ids) ≡ true) end
          (both_true (is_there f (later + length others.nodes) (place_of next one)) (list_all (is_there f (later + length others.nodes)) others.ids)
          (there_later f later (later + length others.nodes) (place_of next one) (omega arith) (place_there f next one from good)) rest.ids);
      count_is = ap suc rest.count_is ∙ omega (arith, is);
    }

pub parts_good : {A : Type 0} (f : Frame) (part : ℕ → A → Built) (q : A → Bool) (next : ℕ) (es : List A) → f.first ≤ next
    → ((n : ℕ) (e : A) → next ≤ n → q e ≡ true → GoodBuilt f n (part n e)) → list_all q es ≡ true → GoodParts f next (length es) (build_parts part next es)
parts_good f part q next [] from each all = record { nodes = tt; ids = refl; count_is = refl }
parts_good f part q next (e ∷ es) from each all =
    let one = part next e in
    let later = next + length (pushed one) in
    let rest : GoodParts f later (length es) (build_parts part later es) =
    parts_good f part q later es (omega arith) (λ n x after. each n x (omega arith)) (right_true (q e) (list_all q es) all) in
    one_more f next (length es) (suc (length es)) one (build_parts part later es) (omega arith) from (each next e (omega arith) (left_true (q e) (list_all q es) all)) rest

pub node_good : (f : Frame) (next count : ℕ) (k : Kind) (parts : BuiltParts) → has_arguments f.program k count ≡ true → passes f.sets k ≡ true
    → GoodParts f next count parts → GoodBuilt f next (build_node k parts)
node_good f next count k parts whole pass good = record {
  parts = good.nodes;
  top = record { whole = rw (good.count_is) whole; passing = pass; there = good.ids };
}

pub alone_good : (f : Frame) (next : ℕ) (k : Kind) → has_arguments f.program k 0 ≡ true → passes f.sets k ≡ true → GoodBuilt f next (build_alone (alone k))
alone_good f next k whole pass = record { parts = tt; top = record { whole = whole; passing = pass; there = refl } }

pub after_good : (f : Frame) (next : ℕ) (nodes : List Node) (built : Built) → AllGood f next nodes → GoodBuilt f (next + length nodes) built
    → GoodBuilt f next (after nodes built)
after_good f next nodes built prefix good = record {
  parts = good_append f next nodes built.parts prefix good.parts;
  top = subst (λ (n : ℕ). TopGood f n built.top) (rw (length-append nodes built.parts) (omega arith)) good.top;
}

-- ---- scopes

pub record ScopeGood (f : Frame) (next : ℕ) (variables : List ℕ) (scope : Scope) : Type 0 where
  pub there : list_all (λ bound. is_there f next bound.1) scope ≡ true

abbrev pub PlaceGood : Frame → ℕ → Option ℕ → Type 0
PlaceGood f next (Some id) = is_there f next id ≡ true
PlaceGood f next None = Unit {0}

pub place_good : (f : Frame) (next : ℕ) (scope : Scope) (x : ℕ) → list_all (λ bound. is_there f next bound.1) scope ≡ true → PlaceGood f next (place_in scope x)
place_good f next [] x there = tt
place_good f next ((y, id) ∷ scope) x there =
    go (place_in scope x) (nat_eq x y) (place_good f next scope x (right_true (is_there f next id) (list_all (λ bound. is_there f next bound.1) scope) there))
  where
    go : (o : Option ℕ) (b : Bool) → PlaceGood f next o → PlaceGood f next (elim o [ Some other ↦ Some other | None ↦ if b then Some id else None ])
    go (Some other) b h = h
    go None true h = left_true (is_there f next id) (list_all (λ bound. is_there f next bound.1) scope) there
    go None false h = tt

pub variable_good : (f : Frame) (next : ℕ) (o : Option ℕ) → PlaceGood f next o → GoodBuilt f next (build_variable o)
variable_good f next (Some id) there = record { parts = tt; top = there_later f next (next + 0) id (omega arith) there }
variable_good f next None there = alone_good f next kind.Stuck refl (or_right f.sets true refl)

pub scope_places_later : (f : Frame) (next later : ℕ) (scope : Scope) → next ≤ later → list_all (λ bound. is_there f next bound.1) scope ≡ true
    → list_all (λ bound. is_there f later bound.1) scope ≡ true
scope_places_later f next later scope up there =
    all_follow (λ bound. is_there f next bound.1) (λ bound. is_there f later bound.1) scope (λ bound. there_later f next later bound.1 up) there

pub scope_later : (f : Frame) (next later : ℕ) (variables : List ℕ) (scope : Scope) → next ≤ later → ScopeGood f next variables scope → ScopeGood f later variables scope
scope_later f next later variables scope up good = record { there = scope_places_later f next later scope up good.there }

pub scope_more : (f : Frame) (next : ℕ) (variables xs : List ℕ) (scope more : Scope) → ScopeGood f next variables scope → ScopeGood f next xs more
    → ScopeGood f next (variables ++ xs) (scope ++ more)
scope_more f next variables xs scope more good new = record {
  there = list_all-append (λ bound. is_there f next bound.1) scope more
      ∙ both_true (list_all (λ bound. is_there f next bound.1) scope) (list_all (λ bound. is_there f next bound.1) more) good.there new.there;
}

pub scope_one : (f : Frame) (next x id : ℕ) → is_there f next id ≡ true → ScopeGood f next (x ∷ []) ((x, id) ∷ [])
scope_one f next x id there = record { there = both_true (is_there f next id) true there refl }

-- variables beside places
pub zip_there : (f : Frame) (next : ℕ) (xs ids : List ℕ) → list_all (is_there f next) ids ≡ true → list_all (λ bound. is_there f next bound.1) (zip xs ids) ≡ true
zip_there f next [] ids there = refl
zip_there f next (x ∷ xs) [] there = refl
zip_there f next (x ∷ xs) (id ∷ ids) there =
    both_true (is_there f next id) (list_all (λ bound. is_there f next bound.1) (zip xs ids)) (left_true (is_there f next id) (list_all (is_there f next) ids) there)
    (zip_there f next xs ids (right_true (is_there f next id) (list_all (is_there f next) ids) there))

pub scope_zip : (f : Frame) (next : ℕ) (xs ids : List ℕ) → length xs ≡ length ids → list_all (is_there f next) ids ≡ true → ScopeGood f next xs (zip xs ids)
scope_zip f next xs ids same there = record { there = zip_there f next xs ids there }

-- ---- expressions

abbrev pub BuildsGood : Frame → ℕ → Type 0
BuildsGood f n = (variables : List ℕ) (scope : Scope) (next : ℕ) (e : ExprId) → f.first ≤ next → fits n f.program variables e ≡ true
    → ScopeGood f next variables scope → GoodBuilt f next (build_within n f.program scope next e)

pub mode_itself : (mode : Mode) → same_mode mode mode ≡ true
mode_itself Rigid = refl
mode_itself Flex = refl

pub parts_of : (f : Frame) (n : ℕ) → BuildsGood f n → (variables : List ℕ) (scope : Scope) (next : ℕ) (es : List ExprId) → f.first ≤ next
    → ScopeGood f next variables scope → list_all (fits n f.program variables) es ≡ true
    → GoodParts f next (length es) (build_parts (build_within n f.program scope) next es)
parts_of f n part variables scope next es from good all =
    parts_good f (build_within n f.program scope) (fits n f.program variables) next es from
    (λ later e up fit. part variables scope later e (omega arith) fit (scope_later f next later variables scope up good)) all

-- the values that a case distinction keeps
pub kept_good : (f : Frame) (scope : Scope) (next : ℕ) (kept : List ℕ) → f.first ≤ next → list_all (λ bound. is_there f next bound.1) scope ≡ true
    → GoodParts f next (length kept) (build_parts (λ place x. build_variable (place_in scope x)) next kept)
kept_good f scope next kept from there =
    parts_good f (λ place x. build_variable (place_in scope x)) (λ x. true) next kept from
    (λ later x up any. variable_good f later (place_in scope x) (place_good f later scope x (scope_places_later f next later scope up there)))
    (all_hold kept)

pub case_good : (f : Frame) (n : ℕ) → BuildsGood f n → (variables : List ℕ) (scope : Scope) (next : ℕ) (mode : Mode) (e s : ExprId) (kept : List ℕ)
    (branches : List Branch) → f.first ≤ next → ScopeGood f next variables scope → expr_of f.program e ≡ Some (code.Case mode kept s branches)
    → fits n f.program variables s ≡ true → GoodBuilt f next (build_case (build_within n f.program) scope next mode e kept s)
case_good f n part variables scope next mode e s kept branches from good is fit =
    let first = build_within n f.program scope next s in
    let later = next + length (pushed first) in
    let values = build_parts (λ place x. build_variable (place_in scope x)) later kept in
    node_good f next (length kept + 1) (kind.Case mode e.0) (record { nodes = pushed first ++ values.nodes; ids = place_of next first ∷ values.ids })
    (subst (λ (o : Option Expr). is_case mode o (length kept + 1) ≡ true) (sym is)
    (both_true (same_mode mode mode) (nat_eq (length kept + 1) (suc (length kept))) (mode_itself mode) (eq-eqb (length kept + 1) (suc (length kept)) (omega arith))))
    (or_right f.sets true refl)
    (one_more f next (length kept) (length kept + 1) first values refl from (part variables scope next s from fit good)
    (kept_good f scope later kept (omega arith) (scope_places_later f next later scope (omega arith) good.there)))

pub let_good : (f : Frame) (n : ℕ) → BuildsGood f n → (inner variables : List ℕ) (scope : Scope) (next x : ℕ) (bound body : ExprId) → f.first ≤ next
    → ScopeGood f next variables scope → fits n f.program inner bound ≡ true → fits n f.program (variables ++ x ∷ []) body ≡ true
    → GoodBuilt f next (build_let (build_within n f.program) scope next x bound body)
let_good f n part inner variables scope next x bound body from good fit_bound fit_body =
    let first = build_within n f.program scope next bound in
    let one : GoodBuilt f next first = part inner scope next bound from fit_bound (record { there = good.there }) in
    let later = next + length (pushed first) in
    let wider = scope ++ (x, place_of next first) ∷ [] in
    after_good f next (pushed first) (build_within n f.program wider later body) (pushed_good f next first one)
    (part (variables ++ x ∷ []) wider later body (omega arith) fit_body
    (scope_more f later variables (x ∷ []) scope ((x, place_of next first) ∷ []) (scope_later f next later variables scope (omega arith) good)
    (scope_one f later x (place_of next first) (place_there f next first from one))))

pub free_good : (f : Frame) (n : ℕ) → BuildsGood f n → (variables : List ℕ) (scope : Scope) (next x : ℕ) (body : ExprId) → f.first ≤ next
    → ScopeGood f next variables scope → fits n f.program (variables ++ x ∷ []) body ≡ true
    → GoodBuilt f next (build_free (build_within n f.program) scope next x body)
free_good f n part variables scope next x body from good fit =
    let wider = scope ++ (x, next) ∷ [] in
    after_good f next (alone kind.Free ∷ []) (build_within n f.program wider (next + 1) body)
    (record { whole = refl; passing = or_right f.sets true refl; there = refl }, tt)
    (part (variables ++ x ∷ []) wider (next + 1) body (omega arith) fit
    (scope_more f (next + 1) variables (x ∷ []) scope ((x, next) ∷ []) (scope_later f next (next + 1) variables scope (omega arith) good)
    (scope_one f (next + 1) x next (there_new f (next + 1) next from (omega arith)))))

pub expr_good : (f : Frame) → CodeGood f.program f.sets → (n : ℕ) → BuildsGood f n → (variables : List ℕ) (scope : Scope) (next : ℕ) (e : ExprId) (o : Option Expr)
    → f.first ≤ next → expr_of f.program e ≡ o → fits_expr (fits n f.program) f.program variables o ≡ true → ScopeGood f next variables scope
    → GoodBuilt f next (build_expr (build_within n f.program) f.program scope next e o)
expr_good f good n part vs scope next e None from is fit scoped = let no : ⊥ = true≢false (sym fit) in absurd no
expr_good f good n part vs scope next e (Some (code.Variable x)) from is fit scoped =
    variable_good f next (place_in scope x) (place_good f next scope x scoped.there)
expr_good f good n part vs scope next e (Some (code.Literal l)) from is fit scoped =
    alone_good f next (kind.Lit l) (both_true (is_literal l) true fit refl) (or_right f.sets true refl)
expr_good f good n part vs scope next e (Some (code.Whole h es)) from is fit scoped =
    let a = is_allowed f.program h in
    let b = takes (arity_of f.program h) (length es) in
    let c = list_all (fits n f.program vs) es in
    node_good f next (length es) (kind_of_whole f.program h) (build_parts (build_within n f.program scope) next es)
    (whole_fits f.program h (length es) good.well_formed (left_true a b (left_true (a && b) c fit)) (right_true a b (left_true (a && b) c fit)))
    (whole_passes f.program f.sets h (all_get (passes_expr f.sets) f.program.expressions e.0 (code.Whole h es) good.passing is))
    (parts_of f n part vs scope next es from scoped (right_true (a && b) c fit))
expr_good f good n part vs scope next e (Some (code.Part h es)) from is fit scoped =
    let a = is_allowed f.program h in
    let b = takes_more (arity_of f.program h) (length es) in
    let c = list_all (fits n f.program vs) es in
    node_good f next (length es) (kind.Part h) (build_parts (build_within n f.program scope) next es)
    (left_true (a && b) c fit)
    (all_get (passes_expr f.sets) f.program.expressions e.0 (code.Part h es) good.passing is)
    (parts_of f n part vs scope next es from scoped (right_true (a && b) c fit))
expr_good f good n part vs scope next e (Some (code.Apply function argument)) from is fit scoped =
    let a = fits n f.program vs function in
    let b = fits n f.program vs argument in
    node_good f next 2 kind.Apply (build_parts (build_within n f.program scope) next (function ∷ argument ∷ [])) refl (or_right f.sets true refl)
    (parts_of f n part vs scope next (function ∷ argument ∷ []) from scoped (both_true a (b && true) (left_true a b fit) (both_true b true (right_true a b fit) refl)))
expr_good f good n part vs scope next e (Some (code.Let x bound body)) from is fit scoped =
    let a = fits n f.program (without x vs) bound in
    let b = fits n f.program (vs ++ x ∷ []) body in
    let_good f n part (without x vs) vs scope next x bound body from scoped (left_true a b fit) (right_true a b fit)
expr_good f good n part vs scope next e (Some (code.Free x body)) from is fit scoped = free_good f n part vs scope next x body from scoped fit
expr_good f good n part vs scope next e (Some (code.Or left right)) from is fit scoped =
    let a = fits n f.program vs left in
    let b = fits n f.program vs right in
    node_good f next 2 kind.Or (build_parts (build_within n f.program scope) next (left ∷ right ∷ [])) refl (or_right f.sets true refl)
    (parts_of f n part vs scope next (left ∷ right ∷ []) from scoped (both_true a (b && true) (left_true a b fit) (both_true b true (right_true a b fit) refl)))
expr_good f good n part vs scope next e (Some (code.Case mode kept s branches)) from is fit scoped =
    let a = list_all (λ x. holds x vs) kept in
    let b = fits n f.program vs s in
    let c = fit_branches (fits n f.program) f.program kept branches in
    case_good f n part vs scope next mode e s kept branches from scoped is (right_true a b (left_true (a && b) c fit))

pub builds_good : (f : Frame) → CodeGood f.program f.sets → (n : ℕ) → BuildsGood f n
unfolding build_within
builds_good f good zero variables scope next e from fit scoped = let no : ⊥ = true≢false (sym fit) in absurd no
builds_good f good (suc n) variables scope next e from fit scoped =
    expr_good f good n (builds_good f good n) variables scope next e (expr_of f.program e) from refl fit scoped
