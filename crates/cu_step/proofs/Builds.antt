-- What is built of an expression, by its form, does not depend on how deep others nest.
use Rattle.std.proofs.Common.{Result, Ok, Err, OnOk, IfOk, ◌≡◌, ℕ, zero, suc, ◌+◌, Bool, true, ◌&&◌, List, [], ◌∷◌, Option, Some, None, ◌++◌, length, refl, sym, ap, ◌∙◌, true≢false}
use Rattle.std.specs.List.{list_all}
use Rattle.cu_calculus.specs.declared.ExprId.{ExprId}
use Rattle.cu_calculus.specs.declared.Mode.{Mode}
use Rattle.cu_calculus.specs.Code as code
use Rattle.cu_calculus.specs.Code.{Code, Expr, expr_of}
use Rattle.cu_machine.specs.declared.Kind.TheVariants as kind
use Rattle.cu_machine.specs.Graph.{alone}
use Rattle.cu_machine.specs.Build.{Built, BuiltParts, Fresh, Scope, after, build_expr, build_node, build_parts, build_variable, build_within, kind_of_whole, place_in, place_of, pushed}
use Rattle.cu_machine.proofs.Fuel.{all_follow, left_true, right_true}
use Rattle.cu_step.specs.Inside.Building.{all_weigh, nests_within, own_weight, parts_of, weight_within}

-- the first of two places that is there
abbrev pub later : Option ℕ → Option ℕ → Option ℕ
later (Some id) place = Some id
later None place = place

-- what a call keeps where it gives something
pub on_ok : {T E : Type 0} (r : Result T E) (P Q : Type 0) → (P → Q) → OnOk r P → OnOk r Q
on_ok (Ok x) P Q f h = f h
on_ok (Err e) P Q f h = h

pub if_ok : {T E : Type 0} (r : Result T E) (P Q : T → Type 0) → ((x : T) → P x → Q x) → IfOk r P → IfOk r Q
if_ok (Ok x) P Q f h = f x h
if_ok (Err e) P Q f h = h

-- ---- two ways to build parts that agree on them

before_parts : ℕ → Built → BuiltParts → BuiltParts
before_parts next one others = record { nodes = pushed one ++ others.nodes; ids = place_of next one ∷ others.ids }

pub parts_same : {A : Type 0} (f g : ℕ → A → Built) (q : A → Bool) → ((next : ℕ) (a : A) → q a ≡ true → f next a ≡ g next a) → (next : ℕ) (items : List A)
    → list_all q items ≡ true → build_parts f next items ≡ build_parts g next items
unfolding before_parts
parts_same f g q same next [] all = refl
parts_same f g q same next (a ∷ items) all =
    ap (λ one. before_parts next one (build_parts f (next + length (pushed one)) items)) (same next a (left_true (q a) (list_all q items) all))
    ∙ ap (before_parts next (g next a)) (parts_same f g q same (next + length (pushed (g next a))) items (right_true (q a) (list_all q items) all))

case_over : Scope → ℕ → Mode → ExprId → List ℕ → Built → Built
case_over scope next mode e kept first =
    let values = build_parts (λ place x. build_variable (place_in scope x)) (next + length (pushed first)) kept in
    record {
      parts = pushed first ++ values.nodes;
      top = Fresh (record { kind = kind.Case mode e.0; args = place_of next first ∷ values.ids });
    }

let_over : (Scope → ℕ → ExprId → Built) → Scope → ℕ → ℕ → ExprId → Built → Built
let_over part scope next x body first = after (pushed first) (part (scope ++ (x, place_of next first) ∷ []) (next + length (pushed first)) body)

pub expr_same : (f g : Scope → ℕ → ExprId → Built) (q : ExprId → Bool) → ((scope : Scope) (next : ℕ) (e : ExprId) → q e ≡ true → f scope next e ≡ g scope next e)
    → (program : Code) (scope : Scope) (next : ℕ) (e : ExprId) (o : Option Expr) → list_all q (parts_of o) ≡ true
    → build_expr f program scope next e o ≡ build_expr g program scope next e o
unfolding case_over let_over
expr_same f g q same program scope next e None all = refl
expr_same f g q same program scope next e (Some (code.Variable x)) all = refl
expr_same f g q same program scope next e (Some (code.Literal l)) all = refl
expr_same f g q same program scope next e (Some (code.Whole h es)) all = ap (build_node (kind_of_whole program h)) (parts_same (f scope) (g scope) q (same scope) next es all)
expr_same f g q same program scope next e (Some (code.Part h es)) all = ap (build_node (kind.Part h)) (parts_same (f scope) (g scope) q (same scope) next es all)
expr_same f g q same program scope next e (Some (code.Apply function argument)) all =
    ap (build_node kind.Apply) (parts_same (f scope) (g scope) q (same scope) next (function ∷ argument ∷ []) all)
expr_same f g q same program scope next e (Some (code.Or left right)) all =
    ap (build_node kind.Or) (parts_same (f scope) (g scope) q (same scope) next (left ∷ right ∷ []) all)
expr_same f g q same program scope next e (Some (code.Let x bound body)) all =
    let first = g scope next bound in
    ap (let_over f scope next x body) (same scope next bound (left_true (q bound) (q body && true) all))
    ∙ ap (after (pushed first))
    (same (scope ++ (x, place_of next first) ∷ []) (next + length (pushed first)) body (left_true (q body) true (right_true (q bound) (q body && true) all)))
expr_same f g q same program scope next e (Some (code.Free x body)) all =
    ap (after (alone kind.Free ∷ [])) (same (scope ++ (x, next) ∷ []) (next + 1) body (left_true (q body) true all))
expr_same f g q same program scope next e (Some (code.Case mode kept scrutinee branches)) all =
    ap (case_over scope next mode e kept) (same scope next scrutinee (left_true (q scrutinee) true all))

-- ---- more depth than an expression nests changes nothing

none_nests : (program : Code) (e : ExprId) → nests_within zero program e ≡ true → ⊥
unfolding nests_within
none_nests program e nest = true≢false (sym nest)

pub nests_more : (depth : ℕ) (program : Code) (e : ExprId) → nests_within depth program e ≡ true → nests_within (suc depth) program e ≡ true
unfolding nests_within
nests_more zero program e nest = absurd (none_nests program e nest)
nests_more (suc depth) program e nest =
    all_follow (nests_within depth program) (nests_within (suc depth) program) (parts_of (expr_of program e)) (nests_more depth program) nest

pub parts_nest : (depth : ℕ) (program : Code) (e : ExprId) → nests_within depth program e ≡ true
    → list_all (nests_within depth program) (parts_of (expr_of program e)) ≡ true
unfolding nests_within
parts_nest zero program e nest = absurd (none_nests program e nest)
parts_nest (suc depth) program e nest =
    all_follow (nests_within depth program) (nests_within (suc depth) program) (parts_of (expr_of program e)) (nests_more depth program) nest

build_more : (depth : ℕ) (program : Code) (e : ExprId) → nests_within depth program e ≡ true → (scope : Scope) (next : ℕ)
    → build_within (suc depth) program scope next e ≡ build_within depth program scope next e
unfolding build_within nests_within
build_more zero program e nest scope next = absurd (none_nests program e nest)
build_more (suc depth) program e nest scope next =
    expr_same (build_within (suc depth) program) (build_within depth program) (nests_within depth program)
    (λ inner place part fits. build_more depth program part fits inner place) program scope next e (expr_of program e) nest

pub build_fixed : (depth : ℕ) (program : Code) (e : ExprId) → nests_within depth program e ≡ true → (scope : Scope) (next : ℕ)
    → build_within depth program scope next e ≡ build_expr (build_within depth program) program scope next e (expr_of program e)
unfolding build_within
build_fixed depth program e nest scope next = sym (build_more depth program e nest scope next)

weigh_same : (f g : ExprId → ℕ) (q : ExprId → Bool) → ((e : ExprId) → q e ≡ true → f e ≡ g e) → (es : List ExprId) → list_all q es ≡ true
    → all_weigh f es ≡ all_weigh g es
weigh_same f g q same [] all = refl
weigh_same f g q same (e ∷ es) all =
    ap (λ w. w + all_weigh f es) (same e (left_true (q e) (list_all q es) all)) ∙ ap (λ w. g e + w) (weigh_same f g q same es (right_true (q e) (list_all q es) all))

weight_more : (depth : ℕ) (program : Code) (e : ExprId) → nests_within depth program e ≡ true → weight_within (suc depth) program e ≡ weight_within depth program e
unfolding weight_within nests_within
weight_more zero program e nest = absurd (none_nests program e nest)
weight_more (suc depth) program e nest =
    ap (λ w. own_weight (expr_of program e) + w)
    (weigh_same (weight_within (suc depth) program) (weight_within depth program) (nests_within depth program) (weight_more depth program) (parts_of (expr_of program e)) nest)

pub weight_fixed : (depth : ℕ) (program : Code) (e : ExprId) → nests_within depth program e ≡ true
    → weight_within depth program e ≡ own_weight (expr_of program e) + all_weigh (weight_within depth program) (parts_of (expr_of program e))
unfolding weight_within
weight_fixed depth program e nest = sym (weight_more depth program e nest)
