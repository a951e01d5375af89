-- Doing the tasks one after another builds what the definition says.
use Rattle.std.proofs.Common.{◌≡◌, ℕ, suc, ◌+◌, ◌-◌, ◌<◌, true, List, [], ◌∷◌, Option, Some, None, ◌++◌, length, map, take, drop, reverse, slice_get, refl, sym, ap, subst, ◌∙◌, arith, append-nil, append_assoc, length-append}
use Rattle.std.specs.List.{list_all}
use Rattle.std.proofs.lemmas.List.{length-set}
use Rattle.std.proofs.lemmas.List.Folds.{list_all-append, list_all-map}
use Rattle.cu_calculus.specs.declared.ExprId.{ExprId}
use Rattle.cu_calculus.specs.Code as code
use Rattle.cu_calculus.specs.Code.{Code, Expr, expr_of}
use Rattle.cu_machine.specs.declared.Kind.{Kind}
use Rattle.cu_machine.specs.declared.Kind.TheVariants as kind
use Rattle.cu_machine.specs.Graph.{Graph, Node, alone, put, stuck}
use Rattle.cu_machine.specs.Build.{Built, BuiltParts, Scope, after, build_alone, build_expr, build_node, build_parts, build_variable, build_within, instead, kind_of_whole, place_in, place_of, pushed, top_id, write}
use Rattle.cu_machine.proofs.Fuel.{both_true, left_true, right_true}
use Rattle.cu_step.specs.declared.build.Target.{Target}
use Rattle.cu_step.specs.declared.build.Target.TheVariants as target
use Rattle.cu_step.specs.declared.build.Task.{Task}
use Rattle.cu_step.specs.declared.build.Task.TheVariants as task
use Rattle.cu_step.specs.Inside.Building.{State, Works, all_done, all_weigh, argument, begun, bound_last, done, left_by, nests, own_weight, parts_of, performed, settled, task_nests, task_weight, tasks_of, weight, weight_within, with_free, with_node, with_value}
use Rattle.cu_step.proofs.Builds.{build_fixed, parts_nest, weight_fixed}

-- ---- ends of lists

prefix_of : {A : Type 0} (xs ys : List A) (n : ℕ) → length ys ≡ n → take (length (xs ++ ys) - n) (xs ++ ys) ≡ xs
prefix_of xs ys n same = ap (λ k. take k (xs ++ ys)) (let all = length-append xs ys in omega arith) ∙ taken xs ys
  where
    taken : {A : Type 0} (xs ys : List A) → take (length xs) (xs ++ ys) ≡ xs
    taken [] ys = refl
    taken (x ∷ xs) ys = ap (λ rest. x ∷ rest) (taken xs ys)

suffix_of : {A : Type 0} (xs ys : List A) (n : ℕ) → length ys ≡ n → drop (length (xs ++ ys) - n) (xs ++ ys) ≡ ys
suffix_of xs ys n same = ap (λ k. drop k (xs ++ ys)) (let all = length-append xs ys in omega arith) ∙ dropped xs ys
  where
    dropped : {A : Type 0} (xs ys : List A) → drop (length xs) (xs ++ ys) ≡ ys
    dropped [] ys = refl
    dropped (x ∷ xs) ys = dropped xs ys

last_of : (xs : List ℕ) (x : ℕ) → slice_get (xs ++ x ∷ []) (length (xs ++ x ∷ []) - 1) ≡ Some x
last_of xs x = ap (slice_get (xs ++ x ∷ [])) (let all = length-append xs (x ∷ []) in omega arith) ∙ got xs
  where
    got : (xs : List ℕ) → slice_get (xs ++ x ∷ []) (length xs) ≡ Some x
    got [] = refl
    got (y ∷ xs) = got xs

-- ---- nodes that are made, and values that are arguments

made : State → List Node → List ℕ → State
made s nodes ids = record s { graph = s.graph ++ nodes; ids = s.ids ++ ids }

made_none : (s : State) → made s [] [] ≡ s
unfolding made
made_none s = rw (append-nil s.graph, append-nil s.ids) refl

made_twice : (s : State) (nodes more : List Node) (ids others : List ℕ) → made (made s nodes ids) more others ≡ made s (nodes ++ more) (ids ++ others)
unfolding made
made_twice s nodes more ids others = rw (append_assoc s.graph nodes more, append_assoc s.ids ids others) refl

-- tasks one after another
pub all_append : (program : Code) (s : State) (ts us : List Task) → all_done program s (ts ++ us) ≡ all_done program (all_done program s ts) us
unfolding all_done
all_append program s [] us = refl
all_append program s (t ∷ ts) us = all_append program (done program s t) ts us

-- arguments from left to right
items_done : {A : Type 0} (program : Code) (f : Scope → ℕ → A → Built) (each : A → Task)
    → ((s : State) (a : A) → done program s (each a) ≡ made s (pushed (f s.scope (length s.graph) a)) (place_of (length s.graph) (f s.scope (length s.graph) a) ∷ []))
    → (items : List A) (s : State)
    → all_done program s (map each items) ≡ made s (build_parts (f s.scope) (length s.graph) items).nodes (build_parts (f s.scope) (length s.graph) items).ids
unfolding all_done made
items_done program f each one [] s = sym (made_none s)
items_done program f each one (a ∷ items) s =
    let first = f s.scope (length s.graph) a in
    let place = place_of (length s.graph) first in
    let after_first = made s (pushed first) (place ∷ []) in
    let others = λ (n : ℕ). build_parts (f s.scope) n items in
    let next = length s.graph + length (pushed first) in
    ap (λ after. all_done program after (map each items)) (one s a)
    ∙ items_done program f each one items after_first
    ∙ ap (λ n. made after_first (others n).nodes (others n).ids) (length-append s.graph (pushed first))
    ∙ made_twice s (pushed first) (others next).nodes (place ∷ []) (others next).ids

-- ---- single values

node_settled : (t : Target) (s : State) (node : Node) → with_node t s node ≡ settled t s (build_alone node)
node_settled target.Argument s node = ap (λ place. record s { graph = s.graph ++ node ∷ []; ids = s.ids ++ place ∷ [] }) (omega arith)
node_settled target.Root s node = ap (λ graph. record s { graph = put graph s.root node }) (sym (append-nil s.graph))

value_settled : (t : Target) (s : State) (o : Option ℕ) → with_value t s o ≡ settled t s (build_variable o)
value_settled target.Argument s (Some id) = ap (λ graph. record s { graph = graph; ids = s.ids ++ id ∷ [] }) (sym (append-nil s.graph))
value_settled target.Root s (Some id) = ap (λ graph. record s { graph = put graph s.root (record { kind = kind.Ind; args = id ∷ [] }) }) (sym (append-nil s.graph))
value_settled t s None = node_settled t s stuck

-- ---- a node over arguments

finish_settled : (program : Code) (t : Target) (s : State) (k : Kind) (n : ℕ) (parts : BuiltParts) → length parts.ids ≡ n
    → done program (made s parts.nodes parts.ids) (task.Finish k n t) ≡ settled t s (build_node k parts)
unfolding done made
finish_settled program t s k n parts same =
    ap (λ ids. with_node t (record s { graph = s.graph ++ parts.nodes; ids = ids }) (record { kind = k; args = drop (length (s.ids ++ parts.ids) - n) (s.ids ++ parts.ids) }))
    (prefix_of s.ids parts.ids n same)
    ∙ ap (λ args. with_node t (record s { graph = s.graph ++ parts.nodes }) (record { kind = k; args = args })) (suffix_of s.ids parts.ids n same)
    ∙ go t
  where
    go : (t : Target) → with_node t (record s { graph = s.graph ++ parts.nodes }) (record { kind = k; args = parts.ids }) ≡ settled t s (build_node k parts)
    go target.Argument =
        ap (λ graph. record s { graph = graph; ids = s.ids ++ length (s.graph ++ parts.nodes) ∷ [] }) (append_assoc s.graph parts.nodes (record { kind = k; args = parts.ids } ∷ []))
        ∙ ap (λ place. record s { graph = s.graph ++ (parts.nodes ++ record { kind = k; args = parts.ids } ∷ []); ids = s.ids ++ place ∷ [] }) (length-append s.graph parts.nodes)
    go target.Root = refl

parts_count : {A : Type 0} (f : ℕ → A → Built) (next : ℕ) (items : List A) → length (build_parts f next items).ids ≡ length items
parts_count f next [] = refl
parts_count f next (a ∷ items) = ap suc (parts_count f (next + length (pushed (f next a))) items)

argument_made : (program : Code) (s : State) (e : ExprId)
    → done program s (argument e)
    ≡ made s (pushed (build_within (length program.expressions) program s.scope (length s.graph) e))
    (place_of (length s.graph) (build_within (length program.expressions) program s.scope (length s.graph) e) ∷ [])
unfolding done made
argument_made program s e = refl

variable_made : (program : Code) (s : State) (x : ℕ)
    → done program s (task.Take x) ≡ made s (pushed (build_variable (place_in s.scope x))) (place_of (length s.graph) (build_variable (place_in s.scope x)) ∷ [])
unfolding done made
variable_made program s x = value_settled target.Argument s (place_in s.scope x)

node_done : (program : Code) (t : Target) (s : State) (k : Kind) (es : List ExprId)
    → all_done program s (map argument es ++ task.Finish k (length es) t ∷ [])
    ≡ settled t s (build_node k (build_parts (build_within (length program.expressions) program s.scope) (length s.graph) es))
unfolding all_done
node_done program t s k es =
    let part = build_within (length program.expressions) program in
    let parts = build_parts (part s.scope) (length s.graph) es in
    all_append program s (map argument es) (task.Finish k (length es) t ∷ [])
    ∙ ap (λ after. all_done program after (task.Finish k (length es) t ∷ [])) (items_done program part argument (argument_made program) es s)
    ∙ finish_settled program t s k (length es) parts (parts_count (part s.scope) (length s.graph) es)

-- ---- bindings

-- what was built after other nodes, in a scope that ends then
body_settled : (program : Code) (t : Target) (s : State) (nodes : List Node) (bound : ℕ × ℕ) (built : Built)
    → done program (settled t (record s { graph = s.graph ++ nodes; scope = s.scope ++ bound ∷ [] }) built) task.Unbind ≡ settled t s (after nodes built)
unfolding done
body_settled program target.Argument s nodes bound built =
    let place : length (s.graph ++ nodes) + length built.parts ≡ length s.graph + length (nodes ++ built.parts) =
    (let all = length-append s.graph nodes in let more = length-append nodes built.parts in omega arith) in
    ap (λ scope. record s { graph = (s.graph ++ nodes) ++ pushed built; ids = s.ids ++ place_of (length (s.graph ++ nodes)) built ∷ []; scope = scope })
    (prefix_of s.scope (bound ∷ []) 1 refl)
    ∙ ap (λ graph. record s { graph = graph; ids = s.ids ++ place_of (length (s.graph ++ nodes)) built ∷ [] })
    (append_assoc s.graph nodes (pushed built) ∙ ap (λ rest. s.graph ++ rest) (sym (append_assoc nodes built.parts _)))
    ∙ ap (λ next. record s { graph = s.graph ++ pushed (after nodes built); ids = s.ids ++ top_id next built.top ∷ [] }) place
body_settled program target.Root s nodes bound built =
    ap (λ scope. record s { graph = put ((s.graph ++ nodes) ++ built.parts) s.root (instead built.top); scope = scope }) (prefix_of s.scope (bound ∷ []) 1 refl)
    ∙ ap (λ graph. record s { graph = put graph s.root (instead built.top) }) (append_assoc s.graph nodes built.parts)

bind_made : (program : Code) (s : State) (x place : ℕ) (nodes : List Node)
    → done program (made s nodes (place ∷ [])) (task.Bind x) ≡ record s { graph = s.graph ++ nodes; scope = s.scope ++ (x, place) ∷ [] }
unfolding done made
bind_made program s x place nodes =
    ap (bound_last x (record s { graph = s.graph ++ nodes; ids = s.ids ++ place ∷ [] })) (last_of s.ids place)
    ∙ ap (λ ids. record s { graph = s.graph ++ nodes; ids = ids; scope = s.scope ++ (x, place) ∷ [] }) (prefix_of s.ids (place ∷ []) 1 refl)

let_done : (program : Code) (t : Target) (s : State) (x : ℕ) (bound body : ExprId)
    → (first : Built) → first ≡ build_within (length program.expressions) program s.scope (length s.graph) bound
    → all_done program s (argument bound ∷ task.Bind x ∷ task.Build body t ∷ task.Unbind ∷ [])
    ≡ settled t s
    (after (pushed first)
    (build_within (length program.expressions) program (s.scope ++ (x, place_of (length s.graph) first) ∷ []) (length s.graph + length (pushed first)) body))
unfolding all_done done made
let_done program t s x bound body first is =
    let place = place_of (length s.graph) first in
    let part = build_within (length program.expressions) program (s.scope ++ (x, place) ∷ []) in
    let inside = record s { graph = s.graph ++ pushed first; scope = s.scope ++ (x, place) ∷ [] } in
    ap (λ b. all_done program (made s (pushed b) (place_of (length s.graph) b ∷ [])) (task.Bind x ∷ task.Build body t ∷ task.Unbind ∷ [])) (sym is)
    ∙ ap (λ after. all_done program after (task.Build body t ∷ task.Unbind ∷ [])) (bind_made program s x place (pushed first))
    ∙ ap (λ n. done program (settled t inside (part n body)) task.Unbind) (length-append s.graph (pushed first))
    ∙ body_settled program t s (pushed first) (x, place) (part (length s.graph + length (pushed first)) body)

free_done : (program : Code) (t : Target) (s : State) (x : ℕ) (body : ExprId)
    → all_done program (with_free s x) (task.Build body t ∷ task.Unbind ∷ [])
    ≡ settled t s
    (after (alone kind.Free ∷ []) (build_within (length program.expressions) program (s.scope ++ (x, length s.graph) ∷ []) (length s.graph + 1) body))
unfolding all_done done
free_done program t s x body =
    let part = build_within (length program.expressions) program (s.scope ++ (x, length s.graph) ∷ []) in
    ap (λ n. done program (settled t (with_free s x) (part n body)) task.Unbind) (length-append s.graph (alone kind.Free ∷ []))
    ∙ body_settled program t s (alone kind.Free ∷ []) (x, length s.graph) (part (length s.graph + 1) body)

-- ---- case distinctions

case_done : (program : Code) (t : Target) (s : State) (k : Kind) (scrutinee : ExprId) (kept : List ℕ)
    → (first : Built) → first ≡ build_within (length program.expressions) program s.scope (length s.graph) scrutinee
    → (values : BuiltParts) → values ≡ build_parts (λ place x. build_variable (place_in s.scope x)) (length s.graph + length (pushed first)) kept
    → all_done program s (argument scrutinee ∷ map task.Take kept ++ task.Finish k (length kept + 1) t ∷ [])
    ≡ settled t s (build_node k (record { nodes = pushed first ++ values.nodes; ids = place_of (length s.graph) first ∷ values.ids }))
unfolding all_done done made
case_done program t s k scrutinee kept first is values are =
    let place = place_of (length s.graph) first in
    let later = made s (pushed first) (place ∷ []) in
    let variable = λ (scope : Scope) (place x : ℕ). build_variable (place_in scope x) in
    let last = task.Finish k (length kept + 1) t in
    let count : length (place ∷ values.ids) ≡ length kept + 1 =
    (let same = ap (λ v. length v.ids) are in let so_many = parts_count (variable s.scope) (length s.graph + length (pushed first)) kept in omega arith) in
    ap (λ b. all_done program (made s (pushed b) (place_of (length s.graph) b ∷ [])) (map task.Take kept ++ last ∷ [])) (sym is)
    ∙ all_append program later (map task.Take kept) (last ∷ [])
    ∙ ap (λ after. all_done program after (last ∷ []))
    (items_done program variable task.Take (variable_made program) kept later
    ∙ ap (λ n. made later (build_parts (variable s.scope) n kept).nodes (build_parts (variable s.scope) n kept).ids) (length-append s.graph (pushed first))
    ∙ ap (λ v. made later v.nodes v.ids) (sym are)
    ∙ made_twice s (pushed first) values.nodes (place ∷ []) values.ids)
    ∙ finish_settled program t s k (length kept + 1) (record { nodes = pushed first ++ values.nodes; ids = place ∷ values.ids }) count

-- ---- expressions

none_left : (program : Code) (s : State) → all_done program s [] ≡ s
unfolding all_done
none_left program s = refl

expr_done : (program : Code) (t : Target) (s : State) (e : ExprId) (o : Option Expr)
    → all_done program (begun t s o) (tasks_of program e t o)
    ≡ settled t s (build_expr (build_within (length program.expressions) program) program s.scope (length s.graph) e o)
expr_done program t s e None = none_left program (with_node t s stuck) ∙ node_settled t s stuck
expr_done program t s e (Some (code.Variable x)) = none_left program (with_value t s (place_in s.scope x)) ∙ value_settled t s (place_in s.scope x)
expr_done program t s e (Some (code.Literal l)) = none_left program (with_node t s (alone (kind.Lit l))) ∙ node_settled t s (alone (kind.Lit l))
expr_done program t s e (Some (code.Whole h es)) = node_done program t s (kind_of_whole program h) es
expr_done program t s e (Some (code.Part h es)) = node_done program t s (kind.Part h) es
expr_done program t s e (Some (code.Apply function operand)) = node_done program t s kind.Apply (function ∷ operand ∷ [])
expr_done program t s e (Some (code.Or left right)) = node_done program t s kind.Or (left ∷ right ∷ [])
expr_done program t s e (Some (code.Let x bound body)) = let_done program t s x bound body _ refl
expr_done program t s e (Some (code.Free x body)) = free_done program t s x body
expr_done program t s e (Some (code.Case mode kept scrutinee branches)) = case_done program t s (kind.Case mode e.0) scrutinee kept _ refl _ refl

pub performed_done : (program : Code) (s : State) (t : Task) → task_nests program t ≡ true
    → all_done program (performed program s t) (left_by program t) ≡ done program s t
unfolding all_done done
performed_done program s (task.Build e t) nest =
    expr_done program t s e (expr_of program e)
    ∙ ap (settled t s) (sym (build_fixed (length program.expressions) program e nest s.scope (length s.graph)))
performed_done program s (task.Take x) nest = refl
performed_done program s (task.Finish k n t) nest = refl
performed_done program s (task.Bind x) nest = refl
performed_done program s task.Unbind nest = refl

-- ---- what is left nests

all_tasks : (program : Code) (each : ℕ → Task) → ((x : ℕ) → task_nests program (each x) ≡ true) → (xs : List ℕ) → list_all (task_nests program) (map each xs) ≡ true
all_tasks program each nest [] = refl
all_tasks program each nest (x ∷ xs) = both_true (task_nests program (each x)) (list_all (task_nests program) (map each xs)) (nest x) (all_tasks program each nest xs)

arguments_nest : (program : Code) (es : List ExprId) → list_all (nests program) es ≡ true → list_all (task_nests program) (map argument es) ≡ true
arguments_nest program es all = list_all-map (task_nests program) argument es ∙ all

over_nest : (program : Code) (ts : List Task) (k : Kind) (n : ℕ) (t : Target) → list_all (task_nests program) ts ≡ true
    → list_all (task_nests program) (ts ++ task.Finish k n t ∷ []) ≡ true
over_nest program ts k n t all =
    list_all-append (task_nests program) ts (task.Finish k n t ∷ []) ∙ both_true (list_all (task_nests program) ts) true all refl

tasks_nest : (program : Code) (e : ExprId) (t : Target) (o : Option Expr) → list_all (nests program) (parts_of o) ≡ true
    → list_all (task_nests program) (tasks_of program e t o) ≡ true
tasks_nest program e t None all = refl
tasks_nest program e t (Some (code.Variable x)) all = refl
tasks_nest program e t (Some (code.Literal l)) all = refl
tasks_nest program e t (Some (code.Whole h es)) all = over_nest program (map argument es) (kind_of_whole program h) (length es) t (arguments_nest program es all)
tasks_nest program e t (Some (code.Part h es)) all = over_nest program (map argument es) (kind.Part h) (length es) t (arguments_nest program es all)
tasks_nest program e t (Some (code.Apply function operand)) all =
    over_nest program (map argument (function ∷ operand ∷ [])) kind.Apply 2 t (arguments_nest program (function ∷ operand ∷ []) all)
tasks_nest program e t (Some (code.Or left right)) all = over_nest program (map argument (left ∷ right ∷ [])) kind.Or 2 t (arguments_nest program (left ∷ right ∷ []) all)
tasks_nest program e t (Some (code.Let x bound body)) all = all
tasks_nest program e t (Some (code.Free x body)) all = all
tasks_nest program e t (Some (code.Case mode kept scrutinee branches)) all =
    over_nest program (argument scrutinee ∷ map task.Take kept) (kind.Case mode e.0) (length kept + 1) t
    (both_true (nests program scrutinee) (list_all (task_nests program) (map task.Take kept)) (left_true (nests program scrutinee) true all)
    (all_tasks program task.Take (λ x. refl) kept))

left_nest : (program : Code) (t : Task) → task_nests program t ≡ true → list_all (task_nests program) (left_by program t) ≡ true
left_nest program (task.Build e t) nest = tasks_nest program e t (expr_of program e) (parts_nest (length program.expressions) program e nest)
left_nest program (task.Take x) nest = refl
left_nest program (task.Finish k n t) nest = refl
left_nest program (task.Bind x) nest = refl
left_nest program task.Unbind nest = refl

-- ---- the root stays, and the graph grows

node_there : (t : Target) (s : State) (node : Node) → s.root < length s.graph → (with_node t s node).root < length (with_node t s node).graph
node_there target.Argument s node there = let more = length-append s.graph (node ∷ []) in omega arith
node_there target.Root s node there = let same = length-set s.graph s.root node in omega arith

value_there : (t : Target) (s : State) (o : Option ℕ) → s.root < length s.graph → (with_value t s o).root < length (with_value t s o).graph
value_there target.Argument s (Some id) there = there
value_there target.Root s (Some id) there = let same = length-set s.graph s.root (record { kind = kind.Ind; args = id ∷ [] }) in omega arith
value_there t s None there = node_there t s stuck there

begun_there : (t : Target) (s : State) (o : Option Expr) → s.root < length s.graph → (begun t s o).root < length (begun t s o).graph
begun_there t s None there = node_there t s stuck there
begun_there t s (Some (code.Variable x)) there = value_there t s (place_in s.scope x) there
begun_there t s (Some (code.Literal l)) there = node_there t s (alone (kind.Lit l)) there
begun_there t s (Some (code.Free x body)) there = let more = length-append s.graph (alone kind.Free ∷ []) in omega arith
begun_there t s (Some (code.Whole h es)) there = there
begun_there t s (Some (code.Part h es)) there = there
begun_there t s (Some (code.Apply function operand)) there = there
begun_there t s (Some (code.Let x bound body)) there = there
begun_there t s (Some (code.Or left right)) there = there
begun_there t s (Some (code.Case mode kept scrutinee branches)) there = there

bound_there : (x : ℕ) (s : State) (o : Option ℕ) → s.root < length s.graph → (bound_last x s o).root < length (bound_last x s o).graph
bound_there x s (Some id) there = there
bound_there x s None there = there

performed_there : (program : Code) (s : State) (t : Task) → s.root < length s.graph → (performed program s t).root < length (performed program s t).graph
performed_there program s (task.Build e t) there = begun_there t s (expr_of program e) there
performed_there program s (task.Take x) there = value_there target.Argument s (place_in s.scope x) there
performed_there program s (task.Finish k n t) there =
    node_there t (record s { ids = take (length s.ids - n) s.ids }) (record { kind = k; args = drop (length s.ids - n) s.ids }) there
performed_there program s (task.Bind x) there = bound_there x s (slice_get s.ids (length s.ids - 1)) there
performed_there program s task.Unbind there = there

-- ---- the tasks that are left

works_first : (program : Code) (s : State) (e : ExprId) → s.root < length s.graph → nests program e ≡ true
    → Works program s (task.Build e target.Root) s (task.Build e target.Root ∷ [])
unfolding all_done
works_first program s e there nest = record { there = there; nest = both_true (nests program e) true nest refl; comes = refl }

pub works_begin : (program : Code) (start s : State) (e : ExprId) (tasks : List Task) → s ≡ start → tasks ≡ task.Build e target.Root ∷ []
    → start.root < length start.graph → nests program e ≡ true → Works program start (task.Build e target.Root) s (reverse tasks)
works_begin program start s e tasks same one there nest =
    let first = task.Build e target.Root in
    subst (λ (ts : List Task). Works program start first s (reverse ts)) (sym one)
    (subst (λ (now : State). Works program start first now (first ∷ [])) (sym same) (works_first program start e there nest))

pub works_on : (program : Code) (start : State) (first : Task) (s after : State) (left : List Task) (t : Task) (rest now : List Task) → left ≡ t ∷ rest
    → after ≡ performed program s t → now ≡ left_by program t ++ rest → Works program start first s left → Works program start first after now
unfolding all_done
works_on program start first s after left t rest now is does leaves works =
    let nest : list_all (task_nests program) (t ∷ rest) ≡ true = subst (λ (ts : List Task). list_all (task_nests program) ts ≡ true) is works.nest in
    let one : task_nests program t ≡ true = left_true (task_nests program t) (list_all (task_nests program) rest) nest in
    record {
      there = subst (λ (s : State). s.root < length s.graph) (sym does) (performed_there program s t works.there);
      nest = subst (λ (ts : List Task). list_all (task_nests program) ts ≡ true) (sym leaves)
          (list_all-append (task_nests program) (left_by program t) rest
          ∙ both_true (list_all (task_nests program) (left_by program t)) (list_all (task_nests program) rest) (left_nest program t one)
          (right_true (task_nests program t) (list_all (task_nests program) rest) nest));
      comes = ap (λ s. all_done program s now) does
          ∙ ap (all_done program (performed program s t)) leaves
          ∙ all_append program (performed program s t) (left_by program t) rest
          ∙ ap (λ s. all_done program s rest) (performed_done program s t one)
          ∙ ap (all_done program s) (sym is)
          ∙ works.comes;
    }

pub works_ended : (program : Code) (scope : Scope) (graph : Graph) (root : ℕ) (e : ExprId) (s : State) (left : List Task) → left ≡ []
    → Works program (record { graph = graph; root = root; ids = []; scope = scope }) (task.Build e target.Root) s left → s.graph ≡ write program scope graph root e
unfolding all_done done
works_ended program scope graph root e s left none works =
    ap (λ (s : State). s.graph) (ap (all_done program s) (sym none) ∙ works.comes)

-- ---- how long it takes

weight_append : (program : Code) (ts us : List Task) → weight program (ts ++ us) ≡ weight program ts + weight program us
unfolding weight
weight_append program [] us = omega arith
weight_append program (t ∷ ts) us = let rest = weight_append program ts us in omega arith

arguments_weigh : (program : Code) (es : List ExprId) → weight program (map argument es) ≡ all_weigh (weight_within (length program.expressions) program) es
unfolding weight
arguments_weigh program [] = refl
arguments_weigh program (e ∷ es) = ap (λ w. weight_within (length program.expressions) program e + w) (arguments_weigh program es)

variables_weigh : (program : Code) (kept : List ℕ) → weight program (map task.Take kept) ≡ length kept
unfolding weight
variables_weigh program [] = refl
variables_weigh program (x ∷ kept) = let rest = variables_weigh program kept in omega arith

node_weighs : (program : Code) (es : List ExprId) (k : Kind) (n : ℕ) (t : Target)
    → weight program (map argument es ++ task.Finish k n t ∷ []) < 4 + all_weigh (weight_within (length program.expressions) program) es
unfolding weight
node_weighs program es k n t =
    let all = weight_append program (map argument es) (task.Finish k n t ∷ []) in
    let each = arguments_weigh program es in
    omega arith

case_weighs : (program : Code) (scrutinee : ExprId) (kept : List ℕ) (k : Kind) (n : ℕ) (t : Target)
    → weight program (argument scrutinee ∷ map task.Take kept ++ task.Finish k n t ∷ []) < length kept + 4 + (weight_within (length program.expressions) program scrutinee + 0)
unfolding weight
case_weighs program scrutinee kept k n t =
    let all = weight_append program (map task.Take kept) (task.Finish k n t ∷ []) in
    let each = variables_weigh program kept in
    omega arith

tasks_weigh : (program : Code) (e : ExprId) (t : Target) (o : Option Expr)
    → weight program (tasks_of program e t o) < own_weight o + all_weigh (weight_within (length program.expressions) program) (parts_of o)
unfolding weight
tasks_weigh program e t None = omega arith
tasks_weigh program e t (Some (code.Variable x)) = omega arith
tasks_weigh program e t (Some (code.Literal l)) = omega arith
tasks_weigh program e t (Some (code.Whole h es)) = node_weighs program es (kind_of_whole program h) (length es) t
tasks_weigh program e t (Some (code.Part h es)) = node_weighs program es (kind.Part h) (length es) t
tasks_weigh program e t (Some (code.Apply function operand)) = node_weighs program (function ∷ operand ∷ []) kind.Apply 2 t
tasks_weigh program e t (Some (code.Or left right)) = node_weighs program (left ∷ right ∷ []) kind.Or 2 t
tasks_weigh program e t (Some (code.Let x bound body)) = omega arith
tasks_weigh program e t (Some (code.Free x body)) = omega arith
tasks_weigh program e t (Some (code.Case mode kept scrutinee branches)) = case_weighs program scrutinee kept (kind.Case mode e.0) (length kept + 1) t

left_weighs : (program : Code) (t : Task) → task_nests program t ≡ true → weight program (left_by program t) < task_weight program t
unfolding weight
left_weighs program (task.Build e t) nest =
    let all = weight_fixed (length program.expressions) program e nest in
    let less = tasks_weigh program e t (expr_of program e) in
    omega arith
left_weighs program (task.Take x) nest = omega arith
left_weighs program (task.Finish k n t) nest = omega arith
left_weighs program (task.Bind x) nest = omega arith
left_weighs program task.Unbind nest = omega arith

pub works_less : (program : Code) (start : State) (first : Task) (s : State) (left : List Task) (t : Task) (rest now : List Task) → left ≡ t ∷ rest
    → now ≡ left_by program t ++ rest → Works program start first s left → weight program now < weight program left
unfolding weight
works_less program start first s left t rest now is leaves works =
    let nest : list_all (task_nests program) (t ∷ rest) ≡ true = subst (λ (ts : List Task). list_all (task_nests program) ts ≡ true) is works.nest in
    let less = left_weighs program t (left_true (task_nests program t) (list_all (task_nests program) rest) nest) in
    let new = ap (weight program) leaves ∙ weight_append program (left_by program t) rest in
    let old = ap (weight program) is in
    omega arith
