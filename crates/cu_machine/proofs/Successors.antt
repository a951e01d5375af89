-- The states that follow a valid one without a running search are valid, and have no set functions
-- where the code has none.
use Rattle.std.proofs.Common.{◌≡◌, ℕ, zero, suc, ◌<◌, ◌⊎◌, inl, inr, Bool, true, false, not, ◌&&◌, ◌||◌, List, [], ◌∷◌, Option, None, Some, IsTrue, if◌then◌else◌, refl, sym, ◌∙◌, subst, true≢false, length, get_or, map, nat_eq, nat_lt, ℤ, pos, negsuc, arith, ltb-true, lt-ltb}
use Rattle.std.specs.List.{All, list_all, list_any, zip}
use Rattle.std.specs.Ordering.{int_eq}
use Rattle.std.specs.Prelude.{◌+ℤ◌, ◌-ℤ◌, ◌*ℤ◌}
use Rattle.cu_int.specs.Integers.{floor_quotient, floor_rest}
use Rattle.cu_calculus.specs.declared.ConId.{ConId}
use Rattle.cu_calculus.specs.declared.FunId.{FunId}
use Rattle.cu_calculus.specs.declared.Lit.TheVariants.{Char, Int}
use Rattle.cu_calculus.specs.declared.builtin.Primitive.{Primitive}
use Rattle.cu_calculus.specs.declared.builtin.Primitive.TheVariants as prim
use Rattle.cu_calculus.specs.declared.builtin.Special.{Special}
use Rattle.cu_calculus.specs.Code as code
use Rattle.cu_calculus.specs.Code.{Code, body_of, expr_of}
use Rattle.cu_int.specs.Integers.{is_integer}
use Rattle.cu_calculus.specs.Literal.{is_scalar, same_literal}
use Rattle.cu_calculus.specs.Match.{same_constructor}
use Rattle.cu_calculus.specs.Value.{Values}
use Rattle.cu_calculus.specs.WellFormed.{is_well_formed}
use Rattle.cu_machine.specs.declared.Kind.{Kind}
use Rattle.cu_machine.specs.declared.Kind.TheVariants as kind
use Rattle.cu_machine.specs.declared.Limits.{Limits}
use Rattle.cu_machine.specs.Among.{Among}
use Rattle.cu_machine.specs.Build.{Scope}
use Rattle.cu_machine.specs.Graph.{Graph, Node, head_at, head_of, node_at}
use Rattle.cu_machine.specs.Need.{At, Dead, Done, Need, Throughout, Wait, need_all}
use Rattle.cu_machine.specs.Next.{Answer, Go, Next, Reading, is_above, is_too_large, moved, next, next_by, read, spelled_all, too_large}
use Rattle.cu_machine.specs.Rewrite.{Become, Collect, Move, Overflows, application_step, arithmetic_step, branch_for, branch_step, call_step, case_step, character_step, choice_step, comparison_step, imitation_step, integer_step, is_true, literal_step, move, occurs_in, operation_step, pairwise_step, rewrite_step, scrutinee_step, takes_constructor, takes_literal, unification_step}
use Rattle.cu_machine.specs.Sets.{IsWithoutSets, code_is_without_sets, graph_is_without_sets, is_set_kind, without}
use Rattle.cu_machine.specs.Spell.{cells_of_all}
use Rattle.cu_machine.specs.State.{Branch, Idle, MoreStates, NoState, Running, State, call_on}
use Rattle.cu_machine.specs.Validity.{IsValid, IsValidBranch, is_set_call}
use Rattle.cu_machine.proofs.Building.{CodeGood, passes_expr}
use Rattle.cu_machine.proofs.Equations.{move_good}
use Rattle.cu_machine.proofs.Frames.{Fine, passes}
use Rattle.cu_machine.proofs.Fuel.{all_follow, both_true, left_true, right_true}
use Rattle.cu_machine.proofs.NeedPlaces.{IsRedex, need_at_redex}
use Rattle.cu_machine.proofs.Rows.{AllGraphsGood, CollectGood, GraphGood, MoveGood}
use Rattle.cu_machine.proofs.Starts.{call_on_valid}

-- ---- only a set function's call begins a search

abbrev pub IsNoSearch : Move → Type 0
IsNoSearch (Become graphs) = Unit {0}
IsNoSearch (Overflows operation m n) = Unit {0}
IsNoSearch (Collect f arguments) = ⊥

pub no_search_if : (b : Bool) (one two : Move) → IsNoSearch one → IsNoSearch two → IsNoSearch (if b then one else two)
no_search_if true one two a b = a
no_search_if false one two a b = b

pub unfolded_no_search : (program : Code) (graph : Graph) (id : ℕ) (args : List ℕ) (o : Option code.Body) → IsNoSearch (call_step program graph id args o)
unfolded_no_search program graph id args (Some (code.Rule params body)) = tt
unfolded_no_search program graph id args _ = tt

pub chosen_no_search : (graph : Graph) (id : ℕ) (args : List ℕ) → IsNoSearch (choice_step graph id args)
chosen_no_search graph id (left ∷ right ∷ []) = tt
chosen_no_search graph id _ = tt

pub branch_no_search : (program : Code) (scope : Scope) (graph : Graph) (id : ℕ) (args : List ℕ) (o : Option code.Branch) → IsNoSearch (branch_step program scope graph id args o)
branch_no_search program scope graph id args None = tt
branch_no_search program scope graph id args (Some branch) = tt

pub distinguished_no_search : (program : Code) (scope : Scope) (graph : Graph) (id : ℕ) (branches : List code.Branch) (v : ℕ) (k : Kind) (args : List ℕ)
    → IsNoSearch (scrutinee_step program scope graph id branches v k args)
distinguished_no_search program scope graph id branches v (kind.Lit l) args = branch_no_search program scope graph id [] (branch_for (takes_literal l) branches)
distinguished_no_search program scope graph id branches v (kind.Cons c) args = branch_no_search program scope graph id args (branch_for (takes_constructor c) branches)
distinguished_no_search program scope graph id branches v (kind.Part h) args = tt
distinguished_no_search program scope graph id branches v kind.Free args = tt
distinguished_no_search program scope graph id branches v _ args = tt

pub case_no_search : (program : Code) (graph : Graph) (id scrutinee : ℕ) (values : List ℕ) (o : Option code.Expr) → IsNoSearch (case_step program graph id scrutinee values o)
case_no_search program graph id scrutinee values (Some (code.Case mode variables e branches)) =
    distinguished_no_search program (zip variables values) graph id branches (head_of graph scrutinee) (head_at graph scrutinee).kind (head_at graph scrutinee).args
case_no_search program graph id scrutinee values _ = tt

pub applied_no_search : (program : Code) (graph : Graph) (id argument : ℕ) (k : Kind) (args : List ℕ) → IsNoSearch (application_step program graph id argument k args)
applied_no_search program graph id argument (kind.Part h) args = tt
applied_no_search program graph id argument _ args = tt

pub counted_no_search : (graph : Graph) (id : ℕ) (operation : Primitive) (m n result : ℤ) → IsNoSearch (integer_step graph id operation m n result)
counted_no_search graph id operation m n result = no_search_if (is_integer result) _ _ tt tt

pub calculated_no_search : (special : Special) (graph : Graph) (id : ℕ) (operation : Primitive) (m n : ℤ) → IsNoSearch (arithmetic_step special graph id operation m n)
calculated_no_search special graph id prim.Add m n = counted_no_search graph id prim.Add m n (m +ℤ n)
calculated_no_search special graph id prim.Sub m n = counted_no_search graph id prim.Sub m n (m -ℤ n)
calculated_no_search special graph id prim.Mul m n = counted_no_search graph id prim.Mul m n (m *ℤ n)
calculated_no_search special graph id prim.Div m n = no_search_if (int_eq n (pos 0)) _ _ tt (counted_no_search graph id prim.Div m n (floor_quotient m n))
calculated_no_search special graph id prim.Mod m n = no_search_if (int_eq n (pos 0)) _ _ tt (counted_no_search graph id prim.Mod m n (floor_rest m n))
calculated_no_search special graph id _ m n = tt

pub character_no_search : (graph : Graph) (id : ℕ) (m : ℤ) → IsNoSearch (character_step graph id m)
character_no_search graph id (pos n) = no_search_if (is_scalar n) _ _ tt tt
character_no_search graph id (negsuc n) = tt

pub computed_no_search : (special : Special) (graph : Graph) (id : ℕ) (operation : Primitive) (ks : List Kind) → IsNoSearch (literal_step special graph id operation ks)
computed_no_search special graph id operation (kind.Lit (Int m) ∷ kind.Lit (Int n) ∷ []) = calculated_no_search special graph id operation m n
computed_no_search special graph id prim.Ord (kind.Lit (Char c) ∷ []) = tt
computed_no_search special graph id prim.Chr (kind.Lit (Int n) ∷ []) = character_no_search graph id n
computed_no_search special graph id _ _ = tt

pub pairs_no_search : (special : Special) (each joint : Kind) (graph : Graph) (id : ℕ) (pairs : List (ℕ × ℕ)) → IsNoSearch (pairwise_step special each joint graph id pairs)
pairs_no_search special each joint graph id [] = tt
pairs_no_search special each joint graph id (pair ∷ pairs) = tt

pub compared_no_search : (special : Special) (graph : Graph) (id : ℕ) (k : Kind) (us : List ℕ) (l : Kind) (vs : List ℕ) → IsNoSearch (comparison_step special graph id k us l vs)
compared_no_search special graph id (kind.Cons c) us (kind.Cons d) vs =
    no_search_if (same_constructor c d) _ _ (pairs_no_search special (kind.Prim prim.Equal) (kind.Call special.both) graph id (zip us vs)) tt
compared_no_search special graph id (kind.Lit l) us (kind.Lit m) vs = tt
compared_no_search special graph id (kind.Lit l) us (kind.Cons d) vs = tt
compared_no_search special graph id (kind.Cons c) us (kind.Lit m) vs = tt
compared_no_search special graph id _ us _ vs = tt

pub imitates_no_search : (special : Special) (graph : Graph) (id v other : ℕ) (c : ConId) (args : List ℕ) → IsNoSearch (imitation_step special graph id v other c args)
imitates_no_search special graph id v other c [] = tt
imitates_no_search special graph id v other c (arg ∷ args) =
    no_search_if (occurs_in graph v (arg ∷ args)) _ _ tt (pairs_no_search special (kind.Prim prim.Unify) (kind.Prim prim.And) _ id _)

pub equated_no_search : (special : Special) (graph : Graph) (id v : ℕ) (k : Kind) (us : List ℕ) (w : ℕ) (l : Kind) (vs : List ℕ)
    → IsNoSearch (unification_step special graph id v k us w l vs)
equated_no_search special graph id v kind.Free us w kind.Free vs = no_search_if (nat_eq v w) _ _ tt tt
equated_no_search special graph id v kind.Free us w (kind.Lit m) vs = tt
equated_no_search special graph id v (kind.Lit l) us w kind.Free vs = tt
equated_no_search special graph id v kind.Free us w (kind.Cons d) vs = imitates_no_search special graph id v w d vs
equated_no_search special graph id v (kind.Cons c) us w kind.Free vs = imitates_no_search special graph id w v c us
equated_no_search special graph id v (kind.Cons c) us w (kind.Cons d) vs =
    no_search_if (same_constructor c d) _ _ (pairs_no_search special (kind.Prim prim.Unify) (kind.Prim prim.And) graph id (zip us vs)) tt
equated_no_search special graph id v (kind.Lit l) us w (kind.Lit m) vs = no_search_if (same_literal l m) _ _ tt tt
equated_no_search special graph id v _ us w _ vs = tt

pub operated_no_search : (special : Special) (graph : Graph) (id : ℕ) (operation : Primitive) (args : List ℕ) → IsNoSearch (operation_step special graph id operation args)
operated_no_search special graph id prim.Equal (a ∷ b ∷ []) =
    compared_no_search special graph id (head_at graph a).kind (head_at graph a).args (head_at graph b).kind (head_at graph b).args
operated_no_search special graph id prim.Unify (a ∷ b ∷ []) =
    equated_no_search special graph id (head_of graph a) (head_at graph a).kind (head_at graph a).args (head_of graph b) (head_at graph b).kind (head_at graph b).args
operated_no_search special graph id prim.And (a ∷ b ∷ []) =
    no_search_if (is_true special (head_at graph a).kind && is_true special (head_at graph b).kind) _ _ tt tt
operated_no_search special graph id prim.Equal _ = tt
operated_no_search special graph id prim.Unify _ = tt
operated_no_search special graph id prim.And _ = tt
operated_no_search special graph id operation args = computed_no_search special graph id operation (map (λ arg. (head_at graph arg).kind) args)

pub only_set_calls : (program : Code) (graph : Graph) (id : ℕ) (k : Kind) (args : List ℕ) → (is_set_call k ≡ true) ⊎ IsNoSearch (rewrite_step program graph id k args)
only_set_calls program graph id (kind.SetCall f) args = inl refl
only_set_calls program graph id (kind.Call f) args = inr (unfolded_no_search program graph id args (body_of program f))
only_set_calls program graph id kind.Or args = inr (chosen_no_search graph id args)
only_set_calls program graph id (kind.Case mode e) (scrutinee ∷ values) =
    inr (case_no_search program graph id scrutinee values (expr_of program (record { 0 = e })))
only_set_calls program graph id kind.Apply (function ∷ argument ∷ []) =
    inr (applied_no_search program graph id argument (head_at graph function).kind (head_at graph function).args)
only_set_calls program graph id (kind.Prim operation) args = inr (operated_no_search program.special graph id operation args)
only_set_calls program graph id _ args = inr tt

-- ---- states

-- what is wanted of a state: it is valid, and without set functions where there are to be none
pub record StateGood (program : Code) (sets : Bool) (state : State) : Type 0 where
  pub valid : IsValid program state
  pub without_sets : sets ≡ false → IsWithoutSets state

pub each_node : (p : Node → Bool) (graph : Graph) → ((i : ℕ) → i < length graph → p (node_at graph i) ≡ true) → list_all p graph ≡ true
each_node p [] each = refl
each_node p (node ∷ graph) each =
    both_true (p node) (list_all p graph) (each 0 (omega arith)) (each_node p graph (λ i below. each (suc i) (omega arith)))

pub passes_without : (sets b : Bool) → sets ≡ false → (sets || b) ≡ true → b ≡ true
passes_without sets b none_there pass = subst (λ (s : Bool). (s || b) ≡ true) none_there pass

pub without_sets_of : (program : Code) (sets : Bool) (graph : Graph) → Fine program sets graph → sets ≡ false → graph_is_without_sets graph ≡ true
without_sets_of program sets graph fine none_there =
    each_node (λ node. not (is_set_kind node.kind)) graph
    (λ i below. passes_without sets (not (is_set_kind (node_at graph i).kind)) none_there (fine.passing i below))

pub branch_good : (program : Code) (sets : Bool) (graph after : Graph) (root : ℕ) (goals : List ℕ) → IsValidBranch program graph root goals
    → GraphGood program sets goals (length graph) after → StateGood program sets (Branch after root goals Idle)
unfolding IsValid
branch_good program sets graph after root goals before good = record {
  valid = (
    record {
      root_there = let old = before.root_there in let longer = good.longer in omega arith;
      goals_there = all_follow (λ x. nat_lt x (length graph)) (λ x. nat_lt x (length after)) goals
          (λ x there. let less = ltb-true x (length graph) there in let longer = good.longer in lt-ltb x (length after) (omega arith)) before.goals_there;
      nodes = good.fine.nodes;
      arguments = good.fine.arguments;
      acyclic = good.fine.acyclic;
      goals_plain = good.plain;
    },
    tt,
  );
  without_sets = λ none_there. without after root goals (without_sets_of program sets after good.fine none_there);
}

pub among_branches : (program : Code) (sets : Bool) (graph : Graph) (root : ℕ) (goals : List ℕ) (graphs : List Graph) (state : State) → IsValidBranch program graph root goals
    → AllGraphsGood program sets goals (length graph) graphs → Among state (map (λ after. Branch after root goals Idle) graphs) → StateGood program sets state
among_branches program sets graph root goals [] state before all m = absurd m
among_branches program sets graph root goals (after ∷ graphs) state before all m = elim m [
  | inl same ↦ subst (λ (s : State). StateGood program sets s) same (branch_good program sets graph after root goals before all.0)
  | inr rest ↦ among_branches program sets graph root goals graphs state before all.1 rest
]

pub go_if : (b : Bool) (limits : Limits) (some states : List State) → (if b then too_large limits else Go some) ≡ Go states → some ≡ states
go_if true limits some states same = let none_left : ⊥ = cc in absurd none_left
go_if false limits some states same = cc

pub unless_if : (b : Bool) (limits : Limits) (other : Next) (states : List State) → (if b then too_large limits else other) ≡ Go states → other ≡ Go states
unless_if true limits other states same = let none_left : ⊥ = cc in absurd none_left
unless_if false limits other states same = same

-- the state in which a search runs
pub running_good : (program : Code) (sets : Bool) (graph : Graph) (root : ℕ) (goals : List ℕ) (id : ℕ) (f : FunId) (arguments : Values) → is_well_formed program ≡ true
    → IsValidBranch program graph root goals → id < length graph → is_set_call (node_at graph id).kind ≡ true → CollectGood program sets f arguments
    → StateGood program sets (Branch graph root goals (Running id [] (MoreStates (call_on program f arguments) NoState)))
unfolding IsValid
running_good program sets graph root goals id f arguments well before here calls good = record {
  valid = (before, (record { there = here; set_call = calls; built = refl }, (call_on_valid program f arguments well good.whole good.fit, tt)));
  without_sets = λ none_there. let none_left : ⊥ = true≢false (sym good.sets_there ∙ none_there) in absurd none_left;
}

pub moved_good : (program : Code) (sets : Bool) (limits : Limits) (graph : Graph) (root : ℕ) (goals : List ℕ) (id : ℕ) (what : Move) (states : List State) (state : State)
    → is_well_formed program ≡ true → IsValidBranch program graph root goals → id < length graph → (is_set_call (node_at graph id).kind ≡ true) ⊎ IsNoSearch what
    → MoveGood program sets goals (length graph) what → moved program limits root goals graph id what ≡ Go states → Among state states → StateGood program sets state
moved_good program sets limits graph root goals id (Become graphs) states state well before here calls good same m =
    among_branches program sets graph root goals graphs state before good
    (subst (λ (xs : List State). Among state xs)
    (sym (go_if (list_any (is_too_large limits) (map (λ after. Branch after root goals Idle) graphs)) limits (map (λ after. Branch after root goals Idle) graphs) states same)) m)
moved_good program sets limits graph root goals id (Overflows operation a b) states state well before here calls good same m = let none_left : ⊥ = cc in absurd none_left
moved_good program sets limits graph root goals id (Collect f arguments) states state well before here (inr quiet) good same m = absurd quiet
moved_good program sets limits graph root goals id (Collect f arguments) states state well before here (inl calls) good same m =
    let running = Branch graph root goals (Running id [] (MoreStates (call_on program f arguments) NoState)) in
    let is : running ∷ [] ≡ states = go_if (is_too_large limits (call_on program f arguments)) limits (running ∷ []) states same in
    elim (subst (λ (xs : List State). Among state xs) (sym is) m) [
      | inl here_is ↦ subst (λ (s : State). StateGood program sets s) here_is (running_good program sets graph root goals id f arguments well before here calls good)
      | inr nowhere ↦ absurd nowhere
    ]

pub answered_if : (b : Bool) (limits : Limits) (reading : Reading) (states : List State) → (if b then too_large limits else Answer reading) ≡ Go states → ⊥
answered_if true limits reading states same = cc
answered_if false limits reading states same = cc

pub next_by_good : (program : Code) (sets : Bool) (limits : Limits) (graph : Graph) (root : ℕ) (goals : List ℕ) (what : Need) (states : List State) (state : State)
    → CodeGood program sets → Fine program sets graph → IsValidBranch program graph root goals → ((i : ℕ) → what ≡ At i → IsRedex graph i)
    → next_by program limits graph root goals what ≡ Go states → Among state states → StateGood program sets state
next_by_good program sets limits graph root goals Done states state good fine before there same m =
    absurd (answered_if (is_above limits (cells_of_all (spelled_all graph root goals))) limits (read graph root goals) states same)
next_by_good program sets limits graph root goals Dead states state good fine before there same m = let none_left : ⊥ = cc in absurd none_left
next_by_good program sets limits graph root goals (Wait ids) states state good fine before there same m = let none_left : ⊥ = cc in absurd none_left
next_by_good program sets limits graph root goals (At id) states state good fine before there same m =
    let redex : IsRedex graph id = there id refl in
    moved_good program sets limits graph root goals id (move program graph id) states state good.well_formed before redex.0
    (only_set_calls program graph id (node_at graph id).kind (node_at graph id).args)
    (move_good program sets graph goals id good fine before.goals_plain redex.0 redex.1) same m

pub next_good : (program : Code) (sets : Bool) (limits : Limits) (graph : Graph) (root : ℕ) (goals : List ℕ) (states : List State) (state : State)
    → CodeGood program sets → IsValidBranch program graph root goals → ((i : ℕ) → i < length graph → IsTrue (passes sets (node_at graph i).kind))
    → next program limits (Branch graph root goals Idle) ≡ Go states → Among state states → StateGood program sets state
unfolding next
next_good program sets limits graph root goals states state good before passing same m =
    next_by_good program sets limits graph root goals (need_all program.special.truth graph root) states state good
    (record { nodes = before.nodes; arguments = before.arguments; acyclic = before.acyclic; passing = passing }) before
    (λ i is. need_at_redex (length graph) program.special.truth graph Throughout root i before.arguments (lt-ltb root (length graph) before.root_there) is)
    (unless_if (is_above limits (length graph)) limits (next_by program limits graph root goals (need_all program.special.truth graph root)) states same) m

-- ---- with set functions, and without them

pub all_true : {A : Type 0} (p : A → Bool) (xs : List A) → ((x : A) → p x ≡ true) → list_all p xs ≡ true
all_true p [] each = refl
all_true p (x ∷ xs) each = both_true (p x) (list_all p xs) (each x) (all_true p xs each)

pub next_valid : (program : Code) (limits : Limits) (graph : Graph) (root : ℕ) (goals : List ℕ) (states : List State) (state : State)
    → IsTrue (is_well_formed program) → IsValid program (Branch graph root goals Idle)
    → next program limits (Branch graph root goals Idle) ≡ Go states → Among state states → IsValid program state
unfolding IsValid
next_valid program limits graph root goals states state well valid same m =
    (next_good program true limits graph root goals states state
    (record { well_formed = well; passing = all_true (passes_expr true) program.expressions (λ x. refl) }) valid.0 (λ i below. refl) same m).valid

pub at_node : (p : Node → Bool) (graph : Graph) (i : ℕ) → list_all p graph ≡ true → i < length graph → p (node_at graph i) ≡ true
at_node p [] i all below = let none_left : ⊥ = omega arith in absurd none_left
at_node p (node ∷ graph) zero all below = left_true (p node) (list_all p graph) all
at_node p (node ∷ graph) (suc i) all below = at_node p graph i (right_true (p node) (list_all p graph) all) (omega arith)

pub next_without : (program : Code) (limits : Limits) (before state : State) (states : List State)
    → IsTrue (is_well_formed program) → IsTrue (code_is_without_sets program) → IsValid program before → IsWithoutSets before
    → next program limits before ≡ Go states → Among state states → IsWithoutSets state
unfolding IsValid
next_without program limits before state states well code_without valid (without graph root goals all) same m =
    (next_good program false limits graph root goals states state (record { well_formed = well; passing = code_without }) valid.0
    (λ i below. at_node (λ node. not (is_set_kind node.kind)) graph i all below) same m).without_sets refl

-- ---- the same for branches that stand for states

pub mapped_among : {B : Type 0} (f : B → State) (xs : List B) (k : ℕ) (d : B) → k < length xs → Among (f (get_or xs k d)) (map f xs)
mapped_among f [] k d below = let none_left : ⊥ = omega arith in absurd none_left
mapped_among f (x ∷ xs) zero d below = inl refl
mapped_among f (x ∷ xs) (suc k) d below = inr (mapped_among f xs k d (omega arith))

pub all_valid : {B : Type 0} (f : B → State) (branches : List B) (program : Code) (limits : Limits) (graph : Graph) (root : ℕ) (goals : List ℕ)
    → IsTrue (is_well_formed program) → IsValid program (Branch graph root goals Idle)
    → next program limits (Branch graph root goals Idle) ≡ Go (map f branches) → All (λ branch. IsValid program (f branch)) branches
all_valid f branches program limits graph root goals well valid same =
    λ k d below. next_valid program limits graph root goals (map f branches) (f (get_or branches k d)) well valid same (mapped_among f branches k d below)

pub all_without : {B : Type 0} (f : B → State) (branches : List B) (program : Code) (limits : Limits) (before : State)
    → IsTrue (is_well_formed program) → IsTrue (code_is_without_sets program) → IsValid program before → IsWithoutSets before
    → next program limits before ≡ Go (map f branches) → All (λ branch. IsWithoutSets (f branch)) branches
all_without f branches program limits before well code_without valid sets same =
    λ k d below. next_without program limits before (f (get_or branches k d)) (map f branches) well code_without valid sets same (mapped_among f branches k d below)
