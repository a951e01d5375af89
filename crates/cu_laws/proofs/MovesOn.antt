-- Only a case distinction without branches moves to no graph at all; and it has no value.
use Rattle.std.proofs.Common.{◌≡◌, ℕ, ◌⊎◌, inl, inr, Bool, true, false, ◌&&◌, List, [], ◌∷◌, Option, None, Some, if◌then◌else◌, refl, ap, ap₂, sym, ◌∙◌, subst, map, nat_eq, slice_get, zip, ℤ, pos, negsuc}
use Rattle.std.specs.Ordering.{int_eq}
use Rattle.std.specs.Prelude.{◌+ℤ◌, ◌-ℤ◌, ◌*ℤ◌}
use Rattle.cu_int.specs.Integers.{floor_quotient, floor_rest, is_integer}
use Rattle.cu_calculus.specs.declared.ConId.{ConId}
use Rattle.cu_calculus.specs.declared.ExprId.{ExprId}
use Rattle.cu_calculus.specs.declared.Lit.TheVariants.{Char, Int}
use Rattle.cu_calculus.specs.declared.Mode.{Mode}
use Rattle.cu_calculus.specs.declared.builtin.Primitive.{Primitive}
use Rattle.cu_calculus.specs.declared.builtin.Primitive.TheVariants as prim
use Rattle.cu_calculus.specs.declared.builtin.Special.{Special}
use Rattle.cu_calculus.specs.Code as code
use Rattle.cu_calculus.specs.Code.{Branch, Code, body_of, expr_of}
use Rattle.cu_calculus.specs.FlatProgram.{term_of}
use Rattle.cu_calculus.specs.Gives.{Claim}
use Rattle.cu_calculus.specs.Literal.{is_scalar, same_literal}
use Rattle.cu_calculus.specs.Match.{same_constructor}
use Rattle.cu_calculus.specs.Shape.{are_data}
use Rattle.cu_calculus.specs.Value.{values_of}
use Rattle.cu_machine.specs.declared.Kind.{Kind}
use Rattle.cu_machine.specs.declared.Kind.TheVariants as kind
use Rattle.cu_machine.specs.Build.{Scope}
use Rattle.cu_machine.specs.Graph.{Graph, Node, head_at, head_of, node_at}
use Rattle.cu_machine.specs.Rewrite.{Become, Collect, Move, Overflows, application_step, arithmetic_step, branch_for, branch_step, call_step, case_step, character_step, choice_step, comparison_step, imitation_step, integer_step, is_true, literal_step, move, occurs_in, operation_step, pairwise_step, rewrite_step, scrutinee_step, takes_constructor, takes_literal, unification_step}
use Rattle.cu_machine.specs.Spell.{spelled}
use Rattle.cu_machine.specs.Steps.{node}
use Rattle.cu_laws.specs.Good.{Assignment, Loose, Worth}
use Rattle.cu_laws.proofs.Extended.{alternative_is}
use Rattle.cu_laws.proofs.Known.{is_known, worth_of}
use Rattle.cu_laws.proofs.LooseNodes.{loose_at}

-- ---- moves that lead on

abbrev pub LeadsOn : Move → Type 0
LeadsOn (Become []) = ⊥
LeadsOn (Become (graph ∷ graphs)) = Unit {0}
LeadsOn (Overflows operation m n) = Unit {0}
LeadsOn (Collect f arguments) = Unit {0}

on_if : (b : Bool) (one two : Move) → LeadsOn one → LeadsOn two → LeadsOn (if b then one else two)
on_if true one two a b = a
on_if false one two a b = b

unfolded_on : (program : Code) (graph : Graph) (id : ℕ) (args : List ℕ) (o : Option code.Body) → LeadsOn (call_step program graph id args o)
unfolded_on program graph id args (Some (code.Rule params body)) = tt
unfolded_on program graph id args _ = tt

chosen_on : (graph : Graph) (id : ℕ) (args : List ℕ) → LeadsOn (choice_step graph id args)
chosen_on graph id (left ∷ right ∷ []) = tt
chosen_on graph id _ = tt

branch_on : (program : Code) (scope : Scope) (graph : Graph) (id : ℕ) (args : List ℕ) (o : Option Branch) → LeadsOn (branch_step program scope graph id args o)
branch_on program scope graph id args None = tt
branch_on program scope graph id args (Some branch) = tt

-- a case distinction without branches
record WithoutBranches (o : Option code.Expr) : Type 0 where
  mode : Mode
  kept : List ℕ
  inner : ExprId
  is : o ≡ Some (code.Case mode kept inner [])

distinguished_on : (program : Code) (scope : Scope) (graph : Graph) (id : ℕ) (branches : List Branch) (v : ℕ) (k : Kind) (args : List ℕ)
    → (branches ≡ []) ⊎ LeadsOn (scrutinee_step program scope graph id branches v k args)
distinguished_on program scope graph id branches v (kind.Lit l) args = inr (branch_on program scope graph id [] (branch_for (takes_literal l) branches))
distinguished_on program scope graph id branches v (kind.Cons c) args = inr (branch_on program scope graph id args (branch_for (takes_constructor c) branches))
distinguished_on program scope graph id branches v (kind.Part h) args = inr tt
distinguished_on program scope graph id [] v kind.Free args = inl refl
distinguished_on program scope graph id (branch ∷ branches) v kind.Free args = inr tt
distinguished_on program scope graph id branches v _ args = inr tt

case_on : (program : Code) (graph : Graph) (id scrutinee : ℕ) (values : List ℕ) (o : Option code.Expr)
    → WithoutBranches o ⊎ LeadsOn (case_step program graph id scrutinee values o)
case_on program graph id scrutinee values (Some (code.Case mode variables e branches)) =
    elim (distinguished_on program (zip variables values) graph id branches (head_of graph scrutinee) (head_at graph scrutinee).kind (head_at graph scrutinee).args) [
      | inl none ↦ inl (record { mode = mode; kept = variables; inner = e; is = ap (λ (bs : List Branch). Some (code.Case mode variables e bs)) none })
      | inr on ↦ inr on
    ]
case_on program graph id scrutinee values _ = inr tt

applied_on : (program : Code) (graph : Graph) (id argument : ℕ) (k : Kind) (args : List ℕ) → LeadsOn (application_step program graph id argument k args)
applied_on program graph id argument (kind.Part h) args = tt
applied_on program graph id argument _ args = tt

counted_on : (graph : Graph) (id : ℕ) (operation : Primitive) (m n result : ℤ) → LeadsOn (integer_step graph id operation m n result)
counted_on graph id operation m n result = on_if (is_integer result) _ _ tt tt

calculated_on : (special : Special) (graph : Graph) (id : ℕ) (operation : Primitive) (m n : ℤ) → LeadsOn (arithmetic_step special graph id operation m n)
calculated_on special graph id prim.Add m n = counted_on graph id prim.Add m n (m +ℤ n)
calculated_on special graph id prim.Sub m n = counted_on graph id prim.Sub m n (m -ℤ n)
calculated_on special graph id prim.Mul m n = counted_on graph id prim.Mul m n (m *ℤ n)
calculated_on special graph id prim.Div m n = on_if (int_eq n (pos 0)) _ _ tt (counted_on graph id prim.Div m n (floor_quotient m n))
calculated_on special graph id prim.Mod m n = on_if (int_eq n (pos 0)) _ _ tt (counted_on graph id prim.Mod m n (floor_rest m n))
calculated_on special graph id _ m n = tt

character_on : (graph : Graph) (id : ℕ) (m : ℤ) → LeadsOn (character_step graph id m)
character_on graph id (pos n) = on_if (is_scalar n) _ _ tt tt
character_on graph id (negsuc n) = tt

computed_on : (special : Special) (graph : Graph) (id : ℕ) (operation : Primitive) (ks : List Kind) → LeadsOn (literal_step special graph id operation ks)
computed_on special graph id operation (kind.Lit (Int m) ∷ kind.Lit (Int n) ∷ []) = calculated_on special graph id operation m n
computed_on special graph id prim.Ord (kind.Lit (Char c) ∷ []) = tt
computed_on special graph id prim.Chr (kind.Lit (Int n) ∷ []) = character_on graph id n
computed_on special graph id _ _ = tt

pairs_on : (special : Special) (each joint : Kind) (graph : Graph) (id : ℕ) (pairs : List (ℕ × ℕ)) → LeadsOn (pairwise_step special each joint graph id pairs)
pairs_on special each joint graph id [] = tt
pairs_on special each joint graph id (pair ∷ pairs) = tt

compared_on : (special : Special) (graph : Graph) (id : ℕ) (k : Kind) (us : List ℕ) (l : Kind) (vs : List ℕ) → LeadsOn (comparison_step special graph id k us l vs)
compared_on special graph id (kind.Cons c) us (kind.Cons d) vs =
    on_if (same_constructor c d) _ _ (pairs_on special (kind.Prim prim.Equal) (kind.Call special.both) graph id (zip us vs)) tt
compared_on special graph id (kind.Lit l) us (kind.Lit m) vs = tt
compared_on special graph id (kind.Lit l) us (kind.Cons d) vs = tt
compared_on special graph id (kind.Cons c) us (kind.Lit m) vs = tt
compared_on special graph id _ us _ vs = tt

imitates_on : (special : Special) (graph : Graph) (id v other : ℕ) (c : ConId) (args : List ℕ) → LeadsOn (imitation_step special graph id v other c args)
imitates_on special graph id v other c [] = tt
imitates_on special graph id v other c (arg ∷ args) =
    on_if (occurs_in graph v (arg ∷ args)) _ _ tt (pairs_on special (kind.Prim prim.Unify) (kind.Prim prim.And) _ id _)

equated_on : (special : Special) (graph : Graph) (id v : ℕ) (k : Kind) (us : List ℕ) (w : ℕ) (l : Kind) (vs : List ℕ) → LeadsOn (unification_step special graph id v k us w l vs)
equated_on special graph id v kind.Free us w kind.Free vs = on_if (nat_eq v w) _ _ tt tt
equated_on special graph id v kind.Free us w (kind.Lit m) vs = tt
equated_on special graph id v (kind.Lit l) us w kind.Free vs = tt
equated_on special graph id v kind.Free us w (kind.Cons d) vs = imitates_on special graph id v w d vs
equated_on special graph id v (kind.Cons c) us w kind.Free vs = imitates_on special graph id w v c us
equated_on special graph id v (kind.Cons c) us w (kind.Cons d) vs =
    on_if (same_constructor c d) _ _ (pairs_on special (kind.Prim prim.Unify) (kind.Prim prim.And) graph id (zip us vs)) tt
equated_on special graph id v (kind.Lit l) us w (kind.Lit m) vs = on_if (same_literal l m) _ _ tt tt
equated_on special graph id v _ us w _ vs = tt

operated_on : (special : Special) (graph : Graph) (id : ℕ) (operation : Primitive) (args : List ℕ) → LeadsOn (operation_step special graph id operation args)
operated_on special graph id prim.Equal (a ∷ b ∷ []) =
    compared_on special graph id (head_at graph a).kind (head_at graph a).args (head_at graph b).kind (head_at graph b).args
operated_on special graph id prim.Unify (a ∷ b ∷ []) =
    equated_on special graph id (head_of graph a) (head_at graph a).kind (head_at graph a).args (head_of graph b) (head_at graph b).kind (head_at graph b).args
operated_on special graph id prim.And (a ∷ b ∷ []) = on_if (is_true special (head_at graph a).kind && is_true special (head_at graph b).kind) _ _ tt tt
operated_on special graph id prim.Equal _ = tt
operated_on special graph id prim.Unify _ = tt
operated_on special graph id prim.And _ = tt
operated_on special graph id operation args = computed_on special graph id operation (map (λ arg. (head_at graph arg).kind) args)

-- a node that is a case distinction without branches
record EmptyCase (program : Code) (k : Kind) (args : List ℕ) : Type 0 where
  mode : Mode
  e : ℕ
  scrutinee : ℕ
  values : List ℕ
  kind_is : k ≡ kind.Case mode e
  args_are : args ≡ scrutinee ∷ values
  without : WithoutBranches (expr_of program (record { 0 = e }))

rewritten_on : (program : Code) (graph : Graph) (id : ℕ) (k : Kind) (args : List ℕ) → EmptyCase program k args ⊎ LeadsOn (rewrite_step program graph id k args)
rewritten_on program graph id (kind.SetCall f) args = inr (on_if (are_data (values_of (map (spelled graph) args))) _ _ tt tt)
rewritten_on program graph id (kind.Call f) args = inr (unfolded_on program graph id args (body_of program f))
rewritten_on program graph id kind.Or args = inr (chosen_on graph id args)
rewritten_on program graph id (kind.Case mode e) (scrutinee ∷ values) = elim (case_on program graph id scrutinee values (expr_of program (record { 0 = e }))) [
  | inl none ↦ inl (record { mode = mode; e = e; scrutinee = scrutinee; values = values; kind_is = refl; args_are = refl; without = none })
  | inr on ↦ inr on
]
rewritten_on program graph id kind.Apply (function ∷ argument ∷ []) =
    inr (applied_on program graph id argument (head_at graph function).kind (head_at graph function).args)
rewritten_on program graph id (kind.Prim operation) args = inr (operated_on program.special graph id operation args)
rewritten_on program graph id _ args = inr tt

-- ---- what has a value leads on

never_without_branches : (program : Code) (claims : List Claim) (graph : Graph) (id : ℕ) (mode : Mode) (e scrutinee : ℕ) (values : List ℕ) (assigned : Assignment)
    → Loose program claims graph assigned → is_known (assigned id) ≡ true → node_at graph id ≡ node (kind.Case mode e) (scrutinee ∷ values)
    → WithoutBranches (expr_of program (record { 0 = e })) → ⊥
never_without_branches program claims graph id mode e scrutinee values assigned loose known is none =
    let found = worth_of (Worth program claims (kind.Case mode e) (map assigned (scrutinee ∷ values))) (assigned id) known
    (loose_at program claims graph assigned id (kind.Case mode e) (scrutinee ∷ values) loose is refl) in
    let given = found.1 in
    let codes : Some (code.Case given.mode given.kept given.scrutinee given.branches) ≡ Some (code.Case none.mode none.kept none.inner []) = sym given.code_is ∙ none.is in
    let empty : given.branches ≡ [] = cc in
    let place = alternative_is (term_of program) given.branches given.selects.choice given.selects.pattern given.term given.selects.at in
    nothing given.selects.choice place.0 (subst (λ (bs : List Branch). slice_get bs given.selects.choice ≡ Some place.0) empty place.1)
  where
    nothing : (k : ℕ) (branch : Branch) → slice_get [] k ≡ Some branch → ⊥
    nothing k branch at = cc

pub never_nowhere : (program : Code) (claims : List Claim) (graph : Graph) (id : ℕ) (assigned : Assignment) → Loose program claims graph assigned
    → is_known (assigned id) ≡ true → move program graph id ≡ Become [] → ⊥
never_nowhere program claims graph id assigned loose known is =
    elim (rewritten_on program graph id (node_at graph id).kind (node_at graph id).args) [
      | inl empty ↦
          never_without_branches program claims graph id empty.mode empty.e empty.scrutinee empty.values assigned loose known
          (both_parts (node_at graph id) (kind.Case empty.mode empty.e) (empty.scrutinee ∷ empty.values) empty.kind_is empty.args_are) empty.without
      | inr on ↦ subst LeadsOn is on
    ]
  where
    both_parts : (n : Node) (k : Kind) (args : List ℕ) → n.kind ≡ k → n.args ≡ args → n ≡ node k args
    both_parts n k args one two = ap₂ node one two
