-- Each row's graph is one that the move gives.
use Rattle.std.proofs.Common.{◌≡◌, ◌≢◌, ℕ, ◌<◌, inl, inr, Bool, true, false, ◌&&◌, ◌||◌, List, [], ◌∷◌, ◌++◌, Option, None, Some, if◌then◌else◌, refl, ap, ap₂, sym, ◌∙◌, subst, true≢false, length, map, nat_eq, nat_lt, ℤ, pos, negsuc, arith, lt-ltb, ltb-true, eq-eqb, eqb-true}
use Rattle.std.specs.Ordering.{int_eq}
use Rattle.std.specs.Prelude.{◌+ℤ◌, ◌-ℤ◌, ◌*ℤ◌, int_lt, int_le}
use Rattle.cu_calculus.specs.declared.ConId.{ConId}
use Rattle.cu_calculus.specs.declared.Head.{Head}
use Rattle.cu_calculus.specs.declared.Lit.{Lit}
use Rattle.cu_calculus.specs.declared.Lit.TheVariants.{Char, Int}
use Rattle.cu_calculus.specs.declared.Mode.{Mode}
use Rattle.cu_calculus.specs.declared.Mode.TheVariants.{Flex}
use Rattle.cu_calculus.specs.declared.builtin.Primitive.{Primitive}
use Rattle.cu_calculus.specs.declared.builtin.Primitive.TheVariants as prim
use Rattle.cu_calculus.specs.declared.builtin.Special.{Special}
use Rattle.cu_int.specs.Integers.{floor_quotient, floor_rest}
use Rattle.cu_calculus.specs.Code.{Branch, Code}
use Rattle.cu_int.specs.Integers.{is_integer}
use Rattle.cu_calculus.specs.Literal.{is_scalar, same_literal}
use Rattle.cu_calculus.specs.Match.{same_constructor}
use Rattle.cu_calculus.specs.Shape.{are_data}
use Rattle.cu_calculus.specs.Value.{values_of}
use Rattle.cu_machine.specs.declared.Kind.{Kind}
use Rattle.cu_machine.specs.declared.Kind.TheVariants as kind
use Rattle.cu_machine.specs.Among.{Among}
use Rattle.cu_machine.specs.Build.{Scope, kind_of_whole}
use Rattle.cu_machine.specs.Graph.{Graph, Node, alone, head_at, head_of, node_at, put, renaming}
use Rattle.cu_machine.specs.Rewrite.{Become, Collect, alone_follows, application_step, arithmetic_step, binding_step, bound_to, branch_step, call_step, case_step, character_step, comparison_step, extended, failing_step, imitation_step, integer_step, is_true, literal_step, move, occurs_in, operation_step, replacement_step, rewrite_step, scrutinee_step, stuck_step, truth_step, unification_step}
use Rattle.cu_machine.specs.Spell.{spelled}
use Rattle.cu_machine.specs.Steps as row
use Rattle.cu_machine.specs.Steps.{CaseAt, FreeBeside, Steps, are_mixed, are_operands, divides, failing, imitating, is_on_literals, is_partial, kinds_of, node, number_of, on_the_left, on_the_right, telling, test_of}

abbrev pub Follows : Code → Graph → ℕ → Graph → Type 0
Follows program graph id after = (graphs : List Graph) × (move program graph id ≡ Become graphs) × Among after graphs

pub follows_alone : (program : Code) (graph : Graph) (id : ℕ) (after what : Graph) → move program graph id ≡ alone_follows what → after ≡ what → Follows program graph id after
follows_alone program graph id after what is same = (what ∷ [], is, inl (sym same))

pub move_as : (program : Code) (graph : Graph) (id : ℕ) (k : Kind) (args : List ℕ) → node_at graph id ≡ node k args
    → move program graph id ≡ rewrite_step program graph id k args
move_as program graph id k args is = ap (λ (m : Node). rewrite_step program graph id m.kind m.args) is

pub among_image : {A B : Type 0} (f : A → B) (x : A) (xs : List A) → Among x xs → Among (f x) (map f xs)
among_image f x [] m = absurd m
among_image f x (y ∷ ys) m = elim m [ inl same ↦ inl (ap f same) | inr rest ↦ inr (among_image f x ys rest) ]

-- ---- case distinctions

pub case_moves : (program : Code) (graph : Graph) (id : ℕ) (mode : Mode) (scrutinee : ℕ) (scope : Scope) (branches : List Branch) (k : Kind) (args : List ℕ)
    → CaseAt program graph id mode scrutinee scope branches → head_at graph scrutinee ≡ node k args
    → move program graph id ≡ scrutinee_step program scope graph id branches (head_of graph scrutinee) k args
case_moves program graph id mode scrutinee scope branches k args at head =
    move_as program graph id (kind.Case mode at.number) (scrutinee ∷ at.values) at.node_is
    ∙ ap (case_step program graph id scrutinee at.values) at.code_is
    ∙ ap (λ (s : Scope). scrutinee_step program s graph id branches (head_of graph scrutinee) (head_at graph scrutinee).kind (head_at graph scrutinee).args) (sym at.scope_is)
    ∙ ap (λ (m : Node). scrutinee_step program scope graph id branches (head_of graph scrutinee) m.kind m.args) head

-- ---- applications

pub apply_moves : (program : Code) (graph : Graph) (id function argument : ℕ) (k : Kind) (args : List ℕ) → node_at graph id ≡ node kind.Apply (function ∷ argument ∷ [])
    → head_at graph function ≡ node k args → move program graph id ≡ application_step program graph id argument k args
apply_moves program graph id function argument k args is head =
    move_as program graph id kind.Apply (function ∷ argument ∷ []) is ∙ ap (λ (m : Node). application_step program graph id argument m.kind m.args) head

pub not_partial_fails : (program : Code) (graph : Graph) (id argument : ℕ) (k : Kind) (args : List ℕ) → is_partial k ≡ false
    → application_step program graph id argument k args ≡ failing_step graph id
not_partial_fails program graph id argument (kind.Part h) args plain = let none_left : ⊥ = true≢false plain in absurd none_left
not_partial_fails program graph id argument _ args plain = refl

pub partial_still : (program : Code) (h : Head) (args : List ℕ) (arity : ℕ) → length args < arity → extended program h args (Some arity) ≡ node (kind.Part h) args
partial_still program h args arity fewer =
    ap (λ (b : Bool). if b then node (kind.Part h) args else node (kind_of_whole program h) args) (lt-ltb (length args) arity fewer)

pub never_below : (k : ℕ) → nat_lt k k ≡ false
never_below k = go (nat_lt k k) refl
  where
    go : (b : Bool) → nat_lt k k ≡ b → b ≡ false
    go true is = let less : k < k = ltb-true k k is in let none_left : ⊥ = omega arith in absurd none_left
    go false is = refl

pub whole_now : (program : Code) (h : Head) (args : List ℕ) → extended program h args (Some (length args)) ≡ node (kind_of_whole program h) args
whole_now program h args =
    ap (λ (b : Bool). if b then node (kind.Part h) args else node (kind_of_whole program h) args) (never_below (length args))

-- ---- built-in operations

pub operation_moves : (program : Code) (graph : Graph) (id : ℕ) (operation : Primitive) (args : List ℕ) → node_at graph id ≡ node (kind.Prim operation) args
    → is_on_literals operation ≡ true → move program graph id ≡ literal_step program.special graph id operation (kinds_of graph args)
operation_moves program graph id operation args is on_literals =
    move_as program graph id (kind.Prim operation) args is ∙ operated_computes program.special graph id operation args on_literals
  where
    operated_computes : (special : Special) (graph : Graph) (id : ℕ) (operation : Primitive) (args : List ℕ) → is_on_literals operation ≡ true
        → operation_step special graph id operation args ≡ literal_step special graph id operation (kinds_of graph args)
    operated_computes special graph id prim.Equal args on = let none_left : ⊥ = true≢false (sym on) in absurd none_left
    operated_computes special graph id prim.Unify args on = let none_left : ⊥ = true≢false (sym on) in absurd none_left
    operated_computes special graph id prim.And args on = let none_left : ⊥ = true≢false (sym on) in absurd none_left
    operated_computes special graph id _ args on = refl

pub if_true : {A : Type 0} (b : Bool) (x y : A) → b ≡ true → (if b then x else y) ≡ x
if_true b x y is = ap (λ (c : Bool). if c then x else y) is

pub if_false : {A : Type 0} (b : Bool) (x y : A) → b ≡ false → (if b then x else y) ≡ y
if_false b x y is = ap (λ (c : Bool). if c then x else y) is

pub counted_is : (graph : Graph) (id : ℕ) (operation : Primitive) (m n some result : ℤ) → some ≡ result → is_integer result ≡ true
    → integer_step graph id operation m n some ≡ replacement_step graph id (alone (kind.Lit (Int result)))
counted_is graph id operation m n some result same fit =
    ap (integer_step graph id operation m n) same ∙ if_true (is_integer result) (replacement_step graph id (alone (kind.Lit (Int result)))) _ fit

pub divided_is : (graph : Graph) (id : ℕ) (operation : Primitive) (m n some result : ℤ) (zero_divisor : Bool) → (if zero_divisor then None else Some some) ≡ Some result
    → is_integer result ≡ true → (if zero_divisor then failing_step graph id else integer_step graph id operation m n some) ≡ replacement_step graph id (alone (kind.Lit (Int result)))
divided_is graph id operation m n some result true same fit = let none_left : ⊥ = cc in absurd none_left
divided_is graph id operation m n some result false same fit = let is : some ≡ result = cc in counted_is graph id operation m n some result is fit

pub calculated_number : (special : Special) (graph : Graph) (id : ℕ) (operation : Primitive) (m n result : ℤ) → number_of operation m n ≡ Some result
    → is_integer result ≡ true → arithmetic_step special graph id operation m n ≡ replacement_step graph id (alone (kind.Lit (Int result)))
calculated_number special graph id prim.Add m n result same fit = let is : m +ℤ n ≡ result = cc in counted_is graph id prim.Add m n (m +ℤ n) result is fit
calculated_number special graph id prim.Sub m n result same fit = let is : m -ℤ n ≡ result = cc in counted_is graph id prim.Sub m n (m -ℤ n) result is fit
calculated_number special graph id prim.Mul m n result same fit = let is : m *ℤ n ≡ result = cc in counted_is graph id prim.Mul m n (m *ℤ n) result is fit
calculated_number special graph id prim.Div m n result same fit = divided_is graph id prim.Div m n (floor_quotient m n) result (int_eq n (pos 0)) same fit
calculated_number special graph id prim.Mod m n result same fit = divided_is graph id prim.Mod m n (floor_rest m n) result (int_eq n (pos 0)) same fit
calculated_number special graph id _ m n result same fit = let none_left : ⊥ = cc in absurd none_left

pub number_on : (operation : Primitive) (m n result : ℤ) → number_of operation m n ≡ Some result → is_on_literals operation ≡ true
number_on prim.Equal m n result same = let none_left : ⊥ = cc in absurd none_left
number_on prim.Unify m n result same = let none_left : ⊥ = cc in absurd none_left
number_on prim.And m n result same = let none_left : ⊥ = cc in absurd none_left
number_on prim.Failed m n result same = let none_left : ⊥ = cc in absurd none_left
number_on _ m n result same = refl

pub some_is : {A : Type 0} (x y : A) → Some x ≡ Some y → x ≡ y
some_is x y same = cc

pub calculated_test : (special : Special) (graph : Graph) (id : ℕ) (operation : Primitive) (m n : ℤ) (answer : Bool) → test_of operation m n ≡ Some answer
    → arithmetic_step special graph id operation m n ≡ truth_step special graph id answer
calculated_test special graph id prim.Less m n answer same = ap (truth_step special graph id) (some_is (int_lt m n) answer same)
calculated_test special graph id prim.AtMost m n answer same = ap (truth_step special graph id) (some_is (int_le m n) answer same)
calculated_test special graph id prim.Greater m n answer same = ap (truth_step special graph id) (some_is (int_lt n m) answer same)
calculated_test special graph id prim.AtLeast m n answer same = ap (truth_step special graph id) (some_is (int_le n m) answer same)
calculated_test special graph id _ m n answer same = let none_left : ⊥ = cc in absurd none_left

pub test_on : (operation : Primitive) (m n : ℤ) (answer : Bool) → test_of operation m n ≡ Some answer → is_on_literals operation ≡ true
test_on prim.Equal m n answer same = let none_left : ⊥ = cc in absurd none_left
test_on prim.Unify m n answer same = let none_left : ⊥ = cc in absurd none_left
test_on prim.And m n answer same = let none_left : ⊥ = cc in absurd none_left
test_on prim.Failed m n answer same = let none_left : ⊥ = cc in absurd none_left
test_on _ m n answer same = refl

pub calculated_zero : (special : Special) (graph : Graph) (id : ℕ) (operation : Primitive) (m n : ℤ) → divides operation ≡ true → int_eq n (pos 0) ≡ true
    → arithmetic_step special graph id operation m n ≡ failing_step graph id
calculated_zero special graph id prim.Div m n is zero_is = if_true (int_eq n (pos 0)) (failing_step graph id) _ zero_is
calculated_zero special graph id prim.Mod m n is zero_is = if_true (int_eq n (pos 0)) (failing_step graph id) _ zero_is
calculated_zero special graph id _ m n is zero_is = let none_left : ⊥ = true≢false (sym is) in absurd none_left

pub divides_on : (operation : Primitive) → divides operation ≡ true → is_on_literals operation ≡ true
divides_on prim.Equal is = let none_left : ⊥ = true≢false (sym is) in absurd none_left
divides_on prim.Unify is = let none_left : ⊥ = true≢false (sym is) in absurd none_left
divides_on prim.And is = let none_left : ⊥ = true≢false (sym is) in absurd none_left
divides_on prim.Failed is = let none_left : ⊥ = true≢false (sym is) in absurd none_left
divides_on _ is = refl

pub no_scalar_fails : (graph : Graph) (id : ℕ) (n : ℤ) → ((c : ℕ) → n ≡ pos c → is_scalar c ≡ false) → character_step graph id n ≡ failing_step graph id
no_scalar_fails graph id (pos c) never = if_false (is_scalar c) _ (failing_step graph id) (never c refl)
no_scalar_fails graph id (negsuc c) never = refl

pub not_calculated : (special : Special) (graph : Graph) (id : ℕ) (operation : Primitive) (m n : ℤ) → row.is_on_integers operation ≡ false
    → arithmetic_step special graph id operation m n ≡ failing_step graph id
not_calculated special graph id prim.Add m n is = let none_left : ⊥ = true≢false is in absurd none_left
not_calculated special graph id prim.Sub m n is = let none_left : ⊥ = true≢false is in absurd none_left
not_calculated special graph id prim.Mul m n is = let none_left : ⊥ = true≢false is in absurd none_left
not_calculated special graph id prim.Div m n is = let none_left : ⊥ = true≢false is in absurd none_left
not_calculated special graph id prim.Mod m n is = let none_left : ⊥ = true≢false is in absurd none_left
not_calculated special graph id prim.Less m n is = let none_left : ⊥ = true≢false is in absurd none_left
not_calculated special graph id prim.AtMost m n is = let none_left : ⊥ = true≢false is in absurd none_left
not_calculated special graph id prim.Greater m n is = let none_left : ⊥ = true≢false is in absurd none_left
not_calculated special graph id prim.AtLeast m n is = let none_left : ⊥ = true≢false is in absurd none_left
not_calculated special graph id _ m n is = refl

pub no_operands_fail : (special : Special) (graph : Graph) (id : ℕ) (operation : Primitive) (ks : List Kind) → are_operands operation ks ≡ false
    → literal_step special graph id operation ks ≡ failing_step graph id
no_operands_fail special graph id operation (kind.Lit (Int m) ∷ kind.Lit (Int n) ∷ []) is = not_calculated special graph id operation m n is
no_operands_fail special graph id prim.Ord (kind.Lit (Char c) ∷ []) is = let none_left : ⊥ = true≢false is in absurd none_left
no_operands_fail special graph id prim.Chr (kind.Lit (Int n) ∷ []) is = let none_left : ⊥ = true≢false is in absurd none_left
no_operands_fail special graph id _ _ is = refl

-- ---- comparisons and equations

pub equal_moves : (program : Code) (graph : Graph) (id a b : ℕ) (k l : Kind) (us vs : List ℕ) → node_at graph id ≡ node (kind.Prim prim.Equal) (a ∷ b ∷ [])
    → head_at graph a ≡ node k us → head_at graph b ≡ node l vs → move program graph id ≡ comparison_step program.special graph id k us l vs
equal_moves program graph id a b k l us vs is one two =
    move_as program graph id (kind.Prim prim.Equal) (a ∷ b ∷ []) is
    ∙ ap₂ (λ (m o : Node). comparison_step program.special graph id m.kind m.args o.kind o.args) one two

pub mixed_tells : (special : Special) (graph : Graph) (id : ℕ) (k l : Kind) (us vs : List ℕ) → are_mixed k l ≡ true
    → comparison_step special graph id k us l vs ≡ truth_step special graph id false
mixed_tells special graph id (kind.Lit l) (kind.Cons c) us vs is = refl
mixed_tells special graph id (kind.Cons c) (kind.Lit l) us vs is = refl
mixed_tells special graph id _ _ us vs is = let none_left : ⊥ = true≢false (sym is) in absurd none_left

pub partial_fails : (special : Special) (graph : Graph) (id : ℕ) (k l : Kind) (us vs : List ℕ) → (is_partial k || is_partial l) ≡ true
    → comparison_step special graph id k us l vs ≡ failing_step graph id
partial_fails special graph id (kind.Cons c) (kind.Cons d) us vs is = let none_left : ⊥ = true≢false (sym is) in absurd none_left
partial_fails special graph id (kind.Cons c) (kind.Lit l) us vs is = let none_left : ⊥ = true≢false (sym is) in absurd none_left
partial_fails special graph id (kind.Lit l) (kind.Cons c) us vs is = let none_left : ⊥ = true≢false (sym is) in absurd none_left
partial_fails special graph id (kind.Lit l) (kind.Lit m) us vs is = let none_left : ⊥ = true≢false (sym is) in absurd none_left
partial_fails special graph id _ _ us vs is = refl

pub unify_moves : (program : Code) (graph : Graph) (id a b v w : ℕ) (k l : Kind) (us vs : List ℕ) → node_at graph id ≡ node (kind.Prim prim.Unify) (a ∷ b ∷ [])
    → head_of graph a ≡ v → head_at graph a ≡ node k us → head_of graph b ≡ w → head_at graph b ≡ node l vs
    → move program graph id ≡ unification_step program.special graph id v k us w l vs
unify_moves program graph id a b v w k l us vs is place_a one place_b two =
    move_as program graph id (kind.Prim prim.Unify) (a ∷ b ∷ []) is
    ∙ ap₂ (λ (m o : Node). unification_step program.special graph id (head_of graph a) m.kind m.args (head_of graph b) o.kind o.args) one two
    ∙ ap₂ (λ (x y : ℕ). unification_step program.special graph id x k us y l vs) place_a place_b

-- an equation of a free variable with a constructor
pub free_cons_moves : (program : Code) (graph : Graph) (id a b v other : ℕ) (c : ConId) (args : List ℕ) → node_at graph id ≡ node (kind.Prim prim.Unify) (a ∷ b ∷ [])
    → FreeBeside graph a b v other (kind.Cons c) args → move program graph id ≡ imitation_step program.special graph id v other c args
free_cons_moves program graph id a b v other c args is (on_the_left us place_a one place_b two) =
    unify_moves program graph id a b v other kind.Free (kind.Cons c) us args is place_a one place_b two
free_cons_moves program graph id a b v other c args is (on_the_right us place_b two place_a one) =
    unify_moves program graph id a b other v (kind.Cons c) kind.Free args us is place_a one place_b two

pub free_literal_moves : (program : Code) (graph : Graph) (id a b v other : ℕ) (l : Lit) (args : List ℕ) → node_at graph id ≡ node (kind.Prim prim.Unify) (a ∷ b ∷ [])
    → FreeBeside graph a b v other (kind.Lit l) args → move program graph id ≡ binding_step program.special graph id v other
free_literal_moves program graph id a b v other l args is (on_the_left us place_a one place_b two) =
    unify_moves program graph id a b v other kind.Free (kind.Lit l) us args is place_a one place_b two
free_literal_moves program graph id a b v other l args is (on_the_right us place_b two place_a one) =
    unify_moves program graph id a b other v (kind.Lit l) kind.Free args us is place_a one place_b two

pub mixed_fails : (special : Special) (graph : Graph) (id v w : ℕ) (k l : Kind) (us vs : List ℕ) → are_mixed k l ≡ true
    → unification_step special graph id v k us w l vs ≡ failing_step graph id
mixed_fails special graph id v w (kind.Lit l) (kind.Cons c) us vs is = refl
mixed_fails special graph id v w (kind.Cons c) (kind.Lit l) us vs is = refl
mixed_fails special graph id v w _ _ us vs is = let none_left : ⊥ = true≢false (sym is) in absurd none_left

pub with_partial_fails : (special : Special) (graph : Graph) (id v w : ℕ) (k l : Kind) (us vs : List ℕ) → (is_partial k || is_partial l) ≡ true
    → unification_step special graph id v k us w l vs ≡ failing_step graph id
with_partial_fails special graph id v w (kind.Part h) _ us vs is = refl
with_partial_fails special graph id v w _ (kind.Part h) us vs is = refl
with_partial_fails special graph id v w _ _ us vs is = let none_left : ⊥ = true≢false (sym is) in absurd none_left

pub differ_eq : (a b : ℕ) → a ≢ b → nat_eq a b ≡ false
differ_eq a b other = go (nat_eq a b) refl
  where
    go : (c : Bool) → nat_eq a b ≡ c → c ≡ false
    go true is = absurd (other (eqb-true a b is))
    go false is = refl

-- ---- all rows

pub row_moves : (program : Code) (graph : Graph) (id : ℕ) (after : Graph) → Steps program graph id after → Follows program graph id after
row_moves program graph id after (row.call f args params body is has same) =
    follows_alone program graph id after _ (move_as program graph id (kind.Call f) args is ∙ ap (call_step program graph id args) has) same
row_moves program graph id after (row.left one two is same) =
    (put graph id (renaming one) ∷ put graph id (renaming two) ∷ [], move_as program graph id kind.Or (one ∷ two ∷ []) is, inl (sym same))
row_moves program graph id after (row.right one two is same) =
    (put graph id (renaming one) ∷ put graph id (renaming two) ∷ [], move_as program graph id kind.Or (one ∷ two ∷ []) is, inr (inl (sym same)))
row_moves program graph id after (row.literal_branch mode s scope branches l args branch at head found same) =
    follows_alone program graph id after _
    (case_moves program graph id mode s scope branches (kind.Lit l) args at head ∙ ap (branch_step program scope graph id []) found) same
row_moves program graph id after (row.constructor_branch mode s scope branches c args branch at head found same) =
    follows_alone program graph id after _
    (case_moves program graph id mode s scope branches (kind.Cons c) args at head ∙ ap (branch_step program scope graph id args) found) same
row_moves program graph id after (row.no_literal_branch mode s scope branches l args at head found same) =
    follows_alone program graph id after _
    (case_moves program graph id mode s scope branches (kind.Lit l) args at head ∙ ap (branch_step program scope graph id []) found) same
row_moves program graph id after (row.no_constructor_branch mode s scope branches c args at head found same) =
    follows_alone program graph id after _
    (case_moves program graph id mode s scope branches (kind.Cons c) args at head ∙ ap (branch_step program scope graph id args) found) same
row_moves program graph id after (row.no_partial_branch mode s scope branches h args at head same) =
    follows_alone program graph id after _ (case_moves program graph id mode s scope branches (kind.Part h) args at head) same
row_moves program graph id after (row.narrowing s scope branches args branch at head m same) = (
  map (λ b. bound_to graph (head_of graph s) b.pattern) branches,
  case_moves program graph id Flex s scope branches kind.Free args at head,
  subst (λ (g : Graph). Among g (map (λ b. bound_to graph (head_of graph s) b.pattern) branches)) (sym same)
      (among_image (λ b. bound_to graph (head_of graph s) b.pattern) branch branches m),
)
row_moves program graph id after (row.still_partial function argument h args arity is head has fewer same) =
    follows_alone program graph id after _
    (apply_moves program graph id function argument (kind.Part h) args is head
    ∙ ap (λ (o : Option ℕ). replacement_step graph id (extended program h (args ++ argument ∷ []) o)) has
    ∙ ap (replacement_step graph id) (partial_still program h (args ++ argument ∷ []) arity fewer)) same
row_moves program graph id after (row.whole function argument h args is head has same) =
    follows_alone program graph id after _
    (apply_moves program graph id function argument (kind.Part h) args is head
    ∙ ap (λ (o : Option ℕ). replacement_step graph id (extended program h (args ++ argument ∷ []) o)) has
    ∙ ap (replacement_step graph id) (whole_now program h (args ++ argument ∷ []))) same
row_moves program graph id after (row.not_applicable function argument is plain same) =
    follows_alone program graph id after _
    (apply_moves program graph id function argument (head_at graph function).kind (head_at graph function).args is refl
    ∙ not_partial_fails program graph id argument (head_at graph function).kind (head_at graph function).args plain) same
row_moves program graph id after (row.number operation args m n result is kinds has fit same) =
    follows_alone program graph id after _
    (operation_moves program graph id operation args is (number_on operation m n result has) ∙ ap (literal_step program.special graph id operation) kinds
    ∙ calculated_number program.special graph id operation m n result has fit) same
row_moves program graph id after (row.test operation args m n answer is kinds has same) =
    follows_alone program graph id after _
    (operation_moves program graph id operation args is (test_on operation m n answer has) ∙ ap (literal_step program.special graph id operation) kinds
    ∙ calculated_test program.special graph id operation m n answer has) same
row_moves program graph id after (row.division_by_zero operation args m n is kinds div zero_is same) =
    follows_alone program graph id after _
    (operation_moves program graph id operation args is (divides_on operation div) ∙ ap (literal_step program.special graph id operation) kinds
    ∙ calculated_zero program.special graph id operation m n div zero_is) same
row_moves program graph id after (row.code_point args c is kinds same) =
    follows_alone program graph id after _ (operation_moves program graph id prim.Ord args is refl ∙ ap (literal_step program.special graph id prim.Ord) kinds) same
row_moves program graph id after (row.character args c is kinds scalar same) =
    follows_alone program graph id after _
    (operation_moves program graph id prim.Chr args is refl ∙ ap (literal_step program.special graph id prim.Chr) kinds
    ∙ if_true (is_scalar c) (replacement_step graph id (alone (kind.Lit (Char c)))) (failing_step graph id) scalar) same
row_moves program graph id after (row.no_character args n is kinds never same) =
    follows_alone program graph id after _
    (operation_moves program graph id prim.Chr args is refl ∙ ap (literal_step program.special graph id prim.Chr) kinds ∙ no_scalar_fails graph id n never) same
row_moves program graph id after (row.no_operands operation args is on none_fit same) =
    follows_alone program graph id after _
    (operation_moves program graph id operation args is on ∙ no_operands_fail program.special graph id operation (kinds_of graph args) none_fit) same
row_moves program graph id after (row.compared_literals a b l m us vs is one two same) =
    follows_alone program graph id after _ (equal_moves program graph id a b (kind.Lit l) (kind.Lit m) us vs is one two) same
row_moves program graph id after (row.compared_mixed a b is unlike same) =
    follows_alone program graph id after _
    (equal_moves program graph id a b (head_at graph a).kind (head_at graph b).kind (head_at graph a).args (head_at graph b).args is refl refl
    ∙ mixed_tells program.special graph id (head_at graph a).kind (head_at graph b).kind (head_at graph a).args (head_at graph b).args unlike) same
row_moves program graph id after (row.compared_unlike a b c d us vs is one two unlike same) =
    follows_alone program graph id after _
    (equal_moves program graph id a b (kind.Cons c) (kind.Cons d) us vs is one two ∙ if_false (same_constructor c d) _ (truth_step program.special graph id false) unlike) same
row_moves program graph id after (row.compared_alike a b c d us vs is one two alike same) =
    follows_alone program graph id after after
    (equal_moves program graph id a b (kind.Cons c) (kind.Cons d) us vs is one two ∙ if_true (same_constructor c d) _ (truth_step program.special graph id false) alike ∙ same) refl
row_moves program graph id after (row.compared_partial a b is partial same) =
    follows_alone program graph id after _
    (equal_moves program graph id a b (head_at graph a).kind (head_at graph b).kind (head_at graph a).args (head_at graph b).args is refl refl
    ∙ partial_fails program.special graph id (head_at graph a).kind (head_at graph b).kind (head_at graph a).args (head_at graph b).args partial) same
row_moves program graph id after (row.both_true a b is holds same) =
    follows_alone program graph id after _
    (move_as program graph id (kind.Prim prim.And) (a ∷ b ∷ []) is
    ∙ if_true (is_true program.special (head_at graph a).kind && is_true program.special (head_at graph b).kind) (truth_step program.special graph id true) (failing_step graph id) holds) same
row_moves program graph id after (row.not_both_true a b is fails_it same) =
    follows_alone program graph id after _
    (move_as program graph id (kind.Prim prim.And) (a ∷ b ∷ []) is
    ∙ if_false (is_true program.special (head_at graph a).kind && is_true program.special (head_at graph b).kind) (truth_step program.special graph id true) (failing_step graph id) fails_it) same
row_moves program graph id after (row.same_variable a b us vs is one two places same) =
    follows_alone program graph id after _
    (unify_moves program graph id a b (head_of graph a) (head_of graph b) kind.Free kind.Free us vs is refl one refl two
    ∙ if_true (nat_eq (head_of graph a) (head_of graph b)) (truth_step program.special graph id true) _ (eq-eqb (head_of graph a) (head_of graph b) places)) same
row_moves program graph id after (row.two_variables a b us vs is one two places same) =
    follows_alone program graph id after _
    (unify_moves program graph id a b (head_of graph a) (head_of graph b) kind.Free kind.Free us vs is refl one refl two
    ∙ if_false (nat_eq (head_of graph a) (head_of graph b)) (truth_step program.special graph id true) _ (differ_eq (head_of graph a) (head_of graph b) places)) same
row_moves program graph id after (row.bound_to_literal a b v other l args is sides same) =
    follows_alone program graph id after _ (free_literal_moves program graph id a b v other l args is sides) same
row_moves program graph id after (row.bound_to_constant a b v other c is sides same) =
    follows_alone program graph id after _ (free_cons_moves program graph id a b v other c [] is sides) same
row_moves program graph id after (row.occurs a b v other c arg args is sides found same) =
    follows_alone program graph id after _
    (free_cons_moves program graph id a b v other c (arg ∷ args) is sides ∙ if_true (occurs_in graph v (arg ∷ args)) (failing_step graph id) _ found) same
row_moves program graph id after (row.imitation a b v other c arg args is sides absent same) =
    follows_alone program graph id after after
    (free_cons_moves program graph id a b v other c (arg ∷ args) is sides ∙ if_false (occurs_in graph v (arg ∷ args)) (failing_step graph id) _ absent ∙ same) refl
row_moves program graph id after (row.equal_literals a b l m us vs is one two alike same) =
    follows_alone program graph id after _
    (unify_moves program graph id a b (head_of graph a) (head_of graph b) (kind.Lit l) (kind.Lit m) us vs is refl one refl two
    ∙ if_true (same_literal l m) (truth_step program.special graph id true) (failing_step graph id) alike) same
row_moves program graph id after (row.unlike_literals a b l m us vs is one two unlike same) =
    follows_alone program graph id after _
    (unify_moves program graph id a b (head_of graph a) (head_of graph b) (kind.Lit l) (kind.Lit m) us vs is refl one refl two
    ∙ if_false (same_literal l m) (truth_step program.special graph id true) (failing_step graph id) unlike) same
row_moves program graph id after (row.decomposition a b c d us vs is one two alike same) =
    follows_alone program graph id after after
    (unify_moves program graph id a b (head_of graph a) (head_of graph b) (kind.Cons c) (kind.Cons d) us vs is refl one refl two
    ∙ if_true (same_constructor c d) _ (failing_step graph id) alike ∙ same) refl
row_moves program graph id after (row.clash a b c d us vs is one two unlike same) =
    follows_alone program graph id after _
    (unify_moves program graph id a b (head_of graph a) (head_of graph b) (kind.Cons c) (kind.Cons d) us vs is refl one refl two
    ∙ if_false (same_constructor c d) _ (failing_step graph id) unlike) same
row_moves program graph id after (row.mixed a b is unlike same) =
    follows_alone program graph id after _
    (unify_moves program graph id a b (head_of graph a) (head_of graph b) (head_at graph a).kind (head_at graph b).kind (head_at graph a).args (head_at graph b).args is refl refl refl refl
    ∙ mixed_fails program.special graph id (head_of graph a) (head_of graph b) (head_at graph a).kind (head_at graph b).kind (head_at graph a).args (head_at graph b).args unlike) same
row_moves program graph id after (row.with_partial a b is partial same) =
    follows_alone program graph id after _
    (unify_moves program graph id a b (head_of graph a) (head_of graph b) (head_at graph a).kind (head_at graph b).kind (head_at graph a).args (head_at graph b).args is refl refl refl refl
    ∙ with_partial_fails program.special graph id (head_of graph a) (head_of graph b) (head_at graph a).kind (head_at graph b).kind (head_at graph a).args (head_at graph b).args partial) same
row_moves program graph id after (row.set_of_partial f args is partial same) =
    follows_alone program graph id after _
    (move_as program graph id (kind.SetCall f) args is
    ∙ if_false (are_data (values_of (map (spelled graph) args))) (Collect f (values_of (map (spelled graph) args))) (stuck_step graph id) partial) same
