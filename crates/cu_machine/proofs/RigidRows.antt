-- A rigid case distinction on a free variable has no row.
use Rattle.std.proofs.Common.{◌≡◌, ℕ, List, ◌∷◌, ap, sym, ◌∙◌}
use Rattle.cu_calculus.specs.Code.{Branch, Code}
use Rattle.cu_calculus.specs.declared.Mode.{Mode}
use Rattle.cu_calculus.specs.declared.Mode.TheVariants.{Flex, Rigid}
use Rattle.cu_machine.specs.declared.Kind.{Kind}
use Rattle.cu_machine.specs.declared.Kind.TheVariants as kind
use Rattle.cu_machine.specs.Build.{Scope}
use Rattle.cu_machine.specs.Graph.{Graph, Node, head_at, node_at}
use Rattle.cu_machine.specs.Steps as row
use Rattle.cu_machine.specs.Steps.{CaseAt, Steps, node}

-- a node of another kind
pub other_kind : (graph : Graph) (id n scrutinee : ℕ) (values args : List ℕ) (k : Kind) → node_at graph id ≡ node (kind.Case Rigid n) (scrutinee ∷ values)
    → node_at graph id ≡ node k args → (kind.Case Rigid n ≡ k → ⊥) → ⊥
other_kind graph id n scrutinee values args k at is unlike = unlike (ap (λ (m : Node). m.kind) (sym at ∙ is))

pub case_same : (mode other : Mode) (n m : ℕ) → kind.Case mode n ≡ kind.Case other m → mode ≡ other
case_same mode other n m same = cc

pub first_same : (x y : ℕ) (xs ys : List ℕ) → x ∷ xs ≡ y ∷ ys → x ≡ y
first_same x y xs ys same = cc

-- the case distinction that a row speaks of has this scrutinee and mode
pub other_head : (program : Code) (graph : Graph) (id n scrutinee s : ℕ) (values : List ℕ) (mode : Mode) (scope : Scope) (branches : List Branch) (k : Kind) (args : List ℕ)
    → node_at graph id ≡ node (kind.Case Rigid n) (scrutinee ∷ values) → (head_at graph scrutinee).kind ≡ kind.Free → CaseAt program graph id mode s scope branches
    → head_at graph s ≡ node k args → (kind.Free ≡ k → ⊥) → ⊥
other_head program graph id n scrutinee s values mode scope branches k args at free case head unlike =
    let same : scrutinee ≡ s = first_same scrutinee s values case.values (ap (λ (m : Node). m.args) (sym at ∙ case.node_is)) in
    unlike (sym free ∙ ap (λ (x : ℕ). (head_at graph x).kind) same ∙ ap (λ (m : Node). m.kind) head)

pub no_flexible : (program : Code) (graph : Graph) (id n scrutinee s : ℕ) (values : List ℕ) (scope : Scope) (branches : List Branch)
    → node_at graph id ≡ node (kind.Case Rigid n) (scrutinee ∷ values) → CaseAt program graph id Flex s scope branches → ⊥
no_flexible program graph id n scrutinee s values scope branches at case =
    let same : Rigid ≡ Flex = case_same Rigid Flex n case.number (ap (λ (m : Node). m.kind) (sym at ∙ case.node_is)) in cc

pub rigid_waits : (program : Code) (graph after : Graph) (id number scrutinee : ℕ) (values : List ℕ) → node_at graph id ≡ node (kind.Case Rigid number) (scrutinee ∷ values)
    → (head_at graph scrutinee).kind ≡ kind.Free → Steps program graph id after → ⊥
rigid_waits program graph after id number scrutinee values at free (row.call f args params body is has same) = other_kind graph id number scrutinee values _ _ at is (λ x. cc)
rigid_waits program graph after id number scrutinee values at free (row.left one two is same) = other_kind graph id number scrutinee values _ _ at is (λ x. cc)
rigid_waits program graph after id number scrutinee values at free (row.right one two is same) = other_kind graph id number scrutinee values _ _ at is (λ x. cc)
rigid_waits program graph after id number scrutinee values at free (row.literal_branch mode s scope branches l args branch case head found same) = other_head program graph id number scrutinee s values mode scope branches (kind.Lit l) args at free case head (λ x. cc)
rigid_waits program graph after id number scrutinee values at free (row.constructor_branch mode s scope branches c args branch case head found same) = other_head program graph id number scrutinee s values mode scope branches (kind.Cons c) args at free case head (λ x. cc)
rigid_waits program graph after id number scrutinee values at free (row.no_literal_branch mode s scope branches l args case head found same) = other_head program graph id number scrutinee s values mode scope branches (kind.Lit l) args at free case head (λ x. cc)
rigid_waits program graph after id number scrutinee values at free (row.no_constructor_branch mode s scope branches c args case head found same) = other_head program graph id number scrutinee s values mode scope branches (kind.Cons c) args at free case head (λ x. cc)
rigid_waits program graph after id number scrutinee values at free (row.no_partial_branch mode s scope branches h args case head same) = other_head program graph id number scrutinee s values mode scope branches (kind.Part h) args at free case head (λ x. cc)
rigid_waits program graph after id number scrutinee values at free (row.narrowing s scope branches args branch case head m same) = no_flexible program graph id number scrutinee s values scope branches at case
rigid_waits program graph after id number scrutinee values at free (row.still_partial function argument h args arity is head has fewer same) = other_kind graph id number scrutinee values _ _ at is (λ x. cc)
rigid_waits program graph after id number scrutinee values at free (row.whole function argument h args is head has same) = other_kind graph id number scrutinee values _ _ at is (λ x. cc)
rigid_waits program graph after id number scrutinee values at free (row.not_applicable function argument is plain same) = other_kind graph id number scrutinee values _ _ at is (λ x. cc)
rigid_waits program graph after id number scrutinee values at free (row.number operation args m n result is kinds has fit same) = other_kind graph id number scrutinee values _ _ at is (λ x. cc)
rigid_waits program graph after id number scrutinee values at free (row.test operation args m n answer is kinds has same) = other_kind graph id number scrutinee values _ _ at is (λ x. cc)
rigid_waits program graph after id number scrutinee values at free (row.division_by_zero operation args m n is kinds div zero_is same) = other_kind graph id number scrutinee values _ _ at is (λ x. cc)
rigid_waits program graph after id number scrutinee values at free (row.code_point args c is kinds same) = other_kind graph id number scrutinee values _ _ at is (λ x. cc)
rigid_waits program graph after id number scrutinee values at free (row.character args c is kinds scalar same) = other_kind graph id number scrutinee values _ _ at is (λ x. cc)
rigid_waits program graph after id number scrutinee values at free (row.no_character args n is kinds never same) = other_kind graph id number scrutinee values _ _ at is (λ x. cc)
rigid_waits program graph after id number scrutinee values at free (row.no_operands operation args is on none_fit same) = other_kind graph id number scrutinee values _ _ at is (λ x. cc)
rigid_waits program graph after id number scrutinee values at free (row.compared_literals a b l m us vs is one two same) = other_kind graph id number scrutinee values _ _ at is (λ x. cc)
rigid_waits program graph after id number scrutinee values at free (row.compared_mixed a b is unlike same) = other_kind graph id number scrutinee values _ _ at is (λ x. cc)
rigid_waits program graph after id number scrutinee values at free (row.compared_unlike a b c d us vs is one two unlike same) = other_kind graph id number scrutinee values _ _ at is (λ x. cc)
rigid_waits program graph after id number scrutinee values at free (row.compared_alike a b c d us vs is one two alike same) = other_kind graph id number scrutinee values _ _ at is (λ x. cc)
rigid_waits program graph after id number scrutinee values at free (row.compared_partial a b is partial same) = other_kind graph id number scrutinee values _ _ at is (λ x. cc)
rigid_waits program graph after id number scrutinee values at free (row.both_true a b is holds same) = other_kind graph id number scrutinee values _ _ at is (λ x. cc)
rigid_waits program graph after id number scrutinee values at free (row.not_both_true a b is fails_it same) = other_kind graph id number scrutinee values _ _ at is (λ x. cc)
rigid_waits program graph after id number scrutinee values at free (row.same_variable a b us vs is one two places same) = other_kind graph id number scrutinee values _ _ at is (λ x. cc)
rigid_waits program graph after id number scrutinee values at free (row.two_variables a b us vs is one two places same) = other_kind graph id number scrutinee values _ _ at is (λ x. cc)
rigid_waits program graph after id number scrutinee values at free (row.bound_to_literal a b v other l args is sides same) = other_kind graph id number scrutinee values _ _ at is (λ x. cc)
rigid_waits program graph after id number scrutinee values at free (row.bound_to_constant a b v other c is sides same) = other_kind graph id number scrutinee values _ _ at is (λ x. cc)
rigid_waits program graph after id number scrutinee values at free (row.occurs a b v other c arg args is sides found same) = other_kind graph id number scrutinee values _ _ at is (λ x. cc)
rigid_waits program graph after id number scrutinee values at free (row.imitation a b v other c arg args is sides absent same) = other_kind graph id number scrutinee values _ _ at is (λ x. cc)
rigid_waits program graph after id number scrutinee values at free (row.equal_literals a b l m us vs is one two alike same) = other_kind graph id number scrutinee values _ _ at is (λ x. cc)
rigid_waits program graph after id number scrutinee values at free (row.unlike_literals a b l m us vs is one two unlike same) = other_kind graph id number scrutinee values _ _ at is (λ x. cc)
rigid_waits program graph after id number scrutinee values at free (row.decomposition a b c d us vs is one two alike same) = other_kind graph id number scrutinee values _ _ at is (λ x. cc)
rigid_waits program graph after id number scrutinee values at free (row.clash a b c d us vs is one two unlike same) = other_kind graph id number scrutinee values _ _ at is (λ x. cc)
rigid_waits program graph after id number scrutinee values at free (row.mixed a b is unlike same) = other_kind graph id number scrutinee values _ _ at is (λ x. cc)
rigid_waits program graph after id number scrutinee values at free (row.with_partial a b is partial same) = other_kind graph id number scrutinee values _ _ at is (λ x. cc)
rigid_waits program graph after id number scrutinee values at free (row.set_of_partial f args is partial same) = other_kind graph id number scrutinee values _ _ at is (λ x. cc)
