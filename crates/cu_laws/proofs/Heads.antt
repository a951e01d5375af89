-- Nodes that are heads of values: what they are worth at most, and how a node is raised to that of
-- its head.
use Rattle.std.proofs.Common.{◌≡◌, ℕ, ◌+◌, ◌<◌, inl, inr, Bool, true, false, ◌&&◌, List, [], ◌∷◌, Option, None, Some, IsTrue, refl, ap, ap₂, sym, ◌∙◌, subst, length, map, nat_eq, arith}
use Rattle.std.proofs.lemmas.Bool.{and_from, and_parts}
use Rattle.cu_calculus.specs.declared.ConId.{ConId}
use Rattle.cu_calculus.specs.declared.Head.{Head}
use Rattle.cu_calculus.specs.declared.Head.TheVariants as head
use Rattle.cu_calculus.specs.Below as below
use Rattle.cu_calculus.specs.Below.{Below}
use Rattle.cu_calculus.specs.Code.{Code, arity_of}
use Rattle.cu_calculus.specs.FlatProgram.{program_of}
use Rattle.cu_calculus.specs.Gives as gives
use Rattle.cu_calculus.specs.Gives.{Applied, Claim}
use Rattle.cu_calculus.specs.Literal.{is_literal}
use Rattle.cu_calculus.specs.Program.{Program, arity_in}
use Rattle.cu_calculus.specs.Shape as shape
use Rattle.cu_calculus.specs.Shape.{are_of, is_of, takes, takes_more}
use Rattle.cu_calculus.specs.Value as value
use Rattle.cu_calculus.specs.Value.{Value, Values, count, values_of}
use Rattle.cu_calculus.specs.WellFormed.{is_allowed}
use Rattle.cu_calculus.proofs.BelowLaws.{below_itself}
use Rattle.cu_calculus.proofs.FlatFitting.{arity_kept}
use Rattle.cu_machine.specs.declared.Kind.{Kind}
use Rattle.cu_machine.specs.declared.Kind.TheVariants as kind
use Rattle.cu_machine.specs.Graph.{Graph, Node, head_at, head_of, node_at}
use Rattle.cu_machine.specs.Steps.{node}
use Rattle.cu_machine.specs.Validity.{NodesFit, has_arguments}
use Rattle.cu_laws.specs.Good.{Assignment, AtMost, MayHave, NoValue}
use Rattle.cu_laws.proofs.Raising.{GoodApart, Raised, is_ind, is_stuck, raised_to, there_unless_stuck}

abbrev pub values_at : Assignment → List ℕ → Values
values_at assigned args = values_of (map assigned args)

-- the value that a head is, where its arguments are worth these
abbrev pub made : Kind → Values → Option Value
made (kind.Cons c) us = Some (value.Constructed c us)
made (kind.Lit l) us = Some (value.Literal l)
made (kind.Part h) us = Some (value.Partial h us)
made _ us = None

-- a constructor has no other value than itself
pub constructed_is : (program : Program) (claims : List Claim) (h : Head) (us : Values) (v : Value) → Applied program claims h us v → (c : ConId) → h ≡ head.Con c
    → v ≡ value.Constructed c us
constructed_is program claims _ us _ (gives.constructed d _) c e = let same : d ≡ c = cc in ap (λ (x : ConId). value.Constructed x us) same
constructed_is program claims _ us v (gives.by_rule f function rules k rule bindings _ _ e' b r m given) c e = let no : ⊥ = cc in absurd no
constructed_is program claims _ us v (gives.builtin f function operation _ _ e' b answers) c e = let no : ⊥ = cc in absurd no
constructed_is program claims _ us v (gives.collect f claim k d _ _ ground e' f' a s low) c e = let no : ⊥ = cc in absurd no

pub at_most_one : (IsWorth : Value → Type 0) (v most : Value) → AtMost IsWorth v → ((w : Value) → IsWorth w → w ≡ most) → Below v most
at_most_one IsWorth v most (inl none) only = subst (λ (x : Value). Below x most) (sym none) (below.bottom most)
at_most_one IsWorth v most (inr found) only = subst (λ (x : Value). Below v x) (only found.0 found.1) found.2

-- a head has at most that value
pub made_is_most : (program : Code) (claims : List Claim) (assigned : Assignment) (k : Kind) (args : List ℕ) (v most : Value)
    → MayHave NoValue program claims assigned k args v → made k (values_at assigned args) ≡ Some most → Below v most
made_is_most program claims assigned (kind.Cons c) args v most may is =
    let same : value.Constructed c (values_at assigned args) ≡ most = cc in
    at_most_one _ v most may (λ w given. constructed_is (program_of program) claims (head.Con c) (values_at assigned args) w given c refl ∙ same)
made_is_most program claims assigned (kind.Lit l) args v most may is =
    let same : value.Literal l ≡ most = cc in at_most_one _ v most may (λ w given. given ∙ same)
made_is_most program claims assigned (kind.Part h) args v most may is =
    let same : value.Partial h (values_at assigned args) ≡ most = cc in at_most_one _ v most may (λ w given. given ∙ same)
made_is_most program claims assigned _ args v most may is = let no : ⊥ = cc in absurd no

-- and may have it
pub made_may : (program : Code) (claims : List Claim) (assigned : Assignment) (k : Kind) (args : List ℕ) (most : Value)
    → made k (values_at assigned args) ≡ Some most → MayHave NoValue program claims assigned k args most
made_may program claims assigned (kind.Cons c) args most is =
    let us = values_at assigned args in
    let same : value.Constructed c us ≡ most = cc in
    inr (most, subst (λ (x : Value). Applied (program_of program) claims (head.Con c) us x) same (gives.constructed c us), below_itself most)
made_may program claims assigned (kind.Lit l) args most is = let same : value.Literal l ≡ most = cc in inr (most, sym same, below_itself most)
made_may program claims assigned (kind.Part h) args most is =
    let same : value.Partial h (values_at assigned args) ≡ most = cc in inr (most, sym same, below_itself most)
made_may program claims assigned _ args most is = let no : ⊥ = cc in absurd no

-- ---- values of the program

pub count_at : (assigned : Assignment) (args : List ℕ) → count (values_at assigned args) ≡ length args
count_at assigned [] = refl
count_at assigned (arg ∷ args) = ap (λ n. n + 1) (count_at assigned args) ∙ omega arith

pub all_of : (program : Program) (assigned : Assignment) (args : List ℕ) → ((id : ℕ) → IsTrue (is_of program (assigned id))) → IsTrue (are_of program (values_at assigned args))
all_of program assigned [] all = refl
all_of program assigned (arg ∷ args) all =
    and_from (is_of program (assigned arg)) (are_of program (values_at assigned args)) (all arg) (all_of program assigned args all)

pub allowed_kept : (program : Code) (h : Head) → shape.is_allowed (program_of program) h ≡ is_allowed program h
allowed_kept program (head.Fun f) = refl
allowed_kept program (head.Con c) = refl
allowed_kept program (head.Set f) = refl

pub made_of : (program : Code) (assigned : Assignment) (k : Kind) (args : List ℕ) (most : Value) → ((id : ℕ) → IsTrue (is_of (program_of program) (assigned id)))
    → has_arguments program k (length args) ≡ true → made k (values_at assigned args) ≡ Some most → IsTrue (is_of (program_of program) most)
made_of program assigned (kind.Cons c) args most all fit is =
    let flat = program_of program in
    let us = values_at assigned args in
    let same : value.Constructed c us ≡ most = cc in
    let whole : takes (arity_in flat (head.Con c)) (count us) ≡ true = ap₂ takes (arity_kept program (head.Con c)) (count_at assigned args) ∙ fit in
    subst (λ (x : Value). IsTrue (is_of flat x)) same
    (and_from (takes (arity_in flat (head.Con c)) (count us)) (are_of flat us) whole (all_of flat assigned args all))
made_of program assigned (kind.Lit l) args most all fit is =
    let same : value.Literal l ≡ most = cc in
    subst (λ (x : Value). IsTrue (is_of (program_of program) x)) same (and_parts (is_literal l) (nat_eq (length args) 0) fit).0
made_of program assigned (kind.Part h) args most all fit is =
    let flat = program_of program in
    let us = values_at assigned args in
    let same : value.Partial h us ≡ most = cc in
    let parts = and_parts (is_allowed program h) (takes_more (arity_of program h) (length args)) fit in
    let allowed : shape.is_allowed flat h ≡ true = allowed_kept program h ∙ parts.0 in
    let fewer : takes_more (arity_in flat h) (count us) ≡ true = ap₂ takes_more (arity_kept program h) (count_at assigned args) ∙ parts.1 in
    subst (λ (x : Value). IsTrue (is_of flat x)) same
    (and_from (shape.is_allowed flat h && takes_more (arity_in flat h) (count us)) (are_of flat us)
    (and_from (shape.is_allowed flat h) (takes_more (arity_in flat h) (count us)) allowed fewer) (all_of flat assigned args all))
made_of program assigned _ args most all fit is = let no : ⊥ = cc in absurd no

-- ---- raising to the head's value

pub made_not_stuck : (k : Kind) (us : Values) (most : Value) → made k us ≡ Some most → is_stuck k ≡ false
made_not_stuck kind.Stuck us most is = let no : ⊥ = cc in absurd no
made_not_stuck _ us most is = refl

-- a node whose head is there, raised to the whole value of the head
pub raised_head : (apart : ℕ → Bool) (program : Code) (claims : List Claim) (graph : Graph) (assigned : Assignment)
    → ((x : ℕ) → apart x ≡ true → is_ind (node_at graph x).kind ≡ false) → NodesFit program graph → GoodApart apart program claims graph assigned
    → (id : ℕ) (k : Kind) (args : List ℕ) (most : Value) → head_at graph id ≡ node k args → apart (head_of graph id) ≡ false
    → made k (values_at assigned args) ≡ Some most → Raised apart program claims graph assigned id (head_of graph id) most
raised_head apart program claims graph assigned inds fit good id k args most is among made_is =
    let place = head_of graph id in
    let here : place < length graph = there_unless_stuck graph place k args is (made_not_stuck k (values_at assigned args) most made_is) in
    let as_node : (v : Value) → MayHave NoValue program claims assigned (node_at graph place).kind (node_at graph place).args v → MayHave NoValue program claims assigned k args v =
    λ v may. subst (λ (n : Node). MayHave NoValue program claims assigned n.kind n.args v) is may in
    let allowed : MayHave NoValue program claims assigned (node_at graph place).kind (node_at graph place).args most =
    subst (λ (n : Node). MayHave NoValue program claims assigned n.kind n.args most) (sym is) (made_may program claims assigned k args most made_is) in
    let whole : has_arguments program k (length args) ≡ true = subst (λ (n : Node). has_arguments program n.kind (length n.args) ≡ true) is (fit place here) in
    raised_to apart program claims graph assigned inds id most good
    (made_is_most program claims assigned k args (assigned place) most (as_node (assigned place) (good.each place here among)) made_is)
    (made_of program assigned k args most good.of_program whole made_is) (λ apart_from. allowed)
