-- True and False, as values and as nodes.
use Rattle.std.proofs.Common.{◌≡◌, ℕ, ◌<◌, Bool, true, false, List, [], ◌∷◌, Some, refl, ap, sym, ◌∙◌, subst, length, nat_eq, eqb-true, arith, true≢false}
use Rattle.cu_calculus.specs.declared.ConId.{ConId}
use Rattle.cu_calculus.specs.declared.Head.TheVariants as head
use Rattle.cu_calculus.specs.Below.{Below}
use Rattle.cu_calculus.specs.Builtin.{truth_of}
use Rattle.cu_calculus.specs.Code.{Code, arity_of}
use Rattle.cu_calculus.specs.FlatProgram.{program_of}
use Rattle.cu_calculus.specs.Gives.{Claim}
use Rattle.cu_calculus.specs.Program.{Program}
use Rattle.cu_calculus.specs.Shape.{takes}
use Rattle.cu_calculus.specs.Valid.{HasSpecial}
use Rattle.cu_calculus.specs.Value as value
use Rattle.cu_calculus.specs.Value.{Value}
use Rattle.cu_calculus.specs.WellFormed.{is_well_formed}
use Rattle.cu_calculus.proofs.BelowLaws.{only_bottom}
use Rattle.cu_calculus.proofs.Comparing.{same_is}
use Rattle.cu_calculus.proofs.FlatFitting.{arity_kept}
use Rattle.cu_calculus.proofs.FlatValid.{program_valid}
use Rattle.cu_machine.specs.declared.Kind.{Kind}
use Rattle.cu_machine.specs.declared.Kind.TheVariants as kind
use Rattle.cu_machine.specs.Graph.{Graph, head_at, head_of, put}
use Rattle.cu_machine.specs.Rewrite.{is_true}
use Rattle.cu_machine.specs.Steps.{node, telling}
use Rattle.cu_machine.specs.Validity.{NodesFit, has_arguments}
use Rattle.cu_laws.specs.Good.{Assignment, Good}
use Rattle.cu_laws.proofs.Changed.{changed_by_put, new_may}
use Rattle.cu_laws.proofs.Heads.{made_is_most}
use Rattle.cu_laws.proofs.LiteralRows.{truth_is_node, truth_kind, truth_made}
use Rattle.cu_laws.proofs.Raising.{there_unless_stuck}
use Rattle.cu_laws.proofs.Rising.{total_above, truth_total}

pub special_of : (program : Code) → is_well_formed program ≡ true → HasSpecial (program_of program)
special_of program well = (program_valid program well).special

-- what tells an answer is worth at most that
pub telling_low : (program : Code) (claims : List Claim) (graph after : Graph) (id : ℕ) (answer : Bool) (later : Assignment) → id < length graph
    → after ≡ telling program graph id answer → Good program claims after later → Below (later id) (truth_of (program_of program) answer)
telling_low program claims graph after id answer later here after_is good =
    let new = node (truth_kind program answer) [] in
    let is : after ≡ put graph id new = after_is ∙ ap (put graph id) (truth_is_node program answer) in
    made_is_most program claims later (truth_kind program answer) [] (later id) (truth_of (program_of program) answer)
    (new_may program claims graph id after new later (changed_by_put graph id after new here is) good) (truth_made program answer)

-- True and False are two
truths_differ : (program : Program) → HasSpecial program → program.special.falsity ≡ program.special.truth → ⊥
truths_differ program special same =
    let places : program.special.falsity.0 ≡ program.special.truth.0 = ap (λ (c : ConId). c.0) same in
    let less = special.ordered in
    omega arith

pub truth_is : (program : Program) → HasSpecial program → (a b : Bool) → truth_of program a ≡ truth_of program b → a ≡ b
truth_is program special true true same = refl
truth_is program special false false same = refl
truth_is program special true false same =
    let constructors : program.special.truth ≡ program.special.falsity = cc in absurd (truths_differ program special (sym constructors))
truth_is program special false true same =
    let constructors : program.special.falsity ≡ program.special.truth = cc in absurd (truths_differ program special constructors)

-- an answer that is at most another is that one
pub truth_below : (program : Program) → HasSpecial program → (a b : Bool) (v : Value) → v ≡ truth_of program a → Below v (truth_of program b) → a ≡ b
truth_below program special a b v is low =
    let under : Below (truth_of program a) (truth_of program b) = subst (λ (x : Value). Below x (truth_of program b)) is low in
    truth_is program special a b (total_above (truth_of program a) (truth_of program b) under (truth_total program a))

pub no_truth : (program : Program) (b : Bool) → value.Bottom ≡ truth_of program b → ⊥
no_truth program true same = cc
no_truth program false same = cc

pub under_bottom : (v : Value) → Below v value.Bottom → v ≡ value.Bottom
under_bottom v low = sym (only_bottom v value.Bottom low refl)

-- a head that is True
true_kind : (program : Code) (k : Kind) → is_true program.special k ≡ true → k ≡ kind.Cons program.special.truth
true_kind program (kind.Cons c) is = ap kind.Cons (same_is c program.special.truth is)
true_kind program _ is = absurd (true≢false (sym is))

no_arguments : (args : List ℕ) → nat_eq 0 (length args) ≡ true → args ≡ []
no_arguments [] is = refl
no_arguments (arg ∷ args) is = let none : 0 ≡ length (arg ∷ args) = eqb-true 0 (length (arg ∷ args)) is in let no : ⊥ = omega arith in absurd no

pub true_head : (program : Code) (graph : Graph) (id : ℕ) → is_well_formed program ≡ true → NodesFit program graph → is_true program.special (head_at graph id).kind ≡ true
    → head_at graph id ≡ node (kind.Cons program.special.truth) []
true_head program graph id well fit is =
    let place = head_of graph id in
    let kind_is : (head_at graph id).kind ≡ kind.Cons program.special.truth = true_kind program (head_at graph id).kind is in
    let head_is : head_at graph id ≡ node (kind.Cons program.special.truth) (head_at graph id).args = ap (λ (k : Kind). node k (head_at graph id).args) kind_is in
    let here : place < length graph = there_unless_stuck graph place (kind.Cons program.special.truth) (head_at graph id).args head_is refl in
    let whole : has_arguments program (kind.Cons program.special.truth) (length (head_at graph id).args) ≡ true =
    subst (λ (k : Kind). has_arguments program k (length (head_at graph id).args) ≡ true) kind_is (fit place here) in
    let arity : arity_of program (head.Con program.special.truth) ≡ Some 0 =
    sym (arity_kept program (head.Con program.special.truth)) ∙ (special_of program well).truth in
    let none : (head_at graph id).args ≡ [] = no_arguments (head_at graph id).args (sym (ap (λ o. takes o (length (head_at graph id).args)) arity) ∙ whole) in
    head_is ∙ ap (node (kind.Cons program.special.truth)) none
