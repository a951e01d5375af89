-- Equations are worth True where both sides are one value and total data: the rows that bind no
-- variable.
use Rattle.std.proofs.Common.{◌≡◌, ◌≢◌, ℕ, ◌<◌, inl, inr, true, List, [], ◌∷◌, refl, ap, ap₂, sym, ◌∙◌, subst, length, zip, arith}
use Rattle.std.proofs.lemmas.Bool.{and_from}
use Rattle.cu_calculus.specs.declared.ConId.{ConId}
use Rattle.cu_calculus.specs.declared.Lit.{Lit}
use Rattle.cu_calculus.specs.declared.builtin.Primitive.TheVariants as prim
use Rattle.cu_calculus.specs.Builtin as builtin
use Rattle.cu_calculus.specs.Builtin.{Answers, truth_of}
use Rattle.cu_calculus.specs.Code.{Code}
use Rattle.cu_calculus.specs.FlatProgram.{program_of}
use Rattle.cu_calculus.specs.Gives.{Claim}
use Rattle.cu_calculus.specs.Literal.{same_literal}
use Rattle.cu_calculus.specs.Match.{same_constructor}
use Rattle.cu_calculus.specs.Program.{Program}
use Rattle.cu_calculus.specs.Shape.{are_data, are_total, is_total_data}
use Rattle.cu_calculus.specs.Value as value
use Rattle.cu_calculus.specs.Value.{Value, Values}
use Rattle.cu_calculus.proofs.Answering.{literal_is}
use Rattle.cu_calculus.proofs.Comparing.{same_is}
use Rattle.cu_machine.specs.declared.Kind.TheVariants as kind
use Rattle.cu_machine.specs.Graph.{Graph, Node, head_at, head_of, node_at, put}
use Rattle.cu_machine.specs.Rewrite.{alone_follows, decomposition_step}
use Rattle.cu_machine.specs.Steps.{node, telling}
use Rattle.cu_machine.specs.Validity.{NodesFit}
use Rattle.cu_laws.specs.Good.{Assignment, AtMost, Good, MayHave, NoValue}
use Rattle.cu_laws.proofs.Changed.{Sound, apart_before, changed_by_put}
use Rattle.cu_laws.proofs.EquationPairs.{AllEquate, OneEquates, equations_say}
use Rattle.cu_laws.proofs.Heads.{values_at}
use Rattle.cu_laws.proofs.LiteralRows.{truth_is_node, truth_kind}
use Rattle.cu_laws.proofs.PairRows.{as_many_arguments, pair_sound, pair_told, two}
use Rattle.cu_laws.proofs.Pairs.{pairs_after}
use Rattle.cu_laws.proofs.Raising.{rises_itself, there_unless_stuck}
use Rattle.cu_laws.proofs.Sides.{free_can_rise, sides_sound}
use Rattle.cu_laws.proofs.Truth.{telling_low}

-- the equation of a value with itself
pub itself_unified : (program : Program) (u v : Value) → u ≡ v → is_total_data u ≡ true → Answers program prim.Unify (two u v) (truth_of program true)
itself_unified program u v same total = builtin.unified u v (truth_of program true) same total refl

pub same_variable_sound : (program : Code) (claims : List Claim) (graph after : Graph) (id a b : ℕ) (us vs : List ℕ) (later : Assignment)
    → node_at graph id ≡ node (kind.Prim prim.Unify) (a ∷ b ∷ []) → head_at graph a ≡ node kind.Free us → head_at graph b ≡ node kind.Free vs
    → head_of graph a ≡ head_of graph b → after ≡ telling program graph id true → Good program claims after later → Sound program claims graph later
same_variable_sound program claims graph after id a b us vs later is head_a head_b same after_is good =
    let P = program_of program in
    let here = there_unless_stuck graph id (kind.Prim prim.Unify) (a ∷ b ∷ []) is refl in
    let x = head_of graph a in
    let there : x < length graph = there_unless_stuck graph x kind.Free us head_a refl in
    let new = node (truth_kind program true) [] in
    let changed = changed_by_put graph id after new here (after_is ∙ ap (put graph id) (truth_is_node program true)) in
    let apart = apart_before program claims graph id after new later changed good in
    let longer = changed.longer in
    let other : x ≢ id = λ e. free_is_no_operation (ap (λ (y : ℕ). node_at graph y) e) head_a is in
    let total : is_total_data (later x) ≡ true =
    subst (λ (n : Node). MayHave NoValue program claims later n.kind n.args (later x)) (changed.same x there other ∙ head_a) (good.each x (omega arith)) in
    sides_sound program claims graph id prim.Unify a b (later x) (later (head_of graph b)) later later is apart (rises_itself later)
    (free_can_rise program claims graph id later prim.Unify (a ∷ b ∷ []) is a us head_a) (free_can_rise program claims graph id later prim.Unify (a ∷ b ∷ []) is b vs head_b)
    (inr (truth_of P true, itself_unified P (later x) (later (head_of graph b)) (ap later same) total, telling_low program claims graph after id true later here after_is good))
  where
    free_is_no_operation : {n m : Node} → n ≡ m → n ≡ node kind.Free us → m ≡ node (kind.Prim prim.Unify) (a ∷ b ∷ []) → ⊥
    free_is_no_operation e f g = let no : kind.Free ≡ kind.Prim prim.Unify = ap (λ (n : Node). n.kind) (sym f ∙ e ∙ g) in cc

pub equal_literals_sound : (program : Code) (claims : List Claim) (graph after : Graph) (id a b : ℕ) (l m : Lit) (us vs : List ℕ) (later : Assignment)
    → NodesFit program graph → node_at graph id ≡ node (kind.Prim prim.Unify) (a ∷ b ∷ []) → head_at graph a ≡ node (kind.Lit l) us → head_at graph b ≡ node (kind.Lit m) vs
    → same_literal l m ≡ true → after ≡ telling program graph id true → Good program claims after later → Sound program claims graph later
equal_literals_sound program claims graph after id a b l m us vs later fit is head_a head_b same after_is good =
    pair_told program claims graph after id prim.Unify a b (kind.Lit l) (kind.Lit m) us vs (value.Literal l) (value.Literal m) true later fit is head_a head_b refl refl
    after_is good (itself_unified (program_of program) (value.Literal l) (value.Literal m) (ap value.Literal (literal_is l m same)) refl)

-- what stands in the place of the equation of two constructors
pub equated : (program : Program) (c d : ConId) (us vs : Values) (v : Value) → c ≡ d → AllEquate program us vs v
    → AtMost (Answers program prim.Unify (two (value.Constructed c us) (value.Constructed d vs))) v
equated program c d us vs v same (inl none) = inl none
equated program c d us vs v same (inr told) = inr (
  truth_of program true,
  itself_unified program (value.Constructed c us) (value.Constructed d vs) (ap₂ value.Constructed same told.0) (and_from (are_total us) (are_data us) told.1 told.2),
  told.3,
)

pub decomposition_sound : (program : Code) (claims : List Claim) (graph after : Graph) (id a b : ℕ) (c d : ConId) (us vs : List ℕ) (later : Assignment)
    → NodesFit program graph → node_at graph id ≡ node (kind.Prim prim.Unify) (a ∷ b ∷ []) → head_at graph a ≡ node (kind.Cons c) us → head_at graph b ≡ node (kind.Cons d) vs
    → same_constructor c d ≡ true → decomposition_step program.special graph id (zip us vs) ≡ alone_follows after → Good program claims after later
    → Sound program claims graph later
decomposition_sound program claims graph after id a b c d us vs later fit is head_a head_b alike after_is good =
    let P = program_of program in
    let same : c ≡ d = same_is c d alike in
    let here = there_unless_stuck graph id (kind.Prim prim.Unify) (a ∷ b ∷ []) is refl in
    let found = pairs_after program claims graph after id (kind.Prim prim.Unify) (kind.Prim prim.And) (OneEquates P) (AllEquate P) us vs later here
    (equations_say program claims later) (as_many_arguments program graph a b c d us vs fit head_a head_b same) after_is good in
    pair_sound program claims graph after found.new id prim.Unify a b (kind.Cons c) (kind.Cons d) us vs (value.Constructed c (values_at later us))
    (value.Constructed d (values_at later vs)) later fit is head_a head_b refl refl found.changed good
    (equated P c d (values_at later us) (values_at later vs) (later id) same found.say)
