-- A call is worth what the body is that is written over it.
use Rattle.std.proofs.Common.{◌≡◌, ℕ, ◌<◌, true, ◌&&◌, List, [], ◌∷◌, Option, None, Some, refl, ap, sym, ◌∙◌, subst, length, map, zip, nat_eq, eqb-true, slice_get, inr}
use Rattle.std.proofs.lemmas.Bool.{and_parts}
use Rattle.std.proofs.lemmas.List.{length-map}
use Rattle.cu_calculus.specs.declared.ExprId.{ExprId}
use Rattle.cu_calculus.specs.declared.FunId.{FunId}
use Rattle.cu_calculus.specs.declared.Head.TheVariants as head
use Rattle.cu_calculus.specs.Code as code
use Rattle.cu_calculus.specs.Code.{Code, arity_of, body_of, function_arity}
use Rattle.cu_calculus.specs.FlatProgram.{all_any, body_in, function_in, program_of, term_of}
use Rattle.cu_calculus.specs.Gives as gives
use Rattle.cu_calculus.specs.Gives.{Applied, Claim, Gives}
use Rattle.cu_calculus.specs.Match.{bind_all, empty}
use Rattle.cu_calculus.specs.Program.{Rule, function_of}
use Rattle.cu_calculus.specs.Shape.{takes}
use Rattle.cu_calculus.specs.Valid.{is_arity, is_linear}
use Rattle.cu_calculus.specs.WellFormed.{fits, fits_body, fits_function, is_well_formed}
use Rattle.cu_calculus.proofs.BelowLaws.{below_itself}
use Rattle.cu_calculus.proofs.FlatFitting.{function_there}
use Rattle.cu_calculus.proofs.Weaken.{weaken}
use Rattle.cu_machine.specs.declared.Kind.TheVariants as kind
use Rattle.cu_machine.specs.Build.{build, instead, write}
use Rattle.cu_machine.specs.Graph.{Graph, Node, node_at}
use Rattle.cu_machine.specs.Steps.{node}
use Rattle.cu_machine.specs.Validity.{NodesFit, has_arguments, is_call}
use Rattle.cu_machine.proofs.Building.{all_get, functions_fit}
use Rattle.cu_laws.specs.Good.{Assignment, Good, env_in}
use Rattle.cu_laws.proofs.Built.{body_there, written_worth}
use Rattle.cu_laws.proofs.Changed.{Sound, apart_before, changed_by_writing, sound_as}
use Rattle.cu_laws.proofs.Heads.{values_at}
use Rattle.cu_laws.proofs.Raising.{rises_itself, there_unless_stuck}
use Rattle.cu_laws.proofs.Scopes.{any_match, env_of_zip}

-- a function's rule, as it fits
pub record RuleFits (program : Code) (f : FunId) (params : List ℕ) (body : ExprId) : Type 0 where
  pub function : code.Function
  pub at : slice_get program.functions f.0 ≡ Some function
  pub body_is : function.body ≡ code.Rule params body
  pub as_many : length params ≡ function.arity
  pub linear : is_linear params ≡ true
  pub body_fits : fits (length program.expressions) program params body ≡ true

pub rule_fits : (program : Code) (f : FunId) (params : List ℕ) (body : ExprId) → is_well_formed program ≡ true → body_of program f ≡ Some (code.Rule params body)
    → RuleFits program f params body
rule_fits program f params body well is =
    let found = body_there program f (code.Rule params body) is in
    let fit = all_get (fits_function program) program.functions f.0 found.0 (functions_fit program well) found.1 in
    let of_body : fits_body program found.0.arity (code.Rule params body) ≡ true =
    subst (λ (b : code.Body). fits_body program found.0.arity b ≡ true) found.2 (and_parts (is_arity found.0.arity) (fits_body program found.0.arity found.0.body) fit).1 in
    let count = nat_eq (length params) found.0.arity in
    let parts = and_parts (count && is_linear params) (fits (length program.expressions) program params body) of_body in
    let prefix = and_parts count (is_linear params) parts.0 in
    record {
      function = found.0;
      at = found.1;
      body_is = found.2;
      as_many = eqb-true (length params) found.0.arity prefix.0;
      linear = prefix.1;
      body_fits = parts.1;
    }

-- a call in a graph has as many arguments as its function has parameters
pub call_arguments : (program : Code) (f : FunId) (params : List ℕ) (body : ExprId) (n : ℕ) → RuleFits program f params body
    → has_arguments program (kind.Call f) n ≡ true → length params ≡ n
call_arguments program f params body n rule fit = rule.as_many ∙ eqb-true rule.function.arity n (as_function ∙ takes_of (body_of program f) fit)
  where
    takes_of : (o : Option code.Body) → is_call (arity_of program (head.Fun f)) o n ≡ true → takes (arity_of program (head.Fun f)) n ≡ true
    takes_of None h = let no : ⊥ = cc in absurd no
    takes_of (Some (code.Rule xs e)) h = h
    takes_of (Some (code.External operation)) h = let no : ⊥ = cc in absurd no

    as_function : nat_eq rule.function.arity n ≡ takes (arity_of program (head.Fun f)) n
    as_function = sym (ap (λ (o : Option code.Function). takes (elim o [ Some function ↦ Some function.arity | None ↦ None ]) n) rule.at)

pub call_sound : (program : Code) (claims : List Claim) (graph after : Graph) (id : ℕ) (f : FunId) (args params : List ℕ) (body : ExprId) (later : Assignment)
    → is_well_formed program ≡ true → NodesFit program graph → node_at graph id ≡ node (kind.Call f) args → body_of program f ≡ Some (code.Rule params body)
    → after ≡ write program (zip params args) graph id body → Good program claims after later → Sound program claims graph later
call_sound program claims graph after id f args params body later well fit is body_is after_is good =
    let flat = program_of program in
    let here : id < length graph = there_unless_stuck graph id (kind.Call f) args is refl in
    let rule = rule_fits program f params body well body_is in
    let whole : has_arguments program (kind.Call f) (length args) ≡ true = subst (λ (n : Node). has_arguments program n.kind (length n.args) ≡ true) is (fit id here) in
    let as_many : length params ≡ length (map later args) = call_arguments program f params body (length args) rule whole ∙ sym (length-map args later) in
    let bindings = zip params (map later args) in
    let given : Gives flat claims (env_in later (zip params args)) (term_of program body) (later id) =
    written_worth program claims graph id (zip params args) params body later here rule.body_fits (subst (λ (g : Graph). Good program claims g later) after_is good) in
    let inner : Gives flat claims (bind_all empty bindings) (term_of program body) (later id) =
    weaken flat claims (env_in later (zip params args)) (bind_all empty bindings) (term_of program body) (later id) (later id) given
    (env_of_zip later params args rule.linear) (below_itself (later id)) in
    let there : function_of flat f ≡ Some (function_in program rule.function) =
    function_there program f ∙ ap (λ (o : Option code.Function). elim o [ Some function ↦ Some (function_in program function) | None ↦ None ]) rule.at in
    let only : Rule = record { params = all_any params; body = term_of program body } in
    let app : Applied flat claims (head.Fun f) (values_at later args) (later id) =
    gives.by_rule f (function_in program rule.function) (only ∷ []) 0 only bindings (values_at later args) (later id) there (ap (body_in program) rule.body_is) refl
    (any_match params (map later args) as_many) inner in
    sound_as program claims graph id (kind.Call f) args later later is
    (apart_before program claims graph id after (instead (build program (zip params args) (length graph) body).top) later
    (changed_by_writing graph id after (build program (zip params args) (length graph) body) here after_is) good)
    (rises_itself later) (inr (later id, app, below_itself (later id)))
