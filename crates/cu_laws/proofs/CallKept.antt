-- What a call has, its function's body gives; and what a choice has, one of its arguments has.
use Rattle.std.proofs.Common.{◌≡◌, ℕ, ◌<◌, inl, inr, true, List, [], ◌∷◌, Option, None, Some, IsTrue, refl, ap, sym, ◌∙◌, subst, length, map, zip}
use Rattle.std.specs.List.{list_all}
use Rattle.std.proofs.lemmas.List.{length-map}
use Rattle.cu_calculus.specs.declared.ExprId.{ExprId}
use Rattle.cu_calculus.specs.declared.FunId.{FunId}
use Rattle.cu_calculus.specs.declared.Head.TheVariants as head
use Rattle.cu_calculus.specs.Below.{Below}
use Rattle.cu_calculus.specs.Code as code
use Rattle.cu_calculus.specs.Code.{Code, body_of}
use Rattle.cu_calculus.specs.FlatProgram.{all_any, body_in, function_in, program_of, term_of}
use Rattle.cu_calculus.specs.Gives.{Claim, Gives}
use Rattle.cu_calculus.specs.Match.{Bindings, all_matched, bind_all, empty}
use Rattle.cu_calculus.specs.Program.{Rule, function_of}
use Rattle.cu_calculus.specs.Proof.{is_claim_of}
use Rattle.cu_calculus.specs.Value.{Value}
use Rattle.cu_calculus.specs.WellFormed.{fits, is_well_formed}
use Rattle.cu_calculus.proofs.FlatFitting.{function_there}
use Rattle.cu_calculus.proofs.Weaken.{weaken}
use Rattle.cu_machine.specs.declared.Kind.TheVariants as kind
use Rattle.cu_machine.specs.Build.{Scope, build, instead, write}
use Rattle.cu_machine.specs.Graph.{Graph, Node, node_at, put, renaming}
use Rattle.cu_machine.specs.Steps as row
use Rattle.cu_machine.specs.Steps.{Steps, node}
use Rattle.cu_machine.specs.Validity.{NodesFit, has_arguments}
use Rattle.cu_machine.proofs.RowMoves.{some_is}
use Rattle.cu_laws.specs.Continues.{NothingPast}
use Rattle.cu_laws.specs.Extends.{Extends}
use Rattle.cu_laws.specs.Good.{Assignment, Loose, Worth, env_in}
use Rattle.cu_laws.proofs.CallRow.{call_arguments, rule_fits}
use Rattle.cu_laws.proofs.Changed.{changed_by_writing}
use Rattle.cu_laws.proofs.Continuing.{Kept, continues_by, kept_by_put}
use Rattle.cu_laws.proofs.LooseNodes.{loose_at}
use Rattle.cu_laws.proofs.Extended.{written_has}
use Rattle.cu_laws.proofs.Heads.{values_at}
use Rattle.cu_laws.proofs.Inversion.{function_gives, one_rule}
use Rattle.cu_laws.proofs.Known.{is_known, worth_of}
use Rattle.cu_laws.proofs.Raising.{there_unless_stuck}
use Rattle.cu_laws.proofs.Scopes.{any_match, both_of_env}

-- a derivation of what the node has is one of what is written over it
pub kept_by_writing : (program : Code) (claims : List Claim) (graph after : Graph) (id : ℕ) (scope : Scope) (variables : List ℕ) (e : ExprId) (assigned : Assignment)
    → is_well_formed program ≡ true → IsTrue (list_all (is_claim_of (program_of program)) claims) → id < length graph
    → fits (length program.expressions) program variables e ≡ true → Loose program claims graph assigned → NothingPast graph assigned
    → after ≡ write program scope graph id e → Gives (program_of program) claims (env_in assigned scope) (term_of program e) (assigned id)
    → Kept program claims graph after assigned
kept_by_writing program claims graph after id scope variables e assigned well claimed here fit loose past after_is given =
    let built = build program scope (length graph) e in
    let found = written_has program claims graph id scope variables e assigned well claimed here fit loose.of_program past given in (
      found.0,
      continues_by program claims graph after id (instead built.top) assigned found.0 (changed_by_writing graph id after built here after_is) loose past
          (subst (λ (g : Graph). Extends program claims graph id g assigned found.0) (sym after_is) found.1),
    )

pub call_kept : (program : Code) (claims : List Claim) (graph after : Graph) (id : ℕ) (f : FunId) (args params : List ℕ) (body : ExprId) (assigned : Assignment)
    → is_well_formed program ≡ true → IsTrue (list_all (is_claim_of (program_of program)) claims) → NodesFit program graph → Loose program claims graph assigned
    → NothingPast graph assigned → is_known (assigned id) ≡ true → node_at graph id ≡ node (kind.Call f) args → body_of program f ≡ Some (code.Rule params body)
    → after ≡ write program (zip params args) graph id body → Kept program claims graph after assigned
call_kept program claims graph after id f args params body assigned well claimed fit loose past known is body_is after_is =
    let flat = program_of program in
    let here : id < length graph = there_unless_stuck graph id (kind.Call f) args is refl in
    let rule = rule_fits program f params body well body_is in
    let whole : has_arguments program (kind.Call f) (length args) ≡ true = subst (λ (n : Node). has_arguments program n.kind (length n.args) ≡ true) is (fit id here) in
    let as_many : length params ≡ length (map assigned args) = call_arguments program f params body (length args) rule whole ∙ sym (length-map args assigned) in
    let us = values_at assigned args in
    let found = worth_of (Worth program claims (kind.Call f) (map assigned args)) (assigned id) known
    (loose_at program claims graph assigned id (kind.Call f) args loose is refl) in
    let there : function_of flat f ≡ Some (function_in program rule.function) =
    function_there program f ∙ ap (λ (o : Option code.Function). elim o [ Some function ↦ Some (function_in program function) | None ↦ None ]) rule.at in
    let only : Rule = record { params = all_any params; body = term_of program body } in
    let by = function_gives flat claims (head.Fun f) us found.0 found.1 f (function_in program rule.function) (only ∷ []) refl there (ap (body_in program) rule.body_is) in
    let rule_is : by.rule ≡ only = one_rule only by.place by.rule by.at in
    let matches : all_matched (all_any params) us ≡ Some by.bindings = subst (λ (r : Rule). all_matched r.params us ≡ Some by.bindings) rule_is by.matches in
    let bindings = zip params (map assigned args) in
    let bound : bindings ≡ by.bindings = some_is bindings by.bindings (sym (any_match params (map assigned args) as_many) ∙ matches) in
    let inner : Gives flat claims (bind_all empty by.bindings) (term_of program body) found.0 =
    subst (λ (r : Rule). Gives flat claims (bind_all empty by.bindings) r.body found.0) rule_is by.gives in
    let low : Gives flat claims (bind_all empty bindings) (term_of program body) found.0 =
    subst (λ (b : Bindings). Gives flat claims (bind_all empty b) (term_of program body) found.0) (sym bound) inner in
    let given : Gives flat claims (env_in assigned (zip params args)) (term_of program body) (assigned id) =
    weaken flat claims (bind_all empty bindings) (env_in assigned (zip params args)) (term_of program body) found.0 (assigned id) low
    (both_of_env assigned [] params args rule.linear) found.2 in
    kept_by_writing program claims graph after id (zip params args) params body assigned well claimed here rule.body_fits loose past after_is given

-- ---- choices

-- a row that keeps every value
pub record SomeRow (program : Code) (claims : List Claim) (graph : Graph) (id : ℕ) (assigned : Assignment) : Type 0 where
  pub after : Graph
  pub step : Steps program graph id after
  pub kept : Kept program claims graph after assigned

pub choice_kept : (program : Code) (claims : List Claim) (graph : Graph) (id one two : ℕ) (assigned : Assignment) → Loose program claims graph assigned
    → NothingPast graph assigned → is_known (assigned id) ≡ true → node_at graph id ≡ node kind.Or (one ∷ two ∷ []) → SomeRow program claims graph id assigned
choice_kept program claims graph id one two assigned loose past known is =
    let here : id < length graph = there_unless_stuck graph id kind.Or (one ∷ two ∷ []) is refl in
    let found = worth_of (Worth program claims kind.Or (assigned one ∷ assigned two ∷ [])) (assigned id) known
    (loose_at program claims graph assigned id kind.Or (one ∷ two ∷ []) loose is refl) in
    elim found.1 [
      | inl same ↦ record {
        after = put graph id (renaming one);
        step = row.left one two is refl;
        kept = kept_by_put program claims graph (put graph id (renaming one)) id (renaming one) assigned here refl loose past
            (subst (λ (v : Value). Below (assigned id) v) same found.2);
      }
      | inr same ↦ record {
        after = put graph id (renaming two);
        step = row.right one two is refl;
        kept = kept_by_put program claims graph (put graph id (renaming two)) id (renaming two) assigned here refl loose past
            (subst (λ (v : Value). Below (assigned id) v) same found.2);
      }
    ]
