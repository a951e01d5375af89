use Rattle.std.proofs.Common.{◌≡◌, IfErr, IfOk, Result, Some, subst, sym}
use Rattle.cu_modules.specs.declared.scopes.Scopes.{Scopes}
use Rattle.cu_modules.specs.Ordering.{modules_of}
use Rattle.cu_modules.specs.ScopeAnswers.{AreScopes}
use Rattle.cu_names.proofs.Growth.{known_at, text_of-at}
use Rattle.cu_names.specs.Texts.{text_of}
use Rattle.cu_syntax.specs.Answer.{goal_meaning}
use Rattle.cu_translation.specs.ModuleNames.{id_of}
use Rattle.cu_translation.specs.Functions.{goal_name}
use Rattle.cu_front.specs.declared.fault.StageFault.{StageFault}
use Rattle.cu_front.specs.declared.outcome.Outcome.{Outcome}
use Rattle.cu_front.specs.Inside.Stages.{IsWhole}
use Rattle.cu_front.specs.Refusal.{Refusal}
use Rattle.cu_front.specs.Inside.StageFaults.{Tells}
use Rattle.cu_front.specs.Translated.{translation_refusal}
use Rattle.cu_front.proofs.ModuleLemmas.{kept_tells}
use Rattle.cu_front.proofs.StageLemmas.{IsRightGoal, IsWrongGoal, goal_types_told, goal_types_wrong, goal_wrong, scope_told, whole_of}
use Rattle.cu_front.proofs.TableLemmas.{goal_table, table_of}
use Rattle.cu_front.proofs.programs.goal_outcome.Goals as goal

pub declared_types_goal-requires-clause-scopes : goal.declared_types_goal-requires-clause-scopes
declared_types_goal-requires-clause-scopes c =
    let names = c.args.rooted.names.now in
    let ms = modules_of names c.args.rooted.modules.now in
    subst (λ (s : Scopes). AreScopes names ms s) (sym c.in-Ok.ensures.same) c.requires.scopes

pub with_goal-requires : goal.with_goal-requires
with_goal-requires c =
    let names = c.args.rooted.names.now in
    let ms = modules_of names c.args.rooted.modules.now in
    record {
      known = record {
        built_in = c.requires.built_in;
        has = c.requires.known;
        scopes = subst (λ (s : Scopes). AreScopes names ms s) (sym c.in-Ok.ensures.same) c.requires.scopes;
        entities = c.requires.entities;
      };
      root = c.requires.root;
      goal = c.requires.owned;
    }

pub returns-in-Ok-declared_types_goal-clause-whole : goal.returns-in-Ok-declared_types_goal-clause-whole
returns-in-Ok-declared_types_goal-clause-whole c text reads =
    let names = c.args.rooted.names.now in
    let ms = modules_of names c.args.rooted.modules.now in
    let g = goal_meaning names c.args.goal.now in
    let owner = id_of names goal_name in
    let right : IsRightGoal names ms c.args.rooted.root text g = record {
      read = reads;
      scoped = c.in-Ok.ensures.right owner c.requires.owned;
      types = c.in-Ok-declared_types_goal.ensures.right owner c.requires.owned;
      is_table = goal_table names ms g (table_of names c.args.rooted.modules.now c.args.entities.now c.requires.known c.requires.entities) c.requires.named
          (c.in_ok-know_variables.ensures owner names c.requires.owned);
    } in
    whole_of names ms c.args.rooted.root text g c.with_goal.result right c.with_goal.ensures.whole

pub returns-in-Ok-clause-whole : goal.returns-in-Ok-clause-whole
returns-in-Ok-clause-whole c text reads =
    let names = c.args.rooted.names.now in
    let ms = modules_of names c.args.rooted.modules.now in
    let k = c.args.rooted.root in
    let g = goal_meaning names c.args.goal.now in
    let owner = id_of names goal_name in
    let named = text_of-at names owner goal_name c.requires.named in
    subst (λ (r : Result Outcome StageFault). IfOk r (IsWhole names ms k text)) (sym c.kept.ensures)
    (goal_types_wrong names ms k text (text_of names owner) g c.of_goal_types.result named reads (c.in-Ok.ensures.right owner c.requires.owned)
    (goal_types_told names ms k (text_of names owner) g c.in-Err-declared_types_goal.fault c.of_goal_types.result named c.of_goal_types.ensures
    (c.in-Err-declared_types_goal.ensures.wrong owner c.requires.owned)))

pub returns-in-Ok-clause-fault : goal.returns-in-Ok-clause-fault
returns-in-Ok-clause-fault c =
    let names = c.args.rooted.names.now in
    let ms = modules_of names c.args.rooted.modules.now in
    subst (λ (r : Result Outcome StageFault). IfErr r (Tells names (λ (refusal : Refusal). translation_refusal names ms ≡ Some refusal)))
    (sym c.kept.ensures) (kept_tells names (λ (refusal : Refusal). translation_refusal names ms ≡ Some refusal) c.of_goal_types.result)

pub returns-clause-whole : goal.returns-clause-whole
returns-clause-whole c text reads =
    let names = c.args.rooted.names.now in
    let ms = modules_of names c.args.rooted.modules.now in
    let k = c.args.rooted.root in
    let g = goal_meaning names c.args.goal.now in
    let owner = id_of names goal_name in
    subst (λ (r : Result Outcome StageFault). IfOk r (IsWhole names ms k text)) (sym c.kept-in-Err.ensures)
    (goal_wrong names ms k text (text_of names owner) g c.of_scope.result (text_of-at names owner goal_name c.requires.named) reads
    (scope_told names (IsWrongGoal (text_of names owner) ms k g) c.in-Err.fault c.of_scope.result c.of_scope.ensures
    (c.in-Err.ensures.wrong owner c.requires.owned) (c.in-Err.ensures.known owner (known_at names owner goal_name c.requires.named) c.requires.owned)))

pub returns-clause-fault : goal.returns-clause-fault
returns-clause-fault c =
    let names = c.args.rooted.names.now in
    let ms = modules_of names c.args.rooted.modules.now in
    subst (λ (r : Result Outcome StageFault). IfErr r (Tells names (λ (refusal : Refusal). translation_refusal names ms ≡ Some refusal)))
    (sym c.kept-in-Err.ensures) (kept_tells names (λ (refusal : Refusal). translation_refusal names ms ≡ Some refusal) c.of_scope.result)
