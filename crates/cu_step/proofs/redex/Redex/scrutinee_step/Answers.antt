-- The branch that is taken is one of those that nest.
use Rattle.std.proofs.Common.{◌≡◌, Some, ap, map, option_map, sym, ◌∙◌}
use Rattle.cu_flat.specs.Meaning.{branch_meaning}
use Rattle.cu_machine.specs.declared.Kind.TheVariants as kind
use Rattle.cu_machine.specs.Graph.{head_at, head_of}
use Rattle.cu_machine.specs.Rewrite.{branch_for}
use Rattle.cu_step.specs.Inside.Building.{branch_nests}
use Rattle.cu_step.specs.Inside.Matching.{takes_pattern}
use Rattle.cu_step.proofs.Builds.{if_ok}
use Rattle.cu_step.proofs.Cases.{into_literal}
use Rattle.cu_step.proofs.Nesting.{chosen_nests}
use Rattle.cu_step.proofs.redex.Redex.scrutinee_step.Goals as goal

pub building_step-requires-clause-nests : goal.building_step-requires-clause-nests
building_step-requires-clause-nests g c κs within =
    ap (branch_nests c.args.program.now) (sym (ap (option_map (λ branch. branch_meaning branch.now)) c.in-Some.is) ∙ c.branch_for.ensures)
    ∙ chosen_nests c.args.program.now (takes_pattern (kind.Lit c.in-Lit.l)) (map branch_meaning c.args.branches.now) c.requires.nest

pub building_step-requires-in-Some-branch_for-clause-nests : goal.building_step-requires-in-Some-branch_for-clause-nests
building_step-requires-in-Some-branch_for-clause-nests g c κs within =
    ap (branch_nests c.args.program.now) (sym (ap (option_map (λ branch. branch_meaning branch.now)) c.in-Some-branch_for.is) ∙ c.branch_for-in-Cons.ensures)
    ∙ chosen_nests c.args.program.now (takes_pattern (kind.Cons c.in-Cons.c)) (map branch_meaning c.args.branches.now) c.requires.nest

pub returns-in-Some : goal.returns-in-Some
returns-in-Some g c =
    let graph = g.S.Store.content c.args.self.store in
    let head = head_at graph c.args.scrutinee in
    let is_literal : head.kind ≡ kind.Lit c.in-Lit.l = sym c.read-head.ensures.kind ∙ c.in-Lit.is in
    let found : Some (branch_meaning c.in-Some.branch.now) ≡ branch_for (takes_pattern (kind.Lit c.in-Lit.l)) (map branch_meaning c.args.branches.now) =
    sym (ap (option_map (λ branch. branch_meaning branch.now)) c.in-Some.is) ∙ c.branch_for.ensures in
    if_ok c.building_step.result _ _
    (λ moved is. is ∙ into_literal c.args.program.now c.args.workspace.now.scope.items graph c.args.self.id (map branch_meaning c.args.branches.now)
    (head_of graph c.args.scrutinee) c.in-Lit.l head.kind head.args (branch_meaning c.in-Some.branch.now) is_literal found)
    c.building_step.ensures
