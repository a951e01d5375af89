-- Each turn writes one cell.
use Rattle.std.proofs.Common.{rules, ◌≡◌, [], ◌∷◌, ap, reverse, subst, sym, ◌∙◌}
use Rattle.cu_fixity.specs.Grouping.{Grouped}
use Rattle.cu_fixity.specs.Pieces.{fixity_at, items_of}
use Rattle.cu_fixity.specs.Ranges.{Builds}
use Rattle.cu_fixity.proofs.BuildLemmas.{build_first, done, turn, turn_stuck}
use Rattle.cu_fixity.proofs.grouping.group.Goals as goal

pub loop-task-init : goal.loop-task-init
loop-task-init c =
    subst (λ cells. Builds c.args.pieces.now cells (reverse c.in_ok-tasks.tasks.items)) (sym c.new-cells.ensures.items)
    (subst (λ tasks. Builds c.args.pieces.now [] tasks) (sym (ap reverse c.in_ok-tasks.ensures.items ∙ ap (λ t. reverse (t ∷ [])) c.whole.ensures))
    (build_first c.args.pieces.now))

pub returns-in_default-head-clause-none : goal.returns-in_default-head-clause-none
returns-in_default-head-clause-none c =
    turn_stuck c.args.pieces.now c.loop-task.cells.items c.loop-task.tasks.items c.pop.new.self.items c.in-Some.task c.in-Some.ensures.items
    c.loop-task.invariant c.in_default-head.ensures.none

pub loop-task-preserved : goal.loop-task-preserved
loop-task-preserved c =
    turn c.args.pieces.now c.loop-task.cells.items c.push.new.self.items c.loop-task.tasks.items c.pop.new.self.items c.add_parts.new.tasks.items
    c.in-Some.task c.in-Some-head.cell c.in-Some.ensures.items c.loop-task.invariant c.in-Some-head.ensures.some c.in_ok-push.ensures.items
    c.in_ok-add_parts.ensures

pub new-requires : goal.new-requires
new-requires c =
    let h = c.in_default.ensures in
    let none : c.loop-task.tasks.items ≡ [] = search rules in
    (done c.args.pieces.now c.loop-task.cells.items c.loop-task.tasks.items none c.loop-task.invariant).1

pub returns-clause-tree : goal.returns-clause-tree
returns-clause-tree c =
    let h = c.in_default.ensures in
    let none : c.loop-task.tasks.items ≡ [] = search rules in
    subst (Grouped (fixity_at c.args.pieces.now) (items_of c.args.pieces.now)) (sym c.new.ensures)
    (done c.args.pieces.now c.loop-task.cells.items c.loop-task.tasks.items none c.loop-task.invariant).0
