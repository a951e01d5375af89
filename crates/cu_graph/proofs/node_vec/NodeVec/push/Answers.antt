use Rattle.std.proofs.Common.{[], ◌∷◌, ◌++◌, ap, ◌∙◌}
use Rattle.cu_graph.specs.FlatArrays.{nodes_of}
use Rattle.cu_graph.proofs.Entries.{after_error, kept, within_pushed, pushed_node}
use Rattle.cu_graph.proofs.node_vec.NodeVec.push.Goals as goal

pub returns-in_err-entry-clause-err : goal.returns-in_err-entry-clause-err
returns-in_err-entry-clause-err c =
    after_error c.from_residual-in_err-entry.result
    (ap (nodes_of c.append.new.wide.items c.append.new.all.items) c.make_room.ensures
    ∙ kept c.self.inside.wide.items c.append.new.wide.items c.self.inside.args.items c.append.new.all.items c.self.inside.entries.items
    c.args.self.now c.in_err-entry.ensures.kept c.self.invariant c.self.view_is)

pub returns-in_err-push-clause-err : goal.returns-in_err-push-clause-err
returns-in_err-push-clause-err c =
    after_error c.from_residual-in_err-push.result
    (ap (nodes_of c.append.new.wide.items c.append.new.all.items) (c.in_err-push.ensures.items ∙ c.make_room.ensures)
    ∙ kept c.self.inside.wide.items c.append.new.wide.items c.self.inside.args.items c.append.new.all.items c.self.inside.entries.items
    c.args.self.now c.in_ok-entry.ensures.kept c.self.invariant c.self.view_is)

pub invariant_of-self-2 : goal.invariant_of-self-2
invariant_of-self-2 c =
    within_pushed c.self.inside.wide.items c.append.new.wide.items c.self.inside.args.items c.append.new.all.items c.self.inside.entries.items
    c.push.new.self.items c.in_ok-entry.entry _ c.in_ok-entry.ensures.kept c.self.invariant c.in_ok-entry.ensures.ok
    (c.in_ok-push.ensures.items ∙ ap (λ items. items ++ c.in_ok-entry.entry ∷ []) c.make_room.ensures)

pub returns-clause-ok : goal.returns-clause-ok
returns-clause-ok c =
    pushed_node c.self.inside.wide.items c.append.new.wide.items c.self.inside.args.items c.append.new.all.items c.self.inside.entries.items
    c.push.new.self.items c.in_ok-entry.entry c.args.self.now _ c.in_ok-entry.ensures.kept c.self.invariant c.in_ok-entry.ensures.ok
    (c.in_ok-push.ensures.items ∙ ap (λ items. items ++ c.in_ok-entry.entry ∷ []) c.make_room.ensures) c.self.view_is
