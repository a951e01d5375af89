use Rattle.cu_graph.proofs.Entries.{after_error, kept, set_node}
use Rattle.cu_graph.proofs.node_vec.NodeVec.write.Goals as goal

pub returns-in_err-entry-clause-err : goal.returns-in_err-entry-clause-err
returns-in_err-entry-clause-err c =
    after_error c.from_residual.result
    (kept c.self.inside.wide.items c.append.new.wide.items c.self.inside.args.items c.append.new.all.items c.self.inside.entries.items
    c.args.self.now c.in_err-entry.ensures.kept c.self.invariant c.self.view_is)

pub returns-clause-ok : goal.returns-clause-ok
returns-clause-ok c =
    set_node c.self.inside.wide.items c.append.new.wide.items c.self.inside.args.items c.append.new.all.items c.self.inside.entries.items c.args.index
    c.in_ok-entry.entry c.args.self.now _ c.in_ok-entry.ensures.kept c.self.invariant c.in_ok-entry.ensures.ok c.self.view_is
