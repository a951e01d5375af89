use Rattle.cu_uses.proofs.ListLemmas.{no_name}
use Rattle.cu_locals.proofs.EntryLemmas.{gathered_none, variables_end, variables_prefix, variables_of}
use Rattle.cu_locals.proofs.entries.variable_entries.Goals as goal

pub loop-name-init : goal.loop-name-init
loop-name-init c t all = gathered_none t (variables_of t.names c.args.names.now) c.new-found.result.items c.new-found.ensures.items

pub loop-name-preserved : goal.loop-name-preserved
loop-name-preserved c t all =
    let here = all c.loop-name.name-index no_name c.loop-name-test.true in
    variables_prefix t (variables_of t.names c.args.names.now) c.args.names.now c.loop-name.name-index c.variable_entry.result c.loop-name.found.items c.push.new.self.items c.loop-name-test.true
    (c.loop-name.invariant t all) (c.variable_entry.ensures t here) c.in_ok-push.ensures.items

pub returns : goal.returns
returns c t all = variables_end t (variables_of t.names c.args.names.now) c.args.names.now c.loop-name.name-index c.loop-name.found.items c.loop-name-test.false (c.loop-name.invariant t all)
