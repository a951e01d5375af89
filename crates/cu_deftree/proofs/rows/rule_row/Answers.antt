use Rattle.cu_deftree.specs.Inside.NamesOf.{names_of}
use Rattle.cu_deftree.proofs.RowSteps.{rule_row_is}
use Rattle.cu_deftree.proofs.rows.rule_row.Goals as goal

pub returns : goal.returns
returns c =
    rule_row_is c.args.rule.now c.as_slice-params.result.now c.args.parameters.now c.new-patterns.result.items c.push_all.new.patterns.items
    c.new-own.result.items c.push_all_names.new.names.items (names_of c.args.around.now) c.as_slice-params.ensures.value
    c.new-patterns.ensures.items c.new-own.ensures.items c.requires c.in_ok-push_all.ensures c.in_ok-push_all_names.ensures
