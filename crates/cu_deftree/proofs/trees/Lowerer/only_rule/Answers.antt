use Rattle.std.proofs.Common.{map, rules}
use Rattle.cu_kernel.specs.KernelOf.{rule_meaning}
use Rattle.cu_deftree.specs.Inside.NamesOf.{names_of-Nothing}
use Rattle.cu_deftree.specs.Inside.Ready.{program_in}
use Rattle.cu_deftree.proofs.LoweredFunctions.{rules_done, rules_stop, start}
use Rattle.cu_deftree.proofs.trees.Lowerer.only_rule.Goals as goal

pub returns-in_err-numbers : goal.returns-in_err-numbers
returns-in_err-numbers c = search rules

pub rule_rows-requires : goal.rule_rows-requires
rule_rows-requires c = names_of-Nothing

pub returns-in_err-rows : goal.returns-in_err-rows
returns-in_err-rows c = search rules

pub returns-in_err-params : goal.returns-in_err-params
returns-in_err-params c = search rules

pub lower-requires : goal.lower-requires
lower-requires c = c.requires

pub returns-in_err-body : goal.returns-in_err-body
returns-in_err-body c =
    rules_stop (program_in c.args.self.now) c.args.arity (map rule_meaning c.args.rules.now) c.as_slice-numbers.result.now c.in_ok-numbers.next c.as_slice.result.now
    c.most_expressions-left.result c.lower.new.left c.from_residual-in_err-body.result c.in_err-body.field-0.0
    (start c.args.arity (map rule_meaning c.args.rules.now) c.in_ok-numbers.numbers.items c.as_slice-numbers.result.now c.in_ok-numbers.next c.in_ok-rows.rows.items c.as_slice.result.now
    c.in_ok-numbers.ensures c.as_slice-numbers.ensures.value c.in_ok-rows.ensures c.as_slice.ensures.value)
    c.most_expressions-left.ensures c.from_residual-in_err-body.ensures.1 c.in_err-body.ensures

pub returns : goal.returns
returns c =
    rules_done (program_in c.args.self.now) c.args.arity (map rule_meaning c.args.rules.now) c.as_slice-numbers.result.now c.in_ok-numbers.next c.as_slice.result.now
    c.most_expressions-left.result c.lower.new.left (record { params = c.in_ok-params.params; body = c.in_ok-body.body })
    (start c.args.arity (map rule_meaning c.args.rules.now) c.in_ok-numbers.numbers.items c.as_slice-numbers.result.now c.in_ok-numbers.next c.in_ok-rows.rows.items c.as_slice.result.now
    c.in_ok-numbers.ensures c.as_slice-numbers.ensures.value c.in_ok-rows.ensures c.as_slice.ensures.value)
    c.most_expressions-left.ensures c.in_ok-params.ensures c.in_ok-body.ensures
