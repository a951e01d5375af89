use Rattle.std.proofs.Common.{map, rules}
use Rattle.cu_kernel.specs.KernelOf.{function_meaning, rule_meaning}
use Rattle.cu_calculus.specs.Program as calculus
use Rattle.cu_deftree.specs.Inside.Ready.{program_in}
use Rattle.cu_deftree.proofs.LoweredFunctions.{by_operation, by_rule, external_meaning, external_same, function_stop, rules_meaning, with_body}
use Rattle.cu_deftree.proofs.trees.Lowerer.function.Goals as goal

pub only_rule-requires : goal.only_rule-requires
only_rule-requires c = c.requires

pub returns-in_err-rule-in-Rules : goal.returns-in_err-rule-in-Rules
returns-in_err-rule-in-Rules c =
    function_stop (program_in c.args.self.now) (function_meaning c.args.function.now) (map rule_meaning c.deref.result.now) c.from_residual.result
    c.in_err-rule-in-Rules.field-0.0
    (rules_meaning c.args.function.now.body c.in-Rules.rules c.deref.result.now c.in-Rules.is c.deref.ensures.value)
    c.from_residual.ensures.1 c.in_err-rule-in-Rules.ensures

pub returns-in_err-lowered-in-Rules : goal.returns-in_err-lowered-in-Rules
returns-in_err-lowered-in-Rules c = search rules

pub returns-in-External : goal.returns-in-External
returns-in-External c =
    let built = external_meaning c.args.function.now.body c.in-External.operation c.in-External.is in
    by_operation (program_in c.args.self.now) (function_meaning c.args.function.now) (with_body (function_meaning c.args.function.now) (calculus.External c.in-External.operation)) c.in-External.operation built
    (external_same (function_meaning c.args.function.now) c.in-External.operation built)

pub returns-in_ok-lowered-in-Rules : goal.returns-in_ok-lowered-in-Rules
returns-in_ok-lowered-in-Rules c =
    by_rule (program_in c.args.self.now) (function_meaning c.args.function.now) (map rule_meaning c.deref.result.now)
    (rule_meaning c.in_ok-rule-in-Rules.rule) (function_meaning c.in_ok-lowered-in-Rules.lowered)
    (rules_meaning c.args.function.now.body c.in-Rules.rules c.deref.result.now c.in-Rules.is c.deref.ensures.value)
    c.in_ok-rule-in-Rules.ensures c.in_ok-lowered-in-Rules.ensures
