use Rattle.std.proofs.Common.{ap, map, ◌∙◌}
use Rattle.cu_calculus.specs.Flat.{are_variables}
use Rattle.cu_calculus.specs.Valid.{all_variables}
use Rattle.cu_kernel.specs.KernelOf.{rule_meaning}
use Rattle.cu_kernel.specs.TermsOf.{patterns_of}
use Rattle.cu_flat.specs.Meaning.{entry_meaning}
use Rattle.cu_flat.proofs.Constructing.{rule-flat, rule-laid}
use Rattle.cu_flat.proofs.Laying.{laid-with}
use Rattle.cu_flat.proofs.arena.Arena.push_rule.Goals as goal

pub variables-requires : goal.variables-requires
variables-requires c =
    ap (λ ps. are_variables (patterns_of ps)) c.as_slice.ensures.value ∙ (rule-flat (rule_meaning c.args.rule.now) c.requires).0

pub push_term-requires : goal.push_term-requires
push_term-requires c = (rule-flat (rule_meaning c.args.rule.now) c.requires).1

pub returns : goal.returns
returns c =
    let old = map entry_meaning c.args.self.now.entries.items in
    let new = map entry_meaning c.push_term.new.self.entries.items in
    let rule = rule_meaning c.args.rule.now in
    rule-laid rule old new c.in_ok-params.params.items c.in_ok-laid.laid.used.items c.in_ok-laid.laid.place
    (c.in_ok-params.ensures ∙ ap (λ ps. all_variables (patterns_of ps)) c.as_slice.ensures.value)
    (laid-with c.in_ok-params.params.items c.as_slice-2.result.now rule.body old new c.in_ok-laid.laid.place c.in_ok-laid.laid.used.items
    c.as_slice-2.ensures.value c.in_ok-laid.ensures)
