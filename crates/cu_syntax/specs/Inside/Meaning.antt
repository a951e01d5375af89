-- What the rules of the program's table stand for.
use Rattle.cu_syntax.specs.declared.rule.Rule as declared
use Rattle.cu_syntax.specs.declared.rule.Rule.TheVariants as rule
use Rattle.cu_syntax.specs.Table as table

abbrev pub rule_meaning : declared.Rule → table.Rule
rule_meaning (rule.Token c) = table.Token c
rule_meaning (rule.Sequence parts) = table.Sequence parts.now
rule_meaning (rule.Choice parts) = table.Choice parts.now
rule_meaning (rule.Optional part) = table.Optional part
rule_meaning (rule.Many part) = table.Many part
rule_meaning (rule.AtLeastOne part) = table.AtLeastOne part
rule_meaning (rule.SeparatedBy part separator) = table.SeparatedBy part separator
rule_meaning (rule.Ahead part) = table.Ahead part
rule_meaning (rule.NotAhead part) = table.NotAhead part
