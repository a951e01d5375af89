-- Only a choice has alternatives.
use Rattle.std.proofs.Common.{ap, sym, ◌∙◌}
use Rattle.cu_syntax.specs.Inside.Meaning.{rule_meaning}
use Rattle.cu_syntax.specs.Subtrees.{is_choice}
use Rattle.cu_syntax.proofs.FitLemmas.{only_choices}
use Rattle.cu_syntax.proofs.subtree.alternatives.Goals as goal

pub unreachable-requires : goal.unreachable-requires
unreachable-requires c = only_choices c.rule.result (ap is_choice c.rule.ensures ∙ c.requires) c.in_default.not-Choice

pub returns : goal.returns
returns c = sym c.rule.ensures ∙ ap rule_meaning c.in-Choice.is
