use Rattle.std.proofs.Common.{ap, ◌∙◌}
use Rattle.cu_types.proofs.FunctionalLemmas.{arrow_top, named_top}
use Rattle.cu_types.specs.Inside.Inferring.{pair_top}
use Rattle.cu_types.proofs.functional.at_top.Goals as goal

pub returns-in-Arrow : goal.returns-in-Arrow
returns-in-Arrow c =
    c.pair_of.ensures ∙ ap pair_top c.as_slice.ensures.value
    ∙ arrow_top c.args.node.now c.in-Applied.head c.in-Applied.arguments c.in-Applied.is c.in-Arrow.is

pub returns-in-Named : goal.returns-in-Named
returns-in-Named c =
    named_top c.args.node.now c.in-Applied.head c.in-Applied.arguments c.in-Named.field-0 c.in-Applied.is c.in-Named.is
