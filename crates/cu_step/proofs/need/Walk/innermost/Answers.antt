-- There is a last frame, or none.
use Rattle.std.proofs.Common.{◌∙◌, ap}
use Rattle.cu_step.specs.declared.need.Ask.TheVariants as ask
use Rattle.cu_step.specs.Inside.Kept.{last_ask, last_node}
use Rattle.cu_step.proofs.FrameEnds.{ask_none, ask_some, node_none, node_some}
use Rattle.cu_step.proofs.need.Walk.innermost.Goals as goal

pub returns-in-empty-clause-node : goal.returns-in-empty-clause-node
returns-in-empty-clause-node c = node_none c.args.root c.as_slice.result.now c.in-empty.len_below ∙ ap (last_node c.args.root) c.as_slice.ensures.value

pub returns-in-empty-clause-ask : goal.returns-in-empty-clause-ask
returns-in-empty-clause-ask c = ask_none ask.All c.as_slice.result.now c.in-empty.len_below ∙ ap (last_ask ask.All) c.as_slice.ensures.value

pub returns-in-len1-up-clause-node : goal.returns-in-len1-up-clause-node
returns-in-len1-up-clause-node c =
    node_some c.args.root c.as_slice.result.now _ c.in-len1-up.len_at_least ∙ ap (last_node c.args.root) c.as_slice.ensures.value

pub returns-in-len1-up-clause-ask : goal.returns-in-len1-up-clause-ask
returns-in-len1-up-clause-ask c = ask_some ask.All c.as_slice.result.now _ c.in-len1-up.len_at_least ∙ ap (last_ask ask.All) c.as_slice.ensures.value
