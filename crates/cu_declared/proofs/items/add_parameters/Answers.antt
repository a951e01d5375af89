use Rattle.cu_names.specs.Texts.{text_of}
use Rattle.cu_syntax.specs.Owners.{ItemIsOf}
use Rattle.cu_declared.proofs.ItemLemmas.{parameters_end, parameters_prefix}
use Rattle.cu_declared.proofs.items.add_parameters.Goals as goal

pub loop-item-preserved : goal.loop-item-preserved
loop-item-preserved c names after differ known all rest =
    c.loop-item.invariant names after differ known all
    (parameters_prefix (ItemIsOf c.args.owner names) names (text_of names c.args.owner) c.args.items.now c.loop-item.item-index c.item-item.result c.loop-item.numbers c.add_parameter.new.numbers after c.item-item.is c.loop-item-test.true all
    (λ of. c.in_ok-add_parameter.ensures names differ known of) rest)

pub returns : goal.returns
returns c names differ known all =
    c.loop-item.invariant names c.loop-item.numbers differ known all
    (parameters_end names (text_of names c.args.owner) c.args.items.now c.loop-item.item-index c.loop-item.numbers c.loop-item-test.false)
