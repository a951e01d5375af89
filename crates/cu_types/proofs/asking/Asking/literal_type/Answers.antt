use Rattle.cu_types.proofs.AskingLemmas.{adds_data}
use Rattle.cu_types.proofs.asking.Asking.literal_type.Goals as goal
use Rattle.cu_types.specs.BuiltInTypes.{literal_type}

pub returns : goal.returns
returns c =
    adds_data c.args.self.now c.apply.new.self c.literal_place.result c.new.result.items (literal_type c.args.literal) c.apply.result
    c.new.ensures.items c.literal_place.ensures c.apply.ensures.reader c.apply.ensures.read
