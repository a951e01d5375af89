use Rattle.cu_uses.proofs.ListLemmas.{use_of_entity, use_of_variable}
use Rattle.cu_uses.proofs.names.use_value.Goals as goal

pub returns-then-is_variable : goal.returns-then-is_variable
returns-then-is_variable c w local sees of = use_of_variable w local c.args.name c.is_variable.result c.args.first.now (c.is_variable.ensures w local sees of) c.if-is_variable.true

pub returns : goal.returns
returns c w local sees of =
    use_of_entity w local c.args.name c.is_variable.result c.args.first.now c.use_entity.new.first (c.is_variable.ensures w local sees of) c.if-is_variable.false (c.use_entity.ensures w local sees of)
