use Rattle.cu_syntax.specs.Names.{name_meaning}
use Rattle.cu_uses.specs.Faults.{wrong_name}
use Rattle.cu_uses.proofs.ToldLemmas.{told_wrong}
use Rattle.cu_uses.proofs.names.tell.Goals as goal

pub returns : goal.returns
returns c w demand of is =
    told_wrong w demand (wrong_name c.args.wrong (name_meaning w.names c.args.name)) c.args.first.now c.tell.new.self is
    (λ faults told. c.tell.ensures w.owner w.names faults (record { place = of.place; name = of.text }) told)
