use Rattle.std.proofs.Common.{[], ◌∷◌, ap}
use Rattle.cu_syntax.specs.Names.{name_meaning}
use Rattle.cu_uses.specs.Faults.{wrong_name}
use Rattle.cu_uses.specs.declared.fault.Wrong.TheVariants.{NotExported}
use Rattle.cu_modules.specs.Faults.{unless}
use Rattle.cu_modules.proofs.ToldLemmas.{told_as, told_nothing}
use Rattle.cu_modules.proofs.telling.tell_unless.Goals as goal

pub returns-then-there : goal.returns-then-there
returns-then-there c = λ owner names own.
    let name = name_meaning names c.args.name.now in
    told_nothing owner names c.args.first.now (unless c.args.there name) (ap (λ b. unless b name) c.if-there.true)

pub returns : goal.returns
returns c = λ owner names own.
    let name = name_meaning names c.args.name.now in
    told_as owner names c.args.first.now c.tell.new.first (unless c.args.there name) (wrong_name NotExported name ∷ []) (ap (λ b. unless b name) c.if-there.false) (c.tell.ensures owner names own)
