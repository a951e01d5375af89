use Rattle.std.proofs.Common.{ap}
use Rattle.cu_syntax.specs.declared.items.Constructors.{Constructors}
use Rattle.cu_syntax.specs.Items.{constructors_meaning}
use Rattle.cu_modules.specs.Faults.{constructor_faults}
use Rattle.cu_modules.proofs.ToldLemmas.{only_told, told_nothing}
use Rattle.cu_modules.proofs.telling.tell_constructors.Goals as goal

pub returns-in-None : goal.returns-in-None
returns-in-None c = λ owner names es differ are own.
    told_nothing owner names c.args.first.now (constructor_faults es (constructors_meaning names c.args.constructors.now))
    (ap (λ (which : Constructors). constructor_faults es (constructors_meaning names which)) c.in-None.is)

pub returns-in-All : goal.returns-in-All
returns-in-All c = λ owner names es differ are own.
    told_nothing owner names c.args.first.now (constructor_faults es (constructors_meaning names c.args.constructors.now))
    (ap (λ (which : Constructors). constructor_faults es (constructors_meaning names which)) c.in-All.is)

pub returns-in-Only : goal.returns-in-Only
returns-in-Only c = λ owner names es differ are own.
    only_told owner names es c.args.constructors.now c.in-Only.listed c.as_slice.result.now c.args.first.now c.tell_missing.new.first c.in-Only.is c.as_slice.ensures.value own
    (λ owned. c.tell_missing.ensures owner names es differ are owned)
