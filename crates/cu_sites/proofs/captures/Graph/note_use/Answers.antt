use Rattle.std.proofs.Common.{refl}
use Rattle.cu_translation.specs.Meaning.{position_meaning}
use Rattle.cu_sites.proofs.NoteLemmas.{noted_call, noted_use}
use Rattle.cu_uses.proofs.FoundLemmas.{on_ok}
use Rattle.cu_sites.proofs.captures.Graph.note_use.Goals as goal

pub returns-in-Variable : goal.returns-in-Variable
returns-in-Variable c binders functions h =
    on_ok c.add.result
    (λ gains.
    noted_use binders functions (position_meaning c.args.function) c.args.used c.in-Variable.binder c.variable.result c.function-user.result c.args.self.now _
    c.in-Variable.is (c.variable.ensures binders functions h) (c.function-user.ensures binders functions h) gains refl refl)
    c.add.ensures

pub returns-in-Function : goal.returns-in-Function
returns-in-Function c binders functions h =
    on_ok c.add-in-Function.result
    (λ gains.
    noted_call binders functions (position_meaning c.args.function) c.args.used c.in-Function.at c.in-Function.field-1 c.function.result
    c.function-user.result c.args.self.now _ c.in-Function.is (c.function.ensures binders functions h) (c.function-user.ensures binders functions h) gains
    refl refl)
    c.add-in-Function.ensures
