use Rattle.cu_translation.specs.Meaning.{binder_meaning}
use Rattle.cu_sites.proofs.DefinedLemmas.{need_function, need_variable}
use Rattle.cu_uses.proofs.FoundLemmas.{on_ok}
use Rattle.cu_sites.proofs.dependencies.add_need.Goals as goal

pub returns-in-Variable : goal.returns-in-Variable
returns-in-Variable c binders functions h =
    on_ok c.add.result
    (need_variable binders functions c.args.captured.now (binder_meaning c.args.variable) c.args.used c.in-Variable.binder c.variable-from.result
    c.variable.result c.args.needs.now c.add.new.self c.in-Variable.is (c.variable-from.ensures binders functions h) (c.variable.ensures binders functions h))
    c.add.ensures

pub returns-in-Function : goal.returns-in-Function
returns-in-Function c binders functions h =
    on_ok c.add_row.result
    (need_function binders functions c.args.captured.now (binder_meaning c.args.variable) c.args.used c.in-Function.at c.in-Function.field-1
    c.variable-from.result c.function.result c.row.result.now c.args.needs.now c.add_row.new.self c.in-Function.is (c.variable-from.ensures binders functions h)
    (c.function.ensures binders functions h) c.row.ensures)
    c.add_row.ensures
