use Rattle.cu_modules.proofs.OutcomeLemmas.{all_scoped, all_told, modules_known, modules_more, modules_wrong, none_done}
use Rattle.cu_modules.specs.Ordering.{modules_of}
use Rattle.cu_modules.proofs.scoping.scope.Goals as goal

pub modules-init : goal.modules-init
modules-init c =
    none_done c.args.names.now (modules_of c.args.names.now c.args.modules.now) c.new-tables.result.items c.new-interfaces.result c.new-tables.ensures.items (c.new-interfaces.ensures c.args.names.now)

pub returns-in_err-table-clause-wrong : goal.returns-in_err-table-clause-wrong
returns-in_err-table-clause-wrong c =
    modules_wrong c.args.names.now c.args.modules.now c.modules.module-index c.module-item.result c.modules.tables.items c.modules.interfaces c.from_residual.result c.in_err-table.field-0.0
    c.modules-test.true c.module-item.is c.in_err-table.ensures.wrong c.modules.invariant c.from_residual.ensures.1

pub returns-in_err-table-clause-known : goal.returns-in_err-table-clause-known
returns-in_err-table-clause-known c =
    modules_known c.args.names.now c.args.modules.now c.modules.module-index c.modules.tables.items c.modules.interfaces c.from_residual.result c.in_err-table.field-0.0 c.in_err-table.ensures.known c.modules.invariant
    c.from_residual.ensures.1

pub modules-preserved : goal.modules-preserved
modules-preserved c =
    modules_more c.args.names.now c.args.modules.now c.modules.module-index c.module-item.result c.modules.tables.items c.push.new.self.items c.in_ok-table.table c.modules.interfaces c.scope_module.new.interfaces
    c.requires.ordered c.modules-test.true c.module-item.is c.in_ok-table.ensures.right c.in_ok-push.ensures.items c.modules.invariant

pub returns-clause-right : goal.returns-clause-right
returns-clause-right c =
    all_scoped c.args.names.now c.args.modules.now c.modules.module-index c.modules.tables.items c.modules.interfaces c.modules-test.false c.modules.invariant

pub returns-clause-scopes : goal.returns-clause-scopes
returns-clause-scopes c =
    all_told c.args.names.now c.args.modules.now c.modules.module-index (record { tables = c.modules.tables; interfaces = c.modules.interfaces }) c.requires.ordered c.modules-test.false c.modules.auto.module-index-end c.modules.invariant
