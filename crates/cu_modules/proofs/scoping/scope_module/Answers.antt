use Rattle.std.proofs.Common.{subst}
use Rattle.cu_modules.specs.Faults.{faults}
use Rattle.cu_modules.specs.Ordering.{module_of}
use Rattle.cu_modules.specs.Scopes.{exported}
use Rattle.cu_uses.specs.Telling.{IsFirstIf}
use Rattle.cu_modules.proofs.OutcomeLemmas.{module_is_right, module_is_wrong, none_told}
use Rattle.cu_modules.proofs.ScopingLemmas.{fault_known}
use Rattle.cu_modules.proofs.scoping.scope_module.Goals as goal

pub returns-in-Some-clause-wrong : goal.returns-in-Some-clause-wrong
returns-in-Some-clause-wrong c = λ before are.
    let names = c.args.names.now in
    let m = c.args.module.now in
    let differ = c.count-count.ensures.differ in
    let found = c.in_ok-found.ensures names before differ c.requires.has are (c.in_ok-scoped.ensures before differ are) in
    module_is_wrong names before m c.in-Some.fault c.of_fault.result (subst (IsFirstIf m.name names (faults before (module_of names m))) c.in-Some.is found) c.of_fault.ensures

pub returns-in-Some-clause-known : goal.returns-in-Some-clause-known
returns-in-Some-clause-known c = λ before are.
    let names = c.args.names.now in
    let m = c.args.module.now in
    let differ = c.count-count.ensures.differ in
    let found = c.in_ok-found.ensures names before differ c.requires.has are (c.in_ok-scoped.ensures before differ are) in
    fault_known m.name names (faults before (module_of names m)) c.in-Some.fault c.of_fault.result c.requires.has.known
    (subst (IsFirstIf m.name names (faults before (module_of names m))) c.in-Some.is found) c.of_fault.ensures

pub returns-clause-right : goal.returns-clause-right
returns-clause-right c = λ before fresh are.
    let names = c.args.names.now in
    let m = c.args.module.now in
    let differ = c.count-count.ensures.differ in
    let scoped = c.in_ok-scoped.ensures before differ are in
    let none = none_told c.in_ok-found.found c.in_default.not-Some in
    let right = subst (IsFirstIf m.name names (faults before (module_of names m))) none (c.in_ok-found.ensures names before differ c.requires.has are scoped) in
    let exports = c.in_ok-exports.ensures names before differ c.requires.has are scoped right in
    module_is_right names before m c.in_ok-scoped.scoped c.table_of.result c.add.new.self right scoped c.table_of.ensures
    (c.in_ok-add.ensures names before (exported before (module_of names m)) differ c.requires.has.known fresh exports are)
