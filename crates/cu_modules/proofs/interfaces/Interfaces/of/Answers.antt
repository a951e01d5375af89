use Rattle.std.proofs.Common.{[], None, Some, refl}
use Rattle.cu_modules.proofs.BindingLemmas.{exports_found}
use Rattle.cu_modules.proofs.interfaces.Interfaces.of.Goals as goal

pub returns-in-Some : goal.returns-in-Some
returns-in-Some c = λ names before known are.
    exports_found names before c.args.self.now c.args.name (Some c.in-Some.exports.now) c.as_slice.result.now c.in-Some.ensures.value c.as_slice.ensures.value known are

pub returns-in-None : goal.returns-in-None
returns-in-None c = λ names before known are. exports_found names before c.args.self.now c.args.name None [] c.in-None.ensures.value refl known are
