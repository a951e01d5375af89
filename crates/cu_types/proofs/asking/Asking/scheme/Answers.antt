use Rattle.std.proofs.Common.{OnOk, sym, subst}
use Rattle.std.proofs.lemmas.Result.{on_ok_weaker}
use Rattle.cu_kernel.specs.TypeExpr.{TypeExpr}
use Rattle.cu_kernel.specs.TypeExpr as type
use Rattle.std.proofs.Common.{◌+◌}
use Rattle.cu_types.proofs.AskingLemmas.{asks_fixed}
use Rattle.cu_types.specs.BuiltInTypes.{arrows, variables_from}
use Rattle.cu_types.specs.Equations.{scheme_asks}
use Rattle.cu_types.specs.Inside.Asking.{Asks, StandsAt}
use Rattle.cu_types.specs.Inside.Knowing.{scheme_of}
use Rattle.cu_types.specs.declared.known.Scheme.{Scheme}
use Rattle.cu_types.proofs.asking.Asking.scheme.Goals as goal

pub returns-in-Unknown : goal.returns-in-Unknown
returns-in-Unknown c =
    subst (λ (s : Scheme). OnOk c.unknown.result ((t : TypeExpr) → StandsAt c.args.self.now c.args.whole t
    → Asks c.args.self.now c.unknown.new.self (scheme_asks (scheme_of s) t))) (sym c.in-Unknown.is) c.unknown.ensures

pub returns-in-Monomorphic : goal.returns-in-Monomorphic
returns-in-Monomorphic c =
    subst (λ (s : Scheme). OnOk c.fixed.result ((t : TypeExpr) → StandsAt c.args.self.now c.args.whole t
    → Asks c.args.self.now c.fixed.new.self (scheme_asks (scheme_of s) t))) (sym c.in-Monomorphic.is)
    (on_ok_weaker c.fixed.result (λ asks t at_whole. asks_fixed c.args.self.now c.fixed.new.self
    (arrows (variables_from c.in-Monomorphic.first c.in-Monomorphic.count) (type.Variable (c.in-Monomorphic.first + c.in-Monomorphic.count)))
    t (asks t at_whole)) c.fixed.ensures)

pub returns-in-Polymorphic : goal.returns-in-Polymorphic
returns-in-Polymorphic c =
    subst (λ (s : Scheme). OnOk c.general.result ((t : TypeExpr) → StandsAt c.args.self.now c.args.whole t
    → Asks c.args.self.now c.general.new.self (scheme_asks (scheme_of s) t))) (sym c.in-Polymorphic.is) c.general.ensures
