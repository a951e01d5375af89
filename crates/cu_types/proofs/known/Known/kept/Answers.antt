use Rattle.std.proofs.Common.{IfOk, sym, ap, subst, ◌≡◌}
use Rattle.cu_types.specs.Inside.Knowing.{kept_type}
use Rattle.cu_types.specs.declared.known.Known.{Known}
use Rattle.cu_types.proofs.known.Known.kept.Goals as goal

pub returns-in-Nothing : goal.returns-in-Nothing
returns-in-Nothing c = subst (λ (k : Known). IfOk c.unknown.result (λ t. t ≡ kept_type k)) (sym c.in-Nothing.is) c.unknown.ensures

pub returns-in-Typed : goal.returns-in-Typed
returns-in-Typed c = sym (ap kept_type c.in-Typed.is)

pub returns : goal.returns
returns c =
    subst (λ (k : Known). IfOk c.unknown-in-Member.result (λ t. t ≡ kept_type k)) (sym c.in-Member.is) c.unknown-in-Member.ensures
