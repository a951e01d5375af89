use Rattle.std.proofs.Common.{◌≡◌, ◌-◌, ◌∙◌, ap, arith, sym}
use Rattle.cu_flatread.specs.Inside.Declarations.{fault_of}
use Rattle.cu_flatread.specs.declared.fault.BadFlat.TheVariants as fault
use Rattle.cu_flatread.proofs.reading.fault_of.Goals as goal

pub returns-in-At : goal.returns-in-At
returns-in-At c =
    let same : c.saturating_sub.result ≡ c.args.len - c.in-At.left =
    omega (arith, c.saturating_sub.ensures) in
    ap (λ n. fault.At n) same ∙ ap (fault_of c.args.len) (sym c.in-At.is)
