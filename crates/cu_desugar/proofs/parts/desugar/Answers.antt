use Rattle.cu_desugar.specs.Modules.{named, owner_of}
use Rattle.cu_desugar.specs.Translated.{translated}
use Rattle.cu_desugar.proofs.RefusalLemmas.{failed}
use Rattle.cu_desugar.proofs.parts.desugar.Goals as goal

pub returns-clause-program : goal.returns-clause-program
returns-clause-program c =
    let m = c.args.modules in
    c.answer.ensures.program (owner_of m c.args.number) (translated m.names.now (named m) c.args.number) c.in_ok-outcome.ensures

pub returns-clause-fault : goal.returns-clause-fault
returns-clause-fault c =
    let m = c.args.modules in
    c.answer.ensures.fault (owner_of m c.args.number) (translated m.names.now (named m) c.args.number) c.in_ok-outcome.ensures

pub returns-in_err-outcome-clause-fault : goal.returns-in_err-outcome-clause-fault
returns-in_err-outcome-clause-fault c =
    let m = c.args.modules in
    failed (owner_of m c.args.number) (translated m.names.now (named m) c.args.number) c.from_residual.result c.from_residual.ensures.1
