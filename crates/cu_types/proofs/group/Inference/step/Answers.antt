use Rattle.std.proofs.Common.{}
use Rattle.cu_calculus.specs.declared.FunId.{FunId}
use Rattle.cu_types.proofs.Inferring.{step_broken, step_clash, step_typed}
use Rattle.cu_types.proofs.group.Inference.step.Goals as goal

pub infer_group-requires-clause-tables : goal.infer_group-requires-clause-tables
infer_group-requires-clause-tables c = c.requires.tables

pub infer_group-requires-clause-within : goal.infer_group-requires-clause-within
infer_group-requires-clause-within c = c.requires.within

pub returns-in-Typed : goal.returns-in-Typed
returns-in-Typed c = λ none rising.
    step_typed c.args.self.now.program.now c.args.known.now c.infer_group.new.known c.args.group.now c.in_ok-outcome.outcome c.in-Typed.is
    (c.in_ok-outcome.ensures none rising)

pub returns-in-Clash : goal.returns-in-Clash
returns-in-Clash c = λ none rising.
    let d : FunId = record { 0 = 0 } in
    step_clash c.args.self.now.program.now c.args.known.now c.infer_group.new.known c.args.group.now d c.in_ok-outcome.outcome c.in-Clash.clash
    c.in-Clash.is c.requires.some (c.in_ok-outcome.ensures none rising)

pub returns-in-Broken : goal.returns-in-Broken
returns-in-Broken c = λ none rising.
    let d : FunId = record { 0 = 0 } in
    step_broken c.args.self.now.program.now c.args.known.now c.infer_group.new.known c.args.group.now d c.in_ok-outcome.outcome c.in-Broken.is
    c.requires.some (c.in_ok-outcome.ensures none rising)
