use Rattle.std.proofs.Common.{MatchResult}
use Rattle.std.proofs.lemmas.Result.{IfOk-weaker, MatchResult-at_err, MatchResult-at_ok}
use Rattle.cu_types.specs.Inference.{IsInferred, PrincipallyTyped}
use Rattle.cu_types.specs.TypeFaults.{IsTypeFault}
use Rattle.cu_types.proofs.inference.inferred.Goals as goal

pub returns-in-Ok : goal.returns-in-Ok
returns-in-Ok c =
    let p = c.args.program.now in
    let typed : PrincipallyTyped p c.in-Ok.types.items =
    MatchResult-at_ok (λ types. PrincipallyTyped p types.items) (IsTypeFault p) c.in-Ok.types c.in-Ok.is c.in_ok-outcome.ensures in
    IfOk-weaker c.data_types.result
    (λ outcome. PrincipallyTyped p c.in-Ok.types.items → MatchResult outcome (IsInferred p) (IsTypeFault p))
    (λ outcome. MatchResult outcome (IsInferred p) (IsTypeFault p)) (λ outcome told. told typed) c.data_types.ensures

pub returns-in-Err : goal.returns-in-Err
returns-in-Err c =
    let p = c.args.program.now in
    MatchResult-at_err (λ types. PrincipallyTyped p types.items) (IsTypeFault p) c.in-Err.fault c.in-Err.is c.in_ok-outcome.ensures
