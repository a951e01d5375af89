use Rattle.std.proofs.Common.{map}
use Rattle.cu_calculus.specs.FlatProgram.{program_of}
use Rattle.cu_crwl.specs.Meaning.{claim_of}
use Rattle.cu_words.specs.Words.{Checking}
use Rattle.cu_cmd.proofs.CheckLemmas.{goal_refusal_ends, proof_ends}
use Rattle.cu_cmd.proofs.ReportLemmas.{refusal_ends_whole}
use Rattle.cu_cmd.proofs.checking.check_goal.Goals as goal

pub returns-in-Ok-clause-ends : goal.returns-in-Ok-clause-ends
returns-in-Ok-clause-ends g c = λ held root bytes are has.
    proof_ends c.check_proof.result held root bytes c.args.file.now.goal.now (map claim_of c.args.file.now.claims.rows.items) c.args.file.now.proof
    c.ask.new.names c.in-Ok.compiled.program (program_of c.in-Ok.compiled.flat) c.in-Ok.ensures.goal.goal _ _
    has (c.in-Ok.ensures.program held root are) c.in-Ok.ensures.goal.is (c.check_proof.ensures.ends c.in-Ok.ensures.goal.goal c.in-Ok.ensures.goal.is)

pub returns-in-Err-Refused-clause-ends : goal.returns-in-Err-Refused-clause-ends
returns-in-Err-Refused-clause-ends g c = λ held root bytes are has.
    goal_refusal_ends c.refuse.result held root bytes c.args.file.now.goal.now (map claim_of c.args.file.now.claims.rows.items) c.args.file.now.proof
    c.ask.new.names c.in-Err-Refused.field-0 c.in-Err-Refused.refusal _ _ c.in-Err-Refused.field-0-is has (c.in-Err-Refused.ensures.refused held root are)
    c.refuse.ensures.status c.refuse.ensures.whole c.refuse.ensures.prefix

pub returns-in-Err-Refused-clause-whole : goal.returns-in-Err-Refused-clause-whole
returns-in-Err-Refused-clause-whole g c = λ check.
    refusal_ends_whole c.refuse.result (Checking check) _ _ _ _ _ c.refuse.ensures.status c.refuse.ensures.whole c.refuse.ensures.cause
