use Rattle.cu_calculus.specs.FlatProgram.{program_of}
use Rattle.cu_cmd.proofs.ReportLemmas.{listing_ends, listing_ends_whole, refusal_ends, refusal_ends_whole, run_cause}
use Rattle.cu_words.specs.Words.{Solving, solve_of}
use Rattle.cu_cmd.proofs.solving.solve.Goals as goal

pub returns-in-Ok-clause-ends : goal.returns-in-Ok-clause-ends
returns-in-Ok-clause-ends g c =
    listing_ends c.list.result (solve_of c.args.solve) (g.L.Library.holdings c.args.library.now) _ c.in-Ok.compiled.program (program_of c.in-Ok.compiled.flat)
    c.in-Ok.ensures.goal.goal _ _ c.in-Ok.ensures.program c.in-Ok.ensures.goal.is
    (c.list.ensures.status c.in-Ok.ensures.goal.goal c.in-Ok.ensures.goal.is)
    (c.list.ensures.whole c.in-Ok.ensures.goal.goal c.in-Ok.ensures.goal.is)
    (c.list.ensures.prefix c.in-Ok.ensures.goal.goal c.in-Ok.ensures.goal.is)

pub returns-in-Ok-clause-cause : goal.returns-in-Ok-clause-cause
returns-in-Ok-clause-cause g c = run_cause c.list.result _ _ _ _ c.in-Ok.ensures.count c.list.ensures.cause

pub returns-in-Err-Refused-clause-ends : goal.returns-in-Err-Refused-clause-ends
returns-in-Err-Refused-clause-ends g c =
    refusal_ends c.refuse.result (solve_of c.args.solve) (g.L.Library.holdings c.args.library.now) _ c.in-Err-Refused.field-0 c.in-Err-Refused.refusal _ _
    c.in-Err-Refused.field-0-is c.in-Err-Refused.ensures.refused c.refuse.ensures.status c.refuse.ensures.whole c.refuse.ensures.prefix

pub returns-in-Ok-clause-whole : goal.returns-in-Ok-clause-whole
returns-in-Ok-clause-whole g c =
    listing_ends_whole c.list.result (solve_of c.args.solve) _ c.in-Ok.compiled.program c.in-Ok.ensures.goal.goal _ _ _ _ _
    (c.list.ensures.status c.in-Ok.ensures.goal.goal c.in-Ok.ensures.goal.is) (c.list.ensures.whole c.in-Ok.ensures.goal.goal c.in-Ok.ensures.goal.is) c.list.ensures.cause

pub returns-in-Err-Refused-clause-whole : goal.returns-in-Err-Refused-clause-whole
returns-in-Err-Refused-clause-whole g c =
    refusal_ends_whole c.refuse.result (Solving (solve_of c.args.solve)) _ _ _ _ _ c.refuse.ensures.status c.refuse.ensures.whole c.refuse.ensures.cause
