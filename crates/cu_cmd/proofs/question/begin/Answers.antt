use Rattle.cu_cmd.proofs.SessionLemmas.{begun, begun_going}
use Rattle.cu_kernel.specs.KernelOf.{goal_meaning}
use Rattle.cu_search.specs.Stands.{notation_of, standing_of}
use Rattle.cu_cmd.proofs.question.begin.Goals as goal

pub returns-clause-begun : goal.returns-clause-begun
returns-clause-begun g c = λ sought has.
    let search = c.in_ok-search.search in
    begun g.S.Store.content c.args.names.now c.args.compiled.now c.args.limits (goal_meaning c.in-Some.goal.now) sought search.program.now
    (notation_of search.wording) c.pause.result (standing_of g.S.Store.content search) c.pause.ensures c.in_ok-search.ensures.standing
    c.in-Some.ensures.goal c.requires.layout has

pub returns-clause-going : goal.returns-clause-going
returns-clause-going g c =
    let search = c.in_ok-search.search in
    begun_going g.S.Store.content c.args.names.now c.args.compiled.now c.args.limits (goal_meaning c.in-Some.goal.now) search.program.now
    (notation_of search.wording) c.pause.result (standing_of g.S.Store.content search) c.pause.ensures c.in_ok-search.ensures.standing
    c.in-Some.ensures.goal c.in_ok-search.ensures.going
