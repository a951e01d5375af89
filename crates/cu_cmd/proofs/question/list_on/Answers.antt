use Rattle.std.proofs.Common.{Global, ℕ, Ok, ◌∙◌, ap}
use Rattle.std.specs.declared.vec.Vec.{Vec}
use Rattle.cu_cmd.proofs.SessionLemmas.{lists_on_told}
use Rattle.cu_kernel.specs.KernelOf.{goal_meaning}
use Rattle.cu_search.specs.Stands.{notation_of, standing_of}
use Rattle.cu_cmd.proofs.question.list_on.Goals as goal

pub returns-in-Going : goal.returns-in-Going
returns-in-Going g c =
    let search = c.next_lines.new.self in
    lists_on_told g.S.Store.content c.args.names.now c.args.compiled.now (goal_meaning c.in-Some.goal.now) c.args.paused c.pause.result
    search.program.now (notation_of search.wording) (standing_of g.S.Store.content c.resume-search.result) (standing_of g.S.Store.content search)
    (Ok c.in-Ok.round) c.new-sink.result.bytes.items c.args.reply.now.items c.next_lines.new.sink.bytes.items
    (ap Ok c.in-Going.is) c.in-Ok.ensures.next
    (ap (λ (v : Vec ℕ Global). v.items) (c.new-sink.ensures ∙ c.replace.ensures.value))
    c.in-Some.ensures.goal c.resume-search.ensures c.pause.ensures
