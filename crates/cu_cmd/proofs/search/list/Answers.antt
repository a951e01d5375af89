use Rattle.std.proofs.Common.{◌∙◌, ap}
use Rattle.cu_cmd.proofs.SearchLemmas.{all_written, bytes_are, left_is, part_written}
use Rattle.cu_cmd.specs.Report as report
use Rattle.cu_kernel.specs.KernelOf.{goal_meaning}
use Rattle.cu_machine.specs.Listing.{Listing}
use Rattle.cu_cmd.proofs.search.list.Goals as goal

pub returns-in_err-end-clause-prefix : goal.returns-in_err-end-clause-prefix
returns-in_err-end-clause-prefix g c = λ sought has.
    part_written _ _ _ _ _
    (bytes_are _ c.args.problem.now.names.now c.args.problem.now.compiled.now.program c.args.problem.now.compiled.now.flat c.args.problem.now.limits (goal_meaning c.in-Some.goal.now) sought
    (record { is = c.in_ok-search.ensures.standing; of_program = c.in-Some.ensures.goal; laid = c.requires.layout }) has)
    c.in_err-end.ensures.prefix

pub returns-clause-status : goal.returns-clause-status
returns-clause-status g c = λ sought has.
    c.status_of.ensures.status
    ∙ ap report.status_of (
    c.in_ok-end.ensures.end
    ∙ ap (λ (found : Listing). found.end)
    (left_is _ c.args.problem.now.names.now c.args.problem.now.compiled.now.program c.args.problem.now.compiled.now.flat c.args.problem.now.limits (goal_meaning c.in-Some.goal.now) sought
    (record { is = c.in_ok-search.ensures.standing; of_program = c.in-Some.ensures.goal; laid = c.requires.layout }) has)
    )

pub returns-clause-whole : goal.returns-clause-whole
returns-clause-whole g c = λ sought has.
    all_written _ _ _ _
    (bytes_are _ c.args.problem.now.names.now c.args.problem.now.compiled.now.program c.args.problem.now.compiled.now.flat c.args.problem.now.limits (goal_meaning c.in-Some.goal.now) sought
    (record { is = c.in_ok-search.ensures.standing; of_program = c.in-Some.ensures.goal; laid = c.requires.layout }) has)
    c.in_ok-end.ensures.whole
