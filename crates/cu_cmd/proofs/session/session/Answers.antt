use Rattle.std.proofs.Common.{refl}
use Rattle.cu_cmd.proofs.ServeLemmas.{rose_as, run_held}
use Rattle.cu_cmd.proofs.session.session.Goals as goal

pub returns-clause-ends : goal.returns-clause-ends
returns-clause-ends g c =
    run_held (g.L.Library.holdings c.args.library.now) (g.O.Source.remaining c.args.input.now) c.reply_to_lines-served.result c.close.result _ _ _ _ _
    c.reply_to_lines-served.ensures.replies
    (λ folder text w. c.close.ensures.ends folder text _ _ _ w
    (rose_as c.rose-failed.result _ _ _ _ c.faults-before.ensures c.faults.ensures c.rose-failed.ensures))

pub returns-clause-cause : goal.returns-clause-cause
returns-clause-cause g c =
    c.close.ensures.cause _ _ c.reply_to_lines-served.ensures.counts refl
    (rose_as c.rose-failed.result _ _ _ _ c.faults-before.ensures c.faults.ensures c.rose-failed.ensures)
