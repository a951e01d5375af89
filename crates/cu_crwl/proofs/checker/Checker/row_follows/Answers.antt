use Rattle.std.proofs.Common.{arith, map}
use Rattle.cu_kernel.specs.Heads.{heads_program}
use Rattle.cu_crwl.specs.Meaning.{claim_of}
use Rattle.cu_crwl.proofs.CheckForms.{whole_given, whole_short}
use Rattle.cu_crwl.proofs.checker.Checker.row_follows.Goals as goal

pub returns-then-cited-len : goal.returns-then-cited-len
returns-then-cited-len c =
    whole_short (heads_program c.args.self.heads.now) (map claim_of c.args.self.claims.now) c.args.cited.now c.args.statement.now.env.items c.in-Whole.head c.in-Whole.terms
    c.args.statement.now.term c.args.statement.now.value c.in-Whole.is (omega (arith, c.len.ensures, c.if-cited-len.true))

pub returns-else-cited-len : goal.returns-else-cited-len
returns-else-cited-len c =
    let e = whole_given (heads_program c.args.self.heads.now) (map claim_of c.args.self.claims.now) c.args.cited.now c.split_at.result.0.now c.split_at.result.1.now
    c.len-in-Whole.result c.args.statement.now.env.items c.as_slice-env.result.now c.in-Whole.head c.in-Whole.terms c.deref.result.now
    c.args.statement.now.term c.args.statement.now.value c.in-Whole.is (omega (arith, c.len-in-Whole.ensures)) c.split_at.ensures.front c.split_at.ensures.back
    c.as_slice-env.ensures.value c.deref.ensures.value in
    rw e c.whole_follows.ensures
