use Rattle.cu_types.proofs.KeepingLemmas.{joined_met, joined_told}
use Rattle.cu_types.proofs.known.Member.keeps_variables.Goals as goal
use Rattle.cu_types.specs.Meaning.{subst_of}

pub returns-then-met : goal.returns-then-met
returns-then-met c =
    joined_met (subst_of c.args.subst.now) c.args.seen.now.keys c.args.self.now.first c.args.self.now.captured c.args.variables.now
    c.in_ok-met.met c.in_ok-met.ensures c.if-met.true

pub returns : goal.returns
returns c =
    joined_told (subst_of c.args.subst.now) c.args.seen.now.keys c.join.new.seen.keys c.args.self.now.first c.args.self.now.captured
    c.args.variables.now c.in_ok-met.met c.in_ok-kept.kept c.in_ok-met.ensures c.if-met.false c.in_ok-kept.ensures
