use Rattle.cu_lift.proofs.Spreads.{are_met, spreads_first}
use Rattle.cu_lift.proofs.captures.capturing.Goals as goal

pub seed-requires : goal.seed-requires
seed-requires c =
    spreads_first c.args.locals.now c.args.x c.in_ok-spreading.spreading c.in_ok-spreading.ensures.met c.in_ok-spreading.ensures.pending

pub run-requires : goal.run-requires
run-requires c = record { users = c.requires; spreads = c.in_ok-seed.ensures.spreads }

pub returns : goal.returns
returns c =
    are_met c.args.locals.now c.args.x c.run.new.self c.in_ok-run.ensures.spreads
    (λ k l less e owns. c.in_ok-run.ensures.stays k (c.in_ok-seed.ensures.seeded k l less e owns)) c.in_ok-run.ensures.done
