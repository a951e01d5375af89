use Rattle.cu_lift.proofs.LiftedPlacing.{names_step}
use Rattle.cu_names.proofs.Growth.{extends-trans}
use Rattle.cu_lift.proofs.placing.local_names.Goals as goal

pub loop-lifted-preserved : goal.loop-lifted-preserved
loop-lifted-preserved c = record {
  table = extends-trans c.loop-lifted.invariant.table c.in_ok-id.ensures.table;
  names = names_step c.args.names.now c.loop-lifted.names c.local_name.new.names c.args.function c.args.number c.loop-lifted.lifted-index c.args.numbers.now
      c.loop-lifted.ids.items c.push.new.self.items c.in_ok-id.id _ c.loop-lifted.invariant.table c.in_ok-id.ensures.table c.requires.known
      c.loop-lifted-test.true c.loop-lifted.invariant.names c.in_ok-id.ensures.known c.in_ok-id.ensures.text c.in_ok-push.ensures.items;
}
