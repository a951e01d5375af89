use Rattle.cu_uses.proofs.BlockLemmas.{adds_all}
use Rattle.cu_uses.proofs.FoundLemmas.{adds_none}
use Rattle.cu_uses.proofs.top_level.TopLevel.fixity.Goals as goal

pub returns : goal.returns
returns c owner names of = record {
  values = c.other.ensures owner names;
  types = adds_none owner names c.args.self.now.types.items;
  fixed = adds_all owner names c.args.self.now.fixed.items c.extend_from_slice.new.self.items c.args.operators.now of c.in_ok-extend_from_slice.ensures.items;
}
