use Rattle.cu_uses.proofs.FoundLemmas.{adds_none, adds_one}
use Rattle.cu_uses.proofs.top_level.TopLevel.synonym.Goals as goal

pub returns : goal.returns
returns c owner names of = record {
  values = c.other.ensures owner names;
  types = adds_one owner names c.args.self.now.types.items c.push.new.self.items c.args.name of c.in_ok-push.ensures.items;
  fixed = adds_none owner names c.args.self.now.fixed.items;
}
