use Rattle.std.proofs.Common.{[], refl}
use Rattle.cu_desugar.specs.Inside.Texts.{nodes_in}
use Rattle.cu_desugar.proofs.texts.FunctionText.around.Goals as goal

pub returns : goal.returns
returns c t names top is = record {
  top = top;
  nodes = nodes_in t c.args.self.now;
  last = [];
  numbered = is.numbered;
  dependent = is.dependent;
  numbers = refl;
}
