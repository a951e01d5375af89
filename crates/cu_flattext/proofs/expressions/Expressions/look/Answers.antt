use Rattle.cu_flattext.proofs.Looks.{no_depth, not_there, there}
use Rattle.cu_flattext.proofs.expressions.Expressions.look.Goals as goal

pub returns-then-depth-eq0 : goal.returns-then-depth-eq0
returns-then-depth-eq0 c = no_depth c.args.self.now.wording.flat.now c.args.depth c.args.e c.if-depth-eq0.true

pub returns-in-None : goal.returns-in-None
returns-in-None c = not_there c.args.self.now.wording.flat.now c.args.depth c.args.e c.in-None.ensures

pub returns-in-Some : goal.returns-in-Some
returns-in-Some c =
    there c.args.self.now.wording.flat.now c.args.depth c.args.e _ c.in-Some.expr.now c.if-depth-eq0.false c.in-Some.ensures
