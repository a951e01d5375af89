use Rattle.std.proofs.Common.{◌∙◌, None, ap, false}
use Rattle.cu_syntax.specs.Syntax.{expression_position}
use Rattle.cu_toplevel.proofs.goals.goal_mark.Goals as goal

pub returns : goal.returns
returns c = λ names around is.
    let owner = c.owner.ensures names around is in
    let at = c.place-place.ensures.position names ∙ ap expression_position (c.expression.ensures.meaning names) in
    λ j. record {
      «module» = c.args.root;
      public = false;
      declared = None;
      captured = 0;
      place = record { «module» = owner j; line = (at j).line; column = (at j).column };
    }
