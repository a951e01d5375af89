-- A number after a minus, at the place of the minus.
use Rattle.std.proofs.Common.{rules, subst, sym}
use Rattle.std.proofs.lemmas.Int.{to_z-of_z}
use Rattle.std.specs.Int.{IsNonNegative}
use mir.Syntax.{w128}
use mir.Val.{SFits}
use Rattle.cu_syntax.proofs.pattern_forms.negative.Goals as goal

pub returns-clause-owned : goal.returns-clause-owned
returns-clause-owned c = λ owner names whole.
    let in_range : SFits w128 c.number.result = search rules in (
      c.place.ensures.owned owner names whole,
      subst IsNonNegative (sym (to_z-of_z w128 c.number.result in_range)) (c.number.ensures.natural owner names (c.part.ensures.owned owner names whole)),
    )
