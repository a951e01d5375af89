-- The token is an Int literal, whose number isn't negative.
use Rattle.std.proofs.Common.{rules, [], subst, sym}
use Rattle.std.proofs.lemmas.Int.{to_z-of_z}
use Rattle.std.specs.Int.{IsNonNegative}
use mir.Syntax.{w128}
use mir.Val.{SFits}
use Rattle.cu_lex.specs.Reading.{HasNatural}
use Rattle.cu_syntax.specs.SubtreeMeaning.{tree_of}
use Rattle.cu_syntax.proofs.NameLaw.{only_ints}
use Rattle.cu_syntax.proofs.subtree.Subtree.number.Goals as goal

pub unreachable-requires : goal.unreachable-requires
unreachable-requires c = only_ints c.args.self.symbol (tree_of [] c.args.self) c.token.result.now c.requires (c.args.self.fits []) (c.token.ensures.token []) c.in_default.not-Int

pub returns-clause-natural : goal.returns-clause-natural
returns-clause-natural c = λ owner names whole.
    let in_range : SFits w128 c.in-Int.number = search rules in
    subst IsNonNegative (sym (to_z-of_z w128 c.in-Int.number in_range)) (subst HasNatural c.in-Int.is (c.token.ensures.owned owner names whole).natural)
