-- The first token of a literal is one of three kinds, and no number is negative.
use Rattle.std.proofs.Common.{rules, [], subst, sym}
use Rattle.std.proofs.lemmas.Int.{to_z-of_z}
use Rattle.std.specs.Int.{IsNonNegative}
use mir.Syntax.{w128}
use mir.Val.{SFits}
use Rattle.cu_lex.specs.Reading.{HasNatural}
use Rattle.cu_syntax.specs.SubtreeMeaning.{tree_of}
use Rattle.cu_syntax.proofs.NameLaw.{only_literals}
use Rattle.cu_syntax.proofs.subtree.Subtree.literal.Goals as goal

pub unreachable-requires : goal.unreachable-requires
unreachable-requires c =
    only_literals c.args.self.symbol (tree_of [] c.args.self) c.first_token.result.now c.requires (c.args.self.fits []) (c.first_token.ensures.token []) c.in_default.not-Int c.in_default.not-Char
    c.in_default.not-String

pub returns-in-Int-clause-natural : goal.returns-in-Int-clause-natural
returns-in-Int-clause-natural c = λ owner names whole.
    let in_range : SFits w128 c.in-Int.number = search rules in
    subst IsNonNegative (sym (to_z-of_z w128 c.in-Int.number in_range)) (subst HasNatural c.in-Int.is (c.first_token.ensures.owned owner names whole).natural)
