-- Each of the three forms says what its tree says.
use Rattle.std.proofs.Common.{[], ◌∷◌}
use Rattle.cu_lex.specs.Reading.{position_of}
use Rattle.cu_syntax.specs.declared.symbol.Symbol.TheVariants as symbol
use Rattle.cu_syntax.specs.Declarations.{declarations_meaning}
use Rattle.cu_syntax.specs.SubtreeMeaning.{tree_of}
use Rattle.cu_syntax.proofs.ExpressionParts.{condition_holds, generator_is, local_is}
use Rattle.cu_syntax.proofs.ShapeLemmas.{not_among}
use Rattle.cu_syntax.proofs.OwnerLemmas.{same_part}
use Rattle.cu_syntax.proofs.expression_forms.qualifier_of.Goals as goal

pub unreachable-requires : goal.unreachable-requires
unreachable-requires c =
    let other = c.in_default in
    not_among c.args.tree.symbol (symbol.Generator ∷ symbol.LetQual ∷ symbol.Exp ∷ []) (other.not-Generator, (other.not-LetQual, (other.not-Exp, tt))) c.requires

pub returns-in-Generator-clause-meaning : goal.returns-in-Generator-clause-meaning
returns-in-Generator-clause-meaning c = λ names.
    generator_is names c.args.tree.symbol (tree_of names c.args.tree) c.part.result c.part-in-Generator.result (position_of c.place.result) c.new-pattern.result c.new-list.result c.in-Generator.is
    (c.args.tree.fits names) (c.place.ensures.position names) c.new-pattern.ensures c.part.ensures.symbol (c.part.ensures.tree names) c.new-list.ensures c.part-in-Generator.ensures.symbol
    (c.part-in-Generator.ensures.tree names)

pub returns-in_ok-declarations-in-LetQual-clause-meaning : goal.returns-in_ok-declarations-in-LetQual-clause-meaning
returns-in_ok-declarations-in-LetQual-clause-meaning c = λ names.
    local_is c.args.tree.symbol (tree_of names c.args.tree) (tree_of names c.part-in-LetQual.result) (position_of c.place-in-LetQual.result)
    (declarations_meaning names c.in_ok-declarations-in-LetQual.declarations.items) c.in-LetQual.is (c.args.tree.fits names) (c.place-in-LetQual.ensures.position names) (c.part-in-LetQual.ensures.tree names)
    (c.in_ok-declarations-in-LetQual.ensures.meaning names)

pub returns-in-Exp-clause-meaning : goal.returns-in-Exp-clause-meaning
returns-in-Exp-clause-meaning c = λ names.
    condition_holds names c.args.tree (position_of c.place-in-Exp.result) c.new.result c.in-Exp.is (c.args.tree.fits names) (c.place-in-Exp.ensures.position names) c.new.ensures

pub returns-in-Generator-clause-owned : goal.returns-in-Generator-clause-owned
returns-in-Generator-clause-owned c = λ owner names whole. (c.place.ensures.owned owner names whole, same_part owner names c.part.result c.new-pattern.result.tree c.new-pattern.ensures (c.part.ensures.owned owner names whole), same_part owner names c.part-in-Generator.result c.new-list.result.tree c.new-list.ensures (c.part-in-Generator.ensures.owned owner names whole))

pub returns-in_ok-declarations-in-LetQual-clause-owned : goal.returns-in_ok-declarations-in-LetQual-clause-owned
returns-in_ok-declarations-in-LetQual-clause-owned c = λ owner names whole. (c.place-in-LetQual.ensures.owned owner names whole, c.in_ok-declarations-in-LetQual.ensures.owned owner names (c.part-in-LetQual.ensures.owned owner names whole))

pub returns-in-Exp-clause-owned : goal.returns-in-Exp-clause-owned
returns-in-Exp-clause-owned c = λ owner names whole. (c.place-in-Exp.ensures.owned owner names whole, same_part owner names c.args.tree c.new.result.tree c.new.ensures whole)
