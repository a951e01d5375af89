-- A name is a token, an alternative, or stands between two tokens.
use Rattle.std.proofs.Common.{[], ap, sym, ◌∙◌}
use Rattle.cu_syntax.specs.Inside.Meaning.{rule_meaning}
use Rattle.cu_syntax.specs.Inside.NameTokens.{has_name}
use Rattle.cu_syntax.specs.Reading.{name_token}
use Rattle.cu_syntax.specs.SubtreeMeaning.{tree_of}
use Rattle.cu_syntax.specs.Table.{rule_of}
use Rattle.cu_syntax.specs.declared.symbol.Symbol.TheVariants as symbol
use Rattle.cu_syntax.proofs.NameLaw.{alternative_named, closed, middle, middle_part, only_names, token_inside}
use Rattle.cu_syntax.proofs.subtree.Subtree.inside.Goals as goal

pub bounds-parts-1 : goal.bounds-parts-1
bounds-parts-1 c = (middle c.args.self.symbol c.in-Sequence.parts.now (sym c.rule.ensures ∙ ap rule_meaning c.in-Sequence.is) c.requires.name).within

pub part-requires : goal.part-requires
part-requires c = middle_part c.args.self.symbol c.in-Sequence.parts.now _ (sym c.rule.ensures ∙ ap rule_meaning c.in-Sequence.is) c.requires.name

pub unreachable-requires : goal.unreachable-requires
unreachable-requires c =
    only_names c.rule.result (rule_of c.args.self.symbol) c.rule.ensures (closed c.args.self.symbol c.requires.name) c.requires.leaf c.in_default.not-Sequence c.in_default.not-Choice

pub returns-in-Choice-clause-name : goal.returns-in-Choice-clause-name
returns-in-Choice-clause-name c =
    let took = c.chosen.ensures.tree [] in
    alternative_named c.args.self.symbol c.in-Choice.field-0.now took.number c.chosen.result.symbol (sym c.rule.ensures ∙ ap rule_meaning c.in-Choice.is) c.requires.name took.symbol

pub returns-in-Sequence-clause-name : goal.returns-in-Sequence-clause-name
returns-in-Sequence-clause-name c =
    ap has_name c.part.ensures.symbol ∙ (middle c.args.self.symbol c.in-Sequence.parts.now (sym c.rule.ensures ∙ ap rule_meaning c.in-Sequence.is) c.requires.name).named symbol.VarId

pub returns-in-Sequence-clause-token : goal.returns-in-Sequence-clause-token
returns-in-Sequence-clause-token c = λ names.
    token_inside c.args.self.symbol c.in-Sequence.parts.now (tree_of names c.args.self) (sym c.rule.ensures ∙ ap rule_meaning c.in-Sequence.is) c.requires.name (c.args.self.fits names)
    ∙ ap name_token (sym (c.part.ensures.tree names))
