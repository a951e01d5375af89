-- The exports stand after the name.
use Rattle.std.proofs.Common.{ap, map, refl, ◌∙◌}
use Rattle.std.specs.Option.{option_map}
use Rattle.cu_syntax.specs.declared.symbol.Symbol.TheVariants as symbol
use Rattle.cu_syntax.specs.Items.{export_meaning}
use Rattle.cu_syntax.specs.Reading.{Tree, exports_of, header_of, optional}
use Rattle.cu_syntax.specs.SubtreeMeaning.{tree_of}
use Rattle.cu_syntax.proofs.DeclarationLemmas.{has_part}
use Rattle.cu_syntax.proofs.ItemLemmas.{header_exports}
use Rattle.cu_syntax.proofs.ViewLemmas.{ok_as}
use Rattle.cu_syntax.proofs.text.Header.exports.Goals as goal

pub part-requires : goal.part-requires
part-requires c = has_part c.root.result.symbol symbol.Header 2 symbol.OptionalExports (c.root.ensures.symbol ∙ c.args.self.now.symbol) refl

pub returns-clause-meaning : goal.returns-clause-meaning
returns-clause-meaning c = λ names.
    ok_as (λ found. option_map (λ exports. map (export_meaning names) exports.items) found) c.exports.result (optional exports_of (tree_of names c.part.result)) _ (c.exports.ensures.meaning names)
    (header_exports c.root.result.symbol (tree_of names c.root.result) (tree_of names c.part.result) (c.root.ensures.symbol ∙ c.args.self.now.symbol) (c.root.result.fits names)
    (c.part.ensures.tree names)
    ∙ ap (λ (t : Tree). (header_of t).exports) (c.root.ensures.tree names))

pub returns-clause-owned : goal.returns-clause-owned
returns-clause-owned c = λ owner names whole. c.exports.ensures.owned owner names (c.part.ensures.owned owner names (c.root.ensures.owned owner names whole))
