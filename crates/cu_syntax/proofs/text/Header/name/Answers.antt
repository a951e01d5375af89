-- The name stands after the word.
use Rattle.std.proofs.Common.{ap, refl, ◌∙◌}
use Rattle.cu_syntax.specs.declared.symbol.Symbol.TheVariants as symbol
use Rattle.cu_syntax.specs.Names.{module_name_meaning}
use Rattle.cu_syntax.specs.Reading.{Tree, header_of}
use Rattle.cu_syntax.specs.SubtreeMeaning.{tree_of}
use Rattle.cu_syntax.proofs.DeclarationLemmas.{has_part}
use Rattle.cu_syntax.proofs.ItemLemmas.{header_name}
use Rattle.cu_syntax.proofs.text.Header.name.Goals as goal

pub part-requires : goal.part-requires
part-requires c = has_part c.root.result.symbol symbol.Header 1 symbol.ModuleName (c.root.ensures.symbol ∙ c.args.self.now.symbol) refl

pub returns-clause-meaning : goal.returns-clause-meaning
returns-clause-meaning c = λ names.
    header_name c.root.result.symbol (tree_of names c.root.result) (tree_of names c.part.result) (module_name_meaning names c.module_name.result)
    (c.root.ensures.symbol ∙ c.args.self.now.symbol) (c.root.result.fits names) (c.part.ensures.tree names) (c.module_name.ensures.meaning names)
    ∙ ap (λ (t : Tree). (header_of t).name) (c.root.ensures.tree names)

pub returns-clause-owned : goal.returns-clause-owned
returns-clause-owned c = λ owner names whole. c.module_name.ensures.owned owner names (c.part.ensures.owned owner names (c.root.ensures.owned owner names whole))
