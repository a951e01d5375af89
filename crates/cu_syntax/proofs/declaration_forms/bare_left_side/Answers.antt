-- Each of the forms says what its parts say.
use Rattle.cu_syntax.specs.Names.{name_meaning}
use Rattle.cu_syntax.specs.SubtreeMeaning.{tree_of}
use Rattle.cu_syntax.specs.Owners.{PatternIsOf}
use Rattle.cu_syntax.proofs.DeclarationLemmas.{infix_is, pattern_side_is, prefix_is}
use Rattle.cu_syntax.proofs.OwnerLemmas.{same_part, two}
use Rattle.cu_syntax.proofs.declaration_forms.bare_left_side.Goals as goal

pub returns-in_ok-vec-in-InfixLhs-clause-meaning : goal.returns-in_ok-vec-in-InfixLhs-clause-meaning
returns-in_ok-vec-in-InfixLhs-clause-meaning c = λ names.
    infix_is names c.args.tree.symbol (tree_of names c.args.tree) c.part.result c.part-in-InfixLhs.result (tree_of names c.part-in-InfixLhs-2.result) (name_meaning names c.name-name.result)
    c.new-left.result c.new-right.result c.in_ok-vec-in-InfixLhs.field-0.items c.in-InfixLhs.is (c.args.tree.fits names) c.new-left.ensures c.part.ensures.symbol
    (c.part.ensures.tree names) c.new-right.ensures c.part-in-InfixLhs.ensures.symbol (c.part-in-InfixLhs.ensures.tree names) (c.part-in-InfixLhs-2.ensures.tree names)
    (c.name-name.ensures.meaning names) c.in_ok-vec-in-InfixLhs.ensures.items

pub returns-in_ok-parameters-in-PrefixLhs-clause-meaning : goal.returns-in_ok-parameters-in-PrefixLhs-clause-meaning
returns-in_ok-parameters-in-PrefixLhs-clause-meaning c = λ names.
    prefix_is names c.args.tree.symbol (tree_of names c.args.tree) (tree_of names c.part-in-PrefixLhs.result) (tree_of names c.part-in-PrefixLhs-2.result)
    (name_meaning names c.name-name-in-PrefixLhs.result) c.in_ok-parameters-in-PrefixLhs.parameters.items c.in-PrefixLhs.is (c.args.tree.fits names)
    (c.part-in-PrefixLhs.ensures.tree names) (c.name-name-in-PrefixLhs.ensures.meaning names) (c.part-in-PrefixLhs-2.ensures.tree names)
    (c.in_ok-parameters-in-PrefixLhs.ensures.trees names) c.in_ok-parameters-in-PrefixLhs.ensures.symbols

pub returns-in-PatternLhs-clause-meaning : goal.returns-in-PatternLhs-clause-meaning
returns-in-PatternLhs-clause-meaning c = λ names.
    pattern_side_is names c.args.tree.symbol (tree_of names c.args.tree) c.part-in-PatternLhs.result c.new.result c.in-PatternLhs.is (c.args.tree.fits names) c.new.ensures
    c.part-in-PatternLhs.ensures.symbol (c.part-in-PatternLhs.ensures.tree names)

pub returns-in_ok-vec-in-InfixLhs-clause-owned : goal.returns-in_ok-vec-in-InfixLhs-clause-owned
returns-in_ok-vec-in-InfixLhs-clause-owned c = λ owner names whole. (
  c.name-name.ensures.owned owner names (c.part-in-InfixLhs-2.ensures.owned owner names whole),
  two (PatternIsOf owner names) c.in_ok-vec-in-InfixLhs.field-0.items c.new-left.result c.new-right.result c.in_ok-vec-in-InfixLhs.ensures.items
      (same_part owner names c.part.result c.new-left.result.tree c.new-left.ensures (c.part.ensures.owned owner names whole)) (same_part owner names c.part-in-InfixLhs.result c.new-right.result.tree c.new-right.ensures (c.part-in-InfixLhs.ensures.owned owner names whole)),
)

pub returns-in_ok-parameters-in-PrefixLhs-clause-owned : goal.returns-in_ok-parameters-in-PrefixLhs-clause-owned
returns-in_ok-parameters-in-PrefixLhs-clause-owned c = λ owner names whole. (c.name-name-in-PrefixLhs.ensures.owned owner names (c.part-in-PrefixLhs.ensures.owned owner names whole), c.in_ok-parameters-in-PrefixLhs.ensures.owned owner names (c.part-in-PrefixLhs-2.ensures.owned owner names whole))

pub returns-in-PatternLhs-clause-owned : goal.returns-in-PatternLhs-clause-owned
returns-in-PatternLhs-clause-owned c = λ owner names whole. same_part owner names c.part-in-PatternLhs.result c.new.result.tree c.new.ensures (c.part-in-PatternLhs.ensures.owned owner names whole)
