-- A constructor between two types, or before types.
use Rattle.cu_lex.specs.Reading.{position_of}
use Rattle.cu_syntax.specs.Names.{name_meaning}
use Rattle.cu_syntax.specs.SubtreeMeaning.{tree_of}
use Rattle.cu_syntax.specs.Owners.{TypeIsOf}
use Rattle.cu_syntax.proofs.ItemLemmas.{infix_constructor_is, prefix_constructor_is}
use Rattle.cu_syntax.proofs.OwnerLemmas.{same_part, two}
use Rattle.cu_syntax.proofs.item_forms.constructor.Goals as goal

pub returns-in_ok-vec-in-InfixConDecl-clause-meaning : goal.returns-in_ok-vec-in-InfixConDecl-clause-meaning
returns-in_ok-vec-in-InfixConDecl-clause-meaning c = λ names.
    infix_constructor_is names c.args.tree.symbol (tree_of names c.args.tree) (tree_of names c.part-in-InfixConDecl-2.result) c.part.result c.part-in-InfixConDecl.result
    (position_of c.place.result) (name_meaning names c.name.result) c.new-left.result c.new-right.result c.in_ok-vec-in-InfixConDecl.field-0.items c.in-InfixConDecl.is
    (c.args.tree.fits names) (c.place.ensures.position names) (c.part-in-InfixConDecl-2.ensures.tree names) (c.name.ensures.meaning names) c.new-left.ensures c.part.ensures.symbol
    (c.part.ensures.tree names) c.new-right.ensures c.part-in-InfixConDecl.ensures.symbol (c.part-in-InfixConDecl.ensures.tree names) c.in_ok-vec-in-InfixConDecl.ensures.items

pub returns-in_ok-all-in-PrefixConDecl-clause-meaning : goal.returns-in_ok-all-in-PrefixConDecl-clause-meaning
returns-in_ok-all-in-PrefixConDecl-clause-meaning c = λ names.
    prefix_constructor_is names c.args.tree.symbol (tree_of names c.args.tree) (tree_of names c.part-in-PrefixConDecl.result) (tree_of names c.part-in-PrefixConDecl-2.result)
    (position_of c.place-in-PrefixConDecl.result) (name_meaning names c.name-in-PrefixConDecl.result) c.in_ok-all-in-PrefixConDecl.field-0.items c.in-PrefixConDecl.is
    (c.args.tree.fits names) (c.place-in-PrefixConDecl.ensures.position names) (c.part-in-PrefixConDecl.ensures.tree names) (c.name-in-PrefixConDecl.ensures.meaning names)
    (c.part-in-PrefixConDecl-2.ensures.tree names) (c.in_ok-all-in-PrefixConDecl.ensures.trees names) c.in_ok-all-in-PrefixConDecl.ensures.symbols

pub returns-in_ok-vec-in-InfixConDecl-clause-owned : goal.returns-in_ok-vec-in-InfixConDecl-clause-owned
returns-in_ok-vec-in-InfixConDecl-clause-owned c = λ owner names whole. (
  c.place.ensures.owned owner names whole,
  c.name.ensures.owned owner names (c.part-in-InfixConDecl-2.ensures.owned owner names whole),
  two (TypeIsOf owner names) c.in_ok-vec-in-InfixConDecl.field-0.items c.new-left.result c.new-right.result c.in_ok-vec-in-InfixConDecl.ensures.items
      (same_part owner names c.part.result c.new-left.result.tree c.new-left.ensures (c.part.ensures.owned owner names whole)) (same_part owner names c.part-in-InfixConDecl.result c.new-right.result.tree c.new-right.ensures (c.part-in-InfixConDecl.ensures.owned owner names whole)),
)

pub returns-in_ok-all-in-PrefixConDecl-clause-owned : goal.returns-in_ok-all-in-PrefixConDecl-clause-owned
returns-in_ok-all-in-PrefixConDecl-clause-owned c = λ owner names whole. (c.place-in-PrefixConDecl.ensures.owned owner names whole, c.name-in-PrefixConDecl.ensures.owned owner names (c.part-in-PrefixConDecl.ensures.owned owner names whole), c.in_ok-all-in-PrefixConDecl.ensures.owned owner names (c.part-in-PrefixConDecl-2.ensures.owned owner names whole))
