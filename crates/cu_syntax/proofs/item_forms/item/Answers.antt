-- The tree is one of the forms.
use Rattle.std.proofs.Common.{ap, refl, sym}
use Rattle.cu_syntax.specs.declared.symbol.Symbol.TheVariants as symbol
use Rattle.cu_syntax.specs.Items.{item_node}
use Rattle.cu_syntax.specs.Reading.{item_as}
use Rattle.cu_syntax.specs.SubtreeMeaning.{tree_of}
use Rattle.cu_syntax.proofs.ItemLemmas.{declaration_item, item_nodes}
use Rattle.cu_syntax.proofs.ShapeLemmas.{not_among}
use Rattle.cu_syntax.proofs.ViewLemmas.{ok_as}
use Rattle.cu_syntax.proofs.OwnerLemmas.{same_part}
use Rattle.cu_syntax.proofs.item_forms.item.Goals as goal

pub unreachable-requires : goal.unreachable-requires
unreachable-requires c =
    let other = c.in_default in
    not_among c.args.tree.symbol item_nodes (other.not-FixityDecl, (other.not-DataDecl, (other.not-SynonymDecl, (other.not-Signature, (other.not-TopRule, tt))))) c.requires

pub returns-in-FixityDecl-clause-meaning : goal.returns-in-FixityDecl-clause-meaning
returns-in-FixityDecl-clause-meaning c = λ names.
    let tree = tree_of names c.args.tree in
    ok_as (item_node names) c.fixity.result (item_as symbol.FixityDecl tree) (item_as c.args.tree.symbol tree) (c.fixity.ensures.meaning names) (sym (ap (λ a. item_as a tree) c.in-FixityDecl.is))

pub returns-in-DataDecl-clause-meaning : goal.returns-in-DataDecl-clause-meaning
returns-in-DataDecl-clause-meaning c = λ names.
    let tree = tree_of names c.args.tree in
    ok_as (item_node names) c.data.result (item_as symbol.DataDecl tree) (item_as c.args.tree.symbol tree) (c.data.ensures.meaning names) (sym (ap (λ a. item_as a tree) c.in-DataDecl.is))

pub returns-in-SynonymDecl-clause-meaning : goal.returns-in-SynonymDecl-clause-meaning
returns-in-SynonymDecl-clause-meaning c = λ names.
    let tree = tree_of names c.args.tree in
    ok_as (item_node names) c.synonym.result (item_as symbol.SynonymDecl tree) (item_as c.args.tree.symbol tree) (c.synonym.ensures.meaning names) (sym (ap (λ a. item_as a tree) c.in-SynonymDecl.is))

pub returns-in-Signature-clause-meaning : goal.returns-in-Signature-clause-meaning
returns-in-Signature-clause-meaning c = λ names. declaration_item names c.args.tree c.new.result symbol.Signature c.new.ensures c.in-Signature.is (λ tree. refl)

pub returns-in-TopRule-clause-meaning : goal.returns-in-TopRule-clause-meaning
returns-in-TopRule-clause-meaning c = λ names. declaration_item names c.args.tree c.new-in-TopRule.result symbol.TopRule c.new-in-TopRule.ensures c.in-TopRule.is (λ tree. refl)

pub returns-in-FixityDecl-clause-owned : goal.returns-in-FixityDecl-clause-owned
returns-in-FixityDecl-clause-owned c = λ owner names whole. c.fixity.ensures.owned owner names whole

pub returns-in-DataDecl-clause-owned : goal.returns-in-DataDecl-clause-owned
returns-in-DataDecl-clause-owned c = λ owner names whole. c.data.ensures.owned owner names whole

pub returns-in-SynonymDecl-clause-owned : goal.returns-in-SynonymDecl-clause-owned
returns-in-SynonymDecl-clause-owned c = λ owner names whole. c.synonym.ensures.owned owner names whole

pub returns-in-Signature-clause-owned : goal.returns-in-Signature-clause-owned
returns-in-Signature-clause-owned c = λ owner names whole. same_part owner names c.args.tree c.new.result.tree c.new.ensures whole

pub returns-in-TopRule-clause-owned : goal.returns-in-TopRule-clause-owned
returns-in-TopRule-clause-owned c = λ owner names whole. same_part owner names c.args.tree c.new-in-TopRule.result.tree c.new-in-TopRule.ensures whole
