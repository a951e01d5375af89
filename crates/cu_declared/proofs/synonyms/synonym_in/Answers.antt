use Rattle.std.proofs.Common.{List, subst, sym}
use Rattle.cu_syntax.specs.declared.items.ItemNode.TheVariants as item
use Rattle.cu_syntax.specs.Owners.{ItemNodeIsOf}
use Rattle.cu_declared.specs.declared.found.TypeUse.{TypeUse}
use Rattle.cu_declared.specs.Inside.Gathered.{Adds, in_type}
use Rattle.cu_declared.specs.Inside.Items.{item_synonyms}
use Rattle.cu_declared.proofs.ItemLemmas.{synonyms_by_node}
use Rattle.cu_declared.proofs.SynonymLemmas.{one_kept}
use Rattle.cu_declared.proofs.synonyms.synonym_in.Goals as goal

pub returns-in-Import : goal.returns-in-Import
returns-in-Import c owner names is = sym (synonyms_by_node names c.args.item.now c.in_ok-node.node (item.Import c.in-Import._import) (c.in_ok-node.ensures.meaning names) c.in-Import.is)

pub returns-in-Fixity : goal.returns-in-Fixity
returns-in-Fixity c owner names is =
    sym (synonyms_by_node names c.args.item.now c.in_ok-node.node (item.Fixity c.in-Fixity.field-0 c.in-Fixity.field-1 c.in-Fixity.field-2 c.in-Fixity._operators) (c.in_ok-node.ensures.meaning names) c.in-Fixity.is)

pub returns-in-Data : goal.returns-in-Data
returns-in-Data c owner names is =
    sym (synonyms_by_node names c.args.item.now c.in_ok-node.node (item.Data c.in-Data.field-0 c.in-Data.field-1 c.in-Data._parameters c.in-Data._constructors) (c.in_ok-node.ensures.meaning names) c.in-Data.is)

pub returns-in-Declaration : goal.returns-in-Declaration
returns-in-Declaration c owner names is =
    sym (synonyms_by_node names c.args.item.now c.in_ok-node.node (item.Declaration c.in-Declaration.field-0) (c.in_ok-node.ensures.meaning names) c.in-Declaration.is)

pub returns-in_ok-type_term-in-Synonym : goal.returns-in_ok-type_term-in-Synonym
returns-in_ok-type_term-in-Synonym c owner names is =
    let of = subst (ItemNodeIsOf owner names) c.in-Synonym.is (c.in_ok-node.ensures.owned owner names is) in
    one_kept owner names c.in-Synonym.place c.in-Synonym.name.text c.type_term.new.found c.in-Synonym.meant (item_synonyms names c.args.item.now) of.0 of.1.text
    (subst (λ (xs : List TypeUse). Adds owner names xs (in_type names c.in-Synonym.meant) c.type_term.new.found.items) c.new-uses.ensures.items (c.in_ok-type_term-in-Synonym.ensures owner names of.3))
    (synonyms_by_node names c.args.item.now c.in_ok-node.node (item.Synonym c.in-Synonym.place c.in-Synonym.name c.in-Synonym._parameters c.in-Synonym.meant) (c.in_ok-node.ensures.meaning names) c.in-Synonym.is)
