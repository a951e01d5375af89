use Rattle.std.proofs.Common.{List, OnOk, subst}
use Rattle.std.specs.List.{All}
use Rattle.cu_syntax.specs.declared.items.ConstructorDeclaration.{ConstructorDeclaration}
use Rattle.cu_syntax.specs.declared.items.ItemNode.TheVariants as item
use Rattle.cu_syntax.specs.Owners.{ConstructorDeclarationIsOf, ItemNodeIsOf}
use Rattle.cu_declared.specs.Inside.Gathered.{Adds}
use Rattle.cu_declared.specs.Inside.Items.{in_fields}
use Rattle.cu_declared.proofs.AddsLemmas.{adds_none, on_ok}
use Rattle.cu_declared.proofs.ItemLemmas.{item_found}
use Rattle.cu_declared.proofs.items.item_uses.Goals as goal

pub returns-in-Import : goal.returns-in-Import
returns-in-Import c owner names is =
    item_found owner names c.args.item.now c.in_ok-node.node (item.Import c.in-Import._import) c.args.found.now.items c.args.found.now.items (c.in_ok-node.ensures.meaning names) c.in-Import.is
    (adds_none owner names c.args.found.now.items)

pub returns-in-Fixity : goal.returns-in-Fixity
returns-in-Fixity c owner names is =
    item_found owner names c.args.item.now c.in_ok-node.node (item.Fixity c.in-Fixity.field-0 c.in-Fixity.field-1 c.in-Fixity.field-2 c.in-Fixity._operators) c.args.found.now.items c.args.found.now.items
    (c.in_ok-node.ensures.meaning names) c.in-Fixity.is (adds_none owner names c.args.found.now.items)

pub returns-in-Data : goal.returns-in-Data
returns-in-Data c owner names is =
    let of = subst (ItemNodeIsOf owner names) c.in-Data.is (c.in_ok-node.ensures.owned owner names is) in
    on_ok c.fields_uses.result
    (item_found owner names c.args.item.now c.in_ok-node.node (item.Data c.in-Data.field-0 c.in-Data.field-1 c.in-Data._parameters c.in-Data.constructors) c.args.found.now.items c.fields_uses.new.found.items
    (c.in_ok-node.ensures.meaning names) c.in-Data.is)
    (subst (λ (xs : List ConstructorDeclaration). All (ConstructorDeclarationIsOf owner names) xs
    → OnOk c.fields_uses.result (Adds owner names c.args.found.now.items (in_fields names xs) c.fields_uses.new.found.items)) c.as_slice.ensures.value (c.fields_uses.ensures owner names) of.3)

pub returns-in-Synonym : goal.returns-in-Synonym
returns-in-Synonym c owner names is =
    let of = subst (ItemNodeIsOf owner names) c.in-Synonym.is (c.in_ok-node.ensures.owned owner names is) in
    on_ok c.type_term.result
    (item_found owner names c.args.item.now c.in_ok-node.node (item.Synonym c.in-Synonym.field-0 c.in-Synonym.field-1 c.in-Synonym._parameters c.in-Synonym.meant) c.args.found.now.items c.type_term.new.found.items
    (c.in_ok-node.ensures.meaning names) c.in-Synonym.is)
    (c.type_term.ensures owner names of.3)

pub returns-in-Declaration : goal.returns-in-Declaration
returns-in-Declaration c owner names is =
    let of = subst (ItemNodeIsOf owner names) c.in-Declaration.is (c.in_ok-node.ensures.owned owner names is) in
    on_ok c.declaration.result
    (item_found owner names c.args.item.now c.in_ok-node.node (item.Declaration c.in-Declaration.d) c.args.found.now.items c.declaration.new.found.items (c.in_ok-node.ensures.meaning names) c.in-Declaration.is)
    (c.declaration.ensures owner names of)
