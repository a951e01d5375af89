use Rattle.std.proofs.Common.{[], ◌∷◌, List, OnOk, refl, subst}
use Rattle.std.specs.List.{All}
use Rattle.cu_syntax.specs.declared.items.ConstructorDeclaration.{ConstructorDeclaration}
use Rattle.cu_syntax.specs.declared.items.ItemNode.TheVariants as item
use Rattle.cu_syntax.specs.declared.name.Name.{Name}
use Rattle.cu_syntax.specs.Names.{name_meaning}
use Rattle.cu_syntax.specs.Owners.{ConstructorDeclarationIsOf, ItemNodeIsOf, NameIsOf}
use Rattle.cu_uses.specs.declared.top_level.TopLevel.{TopLevel}
use Rattle.cu_uses.specs.Binders.{Names}
use Rattle.cu_uses.specs.Inside.Blocks.{signs}
use Rattle.cu_uses.specs.Gathered.{names_meaning}
use Rattle.cu_uses.specs.Inside.Tops.{Reads, constructor_names, top, top_declares}
use Rattle.cu_uses.proofs.FoundLemmas.{on_ok}
use Rattle.cu_uses.proofs.TopLemmas.{item_read, reads_values}
use Rattle.cu_uses.proofs.top_level.TopLevel.item.Goals as goal

pub returns-in-Import : goal.returns-in-Import
returns-in-Import c owner names differ is =
    let after : TopLevel = record { values = c.other.new.self; types = c.args.self.now.types; fixed = c.args.self.now.fixed } in
    item_read owner names c.args.item.now c.in_ok-_import.field-0 (item.Import c.in-Import._import) c.args.self.now after (c.in_ok-_import.ensures.meaning names) c.in-Import.is
    (reads_values owner names c.args.self.now after (Names []) [] (c.other.ensures owner names) refl refl)

pub returns-in-Fixity : goal.returns-in-Fixity
returns-in-Fixity c owner names differ is =
    let of = subst (ItemNodeIsOf owner names) c.in-Fixity.is (c.in_ok-_import.ensures.owned owner names is) in
    on_ok c.fixity.result
    (item_read owner names c.args.item.now c.in_ok-_import.field-0 (item.Fixity c.in-Fixity.field-0 c.in-Fixity.field-1 c.in-Fixity.field-2 c.in-Fixity.operators) c.args.self.now c.fixity.new.self
    (c.in_ok-_import.ensures.meaning names) c.in-Fixity.is)
    (subst (λ (xs : List Name). All (NameIsOf owner names) xs → OnOk c.fixity.result (Reads owner names c.args.self.now (top (Names []) [] [] (names_meaning names xs)) c.fixity.new.self))
    c.as_slice.ensures.value (c.fixity.ensures owner names) of.1)

pub returns-in-Data : goal.returns-in-Data
returns-in-Data c owner names differ is =
    let of = subst (ItemNodeIsOf owner names) c.in-Data.is (c.in_ok-_import.ensures.owned owner names is) in
    on_ok c.data.result
    (item_read owner names c.args.item.now c.in_ok-_import.field-0 (item.Data c.in-Data.field-0 c.in-Data.name c.in-Data._parameters c.in-Data.constructors) c.args.self.now c.data.new.self
    (c.in_ok-_import.ensures.meaning names) c.in-Data.is)
    (subst (λ (xs : List ConstructorDeclaration). All (ConstructorDeclarationIsOf owner names) xs
    → OnOk c.data.result (Reads owner names c.args.self.now (top (Names (names_meaning names (constructor_names xs))) [] (name_meaning names c.in-Data.name ∷ []) []) c.data.new.self))
    c.as_slice-in-Data.ensures.value (c.data.ensures owner names of.1) of.3)

pub returns-in-Synonym : goal.returns-in-Synonym
returns-in-Synonym c owner names differ is =
    let of = subst (ItemNodeIsOf owner names) c.in-Synonym.is (c.in_ok-_import.ensures.owned owner names is) in
    on_ok c.synonym.result
    (item_read owner names c.args.item.now c.in_ok-_import.field-0 (item.Synonym c.in-Synonym.field-0 c.in-Synonym.name c.in-Synonym._parameters c.in-Synonym.field-3) c.args.self.now c.synonym.new.self
    (c.in_ok-_import.ensures.meaning names) c.in-Synonym.is)
    (c.synonym.ensures owner names of.1)

pub returns-in-Declaration : goal.returns-in-Declaration
returns-in-Declaration c owner names differ is =
    let of = subst (ItemNodeIsOf owner names) c.in-Declaration.is (c.in_ok-_import.ensures.owned owner names is) in
    let after : TopLevel = record { values = c.top_declaration.new.self; types = c.args.self.now.types; fixed = c.args.self.now.fixed } in
    on_ok c.top_declaration.result
    (λ gathered. item_read owner names c.args.item.now c.in_ok-_import.field-0 (item.Declaration c.in-Declaration.d) c.args.self.now after (c.in_ok-_import.ensures.meaning names) c.in-Declaration.is
    (reads_values owner names c.args.self.now after (top_declares names c.in-Declaration.d) (signs names c.in-Declaration.d) gathered refl refl))
    (c.top_declaration.ensures owner names differ of)
