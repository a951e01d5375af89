use Rattle.std.proofs.Common.{[], ◌∷◌, ◌++◌, List, OnOk, map, subst}
use Rattle.std.specs.List.{All}
use Rattle.cu_syntax.specs.declared.items.ConstructorDeclaration.{ConstructorDeclaration}
use Rattle.cu_syntax.specs.declared.items.ItemNode.TheVariants as item
use Rattle.cu_syntax.specs.declared.name.Name.{Name}
use Rattle.cu_syntax.specs.Owners.{ConstructorDeclarationIsOf, ItemNodeIsOf, NameIsOf}
use Rattle.cu_uses.specs.Gathered.{names_meaning}
use Rattle.cu_uses.specs.Inside.Tops.{fields_ask, types_ask}
use Rattle.cu_uses.specs.Inside.Worlds.{Told}
use Rattle.cu_uses.proofs.FoundLemmas.{on_ok}
use Rattle.cu_uses.proofs.ToldLemmas.{told_none}
use Rattle.cu_uses.proofs.TopLemmas.{item_told, repeats}
use Rattle.cu_uses.proofs.item_uses.item_uses.Goals as goal

pub returns-in-Import : goal.returns-in-Import
returns-in-Import c w sees is =
    item_told w c.args.item.now c.in_ok-_import.field-0 (item.Import c.in-Import._import) c.args.first.now c.args.first.now (c.in_ok-_import.ensures.meaning w.names) c.in-Import.is (told_none w c.args.first.now)

pub returns-in-Fixity : goal.returns-in-Fixity
returns-in-Fixity c w sees is =
    item_told w c.args.item.now c.in_ok-_import.field-0 (item.Fixity c.in-Fixity.field-0 c.in-Fixity.field-1 c.in-Fixity.field-2 c.in-Fixity._operators) c.args.first.now c.args.first.now
    (c.in_ok-_import.ensures.meaning w.names) c.in-Fixity.is (told_none w c.args.first.now)

pub returns-in-Data : goal.returns-in-Data
returns-in-Data c w sees is =
    let of = subst (ItemNodeIsOf w.owner w.names) c.in-Data.is (c.in_ok-_import.ensures.owned w.owner w.names is) in
    on_ok c.data_uses.result
    (item_told w c.args.item.now c.in_ok-_import.field-0 (item.Data c.in-Data.field-0 c.in-Data.field-1 c.in-Data.parameters c.in-Data.constructors) c.args.first.now c.data_uses.new.first
    (c.in_ok-_import.ensures.meaning w.names) c.in-Data.is)
    (subst (λ (cs : List ConstructorDeclaration). All (ConstructorDeclarationIsOf w.owner w.names) cs
    → OnOk c.data_uses.result (Told w c.args.first.now (repeats (names_meaning w.names c.in-Data.parameters.items) ++ fields_ask w.names (names_meaning w.names c.in-Data.parameters.items) cs) c.data_uses.new.first))
    c.as_slice-in-Data.ensures.value
    (subst (λ (ps : List Name). All (NameIsOf w.owner w.names) ps → All (ConstructorDeclarationIsOf w.owner w.names) c.as_slice-in-Data.result.now
    → OnOk c.data_uses.result (Told w c.args.first.now (repeats (names_meaning w.names ps) ++ fields_ask w.names (names_meaning w.names ps) c.as_slice-in-Data.result.now) c.data_uses.new.first))
    c.as_slice.ensures.value (c.data_uses.ensures w [] sees) of.2) of.3)

pub returns-in-Synonym : goal.returns-in-Synonym
returns-in-Synonym c w sees is =
    let of = subst (ItemNodeIsOf w.owner w.names) c.in-Synonym.is (c.in_ok-_import.ensures.owned w.owner w.names is) in
    on_ok c.synonym_uses.result
    (item_told w c.args.item.now c.in_ok-_import.field-0 (item.Synonym c.in-Synonym.field-0 c.in-Synonym.field-1 c.in-Synonym.parameters c.in-Synonym.meant) c.args.first.now c.synonym_uses.new.first
    (c.in_ok-_import.ensures.meaning w.names) c.in-Synonym.is)
    (subst (λ (ps : List Name). All (NameIsOf w.owner w.names) ps
    → OnOk c.synonym_uses.result (Told w c.args.first.now (repeats (names_meaning w.names ps) ++ types_ask w.names (names_meaning w.names ps) (c.in-Synonym.meant ∷ [])) c.synonym_uses.new.first))
    c.as_slice-in-Synonym.ensures.value (λ all. c.synonym_uses.ensures w [] sees all of.3) of.2)

pub returns-in-Declaration : goal.returns-in-Declaration
returns-in-Declaration c w sees is =
    let of = subst (ItemNodeIsOf w.owner w.names) c.in-Declaration.is (c.in_ok-_import.ensures.owned w.owner w.names is) in
    on_ok c.declaration.result
    (item_told w c.args.item.now c.in_ok-_import.field-0 (item.Declaration c.in-Declaration.d) c.args.first.now c.declaration.new.first (c.in_ok-_import.ensures.meaning w.names) c.in-Declaration.is)
    (c.declaration.ensures w [] sees of)
