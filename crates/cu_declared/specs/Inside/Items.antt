-- What items have, under a table of names.
use Rattle.std.specs.Prelude.{ℕ, List}
use Rattle.std.specs.List.{flat_map}
use Rattle.cu_syntax.specs.declared.items.ConstructorDeclaration.{ConstructorDeclaration}
use Rattle.cu_syntax.specs.declared.text.Item.{Item}
use Rattle.cu_syntax.specs.Answer.{item_meaning}
use Rattle.cu_declared.specs.Inside.Gathered.{in_types}
use Rattle.cu_declared.specs.Parameters.{Numbered, parameters_by}
use Rattle.cu_declared.specs.SynonymCycles.{Synonym, synonyms_by}
use Rattle.cu_declared.specs.TypeUses.{TypeUse, item_uses}

unfoldable pub in_item : List (List ℕ) → Item → List TypeUse
in_item names item = item_uses (item_meaning names item)

abbrev pub in_items : List (List ℕ) → List Item → List TypeUse
in_items names items = flat_map (in_item names) items

abbrev pub in_fields : List (List ℕ) → List ConstructorDeclaration → List TypeUse
in_fields names constructors =
    flat_map (λ (c : ConstructorDeclaration). in_types names c.fields.items) constructors

unfoldable pub item_parameters : List (List ℕ) → List ℕ → Item → List Numbered
item_parameters names owner item = parameters_by owner (item_meaning names item)

abbrev pub items_parameters : List (List ℕ) → List ℕ → List Item → List Numbered
items_parameters names owner items = flat_map (item_parameters names owner) items

unfoldable pub item_synonyms : List (List ℕ) → Item → List Synonym
item_synonyms names item = synonyms_by (item_meaning names item)

abbrev pub items_synonyms : List (List ℕ) → List Item → List Synonym
items_synonyms names items = flat_map (item_synonyms names) items
