-- What items declare at top level, and what they ask of their scopes.
use Rattle.std.specs.Prelude.{ℕ, List, [], ◌∷◌, ◌++◌, map}
use Rattle.std.specs.List.{flat_map}
use Rattle.cu_names.specs.declared.names.NameId.{NameId}
use Rattle.cu_syntax.specs.declared.declarations.Declaration.{Declaration}
use Rattle.cu_syntax.specs.declared.items.ConstructorDeclaration.{ConstructorDeclaration}
use Rattle.cu_syntax.specs.declared.name.Name as code
use Rattle.cu_syntax.specs.declared.text.Item.{Item}
use Rattle.cu_syntax.specs.declared.types.TypeTerm.{TypeTerm}
use Rattle.cu_syntax.specs.Answer.{item_meaning, items_meaning}
use Rattle.cu_syntax.specs.Declarations.{declaration_meaning}
use Rattle.cu_syntax.specs.Items.{constructor_meaning}
use Rattle.cu_syntax.specs.Syntax as syntax
use Rattle.cu_syntax.specs.Syntax.{Name}
use Rattle.cu_syntax.specs.Types.{types_meaning}
use Rattle.cu_uses.specs.declared.top_level.TopLevel.{TopLevel}
use Rattle.cu_uses.specs.Binders.{Declared, fixed_in, signed_in, types_by, values_by}
use Rattle.cu_uses.specs.Demands.{Demand, item_demands, type_demands}
use Rattle.cu_uses.specs.Inside.Blocks.{Gathers, IsBlockOf}
use Rattle.cu_uses.specs.Gathered.{Adds}

-- what items declare at top level: functions and constructors, names of signatures, types, and
-- operators with a fixity
pub record Top : Type 0 where
  pub declared : List Declared
  pub signs : List Name
  pub types : List Name
  pub fixes : List Name

-- what one item declares
abbrev pub top : Declared → List Name → List Name → List Name → Top
top declared signs types fixes =
    record { declared = declared ∷ []; signs = signs; types = types; fixes = fixes }

abbrev pub both : Top → Top → Top
both s t = record {
  declared = s.declared ++ t.declared;
  signs = s.signs ++ t.signs;
  types = s.types ++ t.types;
  fixes = s.fixes ++ t.fixes;
}

abbrev pub nothing : Top
nothing = record { declared = []; signs = []; types = []; fixes = [] }

abbrev pub top_by : syntax.Item → Top
top_by item = top (values_by item) (signed_in item) (types_by item) (fixed_in item)

unfoldable pub item_top : List (List ℕ) → Item → Top
item_top names item = top_by (item_meaning names item)

unfoldable pub items_top : List (List ℕ) → List Item → Top
items_top names items = record {
  declared = map values_by (items_meaning names items);
  signs = flat_map signed_in (items_meaning names items);
  types = flat_map types_by (items_meaning names items);
  fixes = flat_map fixed_in (items_meaning names items);
}

-- what a declaration declares at top level
unfoldable pub top_declares : List (List ℕ) → Declaration → Declared
top_declares names d = values_by (syntax.DeclarationItem (declaration_meaning names d))

abbrev pub constructor_names : List ConstructorDeclaration → List code.Name
constructor_names cs = map (λ (c : ConstructorDeclaration). c.name) cs

-- What was read of items grew by what these items declare.
pub record Reads (owner : NameId) (names : List (List ℕ)) (before : TopLevel) (t : Top)
    (after : TopLevel) : Type 0 where
  pub values : Gathers owner names before.values t.declared t.signs after.values
  pub types : Adds owner names before.types.items t.types after.types.items
  pub fixed : Adds owner names before.fixed.items t.fixes after.fixed.items

-- What was read of items is what these items declare.
pub record IsTop (owner : NameId) (names : List (List ℕ)) (t : Top)
    (found : TopLevel) : Type 0 where
  pub values : IsBlockOf owner names t.declared t.signs found.values
  pub types : Adds owner names [] t.types found.types.items
  pub fixed : Adds owner names [] t.fixes found.fixed.items

-- ---- what items ask

unfoldable pub types_ask : List (List ℕ) → List Name → List TypeTerm → List Demand
types_ask names parameters ts = type_demands parameters (types_meaning names ts)

unfoldable pub fields_ask : List (List ℕ) → List Name → List ConstructorDeclaration → List Demand
fields_ask names parameters cs =
    flat_map (λ (c : syntax.ConstructorDeclaration). type_demands parameters c.fields)
    (map (constructor_meaning names) cs)

unfoldable pub item_asks : List (List ℕ) → Item → List Demand
item_asks names item = item_demands (item_meaning names item)

unfoldable pub items_ask : List (List ℕ) → List Item → List Demand
items_ask names items = flat_map item_demands (items_meaning names items)
