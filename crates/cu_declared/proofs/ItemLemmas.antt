-- Items, by what they are.
use Rattle.std.proofs.Common.{◌≡◌, ◌∙◌, ◌<◌, ◌≤◌, ◌+◌, ℕ, List, [], ◌∷◌, length, drop, get_or, refl, sym, ap}
use Rattle.std.proofs.lemmas.List.{length-map}
use Rattle.std.proofs.lemmas.List.Concat.{flat_map-cons}
use Rattle.std.proofs.lemmas.List.Folds.{flat_map-map}
use Rattle.std.specs.List.{All, flat_map}
use Rattle.cu_lex.specs.Reading.{position_of}
use Rattle.cu_names.specs.declared.names.NameId.{NameId}
use Rattle.cu_names.specs.Texts.{text_of}
use Rattle.cu_syntax.specs.declared.items.ConstructorDeclaration.{ConstructorDeclaration}
use Rattle.cu_syntax.specs.declared.items.ItemNode.{ItemNode}
use Rattle.cu_syntax.specs.declared.items.ItemNode.TheVariants as node
use Rattle.cu_syntax.specs.declared.text.Item.{Item}
use Rattle.cu_syntax.specs.Answer.{item_meaning, items_meaning}
use Rattle.cu_syntax.specs.Items.{constructor_meaning, item_node}
use Rattle.cu_syntax.specs.Names.{name_meaning}
use Rattle.cu_syntax.specs.Types.{type_meaning}
use Rattle.cu_declared.specs.declared.found.TypeUse as code
use Rattle.cu_declared.specs.declared.numbers.Numbers as table
use Rattle.cu_declared.specs.Inside.Gathered.{Adds, in_declaration, in_type, in_types}
use Rattle.cu_declared.specs.Inside.Items.{in_fields, in_item, in_items, item_parameters, item_synonyms, items_parameters, items_synonyms}
use Rattle.cu_declared.specs.Inside.Numbers.{Gains}
use Rattle.cu_declared.specs.Parameters.{Numbered, numbered, parameters_by}
use Rattle.cu_declared.specs.SynonymCycles.{Synonym, synonyms_by}
use Rattle.cu_declared.specs.TypeUses.{TypeUse, constructor_uses, item_uses, items_uses}
use Rattle.cu_declared.proofs.AddsLemmas.{adds_as, adds_end, adds_prefix}
use Rattle.cu_declared.proofs.NumberLemmas.{gains_as, gains_end, gains_prefix}

-- ---- uses

abbrev pub in_item_node : List (List ℕ) → ItemNode → List TypeUse
in_item_node names (node.Import found) = []
in_item_node names (node.Fixity at to level operators) = []
in_item_node names (node.Data at name ps cs) = in_fields names cs.items
in_item_node names (node.Synonym at name ps t) = in_type names t
in_item_node names (node.Declaration d) = in_declaration names d

item_node_uses : (names : List (List ℕ)) (n : ItemNode) → in_item_node names n ≡ item_uses (item_node names n)
unfolding in_types in_type in_declaration
item_node_uses names (node.Import found) = refl
item_node_uses names (node.Fixity at to level operators) = refl
item_node_uses names (node.Data at name ps cs) = sym (flat_map-map constructor_uses (constructor_meaning names) cs.items)
item_node_uses names (node.Synonym at name ps t) = refl
item_node_uses names (node.Declaration d) = refl

item_by_node : (names : List (List ℕ)) (i : Item) (n : ItemNode) → item_node names n ≡ item_meaning names i → in_item_node names n ≡ in_item names i
unfolding in_item
item_by_node names i n meaning = item_node_uses names n ∙ ap item_uses meaning

pub item_found : (owner : NameId) (names : List (List ℕ)) (i : Item) (v n : ItemNode) (a b : List code.TypeUse) → item_node names v ≡ item_meaning names i → v ≡ n
    → Adds owner names a (in_item_node names n) b → Adds owner names a (in_item names i) b
item_found owner names i v n a b meaning is adds =
    adds_as owner names a b (in_item_node names n) (in_item names i) (item_by_node names i n (ap (item_node names) (sym is) ∙ meaning)) adds

pub items_prefix : (P : Item → Type 0) (owner : NameId) (names : List (List ℕ)) (xs : List Item) (i : ℕ) (x : Item) (a b c : List code.TypeUse) → x ≡ get_or xs i x → i < length xs → All P xs
    → (P x → Adds owner names a (in_item names x) b) → Adds owner names b (in_items names (drop (i + 1) xs)) c → Adds owner names a (in_items names (drop i xs)) c
items_prefix P owner names = adds_prefix P (in_items names) (in_item names) (flat_map-cons (in_item names)) owner names

pub items_end : (owner : NameId) (names : List (List ℕ)) (xs : List Item) (i : ℕ) (a : List code.TypeUse) → length xs ≤ i → Adds owner names a (in_items names (drop i xs)) a
items_end owner names = adds_end (in_items names) refl owner names

abbrev pub in_fields_of : List (List ℕ) → ConstructorDeclaration → List TypeUse
in_fields_of names c = in_types names c.fields.items

pub fields_prefix : (P : ConstructorDeclaration → Type 0) (owner : NameId) (names : List (List ℕ)) (xs : List ConstructorDeclaration) (i : ℕ) (x : ConstructorDeclaration) (a b c : List code.TypeUse)
    → x ≡ get_or xs i x → i < length xs → All P xs
    → (P x → Adds owner names a (in_fields_of names x) b) → Adds owner names b (in_fields names (drop (i + 1) xs)) c → Adds owner names a (in_fields names (drop i xs)) c
fields_prefix P owner names = adds_prefix P (in_fields names) (in_fields_of names) (flat_map-cons (in_fields_of names)) owner names

pub fields_end : (owner : NameId) (names : List (List ℕ)) (xs : List ConstructorDeclaration) (i : ℕ) (a : List code.TypeUse) → length xs ≤ i → Adds owner names a (in_fields names (drop i xs)) a
fields_end owner names = adds_end (in_fields names) refl owner names

-- the uses in items are those in what they stand for
pub items_are : (names : List (List ℕ)) (xs : List Item) → in_items names xs ≡ items_uses (items_meaning names xs)
unfolding in_item
items_are names xs = sym (flat_map-map item_uses (item_meaning names) xs)

-- ---- parameters

abbrev pub node_parameters : List (List ℕ) → List ℕ → ItemNode → List Numbered
node_parameters names owner (node.Data at name ps cs) = numbered owner (text_of names name.text) (length ps.items) ∷ []
node_parameters names owner (node.Synonym at name ps t) = numbered owner (text_of names name.text) (length ps.items) ∷ []
node_parameters names owner _ = []

node_parameters_are : (names : List (List ℕ)) (owner : List ℕ) (n : ItemNode) → node_parameters names owner n ≡ parameters_by owner (item_node names n)
node_parameters_are names owner (node.Import found) = refl
node_parameters_are names owner (node.Fixity at to level operators) = refl
node_parameters_are names owner (node.Data at name ps cs) = ap (λ k. numbered owner (text_of names name.text) k ∷ []) (sym (length-map ps.items (name_meaning names)))
node_parameters_are names owner (node.Synonym at name ps t) = ap (λ k. numbered owner (text_of names name.text) k ∷ []) (sym (length-map ps.items (name_meaning names)))
node_parameters_are names owner (node.Declaration d) = refl

parameters_by_node : (names : List (List ℕ)) (owner : List ℕ) (i : Item) (n : ItemNode) → item_node names n ≡ item_meaning names i → node_parameters names owner n ≡ item_parameters names owner i
unfolding item_parameters
parameters_by_node names owner i n meaning = node_parameters_are names owner n ∙ ap (parameters_by owner) meaning

pub parameters_found : (names : List (List ℕ)) (owner : List ℕ) (i : Item) (v n : ItemNode) (a b : table.Numbers) → item_node names v ≡ item_meaning names i → v ≡ n
    → Gains names a (node_parameters names owner n) b → Gains names a (item_parameters names owner i) b
parameters_found names owner i v n a b meaning is gains =
    gains_as names a b (node_parameters names owner n) (item_parameters names owner i) (parameters_by_node names owner i n (ap (item_node names) (sym is) ∙ meaning)) gains

-- the parameters that were counted
pub counted : (names : List (List ℕ)) (owner name : List ℕ) (k n : ℕ) (a b : table.Numbers) → k ≡ n → Gains names a (numbered owner name k ∷ []) b → Gains names a (numbered owner name n ∷ []) b
counted names owner name k n a b same gains = gains_as names a b (numbered owner name k ∷ []) (numbered owner name n ∷ []) (ap (λ j. numbered owner name j ∷ []) same) gains

pub parameters_prefix : (P : Item → Type 0) (names : List (List ℕ)) (owner : List ℕ) (xs : List Item) (i : ℕ) (x : Item) (a b c : table.Numbers) → x ≡ get_or xs i x → i < length xs → All P xs
    → (P x → Gains names a (item_parameters names owner x) b) → Gains names b (items_parameters names owner (drop (i + 1) xs)) c → Gains names a (items_parameters names owner (drop i xs)) c
parameters_prefix P names owner = gains_prefix P (items_parameters names owner) (item_parameters names owner) (flat_map-cons (item_parameters names owner)) names

pub parameters_end : (names : List (List ℕ)) (owner : List ℕ) (xs : List Item) (i : ℕ) (a : table.Numbers) → length xs ≤ i → Gains names a (items_parameters names owner (drop i xs)) a
parameters_end names owner = gains_end (items_parameters names owner) refl names

pub parameters_are : (names : List (List ℕ)) (owner : List ℕ) (xs : List Item) → items_parameters names owner xs ≡ flat_map (parameters_by owner) (items_meaning names xs)
unfolding item_parameters
parameters_are names owner xs = sym (flat_map-map (parameters_by owner) (item_meaning names) xs)

-- ---- synonyms

abbrev pub node_synonyms : List (List ℕ) → ItemNode → List Synonym
node_synonyms names (node.Synonym at name ps t) = record { at = position_of at; name = text_of names name.text; right = type_meaning names t } ∷ []
node_synonyms names _ = []

node_synonyms_are : (names : List (List ℕ)) (n : ItemNode) → node_synonyms names n ≡ synonyms_by (item_node names n)
node_synonyms_are names (node.Import found) = refl
node_synonyms_are names (node.Fixity at to level operators) = refl
node_synonyms_are names (node.Data at name ps cs) = refl
node_synonyms_are names (node.Synonym at name ps t) = refl
node_synonyms_are names (node.Declaration d) = refl

pub synonyms_by_node : (names : List (List ℕ)) (i : Item) (v n : ItemNode) → item_node names v ≡ item_meaning names i → v ≡ n → node_synonyms names n ≡ item_synonyms names i
unfolding item_synonyms
synonyms_by_node names i v n meaning is = node_synonyms_are names n ∙ ap synonyms_by (ap (item_node names) (sym is) ∙ meaning)

pub synonyms_are : (names : List (List ℕ)) (xs : List Item) → items_synonyms names xs ≡ flat_map synonyms_by (items_meaning names xs)
unfolding item_synonyms
synonyms_are names xs = sym (flat_map-map synonyms_by (item_meaning names) xs)
