-- What items declare, one after another, and what they ask, by its parts.
use Rattle.std.proofs.Common.{Result, OnOk, ◌≡◌, ◌∙◌, ◌<◌, ◌≤◌, ◌+◌, ℕ, true, List, [], ◌∷◌, ◌++◌, length, drop, None, get_or, map, refl, sym, ap, ap₂, subst, add-one}
use Rattle.std.proofs.Math.Seq.{drop-cons}
use Rattle.std.proofs.lemmas.List.{append-nil, append_assoc, map-append}
use Rattle.std.proofs.lemmas.List.Elements.{All-cons, All-get_or, All-head, All-nil, All-tail}
use Rattle.std.specs.List.{All, flat_map}
use Rattle.cu_entities.specs.Entities.{Types}
use Rattle.cu_names.specs.declared.names.NameId.{NameId}
use Rattle.cu_syntax.specs.declared.declarations.Declaration.{Declaration}
use Rattle.cu_syntax.specs.declared.declarations.DeclarationNode.{DeclarationNode}
use Rattle.cu_syntax.specs.declared.declarations.DeclarationNode.TheVariants as declaration
use Rattle.cu_syntax.specs.declared.items.ConstructorDeclaration.{ConstructorDeclaration}
use Rattle.cu_syntax.specs.declared.items.ItemNode.{ItemNode}
use Rattle.cu_syntax.specs.declared.items.ItemNode.TheVariants as item
use Rattle.cu_syntax.specs.declared.name.Name as code
use Rattle.cu_syntax.specs.declared.text.Item.{Item}
use Rattle.cu_syntax.specs.declared.types.TypeTerm.{TypeTerm}
use Rattle.cu_syntax.specs.Answer.{item_meaning, items_meaning}
use Rattle.cu_syntax.specs.Declarations.{declaration_meaning, declaration_node}
use Rattle.cu_syntax.specs.Items.{constructor_meaning, item_node}
use Rattle.cu_syntax.specs.Names.{name_meaning}
use Rattle.cu_syntax.specs.Owners.{ConstructorDeclarationIsOf, ItemIsOf, NameIsOf}
use Rattle.cu_syntax.specs.Syntax as syntax
use Rattle.cu_syntax.specs.Syntax.{Name}
use Rattle.cu_uses.specs.declared.block.Block.{Block}
use Rattle.cu_uses.specs.declared.first_fault.FirstFault.{FirstFault}
use Rattle.cu_uses.specs.declared.top_level.TopLevel.{TopLevel}
use Rattle.cu_uses.specs.Binders.{Declared, Names, Rule, declared_once, missing, repeated, second, texts, values_by}
use Rattle.cu_uses.specs.Demands.{Demand, Lacks, Repeats, item_demands, items_demands, used}
use Rattle.cu_uses.specs.Inside.Asked.{declaration_asks}
use Rattle.cu_uses.specs.Inside.Blocks.{Gathers, IsBlockOf, IsEmpty, signs}
use Rattle.cu_uses.specs.Gathered.{Adds, names_meaning, types_bind, types_build}
use Rattle.cu_uses.specs.Inside.Tops.{IsTop, Reads, Top, both, constructor_names, fields_ask, item_asks, item_top, items_ask, items_top, nothing, top, top_by, top_declares, types_ask}
use Rattle.cu_uses.specs.Inside.Worlds.{Told, World}
use Rattle.cu_uses.proofs.BlockLemmas.{gathered_block, gathers_both, gathers_none, node_signs, signs_node}
use Rattle.cu_uses.proofs.FoundLemmas.{adds_both, adds_none, prefix, nothing_left, on_ok}
use Rattle.cu_uses.proofs.ToldLemmas.{told_both, told_end, told_prefix}

-- ---- declarations at top level

abbrev pub node_declares_at_top : List (List ℕ) → DeclarationNode → Declared
node_declares_at_top names (declaration.FreeVariables at xs) = Names []
node_declares_at_top names (declaration.Signature at xs t) = Names []
node_declares_at_top names (declaration.FunctionRule at x ps right) = Rule true (name_meaning names x)
node_declares_at_top names (declaration.PatternBinding at p right) = Names []

declared_at_top : (names : List (List ℕ)) (n : DeclarationNode) → node_declares_at_top names n ≡ values_by (syntax.DeclarationItem (declaration_node names n))
declared_at_top names (declaration.FreeVariables at xs) = refl
declared_at_top names (declaration.Signature at xs t) = refl
declared_at_top names (declaration.FunctionRule at x ps right) = refl
declared_at_top names (declaration.PatternBinding at p right) = refl

declares_at_top : (names : List (List ℕ)) (d : Declaration) (n : DeclarationNode) → declaration_node names n ≡ declaration_meaning names d → node_declares_at_top names n ≡ top_declares names d
unfolding top_declares
declares_at_top names d n meaning = declared_at_top names n ∙ ap (λ m. values_by (syntax.DeclarationItem m)) meaning

pub top_gathered : (owner : NameId) (names : List (List ℕ)) (d : Declaration) (v n : DeclarationNode) (a b : Block) → declaration_node names v ≡ declaration_meaning names d → v ≡ n
    → Gathers owner names a (node_declares_at_top names n ∷ []) (node_signs names n) b → Gathers owner names a (top_declares names d ∷ []) (signs names d) b
top_gathered owner names d v n a b meaning is gathered =
    let meant = ap (declaration_node names) (sym is) ∙ meaning in
    subst (λ e. Gathers owner names a (e ∷ []) (signs names d) b) (declares_at_top names d n meant)
    (subst (λ xs. Gathers owner names a (node_declares_at_top names n ∷ []) xs b) (signs_node names d n meant) gathered)

-- ---- items

pub reads_values : (owner : NameId) (names : List (List ℕ)) (a b : TopLevel) (d : Declared) (ss : List Name) → Gathers owner names a.values (d ∷ []) ss b.values → b.types.items ≡ a.types.items → b.fixed.items ≡ a.fixed.items
    → Reads owner names a (top d ss [] []) b
reads_values owner names a b d ss gathered types_is fixed_is = record {
  values = gathered;
  types = subst (Adds owner names a.types.items []) (sym types_is) (adds_none owner names a.types.items);
  fixed = subst (Adds owner names a.fixed.items []) (sym fixed_is) (adds_none owner names a.fixed.items);
}

reads_both : {owner : NameId} {names : List (List ℕ)} {a b c : TopLevel} {s t : Top} → Reads owner names a s b → Reads owner names b t c → Reads owner names a (both s t) c
reads_both one two = record { values = gathers_both one.values two.values; types = adds_both one.types two.types; fixed = adds_both one.fixed two.fixed }

reads_none : (owner : NameId) (names : List (List ℕ)) (a : TopLevel) → Reads owner names a nothing a
reads_none owner names a = record { values = gathers_none owner names a.values; types = adds_none owner names a.types.items; fixed = adds_none owner names a.fixed.items }

abbrev pub node_top : List (List ℕ) → ItemNode → Top
node_top names (item.Import found) = top (Names []) [] [] []
node_top names (item.Fixity at to level operators) = top (Names []) [] [] (names_meaning names operators.items)
node_top names (item.Data at name ps cs) = top (Names (names_meaning names (constructor_names cs.items))) [] (name_meaning names name ∷ []) []
node_top names (item.Synonym at name ps t) = top (Names []) [] (name_meaning names name ∷ []) []
node_top names (item.Declaration d) = top (top_declares names d) (signs names d) [] []

constructors_named : (names : List (List ℕ)) (cs : List ConstructorDeclaration)
    → names_meaning names (constructor_names cs) ≡ map (λ (c : syntax.ConstructorDeclaration). c.name) (map (constructor_meaning names) cs)
constructors_named names [] = refl
constructors_named names (c ∷ cs) = ap (λ xs. name_meaning names c.name ∷ xs) (constructors_named names cs)

node_meant : (names : List (List ℕ)) (n : ItemNode) → node_top names n ≡ top_by (item_node names n)
unfolding top_declares signs
node_meant names (item.Import found) = refl
node_meant names (item.Fixity at to level operators) = refl
node_meant names (item.Data at name ps cs) = ap (λ xs. top (Names xs) [] (name_meaning names name ∷ []) []) (constructors_named names cs.items)
node_meant names (item.Synonym at name ps t) = refl
node_meant names (item.Declaration d) = refl

item_is_top : (names : List (List ℕ)) (i : Item) (n : ItemNode) → item_node names n ≡ item_meaning names i → node_top names n ≡ item_top names i
unfolding item_top
item_is_top names i n meaning = node_meant names n ∙ ap top_by meaning

pub item_read : (owner : NameId) (names : List (List ℕ)) (i : Item) (v n : ItemNode) (a b : TopLevel) → item_node names v ≡ item_meaning names i → v ≡ n
    → Reads owner names a (node_top names n) b → Reads owner names a (item_top names i) b
item_read owner names i v n a b meaning is read = subst (λ t. Reads owner names a t b) (item_is_top names i n (ap (item_node names) (sym is) ∙ meaning)) read

items_top_cons : (names : List (List ℕ)) (x : Item) (xs : List Item) → items_top names (x ∷ xs) ≡ both (item_top names x) (items_top names xs)
unfolding items_top item_top
items_top_cons names x xs = refl

items_top_nil : (names : List (List ℕ)) → items_top names [] ≡ nothing
unfolding items_top
items_top_nil names = refl

top_split : (names : List (List ℕ)) (xs : List Item) (i : ℕ) (x : Item) → x ≡ get_or xs i x → i < length xs → both (item_top names x) (items_top names (drop (i + 1) xs)) ≡ items_top names (drop i xs)
top_split names xs i x is within =
    sym (ap (items_top names) (drop-cons xs i x within ∙ ap₂ (λ y n. y ∷ drop n xs) (sym is) (sym (add-one i))) ∙ items_top_cons names x (drop (i + 1) xs))

pub top_prefix : (owner : NameId) (names : List (List ℕ)) (xs : List Item) (i : ℕ) (x : Item) (a b c : TopLevel) → x ≡ get_or xs i x → i < length xs → All (ItemIsOf owner names) xs
    → (ItemIsOf owner names x → Reads owner names a (item_top names x) b) → Reads owner names b (items_top names (drop (i + 1) xs)) c → Reads owner names a (items_top names (drop i xs)) c
top_prefix owner names xs i x a b c is within all here after =
    subst (λ t. Reads owner names a t c) (top_split names xs i x is within)
    (reads_both (here (subst (ItemIsOf owner names) (sym is) (All-get_or (ItemIsOf owner names) xs i x within all))) after)

nothing_after : (names : List (List ℕ)) (xs : List Item) → xs ≡ [] → items_top names xs ≡ nothing
nothing_after names xs is = ap (items_top names) is ∙ items_top_nil names

pub top_end : (owner : NameId) (names : List (List ℕ)) (xs : List Item) (i : ℕ) (a : TopLevel) → length xs ≤ i → Reads owner names a (items_top names (drop i xs)) a
top_end owner names xs i a past = subst (λ t. Reads owner names a t a) (sym (nothing_after names (drop i xs) (nothing_left (λ (ys : List Item). ys) refl xs i past))) (reads_none owner names a)

pub from_empty : (owner : NameId) (names : List (List ℕ)) (fresh found : List code.Name) (xs : List Name) → fresh ≡ [] → Adds owner names fresh xs found → Adds owner names [] xs found
from_empty owner names fresh found xs empty adds = subst (λ ys. Adds owner names ys xs found) empty adds

pub all_read : (owner : NameId) (names : List (List ℕ)) (a b : TopLevel) (t : Top) → IsEmpty a.values → a.types.items ≡ [] → a.fixed.items ≡ [] → Reads owner names a t b → IsTop owner names t b
all_read owner names a b t values types_is fixed_is read = record {
  values = gathered_block owner names a.values b.values t.declared t.signs values read.values;
  types = from_empty owner names a.types.items b.types.items t.types types_is read.types;
  fixed = from_empty owner names a.fixed.items b.fixed.items t.fixes fixed_is read.fixed;
}

-- ---- names of constructors

pub constructor_pushed : (xs : List ConstructorDeclaration) (i : ℕ) (x : ConstructorDeclaration) (old new whole : List code.Name) → x ≡ get_or xs i x → i < length xs → new ≡ old ++ x.name ∷ []
    → old ++ constructor_names (drop i xs) ≡ whole → new ++ constructor_names (drop (i + 1) xs) ≡ whole
constructor_pushed xs i x old new whole is within pushed so_far =
    ap (λ ys. ys ++ constructor_names (drop (i + 1) xs)) pushed ∙ append_assoc old (x.name ∷ []) (constructor_names (drop (i + 1) xs))
    ∙ ap (λ ys. old ++ ys) (prefix constructor_names (λ (c : ConstructorDeclaration). c.name ∷ []) (λ y ys. refl) xs i x is within) ∙ so_far

pub constructors_end : (xs : List ConstructorDeclaration) (i : ℕ) (found whole : List code.Name) → length xs ≤ i → found ++ constructor_names (drop i xs) ≡ whole → found ≡ whole
constructors_end xs i found whole past so_far =
    sym (append-nil found) ∙ sym (ap (λ ys. found ++ ys) (nothing_left constructor_names refl xs i past)) ∙ so_far

pub constructors_owned : (owner : NameId) (names : List (List ℕ)) (cs : List ConstructorDeclaration) → All (ConstructorDeclarationIsOf owner names) cs → All (NameIsOf owner names) (constructor_names cs)
constructors_owned owner names [] all = All-nil (NameIsOf owner names)
constructors_owned owner names (c ∷ cs) all =
    All-cons (NameIsOf owner names) c.name (constructor_names cs) (All-head (ConstructorDeclarationIsOf owner names) c cs all).1
    (constructors_owned owner names cs (All-tail (ConstructorDeclarationIsOf owner names) c cs all))

-- ---- what was found, told

abbrev pub repeats : List Name → List Demand
repeats xs = map Repeats (repeated [] xs)

abbrev pub lacks : List (List ℕ) → List Name → List Demand
lacks known xs = map Lacks (missing known xs)

pub told_added : (G : List Name → List Demand) (w : World) (xs : List Name) (items slice : List code.Name) (a b : FirstFault) → slice ≡ items → Adds w.owner w.names [] xs items
    → (All (NameIsOf w.owner w.names) slice → Told w a (G (names_meaning w.names slice)) b) → Told w a (G xs) b
told_added G w xs items slice a b sliced adds tells =
    subst (λ ns. Told w a (G ns) b) (ap (names_meaning w.names) sliced ∙ adds.adds)
    (tells (subst (All (NameIsOf w.owner w.names)) (sym sliced) (adds.owned (All-nil (NameIsOf w.owner w.names)))))

-- the same, where memory may be wanting
pub told_last : {A E : Type 0} (G : List Name → List Demand) (w : World) (xs : List Name) (items slice : List code.Name) (a b : FirstFault) (r : Result A E) → slice ≡ items
    → Adds w.owner w.names [] xs items → (All (NameIsOf w.owner w.names) slice → OnOk r (Told w a (G (names_meaning w.names slice)) b)) → OnOk r (Told w a (G xs) b)
told_last G w xs items slice a b r sliced adds tells =
    on_ok r (λ told. subst (λ ns. Told w a (G ns) b) (ap (names_meaning w.names) sliced ∙ adds.adds) told)
    (tells (subst (All (NameIsOf w.owner w.names)) (sym sliced) (adds.owned (All-nil (NameIsOf w.owner w.names)))))

pub once_added : (owner : NameId) (names : List (List ℕ)) (ds : List Declared) (ss : List Name) (b : Block) → IsBlockOf owner names ds ss b
    → Adds owner names [] (declared_once None ds) b.once.items
once_added owner names ds ss b is = record { adds = is.is_once; owned = λ _. is.owned.once }

pub signed_added : (owner : NameId) (names : List (List ℕ)) (ds : List Declared) (ss : List Name) (b : Block) → IsBlockOf owner names ds ss b → Adds owner names [] ss b.signed.items
signed_added owner names ds ss b is = record { adds = is.is_signed; owned = λ _. is.signed_owned }

pub mapped_both : (f : Name → Demand) (w : World) (xs ys : List Name) (a b c : FirstFault) → Told w a (map f xs) b → Told w b (map f ys) c → Told w a (map f (xs ++ ys)) c
mapped_both f w xs ys a b c one two = subst (λ ds. Told w a ds c) (sym (map-append f xs ys)) (told_both one two)

-- ---- what items ask

pub types_told : (w : World) (ps : List Name) (ts : List TypeTerm) (a b c : FirstFault) → Told w a (used Types (types_build w.names ts)) b → Told w b (map Lacks (missing (texts ps) (types_bind w.names ts))) c
    → Told w a (types_ask w.names ps ts) c
unfolding types_ask types_build types_bind
types_told w ps ts a b c one two = told_both one two

fields_cons : (names : List (List ℕ)) (ps : List Name) (x : ConstructorDeclaration) (xs : List ConstructorDeclaration) → fields_ask names ps (x ∷ xs) ≡ types_ask names ps x.fields.items ++ fields_ask names ps xs
unfolding fields_ask types_ask
fields_cons names ps x xs = refl

fields_nil : (names : List (List ℕ)) (ps : List Name) → fields_ask names ps [] ≡ []
unfolding fields_ask
fields_nil names ps = refl

pub fields_prefix : (w : World) (ps : List Name) (xs : List ConstructorDeclaration) (i : ℕ) (x : ConstructorDeclaration) (a b c : FirstFault) → x ≡ get_or xs i x → i < length xs
    → All (ConstructorDeclarationIsOf w.owner w.names) xs → (ConstructorDeclarationIsOf w.owner w.names x → Told w a (types_ask w.names ps x.fields.items) b)
    → Told w b (fields_ask w.names ps (drop (i + 1) xs)) c → Told w a (fields_ask w.names ps (drop i xs)) c
fields_prefix w ps = told_prefix (ConstructorDeclarationIsOf w.owner w.names) (fields_ask w.names ps) (λ (x : ConstructorDeclaration). types_ask w.names ps x.fields.items) (fields_cons w.names ps) w

pub fields_end : (w : World) (ps : List Name) (xs : List ConstructorDeclaration) (i : ℕ) (a : FirstFault) → length xs ≤ i → Told w a (fields_ask w.names ps (drop i xs)) a
fields_end w ps = told_end (fields_ask w.names ps) (fields_nil w.names ps) w

abbrev pub item_node_asks : List (List ℕ) → ItemNode → List Demand
item_node_asks names (item.Import found) = []
item_node_asks names (item.Fixity at to level operators) = []
item_node_asks names (item.Data at name ps cs) = map Repeats (repeated [] (names_meaning names ps.items)) ++ fields_ask names (names_meaning names ps.items) cs.items
item_node_asks names (item.Synonym at name ps t) = map Repeats (repeated [] (names_meaning names ps.items)) ++ types_ask names (names_meaning names ps.items) (t ∷ [])
item_node_asks names (item.Declaration d) = declaration_asks names [] d

item_in : (names : List (List ℕ)) (n : ItemNode) → item_node_asks names n ≡ item_demands (item_node names n)
unfolding fields_ask types_ask declaration_asks
item_in names (item.Import found) = refl
item_in names (item.Fixity at to level operators) = refl
item_in names (item.Data at name ps cs) = refl
item_in names (item.Synonym at name ps t) = refl
item_in names (item.Declaration d) = refl

item_asked : (names : List (List ℕ)) (i : Item) (n : ItemNode) → item_node names n ≡ item_meaning names i → item_node_asks names n ≡ item_asks names i
unfolding item_asks
item_asked names i n meaning = item_in names n ∙ ap item_demands meaning

pub item_told : (w : World) (i : Item) (v n : ItemNode) (a b : FirstFault) → item_node w.names v ≡ item_meaning w.names i → v ≡ n
    → Told w a (item_node_asks w.names n) b → Told w a (item_asks w.names i) b
item_told w i v n a b meaning is told = subst (λ ds. Told w a ds b) (item_asked w.names i n (ap (item_node w.names) (sym is) ∙ meaning)) told

items_ask_cons : (names : List (List ℕ)) (x : Item) (xs : List Item) → items_ask names (x ∷ xs) ≡ item_asks names x ++ items_ask names xs
unfolding items_ask item_asks
items_ask_cons names x xs = refl

items_ask_nil : (names : List (List ℕ)) → items_ask names [] ≡ []
unfolding items_ask
items_ask_nil names = refl

pub items_prefix : (w : World) (xs : List Item) (i : ℕ) (x : Item) (a b c : FirstFault) → x ≡ get_or xs i x → i < length xs → All (ItemIsOf w.owner w.names) xs
    → (ItemIsOf w.owner w.names x → Told w a (item_asks w.names x) b) → Told w b (items_ask w.names (drop (i + 1) xs)) c → Told w a (items_ask w.names (drop i xs)) c
items_prefix w = told_prefix (ItemIsOf w.owner w.names) (items_ask w.names) (item_asks w.names) (items_ask_cons w.names) w

pub items_end : (w : World) (xs : List Item) (i : ℕ) (a : FirstFault) → length xs ≤ i → Told w a (items_ask w.names (drop i xs)) a
items_end w = told_end (items_ask w.names) (items_ask_nil w.names) w

abbrev pub second_names : Top → List Name
second_names t = second t.declared ++ (repeated [] t.types ++ (repeated [] t.signs ++ repeated [] t.fixes))

abbrev pub lacking_names : List (List ℕ) → Top → List Name
lacking_names known t = missing known t.signs ++ missing known t.fixes

pub items_told : (w : World) (known : List (List ℕ)) (xs : List Item) (a b c d : FirstFault) → Told w a (map Repeats (second_names (items_top w.names xs))) b
    → Told w b (map Lacks (lacking_names known (items_top w.names xs))) c → Told w c (items_ask w.names xs) d → Told w a (items_demands known (items_meaning w.names xs)) d
unfolding items_top items_ask
items_told w known xs a b c d one two three = told_both one (told_both two three)
