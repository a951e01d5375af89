-- Entities, and after them those of a part of a module.
use Rattle.std.proofs.Common.{◌≡◌, ◌∙◌, ℕ, ◌+◌, ◌<◌, false, List, [], ◌∷◌, ◌++◌, map, take, get_or, length, refl, sym, ap, subst, append-nil, append_assoc, arith, if◌then◌else◌}
use Rattle.std.proofs.lemmas.List.{flat_map_more, length-map, map-append, map_more}
use Rattle.std.specs.List.{All, flat_map}
use Rattle.std.specs.Str.{bytes_eq}
use Rattle.std.specs.declared.alloc.Global.{Global}
use Rattle.std.specs.declared.vec.Vec.{Vec}
use Rattle.cu_names.specs.declared.names.NameId.{NameId}
use Rattle.cu_names.specs.Texts.{IsKnown, text_of}
use Rattle.cu_toplevel.specs.declared.function_heads.FunctionHead.{FunctionHead}
use Rattle.cu_toplevel.specs.declared.listing.Listing.{Listing}
use Rattle.cu_toplevel.specs.Listings.{DeclaredIsKnown, IsListing, declared_meaning}
use Rattle.cu_toplevel.proofs.GivenLemmas.{coded}
use Rattle.cu_toplevel.proofs.NameLemmas.{map_twice}
use Rattle.cu_lex.specs.Located.{Position}
use Rattle.cu_modules.specs.BuiltInEntities.{prelude_name}
use Rattle.cu_modules.specs.Scopes.{Named}
use Rattle.cu_names.specs.declared.place.Place.{Place}
use Rattle.cu_syntax.specs.Answer.{item_meaning}
use Rattle.cu_syntax.specs.declared.declarations.Declaration.{Declaration}
use Rattle.cu_syntax.specs.declared.items.ConstructorDeclaration as code_items
use Rattle.cu_syntax.specs.declared.items.ItemNode.{ItemNode}
use Rattle.cu_syntax.specs.declared.items.ItemNode.TheVariants as node
use Rattle.cu_syntax.specs.declared.name.Name as code
use Rattle.cu_syntax.specs.declared.text.Item as texts
use Rattle.cu_syntax.specs.declared.types.TypeTerm as code_types
use Rattle.cu_syntax.specs.Items.{constructor_meaning, item_node}
use Rattle.cu_syntax.specs.Owners.{ItemIsOf}
use Rattle.cu_syntax.specs.Syntax as syntax
use Rattle.cu_syntax.specs.Types.{type_meaning, types_from}
use Rattle.cu_syntax.specs.Syntax.{ConstructorDeclaration, Item, Name, TypeTerm}
use Rattle.cu_toplevel.specs.declared.declarations.Declarations.{Declarations}
use Rattle.cu_toplevel.specs.Declarations.{AreListed, Lists, and_module}
use Rattle.cu_toplevel.specs.Heads.{Head, HeadIsOf, head_meaning, head_of_group}
use Rattle.cu_toplevel.specs.Inside.Gathering.{and_constructors, and_functions, and_given, and_item, and_items}
use Rattle.cu_translation.specs.Externals.{externals}
use Rattle.cu_translation.specs.Rules.{Group}
use Rattle.cu_translation.specs.TypeTable.{type_count}
use Rattle.cu_translation.specs.Numbered.{Declared, constructor, constructors_by, declared, external, first_constructors, first_types, function, groups_in, only_in_prelude, synonyms_by, types_by}

-- one type, and one synonym
abbrev pub and_type : Declared → Lists → Lists
and_type d l = record { types = l.types ++ d ∷ []; constructors = l.constructors; synonyms = l.synonyms; functions = l.functions }

abbrev pub and_synonym : Declared → Lists → Lists
and_synonym d l = record { types = l.types; constructors = l.constructors; synonyms = l.synonyms ++ d ∷ []; functions = l.functions }

abbrev pub four : List Declared → List Declared → List Declared → List Declared → Lists
four a b c d = record { types = a; constructors = b; synonyms = c; functions = d }

pub lists : (a b c d p q r s : List Declared) → a ≡ p → b ≡ q → c ≡ r → d ≡ s → four a b c d ≡ four p q r s
lists a b c d p q r s e f g h = λ j. record { types = e j; constructors = f j; synonyms = g j; functions = h j }

-- ---- one item

pub data_is : (o : List ℕ) (before : Lists) (item : Item) (at : Position) (n : Name) (ps : List Name) (cs : List ConstructorDeclaration) → item ≡ syntax.Data at n ps cs
    → and_constructors o cs (and_type (declared o n.text (length ps)) before) ≡ and_item o item before
data_is o before item at n ps cs is =
    lists _ _ _ _ _ _ _ _ refl refl (sym (append-nil before.synonyms)) refl ∙ ap (λ i. and_item o i before) (sym is)

pub synonym_is : (o : List ℕ) (before : Lists) (item : Item) (at : Position) (n : Name) (ps : List Name) (t : TypeTerm) → item ≡ syntax.Synonym at n ps t
    → and_synonym (declared o n.text (length ps)) before ≡ and_item o item before
synonym_is o before item at n ps t is =
    lists _ _ _ _ _ _ _ _ (sym (append-nil before.types)) (sym (append-nil before.constructors)) refl refl ∙ ap (λ i. and_item o i before) (sym is)

nothing : (before : Lists) → before ≡ four (before.types ++ []) (before.constructors ++ []) (before.synonyms ++ []) before.functions
nothing before = lists _ _ _ _ _ _ _ _ (sym (append-nil before.types)) (sym (append-nil before.constructors)) (sym (append-nil before.synonyms)) refl

other_declaration : (names : List (List ℕ)) (o : List ℕ) (before : Lists) (item : Item) (d : Declaration) → item_node names (node.Declaration d) ≡ item → before ≡ and_item o item before
other_declaration names o before item d is = nothing before ∙ ap (λ i. and_item o i before) is

pub other_is : (names : List (List ℕ)) (o : List ℕ) (before : Lists) (item : Item) (n : ItemNode) → item_node names n ≡ item
    → ((at : Place) (name : code.Name) (ps : Vec code.Name Global) (cs : Vec code_items.ConstructorDeclaration Global) → n ≡ node.Data at name ps cs → ⊥)
    → ((at : Place) (name : code.Name) (ps : Vec code.Name Global) (t : code_types.TypeTerm) → n ≡ node.Synonym at name ps t → ⊥)
    → before ≡ and_item o item before
other_is names o before item (node.Import i) is not_data not_synonym = nothing before ∙ ap (λ i. and_item o i before) is
other_is names o before item (node.Fixity at side level operators) is not_data not_synonym = nothing before ∙ ap (λ i. and_item o i before) is
other_is names o before item (node.Data at name ps cs) is not_data not_synonym = absurd (not_data at name ps cs refl)
other_is names o before item (node.Synonym at name ps t) is not_data not_synonym = absurd (not_synonym at name ps t refl)
other_is names o before item (node.Declaration d) is not_data not_synonym = other_declaration names o before item d is

-- ---- all items

pub no_item : (o : List ℕ) (before : Lists) → before ≡ and_items o [] before
no_item o before = nothing before

pub item_more : (o : List ℕ) (before : Lists) (T : Type 0) (f : T → Item) (items : List T) (i : ℕ) (item : T) → i < length items → item ≡ get_or items i item
    → and_item o (f item) (and_items o (map f (take i items)) before) ≡ and_items o (map f (take (i + 1) items)) before
item_more o before T f items i item within here =
    lists _ _ _ _ _ _ _ _ (flat_map_more (types_by o) before.types (map f (take i items)) (f item)) (flat_map_more (constructors_by o) before.constructors (map f (take i items)) (f item))
    (flat_map_more (synonyms_by o) before.synonyms (map f (take i items)) (f item)) refl
    ∙ ap (λ is. and_items o is before) (sym (map_more f items i item within ∙ ap (λ x. map f (take i items) ++ f x ∷ []) (sym here)))

-- ---- a module

pub parts_are : (m : Named) (before : Lists) → and_functions m (and_items m.name m.syntax.items (and_given m.name before)) ≡ and_module m before
parts_are m before =
    lists _ _ _ _ _ _ _ _ (append_assoc before.types (only_in_prelude m.name first_types) (flat_map (types_by m.name) m.syntax.items))
    (append_assoc before.constructors (only_in_prelude m.name first_constructors) (flat_map (constructors_by m.name) m.syntax.items))
    refl
    (append_assoc before.functions (only_in_prelude m.name (map external externals)) _)

-- ---- what has no declaration

pub not_given : (o : List ℕ) (before : Lists) → bytes_eq o prelude_name ≡ false → before ≡ and_given o before
not_given o before is =
    lists _ _ _ _ _ _ _ _ (sym (append-nil before.types)) (sym (append-nil before.constructors)) refl (sym (append-nil before.functions))
    ∙ ap (λ b. four (before.types ++ (if b then first_types else [])) (before.constructors ++ (if b then first_constructors else [])) before.synonyms
    (before.functions ++ (if b then map external externals else []))) (sym is)

-- ---- functions

abbrev pub declared_head : List ℕ → Head → Declared
declared_head o h = declared o h.name h.arity

abbrev pub and_heads : List ℕ → List Head → Lists → Lists
and_heads o heads l = record { types = l.types; constructors = l.constructors; synonyms = l.synonyms; functions = l.functions ++ map (declared_head o) heads }

pub no_head : (o : List ℕ) (before : Lists) → before ≡ and_heads o [] before
no_head o before = lists _ _ _ _ _ _ _ _ refl refl refl (sym (append-nil before.functions))

pub head_more : (names : List (List ℕ)) (m o : NameId) (before : List Declared) (heads : List FunctionHead) (i : ℕ) (d : FunctionHead) (old new : Listing) → o ≡ m → i < length heads
    → IsKnown names m → All (HeadIsOf m names) heads
    → ((all : List Declared) → DeclaredIsKnown names (coded o (get_or heads i d).name (get_or heads i d).arity) → IsListing names all old
    → IsListing names (all ++ declared_meaning names (coded o (get_or heads i d).name (get_or heads i d).arity) ∷ []) new)
    → IsListing names (before ++ map (declared_head (text_of names m)) (map (head_meaning names) (take i heads))) old
    → IsListing names (before ++ map (declared_head (text_of names m)) (map (head_meaning names) (take (i + 1) heads))) new
head_more names m o before heads i d old new is within known owned adds has =
    let f : Head → Declared = declared_head (text_of names m) in
    let h = get_or heads i d in
    let done = map f (map (head_meaning names) (take i heads)) in
    let e = declared_meaning names (coded o h.name h.arity) in
    let same : e ≡ f (head_meaning names h) = ap (λ (o : NameId). declared (text_of names o) (text_of names h.name) h.arity) is in
    let more : map f (map (head_meaning names) (take (i + 1) heads)) ≡ done ++ f (head_meaning names h) ∷ [] =
    ap (map f) (map_more (head_meaning names) heads i d within) ∙ map-append f (map (head_meaning names) (take i heads)) (head_meaning names h ∷ []) in
    subst (λ (ds : List Declared). IsListing names ds new) (append_assoc before done (e ∷ []) ∙ ap (λ (e : Declared). before ++ (done ++ e ∷ [])) same ∙ ap (λ ds. before ++ ds) (sym more))
    (adds (before ++ done) (record { owner = subst (IsKnown names) (sym is) known; name = (owned i d within).name }) has)

groups_are : (o : List ℕ) (groups : List Group) → map (declared_head o) (map head_of_group groups) ≡ map (function o) groups
groups_are o groups = map_twice (declared_head o) head_of_group groups

pub all_heads : (m : Named) (before : Lists) (heads : List Head) → heads ≡ map head_of_group (groups_in m) → and_heads m.name heads before ≡ and_functions m before
all_heads m before heads are =
    lists _ _ _ _ _ _ _ _ refl refl refl (ap (λ ds. before.functions ++ ds) (ap (map (declared_head m.name)) are ∙ groups_are m.name (groups_in m)))

-- ---- constructors

pub no_constructor : (o : List ℕ) (before : Lists) → before ≡ and_constructors o [] before
no_constructor o before = lists _ _ _ _ _ _ _ _ refl (sym (append-nil before.constructors)) refl refl

count_is : (ts : List TypeTerm) → type_count (types_from ts) ≡ length ts
count_is [] = refl
count_is (t ∷ ts) = ap (λ n. n + 1) (count_is ts) ∙ omega arith

pub constructor_more : (names : List (List ℕ)) (o : NameId) (before : List Declared) (cs : List code_items.ConstructorDeclaration) (i : ℕ) (c : code_items.ConstructorDeclaration) (n : ℕ) (new : Listing)
    → i < length cs → c ≡ get_or cs i c → n ≡ length c.fields.items
    → IsListing names ((before ++ map (constructor (text_of names o)) (map (constructor_meaning names) (take i cs))) ++ declared_meaning names (coded o c.name.text n) ∷ []) new
    → IsListing names (before ++ map (constructor (text_of names o)) (map (constructor_meaning names) (take (i + 1) cs))) new
constructor_more names o before cs i c n new within here counted has =
    let f : ConstructorDeclaration → Declared = constructor (text_of names o) in
    let done = map f (map (constructor_meaning names) (take i cs)) in
    let e = declared_meaning names (coded o c.name.text n) in
    let same : e ≡ f (constructor_meaning names c) =
    ap (λ n. declared (text_of names o) (text_of names c.name.text) n) (counted ∙ sym (length-map c.fields.items (type_meaning names)) ∙ sym (count_is (map (type_meaning names) c.fields.items))) in
    let more : map f (map (constructor_meaning names) (take (i + 1) cs)) ≡ done ++ f (constructor_meaning names c) ∷ [] =
    ap (map f) (map_more (constructor_meaning names) cs i c within ∙ ap (λ c. map (constructor_meaning names) (take i cs) ++ constructor_meaning names c ∷ []) (sym here))
    ∙ map-append f (map (constructor_meaning names) (take i cs)) (constructor_meaning names c ∷ []) in
    subst (λ (ds : List Declared). IsListing names ds new) (append_assoc before done (e ∷ []) ∙ ap (λ (e : Declared). before ++ (done ++ e ∷ [])) same ∙ ap (λ ds. before ++ ds) (sym more)) has

-- ---- items

pub item_step : (names : List (List ℕ)) (m o : NameId) (before : Lists) (items : List texts.Item) (i : ℕ) (item : texts.Item) (old new : Declarations) → o ≡ m → i < length items → item ≡ get_or items i item
    → IsKnown names m → All (ItemIsOf m names) items
    → ((before : Lists) → IsKnown names o → ItemIsOf o names item → AreListed names before old → AreListed names (and_item (text_of names o) (item_meaning names item) before) new)
    → AreListed names (and_items (text_of names m) (map (item_meaning names) (take i items)) before) old
    → AreListed names (and_items (text_of names m) (map (item_meaning names) (take (i + 1) items)) before) new
item_step names m o before items i item old new is within here known owned adds has =
    let done = and_items (text_of names m) (map (item_meaning names) (take i items)) before in
    let own : ItemIsOf m names item = subst (λ (x : texts.Item). ItemIsOf m names x) (sym here) (owned i item within) in
    let more : AreListed names (and_item (text_of names o) (item_meaning names item) done) new =
    adds done (subst (IsKnown names) (sym is) known) (subst (λ (o : NameId). ItemIsOf o names item) (sym is) own) has in
    subst (λ (l : Lists). AreListed names l new)
    (ap (λ (o : NameId). and_item (text_of names o) (item_meaning names item) done) is ∙ item_more (text_of names m) before texts.Item (item_meaning names) items i item within here) more
