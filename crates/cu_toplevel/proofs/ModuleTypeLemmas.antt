-- The data types and the synonyms that items declare.
use Rattle.std.proofs.Common.{◌≡◌, ◌∙◌, ℕ, ◌+◌, ◌<◌, Bool, true, false, List, [], ◌∷◌, ◌++◌, map, take, refl, sym, ap, get_or, length, append-nil, if◌then◌else◌}
use Rattle.std.proofs.lemmas.List.{flat_map_more, map-append, map_more}
use Rattle.std.specs.List.{flat_map}
use Rattle.std.specs.Str.{bytes_eq}
use Rattle.std.specs.declared.alloc.Global.{Global}
use Rattle.std.specs.declared.vec.Vec.{Vec}
use Rattle.cu_kernel.specs.Kernel as kernel
use Rattle.cu_kernel.specs.KernelOf as code
use Rattle.cu_kernel.specs.declared.declarations.DataType.{DataType}
use Rattle.cu_kernel.specs.declared.declarations.Synonym.{Synonym}
use Rattle.cu_kernel.specs.TypeExpr.{TypeExpr}
use Rattle.cu_entities.specs.Entities.{Types}
use Rattle.cu_modules.specs.BuiltInEntities.{prelude_name}
use Rattle.cu_names.specs.declared.names.NameId.{NameId}
use Rattle.cu_names.specs.declared.place.Place.{Place}
use Rattle.cu_syntax.specs.declared.items.ConstructorDeclaration as code_items
use Rattle.cu_syntax.specs.declared.items.ItemNode.{ItemNode}
use Rattle.cu_syntax.specs.declared.items.ItemNode.TheVariants as node
use Rattle.cu_syntax.specs.declared.name.Name as code_names
use Rattle.cu_syntax.specs.declared.types.TypeTerm as code_types
use Rattle.cu_syntax.specs.Items.{constructor_meaning, item_node}
use Rattle.cu_syntax.specs.Names.{name_meaning}
use Rattle.cu_syntax.specs.Syntax.{Item, Name, TypeTerm}
use Rattle.cu_syntax.specs.Types.{type_meaning}
use Rattle.cu_toplevel.specs.Inside.Declared.{declared_synonym, declared_type}
use Rattle.cu_translation.specs.ModuleNames.{id_of}
use Rattle.cu_translation.specs.ModuleTypes.{Reading, declared_constructor, is_public, synonyms_by, types_by}
use Rattle.cu_translation.specs.Numbered.{only_in_prelude}

-- ---- one item

pub data_adds : (names : List (List ℕ)) (r : Reading) (item : Item) (v : ItemNode) (at : Place) (name : code_names.Name) (ps : Vec code_names.Name Global) (cs : Vec code_items.ConstructorDeclaration Global) (old new : List DataType) (made : DataType)
    → item_node names v ≡ item → v ≡ node.Data at name ps cs → new ≡ old ++ made ∷ []
    → code.type_meaning made ≡ declared_type r (name_meaning names name) (map (name_meaning names) ps.items) (map (constructor_meaning names) cs.items)
    → map code.type_meaning new ≡ map code.type_meaning old ++ types_by r item
data_adds names r item v at name ps cs old new made meaning is pushed same =
    ap (map code.type_meaning) pushed ∙ map-append code.type_meaning old (made ∷ [])
    ∙ ap (λ (t : kernel.DataType). map code.type_meaning old ++ t ∷ []) same
    ∙ ap (λ i. map code.type_meaning old ++ types_by r i) (ap (item_node names) (sym is) ∙ meaning)

pub synonym_adds : (names : List (List ℕ)) (r : Reading) (item : Item) (v : ItemNode) (at : Place) (name : code_names.Name) (ps : Vec code_names.Name Global) (t : code_types.TypeTerm) (old new : List Synonym) (made : Synonym)
    → item_node names v ≡ item → v ≡ node.Synonym at name ps t → new ≡ old ++ made ∷ []
    → code.synonym_meaning made ≡ declared_synonym r (name_meaning names name) (map (name_meaning names) ps.items) (type_meaning names t)
    → map code.synonym_meaning new ≡ map code.synonym_meaning old ++ synonyms_by r item
synonym_adds names r item v at name ps t old new made meaning is pushed same =
    ap (map code.synonym_meaning) pushed ∙ map-append code.synonym_meaning old (made ∷ [])
    ∙ ap (λ (s : kernel.Synonym). map code.synonym_meaning old ++ s ∷ []) same
    ∙ ap (λ i. map code.synonym_meaning old ++ synonyms_by r i) (ap (item_node names) (sym is) ∙ meaning)

no_type : (names : List (List ℕ)) (r : Reading) (n : ItemNode)
    → ((at : Place) (name : code_names.Name) (ps : Vec code_names.Name Global) (cs : Vec code_items.ConstructorDeclaration Global) → n ≡ node.Data at name ps cs → ⊥) → types_by r (item_node names n) ≡ []
no_type names r (node.Import i) not = refl
no_type names r (node.Fixity at side level operators) not = refl
no_type names r (node.Data at name ps cs) not = absurd (not at name ps cs refl)
no_type names r (node.Synonym at name ps t) not = refl
no_type names r (node.Declaration d) not = refl

pub no_data : (names : List (List ℕ)) (r : Reading) (item : Item) (n : ItemNode) (old : List kernel.DataType) → item_node names n ≡ item
    → ((at : Place) (name : code_names.Name) (ps : Vec code_names.Name Global) (cs : Vec code_items.ConstructorDeclaration Global) → n ≡ node.Data at name ps cs → ⊥) → old ≡ old ++ types_by r item
no_data names r item n old is not = sym (append-nil old) ∙ ap (λ ts. old ++ ts) (sym (no_type names r n not) ∙ ap (types_by r) is)

no_meaning : (names : List (List ℕ)) (r : Reading) (n : ItemNode)
    → ((at : Place) (name : code_names.Name) (ps : Vec code_names.Name Global) (t : code_types.TypeTerm) → n ≡ node.Synonym at name ps t → ⊥) → synonyms_by r (item_node names n) ≡ []
no_meaning names r (node.Import i) not = refl
no_meaning names r (node.Fixity at side level operators) not = refl
no_meaning names r (node.Data at name ps cs) not = refl
no_meaning names r (node.Synonym at name ps t) not = absurd (not at name ps t refl)
no_meaning names r (node.Declaration d) not = refl

pub no_synonym : (names : List (List ℕ)) (r : Reading) (item : Item) (n : ItemNode) (old : List kernel.Synonym) → item_node names n ≡ item
    → ((at : Place) (name : code_names.Name) (ps : Vec code_names.Name Global) (t : code_types.TypeTerm) → n ≡ node.Synonym at name ps t → ⊥) → old ≡ old ++ synonyms_by r item
no_synonym names r item n old is not = sym (append-nil old) ∙ ap (λ ss. old ++ ss) (sym (no_meaning names r n not) ∙ ap (synonyms_by r) is)

-- ---- all items

pub items_add : {X T : Type 0} (by : Item → List X) (f : T → Item) (before : List X) (items : List T) (i : ℕ) (item : T) (old new : List X) → i < length items → item ≡ get_or items i item → new ≡ old ++ by (f item)
    → old ≡ before ++ flat_map by (map f (take i items)) → new ≡ before ++ flat_map by (map f (take (i + 1) items))
items_add by f before items i item old new within here adds all =
    adds ∙ ap (λ xs. xs ++ by (f item)) all
    ∙ flat_map_more by before (map f (take i items)) (f item)
    ∙ ap (λ is. before ++ flat_map by is) (sym (map_more f items i item within ∙ ap (λ x. map f (take i items) ++ f x ∷ []) (sym here)))

-- ---- what is built in

pub given_there : {X : Type 0} (owner : List ℕ) (xs : List X) (found : Bool) → found ≡ true → found ≡ bytes_eq owner prelude_name → xs ≡ only_in_prelude owner xs
given_there owner xs found is same = ap (λ (h : Bool). if h then xs else []) (sym is ∙ same)

pub not_given_there : {X : Type 0} (owner : List ℕ) (xs : List X) (found : Bool) → found ≡ false → found ≡ bytes_eq owner prelude_name → [] ≡ only_in_prelude owner xs
not_given_there owner xs found is same = ap (λ (h : Bool). if h then xs else []) (sym is ∙ same)

-- ---- declarations

abbrev pub meant_constructor : List (List ℕ) → Reading → List code_names.Name → code_items.ConstructorDeclaration → kernel.Constructor
meant_constructor names r parameters c = declared_constructor r (map (name_meaning names) parameters) (constructor_meaning names c)

pub synonym_is : (r : Reading) (number : ℕ) (id : NameId) (name : Name) (ps : List Name) (t : TypeTerm) (arity : ℕ) (public : Bool) (body : TypeExpr) → id ≡ id_of r.table name.text → r.number ≡ number
    → public ≡ is_public r Types name.text → arity ≡ length ps → body ≡ (declared_synonym r name ps t).body
    → record { name = id; «module» = number; public = public; arity = arity; body = body } ≡ declared_synonym r name ps t
synonym_is r number id name ps t arity public body named place open_to counted same = λ j. record {
  name = named j;
  «module» = sym place j;
  public = open_to j;
  arity = counted j;
  body = same j;
}
