-- What trees of items, headers and goals say, by their parts.
use Rattle.std.specs.Prelude.{◌≡◌, ℕ, zero, suc, Bool, true, false, List, [], ◌∷◌, ◌++◌, IfNone, IfSome, Option, None, Some, is_some, map, refl, slice_get}
use Rattle.std.specs.List.{All}
use Rattle.std.specs.Option.{unwrap_or}
use Rattle.std.proofs.Common.{ap, ap₂, append_assoc, append-nil, sym, ◌∙◌}
use Rattle.std.proofs.lemmas.List.{map-append}
use Rattle.cu_lex.specs.Located.{Position}
use Rattle.cu_peg.specs.Parse.{Parts, Chosen, NoTree, MoreTrees, only}
use Rattle.cu_syntax.specs.declared.declarations.Declaration.{Declaration}
use Rattle.cu_syntax.specs.declared.items.Side.{Side}
use Rattle.cu_syntax.specs.declared.items.Side.TheVariants as sides
use Rattle.cu_syntax.specs.declared.name.Name.{Name}
use Rattle.cu_syntax.specs.declared.subtree.Subtree.{Subtree}
use Rattle.cu_syntax.specs.declared.symbol.Symbol.{Symbol}
use Rattle.cu_syntax.specs.declared.symbol.Symbol.TheVariants as symbol
use Rattle.cu_syntax.specs.declared.types.TypeTerm.{TypeTerm}
use Rattle.cu_syntax.specs.Declarations.{declaration_meaning}
use Rattle.cu_syntax.specs.Inside.Fits.{fits}
use Rattle.cu_syntax.specs.Forms.{is_constructor_node, is_item_node}
use Rattle.cu_syntax.specs.ItemSymbols.{is_import, is_item}
use Rattle.cu_syntax.specs.Names.{name_meaning}
use Rattle.cu_syntax.specs.Reading.{Tree, Trees, alias_of, constructor_as, constructor_declaration, constructors_named, constructors_of, declaration_as, digit_of, each, each_in, entity_of, export_of, exports_of, expression_of, free_names, goal_of, goal_variables, header_of, import_list, import_of, is_there, item_as, item_of, module_name, name_of, names_in, optional, place, side_of}
use Rattle.cu_syntax.specs.SubtreeMeaning.{tree_of}
use Rattle.cu_syntax.specs.Subtrees.{Takes, part_of, trees_from}
use Rattle.cu_syntax.specs.Syntax as syntax
use Rattle.cu_syntax.specs.Types.{type_meaning, type_tree, types_meaning}
use Rattle.cu_syntax.proofs.DeclarationLemmas.{before, before_folded}
use Rattle.cu_syntax.proofs.ShapeLemmas.{each_at, fits_as, form, never, parted, part_fits, sequence_parts, taken, takes_as}
use Rattle.cu_syntax.proofs.TypeForms.{HasSymbol, arguments_are, term_is}
use Rattle.cu_syntax.proofs.ViewLemmas.{Reads, ap₃, ap₄, reads_all, reads_first, reads_one}

-- what is optional

pub optional_there : {A : Type 0} (f : Tree → A) (tree inner : Tree) (a : A) → tree ≡ Parts (only inner) → a ≡ f inner → Some a ≡ optional f tree
optional_there f tree inner a t e = ap Some e ∙ sym (ap (optional f) t)

pub optional_none : {A : Type 0} (f : Tree → A) (tree : Tree) → tree ≡ Parts NoTree → None ≡ optional f tree
optional_none f tree t = sym (ap (optional f) t)

-- whether something optional was found
pub there_is : (names : List (List ℕ)) (tree : Tree) (found : Option Subtree) → IfSome found (λ part. tree ≡ Parts (only (tree_of names part))) → IfNone found (tree ≡ Parts NoTree)
    → is_some found ≡ is_there tree
there_is names tree (Some part) t n = sym (ap is_there t)
there_is names tree None t n = sym (ap is_there n)

-- equal arguments
pub ap₅ : {A B C D E F : Type 0} (f : A → B → C → D → E → F) {a a' : A} {b b' : B} {c c' : C} {d d' : D} {e e' : E} → a ≡ a' → b ≡ b' → c ≡ c' → d ≡ d' → e ≡ e'
    → f a b c d e ≡ f a' b' c' d' e'
ap₅ f {a} {a'} {b} {b'} {c} {c'} {d} {d'} {e} {e'} p q r s t = ap₄ (λ x y z w. f x y z w e) p q r s ∙ ap (f a' b' c' d') t

-- lists of things, each read by itself

pub read_part : {X A : Type 0} (f : X → A) (h : Tree → A) (names : List (List ℕ)) (whole : List A) (done after : List X) (left later : List Subtree) (part : Subtree) (x : X)
    → Reads (before f) (each h) names whole done left → left ≡ part ∷ later → f x ≡ h (tree_of names part) → after ≡ done ++ x ∷ [] → Reads (before f) (each h) names whole after later
read_part f h names whole done after left later part x e l same a =
    reads_one (before f) (each h) names whole done after left later part x e l (λ rest. ap (λ y. y ∷ each h rest) (sym same)) a

pub read_first : {X A : Type 0} (f : X → A) (h : Tree → A) (names : List (List ℕ)) (list : Tree) (whole : List A) (done : List X) (left parts : List Subtree) → each_in h list ≡ whole
    → done ≡ [] → left ≡ parts → list ≡ Parts (trees_from (map (tree_of names) parts)) → Reads (before f) (each h) names whole done left
read_first f h names list whole done left parts w d l t = sym w ∙ reads_first (before f) (each h) (each_in h) names list done left parts (λ trees. refl) d l t

pub read_all : {X A : Type 0} (f : X → A) (h : Tree → A) (names : List (List ℕ)) (whole : List A) (done : List X) (left : List Subtree)
    → Reads (before f) (each h) names whole done left → left ≡ [] → map f done ≡ whole
read_all f h names whole done left e none = sym (reads_all (before f) (each h) names whole done left e none ∙ before_folded f done)

-- fixity declarations

abbrev fixity_words : List Symbol
fixity_words = symbol.Infixl ∷ symbol.Infixr ∷ symbol.Infix ∷ []

-- the side that a word says
abbrev pub side_word : Symbol → Side
side_word symbol.Infixl = sides.Left
side_word symbol.Infixr = sides.Right
side_word _ = sides.Neither

side_at : (n : ℕ) (inner : Tree) (chosen : Symbol) → slice_get fixity_words n ≡ Some chosen → side_word chosen ≡ side_of (Chosen n inner)
side_at zero inner chosen e = let same : chosen ≡ symbol.Infixl = cc in ap side_word same
side_at (suc zero) inner chosen e = let same : chosen ≡ symbol.Infixr = cc in ap side_word same
side_at (suc (suc zero)) inner chosen e = let same : chosen ≡ symbol.Infix = cc in ap side_word same
side_at (suc (suc (suc n))) inner chosen e = absurd cc

pub side_taken : (s : Symbol) (tree : Tree) (chosen : Symbol) (inner : Tree) → s ≡ symbol.FixityWord → fits s tree ≡ true → Takes s tree chosen inner → side_word chosen ≡ side_of tree
side_taken s tree chosen inner e h t =
    let m = taken symbol.FixityWord fixity_words tree chosen inner refl (fits_as s symbol.FixityWord tree e h) (takes_as s symbol.FixityWord tree chosen inner e t) in
    side_at m.number inner chosen m.found ∙ sym (ap side_of m.is)

pub neither : (chosen : Symbol) → ¬ (chosen ≡ symbol.Infixl) → ¬ (chosen ≡ symbol.Infixr) → sides.Neither ≡ side_word chosen
neither symbol.Infixl l r = absurd (l refl)
neither symbol.Infixr l r = absurd (r refl)
neither _ l r = refl

pub level_there : (tree inner : Tree) (n : ℕ) → tree ≡ Parts (only inner) → n ≡ digit_of inner → n ≡ unwrap_or (optional digit_of tree) 9
level_there tree inner n t e = e ∙ sym (ap (λ x. unwrap_or (optional digit_of x) 9) t)

pub level_none : (tree : Tree) → tree ≡ Parts NoTree → 9 ≡ unwrap_or (optional digit_of tree) 9
level_none tree t = sym (ap (λ x. unwrap_or (optional digit_of x) 9) t)

pub fixity_is : (s : Symbol) (tree one two three : Tree) (at : Position) (side : Side) (level : ℕ) (operators : List syntax.Name) → s ≡ symbol.FixityDecl → fits s tree ≡ true
    → at ≡ place tree → one ≡ part_of tree 0 → side ≡ side_of one → two ≡ part_of tree 1 → level ≡ unwrap_or (optional digit_of two) 9 → three ≡ part_of tree 2
    → operators ≡ names_in three → syntax.Fixity at side level operators ≡ item_as symbol.FixityDecl tree
fixity_is s tree one two three at side level operators e h a p q r l t n =
    let m = form s symbol.FixityDecl symbol.FixityWord (symbol.OptionalDigit ∷ symbol.OpList ∷ []) tree e h refl refl in
    ap₄ syntax.Fixity (a ∙ m.at) (q ∙ ap side_of p) (l ∙ ap (λ x. unwrap_or (optional digit_of x) 9) r) (n ∙ ap names_in t) ∙ sym (ap (item_as symbol.FixityDecl) m.is)

-- declarations of types

pub data_is : (s : Symbol) (tree one two three : Tree) (at : Position) (name : syntax.Name) (parameters : List syntax.Name) (constructors : List syntax.ConstructorDeclaration)
    → s ≡ symbol.DataDecl → fits s tree ≡ true → at ≡ place tree → one ≡ part_of tree 1 → name ≡ name_of one → two ≡ part_of tree 2 → parameters ≡ names_in two
    → three ≡ part_of tree 3 → constructors ≡ unwrap_or (optional constructors_of three) [] → syntax.Data at name parameters constructors ≡ item_as symbol.DataDecl tree
data_is s tree one two three at name parameters constructors e h a p n q v r c =
    let m = form s symbol.DataDecl symbol.DataWord (symbol.ConId ∷ symbol.TypeVars ∷ symbol.OptionalConDecls ∷ []) tree e h refl refl in
    ap₄ syntax.Data (a ∙ m.at) (n ∙ ap name_of p) (v ∙ ap names_in q) (c ∙ ap (λ x. unwrap_or (optional constructors_of x) []) r) ∙ sym (ap (item_as symbol.DataDecl) m.is)

pub synonym_is : (names : List (List ℕ)) (s : Symbol) (tree one two : Tree) (last : Subtree) (at : Position) (name : syntax.Name) (parameters : List syntax.Name) (t : TypeTerm)
    → s ≡ symbol.SynonymDecl → fits s tree ≡ true → at ≡ place tree → one ≡ part_of tree 1 → name ≡ name_of one → two ≡ part_of tree 2 → parameters ≡ names_in two
    → t.tree ≡ last → last.symbol ≡ symbol.TypeExp → tree_of names last ≡ part_of tree 4
    → syntax.Synonym at name parameters (type_meaning names t) ≡ item_as symbol.SynonymDecl tree
synonym_is names s tree one two last at name parameters t e h a p n q v k l u =
    let m = form s symbol.SynonymDecl symbol.Type (symbol.ConId ∷ symbol.TypeVars ∷ symbol.Equals ∷ symbol.TypeExp ∷ []) tree e h refl refl in
    ap₄ syntax.Synonym (a ∙ m.at) (n ∙ ap name_of p) (v ∙ ap names_in q) (term_is names t last symbol.TypeExp (part_of tree 4) k l u) ∙ sym (ap (item_as symbol.SynonymDecl) m.is)

-- constructors

-- the constructors after the equals sign
pub constructors_there : (s : Symbol) (tree inner list : Tree) (found : List syntax.ConstructorDeclaration) → tree ≡ Parts (only inner) → s ≡ symbol.ConDecls → fits s inner ≡ true
    → list ≡ part_of inner 1 → found ≡ each_in constructor_declaration list → found ≡ unwrap_or (optional constructors_of tree) []
constructors_there s tree inner list found t e h l f =
    let m = form s symbol.ConDecls symbol.Equals (symbol.ConDeclList ∷ []) inner e h refl refl in
    f ∙ ap (each_in constructor_declaration) l ∙ sym (ap constructors_of m.is) ∙ sym (ap (λ x. unwrap_or (optional constructors_of x) []) t)

pub no_constructors : (tree : Tree) (found : List syntax.ConstructorDeclaration) → tree ≡ Parts NoTree → found ≡ [] → found ≡ unwrap_or (optional constructors_of tree) []
no_constructors tree found t e = e ∙ sym (ap (λ x. unwrap_or (optional constructors_of x) []) t)

abbrev constructor_symbols : List Symbol
constructor_symbols = symbol.InfixConDecl ∷ symbol.PrefixConDecl ∷ []

abbrev IsConstructor : Symbol → Type 0
IsConstructor s = is_constructor_node s ≡ true

-- What a choice took is the constructor.
pub record ConstructorTaken (tree : Tree) (chosen : Symbol) (inner : Tree) : Type 0 where
  pub is_constructor : is_constructor_node chosen ≡ true
  pub is : constructor_declaration tree ≡ constructor_as chosen inner

pub constructor_taken : (s : Symbol) (tree : Tree) (chosen : Symbol) (inner : Tree) → s ≡ symbol.ConDecl → fits s tree ≡ true → Takes s tree chosen inner
    → ConstructorTaken tree chosen inner
constructor_taken s tree chosen inner e h t =
    let m = taken symbol.ConDecl constructor_symbols tree chosen inner refl (fits_as s symbol.ConDecl tree e h) (takes_as s symbol.ConDecl tree chosen inner e t) in
    record {
      is_constructor = each_at IsConstructor constructor_symbols m.number chosen (refl, (refl, tt)) m.found;
      is = ap constructor_declaration m.is ∙ ap (λ a. constructor_as a inner) m.symbol;
    }

abbrev declared : Position → syntax.Name → syntax.TypeTerms → syntax.ConstructorDeclaration
declared spot called parts = record { at = spot; name = called; fields = parts }

pub infix_constructor_is : (names : List (List ℕ)) (s : Symbol) (tree middle : Tree) (one two : Subtree) (at : Position) (name : syntax.Name) (t u : TypeTerm) (fields : List TypeTerm)
    → s ≡ symbol.InfixConDecl → fits s tree ≡ true → at ≡ place tree → middle ≡ part_of tree 1 → name ≡ name_of middle → t.tree ≡ one → one.symbol ≡ symbol.BType
    → tree_of names one ≡ part_of tree 0 → u.tree ≡ two → two.symbol ≡ symbol.BType → tree_of names two ≡ part_of tree 2 → fields ≡ t ∷ u ∷ []
    → declared at name (types_meaning names fields) ≡ constructor_as s tree
infix_constructor_is names s tree middle one two at name t u fields e h a p n k l v k' l' v' f =
    let m = form s symbol.InfixConDecl symbol.BType (symbol.ConOp ∷ symbol.BType ∷ []) tree e h refl refl in
    ap (λ ts. declared at name (types_meaning names ts)) f
    ∙ ap₄ (λ x y z w. declared x y (syntax.MoreTypes z (syntax.MoreTypes w syntax.NoType))) (a ∙ m.at) (n ∙ ap name_of p)
    (term_is names t one symbol.BType (part_of tree 0) k l v) (term_is names u two symbol.BType (part_of tree 2) k' l' v')
    ∙ sym (ap (constructor_as symbol.InfixConDecl) m.is) ∙ sym (ap (λ x. constructor_as x tree) e)

pub prefix_constructor_is : (names : List (List ℕ)) (s : Symbol) (tree first part : Tree) (at : Position) (name : syntax.Name) (fields : List TypeTerm) → s ≡ symbol.PrefixConDecl
    → fits s tree ≡ true → at ≡ place tree → first ≡ part_of tree 0 → name ≡ name_of first → part ≡ part_of tree 1 → part ≡ Parts (trees_from (map (type_tree names) fields))
    → All (HasSymbol symbol.AType) fields → declared at name (types_meaning names fields) ≡ constructor_as s tree
prefix_constructor_is names s tree first part at name fields e h a p n q t k =
    let m = form s symbol.PrefixConDecl symbol.Con (symbol.ATypes ∷ []) tree e h refl refl in
    ap₃ declared (a ∙ m.at) (n ∙ ap name_of p) (arguments_are names fields k)
    ∙ sym (ap (λ x. constructor_as symbol.PrefixConDecl (Parts (MoreTrees (part_of tree 0) (MoreTrees x NoTree)))) (sym q ∙ t))
    ∙ sym (ap (constructor_as symbol.PrefixConDecl) m.is) ∙ sym (ap (λ x. constructor_as x tree) e)

-- imports

abbrev imported : Position → Bool → syntax.ModuleName → Option syntax.ModuleName → Option syntax.ImportList → syntax.Import
imported spot only_qualified called other entities = record { at = spot; qualified = only_qualified; name = called; alias = other; list = entities }

pub import_is : (s : Symbol) (tree one two three four : Tree) (at : Position) (qualified : Bool) (name : syntax.ModuleName) (alias : Option syntax.ModuleName)
    (list : Option syntax.ImportList) → s ≡ symbol.ImportDecl → fits s tree ≡ true → at ≡ place tree → one ≡ part_of tree 1 → qualified ≡ is_there one → two ≡ part_of tree 2
    → name ≡ module_name two → three ≡ part_of tree 3 → alias ≡ optional alias_of three → four ≡ part_of tree 4 → list ≡ optional import_list four
    → imported at qualified name alias list ≡ import_of tree
import_is s tree one two three four at qualified name alias list e h a p q r n t l u i =
    let m = form s symbol.ImportDecl symbol.Import (symbol.OptionalQualified ∷ symbol.ModuleName ∷ symbol.OptionalAlias ∷ symbol.OptionalImports ∷ []) tree e h refl refl in
    ap₅ imported (a ∙ m.at) (q ∙ ap is_there p) (n ∙ ap module_name r) (l ∙ ap (optional alias_of) t) (i ∙ ap (optional import_list) u) ∙ sym (ap import_of m.is)

pub alias_is : (s : Symbol) (tree part : Tree) (name : syntax.ModuleName) → s ≡ symbol.Alias → fits s tree ≡ true → part ≡ part_of tree 1 → name ≡ module_name part → name ≡ alias_of tree
alias_is s tree part name e h p n =
    let m = form s symbol.Alias symbol.As (symbol.ModuleName ∷ []) tree e h refl refl in
    n ∙ ap module_name p ∙ sym (ap alias_of m.is)

abbrev listed : Bool → List syntax.Entity → syntax.ImportList
listed hidden found = record { hides = hidden; entities = found }

abbrev imports_parts : List Symbol
imports_parts = symbol.OptionalHiding ∷ symbol.OpenParen ∷ symbol.OptionalEntityList ∷ symbol.CloseParen ∷ []

pub list_is : (s : Symbol) (tree one two : Tree) (hides : Bool) (entities : List syntax.Entity) → s ≡ symbol.Imports → fits s tree ≡ true → one ≡ part_of tree 0
    → hides ≡ is_there one → two ≡ part_of tree 2 → entities ≡ unwrap_or (optional (each_in entity_of) two) [] → listed hides entities ≡ import_list tree
list_is s tree one two hides entities e h p i q n =
    ap₂ listed (i ∙ ap is_there p) (n ∙ ap (λ x. unwrap_or (optional (each_in entity_of) x) []) q)
    ∙ sym (ap import_list (sequence_parts symbol.Imports imports_parts tree refl (fits_as s symbol.Imports tree e h)))

-- entities

abbrev entity_symbols : List Symbol
entity_symbols = symbol.QVar ∷ symbol.TypeEntity ∷ []

-- the entity of a symbol's tree
abbrev pub entity_at : Symbol → Tree → syntax.Entity
entity_at symbol.TypeEntity tree = entity_of (Chosen 1 tree)
entity_at s tree = syntax.VariableEntity (place tree) (name_of tree)

entity_chosen : (n : ℕ) (inner : Tree) (chosen : Symbol) → slice_get entity_symbols n ≡ Some chosen → entity_at chosen inner ≡ entity_of (Chosen n inner)
entity_chosen zero inner chosen e = let same : chosen ≡ symbol.QVar = cc in ap (λ a. entity_at a inner) same
entity_chosen (suc zero) inner chosen e = let same : chosen ≡ symbol.TypeEntity = cc in ap (λ a. entity_at a inner) same
entity_chosen (suc (suc n)) inner chosen e = absurd cc

abbrev IsEntity : Symbol → Type 0
IsEntity s = ¬ (s ≡ symbol.QVar) → s ≡ symbol.TypeEntity

-- What a choice took is the entity, of a variable or a type.
pub record EntityTaken (tree : Tree) (chosen : Symbol) (inner : Tree) : Type 0 where
  pub other : ¬ (chosen ≡ symbol.QVar) → chosen ≡ symbol.TypeEntity
  pub fit : fits chosen inner ≡ true
  pub is : entity_at chosen inner ≡ entity_of tree

pub entity_taken : (s : Symbol) (tree : Tree) (chosen : Symbol) (inner : Tree) → s ≡ symbol.Entity → fits s tree ≡ true → Takes s tree chosen inner → EntityTaken tree chosen inner
entity_taken s tree chosen inner e h t =
    let m = taken symbol.Entity entity_symbols tree chosen inner refl (fits_as s symbol.Entity tree e h) (takes_as s symbol.Entity tree chosen inner e t) in
    record {
      other = each_at IsEntity entity_symbols m.number chosen ((λ no. absurd (no refl)), ((λ no. refl), tt)) m.found;
      fit = m.fit;
      is = entity_chosen m.number inner chosen m.found ∙ sym (ap entity_of m.is);
    }

pub variable_entity : (tree : Tree) (chosen : Symbol) (inner : Tree) (at : Position) (name : syntax.Name) → EntityTaken tree chosen inner → chosen ≡ symbol.QVar → at ≡ place inner
    → name ≡ name_of inner → syntax.VariableEntity at name ≡ entity_of tree
variable_entity tree chosen inner at name t e a n = ap₂ syntax.VariableEntity a n ∙ sym (ap (λ a. entity_at a inner) e) ∙ t.is

pub type_entity : (tree : Tree) (chosen : Symbol) (inner one two : Tree) (at : Position) (name : syntax.Name) (constructors : syntax.ConstructorsNamed) → EntityTaken tree chosen inner
    → chosen ≡ symbol.TypeEntity → at ≡ place inner → one ≡ part_of inner 0 → name ≡ name_of one → two ≡ part_of inner 1 → constructors ≡ constructors_named two
    → syntax.TypeEntity at name constructors ≡ entity_of tree
type_entity tree chosen inner one two at name constructors t e a p n q c =
    let m = form chosen symbol.TypeEntity symbol.QCon (symbol.OptionalConstructors ∷ []) inner e t.fit refl refl in
    ap₃ syntax.TypeEntity (a ∙ m.at) (n ∙ ap name_of p) (c ∙ ap constructors_named q) ∙ sym (ap (λ x. entity_of (Chosen 1 x)) m.is) ∙ sym (ap (λ a. entity_at a inner) e) ∙ t.is

-- the constructors that are named

abbrev named_symbols : List Symbol
named_symbols = symbol.DotDot ∷ symbol.OptionalConstructorList ∷ []

-- the constructors that a symbol's tree names
abbrev pub named_at : Symbol → Tree → syntax.ConstructorsNamed
named_at symbol.DotDot tree = syntax.AllOfThem
named_at s tree = syntax.Only (unwrap_or (optional names_in tree) [])

abbrev between : Tree → Tree → Tree → Tree
between opening tree closing = Parts (only (Parts (MoreTrees opening (MoreTrees tree (MoreTrees closing NoTree)))))

named_chosen : (n : ℕ) (inner opening closing : Tree) (chosen : Symbol) → slice_get named_symbols n ≡ Some chosen
    → named_at chosen inner ≡ constructors_named (between opening (Chosen n inner) closing)
named_chosen zero inner opening closing chosen e = let same : chosen ≡ symbol.DotDot = cc in ap (λ a. named_at a inner) same
named_chosen (suc zero) inner opening closing chosen e = let same : chosen ≡ symbol.OptionalConstructorList = cc in ap (λ a. named_at a inner) same
named_chosen (suc (suc n)) inner opening closing chosen e = absurd cc

abbrev IsNamed : Symbol → Type 0
IsNamed s = ¬ (s ≡ symbol.DotDot) → s ≡ symbol.OptionalConstructorList

-- What a choice took names the constructors.
pub record NamesTaken (tree : Tree) (chosen : Symbol) (inner : Tree) : Type 0 where
  pub other : ¬ (chosen ≡ symbol.DotDot) → chosen ≡ symbol.OptionalConstructorList
  pub is : named_at chosen inner ≡ constructors_named tree

pub names_taken : (s t : Symbol) (tree outer part : Tree) (chosen : Symbol) (inner : Tree) → tree ≡ Parts (only outer) → s ≡ symbol.Constructors → fits s outer ≡ true
    → part ≡ part_of outer 1 → t ≡ symbol.ConstructorNames → fits t part ≡ true → Takes t part chosen inner → NamesTaken tree chosen inner
names_taken s t tree outer part chosen inner o e h p k f w =
    let m = form s symbol.Constructors symbol.OpenParen (symbol.ConstructorNames ∷ symbol.CloseParen ∷ []) outer e h refl refl in
    let n = taken symbol.ConstructorNames named_symbols part chosen inner refl (fits_as t symbol.ConstructorNames part k f) (takes_as t symbol.ConstructorNames part chosen inner k w) in
    record {
      other = each_at IsNamed named_symbols n.number chosen ((λ no. absurd (no refl)), ((λ no. refl), tt)) n.found;
      is = named_chosen n.number inner (part_of outer 0) (part_of outer 2) chosen n.found
          ∙ sym (ap (λ x. constructors_named (between (part_of outer 0) x (part_of outer 2))) (sym p ∙ n.is))
          ∙ sym (ap (λ x. constructors_named (Parts (only x))) m.is) ∙ sym (ap constructors_named o);
    }

pub none_named : (tree : Tree) → tree ≡ Parts NoTree → syntax.NoneOfThem ≡ constructors_named tree
none_named tree t = sym (ap constructors_named t)

pub all_named : (tree : Tree) (chosen : Symbol) (inner : Tree) → NamesTaken tree chosen inner → chosen ≡ symbol.DotDot → syntax.AllOfThem ≡ constructors_named tree
all_named tree chosen inner t e = sym (ap (λ a. named_at a inner) e) ∙ t.is

pub only_named : (tree : Tree) (chosen : Symbol) (inner list : Tree) (found : List syntax.Name) → NamesTaken tree chosen inner → chosen ≡ symbol.OptionalConstructorList
    → inner ≡ Parts (only list) → found ≡ names_in list → syntax.Only found ≡ constructors_named tree
only_named tree chosen inner list found t e i f =
    ap syntax.Only (f ∙ sym (ap (λ x. unwrap_or (optional names_in x) []) i)) ∙ sym (ap (λ a. named_at a inner) e) ∙ t.is

pub empty_named : (tree : Tree) (chosen : Symbol) (inner : Tree) (found : List syntax.Name) → NamesTaken tree chosen inner → chosen ≡ symbol.OptionalConstructorList
    → inner ≡ Parts NoTree → found ≡ [] → syntax.Only found ≡ constructors_named tree
empty_named tree chosen inner found t e i f =
    ap syntax.Only (f ∙ sym (ap (λ x. unwrap_or (optional names_in x) []) i)) ∙ sym (ap (λ a. named_at a inner) e) ∙ t.is

-- exports

abbrev export_symbols : List Symbol
export_symbols = symbol.ModuleExport ∷ symbol.Entity ∷ []

-- the export of a symbol's tree
abbrev pub export_at : Symbol → Tree → syntax.Export
export_at symbol.ModuleExport tree = export_of (Chosen 0 tree)
export_at s tree = syntax.EntityExport (entity_of tree)

export_chosen : (n : ℕ) (inner : Tree) (chosen : Symbol) → slice_get export_symbols n ≡ Some chosen → export_at chosen inner ≡ export_of (Chosen n inner)
export_chosen zero inner chosen e = let same : chosen ≡ symbol.ModuleExport = cc in ap (λ a. export_at a inner) same
export_chosen (suc zero) inner chosen e = let same : chosen ≡ symbol.Entity = cc in ap (λ a. export_at a inner) same
export_chosen (suc (suc n)) inner chosen e = absurd cc

abbrev IsExport : Symbol → Type 0
IsExport s = ¬ (s ≡ symbol.ModuleExport) → s ≡ symbol.Entity

-- What a choice took is the export.
pub record ExportTaken (tree : Tree) (chosen : Symbol) (inner : Tree) : Type 0 where
  pub other : ¬ (chosen ≡ symbol.ModuleExport) → chosen ≡ symbol.Entity
  pub fit : fits chosen inner ≡ true
  pub is : export_at chosen inner ≡ export_of tree

pub export_taken : (s : Symbol) (tree : Tree) (chosen : Symbol) (inner : Tree) → s ≡ symbol.Export → fits s tree ≡ true → Takes s tree chosen inner → ExportTaken tree chosen inner
export_taken s tree chosen inner e h t =
    let m = taken symbol.Export export_symbols tree chosen inner refl (fits_as s symbol.Export tree e h) (takes_as s symbol.Export tree chosen inner e t) in
    record {
      other = each_at IsExport export_symbols m.number chosen ((λ no. absurd (no refl)), ((λ no. refl), tt)) m.found;
      fit = m.fit;
      is = export_chosen m.number inner chosen m.found ∙ sym (ap export_of m.is);
    }

pub module_export : (tree : Tree) (chosen : Symbol) (inner part : Tree) (at : Position) (name : syntax.ModuleName) → ExportTaken tree chosen inner → chosen ≡ symbol.ModuleExport
    → at ≡ place inner → part ≡ part_of inner 1 → name ≡ module_name part → syntax.ModuleExport at name ≡ export_of tree
module_export tree chosen inner part at name t e a p n =
    let m = form chosen symbol.ModuleExport symbol.Module (symbol.ModuleName ∷ []) inner e t.fit refl refl in
    ap₂ syntax.ModuleExport (a ∙ m.at) (n ∙ ap module_name p) ∙ sym (ap (λ x. export_of (Chosen 0 x)) m.is) ∙ sym (ap (λ a. export_at a inner) e) ∙ t.is

pub entity_export : (tree : Tree) (chosen : Symbol) (inner : Tree) (found : syntax.Entity) → ExportTaken tree chosen inner → chosen ≡ symbol.Entity → found ≡ entity_of inner
    → syntax.EntityExport found ≡ export_of tree
entity_export tree chosen inner found t e f = ap syntax.EntityExport f ∙ sym (ap (λ a. export_at a inner) e) ∙ t.is

pub exports_are : (s : Symbol) (tree list : Tree) (found : List syntax.Export) → s ≡ symbol.Exports → fits s tree ≡ true → list ≡ part_of tree 1
    → found ≡ unwrap_or (optional (each_in export_of) list) [] → found ≡ exports_of tree
exports_are s tree list found e h l f =
    let m = form s symbol.Exports symbol.OpenParen (symbol.OptionalExportList ∷ symbol.CloseParen ∷ []) tree e h refl refl in
    f ∙ ap (λ x. unwrap_or (optional (each_in export_of) x) []) l ∙ sym (ap exports_of m.is)

-- what is listed between parentheses, if anything is

pub list_there : {A : Type 0} (f : Tree → A) (tree inner : Tree) (found : List A) → tree ≡ Parts (only inner) → found ≡ each_in f inner → found ≡ unwrap_or (optional (each_in f) tree) []
list_there f tree inner found t e = e ∙ sym (ap (λ x. unwrap_or (optional (each_in f) x) []) t)

pub list_none : {A : Type 0} (f : Tree → A) (tree : Tree) (found : List A) → tree ≡ Parts NoTree → found ≡ [] → found ≡ unwrap_or (optional (each_in f) tree) []
list_none f tree found t e = e ∙ sym (ap (λ x. unwrap_or (optional (each_in f) x) []) t)

-- goals

abbrev goal_where_parts : List Symbol
goal_where_parts = symbol.Where ∷ symbol.OpenBrace ∷ symbol.FreeDeclList ∷ symbol.CloseBrace ∷ []

-- the variables of the free declarations of a list
abbrev pub free_in : Tree → List syntax.Name
free_in (Parts trees) = free_names trees
free_in _ = []

pub goal_where : (s : Symbol) (tree inner list : Tree) → tree ≡ Parts (only inner) → s ≡ symbol.GoalWhere → fits s inner ≡ true → list ≡ part_of inner 2 → free_in list ≡ goal_variables tree
goal_where s tree inner list t e h l =
    let f = fits_as s symbol.GoalWhere inner e h in
    let m = form s symbol.GoalWhere symbol.Where (symbol.OpenBrace ∷ symbol.FreeDeclList ∷ symbol.CloseBrace ∷ []) inner e h refl refl in
    let two = parted symbol.FreeDeclList (part_of inner 2) refl (part_fits symbol.GoalWhere goal_where_parts inner 2 symbol.FreeDeclList refl f refl) in
    ap free_in (l ∙ two)
    ∙ sym (ap (λ x. goal_variables (Parts (only (Parts (MoreTrees (part_of inner 0) (MoreTrees (part_of inner 1) (MoreTrees x (MoreTrees (part_of inner 3) NoTree)))))))) two)
    ∙ sym (ap (λ x. goal_variables (Parts (only x))) m.is) ∙ sym (ap goal_variables t)

pub no_goal_where : (tree : Tree) → tree ≡ Parts NoTree → [] ≡ goal_variables tree
no_goal_where tree t = sym (ap goal_variables t)

-- the variables of a free declaration, before those of others
pub free_first : (s : Symbol) (tree part : Tree) (rest : Trees) → s ≡ symbol.FreeDecl → fits s tree ≡ true → part ≡ part_of tree 0
    → free_names (MoreTrees tree rest) ≡ names_in part ++ free_names rest
free_first s tree part rest e h p =
    let f = fits_as s symbol.FreeDecl tree e h in
    let m = form s symbol.FreeDecl symbol.VarIdList (symbol.Free ∷ []) tree e h refl refl in
    let first = parted symbol.VarIdList (part_of tree 0) refl (part_fits symbol.FreeDecl (symbol.VarIdList ∷ symbol.Free ∷ []) tree 0 symbol.VarIdList refl f refl) in
    ap (λ x. free_names (MoreTrees x rest)) m.is
    ∙ ap (λ x. free_names (MoreTrees (Parts (MoreTrees x (MoreTrees (part_of tree 1) NoTree))) rest)) first
    ∙ sym (ap (λ x. names_in x ++ free_names rest) (p ∙ first))

pub free_begun : (names : List (List ℕ)) (list : Tree) (whole : List syntax.Name) (done : List Name) (left parts : List Subtree) → free_in list ≡ whole → done ≡ [] → left ≡ parts
    → list ≡ Parts (trees_from (map (tree_of names) parts)) → map (name_meaning names) done ++ free_names (trees_from (map (tree_of names) left)) ≡ whole
free_begun names list whole done left parts w d l t =
    ap (λ xs. map (name_meaning names) xs ++ free_names (trees_from (map (tree_of names) left))) d ∙ ap (λ xs. free_names (trees_from (map (tree_of names) xs))) l ∙ sym (ap free_in t) ∙ w

pub free_step : (names : List (List ℕ)) (whole : List syntax.Name) (done after declared : List Name) (left later : List Subtree) (part : Subtree)
    → map (name_meaning names) done ++ free_names (trees_from (map (tree_of names) left)) ≡ whole → left ≡ part ∷ later
    → ((rest : Trees) → free_names (MoreTrees (tree_of names part) rest) ≡ map (name_meaning names) declared ++ free_names rest) → after ≡ done ++ declared
    → map (name_meaning names) after ++ free_names (trees_from (map (tree_of names) later)) ≡ whole
free_step names whole done after declared left later part e l one a =
    let suffix = free_names (trees_from (map (tree_of names) later)) in
    ap (λ xs. map (name_meaning names) xs ++ suffix) a ∙ ap (λ xs. xs ++ suffix) (map-append (name_meaning names) done declared)
    ∙ append_assoc (map (name_meaning names) done) (map (name_meaning names) declared) suffix
    ∙ sym (ap (λ xs. map (name_meaning names) done ++ xs) (ap (λ xs. free_names (trees_from (map (tree_of names) xs))) l ∙ one (trees_from (map (tree_of names) later)))) ∙ e

pub free_done : (names : List (List ℕ)) (whole : List syntax.Name) (done : List Name) (left : List Subtree)
    → map (name_meaning names) done ++ free_names (trees_from (map (tree_of names) left)) ≡ whole → left ≡ [] → map (name_meaning names) done ≡ whole
free_done names whole done left e none =
    sym (append-nil (map (name_meaning names) done)) ∙ sym (ap (λ xs. map (name_meaning names) done ++ free_names (trees_from (map (tree_of names) xs))) none) ∙ e

-- items

pub declaration_item : (names : List (List ℕ)) (part : Subtree) (d : Declaration) (s : Symbol) → d.tree ≡ part → part.symbol ≡ s
    → ((tree : Tree) → item_as s tree ≡ syntax.DeclarationItem (declaration_as s tree)) → syntax.DeclarationItem (declaration_meaning names d) ≡ item_as part.symbol (tree_of names part)
declaration_item names part d s q k same =
    ap (λ (x : Subtree). syntax.DeclarationItem (declaration_as x.symbol (tree_of names x))) q
    ∙ ap (λ a. syntax.DeclarationItem (declaration_as a (tree_of names part))) k ∙ sym (same (tree_of names part)) ∙ sym (ap (λ a. item_as a (tree_of names part)) k)

abbrev pub item_nodes : List Symbol
item_nodes = symbol.FixityDecl ∷ symbol.DataDecl ∷ symbol.SynonymDecl ∷ symbol.Signature ∷ symbol.TopRule ∷ []

abbrev IsItem : Symbol → Type 0
IsItem s = is_item_node s ≡ true

-- What a choice took is the item.
pub record ItemTaken (tree : Tree) (chosen : Symbol) (inner : Tree) : Type 0 where
  pub is_node : is_item_node chosen ≡ true
  pub is : item_of tree ≡ item_as chosen inner

pub item_taken : (s : Symbol) (tree : Tree) (chosen : Symbol) (inner : Tree) → s ≡ symbol.Item → fits s tree ≡ true → Takes s tree chosen inner → ItemTaken tree chosen inner
item_taken s tree chosen inner e h t =
    let m = taken symbol.Item item_nodes tree chosen inner refl (fits_as s symbol.Item tree e h) (takes_as s symbol.Item tree chosen inner e t) in
    record {
      is_node = each_at IsItem item_nodes m.number chosen (refl, (refl, (refl, (refl, (refl, tt))))) m.found;
      is = ap item_of m.is ∙ ap (λ a. item_as a inner) m.symbol;
    }

pub import_symbol : (s : Symbol) → is_import s ≡ true → s ≡ symbol.ImportDecl
import_symbol symbol.ImportDecl h = refl
import_symbol _ h = never h

pub item_symbol : (s : Symbol) → is_item s ≡ true → is_import s ≡ false → s ≡ symbol.Item
item_symbol symbol.ImportDecl h other = never (sym other)
item_symbol symbol.Item h other = refl
item_symbol _ h other = never h

-- headers

abbrev header_parts : List Symbol
header_parts = symbol.ModuleName ∷ symbol.OptionalExports ∷ symbol.Where ∷ []

pub header_name : (s : Symbol) (tree part : Tree) (name : syntax.ModuleName) → s ≡ symbol.Header → fits s tree ≡ true → part ≡ part_of tree 1 → name ≡ module_name part
    → name ≡ (header_of tree).name
header_name s tree part name e h p n =
    let m = form s symbol.Header symbol.Module header_parts tree e h refl refl in
    n ∙ ap module_name p ∙ sym (ap (λ x. (header_of x).name) m.is)

pub header_exports : (s : Symbol) (tree part : Tree) → s ≡ symbol.Header → fits s tree ≡ true → part ≡ part_of tree 2 → optional exports_of part ≡ (header_of tree).exports
header_exports s tree part e h p =
    let m = form s symbol.Header symbol.Module header_parts tree e h refl refl in
    ap (optional exports_of) p ∙ sym (ap (λ x. (header_of x).exports) m.is)

pub goal_expression : (s : Symbol) (tree : Tree) → s ≡ symbol.Goal → fits s tree ≡ true → expression_of (part_of tree 0) ≡ (goal_of tree).expression
goal_expression s tree e h =
    let m = form s symbol.Goal symbol.Exp (symbol.OptionalGoalWhere ∷ []) tree e h refl refl in
    sym (ap (λ x. (goal_of x).expression) m.is)

pub goal_free : (s : Symbol) (tree part : Tree) → s ≡ symbol.Goal → fits s tree ≡ true → part ≡ part_of tree 1 → goal_variables part ≡ (goal_of tree).free
goal_free s tree part e h p =
    let m = form s symbol.Goal symbol.Exp (symbol.OptionalGoalWhere ∷ []) tree e h refl refl in
    ap goal_variables p ∙ sym (ap (λ x. (goal_of x).free) m.is)
