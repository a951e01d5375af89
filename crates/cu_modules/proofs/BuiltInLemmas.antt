-- The modules that are built in import no other modules than those.
use Rattle.std.specs.Prelude.{◌≡◌, ℕ, Bool, true, false, ◌||◌, not, List, [], ◌∷◌, ◌++◌, None, Some, Result, Ok, Err, if◌then◌else◌, codes, is_some, map, refl, slice_get}
use Rattle.std.proofs.Common.{◌∙◌, ap, subst, sym}
use Rattle.std.proofs.lemmas.Bool.{and_parts, both_ways}
use Rattle.std.proofs.lemmas.List.Elements.{All-cons, All-nil}
use Rattle.std.specs.List.{All, flat_map, list_any}
use Rattle.std.specs.Str.{bytes_eq}
use Rattle.cu_lex.specs.declared.token.Keyword.TheVariants as keyword
use Rattle.cu_lex.specs.Tokens as tokens
use Rattle.cu_lex.specs.Tokens.{Lexeme}
use Rattle.cu_peg.specs.declared.class.Class.TheVariants as class
use Rattle.cu_peg.specs.declared.row.Row.{Row}
use Rattle.cu_peg.specs.declared.row.Row.TheVariants as row
use Rattle.cu_peg.specs.Classes.{has}
use Rattle.cu_peg.specs.Matches.{Matches, RowMatches}
use Rattle.cu_peg.specs.Parse.{ParseTree, Chosen, MoreTrees, NoTree, Parts}
use Rattle.cu_prelude.specs.BuiltIn.{built_in}
use Rattle.cu_prelude.specs.declared.prelude.TheConstants.{PRELUDE}
use Rattle.cu_prelude.specs.declared.set_functions.TheConstants.{SET_FUNCTIONS}
use Rattle.cu_syntax.specs.declared.symbol.Symbol.{Symbol}
use Rattle.cu_syntax.specs.declared.symbol.Symbol.TheVariants as symbol
use Rattle.cu_syntax.specs.Parsing as parsing
use Rattle.cu_syntax.specs.Parsing.{Has, ItemRead, ModuleRead, Part, PartRead, PartsRead, header_and_block, imports_after, parts}
use Rattle.cu_syntax.specs.Reading.{Tree, item_as, item_of}
use Rattle.cu_syntax.specs.Table.{alternative, number, rows}
use Rattle.cu_syntax.specs.Syntax.{Import, Item, Module}
use Rattle.cu_modules.specs.Ordering.{IsOwn}
use Rattle.cu_modules.specs.BuiltInEntities.{prelude_name}
use Rattle.cu_modules.specs.Scopes.{Named, imports_by, names_module, prelude_import}
use Rattle.cu_modules.specs.Texts as texts
use Rattle.cu_modules.specs.Texts.{IsRead, TextFault}
use Rattle.cu_modules.specs.Walk.{import_names, is_built_in}
use Rattle.cu_modules.proofs.BuiltInTexts.{begins_import, block_imports_not, found_imports_not, laid_imports_not, none_begin, prelude_alone, set_functions_alone, tokens_import_not}

-- ---- an import begins with its keyword

row_of : (r : ℕ) (e : Row) (text rest : List Lexeme) (tree : ParseTree Lexeme) → slice_get rows r ≡ Some e → Matches rows has r text rest tree → RowMatches rows has e text rest tree
row_of r e text rest tree s (Matches.matches _ other _ _ _ found d) =
    let same : other ≡ e = cc in
    subst (λ (row : Row). RowMatches rows has row text rest tree) same d

token_begins : (text rest : List Lexeme) (tree : ParseTree Lexeme) → RowMatches rows has (row.Token (class.Keyword keyword.Import)) text rest tree → begins_import text ≡ true
token_begins text rest tree (RowMatches.token _ x _ h) = h

sequence_begins : (ps : List ℕ) (text rest : List Lexeme) (tree : ParseTree Lexeme) → RowMatches rows has (row.Sequence (number symbol.Import ∷ ps)) text rest tree → begins_import text ≡ true
sequence_begins ps text rest tree (RowMatches.sequence _ _ _ after _ first trees m d) = token_begins text after first (row_of (number symbol.Import) (row.Token (class.Keyword keyword.Import)) text after first refl m)

import_begins : (text : List Lexeme) (tree : ParseTree Lexeme) → Has symbol.ImportDecl text tree → begins_import text ≡ true
import_begins text tree m =
    let others = number symbol.OptionalQualified ∷ number symbol.ModuleName ∷ number symbol.OptionalAlias ∷ number symbol.OptionalImports ∷ [] in
    sequence_begins others text [] tree (row_of (number symbol.ImportDecl) (row.Sequence (number symbol.Import ∷ others)) text [] tree refl m)

-- ---- so there is no import where no line begins with it

item_as_other : (s : Symbol) (tree : Tree) → imports_by (item_as s tree) ≡ []
item_as_other symbol.FixityDecl (Parts (MoreTrees word (MoreTrees level (MoreTrees names NoTree)))) = refl
item_as_other symbol.DataDecl (Parts (MoreTrees word (MoreTrees name (MoreTrees parameters (MoreTrees constructors NoTree))))) = refl
item_as_other symbol.SynonymDecl (Parts (MoreTrees word (MoreTrees name (MoreTrees parameters (MoreTrees equals (MoreTrees term NoTree)))))) = refl
item_as_other s tree = refl

item_other : (tree : Tree) → imports_by (item_of tree) ≡ []
item_other (Chosen n tree) = item_as_other (alternative symbol.Item n) tree
item_other tree = refl

item_reads : (imports : Bool) (ts : List Lexeme) (item : Item) → begins_import ts ≡ false → ItemRead imports ts item → imports_by item ≡ []
item_reads imports ts item none (ItemRead.import tree may m) = absurd (both_ways (begins_import ts) none (import_begins ts tree m))
item_reads imports ts item none (ItemRead.declaration tree m) = item_other tree

abbrev imports_in : Result Item parsing.Fault → List Import
imports_in (Ok item) = imports_by item
imports_in (Err fault) = []

part_reads : (imports : Bool) (part : Part) (outcome : Result Item parsing.Fault) → begins_import part.tokens ≡ false → PartRead imports part outcome → imports_in outcome ≡ []
part_reads imports part outcome none (PartRead.too_long long) = refl
part_reads imports part outcome none (PartRead.not_whole short open') = refl
part_reads imports part outcome none (PartRead.no_item short whole some never) = refl
part_reads imports part outcome none (PartRead.item found short whole read) = item_reads imports part.tokens found none read

abbrev all_imports : Result (List Item) parsing.Fault → List Import
all_imports (Ok items) = flat_map imports_by items
all_imports (Err fault) = []

is_not : (b : Bool) → not b ≡ true → b ≡ false
is_not true e = absurd (both_ways true (sym e) refl)
is_not false e = refl

parts_read : (imports : Bool) (ps : List Part) (outcome : Result (List Item) parsing.Fault) → none_begin ps ≡ true → PartsRead imports ps outcome → all_imports outcome ≡ []
parts_read imports ps outcome none (PartsRead.no_part _) = refl
parts_read imports ps outcome none (PartsRead.empty _ part others _ whole empty read) = parts_read imports others outcome (and_parts (not (begins_import part.tokens)) (none_begin others) none).1 read
parts_read imports ps outcome none (PartsRead.fault _ part others fault read) = refl
parts_read imports ps outcome none (PartsRead.item _ part others item items read later) =
    let both = and_parts (not (begins_import part.tokens)) (none_begin others) none in
    (λ j. part_reads imports part (Ok item) (is_not (begins_import part.tokens) both.0) read j ++ parts_read (imports_after imports item) others (Ok items) both.1 later j)
parts_read imports ps outcome none (PartsRead.later_fault _ part others item fault read later) = refl

abbrev module_imports : Result Module parsing.Fault → List Import
module_imports (Ok m) = flat_map imports_by m.items
module_imports (Err fault) = []

module_reads : (laid : List Lexeme) (outcome : Result Module parsing.Fault) → laid_imports_not laid ≡ true → ModuleRead laid outcome → module_imports outcome ≡ []
module_reads laid outcome none (ModuleRead.no_block is) = refl
module_reads laid outcome none (ModuleRead.wrong_header some never) = refl
module_reads laid outcome none (ModuleRead.wrong_item block found fault is above read) = refl
module_reads laid outcome none (ModuleRead.right block found items is above read) =
    parts_read true (parts (header_and_block 1 laid).last block) (Ok items) (sym (ap (block_imports_not (header_and_block 1 laid).last) is) ∙ none) read

abbrev text_imports : Result Module TextFault → List Import
text_imports (Ok m) = flat_map imports_by m.items
text_imports (Err fault) = []

text_reads : (name text : List ℕ) (outcome : Result Module TextFault) → tokens_import_not (tokens.tokens text) ≡ true → IsRead name text outcome → text_imports outcome ≡ []
text_reads name text outcome none (texts.no_tokens fault is) = refl
text_reads name text outcome none (texts.too_deep found number token is deep at) = refl
text_reads name text outcome none (texts.no_syntax laid fault has read) = refl
text_reads name text outcome none (texts.other_name laid found has read wrong) = refl
text_reads name text outcome none (texts.right laid found has read right) =
    module_reads laid (Ok found) (sym (ap found_imports_not has.has_layout) ∙ sym (ap tokens_import_not has.has_tokens) ∙ none) read

-- ---- so these modules import the Prelude alone

prelude_or_none : (m : Named) → flat_map imports_by m.syntax.items ≡ [] → All (λ name. is_built_in name ≡ true) (import_names m)
prelude_or_none m none =
    subst (λ (written : List Import). All (λ name. is_built_in name ≡ true) (map (λ (i : Import). i.name.text) (if bytes_eq m.name prelude_name || list_any (names_module prelude_name) written then written else prelude_import ∷ written)))
    (sym none) (by (bytes_eq m.name prelude_name || list_any (names_module prelude_name) []))
  where
    by : (b : Bool) → All (λ name. is_built_in name ≡ true) (map (λ (i : Import). i.name.text) (if b then [] else prelude_import ∷ []))
    by true = All-nil (λ name. is_built_in name ≡ true)
    by false = All-cons (λ name. is_built_in name ≡ true) prelude_name [] refl (All-nil (λ name. is_built_in name ≡ true))

built_text : (name : List ℕ) → is_built_in name ≡ true → (text : List ℕ) × (built_in name ≡ Some text) × (tokens_import_not (tokens.tokens text) ≡ true)
built_text name built = by (bytes_eq name (codes "Prelude")) (bytes_eq name (codes "SetFunctions")) built
  where
    by : (p s : Bool) → is_some (if p then Some PRELUDE.now else if s then Some SET_FUNCTIONS.now else None) ≡ true
        → (text : List ℕ) × ((if p then Some PRELUDE.now else if s then Some SET_FUNCTIONS.now else None) ≡ Some text) × (tokens_import_not (tokens.tokens text) ≡ true)
    by true s e = (PRELUDE.now, refl, prelude_alone)
    by false true e = (SET_FUNCTIONS.now, refl, set_functions_alone)
    by false false e = absurd (both_ways true (sym e) refl)

pub own_imports : (m : Named) → IsOwn m → is_built_in m.name ≡ true → All (λ name. is_built_in name ≡ true) (import_names m)
own_imports m own built =
    let found = built_text m.name built in
    prelude_or_none m (text_reads m.name found.0 (Ok m.syntax) found.2 (own found.0 found.1))
