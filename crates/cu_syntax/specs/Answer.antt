-- What the parsers' answers stand for, under a table of names.
use Rattle.std.specs.Prelude.{◌≡◌, ℕ, Bool, List, [], ◌∷◌, ◌++◌, Option, None, Some, Ok, map}
use Rattle.std.specs.Option.{option_map}
use Rattle.cu_lex.specs.Reading.{lexeme_of}
use Rattle.cu_lex.specs.Tokens.{Lexeme}
use Rattle.cu_syntax.specs.declared.fault.ParseFault.{ParseFault}
use Rattle.cu_syntax.specs.declared.fault.ParseFault.TheVariants as answer
use Rattle.cu_syntax.specs.declared.symbol.Symbol.{Symbol}
use Rattle.cu_syntax.specs.declared.symbol.Symbol.TheVariants as symbol
use Rattle.cu_syntax.specs.declared.text.GoalText.{GoalText}
use Rattle.cu_syntax.specs.declared.text.Header as headers
use Rattle.cu_syntax.specs.declared.text.Item as text
use Rattle.cu_syntax.specs.declared.text.Module as texts
use Rattle.cu_syntax.specs.declared.text.Parsed.{Parsed}
use Rattle.cu_syntax.specs.Parsing.{Fault, HasNone, HeaderRead, ItemRead, Part, PartRead, Syntax, TooLong, imports_after}
use Rattle.cu_syntax.specs.Reading.{Tree, goal_of, header_of, import_of, item_of}
use Rattle.cu_syntax.specs.Subtrees.{over}
use Rattle.cu_syntax.specs.Syntax.{Goal, Header, ImportItem, Item, Module}

-- The tree over tokens of the definitions that a parse of the code stands for.
abbrev pub tree_of : List (List ℕ) → Parsed → Tree
tree_of names parsed = over (map (lexeme_of names) parsed.tokens.items) parsed.tree

abbrev pub goal_meaning : List (List ℕ) → GoalText → Goal
goal_meaning names goal = goal_of (tree_of names goal.parsed)

-- the item that a tree of a symbol is read as
abbrev pub item_read : Symbol → Tree → Item
item_read symbol.ImportDecl tree = ImportItem (import_of tree)
item_read s tree = item_of tree

abbrev pub item_meaning : List (List ℕ) → text.Item → Item
item_meaning names item = item_read item.parsed.symbol (tree_of names item.parsed)

abbrev pub items_meaning : List (List ℕ) → List text.Item → List Item
items_meaning names items = map (item_meaning names) items

abbrev pub header_meaning : List (List ℕ) → headers.Header → Header
header_meaning names header = header_of (tree_of names header.parsed)

abbrev pub module_meaning : List (List ℕ) → texts.Module → Module
module_meaning names found = record {
  header = option_map (header_meaning names) found.header;
  items = items_meaning names found.items.items;
}

-- The fault that an answer tells has this property. An allocation failure says nothing.
abbrev pub Tells : (Fault → Type 0) → ParseFault → Type 0
Tells P (answer.Syntax line) = P (Syntax line)
Tells P (answer.TooLong line) = P (TooLong line)
Tells P answer.NoMemory = Unit {0}

-- ---- what is found while tokens are read

-- the header that was found before a module's block, or none, is the one that its tokens are read
-- as
abbrev pub FoundHeader : List (List ℕ) → List Lexeme → Option headers.Header → Type 0
FoundHeader names tokens found = HeaderRead tokens (option_map (header_meaning names) found)

-- the tokens before a module's block are no header, which is a fault at line 1
abbrev pub NoHeader : List Lexeme → Fault → Type 0
NoHeader tokens fault = (fault ≡ Syntax 1) × (¬ (tokens ≡ [])) × HasNone symbol.Header tokens

abbrev pub part_with : Bool → ℕ → List Lexeme → Part
part_with whole before tokens = record { before = before; tokens = tokens; whole = whole }

-- the item that was found is what a part is read as; where none was found the part is empty
abbrev pub FoundPart : List (List ℕ) → Bool → Part → Option text.Item → Type 0
FoundPart names imports part None = part.tokens ≡ []
FoundPart names imports part (Some found) = PartRead imports part (Ok (item_meaning names found))

-- these tokens are read as no item
abbrev pub IsNoItem : Bool → List Lexeme → Type 0
IsNoItem imports tokens = (item : Item) → ¬ (ItemRead imports tokens item)

-- What was found, if anything, was added to the items, and `later` says whether an import may
-- follow it.
abbrev pub Adds : List (List ℕ) → Bool → List text.Item → List text.Item → Option text.Item → Bool
    → Type 0
Adds names imports before after None later = (after ≡ before) × (later ≡ imports)
Adds names imports before after (Some found) later =
    (after ≡ before ++ found ∷ []) × (later ≡ imports_after imports (item_meaning names found))
