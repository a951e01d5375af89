-- What the tokens of a module or a goal are read as, or the first fault in them. Tokens come with
-- the braces and semicolons of the layout.
use Rattle.std.specs.Prelude.{◌≡◌, ℕ, ◌+◌, ◌-◌, Bool, true, false, ◌&&◌, List, [], ◌∷◌, Option, None, Some, Result, Ok, Err, if◌then◌else◌, length, nat_eq, nat_lt}
use Rattle.cu_lex.specs.declared.token.LayoutMark.TheVariants as layout
use Rattle.cu_lex.specs.declared.token.Mark.TheVariants as mark
use Rattle.cu_lex.specs.Kind as kind
use Rattle.cu_lex.specs.Kind.{Kind}
use Rattle.cu_lex.specs.Tokens.{Lexeme}
use Rattle.cu_peg.specs.Classes.{has}
use Rattle.cu_peg.specs.Matches.{HasTree}
use Rattle.cu_peg.specs.Parse.{ParseTree}
use Rattle.cu_syntax.specs.declared.symbol.Symbol.{Symbol}
use Rattle.cu_syntax.specs.declared.symbol.Symbol.TheVariants as symbol
use Rattle.cu_syntax.specs.Reading.{goal_of, header_of, import_of, item_of}
use Rattle.cu_syntax.specs.Syntax.{Goal, Header, ImportItem, Item, Module}
use Rattle.cu_syntax.specs.Table.{number, rows}

-- Why tokens are no module or goal: the line of the first item that has no tree, or of the first
-- that is too long.
pub data Fault : Type 0 where
  Syntax : ℕ → Fault
  TooLong : ℕ → Fault

-- all of the tokens have this tree, as one of the symbol
abbrev pub Has : Symbol → List Lexeme → ParseTree Lexeme → Type 0
Has s tokens tree = HasTree rows has (number s) tokens tree

-- the tokens have no tree, as one of the symbol
abbrev pub HasNone : Symbol → List Lexeme → Type 0
HasNone s tokens = (tree : ParseTree Lexeme) → ¬ (Has s tokens tree)

-- ---- braces and semicolons, those of the layout too

abbrev pub opens : Kind → Bool
opens (kind.Mark mark.OpenBrace) = true
opens (kind.Layout layout.Open) = true
opens _ = false

abbrev pub closes : Kind → Bool
closes (kind.Mark mark.CloseBrace) = true
closes (kind.Layout layout.Close) = true
closes _ = false

abbrev pub separates : Kind → Bool
separates (kind.Mark mark.Semicolon) = true
separates (kind.Layout layout.Separator) = true
separates _ = false

-- ---- lines and lengths

-- whether a token stands in the text itself, and wasn't put in by layout
abbrev pub is_written : Kind → Bool
is_written (kind.Layout m) = false
is_written _ = true

-- the line of the last token of the text so far, after one more token
abbrev pub after : ℕ → Lexeme → ℕ
after last token = if is_written token.what then token.at.line else last

-- the line of the first token of the text among these, or the line before where there is none
abbrev pub first_line : ℕ → List Lexeme → ℕ
first_line before [] = before
first_line before (token ∷ tokens) = if is_written token.what then token.at.line
    else first_line before tokens

-- how much a token counts of an item's length: a string counts as one more for each of its
-- characters
abbrev pub token_length : Kind → ℕ
token_length (kind.String characters) = length characters + 1
token_length _ = 1

abbrev pub item_length : List Lexeme → ℕ
item_length [] = 0
item_length (token ∷ tokens) = token_length token.what + item_length tokens

-- the most tokens of an item
abbrev pub most : ℕ
most = 4096

abbrev pub is_long : List Lexeme → Bool
is_long tokens = nat_lt most (item_length tokens)

-- ---- the parts of a module

-- a part of the module's block, between semicolons, with the line of the last token of the text
-- before it; or what stands where no item may stand
pub record Part : Type 0 where
  pub before : ℕ
  pub tokens : List Lexeme
  pub whole : Bool

-- what is left of a part, whether it ends at a semicolon or the block's brace (`whole`), and the
-- parts that follow it
pub record Split : Type 0 where
  pub first : List Lexeme
  pub whole : Bool
  pub others : List Part

abbrev pub part_of : ℕ → Split → Part
part_of before s = record { before = before; tokens = s.first; whole = s.whole }

-- the part that tokens after the block make, where no item may stand; none where there are no
-- tokens
abbrev pub part_after_block : ℕ → List Lexeme → List Part
part_after_block last [] = []
part_after_block last (token ∷ tokens) =
    record { before = last; tokens = token ∷ tokens; whole = false } ∷ []

abbrev pub with_token : Lexeme → Split → Split
with_token token s = record { first = token ∷ s.first; whole = s.whole; others = s.others }

-- how many braces are open after a token
abbrev pub depth_after : ℕ → Kind → ℕ
depth_after depth k = if opens k then depth + 1 else if closes k then depth - 1 else depth

-- What is left of a block, inside so many braces of one of its parts; `last` is the line of the
-- last token of the text before.
unfoldable pub split : ℕ → ℕ → List Lexeme → Split
split depth last [] = record { first = []; whole = false; others = [] }
split depth last (token ∷ tokens) =
    if nat_eq depth 0 && closes token.what
    then record { first = []; whole = true; others = part_after_block (after last token) tokens }
    else if nat_eq depth 0 && separates token.what then
    (let next = split 0 (after last token) tokens in record {
      first = [];
      whole = true;
      others = part_of (after last token) next ∷ next.others;
    })
    else with_token token (split (depth_after depth token.what) (after last token) tokens)

-- the parts of a block, from its first token on
abbrev pub parts : ℕ → List Lexeme → List Part
parts last tokens = let s = split 0 last tokens in part_of last s ∷ s.others

-- what stands before the block of a module (the tokens of its header, and the line of the last
-- token of the text), and the block's tokens, if there is a brace
pub record HeaderAndBlock : Type 0 where
  pub header : List Lexeme
  pub last : ℕ
  pub block : Option (List Lexeme)

abbrev pub with_header : Lexeme → HeaderAndBlock → HeaderAndBlock
with_header token rest =
    record { header = token ∷ rest.header; last = rest.last; block = rest.block }

abbrev pub header_and_block : ℕ → List Lexeme → HeaderAndBlock
header_and_block last [] = record { header = []; last = last; block = None }
header_and_block last (token ∷ tokens) =
    if opens token.what then record { header = []; last = after last token; block = Some tokens }
    else with_header token (header_and_block (after last token) tokens)

-- What the tokens of an item are read as. Imports stand before all other items.
pub data ItemRead (imports : Bool) (tokens : List Lexeme) : Item → Type 0 where
  import : (tree : ParseTree Lexeme) → imports ≡ true → Has symbol.ImportDecl tokens tree
      → ItemRead imports tokens (ImportItem (import_of tree))
  declaration : (tree : ParseTree Lexeme) → Has symbol.Item tokens tree
      → ItemRead imports tokens (item_of tree)

-- What a part that isn't empty is read as. Its length is looked at first.
pub data PartRead (imports : Bool) (part : Part) : Result Item Fault → Type 0 where
  too_long : is_long part.tokens ≡ true
      → PartRead imports part (Err (TooLong (first_line part.before part.tokens)))
  not_whole : is_long part.tokens ≡ false → part.whole ≡ false
      → PartRead imports part (Err (Syntax (first_line part.before part.tokens)))
  no_item : is_long part.tokens ≡ false → part.whole ≡ true → ¬ (part.tokens ≡ [])
      → ((item : Item) → ¬ (ItemRead imports part.tokens item))
      → PartRead imports part (Err (Syntax (first_line part.before part.tokens)))
  item : (found : Item) → is_long part.tokens ≡ false → part.whole ≡ true
      → ItemRead imports part.tokens found → PartRead imports part (Ok found)

-- whether an import may follow an item, where one may stand before it
abbrev pub imports_after : Bool → Item → Bool
imports_after imports (ImportItem found) = imports
imports_after imports _ = false

-- What parts are read as: the items of all that aren't empty, or the first fault.
pub data PartsRead : Bool → List Part → Result (List Item) Fault → Type 0 where
  no_part : (imports : Bool) → PartsRead imports [] (Ok [])
  empty : (imports : Bool) (part : Part) (others : List Part) (outcome : Result (List Item) Fault)
      → part.whole ≡ true → part.tokens ≡ []
      → PartsRead imports others outcome → PartsRead imports (part ∷ others) outcome
  fault : (imports : Bool) (part : Part) (others : List Part) (fault : Fault)
      → PartRead imports part (Err fault) → PartsRead imports (part ∷ others) (Err fault)
  item : (imports : Bool) (part : Part) (others : List Part) (item : Item) (items : List Item)
      → PartRead imports part (Ok item)
      → PartsRead (imports_after imports item) others (Ok items)
      → PartsRead imports (part ∷ others) (Ok (item ∷ items))
  later_fault : (imports : Bool) (part : Part) (others : List Part) (item : Item) (fault : Fault)
      → PartRead imports part (Ok item)
      → PartsRead (imports_after imports item) others (Err fault)
      → PartsRead imports (part ∷ others) (Err fault)

-- what the tokens before a module's block are read as: a header, or none
pub data HeaderRead : List Lexeme → Option Header → Type 0 where
  no_header : HeaderRead [] None
  header : (tokens : List Lexeme) (tree : ParseTree Lexeme) → ¬ (tokens ≡ [])
      → Has symbol.Header tokens tree → HeaderRead tokens (Some (header_of tree))

-- what the tokens of a module are read as: the module, or its fault
pub data ModuleRead (tokens : List Lexeme) : Result Module Fault → Type 0 where
  no_block : (header_and_block 1 tokens).block ≡ None → ModuleRead tokens (Err (Syntax 1))
  wrong_header : ¬ ((header_and_block 1 tokens).header ≡ [])
      → HasNone symbol.Header (header_and_block 1 tokens).header
      → ModuleRead tokens (Err (Syntax 1))
  wrong_item : (block : List Lexeme) (found : Option Header) (fault : Fault)
      → (header_and_block 1 tokens).block ≡ Some block
      → HeaderRead (header_and_block 1 tokens).header found
      → PartsRead true (parts (header_and_block 1 tokens).last block) (Err fault)
      → ModuleRead tokens (Err fault)
  right : (block : List Lexeme) (found : Option Header) (items : List Item)
      → (header_and_block 1 tokens).block ≡ Some block
      → HeaderRead (header_and_block 1 tokens).header found
      → PartsRead true (parts (header_and_block 1 tokens).last block) (Ok items)
      → ModuleRead tokens (Ok (record { header = found; items = items }))

-- what the tokens of a goal are read as: the goal, or its fault
pub data GoalRead (tokens : List Lexeme) : Result Goal Fault → Type 0 where
  too_long : is_long tokens ≡ true → GoalRead tokens (Err (TooLong (first_line 1 tokens)))
  no_tree : is_long tokens ≡ false → HasNone symbol.Goal tokens
      → GoalRead tokens (Err (Syntax (first_line 1 tokens)))
  right : (tree : ParseTree Lexeme) → is_long tokens ≡ false → Has symbol.Goal tokens tree
      → GoalRead tokens (Ok (goal_of tree))
