-- Parts of a block and what they are read as.
use Rattle.std.specs.Prelude.{◌≡◌, ℕ, ◌+◌, Bool, true, false, ◌&&◌, List, [], ◌∷◌, ◌++◌, Option, None, Some, Result, Ok, Err, IfErr, IfNone, IfOk, IfSome, drop, map, refl, take}
use Rattle.std.specs.declared.alloc.AllocError.{AllocError}
use Rattle.std.specs.Result.{IsErrAnd}
use Rattle.std.proofs.Common.{ap, subst, sym, true≢false, ◌∙◌}
use Rattle.std.proofs.lemmas.List.{append-nil}
use Rattle.cu_lex.specs.declared.token.Token.{Token}
use Rattle.cu_lex.specs.Reading.{lexeme_of}
use Rattle.cu_lex.specs.Tokens.{Lexeme}
use Rattle.cu_peg.specs.declared.row.Row.{Row}
use Rattle.cu_peg.specs.Classes.{has}
use Rattle.cu_peg.specs.Matches.{HasTree}
use Rattle.cu_peg.specs.Parse.{ParseTree, Leaf, Parts, Chosen, NoTree, MoreTrees}
use Rattle.cu_peg.specs.Result.{HasNoTree, IsTreeOf}
use Rattle.cu_syntax.specs.declared.fault.ParseFault.{ParseFault}
use Rattle.cu_syntax.specs.declared.fault.ParseFault.TheVariants as answer
use Rattle.cu_syntax.specs.declared.scanning.PartEnd.TheVariants as end
use Rattle.cu_syntax.specs.declared.symbol.Symbol.{Symbol}
use Rattle.cu_syntax.specs.declared.symbol.Symbol.TheVariants as symbol
use Rattle.cu_syntax.specs.declared.text.Item as text
use Rattle.cu_syntax.specs.declared.text.Parsed.{Parsed}
use Rattle.cu_syntax.specs.Answer.{Adds, FoundPart, IsNoItem, Tells, item_meaning, item_read, items_meaning, part_with, tree_of}
use Rattle.cu_syntax.specs.Inside.Fits.{fits}
use Rattle.cu_syntax.specs.ItemSymbols.{is_import, is_item}
use Rattle.cu_syntax.specs.Parsing.{Fault, GoalRead, Has, HasNone, HeaderRead, ItemRead, Part, PartRead, PartsRead, Syntax, TooLong, part_after_block, first_line, imports_after, is_long, parts}
use Rattle.cu_syntax.specs.Reading.{Tree, header_of, item_as, item_of}
use Rattle.cu_syntax.specs.Inside.Scanning.{part_end}
use Rattle.cu_syntax.specs.Subtrees.{over}
use Rattle.cu_syntax.specs.Syntax.{Item}
use Rattle.cu_syntax.specs.Table.{alternative, number, rows}
use Rattle.cu_syntax.proofs.FitsLaw.{fits_match, over_is}
use Rattle.cu_syntax.proofs.SplitLemmas.{after_part, lexemes, parts_close, parts_separator}

pub no_tokens : (names : List (List ℕ)) (tokens : List Token) → tokens ≡ [] → map (lexeme_of names) tokens ≡ []
no_tokens names tokens e = ap (map (lexeme_of names)) e

pub some_tokens : (names : List (List ℕ)) (tokens : List Token) → ¬ (tokens ≡ []) → ¬ (map (lexeme_of names) tokens ≡ [])
some_tokens names [] h = λ e. h refl
some_tokens names (t ∷ tokens) h = λ e. let never : ⊥ = cc in never

-- Faults

pub part_too_long : (imports whole : Bool) (before line : ℕ) (tokens : List Lexeme) → is_long tokens ≡ true → line ≡ first_line before tokens
    → PartRead imports (part_with whole before tokens) (Err (TooLong line))
part_too_long imports whole before line tokens h e =
    subst (λ (n : ℕ). PartRead imports (part_with whole before tokens) (Err (TooLong n))) (sym e) (PartRead.too_long h)

pub part_not_whole : (imports : Bool) (before line : ℕ) (tokens : List Lexeme) → is_long tokens ≡ false → line ≡ first_line before tokens
    → PartRead imports (part_with false before tokens) (Err (Syntax line))
part_not_whole imports before line tokens h e =
    subst (λ (n : ℕ). PartRead imports (part_with false before tokens) (Err (Syntax n))) (sym e) (PartRead.not_whole h refl)

pub part_no_item : (imports : Bool) (before line : ℕ) (tokens : List Lexeme) → is_long tokens ≡ false → ¬ (tokens ≡ []) → IsNoItem imports tokens
    → line ≡ first_line before tokens → PartRead imports (part_with true before tokens) (Err (Syntax line))
part_no_item imports before line tokens h s none e =
    subst (λ (n : ℕ). PartRead imports (part_with true before tokens) (Err (Syntax n))) (sym e) (PartRead.no_item h refl s none)

no_item_at : (imports : Bool) (tokens : List Lexeme) → HasNone symbol.Item tokens → (imports ≡ true → HasNone symbol.ImportDecl tokens)
    → (item : Item) → ItemRead imports tokens item → ⊥
no_item_at imports tokens h k _ (ItemRead.import tree e t) = k e tree t
no_item_at imports tokens h k _ (ItemRead.declaration tree t) = h tree t

pub no_item : (imports : Bool) (tokens : List Lexeme) → HasNone symbol.Item tokens → (imports ≡ true → HasNone symbol.ImportDecl tokens) → IsNoItem imports tokens
no_item imports tokens h k = no_item_at imports tokens h k

pub tells_more : (P Q : Fault → Type 0) (fault : ParseFault) → ((f : Fault) → P f → Q f) → Tells P fault → Tells Q fault
tells_more P Q (answer.Syntax line) go h = go (Syntax line) h
tells_more P Q (answer.TooLong line) go h = go (TooLong line) h
tells_more P Q answer.NoMemory go h = h

pub after_block : (imports : Bool) (last : ℕ) (tokens : List Lexeme) (fault : Fault) → ¬ (tokens ≡ []) → PartRead imports (part_with false last tokens) (Err fault)
    → PartsRead imports (part_after_block last tokens) (Err fault)
after_block imports last [] fault s h = absurd (s refl)
after_block imports last (t ∷ tokens) fault s h = PartsRead.fault imports (part_with false last (t ∷ tokens)) [] fault h

-- Items that were found, and then what the parts after are read as

abbrev pub after_items : List Item → Result (List Item) Fault → Result (List Item) Fault
after_items done (Ok items) = Ok (done ++ items)
after_items done (Err fault) = Err fault

abbrev pub Reads : Bool → List Part → List Item → List Part → Type 0
Reads imports all done left = (outcome : Result (List Item) Fault) → PartsRead imports left outcome → PartsRead true all (after_items done outcome)

one_item : (names : List (List ℕ)) (before : List text.Item) (found : text.Item) (items : List Item)
    → items_meaning names before ++ item_meaning names found ∷ items ≡ items_meaning names (before ++ found ∷ []) ++ items
one_item names [] found items = refl
one_item names (x ∷ before) found items = ap (λ xs. item_meaning names x ∷ xs) (one_item names before found items)

abbrev outcome_after : Item → Result (List Item) Fault → Result (List Item) Fault
outcome_after item (Ok items) = Ok (item ∷ items)
outcome_after item (Err fault) = Err fault

then_parts : (imports : Bool) (part : Part) (others : List Part) (item : Item) (outcome : Result (List Item) Fault) → PartRead imports part (Ok item)
    → PartsRead (imports_after imports item) others outcome → PartsRead imports (part ∷ others) (outcome_after item outcome)
then_parts imports part others item (Ok items) h k = PartsRead.item imports part others item items h k
then_parts imports part others item (Err fault) h k = PartsRead.later_fault imports part others item fault h k

joined : (names : List (List ℕ)) (before : List text.Item) (found : text.Item) (outcome : Result (List Item) Fault)
    → after_items (items_meaning names before) (outcome_after (item_meaning names found) outcome) ≡ after_items (items_meaning names (before ++ found ∷ [])) outcome
joined names before found (Ok items) = ap Ok (one_item names before found items)
joined names before found (Err fault) = refl

-- one part more is read
pub one_part : (names : List (List ℕ)) (imports next : Bool) (all : List Part) (part : Part) (others : List Part) (before after : List text.Item) (found : Option text.Item)
    → part.whole ≡ true → FoundPart names imports part found → Adds names imports before after found next
    → Reads imports all (items_meaning names before) (part ∷ others) → Reads next all (items_meaning names after) others
one_part names imports next all part others before after None w f a k = λ outcome r.
    subst (λ (xs : List text.Item). PartsRead true all (after_items (items_meaning names xs) outcome)) (sym a.0)
    (k outcome (PartsRead.empty imports part others outcome w f (subst (λ (b : Bool). PartsRead b others outcome) a.1 r)))
one_part names imports next all part others before after (Some found) w f a k = λ outcome r.
    subst (λ (xs : List text.Item). PartsRead true all (after_items (items_meaning names xs) outcome)) (sym a.0)
    (subst (PartsRead true all) (joined names before found outcome)
    (k (outcome_after (item_meaning names found) outcome)
    (then_parts imports part others (item_meaning names found) outcome f (subst (λ (b : Bool). PartsRead b others outcome) a.1 r))))

-- a part that ends at a semicolon was read
pub separated : (names : List (List ℕ)) (imports next : Bool) (all : List Part) (last line n : ℕ) (left rest : List Token) (before after : List text.Item) (found : Option text.Item)
    → part_end 0 (lexemes names left) ≡ end.Separator n → FoundPart names imports (part_with true last (lexemes names (take n left))) found
    → Adds names imports before after found next → line ≡ after_part names last n left → rest ≡ drop (n + 1) left
    → Reads imports all (items_meaning names before) (parts last (lexemes names left)) → Reads next all (items_meaning names after) (parts line (lexemes names rest))
separated names imports next all last line n left rest before after found e f a l d k =
    subst (λ (m : ℕ). Reads next all (items_meaning names after) (parts m (lexemes names rest))) (sym l)
    (subst (λ (ts : List Token). Reads next all (items_meaning names after) (parts (after_part names last n left) (lexemes names ts))) (sym d)
    (one_part names imports next all (part_with true last (lexemes names (take n left))) (parts (after_part names last n left) (lexemes names (drop (n + 1) left))) before after found refl f a
    (subst (Reads imports all (items_meaning names before)) (parts_separator names last n left e) k)))

-- the last part of a block was read
pub closed : (names : List (List ℕ)) (imports next : Bool) (all : List Part) (last line n : ℕ) (left rest : List Token) (before after : List text.Item) (found : Option text.Item)
    → part_end 0 (lexemes names left) ≡ end.Close n → FoundPart names imports (part_with true last (lexemes names (take n left))) found
    → Adds names imports before after found next → line ≡ after_part names last n left → rest ≡ drop (n + 1) left
    → Reads imports all (items_meaning names before) (parts last (lexemes names left))
    → Reads next all (items_meaning names after) (part_after_block line (lexemes names rest))
closed names imports next all last line n left rest before after found e f a l d k =
    subst (λ (m : ℕ). Reads next all (items_meaning names after) (part_after_block m (lexemes names rest))) (sym l)
    (subst (λ (ts : List Token). Reads next all (items_meaning names after) (part_after_block (after_part names last n left) (lexemes names ts))) (sym d)
    (one_part names imports next all (part_with true last (lexemes names (take n left))) (part_after_block (after_part names last n left) (lexemes names (drop (n + 1) left))) before after found refl f a
    (subst (Reads imports all (items_meaning names before)) (parts_close names last n left e) k)))

-- nothing stands after the block
pub all_items : (next : Bool) (all : List Part) (done : List Item) (line : ℕ) (tokens : List Lexeme) → tokens ≡ [] → Reads next all done (part_after_block line tokens)
    → PartsRead true all (Ok done)
all_items next all done line tokens e k =
    subst (λ (xs : List Item). PartsRead true all (Ok xs)) (append-nil done)
    (k (Ok []) (subst (λ (ts : List Lexeme). PartsRead next (part_after_block line ts) (Ok [])) (sym e) (PartsRead.no_part next)))

-- the fault of what is left is that of all
pub fault_left : (imports : Bool) (all left : List Part) (done : List Item) (answered : ParseFault) → Reads imports all done left
    → Tells (λ fault. PartsRead imports left (Err fault)) answered → Tells (λ fault. PartsRead true all (Err fault)) answered
fault_left imports all left done answered k h =
    tells_more (λ fault. PartsRead imports left (Err fault)) (λ fault. PartsRead true all (Err fault)) answered (λ fault r. k (Err fault) r) h

-- the fault of the first part is that of what is left
pub fault_first : (imports : Bool) (part : Part) (left others : List Part) (answered : ParseFault) → left ≡ part ∷ others
    → Tells (λ fault. PartRead imports part (Err fault)) answered → Tells (λ fault. PartsRead imports left (Err fault)) answered
fault_first imports part left others answered e h =
    tells_more (λ fault. PartRead imports part (Err fault)) (λ fault. PartsRead imports left (Err fault)) answered
    (λ fault r. subst (λ (ps : List Part). PartsRead imports ps (Err fault)) (sym e) (PartsRead.fault imports part others fault r)) h

-- an error that is passed on
pub passed_on : {T : Type 0} (P : ParseFault → Type 0) (r : Result T ParseFault) (fault : ParseFault) → IsErrAnd r (λ other. other ≡ fault) → P fault → IfErr r P
passed_on P (Ok x) fault h p = absurd h
passed_on P (Err other) fault h p = subst P (sym h) p

-- rows that are the grammar's give no tree
pub none_of : (table : List Row) (n : ℕ) (s : Symbol) (tokens : List Lexeme) → table ≡ rows → n ≡ number s → HasNoTree table n tokens → HasNone s tokens
none_of table n s tokens e k h = λ tree r.
    h tree (subst (λ (t : List Row). HasTree t has n tokens tree) (sym e) (subst (λ (m : ℕ). HasTree rows has m tokens tree) (sym k) r))

-- Options

pub if_none : {A : Type 0} (o : Option A) (P : Type 0) → o ≡ None → IfNone o P → P
if_none None P e h = h
if_none (Some x) P e h = let never : ⊥ = cc in absurd never

pub if_some : {A : Type 0} (o : Option A) (P : A → Type 0) (x : A) → o ≡ Some x → IfSome o P → P x
if_some {A = A} o P x e h = subst (λ (found : Option A). IfSome found P) e h

-- Headers and imports

pub no_header : (tokens : List Lexeme) → tokens ≡ [] → HeaderRead tokens None
no_header tokens e = subst (λ (ts : List Lexeme). HeaderRead ts None) (sym e) HeaderRead.no_header

pub header_found : (names : List (List ℕ)) (tokens : List Lexeme) (found : Parsed) → ¬ (tokens ≡ []) → Has symbol.Header tokens (tree_of names found)
    → HeaderRead tokens (Some (header_of (tree_of names found)))
header_found names tokens found s h = HeaderRead.header tokens (tree_of names found) s h

pub import_allowed : (names : List (List ℕ)) (imports : Bool) (tokens : List Lexeme) (r : Result (Option Parsed) AllocError) → imports ≡ true
    → IfOk r (λ found. IfSome found (λ parsed. Has symbol.ImportDecl tokens (tree_of names parsed)))
    → IfOk r (λ found. IfSome found (λ parsed. (imports ≡ true) × Has symbol.ImportDecl tokens (tree_of names parsed)))
import_allowed names imports tokens (Ok (Some parsed)) e h = (e, h)
import_allowed names imports tokens (Ok None) e h = h
import_allowed names imports tokens (Err error) e h = h

pub import_asked : (imports : Bool) (tokens : List Lexeme) (r : Result (Option Parsed) AllocError)
    → IfOk r (λ found. IfNone found (HasNone symbol.ImportDecl tokens))
    → IfOk r (λ found. IfNone found (imports ≡ true → HasNone symbol.ImportDecl tokens))
import_asked imports tokens (Ok (Some parsed)) h = h
import_asked imports tokens (Ok None) h = λ e. h
import_asked imports tokens (Err error) h = h

-- at the start
at_start : (all : List Part) (outcome : Result (List Item) Fault) → PartsRead true all outcome → PartsRead true all (after_items [] outcome)
at_start all (Ok items) r = r
at_start all (Err fault) r = r

pub first_reads : (names : List (List ℕ)) (all : List Part) (items : List text.Item) → items ≡ [] → Reads true all (items_meaning names items) all
first_reads names all items e = λ outcome r.
    subst (λ (xs : List text.Item). PartsRead true all (after_items (items_meaning names xs) outcome)) (sym e) (at_start all outcome r)

-- Goals

pub goal_too_long : (line : ℕ) (tokens : List Lexeme) → is_long tokens ≡ true → line ≡ first_line 1 tokens → GoalRead tokens (Err (TooLong line))
goal_too_long line tokens h e = subst (λ (n : ℕ). GoalRead tokens (Err (TooLong n))) (sym e) (GoalRead.too_long h)

pub goal_no_tree : (line : ℕ) (tokens : List Lexeme) → is_long tokens ≡ false → HasNone symbol.Goal tokens → line ≡ first_line 1 tokens → GoalRead tokens (Err (Syntax line))
goal_no_tree line tokens h none e = subst (λ (n : ℕ). GoalRead tokens (Err (Syntax n))) (sym e) (GoalRead.no_tree h none)

-- Items by their symbols

pub import_read : (names : List (List ℕ)) (imports : Bool) (tokens : List Lexeme) (found : Parsed) → found.symbol ≡ symbol.ImportDecl → imports ≡ true
    → Has symbol.ImportDecl tokens (tree_of names found) → ItemRead imports tokens (item_read found.symbol (tree_of names found))
import_read names imports tokens found s e h =
    subst (λ (t : Symbol). ItemRead imports tokens (item_read t (tree_of names found))) (sym s) (ItemRead.import (tree_of names found) e h)

pub declaration_read : (names : List (List ℕ)) (imports : Bool) (tokens : List Lexeme) (found : Parsed) → found.symbol ≡ symbol.Item
    → Has symbol.Item tokens (tree_of names found) → ItemRead imports tokens (item_read found.symbol (tree_of names found))
declaration_read names imports tokens found s h =
    subst (λ (t : Symbol). ItemRead imports tokens (item_read t (tree_of names found))) (sym s) (ItemRead.declaration (tree_of names found) h)

no_import_as : (imports : Bool) (s : Symbol) (tree : Tree) → imports_after imports (item_as s tree) ≡ false
no_import_as imports symbol.FixityDecl (Parts (MoreTrees word (MoreTrees level (MoreTrees names NoTree)))) = refl
no_import_as imports symbol.DataDecl (Parts (MoreTrees word (MoreTrees name (MoreTrees parameters (MoreTrees constructors NoTree))))) = refl
no_import_as imports symbol.SynonymDecl (Parts (MoreTrees word (MoreTrees name (MoreTrees parameters (MoreTrees equals (MoreTrees term NoTree)))))) = refl
no_import_as imports s tree = refl

no_import : (imports : Bool) (tree : Tree) → imports_after imports (item_of tree) ≡ false
no_import imports (Chosen n tree) = no_import_as imports (alternative symbol.Item n) tree
no_import imports (Leaf x) = refl
no_import imports (Parts trees) = refl

and_true : (b : Bool) → (b && true) ≡ b
and_true true = refl
and_true false = refl

and_false : (b : Bool) → (b && false) ≡ false
and_false true = refl
and_false false = refl

-- whether an import may stand after an item
pub after_item : (imports : Bool) (s : Symbol) (tree : Tree) → is_item s ≡ true → (imports && is_import s) ≡ imports_after imports (item_read s tree)
after_item imports symbol.ImportDecl tree h = and_true imports
after_item imports symbol.Item tree h = and_false imports ∙ sym (no_import imports tree)
after_item imports s tree h = absurd (true≢false (sym h))

-- the tree that matching gives

pub tree_found : (table : List Row) (n : ℕ) (s : Symbol) (text : List Lexeme) (found : ParseTree ℕ) → table ≡ rows → n ≡ number s → IsTreeOf table n text found
    → Has s text (over text found)
tree_found table n s text found t k h =
    subst (λ (r : List Row). HasTree r has (number s) text (over text found)) t
    (subst (λ (m : ℕ). HasTree table has m text (over text found)) k
    (subst (λ (tree : Tree). HasTree table has n text tree) (sym (over_is text found h.tree h.stands)) h.whole))

pub tree_fits : (s : Symbol) (text : List Lexeme) (tree : Tree) → Has s text tree → fits s tree ≡ true
tree_fits s text tree h = fits_match s (number s) text [] tree refl h
