-- No line of the modules that are built in begins with `import`.
use Rattle.std.specs.Prelude.{◌≡◌, ℕ, Bool, true, false, not, ◌&&◌, List, [], ◌∷◌, ◌++◌, Option, None, Some, Result, Ok, Err, IfOk, IfSome, if◌then◌else◌, map, nat_eq, refl}
use Rattle.std.proofs.lemmas.Bool.{and_from, and_parts}
use Rattle.std.specs.List.{list_all}
use Rattle.std.specs.Result.{result_map_both}
use Rattle.std.specs.Str.{chars}
use Rattle.cu_lex.specs.declared.token.Keyword.TheVariants as keyword
use Rattle.cu_lex.specs.declared.token.LayoutMark.{LayoutMark}
use Rattle.cu_lex.specs.Located.{without_mark}
use Rattle.cu_lex.specs.Tokens as tokens
use Rattle.cu_lex.specs.Tokens.{Lexeme}
use Rattle.cu_layout.specs.Blocks.{Marks, block, interleaving, last_of, layout_marks, with_marks}
use Rattle.cu_layout.specs.Reading.{emitted_lexeme, lexeme_view}
use Rattle.cu_peg.specs.declared.class.Class.TheVariants as class
use Rattle.cu_peg.specs.Classes.{has}
use Rattle.cu_prelude.specs.declared.prelude.TheConstants.{PRELUDE}
use Rattle.cu_prelude.specs.declared.set_functions.TheConstants.{SET_FUNCTIONS}
use Rattle.cu_syntax.specs.Parsing.{Part, Split, after, part_after_block, closes, depth_after, header_and_block, opens, part_of, parts, separates, split, with_header, with_token}
use Rattle.cu_modules.proofs.KeywordLemmas.{NoneImport, begins_word, import_word, lacks, none_import, tokens-none}

-- ---- a text without a line that begins with `import`

abbrev pub begins_import : List Lexeme → Bool
begins_import [] = false
begins_import (t ∷ more) = has (class.Keyword keyword.Import) t

abbrev pub none_begin : List Part → Bool
none_begin ps = list_all (λ (p : Part). not (begins_import p.tokens)) ps

abbrev pub block_imports_not : ℕ → Option (List Lexeme) → Bool
block_imports_not last None = true
block_imports_not last (Some b) = none_begin (parts last b)

abbrev pub laid_imports_not : List Lexeme → Bool
laid_imports_not laid = block_imports_not (header_and_block 1 laid).last (header_and_block 1 laid).block

abbrev pub found_imports_not : Result (List Lexeme) ℕ → Bool
found_imports_not (Ok laid) = laid_imports_not laid
found_imports_not (Err number) = true

abbrev pub tokens_import_not : Result (List Lexeme) tokens.Fault → Bool
tokens_import_not (Ok found) = found_imports_not (block lexeme_view true found)
tokens_import_not (Err fault) = true

-- ---- marks of layout are no keywords

none-append : (xs ys : List Lexeme) → NoneImport xs → NoneImport ys → NoneImport (xs ++ ys)
none-append [] ys none more = more
none-append (x ∷ xs) ys none more =
    let both = and_parts (not (has (class.Keyword keyword.Import) x)) (none_import xs) none in
    and_from (not (has (class.Keyword keyword.Import) x)) (none_import (xs ++ ys)) both.0 (none-append xs ys both.1 more)

marks-none : (t : Option Lexeme) (marks : List LayoutMark) → NoneImport (map (emitted_lexeme t) marks)
marks-none t [] = refl
marks-none t (mark ∷ marks) = marks-none t marks

interleaving-none : (ts : List Lexeme) (marks : List (List LayoutMark)) → NoneImport ts → NoneImport (interleaving emitted_lexeme ts marks)
interleaving-none [] marks none = refl
interleaving-none (t ∷ ts) [] none = none
interleaving-none (t ∷ ts) (here ∷ marks) none =
    let both = and_parts (not (has (class.Keyword keyword.Import) t)) (none_import ts) none in
    none-append (map (emitted_lexeme (Some t)) here) (t ∷ interleaving emitted_lexeme ts marks) (marks-none (Some t) here)
    (and_from (not (has (class.Keyword keyword.Import) t)) (none_import (interleaving emitted_lexeme ts marks)) both.0 (interleaving-none ts marks both.1))

block-none : (found : List Lexeme) → NoneImport found → IfOk (block lexeme_view true found) NoneImport
block-none found none = by (layout_marks true (map lexeme_view.sight found))
  where
    by : (r : Result Marks ℕ) → IfOk (result_map_both (with_marks emitted_lexeme found) (λ number. number) r) NoneImport
    by (Ok marks) =
        none-append (interleaving emitted_lexeme found marks.before) (map (emitted_lexeme (last_of None found)) marks.after)
        (interleaving-none found marks.before none) (marks-none (last_of None found) marks.after)
    by (Err number) = tt

-- ---- nor does a part begin with one

header_and_block-none : (last : ℕ) (ts : List Lexeme) → NoneImport ts → IfSome (header_and_block last ts).block NoneImport
header_and_block-none last [] none = tt
header_and_block-none last (t ∷ ts) none =
    let both = and_parts (not (has (class.Keyword keyword.Import) t)) (none_import ts) none in
    by (opens t.what) both.1 (header_and_block-none (after last t) ts both.1)
  where
    by : (b : Bool) → NoneImport ts → IfSome (header_and_block (after last t) ts).block NoneImport
        → IfSome (if b then record { header = []; last = after last t; block = Some ts } else with_header t (header_and_block (after last t) ts)).block NoneImport
    by true here later = here
    by false here later = later

part_after_block-none : (last : ℕ) (ts : List Lexeme) → NoneImport ts → none_begin (part_after_block last ts) ≡ true
part_after_block-none last [] none = refl
part_after_block-none last (t ∷ ts) none = and_from (not (has (class.Keyword keyword.Import) t)) true (and_parts (not (has (class.Keyword keyword.Import) t)) (none_import ts) none).0 refl

abbrev SplitNone : Split → Type 0
SplitNone s = (not (begins_import s.first) ≡ true) × (none_begin s.others ≡ true)

split-none : (depth last : ℕ) (ts : List Lexeme) → NoneImport ts → SplitNone (split depth last ts)
unfolding split
split-none depth last [] none = (refl, refl)
split-none depth last (t ∷ ts) none =
    let both = and_parts (not (has (class.Keyword keyword.Import) t)) (none_import ts) none in
    by (nat_eq depth 0 && closes t.what) (nat_eq depth 0 && separates t.what) both.0 (part_after_block-none (after last t) ts both.1)
    (split-none 0 (after last t) ts both.1) (split-none (depth_after depth t.what) (after last t) ts both.1)
  where
    by : (ends parts : Bool) → not (has (class.Keyword keyword.Import) t) ≡ true → none_begin (part_after_block (after last t) ts) ≡ true
        → SplitNone (split 0 (after last t) ts) → SplitNone (split (depth_after depth t.what) (after last t) ts)
        → SplitNone (if ends then record { first = []; whole = true; others = part_after_block (after last t) ts }
        else if parts then (let next = split 0 (after last t) ts in record { first = []; whole = true; others = part_of (after last t) next ∷ next.others })
        else with_token t (split (depth_after depth t.what) (after last t) ts))
    by true parts here end next inside = (refl, end)
    by false true here end next inside =
        (refl, and_from (not (begins_import (split 0 (after last t) ts).first)) (none_begin (split 0 (after last t) ts).others) next.0 next.1)
    by false false here end next inside = (here, inside.1)

block-imports : (last : ℕ) (o : Option (List Lexeme)) → IfSome o NoneImport → block_imports_not last o ≡ true
block-imports last None none = refl
block-imports last (Some b) none =
    let s = split-none 0 last b none in
    and_from (not (begins_import (split 0 last b).first)) (none_begin (split 0 last b).others) s.0 s.1

found-imports : (r : Result (List Lexeme) ℕ) → IfOk r NoneImport → found_imports_not r ≡ true
found-imports (Ok laid) none = block-imports (header_and_block 1 laid).last (header_and_block 1 laid).block (header_and_block-none 1 laid none)
found-imports (Err number) none = refl

tokens-imports : (r : Result (List Lexeme) tokens.Fault) → IfOk r NoneImport → tokens_import_not r ≡ true
tokens-imports (Ok found) none = found-imports (block lexeme_view true found) (block-none found none)
tokens-imports (Err fault) none = refl

alone : (text : List ℕ) → lacks import_word (without_mark (chars text)) ≡ true → tokens_import_not (tokens.tokens text) ≡ true
alone text is = tokens-imports (tokens.tokens text) (tokens-none text is)

-- ---- the texts

set_functions_lack : lacks import_word (without_mark (chars SET_FUNCTIONS.now)) ≡ true
unfolding lacks begins_word chars
set_functions_lack = refl

prelude_lacks : lacks import_word (without_mark (chars PRELUDE.now)) ≡ true
unfolding lacks begins_word chars
prelude_lacks = refl

pub set_functions_alone : tokens_import_not (tokens.tokens SET_FUNCTIONS.now) ≡ true
set_functions_alone = alone SET_FUNCTIONS.now set_functions_lack

pub prelude_alone : tokens_import_not (tokens.tokens PRELUDE.now) ≡ true
prelude_alone = alone PRELUDE.now prelude_lacks
