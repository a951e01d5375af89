-- No token of a text in which the word `import` stands nowhere is that keyword.
use Rattle.std.specs.Prelude.{◌≡◌, ℕ, zero, suc, pos, Bool, true, false, cond, not, ◌&&◌, ◌==◌, List, [], ◌∷◌, ◌++◌, length, codes, Option, None, Some, Result, Ok, Err, if◌then◌else◌, refl, nat_lt, IfSome, IfOk}
use Rattle.std.proofs.Common.{subst, sym, true≢false}
use Rattle.std.proofs.lemmas.Bool.{and_from, and_parts}
use Rattle.std.proofs.lemmas.List.{map-append}
use Rattle.std.proofs.lemmas.Slice.Eq.{bytes_eq-Decides}
use Rattle.std.specs.List.{list_all}
use Rattle.std.specs.Option.{option_and_then, option_map, option_or}
use Rattle.std.specs.Str.{byte, bytes_eq, chars, is_utf8}
use lib.Utf8.{scalar}
use Rattle.cu_lex.specs.declared.token.Keyword as words
use Rattle.cu_lex.specs.declared.token.Keyword.TheVariants as keyword
use Rattle.cu_lex.specs.Decoding.{fault_offset}
use Rattle.cu_lex.specs.Kind.{Kind, Spelling}
use Rattle.cu_lex.specs.Kind.Kind.{VarOp, ConOp, Keyword, Reserved, Mark, Int, Char}
use Rattle.cu_lex.specs.Literals.{items_between}
use Rattle.cu_lex.specs.Located.{Located, Position, characters, first_position, located, without_mark}
use Rattle.cu_lex.specs.Munch.{Cut, Placed, cut_within, longest, pieces_from}
use Rattle.cu_lex.specs.Pieces.{Piece, blank, character_at, codes_of, is_blank, name_kind, number, number_at, one_character, operator, piece, spelled, stands_before, start, string, string_of, word, word_before, word_kind}
use Rattle.cu_lex.specs.Pieces.Piece.{Blank, Token, OutOfRange}
use Rattle.cu_lex.specs.Tokens.{Fault, Lexeme, lexemes, lexemes_of, max_text_bytes, tokens, with_lexeme}
use Rattle.cu_lex.specs.Tokens.Fault.{NotUtf8, SourceTooBig}
use Rattle.cu_lex.specs.Words.{based_number, begins_with, decimal_number, entry, is_colon, is_con_id, is_operator, is_var_id, keyword_of, keywords, mark_of, qualified_parts, reserved_of}
use Rattle.cu_lex.proofs.CursorLemmas.{characters-located}
use Rattle.cu_lex.proofs.MunchLemmas.{longest-is}
use Rattle.cu_peg.specs.declared.class.Class.TheVariants as class
use Rattle.cu_peg.specs.Classes.{has, has_kind}

-- ---- texts in which a word stands nowhere

unfoldable pub begins_word : List ℕ → List ℕ → Bool
begins_word [] text = true
begins_word (c ∷ word) [] = false
begins_word (c ∷ word) (d ∷ text) = c == d && begins_word word text

unfoldable pub lacks : List ℕ → List ℕ → Bool
lacks word [] = true
lacks word (c ∷ text) = not (begins_word word (c ∷ text)) && lacks word text

abbrev pub import_word : List ℕ
import_word = codes "import"

lacks-rest : (word prefix rest : List ℕ) → lacks word (prefix ++ rest) ≡ true → lacks word rest ≡ true
unfolding lacks
lacks-rest word [] rest is = is
lacks-rest word (c ∷ prefix) rest is = lacks-rest word prefix rest (and_parts (not (begins_word word (c ∷ prefix ++ rest))) (lacks word (prefix ++ rest)) is).1

lacks-prefix : (prefix rest : List ℕ) → prefix ≡ import_word → lacks import_word (prefix ++ rest) ≡ true → ⊥
unfolding lacks begins_word
lacks-prefix prefix rest same is =
    let no : lacks import_word (import_word ++ rest) ≡ true = subst (λ (f : List ℕ). lacks import_word (f ++ rest) ≡ true) same is in
    true≢false (sym no)

-- ---- a kind that has such characters

abbrev Spells : List ℕ → Kind → Type 0
Spells w (Keyword keyword.Import) = w ≡ import_word
Spells w kind = Unit {0}

abbrev SpellsPiece : List ℕ → Piece → Type 0
SpellsPiece w (Token kind) = Spells w kind
SpellsPiece w Blank = Unit {0}
SpellsPiece w (OutOfRange p) = Unit {0}

or-if : {X : Type 0} (P : X → Type 0) (a b : Option X) → IfSome a P → IfSome b P → IfSome (option_or a b) P
or-if P None b p q = q
or-if P (Some x) b p q = p

map-if : {X Y : Type 0} (P : Y → Type 0) (f : X → Y) (o : Option X) → ((x : X) → P (f x)) → IfSome (option_map f o) P
map-if P f None all = tt
map-if P f (Some x) all = all x

then-if : {X Y : Type 0} (P : X → Type 0) (Q : Y → Type 0) (f : X → Option Y) (o : Option X) → IfSome o P → ((x : X) → P x → IfSome (f x) Q) → IfSome (option_and_then f o) Q
then-if P Q f None p all = tt
then-if P Q f (Some x) p all = all x p

choice-if : {X : Type 0} (P : X → Type 0) (b : Bool) (x y : X) → P x → P y → P (if b then x else y)
choice-if P true x y p q = p
choice-if P false x y p q = q

-- ---- kinds of words

abbrev EachSpells : List (List ℕ × words.Keyword) → Type 0
EachSpells [] = Unit {0}
EachSpells (e ∷ table) = Spells e.0 (Keyword e.1) × EachSpells table

entry-spells : (table : List (List ℕ × words.Keyword)) (w : List ℕ) → EachSpells table → IfSome (option_map Keyword (entry table w)) (Spells w)
entry-spells [] w all = tt
entry-spells (e ∷ table) w all = by (bytes_eq w e.0) refl (entry-spells table w all.1)
  where
    by : (b : Bool) → bytes_eq w e.0 ≡ b → IfSome (option_map Keyword (entry table w)) (Spells w) → IfSome (option_map Keyword (cond b (Some e.1) (entry table w))) (Spells w)
    by true h later = subst (λ (v : List ℕ). Spells v (Keyword e.1)) (sym ((bytes_eq-Decides w e.0).0 h)) all.0
    by false h later = later

keyword-spells : (w : List ℕ) → IfSome (option_map Keyword (keyword_of w)) (Spells w)
unfolding keyword_of
keyword-spells w =
    entry-spells keywords w
    (tt, (tt, (tt, (tt, (tt, (tt, (tt, (tt, (tt, (refl, (tt, (tt, (tt, (tt, (tt, (tt, (tt, (tt, (tt, (tt, (tt, tt)))))))))))))))))))))

operator-spells : (v w : List ℕ) (name : Spelling) → Spells v (operator w name)
operator-spells v w name = choice-if (Spells v) (begins_with is_colon w) (ConOp name) (VarOp name) tt tt

name_kind-spells : (v : List ℕ) (q : Option (List ℕ)) (w : List ℕ) → IfSome (name_kind q w) (Spells v)
unfolding name_kind
name_kind-spells v q w =
    let P : Option Kind → Type 0 = λ o. IfSome o (Spells v) in
    choice-if P (is_var_id w) _ _ tt (choice-if P (is_con_id w) _ _ tt (choice-if P (is_operator w) _ _ (operator-spells v w (spelled q w)) tt))

word_kind-spells : (w : List ℕ) → IfSome (word_kind w) (Spells w)
unfolding word_kind
word_kind-spells w =
    or-if (Spells w) _ _ (keyword-spells w)
    (or-if (Spells w) _ _ (map-if (Spells w) Reserved (reserved_of w) (λ k. tt))
    (or-if (Spells w) _ _ (map-if (Spells w) Mark (mark_of w) (λ k. tt))
    (or-if (Spells w) _ _ (name_kind-spells w None w)
    (then-if (λ parts. Unit {0}) (Spells w) (λ parts. name_kind (Some parts.0) parts.1) (qualified_parts w) (any (qualified_parts w)) (λ parts p. name_kind-spells w (Some parts.0) parts.1)))))
  where
    any : (o : Option (List ℕ × List ℕ)) → IfSome o (λ parts. Unit {0})
    any None = tt
    any (Some parts) = tt

-- ---- pieces

word-spells : (prefix next : List ℕ) → IfSome (word prefix next) (SpellsPiece prefix)
word-spells prefix next =
    then-if (Spells prefix) (SpellsPiece prefix) (word_before next) (word_kind prefix) (word_kind-spells prefix)
    (λ kind p. choice-if (λ o. IfSome o (SpellsPiece prefix)) (stands_before kind next) (Some (Token kind)) None p tt)

blank-spells : (prefix : List ℕ) → IfSome (blank prefix) (SpellsPiece prefix)
blank-spells prefix = choice-if (λ o. IfSome o (SpellsPiece prefix)) (is_blank prefix) (Some Blank) None tt tt

number-spells : (p : Position) (prefix next : List ℕ) → IfSome (number p prefix next) (SpellsPiece prefix)
number-spells p prefix next = map-if (SpellsPiece prefix) (number_at p) (option_or (decimal_number prefix next) (based_number prefix)) (λ n. at n)
  where
    at : (n : ℕ) → SpellsPiece prefix (number_at p n)
    at n = choice-if (SpellsPiece prefix) _ (Token (Int (pos n))) (OutOfRange p) tt tt

character-spells : (w : List ℕ) (items : List (Placed (Option ℕ))) → IfSome (one_character items) (SpellsPiece w)
character-spells w [] = tt
character-spells w (i ∷ []) = map-if (SpellsPiece w) (character_at i.at) i.what (λ code. choice-if (SpellsPiece w) (scalar code) (Token (Char code)) (OutOfRange i.at) tt tt)
character-spells w (i ∷ j ∷ items) = tt

string-spells : (w : List ℕ) (items : List (Placed (Option ℕ))) → SpellsPiece w (string items)
string-spells w items = by (codes_of items)
  where
    by : (found : Result (List ℕ) Position) → SpellsPiece w (string_of found)
    by (Ok value) = tt
    by (Err p) = tt

piece-spells : (prefix rest : List Located) → IfSome (piece prefix rest) (SpellsPiece (characters prefix))
unfolding piece
piece-spells prefix rest =
    let P : Piece → Type 0 = SpellsPiece (characters prefix) in
    or-if P _ _ (blank-spells (characters prefix))
    (or-if P _ _ (word-spells (characters prefix) (characters rest))
    (or-if P _ _ (number-spells (start prefix) (characters prefix) (characters rest))
    (or-if P _ _ (then-if (λ items. Unit {0}) P one_character (items_between (byte "'") prefix) (any (items_between (byte "'") prefix)) (λ items p. character-spells (characters prefix) items))
    (map-if P string (items_between (byte "\"") prefix) (string-spells (characters prefix))))))
  where
    any : (o : Option (List (Placed (Option ℕ)))) → IfSome o (λ items. Unit {0})
    any None = tt
    any (Some items) = tt

-- ---- tokens

abbrev pub none_import : List Lexeme → Bool
none_import ts = list_all (λ (t : Lexeme). not (has (class.Keyword keyword.Import) t)) ts

abbrev pub NoneImport : List Lexeme → Type 0
NoneImport ts = none_import ts ≡ true

kind-other : (prefix rest : List ℕ) (kind : Kind) → Spells prefix kind → lacks import_word (prefix ++ rest) ≡ true → not (has_kind (class.Keyword keyword.Import) kind) ≡ true
kind-other prefix rest (Keyword keyword.Import) spells is = absurd (lacks-prefix prefix rest spells is)
kind-other prefix rest kind spells is = refl

one-more : (prefix rest : List ℕ) (what : Piece) (p : Position) (later : Result (List Lexeme) Fault) → SpellsPiece prefix what → lacks import_word (prefix ++ rest) ≡ true
    → IfOk later NoneImport → IfOk (with_lexeme what p later) NoneImport
one-more prefix rest Blank p later spells is none = none
one-more prefix rest (Token kind) p (Ok ts) spells is none = and_from (not (has_kind (class.Keyword keyword.Import) kind)) (none_import ts) (kind-other prefix rest kind spells is) none
one-more prefix rest (Token kind) p (Err fault) spells is none = tt
one-more prefix rest (OutOfRange place) p later spells is none = tt

abbrev CutNone : ℕ → List Located → Type 0
CutNone n text = IfOk (lexemes_of (cut_within piece n text).pieces (cut_within piece n text).left) NoneImport

cut-none : (n : ℕ) (text : List Located) → lacks import_word (characters text) ≡ true → CutNone n text
unfolding cut_within
cut-none zero [] is = refl
cut-none zero (c ∷ text) is = tt
cut-none (suc n) [] is = refl
cut-none (suc n) (c ∷ text) is = by (λ rest h. cut-none n rest h) (longest piece (c ∷ text)) refl
  where
    by : ((rest : List Located) → lacks import_word (characters rest) ≡ true → CutNone n rest) → (o : Option (Cut Piece)) → longest piece (c ∷ text) ≡ o
        → IfOk (lexemes_of (pieces_from (cut_within piece n) c text o).pieces (pieces_from (cut_within piece n) c text o).left) NoneImport
    by more None found = tt
    by more (Some cut) found =
        let law = longest-is piece (c ∷ text) cut found in
        let whole : lacks import_word (characters (cut.prefix ++ cut.rest)) ≡ true = subst (λ (t : List Located). lacks import_word (characters t) ≡ true) (sym law.whole) is in
        let both : lacks import_word (characters cut.prefix ++ characters cut.rest) ≡ true =
        subst (λ (w : List ℕ). lacks import_word w ≡ true) (map-append (λ (l : Located). l.char) cut.prefix cut.rest) whole in
        let spells : SpellsPiece (characters cut.prefix) cut.what = subst (λ (o : Option Piece). IfSome o (SpellsPiece (characters cut.prefix))) law.allowed (piece-spells cut.prefix cut.rest) in
        one-more (characters cut.prefix) (characters cut.rest) cut.what c.at (lexemes_of (cut_within piece n cut.rest).pieces (cut_within piece n cut.rest).left) spells both
        (more cut.rest (lacks-rest import_word (characters cut.prefix) (characters cut.rest) both))

lexemes-none : (cs : List ℕ) → lacks import_word (without_mark cs) ≡ true → IfOk (lexemes (located cs)) NoneImport
lexemes-none cs is =
    cut-none (length (located cs)) (located cs) (subst (λ (w : List ℕ). lacks import_word w ≡ true) (sym (characters-located first_position (without_mark cs))) is)

pub tokens-none : (bytes : List ℕ) → lacks import_word (without_mark (chars bytes)) ≡ true → IfOk (tokens bytes) NoneImport
unfolding tokens
tokens-none bytes is =
    let P : Result (List Lexeme) Fault → Type 0 = λ r. IfOk r NoneImport in
    choice-if P (nat_lt max_text_bytes (length bytes)) (Err SourceTooBig) _ tt
    (choice-if P (is_utf8 bytes) (lexemes (located (chars bytes))) (Err (NotUtf8 (fault_offset bytes))) (lexemes-none (chars bytes) is) tt)
