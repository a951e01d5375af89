-- A token that is a ConId begins with a capital letter, and so with no sign.
use Rattle.std.specs.Prelude.{◌≡◌, ℕ, zero, suc, pos, Bool, true, false, ◌&&◌, List, [], ◌∷◌, length, Option, None, Some, Result, Ok, Err, if◌then◌else◌, refl, nat_eq, nat_lt, is_none, IfSome, IfOk, map}
use Rattle.std.proofs.Common.{subst, ap, ◌∙◌}
use Rattle.std.proofs.lemmas.Bool.{and_parts, both_ways, or_from}
use Rattle.std.proofs.lemmas.Bool.Decides.{Decides-eqb}
use Rattle.std.specs.Char.{is_ascii_uppercase}
use Rattle.std.specs.Option.{option_and_then, option_map, option_or}
use Rattle.std.specs.Result.{result_map_both}
use Rattle.std.specs.Str.{byte, chars, is_utf8}
use lib.Utf8.{scalar}
use Rattle.cu_layout.specs.Blocks.{Marks, block, interleaving, last_of, layout_marks, with_marks}
use Rattle.cu_layout.specs.Reading.{emitted_lexeme, lexeme_view}
use Rattle.cu_lex.specs.declared.token.LayoutMark.{LayoutMark}
use Rattle.cu_lex.specs.Decoding.{fault_offset}
use Rattle.cu_lex.specs.Kind.{Kind, Spelling}
use Rattle.cu_lex.specs.Kind.Kind.{Char, ConId, ConOp, Int, Keyword, Mark, Reserved, VarId, VarOp}
use Rattle.cu_lex.specs.Literals.{items_between}
use Rattle.cu_lex.specs.Located.{Located, Position, characters, located}
use Rattle.cu_lex.specs.Munch.{Cut, Placed, cut_within, longest, pieces_from}
use Rattle.cu_lex.specs.Pieces.{Piece, blank, character_at, codes_of, is_blank, name_kind, number, number_at, one_character, operator, piece, spelled, stands_before, start, string, string_of, word, word_before, word_kind}
use Rattle.cu_lex.specs.Pieces.Piece.{Blank, Token, OutOfRange}
use Rattle.cu_lex.specs.Tokens.{Fault, Lexeme, lexemes, lexemes_of, max_text_bytes, tokens, with_lexeme}
use Rattle.cu_lex.specs.Tokens.Fault.{NotUtf8, SourceTooBig}
use Rattle.cu_lex.specs.Words.{based_number, begins_with, decimal_number, is_colon, is_con_id, is_operator, is_var_id, keyword_of, mark_of, qualified_parts, reserved_of}
use Rattle.cu_lex.proofs.MunchLemmas.{longest-is}
use Rattle.cu_syntax.specs.Parsing.{Part, Split, after, part_after_block, closes, depth_after, header_and_block, part_of, parts, separates, split, with_header, with_token}
use Rattle.cu_syntax.specs.Parsing as parsing
use Rattle.cu_front_laws.proofs.Members.{Every, every_append}
use Rattle.cu_front_laws.proofs.NarrowTexts.{opens}

-- ---- kinds

-- a ConId without a qualifier doesn't begin with a sign
abbrev pub CapitalKind : Kind → Type 0
CapitalKind (ConId name) = is_none name.qualifier ≡ true → opens name.text ≡ false
CapitalKind _ = Unit {0}

abbrev pub Capital : Lexeme → Type 0
Capital x = CapitalKind x.what

capital_other : (c d : ℕ) → is_ascii_uppercase c ≡ true → is_ascii_uppercase d ≡ false → nat_eq c d ≡ false
capital_other c d upper other = by (nat_eq c d) refl
  where
    by : (b : Bool) → nat_eq c d ≡ b → b ≡ false
    by true e = absurd (both_ways (is_ascii_uppercase c) (ap is_ascii_uppercase ((Decides-eqb c d).0 e) ∙ other) upper)
    by false e = refl

capital_unsigned : (w : List ℕ) → begins_with is_ascii_uppercase w ≡ true → opens w ≡ false
capital_unsigned [] h = refl
capital_unsigned (c ∷ cs) h = or_from (nat_eq c 40) (nat_eq c 91) (capital_other c 40 h refl) (capital_other c 91 h refl)

con_capital : (q : Option (List ℕ)) (w : List ℕ) → is_con_id w ≡ true → CapitalKind (ConId (spelled q w))
unfolding is_con_id
con_capital None w h = λ none. capital_unsigned w (and_parts (begins_with is_ascii_uppercase w) _ h).0
con_capital (Some outer) w h = λ none. absurd (both_ways false refl none)

abbrev CapitalPiece : Piece → Type 0
CapitalPiece (Token kind) = CapitalKind kind
CapitalPiece Blank = Unit {0}
CapitalPiece (OutOfRange p) = Unit {0}

or-if : {X : Type 0} (P : X → Type 0) (a b : Option X) → IfSome a P → IfSome b P → IfSome (option_or a b) P
or-if P None b p q = q
or-if P (Some x) b p q = p

map-if : {X Y : Type 0} (P : Y → Type 0) (f : X → Y) (o : Option X) → ((x : X) → P (f x)) → IfSome (option_map f o) P
map-if P f None all = tt
map-if P f (Some x) all = all x

then-if : {X Y : Type 0} (P : X → Type 0) (Q : Y → Type 0) (f : X → Option Y) (o : Option X) → IfSome o P → ((x : X) → P x → IfSome (f x) Q)
    → IfSome (option_and_then f o) Q
then-if P Q f None p all = tt
then-if P Q f (Some x) p all = all x p

choice-if : {X : Type 0} (P : X → Type 0) (b : Bool) (x y : X) → P x → P y → P (if b then x else y)
choice-if P true x y p q = p
choice-if P false x y p q = q

any_option : {X : Type 0} (o : Option X) → IfSome o (λ x. Unit {0})
any_option None = tt
any_option (Some x) = tt

operator-capital : (w : List ℕ) (name : Spelling) → CapitalKind (operator w name)
operator-capital w name = choice-if CapitalKind (begins_with is_colon w) (ConOp name) (VarOp name) tt tt

name_kind-capital : (q : Option (List ℕ)) (w : List ℕ) → IfSome (name_kind q w) CapitalKind
unfolding name_kind
name_kind-capital q w = by (is_var_id w) (is_con_id w) (is_operator w) refl
  where
    by : (v c o : Bool) → is_con_id w ≡ c
        → IfSome (if v then Some (VarId (spelled q w)) else if c then Some (ConId (spelled q w)) else if o then Some (operator w (spelled q w)) else
        None) CapitalKind
    by true c o e = tt
    by false true o e = con_capital q w e
    by false false true e = operator-capital w (spelled q w)
    by false false false e = tt

word_kind-capital : (w : List ℕ) → IfSome (word_kind w) CapitalKind
unfolding word_kind
word_kind-capital w =
    or-if CapitalKind _ _ (map-if CapitalKind Keyword (keyword_of w) (λ k. tt))
    (or-if CapitalKind _ _ (map-if CapitalKind Reserved (reserved_of w) (λ k. tt))
    (or-if CapitalKind _ _ (map-if CapitalKind Mark (mark_of w) (λ k. tt))
    (or-if CapitalKind _ _ (name_kind-capital None w)
    (then-if (λ parts. Unit {0}) CapitalKind (λ parts. name_kind (Some parts.0) parts.1) (qualified_parts w) (any_option (qualified_parts w))
    (λ parts p. name_kind-capital (Some parts.0) parts.1)))))

-- ---- pieces

word-capital : (prefix next : List ℕ) → IfSome (word prefix next) CapitalPiece
word-capital prefix next =
    then-if CapitalKind CapitalPiece (word_before next) (word_kind prefix) (word_kind-capital prefix)
    (λ kind p. choice-if (λ o. IfSome o CapitalPiece) (stands_before kind next) (Some (Token kind)) None p tt)

blank-capital : (prefix : List ℕ) → IfSome (blank prefix) CapitalPiece
blank-capital prefix = choice-if (λ o. IfSome o CapitalPiece) (is_blank prefix) (Some Blank) None tt tt

number-capital : (p : Position) (prefix next : List ℕ) → IfSome (number p prefix next) CapitalPiece
number-capital p prefix next = map-if CapitalPiece (number_at p) (option_or (decimal_number prefix next) (based_number prefix)) (λ n. at n)
  where
    at : (n : ℕ) → CapitalPiece (number_at p n)
    at n = choice-if CapitalPiece _ (Token (Int (pos n))) (OutOfRange p) tt tt

character-capital : (items : List (Placed (Option ℕ))) → IfSome (one_character items) CapitalPiece
character-capital [] = tt
character-capital (i ∷ []) =
    map-if CapitalPiece (character_at i.at) i.what (λ code. choice-if CapitalPiece (scalar code) (Token (Char code)) (OutOfRange i.at) tt tt)
character-capital (i ∷ j ∷ items) = tt

string-capital : (items : List (Placed (Option ℕ))) → CapitalPiece (string items)
string-capital items = by (codes_of items)
  where
    by : (found : Result (List ℕ) Position) → CapitalPiece (string_of found)
    by (Ok value) = tt
    by (Err p) = tt

piece-capital : (prefix rest : List Located) → IfSome (piece prefix rest) CapitalPiece
unfolding piece
piece-capital prefix rest =
    or-if CapitalPiece _ _ (blank-capital (characters prefix))
    (or-if CapitalPiece _ _ (word-capital (characters prefix) (characters rest))
    (or-if CapitalPiece _ _ (number-capital (start prefix) (characters prefix) (characters rest))
    (or-if CapitalPiece _ _
    (then-if (λ items. Unit {0}) CapitalPiece one_character (items_between (byte "'") prefix) (any_option (items_between (byte "'") prefix))
    (λ items p. character-capital items))
    (map-if CapitalPiece string (items_between (byte "\"") prefix) string-capital))))

-- ---- tokens

abbrev pub Capitals : List Lexeme → Type 0
Capitals ts = Every Capital ts

one-more : (what : Piece) (p : Position) (later : Result (List Lexeme) Fault) → CapitalPiece what → IfOk later Capitals
    → IfOk (with_lexeme what p later) Capitals
one-more Blank p later is all = all
one-more (Token kind) p (Ok ts) is all = (is, all)
one-more (Token kind) p (Err fault) is all = tt
one-more (OutOfRange place) p later is all = tt

abbrev CutCapital : ℕ → List Located → Type 0
CutCapital n text = IfOk (lexemes_of (cut_within piece n text).pieces (cut_within piece n text).left) Capitals

cut-capital : (n : ℕ) (text : List Located) → CutCapital n text
unfolding cut_within
cut-capital zero [] = tt
cut-capital zero (c ∷ text) = tt
cut-capital (suc n) [] = tt
cut-capital (suc n) (c ∷ text) = by (λ rest. cut-capital n rest) (longest piece (c ∷ text)) refl
  where
    by : ((rest : List Located) → CutCapital n rest) → (o : Option (Cut Piece)) → longest piece (c ∷ text) ≡ o
        → IfOk (lexemes_of (pieces_from (cut_within piece n) c text o).pieces (pieces_from (cut_within piece n) c text o).left) Capitals
    by more None found = tt
    by more (Some cut) found =
        let law = longest-is piece (c ∷ text) cut found in
        let is : CapitalPiece cut.what = subst (λ (o : Option Piece). IfSome o CapitalPiece) law.allowed (piece-capital cut.prefix cut.rest) in
        one-more cut.what c.at (lexemes_of (cut_within piece n cut.rest).pieces (cut_within piece n cut.rest).left) is (more cut.rest)

pub tokens-capital : (bytes : List ℕ) → IfOk (tokens bytes) Capitals
unfolding tokens
tokens-capital bytes =
    let P : Result (List Lexeme) Fault → Type 0 = λ r. IfOk r Capitals in
    choice-if P (nat_lt max_text_bytes (length bytes)) (Err SourceTooBig) _ tt
    (choice-if P (is_utf8 bytes) (lexemes (located (chars bytes))) (Err (NotUtf8 (fault_offset bytes)))
    (cut-capital (length (located (chars bytes))) (located (chars bytes))) tt)

-- ---- layout

marks-capital : (t : Option Lexeme) (marks : List LayoutMark) → Capitals (map (emitted_lexeme t) marks)
marks-capital t [] = tt
marks-capital t (mark ∷ marks) = (tt, marks-capital t marks)

interleaving-capital : (ts : List Lexeme) (marks : List (List LayoutMark)) → Capitals ts → Capitals (interleaving emitted_lexeme ts marks)
interleaving-capital [] marks all = tt
interleaving-capital (t ∷ ts) [] all = all
interleaving-capital (t ∷ ts) (here ∷ marks) all =
    every_append Capital (map (emitted_lexeme (Some t)) here) (t ∷ interleaving emitted_lexeme ts marks) (marks-capital (Some t) here)
    (all.0, interleaving-capital ts marks all.1)

pub block-capital : (outer : Bool) (found : List Lexeme) → Capitals found → IfOk (block lexeme_view outer found) Capitals
block-capital outer found all = by (layout_marks outer (map lexeme_view.sight found))
  where
    by : (r : Result Marks ℕ) → IfOk (result_map_both (with_marks emitted_lexeme found) (λ number. number) r) Capitals
    by (Ok marks) =
        every_append Capital (interleaving emitted_lexeme found marks.before) (map (emitted_lexeme (last_of None found)) marks.after)
        (interleaving-capital found marks.before all) (marks-capital (last_of None found) marks.after)
    by (Err number) = tt

-- ---- parts of a module

pub header_and_block-capital : (last : ℕ) (ts : List Lexeme) → Capitals ts → IfSome (header_and_block last ts).block Capitals
header_and_block-capital last [] all = tt
header_and_block-capital last (t ∷ ts) all = by (parsing.opens t.what) all.1 (header_and_block-capital (after last t) ts all.1)
  where
    by : (b : Bool) → Capitals ts → IfSome (header_and_block (after last t) ts).block Capitals
        → IfSome (if b then record { header = []; last = after last t; block = Some ts } else with_header t (header_and_block (after last t) ts)).block Capitals
    by true here later = here
    by false here later = later

abbrev PartCapital : Part → Type 0
PartCapital p = Capitals p.tokens

part_after_block-capital : (last : ℕ) (ts : List Lexeme) → Capitals ts → Every PartCapital (part_after_block last ts)
part_after_block-capital last [] all = tt
part_after_block-capital last (t ∷ ts) all = (all, tt)

abbrev SplitCapital : Split → Type 0
SplitCapital s = Capitals s.first × Every PartCapital s.others

split-capital : (depth last : ℕ) (ts : List Lexeme) → Capitals ts → SplitCapital (split depth last ts)
unfolding split
split-capital depth last [] all = (tt, tt)
split-capital depth last (t ∷ ts) all =
    by (nat_eq depth 0 && closes t.what) (nat_eq depth 0 && separates t.what) (part_after_block-capital (after last t) ts all.1)
    (split-capital 0 (after last t) ts all.1) (split-capital (depth_after depth t.what) (after last t) ts all.1)
  where
    by : (ends parts : Bool) → Every PartCapital (part_after_block (after last t) ts)
        → SplitCapital (split 0 (after last t) ts) → SplitCapital (split (depth_after depth t.what) (after last t) ts)
        → SplitCapital (if ends then record { first = []; whole = true; others = part_after_block (after last t) ts }
        else if parts then (let next =
        split 0 (after last t) ts in record { first = []; whole = true; others = part_of (after last t) next ∷ next.others })
        else with_token t (split (depth_after depth t.what) (after last t) ts))
    by true parts end next inside = (tt, end)
    by false true end next inside = (tt, (next.0, next.1))
    by false false end next inside = ((all.0, inside.0), inside.1)

pub parts-capital : (last : ℕ) (ts : List Lexeme) → Capitals ts → Every PartCapital (parts last ts)
parts-capital last ts all = let s = split-capital 0 last ts all in (s.0, s.1)
