-- No piece of a text is a mark of layout, and none has a negative number.
use Rattle.std.proofs.Common.{◌≡◌, ◌<◌, ℕ, zero, suc, refl, subst, arith, Bool, true, false, List, [], ◌∷◌, Option, None, Some, Result, Ok, Err, if◌then◌else◌, slice_index_or, pos}
use Rattle.std.proofs.lemmas.List.Elements.{All-append}
use Rattle.std.specs.Option.{option_and_then, option_map, option_or, IfSome}
use Rattle.std.specs.Int.{IsNonNegative}
use Rattle.std.specs.Prelude.{All}
use Rattle.std.specs.Str.{byte}
use lib.Utf8.{scalar}
use Rattle.cu_names.specs.declared.place.Place.{Place}
use Rattle.cu_lex.specs.declared.token.Token.{Token as LexerToken}
use Rattle.cu_lex.specs.declared.token.TokenKind.{TokenKind}
use Rattle.cu_lex.specs.declared.token.TokenKind.TheVariants as token
use Rattle.cu_int.specs.Integers.{is_integer}
use Rattle.cu_lex.specs.Kind.{Kind, Spelling}
use Rattle.cu_lex.specs.Kind.Kind.{VarOp, ConOp, Keyword, Reserved, Mark, Int, Char, Layout}
use Rattle.cu_lex.specs.Inside.Lexing.{IsPiece, piece_of, with_token}
use Rattle.cu_lex.specs.Literals.{items_between}
use Rattle.cu_lex.specs.Located.{Located, Position, characters}
use Rattle.cu_lex.specs.Munch.{Placed, cut_at}
use Rattle.cu_lex.specs.Pieces.{Piece, blank, character_at, codes_of, is_blank, name_kind, number, number_at, one_character, operator, piece, spelled, stands_before, start, string, string_of, word, word_before, word_kind}
use Rattle.cu_lex.specs.Pieces.Piece.{Blank, Token, OutOfRange}
use Rattle.cu_lex.specs.Reading.{is_written, kind_of, HasNatural}
use Rattle.cu_lex.specs.Words.{based_number, begins_with, decimal_number, is_colon, is_con_id, is_operator, is_var_id, keyword_of, mark_of, qualified_parts, reserved_of}
use Rattle.cu_lex.proofs.MunchLemmas.{longest-is}

-- a kind that stands in texts
abbrev IsText : Kind → Type 0
IsText (Layout mark) = ⊥
IsText (Int n) = IsNonNegative n
IsText kind = Unit {0}

abbrev IsTextPiece : Piece → Type 0
IsTextPiece (Token kind) = IsText kind
IsTextPiece Blank = Unit {0}
IsTextPiece (OutOfRange p) = Unit {0}

-- ---- options

or-if : {X : Type 0} (P : X → Type 0) (a b : Option X) → IfSome a P → IfSome b P → IfSome (option_or a b) P
or-if P None b p q = q
or-if P (Some x) b p q = p

map-if : {X Y : Type 0} (P : Y → Type 0) (f : X → Y) (o : Option X) → ((x : X) → P (f x)) → IfSome (option_map f o) P
map-if P f None all = tt
map-if P f (Some x) all = all x

then-if : {X Y : Type 0} (P : X → Type 0) (Q : Y → Type 0) (f : X → Option Y) (o : Option X) → IfSome o P → ((x : X) → P x → IfSome (f x) Q) → IfSome (option_and_then f o) Q
then-if P Q f None p all = tt
then-if P Q f (Some x) p all = all x p

choice-if : {X : Type 0} (P : X → Type 0) (b : Bool) (x y : X) → P x → P y → P (if b then x else y)
choice-if P true x y p q = p
choice-if P false x y p q = q

-- ---- kinds of words

operator-text : (w : List ℕ) (name : Spelling) → IsText (operator w name)
operator-text w name = choice-if IsText (begins_with is_colon w) (ConOp name) (VarOp name) tt tt

name_kind-text : (q : Option (List ℕ)) (w : List ℕ) → IfSome (name_kind q w) IsText
unfolding name_kind
name_kind-text q w =
    let P : Option Kind → Type 0 = λ o. IfSome o IsText in
    choice-if P (is_var_id w) _ _ tt (choice-if P (is_con_id w) _ _ tt (choice-if P (is_operator w) _ _ (operator-text w (spelled q w)) tt))

word_kind-text : (w : List ℕ) → IfSome (word_kind w) IsText
unfolding word_kind
word_kind-text w =
    or-if IsText _ _ (map-if IsText Keyword (keyword_of w) (λ k. tt))
    (or-if IsText _ _ (map-if IsText Reserved (reserved_of w) (λ k. tt))
    (or-if IsText _ _ (map-if IsText Mark (mark_of w) (λ k. tt))
    (or-if IsText _ _ (name_kind-text None w)
    (then-if (λ parts. Unit {0}) IsText (λ parts. name_kind (Some parts.0) parts.1) (qualified_parts w) (any (qualified_parts w)) (λ parts p. name_kind-text (Some parts.0) parts.1)))))
  where
    any : (o : Option (List ℕ × List ℕ)) → IfSome o (λ parts. Unit {0})
    any None = tt
    any (Some parts) = tt

-- ---- pieces

word-text : (prefix next : List ℕ) → IfSome (word prefix next) IsTextPiece
word-text prefix next =
    then-if IsText IsTextPiece (word_before next) (word_kind prefix) (word_kind-text prefix)
    (λ kind p. choice-if (λ o. IfSome o IsTextPiece) (stands_before kind next) (Some (Token kind)) None p tt)

blank-text : (prefix : List ℕ) → IfSome (blank prefix) IsTextPiece
blank-text prefix = choice-if (λ o. IfSome o IsTextPiece) (is_blank prefix) (Some Blank) None tt tt

number-text : (p : Position) (prefix next : List ℕ) → IfSome (number p prefix next) IsTextPiece
number-text p prefix next = map-if IsTextPiece (number_at p) (option_or (decimal_number prefix next) (based_number prefix)) (λ n. number_at-text p n)
  where
    number_at-text : (p : Position) (n : ℕ) → IsTextPiece (number_at p n)
    number_at-text p n = choice-if IsTextPiece (is_integer (pos n)) (Token (Int (pos n))) (OutOfRange p) tt tt

character-text : (items : List (Placed (Option ℕ))) → IfSome (one_character items) IsTextPiece
character-text [] = tt
character-text (i ∷ []) = map-if IsTextPiece (character_at i.at) i.what (λ code. choice-if IsTextPiece (scalar code) (Token (Char code)) (OutOfRange i.at) tt tt)
character-text (i ∷ j ∷ items) = tt

string-text : (items : List (Placed (Option ℕ))) → IsTextPiece (string items)
string-text items = by (codes_of items)
  where
    by : (found : Result (List ℕ) Position) → IsTextPiece (string_of found)
    by (Ok value) = tt
    by (Err p) = tt

piece-text : (prefix rest : List Located) → IfSome (piece prefix rest) IsTextPiece
unfolding piece
piece-text prefix rest =
    or-if IsTextPiece _ _ (blank-text (characters prefix))
    (or-if IsTextPiece _ _ (word-text (characters prefix) (characters rest))
    (or-if IsTextPiece _ _ (number-text (start prefix) (characters prefix) (characters rest))
    (or-if IsTextPiece _ _ (then-if (λ items. Unit {0}) IsTextPiece one_character (items_between (byte "'") prefix) (any (items_between (byte "'") prefix)) (λ items p. character-text items))
    (map-if IsTextPiece string (items_between (byte "\"") prefix) string-text))))
  where
    any : (o : Option (List (Placed (Option ℕ)))) → IfSome o (λ items. Unit {0})
    any None = tt
    any (Some items) = tt

found-text : (text end : List Located) (what : Piece) → IsPiece text what end → IsTextPiece what
found-text text end what is =
    let law = longest-is piece text (cut_at is.prefix end what) is.cut in
    subst (λ o. IfSome o IsTextPiece) law.allowed (piece-text is.prefix end)

-- ---- tokens

written-kind : (names : List (List ℕ)) (kind : TokenKind) → IsText (kind_of names kind) → is_written kind ≡ true
written-kind names (token.Layout mark) p = absurd p
written-kind names (token.VarId name) p = refl
written-kind names (token.ConId name) p = refl
written-kind names (token.VarOp name) p = refl
written-kind names (token.ConOp name) p = refl
written-kind names (token.Keyword k) p = refl
written-kind names (token.Reserved k) p = refl
written-kind names (token.Mark mark) p = refl
written-kind names (token.Int n) p = refl
written-kind names (token.Char code) p = refl
written-kind names (token.String value) p = refl

one-written : (t : LexerToken) → is_written t.kind ≡ true → All (λ x. is_written x.kind ≡ true) (t ∷ [])
one-written t is = λ k d fits. at k d fits
  where
    at : (k : ℕ) (d : LexerToken) → k < 1 → is_written (slice_index_or (t ∷ []) k d).kind ≡ true
    at zero d fits = is
    at (suc k) d fits = absurd (omega arith)

pub written-more : (ts : List LexerToken) (kind : Option TokenKind) (place : Place) (text end : List Located) (names : List (List ℕ)) → All (λ t. is_written t.kind ≡ true) ts → IsPiece text (piece_of names kind) end
    → All (λ t. is_written t.kind ≡ true) (with_token ts kind place)
written-more ts None place text end names all is = all
written-more ts (Some kind) place text end names all is =
    All-append (λ t. is_written t.kind ≡ true) ts (record { kind = kind; place = place } ∷ []) all
    (one-written (record { kind = kind; place = place }) (written-kind names kind (found-text text end (Token (kind_of names kind)) is)))

-- ---- numbers

natural-kind : (names : List (List ℕ)) (kind : TokenKind) → IsText (kind_of names kind) → HasNatural kind
natural-kind names (token.Int n) p = p
natural-kind names (token.VarId name) p = tt
natural-kind names (token.ConId name) p = tt
natural-kind names (token.VarOp name) p = tt
natural-kind names (token.ConOp name) p = tt
natural-kind names (token.Keyword k) p = tt
natural-kind names (token.Reserved k) p = tt
natural-kind names (token.Mark mark) p = tt
natural-kind names (token.Char code) p = tt
natural-kind names (token.String value) p = tt
natural-kind names (token.Layout mark) p = tt

pub natural-found : (kind : Option TokenKind) (text end : List Located) (names : List (List ℕ)) → IsPiece text (piece_of names kind) end → IfSome kind HasNatural
natural-found None text end names is = tt
natural-found (Some kind) text end names is = natural-kind names kind (found-text text end (Token (kind_of names kind)) is)
