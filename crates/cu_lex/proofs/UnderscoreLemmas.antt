-- Underscores that begin no name.
use Rattle.std.proofs.Common.{◌≡◌, ◌∙◌, ◌==◌, ℕ, Bool, true, false, ◌&&◌, List, [], ◌∷◌, Option, Some, None, if◌then◌else◌, refl, sym, ap, subst, true≢false, eqb-true}
use Rattle.std.specs.Char.{is_ascii_digit, is_ascii_lowercase, is_ascii_uppercase}
use Rattle.cu_lex.specs.declared.token.Keyword.{Keyword}
use Rattle.cu_lex.specs.declared.token.Mark as mark
use Rattle.cu_lex.specs.declared.token.Mark.TheVariants as marks
use Rattle.cu_lex.specs.declared.token.TokenKind.{TokenKind}
use Rattle.cu_lex.specs.declared.token.TokenKind.TheVariants as token
use Rattle.cu_lex.specs.declared.word.WordKind.TheVariants as kind
use Rattle.cu_lex.specs.Kind.Kind.{Mark}
use Rattle.cu_lex.specs.Inside.Lexing.{is_mark, piece_of, IsPiece, IsPlain, OpensComment}
use Rattle.cu_lex.specs.Located.{Located, characters}
use Rattle.cu_lex.specs.Munch.{Cut, cut_at, longest}
use Rattle.cu_lex.specs.Pieces.{Piece, piece}
use Rattle.cu_lex.specs.Pieces.Piece.{Blank, Token}
use Rattle.cu_lex.specs.Inside.Scanning.{first_of, is_underscore, run, skip, HasNoVariable, HasNoWord}
use Rattle.cu_lex.specs.Words.{begins_with, is_name_character, is_separator, is_symbol, keyword_of, mark_of}
use Rattle.cu_lex.proofs.AsciiLemmas.{and-left, and-right}
use Rattle.cu_lex.proofs.ClassLemmas.{word-longest}
use Rattle.cu_lex.proofs.FirstLemmas.{is_char}
use Rattle.cu_lex.proofs.NamedLemmas.{mark-piece}
use Rattle.cu_lex.proofs.WordLemmas.{var-id-kind, variable-first, variable-form, word-at}

-- ---- what a text with an underscore at its beginning is

pub at-underscore : (class : ℕ → Bool) → class 95 ≡ false → (c : Located) (text : List Located) → c.char ≡ 95 → begins_with class (characters (c ∷ text)) ≡ false
at-underscore class never c text is = ap class is ∙ never

plain-underscore : (c : Located) (text : List Located) → c.char ≡ 95 → IsPlain (c ∷ text)
unfolding is_separator
plain-underscore c text is = record {
  separator = at-underscore is_separator refl c text is;
  capital = at-underscore is_ascii_uppercase refl c text is;
  digit = at-underscore is_ascii_digit refl c text is;
  quote = at-underscore (is_char 39) refl c text is;
  quotes = at-underscore (is_char 34) refl c text is;
}

no-word-underscore : (c : Located) (text : List Located) → c.char ≡ 95 → HasNoVariable (c ∷ text) → HasNoWord (c ∷ text)
unfolding is_symbol
no-word-underscore c text is none = record {
  capital = at-underscore is_ascii_uppercase refl c text is;
  symbol = at-underscore is_symbol refl c text is;
  variable = none;
}

is_brace : Option ℕ → Bool
is_brace None = false
is_brace (Some n) = n == 123

no-comment-underscore : (c : Located) (text : List Located) → c.char ≡ 95 → OpensComment (c ∷ text) → ⊥
unfolding is_brace
no-comment-underscore c text is opens =
    true≢false (sym (ap is_brace opens.0) ∙ ap (λ n. n == 123) is)

-- what the rules for marks ask of a text
pub record IsMarkAt (text : List Located) : Type 0 where
  pub plain : IsPlain text
  pub words : HasNoWord text
  pub comments : OpensComment text → ⊥

pub mark-at-underscore : (text : List Located) → Some 95 ≡ first_of text → HasNoVariable text → IsMarkAt text
mark-at-underscore [] is none = let impossible : ⊥ = cc in absurd impossible
mark-at-underscore (c ∷ text) is none =
    let same : c.char ≡ 95 = cc in
    record { plain = plain-underscore c text same; words = no-word-underscore c text same none; comments = no-comment-underscore c text same }

-- ---- an underscore by itself

what_of : Option (Cut Piece) → Piece
what_of None = Blank
what_of (Some cut) = cut.what

rest_of : Option (Cut Piece) → List Located
rest_of None = []
rest_of (Some cut) = cut.rest

no-name : (text prefix rest end : List Located) (what : Piece) (m : mark.Mark) → longest piece text ≡ Some (cut_at prefix rest what) → IsPiece text (Token (Mark m)) end → what ≡ Token (Mark m)
unfolding what_of
no-name text prefix rest end what m is p = ap what_of (sym is ∙ p.cut)

-- it begins no name
lone : (text end : List Located) (m : mark.Mark) → IsPlain text → IsPiece text (Token (Mark m)) end → HasNoVariable text
lone text end m plain p = by (begins_with is_ascii_lowercase (characters (skip is_underscore text))) refl
  where
    word : List ℕ
    word = characters (run is_name_character text)

    kinds : (o : Option Keyword) → keyword_of word ≡ o → begins_with is_ascii_lowercase (characters (skip is_underscore text)) ≡ true → ⊥
    kinds None none small =
        let w = word-at is_name_character text (skip is_name_character text) kind.VarId refl refl (variable-first text small) (var-id-kind word (variable-form text small) none) in
        let same = no-name text w.prefix (skip is_name_character text) end _ m (word-longest text kind.VarId (skip is_name_character text) plain w refl) p in
        let impossible : ⊥ = cc in impossible
    kinds (Some k) is small =
        let w = word-at is_name_character text (skip is_name_character text) (kind.Keyword k) refl refl (variable-first text small) is in
        let same = no-name text w.prefix (skip is_name_character text) end _ m (word-longest text (kind.Keyword k) (skip is_name_character text) plain w refl) p in
        let impossible : ⊥ = cc in impossible

    by : (b : Bool) → begins_with is_ascii_lowercase (characters (skip is_underscore text)) ≡ b → b ≡ false
    by false h = refl
    by true h = absurd (kinds (keyword_of word) refl h)

later-too : (c : Located) (text : List Located) → c.char ≡ 95 → HasNoVariable (c ∷ text) → HasNoVariable text
later-too c text is none = subst (λ n. begins_with is_ascii_lowercase (characters (if n == 95 then skip is_underscore text else c ∷ text)) ≡ false) is none

is-mark : mark_of (95 ∷ []) ≡ Some marks.Underscore
unfolding mark_of
is-mark = refl

-- and none begins after it
no-variable-after : (c : Located) (text end : List Located) (m : mark.Mark) → c.char ≡ 95 → IsPiece (c ∷ text) (Token (Mark m)) end → HasNoVariable end
unfolding rest_of
no-variable-after c text end m is p =
    let plain = plain-underscore c text is in
    let none = lone (c ∷ text) end m plain p in
    let q = mark-piece (c ∷ text) marks.Underscore text refl plain (no-word-underscore c text is none) (no-comment-underscore c text is) (sym (ap (λ n. mark_of (n ∷ [])) is ∙ is-mark)) in
    let same : end ≡ text = ap rest_of (sym p.cut ∙ q.cut) in
    subst HasNoVariable (sym same) (later-too c text is none)

pub underscore-kept : (names : List (List ℕ)) (text end : List Located) (first : ℕ) (kind : Option TokenKind) (alone : Bool) → first_of text ≡ Some first → IsPiece text (piece_of names kind) end
    → alone ≡ (is_underscore first && is_mark kind) → alone ≡ true → HasNoVariable end
underscore-kept names [] end first kind alone at p is holds = let impossible : ⊥ = cc in absurd impossible
underscore-kept names (c ∷ text) end first kind alone at p is holds = by kind p (and-right (is_underscore first) (is_mark kind) (sym is ∙ holds))
  where
    char : c.char ≡ 95
    char = (let same : c.char ≡ first = cc in same) ∙ eqb-true first 95 (and-left (is_underscore first) (is_mark kind) (sym is ∙ holds))

    by : (kind : Option TokenKind) → IsPiece (c ∷ text) (piece_of names kind) end → is_mark kind ≡ true → HasNoVariable end
    by (Some (token.Mark m)) p marked = no-variable-after c text end m char p
    by _ p marked = absurd (true≢false (sym marked))
