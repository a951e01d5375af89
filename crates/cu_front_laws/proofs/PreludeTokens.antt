-- The first tokens of the Prelude's text.
use Prim.Native.String.{String as Text}
use Rattle.std.specs.Prelude.{◌≡◌, ℕ, zero, suc, pos, Bool, true, false, List, [], ◌∷◌, ◌++◌, codes, Option, None, Some, Result, Ok, Err, if◌then◌else◌, length, nat_lt, refl}
use Rattle.std.proofs.Common.{ap, subst, sym, ◌∙◌}
use Rattle.std.specs.Option.{option_and_then, option_map, option_or}
use Rattle.std.specs.Str.{byte, chars, is_utf8}
use Rattle.cu_lex.specs.declared.token.Keyword.TheVariants as keyword
use Rattle.cu_lex.specs.declared.token.Mark.TheVariants as mark
use Rattle.cu_lex.specs.declared.token.ReservedOperator.TheVariants as reserved
use Rattle.cu_lex.specs.Kind.{Kind, Spelling}
use Rattle.cu_lex.specs.Kind.Kind.{ConId, Int, Keyword, Mark, Reserved, VarId, VarOp}
use Rattle.cu_lex.specs.Literals.{item_of, items_between, numeric_escape, short_escape}
use Rattle.cu_lex.specs.Located.{Located, Position, characters, located, located_from}
use Rattle.cu_lex.specs.Munch.{Cut, cut_at, cut_within, longest, longest_after, pieces_from}
use Rattle.cu_lex.specs.Pieces.{Piece, blank, name_kind, number, one_character, piece, special_of, spelled, start, string, word, word_kind}
use Rattle.cu_lex.specs.Pieces.Piece.{Blank, Token, OutOfRange}
use Rattle.cu_lex.specs.Decoding.{fault_offset}
use Rattle.cu_lex.specs.Tokens.{Fault, Lexeme, lexemes, lexemes_of, max_text_bytes, tokens, with_lexeme}
use Rattle.cu_lex.specs.Tokens.Fault.{NotUtf8, SourceTooBig}
use Rattle.cu_lex.specs.Words.{based_number, closes, decimal_number, digits_value, is_con_id, is_line_comment, is_module_name, is_name_character, is_nested_comment, is_operator, is_separator, is_symbol, is_var_id, keyword_of, mark_of, qualified_parts, reserved_of}
use Rattle.cu_prelude.specs.declared.prelude.TheConstants.{PRELUDE}
use Rattle.cu_front_laws.proofs.Scanning.{may_be_piece, scan_after, scan_is}

-- ---- the same, where nothing is looked at that isn't needed

unfoldable pub quick_piece : List Located → List Located → Option Piece
quick_piece prefix rest =
    elim (blank (characters prefix)) as (λ _. Option Piece) [
      | Some x ↦ Some x
      | None ↦ elim (word (characters prefix) (characters rest)) as (λ _. Option Piece) [
        | Some x ↦ Some x
        | None ↦ piece prefix rest
      ]
    ]

unfoldable pub quick_scan : List Located → List Located → Option (Cut Piece)
quick_scan begun [] = None
quick_scan begun (c ∷ text) =
    elim (may_be_piece (characters (begun ++ c ∷ []))) as (λ _. Option (Cut Piece)) [
      | true ↦ elim (quick_scan (begun ++ c ∷ []) text) as (λ _. Option (Cut Piece)) [
        | Some cut ↦ Some cut
        | None ↦ option_map (cut_at (begun ++ c ∷ []) text) (quick_piece (begun ++ c ∷ []) text)
      ]
      | false ↦ None
    ]

-- ---- tokens, one after another

pub record Found : Type 0 where
  pub tokens : List Lexeme
  pub rest : List Located

unfoldable pub take_tokens : ℕ → List Located → Option Found
take_tokens zero text = Some (record { tokens = []; rest = text })
take_tokens (suc k) [] = None
take_tokens (suc k) (c ∷ text) =
    elim (quick_scan [] (c ∷ text)) as (λ _. Option Found) [
      | None ↦ None
      | Some cut ↦ elim cut.what as (λ _. Option Found) [
        | Blank ↦ take_tokens k cut.rest
        | Token kind ↦ option_map (λ (f : Found). record { tokens = record { what = kind; at = c.at } ∷ f.tokens; rest = f.rest })
            (take_tokens k cut.rest)
        | OutOfRange p ↦ None
      ]
    ]

abbrev tokens_of : Option Found → List Lexeme
tokens_of None = []
tokens_of (Some f) = f.tokens

abbrev pub at : ℕ → ℕ → Kind → Lexeme
at l c kind = record { what = kind; at = record { line = l; column = c } }

abbrev pub plain : Text → Spelling
plain word = spelled None (codes word)

-- up to the declaration after that of truth values
abbrev pub prelude_tokens : List Lexeme
prelude_tokens =
    at 2 1 (Keyword keyword.Infixr) ∷ at 2 8 (Int (pos 9)) ∷ at 2 10 (VarOp (plain ".")) ∷ at 3 1 (Keyword keyword.Infixl) ∷
    at 3 8 (Int (pos 9)) ∷ at 3 10 (VarOp (plain "!!")) ∷ at 4 1 (Keyword keyword.Infixl) ∷ at 4 8 (Int (pos 7)) ∷
    at 4 10 (VarOp (plain "*")) ∷ at 4 11 (Mark mark.Comma) ∷ at 4 13 (Mark mark.Backquote) ∷ at 4 14 (VarId (plain "div")) ∷
    at 4 17 (Mark mark.Backquote) ∷ at 4 18 (Mark mark.Comma) ∷ at 4 20 (Mark mark.Backquote) ∷ at 4 21 (VarId (plain "mod")) ∷
    at 4 24 (Mark mark.Backquote) ∷ at 5 1 (Keyword keyword.Infixl) ∷ at 5 8 (Int (pos 6)) ∷ at 5 10 (VarOp (plain "+")) ∷
    at 5 11 (Mark mark.Comma) ∷ at 5 13 (VarOp (plain "-")) ∷ at 6 1 (Keyword keyword.Infixr) ∷ at 6 8 (Int (pos 5)) ∷
    at 6 10 (VarOp (plain "++")) ∷ at 7 1 (Keyword keyword.Infix) ∷ at 7 7 (Int (pos 4)) ∷ at 7 9 (VarOp (plain "==")) ∷
    at 7 11 (Mark mark.Comma) ∷ at 7 13 (VarOp (plain "/=")) ∷ at 7 15 (Mark mark.Comma) ∷ at 7 17 (VarOp (plain "<")) ∷
    at 7 18 (Mark mark.Comma) ∷ at 7 20 (VarOp (plain ">")) ∷ at 7 21 (Mark mark.Comma) ∷ at 7 23 (VarOp (plain "<=")) ∷
    at 7 25 (Mark mark.Comma) ∷ at 7 27 (VarOp (plain ">=")) ∷ at 7 29 (Mark mark.Comma) ∷ at 7 31 (VarOp (plain "=:=")) ∷
    at 7 34 (Mark mark.Comma) ∷ at 7 36 (Mark mark.Backquote) ∷ at 7 37 (VarId (plain "elem")) ∷ at 7 41 (Mark mark.Backquote) ∷
    at 7 42 (Mark mark.Comma) ∷ at 7 44 (Mark mark.Backquote) ∷ at 7 45 (VarId (plain "notElem")) ∷ at 7 52 (Mark mark.Backquote) ∷
    at 8 1 (Keyword keyword.Infixr) ∷ at 8 8 (Int (pos 3)) ∷ at 8 10 (VarOp (plain "&&")) ∷ at 9 1 (Keyword keyword.Infixr) ∷
    at 9 8 (Int (pos 2)) ∷ at 9 10 (VarOp (plain "||")) ∷ at 10 1 (Keyword keyword.Infixr) ∷ at 10 8 (Int (pos 0)) ∷
    at 10 10 (VarOp (plain "$")) ∷ at 10 11 (Mark mark.Comma) ∷ at 10 13 (VarOp (plain "&")) ∷ at 10 14 (Mark mark.Comma) ∷
    at 10 16 (VarOp (plain "&>")) ∷ at 10 18 (Mark mark.Comma) ∷ at 10 20 (VarOp (plain "?")) ∷ at 13 1 (Keyword keyword.Data) ∷
    at 13 6 (ConId (plain "Bool")) ∷ at 13 11 (Reserved reserved.Equals) ∷ at 13 13 (ConId (plain "False")) ∷ at 13 19 (Reserved reserved.Bar) ∷
    at 13 21 (ConId (plain "True")) ∷ at 15 1 (Keyword keyword.Data) ∷ []

first_tokens : tokens_of (take_tokens 123 (located (chars PRELUDE.now))) ≡ prelude_tokens
unfolding take_tokens quick_scan quick_piece chars located_from is_separator is_line_comment is_symbol is_nested_comment closes word_kind keyword_of
    is_name_character reserved_of mark_of name_kind is_var_id is_con_id is_operator qualified_parts piece decimal_number digits_value based_number
    is_module_name special_of short_escape numeric_escape item_of items_between longest_after cut_within
first_tokens = refl

-- ---- these are the tokens of the text

quick_piece_is : (prefix rest : List Located) → piece prefix rest ≡ quick_piece prefix rest
unfolding quick_piece piece
quick_piece_is prefix rest = by (blank (characters prefix)) (word (characters prefix) (characters rest))
  where
    by : (b w : Option Piece) → option_or b (option_or w (option_or (number (start prefix) (characters prefix) (characters rest))
        (option_or (option_and_then one_character (items_between (byte "'") prefix)) (option_map string (items_between (byte "\"") prefix)))))
        ≡ elim b as (λ _. Option Piece) [
          | Some x ↦ Some x
          | None ↦ elim w as (λ _. Option Piece) [
            | Some x ↦ Some x
            | None ↦ option_or b (option_or w (option_or (number (start prefix) (characters prefix) (characters rest))
                (option_or (option_and_then one_character (items_between (byte "'") prefix)) (option_map string (items_between (byte "\"") prefix)))))
          ]
        ]
    by (Some x) w = refl
    by None (Some x) = refl
    by None None = refl

quick_scan_is : (begun text : List Located) → scan_after begun text ≡ quick_scan begun text
unfolding quick_scan scan_after
quick_scan_is begun [] = refl
quick_scan_is begun (c ∷ text) =
    by (may_be_piece (characters (begun ++ c ∷ []))) (quick_scan (begun ++ c ∷ []) text) (quick_scan_is (begun ++ c ∷ []) text)
  where
    by : (b : Bool) (o : Option (Cut Piece)) → scan_after (begun ++ c ∷ []) text ≡ o
        → (if b then option_or (scan_after (begun ++ c ∷ []) text) (option_map (cut_at (begun ++ c ∷ []) text) (piece (begun ++ c ∷ []) text)) else
        None)
        ≡ elim b as (λ _. Option (Cut Piece)) [
          | true ↦ elim o as (λ _. Option (Cut Piece)) [
            | Some cut ↦ Some cut
            | None ↦ option_map (cut_at (begun ++ c ∷ []) text) (quick_piece (begun ++ c ∷ []) text)
          ]
          | false ↦ None
        ]
    by false o e = refl
    by true (Some cut) e = ap (λ r. option_or r (option_map (cut_at (begun ++ c ∷ []) text) (piece (begun ++ c ∷ []) text))) e
    by true None e = (λ j. option_or (e j) (option_map (cut_at (begun ++ c ∷ []) text) (quick_piece_is (begun ++ c ∷ []) text j)))

longest_is_quick : (text : List Located) → longest piece text ≡ quick_scan [] text
longest_is_quick text = scan_is [] text ∙ quick_scan_is [] text

abbrev LexedAs : ℕ → List Located → List Lexeme → Type 0
LexedAs m text ts = lexemes_of (cut_within piece m text).pieces (cut_within piece m text).left ≡ Ok ts

abbrev Begins : List Lexeme → List Lexeme → Type 0
Begins prefix whole = (later : List Lexeme) × (whole ≡ prefix ++ later)

abbrev ok_tokens : Result (List Lexeme) Fault → List Lexeme
ok_tokens (Ok ts) = ts
ok_tokens (Err fault) = []

-- one piece more
with_more : (kind : Kind) (p : Position) (r : Result (List Lexeme) Fault) (ts : List Lexeme) → with_lexeme (Token kind) p r ≡ Ok ts
    → (more : List Lexeme) × (r ≡ Ok more) × (ts ≡ record { what = kind; at = p } ∷ more)
with_more kind p (Ok more) ts e = (more, refl, ap ok_tokens (sym e))
with_more kind p (Err fault) ts e = absurd cc

some_of : (o : Option Found) (g : Lexeme) (f : Found) → option_map (λ (f : Found). record { tokens = g ∷ f.tokens; rest = f.rest }) o ≡ Some f
    → (inner : Found) × (o ≡ Some inner) × (f.tokens ≡ g ∷ inner.tokens)
some_of None g f e = absurd cc
some_of (Some inner) g f e = (inner, refl, ap tokens_of (sym e))

pub taken_begin : (k m : ℕ) (text : List Located) (f : Found) (ts : List Lexeme) → take_tokens k text ≡ Some f → LexedAs m text ts
    → Begins f.tokens ts
unfolding take_tokens cut_within
taken_begin zero m text f ts e lexed = (ts, ap (λ xs. xs ++ ts) (ap tokens_of e))
taken_begin (suc k) m [] f ts e lexed = absurd cc
taken_begin (suc k) zero (c ∷ text) f ts e lexed = absurd cc
taken_begin (suc k) (suc m) (c ∷ text) f ts e lexed =
    by (quick_scan [] (c ∷ text)) e
    (subst (λ (o : Option (Cut Piece)). lexemes_of (pieces_from (cut_within piece m) c text o).pieces
    (pieces_from (cut_within piece m) c text o).left ≡ Ok ts) (longest_is_quick (c ∷ text)) lexed)
    (λ rest g us. taken_begin k m rest g us)
  where
    by : (o : Option (Cut Piece))
        → (elim o as (λ _. Option Found) [
          | None ↦ None
          | Some cut ↦ elim cut.what as (λ _. Option Found) [
            | Blank ↦ take_tokens k cut.rest
            | Token kind ↦ option_map (λ (f : Found). record { tokens = record { what = kind; at = c.at } ∷ f.tokens; rest = f.rest })
                (take_tokens k cut.rest)
            | OutOfRange p ↦ None
          ]
        ]) ≡ Some f
        → lexemes_of (pieces_from (cut_within piece m) c text o).pieces (pieces_from (cut_within piece m) c text o).left ≡ Ok ts
        → ((rest : List Located) (g : Found) (us : List Lexeme) → take_tokens k rest ≡ Some g → LexedAs m rest us → Begins g.tokens us)
        → Begins f.tokens ts
    by None e lexed go = absurd cc
    by (Some cut) e lexed go = at cut.what e lexed
      where
        at : (what : Piece)
            → (elim what as (λ _. Option Found) [
              | Blank ↦ take_tokens k cut.rest
              | Token kind ↦ option_map (λ (f : Found). record { tokens = record { what = kind; at = c.at } ∷ f.tokens; rest = f.rest })
                  (take_tokens k cut.rest)
              | OutOfRange p ↦ None
            ]) ≡ Some f
            → with_lexeme what c.at (lexemes_of (cut_within piece m cut.rest).pieces (cut_within piece m cut.rest).left) ≡ Ok ts → Begins f.tokens ts
        at Blank e lexed = go cut.rest f ts e lexed
        at (OutOfRange p) e lexed = absurd cc
        at (Token kind) e lexed =
            let more = with_more kind c.at (lexemes_of (cut_within piece m cut.rest).pieces (cut_within piece m cut.rest).left) ts lexed in
            let inner = some_of (take_tokens k cut.rest) (record { what = kind; at = c.at }) f e in
            let later = go cut.rest inner.0 more.0 inner.1 more.1 in
            (later.0, more.2 ∙ ap (λ xs. record { what = kind; at = c.at } ∷ xs) later.1 ∙ ap (λ xs. xs ++ later.0) (sym inner.2))

-- the Prelude's tokens begin with those
pub prelude_begins : (found : List Lexeme) → tokens PRELUDE.now ≡ Ok found → Begins prelude_tokens found
unfolding tokens
prelude_begins found is = by (nat_lt max_text_bytes (length PRELUDE.now)) (is_utf8 PRELUDE.now) is
  where
    taken : (o : Option Found) → take_tokens 123 (located (chars PRELUDE.now)) ≡ o → tokens_of o ≡ prelude_tokens
        → LexedAs (length (located (chars PRELUDE.now))) (located (chars PRELUDE.now)) found → Begins prelude_tokens found
    taken None e same lexed = absurd cc
    taken (Some f) e same lexed =
        subst (λ (xs : List Lexeme). Begins xs found) same
        (taken_begin 123 (length (located (chars PRELUDE.now))) (located (chars PRELUDE.now)) f found e lexed)

    by : (big text : Bool)
        → (if big then Err SourceTooBig else if text then lexemes (located (chars PRELUDE.now)) else Err (NotUtf8 (fault_offset PRELUDE.now))) ≡ Ok
        found → Begins prelude_tokens found
    by true text is = absurd cc
    by false true is = taken (take_tokens 123 (located (chars PRELUDE.now))) refl first_tokens is
    by false false is = absurd cc
