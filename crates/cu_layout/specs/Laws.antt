-- Laws of the layout rules.
use Rattle.std.specs.Prelude.{◌≡◌, ℕ, Bool, true, List, [], map, filter, All, Ok}
use Rattle.std.specs.Result.{result_map_both}
use Rattle.cu_names.specs.declared.names.NameId.{NameId}
use Rattle.cu_lex.specs.declared.token.Token.{Token}
use Rattle.cu_lex.specs.Reading.{is_written, lexeme_of, HasKind, HasNatural, IsTokenOf}
use Rattle.cu_layout.specs.Blocks.{block}
use Rattle.cu_layout.specs.Reading.{lexeme_view, token_view}

-- The tokens that stand in the text itself.
abbrev pub without_layout : List Token → List Token
without_layout tokens = filter (λ t. is_written t.kind) tokens

-- The tokens laid out, without what the layout rules put in, are the tokens of the text.
abbrev pub KeepsTokens : Type 0
KeepsTokens = (whole : Bool) (text laid : List Token) → block token_view whole text ≡ Ok laid
    → without_layout laid ≡ without_layout text

-- Where the rules had put in nothing before, the tokens laid out are the text again when what the
-- rules put in is left out.
abbrev pub RestoresText : Type 0
RestoresText = (whole : Bool) (text laid : List Token) → All (λ t. is_written t.kind ≡ true) text
    → block token_view whole text ≡ Ok laid → without_layout laid ≡ text

-- Layout doesn't depend on what names stand for: to read the tokens in a table of names and then
-- lay them out is to lay them out and then read them.
abbrev pub ReadsAlike : Type 0
ReadsAlike = (names : List (List ℕ)) (whole : Bool) (text : List Token)
    → block lexeme_view whole (map (lexeme_of names) text)
    ≡ result_map_both (map (lexeme_of names)) (λ number. number) (block token_view whole text)

-- A table that has the names of the text has those of the tokens laid out.
abbrev pub KeepsNames : Type 0
KeepsNames = (names : List (List ℕ)) (whole : Bool) (text laid : List Token)
    → All (λ t. HasKind names t.kind) text → block token_view whole text ≡ Ok laid
    → All (λ t. HasKind names t.kind) laid

-- Where no number of the text is negative, none of the tokens laid out is.
abbrev pub KeepsNaturals : Type 0
KeepsNaturals = (whole : Bool) (text laid : List Token) → All (λ t. HasNatural t.kind) text
    → block token_view whole text ≡ Ok laid → All (λ t. HasNatural t.kind) laid

-- All tokens are of a module, those too that layout put in. In a text without tokens layout puts in
-- all of them, and nothing is said.
abbrev pub AreOf : NameId → List (List ℕ) → List Token → Type 0
AreOf owner names tokens = ¬ (without_layout tokens ≡ []) → All (IsTokenOf owner names) tokens

-- Where all tokens of a text are of a module, so are the tokens laid out.
abbrev pub KeepsOwners : Type 0
KeepsOwners =
    (owner : NameId) (names : List (List ℕ)) (whole : Bool) (text laid : List Token)
    → All (IsTokenOf owner names) text → block token_view whole text ≡ Ok laid
    → AreOf owner names laid
