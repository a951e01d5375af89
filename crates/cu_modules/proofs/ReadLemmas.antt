-- What a text is read as, or the fault that is told of it.
use Rattle.std.proofs.Common.{◌≡◌, ◌∙◌, ℕ, true, false, List, map, Ok, Err, Result, refl, sym, ap, subst}
use Rattle.std.proofs.lemmas.Option.{get_or_from_slice_get, slice_get_within, slice_get-map}
use Rattle.std.specs.List.{All}
use Rattle.std.specs.Option.{option_map}
use Rattle.std.specs.Prelude.{IfErr, IfOk}
use Rattle.std.specs.Result.{result_map_both}
use Rattle.cu_layout.proofs.LawLemmas.{owners-are, reads-alike}
use Rattle.cu_layout.specs.Blocks.{block}
use Rattle.cu_layout.specs.declared.fault.TooDeep as layout_fault
use Rattle.cu_layout.specs.declared.fault.TooDeep.TheVariants as deep
use Rattle.cu_layout.specs.Laws.{AreOf}
use Rattle.cu_layout.specs.Reading as layout
use Rattle.cu_layout.specs.Reading.{emitted_token, lexeme_view, token_view}
use Rattle.cu_lex.specs.declared.fault.LexFault.{LexFault}
use Rattle.cu_lex.specs.declared.fault.LexFault.TheVariants as lexer
use Rattle.cu_lex.specs.declared.token.Token.{Token}
use Rattle.cu_lex.specs.Reading as lex
use Rattle.cu_lex.specs.Reading.{IsTokenOf, lexeme_of, position_of}
use Rattle.cu_lex.specs.Tokens as tokens
use Rattle.cu_lex.specs.Tokens.{Lexeme}
use Rattle.cu_names.specs.declared.names.NameId.{NameId}
use Rattle.cu_names.specs.declared.place.Place.{Place}
use Rattle.cu_names.specs.Texts.{text_of}
use Rattle.cu_syntax.specs.Answer as syntax
use Rattle.cu_syntax.specs.Answer.{header_meaning, item_meaning, items_meaning, module_meaning}
use Rattle.cu_syntax.specs.declared.fault.ParseFault.{ParseFault}
use Rattle.cu_syntax.specs.declared.fault.ParseFault.TheVariants as parser
use Rattle.cu_syntax.specs.declared.text.Module.{Module}
use Rattle.cu_syntax.specs.Owners.{ModuleIsOf}
use Rattle.cu_syntax.specs.Parsing as parsing
use Rattle.cu_syntax.specs.Parsing.{ModuleRead, split}
use Rattle.cu_modules.specs.declared.fault.OrderFault.{OrderFault}
use Rattle.cu_modules.specs.declared.fault.OrderFault.TheVariants as answer
use Rattle.cu_modules.specs.Ordering.{Tells}
use Rattle.cu_modules.specs.Reading.{IsFaultOf, fault_of_layout, fault_of_syntax, fault_of_tokens}
use Rattle.cu_modules.specs.Texts.{HasLayout, HeaderName, IsRead, Syntax, TextFault, Tokens, TooDeep, allows, no_syntax, no_tokens, other_name, right, too_deep}
use Rattle.cu_modules.specs.Walk.{InText}

fault_in : (name text : List ℕ) (fault : TextFault) → IsRead name text (Err fault) → IsFaultOf name text (InText name fault)
fault_in name text fault read = record { fault = fault; refused = refl; read = read }

-- at a place of the module
fault_at : (names : List (List ℕ)) (id owner : NameId) (text : List ℕ) (fault : TextFault) → owner ≡ id → IsRead (text_of names id) text (Err fault)
    → IsFaultOf (text_of names id) text (InText (text_of names owner) fault)
fault_at names id owner text fault same read = record { fault = fault; refused = ap (λ i. InText (text_of names i) fault) same; read = read }

tokens_by : (names : List (List ℕ)) (id : NameId) (text : List ℕ) (fault : LexFault) → lex.Tells id fault (tokens.tokens text)
    → Tells names (IsFaultOf (text_of names id) text) (fault_of_tokens id fault)
tokens_by names id text lexer.SourceTooBig told = fault_in (text_of names id) text (Tokens tokens.Fault.SourceTooBig) (no_tokens tokens.Fault.SourceTooBig told)
tokens_by names id text (lexer.NotUtf8 offset) told = fault_in (text_of names id) text (Tokens (tokens.Fault.NotUtf8 offset)) (no_tokens (tokens.Fault.NotUtf8 offset) told)
tokens_by names id text (lexer.BadToken place) told =
    fault_at names id place.«module» text (Tokens (tokens.Fault.BadToken (position_of place))) told.0 (no_tokens (tokens.Fault.BadToken (position_of place)) told.1)
tokens_by names id text (lexer.LiteralRange place) told =
    fault_at names id place.«module» text (Tokens (tokens.Fault.LiteralRange (position_of place))) told.0 (no_tokens (tokens.Fault.LiteralRange (position_of place)) told.1)
tokens_by names id text lexer.NoMemory told = tt

pub tokens_told : (names : List (List ℕ)) (id : NameId) (text : List ℕ) (fault : LexFault) (result : OrderFault) → result ≡ fault_of_tokens id fault → lex.Tells id fault (tokens.tokens text)
    → Tells names (IsFaultOf (text_of names id) text) result
tokens_told names id text fault result is told = subst (Tells names (IsFaultOf (text_of names id) text)) (sym is) (tokens_by names id text fault told)

-- what layout gives of the tokens of the text
laid_out : (names : List (List ℕ)) (found laid : List Token) → block token_view true found ≡ Ok laid → block lexeme_view true (map (lexeme_of names) found) ≡ Ok (map (lexeme_of names) laid)
laid_out names found laid is = reads-alike names true found ∙ ap (result_map_both (map (lexeme_of names)) (λ number. number)) is

overflown : (names : List (List ℕ)) (found : List Token) (number : ℕ) → block token_view true found ≡ Err number → block lexeme_view true (map (lexeme_of names) found) ≡ Err number
overflown names found number is = reads-alike names true found ∙ ap (result_map_both (map (lexeme_of names)) (λ number. number)) is

layout_by : (names : List (List ℕ)) (id : NameId) (text : List ℕ) (found : List Token) (fault : layout_fault.TooDeep) → lex.Gives names found (tokens.tokens text) → All (IsTokenOf id names) found
    → layout.Tells true found fault → Tells names (IsFaultOf (text_of names id) text) (fault_of_layout fault)
layout_by names id text found (deep.At place) has owned told =
    let within = slice_get_within found told.number told.t told.stands in
    let own : told.t.place.«module» ≡ id = subst (λ (t : Token). t.place.«module» ≡ id) (get_or_from_slice_get found told.number told.t told.t told.stands) (owned told.number told.t within).owned in
    let there = slice_get-map (lexeme_of names) found told.number ∙ ap (option_map (lexeme_of names)) told.stands in
    let at_token : IsRead (text_of names id) text (Err (TooDeep (position_of told.t.place))) = too_deep (map (lexeme_of names) found) told.number (lexeme_of names told.t) has (overflown names found told.number told.overflows) there in
    subst (λ (p : Place). IsFaultOf (text_of names id) text (InText (text_of names p.«module») (TooDeep (position_of p)))) (sym told.told) (fault_at names id told.t.place.«module» text (TooDeep (position_of told.t.place)) own at_token)
layout_by names id text found deep.NoMemory has owned told = tt

pub layout_told : (names : List (List ℕ)) (id : NameId) (text : List ℕ) (found : List Token) (fault : layout_fault.TooDeep) (result : OrderFault) → result ≡ fault_of_layout fault
    → lex.Gives names found (tokens.tokens text) → All (IsTokenOf id names) found → layout.Tells true found fault → Tells names (IsFaultOf (text_of names id) text) result
layout_told names id text found fault result is has owned told =
    subst (Tells names (IsFaultOf (text_of names id) text)) (sym is) (layout_by names id text found fault has owned told)

pub same_laid : (found laid other : List Token) → other ≡ laid → block token_view true found ≡ Ok laid → block token_view true found ≡ Ok other
same_laid found laid other same is = subst (λ (laid : List Token). block token_view true found ≡ Ok laid) (sym same) is

pub with_layout : (names : List (List ℕ)) (text : List ℕ) (found laid : List Token) → lex.Gives names found (tokens.tokens text) → block token_view true found ≡ Ok laid
    → HasLayout text (map (lexeme_of names) laid)
with_layout names text found laid has is = record { found = map (lexeme_of names) found; has_tokens = has; has_layout = laid_out names found laid is }

syntax_by : (names : List (List ℕ)) (id : NameId) (text : List ℕ) (laid : List Lexeme) (fault : ParseFault) → HasLayout text laid
    → syntax.Tells (λ fault. ModuleRead laid (Err fault)) fault → Tells names (IsFaultOf (text_of names id) text) (fault_of_syntax id fault)
syntax_by names id text laid (parser.Syntax line) has told = fault_in (text_of names id) text (Syntax (parsing.Syntax line)) (no_syntax laid (parsing.Syntax line) has told)
syntax_by names id text laid (parser.TooLong line) has told = fault_in (text_of names id) text (Syntax (parsing.TooLong line)) (no_syntax laid (parsing.TooLong line) has told)
syntax_by names id text laid parser.NoMemory has told = tt

pub syntax_told : (names : List (List ℕ)) (id : NameId) (text : List ℕ) (laid : List Lexeme) (fault : ParseFault) (result : OrderFault) → result ≡ fault_of_syntax id fault → HasLayout text laid
    → syntax.Tells (λ fault. ModuleRead laid (Err fault)) fault → Tells names (IsFaultOf (text_of names id) text) result
syntax_told names id text laid fault result is has told = subst (Tells names (IsFaultOf (text_of names id) text)) (sym is) (syntax_by names id text laid fault has told)

-- a module of the name that its header has, or of any name
pub name_is_right : (names : List (List ℕ)) (id : NameId) (text : List ℕ) (laid : List Lexeme) (parsed : Module) (result : Result Module OrderFault) → HasLayout text laid
    → ModuleRead laid (Ok (module_meaning names parsed)) → IfOk result (λ found. (found ≡ parsed) × (allows (module_meaning names parsed).header (text_of names id) ≡ true))
    → IfOk result (λ found. IsRead (text_of names id) text (Ok (module_meaning names found)))
name_is_right names id text laid parsed (Ok found) has read h =
    subst (λ (m : Module). IsRead (text_of names id) text (Ok (module_meaning names m))) (sym h.0) (right laid (module_meaning names parsed) has read h.1)
name_is_right names id text laid parsed (Err fault) has read h = tt

pub name_is_wrong : (names : List (List ℕ)) (id : NameId) (text : List ℕ) (laid : List Lexeme) (parsed : Module) (result : Result Module OrderFault) → HasLayout text laid
    → ModuleRead laid (Ok (module_meaning names parsed)) → IfErr result (λ fault. (fault ≡ answer.HeaderName id) × (allows (module_meaning names parsed).header (text_of names id) ≡ false))
    → IfErr result (Tells names (IsFaultOf (text_of names id) text))
name_is_wrong names id text laid parsed (Ok found) has read h = tt
name_is_wrong names id text laid parsed (Err fault) has read h =
    subst (Tells names (IsFaultOf (text_of names id) text)) (sym h.0) (fault_in (text_of names id) text HeaderName (other_name laid (module_meaning names parsed) has read h.1))

pub same_owner : (names : List (List ℕ)) (id : NameId) (parsed : Module) (result : Result Module OrderFault)
    → IfOk result (λ found. (found ≡ parsed) × (allows (module_meaning names parsed).header (text_of names id) ≡ true)) → ModuleIsOf id names parsed → IfOk result (ModuleIsOf id names)
same_owner names id parsed (Ok found) h owned = subst (ModuleIsOf id names) (sym h.0) owned
same_owner names id parsed (Err fault) h owned = tt

-- ---- the module of its tokens

pub module_owned : (id : NameId) (names : List (List ℕ)) (found laid : List Token) (m : Module) → All (IsTokenOf id names) found → block token_view true found ≡ Ok laid
    → (AreOf id names laid → ModuleIsOf id names m) → ModuleIsOf id names m
module_owned id names found laid m owned is given = given (owners-are id names true found laid owned is)
