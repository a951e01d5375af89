-- What a goal's text is read as, or the fault that is told of it.
use Rattle.std.proofs.Common.{◌≡◌, ◌∙◌, ℕ, false, List, [], ◌∷◌, map, Ok, Err, Result, refl, sym, ap, subst}
use Rattle.std.proofs.lemmas.Option.{get_or_from_slice_get, slice_get_within, slice_get-map}
use Rattle.std.specs.List.{All}
use Rattle.std.specs.Option.{option_map}
use Rattle.std.specs.Result.{result_map_both}
use Rattle.cu_layout.proofs.LawLemmas.{owners-kept, reads-alike}
use Rattle.cu_layout.specs.Blocks.{block, marks_from}
use Rattle.cu_layout.specs.declared.fault.TooDeep as layout_fault
use Rattle.cu_layout.specs.declared.fault.TooDeep.TheVariants as deep
use Rattle.cu_layout.specs.Reading as layout
use Rattle.cu_layout.specs.Reading.{lexeme_view, token_view}
use Rattle.cu_lex.specs.declared.fault.LexFault.{LexFault}
use Rattle.cu_lex.specs.declared.fault.LexFault.TheVariants as lexer
use Rattle.cu_lex.specs.declared.token.Token.{Token}
use Rattle.cu_lex.specs.Reading as lex
use Rattle.cu_lex.specs.Reading.{IsTokenOf, lexeme_of, position_of}
use Rattle.cu_lex.specs.Tokens as tokens
use Rattle.cu_lex.specs.Tokens.{Lexeme}
use Rattle.cu_names.specs.declared.names.NameId.{NameId}
use Rattle.cu_names.specs.Texts.{IsKnown, text_of}
use Rattle.cu_syntax.specs.Answer as syntax
use Rattle.cu_syntax.specs.Answer.{goal_meaning}
use Rattle.cu_syntax.specs.declared.fault.ParseFault.{ParseFault}
use Rattle.cu_syntax.specs.declared.fault.ParseFault.TheVariants as parser
use Rattle.cu_syntax.specs.declared.text.GoalText.{GoalText}
use Rattle.cu_syntax.specs.Owners.{GoalIsOf}
use Rattle.cu_syntax.specs.Parsing as parsing
use Rattle.cu_syntax.specs.Parsing.{GoalRead}
use Rattle.cu_modules.specs.Texts.{Syntax, TextFault, Tokens, TooDeep}
use Rattle.cu_modules.specs.Walk.{InText}
use Rattle.cu_front.specs.GoalTexts.{GoalIsRead, no_tokens, read, too_deep}
use Rattle.cu_front.specs.Refusal.{Walked}
use Rattle.cu_front.specs.Inside.StageFaults.{IsUnread, Tells, fault_of_layout, fault_of_syntax, fault_of_tokens}
use Rattle.cu_front.specs.declared.fault.StageFault.{StageFault}

fault_in : (name text : List ℕ) (fault : TextFault) → GoalIsRead text (Err fault)
    → IsUnread name text (Walked (InText name fault))
fault_in name text fault is = record { fault = fault; refused = refl; read = is }

-- at a place of the goal
fault_at : (names : List (List ℕ)) (id owner : NameId) (text : List ℕ) (fault : TextFault)
    → owner ≡ id → GoalIsRead text (Err fault)
    → IsUnread (text_of names id) text (Walked (InText (text_of names owner) fault))
fault_at names id owner text fault same is =
    record { fault = fault; refused = ap (λ i. Walked (InText (text_of names i) fault)) same; read = is }

known_at : (names : List (List ℕ)) (id owner : NameId) → owner ≡ id → IsKnown names id
    → IsKnown names owner
known_at names id owner same known = subst (IsKnown names) (sym same) known

tokens_by : (names : List (List ℕ)) (id : NameId) (text : List ℕ) (fault : LexFault)
    → IsKnown names id → lex.Tells id fault (tokens.tokens text)
    → Tells names (IsUnread (text_of names id) text) (fault_of_tokens id fault)
tokens_by names id text lexer.SourceTooBig known told = (
  fault_in (text_of names id) text (Tokens tokens.Fault.SourceTooBig)
      (no_tokens tokens.Fault.SourceTooBig told),
  known,
)
tokens_by names id text (lexer.NotUtf8 offset) known told = (
  fault_in (text_of names id) text (Tokens (tokens.Fault.NotUtf8 offset))
      (no_tokens (tokens.Fault.NotUtf8 offset) told),
  known,
)
tokens_by names id text (lexer.BadToken place) known told =
    let fault = tokens.Fault.BadToken (position_of place) in (
      fault_at names id place.«module» text (Tokens fault) told.0 (no_tokens fault told.1),
      known_at names id place.«module» told.0 known,
    )
tokens_by names id text (lexer.LiteralRange place) known told =
    let fault = tokens.Fault.LiteralRange (position_of place) in (
      fault_at names id place.«module» text (Tokens fault) told.0 (no_tokens fault told.1),
      known_at names id place.«module» told.0 known,
    )
tokens_by names id text lexer.NoMemory known told = tt

pub tokens_told : (names : List (List ℕ)) (id : NameId) (text : List ℕ) (fault : LexFault)
    (result : StageFault) → result ≡ fault_of_tokens id fault → IsKnown names id
    → lex.Tells id fault (tokens.tokens text)
    → Tells names (IsUnread (text_of names id) text) result
tokens_told names id text fault result is known told =
    subst (Tells names (IsUnread (text_of names id) text)) (sym is) (tokens_by names id text fault known told)

-- ---- layout

laid_out : (names : List (List ℕ)) (found laid : List Token) → block token_view false found ≡ Ok laid
    → block lexeme_view false (map (lexeme_of names) found) ≡ Ok (map (lexeme_of names) laid)
laid_out names found laid is =
    reads-alike names false found ∙ ap (result_map_both (map (lexeme_of names)) (λ number. number)) is

overflown : (names : List (List ℕ)) (found : List Token) (number : ℕ)
    → block token_view false found ≡ Err number
    → block lexeme_view false (map (lexeme_of names) found) ≡ Err number
overflown names found number is =
    reads-alike names false found ∙ ap (result_map_both (map (lexeme_of names)) (λ number. number)) is

layout_by : (names : List (List ℕ)) (id : NameId) (text : List ℕ) (found : List Token)
    (fault : layout_fault.TooDeep) → IsKnown names id → lex.Gives names found (tokens.tokens text)
    → All (IsTokenOf id names) found → layout.Tells false found fault
    → Tells names (IsUnread (text_of names id) text) (fault_of_layout fault)
layout_by names id text found (deep.At place) known has owned told =
    let within = slice_get_within found told.number told.t told.stands in
    let own : told.t.place.«module» ≡ id =
    subst (λ (t : Token). t.place.«module» ≡ id)
    (get_or_from_slice_get found told.number told.t told.t told.stands)
    (owned told.number told.t within).owned in
    let same : place.«module» ≡ id = ap (λ p. p.«module») told.told ∙ own in
    let there = slice_get-map (lexeme_of names) found told.number ∙ ap (option_map (lexeme_of names)) told.stands in
    let at_token : GoalIsRead text (Err (TooDeep (position_of told.t.place))) =
    too_deep (map (lexeme_of names) found) told.number (lexeme_of names told.t) has
    (overflown names found told.number told.overflows) there in
    let at_place : GoalIsRead text (Err (TooDeep (position_of place))) =
    subst (λ p. GoalIsRead text (Err (TooDeep (position_of p)))) (sym told.told) at_token in (
      fault_at names id place.«module» text (TooDeep (position_of place)) same at_place,
      known_at names id place.«module» same known,
    )
layout_by names id text found deep.NoMemory known has owned told = tt

pub layout_told : (names : List (List ℕ)) (id : NameId) (text : List ℕ) (found : List Token)
    (fault : layout_fault.TooDeep) (result : StageFault) → result ≡ fault_of_layout fault
    → IsKnown names id → lex.Gives names found (tokens.tokens text)
    → All (IsTokenOf id names) found → layout.Tells false found fault
    → Tells names (IsUnread (text_of names id) text) result
layout_told names id text found fault result is known has owned told =
    subst (Tells names (IsUnread (text_of names id) text)) (sym is)
    (layout_by names id text found fault known has owned told)

pub same_laid : (found laid other : List Token) → other ≡ laid → block token_view false found ≡ Ok laid
    → block token_view false found ≡ Ok other
same_laid found laid other same is =
    subst (λ (laid : List Token). block token_view false found ≡ Ok laid) (sym same) is

-- ---- syntax

pub goal_read : (names : List (List ℕ)) (text : List ℕ) (found laid : List Token) (goal : GoalText)
    → lex.Gives names found (tokens.tokens text) → block token_view false found ≡ Ok laid
    → GoalRead (map (lexeme_of names) laid) (Ok (goal_meaning names goal))
    → GoalIsRead text (Ok (goal_meaning names goal))
goal_read names text found laid goal has is parsed =
    read (map (lexeme_of names) found) (map (lexeme_of names) laid) (Ok (goal_meaning names goal)) has
    (laid_out names found laid is) parsed

syntax_by : (names : List (List ℕ)) (id : NameId) (text : List ℕ) (found laid : List Token)
    (fault : ParseFault) → IsKnown names id → lex.Gives names found (tokens.tokens text)
    → block token_view false found ≡ Ok laid
    → syntax.Tells (λ fault. GoalRead (map (lexeme_of names) laid) (Err fault)) fault
    → Tells names (IsUnread (text_of names id) text) (fault_of_syntax id fault)
syntax_by names id text found laid (parser.Syntax line) known has is told = (
  fault_in (text_of names id) text (Syntax (parsing.Syntax line))
      (read (map (lexeme_of names) found) (map (lexeme_of names) laid) (Err (parsing.Syntax line)) has
      (laid_out names found laid is) told),
  known,
)
syntax_by names id text found laid (parser.TooLong line) known has is told = (
  fault_in (text_of names id) text (Syntax (parsing.TooLong line))
      (read (map (lexeme_of names) found) (map (lexeme_of names) laid) (Err (parsing.TooLong line)) has
      (laid_out names found laid is) told),
  known,
)
syntax_by names id text found laid parser.NoMemory known has is told = tt

pub syntax_told : (names : List (List ℕ)) (id : NameId) (text : List ℕ) (found laid : List Token)
    (fault : ParseFault) (result : StageFault) → result ≡ fault_of_syntax id fault
    → IsKnown names id → lex.Gives names found (tokens.tokens text)
    → block token_view false found ≡ Ok laid
    → syntax.Tells (λ fault. GoalRead (map (lexeme_of names) laid) (Err fault)) fault
    → Tells names (IsUnread (text_of names id) text) result
syntax_told names id text found laid fault result is known has laid_is told =
    subst (Tells names (IsUnread (text_of names id) text)) (sym is)
    (syntax_by names id text found laid fault known has laid_is told)

-- ---- the goal of its tokens

abbrev items_of : Result (List Token) ℕ → List Token
items_of (Ok laid) = laid
items_of (Err number) = []

-- without tokens there are none in the layout of a goal
laid_of_none : (laid : List Token) → block token_view false [] ≡ Ok laid → [] ≡ laid
unfolding marks_from
laid_of_none laid is = ap items_of is

pub goal_owned : (id : NameId) (names : List (List ℕ)) (found laid : List Token) (goal : GoalText)
    → All (IsTokenOf id names) found → block token_view false found ≡ Ok laid
    → (All (IsTokenOf id names) laid → GoalIsOf id names goal) → GoalIsOf id names goal
goal_owned id names [] laid goal owned is given =
    given (subst (All (IsTokenOf id names)) (laid_of_none laid is) owned)
goal_owned id names (t ∷ more) laid goal owned is given =
    given (owners-kept id names false (t ∷ more) laid (λ e. let no : ⊥ = cc in no) owned is)
