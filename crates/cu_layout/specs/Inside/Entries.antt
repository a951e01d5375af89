-- What the entries of the code's stack stand for.
use Rattle.std.specs.Prelude.{◌≡◌, ℕ, ◌+◌, Bool, true, false, not, ◌==◌, nat_le, List, [], ◌∷◌, ◌++◌, length, map, fold, take, reverse, replicate, Option, None, Some, Result, Ok, Err, if◌then◌else◌}
use Rattle.std.specs.Option.{option_map}
use Rattle.std.specs.Result.{result_map_both}
use Rattle.cu_names.specs.declared.place.Place.{Place}
use Rattle.cu_lex.specs.declared.token.LayoutMark.{LayoutMark}
use Rattle.cu_lex.specs.declared.token.LayoutMark.TheVariants as layout
use Rattle.cu_lex.specs.declared.token.Mark.TheVariants as mark
use Rattle.cu_lex.specs.declared.token.Token.{Token}
use Rattle.cu_lex.specs.declared.token.TokenKind.TheVariants as token
use Rattle.cu_lex.specs.Reading.{position_of}
use Rattle.cu_layout.specs.declared.begun.Begun.{Begun}
use Rattle.cu_layout.specs.declared.begun.Begun.TheVariants as begun
use Rattle.cu_layout.specs.declared.fault.TooDeep.{TooDeep}
use Rattle.cu_layout.specs.declared.fault.TooDeep.TheVariants.{At, NoMemory}
use Rattle.cu_layout.specs.declared.form.Form.{Form}
use Rattle.cu_layout.specs.declared.form.Form.TheVariants as form
use Rattle.cu_layout.specs.declared.stack.Cut.{Cut}
use Rattle.cu_layout.specs.declared.stack.Entry.{Entry as Standing}
use Rattle.cu_layout.specs.declared.stack.Entry.TheVariants as standing
use Rattle.cu_layout.specs.declared.stack.Line.{Line}
use Rattle.cu_layout.specs.Blocks.{interleaving, last_of, marks_from}
use Rattle.cu_layout.specs.Forms.{Sight, is_semicolon, token_sight}
use Rattle.cu_layout.specs.Reading.{emitted_token}
use Rattle.cu_layout.specs.Rules.{Entry, Step, Stack, layout_step, marks_then, most_entries}
use Rattle.cu_layout.specs.Rules.Entry.{Block, Brace, Open}

-- ---- how a block has begun

-- How a block has begun after one more token, which is no semicolon.
abbrev pub next_state : Begun → Form → Begun
next_state begun.Names form.Name = begun.Names
next_state begun.Names (form.Mark mark.Comma) = begun.Names
next_state begun.Names (form.Mark mark.OpenParen) = begun.Paren
next_state begun.Paren form.Operator = begun.Operator
next_state begun.Paren (form.Mark mark.Backquote) = begun.Quote
next_state begun.Quote form.Name = begun.Quoted
next_state begun.Quoted (form.Mark mark.Backquote) = begun.Operator
next_state begun.Operator (form.Mark mark.CloseParen) = begun.Names
next_state _ _ = begun.Other

-- How a block has begun after any token: a semicolon begins its tokens anew.
abbrev pub state_with : Begun → Form → Begun
state_with state what = if is_semicolon what then begun.Names else next_state state what

-- How a block of these tokens has begun.
abbrev pub begun_of : List Form → Begun
begun_of tokens = fold next_state begun.Names tokens

-- Whether a block has names, operators in parentheses and commas alone.
abbrev pub is_names : Begun → Bool
is_names begun.Names = true
is_names _ = false

-- The shortest tokens with which a block begins in this way.
abbrev pub sample : Begun → List Form
sample begun.Names = []
sample begun.Paren = form.Mark mark.OpenParen ∷ []
sample begun.Operator = form.Mark mark.OpenParen ∷ form.Operator ∷ []
sample begun.Quote = form.Mark mark.OpenParen ∷ form.Mark mark.Backquote ∷ []
sample begun.Quoted = form.Mark mark.OpenParen ∷ form.Mark mark.Backquote ∷ form.Name ∷ []
sample begun.Other = form.Other ∷ []

-- ---- the stack

abbrev pub entry_of : Standing → Entry
entry_of (standing.Block column state) = Block column (sample state)
entry_of standing.Brace = Brace
entry_of (standing.Open opening) = Open opening

-- The stack of the definitions that the code's stands for. The code keeps the innermost entry at
-- the end.
abbrev pub stack_of : List Standing → Stack
stack_of entries = map entry_of (reverse entries)

-- An entry with the shortest tokens in place of those with which its block has begun.
abbrev pub plain : Entry → Entry
plain (Block column tokens) = Block column (sample (begun_of tokens))
plain Brace = Brace
plain (Open opening) = Open opening

-- A stack with the shortest tokens in place of those with which its blocks have begun. The rules do
-- the same to both.
abbrev pub plain_stack : Stack → Stack
plain_stack = map plain

-- What a cut leaves: a Close for each block that is closed, and the entries that are kept.
abbrev pub cut_to : List Standing → Cut → Step
cut_to entries cut =
    record { marks = replicate cut.closed layout.Close; stack = stack_of (take cut.kept entries) }

-- What layout sees of a token of this form at a place.
abbrev pub sight_at : Form → Place → Sight
sight_at what place = record { what = what; at = position_of place }

-- ---- marks

-- The token of a mark at a place.
abbrev pub mark_at : Place → LayoutMark → Token
mark_at place mark = record { kind = token.Layout mark; place = place }

-- Tokens with marks after them, at a place.
abbrev pub with_marks_at : Place → List LayoutMark → List Token → List Token
with_marks_at place marks laid = laid ++ map (mark_at place) marks

-- What a walk down the stack comes to, with a Close for each block that it has passed.
abbrev pub after_closes : ℕ → Option Step → Option Step
after_closes closed found = option_map (marks_then (replicate closed layout.Close)) found

-- What a line's first token leaves: after a cut it may begin an item of a block of its column,
-- whose tokens begin anew.
abbrev pub line_step : List Standing → ℕ → Line → Step
line_step entries column line =
    let cut = cut_to entries line.cut in
    if line.item then record {
      marks = cut.marks ++ layout.Separator ∷ [];
      stack = Block column [] ∷ cut.stack;
    } else cut

-- The column of a block, 0 where there is none.
abbrev pub column_of : Option (ℕ × Begun) → ℕ
column_of None = 0
column_of (Some block) = block.0

-- How a block has begun. Where there is none it has no tokens.
abbrev pub state_of : Option (ℕ × Begun) → Begun
state_of None = begun.Names
state_of (Some block) = block.1

-- ---- what the functions of one rule do

-- What one rule did: the tokens laid out so far have its marks after them, and the stack is the one
-- that it leaves.
pub record Lays (place : Place) (laid laid' : List Token) (stack' : List Standing)
    (step : Step) : Type 0 where
  pub tokens : laid' ≡ with_marks_at place step.marks laid
  pub stack : stack_of stack' ≡ step.stack

-- What all rules at a token did: the tokens laid out so far have their marks after them, and the
-- stack is the one that they leave, with the shortest tokens in place of those of its blocks.
pub record LaysOut (due first : Bool) (what : Form) (place : Place) (laid laid' : List Token)
    (stack stack' : List Standing) : Type 0 where
  pub step : Step
  pub given : layout_step due first (sight_at what place) (stack_of stack) ≡ Some step
  pub tokens : laid' ≡ with_marks_at place step.marks laid
  pub stands : stack_of stack' ≡ plain_stack step.stack

-- The rules lead to an entry too many at a token, and the fault tells its place. An allocation
-- failure says nothing.
abbrev pub IsBeyond : Bool → Bool → Form → Place → List Standing → TooDeep → Type 0
IsBeyond due first what place stack (At told) =
    (told ≡ place) × (layout_step due first (sight_at what place) (stack_of stack) ≡ None)
IsBeyond due first what place stack NoMemory = Unit {0}

-- A stack was tested rightly: it is within the limit, or it isn't and the fault tells the place.
abbrev pub IsWithin : Place → Stack → Result (Unit {0}) TooDeep → Type 0
IsWithin place stack (Ok done) = nat_le (length stack) most_entries ≡ true
IsWithin place stack (Err fault) = (fault ≡ At place) × (nat_le (length stack) most_entries ≡ false)

-- ---- places

-- What layout sees of tokens.
abbrev pub token_sights : List Token → List Sight
token_sights tokens = map token_sight tokens

-- Whether a token begins its line: there is no token before it, or that one stands on another line.
abbrev pub begins_line_at : Option Place → Place → Bool
begins_line_at None place = true
begins_line_at (Some last) place = not (last.line == place.line)

-- The place of the last token, or one that names no token where there is none.
abbrev pub start_or : Option Place → Place
start_or None = record { «module» = record { 0 = 0 }; line = 1; column = 1 }
start_or (Some place) = place

-- ---- from a token on

-- The tokens from here on with what the layout rules put in, given the token before, the stack and
-- whether a block is due; or the number of the token at which the stack comes to an entry too many.
abbrev pub block_from : Option Token → Stack → Bool → List Token → Result (List Token) ℕ
block_from before stack due tokens =
    result_map_both (λ marks. interleaving emitted_token tokens marks.before
    ++ map (emitted_token (last_of before tokens)) marks.after) (λ number. number)
    (marks_from stack due (option_map (λ t. t.place.line) before) (token_sights tokens))

-- The tokens that are laid out, and then those of the rest, before which so many tokens of the text
-- stand.
abbrev pub laid_then : List Token → ℕ → Result (List Token) ℕ → Result (List Token) ℕ
laid_then laid count more =
    result_map_both (λ tokens. laid ++ tokens) (λ number. count + number) more
