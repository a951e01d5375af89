-- The layout rules: what they put before a token, and what they do to the stack of what stands open
-- (after the Curry Report, appendix on syntax, section on layout). Rule 1 rests on rule 2, which
-- therefore comes first; the others stand in the order of their numbers.
use Rattle.std.specs.Prelude.{ℕ, Bool, true, false, not, ◌&&◌, ◌||◌, ◌==◌, nat_lt, nat_le, List, [], ◌∷◌, ◌++◌, length, drop, Option, None, Some, if◌then◌else◌}
use Rattle.std.specs.Option.{option_and_then, option_map}
use Rattle.cu_lex.specs.declared.token.Keyword.TheVariants as keyword
use Rattle.cu_lex.specs.declared.token.LayoutMark.{LayoutMark}
use Rattle.cu_lex.specs.declared.token.LayoutMark.TheVariants as layout
use Rattle.cu_lex.specs.declared.token.Mark.TheVariants as mark
use Rattle.cu_layout.specs.declared.form.Form.{Form}
use Rattle.cu_layout.specs.declared.form.Form.TheVariants as form
use Rattle.cu_layout.specs.declared.form.Opening.{Opening}
use Rattle.cu_layout.specs.declared.form.Opening.TheVariants.{Paren, Square, Let, If, Then, Else, Case, In, Lambda}
use Rattle.cu_layout.specs.Forms.{Sight, is_where, is_open_brace, is_close_brace, is_comma, is_semicolon, goes_on, only_names}

-- What stands open: a block that layout opened, with its column and the forms of its tokens since
-- it opened or since its last `;`; a brace of the text; or a bracket or a keyword.
pub data Entry : Type 0 where
  Block : ℕ → List Form → Entry
  Brace : Entry
  Open : Opening → Entry

-- The stack of what stands open, the innermost first.
abbrev pub Stack : Type 0
Stack = List Entry

-- What a rule does at a token: the marks that it puts in before it, and the stack that it leaves.
pub record Step : Type 0 where
  pub marks : List LayoutMark
  pub stack : Stack

-- The step of a rule that puts in no marks, and leaves this stack.
abbrev pub no_marks : Stack → Step
no_marks stack = record { marks = []; stack = stack }

-- A step with these marks before its own.
abbrev pub marks_then : List LayoutMark → Step → Step
marks_then marks step = record { marks = marks ++ step.marks; stack = step.stack }

-- ---- rule 2: the first token of a line

-- A token that stands left of the innermost block, or a `where` on its column, closes the block,
-- and is compared with the next block. Another token on its column separates two items, unless it
-- goes on with the item. A brace that is nearer than the block hides it. `kept` is the stack where
-- nothing more happens.
abbrev pub indentation : Sight → Stack → Stack → Step
indentation t kept [] = no_marks kept
indentation t kept (Open opening ∷ below) = indentation t kept below
indentation t kept (Brace ∷ below) = no_marks kept
indentation t kept (Block n tokens ∷ below) =
    if nat_lt t.at.column n || (t.at.column == n && is_where t.what)
    then marks_then (layout.Close ∷ []) (indentation t below below)
    else if t.at.column == n && not (goes_on t.what)
    then record { marks = layout.Separator ∷ []; stack = Block n [] ∷ below }
    else no_marks kept

-- Rule 2 at a token, where `first` says whether it begins its line.
abbrev pub line_start : Bool → Sight → Stack → Step
line_start first t stack = if first then indentation t stack stack else no_marks stack

-- ---- rule 1: a block that is due

-- The column of the innermost block, 0 where there is none or a brace is nearer.
abbrev pub block_column : Stack → ℕ
block_column [] = 0
block_column (Block n tokens ∷ below) = n
block_column (Brace ∷ below) = 0
block_column (Open opening ∷ below) = block_column below

-- Rule 1, and then rule 2: a block that is due opens at a token further right than the block around
-- it, and rule 2 is skipped. Otherwise the block that is due is empty. It is dropped where the
-- token is `{`.
abbrev pub due_block : Bool → Bool → Sight → Stack → Step
due_block due first t stack =
    if due && not (is_open_brace t.what) then
    (if nat_lt (block_column stack) t.at.column
    then record { marks = layout.Open ∷ []; stack = Block t.at.column [] ∷ stack }
    else marks_then (layout.Open ∷ layout.Close ∷ []) (line_start first t stack))
    else line_start first t stack

-- ---- rule 3: tokens that end what stands open

-- Whether a token ends what an entry opened, or a comma stands in it.
abbrev pub is_partner : Form → Opening → Bool
is_partner (form.Keyword keyword.In) Let = true
is_partner (form.Keyword keyword.Then) If = true
is_partner (form.Keyword keyword.Else) Then = true
is_partner (form.Keyword keyword.Of) Case = true
is_partner (form.Mark mark.CloseParen) Paren = true
is_partner (form.Mark mark.CloseSquare) Square = true
is_partner (form.Mark mark.Comma) Paren = true
is_partner (form.Mark mark.Comma) Square = true
is_partner _ _ = false

-- The stack from a token's partner on, where one is found before the nearest brace. Each block
-- above it is closed.
abbrev pub to_partner : Form → Stack → Option Step
to_partner what [] = None
to_partner what (Block n tokens ∷ below) =
    option_map (marks_then (layout.Close ∷ [])) (to_partner what below)
to_partner what (Brace ∷ below) = None
to_partner what (Open opening ∷ below) = if is_partner what opening
    then Some (no_marks (Open opening ∷ below)) else to_partner what below

-- The tokens of the innermost block since it opened or since its last `;`, none where there is no
-- block or a brace is nearer.
abbrev pub block_tokens : Stack → List Form
block_tokens [] = []
block_tokens (Block n tokens ∷ below) = tokens
block_tokens (Brace ∷ below) = []
block_tokens (Open opening ∷ below) = block_tokens below

-- Whether a block stands above the partner that was found: the step has a mark that closes it.
abbrev pub closes_block : Step → Bool
closes_block step = nat_lt 0 (length step.marks)

-- What a token does at its partner, if one was found. A comma leaves the partner open, and it does
-- nothing where a block stands above the partner and the innermost block has names alone, since it
-- then stands between the variables of a declaration. Any other token takes its partner off the
-- stack.
abbrev pub step_at_partner : Form → Stack → Option Step → Step
step_at_partner what stack None = no_marks stack
step_at_partner what stack (Some found) =
    if is_comma what then (if closes_block found && only_names (block_tokens stack)
    then no_marks stack else found)
    else record { marks = found.marks; stack = drop 1 found.stack }

-- Rule 3 at a token of this form.
abbrev pub partner_end : Form → Stack → Step
partner_end what stack = step_at_partner what stack (to_partner what stack)

-- ---- rule 4: a closing brace of the text

-- What is below the nearest brace, where there is one. Each block above it is closed.
abbrev pub below_brace : Stack → Option Step
below_brace [] = None
below_brace (Block n tokens ∷ below) =
    option_map (marks_then (layout.Close ∷ [])) (below_brace below)
below_brace (Brace ∷ below) = Some (no_marks below)
below_brace (Open opening ∷ below) = below_brace below

-- What a closing brace does at the nearest brace that was found. Where there is none nothing
-- happens.
abbrev pub step_or_none : Stack → Option Step → Step
step_or_none stack None = no_marks stack
step_or_none stack (Some found) = found

-- Rule 4 at a token of this form.
abbrev pub brace_end : Form → Stack → Step
brace_end what stack = if is_close_brace what then step_or_none stack (below_brace stack)
    else no_marks stack

-- ---- rule 5: the token itself

-- A block's tokens with one more: a semicolon begins them anew.
abbrev pub tokens_with : Form → List Form → List Form
tokens_with what tokens = if is_semicolon what then [] else tokens ++ what ∷ []

-- The stack with one more token in the innermost block, unless a brace is nearer.
abbrev pub stack_noting : Form → Stack → Stack
stack_noting what [] = []
stack_noting what (Block n tokens ∷ below) = Block n (tokens_with what tokens) ∷ below
stack_noting what (Brace ∷ below) = Brace ∷ below
stack_noting what (Open opening ∷ below) = Open opening ∷ stack_noting what below

-- What a token opens.
abbrev pub opening_entry : Form → Option Entry
opening_entry (form.Mark mark.OpenBrace) = Some Brace
opening_entry (form.Mark mark.OpenParen) = Some (Open Paren)
opening_entry (form.Mark mark.OpenSquare) = Some (Open Square)
opening_entry (form.Keyword keyword.Let) = Some (Open Let)
opening_entry (form.Keyword keyword.If) = Some (Open If)
opening_entry (form.Keyword keyword.Then) = Some (Open Then)
opening_entry (form.Keyword keyword.Else) = Some (Open Else)
opening_entry (form.Keyword keyword.Case) = Some (Open Case)
opening_entry (form.Keyword keyword.Fcase) = Some (Open Case)
opening_entry (form.Keyword keyword.In) = Some (Open In)
opening_entry form.Lambda = Some (Open Lambda)
opening_entry _ = None

-- The stack with what a token opens, if it opens anything.
abbrev pub with_entry : Option Entry → Stack → Stack
with_entry None stack = stack
with_entry (Some entry) stack = entry ∷ stack

-- Rule 5 at a token of this form: the token stands in the innermost block, and may open something.
abbrev pub stack_with : Form → Stack → Stack
stack_with what stack = with_entry (opening_entry what) (stack_noting what stack)

-- ---- all rules

-- Rules 3, 4 and 5 at a token of this form, one after another.
abbrev pub token_step : Form → Stack → Step
token_step what stack =
    let third = partner_end what stack in
    let fourth = brace_end what third.stack in
    record { marks = third.marks ++ fourth.marks; stack = stack_with what fourth.stack }

-- The most entries of the stack.
abbrev pub most_entries : ℕ
most_entries = 256

-- A step, or None where its stack has more entries than it may.
abbrev pub within_limit : Step → Option Step
within_limit step = if nat_le (length step.stack) most_entries then Some step else None

-- All rules at a token: the marks before it and the stack after it, or None where the stack would
-- come to an entry too many. A block may be due, and the token may be the first of its line.
abbrev pub layout_step : Bool → Bool → Sight → Stack → Option Step
layout_step due first t stack =
    option_and_then (λ first_step. within_limit
    (marks_then first_step.marks (token_step t.what first_step.stack)))
    (within_limit (due_block due first t stack))

-- ---- the end of the text

-- The marks that close each block that is left at the end of the text.
abbrev pub closing_marks : Stack → List LayoutMark
closing_marks [] = []
closing_marks (Block n tokens ∷ below) = layout.Close ∷ closing_marks below
closing_marks (Brace ∷ below) = closing_marks below
closing_marks (Open opening ∷ below) = closing_marks below

abbrev pub last_marks : Bool → Stack → List LayoutMark
last_marks due stack = (if due then layout.Open ∷ layout.Close ∷ [] else []) ++ closing_marks stack
