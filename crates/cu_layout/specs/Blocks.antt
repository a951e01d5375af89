-- The tokens of a text with the braces and semicolons that the layout rules put in.
use Rattle.std.specs.Prelude.{ℕ, zero, suc, Bool, true, not, ◌&&◌, ◌==◌, List, [], ◌∷◌, ◌++◌, map, Option, None, Some, Result, Ok, Err}
use Rattle.std.specs.Result.{result_map_both}
use Rattle.cu_lex.specs.declared.token.LayoutMark.{LayoutMark}
use Rattle.cu_layout.specs.Forms.{Sight, is_block_keyword, is_module}
use Rattle.cu_layout.specs.Rules.{Step, Stack, layout_step, last_marks}

-- The marks before each token, and those at the end of the text.
pub record Marks : Type 0 where
  pub before : List (List LayoutMark)
  pub after : List LayoutMark

-- The marks of one more token, and then those of the tokens after it.
abbrev pub marks_with : List LayoutMark → Marks → Marks
marks_with here more = record { before = here ∷ more.before; after = more.after }

-- The marks from a token on, given what the rules do at it. `further` gives those from the next
-- token on, with the stack as it then stands. Tokens are numbered from the one at hand, which is
-- number 0.
abbrev pub marks_through : Option Step → (Stack → Result Marks ℕ) → Result Marks ℕ
marks_through None further = Err zero
marks_through (Some step) further = result_map_both (marks_with step.marks) suc (further step.stack)

-- Whether a token begins its line: no token stands before it, or the one before it stands on
-- another line. Tokens stand in the text's order.
abbrev pub begins_line : Option ℕ → Sight → Bool
begins_line None t = true
begins_line (Some line) t = not (line == t.at.line)

-- The marks from a token of the text on, given the stack, whether a block is due, and the line of
-- the token before.
unfoldable pub marks_from : Stack → Bool → Option ℕ → List Sight → Result Marks ℕ
marks_from stack due line [] = Ok (record { before = []; after = last_marks due stack })
marks_from stack due line (t ∷ more) =
    marks_through (layout_step due (begins_line line t) t stack)
    (λ next. marks_from next (is_block_keyword t.what) (Some t.at.line) more)

-- Whether a block is due at the start of a text: a module without a header is a block.
abbrev pub due_at_start : Bool → List Sight → Bool
due_at_start whole [] = whole
due_at_start whole (t ∷ more) = whole && not (is_module t.what)

-- The marks that the layout rules put into a text, or the number, from 0, of the token at which the
-- stack comes to an entry too many. The text is a whole module, or else an expression.
abbrev pub layout_marks : Bool → List Sight → Result Marks ℕ
layout_marks whole text = marks_from [] (due_at_start whole text) None text

-- ---- tokens and marks in one list

-- Tokens as layout takes them: what it sees of one, and the token of a mark at the place of a
-- token, or at the start of a text without tokens.
pub record TokenView (X : Type 0) : Type 0 where
  pub sight : X → Sight
  pub emitted : Option X → LayoutMark → X

-- The last element of a list.
abbrev pub last_of : {X : Type 0} → Option X → List X → Option X
last_of before [] = before
last_of before (x ∷ xs) = last_of (Some x) xs

-- Tokens with the marks of each before it, at its place. There is a list of marks for each token.
abbrev pub interleaving : {X : Type 0} → (Option X → LayoutMark → X) → List X
    → List (List LayoutMark) → List X
interleaving emitted [] marks = []
interleaving emitted (t ∷ more) [] = t ∷ more
interleaving emitted (t ∷ more) (here ∷ marks) =
    map (emitted (Some t)) here ++ t ∷ interleaving emitted more marks

-- The tokens with all their marks. The marks at the end have the place of the last token.
abbrev pub with_marks : {X : Type 0} → (Option X → LayoutMark → X) → List X → Marks → List X
with_marks emitted tokens marks =
    interleaving emitted tokens marks.before ++ map (emitted (last_of None tokens)) marks.after

-- The tokens of a text with what the layout rules put in, or the number, from 0, of the token at
-- which the stack comes to an entry too many.
abbrev pub block : {X : Type 0} → TokenView X → Bool → List X → Result (List X) ℕ
block view whole text =
    result_map_both (with_marks view.emitted text) (λ number. number)
    (layout_marks whole (map view.sight text))
