-- The rules do the same to a stack and to the plain one.
use Rattle.std.proofs.Common.{◌≡◌, ◌∙◌, ℕ, suc, sym, ap, refl, Bool, true, false, not, ◌&&◌, ◌||◌, ◌==◌, nat_lt, nat_le, List, [], ◌∷◌, ◌++◌, length, drop, Option, None, Some, Result, Ok, if◌then◌else◌}
use Rattle.std.proofs.lemmas.List.{length-map}
use Rattle.std.proofs.lemmas.List.Sums.{fold-append}
use Rattle.std.specs.Option.{option_and_then, option_map}
use Rattle.std.specs.Result.{result_map_both}
use Rattle.cu_lex.specs.declared.token.LayoutMark.{LayoutMark}
use Rattle.cu_lex.specs.declared.token.LayoutMark.TheVariants as layout
use Rattle.cu_layout.specs.declared.begun.Begun.TheVariants as begun
use Rattle.cu_layout.specs.declared.form.Form.{Form}
use Rattle.cu_layout.specs.Blocks.{Marks, begins_line, marks_from, marks_through, marks_with}
use Rattle.cu_layout.specs.Inside.Entries.{begun_of, is_names, next_state, plain, plain_stack, sample, state_with}
use Rattle.cu_layout.specs.Forms.{Sight, goes_on, is_block_keyword, is_close_brace, is_comma, is_open_brace, is_semicolon, is_where, only_names}
use Rattle.cu_layout.specs.Rules.{Entry, Stack, Step, below_brace, block_column, block_tokens, brace_end, closes_block, closing_marks, due_block, indentation, is_partner, layout_step, line_start, marks_then, most_entries, no_marks, opening_entry, partner_end, stack_noting, stack_with, step_at_partner, step_or_none, to_partner, token_step, tokens_with, with_entry, within_limit}
use Rattle.cu_layout.specs.Rules.Entry.{Block, Brace, Open}
use Rattle.cu_layout.proofs.NamesLemmas.{only_names-begun_of}
use Rattle.cu_layout.proofs.StackLemmas.{begun_of-sample, begun_of-tokens_with}

-- a step with its stack made plain
abbrev pub plain_step : Step → Step
plain_step step = record { marks = step.marks; stack = plain_stack step.stack }

-- ---- rules 1 and 2

choice : {X Y : Type 0} (f : X → Y) (b : Bool) (x y : X) → (if b then f x else f y) ≡ f (if b then x else y)
choice f true x y = refl
choice f false x y = refl

choices : {Y : Type 0} (b : Bool) (x x' y y' : Y) → x ≡ x' → y ≡ y' → (if b then x else y) ≡ (if b then x' else y')
choices true x x' y y' p q = p
choices false x x' y y' p q = q

indentation-plain : (t : Sight) (kept stack : Stack) → indentation t (plain_stack kept) (plain_stack stack) ≡ plain_step (indentation t kept stack)
indentation-plain t kept [] = refl
indentation-plain t kept (Open opening ∷ below) = indentation-plain t kept below
indentation-plain t kept (Brace ∷ below) = refl
indentation-plain t kept (Block n tokens ∷ below) =
    let left = nat_lt t.at.column n || (t.at.column == n && is_where t.what) in
    let on = t.at.column == n && not (goes_on t.what) in
    let item : Step = record { marks = layout.Separator ∷ []; stack = Block n [] ∷ below } in
    choices left _ (plain_step (marks_then (layout.Close ∷ []) (indentation t below below))) _ (plain_step (if on then item else no_marks kept))
    (ap (marks_then (layout.Close ∷ [])) (indentation-plain t below below))
    (choice plain_step on item (no_marks kept))
    ∙ choice plain_step left (marks_then (layout.Close ∷ []) (indentation t below below)) (if on then item else no_marks kept)

line_start-plain : (first : Bool) (t : Sight) (stack : Stack) → line_start first t (plain_stack stack) ≡ plain_step (line_start first t stack)
line_start-plain true t stack = indentation-plain t stack stack
line_start-plain false t stack = refl

block_column-plain : (stack : Stack) → block_column (plain_stack stack) ≡ block_column stack
block_column-plain [] = refl
block_column-plain (Block n tokens ∷ below) = refl
block_column-plain (Brace ∷ below) = refl
block_column-plain (Open opening ∷ below) = block_column-plain below

due_block-plain : (due first : Bool) (t : Sight) (stack : Stack) → due_block due first t (plain_stack stack) ≡ plain_step (due_block due first t stack)
due_block-plain due first t stack = by (due && not (is_open_brace t.what)) (nat_lt (block_column stack) t.at.column) (nat_lt (block_column (plain_stack stack)) t.at.column) (ap (λ m. nat_lt m t.at.column) (block_column-plain stack))
  where
    by : (opens right right' : Bool) → right' ≡ right
        → (if opens then (if right' then record { marks = layout.Open ∷ []; stack = Block t.at.column [] ∷ plain_stack stack } else marks_then (layout.Open ∷ layout.Close ∷ []) (line_start first t (plain_stack stack))) else line_start first t (plain_stack stack))
        ≡ plain_step (if opens then (if right then record { marks = layout.Open ∷ []; stack = Block t.at.column [] ∷ stack } else marks_then (layout.Open ∷ layout.Close ∷ []) (line_start first t stack)) else line_start first t stack)
    by false right right' same = line_start-plain first t stack
    by true right right' same =
        let new : Step = record { marks = layout.Open ∷ []; stack = Block t.at.column [] ∷ stack } in
        let empty : Step → Step = marks_then (layout.Open ∷ layout.Close ∷ []) in
        ap (λ r. if r then plain_step new else empty (line_start first t (plain_stack stack))) same
        ∙ choices right (plain_step new) (plain_step new) (empty (line_start first t (plain_stack stack))) (plain_step (empty (line_start first t stack))) refl (ap empty (line_start-plain first t stack))
        ∙ choice plain_step right new (empty (line_start first t stack))

-- ---- rules 3 and 4

closed-plain : (marks : List LayoutMark) (found : Option Step) → option_map (marks_then marks) (option_map plain_step found) ≡ option_map plain_step (option_map (marks_then marks) found)
closed-plain marks None = refl
closed-plain marks (Some step) = refl

to_partner-plain : (what : Form) (stack : Stack) → to_partner what (plain_stack stack) ≡ option_map plain_step (to_partner what stack)
to_partner-plain what [] = refl
to_partner-plain what (Block n tokens ∷ below) =
    ap (option_map (marks_then (layout.Close ∷ []))) (to_partner-plain what below) ∙ closed-plain (layout.Close ∷ []) (to_partner what below)
to_partner-plain what (Brace ∷ below) = refl
to_partner-plain what (Open opening ∷ below) =
    choices (is_partner what opening) (Some (no_marks (Open opening ∷ plain_stack below))) (Some (no_marks (Open opening ∷ plain_stack below))) (to_partner what (plain_stack below)) (option_map plain_step (to_partner what below))
    refl (to_partner-plain what below)
    ∙ choice (option_map plain_step) (is_partner what opening) (Some (no_marks (Open opening ∷ below))) (to_partner what below)

below_brace-plain : (stack : Stack) → below_brace (plain_stack stack) ≡ option_map plain_step (below_brace stack)
below_brace-plain [] = refl
below_brace-plain (Block n tokens ∷ below) =
    ap (option_map (marks_then (layout.Close ∷ []))) (below_brace-plain below) ∙ closed-plain (layout.Close ∷ []) (below_brace below)
below_brace-plain (Brace ∷ below) = refl
below_brace-plain (Open opening ∷ below) = below_brace-plain below

block_tokens-plain : (stack : Stack) → block_tokens (plain_stack stack) ≡ sample (begun_of (block_tokens stack))
block_tokens-plain [] = refl
block_tokens-plain (Block n tokens ∷ below) = refl
block_tokens-plain (Brace ∷ below) = refl
block_tokens-plain (Open opening ∷ below) = block_tokens-plain below

only_names-plain : (stack : Stack) → only_names (block_tokens (plain_stack stack)) ≡ only_names (block_tokens stack)
only_names-plain stack =
    let state = begun_of (block_tokens stack) in
    ap only_names (block_tokens-plain stack) ∙ only_names-begun_of (sample state) ∙ ap is_names (begun_of-sample state) ∙ sym (only_names-begun_of (block_tokens stack))

rest-plain : (stack : Stack) → drop 1 (plain_stack stack) ≡ plain_stack (drop 1 stack)
rest-plain [] = refl
rest-plain (entry ∷ below) = refl

at_partner-plain : (what : Form) (stack : Stack) (found : Option Step) → step_at_partner what (plain_stack stack) (option_map plain_step found) ≡ plain_step (step_at_partner what stack found)
at_partner-plain what stack None = refl
at_partner-plain what stack (Some found) = by (is_comma what) (closes_block found) (only_names (block_tokens stack)) (only_names (block_tokens (plain_stack stack))) (only_names-plain stack)
  where
    by : (comma closes names names' : Bool) → names' ≡ names
        → (if comma then (if closes && names' then no_marks (plain_stack stack) else plain_step found) else record { marks = found.marks; stack = drop 1 (plain_stack found.stack) })
        ≡ plain_step (if comma then (if closes && names then no_marks stack else found) else record { marks = found.marks; stack = drop 1 found.stack })
    by false closes names names' same = ap (λ (s : Stack). record { marks = found.marks; stack = s }) (rest-plain found.stack)
    by true false names names' same = refl
    by true true true true same = refl
    by true true true false same = cc
    by true true false true same = cc
    by true true false false same = refl

partner_end-plain : (what : Form) (stack : Stack) → partner_end what (plain_stack stack) ≡ plain_step (partner_end what stack)
partner_end-plain what stack = ap (step_at_partner what (plain_stack stack)) (to_partner-plain what stack) ∙ at_partner-plain what stack (to_partner what stack)

or_none-plain : (stack : Stack) (found : Option Step) → step_or_none (plain_stack stack) (option_map plain_step found) ≡ plain_step (step_or_none stack found)
or_none-plain stack None = refl
or_none-plain stack (Some found) = refl

brace_end-plain : (what : Form) (stack : Stack) → brace_end what (plain_stack stack) ≡ plain_step (brace_end what stack)
brace_end-plain what stack =
    choices (is_close_brace what) (step_or_none (plain_stack stack) (below_brace (plain_stack stack))) (plain_step (step_or_none stack (below_brace stack))) (no_marks (plain_stack stack)) (plain_step (no_marks stack))
    (ap (step_or_none (plain_stack stack)) (below_brace-plain stack) ∙ or_none-plain stack (below_brace stack)) refl
    ∙ choice plain_step (is_close_brace what) (step_or_none stack (below_brace stack)) (no_marks stack)

-- ---- rule 5

begun_of-more : (what : Form) (tokens : List Form) → begun_of (tokens_with what tokens) ≡ state_with (begun_of tokens) what
begun_of-more what tokens = by (is_semicolon what)
  where
    by : (anew : Bool) → begun_of (if anew then [] else tokens ++ what ∷ []) ≡ (if anew then begun.Names else next_state (begun_of tokens) what)
    by true = refl
    by false = fold-append next_state begun.Names tokens (what ∷ [])

plain-plain : (entry : Entry) → plain (plain entry) ≡ plain entry
plain-plain (Block n tokens) = ap (λ state. Block n (sample state)) (begun_of-sample (begun_of tokens))
plain-plain Brace = refl
plain-plain (Open opening) = refl

pub plain_stack-plain_stack : (stack : Stack) → plain_stack (plain_stack stack) ≡ plain_stack stack
plain_stack-plain_stack [] = refl
plain_stack-plain_stack (entry ∷ below) = λ j. plain-plain entry j ∷ plain_stack-plain_stack below j

noting-same : (what : Form) (stack : Stack) → plain_stack (stack_noting what (plain_stack stack)) ≡ plain_stack (stack_noting what stack)
noting-same what [] = refl
noting-same what (Block n tokens ∷ below) =
    let state = begun_of-tokens_with (begun_of tokens) what ∙ sym (begun_of-more what tokens) in
    λ j. Block n (sample (state j)) ∷ plain_stack-plain_stack below j
noting-same what (Brace ∷ below) = ap (λ s. Brace ∷ s) (plain_stack-plain_stack below)
noting-same what (Open opening ∷ below) = ap (λ s. Open opening ∷ s) (noting-same what below)

entry-same : (entry : Option Entry) (stack stack' : Stack) → plain_stack stack ≡ plain_stack stack' → plain_stack (with_entry entry stack) ≡ plain_stack (with_entry entry stack')
entry-same None stack stack' same = same
entry-same (Some entry) stack stack' same = ap (λ s. plain entry ∷ s) same

stack_with-same : (what : Form) (stack : Stack) → plain_stack (stack_with what (plain_stack stack)) ≡ plain_stack (stack_with what stack)
stack_with-same what stack = entry-same (opening_entry what) (stack_noting what (plain_stack stack)) (stack_noting what stack) (noting-same what stack)

-- ---- all rules

token_step-same : (what : Form) (stack : Stack) → plain_step (token_step what (plain_stack stack)) ≡ plain_step (token_step what stack)
token_step-same what stack =
    let both : Step → Step → Step = λ third fourth. record { marks = third.marks ++ fourth.marks; stack = plain_stack (stack_with what fourth.stack) } in
    let third = partner_end what stack in
    let fourth = brace_end what third.stack in
    ap (λ x. both x (brace_end what x.stack)) (partner_end-plain what stack)
    ∙ ap (both (plain_step third)) (brace_end-plain what third.stack)
    ∙ ap (λ (s : Stack). record { marks = third.marks ++ fourth.marks; stack = s }) (stack_with-same what fourth.stack)

within-plain : (step : Step) → within_limit (plain_step step) ≡ option_map plain_step (within_limit step)
within-plain step =
    ap (λ n. if nat_le n most_entries then Some (plain_step step) else None) (length-map step.stack plain)
    ∙ choice (option_map plain_step) (nat_le (length step.stack) most_entries) (Some step) None

later-same : (what : Form) (step : Step)
    → option_map plain_step (within_limit (marks_then step.marks (token_step what (plain_stack step.stack)))) ≡ option_map plain_step (within_limit (marks_then step.marks (token_step what step.stack)))
later-same what step =
    sym (within-plain (marks_then step.marks (token_step what (plain_stack step.stack))))
    ∙ ap (λ s. within_limit (marks_then step.marks s)) (token_step-same what step.stack)
    ∙ within-plain (marks_then step.marks (token_step what step.stack))

layout_step-plain : (due first : Bool) (t : Sight) (stack : Stack) → option_map plain_step (layout_step due first t (plain_stack stack)) ≡ option_map plain_step (layout_step due first t stack)
layout_step-plain due first t stack =
    let later : Step → Option Step = λ step. within_limit (marks_then step.marks (token_step t.what step.stack)) in
    ap (λ s. option_map plain_step (option_and_then later (within_limit s))) (due_block-plain due first t stack)
    ∙ ap (λ o. option_map plain_step (option_and_then later o)) (within-plain (due_block due first t stack))
    ∙ by (within_limit (due_block due first t stack))
  where
    by : (found : Option Step) → option_map plain_step (option_and_then (λ step. within_limit (marks_then step.marks (token_step t.what step.stack))) (option_map plain_step found))
        ≡ option_map plain_step (option_and_then (λ step. within_limit (marks_then step.marks (token_step t.what step.stack))) found)
    by None = refl
    by (Some step) = later-same t.what step

layout_step-same : (due first : Bool) (t : Sight) (stack stack' : Stack) → plain_stack stack ≡ plain_stack stack' → option_map plain_step (layout_step due first t stack) ≡ option_map plain_step (layout_step due first t stack')
layout_step-same due first t stack stack' same =
    sym (layout_step-plain due first t stack) ∙ ap (λ s. option_map plain_step (layout_step due first t s)) same ∙ layout_step-plain due first t stack'

closing_marks-plain : (stack : Stack) → closing_marks (plain_stack stack) ≡ closing_marks stack
closing_marks-plain [] = refl
closing_marks-plain (Block n tokens ∷ below) = ap (λ marks. layout.Close ∷ marks) (closing_marks-plain below)
closing_marks-plain (Brace ∷ below) = closing_marks-plain below
closing_marks-plain (Open opening ∷ below) = closing_marks-plain below

through-same : (found found' : Option Step) (further : Stack → Result Marks ℕ) → option_map plain_step found ≡ option_map plain_step found'
    → ((stack stack' : Stack) → plain_stack stack ≡ plain_stack stack' → further stack ≡ further stack') → marks_through found further ≡ marks_through found' further
through-same None None further same on = refl
through-same None (Some step) further same on = cc
through-same (Some step) None further same on = cc
through-same (Some step) (Some step') further same on =
    let e : plain_step step ≡ plain_step step' = cc in
    ap (λ s. result_map_both (marks_with s.marks) suc (further step.stack)) e
    ∙ ap (result_map_both (marks_with step'.marks) suc) (on step.stack step'.stack (ap (λ s. s.stack) e))

-- stacks that are plainly the same have the same marks
pub marks_from-same : (text : List Sight) (stack stack' : Stack) (due : Bool) (line : Option ℕ) → plain_stack stack ≡ plain_stack stack' → marks_from stack due line text ≡ marks_from stack' due line text
unfolding marks_from
marks_from-same [] stack stack' due line same =
    ap (λ marks. Ok (record { before = []; after = (if due then layout.Open ∷ layout.Close ∷ [] else []) ++ marks })) (sym (closing_marks-plain stack) ∙ ap closing_marks same ∙ closing_marks-plain stack')
marks_from-same (t ∷ more) stack stack' due line same =
    through-same (layout_step due (begins_line line t) t stack) (layout_step due (begins_line line t) t stack') (λ next. marks_from next (is_block_keyword t.what) (Some t.at.line) more)
    (layout_step-same due (begins_line line t) t stack stack' same)
    (λ a b p. marks_from-same more a b (is_block_keyword t.what) (Some t.at.line) p)
