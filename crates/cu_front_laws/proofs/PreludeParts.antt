-- The Prelude's text has a part that declares truth values.
use Rattle.std.specs.Prelude.{◌≡◌, ℕ, suc, Bool, true, false, ◌&&◌, List, [], ◌∷◌, ◌++◌, drop, length, Option, None, Some, Result, Ok, Err, if◌then◌else◌, nat_eq, refl, map}
use Rattle.std.proofs.Common.{◌⊎◌, ap, append-nil, append_assoc, arith, inl, inr, sym, ◌∙◌}
use Rattle.std.specs.List.{slice_get}
use Rattle.std.specs.Option.{option_map}
use Rattle.std.specs.Result.{result_map_both}
use Rattle.cu_layout.specs.Blocks.{Marks, begins_line, interleaving, marks_from, marks_through, marks_with}
use Rattle.cu_layout.specs.Forms.{Sight, is_block_keyword, sight_of}
use Rattle.cu_layout.specs.Reading.{emitted_lexeme}
use Rattle.cu_layout.specs.Rules.{Stack, Step, layout_step}
use Rattle.cu_lex.specs.declared.token.Keyword.TheVariants as keyword
use Rattle.cu_lex.specs.declared.token.LayoutMark.{LayoutMark}
use Rattle.cu_lex.specs.declared.token.LayoutMark.TheVariants as layout
use Rattle.cu_lex.specs.declared.token.ReservedOperator.TheVariants as reserved
use Rattle.cu_lex.specs.Kind.Kind.{ConId, Keyword, Layout, Reserved}
use Rattle.cu_lex.specs.Tokens.{Lexeme}
use Rattle.cu_syntax.specs.Parsing.{Part, Split, after, part_after_block, closes, depth_after, part_of, parts, separates, split, with_token}
use Rattle.cu_front_laws.proofs.Members.{In}
use Rattle.cu_front_laws.proofs.PreludeTokens.{at, plain, prelude_tokens}

-- ---- layout of a prefix of a text

-- the stack after tokens, and the marks before each
pub record Ran : Type 0 where
  pub stack : Stack
  pub due : Bool
  pub line : Option ℕ
  pub marks : List (List LayoutMark)

unfoldable pub run : Stack → Bool → Option ℕ → List Sight → Option Ran
run stack due line [] = Some (record { stack = stack; due = due; line = line; marks = [] })
run stack due line (t ∷ ts) =
    elim (layout_step due (begins_line line t) t stack) as (λ _. Option Ran) [
      | None ↦ None
      | Some step ↦ option_map (λ (r : Ran). record { stack = r.stack; due = r.due; line = r.line; marks = step.marks ∷ r.marks })
          (run step.stack (is_block_keyword t.what) (Some t.at.line) ts)
    ]

-- the marks of the whole begin with those of the prefix, one list for each of its tokens
pub record MarksBegin (ts : List Sight) (r : Ran) (m : Marks) : Type 0 where
  pub later : List (List LayoutMark)
  pub before : m.before ≡ r.marks ++ later
  pub each : length r.marks ≡ length ts

ran_more : (s : Step) (t : Sight) (ts : List Sight) (o : Option Ran) (r : Ran) (q : Result Marks ℕ) (m : Marks)
    → option_map (λ (r : Ran). record { stack = r.stack; due = r.due; line = r.line; marks = s.marks ∷ r.marks }) o ≡ Some r
    → result_map_both (marks_with s.marks) suc q ≡ Ok m
    → ((r : Ran) (m : Marks) → o ≡ Some r → q ≡ Ok m → MarksBegin ts r m) → MarksBegin (t ∷ ts) r m
ran_more s t ts None r q m e f go = absurd cc
ran_more s t ts (Some inner) r (Err n) m e f go = absurd cc
ran_more s t ts (Some inner) r (Ok more) m e f go =
    let one = go inner more refl refl in
    let each = one.each in
    let marks : r.marks ≡ s.marks ∷ inner.marks = ap marks_in (sym e) in
    record {
      later = one.later;
      before = ap before_in (sym f) ∙ ap (λ xs. s.marks ∷ xs) one.before ∙ ap (λ xs. xs ++ one.later) (sym marks);
      each = ap length marks ∙ ap suc each;
    }
  where
    marks_in : Option Ran → List (List LayoutMark)
    marks_in None = []
    marks_in (Some r) = r.marks

    before_in : Result Marks ℕ → List (List LayoutMark)
    before_in (Ok m) = m.before
    before_in (Err n) = []

pub marks_begin : (stack : Stack) (due : Bool) (line : Option ℕ) (ts more : List Sight) (r : Ran) (m : Marks) → run stack due line ts ≡ Some r
    → marks_from stack due line (ts ++ more) ≡ Ok m → MarksBegin ts r m
unfolding run marks_from
marks_begin stack due line [] more r m e f =
    record { later = m.before; before = ap (λ xs. xs ++ m.before) (ap marks_in e); each = ap length (ap marks_in (sym e)) }
  where
    marks_in : Option Ran → List (List LayoutMark)
    marks_in None = []
    marks_in (Some r) = r.marks
marks_begin stack due line (t ∷ ts) more r m e f =
    by (layout_step due (begins_line line t) t stack) e f (λ next r m. marks_begin next (is_block_keyword t.what) (Some t.at.line) ts more r m)
  where
    by : (o : Option Step)
        → (elim o as (λ _. Option Ran) [
          | None ↦ None
          | Some step ↦ option_map (λ (r : Ran). record { stack = r.stack; due = r.due; line = r.line; marks = step.marks ∷ r.marks })
              (run step.stack (is_block_keyword t.what) (Some t.at.line) ts)
        ]) ≡ Some r
        → marks_through o (λ next. marks_from next (is_block_keyword t.what) (Some t.at.line) (ts ++ more)) ≡ Ok m
        → ((next : Stack) (r : Ran) (m : Marks) → run next (is_block_keyword t.what) (Some t.at.line) ts ≡ Some r
        → marks_from next (is_block_keyword t.what) (Some t.at.line) (ts ++ more) ≡ Ok m → MarksBegin ts r m)
        → MarksBegin (t ∷ ts) r m
    by None e f go = absurd cc
    by (Some step) e f go =
        ran_more step t ts (run step.stack (is_block_keyword t.what) (Some t.at.line) ts) r
        (marks_from step.stack (is_block_keyword t.what) (Some t.at.line) (ts ++ more)) m e f (go step.stack)

pub interleaved : (ts more : List Lexeme) (marks later : List (List LayoutMark)) → length marks ≡ length ts
    → interleaving emitted_lexeme (ts ++ more) (marks ++ later) ≡ interleaving emitted_lexeme ts marks ++ interleaving emitted_lexeme more later
interleaved [] more [] later e = refl
interleaved [] more (m ∷ marks) later e = absurd (omega arith)
interleaved (t ∷ ts) more [] later e = absurd (omega arith)
interleaved (t ∷ ts) more (m ∷ marks) later e =
    ap (λ xs. map (emitted_lexeme (Some t)) m ++ t ∷ xs) (interleaved ts more marks later (omega arith))
    ∙ sym (append_assoc (map (emitted_lexeme (Some t)) m) (t ∷ interleaving emitted_lexeme ts marks) (interleaving emitted_lexeme more later))

-- ---- parts that end in a prefix of a block

-- the parts that end at semicolons outside braces, where this stands before
unfoldable pub ended : ℕ → List Lexeme → List Lexeme → List (List Lexeme)
ended depth prefix [] = []
ended depth prefix (t ∷ ts) =
    elim (nat_eq depth 0 && closes t.what) as (λ _. List (List Lexeme)) [
      | true ↦ []
      | false ↦ elim (nat_eq depth 0 && separates t.what) as (λ _. List (List Lexeme)) [
        | true ↦ prefix ∷ ended 0 [] ts
        | false ↦ ended (depth_after depth t.what) (prefix ++ t ∷ []) ts
      ]
    ]

-- a whole part of these tokens
abbrev HasPart : List Lexeme → List Part → Type 0
HasPart w ps = (p : Part) × In p ps × (p.tokens ≡ w)

abbrev InSplit : List Lexeme → List Lexeme → Split → Type 0
InSplit w prefix s = (w ≡ prefix ++ s.first) ⊎ HasPart w s.others

ended_split : (depth last : ℕ) (prefix ts more w : List Lexeme) → In w (ended depth prefix ts) → InSplit w prefix (split depth last (ts ++ more))
unfolding ended split
ended_split depth last prefix [] more w h = absurd h
ended_split depth last prefix (t ∷ ts) more w h =
    by (nat_eq depth 0 && closes t.what) (nat_eq depth 0 && separates t.what) h (ended_split 0 (after last t) [] ts more w)
    (ended_split (depth_after depth t.what) (after last t) (prefix ++ t ∷ []) ts more w)
  where
    by : (c s : Bool)
        → In w (elim c as (λ _. List (List Lexeme)) [
          | true ↦ []
          | false ↦ elim s as (λ _. List (List Lexeme)) [
            | true ↦ prefix ∷ ended 0 [] ts
            | false ↦ ended (depth_after depth t.what) (prefix ++ t ∷ []) ts
          ]
        ])
        → (In w (ended 0 [] ts) → InSplit w [] (split 0 (after last t) (ts ++ more)))
        → (In w (ended (depth_after depth t.what) (prefix ++ t ∷ []) ts)
        → InSplit w (prefix ++ t ∷ []) (split (depth_after depth t.what) (after last t) (ts ++ more)))
        → InSplit w prefix (if c then record { first = []; whole = true; others = part_after_block (after last t) (ts ++ more) }
        else if s then (let next =
        split 0 (after last t) (ts ++ more) in record { first = []; whole = true; others = part_of (after last t) next ∷ next.others })
        else with_token t (split (depth_after depth t.what) (after last t) (ts ++ more)))
    by true s h next inside = absurd h
    by false true (inl e) next inside = inl (e ∙ sym (append-nil prefix))
    by false true (inr h) next inside = inr (found (next h))
      where
        found : InSplit w [] (split 0 (after last t) (ts ++ more))
            → HasPart w (part_of (after last t) (split 0 (after last t) (ts ++ more)) ∷ (split 0 (after last t) (ts ++ more)).others)
        found (inl e) = (part_of (after last t) (split 0 (after last t) (ts ++ more)), inl refl, sym e)
        found (inr p) = (p.0, inr p.1, p.2)
    by false false h next inside = found (inside h)
      where
        found : InSplit w (prefix ++ t ∷ []) (split (depth_after depth t.what) (after last t) (ts ++ more))
            → InSplit w prefix (with_token t (split (depth_after depth t.what) (after last t) (ts ++ more)))
        found (inl e) = inl (e ∙ append_assoc prefix (t ∷ []) (split (depth_after depth t.what) (after last t) (ts ++ more)).first)
        found (inr p) = inr p

pub part_there : (last : ℕ) (ts more w : List Lexeme) → In w (ended 0 [] ts) → HasPart w (parts last (ts ++ more))
part_there last ts more w h = found (ended_split 0 last [] ts more w h)
  where
    found : InSplit w [] (split 0 last (ts ++ more)) → HasPart w (parts last (ts ++ more))
    found (inl e) = (part_of last (split 0 last (ts ++ more)), inl refl, sym e)
    found (inr p) = (p.0, inr p.1, p.2)

-- ---- the Prelude

abbrev pub prelude_run : Option Ran
prelude_run = run [] true None (map sight_of prelude_tokens)

abbrev pub laid_by : Option Ran → List Lexeme
laid_by None = []
laid_by (Some r) = interleaving emitted_lexeme prelude_tokens r.marks

-- `data Bool = False | True`
abbrev pub truth_tokens : List Lexeme
truth_tokens =
    at 13 1 (Keyword keyword.Data) ∷ at 13 6 (ConId (plain "Bool")) ∷ at 13 11 (Reserved reserved.Equals) ∷ at 13 13 (ConId (plain "False")) ∷
    at 13 19 (Reserved reserved.Bar) ∷ at 13 21 (ConId (plain "True")) ∷ []

abbrev pub open_mark : Lexeme
open_mark = at 2 1 (Layout layout.Open)

abbrev pub after_open : List Lexeme
after_open = drop 1 (laid_by prelude_run)

pub laid_opens : laid_by prelude_run ≡ open_mark ∷ after_open
unfolding run
laid_opens = refl

pub truth_ended : slice_get (ended 0 [] after_open) 9 ≡ Some truth_tokens
unfolding run ended
truth_ended = refl
