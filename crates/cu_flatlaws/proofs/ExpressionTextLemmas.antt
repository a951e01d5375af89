-- The texts of expressions are those of what is printed.
use Rattle.std.proofs.Common.{◌≡◌, ℕ, zero, suc, ◌+◌, ◌-◌, ◌^◌, ◌<◌, Bool, true, false, ◌&&◌, List, [], ◌∷◌, ◌++◌, IsTrue, codes, decimal, if◌then◌else◌, length, nat_eq, eqb-true, refl, sym, ap, ap₂, ◌∙◌, arith, append_assoc, append-nil}
use Rattle.std.proofs.lemmas.Bool.{and_parts}
use Rattle.cu_calculus.specs.Flat.{all_differ, are_flat_alternatives, are_flat_terms, demands_of, is_flat_term, is_shallow}
use Rattle.cu_calculus.specs.Term as term
use Rattle.cu_calculus.specs.Term.{Alternatives, Pattern, Term, Terms}
use Rattle.cu_calculus.specs.Valid.{all_variables, term_count, variables_of}
use Rattle.cu_calculus.specs.declared.FunId.{FunId}
use Rattle.cu_calculus.specs.declared.Head.{Head}
use Rattle.cu_calculus.specs.declared.Head.TheVariants as head
use Rattle.cu_flatlaws.proofs.NumberTexts.{apply_agrees, numbers_agree, set_agrees}
use Rattle.cu_flatlaws.specs.PrintedExpressions.{all_arguments, apply_entity, function_alone, head_entity, part_kind, printed_branches, printed_expression, printed_expressions, printed_pattern, whole_kind}
use Rattle.cu_flatlaws.specs.PrintedTypes.{entity}
use Rattle.cu_flatread.specs.Modules as m
use Rattle.cu_flatread.specs.Modules.{Expressions}
use Rattle.cu_flatread.specs.Notation.{Entity, entity_text, further, in_parentheses, list_text, separated}
use Rattle.cu_flatread.specs.Text.{branch_texts, expression_text, expression_texts, kind_text, mode_text, pattern_text}
use Rattle.cu_flatread.specs.declared.cells.CombKind.{CombKind}
use Rattle.cu_flattext.specs.ExpressionTexts as texts
use Rattle.cu_flattext.specs.ExpressionTexts.{Numbers, all_numbered, arity, bindings, missing, numbered}
use Rattle.cu_flattext.specs.Naming.{Lowered, constructor_entity}

-- no head takes very many arguments
abbrev pub AreFew : Lowered → Type 0
AreFew program = (h : Head) → arity program h < 10 ^ 64

-- ---- heads

head_agrees : (program : Lowered) (h : Head) → AreFew program
    → texts.head_text program h ≡ entity_text (head_entity program h)
head_agrees program (head.Fun f) few = refl
head_agrees program (head.Con c) few = refl
head_agrees program (head.Set f) few = set_agrees (arity program (head.Set f)) (few (head.Set f))

whole_agrees : (h : Head) → texts.call_kind h ≡ kind_text (whole_kind h)
whole_agrees (head.Fun f) = refl
whole_agrees (head.Con c) = refl
whole_agrees (head.Set f) = refl

lacking : (n : ℕ) (test : Bool) (whole part : List ℕ) → nat_eq (suc n) 0 ≡ test → (if test then whole else part) ≡ part
lacking n true whole part e = absurd (omega (arith, eqb-true (suc n) 0 e))
lacking n false whole part e = refl

part_agrees : (h : Head) (missing : ℕ) → texts.kind_text h missing ≡ kind_text (part_kind h missing)
part_agrees h zero = whole_agrees h
part_agrees (head.Fun f) (suc n) =
    lacking n (nat_eq (suc n) 0) (codes "FuncCall") (in_parentheses (codes "FuncPartCall " ++ decimal (suc n))) refl
part_agrees (head.Con c) (suc n) =
    lacking n (nat_eq (suc n) 0) (codes "ConsCall") (in_parentheses (codes "ConsPartCall " ++ decimal (suc n))) refl
part_agrees (head.Set f) (suc n) =
    lacking n (nat_eq (suc n) 0) (codes "FuncCall") (in_parentheses (codes "FuncPartCall " ++ decimal (suc n))) refl

-- a call, whose kind, name and arguments agree
call_agrees : (k : CombKind) (e : Entity) (ts : Expressions Entity) (word name arguments : List ℕ)
    → word ≡ kind_text k → name ≡ entity_text e → arguments ≡ separated (expression_texts ts)
    → texts.call_text word name arguments ≡ expression_text (m.Comb k e ts)
call_agrees k e ts word name arguments is_kind is_name same =
    ap₂ (λ (x y : List ℕ). texts.call_text x y arguments) is_kind is_name
    ∙ ap (texts.call_text (kind_text k) (entity_text e)) same

alone_agrees : (program : Lowered) (f : FunId) → AreFew program
    → texts.function_alone program f ≡ expression_text (function_alone program f)
alone_agrees program f few =
    call_agrees (part_kind (head.Fun f) (missing program (head.Fun f) 0)) (head_entity program (head.Fun f))
    m.NoExpression (texts.kind_text (head.Fun f) (missing program (head.Fun f) 0))
    (texts.head_text program (head.Fun f)) [] (part_agrees (head.Fun f) (missing program (head.Fun f) 0))
    (head_agrees program (head.Fun f) few) refl

arguments_agree : (program : Lowered) (h : Head) (ts : Expressions Entity) (alone after : List ℕ) → AreFew program
    → alone ≡ separated (expression_texts ts) → after ≡ further (expression_texts ts)
    → texts.arguments_text program h alone after ≡ separated (expression_texts (all_arguments program h ts))
arguments_agree program (head.Fun f) ts alone after few first more = first
arguments_agree program (head.Con c) ts alone after few first more = first
arguments_agree program (head.Set f) ts alone after few first more =
    ap₂ (λ (x y : List ℕ). x ++ y) (alone_agrees program f few) more

-- ---- patterns

pattern_agrees : (program : Lowered) (n : ℕ) (p : Pattern) → IsTrue (is_shallow p)
    → texts.pattern_text program n p ≡ pattern_text (printed_pattern program n p)
pattern_agrees program n (term.Exactly l) shallow = refl
pattern_agrees program n (term.Built c ps) shallow =
    ap (λ (numbers : List (List ℕ)). codes "Pattern " ++ (entity_text (entity (constructor_entity program c))
    ++ (codes " " ++ list_text numbers))) (numbers_agree n (length (all_variables ps)))
pattern_agrees program n (term.Any x) shallow = let no : ⊥ = cc in absurd no
pattern_agrees program n (term.Named x p) shallow = let no : ⊥ = cc in absurd no

-- ---- expressions

-- the text of a branch of a pattern and a body
abbrev branch : List ℕ → List ℕ → List ℕ
branch p body = codes "Branch " ++ (in_parentheses p ++ (codes " " ++ in_parentheses body))

apply_is : (f a : List ℕ)
    → codes "Comb " ++ (texts.apply_text ++ (codes " [" ++ (f ++ (codes "," ++ (a ++ codes "]")))))
    ≡ codes "Comb " ++ (codes "FuncCall" ++ (codes " " ++ (entity_text apply_entity
    ++ (codes " " ++ list_text (f ∷ a ∷ [])))))
apply_is f a =
    let arguments : f ++ (codes "," ++ (a ++ codes "]")) ≡ (f ++ (codes "," ++ (a ++ []))) ++ codes "]" =
    sym (append_assoc f (codes "," ++ (a ++ [])) (codes "]")
    ∙ ap (λ (z : List ℕ). f ++ (codes "," ++ (z ++ codes "]"))) (append-nil a)) in
    ap₂ (λ (x y : List ℕ). codes "Comb " ++ (x ++ (codes " [" ++ y))) apply_agrees arguments

mutual
  pub expression_agrees : (program : Lowered) (n : ℕ) (numbers : Numbers) (t : Term) → AreFew program
      → IsTrue (is_flat_term t)
      → texts.expression_text program n numbers t ≡ expression_text (printed_expression program n numbers t)
  expression_agrees program n numbers (term.Variable x) few flat = refl
  expression_agrees program n numbers (term.Literal l) few flat = refl
  expression_agrees program n numbers (term.Whole h ts) few flat =
      let printed = printed_expressions program n numbers ts in
      call_agrees (whole_kind h) (head_entity program h) (all_arguments program h printed) (texts.call_kind h)
      (texts.head_text program h)
      (texts.arguments_text program h (texts.expressions_text program n numbers ts)
      (texts.further_expressions program n numbers ts))
      (whole_agrees h) (head_agrees program h few)
      (arguments_agree program h printed (texts.expressions_text program n numbers ts)
      (texts.further_expressions program n numbers ts) few
      (expressions_agree program n numbers ts few flat) (further_agree program n numbers ts few flat))
  expression_agrees program n numbers (term.Part h ts) few flat =
      let printed = printed_expressions program n numbers ts in
      let lacks = missing program h (term_count ts) in
      call_agrees (part_kind h lacks) (head_entity program h) (all_arguments program h printed)
      (texts.kind_text h lacks) (texts.head_text program h)
      (texts.arguments_text program h (texts.expressions_text program n numbers ts)
      (texts.further_expressions program n numbers ts))
      (part_agrees h lacks) (head_agrees program h few)
      (arguments_agree program h printed (texts.expressions_text program n numbers ts)
      (texts.further_expressions program n numbers ts) few
      (expressions_agree program n numbers ts few flat) (further_agree program n numbers ts few flat))
  expression_agrees program n numbers (term.Apply f a) few flat =
      let both = and_parts (is_flat_term f) (is_flat_term a) flat in
      ap₂ (λ (x y : List ℕ). codes "Comb " ++ (texts.apply_text ++ (codes " [" ++ (x ++ (codes "," ++ (y ++ codes "]"))))))
      (expression_agrees program n numbers f few both.0)
      (expression_agrees program (n + bindings f) numbers a few both.1)
      ∙ apply_is (expression_text (printed_expression program n numbers f))
      (expression_text (printed_expression program (n + bindings f) numbers a))
  expression_agrees program n numbers (term.Let x a b) few flat =
      let both = and_parts (is_flat_term a) (is_flat_term b) flat in
      ap₂ (λ (y z : List ℕ). codes "Let [(" ++ (decimal n ++ (codes "," ++ (y ++ (codes ")] " ++ in_parentheses z)))))
      (expression_agrees program (n + 1) (numbered x n numbers) a few both.0)
      (expression_agrees program (n + 1 + bindings a) (numbered x n numbers) b few both.1)
  expression_agrees program n numbers (term.Free x t) few flat =
      ap (λ (y : List ℕ). codes "Free [" ++ (decimal n ++ (codes "] " ++ in_parentheses y)))
      (expression_agrees program (n + 1) (numbered x n numbers) t few flat)
  expression_agrees program n numbers (term.Or a b) few flat =
      let both = and_parts (is_flat_term a) (is_flat_term b) flat in
      ap₂ (λ (y z : List ℕ). codes "Or " ++ (in_parentheses y ++ (codes " " ++ in_parentheses z)))
      (expression_agrees program n numbers a few both.0)
      (expression_agrees program (n + bindings a) numbers b few both.1)
  expression_agrees program n numbers (term.Case mode a alternatives) few flat =
      let all = and_parts (is_flat_term a && all_differ (demands_of alternatives)) (are_flat_alternatives alternatives) flat in
      let front = and_parts (is_flat_term a) (all_differ (demands_of alternatives)) all.0 in
      ap₂ (λ (y z : List ℕ). codes "Case " ++ (mode_text mode ++ (codes " " ++ (in_parentheses y
      ++ (codes " [" ++ (z ++ codes "]"))))))
      (expression_agrees program n numbers a few front.0)
      (branches_agree program (n + bindings a) numbers alternatives few all.1)

  expressions_agree : (program : Lowered) (n : ℕ) (numbers : Numbers) (ts : Terms) → AreFew program
      → IsTrue (are_flat_terms ts)
      → texts.expressions_text program n numbers ts ≡ separated (expression_texts (printed_expressions program n numbers ts))
  expressions_agree program n numbers term.NoTerm few flat = refl
  expressions_agree program n numbers (term.MoreTerms t ts) few flat =
      let both = and_parts (is_flat_term t) (are_flat_terms ts) flat in
      ap₂ (λ (x y : List ℕ). x ++ y) (expression_agrees program n numbers t few both.0)
      (further_agree program (n + bindings t) numbers ts few both.1)

  further_agree : (program : Lowered) (n : ℕ) (numbers : Numbers) (ts : Terms) → AreFew program
      → IsTrue (are_flat_terms ts)
      → texts.further_expressions program n numbers ts ≡ further (expression_texts (printed_expressions program n numbers ts))
  further_agree program n numbers term.NoTerm few flat = refl
  further_agree program n numbers (term.MoreTerms t ts) few flat =
      let both = and_parts (is_flat_term t) (are_flat_terms ts) flat in
      ap₂ (λ (x y : List ℕ). codes "," ++ (x ++ y)) (expression_agrees program n numbers t few both.0)
      (further_agree program (n + bindings t) numbers ts few both.1)

  branches_agree : (program : Lowered) (n : ℕ) (numbers : Numbers) (alternatives : Alternatives) → AreFew program
      → IsTrue (are_flat_alternatives alternatives)
      → texts.branches_text program n numbers alternatives
      ≡ separated (branch_texts (printed_branches program n numbers alternatives))
  branches_agree program n numbers term.NoAlternative few flat = refl
  branches_agree program n numbers (term.MoreAlternatives p t alternatives) few flat =
      let all = and_parts (is_shallow p && is_flat_term t) (are_flat_alternatives alternatives) flat in
      let front = and_parts (is_shallow p) (is_flat_term t) all.0 in
      ap₂ (λ (x y : List ℕ). x ++ y)
      (ap₂ branch (pattern_agrees program n p front.0)
      (expression_agrees program (n + length (variables_of p)) (all_numbered (variables_of p) n numbers) t few front.1))
      (further_branches_agree program (n + length (variables_of p) + bindings t) numbers alternatives few all.1)

  further_branches_agree : (program : Lowered) (n : ℕ) (numbers : Numbers) (alternatives : Alternatives) → AreFew program
      → IsTrue (are_flat_alternatives alternatives)
      → texts.further_branches program n numbers alternatives
      ≡ further (branch_texts (printed_branches program n numbers alternatives))
  further_branches_agree program n numbers term.NoAlternative few flat = refl
  further_branches_agree program n numbers (term.MoreAlternatives p t alternatives) few flat =
      let all = and_parts (is_shallow p && is_flat_term t) (are_flat_alternatives alternatives) flat in
      let front = and_parts (is_shallow p) (is_flat_term t) all.0 in
      ap₂ (λ (x y : List ℕ). codes "," ++ (x ++ y))
      (ap₂ branch (pattern_agrees program n p front.0)
      (expression_agrees program (n + length (variables_of p)) (all_numbered (variables_of p) n numbers) t few front.1))
      (further_branches_agree program (n + length (variables_of p) + bindings t) numbers alternatives few all.1)
