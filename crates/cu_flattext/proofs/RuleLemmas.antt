-- The expression of a rule.
use Rattle.std.proofs.Common.{◌≡◌, ℕ, ◌+◌, List, [], ◌∷◌, ◌++◌, length, reverse, ap, ◌∙◌}
use Rattle.std.proofs.lemmas.List.{append-nil, reverse-append}
use Rattle.cu_calculus.specs.FlatProgram.{term_within}
use Rattle.cu_calculus.specs.declared.ExprId.{ExprId}
use Rattle.cu_flattext.specs.ExpressionTexts.{Numbers, all_numbered, bindings, expression_text, no_numbers}
use Rattle.cu_flattext.specs.Inside.LineTasks.{rule_expression}
use Rattle.cu_flattext.specs.Inside.Stands.{lowered_of, numbers_of}
use Rattle.cu_flattext.specs.Inside.Tasks.{Restores, all_parts}
use Rattle.cu_flattext.specs.declared.expressions.Expressions.{Expressions}
use Rattle.cu_flattext.specs.declared.task.Task.{Task}
use Rattle.cu_flattext.specs.declared.task.Task.TheVariants as task
use Rattle.cu_flattext.specs.declared.wording.Wording.{Wording}

pub rule_left : (w : Wording) (nothing bound : Expressions) (tasks : List Task) (xs : List ℕ) (e : ExprId) (depth : ℕ)
    → nothing.tasks.items ≡ [] → numbers_of nothing.numbers ≡ no_numbers → nothing.next ≡ 1 → bound.wording ≡ w
    → numbers_of bound.numbers ≡ all_numbered xs nothing.next (numbers_of nothing.numbers) → bound.next ≡ nothing.next + length xs
    → Restores nothing bound → depth ≡ length w.flat.now.expressions → tasks ≡ bound.tasks.items ++ task.Expression e depth ∷ []
    → all_parts (lowered_of bound.wording) bound.wording.flat.now (reverse tasks) bound.next (numbers_of bound.numbers)
    ≡ rule_expression (lowered_of w) w.flat.now xs e
rule_left w nothing bound tasks xs e depth no_task unnumbered first same numbers next restores deep is =
    let program = lowered_of w in
    let code = w.flat.now in
    let text = expression_text program bound.next (numbers_of bound.numbers) (term_within depth code e) in
    let after = bound.next + bindings (term_within depth code e) in
    ap (λ (v : Wording). all_parts (lowered_of v) v.flat.now (reverse tasks) bound.next (numbers_of bound.numbers)) same
    ∙ ap (λ (us : List Task). all_parts program code (reverse us) bound.next (numbers_of bound.numbers)) is
    ∙ ap (λ (us : List Task). all_parts program code us bound.next (numbers_of bound.numbers)) (reverse-append bound.tasks.items (task.Expression e depth ∷ []))
    ∙ ap (λ (rest : List ℕ). text ++ rest)
    (restores program code after ∙ ap (λ (us : List Task). all_parts program code (reverse us) after (numbers_of nothing.numbers)) no_task)
    ∙ append-nil text
    ∙ ap (λ (v : Numbers). expression_text program bound.next v (term_within depth code e))
    (numbers ∙ ap (λ (v : Numbers). all_numbered xs nothing.next v) unnumbered ∙ ap (λ n. all_numbered xs n no_numbers) first)
    ∙ ap (λ n. expression_text program n (all_numbered xs 1 no_numbers) (term_within depth code e)) (next ∙ ap (λ n. n + length xs) first)
    ∙ ap (λ d. expression_text program (1 + length xs) (all_numbered xs 1 no_numbers) (term_within d code e)) deep
