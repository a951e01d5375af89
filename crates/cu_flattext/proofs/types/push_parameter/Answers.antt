use Rattle.std.proofs.Common.{◌≡◌, ℕ, ◌+◌, List, ◌++◌, ap, append_assoc, append-nil, arith, codes, sym, ◌∙◌}
use Rattle.std.proofs.lemmas.Result.{on_ok_weaker}
use Rattle.std.specs.Fmt.{decimal}
use Rattle.cu_flattext.specs.TypeTexts.{type_variable_text}
use Rattle.cu_flattext.proofs.ScopeLemmas.{parameter_absent, parameter_there}
use Rattle.cu_flattext.proofs.types.push_parameter.Goals as goal

pub returns-then-x-count : goal.returns-then-x-count
returns-then-x-count c =
    let page = c.args.page.now.text.items in
    sym (append-nil page) ∙ ap (λ (t : List ℕ). page ++ t) (sym (parameter_absent 0 c.args.count c.args.x c.if-x-count.true))

pub returns : goal.returns
returns c =
    let page = c.args.page.now.text.items in
    let number = decimal c.args.x in
    on_ok_weaker c.push_number.result
    (λ e. e ∙ ap (λ (t : List ℕ). t ++ number) c.in_ok-push_str.ensures ∙ append_assoc page (codes "TVar ") number
    ∙ ap (λ (t : List ℕ). page ++ t)
    (ap (λ k. type_variable_text (decimal k)) (let same : c.args.x ≡ 0 + c.args.x = omega arith in same)
    ∙ sym (parameter_there 0 c.args.count c.args.x (omega (arith, c.if-x-count.false)))))
    c.push_number.ensures
