use Rattle.std.proofs.Common.{ℕ, ◌+◌, List, ◌++◌, codes, reverse, ap, ◌∙◌}
use Rattle.cu_calculus.specs.FlatProgram.{term_within}
use Rattle.cu_flattext.specs.ExpressionTexts.{Numbers, bindings, expression_text, numbered}
use Rattle.cu_flattext.specs.Inside.Stands.{numbers_of}
use Rattle.cu_flattext.specs.Inside.Tasks.{all_parts}
use Rattle.cu_flattext.specs.declared.task.Task.{Task}
use Rattle.cu_flattext.proofs.Numbering.{rebound}
use Rattle.cu_flattext.proofs.expressions.Expressions.scope.Goals as goal

pub returns-clause-tasks : goal.returns-clause-tasks
returns-clause-tasks c = λ program code n.
    let x = c.args.scoped.x in
    let k = c.args.self.now.next in
    let numbers = numbers_of c.args.self.now.numbers in
    let inner = numbered x k numbers in
    let t = term_within c.args.scoped.depth code c.args.scoped.body in
    let text = expression_text program n inner t in
    let m = n + bindings t in
    ap (λ (v : Numbers). all_parts program code (reverse c.leave.new.self.tasks.items) n v) (c.in_ok-leave.ensures.numbers ∙ c.in_ok-before.ensures.numbers)
    ∙ c.in_ok-leave.ensures.tasks program code n inner
    ∙ ap (λ (ts : List Task). text ++ (codes ")" ++ all_parts program code (reverse ts) m (numbered x c.in_ok-before.before inner))) c.in_ok-before.ensures.tasks
    ∙ ap (λ (v : Numbers). text ++ (codes ")" ++ all_parts program code (reverse c.args.self.now.tasks.items) m v))
    (ap (λ (b : ℕ). numbered x b inner) c.in_ok-before.ensures.before ∙ rebound x k numbers)
