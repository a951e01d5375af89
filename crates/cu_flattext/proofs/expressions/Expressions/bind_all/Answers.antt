use Rattle.std.proofs.Common.{◌≡◌, ℕ, List, [], ◌∷◌, ◌++◌, ap, arith, get_or, refl, ◌∙◌}
use Rattle.cu_flattext.specs.ExpressionTexts.{Numbers, numbered}
use Rattle.cu_flattext.specs.Inside.Stands.{numbers_of}
use Rattle.cu_flattext.specs.declared.task.Task.{Task}
use Rattle.cu_flattext.specs.declared.task.Task.TheVariants as task
use Rattle.cu_flattext.proofs.Numbering.{one_more_bound, rebound}
use Rattle.cu_flattext.proofs.Restored.{number_restored}
use Rattle.cu_flattext.proofs.expressions.Expressions.bind_all.Goals as goal

pub loop-x-preserved : goal.loop-x-preserved
loop-x-preserved c =
    let inv = c.loop-x.invariant in
    let x = get_or c.args.variables.now c.loop-x.x-index 0 in
    let numbers = numbers_of c.loop-x.self.numbers in
    let k = c.loop-x.self.next in
    let before = c.in_ok-before.before in
    record {
      numbers = one_more_bound c.args.variables.now c.loop-x.x-index x k c.bind.new.self.next numbers (numbers_of c.bind.new.self.numbers) _
          c.loop-x-test.true refl c.in_ok-before.ensures.next c.in_ok-before.ensures.numbers inv.numbers;
      next = omega (arith, c.in_ok-before.ensures.next, inv.next);
      wording = c.in_ok-before.ensures.wording ∙ inv.wording;
      tasks = λ program code n.
          let restored : numbered x before (numbers_of c.bind.new.self.numbers) ≡ numbers =
          ap (λ (v : Numbers). numbered x before v) c.in_ok-before.ensures.numbers
          ∙ ap (λ (b : ℕ). numbered x b (numbered x k numbers)) c.in_ok-before.ensures.before ∙ rebound x k numbers in
          number_restored program code c.loop-x.self.tasks.items c.push.new.self.items x before n (numbers_of c.bind.new.self.numbers) numbers
          (c.in_ok-push.ensures.items ∙ ap (λ (us : List Task). us ++ task.Number x before ∷ []) c.in_ok-before.ensures.tasks) restored
          ∙ inv.tasks program code n;
    }
