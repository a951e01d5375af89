use Rattle.std.proofs.lemmas.Result.{on_ok_weaker}
use Rattle.cu_parts.proofs.BinderSteps.{case_binders, free_binders, let_binders, literal_binders, variable_binders}
use Rattle.cu_parts.proofs.binders.+binders.Goals as goal

pub push_term-returns-in-Var : goal.push_term-returns-in-Var
push_term-returns-in-Var t c = variable_binders c.args.found.now.items c.args.term.now c.in-Var.field-0 c.in-Var.is

pub push_term-returns-in-Lit : goal.push_term-returns-in-Lit
push_term-returns-in-Lit t c = literal_binders c.args.found.now.items c.args.term.now c.in-Lit.field-0 c.in-Lit.is

pub push_term-returns-in_ok-push-in-Let : goal.push_term-returns-in_ok-push-in-Let
push_term-returns-in_ok-push-in-Let t c =
    on_ok_weaker c.push_two-in-Let.result
    (let_binders c.args.found.now.items c.push.new.self.items c.push_two-in-Let.new.found.items c.args.term.now c.deref-in-Let.result.now
    c.deref-in-Let-2.result.now c.in-Let.x c.in-Let.value c.in-Let.body c.in-Let.is c.deref-in-Let.ensures c.deref-in-Let-2.ensures
    c.in_ok-push-in-Let.ensures.items)
    c.push_two-in-Let.ensures

pub push_term-returns-in_ok-push-in-Free : goal.push_term-returns-in_ok-push-in-Free
push_term-returns-in_ok-push-in-Free t c =
    on_ok_weaker c.push_term.result
    (free_binders c.args.found.now.items c.push-in-Free.new.self.items c.push_term.new.found.items c.args.term.now c.deref-in-Free.result.now
    c.in-Free.x c.in-Free.body c.in-Free.is c.deref-in-Free.ensures c.in_ok-push-in-Free.ensures.items)
    c.push_term.ensures

pub push_term-returns-in_ok-push_term-in-Case : goal.push_term-returns-in_ok-push_term-in-Case
push_term-returns-in_ok-push_term-in-Case t c =
    on_ok_weaker c.push_alternatives.result
    (case_binders c.args.found.now.items c.push_term-in-Case.new.found.items c.push_alternatives.new.found.items c.args.term.now
    c.deref-in-Case.result.now c.in-Case.field-0 c.in-Case.scrutinee c.in-Case.alternatives c.deref-in-Case-2.result.now c.in-Case.is
    c.deref-in-Case.ensures c.deref-in-Case-2.ensures.value c.in_ok-push_term-in-Case.ensures)
    c.push_alternatives.ensures
