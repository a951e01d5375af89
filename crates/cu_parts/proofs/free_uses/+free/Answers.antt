use Rattle.std.proofs.lemmas.Result.{on_ok_weaker}
use Rattle.cu_parts.proofs.FreeSteps.{case_free, let_free, literal_free}
use Rattle.cu_parts.specs.Inside.Scope.{bound_in}
use Rattle.cu_parts.proofs.free_uses.+free.Goals as goal

pub push_term-returns-in-Lit : goal.push_term-returns-in-Lit
push_term-returns-in-Lit t c = literal_free (bound_in c.args.scope.now) c.args.found.now.items c.args.term.now c.in-Lit.field-0 c.in-Lit.is

pub push_term-returns-in_ok-push_term-in-Let : goal.push_term-returns-in_ok-push_term-in-Let
push_term-returns-in_ok-push_term-in-Let t c =
    on_ok_weaker c.push_inside.result
    (let_free (bound_in c.args.scope.now) c.args.found.now.items c.push_term.new.found.items c.push_inside.new.found.items c.args.term.now
    c.deref-in-Let.result.now c.deref-in-Let-2.result.now c.in-Let.x c.in-Let.value c.in-Let.body c.in-Let.is c.deref-in-Let.ensures
    c.deref-in-Let-2.ensures c.in_ok-push_term-in-Let.ensures)
    c.push_inside.ensures

pub push_term-returns-in_ok-push_term-in-Case : goal.push_term-returns-in_ok-push_term-in-Case
push_term-returns-in_ok-push_term-in-Case t c =
    on_ok_weaker c.push_alternatives.result
    (case_free (bound_in c.args.scope.now) c.args.found.now.items c.push_term-in-Case.new.found.items c.push_alternatives.new.found.items c.args.term.now
    c.deref-in-Case.result.now c.in-Case.field-0 c.in-Case.scrutinee c.in-Case.alternatives c.deref-in-Case-2.result.now c.in-Case.is
    c.deref-in-Case.ensures c.deref-in-Case-2.ensures.value c.in_ok-push_term-in-Case.ensures)
    c.push_alternatives.ensures
