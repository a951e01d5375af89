use Rattle.std.proofs.Common.{rules, ◌≡◌, ◌∙◌, ap, length, refl, sym, true}
use Rattle.std.specs.List.{list_all}
use Rattle.cu_calculus.specs.Proof.{env_of}
use Rattle.cu_calculus.specs.Shape.{is_total}
use Rattle.cu_crwl.specs.Meaning.{statement_of}
use Rattle.cu_kernel.specs.KernelOf.{goal_meaning}
use Rattle.cu_verdict.specs.Proved.{values_from}
use Rattle.cu_verdict.proofs.AnswerLaws.{no_goal_call, says}
use Rattle.cu_verdict.proofs.answer.answer_of.Goals as goal

pub returns-then-not-is_goal_call-clause-none : goal.returns-then-not-is_goal_call-clause-none
returns-then-not-is_goal_call-clause-none c =
    no_goal_call (goal_meaning c.args.goal.now) (statement_of c.args.concluded) (sym c.is_goal_call.ensures ∙ c.if-not-is_goal_call.true)

pub returns-clause-some : goal.returns-clause-some
returns-clause-some c =
    let asked = goal_meaning c.args.goal.now in
    let s = statement_of c.args.concluded in
    let bindings = c.in_ok-bindings.bindings.items in
    let vars : bindings ≡ values_from (env_of s) 0 (length asked.names) = search rules in
    let total : list_all is_total bindings ≡ true =
    ap (list_all is_total) (sym c.deref-2.ensures.value) ∙ sym c.are_total.ensures ∙ c.if-not-are_total.false in
    says asked s bindings c.args.concluded.value (sym c.is_goal_call.ensures ∙ c.if-not-is_goal_call.false) vars refl total
    (sym c.is_total.ensures ∙ c.if-not-is_total.false)
