use Rattle.std.proofs.Common.{◌≡◌, ◌∙◌, ap, length, map, rules, subst, ℕ, List, Option, IfNone, IfSome}
use Rattle.cu_calculus.specs.Value.{Value}
use Rattle.cu_kernel.specs.Kernel.{program_of}
use Rattle.cu_verdict.specs.Proved.{ProvesAnswer}
use Rattle.cu_verdict.specs.declared.answer.Answer.{Answer}
use Rattle.cu_crwl.specs.Meaning.{claim_of}
use Rattle.cu_kernel.specs.KernelOf.{goal_meaning}
use Rattle.cu_cmd.specs.Checking.{yes, yes_line}
use Rattle.cu_cmd.specs.Listings.{notation_of}
use Rattle.cu_search.specs.Lines.{answer_text}
use Rattle.cu_cmd.proofs.CheckLemmas.{answer_ends, claims_counted, no_answer_ends, verdict_whole}
use Rattle.cu_cmd.proofs.checking.check_proof.Goals as goal

pub returns-in_ok-text-in-Some-found-clause-ends : goal.returns-in_ok-text-in-Some-found-clause-ends
returns-in_ok-text-in-Some-found-clause-ends g c = λ sought has.
    let rows = c.args.file.now.claims.rows in
    let size : Rattle.std.specs.Vec.vec_len rows ≡ length rows.items = search rules in
    answer_ends c.write_yes.result c.args.names.now c.args.compiled.now.program (goal_meaning c.in-Some.goal.now) sought (map claim_of c.args.file.now.claims.rows.items) c.args.file.now.proof
    c.in-Some-found.answer.bindings.items c.in-Some-found.answer.value c.deref-in-Some-found.result.now c.len.result _ _
    c.in-Some.ensures.goal has
    (subst (λ (found : Option Answer). IfSome found (λ answer. ProvesAnswer (program_of c.args.compiled.now.program) (goal_meaning c.in-Some.goal.now)
    (map claim_of c.args.file.now.claims.rows.items) c.args.file.now.proof answer.bindings.items answer.value)) c.in-Some-found.is c.in_ok-found.ensures.some)
    (c.deref-in-Some-found.ensures.value ∙ subst (λ (bindings : List Value). c.in_ok-text-in-Some-found.text.items
    ≡ answer_text (notation_of c.args.names.now c.args.compiled.now.program (goal_meaning c.in-Some.goal.now)) bindings c.in-Some-found.answer.value)
    c.deref.ensures.value c.in_ok-text-in-Some-found.ensures)
    (c.len.ensures ∙ (size ∙ claims_counted rows.items)) c.write_yes.ensures.status c.write_yes.ensures.whole c.write_yes.ensures.prefix

pub returns-in_ok-text-in-Some-found-clause-whole : goal.returns-in_ok-text-in-Some-found-clause-whole
returns-in_ok-text-in-Some-found-clause-whole g c = λ check.
    verdict_whole c.write_yes.result check (yes_line c.deref-in-Some-found.result.now c.len.result) _ _ _ _
    (yes (notation_of c.args.names.now c.args.compiled.now.program (goal_meaning c.in-Some.goal.now)) c.deref.result.now c.in-Some-found.answer.value c.len.result
    (ap (λ (text : List ℕ). yes_line text c.len.result) (c.deref-in-Some-found.ensures.value ∙ c.in_ok-text-in-Some-found.ensures)))
    c.write_yes.ensures.status c.write_yes.ensures.whole c.write_yes.ensures.cause

pub returns-in-None-clause-ends : goal.returns-in-None-clause-ends
returns-in-None-clause-ends g c = λ sought has.
    no_answer_ends c.write_no.result c.args.names.now c.args.compiled.now.program (goal_meaning c.in-Some.goal.now) sought (map claim_of c.args.file.now.claims.rows.items) c.args.file.now.proof
    _ _ c.in-Some.ensures.goal has
    (subst (λ (found : Option Answer). IfNone found ((bindings : List Value) (v : Value) → ProvesAnswer (program_of c.args.compiled.now.program) (goal_meaning c.in-Some.goal.now)
    (map claim_of c.args.file.now.claims.rows.items) c.args.file.now.proof bindings v → ⊥)) c.in-None.is c.in_ok-found.ensures.none)
    c.write_no.ensures.status c.write_no.ensures.whole c.write_no.ensures.prefix
