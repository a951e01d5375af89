use Rattle.std.proofs.Common.{◌∙◌, refl, sym}
use Rattle.cu_faults.proofs.RecursiveLemmas.{not_recursive, recursive_told, unnamed}
use Rattle.cu_faults.proofs.ToldLemmas.{told_as, told_none}
use Rattle.cu_faults.proofs.functions.recursive.Goals as goal

pub returns-in_default : goal.returns-in_default
returns-in_default c nodes are = told_as (sym (unnamed nodes c.args.variable c.in_default.not-At)) (told_none c.args.owner c.args.first.now)

pub returns-then-branch : goal.returns-then-branch
returns-then-branch c nodes are =
    told_as (sym (recursive_told nodes c.args.variable c.in-At.at c.in-At.is (sym (c.in_ok-is_recursive.ensures nodes are) ∙ c.if-branch.true))) (c.tell.ensures c.args.owner refl)

pub returns-else-branch : goal.returns-else-branch
returns-else-branch c nodes are =
    told_as (sym (not_recursive nodes c.args.variable c.in-At.at c.in-At.is (sym (c.in_ok-is_recursive.ensures nodes are) ∙ c.if-branch.false)))
    (told_none c.args.owner c.args.first.now)
