use Rattle.std.proofs.Common.{◌≡◌, false, true, ap, sym, ◌∙◌}
use Rattle.cu_parts.proofs.LocalVariants.{distinction, no_distinction}
use Rattle.cu_parts.proofs.conjunction.is_distinction.Goals as goal
use Rattle.cu_parts.proofs.conjunction.is_distinction.Goals.{then-is_flex, else-is_flex}
use Rattle.cu_kernel.specs.LocalTermsOf.{local_alternatives_of, local_term_of}
use Rattle.cu_kernel.specs.Tests.{same_variable}
use Rattle.cu_parts.specs.Inside.LocalConjunction.{are_local_branches, local_variable}

pub returns-then-same_variable : goal.returns-then-same_variable
returns-then-same_variable c =
    elim c.if-is_flex.branch [
      | then-is_flex w ↦
          distinction c.args.special.now c.args.x c.args.y c.args.term.now c.in-Case.mode c.in-Case.scrutinee c.in-Case.alternatives c.are_branches.result
          c.in-Case.is (sym c.is_flex.ensures ∙ w.if-is_flex.true)
          (ap (λ v. same_variable c.args.x v) (sym (w.term_variable.ensures ∙ ap (λ s. local_variable (local_term_of s)) w.deref.ensures)) ∙ sym w.same_variable.ensures
          ∙ sym w.value-is ∙ c.if-same_variable.true)
          (c.are_branches.ensures ∙ ap (λ rows. are_local_branches c.args.special.now c.args.y (local_alternatives_of rows)) c.deref-then-same_variable.ensures.value)
      | else-is_flex w ↦
          let none : true ≡ false = sym c.if-same_variable.true ∙ w.value-is ∙ w.if-is_flex.false in absurd (cc)
    ]

pub returns-in_default : goal.returns-in_default
returns-in_default c = no_distinction c.args.special.now c.args.x c.args.y c.args.term.now c.in_default.not-Case
