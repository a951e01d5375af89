use Rattle.std.proofs.Common.{rules, ◌≡◌, ◌⊎◌, inl, inr, false, arith, ◌∙◌}
use borrow.Author.Tests.{tests}
use Rattle.cu_calculus.specs.Match.{same_constructor}
use Rattle.cu_values.specs.Inside.LabelsOf.{labels_meaning}
use Rattle.cu_values.proofs.StackLemmas.{other_is}
use Rattle.cu_values.proofs.shape.constructed_shape.Goals as goal
use Rattle.cu_values.proofs.shape.constructed_shape.Goals.{else-arity-eq2-via-then-arity-eq2+else-eq-2, else-arity-eq2-via-else-arity-eq2}

pub returns-else-arity-eq2 : goal.returns-else-arity-eq2
returns-else-arity-eq2 c vs h =
    let labels = labels_meaning c.args.names.now in
    let differs : (c.args.arity ≡ 2 → ⊥) ⊎ (same_constructor c.args.constructor labels.cons ≡ false) =
    elim c.else-arity-eq2.branch [
      | else-arity-eq2-via-then-arity-eq2+else-eq-2 w ↦ inr (search (rules, tests))
      | else-arity-eq2-via-else-arity-eq2 w ↦ inl (omega arith)
    ] in
    c.other_shape-other.ensures ∙ other_is labels c.args.constructor c.args.arity vs c.args.after.now h (omega arith) c.requires differs
