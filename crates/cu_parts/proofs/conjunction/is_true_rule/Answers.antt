use Rattle.std.proofs.Common.{refl}
use Rattle.cu_kernel.proofs.VariantTests.{few_patterns, many_patterns}
use Rattle.cu_parts.proofs.conjunction.is_true_rule.Goals as goal
use Rattle.cu_kernel.specs.LocalTermsOf.{local_term_of}
use Rattle.cu_parts.specs.Inside.LocalConjunction.{is_local_true}

pub returns-in_default : goal.returns-in_default
returns-in_default c =
    few_patterns (is_local_true c.args.special.now (local_term_of c.args.rule.now.body)) refl (λ p. refl) c.args.rule.now.params.items
    c.as_slice.result.now c.as_slice.ensures.value c.in_default.len_below

pub returns-in_default-2 : goal.returns-in_default-2
returns-in_default-2 c =
    many_patterns (is_local_true c.args.special.now (local_term_of c.args.rule.now.body)) (λ p q r ps. refl) c.args.rule.now.params.items
    c.as_slice.result.now c.as_slice.ensures.value c.in_default.len_at_least
