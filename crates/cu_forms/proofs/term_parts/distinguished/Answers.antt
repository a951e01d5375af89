use Rattle.std.proofs.Common.{◌∙◌, ap, map}
use Rattle.cu_kernel.specs.LocalTerm as kernel
use Rattle.cu_kernel.specs.LocalTermsOf.{local_term_of}
use Rattle.cu_forms.specs.Inside.Blocks.{row_meaning}
use Rattle.cu_forms.specs.Inside.Expressions.{alternatives_term}
use Rattle.cu_forms.proofs.ExpressionLemmas.{case_is}
use Rattle.cu_forms.proofs.term_parts.distinguished.Goals as goal

pub returns : goal.returns
returns c =
    case_is c.mode.result c.in_ok-subject.subject c.args.subject c.args.rows c.in_ok-subject.ensures.ok
    ∙ ap (λ m. kernel.Case m (local_term_of c.args.subject) (alternatives_term (map row_meaning c.args.rows.items))) c.mode.ensures
