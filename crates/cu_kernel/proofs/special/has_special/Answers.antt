use Rattle.std.proofs.Common.{◌&&◌, ap, sym, ◌∙◌}
use Rattle.cu_kernel.proofs.SpecialLemmas.{both_found, both_missing}
use Rattle.cu_kernel.proofs.special.has_special.Goals as goal
use Rattle.cu_kernel.specs.Heads.{heads_program}
use Rattle.cu_kernel.specs.Tests.{has_constants}

pub returns-then-is_both : goal.returns-then-is_both
returns-then-is_both c =
    let found = both_found c.args.heads.now c.in-Some.function.now c.in-Some.ensures.lookup.3.0 c.in-Some.ensures.lookup.1 in
    c.has_constants.ensures ∙ ap (λ b. b && has_constants (heads_program c.args.heads.now)) c.if-is_both.ensures ∙ sym found

pub returns-else-is_both : goal.returns-else-is_both
returns-else-is_both c =
    let found = both_found c.args.heads.now c.in-Some.function.now c.in-Some.ensures.lookup.3.0 c.in-Some.ensures.lookup.1 in
    c.if-is_both.false ∙ ap (λ b. b && has_constants (heads_program c.args.heads.now)) c.if-is_both.ensures ∙ sym found

pub returns-in-None : goal.returns-in-None
returns-in-None c = both_missing c.args.heads.now c.in-None.ensures.lookup.3
