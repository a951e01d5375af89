-- The built-in entities of a table of heads.
use Rattle.std.proofs.Common.{◌≡◌, ◌<◌, ◌≤◌, false, ◌&&◌, Some, get_or, length, sym, ap}
use Rattle.cu_kernel.proofs.HeadLemmas.{function_at, function_past}
use Rattle.cu_kernel.specs.Heads.{heads_program}
use Rattle.cu_kernel.specs.Kernel.{plain_function}
use Rattle.cu_kernel.specs.KernelOf.{function_meaning}
use Rattle.cu_kernel.specs.Tests.{has_constants, has_special, is_both}
use Rattle.cu_kernel.specs.declared.heads.Heads.{Heads}
use Rattle.cu_kernel.specs.declared.term.Function.{Function}

pub both_found : (heads : Heads) (f : Function) → heads.special.now.both.0 < length heads.functions.now
    → f ≡ get_or heads.functions.now heads.special.now.both.0 f
    → has_special (heads_program heads)
    ≡ (is_both heads.special.now (Some (plain_function (function_meaning f))) && has_constants (heads_program heads))
unfolding heads_program
both_found heads f below is =
    ap (λ found. is_both heads.special.now found && has_constants (heads_program heads)) (function_at heads heads.special.now.both f below is)

pub both_missing : (heads : Heads) → length heads.functions.now ≤ heads.special.now.both.0 → false ≡ has_special (heads_program heads)
unfolding heads_program
both_missing heads past =
    sym (ap (λ found. is_both heads.special.now found && has_constants (heads_program heads)) (function_past heads heads.special.now.both past))
