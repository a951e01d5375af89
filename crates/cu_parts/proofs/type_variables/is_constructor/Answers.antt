use Rattle.std.proofs.Common.{◌≡◌, ◌<◌, ◌∙◌, List, ap, length, arith}
use Rattle.cu_kernel.specs.LocalValid.{all_have_parameters}
use Rattle.cu_kernel.specs.TypesOf.{types_of}
use Rattle.cu_kernel.specs.declared.type_term.TypeTerm.{TypeTerm}
use Rattle.cu_parts.proofs.TypeLists.{constructor_by}
use Rattle.cu_parts.proofs.type_variables.is_constructor.Goals as goal

pub returns-then-len-lt-ARITY_END : goal.returns-then-len-lt-ARITY_END
returns-then-len-lt-ARITY_END c =
    let fields = c.args.constructor.now.fields in
    let count : c.len.result ≡ length fields.items = c.len.ensures ∙ fields.ok.0 in
    let low : length fields.items < 4294967295 = omega (arith, count) in
    constructor_by c.args.count c.args.constructor.now c.all_have_parameters.result low
    (c.all_have_parameters.ensures ∙ ap (λ (ts : List TypeTerm). all_have_parameters c.args.count (types_of ts)) c.as_slice.ensures.value)
