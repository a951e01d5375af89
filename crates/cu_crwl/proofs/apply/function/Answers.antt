use Rattle.std.proofs.Common.{length, map, option_map, refl, sym, ap, ◌∙◌}
use Rattle.std.proofs.lemmas.Option.{slice_get-map, slice_get_past, slice_get_read}
use Rattle.cu_kernel.specs.Heads.{heads_program}
use Rattle.cu_kernel.specs.Kernel.{plain_function}
use Rattle.cu_kernel.specs.KernelOf.{function_meaning}
use Rattle.cu_crwl.proofs.apply.function.Goals as goal

pub returns-in-Some : goal.returns-in-Some
unfolding heads_program
returns-in-Some c =
    let found = c.in-Some.ensures.lookup in
    let fs = c.args.heads.now.functions.now in
    sym (slice_get-map plain_function (map function_meaning fs) c.args.f.0 ∙ ap (option_map plain_function)
    (slice_get-map function_meaning fs c.args.f.0 ∙ ap (option_map function_meaning) (slice_get_read fs (length fs) c.args.f.0 c.in-Some.function.now refl found.3.0 found.1)))

pub returns-in-None : goal.returns-in-None
unfolding heads_program
returns-in-None c =
    let missing = c.in-None.ensures.lookup in
    let fs = c.args.heads.now.functions.now in
    sym (slice_get-map plain_function (map function_meaning fs) c.args.f.0 ∙ ap (option_map plain_function)
    (slice_get-map function_meaning fs c.args.f.0 ∙ ap (option_map function_meaning) (slice_get_past fs c.args.f.0 missing.3)))
