use Rattle.std.proofs.Common.{◌≡◌, ◌∙◌, ap, map}
use Rattle.cu_kernel.specs.Kernel.{program_of}
use Rattle.cu_kernel.specs.KernelOf as kernel
use Rattle.cu_flat.specs.Layout.{laid_out}
use Rattle.cu_flat.specs.Meaning.{code_of, constructor_meaning, entry_meaning, function_meaning}
use Rattle.cu_flat.proofs.Constructing.{laid-fits, laid-program, program-laid}
use Rattle.cu_flat.proofs.FlatProgram.of.Goals as goal

pub new-requires-2 : goal.new-requires-2
new-requires-2 c =
    let program = c.args.program.now in
    let is = program-laid program (map kernel.function_meaning c.functions.result.now) (map kernel.type_meaning c.types.result.now)
    (map function_meaning c.in_ok-functions.functions.items) (map constructor_meaning c.in_ok-constructors.constructors.items) c.special.result.now
    (map entry_meaning c.new.result.items) (map entry_meaning c.push_functions.new.self.entries.items) c.functions.ensures.functions
    (ap (map entry_meaning) c.new.ensures.items) c.in_ok-functions.ensures c.types.ensures.types c.in_ok-constructors.ensures c.special.ensures.special in
    laid-fits (program_of program) _ is c.functions.ensures.valid.program c.requires

pub returns-clause-code : goal.returns-clause-code
returns-clause-code c =
    let program = c.args.program.now in
    let is : code_of c.in_ok-functions.functions.items c.in_ok-constructors.constructors.items c.special.result.now c.push_functions.new.self.entries.items
    ≡ laid_out (program_of program) = program-laid program (map kernel.function_meaning c.functions.result.now) (map kernel.type_meaning c.types.result.now)
    (map function_meaning c.in_ok-functions.functions.items) (map constructor_meaning c.in_ok-constructors.constructors.items) c.special.result.now
    (map entry_meaning c.new.result.items) (map entry_meaning c.push_functions.new.self.entries.items) c.functions.ensures.functions
    (ap (map entry_meaning) c.new.ensures.items) c.in_ok-functions.ensures c.types.ensures.types c.in_ok-constructors.ensures c.special.ensures.special in
    laid-program (program_of program) c.new-2.result (c.new-2.ensures ∙ is) c.functions.ensures.valid.program c.requires
