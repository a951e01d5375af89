use Rattle.std.proofs.Common.{ap, subst, sym, ◌∙◌}
use Rattle.std.specs.Prelude.{Ok}
use Rattle.cu_calculus.specs.FlatProgram as code
use Rattle.cu_calculus.specs.Program.{Program}
use Rattle.cu_deftree.specs.LoweredProgram.{Lowering}
use Rattle.cu_flat.specs.Layout.{laid_out}
use Rattle.cu_kernel.specs.Kernel.{program_of}
use Rattle.cu_deftree.proofs.LoweredMeaning.{is_flat_program, levels_stay, meaning_stays}
use Rattle.cu_deftree.proofs.lowered_program.lower.Goals as goal

pub lowered_program-requires : goal.lowered_program-requires
lowered_program-requires c = c.requires

pub of-requires : goal.of-requires
of-requires c =
    is_flat_program (program_of c.args.program.now) (program_of c.in_ok-lowered.lowered) c.lowered_program.ensures.valid.program
    c.in_ok-lowered.ensures.flat

pub returns-clause-flat : goal.returns-clause-flat
returns-clause-flat c =
    subst (λ (flat : Program). Lowering (program_of c.args.program.now) (Ok flat)) (sym c.in_ok-flat.ensures.code) c.in_ok-lowered.ensures.flat

pub returns-clause-layout : goal.returns-clause-layout
returns-clause-layout c = c.in_ok-flat.ensures.layout ∙ ap laid_out (sym c.in_ok-flat.ensures.code)

pub returns-clause-meaning : goal.returns-clause-meaning
returns-clause-meaning c =
    meaning_stays (program_of c.args.program.now) (code.program_of c.in_ok-flat.flat) c.lowered_program.ensures.valid.program
    (subst (λ (flat : Program). Lowering (program_of c.args.program.now) (Ok flat)) (sym c.in_ok-flat.ensures.code) c.in_ok-lowered.ensures.flat)

pub returns-clause-levels : goal.returns-clause-levels
returns-clause-levels c =
    levels_stay (program_of c.args.program.now) (code.program_of c.in_ok-flat.flat)
    (subst (λ (flat : Program). Lowering (program_of c.args.program.now) (Ok flat)) (sym c.in_ok-flat.ensures.code) c.in_ok-lowered.ensures.flat)
