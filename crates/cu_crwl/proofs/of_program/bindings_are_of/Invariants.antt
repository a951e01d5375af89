use Rattle.std.proofs.Common.{◌≡◌, drop}
use Rattle.std.specs.List.{list_all}
use Rattle.cu_calculus.specs.Shape.{is_of}
use Rattle.cu_kernel.specs.Heads.{heads_program}
use Rattle.cu_crwl.proofs.of_program.bindings_are_of.Given as goal

abbrev pub invariant-loop-binding : goal.invariant-loop-binding
invariant-loop-binding l = list_all (λ b. is_of (heads_program l.heads) b.1) (drop l.binding-index l.bindings) ≡ list_all (λ b. is_of (heads_program l.heads) b.1) l.bindings
