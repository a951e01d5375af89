use Rattle.std.proofs.Common.{◌≡◌, drop}
use Rattle.std.specs.List.{list_all}
use Rattle.cu_calculus.specs.Shape.{is_of}
use Rattle.cu_kernel.specs.Heads.{heads_program}
use Rattle.cu_crwl.proofs.of_program.all_of.Given as goal

abbrev pub invariant-loop-value : goal.invariant-loop-value
invariant-loop-value l = list_all (is_of (heads_program l.heads)) (drop l.value-index l.values) ≡ list_all (is_of (heads_program l.heads)) l.values
