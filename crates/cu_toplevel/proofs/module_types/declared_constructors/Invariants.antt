use Rattle.std.proofs.Common.{◌≡◌, ℕ, List, map, take}
use Rattle.std.specs.List.{All}
use Rattle.cu_kernel.specs.KernelOf as code
use Rattle.cu_names.specs.declared.names.NameId.{NameId}
use Rattle.cu_syntax.specs.Owners.{ConstructorDeclarationIsOf, NameIsOf}
use Rattle.cu_toplevel.specs.Readings.{IsReading}
use Rattle.cu_translation.specs.ModuleTypes.{Reading}
use Rattle.cu_toplevel.proofs.ModuleTypeLemmas.{meant_constructor}
use Rattle.cu_toplevel.proofs.module_types.declared_constructors.Given as goal

abbrev pub invariant-declared : goal.invariant-declared
invariant-declared l = (owner : NameId) (names : List (List ℕ)) (r : Reading) → IsReading names r l.reading → All (NameIsOf owner names) l.parameters → All (ConstructorDeclarationIsOf owner names) l.declared
    → map code.constructor_meaning l.constructors.items ≡ map (meant_constructor names r l.parameters) (take l.one-index l.declared)
