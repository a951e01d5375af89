use Rattle.cu_front_laws.proofs.CompiledTypes.{goals_declare_types, modules_declare_types, right_goals_declare, right_modules_declare}
use Rattle.cu_front_laws.proofs.types.accepted_types_are_declared.Goals as goal

pub returns : goal.returns
returns c = record {
  right_modules = λ held root modules table names program are is. right_modules_declare held root modules table names program are is;
  right_goals = λ held root modules k text goal table names program are has is.
      right_goals_declare held root modules k text goal table names program are has is;
  modules = λ held root modules names program interface flat compile.
      modules_declare_types held root modules names program interface flat compile;
  goals = λ held root text names program flat compiles. goals_declare_types held root text names program flat compiles;
}
