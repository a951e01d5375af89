-- What is known of functions while the types of a group are inferred.
use Rattle.std.specs.Prelude.{◌≡◌, ℕ, ◌+◌, List, [], ◌∷◌, Option, None, Some, slice_get, slice_index_or, take}
use Rattle.cu_calculus.specs.declared.FunId.{FunId}
use Rattle.cu_kernel.specs.Kernel.{Kernel}
use Rattle.cu_kernel.specs.TypeExpr as type
use Rattle.cu_kernel.specs.TypeExpr.{TypeExpr}
use Rattle.cu_types.specs.Equations as asked
use Rattle.cu_types.specs.Equations.{Scheme, Assumptions, arity_of, function_body}
use Rattle.cu_types.specs.BuiltInTypes.{arrows, data_type, variables_from}
use Rattle.cu_types.specs.declared.known.Known.{Known}
use Rattle.cu_types.specs.declared.known.Known.TheVariants as known
use Rattle.cu_types.specs.declared.known.Member.{Member}
use Rattle.cu_types.specs.declared.known.Scheme as code
use Rattle.cu_types.specs.declared.known.Scheme.TheVariants as scheme
use Rattle.cu_types.specs.declared.known.Signing.{Signing}

-- the scheme that a scheme of the code stands for
abbrev pub scheme_of : code.Scheme → Scheme
scheme_of scheme.Unknown = asked.Polymorphic [] (type.Variable 0)
scheme_of (scheme.Monomorphic first arity) =
    asked.Monomorphic (arrows (variables_from first arity) (type.Variable (first + arity)))
scheme_of (scheme.Polymorphic first count t) = asked.Polymorphic (variables_from first count) t.now

abbrev pub member_scheme : Member → Option TypeExpr → Scheme
member_scheme m None =
    asked.Monomorphic (arrows (variables_from m.first m.arity) (type.Variable (m.first + m.arity)))
member_scheme m (Some t) = asked.Polymorphic (take m.captured (variables_from m.first m.arity)) t

abbrev pub scheme_known : Option Known → Scheme
scheme_known None = asked.Polymorphic [] (type.Variable 0)
scheme_known (Some known.Nothing) = asked.Polymorphic [] (type.Variable 0)
scheme_known (Some (known.Typed t)) = asked.Polymorphic [] t
scheme_known (Some (known.Member m)) = member_scheme m m.declared

-- the type that is known of a function outside the group, and a variable where none is
abbrev pub kept_type : Known → TypeExpr
kept_type known.Nothing = type.Variable 0
kept_type (known.Typed t) = t
kept_type (known.Member m) = type.Variable 0

-- the type of all values of a type, by the place of the data type that set functions give
abbrev pub values_at : Option ℕ → TypeExpr → TypeExpr
values_at None t = type.Variable 0
values_at (Some place) t = data_type place (t ∷ [])

-- what is known of heads, as the definitions have it
abbrev pub assumptions_by : Signing → Assumptions
assumptions_by s = record {
  function = λ f. scheme_known (slice_get s.known.now f.0);
  constructor = λ c. slice_index_or s.constructors.now c.0 (type.Variable 0);
  arity = λ f. arity_of (slice_get s.program.now.functions f.0);
  values = values_at s.values;
}

-- the member of a group that a member of the code stands for, whose function is f
abbrev pub member_of : Kernel → FunId → Member → asked.Member
member_of kernel f m = record {
  function = f;
  arity = m.arity;
  captured = m.captured;
  declared = m.declared;
  body = function_body (slice_get kernel.functions f.0);
  first = m.first;
}

abbrev pub IsMember : Kernel → Option Known → FunId → asked.Member → Type 0
IsMember kernel (Some (known.Member c)) f m = member_of kernel f c ≡ m
IsMember kernel _ f m = ⊥

-- the functions of a group are known as these members
abbrev pub AreMembers : Kernel → List Known → List FunId → List asked.Member → Type 0
AreMembers kernel ks [] [] = Unit {0}
AreMembers kernel ks (f ∷ fs) (m ∷ ms) = IsMember kernel (slice_get ks f.0) f m
    × AreMembers kernel ks fs ms
AreMembers kernel ks [] (m ∷ ms) = ⊥
AreMembers kernel ks (f ∷ fs) [] = ⊥
