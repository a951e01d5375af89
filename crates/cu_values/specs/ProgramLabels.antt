-- What a kernel program calls its entities, by a table of names.
use Rattle.std.specs.Prelude.{ℕ, Bool, false, ◌&&◌, List, [], Option, None, Some, nat_le, option_map, slice_get}
use Rattle.std.specs.Option.{unwrap_or}
use Rattle.cu_names.specs.declared.names.NameId.{NameId}
use Rattle.cu_names.specs.Texts.{text_of}
use Rattle.cu_kernel.specs.Kernel.{Kernel, constructor_at}
use Rattle.cu_values.specs.Display.{Labels}

-- the text of a name, and no byte where there is no name
abbrev pub label : List (List ℕ) → Option NameId → List ℕ
label names None = []
label names (Some id) = text_of names id

-- Whether a type is unit or a type of tuples, by its index. Unit and the types of tuples of 2 to 15
-- components have the indices 1 to 15 among the types of every program.
abbrev pub is_tuple_type : Option ℕ → Bool
is_tuple_type None = false
is_tuple_type (Some place) = nat_le 1 place && nat_le place 15

-- what a program calls its entities: the texts of their names, by a table of names
abbrev pub labels_of : List (List ℕ) → Kernel → Labels
labels_of names program = record {
  constructor =
      λ c. label names (option_map (λ p. p.constructor.name) (constructor_at program.types c));
  tuple = λ c. is_tuple_type (option_map (λ p. p.of_type) (constructor_at program.types c));
  function =
      λ f. label names (option_map (λ function. function.name) (slice_get program.functions f.0));
  arity =
      λ f. unwrap_or (option_map (λ function. function.arity) (slice_get program.functions f.0)) 0;
  nil = program.special.nil;
  cons = program.special.cons;
}
