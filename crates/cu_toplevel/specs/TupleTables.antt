-- Names of tuples in a table of names.
use Rattle.std.specs.HashMap.{get}
use Rattle.std.specs.Prelude.{◌≡◌, ℕ, List, ◌++◌, Option, None, Some, IfSome, codes, nat_eq, slice_get}
use Rattle.std.specs.List.{Contains}
use Rattle.cu_modules.specs.BuiltInEntities.{commas}
use Rattle.cu_names.specs.declared.names.NameId.{NameId}
use Rattle.cu_toplevel.specs.declared.tuples.TupleNames.{TupleNames}

-- the text of so many commas in parentheses
abbrev pub tuple_text : ℕ → List ℕ
tuple_text n = codes "(" ++ (commas n ++ codes ")")

-- The number that was found is that of the text, and where none was found the table lacks the text.
pub record IsFound (names : List (List ℕ)) (text : List ℕ) (found : Option NameId) : Type 0 where
  pub is : IfSome found (λ id. slice_get names id.0 ≡ Some text)
  pub absent : found ≡ None → ¬ (Contains names text)

pub record AreTuples (names : List (List ℕ)) (t : TupleNames) : Type 0 where
  pub each : (n : ℕ) → IsFound names (tuple_text n) (get nat_eq t.by_commas n)
