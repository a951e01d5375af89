-- Functions that begin among rules, one rule after another.
use Rattle.std.specs.Prelude.{◌≡◌, ℕ, List, [], ◌∷◌, Option, None, Some, IfSome, if◌then◌else◌}
use Rattle.std.specs.Option.{option_map}
use Rattle.cu_names.specs.declared.names.NameId.{NameId}
use Rattle.cu_names.specs.Texts.{IsKnown, text_of}
use Rattle.cu_toplevel.specs.Heads.{Head, head_of_rule}
use Rattle.cu_translation.specs.Rules.{Begun, Rule, begun_by, goes_on}

-- the function to which an item belongs, where the item before belongs to `before`
abbrev pub begun_with : Option Begun → Option Rule → Option Begun
begun_with before None = None
begun_with before (Some r) = Some (begun_by before r.name r.at)

-- the function that begins with an item, if one does, where the item before belongs to `before`
abbrev pub heads_with : Option Begun → Option Rule → List Head
heads_with before None = []
heads_with before (Some r) = if goes_on before r.name then [] else head_of_rule r ∷ []

-- the function to which the last of these items belongs, where the item before them belongs to
-- `before`
abbrev pub begun_after : Option Begun → List (Option Rule) → Option Begun
begun_after before [] = before
begun_after before (d ∷ ds) = begun_after (begun_with before d) ds

-- The code has the name of the function to which an item belongs, if any, and a table has the name.
pub record IsBegun (names : List (List ℕ)) (begun : Option Begun) (name : Option NameId) : Type 0
  where
    pub same : option_map (text_of names) name ≡ option_map (λ (b : Begun). b.name) begun
    pub known : IfSome name (IsKnown names)
