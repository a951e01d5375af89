-- What the nodes of a text use and declare.
use Rattle.std.specs.Prelude.{◌≡◌, ℕ, List, ◌++◌, Option, length, map, option_map}
use Rattle.std.specs.List.{flat_map}
use Rattle.cu_lex.specs.Located.{Position}
use Rattle.cu_syntax.specs.declared.expressions.OperatorItem.{OperatorItem}
use Rattle.cu_syntax.specs.Names.{name_meaning}
use Rattle.cu_translation.specs.declared.local_names.Local as code
use Rattle.cu_translation.specs.Dependencies.{use_of, used_by}
use Rattle.cu_translation.specs.LocalNames.{Binder, Local, Scope}
use Rattle.cu_translation.specs.Meaning.{local_meaning, position_meaning}
use Rattle.cu_translation.specs.Numbering.{binders_of}
use Rattle.cu_translation.specs.Sites.{Node}
use Rattle.cu_sites.specs.Numbered.{binders_meaning}
use Rattle.cu_sites.specs.declared.uses.Usage as usages
use Rattle.cu_sites.specs.Meaning.{innermost}

abbrev pub locals_meaning : List code.Local → List Local
locals_meaning found = map local_meaning found

-- A list of local names of the code grew by these.
pub record Finds (before : List code.Local) (added : List Local) (after : List code.Local)
    : Type 0 where
  pub finds : locals_meaning after ≡ locals_meaning before ++ added

-- the local names that operators mean in a scope
abbrev pub operators_mean : List (List ℕ) → Scope → List OperatorItem → List Local
operators_mean names scope items =
    flat_map (λ (i : OperatorItem). use_of scope (name_meaning names i.operator)) items

-- what a node uses and declares, and where it stands
pub record Usage : Type 0 where
  pub function : Option Position
  pub depth : ℕ
  pub used : List Local
  pub declared : List Binder

abbrev pub usage_from : Option Position → ℕ → List Local → List Binder → Usage
usage_from function depth used declared =
    record { function = function; depth = depth; used = used; declared = declared }

abbrev pub usage_of : Node → Usage
usage_of n =
    usage_from (innermost n.spot.functions) (length n.spot.functions) (used_by n) (binders_of n)

abbrev pub usage_meaning : usages.Usage → Usage
usage_meaning u =
    usage_from (option_map position_meaning u.function) u.depth (locals_meaning u.used.items)
    (binders_meaning u.declared.items)

abbrev pub usages_meaning : List usages.Usage → List Usage
usages_meaning found = map usage_meaning found
