-- The texts of the modules that are built in.
use Rattle.std.specs.Prelude.{ℕ, List, Option, None, Some, codes, if◌then◌else◌}
use Rattle.std.specs.Str.{bytes_eq}
use Rattle.cu_prelude.specs.declared.prelude.TheConstants.{PRELUDE}
use Rattle.cu_prelude.specs.declared.set_functions.TheConstants.{SET_FUNCTIONS}

-- the text of the module of a name, if it is built in
abbrev pub built_in : List ℕ → Option (List ℕ)
built_in name =
    if bytes_eq name (codes "Prelude") then Some PRELUDE.now
    else if bytes_eq name (codes "SetFunctions") then Some SET_FUNCTIONS.now
    else None
