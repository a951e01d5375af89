-- Each function of a part has its mark, which counts no captured variables.
use Rattle.std.specs.Prelude.{◌≡◌, ◌&&◌, Bool, true, false, List, [], ◌∷◌, ◌++◌, ℕ, cond, length, map, refl}
use Rattle.std.specs.List.{list_all}
use Rattle.std.specs.Str.{bytes_eq}
use Rattle.cu_kernel.specs.LocalValid.{captures_nothing}
use Rattle.cu_modules.specs.BuiltInEntities.{prelude_name}
use Rattle.cu_modules.specs.Scopes.{Named}
use Rattle.cu_translation.specs.Externals.{External, externals}
use Rattle.cu_translation.specs.Functions.{external_function, top_function}
use Rattle.cu_translation.specs.ModuleTypes.{Reading}
use Rattle.cu_translation.specs.Numbered.{groups_in}
use Rattle.cu_translation.specs.Parts.{external_mark, function_mark, module_part, part_of, reading}
use Rattle.cu_translation.specs.Rules.{Group}
use Rattle.cu_translation.proofs.Following.{added, all_mapped, chosen}

counted : (modules : List Named) (r : Reading) → length (part_of modules r).marks ≡ length (part_of modules r).functions
counted modules r =
    added (cond (bytes_eq r.m.name prelude_name) (map (external_mark r) externals) []) (map (function_mark r) (groups_in r.m))
    (cond (bytes_eq r.m.name prelude_name) (map (external_function r.table) externals) []) (map (top_function r.table r.names) (groups_in r.m))
    (chosen (bytes_eq r.m.name prelude_name) (map (external_mark r) externals) (map (external_function r.table) externals)
    (all_mapped (external_mark r) (external_function r.table) externals))
    (all_mapped (function_mark r) (top_function r.table r.names) (groups_in r.m))

all_step : (a b c : Bool) → (a && b) ≡ true → (b ≡ true → c ≡ true) → (a && c) ≡ true
all_step true b c e h = h e
all_step false b c e h = e

all_joined : {X : Type 0} (p : X → Bool) (xs ys : List X) → list_all p xs ≡ true → list_all p ys ≡ true → list_all p (xs ++ ys) ≡ true
all_joined p [] ys e f = f
all_joined p (x ∷ xs) ys e f = all_step (p x) (list_all p xs) (list_all p (xs ++ ys)) e (λ g. all_joined p xs ys g f)

all_chosen : {X : Type 0} (p : X → Bool) (b : Bool) (xs : List X) → list_all p xs ≡ true → list_all p (cond b xs []) ≡ true
all_chosen p true xs e = e
all_chosen p false xs e = refl

functions_capture_nothing : (r : Reading) (gs : List Group) → list_all captures_nothing (map (function_mark r) gs) ≡ true
functions_capture_nothing r [] = refl
functions_capture_nothing r (g ∷ gs) = functions_capture_nothing r gs

externals_capture_nothing : (r : Reading) (es : List External) → list_all captures_nothing (map (external_mark r) es) ≡ true
externals_capture_nothing r [] = refl
externals_capture_nothing r (e ∷ es) = externals_capture_nothing r es

nothing : (modules : List Named) (r : Reading) → list_all captures_nothing (part_of modules r).marks ≡ true
nothing modules r =
    all_joined captures_nothing (cond (bytes_eq r.m.name prelude_name) (map (external_mark r) externals) [])
    (map (function_mark r) (groups_in r.m))
    (all_chosen captures_nothing (bytes_eq r.m.name prelude_name) (map (external_mark r) externals) (externals_capture_nothing r externals))
    (functions_capture_nothing r (groups_in r.m))

pub marks_are : (table : List (List ℕ)) (modules : List Named) (k : ℕ)
    → length (module_part table modules k).marks ≡ length (module_part table modules k).functions
marks_are table modules k = counted modules (reading table modules k)

pub marks_capture_nothing : (table : List (List ℕ)) (modules : List Named) (k : ℕ)
    → list_all captures_nothing (module_part table modules k).marks ≡ true
marks_capture_nothing table modules k = nothing modules (reading table modules k)
