-- What modules on the path have still to do, the innermost first.
use Rattle.std.specs.Prelude.{◌≡◌, ℕ, true, false, ◌⊎◌, List, [], ◌∷◌, ◌++◌, Option, None, Some, Result, Ok, Err}
use Rattle.std.specs.List.{All}
use Rattle.cu_names.specs.declared.names.NameId.{NameId}
use Rattle.cu_names.specs.Texts.{text_of}
use Rattle.cu_syntax.specs.Syntax.{Module}
use Rattle.cu_uses.specs.Binders.{is_among}
use Rattle.cu_modules.specs.declared.modules.Module as declared
use Rattle.cu_modules.specs.Ordering.{IsOwn, modules_of}
use Rattle.cu_modules.specs.Scopes.{Named}
use Rattle.cu_modules.specs.Walk.{Refusal, VisitAll, import_names, is_there}

-- ---- imports that are looked at, one after another

-- The imports before those that are left are done.
pub record Skipped (names : List (List ℕ)) (done : List declared.Module)
    (all left : List NameId) : Type 0 where
  pub prefix : List NameId
  pub there : All (λ id. is_there (modules_of names done) (text_of names id) ≡ true) prefix
  pub whole : all ≡ prefix ++ left

-- the first import that isn't done, if there is one, and those after it
abbrev pub Seeks : List (List ℕ) → List declared.Module → List NameId → Option NameId → List NameId
    → Type 0
Seeks names done all None left = Skipped names done all []
Seeks names done all (Some id) left = Skipped names done all (id ∷ left)
    × (is_there (modules_of names done) (text_of names id) ≡ false)

-- ---- modules on the path

-- A module on the path, with the imports that come after the one at hand.
pub record Open : Type 0 where
  pub name : List ℕ
  pub syntax : Module
  pub left : List (List ℕ)

abbrev pub named_of : Open → Named
named_of m = record { name = m.name; syntax = m.syntax }

abbrev pub path_of : List (List ℕ) → List Open → List (List ℕ)
path_of base [] = base
path_of base (m ∷ outer) = path_of base outer ++ m.name ∷ []

-- Visiting the imports that are left of a module is refused, and so is the whole walk.
pub record Stops (held : List ℕ → Option (List ℕ)) (path : List (List ℕ)) (done : List Named)
    (imports : List (List ℕ)) (outcome : Result (List Named) Refusal) : Type 0 where
  pub refusal : Refusal
  pub is : outcome ≡ Err refusal
  pub refused : VisitAll held path done imports (Err refusal)

-- Visiting the imports that are left of a module does these modules, and the walk goes on from
-- there.
pub record Ends (held : List ℕ → Option (List ℕ)) (path : List (List ℕ)) (done : List Named)
    (imports : List (List ℕ)) (GoesOn : List Named → Type 0) : Type 0 where
  pub after : List Named
  pub visited : VisitAll held path done imports (Ok after)
  pub rest : GoesOn after

-- what the walk comes to, where these modules are on the path, from the innermost to the outermost,
-- `base` is the path outside them, and these modules are done
abbrev pub Finishes : (List ℕ → Option (List ℕ)) → List (List ℕ) → List Open → List Named
    → Result (List Named) Refusal → Type 0
Finishes held base [] done outcome = outcome ≡ Ok done
Finishes held base (m ∷ outer) done outcome =
    Stops held (path_of base outer ++ m.name ∷ []) done m.left outcome
    ⊎ Ends held (path_of base outer ++ m.name ∷ []) done m.left
    (λ after. Finishes held base outer (after ++ named_of m ∷ []) outcome)

-- A module on the path, whose name isn't on the path before it. Its imports are met, but for those
-- that are left.
pub record IsPending (path met : List (List ℕ)) (m : Open) : Type 0 where
  pub prefix : List (List ℕ)
  pub imports : import_names (named_of m) ≡ prefix ++ m.left
  pub there : All (λ text. is_among met text ≡ true) prefix
  pub new : is_among path m.name ≡ false
  pub own : IsOwn (named_of m)

-- Each of the modules on the path is pending, and the root is met when they are done.
abbrev pub ArePending : List (List ℕ) → List ℕ → List (List ℕ) → List Open → Type 0
ArePending base root met [] = is_among met root ≡ true
ArePending base root met (m ∷ outer) = IsPending (path_of base outer) met m
    × ArePending base root (met ++ m.name ∷ []) outer
