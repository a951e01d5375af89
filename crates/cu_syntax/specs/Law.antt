-- Laws of what tokens are read as.
use Rattle.std.specs.Prelude.{◌≡◌, ◌<◌, ℕ, List, [], ◌∷◌, Ok, Result}
use Rattle.std.specs.List.{All}
use mathlib.Core.Logic.{◌⊎◌}
use Rattle.cu_lex.specs.Located.{Position}
use Rattle.cu_lex.specs.Munch.{Placed}
use Rattle.cu_lex.specs.Tokens.{Lexeme, tokens}
use Rattle.cu_syntax.specs.Parsing.{Fault, GoalRead, ModuleRead}
use Rattle.cu_syntax.specs.Syntax.{Goal, Module}

-- Tokens are read as one module at most, or have one fault.
abbrev pub ModulesAreReadOnce : Type 0
ModulesAreReadOnce = (tokens : List Lexeme) (outcome other : Result Module Fault)
    → ModuleRead tokens outcome → ModuleRead tokens other → outcome ≡ other

-- Tokens are read as one goal at most, or have one fault.
abbrev pub GoalsAreReadOnce : Type 0
GoalsAreReadOnce = (tokens : List Lexeme) (outcome other : Result Goal Fault)
    → GoalRead tokens outcome → GoalRead tokens other → outcome ≡ other

-- A place is before another: on an earlier line, or in an earlier column of its line.
abbrev pub IsBefore : Position → Position → Type 0
IsBefore p q = (p.line < q.line) ⊎ ((p.line ≡ q.line) × (p.column < q.column))

-- Each of these pieces stands before those that follow it.
abbrev pub Rise : {X : Type 0} → List (Placed X) → Type 0
Rise [] = Unit {0}
Rise (x ∷ xs) = All (λ y. IsBefore x.at y.at) xs × Rise xs

-- Each token of a text stands before those that follow it, so no two of them are at one place.
abbrev pub PlacesRise : Type 0
PlacesRise = (bytes : List ℕ) (found : List Lexeme) → tokens bytes ≡ Ok found → Rise found
