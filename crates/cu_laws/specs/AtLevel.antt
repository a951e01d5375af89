-- Graphs at a set level: which functions their nodes may mention there.
use Rattle.std.specs.Prelude.{◌≡◌, ℕ, ◌<◌, List, [], ◌∷◌, Option, Some, length, slice_get}
use Rattle.cu_calculus.specs.Claims.{Allows, AreLevels, Collected, Mention, Plain, alternative_mentions, head_mentions, level_of}
use Rattle.cu_calculus.specs.Code as flat
use Rattle.cu_calculus.specs.Code.{Code, expr_of}
use Rattle.cu_calculus.specs.FlatProgram.{alternatives_of, program_of, term_of}
use Rattle.cu_calculus.specs.Gives.{Claim}
use Rattle.cu_machine.specs.declared.Kind.{Kind}
use Rattle.cu_machine.specs.declared.Kind.TheVariants as kind
use Rattle.cu_machine.specs.Graph.{Graph, node_at}

-- what the branches of a case distinction of the code mention
abbrev pub branch_mentions : Code → Option flat.Expr → List Mention
branch_mentions code (Some (flat.Case mode kept scrutinee branches)) =
    alternative_mentions (alternatives_of (term_of code) branches)
branch_mentions code _ = []

-- the functions that a node mentions, by itself or in the code that it holds
abbrev pub named_by : Code → Kind → List Mention
named_by code (kind.Call f) = Plain f ∷ []
named_by code (kind.Part h) = head_mentions h
named_by code (kind.SetCall f) = Collected f ∷ []
named_by code (kind.Case mode e) = branch_mentions code (expr_of code (record { 0 = e }))
named_by code _ = []

-- The level allows all of these mentions.
abbrev pub AllAllowed : List ℕ → ℕ → List Mention → Type 0
AllAllowed levels level [] = Unit {0}
AllAllowed levels level (mention ∷ more) =
    Allows levels level mention × AllAllowed levels level more

-- Every function that a node of the graph mentions has at most this level, and one that it mentions
-- in a set call a lower one.
abbrev pub IsAtLevel : Code → List ℕ → ℕ → Graph → Type 0
IsAtLevel code levels level graph = (id : ℕ) → id < length graph
    → AllAllowed levels level (named_by code (node_at graph id).kind)

-- Set levels of a program by which `&&` has level 0, so that `==` may join its comparisons by it at
-- any level.
pub record AreLevelsOf (code : Code) (levels : List ℕ) : Type 0 where
  pub are_levels : AreLevels (program_of code) levels
  pub conjunction : level_of levels code.special.both ≡ 0

-- The claims are of functions of lower levels than this.
abbrev pub AreBelow : List ℕ → ℕ → List Claim → Type 0
AreBelow levels level claims = (k : ℕ) (claim : Claim) → slice_get claims k ≡ Some claim
    → level_of levels claim.function < level
