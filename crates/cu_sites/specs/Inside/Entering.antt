-- What blocks bring into scope, and how spots are entered.
use Rattle.std.specs.Prelude.{◌≡◌, ℕ, List, [], ◌∷◌, ◌++◌, Some, length, slice_get, slice_set, ◌-◌}
use Rattle.std.specs.List.{All}
use Rattle.std.specs.declared.alloc.Global.{Global}
use Rattle.std.specs.declared.vec.Vec.{Vec}
use Rattle.cu_syntax.specs.declared.declarations.Declaration.{Declaration}
use Rattle.cu_syntax.specs.Declarations.{declarations_meaning}
use Rattle.cu_syntax.specs.Owners.{DeclarationIsOf}
use Rattle.cu_syntax.specs.Syntax as syntax
use Rattle.cu_translation.specs.LocalNames.{Scope}
use Rattle.cu_translation.specs.Sites.{Node, Spot}
use Rattle.cu_sites.specs.declared.sites.Node as nodes
use Rattle.cu_sites.specs.declared.sites.ScopeEntry.{ScopeEntry}
use Rattle.cu_sites.specs.declared.sites.Site as sites
use Rattle.cu_sites.specs.declared.sites.Sites.{Sites}
use Rattle.cu_sites.specs.declared.sites.Spot as spots
use Rattle.cu_sites.specs.Meaning.{AreNodes, IsScope, IsSpot}
use Rattle.cu_locals.specs.Text.{Text}

-- ---- what is added to the sites of a text

-- The sites of a text grew by these nodes, and by the names and blocks that they need.
pub record Writes (t : Text) (before : Sites) (added : List Node) (after : Sites) : Type 0 where
  pub entries : List ScopeEntry
  pub blocks : List (Vec Declaration Global)
  pub nodes : List nodes.Node
  pub entries_are : after.entries.items ≡ before.entries.items ++ entries
  pub blocks_are : after.blocks.items ≡ before.blocks.items ++ blocks
  pub nodes_are : after.nodes.items ≡ before.nodes.items ++ nodes
  pub are : AreNodes t after.entries.items after.blocks.items nodes added

-- The code's spot is this one, among the scopes of these sites.
abbrev pub IsAt : Text → Sites → spots.Spot → Spot → Type 0
IsAt t s found spot = IsSpot t s.entries.items found spot

-- A scope was entered, and this is its number.
pub record Opens (t : Text) (before : Sites) (scope : Scope) (number : ℕ) (after : Sites)
    : Type 0 where
  pub writes : Writes t before [] after
  pub opened : IsScope t after.entries.items number scope

-- A spot was entered, and this is the code's.
pub record Enters (t : Text) (before : Sites) (spot : Spot) (found : spots.Spot) (after : Sites)
    : Type 0 where
  pub writes : Writes t before [] after
  pub at : IsAt t after found spot

-- The block of this number has these declarations.
pub record IsBlock (t : Text) (s : Sites) (number : ℕ) (ds : syntax.Declarations) : Type 0 where
  pub block : Vec Declaration Global
  pub stands : slice_get s.blocks.items number ≡ Some block
  pub owned : All (DeclarationIsOf t.owner t.names) block.items
  pub meaning : declarations_meaning t.names block.items ≡ ds

-- A block was noted, and this is its number.
pub record Notes (t : Text) (before : Sites) (ds : syntax.Declarations) (number : ℕ) (after : Sites)
    : Type 0 where
  pub writes : Writes t before [] after
  pub block : IsBlock t after number ds

-- Of the nodes `whole` all but `rest` were written so far.
pub record Written (t : Text) (before : Sites) (rest whole : List Node) (now : Sites) : Type 0 where
  pub done : List Node
  pub writes : Writes t before done now
  pub joins : done ++ rest ≡ whole

-- A node of this site at this spot was added.
pub record Pushes (spot : spots.Spot) (site : sites.Site) (before after : Sites) : Type 0 where
  pub entries : after.entries ≡ before.entries
  pub blocks : after.blocks ≡ before.blocks
  pub nodes : after.nodes.items
      ≡ before.nodes.items ++ record { spot = spot; site = site; extent = 0 } ∷ []

-- All nodes after a definition are counted as those of its right side.
pub record Closes (definition : ℕ) (before after : Sites) : Type 0 where
  pub entries : after.entries ≡ before.entries
  pub blocks : after.blocks ≡ before.blocks
  pub nodes : (n : nodes.Node) → slice_get before.nodes.items definition ≡ Some n
      → after.nodes.items ≡ slice_set before.nodes.items definition
      (record n { extent = length before.nodes.items - definition - 1 })

pub record IsEmpty (s : Sites) : Type 0 where
  pub entries : s.entries.items ≡ []
  pub blocks : s.blocks.items ≡ []
  pub nodes : s.nodes.items ≡ []
