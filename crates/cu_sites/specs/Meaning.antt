-- What the types of the code stand for.
use Rattle.std.specs.Prelude.{◌≡◌, ◌≤◌, ℕ, suc, zero, List, [], ◌∷◌, ◌++◌, Option, None, Some, length, map, option_map, slice_get}
use Rattle.std.specs.List.{All}
use Rattle.std.specs.declared.alloc.Global.{Global}
use Rattle.std.specs.declared.vec.Vec.{Vec}
use Rattle.cu_lex.specs.Located as located
use Rattle.cu_lex.specs.Reading.{position_of}
use Rattle.cu_names.specs.Texts.{IsKnown}
use Rattle.cu_names.specs.declared.names.NameId.{NameId}
use Rattle.cu_syntax.specs.declared.declarations.Declaration.{Declaration}
use Rattle.cu_syntax.specs.Declarations.{declarations_meaning, right_meaning}
use Rattle.cu_syntax.specs.ExpressionMeaning.{expression_meaning}
use Rattle.cu_syntax.specs.Names.{name_meaning}
use Rattle.cu_syntax.specs.Owners.{DeclarationIsOf, ExpressionIsOf, NameIsOf, PatternIsOf, PlaceIsOf, RightSideIsOf}
use Rattle.cu_syntax.specs.Patterns.{pattern_meaning, patterns_meaning}
use Rattle.cu_syntax.specs.Syntax as syntax
use Rattle.cu_translation.specs.LocalNames.{Entry, Scope}
use Rattle.cu_translation.specs.Meaning.{entry_meaning, position_meaning}
use Rattle.cu_translation.specs.Rules.{Group, Rule}
use Rattle.cu_translation.specs.Sites.{Bound, Defined, Free, Function, Generated, Lambda, Matched, Node, Operation, Site, Spot, Use, right_nodes}
use Rattle.cu_locals.specs.Text.{Text}
use Rattle.cu_sites.specs.declared.rules.Group as groups
use Rattle.cu_sites.specs.declared.rules.Rule as rules
use Rattle.cu_sites.specs.declared.sites.Node as nodes
use Rattle.cu_sites.specs.declared.sites.ScopeEntry.{ScopeEntry}
use Rattle.cu_sites.specs.declared.sites.Site as sites
use Rattle.cu_sites.specs.declared.sites.Site.TheVariants as site
use Rattle.cu_sites.specs.declared.sites.Sites as all
use Rattle.cu_sites.specs.declared.sites.Spot as spots

-- ---- rules

abbrev pub rule_meaning : List (List ℕ) → rules.Rule → Rule
rule_meaning names r = record {
  at = position_of r.place;
  name = name_meaning names r.name;
  parameters = patterns_meaning names r.parameters.items;
  right = right_meaning names r.right;
}

abbrev pub group_meaning : List (List ℕ) → groups.Group → Group
group_meaning names g = record {
  first = rule_meaning names g.first;
  others = map (rule_meaning names) g.others.items;
}

pub record RuleIsOf (owner : NameId) (names : List (List ℕ)) (r : rules.Rule) : Type 0 where
  pub place : PlaceIsOf owner r.place
  pub name : NameIsOf owner names r.name
  pub parameters : All (PatternIsOf owner names) r.parameters.items
  pub right : RightSideIsOf owner names r.right

pub record GroupIsOf (owner : NameId) (names : List (List ℕ)) (g : groups.Group) : Type 0 where
  pub first : RuleIsOf owner names g.first
  pub others : All (RuleIsOf owner names) g.others.items

-- The groups of rules that the code found are these, and their tokens are those of the module.
pub record AreGroups (owner : NameId) (names : List (List ℕ)) (whole : List Group)
    (found : List groups.Group) : Type 0 where
  pub meaning : map (group_meaning names) found ≡ whole
  pub owned : All (GroupIsOf owner names) found

-- ---- spots

-- The entry of a scope: the number stands for its first name and the scope around. The number 0 is
-- that of the scope without names.

pub record IsEntry (t : Text) (entries : List ScopeEntry) (number : ℕ) (e : Entry) : Type 0 where
  pub place : ℕ
  pub found : ScopeEntry
  pub number_is : number ≡ suc place
  pub stands : slice_get entries place ≡ Some found
  pub means : entry_meaning t.names found.entry ≡ e
  pub known : IsKnown t.names found.entry.text
  pub outward : found.around ≤ place

abbrev pub IsScope : Text → List ScopeEntry → ℕ → Scope → Type 0
IsScope t entries number [] = number ≡ 0
IsScope t entries number (e ∷ scope) =
    (is : IsEntry t entries number e) × IsScope t entries is.found.around scope

abbrev pub innermost : List located.Position → Option located.Position
innermost [] = None
innermost (at ∷ functions) = Some at

pub record IsSpot (t : Text) (entries : List ScopeEntry) (found : spots.Spot) (spot : Spot)
    : Type 0 where
  pub function : option_map position_meaning found.function ≡ innermost spot.functions
  pub depth : found.depth ≡ length spot.functions
  pub scope : IsScope t entries found.scope spot.scope

-- ---- sites

-- the qualifiers of a comprehension after the first n
abbrev pub qualifiers_after : ℕ → syntax.Qualifiers → syntax.Qualifiers
qualifiers_after zero qs = qs
qualifiers_after (suc n) syntax.NoQualifier = syntax.NoQualifier
qualifiers_after (suc n) (syntax.MoreQualifiers q qs) = qualifiers_after n qs

abbrev pub qualifiers_in : syntax.Expression → syntax.Qualifiers
qualifiers_in (syntax.Comprehension at element qualifiers) = qualifiers
qualifiers_in _ = syntax.NoQualifier

abbrev pub element_in : syntax.Expression → syntax.Expression
element_in (syntax.Comprehension at element qualifiers) = element
element_in e = e

-- The site of a local function: it tells its block by the block's number among all blocks.
pub record IsFunction (t : Text) (blocks : List (Vec Declaration Global)) (number : ℕ)
    (g : groups.Group) (s : Site) : Type 0 where
  pub block : Vec Declaration Global
  pub stands : slice_get blocks number ≡ Some block
  pub owned : All (DeclarationIsOf t.owner t.names) block.items
  pub group : GroupIsOf t.owner t.names g
  pub is : s ≡ Function (declarations_meaning t.names block.items) (group_meaning t.names g)

abbrev pub IsSite : Text → List (Vec Declaration Global) → sites.Site → Site → Type 0
IsSite t blocks (site.Use x arguments) s =
    (s ≡ Use (name_meaning t.names x) (map (expression_meaning t.names) arguments.items)) ×
    NameIsOf t.owner t.names x × All (ExpressionIsOf t.owner t.names) arguments.items
IsSite t blocks (site.Operation e) s =
    (s ≡ Operation (expression_meaning t.names e)) × ExpressionIsOf t.owner t.names e
IsSite t blocks (site.Matched ps) s =
    (s ≡ Matched (patterns_meaning t.names ps.items)) × All (PatternIsOf t.owner t.names) ps.items
IsSite t blocks (site.Lambda at ps body) s =
    (s ≡ Lambda (position_of at) (patterns_meaning t.names ps.items)
    (expression_meaning t.names body)) ×
    PlaceIsOf t.owner at × All (PatternIsOf t.owner t.names) ps.items ×
    ExpressionIsOf t.owner t.names body
IsSite t blocks (site.Generated at p whole number) s =
    (s ≡ Generated (position_of at) (pattern_meaning t.names p)
    (qualifiers_after number (qualifiers_in (expression_meaning t.names whole)))
    (element_in (expression_meaning t.names whole))) ×
    PlaceIsOf t.owner at × PatternIsOf t.owner t.names p × ExpressionIsOf t.owner t.names whole
IsSite t blocks (site.Function number g) s = IsFunction t blocks number g s
IsSite t blocks (site.Defined x right) s =
    (s ≡ Defined (name_meaning t.names x) (right_meaning t.names right)) ×
    NameIsOf t.owner t.names x × RightSideIsOf t.owner t.names right
IsSite t blocks (site.Bound p right) s =
    (s ≡ Bound (pattern_meaning t.names p) (right_meaning t.names right)) ×
    PatternIsOf t.owner t.names p × RightSideIsOf t.owner t.names right
IsSite t blocks (site.Free xs) s =
    (s ≡ Free (map (name_meaning t.names) xs.items)) × All (NameIsOf t.owner t.names) xs.items

-- ---- nodes

-- what stands in the right side of a definition, and nothing where a site is no definition
abbrev pub inside_at : Spot → Site → List Node
inside_at spot (Defined x right) = right_nodes spot right
inside_at spot (Bound p right) = right_nodes spot right
inside_at spot _ = []

abbrev pub inside : Node → List Node
inside n = inside_at n.spot n.site

-- The code's node stands for this one. What stands in the right side of a definition follows it,
-- and is counted by its extent.
pub record IsNode (t : Text) (entries : List ScopeEntry) (blocks : List (Vec Declaration Global))
    (found : nodes.Node) (n : Node) (followed_by : List Node) : Type 0 where
  pub spot : IsSpot t entries found.spot n.spot
  pub site : IsSite t blocks found.site n.site
  pub rest : List Node
  pub followed : followed_by ≡ inside n ++ rest
  pub extent : found.extent ≡ length (inside n)

abbrev pub AreNodes : Text → List ScopeEntry → List (Vec Declaration Global) → List nodes.Node
    → List Node → Type 0
AreNodes t entries blocks [] [] = Unit {0}
AreNodes t entries blocks [] (n ∷ ns) = ⊥
AreNodes t entries blocks (found ∷ others) [] = ⊥
AreNodes t entries blocks (found ∷ others) (n ∷ ns) =
    IsNode t entries blocks found n ns × AreNodes t entries blocks others ns

-- The sites of the code are these nodes, in the order of the text.
pub record Stands (t : Text) (nodes : List Node) (s : all.Sites) : Type 0 where
  pub are : AreNodes t s.entries.items s.blocks.items s.nodes.items nodes

-- ---- what is read of sites

abbrev pub nodes_in : all.Sites → List nodes.Node
nodes_in s = s.nodes.items

-- The code's spot is this one, among the scopes of these sites.
abbrev pub IsSpotIn : Text → all.Sites → spots.Spot → Spot → Type 0
IsSpotIn t s found spot = IsSpot t s.entries.items found spot

abbrev pub blocks_in : all.Sites → List (Vec Declaration Global)
blocks_in s = s.blocks.items
