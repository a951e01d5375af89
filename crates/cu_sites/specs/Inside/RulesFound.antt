-- Rules that were found, and the functions to which they belong.
use Rattle.std.specs.Prelude.{◌≡◌, ℕ, List, [], ◌∷◌, ◌++◌, Option, None, Some, IfSome, map, option_map}
use Rattle.std.specs.List.{All}
use Rattle.cu_translation.specs.Rules.{Begun, Group, Rule, groups_after, leading}
use Rattle.cu_sites.specs.declared.grouping.Grouping.{Grouping}
use Rattle.cu_sites.specs.declared.rules.Group as groups
use Rattle.cu_sites.specs.declared.rules.Rule as rules
use Rattle.cu_sites.specs.Meaning.{GroupIsOf, RuleIsOf, group_meaning, rule_meaning}
use Rattle.cu_locals.specs.Text.{Text}

-- The rule that the code found, if it found one, is this one.
pub record IsRuleIn (t : Text) (rule : Option Rule) (found : Option rules.Rule) : Type 0 where
  pub meaning : option_map (rule_meaning t.names) found ≡ rule
  pub owned : IfSome found (RuleIsOf t.owner t.names)

-- The rules that the code found are these.
pub record AreRules (t : Text) (whole : List Rule) (found : List rules.Rule) : Type 0 where
  pub meaning : map (rule_meaning t.names) found ≡ whole
  pub owned : All (RuleIsOf t.owner t.names) found

-- ---- groups

abbrev pub begun_at : Rule → Begun
begun_at r = record { name = r.name.text; at = r.at }

-- the groups of rules when these rules are read too, after those of `done` and of the group that
-- may go on, if there is one
abbrev pub grouped : List Group → Option Group → List (Option Rule) → List Group
grouped done None rest = done ++ groups_after None rest
grouped done (Some g) rest =
    done ++
    record { first = g.first; others = g.others ++ leading g.first.name.text rest } ∷
    groups_after (Some (begun_at g.first)) rest

-- the groups of rules when these rules are read too, after those that the code has read
abbrev pub all_grouped : List (List ℕ) → Grouping → List (Option Rule) → List Group
all_grouped names s rest =
    grouped (map (group_meaning names) s.done.items) (option_map (group_meaning names) s.last) rest

pub record GroupingIsOf (t : Text) (s : Grouping) : Type 0 where
  pub done : All (GroupIsOf t.owner t.names) s.done.items
  pub last : IfSome s.last (GroupIsOf t.owner t.names)

-- One more declaration or item was read, which is this rule or none.
pub record Reads (t : Text) (before : Grouping) (rule : Option Rule) (after : Grouping)
    : Type 0 where
  pub reads : (rest : List (Option Rule))
      → all_grouped t.names after rest ≡ all_grouped t.names before (rule ∷ rest)
  pub owned : GroupingIsOf t before → GroupingIsOf t after

-- The code begins a function with this rule, and no other rule yet.
pub record Begins (rule : rules.Rule) (last : Option groups.Group) : Type 0 where
  pub group : groups.Group
  pub is : last ≡ Some group
  pub first : group.first ≡ rule
  pub others : group.others.items ≡ []
