-- Functions as their first rules tell.
use Rattle.std.specs.Prelude.{◌≡◌, ℕ, List, map}
use Rattle.std.specs.List.{All}
use Rattle.cu_lex.specs.Located.{Position}
use Rattle.cu_lex.specs.Reading.{position_of}
use Rattle.cu_names.specs.declared.names.NameId.{NameId}
use Rattle.cu_names.specs.Texts.{IsKnown, text_of}
use Rattle.cu_syntax.specs.Owners.{PlaceIsOf}
use Rattle.cu_toplevel.specs.declared.function_heads.FunctionHead.{FunctionHead}
use Rattle.cu_translation.specs.Rules.{Group, Rule, pattern_count}

pub record Head : Type 0 where
  pub name : List ℕ
  -- how many parameters the function takes
  pub arity : ℕ
  -- the place of the first token of the function's first rule
  pub at : Position

abbrev pub head_of_rule : Rule → Head
head_of_rule r = record { name = r.name.text; arity = pattern_count r.parameters; at = r.at }

abbrev pub head_of_group : Group → Head
head_of_group g = head_of_rule g.first

abbrev pub head_meaning : List (List ℕ) → FunctionHead → Head
head_meaning names h =
    record { name = text_of names h.name; arity = h.arity; at = position_of h.place }

-- The place of a function's head is of this module, and the table has its name.
pub record HeadIsOf (owner : NameId) (names : List (List ℕ)) (h : FunctionHead) : Type 0 where
  pub name : IsKnown names h.name
  pub place : PlaceIsOf owner h.place

-- The heads that the code found are those of the functions that have these rules, in their order.
pub record AreHeads
    (owner : NameId) (names : List (List ℕ)) (groups : List Group)
    (heads : List FunctionHead) : Type 0
  where
    pub are : map (head_meaning names) heads ≡ map head_of_group groups
    pub owned : All (HeadIsOf owner names) heads
