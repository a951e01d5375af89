-- Functions whose rules may go on.
use Rattle.std.specs.Prelude.{◌≡◌, ℕ, List, Option, None, Some, IfSome, Bool, false, if◌then◌else◌, nat_eq, option_map}
use Rattle.cu_lex.specs.Reading.{position_of}
use Rattle.cu_names.specs.Texts.{IsKnown, text_of}
use Rattle.cu_names.specs.declared.names.NameId.{NameId}
use Rattle.cu_names.specs.declared.place.Place.{Place}
use Rattle.cu_syntax.specs.declared.name.Name as code
use Rattle.cu_translation.specs.Rules.{Begun}
use Rattle.cu_locals.specs.declared.begun.Begun as begun
use Rattle.cu_locals.specs.Text.{Text}

abbrev pub function_meaning : List (List ℕ) → begun.Begun → Begun
function_meaning names b = record { name = text_of names b.name; at = position_of b.place }

abbrev pub begun_meaning : Text → Option begun.Begun → Option Begun
begun_meaning t b = option_map (function_meaning t.names) b

abbrev pub FunctionIsKnown : Text → begun.Begun → Type 0
FunctionIsKnown t b = IsKnown t.names b.name

abbrev pub BegunIsKnown : Text → Option begun.Begun → Type 0
BegunIsKnown t b = IfSome b (FunctionIsKnown t)

pub record IsBegun (t : Text) (b : Begun) (found : begun.Begun) : Type 0 where
  pub meaning : function_meaning t.names found ≡ b
  pub known : FunctionIsKnown t found

-- The function that the code found as the one whose rules may go on, if it found one, is this one.
pub record IsBefore (t : Text) (b : Option Begun) (found : Option begun.Begun) : Type 0 where
  pub meaning : begun_meaning t found ≡ b
  pub known : BegunIsKnown t found

-- whether a rule of the function of this name goes on with the function begun before
abbrev pub continues : Option begun.Begun → NameId → Bool
continues None text = false
continues (Some b) text = nat_eq b.name.0 text.0

-- the function to which a rule belongs: the one begun before, where it has the rule's name, or one
-- that begins here
abbrev pub begun_for : Option begun.Begun → code.Name → Place → begun.Begun
begun_for None name place = record { name = name.text; place = place }
begun_for (Some b) name place =
    if nat_eq b.name.0 name.text.0 then b else record { name = name.text; place = place }
