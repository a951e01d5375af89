-- How the spot after a qualifier is entered.
use Rattle.std.proofs.Common.{◌≡◌, List, [], subst, sym}
use Rattle.std.specs.declared.alloc.Global.{Global}
use Rattle.std.specs.declared.vec.Vec.{Vec}
use Rattle.cu_lex.specs.Reading.{position_of}
use Rattle.cu_names.specs.declared.place.Place.{Place}
use Rattle.cu_syntax.specs.declared.declarations.Declaration.{Declaration}
use Rattle.cu_syntax.specs.declared.expressions.Expression.{Expression}
use Rattle.cu_syntax.specs.declared.expressions.Qualifier.{Qualifier}
use Rattle.cu_syntax.specs.declared.expressions.Qualifier.TheVariants as qualifier
use Rattle.cu_syntax.specs.declared.name.Name as code
use Rattle.cu_syntax.specs.declared.patterns.Pattern.{Pattern}
use Rattle.cu_translation.specs.Sites.{Spot, in_block, in_function, past}
use Rattle.cu_uses.specs.Gathered.{Adds, names_meaning, pattern_binds}
use Rattle.cu_locals.specs.Text.{Text}
use Rattle.cu_sites.specs.declared.sites.Sites.{Sites}
use Rattle.cu_sites.specs.declared.sites.Spot as spots
use Rattle.cu_sites.specs.Inside.Entering.{Enters, IsAt}
use Rattle.cu_sites.specs.Inside.Walked.{block_of, qualifier_of}
use Rattle.cu_sites.proofs.SpotLemmas.{writes_none}

pub past_generator : (t : Text) (a b : Sites) (q : Qualifier) (place : Place) (p : Pattern) (list : Expression) (xs : List code.Name) (spot : Spot) (inner : spots.Spot) → q ≡ qualifier.Generator place p list
    → Adds t.owner t.names [] (pattern_binds t.names p) xs → Enters t a (in_function (position_of place) (names_meaning t.names xs) spot) inner b
    → Enters t a (past (qualifier_of t.names q) spot) inner b
unfolding qualifier_of pattern_binds
past_generator t a b q place p list xs spot inner is found enters =
    subst (λ r. Enters t a (past (qualifier_of t.names r) spot) inner b) (sym is) (subst (λ names. Enters t a (in_function (position_of place) names spot) inner b) found.adds enters)

pub past_block : (t : Text) (a b : Sites) (q : Qualifier) (place : Place) (ds : Vec Declaration Global) (spot : Spot) (inner : spots.Spot) → q ≡ qualifier.Declarations place ds
    → Enters t a (in_block (block_of t.names ds.items) spot) inner b → Enters t a (past (qualifier_of t.names q) spot) inner b
unfolding qualifier_of block_of
past_block t a b q place ds spot inner is enters = subst (λ r. Enters t a (past (qualifier_of t.names r) spot) inner b) (sym is) enters

pub past_condition : (t : Text) (a : Sites) (q : Qualifier) (place : Place) (condition : Expression) (spot : Spot) (at : spots.Spot) → q ≡ qualifier.Condition place condition → IsAt t a at spot
    → Enters t a (past (qualifier_of t.names q) spot) at a
unfolding qualifier_of
past_condition t a q place condition spot at is here = subst (λ r. Enters t a (past (qualifier_of t.names r) spot) at a) (sym is) (record { writes = writes_none t a; at = here })
