-- Functions whose rules may go on.
use Rattle.std.proofs.Common.{◌≡◌, ◌∙◌, ◌<◌, ◌+◌, ℕ, Bool, true, false, List, ◌∷◌, Option, None, Some, length, drop, get_or, refl, sym, ap₂, subst, add-one, if◌then◌else◌}
use Rattle.std.proofs.Math.Seq.{drop-cons}
use Rattle.std.specs.Prelude.{nat_eq}
use Rattle.cu_entities.proofs.NameLemmas.{same_name}
use Rattle.cu_lex.specs.Reading.{position_of}
use Rattle.cu_names.specs.Texts.{text_of}
use Rattle.cu_names.specs.declared.place.Place.{Place}
use Rattle.cu_syntax.specs.declared.name.Name as code
use Rattle.cu_syntax.specs.Names.{name_meaning}
use Rattle.cu_syntax.specs.Owners.{NameIsOf}
use Rattle.cu_translation.specs.Rules.{begun_by, goes_on}
use Rattle.cu_locals.specs.declared.begun.Begun as begun
use Rattle.cu_locals.specs.Text.{Text}
use Rattle.cu_locals.specs.BegunFound.{BegunIsKnown, FunctionIsKnown, IsBegun, begun_for, begun_meaning, continues, function_meaning}

-- the head of what is left of a list
pub dropped : {X : Type 0} (xs : List X) (i : ℕ) (x : X) → x ≡ get_or xs i x → i < length xs → drop i xs ≡ x ∷ drop (i + 1) xs
dropped xs i x is within = drop-cons xs i x within ∙ ap₂ (λ y n. y ∷ drop n xs) (sym is) (sym (add-one i))

pub goes_on_texts : (t : Text) (b : Option begun.Begun) (x : code.Name) → BegunIsKnown t b → NameIsOf t.owner t.names x → continues b x.text ≡ goes_on (begun_meaning t b) (name_meaning t.names x)
goes_on_texts t None x known of = refl
goes_on_texts t (Some b) x known of = same_name t.names b.name x.text t.differ known of.text

begun_if : (t : Text) (b : begun.Begun) (x : code.Name) (at : Place) (same : Bool) → FunctionIsKnown t b → NameIsOf t.owner t.names x
    → IsBegun t (if same then function_meaning t.names b else record { name = text_of t.names x.text; at = position_of at }) (if same then b else record { name = x.text; place = at })
begun_if t b x at true known of = record { meaning = refl; known = known }
begun_if t b x at false known of = record { meaning = refl; known = of.text }

pub begun_texts : (t : Text) (b : Option begun.Begun) (x : code.Name) (at : Place) → BegunIsKnown t b → NameIsOf t.owner t.names x
    → IsBegun t (begun_by (begun_meaning t b) (name_meaning t.names x) (position_of at)) (begun_for b x at)
begun_texts t None x at known of = record { meaning = refl; known = of.text }
begun_texts t (Some b) x at known of =
    subst (λ same. IsBegun t (if same then function_meaning t.names b else record { name = text_of t.names x.text; at = position_of at }) (begun_for (Some b) x at))
    (same_name t.names b.name x.text t.differ known of.text) (begun_if t b x at (nat_eq b.name.0 x.text.0) known of)
