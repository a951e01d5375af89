-- Local functions stand in the order in which their numbers count them.
use Rattle.std.specs.Prelude.{◌≡◌, List, [], ◌∷◌, ◌++◌, map, refl}
use Rattle.std.proofs.Common.{ap, ap₂, sym, ◌∙◌}
use Rattle.cu_kernel.specs.LocalKernel.{LocalFunction}
use Rattle.cu_kernel.specs.LocalTerm.{LocalTerm}
use Rattle.cu_names.specs.declared.place.Place.{Place}
use Rattle.cu_lex.specs.Located.{Position}
use Rattle.cu_syntax.specs.Syntax as syntax
use Rattle.cu_syntax.specs.Syntax.{Name, Pattern}
use Rattle.cu_uses.specs.Binders.{pattern_variables}
use Rattle.cu_translation.specs.Around.{Around, place_at}
use Rattle.cu_translation.specs.LocalFunctions.{functions_at, functions_of, generator_function, local_functions, selector}
use Rattle.cu_translation.specs.LocalNames.{Scope}
use Rattle.cu_translation.specs.Numbering as numbering
use Rattle.cu_translation.specs.Numbering.{all_functions}
use Rattle.cu_translation.specs.Sites.{Bound, Defined, Free, Function, Generated, Lambda, Matched, Node, Operation, Site, Use}

abbrev place_of : LocalFunction → Place
place_of f = f.place

map-append : {X Y : Type 0} (f : X → Y) (xs ys : List X) → map f (xs ++ ys) ≡ map f xs ++ map f ys
map-append f [] ys = refl
map-append f (x ∷ xs) ys = ap (λ zs. f x ∷ zs) (map-append f xs ys)

selectors : (around : Around) (p : Pattern) (names : List Name)
    → map place_of (map (selector around p) names) ≡ map (place_at around.names) (map (λ (x : Name). x.at) names)
selectors around p [] = refl
selectors around p (x ∷ names) = ap (λ zs. place_at around.names x.at ∷ zs) (selectors around p names)

generator : (around : Around) (at : Position) (p : Pattern) (rest : LocalTerm)
    → (generator_function around at p rest).place ≡ place_at around.names at
generator around place (syntax.PatternVariable x) rest = refl
generator around place (syntax.As x p) rest = refl
generator around place (syntax.Wildcard at) rest = refl
generator around place (syntax.PatternLiteral at found) rest = refl
generator around place (syntax.Constructed at c ps) rest = refl
generator around place (syntax.PatternTuple at ps) rest = refl
generator around place (syntax.PatternList at ps) rest = refl
generator around place (syntax.PatternOperators at first others) rest = refl

at_site : (around : Around) (scope : Scope) (s : Site)
    → map place_of (functions_at around scope s) ≡ map (place_at around.names) (numbering.functions_at s)
at_site around scope (Use name arguments) = refl
at_site around scope (Operation e) = refl
at_site around scope (Matched ps) = refl
at_site around scope (Lambda at parameters body) = refl
at_site around scope (Generated at p qualifiers element) = ap (λ x. x ∷ []) (generator around at p _)
at_site around scope (Function block g) = refl
at_site around scope (Defined x right) = refl
at_site around scope (Bound p right) = selectors around p (pattern_variables p)
at_site around scope (Free names) = refl

pub places_are : (around : Around) (nodes : List Node)
    → map place_of (local_functions around nodes) ≡ map (place_at around.names) (all_functions nodes)
places_are around [] = refl
places_are around (n ∷ nodes) =
    map-append place_of (functions_of around n) (local_functions around nodes)
    ∙ ap₂ (λ xs ys. xs ++ ys) (at_site around n.spot.scope n.site) (places_are around nodes)
    ∙ sym (map-append (place_at around.names) (numbering.functions_of n) (all_functions nodes))
