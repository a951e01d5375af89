-- The type expression that the code's boxed type stands for.
use Rattle.std.specs.Prelude.{◌≡◌, ℕ, List, [], ◌∷◌, map, refl}
use Rattle.std.proofs.Common.{sym, ap, ◌∙◌}
use Rattle.std.specs.declared.alloc.Global.{Global}
use Rattle.std.specs.declared.boxed.Box.{Box}
use Rattle.std.specs.declared.vec.Vec.{Vec}
use Rattle.cu_kernel.specs.TypeExpr as type
use Rattle.cu_kernel.specs.TypeExpr.{TypeExpr, TypeExprs}
use Rattle.cu_kernel.specs.declared.type_term.TypeName.{TypeName}
use Rattle.cu_kernel.specs.declared.type_term.TypeTerm.{TypeTerm}
use Rattle.cu_kernel.specs.declared.type_term.TypeTerm.TheFolds.{fold-TypeTerm, fold-roll-TypeTerm}
use Rattle.cu_kernel.specs.declared.type_term.TypeTerm.TheOpen as layer
use Rattle.cu_kernel.specs.declared.type_term.TypeTerm.TheOpen.{TypeTerm-F}
use Rattle.cu_kernel.specs.declared.type_term.TypeTerm.TheVariants as boxed

-- the types of a list
abbrev pub type_list : List TypeExpr → TypeExprs
type_list [] = type.NoType
type_list (t ∷ ts) = type.MoreTypes t (type_list ts)

-- the type that one layer of the code stands for, where its parts stand for types
abbrev type_layer : TypeTerm-F TypeExpr → TypeExpr
type_layer (layer.Var x) = type.Variable x
type_layer (layer.Arrow a b) = type.Arrow a.value b.value
type_layer (layer.Named name ts) = type.Named name (type_list ts.items)

-- the type that a boxed type stands for
pub type_of : TypeTerm → TypeExpr
type_of = fold-TypeTerm TypeExpr type_layer

-- the types that a list of boxed types stands for
abbrev pub types_of : List TypeTerm → TypeExprs
types_of [] = type.NoType
types_of (t ∷ ts) = type.MoreTypes (type_of t) (types_of ts)

type_list_of : (ts : List TypeTerm) → type_list (map type_of ts) ≡ types_of ts
type_list_of [] = refl
type_list_of (t ∷ ts) = ap (type.MoreTypes (type_of t)) (type_list_of ts)

pub type_of-Var : (x : ℕ) → type_of (boxed.Var x) ≡ type.Variable x
unfolding type_of
type_of-Var x = ap type_of (sym (boxed.rolls-Var x)) ∙ fold-roll-TypeTerm TypeExpr type_layer
    (layer.Var x)

pub type_of-Arrow : (a b : Box TypeTerm Global) → type_of (boxed.Arrow a b)
    ≡ type.Arrow (type_of a.value) (type_of b.value)
unfolding type_of
type_of-Arrow a b =
    ap type_of (sym (boxed.rolls-Arrow a b)) ∙ fold-roll-TypeTerm TypeExpr type_layer
    (layer.Arrow a b)

pub type_of-Named : (name : TypeName) (ts : Vec TypeTerm Global)
    → type_of (boxed.Named name ts) ≡ type.Named name (types_of ts.items)
unfolding type_of
type_of-Named name ts =
    ap type_of (sym (boxed.rolls-Named name ts)) ∙ fold-roll-TypeTerm TypeExpr type_layer
    (layer.Named name ts)
    ∙ ap (type.Named name) (type_list_of ts.items)

pub ruleset types_of_variants = (type_of-Var, type_of-Arrow, type_of-Named)
