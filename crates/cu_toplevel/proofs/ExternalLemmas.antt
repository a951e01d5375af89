-- The types of the operations that are built in.
use Rattle.std.proofs.Common.{◌≡◌, ◌∙◌, ◌⊎◌, inl, inr, codes, ap, sym}
use Rattle.cu_calculus.specs.declared.builtin.Primitive.{Primitive}
use Rattle.cu_calculus.specs.declared.builtin.Primitive.TheVariants as prim
use Rattle.cu_kernel.specs.TypeExpr.{TypeExpr}
use Rattle.cu_translation.specs.Around.{Names}
use Rattle.cu_translation.specs.Externals.{external_type, on_any, on_integers}

pub is_type_of : (around : Names) (operation p : Primitive) (made : TypeExpr) → operation ≡ p → made ≡ external_type around p → made ≡ external_type around operation
is_type_of around operation p made is same = same ∙ ap (external_type around) (sym is)

pub computes : (around : Names) (o : Primitive) (made : TypeExpr) → (o ≡ prim.Add) ⊎ ((o ≡ prim.Sub) ⊎ ((o ≡ prim.Mul) ⊎ ((o ≡ prim.Div) ⊎ (o ≡ prim.Mod)))) → made ≡ on_integers around (codes "Int")
    → made ≡ external_type around o
computes around o made (inl is) same = is_type_of around o prim.Add made is same
computes around o made (inr (inl is)) same = is_type_of around o prim.Sub made is same
computes around o made (inr (inr (inl is))) same = is_type_of around o prim.Mul made is same
computes around o made (inr (inr (inr (inl is)))) same = is_type_of around o prim.Div made is same
computes around o made (inr (inr (inr (inr is)))) same = is_type_of around o prim.Mod made is same

pub compares : (around : Names) (o : Primitive) (made : TypeExpr) → (o ≡ prim.Less) ⊎ ((o ≡ prim.AtMost) ⊎ ((o ≡ prim.Greater) ⊎ (o ≡ prim.AtLeast))) → made ≡ on_integers around (codes "Bool")
    → made ≡ external_type around o
compares around o made (inl is) same = is_type_of around o prim.Less made is same
compares around o made (inr (inl is)) same = is_type_of around o prim.AtMost made is same
compares around o made (inr (inr (inl is))) same = is_type_of around o prim.Greater made is same
compares around o made (inr (inr (inr is))) same = is_type_of around o prim.AtLeast made is same

pub tests_any : (around : Names) (o : Primitive) (made : TypeExpr) → (o ≡ prim.Equal) ⊎ (o ≡ prim.Unify) → made ≡ on_any around → made ≡ external_type around o
tests_any around o made (inl is) same = is_type_of around o prim.Equal made is same
tests_any around o made (inr is) same = is_type_of around o prim.Unify made is same
