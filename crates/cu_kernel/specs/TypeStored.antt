-- How type expressions are told apart: each by a tree of numbers of its own.
use Rattle.std.specs.Prelude.{◌≡◌}
use Rattle.std.specs.Coded.{Coded}
use base.Stored.{Gv, gcons, gnil, gnum}
use Rattle.cu_kernel.specs.TypeExpr as type
use Rattle.cu_kernel.specs.TypeExpr.{TypeExpr, TypeExprs}
use Rattle.cu_kernel.specs.contracts.type_term.TypeName.{the_row as type_name}

abbrev mutual
  pub type_tree : TypeExpr → Gv
  type_tree (type.Variable x) = gcons (gnum 0) (gnum x)
  type_tree (type.Arrow a b) = gcons (gnum 1) (gcons (type_tree a) (type_tree b))
  type_tree (type.Named name ts) =
      gcons (gnum 2) (gcons (type_name.coded.code name) (type_trees ts))

  pub type_trees : TypeExprs → Gv
  type_trees type.NoType = gnil
  type_trees (type.MoreTypes t ts) = gcons (type_tree t) (type_trees ts)

mutual
  pub same_type : (a b : TypeExpr) → type_tree a ≡ type_tree b → a ≡ b
  same_type (type.Variable x) (type.Variable y) p = cc
  same_type (type.Arrow a b) (type.Arrow c d) p =
      let e : a ≡ c = same_type a c (cc) in let f : b ≡ d = same_type b d (cc) in cc
  same_type (type.Named m ts) (type.Named n us) p =
      let e : m ≡ n = type_name.coded.inj m n (cc) in let f : ts ≡ us = same_types ts us (cc) in cc
  same_type _ _ p = let no : ⊥ = cc in absurd no

  pub same_types : (ts us : TypeExprs) → type_trees ts ≡ type_trees us → ts ≡ us
  same_types type.NoType type.NoType p = cc
  same_types (type.MoreTypes t ts) (type.MoreTypes u us) p =
      let e : t ≡ u = same_type t u (cc) in let f : ts ≡ us = same_types ts us (cc) in cc
  same_types _ _ p = let no : ⊥ = cc in absurd no

abbrev pub type_code : Coded TypeExpr
type_code = record { code = type_tree; inj = same_type }
