-- The step of a case distinction over a literal.
use Rattle.std.proofs.Common.{◌≡◌, ◌++◌, ℕ, List, [], ◌∷◌, Some, ap, append-nil, refl, sym, zip, ◌∙◌}
use Rattle.cu_calculus.specs.declared.Lit.{Lit}
use Rattle.cu_calculus.specs.Code.{Branch, Code}
use Rattle.cu_calculus.specs.WellFormed.{bound_by}
use Rattle.cu_machine.specs.Build.{Scope, write}
use Rattle.cu_machine.specs.Graph.{Graph}
use Rattle.cu_machine.specs.Rewrite.{alone_follows, branch_for, branch_step, scrutinee_step, takes_literal}
use Rattle.cu_machine.specs.declared.Kind.{Kind}
use Rattle.cu_machine.specs.declared.Kind.TheVariants as kind

zip_none : (xs : List ℕ) → ◌≡◌ {A = List (ℕ × ℕ)} (zip xs []) []
zip_none [] = refl
zip_none (x ∷ xs) = refl

-- a literal goes into the branch of its pattern, where nothing more is in scope
pub into_literal : (program : Code) (scope : Scope) (graph : Graph) (id : ℕ) (branches : List Branch) (head : ℕ) (l : Lit) (k : Kind) (args : List ℕ) (branch : Branch)
    → k ≡ kind.Lit l → Some branch ≡ branch_for (takes_literal l) branches
    → alone_follows (write program scope graph id branch.body) ≡ scrutinee_step program scope graph id branches head k args
into_literal program scope graph id branches head l k args branch is found =
    ap (λ (inner : Scope). alone_follows (write program inner graph id branch.body)) (sym (ap (λ xs. scope ++ xs) (zip_none (bound_by branch.pattern)) ∙ append-nil scope))
    ∙ ap (branch_step program scope graph id []) found
    ∙ sym (ap (λ (kind_of : Kind). scrutinee_step program scope graph id branches head kind_of args) is)
