-- The tests whether a term is the call of a goal on its variables.
use Rattle.std.specs.Prelude.{ℕ, ◌+◌, Bool, true, false, ◌&&◌, length, nat_eq}
use Rattle.cu_calculus.specs.declared.Head.TheVariants.{Fun}
use Rattle.cu_calculus.specs.Answered.{same_head}
use Rattle.cu_calculus.specs.Term as term
use Rattle.cu_calculus.specs.Term.{Term, Terms}
use Rattle.cu_calculus.specs.Valid.{term_count}
use Rattle.cu_kernel.specs.Kernel.{Goal}

-- whether a term is the variable of this number
abbrev pub is_variable : ℕ → Term → Bool
is_variable x (term.Variable y) = nat_eq y x
is_variable x t = false

-- whether terms are variables, counted from this number
abbrev pub are_variables : ℕ → Terms → Bool
are_variables x term.NoTerm = true
are_variables x (term.MoreTerms t ts) = is_variable x t && are_variables (x + 1) ts

-- whether terms are so many variables, counted from 0
abbrev pub are_all_variables : ℕ → Terms → Bool
are_all_variables n ts = nat_eq (term_count ts) n && are_variables 0 ts

-- whether a term is the call of a goal on its variables, in declared order
abbrev pub is_goal_call : Goal → Term → Bool
is_goal_call goal (term.Whole h ts) =
    same_head h (Fun goal.function) && are_all_variables (length goal.names) ts
is_goal_call goal t = false
