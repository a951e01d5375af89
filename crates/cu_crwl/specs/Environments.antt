-- What bindings say of variables, and whether a statement is about a term.
use Rattle.std.specs.Prelude.{ℕ, Bool, true, false, ◌&&◌, List, [], ◌∷◌, Option, None, Some, if◌then◌else◌, map, nat_eq}
use Rattle.std.specs.List.{list_all}
use Rattle.cu_calculus.specs.Answered.{same_value}
use Rattle.cu_calculus.specs.Match.{Bindings, bind_all, empty}
use Rattle.cu_calculus.specs.Proof.{Statement}
use Rattle.cu_calculus.specs.Term as term
use Rattle.cu_calculus.specs.Term.{Term, Terms}
use Rattle.cu_calculus.specs.Value.{Value, Values, values_of}
use Rattle.cu_crwl.specs.Same.{same_term}

-- the value of a variable, where it is bound: that of its first binding
abbrev pub lookup : Bindings → ℕ → Option Value
lookup [] x = None
lookup ((y, v) ∷ bindings) x = if nat_eq y x then Some v else lookup bindings x

-- whether bindings say of a variable what new bindings over old ones say
abbrev pub agrees_at : Bindings → Bindings → Bindings → ℕ → Bool
agrees_at bindings new old x =
    same_value (bind_all empty bindings x) (bind_all (bind_all empty old) new x)

-- whether bindings say of each of some variables what new bindings over old ones say
abbrev pub agrees_on : Bindings → Bindings → Bindings → Bindings → Bool
agrees_on variables bindings new old = list_all (λ b. agrees_at bindings new old b.0) variables

-- whether bindings say of every variable what new bindings over old ones say; the variables that
-- one of them binds suffice
unfoldable pub agrees : Bindings → Bindings → Bindings → Bool
agrees bindings new old = (agrees_on bindings bindings new old && agrees_on new bindings new old)
    && agrees_on old bindings new old

-- whether a statement is about this term, in the environment of new bindings over old ones
unfoldable pub is_about : Statement → Bindings → Bindings → Term → Bool
is_about s new old t = agrees s.env new old && same_term s.term t

-- whether a statement is about this term, in the environment of new bindings over old ones, and
-- gives this value
unfoldable pub says : Statement → Bindings → Bindings → Term → Value → Bool
says s new old t v = is_about s new old t && same_value s.value v

-- whether statements are about terms in an environment, one for each
abbrev pub all_about : List Statement → Bindings → Terms → Bool
all_about [] env term.NoTerm = true
all_about (s ∷ ss) env (term.MoreTerms t ts) = is_about s [] env t && all_about ss env ts
all_about _ env _ = false

-- the values that statements give, in order
abbrev pub values_said : List Statement → Values
values_said ss = values_of (map (λ s. s.value) ss)
