-- Variables that are bound one after another, and what they had before.
use Rattle.std.proofs.Common.{◌≡◌, ℕ, ◌+◌, ◌<◌, List, [], ◌∷◌, ◌++◌, length, reverse, drop, get_or, refl, sym, ap, ◌∙◌, arith}
use Rattle.std.proofs.lemmas.List.{drop_more, reverse-append}
use Rattle.cu_types.proofs.Environments.{restored}
use Rattle.cu_types.specs.Equations.{Environment, bind, bind_from}
use Rattle.cu_types.specs.Inside.Variables.{undone}
use Rattle.cu_types.specs.declared.variables.Binding.{Binding}

pub bound_more : (env new whole : Environment) (xs : List ℕ) (i next following : ℕ) → i < length xs
    → new ≡ bind env (get_or xs i 0) next → following ≡ next + 1 → bind_from env next (drop i xs) ≡ whole
    → bind_from new following (drop (i + 1) xs) ≡ whole
bound_more env new whole xs i next following within is more before =
    ap (λ (e : Environment). bind_from e following (drop (i + 1) xs)) is
    ∙ ap (λ (n : ℕ). bind_from (bind env (get_or xs i 0) next) n (drop (i + 1) xs)) more
    ∙ sym (ap (bind_from env next) (drop_more xs i 0 within)) ∙ before

pub undoes_more : (env new first : Environment) (bs cs : List Binding) (b : Binding) (next : ℕ) → cs ≡ bs ++ b ∷ []
    → new ≡ bind env b.variable next → b.before ≡ env b.variable → undone (reverse bs) env ≡ first → undone (reverse cs) new ≡ first
undoes_more env new first bs cs b next pushed is was before =
    ap (λ (xs : List Binding). undone (reverse xs) new) pushed
    ∙ ap (λ (xs : List Binding). undone xs new) (reverse-append bs (b ∷ []))
    ∙ ap (λ (e : Environment). undone (reverse bs) (bind e b.variable b.before)) is
    ∙ ap (λ (n : ℕ). undone (reverse bs) (bind (bind env b.variable next) b.variable n)) was
    ∙ ap (undone (reverse bs)) (restored env b.variable next) ∙ before

pub undone_popped : (env new whole : Environment) (bs cs : List Binding) (b : Binding) → bs ≡ cs ++ b ∷ []
    → new ≡ bind env b.variable b.before → undone (reverse bs) env ≡ whole → undone (reverse cs) new ≡ whole
undone_popped env new whole bs cs b is made before =
    ap (undone (reverse cs)) made
    ∙ sym (ap (λ (xs : List Binding). undone (reverse xs) env) is ∙ ap (λ (xs : List Binding). undone xs env) (reverse-append cs (b ∷ [])))
    ∙ before

pub none_left : (bs : List Binding) → length bs ≡ 0 → bs ≡ []
none_left [] none = refl
none_left (b ∷ bs) none = absurd (omega arith)
