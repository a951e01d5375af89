-- A variable that gets its number back.
use Rattle.std.proofs.Common.{◌≡◌, ℕ, List, [], ◌∷◌, ◌++◌, reverse, ap, ◌∙◌, arith}
use Rattle.std.proofs.lemmas.List.{reverse-append}
use Rattle.cu_calculus.specs.Code.{Code}
use Rattle.cu_flattext.specs.ExpressionTexts.{Numbers, numbered}
use Rattle.cu_flattext.specs.Inside.Tasks.{all_parts}
use Rattle.cu_flattext.specs.Naming.{Lowered}
use Rattle.cu_flattext.specs.declared.task.Task.{Task}
use Rattle.cu_flattext.specs.declared.task.Task.TheVariants as task

reverse_last : (ts : List Task) (t : Task) → reverse (ts ++ t ∷ []) ≡ t ∷ reverse ts
reverse_last ts t = reverse-append ts (t ∷ [])

pub number_restored : (program : Lowered) (code : Code) (old ts : List Task) (x k n : ℕ) (inner numbers : Numbers)
    → ts ≡ old ++ task.Number x k ∷ [] → numbered x k inner ≡ numbers
    → all_parts program code (reverse ts) n inner ≡ all_parts program code (reverse old) n numbers
number_restored program code old ts x k n inner numbers is restored =
    ap (λ (us : List Task). all_parts program code us n inner) (ap (λ (us : List Task). reverse us) is ∙ reverse_last old (task.Number x k))
    ∙ ap (λ (m : ℕ). all_parts program code (reverse old) m (numbered x k inner)) (omega arith)
    ∙ ap (λ (v : Numbers). all_parts program code (reverse old) n v) restored
