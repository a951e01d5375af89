-- How steps are told apart: by their parts.
use Rattle.std.specs.Prelude.{ℕ, List, refl}
use Rattle.std.specs.Coded.{Coded, code_by, coded_ℕ, coded_list, coded×}
use Rattle.cu_calculus.specs.Proof.{Statement, Step}
use Rattle.cu_calculus.specs.Term.{Term}
use Rattle.cu_calculus.specs.Value.{Value}
use Rattle.cu_kernel.specs.TermStored.{term_code}
use Rattle.cu_values.specs.Spelling.{value_code}

abbrev pub statement_code : Coded Statement
statement_code =
    code_by (List (ℕ × Value) × (Term × Value))
    (coded× (coded_list (coded× coded_ℕ value_code)) (coded× term_code value_code))
    (λ s. (s.env, (s.term, s.value))) (λ t. record { env = t.0; term = t.1.0; value = t.1.1 })
    (λ _. refl)

abbrev pub step_code : Coded Step
step_code =
    code_by (List ℕ × Statement) (coded× (coded_list coded_ℕ) statement_code)
    (λ s. (s.cites, s.statement))
    (λ t. record { cites = t.0; statement = t.1 }) (λ _. refl)
