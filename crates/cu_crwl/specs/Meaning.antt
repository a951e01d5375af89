-- The claims, statements and steps that the code's vectors and boxes stand for.
use Rattle.std.specs.Prelude.{List, map}
use denote.Ref.{Bor}
use Rattle.cu_calculus.specs.Gives as calculus
use Rattle.cu_calculus.specs.Proof as proof
use Rattle.cu_calculus.specs.Value.{values_of}
use Rattle.cu_kernel.specs.TermsOf.{term_of}
use Rattle.cu_crwl.specs.declared.claim.Claim.{Claim}
use Rattle.cu_crwl.specs.declared.claim.Statement.{Statement}
use Rattle.cu_crwl.specs.declared.claim.Step.{Step}

-- the claim that a claim of the code stands for
abbrev pub claim_of : Claim → calculus.Claim
claim_of c = record {
  function = c.function;
  arguments = values_of c.arguments.items;
  values = c.values.items;
}

-- the statement that a statement of the code stands for
abbrev pub statement_of : Statement → proof.Statement
statement_of s = record { env = s.env.items; term = term_of s.term; value = s.value }

-- the step that a step of the code stands for
abbrev pub step_of : Step → proof.Step
step_of s = record { cites = s.cites.items; statement = statement_of s.statement }

-- the statements that references to statements of the code stand for
abbrev pub statements_at : List (Bor Statement) → List proof.Statement
statements_at ss = map (λ s. statement_of s.now) ss
