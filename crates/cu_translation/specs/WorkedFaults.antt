-- Samples that are refused, and where.
use Rattle.std.specs.Prelude.{ℕ, [], ◌∷◌, None, codes}
use Rattle.cu_syntax.specs.Syntax as syntax
use Rattle.cu_syntax.specs.Syntax.{Expression, NoDeclaration, NoOperator, NoPattern, NoQualifier, MoreQualifiers, ThenOperator}
use Rattle.cu_translation.specs.FaultOrder.{Wrong}
use Rattle.cu_translation.specs.Samples.{at, block, defined, expressions, name, named, number, patterns, variable}
use Rattle.cu_translation.specs.Translation.{Outcome, Refused}

abbrev pub refused : Wrong → ℕ → Outcome
refused what column = Refused (record { wrong = what; at = at column })

-- `let { xs = 1 : xs } in xs`, at xs
abbrev pub recursive : Expression
recursive =
    syntax.Let (at 1)
    (block (defined (codes "xs") 7
    (syntax.Operators (at 12) None (number 1 12)
    (ThenOperator (name (codes ":") 14) None (variable (codes "xs") 16) NoOperator)) ∷ []))
    (variable (codes "xs") 24)

-- `set1 (\x -> x) 1`, at set1
abbrev pub nameless : Expression
nameless =
    syntax.Application (at 1) (variable (codes "set1") 1)
    (expressions (syntax.Lambda (at 7) (patterns (named (codes "x") 8 ∷ []))
    (variable (codes "x") 13) ∷ number 1 16 ∷ []))

-- `1 == 2 == 3`, at the first token
abbrev pub chained : Expression
chained =
    syntax.Operators (at 1) None (number 1 1)
    (ThenOperator (name (codes "==") 3) None (number 2 6)
    (ThenOperator (name (codes "==") 8) None (number 3 11) NoOperator))
