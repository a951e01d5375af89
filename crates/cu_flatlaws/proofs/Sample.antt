-- The worked examples of what is printed.
use Rattle.std.proofs.Common.{◌≡◌, refl}
use Rattle.std.specs.Fmt.{digits}
use Rattle.cu_flatlaws.specs.Example.{example, some_expression, some_term}
use Rattle.cu_flatlaws.specs.Printed.{printed}
use Rattle.cu_flatlaws.specs.PrintedExpressions.{printed_expression}
use Rattle.cu_flattext.specs.ExpressionTexts.{no_numbers}
use Rattle.cu_flattext.specs.TypeTexts.{leads_to_itself, leads_within}
use Rattle.cu_flattext.specs.Worked.{worked}

pub example_is_printed : printed worked 1 ≡ example
unfolding leads_to_itself leads_within
example_is_printed = refl

pub expression_is_printed : printed_expression worked 1 no_numbers some_term ≡ some_expression
unfolding digits
expression_is_printed = refl
