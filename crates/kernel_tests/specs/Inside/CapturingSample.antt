-- A top-level function whose local function captures its parameter: `f x = g x where g y = x`,
-- where x and y have the numbers 0 and 1.
use Rattle.std.specs.Prelude.{ℕ, [], ◌∷◌, None}
use Rattle.cu_calculus.specs.Term as clean
use Rattle.cu_kernel.specs.LocalKernel.{LocalFunction, LocalRule, Rules, TopFunction}
use Rattle.cu_kernel.specs.LocalTerm as local
use Rattle.cu_kernel.specs.LocalTerm.{LocalTerm}
use Rattle.cu_kernel.specs.declared.local.LocalHead.TheVariants as head

abbrev pub rule_of_one : ℕ → LocalTerm → LocalRule
rule_of_one x body =
    record { params = clean.MorePatterns (clean.Any x) clean.NoPattern; body = body }

abbrev pub inner_call : LocalTerm
inner_call = local.Whole (head.Local 0) (local.MoreTerms (local.Variable 0) local.NoTerm)

abbrev pub inner_function : LocalFunction
inner_function = record {
  place = record { «module» = record { 0 = 0 }; line = 1; column = 1 };
  declared = None;
  arity = 1;
  rules = rule_of_one 1 (local.Variable 0) ∷ [];
}

abbrev pub outer_function : TopFunction
outer_function = record {
  name = record { 0 = 0 };
  arity = 1;
  body = Rules (rule_of_one 0 inner_call ∷ []);
  locals = inner_function ∷ [];
}
