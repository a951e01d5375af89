-- The program before lifting that the code's vectors and boxes stand for.
use Rattle.std.specs.Prelude.{map, option_map}
use Rattle.cu_kernel.specs.KernelOf.{goal_meaning, mark_meaning, module_meaning, synonym_meaning, type_meaning}
use Rattle.cu_kernel.specs.LocalKernel as kernel
use Rattle.cu_kernel.specs.LocalKernel.{LocalKernel}
use Rattle.cu_kernel.specs.LocalTermsOf.{local_term_of}
use Rattle.cu_kernel.specs.TermsOf.{patterns_of}
use Rattle.cu_kernel.specs.TypesOf.{type_of}
use Rattle.cu_kernel.specs.declared.local.LocalBody.TheVariants.{External, Rules}
use Rattle.cu_kernel.specs.declared.local.LocalBody.{LocalBody}
use Rattle.cu_kernel.specs.declared.local.LocalFunction.{LocalFunction}
use Rattle.cu_kernel.specs.declared.local.LocalRule.{LocalRule}
use Rattle.cu_kernel.specs.declared.local.TopFunction.{TopFunction}
use Rattle.cu_kernel.specs.declared.local_program.LocalParts.{LocalParts}

-- the rule that a rule of the code stands for
abbrev pub local_rule_meaning : LocalRule → kernel.LocalRule
local_rule_meaning rule =
    record { params = patterns_of rule.params.items; body = local_term_of rule.body }

-- the body that a body of the code stands for
abbrev pub local_body_meaning : LocalBody → kernel.LocalBody
local_body_meaning (Rules rules) = kernel.Rules (map local_rule_meaning rules.items)
local_body_meaning (External operation) = kernel.External operation

-- the local function that one of the code stands for
abbrev pub local_function_meaning : LocalFunction → kernel.LocalFunction
local_function_meaning f = record {
  place = f.place;
  declared = option_map type_of f.declared;
  arity = f.arity;
  rules = map local_rule_meaning f.rules.items;
}

-- the top-level function that one of the code stands for
abbrev pub top_function_meaning : TopFunction → kernel.TopFunction
top_function_meaning f = record {
  name = f.name;
  arity = f.arity;
  body = local_body_meaning f.body;
  locals = map local_function_meaning f.locals.items;
}

-- the program before lifting that parts of the code stand for
abbrev pub local_kernel_of : LocalParts → LocalKernel
local_kernel_of parts = record {
  start = parts.start;
  types = map type_meaning parts.types.items;
  functions = map top_function_meaning parts.functions.items;
  synonyms = map synonym_meaning parts.synonyms.items;
  modules = map module_meaning parts.modules.items;
  marks = map mark_meaning parts.marks.items;
  goal = option_map goal_meaning parts.goal;
  special = parts.special;
}
