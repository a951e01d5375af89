-- The kernel program that the code's vectors and boxes stand for.
use Rattle.std.specs.Prelude.{map, option_map}
use Rattle.cu_calculus.specs.Program as calculus
use Rattle.cu_kernel.specs.Kernel as kernel
use Rattle.cu_kernel.specs.Kernel.{Kernel}
use Rattle.cu_kernel.specs.TermsOf.{patterns_of, term_of}
use Rattle.cu_kernel.specs.TypesOf.{type_of}
use Rattle.cu_kernel.specs.declared.constructors.Placed.{Placed}
use Rattle.cu_kernel.specs.declared.declarations.Constructor.{Constructor}
use Rattle.cu_kernel.specs.declared.declarations.DataType.{DataType}
use Rattle.cu_kernel.specs.declared.declarations.Goal.{Goal}
use Rattle.cu_kernel.specs.declared.declarations.Mark.{Mark}
use Rattle.cu_kernel.specs.declared.declarations.ModuleInfo.{ModuleInfo}
use Rattle.cu_kernel.specs.declared.declarations.Synonym.{Synonym}
use Rattle.cu_kernel.specs.declared.program.ProgramParts.{ProgramParts}
use Rattle.cu_kernel.specs.declared.term.Body.{Body}
use Rattle.cu_kernel.specs.declared.term.Body.TheVariants.{External, Rules}
use Rattle.cu_kernel.specs.declared.term.Function.{Function}
use Rattle.cu_kernel.specs.declared.term.Rule.{Rule}

-- the rule that a rule of the code stands for
abbrev pub rule_meaning : Rule → calculus.Rule
rule_meaning rule = record { params = patterns_of rule.params.items; body = term_of rule.body }

-- the body that a body of the code stands for
abbrev pub body_meaning : Body → calculus.Body
body_meaning (Rules rules) = calculus.Rules (map rule_meaning rules.items)
body_meaning (External operation) = calculus.External operation

-- the function that a function of the code stands for
abbrev pub function_meaning : Function → kernel.Function
function_meaning f = record { name = f.name; arity = f.arity; body = body_meaning f.body }

-- the constructor that a constructor of the code stands for
abbrev pub constructor_meaning : Constructor → kernel.Constructor
constructor_meaning c =
    record { name = c.name; public = c.public; fields = map type_of c.fields.items }

-- the constructor with its type's index that one of the code stands for
abbrev pub placed_meaning : Placed → kernel.Placed
placed_meaning p =
    record { of_type = p.of_type.0; constructor = constructor_meaning p.constructor.now }

-- the data type that a data type of the code stands for
abbrev pub type_meaning : DataType → kernel.DataType
type_meaning t = record {
  name = t.name;
  «module» = t.module;
  arity = t.arity;
  public = t.public;
  constructors = map constructor_meaning t.constructors.items;
}

-- the synonym that a synonym of the code stands for
abbrev pub synonym_meaning : Synonym → kernel.Synonym
synonym_meaning s =
    record {
      name = s.name;
      «module» = s.module;
      public = s.public;
      arity = s.arity;
      body = type_of s.body;
    }

-- the module that a module of the code stands for
abbrev pub module_meaning : ModuleInfo → kernel.Module
module_meaning m =
    record { name = m.name; imports = m.imports.items; operators = m.operators.items }

-- the mark that a mark of the code stands for
abbrev pub mark_meaning : Mark → kernel.Mark
mark_meaning m = record {
  «module» = m.module;
  public = m.public;
  declared = option_map type_of m.declared;
  captured = m.captured;
  place = m.place;
}

-- the goal that a goal of the code stands for
abbrev pub goal_meaning : Goal → kernel.Goal
goal_meaning g = record { function = g.function; names = g.names.items }

-- the kernel program that parts of the code stand for
abbrev pub kernel_of : ProgramParts → Kernel
kernel_of parts = record {
  types = map type_meaning parts.types.items;
  functions = map function_meaning parts.functions.items;
  synonyms = map synonym_meaning parts.synonyms.items;
  modules = map module_meaning parts.modules.items;
  marks = map mark_meaning parts.marks.items;
  goal = option_map goal_meaning parts.goal;
  special = parts.special;
}
