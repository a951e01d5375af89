-- The reading of declarations, and of a module.
use Rattle.std.specs.Prelude.{◌≡◌, ℕ, ◌-◌, Bool, true, false, List, [], ◌∷◌, Result, Ok, Err, codes, length}
use Rattle.cu_kernel.specs.declared.declarations.Side.{Side}
use Rattle.cu_kernel.specs.declared.declarations.Side.TheVariants as to
use Rattle.cu_flatread.specs.FlatText.{most_nested}
use Rattle.cu_flatread.specs.Inside.Expressions.{expression_at}
use Rattle.cu_flatread.specs.Inside.Names.{entity_at, quoted_at}
use Rattle.cu_flatread.specs.Inside.Numbers.{level_at, number_at, numbers_at}
use Rattle.cu_flatread.specs.Inside.Types.{type_at, types_at}
use Rattle.cu_flatread.specs.Inside.Words.{Read, ◌>>=◌, after_word, list_at, one_of}
use Rattle.cu_flatread.specs.Modules as m
use Rattle.cu_flatread.specs.Modules.{FunctionRule, Constructor, Declaration, Function, Module, Operator, RightSide}
use Rattle.cu_flatread.specs.declared.fault.BadFlat.{BadFlat}
use Rattle.cu_flatread.specs.declared.fault.BadFlat.TheVariants as fault
use Rattle.cu_flatread.specs.declared.stop.Stop.{Stop}
use Rattle.cu_flatread.specs.declared.stop.Stop.TheVariants as stop
use Rattle.cu_flatread.specs.declared.functions.RuleForm.{RuleForm}
use Rattle.cu_flatread.specs.declared.functions.RuleForm.TheVariants as rule
use Rattle.cu_flatread.specs.declared.type_declarations.Form.{Form}
use Rattle.cu_flatread.specs.declared.type_declarations.Form.TheVariants as form

abbrev pub visibility_words : List (List ℕ × Bool)
visibility_words = (codes "Public ", true) ∷ (codes "Private ", false) ∷ []

-- whether an entity is public, and a space
abbrev pub visibility_at : List ℕ → Read Bool
visibility_at = one_of visibility_words

-- ---- types

unfoldable pub constructor_at : List ℕ → Read Constructor
constructor_at bytes =
    after_word (codes "Cons ") bytes >>= λ a. entity_at a >>= λ e. after_word (codes " ") e.1
    >>= λ b. number_at b >>= λ n. after_word (codes " ") n.1 >>= λ c. visibility_at c
    >>= λ v. types_at v.1
    >>= λ ts. Ok (record { entity = e.0; arity = n.0; public = v.0; fields = ts.0 }, ts.1)

unfoldable pub right_side_at : Form → List ℕ → Read RightSide
right_side_at form.Type bytes =
    list_at constructor_at bytes >>= λ cs. Ok (m.OfType cs.0, cs.1)
right_side_at form.TypeSyn bytes =
    after_word (codes "(") bytes >>= λ a. type_at most_nested a
    >>= λ t. after_word (codes ")") t.1 >>= λ rest. Ok (m.OfTypeSyn t.0, rest)

abbrev pub declaration_words : List (List ℕ × Form)
declaration_words = (codes "\nType ", form.Type) ∷ (codes "\nTypeSyn ", form.TypeSyn) ∷ []

-- a declaration on a new line
unfoldable pub declaration_at : List ℕ → Read Declaration
declaration_at bytes =
    one_of declaration_words bytes >>= λ found. entity_at found.1
    >>= λ e. after_word (codes " ") e.1 >>= λ a. visibility_at a >>= λ v. numbers_at v.1
    >>= λ xs. after_word (codes " ") xs.1 >>= λ b. right_side_at found.0 b
    >>= λ t. Ok (record { entity = e.0; public = v.0; parameters = xs.0; right_side = t.0 }, t.1)

-- ---- functions

unfoldable pub rule_of_form : RuleForm → List ℕ → Read FunctionRule
rule_of_form rule.Rule bytes =
    numbers_at bytes >>= λ xs. after_word (codes " (") xs.1 >>= λ a. expression_at most_nested a
    >>= λ t. after_word (codes ")") t.1 >>= λ rest. Ok (m.Rule xs.0 t.0, rest)
rule_of_form rule.External bytes = quoted_at bytes >>= λ name. Ok (m.External name.0, name.1)

abbrev pub rule_words : List (List ℕ × RuleForm)
rule_words = (codes "Rule ", rule.Rule) ∷ (codes "External ", rule.External) ∷ []

unfoldable pub rule_at : List ℕ → Read FunctionRule
rule_at bytes = one_of rule_words bytes >>= λ found. rule_of_form found.0 found.1

-- a function on a new line
unfoldable pub function_at : List ℕ → Read Function
function_at bytes =
    after_word (codes "\nFunc ") bytes >>= λ a. entity_at a >>= λ e. after_word (codes " ") e.1
    >>= λ b. number_at b >>= λ n. after_word (codes " ") n.1 >>= λ c. visibility_at c
    >>= λ v. after_word (codes "(") v.1 >>= λ d. type_at most_nested d
    >>= λ t. after_word (codes ") (") t.1 >>= λ f. rule_at f >>= λ r. after_word (codes ")") r.1
    >>= λ rest. Ok (
      record {
        entity = e.0;
        arity = n.0;
        public = v.0;
        of_type = t.0;
        rule = r.0;
      },
      rest,
    )

-- ---- operators

abbrev pub side_words : List (List ℕ × Side)
side_words =
    (codes "InfixlOp ", to.Left) ∷ (codes "InfixrOp ", to.Right) ∷ (codes "InfixOp ", to.Neither)
    ∷ []

-- an operator on a new line
unfoldable pub operator_at : List ℕ → Read Operator
operator_at bytes =
    after_word (codes "\nOp ") bytes >>= λ a. entity_at a >>= λ e. after_word (codes " ") e.1
    >>= λ b. one_of side_words b >>= λ side. level_at side.1
    >>= λ n. Ok (record { entity = e.0; side = side.0; level = n.0 }, n.1)

-- ---- modules

unfoldable pub module_at : List ℕ → Read Module
module_at bytes =
    after_word (codes "Prog ") bytes >>= λ a. quoted_at a >>= λ name. after_word (codes " ") name.1
    >>= λ b. list_at quoted_at b >>= λ imports. after_word (codes " ") imports.1
    >>= λ c. list_at declaration_at c >>= λ types. after_word (codes " ") types.1
    >>= λ d. list_at function_at d >>= λ functions. after_word (codes " ") functions.1
    >>= λ f. list_at operator_at f >>= λ operators. after_word (codes "\n") operators.1
    >>= λ rest. Ok (
      record {
        name = name.0;
        imports = imports.0;
        types = types.0;
        functions = functions.0;
        operators = operators.0;
      },
      rest,
    )

-- what is read, where no byte is left
abbrev pub all_of : {A : Type 0} → A × List ℕ → Result A ℕ
all_of (x, []) = Ok x
all_of (x, b ∷ bytes) = Err (length (b ∷ bytes))

-- the module whose text all the bytes are, or how many bytes are left at the fault
unfoldable pub whole_at : List ℕ → Result Module ℕ
whole_at bytes = module_at bytes >>= all_of

-- What a function answers, seen by `view`, is what reading all bytes gives. An allocation failure
-- says nothing.
abbrev pub GivesAll : {X Y : Type 0} → (X → Y) → Result X Stop → Result Y ℕ → Type 0
GivesAll view (Ok x) read = read ≡ Ok (view x)
GivesAll view (Err (stop.At left)) read = read ≡ Err left
GivesAll view (Err stop.NoMemory) read = Unit {0}

-- the fault of so many bytes, by why reading breaks off
abbrev pub fault_of : ℕ → Stop → BadFlat
fault_of count (stop.At left) = fault.At (count - left)
fault_of count stop.NoMemory = fault.NoMemory
