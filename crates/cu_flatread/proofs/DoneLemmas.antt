-- What is read of functions and modules, by what is read of their parts.
use Rattle.std.proofs.Common.{◌≡◌, ℕ, Bool, List, All, Ok, codes, map, sym}
use Rattle.cu_names.specs.Texts.{Extends, IsKnown, text_of}
use Rattle.cu_names.specs.declared.names.NameId.{NameId}
use Rattle.cu_flatread.proofs.DecimalLemmas.{given}
use Rattle.cu_flatread.proofs.KeptLemmas.{declarations_kept, entity_kept, extends_again, functions_kept, text_kept, texts_kept, type_kept}
use Rattle.cu_flatread.specs.FlatText.{most_nested}
use Rattle.cu_flatread.specs.Inside.Declarations.{declaration_at, function_at, module_at, operator_at, rule_at, visibility_at}
use Rattle.cu_flatread.specs.Inside.Names.{entity_at, quoted_at}
use Rattle.cu_flatread.specs.Inside.Numbers.{number_at}
use Rattle.cu_flatread.specs.Inside.Types.{type_at}
use Rattle.cu_flatread.specs.Inside.Words.{after_word, list_at}
use Rattle.cu_flatread.specs.Meaning.{HasDeclaration, HasEntity, HasFunction, HasType, declaration_of, entity_of, function_of, operator_of, rule_of, type_of}
use Rattle.cu_flatread.specs.Modules.{Declaration, Function, FunctionRule, Module, Operator, TypeExpression}
use Rattle.cu_flatread.specs.Notation.{Entity}
use Rattle.cu_flatread.specs.declared.declarations.FlatDeclaration.{FlatDeclaration}
use Rattle.cu_flatread.specs.declared.declarations.FlatFunction.{FlatFunction}
use Rattle.cu_flatread.specs.declared.declarations.FlatOperator.{FlatOperator}

abbrev function_from : Entity → ℕ → Bool → TypeExpression Entity → FunctionRule → Function
function_from e n public t r =
    record { entity = e; arity = n; public = public; of_type = t; rule = r }

pub function_done : (one two three : List (List ℕ)) (f : FlatFunction)
    (bytes a b c d e g h i j k rest : List ℕ) → Extends one two → Extends two three
    → HasEntity one f.entity → HasType two f.of_type
    → after_word (codes "\nFunc ") bytes ≡ Ok a → entity_at a ≡ given (entity_of one f.entity) b
    → after_word (codes " ") b ≡ Ok c → number_at c ≡ given f.arity d
    → after_word (codes " ") d ≡ Ok e → visibility_at e ≡ given f.public g
    → after_word (codes "(") g ≡ Ok h → type_at most_nested h ≡ given (type_of two f.of_type) i
    → after_word (codes ") (") i ≡ Ok j → rule_at j ≡ given (rule_of three f.rule) k
    → after_word (codes ")") k ≡ Ok rest → function_at bytes ≡ given (function_of three f) rest
unfolding function_at
function_done one two three f bytes a b c d e g h i j k rest more again has types
    w1 entity w2 arity w3 public w4 of_type w5 rule w6 =
    let whole = extends_again one two three more again in
    rw (w1, entity, w2, arity, w3, public, w4, of_type, w5, rule, w6)
    (λ n. given (function_from (sym (entity_kept one three f.entity whole has) n) f.arity f.public
    (sym (type_kept two three f.of_type again types) n) (rule_of three f.rule)) rest)

abbrev module_from : List ℕ → List (List ℕ) → List Declaration → List Function → List Operator
    → Module
module_from name imports types functions operators = record {
  name = name;
  imports = imports;
  types = types;
  functions = functions;
  operators = operators;
}

pub module_done : (one two three four five : List (List ℕ)) (name : NameId)
    (imports : List NameId) (types : List FlatDeclaration) (functions : List FlatFunction)
    (operators : List FlatOperator) (bytes a b c d e g h i j k rest : List ℕ)
    → Extends one two → Extends two three → Extends three four → Extends four five
    → IsKnown one name → All (IsKnown two) imports → All (HasDeclaration three) types
    → All (HasFunction four) functions
    → after_word (codes "Prog ") bytes ≡ Ok a → quoted_at a ≡ given (text_of one name) b
    → after_word (codes " ") b ≡ Ok c → list_at quoted_at c ≡ given (map (text_of two) imports) d
    → after_word (codes " ") d ≡ Ok e
    → list_at declaration_at e ≡ given (map (declaration_of three) types) g
    → after_word (codes " ") g ≡ Ok h
    → list_at function_at h ≡ given (map (function_of four) functions) i
    → after_word (codes " ") i ≡ Ok j
    → list_at operator_at j ≡ given (map (operator_of five) operators) k
    → after_word (codes "\n") k ≡ Ok rest
    → module_at bytes
    ≡ given (module_from (text_of five name) (map (text_of five) imports)
    (map (declaration_of five) types) (map (function_of five) functions)
    (map (operator_of five) operators)) rest
unfolding module_at
module_done one two three four five name imports types functions operators bytes a b c d e g h i j
    k rest m1 m2 m3 m4 known names declared ruled w1 named w2 imported w3 typed w4 functioned w5
    operated w6 =
    let from3 = extends_again three four five m3 m4 in
    let from2 = extends_again two three five m2 from3 in
    let from1 = extends_again one two five m1 from2 in
    rw (w1, named, w2, imported, w3, typed, w4, functioned, w5, operated, w6)
    (λ n. given (module_from (sym (text_kept one five name from1 known) n)
    (sym (texts_kept two five imports from2 names) n)
    (sym (declarations_kept three five types from3 declared) n)
    (sym (functions_kept four five functions m4 ruled) n)
    (map (operator_of five) operators)) rest)
