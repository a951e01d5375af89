-- Constructors and functions that names refer to.
use Rattle.std.proofs.Common.{◌≡◌, ◌∙◌, ℕ, List, Option, None, Some, refl, sym, ap}
use Rattle.std.specs.List.{Contains}
use Rattle.std.specs.Option.{unwrap_or}
use Rattle.cu_calculus.specs.declared.ConId.{ConId}
use Rattle.cu_calculus.specs.declared.Head.TheVariants as global
use Rattle.cu_kernel.specs.declared.local.LocalHead.TheVariants as head
use Rattle.cu_modules.specs.Scopes.{Named}
use Rattle.cu_toplevel.specs.declared.entities.Entities.{Entities}
use Rattle.cu_toplevel.specs.EntityTables.{AreEntities}
use Rattle.cu_translation.specs.Around.{Callable, Nothing, Referent, SetFunction, Variable}
use Rattle.cu_translation.specs.ModuleNames.{constructor_referent, function_referent, set_referent, value_of}
use Rattle.cu_translation.specs.Numbered.{all_constructors, all_functions, numbered, set_arity}
use Rattle.cu_translation.specs.Parts.{constructor_alone, function_in}
use Rattle.cu_translation.specs.Terms.{constructor_of}
use Rattle.cu_toplevel.proofs.EntityLemmas.{not_declared}

absent_value : (names : List (List ℕ)) (modules : List Named) (e : Entities) (owner text : List ℕ) → ¬ (Contains names text) → AreEntities names modules e
    → set_referent (set_arity owner text) ≡ value_of modules owner text
absent_value names modules e owner text absent has =
    let other = set_referent (set_arity owner text) in
    sym (ap (λ c. constructor_referent c (function_referent (numbered owner text (all_functions modules)) other))
    (not_declared names text owner (all_constructors modules) e.declarations.constructors absent has.declared.constructors)
    ∙ ap (λ f. function_referent f other) (not_declared names text owner (all_functions modules) e.declarations.functions absent has.declared.functions))

no_constructor : (o : Option ℕ) → None ≡ constructor_alone (set_referent o)
no_constructor None = refl
no_constructor (Some n) = refl

no_function : (o : Option ℕ) → record { 0 = 0 } ≡ function_in (set_referent o)
no_function None = refl
no_function (Some n) = refl

pub absent_constructor : (names : List (List ℕ)) (modules : List Named) (e : Entities) (owner text : List ℕ) → ¬ (Contains names text) → AreEntities names modules e
    → None ≡ constructor_alone (value_of modules owner text)
absent_constructor names modules e owner text absent has = no_constructor (set_arity owner text) ∙ ap constructor_alone (absent_value names modules e owner text absent has)

pub absent_function : (names : List (List ℕ)) (modules : List Named) (e : Entities) (owner text : List ℕ) → ¬ (Contains names text) → AreEntities names modules e
    → record { 0 = 0 } ≡ function_in (value_of modules owner text)
absent_function names modules e owner text absent has = no_function (set_arity owner text) ∙ ap function_in (absent_value names modules e owner text absent has)

pub first_is : (r : Referent) → unwrap_or (constructor_alone r) (record { 0 = 0 }) ≡ constructor_of r
first_is (Variable x) = refl
first_is (Callable (head.Global (global.Fun f)) n) = refl
first_is (Callable (head.Global (global.Con c)) n) = refl
first_is (Callable (head.Global (global.Set f)) n) = refl
first_is (Callable (head.Local k) n) = refl
first_is (SetFunction n) = refl
first_is Nothing = refl

abbrev none : ConId
none = record { 0 = 0 }

pub one_of_prelude : (modules : List Named) (owner text name : List ℕ) (found : Option ConId) (result : ConId) → owner ≡ name → result ≡ unwrap_or found none
    → found ≡ constructor_alone (value_of modules owner text) → result ≡ constructor_of (value_of modules name text)
one_of_prelude modules owner text name found result of is found_is =
    is ∙ ap (λ o. unwrap_or o none) found_is ∙ ap (λ o. unwrap_or (constructor_alone (value_of modules o text)) none) of ∙ first_is (value_of modules name text)
