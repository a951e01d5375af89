-- The flat program of a valid program is valid.
use Rattle.std.proofs.Common.{◌≡◌, ℕ, zero, suc, ◌<◌, ◌⊎◌, inl, inr, Bool, true, ◌&&◌, List, [], ◌∷◌, length, map, nat_eq, Option, None, Some, option_map, slice_get, IsTrue, refl, ap, sym, ◌∙◌, subst, arith, eq-eqb, eqb-true}
use Rattle.std.specs.List.{list_all}
use Rattle.std.proofs.lemmas.Bool.{and_from, and_parts}
use Rattle.cu_calculus.specs.declared.ConId.{ConId}
use Rattle.cu_calculus.specs.declared.FunId.{FunId}
use Rattle.cu_calculus.specs.declared.Head.TheVariants as head
use Rattle.cu_calculus.specs.declared.builtin.Primitive.{Primitive}
use Rattle.cu_calculus.specs.declared.builtin.Primitive.TheVariants as prim
use Rattle.cu_calculus.specs.declared.builtin.Special.{Special}
use Rattle.cu_calculus.specs.Choose.{list_patterns}
use Rattle.cu_calculus.specs.Program.{Body, Constructor, External, Function, Program, Rule, Rules, arity_in, constructor_of, function_of}
use Rattle.cu_calculus.specs.Term.{Term}
use Rattle.cu_calculus.specs.Valid.{HasSpecial, IsConjunction, IsValid, all_variables, external_arity, fits_body, fits_function, fits_rule, fits_term, holds, is_arity, is_linear, pattern_count, fit_patterns}
use Rattle.cu_calculus.proofs.Lists.{passed_at}
use Rattle.cu_deftree.specs.Lowering.{IsOperation, Tree, variables}
use Rattle.cu_deftree.specs.LoweredProgram as lowered
use Rattle.cu_deftree.specs.LoweredProgram.{Flattens, FunctionLowers}
use Rattle.cu_deftree.specs.Rows.{Names, constructor_arity, name_of, names_at_all, numbers, row_of_rule}
use Rattle.cu_deftree.proofs.Converse.{numbers_count, numbers_linear, variables_are}
use Rattle.cu_deftree.proofs.FlatTrees.{all_from_each}
use Rattle.cu_deftree.proofs.KeptConjunction.{Booleans, conjunction_kept}
use Rattle.cu_deftree.proofs.Levels.{stands_too}
use Rattle.cu_deftree.proofs.Opening.{inner_all}
use Rattle.cu_deftree.proofs.Scoped.{RowSees, RowsSee, all_held, holds_below, new_names, targets_at_all, variables_named}
use Rattle.cu_deftree.proofs.Sound.{all_rules_fit, allowed_same, arity_lowered, arity_same, rows_of_rules_fit}
use Rattle.cu_deftree.proofs.StillValid.{Alike, count_variables, tree_fits, variables_fit}
use Rattle.cu_deftree.proofs.Suits.{patterns_count}
use Rattle.std.proofs.Common.{append-nil}

-- ---- the rows of rules

rule_sees : (program : Program) (arity : ℕ) (rule : Rule) → IsTrue (fits_rule program arity rule)
    → RowSees program (λ x. holds x (numbers 1 arity)) (row_of_rule (numbers 1 arity) rule)
rule_sees program arity rule h =
    let may = λ (x : ℕ). holds x (all_variables rule.params) in
    let counted = nat_eq (pattern_count rule.params) arity in
    let known = fit_patterns program rule.params in
    let linear = is_linear (all_variables rule.params) in
    let one = and_parts (counted && known && linear) (fits_term program may rule.body) h in
    let two = and_parts (counted && known) linear one.0 in
    let three = and_parts counted known two.0 in
    let many : length (list_patterns rule.params) ≡ length (numbers 1 arity) =
    patterns_count rule.params ∙ eqb-true (pattern_count rule.params) arity three.0 ∙ sym (numbers_count 1 arity) in
    record { source = may; fits = one.1; sees = λ x k. by x (variables_named x (numbers 1 arity) rule.params many k) }
  where
    names : Names
    names = names_at_all (numbers 1 arity) (list_patterns rule.params)

    target : ℕ → Bool
    target x = holds x (numbers 1 arity)

    by : (x : ℕ) → (holds x (map (λ n. n.0) names) ≡ true) ⊎ (holds x (inner_all (list_patterns rule.params)) ≡ true)
        → (holds x (inner_all (list_patterns rule.params)) ≡ true) ⊎ (target (name_of names x) ≡ true)
    by x (inr inside) = inl inside
    by x (inl named) =
        inr (subst (λ (ns : Names). target (name_of ns x) ≡ true) (append-nil names)
        (new_names target names [] x (targets_at_all target (numbers 1 arity) (list_patterns rule.params) (all_held (numbers 1 arity))) named))

rules_see : (program : Program) (arity : ℕ) (rules : List Rule) → IsTrue (list_all (fits_rule program arity) rules)
    → RowsSee program (λ x. holds x (numbers 1 arity)) (map (row_of_rule (numbers 1 arity)) rules)
rules_see program arity [] h = tt
rules_see program arity (rule ∷ rules) h =
    let parts = and_parts (fits_rule program arity rule) (list_all (fits_rule program arity) rules) h in
    (rule_sees program arity rule parts.0, rules_see program arity rules parts.1)

-- ---- functions

operation_arity : (program : Program) (operation : Primitive) (f : FunId) → IsValid program → IsOperation program operation f
    → arity_in program (head.Fun f) ≡ Some (external_arity operation)
operation_arity program operation f valid is =
    let fits : IsTrue (fits_function program is.function) = passed_at (fits_function program) program.functions f.0 is.function valid.functions is.is_there in
    let body = (and_parts (is_arity is.function.arity) (fits_body program is.function.arity is.function.body) fits).1 in
    let as_external : IsTrue (fits_body program is.function.arity (External operation)) =
    subst (λ (b : Body). IsTrue (fits_body program is.function.arity b)) is.is_built_in body in
    ap (option_map (λ function. function.arity)) is.is_there
    ∙ ap Some (eqb-true is.function.arity (external_arity operation) as_external)

flat_alike : (program flat : Program) → IsValid program → Flattens program flat → Alike program flat
flat_alike program flat valid flattens = record {
  arity = arity_same program flat [] flattens valid;
  allowed = allowed_same program flat [] flattens valid;
  truth = valid.special.truth;
  falsity = valid.special.falsity;
  failed = λ f is. operation_arity program prim.Failed f valid is;
  equal = λ f is. operation_arity program prim.Equal f valid is;
}

rule_fits : (program flat : Program) (arity : ℕ) (t : Term) → IsTrue (fits_term flat (λ x. holds x (numbers 1 arity)) t)
    → IsTrue (fits_rule flat arity (record { params = variables (numbers 1 arity); body = t }))
rule_fits program flat arity t fits =
    let params = variables (numbers 1 arity) in
    let counted = nat_eq (pattern_count params) arity in
    let known = fit_patterns flat params in
    let linear = is_linear (all_variables params) in
    and_from (counted && known && linear) (fits_term flat (λ x. holds x (all_variables params)) t)
    (and_from (counted && known) linear
    (and_from counted known (eq-eqb (pattern_count params) arity (count_variables (numbers 1 arity) ∙ numbers_count 1 arity)) (variables_fit flat (numbers 1 arity)))
    (ap is_linear (variables_are (numbers 1 arity)) ∙ numbers_linear 1 arity))
    (ap (λ (xs : List ℕ). fits_term flat (λ x. holds x xs) t) (variables_are (numbers 1 arity)) ∙ fits)

tree_of_rules_fits : (program flat : Program) → Alike program flat → (arity : ℕ) (rules : List Rule) (t : Term)
    → IsTrue (list_all (fits_rule program arity) rules) → Tree program (numbers 1 arity) (suc arity) (map (row_of_rule (numbers 1 arity)) rules) t
    → IsTrue (fits_term flat (λ x. holds x (numbers 1 arity)) t)
tree_of_rules_fits program flat alike arity rules t each tree =
    tree_fits program flat alike (numbers 1 arity) (suc arity) (map (row_of_rule (numbers 1 arity)) rules) t tree (λ x. holds x (numbers 1 arity))
    (record {
      fit = rows_of_rules_fit program arity (numbers 1 arity) rules refl (all_rules_fit program arity rules each);
      sees = rules_see program arity rules each;
      places = all_held (numbers 1 arity);
      under = λ x h. let l = holds_below x 1 arity h in omega arith;
    })

function_fits : (program flat : Program) → Alike program flat → (function low : Function) → IsTrue (fits_function program function)
    → FunctionLowers program function low → IsTrue (fits_function flat low)
function_fits program flat alike function low fits (lowered.external operation _ e f) =
    let parts = and_parts (is_arity function.arity) (fits_body program function.arity function.body) fits in
    let body : IsTrue (fits_body flat function.arity function.body) =
    subst (λ (b : Body). IsTrue (fits_body flat function.arity b)) (sym e)
    (subst (λ (b : Body). IsTrue (fits_body program function.arity b)) e parts.1) in
    subst (λ (g : Function). IsTrue (fits_function flat g)) (sym f)
    (and_from (is_arity function.arity) (fits_body flat function.arity function.body) parts.0 body)
function_fits program flat alike function low fits (lowered.by_tree rules xs t _ e is tree f) =
    let parts = and_parts (is_arity function.arity) (fits_body program function.arity function.body) fits in
    let each : IsTrue (list_all (fits_rule program function.arity) rules) =
    subst (λ (b : Body). IsTrue (fits_body program function.arity b)) e parts.1 in
    let numbered = subst (λ (ys : List ℕ). Tree program ys (suc function.arity) (map (row_of_rule ys) rules) t) is tree in
    let one : Rule = record { params = variables (numbers 1 function.arity); body = t } in
    let rule = rule_fits program flat function.arity t (tree_of_rules_fits program flat alike function.arity rules t each numbered) in
    let whole : Function = record { arity = function.arity; body = Rules (one ∷ []) } in
    let low_is : low ≡ whole =
    f ∙ ap (λ (ys : List ℕ). let g : Function = record { arity = function.arity; body = Rules (record { params = variables ys; body = t } ∷ []) } in g) is in
    subst (λ (g : Function). IsTrue (fits_function flat g)) (sym low_is)
    (and_from (is_arity function.arity) (list_all (fits_rule flat function.arity) (one ∷ [])) parts.0
    (and_from (fits_rule flat function.arity one) true rule refl))

-- ---- the built-in entities

constant : (program : Program) (c : ConId) (n : ℕ) → arity_in program (head.Con c) ≡ Some n → constructor_arity program c ≡ n
constant program c n e = by (constructor_of program c) e
  where
    by : (found : Option Constructor) → option_map (λ constructor. constructor.arity) found ≡ Some n
        → elim found [ Some constructor ↦ constructor.arity | None ↦ 0 ] ≡ n
    by None f = let none : ⊥ = cc in absurd none
    by (Some constructor) f = cc

below_length : {A : Type 0} (xs : List A) (k : ℕ) (x : A) → slice_get xs k ≡ Some x → k < length xs
below_length [] k x e = let none : ⊥ = cc in absurd none
below_length (y ∷ xs) zero x e = omega arith
below_length (y ∷ xs) (suc k) x e = let l = below_length xs k x e in omega arith

constant_there : (program : Program) (c : ConId) (n : ℕ) → arity_in program (head.Con c) ≡ Some n → c.0 < length program.constructors
constant_there program c n e = by (constructor_of program c) refl e
  where
    by : (found : Option Constructor) → constructor_of program c ≡ found → option_map (λ constructor. constructor.arity) found ≡ Some n
        → c.0 < length program.constructors
    by None g f = let none : ⊥ = cc in absurd none
    by (Some constructor) g f = below_length program.constructors c.0 constructor g

booleans : (program : Program) → HasSpecial program → Booleans program
booleans program special = record {
  ordered = special.ordered;
  falsity = constant program program.special.falsity 0 special.falsity;
  truth = constant program program.special.truth 0 special.truth;
  there = constant_there program program.special.truth 0 special.truth;
}

abbrev Both : Program → Special → Type 0
Both flat special =
    (function : Function) × (function_of flat special.both ≡ Some function) × (function.arity ≡ 2) × IsConjunction special function.body

both_kept : (program flat : Program) → IsValid program → Flattens program flat → Both flat program.special
both_kept program flat valid flattens =
    let before = valid.special.both in
    let found = stands_too program.functions flat.functions program.special.both.0 before.0 (sym flattens.each) before.1 in
    let lowers = flattens.functions program.special.both.0 before.0 found.0 before.1 found.1 in (
      found.0,
      found.1,
      arity_lowered program flat [] flattens valid before.0 found.0 lowers ∙ before.2,
      conjunction_kept program (booleans program valid.special) before.0 found.0 before.2 before.3 lowers,
    )

-- the built-in entities of a program, in another one with the same arities
record SpecialIn (flat : Program) (special : Special) : Type 0 where
  pub falsity : arity_in flat (head.Con special.falsity) ≡ Some 0
  pub truth : arity_in flat (head.Con special.truth) ≡ Some 0
  pub ordered : special.falsity.0 < special.truth.0
  pub nil : arity_in flat (head.Con special.nil) ≡ Some 0
  pub cons : arity_in flat (head.Con special.cons) ≡ Some 2
  pub both : Both flat special
  pub values : (c : ConId) → special.values ≡ Some c → arity_in flat (head.Con c) ≡ Some 1

special_in : (program flat : Program) → IsValid program → Flattens program flat → SpecialIn flat program.special
special_in program flat valid flattens =
    let same = arity_same program flat [] flattens valid in
    let special = valid.special in
    record {
      falsity = same (head.Con program.special.falsity) ∙ special.falsity;
      truth = same (head.Con program.special.truth) ∙ special.truth;
      ordered = special.ordered;
      nil = same (head.Con program.special.nil) ∙ special.nil;
      cons = same (head.Con program.special.cons) ∙ special.cons;
      both = both_kept program flat valid flattens;
      values = λ c e. same (head.Con c) ∙ special.values c e;
    }

special_of : (flat : Program) → SpecialIn flat flat.special → HasSpecial flat
special_of flat h = record {
  falsity = h.falsity;
  truth = h.truth;
  ordered = h.ordered;
  nil = h.nil;
  cons = h.cons;
  both = h.both;
  values = h.values;
}

pub flat_valid : (program flat : Program) → IsValid program → Flattens program flat → IsValid flat
flat_valid program flat valid flattens = record {
  constructors = ap (list_all (λ constructor. is_arity constructor.arity)) flattens.constructors ∙ valid.constructors;
  functions = all_from_each (fits_function flat) flat.functions (λ k low e.
      let found = stands_too flat.functions program.functions k low flattens.each e in
      function_fits program flat (flat_alike program flat valid flattens) found.0 low
      (passed_at (fits_function program) program.functions k found.0 valid.functions found.1) (flattens.functions k found.0 low found.1 e));
  special = special_of flat (subst (λ (s : Special). SpecialIn flat s) (sym flattens.special) (special_in program flat valid flattens));
}
