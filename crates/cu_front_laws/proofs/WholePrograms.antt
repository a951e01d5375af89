-- Programs of modules, and of modules and a goal, declare their types as inference asks.
use Rattle.std.proofs.Common.{◌≡◌, ◌∙◌, ◌<◌, ◌≤◌, ℕ, zero, suc, true, List, [], ◌∷◌, ◌++◌, Some, length, map, refl, sym, ap, subst, arith, codes}
use Rattle.std.proofs.lemmas.List.{append-nil}
use Rattle.std.specs.List.{list_all}
use Rattle.cu_front.specs.Translated.{program_upto}
use Rattle.cu_kernel.specs.Kernel as kernel
use Rattle.cu_kernel.specs.Kernel.{Kernel, Mark}
use Rattle.cu_kernel.specs.LocalKernel.{LocalKernel, TopFunction, joined}
use Rattle.cu_lift.specs.Lifting.{Locals, lifted, marks_from}
use Rattle.cu_syntax.specs.Syntax.{Goal}
use Rattle.cu_modules.specs.BuiltInEntities.{prelude_name}
use Rattle.cu_modules.specs.Means.{AreScoped, IsGoalScoped}
use Rattle.cu_modules.specs.Scopes.{Named}
use Rattle.cu_declared.specs.Parameters.{all_parameters, number_at}
use Rattle.cu_declared.specs.TypeFaults.{AreRight, IsGoalRight}
use Rattle.cu_translation.specs.ModuleNames.{module_at, names_in}
use Rattle.cu_translation.specs.Numbered as numbered
use Rattle.cu_translation.specs.Parts.{goal_names, goal_part, module_part, reading}
use Rattle.cu_types.specs.Synonyms.{DeclaresTypes, is_applied}
use Rattle.cu_front_laws.proofs.DeclaredMarks.{MarkIsRight, TakeLiterals, TopIsRight, functions_right, goal_right, has_signature, lifted_right, marks_right}
use Rattle.cu_front_laws.proofs.Members.{Every, every_append, every_gather, gather}
use Rattle.cu_front_laws.proofs.NarrowTexts.{NarrowExpression, NarrowItem}
use Rattle.cu_front_laws.proofs.ProgramTypes.{TypeApplied, all_from, synonyms_applied, synonyms_arities, synonyms_at, types_applied, types_arities, types_at}
use Rattle.cu_front_laws.proofs.ScopedUses.{goal_uses_take, prelude_takes, signs_take, uses_take}
use Rattle.cu_front_laws.proofs.SynonymHomes.{acyclic}
use Rattle.cu_front_laws.proofs.TypeArities.{AreDeclared, HasTypes}

-- ---- the parts of modules, up to one

upto_types : (table : List (List ℕ)) (modules : List Named) (n : ℕ) → (program_upto table modules n).types ≡ gather (types_at table modules) n
upto_types table modules zero = refl
upto_types table modules (suc n) = ap (λ xs. xs ++ types_at table modules (suc n)) (upto_types table modules n)

upto_synonyms : (table : List (List ℕ)) (modules : List Named) (n : ℕ)
    → (program_upto table modules n).synonyms ≡ gather (synonyms_at table modules) n
upto_synonyms table modules zero = refl
upto_synonyms table modules (suc n) = ap (λ xs. xs ++ synonyms_at table modules (suc n)) (upto_synonyms table modules n)

upto_marks : (table : List (List ℕ)) (modules : List Named) (n : ℕ)
    → (program_upto table modules n).marks ≡ gather (λ i. (module_part table modules i).marks) n
upto_marks table modules zero = refl
upto_marks table modules (suc n) = ap (λ xs. xs ++ (module_part table modules (suc n)).marks) (upto_marks table modules n)

upto_functions : (table : List (List ℕ)) (modules : List Named) (n : ℕ)
    → (program_upto table modules n).functions ≡ gather (λ i. (module_part table modules i).functions) n
upto_functions table modules zero = refl
upto_functions table modules (suc n) = ap (λ xs. xs ++ (module_part table modules (suc n)).functions) (upto_functions table modules n)

-- ---- lifting

lifted_types : (locals : Locals) (program : LocalKernel) → (lifted locals program).types ≡ program.types
unfolding lifted
lifted_types locals program = refl

lifted_synonyms : (locals : Locals) (program : LocalKernel) → (lifted locals program).synonyms ≡ program.synonyms
unfolding lifted
lifted_synonyms locals program = refl

lifted_marks : (locals : Locals) (program : LocalKernel) → (lifted locals program).marks ≡ marks_from locals 0 program.marks program.functions
unfolding lifted
lifted_marks locals program = refl

-- ---- what is known of accepted modules

-- Modules of which nothing was refused, the Prelude first. Their tuple types are those that there
-- are, and the Prelude has truth values.
pub record AreAccepted (p : Named) (ms : List Named) : Type 0 where
  pub declared : AreDeclared p ms
  pub scoped : AreScoped [] (p ∷ ms)
  pub right : AreRight (p ∷ ms)
  pub narrow : (i : ℕ) → i ≤ length ms → Every NarrowItem (module_at (p ∷ ms) i).syntax.items
  pub bool : number_at (all_parameters (p ∷ ms)) prelude_name (codes "Bool") ≡ Some 0

-- A program whose marks and functions are those of modules and others, and its types and synonyms
-- those of the modules.
pub record IsProgram (table : List (List ℕ)) (p : Named) (ms : List Named) (k : Kernel) : Type 0 where
  pub types : k.types ≡ gather (types_at table (p ∷ ms)) (length ms)
  pub synonyms : k.synonyms ≡ gather (synonyms_at table (p ∷ ms)) (length ms)
  pub marks : List Mark
  pub functions : List TopFunction
  pub locals : Locals
  pub all_marks : k.marks ≡ marks_from locals 0
      (gather (λ i. (module_part table (p ∷ ms) i).marks) (length ms) ++ marks)
      (gather (λ i. (module_part table (p ∷ ms) i).functions) (length ms) ++ functions)
  pub marks_right : Every (MarkIsRight k) marks
  pub functions_right : Every (TopIsRight k) functions

module _ (table : List (List ℕ)) (p : Named) (ms : List Named) (k : Kernel) (are : AreAccepted p ms) where
  abbrev modules : List Named
  modules = p ∷ ms

  has_types : k.types ≡ gather (types_at table modules) (length ms) → k.synonyms ≡ gather (synonyms_at table modules) (length ms)
      → HasTypes (numbered.all_types modules) (numbered.all_synonyms modules) k
  has_types ts ss = record {
    types = ap (map (λ (t : kernel.DataType). t.arity)) ts ∙ types_arities table p ms;
    synonyms = ap (map (λ (s : kernel.Synonym). s.arity)) ss ∙ synonyms_arities table p ms;
  }

  literals_take : HasTypes (numbered.all_types modules) (numbered.all_synonyms modules) k → (i : ℕ) → TakeLiterals k (names_in table modules i)
  literals_take has i = record {
    int = prelude_takes table p ms k are.declared has (codes "Int") refl;
    char = prelude_takes table p ms k are.declared has (codes "Char") refl;
    bool = prelude_takes table p ms k are.declared has (codes "Bool") are.bool;
  }

  pub declares_types : IsProgram table p ms k → DeclaresTypes k
  declares_types is =
      let has = has_types is.types is.synonyms in
      record {
        fields = all_from (λ (t : kernel.DataType). list_all (λ (c : kernel.Constructor). list_all (is_applied k) c.fields) t.constructors) k.types
            (subst (Every (TypeApplied k)) (sym is.types)
            (every_gather (TypeApplied k) (types_at table modules) (length ms)
            (λ i h. types_applied k (reading table modules i) (signs_take table p ms k are.declared has i)
            (uses_take table p ms k are.declared has are.scoped are.right i (omega arith)) (are.narrow i h))));
        synonyms = all_from (λ (s : kernel.Synonym). is_applied k s.body) k.synonyms
            (subst (Every (λ (s : kernel.Synonym). is_applied k s.body ≡ true)) (sym is.synonyms)
            (every_gather (λ (s : kernel.Synonym). is_applied k s.body ≡ true) (synonyms_at table modules) (length ms)
            (λ i h. synonyms_applied k (reading table modules i) (signs_take table p ms k are.declared has i) (module_at modules i).syntax.items
            (uses_take table p ms k are.declared has are.scoped are.right i (omega arith)) (are.narrow i h))));
        signatures = all_from (λ (m : Mark). has_signature k m.declared) k.marks
            (subst (Every (MarkIsRight k)) (sym is.all_marks)
            (lifted_right k is.locals 0
            (gather (λ i. (module_part table modules i).marks) (length ms) ++ is.marks)
            (gather (λ i. (module_part table modules i).functions) (length ms) ++ is.functions)
            (every_append (MarkIsRight k) (gather (λ i. (module_part table modules i).marks) (length ms)) is.marks
            (every_gather (MarkIsRight k) (λ i. (module_part table modules i).marks) (length ms)
            (λ i h. marks_right k (reading table modules i) (signs_take table p ms k are.declared has i) (literals_take has i)
            (uses_take table p ms k are.declared has are.scoped are.right i (omega arith)) (are.narrow i h))) is.marks_right)
            (every_append (TopIsRight k) (gather (λ i. (module_part table modules i).functions) (length ms)) is.functions
            (every_gather (TopIsRight k) (λ i. (module_part table modules i).functions) (length ms)
            (λ i h. functions_right k (reading table modules i) (signs_take table p ms k are.declared has i) (literals_take has i)
            (uses_take table p ms k are.declared has are.scoped are.right i (omega arith)) (are.narrow i h))) is.functions_right)));
        acyclic = acyclic table p ms k (record { are = are.declared; narrow = are.narrow; synonyms = is.synonyms }) are.right;
      }

-- ---- modules alone, and with a goal

pub modules_declare : (table : List (List ℕ)) (p : Named) (ms : List Named) (locals : Locals) (k : Kernel) → AreAccepted p ms
    → k ≡ lifted locals (program_upto table (p ∷ ms) (length ms)) → DeclaresTypes k
modules_declare table p ms locals k are is =
    let program = program_upto table (p ∷ ms) (length ms) in
    declares_types table p ms k are
    (record {
      types = ap (λ (k : Kernel). k.types) is ∙ lifted_types locals program ∙ upto_types table (p ∷ ms) (length ms);
      synonyms = ap (λ (k : Kernel). k.synonyms) is ∙ lifted_synonyms locals program ∙ upto_synonyms table (p ∷ ms) (length ms);
      marks = [];
      functions = [];
      locals = locals;
      all_marks = ap (λ (k : Kernel). k.marks) is ∙ lifted_marks locals program
          ∙ (λ j. marks_from locals 0
          ((upto_marks table (p ∷ ms) (length ms) ∙ sym (append-nil (gather (λ i. (module_part table (p ∷ ms) i).marks) (length ms)))) j)
          ((upto_functions table (p ∷ ms) (length ms) ∙ sym (append-nil (gather (λ i. (module_part table (p ∷ ms) i).functions) (length ms)))) j));
      marks_right = tt;
      functions_right = tt;
    })

pub goals_declare : (table : List (List ℕ)) (p : Named) (ms : List Named) (i : ℕ) (goal : Goal) (locals : Locals) (k : Kernel) → AreAccepted p ms
    → i < length (p ∷ ms)
    → IsGoalScoped (p ∷ ms) i goal → IsGoalRight (p ∷ ms) i goal → NarrowExpression goal.expression
    → k ≡ lifted locals (joined (program_upto table (p ∷ ms) (length ms)) (goal_part table (p ∷ ms) i goal)) → DeclaresTypes k
goals_declare table p ms i goal locals k are within scoped right narrow is =
    let modules = p ∷ ms in
    let last = length ms in
    let program = joined (program_upto table modules last) (goal_part table modules i goal) in
    let ts = ap (λ (k : Kernel). k.types) is ∙ lifted_types locals program ∙ append-nil (program_upto table modules last).types
    ∙ upto_types table modules last in
    let ss = ap (λ (k : Kernel). k.synonyms) is ∙ lifted_synonyms locals program ∙ append-nil (program_upto table modules last).synonyms
    ∙ upto_synonyms table modules last in
    let has = has_types table p ms k are ts ss in
    declares_types table p ms k are
    (record {
      types = ts;
      synonyms = ss;
      marks = (goal_part table modules i goal).marks;
      functions = (goal_part table modules i goal).functions;
      locals = locals;
      all_marks = ap (λ (k : Kernel). k.marks) is ∙ lifted_marks locals program
          ∙ (λ j. marks_from locals 0 (upto_marks table modules last j ++ (goal_part table modules i goal).marks)
          (upto_functions table modules last j ++ (goal_part table modules i goal).functions));
      marks_right = (refl, tt);
      functions_right = (
        goal_right k table (goal_names table modules i) goal (record {
          lists = (signs_take table p ms k are.declared has i).lists;
          tuples =
              (signs_take table p ms k are.declared has i).tuples;
        })
            (goal_uses_take table p ms k are.declared has i goal within scoped right) narrow,
        tt,
      );
    })
