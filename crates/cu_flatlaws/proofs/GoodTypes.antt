-- The types that are printed have names and numbers that are read.
use Rattle.std.proofs.Common.{◌≡◌, ℕ, zero, suc, ◌+◌, ◌≤◌, ◌<◌, ◌^◌, Bool, true, false, ◌&&◌, not, List, [], ◌∷◌, Option, None, Some, IsTrue, if◌then◌else◌, length, nat_eq, slice_get, refl, arith, eqb-true}
use Rattle.std.proofs.lemmas.Bool.{and_parts}
use Rattle.std.specs.List.{list_all}
use Rattle.cu_flatlaws.proofs.GoodNames.{AreNames, type_named}
use Rattle.cu_flatlaws.proofs.TypeTextLemmas.{AllFit, Fits, synonyms_fit}
use Rattle.cu_flatlaws.proofs.TypeVariables.{AllBelow, Below, parameters_below}
use Rattle.cu_flatlaws.specs.Nesting.{type_nesting, types_nesting}
use Rattle.cu_flatlaws.specs.PrintedTypes.{Synonyms, argument, as_written, body_type, expanded, expanded_within, field_types, printed_type, printed_types, type_count, written_type}
use Rattle.cu_flatread.specs.FlatText.{AreTypes, IsEntity, IsNumber, IsType}
use Rattle.cu_flatread.specs.Modules as m
use Rattle.cu_flatread.specs.Modules.{TypeExpression, TypeExpressions}
use Rattle.cu_flatread.specs.Notation.{Entity}
use Rattle.cu_flattext.specs.Naming.{Lowered}
use Rattle.cu_flattext.specs.TypeTexts.{is_expanded, leads_to_itself}
use Rattle.cu_kernel.specs.Kernel.{Synonym}
use Rattle.cu_kernel.specs.TypeExpr as type
use Rattle.cu_kernel.specs.TypeExpr.{TypeExpr, TypeExprs}
use Rattle.cu_kernel.specs.Valid.{IsValid, fits_type, is_parameter}
use Rattle.cu_kernel.specs.declared.type_term.SynonymId.{SynonymId}
use Rattle.cu_kernel.specs.declared.type_term.TypeName.TheVariants as named

-- ---- names and numbers, whatever the nesting

abbrev mutual
  pub Good : TypeExpression Entity → Type 0
  Good (m.Variable x) = IsNumber x
  Good (m.Arrow a b) = Good a × Good b
  Good (m.Named e ts) = IsEntity e × AllGood ts

  pub AllGood : TypeExpressions Entity → Type 0
  AllGood m.NoType = Unit {0}
  AllGood (m.MoreTypes t ts) = Good t × AllGood ts

mutual
  pub good_type : (depth : ℕ) (t : TypeExpression Entity) → Good t → type_nesting t ≤ depth → IsType depth t
  good_type zero (m.Variable x) good nested = absurd (omega (arith, nested))
  good_type zero (m.Arrow a b) good nested = absurd (omega (arith, nested))
  good_type zero (m.Named e ts) good nested = absurd (omega (arith, nested))
  good_type (suc depth) (m.Variable x) good nested = good
  good_type (suc depth) (m.Arrow a b) good nested =
      (good_type depth a good.0 (omega (arith, nested)), good_type depth b good.1 (omega (arith, nested)))
  good_type (suc depth) (m.Named e ts) good nested = (good.0, good_types depth ts good.1 (omega (arith, nested)))

  pub good_types : (depth : ℕ) (ts : TypeExpressions Entity) → AllGood ts → types_nesting ts ≤ depth → AreTypes depth ts
  good_types depth m.NoType good nested = tt
  good_types depth (m.MoreTypes t ts) good nested =
      (good_type depth t good.0 (omega (arith, nested)), good_types depth ts good.1 (omega (arith, nested)))

-- ---- what is printed

-- synonyms are good on good arguments
abbrev AreGood : Synonyms → Type 0
AreGood synonyms = (s : SynonymId) (ts : TypeExpressions Entity) → AllGood ts → Good (synonyms s ts)

mutual
  type_good : (program : Lowered) (synonyms : Synonyms) (arguments : ℕ → TypeExpression Entity) (n : ℕ) → AreNames program
      → AreGood synonyms → ((x : ℕ) → x < n → Good (arguments x)) → (t : TypeExpr) → Below n t
      → Good (printed_type program synonyms arguments t)
  type_good program synonyms arguments n names good each (type.Variable x) below = each x below
  type_good program synonyms arguments n names good each (type.Arrow a b) below = (
    type_good program synonyms arguments n names good each a below.0,
    type_good program synonyms arguments n names good each b below.1,
  )
  type_good program synonyms arguments n names good each (type.Named (named.Data t) ts) below =
      (type_named program (named.Data t) names, types_good program synonyms arguments n names good each ts below)
  type_good program synonyms arguments n names good each (type.Named (named.Synonym s) ts) below =
      good s (printed_types program synonyms arguments ts) (types_good program synonyms arguments n names good each ts below)

  types_good : (program : Lowered) (synonyms : Synonyms) (arguments : ℕ → TypeExpression Entity) (n : ℕ) → AreNames program
      → AreGood synonyms → ((x : ℕ) → x < n → Good (arguments x)) → (ts : TypeExprs) → AllBelow n ts
      → AllGood (printed_types program synonyms arguments ts)
  types_good program synonyms arguments n names good each type.NoType below = tt
  types_good program synonyms arguments n names good each (type.MoreTypes t ts) below = (
    type_good program synonyms arguments n names good each t below.0,
    types_good program synonyms arguments n names good each ts below.1,
  )

written_good : (program : Lowered) → AreNames program → AreGood (as_written program)
written_good program names s ts good = (type_named program (named.Synonym s) names, good)

argument_good : (ts : TypeExpressions Entity) (x : ℕ) → AllGood ts → x < type_count ts → Good (argument ts x)
argument_good m.NoType x good below = absurd (omega (arith, below))
argument_good (m.MoreTypes t ts) zero good below = good.0
argument_good (m.MoreTypes t ts) (suc x) good below = argument_good ts x good.1 (omega (arith, below))

once_good : (program : Lowered) (synonyms : Synonyms) (s : SynonymId) (ts : TypeExpressions Entity) (found : Option Synonym)
    (test : Bool) → AreNames program → AreGood synonyms → Fits found → AllGood ts
    → is_expanded program.kernel.synonyms s (type_count ts) found ≡ test
    → Good (if test then body_type program synonyms ts found else as_written program s ts)
once_good program synonyms s ts found false names good fits each e = written_good program names s ts each
once_good program synonyms s ts None true names good fits each e = let no : ⊥ = cc in absurd no
once_good program synonyms s ts (Some synonym) true names good fits each e =
    let count : type_count ts ≡ synonym.arity =
    eqb-true (type_count ts) synonym.arity
    (and_parts (nat_eq (type_count ts) synonym.arity) (not (leads_to_itself program.kernel.synonyms s)) e).0 in
    type_good program synonyms (argument ts) synonym.arity names good
    (λ x below. argument_good ts x each (omega (arith, below, count))) synonym.body (fits synonym refl)

within_good : (program : Lowered) → AreNames program → AllFit program → (n : ℕ) → AreGood (expanded_within n program)
within_good program names fit zero = written_good program names
within_good program names fit (suc n) =
    λ s ts good.
    let found = slice_get program.kernel.synonyms s.0 in
    once_good program (expanded_within n program) s ts found (is_expanded program.kernel.synonyms s (type_count ts) found)
    names (within_good program names fit n) (fit s) good refl

-- the first numbers are numbers that are read
abbrev pub AreNumbers : ℕ → Type 0
AreNumbers n = (x : ℕ) → x < n → IsNumber x

pub fields_good : (program : Lowered) (arity : ℕ) (ts : List TypeExpr) → AreNames program → IsValid program.kernel
    → AreNumbers arity → IsTrue (list_all (fits_type program.kernel (is_parameter arity)) ts)
    → AllGood (field_types program ts)
fields_good program arity [] names valid small fits = tt
fields_good program arity (t ∷ ts) names valid small fits =
    let both = and_parts (fits_type program.kernel (is_parameter arity) t)
    (list_all (fits_type program.kernel (is_parameter arity)) ts) fits in (
      type_good program (expanded program) m.Variable arity names
          (within_good program names (synonyms_fit program valid) (length program.kernel.synonyms)) small t
          (parameters_below program.kernel arity t both.0),
      fields_good program arity ts names valid small both.1,
    )

pub written_type_good : (program : Lowered) (n : ℕ) (t : TypeExpr) → AreNames program → AreNumbers n → Below n t
    → Good (written_type program t)
written_type_good program n t names small below =
    type_good program (as_written program) m.Variable n names (written_good program names) small t below
