-- Words that ask for a thing, whatever its texts are: each option as `--name=value`, and the
-- module's name after `--`.
use Rattle.std.proofs.Common.{◌≡◌, ◌∙◌, sym, refl, ℕ, ◌^◌, ◌<◌, List, [], ◌∷◌, ◌++◌, Option, Some, None, IfSome, IsTrue, codes, arith}
use Rattle.std.specs.Fmt.{decimal}
use Rattle.std.proofs.lemmas.Fmt.{decimal_is_IsNumeral, digits_decimal, length-decimal-le}
use Rattle.std.proofs.lemmas.Str.Parse.{numerals_by_value, tells_all_ascii_digits}
use Rattle.clap.specs.Words.{Text, fault_of, subcommand_of}
use Rattle.clap.proofs.OnLiterals.{clap_on_literals}
use Rattle.cu_words.specs.Command.{curry}
use Rattle.cu_words.specs.Names.{is_module_name}
use Rattle.cu_words.specs.Numbers.{IsIn, IsNumber}
use Rattle.cu_words.specs.Words.{
  Asks,
  Check,
  Checking,
  Compile,
  Compiling,
  IsInRange,
  IsMaybeNumber,
  IsTrialInRange,
  ReadsAs,
  Serving,
  Solve,
  Solving,
  Trial,
  Trying,
}
use Rattle.cu_words.proofs.NumberLemmas.{same_digits}

-- a number in decimal digits
number : (high n : ℕ) → high < 10 ^ 19 → high < 2 ^ 64 → IsIn 1 high n → IsNumber 1 high (decimal n) n
number high n short fits range =
    let small : n < 10 ^ 19 = omega (arith, range.1) in
    let word : n < 2 ^ 64 = omega (arith, range.1) in
    record {
      some = (decimal_is_IsNumeral n word).0.0;
      few = length-decimal-le 19 n (omega arith) small word;
      digits = sym (same_digits (decimal n)) ∙ digits_decimal (numerals_by_value _ tells_all_ascii_digits) n word;
      value = sym (decimal_is_IsNumeral n word).1;
      range = range;
    }

-- a number in decimal digits, where there is one
abbrev maybe_decimal : Option ℕ → Option Text
maybe_decimal None = None
maybe_decimal (Some n) = Some (decimal n)

maybe_number : (high : ℕ) (n : Option ℕ) → high < 10 ^ 19 → high < 2 ^ 64 → IfSome n (IsIn 1 high) → IsMaybeNumber high (maybe_decimal n) n
maybe_number high None short fits range = tt
maybe_number high (Some n) short fits range = number high n short fits range

-- the numbers that every solve has
pub record Numbers (solve : Solve) : Type 0 where
  pub workers : IsMaybeNumber 64 (maybe_decimal solve.workers) solve.workers
  pub rounds : IsNumber 1 1000000000 (decimal solve.limits.rounds) solve.limits.rounds
  pub answers : IsMaybeNumber 1000000000 (maybe_decimal solve.limits.answers) solve.limits.answers
  pub nodes : IsNumber 1 16777216 (decimal solve.limits.step.nodes) solve.limits.step.nodes
  pub width : IsNumber 1 1048576 (decimal solve.limits.step.width) solve.limits.step.width
  pub stride : IsNumber 1 1000000 (decimal solve.limits.stride) solve.limits.stride

numbers : (solve : Solve) → IsInRange solve → Numbers solve
numbers solve range = record {
  workers = maybe_number 64 solve.workers (omega arith) (omega arith) range.workers;
  rounds = number 1000000000 solve.limits.rounds (omega arith) (omega arith) range.limits.rounds;
  answers = maybe_number 1000000000 solve.limits.answers (omega arith) (omega arith) range.limits.answers;
  nodes = number 16777216 solve.limits.step.nodes (omega arith) (omega arith) range.limits.nodes;
  width = number 1048576 solve.limits.step.width (omega arith) (omega arith) range.limits.width;
  stride = number 1000000 solve.limits.stride (omega arith) (omega arith) range.limits.stride;
}

-- the words that are left out where there is no such number
abbrev named : Option Text → Option Text → List Text → List Text
named None None words = words
named None (Some answers) words = (codes "--answers=" ++ answers) ∷ words
named (Some workers) None words = (codes "--workers=" ++ workers) ∷ words
named (Some workers) (Some answers) words = (codes "--workers=" ++ workers) ∷ (codes "--answers=" ++ answers) ∷ words

abbrev line : (name goal folder : Text) → (workers answers : Option Text) → (rounds nodes width stride : Text) → List Text
line name goal folder workers answers rounds nodes width stride =
    codes "solve" ∷ (codes "--goal=" ++ goal) ∷ (codes "--dir=" ++ folder) ∷ (codes "--rounds=" ++ rounds) ∷ (codes "--nodes=" ++ nodes)
    ∷ (codes "--width=" ++ width) ∷ (codes "--stride=" ++ stride) ∷ named workers answers (codes "--" ∷ name ∷ [])

line_right : (name goal folder : Text) (workers answers : Option Text) (rounds nodes width stride : Text) → fault_of curry (line name goal folder workers answers rounds nodes width stride) ≡ []
unfolding clap_on_literals
line_right name goal folder None None rounds nodes width stride = refl
line_right name goal folder None (Some answers) rounds nodes width stride = refl
line_right name goal folder (Some workers) None rounds nodes width stride = refl
line_right name goal folder (Some workers) (Some answers) rounds nodes width stride = refl

line_asks : (solve : Solve) (workers answers : Option Text) (rounds nodes width stride : Text) → IsTrue (is_module_name solve.name) → IsMaybeNumber 64 workers solve.workers
    → IsMaybeNumber 1000000000 answers solve.limits.answers → IsNumber 1 1000000000 rounds solve.limits.rounds → IsNumber 1 16777216 nodes solve.limits.step.nodes
    → IsNumber 1 1048576 width solve.limits.step.width → IsNumber 1 1000000 stride solve.limits.stride
    → Asks (subcommand_of curry (line solve.name solve.goal solve.folder workers answers rounds nodes width stride)) (Solving solve)
unfolding clap_on_literals
line_asks solve None None rounds nodes width stride is_name w a r n b k = (
  refl,
  record {
    name = refl;
    is_name = is_name;
    goal = refl;
    folder = refl;
    workers = w;
    limits = record {
      rounds = (rounds, refl, r);
      answers = a;
      nodes = (nodes, refl, n);
      width = (width, refl, b);
      stride = (stride, refl, k);
    };
  },
)
line_asks solve None (Some answers) rounds nodes width stride is_name w a r n b k = (
  refl,
  record {
    name = refl;
    is_name = is_name;
    goal = refl;
    folder = refl;
    workers = w;
    limits = record {
      rounds = (rounds, refl, r);
      answers = a;
      nodes = (nodes, refl, n);
      width = (width, refl, b);
      stride = (stride, refl, k);
    };
  },
)
line_asks solve (Some workers) None rounds nodes width stride is_name w a r n b k = (
  refl,
  record {
    name = refl;
    is_name = is_name;
    goal = refl;
    folder = refl;
    workers = w;
    limits = record {
      rounds = (rounds, refl, r);
      answers = a;
      nodes = (nodes, refl, n);
      width = (width, refl, b);
      stride = (stride, refl, k);
    };
  },
)
line_asks solve (Some workers) (Some answers) rounds nodes width stride is_name w a r n b k = (
  refl,
  record {
    name = refl;
    is_name = is_name;
    goal = refl;
    folder = refl;
    workers = w;
    limits = record {
      rounds = (rounds, refl, r);
      answers = a;
      nodes = (nodes, refl, n);
      width = (width, refl, b);
      stride = (stride, refl, k);
    };
  },
)

pub spelled : (solve : Solve) → IsTrue (is_module_name solve.name) → IsInRange solve → (words : List Text) × ReadsAs words (Solving solve)
spelled solve is_name range =
    let all = numbers solve range in (
      line solve.name solve.goal solve.folder (maybe_decimal solve.workers) (maybe_decimal solve.limits.answers) (decimal solve.limits.rounds) (decimal solve.limits.step.nodes)
          (decimal solve.limits.step.width) (decimal solve.limits.stride),
      record {
        right = line_right solve.name solve.goal solve.folder (maybe_decimal solve.workers) (maybe_decimal solve.limits.answers) (decimal solve.limits.rounds) (decimal solve.limits.step.nodes)
            (decimal solve.limits.step.width) (decimal solve.limits.stride);
        asks = line_asks solve (maybe_decimal solve.workers) (maybe_decimal solve.limits.answers) _ _ _ _ is_name all.workers all.answers all.rounds all.nodes all.width all.stride;
      },
    )

-- ---- trials

-- a number from 0 on, in decimal digits
from_zero : (high n : ℕ) → high < 10 ^ 19 → high < 2 ^ 64 → IsIn 0 high n → IsNumber 0 high (decimal n) n
from_zero high n short fits range =
    let small : n < 10 ^ 19 = omega (arith, range.1) in
    let word : n < 2 ^ 64 = omega (arith, range.1) in
    record {
      some = (decimal_is_IsNumeral n word).0.0;
      few = length-decimal-le 19 n (omega arith) small word;
      digits = sym (same_digits (decimal n)) ∙ digits_decimal (numerals_by_value _ tells_all_ascii_digits) n word;
      value = sym (decimal_is_IsNumeral n word).1;
      range = range;
    }

abbrev tried : (depth : Text) → Option Text → (width stride : Text) → List Text
tried depth workers width stride =
    codes "trial" ∷ (codes "--width=" ++ width) ∷ (codes "--stride=" ++ stride) ∷ named workers None (codes "--" ∷ depth ∷ [])

tried_right : (depth : Text) (workers : Option Text) (width stride : Text) → fault_of curry (tried depth workers width stride) ≡ []
unfolding clap_on_literals
tried_right depth None width stride = refl
tried_right depth (Some workers) width stride = refl

tried_asks : (trial : Trial) (depth : Text) (workers : Option Text) (width stride : Text) → IsNumber 0 14 depth trial.depth → IsMaybeNumber 64 workers trial.workers
    → IsNumber 1 1048576 width trial.width → IsNumber 1 1000000 stride trial.stride
    → Asks (subcommand_of curry (tried depth workers width stride)) (Trying trial)
unfolding clap_on_literals
tried_asks trial depth None width stride d w b k = (
  refl,
  record {
    depth = (depth, refl, d);
    workers = w;
    width = (width, refl, b);
    stride = (stride, refl, k);
  },
)
tried_asks trial depth (Some workers) width stride d w b k = (
  refl,
  record {
    depth = (depth, refl, d);
    workers = w;
    width = (width, refl, b);
    stride = (stride, refl, k);
  },
)

pub spelled_trial : (trial : Trial) → IsTrialInRange trial → (words : List Text) × ReadsAs words (Trying trial)
spelled_trial trial range = (
  tried (decimal trial.depth) (maybe_decimal trial.workers) (decimal trial.width) (decimal trial.stride),
  record {
    right = tried_right (decimal trial.depth) (maybe_decimal trial.workers) (decimal trial.width) (decimal trial.stride);
    asks = tried_asks trial _ (maybe_decimal trial.workers) _ _ (from_zero 14 trial.depth (omega arith) (omega arith) range.depth)
        (maybe_number 64 trial.workers (omega arith) (omega arith) range.workers) (number 1048576 trial.width (omega arith) (omega arith) range.width)
        (number 1000000 trial.stride (omega arith) (omega arith) range.stride);
  },
)

-- ---- modules as text

abbrev compiled : (name folder : Text) → List Text
compiled name folder = codes "compile" ∷ (codes "--dir=" ++ folder) ∷ codes "--" ∷ name ∷ []

compiled_right : (name folder : Text) → fault_of curry (compiled name folder) ≡ []
unfolding clap_on_literals
compiled_right name folder = refl

compiled_asks : (compile : Compile) → IsTrue (is_module_name compile.name)
    → Asks (subcommand_of curry (compiled compile.name compile.folder)) (Compiling compile)
unfolding clap_on_literals
compiled_asks compile is_name = (refl, record { name = refl; is_name = is_name; folder = refl })

pub spelled_compile : (compile : Compile) → IsTrue (is_module_name compile.name) → (words : List Text) × ReadsAs words (Compiling compile)
spelled_compile compile is_name =
    (compiled compile.name compile.folder, record { right = compiled_right compile.name compile.folder; asks = compiled_asks compile is_name })

-- ---- proofs in files

abbrev checked : (name path folder : Text) → List Text
checked name path folder = codes "check" ∷ (codes "--dir=" ++ folder) ∷ codes "--" ∷ name ∷ path ∷ []

checked_right : (name path folder : Text) → fault_of curry (checked name path folder) ≡ []
unfolding clap_on_literals
checked_right name path folder = refl

checked_asks : (check : Check) → IsTrue (is_module_name check.name)
    → Asks (subcommand_of curry (checked check.name check.path check.folder)) (Checking check)
unfolding clap_on_literals
checked_asks check is_name = (refl, record { name = refl; is_name = is_name; path = refl; folder = refl })

pub spelled_check : (check : Check) → IsTrue (is_module_name check.name) → (words : List Text) × ReadsAs words (Checking check)
spelled_check check is_name = (
  checked check.name check.path check.folder,
  record { right = checked_right check.name check.path check.folder; asks = checked_asks check is_name },
)

-- ---- sessions

session_right : fault_of curry (codes "session" ∷ []) ≡ []
unfolding clap_on_literals
session_right = refl

session_asks : Asks (subcommand_of curry (codes "session" ∷ [])) Serving
unfolding clap_on_literals
session_asks = refl

pub spelled_session : (words : List Text) × ReadsAs words Serving
spelled_session = (codes "session" ∷ [], record { right = session_right; asks = session_asks })
