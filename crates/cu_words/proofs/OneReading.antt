-- Words ask for one thing at most.
use Rattle.std.proofs.Common.{◌≡◌, ◌∙◌, ap, ap₂, sym, refl, ℕ, List, Option, Some, None, codes}
use Rattle.std.specs.Str.Parse.{digits_value}
use Rattle.clap.specs.Words.{Row, Text, first_of}
use Rattle.cu_machine.specs.declared.SearchLimits.{SearchLimits}
use Rattle.cu_words.specs.Numbers.{IsNumber}
use Rattle.cu_words.specs.Words.{
  Asks,
  Check,
  Checking,
  Command,
  Compile,
  Compiling,
  HasLimits,
  HasNumber,
  IsCheck,
  IsCompile,
  IsMaybeNumber,
  IsSolve,
  IsTrial,
  Serving,
  Solve,
  Solving,
  Trial,
  Trying,
}
use Rattle.cu_words.proofs.ReaderLemmas.{
  check_or_session,
  compile_or_check,
  compile_or_session,
  compile_or_trial,
  solve_or_check,
  solve_or_compile,
  solve_or_session,
  solve_or_trial,
  trial_or_check,
  trial_or_session,
}

met_once : {A : Type 0} (found : Option A) (a b : A) → found ≡ Some a → found ≡ Some b → a ≡ b
met_once found a b one other = let same : Some a ≡ Some b = sym one ∙ other in cc

number_once : (low high : ℕ) (text other : Text) (m n : ℕ) → text ≡ other → IsNumber low high text m → IsNumber low high other n → m ≡ n
number_once low high text other m n same p q = p.value ∙ ap (digits_value 10) same ∙ sym q.value

named_once : (rows : List Row) (name : Text) (high m n : ℕ) → HasNumber rows name high m → HasNumber rows name high n → m ≡ n
named_once rows name high m n p q =
    number_once 1 high p.0 q.0 m n (met_once (first_of name rows) p.0 q.0 p.1 q.1) p.2 q.2

maybe_once : (high : ℕ) (found : Option Text) (m n : Option ℕ) → IsMaybeNumber high found m → IsMaybeNumber high found n → m ≡ n
maybe_once high None None None p q = refl
maybe_once high None None (Some n) p q = absurd q
maybe_once high None (Some m) n p q = absurd p
maybe_once high (Some text) None n p q = absurd p
maybe_once high (Some text) (Some m) None p q = absurd q
maybe_once high (Some text) (Some m) (Some n) p q = ap Some (number_once 1 high text text m n refl p q)

-- ---- by their parts

abbrev limits_by : ℕ → Option ℕ → ℕ → ℕ → ℕ → SearchLimits
limits_by rounds answers stride nodes width =
    record { rounds = rounds; answers = answers; stride = stride; step = record { nodes = nodes; width = width } }

limits_once : (rows : List Row) (one other : SearchLimits) → HasLimits rows one → HasLimits rows other → one ≡ other
limits_once rows one other p q =
    let rounds = named_once rows (codes "rounds") 1000000000 one.rounds other.rounds p.rounds q.rounds in
    let answers = maybe_once 1000000000 (first_of (codes "answers") rows) one.answers other.answers p.answers q.answers in
    let stride = named_once rows (codes "stride") 1000000 one.stride other.stride p.stride q.stride in
    let nodes = named_once rows (codes "nodes") 16777216 one.step.nodes other.step.nodes p.nodes q.nodes in
    let width = named_once rows (codes "width") 1048576 one.step.width other.step.width p.width q.width in
    let same : limits_by one.rounds one.answers one.stride one.step.nodes one.step.width
    ≡ limits_by other.rounds other.answers other.stride other.step.nodes other.step.width = cc in
    same

abbrev solve_by : Text → Text → Text → Option ℕ → SearchLimits → Solve
solve_by name goal folder workers limits =
    record { name = name; goal = goal; folder = folder; workers = workers; limits = limits }

solve_once : (rows : List Row) (one other : Solve) → IsSolve rows one → IsSolve rows other → one ≡ other
solve_once rows one other p q =
    let name = met_once (first_of (codes "MODULE") rows) one.name other.name p.name q.name in
    let goal = met_once (first_of (codes "goal") rows) one.goal other.goal p.goal q.goal in
    let folder = met_once (first_of (codes "dir") rows) one.folder other.folder p.folder q.folder in
    let workers = maybe_once 64 (first_of (codes "workers") rows) one.workers other.workers p.workers q.workers in
    let limits = limits_once rows one.limits other.limits p.limits q.limits in
    let same : solve_by one.name one.goal one.folder one.workers one.limits
    ≡ solve_by other.name other.goal other.folder other.workers other.limits = cc in
    same

abbrev compile_by : Text → Text → Compile
compile_by name folder = record { name = name; folder = folder }

compile_once : (rows : List Row) (one other : Compile) → IsCompile rows one → IsCompile rows other → one ≡ other
compile_once rows one other p q =
    ap₂ compile_by (met_once (first_of (codes "MODULE") rows) one.name other.name p.name q.name)
    (met_once (first_of (codes "dir") rows) one.folder other.folder p.folder q.folder)

abbrev trial_by : ℕ → Option ℕ → ℕ → ℕ → Trial
trial_by depth workers width stride = record { depth = depth; workers = workers; width = width; stride = stride }

trial_once : (rows : List Row) (one other : Trial) → IsTrial rows one → IsTrial rows other → one ≡ other
trial_once rows one other p q =
    let text = met_once (first_of (codes "N") rows) p.depth.0 q.depth.0 p.depth.1 q.depth.1 in
    let depth = number_once 0 14 p.depth.0 q.depth.0 one.depth other.depth text p.depth.2 q.depth.2 in
    let workers = maybe_once 64 (first_of (codes "workers") rows) one.workers other.workers p.workers q.workers in
    let width = named_once rows (codes "width") 1048576 one.width other.width p.width q.width in
    let stride = named_once rows (codes "stride") 1000000 one.stride other.stride p.stride q.stride in
    let same : trial_by one.depth one.workers one.width one.stride ≡ trial_by other.depth other.workers other.width other.stride = cc in
    same

abbrev check_by : Text → Text → Text → Check
check_by name path folder = record { name = name; path = path; folder = folder }

check_once : (rows : List Row) (one other : Check) → IsCheck rows one → IsCheck rows other → one ≡ other
check_once rows one other p q =
    let name = met_once (first_of (codes "MODULE") rows) one.name other.name p.name q.name in
    let path = met_once (first_of (codes "FILE") rows) one.path other.path p.path q.path in
    let folder = met_once (first_of (codes "dir") rows) one.folder other.folder p.folder q.folder in
    let same : check_by one.name one.path one.folder ≡ check_by other.name other.path other.folder = cc in
    same

pub asks_once : (found : Option (Text × List Row)) (one other : Command) → Asks found one → Asks found other → one ≡ other
asks_once None one other p q = absurd p
asks_once (Some met) (Solving s) (Solving t) p q = ap Solving (solve_once met.1 s t p.1 q.1)
asks_once (Some met) (Solving s) (Compiling t) p q = absurd (solve_or_compile (sym p.0 ∙ q.0))
asks_once (Some met) (Solving s) (Trying t) p q = absurd (solve_or_trial (sym p.0 ∙ q.0))
asks_once (Some met) (Solving s) (Checking t) p q = absurd (solve_or_check (sym p.0 ∙ q.0))
asks_once (Some met) (Solving s) Serving p q = absurd (solve_or_session (sym p.0 ∙ q))
asks_once (Some met) (Compiling s) (Solving t) p q = absurd (solve_or_compile (sym q.0 ∙ p.0))
asks_once (Some met) (Compiling s) (Compiling t) p q = ap Compiling (compile_once met.1 s t p.1 q.1)
asks_once (Some met) (Compiling s) (Trying t) p q = absurd (compile_or_trial (sym p.0 ∙ q.0))
asks_once (Some met) (Compiling s) (Checking t) p q = absurd (compile_or_check (sym p.0 ∙ q.0))
asks_once (Some met) (Compiling s) Serving p q = absurd (compile_or_session (sym p.0 ∙ q))
asks_once (Some met) (Trying s) (Solving t) p q = absurd (solve_or_trial (sym q.0 ∙ p.0))
asks_once (Some met) (Trying s) (Compiling t) p q = absurd (compile_or_trial (sym q.0 ∙ p.0))
asks_once (Some met) (Trying s) (Trying t) p q = ap Trying (trial_once met.1 s t p.1 q.1)
asks_once (Some met) (Trying s) (Checking t) p q = absurd (trial_or_check (sym p.0 ∙ q.0))
asks_once (Some met) (Trying s) Serving p q = absurd (trial_or_session (sym p.0 ∙ q))
asks_once (Some met) (Checking s) (Solving t) p q = absurd (solve_or_check (sym q.0 ∙ p.0))
asks_once (Some met) (Checking s) (Compiling t) p q = absurd (compile_or_check (sym q.0 ∙ p.0))
asks_once (Some met) (Checking s) (Trying t) p q = absurd (trial_or_check (sym q.0 ∙ p.0))
asks_once (Some met) (Checking s) (Checking t) p q = ap Checking (check_once met.1 s t p.1 q.1)
asks_once (Some met) (Checking s) Serving p q = absurd (check_or_session (sym p.0 ∙ q))
asks_once (Some met) Serving (Solving t) p q = absurd (solve_or_session (sym q.0 ∙ p))
asks_once (Some met) Serving (Compiling t) p q = absurd (compile_or_session (sym q.0 ∙ p))
asks_once (Some met) Serving (Trying t) p q = absurd (trial_or_session (sym q.0 ∙ p))
asks_once (Some met) Serving (Checking t) p q = absurd (check_or_session (sym q.0 ∙ p))
asks_once (Some met) Serving Serving p q = refl
