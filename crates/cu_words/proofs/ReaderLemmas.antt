-- What readers refuse, and what the matches of the command line say.
use Rattle.std.proofs.Common.{◌≡◌, ◌∙◌, ap, sym, subst, refl, true, get_or, arith, ℕ, List, [], Option, Some, None, IfNone, IfSome, codes}
use Rattle.clap.specs.Words.{App, HasMatchesOf, IsAmong, Row, Text, fault_of, is_simple, is_simple_and_free, subcommand_of, subcommand_rows_of}
use Rattle.clap.specs.declared.error.kind.ErrorKind.{ErrorKind}
use Rattle.clap.specs.declared.parser.matches.ArgMatches.{ArgMatches}
use Rattle.cu_words.specs.Command.{curry}
use Rattle.cu_words.specs.Words.{
  Asks,
  Check,
  Checking,
  Command,
  Compile,
  Compiling,
  IsCheck,
  IsCommand,
  IsCompile,
  IsSolve,
  IsTrial,
  ReadsAs,
  Serving,
  Solve,
  Solving,
  Trial,
  Trying,
}

-- nothing has the property
pub refuses : {A X : Type 0} (r : Option A) (P : X → Type 0) → ((x : X) → P x → ⊥) → IfNone r ((x : X) → P x → ⊥)
refuses None P none = none
refuses (Some x) P none = tt

pub if_none_weaker : {A : Type 0} (r : Option A) (P Q : Type 0) → (P → Q) → IfNone r P → IfNone r Q
if_none_weaker None P Q weaker p = weaker p
if_none_weaker (Some x) P Q weaker p = tt

pub if_some_weaker : {A : Type 0} (r : Option A) (P Q : A → Type 0) → ((x : A) → P x → Q x) → IfSome r P → IfSome r Q
if_some_weaker None P Q weaker p = tt
if_some_weaker (Some x) P Q weaker p = weaker x p

-- the matches of the command line are known
pub is_known : is_simple_and_free curry ≡ true
is_known = refl

is_plain : is_simple curry ≡ true
is_plain = refl

-- what a parse of the words met
pub met : (app : App) (words : List Text) (matches : ArgMatches) → app ≡ curry → HasMatchesOf app words matches → subcommand_rows_of matches ≡ subcommand_of curry words
met app words matches is has = (has (ap is_simple is ∙ is_plain)).1 ∙ ap (λ (a : App). subcommand_of a words) is

pub reads : (app : App) (words : List Text) (matches : ArgMatches) → app ≡ curry → HasMatchesOf app words matches
    → (is_simple_and_free app ≡ true → fault_of app words ≡ []) → (command : Command) → Asks (subcommand_rows_of matches) command → ReadsAs words command
reads app words matches is has right command asks = record {
  right = sym (ap (λ (a : App). fault_of a words) is) ∙ right (ap is_simple_and_free is ∙ is_known);
  asks = subst (λ found. Asks found command) (met app words matches is has) asks;
}

pub unread : (app : App) (words : List Text) (matches : ArgMatches) → app ≡ curry → HasMatchesOf app words matches
    → ((command : Command) → Asks (subcommand_rows_of matches) command → ⊥) → IsCommand words → ⊥
unread app words matches is has nothing command = nothing command.0 (subst (λ found. Asks found command.0) (sym (met app words matches is has)) command.1.asks)

-- words that a parse refuses are outside the grammar
pub at_fault : (app : App) (words : List Text) (kind : ErrorKind) → app ≡ curry → IsAmong kind (fault_of app words) → IsCommand words → ⊥
at_fault app words kind is among command = subst (IsAmong kind) (ap (λ (a : App). fault_of a words) is ∙ command.1.right) among

-- the words of commands differ in their first letters, or in the second
differ : (place : ℕ) (one other : Text) → (get_or one place 0 ≡ get_or other place 0 → ⊥) → one ≡ other → ⊥
differ place one other apart same = apart (ap (λ (text : Text). get_or text place 0) same)

pub solve_or_compile : codes "solve" ≡ codes "compile" → ⊥
solve_or_compile = differ 0 _ _ (λ same. let first : 115 ≡ 99 = same in omega (arith, first))

pub solve_or_trial : codes "solve" ≡ codes "trial" → ⊥
solve_or_trial = differ 0 _ _ (λ same. let first : 115 ≡ 116 = same in omega (arith, first))

pub solve_or_check : codes "solve" ≡ codes "check" → ⊥
solve_or_check = differ 0 _ _ (λ same. let first : 115 ≡ 99 = same in omega (arith, first))

pub solve_or_session : codes "solve" ≡ codes "session" → ⊥
solve_or_session = differ 1 _ _ (λ same. let second : 111 ≡ 101 = same in omega (arith, second))

pub compile_or_trial : codes "compile" ≡ codes "trial" → ⊥
compile_or_trial = differ 0 _ _ (λ same. let first : 99 ≡ 116 = same in omega (arith, first))

pub compile_or_check : codes "compile" ≡ codes "check" → ⊥
compile_or_check = differ 1 _ _ (λ same. let second : 111 ≡ 104 = same in omega (arith, second))

pub compile_or_session : codes "compile" ≡ codes "session" → ⊥
compile_or_session = differ 0 _ _ (λ same. let first : 99 ≡ 115 = same in omega (arith, first))

pub trial_or_check : codes "trial" ≡ codes "check" → ⊥
trial_or_check = differ 0 _ _ (λ same. let first : 116 ≡ 99 = same in omega (arith, first))

pub trial_or_session : codes "trial" ≡ codes "session" → ⊥
trial_or_session = differ 0 _ _ (λ same. let first : 116 ≡ 115 = same in omega (arith, first))

pub check_or_session : codes "check" ≡ codes "session" → ⊥
check_or_session = differ 0 _ _ (λ same. let first : 99 ≡ 115 = same in omega (arith, first))

-- a command of which nothing stands after its word
pub no_solve : (rows : List Row) → ((solve : Solve) → IsSolve rows solve → ⊥) → (command : Command) → Asks (Some (codes "solve", rows)) command → ⊥
no_solve rows none (Solving solve) asks = none solve asks.1
no_solve rows none (Compiling compile) asks = solve_or_compile asks.0
no_solve rows none (Trying trial) asks = solve_or_trial asks.0
no_solve rows none (Checking check) asks = solve_or_check asks.0
no_solve rows none Serving asks = solve_or_session asks

pub no_compile : (rows : List Row) → ((compile : Compile) → IsCompile rows compile → ⊥) → (command : Command) → Asks (Some (codes "compile", rows)) command → ⊥
no_compile rows none (Solving solve) asks = solve_or_compile (sym asks.0)
no_compile rows none (Compiling compile) asks = none compile asks.1
no_compile rows none (Trying trial) asks = compile_or_trial asks.0
no_compile rows none (Checking check) asks = compile_or_check asks.0
no_compile rows none Serving asks = compile_or_session asks

pub no_trial : (rows : List Row) → ((trial : Trial) → IsTrial rows trial → ⊥) → (command : Command) → Asks (Some (codes "trial", rows)) command → ⊥
no_trial rows none (Solving solve) asks = solve_or_trial (sym asks.0)
no_trial rows none (Compiling compile) asks = compile_or_trial (sym asks.0)
no_trial rows none (Trying trial) asks = none trial asks.1
no_trial rows none (Checking check) asks = trial_or_check asks.0
no_trial rows none Serving asks = trial_or_session asks

pub no_check : (rows : List Row) → ((check : Check) → IsCheck rows check → ⊥) → (command : Command) → Asks (Some (codes "check", rows)) command → ⊥
no_check rows none (Solving solve) asks = solve_or_check (sym asks.0)
no_check rows none (Compiling compile) asks = compile_or_check (sym asks.0)
no_check rows none (Trying trial) asks = trial_or_check (sym asks.0)
no_check rows none (Checking check) asks = none check asks.1
no_check rows none Serving asks = check_or_session asks
