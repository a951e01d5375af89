-- What a check wrote, as its report or a prefix of it.
use Rattle.std.proofs.Common.{◌≡◌, ◌∙◌, ℕ, ◌<◌, ◌≤◌, List, [], ◌∷◌, ◌⊎◌, inl, inr, Option, None, Some, Result, Ok, Err, IfOk, IfSome, OnOk, OnErr, ap, ap₂, arith, length, map, refl, subst, sym, take}
use Rattle.std.specs.declared.alloc.Global.{Global}
use Rattle.std.specs.declared.vec.Vec.{Vec}
use Rattle.std.proofs.lemmas.Bool.{cases_lt}
use Rattle.std.proofs.lemmas.List.{length-map, length-take-le, take_all}
use Rattle.cu_calculus.specs.Gives as calculus
use Rattle.cu_calculus.specs.Program as programs
use Rattle.cu_calculus.specs.Proof.{Step}
use Rattle.cu_calculus.specs.Value.{Value}
use Rattle.cu_crwl.specs.Meaning.{claim_of}
use Rattle.cu_crwl.specs.declared.claim.Claim as boxed
use Rattle.cu_front.specs.AskAnswers.{AskTells}
use Rattle.cu_front.specs.CompileAnswers.{TellsRefusal}
use Rattle.cu_front.specs.Compiling.{Compiles, Folder, ModulesRefused, RequestRefused}
use Rattle.cu_front.specs.Loaded.{AreLoaded}
use Rattle.cu_front.specs.RefusalLine.{refusal_line}
use Rattle.cu_front.specs.RefusalMeaning.{refusal_meaning}
use Rattle.cu_front.specs.declared.asking.AskFault.{AskFault}
use Rattle.cu_front.specs.declared.asking.AskFault.TheVariants as ask
use Rattle.cu_front.specs.declared.fault.CompileFault.{CompileFault}
use Rattle.cu_front.specs.declared.fault.CompileFault.TheVariants as compile
use Rattle.cu_front.specs.declared.loaded.Loaded.{Loaded}
use Rattle.cu_front.specs.declared.refusal.Refusal as code
use Rattle.cu_io.specs.Fetches.{FetchCount, Fetches, max_fetched_bytes}
use Rattle.cu_io.specs.Holdings.{Holdings}
use Rattle.cu_io.specs.declared.library.Fetched.{Fetched}
use Rattle.cu_io.specs.declared.library.Fetched.TheVariants as fetched
use Rattle.cu_kernel.specs.Kernel.{Goal, Kernel, program_of}
use Rattle.cu_modules.specs.Ordering.{modules_of}
use Rattle.cu_prooftext.specs.Faults.{IsFault}
use Rattle.cu_prooftext.specs.Files.{IsFile, IsFileFault, in_text, max_file_bytes, too_long}
use Rattle.cu_search.specs.Lines.{answer_text}
use Rattle.cu_search.specs.Written.{Adds, AddsPrefix}
use Rattle.cu_verdict.specs.Proved.{ProvesAnswer}
use Rattle.cu_words.specs.Words.{Check, Checking}
use Rattle.cu_cmd.specs.Checking.{CheckReport, FileReport, HasProof, IsFileRefusal, IsVerdict, ProofReport, bad_proof, goal_refused, missing_file_line, modules_refused, no_file, no_line, not_proved, of_file, proved, tried, yes_line}
use Rattle.cu_cmd.specs.Listings.{notation_of}
use Rattle.cu_cmd.specs.Inside.Runs.{Ends, EndsWhole, Faults, HasRunCause, HasWriteCause}
use Rattle.cu_cmd.specs.Written as wrote
use Rattle.cu_cmd.specs.Written.{WritesWholly}
use Rattle.cu_cmd.specs.declared.fault.RunFault.{RunFault}
use Rattle.cu_cmd.specs.declared.fault.RunFault.TheVariants as fault
use Rattle.cu_cmd.specs.declared.status.Status.{Status}
use Rattle.cu_cmd.specs.declared.status.Status.TheVariants as status
use Rattle.cu_cmd.proofs.ReportLemmas.{ends, one_line, part_of_line, run_cause}

-- ---- reports

-- one line is a report, or a prefix of it was written
pub line_ends : (Due : List (List ℕ) → Status → Type 0) (r : Result Status RunFault) (line : List ℕ) (answer : Status) (before after : Option (List ℕ))
    → Due (line ∷ []) answer → IfOk r (λ found. found ≡ answer) → OnOk r (Adds before after line) → OnErr r (AddsPrefix before after line) → Ends r Due before after
line_ends Due r line answer before after due is adds part =
    ends Due r before after (line ∷ []) answer due is (one_line r line before after adds) (part_of_line r line before after part)

-- a report that is another one too
pub ends_as : (Due Other : List (List ℕ) → Status → Type 0) (r : Result Status RunFault) (before after : Option (List ℕ))
    → ((written : List (List ℕ)) (answer : Status) → Due written answer → Other written answer) → Ends r Due before after → Ends r Other before after
ends_as Due Other (Ok answer) before after into e = record { written = e.written; is_report = into e.written answer e.is_report; adds = e.adds }
ends_as Due Other (Err f) before after into (wrote.nothing same) = wrote.nothing same
ends_as Due Other (Err f) before after into (wrote.prefix written answer report part) = wrote.prefix written answer (into written answer report) part

-- ---- whole lines

-- the line of a verdict
pub verdict_whole : (r : Result Status RunFault) (check : Check) (line : List ℕ) (before after : Option (List ℕ)) (j k : ℕ) → IsVerdict line
    → IfOk r (λ answer. answer ≡ status.Done) → OnOk r (Adds before after line) → HasWriteCause r j k → EndsWhole r (Checking check) before after
verdict_whole (Ok answer) check line before after j k verdict is adds cause =
    subst (λ (a : Status). WritesWholly (Checking check) a before after) (sym is) (line, refl, verdict, adds)
verdict_whole (Err fault.Read) check line before after j k verdict is adds cause = absurd cause
verdict_whole (Err fault.Write) check line before after j k verdict is adds cause = tt
verdict_whole (Err fault.NoMemory) check line before after j k verdict is adds cause = tt

-- the line of a refused file
pub file_refusal_whole : (r : Result Status RunFault) (check : Check) (line : List ℕ) (before after : Option (List ℕ)) (j k : ℕ) → IsFileRefusal check.path line
    → IfOk r (λ answer. answer ≡ status.Refused) → OnOk r (Adds before after line) → HasWriteCause r j k → EndsWhole r (Checking check) before after
file_refusal_whole (Ok answer) check line before after j k refusal is adds cause =
    subst (λ (a : Status). WritesWholly (Checking check) a before after) (sym is) (line, wrote.of_file check refl refusal, adds)
file_refusal_whole (Err fault.Read) check line before after j k refusal is adds cause = absurd cause
file_refusal_whole (Err fault.Write) check line before after j k refusal is adds cause = tt
file_refusal_whole (Err fault.NoMemory) check line before after j k refusal is adds cause = tt

-- ---- proofs

-- the goal of a program is one
the_goal : (program : Kernel) (given goal : Goal) → Some given ≡ program.goal → program.goal ≡ Some goal → given ≡ goal
the_goal program given goal is has = let same : Some given ≡ Some goal = is ∙ has in cc same

-- a proof of an answer
pub answer_ends : (r : Result Status RunFault) (names : List (List ℕ)) (program : Kernel) (given goal : Goal) (claims : List calculus.Claim) (steps : List Step) (bindings : List Value)
    (v : Value) (text : List ℕ) (count : ℕ) (before after : Option (List ℕ)) → Some given ≡ program.goal → program.goal ≡ Some goal
    → ProvesAnswer (program_of program) given claims steps bindings v → text ≡ answer_text (notation_of names program given) bindings v → count ≡ length claims
    → IfOk r (λ found. found ≡ status.Done) → OnOk r (Adds before after (yes_line text count)) → OnErr r (AddsPrefix before after (yes_line text count))
    → Ends r (ProofReport names program goal claims steps) before after
answer_ends r names program given goal claims steps bindings v text count before after is has proves shown counted done adds part =
    let line : yes_line text count ≡ yes_line (answer_text (notation_of names program given) bindings v) (length claims) = ap₂ yes_line shown counted in
    subst (λ (asked : Goal). Ends r (ProofReport names program asked claims steps) before after) (the_goal program given goal is has)
    (line_ends (ProofReport names program given claims steps) r (yes_line text count) status.Done before after
    (subst (λ (z : List ℕ). ProofReport names program given claims steps (z ∷ []) status.Done) (sym line) (proved bindings v proves)) done adds part)

-- a proof of no answer
pub no_answer_ends : (r : Result Status RunFault) (names : List (List ℕ)) (program : Kernel) (given goal : Goal) (claims : List calculus.Claim) (steps : List Step)
    (before after : Option (List ℕ)) → Some given ≡ program.goal → program.goal ≡ Some goal
    → ((bindings : List Value) (v : Value) → ProvesAnswer (program_of program) given claims steps bindings v → ⊥)
    → IfOk r (λ found. found ≡ status.Done) → OnOk r (Adds before after no_line) → OnErr r (AddsPrefix before after no_line)
    → Ends r (ProofReport names program goal claims steps) before after
no_answer_ends r names program given goal claims steps before after is has none done adds part =
    subst (λ (asked : Goal). Ends r (ProofReport names program asked claims steps) before after) (the_goal program given goal is has)
    (line_ends (ProofReport names program given claims steps) r no_line status.Done before after (not_proved none) done adds part)

-- as many claims as rows
pub claims_counted : (rows : List boxed.Claim) → length rows ≡ length (map claim_of rows)
claims_counted rows = sym (length-map rows claim_of)

-- ---- goals

-- the refusal of a file's goal
pub goal_refusal_ends : (r : Result Status RunFault) (held : Folder) (root bytes text : List ℕ) (claims : List calculus.Claim) (steps : List Step) (names : List (List ℕ)) (told : AskFault)
    (refusal : code.Refusal) (before after : Option (List ℕ)) → told ≡ ask.Refused refusal → HasProof text claims steps bytes
    → AskTells names (RequestRefused held root text) told → IfOk r (λ found. found ≡ status.Refused)
    → OnOk r (Adds before after (refusal_line (refusal_meaning names refusal))) → OnErr r (AddsPrefix before after (refusal_line (refusal_meaning names refusal)))
    → Ends r (FileReport held root bytes) before after
goal_refusal_ends r held root bytes text claims steps names told refusal before after same has refuses is adds part =
    let told_so = subst (AskTells names (RequestRefused held root text)) same refuses in
    line_ends (FileReport held root bytes) r (refusal_line (refusal_meaning names refusal)) status.Refused before after
    (goal_refused text claims steps (refusal_meaning names refusal) has told_so) is adds part

-- a proof that is tried
pub proof_ends : (r : Result Status RunFault) (held : Folder) (root bytes text : List ℕ) (claims : List calculus.Claim) (steps : List Step) (names : List (List ℕ)) (program : Kernel)
    (flat : programs.Program) (goal : Goal) (before after : Option (List ℕ)) → HasProof text claims steps bytes → Compiles held root text names program flat
    → program.goal ≡ Some goal → Ends r (ProofReport names program goal claims steps) before after → Ends r (FileReport held root bytes) before after
proof_ends r held root bytes text claims steps names program flat goal before after has compiles is e =
    ends_as (ProofReport names program goal claims steps) (FileReport held root bytes) r before after
    (λ written answer report. tried text claims steps names program flat goal written answer has compiles is report) e

-- ---- files

-- the first bytes of a file that isn't too long are all
all_bytes : (file bytes : List ℕ) → bytes ≡ take max_fetched_bytes file → length bytes ≤ max_file_bytes → bytes ≡ file
all_bytes file bytes is short = go (cases_lt max_fetched_bytes (length file))
  where
    go : (max_fetched_bytes < length file) ⊎ (length file ≤ max_fetched_bytes) → bytes ≡ file
    go (inr less) = is ∙ take_all max_fetched_bytes file less
    go (inl more) =
        let full : length bytes ≡ max_fetched_bytes = ap length is ∙ length-take-le max_fetched_bytes file (omega (arith, more)) in
        let never : ⊥ = omega (arith, full, short) in absurd never

-- a file whose first bytes are too many is too long
long_file : (file bytes : List ℕ) → bytes ≡ take max_fetched_bytes file → max_file_bytes < length bytes → max_file_bytes < length file
long_file file bytes is more = go (cases_lt max_file_bytes (length file))
  where
    go : (max_file_bytes < length file) ⊎ (length file ≤ max_file_bytes) → max_file_bytes < length file
    go (inr less) =
        let same : length bytes ≡ length file = ap length (is ∙ take_all max_fetched_bytes file (omega (arith, less))) in
        let never : ⊥ = omega (arith, same, less, more) in absurd never
    go (inl long) = long

fault_of_file : (file bytes : List ℕ) (offset : ℕ) → bytes ≡ take max_fetched_bytes file → IsFileFault bytes offset → IsFileFault file offset
fault_of_file file bytes offset is (too_long more at) = too_long (long_file file bytes is more) at
fault_of_file file bytes offset is (in_text short wrong) =
    let same = all_bytes file bytes is short in
    in_text (subst (λ (z : List ℕ). length z ≤ max_file_bytes) same short) (subst (λ (z : List ℕ). IsFault IsFile z offset) same wrong)

proof_of_file : (file bytes text : List ℕ) (claims : List calculus.Claim) (steps : List Step) → bytes ≡ take max_fetched_bytes file
    → HasProof text claims steps bytes → HasProof text claims steps file
proof_of_file file bytes text claims steps is has = subst (HasProof text claims steps) (all_bytes file bytes is has.size) has

-- what is due for the first bytes of a file, as many as a library gives, is due for the file
whole_file : (held : Folder) (root file bytes : List ℕ) → bytes ≡ take max_fetched_bytes file → (written : List (List ℕ)) (answer : Status)
    → FileReport held root bytes written answer → FileReport held root file written answer
whole_file held root file bytes is written answer (bad_proof offset wrong) = bad_proof offset (fault_of_file file bytes offset is wrong)
whole_file held root file bytes is written answer (goal_refused text claims steps refusal has refuses) =
    goal_refused text claims steps refusal (proof_of_file file bytes text claims steps is has) refuses
whole_file held root file bytes is written answer (tried text claims steps names program flat goal w a has compiles of report) =
    tried text claims steps names program flat goal w a (proof_of_file file bytes text claims steps is has) compiles of report

-- ---- checks

-- the condition that the modules of a check are loaded
abbrev pub Loads : Holdings → Check → List (List ℕ) → Loaded → Type 0
Loads held check names loaded = AreLoaded (held.module_at check.folder) check.name names loaded

pub text_ends : (r : Result Status RunFault) (check : Check) (holdings : Option Holdings) (names : List (List ℕ)) (loaded : Loaded) (told : Fetched) (bytes : Vec ℕ Global)
    (read : List ℕ) (before after : Option (List ℕ)) → told ≡ fetched.Text bytes → read ≡ bytes.items → IfSome holdings (λ held. Fetches (held.file_at check.path) told)
    → ((held : Folder) (root : List ℕ) → AreLoaded held root names loaded → Ends r (FileReport held root read) before after)
    → IfSome holdings (λ held. Loads held check names loaded → Ends r (CheckReport held check) before after)
text_ends r check None names loaded told bytes read before after same all fetches report = tt
text_ends r check (Some held) names loaded told bytes read before after same all fetches report = λ are.
    go (held.file_at check.path) refl (subst (Fetches (held.file_at check.path)) same fetches) are
  where
    go : (found : Option (List ℕ)) → held.file_at check.path ≡ found → Fetches found (fetched.Text bytes) → Loads held check names loaded → Ends r (CheckReport held check) before after
    go None is gives are = absurd gives
    go (Some file) is gives are =
        ends_as (FileReport (held.module_at check.folder) check.name read) (CheckReport held check) r before after
        (λ written answer due.
        of_file (modules_of names loaded.modules.items) file written answer are.compiled is
        (whole_file (held.module_at check.folder) check.name file read (all ∙ gives) written answer due))
        (report (held.module_at check.folder) check.name are)

pub absent_ends : (r : Result Status RunFault) (check : Check) (holdings : Option Holdings) (names : List (List ℕ)) (loaded : Loaded) (told : Fetched)
    (before after : Option (List ℕ)) → told ≡ fetched.Absent → IfSome holdings (λ held. Fetches (held.file_at check.path) told)
    → IfOk r (λ found. found ≡ status.Refused) → OnOk r (Adds before after (missing_file_line check.path)) → OnErr r (AddsPrefix before after (missing_file_line check.path))
    → IfSome holdings (λ held. Loads held check names loaded → Ends r (CheckReport held check) before after)
absent_ends r check None names loaded told before after same fetches is adds part = tt
absent_ends r check (Some held) names loaded told before after same fetches is adds part = λ are.
    go (held.file_at check.path) refl (subst (Fetches (held.file_at check.path)) same fetches) are
  where
    go : (found : Option (List ℕ)) → held.file_at check.path ≡ found → Fetches found fetched.Absent → Loads held check names loaded → Ends r (CheckReport held check) before after
    go None none gives are =
        line_ends (CheckReport held check) r (missing_file_line check.path) status.Refused before after
        (no_file (modules_of names loaded.modules.items) are.compiled none) is adds part
    go (Some file) some gives are = absurd gives

-- a library that failed
pub failed_ends : (check : Check) (holdings : Option Holdings) (names : List (List ℕ)) (loaded : Loaded) (f : RunFault) (before after : Option (List ℕ)) → after ≡ before
    → IfSome holdings (λ held. Loads held check names loaded → Ends (Err f) (CheckReport held check) before after)
failed_ends check None names loaded f before after same = tt
failed_ends check (Some held) names loaded f before after same = λ are. wrote.nothing same

-- what is due where the modules are loaded
pub loaded_ends : (r : Result Status RunFault) (check : Check) (holdings now : Option Holdings) (names : List (List ℕ)) (loaded : Loaded) (before after : Option (List ℕ)) → now ≡ holdings
    → IfSome holdings (λ held. Loads held check names loaded) → IfSome now (λ held. Loads held check names loaded → Ends r (CheckReport held check) before after)
    → IfSome holdings (λ held. Ends r (CheckReport held check) before after)
loaded_ends r check holdings now names loaded before after same are report =
    go holdings are (subst (λ (o : Option Holdings). IfSome o (λ held. Loads held check names loaded → Ends r (CheckReport held check) before after)) same report)
  where
    go : (o : Option Holdings) → IfSome o (λ held. Loads held check names loaded) → IfSome o (λ held. Loads held check names loaded → Ends r (CheckReport held check) before after)
        → IfSome o (λ held. Ends r (CheckReport held check) before after)
    go None are report = tt
    go (Some held) are report = report are

pub modules_refusal_ends : (r : Result Status RunFault) (check : Check) (holdings : Option Holdings) (names : List (List ℕ)) (told : CompileFault) (refusal : code.Refusal)
    (before after : Option (List ℕ)) → told ≡ compile.Refused refusal
    → IfSome holdings (λ held. TellsRefusal names (ModulesRefused (held.module_at check.folder) check.name) told)
    → IfOk r (λ found. found ≡ status.Refused) → OnOk r (Adds before after (refusal_line (refusal_meaning names refusal)))
    → OnErr r (AddsPrefix before after (refusal_line (refusal_meaning names refusal)))
    → IfSome holdings (λ held. Ends r (CheckReport held check) before after)
modules_refusal_ends r check None names told refusal before after same refuses is adds part = tt
modules_refusal_ends r check (Some held) names told refusal before after same refuses is adds part =
    let told_so = subst (TellsRefusal names (ModulesRefused (held.module_at check.folder) check.name)) same refuses in
    line_ends (CheckReport held check) r (refusal_line (refusal_meaning names refusal)) status.Refused before after (modules_refused (refusal_meaning names refusal) told_so) is adds part

-- the same where the refusal that was written is told apart from the one that was due
pub modules_refusal_ends_as : (r : Result Status RunFault) (check : Check) (holdings : Option Holdings) (names : List (List ℕ)) (told : CompileFault) (refusal written : code.Refusal)
    (before after : Option (List ℕ)) → told ≡ compile.Refused refusal → refusal ≡ written
    → IfSome holdings (λ held. TellsRefusal names (ModulesRefused (held.module_at check.folder) check.name) told)
    → IfOk r (λ found. found ≡ status.Refused) → OnOk r (Adds before after (refusal_line (refusal_meaning names written)))
    → OnErr r (AddsPrefix before after (refusal_line (refusal_meaning names written)))
    → IfSome holdings (λ held. Ends r (CheckReport held check) before after)
modules_refusal_ends_as r check holdings names told refusal written before after same is =
    modules_refusal_ends r check holdings names told written before after (same ∙ ap compile.Refused is)

-- ---- counts of faults

-- the library's count after a text, and where there is none
pub text_cause : (r : Result Status RunFault) (told : Fetched) (bytes : Vec ℕ Global) (m n j k : ℕ) → told ≡ fetched.Text bytes → FetchCount told m n → HasWriteCause r j k
    → HasRunCause r (record { library = m; output = j }) (record { library = n; output = k })
text_cause r told bytes m n j k same count cause = run_cause r m n j k (subst (λ (t : Fetched). FetchCount t m n) same count) cause

pub absent_cause : (r : Result Status RunFault) (told : Fetched) (m n j k : ℕ) → told ≡ fetched.Absent → FetchCount told m n → HasWriteCause r j k
    → HasRunCause r (record { library = m; output = j }) (record { library = n; output = k })
absent_cause r told m n j k same count cause = run_cause r m n j k (subst (λ (t : Fetched). FetchCount t m n) same count) cause

-- a count that stood before
pub later_cause : (r : Result Status RunFault) (old middle j : ℕ) (new : Faults) → middle ≡ old → HasRunCause r (record { library = middle; output = j }) new
    → HasRunCause r (record { library = old; output = j }) new
later_cause r old middle j new same cause = subst (λ (n : ℕ). HasRunCause r (record { library = n; output = j }) new) same cause
