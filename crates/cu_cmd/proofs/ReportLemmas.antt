-- What was written, as the report or a prefix of it.
use Rattle.std.proofs.Common.{◌≡◌, ◌∙◌, ℕ, zero, suc, List, [], ◌∷◌, Option, None, Some, Result, Ok, Err, IfNone, IfOk, IfSome, OnOk, OnErr, codes, inl, refl, slice_get, sym, ap, subst}
use Rattle.std.proofs.lemmas.List.{append-nil}
use Rattle.std.specs.List.{concat}
use Rattle.cu_calculus.specs.Program as calculus
use Rattle.cu_flattext.specs.Naming.{Lowered}
use Rattle.cu_flattext.specs.Text.{text_of_module}
use Rattle.cu_front.specs.CompileAnswers.{TellsRefusal}
use Rattle.cu_front.specs.Compiling.{Compiles, RootCompiles, ModulesRefused, RequestRefused}
use Rattle.cu_front.specs.Refusal.{Refusal}
use Rattle.cu_front.specs.RefusalLine.{refusal_line}
use Rattle.cu_front.specs.RefusalMeaning.{refusal_meaning}
use Rattle.cu_front.specs.declared.fault.CompileFault.{CompileFault}
use Rattle.cu_front.specs.declared.fault.CompileFault.TheVariants as compile
use Rattle.cu_front.specs.declared.refusal.Refusal as code
use Rattle.cu_io.specs.Holdings.{Holdings}
use Rattle.cu_io.specs.Shelf.{Shelf, shelf_holdings}
use Rattle.cu_kernel.specs.TypeExpr.{TypeExpr}
use Rattle.cu_kernel.specs.Kernel.{Goal, Kernel}
use Rattle.cu_machine.specs.Listing.{Listing}
use Rattle.cu_machine.specs.declared.End.{End}
use Rattle.cu_machine.specs.declared.End.TheVariants as ends_so
use Rattle.cu_machine.specs.declared.SearchLimits.{SearchLimits}
use Rattle.cu_names.specs.declared.names.NameId.{NameId}
use Rattle.cu_search.specs.Totals.{totals_of}
use Rattle.cu_search.specs.Written.{Adds, AddsPrefix}
use Rattle.cu_words.specs.Words.{Checking, Command, Compile, Compiling, IsCommand, ReadsAs, Serving, Solve, Solving, Trial, Trying}
use Rattle.cu_theorem.specs.Listed.{listing_of}
use Rattle.cu_cmd.specs.Listings.{listing_pieces, listing_text, notation_of}
use Rattle.cu_cmd.specs.Report.{
  AsksNothing,
  CommandReport,
  CompileReport,
  Report,
  SolveReport,
  TrialReport,
  command,
  listed,
  module_refused,
  printed,
  refused,
  status_of,
  trial_refused,
  tried,
  usage,
  usage_line,
}
use Rattle.cu_cmd.specs.Causes.{Counts, HasCause, IsOfSession}
use Rattle.cu_cmd.specs.Inside.Runs.{Ends, EndsWhole, Faults, HasCommandCause, HasRunCause, HasWriteCause, IsCompleted, status_after}
use Rattle.cu_cmd.specs.Trials.{totals_pieces, totals_text, trial_goal, trial_held, trial_library, trial_limits}
use Rattle.cu_cmd.specs.Written.{Writes, WritesReport, WritesResult, WritesWhole, WritesWholly, nothing, of_compiling, prefix}
use Rattle.cu_cmd.specs.declared.fault.RunFault.{RunFault}
use Rattle.cu_cmd.specs.declared.fault.RunFault.TheVariants as fault
use Rattle.cu_cmd.specs.declared.status.Status.{Status}
use Rattle.cu_cmd.specs.declared.status.Status.TheVariants as status

-- ---- one report

-- what was written is the report, or a prefix of it
pub ends : (Due : List (List ℕ) → Status → Type 0) (r : Result Status RunFault) (before after : Option (List ℕ)) (written : List (List ℕ)) (answer : Status)
    → Due written answer → IfOk r (λ found. found ≡ answer) → OnOk r (Adds before after (concat written))
    → OnErr r (AddsPrefix before after (concat written)) → Ends r Due before after
ends Due (Ok found) before after written answer report is adds part = record {
  written = written;
  is_report = subst (Due written) (sym is) report;
  adds = adds;
}
ends Due (Err f) before after written answer report is adds part = prefix written answer report part

-- the bytes of one line
pub one_line : (r : Result Status RunFault) (line : List ℕ) (before after : Option (List ℕ)) → OnOk r (Adds before after line)
    → OnOk r (Adds before after (concat (line ∷ [])))
one_line (Ok found) line before after adds = subst (Adds before after) (sym (append-nil line)) adds
one_line (Err f) line before after adds = tt

pub part_of_line : (r : Result Status RunFault) (line : List ℕ) (before after : Option (List ℕ)) → OnErr r (AddsPrefix before after line)
    → OnErr r (AddsPrefix before after (concat (line ∷ [])))
part_of_line (Ok found) line before after adds = tt
part_of_line (Err f) line before after adds = subst (AddsPrefix before after) (sym (append-nil line)) adds

-- ---- a solve

pub refusal_ends : (r : Result Status RunFault) (s : Solve) (holdings : Option Holdings) (names : List (List ℕ)) (told : CompileFault) (refusal : code.Refusal)
    (before after : Option (List ℕ)) → told ≡ compile.Refused refusal
    → IfSome holdings (λ held. TellsRefusal names (RequestRefused (held.module_at s.folder) s.name s.goal) told)
    → IfOk r (λ found. found ≡ status.Refused) → OnOk r (Adds before after (refusal_line (refusal_meaning names refusal)))
    → OnErr r (AddsPrefix before after (refusal_line (refusal_meaning names refusal)))
    → IfSome holdings (λ held. Ends r (SolveReport held s) before after)
refusal_ends r s None names told refusal before after same refuses is adds part = tt
refusal_ends r s (Some held) names told refusal before after same refuses is adds part =
    let told_so = subst (TellsRefusal names (RequestRefused (held.module_at s.folder) s.name s.goal)) same refuses in
    let line = refusal_line (refusal_meaning names refusal) in
    ends (SolveReport held s) r before after (line ∷ []) status.Refused (refused (refusal_meaning names refusal) told_so) is
    (one_line r line before after adds) (part_of_line r line before after part)

pub listing_ends : (r : Result Status RunFault) (s : Solve) (holdings : Option Holdings) (names : List (List ℕ)) (program : Kernel) (flat : calculus.Program)
    (goal : Goal) (before after : Option (List ℕ)) → IfSome holdings (λ held. Compiles (held.module_at s.folder) s.name s.goal names program flat)
    → program.goal ≡ Some goal → IfOk r (λ found. found ≡ status_of (listing_of s.limits flat goal).end)
    → OnOk r (Adds before after (listing_text names program goal (listing_of s.limits flat goal)))
    → OnErr r (AddsPrefix before after (listing_text names program goal (listing_of s.limits flat goal)))
    → IfSome holdings (λ held. Ends r (SolveReport held s) before after)
listing_ends r s None names program flat goal before after compiles has is adds part = tt
listing_ends r s (Some held) names program flat goal before after compiles has is adds part =
    let found = listing_of s.limits flat goal in
    let written = listing_pieces names program goal found in
    ends (SolveReport held s) r before after written (status_of found.end)
    (listed names program flat goal found written (status_of found.end) compiles has refl refl refl) is adds part

-- ---- a module

pub module_refusal_ends : (r : Result Status RunFault) (m : Compile) (holdings : Option Holdings) (names : List (List ℕ)) (told : CompileFault)
    (refusal : code.Refusal) (before after : Option (List ℕ)) → told ≡ compile.Refused refusal
    → IfSome holdings (λ held. TellsRefusal names (ModulesRefused (held.module_at m.folder) m.name) told)
    → IfOk r (λ found. found ≡ status.Refused) → OnOk r (Adds before after (refusal_line (refusal_meaning names refusal)))
    → OnErr r (AddsPrefix before after (refusal_line (refusal_meaning names refusal)))
    → IfSome holdings (λ held. Ends r (CompileReport held m) before after)
module_refusal_ends r m None names told refusal before after same refuses is adds part = tt
module_refusal_ends r m (Some held) names told refusal before after same refuses is adds part =
    let told_so = subst (TellsRefusal names (ModulesRefused (held.module_at m.folder) m.name)) same refuses in
    let line = refusal_line (refusal_meaning names refusal) in
    ends (CompileReport held m) r before after (line ∷ []) status.Refused (module_refused (refusal_meaning names refusal) told_so) is
    (one_line r line before after adds) (part_of_line r line before after part)

pub text_ends : (r : Result Status RunFault) (m : Compile) (holdings : Option Holdings) (names : List (List ℕ)) (program : Kernel)
    (interface : List TypeExpr) (flat : calculus.Program) (id : NameId) (before after : Option (List ℕ))
    → IfSome holdings (λ held. RootCompiles (held.module_at m.folder) m.name names program interface flat) → slice_get names id.0 ≡ Some m.name
    → IfOk r (λ found. found ≡ status.Done)
    → OnOk r (Adds before after (text_of_module (record { names = names; kernel = program; interface = interface; flat = flat }) id))
    → OnErr r (AddsPrefix before after (text_of_module (record { names = names; kernel = program; interface = interface; flat = flat }) id))
    → IfSome holdings (λ held. Ends r (CompileReport held m) before after)
text_ends r m None names program interface flat id before after compiles named is adds part = tt
text_ends r m (Some held) names program interface flat id before after compiles named is adds part =
    let text = text_of_module (record { names = names; kernel = program; interface = interface; flat = flat }) id in
    ends (CompileReport held m) r before after (text ∷ []) status.Done
    (printed names program interface flat id text compiles named refl) is (one_line r text before after adds) (part_of_line r text before after part)

-- ---- a trial

pub trial_refusal_ends : (r : Result Status RunFault) (t : Trial) (names : List (List ℕ)) (told : CompileFault) (refusal : code.Refusal)
    (before after : Option (List ℕ)) → told ≡ compile.Refused refusal
    → TellsRefusal names (RequestRefused trial_held (codes "Trial") (trial_goal t.depth)) told
    → IfOk r (λ found. found ≡ status.Refused) → OnOk r (Adds before after (refusal_line (refusal_meaning names refusal)))
    → OnErr r (AddsPrefix before after (refusal_line (refusal_meaning names refusal))) → Ends r (TrialReport t) before after
trial_refusal_ends r t names told refusal before after same refuses is adds part =
    let told_so = subst (TellsRefusal names (RequestRefused trial_held (codes "Trial") (trial_goal t.depth))) same refuses in
    let line = refusal_line (refusal_meaning names refusal) in
    ends (TrialReport t) r before after (line ∷ []) status.Refused (trial_refused (refusal_meaning names refusal) told_so) is
    (one_line r line before after adds) (part_of_line r line before after part)

pub totals_end : (r : Result Status RunFault) (t : Trial) (limits : SearchLimits) (names : List (List ℕ)) (program : Kernel) (flat : calculus.Program)
    (goal : Goal) (before after : Option (List ℕ)) → limits ≡ trial_limits t
    → Compiles trial_held (codes "Trial") (trial_goal t.depth) names program flat
    → program.goal ≡ Some goal → IfOk r (λ found. found ≡ status_of (listing_of limits flat goal).end)
    → OnOk r (Adds before after (totals_text (listing_of limits flat goal)))
    → OnErr r (AddsPrefix before after (totals_text (listing_of limits flat goal))) → Ends r (TrialReport t) before after
totals_end r t limits names program flat goal before after same compiles has is adds part =
    let found = listing_of limits flat goal in
    let written = totals_pieces (totals_of found) found.end in
    ends (TrialReport t) r before after written (status_of found.end)
    (tried names program flat goal found written (status_of found.end) compiles has (ap (λ (l : SearchLimits). listing_of l flat goal) same) refl refl) is adds part

-- what the built-in library holds
pub trial_compiles : (library : Shelf) (text : List ℕ) (depth : ℕ) (names : List (List ℕ)) (program : Kernel) (flat : calculus.Program)
    → library ≡ trial_library → text ≡ trial_goal depth
    → Compiles ((shelf_holdings library).module_at (codes "")) (codes "Trial") text names program flat
    → Compiles trial_held (codes "Trial") (trial_goal depth) names program flat
trial_compiles library text depth names program flat is is_goal h =
    subst (λ (l : Shelf). Compiles ((shelf_holdings l).module_at (codes "")) (codes "Trial") (trial_goal depth) names program flat) is
    (subst (λ (goal : List ℕ). Compiles ((shelf_holdings library).module_at (codes "")) (codes "Trial") goal names program flat) is_goal h)

pub trial_tells : (library : Shelf) (text : List ℕ) (depth : ℕ) (names : List (List ℕ)) (told : CompileFault)
    → library ≡ trial_library → text ≡ trial_goal depth
    → TellsRefusal names (RequestRefused ((shelf_holdings library).module_at (codes "")) (codes "Trial") text) told
    → TellsRefusal names (RequestRefused trial_held (codes "Trial") (trial_goal depth)) told
trial_tells library text depth names told is is_goal h =
    subst (λ (l : Shelf). TellsRefusal names (RequestRefused ((shelf_holdings l).module_at (codes "")) (codes "Trial") (trial_goal depth)) told) is
    (subst (λ (goal : List ℕ). TellsRefusal names (RequestRefused ((shelf_holdings library).module_at (codes "")) (codes "Trial") goal) told) is_goal h)

-- ---- counts of faults

same_faults : (m n j k : ℕ) → m ≡ j → n ≡ k → ◌≡◌ {A = Faults} (record { library = m; output = n }) (record { library = j; output = k })
same_faults m n j k e f =
    let first : ◌≡◌ {A = Faults} (record { library = m; output = n }) (record { library = j; output = n }) =
    ap (λ (x : ℕ). record { library = x; output = n }) e in
    let second : ◌≡◌ {A = Faults} (record { library = j; output = n }) (record { library = j; output = k }) =
    ap (λ (x : ℕ). record { library = j; output = x }) f in
    first ∙ second

pub run_cause : (r : Result Status RunFault) (m n j k : ℕ) → n ≡ m → HasWriteCause r j k
    → HasRunCause r (record { library = m; output = j }) (record { library = n; output = k })
run_cause (Ok found) m n j k e cause = same_faults n k m j e cause
run_cause (Err fault.Read) m n j k e cause = absurd cause
run_cause (Err fault.Write) m n j k e cause = (cause, e)
run_cause (Err fault.NoMemory) m n j k e cause = same_faults n k m j e cause

-- the causes of a command that leaves the input alone
pub command_cause : (r : Result Status RunFault) (m n j k i : ℕ) → HasRunCause r (record { library = m; output = j }) (record { library = n; output = k })
    → HasCommandCause r (record { library = m; input = i; output = j }) (record { library = n; input = i; output = k })
command_cause (Ok found) m n j k i cause =
    let l : n ≡ m = ap (λ (f : Faults). f.library) cause in
    let o : k ≡ j = ap (λ (f : Faults). f.output) cause in
    rw (l, o) refl
command_cause (Err fault.Read) m n j k i cause = (inl cause.0, cause.1)
command_cause (Err fault.Write) m n j k i cause = (cause.0, cause.1, refl)
command_cause (Err fault.NoMemory) m n j k i cause =
    let l : n ≡ m = ap (λ (f : Faults). f.library) cause in
    let o : k ≡ j = ap (λ (f : Faults). f.output) cause in
    rw (l, o) refl

-- the causes of the status of a run
pub status_cause : (r : Result Status RunFault) (old new : Counts) → IfOk r IsCompleted → HasCommandCause r old new → HasCause (status_after r) old new
status_cause (Ok status.Done) old new is cause = cause
status_cause (Ok status.Floundered) old new is cause = cause
status_cause (Ok status.Limit) old new is cause = cause
status_cause (Ok status.Usage) old new is cause = absurd is
status_cause (Ok status.Refused) old new is cause = cause
status_cause (Ok status.Stopped) old new is cause = cause
status_cause (Ok status.ReadFault) old new is cause = absurd is
status_cause (Ok status.WriteFault) old new is cause = absurd is
status_cause (Ok status.NoMemory) old new is cause = absurd is
status_cause (Err fault.Read) old new is cause = cause
status_cause (Err fault.Write) old new is cause = cause
status_cause (Err fault.NoMemory) old new is cause = cause

-- ---- sessions

-- what is written for a command that doesn't read the input
pub no_input : (holdings : Option Holdings) (remaining : Option (List ℕ)) (said one : Command) (r : Result Status RunFault) (before after : Option (List ℕ))
    (P : Holdings → Type 0) → said ≡ one → ((held : Holdings) (text : List ℕ) → P held → Ends r (CommandReport held text one) before after)
    → IfSome holdings P
    → IfSome holdings (λ held. (text : List ℕ) → (said ≡ Serving → remaining ≡ Some text) → Ends r (CommandReport held text said) before after)
no_input None remaining said one r before after P same ends is = tt
no_input (Some held) remaining said one r before after P same ends is = λ text told.
    subst (λ (x : Command). Ends r (CommandReport held text x) before after) (sym same) (ends held text is)

-- what is written for a command that reads neither the input nor the library
pub no_outside : (holdings : Option Holdings) (remaining : Option (List ℕ)) (said one : Command) (r : Result Status RunFault) (before after : Option (List ℕ))
    → said ≡ one → ((held : Holdings) (text : List ℕ) → Ends r (CommandReport held text one) before after)
    → IfSome holdings (λ held. (text : List ℕ) → (said ≡ Serving → remaining ≡ Some text) → Ends r (CommandReport held text said) before after)
no_outside None remaining said one r before after same ends = tt
no_outside (Some held) remaining said one r before after same ends = λ text told.
    subst (λ (x : Command). Ends r (CommandReport held text x) before after) (sym same) (ends held text)

-- what is written for a session, by its input
pub by_input : (holdings : Option Holdings) (remaining : Option (List ℕ)) (said : Command) (r : Result Status RunFault) (before after : Option (List ℕ))
    → said ≡ Serving → IfSome holdings (λ held. (text : List ℕ) → remaining ≡ Some text → Ends r (CommandReport held text Serving) before after)
    → IfSome holdings (λ held. (text : List ℕ) → (said ≡ Serving → remaining ≡ Some text) → Ends r (CommandReport held text said) before after)
by_input None remaining said r before after same is = tt
by_input (Some held) remaining said r before after same is = λ text told.
    subst (λ (x : Command). Ends r (CommandReport held text x) before after) (sym same) (is text (told same))

session_wholly : (r : Result Status RunFault) (before after : Option (List ℕ)) → IfOk r (λ answer. answer ≡ status.Done) → EndsWhole r Serving before after
session_wholly (Ok answer) before after is = subst (λ (a : Status). WritesWholly Serving a before after) (sym is) refl
session_wholly (Err fault.Read) before after is = tt
session_wholly (Err fault.Write) before after is = tt
session_wholly (Err fault.NoMemory) before after is = tt

pub session_whole : (r : Result Status RunFault) (said : Command) (before after : Option (List ℕ)) → said ≡ Serving
    → IfOk r (λ answer. answer ≡ status.Done) → EndsWhole r said before after
session_whole r said before after same is = subst (λ (x : Command). EndsWhole r x before after) (sym same) (session_wholly r before after is)

-- a command that is another one is no session
pub not_serving : {A : Type 0} (said one : Command) → said ≡ one → (one ≡ Serving → ⊥) → said ≡ Serving → A
not_serving said one same other serves = absurd (other (sym same ∙ serves))

-- the status of a session
pub session_status : (r : Result Status RunFault) → IfOk r (λ answer. answer ≡ status.Done) → IsOfSession (status_after r)
session_status (Ok answer) is = subst IsOfSession (sym is) tt
session_status (Err fault.Read) is = tt
session_status (Err fault.Write) is = tt
session_status (Err fault.NoMemory) is = tt

-- ---- whole runs

-- the report of a command is that of the words that ask for it
command_ends : (r : Result Status RunFault) (words : List (List ℕ)) (held : Holdings) (input : List ℕ) (asked : Command) (before after : Option (List ℕ))
    → ReadsAs words asked → Ends r (CommandReport held input asked) before after → Ends r (Report words held input) before after
command_ends (Ok answer) words held input asked before after reads e = record {
  written = e.written;
  is_report = command asked e.written answer reads e.is_report;
  adds = e.adds;
}
command_ends (Err f) words held input asked before after reads (nothing same) = nothing same
command_ends (Err f) words held input asked before after reads (prefix written answer report part) =
    prefix written answer (command asked written answer reads report) part

-- the status of a run that came to an end of a command
solved : (Due : List (List ℕ) → Status → Type 0) (r : Result Status RunFault) (before after : Option (List ℕ)) → IfOk r IsCompleted
    → Ends r Due before after → Writes (status_after r) Due before after
solved Due (Ok status.Done) before after is e = e
solved Due (Ok status.Floundered) before after is e = e
solved Due (Ok status.Limit) before after is e = e
solved Due (Ok status.Usage) before after is e = absurd is
solved Due (Ok status.Refused) before after is e = e
solved Due (Ok status.Stopped) before after is e = e
solved Due (Ok status.ReadFault) before after is e = absurd is
solved Due (Ok status.WriteFault) before after is e = absurd is
solved Due (Ok status.NoMemory) before after is e = absurd is
solved Due (Err fault.Read) before after is e = e
solved Due (Err fault.Write) before after is e = e
solved Due (Err fault.NoMemory) before after is e = e

pub command_writes : (r : Result Status RunFault) (words : List (List ℕ)) (asked : Command) (holdings : Option Holdings) (remaining : Option (List ℕ))
    (before after : Option (List ℕ)) → ReadsAs words asked → IfOk r IsCompleted
    → IfSome holdings (λ held. (text : List ℕ) → (asked ≡ Serving → remaining ≡ Some text) → Ends r (CommandReport held text asked) before after)
    → IfSome holdings (λ held. (text : List ℕ) → (ReadsAs words Serving → remaining ≡ Some text) → Writes (status_after r) (Report words held text) before after)
command_writes r words asked None remaining before after reads is e = tt
command_writes r words asked (Some held) remaining before after reads is e = λ text told.
    solved (Report words held text) r before after is
    (command_ends r words held text asked before after reads (e text (λ serves. told (subst (ReadsAs words) serves reads))))

usage_ends : (Due : List (List ℕ) → Status → Type 0) (r : Result Status RunFault) (before after : Option (List ℕ)) → IfOk r (λ found. found ≡ status.Usage)
    → Ends r Due before after → Writes (status_after r) Due before after
usage_ends Due (Ok found) before after is e =
    subst (λ (answer : Status). Writes answer Due before after) (sym is) (subst (λ (answer : Status). WritesReport answer Due before after) is e)
usage_ends Due (Err fault.Read) before after is e = e
usage_ends Due (Err fault.Write) before after is e = e
usage_ends Due (Err fault.NoMemory) before after is e = e

-- words outside the grammar, whatever is held
pub usage_writes : (r : Result Status RunFault) (words : List (List ℕ)) (held : Holdings) (input : List ℕ) (before after : Option (List ℕ)) → (IsCommand words → ⊥)
    → IfOk r (λ found. found ≡ status.Usage) → OnOk r (Adds before after usage_line) → OnErr r (AddsPrefix before after usage_line)
    → Writes (status_after r) (Report words held input) before after
usage_writes r words held input before after outside is adds part =
    usage_ends (Report words held input) r before after is
    (ends (Report words held input) r before after (usage_line ∷ []) status.Usage (usage outside) is (one_line r usage_line before after adds)
    (part_of_line r usage_line before after part))

pub usage_writes_held : (r : Result Status RunFault) (words : List (List ℕ)) (holdings : Option Holdings) (remaining : Option (List ℕ)) (before after : Option (List ℕ))
    → (IsCommand words → ⊥)
    → IfOk r (λ found. found ≡ status.Usage) → OnOk r (Adds before after usage_line) → OnErr r (AddsPrefix before after usage_line)
    → IfSome holdings (λ held. (text : List ℕ) → (ReadsAs words Serving → remaining ≡ Some text) → Writes (status_after r) (Report words held text) before after)
usage_writes_held r words None remaining before after outside is adds part = tt
usage_writes_held r words (Some held) remaining before after outside is adds part = λ text told. usage_writes r words held text before after outside is adds part

-- ---- words

pub reads_so : {A : Type 0} (found : Option A) (a : A) (P : A → Type 0) → found ≡ Some a → IfSome found P → P a
reads_so {A = A} found a P is p = subst (λ (x : Option A). IfSome x P) is p

pub none_so : {A : Type 0} (found : Option A) (P : Type 0) → found ≡ None → IfNone found P → P
none_so {A = A} found P is p = subst (λ (x : Option A). IfNone x P) is p

-- ---- whole lines and results

result_whole : (asked : Command) (e : End) (before after : Option (List ℕ)) → WritesResult asked (status_of e) before after
    → WritesWholly asked (status_of e) before after
result_whole asked (ends_so.NoMore zero) before after result = result
result_whole asked (ends_so.NoMore (suc waits)) before after result = result
result_whole asked (ends_so.Rounds d count) before after result = result
result_whole asked (ends_so.Answers count) before after result = result
result_whole asked (ends_so.Stopped stop d) before after result = result

pub listing_ends_whole : (r : Result Status RunFault) (s : Solve) (names : List (List ℕ)) (program : Kernel) (goal : Goal) (found : Listing)
    (before after : Option (List ℕ)) (j k : ℕ) → IfOk r (λ answer. answer ≡ status_of found.end)
    → OnOk r (Adds before after (listing_text names program goal found)) → HasWriteCause r j k → EndsWhole r (Solving s) before after
listing_ends_whole (Ok answer) s names program goal found before after j k is adds cause =
    subst (λ (a : Status). WritesWholly (Solving s) a before after) (sym is)
    (result_whole (Solving s) found.end before after (notation_of names program goal, found, refl, adds))
listing_ends_whole (Err fault.Read) s names program goal found before after j k is adds cause = absurd cause
listing_ends_whole (Err fault.Write) s names program goal found before after j k is adds cause = tt
listing_ends_whole (Err fault.NoMemory) s names program goal found before after j k is adds cause = tt

pub text_ends_whole : (r : Result Status RunFault) (m : Compile) (program : Lowered) (id : NameId) (before after : Option (List ℕ)) (j k : ℕ)
    → IfOk r (λ answer. answer ≡ status.Done) → OnOk r (Adds before after (text_of_module program id)) → HasWriteCause r j k
    → EndsWhole r (Compiling m) before after
text_ends_whole (Ok answer) m program id before after j k is adds cause =
    subst (λ (a : Status). WritesWholly (Compiling m) a before after) (sym is) (program, id, refl, adds)
text_ends_whole (Err fault.Read) m program id before after j k is adds cause = absurd cause
text_ends_whole (Err fault.Write) m program id before after j k is adds cause = tt
text_ends_whole (Err fault.NoMemory) m program id before after j k is adds cause = tt

pub totals_end_whole : (r : Result Status RunFault) (t : Trial) (found : Listing) (before after : Option (List ℕ)) (j k : ℕ)
    → IfOk r (λ answer. answer ≡ status_of found.end) → OnOk r (Adds before after (totals_text found)) → HasWriteCause r j k
    → EndsWhole r (Trying t) before after
totals_end_whole (Ok answer) t found before after j k is adds cause =
    subst (λ (a : Status). WritesWholly (Trying t) a before after) (sym is) (result_whole (Trying t) found.end before after (found, refl, adds))
totals_end_whole (Err fault.Read) t found before after j k is adds cause = absurd cause
totals_end_whole (Err fault.Write) t found before after j k is adds cause = tt
totals_end_whole (Err fault.NoMemory) t found before after j k is adds cause = tt

pub refusal_ends_whole : (r : Result Status RunFault) (asked : Command) (refusal : Refusal) (before after : Option (List ℕ)) (j k : ℕ)
    → IfOk r (λ answer. answer ≡ status.Refused) → OnOk r (Adds before after (refusal_line refusal)) → HasWriteCause r j k
    → EndsWhole r asked before after
refusal_ends_whole (Ok answer) asked refusal before after j k is adds cause =
    subst (λ (a : Status). WritesWholly asked a before after) (sym is) (refusal_line refusal, of_compiling refusal refl, adds)
refusal_ends_whole (Err fault.Read) asked refusal before after j k is adds cause = absurd cause
refusal_ends_whole (Err fault.Write) asked refusal before after j k is adds cause = tt
refusal_ends_whole (Err fault.NoMemory) asked refusal before after j k is adds cause = tt

pub usage_whole : (r : Result Status RunFault) (words : List (List ℕ)) (before after : Option (List ℕ)) (j k : ℕ)
    → IfOk r (λ answer. answer ≡ status.Usage) → OnOk r (Adds before after usage_line) → HasWriteCause r j k
    → WritesWhole words (status_after r) before after
usage_whole (Ok answer) words before after j k is adds cause = subst (λ (a : Status). WritesWhole words a before after) (sym is) adds
usage_whole (Err fault.Read) words before after j k is adds cause = absurd cause
usage_whole (Err fault.Write) words before after j k is adds cause = tt
usage_whole (Err fault.NoMemory) words before after j k is adds cause = tt

-- what was written where reading failed
read_whole : (words : List (List ℕ)) (asked : Command) (before after : Option (List ℕ)) → ReadsAs words asked → EndsWhole (Err fault.Read) asked before after
    → (ReadsAs words Serving → ⊥) → after ≡ before
read_whole words (Solving s) before after reads whole none = whole
read_whole words (Compiling m) before after reads whole none = whole
read_whole words (Checking c) before after reads whole none = whole
read_whole words Serving before after reads whole none = absurd (none reads)
read_whole words (Trying t) before after reads whole none = whole

pub command_whole : (r : Result Status RunFault) (words : List (List ℕ)) (asked : Command) (before after : Option (List ℕ)) → ReadsAs words asked
    → IfOk r IsCompleted → EndsWhole r asked before after → WritesWhole words (status_after r) before after
command_whole (Ok status.Done) words asked before after reads is whole = (asked, reads, whole)
command_whole (Ok status.Floundered) words asked before after reads is whole = (asked, reads, whole)
command_whole (Ok status.Limit) words asked before after reads is whole = (asked, reads, whole)
command_whole (Ok status.Usage) words asked before after reads is whole = absurd is
command_whole (Ok status.Refused) words asked before after reads is whole = (asked, reads, whole)
command_whole (Ok status.Stopped) words asked before after reads is whole = (asked, reads, whole)
command_whole (Ok status.ReadFault) words asked before after reads is whole = absurd is
command_whole (Ok status.WriteFault) words asked before after reads is whole = absurd is
command_whole (Ok status.NoMemory) words asked before after reads is whole = absurd is
command_whole (Err fault.Read) words asked before after reads is whole = read_whole words asked before after reads whole
command_whole (Err fault.Write) words asked before after reads is whole = tt
command_whole (Err fault.NoMemory) words asked before after reads is whole = tt

-- ---- the library

-- a command that is no other one asks as much as that
pub asks_as : (one other : Command) → one ≡ other → AsksNothing other → AsksNothing one
asks_as one other same asks = subst (λ (c : Command). AsksNothing c) (sym same) asks

-- ---- statuses

pub done_is_solved : (r : Result Status RunFault) → IfOk r (λ answer. answer ≡ status.Done) → IfOk r IsCompleted
done_is_solved (Ok answer) is = subst IsCompleted (sym is) tt
done_is_solved (Err f) is = tt
