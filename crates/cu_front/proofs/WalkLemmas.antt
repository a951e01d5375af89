-- Answers for faults of the walk over the modules.
use Rattle.std.proofs.Common.{◌≡◌, ℕ, List, Option, None, Some, Ok, Err, IfSome, inl, inr, sym, subst}
use Rattle.cu_io.specs.Holdings.{Holdings}
use Rattle.cu_modules.specs.declared.fault.OrderFault.{OrderFault}
use Rattle.cu_modules.specs.declared.fault.OrderFault.TheVariants as order
use Rattle.cu_modules.specs.Ordering as ordering
use Rattle.cu_modules.specs.Scopes.{Named}
use Rattle.cu_modules.specs.Walk as walk
use Rattle.cu_modules.specs.Walk.{Walk}
use Rattle.cu_front.specs.CompileAnswers.{AnswerIsKnown, FaultCount, TellsRefusal}
use Rattle.cu_front.specs.Compiling as meant
use Rattle.cu_front.specs.Compiling.{Folder, RequestRefused}
use Rattle.cu_front.specs.declared.fault.CompileFault.{CompileFault}
use Rattle.cu_front.specs.declared.fault.StageFault.{StageFault}
use Rattle.cu_front.specs.declared.fault.StageFault.TheVariants as stage
use Rattle.cu_front.specs.declared.refusal.Refusal as code
use Rattle.cu_front.specs.Inside.Stages.{IsToldIf, IsWalkAnswer, answer_of}
use Rattle.cu_front.specs.Refusal.{Refusal, Walked}
use Rattle.cu_front.specs.RefusalMeaning.{RefusalIsKnown, refusal_meaning}
use Rattle.cu_front.specs.Inside.StageFaults.{Tells}
use Rattle.cu_front.proofs.RunLemmas.{tells_weaker}

-- ---- what is told

told_if : (Known : Type 0) (names : List (List ℕ)) (refusal : code.Refusal) (result : CompileFault) (P : Refusal → Type 0)
    → IsToldIf Known refusal result → P (refusal_meaning names refusal) → TellsRefusal names P result
told_if Known names refusal result P (inl is) told = subst (TellsRefusal names P) (sym is.0) told
told_if Known names refusal result P (inr is) told = subst (TellsRefusal names P) (sym is) tt

walk_by : (names : List (List ℕ)) (held : Folder) (root : List ℕ) (P : Refusal → Type 0)
    → ((refusal : walk.Refusal) → Walk held root (Err refusal) → P (Walked refusal)) → (fault : OrderFault) (result : CompileFault)
    → IsWalkAnswer names fault result → ordering.Tells names (λ refusal. Walk held root (Err refusal)) fault → TellsRefusal names P result
walk_by names held root P by (order.MissingModule id) result is told = told_if _ names _ result P is (by _ told)
walk_by names held root P by (order.SourceTooBig id) result is told = told_if _ names _ result P is (by _ told)
walk_by names held root P by (order.NotUtf8 id offset) result is told = told_if _ names _ result P is (by _ told)
walk_by names held root P by (order.BadToken place) result is told = told_if _ names _ result P is (by _ told)
walk_by names held root P by (order.LiteralRange place) result is told = told_if _ names _ result P is (by _ told)
walk_by names held root P by (order.TooDeep place) result is told = told_if _ names _ result P is (by _ told)
walk_by names held root P by (order.TooLong id line) result is told = told_if _ names _ result P is (by _ told)
walk_by names held root P by (order.Syntax id line) result is told = told_if _ names _ result P is (by _ told)
walk_by names held root P by (order.HeaderName id) result is told = told_if _ names _ result P is (by _ told)
walk_by names held root P by (order.ImportCycle ids) result is told = told_if _ names _ result P is (by _ told)
walk_by names held root P by (order.TooManyModules id) result is told = told_if _ names _ result P is (by _ told)
walk_by names held root P by order.Fetch result is told = subst (TellsRefusal names P) (sym is) tt
walk_by names held root P by order.NoMemory result is told = subst (TellsRefusal names P) (sym is) tt

-- by a property that refusals of the walk have
pub walk_told : (names : List (List ℕ)) (o : Option Holdings) (folder root : List ℕ) (P : Folder → Refusal → Type 0)
    → ((held : Folder) (refusal : walk.Refusal) → Walk held root (Err refusal) → P held (Walked refusal)) → (fault : OrderFault)
    (result : CompileFault) → IsWalkAnswer names fault result
    → IfSome o (λ held. ordering.Tells names (λ refusal. Walk (held.module_at folder) root (Err refusal)) fault)
    → IfSome o (λ held. TellsRefusal names (P (held.module_at folder)) result)
walk_told names None folder root P by fault result is told = tt
walk_told names (Some held) folder root P by fault result is told =
    let at = held.module_at folder in walk_by names at root (P at) (by at) fault result is told

pub walk_refuses : (root text : List ℕ) (held : Folder) (refusal : walk.Refusal) → Walk held root (Err refusal)
    → RequestRefused held root text (Walked refusal)
walk_refuses root text held refusal is = meant.RequestRefused.by_modules (Walked refusal) (meant.ModulesRefused.walk refusal is)

-- ---- known names

known_if : (names : List (List ℕ)) (refusal : code.Refusal) (result : CompileFault) → IsToldIf (RefusalIsKnown names refusal) refusal result
    → AnswerIsKnown names result
known_if names refusal result (inl is) = subst (AnswerIsKnown names) (sym is.0) is.1
known_if names refusal result (inr is) = subst (AnswerIsKnown names) (sym is) tt

pub walk_known : (names : List (List ℕ)) (fault : OrderFault) (result : CompileFault) → IsWalkAnswer names fault result → AnswerIsKnown names result
walk_known names (order.MissingModule id) result is = known_if names _ result is
walk_known names (order.SourceTooBig id) result is = known_if names _ result is
walk_known names (order.NotUtf8 id offset) result is = known_if names _ result is
walk_known names (order.BadToken place) result is = known_if names _ result is
walk_known names (order.LiteralRange place) result is = known_if names _ result is
walk_known names (order.TooDeep place) result is = known_if names _ result is
walk_known names (order.TooLong id line) result is = known_if names _ result is
walk_known names (order.Syntax id line) result is = known_if names _ result is
walk_known names (order.HeaderName id) result is = known_if names _ result is
walk_known names (order.ImportCycle ids) result is = known_if names _ result is
walk_known names (order.TooManyModules id) result is = known_if names _ result is
walk_known names order.Fetch result is = subst (AnswerIsKnown names) (sym is) tt
walk_known names order.NoMemory result is = subst (AnswerIsKnown names) (sym is) tt

-- ---- counts of faults

count_if : (Known : Type 0) (refusal : code.Refusal) (result : CompileFault) (old new : ℕ) → IsToldIf Known refusal result → new ≡ old
    → FaultCount result old new
count_if Known refusal result old new (inl is) same = subst (λ r. FaultCount r old new) (sym is.0) same
count_if Known refusal result old new (inr is) same = subst (λ r. FaultCount r old new) (sym is) same

pub walk_counts : (names : List (List ℕ)) (fault : OrderFault) (result : CompileFault) (old new : ℕ) → IsWalkAnswer names fault result
    → ordering.FaultCount fault old new → FaultCount result old new
walk_counts names (order.MissingModule id) result old new is same = count_if _ _ result old new is same
walk_counts names (order.SourceTooBig id) result old new is same = count_if _ _ result old new is same
walk_counts names (order.NotUtf8 id offset) result old new is same = count_if _ _ result old new is same
walk_counts names (order.BadToken place) result old new is same = count_if _ _ result old new is same
walk_counts names (order.LiteralRange place) result old new is same = count_if _ _ result old new is same
walk_counts names (order.TooDeep place) result old new is same = count_if _ _ result old new is same
walk_counts names (order.TooLong id line) result old new is same = count_if _ _ result old new is same
walk_counts names (order.Syntax id line) result old new is same = count_if _ _ result old new is same
walk_counts names (order.HeaderName id) result old new is same = count_if _ _ result old new is same
walk_counts names (order.ImportCycle ids) result old new is same = count_if _ _ result old new is same
walk_counts names (order.TooManyModules id) result old new is same = count_if _ _ result old new is same
walk_counts names order.Fetch result old new is same = subst (λ r. FaultCount r old new) (sym is) same
walk_counts names order.NoMemory result old new is same = subst (λ r. FaultCount r old new) (sym is) same

-- ---- the stages after the walk

stage_by : (names : List (List ℕ)) (P : Refusal → Type 0) (fault : StageFault) → Tells names P fault → TellsRefusal names P (answer_of fault)
stage_by names P (stage.Refused refusal) told = told.0
stage_by names P stage.NoMemory told = tt

pub stage_told : (names : List (List ℕ)) (o : Option Holdings) (folder root : List ℕ) (P : Folder → Refusal → Type 0) (modules : List Named)
    (fault : StageFault) (result : CompileFault) → result ≡ answer_of fault → IfSome o (λ held. Walk (held.module_at folder) root (Ok modules))
    → Tells names (λ refusal. (held : Folder) → Walk held root (Ok modules) → P held refusal) fault
    → IfSome o (λ held. TellsRefusal names (P (held.module_at folder)) result)
stage_told names None folder root P modules fault result is walked told = tt
stage_told names (Some held) folder root P modules fault result is walked told =
    let at = held.module_at folder in
    subst (TellsRefusal names (P at)) (sym is)
    (stage_by names (P at) fault
    (tells_weaker names (λ refusal. (h : Folder) → Walk h root (Ok modules) → P h refusal) (P at) fault (λ refusal all. all at walked) told))

pub stage_comes : (o : Option Holdings) (folder root : List ℕ) (P : Folder → Type 0) (modules : List Named)
    → IfSome o (λ held. Walk (held.module_at folder) root (Ok modules)) → ((held : Folder) → Walk held root (Ok modules) → P held)
    → IfSome o (λ held. P (held.module_at folder))
stage_comes None folder root P modules walked all = tt
stage_comes (Some held) folder root P modules walked all = all (held.module_at folder) walked

pub stage_known : (names : List (List ℕ)) (P : Refusal → Type 0) (fault : StageFault) (result : CompileFault) → result ≡ answer_of fault
    → Tells names P fault → AnswerIsKnown names result
stage_known names P (stage.Refused refusal) result is told = subst (AnswerIsKnown names) (sym is) told.1
stage_known names P stage.NoMemory result is told = subst (AnswerIsKnown names) (sym is) tt

pub stage_counts : (fault : StageFault) (result : CompileFault) (old new : ℕ) → result ≡ answer_of fault → new ≡ old → FaultCount result old new
stage_counts (stage.Refused refusal) result old new is same = subst (λ r. FaultCount r old new) (sym is) same
stage_counts stage.NoMemory result old new is same = subst (λ r. FaultCount r old new) (sym is) same
