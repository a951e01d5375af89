-- What a session wrote, as its report or a prefix of it.
use Rattle.std.proofs.Common.{◌≡◌, ◌∙◌, ◌↔◌, ℕ, Bool, true, false, List, [], ◌∷◌, ◌++◌, Option, None, Some, Result, Ok, Err, IfOk, IfSome, IsTrue, ap, append_assoc, inl, inr, option_map, refl, subst, sym}
use Rattle.std.proofs.lemmas.Bool.{true≢false}
use Rattle.std.proofs.lemmas.List.{append-nil}
use Rattle.std.specs.List.{concat}
use Rattle.std.specs.Prelude.{◌⊎◌, IsErr}
use Rattle.std.specs.Result.{IsErrAnd}
use Rattle.std.specs.declared.alloc.AllocError.{AllocError}
use Rattle.cu_front.specs.Compiling.{Folder}
use Rattle.cu_io.specs.Rose.{Rose}
use Rattle.cu_search.proofs.WrittenLemmas as written
use Rattle.cu_search.specs.Written.{Adds, AddsPrefix}
use Rattle.cu_io.specs.Holdings.{Holdings}
use Rattle.cu_session.specs.Ends.{AskerCount, SinkCount, SourceCount, WritesBegun, WritesPrefix, WritesWhole}
use Rattle.cu_session.specs.Ends as session
use Rattle.cu_session.specs.Lines.{lines_of}
use Rattle.cu_session.specs.declared.end.SessionEnd.{SessionEnd}
use Rattle.cu_session.specs.declared.end.SessionEnd.TheVariants as end
use Rattle.cu_cmd.specs.Causes.{Counts}
use Rattle.cu_cmd.specs.Inside.Conversations.{session_folder}
use Rattle.cu_cmd.specs.Inside.Runs.{Ends, HasCommandCause, HasWriteCause}
use Rattle.cu_cmd.specs.Inside.Served.{HasCounts, Served}
use Rattle.cu_cmd.specs.Replies.{Asking, Replies, fresh}
use Rattle.cu_cmd.specs.Sessions.{SessionReport, answered, broke_off, left, too_long, too_long_line}
use Rattle.cu_cmd.specs.Written as report
use Rattle.cu_cmd.specs.declared.fault.RunFault.{RunFault}
use Rattle.cu_cmd.specs.declared.fault.RunFault.TheVariants as fault
use Rattle.cu_cmd.specs.declared.status.Status.{Status}
use Rattle.cu_cmd.specs.declared.status.Status.TheVariants as status

module _ (folder : Folder) (text : List ℕ) (before : Option (List ℕ)) where
  -- all lines were answered
  pub answered_ends : (after : Option (List ℕ)) → WritesWhole Replies (fresh folder) (lines_of text) end.EndOfInput before after
      → Ends (Ok status.Done) (SessionReport folder text) before after
  answered_ends after w = record { written = w.replies; is_report = answered w.replies w.session; adds = w.written }

  -- a line quit
  pub left_ends : (after : Option (List ℕ)) (j k : ℕ)
      → WritesWhole Replies (fresh folder) (lines_of text) end.Quit before after
      ⊎ (Rose j k × WritesBegun Replies (fresh folder) (lines_of text) before after)
      → (Rose j k → ⊥) → Ends (Ok status.Done) (SessionReport folder text) before after
  left_ends after j k (inl w) stands = record { written = w.replies; is_report = left w.replies w.session; adds = w.written }
  left_ends after j k (inr w) stands = absurd (stands w.0)

  -- the session broke off after whole replies
  pub begun_ends : (after : Option (List ℕ)) (broke : RunFault) → WritesBegun Replies (fresh folder) (lines_of text) before after
      → Ends (Err broke) (SessionReport folder text) before after
  begun_ends after broke w =
      report.prefix w.replies status.NoMemory (broke_off w.replies status.NoMemory w.begins tt)
      (written.whole_prefix before after (concat w.replies) w.written)

  -- the session broke off
  pub broken_ends : (after : Option (List ℕ)) (broke : RunFault) → WritesPrefix Replies (fresh folder) (lines_of text) before after
      → Ends (Err broke) (SessionReport folder text) before after
  broken_ends after broke w =
      report.prefix w.replies status.NoMemory (broke_off w.replies status.NoMemory w.begins tt) w.written

  -- a line quit, and the library may have failed
  pub quit_breaks : (after : Option (List ℕ)) (j k : ℕ) (broke : RunFault)
      → WritesWhole Replies (fresh folder) (lines_of text) end.Quit before after
      ⊎ (Rose j k × WritesBegun Replies (fresh folder) (lines_of text) before after)
      → Ends (Err broke) (SessionReport folder text) before after
  quit_breaks after j k broke (inl w) =
      report.prefix w.replies status.Done (left w.replies w.session) (written.whole_prefix before after (concat w.replies) w.written)
  quit_breaks after j k broke (inr w) = begun_ends after broke w.1

  concat_last : (xs : List (List ℕ)) (line : List ℕ) → concat xs ++ line ≡ concat (xs ++ line ∷ [])
  concat_last [] line = sym (append-nil line)
  concat_last (x ∷ xs) line = append_assoc x (concat xs) line ∙ ap (λ (ys : List ℕ). x ++ ys) (concat_last xs line)

  -- a line was too long
  pub long_ends : (mid after : Option (List ℕ)) → WritesWhole Replies (fresh folder) (lines_of text) end.LineTooLong before mid
      → Adds mid after too_long_line → Ends (Ok status.Done) (SessionReport folder text) before after
  long_ends mid after w adds = record {
    written = w.replies ++ too_long_line ∷ [];
    is_report = too_long w.replies w.session;
    adds = subst (Adds before after) (concat_last w.replies too_long_line)
        (written.Adds-append before mid after (concat w.replies) too_long_line w.written adds);
  }

  -- a line was too long, and its line could not be written
  pub long_breaks : (mid after : Option (List ℕ)) (broke : RunFault) → WritesWhole Replies (fresh folder) (lines_of text) end.LineTooLong before mid
      → AddsPrefix mid after too_long_line → Ends (Err broke) (SessionReport folder text) before after
  long_breaks mid after broke w part =
      let whole = concat w.replies ++ too_long_line in
      report.prefix (w.replies ++ too_long_line ∷ []) status.Done (too_long w.replies w.session)
      (subst (AddsPrefix before after) (concat_last w.replies too_long_line)
      (written.prefix before mid after whole too_long_line
      (record { done = concat w.replies; told = w.written; joined = refl }) part))

-- ---- how a run ends

module _ (served : Result SessionEnd AllocError) (folder : Folder) (text : List ℕ) (j k : ℕ) (before mid : Option (List ℕ)) (w : Served served folder text j k before mid) where
  -- what was written, by how the session ended
  whole_so : (said one : SessionEnd) → served ≡ Ok said → said ≡ one → session.Ends one Replies (fresh folder) (lines_of text) j k before mid
  whole_so said one is same =
      subst (λ (r : Result SessionEnd AllocError). IfOk r (λ s. session.Ends s Replies (fresh folder) (lines_of text) j k before mid)) (is ∙ ap Ok same) w.whole

  pub at_end : (said : SessionEnd) → served ≡ Ok said → said ≡ end.EndOfInput → Ends (Ok status.Done) (SessionReport folder text) before mid
  at_end said is same = answered_ends folder text before mid (whole_so said end.EndOfInput is same)

  pub at_quit : (said : SessionEnd) (failed : Bool) → served ≡ Ok said → said ≡ end.Quit → failed ≡ false → (IsTrue failed ↔ Rose j k)
      → Ends (Ok status.Done) (SessionReport folder text) before mid
  at_quit said failed is same stands rose =
      left_ends folder text before mid j k (whole_so said end.Quit is same)
      (λ above. true≢false (sym (rose.1 above) ∙ stands))

  pub at_failed_load : (said : SessionEnd) → served ≡ Ok said → said ≡ end.Quit → Ends (Err fault.Read) (SessionReport folder text) before mid
  at_failed_load said is same = quit_breaks folder text before mid j k fault.Read (whole_so said end.Quit is same)

  pub at_read_fault : (said : SessionEnd) → served ≡ Ok said → said ≡ end.ReadFault → Ends (Err fault.Read) (SessionReport folder text) before mid
  at_read_fault said is same = begun_ends folder text before mid fault.Read (whole_so said end.ReadFault is same)

  pub at_fault : (r : Result Status RunFault) → IsErr r → Ends r (SessionReport folder text) before mid
  at_fault (Ok found) failed = absurd (true≢false (sym failed))
  at_fault (Err broke) failed = broken_ends folder text before mid broke w.prefix

  pub at_long_line : (said : SessionEnd) (after : Option (List ℕ)) → served ≡ Ok said → said ≡ end.LineTooLong → Adds mid after too_long_line
      → Ends (Ok status.Done) (SessionReport folder text) before after
  at_long_line said after is same adds = long_ends folder text before mid after (whole_so said end.LineTooLong is same) adds

  pub at_long_fault : (said : SessionEnd) (after : Option (List ℕ)) (r : Result Status RunFault) → IsErr r → served ≡ Ok said → said ≡ end.LineTooLong
      → AddsPrefix mid after too_long_line → Ends r (SessionReport folder text) before after
  at_long_fault said after (Ok found) failed is same part = absurd (true≢false (sym failed))
  at_long_fault said after (Err broke) failed is same part = long_breaks folder text before mid after broke (whole_so said end.LineTooLong is same) part

-- ---- causes

counts_so : (j k m n p q : ℕ) → k ≡ j → n ≡ m → q ≡ p
    → ◌≡◌ {A = Counts} (record { library = k; input = n; output = q }) (record { library = j; input = m; output = p })
counts_so j k m n p q library input output = rw (library, input, output) refl

module _ (served : Result SessionEnd AllocError) (old new : Counts) (l : ℕ) (h : HasCounts served old new) (out : new.output ≡ l) where
  -- the counts of a session, by how it ended
  asker_so : (said one : SessionEnd) → served ≡ Ok said → said ≡ one → AskerCount {E = AllocError} (Ok one) old.library new.library
  asker_so said one is same = subst (λ (r : Result SessionEnd AllocError). AskerCount r old.library new.library) (is ∙ ap Ok same) h.asker

  source_so : (said one : SessionEnd) → served ≡ Ok said → said ≡ one → SourceCount {E = AllocError} (Ok one) old.input new.input
  source_so said one is same = subst (λ (r : Result SessionEnd AllocError). SourceCount r old.input new.input) (is ∙ ap Ok same) h.source

  sink_so : (said one : SessionEnd) → served ≡ Ok said → said ≡ one → SinkCount {E = AllocError} (Ok one) old.output new.output
  sink_so said one is same = subst (λ (r : Result SessionEnd AllocError). SinkCount r old.output new.output) (is ∙ ap Ok same) h.sink

  pub end_cause : (said : SessionEnd) → served ≡ Ok said → said ≡ end.EndOfInput
      → HasCommandCause (Ok status.Done) old (record new { output = l })
  end_cause said is same =
      counts_so old.library new.library old.input new.input old.output l (asker_so said end.EndOfInput is same) (source_so said end.EndOfInput is same)
      (sym out ∙ sink_so said end.EndOfInput is same)

  stood : (said : SessionEnd) → served ≡ Ok said → said ≡ end.Quit → (Rose old.library new.library → ⊥) → new.library ≡ old.library
  stood said is same stands = elim (asker_so said end.Quit is same) [ inl e ↦ e | inr above ↦ absurd (stands above) ]

  pub left_cause : (said : SessionEnd) (failed : Bool) → served ≡ Ok said → said ≡ end.Quit → failed ≡ false
      → (IsTrue failed ↔ Rose old.library new.library) → HasCommandCause (Ok status.Done) old (record new { output = l })
  left_cause said failed is same stands rose =
      counts_so old.library new.library old.input new.input old.output l (stood said is same (λ above. true≢false (sym (rose.1 above) ∙ stands)))
      (source_so said end.Quit is same) (sym out ∙ sink_so said end.Quit is same)

  pub load_cause : (said : SessionEnd) (failed : Bool) → served ≡ Ok said → said ≡ end.Quit → failed ≡ true
      → (IsTrue failed ↔ Rose old.library new.library) → HasCommandCause (Err fault.Read) old (record new { output = l })
  load_cause said failed is same rises rose = (inl (rose.0 rises), sym out ∙ sink_so said end.Quit is same)

  pub read_cause : (said : SessionEnd) → served ≡ Ok said → said ≡ end.ReadFault → HasCommandCause (Err fault.Read) old (record new { output = l })
  read_cause said is same = (inr (source_so said end.ReadFault is same), sym out ∙ sink_so said end.ReadFault is same)

  pub write_cause : (said : SessionEnd) → served ≡ Ok said → said ≡ end.WriteFault → HasCommandCause (Err fault.Write) old (record new { output = l })
  write_cause said is same = (
    subst (λ (n : ℕ). Rose old.output n) out (sink_so said end.WriteFault is same),
    asker_so said end.WriteFault is same,
    source_so said end.WriteFault is same,
  )

  pub memory_cause : (e : AllocError) (r : Result Status RunFault) → served ≡ Err e → IsErrAnd r (λ g. g ≡ fault.NoMemory)
      → HasCommandCause r old (record new { output = l })
  memory_cause e (Ok found) is failed = absurd failed
  memory_cause e (Err f) is failed =
      subst (λ (g : RunFault). HasCommandCause (Err g) old (record new { output = l })) (sym failed)
      (counts_so old.library new.library old.input new.input old.output l
      (subst (λ (r : Result SessionEnd AllocError). AskerCount r old.library new.library) is h.asker)
      (subst (λ (r : Result SessionEnd AllocError). SourceCount r old.input new.input) is h.source)
      (sym out ∙ subst (λ (r : Result SessionEnd AllocError). SinkCount r old.output new.output) is h.sink))

written_cause : (j k m n p q l : ℕ) (broke : RunFault) → k ≡ j → n ≡ m → q ≡ p → HasWriteCause {A = Unit {0}} (Err broke) q l
    → HasCommandCause (Err broke) (record { library = j; input = m; output = p }) (record { library = k; input = n; output = l })
written_cause j k m n p q l fault.Read library input mid cause = absurd cause
written_cause j k m n p q l fault.Write library input mid cause = (subst (λ (x : ℕ). Rose x l) mid cause, library, input)
written_cause j k m n p q l fault.NoMemory library input mid cause = counts_so j k m n p l library input (cause ∙ mid)

-- a line was too long, and the line that says it was written or not
pub long_cause : (served : Result SessionEnd AllocError) (old new : Counts) (q l : ℕ) → HasCounts served old new → new.output ≡ q → (said : SessionEnd)
    → served ≡ Ok said → said ≡ end.LineTooLong → l ≡ q → HasCommandCause (Ok status.Done) old (record new { output = l })
long_cause served old new q l h out said is same stands =
    counts_so old.library new.library old.input new.input old.output l (asker_so served old new q h out said end.LineTooLong is same)
    (source_so served old new q h out said end.LineTooLong is same) (stands ∙ sym out ∙ sink_so served old new q h out said end.LineTooLong is same)

pub long_fault_cause : (served : Result SessionEnd AllocError) (old new : Counts) (q l : ℕ) → HasCounts served old new → new.output ≡ q → (said : SessionEnd)
    (broke : RunFault) (r : Result Status RunFault) → served ≡ Ok said → said ≡ end.LineTooLong → IsErrAnd r (λ g. g ≡ broke)
    → HasWriteCause {A = Unit {0}} (Err broke) q l → HasCommandCause r old (record new { output = l })
long_fault_cause served old new q l h out said broke (Ok found) is same failed cause = absurd failed
long_fault_cause served old new q l h out said broke (Err f) is same failed cause =
    written_cause old.library new.library old.input new.input old.output q l f (asker_so served old new q h out said end.LineTooLong is same)
    (source_so served old new q h out said end.LineTooLong is same) (sym out ∙ sink_so served old new q h out said end.LineTooLong is same)
    (subst (λ (g : RunFault). HasWriteCause {A = Unit {0}} (Err g) q l) (sym failed) cause)

-- ---- whatever the library tells

pub rose_as : (failed : Bool) (j k m n : ℕ) → m ≡ j → n ≡ k → (IsTrue failed ↔ Rose m n) → (IsTrue failed ↔ Rose j k)
rose_as failed j k m n before after h = subst (λ (x : ℕ). IsTrue failed ↔ Rose x k) before (subst (λ (x : ℕ). IsTrue failed ↔ Rose m x) after h)

-- a session over a library that tells what it holds was served from a fresh session on
pub served_held : (holdings : Option Holdings) (remaining : Option (List ℕ)) (asks : Folder → Asking) (served : Result SessionEnd AllocError) (j k l : ℕ)
    (before after : Option (List ℕ)) → k ≡ l → ((folder : Folder) → asks folder ≡ fresh folder)
    → ((text : List ℕ) (state : Asking) → remaining ≡ Some text → option_map (λ held. asks (session_folder held)) holdings ≡ Some state
    → IfOk served (λ said. session.Ends said Replies state (lines_of text) j k before after))
    → ((text : List ℕ) (state : Asking) → remaining ≡ Some text → option_map (λ held. asks (session_folder held)) holdings ≡ Some state
    → WritesPrefix Replies state (lines_of text) before after)
    → IfSome holdings (λ held. (text : List ℕ) → remaining ≡ Some text → Served served (session_folder held) text j l before after)
served_held None remaining asks served j k l before after count new whole prefix = tt
served_held (Some held) remaining asks served j k l before after count new whole prefix = λ text is.
    let folder = session_folder held in
    let told : ◌≡◌ {A = Option Asking} (Some (asks folder)) (Some (fresh folder)) = ap Some (new folder) in
    subst (λ (n : ℕ). Served served folder text j n before after) count
    (record {
      whole = whole text (fresh folder) is told;
      prefix = prefix text (fresh folder) is told;
    })

-- how a run ends, by what was served
pub run_held : (holdings : Option Holdings) (remaining : Option (List ℕ)) (served : Result SessionEnd AllocError) (r : Result Status RunFault) (j k : ℕ)
    (before mid after : Option (List ℕ))
    → IfSome holdings (λ held. (text : List ℕ) → remaining ≡ Some text → Served served (session_folder held) text j k before mid)
    → ((folder : Folder) (text : List ℕ) → Served served folder text j k before mid → Ends r (SessionReport folder text) before after)
    → IfSome holdings (λ held. (text : List ℕ) → remaining ≡ Some text → Ends r (SessionReport (session_folder held) text) before after)
run_held None remaining served r j k before mid after told ends = tt
run_held (Some held) remaining served r j k before mid after told ends = λ text is. ends (session_folder held) text (told text is)
