-- What a session has between two lines, after a reply.
use Rattle.std.proofs.Common.{◌≡◌, ◌∙◌, ℕ, List, ◌++◌, Option, None, Some, IfOk, IfSome, Result, Ok, Err, ap, append_assoc, codes, option_map, refl, string_bytes, subst, sym}
use Rattle.cu_calculus.specs.Code.{Code}
use Rattle.cu_calculus.specs.FlatProgram.{program_of}
use Rattle.cu_flat.specs.Layout.{laid_out}
use Rattle.cu_front.specs.Compiling.{Compiles, Folder, RequestRefused}
use Rattle.cu_front.specs.Loaded.{AreLoaded, IsLoaded}
use Rattle.cu_front.specs.Refusal.{Refusal}
use Rattle.cu_front.specs.RefusalLine.{refusal_line}
use Rattle.cu_front.specs.declared.runnable.Compiled.{Compiled}
use Rattle.cu_graph.specs.declared.store.Store.{Ghosts}
use Rattle.cu_kernel.specs.Kernel.{Goal, Kernel}
use Rattle.cu_machine.specs.Graph.{Graph}
use Rattle.cu_machine.specs.declared.SearchLimits.{SearchLimits}
use Rattle.cu_search.specs.Lines.{Notation}
use Rattle.cu_search.specs.NextLines.{ListsNext, NextLines, ends, has_lines, has_none}
use Rattle.cu_search.specs.Paused.{standing_of_paused}
use Rattle.cu_search.specs.Rounds.{IsWorkerCount}
use Rattle.cu_search.specs.Standing.{IsGoing, Standing, next_of, opened}
use Rattle.cu_search.specs.declared.fault.SearchFault.{SearchFault}
use Rattle.cu_search.specs.declared.paused.Paused.{Paused}
use Rattle.cu_search.specs.declared.search.Round.{Round}
use Rattle.cu_search.specs.declared.search.Round.TheVariants.{Going}
use Rattle.cu_session.specs.declared.asker.Turn.{Turn}
use Rattle.cu_values.specs.ProgramLabels.{labels_of}
use Rattle.cu_words.specs.Requests.{Ask, Limit, Next, Request, limits_with}
use Rattle.cu_words.specs.Words.{AreInRange}
use Rattle.cu_words.specs.declared.setting.Setting.{Setting}
use Rattle.cu_cmd.specs.Listings.{notation_of}
use Rattle.cu_cmd.specs.Inside.Conversations.{
  Answers,
  GoesOn,
  IsHeld,
  IsOpen,
  IsReady,
  ListsOn,
  Opens,
  Says,
  asking_of,
  notation_in,
  place_of,
  standing_in,
  variables_of,
}
use Rattle.cu_cmd.specs.Replies.{
  Asking,
  IsDue,
  asked,
  asked_for,
  goal_refused,
  goes_on,
  limited,
  listed,
  no_module,
  no_question,
  with_limits,
  with_question,
}
use Rattle.cu_cmd.specs.declared.conversation.Conversation.{Conversation}
use Rattle.cu_cmd.specs.declared.conversation.LoadedModule.{LoadedModule}
use Rattle.cu_cmd.specs.declared.question.Listed.{Listed}
use Rattle.cu_cmd.specs.declared.question.Pending.{Pending}
use Rattle.cu_cmd.specs.declared.question.Question.{Question}

-- what is so of an answer is so of it otherwise
pub if_ok : {A E : Type 0} {P Q : A → Type 0} (r : Result A E) → ((a : A) → P a → Q a) → IfOk r P → IfOk r Q
if_ok (Ok a) f p = f a p
if_ok (Err e) f p = tt

-- ---- places of searches

-- the names that the listing of a program's goal uses
pub notation_is : (names : List (List ℕ)) (program : Kernel) (goal : Goal) → Some goal ≡ program.goal
    → notation_of names program goal ≡ notation_in names program
notation_is names program goal is =
    ap (λ (g : Option Goal). record { labels = labels_of names program; variables = variables_of names g }) is

-- a paused search stands in one place, whatever its code and its names are called
pub paused_at : {S : Type 0} {G : Ghosts S} (content : S → Graph) (code other : Code) (notation shown : Notation) (paused : Paused S G) (s : Standing)
    → standing_of_paused content other shown paused ≡ s → s.code ≡ code → s.notation ≡ notation → standing_of_paused content code notation paused ≡ s
paused_at content code other notation shown paused s is c n =
    let same : other ≡ code = ap (λ (t : Standing). t.code) is ∙ c in
    let shows : shown ≡ notation = ap (λ (t : Standing). t.notation) is ∙ n in
    sym (ap (λ (k : Code). standing_of_paused content k notation paused) same) ∙ sym (ap (λ (m : Notation). standing_of_paused content other m paused) shows) ∙ is

-- the next lines keep the code and the names
pub next_keeps : (s : Standing) (bytes : List ℕ) (after : Option Standing) → NextLines s bytes after
    → IfSome after (λ (t : Standing). (t.code ≡ s.code) × (t.notation ≡ s.notation))
next_keeps _ _ _ (ends s bytes after end is b n) = subst (λ (x : Option Standing). IfSome x (λ (t : Standing). (t.code ≡ s.code) × (t.notation ≡ s.notation))) (sym n) tt
next_keeps _ _ _ (has_lines s bytes after is l b n) =
    subst (λ (x : Option Standing). IfSome x (λ (t : Standing). (t.code ≡ s.code) × (t.notation ≡ s.notation))) (sym n) (refl, refl)
next_keeps _ _ _ (has_none s bytes after is l more) = next_keeps (next_of s) bytes after more

-- two sessions with the same parts
abbrev an_asking : Folder → Option (List ℕ) → SearchLimits → Option Standing → Asking
an_asking folder a l p = record { folder = folder; loaded = a; limits = l; question = p }

asking_is : (folder : Folder) (a b : Option (List ℕ)) (l m : SearchLimits) (p q : Option Standing) → a ≡ b → l ≡ m → p ≡ q
    → an_asking folder a l p ≡ an_asking folder b m q
asking_is folder a b l m p q h k j = rw (h, k, j) refl

module _ {S : Type 0} {G : Ghosts S} (content : S → Graph) where
  -- the place of a paused search for a compiled goal
  pub place_is : (names : List (List ℕ)) (compiled : Compiled) (goal : Goal) (paused : Paused S G) → Some goal ≡ compiled.program.goal
      → standing_of_paused content compiled.flat (notation_of names compiled.program goal) paused ≡ place_of content names compiled paused
  place_is names compiled goal paused is =
      ap (λ (n : Notation). standing_of_paused content compiled.flat n paused) (notation_is names compiled.program goal is)

  -- a search that was opened for a compiled goal, and paused
  pub begun : (names : List (List ℕ)) (compiled : Compiled) (limits : SearchLimits) (given goal : Goal) (other : Code) (shown : Notation)
      (paused : Paused S G) (s : Standing)
      → standing_of_paused content other shown paused ≡ s → s ≡ opened compiled.flat (notation_of names compiled.program given) limits given.function
      → Some given ≡ compiled.program.goal → compiled.flat ≡ laid_out (program_of compiled.flat) → compiled.program.goal ≡ Some goal
      → place_of content names compiled paused ≡ asked_for limits names compiled.program (program_of compiled.flat) goal
  begun names compiled limits given goal other shown paused s at is has laid sought =
      let one : Some given ≡ Some goal = has ∙ sought in
      let same : given ≡ goal = cc in
      sym (place_is names compiled given paused has)
      ∙ paused_at content compiled.flat other (notation_of names compiled.program given) shown paused s at
      (ap (λ (t : Standing). t.code) is) (ap (λ (t : Standing). t.notation) is)
      ∙ is
      ∙ ap (λ (g : Goal). opened compiled.flat (notation_of names compiled.program g) limits g.function) same
      ∙ ap (λ (k : Code). opened k (notation_of names compiled.program goal) limits goal.function) laid

  pub begun_going : (names : List (List ℕ)) (compiled : Compiled) (limits : SearchLimits) (given : Goal) (other : Code) (shown : Notation)
      (paused : Paused S G) (s : Standing)
      → standing_of_paused content other shown paused ≡ s → s ≡ opened compiled.flat (notation_of names compiled.program given) limits given.function
      → Some given ≡ compiled.program.goal → IsGoing s → IsGoing (place_of content names compiled paused)
  begun_going names compiled limits given other shown paused s at is has going =
      subst IsGoing
      (sym (sym (place_is names compiled given paused has)
      ∙ paused_at content compiled.flat other (notation_of names compiled.program given) shown paused s at
      (ap (λ (t : Standing). t.code) is) (ap (λ (t : Standing). t.notation) is)))
      going

  -- ---- the next lines of a question

  -- a search goes on after its next lines, and is paused
  pub lists_on : (names : List (List ℕ)) (compiled : Compiled) (given : Goal) (paused later : Paused S G) (other : Code) (shown : Notation)
      (s t : Standing) (bytes before after : List ℕ)
      → Some given ≡ compiled.program.goal
      → s ≡ standing_of_paused content compiled.flat (notation_of names compiled.program given) paused
      → NextLines s bytes (Some t) → IsGoing t → Some after ≡ Some (before ++ bytes)
      → standing_of_paused content other shown later ≡ t
      → ListsOn content names compiled paused before after (Some later)
  lists_on names compiled given paused later other shown s t bytes before after has is lists going adds at =
      let place : s ≡ place_of content names compiled paused = is ∙ place_is names compiled given paused has in
      let kept = next_keeps s bytes (Some t) lists in
      let code : t.code ≡ compiled.flat = kept.0 ∙ ap (λ (x : Standing). x.code) is in
      let shows : t.notation ≡ notation_of names compiled.program given = kept.1 ∙ ap (λ (x : Standing). x.notation) is in
      let there : t ≡ place_of content names compiled later =
      sym (paused_at content compiled.flat other (notation_of names compiled.program given) shown later t at code shows)
      ∙ place_is names compiled given later has in
      record {
        bytes = bytes;
        lists = subst (λ (x : Standing). NextLines x bytes (Some (place_of content names compiled later))) place
            (subst (λ (x : Standing). NextLines s bytes (Some x)) there lists);
        added = cc;
        going = subst IsGoing there going;
      }

  -- what the search tells of its next lines, where it goes on after them
  pub lists_on_told : (names : List (List ℕ)) (compiled : Compiled) (given : Goal) (paused later : Paused S G) (other : Code) (shown : Notation)
      (s t : Standing) (r : Result Round SearchFault) (begun before after : List ℕ)
      → r ≡ Ok Going → ListsNext r s t (Some begun) (Some after) → begun ≡ before
      → Some given ≡ compiled.program.goal
      → s ≡ standing_of_paused content compiled.flat (notation_of names compiled.program given) paused
      → standing_of_paused content other shown later ≡ t
      → ListsOn content names compiled paused before after (Some later)
  lists_on_told names compiled given paused later other shown s t r begun before after is told same has at_first at =
      let next = subst (λ (x : Result Round SearchFault). ListsNext x s t (Some begun) (Some after)) is told in
      lists_on names compiled given paused later other shown s t next.0 before after has at_first next.1 next.2
      (next.3 ∙ ap (λ (b : List ℕ). Some (b ++ next.0)) same) at

  -- ---- replies

  -- what is due where a text was added and nothing changed
  pub says_answers : (request : Request) (turn : Turn) (old : Conversation S G) (text before after : List ℕ)
      → Says turn text before after → IsReady content old
      → ((folder : Folder) → IsHeld folder old → IsDue (asking_of content folder old) request (goes_on text (asking_of content folder old)))
      → Answers content request turn old old before after
  says_answers request turn old text before after says ready due = record {
    added = (text, says.added);
    ready = ready;
    held = λ folder is. is;
    gives = λ folder is. record {
      answer = goes_on text (asking_of content folder old);
      due = due folder is;
      added = says.added;
      turned = says.goes;
      left = refl;
    };
  }

  -- the name of the module that is loaded
  loaded_is : (folder : Folder) (old : Conversation S G) (m : LoadedModule) → old.loaded ≡ Some m
      → (asking_of content folder old).loaded ≡ Some (string_bytes m.name)
  loaded_is folder old m is = ap (option_map (λ (x : LoadedModule). string_bytes x.name)) is

  pub held_is : (folder : Folder) (old : Conversation S G) (m : LoadedModule) → old.loaded ≡ Some m → IsHeld folder old
      → AreLoaded folder (string_bytes m.name) m.names m.modules
  held_is folder old m is held =
      subst (λ (x : Option LoadedModule). IfSome x (λ (y : LoadedModule). AreLoaded folder (string_bytes y.name) y.names y.modules)) is held

  pub ready_question : (old : Conversation S G) (q : Question S G) → old.question ≡ Some q → IsReady content old → IsOpen content q
  ready_question old q is ready = subst (λ (x : Option (Question S G)). IfSome x (IsOpen content)) is ready.question

  -- `ask` where no module is loaded
  pub no_module_answers : (turn : Turn) (old : Conversation S G) (text before after : List ℕ) → old.loaded ≡ None
      → Says turn (codes "no module\n") before after → IsReady content old → Answers content (Ask text) turn old old before after
  no_module_answers turn old text before after is says ready =
      says_answers (Ask text) turn old (codes "no module\n") before after says ready
      (λ folder held. no_module text (ap (option_map (λ (x : LoadedModule). string_bytes x.name)) is))

  -- `ask` of a goal that is refused
  pub refused_answers : (turn : Turn) (old : Conversation S G) (m : LoadedModule) (text : List ℕ) (refusal : Refusal) (before after : List ℕ)
      → old.loaded ≡ Some m → Says turn (refusal_line refusal) before after → IsReady content old
      → ((folder : Folder) → AreLoaded folder (string_bytes m.name) m.names m.modules → RequestRefused folder (string_bytes m.name) text refusal)
      → Answers content (Ask text) turn old old before after
  refused_answers turn old m text refusal before after is says ready refused =
      says_answers (Ask text) turn old (refusal_line refusal) before after says ready
      (λ folder held. goal_refused (string_bytes m.name) text refusal (loaded_is folder old m is) (refused folder (held_is folder old m is held)))

  -- a session with the same module
  held_so : (folder : Folder) (old new : Conversation S G) → new.loaded ≡ old.loaded → IsHeld folder old → IsHeld folder new
  held_so folder old new is held =
      subst (λ (x : Option LoadedModule). IfSome x (λ (y : LoadedModule). AreLoaded folder (string_bytes y.name) y.names y.modules)) (sym is) held

  loaded_so : (old new : Conversation S G) → new.loaded ≡ old.loaded → IsReady content old
      → IfSome new.loaded (λ (y : LoadedModule). IsLoaded y.names y.modules)
  loaded_so old new is ready = subst (λ (x : Option LoadedModule). IfSome x (λ (y : LoadedModule). IsLoaded y.names y.modules)) (sym is) ready.loaded

  -- `ask` of a goal of which nothing is refused
  pub asked_answers : (turn : Turn) (old new : Conversation S G) (m : LoadedModule) (text : List ℕ) (names : List (List ℕ)) (compiled : Compiled)
      (goal : Goal) (before after : List ℕ)
      → old.loaded ≡ Some m → Opens content names compiled turn old new before after → IsReady content old → compiled.program.goal ≡ Some goal
      → ((folder : Folder) → AreLoaded folder (string_bytes m.name) m.names m.modules
      → Compiles folder (string_bytes m.name) text names compiled.program (program_of compiled.flat))
      → Answers content (Ask text) turn old new before after
  asked_answers turn old new m text names compiled goal before after is o ready has compiles =
      let place = o.place goal has in
      let search = asked_for old.limits names compiled.program (program_of compiled.flat) goal in
      let question : option_map (standing_in content) new.question ≡ Some search = ap (option_map (standing_in content)) o.asks ∙ ap Some place in
      record {
        added = (codes "ok\n", o.says.added);
        ready = record {
          loaded = loaded_so old new o.loaded ready;
          limits = subst AreInRange (sym o.limits) ready.limits;
          workers = subst IsWorkerCount (sym o.workers) ready.workers;
          question = subst (λ (x : Option (Question S G)). IfSome x (IsOpen content)) (sym o.asks) o.is_open;
        };
        held = λ folder held. held_so folder old new o.loaded held;
        gives = λ folder held. record {
          answer = goes_on (codes "ok\n") (with_question (Some search) (asking_of content folder old));
          due = asked (string_bytes m.name) text names compiled.program (program_of compiled.flat) goal (loaded_is folder old m is)
              (compiles folder (held_is folder old m is held)) has;
          added = o.says.added;
          turned = o.says.goes;
          left = ap Some
              (asking_is folder (option_map (λ (x : LoadedModule). string_bytes x.name) new.loaded) (option_map (λ (x : LoadedModule). string_bytes x.name) old.loaded)
              new.limits old.limits (option_map (standing_in content) new.question) (Some search)
              (ap (option_map (λ (x : LoadedModule). string_bytes x.name)) o.loaded) o.limits question);
        };
      }

  -- `next` where no question is open
  pub no_question_answers : (turn : Turn) (old : Conversation S G) (before after : List ℕ) → old.question ≡ None
      → Says turn (codes "no question\n") before after → IsReady content old → Answers content Next turn old old before after
  no_question_answers turn old before after is says ready =
      says_answers Next turn old (codes "no question\n") before after says ready
      (λ folder held. no_question (ap (option_map (standing_in content)) is))

  -- `next` of the open question
  pub listed_answers : (turn : Turn) (old new : Conversation S G) (pending : Pending S G) (done : Listed S G) (after : List ℕ)
      → old.question ≡ Some pending.question → GoesOn content pending done → Says turn (codes ".\n") done.reply.items after → IsReady content old
      → new.loaded ≡ old.loaded → new.limits ≡ old.limits → new.workers ≡ old.workers → new.question ≡ done.question
      → Answers content Next turn old new pending.reply.items after
  listed_answers turn old new pending done after is goes says ready loaded limits workers asks =
      let before = pending.reply.items in
      let reply = goes.bytes ++ codes ".\n" in
      let added : after ≡ before ++ reply =
      says.added ∙ ap (λ (x : List ℕ). x ++ codes ".\n") goes.added ∙ append_assoc before goes.bytes (codes ".\n") in
      let after_it = option_map (standing_in content) done.question in
      record {
        added = (reply, added);
        ready = record {
          loaded = loaded_so old new loaded ready;
          limits = subst AreInRange (sym limits) ready.limits;
          workers = subst IsWorkerCount (sym workers) ready.workers;
          question = subst (λ (x : Option (Question S G)). IfSome x (IsOpen content)) (sym asks) goes.is_open;
        };
        held = λ folder held. held_so folder old new loaded held;
        gives = λ folder held. record {
          answer = goes_on reply (with_question after_it (asking_of content folder old));
          due = listed (standing_in content pending.question) goes.bytes after_it (ap (option_map (standing_in content)) is) goes.lists;
          added = added;
          turned = says.goes;
          left = ap Some
              (asking_is folder (option_map (λ (x : LoadedModule). string_bytes x.name) new.loaded) (option_map (λ (x : LoadedModule). string_bytes x.name) old.loaded)
              new.limits old.limits (option_map (standing_in content) new.question) after_it
              (ap (option_map (λ (x : LoadedModule). string_bytes x.name)) loaded) limits (ap (option_map (standing_in content)) asks));
        };
      }

  -- `limits`
  pub limited_answers : (turn : Turn) (old new : Conversation S G) (setting : Setting) (before after : List ℕ)
      → Says turn (codes "ok\n") before after → IsReady content old → AreInRange new.limits → IsWorkerCount new.workers
      → new.loaded ≡ old.loaded → new.limits ≡ limits_with setting old.limits → new.question ≡ old.question
      → Answers content (Limit setting) turn old new before after
  limited_answers turn old new setting before after says ready range count loaded limits asks = record {
    added = (codes "ok\n", says.added);
    ready = record {
      loaded = loaded_so old new loaded ready;
      limits = range;
      workers = count;
      question = subst (λ (x : Option (Question S G)). IfSome x (IsOpen content)) (sym asks) ready.question;
    };
    held = λ folder held. held_so folder old new loaded held;
    gives = λ folder held. record {
      answer = goes_on (codes "ok\n") (with_limits (limits_with setting old.limits) (asking_of content folder old));
      due = limited setting;
      added = says.added;
      turned = says.goes;
      left = ap Some
          (asking_is folder (option_map (λ (x : LoadedModule). string_bytes x.name) new.loaded) (option_map (λ (x : LoadedModule). string_bytes x.name) old.loaded)
          new.limits (limits_with setting old.limits) (option_map (standing_in content) new.question) (option_map (standing_in content) old.question)
          (ap (option_map (λ (x : LoadedModule). string_bytes x.name)) loaded) limits (ap (option_map (standing_in content)) asks));
    };
  }
