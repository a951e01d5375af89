-- What replies to the lines of a session, as its table tells it.
use Rattle.std.proofs.Common.{◌≡◌, ◌∙◌, ℕ, ◌≤◌, ◌-◌, ◌^◌, arith, List, ◌++◌, Option, None, Some, Result, Ok, Err, IfOk, IfSome, OnErr, OnOk, ap, codes, inl, inr, option_map, refl, string_bytes, subst, sym}
use Rattle.std.specs.Prelude.{◌⊎◌}
use Rattle.cu_front.specs.CompileAnswers.{FaultCount, TellsRefusal}
use Rattle.cu_front.specs.Compiling.{Folder, ModulesRefused}
use Rattle.cu_front.specs.Loaded.{AreLoaded, IsLoaded}
use Rattle.cu_front.specs.Refusal.{Refusal}
use Rattle.cu_front.specs.RefusalLine.{refusal_line}
use Rattle.cu_front.specs.RefusalMeaning.{refusal_meaning}
use Rattle.cu_front.specs.declared.fault.CompileFault.{CompileFault}
use Rattle.cu_front.specs.declared.fault.CompileFault.TheVariants as compile
use Rattle.cu_front.specs.declared.refusal.Refusal as code
use Rattle.cu_graph.specs.declared.store.Store.{Ghosts}
use Rattle.cu_io.specs.Holdings.{Holdings}
use Rattle.cu_io.specs.Rose.{Rose}
use Rattle.cu_machine.specs.Graph.{Graph}
use Rattle.cu_machine.specs.declared.SearchLimits.{SearchLimits}
use Rattle.cu_modules.specs.Ordering.{modules_of}
use Rattle.cu_search.specs.Rounds.{IsWorkerCount}
use Rattle.cu_search.specs.Standing.{Standing}
use Rattle.cu_session.specs.Answers.{BreaksOff, Gives}
use Rattle.cu_session.specs.declared.asker.Turn.{Turn}
use Rattle.cu_session.specs.declared.asker.Turn.TheVariants as turn
use Rattle.cu_words.specs.Requests.{Load, Quit, Request, Unknown, request_of}
use Rattle.cu_words.specs.Words.{AreInRange}
use Rattle.cu_cmd.proofs.SessionLemmas.{says_answers}
use Rattle.cu_cmd.specs.Inside.Conversations.{Answers, IsHeld, IsOpen, IsReady, Loads, Says, asking_of, session_folder, standing_in}
use Rattle.cu_cmd.specs.Inside.Conversations as inside
use Rattle.cu_cmd.specs.Replies.{Asking, IsDue, Replies, goes_on, load_refused, loaded, quits, unknown, with_module}
use Rattle.cu_cmd.specs.Replies as replies
use Rattle.cu_cmd.specs.declared.conversation.Conversation.{Conversation}
use Rattle.cu_cmd.specs.declared.conversation.LoadedModule.{LoadedModule}
use Rattle.cu_cmd.specs.declared.question.Question.{Question}

-- ---- what a session has, by its parts

abbrev an_asking : Folder → Option (List ℕ) → SearchLimits → Option Standing → Asking
an_asking folder a l p = record { folder = folder; loaded = a; limits = l; question = p }

asking_is : (folder : Folder) (a b : Option (List ℕ)) (l m : SearchLimits) (p q : Option Standing) → a ≡ b → l ≡ m → p ≡ q
    → an_asking folder a l p ≡ an_asking folder b m q
asking_is folder a b l m p q h k j = rw (h, k, j) refl

-- the count of faults does not fall
rose_up : (j k : ℕ) → j ≤ 2 ^ 64 - 1 → Rose j k → j ≤ k
rose_up j k bound (inl above) = omega (arith, above)
rose_up j k bound (inr top) = subst (λ (x : ℕ). j ≤ x) (sym top) bound

module _ {S : Type 0} {G : Ghosts S} (content : S → Graph) where
  -- what is told of a session over a library that tells what it holds
  abbrev pub HeldIn : Option Holdings → Conversation S G → Type 0
  HeldIn holdings c = IfSome holdings (λ (held : Holdings). IsHeld (session_folder held) c)

  abbrev pub state_in : Option Holdings → Conversation S G → Option Asking
  state_in holdings c = option_map (λ (held : Holdings). asking_of content (session_folder held) c) holdings

  -- ---- `quit`, and lines that nothing is known of

  pub quit_answers : (old : Conversation S G) (before after : List ℕ) → after ≡ before ++ codes "bye\n" → IsReady content old
      → Answers content Quit turn.Quit old old before after
  quit_answers old before after added ready = record {
    added = (codes "bye\n", added);
    ready = ready;
    held = λ folder is. is;
    gives = λ folder is. record {
      answer = quits (codes "bye\n") (asking_of content folder old);
      due = replies.left;
      added = added;
      turned = refl;
      left = refl;
    };
  }

  pub unknown_answers : (said : Turn) (old : Conversation S G) (before after : List ℕ) → Says said (codes "bad command\n") before after → IsReady content old
      → Answers content Unknown said old old before after
  unknown_answers said old before after says ready =
      says_answers content Unknown said old (codes "bad command\n") before after says ready (λ folder is. unknown)

  pub unknown_says : {E : Type 0} (r : Result Turn E) (old : Conversation S G) (before after : List ℕ)
      → IfOk r (λ (said : Turn). Says said (codes "bad command\n") before after) → IsReady content old
      → IfOk r (λ (said : Turn). Answers content Unknown said old old before after)
  unknown_says (Ok said) old before after says ready = unknown_answers said old before after says ready
  unknown_says (Err e) old before after says ready = tt

  -- ---- an answer, as an asker's

  pub gives_told : (holdings : Option Holdings) (request : Request) (line : List ℕ) (said : Turn) (old new : Conversation S G) (before after : List ℕ) (j k : ℕ)
      (s : Asking) → request ≡ request_of line → Answers content request said old new before after → HeldIn holdings old → state_in holdings old ≡ Some s
      → Gives (Replies s line) said before after (state_in holdings new) ⊎ BreaksOff said before after j k
  gives_told None request line said old new before after j k s is a held has = cc
  gives_told (Some holds) request line said old new before after j k s is a held has =
      let here : asking_of content (session_folder holds) old ≡ s = cc in
      inl
      (subst (λ (x : Asking). Gives (Replies x line) said before after (state_in (Some holds) new)) here
      (subst (λ (x : Request). Gives (IsDue (asking_of content (session_folder holds) old) x) said before after (state_in (Some holds) new)) is
      (a.gives (session_folder holds) held)))

  pub answers_told : {E : Type 0} (r : Result Turn E) (holdings : Option Holdings) (request : Request) (line : List ℕ) (old new : Conversation S G)
      (before after : List ℕ) (j k : ℕ) → request ≡ request_of line
      → IfOk r (λ (said : Turn). Answers content request said old new before after) → HeldIn holdings old
      → (s : Asking) → state_in holdings old ≡ Some s
      → IfOk r (λ (said : Turn). Gives (Replies s line) said before after (state_in holdings new) ⊎ BreaksOff said before after j k)
  answers_told (Ok said) holdings request line old new before after j k is a held s has =
      gives_told holdings request line said old new before after j k s is a held has
  answers_told (Err e) holdings request line old new before after j k is a held s has = tt

  held_in : (holdings : Option Holdings) (request : Request) (said : Turn) (old new : Conversation S G) (before after : List ℕ)
      → Answers content request said old new before after → HeldIn holdings old → HeldIn holdings new
  held_in None request said old new before after a held = tt
  held_in (Some holds) request said old new before after a held = a.held (session_folder holds) held

  pub answers_kept : {E T : Type 0} (r : Result Turn E) (holdings : Option Holdings) (request : Request) (old new : Conversation S G) (before after : List ℕ)
      → T → IfOk r (λ (said : Turn). Answers content request said old new before after) → HeldIn holdings old
      → OnOk r (T × IsReady content new × HeldIn holdings new)
  answers_kept (Ok said) holdings request old new before after t a held = (t, a.ready, held_in holdings request said old new before after a held)
  answers_kept (Err e) holdings request old new before after t a held = tt

  -- ---- `load`

  -- a module was loaded
  module _ (said : Turn) (old new : Conversation S G) (m : LoadedModule) (name before after : List ℕ) (says : Says said (codes "ok\n") before after)
      (has : new.loaded ≡ Some m) (limits : new.limits ≡ old.limits) (asks : new.question ≡ None) (is : string_bytes m.name ≡ name) where
    loaded_held : (folder : Folder) → AreLoaded folder name m.names m.modules → IsHeld folder new
    loaded_held folder are =
        subst (λ (x : Option LoadedModule). IfSome x (λ (y : LoadedModule). AreLoaded folder (string_bytes y.name) y.names y.modules)) (sym has)
        (subst (λ (x : List ℕ). AreLoaded folder x m.names m.modules) (sym is) are)

    loaded_gives : (folder : Folder) → AreLoaded folder name m.names m.modules
        → Gives (IsDue (asking_of content folder old) (Load name)) said before after (Some (asking_of content folder new))
    loaded_gives folder are = record {
      answer = goes_on (codes "ok\n") (with_module name (asking_of content folder old));
      due = loaded name (modules_of m.names m.modules.modules.items) are.compiled;
      added = says.added;
      turned = says.goes;
      left = ap Some
          (asking_is folder (option_map (λ (x : LoadedModule). string_bytes x.name) new.loaded) (Some name) new.limits old.limits
          (option_map (standing_in content) new.question) None
          (ap (option_map (λ (x : LoadedModule). string_bytes x.name)) has ∙ ap Some is) limits (ap (option_map (standing_in content)) asks));
    }

    loaded_told : (holdings : Option Holdings) → IfSome holdings (λ (held : Holdings). AreLoaded (session_folder held) name m.names m.modules)
        → IfSome holdings (λ (held : Holdings). IsHeld (session_folder held) old → IsHeld (session_folder held) new
        × Gives (IsDue (asking_of content (session_folder held) old) (Load name)) said before after (Some (asking_of content (session_folder held) new)))
    loaded_told None are = tt
    loaded_told (Some held) are = λ is_held. (loaded_held (session_folder held) are, loaded_gives (session_folder held) are)

    pub loaded_loads : (holdings : Option Holdings) (j k : ℕ) → IsReady content old → new.workers ≡ old.workers → IsLoaded m.names m.modules
        → IfSome holdings (λ (held : Holdings). AreLoaded (session_folder held) name m.names m.modules) → k ≡ j
        → Loads content holdings name said old new before after j k
    loaded_loads holdings j k ready workers right are count =
        inside.answers (codes "ok\n", says.added)
        (record {
          loaded = subst (λ (x : Option LoadedModule). IfSome x (λ (y : LoadedModule). IsLoaded y.names y.modules)) (sym has) right;
          limits = subst AreInRange (sym limits) ready.limits;
          workers = subst IsWorkerCount (sym workers) ready.workers;
          question = subst (λ (x : Option (Question S G)). IfSome x (IsOpen content)) (sym asks) tt;
        })
        (loaded_told holdings are) count

  pub loaded_says : {E : Type 0} (r : Result Turn E) (old new : Conversation S G) (m : LoadedModule) (name before after : List ℕ)
      (holdings : Option Holdings) (j k : ℕ) → IfOk r (λ (said : Turn). Says said (codes "ok\n") before after)
      → new.loaded ≡ Some m → new.limits ≡ old.limits → new.question ≡ None → new.workers ≡ old.workers → string_bytes m.name ≡ name
      → IsReady content old → IsLoaded m.names m.modules
      → IfSome holdings (λ (held : Holdings). AreLoaded (session_folder held) name m.names m.modules) → k ≡ j
      → IfOk r (λ (said : Turn). Loads content holdings name said old new before after j k)
  loaded_says (Ok said) old new m name before after holdings j k says has limits asks workers is ready right are count =
      loaded_loads said old new m name before after says has limits asks is holdings j k ready workers right are count
  loaded_says (Err e) old new m name before after holdings j k says has limits asks workers is ready right are count = tt

  -- a module was refused
  refused_told : (holdings : Option Holdings) (said : Turn) (old : Conversation S G) (name : List ℕ) (refusal : Refusal) (before after : List ℕ)
      → Says said (refusal_line refusal) before after → IfSome holdings (λ (held : Holdings). ModulesRefused (session_folder held) name refusal)
      → IfSome holdings (λ (held : Holdings). IsHeld (session_folder held) old → IsHeld (session_folder held) old
      × Gives (IsDue (asking_of content (session_folder held) old) (Load name)) said before after (Some (asking_of content (session_folder held) old)))
  refused_told None said old name refusal before after says refused = tt
  refused_told (Some held) said old name refusal before after says refused =
      let s = asking_of content (session_folder held) old in
      λ is_held. (
        is_held,
        record {
          answer = goes_on (refusal_line refusal) s;
          due = load_refused name refusal refused;
          added = says.added;
          turned = says.goes;
          left = refl;
        },
      )

  pub refused_loads : (holdings : Option Holdings) (said : Turn) (old : Conversation S G) (name : List ℕ) (refusal : Refusal) (before after : List ℕ) (j k : ℕ)
      → Says said (refusal_line refusal) before after → IsReady content old
      → IfSome holdings (λ (held : Holdings). ModulesRefused (session_folder held) name refusal) → k ≡ j
      → Loads content holdings name said old old before after j k
  refused_loads holdings said old name refusal before after j k says ready refused count =
      inside.answers (refusal_line refusal, says.added) ready (refused_told holdings said old name refusal before after says refused) count

  pub refused_says : {E : Type 0} (r : Result Turn E) (old : Conversation S G) (refusal : Refusal) (name before after : List ℕ)
      (holdings : Option Holdings) (j k : ℕ) → IfOk r (λ (said : Turn). Says said (refusal_line refusal) before after) → IsReady content old
      → IfSome holdings (λ (held : Holdings). ModulesRefused (session_folder held) name refusal) → k ≡ j
      → IfOk r (λ (said : Turn). Loads content holdings name said old old before after j k)
  refused_says (Ok said) old refusal name before after holdings j k says ready refused count =
      refused_loads holdings said old name refusal before after j k says ready refused count
  refused_says (Err e) old refusal name before after holdings j k says ready refused count = tt

  pub refused_so : {E : Type 0} (r : Result Turn E) (old : Conversation S G) (names : List (List ℕ)) (told : CompileFault) (refusal : code.Refusal)
      (name before after : List ℕ) (holdings : Option Holdings) (j k : ℕ) → told ≡ compile.Refused refusal
      → IfOk r (λ (said : Turn). Says said (refusal_line (refusal_meaning names refusal)) before after) → IsReady content old
      → IfSome holdings (λ (held : Holdings). TellsRefusal names (ModulesRefused (session_folder held) name) told) → FaultCount told j k
      → IfOk r (λ (said : Turn). Loads content holdings name said old old before after j k)
  refused_so r old names told refusal name before after holdings j k same says ready refused count =
      refused_says r old (refusal_meaning names refusal) name before after holdings j k says ready
      (subst (λ (x : CompileFault). IfSome holdings (λ (held : Holdings). TellsRefusal names (ModulesRefused (session_folder held) name) x)) same refused)
      (subst (λ (x : CompileFault). FaultCount x j k) same count)

  -- ---- the count of faults after `load`

  -- the count of faults does not fall
  count_so : (holdings : Option Holdings) (name : List ℕ) (said : Turn) (old new : Conversation S G) (before after : List ℕ) (j k : ℕ)
      → Loads content holdings name said old new before after j k → j ≤ 2 ^ 64 - 1 → j ≤ k
  count_so holdings name said old new before after j k (inside.answers more ready told count) bound = omega (arith, count)
  count_so holdings name said old new before after j k (inside.fails breaks same) bound = rose_up j k bound breaks.rose

  pub loads_count : {E : Type 0} (r : Result Turn E) (holdings : Option Holdings) (name : List ℕ) (old new : Conversation S G) (before after : List ℕ) (j k : ℕ)
      → IfOk r (λ (said : Turn). Loads content holdings name said old new before after j k) → OnErr r (k ≡ j) → j ≤ 2 ^ 64 - 1 → j ≤ k
  loads_count (Ok said) holdings name old new before after j k l same bound = count_so holdings name said old new before after j k l bound
  loads_count (Err e) holdings name old new before after j k l same bound = omega (arith, same)
