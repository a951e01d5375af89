-- A library in memory.
use Rattle.std.specs.Prelude.{◌≡◌, ℕ, Bool, ◌&&◌, List, ◌∷◌, Option, None, Some, take, find}
use Rattle.std.specs.Option.{option_map}
use Rattle.std.specs.Str.{bytes_eq}
use Rattle.cu_io.specs.declared.library.Fetched.{Fetched}
use Rattle.cu_io.specs.declared.library.Fetched.TheVariants.{Absent, Text}
use Rattle.cu_io.specs.declared.calls.Calls.{Calls}
use Rattle.cu_io.specs.Calls.{counted, is_listed}
use Rattle.cu_io.specs.Fetches.{max_fetched_bytes}
use Rattle.cu_io.specs.Holdings.{Holdings}

-- the text of a module of a name in a directory
pub record ModuleText : Type 0 where
  pub dir : List ℕ
  pub name : List ℕ
  pub text : List ℕ

-- the text at a path
pub record FileText : Type 0 where
  pub path : List ℕ
  pub text : List ℕ

-- the texts that were added, newest first, the calls that are to fail, and the calls so far
pub record Shelf : Type 0 where
  pub modules : List ModuleText
  pub files : List FileText
  pub failing : List ℕ
  pub calls : Calls

-- whether a text is that of the module of a name in a directory
abbrev pub is_module : List ℕ → List ℕ → ModuleText → Bool
is_module dir name held = bytes_eq held.dir dir && bytes_eq held.name name

-- whether a text is that at a path
abbrev pub is_file : List ℕ → FileText → Bool
is_file path held = bytes_eq held.path path

-- the newest text of a module
abbrev pub newest_module : List ModuleText → List ℕ → List ℕ → Option (List ℕ)
newest_module modules dir name = option_map (λ held. held.text) (find (is_module dir name) modules)

-- the newest text at a path
abbrev pub newest_file : List FileText → List ℕ → Option (List ℕ)
newest_file files path = option_map (λ held. held.text) (find (is_file path) files)

-- What a library in memory holds: in each place the text that was added last.
abbrev pub shelf_holdings : Shelf → Holdings
shelf_holdings s = record { module_at = newest_module s.modules; file_at = newest_file s.files }

-- the library with one more module
abbrev pub with_module : Shelf → ModuleText → Shelf
with_module s added = record s { modules = added ∷ s.modules }

-- the library with one more file
abbrev pub with_file : Shelf → FileText → Shelf
with_file s added = record s { files = added ∷ s.files }

-- whether the next call is one of those that are to fail
abbrev pub fails_next : Shelf → Bool
fails_next s = is_listed s.failing s.calls.next

-- the library after a call
abbrev pub after_call : Shelf → Shelf
after_call s = record s { calls = counted s.calls (fails_next s) }

-- The answer for the text that is held, if there is one: its first `max_fetched_bytes` bytes, or
-- Absent where there is none.
abbrev pub Copies : Option (List ℕ) → Fetched → Type 0
Copies (Some text) (Text bytes) = bytes.items ≡ take max_fetched_bytes text
Copies None Absent = Unit {0}
Copies held other = ⊥
