-- What adapters to the outside answer.
use Rattle.std.specs.Prelude.{◌≡◌, ℕ, zero, suc, ◌≤◌, List, ◌++◌, Option, None, Some, Result, Ok, Err, length, take, map, codes, if◌then◌else◌, ◌==◌}
use Rattle.std.specs.Str.{chars, encode_utf8_all}
use Rattle.std.specs.Io.KnownBytes.{Appends, Consumes}
use Rattle.cu_io.specs.declared.library.Fetched.{Fetched}
use Rattle.cu_io.specs.declared.library.Fetched.TheVariants.{Absent, Failed, Text}
use Rattle.cu_io.specs.declared.source.Took.{Took}
use Rattle.cu_io.specs.declared.source.Took.TheVariants as took
use Rattle.cu_io.specs.declared.sink.Put.{Put}
use Rattle.cu_io.specs.declared.sink.Put.TheVariants as put

-- The text of an answer, if it has one, is at most so many bytes long.
abbrev pub IsTextWithin : ℕ → Fetched → Type 0
IsTextWithin most (Text bytes) = length bytes.items ≤ most
IsTextWithin most Absent = Unit {0}
IsTextWithin most Failed = Unit {0}

-- How many bytes a write put out, by what it said. None stands for a fault: an error, or that it
-- took no byte.
abbrev pub gone : {E : Type 0} → Result ℕ E → Option ℕ
gone (Ok zero) = None
gone (Ok (suc count)) = Some (suc count)
gone (Err error) = None

-- What a writer is known to hold grew by the piece where the answer is Done, and by a prefix of the
-- piece where it is Failed.
abbrev pub Writes : Put → List ℕ → Option (List ℕ) → Option (List ℕ) → Type 0
Writes put.Done piece before after = Appends before after piece
Writes put.Failed piece before after = (n : ℕ) × (n ≤ length piece)
    × Appends before after (take n piece)

-- So many bytes moved from the start of what a reader is known to have left to the end of a text.
abbrev pub Moves : ℕ → Option (List ℕ) → Option (List ℕ) → List ℕ → List ℕ → Type 0
Moves count before after old new = (bytes : List ℕ) × (length bytes ≡ count) × (new ≡ old ++ bytes)
    × Consumes before after bytes

-- a character of a module's name in its path
abbrev pub path_char : ℕ → ℕ
path_char c = if c == 46 then 47 else c

-- a module's name with a slash for each dot
abbrev pub slashed : List ℕ → List ℕ
slashed name = encode_utf8_all (map path_char (chars name))

-- the path of a module's file: the directory, a slash, the name with a slash for each dot, and the
-- ending
abbrev pub module_path : List ℕ → List ℕ → List ℕ
module_path dir name = dir ++ (codes "/" ++ slashed name ++ codes ".curry")

-- What a source answers, by what a read said: an error is a fault, and never the end of the input.
abbrev pub answer_of : {E : Type 0} → Result ℕ E → Took
answer_of (Ok count) = took.Bytes count
answer_of (Err error) = took.Failed
