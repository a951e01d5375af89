-- What the lines of a session ask for.
use Rattle.std.specs.Prelude.{◌≡◌, ⊤, ℕ, Bool, ◌&&◌, List, [], ◌∷◌, length, nat_eq, nat_le}
use Rattle.std.specs.Prelude.{Option, Some, None, IfSome, option_and_then, option_map, unwrap_or}
use Rattle.std.specs.Prelude.{bytes_eq, codes, if◌then◌else◌}
use Rattle.std.specs.List.{list_all}
use Rattle.std.specs.Option.{option_flatten}
use Rattle.std.specs.Str.Parse.{digits_value}
use Rattle.cu_machine.specs.declared.SearchLimits.{SearchLimits}
use Rattle.cu_words.specs.declared.requests.Request as requests
use Rattle.cu_words.specs.declared.requests.Request.TheVariants as asks
use Rattle.cu_words.specs.declared.setting.Setting.{Setting}
use Rattle.cu_words.specs.declared.setting.Setting.TheVariants.{Rounds, Answers, Nodes, Width}
use Rattle.cu_words.specs.declared.setting.Setting.TheVariants.{Stride, Workers}
use Rattle.cu_words.specs.Names.{is_between, is_digit, is_module_name}
use Rattle.cu_words.specs.Numbers.{IsIn}

abbrev pub Text : Type 0
Text = List ℕ

-- a module by its name, a goal by its text, the next lines of a listing, a setting, the end of the
-- session, or nothing that a session knows
pub data Request : Type 0 where
  Load : Text → Request
  Ask : Text → Request
  Next : Request
  Limit : Setting → Request
  Quit : Request
  Unknown : Request

-- what stands in a text after this beginning, where it begins so
unfoldable pub after : (beginning text : Text) → Option Text
after [] text = Some text
after (b ∷ bs) [] = None
after (b ∷ bs) (c ∷ cs) = if nat_eq c b then after bs cs else None

-- the first of these that there is
abbrev pub first : {A : Type 0} → List (Option A) → Option A
first [] = None
first (None ∷ others) = first others
first (Some found ∷ others) = Some found

-- a number from 1 to `high`, in 1 to 19 decimal digits
abbrev pub is_number_to : ℕ → Text → Bool
is_number_to high text = nat_le 1 (length text) && nat_le (length text) 19
    && list_all is_digit text && is_between 1 high (digits_value 10 text)

unfoldable pub number_to : ℕ → Text → Option ℕ
number_to high text = if is_number_to high text then Some (digits_value 10 text) else None

-- a limit on answers, which may be none
abbrev pub answers_of : Text → Option (Option ℕ)
answers_of value =
    if bytes_eq value (codes "none") then Some None else option_map Some (number_to 1000000000 value)

-- what a text asks for where it begins so
abbrev pub row : {A : Type 0} → Text → (Text → A) → Text → Option A
row beginning asks text = option_map asks (after beginning text)

-- what a text asks for where it is this one
abbrev pub only : {A : Type 0} → Text → A → Text → Option A
only this asks text = if bytes_eq text this then Some asks else None

-- a name and a value of it, with a space between them
abbrev pub setting_of : Text → Option Setting
setting_of text = option_flatten (first (
    row (codes "rounds ") (λ value. option_map Rounds (number_to 1000000000 value)) text
    ∷ row (codes "answers ") (λ value. option_map Answers (answers_of value)) text
    ∷ row (codes "nodes ") (λ value. option_map Nodes (number_to 16777216 value)) text
    ∷ row (codes "width ") (λ value. option_map Width (number_to 1048576 value)) text
    ∷ row (codes "stride ") (λ value. option_map Stride (number_to 1000000 value)) text
    ∷ row (codes "workers ") (λ value. option_map Workers (number_to 64 value)) text
    ∷ []))

abbrev pub load_of : Text → Request
load_of name = if is_module_name name then Load name else Unknown

abbrev pub limit_of : Text → Request
limit_of text = unwrap_or (option_map Limit (setting_of text)) Unknown

-- what a line asks for, without the end of the line: a row for each request. No line is in two rows.
abbrev pub request_of : Text → Request
request_of line = unwrap_or (first (
    row (codes "load ") load_of line
    ∷ row (codes "ask ") Ask line
    ∷ only (codes "next") Next line
    ∷ row (codes "limits ") limit_of line
    ∷ only (codes "quit") Quit line
    ∷ [])) Unknown

-- the request of the definitions that one of the reader stands for
abbrev pub requested : requests.Request → Request
requested (asks.Load name) = Load name.now
requested (asks.Ask text) = Ask text.now
requested asks.Next = Next
requested (asks.Limit setting) = Limit setting
requested asks.Quit = Quit
requested asks.Unknown = Unknown

-- the number of a setting is in its range
abbrev pub IsSettingInRange : Setting → Type 0
IsSettingInRange (Rounds n) = IsIn 1 1000000000 n
IsSettingInRange (Answers answers) = IfSome answers (IsIn 1 1000000000)
IsSettingInRange (Nodes n) = IsIn 1 16777216 n
IsSettingInRange (Width n) = IsIn 1 1048576 n
IsSettingInRange (Stride n) = IsIn 1 1000000 n
IsSettingInRange (Workers n) = IsIn 1 64 n

abbrev pub IsRequestInRange : Request → Type 0
IsRequestInRange (Load name) = ⊤
IsRequestInRange (Ask text) = ⊤
IsRequestInRange Next = ⊤
IsRequestInRange (Limit setting) = IsSettingInRange setting
IsRequestInRange Quit = ⊤
IsRequestInRange Unknown = ⊤

-- ---- the limits of a session

-- before any setting
abbrev pub default_limits : SearchLimits
default_limits = record {
  rounds = 100000;
  answers = None;
  stride = 1;
  step = record { nodes = 1000000; width = 65536 };
}

-- after a setting: one of them is another, or none where it is the number of workers
abbrev pub limits_with : Setting → SearchLimits → SearchLimits
limits_with (Rounds n) limits = record limits { rounds = n }
limits_with (Answers answers) limits = record limits { answers = answers }
limits_with (Nodes n) limits = record limits { step = record limits.step { nodes = n } }
limits_with (Width n) limits = record limits { step = record limits.step { width = n } }
limits_with (Stride n) limits = record limits { stride = n }
limits_with (Workers n) limits = limits
