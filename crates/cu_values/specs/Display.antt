-- How values are displayed: in the notation of the language (Curry Report), as the program that
-- gives them would write them. Texts are lists of bytes, in UTF-8. Literals have the escapes of
-- Haskell's (Haskell 2010 Report, section 2.6), control characters by their decimal numbers.
use Rattle.std.specs.Prelude.{ℕ, Bool, true, false, not, ◌&&◌, ◌||◌, List, [], ◌∷◌, ◌++◌, if◌then◌else◌, codes, decimal, nat_eq, nat_le, nat_lt}
use Rattle.std.specs.List.{list_any}
use Rattle.std.specs.Fmt.{signed_decimal}
use Rattle.std.specs.Char.{encode_utf8}
use Rattle.cu_calculus.specs.declared.ConId.{ConId}
use Rattle.cu_calculus.specs.declared.FunId.{FunId}
use Rattle.cu_calculus.specs.declared.Head.{Head}
use Rattle.cu_calculus.specs.declared.Head.TheVariants as head
use Rattle.cu_calculus.specs.declared.Lit.{Lit}
use Rattle.cu_calculus.specs.declared.Lit.TheVariants as lit
use Rattle.cu_int.specs.Integers.{is_negative}
use Rattle.cu_calculus.specs.Match.{same_constructor}
use Rattle.cu_calculus.specs.Value as value
use Rattle.cu_calculus.specs.Value.{Value, Values}

-- what a program calls its entities, without their modules
pub record Labels : Type 0 where
  pub constructor : ConId → List ℕ
  -- whether a constructor is unit or that of a type of tuples
  pub tuple : ConId → Bool
  pub function : FunId → List ℕ
  -- how many arguments a function takes
  pub arity : FunId → ℕ
  -- the constructors `[]` and `:` of lists
  pub nil : ConId
  pub cons : ConId

-- Literals. Backslash, line feed, tab, carriage return and the literal's own quote have escapes of
-- two characters; other control characters are escaped by their numbers.

-- whether a character is a control character: below 32, or 127
abbrev pub is_control : ℕ → Bool
is_control c = nat_lt c 32 || nat_eq c 127

-- the text of a character in a literal that stands in this quote
abbrev pub escaped : ℕ → ℕ → List ℕ
escaped quote c =
    if nat_eq c 92 then 92 ∷ codes "\\"
    else if nat_eq c 10 then 92 ∷ codes "n"
    else if nat_eq c 9 then 92 ∷ codes "t"
    else if nat_eq c 13 then 92 ∷ codes "r"
    else if nat_eq c quote then 92 ∷ quote ∷ []
    else if is_control c then 92 ∷ decimal c
    else encode_utf8 c

-- whether a character is escaped by its number
abbrev pub is_numeric : ℕ → Bool
is_numeric c = is_control c && not (nat_eq c 9 || nat_eq c 10 || nat_eq c 13)

-- whether a character is a decimal digit
abbrev pub is_digit : ℕ → Bool
is_digit c = nat_le 48 c && nat_le c 57

-- What parts a character from the characters that follow it in a string. A digit after an escape by
-- number would be read as part of the number, so `\&` stands between them.
abbrev pub gap : ℕ → List ℕ → List ℕ
gap c [] = []
gap c (d ∷ ds) = if is_numeric c && is_digit d then 92 ∷ codes "&" else []

-- the text of a string's characters, without the quotes around it
abbrev pub string_text : List ℕ → List ℕ
string_text [] = []
string_text (c ∷ cs) = escaped 34 c ++ (gap c cs ++ string_text cs)

-- the text of a literal: an integer in decimal, or a character in single quotes
abbrev pub literal_text : Lit → List ℕ
literal_text (lit.Int n) = signed_decimal n
literal_text (lit.Char c) = codes "'" ++ (escaped 39 c ++ codes "'")

-- the text of an unbound variable: an underscore and its number
abbrev pub variable_text : ℕ → List ℕ
variable_text n = codes "_" ++ decimal n

-- Names.

-- the characters of which operators' names are made
abbrev pub symbols : List ℕ
symbols = codes "~!@#$%^&*+-=<>?./|\\:"

-- whether a name is an operator: its first character is one of an operator
abbrev pub is_operator : List ℕ → Bool
is_operator [] = false
is_operator (b ∷ bs) = list_any (nat_eq b) symbols

-- the text of a function, a constructor or a set function: `setN` by the function's number of
-- arguments
abbrev pub head_text : Labels → Head → List ℕ
head_text labels (head.Fun f) = labels.function f
head_text labels (head.Con c) = labels.constructor c
head_text labels (head.Set f) = codes "set" ++ decimal (labels.arity f)

-- a text, in parentheses where the condition holds
abbrev pub in_parentheses : Bool → List ℕ → List ℕ
in_parentheses b text = if b then codes "(" ++ (text ++ codes ")") else text

-- Lists.

-- whether a value is a list that has an end: `[]`, or a `:` whose rest is a list that has an end
abbrev pub is_list : Labels → Value → Bool
is_list labels (value.Constructed c value.NoValue) = same_constructor c labels.nil
is_list labels (value.Constructed c (value.MoreValues x (value.MoreValues rest value.NoValue))) =
    same_constructor c labels.cons && is_list labels rest
is_list labels _ = false

-- whether a value is a list that has an end and characters alone
abbrev pub is_text : Labels → Value → Bool
is_text labels (value.Constructed c value.NoValue) = same_constructor c labels.nil
is_text labels
    (value.Constructed c (value.MoreValues (value.Literal (lit.Char x))
    (value.MoreValues rest value.NoValue))) =
    same_constructor c labels.cons && is_text labels rest
is_text labels _ = false

-- whether a value is a list that ends in a variable, or a variable itself
abbrev pub is_open : Labels → Value → Bool
is_open labels (value.Variable n) = true
is_open labels (value.Constructed c (value.MoreValues x (value.MoreValues rest value.NoValue))) =
    same_constructor c labels.cons && is_open labels rest
is_open labels _ = false

-- the characters of a list of characters
abbrev pub characters : Value → List ℕ
characters
    (value.Constructed c (value.MoreValues (value.Literal (lit.Char x))
    (value.MoreValues rest value.NoValue))) = x ∷ characters rest
characters _ = []

-- whether there is at least one argument
abbrev pub has_arguments : Values → Bool
has_arguments value.NoValue = false
has_arguments (value.MoreValues v vs) = true

-- Whether a value stands in parentheses as an argument, or before `:`. These are a negative
-- integer, an application with arguments, and a list that ends in a variable.
abbrev pub takes_parentheses : Labels → Value → Bool
takes_parentheses labels (value.Literal (lit.Int n)) = is_negative n
takes_parentheses labels (value.Constructed c (value.MoreValues v vs)) =
    let whole = value.Constructed c (value.MoreValues v vs) in
    not (is_list labels whole) && (is_open labels whole || not (labels.tuple c))
takes_parentheses labels _ = false

abbrev mutual
  -- the text of a value that stands alone
  pub display : Labels → Value → List ℕ
  display labels value.Bottom = []
  display labels (value.Variable n) = variable_text n
  display labels (value.Literal l) = literal_text l
  display labels (value.Partial h vs) = codes "<" ++ (head_text labels h ++ codes ">")
  display labels (value.Constructed c vs) =
      let whole = value.Constructed c vs in
      if has_arguments vs && is_text labels whole
      then 34 ∷ (string_text (characters whole) ++ 34 ∷ [])
      else if is_list labels whole then codes "[" ++ (elements labels vs ++ codes "]")
      else if is_open labels whole then open_elements labels vs
      else if labels.tuple c then codes "(" ++ (components labels vs ++ codes ")")
      else in_parentheses (is_operator (labels.constructor c)) (labels.constructor c)
      ++ arguments labels vs

  -- the elements of a list that has an end, by the arguments of its first `:`, as `a,b,c`
  pub elements : Labels → Values → List ℕ
  elements labels (value.MoreValues x (value.MoreValues rest value.NoValue)) =
      display labels x ++ further_elements labels rest
  elements labels _ = []

  -- the elements of the rest of a list that has an end, each after a comma, as `,b,c`
  pub further_elements : Labels → Value → List ℕ
  further_elements labels (value.Constructed c vs) =
      if has_arguments vs then codes "," ++ elements labels vs else []
  further_elements labels _ = []

  -- the elements of a list that ends in a variable, by the arguments of its first `:`, as `a:b:_1`
  pub open_elements : Labels → Values → List ℕ
  open_elements labels (value.MoreValues x (value.MoreValues rest value.NoValue)) =
      in_parentheses (takes_parentheses labels x) (display labels x)
      ++ (codes ":" ++ open_rest labels rest)
  open_elements labels _ = []

  -- the rest of a list that ends in a variable, without the `:` before it
  pub open_rest : Labels → Value → List ℕ
  open_rest labels (value.Variable n) = variable_text n
  open_rest labels (value.Constructed c vs) = open_elements labels vs
  open_rest labels _ = []

  -- the components of a tuple, as `a,b`
  pub components : Labels → Values → List ℕ
  components labels value.NoValue = []
  components labels (value.MoreValues v vs) = display labels v ++ further_components labels vs

  -- components of a tuple after its first one, each after a comma
  pub further_components : Labels → Values → List ℕ
  further_components labels value.NoValue = []
  further_components labels (value.MoreValues v vs) =
      codes "," ++ (display labels v ++ further_components labels vs)

  -- the arguments of an application, each after a space, as ` a b`
  pub arguments : Labels → Values → List ℕ
  arguments labels value.NoValue = []
  arguments labels (value.MoreValues v vs) =
      codes " " ++ (in_parentheses (takes_parentheses labels v) (display labels v)
      ++ arguments labels vs)
