-- The types that every program begins with, all of them the Prelude's: the list, unit, the tuples
-- of 2 to 15 components, Int and Char. So the first constructors are `[]`, `:`, `()` and those of
-- the tuples.
use Rattle.std.specs.Prelude.{ℕ, Bool, true, false, ◌&&◌, List, [], ◌∷◌, length, nat_eq}
use Rattle.cu_calculus.specs.declared.builtin.Special.{Special}
use Rattle.cu_kernel.specs.Kernel.{Constructor, DataType}

-- The Prelude's number among the modules: all others import it, so that it comes before them.
abbrev pub prelude : ℕ
prelude = 0

-- what a type is like: how many parameters it has, and how many fields each of its constructors has
pub record Outline : Type 0 where
  pub parameters : ℕ
  pub fields : List ℕ

-- the type of lists, with `[]` and `:`
abbrev pub list_outline : Outline
list_outline = record { parameters = 1; fields = 0 ∷ 2 ∷ [] }

-- the type of tuples of n components; unit is that of none
abbrev pub tuple_outline : ℕ → Outline
tuple_outline n = record { parameters = n; fields = n ∷ [] }

-- Int or Char, whose values are literals
abbrev pub literal_outline : Outline
literal_outline = record { parameters = 0; fields = [] }

-- the outlines of the types that every program begins with
abbrev pub first_outlines : List Outline
first_outlines =
    list_outline
    ∷ tuple_outline 0
    ∷ tuple_outline 2 ∷ tuple_outline 3 ∷ tuple_outline 4 ∷ tuple_outline 5 ∷ tuple_outline 6
    ∷ tuple_outline 7 ∷ tuple_outline 8
    ∷ tuple_outline 9 ∷ tuple_outline 10 ∷ tuple_outline 11 ∷ tuple_outline 12 ∷ tuple_outline 13
    ∷ tuple_outline 14 ∷ tuple_outline 15
    ∷ literal_outline
    ∷ literal_outline
    ∷ []

-- whether there are as many constructors as numbers, each with so many fields
abbrev pub have_fields : List ℕ → List Constructor → Bool
have_fields [] [] = true
have_fields (n ∷ ns) (c ∷ cs) = nat_eq (length c.fields) n && have_fields ns cs
have_fields [] (c ∷ cs) = false
have_fields (n ∷ ns) [] = false

-- whether a type is declared in the Prelude and has this outline
abbrev pub is_like : Outline → DataType → Bool
is_like outline t =
    nat_eq t.module prelude && nat_eq t.arity outline.parameters
    && have_fields outline.fields t.constructors

-- whether the program's types begin with types of these outlines
abbrev pub begin_with : List Outline → List DataType → Bool
begin_with [] types = true
begin_with (o ∷ os) [] = false
begin_with (o ∷ os) (t ∷ ts) = is_like o t && begin_with os ts

-- whether `[]` and `:` are the first two constructors
abbrev pub has_list_constructors : Special → Bool
has_list_constructors special = nat_eq special.nil.0 0 && nat_eq special.cons.0 1

-- whether the types begin with those that every program begins with, and the built-in entities name
-- the constructors of lists
abbrev pub has_first_types : Special → List DataType → Bool
has_first_types special types = begin_with first_outlines types && has_list_constructors special
