-- What the values around a value must know of it to display it: its shape.
use Rattle.std.specs.Prelude.{Bool, true, false, List, [], ◌∷◌, ◌++◌, if◌then◌else◌}
use Rattle.cu_calculus.specs.declared.ConId.{ConId}
use Rattle.cu_calculus.specs.declared.Lit.TheVariants as lit
use Rattle.cu_int.specs.Integers.{is_negative}
use Rattle.cu_calculus.specs.Match.{same_constructor}
use Rattle.cu_calculus.specs.Value as value
use Rattle.cu_calculus.specs.Value.{Value, Values}
use Rattle.cu_values.specs.declared.cell.Cell.{Cell}
use Rattle.cu_values.specs.declared.shape.Shape.{Shape}
use Rattle.cu_values.specs.declared.shape.Shape.TheVariants as shape
use Rattle.cu_values.specs.Cells.{first, read_all}
use Rattle.cu_values.specs.Display.{Labels}

-- the shape of a `:` by the shapes of its element and its rest, or `other` where it is no list
abbrev pub list_shape : Shape → Shape → Shape → Shape
list_shape shape.Character shape.Empty other = shape.Text
list_shape shape.Character shape.Text other = shape.Text
list_shape element shape.Empty other = shape.List
list_shape element shape.Text other = shape.List
list_shape element shape.List other = shape.List
list_shape element shape.Variable other = shape.Open
list_shape element shape.Open other = shape.Open
list_shape element rest other = other

-- the shape of an application with arguments that is no list
abbrev pub other_shape : Labels → ConId → Shape
other_shape labels c = if labels.tuple c then shape.Simple else shape.Compound

-- the shape of a value
abbrev pub shape_of : Labels → Value → Shape
shape_of labels value.Bottom = shape.Simple
shape_of labels (value.Variable n) = shape.Variable
shape_of labels (value.Literal (lit.Int n)) = if is_negative n then shape.Compound else shape.Simple
shape_of labels (value.Literal (lit.Char c)) = shape.Character
shape_of labels (value.Partial h vs) = shape.Simple
shape_of labels (value.Constructed c value.NoValue) =
    if same_constructor c labels.nil then shape.Empty else shape.Simple
shape_of labels (value.Constructed c (value.MoreValues x (value.MoreValues rest value.NoValue))) =
    if same_constructor c labels.cons
    then list_shape (shape_of labels x) (shape_of labels rest) (other_shape labels c)
    else other_shape labels c
shape_of labels (value.Constructed c vs) = other_shape labels c

-- the shapes of values, that of the first value last, as on a stack
abbrev pub stacked : Labels → Values → List Shape
stacked labels value.NoValue = []
stacked labels (value.MoreValues v vs) = stacked labels vs ++ shape_of labels v ∷ []

-- for each cell, the shape of the value that begins there
abbrev pub shapes_at : Labels → List Cell → List Shape
shapes_at labels [] = []
shapes_at labels (c ∷ cs) = shape_of labels (first (read_all (c ∷ cs))) ∷ shapes_at labels cs

-- whether a value of this shape stands in parentheses as an argument
abbrev pub is_enclosed : Shape → Bool
is_enclosed shape.Open = true
is_enclosed shape.Compound = true
is_enclosed _ = false

-- whether a value of this shape is neither a list that has an end nor one that ends in a variable
abbrev pub is_no_list : Shape → Bool
is_no_list shape.Empty = false
is_no_list shape.Text = false
is_no_list shape.List = false
is_no_list shape.Variable = false
is_no_list shape.Open = false
is_no_list _ = true
