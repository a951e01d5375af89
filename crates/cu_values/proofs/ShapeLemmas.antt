-- What the shape of a value says of it.
use Rattle.std.specs.Prelude.{◌≡◌, Bool, true, false, not, ◌&&◌, ◌||◌, [], ◌∷◌, ◌++◌, if◌then◌else◌, codes, refl}
use Rattle.std.proofs.Common.{ap, sym, true≢false, ◌∙◌}
use Rattle.cu_calculus.specs.declared.ConId.{ConId}
use Rattle.cu_calculus.specs.declared.Lit.TheVariants as lit
use Rattle.cu_int.specs.Integers.{is_negative}
use Rattle.cu_calculus.specs.Match.{same_constructor}
use Rattle.cu_calculus.specs.Value as value
use Rattle.cu_calculus.specs.Value.{Value, Values}
use Rattle.cu_values.specs.declared.shape.Shape.{Shape}
use Rattle.cu_values.specs.declared.shape.Shape.TheVariants as shape
use Rattle.cu_values.specs.Display as d
use Rattle.cu_values.specs.Display.{Labels}
use Rattle.cu_values.specs.Inside.Shapes.{is_enclosed, is_no_list, list_shape, shape_of}
use Rattle.cu_values.specs.Inside.Tasks.{are_characters}

abbrev pub lists : Shape → Bool
lists shape.Empty = true
lists shape.Text = true
lists shape.List = true
lists _ = false

abbrev pub texts : Shape → Bool
texts shape.Empty = true
texts shape.Text = true
texts _ = false

abbrev pub opens : Shape → Bool
opens shape.Variable = true
opens shape.Open = true
opens _ = false

abbrev pub is_char : Shape → Bool
is_char shape.Character = true
is_char _ = false

-- the shape of a `:` that is no list
abbrev pub closed : Bool → Shape
closed tuple = if tuple then shape.Simple else shape.Compound

abbrev pub paired : Bool → Shape → Shape → Bool → Shape
paired cons x rest tuple = if cons then list_shape x rest (closed tuple) else closed tuple

pub lists_paired : (b : Bool) (x rest : Shape) (t : Bool) → (b && lists rest) ≡ lists (paired b x rest t)
lists_paired false x rest true = refl
lists_paired false x rest false = refl
lists_paired true shape.Character shape.Empty t = refl
lists_paired true shape.Character shape.Text t = refl
lists_paired true _ shape.Empty t = refl
lists_paired true _ shape.Text t = refl
lists_paired true _ shape.List t = refl
lists_paired true _ shape.Variable t = refl
lists_paired true _ shape.Open t = refl
lists_paired true _ _ true = refl
lists_paired true _ _ false = refl

pub opens_paired : (b : Bool) (x rest : Shape) (t : Bool) → (b && opens rest) ≡ opens (paired b x rest t)
opens_paired false x rest true = refl
opens_paired false x rest false = refl
opens_paired true shape.Character shape.Empty t = refl
opens_paired true shape.Character shape.Text t = refl
opens_paired true _ shape.Empty t = refl
opens_paired true _ shape.Text t = refl
opens_paired true _ shape.List t = refl
opens_paired true _ shape.Variable t = refl
opens_paired true _ shape.Open t = refl
opens_paired true _ _ true = refl
opens_paired true _ _ false = refl

pub texts_paired : (b : Bool) (x rest : Shape) (t : Bool) → (b && (is_char x && texts rest)) ≡ texts (paired b x rest t)
texts_paired false x rest true = refl
texts_paired false x rest false = refl
texts_paired true shape.Character shape.Empty t = refl
texts_paired true shape.Character shape.Text t = refl
texts_paired true _ shape.Empty t = refl
texts_paired true _ shape.Text t = refl
texts_paired true shape.Character shape.List t = refl
texts_paired true _ shape.List t = refl
texts_paired true shape.Character shape.Variable t = refl
texts_paired true _ shape.Variable t = refl
texts_paired true shape.Character shape.Open t = refl
texts_paired true _ shape.Open t = refl
texts_paired true _ _ true = refl
texts_paired true _ _ false = refl

-- a test that is false of two shapes is false of either
pub neither : (test : Shape → Bool) (s t : Shape) → test s ≡ false → test t ≡ false → (b : Bool) → test (if b then s else t) ≡ false
neither test s t e f true = e
neither test s t e f false = f

-- a test that is false of tuples and applications
pub not_closed : (test : Shape → Bool) → test shape.Simple ≡ false → test shape.Compound ≡ false → (t : Bool) → test (closed t) ≡ false
not_closed test e f t = neither test shape.Simple shape.Compound e f t

-- a test that is false of each shape that a constructor with two arguments may have
pub not_paired : (test : Shape → Bool) → test shape.Text ≡ false → test shape.List ≡ false → test shape.Open ≡ false → test shape.Simple ≡ false
    → test shape.Compound ≡ false → (b : Bool) (x rest : Shape) (t : Bool) → test (paired b x rest t) ≡ false
not_paired test text list open_one simple compound false x rest t = not_closed test simple compound t
not_paired test text list open_one simple compound true shape.Character shape.Empty t = text
not_paired test text list open_one simple compound true shape.Character shape.Text t = text
not_paired test text list open_one simple compound true _ shape.Empty t = list
not_paired test text list open_one simple compound true _ shape.Text t = list
not_paired test text list open_one simple compound true _ shape.List t = list
not_paired test text list open_one simple compound true _ shape.Variable t = open_one
not_paired test text list open_one simple compound true _ shape.Open t = open_one
not_paired test text list open_one simple compound true _ _ t = not_closed test simple compound t

-- what isn't a list stands in parentheses unless it is a tuple
pub enclosed_paired : (b : Bool) (x rest : Shape) (t : Bool)
    → (not (lists (paired b x rest t)) && (opens (paired b x rest t) || not t)) ≡ is_enclosed (paired b x rest t)
enclosed_paired false x rest true = refl
enclosed_paired false x rest false = refl
enclosed_paired true shape.Character shape.Empty t = refl
enclosed_paired true shape.Character shape.Text t = refl
enclosed_paired true _ shape.Empty t = refl
enclosed_paired true _ shape.Text t = refl
enclosed_paired true _ shape.List t = refl
enclosed_paired true _ shape.Variable t = refl
enclosed_paired true _ shape.Open t = refl
enclosed_paired true _ _ true = refl
enclosed_paired true _ _ false = refl

pub not_both : (b : Bool) → (b && false) ≡ false
not_both true = refl
not_both false = refl

pub enclosed_closed : (t : Bool) → not t ≡ is_enclosed (closed t)
enclosed_closed true = refl
enclosed_closed false = refl

pub lists_empty : (b : Bool) → b ≡ lists (if b then shape.Empty else shape.Simple)
lists_empty true = refl
lists_empty false = refl

pub texts_empty : (b : Bool) → b ≡ texts (if b then shape.Empty else shape.Simple)
texts_empty true = refl
texts_empty false = refl

pub enclosed_number : (b : Bool) → b ≡ is_enclosed (if b then shape.Compound else shape.Simple)
enclosed_number true = refl
enclosed_number false = refl

abbrev pub tuple_named : Labels → ConId → Bool
tuple_named labels c = labels.tuple c

pub list_by_shape : (labels : Labels) (v : Value) → d.is_list labels v ≡ lists (shape_of labels v)
list_by_shape labels value.Bottom = refl
list_by_shape labels (value.Variable n) = refl
list_by_shape labels (value.Literal (lit.Int n)) = sym (neither lists shape.Compound shape.Simple refl refl (is_negative n))
list_by_shape labels (value.Literal (lit.Char c)) = refl
list_by_shape labels (value.Partial h vs) = refl
list_by_shape labels (value.Constructed c value.NoValue) = lists_empty (same_constructor c labels.nil)
list_by_shape labels (value.Constructed c (value.MoreValues x value.NoValue)) = sym (not_closed lists refl refl (tuple_named labels c))
list_by_shape labels (value.Constructed c (value.MoreValues x (value.MoreValues rest value.NoValue))) =
    ap (λ b. same_constructor c labels.cons && b) (list_by_shape labels rest)
    ∙ lists_paired (same_constructor c labels.cons) (shape_of labels x) (shape_of labels rest) (tuple_named labels c)
list_by_shape labels (value.Constructed c (value.MoreValues x (value.MoreValues y (value.MoreValues z zs)))) = sym (not_closed lists refl refl (tuple_named labels c))

pub open_by_shape : (labels : Labels) (v : Value) → d.is_open labels v ≡ opens (shape_of labels v)
open_by_shape labels value.Bottom = refl
open_by_shape labels (value.Variable n) = refl
open_by_shape labels (value.Literal (lit.Int n)) = sym (neither opens shape.Compound shape.Simple refl refl (is_negative n))
open_by_shape labels (value.Literal (lit.Char c)) = refl
open_by_shape labels (value.Partial h vs) = refl
open_by_shape labels (value.Constructed c value.NoValue) = sym (neither opens shape.Empty shape.Simple refl refl (same_constructor c labels.nil))
open_by_shape labels (value.Constructed c (value.MoreValues x value.NoValue)) = sym (not_closed opens refl refl (tuple_named labels c))
open_by_shape labels (value.Constructed c (value.MoreValues x (value.MoreValues rest value.NoValue))) =
    ap (λ b. same_constructor c labels.cons && b) (open_by_shape labels rest)
    ∙ opens_paired (same_constructor c labels.cons) (shape_of labels x) (shape_of labels rest) (tuple_named labels c)
open_by_shape labels (value.Constructed c (value.MoreValues x (value.MoreValues y (value.MoreValues z zs)))) = sym (not_closed opens refl refl (tuple_named labels c))

-- a constructor makes no character
pub char_constructed : (labels : Labels) (c : ConId) (vs : Values) → is_char (shape_of labels (value.Constructed c vs)) ≡ false
char_constructed labels c value.NoValue = neither is_char shape.Empty shape.Simple refl refl (same_constructor c labels.nil)
char_constructed labels c (value.MoreValues x value.NoValue) = not_closed is_char refl refl (tuple_named labels c)
char_constructed labels c (value.MoreValues x (value.MoreValues rest value.NoValue)) =
    not_paired is_char refl refl refl refl refl (same_constructor c labels.cons) (shape_of labels x) (shape_of labels rest) (tuple_named labels c)
char_constructed labels c (value.MoreValues x (value.MoreValues y (value.MoreValues z zs))) = not_closed is_char refl refl (tuple_named labels c)

-- a `:` whose element is no character is no text
pub no_text : (labels : Labels) (c : ConId) (x rest : Value) → is_char (shape_of labels x) ≡ false
    → false ≡ texts (shape_of labels (value.Constructed c (value.MoreValues x (value.MoreValues rest value.NoValue))))
no_text labels c x rest e =
    sym (not_both (same_constructor c labels.cons))
    ∙ ap (λ b. same_constructor c labels.cons && (b && texts (shape_of labels rest))) (sym e)
    ∙ texts_paired (same_constructor c labels.cons) (shape_of labels x) (shape_of labels rest) (tuple_named labels c)

pub text_of_one : (labels : Labels) (c : ConId) (x : Value) → d.is_text labels (value.Constructed c (value.MoreValues x value.NoValue)) ≡ false
text_of_one labels c (value.Literal (lit.Char k)) = refl
text_of_one labels c (value.Literal (lit.Int k)) = refl
text_of_one labels c _ = refl

pub text_of_many : (labels : Labels) (c : ConId) (x y z : Value) (zs : Values)
    → d.is_text labels (value.Constructed c (value.MoreValues x (value.MoreValues y (value.MoreValues z zs)))) ≡ false
text_of_many labels c (value.Literal (lit.Char k)) y z zs = refl
text_of_many labels c (value.Literal (lit.Int k)) y z zs = refl
text_of_many labels c _ y z zs = refl

pub text_by_shape : (labels : Labels) (v : Value) → d.is_text labels v ≡ texts (shape_of labels v)
text_by_shape labels value.Bottom = refl
text_by_shape labels (value.Variable n) = refl
text_by_shape labels (value.Literal (lit.Int n)) = sym (neither texts shape.Compound shape.Simple refl refl (is_negative n))
text_by_shape labels (value.Literal (lit.Char c)) = refl
text_by_shape labels (value.Partial h vs) = refl
text_by_shape labels (value.Constructed c value.NoValue) = texts_empty (same_constructor c labels.nil)
text_by_shape labels (value.Constructed c (value.MoreValues x value.NoValue)) = text_of_one labels c x ∙ sym (not_closed texts refl refl (tuple_named labels c))
text_by_shape labels (value.Constructed c (value.MoreValues (value.Literal (lit.Char k)) (value.MoreValues rest value.NoValue))) =
    ap (λ b. same_constructor c labels.cons && b) (text_by_shape labels rest)
    ∙ texts_paired (same_constructor c labels.cons) shape.Character (shape_of labels rest) (tuple_named labels c)
text_by_shape labels (value.Constructed c (value.MoreValues (value.Literal (lit.Int n)) (value.MoreValues rest value.NoValue))) =
    no_text labels c (value.Literal (lit.Int n)) rest (neither is_char shape.Compound shape.Simple refl refl (is_negative n))
text_by_shape labels (value.Constructed c (value.MoreValues value.Bottom (value.MoreValues rest value.NoValue))) =
    no_text labels c value.Bottom rest refl
text_by_shape labels (value.Constructed c (value.MoreValues (value.Variable n) (value.MoreValues rest value.NoValue))) =
    no_text labels c (value.Variable n) rest refl
text_by_shape labels (value.Constructed c (value.MoreValues (value.Partial h us) (value.MoreValues rest value.NoValue))) =
    no_text labels c (value.Partial h us) rest refl
text_by_shape labels (value.Constructed c (value.MoreValues (value.Constructed k us) (value.MoreValues rest value.NoValue))) =
    no_text labels c (value.Constructed k us) rest (char_constructed labels k us)
text_by_shape labels (value.Constructed c (value.MoreValues x (value.MoreValues y (value.MoreValues z zs)))) =
    text_of_many labels c x y z zs ∙ sym (not_closed texts refl refl (tuple_named labels c))

pub enclosed_by_shape : (labels : Labels) (v : Value) → d.takes_parentheses labels v ≡ is_enclosed (shape_of labels v)
enclosed_by_shape labels value.Bottom = refl
enclosed_by_shape labels (value.Variable n) = refl
enclosed_by_shape labels (value.Literal (lit.Int n)) = enclosed_number (is_negative n)
enclosed_by_shape labels (value.Literal (lit.Char c)) = refl
enclosed_by_shape labels (value.Partial h vs) = refl
enclosed_by_shape labels (value.Constructed c value.NoValue) = sym (neither is_enclosed shape.Empty shape.Simple refl refl (same_constructor c labels.nil))
enclosed_by_shape labels (value.Constructed c (value.MoreValues x value.NoValue)) = enclosed_closed (tuple_named labels c)
enclosed_by_shape labels (value.Constructed c (value.MoreValues x (value.MoreValues rest value.NoValue))) =
    let whole = value.Constructed c (value.MoreValues x (value.MoreValues rest value.NoValue)) in
    rw (list_by_shape labels whole, open_by_shape labels whole)
    (enclosed_paired (same_constructor c labels.cons) (shape_of labels x) (shape_of labels rest) (tuple_named labels c))
enclosed_by_shape labels (value.Constructed c (value.MoreValues x (value.MoreValues y (value.MoreValues z zs)))) = enclosed_closed (tuple_named labels c)

-- What the display of a constructor is, by its shape.

pub shown_text : (labels : Labels) (c : ConId) (vs : Values) → shape_of labels (value.Constructed c vs) ≡ shape.Text
    → d.display labels (value.Constructed c vs) ≡ 34 ∷ (d.string_text (d.characters (value.Constructed c vs)) ++ 34 ∷ [])
shown_text labels c value.NoValue e = by (same_constructor c labels.nil) e
  where
    by : (b : Bool) → (if b then shape.Empty else shape.Simple) ≡ shape.Text
        → d.display labels (value.Constructed c value.NoValue) ≡ 34 ∷ (d.string_text (d.characters (value.Constructed c value.NoValue)) ++ 34 ∷ [])
    by true k = let no : ⊥ = cc in absurd no
    by false k = let no : ⊥ = cc in absurd no
shown_text labels c (value.MoreValues v vs) e =
    let text : d.is_text labels (value.Constructed c (value.MoreValues v vs)) ≡ true = text_by_shape labels (value.Constructed c (value.MoreValues v vs)) ∙ ap texts e in
    rw text refl

-- what is true of a conjunction is true of its right side
pub right_true : (a b : Bool) → (a && b) ≡ true → b ≡ true
right_true true b e = e
right_true false b e = let no : ⊥ = cc in absurd no

-- a list or a list that ends in a variable has two parts
pub record Parted (vs : Values) (test : Value → Bool) : Type 0 where
  pub element : Value
  pub rest : Value
  pub parts : vs ≡ value.MoreValues element (value.MoreValues rest value.NoValue)
  pub tested : test rest ≡ true

pub list_parts : (labels : Labels) (c : ConId) (vs : Values) → d.is_list labels (value.Constructed c vs) ≡ true → d.has_arguments vs ≡ true
    → Parted vs (d.is_list labels)
list_parts labels c value.NoValue e f = let no : ⊥ = cc in absurd no
list_parts labels c (value.MoreValues x value.NoValue) e f = let no : ⊥ = cc in absurd no
list_parts labels c (value.MoreValues x (value.MoreValues y (value.MoreValues z zs))) e f = let no : ⊥ = cc in absurd no
list_parts labels c (value.MoreValues x (value.MoreValues rest value.NoValue)) e f =
    record { element = x; rest = rest; parts = refl; tested = right_true (same_constructor c labels.cons) (d.is_list labels rest) e }

pub open_parts : (labels : Labels) (c : ConId) (vs : Values) → d.is_open labels (value.Constructed c vs) ≡ true → Parted vs (d.is_open labels)
open_parts labels c value.NoValue e = let no : ⊥ = cc in absurd no
open_parts labels c (value.MoreValues x value.NoValue) e = let no : ⊥ = cc in absurd no
open_parts labels c (value.MoreValues x (value.MoreValues y (value.MoreValues z zs))) e = let no : ⊥ = cc in absurd no
open_parts labels c (value.MoreValues x (value.MoreValues rest value.NoValue)) e =
    record { element = x; rest = rest; parts = refl; tested = right_true (same_constructor c labels.cons) (d.is_open labels rest) e }

-- only what has no arguments is the empty list, and it is none of the other lists
pub argumentless : (labels : Labels) (c : ConId) (vs : Values) → shape_of labels (value.Constructed c vs) ≡ shape.List → d.has_arguments vs ≡ true
argumentless labels c value.NoValue e = by (same_constructor c labels.nil) e
  where
    by : (b : Bool) → (if b then shape.Empty else shape.Simple) ≡ shape.List → d.has_arguments value.NoValue ≡ true
    by true k = let no : ⊥ = cc in absurd no
    by false k = let no : ⊥ = cc in absurd no
argumentless labels c (value.MoreValues v vs) e = refl

abbrev pub is_empty_shape : Shape → Bool
is_empty_shape shape.Empty = true
is_empty_shape _ = false

pub shown_empty : (labels : Labels) (c : ConId) (vs : Values) → shape_of labels (value.Constructed c vs) ≡ shape.Empty
    → (vs ≡ value.NoValue) × (d.display labels (value.Constructed c vs) ≡ codes "[]")
shown_empty labels c value.NoValue e =
    let list : same_constructor c labels.nil ≡ true = list_by_shape labels (value.Constructed c value.NoValue) ∙ ap lists e in
    (refl, rw list refl)
shown_empty labels c (value.MoreValues x value.NoValue) e =
    let no : true ≡ false = sym (ap is_empty_shape e) ∙ not_closed is_empty_shape refl refl (tuple_named labels c) in absurd (true≢false no)
shown_empty labels c (value.MoreValues x (value.MoreValues rest value.NoValue)) e =
    let no : true ≡ false =
    sym (ap is_empty_shape e) ∙ not_paired is_empty_shape refl refl refl refl refl (same_constructor c labels.cons) (shape_of labels x) (shape_of labels rest) (tuple_named labels c) in
    absurd (true≢false no)
shown_empty labels c (value.MoreValues x (value.MoreValues y (value.MoreValues z zs))) e =
    let no : true ≡ false = sym (ap is_empty_shape e) ∙ not_closed is_empty_shape refl refl (tuple_named labels c) in absurd (true≢false no)

pub shown_list : (labels : Labels) (c : ConId) (vs : Values) → shape_of labels (value.Constructed c vs) ≡ shape.List
    → d.display labels (value.Constructed c vs) ≡ codes "[" ++ (d.elements labels vs ++ codes "]")
shown_list labels c vs e =
    let text : d.is_text labels (value.Constructed c vs) ≡ false = text_by_shape labels (value.Constructed c vs) ∙ ap texts e in
    let list : d.is_list labels (value.Constructed c vs) ≡ true = list_by_shape labels (value.Constructed c vs) ∙ ap lists e in
    rw (text, not_both (d.has_arguments vs), list) refl

pub shown_open : (labels : Labels) (c : ConId) (vs : Values) → shape_of labels (value.Constructed c vs) ≡ shape.Open
    → d.display labels (value.Constructed c vs) ≡ d.open_elements labels vs
shown_open labels c vs e =
    let text : d.is_text labels (value.Constructed c vs) ≡ false = text_by_shape labels (value.Constructed c vs) ∙ ap texts e in
    let list : d.is_list labels (value.Constructed c vs) ≡ false = list_by_shape labels (value.Constructed c vs) ∙ ap lists e in
    let open_one : d.is_open labels (value.Constructed c vs) ≡ true = open_by_shape labels (value.Constructed c vs) ∙ ap opens e in
    rw (text, not_both (d.has_arguments vs), list, open_one) refl

-- what is no list is a tuple or an application
pub none_of_them : (s : Shape) → is_no_list s ≡ true → (texts s ≡ false) × (lists s ≡ false) × (opens s ≡ false)
none_of_them shape.Character e = (refl, refl, refl)
none_of_them shape.Compound e = (refl, refl, refl)
none_of_them shape.Simple e = (refl, refl, refl)
none_of_them _ e = let no : ⊥ = cc in absurd no

pub shown_other : (labels : Labels) (c : ConId) (vs : Values) → is_no_list (shape_of labels (value.Constructed c vs)) ≡ true
    → d.display labels (value.Constructed c vs)
    ≡ (if labels.tuple c then codes "(" ++ (d.components labels vs ++ codes ")")
    else d.in_parentheses (d.is_operator (labels.constructor c)) (labels.constructor c) ++ d.arguments labels vs)
shown_other labels c vs e =
    let n = none_of_them (shape_of labels (value.Constructed c vs)) e in
    let text : d.is_text labels (value.Constructed c vs) ≡ false = text_by_shape labels (value.Constructed c vs) ∙ n.0 in
    let list : d.is_list labels (value.Constructed c vs) ≡ false = list_by_shape labels (value.Constructed c vs) ∙ n.1 in
    let open_one : d.is_open labels (value.Constructed c vs) ≡ false = open_by_shape labels (value.Constructed c vs) ∙ n.2 in
    rw (text, not_both (d.has_arguments vs), list, open_one) refl

-- a text's parts are characters
pub text_characters : (labels : Labels) (v : Value) → d.is_text labels v ≡ true → are_characters v ≡ true
text_characters labels (value.Constructed c value.NoValue) e = refl
text_characters labels (value.Constructed c (value.MoreValues (value.Literal (lit.Char k)) (value.MoreValues rest value.NoValue))) e =
    text_characters labels rest (right_true (same_constructor c labels.cons) (d.is_text labels rest) e)
text_characters labels (value.Constructed c (value.MoreValues x value.NoValue)) e =
    absurd (true≢false (sym e ∙ text_of_one labels c x))
text_characters labels (value.Constructed c (value.MoreValues x (value.MoreValues y (value.MoreValues z zs)))) e =
    absurd (true≢false (sym e ∙ text_of_many labels c x y z zs))
text_characters labels _ e = let no : ⊥ = cc in absurd no

abbrev pub is_variable_shape : Shape → Bool
is_variable_shape shape.Variable = true
is_variable_shape _ = false

-- a constructor makes no variable
pub variable_constructed : (labels : Labels) (c : ConId) (vs : Values) → is_variable_shape (shape_of labels (value.Constructed c vs)) ≡ false
variable_constructed labels c value.NoValue = neither is_variable_shape shape.Empty shape.Simple refl refl (same_constructor c labels.nil)
variable_constructed labels c (value.MoreValues x value.NoValue) = not_closed is_variable_shape refl refl (tuple_named labels c)
variable_constructed labels c (value.MoreValues x (value.MoreValues rest value.NoValue)) =
    not_paired is_variable_shape refl refl refl refl refl (same_constructor c labels.cons) (shape_of labels x) (shape_of labels rest) (tuple_named labels c)
variable_constructed labels c (value.MoreValues x (value.MoreValues y (value.MoreValues z zs))) = not_closed is_variable_shape refl refl (tuple_named labels c)

pub no_list_by : (s : Shape) → (s ≡ shape.Text → ⊥) → (s ≡ shape.Empty → ⊥) → (s ≡ shape.List → ⊥) → (s ≡ shape.Open → ⊥)
    → is_variable_shape s ≡ false → is_no_list s ≡ true
no_list_by shape.Text a b c d e = absurd (a refl)
no_list_by shape.Empty a b c d e = absurd (b refl)
no_list_by shape.List a b c d e = absurd (c refl)
no_list_by shape.Open a b c d e = absurd (d refl)
no_list_by shape.Variable a b c d e = let no : ⊥ = cc in absurd no
no_list_by shape.Character a b c d e = refl
no_list_by shape.Compound a b c d e = refl
no_list_by shape.Simple a b c d e = refl

-- any value of the shape of a text is shown as one
pub shown_text_any : (labels : Labels) (v : Value) → shape_of labels v ≡ shape.Text → d.display labels v ≡ 34 ∷ (d.string_text (d.characters v) ++ 34 ∷ [])
shown_text_any labels (value.Constructed c vs) e = shown_text labels c vs e
shown_text_any labels (value.Literal (lit.Int n)) e = absurd (true≢false (sym (ap texts e) ∙ neither texts shape.Compound shape.Simple refl refl (is_negative n)))
shown_text_any labels (value.Literal (lit.Char c)) e = let no : ⊥ = cc in absurd no
shown_text_any labels value.Bottom e = let no : ⊥ = cc in absurd no
shown_text_any labels (value.Variable n) e = let no : ⊥ = cc in absurd no
shown_text_any labels (value.Partial h vs) e = let no : ⊥ = cc in absurd no
