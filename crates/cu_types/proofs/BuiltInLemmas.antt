-- The types of constructors and of what is built in, as they are put together.
use Rattle.std.proofs.Common.{◌≡◌, ℕ, zero, suc, ◌+◌, ◌<◌, ◌≤◌, List, [], ◌∷◌, ◌++◌, Option, None, Some, length, map, option_map, drop, take, get_or, slice_get, slice_index_or, refl, sym, ap, ◌∙◌, subst, arith, append_assoc, length-append}
use Rattle.std.proofs.Math.Seq.{drop-cons}
use Rattle.std.proofs.lemmas.List.{map_more}
use mathlib.Core.Path.{fun_ext}
use Rattle.cu_calculus.specs.declared.ConId.{ConId}
use Rattle.cu_calculus.specs.declared.builtin.Special.{Special}
use Rattle.cu_kernel.specs.Kernel.{Constructor, DataType, Kernel, Placed, constructor_at, placed, placed_from}
use Rattle.cu_kernel.specs.KernelOf.{constructor_meaning, placed_meaning, type_meaning}
use Rattle.cu_kernel.specs.TypeExpr as type
use Rattle.cu_kernel.specs.TypeExpr.{TypeExpr}
use Rattle.cu_kernel.specs.TypesOf.{type_of}
use Rattle.cu_kernel.specs.declared.constructors.Placed as code_placed
use Rattle.cu_kernel.specs.declared.declarations.Constructor as code_constructor
use Rattle.cu_kernel.specs.declared.declarations.DataType as code_type
use Rattle.cu_kernel.specs.declared.type_term.TypeTerm.{TypeTerm}
use Rattle.cu_types.proofs.Adding.{none_read}
use Rattle.cu_types.proofs.ReadTypes.{reads_kept}
use Rattle.cu_types.proofs.ReadingSteps.{kept_types}
use Rattle.cu_types.proofs.TableLemmas.{mapped_twice}
use Rattle.cu_types.proofs.Unfolding.{kept_tree, longer, no_more}
use Rattle.cu_types.specs.BuiltInTypes.{arrows, bool, constructor_type, data_type, values, variables_from}
use Rattle.cu_types.specs.Inside.Building.{made_type, made_types}
use Rattle.cu_types.specs.Inside.Knowing.{values_at}
use Rattle.cu_types.specs.Inside.Reading.{AllRead, Reads}
use Rattle.cu_types.specs.Synonyms.{bodies, expanded, expanded_by}
use Rattle.cu_types.specs.Table.{Shape, at, built, trees}
use Rattle.cu_types.specs.declared.node.TypeHead.TheVariants as head

-- one addition after another
pub reads_over : (a c d more : List Shape) (t u : TypeExpr) (place : ℕ) → c ≡ a ++ more → u ≡ t → Reads c d u place → Reads a d t place
reads_over a c d more t u place is same r = record {
  more = more ++ r.more;
  extends = r.extends ∙ ap (λ (xs : List Shape). xs ++ r.more) is ∙ append_assoc a more r.more;
  within = r.within;
  value = r.value ∙ same;
}

pub read_within : (a b c : List Shape) (t u : TypeExpr) (i j : ℕ) → Reads a b t i → Reads b c u j → i < length c
read_within a b c t u i j first second =
    let here : i < length b = first.within in
    let long : length b ≤ length c = longer b c second.more second.extends in
    omega arith

-- a function type whose value was added first, and then its argument
pub reads_arrow : (a b c d : List Shape) (t r : TypeExpr) (i j place : ℕ) → Reads a b r i → Reads b c t j
    → Reads c d (type.Arrow (at (trees c) j) (at (trees c) i)) place → Reads a d (type.Arrow t r) place
reads_arrow a b c d t r i j place first second whole =
    let kept : Reads a c r i = reads_kept a b c second.more r i second.extends first in
    reads_over a c d kept.more (type.Arrow t r) (type.Arrow (at (trees c) j) (at (trees c) i)) place kept.extends
    (ap (λ (u : TypeExpr). type.Arrow u (at (trees c) i)) second.value ∙ ap (type.Arrow t) kept.value) whole

-- a function type over two places
pub arrow_read : (ss after : List Shape) (left right : ℕ) (items : List ℕ) (place : ℕ) → items ≡ left ∷ right ∷ []
    → Reads ss after (built head.Arrow (map (at (trees ss)) items)) place
    → Reads ss after (type.Arrow (at (trees ss) left) (at (trees ss) right)) place
arrow_read ss after left right items place is read =
    subst (λ (xs : List ℕ). Reads ss after (built head.Arrow (map (at (trees ss)) xs)) place) is read

-- type variables, one more

variables_more : (x count : ℕ) → variables_from x (count + 1) ≡ variables_from x count ++ type.Variable (x + count) ∷ []
variables_more x zero =
    let e : x ≡ x + 0 = omega arith in ap (λ (y : ℕ). type.Variable y ∷ []) e
variables_more x (suc count) =
    let e : suc count + 1 ≡ suc (count + 1) = omega arith in
    let f : (x + 1) + count ≡ x + suc count = omega arith in
    ap (variables_from x) e ∙ ap (λ (ts : List TypeExpr). type.Variable x ∷ ts) (variables_more (x + 1) count)
    ∙ ap (λ (y : ℕ). type.Variable x ∷ variables_from (x + 1) count ++ type.Variable y ∷ []) f

pub next_variable : (count : ℕ) → variables_from 0 (count + 1) ≡ variables_from 0 count ++ type.Variable count ∷ []
next_variable count =
    let e : 0 + count ≡ count = omega arith in
    variables_more 0 count ∙ ap (λ (y : ℕ). variables_from 0 count ++ type.Variable y ∷ []) e

-- functions that take one argument less

arrows_last : (ts : List TypeExpr) (t r : TypeExpr) → arrows (ts ++ t ∷ []) r ≡ arrows ts (type.Arrow t r)
arrows_last [] t r = refl
arrows_last (u ∷ ts) t r = ap (type.Arrow u) (arrows_last ts t r)

map_last : (f : ℕ → TypeExpr) (xs : List ℕ) (y : ℕ) → map f (xs ++ y ∷ []) ≡ map f xs ++ f y ∷ []
map_last f [] y = refl
map_last f (x ∷ xs) y = ap (λ (ys : List TypeExpr). f x ∷ ys) (map_last f xs y)

prefix_member : (xs : List ℕ) (y k a : ℕ) → slice_get xs k ≡ Some a → slice_get (xs ++ y ∷ []) k ≡ Some a
prefix_member [] y k a is = let none : ⊥ = cc in absurd none
prefix_member (x ∷ xs) y zero a is = is
prefix_member (x ∷ xs) y (suc k) a is = prefix_member xs y k a is

last_member : (xs : List ℕ) (y : ℕ) → slice_get (xs ++ y ∷ []) (length xs) ≡ Some y
last_member [] y = refl
last_member (x ∷ xs) y = last_member xs y

pub last_within : (xs ys : List ℕ) (y n : ℕ) → xs ≡ ys ++ y ∷ [] → ((k a : ℕ) → slice_get xs k ≡ Some a → a < n) → y < n
last_within xs ys y n is within = within (length ys) y (ap (λ (zs : List ℕ). slice_get zs (length ys)) is ∙ last_member ys y)

pub prefix_within : (xs ys : List ℕ) (y n : ℕ) → xs ≡ ys ++ y ∷ [] → ((k a : ℕ) → slice_get xs k ≡ Some a → a < n) → (k a : ℕ)
    → slice_get ys k ≡ Some a → a < n
prefix_within xs ys y n is within k a e = within k a (ap (λ (zs : List ℕ). slice_get zs k) is ∙ prefix_member ys y k a e)

-- a function type whose last argument was taken
pub functions_step : (ss mid after : List Shape) (xs ys : List ℕ) (y whole place : ℕ) (goal : TypeExpr) → xs ≡ ys ++ y ∷ []
    → ((k a : ℕ) → slice_get xs k ≡ Some a → a < length ss)
    → Reads ss mid (at (trees mid) whole) whole → arrows (map (at (trees ss)) xs) (at (trees mid) whole) ≡ goal
    → Reads mid after (type.Arrow (at (trees mid) y) (at (trees mid) whole)) place
    → arrows (map (at (trees ss)) ys) (at (trees after) place) ≡ goal
functions_step ss mid after xs ys y whole place goal is within so_far goes one =
    ap (arrows (map (at (trees ss)) ys)) (one.value
    ∙ ap (λ (t : TypeExpr). type.Arrow t (at (trees mid) whole)) (kept_tree ss mid so_far.more y so_far.extends (last_within xs ys y (length ss) is within)))
    ∙ sym (arrows_last (map (at (trees ss)) ys) (at (trees ss) y) (at (trees mid) whole))
    ∙ ap (λ (ts : List TypeExpr). arrows ts (at (trees mid) whole)) (sym (map_last (at (trees ss)) ys y) ∙ ap (map (at (trees ss))) (sym is))
    ∙ goes

pub functions_end : (ss now : List Shape) (xs : List ℕ) (whole : ℕ) (goal : TypeExpr) → length xs ≡ 0
    → Reads ss now (at (trees now) whole) whole → arrows (map (at (trees ss)) xs) (at (trees now) whole) ≡ goal → Reads ss now goal whole
functions_end ss now [] whole goal none read goes = subst (λ (t : TypeExpr). Reads ss now t whole) goes read
functions_end ss now (x ∷ xs) whole goal none read goes = absurd (omega arith)

pub read_nothing : (ss : List Shape) (place : ℕ) → place < length ss → Reads ss ss (at (trees ss) place) place
read_nothing ss place within = record { more = []; extends = no_more ss; within = within; value = refl }

-- a data type with its parameters
pub data_read : (a b c : List Shape) (place : ℕ) (ts : List TypeExpr) (ps : List ℕ) (made : List TypeExpr → TypeExpr)
    → AllRead a b ts ps → Reads b c (made (map (at (trees b)) ps)) place → Reads a c (made ts) place
data_read a b c place ts ps made all one =
    reads_over a b c all.more (made ts) (made (map (at (trees b)) ps)) place all.extends (ap made all.values) one

-- the type of a constructor: its fields were added, then what it gives, and then the functions
pub constructor_read : (a b c d : List Shape) (ts : List TypeExpr) (r : TypeExpr) (ps : List ℕ) (value place : ℕ)
    → AllRead a b ts ps → Reads b c r value
    → Reads c d (arrows (map (at (trees c)) ps) (at (trees c) value)) place → at (trees d) place ≡ arrows ts r
constructor_read a b c d ts r ps value place all given whole =
    whole.value
    ∙ ap (λ (us : List TypeExpr). arrows us (at (trees c) value))
    (kept_types b c given.more ps given.extends (λ k p e. all.within k p e) ∙ all.values)
    ∙ ap (arrows ts) given.value

pub fields_within : (a b c : List Shape) (ts : List TypeExpr) (r : TypeExpr) (ps : List ℕ) (value : ℕ) → AllRead a b ts ps
    → Reads b c r value → (k p : ℕ) → slice_get ps k ≡ Some p → p < length c
fields_within a b c ts r ps value all given k p e =
    let here : p < length b = all.within k p e in
    let long : length b ≤ length c = longer b c given.more given.extends in
    omega arith

pub fields_meant : (body : ℕ → TypeExpr) (place arity : ℕ) (c : code_constructor.Constructor) (fields : List TypeTerm)
    → fields ≡ c.fields.items
    → arrows (map (λ t. expanded_by body (type_of t)) fields) (data_type place (variables_from 0 arity))
    ≡ made_type body place arity (constructor_meaning c)
fields_meant body place arity c fields is =
    ap (λ (ts : List TypeExpr). arrows ts (data_type place (variables_from 0 arity)))
    (ap (map (λ t. expanded_by body (type_of t))) is ∙ sym (mapped_twice (expanded_by body) type_of c.fields.items))

-- constructors by their numbers

abbrev arity_of : Option DataType → ℕ
arity_of None = 0
arity_of (Some t) = t.arity

abbrev type_placed : (ℕ → TypeExpr) → List DataType → Option Placed → TypeExpr
type_placed body types None = type.Variable 0
type_placed body types (Some c) = made_type body c.of_type (arity_of (slice_get types c.of_type)) c.constructor

in_one_type : (body : ℕ → TypeExpr) (types : List DataType) (place arity : ℕ) (cs : List Constructor) (rest : List TypeExpr)
    (others : List Placed) → arity_of (slice_get types place) ≡ arity
    → ((k : ℕ) → slice_index_or rest k (type.Variable 0) ≡ type_placed body types (slice_get others k)) → (k : ℕ)
    → slice_index_or (map (made_type body place arity) cs ++ rest) k (type.Variable 0)
    ≡ type_placed body types (slice_get (placed place cs ++ others) k)
in_one_type body types place arity [] rest others is later k = later k
in_one_type body types place arity (c ∷ cs) rest others is later zero = ap (λ (n : ℕ). made_type body place n c) (sym is)
in_one_type body types place arity (c ∷ cs) rest others is later (suc k) = in_one_type body types place arity cs rest others is later k

type_at_place : (done ts : List DataType) (t : DataType) → slice_get (done ++ t ∷ ts) (length done) ≡ Some t
type_at_place [] ts t = refl
type_at_place (d ∷ done) ts t = type_at_place done ts t

in_types : (body : ℕ → TypeExpr) (types done ts : List DataType) (place : ℕ) → types ≡ done ++ ts → place ≡ length done → (k : ℕ)
    → slice_index_or (made_types body place ts) k (type.Variable 0) ≡ type_placed body types (slice_get (placed_from place ts) k)
in_types body types done [] place is here k = refl
in_types body types done (t ∷ ts) place is here k =
    let at_place : slice_get types place ≡ Some t =
    ap (λ (us : List DataType). slice_get us place) is ∙ ap (slice_get (done ++ t ∷ ts)) here ∙ type_at_place done ts t in
    let grown = length-append done (t ∷ []) in
    in_one_type body types place t.arity t.constructors (made_types body (place + 1) ts) (placed_from (place + 1) ts)
    (ap arity_of at_place)
    (λ j. in_types body types (done ++ t ∷ []) ts (place + 1) (is ∙ sym (append_assoc done (t ∷ []) ts)) (omega arith) j) k

arity_meant : (kernel : Kernel) (c : ConId) (p : Placed) (o : Option DataType) → constructor_at kernel.types c ≡ Some p
    → slice_get kernel.types p.of_type ≡ o
    → constructor_type kernel c ≡ made_type (bodies kernel (length kernel.synonyms)) p.of_type (arity_of o) p.constructor
unfolding expanded
arity_meant kernel c p None is found = rw (is, found) refl
arity_meant kernel c p (Some t) is found = rw (is, found) refl

placed_meant : (kernel : Kernel) (c : ConId) (o : Option Placed) → constructor_at kernel.types c ≡ o
    → type_placed (bodies kernel (length kernel.synonyms)) kernel.types o ≡ constructor_type kernel c
placed_meant kernel c None is = rw is refl
placed_meant kernel c (Some p) is = sym (arity_meant kernel c p (slice_get kernel.types p.of_type) is refl)

pub constructors_meant : (kernel : Kernel) (synonyms : List TypeExpr) (types : List code_type.DataType) (found : List TypeExpr)
    → at synonyms ≡ bodies kernel (length kernel.synonyms) → map type_meaning types ≡ kernel.types
    → found ≡ made_types (at synonyms) 0 (map type_meaning types) → (c : ConId) → at found c.0 ≡ constructor_type kernel c
constructors_meant kernel synonyms types found are same is c =
    ap (λ (ts : List TypeExpr). at ts c.0) is
    ∙ ap (λ (ts : List DataType). at (made_types (at synonyms) 0 ts) c.0) same
    ∙ ap (λ (body : ℕ → TypeExpr). at (made_types body 0 kernel.types) c.0) are
    ∙ in_types (bodies kernel (length kernel.synonyms)) kernel.types [] kernel.types 0 refl refl c.0
    ∙ placed_meant kernel c (constructor_at kernel.types c) refl

-- the types of constructors, one data type after another

nothing_after : (ts : List TypeExpr) → ts ++ [] ≡ ts
nothing_after [] = refl
nothing_after (t ∷ ts) = ap (λ (us : List TypeExpr). t ∷ us) (nothing_after ts)

nothing_dropped : {A : Type 0} (xs : List A) → drop 0 xs ≡ xs
nothing_dropped [] = refl
nothing_dropped (x ∷ xs) = refl

all_dropped : {A : Type 0} (n : ℕ) (xs : List A) → length xs ≤ n → drop n xs ≡ []
all_dropped zero [] few = refl
all_dropped zero (x ∷ xs) few = absurd (omega arith)
all_dropped (suc n) [] few = refl
all_dropped (suc n) (x ∷ xs) few = all_dropped n xs (omega arith)

pub made_start : (body : ℕ → TypeExpr) (types : List code_type.DataType) (found : List TypeExpr) → found ≡ []
    → found ++ made_types body 0 (map type_meaning (drop 0 types)) ≡ made_types body 0 (map type_meaning types)
made_start body types found none =
    ap (λ (ts : List TypeExpr). ts ++ made_types body 0 (map type_meaning (drop 0 types))) none
    ∙ ap (λ (ts : List code_type.DataType). made_types body 0 (map type_meaning ts)) (nothing_dropped types)

pub made_step : (body : ℕ → TypeExpr) (types : List code_type.DataType) (i : ℕ) (x : code_type.DataType) (found after : List TypeExpr)
    (items : List code_constructor.Constructor) (whole : List TypeExpr) → i < length types → x ≡ get_or types i x
    → items ≡ x.constructors.items → after ≡ found ++ map (λ c. made_type body i x.arity (constructor_meaning c)) items
    → found ++ made_types body i (map type_meaning (drop i types)) ≡ whole
    → after ++ made_types body (i + 1) (map type_meaning (drop (i + 1) types)) ≡ whole
made_step body types i x found after items whole within is same pushed before =
    let rest = made_types body (i + 1) (map type_meaning (drop (i + 1) types)) in
    let e : suc i ≡ i + 1 = omega arith in
    let here : drop i types ≡ x ∷ drop (i + 1) types =
    drop-cons types i x within ∙ ap (λ (y : code_type.DataType). y ∷ drop (suc i) types) (sym is)
    ∙ ap (λ (n : ℕ). x ∷ drop n types) e in
    ap (λ (ts : List TypeExpr). ts ++ rest) pushed
    ∙ append_assoc found (map (λ c. made_type body i x.arity (constructor_meaning c)) items) rest
    ∙ ap (λ (ts : List TypeExpr). found ++ (ts ++ rest))
    (ap (map (λ c. made_type body i x.arity (constructor_meaning c))) same
    ∙ sym (mapped_twice (made_type body i x.arity) constructor_meaning x.constructors.items))
    ∙ sym (ap (λ (ts : List code_type.DataType). found ++ made_types body i (map type_meaning ts)) here)
    ∙ before

pub made_end : (body : ℕ → TypeExpr) (types : List code_type.DataType) (i : ℕ) (found whole : List TypeExpr) → length types ≤ i
    → found ++ made_types body i (map type_meaning (drop i types)) ≡ whole → found ≡ whole
made_end body types i found whole few before =
    sym (nothing_after found)
    ∙ sym (ap (λ (ts : List code_type.DataType). found ++ made_types body i (map type_meaning ts)) (all_dropped i types few))
    ∙ before

-- lists of types that were read

pub none_read_of : {A : Type 0} (ss : List Shape) (f : A → TypeExpr) (xs : List A) (ps : List ℕ) → ps ≡ []
    → AllRead ss ss (map f (take 0 xs)) ps
none_read_of ss f [] ps is = subst (AllRead ss ss []) (sym is) (none_read ss)
none_read_of ss f (x ∷ xs) ps is = subst (AllRead ss ss []) (sym is) (none_read ss)

pub map_next : {A : Type 0} (f : A → TypeExpr) (xs : List A) (i : ℕ) (x : A) → i < length xs → x ≡ get_or xs i x
    → map f (take (i + 1) xs) ≡ map f (take i xs) ++ f x ∷ []
map_next {A = A} f xs i x within is =
    map_more f xs i x within ∙ ap (λ (y : A). map f (take i xs) ++ f y ∷ []) (sym is)

-- the types of `True` and of all values

pub truth_some : (kernel : Kernel) (special : Special) (p : code_placed.Placed) → special ≡ kernel.special
    → option_map placed_meaning (Some p) ≡ constructor_at kernel.types special.truth → data_type p.of_type.0 [] ≡ bool kernel
truth_some kernel special p same is =
    let found : constructor_at kernel.types kernel.special.truth ≡ Some (placed_meaning p) =
    ap (λ (s : Special). constructor_at kernel.types s.truth) (sym same) ∙ sym is in
    rw found refl

pub truth_none : (kernel : Kernel) (special : Special) → special ≡ kernel.special
    → option_map placed_meaning None ≡ constructor_at kernel.types special.truth → type.Variable 0 ≡ bool kernel
truth_none kernel special same is =
    let found : constructor_at kernel.types kernel.special.truth ≡ None =
    ap (λ (s : Special). constructor_at kernel.types s.truth) (sym same) ∙ sym is in
    rw found refl

pub values_none : (kernel : Kernel) (special : Special) → special ≡ kernel.special → special.values ≡ None
    → values_at None ≡ values kernel
values_none kernel special same none =
    let found : kernel.special.values ≡ None = ap (λ (s : Special). s.values) (sym same) ∙ none in
    fun_ext (λ t. rw found refl)

values_of : (kernel : Kernel) (con : ConId) (o : Option Placed) → kernel.special.values ≡ Some con
    → constructor_at kernel.types con ≡ o → values_at (option_map (λ (p : Placed). p.of_type) o) ≡ values kernel
values_of kernel con None has is = fun_ext (λ t. rw (has, is) refl)
values_of kernel con (Some p) has is = fun_ext (λ t. rw (has, is) refl)

pub values_some : (kernel : Kernel) (special : Special) (con : ConId) (place : Option ℕ) → special ≡ kernel.special
    → special.values ≡ Some con → place ≡ option_map (λ (p : Placed). p.of_type) (constructor_at kernel.types con)
    → values_at place ≡ values kernel
values_some kernel special con place same has is =
    subst (λ (o : Option ℕ). values_at o ≡ values kernel) (sym is)
    (values_of kernel con (constructor_at kernel.types con) (ap (λ (s : Special). s.values) (sym same) ∙ has) refl)
