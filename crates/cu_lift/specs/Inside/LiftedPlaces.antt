-- What the code keeps of the local functions of one top-level function, and how terms are lifted by
-- it.
use Rattle.std.specs.Prelude.{◌≡◌, ℕ, zero, suc, ◌+◌, ◌-◌, ◌<◌, List, [], ◌∷◌, ◌++◌, Some, codes, decimal, if◌then◌else◌, length, map, nat_eq, slice_get, slice_index_or}
use Rattle.std.specs.declared.alloc.Global.{Global}
use Rattle.std.specs.declared.vec.Vec.{Vec}
use Rattle.cu_kernel.specs.Captures.{AreCaptured}
use Rattle.cu_kernel.specs.Kernel.{Function, Mark}
use Rattle.cu_kernel.specs.LocalKernel.{LocalFunction, TopFunction}
use Rattle.cu_lift.specs.Lifting.{Lifting, Locals, Numbered, in_order, lifted_group, local_name, local_number, mark_group, rank, stands_before, top_number}
use Rattle.cu_lift.specs.declared.local_order.Entry.{Entry}
use Rattle.cu_lift.specs.declared.placement.Placement.{Placement}
use Rattle.cu_lift.specs.declared.renaming.Renaming.{Renaming}
use Rattle.cu_names.specs.Texts.{IsKnown, text_of}
use Rattle.cu_names.specs.declared.names.NameId.{NameId}

-- ---- the order

-- a local function's number and place
abbrev pub entry_of : Numbered → Entry
entry_of f = record { number = f.number; place = f.function.place }

-- put in before the first that doesn't stand before it
abbrev pub put_entry : Entry → List Entry → List Entry
put_entry e [] = e ∷ []
put_entry e (g ∷ gs) = if stands_before g.place e.place then g ∷ put_entry e gs else e ∷ g ∷ gs

-- how many stand before the one with a number
abbrev pub entry_rank : ℕ → List Entry → ℕ
entry_rank k [] = 0
entry_rank k (e ∷ es) = if nat_eq e.number k then 0 else entry_rank k es + 1

abbrev pub AreBelow : ℕ → List Entry → Type 0
AreBelow n es = (i : ℕ) (e : Entry) → slice_get es i ≡ Some e → e.number < n

-- ---- lists of rows

abbrev pub row_items : List (Vec ℕ Global) → List (List ℕ)
row_items rows = map (λ row. row.items) rows

-- each local function has its captured variables
pub record AreRows (locals : List LocalFunction) (rows : List (List ℕ)) : Type 0 where
  pub as_many : length rows ≡ length locals
  pub each : (k : ℕ) (row : List ℕ) → slice_get rows k ≡ Some row → AreCaptured locals k row

-- the names of functions that have these numbers, after the one with the text and its number
pub record AreNames (texts : List (List ℕ)) (text : List ℕ) (number : ℕ) (numbers : List ℕ)
    (ids : List NameId) : Type 0 where
  pub as_many : length ids ≡ length numbers
  pub known : (k : ℕ) (id : NameId) → slice_get ids k ≡ Some id → IsKnown texts id
  pub named : (k n : ℕ) (id : NameId) → slice_get ids k ≡ Some id → slice_get numbers k ≡ Some n
      → text_of texts id ≡ text ++ (codes "#" ++ decimal (n - number))

-- ---- what is known of one top-level function's local functions

abbrev pub captured_in : Placement → ℕ → List ℕ
captured_in p k = slice_index_or (row_items p.captured.items) k []

abbrev pub name_in : Placement → ℕ → NameId
name_in p k = slice_index_or p.names.items k (record { 0 = 0 })

pub record IsPlacement (texts : List (List ℕ)) (number : ℕ) (f : TopFunction)
    (p : Placement) : Type 0 where
  pub ordered : p.ordered.items ≡ map (λ e. e.number) (in_order f.locals)
  pub numbers : (k : ℕ) → slice_index_or p.numbers.items k p.end ≡ local_number number f.locals k
  pub captured : AreRows f.locals (row_items p.captured.items)
  pub names_many : length p.names.items ≡ length f.locals
  pub known : (k : ℕ) (id : NameId) → slice_get p.names.items k ≡ Some id → IsKnown texts id
  pub named : (k : ℕ) (id : NameId) → slice_get p.names.items k ≡ Some id
      → text_of texts id ≡ local_name (text_of texts f.name) (rank f.locals k)

-- the first top-level functions have theirs
pub record ArePlaced (texts : List (List ℕ)) (fs : List TopFunction)
    (ps : List Placement) : Type 0 where
  pub each : (i : ℕ) (f : TopFunction) (p : Placement) → slice_get fs i ≡ Some f
      → slice_get ps i ≡ Some p
      → IsPlacement texts (top_number fs i) f p

-- ---- lifting by these

abbrev pub lifting_by : List ℕ → Placement → Lifting
lifting_by tops p = record {
  top = λ i. slice_index_or tops i 0;
  inner = λ k. slice_index_or p.numbers.items k p.end;
  captured = captured_in p;
}

abbrev pub lifting_meaning : Renaming → Lifting
lifting_meaning r = lifting_by r.tops.now r.placement.now

abbrev pub captured_at : List Placement → ℕ → ℕ → List ℕ
captured_at [] i k = []
captured_at (p ∷ ps) zero k = captured_in p k
captured_at (p ∷ ps) (suc i) k = captured_at ps i k

abbrev pub name_at : List Placement → ℕ → ℕ → NameId
name_at [] i k = record { 0 = 0 }
name_at (p ∷ ps) zero k = name_in p k
name_at (p ∷ ps) (suc i) k = name_at ps i k

abbrev pub locals_by : List Placement → Locals
locals_by ps = record { captured = captured_at ps; name = name_at ps }

abbrev pub numbered : ℕ → LocalFunction → Numbered
numbered k f = record { number = k; function = f }

-- the numbers of local functions in the order of their places
abbrev pub ordered_numbers : List LocalFunction → List ℕ
ordered_numbers locals = map (λ e. e.number) (in_order locals)

-- the functions and the marks that come of top-level functions by these
abbrev pub functions_by : List ℕ → List Placement → List TopFunction → List Function
functions_by tops (p ∷ ps) (f ∷ fs) =
    lifted_group (lifting_by tops p) (name_in p) f ++ functions_by tops ps fs
functions_by tops _ _ = []

abbrev pub marks_by : List Placement → List Mark → List TopFunction → List Mark
marks_by (p ∷ ps) (m ∷ ms) (f ∷ fs) = mark_group (captured_in p) m f ++ marks_by ps ms fs
marks_by _ _ _ = []
