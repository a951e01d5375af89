-- Reading writes the cells of values from left to right, and numbers variables where they are met.
use Rattle.std.proofs.Common.{◌≡◌, ℕ, suc, ◌+◌, ◌<◌, ◌≤◌, Bool, true, false, ◌||◌, List, [], ◌∷◌, ◌++◌, Option, None, Some, if◌then◌else◌, refl, ap, sym, ◌∙◌, subst, add-one, length, map, take, drop, get_or, reverse, ltb, arith, append_assoc, append-nil}
use Rattle.std.specs.Prelude.{IfSome}
use Rattle.std.proofs.lemmas.Bool.{le-ltb, lt-ltb, ltb-true}
use Rattle.std.proofs.lemmas.List.{length-reverse, map-append, take-append-drop, take_all}
use Rattle.std.proofs.Math.Seq.{drop-cons, take-suc}
use Rattle.cu_calculus.specs.Value as value
use Rattle.cu_calculus.specs.Value.{Value, Values, count, values_of}
use Rattle.cu_machine.specs.declared.Kind.{Kind}
use Rattle.cu_machine.specs.declared.Kind.TheVariants as kind
use Rattle.cu_machine.specs.Graph.{Graph, head_of, node_at}
use Rattle.cu_machine.specs.Next.{read, spelled_all}
use Rattle.cu_machine.specs.Places.{holds, joined}
use Rattle.cu_machine.specs.Spell.{all_cells, all_renumbered, all_variables_in, cells, cells_of_all, ordinal, renumbered, spelled, spelled_at, variables_in, variables_of_all}
use Rattle.cu_machine.specs.Validity.{ArgumentsThere, IsAcyclic, are_places}
use Rattle.cu_machine.proofs.FirstLaws.{at_prefix, holds_before, holds_joined, joined_assoc, or_true}
use Rattle.cu_machine.proofs.Fuel.{left_true, right_true}
use Rattle.cu_machine.proofs.Tables.{spelled_table}
use Rattle.cu_step.specs.Inside.Reading.{cell_at, parts_at, with_head}
use Rattle.cu_step.specs.Inside.Written.{AllRead, Written, met_in, text}
use Rattle.cu_step.proofs.Heights.{head_lower}
use Rattle.cu_step.proofs.Needs.{all_pass, none_joined}
use Rattle.cu_step.proofs.Occurrences.{all_both}
use Rattle.cu_step.proofs.Ordinals.{ordinal_later}
use Rattle.cu_step.proofs.Reversals.{added_first, last_first}
use Rattle.cu_values.specs.declared.cell.Cell.{Cell}
use Rattle.cu_values.specs.declared.cell.Cell.TheVariants as cell
use Rattle.cu_values.specs.Cells as spelling
use Rattle.cu_values.specs.Cells.{IsOneSpelled, read_all, spell, spell_all}
use Rattle.cu_values.proofs.CellLemmas.{read_all_one}

-- ---- several values

variables_append : (us vs : List Value) → variables_of_all (us ++ vs) ≡ joined (variables_of_all us) (variables_of_all vs)
variables_append [] vs = sym (all_pass (variables_of_all vs))
variables_append (u ∷ us) vs =
    ap (joined (variables_in u)) (variables_append us vs) ∙ sym (joined_assoc (variables_in u) (variables_of_all us) (variables_of_all vs))

variables_values : (vs : List Value) → all_variables_in (values_of vs) ≡ variables_of_all vs
variables_values [] = refl
variables_values (v ∷ vs) = ap (joined (variables_in v)) (variables_values vs)

cells_append : (us vs : List Value) → cells_of_all (us ++ vs) ≡ cells_of_all us + cells_of_all vs
cells_append [] vs = omega arith
cells_append (u ∷ us) vs = let rest = cells_append us vs in omega arith

cells_values : (vs : List Value) → all_cells (values_of vs) ≡ cells_of_all vs
cells_values [] = refl
cells_values (v ∷ vs) = ap (λ n. cells v + n) (cells_values vs)

text_append : (number : ℕ → ℕ) (us vs : List Value) → text number (us ++ vs) ≡ text number us ++ text number vs
text_append number [] vs = refl
text_append number (u ∷ us) vs =
    ap (λ rest. spell (renumbered number u) ++ rest) (text_append number us vs)
    ∙ sym (append_assoc (spell (renumbered number u)) (text number us) (text number vs))

-- each value has a cell
cells_some : (v : Value) → 1 ≤ cells v
cells_some value.Bottom = omega arith
cells_some (value.Variable x) = omega arith
cells_some (value.Literal l) = omega arith
cells_some (value.Constructed c vs) = omega arith
cells_some (value.Partial h vs) = omega arith

cells_many : (part : ℕ → Value) (ids : List ℕ) → length ids ≤ cells_of_all (map part ids)
cells_many part [] = omega arith
cells_many part (id ∷ ids) = let one = cells_some (part id) in let rest = cells_many part ids in omega arith

-- ---- heads

count_values : (number : ℕ → ℕ) (part : ℕ → Value) (ids : List ℕ) → count (all_renumbered number (values_of (map part ids))) ≡ length ids
count_values number part [] = refl
count_values number part (id ∷ ids) = let rest = count_values number part ids in omega arith

-- the cell of a head in which variables have these numbers
abbrev head_cell : (ℕ → ℕ) → ℕ → Kind → ℕ → Cell
head_cell number id (kind.Cons c) n = cell.Con c n
head_cell number id (kind.Part h) n = cell.Part h n
head_cell number id (kind.Lit l) n = cell.Lit l
head_cell number id kind.Free n = cell.LVar (number id)
head_cell number id _ n = cell.Bottom

text_head : (number : ℕ → ℕ) (part : ℕ → Value) (id : ℕ) (k : Kind) (args : List ℕ)
    → spell (renumbered number (spelled_at part id k args)) ≡ head_cell number id k (length args) ∷ text number (map part (parts_at k args))
text_head number part id (kind.Cons c) args = ap (λ n. cell.Con c n ∷ text number (map part args)) (count_values number part args)
text_head number part id (kind.Part h) args = ap (λ n. cell.Part h n ∷ text number (map part args)) (count_values number part args)
text_head number part id (kind.Lit l) args = refl
text_head number part id kind.Free args = refl
text_head number part id _ args = refl

cells_head : (part : ℕ → Value) (id : ℕ) (k : Kind) (args : List ℕ) → cells (spelled_at part id k args) ≡ cells_of_all (map part (parts_at k args)) + 1
cells_head part id (kind.Cons c) args = ap (λ n. n + 1) (cells_values (map part args))
cells_head part id (kind.Part h) args = ap (λ n. n + 1) (cells_values (map part args))
cells_head part id (kind.Lit l) args = refl
cells_head part id kind.Free args = refl
cells_head part id _ args = refl

met_head : (met : List ℕ) (part : ℕ → Value) (id : ℕ) (k : Kind) (args : List ℕ)
    → joined met (variables_in (spelled_at part id k args)) ≡ joined (with_head met id k) (variables_of_all (map part (parts_at k args)))
met_head met part id (kind.Cons c) args = ap (joined met) (variables_values (map part args))
met_head met part id (kind.Part h) args = ap (joined met) (variables_values (map part args))
met_head met part id (kind.Lit l) args = refl
met_head met part id kind.Free args = sym (none_joined (joined met (id ∷ [])))
met_head met part id _ args = refl

holds_last : (xs : List ℕ) (id : ℕ) → holds (joined xs (id ∷ [])) id ≡ true
holds_last xs id = holds_joined xs (id ∷ []) id ∙ ap (λ b. holds xs id || b) (at_prefix id []) ∙ or_true (holds xs id)

-- a head's cell is the one that it has in the end
cell_later : (met : List ℕ) (id : ℕ) (k : Kind) (n : ℕ) (more : List ℕ)
    → cell_at (with_head met id k) id k n ≡ head_cell (ordinal (joined (with_head met id k) more)) id k n
cell_later met id (kind.Cons c) n more = refl
cell_later met id (kind.Part h) n more = refl
cell_later met id (kind.Lit l) n more = refl
cell_later met id kind.Free n more =
    let now : List ℕ = joined met (id ∷ []) in
    ap cell.LVar (sym (later now (holds_last met id)))
  where
    later : (now : List ℕ) → holds now id ≡ true → ordinal (joined now more) id ≡ ordinal now id
    later now held = ordinal_later now _ id held
cell_later met id _ n more = refl

parts_there : (n : ℕ) (k : Kind) (args : List ℕ) → are_places n args ≡ true → are_places n (parts_at k args) ≡ true
parts_there n (kind.Cons c) args there = there
parts_there n (kind.Part h) args there = there
parts_there n _ args there = refl

-- ---- one value

-- the node that is taken next
next_there : (graph : Graph) (id : ℕ) (variables : List ℕ) (room : ℕ) (written : List Cell) (rest : List ℕ) (limit : ℕ) (met : List ℕ) (x : ℕ)
    → Written graph id variables room written (x ∷ rest) limit met → (x < length graph) × (are_places (length graph) rest ≡ true)
next_there graph id variables room written rest limit met x known = (
  ltb-true x (length graph) (left_true (ltb x (length graph)) (are_places (length graph) rest) known.there),
  right_true (ltb x (length graph)) (are_places (length graph) rest) known.there,
)

written_next : (graph : Graph) (id : ℕ) (variables : List ℕ) (room : ℕ) (written : List Cell) (rest : List ℕ) (limit : ℕ) (met : List ℕ) (x : ℕ)
    → ArgumentsThere graph → IsAcyclic graph → Written graph id variables (suc room) written (x ∷ rest) limit met
    → Written graph id variables room
    (written ++ cell_at (with_head met (head_of graph x) (node_at graph (head_of graph x)).kind) (head_of graph x) (node_at graph (head_of graph x)).kind
    (length (node_at graph (head_of graph x)).args) ∷ [])
    (parts_at (node_at graph (head_of graph x)).kind (node_at graph (head_of graph x)).args ++ rest) limit
    (with_head met (head_of graph x) (node_at graph (head_of graph x)).kind)
written_next graph id variables room written rest limit met x arguments acyclic known =
    let places = next_there graph id variables (suc room) written rest limit met x known in
    let head : ℕ = head_of graph x in
    let k : Kind = (node_at graph (head_of graph x)).kind in
    let args : List ℕ = (node_at graph (head_of graph x)).args in
    let parts : List ℕ = parts_at k args in
    let after : List ℕ = with_head met head k in
    let whole : List ℕ = met_in variables graph id in
    let number : ℕ → ℕ = ordinal whole in
    let table : spelled graph x ≡ spelled_at (spelled graph) head k args = spelled_table graph x arguments (acyclic x places.0) places.0 in
    let split : map (spelled graph) (parts ++ rest) ≡ map (spelled graph) parts ++ map (spelled graph) rest = map-append (spelled graph) parts rest in
    let joins : joined after (variables_of_all (map (spelled graph) (parts ++ rest))) ≡ whole =
    ap (λ vs. joined after (variables_of_all vs)) split
    ∙ ap (joined after) (variables_append (map (spelled graph) parts) (map (spelled graph) rest))
    ∙ sym (joined_assoc after (variables_of_all (map (spelled graph) parts)) (variables_of_all (map (spelled graph) rest)))
    ∙ ap (λ xs. joined xs (variables_of_all (map (spelled graph) rest))) (sym (met_head met (spelled graph) head k args))
    ∙ ap (λ v. joined (joined met (variables_in v)) (variables_of_all (map (spelled graph) rest))) (sym table)
    ∙ joined_assoc met (variables_in (spelled graph x)) (variables_of_all (map (spelled graph) rest))
    ∙ known.meets in
    let ends : cell_at after head k (length args) ≡ head_cell number head k (length args) =
    cell_later met head k (length args) (variables_of_all (map (spelled graph) (parts ++ rest)))
    ∙ ap (λ xs. head_cell (ordinal xs) head k (length args)) joins in
    let ends_so : (written ++ cell_at after head k (length args) ∷ []) ++ text number (map (spelled graph) (parts ++ rest))
    ≡ written ++ text number (map (spelled graph) (x ∷ rest)) =
    append_assoc written (cell_at after head k (length args) ∷ []) (text number (map (spelled graph) (parts ++ rest)))
    ∙ ap (λ c. written ++ (c ∷ text number (map (spelled graph) (parts ++ rest)))) ends
    ∙ ap (λ vs. written ++ (head_cell number head k (length args) ∷ text number vs)) split
    ∙ ap (λ cs. written ++ (head_cell number head k (length args) ∷ cs)) (text_append number (map (spelled graph) parts) (map (spelled graph) rest))
    ∙ ap (λ cs. written ++ (cs ++ text number (map (spelled graph) rest))) (sym (text_head number (spelled graph) head k args))
    ∙ ap (λ v. written ++ (spell (renumbered number v) ++ text number (map (spelled graph) rest))) (sym table) in
    let more = ap cells_of_all split ∙ cells_append (map (spelled graph) parts) (map (spelled graph) rest) in
    let one = ap cells table ∙ cells_head (spelled graph) head k args in
    let count : limit + (cells (spelled graph x) + cells_of_all (map (spelled graph) rest)) ≡ suc room + cells (spelled graph id) = known.counts in
    record {
      there = all_both (λ y. ltb y (length graph)) parts rest
          (parts_there (length graph) k args (arguments head (head_lower (length graph) graph x arguments acyclic places.0).0)) places.1;
      meets = joins;
      writes = ends_so ∙ known.writes;
      counts = omega arith;
    }

pub head_there : (graph : Graph) (id : ℕ) (variables : List ℕ) (room : ℕ) (written : List Cell) (pending rest : List ℕ) (limit : ℕ) (met : List ℕ) (x : ℕ)
    → ArgumentsThere graph → IsAcyclic graph → pending ≡ rest ++ x ∷ [] → Written graph id variables room written (reverse pending) limit met → head_of graph x < length graph
head_there graph id variables room written pending rest limit met x arguments acyclic was known =
    let below = next_there graph id variables room written (reverse rest) limit met x
    (subst (λ (left : List ℕ). Written graph id variables room written left limit met) (last_first pending rest x was) known) in
    (head_lower (length graph) graph x arguments acyclic below.0).0

pub written_on : (graph : Graph) (id : ℕ) (variables : List ℕ) (room less : ℕ) (written more : List Cell) (pending rest next : List ℕ) (limit : ℕ) (met after : List ℕ) (x head : ℕ) (c : Cell)
    → ArgumentsThere graph → IsAcyclic graph → pending ≡ rest ++ x ∷ [] → head ≡ head_of graph x → room ≡ suc less
    → after ≡ with_head met head (node_at graph head).kind
    → c ≡ cell_at after head (node_at graph head).kind (length (node_at graph head).args)
    → more ≡ written ++ c ∷ []
    → next ≡ rest ++ reverse (parts_at (node_at graph head).kind (node_at graph head).args)
    → Written graph id variables room written (reverse pending) limit met → Written graph id variables less more (reverse next) limit after
written_on graph id variables room less written more pending rest next limit met after x head c arguments acyclic was is shorter joins cell adds_cell adds known =
    let before : Written graph id variables (suc less) written (x ∷ reverse rest) limit met =
    subst (λ (n : ℕ). Written graph id variables n written (x ∷ reverse rest) limit met) shorter
    (subst (λ (left : List ℕ). Written graph id variables room written left limit met) (last_first pending rest x was) known) in
    let k : Kind = (node_at graph head).kind in
    let args : List ℕ = (node_at graph head).args in
    let left : List ℕ = parts_at k args ++ reverse rest in
    let at_head : Written graph id variables less (written ++ cell_at (with_head met head k) head k (length args) ∷ []) left limit (with_head met head k) =
    subst (λ (h : ℕ). Written graph id variables less
    (written ++ cell_at (with_head met h (node_at graph h).kind) h (node_at graph h).kind (length (node_at graph h).args) ∷ [])
    (parts_at (node_at graph h).kind (node_at graph h).args ++ reverse rest) limit (with_head met h (node_at graph h).kind)) (sym is)
    (written_next graph id variables less written (reverse rest) limit met x arguments acyclic before) in
    let is_met : Written graph id variables less (written ++ cell_at after head k (length args) ∷ []) left limit after =
    subst (λ (m : List ℕ). Written graph id variables less (written ++ cell_at m head k (length args) ∷ []) left limit m) (sym joins) at_head in
    let with_cell : Written graph id variables less (written ++ c ∷ []) left limit after =
    subst (λ (d : Cell). Written graph id variables less (written ++ d ∷ []) left limit after) (sym cell) is_met in
    let in_order : Written graph id variables less more left limit after =
    subst (λ (cs : List Cell). Written graph id variables less cs left limit after) (sym adds_cell) with_cell in
    subst (λ (xs : List ℕ). Written graph id variables less more xs limit after) (sym (added_first next rest (parts_at k args) adds)) in_order

-- where more nodes are left than there is room for
pub too_many : (graph : Graph) (id : ℕ) (variables : List ℕ) (room : ℕ) (written : List Cell) (pending rest : List ℕ) (limit : ℕ) (met : List ℕ) (x : ℕ)
    → pending ≡ rest ++ x ∷ [] → room ≤ length rest → Written graph id variables room written (reverse pending) limit met
    → ltb limit (cells (spelled graph id)) ≡ true
too_many graph id variables room written pending rest limit met x was full known =
    let count : limit + (cells (spelled graph x) + cells_of_all (map (spelled graph) (reverse rest))) ≡ room + cells (spelled graph id) =
    (subst (λ (left : List ℕ). Written graph id variables room written left limit met) (last_first pending rest x was) known).counts in
    let some = cells_some (spelled graph x) in
    let many = cells_many (spelled graph) (reverse rest) in
    let turned = length-reverse rest in
    lt-ltb limit (cells (spelled graph id)) (omega arith)

-- where nothing is left
pub record AllWritten (graph : Graph) (id : ℕ) (variables : List ℕ) (room : ℕ) (written : List Cell) (limit : ℕ) (met : List ℕ) : Type 0 where
  pub fits : ltb limit (cells (spelled graph id)) ≡ false
  pub meets : met ≡ met_in variables graph id
  pub writes : written ≡ spell (renumbered (ordinal met) (spelled graph id))
  pub counts : room + cells (spelled graph id) ≡ limit

pub written_all : (graph : Graph) (id : ℕ) (variables : List ℕ) (room : ℕ) (written : List Cell) (pending : List ℕ) (limit : ℕ) (met : List ℕ)
    → pending ≡ [] → Written graph id variables room written (reverse pending) limit met → AllWritten graph id variables room written limit met
written_all graph id variables room written pending limit met none known =
    let all : Written graph id variables room written [] limit met = subst (λ (left : List ℕ). Written graph id variables room written left limit met) (ap reverse none) known in
    let joins : met ≡ met_in variables graph id = sym (none_joined met) ∙ all.meets in
    let count : limit + 0 ≡ room + cells (spelled graph id) = all.counts in
    record {
      fits = le-ltb limit (cells (spelled graph id)) (omega arith);
      meets = joins;
      writes = sym (append-nil written) ∙ all.writes ∙ ap (λ xs. spell (renumbered (ordinal xs) (spelled graph id))) (sym joins);
      counts = omega arith;
    }

-- an answer that is there where a test fails
pub none_if : {A : Type 0} (b : Bool) (x : A) → b ≡ true → None ≡ (if b then None else Some x)
none_if true x large = refl
none_if false x large = let no : ⊥ = cc in absurd no

pub some_if : {A : Type 0} (b : Bool) (x y : A) → b ≡ false → x ≡ y → Some x ≡ (if b then None else Some y)
some_if true x y small same = let no : ⊥ = cc in absurd no
some_if false x y small same = ap (λ z. Some z) same

pub large_if : {A : Type 0} (b : Bool) (x : A) (r : Option A) → r ≡ None → r ≡ (if b then None else Some x) → b ≡ true
large_if true x r none is = refl
large_if false x r none is = let no : ⊥ = cc in absurd no

pub fits_if : {A : Type 0} (b : Bool) (x y : A) (r : Option A) → r ≡ Some y → r ≡ (if b then None else Some x) → y ≡ x
fits_if true x y r some is = let no : ⊥ = cc in absurd no
fits_if false x y r some is = cc

pub if_some : {A : Type 0} (P : Type 0) (r : Option A) (x : A) → r ≡ Some x → IfSome r (λ y. P) → P
if_some {A} P r x some holds = subst (λ (o : Option A). IfSome o (λ y. P)) some holds

pub one_spelled : (written : List Cell) (v : Value) → written ≡ spell v → IsOneSpelled written
one_spelled written v is = rw is (ap (λ vs. spell (spelling.first vs)) (read_all_one v))

pub one_read : (written : List Cell) (v : Value) → written ≡ spell v → spelling.read written ≡ v
one_read written v is = ap spelling.read is ∙ ap spelling.first (read_all_one v)

-- ---- all of them

holds_after : (a b : List ℕ) (x : ℕ) → holds b x ≡ true → holds (joined a b) x ≡ true
holds_after a b x held = holds_joined a b x ∙ ap (λ c. holds a x || c) held ∙ or_true (holds a x)

mutual
  renumbered_same : (f g : ℕ → ℕ) (v : Value) → ((x : ℕ) → holds (variables_in v) x ≡ true → f x ≡ g x) → renumbered f v ≡ renumbered g v
  renumbered_same f g value.Bottom same = refl
  renumbered_same f g (value.Variable x) same = ap value.Variable (same x (at_prefix x []))
  renumbered_same f g (value.Literal l) same = refl
  renumbered_same f g (value.Constructed c vs) same = ap (value.Constructed c) (all_renumbered_same f g vs same)
  renumbered_same f g (value.Partial h vs) same = ap (value.Partial h) (all_renumbered_same f g vs same)

  all_renumbered_same : (f g : ℕ → ℕ) (vs : Values) → ((x : ℕ) → holds (all_variables_in vs) x ≡ true → f x ≡ g x) → all_renumbered f vs ≡ all_renumbered g vs
  all_renumbered_same f g value.NoValue same = refl
  all_renumbered_same f g (value.MoreValues v vs) same =
      ap (λ u. value.MoreValues u (all_renumbered f vs)) (renumbered_same f g v (λ x held. same x (holds_before (variables_in v) (all_variables_in vs) x held)))
      ∙ ap (value.MoreValues (renumbered g v)) (all_renumbered_same f g vs (λ x held. same x (holds_after (variables_in v) (all_variables_in vs) x held)))

map_same : (f g : ℕ → ℕ) (vs : List Value) → ((x : ℕ) → holds (variables_of_all vs) x ≡ true → f x ≡ g x) → map (renumbered f) vs ≡ map (renumbered g) vs
map_same f g [] same = refl
map_same f g (v ∷ vs) same =
    ap (λ u. u ∷ map (renumbered f) vs) (renumbered_same f g v (λ x held. same x (holds_before (variables_in v) (variables_of_all vs) x held)))
    ∙ ap (λ us. renumbered g v ∷ us) (map_same f g vs (λ x held. same x (holds_after (variables_in v) (variables_of_all vs) x held)))

-- variables that are met later change no number
numbers_stay : (xs more : List ℕ) (x : ℕ) → holds xs x ≡ true → ordinal (joined xs more) x ≡ ordinal xs x
numbers_stay xs more x held = ordinal_later xs _ x held

pub read_more : (graph : Graph) (limit : ℕ) (goals : List ℕ) (i : ℕ) (bindings more : List Value) (room less : ℕ) (met after : List ℕ) (goal : ℕ) (v : Value)
    → i < length goals → goal ≡ get_or goals i 0 → AllRead graph limit (take i goals) bindings room met
    → after ≡ joined met (variables_in (spelled graph goal))
    → v ≡ renumbered (ordinal after) (spelled graph goal) → less + cells (spelled graph goal) ≡ room → more ≡ bindings ++ v ∷ []
    → AllRead graph limit (take (i + 1) goals) more less after
read_more graph limit goals i bindings more room less met after goal v within is known joins gives shorter adds =
    let done : List Value = map (spelled graph) (take i goals) in
    let longer : take (i + 1) goals ≡ take i goals ++ goal ∷ [] =
    ap (λ n. take n goals) (add-one i) ∙ take-suc goals i 0 within ∙ ap (λ x. take i goals ++ x ∷ []) (sym is) in
    let values : map (spelled graph) (take (i + 1) goals) ≡ done ++ spelled graph goal ∷ [] =
    ap (map (spelled graph)) longer ∙ map-append (spelled graph) (take i goals) (goal ∷ []) in
    let now : after ≡ joined met (variables_in (spelled graph goal)) = joins in
    let all : after ≡ variables_of_all (done ++ spelled graph goal ∷ []) =
    now
    ∙ ap (λ xs. joined xs (variables_in (spelled graph goal))) known.meets
    ∙ ap (joined (variables_of_all done)) (sym (none_joined (variables_in (spelled graph goal))))
    ∙ sym (variables_append done (spelled graph goal ∷ [])) in
    let stay : map (renumbered (ordinal met)) done ≡ map (renumbered (ordinal after)) done =
    map_same (ordinal met) (ordinal after) done
    (λ x held. sym (ap (λ xs. ordinal xs x) now
    ∙ numbers_stay met (variables_in (spelled graph goal)) x (ap (λ xs. holds xs x) known.meets ∙ held))) in
    let before = known.counts in
    let count = ap cells_of_all values ∙ cells_append done (spelled graph goal ∷ []) in
    record {
      meets = all ∙ ap variables_of_all (sym values);
      reads = adds
          ∙ ap (λ bs. bs ++ v ∷ []) (known.reads ∙ stay)
          ∙ ap (λ u. map (renumbered (ordinal after)) done ++ u ∷ []) gives
          ∙ sym (map-append (renumbered (ordinal after)) done (spelled graph goal ∷ []))
          ∙ ap (map (renumbered (ordinal after))) (sym values);
      counts = omega arith;
    }

-- what is too large already, whatever comes after
pub large_goal : (graph : Graph) (limit : ℕ) (root : ℕ) (goals : List ℕ) (i : ℕ) (bindings : List Value) (room : ℕ) (met : List ℕ) (goal : ℕ)
    → i < length goals → goal ≡ get_or goals i 0 → AllRead graph limit (take i goals) bindings room met
    → ltb room (cells (spelled graph goal)) ≡ true → ltb limit (cells_of_all (spelled_all graph root goals)) ≡ true
large_goal graph limit root goals i bindings room met goal within is known large =
    let done : List ℕ = take i goals in
    let rest : List ℕ = drop (suc i) goals ++ root ∷ [] in
    let parts : goals ++ root ∷ [] ≡ done ++ (goal ∷ rest) =
    ap (λ xs. xs ++ root ∷ []) (sym (take-append-drop i goals) ∙ ap (λ xs. done ++ xs) (drop-cons goals i 0 within))
    ∙ ap (λ x. (done ++ x ∷ drop (suc i) goals) ++ root ∷ []) (sym is)
    ∙ append_assoc done (goal ∷ drop (suc i) goals) (root ∷ []) in
    let count = ap (λ xs. cells_of_all (map (spelled graph) xs)) parts
    ∙ ap cells_of_all (map-append (spelled graph) done (goal ∷ rest))
    ∙ cells_append (map (spelled graph) done) (map (spelled graph) (goal ∷ rest)) in
    let before = known.counts in
    let more : room < cells (spelled graph goal) = ltb-true room (cells (spelled graph goal)) large in
    lt-ltb limit (cells_of_all (spelled_all graph root goals)) (omega arith)

-- what the goal variables and the root have together
all_cells_are : (graph : Graph) (root : ℕ) (goals : List ℕ) → cells_of_all (spelled_all graph root goals) ≡ cells_of_all (map (spelled graph) goals) + cells (spelled graph root)
all_cells_are graph root goals =
    let count = ap cells_of_all (map-append (spelled graph) goals (root ∷ [])) ∙ cells_append (map (spelled graph) goals) (spelled graph root ∷ []) in
    omega arith

pub large_root : (graph : Graph) (limit : ℕ) (root : ℕ) (goals : List ℕ) (i : ℕ) (bindings : List Value) (room : ℕ) (met : List ℕ)
    → length goals ≤ i → AllRead graph limit (take i goals) bindings room met
    → ltb room (cells (spelled graph root)) ≡ true → ltb limit (cells_of_all (spelled_all graph root goals)) ≡ true
large_root graph limit root goals i bindings room met all known large =
    let total = all_cells_are graph root goals in
    let before = (subst (λ (done : List ℕ). AllRead graph limit done bindings room met) (take_all i goals all) known).counts in
    let more : room < cells (spelled graph root) = ltb-true room (cells (spelled graph root)) large in
    lt-ltb limit (cells_of_all (spelled_all graph root goals)) (omega arith)

map_both : (f : Value → Value) (g : ℕ → Value) (xs : List ℕ) → map f (map g xs) ≡ map (λ x. f (g x)) xs
map_both f g [] = refl
map_both f g (x ∷ xs) = ap (λ rest. f (g x) ∷ rest) (map_both f g xs)

pub read_all_of : (graph : Graph) (limit : ℕ) (root : ℕ) (goals : List ℕ) (i : ℕ) (bindings : List Value) (room less : ℕ) (met after : List ℕ) (v : Value)
    → length goals ≤ i → AllRead graph limit (take i goals) bindings room met
    → after ≡ joined met (variables_in (spelled graph root))
    → v ≡ renumbered (ordinal after) (spelled graph root) → less + cells (spelled graph root) ≡ room
    → Some (record { bindings = bindings; value = v })
    ≡ (if ltb limit (cells_of_all (spelled_all graph root goals)) then None else Some (read graph root goals))
read_all_of graph limit root goals i bindings room less met after v all known meets reads shorter =
    let done : AllRead graph limit goals bindings room met = subst (λ (xs : List ℕ). AllRead graph limit xs bindings room met) (take_all i goals all) known in
    let now : after ≡ joined met (variables_in (spelled graph root)) = meets in
    let whole : after ≡ variables_of_all (spelled_all graph root goals) =
    now
    ∙ ap (λ xs. joined xs (variables_in (spelled graph root))) done.meets
    ∙ ap (joined (variables_of_all (map (spelled graph) goals))) (sym (none_joined (variables_in (spelled graph root))))
    ∙ sym (variables_append (map (spelled graph) goals) (spelled graph root ∷ []))
    ∙ ap variables_of_all (sym (map-append (spelled graph) goals (root ∷ []))) in
    let stay : map (renumbered (ordinal met)) (map (spelled graph) goals) ≡ map (renumbered (ordinal after)) (map (spelled graph) goals) =
    map_same (ordinal met) (ordinal after) (map (spelled graph) goals)
    (λ x held. sym (ap (λ xs. ordinal xs x) now
    ∙ numbers_stay met (variables_in (spelled graph root)) x (ap (λ xs. holds xs x) done.meets ∙ held))) in
    let binds : bindings ≡ map (λ goal. renumbered (ordinal (variables_of_all (spelled_all graph root goals))) (spelled graph goal)) goals =
    done.reads ∙ stay ∙ ap (λ xs. map (renumbered (ordinal xs)) (map (spelled graph) goals)) whole
    ∙ map_both (renumbered (ordinal (variables_of_all (spelled_all graph root goals)))) (spelled graph) goals in
    let gives : v ≡ renumbered (ordinal (variables_of_all (spelled_all graph root goals))) (spelled graph root) =
    reads ∙ ap (λ xs. renumbered (ordinal xs) (spelled graph root)) whole in
    let total = all_cells_are graph root goals in
    let before = done.counts in
    let small : ltb limit (cells_of_all (spelled_all graph root goals)) ≡ false = le-ltb limit (cells_of_all (spelled_all graph root goals)) (omega arith) in
    ap (λ bs. Some (record { bindings = bs; value = v })) binds
    ∙ ap (λ u. Some (record { bindings = map (λ goal. renumbered (ordinal (variables_of_all (spelled_all graph root goals))) (spelled graph goal)) goals; value = u })) gives
    ∙ sym (ap (λ b. if b then None else Some (read graph root goals)) small)
