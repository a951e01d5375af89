-- Equations that are read off rules.
use Rattle.std.proofs.Common.{◌≡◌, ℕ, suc, ◌+◌, ◌-◌, ◌<◌, ◌≤◌, List, [], ◌∷◌, ◌++◌, Result, Ok, Err, IfOk, OnOk, length, map, refl, sym, ap, ◌∙◌, subst, arith, append_assoc}
use Rattle.std.specs.declared.alloc.AllocError.{AllocError}
use Rattle.std.specs.declared.alloc.Global.{Global}
use Rattle.std.specs.declared.vec.Vec.{Vec}
use Rattle.cu_kernel.specs.TypeExpr as type
use Rattle.cu_kernel.specs.TypeExpr.{TypeExpr}
use Rattle.cu_types.proofs.ReadTypes.{reads_kept, stand_kept, stand_more}
use Rattle.cu_types.proofs.Unfolding.{kept_tree, longer, no_more}
use Rattle.cu_types.specs.Equations as asked_of
use Rattle.cu_types.specs.Equations.{Asked, asking, breadth, renamed, scheme_asks, taking}
use Rattle.cu_types.specs.Inside.Asking.{Adds, Asks, IsAsking, StandsAt}
use Rattle.cu_types.specs.Inside.Reading.{IsReader, Reads, Stand, shapes}
use Rattle.cu_kernel.specs.declared.type_term.TypeName.TheVariants as name
use Rattle.cu_types.specs.BuiltInTypes.{arrows, data_type, variables_from}
use Rattle.cu_types.specs.Table.{Shape, at, built, trees}
use Rattle.cu_types.specs.declared.asking.Asking.{Asking}
use Rattle.cu_types.specs.declared.node.TypeHead.TheVariants as head
use Rattle.cu_types.specs.declared.pair.Pair.{Pair}
use Rattle.cu_types.specs.declared.reader.Reader.{Reader}

-- a table with one more type
pub adds_made : (before : Asking) (now : Reader) (t : TypeExpr) (place : ℕ) → IsReader now
    → Reads (shapes before.reader) (shapes now) t place
    → Adds before (record { reader = now; pairs = before.pairs; next = before.next }) t place
adds_made before now t place reader reads = record {
  reader = reader;
  reads = reads;
  asked = λ asked is. record {
    next = is.next;
    stand = stand_kept (shapes before.reader) (shapes now) reads.more before.pairs.items asked.equations reads.extends is.stand;
  };
}

pub adds_if : (before : Asking) (now : Reader) (t : TypeExpr) (outcome : Result ℕ AllocError) → OnOk outcome (IsReader now)
    → IfOk outcome (Reads (shapes before.reader) (shapes now) t)
    → IfOk outcome (Adds before (record { reader = now; pairs = before.pairs; next = before.next }) t)
adds_if before now t (Ok place) reader reads = adds_made before now t place reader reads
adds_if before now t (Err e) reader reads = tt

-- a data type without arguments
pub adds_data : (before : Asking) (now : Reader) (place : ℕ) (items : List ℕ) (t : TypeExpr) (outcome : Result ℕ AllocError)
    → items ≡ [] → data_type place [] ≡ t → OnOk outcome (IsReader now)
    → IfOk outcome (Reads (shapes before.reader) (shapes now)
    (built (head.Named (name.Data (record { 0 = place }))) (map (at (trees (shapes before.reader))) items)))
    → IfOk outcome (Adds before (record { reader = now; pairs = before.pairs; next = before.next }) t)
adds_data before now place items t outcome none is reader reads =
    let types : List ℕ → TypeExpr = λ ps. built (head.Named (name.Data (record { 0 = place }))) (map (at (trees (shapes before.reader))) ps) in
    adds_if before now t outcome reader
    (subst (λ (u : TypeExpr). IfOk outcome (Reads (shapes before.reader) (shapes now) u)) (ap types none ∙ is) reads)

-- one more equation
pub asks_made : (before : Asking) (pairs : Vec Pair Global) (left right : ℕ) (s t : TypeExpr)
    → pairs.items ≡ before.pairs.items ++ record { left = left; right = right } ∷ [] → IsReader before.reader → StandsAt before left s
    → StandsAt before right t → Asks before (record { reader = before.reader; pairs = pairs; next = before.next }) (asking s t)
asks_made before pairs left right s t is reader l r = record {
  reader = reader;
  asked = λ asked was. record {
    next = was.next;
    stand = subst (λ (ps : List Pair). Stand (shapes before.reader) ps (asked.equations ++ record { left = s; right = t } ∷ [])) (sym is)
        (stand_more (shapes before.reader) before.pairs.items asked.equations (record { left = left; right = right })
        (record { left = s; right = t }) was.stand l.within r.within l.value r.value);
  };
}

-- what was added stands, also once more was added
pub added_stands : (before after : Asking) (t : TypeExpr) (place : ℕ) → Adds before after t place → StandsAt after place t
added_stands before after t place a = record { within = a.reads.within; value = a.reads.value }

pub still_stands : (a b c : Asking) (s t : TypeExpr) (l r : ℕ) → Adds a b s l → Adds b c t r → StandsAt c l s
still_stands a b c s t l r first second =
    let kept = reads_kept (shapes a.reader) (shapes b.reader) (shapes c.reader) second.reads.more s l second.reads.extends first.reads in
    record { within = kept.within; value = kept.value }

-- two types are added, and shall be the same
pub asked_both : (a b c d : Asking) (s t : TypeExpr) (l r : ℕ) → Adds a b s l → Adds b c t r
    → ((s t : TypeExpr) → IsReader c.reader → StandsAt c l s → StandsAt c r t → Asks c d (asking s t)) → Asks a d (asking s t)
asked_both a b c d s t l r first second asks =
    let last = asks s t second.reader (still_stands a b c s t l r first second) (added_stands b c t r second) in
    record {
      reader = last.reader;
      asked = λ asked is. last.asked asked (second.asked asked (first.asked asked is));
    }

-- type variables are taken
pub asks_taken : (before : Asking) (next count : ℕ) → next ≡ before.next + count → IsReader before.reader
    → Asks before (record { reader = before.reader; pairs = before.pairs; next = next }) (taking count)
asks_taken before next count is reader = record {
  reader = reader;
  asked = λ asked was. record { next = is ∙ ap (λ n. n + count) was.next; stand = was.stand };
}

-- one change after another
pub asks_then : (a b c : Asking) (f g : Asked → Asked) → Asks a b f → Asks b c g → Asks a c (λ asked. g (f asked))
asks_then a b c f g first second = record {
  reader = second.reader;
  asked = λ asked is. second.asked (f asked) (first.asked asked is);
}

-- a function type
pub adds_arrow : (before : Asking) (now : Reader) (left right : ℕ) (items : List ℕ) (place : ℕ) → items ≡ left ∷ right ∷ []
    → IsReader now
    → Reads (shapes before.reader) (shapes now) (built head.Arrow (map (at (trees (shapes before.reader))) items)) place
    → Adds before (record { reader = now; pairs = before.pairs; next = before.next })
    (type.Arrow (at (trees (shapes before.reader)) left) (at (trees (shapes before.reader)) right)) place
adds_arrow before now left right items place is reader reads =
    let types : List ℕ → TypeExpr = λ ps. built head.Arrow (map (at (trees (shapes before.reader))) ps) in
    adds_made before now (types (left ∷ right ∷ [])) place reader
    (subst (λ (u : TypeExpr). Reads (shapes before.reader) (shapes now) u place) (ap types is) reads)

-- one addition after another
pub adds_then : (a b c : Asking) (s t u : TypeExpr) (l r : ℕ) → Adds a b s l → t ≡ u → Adds b c t r → Adds a c u r
adds_then a b c s t u l r first same second = record {
  reader = second.reader;
  reads = record {
    more = first.reads.more ++ second.reads.more;
    extends = second.reads.extends ∙ ap (λ (xs : List Shape). xs ++ second.reads.more) first.reads.extends
        ∙ append_assoc (shapes a.reader) first.reads.more second.reads.more;
    within = second.reads.within;
    value = second.reads.value ∙ same;
  };
  asked = λ asked is. second.asked asked (first.asked asked is);
}

-- where nothing is added
pub adds_none : (a : Asking) (place : ℕ) → IsReader a.reader → place < length (shapes a.reader)
    → Adds a a (at (trees (shapes a.reader)) place) place
adds_none a place reader within = record {
  reader = reader;
  reads = record { more = []; extends = no_more (shapes a.reader); within = within; value = refl };
  asked = λ asked is. is;
}

-- what stood before stands there still
pub kept_at : (a b : Asking) (s : TypeExpr) (l k : ℕ) → Adds a b s l → k < length (shapes a.reader)
    → (k < length (shapes b.reader)) × (at (trees (shapes b.reader)) k ≡ at (trees (shapes a.reader)) k)
kept_at a b s l k adds within =
    let long : length (shapes a.reader) ≤ length (shapes b.reader) = longer (shapes a.reader) (shapes b.reader) adds.reads.more adds.reads.extends in
    (omega arith, kept_tree (shapes a.reader) (shapes b.reader) adds.reads.more k adds.reads.extends within)

pub adds_variable_arrow : (a b c : Asking) (x l k r : ℕ) → Adds a b (type.Variable x) l → k < length (shapes a.reader)
    → Adds b c (type.Arrow (at (trees (shapes b.reader)) l) (at (trees (shapes b.reader)) k)) r
    → Adds a c (type.Arrow (type.Variable x) (at (trees (shapes a.reader)) k)) r
adds_variable_arrow a b c x l k r first within second =
    adds_then a b c (type.Variable x) _ (type.Arrow (type.Variable x) (at (trees (shapes a.reader)) k)) l r first
    (ap (λ t. type.Arrow t (at (trees (shapes b.reader)) k)) first.reads.value
    ∙ ap (type.Arrow (type.Variable x)) (kept_at a b (type.Variable x) l k first within).1) second

-- functions that take one more type variable
more_taken : (first left before count : ℕ) (base : TypeExpr) → left ≡ before + 1 → left ≤ count
    → type.Arrow (type.Variable (first + before)) (arrows (variables_from (first + left) (count - left)) base)
    ≡ arrows (variables_from (first + before) (count - before)) base
more_taken first left before count base is few =
    let next : first + left ≡ first + before + 1 = omega arith in
    let more : count - before ≡ suc (count - left) = omega arith in
    ap (λ x. type.Arrow (type.Variable (first + before)) (arrows (variables_from x (count - left)) base)) next
    ∙ sym (ap (λ n. arrows (variables_from (first + before) n) base) more)

pub arrows_step : (a b c : Asking) (first left before count : ℕ) (base : TypeExpr) (whole r : ℕ) → left ≡ before + 1 → left ≤ count
    → Adds a b (arrows (variables_from (first + left) (count - left)) base) whole
    → Adds b c (type.Arrow (type.Variable (first + before)) (at (trees (shapes b.reader)) whole)) r
    → Adds a c (arrows (variables_from (first + before) (count - before)) base) r
arrows_step a b c first left before count base whole r is few done more =
    adds_then a b c (arrows (variables_from (first + left) (count - left)) base) _ _ whole r done
    (ap (type.Arrow (type.Variable (first + before))) done.reads.value ∙ more_taken first left before count base is few) more

pub arrows_start : (a : Asking) (first count place : ℕ) → IsReader a.reader → place < length (shapes a.reader)
    → Adds a a (arrows (variables_from (first + count) (count - count)) (at (trees (shapes a.reader)) place)) place
arrows_start a first count place reader within =
    let none : count - count ≡ 0 = omega arith in
    subst (λ (n : ℕ). Adds a a (arrows (variables_from (first + count) n) (at (trees (shapes a.reader)) place)) place) (sym none)
    (adds_none a place reader within)

pub arrows_end : (a b : Asking) (first left count place whole : ℕ) (base : TypeExpr) → left ≡ 0
    → Adds a b (arrows (variables_from (first + left) (count - left)) base) whole
    → Adds a b (arrows (variables_from first count) base) whole
arrows_end a b first left count place whole base is done =
    let here : first + left ≡ first = omega arith in
    let all : count - left ≡ count = omega arith in
    subst (λ (x : ℕ). Adds a b (arrows (variables_from x count) base) whole) here
    (subst (λ (n : ℕ). Adds a b (arrows (variables_from (first + left) n) base) whole) all done)

-- ---- schemes

-- what stood before an addition
pub stood : (a b : Asking) (s t : TypeExpr) (l k : ℕ) → Adds a b s l → StandsAt a k t → StandsAt b k t
stood a b s t l k adds at_k =
    let kept = kept_at a b s l k adds at_k.within in
    record { within = kept.0; value = kept.1 ∙ at_k.value }

pub same_table : (a b : Asking) (t : TypeExpr) (k : ℕ) → b.reader ≡ a.reader → StandsAt a k t → StandsAt b k t
same_table a b t k same at_k = record {
  within = subst (λ (r : Reader). k < length (shapes r)) (sym same) at_k.within;
  value = ap (λ (r : Reader). at (trees (shapes r)) k) same ∙ at_k.value;
}

-- two types are added, and the second is that at a place
pub asked_over : (a b c d : Asking) (r s u t : TypeExpr) (right left whole : ℕ) → Adds a b r right → Adds b c u left → u ≡ s
    → StandsAt a whole t
    → ((x y : TypeExpr) → IsReader c.reader → StandsAt c left x → StandsAt c whole y → Asks c d (asking x y)) → Asks a d (asking s t)
asked_over a b c d r s u t right left whole first second same at_whole asks =
    let last = asks s t second.reader (subst (StandsAt c left) same (added_stands b c u left second))
    (stood b c u t left whole second (stood a b r t right whole first at_whole)) in
    record {
      reader = last.reader;
      asked = λ asked is. last.asked asked (second.asked asked (first.asked asked is));
    }

-- a monomorphic type takes no type variable
pub asks_fixed : (a d : Asking) (s t : TypeExpr) → Asks a d (asking s t) → Asks a d (scheme_asks (asked_of.Monomorphic s) t)
asks_fixed a d s t asks = record {
  reader = asks.reader;
  asked = λ asked is.
      let done : IsAsking d (asking s t asked) = asks.asked asked is in
      record { next = done.next ∙ (let e : asked.next ≡ asked.next + 0 = omega arith in e); stand = done.stand };
}

-- an instance of a polymorphic one
pub asks_general : (a b c d e : Asking) (fixed : List TypeExpr) (shared t made : TypeExpr) (count next right left whole : ℕ)
    → count ≡ breadth shared → next ≡ a.next → b.reader ≡ a.reader → Asks a b (taking count) → Adds b c (renamed next shared) right
    → Adds c d made left → made ≡ arrows fixed (renamed next shared) → StandsAt a whole t
    → ((x y : TypeExpr) → IsReader d.reader → StandsAt d left x → StandsAt d whole y → Asks d e (asking x y))
    → Asks a e (scheme_asks (asked_of.Polymorphic fixed shared) t)
asks_general a b c d e fixed shared t made count next right left whole counted at_next same takes first second is at_whole asks =
    let asks_it : Asks b e (asking (arrows fixed (renamed next shared)) t) =
    asked_over b c d e (renamed next shared) (arrows fixed (renamed next shared)) made t right left whole first second is
    (same_table a b t whole same at_whole) asks in
    record {
      reader = asks_it.reader;
      asked = λ asked was.
          subst (IsAsking e)
          (ap (λ (n : ℕ). asking (arrows fixed (renamed n shared)) t (taking count asked)) (at_next ∙ was.next)
          ∙ ap (λ (n : ℕ). asking (arrows fixed (renamed asked.next shared)) t (taking n asked)) counted)
          (asks_it.asked (taking count asked) (takes.asked asked was));
    }

-- a type variable of its own
pub asks_unknown : (a b c d : Asking) (t : TypeExpr) (next left whole : ℕ) → next ≡ a.next → b.reader ≡ a.reader → Asks a b (taking 1)
    → Adds b c (type.Variable next) left → StandsAt a whole t
    → ((x y : TypeExpr) → IsReader c.reader → StandsAt c left x → StandsAt c whole y → Asks c d (asking x y))
    → Asks a d (scheme_asks (asked_of.Polymorphic [] (type.Variable 0)) t)
asks_unknown a b c d t next left whole at_next same takes first at_whole asks =
    let last = asks (type.Variable next) t first.reader (added_stands b c (type.Variable next) left first)
    (stood b c (type.Variable next) t left whole first (same_table a b t whole same at_whole)) in
    record {
      reader = last.reader;
      asked = λ asked was.
          subst (IsAsking d)
          (ap (λ (n : ℕ). asking (type.Variable n) t (taking 1 asked))
          (at_next ∙ was.next ∙ (let e : asked.next ≡ asked.next + 0 = omega arith in e)))
          (last.asked (taking 1 asked) (first.asked (taking 1 asked) (takes.asked asked was)));
    }

abbrev data_type_of : ℕ → TypeExpr → TypeExpr
data_type_of place t = data_type place (t ∷ [])

-- the type of all values of a type
pub adds_values : (before : Asking) (now : Reader) (data_type place : ℕ) (items : List ℕ) (made : ℕ) → items ≡ place ∷ [] → IsReader now
    → Reads (shapes before.reader) (shapes now)
    (built (head.Named (name.Data (record { 0 = data_type }))) (map (at (trees (shapes before.reader))) items)) made
    → Adds before (record { reader = now; pairs = before.pairs; next = before.next })
    (data_type_of data_type (at (trees (shapes before.reader)) place)) made
adds_values before now data_type place items made is reader reads =
    let types : List ℕ → TypeExpr =
    λ ps. built (head.Named (name.Data (record { 0 = data_type }))) (map (at (trees (shapes before.reader))) ps) in
    adds_made before now (types (place ∷ [])) made reader
    (subst (λ (u : TypeExpr). Reads (shapes before.reader) (shapes now) u made) (ap types is) reads)
