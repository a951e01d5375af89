-- The steps of reading a type.
use Rattle.std.proofs.Common.{◌≡◌, ℕ, zero, suc, ◌+◌, ◌-◌, ◌*◌, ◌<◌, ◌≤◌, List, [], ◌∷◌, ◌++◌, Option, Some, length, map, reverse, take, drop, get_or, slice_get, refl, sym, ap, ◌∙◌, subst, arith, append_assoc, length-append}
use Rattle.std.proofs.lemmas.List.{drop-map, length-drop, length-reverse, map-append, reverse-append, reverse-reverse, take-map}
use Rattle.cu_kernel.specs.TypeExpr as type
use Rattle.cu_kernel.specs.TypeExpr.{TypeExpr, TypeExprs}
use Rattle.cu_kernel.specs.TypesOf.{type_of, types_of}
use Rattle.cu_kernel.specs.declared.type_term.TypeName.{TypeName}
use Rattle.cu_kernel.specs.declared.type_term.TypeTerm.{TypeTerm}
use Rattle.cu_types.proofs.Unfolding.{kept_tree, longer, no_more}
use Rattle.cu_types.proofs.Unifying.{list_again}
use Rattle.cu_types.specs.Inside.Cycles.{size, sizes}
use Rattle.cu_types.specs.Inside.Reading.{HasVariables, Reads}
use Rattle.cu_types.specs.Inside.Tasks as step
use Rattle.cu_types.specs.Inside.Tasks.{AreEnough, IsReading, Proceeds, Step, done, effort, efforts, step_of, steps_of}
use Rattle.cu_types.specs.declared.reading.Reading.{Reading}
use Rattle.cu_types.specs.Table.{Shape, at, built, trees}
use Rattle.cu_types.specs.Types.{listed}
use Rattle.cu_types.specs.declared.node.TypeHead.{TypeHead}
use Rattle.cu_types.specs.declared.node.TypeHead.TheVariants as head

abbrev pub reads : List TypeExpr → List Step
reads ts = map (λ t. step.Read t) ts

-- types stand as they did in a longer table
pub kept_types : (ss after more : List Shape) (ps : List ℕ) → after ≡ ss ++ more → ((k a : ℕ) → slice_get ps k ≡ Some a → a < length ss)
    → map (at (trees after)) ps ≡ map (at (trees ss)) ps
kept_types ss after more [] is within = refl
kept_types ss after more (p ∷ ps) is within =
    let first : at (trees after) p ≡ at (trees ss) p = kept_tree ss after more p is (within 0 p refl) in
    let rest : map (at (trees after)) ps ≡ map (at (trees ss)) ps = kept_types ss after more ps is (λ k a e. within (suc k) a e) in
    cc

-- members of a list with one more at its end, and of its reverse
pub pushed_member : (ps : List ℕ) (p n k a : ℕ) (P : ℕ → Type 0) → ((j b : ℕ) → slice_get ps j ≡ Some b → P b) → P p
    → slice_get (ps ++ p ∷ []) k ≡ Some a → P a
pushed_member [] p n zero a P all last is = let e : p ≡ a = cc in subst P e last
pushed_member [] p n (suc k) a P all last is = let none : ⊥ = cc in absurd none
pushed_member (q ∷ ps) p n zero a P all last is = let e : q ≡ a = cc in subst P e (all 0 q refl)
pushed_member (q ∷ ps) p n (suc k) a P all last is = pushed_member ps p n k a P (λ j b e. all (suc j) b e) last is

reversed_member : (ps : List ℕ) (k a : ℕ) (P : ℕ → Type 0) → ((j b : ℕ) → slice_get ps j ≡ Some b → P b)
    → slice_get (reverse ps) k ≡ Some a → P a
reversed_member [] k a P all is = let none : ⊥ = cc in absurd none
reversed_member (p ∷ ps) k a P all is =
    pushed_member (reverse ps) p 0 k a P (λ j b e. reversed_member ps j b P (λ i c f. all (suc i) c f) e) (all 0 p refl)
    (ap (λ (xs : List ℕ). slice_get xs k) (sym (reverse-append (p ∷ []) ps)) ∙ is)

dropped_member : (n : ℕ) (ps : List ℕ) (k a : ℕ) (P : ℕ → Type 0) → ((j b : ℕ) → slice_get ps j ≡ Some b → P b)
    → slice_get (drop n ps) k ≡ Some a → P a
dropped_member zero [] k a P all is = all k a is
dropped_member zero (p ∷ ps) k a P all is = all k a is
dropped_member (suc n) [] k a P all is = let none : ⊥ = cc in absurd none
dropped_member (suc n) (p ∷ ps) k a P all is = dropped_member n ps k a P (λ j b e. all (suc j) b e) is

pub taken_member : (n : ℕ) (ps : List ℕ) (k a : ℕ) (P : ℕ → Type 0) → ((j b : ℕ) → slice_get ps j ≡ Some b → P b)
    → slice_get (take n ps) k ≡ Some a → P a
taken_member zero [] k a P all is = let none : ⊥ = cc in absurd none
taken_member zero (p ∷ ps) k a P all is = let none : ⊥ = cc in absurd none
taken_member (suc n) [] k a P all is = let none : ⊥ = cc in absurd none
taken_member (suc n) (p ∷ ps) zero a P all is = let e : p ≡ a = cc in subst P e (all 0 p refl)
taken_member (suc n) (p ∷ ps) (suc k) a P all is = taken_member n ps k a P (λ j b e. all (suc j) b e) is

-- a variable is read
pub reading_variable : (before : List Shape) (find then : ℕ → Option ℕ) (ss after : List Shape) (steps : List Step) (ps qs : List ℕ)
    (t u : TypeExpr) (x place : ℕ) → u ≡ type.Variable x → HasVariables then after → Reads ss after (type.Variable x) place
    → qs ≡ ps ++ place ∷ [] → IsReading before find ss (step.Read u ∷ steps) ps t
    → Proceeds before t (step.Read u ∷ steps) then after steps qs
reading_variable before find then ss after steps ps qs t u x place is has r pushed w =
    let long : length ss ≤ length after = longer ss after r.more r.extends in
    let grown : length qs ≡ length (ps ++ place ∷ []) = ap length pushed in
    let one = length-append ps (place ∷ []) in
    let same : length ps + 1 ≡ length qs = omega arith in
    record {
      reading = record {
        variables = has;
        more = w.more ++ r.more;
        extends = r.extends ∙ ap (λ (xs : List Shape). xs ++ r.more) w.extends ∙ append_assoc before w.more r.more;
        within = λ k a e. pushed_member ps place 0 k a (λ b. b < length after)
            (λ j b f. let it : b < length ss = w.within j b f in omega arith) r.within
            (ap (λ (xs : List ℕ). slice_get xs k) (sym pushed) ∙ e);
        enough = subst (AreEnough steps) same w.enough;
        makes =
            ap (λ (xs : List ℕ). done steps (map (at (trees after)) (reverse xs))) pushed
            ∙ ap (λ (xs : List ℕ). done steps (map (at (trees after)) xs)) (reverse-append ps (place ∷ []))
            ∙ ap (λ (v : TypeExpr). done steps (v ∷ map (at (trees after)) (reverse ps))) (r.value ∙ sym is)
            ∙ ap (λ (vs : List TypeExpr). done steps (u ∷ vs))
            (kept_types ss after r.more (reverse ps) r.extends (λ k a e. reversed_member ps k a (λ b. b < length ss) w.within e))
            ∙ w.makes;
      };
      nearer = let e : size u ≡ 1 = ap size is in omega arith;
    }

-- an arrow is read down to its parts
pub reading_arrow : (before : List Shape) (find : ℕ → Option ℕ) (ss : List Shape) (was steps : List Step) (ps : List ℕ)
    (t u a b : TypeExpr) → u ≡ type.Arrow a b → steps ≡ step.Read b ∷ step.Read a ∷ step.Apply head.Arrow 2 ∷ was
    → IsReading before find ss (step.Read u ∷ was) ps t → Proceeds before t (step.Read u ∷ was) find ss steps ps
reading_arrow before find ss was steps ps t u a b is pushed w = record {
  reading = subst (λ (xs : List Step). IsReading before find ss xs ps t) (sym pushed) (record {
    variables = w.variables;
    more = w.more;
    extends = w.extends;
    within = w.within;
    enough = (omega arith, refl, subst (AreEnough was) (let e : length ps + 1 ≡ ((length ps + 1) + 1) - 2 + 1 = omega arith in e) w.enough);
    makes = ap (λ (v : TypeExpr). done was (v ∷ map (at (trees ss)) (reverse ps))) (sym is) ∙ w.makes;
  });
  nearer = subst (λ (xs : List Step). efforts xs < efforts (step.Read u ∷ was)) (sym pushed)
      (let e : size u ≡ suc (size a + size b) = ap size is in omega arith);
}

-- types are read one after another
done_reads : (us : List TypeExpr) (rest : List Step) (ts : List TypeExpr) → done (reverse (reads us) ++ rest) ts ≡ done rest (us ++ ts)
done_reads [] rest ts = refl
done_reads (u ∷ us) rest ts =
    ap (λ (xs : List Step). done (xs ++ rest) ts) (reverse-append (step.Read u ∷ []) (reads us))
    ∙ ap (λ (xs : List Step). done xs ts) (append_assoc (reverse (reads us)) (step.Read u ∷ []) rest)
    ∙ done_reads us (step.Read u ∷ rest) ts

enough_reads : (us : List TypeExpr) (rest : List Step) (n : ℕ) → AreEnough rest (n + length us) → AreEnough (reverse (reads us) ++ rest) n
enough_reads [] rest n all = subst (AreEnough rest) (let e : n + 0 ≡ n = omega arith in e) all
enough_reads (u ∷ us) rest n all =
    subst (λ (xs : List Step). AreEnough (xs ++ rest) n) (sym (reverse-append (step.Read u ∷ []) (reads us)))
    (subst (λ (xs : List Step). AreEnough xs n) (sym (append_assoc (reverse (reads us)) (step.Read u ∷ []) rest))
    (enough_reads us (step.Read u ∷ rest) n
    (subst (AreEnough rest) (let e : n + suc (length us) ≡ (n + length us) + 1 = omega arith in e) all)))

efforts_append : (xs ys : List Step) → efforts (xs ++ ys) ≡ efforts xs + efforts ys
efforts_append [] ys = omega arith
efforts_append (x ∷ xs) ys = let rest = efforts_append xs ys in omega arith

efforts_reads : (us : TypeExprs) → efforts (reverse (reads (listed us))) ≡ 2 * sizes us
efforts_reads type.NoType = refl
efforts_reads (type.MoreTypes u us) =
    let rest : efforts (reverse (reads (listed us))) ≡ 2 * sizes us = efforts_reads us in
    let whole : efforts (reverse (step.Read u ∷ reads (listed us))) ≡ efforts (reverse (reads (listed us)) ++ step.Read u ∷ []) =
    ap efforts (reverse-append (step.Read u ∷ []) (reads (listed us))) in
    let split = efforts_append (reverse (reads (listed us))) (step.Read u ∷ []) in
    omega arith

take_prefix : (us ts : List TypeExpr) → take (length us) (us ++ ts) ≡ us
take_prefix [] [] = refl
take_prefix [] (t ∷ ts) = refl
take_prefix (u ∷ us) ts = ap (λ (xs : List TypeExpr). u ∷ xs) (take_prefix us ts)

drop_prefix : (us ts : List TypeExpr) → drop (length us) (us ++ ts) ≡ ts
drop_prefix [] [] = refl
drop_prefix [] (t ∷ ts) = refl
drop_prefix (u ∷ us) ts = drop_prefix us ts

-- a named type is read down to its arguments
pub reading_named : (before : List Shape) (find : ℕ → Option ℕ) (ss : List Shape) (was steps : List Step) (ps : List ℕ)
    (t u : TypeExpr) (name : TypeName) (us : TypeExprs) (n : ℕ) → u ≡ type.Named name us → n ≡ length (listed us)
    → steps ≡ reverse (reads (listed us)) ++ step.Apply (head.Named name) n ∷ was
    → IsReading before find ss (step.Read u ∷ was) ps t → Proceeds before t (step.Read u ∷ was) find ss steps ps
reading_named before find ss was steps ps t u name us n is count pushed w =
    record {
      reading = subst (λ (xs : List Step). IsReading before find ss xs ps t) (sym pushed) (record {
        variables = w.variables;
        more = w.more;
        extends = w.extends;
        within = w.within;
        enough = enough_reads (listed us) (step.Apply (head.Named name) n ∷ was) (length ps)
            (omega arith, tt, subst (AreEnough was) (let e : length ps + 1 ≡ (length ps + length (listed us)) - n + 1 = omega arith in e) w.enough);
        makes =
            done_reads (listed us) (step.Apply (head.Named name) n ∷ was) (map (at (trees ss)) (reverse ps))
            ∙ ap (λ (k : ℕ). done was (built (head.Named name) (take k (listed us ++ map (at (trees ss)) (reverse ps)))
            ∷ drop k (listed us ++ map (at (trees ss)) (reverse ps)))) count
            ∙ ap (λ (vs : List TypeExpr). done was (built (head.Named name) vs ∷ drop (length (listed us)) (listed us ++ map (at (trees ss)) (reverse ps))))
            (take_prefix (listed us) (map (at (trees ss)) (reverse ps)))
            ∙ ap (λ (vs : List TypeExpr). done was (built (head.Named name) (listed us) ∷ vs)) (drop_prefix (listed us) (map (at (trees ss)) (reverse ps)))
            ∙ ap (λ (v : TypeExpr). done was (v ∷ map (at (trees ss)) (reverse ps))) (ap (type.Named name) (list_again us) ∙ sym is)
            ∙ w.makes;
      });
      nearer = subst (λ (xs : List Step). efforts xs < efforts (step.Read u ∷ was)) (sym pushed)
          (let e : size u ≡ suc (sizes us) = ap size is in
          let all = efforts_append (reverse (reads (listed us))) (step.Apply (head.Named name) n ∷ was) in
          let parts : efforts (reverse (reads (listed us))) ≡ 2 * sizes us = efforts_reads us in
          omega arith);
    }

-- a head is applied
pub reading_applied : (before : List Shape) (find then : ℕ → Option ℕ) (ss after : List Shape) (steps : List Step)
    (ps rest qs : List ℕ) (arguments : List ℕ) (t : TypeExpr) (h : TypeHead) (n place : ℕ)
    → arguments ≡ take n (reverse ps) → reverse rest ≡ drop n (reverse ps) → HasVariables then after
    → Reads ss after (built h (map (at (trees ss)) arguments)) place → qs ≡ rest ++ place ∷ []
    → IsReading before find ss (step.Apply h n ∷ steps) ps t → IsReading before then after steps qs t
reading_applied before find then ss after steps ps rest qs arguments t h n place taken left has r pushed w =
    let long : length ss ≤ length after = longer ss after r.more r.extends in
    let in_ss : (k a : ℕ) → slice_get rest k ≡ Some a → a < length ss = λ k a e.
    reversed_member (reverse rest) k a (λ b. b < length ss)
    (λ j b f. dropped_member n (reverse ps) j b (λ c. c < length ss)
    (λ i c g. reversed_member ps i c (λ d. d < length ss) w.within g)
    (ap (λ (xs : List ℕ). slice_get xs j) (sym left) ∙ f))
    (ap (λ (xs : List ℕ). slice_get xs k) (reverse-reverse rest) ∙ e) in
    let count_rest : length rest ≡ length ps - n =
    sym (length-reverse rest) ∙ ap length left ∙ length-drop n (reverse ps) ∙ ap (λ (k : ℕ). k - n) (length-reverse ps) in
    let grown : length qs ≡ length (rest ++ place ∷ []) = ap length pushed in
    let one = length-append rest (place ∷ []) in
    record {
      variables = has;
      more = w.more ++ r.more;
      extends = r.extends ∙ ap (λ (xs : List Shape). xs ++ r.more) w.extends ∙ append_assoc before w.more r.more;
      within = λ k a e. pushed_member rest place 0 k a (λ b. b < length after)
          (λ j b f. let it : b < length ss = in_ss j b f in omega arith) r.within
          (ap (λ (xs : List ℕ). slice_get xs k) (sym pushed) ∙ e);
      enough = subst (AreEnough steps) (let e : length ps - n + 1 ≡ length qs = omega arith in e) w.enough.2;
      makes =
          ap (λ (xs : List ℕ). done steps (map (at (trees after)) (reverse xs))) pushed
          ∙ ap (λ (xs : List ℕ). done steps (map (at (trees after)) xs)) (reverse-append rest (place ∷ []))
          ∙ ap (λ (v : TypeExpr). done steps (v ∷ map (at (trees after)) (reverse rest)))
          (r.value ∙ ap (λ (xs : List ℕ). built h (map (at (trees ss)) xs)) taken
          ∙ ap (built h) (sym (take-map (at (trees ss)) n (reverse ps))))
          ∙ ap (λ (vs : List TypeExpr). done steps (built h (take n (map (at (trees ss)) (reverse ps))) ∷ vs))
          (kept_types ss after r.more (reverse rest) r.extends
          (λ k a e. reversed_member rest k a (λ b. b < length ss) in_ss e)
          ∙ ap (map (at (trees ss))) left ∙ sym (drop-map (at (trees ss)) n (reverse ps)))
          ∙ w.makes;
    }

-- steps of tasks

pub steps_pushed : (xs ys : List Reading) (r : Reading) (s : Step) → ys ≡ xs ++ r ∷ [] → step_of r ≡ s → steps_of ys ≡ s ∷ steps_of xs
steps_pushed xs ys r s is it =
    ap steps_of is ∙ ap reverse (map-append step_of xs (r ∷ [])) ∙ reverse-append (map step_of xs) (step_of r ∷ [])
    ∙ ap (λ (v : Step). v ∷ steps_of xs) it

pub listed_types : (ts : List TypeTerm) → listed (types_of ts) ≡ map type_of ts
listed_types [] = refl
listed_types (t ∷ ts) = ap (λ (us : List TypeExpr). type_of t ∷ us) (listed_types ts)

reads_mapped : (ts : List TypeTerm) → map (λ t. step.Read (type_of t)) ts ≡ reads (listed (types_of ts))
reads_mapped [] = refl
reads_mapped (t ∷ ts) = ap (λ (us : List Step). step.Read (type_of t) ∷ us) (reads_mapped ts)

pub steps_of_types : (xs ys : List Reading) (types items : List TypeTerm) (rest : List Step)
    → map step_of ys ≡ map step_of xs ++ map (λ t. step.Read (type_of t)) types → types ≡ items → steps_of xs ≡ rest
    → steps_of ys ≡ reverse (reads (listed (types_of items))) ++ rest
steps_of_types xs ys types items rest is same it =
    ap reverse is ∙ reverse-append (map step_of xs) (map (λ t. step.Read (type_of t)) types)
    ∙ ap (λ (ts : List TypeTerm). reverse (map (λ t. step.Read (type_of t)) ts) ++ steps_of xs) same
    ∙ ap (λ (us : List Step). reverse us ++ steps_of xs) (reads_mapped items)
    ∙ ap (λ (us : List Step). reverse (reads (listed (types_of items))) ++ us) it

one_type : (ss : List Shape) (ps : List ℕ) (t : TypeExpr) → map (at (trees ss)) ps ≡ t ∷ [] → (p : ℕ) × (ps ≡ p ∷ []) × (at (trees ss) p ≡ t)
one_type ss [] t is = let none : ⊥ = cc in absurd none
one_type ss (p ∷ []) t is = let e : at (trees ss) p ≡ t = cc in (p, refl, e)
one_type ss (p ∷ q ∷ ps) t is = let none : ⊥ = cc in absurd none

-- all is done
pub reading_ends : (before : List Shape) (find : ℕ → Option ℕ) (ss : List Shape) (ps : List ℕ) (t : TypeExpr)
    → IsReading before find ss [] ps t → Reads before ss t (get_or ps 0 0)
reading_ends before find ss ps t w =
    let one = one_type ss (reverse ps) t w.makes in
    let is : ps ≡ one.0 ∷ [] = sym (reverse-reverse ps) ∙ ap reverse one.1 in
    let first : one.0 ≡ get_or ps 0 0 = sym (ap (λ (xs : List ℕ). get_or xs 0 0) is) in
    let at_first : slice_get ps 0 ≡ Some one.0 = ap (λ (xs : List ℕ). slice_get xs 0) is in
    record {
      more = w.more;
      extends = w.extends;
      within = subst (λ (p : ℕ). p < length ss) first (w.within 0 one.0 at_first);
      value = ap (at (trees ss)) (sym first) ∙ one.2;
    }

pub reading_count : (before : List Shape) (find : ℕ → Option ℕ) (ss : List Shape) (ps : List ℕ) (t : TypeExpr)
    → IsReading before find ss [] ps t → 0 < length ps
reading_count before find ss ps t w =
    let one = one_type ss (reverse ps) t w.makes in
    let e : length (reverse ps) ≡ 1 = ap length one.1 in
    let same : length (reverse ps) ≡ length ps = length-reverse ps in
    omega arith

pub reading_starts : (find : ℕ → Option ℕ) (ss : List Shape) (t : TypeExpr) → HasVariables find ss
    → IsReading ss find ss (step.Read t ∷ []) [] t
reading_starts find ss t has = record {
  variables = has;
  more = [];
  extends = no_more ss;
  within = λ k a e. (let none : ⊥ = cc in absurd none);
  enough = tt;
  makes = refl;
}

pub no_readings : (xs : List Reading) → length xs ≡ 0 → xs ≡ []
no_readings [] none = refl
no_readings (x ∷ xs) none = absurd (omega arith)

-- the task that is taken
pub steps_popped : (xs ys : List Reading) (r : Reading) → xs ≡ ys ++ r ∷ [] → steps_of xs ≡ step_of r ∷ steps_of ys
steps_popped xs ys r is = steps_pushed ys xs r (step_of r) is refl
