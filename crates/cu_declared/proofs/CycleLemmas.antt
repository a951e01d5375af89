-- The graph of a module's synonyms, and those that lead to themselves.
use Rattle.std.proofs.Common.{◌≡◌, ◌∙◌, ◌⊎◌, inl, inr, ◌<◌, ◌+◌, ℕ, zero, suc, Bool, true, false, List, [], ◌∷◌, ◌++◌, Option, None, Some, length, if◌then◌else◌, map, refl, sym, ap, ap₂, subst, arith}
use Rattle.std.proofs.lemmas.List.{length-map}
use Rattle.std.proofs.lemmas.List.Concat.{flat_map-cons}
use Rattle.std.specs.Prelude.{slice_get}
use Rattle.cu_cycles.proofs.Lists.{get_suffix}
use Rattle.cu_cycles.proofs.Places.{prefix_or_suffix, get_map, mapped_at, there, within}
use Rattle.cu_cycles.specs.Graph as graph
use Rattle.cu_cycles.specs.Graph.{AreOnCycles, Edge, Graph, IsWhole, LiesOnCycle, Reach}
use Rattle.cu_entities.specs.Bindings.{Binding}
use Rattle.cu_entities.specs.Entities.{Entity, Types}
use Rattle.cu_modules.specs.Scopes.{Named, meant}
use Rattle.cu_declared.specs.declared.synonyms.Synonym as code
use Rattle.cu_declared.specs.Inside.Arities.{alone, entity_meant}
use Rattle.cu_declared.specs.Inside.Synonyms.{AreCycles, Kept, flagged_fault, flagged_faults, kept, kept_by, kept_numbers, listed, number_if, row_of, target_of, targets}
use Rattle.cu_declared.specs.Inside.Told.{World, bindings_of}
use Rattle.cu_declared.specs.Parameters.{Numbered, belongs_to, number_of, numbered}
use Rattle.cu_declared.specs.SynonymCycles as cycles
use Rattle.cu_declared.specs.SynonymCycles.{LeadsTo, Mentions, Synonym, numbers_from, synonym_numbers, synonyms_in}
use Rattle.cu_declared.specs.TypeFaults as faults
use Rattle.cu_declared.specs.TypeFaults.{Fault, IsCycleFault, cycle_fault}
use Rattle.cu_declared.specs.TypeUses.{TypeUse, type_uses}
use Rattle.cu_declared.proofs.ArityLemmas.{alone_is}

-- ---- the numbers of synonyms

numbers_are : (k : ℕ) (owner : List ℕ) (ss : List Synonym) → kept_numbers k owner (map kept ss) ≡ numbers_from k owner ss
numbers_are k owner [] = refl
numbers_are k owner (s ∷ ss) = ap (λ ns. numbered owner s.name k ∷ ns) (numbers_are (k + 1) owner ss)

number_here : (b : Bool) (k n : ℕ) (other : Option ℕ) → (if b then Some k else other) ≡ Some n → (k ≡ n) ⊎ (other ≡ Some n)
number_here true k n other e = inl cc
number_here false k n other e = inr e

below : (k n : ℕ) (owner : List ℕ) (ss : List Synonym) (e : Entity) → number_of (numbers_from k owner ss) e ≡ Some n → n < k + length ss
below k n owner [] e is = let no : ⊥ = cc in absurd no
below k n owner (s ∷ ss) e is =
    elim (number_here (belongs_to e.owner e.name (numbered owner s.name k)) k n (number_of (numbers_from (k + 1) owner ss) e) is) [
      | inl same ↦ omega arith
      | inr rest ↦ let later : n < k + 1 + length ss = below (k + 1) n owner ss e rest in omega arith
    ]

-- ---- targets

pub rows_normal : (names : List (List ℕ)) (bindings : List Binding) (m : Named) (owner : List ℕ) (xs : List code.Synonym) (rows : List (List ℕ)) → owner ≡ m.name
    → map (kept_by names) xs ≡ map kept (synonyms_in m)
    → rows ≡ map (row_of (kept_numbers 0 owner (map (kept_by names) xs)) bindings) (map (kept_by names) xs)
    → rows ≡ map (row_of (synonym_numbers m) bindings) (map kept (synonyms_in m))
rows_normal names bindings m owner xs rows same are rows_are =
    rows_are ∙ ap (λ (ks : List Kept). map (row_of (kept_numbers 0 owner ks) bindings) ks) are
    ∙ ap (λ (ns : List Numbered). map (row_of ns bindings) (map kept (synonyms_in m))) (ap (λ (o : List ℕ). kept_numbers 0 o (map kept (synonyms_in m))) same ∙ numbers_are 0 m.name (synonyms_in m))

if_number : (numbers : List Numbered) (found : Option Entity) (j : ℕ) → number_if numbers found ≡ Some j → (e : Entity) × (found ≡ Some e) × (number_of numbers e ≡ Some j)
if_number numbers None j is = let no : ⊥ = cc in absurd no
if_number numbers (Some e) j is = (e, refl, is)

listed_is : (found : Option ℕ) (k j : ℕ) → slice_get (listed found) k ≡ Some j → found ≡ Some j
listed_is None k j e = let no : ⊥ = cc in absurd no
listed_is (Some n) zero j e = e
listed_is (Some n) (suc k) j e = let no : ⊥ = cc in absurd no

target_from : (numbers : List Numbered) (bindings : List Binding) (uses : List TypeUse) (k j : ℕ) → slice_get (targets numbers bindings uses) k ≡ Some j
    → (used : TypeUse) × (place : ℕ) × (slice_get uses place ≡ Some used) × (target_of numbers bindings used ≡ Some j)
target_from numbers bindings [] k j e = let no : ⊥ = cc in absurd no
target_from numbers bindings (used ∷ uses) k j e =
    elim (prefix_or_suffix (listed (target_of numbers bindings used)) (targets numbers bindings uses) k j
    (subst (λ (ts : List ℕ). slice_get ts k ≡ Some j) (flat_map-cons (λ u. listed (target_of numbers bindings u)) used uses) e)) [
      | inl h ↦ (used, 0, refl, listed_is (target_of numbers bindings used) k j h)
      | inr h ↦ let rest = target_from numbers bindings uses h.0 j h.2 in (rest.0, suc rest.1, rest.2, rest.3)
    ]

target_by : (numbers : List Numbered) (bindings : List Binding) (uses : List TypeUse) (place j : ℕ) (used : TypeUse) → slice_get uses place ≡ Some used → target_of numbers bindings used ≡ Some j
    → (k : ℕ) × (slice_get (targets numbers bindings uses) k ≡ Some j)
target_by numbers bindings [] place j used e is = let no : ⊥ = cc in absurd no
target_by numbers bindings (u ∷ uses) zero j used e is =
    let same : u ≡ used = cc in
    let here : listed (target_of numbers bindings u) ≡ j ∷ [] = ap (λ x. listed (target_of numbers bindings x)) same ∙ ap listed is in (
      0,
      subst (λ (ts : List ℕ). slice_get ts 0 ≡ Some j)
          (sym (flat_map-cons (λ x. listed (target_of numbers bindings x)) u uses ∙ ap (λ ts. ts ++ targets numbers bindings uses) here)) refl,
    )
target_by numbers bindings (u ∷ uses) (suc place) j used e is =
    let rest = target_by numbers bindings uses place j used e is in (
      length (listed (target_of numbers bindings u)) + rest.0,
      subst (λ (ts : List ℕ). slice_get ts (length (listed (target_of numbers bindings u)) + rest.0) ≡ Some j) (sym (flat_map-cons (λ x. listed (target_of numbers bindings x)) u uses))
          (get_suffix (listed (target_of numbers bindings u)) (targets numbers bindings uses) rest.0 ∙ rest.1),
    )

abbrev flag_fault : Kept → Fault
flag_fault s = record { wrong = faults.SynonymCycle s.name; at = s.at }

flagged_here : (b : Bool) (s : Kept) (k : ℕ) (f : Fault) → slice_get (flagged_fault b s) k ≡ Some f → (b ≡ true) × (f ≡ flag_fault s)
flagged_here true s zero f e = (refl, cc)
flagged_here true s (suc k) f e = let no : ⊥ = cc in absurd no
flagged_here false s k f e = let no : ⊥ = cc in absurd no

-- as many rows as synonyms
pub rows_many : {A B : Type 0} (f : B → List ℕ) (h : A → B) (g : Graph) (xs : List A) → g ≡ map f (map h xs) → length g ≡ length xs
rows_many f h g xs rows = ap length rows ∙ length-map (map h xs) f ∙ length-map xs h

-- ---- edges

module _ (bindings : List Binding) (m : Named) (g : Graph) (rows : g ≡ map (row_of (synonym_numbers m) bindings) (map kept (synonyms_in m))) where
  pub as_many : length g ≡ length (synonyms_in m)
  as_many = rows_many (row_of (synonym_numbers m) bindings) kept g (synonyms_in m) rows

  mentions : (i j : ℕ) → Edge g i j → Mentions bindings m i j
  mentions i j edge =
      let row : slice_get (map (row_of (synonym_numbers m) bindings) (map kept (synonyms_in m))) i ≡ Some edge.row =
      subst (λ (rs : List (List ℕ)). slice_get rs i ≡ Some edge.row) rows edge.is_row in
      let k = mapped_at (row_of (synonym_numbers m) bindings) (map kept (synonyms_in m)) i edge.row row in
      let s = mapped_at kept (synonyms_in m) i k.0 k.1 in
      let uses_are : type_uses s.0.right ≡ k.0.uses = ap (λ (x : Kept). x.uses) s.2 in
      let found = target_from (synonym_numbers m) bindings k.0.uses edge.place j (subst (λ (ts : List ℕ). slice_get ts edge.place ≡ Some j) (sym k.2) edge.is_there) in
      let e = if_number (synonym_numbers m) (entity_meant bindings found.0) j found.3 in
      record {
        synonym = s.0;
        is_there = s.1;
        used = found.0;
        place = found.1;
        stands = subst (λ (us : List TypeUse). slice_get us found.1 ≡ Some found.0) (sym uses_are) found.2;
        entity = e.0;
        means = alone_is (meant bindings Types found.0.name) e.0 e.1;
        is_synonym = e.2;
      }

  edge_of : (i j : ℕ) → Mentions bindings m i j → Edge g i j
  edge_of i j names =
      let row_at = row_there i names.synonym names.is_there in
      let target : target_of (synonym_numbers m) bindings names.used ≡ Some j =
      ap (λ (es : List Entity). number_if (synonym_numbers m) (alone es)) names.means ∙ names.is_synonym in
      let found = target_by (synonym_numbers m) bindings (type_uses names.synonym.right) names.place j names.used names.stands target in
      record {
        row = targets (synonym_numbers m) bindings (type_uses names.synonym.right);
        is_row = row_at;
        place = found.0;
        is_there = found.1;
      }
    where
      row_there : (k : ℕ) (s : Synonym) → slice_get (synonyms_in m) k ≡ Some s → slice_get g k ≡ Some (row_of (synonym_numbers m) bindings (kept s))
      row_there k s at =
          subst (λ (rs : List (List ℕ)). slice_get rs k ≡ Some (row_of (synonym_numbers m) bindings (kept s))) (sym rows)
          (get_map (row_of (synonym_numbers m) bindings) (map kept (synonyms_in m)) k (kept s) (get_map kept (synonyms_in m) k s at))

  pub whole : IsWhole g
  whole = record {
    within = λ u v edge.
        let names = mentions u v edge in
        let low : v < 0 + length (synonyms_in m) = below 0 v m.name (synonyms_in m) names.entity names.is_synonym in
        let same : length g ≡ length (synonyms_in m) = as_many in
        omega arith;
  }

  leads_by : (a b c : ℕ) → Edge g a b → Reach g b c → LeadsTo bindings m a c
  leads_by a _ _ edge (graph.here b) = cycles.at_once a b (mentions a b edge)
  leads_by a _ _ edge (graph.there b x c next rest) = cycles.by_way_of a b c (mentions a b edge) (leads_by b x c next rest)

  reach_by : (a c : ℕ) → LeadsTo bindings m a c → (n : ℕ) × Edge g a n × Reach g n c
  reach_by _ _ (cycles.at_once i j names) = (j, edge_of i j names, graph.here j)
  reach_by _ _ (cycles.by_way_of i j k names rest) =
      let more = reach_by j k rest in (j, edge_of i j names, graph.there j more.0 k more.1 more.2)

  leads : (u : ℕ) → LiesOnCycle g u → LeadsTo bindings m u u
  leads u cycle = leads_by u cycle.next u cycle.edge cycle.closes

  lies : (u : ℕ) → LeadsTo bindings m u u → LiesOnCycle g u
  lies u leads_converse = let found = reach_by u u leads_converse in record { next = found.0; edge = found.1; closes = found.2 }

  -- ---- faults

  each_flagged : (flags : List Bool) (ks : List Kept) (k : ℕ) (f : Fault) → slice_get (flagged_faults flags ks) k ≡ Some f
      → (n : ℕ) × (s : Kept) × (slice_get flags n ≡ Some true) × (slice_get ks n ≡ Some s) × (f ≡ flag_fault s)
  each_flagged [] ks k f e = let no : ⊥ = cc in absurd no
  each_flagged (b ∷ flags) [] k f e = let no : ⊥ = cc in absurd no
  each_flagged (b ∷ flags) (s ∷ ks) k f e =
      elim (prefix_or_suffix (flagged_fault b s) (flagged_faults flags ks) k f e) [
        | inl h ↦ let here = flagged_here b s k f h in (0, s, ap Some here.0, refl, here.1)
        | inr h ↦ let rest = each_flagged flags ks h.0 f h.2 in (suc rest.0, rest.1, rest.2, rest.3, rest.4)
      ]

  flagged_by : (flags : List Bool) (ks : List Kept) (n : ℕ) (s : Kept) → slice_get flags n ≡ Some true → slice_get ks n ≡ Some s
      → (k : ℕ) × (slice_get (flagged_faults flags ks) k ≡ Some (flag_fault s))
  flagged_by [] ks n s e d = let no : ⊥ = cc in absurd no
  flagged_by (b ∷ flags) [] n s e d = let no : ⊥ = cc in absurd no
  flagged_by (b ∷ flags) (t ∷ ks) zero s e d =
      let flag : b ≡ true = cc in
      let same : t ≡ s = cc in
      (0, subst (λ (fs : List Fault). slice_get fs 0 ≡ Some (flag_fault s)) (ap₂ (λ (x : Bool) (y : Kept). flagged_fault x y ++ flagged_faults flags ks) (sym flag) (sym same)) refl)
  flagged_by (b ∷ flags) (t ∷ ks) (suc n) s e d =
      let rest = flagged_by flags ks n s e d in
      (length (flagged_fault b t) + rest.0, get_suffix (flagged_fault b t) (flagged_faults flags ks) rest.0 ∙ rest.1)

  pub cycles_are : (w : World) (flags : List Bool) → AreOnCycles g flags → bindings_of w ≡ bindings → w.m ≡ m → (ks : List Kept) → ks ≡ map kept (synonyms_in m) → AreCycles w (flagged_faults flags ks)
  cycles_are w flags on bindings_are m_is ks kept_are = record {
    each = λ k f e.
        let found = each_flagged flags ks k f e in
        let s = mapped_at kept (synonyms_in m) found.0 found.1 (subst (λ (xs : List Kept). slice_get xs found.0 ≡ Some found.1) kept_are found.3) in
        at_world w f bindings_are m_is (record {
          number = found.0;
          synonym = s.0;
          is_there = s.1;
          leads = leads found.0 ((on.tells found.0 true found.2).0 refl);
          is = found.4 ∙ ap flag_fault (sym s.2);
        });
    all = λ f is.
        let here = from_world w f bindings_are m_is is in
        let low = flag_there here.number here.synonym here.is_there in
        let flag : slice_get flags here.number ≡ Some true = low.1 ∙ ap Some ((on.tells here.number low.0 low.1).1 (lies here.number here.leads)) in
        let found = flagged_by flags ks here.number (kept here.synonym) flag
        (subst (λ (xs : List Kept). slice_get xs here.number ≡ Some (kept here.synonym)) (sym kept_are) (get_map kept (synonyms_in m) here.number here.synonym here.is_there)) in
        (found.0, found.1 ∙ ap Some (sym here.is));
  }
    where
      at_world : (v : World) (f : Fault) → bindings_of v ≡ bindings → v.m ≡ m → IsCycleFault bindings m f → IsCycleFault (bindings_of v) v.m f
      at_world v f b e is = subst (λ (x : Named). IsCycleFault (bindings_of v) x f) (sym e) (subst (λ (x : List Binding). IsCycleFault x m f) (sym b) is)

      from_world : (v : World) (f : Fault) → bindings_of v ≡ bindings → v.m ≡ m → IsCycleFault (bindings_of v) v.m f → IsCycleFault bindings m f
      from_world v f b e is = subst (λ (x : List Binding). IsCycleFault x m f) b (subst (λ (x : Named). IsCycleFault (bindings_of v) x f) e is)

      flag_there : (n : ℕ) (s : Synonym) → slice_get (synonyms_in m) n ≡ Some s → (flag : Bool) × (slice_get flags n ≡ Some flag)
      flag_there n s at =
          let inside : n < length (synonyms_in m) = within (synonyms_in m) n s at in
          let sized : length flags ≡ length g = on.sized in
          let same : length g ≡ length (synonyms_in m) = as_many in
          there flags n (omega arith)
