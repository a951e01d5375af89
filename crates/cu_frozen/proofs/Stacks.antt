-- Graphs after several layers.
use Rattle.std.proofs.Common.{◌≡◌, ℕ, zero, suc, ◌+◌, ◌-◌, ◌<◌, ◌≤◌, List, [], ◌∷◌, ◌++◌, length, map, replicate, take, get_or, Option, None, Some, IfSome, option_to_list, refl, ap, sym, subst, ◌∙◌, arith}
use Rattle.std.proofs.lemmas.List.{length-append, map-append, map_push, get_or-map, length-map, map-id, replicate_more, take_all}
use Rattle.std.specs.Arc.{arc_value}
use Rattle.cu_machine.specs.Graph.{Graph, Node, node_at}
use Rattle.cu_frozen.specs.declared.store.Segments.{Segments}
use Rattle.cu_frozen.specs.Layers.{Layer, Amends, AreFrozen, AreLaid, Holds, Leaves, Shows, laid, over, written}
use Rattle.cu_frozen.proofs.Overlays.{length-written}

pub length-over : (layer : Layer) (graph : Graph) → length graph ≡ layer.base → length (over layer graph) ≡ layer.base + length layer.added
length-over layer graph fits =
    omega (arith, length-append (written graph layer.changed layer.changes) layer.added, length-written graph layer.changed layer.changes)

-- ---- no layer, one layer more, and a prefix

pub none_laid : (graph : Graph) → laid graph [] ≡ graph
unfolding laid
none_laid graph = refl

none_are_laid : (graph : Graph) → AreLaid graph []
unfolding AreLaid
none_are_laid graph = tt

pub none_are_frozen : AreFrozen []
none_are_frozen = record { laid = none_are_laid []; few = omega arith }

laid_more : (graph : Graph) (layers : List Layer) (layer : Layer) → laid graph (layers ++ layer ∷ []) ≡ over layer (laid graph layers)
unfolding laid
laid_more graph [] layer = refl
laid_more graph (first ∷ layers) layer = laid_more (over first graph) layers layer

are_laid_more : (graph : Graph) (layers : List Layer) (layer : Layer) → AreLaid graph layers → length (laid graph layers) ≡ layer.base
    → AreLaid graph (layers ++ layer ∷ [])
unfolding laid AreLaid
are_laid_more graph [] layer are fits = (fits, tt)
are_laid_more graph (first ∷ layers) layer are fits = (are.0, are_laid_more (over first graph) layers layer are.1 fits)

are_laid_prefix : (graph : Graph) (prefix suffix : List Layer) → AreLaid graph (prefix ++ suffix) → AreLaid graph prefix
unfolding AreLaid
are_laid_prefix graph [] suffix are = tt
are_laid_prefix graph (first ∷ prefix) suffix are = (are.0, are_laid_prefix (over first graph) prefix suffix are.1)

last_fits : (graph : Graph) (layers : List Layer) (layer : Layer) → AreLaid graph (layers ++ layer ∷ []) → length (laid graph layers) ≡ layer.base
unfolding laid AreLaid
last_fits graph [] layer are = are.0
last_fits graph (first ∷ layers) layer are = last_fits (over first graph) layers layer are.1

-- ---- a layer among others

-- where a layer stands among others
pub record Stands (layers : List Layer) (k : ℕ) (layer : Layer) : Type 0 where
  pub fits : length (laid [] (take k layers)) ≡ layer.base
  pub more : laid [] (take (suc k) layers) ≡ over layer (laid [] (take k layers))

fits_at : (graph : Graph) (layers : List Layer) (k : ℕ) (d : Layer) → AreLaid graph layers → k < length layers
    → length (laid graph (take k layers)) ≡ (get_or layers k d).base
unfolding laid AreLaid
fits_at graph [] k d are within = absurd (omega arith)
fits_at graph (first ∷ layers) zero d are within = are.0
fits_at graph (first ∷ layers) (suc k) d are within = fits_at (over first graph) layers k d are.1 (omega arith)

more_at : (graph : Graph) (layers : List Layer) (k : ℕ) (d : Layer) → k < length layers
    → laid graph (take (suc k) layers) ≡ over (get_or layers k d) (laid graph (take k layers))
unfolding laid
more_at graph [] k d within = absurd (omega arith)
more_at graph (first ∷ layers) zero d within = refl
more_at graph (first ∷ layers) (suc k) d within = more_at (over first graph) layers k d (omega arith)

stands_at : (layers : List Layer) (k : ℕ) (layer : Layer) → AreLaid [] layers → k < length layers → get_or layers k layer ≡ layer → Stands layers k layer
stands_at layers k layer are within is = record {
  fits = fits_at [] layers k layer are within ∙ ap (λ (l : Layer). l.base) is;
  more = more_at [] layers k layer within ∙ ap (λ (l : Layer). over l (laid [] (take k layers))) is;
}

-- the graph of the layers from the first to this one shows a node as the whole does
pub record Reaches (layers : List Layer) (left id : ℕ) : Type 0 where
  pub within : left ≤ length layers
  pub there : id < length (laid [] (take left layers))
  pub same : node_at (laid [] (take left layers)) id ≡ node_at (laid [] layers) id

pub reaches_whole : (layers : List Layer) (id : ℕ) → id < length (laid [] layers) → Reaches layers (length layers) id
reaches_whole layers id there = record {
  within = omega arith;
  there = subst (λ prefix. id < length (laid [] prefix)) (sym (take_all (length layers) layers (omega arith))) there;
  same = ap (λ prefix. node_at (laid [] prefix) id) (take_all (length layers) layers (omega arith));
}

pub reaches_again : (layers : List Layer) (left id : ℕ) → 0 < left → Reaches layers left id → Reaches layers (suc (left - 1)) id
reaches_again layers left id some reaches = let next : left ≡ suc (left - 1) = omega arith in subst (λ k. Reaches layers k id) next reaches

pub reached_inside : (layers : List Layer) (k id : ℕ) (layer : Layer) → Stands layers k layer → Reaches layers (suc k) id
    → id < layer.base + length layer.added
reached_inside layers k id layer stands reaches =
    let there = reaches.there in
    omega (arith, ap length stands.more, length-over layer (laid [] (take k layers)) stands.fits)

pub reached_shown : (layers : List Layer) (k id : ℕ) (layer : Layer) (nodes : List Node) (place : ℕ) → Stands layers k layer → Reaches layers (suc k) id
    → Holds layer id nodes place → Shows nodes place (laid [] layers) id
reached_shown layers k id layer nodes place stands reaches here =
    let shown = here (laid [] (take k layers)) stands.fits in
    record { within = shown.within; same = shown.same ∙ ap (λ graph. node_at graph id) (sym stands.more) ∙ reaches.same }

pub reached_below : (layers : List Layer) (k id : ℕ) (layer : Layer) → Stands layers k layer → Reaches layers (suc k) id → id < layer.base
    → Leaves layer id → Reaches layers k id
reached_below layers k id layer stands reaches below elsewhere =
    let within = reaches.within in
    record {
      within = omega arith;
      there = let fits = stands.fits in omega arith;
      same = sym (elsewhere (laid [] (take k layers)) stands.fits) ∙ ap (λ graph. node_at graph id) (sym stands.more) ∙ reaches.same;
    }

none_there : (layers : List Layer) (id : ℕ) → Reaches layers 0 id → ⊥
unfolding laid
none_there layers id reaches = let there : id < 0 = reaches.there in omega arith

pub none_reached : (layers : List Layer) (left id : ℕ) → left ≤ 0 → Reaches layers left id → ⊥
none_reached layers left id none reaches =
    let at_start : left ≡ 0 = omega arith in
    none_there layers id (subst (λ k. Reaches layers k id) at_start reaches)

-- ---- layers that are kept in a list of other things

module _ {X : Type 0} (f : X → Layer) where
  pub stands_in : (items : List X) (k : ℕ) (x : X) (layer : Layer) → AreLaid [] (map f items) → k < length items → get_or items k x ≡ x → f x ≡ layer
      → Stands (map f items) k layer
  stands_in items k x layer are within is means =
      stands_at (map f items) k layer are (omega (arith, length-map items f))
      (get_or-map f items k x layer within ∙ ap f is ∙ means)

  pushed_are_laid : (items new : List X) (x : X) (layers : List Layer) (layer : Layer) → new ≡ items ++ x ∷ [] → f x ≡ layer → map f items ≡ layers
      → AreLaid [] (map f items) → length (laid [] layers) ≡ layer.base → AreLaid [] (map f new)
  pushed_are_laid items new x layers layer pushed means is are fits =
      subst (AreLaid []) (sym (ap (map f) pushed ∙ map_push f items x))
      (are_laid_more [] (map f items) (f x) are (ap (λ ls. length (laid [] ls)) is ∙ fits ∙ ap (λ (l : Layer). l.base) (sym means)))

  pub pushed_are_frozen : (items new : List X) (x : X) (layers : List Layer) (layer : Layer) → new ≡ items ++ x ∷ [] → f x ≡ layer → map f items ≡ layers
      → AreFrozen (map f items) → length (laid [] layers) ≡ layer.base → length layers < 24 → AreFrozen (map f new)
  pushed_are_frozen items new x layers layer pushed means is are fits room = record {
    laid = pushed_are_laid items new x layers layer pushed means is are.laid fits;
    few = omega (arith, ap length (ap (map f) pushed ∙ map_push f items x), length-append (map f items) (f x ∷ []), ap length is);
  }

  pub pushed_graph : (items new : List X) (x : X) (layers : List Layer) (layer : Layer) → new ≡ items ++ x ∷ [] → f x ≡ layer → map f items ≡ layers
      → laid [] (map f new) ≡ over layer (laid [] layers)
  pushed_graph items new x layers layer pushed means is =
      ap (laid []) (ap (map f) pushed ∙ map_push f items x) ∙ laid_more [] (map f items) (f x)
      ∙ ap (λ (l : Layer). over l (laid [] (map f items))) means ∙ ap (λ ls. over layer (laid [] ls)) is

  prefix_are_laid : (items prefix suffix : List X) → items ≡ prefix ++ suffix → AreLaid [] (map f items) → AreLaid [] (map f prefix)
  prefix_are_laid items prefix suffix is are =
      are_laid_prefix [] (map f prefix) (map f suffix) (subst (AreLaid []) (ap (map f) is ∙ map-append f prefix suffix) are)

  pub prefix_are_frozen : (items prefix suffix : List X) → items ≡ prefix ++ suffix → AreFrozen (map f items) → AreFrozen (map f prefix)
  prefix_are_frozen items prefix suffix is are =
      let few = are.few in
      record {
        laid = prefix_are_laid items prefix suffix is are.laid;
        few = omega (arith, ap length (ap (map f) is ∙ map-append f prefix suffix), length-append (map f prefix) (map f suffix));
      }

  pub popped_graph : (items prefix : List X) (layers : List Layer) (last : Option X) → items ≡ prefix ++ option_to_list last → map f items ≡ layers
      → IfSome last (λ x. laid [] layers ≡ over (f x) (laid [] (map f prefix)))
  popped_graph items prefix layers None is means = tt
  popped_graph items prefix layers (Some x) is means =
      ap (laid []) (sym means ∙ ap (map f) is ∙ map_push f prefix x) ∙ laid_more [] (map f prefix) (f x)

  pub popped_fits : (items prefix : List X) (last : Option X) → items ≡ prefix ++ option_to_list last → AreLaid [] (map f items)
      → IfSome last (λ x. length (laid [] (map f prefix)) ≡ (f x).base)
  popped_fits items prefix None is are = tt
  popped_fits items prefix (Some x) is are = last_fits [] (map f prefix) (f x) (subst (AreLaid []) (ap (map f) is ∙ map_push f prefix x) are)

  pub popped_fewer : (items prefix : List X) (layers : List Layer) (last : Option X) → items ≡ prefix ++ option_to_list last → map f items ≡ layers
      → IfSome last (λ _. length (map f prefix) < length layers)
  popped_fewer items prefix layers None is means = tt
  popped_fewer items prefix layers (Some x) is means =
      omega (arith, ap length (sym means ∙ ap (map f) is ∙ map_push f prefix x), length-append (map f prefix) (f x ∷ []))

-- ---- two layers joined

pub joins : (last segment joined : Layer) (graph whole : Graph) → Amends last segment (λ g. g) → length graph ≡ last.base → whole ≡ over last graph
    → length whole ≡ joined.base → joined.base ≡ segment.base + length segment.added
joins last segment joined graph whole copied fits is size =
    let there : length graph ≡ segment.base = fits ∙ sym copied.base in
    sym size ∙ ap length (is ∙ sym (copied.graph graph fits)) ∙ length-over segment graph there

pub joined_fits : (last segment joined : Layer) (graph : Graph) (change : Graph → Graph) → Amends last segment (λ g. g) → Amends segment joined change
    → length graph ≡ last.base → length graph ≡ joined.base
joined_fits last segment joined graph change copied amended fits = fits ∙ sym (amended.base ∙ copied.base)

pub joined_graph : (last segment older newer : Layer) (graph whole : Graph) → Amends last segment (λ g. g) → Amends segment newer (over older)
    → length graph ≡ last.base → whole ≡ over last graph → over newer graph ≡ over older whole
joined_graph last segment older newer graph whole copied amended fits is =
    amended.graph graph (fits ∙ sym copied.base) ∙ ap (over older) (copied.graph graph fits ∙ sym is)

-- ---- a graph with a layer on top

pub size_of : (top : Layer) (below whole : Graph) → length below ≡ top.base → over top below ≡ whole → length whole ≡ top.base + length top.added
size_of top below whole fits is = ap length (sym is) ∙ length-over top below fits

-- the same, where the segments are read through a pointer
pub size_read : (kept read : Segments) (whole : Graph) → read ≡ kept → length (laid [] (arc_value kept.frozen)) ≡ kept.top.base
    → over kept.top (laid [] (arc_value kept.frozen)) ≡ whole → length whole ≡ read.top.base + length read.top.added
size_read kept read whole same fits is =
    size_of kept.top (laid [] (arc_value kept.frozen)) whole fits is ∙ ap (λ (s : Segments). s.top.base + length s.top.added) (sym same)

-- ---- as many graphs as asked for

pub forked : (stores new : List Graph) (last whole : Graph) (made count : ℕ) → stores ≡ replicate made whole → new ≡ stores ++ last ∷ [] → last ≡ whole
    → made + 1 ≡ count → map (λ graph. graph) new ≡ replicate count whole
forked stores new last whole made count copies all same number =
    map-id new ∙ all ∙ ap (λ graphs. graphs ++ last ∷ []) copies ∙ ap (λ graph. replicate made whole ++ graph ∷ []) same
    ∙ replicate_more made whole ∙ ap (λ n. replicate n whole) number
