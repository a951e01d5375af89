-- That the computed captured variables and dependencies are those that the relations have.
use Rattle.std.specs.Prelude.{◌≡◌, ◌⊎◌, ◌↔◌, ◌&&◌, ◌||◌, ℕ, zero, suc, Bool, true, false, not, List, flat_map, length, refl}
use Rattle.std.specs.List.{filter, list_any}
use Rattle.std.proofs.Common.{ap, sym, ◌∙◌, inl, inr}
use Rattle.std.proofs.lemmas.Bool.{and_from, and_parts, or_cases}
use Rattle.cu_lex.specs.Located.{Position}
use Rattle.cu_translation.specs.Dependencies.{Captures, Definition, DependsOn, all_called, at_once, binds, called, captures, captures_within, definitions, depends, depends_within, function_in, further, is_innermost, is_recursive, own, through, used_by, uses}
use Rattle.cu_translation.specs.LocalNames.{Binder}
use Rattle.cu_translation.specs.Sites.{Node}
use Rattle.cu_translation.proofs.Members.{Among, any_from, any_same, any_to, from_among, from_filter, from_flat_map, in_flat_map, to_among}
use Rattle.cu_translation.proofs.Settling.{AllSame, Grows, all_same, same_at, settled}

or_right : (a b : Bool) → b ≡ true → (a || b) ≡ true
or_right true b e = refl
or_right false b e = e

or_left : (a b : Bool) → a ≡ true → (a || b) ≡ true
or_left a b e = ap (λ x. x || b) e

not_false : (b : Bool) → b ≡ false → not b ≡ true
not_false b e = ap not e

is_false : (b : Bool) → not b ≡ true → b ≡ false
is_false true e = let no : ⊥ = cc in absurd no
is_false false e = refl

-- ---- captured variables

abbrev tests : List Node → Binder → ℕ → Position → Bool
tests nodes b n f = captures_within n nodes f b

rising_used : (nodes : List Node) (b : Binder) (n : ℕ) (f : Position)
    → (uses nodes f b ≡ true) ⊎ (list_any (tests nodes b n) (called nodes f) ≡ true)
    → ((g : Position) → tests nodes b n g ≡ true → tests nodes b (suc n) g ≡ true)
    → (uses nodes f b || list_any (tests nodes b (suc n)) (called nodes f)) ≡ true
rising_used nodes b n f (inl e) go = or_left (uses nodes f b) (list_any (tests nodes b (suc n)) (called nodes f)) e
rising_used nodes b n f (inr e) go =
    let g = any_to (tests nodes b n) (called nodes f) e in
    or_right (uses nodes f b) (list_any (tests nodes b (suc n)) (called nodes f))
    (any_from (tests nodes b (suc n)) g.x (called nodes f) g.among (go g.x g.passes))

rising : (nodes : List Node) (b : Binder) (n : ℕ) (f : Position) → tests nodes b n f ≡ true → tests nodes b (suc n) f ≡ true
rising nodes b zero f e = let no : ⊥ = cc in absurd no
rising nodes b (suc n) f e =
    let parts = and_parts (not (binds nodes f b)) (uses nodes f b || list_any (tests nodes b n) (called nodes f)) e in
    and_from (not (binds nodes f b)) (uses nodes f b || list_any (tests nodes b (suc n)) (called nodes f)) parts.0
    (rising_used nodes b n f (or_cases (uses nodes f b) (list_any (tests nodes b n) (called nodes f)) parts.1) (rising nodes b n))

called_among : (nodes : List Node) (f g : Position) → Among g (called nodes f) → Among g (all_called nodes)
called_among nodes f g a =
    let u = from_flat_map function_in g (flat_map used_by (filter (λ (n : Node). is_innermost f n.spot.functions) nodes)) a in
    let n = from_flat_map used_by u.x (filter (λ (n : Node). is_innermost f n.spot.functions) nodes) u.among in
    in_flat_map function_in g u.x (flat_map used_by nodes)
    (in_flat_map used_by u.x n.x nodes (from_filter (λ (n : Node). is_innermost f n.spot.functions) n.x nodes n.among) n.inside) u.inside

same_step : (nodes : List Node) (b : Binder) (n : ℕ) (f : Position) → AllSame (tests nodes b (suc n)) (tests nodes b n) (all_called nodes)
    → tests nodes b (suc (suc n)) f ≡ tests nodes b (suc n) f
same_step nodes b n f s =
    ap (λ t. not (binds nodes f b) && (uses nodes f b || t))
    (any_same (tests nodes b (suc n)) (tests nodes b n) (called nodes f)
    (λ g a. same_at (tests nodes b (suc n)) (tests nodes b n) g (all_called nodes) s (called_among nodes f g a)))

captures_grow : (nodes : List Node) (b : Binder) → Grows (tests nodes b) (all_called nodes)
captures_grow nodes b = record {
  rises = rising nodes b;
  stays = λ n s. all_same (tests nodes b (suc (suc n))) (tests nodes b (suc n)) (all_called nodes) (λ f. same_step nodes b n f s);
}

captured_by : (nodes : List Node) (b : Binder) (n : ℕ) (f : Position) → binds nodes f b ≡ false
    → (uses nodes f b ≡ true) ⊎ (list_any (tests nodes b n) (called nodes f) ≡ true)
    → ((g : Position) → tests nodes b n g ≡ true → Captures nodes b g) → Captures nodes b f
captured_by nodes b n f unbound (inl e) go = own f unbound e
captured_by nodes b n f unbound (inr e) go =
    let g = any_to (tests nodes b n) (called nodes f) e in
    through f g.x unbound (from_among g.x (called nodes f) g.among) (go g.x g.passes)

sound : (nodes : List Node) (b : Binder) (n : ℕ) (f : Position) → tests nodes b n f ≡ true → Captures nodes b f
sound nodes b zero f e = let no : ⊥ = cc in absurd no
sound nodes b (suc n) f e =
    let parts = and_parts (not (binds nodes f b)) (uses nodes f b || list_any (tests nodes b n) (called nodes f)) e in
    captured_by nodes b n f (is_false (binds nodes f b) parts.0)
    (or_cases (uses nodes f b) (list_any (tests nodes b n) (called nodes f)) parts.1) (sound nodes b n)

complete : (nodes : List Node) (b : Binder) (n : ℕ) → AllSame (tests nodes b (suc n)) (tests nodes b n) (all_called nodes)
    → (f : Position) → Captures nodes b f → tests nodes b (suc n) f ≡ true
complete nodes b n s f (own _ unbound e) =
    and_from (not (binds nodes f b)) (uses nodes f b || list_any (tests nodes b n) (called nodes f)) (not_false (binds nodes f b) unbound)
    (or_left (uses nodes f b) (list_any (tests nodes b n) (called nodes f)) e)
complete nodes b n s f (through _ g unbound c d) =
    let a = to_among g (called nodes f) c in
    let at_g = sym (same_at (tests nodes b (suc n)) (tests nodes b n) g (all_called nodes) s (called_among nodes f g a)) ∙ complete nodes b n s g d in
    and_from (not (binds nodes f b)) (uses nodes f b || list_any (tests nodes b n) (called nodes f)) (not_false (binds nodes f b) unbound)
    (or_right (uses nodes f b) (list_any (tests nodes b n) (called nodes f)) (any_from (tests nodes b n) g (called nodes f) a at_g))

pub captures_exactly : (nodes : List Node) (b : Binder) (f : Position) → (captures nodes f b ≡ true) ↔ Captures nodes b f
captures_exactly nodes b f = (
  sound nodes b (suc (length (all_called nodes))) f,
  complete nodes b (length (all_called nodes)) (settled (tests nodes b) (all_called nodes) (captures_grow nodes b)) f,
)

-- ---- dependencies

abbrev steps : List Node → Binder → ℕ → Definition → Bool
steps nodes y n d = depends_within n nodes d.variable y

abbrev further_on : List Node → Binder → Binder → ℕ → Definition → Bool
further_on nodes x y n d = depends nodes x d.variable && depends_within n nodes d.variable y

deeper : (nodes : List Node) (x y : Binder) (n : ℕ)
    → (depends nodes x y ≡ true) ⊎ (list_any (further_on nodes x y n) (definitions nodes) ≡ true)
    → ((d : Definition) → steps nodes y n d ≡ true → steps nodes y (suc n) d ≡ true)
    → depends_within (suc (suc n)) nodes x y ≡ true
deeper nodes x y n (inl e) go = or_left (depends nodes x y) (list_any (further_on nodes x y (suc n)) (definitions nodes)) e
deeper nodes x y n (inr e) go =
    let d = any_to (further_on nodes x y n) (definitions nodes) e in
    let parts = and_parts (depends nodes x d.x.variable) (steps nodes y n d.x) d.passes in
    or_right (depends nodes x y) (list_any (further_on nodes x y (suc n)) (definitions nodes))
    (any_from (further_on nodes x y (suc n)) d.x (definitions nodes) d.among
    (and_from (depends nodes x d.x.variable) (steps nodes y (suc n) d.x) parts.0 (go d.x parts.1)))

steps_rise : (nodes : List Node) (y : Binder) (n : ℕ) (d : Definition) → steps nodes y n d ≡ true → steps nodes y (suc n) d ≡ true
steps_rise nodes y zero d e = let no : ⊥ = cc in absurd no
steps_rise nodes y (suc n) d e =
    deeper nodes d.variable y n
    (or_cases (depends nodes d.variable y) (list_any (further_on nodes d.variable y n) (definitions nodes)) e) (steps_rise nodes y n)

same_steps : (nodes : List Node) (x y : Binder) (n : ℕ) → AllSame (steps nodes y (suc n)) (steps nodes y n) (definitions nodes)
    → depends_within (suc (suc n)) nodes x y ≡ depends_within (suc n) nodes x y
same_steps nodes x y n s =
    ap (λ t. depends nodes x y || t)
    (any_same (further_on nodes x y (suc n)) (further_on nodes x y n) (definitions nodes)
    (λ d a. ap (λ t. depends nodes x d.variable && t) (same_at (steps nodes y (suc n)) (steps nodes y n) d (definitions nodes) s a)))

steps_grow : (nodes : List Node) (y : Binder) → Grows (steps nodes y) (definitions nodes)
steps_grow nodes y = record {
  rises = steps_rise nodes y;
  stays = λ n s. all_same (steps nodes y (suc (suc n))) (steps nodes y (suc n)) (definitions nodes) (λ d. same_steps nodes d.variable y n s);
}

depends_by : (nodes : List Node) (x y : Binder) (n : ℕ)
    → (depends nodes x y ≡ true) ⊎ (list_any (further_on nodes x y n) (definitions nodes) ≡ true)
    → ((z : Binder) → depends_within n nodes z y ≡ true → DependsOn nodes y z) → DependsOn nodes y x
depends_by nodes x y n (inl e) go = at_once x e
depends_by nodes x y n (inr e) go =
    let d = any_to (further_on nodes x y n) (definitions nodes) e in
    let parts = and_parts (depends nodes x d.x.variable) (steps nodes y n d.x) d.passes in
    further x d.x (from_among d.x (definitions nodes) d.among) parts.0 (go d.x.variable parts.1)

steps_sound : (nodes : List Node) (y : Binder) (n : ℕ) (x : Binder) → depends_within n nodes x y ≡ true → DependsOn nodes y x
steps_sound nodes y zero x e = let no : ⊥ = cc in absurd no
steps_sound nodes y (suc n) x e =
    depends_by nodes x y n (or_cases (depends nodes x y) (list_any (further_on nodes x y n) (definitions nodes)) e) (steps_sound nodes y n)

steps_complete : (nodes : List Node) (y : Binder) (n : ℕ) → AllSame (steps nodes y (suc n)) (steps nodes y n) (definitions nodes)
    → (x : Binder) → DependsOn nodes y x → depends_within (suc n) nodes x y ≡ true
steps_complete nodes y n s x (at_once _ e) = or_left (depends nodes x y) (list_any (further_on nodes x y n) (definitions nodes)) e
steps_complete nodes y n s x (further _ d c e on) =
    let a = to_among d (definitions nodes) c in
    let at_d = sym (same_at (steps nodes y (suc n)) (steps nodes y n) d (definitions nodes) s a) ∙ steps_complete nodes y n s d.variable on in
    or_right (depends nodes x y) (list_any (further_on nodes x y n) (definitions nodes))
    (any_from (further_on nodes x y n) d (definitions nodes) a (and_from (depends nodes x d.variable) (steps nodes y n d) e at_d))

pub recursive_exactly : (nodes : List Node) (x : Binder) → (is_recursive nodes x ≡ true) ↔ DependsOn nodes x x
recursive_exactly nodes x = (
  steps_sound nodes x (suc (length (definitions nodes))) x,
  steps_complete nodes x (length (definitions nodes)) (settled (steps nodes x) (definitions nodes) (steps_grow nodes x)) x,
)
