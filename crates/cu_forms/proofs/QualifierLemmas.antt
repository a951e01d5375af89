-- What stands around the rest of a comprehension, and scopes inside blocks.
use Rattle.std.proofs.Common.{◌≡◌, ◌∙◌, ◌<◌, ◌≤◌, ◌+◌, ℕ, List, [], ◌∷◌, ◌++◌, length, drop, get_or, refl, sym, ap, ap₂, subst, append_assoc, arith, max, ◌*◌}
use Rattle.std.proofs.lemmas.List.{drop_all, map-append}
use Rattle.std.proofs.lemmas.List.Elements.{All-append, All-nil}
use denote.Param.Weighed.{most}
use Rattle.std.specs.List.{All}
use Rattle.std.specs.declared.alloc.Global.{Global}
use Rattle.std.specs.declared.vec.Vec.{Vec}
use Rattle.cu_kernel.specs.LocalTerm as kernel
use Rattle.cu_kernel.specs.LocalTermsOf.{local_term_of}
use Rattle.cu_kernel.specs.declared.local.LocalTerm.{LocalTerm}
use Rattle.cu_lex.specs.Reading.{position_of}
use Rattle.cu_locals.proofs.BegunLemmas.{dropped}
use Rattle.cu_locals.specs.Entries.{block_brings}
use Rattle.cu_names.specs.Texts.{AllDiffer}
use Rattle.cu_names.specs.declared.place.Place.{Place}
use Rattle.cu_syntax.specs.Smaller.{declaration_size, expression_size, pattern_size, qualifier_size}
use Rattle.cu_syntax.specs.declared.declarations.Declaration.{Declaration}
use Rattle.cu_syntax.specs.declared.expressions.Expression.{Expression}
use Rattle.cu_syntax.specs.declared.expressions.Qualifier.{Qualifier}
use Rattle.cu_syntax.specs.declared.expressions.Qualifier.TheVariants as qualifier
use Rattle.cu_syntax.specs.declared.patterns.Pattern.{Pattern}
use Rattle.cu_translation.specs.LocalNames as definitions
use Rattle.cu_translation.specs.Meaning.{Setting, entries_meaning, entry_meaning}
use Rattle.cu_translation.specs.declared.local_names.Entry.{Entry}
use Rattle.cu_forms.specs.declared.expressions.LocalBlock.{LocalBlock}
use Rattle.cu_forms.specs.declared.layers.Layer.{Layer}
use Rattle.cu_forms.specs.declared.layers.Layer.TheVariants as layer
use Rattle.cu_forms.specs.declared.scope.Scope.{Scope}
use Rattle.cu_forms.specs.Scopes.{EntryIsKnown, Sees, entries_in}
use Rattle.cu_forms.specs.Forms.{block_form, block_term, comprehension_form, expression_form, free_form, inside, lets_form}
use Rattle.cu_forms.specs.Inside.Blocks.{layers_around}
use Rattle.cu_forms.specs.Inside.Calls.{built_in_term}
use Rattle.cu_forms.specs.Inside.Expressions.{Opens, generated_term}
use Rattle.cu_forms.specs.Inside.Lists.{distinction, list_term}
use Rattle.cu_forms.proofs.BlockLemmas.{last_layer}
use Rattle.cu_forms.proofs.ScopeLemmas.{sees_inside}

-- ---- scopes

-- one more level of names, which a slice has
pub sees_more : (w : Setting) (local more : definitions.Scope) (around inner : Scope) (slice entries : List Entry) → Sees w local around → slice ≡ entries → All (EntryIsKnown w.names) entries
    → entries_meaning w.names entries ≡ more → entries_in inner ≡ slice ++ entries_in around → Sees w (more ++ local) inner
sees_more w local more around inner slice entries sees sliced known meant is =
    sees_inside w local more around inner entries sees known meant (is ∙ ap (λ xs. xs ++ entries_in around) sliced)

-- the names of a slice alone
pub sees_outermost : (w : Setting) (more : definitions.Scope) (s : Scope) (slice entries : List Entry) → AllDiffer w.names → slice ≡ entries → All (EntryIsKnown w.names) entries
    → entries_meaning w.names entries ≡ more → entries_in s ≡ slice → Sees w more s
sees_outermost w more s slice entries differ sliced known meant is = record {
  differ = differ;
  known = subst (All (EntryIsKnown w.names)) (sym (is ∙ sliced)) known;
  entries = ap (entries_meaning w.names) (is ∙ sliced) ∙ meant;
}

-- ---- qualifiers

unfolded_condition : (w : Setting) (local : definitions.Scope) (e c : Expression) (at : Place) (qs : List Qualifier)
    → comprehension_form w local e (qualifier.Condition at c ∷ qs) ≡ distinction w.around.names (expression_form w local c) (comprehension_form w local e qs) (list_term w.around.names [])
unfolding comprehension_form expression_form distinction list_term
unfolded_condition w local e c at qs = refl

unfolded_block : (w : Setting) (local : definitions.Scope) (e : Expression) (at : Place) (ds : Vec Declaration Global) (qs : List Qualifier)
    → comprehension_form w local e (qualifier.Declarations at ds ∷ qs) ≡ block_form w local ds.items (comprehension_form w (inside w local ds.items) e qs)
unfolding comprehension_form block_term free_form lets_form block_brings
unfolded_block w local e at ds qs = refl

unfolded_generator : (w : Setting) (local : definitions.Scope) (e list : Expression) (at : Place) (p : Pattern) (qs : List Qualifier)
    → comprehension_form w local e (qualifier.Generator at p list ∷ qs) ≡ generated_term w.around (position_of at) (expression_form w local list)
unfolding comprehension_form expression_form built_in_term
unfolded_generator w local e list at p qs = refl

unfolded_element : (w : Setting) (local : definitions.Scope) (e : Expression) → comprehension_form w local e [] ≡ list_term w.around.names (expression_form w local e ∷ [])
unfolding comprehension_form list_term
unfolded_element w local e = refl

-- ---- layers

-- what is in scope after some qualifiers
abbrev pub reached : Setting → definitions.Scope → List Entry → definitions.Scope
reached w local entries = entries_meaning w.names entries ++ local

-- Qualifiers that stand around the others of a comprehension, in the scope after them.
pub record Wraps (w : Setting) (local : definitions.Scope) (e : Expression) (entries : List Entry) (layers : List Layer) (left all : List Qualifier) : Type 0 where
  pub known : All (EntryIsKnown w.names) entries
  pub wraps : layers_around w layers (comprehension_form w (reached w local entries) e left) ≡ comprehension_form w local e all

pub wraps_none : (w : Setting) (local : definitions.Scope) (e : Expression) (entries : List Entry) (layers : List Layer) (qs : List Qualifier) → entries ≡ [] → layers ≡ [] → Wraps w local e entries layers qs qs
wraps_none w local e entries layers qs none no_layer = record {
  known = subst (All (EntryIsKnown w.names)) (sym none) (All-nil (EntryIsKnown w.names));
  wraps = ap₂ (λ ls es. layers_around w ls (comprehension_form w (reached w local es) e qs)) no_layer none;
}

here : (w : Setting) (local : definitions.Scope) (e : Expression) (qs : List Qualifier) (i : ℕ) (q m : Qualifier) → q ≡ get_or qs i q → i < length qs → q ≡ m
    → comprehension_form w local e (drop i qs) ≡ comprehension_form w local e (m ∷ drop (i + 1) qs)
here w local e qs i q m is within which = ap (comprehension_form w local e) (dropped qs i q is within ∙ ap (λ x. x ∷ drop (i + 1) qs) which)

pub wraps_condition : (w : Setting) (local : definitions.Scope) (e c : Expression) (entries : List Entry) (layers after : List Layer) (qs : List Qualifier) (i : ℕ) (q : Qualifier) (at : Place) (t : LocalTerm)
    → q ≡ get_or qs i q → i < length qs → q ≡ qualifier.Condition at c → local_term_of t ≡ expression_form w (reached w local entries) c → after ≡ layers ++ layer.Condition t ∷ []
    → Wraps w local e entries layers (drop i qs) qs → Wraps w local e entries after (drop (i + 1) qs) qs
wraps_condition w local e c entries layers after qs i q at t is within which same pushed before =
    let scope = reached w local entries in
    let left = drop (i + 1) qs in
    record {
      known = before.known;
      wraps = ap (λ ls. layers_around w ls (comprehension_form w scope e left)) pushed ∙ last_layer w layers (layer.Condition t) (comprehension_form w scope e left)
          ∙ ap (layers_around w layers)
          (ap (λ u. distinction w.around.names u (comprehension_form w scope e left) (list_term w.around.names [])) same ∙ sym (unfolded_condition w scope e c at left)
          ∙ sym (here w scope e qs i q (qualifier.Condition at c) is within which))
          ∙ before.wraps;
    }

pub wraps_block : (w : Setting) (local : definitions.Scope) (e : Expression) (entries more : List Entry) (layers after : List Layer) (qs : List Qualifier) (i : ℕ) (q : Qualifier) (at : Place) (ds : Vec Declaration Global)
    (b : LocalBlock) → q ≡ get_or qs i q → i < length qs → q ≡ qualifier.Declarations at ds → Opens w (reached w local entries) ds.items b
    → after ≡ layers ++ layer.Block b.free b.bounds ∷ [] → more ≡ b.entries.items ++ entries
    → Wraps w local e entries layers (drop i qs) qs → Wraps w local e more after (drop (i + 1) qs) qs
wraps_block w local e entries more layers after qs i q at ds b is within which opened pushed joined before =
    let scope = reached w local entries in
    let left = drop (i + 1) qs in
    let further : reached w local more ≡ inside w scope ds.items =
    ap (λ es. reached w local es) joined ∙ ap (λ xs. xs ++ local) (map-append (entry_meaning w.names) b.entries.items entries)
    ∙ append_assoc (entries_meaning w.names b.entries.items) (entries_meaning w.names entries) local ∙ ap (λ xs. xs ++ scope) opened.entries in
    record {
      known = subst (All (EntryIsKnown w.names)) (sym joined) (All-append (EntryIsKnown w.names) b.entries.items entries opened.known before.known);
      wraps = ap₂ (λ ls s. layers_around w ls (comprehension_form w s e left)) pushed further ∙ last_layer w layers (layer.Block b.free b.bounds) (comprehension_form w (inside w scope ds.items) e left)
          ∙ ap (layers_around w layers)
          (ap₂ (λ xs bs. block_term w xs bs (comprehension_form w (inside w scope ds.items) e left)) opened.free opened.bounds ∙ sym (unfolded_block w scope e at ds left)
          ∙ sym (here w scope e qs i q (qualifier.Declarations at ds) is within which))
          ∙ before.wraps;
    }

pub wraps_generator : (w : Setting) (local : definitions.Scope) (e list : Expression) (entries : List Entry) (layers : List Layer) (qs : List Qualifier) (i : ℕ) (q : Qualifier) (at : Place) (p : Pattern)
    (t : kernel.LocalTerm) → q ≡ get_or qs i q → i < length qs → q ≡ qualifier.Generator at p list → t ≡ generated_term w.around (position_of at) (expression_form w (reached w local entries) list)
    → Wraps w local e entries layers (drop i qs) qs → layers_around w layers t ≡ comprehension_form w local e qs
wraps_generator w local e list entries layers qs i q at p t is within which same before =
    let scope = reached w local entries in
    ap (layers_around w layers)
    (same ∙ sym (unfolded_generator w scope e list at p (drop (i + 1) qs)) ∙ sym (here w scope e qs i q (qualifier.Generator at p list) is within which))
    ∙ before.wraps

pub wraps_element : (w : Setting) (local : definitions.Scope) (e : Expression) (entries : List Entry) (layers : List Layer) (qs : List Qualifier) (i : ℕ) (t : kernel.LocalTerm) → length qs ≤ i
    → t ≡ list_term w.around.names (expression_form w (reached w local entries) e ∷ []) → Wraps w local e entries layers (drop i qs) qs → layers_around w layers t ≡ comprehension_form w local e qs
wraps_element w local e entries layers qs i t past same before =
    let scope = reached w local entries in
    ap (layers_around w layers) (same ∙ sym (unfolded_element w scope e) ∙ ap (comprehension_form w scope e) (sym (drop_all i qs past))) ∙ before.wraps

-- ---- sizes

pub generator_below : (e m : ℕ) (q : Qualifier) (at : Place) (p : Pattern) (list : Expression) → q ≡ qualifier.Generator at p list → qualifier_size q ≤ m → 4 * expression_size list + 1 < 4 * max e m + 1
generator_below e m q at p list is within =
    let size : 1 + pattern_size p + expression_size list ≤ m = subst (λ x. qualifier_size x ≤ m) is within in omega (arith, size)

pub condition_below : (e m : ℕ) (q : Qualifier) (at : Place) (c : Expression) → q ≡ qualifier.Condition at c → qualifier_size q ≤ m → 4 * expression_size c < 4 * max e m + 1
condition_below e m q at c is within =
    let size : 1 + expression_size c ≤ m = subst (λ x. qualifier_size x ≤ m) is within in omega (arith, size)

pub block_below : (e m : ℕ) (q : Qualifier) (at : Place) (ds : Vec Declaration Global) (slice : List Declaration) → slice ≡ ds.items → q ≡ qualifier.Declarations at ds → qualifier_size q ≤ m
    → 4 * most declaration_size slice + 2 < 4 * max e m + 1
block_below e m q at ds slice sliced is within =
    let whole : 1 + most declaration_size ds.items ≤ m = subst (λ x. qualifier_size x ≤ m) is within in
    let size : 1 + most declaration_size slice ≤ m = subst (λ xs. 1 + most declaration_size xs ≤ m) (sym sliced) whole in
    omega (arith, size)
