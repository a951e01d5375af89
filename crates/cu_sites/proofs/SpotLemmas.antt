-- How spots are entered, and what is added to the sites of a text.
use Rattle.std.proofs.Common.{◌≡◌, ◌∙◌, ◌<◌, ◌≤◌, ◌+◌, ◌-◌, ℕ, suc, List, [], ◌∷◌, ◌++◌, Some, arith, length, length-append, drop, get_or, set, refl, sym, ap, ap₂, subst, add-one}
use Rattle.std.proofs.Math.ListN.{get_or-append}
use Rattle.std.proofs.Math.Seq.{set-append_seam}
use Rattle.std.proofs.lemmas.List.{append-nil, append_assoc, drop_all, map-append}
use Rattle.std.proofs.lemmas.List.Elements.{All-pop}
use Rattle.std.proofs.lemmas.Option.{get_or_from_slice_get, slice_get-get_or, slice_get_within}
use Rattle.std.specs.Prelude.{slice_get, slice_set}
use Rattle.std.specs.List.{All}
use Rattle.std.specs.declared.alloc.Global.{Global}
use Rattle.std.specs.declared.vec.Vec.{Vec}
use Rattle.cu_lex.specs.Located as located
use Rattle.cu_syntax.specs.declared.declarations.Declaration.{Declaration}
use Rattle.cu_syntax.specs.declared.expressions.Qualifier.{Qualifier}
use Rattle.cu_syntax.specs.Declarations.{declarations_meaning}
use Rattle.cu_syntax.specs.Owners.{DeclarationIsOf}
use Rattle.cu_syntax.specs.Syntax as syntax
use Rattle.cu_translation.specs.declared.local_names.Entry as entries
use Rattle.cu_translation.specs.declared.position.Position.{Position}
use Rattle.cu_translation.specs.LocalNames.{Entry, Scope}
use Rattle.cu_translation.specs.Meaning.{entries_meaning, entry_meaning, position_meaning}
use Rattle.cu_translation.specs.Sites.{Node, Site, Spot, in_block, past, past_all}
use Rattle.cu_sites.specs.declared.sites.Node as nodes
use Rattle.cu_sites.specs.declared.sites.ScopeEntry.{ScopeEntry}
use Rattle.cu_sites.specs.declared.sites.Site as sites
use Rattle.cu_sites.specs.declared.sites.Site.TheVariants as site
use Rattle.cu_sites.specs.declared.sites.Sites.{Sites}
use Rattle.cu_sites.specs.declared.sites.Spot as spots
use Rattle.cu_sites.specs.Meaning.{AreNodes, IsEntry, IsNode, IsScope, IsSite, IsSpot, inside, inside_at}
use Rattle.cu_locals.specs.Text.{Text}
use Rattle.cu_locals.specs.Entries.{AreEntries, block_brings, EntryIsKnown}
use Rattle.cu_sites.specs.Inside.Entering.{Closes, Enters, IsAt, IsBlock, Notes, Opens, Pushes, Writes, Written}
use Rattle.cu_sites.specs.Inside.Walked.{block_of, qualifier_of, qualifiers_of}
use Rattle.cu_locals.proofs.BegunLemmas.{dropped}

-- ---- lists that grow at their ends

kept : {X : Type 0} (xs ys : List X) (i : ℕ) (x : X) → slice_get xs i ≡ Some x → slice_get (xs ++ ys) i ≡ Some x
kept xs ys i x is =
    let within = slice_get_within xs i x is in
    let longer : i < length (xs ++ ys) = subst (λ n. i < n) (sym (length-append xs ys)) (omega (arith, within)) in
    slice_get-get_or (xs ++ ys) i x longer ∙ ap Some (get_or-append xs ys x i within ∙ get_or_from_slice_get xs i x x is)

added_last : {X : Type 0} (xs : List X) (x : X) → slice_get (xs ++ x ∷ []) (length xs) ≡ Some x
added_last [] x = refl
added_last (y ∷ xs) x = added_last xs x

-- ---- more entries and more blocks

abbrev entry_kept : (t : Text) (es more : List ScopeEntry) (number : ℕ) (e : Entry) → IsEntry t es number e → IsEntry t (es ++ more) number e
entry_kept t es more number e is = record {
  place = is.place;
  found = is.found;
  number_is = is.number_is;
  stands = kept es more is.place is.found is.stands;
  means = is.means;
  known = is.known;
  outward = is.outward;
}

scope_kept : (t : Text) (es more : List ScopeEntry) (number : ℕ) (scope : Scope) → IsScope t es number scope → IsScope t (es ++ more) number scope
scope_kept t es more number [] is = is
scope_kept t es more number (e ∷ scope) is = (entry_kept t es more number e is.0, scope_kept t es more is.0.found.around scope is.1)

spot_kept : (t : Text) (es more : List ScopeEntry) (found : spots.Spot) (spot : Spot) → IsSpot t es found spot → IsSpot t (es ++ more) found spot
spot_kept t es more found spot is = record { function = is.function; depth = is.depth; scope = scope_kept t es more found.scope spot.scope is.scope }

site_kept : (t : Text) (bs more : List (Vec Declaration Global)) (found : sites.Site) (s : Site) → IsSite t bs found s → IsSite t (bs ++ more) found s
site_kept t bs more (site.Use x arguments) s is = is
site_kept t bs more (site.Operation e) s is = is
site_kept t bs more (site.Matched ps) s is = is
site_kept t bs more (site.Lambda at ps body) s is = is
site_kept t bs more (site.Generated at p whole number) s is = is
site_kept t bs more (site.Function number g) s is = record { block = is.block; stands = kept bs more number is.block is.stands; owned = is.owned; group = is.group; is = is.is }
site_kept t bs more (site.Defined x right) s is = is
site_kept t bs more (site.Bound p right) s is = is
site_kept t bs more (site.Free xs) s is = is

node_kept : (t : Text) (es es' : List ScopeEntry) (bs bs' : List (Vec Declaration Global)) (found : nodes.Node) (n : Node) (ns : List Node) → IsNode t es bs found n ns → IsNode t (es ++ es') (bs ++ bs') found n ns
node_kept t es es' bs bs' found n ns is = record {
  spot = spot_kept t es es' found.spot n.spot is.spot;
  site = site_kept t bs bs' found.site n.site is.site;
  rest = is.rest;
  followed = is.followed;
  extent = is.extent;
}

nodes_kept : (t : Text) (es es' : List ScopeEntry) (bs bs' : List (Vec Declaration Global)) (found : List nodes.Node) (ns : List Node) → AreNodes t es bs found ns → AreNodes t (es ++ es') (bs ++ bs') found ns
nodes_kept t es es' bs bs' [] [] are = tt
nodes_kept t es es' bs bs' [] (n ∷ ns) are = are
nodes_kept t es es' bs bs' (x ∷ xs) [] are = are
nodes_kept t es es' bs bs' (x ∷ xs) (n ∷ ns) are = (node_kept t es es' bs bs' x n ns are.0, nodes_kept t es es' bs bs' xs ns are.1)

followed_further : (t : Text) (es : List ScopeEntry) (bs : List (Vec Declaration Global)) (found : nodes.Node) (n : Node) (ns more : List Node) → IsNode t es bs found n ns → IsNode t es bs found n (ns ++ more)
followed_further t es bs found n ns more is = record {
  spot = is.spot;
  site = is.site;
  rest = is.rest ++ more;
  followed = ap (λ xs. xs ++ more) is.followed ∙ append_assoc (inside n) is.rest more;
  extent = is.extent;
}

nodes_both : (t : Text) (es : List ScopeEntry) (bs : List (Vec Declaration Global)) (xs ys : List nodes.Node) (ns ms : List Node) → AreNodes t es bs xs ns → AreNodes t es bs ys ms → AreNodes t es bs (xs ++ ys) (ns ++ ms)
nodes_both t es bs [] ys [] ms one two = two
nodes_both t es bs [] ys (n ∷ ns) ms one two = absurd one
nodes_both t es bs (x ∷ xs) ys [] ms one two = absurd one
nodes_both t es bs (x ∷ xs) ys (n ∷ ns) ms one two = (followed_further t es bs x n ns ms one.0, nodes_both t es bs xs ys ns ms one.1 two)

counted_nodes : (t : Text) (es : List ScopeEntry) (bs : List (Vec Declaration Global)) (xs : List nodes.Node) (ns : List Node) → AreNodes t es bs xs ns → length xs ≡ length ns
counted_nodes t es bs [] [] are = refl
counted_nodes t es bs [] (n ∷ ns) are = absurd are
counted_nodes t es bs (x ∷ xs) [] are = absurd are
counted_nodes t es bs (x ∷ xs) (n ∷ ns) are = ap suc (counted_nodes t es bs xs ns are.1)

-- ---- what is added

pub writes_none : (t : Text) (a : Sites) → Writes t a [] a
writes_none t a = record {
  entries = [];
  blocks = [];
  nodes = [];
  entries_are = sym (append-nil a.entries.items);
  blocks_are = sym (append-nil a.blocks.items);
  nodes_are = sym (append-nil a.nodes.items);
  are = tt;
}

pub writes_both : {t : Text} {a b c : Sites} {xs ys : List Node} → Writes t a xs b → Writes t b ys c → Writes t a (xs ++ ys) c
writes_both {t = t} {a = a} {b = b} {c = c} {xs = xs} {ys = ys} one two = record {
  entries = one.entries ++ two.entries;
  blocks = one.blocks ++ two.blocks;
  nodes = one.nodes ++ two.nodes;
  entries_are = two.entries_are ∙ ap (λ zs. zs ++ two.entries) one.entries_are ∙ append_assoc a.entries.items one.entries two.entries;
  blocks_are = two.blocks_are ∙ ap (λ zs. zs ++ two.blocks) one.blocks_are ∙ append_assoc a.blocks.items one.blocks two.blocks;
  nodes_are = two.nodes_are ∙ ap (λ zs. zs ++ two.nodes) one.nodes_are ∙ append_assoc a.nodes.items one.nodes two.nodes;
  are = nodes_both t c.entries.items c.blocks.items one.nodes two.nodes xs ys
      (subst (λ es. AreNodes t es c.blocks.items one.nodes xs) (sym two.entries_are)
      (subst (λ bs. AreNodes t (b.entries.items ++ two.entries) bs one.nodes xs) (sym two.blocks_are)
      (nodes_kept t b.entries.items two.entries b.blocks.items two.blocks one.nodes xs one.are))) two.are;
}

-- where something stands after more was added
pub at_after : {t : Text} {a b : Sites} {xs : List Node} {found : spots.Spot} {spot : Spot} → Writes t a xs b → IsAt t a found spot → IsAt t b found spot
at_after {t = t} {a = a} {found = found} {spot = spot} w at =
    subst (λ es. IsSpot t es found spot) (sym w.entries_are) (spot_kept t a.entries.items w.entries found spot at)

scope_after : {t : Text} {a b : Sites} {xs : List Node} (number : ℕ) (scope : Scope) → Writes t a xs b → IsScope t a.entries.items number scope → IsScope t b.entries.items number scope
scope_after {t = t} {a = a} number scope w is =
    subst (λ es. IsScope t es number scope) (sym w.entries_are) (scope_kept t a.entries.items w.entries number scope is)

pub block_after : {t : Text} {a b : Sites} {xs : List Node} {number : ℕ} {ds : syntax.Declarations} → Writes t a xs b → IsBlock t a number ds → IsBlock t b number ds
block_after {t = t} {a = a} {b = b} {number = number} w is = record {
  block = is.block;
  stands = subst (λ bs. slice_get bs number ≡ Some is.block) (sym w.blocks_are) (kept a.blocks.items w.blocks number is.block is.stands);
  owned = is.owned;
  meaning = is.meaning;
}

-- one node, with nothing inside
pub writes_one : (t : Text) (a b : Sites) (at : spots.Spot) (found : sites.Site) (spot : Spot) (s : Site) → Pushes at found a b → IsAt t a at spot → IsSite t a.blocks.items found s → inside_at spot s ≡ []
    → Writes t a (record { spot = spot; site = s } ∷ []) b
writes_one t a b at found spot s pushed is_at is_site empty = record {
  entries = [];
  blocks = [];
  nodes = record { spot = at; site = found; extent = 0 } ∷ [];
  entries_are = ap (λ es. es.items) pushed.entries ∙ sym (append-nil a.entries.items);
  blocks_are = ap (λ bs. bs.items) pushed.blocks ∙ sym (append-nil a.blocks.items);
  nodes_are = pushed.nodes;
  are = (
    record {
      spot = subst (λ es. IsSpot t es at spot) (sym (ap (λ es. es.items) pushed.entries)) is_at;
      site = subst (λ bs. IsSite t bs found s) (sym (ap (λ bs. bs.items) pushed.blocks)) is_site;
      rest = [];
      followed = sym (append-nil (inside_at spot s) ∙ empty);
      extent = sym (ap length empty);
    },
    tt,
  );
}

-- ---- a definition and what stands in it

last_set : {X : Type 0} (xs : List X) (x y : X) (ys zs : List X) (i : ℕ) → zs ≡ (xs ++ x ∷ []) ++ ys → i ≡ length xs → set zs i y ≡ xs ++ y ∷ ys
last_set xs x y ys zs i is at =
    ap₂ (λ ws k. set ws k y) (is ∙ append_assoc xs (x ∷ []) ys) at ∙ set-append_seam xs x ys y

pub definition_written : (t : Text) (a b c d : Sites) (at : spots.Spot) (found : sites.Site) (spot : Spot) (s : Site) (right : List Node) (number : ℕ) → number ≡ length a.nodes.items
    → Pushes at found a b → IsAt t a at spot → IsSite t a.blocks.items found s → inside_at spot s ≡ right → Writes t b right c → Closes number c d
    → Writes t a (record { spot = spot; site = s } ∷ right) d
definition_written t a b c d at found spot s right number counted pushed is_at is_site has inner closed =
    let first : nodes.Node = record { spot = at; site = found; extent = 0 } in
    let whole : c.nodes.items ≡ (a.nodes.items ++ first ∷ []) ++ inner.nodes = inner.nodes_are ∙ ap (λ xs. xs ++ inner.nodes) pushed.nodes in
    let stands : slice_get c.nodes.items number ≡ Some first =
    ap₂ slice_get whole counted ∙ kept (a.nodes.items ++ first ∷ []) inner.nodes (length a.nodes.items) first (added_last a.nodes.items first) in
    let count : length c.nodes.items - number - 1 ≡ length inner.nodes = extent_is a.nodes.items first inner.nodes c.nodes.items number whole counted in
    let last : nodes.Node = record { spot = at; site = found; extent = length c.nodes.items - number - 1 } in
    record {
      entries = inner.entries;
      blocks = inner.blocks;
      nodes = last ∷ inner.nodes;
      entries_are = ap (λ es. es.items) closed.entries ∙ inner.entries_are ∙ ap (λ es. es.items ++ inner.entries) pushed.entries;
      blocks_are = ap (λ bs. bs.items) closed.blocks ∙ inner.blocks_are ∙ ap (λ bs. bs.items ++ inner.blocks) pushed.blocks;
      nodes_are = closed.nodes first stands ∙ last_set a.nodes.items first last inner.nodes c.nodes.items number whole counted;
      are = (
        record {
          spot = subst (λ es. IsSpot t es at spot) (sym (ap (λ es. es.items) closed.entries ∙ inner.entries_are ∙ ap (λ es. es.items ++ inner.entries) pushed.entries)) (spot_kept t a.entries.items inner.entries at spot is_at);
          site = subst (λ bs. IsSite t bs found s) (sym (ap (λ bs. bs.items) closed.blocks ∙ inner.blocks_are ∙ ap (λ bs. bs.items ++ inner.blocks) pushed.blocks)) (site_kept t a.blocks.items inner.blocks found s is_site);
          rest = [];
          followed = sym (append-nil (inside_at spot s) ∙ has);
          extent = count ∙ counted_nodes t c.entries.items c.blocks.items inner.nodes right inner.are ∙ ap length (sym has);
        },
        subst (λ es. AreNodes t es d.blocks.items inner.nodes right) (sym (ap (λ es. es.items) closed.entries))
            (subst (λ bs. AreNodes t c.entries.items bs inner.nodes right) (sym (ap (λ bs. bs.items) closed.blocks)) inner.are),
      );
    }
  where
    extent_is : (xs : List nodes.Node) (x : nodes.Node) (ys zs : List nodes.Node) (i : ℕ) → zs ≡ (xs ++ x ∷ []) ++ ys → i ≡ length xs → length zs - i - 1 ≡ length ys
    extent_is xs x ys zs i is at =
        let l : length zs ≡ length xs + 1 + length ys = ap length is ∙ length-append (xs ++ x ∷ []) ys ∙ ap (λ n. n + length ys) (length-append xs (x ∷ [])) in
        omega (arith, l, at)

pub closes_at : (definition count : ℕ) (a b : Sites) (x : nodes.Node) → b.entries ≡ a.entries → b.blocks ≡ a.blocks → count ≡ length a.nodes.items → x ≡ get_or a.nodes.items definition x
    → b.nodes.items ≡ slice_set a.nodes.items definition (record { spot = x.spot; site = x.site; extent = count - definition - 1 }) → Closes definition a b
closes_at definition count a b x entries blocks counted is changed = record {
  entries = entries;
  blocks = blocks;
  nodes = λ n gets.
      let same : x ≡ n = is ∙ get_or_from_slice_get a.nodes.items definition n x gets in
      changed ∙ ap₂ (λ (y : nodes.Node) k. slice_set a.nodes.items definition (record { spot = y.spot; site = y.site; extent = k - definition - 1 })) same counted;
}

pub closes_nothing : (definition count : ℕ) (a : Sites) → count ≡ length a.nodes.items → count ≤ definition → Closes definition a a
closes_nothing definition count a counted past = record {
  entries = refl;
  blocks = refl;
  nodes = λ n gets. let within = slice_get_within a.nodes.items definition n gets in absurd (omega (arith, counted, past, within));
}

-- ---- loops

pub written_start : (t : Text) (a : Sites) (whole : List Node) → Written t a whole whole a
written_start t a whole = record { done = []; writes = writes_none t a; joins = refl }

pub written_more : {t : Text} {a b c : Sites} {rest whole here : List Node} (left : List Node) → here ++ left ≡ rest → Written t a rest whole b → Writes t b here c → Written t a left whole c
written_more {here = here} left split before more = record {
  done = before.done ++ here;
  writes = writes_both before.writes more;
  joins = append_assoc before.done here left ∙ ap (λ zs. before.done ++ zs) split ∙ before.joins;
}

pub written_end : {t : Text} {a b : Sites} {rest whole : List Node} → rest ≡ [] → Written t a rest whole b → Writes t a whole b
written_end {t = t} {a = a} {b = b} none before =
    subst (λ xs. Writes t a xs b) (sym (append-nil before.done) ∙ ap (λ zs. before.done ++ zs) (sym none) ∙ before.joins) before.writes

-- ---- scopes

pub opens_add : (t : Text) (a b : Sites) (e : entries.Entry) (around number : ℕ) (scope : Scope) → b.nodes ≡ a.nodes → b.blocks ≡ a.blocks → b.entries.items ≡ a.entries.items ++ record { entry = e; around = around } ∷ []
    → number ≡ length b.entries.items → EntryIsKnown t e → around ≤ length a.entries.items → IsScope t a.entries.items around scope → Opens t a (entry_meaning t.names e ∷ scope) number b
opens_add t a b e around number scope nodes blocks pushed counted known within is =
    let first : ScopeEntry = record { entry = e; around = around } in
    let writes : Writes t a [] b = record {
      entries = first ∷ [];
      blocks = [];
      nodes = [];
      entries_are = pushed;
      blocks_are = ap (λ bs. bs.items) blocks ∙ sym (append-nil a.blocks.items);
      nodes_are = ap (λ ns. ns.items) nodes ∙ sym (append-nil a.nodes.items);
      are = tt;
    } in
    let count : length b.entries.items ≡ suc (length a.entries.items) = ap length pushed ∙ length-append a.entries.items (first ∷ []) ∙ add-one (length a.entries.items) in
    record {
      writes = writes;
      opened = (
        record {
          place = length a.entries.items;
          found = first;
          number_is = counted ∙ count;
          stands = subst (λ es. slice_get es (length a.entries.items) ≡ Some first) (sym pushed) (added_last a.entries.items first);
          means = refl;
          known = known;
          outward = within;
        },
        scope_after around scope writes is,
      );
    }

-- a scope's number counts entries that are there
pub scope_within : (t : Text) (es : List ScopeEntry) (number : ℕ) (scope : Scope) → IsScope t es number scope → number ≤ length es
scope_within t es number [] is = omega (arith, is)
scope_within t es number (e ∷ scope) is =
    let n = is.0.number_is in
    let l = slice_get_within es is.0.place is.0.found is.0.stands in
    omega (arith, n, l)

-- what is reached when the last of some names are entered
pub record Reached (t : Text) (before : Sites) (whole : Scope) (names : List entries.Entry) (number : ℕ) (now : Sites) : Type 0 where
  pub rest : Scope
  pub reached : Scope
  pub are : AreEntries t rest names
  pub opens : Opens t before reached number now
  pub joins : rest ++ reached ≡ whole

pub reached_start : (t : Text) (a : Sites) (names : Scope) (found : List entries.Entry) (around : ℕ) (scope : Scope) → AreEntries t names found → IsScope t a.entries.items around scope → Reached t a (names ++ scope) found around a
reached_start t a names found around scope are is = record {
  rest = names;
  reached = scope;
  are = are;
  opens = record { writes = writes_none t a; opened = is };
  joins = refl;
}

prefixes : (t : Text) (rest : Scope) (xs : List entries.Entry) (x : entries.Entry) → AreEntries t rest (xs ++ x ∷ []) → (prefix : Scope) × AreEntries t prefix xs × (rest ≡ prefix ++ entry_meaning t.names x ∷ []) × EntryIsKnown t x
prefixes t rest xs x are = (
  entries_meaning t.names xs,
  record { meaning = refl; known = (All-pop (EntryIsKnown t) (xs ++ x ∷ []) xs (Some x) refl are.known).0 },
  sym are.meaning ∙ map-append (entry_meaning t.names) xs (x ∷ []),
  (All-pop (EntryIsKnown t) (xs ++ x ∷ []) xs (Some x) refl are.known).1,
)

pub reached_more : (t : Text) (a b c : Sites) (whole : Scope) (names less : List entries.Entry) (e : entries.Entry) (number next : ℕ) → names ≡ less ++ e ∷ [] → Reached t a whole names number b
    → ((scope : Scope) → EntryIsKnown t e → IsScope t b.entries.items number scope → Opens t b (entry_meaning t.names e ∷ scope) next c) → Reached t a whole less next c
reached_more t a b c whole names less e number next popped before opens =
    let split = prefixes t before.rest less e (subst (AreEntries t before.rest) popped before.are) in
    let more = opens before.reached split.3 before.opens.opened in
    record {
      rest = split.0;
      reached = entry_meaning t.names e ∷ before.reached;
      are = split.1;
      opens = record { writes = writes_both before.opens.writes more.writes; opened = more.opened };
      joins = sym (append_assoc split.0 (entry_meaning t.names e ∷ []) before.reached) ∙ ap (λ r. r ++ before.reached) (sym split.2) ∙ before.joins;
    }

pub reached_end : (t : Text) (a b : Sites) (whole : Scope) (names : List entries.Entry) (number : ℕ) → names ≡ [] → Reached t a whole names number b → Opens t a whole number b
reached_end t a b whole names number none before =
    let empty : before.rest ≡ [] = sym before.are.meaning ∙ ap (entries_meaning t.names) none in
    subst (λ s. Opens t a s number b) (ap (λ r. r ++ before.reached) (sym empty) ∙ before.joins) before.opens

-- ---- spots

pub enters_scope : (t : Text) (a b : Sites) (at inner : spots.Spot) (spot : Spot) (names : Scope) (number : ℕ) → IsAt t a at spot → Opens t a (names ++ spot.scope) number b
    → inner ≡ record { function = at.function; depth = at.depth; scope = number } → Enters t a (record { functions = spot.functions; scope = names ++ spot.scope }) inner b
enters_scope t a b at inner spot names number is opens made = record {
  writes = opens.writes;
  at = subst (λ x. IsAt t b x (record { functions = spot.functions; scope = names ++ spot.scope })) (sym made) (record { function = is.function; depth = is.depth; scope = opens.opened });
}

pub enters_function : (t : Text) (a b : Sites) (at inner : spots.Spot) (spot : Spot) (names : Scope) (number depth : ℕ) (p : Position) (place : located.Position) → IsAt t a at spot → Opens t a (names ++ spot.scope) number b
    → position_meaning p ≡ place → depth ≡ at.depth + 1 → inner ≡ record { function = Some p; depth = depth; scope = number }
    → Enters t a (record { functions = place ∷ spot.functions; scope = names ++ spot.scope }) inner b
enters_function t a b at inner spot names number depth p place is opens position deeper made = record {
  writes = opens.writes;
  at = subst (λ x. IsAt t b x (record { functions = place ∷ spot.functions; scope = names ++ spot.scope })) (sym made) (record {
    function = ap Some position;
    depth = deeper ∙ add-one at.depth ∙ ap suc is.depth;
    scope = opens.opened;
  });
}

pub notes_block : (t : Text) (a b : Sites) (block : Vec Declaration Global) (ds : List Declaration) (number : ℕ) → b.nodes ≡ a.nodes → b.entries ≡ a.entries → b.blocks.items ≡ a.blocks.items ++ block ∷ []
    → number ≡ length a.blocks.items → block.items ≡ ds → All (DeclarationIsOf t.owner t.names) ds → Notes t a (block_of t.names ds) number b
unfolding block_of
notes_block t a b block ds number nodes entries pushed counted copied of = record {
  writes = record {
    entries = [];
    blocks = block ∷ [];
    nodes = [];
    entries_are = ap (λ es. es.items) entries ∙ sym (append-nil a.entries.items);
    blocks_are = pushed;
    nodes_are = ap (λ ns. ns.items) nodes ∙ sym (append-nil a.nodes.items);
    are = tt;
  };
  block = record {
    block = block;
    stands = subst (λ bs. slice_get bs number ≡ Some block) (sym pushed) (ap (λ n. slice_get (a.blocks.items ++ block ∷ []) n) counted ∙ added_last a.blocks.items block);
    owned = subst (All (DeclarationIsOf t.owner t.names)) (sym copied) of;
    meaning = ap (declarations_meaning t.names) copied;
  };
}

-- ---- qualifiers

qualifiers_cons : (names : List (List ℕ)) (spot : Spot) (q : Qualifier) (qs : List Qualifier) → past_all (qualifiers_of names qs) (past (qualifier_of names q) spot) ≡ past_all (qualifiers_of names (q ∷ qs)) spot
unfolding qualifier_of qualifiers_of
qualifiers_cons names spot q qs = refl

qualifiers_nil : (names : List (List ℕ)) (spot : Spot) → past_all (qualifiers_of names []) spot ≡ spot
unfolding qualifiers_of
qualifiers_nil names spot = refl

-- what is reached after the first qualifiers
pub record Past (t : Text) (before : Sites) (whole : Spot) (qs : List Qualifier) (i : ℕ) (found : spots.Spot) (now : Sites) : Type 0 where
  pub reached : Spot
  pub enters : Enters t before reached found now
  pub joins : past_all (qualifiers_of t.names (drop i qs)) reached ≡ whole

pub past_start : (t : Text) (a : Sites) (at : spots.Spot) (spot : Spot) (qs : List Qualifier) → IsAt t a at spot → Past t a (past_all (qualifiers_of t.names qs) spot) qs 0 at a
past_start t a at spot qs is = record { reached = spot; enters = record { writes = writes_none t a; at = is }; joins = refl }

pub past_more : (t : Text) (a b c : Sites) (whole : Spot) (qs : List Qualifier) (i : ℕ) (q : Qualifier) (at next : spots.Spot) → q ≡ get_or qs i q → i < length qs → Past t a whole qs i at b
    → ((spot : Spot) → IsAt t b at spot → Enters t b (past (qualifier_of t.names q) spot) next c) → Past t a whole qs (i + 1) next c
past_more t a b c whole qs i q at next is within before enters =
    let more = enters before.reached before.enters.at in
    record {
      reached = past (qualifier_of t.names q) before.reached;
      enters = record { writes = writes_both before.enters.writes more.writes; at = more.at };
      joins = qualifiers_cons t.names before.reached q (drop (i + 1) qs) ∙ ap (λ xs. past_all (qualifiers_of t.names xs) before.reached) (sym (dropped qs i q is within)) ∙ before.joins;
    }

pub past_end : (t : Text) (a b : Sites) (whole : Spot) (qs : List Qualifier) (i : ℕ) (at : spots.Spot) → length qs ≤ i → Past t a whole qs i at b → Enters t a whole at b
past_end t a b whole qs i at past before =
    subst (λ spot. Enters t a spot at b)
    (sym (qualifiers_nil t.names before.reached) ∙ ap (λ xs. past_all (qualifiers_of t.names xs) before.reached) (sym (drop_all i qs past)) ∙ before.joins) before.enters

-- what a block brings, in both its forms
pub block_entered : (t : Text) (b a : Sites) (spot : Spot) (ds : List Declaration) (inner : spots.Spot) → Enters t a (record { functions = spot.functions; scope = block_brings t.names ds ++ spot.scope }) inner b
    → Enters t a (in_block (block_of t.names ds) spot) inner b
unfolding block_brings block_of
block_entered t b a spot ds inner enters = enters
