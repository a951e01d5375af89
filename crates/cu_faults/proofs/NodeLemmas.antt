-- What stands in a text, and what is told of it.
use Rattle.std.proofs.Common.{◌≡◌, ◌∙◌, ◌<◌, ◌≤◌, ◌+◌, ℕ, List, [], ◌∷◌, ◌++◌, length, drop, get_or, map, refl, sym, ap, ap₂, subst, add-one}
use Rattle.std.proofs.Math.Seq.{drop-cons}
use Rattle.std.proofs.lemmas.List.{drop_all}
use Rattle.std.specs.List.{All, flat_map}
use Rattle.std.specs.declared.alloc.Global.{Global}
use Rattle.std.specs.declared.vec.Vec.{Vec}
use Rattle.cu_forms.specs.Scopes as scopes
use Rattle.cu_forms.specs.Scopes.{Sees, entries_in}
use Rattle.cu_forms.specs.declared.scope.Scope as code
use Rattle.cu_locals.specs.Entries.{AreEntries}
use Rattle.cu_locals.specs.Text.{Text}
use Rattle.cu_names.specs.declared.names.NameId.{NameId}
use Rattle.cu_sites.specs.Meaning.{AreNodes, IsNode}
use Rattle.cu_sites.specs.declared.sites.Node as nodes
use Rattle.cu_sites.specs.declared.sites.ScopeEntry.{ScopeEntry}
use Rattle.cu_syntax.specs.declared.declarations.Declaration.{Declaration}
use Rattle.cu_translation.specs.declared.local_names.Entry.{Entry}
use Rattle.cu_translation.specs.Around.{Around}
use Rattle.cu_translation.specs.FaultOrder.{Fault}
use Rattle.cu_translation.specs.Faults.{clashes_at, clashes_of, faults_at, faults_of, length_faults, rule_faults}
use Rattle.cu_translation.specs.Rules.{Group}
use Rattle.cu_translation.specs.LocalNames.{Scope}
use Rattle.cu_translation.specs.Meaning.{Setting, entries_meaning}
use Rattle.cu_translation.specs.Sites.{Bound, Function, Matched, Node, Operation, Site, Use}
use Rattle.cu_syntax.specs.declared.expressions.Expression.{Expression}
use Rattle.cu_syntax.specs.declared.name.Name as names
use Rattle.cu_syntax.specs.declared.patterns.Pattern.{Pattern}
use Rattle.cu_syntax.specs.ExpressionMeaning.{expression_meaning}
use Rattle.cu_syntax.specs.Names.{name_meaning}
use Rattle.cu_syntax.specs.Patterns.{pattern_meaning, patterns_meaning}
use Rattle.cu_syntax.specs.Syntax as syntax
use Rattle.cu_faults.specs.declared.patterns.Sought.TheVariants.{Clashes, Counts}
use Rattle.cu_faults.specs.Inside.Patterns.{faults_told, pattern_told, patterns_told, variables_told}
use Rattle.cu_faults.specs.Inside.Uses.{operation_clash, operation_told, use_told}
use Rattle.cu_faults.specs.declared.first.First.{First}
use Rattle.cu_faults.specs.Telling.{Told, setting}
use Rattle.cu_faults.proofs.ToldLemmas.{told_as, told_both, told_none}

-- ---- scopes

pub scope_seen : (t : Text) (a : Around) (local : Scope) (found slice : List Entry) (s : code.Scope) → AreEntries t local found → slice ≡ found → entries_in s ≡ slice
    → Sees (setting t a) local s
scope_seen t a local found slice s are sliced seen =
    let e : entries_in s ≡ found = seen ∙ sliced in
    record {
      differ = t.differ;
      known = subst (All (scopes.EntryIsKnown t.names)) (sym e) are.known;
      entries = ap (entries_meaning t.names) e ∙ are.meaning;
    }

-- ---- sites

clash_told : (a : Around) (n : Node) (s : Site) (owner : NameId) (x y : First) → n.site ≡ s → Told owner x (clashes_at a.names n.spot.scope s) y → Told owner x (clashes_of a.names n) y
clash_told a n s owner x y is told = told_as (sym (ap (clashes_at a.names n.spot.scope) is)) told

fault_told : (a : Around) (n : Node) (s : Site) (owner : NameId) (x y : First) → n.site ≡ s → Told owner x (faults_at a n.spot.scope s) y → Told owner x (faults_of a n) y
fault_told a n s owner x y is told = told_as (sym (ap (faults_at a n.spot.scope) is)) told

pub no_clash : (a : Around) (n : Node) (s : Site) (owner : NameId) (x : First) → n.site ≡ s → clashes_at a.names n.spot.scope s ≡ [] → Told owner x (clashes_of a.names n) x
no_clash a n s owner x is none = clash_told a n s owner x x is (told_as (sym none) (told_none owner x))

pub no_fault : (a : Around) (n : Node) (s : Site) (owner : NameId) (x : First) → n.site ≡ s → faults_at a n.spot.scope s ≡ [] → Told owner x (faults_of a n) x
no_fault a n s owner x is none = fault_told a n s owner x x is (told_as (sym none) (told_none owner x))

pub clash_in_operation : (t : Text) (a : Around) (n : Node) (e : Expression) (x y : First) → n.site ≡ Operation (expression_meaning t.names e)
    → Told t.owner x (operation_clash (setting t a) n.spot.scope e) y → Told t.owner x (clashes_of a.names n) y
unfolding operation_clash
clash_in_operation t a n e x y is told = clash_told a n (Operation (expression_meaning t.names e)) t.owner x y is told

pub clash_in_patterns : (t : Text) (a : Around) (n : Node) (ps : List Pattern) (x y : First) → n.site ≡ Matched (patterns_meaning t.names ps)
    → Told t.owner x (patterns_told Clashes (setting t a) ps) y → Told t.owner x (clashes_of a.names n) y
unfolding patterns_told
clash_in_patterns t a n ps x y is told = clash_told a n (Matched (patterns_meaning t.names ps)) t.owner x y is told

pub clash_in_pattern : (t : Text) (a : Around) (n : Node) (p : Pattern) (right : syntax.RightSide) (x y : First) → n.site ≡ Bound (pattern_meaning t.names p) right
    → Told t.owner x (pattern_told Clashes (setting t a) p) y → Told t.owner x (clashes_of a.names n) y
unfolding pattern_told
clash_in_pattern t a n p right x y is told = clash_told a n (Bound (pattern_meaning t.names p) right) t.owner x y is told

pub fault_in_use : (t : Text) (a : Around) (n : Node) (name : names.Name) (es : List Expression) (x y : First) → n.site ≡ Use (name_meaning t.names name) (map (expression_meaning t.names) es)
    → Told t.owner x (use_told (setting t a) n.spot.scope name es) y → Told t.owner x (faults_of a n) y
unfolding use_told
fault_in_use t a n name es x y is told = fault_told a n (Use (name_meaning t.names name) (map (expression_meaning t.names) es)) t.owner x y is told

pub fault_in_operation : (t : Text) (a : Around) (n : Node) (e : Expression) (x y : First) → n.site ≡ Operation (expression_meaning t.names e)
    → Told t.owner x (operation_told (setting t a) n.spot.scope e) y → Told t.owner x (faults_of a n) y
unfolding operation_told
fault_in_operation t a n e x y is told = fault_told a n (Operation (expression_meaning t.names e)) t.owner x y is told

pub fault_in_patterns : (t : Text) (a : Around) (n : Node) (ps : List Pattern) (x y : First) → n.site ≡ Matched (patterns_meaning t.names ps)
    → Told t.owner x (faults_told (setting t a) ps) y → Told t.owner x (faults_of a n) y
unfolding faults_told
fault_in_patterns t a n ps x y is told = fault_told a n (Matched (patterns_meaning t.names ps)) t.owner x y is told

pub fault_in_pattern : (t : Text) (a : Around) (n : Node) (p : Pattern) (right : syntax.RightSide) (x y : First) → n.site ≡ Bound (pattern_meaning t.names p) right
    → Told t.owner x (faults_told (setting t a) (p ∷ [])) y → Told t.owner x (faults_of a n) y
unfolding faults_told
fault_in_pattern t a n p right x y is told = fault_told a n (Bound (pattern_meaning t.names p) right) t.owner x y is told

pub fault_in_function : (a : Around) (n : Node) (block : syntax.Declarations) (g : Group) (owner : NameId) (x y z : First) → n.site ≡ Function block g
    → Told owner x (rule_faults g) y → Told owner y (length_faults g) z → Told owner x (faults_of a n) z
fault_in_function a n block g owner x y z is one two = fault_told a n (Function block g) owner x z is (told_both one two)

-- ---- a walk over nodes

-- the node that the code has come to, and those after it
pub record Opened (t : Text) (es : List ScopeEntry) (bs : List (Vec Declaration Global)) (found : nodes.Node) (others : List nodes.Node) (left : List Node) : Type 0 where
  pub node : Node
  pub after : List Node
  pub left_is : left ≡ node ∷ after
  pub is : IsNode t es bs found node after
  pub are : AreNodes t es bs others after

opened_by : (t : Text) (es : List ScopeEntry) (bs : List (Vec Declaration Global)) (found : nodes.Node) (others : List nodes.Node) (left : List Node)
    → AreNodes t es bs (found ∷ others) left → Opened t es bs found others left
opened_by t es bs found others [] are = absurd are
opened_by t es bs found others (n ∷ ns) are = record { node = n; after = ns; left_is = refl; is = are.0; are = are.1 }

pub opened : (t : Text) (es : List ScopeEntry) (bs : List (Vec Declaration Global)) (xs : List nodes.Node) (i : ℕ) (x : nodes.Node) (left : List Node) → x ≡ get_or xs i x → i < length xs
    → AreNodes t es bs (drop i xs) left → Opened t es bs x (drop (i + 1) xs) left
opened t es bs xs i x left is within are =
    opened_by t es bs x (drop (i + 1) xs) left
    (subst (λ ys. AreNodes t es bs ys left) (drop-cons xs i x within ∙ ap₂ (λ y n. y ∷ drop n xs) (sym is) (sym (add-one i))) are)

no_nodes : (t : Text) (es : List ScopeEntry) (bs : List (Vec Declaration Global)) (left : List Node) → AreNodes t es bs [] left → left ≡ []
no_nodes t es bs [] are = refl
no_nodes t es bs (n ∷ ns) are = absurd are

pub closed : (t : Text) (es : List ScopeEntry) (bs : List (Vec Declaration Global)) (xs : List nodes.Node) (i : ℕ) (left : List Node) → length xs ≤ i
    → AreNodes t es bs (drop i xs) left → left ≡ []
closed t es bs xs i left past are = no_nodes t es bs left (subst (λ ys. AreNodes t es bs ys left) (drop_all i xs past) are)

pub node_prefix : (owner : NameId) (f : Node → List Fault) (left : List Node) (n : Node) (after : List Node) (a b c : First) → left ≡ n ∷ after
    → Told owner a (f n) b → Told owner b (flat_map f after) c → Told owner a (flat_map f left) c
node_prefix owner f left n after a b c is one rest = told_as (sym (ap (flat_map f) is)) (told_both one rest)

pub node_end : (owner : NameId) (f : Node → List Fault) (left : List Node) (a : First) → left ≡ [] → Told owner a (flat_map f left) a
node_end owner f left a is = told_as (sym (ap (flat_map f) is)) (told_none owner a)

-- ---- patterns whose variables are declared together

pub patterns_faults : (w : Setting) (ps : List Pattern) → patterns_told Counts w ps ++ variables_told w.names ps ≡ faults_told w ps
unfolding patterns_told variables_told faults_told
patterns_faults w ps = refl
