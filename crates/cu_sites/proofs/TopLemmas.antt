-- All that stands in a function, and what is read of it.
use Rattle.std.proofs.Common.{◌≡◌, ◌∙◌, ◌<◌, ◌≤◌, ◌+◌, ◌-◌, ℕ, List, [], ◌∷◌, ◌++◌, None, Some, Result, OnOk, arith, length, drop, get_or, map, min, refl, sym, ap, ap₂, subst}
use Rattle.std.proofs.lemmas.List.{append-nil, append_assoc, drop_all, map-append}
use Rattle.std.proofs.lemmas.List.Elements.{All-get_or, All-nil, All-push}
use Rattle.std.proofs.lemmas.Option.{same_Some}
use Rattle.std.specs.Prelude.{slice_get}
use Rattle.std.specs.List.{All}
use Rattle.std.specs.declared.alloc.Global.{Global}
use Rattle.std.specs.declared.vec.Vec.{Vec}
use Rattle.cu_syntax.specs.declared.expressions.Expression.{Expression}
use Rattle.cu_syntax.specs.declared.name.Name as code
use Rattle.cu_syntax.specs.declared.patterns.Pattern.{Pattern}
use Rattle.cu_syntax.specs.declared.text.GoalText.{GoalText}
use Rattle.cu_syntax.specs.Answer.{goal_meaning}
use Rattle.cu_syntax.specs.ExpressionMeaning.{expression_meaning}
use Rattle.cu_syntax.specs.Owners.{PatternIsOf}
use Rattle.cu_syntax.specs.Syntax as syntax
use Rattle.cu_translation.specs.Functions.{goal_nodes, group_nodes}
use Rattle.cu_translation.specs.LocalNames.{Scope, variable_entries}
use Rattle.cu_translation.specs.Meaning.{entries_meaning, entry_meaning}
use Rattle.cu_translation.specs.declared.local_names.Entry as entries
use Rattle.cu_translation.specs.Sites.{Node, Spot, nodes_on, rule_nodes, rules_nodes, with}
use Rattle.cu_uses.specs.Gathered.{names_meaning, patterns_bind}
use Rattle.cu_uses.proofs.FoundLemmas.{on_ok}
use Rattle.cu_sites.specs.declared.rules.Group as groups
use Rattle.cu_sites.specs.declared.rules.Rule as rules
use Rattle.cu_sites.specs.declared.sites.ScopeEntry.{ScopeEntry}
use Rattle.cu_sites.specs.declared.sites.Site.TheVariants as site
use Rattle.cu_sites.specs.declared.sites.Sites.{Sites}
use Rattle.cu_sites.specs.declared.sites.Spot as spots
use Rattle.cu_sites.specs.Meaning.{AreNodes, GroupIsOf, IsScope, RuleIsOf, Stands, group_meaning, rule_meaning}
use Rattle.cu_locals.specs.Text.{Text}
use Rattle.cu_locals.specs.Entries.{AreEntries, EntryIsKnown}
use Rattle.cu_sites.specs.Inside.Entering.{Enters, IsAt, IsEmpty, Pushes, Writes}
use Rattle.cu_sites.specs.Inside.Walked.{expression_has, patterns_of, right_has}
use Rattle.cu_locals.proofs.BegunLemmas.{dropped}
use Rattle.cu_sites.proofs.SpotLemmas.{writes_both}
use Rattle.cu_sites.proofs.WalkLemmas.{matched_written}
use Rattle.cu_sites.proofs.PartLemmas.{at_pushed}

-- ---- groups

-- what was written of the rules of a function
pub record Ruled (t : Text) (g : groups.Group) (i : ℕ) (s : Sites) : Type 0 where
  pub none : Sites
  pub is_none : IsEmpty none
  pub done : List Node
  pub writes : Writes t none done s
  pub joins : done ++ rules_nodes (map (rule_meaning t.names) (drop i g.others.items)) ≡ group_nodes (group_meaning t.names g)

pub ruled_start : (t : Text) (g : groups.Group) (a b : Sites) → IsEmpty a → Writes t a (rule_nodes (rule_meaning t.names g.first)) b → Ruled t g 0 b
ruled_start t g a b none writes = record { none = a; is_none = none; done = rule_nodes (rule_meaning t.names g.first); writes = writes; joins = refl }

pub ruled_more : (t : Text) (g : groups.Group) (i : ℕ) (r : rules.Rule) (a b : Sites) → r ≡ get_or g.others.items i r → i < length g.others.items → GroupIsOf t.owner t.names g → Ruled t g i a
    → (RuleIsOf t.owner t.names r → Writes t a (rule_nodes (rule_meaning t.names r)) b) → Ruled t g (i + 1) b
ruled_more t g i r a b is within of before writes =
    let here = writes (subst (RuleIsOf t.owner t.names) (sym is) (All-get_or (RuleIsOf t.owner t.names) g.others.items i r within of.others)) in
    record {
      none = before.none;
      is_none = before.is_none;
      done = before.done ++ rule_nodes (rule_meaning t.names r);
      writes = writes_both before.writes here;
      joins = append_assoc before.done (rule_nodes (rule_meaning t.names r)) (rules_nodes (map (rule_meaning t.names) (drop (i + 1) g.others.items)))
          ∙ ap (λ xs. before.done ++ rules_nodes (map (rule_meaning t.names) xs)) (sym (dropped g.others.items i r is within)) ∙ before.joins;
    }

-- what was written where nothing stood
pub stands_all : (t : Text) (a b : Sites) (ns : List Node) → IsEmpty a → Writes t a ns b → Stands t ns b
stands_all t a b ns none writes = record {
  are = subst (λ xs. AreNodes t b.entries.items b.blocks.items xs ns) (sym (writes.nodes_are ∙ ap (λ xs. xs ++ writes.nodes) none.nodes)) writes.are;
}

pub ruled_end : (t : Text) (g : groups.Group) (i : ℕ) (s : Sites) → length g.others.items ≤ i → Ruled t g i s → Stands t (group_nodes (group_meaning t.names g)) s
ruled_end t g i s past before =
    stands_all t before.none s (group_nodes (group_meaning t.names g)) before.is_none
    (subst (λ ns. Writes t before.none ns s)
    (sym (append-nil before.done) ∙ ap (λ xs. before.done ++ rules_nodes (map (rule_meaning t.names) xs)) (sym (drop_all i g.others.items past)) ∙ before.joins) before.writes)

-- ---- spots of the top level

abbrev pub top : Spot
top = record { functions = []; scope = [] }

pub at_top : (t : Text) (a : Sites) (at : spots.Spot) → at ≡ record { function = None; depth = 0; scope = 0 } → IsAt t a at top
at_top t a at is = subst (λ x. IsAt t a x top) (sym is) (record { function = refl; depth = refl; scope = refl })

pub top_written : {A E : Type 0} (r : Result A E) (t : Text) (a b c d : Sites) (inner : spots.Spot) (rule : rules.Rule) (copy : Vec Pattern Global) → All (PatternIsOf t.owner t.names) rule.parameters.items
    → copy.items ≡ rule.parameters.items → Enters t a (with (patterns_bind t.names rule.parameters.items) top) inner b → Pushes inner (site.Matched copy) b c
    → (IsAt t c inner (with (patterns_bind t.names rule.parameters.items) top) → OnOk r (Writes t c (right_has t.names (with (patterns_bind t.names rule.parameters.items) top) rule.right) d))
    → OnOk r (Writes t a (rule_nodes (rule_meaning t.names rule)) d)
unfolding patterns_of patterns_bind right_has
top_written r t a b c d inner rule copy all copied entered pushed further =
    let one = matched_written t b c inner copy rule.parameters.items (with (patterns_bind t.names rule.parameters.items) top) pushed copied entered.at all in
    on_ok r (λ last. writes_both entered.writes (writes_both one last)) (further (at_pushed pushed entered.at))

goal_nodes_are : (goal : syntax.Goal) (free : List syntax.Name) (e : syntax.Expression) → free ≡ goal.free → e ≡ goal.expression → nodes_on [] (with free top) e ≡ goal_nodes goal
goal_nodes_are goal free e is found =
    ap₂ (λ xs x. nodes_on [] (with xs top) x) is found ∙ ap (λ s. nodes_on [] (record { functions = []; scope = s }) goal.expression) (append-nil (variable_entries goal.free))

pub goal_stands : (t : Text) (a b c : Sites) (inner : spots.Spot) (goal : GoalText) (free slice : List code.Name) (e : Expression) → IsEmpty a → slice ≡ free
    → names_meaning t.names free ≡ (goal_meaning t.names goal).free → expression_meaning t.names e ≡ (goal_meaning t.names goal).expression
    → Enters t a (with (names_meaning t.names slice) top) inner b → Writes t b (expression_has t.names (with (names_meaning t.names slice) top) e) c → Stands t (goal_nodes (goal_meaning t.names goal)) c
unfolding expression_has
goal_stands t a b c inner goal free slice e none sliced is found entered written =
    stands_all t a c (goal_nodes (goal_meaning t.names goal)) none
    (subst (λ ns. Writes t a ns c) (goal_nodes_are (goal_meaning t.names goal) (names_meaning t.names slice) (expression_meaning t.names e) (ap (names_meaning t.names) sliced ∙ is) found) (writes_both entered.writes written))

-- ---- scopes

-- what was read of a scope
pub record Scoped (t : Text) (es : List ScopeEntry) (whole : Scope) (number : ℕ) (found : List entries.Entry) : Type 0 where
  pub done : Scope
  pub rest : Scope
  pub are : AreEntries t done found
  pub at : IsScope t es number rest
  pub joins : done ++ rest ≡ whole

pub scoped_start : (t : Text) (es : List ScopeEntry) (whole : Scope) (number : ℕ) (found : List entries.Entry) → found ≡ [] → IsScope t es number whole → Scoped t es whole number found
scoped_start t es whole number found none is = record {
  done = [];
  rest = whole;
  are = record { meaning = ap (entries_meaning t.names) none; known = subst (All (EntryIsKnown t)) (sym none) (All-nil (EntryIsKnown t)) };
  at = is;
  joins = refl;
}

pub empty_at : (t : Text) (es : List ScopeEntry) (number : ℕ) (scope : Scope) → number ≡ 0 → IsScope t es number scope → scope ≡ []
empty_at t es number [] is at = refl
empty_at t es number (e ∷ scope) is at = let no = at.0.number_is in absurd (omega (arith, is, no))

pub scoped_end : (t : Text) (es : List ScopeEntry) (whole : Scope) (number : ℕ) (found : List entries.Entry) → number ≡ 0 → Scoped t es whole number found → AreEntries t whole found
scoped_end t es whole number found none before =
    subst (λ s. AreEntries t s found) (sym (append-nil before.done) ∙ ap (λ r. before.done ++ r) (sym (empty_at t es number before.rest none before.at)) ∙ before.joins) before.are

-- the entry at the head of a scope
pub record Headed (t : Text) (es : List ScopeEntry) (number : ℕ) (scope : Scope) (first : ScopeEntry) : Type 0 where
  pub rest : Scope
  pub is : scope ≡ entry_meaning t.names first.entry ∷ rest
  pub known : EntryIsKnown t first.entry
  pub at : IsScope t es (min first.around (number - 1)) rest

min_first : (a b : ℕ) → a ≤ b → min a b ≡ a
min_first a b l = omega (arith, l)

pub headed : (t : Text) (es : List ScopeEntry) (number : ℕ) (scope : Scope) (first : ScopeEntry) → 0 < number → slice_get es (number - 1) ≡ Some first → IsScope t es number scope → Headed t es number scope first
headed t es number [] first some gets at = absurd (omega (arith, some, at))
headed t es number (e ∷ scope) first some gets at =
    let n = at.0.number_is in
    let place : number - 1 ≡ at.0.place = omega (arith, n) in
    let same : at.0.found ≡ first = same_Some at.0.found first (sym at.0.stands ∙ ap (slice_get es) (sym place) ∙ gets) in
    let out : first.around ≤ number - 1 = subst (λ k. first.around ≤ k) (sym place) (subst (λ f. f.around ≤ at.0.place) same at.0.outward) in
    record {
      rest = scope;
      is = ap (λ x. x ∷ scope) (sym at.0.means ∙ ap (λ f. entry_meaning t.names f.entry) same);
      known = subst (λ (f : ScopeEntry). EntryIsKnown t f.entry) same at.0.known;
      at = subst (λ k. IsScope t es k scope) (sym (min_first first.around (number - 1) out)) (subst (λ (f : ScopeEntry). IsScope t es f.around scope) same at.1);
    }

pub scoped_more : (t : Text) (es : List ScopeEntry) (whole : Scope) (number next : ℕ) (first : ScopeEntry) (found now : List entries.Entry) → 0 < number → slice_get es (number - 1) ≡ Some first → now ≡ found ++ first.entry ∷ []
    → next ≡ min first.around (number - 1) → Scoped t es whole number found → Scoped t es whole next now
scoped_more t es whole number next first found now some gets pushed outer before =
    let h = headed t es number before.rest first some gets before.at in
    record {
      done = before.done ++ entry_meaning t.names first.entry ∷ [];
      rest = h.rest;
      are = record {
        meaning = ap (entries_meaning t.names) pushed ∙ map-append (entry_meaning t.names) found (first.entry ∷ []) ∙ ap (λ s. s ++ entry_meaning t.names first.entry ∷ []) before.are.meaning;
        known = subst (All (EntryIsKnown t)) (sym pushed) (All-push (EntryIsKnown t) found first.entry before.are.known h.known);
      };
      at = subst (λ k. IsScope t es k h.rest) (sym outer) h.at;
      joins = append_assoc before.done (entry_meaning t.names first.entry ∷ []) h.rest ∙ ap (λ s. before.done ++ s) (sym h.is) ∙ before.joins;
    }

pub missing : (t : Text) (es : List ScopeEntry) (number : ℕ) (scope : Scope) → 0 < number → slice_get es (number - 1) ≡ None → IsScope t es number scope → ⊥
missing t es number [] some gets at = omega (arith, some, at)
missing t es number (e ∷ scope) some gets at =
    let n = at.0.number_is in
    let place : number - 1 ≡ at.0.place = omega (arith, n) in
    let no : None ≡ Some at.0.found = sym gets ∙ ap (slice_get es) place ∙ at.0.stands in
    let bottom : ⊥ = cc in bottom

pub scoped_missing : (t : Text) (es : List ScopeEntry) (whole : Scope) (number : ℕ) (found : List entries.Entry) → 0 < number → slice_get es (number - 1) ≡ None → Scoped t es whole number found → AreEntries t whole found
scoped_missing t es whole number found some gets before = absurd (missing t es number before.rest some gets before.at)
