-- Rules that are found, and the functions to which they belong.
use Rattle.std.proofs.Common.{◌≡◌, ◌∙◌, ◌<◌, ◌≤◌, ◌+◌, ℕ, Bool, true, false, List, [], ◌∷◌, ◌++◌, Option, None, Some, IfSome, length, drop, get_or, map, refl, sym, ap, ap₂, subst}
use Rattle.std.proofs.lemmas.List.{append-nil, append_assoc, drop_all, map-append}
use Rattle.std.proofs.lemmas.List.Elements.{All-nil, All-push}
use Rattle.std.proofs.lemmas.Bool.Decides.{same_from_decides}
use Rattle.std.proofs.lemmas.Slice.Eq.{bytes_eq-Decides}
use Rattle.std.specs.Prelude.{nat_eq, not, option_map}
use Rattle.std.specs.Str.{bytes_eq}
use Rattle.std.specs.List.{All}
use Rattle.cu_entities.proofs.NameLemmas.{same_name}
use Rattle.cu_names.specs.Texts.{text_of}
use Rattle.cu_syntax.specs.declared.declarations.Declaration.{Declaration}
use Rattle.cu_syntax.specs.declared.declarations.DeclarationNode.{DeclarationNode}
use Rattle.cu_syntax.specs.declared.items.ItemNode.{ItemNode}
use Rattle.cu_syntax.specs.declared.text.Item as texts
use Rattle.cu_syntax.specs.declared.name.Name as code
use Rattle.cu_syntax.specs.Answer.{item_meaning, items_meaning}
use Rattle.cu_syntax.specs.Declarations.{declaration_meaning, declaration_node}
use Rattle.cu_syntax.specs.Items.{item_node}
use Rattle.cu_syntax.specs.Owners.{NameIsOf}
use Rattle.cu_translation.specs.Rules as meant
use Rattle.cu_translation.specs.Rules.{Group, Rule, groups_after, leading, rule_in, rule_in_item}
use Rattle.cu_sites.specs.declared.grouping.Grouping.{Grouping}
use Rattle.cu_sites.specs.declared.rules.Group as groups
use Rattle.cu_sites.specs.declared.rules.Rule as rules
use Rattle.cu_sites.specs.Meaning.{AreGroups, GroupIsOf, RuleIsOf, group_meaning, rule_meaning}
use Rattle.cu_locals.specs.Text.{Text}
use Rattle.cu_sites.specs.Inside.RulesFound.{AreRules, Begins, GroupingIsOf, IsRuleIn, Reads, all_grouped, begun_at, grouped}
use Rattle.cu_locals.proofs.BegunLemmas.{dropped}

bytes_turned : (x y : List ℕ) → bytes_eq x y ≡ bytes_eq y x
bytes_turned x y =
    let there = bytes_eq-Decides x y in
    let converse = bytes_eq-Decides y x in
    same_from_decides (bytes_eq x y) (bytes_eq y x) there (λ e. sym (converse.0 e), λ e. converse.1 (sym e))

pub is_true : (b : Bool) → not b ≡ false → b ≡ true
is_true true e = refl
is_true false e = let no : ⊥ = cc in absurd no

pub is_false : (b : Bool) → not b ≡ true → b ≡ false
is_false true e = let no : ⊥ = cc in absurd no
is_false false e = refl

-- ---- rules

pub rule_found : (t : Text) (d : Declaration) (v n : DeclarationNode) (found : Option rules.Rule) → declaration_node t.names v ≡ declaration_meaning t.names d → v ≡ n
    → option_map (rule_meaning t.names) found ≡ rule_in (declaration_node t.names n) → IfSome found (RuleIsOf t.owner t.names) → IsRuleIn t (rule_in (declaration_meaning t.names d)) found
rule_found t d v n found meaning is rule of = record {
  meaning = rule ∙ ap rule_in (ap (declaration_node t.names) (sym is) ∙ meaning);
  owned = of;
}

pub item_found : (t : Text) (i : texts.Item) (v n : ItemNode) (found : Option rules.Rule) → item_node t.names v ≡ item_meaning t.names i → v ≡ n
    → IsRuleIn t (rule_in_item (item_node t.names n)) found → IsRuleIn t (rule_in_item (item_meaning t.names i)) found
item_found t i v n found meaning is rule = record {
  meaning = rule.meaning ∙ ap rule_in_item (ap (item_node t.names) (sym is) ∙ meaning);
  owned = rule.owned;
}

-- ---- groups

ends : (done : List Group) (g : Group) (rest : List (Option Rule)) → grouped (done ++ g ∷ []) None rest ≡ grouped done (Some g) (None ∷ rest)
ends done g rest =
    append_assoc done (g ∷ []) (groups_after None rest)
    ∙ ap (λ os. done ++ record { first = g.first; others = os } ∷ groups_after None rest) (sym (append-nil g.others))

goes : (done : List Group) (g : Group) (r : Rule) (rest : List (Option Rule)) → bytes_eq g.first.name.text r.name.text ≡ true
    → grouped done (Some (record { first = g.first; others = g.others ++ r ∷ [] })) rest ≡ grouped done (Some g) (Some r ∷ rest)
goes done g r rest same =
    rw same (ap (λ os. done ++ record { first = g.first; others = os } ∷ groups_after (Some (begun_at g.first)) rest) (append_assoc g.others (r ∷ []) (leading g.first.name.text rest)))

starts : (done : List Group) (r : Rule) (rest : List (Option Rule)) → grouped done (Some (record { first = r; others = [] })) rest ≡ grouped done None (Some r ∷ rest)
starts done r rest = refl

other : (done : List Group) (g : Group) (r : Rule) (rest : List (Option Rule)) → bytes_eq g.first.name.text r.name.text ≡ false
    → grouped (done ++ g ∷ []) (Some (record { first = r; others = [] })) rest ≡ grouped done (Some g) (Some r ∷ rest)
other done g r rest differs =
    rw differs (append_assoc done (g ∷ []) (record { first = r; others = leading r.name.text rest } ∷ groups_after (Some (begun_at r)) rest)
    ∙ ap (λ os. done ++ record { first = g.first; others = os } ∷ (record { first = r; others = leading r.name.text rest } ∷ groups_after (Some (begun_at r)) rest)) (sym (append-nil g.others)))

pub reads_end_some : (t : Text) (a b : Grouping) (g : groups.Group) → a.last ≡ Some g → b.last ≡ None → b.done.items ≡ a.done.items ++ g ∷ [] → Reads t a None b
reads_end_some t a b g last now pushed = record {
  reads = λ rest.
      ap₂ (λ ds l. grouped (map (group_meaning t.names) ds) (option_map (group_meaning t.names) l) rest) pushed now
      ∙ ap (λ ds. grouped ds None rest) (map-append (group_meaning t.names) a.done.items (g ∷ []))
      ∙ ends (map (group_meaning t.names) a.done.items) (group_meaning t.names g) rest
      ∙ ap (λ l. grouped (map (group_meaning t.names) a.done.items) (option_map (group_meaning t.names) l) (None ∷ rest)) (sym last);
  owned = λ of. record {
    done = subst (All (GroupIsOf t.owner t.names)) (sym pushed) (All-push (GroupIsOf t.owner t.names) a.done.items g of.done (subst (λ l. IfSome l (GroupIsOf t.owner t.names)) last of.last));
    last = subst (λ l. IfSome l (GroupIsOf t.owner t.names)) (sym now) tt;
  };
}

new_group : (t : Text) (r : rules.Rule) (g : groups.Group) → g.first ≡ r → g.others.items ≡ [] → group_meaning t.names g ≡ record { first = rule_meaning t.names r; others = [] }
new_group t r g first others = ap₂ (λ x xs. record { first = rule_meaning t.names x; others = map (rule_meaning t.names) xs }) first others

new_owned : (t : Text) (r : rules.Rule) (g : groups.Group) → g.first ≡ r → g.others.items ≡ [] → RuleIsOf t.owner t.names r → GroupIsOf t.owner t.names g
new_owned t r g first others of = record {
  first = subst (RuleIsOf t.owner t.names) (sym first) of;
  others = subst (All (RuleIsOf t.owner t.names)) (sym others) (All-nil (RuleIsOf t.owner t.names));
}

pub reads_first : (t : Text) (a b : Grouping) (r : rules.Rule) → a.last ≡ None → b.done.items ≡ a.done.items → Begins r b.last → RuleIsOf t.owner t.names r → Reads t a (Some (rule_meaning t.names r)) b
reads_first t a b r none same begins of = record {
  reads = λ rest.
      ap₂ (λ ds l. grouped (map (group_meaning t.names) ds) (option_map (group_meaning t.names) l) rest) same begins.is
      ∙ ap (λ g. grouped (map (group_meaning t.names) a.done.items) (Some g) rest) (new_group t r begins.group begins.first begins.others)
      ∙ starts (map (group_meaning t.names) a.done.items) (rule_meaning t.names r) rest
      ∙ ap (λ l. grouped (map (group_meaning t.names) a.done.items) (option_map (group_meaning t.names) l) (Some (rule_meaning t.names r) ∷ rest)) (sym none);
  owned = λ before. record {
    done = subst (All (GroupIsOf t.owner t.names)) (sym same) before.done;
    last = subst (λ l. IfSome l (GroupIsOf t.owner t.names)) (sym begins.is) (new_owned t r begins.group begins.first begins.others of);
  };
}

pub reads_same : (t : Text) (a b : Grouping) (g h : groups.Group) (r : rules.Rule) → a.last ≡ Some g → b.done.items ≡ a.done.items → b.last ≡ Some h → h.first ≡ g.first → h.others.items ≡ g.others.items ++ r ∷ []
    → bytes_eq (text_of t.names g.first.name.text) (text_of t.names r.name.text) ≡ true → RuleIsOf t.owner t.names r → Reads t a (Some (rule_meaning t.names r)) b
reads_same t a b g h r last same now first others alike of = record {
  reads = λ rest.
      ap₂ (λ ds l. grouped (map (group_meaning t.names) ds) (option_map (group_meaning t.names) l) rest) same now
      ∙ ap (λ g'. grouped (map (group_meaning t.names) a.done.items) (Some g') rest)
      (ap₂ (λ x xs. record { first = rule_meaning t.names x; others = map (rule_meaning t.names) xs }) first others
      ∙ ap (λ xs. record { first = rule_meaning t.names g.first; others = xs }) (map-append (rule_meaning t.names) g.others.items (r ∷ [])))
      ∙ goes (map (group_meaning t.names) a.done.items) (group_meaning t.names g) (rule_meaning t.names r) rest alike
      ∙ ap (λ l. grouped (map (group_meaning t.names) a.done.items) (option_map (group_meaning t.names) l) (Some (rule_meaning t.names r) ∷ rest)) (sym last);
  owned = λ before.
      let was = subst (λ l. IfSome l (GroupIsOf t.owner t.names)) last before.last in
      let is : GroupIsOf t.owner t.names h = record {
        first = subst (RuleIsOf t.owner t.names) (sym first) was.first;
        others = subst (All (RuleIsOf t.owner t.names)) (sym others) (All-push (RuleIsOf t.owner t.names) g.others.items r was.others of);
      } in
      record { done = subst (All (GroupIsOf t.owner t.names)) (sym same) before.done; last = subst (λ l. IfSome l (GroupIsOf t.owner t.names)) (sym now) is };
}

pub reads_other : (t : Text) (a b : Grouping) (g : groups.Group) (r : rules.Rule) → a.last ≡ Some g → b.done.items ≡ a.done.items ++ g ∷ [] → Begins r b.last
    → bytes_eq (text_of t.names g.first.name.text) (text_of t.names r.name.text) ≡ false → RuleIsOf t.owner t.names r → Reads t a (Some (rule_meaning t.names r)) b
reads_other t a b g r last pushed begins differs of = record {
  reads = λ rest.
      ap₂ (λ ds l. grouped (map (group_meaning t.names) ds) (option_map (group_meaning t.names) l) rest) pushed begins.is
      ∙ ap₂ (λ ds g'. grouped ds (Some g') rest) (map-append (group_meaning t.names) a.done.items (g ∷ [])) (new_group t r begins.group begins.first begins.others)
      ∙ other (map (group_meaning t.names) a.done.items) (group_meaning t.names g) (rule_meaning t.names r) rest differs
      ∙ ap (λ l. grouped (map (group_meaning t.names) a.done.items) (option_map (group_meaning t.names) l) (Some (rule_meaning t.names r) ∷ rest)) (sym last);
  owned = λ before. record {
    done = subst (All (GroupIsOf t.owner t.names)) (sym pushed) (All-push (GroupIsOf t.owner t.names) a.done.items g before.done (subst (λ l. IfSome l (GroupIsOf t.owner t.names)) last before.last));
    last = subst (λ l. IfSome l (GroupIsOf t.owner t.names)) (sym begins.is) (new_owned t r begins.group begins.first begins.others of);
  };
}

pub texts_alike : (t : Text) (s : Grouping) (g : groups.Group) (r : rules.Rule) (b : Bool) → s.last ≡ Some g → GroupingIsOf t s → RuleIsOf t.owner t.names r → nat_eq g.first.name.text.0 r.name.text.0 ≡ b
    → bytes_eq (text_of t.names g.first.name.text) (text_of t.names r.name.text) ≡ b
texts_alike t s g r b last of rule is =
    let was = subst (λ l. IfSome l (GroupIsOf t.owner t.names)) last of.last in
    sym (same_name t.names g.first.name.text r.name.text t.differ was.first.name.text rule.name.text) ∙ is

-- what was found where nothing stood is no rule, and elsewhere that rule
pub reads_found : (t : Text) (a b : Grouping) (rule : Option Rule) (v n : Option rules.Rule) → v ≡ n → option_map (rule_meaning t.names) v ≡ rule → Reads t a (option_map (rule_meaning t.names) n) b → Reads t a rule b
reads_found t a b rule v n is meaning reads = subst (λ r. Reads t a r b) (ap (option_map (rule_meaning t.names)) (sym is) ∙ meaning) reads

-- ---- the rules among items

abbrev pub rules_of_items : List (List ℕ) → List texts.Item → List (Option Rule)
rules_of_items names items = map rule_in_item (items_meaning names items)

-- what was read of the first items, and what is left, are the functions of all
pub record Gathers (t : Text) (items : List texts.Item) (i : ℕ) (s : Grouping) : Type 0 where
  pub whole : all_grouped t.names s (rules_of_items t.names (drop i items)) ≡ meant.groups (rules_of_items t.names items)
  pub owned : GroupingIsOf t s

pub gathers_none : (t : Text) (items : List texts.Item) (s : Grouping) → s.done.items ≡ [] → s.last ≡ None → Gathers t items 0 s
gathers_none t items s empty none = record {
  whole = ap₂ (λ ds l. grouped (map (group_meaning t.names) ds) (option_map (group_meaning t.names) l) (rules_of_items t.names items)) empty none;
  owned = record { done = subst (All (GroupIsOf t.owner t.names)) (sym empty) (All-nil (GroupIsOf t.owner t.names)); last = subst (λ l. IfSome l (GroupIsOf t.owner t.names)) (sym none) tt };
}

pub gathers_more : (t : Text) (items : List texts.Item) (i : ℕ) (x : texts.Item) (a b : Grouping) → x ≡ get_or items i x → i < length items → Gathers t items i a → Reads t a (rule_in_item (item_meaning t.names x)) b → Gathers t items (i + 1) b
gathers_more t items i x a b is within before reads = record {
  whole = reads.reads (rules_of_items t.names (drop (i + 1) items)) ∙ ap (λ xs. all_grouped t.names a (rules_of_items t.names xs)) (sym (dropped items i x is within)) ∙ before.whole;
  owned = reads.owned before.owned;
}

-- nothing more changes a function whose rules may go on
nothing_more : (done : List Group) (last : Option Group) → grouped done last (None ∷ []) ≡ grouped done last []
nothing_more done None = refl
nothing_more done (Some g) = refl

pub gathers_all : (t : Text) (items : List texts.Item) (i : ℕ) (a b : Grouping) → length items ≤ i → Gathers t items i a → Reads t a None b → b.last ≡ None
    → AreGroups t.owner t.names (meant.groups (rules_of_items t.names items)) b.done.items
gathers_all t items i a b past before reads none = record {
  meaning = sym (append-nil (map (group_meaning t.names) b.done.items))
      ∙ ap (λ l. grouped (map (group_meaning t.names) b.done.items) (option_map (group_meaning t.names) l) []) (sym none)
      ∙ reads.reads [] ∙ nothing_more (map (group_meaning t.names) a.done.items) (option_map (group_meaning t.names) a.last)
      ∙ ap (λ xs. all_grouped t.names a (rules_of_items t.names xs)) (sym (drop_all i items past)) ∙ before.whole;
  owned = (reads.owned before.owned).done;
}

-- ---- rules at the head of declarations

abbrev pub rules_of_views : List (List ℕ) → List Declaration → List (Option Rule)
rules_of_views names ds = map (λ (d : Declaration). rule_in (declaration_meaning names d)) ds

-- what was found of the rules at the head of declarations
pub record Led (t : Text) (x : code.Name) (ds : List Declaration) (i : ℕ) (found : List rules.Rule) : Type 0 where
  pub rest : List Rule
  pub are : AreRules t rest found
  pub joins : rest ++ leading (text_of t.names x.text) (rules_of_views t.names (drop i ds)) ≡ leading (text_of t.names x.text) (rules_of_views t.names ds)

pub led_start : (t : Text) (x : code.Name) (ds : List Declaration) (found : List rules.Rule) → found ≡ [] → Led t x ds 0 found
led_start t x ds found none = record {
  rest = [];
  are = record { meaning = ap (map (rule_meaning t.names)) none; owned = subst (All (RuleIsOf t.owner t.names)) (sym none) (All-nil (RuleIsOf t.owner t.names)) };
  joins = refl;
}

leads : (name : List ℕ) (r : Rule) (ds : List (Option Rule)) → bytes_eq name r.name.text ≡ true → leading name (Some r ∷ ds) ≡ r ∷ leading name ds
leads name r ds same = rw same refl

leads_no_more : (name : List ℕ) (r : Rule) (ds : List (Option Rule)) → bytes_eq name r.name.text ≡ false → leading name (Some r ∷ ds) ≡ []
leads_no_more name r ds differs = rw differs refl

split_rules : (t : Text) (ds : List Declaration) (i : ℕ) (d : Declaration) → d ≡ get_or ds i d → i < length ds
    → rules_of_views t.names (drop i ds) ≡ rule_in (declaration_meaning t.names d) ∷ rules_of_views t.names (drop (i + 1) ds)
split_rules t ds i d is within = ap (rules_of_views t.names) (dropped ds i d is within)

pub led_more : (t : Text) (x : code.Name) (ds : List Declaration) (i : ℕ) (d : Declaration) (r : rules.Rule) (found now : List rules.Rule) → d ≡ get_or ds i d → i < length ds → Led t x ds i found
    → IsRuleIn t (rule_in (declaration_meaning t.names d)) (Some r) → nat_eq r.name.text.0 x.text.0 ≡ true → NameIsOf t.owner t.names x → now ≡ found ++ r ∷ [] → Led t x ds (i + 1) now
led_more t x ds i d r found now is within before rule same of pushed =
    let texts : bytes_eq (text_of t.names x.text) (text_of t.names r.name.text) ≡ true = bytes_turned (text_of t.names x.text) (text_of t.names r.name.text) ∙ sym (same_name t.names r.name.text x.text t.differ rule.owned.name.text of.text) ∙ same in
    record {
      rest = before.rest ++ rule_meaning t.names r ∷ [];
      are = record {
        meaning = ap (map (rule_meaning t.names)) pushed ∙ map-append (rule_meaning t.names) found (r ∷ []) ∙ ap (λ rs. rs ++ rule_meaning t.names r ∷ []) before.are.meaning;
        owned = subst (All (RuleIsOf t.owner t.names)) (sym pushed) (All-push (RuleIsOf t.owner t.names) found r before.are.owned rule.owned);
      };
      joins = append_assoc before.rest (rule_meaning t.names r ∷ []) (leading (text_of t.names x.text) (rules_of_views t.names (drop (i + 1) ds)))
          ∙ ap (λ rs. before.rest ++ rs) (sym (ap (leading (text_of t.names x.text)) (split_rules t ds i d is within ∙ ap (λ o. o ∷ rules_of_views t.names (drop (i + 1) ds)) (sym rule.meaning))
          ∙ leads (text_of t.names x.text) (rule_meaning t.names r) (rules_of_views t.names (drop (i + 1) ds)) texts)) ∙ before.joins;
    }

led_to : (t : Text) (x : code.Name) (ds : List Declaration) (i : ℕ) (found : List rules.Rule) → Led t x ds i found → leading (text_of t.names x.text) (rules_of_views t.names (drop i ds)) ≡ []
    → AreRules t (leading (text_of t.names x.text) (rules_of_views t.names ds)) found
led_to t x ds i found before none = record {
  meaning = before.are.meaning ∙ sym (append-nil before.rest) ∙ ap (λ rs. before.rest ++ rs) (sym none) ∙ before.joins;
  owned = before.are.owned;
}

pub led_past : (t : Text) (x : code.Name) (ds : List Declaration) (i : ℕ) (found : List rules.Rule) → length ds ≤ i → Led t x ds i found → AreRules t (leading (text_of t.names x.text) (rules_of_views t.names ds)) found
led_past t x ds i found past before = led_to t x ds i found before (ap (λ xs. leading (text_of t.names x.text) (rules_of_views t.names xs)) (drop_all i ds past))

pub led_none : (t : Text) (x : code.Name) (ds : List Declaration) (i : ℕ) (d : Declaration) (found : List rules.Rule) → d ≡ get_or ds i d → i < length ds → Led t x ds i found
    → IsRuleIn t (rule_in (declaration_meaning t.names d)) None → AreRules t (leading (text_of t.names x.text) (rules_of_views t.names ds)) found
led_none t x ds i d found is within before rule =
    led_to t x ds i found before (ap (leading (text_of t.names x.text)) (split_rules t ds i d is within ∙ ap (λ o. o ∷ rules_of_views t.names (drop (i + 1) ds)) (sym rule.meaning)))

pub led_other : (t : Text) (x : code.Name) (ds : List Declaration) (i : ℕ) (d : Declaration) (r : rules.Rule) (found : List rules.Rule) → d ≡ get_or ds i d → i < length ds → Led t x ds i found
    → IsRuleIn t (rule_in (declaration_meaning t.names d)) (Some r) → nat_eq r.name.text.0 x.text.0 ≡ false → NameIsOf t.owner t.names x → AreRules t (leading (text_of t.names x.text) (rules_of_views t.names ds)) found
led_other t x ds i d r found is within before rule differs of =
    let texts : bytes_eq (text_of t.names x.text) (text_of t.names r.name.text) ≡ false = bytes_turned (text_of t.names x.text) (text_of t.names r.name.text) ∙ sym (same_name t.names r.name.text x.text t.differ rule.owned.name.text of.text) ∙ differs in
    led_to t x ds i found before (ap (leading (text_of t.names x.text)) (split_rules t ds i d is within ∙ ap (λ o. o ∷ rules_of_views t.names (drop (i + 1) ds)) (sym rule.meaning))
    ∙ leads_no_more (text_of t.names x.text) (rule_meaning t.names r) (rules_of_views t.names (drop (i + 1) ds)) texts)
