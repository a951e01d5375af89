-- What tables of scopes tell of names, and what is told of a fault.
use Rattle.std.proofs.Common.{◌≡◌, ◌∙◌, ℕ, ◌<◌, ◌↔◌, zero, suc, List, [], ◌∷◌, Option, None, Some, length, get_or, refl, sym, ap, subst, arith}
use Rattle.std.proofs.lemmas.List.{length-map}
use Rattle.std.proofs.lemmas.Option.{slice_get_read, slice_get_within}
use Rattle.std.specs.Option.{option_map}
use Rattle.std.specs.Prelude.{IfSome, slice_get}
use Rattle.cu_entities.specs.Bindings.{Alone, Binding, counted, meant_by}
use Rattle.cu_entities.specs.declared.entities.Space.{Space}
use Rattle.cu_entities.specs.declared.name_table.Key.{Key}
use Rattle.cu_entities.specs.declared.name_table.Meant.{Meant}
use Rattle.cu_entities.specs.declared.name_table.Meant.TheVariants as meant
use Rattle.cu_entities.specs.declared.name_table.NameTable.{NameTable}
use Rattle.cu_entities.specs.Entities.{Entity}
use Rattle.cu_entities.specs.EntityMeaning.{EntityIsKnown, entity_meaning, space_meaning}
use Rattle.cu_entities.specs.NameTables.{KeyIsKnown, MeantIsKnown, Tells, count_meaning, meant_at}
use Rattle.cu_lex.specs.Reading.{position_of}
use Rattle.cu_names.specs.declared.names.NameId.{NameId}
use Rattle.cu_names.specs.declared.place.Place.{Place}
use Rattle.cu_names.specs.Texts.{IsKnown, text_of}
use Rattle.cu_syntax.specs.Syntax.{Goal, Name}
use Rattle.cu_uses.specs.declared.fault.Fault as faults
use Rattle.cu_uses.specs.declared.fault.Wrong.{Wrong}
use Rattle.cu_uses.specs.declared.fault.Wrong.TheVariants as wrong
use Rattle.cu_uses.specs.Demands.{goal_demands}
use Rattle.cu_uses.specs.Faults.{Fault, demand_faults}
use Rattle.cu_uses.specs.Telling.{IsFirstIf}
use Rattle.cu_modules.specs.declared.modules.Module.{Module}
use Rattle.cu_modules.specs.declared.scope_fault.ScopeFault.{ScopeFault}
use Rattle.cu_modules.specs.declared.scopes.Scopes.{Scopes}
use Rattle.cu_modules.specs.Inside.Scoping.{answer_for, only_one, wrong_at}
use Rattle.cu_modules.specs.Means.{IsGoalScoped, IsGoalWrong, Means, interfaces_before}
use Rattle.cu_modules.specs.Ordering.{module_of, modules_of}
use Rattle.cu_modules.specs.ScopeAnswers.{AreScopes, FaultIsKnown, IsNamed, TellsFault}
use Rattle.cu_modules.specs.Scopes.{Named, meant, scope}

-- ---- elements by number

pub element : {A : Type 0} (xs : List A) (i : ℕ) → i < length xs → (x : A) × (slice_get xs i ≡ Some x)
element [] i within = absurd (omega arith)
element (x ∷ xs) zero within = (x, refl)
element (x ∷ xs) (suc i) within = element xs i (omega arith)

-- ---- one entity alone

alone : (es : List Entity) (e : Entity) → counted es ≡ Some (Alone e) → es ≡ e ∷ []
alone [] e is = let no' : ⊥ = cc in absurd no'
alone (f ∷ []) e is = cc
alone (f ∷ g ∷ es) e is = let no' : ⊥ = cc in absurd no'

told_alone : (names : List (List ℕ)) (found : Option Meant) (e : Entity) → option_map (entity_meaning names) (only_one found) ≡ Some e → option_map (count_meaning names) found ≡ Some (Alone e)
told_alone names None e is = let no' : ⊥ = cc in absurd no'
told_alone names (Some (meant.One f)) e is = cc
told_alone names (Some meant.Several) e is = let no' : ⊥ = cc in absurd no'

alone_told : (names : List (List ℕ)) (found : Option Meant) (e : Entity) → option_map (count_meaning names) found ≡ Some (Alone e) → option_map (entity_meaning names) (only_one found) ≡ Some e
alone_told names None e is = let no' : ⊥ = cc in absurd no'
alone_told names (Some (meant.One f)) e is = cc
alone_told names (Some meant.Several) e is = let no' : ⊥ = cc in absurd no'

pub only_known : (names : List (List ℕ)) (found : Option Meant) → IfSome found (MeantIsKnown names) → IfSome (only_one found) (EntityIsKnown names)
only_known names None known = tt
only_known names (Some (meant.One f)) known = known
only_known names (Some meant.Several) known = tt

-- ---- what a name means

abbrev pub key_for : Option NameId → NameId → Space → Key
key_for qualifier base space = record { qualifier = qualifier; base = base; space = space }

by_name : (names : List (List ℕ)) (bindings : List Binding) (qualifier : Option NameId) (base : NameId) (space : Space) (name : Name) → IsNamed names qualifier base name
    → meant bindings (space_meaning space) name ≡ meant_by bindings (space_meaning space) (option_map (text_of names) qualifier) (text_of names base)
by_name names bindings qualifier base space name named = λ j. meant_by bindings (space_meaning space) (named.qualifier_is j) (named.base_is j)

pub means : (names : List (List ℕ)) (modules : List Named) (scopes : Scopes) (number : ℕ) (table : NameTable) (qualifier : Option NameId) (base : NameId) (space : Space) (name : Name) (found : Option Meant)
    (entity : Entity) → AreScopes names modules scopes → IsNamed names qualifier base name → slice_get scopes.tables.items number ≡ Some table
    → ((bindings : List Binding) → KeyIsKnown names (key_for qualifier base space) → Tells names bindings table → option_map (count_meaning names) found ≡ meant_at names bindings (key_for qualifier base space))
    → (option_map (entity_meaning names) (only_one found) ≡ Some entity) ↔ Means modules number (space_meaning space) name entity
means names modules scopes number table qualifier base space name found entity are named there tells = (to, from)
  where
    key_known : KeyIsKnown names (key_for qualifier base space)
    key_known = record { qualifier = named.qualifier_known; base = named.base_known }

    to : option_map (entity_meaning names) (only_one found) ≡ Some entity → Means modules number (space_meaning space) name entity
    to is =
        let at = element modules number (subst (λ n. number < n) are.each (slice_get_within scopes.tables.items number table there)) in
        let bindings = scope (interfaces_before modules number) at.0 in
        record {
          m = at.0;
          is_there = at.1;
          is_alone = by_name names bindings qualifier base space name named
              ∙ alone (meant_by bindings (space_meaning space) (option_map (text_of names) qualifier) (text_of names base)) entity
              (sym (tells bindings key_known (are.tells number at.0 table at.1 there)) ∙ told_alone names found entity is);
        }

    from : Means modules number (space_meaning space) name entity → option_map (entity_meaning names) (only_one found) ≡ Some entity
    from m =
        let bindings = scope (interfaces_before modules number) m.m in
        alone_told names found entity (tells bindings key_known (are.tells number m.m table m.is_there there) ∙ ap counted (sym (by_name names bindings qualifier base space name named) ∙ m.is_alone))

-- the table of a number tells a scope
pub table_known : (names : List (List ℕ)) (modules : List Named) (scopes : Scopes) (number : ℕ) (table : NameTable) → AreScopes names modules scopes → slice_get scopes.tables.items number ≡ Some table
    → (bindings : List Binding) × Tells names bindings table
table_known names modules scopes number table are there =
    let at = element modules number (subst (λ n. number < n) are.each (slice_get_within scopes.tables.items number table there)) in
    (scope (interfaces_before modules number) at.0, are.tells number at.0 table at.1 there)

-- ---- faults

pub told : (names : List (List ℕ)) (P : List ℕ → Fault → Type 0) (w : Wrong) (place : Place) (id : NameId)
    → P (text_of names place.«module») (record { wrong = w; at = position_of place; name = text_of names id }) → TellsFault names P (answer_for w place id)
told names P wrong.NotExported place id holds = holds
told names P wrong.UnknownName place id holds = holds
told names P wrong.Ambiguous place id holds = holds
told names P wrong.Duplicate place id holds = holds

pub goal_is_wrong : (names : List (List ℕ)) (modules : List Module) (root : ℕ) (scopes : Scopes) (table : NameTable) (goal : Goal) (owner : NameId) (f : faults.Fault) (result : ScopeFault)
    → AreScopes names (modules_of names modules) scopes → root < length modules → table ≡ get_or scopes.tables.items root table
    → ((bindings : List Binding) → Tells names bindings table → IsFirstIf owner names (demand_faults bindings (goal_demands goal)) (Some f))
    → result ≡ wrong_at f
    → TellsFault names (λ name fault. (name ≡ text_of names owner) × IsGoalWrong (modules_of names modules) root goal fault) result
goal_is_wrong names modules root scopes table goal owner f result are within index tells is =
    let P : List ℕ → Fault → Type 0 = λ name fault. (name ≡ text_of names owner) × IsGoalWrong (modules_of names modules) root goal fault in
    let inside : root < length (modules_of names modules) = subst (λ n. root < n) (sym (length-map modules (module_of names))) within in
    let at = element (modules_of names modules) root inside in
    let there = slice_get_read scopes.tables.items (length (modules_of names modules)) root table (sym are.each) inside index in
    let found = tells (scope (interfaces_before (modules_of names modules) root) at.0) (are.tells root at.0 table at.1 there) in
    subst (TellsFault names P) (sym is) (told names P f.wrong f.place f.name (ap (text_of names) found.0.place, record { m = at.0; is_there = at.1; is_first = found.1 }))

pub goal_is_right : (names : List (List ℕ)) (modules : List Module) (root : ℕ) (scopes : Scopes) (table : NameTable) (goal : Goal) (owner : NameId)
    → AreScopes names (modules_of names modules) scopes → root < length modules → table ≡ get_or scopes.tables.items root table
    → ((bindings : List Binding) → Tells names bindings table → IsFirstIf owner names (demand_faults bindings (goal_demands goal)) None)
    → IsGoalScoped (modules_of names modules) root goal
goal_is_right names modules root scopes table goal owner are within index tells =
    let inside : root < length (modules_of names modules) = subst (λ n. root < n) (sym (length-map modules (module_of names))) within in
    let at = element (modules_of names modules) root inside in
    let there = slice_get_read scopes.tables.items (length (modules_of names modules)) root table (sym are.each) inside index in
    record { m = at.0; is_there = at.1; right = tells (scope (interfaces_before (modules_of names modules) root) at.0) (are.tells root at.0 table at.1 there) }

-- ---- the names of a fault

answer_known : (names : List (List ℕ)) (w : Wrong) (place : Place) (id : NameId) → IsKnown names place.«module» → IsKnown names id → FaultIsKnown names (answer_for w place id)
answer_known names wrong.NotExported place id in_module known = (in_module, known)
answer_known names wrong.UnknownName place id in_module known = (in_module, known)
answer_known names wrong.Ambiguous place id in_module known = (in_module, known)
answer_known names wrong.Duplicate place id in_module known = (in_module, known)

pub fault_known : (owner : NameId) (names : List (List ℕ)) (all : List Fault) (f : faults.Fault) (result : ScopeFault) → IsKnown names owner → IsFirstIf owner names all (Some f) → result ≡ wrong_at f
    → FaultIsKnown names result
fault_known owner names all f result known found is =
    subst (FaultIsKnown names) (sym is) (answer_known names f.wrong f.place f.name (subst (IsKnown names) (sym found.0.place) known) found.0.name)

pub goal_known : (names : List (List ℕ)) (modules : List Module) (root : ℕ) (scopes : Scopes) (table : NameTable) (goal : Goal) (owner : NameId) (f : faults.Fault) (result : ScopeFault) → IsKnown names owner
    → AreScopes names (modules_of names modules) scopes → root < length modules → table ≡ get_or scopes.tables.items root table
    → ((bindings : List Binding) → Tells names bindings table → IsFirstIf owner names (demand_faults bindings (goal_demands goal)) (Some f))
    → result ≡ wrong_at f → FaultIsKnown names result
goal_known names modules root scopes table goal owner f result known are within index tells is =
    let inside : root < length (modules_of names modules) = subst (λ n. root < n) (sym (length-map modules (module_of names))) within in
    let at = element (modules_of names modules) root inside in
    let there = slice_get_read scopes.tables.items (length (modules_of names modules)) root table (sym are.each) inside index in
    let bindings = scope (interfaces_before (modules_of names modules) root) at.0 in
    fault_known owner names (demand_faults bindings (goal_demands goal)) f result known (tells bindings (are.tells root at.0 table at.1 there)) is
