-- What modules export and declare, by the numbers of names.
use Rattle.std.proofs.Common.{◌≡◌, ◌∙◌, ℕ, ◌<◌, Bool, true, List, [], ◌∷◌, Some, map, refl, sym, ap, subst, get_or, length}
use Rattle.std.proofs.lemmas.Bool.Decides.{same_from_decides, Decides-eqb}
use Rattle.std.proofs.lemmas.List.Elements.{All-head, All-tail}
use Rattle.std.proofs.lemmas.List.Sums.{passes_at_first}
use Rattle.std.proofs.lemmas.Slice.Eq.{bytes_eq-Decides}
use Rattle.std.specs.List.{All, list_any, position_or_len}
use Rattle.std.specs.Prelude.{◌&&◌, ◌||◌, nat_eq}
use Rattle.std.specs.Str.{bytes_eq}
use Rattle.cu_entities.specs.declared.entities.Entity.{Entity}
use Rattle.cu_entities.specs.declared.entities.Sort.{Sort}
use Rattle.cu_entities.specs.declared.entities.Sort.TheVariants as sort
use Rattle.cu_entities.specs.declared.entities.Space.{Space}
use Rattle.cu_entities.specs.Entities as meant
use Rattle.cu_entities.specs.EntityMeaning.{EntityIsKnown, entity_meaning, sort_in, sort_meaning, space_meaning}
use Rattle.cu_kernel.specs.Kernel as kernel
use Rattle.cu_kernel.specs.TypeExpr.{TypeExpr}
use Rattle.cu_modules.specs.BuiltInEntities.{prelude_name}
use Rattle.cu_modules.specs.Scopes.{Named}
use Rattle.cu_names.specs.declared.names.NameId.{NameId}
use Rattle.cu_names.specs.Texts.{AllDiffer, IsKnown, text_of}
use Rattle.cu_toplevel.specs.declared.reading.Reading as code
use Rattle.cu_toplevel.specs.Inside.Exports.{is_own}
use Rattle.cu_toplevel.specs.Readings.{IsReading}
use Rattle.cu_translation.specs.ModuleNames.{id_of}
use Rattle.cu_translation.specs.ModuleTypes.{Reading, constructor, data_type, is_entity, is_public}
use Rattle.cu_toplevel.proofs.NameLemmas.{same_name, stands}
use Rattle.cu_toplevel.proofs.TopLemmas.{id_is}

-- ---- numbers

-- a number of a table is that of a text where its text is this one
pub same_number : (names : List (List ℕ)) (a : NameId) (text : List ℕ) → AllDiffer names → IsKnown names a → nat_eq a.0 (id_of names text).0 ≡ bytes_eq (text_of names a) text
same_number names a text differ known =
    same_from_decides (nat_eq a.0 at) (bytes_eq (text_of names a) text) (Decides-eqb a.0 at) (there, converse)
  where
    at : ℕ
    at = position_or_len (bytes_eq text) names

    there : bytes_eq (text_of names a) text ≡ true → a.0 ≡ at
    there e = sym (ap (λ (id : NameId). id.0) (id_is names a text differ (stands names a known ∙ ap Some ((bytes_eq-Decides (text_of names a) text).0 e))))

    converse : a.0 ≡ at → bytes_eq (text_of names a) text ≡ true
    converse e =
        let within : at < length names = subst (λ n. n < length names) e known in
        (bytes_eq-Decides (text_of names a) text).1 (ap (λ n. get_or names n []) e ∙ sym ((bytes_eq-Decides text (get_or names at [])).0 (passes_at_first (bytes_eq text) names [] within)))

pub number_known : (names : List (List ℕ)) (id : NameId) → AllDiffer names → IsKnown names id → id ≡ id_of names (text_of names id)
number_known names id differ known = sym (id_is names id (text_of names id) differ (stands names id known))

-- ---- exports

sort_is : (names : List (List ℕ)) (s : Sort) → space_meaning (sort_in s) ≡ meant.space_of (sort_meaning names s)
sort_is names sort.Function = refl
sort_is names (sort.SetFunction n) = refl
sort_is names (sort.Constructor id) = refl
sort_is names sort.DataType = refl
sort_is names sort.Synonym = refl

own_is : (names : List (List ℕ)) (e : Entity) (owner : NameId) (space : Space) (id : NameId) (text : List ℕ) → AllDiffer names → IsKnown names owner → EntityIsKnown names e → id ≡ id_of names text
    → is_own owner space id e ≡ is_entity (text_of names owner) (space_meaning space) text (entity_meaning names e)
own_is names e owner space id text differ known_owner known is = λ j.
    same_name names e.owner owner differ known.owner known_owner j
    && ((ap (λ (id : NameId). nat_eq e.name.0 id.0) is ∙ same_number names e.name text differ known.name) j
    && ap (meant.same_space (space_meaning space)) (sort_is names e.sort) j)

any_is : (names : List (List ℕ)) (es : List Entity) (owner : NameId) (space : Space) (id : NameId) (text : List ℕ) → AllDiffer names → IsKnown names owner → All (EntityIsKnown names) es → id ≡ id_of names text
    → list_any (is_own owner space id) es ≡ list_any (is_entity (text_of names owner) (space_meaning space) text) (map (entity_meaning names) es)
any_is names [] owner space id text differ known_owner known is = refl
any_is names (e ∷ es) owner space id text differ known_owner known is = λ j.
    own_is names e owner space id text differ known_owner (All-head (EntityIsKnown names) e es known) is j
    || any_is names es owner space id text differ known_owner (All-tail (EntityIsKnown names) e es known) is j

pub public_is : (names : List (List ℕ)) (r : Reading) (c : code.Reading) (owner : NameId) (space : Space) (id : NameId) (text : List ℕ) → IsReading names r c → owner ≡ c.«module».now.name → id ≡ id_of names text
    → list_any (is_own owner space id) c.exports.now ≡ is_public r (space_meaning space) text
public_is names r c owner space id text has named is =
    ap (λ (o : NameId). list_any (is_own o space id) c.exports.now) named
    ∙ any_is names c.exports.now c.«module».now.name space id text has.top.entities.differ has.has.known has.exports.known is
    ∙ ap (list_any (is_entity (text_of names c.«module».now.name) (space_meaning space) text)) has.exports.are
    ∙ sym (ap (λ (m : Named). list_any (is_entity m.name (space_meaning space) text) r.exports) has.is)

pub prelude_is : (names : List (List ℕ)) (r : Reading) (c : code.Reading) (owner : NameId) → IsReading names r c → owner ≡ c.«module».now.name
    → nat_eq owner.0 c.top.entities.now.prelude.0 ≡ bytes_eq r.m.name prelude_name
prelude_is names r c owner has named =
    let prelude = has.top.entities.prelude in
    ap (λ (o : NameId). nat_eq o.0 c.top.entities.now.prelude.0) named
    ∙ same_name names c.«module».now.name c.top.entities.now.prelude has.top.entities.differ has.has.known prelude.known
    ∙ ap (bytes_eq (text_of names c.«module».now.name)) prelude.is
    ∙ sym (ap (λ (m : Named). bytes_eq m.name prelude_name) has.is)

-- ---- constructors and types

-- the number of a name under the table of a reading
pub under_table : (names : List (List ℕ)) (r : Reading) (id : NameId) (text : List ℕ) → r.table ≡ names → id ≡ id_of names text → id ≡ id_of r.table text
under_table names r id text table is = is ∙ ap (λ t. id_of t text) (sym table)

pub constructor_is : (names : List (List ℕ)) (r : Reading) (id : NameId) (text : List ℕ) (public : Bool) (fields : List TypeExpr) → r.table ≡ names → id ≡ id_of names text → public ≡ is_public r meant.Values text
    → record { name = id; public = public; fields = fields } ≡ constructor r text fields
constructor_is names r id text public fields table is open_to = λ j. record { name = under_table names r id text table is j; public = open_to j; fields = fields }

pub data_type_is : (names : List (List ℕ)) (r : Reading) (number : ℕ) (id : NameId) (text : List ℕ) (arity : ℕ) (public : Bool) (cs : List kernel.Constructor) → r.table ≡ names → r.number ≡ number → id ≡ id_of names text
    → public ≡ is_public r meant.Types text → record { name = id; «module» = number; arity = arity; public = public; constructors = cs } ≡ data_type r text arity cs
data_type_is names r number id text arity public cs table place is open_to = λ j. record {
  name = under_table names r id text table is j;
  «module» = sym place j;
  arity = arity;
  public = open_to j;
  constructors = cs;
}
