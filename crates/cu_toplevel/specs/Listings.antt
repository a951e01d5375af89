-- What lists of declared entities stand for, under a table of names.
use Rattle.indexmap.specs.IndexMap.{get}
use Rattle.std.specs.Prelude.{◌≡◌, ℕ, List, Option, map}
use Rattle.std.specs.List.{All}
use Rattle.std.specs.Option.{option_map}
use Rattle.cu_names.specs.Texts.{IsKnown, text_of}
use Rattle.cu_toplevel.specs.contracts.listing.KeyPartialEq.TheImpl.{eq-value}
use Rattle.cu_toplevel.specs.declared.listing.Declared as code
use Rattle.cu_toplevel.specs.declared.listing.Key.{Key}
use Rattle.cu_toplevel.specs.declared.listing.Listing.{Listing}
use Rattle.cu_toplevel.specs.declared.listing.Numbered as code_numbers
use Rattle.cu_translation.specs.Numbered.{Declared, Numbered, declared, numbered}

abbrev pub declared_meaning : List (List ℕ) → code.Declared → Declared
declared_meaning names d = declared (text_of names d.owner) (text_of names d.name) d.arity

abbrev pub numbered_meaning : code_numbers.Numbered → Numbered
numbered_meaning n = record { number = n.number; arity = n.arity }

-- A table has the names of a declared entity.
pub record DeclaredIsKnown (names : List (List ℕ)) (d : code.Declared) : Type 0 where
  pub owner : IsKnown names d.owner
  pub name : IsKnown names d.name

-- Look-ups give the number of the first entity of each name.
pub record GivesFirst
    (names : List (List ℕ)) (listed : List Declared) (found : Key
    → Option code_numbers.Numbered) : Type 0
  where
    pub each : (k : Key) → IsKnown names k.owner → IsKnown names k.name
        → option_map numbered_meaning (found k)
        ≡ numbered (text_of names k.owner) (text_of names k.name) listed

-- The listing of the code has these entities, in this order.
pub record IsListing (names : List (List ℕ)) (listed : List Declared) (l : Listing) : Type 0 where
  pub are : map (declared_meaning names) l.list.items ≡ listed
  pub known : All (DeclaredIsKnown names) l.list.items
  pub first : GivesFirst names listed (get eq-value.it l.first)
