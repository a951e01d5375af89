-- Instances: what a reading becomes where ground data stand for its variables. Which values a
-- listing covers.
use Rattle.std.specs.Prelude.{◌≡◌, ℕ, IsTrue}
use Rattle.cu_calculus.specs.Code.{Code}
use Rattle.cu_calculus.specs.Value as value
use Rattle.cu_calculus.specs.Value.{Value, Values, values_of}
use Rattle.cu_machine.specs.declared.End.TheVariants.{NoMore}
use Rattle.cu_machine.specs.Among.{Among}
use Rattle.cu_machine.specs.Listing.{Answered, Listing}
use Rattle.cu_machine.specs.Next.{Reading}
use Rattle.cu_machine.specs.Validity.{is_built}

-- a substitution: a value for each variable
abbrev pub Substitution : Type 0
Substitution = ℕ → Value

-- a value in which other values stand for the variables
abbrev mutual
  pub filled : Substitution → Value → Value
  filled substitution value.Bottom = value.Bottom
  filled substitution (value.Variable x) = substitution x
  filled substitution (value.Literal l) = value.Literal l
  filled substitution (value.Constructed c vs) = value.Constructed c (all_filled substitution vs)
  filled substitution (value.Partial h vs) = value.Partial h (all_filled substitution vs)

  -- several values in which other values stand for the variables
  pub all_filled : Substitution → Values → Values
  all_filled substitution value.NoValue = value.NoValue
  all_filled substitution (value.MoreValues v vs) =
      value.MoreValues (filled substitution v) (all_filled substitution vs)

-- The reading has these bindings and the value v, where some ground data of the program stand for
-- its variables.
pub record IsInstance (code : Code) (reading : Reading) (arguments : Values) (v : Value)
    : Type 0 where
  pub substitution : Substitution
  pub ground : (x : ℕ) → IsTrue (is_built code (substitution x))
  pub bindings_are : all_filled substitution (values_of reading.bindings) ≡ arguments
  pub value_is : filled substitution reading.value ≡ v

-- ---- listings

-- There was no more to search, and no branch waits.
abbrev pub IsExhausted : Listing → Type 0
IsExhausted listing = listing.end ≡ NoMore 0

-- The values of the goal variables and the value v are an instance of an answer that is listed.
pub record Covered (code : Code) (listing : Listing) (arguments : Values) (v : Value)
    : Type 0 where
  pub depth : ℕ
  pub reading : Reading
  pub listed : Among (Answered depth reading) listing.lines
  pub covers : IsInstance code reading arguments v
