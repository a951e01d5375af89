-- What the parts of expressions stand for.
use Rattle.std.specs.Prelude.{◌≡◌, Bool, true, List, [], ◌∷◌, ◌++◌, Option, None, IfSome, codes}
use Rattle.std.specs.List.{All}
use Rattle.std.specs.Option.{option_map}
use Rattle.cu_calculus.specs.Term as calculus
use Rattle.cu_kernel.specs.LocalTerm.{LocalAlternatives, LocalTerm, MoreAlternatives, NoAlternative}
use Rattle.cu_lex.specs.Located.{Position}
use Rattle.cu_locals.specs.BegunFound.{continues, function_meaning}
use Rattle.cu_locals.specs.Entries.{block_brings}
use Rattle.cu_locals.specs.declared.begun.Begun as code
use Rattle.cu_names.specs.Texts.{IsKnown}
use Rattle.cu_names.specs.declared.names.NameId.{NameId}
use Rattle.cu_syntax.specs.Declarations.{declaration_meaning, declarations_meaning}
use Rattle.cu_syntax.specs.declared.declarations.Declaration.{Declaration}
use Rattle.cu_syntax.specs.declared.expressions.Expression.{Expression}
use Rattle.cu_syntax.specs.declared.patterns.Pattern.{Pattern}
use Rattle.cu_translation.specs.Around.{Around, Referent}
use Rattle.cu_translation.specs.Blocks as blocks
use Rattle.cu_translation.specs.LocalNames.{Scope}
use Rattle.cu_translation.specs.Meaning.{Setting, entries_meaning}
use Rattle.cu_translation.specs.Rules.{Begun, begun_in}
use Rattle.cu_translation.specs.Table as table
use Rattle.cu_uses.specs.Gathered.{names_meaning}
use Rattle.cu_forms.specs.declared.blocks.Bound.{Bound}
use Rattle.cu_forms.specs.declared.expressions.LocalBlock.{LocalBlock}
use Rattle.cu_forms.specs.Scopes.{EntryIsKnown}
use Rattle.cu_forms.specs.Forms.{free_form, inside, lets_form, name_alone_form}
use Rattle.cu_forms.specs.Inside.Blocks.{bounds_meaning}
use Rattle.cu_forms.specs.Inside.Calls.{built_in_term}

-- what the first of some expressions refers to, if it is a name and nothing else
abbrev pub first_alone : Setting → Scope → List Expression → Option Referent
first_alone w local [] = None
first_alone w local (e ∷ es) = name_alone_form w local e

abbrev pub alternatives_term : List (calculus.Pattern × LocalTerm) → LocalAlternatives
alternatives_term [] = NoAlternative
alternatives_term (a ∷ rows) = MoreAlternatives a.0 a.1 (alternatives_term rows)

-- the call that applies the local function whose first token stands here to each element of a list,
-- and joins the results
abbrev pub generated_term : Around → Position → LocalTerm → LocalTerm
generated_term around at elements =
    built_in_term around.names (codes "concatMap") (table.local_function around at ∷ elements ∷ [])

-- ---- blocks

-- A block was read: what it brings into scope, its free variables, and its definitions.
pub record Opens (w : Setting) (local : Scope) (ds : List Declaration)
    (found : LocalBlock) : Type 0 where
  pub entries : entries_meaning w.names found.entries.items ≡ block_brings w.names ds
  pub known : All (EntryIsKnown w.names) found.entries.items
  pub free : names_meaning w.names found.free.items ≡ free_form w.names ds
  pub bounds : bounds_meaning found.bounds.items ≡ lets_form w (inside w local ds) ds

-- whether a rule of a block is that of a function, and not of a variable
abbrev pub is_function_rule : Option code.Begun → NameId → List Pattern → Bool
is_function_rule begun text [] = continues begun text
is_function_rule begun text (p ∷ ps) = true

-- the function whose rules may go on, as the definitions have it
abbrev pub begun_of : Setting → Option code.Begun → Option Begun
begun_of w begun = option_map (function_meaning w.names) begun

abbrev pub BegunIsKnown : Setting → Option code.Begun → Type 0
BegunIsKnown w begun = IfSome begun (λ (b : code.Begun). IsKnown w.names b.name)

-- the local variables that a declaration defines, where the rules of `begun` may go on
unfoldable pub let_form_of : Setting → Scope → Option Begun → Declaration → List blocks.Bound
let_form_of w local begun d = table.let_of w.around local begun (declaration_meaning w.names d)

unfoldable pub lets_after : Setting → Scope → Option Begun → List Declaration → List blocks.Bound
lets_after w local begun ds = table.lets w.around local begun (declarations_meaning w.names ds)

-- The definitions found grew by those of a declaration, and this is the function whose rules may go
-- on.
pub record Defines (w : Setting) (local : Scope) (begun : Option code.Begun) (d : Declaration)
    (before after : List Bound) (next : Option code.Begun) : Type 0 where
  pub added : bounds_meaning after
      ≡ bounds_meaning before ++ let_form_of w local (begun_of w begun) d
  pub next_is : begun_of w next ≡ begun_in (begun_of w begun) (declaration_meaning w.names d)
  pub known : BegunIsKnown w next
