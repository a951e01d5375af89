-- What declarations of a block define.
use Rattle.std.proofs.Common.{◌≡◌, ◌∙◌, ◌<◌, ◌≤◌, ◌+◌, ℕ, Bool, true, List, [], ◌∷◌, ◌++◌, Option, None, Some, length, drop, get_or, refl, sym, ap, ap₂, subst, append-nil, append_assoc, arith, if◌then◌else◌}
use Rattle.std.proofs.lemmas.List.{drop_all, map-append}
use Rattle.std.specs.declared.alloc.Global.{Global}
use Rattle.std.specs.declared.vec.Vec.{Vec}
use Rattle.cu_kernel.specs.LocalTermsOf.{local_term_of}
use Rattle.cu_kernel.specs.declared.local.LocalTerm.{LocalTerm}
use Rattle.cu_lex.specs.Reading.{position_of}
use Rattle.cu_locals.proofs.BegunLemmas.{begun_texts, dropped, goes_on_texts}
use Rattle.cu_locals.specs.BegunFound.{begun_for, continues, function_meaning}
use Rattle.cu_locals.specs.Text.{text}
use Rattle.cu_locals.specs.declared.begun.Begun as begun
use Rattle.cu_names.specs.Texts.{AllDiffer, IsKnown}
use Rattle.cu_names.specs.declared.names.NameId.{NameId}
use Rattle.cu_names.specs.declared.place.Place.{Place}
use Rattle.cu_syntax.specs.Declarations.{declaration_meaning, declaration_node}
use Rattle.cu_syntax.specs.Names.{name_meaning}
use Rattle.cu_syntax.specs.Owners.{NameIsOf}
use Rattle.cu_syntax.specs.Patterns.{pattern_meaning, patterns_meaning}
use Rattle.cu_syntax.specs.Syntax.{pattern_position}
use Rattle.cu_syntax.specs.declared.declarations.Declaration.{Declaration}
use Rattle.cu_syntax.specs.declared.declarations.DeclarationNode.{DeclarationNode}
use Rattle.cu_syntax.specs.declared.declarations.DeclarationNode.TheVariants as node
use Rattle.cu_syntax.specs.declared.declarations.RightSide.{RightSide}
use Rattle.cu_syntax.specs.declared.name.Name as code
use Rattle.cu_syntax.specs.declared.patterns.Pattern.{Pattern}
use Rattle.cu_translation.specs.Blocks as blocks
use Rattle.cu_translation.specs.Blocks.{bound}
use Rattle.cu_translation.specs.LocalNames.{At, Scope, Whole}
use Rattle.cu_translation.specs.Meaning.{Setting, position_meaning}
use Rattle.cu_translation.specs.Rules.{Begun, begun_in, is_of_function}
use Rattle.cu_translation.specs.Table as table
use Rattle.cu_translation.specs.declared.local_names.Binder.TheVariants as binder
use Rattle.cu_translation.specs.declared.position.Position.{Position}
use Rattle.cu_forms.specs.declared.blocks.Bound.{Bound}
use Rattle.cu_forms.specs.Forms.{lets_form, right_form, selections_form}
use Rattle.cu_forms.specs.Inside.Blocks.{bound_meaning, bounds_meaning}
use Rattle.cu_forms.specs.Inside.Expressions.{BegunIsKnown, Defines, begun_of, is_function_rule, let_form_of, lets_after}

-- ---- one declaration

abbrev pub node_defines : Setting → Scope → Option Begun → DeclarationNode → List blocks.Bound
node_defines w local b (node.FreeVariables at xs) = []
node_defines w local b (node.Signature at xs t) = []
node_defines w local b (node.FunctionRule at x ps right) =
    if is_of_function b (name_meaning w.names x) (patterns_meaning w.names ps.items) then []
    else bound (At (position_of x.place)) (right_form w local right) ∷ []
node_defines w local b (node.PatternBinding at p right) =
    bound (Whole (pattern_position (pattern_meaning w.names p))) (right_form w local right) ∷ selections_form w p

defined_in : (w : Setting) (local : Scope) (b : Option Begun) (n : DeclarationNode) → node_defines w local b n ≡ table.let_of w.around local b (declaration_node w.names n)
unfolding right_form selections_form
defined_in w local b (node.FreeVariables at xs) = refl
defined_in w local b (node.Signature at xs t) = refl
defined_in w local b (node.FunctionRule at x ps right) = refl
defined_in w local b (node.PatternBinding at p right) = refl

node_defined : (w : Setting) (local : Scope) (b : Option Begun) (d : Declaration) (n : DeclarationNode) → declaration_node w.names n ≡ declaration_meaning w.names d → node_defines w local b n ≡ let_form_of w local b d
unfolding let_form_of
node_defined w local b d n meaning = defined_in w local b n ∙ ap (table.let_of w.around local b) meaning

-- what a declaration defines, by what it is
pub defines : (w : Setting) (local : Scope) (b next : Option begun.Begun) (d : Declaration) (v n : DeclarationNode) (before after : List Bound)
    → declaration_node w.names v ≡ declaration_meaning w.names d → v ≡ n
    → bounds_meaning after ≡ bounds_meaning before ++ node_defines w local (begun_of w b) n
    → begun_of w next ≡ begun_in (begun_of w b) (declaration_node w.names n) → BegunIsKnown w next → Defines w local b d before after next
defines w local b next d v n before after meaning is added same known =
    let meant = ap (declaration_node w.names) (sym is) ∙ meaning in
    record {
      added = added ∙ ap (λ bs. bounds_meaning before ++ bs) (node_defined w local (begun_of w b) d n meant);
      next_is = same ∙ ap (begun_in (begun_of w b)) meant;
      known = known;
    }

pub defines_nothing : (bounds : List Bound) → bounds_meaning bounds ≡ bounds_meaning bounds ++ []
defines_nothing bounds = sym (append-nil (bounds_meaning bounds))

-- whether a rule is a function's, by texts
function_rule_texts : (w : Setting) → AllDiffer w.names → (b : Option begun.Begun) (x : code.Name) (ps : List Pattern) → BegunIsKnown w b → NameIsOf w.owner w.names x
    → is_function_rule b x.text ps ≡ is_of_function (begun_of w b) (name_meaning w.names x) (patterns_meaning w.names ps)
function_rule_texts w differ b x [] known of = goes_on_texts (text w.owner w.names differ) b x known of
function_rule_texts w differ b x (p ∷ ps) known of = refl

pub without_parameters : (b : Option begun.Begun) (x : NameId) (ps : List Pattern) → ps ≡ [] → continues b x ≡ is_function_rule b x ps
without_parameters b x ps none = ap (is_function_rule b x) (sym none)

pub with_parameters : (b : Option begun.Begun) (x : NameId) (ps : List Pattern) → 0 < length ps → true ≡ is_function_rule b x ps
with_parameters b x [] some = absurd (omega (arith, some))
with_parameters b x (p ∷ ps) some = refl

rule_if : (w : Setting) (local : Scope) (b : Option Begun) (x : code.Name) (ps : List Pattern) (right : RightSide) (yes_is : Bool)
    → is_of_function b (name_meaning w.names x) (patterns_meaning w.names ps) ≡ yes_is
    → (if is_of_function b (name_meaning w.names x) (patterns_meaning w.names ps) then [] else bound (At (position_of x.place)) (right_form w local right) ∷ [])
    ≡ (if yes_is then [] else bound (At (position_of x.place)) (right_form w local right) ∷ [])
rule_if w local b x ps right yes_is e = ap (λ (c : Bool). if c then [] else bound (At (position_of x.place)) (right_form w local right) ∷ []) e

-- one more definition
pub one_more : (before after : List Bound) (b : Bound) (m : blocks.Bound) → after ≡ before ++ b ∷ [] → bound_meaning b ≡ m → bounds_meaning after ≡ bounds_meaning before ++ m ∷ []
one_more before after b m pushed is =
    ap bounds_meaning pushed ∙ map-append bound_meaning before (b ∷ []) ∙ ap (λ c. bounds_meaning before ++ c ∷ []) is

abbrev pub at_place : Position → LocalTerm → Bound
at_place p t = record { variable = binder.At p; definition = t }

abbrev pub whole_at : Position → LocalTerm → Bound
whole_at p t = record { variable = binder.Whole p; definition = t }

pub bound_at : (w : Setting) (local : Scope) (x : code.Name) (right : RightSide) (p : Position) (t : LocalTerm) → position_meaning p ≡ position_of x.place → local_term_of t ≡ right_form w local right
    → bound_meaning (at_place p t) ≡ bound (At (position_of x.place)) (right_form w local right)
bound_at w local x right p t at is = ap₂ (λ q u. bound (At q) u) at is

pub bound_whole : (w : Setting) (local : Scope) (p : Pattern) (right : RightSide) (q : Position) (t : LocalTerm) → position_meaning q ≡ pattern_position (pattern_meaning w.names p)
    → local_term_of t ≡ right_form w local right → bound_meaning (whole_at q t) ≡ bound (Whole (pattern_position (pattern_meaning w.names p))) (right_form w local right)
bound_whole w local p right q t at is = ap₂ (λ r u. bound (Whole r) u) at is

-- a rule of a function, or of a variable
pub rule_defines : (w : Setting) (local : Scope) → AllDiffer w.names → (b : Option begun.Begun) (next : begun.Begun) (d : Declaration) (v : DeclarationNode) (at : Place) (x : code.Name) (ps : Vec Pattern Global)
    (right : RightSide) (c : Bool) (before after : List Bound) → declaration_node w.names v ≡ declaration_meaning w.names d → v ≡ node.FunctionRule at x ps right → BegunIsKnown w b → NameIsOf w.owner w.names x
    → is_function_rule b x.text ps.items ≡ c → next ≡ begun_for b x at
    → bounds_meaning after ≡ bounds_meaning before ++ (if c then [] else bound (At (position_of x.place)) (right_form w local right) ∷ []) → Defines w local b d before after (Some next)
rule_defines w local differ b next d v at x ps right c before after meaning is known of which next_is added =
    let goes = begun_texts (text w.owner w.names differ) b x at known of in
    defines w local b (Some next) d v (node.FunctionRule at x ps right) before after meaning is
    (added ∙ ap (λ bs. bounds_meaning before ++ bs) (sym (rule_if w local (begun_of w b) x ps.items right c (sym (function_rule_texts w differ b x ps.items known of) ∙ which))))
    (ap (λ (n : begun.Begun). Some (function_meaning w.names n)) next_is ∙ ap Some goes.meaning) (subst (λ (n : begun.Begun). IsKnown w.names n.name) (sym next_is) goes.known)

-- a pattern, and the variables that are selected from its whole value
pub binding_defines : (w : Setting) (local : Scope) (b : Option begun.Begun) (d : Declaration) (v : DeclarationNode) (at : Place) (p : Pattern) (right : RightSide) (q : Position) (t : LocalTerm)
    (before pushed after : List Bound) → declaration_node w.names v ≡ declaration_meaning w.names d → v ≡ node.PatternBinding at p right → pushed ≡ before ++ whole_at q t ∷ []
    → position_meaning q ≡ pattern_position (pattern_meaning w.names p) → local_term_of t ≡ right_form w local right → bounds_meaning after ≡ bounds_meaning pushed ++ selections_form w p
    → Defines w local b d before after None
binding_defines w local b d v at p right q t before pushed after meaning is added_one place same added =
    let m = bound (Whole (pattern_position (pattern_meaning w.names p))) (right_form w local right) in
    defines w local b None d v (node.PatternBinding at p right) before after meaning is
    (added ∙ ap (λ bs. bs ++ selections_form w p) (one_more before pushed (whole_at q t) m added_one (bound_whole w local p right q t place same))
    ∙ append_assoc (bounds_meaning before) (m ∷ []) (selections_form w p))
    refl tt

-- ---- several declarations

-- Definitions of the first of some declarations: with those of the others they are all.
pub record Defined (w : Setting) (local : Scope) (b : Option begun.Begun) (found : List Bound) (left all : List Declaration) : Type 0 where
  pub joins : bounds_meaning found ++ lets_after w local (begun_of w b) left ≡ lets_form w local all
  pub known : BegunIsKnown w b

lets_cons : (w : Setting) (local : Scope) (b : Option Begun) (d : Declaration) (ds : List Declaration)
    → lets_after w local b (d ∷ ds) ≡ let_form_of w local b d ++ lets_after w local (begun_in b (declaration_meaning w.names d)) ds
unfolding lets_after let_form_of
lets_cons w local b d ds = refl

lets_nil : (w : Setting) (local : Scope) (b : Option Begun) → lets_after w local b [] ≡ []
unfolding lets_after
lets_nil w local b = refl

lets_all : (w : Setting) (local : Scope) (ds : List Declaration) → lets_after w local None ds ≡ lets_form w local ds
unfolding lets_after lets_form
lets_all w local ds = refl

pub defined_none : (w : Setting) (local : Scope) (b : Option begun.Begun) (found : List Bound) (ds : List Declaration) → b ≡ None → found ≡ [] → Defined w local b found ds ds
defined_none w local b found ds none empty = record {
  joins = ap₂ (λ bs c. bounds_meaning bs ++ lets_after w local (begun_of w c) ds) empty none ∙ lets_all w local ds;
  known = subst (BegunIsKnown w) (sym none) tt;
}

pub defined_one : (w : Setting) (local : Scope) (b next : Option begun.Begun) (before after : List Bound) (ds : List Declaration) (i : ℕ) (d : Declaration) → d ≡ get_or ds i d → i < length ds
    → Defined w local b before (drop i ds) ds → Defines w local b d before after next → Defined w local next after (drop (i + 1) ds) ds
defined_one w local b next before after ds i d is within whole one = record {
  joins = ap₂ (λ bs c. bs ++ lets_after w local c (drop (i + 1) ds)) one.added one.next_is
      ∙ append_assoc (bounds_meaning before) (let_form_of w local (begun_of w b) d) (lets_after w local (begun_in (begun_of w b) (declaration_meaning w.names d)) (drop (i + 1) ds))
      ∙ ap (λ bs. bounds_meaning before ++ bs) (sym (ap (lets_after w local (begun_of w b)) (dropped ds i d is within) ∙ lets_cons w local (begun_of w b) d (drop (i + 1) ds)))
      ∙ whole.joins;
  known = one.known;
}

pub defined_all : (w : Setting) (local : Scope) (b : Option begun.Begun) (found : List Bound) (ds : List Declaration) (i : ℕ) → length ds ≤ i → Defined w local b found (drop i ds) ds
    → bounds_meaning found ≡ lets_form w local ds
defined_all w local b found ds i past whole =
    sym (append-nil (bounds_meaning found)) ∙ ap (λ bs. bounds_meaning found ++ bs) (sym (ap (lets_after w local (begun_of w b)) (drop_all i ds past) ∙ lets_nil w local (begun_of w b)))
    ∙ whole.joins
