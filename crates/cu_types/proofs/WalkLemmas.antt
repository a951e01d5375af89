-- Reading equations off patterns and terms.
use Rattle.std.proofs.Common.{◌≡◌, ℕ, ◌+◌, List, [], ◌∷◌, length, reverse, refl, sym, ap, ◌∙◌, subst, arith}
use Rattle.cu_calculus.specs.Term as clean
use Rattle.cu_calculus.specs.Valid.{pattern_count, term_count, variables_of}
use Rattle.cu_calculus.specs.declared.FunId.{FunId}
use Rattle.cu_calculus.specs.declared.ConId.{ConId}
use Rattle.cu_calculus.specs.declared.Head.TheVariants as head
use Rattle.cu_calculus.specs.declared.Head.{Head}
use Rattle.cu_kernel.specs.TypeExpr as type
use Rattle.cu_kernel.specs.TypeExpr.{TypeExpr}
use Rattle.cu_kernel.specs.TermsOf.{patterns_of, terms_of}
use Rattle.cu_kernel.specs.declared.term.Pattern.{Pattern}
use Rattle.cu_kernel.specs.declared.term.Term.{Term}
use Rattle.cu_types.proofs.AskingLemmas.{added_stands, same_table, stood}
use Rattle.cu_types.proofs.Environments.{restored}
use Rattle.cu_types.specs.Equations.{Asked, Environment, Assumptions, Scheme, asking, bind, bind_from, call_asks, head_asks, pattern_asks, patterns_ask, scheme_asks, set_asks, taking, term_asks, terms_ask}
use Rattle.cu_types.specs.BuiltInTypes.{arrows, variables_from}
use Rattle.cu_types.specs.Inside.Knowing.{values_at}
use Rattle.cu_types.specs.Inside.Reading.{IsReader, shapes}
use Rattle.cu_types.specs.Table.{at, trees}
use Rattle.cu_types.specs.Inside.Asking.{Adds, Asks, IsAsking, StandsAt}
use Rattle.cu_types.specs.Inside.Walking.{Walks, alternative_asks, application_asks, heads, scope}
use Rattle.cu_types.specs.Inside.Knowing.{assumptions_by}
use Rattle.cu_types.specs.Inside.Variables.{environment, undone}
use Rattle.cu_types.specs.declared.asking.Asking.{Asking}
use Rattle.cu_types.specs.declared.variables.Binding.{Binding}
use Rattle.cu_types.specs.declared.variables.Variables.{Variables}
use Rattle.cu_types.specs.declared.walk.Walk.{Walk}

pub patterns_counted : (ps : List Pattern) → pattern_count (patterns_of ps) ≡ length ps
patterns_counted [] = refl
patterns_counted (p ∷ ps) = let rest = patterns_counted ps in omega (arith, rest)

-- a constructor and its arguments
pub built_walks : (a : Walk) (taken : Asking) (c d : Walk) (k : ConId) (ps : clean.Patterns) (p : clean.Pattern) (first count t : ℕ)
    → p ≡ clean.Built k ps → first ≡ a.asking.next → count ≡ pattern_count ps → Asks a.asking taken (taking count)
    → Walks (record { alloc = a.alloc; signing = a.signing; variables = a.variables; asking = taken }) c
    (call_asks (heads a) (head.Con k) first count t)
    → Walks c d (patterns_ask (heads c) (scope c) first ps) → Walks a d (pattern_asks (heads a) (scope a) t p)
built_walks a taken c d k ps p first count t is at_first counted takes call rest = record {
  reader = rest.reader;
  asked = λ asked was.
      let base : Asked = call_asks (heads a) (head.Con k) first count t (taking count asked) in
      let reached = rest.asked base (call.asked (taking count asked) (takes.asked asked was)) in
      let same_heads : heads c ≡ heads a = ap assumptions_by call.heads in
      let next : first ≡ asked.next = at_first ∙ was.next in
      subst (IsAsking d.asking)
      (ap (λ (h : Assumptions). patterns_ask h (scope c) first ps base) same_heads
      ∙ ap (λ (e : Environment). patterns_ask (heads a) e first ps base) call.scope
      ∙ ap (λ (n : ℕ). patterns_ask (heads a) (scope a) n ps (call_asks (heads a) (head.Con k) n count t (taking count asked))) next
      ∙ ap (λ (n : ℕ). patterns_ask (heads a) (scope a) asked.next ps (call_asks (heads a) (head.Con k) asked.next n t (taking n asked))) counted
      ∙ sym (ap (λ (q : clean.Pattern). pattern_asks (heads a) (scope a) t q asked) is))
      reached;
  heads = rest.heads ∙ call.heads;
  scope = rest.scope ∙ call.scope;
}

-- ---- terms

pub terms_counted : (ts : List Term) → term_count (terms_of ts) ≡ length ts
terms_counted [] = refl
terms_counted (t ∷ ts) = let rest = terms_counted ts in omega (arith, rest)

-- a head and its arguments
pub applied_walks : (a : Walk) (taken : Asking) (c d : Walk) (h : Head) (ts : clean.Terms) (first count t : ℕ)
    → first ≡ a.asking.next → count ≡ term_count ts → Asks a.asking taken (taking count)
    → Walks (record { alloc = a.alloc; signing = a.signing; variables = a.variables; asking = taken }) c (call_asks (heads a) h first count t)
    → Walks c d (terms_ask (heads c) (scope c) first ts) → Walks a d (application_asks (heads a) (scope a) t h ts)
applied_walks a taken c d h ts first count t at_first counted takes call rest = record {
  reader = rest.reader;
  asked = λ asked was.
      let base : Asked = call_asks (heads a) h first count t (taking count asked) in
      let reached = rest.asked base (call.asked (taking count asked) (takes.asked asked was)) in
      let same_heads : heads c ≡ heads a = ap assumptions_by call.heads in
      let next : first ≡ asked.next = at_first ∙ was.next in
      subst (IsAsking d.asking)
      (ap (λ (k : Assumptions). terms_ask k (scope c) first ts base) same_heads
      ∙ ap (λ (e : Environment). terms_ask (heads a) e first ts base) call.scope
      ∙ ap (λ (n : ℕ). terms_ask (heads a) (scope a) n ts (call_asks (heads a) h n count t (taking count asked))) next
      ∙ ap (λ (n : ℕ). terms_ask (heads a) (scope a) asked.next ts (call_asks (heads a) h asked.next n t (taking n asked))) counted)
      reached;
  heads = rest.heads ∙ call.heads;
  scope = rest.scope ∙ call.scope;
}

-- a term in which a variable is bound
pub scoped_walks : (a : Walk) (inner : Variables) (b : Walk) (outer : Variables) (x own before t : ℕ) (body : clean.Term)
    → environment inner ≡ bind (scope a) x own → before ≡ scope a x
    → Walks (record { alloc = a.alloc; signing = a.signing; variables = inner; asking = a.asking }) b
    (term_asks (heads a) (environment inner) t body)
    → environment outer ≡ bind (scope b) x before
    → Walks a (record { alloc = b.alloc; signing = b.signing; variables = outer; asking = b.asking })
    (term_asks (heads a) (bind (scope a) x own) t body)
scoped_walks a inner b outer x own before t body bound was walks again = record {
  reader = walks.reader;
  asked = λ asked is.
      subst (IsAsking b.asking) (ap (λ (e : Environment). term_asks (heads a) e t body asked) bound)
      (walks.asked asked (record { next = is.next; stand = is.stand }));
  heads = walks.heads;
  scope = again ∙ ap (λ (e : Environment). bind e x before) (walks.scope ∙ bound)
      ∙ ap (bind (bind (scope a) x own) x) was ∙ restored (scope a) x own;
}

-- a free variable
pub free_walks : (a : Walk) (taken : Asking) (d : Walk) (x first t : ℕ) (body whole : clean.Term) → whole ≡ clean.Free x body
    → first ≡ a.asking.next → Asks a.asking taken (taking 1)
    → Walks (record { alloc = a.alloc; signing = a.signing; variables = a.variables; asking = taken }) d
    (term_asks (heads a) (bind (scope a) x first) t body)
    → Walks a d (term_asks (heads a) (scope a) t whole)
free_walks a taken d x first t body whole is at_first takes walks = record {
  reader = walks.reader;
  asked = λ asked was.
      subst (IsAsking d.asking)
      (ap (λ (n : ℕ). term_asks (heads a) (bind (scope a) x n) t body (taking 1 asked)) (at_first ∙ was.next)
      ∙ sym (ap (λ (u : clean.Term). term_asks (heads a) (scope a) t u asked) is))
      (walks.asked (taking 1 asked) (takes.asked asked was));
  heads = walks.heads;
  scope = walks.scope;
}

-- a variable that stands for a term
pub let_walks : (a : Walk) (taken : Asking) (b d : Walk) (x first t : ℕ) (value body whole : clean.Term) → whole ≡ clean.Let x value body
    → first ≡ a.asking.next → Asks a.asking taken (taking 1)
    → Walks (record { alloc = a.alloc; signing = a.signing; variables = a.variables; asking = taken }) b
    (term_asks (heads a) (scope a) first value)
    → Walks b d (term_asks (heads b) (bind (scope b) x first) t body)
    → Walks a d (term_asks (heads a) (scope a) t whole)
let_walks a taken b d x first t value body whole is at_first takes one two = record {
  reader = two.reader;
  asked = λ asked was.
      let base : Asked = term_asks (heads a) (scope a) first value (taking 1 asked) in
      let same_heads : heads b ≡ heads a = ap assumptions_by one.heads in
      subst (IsAsking d.asking)
      (ap (λ (k : Assumptions). term_asks k (bind (scope b) x first) t body base) same_heads
      ∙ ap (λ (e : Environment). term_asks (heads a) (bind e x first) t body base) one.scope
      ∙ ap (λ (n : ℕ). term_asks (heads a) (bind (scope a) x n) t body (term_asks (heads a) (scope a) n value (taking 1 asked)))
      (at_first ∙ was.next)
      ∙ sym (ap (λ (u : clean.Term). term_asks (heads a) (scope a) t u asked) is))
      (two.asked base (one.asked (taking 1 asked) (takes.asked asked was)));
  heads = two.heads ∙ one.heads;
  scope = two.scope ∙ one.scope;
}

-- what a term gives on another one
pub apply_walks : (a : Walk) (taken filled : Asking) (b d : Walk) (first second t : ℕ) (f x : clean.Term)
    → first ≡ a.asking.next → second ≡ first + 1 → Asks a.asking taken (taking 2)
    → Asks taken filled (asking (type.Arrow (type.Variable first) (type.Variable t)) (type.Variable second))
    → Walks (record { alloc = a.alloc; signing = a.signing; variables = a.variables; asking = filled }) b
    (term_asks (heads a) (scope a) second f)
    → Walks b d (term_asks (heads b) (scope b) first x)
    → Walks a d (term_asks (heads a) (scope a) t (clean.Apply f x))
apply_walks a taken filled b d first second t f x at_first at_second takes fills one two = record {
  reader = two.reader;
  asked = λ asked was.
      let arrow : ℕ → ℕ → Asked = λ n m. asking (type.Arrow (type.Variable n) (type.Variable t)) (type.Variable m) (taking 2 asked) in
      let base : Asked = term_asks (heads a) (scope a) second f (arrow first second) in
      let same_heads : heads b ≡ heads a = ap assumptions_by one.heads in
      subst (IsAsking d.asking)
      (ap (λ (k : Assumptions). term_asks k (scope b) first x base) same_heads
      ∙ ap (λ (e : Environment). term_asks (heads a) e first x base) one.scope
      ∙ ap (λ (m : ℕ). term_asks (heads a) (scope a) first x (term_asks (heads a) (scope a) m f (arrow first m))) at_second
      ∙ ap (λ (n : ℕ). term_asks (heads a) (scope a) n x (term_asks (heads a) (scope a) (n + 1) f (arrow n (n + 1)))) (at_first ∙ was.next))
      (two.asked base (one.asked (arrow first second) (fills.asked (taking 2 asked) (takes.asked asked was))));
  heads = two.heads ∙ one.heads;
  scope = two.scope ∙ one.scope;
}

-- ---- heads

-- the walk with other equations
abbrev pub with_asking : Walk → Asking → Walk
with_asking a asking = record { alloc = a.alloc; signing = a.signing; variables = a.variables; asking = asking }

-- equations that a head asks for
pub scheme_walks : (a : Walk) (b : Asking) (h : Head) (s σ : Scheme) (t : TypeExpr) → s ≡ σ → Asks a.asking b (scheme_asks s t)
    → head_asks (heads a) h t ≡ scheme_asks σ t → Walks a (with_asking a b) (head_asks (heads a) h t)
scheme_walks a b h s σ t same asks is = record {
  reader = asks.reader;
  asked = λ asked was.
      subst (IsAsking b) (ap (λ (x : Scheme). scheme_asks x t asked) same ∙ sym (ap (λ (f : Asked → Asked). f asked) is)) (asks.asked asked was);
  heads = refl;
  scope = refl;
}

-- a head with arguments that it takes
pub call_walks : (a : Walk) (b c : Asking) (d : Walk) (h : Head) (first count t right whole : ℕ)
    → Adds a.asking b (type.Variable t) right
    → Adds b c (arrows (variables_from first count) (at (trees (shapes b.reader)) right)) whole
    → ((u : TypeExpr) → StandsAt c whole u → Walks (with_asking a c) d (head_asks (heads a) h u))
    → Walks a d (call_asks (heads a) h first count t)
call_walks a b c d h first count t right whole one two walks =
    let w : Walks (with_asking a c) d (head_asks (heads a) h (arrows (variables_from first count) (type.Variable t))) =
    walks (arrows (variables_from first count) (type.Variable t))
    (subst (StandsAt c whole) (ap (arrows (variables_from first count)) one.reads.value)
    (added_stands b c (arrows (variables_from first count) (at (trees (shapes b.reader)) right)) whole two)) in
    record {
      reader = w.reader;
      asked = λ asked was. w.asked asked (two.asked asked (one.asked asked was));
      heads = w.heads;
      scope = w.scope;
    }

-- a set function
pub set_walks : (a : Walk) (b c d e f g k : Asking) (function : FunId) (s : Scheme) (t : TypeExpr) (arity count first last right given left whole own : ℕ)
    → arity ≡ (heads a).arity function → count ≡ arity + 1 → last ≡ first + arity → first ≡ a.asking.next → b.reader ≡ a.asking.reader
    → Asks a.asking b (taking count) → Adds b c (type.Variable last) right
    → Adds c d (values_at a.signing.values (at (trees (shapes c.reader)) right)) given
    → Adds d e (arrows (variables_from first arity) (at (trees (shapes d.reader)) given)) left → f.reader ≡ e.reader
    → ((x y : TypeExpr) → IsReader e.reader → StandsAt e left x → StandsAt e whole y → Asks e f (asking x y))
    → Adds f g (arrows (variables_from first arity) (at (trees (shapes f.reader)) right)) own
    → s ≡ (heads a).function function → ((u : TypeExpr) → StandsAt g own u → Asks g k (scheme_asks s u)) → StandsAt a.asking whole t
    → Walks a (with_asking a k) (set_asks (heads a) function t)
set_walks a b c d e f g k function s t arity count first last right given left whole own at_arity counted at_last at_first same takes one two three
    same_f asks four is_scheme asks_own at_whole =
    let vs : List TypeExpr = variables_from first arity in
    let result : TypeExpr = type.Variable last in
    let right_c : StandsAt c right result = added_stands b c result right one in
    let given_d : StandsAt d given (values_at a.signing.values result) =
    subst (StandsAt d given) (ap (values_at a.signing.values) one.reads.value)
    (added_stands c d (values_at a.signing.values (at (trees (shapes c.reader)) right)) given two) in
    let left_e : StandsAt e left (arrows vs (values_at a.signing.values result)) =
    subst (StandsAt e left) (ap (arrows vs) given_d.value)
    (added_stands d e (arrows vs (at (trees (shapes d.reader)) given)) left three) in
    let right_d : StandsAt d right result = stood c d (values_at a.signing.values (at (trees (shapes c.reader)) right)) result given right two right_c in
    let right_e : StandsAt e right result = stood d e (arrows vs (at (trees (shapes d.reader)) given)) result left right three right_d in
    let right_f : StandsAt f right result = same_table e f result right same_f right_e in
    let whole_c : StandsAt c whole t = stood b c result t right whole one (same_table a.asking b t whole same at_whole) in
    let whole_e : StandsAt e whole t =
    stood d e (arrows vs (at (trees (shapes d.reader)) given)) t left whole three
    (stood c d (values_at a.signing.values (at (trees (shapes c.reader)) right)) t given whole two whole_c) in
    let first_asks : Asks e f (asking (arrows vs (values_at a.signing.values result)) t) =
    asks (arrows vs (values_at a.signing.values result)) t three.reader left_e whole_e in
    let own_g : StandsAt g own (arrows vs result) =
    subst (StandsAt g own) (ap (arrows vs) right_f.value) (added_stands f g (arrows vs (at (trees (shapes f.reader)) right)) own four) in
    let second_asks : Asks g k (scheme_asks s (arrows vs result)) = asks_own (arrows vs result) own_g in
    let whole_of : ℕ → ℕ → ℕ → ℕ → Scheme → Asked → Asked = λ n m l r σ asked.
    scheme_asks σ (arrows (variables_from n m) (type.Variable l))
    (asking (arrows (variables_from n m) (values_at a.signing.values (type.Variable l))) t (taking r asked)) in
    record {
      reader = second_asks.reader;
      asked = λ asked was.
          let n : first ≡ asked.next = at_first ∙ was.next in
          let base : Asked = taking count asked in
          let is_e : IsAsking e base = three.asked base (two.asked base (one.asked base (takes.asked asked was))) in
          let done : IsAsking k (whole_of first arity last count s asked) =
          second_asks.asked (asking (arrows vs (values_at a.signing.values result)) t base) (four.asked
          (asking (arrows vs (values_at a.signing.values result)) t base) (first_asks.asked base is_e)) in
          subst (IsAsking k)
          (ap (λ l. whole_of first arity l count s asked) at_last
          ∙ ap (λ r. whole_of first arity (first + arity) r s asked) counted
          ∙ ap (λ n. whole_of n arity (n + arity) (arity + 1) s asked) n
          ∙ ap (λ m. whole_of asked.next m (asked.next + m) (m + 1) s asked) at_arity
          ∙ ap (λ (σ : Scheme). whole_of asked.next ((heads a).arity function) (asked.next + (heads a).arity function)
          ((heads a).arity function + 1) σ asked) is_scheme)
          done;
      heads = refl;
      scope = refl;
    }

-- ---- alternatives

pub alternative_walks : (a : Walk) (taken : Asking) (bound : Variables) (b c : Walk) (after : Variables) (xs : List ℕ) (bs : List Binding)
    (p : clean.Pattern) (u : clean.Term) (s t first count : ℕ) → xs ≡ variables_of p → count ≡ length xs → first ≡ a.asking.next
    → Asks a.asking taken (taking count) → environment bound ≡ bind_from (scope a) first xs → undone (reverse bs) (environment bound) ≡ scope a
    → Walks (record { alloc = a.alloc; signing = a.signing; variables = bound; asking = taken }) b (pattern_asks (heads a) (environment bound) s p)
    → Walks b c (term_asks (heads b) (scope b) t u) → environment after ≡ undone (reverse bs) (scope c)
    → Walks a (record { alloc = c.alloc; signing = c.signing; variables = after; asking = c.asking }) (alternative_asks (heads a) (scope a) s t p u)
alternative_walks a taken bound b c after xs bs p u s t first count is counted at_first takes binds undoes one two again = record {
  reader = two.reader;
  asked = λ asked was.
      let n : first ≡ asked.next = at_first ∙ was.next in
      let base : Asked = pattern_asks (heads a) (environment bound) s p (taking count asked) in
      let same_heads : heads b ≡ heads a = ap assumptions_by one.heads in
      let inner : environment bound ≡ bind_from (scope a) asked.next (variables_of p) =
      binds ∙ ap (λ m. bind_from (scope a) m xs) n ∙ ap (bind_from (scope a) asked.next) is in
      subst (IsAsking c.asking)
      (ap (λ (h : Assumptions). term_asks h (scope b) t u base) same_heads
      ∙ ap (λ (e : Environment). term_asks (heads a) e t u base) one.scope
      ∙ ap (λ (e : Environment). term_asks (heads a) e t u (pattern_asks (heads a) e s p (taking count asked))) inner
      ∙ ap (λ m. term_asks (heads a) (bind_from (scope a) asked.next (variables_of p)) t u
      (pattern_asks (heads a) (bind_from (scope a) asked.next (variables_of p)) s p (taking m asked))) (counted ∙ ap length is))
      (two.asked base (one.asked (taking count asked) (takes.asked asked was)));
  heads = two.heads ∙ one.heads;
  scope = again ∙ ap (undone (reverse bs)) (two.scope ∙ one.scope) ∙ undoes;
}
