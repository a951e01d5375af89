-- Modules that a root reaches, of which nothing is refused, are such as a program of them declares
-- its types as inference asks.
use Rattle.std.specs.Prelude.{◌≡◌, ◌<◌, ◌≤◌, ℕ, suc, List, [], ◌∷◌, codes, length, Option, Some, Ok, if◌then◌else◌, refl}
use Rattle.std.proofs.Common.{ap, arith, inl, inr, subst, sym, ◌∙◌}
use Rattle.std.proofs.lemmas.Bool.{and_from}
use Rattle.std.proofs.lemmas.List.Elements.{All-head}
use Rattle.std.proofs.lemmas.Option.{slice_get-get_or}
use Rattle.std.proofs.lemmas.Slice.Eq.{bytes_eq-Decides}
use Rattle.std.specs.List.{flat_map}
use Rattle.std.specs.Str.{bytes_eq}
use Rattle.cu_prelude.specs.BuiltIn.{built_in}
use Rattle.cu_prelude.specs.declared.prelude.TheConstants.{PRELUDE}
use Rattle.cu_syntax.specs.Syntax as syntax
use Rattle.cu_syntax.specs.Syntax.{Item}
use Rattle.cu_uses.specs.Binders as binders
use Rattle.cu_uses.specs.Binders.{is_among, repeated}
use Rattle.cu_modules.specs.BuiltInEntities.{prelude_name}
use Rattle.cu_modules.specs.Means.{AreScoped}
use Rattle.cu_modules.specs.Ordering.{IsOwn}
use Rattle.cu_modules.specs.Scopes.{Named}
use Rattle.cu_modules.specs.Walk.{Walk}
use Rattle.cu_declared.specs.Parameters.{all_parameters, number_at, parameters_by, parameters_in}
use Rattle.cu_declared.specs.TypeFaults.{AreRight}
use Rattle.cu_translation.specs.ModuleNames.{module_at, no_module}
use Rattle.cu_front_laws.proofs.Members.{Every, In, every_at, every_weaker}
use Rattle.cu_front_laws.proofs.NarrowTexts.{NarrowItem, Unsigned}
use Rattle.cu_front_laws.proofs.ReadModules.{ItemIsRight, ModuleIsRight, text_right}
use Rattle.cu_front_laws.proofs.ScopedUses.{declares_once, scoped_at}
use Rattle.cu_front_laws.proofs.TruthValues.{HasTruth, IsTruth, prelude_truth}
use Rattle.cu_front_laws.proofs.TypeArities.{DeclaresOnce, prefix_number, number_append, or_else}
use Rattle.cu_front_laws.proofs.WalkedModules.{AreWalked, IsText, first_prelude, walked}
use Rattle.cu_front_laws.proofs.WholePrograms.{AreAccepted}

-- ---- truth values

-- What is declared once, without parameters, has none.
truth_number : (o : List ℕ) (items : List Item) (seen : List (List ℕ)) → repeated seen (flat_map binders.types_by items) ≡ [] → (i : Item)
    → In i items → IsTruth i
    → number_at (flat_map (parameters_by o) items) o (codes "Bool") ≡ Some 0
truth_number o [] seen once i h is = absurd h
truth_number o (syntax.Data at name ps cs ∷ items) seen once i (inl e) is =
    let here : (name.text ≡ codes "Bool") × (ps ≡ []) = subst IsTruth e is in
    ap (λ b. if b then Some (length ps) else number_at (flat_map (parameters_by o) items) o (codes "Bool"))
    (and_from (bytes_eq o o) (bytes_eq name.text (codes "Bool")) ((bytes_eq-Decides o o).1 refl)
    ((bytes_eq-Decides name.text (codes "Bool")).1 here.0))
    ∙ ap (λ n. Some n) (ap length here.1)
truth_number o (syntax.Synonym at name ps t ∷ items) seen once i (inl e) is = absurd (subst IsTruth e is)
truth_number o (syntax.ImportItem found ∷ items) seen once i (inl e) is = absurd (subst IsTruth e is)
truth_number o (syntax.Fixity at to level operators ∷ items) seen once i (inl e) is = absurd (subst IsTruth e is)
truth_number o (syntax.DeclarationItem d ∷ items) seen once i (inl e) is = absurd (subst IsTruth e is)
truth_number o (syntax.Data at name ps cs ∷ items) seen once i (inr h) is =
    prefix_number o (codes "Bool") name (length ps) 0 items seen once (λ seen once. truth_number o items seen once i h is)
truth_number o (syntax.Synonym at name ps t ∷ items) seen once i (inr h) is =
    prefix_number o (codes "Bool") name (length ps) 0 items seen once (λ seen once. truth_number o items seen once i h is)
truth_number o (syntax.ImportItem found ∷ items) seen once i (inr h) is = truth_number o items seen once i h is
truth_number o (syntax.Fixity at to level operators ∷ items) seen once i (inr h) is = truth_number o items seen once i h is
truth_number o (syntax.DeclarationItem d ∷ items) seen once i (inr h) is = truth_number o items seen once i h is

-- ---- all modules

-- modules of which nothing is refused, the Prelude first
pub record Accepted (modules : List Named) : Type 0 where
  pub first : Named
  pub others : List Named
  pub all : modules ≡ first ∷ others
  pub are : AreAccepted first others

module _ (held : List ℕ → Option (List ℕ)) (p : Named) (ms : List Named) (are : AreWalked held (p ∷ ms)) (scoped : AreScoped [] (p ∷ ms))
    (right : AreRight (p ∷ ms)) where
  called : p.name ≡ prelude_name
  called = first_prelude p ms are.ordered

  read : Every (λ (m : Named). ModuleIsRight m.syntax) (p ∷ ms)
  read = every_weaker IsText (λ (m : Named). ModuleIsRight m.syntax) (p ∷ ms) (λ m t. text_right m.name t.0 (Ok m.syntax) t.1) are.texts

  once : Every DeclaresOnce (p ∷ ms)
  once = every_indexed (p ∷ ms) (λ i h. declares_once _ (module_at (p ∷ ms) i) (scoped_at [] (p ∷ ms) scoped i h))
    where
      every_indexed : (xs : List Named) → ((i : ℕ) → i < length xs → DeclaresOnce (module_at xs i)) → Every DeclaresOnce xs
      every_indexed [] each = tt
      every_indexed (x ∷ xs) each = (each 0 (omega arith), every_indexed xs (λ i h. each (suc i) (omega arith)))

  built : built_in p.name ≡ Some PRELUDE.now
  built = ap built_in called

  truth : HasTruth p.syntax.items
  truth = prelude_truth p.name (Ok p.syntax) (All-head IsOwn p ms are.ordered.own PRELUDE.now built)

  bool : number_at (all_parameters (p ∷ ms)) prelude_name (codes "Bool") ≡ Some 0
  bool =
      number_append (parameters_in p) (flat_map parameters_in ms) prelude_name (codes "Bool")
      ∙ ap (λ o. or_else o (number_at (flat_map parameters_in ms) prelude_name (codes "Bool")))
      (ap (λ q. number_at (parameters_in p) q (codes "Bool")) (sym called) ∙ truth_number p.name p.syntax.items [] once.0 truth.0 truth.1 truth.2)

  accepted_first : AreAccepted p ms
  accepted_first = record {
    declared = record {
      first = called;
      differ = are.ordered.differ;
      once = once;
      unsigned = every_weaker ItemIsRight Unsigned p.syntax.items (λ i right. right.1) read.0;
    };
    scoped = scoped;
    right = right;
    narrow = λ i h. every_weaker ItemIsRight NarrowItem (module_at (p ∷ ms) i).syntax.items (λ j right. right.0) (read_at i h);
    bool = bool;
  }
    where
      read_at : (i : ℕ) → i ≤ length ms → ModuleIsRight (module_at (p ∷ ms) i).syntax
      read_at i h = every_at (λ (m : Named). ModuleIsRight m.syntax) (p ∷ ms) i (module_at (p ∷ ms) i) read
          (slice_get-get_or (p ∷ ms) i no_module (omega arith))

pub accepted : (held : List ℕ → Option (List ℕ)) (root : List ℕ) (modules : List Named) → Walk held root (Ok modules) → AreScoped [] modules
    → AreRight modules → Accepted modules
accepted held root [] walk scoped right = absurd ((walked held root (Ok []) walk).some refl)
accepted held root (p ∷ ms) walk scoped right =
    record { first = p; others = ms; all = refl; are = accepted_first held p ms (walked held root (Ok (p ∷ ms)) walk) scoped right }
