use Rattle.std.proofs.Common.{◌≡◌, ◌≤◌, [], ◌∷◌, ℕ, Some, slice_get, take, true}
use Rattle.cu_lift.specs.Groups.{IsIn}
use Rattle.cu_lift.specs.Inside.Capturing.{Spreads, Stays, left}
use Rattle.cu_lift.specs.declared.captures.Local.{Local}
use Rattle.cu_lift.proofs.captures.Spreading.widen.Given as goal

-- the first users are met, but those that bind the variable
abbrev pub invariant-loop-user : goal.invariant-loop-user
invariant-loop-user l = record {
  spreads : Spreads l.locals l.x (l.callee ∷ []) l.self;
  stays : Stays l.fn.self l.self;
  left : left l.self ≤ left l.fn.self;
  done : (k : ℕ) (local : Local) → IsIn (take l.user-index l.row) k → slice_get l.locals k ≡ Some local
      → (IsIn local.binds.keys l.x → ⊥) → slice_get l.self.met.items k ≡ Some true;
}
