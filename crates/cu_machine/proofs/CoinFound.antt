-- The search for all values of the coin: three levels, and an empty one.
use Rattle.std.proofs.Common.{◌≡◌, ℕ, zero, suc, List, [], ◌∷◌, IsTrue, refl, ap, map, arith}
use Rattle.std.specs.List.{list_all}
use Rattle.cu_calculus.specs.Value.{NoValue}
use Rattle.cu_machine.specs.declared.Limits.{Limits}
use Rattle.cu_machine.specs.Build.{build_within}
use Rattle.cu_machine.specs.Coin.{coin_code, coin_function, number, small_limits}
use Rattle.cu_machine.specs.Found.{Found, inner_events, is_quiet}
use Rattle.cu_machine.specs.Graph.{head_within}
use Rattle.cu_machine.specs.Level.{level_by, step_level}
use Rattle.cu_machine.specs.Need.{need_within}
use Rattle.cu_machine.specs.Next.{next}
use Rattle.cu_machine.specs.Spell.{spelled_within}
use Rattle.cu_machine.specs.State.{State, call_on}
use Rattle.cu_machine.proofs.Rounds.{level_stays_empty}

pub last_level : step_level coin_code (small_limits 10 1).step (call_on coin_code coin_function NoValue) 3 ≡ []
unfolding build_within head_within level_by need_within next spelled_within
last_level = refl

pub coin_quiet : (k : ℕ) → IsTrue (list_all is_quiet (inner_events coin_code (small_limits 10 1).step coin_function NoValue k))
unfolding build_within head_within level_by need_within next spelled_within
coin_quiet zero = refl
coin_quiet (suc zero) = refl
coin_quiet (suc (suc zero)) = refl
coin_quiet (suc (suc (suc k))) =
    let limits : Limits = (small_limits 10 1).step in
    let none_left : step_level coin_code limits (call_on coin_code coin_function NoValue) (suc (suc (suc k))) ≡ [] =
    level_stays_empty (next coin_code limits) (call_on coin_code coin_function NoValue) 3 (suc (suc (suc k))) (omega arith) last_level in
    ap (λ (states : List State). list_all is_quiet (map (next coin_code limits) states)) none_left

pub coin_found : Found coin_code (small_limits 10 1).step coin_function NoValue (number 0 ∷ number 1 ∷ [])
unfolding build_within head_within level_by need_within next spelled_within
coin_found = record {
  whole = refl;
  built = refl;
  depth = 3;
  ended = last_level;
  quiet = coin_quiet;
  collected = refl;
}
