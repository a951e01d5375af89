-- A command with some arguments, and the same with one more.
use Rattle.std.proofs.Common.{◌≡◌, ◌∙◌, ap₂, false, List, [], ◌∷◌, ◌++◌, ◌||◌}
use Rattle.clap.specs.Built.{AddsArg}
use Rattle.clap.specs.Simple.{App, app_of, new_shape, with_rule}
use Rattle.clap.specs.Walk.{Rule, Text, rule_of}
use Rattle.clap.specs.declared.builder.arg.Arg.{Arg}
use Rattle.clap.specs.declared.builder.command.Command.{Command}
use Rattle.clap.specs.declared.builder.command.Command.TheViews.{out-Command}

-- the command `name` with these arguments
abbrev pub app_with : Text → List Rule → App
app_with name rules = record { top = record (new_shape name) { rules = rules }; subs = [] }

pub record Made (name : Text) (rules : List Rule) (command : Command) : Type 0 where
  pub app : app_of command ≡ app_with name rules
  pub local : (out-Command command).has_globals ≡ false

pub more : {name : Text} {rules : List Rule} {old new : Command} (rule : Rule) (arg : Arg) → Made name rules old
    → rule_of arg ≡ rule → arg.global ≡ false → AddsArg old arg new → Made name (rules ++ rule ∷ []) new
more rule arg made is local adds = record {
  app = adds.shape local ∙ ap₂ with_rule made.app is;
  local = adds.globals ∙ ap₂ (λ a b. a || b) made.local local;
}
