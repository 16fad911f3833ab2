-- Lemmas on the command that is built one argument after another, and on clap's refusals.
use Rattle.std.proofs.Common.{◌≡◌, false, [], ◌∷◌, ap, ◌∙◌, arith}
use Rattle.std.proofs.lemmas.Grind.{common_steps}
use Rattle.clap.specs.Built.{AddsArg}
use Rattle.clap.specs.Kinds.{IsAmong, Kinds}
use Rattle.clap.specs.Simple.{App, app_of, with_rule}
use Rattle.clap.specs.Walk.{Rule, is_empty, rule_of}
use Rattle.clap.specs.declared.builder.arg.Arg.{Arg}
use Rattle.clap.specs.declared.builder.command.Command.{Command}
use Rattle.clap.specs.declared.error.kind.ErrorKind.{ErrorKind}

-- a command with one argument more has its rule behind those of before
pub one_more : (old new : Command) (a : Arg) (app : App) (r : Rule) → AddsArg old a new → a.global ≡ false
    → app_of old ≡ app → rule_of a ≡ r → app_of new ≡ with_rule app r
one_more old new a app r adds local from is =
    adds.shape local ∙ (ap (λ x. with_rule x (rule_of a)) from ∙ ap (λ x. with_rule app x) is)

-- where a kind is among those of a refusal, there is one
pub is_empty-among : (kind : ErrorKind) (kinds : Kinds) → IsAmong kind kinds → is_empty kinds ≡ false
is_empty-among kind [] among = absurd among
is_empty-among kind (k ∷ ks) among = grind (arith, common_steps)
