-- What an event puts, by the asks before and behind it (ours).
use Rattle.std.specs.Prelude.{◌≡◌, ℕ, ◌==◌, List, [], ◌∷◌, Option, None, Some, if◌then◌else◌}
use Rattle.world_ports.specs.declared.Moment.{Moment}
use Rattle.helper_link.specs.HelperLink.{HelperLink, newest}
use Rattle.helper_link.specs.declared.ask.Ask.{Ask}
use Rattle.helper_link.specs.declared.ask.AskKind.{AskKind}
use Rattle.helper_link.specs.declared.ask.AskKind.TheVariants.{Signing, Verifying}
use Rattle.agent_model.specs.Events.{Happening}
use Rattle.agent_model.specs.State.{State}
use Rattle.agent_model.specs.Step.{step}
use Rattle.audit_core.specs.Puts.{puts_by}
use Rattle.audit_core.specs.declared.put.Put.{Put}

-- an ask of this kind as a signing request that is put at a line: one for a verification is none
abbrev pub put_as : ℕ → Ask → AskKind → List Put
put_as line ask Signing =
    record { line = line; ask = ask.number; port = ask.asker; blob = ask.blob } ∷ []
put_as line ask Verifying = []

-- an ask, where there is one
abbrev pub put_if : ℕ → Option Ask → List Put
put_if line None = []
put_if line (Some ask) = put_as line ask ask.kind

-- the newest ask of a link, where its number isn't the one of the last ask before
abbrev pub put_since : ℕ → ℕ → HelperLink → List Put
put_since line before link = if before == link.last then [] else put_if line (newest link.asks)

-- an event puts what is the newest unanswered ask behind it, where that wasn't put before, and nothing else
abbrev pub PutsItsNewest : State → Moment → Happening → Type 0
PutsItsNewest state moment event = (line : ℕ) → puts_by line (step state moment event).actions
    ≡ put_since line state.under_way.link.last (step state moment event).state.under_way.link
