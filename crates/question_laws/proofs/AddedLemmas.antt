-- What is asked is about the addition that the past names.
use Rattle.std.proofs.Common.{◌≡◌, List, sym, ap, subst, ◌∙◌, Some}
use Rattle.world_ports.specs.declared.Moment.{Moment}
use Rattle.dest_rule.specs.declared.binding.Binding.{Binding}
use Rattle.identity_table.specs.Identities.{HeldKey}
use Rattle.agent_model.specs.Actions.{Raised, Raising}
use Rattle.agent_model.specs.Events.{Timed}
use Rattle.agent_model.specs.Grants.{IsAmong}
use Rattle.agent_model.specs.Runs.{Stamped, run}
use Rattle.agent_model.specs.State.{Settings, State, first_state}
use Rattle.agent_model.specs.Step.{step}
use Rattle.agent_model.specs.Time.{at_moment}
use Rattle.agent_model.proofs.OnTimeLemmas.{at_moment-moment}
use Rattle.agent_model.proofs.TimeKeptLemmas.{keeps_time-handle}
use Rattle.agent_laws.specs.Dues.{proved_of}
use Rattle.agent_laws.proofs.HoldsLemmas.{Made, made_of}
use Rattle.list_laws.specs.Lists.{after, past_of, standing}
use Rattle.list_laws.proofs.ListLemmas.{Knows, held-stands}
use Rattle.list_laws.proofs.RunLemmas.{each-knows}
use Rattle.question_laws.specs.Questions.{AreAskedSo, IsAsked, IsAskedByThePast, IsFront, IsQuestion, question_by, question_for, taken_of}
use Rattle.question_laws.proofs.AskedLemmas.{each-asked}

each-by_the_past : (settings : Settings) (before later : List Timed) (one : Timed) (raising : Raising)
    → IsAmong (Raised raising) (step (run (first_state settings) before) one.moment one.event).actions
    → IsAskedByThePast settings before one later raising
each-by_the_past settings before later one raising among = record {
  added = made.past;
  stands = subst (λ (m : Moment). standing settings.life m.mono past raising.signing.blob ≡ Some made.past) (sym same_moment) made.now;
  addition = about.addition ∙ ap (λ (k : HeldKey). k.number) (sym made.is);
  taken = subst (IsFront (taken_of raising.job (after settings before one) later)) (about.is ∙ same_question) asked.taken;
}
  where
    opened : State
    opened = at_moment one.moment (run (first_state settings) before)

    past : List Stamped
    past = past_of settings before

    asked : IsAsked (run (first_state settings) before) one later raising
    asked = each-asked settings before later one raising among

    about : IsQuestion opened raising asked.question
    about = asked.about

    knows : Knows settings.life past opened
    knows = each-knows settings before one.moment

    made : Made settings.life (standing settings.life opened.moment.mono past raising.signing.blob) about.key
    made = made_of settings.life _ about.key (sym about.found ∙ held-stands settings.life past opened knows raising.signing.blob)

    -- the event keeps the moment
    same_moment : (after settings before one).moment ≡ opened.moment
    same_moment = (keeps_time-handle one.event opened).moment

    same_wall : opened.moment.wall ≡ one.moment.wall
    same_wall = ap (λ (m : Moment). m.wall) (at_moment-moment one.moment (run (first_state settings) before))

    same_question : question_for raising about.key about.port.chain opened.moment.wall ≡ question_by raising made.past (proved_of raising.port past) one.moment.wall
    same_question =
        ap (λ (k : HeldKey). question_for raising k about.port.chain opened.moment.wall) (sym made.is)
        ∙ ap (λ (c : List Binding). question_by raising made.past c opened.moment.wall) (sym (knows.chains raising.port about.port about.asker))
        ∙ ap (question_by raising made.past (proved_of raising.port past)) same_wall

-- and so it is wherever in a run it is asked
pub asked-so : (settings : Settings) (events : List Timed) → AreAskedSo settings events
asked-so settings events = λ before later one raising split among. each-by_the_past settings before later one raising among
