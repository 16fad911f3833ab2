-- What the user's consent brings, and what it brings that a confirmation ends without it (ours).
use Rattle.std.specs.Prelude.{ℕ, List, [], ◌∷◌, ◌++◌, Option, Some, None}
use Rattle.lists.specs.Keyed.{find_by, remove_by}
use Rattle.agent_msg.specs.Requests.{Signing}
use Rattle.identity_table.specs.Identities.{HeldKey, find_number}
use Rattle.agent_model.specs.KeyStates.{after_use}
use Rattle.dest_rule.specs.declared.binding.Binding.{Binding}
use Rattle.confirm_desk.specs.Confirmations.{Confirmation, Consent, No, NotYet, Yes, consent, find_asker, told}
use Rattle.confirm_desk.specs.Confirmations as desk
use Rattle.agent_model.specs.Objections.{objection}
use Rattle.agent_model.specs.State.{Port, StartedJob, State, UnderWay, change_port, find_port, remove_port}
use Rattle.agent_model.specs.Verdicts.{Cause, NoLongerAllowed, NotConfirmed, Refuses, tell}
use Rattle.agent_model.specs.Actions.{Granted, Outcome, Over, Work, closing, settles, stay}
use Rattle.agent_model.specs.Errands.{Signs, put_ask}

-- ---- the end of a confirmation

-- the started job of this number
abbrev pub find_started : ℕ → List StartedJob → Option StartedJob
find_started number all = find_by (λ (one : StartedJob). one.job.number) number all

-- the started jobs but for the one of this number
abbrev pub remove_started : ℕ → List StartedJob → List StartedJob
remove_started number all = remove_by (λ (one : StartedJob). one.job.number) number all

-- what is under way without the confirmation of this job: no child process can name the job from
-- then on
abbrev pub without_confirmation : ℕ → UnderWay → UnderWay
without_confirmation job under_way = record under_way {
  started = remove_started job under_way.started;
  confirmations = desk.lose job under_way.confirmations;
}

-- the ports without that of a confirmation's child process, where that came
abbrev pub close_confirmer : Option ℕ → List Port → List Port
close_confirmer None ports = ports
close_confirmer (Some port) ports = remove_port port ports

-- the port that closes where a confirmation ends: that of its child process, where that came
abbrev pub confirmer_closes : Option ℕ → List Port → List ℕ
confirmer_closes None ports = []
confirmer_closes (Some port) ports = closing port ports []

-- a confirmation ends without consent: its child process's port is closed, and the client, where it
-- is open, is told
abbrev pub over : Confirmation → State → Outcome
over confirmation state = record {
  state = record state {
    ports = change_port confirmation.asker (tell (Refuses NotConfirmed))
        (close_confirmer confirmation.port state.ports);
    under_way = without_confirmation confirmation.job state.under_way;
  };
  actions = Over confirmation.job ∷ [];
  put = [];
  closes = confirmer_closes confirmation.port state.ports;
}

-- a confirmation ends without consent, where there is one
abbrev pub over_if : Option Confirmation → State → Outcome
over_if None state = stay state
over_if (Some confirmation) state = over confirmation state

-- ---- consent

-- what a confirmation's client asked to have signed with this key
abbrev pub signing_of : HeldKey → Confirmation → Signing
signing_of key confirmation =
    record { blob = key.blob; message = confirmation.message; flags = confirmation.flags }

-- what comes of a consent, by what the key's purposes and its destination constraints say by now
abbrev pub grant_unless : Option Cause → HeldKey → Confirmation → UnderWay → Work
grant_unless (Some cause) key confirmation under_way = settles (Refuses NoLongerAllowed) under_way
grant_unless None key confirmation under_way =
    put_ask (Signs key (signing_of key confirmation)) confirmation.asker under_way

-- what comes of a consent, by whether the agent is locked by now, and whether its addition is still held
abbrev pub grant_by : Option (List ℕ) → Option HeldKey → List Binding → Confirmation → ℕ → UnderWay → Work
grant_by None (Some key) chain confirmation wall under_way =
    grant_unless (objection key key.blob chain confirmation.message confirmation.flags wall) key confirmation
    under_way
grant_by lock found chain confirmation wall under_way = settles (Refuses NoLongerAllowed) under_way

-- what comes of the consent for a client with this chain: the agent, the key, its purposes and the destination
-- are tested again
abbrev pub grant_work : List Binding → Confirmation → State → Work
grant_work chain confirmation state =
    grant_by state.held.lock (find_number confirmation.addition state.held.table.identities) chain
    confirmation state.moment.wall (without_confirmation confirmation.job state.under_way)

-- the confirmation ends, its child process's port is closed, and the client gets what comes of it;
-- the identity that was used for it has a use less
abbrev pub grant_concluded : Work → Confirmation → State → Outcome
grant_concluded work confirmation state = record {
  state = record state {
    held = after_use work.used state.held;
    ports = change_port confirmation.asker (tell work.verdict)
        (close_confirmer confirmation.port state.ports);
    under_way = work.under_way;
  };
  actions = Granted confirmation.job ∷ work.actions;
  put = work.put;
  closes = confirmer_closes confirmation.port state.ports;
}

-- what a consent brings to the client that waits for it; that is always open
abbrev pub grant_to : Option Port → Confirmation → State → Outcome
grant_to None confirmation state = stay state
grant_to (Some port) confirmation state =
    grant_concluded (grant_work port.chain confirmation state) confirmation state

-- the user consents
abbrev pub grant : Confirmation → State → Outcome
grant confirmation state = grant_to (find_port confirmation.asker state.ports) confirmation state

-- ---- what a confirmer sends

-- more was heard at the confirmation of this job
abbrev pub with_heard : ℕ → List ℕ → State → State
with_heard job piece state = record state {
  under_way =
      record state.under_way { confirmations = told job piece state.under_way.confirmations };
}

-- what the child process said so far: nothing yet, the user's consent, or none
abbrev pub consent_by : Consent → Confirmation → List ℕ → State → Outcome
consent_by NotYet confirmation piece state = stay (with_heard confirmation.job piece state)
consent_by Yes confirmation piece state = grant confirmation state
consent_by No confirmation piece state = over confirmation state

-- the child process of this confirmation sent more
abbrev pub confirmer_heard : Confirmation → List ℕ → State → Outcome
confirmer_heard confirmation piece state =
    consent_by (consent confirmation.job (confirmation.heard ++ piece)) confirmation piece state
