-- Asks that are put to the helper, confirmations that the user is asked for, and the jobs that
-- these begin (ours).
use Rattle.std.specs.Prelude.{ℕ, ◌+◌, ◌==◌, nat_lt, List, [], ◌∷◌, ◌++◌, length, Option, Some, None, Bool, true, false, if◌then◌else◌}
use Rattle.world_ports.specs.declared.Job.{Job}
use Rattle.world_ports.specs.declared.JobKind.{JobKind}
use Rattle.world_ports.specs.declared.JobKind.TheVariants as kinds
use Rattle.agent_msg.specs.Requests.{BindRequest, Signing}
use Rattle.child_msg.specs.ChildFrames.{to_child_body}
use Rattle.child_msg.specs.Messages.{ToChildMessage}
use Rattle.helper_link.specs.HelperLink.{is_full, sign_request, submitted, verify_request}
use Rattle.helper_link.specs.declared.ask.AskKind.{AskKind}
use Rattle.helper_link.specs.declared.ask.AskKind.TheVariants as asks
use Rattle.helper_link.specs.declared.state.LinkState.{LinkState}
use Rattle.helper_link.specs.declared.state.LinkState.TheVariants as states
use Rattle.identity_table.specs.Identities.{HeldKey}
use Rattle.dest_rule.specs.declared.binding.Binding.{Binding}
use Rattle.confirm_desk.specs.Confirmations.{Held, raise}
use Rattle.confirm_desk.specs.Prompt.{prompt_for}
use Rattle.agent_model.specs.Limits.{last_number, most_confirmations}
use Rattle.agent_model.specs.State.{OnAsk, OnConfirmation, UnderWay, Verification}
use Rattle.agent_model.specs.Verdicts.{Cause, TooManyAsks, AsksSpent, JobsSpent, TooManyConfirmations, Refuses, Awaits}
use Rattle.agent_model.specs.Actions.{Asked, Asking, Purpose, ForSignature, ForBinding, Raised, Work, settles}

-- ---- jobs

-- a job that may be needed, where all numbers up to this one were given
abbrev pub spent_jobs : ℕ → Option Cause
spent_jobs last = if last == last_number then Some JobsSpent else None

-- a job of this kind
abbrev pub job_of : ℕ → JobKind → Job
job_of number kind = record { number = number; kind = kind }

-- the job that starts the helper where none is there or coming
abbrev pub helper_jobs : LinkState → ℕ → List Job
helper_jobs states.None number = job_of number kinds.Helper ∷ []
helper_jobs other number = []

-- the number of the last job, if one is begun for a helper
abbrev pub last_job_for : LinkState → ℕ → ℕ
last_job_for states.None last_job = last_job + 1
last_job_for other last_job = last_job

-- how far the link has come then
abbrev pub begun_by : LinkState → ℕ → LinkState
begun_by states.None number = states.Starting number
begun_by other number = other

-- ---- asks

-- what is put to the helper: a signature with a held key, or the verification of a binding's
pub data Errand : Type 0 where
  Signs : (key : HeldKey) (signing : Signing) → Errand
  Verifies : (bind : BindRequest) (is_new : Bool) → Errand

-- the binding that a request is for
abbrev pub binding_of : BindRequest → Binding
binding_of bind =
    record { host_key = bind.host_key; session = bind.session; forwarding = bind.forwarding }

-- the kind of its ask
abbrev pub kind_of : Errand → AskKind
kind_of (Signs key signing) = asks.Signing
kind_of (Verifies bind is_new) = asks.Verifying

-- the blob of the key that is to sign, or whose signature is to be verified
abbrev pub blob_of : Errand → List ℕ
blob_of (Signs key signing) = signing.blob
blob_of (Verifies bind is_new) = bind.host_key

-- its message, for an ask's number
abbrev pub message_of : Errand → ℕ → ToChildMessage
message_of (Signs key signing) = sign_request key.private key.blob signing.message signing.flags
message_of (Verifies bind is_new) = verify_request bind.host_key bind.signature bind.session

-- the addition whose identity it uses: a verification uses none
abbrev pub addition_of : Errand → Option ℕ
addition_of (Signs key signing) = Some key.number
addition_of (Verifies bind is_new) = None

-- what an errand is for
abbrev pub purpose_of : Errand → Purpose
purpose_of (Signs key signing) = ForSignature signing
purpose_of (Verifies bind is_new) = ForBinding (binding_of bind)

-- a verification keeps its binding until it is answered
abbrev pub noted_verification : Errand → ℕ → List Verification
noted_verification (Signs key signing) number = []
noted_verification (Verifies bind is_new) number =
    record { ask = number; binding = binding_of bind; is_new = is_new } ∷ []

-- by whether the places for unanswered asks are full, whether all numbers were given, and whether a
-- helper is to be started, by one more job
abbrev pub ask_fault_by : Bool → Bool → LinkState → (last_job : ℕ) → Option Cause
ask_fault_by true spent link last_job = Some TooManyAsks
ask_fault_by false true link last_job = Some AsksSpent
ask_fault_by false false states.None last_job = spent_jobs last_job
ask_fault_by false false link last_job = None

-- why nothing can be put to the helper
abbrev pub ask_fault : UnderWay → Option Cause
ask_fault under_way =
    ask_fault_by (is_full under_way.link.asks) (under_way.link.last == last_number)
    under_way.link.state under_way.last_job

-- what is under way once an ask is put
abbrev pub with_ask : Errand → ℕ → UnderWay → UnderWay
with_ask errand asker under_way = record under_way {
  link = submitted (kind_of errand) asker (blob_of errand) (message_of errand) under_way.second
      (record under_way.link { state = begun_by under_way.link.state (under_way.last_job + 1) });
  to_start = under_way.to_start ++ helper_jobs under_way.link.state (under_way.last_job + 1);
  verifications = under_way.verifications ++ noted_verification errand (under_way.link.last + 1);
  last_job = last_job_for under_way.link.state under_way.last_job;
}

-- the ask of this number for it
abbrev pub asking_of : Errand → ℕ → ℕ → Asking
asking_of errand asker number = record {
  ask = number;
  port = asker;
  purpose = purpose_of errand;
  size = length (to_child_body (message_of errand number));
}

-- an ask is put, unless there is a cause not to
abbrev pub put_unless : Option Cause → Errand → ℕ → UnderWay → Work
put_unless (Some cause) errand asker under_way = settles (Refuses cause) under_way
put_unless None errand asker under_way = record {
  under_way = with_ask errand asker under_way;
  verdict = Awaits (OnAsk (under_way.link.last + 1));
  actions = Asked (asking_of errand asker (under_way.link.last + 1)) ∷ [];
  put = message_of errand (under_way.link.last + 1) ∷ [];
  used = addition_of errand;
}

-- an ask is put for a client: a helper is started where none is there, and the client waits for the
-- answer
abbrev pub put_ask : Errand → ℕ → UnderWay → Work
put_ask errand asker under_way = put_unless (ask_fault under_way) errand asker under_way

-- ---- confirmations

-- why the user can't be asked: as many confirmations are waited for as may be, or no job can be begun
abbrev pub raise_fault : UnderWay → Option Cause
raise_fault under_way =
    if nat_lt (length under_way.confirmations) most_confirmations then spent_jobs under_way.last_job
    else Some TooManyConfirmations

-- what is kept of a request while it waits for the user's consent
abbrev pub held_for : ℕ → HeldKey → Signing → Held
held_for asker key signing =
    record {
      asker = asker;
      addition = key.number;
      message = signing.message;
      flags
          = signing.flags;
    }

-- what is under way once the user is to be asked, of a login to this host where that is known
abbrev pub with_confirmation : HeldKey → (host : Option (List ℕ)) → Signing → ℕ → UnderWay → UnderWay
with_confirmation key host signing asker under_way = record under_way {
  to_start = under_way.to_start ++ job_of (under_way.last_job + 1) kinds.Confirm ∷ [];
  confirmations =
      raise (under_way.last_job + 1) (held_for asker key signing)
      (prompt_for key.comment key.blob key.purposes host signing.message) under_way.second
      under_way.confirmations;
  last_job = under_way.last_job + 1;
}

-- the user is asked, unless there is a cause not to
abbrev pub raise_unless : Option Cause → HeldKey → (host : Option (List ℕ)) → Signing → ℕ → UnderWay → Work
raise_unless (Some cause) key host signing asker under_way = settles (Refuses cause) under_way
raise_unless None key host signing asker under_way = record {
  under_way = with_confirmation key host signing asker under_way;
  verdict = Awaits (OnConfirmation (under_way.last_job + 1));
  actions = Raised (record {
    job = under_way.last_job + 1;
    port = asker;
    addition = key.number;
    signing = signing;
  }) ∷ [];
  put = [];
  used = None;
}

-- the user is asked for a client, by a child process of its own, and the client waits for the
-- consent
abbrev pub ask_user : HeldKey → (host : Option (List ℕ)) → Signing → ℕ → UnderWay → Work
ask_user key host signing asker under_way =
    raise_unless (raise_fault under_way) key host signing asker under_way
