-- What the helper's answers bring, and what its loss brings (ours).
use Rattle.std.specs.Prelude.{ℕ, List, [], ◌∷◌, ◌++◌, Option, Some, None, Bool, true, false}
use Rattle.lists.specs.Keyed.{find_by, remove_by}
use Rattle.helper_link.specs.HelperLink.{HelperLink, askers, lost}
use Rattle.helper_link.specs.Telling.{Telling, telling}
use Rattle.helper_link.specs.declared.answer.Answer.{Answer}
use Rattle.helper_link.specs.declared.answer.Answer.TheVariants as answer
use Rattle.helper_link.specs.declared.answer.Settled.{Settled}
use Rattle.helper_link.specs.declared.fault.LinkFault.{LinkFault}
use Rattle.helper_link.specs.declared.state.LinkState.{LinkState}
use Rattle.helper_link.specs.declared.state.LinkState.TheVariants as states
use Rattle.dest_rule.specs.Chains.{bound}
use Rattle.dest_rule.specs.declared.binding.Binding.{Binding}
use Rattle.agent_model.specs.Consents.{remove_started}
use Rattle.agent_model.specs.State.{Port, StartedJob, State, Verification, change_port, find_port, remove_port}
use Rattle.agent_model.specs.Verdicts.{HelperLost, HelperRefused, Refuses, Replies, Signature, SignatureWrong, Success, Verdict, tell}
use Rattle.agent_model.specs.Actions.{Action, Answered, Lost, Outcome, Proved, acted, and_then, closing, stay}

-- ---- verifications

-- the verification that this ask is for
abbrev pub find_verification : ℕ → List Verification → Option Verification
find_verification ask all = find_by (λ (one : Verification). one.ask) ask all

-- the verifications but for the one that this ask is for
abbrev pub remove_verification : ℕ → List Verification → List Verification
remove_verification ask all = remove_by (λ (one : Verification). one.ask) ask all

-- a chain with a binding that is new to it
abbrev pub chain_with : Bool → Binding → List Binding → List Binding
chain_with true binding chain = bound binding chain
chain_with false binding chain = chain

-- the connection is bound, and its client is told
abbrev pub prove : Verification → Port → Port
prove verification port = tell (Replies Success)
    (record port { chain = chain_with verification.is_new verification.binding port.chain })

-- that a binding is right counts where the asker is open
abbrev pub proved_where_open : Option Port → Verification → List Action
proved_where_open None verification = []
proved_where_open (Some port) verification =
    Proved (record { port = port.number; binding = verification.binding }) ∷ []

-- ---- answers

-- what answers of the helper change: the ports, the verifications, and the actions so far
pub record Answering : Type 0 where
  pub ports : List Port
  pub verifications : List Verification
  pub actions : List Action

-- an asker is told what came of its ask: nobody is, where it has left
abbrev pub answer_asker : Verdict → Settled → Answering → Answering
answer_asker verdict one before = record {
  ports = change_port one.asker (tell verdict) before.ports;
  verifications = remove_verification one.ask before.verifications;
  actions = before.actions ++ Answered one ∷ [];
}

-- the signature of a binding is right; nothing is where no binding is noted for the ask
abbrev pub answer_true : Option Verification → Settled → Answering → Answering
answer_true None one before = answer_asker (Refuses SignatureWrong) one before
answer_true (Some verification) one before = record {
  ports = change_port one.asker (prove verification) before.ports;
  verifications = remove_verification one.ask before.verifications;
  actions =
      before.actions ++ Answered one ∷ proved_where_open (find_port one.asker before.ports) verification;
}

-- what one answer of the helper changes
abbrev pub answer_by : Answer → Settled → Answering → Answering
answer_by (answer.Signed signature) one before =
    answer_asker (Replies (Signature signature)) one before
answer_by answer.Refused one before = answer_asker (Refuses HelperRefused) one before
answer_by answer.True one before =
    answer_true (find_verification one.ask before.verifications) one before
answer_by answer.False one before = answer_asker (Refuses SignatureWrong) one before

-- answers, one after another
abbrev pub answer_all : List Settled → Answering → Answering
answer_all [] before = before
answer_all (one ∷ later) before = answer_all later (answer_by one.answer one before)

-- the clients that asked, in the order of the answers
abbrev pub askers_of : List Settled → List ℕ
askers_of [] = []
askers_of (one ∷ later) = one.asker ∷ askers_of later

-- what answers of the helper change in a state
abbrev pub answers_in : List Settled → State → Answering
answers_in settled state = answer_all settled
    (record { ports = state.ports; verifications = state.under_way.verifications; actions = [] })

-- the state after answers, with the link that they leave
abbrev pub with_answers : HelperLink → Answering → State → State
with_answers new_link answers state = record state {
  ports = answers.ports;
  under_way = record state.under_way { link = new_link; verifications = answers.verifications };
}

-- ---- the loss of the helper

-- each of these clients is told
abbrev pub tell_each : Verdict → List ℕ → List Port → List Port
tell_each verdict [] ports = ports
tell_each verdict (number ∷ others) ports =
    tell_each verdict others (change_port number (tell verdict) ports)

-- the ports without the helper's
abbrev pub close_helper : LinkState → List Port → List Port
close_helper (states.Linked port) ports = remove_port port ports
close_helper other ports = ports

-- the port that closes where the helper is lost
abbrev pub helper_closes : LinkState → List Port → List ℕ
helper_closes (states.Linked port) ports = closing port ports []
helper_closes other ports = []

-- the started jobs without the one by which the helper was being started
abbrev pub forget_helper : LinkState → List StartedJob → List StartedJob
forget_helper (states.Starting job) started = remove_started job started
forget_helper other started = started

-- the helper is lost: its port is closed, each client that waits for an answer of it is told, and no
-- child process can name the job by which it was being started
abbrev pub lose : State → Outcome
lose state = record {
  state = record state {
    ports = tell_each (Refuses HelperLost) (askers state.under_way.link.asks)
        (close_helper state.under_way.link.state state.ports);
    under_way = record state.under_way {
      link = lost state.under_way.link;
      started = forget_helper state.under_way.link.state state.under_way.started;
      verifications = [];
    };
  };
  actions = Lost ∷ [];
  put = [];
  closes = helper_closes state.under_way.link.state state.ports;
}

-- the helper is lost, if so
abbrev pub lose_where : Bool → State → Outcome
lose_where false state = stay state
lose_where true state = lose state

-- the helper is lost where its stream has a fault
abbrev pub lose_if : Option LinkFault → State → Outcome
lose_if None state = stay state
lose_if (Some fault) state = lose state

-- ---- what the helper sends

-- its answers count up to the first faulty frame
abbrev pub helper_tells : Telling → State → Outcome
helper_tells told state = and_then
    (acted (answers_in told.settled state).actions (with_answers told.link
    (answers_in told.settled state) state))
    (lose_if told.fault)

-- the helper sent more
abbrev pub helper_heard : List ℕ → State → Outcome
helper_heard piece state = helper_tells (telling piece state.under_way.link) state
