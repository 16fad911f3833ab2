-- What comes of a request, and of what is waited for (draft-miller-ssh-agent, "Protocol Messages";
-- the causes are ours).
use Rattle.std.specs.Prelude.{ℕ, List, [], ◌++◌}
use Rattle.constraint_rec.specs.declared.fault.TermFault.{TermFault}
use Rattle.agent_msg.specs.declared.fault.MsgFault.{MsgFault}
use Rattle.agent_msg.specs.Replies.{failure, success, identities_answer, sign_response}
use Rattle.dest_rule.specs.declared.fault.ChainFault.{ChainFault}
use Rattle.dest_rule.specs.declared.denial.Denial.{Denial}
use Rattle.agent_model.specs.State.{Port, Waits, Nothing}

-- a reply that isn't a failure: SSH_AGENT_SUCCESS, SSH_AGENT_IDENTITIES_ANSWER or
-- SSH_AGENT_SIGN_RESPONSE
pub data Reply : Type 0 where
  Success : Reply
  Identities : (identities : List (List ℕ × List ℕ)) → Reply
  Signature : (signature : List ℕ) → Reply

-- why a client is told SSH_AGENT_FAILURE
pub data Cause : Type 0 where
  -- at the request: it doesn't read, or the agent is locked, or such a request isn't served
  Malformed : (fault : MsgFault) → Cause
  Locked : Cause
  Unserved : Cause
  -- the key isn't held, or isn't for this connection to see, or not for this message
  NotHeld : Cause
  NotVisible : Cause
  OtherPurpose : Cause
  DestinationDenied : (denial : Denial) → Cause
  -- the constraints don't read, or the identities would be too many
  Constraints : (fault : TermFault) → Cause
  ListFull : Cause
  -- the lock
  NoPassphrase : Cause
  WrongPassphrase : Cause
  NotLocked : Cause
  -- the connection isn't to be bound so
  BindRefused : (fault : ChainFault) → Cause
  -- too much is under way, or a number is spent
  TooManyAsks : Cause
  TooManyConfirmations : Cause
  AdditionsSpent : Cause
  AsksSpent : Cause
  JobsSpent : Cause
  -- later: what the helper and the user say, and what became of them
  SignatureWrong : Cause
  HelperRefused : Cause
  HelperLost : Cause
  NotConfirmed : Cause
  -- the user said yes, and by then the agent was locked, the addition gone, the message for no purpose of the key or
  -- the destination denied
  NoLongerAllowed : Cause

-- what a client gets
pub data Verdict : Type 0 where
  Replies : (reply : Reply) → Verdict
  Refuses : (cause : Cause) → Verdict
  Awaits : (waits : Waits) → Verdict

-- what a verdict lets a client be owed at once: every refusal is told alike
abbrev pub verdict_text : Verdict → List ℕ
verdict_text (Replies Success) = success
verdict_text (Replies (Identities identities)) = identities_answer identities
verdict_text (Replies (Signature signature)) = sign_response signature
verdict_text (Refuses cause) = failure
verdict_text (Awaits waits) = []

-- what a client waits for after a verdict
abbrev pub verdict_waits : Verdict → Waits
verdict_waits (Awaits waits) = waits
verdict_waits told = Nothing

-- the client is told
abbrev pub tell : Verdict → Port → Port
tell verdict port =
    record port { owed = port.owed ++ verdict_text verdict; waits = verdict_waits verdict }
