-- What a relay reads of its client and its agent, and what it writes to them (ours).
use Rattle.std.specs.Prelude.{◌≡◌, ◌+◌, ◌≤◌, ℕ, List, ◌++◌, length, map, All, None}
use Rattle.std.specs.Io.KnownBytes.{Appends}
use Rattle.child_peer.specs.Talk.{HasRead, IsFront}
use Rattle.terms_core.specs.Additions.{refusal, with_terms}
use Rattle.wire_text.specs.Bounds.{longest_body}
use Rattle.wire_text.specs.Frames.{frames, split, then_split}
use Rattle.world_ports.specs.Streams.{StreamView}

-- what both connections tell at one time
pub record Both : Type 0 where
  pub client : StreamView
  pub agent : StreamView

-- these bodies are the first that a stream splits into, and the rest is what stands behind their frames
abbrev pub IsCutTo : List ℕ → List (List ℕ) → List ℕ → Type 0
IsCutTo stream bodies rest = split longest_body stream ≡ then_split bodies (split longest_body rest)

-- no call on either connection failed
pub record IsCalm (old new : Both) : Type 0 where
  pub client_reads : new.client.read_faults ≡ old.client.read_faults
  pub client_writes : new.client.write_faults ≡ old.client.write_faults
  pub agent_reads : new.agent.read_faults ≡ old.agent.read_faults
  pub agent_writes : new.agent.write_faults ≡ old.agent.write_faults

-- every request that was read of the client was sent to the agent with the terms, each once, in their order, and nothing
-- else; every reply that was read of the agent was given to the client as it is; so many replies are still owed. Of what
-- was read these bytes of the client and of the agent stand behind the last of them
pub record IsRelayed (terms : List ℕ) (owed : ℕ) (asked replied : List ℕ) (old new : Both) : Type 0 where
  pub requests : List (List ℕ)
  pub replies : List (List ℕ)
  pub said : List ℕ
  pub read : HasRead old.client new.client said
  pub first : IsCutTo said requests asked
  pub passed : All (λ body. refusal terms body ≡ None) requests
  pub sent : Appends old.agent.written new.agent.written (frames (map (with_terms terms) requests))
  pub answered : List ℕ
  pub heard : HasRead old.agent new.agent answered
  pub first_replies : IsCutTo answered replies replied
  pub given : Appends old.client.written new.client.written (frames replies)
  pub even : length requests ≡ length replies + owed
  pub calm : IsCalm old new

-- the frames of these bodies were written in their order; of the last one maybe a front alone
pub record AreWritten (bodies : List (List ℕ)) (bytes : List ℕ) : Type 0 where
  pub whole : List (List ℕ)
  pub last : List (List ℕ)
  pub part : List ℕ
  pub order : bodies ≡ whole ++ last
  pub one : length last ≤ 1
  pub is : bytes ≡ frames whole ++ part
  pub front : IsFront part (frames last)

-- the same where a call failed or memory ran out: of the last request, or of the last reply, maybe a front alone was written
pub record IsBroken (terms : List ℕ) (old new : Both) : Type 0 where
  pub requests : List (List ℕ)
  pub replies : List (List ℕ)
  pub asked : List ℕ
  pub said : List ℕ
  pub read : HasRead old.client new.client said
  pub first : IsCutTo said requests asked
  pub passed : All (λ body. refusal terms body ≡ None) requests
  pub out : List ℕ
  pub sent : Appends old.agent.written new.agent.written out
  pub sent_is : AreWritten (map (with_terms terms) requests) out
  pub replied : List ℕ
  pub answered : List ℕ
  pub heard : HasRead old.agent new.agent answered
  pub first_replies : IsCutTo answered replies replied
  pub back : List ℕ
  pub given : Appends old.client.written new.client.written back
  pub given_is : AreWritten replies back
  pub replies_behind : length replies ≤ length requests
  pub one_ahead : length requests ≤ length replies + 1
