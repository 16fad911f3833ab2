-- Steps of the tool (ours): what each sends to the agent and writes, what it leaves of the agent's
-- bytes, and whether it is the last. One is made after another, up to the first that is the last.
use Rattle.std.specs.Prelude.{◌≡◌, ◌⊎◌, ◌≤◌, ℕ, List, [], ◌++◌, Option, None, Some, Result, Ok, Err}
use Rattle.std.specs.Io.KnownBytes.{Appends}
use Rattle.world_ports.specs.Causes.{Rose}
use Rattle.world_ports.specs.Streams.{StreamView, WritesPart}
use Rattle.add_core.specs.declared.fault.AddFault.{AddFault}
use Rattle.add_core.specs.declared.fault.AddFault.TheVariants.{File, FileTooLong, PeerFault, InputFault, OutputFault, BadReply}
use Rattle.add_core.specs.declared.fault.PeerStop.{PeerStop}
use Rattle.add_core.specs.declared.fault.PeerStop.TheVariants as of_peer
use Rattle.add_core.specs.declared.fault.Stop.{Stop}
use Rattle.add_core.specs.declared.fault.Stop.TheVariants.{Fault, Memory}

-- what a step does
pub record Step : Type 0 where
  -- the bytes that are sent to the agent
  pub sent : List ℕ
  -- the bytes that are written: to the output for a list, to the errors else
  pub told : List ℕ
  -- the agent's bytes that are left
  pub left : List ℕ
  -- why no step follows
  pub fault : Option AddFault

-- nothing is done
abbrev pub nothing : List ℕ → Step
nothing left = record { sent = []; told = []; left = left; fault = None }

-- nothing is done but to stop
abbrev pub failing : AddFault → Step
failing fault = record { sent = []; told = []; left = []; fault = Some fault }

-- a text is written
abbrev pub telling : List ℕ → List ℕ → Step
telling text left = record { sent = []; told = text; left = left; fault = None }

-- ---- one after another

-- a step and what is done after it, unless the step has a fault
abbrev pub followed_by : Option AddFault → Step → Step → Step
followed_by (Some fault) step after = step
followed_by None step after = record {
  sent = step.sent ++ after.sent;
  told = step.told ++ after.told;
  left = after.left;
  fault = after.fault;
}

-- a step, and then, unless it is the last, the one over the agent's bytes that it leaves
abbrev pub followed : Step → (List ℕ → Step) → Step
followed step later = followed_by step.fault step (later step.left)

-- ---- what the code does

-- the step was made
pub record IsMade (step : Step) (peer0 peer1 sink0 sink1 : StreamView) : Type 0 where
  pub sent : Appends peer0.written peer1.written step.sent
  pub told : Appends sink0.written sink1.written step.told

-- a front of what it sends was sent, and a front of what it writes was written
pub record IsCut (step : Step) (peer0 peer1 sink0 sink1 : StreamView) : Type 0 where
  pub sent : WritesPart step.sent peer0 peer1
  pub told : WritesPart step.told sink0 sink1

-- the step was made up to its fault
pub record IsStopped (fault : AddFault) (step : Step) (peer0 peer1 sink0 sink1 : StreamView) : Type 0
  where
    pub fault_is : step.fault ≡ Some fault
    pub made : IsMade step peer0 peer1 sink0 sink1

-- the step was made up to a fault: where a file, the connection, the input or an output failed, or
-- memory ran out, a front of it was
abbrev pub Stops : Stop → Step → StreamView → StreamView → StreamView → StreamView → Type 0
Stops Memory step peer0 peer1 sink0 sink1 = IsCut step peer0 peer1 sink0 sink1
Stops (Fault (File place)) step peer0 peer1 sink0 sink1 = IsCut step peer0 peer1 sink0 sink1
Stops (Fault PeerFault) step peer0 peer1 sink0 sink1 = IsCut step peer0 peer1 sink0 sink1
Stops (Fault InputFault) step peer0 peer1 sink0 sink1 = IsCut step peer0 peer1 sink0 sink1
Stops (Fault OutputFault) step peer0 peer1 sink0 sink1 = IsCut step peer0 peer1 sink0 sink1
Stops (Fault fault) step peer0 peer1 sink0 sink1 = IsStopped fault step peer0 peer1 sink0 sink1

-- the step was made whole, and the agent's bytes are left that it leaves
pub record IsWhole (step : Step) (peer0 peer1 sink0 sink1 : StreamView) : Type 0 where
  pub goes_on : step.fault ≡ None
  pub made : IsMade step peer0 peer1 sink0 sink1
  pub left : peer1.left ≡ Some step.left

-- what an answer says of a step
abbrev pub Follows : {T : Type 0} → Result T Stop → Step → StreamView → StreamView → StreamView
    → StreamView → Type 0
Follows (Ok value) step peer0 peer1 sink0 sink1 = IsWhole step peer0 peer1 sink0 sink1
Follows (Err stop) step peer0 peer1 sink0 sink1 = Stops stop step peer0 peer1 sink0 sink1

-- ---- causes

-- the connection's fault as the tool's
abbrev pub stop_of : PeerStop → Stop
stop_of of_peer.BadReply = Fault BadReply
stop_of of_peer.Failed = Fault PeerFault
stop_of of_peer.Memory = Memory

-- a fault of the connection was counted, and none is forgotten
pub record HasPeerCause {T : Type 0} (result : Result T Stop) (before now : StreamView) : Type 0 where
  pub reads : before.read_faults ≤ now.read_faults
  pub writes : before.write_faults ≤ now.write_faults
  pub fault : result ≡ Err (Fault PeerFault)
      → Rose before.read_faults now.read_faults ⊎ Rose before.write_faults now.write_faults

-- what a reading of a file ends with
abbrev pub IsOwnOfFiles : {T : Type 0} → Result T Stop → Type 0
IsOwnOfFiles (Ok value) = Unit {0}
IsOwnOfFiles (Err Memory) = Unit {0}
IsOwnOfFiles (Err (Fault (File place))) = Unit {0}
IsOwnOfFiles (Err (Fault (FileTooLong place))) = Unit {0}
IsOwnOfFiles (Err (Fault fault)) = ⊥

-- no file, connection, input or output failed
abbrev pub IsOwn : {T : Type 0} → Result T Stop → Type 0
IsOwn (Ok value) = Unit {0}
IsOwn (Err Memory) = Unit {0}
IsOwn (Err (Fault (File place))) = ⊥
IsOwn (Err (Fault PeerFault)) = ⊥
IsOwn (Err (Fault InputFault)) = ⊥
IsOwn (Err (Fault OutputFault)) = ⊥
IsOwn (Err (Fault fault)) = Unit {0}

-- no file and no input failed
abbrev pub IsOfTalk : {T : Type 0} → Result T Stop → Type 0
IsOfTalk (Ok value) = Unit {0}
IsOfTalk (Err Memory) = Unit {0}
IsOfTalk (Err (Fault (File place))) = ⊥
IsOfTalk (Err (Fault InputFault)) = ⊥
IsOfTalk (Err (Fault fault)) = Unit {0}

-- no file, connection or input failed
abbrev pub IsOfOutput : {T : Type 0} → Result T Stop → Type 0
IsOfOutput (Ok value) = Unit {0}
IsOfOutput (Err Memory) = Unit {0}
IsOfOutput (Err (Fault (File place))) = ⊥
IsOfOutput (Err (Fault PeerFault)) = ⊥
IsOfOutput (Err (Fault InputFault)) = ⊥
IsOfOutput (Err (Fault fault)) = Unit {0}

-- a fault of an output was counted, and none is forgotten
pub record HasSinkCause {T : Type 0} (result : Result T Stop) (before now : StreamView) : Type 0 where
  pub writes : before.write_faults ≤ now.write_faults
  pub fault : result ≡ Err (Fault OutputFault) → Rose before.write_faults now.write_faults
