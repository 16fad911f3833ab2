-- Child processes, from the start of their job until they named themselves by its ticket (ours).
use Rattle.std.specs.Prelude.{ℕ, List, [], ◌∷◌, ◌++◌, Option, Some, None, Bool, false, ◌==◌, is_some, Result, Ok, if◌then◌else◌}
use Rattle.std.specs.Str.{bytes_eq}
use Rattle.lists.specs.Keyed.{remove_by}
use Rattle.world_ports.specs.declared.Job.{Job}
use Rattle.world_ports.specs.declared.JobKind.{JobKind}
use Rattle.world_ports.specs.declared.JobKind.TheVariants as kinds
use Rattle.wire_text.specs.Bounds.{longest_body}
use Rattle.wire_text.specs.Frames.{Bad, Front, More, Whole, after_front, front, front_body}
use Rattle.child_msg.specs.Messages.{FromChildMessage, Hello}
use Rattle.child_msg.specs.Reading.{from_child_of}
use Rattle.child_msg.specs.declared.fault.ChildFault.{ChildFault}
use Rattle.helper_link.specs.HelperLink.{linked_to}
use Rattle.helper_link.specs.declared.state.LinkState.{LinkState}
use Rattle.helper_link.specs.declared.state.LinkState.TheVariants as states
use Rattle.agent_model.specs.Actions.{Outcome, closing, stay}
use Rattle.agent_model.specs.Answers.{helper_heard, lose_where}
use Rattle.confirm_desk.specs.Confirmations.{Confirmation, find_job, linked}
use Rattle.agent_model.specs.Consents.{confirmer_heard, find_started, over_if, remove_started}
use Rattle.agent_model.specs.State.{Port, StartedJob, State, UnderWay, change_port, find_to_start, job_number, remove_port}

-- ---- the start of a job

-- the jobs but for that of this number
abbrev pub remove_to_start : ℕ → List Job → List Job
remove_to_start number jobs = remove_by job_number number jobs

-- the job isn't to be started any more
abbrev pub job_left : ℕ → State → State
job_left number state = record state {
  under_way = record state.under_way { to_start = remove_to_start number state.under_way.to_start };
}

-- a helper is being started by this job
abbrev pub is_started_by : ℕ → LinkState → Bool
is_started_by number (states.Starting job) = job == number
is_started_by number other = false

-- the job is still wanted: a helper is being started by it, or its confirmation is waited for
abbrev pub is_wanted : JobKind → ℕ → UnderWay → Bool
is_wanted kinds.Helper number under_way = is_started_by number under_way.link.state
is_wanted kinds.Confirm number under_way = is_some (find_job number under_way.confirmations)

-- the job was started, if it was to be: its child process is to name it, if it is wanted
abbrev pub started_if : Option Job → List ℕ → UnderWay → List StartedJob
started_if None ticket under_way = []
started_if (Some job) ticket under_way =
    if is_wanted job.kind job.number under_way then record { job = job; ticket = ticket } ∷ [] else []

-- the job of this number was started, and its child process has this ticket
abbrev pub job_started : ℕ → List ℕ → State → State
job_started number ticket state = record state {
  under_way = record state.under_way {
    to_start = remove_to_start number state.under_way.to_start;
    started = state.under_way.started
        ++ started_if (find_to_start number state.under_way.to_start) ticket state.under_way;
  };
}

-- the start of a helper failed, which is lost where it was being started by this job, or of a child
-- process that asks the user
abbrev pub failed_by : JobKind → ℕ → State → Outcome
failed_by kinds.Helper number state =
    lose_where (is_started_by number state.under_way.link.state) state
failed_by kinds.Confirm number state = over_if (find_job number state.under_way.confirmations) state

-- the start of a job failed, if it was to be started
abbrev pub start_failed : Option Job → State → Outcome
start_failed None state = stay state
start_failed (Some job) state = failed_by job.kind job.number (job_left job.number state)

-- ---- how a child process names itself

-- more bytes of the port
abbrev pub heard_more : List ℕ → Port → Port
heard_more piece port = record port { heard = port.heard ++ piece }

-- the bytes of the port stand elsewhere from now on
abbrev pub unheard : Port → Port
unheard port = record port { heard = [] }

-- one port changed
abbrev pub changed : ℕ → (Port → Port) → State → State
changed number f state = record state { ports = change_port number f state.ports }

-- one port closed: what it was owed goes with it
abbrev pub closed : ℕ → State → State
closed number state = record state { ports = remove_port number state.ports }

-- one port is closed, and then this happens
abbrev pub shut_then : ℕ → (State → Outcome) → State → Outcome
shut_then number next state = record (next (closed number state)) {
  closes = closing number state.ports (next (closed number state)).closes;
}

-- one port is closed, and nothing else happens
abbrev pub shut : ℕ → State → Outcome
shut number state = shut_then number stay state

-- the helper came to this port
abbrev pub helper_named : ℕ → ℕ → State → State
helper_named job number state = record state {
  ports = change_port number unheard state.ports;
  under_way = record state.under_way {
    link = linked_to number state.under_way.link;
    started = remove_started job state.under_way.started;
  };
}

-- the child process that asks the user, by this job, came to this port
abbrev pub confirmer_named : ℕ → ℕ → State → State
confirmer_named job number state = record state {
  ports = change_port number unheard state.ports;
  under_way = record state.under_way {
    started = remove_started job state.under_way.started;
    confirmations = linked job number state.under_way.confirmations;
  };
}

-- the confirmation of a job hears what came behind its child process's name
abbrev pub confirmer_goes_on : Option Confirmation → List ℕ → State → Outcome
confirmer_goes_on None rest state = stay state
confirmer_goes_on (Some confirmation) rest state = confirmer_heard confirmation rest state

-- a child process named itself, and what it sent behind its name counts at once
abbrev pub named_by : JobKind → ℕ → ℕ → List ℕ → State → Outcome
named_by kinds.Helper job number rest state = helper_heard rest (helper_named job number state)
named_by kinds.Confirm job number rest state =
    let named = confirmer_named job number state in
    confirmer_goes_on (find_job job named.under_way.confirmations) rest named

-- a child process named a job with this ticket: where no such job was started, or its ticket is
-- another, the port is closed
abbrev pub hello_heard : Option StartedJob → List ℕ → ℕ → List ℕ → State → Outcome
hello_heard None ticket number rest state = shut number state
hello_heard (Some one) ticket number rest state =
    if bytes_eq one.ticket ticket then named_by one.job.kind one.job.number number rest state
    else shut number state

-- the first message of a child process: HELLO names it, and any other closes its port
abbrev pub first_message : Result FromChildMessage ChildFault → ℕ → List ℕ → State → Outcome
first_message (Ok (Hello job ticket)) number rest state =
    hello_heard (find_started job state.under_way.started) ticket number rest state
first_message other number rest state = shut number state

-- what stands at the front of the bytes of a child process that hasn't named itself
abbrev pub first_frame : Front → ℕ → List ℕ → State → Outcome
first_frame (Whole body_len) number heard state =
    first_message (from_child_of (front_body body_len heard)) number (after_front body_len heard)
    state
first_frame (Bad announced) number heard state = shut number state
first_frame More number heard state = stay state

-- a child process that hasn't named itself sent more behind what was heard of it
abbrev pub unnamed_heard : (heard piece : List ℕ) → ℕ → State → Outcome
unnamed_heard heard piece number state =
    first_frame (front longest_body (heard ++ piece)) number (heard ++ piece)
    (changed number (heard_more piece) state)
