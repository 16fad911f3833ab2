-- What events are made of: a few small changes of the state, one after another.
use Rattle.std.proofs.Common.{◌≡◌, ◌≢◌, ◌==◌, ℕ, List, [], ◌∷◌, ◌++◌, arith, drop, refl, ap, subst, sym, ◌∙◌, Bool, true, false, Option, Some, None, Result, Ok, Err, if◌then◌else◌}
use Rattle.std.proofs.lemmas.List.{drop_all}
use Rattle.std.proofs.lemmas.Bool.Decides.{nat_tests}
use Rattle.helper_link.specs.declared.state.LinkState.{LinkState}
use Rattle.helper_link.specs.declared.state.LinkState.TheVariants as states
use Rattle.std.specs.Option.{option_map}
use Rattle.std.specs.Str.{bytes_eq}
use Rattle.world_ports.specs.declared.Door.{Door}
use Rattle.world_ports.specs.declared.Door.TheVariants.{Clients, Children}
use Rattle.world_ports.specs.declared.Job.{Job}
use Rattle.world_ports.specs.declared.JobKind.{JobKind}
use Rattle.world_ports.specs.declared.JobKind.TheVariants as kinds
use Rattle.wire_text.specs.Frames.{Front, Whole, Bad, More, after_front, front, front_body}
use Rattle.child_msg.specs.Messages.{Denied, False, FromChildMessage, Granted, Hello, Refused, Signed, True}
use Rattle.child_msg.specs.Reading.{from_child_of}
use Rattle.child_msg.specs.declared.fault.ChildFault.{ChildFault}
use Rattle.confirm_desk.specs.Confirmations.{Confirmation, Consent, No, NotYet, Yes, change_job, consent, find_asker, find_job, find_linked}
use Rattle.confirm_desk.specs.Confirmations as desk
use Rattle.helper_link.specs.Telling.{telling}
use Rattle.agent_model.specs.Actions.{Outcome, closing, stay}
use Rattle.agent_model.specs.Answers.{helper_tells, lose, lose_where}
use Rattle.agent_model.specs.Children.{changed, closed, confirmer_goes_on, confirmer_named, failed_by, start_failed, first_frame, first_message, heard_more, hello_heard, helper_named, is_started_by, job_left, job_started, named_by, shut, unheard}
use Rattle.agent_model.specs.Consents.{consent_by, find_started, grant_concluded, grant_to, grant_work, over, over_if, with_heard}
use Rattle.agent_model.specs.Events.{Happening, Joined, Heard, Ended, Took, Started, StartFailed, Tick}
use Rattle.wire_text.specs.Bounds.{longest_body}
use Rattle.agent_model.specs.State.{Client, Confirmer, Helper, Nothing, OnAsk, OnConfirmation, Port, Role, StartedJob, State, UnderWay, Unnamed, Waits, change_port, find_port, find_to_start, is_linked_to, job_number, role_by_helper, role_by_link, role_of}
use Rattle.agent_model.specs.Step.{confirmer_took, ended_at, ended_by_role, handle, heard_at, heard_by_role, helper_took, join, look_front, look_port, look_waits, taken, took_at, took_by_role, took_some}
use Rattle.lists.proofs.KeyedLemmas.{find_by-change, found_key}
use Rattle.agent_model.proofs.JobLemmas.{IsIn, in-by_asker, in-by_job, in-by_port, linked_port}
use Rattle.agent_model.proofs.PortsLemmas.{find_port-change_port, found_number}

-- ---- small changes

-- a change of a port that leaves who is there, what it waits for, its bindings, and that nothing is owed to it
pub record IsMild (f : Port → Port) : Type 0 where
  pub number : (p : Port) → (f p).number ≡ p.number
  pub door : (p : Port) → (f p).door ≡ p.door
  pub waits : (p : Port) → (f p).waits ≡ p.waits
  pub owed : (p : Port) → p.owed ≡ [] → (f p).owed ≡ []
  pub chain : (p : Port) → (f p).chain ≡ p.chain

-- a change of the port that the event is of: it sent a piece, or took some of what it was owed
pub data Change (event : Happening) (number : ℕ) : (Port → Port) → Type 0 where
  hears : (piece : List ℕ) → event ≡ Heard number piece → Change event number (heard_more piece)
  takes : (count : ℕ) → event ≡ Took number count → Change event number (took_some count)

pub mild_of : {event : Happening} {number : ℕ} {f : Port → Port} → Change event number f → IsMild f
mild_of (hears piece is) = record { number = λ p. refl; door = λ p. refl; waits = λ p. refl; owed = λ p none. none; chain = λ p. refl }
mild_of (takes count is) = record { number = λ p. refl; door = λ p. refl; waits = λ p. refl; owed = λ p none. ap (drop count) none ∙ drop_all count [] (omega arith); chain = λ p. refl }

-- the event is that bytes came at this port, or went there
abbrev pub IsOf : Happening → ℕ → Type 0
IsOf event number = (f : Port → Port) × Change event number f

-- a change of a confirmation that leaves what is to be signed for whom, and where its child process is
pub record IsFaint (f : Confirmation → Confirmation) : Type 0 where
  pub job : (c : Confirmation) → (f c).job ≡ c.job
  pub asker : (c : Confirmation) → (f c).asker ≡ c.asker
  pub addition : (c : Confirmation) → (f c).addition ≡ c.addition
  pub message : (c : Confirmation) → (f c).message ≡ c.message
  pub flags : (c : Confirmation) → (f c).flags ≡ c.flags
  pub raised_at : (c : Confirmation) → (f c).raised_at ≡ c.raised_at
  pub port : (c : Confirmation) → (f c).port ≡ c.port

pub faint-heard : (piece : List ℕ) → IsFaint (desk.heard_more piece)
faint-heard piece = record { job = λ c. refl; asker = λ c. refl; addition = λ c. refl; message = λ c. refl; flags = λ c. refl; raised_at = λ c. refl; port = λ c. refl }

pub faint-took : (count : ℕ) → IsFaint (desk.took_some count)
faint-took count = record { job = λ c. refl; asker = λ c. refl; addition = λ c. refl; message = λ c. refl; flags = λ c. refl; raised_at = λ c. refl; port = λ c. refl }

-- what is to be confirmed stays: at most one confirmation is changed, by a faint function
pub data Kept (old : List Confirmation) : List Confirmation → Type 0 where
  unchanged : Kept old old
  altered : (job : ℕ) (f : Confirmation → Confirmation) → IsFaint f
      → Kept old (change_job job f old)

-- what is unanswered and to be confirmed stays, for as long, and no number was given
pub record SameAsks (old new : UnderWay) : Type 0 where
  pub state : new.link.state ≡ old.link.state
  pub asks : new.link.asks ≡ old.link.asks
  pub last : new.link.last ≡ old.link.last
  pub jobs : new.last_job ≡ old.last_job
  pub verifications : new.verifications ≡ old.verifications
  pub second : new.second ≡ old.second
  pub kept : Kept old.confirmations new.confirmations
  pub limits : new.limits ≡ old.limits

-- a change of what is under way: a job was started or couldn't be, bytes went to the helper or to a child process that asks
-- the user, or such a one sent more
pub data Goes (event : Happening) (old : State) : UnderWay → Type 0 where
  starts : (job : ℕ) (ticket : List ℕ) → event ≡ Started job ticket
      → Goes event old (job_started job ticket old).under_way
  leaves : (job : ℕ) → event ≡ StartFailed job → Goes event old (job_left job old).under_way
  sends : (number count : ℕ) (port : Port) → event ≡ Took number count
      → find_port number old.ports ≡ Some port → old.under_way.link.state ≡ states.Linked number
      → Goes event old (helper_took count old).under_way
  prompts : (number count : ℕ) (port : Port) (one : Confirmation) → event ≡ Took number count
      → find_port number old.ports ≡ Some port
      → find_linked number old.under_way.confirmations ≡ Some one
      → Goes event old (confirmer_took one.job count old).under_way
  says : (number : ℕ) (piece : List ℕ) (one : Confirmation) → one.port ≡ Some number
      → IsIn one old.under_way.confirmations
      → Goes event old (with_heard one.job piece old).under_way

pub same_asks : {event : Happening} {old : State} {new : UnderWay} → Goes event old new
    → SameAsks old.under_way new
same_asks (starts job ticket is) = record { state = refl; asks = refl; last = refl; jobs = refl; verifications = refl; second = refl; kept = unchanged; limits = refl }
same_asks (leaves job is) = record { state = refl; asks = refl; last = refl; jobs = refl; verifications = refl; second = refl; kept = unchanged; limits = refl }
same_asks (sends number count port is found linked) = record { state = refl; asks = refl; last = refl; jobs = refl; verifications = refl; second = refl; kept = unchanged; limits = refl }
same_asks (prompts number count port one is found linked) = record { state = refl; asks = refl; last = refl; jobs = refl; verifications = refl; second = refl; kept = altered one.job (desk.took_some count) (faint-took count); limits = refl }
same_asks (says number piece one at there) = record { state = refl; asks = refl; last = refl; jobs = refl; verifications = refl; second = refl; kept = altered one.job (desk.heard_more piece) (faint-heard piece); limits = refl }

-- a child process that hadn't named itself does so at this port, by a job of this kind that was started
pub record Names (event : Happening) (kind : JobKind) (job number : ℕ) (old : State) : Type 0 where
  pub port : Port
  pub found : find_port number old.ports ≡ Some port
  pub door : port.door ≡ Children
  pub free : find_linked number old.under_way.confirmations ≡ None
  pub other : old.under_way.link.state ≢ states.Linked number
  pub piece : List ℕ
  pub came : event ≡ Heard number piece
  pub one : StartedJob
  pub started : find_started job old.under_way.started ≡ Some one
  pub own : one.job.kind ≡ kind

-- why an event closes a port: it's a client that waits for nothing and is owed nothing, or a child process that doesn't ask the user, or
-- it ended
pub data MayClose (event : Happening) (number : ℕ) (ports : List Port) (confirmations : List Confirmation) : Type 0 where
  idle : (port : Port) → find_port number ports ≡ Some port → port.waits ≡ Nothing → port.owed ≡ []
      → port.door ≡ Clients → MayClose event number ports confirmations
  child : (port : Port) → find_port number ports ≡ Some port → port.door ≡ Children
      → find_linked number confirmations ≡ None → MayClose event number ports confirmations
  ended : event ≡ Ended number → MayClose event number ports confirmations

-- a change that tells nobody anything: a port is changed or closed, jobs come and go, or the helper or a child process
-- that asks the user names itself
pub data Quiet (event : Happening) (old : State) : State → Type 0 where
  alters : (number : ℕ) (f : Port → Port) → Change event number f
      → Quiet event old (changed number f old)
  closes : (number : ℕ) → MayClose event number old.ports old.under_way.confirmations
      → Quiet event old (closed number old)
  goes_on : (new : UnderWay) → Goes event old new → Quiet event old (record old { under_way = new })
  names : (job number : ℕ) → Names event kinds.Helper job number old
      → Quiet event old (helper_named job number old)
  links : (job number : ℕ) → Names event kinds.Confirm job number old
      → Quiet event old (confirmer_named job number old)

-- the ports that such a change closes, and then these
abbrev pub shuts : {event : Happening} {old new : State} → Quiet event old new → List ℕ → List ℕ
shuts (alters number f change) later = later
shuts {old = old} (closes number may) later = closing number old.ports later
shuts (goes_on new goes) later = later
shuts (names job number new) later = later
shuts (links job number new) later = later

-- what comes behind it
abbrev pub after_quiet : {event : Happening} {old new : State} → Quiet event old new → Outcome
    → Outcome
after_quiet quiet outcome = record outcome { closes = shuts quiet outcome.closes }

-- what an event does in a state: quiet changes, and then at most one thing that is told
pub data Makes (event : Happening) : State → Outcome → Type 0 where
  stays : (state : State) → Makes event state (stay state)
  first : {old mid : State} {outcome : Outcome} (quiet : Quiet event old mid)
      → Makes event mid outcome → Makes event old (after_quiet quiet outcome)
  serves : (body_len : ℕ) (port : Port) (state : State)
      → find_port port.number state.ports ≡ Some port → port.door ≡ Clients → port.waits ≡ Nothing
      → port.owed ≡ [] → IsOf event port.number
      → Makes event state (taken body_len (front_body body_len port.heard) port state)
  tells : (piece : List ℕ) (state : State)
      → Makes event state (helper_tells (telling piece state.under_way.link) state)
  loses : (state : State) → Makes event state (lose state)
  overs : (confirmation : Confirmation) (state : State)
      → IsIn confirmation state.under_way.confirmations
      → Makes event state (over confirmation state)
  grants : (confirmation : Confirmation) (port : Port) (state : State)
      → IsIn confirmation state.under_way.confirmations
      → find_port confirmation.asker state.ports ≡ Some port
      → Makes event state (grant_concluded (grant_work port.chain confirmation state) confirmation state)

pub mild-unheard : IsMild unheard
mild-unheard = record { number = λ p. refl; door = λ p. refl; waits = λ p. refl; owed = λ p none. none; chain = λ p. refl }

-- ---- who is at a port

-- a client isn't a child process
pub role-door : (door : Door) (number : ℕ) (under_way : UnderWay) (role : Role)
    → role_of door number under_way ≡ role → (role ≡ Client → ⊥) → door ≡ Children
role-door Clients number under_way role is other = absurd (other (sym is))
role-door Children number under_way role is other = refl

-- and a client is one
pub role-client : (door : Door) (number : ℕ) (under_way : UnderWay)
    → role_of door number under_way ≡ Client → door ≡ Clients
role-client Clients number under_way is = refl
role-client Children number under_way is = by_test (is_linked_to number under_way.link.state) is
  where
    by_link : (found : Option Confirmation) → role_by_link found ≡ Client → Children ≡ Clients
    by_link None unnamed = absurd (cc)
    by_link (Some confirmation) confirmer = absurd (cc)

    by_test : (linked : Bool) → role_by_helper linked number under_way.confirmations ≡ Client
        → Children ≡ Clients
    by_test true helper = absurd (cc)
    by_test false other = by_link (find_linked number under_way.confirmations) other

-- it stays one where its port is changed
client_after : (number : ℕ) (f : Port → Port) (port : Port) (ports : List Port) → IsMild f
    → find_port number ports ≡ Some port → port.door ≡ Clients → (after : Port)
    → find_port number (change_port number f ports) ≡ Some after → after.door ≡ Clients
client_after number f port ports mild found door after is =
    let there : Some (f port) ≡ Some after = sym (find_port-change_port number f ports mild.number ∙ ap (option_map f) found) ∙ is in
    let same : f port ≡ after = cc in
    ap (λ (p : Port). p.door) (sym same) ∙ mild.door port ∙ door

-- a confirmer is at the port of its confirmation
pub role-confirmer : (door : Door) (number : ℕ) (under_way : UnderWay) (confirmation : Confirmation)
    → role_of door number under_way ≡ Confirmer confirmation
    → find_linked number under_way.confirmations ≡ Some confirmation
role-confirmer Clients number under_way confirmation is = absurd (cc)
role-confirmer Children number under_way confirmation is = by_test (is_linked_to number under_way.link.state) is
  where
    by_link : (found : Option Confirmation) → role_by_link found ≡ Confirmer confirmation
        → found ≡ Some confirmation
    by_link None unnamed = absurd (cc)
    by_link (Some other) confirmer = let same : other ≡ confirmation = cc in ap Some same

    by_test : (linked : Bool)
        → role_by_helper linked number under_way.confirmations ≡ Confirmer confirmation
        → find_linked number under_way.confirmations ≡ Some confirmation
    by_test true helper = absurd (cc)
    by_test false other = by_link (find_linked number under_way.confirmations) other

-- a child process that hasn't named itself is at no confirmation's port, and not at the helper's
pub role-free : (door : Door) (number : ℕ) (under_way : UnderWay)
    → role_of door number under_way ≡ Unnamed → find_linked number under_way.confirmations ≡ None
role-free Clients number under_way is = absurd (cc)
role-free Children number under_way is = by_test (is_linked_to number under_way.link.state) is
  where
    by_link : (found : Option Confirmation) → role_by_link found ≡ Unnamed → found ≡ None
    by_link None unnamed = refl
    by_link (Some other) confirmer = absurd (cc)

    by_test : (linked : Bool) → role_by_helper linked number under_way.confirmations ≡ Unnamed
        → find_linked number under_way.confirmations ≡ None
    by_test true helper = absurd (cc)
    by_test false other = by_link (find_linked number under_way.confirmations) other

pub role-other : (door : Door) (number : ℕ) (under_way : UnderWay)
    → role_of door number under_way ≡ Unnamed → under_way.link.state ≢ states.Linked number
role-other Clients number under_way is linked = absurd (cc)
role-other Children number under_way is linked =
    let same : (number == number) ≡ true = grind (arith, nat_tests) in
    let helper : is_linked_to number under_way.link.state ≡ true = ap (is_linked_to number) linked ∙ same in
    let no : Helper ≡ Unnamed = sym (ap (λ b. role_by_helper b number under_way.confirmations) helper) ∙ is in
    absurd (cc)

-- the helper is at the port of the link
linked_at_it : (number : ℕ) (link : LinkState) → is_linked_to number link ≡ true
    → link ≡ states.Linked number
linked_at_it number states.None is = absurd (cc)
linked_at_it number (states.Starting job) is = absurd (cc)
linked_at_it number (states.Linked at) is =
    let same : number ≡ at = grind (arith, nat_tests) in ap states.Linked (sym same)

pub role-helper : (door : Door) (number : ℕ) (under_way : UnderWay)
    → role_of door number under_way ≡ Helper → under_way.link.state ≡ states.Linked number
role-helper Clients number under_way is = absurd (cc)
role-helper Children number under_way is = by_test (is_linked_to number under_way.link.state) refl is
  where
    by_link : (found : Option Confirmation) → role_by_link found ≡ Helper → ⊥
    by_link None unnamed = absurd (cc)
    by_link (Some other) confirmer = absurd (cc)

    by_test : (linked : Bool) → is_linked_to number under_way.link.state ≡ linked
        → role_by_helper linked number under_way.confirmations ≡ Helper
        → under_way.link.state ≡ states.Linked number
    by_test true at helper = linked_at_it number under_way.link.state at
    by_test false at other = absurd (by_link (find_linked number under_way.confirmations) other)

-- a port is found by its own number
own_number : (number : ℕ) (port : Port) (ports : List Port) → find_port number ports ≡ Some port
    → find_port port.number ports ≡ Some port
own_number number port ports found =
    ap (λ n. find_port n ports) (found_number number ports port found) ∙ found

-- it came to this port where it did so just now
came_by : (own job : ℕ) (was : Option Confirmation) (one : Confirmation)
    → option_map (desk.linked_at own) was ≡ Some one → one.port ≡ Some own
came_by own job None one is = absurd (cc)
came_by own job (Some was) one is =
    let made : desk.linked_at own was ≡ one = cc in sym (ap (λ (c : Confirmation). c.port) made)

-- ---- what each event makes

module _ (event : Happening) where
  module _ (port : Port) (state : State) (found : find_port port.number state.ports ≡ Some port) (door : port.door ≡ Clients) (own : IsOf event port.number) where
    makes-front : (answer : Front) → port.waits ≡ Nothing → port.owed ≡ []
        → Makes event state (look_front answer port state)
    makes-front (Whole body_len) waits owed = serves body_len port state found door waits owed own
    makes-front (Bad announced) waits owed = first (closes port.number (idle port found waits owed door)) (stays (closed port.number state))
    makes-front More waits owed = stays state

    makes-waits : (waits : Waits) (owed : List ℕ) → port.waits ≡ waits → port.owed ≡ owed
        → Makes event state (look_waits waits owed port state)
    makes-waits Nothing [] waits owed = makes-front (front longest_body port.heard) waits owed
    makes-waits Nothing (byte ∷ bytes) waits owed = stays state
    makes-waits (OnAsk ask) owed waits is = stays state
    makes-waits (OnConfirmation job) owed waits is = stays state

  makes-look : (number : ℕ) (found : Option Port) (state : State)
      → find_port number state.ports ≡ found
      → ((port : Port) → found ≡ Some port → port.door ≡ Clients) → IsOf event number
      → Makes event state (look_port found state)
  makes-look number None state is client own = stays state
  makes-look number (Some port) state is client own =
      makes-waits port state (own_number number port state.ports is) (client port refl) (subst (IsOf event) (sym (found_number number state.ports port is)) own) port.waits port.owed refl refl

  makes-over_if : (found : Option Confirmation) (state : State)
      → ((confirmation : Confirmation) → found ≡ Some confirmation → IsIn confirmation state.under_way.confirmations)
      → Makes event state (over_if found state)
  makes-over_if None state there = stays state
  makes-over_if (Some confirmation) state there = overs confirmation state (there confirmation refl)

  makes-grant : (found : Option Port) (confirmation : Confirmation) (state : State)
      → IsIn confirmation state.under_way.confirmations
      → find_port confirmation.asker state.ports ≡ found
      → Makes event state (grant_to found confirmation state)
  makes-grant None confirmation state there is = stays state
  makes-grant (Some port) confirmation state there is = grants confirmation port state there is

  makes-consent : (said : Consent) (confirmation : Confirmation) (number : ℕ) (piece : List ℕ) (state : State)
      → confirmation.port ≡ Some number → IsIn confirmation state.under_way.confirmations
      → Makes event state (consent_by said confirmation piece state)
  makes-consent NotYet confirmation number piece state at there =
      first (goes_on (with_heard confirmation.job piece state).under_way (says number piece confirmation at there)) (stays (with_heard confirmation.job piece state))
  makes-consent Yes confirmation number piece state at there =
      makes-grant (find_port confirmation.asker state.ports) confirmation state there refl
  makes-consent No confirmation number piece state at there = overs confirmation state there

  makes-goes_on : (job number : ℕ) (found : Option Confirmation) (rest : List ℕ) (state : State)
      → find_job job state.under_way.confirmations ≡ found
      → ((one : Confirmation) → found ≡ Some one → one.port ≡ Some number)
      → Makes event state (confirmer_goes_on found rest state)
  makes-goes_on job number None rest state is at = stays state
  makes-goes_on job number (Some confirmation) rest state is at =
      makes-consent (consent confirmation.job (confirmation.heard ++ rest)) confirmation number rest state (at confirmation refl) (in-by_job job state.under_way.confirmations confirmation is)

  -- a child process that hasn't named itself
  module _ (number : ℕ) (piece : List ℕ) (port : Port) (state : State) (came : event ≡ Heard number piece) (found : find_port number state.ports ≡ Some port) (door : port.door ≡ Children) (free : find_linked number state.under_way.confirmations ≡ None) (other : state.under_way.link.state ≢ states.Linked number) where
    makes-shut : Makes event state (shut number state)
    makes-shut = first (closes number (child port found door free)) (stays (closed number state))

    makes-named : (kind : JobKind) (job : ℕ) (one : StartedJob) (rest : List ℕ)
        → find_started job state.under_way.started ≡ Some one → one.job.kind ≡ kind
        → Makes event state (named_by kind job number rest state)
    makes-named kinds.Helper job one rest started kind =
        first (names job number record { port = port; found = found; door = door; free = free; other = other; piece = piece; came = came; one = one; started = started; own = kind }) (tells rest (helper_named job number state))
    makes-named kinds.Confirm job one rest started kind =
        first (links job number record { port = port; found = found; door = door; free = free; other = other; piece = piece; came = came; one = one; started = started; own = kind })
        (makes-goes_on job number _ rest (confirmer_named job number state) refl (λ c there.
        came_by number job (find_job job state.under_way.confirmations) c
        (sym (find_by-change desk.job_of job (desk.linked_at number) state.under_way.confirmations (λ d. refl)) ∙ there)))

    makes-ticket : (same : Bool) (job : ℕ) (one : StartedJob) (rest : List ℕ)
        → find_started job state.under_way.started ≡ Some one
        → Makes event state (if same then named_by one.job.kind one.job.number number rest state else shut number state)
    makes-ticket true job one rest started =
        makes-named one.job.kind one.job.number one rest (ap (λ j. find_started j state.under_way.started) (found_key (λ (one : StartedJob). one.job.number) job state.under_way.started one started) ∙ started) refl
    makes-ticket false job one rest started = makes-shut

    makes-hello : (job : ℕ) (found_job : Option StartedJob) (ticket rest : List ℕ)
        → find_started job state.under_way.started ≡ found_job
        → Makes event state (hello_heard found_job ticket number rest state)
    makes-hello job None ticket rest is = makes-shut
    makes-hello job (Some one) ticket rest is =
        makes-ticket (bytes_eq one.ticket ticket) job one rest is

    makes-message : (read : Result FromChildMessage ChildFault) (rest : List ℕ)
        → Makes event state (first_message read number rest state)
    makes-message (Ok (Hello job ticket)) rest =
        makes-hello job (find_started job state.under_way.started) ticket rest refl
    makes-message (Ok (Signed ask signature)) rest = makes-shut
    makes-message (Ok (Refused ask)) rest = makes-shut
    makes-message (Ok (True ask)) rest = makes-shut
    makes-message (Ok (False ask)) rest = makes-shut
    makes-message (Ok (Granted job)) rest = makes-shut
    makes-message (Ok (Denied job)) rest = makes-shut
    makes-message (Err fault) rest = makes-shut

    makes-frame : (answer : Front) (heard : List ℕ)
        → Makes event state (first_frame answer number heard state)
    makes-frame (Whole body_len) heard =
        makes-message (from_child_of (front_body body_len heard)) (after_front body_len heard)
    makes-frame (Bad announced) heard = makes-shut
    makes-frame More heard = stays state

  makes-heard_role : (role : Role) (port : Port) (piece : List ℕ) (state : State)
      → event ≡ Heard port.number piece → find_port port.number state.ports ≡ Some port
      → role_of port.door port.number state.under_way ≡ role
      → Makes event state (heard_by_role role port piece state)
  makes-heard_role Client port piece state came found is =
      first (alters port.number (heard_more piece) (hears piece came))
      (makes-look port.number _ (changed port.number (heard_more piece) state) refl (client_after port.number (heard_more piece) port state.ports (mild_of (hears piece came)) found (role-client port.door port.number state.under_way is)) (heard_more piece, hears piece came))
  makes-heard_role Unnamed port piece state came found is =
      first (alters port.number (heard_more piece) (hears piece came))
      (makes-frame port.number piece (heard_more piece port) (changed port.number (heard_more piece) state) came
      (find_port-change_port port.number (heard_more piece) state.ports (λ p. refl) ∙ ap (option_map (heard_more piece)) found)
      (role-door port.door port.number state.under_way Unnamed is (λ no. absurd (cc)))
      (role-free port.door port.number state.under_way is) (role-other port.door port.number state.under_way is)
      (front 262144 (port.heard ++ piece)) (port.heard ++ piece))
  makes-heard_role Helper port piece state came found is = tells piece state
  makes-heard_role (Confirmer confirmation) port piece state came found is =
      let linked = role-confirmer port.door port.number state.under_way confirmation is in
      makes-consent (consent confirmation.job (confirmation.heard ++ piece)) confirmation port.number piece state (linked_port port.number state.under_way.confirmations confirmation linked) (in-by_port port.number state.under_way.confirmations confirmation linked)

  makes-heard : (number : ℕ) (found : Option Port) (piece : List ℕ) (state : State)
      → event ≡ Heard number piece → find_port number state.ports ≡ found
      → Makes event state (heard_at found piece state)
  makes-heard number None piece state came is = stays state
  makes-heard number (Some port) piece state came is =
      makes-heard_role _ port piece state (came ∙ ap (λ n. Heard n piece) (sym (found_number number state.ports port is))) (own_number number port state.ports is) refl

  makes-took_role : (role : Role) (port : Port) (count : ℕ) (state : State)
      → event ≡ Took port.number count → find_port port.number state.ports ≡ Some port
      → role_of port.door port.number state.under_way ≡ role
      → Makes event state (took_by_role role port.number count state)
  makes-took_role Client port count state took found is =
      first (alters port.number (took_some count) (takes count took))
      (makes-look port.number _ (changed port.number (took_some count) state) refl (client_after port.number (took_some count) port state.ports (mild_of (takes count took)) found (role-client port.door port.number state.under_way is)) (took_some count, takes count took))
  makes-took_role Unnamed port count state took found is = stays state
  makes-took_role Helper port count state took found is =
      first (goes_on (helper_took count state).under_way (sends port.number count port took found (role-helper port.door port.number state.under_way is))) (stays (helper_took count state))
  makes-took_role (Confirmer confirmation) port count state took found is =
      first (goes_on (confirmer_took confirmation.job count state).under_way (prompts port.number count port confirmation took found (role-confirmer port.door port.number state.under_way confirmation is)))
      (stays (confirmer_took confirmation.job count state))

  makes-took : (number : ℕ) (found : Option Port) (count : ℕ) (state : State)
      → event ≡ Took number count → find_port number state.ports ≡ found
      → Makes event state (took_at found count state)
  makes-took number None count state took is = stays state
  makes-took number (Some port) count state took is =
      makes-took_role _ port count state (took ∙ ap (λ n. Took n count) (sym (found_number number state.ports port is))) (own_number number port state.ports is) refl

  makes-ended_role : (role : Role) (port : Port) (state : State) → event ≡ Ended port.number
      → role_of port.door port.number state.under_way ≡ role
      → Makes event state (ended_by_role role port.number state)
  makes-ended_role Client port state end is =
      first (closes port.number (ended end)) (makes-over_if (find_asker port.number state.under_way.confirmations) (closed port.number state) (in-by_asker port.number state.under_way.confirmations))
  makes-ended_role Unnamed port state end is =
      first (closes port.number (ended end)) (stays (closed port.number state))
  makes-ended_role Helper port state end is =
      first (closes port.number (ended end)) (loses (closed port.number state))
  makes-ended_role (Confirmer confirmation) port state end is =
      first (closes port.number (ended end)) (overs confirmation (closed port.number state) (in-by_port port.number state.under_way.confirmations confirmation (role-confirmer port.door port.number state.under_way confirmation is)))

  makes-ended : (number : ℕ) (found : Option Port) (state : State) → event ≡ Ended number
      → find_port number state.ports ≡ found → Makes event state (ended_at found state)
  makes-ended number None state end is = stays state
  makes-ended number (Some port) state end is = makes-ended_role _ port state (end ∙ ap Ended (sym (found_number number state.ports port is))) refl

  makes-failed_by : (kind : JobKind) (number : ℕ) (state : State)
      → Makes event state (failed_by kind number state)
  makes-failed_by kinds.Helper number state = makes-lose_where (is_started_by number state.under_way.link.state)
    where
      makes-lose_where : (is : Bool) → Makes event state (lose_where is state)
      makes-lose_where true = loses state
      makes-lose_where false = stays state
  makes-failed_by kinds.Confirm number state = makes-over_if (find_job number state.under_way.confirmations) state (in-by_job number state.under_way.confirmations)

  makes-failed : (number : ℕ) (found : Option Job) (state : State) → event ≡ StartFailed number
      → find_to_start number state.under_way.to_start ≡ found
      → Makes event state (start_failed found state)
  makes-failed number None state fails is = stays state
  makes-failed number (Some job) state fails is =
      first (goes_on (job_left job.number state).under_way (leaves job.number (fails ∙ ap StartFailed (sym (found_key job_number number state.under_way.to_start job is))))) (makes-failed_by job.kind job.number (job_left job.number state))

-- every event but a joining
pub makes-handle : (event : Happening) (state : State) → ((door : Door) → event ≡ Joined door → ⊥)
    → Makes event state (handle event state)
makes-handle (Joined door) state other = absurd (other door refl)
makes-handle (Heard port piece) state other =
    makes-heard (Heard port piece) port _ piece state refl refl
makes-handle (Took port count) state other =
    makes-took (Took port count) port _ count state refl refl
makes-handle (Ended port) state other = makes-ended (Ended port) port _ state refl refl
makes-handle (Started job ticket) state other =
    first (goes_on (job_started job ticket state).under_way (starts job ticket refl)) (stays (job_started job ticket state))
makes-handle (StartFailed job) state other =
    makes-failed (StartFailed job) job (find_to_start job state.under_way.to_start) state refl refl
makes-handle Tick state other = stays state

-- what holds of a joining and of what the other events make holds of every event
pub by_event_as : (R : Outcome → Type 0) (event : Happening) (state : State)
    → ((door : Door) → event ≡ Joined door → R (join door state))
    → ((outcome : Outcome) → Makes event state outcome → R outcome) → R (handle event state)
by_event_as R (Joined door) state joins makes = joins door refl
by_event_as R (Heard port piece) state joins makes =
    makes _ (makes-handle (Heard port piece) state (λ door is. absurd (cc)))
by_event_as R (Took port count) state joins makes =
    makes _ (makes-handle (Took port count) state (λ door is. absurd (cc)))
by_event_as R (Ended port) state joins makes =
    makes _ (makes-handle (Ended port) state (λ door is. absurd (cc)))
by_event_as R (Started job ticket) state joins makes =
    makes _ (makes-handle (Started job ticket) state (λ door is. absurd (cc)))
by_event_as R (StartFailed job) state joins makes =
    makes _ (makes-handle (StartFailed job) state (λ door is. absurd (cc)))
by_event_as R Tick state joins makes = makes _ (makes-handle Tick state (λ door is. absurd (cc)))

pub by_event : (R : Outcome → Type 0) (event : Happening) (state : State)
    → ((door : Door) → R (join door state))
    → ((outcome : Outcome) → Makes event state outcome → R outcome) → R (handle event state)
by_event R event state joins makes = by_event_as R event state (λ door is. joins door) makes
