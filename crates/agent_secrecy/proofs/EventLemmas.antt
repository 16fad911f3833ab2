-- Events but for what a client sends and takes, with secrets hidden.
use Rattle.std.proofs.Common.{◌≡◌, ℕ, suc, List, [], ◌++◌, length, refl, sym, ap, subst, ◌∙◌, Option, Some, None, if◌then◌else◌, ◌∷◌}
use Rattle.world_ports.specs.declared.Door.{Door}
use Rattle.world_ports.specs.declared.Door.TheVariants.{Clients, Children}
use Rattle.world_ports.specs.declared.Job.{Job}
use Rattle.world_ports.specs.declared.JobKind.{JobKind}
use Rattle.world_ports.specs.declared.JobKind.TheVariants as kinds
use Rattle.agent_model.specs.Actions.{Outcome, closing, stay}
use Rattle.agent_model.specs.Answers.{helper_heard, lose}
use Rattle.agent_model.specs.Children.{changed, closed, confirmer_named, heard_more, helper_named, is_wanted, job_left, job_started, started_if, unheard}
use Rattle.agent_model.specs.Consents.{confirmer_heard, over}
use Rattle.agent_model.specs.State.{State, UnderWay, find_to_start, role_of}
use Rattle.agent_model.specs.Step.{admitted, confirmer_took, has_room, helper_took, join, joined}
use Rattle.agent_model.proofs.BothLemmas.{AreAlikeInBoth, IsChild, IsSameWay}
use Rattle.agent_secrecy.specs.Hiding.{Seen, bare, hide_ports, hide_state, hide_under_way, seen}
use Rattle.agent_secrecy.proofs.BlankLemmas.{blank-drop}
use Rattle.agent_secrecy.proofs.WorkLemmas.{with_owed}
use Rattle.agent_secrecy.proofs.PortLemmas.{admitted-hidden, change_port-hidden, closing-hidden, has_room-hidden, heard_more-hidden, unheard-hidden}
use Rattle.agent_secrecy.proofs.StateLemmas.{changed-hidden, closed-hidden, confirmer_heard-hidden, exactly, helper_heard-hidden, hide_outcome, lose-hidden, over-hidden, with_ports}

module _ (key : List ℕ → List ℕ) (keeps : (bytes : List ℕ) → length (key bytes) ≡ length bytes) (heard : ℕ → List ℕ → List ℕ) where
  abbrev hide : State → State
  hide state = hide_state key heard state

  abbrev hidden_outcome : Outcome → Outcome
  hidden_outcome outcome = hide_outcome key keeps heard outcome

  exact : (one hidden_one : Outcome) → hidden_one ≡ hidden_outcome one
      → bare hidden_one ≡ seen key heard one
  exact one hidden_one same = exactly key keeps heard one hidden_one same

  -- ---- jobs

  is_wanted-hidden : (kind : JobKind) (number : ℕ) (under_way : UnderWay)
      → is_wanted kind number (hide_under_way under_way) ≡ is_wanted kind number under_way
  is_wanted-hidden kinds.Helper number under_way = refl
  is_wanted-hidden kinds.Confirm number under_way = refl

  started_if-hidden : (found : Option Job) (ticket : List ℕ) (under_way : UnderWay)
      → started_if found ticket (hide_under_way under_way) ≡ started_if found ticket under_way
  started_if-hidden None ticket under_way = refl
  started_if-hidden (Some job) ticket under_way = ap (λ wanted. if wanted then record { job = job; ticket = ticket } ∷ [] else []) (is_wanted-hidden job.kind job.number under_way)

  pub job_started-hidden : (number : ℕ) (ticket : List ℕ) (state : State)
      → job_started number ticket (hide state) ≡ hide (job_started number ticket state)
  job_started-hidden number ticket state =
      ap (λ more. let new : State = record (hide (job_started number ticket state)) { under_way = record (hide_under_way (job_started number ticket state).under_way) { started = state.under_way.started ++ more } } in new)
      (started_if-hidden (find_to_start number state.under_way.to_start) ticket state.under_way)

  -- ---- a child process names itself

  helper_named-hidden : (job number : ℕ) (state : State) → IsChild number state
      → helper_named job number (hide state) ≡ hide (helper_named job number state)
  helper_named-hidden job number state child =
      ap (with_ports (hide (helper_named job number state))) (change_port-hidden heard number unheard unheard state.ports (λ port found. unheard-hidden heard port (child port found)))

  confirmer_named-hidden : (job number : ℕ) (state : State) → IsChild number state
      → confirmer_named job number (hide state) ≡ hide (confirmer_named job number state)
  confirmer_named-hidden job number state child =
      ap (with_ports (hide (confirmer_named job number state))) (change_port-hidden heard number unheard unheard state.ports (λ port found. unheard-hidden heard port (child port found)))

  -- ---- in a state, and with its secrets hidden

  same_role : (door : Door) (number : ℕ) (state : State)
      → role_of door number (hide_under_way state.under_way) ≡ role_of door number state.under_way
  same_role Clients number state = refl
  same_role Children number state = refl

  abbrev IsHidden : State → State → Type 0
  IsHidden one other = other ≡ hide one

  abbrev IsSeen : Outcome → Outcome → Type 0
  IsSeen one other = bare other ≡ seen key heard one

  -- what comes of the one is seen of the other
  at : (does : State → Outcome) (one other : State) → IsHidden one other
      → bare (does (hide one)) ≡ seen key heard (does one) → IsSeen (does one) (does other)
  at does one other is same = ap (λ s. bare (does s)) is ∙ same

  abbrev with_closes : Seen → List ℕ → Seen
  with_closes left closes = record left { closes = closes }

  pub alike : AreAlikeInBoth IsHidden IsSeen
  alike = record {
    way = λ one other is. subst (IsSameWay one) (sym is) record { role = λ door number. same_role door number one; link = refl; confirmations = refl; started = refl; to_start = refl };
    hears = λ number piece one other child is.
        ap (changed number (heard_more piece)) is ∙ changed-hidden key keeps heard number (heard_more piece) (heard_more piece) one (λ port found. heard_more-hidden heard piece port (child port found));
    closes =
        λ number one other is. ap (closed number) is ∙ closed-hidden key keeps heard number one;
    names = λ job number one other child is. ap (helper_named job number) is ∙ helper_named-hidden job number one child;
    links = λ job number one other child is. ap (confirmer_named job number) is ∙ confirmer_named-hidden job number one child;
    leaves = λ job one other is. ap (job_left job) is;
    sends = λ count one other is.
        ap (helper_took count) is
        ∙ ap (λ owed. let new : State = record (hide one) { under_way = with_owed (hide_under_way one.under_way) owed } in new) (blank-drop count one.under_way.link.owed);
    prompts = λ job count one other is. ap (confirmer_took job count) is;
    stays = λ one other is. at stay one other is (exact (stay one) _ refl);
    shuts = λ number next one other is same.
        ap (λ (left : Seen). with_closes left (closing number other.ports left.closes)) same
        ∙ ap (with_closes (seen key heard (next (closed number one)))) (ap (λ (s : State). closing number s.ports (next (closed number one)).closes) is ∙ closing-hidden heard number one.ports (next (closed number one)).closes);
    tells = λ piece one other is. at (helper_heard piece) one other is (exact (helper_heard piece one) _ (helper_heard-hidden key keeps heard piece one));
    loses =
        λ one other is. at lose one other is (exact (lose one) _ (lose-hidden key keeps heard one));
    overs = λ confirmation one other there is. at (over confirmation) one other is (exact (over confirmation one) _ (over-hidden key keeps heard confirmation one));
    consents = λ confirmation piece one other there is. at (confirmer_heard confirmation piece) one other is (confirmer_heard-hidden key keeps heard confirmation piece one);
  }

  -- ---- ports that join

  pub joined-hidden : (door : Door) (state : State) → heard (suc state.last_port) [] ≡ []
      → joined door (hide state) ≡ hide (joined door state)
  joined-hidden door state none =
      ap (λ room. let new : State = record (hide state) { ports = admitted room (suc state.last_port) door (hide_ports heard state.ports); last_port = suc state.last_port } in new) (has_room-hidden heard door state.ports state.under_way)
      ∙ ap (with_ports (hide (joined door state))) (admitted-hidden heard (has_room door state.ports state.under_way) (suc state.last_port) door state.ports none)

  pub join-hidden : (door : Door) (state : State) → heard (suc state.last_port) [] ≡ []
      → join door (hide state) ≡ hidden_outcome (join door state)
  join-hidden door state none =
      ap (λ new. let left : Outcome = record (stay new) { closes = if has_room door (hide_ports heard state.ports) (hide_under_way state.under_way) then [] else suc state.last_port ∷ [] } in left) (joined-hidden door state none)
      ∙ ap (λ room. let left : Outcome = record (stay (hide (joined door state))) { closes = if room then [] else suc state.last_port ∷ [] } in left) (has_room-hidden heard door state.ports state.under_way)
