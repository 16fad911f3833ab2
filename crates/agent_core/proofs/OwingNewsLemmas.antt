-- Which open ports are owed the same behind what an event does to what is under way.
use Rattle.std.proofs.Common.{◌≡◌, ◌≢◌, ℕ, ◌+◌, List, [], ◌++◌, refl, ap, arith, sym, subst, ◌∙◌, Option, Some, None, true, false, ◌⊎◌, inl, inr}
use Rattle.std.specs.Option.{option_map}
use Rattle.lists.specs.Keyed.{has_key}
use Rattle.lists.specs.Rising.{is_among}
use Rattle.lists.proofs.FirstLemmas.{removed_nowhere}
use Rattle.lists.proofs.KeyedLemmas.{differ}
use Rattle.dest_rule.specs.declared.binding.Binding.{Binding}
use Rattle.wire_text.specs.Frames.{front_body}
use Rattle.world_ports.specs.declared.Job.{Job}
use Rattle.world_ports.specs.declared.JobKind.TheVariants as kinds
use Rattle.identity_table.specs.Identities.{HeldKey, find_number}
use Rattle.helper_link.specs.HelperLink.{linked_to, lost, sent}
use Rattle.helper_link.specs.Telling.{telling}
use Rattle.helper_link.specs.declared.state.LinkState.{LinkState}
use Rattle.helper_link.specs.declared.state.LinkState.TheVariants as states
use Rattle.confirm_desk.specs.Calls.{took_at}
use Rattle.confirm_desk.specs.Calls as desk
use Rattle.confirm_desk.specs.declared.held.Held.{Held}
use Rattle.confirm_desk.specs.Confirmations.{Confirmation, Consent, No, NotYet, Yes, consent, find_job, find_linked, heard_more, job_of, linked, linked_at, told, took_some}
use Rattle.agent_model.specs.Asking.{JobsRise}
use Rattle.agent_model.specs.Consents.{grant_by, grant_unless, without_confirmation}
use Rattle.agent_model.specs.Dispatch.{Asker, Served}
use Rattle.agent_model.specs.Errands.{Errand, ask_fault, begun_by, put_unless}
use Rattle.agent_model.specs.KeyStates.{KeyState}
use Rattle.agent_model.specs.Objections.{objection}
use Rattle.agent_model.specs.State.{Port, StartedJob, State, UnderWay, Verification, find_port, is_linked_to, owed_by}
use Rattle.agent_model.specs.Step.{asker_at}
use Rattle.agent_model.specs.Verdicts.{Cause}
use Rattle.agent_model.proofs.JobLemmas.{in-by_port, in-found, linked-change, linked_port}
use Rattle.agent_model.proofs.ServeLemmas.{IsServed, answered, asked, raised, refused, serve-ends}
use Rattle.under_way.specs.Parts.{IsAwaited, IsFor, confirmer_told, told_by, told_if}
use Rattle.agent_core.specs.Confirmers.{grant_of}
use Rattle.agent_core.specs.Parts.{AreSpared, state_of}
use Rattle.agent_core.specs.Served.{served_at}
use Rattle.agent_core.specs.Slots.{IsUntouched, MarkedPorts, Spares, open_of}
use Rattle.agent_core.proofs.AlikeLemmas.{IsAsOwed, as_owed-apart, as_owed-desk, as_owed-same, came-elsewhere, desk-changed, desk-raised, desk-removed, open-apart, owed-alike, owed_at, spared-by, spares-none, spares-on, untouched-apart}

-- ---- the helper

-- it is lost, and its port is closed
pub as_owed-lost : (port : ℕ) (going : UnderWay) (started : List StartedJob) (verifications : List Verification)
    → is_linked_to port going.link.state ≡ false
    → IsAsOwed port going (record going { link = lost going.link; started = started; verifications = verifications })
as_owed-lost port going started verifications apart = as_owed-apart port going _ refl apart refl

-- it sent something, and who asked is told
pub as_owed-answered : (port : ℕ) (piece : List ℕ) (going mid left : UnderWay) (verifications : List Verification)
    → mid ≡ record going { link = (telling piece going.link).link } → left ≡ record mid { verifications = verifications }
    → IsAsOwed port going left
as_owed-answered port piece going mid left verifications heard told =
    as_owed-same port going left (ap (λ (u : UnderWay). u.link.state) told ∙ ap (λ (u : UnderWay). u.link.state) heard)
    (ap (λ (u : UnderWay). u.link.owed) told ∙ ap (λ (u : UnderWay). u.link.owed) heard)
    (ap (λ (u : UnderWay). u.confirmations) told ∙ ap (λ (u : UnderWay). u.confirmations) heard)

-- it comes to another port
pub as_owed-named : (port number job : ℕ) (going : UnderWay) (started : List StartedJob)
    → going.link.state ≡ states.Starting job → number ≢ port
    → IsAsOwed port going (record going { link = linked_to number going.link; started = started })
as_owed-named port number job going started starting apart =
    as_owed-apart port going _ (differ number port apart) (ap (is_linked_to port) starting) refl

-- bytes went to it, at another port
pub as_owed-sent : (port number count : ℕ) (going : UnderWay) → going.link.state ≡ states.Linked number → number ≢ port
    → IsAsOwed port going (record going { link = sent count going.link })
as_owed-sent port number count going at apart =
    let other : is_linked_to port going.link.state ≡ false = ap (is_linked_to port) at ∙ differ number port apart in
    as_owed-apart port going _ other other refl

-- ---- what is put to it

-- no ask was put, or the helper isn't at this port
abbrev pub AsksElsewhere : ℕ → UnderWay → UnderWay → Type 0
AsksElsewhere port old new = (new.link.last ≡ old.link.last) ⊎ (is_linked_to port new.link.state ≡ false)

-- it wasn't there before either
never-begun : (port : ℕ) (link : LinkState) (job : ℕ) → is_linked_to port (begun_by link job) ≡ false
    → is_linked_to port link ≡ false
never-begun port states.None job apart = refl
never-begun port (states.Starting other) job apart = apart
never-begun port (states.Linked at) job apart = apart

pub as_owed-put : (port : ℕ) (cause : Option Cause) (errand : Errand) (asker : ℕ) (going : UnderWay)
    → AsksElsewhere port going (put_unless cause errand asker going).under_way
    → IsAsOwed port going (put_unless cause errand asker going).under_way
as_owed-put port (Some cause) errand asker going elsewhere = as_owed-same port going going refl refl refl
as_owed-put port None errand asker going (inl same) =
    let more : going.link.last + 1 ≡ going.link.last = same in
    absurd (omega (arith, more))
as_owed-put port None errand asker going (inr apart) =
    as_owed-apart port going _ apart (never-begun port going.link.state (going.last_job + 1) apart) refl

-- a request is served
pub as_owed-served : (port : ℕ) (asker : Asker) (held : KeyState) (going : UnderWay) {served : Served}
    → IsServed asker held going served → AsksElsewhere port going served.work.under_way
    → IsAsOwed port going served.work.under_way
as_owed-served port asker held going (answered reply kept greatest) elsewhere = as_owed-same port going going refl refl refl
as_owed-served port asker held going (refused cause) elsewhere = as_owed-same port going going refl refl refl
as_owed-served port asker held going (asked errand free may) elsewhere = as_owed-put port None errand asker.port going elsewhere
as_owed-served port asker held going (raised key signing free) elsewhere =
    as_owed-desk port going _ refl (ap (option_map owed_at) (desk-raised port _ going.confirmations refl))

-- the user consents
granted-unless : (port : ℕ) (cause : Option Cause) (key : HeldKey) (one : Confirmation) (going : UnderWay)
    → AsksElsewhere port going (grant_unless cause key one going).under_way
    → IsAsOwed port going (grant_unless cause key one going).under_way
granted-unless port (Some cause) key one going elsewhere = as_owed-same port going going refl refl refl
granted-unless port None key one going elsewhere = as_owed-put port (ask_fault going) _ one.asker going elsewhere

pub as_owed-granted : (port : ℕ) (lock : Option (List ℕ)) (found : Option HeldKey) (chain : List Binding) (one : Confirmation)
    (wall : ℕ) (going : UnderWay) → AsksElsewhere port going (grant_by lock found chain one wall going).under_way
    → IsAsOwed port going (grant_by lock found chain one wall going).under_way
as_owed-granted port None None chain one wall going elsewhere = as_owed-same port going going refl refl refl
as_owed-granted port None (Some key) chain one wall going elsewhere =
    granted-unless port (objection key key.blob chain one.message one.flags wall) key one going elsewhere
as_owed-granted port (Some lock) found chain one wall going elsewhere = as_owed-same port going going refl refl refl

-- ---- confirmations

-- one ends, whose child process isn't at this port
pub as_owed-ended : (port : ℕ) (job : ℕ) (one : Confirmation) (going : UnderWay) → find_job job going.confirmations ≡ Some one
    → one.port ≢ Some port → IsAsOwed port going (without_confirmation job going)
as_owed-ended port job one going found apart =
    as_owed-desk port going _ refl
    (ap (option_map owed_at) (desk-removed port job one going.confirmations found (came-elsewhere port one apart)))

-- so where it is known to be there, or isn't
pub as_owed-over : (port job : ℕ) (at : Option ℕ) (going : UnderWay)
    → ((one : Confirmation) → find_job job going.confirmations ≡ Some one → one.port ≡ at) → at ≢ Some port
    → IsAsOwed port going (without_confirmation job going)
as_owed-over port job at going own apart = by_found (find_job job going.confirmations) refl
  where
    by_found : (found : Option Confirmation) → find_job job going.confirmations ≡ found
        → IsAsOwed port going (without_confirmation job going)
    by_found None is =
        as_owed-desk port going _ refl
        (ap (λ cs. option_map owed_at (find_linked port cs)) (removed_nowhere (has_key job_of job) going.confirmations is))
    by_found (Some one) is = as_owed-ended port job one going is (λ e. apart (sym (own one is) ∙ e))

-- its child process comes to another port
pub as_owed-linked : (port number job : ℕ) (going : UnderWay) (started : List StartedJob) → IsAwaited (find_job job going.confirmations)
    → number ≢ port → IsAsOwed port going (record going { started = started; confirmations = linked job number going.confirmations })
as_owed-linked port number job going started waits apart = by_found (find_job job going.confirmations) refl waits
  where
    by_found : (found : Option Confirmation) → find_job job going.confirmations ≡ found → IsAwaited found
        → IsAsOwed port going (record going { started = started; confirmations = linked job number going.confirmations })
    by_found None is waits = absurd waits
    by_found (Some one) is waits =
        as_owed-desk port going _ refl
        (ap (option_map owed_at) (desk-changed port job (linked_at number) one going.confirmations is
        (came-elsewhere port one (λ e. let no : None ≡ Some port = sym waits ∙ e in absurd (cc))) (differ number port apart)))

-- its child process took bytes at another port
pub as_owed-took : (port number count last : ℕ) (going : UnderWay) → JobsRise 0 going.confirmations last → number ≢ port
    → IsAsOwed port going (record going { confirmations = took_at number count going.confirmations })
as_owed-took port number count last going order apart = by_found (find_linked number going.confirmations) refl
  where
    by_found : (found : Option Confirmation) → find_linked number going.confirmations ≡ found
        → IsAsOwed port going (record going { confirmations = desk.took_by found count going.confirmations })
    by_found None is = as_owed-desk port going _ refl refl
    by_found (Some one) is =
        let at = linked_port number going.confirmations one is in
        let elsewhere = came-elsewhere port one (λ e. let both : Some number ≡ Some port = sym at ∙ e in let same : number ≡ port = cc in apart same) in
        as_owed-desk port going _ refl
        (ap (option_map owed_at) (desk-changed port one.job (took_some count) one going.confirmations
        (in-found one 0 last order (in-by_port number going.confirmations one is)) elsewhere elsewhere))

-- more was heard of it
heard-owed : (piece : List ℕ) (found : Option Confirmation) → option_map owed_at (option_map (heard_more piece) found) ≡ option_map owed_at found
heard-owed piece None = refl
heard-owed piece (Some one) = refl

desk-told : (port job : ℕ) (piece : List ℕ) (all : List Confirmation)
    → option_map owed_at (find_linked port (told job piece all)) ≡ option_map owed_at (find_linked port all)
desk-told port job piece all = by_either (linked-change port job (heard_more piece) all (λ c. refl))
  where
    by_either : (find_linked port (told job piece all) ≡ find_linked port all)
        ⊎ (find_linked port (told job piece all) ≡ option_map (heard_more piece) (find_linked port all))
        → option_map owed_at (find_linked port (told job piece all)) ≡ option_map owed_at (find_linked port all)
    by_either (inl same) = ap (option_map owed_at) same
    by_either (inr made) = ap (option_map owed_at) made ∙ heard-owed piece (find_linked port all)

-- the child process of one, at another port, sent a piece, by which that may end
pub as_owed-told : (port number last : ℕ) (piece : List ℕ) (going : UnderWay) → JobsRise 0 going.confirmations last → number ≢ port
    → IsAsOwed port going (confirmer_told number piece going)
as_owed-told port number last piece going order apart = by_found (find_linked number going.confirmations) refl
  where
    by_consent : (one : Confirmation) → find_linked number going.confirmations ≡ Some one → (says : Consent)
        → IsAsOwed port going (let telling = desk.telling_by says one piece going.confirmations in told_by telling.verdict one.job telling.desk going)
    by_consent one is NotYet = as_owed-desk port going _ refl (desk-told port one.job piece going.confirmations)
    by_consent one is Yes =
        let at = linked_port number going.confirmations one is in
        as_owed-ended port one.job one going (in-found one 0 last order (in-by_port number going.confirmations one is))
        (λ e. let both : Some number ≡ Some port = sym at ∙ e in let same : number ≡ port = cc in apart same)
    by_consent one is No =
        let at = linked_port number going.confirmations one is in
        as_owed-ended port one.job one going (in-found one 0 last order (in-by_port number going.confirmations one is))
        (λ e. let both : Some number ≡ Some port = sym at ∙ e in let same : number ≡ port = cc in apart same)

    by_found : (found : Option Confirmation) → find_linked number going.confirmations ≡ found
        → IsAsOwed port going (told_if found (desk.telling_if found piece going.confirmations) going)
    by_found None is = as_owed-same port going going refl refl refl
    by_found (Some one) is = by_consent one is (consent one.job (one.heard ++ piece))

-- ---- what is spared

-- jobs are started, or can't be
pub spared-jobs : (was : State) (going left : UnderWay) (ports : MarkedPorts) (jobs : List Job) (started : List StartedJob)
    → left ≡ record going { to_start = jobs; started = started } → AreSpared was going ports → AreSpared was left ports
spared-jobs was going left ports jobs started is spared =
    spared-by ports ports going left (spares-none ports)
    (λ port at untouched there.
    as_owed-same port going left (ap (λ (u : UnderWay). u.link.state) is) (ap (λ (u : UnderWay). u.link.owed) is)
    (ap (λ (u : UnderWay). u.confirmations) is)) was spared

-- a request is taken
pub spared-served : (body_len wall asks : ℕ) (client : Port) (held : KeyState) (going left : UnderWay) (old mid new : MarkedPorts)
    → left ≡ (served_at body_len wall client held going).work.under_way → asks ≡ going.link.last → Spares old mid → Spares mid new
    → ((number : ℕ) (at : Port) → IsUntouched number new.closed new.touched → find_port number new.ports ≡ Some at
    → (left.link.last ≡ asks) ⊎ (is_linked_to number left.link.state ≡ false))
    → (was : State) → AreSpared was going old → AreSpared was left new
spared-served body_len wall asks client held going left old mid new is before first later touched =
    spared-by old new going left (spares-on old mid new first later)
    (λ port at untouched there.
    let served = served_at body_len wall client held going in
    subst (IsAsOwed port going) (sym is)
    (as_owed-served port _ held going (serve-ends (asker_at (record { mono = held.table.greatest; wall = wall }) client) held going (front_body body_len client.heard))
    (subst (λ (u : UnderWay). AsksElsewhere port going u) is (by_asks port (touched port at untouched there)))))
  where
    by_asks : (port : ℕ) → (left.link.last ≡ asks) ⊎ (is_linked_to port left.link.state ≡ false) → AsksElsewhere port going left
    by_asks port (inl same) = inl (same ∙ before)
    by_asks port (inr apart) = inr apart

-- a consent is granted
pub spared-granted : (wall asks : ℕ) (chain : List Binding) (one : Confirmation) (held : KeyState) (going left : UnderWay) (old new : MarkedPorts)
    → left ≡ (grant_of chain one wall held going).under_way → asks ≡ going.link.last → Spares old new
    → ((number : ℕ) (at : Port) → IsUntouched number new.closed new.touched → find_port number new.ports ≡ Some at
    → (left.link.last ≡ asks) ⊎ (is_linked_to number left.link.state ≡ false))
    → (was : State) → AreSpared was going old → AreSpared was left new
spared-granted wall asks chain one held going left old new is before spares touched =
    spared-by old new going left spares
    (λ port at untouched there.
    subst (IsAsOwed port going) (sym is)
    (as_owed-granted port held.lock (find_number one.addition held.table.identities) chain one wall going
    (subst (λ (u : UnderWay). AsksElsewhere port going u) is (by_asks port (touched port at untouched there)))))
  where
    by_asks : (port : ℕ) → (left.link.last ≡ asks) ⊎ (is_linked_to port left.link.state ≡ false) → AsksElsewhere port going left
    by_asks port (inl same) = inl (same ∙ before)
    by_asks port (inr apart) = inr apart

-- what was held back, as a confirmation
abbrev pub confirmation_by : Held → Confirmation
confirmation_by held = record {
  job = 0;
  asker = held.asker;
  addition = held.addition;
  message = held.message;
  flags = held.flags;
  raised_at = 0;
  port = None;
  heard = [];
  owed = [];
}

-- the child process of a confirmation sent a piece, and its port is touched
pub spared-told : (number : ℕ) (piece : List ℕ) (going left : UnderWay) (old new : MarkedPorts)
    → left ≡ confirmer_told number piece going → JobsRise 0 going.confirmations going.last_job → Spares old new
    → (IsUntouched number new.closed new.touched → find_port number new.ports ≡ None)
    → (was : State) → AreSpared was going old → AreSpared was left new
spared-told number piece going left old new is order spares touched =
    spared-by old new going left spares
    (λ port at untouched there.
    subst (IsAsOwed port going) (sym is)
    (as_owed-told port number going.last_job piece going order (open-apart number port new at touched untouched there)))

-- a child process names itself at a port that was touched: it is the helper
pub spared-helper_named : (number : ℕ) (job : Job) (going left : UnderWay) (started : List StartedJob) (old new : MarkedPorts)
    → left ≡ record going { link = linked_to number going.link; started = started } → IsFor job.kind job.number going
    → job.kind ≡ kinds.Helper → Spares old new → is_among number new.touched ≡ true
    → (was : State) → AreSpared was going old → AreSpared was left new
spared-helper_named number job going left started old new is for helper spares touched =
    let starting : going.link.state ≡ states.Starting job.number = subst (λ kind. IsFor kind job.number going) helper for in
    spared-by old new going left spares
    (λ port at untouched there.
    subst (IsAsOwed port going) (sym is)
    (as_owed-named port number job.number going started starting (untouched-apart number port new.closed new.touched touched untouched)))

-- or it asks the user
pub spared-confirmer_named : (number : ℕ) (job : Job) (going left : UnderWay) (started : List StartedJob) (old new : MarkedPorts)
    → left ≡ record going { started = started; confirmations = linked job.number number going.confirmations }
    → IsFor job.kind job.number going → job.kind ≡ kinds.Confirm → Spares old new → is_among number new.touched ≡ true
    → (was : State) → AreSpared was going old → AreSpared was left new
spared-confirmer_named number job going left started old new is for asks spares touched =
    let waits : IsAwaited (find_job job.number going.confirmations) = subst (λ kind. IsFor kind job.number going) asks for in
    spared-by old new going left spares
    (λ port at untouched there.
    subst (IsAsOwed port going) (sym is)
    (as_owed-linked port number job.number going started waits (untouched-apart number port new.closed new.touched touched untouched)))

-- bytes went to the helper, whose port is touched
pub spared-sent : (number count : ℕ) (going left : UnderWay) (old new : MarkedPorts) → left ≡ record going { link = sent count going.link }
    → going.link.state ≡ states.Linked number → Spares old new
    → (IsUntouched number new.closed new.touched → find_port number new.ports ≡ None)
    → (was : State) → AreSpared was going old → AreSpared was left new
spared-sent number count going left old new is at_it spares touched =
    spared-by old new going left spares
    (λ port at untouched there.
    subst (IsAsOwed port going) (sym is)
    (as_owed-sent port number count going at_it (open-apart number port new at touched untouched there)))

-- or to one that asks the user
pub spared-took : (number count : ℕ) (going left : UnderWay) (old new : MarkedPorts)
    → left ≡ record going { confirmations = took_at number count going.confirmations }
    → JobsRise 0 going.confirmations going.last_job → Spares old new
    → (IsUntouched number new.closed new.touched → find_port number new.ports ≡ None)
    → (was : State) → AreSpared was going old → AreSpared was left new
spared-took number count going left old new is order spares touched =
    spared-by old new going left spares
    (λ port at untouched there.
    subst (IsAsOwed port going) (sym is)
    (as_owed-took port number count going.last_job going order (open-apart number port new at touched untouched there)))

-- an event begins, in the same second or another
pub spared-begun : (wall : ℕ) (held : KeyState) (going left : UnderWay) (second : ℕ) (old new : MarkedPorts)
    → left ≡ record going { second = second } → new ≡ record old { closed = []; touched = [] }
    → AreSpared (state_of wall held going (open_of old)) left new
spared-begun wall held going left second old new is begun port untouched = (
  ap (λ (v : MarkedPorts). find_port port v.ports) begun,
  ap (λ (v : MarkedPorts). owed_by (find_port port v.ports) left) begun
      ∙ owed-alike port old.ports going left
      (λ at there.
      as_owed-same port going left (ap (λ (u : UnderWay). u.link.state) is) (ap (λ (u : UnderWay). u.link.owed) is)
      (ap (λ (u : UnderWay). u.confirmations) is)),
)
