-- Where a confirmer's bytes are cut does not matter.
use Rattle.std.proofs.Common.{◌≡◌, ◌≢◌, ℕ, List, ◌++◌, refl, ap, sym, ◌∙◌, Option, Some, None, Bool, true, false}
use Rattle.std.proofs.lemmas.List.{append_assoc}
use Rattle.lists.specs.Keyed.{has_key}
use Rattle.lists.proofs.FirstLemmas.{remove-change}
use Rattle.world_ports.specs.declared.Door.{Door}
use Rattle.world_ports.specs.declared.Door.TheVariants.{Clients, Children}
use Rattle.world_ports.specs.declared.Moment.{Moment}
use Rattle.confirm_desk.specs.Confirmations.{Confirmation, Consent, No, NotYet, Yes, consent, find_linked, heard_more, remove_job, told, job_of}
use Rattle.dest_rule.specs.declared.binding.Binding.{Binding}
use Rattle.identity_table.specs.Identities.{HeldKey, find_number}
use Rattle.agent_model.specs.Actions.{Outcome, stay}
use Rattle.agent_model.specs.Asking.{IsAttended}
use Rattle.agent_model.specs.Consents.{close_confirmer, confirmer_heard, consent_by, grant, grant_by, grant_concluded, grant_to, grant_unless, grant_work, over, with_heard, without_confirmation}
use Rattle.agent_model.specs.Events.{Heard}
use Rattle.agent_model.specs.Sound.{IsTied}
use Rattle.agent_model.specs.State.{Confirmer, Port, State, UnderWay, change_port, find_port, is_linked_to, role_by_helper, role_of}
use Rattle.agent_model.specs.Step.{handle, heard_at, heard_by_role, step}
use Rattle.agent_model.specs.Time.{GiveTime, at_moment, taken_in}
use Rattle.agent_model.specs.Objections.{objection}
use Rattle.agent_model.specs.Verdicts.{Cause, NotConfirmed, Refuses, tell}
use Rattle.agent_model.proofs.OpenLemmas.{some_port}
use Rattle.agent_model.proofs.BudgetLemmas.{confirmer_role}
use Rattle.agent_model.proofs.JobLemmas.{in-by_port, in-found, linked-changed, linked_port}
use Rattle.confirm_desk.proofs.CutLemmas.{consent-append, told-told}
use Rattle.agent_model.proofs.LeadLemmas.{changes, same}
use Rattle.agent_model.proofs.MakeLemmas.{role-confirmer, role-door}
use Rattle.agent_model.specs.Pieces.{Agree}
use Rattle.agent_model.proofs.PiecesLemmas.{agree-over, agree-stepped, agree-waits, heard_next}
use Rattle.agent_model.proofs.PortsLemmas.{find_port-remove_port, found_number}
use Rattle.agent_model.proofs.OnTimeLemmas.{taken_in-at_moment}
use Rattle.agent_model.proofs.RunLemmas.{leads-absent}

-- ---- what the user says

-- once it is said, more bytes change nothing
pub said : (job : ℕ) (a b : List ℕ) → consent job a ≢ NotYet → consent job (a ++ b) ≡ consent job a
said job a b decided = consent-append job a b decided

-- ---- confirmations

-- it doesn't matter what was heard of one that ends
remove-told : (job : ℕ) (piece : List ℕ) (confirmations : List Confirmation)
    → remove_job job (told job piece confirmations) ≡ remove_job job confirmations
remove-told job piece confirmations =
    remove-change (has_key job_of job) (heard_more piece) confirmations (λ c. refl)

module _ (piece : List ℕ) (confirmation : Confirmation) (chain : List Binding) (wall : ℕ) (under_way : UnderWay) where
  unless-alike : (result : Option Cause) (key : HeldKey)
      → grant_unless result key (heard_more piece confirmation) under_way ≡ grant_unless result key confirmation under_way
  unless-alike (Some cause) key = refl
  unless-alike None key = refl

  -- nor what was heard before it is granted
  granted-alike : (lock : Option (List ℕ)) (found : Option HeldKey)
      → grant_by lock found chain (heard_more piece confirmation) wall under_way ≡ grant_by lock found chain confirmation wall under_way
  granted-alike (Some passphrase) found = refl
  granted-alike None None = refl
  granted-alike None (Some key) =
      unless-alike (objection key key.blob chain confirmation.message confirmation.flags wall) key

-- ---- the confirmer's port

role-unhelped : (door : Door) (number : ℕ) (under_way : UnderWay) (confirmation : Confirmation)
    → role_of door number under_way ≡ Confirmer confirmation
    → is_linked_to number under_way.link.state ≡ false
role-unhelped Clients number under_way confirmation is = absurd (cc)
role-unhelped Children number under_way confirmation is = by_test (is_linked_to number under_way.link.state) refl is
  where
    by_test : (linked : Bool) → is_linked_to number under_way.link.state ≡ linked
        → role_by_helper linked number under_way.confirmations ≡ Confirmer confirmation
        → is_linked_to number under_way.link.state ≡ false
    by_test true at helper = absurd (cc)
    by_test false at other = at

-- bytes there are the confirmer's
pub handle-confirmer : (number : ℕ) (piece : List ℕ) (port : Port) (confirmation : Confirmation) (state : State)
    → find_port number state.ports ≡ Some port
    → role_of port.door port.number state.under_way ≡ Confirmer confirmation
    → handle (Heard number piece) state ≡ confirmer_heard confirmation piece state
handle-confirmer number piece port confirmation state found role =
    ap (λ o. heard_at o piece state) found ∙ ap (λ r. heard_by_role r port piece state) role

module _ (moment : Moment) (state : State) (number : ℕ) (a b : List ℕ) (port : Port) (confirmation : Confirmation) (begun : taken_in moment state ≡ state) (tied : IsTied state) (attended : IsAttended state) (found : find_port number state.ports ≡ Some port) (role : role_of port.door port.number state.under_way ≡ Confirmer confirmation) where
  abbrev uw : UnderWay
  uw = state.under_way

  numbered : port.number ≡ number
  numbered = found_number number state.ports port found

  linked : find_linked port.number uw.confirmations ≡ Some confirmation
  linked = role-confirmer port.door port.number uw confirmation role

  place : confirmation.port ≡ Some number
  place = linked_port port.number uw.confirmations confirmation linked ∙ ap Some numbered

  -- its client is open
  asker : (client : Port) × (find_port confirmation.asker state.ports ≡ Some client)
  asker =
      some_port confirmation.asker state.ports
      (attended.askers confirmation.job confirmation (in-found confirmation 0 uw.last_job tied.raised.order (in-by_port port.number uw.confirmations confirmation linked)))

  -- its own port is closed with it
  shut : (f : Port → Port) → ((p : Port) → (f p).number ≡ p.number)
      → ((p : Port) → (f p).door ≡ p.door)
      → find_port number (change_port confirmation.asker f (close_confirmer confirmation.port state.ports)) ≡ None
  shut f keeps doors =
      leads-absent number (close_confirmer confirmation.port state.ports) (changes confirmation.asker f _ keeps doors same)
      (ap (λ at. find_port number (close_confirmer at state.ports)) place ∙ find_port-remove_port number 0 state.last_port state.ports tied.rising)

  granted : grant confirmation state ≡ grant_concluded (grant_work asker.0.chain confirmation state) confirmation state
  granted = ap (λ o. grant_to o confirmation state) asker.1

  -- the first part was heard, and the next event begins
  abbrev next : State
  next = with_heard confirmation.job a state

  next_is : taken_in moment next ≡ next
  next_is = ap (λ (s : State). let t : State = record s { under_way = record next.under_way { second = s.under_way.second } } in t) begun

  next_role : role_of port.door port.number next.under_way ≡ Confirmer (heard_more a confirmation)
  next_role =
      confirmer_role port next.under_way (heard_more a confirmation) (role-door port.door port.number uw (Confirmer confirmation) role (λ no. absurd (cc))) (role-unhelped port.door port.number uw confirmation role)
      (linked-changed port.number 0 (heard_more a) uw.confirmations uw.last_job confirmation (λ c. refl) tied.raised.order linked)

  left_same : without_confirmation confirmation.job next.under_way ≡ without_confirmation confirmation.job uw
  left_same =
      ap (λ confirmations. let u : UnderWay = record (without_confirmation confirmation.job uw) { confirmations = confirmations } in u) (remove-told confirmation.job a uw.confirmations)

  work_same : grant_work asker.0.chain (heard_more a confirmation) next ≡ grant_work asker.0.chain confirmation state
  work_same =
      granted-alike a confirmation asker.0.chain state.moment.wall (without_confirmation confirmation.job next.under_way) state.held.lock (find_number confirmation.addition state.held.table.identities)
      ∙ ap (λ u. grant_by state.held.lock (find_number confirmation.addition state.held.table.identities) asker.0.chain confirmation state.moment.wall u) left_same

  granted_next : grant (heard_more a confirmation) next ≡ grant_concluded (grant_work asker.0.chain confirmation state) (heard_more a confirmation) next
  granted_next =
      ap (λ o. grant_to o (heard_more a confirmation) next) asker.1 ∙ ap (λ w. grant_concluded w (heard_more a confirmation) next) work_same

  over_next : over (heard_more a confirmation) next ≡ over confirmation state
  over_next =
      ap (λ u. let o : Outcome = record (over confirmation state) { state = record (over confirmation state).state { under_way = u } } in o) left_same

  -- by what is said then, the rest brings what the whole brings
  rest_alike : (says : Consent)
      → consent_by says confirmation (a ++ b) state ≡ consent_by says (heard_more a confirmation) b next
  rest_alike NotYet =
      ap (λ confirmations. stay (record state { under_way = record uw { confirmations = confirmations } }))
      (sym (told-told confirmation.job a b uw.confirmations))
  rest_alike Yes = granted ∙ sym granted_next
  rest_alike No = sym over_next

  whole_decided : (says : Consent) → consent confirmation.job (confirmation.heard ++ a) ≡ says
      → says ≢ NotYet → consent confirmation.job (confirmation.heard ++ (a ++ b)) ≡ says
  whole_decided says is other =
      ap (consent confirmation.job) (sym (append_assoc confirmation.heard a b))
      ∙ said confirmation.job (confirmation.heard ++ a) b (λ not_yet. other (sym is ∙ not_yet)) ∙ is

  confirmer_parts : (says : Consent) → consent confirmation.job (confirmation.heard ++ a) ≡ says →
      Agree moment (confirmer_heard confirmation (a ++ b) state) (consent_by says confirmation a state)
      (heard_next moment number b (consent_by says confirmation a state).state)
  confirmer_parts Yes is =
      agree-over moment number b _ _ (ap (λ c. consent_by c confirmation (a ++ b) state) (whole_decided Yes is (λ no. absurd (cc))))
      (ap (λ (o : Outcome). find_port number o.state.ports) granted ∙ shut (tell (grant_work asker.0.chain confirmation state).verdict) (λ p. refl) (λ p. refl))
  confirmer_parts No is =
      agree-over moment number b _ _ (ap (λ c. consent_by c confirmation (a ++ b) state) (whole_decided No is (λ no. absurd (cc))))
      (shut (tell (Refuses NotConfirmed)) (λ p. refl) (λ p. refl))
  confirmer_parts NotYet is =
      let says : Consent = consent confirmation.job ((confirmation.heard ++ a) ++ b) in
      agree-waits moment number b _ _ next refl next_is
      (ap (λ bytes. consent_by (consent confirmation.job bytes) confirmation (a ++ b) state) (sym (append_assoc confirmation.heard a b))
      ∙ rest_alike says ∙ sym (handle-confirmer number b port (heard_more a confirmation) next found next_role))

-- two parts of a confirmer's piece are the piece
pub confirmer_parts_agree : (state : State) (moment : Moment) (number : ℕ) (a b : List ℕ) (port : Port) (confirmation : Confirmation)
    → GiveTime state.under_way.limits → IsTied (at_moment moment state)
    → IsAttended (at_moment moment state)
    → find_port number (at_moment moment state).ports ≡ Some port
    → role_of port.door port.number (at_moment moment state).under_way ≡ Confirmer confirmation →
    Agree moment (step state moment (Heard number (a ++ b))) (step state moment (Heard number a))
    (step (step state moment (Heard number a)).state moment (Heard number b))
confirmer_parts_agree state moment number a b port confirmation time tied attended found role =
    let start : State = at_moment moment state in
    let first : handle (Heard number a) start ≡ confirmer_heard confirmation a start = handle-confirmer number a port confirmation start found role in
    let whole : handle (Heard number (a ++ b)) start ≡ confirmer_heard confirmation (a ++ b) start = handle-confirmer number (a ++ b) port confirmation start found role in
    let second : (o : Outcome) → Outcome = λ o. heard_next moment number b o.state in
    let parts = confirmer_parts moment start number a b port confirmation (taken_in-at_moment moment state) tied attended found role _ refl in
    agree-stepped state moment number a b time record {
      state = ap (λ (o : Outcome). at_moment moment o.state) whole ∙ parts.state ∙ ap (λ (o : Outcome). at_moment moment (second o).state) (sym first);
      actions = ap (λ (o : Outcome). o.actions) whole ∙ parts.actions ∙ ap (λ (o : Outcome). o.actions ++ (second o).actions) (sym first);
      put = ap (λ (o : Outcome). o.put) whole ∙ parts.put ∙ ap (λ (o : Outcome). o.put ++ (second o).put) (sym first);
    }
