-- A run and the run of its record, event by event: what holds between two events.
use Rattle.std.proofs.Common.{◌≡◌, ℕ, ◌<◌, ◌≤◌, ◌-◌, ◌^◌, List, [], ◌∷◌, length, refl, sym, ap, subst, ◌∙◌, arith, Bool, true, false, Option, Some, None}
use Rattle.std.specs.Prelude.{IsSome, is_some}
use Rattle.world_ports.specs.declared.Door.{Door}
use Rattle.world_ports.specs.declared.Door.TheVariants.{Clients, Children}
use Rattle.world_ports.specs.declared.Moment.{Moment}
use Rattle.helper_link.specs.HelperLink.{sendable}
use Rattle.helper_link.specs.declared.state.LinkState.{LinkState}
use Rattle.helper_link.specs.declared.state.LinkState.TheVariants as states
use Rattle.confirm_desk.specs.Confirmations.{Confirmation, find_linked}
use Rattle.agent_model.specs.Events.{Happening, Joined, Heard, Ended, Took, Started, StartFailed, Tick}
use Rattle.agent_model.specs.NumberLists.{without}
use Rattle.agent_model.specs.Runs.{last_after}
use Rattle.agent_model.specs.Sound.{IsSound, IsSteady}
use Rattle.agent_model.specs.State.{Fits, Port, State, UnderWay, find_port, find_to_start, is_linked_to, numbers, owed_as, owed_by, owed_by_port, role_by_helper, role_by_link, role_of}
use Rattle.agent_model.specs.Step.{handle, step}
use Rattle.agent_model.specs.Time.{GiveTime, at_moment}
use Rattle.agent_model.proofs.BudgetLemmas.{step_keeps-steady}
use Rattle.agent_model.proofs.RunLemmas.{at_moment-twice, step_keeps-sound}
use Rattle.agent_secrecy.specs.Hiding.{Seen, hide_under_way}
use Rattle.agent_secrecy.proofs.BlankLemmas.{length-blank}
use Rattle.agent_secrecy.proofs.SecrecyLemmas.{owed_at_client}
use Rattle.record_world.specs.Recording.{Left as Told, find_port as find_kept}
use Rattle.replay_laws.specs.Lines.{events_of}
use Rattle.replay_laws.specs.Naming.{IsFrontOf, name_in}
use Rattle.replay_laws.specs.Redacting.{IsRenaming}
use Rattle.replay_laws.specs.Replaying.{AllFitUnless, FitsUnless, LooksAlike, Replay, stepped_all, stepped_unless}
use Rattle.replay_laws.specs.Telling.{AreToldAlike, BringsAlike, told_bytes}
use Rattle.replay_laws.specs.Ticks.{is_at_one, ticked}
use Rattle.replay_laws.proofs.DueLemmas.{NothingIsDue, moment_due}
use Rattle.replay_laws.proofs.EventLemmas.{moment-told, pair_of}
use Rattle.replay_laws.proofs.FitLemmas.{closes_are, fits_behind}
use Rattle.replay_laws.proofs.KeptLemmas.{moment-time, step-time}
use Rattle.replay_laws.proofs.LaterLemmas.{later_same, taken_same}
use Rattle.replay_laws.proofs.PieceLemmas.{IsFresh}
use Rattle.replay_laws.proofs.RecordedLemmas.{AreTracked, moment_tracked}
use Rattle.replay_laws.proofs.SightLemmas.{looks_alike}

-- ---- between two events

module _ (all : List (List ℕ)) where
  abbrev pub AreAlike : State → State → Type 0
  AreAlike one other = AreToldAlike (name_in all) one other

  -- both states are alike as any moment begins, where these passphrases come in the whole run
  pub record Follow (state : State) (replay : Replay) : Type 0 where
    pub alike : (moment : Moment)
        → AreAlike (at_moment moment state) (at_moment moment replay.state)
    pub ports : numbers state.ports ≡ numbers replay.state.ports
    pub steady : IsSteady state
    pub other_steady : IsSteady replay.state
    pub sound : IsSound state
    pub other_sound : IsSound replay.state
    pub time : GiveTime replay.state.under_way.limits
    pub none_due : NothingIsDue state
    pub last : replay.last_port ≡ state.last_port
    pub grown : IsFrontOf replay.recording.passphrases all
    pub tracked : AreTracked all state.ports replay.recording.ports
    pub none : (number : ℕ) → state.last_port < number
        → find_kept number replay.recording.ports ≡ None

-- what holds of a state after each event holds after all
stepped_by : (P : State → Type 0) (moment : Moment) (passed : Bool) (event : Happening) (state : State)
    → ((s : State) (e : Happening) → P s → P (step s moment e).state) → P state
    → P (stepped_unless passed moment event state)
stepped_by P moment true event state keeps is = is
stepped_by P moment false event state keeps is = keeps state event is

pub all_keep : (P : State → Type 0) (moment : Moment) (closed : List ℕ) (events : List Happening) (state : State)
    → ((s : State) (e : Happening) → P s → P (step s moment e).state) → P state
    → P (stepped_all moment closed events state)
all_keep P moment closed [] state keeps is = is
all_keep P moment closed (event ∷ later) state keeps is =
    all_keep P moment closed later (stepped_unless (is_at_one event closed) moment event state) keeps
    (stepped_by P moment (is_at_one event closed) event state keeps is)

-- ---- an onlooker sees of a state what is seen of the one in one piece

pub record Agrees (whole final : State) : Type 0 where
  pub ports : whole.ports ≡ final.ports
  pub jobs : whole.under_way.to_start ≡ final.under_way.to_start
  pub faults : whole.under_way.link.faults ≡ final.under_way.link.faults
  pub later : (moment : Moment) → at_moment moment whole ≡ at_moment moment final

pub agrees_same : (whole final : State) → whole ≡ final → Agrees whole final
agrees_same whole final is = record {
  ports = ap (λ (s : State). s.ports) is;
  jobs = ap (λ (s : State). s.under_way.to_start) is;
  faults = ap (λ (s : State). s.under_way.link.faults) is;
  later = λ moment. ap (at_moment moment) is;
}

pub agrees_later : (moment : Moment) (whole final : State) → IsFresh moment whole
    → IsFresh moment final
    → at_moment moment whole ≡ at_moment moment final → Agrees whole final
agrees_later moment whole final one other is =
    let same = taken_same moment whole final one.on_time other.on_time is in
    record {
      ports = ap (λ (s : State). s.ports) same;
      jobs = ap (λ (s : State). s.under_way.to_start) same;
      faults = ap (λ (s : State). s.under_way.link.faults) same;
      later = λ later. later_same moment later whole final one.on_time other.on_time one.after other.after is;
    }

looks_through : (all : List (List ℕ)) → IsRenaming (name_in all) → (state whole final : State)
    → AreAlike all state whole → Agrees whole final → LooksAlike state final
looks_through all renaming state whole final same agrees =
    let looks = looks_alike (name_in all) renaming state whole same in
    record {
      ports = looks.ports ∙ ap numbers agrees.ports;
      owed = λ number port found client.
          let q = pair_of (name_in all) renaming (told_bytes (name_in all)) number port state whole same found in
          let other_client : q.port.door ≡ Clients = ap (λ (p : Port). p.door) (sym q.same) ∙ client in
          let there : find_port number final.ports ≡ Some q.port = ap (find_port number) (sym agrees.ports) ∙ q.found in
          looks.owed number port found client
          ∙ ap (λ at. owed_by at whole.under_way) q.found ∙ owed_at_client q.port whole.under_way other_client
          ∙ sym (ap (λ at. owed_by at final.under_way) there ∙ owed_at_client q.port final.under_way other_client);
      jobs = looks.jobs ∙ agrees.jobs;
      faults = looks.faults ∙ agrees.faults;
    }

-- ---- what fits in one fits in the other

sendable_length : (link : LinkState) (owed other : List ℕ) → length owed ≡ length other
    → length (sendable link owed) ≡ length (sendable link other)
sendable_length states.None owed other is = refl
sendable_length (states.Starting job) owed other is = refl
sendable_length (states.Linked port) owed other is = is

link_owed : (found : Option Confirmation) (one other : Port) (old new : UnderWay)
    → length (owed_as (role_by_link found) one old) ≡ length (owed_as (role_by_link found) other new)
link_owed None one other old new = refl
link_owed (Some confirmation) one other old new = refl

-- what is under way is equal but for what the helper is owed, of which the length is equal
record IsAlikeUnderWay (one other : UnderWay) : Type 0 where
  state : one.link.state ≡ other.link.state
  owed : length one.link.owed ≡ length other.link.owed
  confirmations : one.confirmations ≡ other.confirmations

child_owed : (linked : Bool) (number : ℕ) (one other : Port) (old new : UnderWay)
    → IsAlikeUnderWay old new
    → length (owed_as (role_by_helper linked number old.confirmations) one old)
    ≡ length (owed_as (role_by_helper linked number new.confirmations) other new)
child_owed true number one other old new same =
    sendable_length old.link.state old.link.owed new.link.owed same.owed
    ∙ ap (λ link. length (sendable link new.link.owed)) same.state
child_owed false number one other old new same =
    link_owed (find_linked number old.confirmations) one other old new
    ∙ ap (λ all. length (owed_as (role_by_link (find_linked number all)) other new)) same.confirmations

door_owed : (door : Door) (number : ℕ) (one other : Port) (old new : UnderWay)
    → one.owed ≡ other.owed
    → IsAlikeUnderWay old new
    → length (owed_as (role_of door number old) one old) ≡ length (owed_as (role_of door number new) other new)
door_owed Clients number one other old new owed same = ap length owed
door_owed Children number one other old new owed same =
    child_owed (is_linked_to number old.link.state) number one other old new same
    ∙ ap
    (λ link. length (owed_as (role_by_helper (is_linked_to number link) number new.confirmations) other new)) same.state

port_owed : (one other : Port) (old new : UnderWay) → one.door ≡ other.door
    → one.number ≡ other.number
    → one.owed ≡ other.owed → IsAlikeUnderWay old new
    → length (owed_by_port one old) ≡ length (owed_by_port other new)
port_owed one other old new door number owed same =
    door_owed one.door one.number one other old new owed same
    ∙ ap (λ d. length (owed_as (role_of d one.number new) other new)) door
    ∙ ap (λ n. length (owed_as (role_of other.door n new) other new)) number

module _ (all : List (List ℕ)) (renaming : IsRenaming (name_in all)) (one other : State)
    (same : AreAlike all one other) where
  alike_under_way : IsAlikeUnderWay one.under_way other.under_way
  alike_under_way =
      let is : hide_under_way one.under_way ≡ hide_under_way other.under_way = ap (λ (s : State). s.under_way) same in
      record {
        state = ap (λ (u : UnderWay). u.link.state) is;
        owed =
            sym (length-blank one.under_way.link.owed) ∙ ap (λ (u : UnderWay). length u.link.owed) is
            ∙ length-blank other.under_way.link.owed;
        confirmations = ap (λ (u : UnderWay). u.confirmations) is;
      }

  found_other : (found : Option Port) (number : ℕ) → find_port number one.ports ≡ found
      → IsSome found
      → IsSome (find_port number other.ports)
  found_other None number is there = absurd (cc)
  found_other (Some port) number is there =
      ap is_some (pair_of (name_in all) renaming (told_bytes (name_in all)) number port one other same is).found

  owed_other : (found : Option Port) (number count : ℕ) → find_port number one.ports ≡ found
      → 0 < count
      → count ≤ length (owed_by found one.under_way)
      → count ≤ length (owed_by (find_port number other.ports) other.under_way)
  owed_other None number count is some few = absurd (omega (arith, some, few))
  owed_other (Some port) number count is some few =
      let q = pair_of (name_in all) renaming (told_bytes (name_in all)) number port one other same is in
      let equal =
      port_owed port q.port one.under_way other.under_way (ap (λ (p : Port). p.door) q.same)
      (ap (λ (p : Port). p.number) q.same) (ap (λ (p : Port). p.owed) q.same) alike_under_way in
      subst (λ (at : Option Port). count ≤ length (owed_by at other.under_way)) (sym q.found)
      (omega (arith, few, equal))

  fits_other : (event : Happening) → Fits event one → Fits event other
  fits_other (Joined door) fits =
      subst (λ (n : ℕ). n < 2 ^ 64 - 1) (ap (λ (s : State). s.last_port) same) fits
  fits_other (Heard number piece) fits =
      (found_other (find_port number one.ports) number refl fits.0, fits.1)
  fits_other (Ended number) fits = found_other (find_port number one.ports) number refl fits
  fits_other (Took number count) fits =
      (fits.0, owed_other (find_port number one.ports) number count refl fits.0 fits.1)
  fits_other (Started job ticket) fits =
      subst (λ (s : State). IsSome (find_to_start job s.under_way.to_start)) same fits
  fits_other (StartFailed job) fits =
      subst (λ (s : State). IsSome (find_to_start job s.under_way.to_start)) same fits
  fits_other Tick fits = tt

  fits_unless : (passed : Bool) (event : Happening) → FitsUnless passed event one
      → FitsUnless passed event other
  fits_unless true event fits = tt
  fits_unless false event fits = fits_other event fits

-- ---- an event

module _ (all : List (List ℕ)) (few : length all < 2 ^ 64) (renaming : IsRenaming (name_in all)) (moment : Moment)
    (event : Happening) (state : State) (replay : Replay) (follow : Follow all state replay) where
  -- both as the moment begins
  abbrev pub one : State
  one = at_moment moment state

  abbrev pub other : State
  other = at_moment moment replay.state

  pub alike : AreAlike all one other
  alike = follow.alike moment

  pub one_steady : IsSteady one
  one_steady = step_keeps-steady state moment Tick follow.steady

  pub one_sound : IsSound one
  one_sound = step_keeps-sound state moment Tick follow.sound

  pub other_sound : IsSound other
  other_sound = step_keeps-sound replay.state moment Tick follow.other_sound

  pub other_time : GiveTime other.under_way.limits
  other_time = moment-time moment replay.state follow.time

  pub one_tracked : AreTracked all one.ports replay.recording.ports
  one_tracked = moment_tracked all moment state replay.recording.ports follow.sound follow.tracked

  pub one_due : NothingIsDue one
  one_due = moment_due moment state follow.sound.rising follow.none_due

  -- the ports that the tick closes
  abbrev pub closed : List ℕ
  closed = (ticked moment replay.state).closes

  pub same_closed : closed ≡ (ticked moment state).closes
  same_closed =
      closes_are moment replay.state follow.other_steady
      ∙ ap (λ olds. without olds (numbers other.ports)) (sym follow.ports)
      ∙ ap (without (numbers state.ports)) (sym (looks_alike (name_in all) renaming one other alike).ports)
      ∙ sym (closes_are moment state follow.steady)

  pub fits_here : (what : Happening) → Fits what state
      → FitsUnless (is_at_one what closed) what other
  fits_here what fits =
      fits_unless all renaming one other alike (is_at_one what closed) what
      (subst (λ ports. FitsUnless (is_at_one what ports) what one) (sym same_closed) (fits_behind what moment state follow.steady fits))

  -- the state after what was told
  abbrev pub run_of : Told → State
  run_of told = stepped_all moment closed (events_of told.steps) other

  abbrev pub replay_of : Told → Replay
  replay_of told = record { state = run_of told; recording = told.kept; last_port = last_after event replay.last_port }

  abbrev pub next : State
  next = (step state moment event).state

  -- what comes of what was told
  pub record Comes (told : Told) : Type 0 where
    pub fit : AllFitUnless moment closed (events_of told.steps) other
    pub looks : LooksAlike next (run_of told)
    pub follows : Follow all next (replay_of told)

  pub comes : (told : Told) (whole : State)
      → AllFitUnless moment closed (events_of told.steps) other
      → AreAlike all next whole → Agrees whole (run_of told) → NothingIsDue next
      → last_after event replay.last_port ≡ next.last_port
      → IsFrontOf told.kept.passphrases all → AreTracked all next.ports told.kept.ports
      → ((number : ℕ) → next.last_port < number → find_kept number told.kept.ports ≡ None) → Comes told
  comes told whole fit same agrees due last grown tracked none =
      let looks = looks_through all renaming next whole (run_of told) same agrees in
      record {
        fit = fit;
        looks = looks;
        follows = record {
          alike =
              λ later. subst (AreAlike all (at_moment later next)) (agrees.later later) (moment-told (name_in all) renaming (told_bytes (name_in all)) later next whole same);
          ports = looks.ports;
          steady = step_keeps-steady state moment event follow.steady;
          other_steady =
              all_keep IsSteady moment closed (events_of told.steps) other (λ s e is. step_keeps-steady s moment e is) (step_keeps-steady replay.state moment Tick follow.other_steady);
          sound = step_keeps-sound state moment event follow.sound;
          other_sound =
              all_keep IsSound moment closed (events_of told.steps) other (λ s e is. step_keeps-sound s moment e is) other_sound;
          time =
              all_keep (λ s. GiveTime s.under_way.limits) moment closed (events_of told.steps) other (λ s e is. step-time s moment e is) other_time;
          none_due = due;
          last = last;
          grown = grown;
          tracked = tracked;
          none = none;
        };
      }

  -- one event that is told as it is
  pub unpassed : (what : Happening) → (step other moment what).state ≡ (handle what other).state
  unpassed what = ap (λ (s : State). (handle what s).state) (at_moment-twice replay.state moment)

  one_by : (passed : Bool) (what : Happening) → (passed ≡ true → next ≡ one)
      → (passed ≡ false → BringsAlike (name_in all) (handle event one) (handle what other))
      → AreAlike all next (stepped_unless passed moment what other)
  one_by true what gone brings = subst (λ (s : State). AreAlike all s other) (sym (gone refl)) alike
  one_by false what gone brings =
      subst (AreAlike all next) (sym (unpassed what)) (ap (λ (seen : Seen). seen.state) (brings refl))

  pub one_comes : (told : Told) (what : Happening) → events_of told.steps ≡ what ∷ []
      → Fits what state
      → (is_at_one what closed ≡ true → next ≡ one)
      → (is_at_one what closed ≡ false → BringsAlike (name_in all) (handle event one) (handle what other))
      → NothingIsDue next → last_after event replay.last_port ≡ next.last_port → IsFrontOf told.kept.passphrases all
      → AreTracked all next.ports told.kept.ports
      → ((number : ℕ) → next.last_port < number → find_kept number told.kept.ports ≡ None) → Comes told
  one_comes told what is fits gone brings due last grown tracked none =
      comes told (stepped_all moment closed (what ∷ []) other)
      (subst (λ events. AllFitUnless moment closed events other) (sym is) (fits_here what fits, tt))
      (one_by (is_at_one what closed) what gone brings)
      (agrees_same _ _ (ap (λ events. stepped_all moment closed events other) (sym is))) due last grown tracked none

  -- nothing that changes the other run
  pub none_comes : (told : Told) → AllFitUnless moment closed (events_of told.steps) other
      → run_of told ≡ other
      → AreAlike all next other
      → NothingIsDue next → last_after event replay.last_port ≡ next.last_port → IsFrontOf told.kept.passphrases all
      → AreTracked all next.ports told.kept.ports
      → ((number : ℕ) → next.last_port < number → find_kept number told.kept.ports ≡ None) → Comes told
  none_comes told fit is same due last grown tracked none =
      comes told other fit same (agrees_same other (run_of told) (sym is)) due last grown tracked none
