-- An event of a run and what is told of it, in both runs: all but what is heard.
use Rattle.std.proofs.Common.{◌≡◌, ℕ, suc, ◌<◌, ◌^◌, List, [], ◌∷◌, ◌++◌, length, refl, sym, ap, subst, ◌∙◌, arith, Bool, true, false, Option, Some, None}
use Rattle.std.specs.Prelude.{IsSome, is_some}
use Rattle.std.specs.Option.{option_map}
use Rattle.lists.specs.Rising.{is_among}
use Rattle.world_ports.specs.declared.Door.{Door}
use Rattle.world_ports.specs.declared.Door.TheVariants.{Clients, Children}
use Rattle.world_ports.specs.declared.Moment.{Moment}
use Rattle.wire_text.specs.Wire.{IsBytes}
use Rattle.record_world.specs.Recording.{Left as Told, Port as Kept, find_port as find_kept, new_port as new_kept, only}
use Rattle.agent_model.specs.Events.{Happening, Joined, Ended, Took, Started, StartFailed, Tick}
use Rattle.agent_model.specs.Sound.{IsSound, IsSteady}
use Rattle.agent_model.specs.State.{Fits, Port, State, find_port}
use Rattle.agent_model.specs.Step.{ended_at, handle, took_at}
use Rattle.agent_model.specs.Time.{at_moment}
use Rattle.agent_model.proofs.RunLemmas.{at_moment-follows, step-last_port}
use Rattle.agent_secrecy.specs.Hiding.{hide_port}
use Rattle.agent_secrecy.proofs.PortLemmas.{find_port-hidden}
use Rattle.replay_laws.specs.Lines.{lines_of}
use Rattle.replay_laws.specs.Naming.{Keeps, name_in}
use Rattle.replay_laws.specs.Redacting.{IsRenaming, as_is, told_at}
use Rattle.replay_laws.specs.Replaying.{Replay}
use Rattle.replay_laws.specs.Telling.{IsOfChild, IsShort, told_bytes}
use Rattle.replay_laws.specs.Ticks.{ticked}
use Rattle.replay_laws.proofs.DueLemmas.{NothingIsDue, joined_due, quiet_due, took_due}
use Rattle.replay_laws.proofs.FitLemmas.{gone_behind, open_behind}
use Rattle.replay_laws.proofs.FollowLemmas.{AreAlike, Comes, Follow, next, none_comes, one_comes, one_due, one_sound, one_steady, one_tracked, same_closed}
use Rattle.replay_laws.proofs.RecordedLemmas.{AreTracked, Tracked, joined_tracked, none_behind, quiet_tracked, took_tracked}
use Rattle.replay_laws.proofs.SightLemmas.{joined_alike, quiet_alike, took_alike}

-- ---- one event of both

module _ (all : List (List ℕ)) (few : length all < 2 ^ 64) (renaming : IsRenaming (name_in all)) (moment : Moment)
    (state : State) (replay : Replay) (follow : Follow all state replay) where
  abbrev pub C : Happening → Told → Type 0
  C event told = Comes all few renaming moment event state replay follow told

  abbrev pub here : State
  here = at_moment moment state

  abbrev pub there : State
  there = at_moment moment replay.state

  abbrev pub gone_ports : List ℕ
  gone_ports = (ticked moment replay.state).closes

  -- what holds of both whichever event comes: taken from the module of one event
  pub both : AreAlike all here there
  both = follow.alike moment

  steady_here : IsSteady here
  steady_here = one_steady all few renaming moment Tick state replay follow

  pub sound_here : IsSound here
  sound_here = one_sound all few renaming moment Tick state replay follow

  pub due_here : NothingIsDue here
  due_here = one_due all few renaming moment Tick state replay follow

  pub tracked_here : AreTracked all here.ports replay.recording.ports
  tracked_here = one_tracked all few renaming moment Tick state replay follow

  last_here : here.last_port ≡ state.last_port
  last_here = (at_moment-follows moment state).last

  closed_alike : gone_ports ≡ (ticked moment state).closes
  closed_alike = same_closed all few renaming moment Tick state replay follow

  pub gone_here : (number : ℕ) → is_among number gone_ports ≡ true
      → find_port number here.ports ≡ None
  gone_here number passed =
      gone_behind number moment state follow.steady (ap (is_among number) (sym closed_alike) ∙ passed)

  open_here : (number : ℕ) → IsSome (find_port number state.ports)
      → is_among number gone_ports ≡ false
      → IsSome (find_port number here.ports)
  open_here number was out =
      open_behind number moment state follow.steady was (ap (is_among number) (sym closed_alike) ∙ out)

  -- a port that isn't open any more was closed
  pub passed_by : (passed : Bool) (number : ℕ) → is_among number gone_ports ≡ passed
      → IsSome (find_port number state.ports) → find_port number here.ports ≡ None → passed ≡ true
  passed_by true number is was none = refl
  passed_by false number is was none =
      absurd
      (let some : is_some (find_port number here.ports) ≡ true = open_here number was is in let shut : is_some (find_port number here.ports) ≡ false = ap is_some none in let both_are : true ≡ false = sym some ∙ shut in cc)

  pub unpassed_by : (passed : Bool) (number : ℕ) (port : Port) → is_among number gone_ports ≡ passed
      → find_port number here.ports ≡ Some port → passed ≡ false
  unpassed_by true number port is found =
      absurd (let both_are : Some port ≡ None = sym found ∙ gone_here number is in cc)
  unpassed_by false number port is found = refl

  -- the recorder's ports stay
  pub none_stays : (event : Happening)
      → (next all few renaming moment event state replay follow).last_port ≡ state.last_port → (number : ℕ)
      → (next all few renaming moment event state replay follow).last_port < number
      → find_kept number replay.recording.ports ≡ None
  none_stays event last number above = follow.none number (omega (arith, above, last))

  -- a child process's port in both
  back_by : (a b : Option Port) (q : Port)
      → option_map (hide_port (told_at (told_bytes (name_in all)))) a ≡ option_map (hide_port as_is) b → b ≡ Some q
      → (p : Port) × (a ≡ Some p) × (q.door ≡ p.door)
  back_by None b q same is =
      absurd (let e : None ≡ option_map (hide_port as_is) (Some q) = same ∙ ap (option_map (hide_port as_is)) is in cc)
  back_by (Some p) b q same is =
      let e : Some (hide_port (told_at (told_bytes (name_in all))) p) ≡ Some (hide_port as_is q) =
      same ∙ ap (option_map (hide_port as_is)) is in
      let ports : hide_port (told_at (told_bytes (name_in all))) p ≡ hide_port as_is q = cc in
      (p, refl, ap (λ (x : Port). x.door) (sym ports))

  pub child_other : (number : ℕ) → IsOfChild number here → IsOfChild number there
  child_other number child q found =
      let back = back_by (find_port number here.ports) (find_port number there.ports) q
      (sym (find_port-hidden (told_at (told_bytes (name_in all))) number here.ports) ∙ ap (λ (x : State). find_port number x.ports) both ∙ find_port-hidden as_is number there.ports) found in
      back.2 ∙ child back.0 back.1

  -- ---- the events of no client

  pub tick_comes : C Tick (lines_of Tick replay.last_port replay.recording)
  tick_comes =
      none_comes all few renaming moment Tick state replay follow (only [] replay.recording) tt refl both due_here
      (follow.last ∙ sym last_here) follow.grown tracked_here (none_stays Tick last_here)

  pub ended_comes : (number : ℕ) → Fits (Ended number) state
      → C (Ended number) (lines_of (Ended number) replay.last_port replay.recording)
  ended_comes number fits =
      let last = step-last_port state moment (Ended number) in
      one_comes all few renaming moment (Ended number) state replay follow
      (lines_of (Ended number) replay.last_port replay.recording) (Ended number) refl fits
      (λ passed. ap (λ found. (ended_at found here).state) (gone_here number passed))
      (λ out. quiet_alike (name_in all) renaming (Ended number) here there both tt tt)
      (quiet_due (Ended number) here tt sound_here.rising due_here) (follow.last ∙ sym last) follow.grown
      (quiet_tracked all (Ended number) here replay.recording.ports (λ door is. absurd (cc)) tt sound_here tracked_here)
      (none_stays (Ended number) last)

  pub started_comes : (job : ℕ) (ticket : List ℕ) → Fits (Started job ticket) state
      → C (Started job ticket) (lines_of (Started job ticket) replay.last_port replay.recording)
  started_comes job ticket fits =
      let last = step-last_port state moment (Started job ticket) in
      one_comes all few renaming moment (Started job ticket) state replay follow
      (lines_of (Started job ticket) replay.last_port replay.recording) (Started job ticket) refl fits
      (λ passed. absurd (cc))
      (λ out. quiet_alike (name_in all) renaming (Started job ticket) here there both tt tt)
      (quiet_due (Started job ticket) here tt sound_here.rising due_here) (follow.last ∙ sym last) follow.grown
      (quiet_tracked all (Started job ticket) here replay.recording.ports (λ door is. absurd (cc)) tt sound_here tracked_here)
      (none_stays (Started job ticket) last)

  pub failed_comes : (job : ℕ) → Fits (StartFailed job) state
      → C (StartFailed job) (lines_of (StartFailed job) replay.last_port replay.recording)
  failed_comes job fits =
      let last = step-last_port state moment (StartFailed job) in
      one_comes all few renaming moment (StartFailed job) state replay follow
      (lines_of (StartFailed job) replay.last_port replay.recording) (StartFailed job) refl fits
      (λ passed. absurd (cc))
      (λ out. quiet_alike (name_in all) renaming (StartFailed job) here there both tt tt)
      (quiet_due (StartFailed job) here tt sound_here.rising due_here) (follow.last ∙ sym last) follow.grown
      (quiet_tracked all (StartFailed job) here replay.recording.ports (λ door is. absurd (cc)) tt sound_here tracked_here)
      (none_stays (StartFailed job) last)

  -- ---- a port joins

  pub joined_comes : (door : Door) → Fits (Joined door) state
      → C (Joined door) (lines_of (Joined door) replay.last_port replay.recording)
  joined_comes door fits =
      let last = step-last_port state moment (Joined door) in
      let same : suc here.last_port ≡ suc replay.last_port = ap suc (last_here ∙ sym follow.last) in
      one_comes all few renaming moment (Joined door) state replay follow
      (lines_of (Joined door) replay.last_port replay.recording) (Joined door) refl fits
      (λ passed. absurd (cc))
      (λ out. joined_alike (name_in all) renaming door here there both)
      (joined_due door here due_here) (ap suc follow.last ∙ sym last) follow.grown
      (subst (λ n. AreTracked all (handle (Joined door) here).state.ports (replay.recording.ports ++ new_kept n door ∷ [])) same
      (joined_tracked all door here replay.recording.ports (follow.none (suc here.last_port) (omega (arith, last_here))) tracked_here))
      (λ number above. none_behind all number (suc replay.last_port) door replay.recording.ports (λ is. omega (arith, above, last, is, follow.last)) (follow.none number (omega (arith, above, last))))

  -- ---- bytes are taken

  -- what is tracked of a client
  pub record TrackedClient (heard : List ℕ) (found : Option Kept) : Type 0 where
    pub kept : Kept
    pub there : found ≡ Some kept
    pub keeps : Keeps heard kept
    pub small : IsBytes heard
    pub short : IsShort (name_in all) heard

  tracked_client : (heard : List ℕ) (found : Option Kept) → Tracked all Clients heard found
      → TrackedClient heard found
  tracked_client heard None tracked = absurd tracked
  tracked_client heard (Some kept) tracked =
      record { kept = kept; there = refl; keeps = tracked.0; small = tracked.1; short = tracked.2 }

  client_here : (number : ℕ) (port : Port) → find_port number here.ports ≡ Some port
      → port.door ≡ Clients
      → TrackedClient port.heard (find_kept number replay.recording.ports)
  client_here number port found client =
      tracked_client port.heard (find_kept number replay.recording.ports)
      (subst (λ door. Tracked all door port.heard (find_kept number replay.recording.ports)) client (tracked_here number port found))

  took_quiet : (number count : ℕ) → Fits (Took number count) state → IsOfChild number here
      → C (Took number count) (lines_of (Took number count) replay.last_port replay.recording)
  took_quiet number count fits child =
      let last = step-last_port state moment (Took number count) in
      one_comes all few renaming moment (Took number count) state replay follow
      (lines_of (Took number count) replay.last_port replay.recording) (Took number count) refl fits
      (λ passed. ap (λ found. (took_at found count here).state) (gone_here number passed))
      (λ out. quiet_alike (name_in all) renaming (Took number count) here there both child (child_other number child))
      (quiet_due (Took number count) here child sound_here.rising due_here) (follow.last ∙ sym last) follow.grown
      (quiet_tracked all (Took number count) here replay.recording.ports (λ door is. absurd (cc)) child sound_here tracked_here)
      (none_stays (Took number count) last)

  took_client : (number count : ℕ) (port : Port) → Fits (Took number count) state
      → find_port number here.ports ≡ Some port → port.door ≡ Clients
      → C (Took number count) (lines_of (Took number count) replay.last_port replay.recording)
  took_client number count port fits found client =
      let last = step-last_port state moment (Took number count) in
      let tracked = client_here number port found client in
      one_comes all few renaming moment (Took number count) state replay follow
      (lines_of (Took number count) replay.last_port replay.recording) (Took number count) refl fits
      (λ passed. ap (λ f. (took_at f count here).state) (gone_here number passed))
      (λ out. took_alike (name_in all) renaming number count port here there both found client tracked.small tracked.short)
      (took_due number count port here sound_here.rising found client due_here) (follow.last ∙ sym last) follow.grown
      (took_tracked all number count port here replay.recording.ports sound_here.rising found client tracked_here)
      (none_stays (Took number count) last)

  took_door : (door : Door) (number count : ℕ) (port : Port) → Fits (Took number count) state
      → find_port number here.ports ≡ Some port → port.door ≡ door
      → C (Took number count) (lines_of (Took number count) replay.last_port replay.recording)
  took_door Clients number count port fits found is = took_client number count port fits found is
  took_door Children number count port fits found is =
      took_quiet number count fits
      (λ p there. ap (λ (x : Port). x.door) (let e : Some p ≡ Some port = sym there ∙ found in let same : p ≡ port = cc in same) ∙ is)

  pub took_comes : (found : Option Port) (number count : ℕ) → find_port number here.ports ≡ found
      → Fits (Took number count) state
      → C (Took number count) (lines_of (Took number count) replay.last_port replay.recording)
  took_comes None number count is fits =
      took_quiet number count fits (λ p there. absurd (let e : Some p ≡ None = sym there ∙ is in cc))
  took_comes (Some port) number count is fits = took_door port.door number count port fits is refl
