-- A piece of a run and what is told of it, in both runs.
use Rattle.std.proofs.Common.{◌≡◌, ℕ, ◌<◌, ◌≤◌, ◌^◌, List, [], ◌∷◌, ◌++◌, length, refl, sym, ap, subst, ◌∙◌, arith, append_assoc, Bool, true, false, Option, Some, None}
use Rattle.std.specs.Prelude.{IsSome, is_some}
use Rattle.std.proofs.lemmas.List.Elements.{All-append}
use Rattle.lists.specs.Rising.{is_among}
use Rattle.lists.proofs.KeyedLemmas.{found_key}
use Rattle.world_ports.specs.declared.Door.{Door}
use Rattle.world_ports.specs.declared.Door.TheVariants.{Clients, Children}
use Rattle.world_ports.specs.declared.Moment.{Moment}
use Rattle.wire_text.specs.Bounds.{longest_body}
use Rattle.wire_text.specs.Frames.{Bad, Front, More, front}
use Rattle.wire_text.specs.Wire.{IsBytes}
use Rattle.wire_text.proofs.FrontLemmas.{front-short}
use Rattle.wire_text.proofs.SplitLemmas.{split-more}
use Rattle.record_world.specs.Frames.{rest_bytes}
use Rattle.record_world.specs.Recording.{Left as Told, Port as Kept, Taken, find_port as find_kept, heard as kept_heard, held, longest_piece, number_of as kept_number, taken, taken_by}
use Rattle.agent_model.specs.Events.{Happening, Joined, Heard, Ended, Took, Started, StartFailed, Tick}
use Rattle.agent_model.specs.Looks.{due, due_front}
use Rattle.agent_model.specs.Sound.{IsSound}
use Rattle.agent_model.specs.State.{Fits, Nothing, OnAsk, OnConfirmation, Port, State, Waits, find_port}
use Rattle.agent_model.specs.Step.{handle, heard_at, step}
use Rattle.agent_model.specs.Time.{at_moment}
use Rattle.agent_model.proofs.RunLemmas.{at_moment-twice, step-last_port}
use Rattle.agent_secrecy.specs.Hiding.{Seen}
use Rattle.agent_secrecy.specs.Pieces.{IsOfBytes}
use Rattle.agent_secrecy.proofs.TrackLemmas.{was_open}
use Rattle.replay_laws.specs.Lines.{events_of, lines_of}
use Rattle.replay_laws.specs.Naming.{IsFrontOf, Keeps, name_in}
use Rattle.replay_laws.specs.Redacting.{IsRenaming, blanked_state}
use Rattle.replay_laws.specs.Replaying.{AllFitUnless, IsRead, Replay, stepped_all}
use Rattle.replay_laws.specs.Telling.{BringsAlike, IsOfChild, IsShort, told_bytes, told_split}
use Rattle.replay_laws.specs.Ticks.{ticked}
use Rattle.replay_laws.proofs.DueLemmas.{NothingIsDue, heard_due, quiet_due}
use Rattle.replay_laws.proofs.EventLemmas.{Pair, heard_as_is, pair_of, told_heard}
use Rattle.replay_laws.proofs.FollowLemmas.{Agrees, AreAlike, Comes, Follow, agrees_later, comes, next, none_comes, one_comes, other_sound, other_time, unpassed}
use Rattle.replay_laws.proofs.KeepLemmas.{taken_keeps, taken_told}
use Rattle.replay_laws.proofs.PieceLemmas.{heard_up_to, lines_come, no_bad_front, step_fresh}
use Rattle.replay_laws.proofs.RecordedLemmas.{AreTracked, Tracked, TrackedBy, found_apart, heard_tracked, quiet_tracked, re_tracked, with_kept}
use Rattle.replay_laws.proofs.ShortLemmas.{taken_short}
use Rattle.replay_laws.proofs.ReplayLemmas as base
use Rattle.replay_laws.proofs.SpokenLemmas.{all_passed, events_told, nothing_heard, one_piece, taken_same}
use Rattle.replay_laws.proofs.SightLemmas.{heard_alike, quiet_alike}

-- ---- one event of both

module _ (all : List (List ℕ)) (few : length all < 2 ^ 64) (renaming : IsRenaming (name_in all)) (moment : Moment)
    (state : State) (replay : Replay) (follow : Follow all state replay) where
  abbrev C : Happening → Told → Type 0
  C event told = Comes all few renaming moment event state replay follow told

  abbrev here : State
  here = at_moment moment state

  abbrev there : State
  there = at_moment moment replay.state

  abbrev gone_ports : List ℕ
  gone_ports = (ticked moment replay.state).closes

  both : AreAlike all here there
  both = follow.alike moment

  sound_here : IsSound here
  sound_here = base.sound_here all few renaming moment state replay follow

  due_here : NothingIsDue here
  due_here = base.due_here all few renaming moment state replay follow

  tracked_here : AreTracked all here.ports replay.recording.ports
  tracked_here = base.tracked_here all few renaming moment state replay follow

  gone_here : (number : ℕ) → is_among number gone_ports ≡ true → find_port number here.ports ≡ None
  gone_here = base.gone_here all few renaming moment state replay follow

  passed_by : (passed : Bool) (number : ℕ) → is_among number gone_ports ≡ passed
      → IsSome (find_port number state.ports) → find_port number here.ports ≡ None → passed ≡ true
  passed_by = base.passed_by all few renaming moment state replay follow

  unpassed_by : (passed : Bool) (number : ℕ) (port : Port) → is_among number gone_ports ≡ passed
      → find_port number here.ports ≡ Some port → passed ≡ false
  unpassed_by = base.unpassed_by all few renaming moment state replay follow

  none_stays : (event : Happening)
      → (next all few renaming moment event state replay follow).last_port ≡ state.last_port → (number : ℕ)
      → (next all few renaming moment event state replay follow).last_port < number
      → find_kept number replay.recording.ports ≡ None
  none_stays = base.none_stays all few renaming moment state replay follow

  child_other : (number : ℕ) → IsOfChild number here → IsOfChild number there
  child_other = base.child_other all few renaming moment state replay follow

  -- ---- bytes come

  abbrev heard_told : ℕ → List ℕ → Option Kept → Told
  heard_told number piece found = kept_heard found piece replay.recording

  -- the recorder's port of this number, after a piece
  abbrev new_of : Kept → List ℕ → Kept
  new_of kept piece =
      held (taken kept piece replay.recording.passphrases).bytes (taken kept piece replay.recording.passphrases).port

  new_number : (kept : Kept) (piece : List ℕ) (number : ℕ)
      → find_kept number replay.recording.ports ≡ Some kept
      → (taken kept piece replay.recording.passphrases).port.number ≡ number
  new_number kept piece number found =
      (taken_same kept.door kept piece replay.recording.passphrases).0
      ∙ found_key kept_number number replay.recording.ports kept found

  -- another port's, above the last one
  none_heard : (number : ℕ) (piece : List ℕ) (kept : Kept)
      → find_kept number replay.recording.ports ≡ Some kept
      → (above : ℕ) → (next all few renaming moment (Heard number piece) state replay follow).last_port < above
      → find_kept above (heard_told number piece (Some kept)).kept.ports ≡ None
  none_heard number piece kept found above is =
      let own = new_number kept piece number found in
      let last = step-last_port state moment (Heard number piece) in
      let none = follow.none above (omega (arith, is, last)) in
      ap (λ n. find_kept above (with_kept n (new_of kept piece) replay.recording.ports)) own
      ∙ found_apart number above (new_of kept piece) replay.recording.ports own
      (λ same. let e : Some kept ≡ None = sym found ∙ ap (λ n. find_kept n replay.recording.ports) (sym same) ∙ none in cc)
      ∙ none

  -- nobody is there any more
  heard_nobody : (found : Option Kept) (number : ℕ) (piece : List ℕ)
      → find_kept number replay.recording.ports ≡ found
      → Fits (Heard number piece) state → find_port number here.ports ≡ None
      → IsFrontOf (heard_told number piece found).kept.passphrases all
      → C (Heard number piece) (heard_told number piece found)
  heard_nobody None number piece is fits gone grown =
      let last = step-last_port state moment (Heard number piece) in
      let same : next all few renaming moment (Heard number piece) state replay follow ≡ here =
      ap (λ f. (heard_at f piece here).state) gone in
      none_comes all few renaming moment (Heard number piece) state replay follow (heard_told number piece None) tt refl
      (subst (λ (s : State). AreAlike all s there) (sym same) both) (subst NothingIsDue (sym same) due_here)
      (follow.last ∙ sym last) grown
      (subst (λ (s : State). AreTracked all s.ports replay.recording.ports) (sym same) tracked_here)
      (none_stays (Heard number piece) last)
  heard_nobody (Some kept) number piece is fits gone grown =
      let last = step-last_port state moment (Heard number piece) in
      let same : next all few renaming moment (Heard number piece) state replay follow ≡ here =
      ap (λ f. (heard_at f piece here).state) gone in
      let took = taken kept piece replay.recording.passphrases in
      let own = new_number kept piece number is in
      let passed : is_among number gone_ports ≡ true = passed_by (is_among number gone_ports) number refl fits.0 gone in
      let none = all_passed moment number (length took.bytes) took.bytes gone_ports there passed in
      let events = events_told took number own in
      none_comes all few renaming moment (Heard number piece) state replay follow (heard_told number piece (Some kept))
      (subst (λ es. AllFitUnless moment gone_ports es there) (sym events) none.0)
      (ap (λ es. stepped_all moment gone_ports es there) events ∙ none.1)
      (subst (λ (s : State). AreAlike all s there) (sym same) both) (subst NothingIsDue (sym same) due_here)
      (follow.last ∙ sym last) grown
      (subst (λ (s : State). AreTracked all s.ports (heard_told number piece (Some kept)).kept.ports) (sym same)
      (subst (λ n. AreTracked all here.ports (with_kept n (new_of kept piece) replay.recording.ports)) (sym own)
      (re_tracked all number (new_of kept piece) here.ports replay.recording.ports own (ap is_some is)
      (λ at port apart found. tracked_here at port found)
      (λ port found. absurd (let e : Some port ≡ None = sym found ∙ gone in cc)))))
      (none_heard number piece kept is)

  -- a child process
  child_by : (door : Door) (kept : Kept) (piece : List ℕ) (early : List (List ℕ)) → door ≡ Children
      → (taken_by door kept piece early).bytes ≡ piece
  child_by Children kept piece early is = refl
  child_by Clients kept piece early is = absurd (cc)

  heard_child : (number : ℕ) (piece : List ℕ) (port : Port) (kept : Kept)
      → find_kept number replay.recording.ports ≡ Some kept → kept.door ≡ Children → Fits (Heard number piece) state
      → length piece ≤ longest_piece → find_port number here.ports ≡ Some port → port.door ≡ Children
      → IsFrontOf (heard_told number piece (Some kept)).kept.passphrases all
      → C (Heard number piece) (heard_told number piece (Some kept))
  heard_child number piece port kept is door fits read found client grown =
      let last = step-last_port state moment (Heard number piece) in
      let took = taken kept piece replay.recording.passphrases in
      let own = new_number kept piece number is in
      let bytes : took.bytes ≡ piece = child_by kept.door kept piece replay.recording.passphrases door in
      let child : IsOfChild number here = λ p at. ap (λ (x : Port). x.door) (let e : Some p ≡ Some port = sym at ∙ found in let same : p ≡ port = cc in same) ∙ client in
      one_comes all few renaming moment (Heard number piece) state replay follow (heard_told number piece (Some kept))
      (Heard number piece)
      (events_told took number own ∙ ap (λ b. heard_up_to number (length b) b) bytes ∙ one_piece number piece fits.1 read) fits
      (λ passed. absurd (let e : Some port ≡ None = sym found ∙ gone_here number passed in cc))
      (λ out. quiet_alike (name_in all) renaming (Heard number piece) here there both child (child_other number child))
      (quiet_due (Heard number piece) here child sound_here.rising due_here) (follow.last ∙ sym last) grown
      (subst (λ n. AreTracked all (handle (Heard number piece) here).state.ports (with_kept n (new_of kept piece) replay.recording.ports)) (sym own)
      (re_tracked all number (new_of kept piece) (handle (Heard number piece) here).state.ports replay.recording.ports own (ap is_some is)
      (λ at p apart there. quiet_tracked all (Heard number piece) here replay.recording.ports (λ d no. absurd (cc)) child sound_here tracked_here at p there)
      (λ p at. child_tracked p.door p.heard kept piece door (child_after number piece p child at))))
      (none_heard number piece kept is)
    where
      child_tracked : (d : Door) (heard : List ℕ) (k : Kept) (b : List ℕ) → k.door ≡ Children
          → d ≡ Children
          → TrackedBy all d heard (new_of k b)
      child_tracked Children heard k b is_child same =
          (taken_same k.door k b replay.recording.passphrases).1 ∙ is_child
      child_tracked Clients heard k b is_child same = absurd (cc)

      child_after : (n : ℕ) (b : List ℕ) (p : Port) → IsOfChild n here
          → find_port n (handle (Heard n b) here).state.ports ≡ Some p → p.door ≡ Children
      child_after n b p child_at at =
          let was = was_open (Heard n b) here (λ d no. absurd (cc)) sound_here n p at in
          was.2 ∙ child_at was.0 was.1

  -- a client, of whose piece something is told or nothing
  module _ (number : ℕ) (piece : List ℕ) (port : Port) (kept : Kept)
      (is : find_kept number replay.recording.ports ≡ Some kept) (fits : Fits (Heard number piece) state)
      (small : IsBytes piece) (found : find_port number here.ports ≡ Some port) (client : port.door ≡ Clients)
      (tracked : TrackedBy all Clients port.heard kept)
      (grown : IsFrontOf (heard_told number piece (Some kept)).kept.passphrases all) where
    abbrev took : Taken
    took = taken kept piece replay.recording.passphrases

    keeps_here : Keeps port.heard kept
    keeps_here = tracked.0

    small_whole : IsBytes (port.heard ++ piece)
    small_whole = All-append (λ byte. byte < 256) port.heard piece tracked.1 small

    short_whole : IsShort (name_in all) (port.heard ++ piece)
    short_whole =
        taken_short all few port.heard piece kept replay.recording.passphrases keeps_here tracked.1 small tracked.2 grown

    told_whole : told_bytes (name_in all) (port.heard ++ piece) ≡ told_bytes (name_in all) port.heard ++ took.bytes
    told_whole = taken_told all port.heard piece kept replay.recording.passphrases keeps_here grown

    pair : Pair (name_in all) renaming (told_bytes (name_in all)) number port there
    pair =
        pair_of (name_in all) renaming (told_bytes (name_in all)) number port here there both found

    pair_client : pair.port.door ≡ Clients
    pair_client = ap (λ (p : Port). p.door) (sym pair.same) ∙ client

    pair_heard : pair.port.heard ≡ told_bytes (name_in all) port.heard
    pair_heard =
        sym
        (heard_as_is (name_in all) renaming (told_bytes (name_in all)) pair.port.door pair.port.number pair.port.heard)
        ∙ ap (λ (p : Port). p.heard) (sym pair.same)
        ∙ told_heard (name_in all) renaming (told_bytes (name_in all)) port.door port.number port.heard client

    brings : BringsAlike (name_in all) (handle (Heard number piece) here) (handle (Heard number took.bytes) there)
    brings =
        heard_alike
        (name_in all) renaming number piece took.bytes port here there both found client told_whole small_whole short_whole

    due_next : NothingIsDue (next all few renaming moment (Heard number piece) state replay follow)
    due_next = heard_due number piece port here sound_here.rising found client due_here

    -- nor is anything to be taken of it in the other run
    due_told : (waits : Waits) (owed : List ℕ) → due_front waits owed port.heard ≡ More
        → due_front waits owed (told_bytes (name_in all) port.heard) ≡ More
    due_told Nothing [] none =
        let nothing : told_bytes (name_in all) port.heard ≡ [] =
        ap (told_split (name_in all)) (split-more longest_body port.heard none)
        ∙ ap (λ (f : Front). rest_bytes f port.heard) none in
        ap (front longest_body) nothing ∙ front-short longest_body [] (omega arith)
    due_told Nothing (byte ∷ bytes) none = refl
    due_told (OnAsk ask) owed none = refl
    due_told (OnConfirmation job) owed none = refl

    due_pair : due pair.port ≡ More
    due_pair =
        ap (λ bytes. due_front pair.port.waits pair.port.owed bytes) pair_heard
        ∙ ap (λ (p : Port). due_front p.waits p.owed (told_bytes (name_in all) port.heard)) (sym pair.same)
        ∙ due_told port.waits port.owed (due_here number port found client)

    own : took.port.number ≡ number
    own = new_number kept piece number is

    tracked_next : AreTracked all (next all few renaming moment (Heard number piece) state replay follow).ports (heard_told number piece (Some kept)).kept.ports
    tracked_next =
        subst
        (λ n. AreTracked all (handle (Heard number piece) here).state.ports (with_kept n (new_of kept piece) replay.recording.ports))
        (sym own)
        (heard_tracked all number piece port (new_of kept piece) here replay.recording.ports sound_here.rising found client own (ap is_some is)
        (held_keeps, small_whole, short_whole) tracked_here)
      where
        held_keeps : Keeps (port.heard ++ piece) (new_of kept piece)
        held_keeps = let new = taken_keeps port.heard piece kept replay.recording.passphrases keeps_here in record { door = new.door; bad = new.bad; unrecorded = new.unrecorded }

    last_next : (next all few renaming moment (Heard number piece) state replay follow).last_port ≡ state.last_port
    last_next = step-last_port state moment (Heard number piece)

    unpassed_here : is_among number gone_ports ≡ false
    unpassed_here = unpassed_by (is_among number gone_ports) number port refl found

    -- nothing is told
    silent : took.bytes ≡ [] → C (Heard number piece) (heard_told number piece (Some kept))
    silent none =
        let events : events_of (heard_told number piece (Some kept)).steps ≡ [] =
        events_told took number own ∙ ap (λ b. heard_up_to number (length b) b) none in
        none_comes all few renaming moment (Heard number piece) state replay follow
        (heard_told number piece (Some kept))
        (subst (λ es. AllFitUnless moment gone_ports es there) (sym events) tt)
        (ap (λ es. stepped_all moment gone_ports es there) events)
        (ap (λ (seen : Seen). seen.state) brings ∙ ap (λ (s : State). blanked_state s) (ap (λ b. (handle (Heard number b) there).state) none ∙ nothing_heard number pair.port there pair.found pair_client due_pair))
        due_next (follow.last ∙ sym last_next) grown tracked_next (none_heard number piece kept is)

    fine : (early later : List ℕ) (announced : ℕ) → took.bytes ≡ early ++ later → 0 < length later
        → front longest_body (pair.port.heard ++ early) ≡ Bad announced → ⊥
    fine early later announced cut some bad =
        no_bad_front (name_in all) renaming (port.heard ++ piece)
        (pair.port.heard ++ early) later announced small_whole short_whole
        (told_whole ∙ ap (λ b. told_bytes (name_in all) port.heard ++ b) cut ∙ sym (append_assoc (told_bytes (name_in all) port.heard) early later) ∙ ap (λ b. (b ++ early) ++ later) (sym pair_heard))
        some bad

    -- something is
    spoken : (byte : ℕ) (bytes : List ℕ) → took.bytes ≡ byte ∷ bytes
        → C (Heard number piece) (heard_told number piece (Some kept))
    spoken byte bytes some =
        let time = other_time all few renaming moment Tick state replay follow in
        let sound = other_sound all few renaming moment Tick state replay follow in
        let lines =
        lines_come moment there number pair.port gone_ports unpassed_here time
        (at_moment-twice replay.state moment) sound pair.found pair_client took.bytes fine byte bytes some in
        let events : events_of (heard_told number piece (Some kept)).steps ≡ heard_up_to number (length (byte ∷ bytes)) (byte ∷ bytes) =
        events_told took number own ∙ ap (λ b. heard_up_to number (length b) b) some in
        let whole : State = (step there moment (Heard number took.bytes)).state in
        comes all few renaming moment (Heard number piece) state replay follow
        (heard_told number piece (Some kept)) whole
        (subst (λ es. AllFitUnless moment gone_ports es there) (sym events) lines.0)
        (subst (AreAlike all (next all few renaming moment (Heard number piece) state replay follow)) (sym (unpassed all few renaming moment (Heard number piece) state replay follow (Heard number took.bytes))) (ap (λ (seen : Seen). seen.state) brings))
        (subst (λ es. Agrees whole (stepped_all moment gone_ports es there)) (sym events)
        (agrees_later moment whole (stepped_all moment gone_ports (heard_up_to number (length (byte ∷ bytes)) (byte ∷ bytes)) there) (step_fresh moment (Heard number took.bytes) there sound time) lines.1 (sym lines.2)))
        due_next (follow.last ∙ sym last_next) grown tracked_next (none_heard number piece kept is)

    heard_client : (bytes : List ℕ) → took.bytes ≡ bytes
        → C (Heard number piece) (heard_told number piece (Some kept))
    heard_client [] told = silent told
    heard_client (byte ∷ bytes) told = spoken byte bytes told

  heard_door : (door : Door) (number : ℕ) (piece : List ℕ) (port : Port) (kept : Kept)
      → find_kept number replay.recording.ports ≡ Some kept → Fits (Heard number piece) state → IsBytes piece
      → length piece ≤ longest_piece → find_port number here.ports ≡ Some port → port.door ≡ door
      → TrackedBy all door port.heard kept → IsFrontOf (heard_told number piece (Some kept)).kept.passphrases all
      → C (Heard number piece) (heard_told number piece (Some kept))
  heard_door Clients number piece port kept is fits small read found client tracked grown =
      heard_client number piece port kept is fits small found client tracked grown
      (taken kept piece replay.recording.passphrases).bytes refl
  heard_door Children number piece port kept is fits small read found client tracked grown =
      heard_child number piece port kept is tracked fits read found client grown

  heard_somebody : (found : Option Kept) (number : ℕ) (piece : List ℕ) (port : Port)
      → find_kept number replay.recording.ports ≡ found → Fits (Heard number piece) state → IsBytes piece
      → length piece ≤ longest_piece → find_port number here.ports ≡ Some port
      → Tracked all port.door port.heard found → IsFrontOf (heard_told number piece found).kept.passphrases all
      → C (Heard number piece) (heard_told number piece found)
  heard_somebody None number piece port is fits small read found tracked grown = absurd tracked
  heard_somebody (Some kept) number piece port is fits small read found tracked grown =
      heard_door port.door number piece port kept is fits small read found refl tracked grown

  heard_by : (found : Option Port) (number : ℕ) (piece : List ℕ)
      → find_port number here.ports ≡ found
      → Fits (Heard number piece) state → IsBytes piece → length piece ≤ longest_piece
      → IsFrontOf (heard_told number piece (find_kept number replay.recording.ports)).kept.passphrases all
      → C (Heard number piece) (heard_told number piece (find_kept number replay.recording.ports))
  heard_by None number piece is fits small read grown =
      heard_nobody (find_kept number replay.recording.ports) number piece refl fits is grown
  heard_by (Some port) number piece is fits small read grown =
      heard_somebody (find_kept number replay.recording.ports) number piece port refl fits small read is
      (tracked_here number port is) grown

  -- ---- any event

  pub event_comes : (event : Happening) → Fits event state → IsOfBytes event → IsRead event
      → IsFrontOf (lines_of event replay.last_port replay.recording).kept.passphrases all
      → C event (lines_of event replay.last_port replay.recording)
  event_comes (Joined door) fits bytes read grown =
      base.joined_comes all few renaming moment state replay follow door fits
  event_comes (Heard number piece) fits bytes read grown =
      heard_by (find_port number here.ports) number piece refl fits bytes read grown
  event_comes (Ended number) fits bytes read grown =
      base.ended_comes all few renaming moment state replay follow number fits
  event_comes (Took number count) fits bytes read grown =
      base.took_comes all few renaming moment state replay follow (find_port number here.ports) number count refl fits
  event_comes (Started job ticket) fits bytes read grown =
      base.started_comes all few renaming moment state replay follow job ticket fits
  event_comes (StartFailed job) fits bytes read grown =
      base.failed_comes all few renaming moment state replay follow job fits
  event_comes Tick fits bytes read grown =
      base.tick_comes all few renaming moment state replay follow
