-- The ports of a recorder beside those of the run that it records.
use Rattle.std.proofs.Common.{◌≡◌, ◌≢◌, ℕ, suc, ◌+◌, ◌<◌, List, [], ◌∷◌, ◌++◌, refl, sym, ap, subst, ◌∙◌, arith, inl, inr, Bool, true, false, cond, Option, Some, None}
use Rattle.std.specs.Prelude.{◌==◌, is_some}
use Rattle.std.specs.Option.{option_map}
use Rattle.std.proofs.lemmas.Bool.{cases_eq}
use Rattle.std.proofs.lemmas.Bool.Decides.{nat_tests}
use Rattle.std.proofs.lemmas.List.Elements.{All-drop, All-nil}
use Rattle.lists.proofs.FirstLemmas.{find-before}
use Rattle.lists.specs.Keyed.{change_by, has_key}
use Rattle.world_ports.specs.declared.Door.{Door}
use Rattle.world_ports.specs.declared.Door.TheVariants.{Clients, Children}
use Rattle.world_ports.specs.declared.Moment.{Moment}
use Rattle.wire_text.specs.Bounds.{longest_body}
use Rattle.wire_text.specs.Frames.{Bad, Front, More, Split, Whole, after_front, front, front_body, split}
use Rattle.wire_text.specs.Wire.{IsBytes}
use Rattle.wire_text.proofs.FrontLemmas.{front-short}
use Rattle.wire_text.proofs.SplitLemmas.{split-more, split-whole}
use Rattle.record_world.specs.Frames.{ends_badly}
use Rattle.record_world.specs.Recording.{Port as Kept, find_port as find_kept, new_port as new_kept, number_of as kept_number}
use Rattle.agent_model.specs.Actions.{Outcome}
use Rattle.agent_model.specs.Children.{changed, heard_more}
use Rattle.agent_model.specs.Events.{Happening, Joined, Heard, Took}
use Rattle.agent_model.specs.Looks.{due, due_front}
use Rattle.agent_model.specs.Sound.{IsRising, IsSound}
use Rattle.agent_model.specs.State.{Nothing, OnAsk, OnConfirmation, Port, State, Waits, change_port, find_port}
use Rattle.agent_model.specs.Step.{attempts, handle, has_room, look_front, looked, take_frame, took_some}
use Rattle.agent_model.specs.Time.{at_moment}
use Rattle.agent_model.specs.Verdicts.{Verdict, tell}
use Rattle.agent_model.proofs.ClientLemmas.{handle-heard, handle-took, looked-found}
use Rattle.agent_model.proofs.PortsLemmas.{find_port-change_port, find_port-left, found_number, rising-change_port}
use Rattle.agent_secrecy.proofs.LengthLemmas.{length-hidden_bytes}
use Rattle.agent_secrecy.proofs.QuietLemmas.{IsQuiet, moment_keeps, quiet_keeps}
use Rattle.agent_secrecy.proofs.TrackLemmas.{WasAt, admitted_found, another, that, was_at, was_at_moment, was_open}
use Rattle.replay_laws.specs.Naming.{Keeps, kept_of, name_in}
use Rattle.replay_laws.specs.Telling.{AreShort, IsShort}

-- ---- what is known of a port

-- of a client what is kept and how its bytes are told; of a child process that it is one
abbrev pub TrackedBy : List (List ℕ) → Door → List ℕ → Kept → Type 0
TrackedBy all Clients heard kept = Keeps heard kept × IsBytes heard × IsShort (name_in all) heard
TrackedBy all Children heard kept = kept.door ≡ Children

abbrev pub Tracked : List (List ℕ) → Door → List ℕ → Option Kept → Type 0
Tracked all door heard None = ⊥
Tracked all door heard (Some kept) = TrackedBy all door heard kept

-- of each open port
abbrev pub AreTracked : List (List ℕ) → List Port → List Kept → Type 0
AreTracked all ports recorded =
    (number : ℕ) (port : Port) → find_port number ports ≡ Some port → Tracked all port.door port.heard
    (find_kept number recorded)

module _ (all : List (List ℕ)) where
  by_same : (door : Door) (heard was : List ℕ) (kept : Kept) → (door ≡ Clients → heard ≡ was)
      → TrackedBy all door was kept → TrackedBy all door heard kept
  by_same Clients heard was kept same tracked =
      subst (λ bytes. TrackedBy all Clients bytes kept) (sym (same refl)) tracked
  by_same Children heard was kept same tracked = tracked

  tracked_same : (door : Door) (heard was : List ℕ) (found : Option Kept)
      → (door ≡ Clients → heard ≡ was)
      → Tracked all door was found → Tracked all door heard found
  tracked_same door heard was None same tracked = tracked
  tracked_same door heard was (Some kept) same tracked = by_same door heard was kept same tracked

  -- ---- as time passes, and events of no client

  pub moment_tracked : (moment : Moment) (state : State) (recorded : List Kept) → IsSound state
      → AreTracked all state.ports recorded → AreTracked all (at_moment moment state).ports recorded
  moment_tracked moment state recorded sound tracked number port found =
      let was = was_at_moment moment state sound number port found in
      tracked_same port.door port.heard was.0.heard (find_kept number recorded)
      (λ client. moment_keeps length-hidden_bytes moment state number port was.0 sound.rising found client was.1)
      (subst (λ door. Tracked all door was.0.heard (find_kept number recorded)) (sym was.2) (tracked number was.0 was.1))

  pub quiet_tracked : (event : Happening) (state : State) (recorded : List Kept)
      → ((door : Door) → event ≡ Joined door → ⊥) → IsQuiet event state → IsSound state
      → AreTracked all state.ports recorded → AreTracked all (handle event state).state.ports recorded
  quiet_tracked event state recorded other quiet sound tracked number port found =
      let was = was_open event state other sound number port found in
      tracked_same port.door port.heard was.0.heard (find_kept number recorded)
      (λ client. quiet_keeps length-hidden_bytes event state number port was.0 sound.rising quiet found client was.1)
      (subst (λ door. Tracked all door was.0.heard (find_kept number recorded)) (sym was.2) (tracked number was.0 was.1))

-- ---- a port of a recorder that changes

abbrev pub with_kept : ℕ → Kept → List Kept → List Kept
with_kept number new recorded = change_by kept_number number (λ _. new) recorded

new_by : (number : ℕ) (new kept : Kept) (others : List Kept) (is : Bool)
    → (kept.number == number) ≡ is
    → new.number ≡ number → is_some (cond is (Some kept) (find_kept number others)) ≡ true
    → (is_some (find_kept number others) ≡ true → find_kept number (with_kept number new others) ≡ Some new)
    → find_kept number (cond is (new ∷ others) (kept ∷ with_kept number new others)) ≡ Some new
new_by number new kept others true test own there later =
    let here : (new.number == number) ≡ true = grind (arith, nat_tests) in
    ap (λ b. cond b (Some new) (find_kept number others)) here
new_by number new kept others false test own there later =
    ap (λ b. cond b (Some kept) (find_kept number (with_kept number new others))) test ∙ later there

pub found_new : (number : ℕ) (new : Kept) (recorded : List Kept) → new.number ≡ number
    → is_some (find_kept number recorded) ≡ true → find_kept number (with_kept number new recorded) ≡ Some new
found_new number new [] own there = absurd (cc)
found_new number new (kept ∷ others) own there =
    new_by number new kept others (kept.number == number) refl own there (found_new number new others own)

apart_by : (number other : ℕ) (new kept : Kept) (others : List Kept) (is : Bool)
    → (kept.number == number) ≡ is
    → new.number ≡ number → other ≢ number
    → find_kept other (with_kept number new others) ≡ find_kept other others
    → find_kept other (cond is (new ∷ others) (kept ∷ with_kept number new others)) ≡ find_kept other (kept ∷ others)
apart_by number other new kept others true test own apart rest =
    let there : (new.number == other) ≡ false = grind (arith, nat_tests) in
    let here : (kept.number == other) ≡ false = grind (arith, nat_tests) in
    ap (λ b. cond b (Some new) (find_kept other others)) there
    ∙ sym (ap (λ b. cond b (Some kept) (find_kept other others)) here)
apart_by number other new kept others false test own apart rest =
    ap (λ found. cond (kept.number == other) (Some kept) found) rest

pub found_apart : (number other : ℕ) (new : Kept) (recorded : List Kept) → new.number ≡ number
    → other ≢ number
    → find_kept other (with_kept number new recorded) ≡ find_kept other recorded
found_apart number other new [] own apart = refl
found_apart number other new (kept ∷ others) own apart =
    apart_by number other new kept others (kept.number == number) refl own apart
    (found_apart number other new others own apart)

pub re_tracked : (all : List (List ℕ)) (number : ℕ) (new : Kept) (ports : List Port) (recorded : List Kept)
    → new.number ≡ number → is_some (find_kept number recorded) ≡ true
    → ((other : ℕ) (port : Port) → other ≢ number → find_port other ports ≡ Some port → Tracked all port.door port.heard (find_kept other recorded))
    → ((port : Port) → find_port number ports ≡ Some port → TrackedBy all port.door port.heard new)
    → AreTracked all ports (with_kept number new recorded)
re_tracked all number new ports recorded own there elsewhere here other port found = elim (cases_eq other number) [
  | inl same ↦
      subst (Tracked all port.door port.heard)
      (sym (ap (λ n. find_kept n (with_kept number new recorded)) same ∙ found_new number new recorded own there))
      (here port (ap (λ n. find_port n ports) (sym same) ∙ found))
  | inr apart ↦
      subst (Tracked all port.door port.heard) (sym (found_apart number other new recorded own apart))
      (elsewhere other port apart found)
]

-- ---- a frame that is taken

after_keeps : (heard : List ℕ) (body_len : ℕ) (kept : Kept)
    → front longest_body heard ≡ Whole body_len
    → Keeps heard kept → Keeps (after_front body_len heard) kept
after_keeps heard body_len kept whole keeps =
    let same : (split longest_body heard).rest ≡ (split longest_body (after_front body_len heard)).rest =
    ap (λ (cut : Split). cut.rest) (split-whole longest_body heard body_len whole) in
    record {
      door = keeps.door;
      bad = keeps.bad ∙ ap (λ (rest : List ℕ). ends_badly (front longest_body rest)) same;
      unrecorded = keeps.unrecorded ∙ ap (kept_of kept.is_bad) same;
    }

module _ (all : List (List ℕ)) where
  after_short : (heard : List ℕ) (body_len : ℕ) → front longest_body heard ≡ Whole body_len
      → IsShort (name_in all) heard → IsShort (name_in all) (after_front body_len heard)
  after_short heard body_len whole short =
      (subst (λ (cut : Split). AreShort (name_in all) cut.bodies) (split-whole longest_body heard body_len whole) short).1

  after_by : (door : Door) (heard : List ℕ) (body_len : ℕ) (kept : Kept)
      → front longest_body heard ≡ Whole body_len
      → TrackedBy all door heard kept → TrackedBy all door (after_front body_len heard) kept
  after_by Clients heard body_len kept whole tracked = (
    after_keeps heard body_len kept whole tracked.0,
    All-drop (λ byte. byte < 256) (4 + body_len) heard tracked.1,
    after_short heard body_len whole tracked.2,
  )
  after_by Children heard body_len kept whole tracked = tracked

  after_tracked : (door : Door) (heard : List ℕ) (body_len : ℕ) (found : Option Kept)
      → front longest_body heard ≡ Whole body_len → Tracked all door heard found
      → Tracked all door (after_front body_len heard) found
  after_tracked door heard body_len None whole tracked = tracked
  after_tracked door heard body_len (Some kept) whole tracked =
      after_by door heard body_len kept whole tracked

  due_whole : (waits : Waits) (owed bytes : List ℕ) (body_len : ℕ)
      → due_front waits owed bytes ≡ Whole body_len
      → front longest_body bytes ≡ Whole body_len
  due_whole Nothing [] bytes body_len whole = whole
  due_whole Nothing (byte ∷ owed) bytes body_len whole = absurd (cc)
  due_whole (OnAsk ask) owed bytes body_len whole = absurd (cc)
  due_whole (OnConfirmation job) owed bytes body_len whole = absurd (cc)

  concluded_tracked : (at body_len : ℕ) (attempt : Bool) (verdict : Verdict) (one : Port) (ports : List Port) (recorded : List Kept)
      → find_port at ports ≡ Some one → front longest_body one.heard ≡ Whole body_len → AreTracked all ports recorded
      → AreTracked all (change_port at (tell verdict) (change_port at (take_frame body_len attempt) ports)) recorded
  concluded_tracked at body_len attempt verdict one ports recorded there whole tracked number port found =
      by_told
      (was_at at number (tell verdict) (change_port at (take_frame body_len attempt) ports) port (λ x. refl) found)
    where
      by_taken : (p : Port) → WasAt at number (take_frame body_len attempt) ports p
          → Tracked all p.door p.heard (find_kept number recorded)
      by_taken p (that was is found new) =
          let same : one ≡ was = (let both : Some one ≡ Some was = sym there ∙ found in cc) in
          subst (λ (x : Port). Tracked all x.door x.heard (find_kept number recorded)) new
          (after_tracked was.door was.heard body_len (find_kept number recorded) (subst (λ (x : Port). front longest_body x.heard ≡ Whole body_len) same whole)
          (tracked number was (ap (λ n. find_port n ports) is ∙ found)))
      by_taken p (another apart found) = tracked number p found

      by_told : WasAt at number (tell verdict) (change_port at (take_frame body_len attempt) ports) port
          → Tracked all port.door port.heard (find_kept number recorded)
      by_told (that was is found new) =
          subst (λ (x : Port). Tracked all x.door x.heard (find_kept number recorded)) new
          (by_taken was (was_at at number (take_frame body_len attempt) ports was (λ x. refl) (ap (λ n. find_port n (change_port at (take_frame body_len attempt) ports)) is ∙ found)))
      by_told (another apart found) =
          by_taken port (was_at at number (take_frame body_len attempt) ports port (λ x. refl) found)

  front_tracked : (answer : Front) (one : Port) (state : State) (recorded : List Kept)
      → IsRising 0 state.last_port state.ports → find_port one.number state.ports ≡ Some one → due one ≡ answer
      → AreTracked all state.ports recorded → AreTracked all (look_front answer one state).state.ports recorded
  front_tracked (Whole body_len) one state recorded rising there is tracked =
      concluded_tracked one.number body_len
      (attempts state.held.lock (front_body body_len one.heard)) _ one state.ports recorded there
      (due_whole one.waits one.owed one.heard body_len is) tracked
  front_tracked (Bad announced) one state recorded rising there is tracked =
      λ number port found. tracked number port (find_port-left number one.number 0 state.last_port state.ports port rising found)
  front_tracked More one state recorded rising there is tracked = tracked

  looked_tracked : (number : ℕ) (one : Port) (state : State) (recorded : List Kept)
      → IsRising 0 state.last_port state.ports → find_port number state.ports ≡ Some one
      → AreTracked all state.ports recorded → AreTracked all (looked number state).state.ports recorded
  looked_tracked number one state recorded rising there tracked =
      let own : one.number ≡ number = found_number number state.ports one there in
      subst (λ (o : Outcome). AreTracked all o.state.ports recorded)
      (sym (looked-found number one state (due one) there refl))
      (front_tracked (due one) one state recorded rising (ap (λ n. find_port n state.ports) own ∙ there) refl tracked)

  -- ---- clients

  pub took_tracked : (number count : ℕ) (one : Port) (state : State) (recorded : List Kept)
      → IsRising 0 state.last_port state.ports → find_port number state.ports ≡ Some one → one.door ≡ Clients
      → AreTracked all state.ports recorded → AreTracked all (handle (Took number count) state).state.ports recorded
  took_tracked number count one state recorded rising there client tracked =
      subst (λ (o : Outcome). AreTracked all o.state.ports recorded)
      (sym (handle-took number count one state there client))
      (looked_tracked number (took_some count one) (changed number (took_some count) state) recorded (rising-change_port number 0 state.last_port (took_some count) state.ports (λ x. refl) rising)
      (find_port-change_port number (took_some count) state.ports (λ x. refl) ∙ ap (option_map (took_some count)) there)
      (λ other port found. by_was other port (was_at number other (took_some count) state.ports port (λ x. refl) found)))
    where
      by_was : (other : ℕ) (port : Port) → WasAt number other (took_some count) state.ports port
          → Tracked all port.door port.heard (find_kept other recorded)
      by_was other port (that was is found new) =
          subst (λ (x : Port). Tracked all x.door x.heard (find_kept other recorded)) new
          (tracked other was (ap (λ n. find_port n state.ports) is ∙ found))
      by_was other port (another apart found) = tracked other port found

  pub heard_tracked : (number : ℕ) (piece : List ℕ) (one : Port) (new : Kept) (state : State) (recorded : List Kept)
      → IsRising 0 state.last_port state.ports → find_port number state.ports ≡ Some one → one.door ≡ Clients
      → new.number ≡ number → is_some (find_kept number recorded) ≡ true
      → TrackedBy all Clients (one.heard ++ piece) new → AreTracked all state.ports recorded
      → AreTracked all (handle (Heard number piece) state).state.ports (with_kept number new recorded)
  heard_tracked number piece one new state recorded rising there client own some here tracked =
      subst (λ (o : Outcome). AreTracked all o.state.ports (with_kept number new recorded))
      (sym (handle-heard number piece one state there client))
      (looked_tracked number (heard_more piece one) (changed number (heard_more piece) state) (with_kept number new recorded) (rising-change_port number 0 state.last_port (heard_more piece) state.ports (λ x. refl) rising) more
      (re_tracked all number new (change_port number (heard_more piece) state.ports) recorded own some
      (λ other port apart found. by_was other port apart (was_at number other (heard_more piece) state.ports port (λ x. refl) found))
      (λ port found. let same : heard_more piece one ≡ port = (let both : Some (heard_more piece one) ≡ Some port = sym more ∙ found in cc) in
      subst (λ (x : Port). TrackedBy all x.door x.heard new) same
      (subst (λ door. TrackedBy all door (one.heard ++ piece) new) (sym client) here))))
    where
      more : find_port number (change_port number (heard_more piece) state.ports) ≡ Some (heard_more piece one)
      more =
          find_port-change_port number (heard_more piece) state.ports (λ x. refl)
          ∙ ap (option_map (heard_more piece)) there

      by_was : (other : ℕ) (port : Port) → other ≢ number
          → WasAt number other (heard_more piece) state.ports port
          → Tracked all port.door port.heard (find_kept other recorded)
      by_was other port apart (that was is found new) = absurd (apart is)
      by_was other port apart (another away found) = tracked other port found

  -- ---- a port joins

  new_tracked : (number : ℕ) (door : Door) → TrackedBy all door [] (new_kept number door)
  new_tracked number Clients =
      let more : front longest_body [] ≡ More = front-short longest_body [] (omega arith) in
      let none : (split longest_body []).rest ≡ [] = ap (λ (cut : Split). cut.rest) (split-more longest_body [] more) in
      let empty : (split longest_body []).bodies ≡ [] =
      ap (λ (cut : Split). cut.bodies) (split-more longest_body [] more) in (
        record { door = refl; bad = sym (ap (λ (rest : List ℕ). ends_badly (front longest_body rest)) none ∙ ap ends_badly more); unrecorded = sym none },
        All-nil (λ byte. byte < 256),
        subst (AreShort (name_in all)) (sym empty) tt,
      )
  new_tracked number Children = refl

  behind_last : (number : ℕ) (door : Door) (recorded : List Kept) → find_kept number recorded ≡ None
      → find_kept number (recorded ++ new_kept number door ∷ []) ≡ Some (new_kept number door)
  behind_last number door [] none = let own : (number == number) ≡ true = grind (arith, nat_tests) in ap (λ b. cond b (Some (new_kept number door)) None) own
  behind_last number door (kept ∷ others) none =
      let later = behind_last number door others in
      grind (arith, nat_tests)

  before_last : (number at : ℕ) (door which : Door) (heard : List ℕ) (recorded : List Kept) (found : Option Kept)
      → find_kept number recorded ≡ found → Tracked all which heard found
      → Tracked all which heard (find_kept number (recorded ++ new_kept at door ∷ []))
  before_last number at door which heard recorded None is tracked = absurd tracked
  before_last number at door which heard recorded (Some kept) is tracked =
      subst (Tracked all which heard)
      (sym (find-before (has_key kept_number number) recorded (new_kept at door ∷ []) kept is)) tracked

  pub joined_tracked : (door : Door) (state : State) (recorded : List Kept)
      → find_kept (suc state.last_port) recorded ≡ None → AreTracked all state.ports recorded
      → AreTracked all (handle (Joined door) state).state.ports (recorded ++ new_kept (suc state.last_port) door ∷ [])
  joined_tracked door state recorded none tracked number port found =
      elim
      (admitted_found (has_room door state.ports state.under_way) number (suc state.last_port) door state.ports port found) [
        | inl before ↦
            before_last number (suc state.last_port) door port.door port.heard recorded
            (find_kept number recorded) refl (tracked number port before)
        | inr new ↦
            subst
            (λ (x : Port). Tracked all x.door x.heard (find_kept number (recorded ++ new_kept (suc state.last_port) door ∷ []))) new.1
            (subst (Tracked all door []) (sym (ap (λ n. find_kept n (recorded ++ new_kept (suc state.last_port) door ∷ [])) new.0 ∙ behind_last (suc state.last_port) door recorded none)) (new_tracked (suc state.last_port) door))
      ]

  pub none_behind : (number at : ℕ) (door : Door) (recorded : List Kept) → at ≢ number
      → find_kept number recorded ≡ None → find_kept number (recorded ++ new_kept at door ∷ []) ≡ None
  none_behind number at door [] apart none = let other : (at == number) ≡ false = grind (arith, nat_tests) in ap (λ b. cond b (Some (new_kept at door)) None) other
  none_behind number at door (kept ∷ others) apart none =
      by_test (kept.number == number) none (none_behind number at door others apart)
    where
      by_test : (is : Bool) → cond is (Some kept) (find_kept number others) ≡ None
          → (find_kept number others ≡ None → find_kept number (others ++ new_kept at door ∷ []) ≡ None)
          → cond is (Some kept) (find_kept number (others ++ new_kept at door ∷ [])) ≡ None
      by_test true there later = absurd (cc)
      by_test false there later = later there
