-- Alike lists of events lead to states that are equal but for what is hidden (what stands in front of the runs is as in
-- agent_secrecy's SecrecyLemmas, where it isn't public).
use Rattle.std.proofs.Common.{◌≡◌, ℕ, ◌<◌, ◌≤◌, List, [], ◌∷◌, ◌++◌, refl, sym, ap, subst, ◌∙◌, arith, Option, Some, None}
use Rattle.std.specs.Prelude.{IsSome}
use Rattle.world_ports.specs.declared.Door.{Door}
use Rattle.world_ports.specs.declared.Door.TheVariants.{Clients}
use Rattle.world_ports.specs.declared.Moment.{Moment}
use Rattle.agent_model.specs.Events.{Happening, Timed, Joined, Heard, Ended, Took, Started, StartFailed, Tick}
use Rattle.agent_model.specs.Runs.{AllFit, run}
use Rattle.agent_model.specs.Sound.{IsSound}
use Rattle.agent_model.specs.State.{Fits, Port, Settings, State, find_port, first_state}
use Rattle.agent_model.specs.Step.{step}
use Rattle.agent_model.specs.Time.{at_moment}
use Rattle.agent_model.proofs.PortsLemmas.{found_within}
use Rattle.agent_model.proofs.RunLemmas.{at_moment-follows, first_is_sound, last_after-le, step-last_port}
use Rattle.agent_secrecy.specs.Secrets.{hidden}
use Rattle.agent_secrecy.specs.Hiding.{Seen}
use Rattle.agent_secrecy.specs.Alike.{AreAlike, AreAlikeStreams, AreOfOneShape, JoinThrough, JoinsThrough, heard_in, stream_of}
use Rattle.agent_secrecy.proofs.MomentLemmas.{at_moment-hidden}
use Rattle.agent_secrecy.proofs.QuietLemmas.{moment_keeps}
use Rattle.agent_secrecy.proofs.LengthLemmas.{length-hidden_bytes}
use Rattle.agent_secrecy.proofs.LookLemmas.{blanked}
use Rattle.agent_secrecy.proofs.TrackLemmas.{tracked-moment, tracked-step, was_at_moment}
use Rattle.agent_secrecy.proofs.RunLemmas.{ArePair, Tracks, handle-after, no_piece, pair, pieces, same_event}

-- ---- nothing is heard of a port that hasn't joined

within_by : (state : State) (port : ℕ) (found : Option Port) → IsSound state
    → find_port port state.ports ≡ found → IsSome found → port ≤ state.last_port
within_by state port None sound is there = absurd (cc)
within_by state port (Some p) sound is there =
    found_within port 0 state.last_port state.ports p sound.rising is

unheard_piece : (state : State) (number port : ℕ) (piece : List ℕ) → IsSound state
    → IsSome (find_port port state.ports) → state.last_port < number
    → heard_in number (Heard port piece) ≡ []
unheard_piece state number port piece sound there above =
    let within = within_by state port (find_port port state.ports) sound refl there in
    no_piece number port piece (λ same. omega (arith, within, above, same))

unheard : (event : Happening) (state : State) (number : ℕ) → IsSound state → Fits event state
    → state.last_port < number → heard_in number event ≡ []
unheard (Joined through) state number sound fits above = refl
unheard (Heard port piece) state number sound fits above =
    unheard_piece state number port piece sound fits.0 above
unheard (Ended port) state number sound fits above = refl
unheard (Took port count) state number sound fits above = refl
unheard (Started job ticket) state number sound fits above = refl
unheard (StartFailed job) state number sound fits above = refl
unheard Tick state number sound fits above = refl

unheard_other : (door : ℕ → Door) (one other : Happening) (state : State) (number : ℕ)
    → ArePair door one other → IsSound state → Fits one state → state.last_port < number
    → heard_in number other ≡ []
unheard_other door one other state number (same_event event) sound fits above =
    unheard event state number sound fits above
unheard_other door one other state number (pieces port first second alike) sound fits above =
    unheard_piece state number port second sound fits.0 above

joins_other : (door : ℕ → Door) (one other : Happening) (last : ℕ) → ArePair door one other
    → JoinsThrough door last one → JoinsThrough door last other
joins_other door one other last (same_event event) joins = joins
joins_other door one other last (pieces port first second alike) joins = tt

-- ---- a step

module _ (door : ℕ → Door) (f g : ℕ → List ℕ) where
  moment-tracks : (moment : Moment) (s t : State) → Tracks door f g s t
      → Tracks door f g (at_moment moment s) (at_moment moment t)
  moment-tracks moment s t tracks = record {
    same = sym (at_moment-hidden hidden length-hidden_bytes blanked moment s) ∙ ap (at_moment moment) tracks.same ∙ at_moment-hidden hidden length-hidden_bytes blanked moment t;
    one = tracked-moment door moment s tracks.one;
    other = tracked-moment door moment t tracks.other;
    streams = λ number p q at_p at_q client.
        let was = was_at_moment moment s tracks.one.sound number p at_p in
        let other_was = was_at_moment moment t tracks.other.sound number q at_q in
        let was_client : was.0.door ≡ Clients = tracks.one.doors number was.0 was.1 ∙ client in
        let other_client : other_was.0.door ≡ Clients = tracks.other.doors number other_was.0 other_was.1 ∙ client in
        subst (λ bytes. AreAlikeStreams (bytes ++ f number) (q.heard ++ g number)) (sym (moment_keeps length-hidden_bytes moment s number p was.0 tracks.one.sound.rising at_p (was.2 ∙ was_client) was.1))
        (subst (λ bytes. AreAlikeStreams (was.0.heard ++ f number) (bytes ++ g number)) (sym (moment_keeps length-hidden_bytes moment t number q other_was.0 tracks.other.sound.rising at_q (other_was.2 ∙ other_client) other_was.1))
        (tracks.streams number was.0 other_was.0 was.1 other_was.1 client));
    later = λ number above client. tracks.later number (subst (λ last. last < number) (at_moment-follows moment s).last above) client;
  }

abbrev to_come : Happening → (ℕ → List ℕ) → ℕ → List ℕ
to_come event f number = heard_in number event ++ f number

stepped : (door : ℕ → Door) (f g : ℕ → List ℕ) (s t : State) (moment : Moment) (one other : Happening)
    → ArePair door one other → Fits one s → JoinsThrough door s.last_port one
    → Tracks door (to_come one f) (to_come other g) s t
    → Tracks door f g (step s moment one).state (step t moment other).state
stepped door f g s t moment one other both fits joins tracks =
    let opened = moment-tracks door (to_come one f) (to_come other g) moment s t tracks in
    let after = handle-after door f g (at_moment moment s) (at_moment moment t) one other both opened in
    let same_last : s.last_port ≡ t.last_port = ap (λ (x : State). x.last_port) tracks.same in
    record {
      same = ap (λ (x : Seen). x.state) after.seen;
      one = tracked-step door s moment one joins tracks.one;
      other = tracked-step door t moment other (subst (λ last. JoinsThrough door last other) same_last (joins_other door one other s.last_port both joins)) tracks.other;
      streams = after.streams;
      later = λ number above client.
          let grows : s.last_port < number = omega (arith, above, step-last_port s moment one, last_after-le one s.last_port) in
          subst (λ bytes. AreAlikeStreams (bytes ++ f number) (g number)) (unheard one s number tracks.one.sound fits grows)
          (subst (λ bytes. AreAlikeStreams (to_come one f number) (bytes ++ g number)) (unheard_other door one other s number both tracks.one.sound fits grows)
          (tracks.later number grows client));
    }

-- ---- runs

-- two states of two runs, with nothing to come
abbrev pub EndsAlike : (ℕ → Door) → State → State → Type 0
EndsAlike door s t = Tracks door (λ number. []) (λ number. []) s t

run-tracks : (door : ℕ → Door) (ones others : List Timed) (s t : State) → AreOfOneShape door ones others
    → JoinThrough door s.last_port ones → AllFit s ones
    → Tracks door (λ number. stream_of number ones) (λ number. stream_of number others) s t
    → EndsAlike door (run s ones) (run t others)
run-tracks door [] [] s t shapes joins fit tracks = tracks
run-tracks door [] (other ∷ others) s t shapes joins fit tracks = absurd shapes
run-tracks door (one ∷ ones) [] s t shapes joins fit tracks = absurd shapes
run-tracks door (one ∷ ones) (other ∷ others) s t shapes joins fit tracks =
    subst (λ moment. EndsAlike door (run s (one ∷ ones)) (run t (record other { moment = moment } ∷ others))) shapes.0
    (let both = pair door one.event other.event shapes.1 in
    let next = stepped door (λ number. stream_of number ones) (λ number. stream_of number others) s t one.moment one.event other.event both fit.0 joins.0 tracks in
    let later_joins : JoinThrough door (step s one.moment one.event).state.last_port ones =
    subst (λ last. JoinThrough door last ones) (sym (step-last_port s one.moment one.event)) joins.1 in
    run-tracks door ones others (step s one.moment one.event).state (step t one.moment other.event).state shapes.2 later_joins fit.1 next)

first-tracks : (settings : Settings) (door : ℕ → Door) (f g : ℕ → List ℕ)
    → ((number : ℕ) → door number ≡ Clients → AreAlikeStreams (f number) (g number))
    → Tracks door f g (first_state settings) (first_state settings)
first-tracks settings door f g streams = record {
  same = refl;
  one = record { sound = first_is_sound settings; doors = λ number port found. absurd (cc) };
  other = record { sound = first_is_sound settings; doors = λ number port found. absurd (cc) };
  streams = λ number p q at_p at_q client. absurd (cc);
  later = λ number above client. streams number client;
}

-- both ends, and through which door each port came
pub ends_alike : (settings : Settings) (one other : List Timed) (alike : AreAlike one other) → AllFit (first_state settings) one
    → EndsAlike alike.door (run (first_state settings) one) (run (first_state settings) other)
ends_alike settings one other alike fit =
    run-tracks alike.door one other (first_state settings) (first_state settings) alike.shapes alike.joins fit
    (first-tracks settings alike.door (λ number. stream_of number one) (λ number. stream_of number other) alike.streams)
