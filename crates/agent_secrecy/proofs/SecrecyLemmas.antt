-- Alike lists of events, from the first state on.
use Rattle.std.proofs.Common.{◌≡◌, ◌≢◌, ℕ, ◌<◌, ◌≤◌, List, [], ◌∷◌, ◌++◌, length, refl, sym, ap, subst, ◌∙◌, arith, Option, Some, None, Bool, nat_lt, not, ◌&&◌, ◌||◌}
use Rattle.std.specs.Prelude.{IsSome}
use Rattle.std.proofs.lemmas.List.{map-append}
use Rattle.identity_table.specs.Deaths.{earlier}
use Rattle.agent_model.specs.NumberLists.{put_all}
use Rattle.world_ports.specs.declared.Door.{Door}
use Rattle.world_ports.specs.declared.Door.TheVariants.{Clients, Children}
use Rattle.world_ports.specs.declared.Moment.{Moment}
use Rattle.helper_link.specs.declared.state.LinkState.TheVariants as states
use Rattle.agent_model.specs.Actions.{Outcome, behind}
use Rattle.agent_model.specs.Events.{Happening, Timed, Joined, Heard, Ended, Took, Started, StartFailed, Tick}
use Rattle.agent_model.specs.Runs.{AllFit, outcomes}
use Rattle.agent_model.specs.Sound.{IsSound}
use Rattle.agent_model.specs.State.{Client, Confirmer, Fits, Helper, Port, Role, Settings, State, UnderWay, Unnamed, client_count, find_port, first_state, is_linked_to, is_more, is_settled, next_due, next_limit, numbers, owed_as, owed_by, owed_by_port, role_by_helper, role_of, wants, wants_more, wants_by}
use Rattle.agent_model.specs.Step.{handle, in_order, step}
use Rattle.agent_model.specs.Time.{at_moment, time_passes}
use Rattle.agent_model.proofs.MakeLemmas.{role-client, role-helper}
use Rattle.agent_model.proofs.PortsLemmas.{found_number, found_within}
use Rattle.agent_model.proofs.RunLemmas.{at_moment-follows, first_is_sound, last_after-le, step-last_port}
use Rattle.agent_secrecy.specs.Secrets.{hidden}
use Rattle.agent_secrecy.specs.Hiding.{Seen, hide_message, hide_port}
use Rattle.agent_secrecy.specs.Alike.{AreAlike, AreAlikeStreams, AreOfOneShape, JoinThrough, JoinsThrough, heard_in, stream_of}
use Rattle.agent_secrecy.specs.Secrecy.{AreAlikeSeen, IsAlikeSeen}
use Rattle.agent_secrecy.proofs.BlankLemmas.{length-blank}
use Rattle.agent_secrecy.proofs.TableLemmas.{length-hidden, next_death-hidden}
use Rattle.agent_secrecy.proofs.PortLemmas.{client_count-hidden, numbers-hidden}
use Rattle.agent_secrecy.proofs.MomentLemmas.{at_moment-hidden, time_passes-hidden}
use Rattle.agent_secrecy.proofs.QuietLemmas.{moment_keeps}
use Rattle.agent_secrecy.proofs.LengthLemmas.{length-hidden_bytes}
use Rattle.agent_secrecy.proofs.LookLemmas.{blanked}
use Rattle.agent_secrecy.proofs.StreamLemmas.{AreAlikeFronts, alike_fronts, both_bad, both_more, both_whole}
use Rattle.wire_text.specs.Frames.{Front, front}
use Rattle.wire_text.specs.Bounds.{longest_body}
use Rattle.agent_secrecy.proofs.TrackLemmas.{tracked-moment, tracked-step, was_at_moment}
use Rattle.agent_secrecy.proofs.RunLemmas.{ArePair, Tracks, handle-after, heard_lengths, no_piece, pair, pair_of, pieces, same_event, seen_of, without_secrets}

-- ---- nothing is heard of a port that hasn't joined

within_by : (state : State) (port : ℕ) (found : Option Port) → IsSound state
    → find_port port state.ports ≡ found → IsSome found → port ≤ state.last_port
within_by state port None sound is there = absurd (cc)
within_by state port (Some p) sound is there =
    found_within port 0 state.last_port state.ports p sound.rising is

unheard_piece : (state : State) (number port : ℕ) (piece : List ℕ) → IsSound state
    → IsSome (find_port port state.ports) → state.last_port < number
    → heard_in number (Heard port piece) ≡ []
unheard_piece state number port piece sound there above =
    let within = within_by state port (find_port port state.ports) sound refl there in
    no_piece number port piece (λ same. omega (arith, within, above, same))

unheard : (event : Happening) (state : State) (number : ℕ) → IsSound state → Fits event state
    → state.last_port < number → heard_in number event ≡ []
unheard (Joined through) state number sound fits above = refl
unheard (Heard port piece) state number sound fits above =
    unheard_piece state number port piece sound fits.0 above
unheard (Ended port) state number sound fits above = refl
unheard (Took port count) state number sound fits above = refl
unheard (Started job ticket) state number sound fits above = refl
unheard (StartFailed job) state number sound fits above = refl
unheard Tick state number sound fits above = refl

unheard_other : (door : ℕ → Door) (one other : Happening) (state : State) (number : ℕ)
    → ArePair door one other → IsSound state → Fits one state → state.last_port < number
    → heard_in number other ≡ []
unheard_other door one other state number (same_event event) sound fits above =
    unheard event state number sound fits above
unheard_other door one other state number (pieces port first second alike) sound fits above =
    unheard_piece state number port second sound fits.0 above

joins_other : (door : ℕ → Door) (one other : Happening) (last : ℕ) → ArePair door one other
    → JoinsThrough door last one → JoinsThrough door last other
joins_other door one other last (same_event event) joins = joins
joins_other door one other last (pieces port first second alike) joins = tt

-- ---- a step

module _ (door : ℕ → Door) (f g : ℕ → List ℕ) where
  moment-tracks : (moment : Moment) (s t : State) → Tracks door f g s t
      → Tracks door f g (at_moment moment s) (at_moment moment t)
  moment-tracks moment s t tracks = record {
    same = sym (at_moment-hidden hidden length-hidden_bytes blanked moment s) ∙ ap (at_moment moment) tracks.same ∙ at_moment-hidden hidden length-hidden_bytes blanked moment t;
    one = tracked-moment door moment s tracks.one;
    other = tracked-moment door moment t tracks.other;
    streams = λ number p q at_p at_q client.
        let was = was_at_moment moment s tracks.one.sound number p at_p in
        let other_was = was_at_moment moment t tracks.other.sound number q at_q in
        let was_client : was.0.door ≡ Clients = tracks.one.doors number was.0 was.1 ∙ client in
        let other_client : other_was.0.door ≡ Clients = tracks.other.doors number other_was.0 other_was.1 ∙ client in
        subst (λ bytes. AreAlikeStreams (bytes ++ f number) (q.heard ++ g number)) (sym (moment_keeps length-hidden_bytes moment s number p was.0 tracks.one.sound.rising at_p (was.2 ∙ was_client) was.1))
        (subst (λ bytes. AreAlikeStreams (was.0.heard ++ f number) (bytes ++ g number)) (sym (moment_keeps length-hidden_bytes moment t number q other_was.0 tracks.other.sound.rising at_q (other_was.2 ∙ other_client) other_was.1))
        (tracks.streams number was.0 other_was.0 was.1 other_was.1 client));
    later = λ number above client. tracks.later number (subst (λ last. last < number) (at_moment-follows moment s).last above) client;
  }

-- what is seen of what a moment brings
seen-moment : (moment : Moment) (s t : State) → without_secrets s ≡ without_secrets t
    → seen_of (time_passes moment s) ≡ seen_of (time_passes moment t)
seen-moment moment s t same =
    ap (λ (o : Outcome). let x : Seen = record { state = o.state; put = o.put; closes = o.closes } in x)
    (sym (time_passes-hidden hidden length-hidden_bytes blanked moment s) ∙ ap (time_passes moment) same ∙ time_passes-hidden hidden length-hidden_bytes blanked moment t)

-- and of an event behind it
abbrev seen_behind : (first then : Seen) → Seen
seen_behind first then =
    record then { put = first.put ++ then.put; closes = put_all [] (first.closes ++ then.closes) }

seen-behind : (first then : Outcome)
    → seen_of (in_order (behind first then)) ≡ seen_behind (seen_of first) (seen_of then)
seen-behind first then =
    ap (λ put. let x : Seen = record (seen_of (in_order (behind first then))) { put = put } in x) (map-append (hide_message hidden) first.put then.put)

seen-step : (first then other next : Outcome) → seen_of first ≡ seen_of other
    → seen_of then ≡ seen_of next
    → seen_of (in_order (behind first then)) ≡ seen_of (in_order (behind other next))
seen-step first then other next same later =
    seen-behind first then ∙ ap (λ x. seen_behind x (seen_of then)) same ∙ ap (seen_behind (seen_of other)) later ∙ sym (seen-behind other next)

abbrev to_come : Happening → (ℕ → List ℕ) → ℕ → List ℕ
to_come event f number = heard_in number event ++ f number

record Stepped (door : ℕ → Door) (f g : ℕ → List ℕ) (o u : Outcome) : Type 0 where
  seen : seen_of o ≡ seen_of u
  tracks : Tracks door f g o.state u.state

stepped : (door : ℕ → Door) (f g : ℕ → List ℕ) (s t : State) (moment : Moment) (one other : Happening)
    → ArePair door one other → Fits one s → JoinsThrough door s.last_port one
    → Tracks door (to_come one f) (to_come other g) s t
    → Stepped door f g (step s moment one) (step t moment other)
stepped door f g s t moment one other both fits joins tracks =
    let opened = moment-tracks door (to_come one f) (to_come other g) moment s t tracks in
    let after = handle-after door f g (at_moment moment s) (at_moment moment t) one other both opened in
    let seen : seen_of (step s moment one) ≡ seen_of (step t moment other) =
    seen-step (time_passes moment s) (handle one (at_moment moment s)) (time_passes moment t) (handle other (at_moment moment t)) (seen-moment moment s t tracks.same) after.seen in
    let same_last : s.last_port ≡ t.last_port = ap (λ (x : State). x.last_port) tracks.same in
    record {
      seen = seen;
      tracks = record {
        same = ap (λ (x : Seen). x.state) seen;
        one = tracked-step door s moment one joins tracks.one;
        other = tracked-step door t moment other (subst (λ last. JoinsThrough door last other) same_last (joins_other door one other s.last_port both joins)) tracks.other;
        streams = after.streams;
        later = λ number above client.
            let grows : s.last_port < number = omega (arith, above, step-last_port s moment one, last_after-le one s.last_port) in
            subst (λ bytes. AreAlikeStreams (bytes ++ f number) (g number)) (unheard one s number tracks.one.sound fits grows)
            (subst (λ bytes. AreAlikeStreams (to_come one f number) (bytes ++ g number)) (unheard_other door one other s number both tracks.one.sound fits grows)
            (tracks.later number grows client));
      };
    }

-- ---- what is seen of it

pub owed_at_client : (port : Port) (under_way : UnderWay) → port.door ≡ Clients
    → owed_by (Some port) under_way ≡ port.owed
owed_at_client port under_way client =
    ap (λ d. owed_as (role_of d port.number under_way) port under_way) client

-- a client is to be read in both
more_in : {h k f g : List ℕ} (one other : Front) → AreAlikeFronts h k f g one other
    → is_more one ≡ is_more other
more_in one other (both_whole body_len bodies streams) = refl
more_in one other (both_bad first second) = refl
more_in one other both_more = refl

-- whether it is to be read, as the tests of it say
abbrev reads : Bool → Bool → ℕ → Bool
reads more settled count = more && (settled || not (nat_lt 0 count))

wants_at_by : (door : ℕ → Door) (f g : ℕ → List ℕ) (s t : State) (number : ℕ) (p q : Port) (through : Door)
    → Tracks door f g s t → find_port number s.ports ≡ Some p → find_port number t.ports ≡ Some q
    → hide_port blanked p ≡ hide_port blanked q → p.door ≡ through
    → wants_more through (is_settled p.waits p.owed) p.heard ≡ wants_more through (is_settled q.waits q.owed) q.heard
wants_at_by door f g s t number p q Children tracks at_p at_q same is = refl
wants_at_by door f g s t number p q Clients tracks at_p at_q same is =
    let client : door number ≡ Clients = sym (tracks.one.doors number p at_p) ∙ is in
    let q_is : q.door ≡ Clients = tracks.other.doors number q at_q ∙ client in
    let lengths : length p.heard ≡ length q.heard = heard_lengths p q same is q_is in
    let more : is_more (front longest_body p.heard) ≡ is_more (front longest_body q.heard) =
    more_in (front longest_body p.heard) (front longest_body q.heard)
    (alike_fronts p.heard q.heard (f number) (g number) lengths (tracks.streams number p q at_p at_q client)) in
    let settled : is_settled p.waits p.owed ≡ is_settled q.waits q.owed = ap (λ (x : Port). is_settled x.waits x.owed) same in
    ap (λ b. reads b (is_settled p.waits p.owed) (length p.heard)) more
    ∙ ap (λ b. reads (is_more (front longest_body q.heard)) b (length p.heard)) settled
    ∙ ap (reads (is_more (front longest_body q.heard)) (is_settled q.waits q.owed)) lengths

wants-by : (door : ℕ → Door) (f g : ℕ → List ℕ) (s t : State) (number : ℕ) (one other : Option Port)
    → Tracks door f g s t → find_port number s.ports ≡ one → find_port number t.ports ≡ other
    → wants_by one ≡ wants_by other
wants-by door f g s t number None None tracks is other_is = refl
wants-by door f g s t number None (Some q) tracks is other_is =
    absurd (let p = pair_of t s number q (sym tracks.same) other_is in let e : None ≡ Some p.0 = sym is ∙ p.1 in cc)
wants-by door f g s t number (Some p) None tracks is other_is =
    absurd (let q = pair_of s t number p tracks.same is in let e : None ≡ Some q.0 = sym other_is ∙ q.1 in cc)
wants-by door f g s t number (Some p) (Some q) tracks is other_is =
    let pair = pair_of s t number p tracks.same is in
    let q_is : pair.0 ≡ q = (let e : Some pair.0 ≡ Some q = sym pair.1 ∙ other_is in cc) in
    let same : hide_port blanked p ≡ hide_port blanked q = pair.2 ∙ ap (hide_port blanked) q_is in
    wants_at_by door f g s t number p q p.door tracks is other_is same refl
    ∙ ap (λ (x : Port). wants_more x.door (is_settled q.waits q.owed) q.heard) same

next_due-hidden : (state : State) → next_due (without_secrets state) ≡ next_due state
next_due-hidden state = ap (λ death. earlier death (next_limit state.under_way)) (next_death-hidden hidden state.held.table.identities)

-- what a child process is owed that isn't the helper: its role, and so its prompt, is the same
owed-role : (role : Role) (one other : Port) (under_way : UnderWay)
    → role_of one.door one.number under_way ≡ role → one.door ≡ Children
    → under_way.link.state ≢ states.Linked one.number → (more : UnderWay)
    → owed_as role one under_way ≡ owed_as role other more
owed-role Client one other under_way is door unlinked more =
    let client : one.door ≡ Clients = role-client one.door one.number under_way is in
    let no : Children ≡ Clients = sym door ∙ client in
    absurd (cc)
owed-role Unnamed one other under_way is door unlinked more = refl
owed-role Helper one other under_way is door unlinked more =
    absurd (unlinked (role-helper one.door one.number under_way is))
owed-role (Confirmer confirmation) one other under_way is door unlinked more = refl

-- of two ports alike, where the link is as far and the same is to be confirmed
owed-child : (one other : Port) (under_way more : UnderWay) → one.door ≡ Children
    → one.door ≡ other.door → one.number ≡ other.number
    → under_way.link.state ≡ more.link.state → under_way.confirmations ≡ more.confirmations
    → under_way.link.state ≢ states.Linked one.number
    → owed_by_port one under_way ≡ owed_by_port other more
owed-child one other under_way more door doors numbers link confirmations unlinked =
    owed-role (role_of one.door one.number under_way) one other under_way refl door unlinked more
    ∙ ap (λ role. owed_as role other more) role-same
  where
    role-same : role_of one.door one.number under_way ≡ role_of other.door other.number more
    role-same =
        ap (λ d. role_of d one.number under_way) door
        ∙ ap (λ n. role_of Children n under_way) numbers
        ∙ ap (λ l. role_by_helper (is_linked_to other.number l) other.number under_way.confirmations) link
        ∙ ap (λ c. role_by_helper (is_linked_to other.number more.link.state) other.number c) confirmations
        ∙ ap (λ d. role_of d other.number more) (sym door ∙ doors)

seen-alike : (o u : Outcome) → seen_of o ≡ seen_of u
    → ((number : ℕ) → wants number o.state ≡ wants number u.state) → IsAlikeSeen o u
seen-alike o u same wanted =
    let state : without_secrets o.state ≡ without_secrets u.state = ap (λ (x : Seen). x.state) same in
    record {
      owed = λ number port found client.
          let other = pair_of o.state u.state number port state found in
          let door : other.0.door ≡ Clients = sym (ap (λ (x : Port). x.door) other.2) ∙ client in
          ap (λ x. owed_by x o.state.under_way) found ∙ owed_at_client port o.state.under_way client
          ∙ ap (λ (x : Port). x.owed) other.2
          ∙ sym (ap (λ x. owed_by x u.state.under_way) other.1 ∙ owed_at_client other.0 u.state.under_way door);
      closes = ap (λ (x : Seen). x.closes) same;
      starts = ap (λ (x : State). x.under_way.to_start) state;
      ports = sym (numbers-hidden blanked o.state.ports) ∙ ap (λ (x : State). numbers x.ports) state ∙ numbers-hidden blanked u.state.ports;
      held = sym (length-hidden hidden o.state.held.table.identities) ∙ ap (λ (x : State). length x.held.table.identities) state ∙ length-hidden hidden u.state.held.table.identities;
      faults = ap (λ (x : State). x.under_way.link.faults) state;
      last = ap (λ (x : State). x.last_port) state;
      clients = sym (client_count-hidden blanked o.state.ports) ∙ ap (λ (x : State). client_count x.ports) state ∙ client_count-hidden blanked u.state.ports;
      due = sym (next_due-hidden o.state) ∙ ap next_due state ∙ next_due-hidden u.state;
      wants = wanted;
      helper = sym (length-blank o.state.under_way.link.owed) ∙ ap (λ (x : State). length x.under_way.link.owed) state ∙ length-blank u.state.under_way.link.owed;
      confirmations = ap (λ (x : State). x.under_way.confirmations) state;
      confirmers = λ number port found child unlinked.
          let other = pair_of o.state u.state number port state found in
          ap (λ x. owed_by x o.state.under_way) found
          ∙ owed-child port other.0 o.state.under_way u.state.under_way child (ap (λ (x : Port). x.door) other.2) (ap (λ (x : Port). x.number) other.2)
          (ap (λ (x : State). x.under_way.link.state) state) (ap (λ (x : State). x.under_way.confirmations) state)
          (λ linked. unlinked (linked ∙ ap states.Linked (found_number number o.state.ports port found)))
          ∙ sym (ap (λ x. owed_by x u.state.under_way) other.1);
      put = ap (λ (x : Seen). x.put) same;
    }

-- ---- runs

runs : (door : ℕ → Door) (ones others : List Timed) (s t : State) → AreOfOneShape door ones others
    → JoinThrough door s.last_port ones → AllFit s ones
    → Tracks door (λ number. stream_of number ones) (λ number. stream_of number others) s t → AreAlikeSeen (outcomes s ones) (outcomes t others)
runs door [] [] s t shapes joins fit tracks = tt
runs door [] (other ∷ others) s t shapes joins fit tracks = absurd shapes
runs door (one ∷ ones) [] s t shapes joins fit tracks = absurd shapes
runs door (one ∷ ones) (other ∷ others) s t shapes joins fit tracks =
    subst (λ moment. AreAlikeSeen (outcomes s (one ∷ ones)) (outcomes t (record other { moment = moment } ∷ others))) shapes.0
    (let both = pair door one.event other.event shapes.1 in
    let next = stepped door (λ number. stream_of number ones) (λ number. stream_of number others) s t one.moment one.event other.event both fit.0 joins.0 tracks in
    let later_joins : JoinThrough door (step s one.moment one.event).state.last_port ones =
    subst (λ last. JoinThrough door last ones) (sym (step-last_port s one.moment one.event)) joins.1 in (
      seen-alike (step s one.moment one.event) (step t one.moment other.event) next.seen
          (λ number. wants-by door (λ number. stream_of number ones) (λ number. stream_of number others) (step s one.moment one.event).state (step t one.moment other.event).state number _ _ next.tracks refl refl),
      runs door ones others (step s one.moment one.event).state (step t one.moment other.event).state shapes.2 later_joins fit.1 next.tracks,
    ))

first-tracks : (settings : Settings) (door : ℕ → Door) (f g : ℕ → List ℕ)
    → ((number : ℕ) → door number ≡ Clients → AreAlikeStreams (f number) (g number))
    → Tracks door f g (first_state settings) (first_state settings)
first-tracks settings door f g streams = record {
  same = refl;
  one = record { sound = first_is_sound settings; doors = λ number port found. absurd (cc) };
  other = record { sound = first_is_sound settings; doors = λ number port found. absurd (cc) };
  streams = λ number p q at_p at_q client. absurd (cc);
  later = λ number above client. streams number client;
}

pub every_run : (settings : Settings) (one other : List Timed) → AreAlike one other
    → AllFit (first_state settings) one
    → AreAlikeSeen (outcomes (first_state settings) one) (outcomes (first_state settings) other)
every_run settings one other alike fit =
    runs alike.door one other (first_state settings) (first_state settings) alike.shapes alike.joins fit
    (first-tracks settings alike.door (λ number. stream_of number one) (λ number. stream_of number other) alike.streams)
