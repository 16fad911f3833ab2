-- Over a run: what is told of a client, and what will be, is what was read of it.
use Rattle.std.proofs.Common.{◌≡◌, ℕ, List, [], ◌∷◌, ◌++◌, refl, ap, sym, subst, ◌∙◌, append_assoc, Option, Some, inl, inr}
use Rattle.std.proofs.lemmas.Bool.{cases_eq}
use Rattle.std.proofs.lemmas.List.{append-nil}
use Rattle.std.proofs.lemmas.List.Elements.{filter_map-append}
use Rattle.std.specs.List.{filter_map}
use Rattle.world_ports.specs.declared.Door.TheVariants.{Clients}
use Rattle.world_ports.specs.declared.Moment.{Moment}
use Rattle.agent_model.specs.Events.{Happening, Timed, Joined, Heard, Ended, Took, Started, StartFailed, Tick}
use Rattle.agent_model.specs.Runs.{AllFit, Stamped, history, stamped}
use Rattle.agent_model.specs.Sound.{IsTied}
use Rattle.agent_model.specs.State.{Fits, Port, Settings, State, find_port, first_state}
use Rattle.agent_model.specs.Step.{step}
use Rattle.agent_model.specs.Time.{at_moment}
use Rattle.agent_model.proofs.FatedLemmas.{first-tied, step-fated}
use Rattle.agent_model.proofs.MakeLemmas.{Change, IsOf, hears, takes}
use Rattle.agent_model.proofs.OnTimeLemmas.{at_moment-moment}
use Rattle.agent_model.proofs.TimeKeptLemmas.{keeps_time-handle}
use Rattle.log_book.specs.Books.{Book, new_book, open_in, see_all}
use Rattle.log_book.specs.Peers.{Peer}
use Rattle.log_laws.specs.Reads.{Reading, TellsWhatIsRead, read_in, reads_of, told_by_client}
use Rattle.log_laws.specs.Sights.{event_sights, run_sights}
use Rattle.log_laws.proofs.AgreeLemmas.{Matches, Told, event-heard, event-nobody, event-others, event-took, nobody, somebody}
use Rattle.log_laws.proofs.BookLemmas.{IsAlone, at_port, claim_of, peer_or, tells}
use Rattle.log_laws.proofs.ClientLemmas.{AreBrief, Client, IsBrief}
use Rattle.log_laws.proofs.ReadLemmas.{reads-stamped}
use Rattle.log_laws.proofs.ShortLemmas.{always-brief}
use Rattle.log_laws.proofs.SightsLemmas.{book-append, tells-open, told-append}

-- the wall clock of a step is that of its moment
pub step-wall : (state : State) (moment : Moment) (event : Happening) → (step state moment event).state.moment.wall ≡ moment.wall
step-wall state moment event =
    ap (λ (m : Moment). m.wall) ((keeps_time-handle event (at_moment moment state)).moment ∙ at_moment-moment moment state)

module _ (number : ℕ) where
  -- ---- an event

  module _ (state : State) (moment : Moment) (event : Happening) (tied : IsTied state) (book : Book) (alone : IsAlone number book.peers) (brief_then : IsBrief (at_moment moment state)) (brief_after : IsBrief (step state moment event).state) where
    abbrev IsTold : Type 0
    IsTold = Told number state moment event tied book alone

    foreign-unless : ((piece : List ℕ) → event ≡ Heard number piece → ⊥) → ((count : ℕ) → event ≡ Took number count → ⊥)
        → IsOf event number → ⊥
    foreign-unless heard took of = by_change of.1
      where
        by_change : {f : Port → Port} → Change event number f → ⊥
        by_change (hears piece is) = heard piece is
        by_change (takes count is) = took count is

    told-client : (port : Port) → find_port number state.ports ≡ Some port → port.door ≡ Clients
        → Client port (peer_or number (at_port number book)) → Fits event state → IsTold
    told-client port found door client fits = by_kind event refl fits
      where
        by_others : (IsOf event number → ⊥) → IsTold
        by_others foreign = event-others number state moment event tied book alone port found door client brief_then brief_after foreign

        by_kind : (what : Happening) → event ≡ what → Fits what state → IsTold
        by_kind (Joined joined) is fit =
            by_others (foreign-unless (λ piece same. absurd (let it = sym is ∙ same in cc)) (λ count same. absurd (let it = sym is ∙ same in cc)))
        by_kind (Heard at piece) is fit = elim (cases_eq number at) [
          | inl equal ↦ event-heard number state moment event tied book alone port found door client brief_then brief_after piece (is ∙ ap (λ n. Heard n piece) (sym equal))
          | inr other ↦ by_others (foreign-unless
              (λ more same. let it : Heard at piece ≡ Heard number more = sym is ∙ same in let equal : number ≡ at = cc in other equal)
              (λ count same. absurd (let it = sym is ∙ same in cc)))
        ]
        by_kind (Ended at) is fit =
            by_others (foreign-unless (λ piece same. absurd (let it = sym is ∙ same in cc)) (λ count same. absurd (let it = sym is ∙ same in cc)))
        by_kind (Took at count) is fit = elim (cases_eq number at) [
          | inl equal ↦
              (let fits_it = subst (λ n. Fits (Took n count) state) (sym equal) fit in
              event-took number state moment event tied book alone port found door client brief_then brief_after count (is ∙ ap (λ n. Took n count) (sym equal)) fits_it.0 fits_it.1)
          | inr other ↦ by_others (foreign-unless
              (λ piece same. absurd (let it = sym is ∙ same in cc))
              (λ more same. let it : Took at count ≡ Took number more = sym is ∙ same in let equal : number ≡ at = cc in other equal))
        ]
        by_kind (Started job ticket) is fit =
            by_others (foreign-unless (λ piece same. absurd (let it = sym is ∙ same in cc)) (λ count same. absurd (let it = sym is ∙ same in cc)))
        by_kind (StartFailed job) is fit =
            by_others (foreign-unless (λ piece same. absurd (let it = sym is ∙ same in cc)) (λ count same. absurd (let it = sym is ∙ same in cc)))
        by_kind Tick is fit =
            by_others (foreign-unless (λ piece same. absurd (let it = sym is ∙ same in cc)) (λ count same. absurd (let it = sym is ∙ same in cc)))

    pub told-event : Matches number (find_port number state.ports) (at_port number book) → Fits event state → IsTold
    told-event match fits = by_match refl match
      where
        by_match : {what : Option Peer} → at_port number book ≡ what → Matches number (find_port number state.ports) what → IsTold
        by_match is (nobody there) = event-nobody number state moment event tied book alone there is
        by_match is (somebody port peer found door client) =
            told-client port found door (subst (λ o. Client port (peer_or number o)) (sym is) client) fits

  -- ---- a run

  abbrev reads : List Stamped → List Reading
  reads actions = reads_of number actions

  tells-run : (events : List Timed) (state : State) (book : Book) → IsTied state → AllFit state events → AreBrief state events
      → IsAlone number book.peers → Matches number (find_port number state.ports) (at_port number book)
      → (tells number (see_all (run_sights state events) book).told ++ claim_of (at_port number (see_all (run_sights state events) book).book)
      ≡ claim_of (at_port number book) ++ reads (history state events))
      × IsAlone number (see_all (run_sights state events) book).book.peers
  unfolding see_all
  tells-run [] state book tied fits brief alone match = (sym (append-nil (claim_of (at_port number book))), alone)
  tells-run (timed ∷ later) state book tied fits brief alone match =
      let outcome = step state timed.moment timed.event in
      let now = told-event state timed.moment timed.event tied book alone brief.0 brief.1 match fits.0 in
      let next : Book = (see_all (event_sights state timed) book).book in
      let rest = tells-run later outcome.state next (step-fated state timed.moment timed.event tied).tied fits.1 brief.2 now.apart now.matches in
      let sights = run_sights outcome.state later in
      let read_now = filter_map (read_in timed.moment.wall number) outcome.actions in
      let stamps : reads (stamped outcome) ≡ read_now =
      reads-stamped number outcome.state.moment outcome.actions
      ∙ ap (λ w. filter_map (read_in w number) outcome.actions) (step-wall state timed.moment timed.event) in
      let told_now = tells number (see_all (event_sights state timed) book).told in
      let told_later = tells number (see_all sights next).told in
      let all_told : tells number (see_all (event_sights state timed ++ sights) book).told ≡ told_now ++ told_later =
      ap (tells number) (told-append number (event_sights state timed) sights book)
      ∙ filter_map-append (told_by_client number) (see_all (event_sights state timed) book).told (see_all sights next).told in
      let left = claim_of (at_port number (see_all sights next).book) in (
        ap (λ (l : List Reading). l ++ claim_of (at_port number (see_all (event_sights state timed ++ sights) book).book)) all_told
            ∙ ap (λ (b : Book). (told_now ++ told_later) ++ claim_of (at_port number b)) (book-append number (event_sights state timed) sights book)
            ∙ append_assoc told_now told_later left
            ∙ ap (λ (l : List Reading). told_now ++ l) rest.0
            ∙ sym (append_assoc told_now (claim_of (at_port number next)) (reads (history outcome.state later)))
            ∙ ap (λ (l : List Reading). l ++ reads (history outcome.state later)) now.told
            ∙ append_assoc (claim_of (at_port number book)) read_now (reads (history outcome.state later))
            ∙ ap (λ (l : List Reading). claim_of (at_port number book) ++ (l ++ reads (history outcome.state later))) (sym stamps)
            ∙ ap (λ (l : List Reading). claim_of (at_port number book) ++ l)
            (sym (filter_map-append (λ (one : Stamped). read_in one.moment.wall number one.action) (stamped outcome) (history outcome.state later))),
        subst (λ (b : Book). IsAlone number b.peers) (sym (book-append number (event_sights state timed) sights book)) rest.1,
      )

-- from the agent's start on
pub tells-what-is-read : (settings : Settings) (events : List Timed) → TellsWhatIsRead settings events
tells-what-is-read settings events fits number =
    let first = first_state settings in
    let seen = see_all (run_sights first events) new_book in
    let run = tells-run number events first new_book (first-tied settings) fits (always-brief settings events) tt (nobody (λ port found. absurd (cc))) in
    filter_map-append (told_by_client number) seen.told (open_in seen.book)
    ∙ ap (λ (l : List Reading). tells number seen.told ++ l) (tells-open number seen.book run.1)
    ∙ run.0
