-- Over a run: what is told of the requests that wait in the end, and of all.
use Rattle.std.proofs.Common.{◌≡◌, ◌≢◌, ◌&&◌, ℕ, List, [], ◌∷◌, ◌++◌, map, refl, ap, sym, subst, ◌∙◌, append_assoc, Option, Some, if◌then◌else◌}
use Rattle.agent_model.specs.Events.{Timed}
use Rattle.agent_model.specs.Runs.{AllFit, Stamped, stamped}
use Rattle.agent_model.specs.Sound.{IsTied}
use Rattle.agent_model.specs.State.{Settings, State, find_port, first_state, is_client}
use Rattle.agent_model.specs.Step.{step}
use Rattle.agent_model.proofs.FatedLemmas.{first-tied, step-fated}
use Rattle.log_book.specs.Books.{Book, new_book, open_in, see_all}
use Rattle.log_book.specs.Peers.{Peer}
use Rattle.log_book.specs.declared.sight.Sight.{Sight}
use Rattle.log_book.specs.declared.told.Asked.TheVariants as asks
use Rattle.log_laws.specs.Ends.{is_busy, last_request, readings_of, waits_at, waits_with, went_by}
use Rattle.log_laws.specs.Ends as law
use Rattle.log_laws.specs.Refusals.{AreCounted}
use Rattle.log_laws.specs.Sights.{event_sights, run_sights}
use Rattle.log_laws.specs.Tellings.{TellsEnds, TellsWhatCame}
use Rattle.log_laws.proofs.AgreeLemmas.{Matches, nobody, somebody}
use Rattle.log_laws.proofs.BookLemmas.{at_port, claim_by, claim_of, peer_or}
use Rattle.log_laws.proofs.CameLemmas.{busy-is, idle-not, waits-child, waits-none}
use Rattle.log_laws.proofs.ClientLemmas.{AreBrief, Client, idle, taking, waiting}
use Rattle.log_laws.proofs.EndLemmas.{ends, ends-open, went_at}
use Rattle.log_laws.proofs.FineLemmas.{Ends, Fine, claim-or, event-ends}
use Rattle.log_laws.proofs.ShortLemmas.{always-brief}
use Rattle.log_laws.proofs.SightsLemmas.{book-append, told-append}
use Rattle.log_laws.proofs.TallyLemmas.{Counts, Tallies, counts-after, counts-first, reasons-event, tallied-after}
use Rattle.log_laws.proofs.WentLemmas.{went_or}

module _ (number : ℕ) where
  -- ---- the end of a run

  pub waits-are : (past : List Stamped) (state : State) (book : Book) → Fine number past state book
      → ends number (open_in book) ≡ waits_at number past state
  waits-are past state book fine = ends-open number book fine.alone ∙ by_match refl fine.matches
    where
      by_match : {who : Option Peer} → at_port number book ≡ who → Matches number (find_port number state.ports) who
          → map (law.waiting (went_at (at_port number book))) (claim_of (at_port number book)) ≡ waits_at number past state
      by_match is (nobody there) =
          ap (λ o. map (law.waiting (went_at o)) (claim_of o)) is
          ∙ sym (waits-child number (find_port number state.ports) (last_request number past) there)
      by_match is (somebody port who found door client) =
          by_client (subst (λ o. Client port (peer_or number o)) (sym is) client)
        where
          peer_there : Peer
          peer_there = peer_or number (at_port number book)

          waits-is : waits_at number past state ≡ waits_with number (Some port) (last_request number past)
          waits-is = ap (λ o. waits_with number o (last_request number past)) found

          by_busy : Client port peer_there → peer_there.asked ≢ asks.Nothing
              → map (law.waiting (went_at (at_port number book))) (claim_of (at_port number book)) ≡ waits_at number past state
          by_busy client_there busy =
              let fared = fine.fares port found door busy in
              ap (map (law.waiting (went_at (at_port number book)))) (claim-or number (at_port number book) ∙ fared.reads)
              ∙ ap (λ w. map (law.waiting (went_or w)) (readings_of fared.request)) (fine.goes port found door busy fared.request fared.last)
              ∙ sym (waits-is ∙ ap (waits_with number (Some port)) fared.last
              ∙ ap (λ d. if is_client d && is_busy port.waits port.owed then map (law.waiting (went_by number fared.request.later)) (readings_of fared.request) else []) door
              ∙ ap (λ b. if b then map (law.waiting (went_by number fared.request.later)) (readings_of fared.request) else []) (busy-is port peer_there client_there busy))

          by_client : Client port peer_there → map (law.waiting (went_at (at_port number book))) (claim_of (at_port number book)) ≡ waits_at number past state
          by_client (idle nothing unowed sent given none more) =
              ap (map (law.waiting (went_at (at_port number book)))) (claim-or number (at_port number book) ∙ ap (λ a. claim_by a peer_there.course.since) none)
              ∙ sym (waits-is ∙ waits-none number port (last_request number past) (idle-not port nothing unowed))
          by_client (waiting on unowed sent given asking) = by_busy (waiting on unowed sent given asking) asking
          by_client (taking body nothing owes sent asking fits text) = by_busy (taking body nothing owes sent asking fits text) asking

-- ---- a run

ends-run : (events : List Timed) (past : List Stamped) (state : State) (book : Book) → IsTied state → AllFit state events
    → AreBrief state events → ((number : ℕ) → Fine number past state book) → Counts past state
    → ((number : ℕ) → AreCounted past → Tallies number past (peer_or number (at_port number book)))
    → TellsEnds past state events ((see_all (run_sights state events) book).told ++ open_in (see_all (run_sights state events) book).book)
unfolding see_all
ends-run [] past state book tied fits brief fine counts tallied = λ port. waits-are port past state book (fine port)
ends-run (timed ∷ later) past state book tied fits brief fine counts tallied =
    let outcome = step state timed.moment timed.event in
    let next : Book = (see_all (event_sights state timed) book).book in
    let sights : List Sight = run_sights outcome.state later in
    let each : (number : ℕ) → Ends number past state timed.moment timed.event tied book (fine number) fits.0 brief.0 brief.1 =
    λ number. event-ends number past state timed.moment timed.event tied book (fine number) fits.0 brief.0 brief.1 in (
      (see_all (event_sights state timed) book).told,
      (see_all sights next).told ++ open_in (see_all sights next).book,
      ap (λ l. l ++ open_in (see_all (event_sights state timed ++ sights) book).book) (told-append 0 (event_sights state timed) sights book)
          ∙ ap (λ b. ((see_all (event_sights state timed) book).told ++ (see_all sights next).told) ++ open_in b) (book-append 0 (event_sights state timed) sights book)
          ∙ append_assoc (see_all (event_sights state timed) book).told (see_all sights next).told (open_in (see_all sights next).book),
      λ number. (each number).ends_are,
      λ number few. reasons-event number past state timed.moment timed.event tied book (fine number) fits.0 brief.0 brief.1 (each number) counts (tallied number) few,
      ends-run later (past ++ stamped outcome) outcome.state next (step-fated state timed.moment timed.event tied).tied fits.1 brief.2 (λ number. (each number).fine_after)
          (counts-after past state timed counts)
          (λ number few. tallied-after number past state timed.moment timed.event tied book (fine number) fits.0 brief.0 brief.1 (each number) counts (tallied number) few),
    )

-- from the agent's start on
pub tells-what-came : (settings : Settings) (events : List Timed) → TellsWhatCame settings events
tells-what-came settings events fits =
    ends-run events [] (first_state settings) new_book (first-tied settings) fits (always-brief settings events)
    (λ number. record { alone = tt; matches = nobody (λ port found. absurd (cc)); fares = λ port found door busy. absurd (busy refl); goes = λ port found door busy. absurd (busy refl) })
    (counts-first settings) (λ number few busy. absurd (busy refl))
