-- A client, as far as it was seen (ours). An agent takes a client's next request once the client took the whole reply to
-- the one before.
use Rattle.std.specs.Prelude.{ℕ, false, true, List, [], ◌++◌, Option, None, Some}
use Rattle.std.specs.Option.{option_map}
use Rattle.agent_msg.specs.Reading.{request_of}
use Rattle.log_book.specs.declared.told.Asked.{Asked}
use Rattle.log_book.specs.declared.told.Asked.TheVariants as asked
use Rattle.log_book.specs.declared.told.Course.{Course}
use Rattle.log_book.specs.declared.peer.Ended.{Ended}
use Rattle.log_book.specs.Requests.{asked_by, first_byte, next_in}

-- a client's port, what it sent and nothing has read yet, what it was given of a reply, what it asked for and waits for,
-- and how far that went
pub record Peer : Type 0 where
  pub port : ℕ
  pub sent : List ℕ
  pub given : List ℕ
  pub asked : Asked
  pub course : Course

-- a request that was just read
abbrev pub read_at : ℕ → Course
read_at wall = record { since = wall; raised = false; put = None }

-- a client that has sent nothing yet
abbrev pub new_peer : ℕ → Peer
new_peer port = record { port = port; sent = []; given = []; asked = asked.Nothing; course = read_at 0 }

-- it sent more
abbrev pub sent_more : List ℕ → Peer → Peer
sent_more piece peer = record peer { sent = peer.sent ++ piece }

-- the next request is read, where one is whole
abbrev pub read_next : ℕ → Option (List ℕ × List ℕ) → Peer → Peer
read_next wall None peer = peer
read_next wall (Some next) peer =
    record peer { sent = next.1; asked = asked_by (request_of next.0); course = read_at wall }

-- unless one is under way
abbrev pub looked_by : ℕ → Asked → Peer → Peer
looked_by wall asked.Nothing peer = read_next wall (next_in peer.sent) peer
looked_by wall (asked.Signing blob message) peer = peer
looked_by wall (asked.Adding blob comment) peer = peer
looked_by wall asked.Other peer = peer

-- the next request is read at this second, where it may be
unfoldable pub looked : ℕ → Peer → Peer
looked wall peer = looked_by wall peer.asked peer

-- a whole reply, with these bytes behind it, ends the request, and the next one is read
abbrev pub answered_by : ℕ → List ℕ → Option (List ℕ × List ℕ) → Peer → Peer
answered_by wall given None peer = record peer { given = given }
answered_by wall given (Some next) peer =
    looked wall record peer { given = next.1; asked = asked.Nothing }

-- the client was given these bytes
unfoldable pub answered : ℕ → List ℕ → Peer → Peer
answered wall bytes peer = answered_by wall (peer.given ++ bytes) (next_in (peer.given ++ bytes)) peer

-- the request that a reply ends
abbrev pub ended_with : Peer → List ℕ × List ℕ → Ended
ended_with peer next = record { asked = peer.asked; course = peer.course; reply = first_byte next.0 }

-- the request that these bytes end, where they end a reply
unfoldable pub ended_by : List ℕ → Peer → Option Ended
ended_by bytes peer = option_map (ended_with peer) (next_in (peer.given ++ bytes))

-- the user is asked about its request
abbrev pub raised_at : Peer → Peer
raised_at peer = record peer { course = record peer.course { raised = true } }

-- its request was put to the helper, when so many were lost
abbrev pub put_at : ℕ → Peer → Peer
put_at faults peer = record peer { course = record peer.course { put = Some faults } }
