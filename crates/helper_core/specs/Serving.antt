-- A helper between two frames, and the steps that it takes (ours).
use Rattle.std.specs.Prelude.{◌≡◌, ℕ, Bool, true, false, List, [], ◌∷◌, ◌++◌, Option, Result, Ok, Err}
use Rattle.std.specs.declared.alloc.AllocError.{AllocError}
use Rattle.child_msg.specs.ChildFrames.{from_child_body}
use Rattle.helper_core.specs.Claims.{Begins, HasDone, Seen, Talk}
use Rattle.helper_core.specs.declared.asked.Asked.{Asked}
use Rattle.helper_core.specs.declared.behind.Exchange.{Exchange}
use Rattle.helper_core.specs.Routes.{Route, NoRequest, counted, given_up_by}
use Rattle.helper_core.specs.Transcript.{Replies, Transcript, after, replies_of, served, then_served}
use Rattle.wire_text.specs.Wire.{string}
use Rattle.world_ports.specs.Journal.{Grows, Tells}

-- a talk that goes on: the rest of it is that of what is heard and not answered, and of what follows
pub record IsUnderWay (route : List ℕ → Route) (talk : Talk) (start now : Seen) (heard : List ℕ) : Type 0 where
  pub bytes : List ℕ
  pub handed : List Exchange
  pub sent : List ℕ
  pub done : HasDone start now bytes handed sent
  pub goes : (later : Replies) (more : List ℕ)
      → talk (replies_of handed ++ later) (bytes ++ more) ≡ after sent handed (served route later (heard ++ more))
  pub reads : now.peer.read_faults ≡ start.peer.read_faults
  pub writes : now.peer.write_faults ≡ start.peer.write_faults

-- ---- one body

-- the body brings this frame and hands these on, and then comes what follows it
abbrev pub IsStep : Route → List ℕ → List Exchange → List ℕ → Type 0
IsStep route body handed frame = (later : Replies) (rest : Replies → Transcript)
    → then_served route body (replies_of handed ++ later) rest ≡ after frame handed (rest later)

-- the body is answered: the frame of the answer was appended, and these were handed on for it
pub record PutsAnswer (route : Route) (body : List ℕ) (behind now : Option (List Exchange)) (before out : List ℕ) : Type 0 where
  pub handed : List Exchange
  pub grew : Grows behind now handed
  pub frame : List ℕ
  pub appended : out ≡ before ++ frame
  pub step : IsStep route body handed frame

-- memory ran out, where these were handed on
pub record PutsNothing (route : Route) (body : List ℕ) (behind now : Option (List Exchange)) : Type 0 where
  pub handed : List Exchange
  pub grew : Grows behind now handed
  pub begins : (later : Replies) (rest : Replies → Transcript)
      → Begins [] handed (then_served route body (replies_of handed ++ later) rest)

-- what the answering of a body says
abbrev pub Puts : Result Bool AllocError → Route → List ℕ → Option (List Exchange) → Option (List Exchange) → List ℕ → List ℕ → Type 0
Puts (Ok true) route body behind now before out = PutsAnswer route body behind now before out
Puts (Ok false) route body behind now before out = (route ≡ NoRequest) × (now ≡ behind)
Puts (Err _) route body behind now before out = PutsNothing route body behind now

-- a request was handed on, and the frame of the answer that its reply gives was appended; the helper was given up exactly
-- where its reply is none to what was asked
pub record IsHandedOn (asked : Asked) (request : List ℕ) (behind now : Option (List Exchange)) (gave_up given_up : ℕ) (before out : List ℕ) : Type 0 where
  pub reply : Option (List ℕ)
  pub grew : Grows behind now (record { request = request; reply = reply } ∷ [])
  pub appended : out ≡ before ++ string (from_child_body (counted asked reply))
  pub parted : given_up ≡ given_up_by asked reply gave_up

-- memory ran out, and the request may have been handed on
pub record IsMaybeHandedOn (asked : Asked) (request : List ℕ) (behind now : Option (List Exchange)) (gave_up given_up : ℕ) : Type 0 where
  pub reply : Option (List ℕ)
  pub told : Tells behind now true (record { request = request; reply = reply })
  pub parted : given_up ≡ given_up_by asked reply gave_up
