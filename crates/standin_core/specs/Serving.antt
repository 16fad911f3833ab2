-- A helper between two frames, and the steps that it takes (ours).
use Rattle.std.specs.Prelude.{◌≡◌, ℕ, List, ◌++◌}
use Rattle.std.specs.Io.KnownBytes.{Appends}
use Rattle.child_peer.specs.Talk.{HasRead}
use Rattle.standin_core.specs.Hosts.{Host}
use Rattle.standin_core.specs.Transcript.{Transcript, after, served}
use Rattle.world_ports.specs.Streams.{StreamView}

-- a talk that goes on: `bytes` were read and `sent` was sent, and the rest of the talk is that of what is heard and
-- not answered, and of what follows
pub record IsUnderWay (hosts : List Host) (whole : List ℕ → Transcript) (start now : StreamView) (heard : List ℕ) : Type 0 where
  pub bytes : List ℕ
  pub read : HasRead start now bytes
  pub sent : List ℕ
  pub wrote : Appends start.written now.written sent
  pub goes : (more : List ℕ) → whole (bytes ++ more) ≡ after sent (served hosts (heard ++ more))
  pub reads : now.read_faults ≡ start.read_faults
  pub writes : now.write_faults ≡ start.write_faults
