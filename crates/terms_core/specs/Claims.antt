-- What each end of a relay says (ours). The file is read from its end, `Ends`.
use Rattle.std.specs.Prelude.{◌≡◌, ◌⊎◌, ℕ, List, [], Some}
use Rattle.std.specs.Io.KnownBytes.{IsAtEnd}
use Rattle.terms_core.specs.Additions.{refusal}
use Rattle.terms_core.specs.Relays.{Both, IsBroken, IsRelayed}
use Rattle.terms_core.specs.declared.fault.BodyFault.{BodyFault}
use Rattle.terms_core.specs.declared.fault.BodyFault.TheVariants as bodies
use Rattle.terms_core.specs.declared.status.TermsStatus.{TermsStatus}
use Rattle.terms_core.specs.declared.status.TermsStatus.TheVariants.{Done, BadRequest, Usage, TooLong, Twice, Memory, ReadFault, WriteFault, TornEnd, BadReply, LostAgent, BadPurpose}
use Rattle.wire_text.specs.Bounds.{longest_body}
use Rattle.wire_text.specs.Frames.{Front, Whole, Bad, More, front, front_body}
use Rattle.world_ports.specs.Causes.{Rose}

-- the client has ended, every request of it was sent with the terms, and every reply given back
pub record EndsDone (terms : List ℕ) (old new : Both) : Type 0 where
  pub replied : List ℕ
  pub relayed : IsRelayed terms 0 [] replied old new
  pub end : IsAtEnd new.client.left

-- so far all is relayed, and of what was read of the client this is in front: nothing of it was sent
pub record EndsAt (found : Front) (terms asked : List ℕ) (old new : Both) : Type 0 where
  pub replied : List ℕ
  pub relayed : IsRelayed terms 0 asked replied old new
  pub is : front longest_body asked ≡ found

-- a length that no request has
pub record EndsBadly (terms : List ℕ) (old new : Both) : Type 0 where
  pub asked : List ℕ
  pub announced : ℕ
  pub at : EndsAt (Bad announced) terms asked old new

-- a front of a request, behind which the client ended
pub record EndsTorn (terms : List ℕ) (old new : Both) : Type 0 where
  pub asked : List ℕ
  pub at : EndsAt More terms asked old new
  pub some : asked ≡ [] → ⊥
  pub end : IsAtEnd new.client.left

-- a request that isn't passed on
pub record EndsRefused (why : BodyFault) (terms : List ℕ) (old new : Both) : Type 0 where
  pub asked : List ℕ
  pub body_len : ℕ
  pub at : EndsAt (Whole body_len) terms asked old new
  pub refused : refusal terms (front_body body_len asked) ≡ Some why

-- all was sent, the last request has no reply yet, and of what was read of the agent this is in front
pub record EndsUnreplied (found : Front) (terms : List ℕ) (old new : Both) : Type 0 where
  pub asked : List ℕ
  pub replied : List ℕ
  pub relayed : IsRelayed terms 1 asked replied old new
  pub is : front longest_body replied ≡ found

-- a length that no reply has
pub record EndsAtBadReply (terms : List ℕ) (old new : Both) : Type 0 where
  pub announced : ℕ
  pub at : EndsUnreplied (Bad announced) terms old new

-- the agent ended
pub record EndsLost (terms : List ℕ) (old new : Both) : Type 0 where
  pub at : EndsUnreplied More terms old new
  pub end : IsAtEnd new.agent.left

-- a read failed
pub record EndsAtReadFault (terms : List ℕ) (old new : Both) : Type 0 where
  pub broken : IsBroken terms old new
  pub cause : Rose old.client.read_faults new.client.read_faults ⊎ Rose old.agent.read_faults new.agent.read_faults

-- a write failed
pub record EndsAtWriteFault (terms : List ℕ) (old new : Both) : Type 0 where
  pub broken : IsBroken terms old new
  pub cause : Rose old.client.write_faults new.client.write_faults ⊎ Rose old.agent.write_faults new.agent.write_faults

-- what a status says
abbrev pub Ends : TermsStatus → List ℕ → Both → Both → Type 0
Ends Done terms old new = EndsDone terms old new
Ends BadRequest terms old new = EndsBadly terms old new
-- these two come before a relay
Ends Usage terms old new = ⊥
Ends (BadPurpose fault) terms old new = ⊥
Ends TooLong terms old new = EndsRefused bodies.TooLong terms old new
Ends Twice terms old new = EndsRefused bodies.Twice terms old new
Ends Memory terms old new = IsBroken terms old new
Ends ReadFault terms old new = EndsAtReadFault terms old new
Ends WriteFault terms old new = EndsAtWriteFault terms old new
Ends TornEnd terms old new = EndsTorn terms old new
Ends BadReply terms old new = EndsAtBadReply terms old new
Ends LostAgent terms old new = EndsLost terms old new
