-- What is put to the helper with a key that was added for some purposes (ours).
use Rattle.std.specs.Prelude.{◌≡◌, ◌≢◌, ℕ, List, [], ◌∷◌, ◌++◌}
use Rattle.key_purposes.specs.declared.purpose.Purpose.{Purpose}
use Rattle.agent_msg.specs.Requests.{Addition, Signing}
use Rattle.agent_model.specs.Events.{Timed}
use Rattle.agent_model.specs.Runs.{Stamped}
use Rattle.agent_model.specs.State.{Settings}
use Rattle.agent_laws.specs.History.{IsPutBehind, NoneAdds}
use Rattle.agent_laws.specs.Past.{DidAdd, done_of}

-- the signature is put to the helper behind an addition of its key with these purposes, and the key wasn't added again
pub record IsPutFor (purposes : List Purpose) (signing : Signing) (settings : Settings) (events : List Timed) : Type 0 where
  pub before : List Stamped
  pub one : Stamped
  pub between : List Stamped
  pub port : ℕ
  pub addition : Addition
  pub did : done_of one.action ≡ DidAdd addition
  pub its : addition.key.blob ≡ signing.blob
  pub given : addition.terms.purposes ≡ purposes
  pub some : purposes ≢ []
  pub alone : NoneAdds signing.blob between
  pub put : IsPutBehind (before ++ one ∷ between) port signing settings events
