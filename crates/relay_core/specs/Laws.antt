-- What the laws of a relay say (ours).
use Rattle.std.specs.Prelude.{◌≡◌, ◌⊎◌, ℕ, ℤ, pos, true, List, [], map, codes, Ok}
use Rattle.std.specs.Char.{to_ascii_lowercase}
use Rattle.child_msg.specs.Messages.{Confirm}
use Rattle.child_msg.specs.Reading.{to_child_of}
use Rattle.relay_core.specs.Prompts.{is_plain}
use Rattle.relay_core.specs.Transcript.{RunAnswer}
use Rattle.relay_core.specs.Verdicts.{first_line}
use Rattle.world_ports.specs.declared.spawner.Ran.{Ran}

-- the status is 0, and the output up to its first CR or LF is empty or `yes` in any case
pub record IsConsent (status : ℤ) (output : List ℕ) : Type 0 where
  pub zero : status ≡ pos 0
  pub word : (first_line output ≡ []) ⊎ (map to_ascii_lowercase (first_line output) ≡ map to_ascii_lowercase (codes "yes"))

-- the program ran to its end, and its status and output are a consent
pub record ConsentsBy (answer : RunAnswer) : Type 0 where
  pub ran : Ran
  pub ended : answer ≡ Ok ran
  pub says : IsConsent ran.status ran.output

-- the body is a request for this job by this prompt, which is plain
pub record IsPromptOf (job : ℕ) (body prompt : List ℕ) : Type 0 where
  pub read : to_child_of body ≡ Ok (Confirm job prompt)
  pub plain : is_plain prompt ≡ true
