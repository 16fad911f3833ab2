-- Prompts that the user may be shown (ours): docs/PROTOCOL.md, "Messages of child processes".
use Rattle.std.specs.Prelude.{ℕ, ◌==◌, ◌&&◌, ◌||◌, nat_le, Bool, if◌then◌else◌, List, Option, Some, None}
use Rattle.std.specs.List.{list_all}
use Rattle.std.specs.Result.{result_ok}
use Rattle.child_msg.specs.Messages.{ToChildMessage, Sign, Verify, Confirm}
use Rattle.child_msg.specs.Reading.{to_child_of}

-- LF, or a byte that ASCII prints
abbrev pub is_plain_byte : ℕ → Bool
is_plain_byte byte = (byte == 10) || (nat_le 32 byte && nat_le byte 126)

-- a prompt that shows as it is: no control of a terminal is in it
abbrev pub is_plain : List ℕ → Bool
is_plain prompt = list_all is_plain_byte prompt

-- the prompt of a request of this number, where it is the job's and is plain
abbrev pub shown_for : ℕ → ℕ → List ℕ → Option (List ℕ)
shown_for job number prompt = if (number == job) && is_plain prompt then Some prompt else None

-- the prompt of a message that asks for this job by a plain prompt
abbrev pub prompt_in : ℕ → Option ToChildMessage → Option (List ℕ)
prompt_in job (Some (Confirm number prompt)) = shown_for job number prompt
prompt_in job (Some (Sign request)) = None
prompt_in job (Some (Verify request)) = None
prompt_in job None = None

-- the prompt of a body that asks for this job by a plain prompt
unfoldable pub prompt_of : ℕ → List ℕ → Option (List ℕ)
prompt_of job body = prompt_in job (result_ok (to_child_of body))
