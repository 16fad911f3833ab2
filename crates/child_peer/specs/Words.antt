-- The words that a child process is started with (ours): docs/PROTOCOL.md, "Messages of child processes".
use Rattle.std.specs.Prelude.{ℕ, ◌^◌, ◌==◌, ◌&&◌, nat_lt, not, Bool, true, false, if◌then◌else◌, List, [], ◌∷◌, Option, None, Some, option_map}
use Rattle.std.specs.Result.{result_ok}
use Rattle.std.specs.Str.{all_ascii_digits}
use Rattle.std.specs.Str.Parse.{digits_value}
use Rattle.hex.specs.Hex.{decode_sized}
use Rattle.child_peer.specs.declared.words.Words.{Words}

-- what the words say: the job, its one-time ticket, and the last word, where there is one
pub record ChildWords : Type 0 where
  pub job : ℕ
  pub ticket : List ℕ
  pub last : Option (List ℕ)

-- something is written, with no zero in front of another digit
abbrev pub is_shortest : List ℕ → Bool
is_shortest [] = false
is_shortest (digit ∷ []) = true
is_shortest (digit ∷ next ∷ digits) = not (digit == 48)

-- the number below 2^64 that decimal digits without leading zeros write
abbrev pub job_of : List ℕ → Option ℕ
job_of word =
    if is_shortest word && all_ascii_digits word && nat_lt (digits_value 10 word) (2 ^ 64)
    then Some (digits_value 10 word) else None

-- the sixteen bytes that hexadecimal digits write, in either case
abbrev pub ticket_of : List ℕ → Option (List ℕ)
ticket_of word = result_ok (decode_sized word 16)

-- the three of them, where both numbers are read
abbrev pub words_with : Option ℕ → Option (List ℕ) → Option (List ℕ) → Option ChildWords
words_with (Some job) (Some ticket) last = Some record { job = job; ticket = ticket; last = last }
words_with (Some job) None last = None
words_with None ticket last = None

-- SOCKET JOB TICKET, and one word more where there is one
abbrev pub words_of : List (List ℕ) → Option ChildWords
words_of (socket ∷ job ∷ ticket ∷ []) = words_with (job_of job) (ticket_of ticket) None
words_of (socket ∷ job ∷ ticket ∷ last ∷ []) = words_with (job_of job) (ticket_of ticket) (Some last)
words_of _ = None

-- the code's words as plain values
abbrev pub plain_words : Words → ChildWords
plain_words words = record {
  job = words.job;
  ticket = words.ticket;
  last = option_map (λ word. word.now) words.last;
}
