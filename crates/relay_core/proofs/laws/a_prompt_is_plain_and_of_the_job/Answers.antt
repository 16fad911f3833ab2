use Rattle.relay_core.proofs.LawLemmas.{prompt-found, prompt-only}
use Rattle.relay_core.proofs.laws.a_prompt_is_plain_and_of_the_job.Goals as goal

pub returns : goal.returns
returns c = λ job body prompt. (prompt-only job body prompt, prompt-found job body prompt)
