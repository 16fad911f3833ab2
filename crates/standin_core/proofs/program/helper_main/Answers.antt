use Rattle.std.proofs.Common.{◌≡◌, sym, refl, subst, List, ℕ, Option, Some, None, map, string_bytes}
use Rattle.child_peer.specs.Words.{ChildWords, plain_words}
use Rattle.standin_core.specs.Hosts.{ArePairs}
use Rattle.standin_core.specs.Transcript.{transcript_of}
use Rattle.standin_core.proofs.DataLemmas.{files_agree}
use Rattle.standin_core.proofs.ProgramLemmas.{answers_by, no_usage, no_file_fault, transcript-usage, transcript-fault, transcript-talk}
use Rattle.standin_core.proofs.program.helper_main.Goals as goal

-- words that are read are not refused
some_words : {words : ChildWords} {read : Option ChildWords} → Some words ≡ read → read ≡ None → ⊥
some_words is none = cc (is, none)

pub returns-in_default-clause-answers : goal.returns-in_default-clause-answers
returns-in_default-clause-answers g c =
    let at = files_agree (g.F.Files.seen c.args.files.now).held in
    record {
      held = at.0;
      told = at.1;
      is = transcript-usage (map string_bytes c.args.words.now) at.0 (sym c.in_default.ensures);
      peer = refl;
      faults = refl;
    }

pub returns-in-Err-TooLong-clause-answers : goal.returns-in-Err-TooLong-clause-answers
returns-in-Err-TooLong-clause-answers g c =
    let reads = rw c.in-Err-TooLong.field-0-is at c.in-Err-TooLong.ensures.reads in
    record {
      held = reads.0.held;
      told = reads.0.told;
      is = transcript-fault (map string_bytes c.args.words.now) reads.0.held (plain_words c.in-Some.words) _ (sym c.in-Some.ensures) reads.0.read;
      peer = refl;
      faults = reads.1;
    }

pub returns-in-Err-Bad-clause-answers : goal.returns-in-Err-Bad-clause-answers
returns-in-Err-Bad-clause-answers g c =
    let reads = rw c.in-Err-Bad.field-0-is at c.in-Err-Bad.ensures.reads in
    record {
      held = reads.0.held;
      told = reads.0.told;
      is = transcript-fault (map string_bytes c.args.words.now) reads.0.held (plain_words c.in-Some.words) _ (sym c.in-Some.ensures) reads.0.read;
      peer = refl;
      faults = reads.1;
    }

pub returns-in-Some-greet-clause-answers : goal.returns-in-Some-greet-clause-answers
returns-in-Some-greet-clause-answers g c =
    let texts = map string_bytes c.args.words.now in
    let reads = c.in-Ok.ensures.reads in
    let greets = transcript-talk texts reads.0.held (plain_words c.in-Some.words) reads.0.hosts (sym c.in-Some.ensures) reads.0.read in
    let ends = c.in-Some-greet.ensures reads.0.hosts (transcript_of texts reads.0.held) greets in
    answers_by c.in-Some-greet.status texts _ _ (record { held = reads.0.held; told = reads.0.told; ends = ends; faults = reads.1 })

pub returns-in-Some-greet-clause-usage : goal.returns-in-Some-greet-clause-usage
returns-in-Some-greet-clause-usage g c =
    let texts = map string_bytes c.args.words.now in
    let reads = c.in-Ok.ensures.reads in
    let greets = transcript-talk texts reads.0.held (plain_words c.in-Some.words) reads.0.hosts (sym c.in-Some.ensures) reads.0.read in
    let ends = c.in-Some-greet.ensures reads.0.hosts (transcript_of texts reads.0.held) greets in
    (λ is. absurd (no_usage c.in-Some-greet.status _ _ _ ends is), λ none. absurd (some_words c.in-Some.ensures none))

pub returns-in-Some-greet-clause-unused : goal.returns-in-Some-greet-clause-unused
returns-in-Some-greet-clause-unused g c =
    let texts = map string_bytes c.args.words.now in
    let reads = c.in-Ok.ensures.reads in
    let greets = transcript-talk texts reads.0.held (plain_words c.in-Some.words) reads.0.hosts (sym c.in-Some.ensures) reads.0.read in
    let ends = c.in-Some-greet.ensures reads.0.hosts (transcript_of texts reads.0.held) greets in
    λ is. absurd (no_usage c.in-Some-greet.status _ _ _ ends is)

pub returns-in-Some-greet-clause-unheard : goal.returns-in-Some-greet-clause-unheard
returns-in-Some-greet-clause-unheard g c =
    let texts = map string_bytes c.args.words.now in
    let reads = c.in-Ok.ensures.reads in
    let greets = transcript-talk texts reads.0.held (plain_words c.in-Some.words) reads.0.hosts (sym c.in-Some.ensures) reads.0.read in
    let ends = c.in-Some-greet.ensures reads.0.hosts (transcript_of texts reads.0.held) greets in
    λ is. absurd (no_file_fault c.in-Some-greet.status _ _ _ ends is)

pub returns-clause-answers : goal.returns-clause-answers
returns-clause-answers g c =
    let texts = map string_bytes c.args.words.now in
    let reads = c.in-Ok.ensures.reads in
    let greets = transcript-talk texts reads.0.held (plain_words c.in-Some.words) reads.0.hosts (sym c.in-Some.ensures) reads.0.read in
    let under = c.in_default-greet.ensures reads.0.hosts (transcript_of texts reads.0.held) greets in
    let are = subst (λ (p : List ℕ). ArePairs p reads.0.hosts) (sym c.live.ensures) reads.0.are in
    let ends = c.serve.ensures reads.0.hosts (transcript_of texts reads.0.held) (g.P.Stream.seen c.args.peer.now) are under in
    answers_by c.serve.result texts _ _ (record { held = reads.0.held; told = reads.0.told; ends = ends; faults = reads.1 })

pub returns-clause-usage : goal.returns-clause-usage
returns-clause-usage g c =
    let texts = map string_bytes c.args.words.now in
    let reads = c.in-Ok.ensures.reads in
    let greets = transcript-talk texts reads.0.held (plain_words c.in-Some.words) reads.0.hosts (sym c.in-Some.ensures) reads.0.read in
    let under = c.in_default-greet.ensures reads.0.hosts (transcript_of texts reads.0.held) greets in
    let are = subst (λ (p : List ℕ). ArePairs p reads.0.hosts) (sym c.live.ensures) reads.0.are in
    let ends = c.serve.ensures reads.0.hosts (transcript_of texts reads.0.held) (g.P.Stream.seen c.args.peer.now) are under in
    (λ is. absurd (no_usage c.serve.result _ _ _ ends is), λ none. absurd (some_words c.in-Some.ensures none))

pub returns-clause-unused : goal.returns-clause-unused
returns-clause-unused g c =
    let texts = map string_bytes c.args.words.now in
    let reads = c.in-Ok.ensures.reads in
    let greets = transcript-talk texts reads.0.held (plain_words c.in-Some.words) reads.0.hosts (sym c.in-Some.ensures) reads.0.read in
    let under = c.in_default-greet.ensures reads.0.hosts (transcript_of texts reads.0.held) greets in
    let are = subst (λ (p : List ℕ). ArePairs p reads.0.hosts) (sym c.live.ensures) reads.0.are in
    let ends = c.serve.ensures reads.0.hosts (transcript_of texts reads.0.held) (g.P.Stream.seen c.args.peer.now) are under in
    λ is. absurd (no_usage c.serve.result _ _ _ ends is)

pub returns-clause-unheard : goal.returns-clause-unheard
returns-clause-unheard g c =
    let texts = map string_bytes c.args.words.now in
    let reads = c.in-Ok.ensures.reads in
    let greets = transcript-talk texts reads.0.held (plain_words c.in-Some.words) reads.0.hosts (sym c.in-Some.ensures) reads.0.read in
    let under = c.in_default-greet.ensures reads.0.hosts (transcript_of texts reads.0.held) greets in
    let are = subst (λ (p : List ℕ). ArePairs p reads.0.hosts) (sym c.live.ensures) reads.0.are in
    let ends = c.serve.ensures reads.0.hosts (transcript_of texts reads.0.held) (g.P.Stream.seen c.args.peer.now) are under in
    λ is. absurd (no_file_fault c.serve.result _ _ _ ends is)
