use Rattle.std.proofs.Common.{◌≡◌, sym, refl, Option, Some, None, map, string_bytes}
use Rattle.child_peer.specs.Words.{ChildWords, plain_words}
use Rattle.helper_core.specs.Transcript.{transcript_of}
use Rattle.helper_core.proofs.EndLemmas.{at}
use Rattle.helper_core.proofs.ProgramLemmas.{answers_by, no_usage, transcript-usage, transcript-talk}
use Rattle.helper_core.proofs.program.helper_main.Goals as goal

-- words that are read are not refused
some_words : {words : ChildWords} {read : Option ChildWords} → Some words ≡ read → read ≡ None → ⊥
some_words is none = cc (is, none)

pub returns-in_default-clause-answers : goal.returns-in_default-clause-answers
returns-in_default-clause-answers g c = record {
  is = transcript-usage (g.A.Answerer.route c.args.answerer.now) (map string_bytes c.args.words.now) (sym c.in_default.ensures);
  same = refl;
}

pub returns-in-Some-greet-clause-answers : goal.returns-in-Some-greet-clause-answers
returns-in-Some-greet-clause-answers g c =
    let route = g.A.Answerer.route c.args.answerer.now in
    let texts = map string_bytes c.args.words.now in
    let greets = transcript-talk route texts (plain_words c.in-Some.words) (sym c.in-Some.ensures) in
    let ends = c.in-Some-greet.ensures route (transcript_of route texts) (g.B.HelperBehind.seen c.args.behind.now) greets in
    answers_by c.in-Some-greet.status route texts _ _ ends

pub returns-in-Some-greet-clause-usage : goal.returns-in-Some-greet-clause-usage
returns-in-Some-greet-clause-usage g c =
    let route = g.A.Answerer.route c.args.answerer.now in
    let texts = map string_bytes c.args.words.now in
    let greets = transcript-talk route texts (plain_words c.in-Some.words) (sym c.in-Some.ensures) in
    let ends = c.in-Some-greet.ensures route (transcript_of route texts) (g.B.HelperBehind.seen c.args.behind.now) greets in
    (λ is. absurd (no_usage c.in-Some-greet.status _ _ _ ends is), λ none. absurd (some_words c.in-Some.ensures none))

pub returns-in-Some-greet-clause-unused : goal.returns-in-Some-greet-clause-unused
returns-in-Some-greet-clause-unused g c =
    let route = g.A.Answerer.route c.args.answerer.now in
    let texts = map string_bytes c.args.words.now in
    let greets = transcript-talk route texts (plain_words c.in-Some.words) (sym c.in-Some.ensures) in
    let ends = c.in-Some-greet.ensures route (transcript_of route texts) (g.B.HelperBehind.seen c.args.behind.now) greets in
    λ is. absurd (no_usage c.in-Some-greet.status _ _ _ ends is)

pub returns-clause-answers : goal.returns-clause-answers
returns-clause-answers g c =
    let route = g.A.Answerer.route c.args.answerer.now in
    let texts = map string_bytes c.args.words.now in
    let greets = transcript-talk route texts (plain_words c.in-Some.words) (sym c.in-Some.ensures) in
    let under = c.in_default-greet.ensures route (transcript_of route texts) (g.B.HelperBehind.seen c.args.behind.now) greets in
    let ends = c.serve.ensures (transcript_of route texts) (at (g.B.HelperBehind.seen c.args.behind.now) (g.P.Stream.seen c.args.peer.now)) under in
    answers_by c.serve.result route texts _ _ ends

pub returns-clause-usage : goal.returns-clause-usage
returns-clause-usage g c =
    let route = g.A.Answerer.route c.args.answerer.now in
    let texts = map string_bytes c.args.words.now in
    let greets = transcript-talk route texts (plain_words c.in-Some.words) (sym c.in-Some.ensures) in
    let under = c.in_default-greet.ensures route (transcript_of route texts) (g.B.HelperBehind.seen c.args.behind.now) greets in
    let ends = c.serve.ensures (transcript_of route texts) (at (g.B.HelperBehind.seen c.args.behind.now) (g.P.Stream.seen c.args.peer.now)) under in
    (λ is. absurd (no_usage c.serve.result _ _ _ ends is), λ none. absurd (some_words c.in-Some.ensures none))

pub returns-clause-unused : goal.returns-clause-unused
returns-clause-unused g c =
    let route = g.A.Answerer.route c.args.answerer.now in
    let texts = map string_bytes c.args.words.now in
    let greets = transcript-talk route texts (plain_words c.in-Some.words) (sym c.in-Some.ensures) in
    let under = c.in_default-greet.ensures route (transcript_of route texts) (g.B.HelperBehind.seen c.args.behind.now) greets in
    let ends = c.serve.ensures (transcript_of route texts) (at (g.B.HelperBehind.seen c.args.behind.now) (g.P.Stream.seen c.args.peer.now)) under in
    λ is. absurd (no_usage c.serve.result _ _ _ ends is)
