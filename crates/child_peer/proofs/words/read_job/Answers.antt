use Rattle.std.proofs.Common.{◌≡◌, ◌≢◌, get_or, ◌∙◌, true, arith}
use Rattle.std.proofs.lemmas.Bool.Decides.{nat_tests}
use Rattle.std.proofs.lemmas.Str.Parse.{parse_plain}
use Rattle.child_peer.specs.Words.{is_shortest}
use Rattle.child_peer.proofs.WordLemmas.{decimal_digits, job_of-read}
use Rattle.child_peer.proofs.words.read_job.Goals as goal

pub returns : goal.returns
returns c =
    let shortest : is_shortest c.args.word.now ≡ true = grind (arith, nat_tests, c.is_shortest.ensures, c.as_bytes-digits.ensures.value) in
    let no_sign : get_or c.args.word.now 0 0 ≢ 43 = grind (arith, nat_tests, c.as_bytes-digits.ensures.value) in
    c.ok.ensures.value
    ∙ job_of-read c.args.word.now c.parse.result shortest (parse_plain decimal_digits 64 c.args.word.now c.parse.result c.parse.ensures.value.0 no_sign)
