use Rattle.std.proofs.Common.{◌≡◌, true, false, [], map, string_bytes, refl, sym, ap, ◌∙◌, inl, inr}
use Rattle.clap.specs.Faults.{fault_of, is_simple_and_free}
use Rattle.clap.specs.Matches.{found_of}
use Rattle.clap.specs.Simple.{app_of, is_simple, matches_of}
use Rattle.clap.specs.Walk.{first_of, is_empty}
use Rattle.clap.proofs.WalkLemmas.{first_value-rows}
use Rattle.serve_words.specs.Serve.{is_taken, serve_app, value_of}
use Rattle.serve_words.proofs.CommandLemmas.{is_empty-among}
use Rattle.serve_words.proofs.command.serve_matches.Goals as goal

-- the command has no more than clap's definitions speak of
serve_app-simple : is_simple serve_app ≡ true
unfolding serve_app
serve_app-simple = refl

serve_app-free : is_simple_and_free serve_app ≡ true
unfolding serve_app
serve_app-free = refl

pub returns-in-Ok-clause-taken : goal.returns-in-Ok-clause-taken
unfolding is_taken
returns-in-Ok-clause-taken c =
    let app : app_of c.in_ok-command.command ≡ serve_app = c.in_ok-command.ensures in
    let words = map string_bytes c.args.words.now in
    let none : fault_of (app_of c.in_ok-command.command) words ≡ [] = c.in-Ok.ensures.kinds (ap is_simple_and_free app ∙ serve_app-free) in
    ap is_empty (ap (λ a. fault_of a words) (sym app) ∙ none)

pub returns-in-Ok-clause-values : goal.returns-in-Ok-clause-values
unfolding value_of
returns-in-Ok-clause-values c =
    let app : app_of c.in_ok-command.command ≡ serve_app = c.in_ok-command.ensures in
    let words = map string_bytes c.args.words.now in
    λ id. first_value-rows (found_of c.in-Ok.matches) id
    ∙ ap (first_of id) ((c.in-Ok.ensures.matches (ap is_simple app ∙ serve_app-simple)).0 ∙ ap (λ a. matches_of a words) app)

pub returns : goal.returns
unfolding is_taken
returns c =
    let app : app_of c.in_ok-command.command ≡ serve_app = c.in_ok-command.ensures in
    let words = map string_bytes c.args.words.now in
    let among = elim (c.in-Err.ensures.kinds (ap is_simple_and_free app ∙ serve_app-free)) as (λ _. is_empty (fault_of (app_of c.in_ok-command.command) words) ≡ false) [
      | inl memory ↦ absurd (c.in_default.not-OutOfMemory (c.kind.ensures ∙ memory))
      | inr kind ↦ is_empty-among _ _ kind
    ] in
    record { taken = tt; values = tt; refused = λ _. ap (λ a. is_empty (fault_of a words)) (sym app) ∙ among }
