use Rattle.std.proofs.Common.{rules, ◌≡◌, map, string_bytes, codes, true, false, refl, List, ℕ}
use Rattle.std.specs.Prelude.{◌&&◌, not, is_some}
use Rattle.serve_words.specs.Serve.{begins, ends_with_record, is_one_alone, is_recorded, is_taken, is_unread, seconds_of, value_of}
use Rattle.world_ports.specs.Life.{life_of}
use Rattle.serve_words.proofs.words.read_serve.Goals as goal

pub returns-clause-served : goal.returns-clause-served
returns-clause-served c =
    let words : List (List ℕ) = map string_bytes c.args.words.now in
    let begun : begins words ≡ true = search rules in
    let taken : is_taken words ≡ true = c.in_ok-matches.ensures.taken in
    let path : is_some (value_of (codes "path") words) ≡ true = search rules in
    let helper : is_some (value_of (codes "helper") words) ≡ true = search rules in
    let both : is_one_alone (value_of (codes "relay") words) (value_of (codes "askpass") words) ≡ false = search rules in
    let life : is_unread life_of (value_of (codes "lifetime") words) ≡ false = search rules in
    let limit : is_unread seconds_of (value_of (codes "confirm-limit") words) ≡ false = search rules in
    let stop : (ends_with_record words && not (is_recorded words)) ≡ false = search rules in
    rw (begun, taken, path, helper, both, life, limit, stop) refl
