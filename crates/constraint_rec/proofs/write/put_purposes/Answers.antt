use Rattle.std.proofs.Common.{◌≡◌, ◌≢◌, [], rules}
use Rattle.constraint_rec.proofs.PurposeLemmas.{text_is_short}
use Rattle.constraint_rec.proofs.ReadingLemmas.{purposes_name_is_short}
use Rattle.constraint_rec.proofs.write.put_purposes.Goals as goal

pub put_string-requires : goal.put_string-requires
put_string-requires c = rw c.purposes_name.ensures purposes_name_is_short

pub purposes_text-requires : goal.purposes_text-requires
purposes_text-requires c =
    let some : c.args.purposes.now ≢ [] = λ none. search (rules, none) in
    text_is_short c.args.purposes.now (c.requires some)

pub put_string-requires-then-not-is_empty : goal.put_string-requires-then-not-is_empty
put_string-requires-then-not-is_empty c =
    let some : c.args.purposes.now ≢ [] = λ none. search (rules, none) in
    rw (c.deref.ensures.value, c.in_ok-text.ensures) (text_is_short c.args.purposes.now (c.requires some))
