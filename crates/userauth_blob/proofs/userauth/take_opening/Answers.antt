use Rattle.std.proofs.Common.{◌≡◌, Err, refl, rules}
use Rattle.userauth_blob.specs.Reading.{opening_at}
use Rattle.userauth_blob.proofs.userauth.take_opening.Goals as goal

pub returns-in_err-take_text : goal.returns-in_err-take_text
returns-in_err-take_text c =
    let stopped : opening_at c.args.from.now ≡ Err c.in_err-take_text.field-0.0 =
    rw (
      c.in_ok-session.ensures,
      c.in_ok-take_byte.ensures,
      c.in_ok-user.ensures.exact,
      c.in_err-take_text.ensures,
    ) refl in
    search rules

pub returns : goal.returns
returns c =
    rw (
      c.in_ok-session.ensures,
      c.in_ok-take_byte.ensures,
      c.in_ok-user.ensures.exact,
      c.in_ok-take_text.ensures,
    ) refl
