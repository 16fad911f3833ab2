use Rattle.std.proofs.Common.{sym, arith}
use Rattle.standin_core.proofs.KeyLemmas.{secret_of-no_tag, secret_of-no_blob, secret_of-no_length, secret_of-other, secret_of-some}
use Rattle.standin_core.proofs.keys.secret_in.Goals as goal

pub returns-in_err-tag_in : goal.returns-in_err-tag_in
returns-in_err-tag_in c = rw c.from_residual.ensures (sym (secret_of-no_tag c.args.private.now c.args.blob.now (sym c.in_err-tag_in.ensures)))

pub returns-in_err-rest : goal.returns-in_err-rest
returns-in_err-rest c = rw c.from_residual-in_err-rest.ensures (sym (secret_of-no_blob c.args.private.now c.args.blob.now c.in_err-rest.ensures))

pub returns-in_err-secret : goal.returns-in_err-secret
returns-in_err-secret c = rw c.from_residual-in_err-secret.ensures (sym (secret_of-no_length c.args.private.now c.args.blob.now c.in_ok-rest.rest.now c.in_ok-rest.ensures c.in_err-secret.ensures))

pub returns-then-secret-ne32 : goal.returns-then-secret-ne32
returns-then-secret-ne32 c = sym (secret_of-other c.args.private.now c.args.blob.now c.in_ok-rest.rest.now c.in_ok-secret.secret.now c.in_ok-rest.ensures c.in_ok-secret.ensures (λ same. omega arith))

pub returns : goal.returns
returns c = sym (secret_of-some c.args.private.now c.args.blob.now c.in_ok-tag_in.field-0.now c.in_ok-rest.rest.now c.in_ok-secret.secret.now (sym c.in_ok-tag_in.ensures) c.in_ok-rest.ensures c.in_ok-secret.ensures (omega arith))
