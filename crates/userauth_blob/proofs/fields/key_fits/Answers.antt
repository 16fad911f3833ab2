use Rattle.std.proofs.Common.{◌∙◌, sym, ap, Result}
use Rattle.key_blob.specs.PublicKeys.{KeyParts, parts_of, algorithms_of}
use Rattle.key_blob.specs.declared.fault.KeyFault.{KeyFault}
use Rattle.userauth_blob.specs.Reading.{fits}
use Rattle.userauth_blob.proofs.FieldLemmas.{tested}
use Rattle.userauth_blob.proofs.fields.key_fits.Goals as goal

pub returns-in-Ok : goal.returns-in-Ok
returns-in-Ok c =
    tested (algorithms_of (parts_of c.in-Ok.key)) c.args.algorithm.now c.algorithm_fits.result c.algorithm_fits.ensures
    ∙ ap (λ (read : Result KeyParts KeyFault). fits read c.args.algorithm.now) (sym c.in-Ok.ensures.exact)
