-- Host keys that were read.
use Rattle.std.specs.Prelude.{◌≡◌, Ok}
use Rattle.key_blob.specs.PublicKeys.{parts_of, public_key_of}
use Rattle.dest_rule.specs.declared.host_key.HostKey.{HostKey}

-- the key is what its blob reads as
abbrev pub IsRead : HostKey → Type 0
IsRead host = public_key_of host.blob.now ≡ Ok (parts_of host.key)
