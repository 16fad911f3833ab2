-- A key's fault as that of the text that it stands in. Want of memory stays want of memory.
use Rattle.key_blob.specs.declared.fault.KeyFault.{KeyFault}
use Rattle.key_blob.specs.declared.fault.KeyFault.TheVariants.{Memory as NoMemory}
use Rattle.key_file.specs.declared.fault.KeyFileFault.{KeyFileFault}
use Rattle.key_file.specs.declared.fault.KeyFileFault.TheVariants as body
use Rattle.key_file.specs.declared.fault.PubFault.{PubFault}
use Rattle.key_file.specs.declared.fault.PubFault.TheVariants as line

-- a key's fault as the fault of the private key's body that it stands in
abbrev pub body_fault : KeyFault → KeyFileFault
body_fault NoMemory = body.Memory
body_fault fault = body.Key fault

-- a key's fault as the fault of the public key's line that it stands in
abbrev pub line_fault : KeyFault → PubFault
line_fault NoMemory = line.Memory
line_fault fault = line.Key fault
