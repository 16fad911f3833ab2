use Rattle.std.proofs.Common.{take, drop, refl}
use Rattle.hex.specs.Hex.{decode_sized}
use Rattle.standin_core.proofs.HostLemmas.{decoded, not_decoded, reads_by, host_at-no_space, host_at-no_lf, host_at-no_tag}
use Rattle.standin_core.proofs.hosts.read_line.Goals as goal
use Rattle.standin_core.proofs.hosts.read_line.Goals.{then-line-ne32-via-then-line-ne32, then-line-ne32-via-else-line-ne32+then-line-ne10}

pub returns-then-line-ne32-clause-reads : goal.returns-then-line-ne32-clause-reads
returns-then-line-ne32-clause-reads c = elim c.then-line-ne32.branch [
  | then-line-ne32-via-then-line-ne32 w ↦ host_at-no_space c.args.line.now w.if-line-ne32.true
  | then-line-ne32-via-else-line-ne32+then-line-ne10 w ↦ host_at-no_lf c.args.line.now w.if-line-ne10.true
]

pub returns-then-not-decode-clause-reads : goal.returns-then-not-decode-clause-reads
returns-then-not-decode-clause-reads c =
    let value = rw (c.digits_at.ensures, c.requires.tag) at c.decode.ensures.value in
    host_at-no_tag c.args.line.now (not_decoded (decode_sized (take 64 c.args.line.now) 32) c.decode.result c.decode.new.bytes value c.if-not-decode.true)

pub returns-clause-reads : goal.returns-clause-reads
returns-clause-reads c =
    let tag = rw (c.digits_at.ensures, c.requires.tag) at c.decode.ensures.value in
    let secret = rw (c.digits_at-2.ensures, c.requires.secret) at c.decode-2.ensures.value in
    reads_by c.args.line.now c.decode.new.bytes c.decode-2.new.bytes (decode_sized (take 64 (drop 65 c.args.line.now)) 32) c.decode-2.result
    c.if-line-ne32.false c.if-line-ne10.false
    (decoded (decode_sized (take 64 c.args.line.now) 32) c.decode.result c.decode.new.bytes tag c.if-not-decode.false)
    refl secret
