use Rattle.std.proofs.Common.{◌∙◌, ap, refl, ℕ, List, option_map, Bor, subst}
use Rattle.secret_buf.specs.Buffers.{Buffer}
use Rattle.standin_core.specs.Reading.{ReadsText}
use Rattle.standin_core.proofs.DataLemmas.{holds_no_file, holds_long, reads_by_text}
use Rattle.standin_core.proofs.hosts.read_data.Goals as goal

pub returns-in_default-clause-reads : goal.returns-in_default-clause-reads
returns-in_default-clause-reads g c = (
  holds_no_file (option_map (λ (path : Bor (List ℕ)). path.now) c.args.path) (g.F.Files.seen c.args.files.now) c.new.result.live
      (ap (option_map (λ (path : Bor (List ℕ)). path.now)) c.in_default.is) (ap (λ (b : Buffer). b.live) c.new.ensures),
  refl,
)

pub returns-in-Err-TooLong-clause-reads : goal.returns-in-Err-TooLong-clause-reads
returns-in-Err-TooLong-clause-reads g c =
    let refused = rw c.in-Err-TooLong.field-0-is at c.in-Err-TooLong.ensures.refused in
    let cause = rw c.in-Err-TooLong.field-0-is at c.in-Err-TooLong.ensures.cause in (
      holds_long (option_map (λ (path : Bor (List ℕ)). path.now) c.args.path) c.in-Some.path.now (g.F.Files.seen c.args.files.now)
          (ap (option_map (λ (path : Bor (List ℕ)). path.now)) c.in-Some.is) refused,
      cause,
    )

pub returns-clause-reads : goal.returns-clause-reads
returns-clause-reads g c =
    reads_by_text c.read_text.result (option_map (λ (path : Bor (List ℕ)). path.now) c.args.path) c.in-Some.path.now c.in-Ok.bytes.items
    (g.F.Files.seen c.args.files.now) (g.F.Files.seen c.read.new.self)
    (ap (option_map (λ (path : Bor (List ℕ)). path.now)) c.in-Some.is) c.in-Ok.ensures.bytes c.in-Ok.ensures.within c.in-Ok.ensures.cause
    (subst (ReadsText c.read_text.result) (c.as_slice.ensures ∙ c.from_vec-text.ensures) c.read_text.ensures)
