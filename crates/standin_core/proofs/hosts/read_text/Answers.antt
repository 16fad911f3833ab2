use Rattle.std.proofs.Common.{◌≡◌, ◌∙◌, ap, sym, ◌<◌, ◌++◌, List, ℕ, [], length, arith, subst}
use Rattle.std.proofs.lemmas.Bool.Decides.{nat_tests}
use Rattle.std.proofs.lemmas.List.{length-drop, nil_from_length}
use Rattle.standin_core.specs.Reading.{IsReading}
use Rattle.standin_core.proofs.HostLemmas.{reading-line, reading-bad, reading-end, host_at-short}
use Rattle.standin_core.proofs.hosts.read_text.Goals as goal

pub returns-then-rest-lt-LINE : goal.returns-then-rest-lt-LINE
returns-then-rest-lt-LINE c =
    let some : 0 < length c.lines.rest.now = grind (arith, nat_tests) in
    reading-bad c.args.text.now c.lines.rest.now c.lines.pairs.live c.lines.invariant.reading some (host_at-short c.lines.rest.now c.if-rest-lt-LINE.true)

pub returns-then-not-read_line : goal.returns-then-not-read_line
returns-then-not-read_line c =
    let some : 0 < length c.lines.rest.now = grind (arith, nat_tests) in
    reading-bad c.args.text.now c.lines.rest.now c.lines.pairs.live c.lines.invariant.reading some c.if-not-read_line.ensures.reads

pub lines-smaller : goal.lines-smaller
lines-smaller c =
    let some : 0 < length c.lines.rest.now = grind (arith, nat_tests) in
    omega (arith, ap length c.behind-rest.ensures, length-drop 130 c.lines.rest.now)

pub lines-preserved : goal.lines-preserved
lines-preserved c =
    let some : 0 < length c.lines.rest.now = grind (arith, nat_tests) in
    record {
      reading = subst (λ (r : List ℕ). IsReading c.args.text.now r c.push_slice-in-lines.new.self.live) (sym c.behind-rest.ensures)
          (reading-line c.args.text.now c.lines.rest.now c.lines.pairs.live c.push_slice.new.self.live c.push_slice-in-lines.new.self.live c.read_line.new.tag c.read_line.new.secret
          c.lines.invariant.reading some c.if-not-read_line.ensures.reads c.read_line.ensures.tag c.read_line.ensures.secret
          (c.in_ok-push_slice.ensures.ok ∙ ap (λ (t : List ℕ). c.lines.pairs.live ++ t) c.as_slice.ensures)
          (c.in_ok-push_slice-2.ensures.ok ∙ ap (λ (s : List ℕ). c.push_slice.new.self.live ++ s) c.as_slice-in-lines.ensures));
      tag = c.read_line.ensures.tag;
      secret = c.read_line.ensures.secret;
    }

pub returns : goal.returns
returns c =
    let none : c.lines.rest.now ≡ [] = nil_from_length c.lines.rest.now (grind (arith, nat_tests)) in
    record {
      hosts = c.lines.invariant.reading.before;
      read = reading-end c.args.text.now c.lines.rest.now c.lines.pairs.live c.lines.invariant.reading none;
      are = c.lines.invariant.reading.are;
    }
