use Rattle.std.proofs.Common.{refl}
use Rattle.world_ports.specs.Journal.{is_short}
use Rattle.record_world.proofs.LeadsLemmas.{bind_wrote}
use Rattle.record_world.proofs.tape.Tape.bind.Goals as goal

pub returns-then-bind : goal.returns-then-bind
returns-then-bind g c = record {
  wrote = λ door path.
      let kept = c.records.ensures.kept in
      bind_wrote (is_short c.args.answer.now) door path c.args.answer.now _ _ _ _ _ _ _ _ _ _ _ _
      (rw kept (rw c.is_short.ensures refl)) (rw c.is_short.ensures at c.records.ensures.value) c.if-records.true
      (rw kept at c.bind.ensures.first) c.if-bind.true (rw kept at c.bind.ensures.kept) c.put_or_say-self.ensures.puts c.put_or_say-self.ensures.says;
  short = let kept = c.records.ensures.kept in rw kept (rw c.is_short.ensures refl);
}
