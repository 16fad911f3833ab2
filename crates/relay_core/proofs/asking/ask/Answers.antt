use Rattle.child_peer.specs.Words.{plain_words}
use Rattle.relay_core.proofs.AskLemmas.{ends_in_run, ends_behind_run, ends_half_told, ends_told}
use Rattle.relay_core.proofs.asking.ask.Goals as goal

pub returns-in_default : goal.returns-in_default
returns-in_default g c = λ whole start heard greeted asks.
    ends_in_run whole (plain_words c.args.words.now) heard _ (g.S.Spawner.seen c.args.spawner.now) (g.S.Spawner.seen c.consult.new.spawner) start (g.P.Stream.seen c.args.peer.now)
    greeted asks c.in_default.ensures

pub returns-in-Ok : goal.returns-in-Ok
returns-in-Ok g c = λ whole start heard greeted asks.
    ends_told whole (plain_words c.args.words.now) heard _ c.in-Some.granted (g.S.Spawner.seen c.args.spawner.now) (g.S.Spawner.seen c.consult.new.spawner) start
    (g.P.Stream.seen c.args.peer.now) (g.P.Stream.seen c.tell.new.peer) greeted asks c.in-Some.ensures c.in-Ok.ensures.says.0 c.in-Ok.ensures.says.1 c.tell.ensures.only

pub returns-in-Err-Failed : goal.returns-in-Err-Failed
returns-in-Err-Failed g c = λ whole start heard greeted asks.
    let says = rw c.in-Err-Failed.field-0-is at c.in-Err-Failed.ensures.says in
    ends_half_told whole (plain_words c.args.words.now) heard _ c.in-Some.granted (g.S.Spawner.seen c.args.spawner.now) (g.S.Spawner.seen c.consult.new.spawner) start
    (g.P.Stream.seen c.args.peer.now) (g.P.Stream.seen c.tell.new.peer) greeted asks c.in-Some.ensures says.0 says.1 c.tell.ensures.only

pub returns-in-Err-Memory : goal.returns-in-Err-Memory
returns-in-Err-Memory g c = λ whole start heard greeted asks.
    let says = rw c.in-Err-Memory.field-0-is at c.in-Err-Memory.ensures.says in
    ends_behind_run whole (plain_words c.args.words.now) heard _ c.in-Some.granted (g.S.Spawner.seen c.args.spawner.now) (g.S.Spawner.seen c.consult.new.spawner) start
    (g.P.Stream.seen c.args.peer.now) (g.P.Stream.seen c.tell.new.peer) greeted asks c.in-Some.ensures says
