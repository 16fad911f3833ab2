use Rattle.std.proofs.Common.{rules, ◌∙◌, ap}
use Rattle.agent_top.proofs.RecordLemmas.{told_by}
use Rattle.agent_top.proofs.recording.serve_recorded.Goals as goal

pub returns-clause-records : goal.returns-clause-records
returns-clause-records g c =
    let recorder = c.serve-end.new.world in
    let tape = recorder.tape.now in
    let told = told_by c.args.or_stop c.new-recorder.result.or_stop recorder.or_stop c.status_of_recorded.result c.ended.result c.broken.result tape.is_short tape.is_broken c.serve-end.result
    (g.W.World.journal c.args.world.now) (g.W.World.journal c.new-recorder.result.inner.now) (g.W.World.journal c.serve-end.new.world.inner.now)
    (g.O.Stream.seen c.args.output.now) (g.O.Stream.seen recorder.out.now)
    (g.E.Stream.seen c.args.errors.now) (g.E.Stream.seen recorder.errors.now) _ tape.notes
    c.status_of_recorded.ensures c.ended.ensures c.broken.ensures c.serve-end.ensures.led.5 c.new-recorder.ensures.or_stop
    (ap (λ world. g.W.World.journal world) c.new-recorder.ensures.world_value) c.new-recorder.ensures.first c.serve-end.ensures.led.4 in
    let inner = c.serve-end.ensures.led.0 ∙ c.new-recorder.ensures.world in
    let out = c.serve-end.ensures.led.1 ∙ c.new-recorder.ensures.sink in
    let errors = c.serve-end.ensures.led.2 ∙ c.new-recorder.ensures.errors in
    let records = told.records in
    search rules

pub returns-clause-write : goal.returns-clause-write
returns-clause-write g c =
    let recorder = c.serve-end.new.world in
    let tape = recorder.tape.now in
    let told = told_by c.args.or_stop c.new-recorder.result.or_stop recorder.or_stop c.status_of_recorded.result c.ended.result c.broken.result tape.is_short tape.is_broken c.serve-end.result
    (g.W.World.journal c.args.world.now) (g.W.World.journal c.new-recorder.result.inner.now) (g.W.World.journal c.serve-end.new.world.inner.now)
    (g.O.Stream.seen c.args.output.now) (g.O.Stream.seen recorder.out.now)
    (g.E.Stream.seen c.args.errors.now) (g.E.Stream.seen recorder.errors.now) _ tape.notes
    c.status_of_recorded.ensures c.ended.ensures c.broken.ensures c.serve-end.ensures.led.5 c.new-recorder.ensures.or_stop
    (ap (λ world. g.W.World.journal world) c.new-recorder.ensures.world_value) c.new-recorder.ensures.first c.serve-end.ensures.led.4 in
    let inner = c.serve-end.ensures.led.0 ∙ c.new-recorder.ensures.world in
    let out = c.serve-end.ensures.led.1 ∙ c.new-recorder.ensures.sink in
    let errors = c.serve-end.ensures.led.2 ∙ c.new-recorder.ensures.errors in
    let write = told.write in
    search rules

pub returns-clause-says : goal.returns-clause-says
returns-clause-says g c =
    let recorder = c.serve-end.new.world in
    let tape = recorder.tape.now in
    let told = told_by c.args.or_stop c.new-recorder.result.or_stop recorder.or_stop c.status_of_recorded.result c.ended.result c.broken.result tape.is_short tape.is_broken c.serve-end.result
    (g.W.World.journal c.args.world.now) (g.W.World.journal c.new-recorder.result.inner.now) (g.W.World.journal c.serve-end.new.world.inner.now)
    (g.O.Stream.seen c.args.output.now) (g.O.Stream.seen recorder.out.now)
    (g.E.Stream.seen c.args.errors.now) (g.E.Stream.seen recorder.errors.now) _ tape.notes
    c.status_of_recorded.ensures c.ended.ensures c.broken.ensures c.serve-end.ensures.led.5 c.new-recorder.ensures.or_stop
    (ap (λ world. g.W.World.journal world) c.new-recorder.ensures.world_value) c.new-recorder.ensures.first c.serve-end.ensures.led.4 in
    let inner = c.serve-end.ensures.led.0 ∙ c.new-recorder.ensures.world in
    let out = c.serve-end.ensures.led.1 ∙ c.new-recorder.ensures.sink in
    let errors = c.serve-end.ensures.led.2 ∙ c.new-recorder.ensures.errors in
    let says = told.says in
    search rules

pub returns-clause-done : goal.returns-clause-done
returns-clause-done g c =
    let recorder = c.serve-end.new.world in
    let tape = recorder.tape.now in
    let told = told_by c.args.or_stop c.new-recorder.result.or_stop recorder.or_stop c.status_of_recorded.result c.ended.result c.broken.result tape.is_short tape.is_broken c.serve-end.result
    (g.W.World.journal c.args.world.now) (g.W.World.journal c.new-recorder.result.inner.now) (g.W.World.journal c.serve-end.new.world.inner.now)
    (g.O.Stream.seen c.args.output.now) (g.O.Stream.seen recorder.out.now)
    (g.E.Stream.seen c.args.errors.now) (g.E.Stream.seen recorder.errors.now) _ tape.notes
    c.status_of_recorded.ensures c.ended.ensures c.broken.ensures c.serve-end.ensures.led.5 c.new-recorder.ensures.or_stop
    (ap (λ world. g.W.World.journal world) c.new-recorder.ensures.world_value) c.new-recorder.ensures.first c.serve-end.ensures.led.4 in
    let inner = c.serve-end.ensures.led.0 ∙ c.new-recorder.ensures.world in
    let out = c.serve-end.ensures.led.1 ∙ c.new-recorder.ensures.sink in
    let errors = c.serve-end.ensures.led.2 ∙ c.new-recorder.ensures.errors in
    let done = told.done in
    search rules

pub returns-clause-goes_on : goal.returns-clause-goes_on
returns-clause-goes_on g c =
    let recorder = c.serve-end.new.world in
    let tape = recorder.tape.now in
    let told = told_by c.args.or_stop c.new-recorder.result.or_stop recorder.or_stop c.status_of_recorded.result c.ended.result c.broken.result tape.is_short tape.is_broken c.serve-end.result
    (g.W.World.journal c.args.world.now) (g.W.World.journal c.new-recorder.result.inner.now) (g.W.World.journal c.serve-end.new.world.inner.now)
    (g.O.Stream.seen c.args.output.now) (g.O.Stream.seen recorder.out.now)
    (g.E.Stream.seen c.args.errors.now) (g.E.Stream.seen recorder.errors.now) _ tape.notes
    c.status_of_recorded.ensures c.ended.ensures c.broken.ensures c.serve-end.ensures.led.5 c.new-recorder.ensures.or_stop
    (ap (λ world. g.W.World.journal world) c.new-recorder.ensures.world_value) c.new-recorder.ensures.first c.serve-end.ensures.led.4 in
    let inner = c.serve-end.ensures.led.0 ∙ c.new-recorder.ensures.world in
    let out = c.serve-end.ensures.led.1 ∙ c.new-recorder.ensures.sink in
    let errors = c.serve-end.ensures.led.2 ∙ c.new-recorder.ensures.errors in
    let goes_on = told.goes_on in
    search rules

pub returns-clause-only : goal.returns-clause-only
returns-clause-only g c =
    let recorder = c.serve-end.new.world in
    let tape = recorder.tape.now in
    let told = told_by c.args.or_stop c.new-recorder.result.or_stop recorder.or_stop c.status_of_recorded.result c.ended.result c.broken.result tape.is_short tape.is_broken c.serve-end.result
    (g.W.World.journal c.args.world.now) (g.W.World.journal c.new-recorder.result.inner.now) (g.W.World.journal c.serve-end.new.world.inner.now)
    (g.O.Stream.seen c.args.output.now) (g.O.Stream.seen recorder.out.now)
    (g.E.Stream.seen c.args.errors.now) (g.E.Stream.seen recorder.errors.now) _ tape.notes
    c.status_of_recorded.ensures c.ended.ensures c.broken.ensures c.serve-end.ensures.led.5 c.new-recorder.ensures.or_stop
    (ap (λ world. g.W.World.journal world) c.new-recorder.ensures.world_value) c.new-recorder.ensures.first c.serve-end.ensures.led.4 in
    let inner = c.serve-end.ensures.led.0 ∙ c.new-recorder.ensures.world in
    let out = c.serve-end.ensures.led.1 ∙ c.new-recorder.ensures.sink in
    let errors = c.serve-end.ensures.led.2 ∙ c.new-recorder.ensures.errors in
    let only = told.only in
    search rules

pub returns-clause-errors_only : goal.returns-clause-errors_only
returns-clause-errors_only g c =
    let recorder = c.serve-end.new.world in
    let tape = recorder.tape.now in
    let told = told_by c.args.or_stop c.new-recorder.result.or_stop recorder.or_stop c.status_of_recorded.result c.ended.result c.broken.result tape.is_short tape.is_broken c.serve-end.result
    (g.W.World.journal c.args.world.now) (g.W.World.journal c.new-recorder.result.inner.now) (g.W.World.journal c.serve-end.new.world.inner.now)
    (g.O.Stream.seen c.args.output.now) (g.O.Stream.seen recorder.out.now)
    (g.E.Stream.seen c.args.errors.now) (g.E.Stream.seen recorder.errors.now) _ tape.notes
    c.status_of_recorded.ensures c.ended.ensures c.broken.ensures c.serve-end.ensures.led.5 c.new-recorder.ensures.or_stop
    (ap (λ world. g.W.World.journal world) c.new-recorder.ensures.world_value) c.new-recorder.ensures.first c.serve-end.ensures.led.4 in
    let inner = c.serve-end.ensures.led.0 ∙ c.new-recorder.ensures.world in
    let out = c.serve-end.ensures.led.1 ∙ c.new-recorder.ensures.sink in
    let errors = c.serve-end.ensures.led.2 ∙ c.new-recorder.ensures.errors in
    let only = told.errors_only in
    search rules
