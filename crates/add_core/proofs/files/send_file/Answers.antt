use Rattle.std.proofs.Common.{List, ℕ, Ok, Err, sym, ap, ◌∙◌, rules}
use Rattle.add_core.specs.Exchanges.{stepped, requested}
use Rattle.add_core.specs.Sendings.{place_of, text_held, sent_for}
use Rattle.add_core.specs.Steps.{Step}
use Rattle.add_core.proofs.StepLemmas.{tells_stops, tells_ok}
use Rattle.add_core.proofs.files.send_file.Goals as goal

pub returns-in_err-text-clause-told : goal.returns-in_err-text-clause-told
returns-in_err-text-clause-told g c = λ held replies files_known peer_known.
    let stop = c.in_err-text.field-0.0 in
    let stops = tells_stops stop (text_held (place_of c.args.place) 1048576 (held c.args.path.now))
    (λ text. stepped (sent_for c.args.task.now c.args.path.now text) (λ made. requested made.0 made.1 replies))
    (g.P.Stream.seen c.args.peer.now) (g.E.Stream.seen c.args.errors.now) (c.in_err-text.ensures.told held files_known) in
    search rules

pub returns-in_err-sending-clause-told : goal.returns-in_err-sending-clause-told
returns-in_err-sending-clause-told g c = λ held replies files_known peer_known.
    let stop = c.in_err-sending.field-0.0 in
    let text = c.from_vec.result in
    let read = c.in_ok-text.ensures.told held files_known ∙ ap (λ (l : List ℕ). Ok l) (sym c.from_vec.ensures) in
    let p = g.P.Stream.seen c.args.peer.now in
    let e = g.E.Stream.seen c.args.errors.now in
    let then_sent : List ℕ → Step = λ t. stepped (sent_for c.args.task.now c.args.path.now t) (λ made. requested made.0 made.1 replies) in
    let stops = tells_ok {T = Unit {0}} (Err stop) text (text_held (place_of c.args.place) 1048576 (held c.args.path.now)) then_sent p p e e read
    (tells_stops stop (sent_for c.args.task.now c.args.path.now text) (λ made. requested made.0 made.1 replies) p e c.in_err-sending.ensures.told) in
    search rules
