use Rattle.std.proofs.Common.{◌≡◌, List, ℕ, ap, subst, ◌∙◌, rules}
use Rattle.wire_text.specs.Wire.{string}
use Rattle.add_core.specs.Exchanges.{requested}
use Rattle.add_core.specs.Locks.{lock_body, lock_line, lock_step}
use Rattle.add_core.specs.Passphrases.{passphrase_of}
use Rattle.add_core.specs.Steps.{Follows}
use Rattle.add_core.proofs.StepLemmas.{none_is_cut, tells_stops, tells_ok}
use Rattle.add_core.proofs.locking.lock.Goals as goal

pub returns-in_err-passphrase-clause-told : goal.returns-in_err-passphrase-clause-told
returns-in_err-passphrase-clause-told g c = λ left replies input_known peer_known.
    let stops = tells_stops c.in_err-passphrase.field-0.0 (passphrase_of left)
    (λ passphrase. requested (string (lock_body c.args.locks passphrase)) (lock_line c.args.locks) replies)
    (g.P.Stream.seen c.args.peer.now) (g.E.Stream.seen c.args.errors.now) (c.in_err-passphrase.ensures.told left input_known) in
    search rules

pub returns-in_err-frame-clause-told : goal.returns-in_err-frame-clause-told
returns-in_err-frame-clause-told g c = λ left replies input_known peer_known.
    let cut = none_is_cut (lock_step c.args.locks left replies) (g.P.Stream.seen c.args.peer.now) (g.E.Stream.seen c.args.errors.now) in
    search rules

pub returns-clause-told : goal.returns-clause-told
returns-clause-told g c = λ left replies input_known peer_known.
    let locks = c.args.locks in
    let passphrase = c.in_ok-passphrase.passphrase.live in
    let p0 = g.P.Stream.seen c.args.peer.now in
    let p1 = g.P.Stream.seen c.request.new.peer in
    let e0 = g.E.Stream.seen c.args.errors.now in
    let e1 = g.E.Stream.seen c.request.new.sink in
    let frame : c.live-2.result.now ≡ string (lock_body locks passphrase) =
    c.live-2.ensures ∙ c.in_ok-frame.ensures ∙ ap (λ (l : List ℕ). string (lock_body locks l)) c.live.ensures in
    let of_line = subst (λ (l : List ℕ). Follows {T = Unit {0}} c.request.result (requested c.live-2.result.now l replies) p0 p1 e0 e1)
    c.lock_line.ensures (c.request.ensures.told replies peer_known) in
    let sent = subst (λ (f : List ℕ). Follows {T = Unit {0}} c.request.result (requested f (lock_line locks) replies) p0 p1 e0 e1) frame of_line in
    tells_ok {T = Unit {0}} c.request.result passphrase (passphrase_of left) (λ text. requested (string (lock_body locks text)) (lock_line locks) replies)
    p0 p1 e0 e1 (c.in_ok-passphrase.ensures.told left input_known) sent
