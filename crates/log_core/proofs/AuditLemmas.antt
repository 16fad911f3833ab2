-- What a log sees put to the helper is what an audit lists: both are read off the history.
use Rattle.std.proofs.Common.{◌≡◌, arith, ℕ, List, [], ◌∷◌, map, length, refl, ap, sym, ◌∙◌, Option, None, Some, option_map}
use Rattle.std.specs.List.{filter_map}
use Rattle.std.proofs.lemmas.List.{length-map}
use Rattle.agent_model.specs.Actions.{Action, Answered, Asked, ForBinding, ForSignature, Granted, Lost, Over, Proved, Purpose, Raised, Requested}
use Rattle.agent_model.specs.Runs.{Stamped, history}
use Rattle.agent_model.specs.State.{Settings, first_state}
use Rattle.audit_core.proofs.HistoryLemmas.{all_signed}
use Rattle.audit_core.specs.Puts.{Signed, puts, signed_by, signed_for, signed_in, without_line}
use Rattle.audit_core.specs.Reports.{Agrees, first_difference, verdict_by, verdict_of}
use Rattle.audit_core.specs.declared.put.Put.{Put}
use Rattle.log_laws.proofs.SeenLemmas.{sees_puts}
use Rattle.log_laws.specs.Puts.{counted, put_seen}
use Rattle.log_laws.specs.Sights.{put_by, put_for}
use Rattle.replay_run.specs.Replay.{events_of, output_of, run_of, settings_of}
use Rattle.schedule_text.specs.declared.fault.LineFault.{LineFault}
use Rattle.log_core.specs.Lines.{whole_lines}
use Rattle.log_core.specs.Logs.{sights_of}
use Rattle.log_core.proofs.LogLemmas.{all_seen}

-- the client of a request
abbrev port_of : Signed → ℕ
port_of signed = signed.port

-- the client of a request that an action puts is that of the request as an audit reads it
put-for : (ask port : ℕ) (purpose : Purpose) → put_for port purpose ≡ option_map port_of (signed_for ask port purpose)
put-for ask port (ForSignature signing) = refl
put-for ask port (ForBinding binding) = refl

put-by : (action : Action) → put_by action ≡ option_map port_of (signed_by action)
put-by (Requested requesting) = refl
put-by (Asked asking) = put-for asking.ask asking.port asking.purpose
put-by (Answered settled) = refl
put-by (Proved proving) = refl
put-by (Raised raising) = refl
put-by (Granted job) = refl
put-by (Over job) = refl
put-by Lost = refl

put-in : (past : List Stamped) → filter_map (λ (one : Stamped). put_by one.action) past ≡ map port_of (signed_in past)
put-in [] = refl
put-in (one ∷ later) = by_found (signed_by one.action) refl (put-by one.action) (put-in later)
  where
    by_found : (found : Option Signed) → signed_by one.action ≡ found → put_by one.action ≡ option_map port_of (signed_by one.action)
        → filter_map (λ (o : Stamped). put_by o.action) later ≡ map port_of (signed_in later)
        → filter_map (λ (o : Stamped). put_by o.action) (one ∷ later) ≡ map port_of (signed_in (one ∷ later))
    by_found None is both rest = rw (both ∙ ap (option_map port_of) is, is) rest
    by_found (Some signed) is both rest = rw (both ∙ ap (option_map port_of) is, is) (ap (λ l. signed.port ∷ l) rest)

listed-ports : (listed : List Put) → map port_of (map without_line listed) ≡ map (λ (put : Put). put.port) listed
listed-ports [] = refl
listed-ports (put ∷ later) = ap (λ (ports : List ℕ). put.port ∷ ports) (listed-ports later)

pub seen-listed : (settings : Settings) (text : List ℕ)
    → counted put_seen (sights_of settings text) ≡ map (λ (put : Put). put.port) (puts settings text)
seen-listed settings text =
    let start = first_state (settings_of settings text) in
    let events = events_of settings text in
    ap (counted put_seen) (all_seen settings text)
    ∙ sees_puts start events
    ∙ put-in (history start events)
    ∙ ap (map port_of) (sym (all_signed settings text))
    ∙ listed-ports (puts settings text)

-- a yes lists all that is put
agrees-all : (refused : Option LineFault) (difference : Option ℕ) (line : ℕ) (all listed : List Put)
    → verdict_by refused difference line all ≡ Agrees listed → all ≡ listed
agrees-all (Some fault) difference line all listed is = absurd (grind arith)
agrees-all None (Some other) line all listed is = absurd (grind arith)
agrees-all None None line all listed is = grind arith

-- and so many are seen
pub seen-number : (settings : Settings) (text deeds : List ℕ) (listed : List Put) → whole_lines text ≡ text
    → verdict_of settings text deeds ≡ Agrees listed
    → length (counted put_seen (sights_of settings (whole_lines text))) ≡ length listed
seen-number settings text deeds listed whole is =
    let run = run_of settings text in
    let all = agrees-all run.refused (first_difference (output_of settings text) deeds) run.line (puts settings text) listed is in
    ap (λ (t : List ℕ). length (counted put_seen (sights_of settings t))) whole
    ∙ ap (λ (ports : List ℕ). length ports) (seen-listed settings text)
    ∙ length-map (puts settings text) (λ (put : Put). put.port)
    ∙ ap (λ (l : List Put). length l) all
