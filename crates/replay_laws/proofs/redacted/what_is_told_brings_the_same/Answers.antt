use Rattle.replay_laws.specs.Telling.{told_bytes}
use Rattle.replay_laws.proofs.EventLemmas.{moment-told}
use Rattle.replay_laws.proofs.SightLemmas.{heard_alike, joined_alike, looks_alike, quiet_alike, took_alike}
use Rattle.replay_laws.proofs.redacted.what_is_told_brings_the_same.Goals as goal

pub returns : goal.returns
returns c = record {
  moment = λ rename renaming. moment-told rename renaming (told_bytes rename);
  quiet = quiet_alike;
  joined = joined_alike;
  heard = heard_alike;
  took = took_alike;
  looks = looks_alike;
}
