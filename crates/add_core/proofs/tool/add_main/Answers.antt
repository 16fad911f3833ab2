use Rattle.std.proofs.Common.{is_some, map, string_bytes}
use Rattle.std.specs.Option.{option_map}
use Rattle.add_core.specs.Talk.{agent_seen}
use Rattle.add_core.proofs.TalkLemmas.{refused_ends}
use Rattle.add_core.proofs.tool.add_main.Goals as goal

pub returns-in-Err-clause-told : goal.returns-in-Err-clause-told
returns-in-Err-clause-told g c = λ held left replies files_known input_known peer_known.
    refused_ends c.in-Err.status (map string_bytes c.args.words.now) (is_some c.args.peer.now) held left replies
    (agent_seen (option_map g.P.Stream.seen c.args.peer.now)) (g.O.Stream.seen c.args.output.now) _ _ c.in-Err.ensures.value c.write_last.ensures.last
