use Rattle.agent_msg.specs.Requests.{client_request}
use Rattle.agent_msg.specs.Writing.{request_body}
use Rattle.agent_msg.proofs.ReadLemmas.{request_is_read}
use Rattle.agent_msg.proofs.writer.write_request.Goals as goal

pub returns-clause-read_back : goal.returns-clause-read_back
returns-clause-read_back c =
    let request = client_request c.args.request.now in
    request_is_read (request_body request) request c.put_request.ensures.written
