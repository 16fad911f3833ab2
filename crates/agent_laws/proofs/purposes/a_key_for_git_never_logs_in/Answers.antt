use Rattle.agent_laws.proofs.PurposeLemmas.{no_login_among, no_namespace_among, put-hashed, put-is_for}
use Rattle.agent_laws.proofs.purposes.a_key_for_git_never_logs_in.Goals as goal

pub returns-clause-each : goal.returns-clause-each
returns-clause-each c = put-is_for

pub returns-clause-login : goal.returns-clause-login
returns-clause-login c = λ purposes signing settings events numbers put bytes blob_bytes short others login.
    no_login_among signing.message signing.blob bytes blob_bytes short purposes others
    (put-is_for purposes signing settings events numbers put bytes blob_bytes short) login

pub returns-clause-namespace : goal.returns-clause-namespace
returns-clause-namespace c = λ purposes signing settings events namespace numbers put bytes blob_bytes short others file.
    no_namespace_among signing.message signing.blob bytes blob_bytes short namespace purposes others
    (put-is_for purposes signing settings events numbers put bytes blob_bytes short) file

pub returns-clause-hash : goal.returns-clause-hash
returns-clause-hash c = put-hashed
