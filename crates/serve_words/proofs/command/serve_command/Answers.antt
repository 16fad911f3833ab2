use Rattle.std.proofs.Common.{◌≡◌, true, false, codes}
use Rattle.clap.specs.Simple.{app_of, new_app, with_rule}
use Rattle.serve_words.specs.Rules.{flag_rule, long_rule, short_rule}
use Rattle.serve_words.specs.Serve.{serve_app}
use Rattle.serve_words.proofs.CommandLemmas.{one_more}
use Rattle.serve_words.proofs.command.serve_command.Goals as goal

pub returns : goal.returns
unfolding serve_app
returns c =
    let path = one_more c.new-start.result c.in_ok-with_path.with_path c.short_arg.result (new_app (codes "serve")) (short_rule (codes "path") 97 true)
    c.in_ok-with_path.ensures c.short_arg.ensures.local c.new-start.ensures.app c.short_arg.ensures.rule in
    let helper = one_more c.in_ok-with_path.with_path c.in_ok-with_helper.with_helper c.long_arg.result _ (long_rule (codes "helper") true)
    c.in_ok-with_helper.ensures c.long_arg.ensures.local path c.long_arg.ensures.rule in
    let helper_data = one_more c.in_ok-with_helper.with_helper c.in_ok-with_data.with_data c.long_arg-2.result _ (long_rule (codes "helper-data") false)
    c.in_ok-with_data.ensures c.long_arg-2.ensures.local helper c.long_arg-2.ensures.rule in
    let relay = one_more c.in_ok-with_data.with_data c.in_ok-with_relay.with_relay c.long_arg-3.result _ (long_rule (codes "relay") false)
    c.in_ok-with_relay.ensures c.long_arg-3.ensures.local helper_data c.long_arg-3.ensures.rule in
    let askpass = one_more c.in_ok-with_relay.with_relay c.in_ok-with_askpass.with_askpass c.long_arg-4.result _ (long_rule (codes "askpass") false)
    c.in_ok-with_askpass.ensures c.long_arg-4.ensures.local relay c.long_arg-4.ensures.rule in
    let life = one_more c.in_ok-with_askpass.with_askpass c.in_ok-with_life.with_life c.short_arg-2.result _ (short_rule (codes "lifetime") 116 false)
    c.in_ok-with_life.ensures c.short_arg-2.ensures.local askpass c.short_arg-2.ensures.rule in
    let limit = one_more c.in_ok-with_life.with_life c.in_ok-with_limit.with_limit c.long_arg-5.result _ (long_rule (codes "confirm-limit") false)
    c.in_ok-with_limit.ensures c.long_arg-5.ensures.local life c.long_arg-5.ensures.rule in
    let idle = one_more c.in_ok-with_limit.with_limit c.in_ok-with_idle.with_idle c.flag_arg.result _ (flag_rule (codes "until-idle"))
    c.in_ok-with_idle.ensures c.flag_arg.ensures.local limit c.flag_arg.ensures.rule in
    let recorded = one_more c.in_ok-with_idle.with_idle c.in_ok-with_record.with_record c.flag_arg-2.result _ (flag_rule (codes "record"))
    c.in_ok-with_record.ensures c.flag_arg-2.ensures.local idle c.flag_arg-2.ensures.rule in
    one_more c.in_ok-with_record.with_record c.in_ok-whole.whole c.flag_arg-3.result _ (flag_rule (codes "record-or-stop"))
    c.in_ok-whole.ensures c.flag_arg-3.ensures.local recorded c.flag_arg-3.ensures.rule
