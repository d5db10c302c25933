use Rattle.std.proofs.Common.{◌∙◌, ap}
use Rattle.serde_json.proofs.FreeTexts.{text_of_value}
use Rattle.serde_json.specs.Written.{has_float, compact_text}
use Rattle.host_protocol_spec.proofs.NoFloat.{reply_no_float}
use Rattle.host_protocol_spec.specs.Replies.{reply_data}
use Rattle.host_protocol.specs.Spelled.{line_data}
use Rattle.host_protocol.proofs.write.write_reply.Goals as goal

pub returns-in-Ok : goal.returns-in-Ok
returns-in-Ok c =
    let sent = c.in-Ok.ensures.events in
    let same = c.in_ok-line.ensures in
    text_of_value (line_data c.in_ok-line.line) sent.0 c.in-Ok.text.bytes.items sent.1 sent.2 (ap has_float same ∙ reply_no_float c.args.reply.now) ∙ ap compact_text same
