use Rattle.serde_json.proofs.FreeTexts.{text_of_value}
use Rattle.value_json_spec.proofs.NoFloat.{patches_no_float}
use Rattle.value_json_spec.specs.Patches.{patches_data}
use Rattle.value_json.proofs.texts.write_patches.Goals as goal

pub returns-in-Ok : goal.returns-in-Ok
returns-in-Ok c =
    let sent = c.in-Ok.ensures.events in
    text_of_value (patches_data c.args.patches.now) sent.0 c.in-Ok.text.bytes.items sent.1 sent.2 (patches_no_float c.args.patches.now)
