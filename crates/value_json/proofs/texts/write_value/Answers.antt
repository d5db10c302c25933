use Rattle.std.proofs.Common.{◌≡◌, ap, ◌∙◌}
use Rattle.std.proofs.lemmas.Str.{IsUtf8-string_bytes}
use Rattle.serde_json.proofs.FreeTexts.{text_of_value}
use Rattle.serde_json.specs.Read.{read}
use Rattle.value_json_spec.proofs.NoFloat.{val_no_float}
use Rattle.value_json_spec.specs.Printing.{val_data, value_json_spec}
use Rattle.value_json_spec.specs.Reading.{read_by, val_from}
use Rattle.value_json.proofs.ReadBack.{read_back}
use Rattle.value_json.proofs.RoundTrip.{val_back, accepted_levels}
use Rattle.value_json.proofs.Utf8.{json_some}
use Rattle.value_json.proofs.WholeValues.{whole}
use Rattle.value_json.proofs.texts.write_value.Goals as goal

pub returns-in-Ok-clause-text : goal.returns-in-Ok-clause-text
returns-in-Ok-clause-text c =
    let sent = c.in-Ok.ensures.events in
    let v = c.args.v.now in
    text_of_value (val_data v) sent.0 c.in-Ok.text.bytes.items sent.1.0 sent.2 (val_no_float v)

pub returns-in-Ok-clause-reads_back : goal.returns-in-Ok-clause-reads_back
returns-in-Ok-clause-reads_back c =
    λ accepted.
    let sent = c.in-Ok.ensures.events in
    let v = c.args.v.now in
    let text = c.in-Ok.text.bytes.items in
    let same : text ≡ value_json_spec v = text_of_value (val_data v) sent.0 text sent.1.0 sent.2 (val_no_float v) in
    let found = json_some text _ (IsUtf8-string_bytes c.in-Ok.text) (ap read same ∙ read_back (val_data v) (whole v sent.1.1) (accepted_levels v accepted)) in
    ap (read_by val_from) found ∙ val_back v sent.1.1 accepted
