use Rattle.std.proofs.Common.{refl, sym, true≢false}
use Rattle.value_json.proofs.Utf8.{json_some, json_none}
use Rattle.value_json.proofs.reading.json_of_bytes.Goals as goal

pub returns-in-Ok : goal.returns-in-Ok
returns-in-Ok c = json_some c.args.bytes.now _ c.in-Ok.ensures.ok.0 c.in-Ok.ensures.ok.1

pub returns-else-is_memory : goal.returns-else-is_memory
returns-else-is_memory c = (refl, json_none c.args.bytes.now (c.in-Err.ensures.err (λ m. true≢false (sym (c.if-is_memory.ensures.1 m)))))
