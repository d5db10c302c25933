-- An operation beside its path's text, as JSON data.
use Rattle.std.specs.Prelude.{string_bytes}
use Rattle.serde_json.specs.Data.{Data, object}
use Rattle.host_protocol_spec.specs.Pointers.{operation_members}
use Rattle.pointer_json.specs.declared.printing.Spelled.{Spelled}

abbrev pub spelled_data : Spelled → Data
spelled_data s = object (operation_members s.pointer.now.op (string_bytes s.path) s.pointer.now.value)
