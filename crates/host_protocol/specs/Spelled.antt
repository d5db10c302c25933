-- A reply whose lists of operations have their paths' texts beside them, as JSON data.
use Rattle.std.specs.Prelude.{Option, Some, None, map}
use Rattle.serde_json.specs.Data.{Data, null, array, object}
use Rattle.serde_json.specs.View.{items_of}
use Rattle.plain_values.specs.declared.command.Word.TheVariants as word
use Rattle.plain_values.specs.declared.reply.Reply.{Reply}
use Rattle.plain_values.specs.declared.reply.Reply.TheVariants as reply
use Rattle.pointer_json.specs.Spelled.{spelled_data}
use Rattle.pointer_json.specs.declared.printing.PrintedPointers.{PrintedPointers}
use Rattle.host_protocol_spec.specs.Replies.{lists_members, place_members, reply_data}
use Rattle.host_protocol.specs.declared.write.Line.{Line}

-- operations, or null
abbrev pub spelled_or_null : Option PrintedPointers → Data
spelled_or_null None = null
spelled_or_null (Some p) = array (items_of (map spelled_data p.list.items))

-- a reply, with these lists in place of its own
abbrev pub spelled_reply : Reply → Option PrintedPointers → Option PrintedPointers → Data
spelled_reply (reply.Pointed patches inverse root seq) there back = object (lists_members (spelled_or_null back) word.Pointer (spelled_or_null there) (place_members root seq None))
spelled_reply r there back = reply_data r

abbrev pub line_data : Line → Data
line_data l = spelled_reply l.reply.now l.patches l.inverse
