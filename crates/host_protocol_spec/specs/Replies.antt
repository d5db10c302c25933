-- The text of a reply: a compact JSON object (RFC 8259) with ascending names.
use Rattle.std.specs.Prelude.{ℕ, List, Option, Some, None, codes}
use Rattle.serde_json.specs.Data.{Data, null, number, unsigned, string, object, Members, no_members, member}
use Rattle.serde_json.specs.Written.{compact_text}
use Rattle.plain_values.specs.declared.command.Word.{Word}
use Rattle.plain_values.specs.declared.command.Word.TheVariants as word
use Rattle.plain_values.specs.declared.pointer.Pointer.{Pointer}
use Rattle.plain_values.specs.declared.refusal.Refusal.{Refusal}
use Rattle.plain_values.specs.declared.refusal.Refusal.TheVariants as refusal
use Rattle.plain_values.specs.declared.reply.Reply.{Reply}
use Rattle.plain_values.specs.declared.reply.Reply.TheVariants as reply
use Rattle.plain_values.specs.Names.{word_name, refusal_name}
use Rattle.value_json_spec.specs.Patches.{patches_data, path_data}
use Rattle.value_json_spec.specs.Printing.{key_data, val_data}
use Rattle.host_protocol_spec.specs.Pointers.{pointers_data}

-- a count
abbrev pub count_data : ℕ → Data
count_data n = number (unsigned n)

-- the word of a reply
abbrev pub said : Word → Data
said w = string (word_name w)

-- members, and a count before them where there is one
abbrev pub with_count : List ℕ → Option ℕ → Members → Members
with_count name None ms = ms
with_count name (Some n) ms = member name (count_data n) ms

-- a count, or null
abbrev pub count_or_null : Option ℕ → Data
count_or_null None = null
count_or_null (Some n) = count_data n

-- a text, or null
abbrev pub text_or_null : Option (List ℕ) → Data
text_or_null None = null
text_or_null (Some s) = string s

-- operations, or null
abbrev pub pointers_or_null : Option (List Pointer) → Data
pointers_or_null None = null
pointers_or_null (Some ps) = pointers_data ps

-- ---- accepted

-- where the state is now, and the session that ended
abbrev pub place_members : ℕ → ℕ → Option ℕ → Members
place_members root seq session = member (codes "root") (count_data root) (member (codes "seq") (count_data seq) (with_count (codes "session") session no_members))

-- both lists, and where the state is now
abbrev pub lists_members : Data → Word → Data → Members → Members
lists_members inverse w patches place = member (codes "inverse") inverse (member (codes "ok") (said w) (member (codes "patches") patches place))

-- what the host counts
abbrev pub counts_members : ℕ → ℕ → ℕ → ℕ → ℕ → ℕ → Members
counts_members nodes redo seq sessions undo used =
    member (codes "nodes") (count_data nodes) (member (codes "ok") (said word.Stat) (member (codes "redo") (count_data redo)
    (member (codes "seq") (count_data seq) (member (codes "sessions") (count_data sessions) (member (codes "undo") (count_data undo)
    (member (codes "used") (count_data used) no_members))))))

-- ---- refused

-- what a refusal tells whose names stand before `session`
abbrev pub told_before : Refusal → Members → Members
told_before (refusal.Stale opened now) ms = member (codes "now") (count_data now) (member (codes "opened") (count_data opened) ms)
told_before (refusal.Guard path) ms = member (codes "path") (path_data path) ms
told_before (refusal.Denied rule place) ms = member (codes "place") (path_data place) (member (codes "rule") (string rule) ms)
told_before _ ms = ms

-- what a refusal tells whose names stand behind `session`
abbrev pub told_behind : Refusal → Members → Members
told_behind (refusal.SessionsOpen sessions) ms = member (codes "sessions") (count_data sessions) ms
told_behind (refusal.Thrown value) ms = member (codes "value") (key_data value) ms
told_behind _ ms = ms

-- the refusal's name
abbrev pub why_members : Refusal → Members
why_members why = member (codes "why") (string (refusal_name why)) no_members

-- the word of what was refused, and what the refusal tells
abbrev pub no_members_of : Word → Option ℕ → Refusal → Members
no_members_of w session why = member (codes "no") (said w) (told_before why (with_count (codes "session") session (told_behind why (why_members why))))

-- ---- the object that a reply is
unfoldable pub reply_data : Reply → Data
reply_data (reply.Changed w pair root seq session) = object (lists_members (patches_data pair.inverse) w (patches_data pair.forward) (place_members root seq session))
reply_data (reply.Moved w by pair root seq) =
    object (member (codes "by") (text_or_null by) (lists_members (patches_data pair.inverse) w (patches_data pair.forward) (place_members root seq None)))
reply_data (reply.Pointed patches inverse root seq) = object (lists_members (pointers_or_null inverse) word.Pointer (pointers_or_null patches) (place_members root seq None))
reply_data (reply.Session w session) = object (member (codes "ok") (said w) (member (codes "session") (count_data session) no_members))
reply_data (reply.State v) = object (member (codes "ok") (said word.State) (member (codes "value") (val_data v) no_members))
reply_data (reply.Node n) = object (member (codes "node") (count_or_null n) (member (codes "ok") (said word.Node) no_members))
reply_data (reply.Stat nodes redo seq sessions undo used) = object (counts_members nodes redo seq sessions undo used)
reply_data (reply.Renew root) = object (member (codes "ok") (said word.Renew) (member (codes "root") (count_data root) no_members))
reply_data (reply.View total) = object (member (codes "ok") (said word.View) (member (codes "total") (count_data total) no_members))
reply_data (reply.No w session at why) = object (with_count (codes "at") at (no_members_of w session why))

-- the line of a reply, without its LF
abbrev pub reply_line : Reply → List ℕ
reply_line r = compact_text (reply_data r)
