-- The form of a command line: a JSON object (RFC 8259) with a word under `do`, and exactly the members of that word.
use Rattle.std.specs.Prelude.{ℕ, ◌+◌, ◌&&◌, ◌||◌, List, Bool, true, false, codes, if◌then◌else◌, nat_le, Option, Some, None, is_some, option_and_then, option_map, unwrap_or}
use Rattle.std.specs.Str.{bytes_eq}
use Rattle.serde_json.specs.Data.{Data}
use Rattle.serde_json.specs.Find.{get, as_array, as_number, as_str, as_u64}
use Rattle.plain_values.specs.declared.command.Word.{Word}
use Rattle.plain_values.specs.declared.command.Word.TheVariants as word
use Rattle.value_json_spec.specs.Patches.{are_patches, has_members, is_path}
use Rattle.host_protocol_spec.specs.Pointers.{is_operation_list}

-- ---- the members of a line

-- the text is there, and is s
abbrev pub is_text : List ℕ → Option (List ℕ) → Bool
is_text s None = false
is_text s (Some t) = bytes_eq t s

-- the text that a member is
abbrev pub text_in : Option Data → Option (List ℕ)
text_in o = option_and_then as_str o

-- a member that has to be there, in such a form
abbrev pub has : (Data → Bool) → Option Data → Bool
has f None = false
has f (Some d) = f d

-- a member that may be absent, and is in such a form where it is there
abbrev pub may_have : (Data → Bool) → Option Data → Bool
may_have f None = true
may_have f (Some d) = f d

-- so many members, and one more where that one is there
abbrev pub members_with : ℕ → Option Data → ℕ
members_with n None = n
members_with n (Some d) = n + 1

-- an object of exactly so many members
abbrev pub has_members_with : ℕ → Option Data → Data → Bool
has_members_with n o d = has_members (members_with n o) d

-- ---- the forms of their values

-- a text
abbrev pub is_string : Data → Bool
is_string d = is_some (as_str d)

-- an integer from 0 to 2^53 - 1
abbrev pub is_index : Option ℕ → Bool
is_index None = false
is_index (Some n) = nat_le n 9007199254740991

-- the number of a session
abbrev pub is_session : Data → Bool
is_session d = is_index (option_and_then as_u64 (as_number d))

-- how a session ends: one of two words
abbrev pub is_how : Data → Bool
is_how d = is_text (codes "exact") (as_str d) || is_text (codes "replay") (as_str d)

-- an array of patches, by their form
abbrev pub is_patch_list : Data → Bool
is_patch_list d = unwrap_or (option_map are_patches (as_array d)) false

-- an array of operations, by their form
abbrev pub is_pointer_list : Data → Bool
is_pointer_list d = is_operation_list (as_array d)

-- ---- the word, and its members

-- the word of a command that a text is
abbrev pub word_of : List ℕ → Option Word
word_of s =
    if bytes_eq s (codes "dispatch") then Some word.Dispatch else (
    if bytes_eq s (codes "apply") then Some word.Apply else (
    if bytes_eq s (codes "undo") then Some word.Undo else (
    if bytes_eq s (codes "redo") then Some word.Redo else (
    if bytes_eq s (codes "begin") then Some word.Begin else (
    if bytes_eq s (codes "edit") then Some word.Edit else (
    if bytes_eq s (codes "finish") then Some word.Finish else (
    if bytes_eq s (codes "drop") then Some word.Drop else (
    if bytes_eq s (codes "state") then Some word.State else (
    if bytes_eq s (codes "node") then Some word.Node else (
    if bytes_eq s (codes "stat") then Some word.Stat else (
    if bytes_eq s (codes "renew") then Some word.Renew else (
    if bytes_eq s (codes "view") then Some word.View else (
    if bytes_eq s (codes "pointer") then Some word.Pointer else None)))))))))))))

-- the word under `do`
abbrev pub word_in : Data → Option Word
word_in d = option_and_then word_of (text_in (get (codes "do") d))

-- a reducer's name, and its action, which may be absent
abbrev pub is_dispatch : Data → Bool
is_dispatch d = has_members_with 2 (get (codes "action") d) d && has is_string (get (codes "reducer") d)

-- a list of patches
abbrev pub is_apply : Data → Bool
is_apply d = has_members 2 d && has is_patch_list (get (codes "patches") d)

-- the name of a grant, which may be absent
abbrev pub is_begin : Data → Bool
is_begin d = has_members_with 1 (get (codes "grant") d) d && may_have is_string (get (codes "grant") d)

-- a session, a reducer's name, and its action, which may be absent
abbrev pub is_edit : Data → Bool
is_edit d = has_members_with 3 (get (codes "action") d) d && has is_session (get (codes "session") d) && has is_string (get (codes "reducer") d)

-- a session, and how it ends, which may be absent
abbrev pub is_finish : Data → Bool
is_finish d = has_members_with 2 (get (codes "how") d) d && has is_session (get (codes "session") d) && may_have is_how (get (codes "how") d)

-- a session
abbrev pub is_drop : Data → Bool
is_drop d = has_members 2 d && has is_session (get (codes "session") d)

-- a path, which may be absent
abbrev pub is_reading : Data → Bool
is_reading d = has_members_with 1 (get (codes "path") d) d && may_have is_path (get (codes "path") d)

-- the name of a view
abbrev pub is_view : Data → Bool
is_view d = has_members 2 d && has is_string (get (codes "name") d)

-- a list of operations
abbrev pub is_pointer : Data → Bool
is_pointer d = has_members 2 d && has is_pointer_list (get (codes "patches") d)

-- the form of a word; of those that are not named here `do` is the only member
abbrev pub has_form : Word → Data → Bool
has_form word.Dispatch d = is_dispatch d
has_form word.Apply d = is_apply d
has_form word.Begin d = is_begin d
has_form word.Edit d = is_edit d
has_form word.Finish d = is_finish d
has_form word.Drop d = is_drop d
has_form word.State d = is_reading d
has_form word.Node d = is_reading d
has_form word.View d = is_view d
has_form word.Pointer d = is_pointer d
has_form word.Line d = false
has_form _ d = has_members 1 d
