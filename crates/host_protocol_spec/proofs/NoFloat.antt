-- The data of a reply holds no float.
use Rattle.std.proofs.Common.{◌≡◌, ℕ, List, [], ◌∷◌, map, false, refl, Option, Some, None, codes}
use Rattle.serde_json.specs.Data.{Members, member, string, object}
use Rattle.serde_json.specs.View.{items_of}
use Rattle.serde_json.specs.Written.{has_float, items_have_float, members_have_float}
use Rattle.value_model.specs.Plain.{Plain}
use Rattle.plain_values.specs.declared.pointer.Pointer.{Pointer}
use Rattle.plain_values.specs.declared.refusal.Refusal.{Refusal}
use Rattle.plain_values.specs.declared.refusal.Refusal.TheVariants as refusal
use Rattle.plain_values.specs.declared.reply.Reply.{Reply}
use Rattle.plain_values.specs.declared.reply.Reply.TheVariants as reply
use Rattle.value_json_spec.specs.Patches.{value_member}
use Rattle.value_json_spec.proofs.NoFloat.{key_no_float, patches_no_float, path_no_float, val_no_float}
use Rattle.host_protocol_spec.specs.Pointers.{operation_data, pointers_data}
use Rattle.host_protocol_spec.specs.Replies.{told_before, told_behind, why_members, with_count, text_or_null, count_or_null, pointers_or_null, place_members, reply_data}

-- ---- operations
value : (o : Option Plain) → members_have_float (value_member o) ≡ false
value None = refl
value (Some v) = rw (val_no_float v)

listed : (ps : List Pointer) → items_have_float (items_of (map operation_data ps)) ≡ false
listed [] = refl
listed (p ∷ ps) = rw (value p.value, listed ps)

pub pointers_no_float : (ps : List Pointer) → has_float (pointers_data ps) ≡ false
unfolding pointers_data
pointers_no_float ps = listed ps

-- ---- members
optional : (name : List ℕ) (o : Option ℕ) (ms : Members) → members_have_float ms ≡ false → members_have_float (with_count name o ms) ≡ false
optional name None ms h = h
optional name (Some n) ms h = h

before : (why : Refusal) (ms : Members) → members_have_float ms ≡ false → members_have_float (told_before why ms) ≡ false
before (refusal.Named cause) ms h = h
before (refusal.Thrown v) ms h = h
before (refusal.Stale opened now) ms h = h
before (refusal.SessionsOpen n) ms h = h
before (refusal.Guard path) ms h = rw (path_no_float path) h
before (refusal.Denied rule place) ms h = rw (path_no_float place) h

behind : (why : Refusal) (ms : Members) → members_have_float ms ≡ false → members_have_float (told_behind why ms) ≡ false
behind (refusal.Named cause) ms h = h
behind (refusal.Thrown v) ms h = rw (key_no_float v) h
behind (refusal.Stale opened now) ms h = h
behind (refusal.SessionsOpen n) ms h = h
behind (refusal.Guard path) ms h = h
behind (refusal.Denied rule place) ms h = h

named : (o : Option (List ℕ)) → has_float (text_or_null o) ≡ false
named None = refl
named (Some s) = refl

counted : (o : Option ℕ) → has_float (count_or_null o) ≡ false
counted None = refl
counted (Some n) = refl

pointed : (o : Option (List Pointer)) → has_float (pointers_or_null o) ≡ false
pointed None = refl
pointed (Some ps) = pointers_no_float ps

place : (root seq : ℕ) (session : Option ℕ) → members_have_float (place_members root seq session) ≡ false
place root seq None = refl
place root seq (Some n) = refl

pub reply_no_float : (r : Reply) → has_float (reply_data r) ≡ false
unfolding reply_data
reply_no_float (reply.Changed w pair root seq session) = rw (patches_no_float pair.inverse, patches_no_float pair.forward) (place root seq session)
reply_no_float (reply.Moved w by pair root seq) = rw (named by, patches_no_float pair.inverse, patches_no_float pair.forward) refl
reply_no_float (reply.Pointed patches inverse root seq) = rw (pointed inverse, pointed patches) refl
reply_no_float (reply.Session w session) = refl
reply_no_float (reply.State v) = rw (val_no_float v) refl
reply_no_float (reply.Node n) = rw (counted n) refl
reply_no_float (reply.Stat nodes redo seq sessions undo used) = refl
reply_no_float (reply.Renew root) = refl
reply_no_float (reply.View total) = refl
reply_no_float (reply.No w session at why) =
    optional (codes "at") at _ (before why _ (optional (codes "session") session _ (behind why (why_members why) refl)))
