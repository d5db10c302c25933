-- How many members a refusal has.
use Rattle.std.proofs.Common.{◌≡◌, ℕ, ◌+◌, List, refl, arith, Option, Some, None, codes, ap, ◌∙◌, suc}
use Rattle.serde_json.specs.Data.{Members}
use Rattle.serde_json.specs.Events.{members_len}
use Rattle.plain_values.specs.declared.command.Word.{Word}
use Rattle.plain_values.specs.declared.refusal.Refusal.{Refusal}
use Rattle.plain_values.specs.declared.refusal.Refusal.TheVariants as refusal
use Rattle.host_protocol_spec.specs.Replies.{with_count, told_before, told_behind, why_members, no_members_of}
use Rattle.host_protocol.specs.Lengths.{count_len, told_len}

counted : (name : List ℕ) (o : Option ℕ) (ms : Members) → members_len (with_count name o ms) ≡ count_len o + members_len ms
counted name None ms = omega arith
counted name (Some n) ms = omega arith

told : (why : Refusal) (session : Option ℕ) → members_len (told_before why (with_count (codes "session") session (told_behind why (why_members why)))) ≡ told_len why + count_len session + 1
told (refusal.Named cause) None = refl
told (refusal.Named cause) (Some n) = refl
told (refusal.Thrown value) None = refl
told (refusal.Thrown value) (Some n) = refl
told (refusal.Stale opened now) None = refl
told (refusal.Stale opened now) (Some n) = refl
told (refusal.SessionsOpen sessions) None = refl
told (refusal.SessionsOpen sessions) (Some n) = refl
told (refusal.Guard path) None = refl
told (refusal.Guard path) (Some n) = refl
told (refusal.Denied rule place) None = refl
told (refusal.Denied rule place) (Some n) = refl

pub refusal_len : (w : Word) (session at : Option ℕ) (why : Refusal) → 2 + told_len why + count_len at + count_len session ≡ members_len (with_count (codes "at") at (no_members_of w session why))
refusal_len w session at why =
    let rest = counted (codes "at") at (no_members_of w session why) in
    let inner = told why session in
    omega (arith, rest, inner)
