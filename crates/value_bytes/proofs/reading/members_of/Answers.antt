use Rattle.std.proofs.Common.{◌≡◌, ◌++◌, ◌∷◌, [], map, true, false, List, sym, subst}
use Rattle.std.proofs.lemmas.Result.{err_from_is_err_and}
use Rattle.std.proofs.lemmas.List.{map_push}
use Rattle.value_model.specs.declared.key.Key.{Key}
use Rattle.value_model.specs.declared.kind.Kind.TheVariants as kind
use Rattle.values.specs.Seen.{of_member}
use Rattle.value_bytes_spec.specs.Reading.{nested_at, follows}
use Rattle.value_bytes.specs.Runs.{last_key}
use Rattle.value_bytes.proofs.Loops.{goes_on, refused, ends, is_done, member_read, member_stops}
use Rattle.value_bytes.proofs.reading.members_of.Goals as goal

pub returns-in_err-member : goal.returns-in_err-member
returns-in_err-member c =
    let p = err_from_is_err_and c.from_residual.result c.from_residual.ensures.1 in
    let inner = nested_at c.args.inner in
    rw (p.1, p.2) (ends c.in_err-member.field-0.0 kind.Set inner (map of_member c.loop.members.items) c.args.count c.loop.counter c.loop.rest.now _ c.loop-test.true (member_stops c.in_err-member.field-0.0 inner c.loop.rest.now c.in_err-member.ensures) c.loop.invariant)

pub returns-then-not-is_next_member : goal.returns-then-not-is_next_member
returns-then-not-is_next_member c =
    let k = c.in_ok-member.member in
    let inner = nested_at c.args.inner in
    let before : follows kind.Set (last_key (map of_member c.loop.members.items)) k ≡ false = sym (subst (λ (ks : List Key). false ≡ follows kind.Set (last_key (map of_member ks)) k) c.deref.ensures.value c.if-not-is_next_member.ensures) in
    refused kind.Set inner (map of_member c.loop.members.items) c.args.count c.loop.counter c.loop.rest.now (of_member k) c.in_ok-member.after.now _ c.loop-test.true (member_read inner c.loop.rest.now k c.in_ok-member.after.now c.in_ok-member.ensures) before c.loop.invariant

pub loop-preserved : goal.loop-preserved
loop-preserved c =
    let k = c.in_ok-member.member in
    let inner = nested_at c.args.inner in
    let front = map of_member c.loop.members.items in
    let behind : follows kind.Set (last_key front) k ≡ true = sym (subst (λ (ks : List Key). true ≡ follows kind.Set (last_key (map of_member ks)) k) c.deref.ensures.value c.if-not-is_next_member.ensures) in
    let pushed : map of_member c.push.new.self.items ≡ front ++ of_member k ∷ [] = rw c.in_ok-push.ensures.items (map_push of_member c.loop.members.items k) in
    rw pushed (goes_on kind.Set inner front c.args.count c.loop.counter c.loop.rest.now (of_member k) c.in_ok-member.after.now _ c.loop-test.true (member_read inner c.loop.rest.now k c.in_ok-member.after.now c.in_ok-member.ensures) behind c.loop.invariant)

pub returns : goal.returns
returns c = is_done kind.Set (nested_at c.args.inner) (map of_member c.loop.members.items) c.args.count c.loop.counter c.loop.rest.now _ c.loop-test.false c.loop.invariant
