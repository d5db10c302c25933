use Rattle.std.proofs.Common.{◌≡◌, length, false, arith}
use Rattle.std.proofs.lemmas.Bool.Decides.{nat_tests}
use Rattle.std.specs.Prelude.{nat_le}
use Rattle.plain_apply.proofs.Items.{length_items, remove_items}
use Rattle.plain_apply.proofs.lists.taken_out.Goals as goal

pub returns : goal.returns
returns c =
    let within : nat_le (length c.args.items.items) c.args.i ≡ false = grind (arith, nat_tests) in
    rw (length_items c.args.items.items, within, c.remove.ensures.items, remove_items)
