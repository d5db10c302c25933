-- The law of patches: those of an accepted command carry the old state to the new one, and the inverse carries it back.
use Rattle.std.specs.Prelude.{◌≡◌, IsTrue, Ok}
use Rattle.std.specs.FinMap.Entries.{is_sorted}
use Rattle.value_model.specs.Order.{key_cmp}
use Rattle.value_model.specs.Plain.{Plain}
use Rattle.numbered.specs.Tree.{Tree, plain}
use Rattle.plain_values.specs.declared.reply.Reply.{Reply}
use Rattle.plain_values.specs.declared.reply.Reply.TheVariants as reply
use Rattle.patch_meaning.specs.Applying.{applied}
use Rattle.host_machine.specs.Flat.{is_flat}
use Rattle.host_machine.specs.Machine.{Machine, table_of}

-- a flat state whose names ascend
pub record IsSound (state : Plain) : Type 0 where
  pub flat : IsTrue (is_flat state)
  pub ascending : IsTrue (is_sorted key_cmp (table_of state))

-- what a reply says of the states before and after: its patches carry the one to the other, and back
abbrev pub CarriesBy : Tree → Tree → Reply → Type 0
CarriesBy old new (reply.Changed word pair root seq session) = (applied pair.forward (plain old) ≡ Ok (plain new)) × (applied pair.inverse (plain new) ≡ Ok (plain old))
CarriesBy old new _ = new ≡ old

-- of a machine, and of the machine and the reply after a command; every other reply leaves the state with its numbers
abbrev pub Carries : Machine → Machine × Reply → Type 0
Carries m a = CarriesBy m.state a.0.state a.1
