-- Worked rows: the first change of the empty object, and what is read then.
use Rattle.std.specs.Prelude.{◌≡◌, pos, List, [], ◌∷◌, codes, Some, None, refl}
use Rattle.value_model.specs.declared.key.Key.{Key}
use Rattle.value_model.specs.declared.key.Key.TheVariants.{Int, Text}
use Rattle.value_model.specs.declared.kind.Kind.TheVariants as kind
use Rattle.value_model.specs.declared.op.Op.TheVariants.{Add}
use Rattle.value_model.specs.Plain.{Plain, prim, node, none, entry}
use Rattle.values.specs.declared.patch.Patch.{Patch}
use Rattle.plain_values.specs.declared.cause.Cause.TheVariants as cause
use Rattle.plain_values.specs.declared.command.Command.TheVariants as command
use Rattle.plain_values.specs.declared.command.Word.TheVariants as word
use Rattle.plain_values.specs.declared.refusal.Refusal.TheVariants as refusal
use Rattle.plain_values.specs.declared.reply.Reply.{Reply}
use Rattle.plain_values.specs.declared.reply.Reply.TheVariants as reply
use Rattle.host_machine.specs.Differences.{differences}
use Rattle.host_machine.specs.Machine.{Machine, first_machine, apply_step, step}

n : Key
n = Text (codes "n")

one : Plain
one = prim (Int (pos 1))

-- the patch `add ["n"]` 1
patch : Patch
patch = record { op = Add; path = n ∷ []; value = Some one }

after : Machine
after = (step first_machine (command.Apply (patch ∷ []))).0

-- the empty object has the number 1 and weighs 1, the object with `n` the number 2 and weighs 4
counted : (step after command.Stat).1 ≡ reply.Stat 2 0 1 0 1 5
unfolding n one patch after apply_step differences
counted = refl

whole : (step after (command.State [])).1 ≡ reply.State (node kind.Obj (entry n one none))
unfolding n one patch after apply_step differences
whole = refl

root : (step after (command.Node [])).1 ≡ reply.Node (Some 2)
unfolding n one patch after apply_step differences
root = refl

-- a primitive has no number
number : (step after (command.Node (n ∷ []))).1 ≡ reply.Node None
unfolding n one patch after apply_step differences
number = refl

missing : (step after (command.State (Text (codes "q") ∷ []))).1 ≡ reply.No word.State None None (refusal.Named cause.NoPath)
unfolding n one patch after apply_step differences
missing = refl
