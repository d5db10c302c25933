-- The host machine, on a flat state: each command runs on a plain deep copy.
use Rattle.std.specs.Prelude.{ℕ, ◌+◌, ◌-◌, ◌^◌, ◌==◌, min, ◌||◌, nat_lt, List, [], ◌∷◌, Bool, false, not, Option, Some, None, Result, Ok, Err, if◌then◌else◌}
use Rattle.value_model.specs.declared.kind.Kind.TheVariants as kind
use Rattle.value_model.specs.declared.patch_why.PatchWhy.{PatchWhy}
use Rattle.value_model.specs.declared.key.Key.{Key}
use Rattle.value_model.specs.Places.{at}
use Rattle.value_model.specs.Plain.{Plain, Table, prim, node, none, list_of, weight}
use Rattle.numbered.specs.Tree as tree
use Rattle.numbered.specs.Tree.{Tree, plain, number}
use Rattle.numbered.specs.Loading.{places, numbered, loaded}
use Rattle.numbered.specs.Store.{used as used_by}
use Rattle.values.specs.declared.patch.Patch.{Patch}
use Rattle.values.specs.declared.patch.Pair.{Pair}
use Rattle.plain_values.specs.declared.command.Command.{Command}
use Rattle.plain_values.specs.declared.command.Command.TheVariants as command
use Rattle.plain_values.specs.declared.command.Word.{Word}
use Rattle.plain_values.specs.declared.command.Word.TheVariants as word
use Rattle.plain_values.specs.declared.reply.Reply.{Reply}
use Rattle.plain_values.specs.declared.reply.Reply.TheVariants as reply
use Rattle.plain_values.specs.declared.cause.Cause.{Cause}
use Rattle.plain_values.specs.declared.cause.Cause.TheVariants as cause
use Rattle.plain_values.specs.declared.refusal.Refusal.TheVariants as refusal
use Rattle.plain_values.specs.Names.{patch_cause}
use Rattle.patch_meaning.specs.Applying.{Fault, applied, patched}
use Rattle.host_machine.specs.Differences.{same_table, differences, patches_weight}
use Rattle.host_machine.specs.Paths.{subtree_at}

-- The numbered state, the least number not given yet, the sum of the own weights of all numbers given, the past changes,
-- counted, at most 100, and the number of changes so far.
pub record Machine : Type 0 where
  pub state : Tree
  pub next : ℕ
  pub used : ℕ
  pub past : ℕ
  pub seq : ℕ

-- the plain value of the state
abbrev pub value : Machine → Plain
value m = plain m.state

-- on a state that is loaded from number 1
abbrev pub opened : Plain → Machine
opened v = record { state = numbered 1 v; next = places v + 1; used = used_by (loaded [] v); past = 0; seq = 0 }

-- on the empty object
abbrev pub first_machine : Machine
first_machine = opened (node kind.Obj none)

-- the entries of a container; a primitive has none
abbrev pub table_of : Plain → Table
table_of (prim k) = []
table_of (node kind es) = list_of es

-- ---- what is a change: some patch, when it was applied, changed the content

-- the content of two flat states is not the same
abbrev pub differs : Plain → Plain → Bool
differs x y = not (same_table (table_of x) (table_of y))

-- what a patch made of x differs from x, or a later patch writes; a patch that cannot be applied ends it
abbrev pub wrote : Plain → Result Plain PatchWhy → (Plain → Bool) → Bool
wrote x (Err w) rest = false
wrote x (Ok y) rest = differs x y || rest y

-- some patch changes the content when it is applied
abbrev pub writes : List Patch → Plain → Bool
writes [] x = false
writes (p ∷ ps) x = wrote x (patched p.op p.value p.path x) (writes ps)

-- ---- the step

-- an `apply` that is refused: the machine stays as it is
abbrev pub refused : Machine → Option ℕ → Cause → Machine × Reply
refused m at why = (m, reply.No word.Apply None at (refusal.Named why))

-- the accepted command: the machine then, and its patches there and back
abbrev pub accepted : Machine → Pair → Machine × Reply
accepted m pair = (m, reply.Changed word.Apply pair (number m.state) m.seq None)

-- the patches of what is no change: none there, none back
abbrev pub no_patches : Pair
no_patches = record { forward = []; inverse = [] }

-- the patches from one state to another, and back
abbrev pub between : Plain → Plain → Pair
between old new = record { forward = differences (table_of old) (table_of new); inverse = differences (table_of new) (table_of old) }

-- Another flat state, under the next number. It is one container, so its own weight is its weight. Past changes are counted,
-- at most 100.
abbrev pub with_state : Machine → Plain → Machine
with_state m new = record { state = numbered m.next new; next = m.next + 1; used = m.used + weight new; past = min (m.past + 1) 100; seq = m.seq + 1 }

-- no number is left, or no room for a state of that weight
abbrev pub is_full : Machine → ℕ → Bool
is_full m weight = m.next == 2 ^ 21 || nat_lt (2 ^ 25) (m.used + weight)

-- the patches there and back weigh more than 2^22
abbrev pub is_heavy : Pair → Bool
is_heavy pair = nat_lt (2 ^ 22) (patches_weight pair.forward + patches_weight pair.inverse)

-- a change to a new state, judged by the limits
abbrev pub changed : Machine → Plain → Machine × Reply
changed m new =
    if nat_lt (2 ^ 20) (weight new) then refused m None cause.TooBig else (
    if is_full m (weight new) then refused m None cause.Full else (
    if is_heavy (between (value m) new) then refused m None cause.PatchesTooBig else
    accepted (with_state m new) (between (value m) new)))

-- refused at the first fault; a change where the patches wrote; otherwise accepted without patches
abbrev pub judged : Machine → Bool → Result Plain Fault → Machine × Reply
judged m written (Err f) = refused m (Some f.at) (patch_cause f.why)
judged m written (Ok new) = if written then changed m new else accepted m no_patches

-- the step of `apply`
unfoldable pub apply_step : Machine → List Patch → Machine × Reply
apply_step m patches = judged m (writes patches (value m)) (applied patches (value m))

-- ---- reading: the machine stays as it is

-- nothing stands at the path
abbrev pub no_path : Machine → Word → Machine × Reply
no_path m word = (m, reply.No word None None (refusal.Named cause.NoPath))

-- the reply to `state`, of what stands at its path
abbrev pub state_shown : Machine → Option Plain → Machine × Reply
state_shown m None = no_path m word.State
state_shown m (Some v) = (m, reply.State v)

-- the number of a container; a primitive has none
abbrev pub number_if : Tree → Option ℕ
number_if (tree.prim k) = None
number_if (tree.node id kind es) = Some id

-- the reply to `node`, of what stands at its path
abbrev pub node_shown : Machine → Option Tree → Machine × Reply
node_shown m None = no_path m word.Node
node_shown m (Some t) = (m, reply.Node (number_if t))

-- no change is taken back yet, and no session is begun
abbrev pub counted : Machine → Machine × Reply
counted m = (m, reply.Stat (m.next - 1) 0 m.seq 0 m.past m.used)

-- ---- a command of a form that is not run yet: no host is given one

abbrev pub not_run : Machine → Machine × Reply
not_run m = (m, reply.No word.Line None None (refusal.Named cause.NotYet))

-- what a command makes of the machine, and its reply
abbrev pub step : Machine → Command → Machine × Reply
step m (command.Apply patches) = apply_step m patches
step m (command.State path) = state_shown m (at path (value m))
step m (command.Node path) = node_shown m (subtree_at path m.state)
step m command.Stat = counted m
step m _ = not_run m

-- a host: its machine, and how many commands it has taken
pub record Turned : Type 0 where
  pub machine : Machine
  pub turns : ℕ
