-- What names stand for at a place of a program, as the Environment Records of ECMA-262 have it: a scope binds its names
-- where it begins, and a binding is set where the declaration ends. Here this is judged in the text's order, before any
-- run.
use Rattle.std.specs.Prelude.{ℕ, if◌then◌else◌, List, [], ◌∷◌, Option, Some, None}
use Rattle.std.specs.Str.{bytes_eq}
pub use Rattle.script_names.specs.declared.Binding.{Binding}
use Rattle.script_names.specs.declared.Binding.TheVariants.{Unset}

-- what each name stands for
abbrev pub Env : Type 0
Env = List ℕ → Option Binding

-- no name stands for anything
abbrev pub empty : Env
empty x = None

-- the name stands for this, and hides what it stood for
abbrev pub bind : Env → List ℕ → Binding → Env
bind env x b = λ y. if bytes_eq x y then Some b else env y

-- where a scope begins that declares these names
abbrev pub enter : List (List ℕ) → Env → Env
enter [] env = env
enter (x ∷ xs) env = enter xs (bind env x Unset)
