-- The methods of lists, Maps and Sets, and how many arguments each takes.
use Rattle.std.specs.Prelude.{ℕ, if◌then◌else◌, List, [], ◌∷◌, Option, Some, None, codes}
use Rattle.std.specs.Str.{bytes_eq}
pub use Rattle.script_text.specs.declared.method.Method.{Method}
pub use Rattle.script_text.specs.declared.method.Arity.{Arity}
use Rattle.script_text.specs.declared.method.Method.TheVariants as method
use Rattle.script_text.specs.declared.method.Arity.TheVariants.{Nothing, Single, Double, UpToTwo, OneOrMore}

abbrev pub method_word : Method → List ℕ
method_word method.Push = codes "push"
method_word method.Pop = codes "pop"
method_word method.Shift = codes "shift"
method_word method.Unshift = codes "unshift"
method_word method.Splice = codes "splice"
method_word method.Reverse = codes "reverse"
method_word method.Slice = codes "slice"
method_word method.IndexOf = codes "indexOf"
method_word method.Includes = codes "includes"
method_word method.Get = codes "get"
method_word method.Has = codes "has"
method_word method.Set = codes "set"
method_word method.Add = codes "add"
method_word method.Clear = codes "clear"
method_word method.Delete = codes "delete"

abbrev pub arity : Method → Arity
arity method.Push = OneOrMore
arity method.Pop = Nothing
arity method.Shift = Nothing
arity method.Unshift = OneOrMore
arity method.Splice = OneOrMore
arity method.Reverse = Nothing
arity method.Slice = UpToTwo
arity method.IndexOf = Single
arity method.Includes = Single
arity method.Get = Single
arity method.Has = Single
arity method.Set = Double
arity method.Add = Single
arity method.Clear = Nothing
arity method.Delete = Single

-- those whose word may be a name
abbrev pub methods : List Method
methods = method.Push ∷ method.Pop ∷ method.Shift ∷ method.Unshift ∷ method.Splice ∷ method.Reverse ∷ method.Slice ∷ method.IndexOf ∷ method.Includes ∷ method.Get ∷ method.Has ∷ method.Set ∷ method.Add ∷ method.Clear ∷ []

-- the first of these methods that is written so
abbrev pub first_method : List Method → List ℕ → Option Method
first_method [] bytes = None
first_method (m ∷ ms) bytes = if bytes_eq (method_word m) bytes then Some m else first_method ms bytes

-- the method that a name writes, or none
unfoldable pub named_method : List ℕ → Option Method
named_method bytes = first_method methods bytes
