-- The forms of the command line.
use Rattle.std.specs.Prelude.{List, [], ◌∷◌, String, string_bytes, codes, if◌then◌else◌}
use Rattle.std.specs.declared.alloc.Global.{Global}
use Rattle.std.specs.Str.{bytes_eq}
use Rattle.host_shell.specs.declared.words.Form.{Form}
use Rattle.host_shell.specs.declared.words.Form.TheVariants.{Scratch, Usage}

-- the one word `scratch`, and nothing else
abbrev pub wanted_of : List (String Global) → Form
wanted_of [] = Usage
wanted_of (w ∷ []) = if bytes_eq (string_bytes w) (codes "scratch") then Scratch else Usage
wanted_of (w ∷ v ∷ ws) = Usage
