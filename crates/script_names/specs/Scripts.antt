-- What the tokens of a source are: a program whose names are right, or one with a name that is wrong.
use Rattle.std.specs.Prelude.{◌≡◌, ℕ, List, Ok, Err}
use Rattle.script_text.specs.declared.token.Token.{Token}
use Rattle.script_grammar.specs.Trees.{Program}
use Rattle.script_grammar.specs.Sources.{Spells, offset_of}
use Rattle.script_names.specs.declared.Cause.{Cause}
use Rattle.script_names.specs.Names.{names_of}

-- the tokens spell this program, and its names of variables belong to these declarations
pub record IsScript (source : List ℕ) (tokens : List Token) (p : Program) (found : List (List (ℕ × ℕ))) : Type 0 where
  pub spelled : Spells source tokens p
  pub names : names_of p ≡ Ok found

-- the tokens spell a program, and the first of its names that is wrong begins here
pub record NameFaultAt (source : List ℕ) (tokens : List Token) (cause : Cause) (at : ℕ) : Type 0 where
  pub program : Program
  pub spelled : Spells source tokens program
  pub token : ℕ
  pub first : names_of program ≡ Err (cause, token)
  pub begins : at ≡ offset_of source tokens token
