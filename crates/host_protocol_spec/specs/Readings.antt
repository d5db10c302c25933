-- That a line is of the form of a word.
use Rattle.std.specs.Prelude.{◌≡◌, ℕ, List, IsTrue, Some, codes}
use Rattle.serde_json.specs.Data.{Data}
use Rattle.serde_json.specs.Find.{get}
use Rattle.plain_values.specs.declared.command.Word.{Word}
use Rattle.plain_values.specs.Names.{word_name}
use Rattle.value_json_spec.specs.Reading.{json_of}
use Rattle.host_protocol_spec.specs.Forms.{text_in, has_form}

-- it is JSON with the word's spelling under `do`, and with exactly the word's members, each in its form
pub record IsOfWord (line : List ℕ) (w : Word) : Type 0 where
  pub json : Data
  pub read : json_of line ≡ Some json
  pub spelled : text_in (get (codes "do") json) ≡ Some (word_name w)
  pub formed : IsTrue (has_form w json)
