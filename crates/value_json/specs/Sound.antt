-- What a value that code holds always meets: each level is in order, its integers are safe, and its texts aren't too long.
use Rattle.std.specs.Prelude.{◌^◌, ◌&&◌, nat_le, length, Bool, true, is_some}
use Rattle.serde_json.specs.Find.{of_integer}
use Rattle.value_model.specs.declared.key.Key.{Key}
use Rattle.value_model.specs.declared.key.Key.TheVariants as key
use Rattle.value_model.specs.Places.{ascends_at}
use Rattle.value_model.specs.Plain.{Plain, Entries, prim, node, none, entry, list_of}
use Rattle.value_model.specs.Well.{all_fit}
use Rattle.value_json_spec.specs.Reading.{safe_of}

abbrev pub is_sound_key : Key → Bool
is_sound_key (key.Int z) = is_some (safe_of (of_integer z))
is_sound_key (key.Text s) = nat_le (length s) (2 ^ 20)
is_sound_key _ = true

abbrev mutual
  pub is_sound : Plain → Bool
  is_sound (prim k) = is_sound_key k
  is_sound (node kind es) = ascends_at kind (list_of es) && all_fit kind es && all_sound es

  pub all_sound : Entries → Bool
  all_sound none = true
  all_sound (entry k v es) = is_sound_key k && is_sound v && all_sound es
