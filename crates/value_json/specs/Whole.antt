-- JSON data that its compact text gives back: its numbers are integers of at most 53 bits, and the names of each object ascend.
use Rattle.std.specs.Prelude.{ℕ, pos, negsuc, ◌^◌, ◌&&◌, nat_lt, List, Bool, true, false}
use Rattle.std.specs.Cmp.Lexicographic.{slice_cmp}
use Rattle.std.specs.Ordering.{is_lt, nat_cmp}
use Rattle.serde_json.specs.Data.{Num, unsigned, negative, float, Data, null, boolean, number, string, array, object, Items, no_items, item, Members, no_members, member}

abbrev pub is_small : Num → Bool
is_small (unsigned n) = nat_lt n (2 ^ 53)
is_small (negative (pos n)) = false
is_small (negative (negsuc n)) = nat_lt n (2 ^ 53)
is_small (float x) = false

abbrev pub all_above : List ℕ → Members → Bool
all_above l no_members = true
all_above l (member k d ms) = is_lt (slice_cmp nat_cmp l k) && all_above l ms

abbrev pub is_ascending : Members → Bool
is_ascending no_members = true
is_ascending (member k d ms) = all_above k ms && is_ascending ms

abbrev mutual
  pub is_whole : Data → Bool
  is_whole null = true
  is_whole (boolean b) = true
  is_whole (number n) = is_small n
  is_whole (string s) = true
  is_whole (array ds) = items_whole ds
  is_whole (object ms) = is_ascending ms && members_whole ms

  pub items_whole : Items → Bool
  items_whole no_items = true
  items_whole (item d ds) = is_whole d && items_whole ds

  pub members_whole : Members → Bool
  members_whole no_members = true
  members_whole (member k d ms) = is_whole d && members_whole ms
