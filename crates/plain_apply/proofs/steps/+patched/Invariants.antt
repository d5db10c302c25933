use Rattle.std.proofs.Common.{◌+◌, ◌-◌, ◌*◌, length}
use Rattle.plain_apply.proofs.steps.+patched.Given as goal

abbrev pub decreases-patched : goal.decreases-patched
decreases-patched l = 4 * (length l.path.now - l.at)

abbrev pub decreases-inside : goal.decreases-inside
decreases-inside l = 4 * (length l.path.now - l.at) - 1

abbrev pub decreases-inside_object : goal.decreases-inside_object
decreases-inside_object l = 4 * (length l.path.now - l.next) + 2

abbrev pub decreases-inside_list : goal.decreases-inside_list
decreases-inside_list l = 4 * (length l.path.now - l.next) + 2

abbrev pub decreases-inside_map : goal.decreases-inside_map
decreases-inside_map l = 4 * (length l.path.now - l.next) + 1

abbrev pub decreases-inside_field : goal.decreases-inside_field
decreases-inside_field l = 4 * (length l.path.now - l.next) + 1

abbrev pub decreases-inside_item : goal.decreases-inside_item
decreases-inside_item l = 4 * (length l.path.now - l.next) + 1
