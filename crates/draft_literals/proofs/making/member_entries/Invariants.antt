use Rattle.std.proofs.Common.{◌≡◌, ◌++◌, map, drop}
use Rattle.draft_literals.specs.Making.{member}
use Rattle.draft_literals.proofs.making.member_entries.Given as goal

abbrev pub invariant-loop-key : goal.invariant-loop-key
invariant-loop-key l = l.table.items ++ map member (drop l.key-index l.members.items) ≡ map member l.members.items
