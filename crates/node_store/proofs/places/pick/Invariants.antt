use Rattle.std.proofs.Common.{◌≡◌, ◌++◌, length, drop}
use Rattle.page_tables.specs.Pages.{AllBelow}
use Rattle.node_store.specs.Kept.{picked}
use Rattle.node_store.proofs.places.pick.Given as goal

abbrev pub invariant-loop-place : goal.invariant-loop-place
invariant-loop-place l = let rest = drop l.place-index l.places.items in record {
  inside : AllBelow (length l.numbers.items) rest;
  out : l.out.items ++ picked l.numbers.items rest ≡ picked l.numbers.items l.places.items;
}
