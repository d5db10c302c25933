use Rattle.std.proofs.Common.{sym, subst}
use lib.Dec.{T}
use Rattle.std.specs.FinMap.Entries.{same_entries}
use Rattle.value_model.specs.Order.{key_cmp, key_total, key_exact}
use Rattle.value_model.proofs.laws.law_same_entries.Goals as goal

pub returns : goal.returns
returns c ds es p q h = same_entries key_cmp key_total key_exact ds es (subst T (sym p) tt) (subst T (sym q) tt) h
