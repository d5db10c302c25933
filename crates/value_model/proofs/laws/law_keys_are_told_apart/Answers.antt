use Rattle.value_model.specs.Order.{key_exact}
use Rattle.value_model.proofs.laws.law_keys_are_told_apart.Goals as goal

pub returns : goal.returns
returns c j k h = key_exact j k h
