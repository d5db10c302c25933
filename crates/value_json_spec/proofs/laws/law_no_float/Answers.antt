use Rattle.value_json_spec.proofs.NoFloat.{val_no_float, path_no_float, patches_no_float}
use Rattle.value_json_spec.proofs.laws.law_no_float.Goals as goal

pub returns-clause-value : goal.returns-clause-value
returns-clause-value c v = val_no_float v

pub returns-clause-path : goal.returns-clause-path
returns-clause-path c ks = path_no_float ks

pub returns-clause-patches : goal.returns-clause-patches
returns-clause-patches c ps = patches_no_float ps
