-- What the spellings have in common: reading and writing agree, so no spelling begins another: laws.
use Rattle.std.proofs.Common.{◌≡◌, ℕ, List, [], ◌++◌, Option, sym, ap, ◌∙◌}
use Rattle.std.proofs.lemmas.List.{append-nil}
use Rattle.value_model.specs.Plain.{Plain}
use Rattle.values.specs.declared.patch.Patch.{Patch}
use Rattle.values.specs.declared.patch.Pair.{Pair}
use Rattle.value_bytes_spec.proofs.Fields.{some_is}
use Rattle.value_bytes_spec.proofs.Lists.{patches_take, patches_again, pair_takes, pair_again}
use Rattle.value_bytes_spec.specs.Reading.{value_at, patches_at, pair_at}
use Rattle.value_bytes_spec.specs.Spelling.{value_bytes, patches_bytes, pair_bytes, IsValue, IsPatches, IsPair}
use Rattle.value_bytes_spec.proofs.Values.{value_takes, value_again}
use Rattle.value_bytes_spec.specs.Formats.{IsFormat}

pub value_format : IsFormat Plain value_bytes IsValue value_at
value_format = record { takes = value_takes; again = value_again }

pub patches_format : IsFormat (List Patch) patches_bytes IsPatches patches_at
patches_format = record { takes = patches_take; again = patches_again }

pub pair_format : IsFormat Pair pair_bytes IsPair pair_at
pair_format = record { takes = pair_takes; again = pair_again }

module _ (A : Type 0) (spell : A → List ℕ) (good : A → Type 0) (read : List ℕ → Option (A × List ℕ)) (format : IsFormat A spell good read) where
  -- bytes that begin with two spellings begin with one
  pub one_front : (x y : A) (more rest : List ℕ) → good x → good y → spell x ++ more ≡ spell y ++ rest → (x ≡ y) × (more ≡ rest)
  one_front x y more rest p q e =
      let both = some_is (x, more) (y, rest) (sym (format.again x more p) ∙ ap read e ∙ format.again y rest q) in
      (ap (λ (z : A × List ℕ). z.0) both, ap (λ (z : A × List ℕ). z.1) both)

  -- no spelling is a proper prefix of another, and each is of one thing
  pub no_prefix : (x y : A) (rest : List ℕ) → good x → good y → spell y ≡ spell x ++ rest → (x ≡ y) × (rest ≡ [])
  no_prefix x y rest p q e = one_front x y rest [] p q (sym e ∙ sym (append-nil (spell y)))
