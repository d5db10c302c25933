use Rattle.std.proofs.Common.{ℕ, ◌≤◌, ◌^◌, List, length, Some, ap, sym, subst, refl, ◌∙◌, inl, inr}
use Rattle.std.proofs.lemmas.Bool.{cases_lt}
use Rattle.value_bytes.proofs.Texts.{no_text, a_text}
use Rattle.value_bytes.proofs.fields.checked_text.Goals as goal

pub returns-in_default : goal.returns-in_default
returns-in_default c = rw (no_text c.args.bytes.now c.in_default.ensures.cases.0) refl

pub returns-in-Ok-of : goal.returns-in-Ok-of
returns-in-Ok-of c =
    let u = c.in-Ok.ensures.cases in
    let short : length c.in-Ok.text.now ≤ 2 ^ 20 = elim (cases_lt (2 ^ 20) (length c.in-Ok.text.now)) [ inl lt ↦ let e = c.in-Ok-of.ensures.long lt in absurd (cc e) | inr le ↦ le ] in
    let fits : length c.args.bytes.now ≤ 2 ^ 20 = subst (λ (s : List ℕ). length s ≤ 2 ^ 20) u.0 short in
    rw (a_text c.args.bytes.now u.1 fits) (ap Some (sym (c.in-Ok-of.ensures.ok ∙ u.0)))
