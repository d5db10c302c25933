-- What grants and their verdicts show.
use Rattle.std.specs.Prelude.{◌≡◌, ℕ, List, true, false}
use Rattle.guards_views_spec.specs.declared.GrantRule.{GrantRule}
use Rattle.guards_views_spec.specs.Grants.{Verdict as Said}
use Rattle.guards_views.specs.declared.grants.NamedGrant.{NamedGrant}
use Rattle.guards_views.specs.declared.grants.Verdict.{Verdict}
use Rattle.guards_views.specs.declared.grants.Verdict.TheVariants as verdict

-- a grant under its name
abbrev pub of_grant : NamedGrant → List ℕ × List GrantRule
of_grant n = (n.name, n.grant)

-- what a verdict says, with the name of its rule
abbrev pub Says : Verdict → Said → Type 0
Says (verdict.Allowed s) v = v ≡ (true, s.now)
Says (verdict.Denied s) v = v ≡ (false, s.now)
