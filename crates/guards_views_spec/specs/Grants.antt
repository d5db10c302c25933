-- Grants: the first rule whose place is the written one, or holds it, decides.
use Rattle.std.specs.Prelude.{ℕ, List, [], ◌∷◌, Bool, true, false, ◌&&◌, Option, Some, None, codes, if◌then◌else◌}
use Rattle.std.specs.Str.{bytes_eq}
use Rattle.std.specs.Ordering.{eq_by_cmp}
use Rattle.value_model.specs.declared.key.Key.{Key}
use Rattle.value_model.specs.Order.{key_cmp}
use Rattle.guards_views_spec.specs.declared.GrantRule.{GrantRule}

-- whether a place is another one or lies above it
abbrev pub is_front : List Key → List Key → Bool
is_front [] q = true
is_front (j ∷ p) [] = false
is_front (j ∷ p) (k ∷ q) = eq_by_cmp key_cmp j k && is_front p q

-- whether writing is allowed, and the name of the rule that says so
abbrev pub Verdict : Type 0
Verdict = Bool × List ℕ

-- without a rule for the place, writing is denied
abbrev pub verdict : List GrantRule → List Key → Verdict
verdict [] q = (false, codes "default")
verdict (r ∷ rs) q = if is_front r.path q then (r.allow, r.rule) else verdict rs q

-- the grant of a name
abbrev pub grant_named : List ℕ → List (List ℕ × List GrantRule) → Option (List GrantRule)
grant_named n [] = None
grant_named n (g ∷ gs) = if bytes_eq g.0 n then Some g.1 else grant_named n gs
