-- What code answers on where patches lead and what they touch.
use Rattle.std.specs.Prelude.{◌≡◌, List, Option, Some, None}
use Rattle.value_model.specs.declared.key.Key.{Key}
use Rattle.guards_views_spec.specs.Views.{Reach, above, inside, aside}
use Rattle.derived_views.specs.declared.touched.Touched.{Touched}
use Rattle.derived_views.specs.declared.touched.Touched.TheVariants.{Whole, Keys}
use Rattle.derived_views.specs.declared.touched.Way.{Way}
use Rattle.derived_views.specs.declared.touched.Way.TheVariants.{Above, Inside, Aside}

-- where a patch leads
abbrev pub Leads : Way → Reach → Type 0
Leads Above r = r ≡ above
Leads (Inside k) r = r ≡ inside k.now
Leads Aside r = r ≡ aside

-- the touched keys; none where the whole is touched
abbrev pub Touches : Touched → Option (List Key) → Type 0
Touches Whole o = o ≡ None
Touches (Keys ks) o = o ≡ Some ks.items
