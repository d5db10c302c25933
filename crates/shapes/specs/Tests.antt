-- What is asked of the test that a guard keeps.
use Rattle.std.specs.Prelude.{◌≡◌, Bool}
use Rattle.std.specs.Borrow.{Bor}
use Rattle.std.specs.Fn.{Shared, AnyResult}
use Rattle.value_model.specs.Plain.{Plain}
use Rattle.guards_views_spec.specs.Shapes.{Shape, meets}

-- it may be called on every value, and answers whether the value meets the shape
pub record Tests {F : Type 0} (g : Shared F (Bor Plain × Unit {0}) Bool) (f : F) (s : Shape) : Type 0 where
  pub callable : (v : Bor Plain) → g.pre f (v, tt)
  pub answers : (v : Bor Plain) (b : Bool) → g.post f (v, tt) b → b ≡ meets s v.now
