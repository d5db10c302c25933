-- Two writes before one sync.
use Rattle.std.proofs.Common.{◌≡◌, ◌≤◌, ℕ, List, length, Option, Some, None, refl, sym, ap, subst, ◌∙◌, arith}
use Rattle.std.specs.Prelude.{option_map, IfSome}
use Rattle.disk_model.specs.Disk.{written, Torn, TornTwice, Follows, AddsNone, IsSettled, Elapses, LeavesOnly}
use Rattle.disk_model.specs.Images.{torn_same, longer_written}
use Rattle.disk_model.proofs.Moments.{settled_image, started_settled, goes_on}

-- the second write may begin where the first one could
pub within_written : (told then_told : Option (List ℕ)) (at : ℕ) (piece : List ℕ) (place : ℕ) → then_told ≡ option_map (written at piece) told → IfSome told (λ bytes. place ≤ length bytes) → IfSome then_told (λ bytes. place ≤ length bytes)
within_written None then_told at piece place e h = subst (λ (x : Option (List ℕ)). IfSome x (λ bytes. place ≤ length bytes)) (sym e) tt
within_written (Some bytes) then_told at piece place e h =
    let le : place ≤ length (written at piece bytes) = omega (arith, h, longer_written at piece bytes) in
    subst (λ (x : Option (List ℕ)). IfSome x (λ bytes. place ≤ length bytes)) (sym e) le

pub written_twice : (told mid new : Option (List ℕ)) (f g : List ℕ → List ℕ) → mid ≡ option_map f told → new ≡ option_map g mid → new ≡ option_map (λ (bytes : List ℕ). g (f bytes)) told
written_twice None mid new f g e h = h ∙ ap (option_map g) e
written_twice (Some bytes) mid new f g e h = h ∙ ap (option_map g) e

module _ {D : Type 0} (told : D → Option (List ℕ)) (moment : D → ℕ) (left_since : D → ℕ → List ℕ → Type 0) (may_leave : D → List ℕ → Type 0) (old mid : D) (bytes : List ℕ) (at n then_at m : ℕ)
    (only_now : (image : List ℕ) → left_since old (moment old) image → may_leave old image) (settled : IsSettled told may_leave old) (holds : told old ≡ Some bytes)
    (torn : Follows (Torn at n) (may_leave old) (may_leave mid)) (time : Elapses moment left_since may_leave old mid) where
  abbrev pub Left : List ℕ → Type 0
  Left image = TornTwice at n then_at m bytes image

  torn_once : (image : List ℕ) → may_leave mid image → Torn at n bytes image
  torn_once image now = let from = torn image now in subst (λ (xs : List ℕ). Torn at n xs image) (settled_image told may_leave old bytes settled holds from.0 from.1) from.2

  -- after the first
  pub after_first : LeavesOnly moment left_since may_leave old mid Left
  after_first =
      goes_on moment left_since may_leave old old mid Left
      (started_settled moment left_since may_leave told old Left bytes only_now settled holds (record { between = bytes; first = torn_same at n bytes; second = torn_same then_at m bytes }))
      time (λ image now. record { between = image; first = torn_once image now; second = torn_same then_at m image })

  -- after both
  pub after_second : (new : D) → Follows (Torn then_at m) (may_leave mid) (may_leave new) → Elapses moment left_since may_leave mid new → LeavesOnly moment left_since may_leave old new Left
  after_second new follows more =
      goes_on moment left_since may_leave old mid new Left after_first more
      (λ image now. let from = follows image now in record { between = from.0; first = torn_once from.0 from.1; second = from.2 })
