-- What applying answers beside want of memory.
use Rattle.std.specs.Prelude.{◌≡◌, Result, Ok, Err}
use Rattle.patch_meaning.specs.Applying.{Fault}
use Rattle.plain_apply.specs.declared.fault.ApplyFault.{ApplyFault}
use Rattle.plain_apply.specs.declared.fault.ApplyFault.TheVariants as fault
use Rattle.plain_apply.specs.declared.fault.EditFault.{EditFault}
use Rattle.plain_apply.specs.declared.fault.EditFault.TheVariants as edit
use Rattle.value_model.specs.Plain.{Plain}
use Rattle.value_model.specs.declared.patch_why.PatchWhy.{PatchWhy}

abbrev pub Fails : {Y : Type 0} → EditFault → Result Y PatchWhy → Type 0
Fails edit.Memory r = Unit {0}
Fails (edit.Refused w) r = r ≡ Err w

-- the answer, seen by f, is the definition's, unless memory ran out
abbrev pub GivesBy : {X Y : Type 0} → (X → Y) → Result X EditFault → Result Y PatchWhy → Type 0
GivesBy f (Ok x) r = r ≡ Ok (f x)
GivesBy f (Err e) r = Fails e r

abbrev pub Gives : Result Plain EditFault → Result Plain PatchWhy → Type 0
Gives a r = GivesBy (λ x. x) a r

abbrev pub FailsAt : ApplyFault → Result Plain Fault → Type 0
FailsAt fault.Memory r = Unit {0}
FailsAt (fault.Refused at why) r = r ≡ Err (record { at = at; why = why })

-- the value after the patches, or the first fault with its position, unless memory ran out
abbrev pub GivesApplied : Result Plain ApplyFault → Result Plain Fault → Type 0
GivesApplied (Ok x) r = r ≡ Ok x
GivesApplied (Err e) r = FailsAt e r
