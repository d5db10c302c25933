-- Which change a refusing call makes: the first refusal that holds, or the change of the object's table.
use Rattle.std.proofs.Common.{◌≡◌, ◌≢◌, ℕ, List, [], ◌∷◌, Bool, false, not}
use Rattle.std.specs.Prelude.{ℤ, pos, IsTrue, Result, Ok, Err, MatchResult}
use Rattle.std.specs.FinMap.Entries.{is_sorted}
use Rattle.value_model.specs.declared.key.Key.{Key}
use Rattle.value_model.specs.declared.key.Key.TheVariants as key
use Rattle.value_model.specs.declared.kind.Kind.{Kind}
use Rattle.value_model.specs.declared.kind.Kind.TheVariants as kind
use Rattle.value_model.specs.Limits.{is_long_text, is_reserved_text, is_reserved_key}
use Rattle.value_model.specs.Order.{key_cmp}
use Rattle.run_heap.specs.declared.value.Rv.{Rv}
use Rattle.run_heap.specs.declared.value.Rv.TheVariants.{Obj, Frozen}
use Rattle.run_heap.specs.declared.content.Content.{Content}
use Rattle.run_heap.specs.declared.fault.DraftFault.{DraftFault}
use Rattle.run_heap.specs.declared.fault.DraftFault.TheVariants as fault
use Rattle.run_heap.specs.Heap.{Heap, write_table}
use Rattle.run_heap.specs.Operations.{Rows, unless, is_undefined, is_hole, is_text_place, without, rewrite, table_of}
use Rattle.run_heap.specs.Sound.{IsTable, IsObject}
use Rattle.draft_slots.specs.declared.change.Change.{Change}
use Rattle.draft_slots.specs.declared.change.Change.TheVariants as change
use Rattle.draft_slots.specs.Looks.{changed, MayChange}
use Rattle.draft_core.specs.Writes.{KeepsTable}

abbrev pub index_of : ℤ → ℕ
index_of (pos i) = i
index_of _ = 0

-- the change that sets an entry
abbrev pub put_plan : Key → Rv → Bool → Kind → Rows → Result Change DraftFault
put_plan (key.Text s) v frozen kind.Obj t =
    unless ((frozen, fault.Frozen) ∷ (is_reserved_text s, fault.ReservedKey) ∷ (is_long_text s, fault.KeyTooLong) ∷ (is_undefined v, fault.UndefinedWrite) ∷ [])
    (Ok (change.Set (key.Text s) v))
put_plan (key.Int i) v frozen kind.List t =
    unless ((frozen, fault.Frozen) ∷ (is_hole i t, fault.Hole) ∷ (is_undefined v, fault.UndefinedWrite) ∷ [])
    (Ok (change.Element (index_of i) v))
put_plan _ v frozen _ t = Err fault.TypeMismatch

abbrev pub no_refusal : Result (Unit {0}) DraftFault
no_refusal = Ok tt

-- whether an entry may be removed
abbrev pub remove_plan : Key → Bool → Kind → Result (Unit {0}) DraftFault
remove_plan k frozen of = unless ((not (is_text_place k of), fault.TypeMismatch) ∷ (frozen, fault.Frozen) ∷ (is_reserved_key k, fault.ReservedKey) ∷ []) no_refusal

-- what a plan comes to
abbrev pub planned : Heap → Rv → Content → Rows → Result Change DraftFault → Result (Heap × Unit {0}) DraftFault
planned h of c t (Ok ch) = Ok (write_table (changed ch t) c of h, tt)
planned h of c t (Err e) = Err e

-- a change that may be made
pub record IsPlan (h : Heap) (of : Rv) (ch : Change) (said : Result (Heap × Unit {0}) DraftFault) : Type 0 where
  pub object : IsObject h of
  pub may : MayChange ch (table_of h of)
  pub table : KeepsTable h of (changed ch)
  pub leaves : said ≡ Ok (rewrite (changed ch) h of, tt)

-- the change, or the refusal that the table of operations says
abbrev pub Plans : Heap → Rv → Result Change DraftFault → Result (Heap × Unit {0}) DraftFault → Type 0
Plans h of r said = MatchResult r (λ ch. IsPlan h of ch said) (λ e. e ≢ fault.Memory → said ≡ Err e)

-- what a plan of this table brings with it
abbrev pub Brings : Heap → Bool → Kind → Rows → Change → Type 0
Brings h frozen kd t ch = (frozen ≡ false) × MayChange ch t × IsTable h kd (changed ch t)

-- ---- the refusals of `remove` in turn
-- an entry may be removed, or the refusal that the table of operations says
pub record IsRemoval (h : Heap) (of : Rv) (k : Key) (said : Result (Heap × Unit {0}) DraftFault) : Type 0 where
  pub object : IsObject h of
  pub may : IsTrue (is_sorted key_cmp (table_of h of))
  pub table : KeepsTable h of (without k)
  pub leaves : said ≡ Ok (rewrite (without k) h of, tt)

abbrev pub MayRemove : Heap → Rv → Key → Result (Unit {0}) DraftFault → Result (Heap × Unit {0}) DraftFault → Type 0
MayRemove h of k r said = MatchResult r (λ _. IsRemoval h of k said) (λ e. said ≡ Err e)

abbrev pub removed : Heap → Rv → Content → Key → Result (Unit {0}) DraftFault → Result (Heap × Unit {0}) DraftFault
removed h of c k (Ok u) = Ok (write_table (without k c.table) c of h, tt)
removed h of c k (Err e) = Err e
