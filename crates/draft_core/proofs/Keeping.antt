-- Tables that writing calls leave may be tables of objects: laws.
use Rattle.std.proofs.Common.{◌≡◌, ◌≢◌, ℕ, List, refl, ap, subst}
use Rattle.std.specs.Prelude.{Option, Some, None, option_map, IsTrue}
use Rattle.std.specs.FinMap.Entries.{put, is_sorted}
use Rattle.value_model.specs.declared.key.Key.{Key}
use Rattle.value_model.specs.declared.kind.Kind.{Kind}
use Rattle.value_model.specs.declared.kind.Kind.TheVariants as kind
use Rattle.value_model.specs.Order.{key_cmp}
use Rattle.run_heap.specs.declared.value.Rv.{Rv}
use Rattle.run_heap.specs.declared.content.Content.{Content}
use Rattle.run_heap.specs.Heap.{Heap, shown}
use Rattle.run_heap.proofs.Laws.{shown_content}
use Rattle.run_heap.specs.Operations.{kind_of, rows_of, table_of, spliced, without}
use Rattle.run_heap.specs.Sound.{IsSound, IsContent, IsTable, IsStored, AllStored, Owned}
use Rattle.run_heap.proofs.Tables.{splice_table, put_table, without_table}
use Rattle.draft_core.specs.Writes.{KeepsTable, KeepsIn, MayStandIn}

some_kind : (c : Content) (of : Kind) → option_map (λ (d : Content). d.kind) (Some c) ≡ Some of → c.kind ≡ of
some_kind c of h = cc

splice_in : (h : Heap) (o : Option Content) (from to : ℕ) (vs : List Rv) → IsContent h o → option_map (λ (d : Content). d.kind) o ≡ Some kind.List → AllStored h vs → KeepsIn h o (spliced from to vs)
splice_in h None from to vs c k a = tt
splice_in h (Some c) from to vs tab k a =
    let is : c.kind ≡ kind.List = some_kind c kind.List k in
    let t : IsTable h kind.List c.table = subst (λ (x : Kind). IsTable h x c.table) is tab in
    rw is (splice_table h from to vs c.table a t)

pub splice_keeps : (h : Heap) (of : Rv) (from to : ℕ) (vs : List Rv) → IsSound h → Owned h of → kind_of h of ≡ Some kind.List → AllStored h vs → KeepsTable h of (spliced from to vs)
splice_keeps h of from to vs s o k a = splice_in h (shown h of) from to vs (shown_content h of s o) k a

put_in : (h : Heap) (o : Option Content) (k : Key) (v : Rv) → IsContent h o → IsStored h v → MayStandIn (option_map (λ (d : Content). d.kind) o) k v → KeepsIn h o (put key_cmp k v)
put_in h None k v c a m = tt
put_in h (Some c) k v tab a m = put_table h c.kind k v c.table m a tab

pub put_keeps : (h : Heap) (of : Rv) (k : Key) (v : Rv) → IsSound h → Owned h of → IsStored h v → MayStandIn (kind_of h of) k v → KeepsTable h of (put key_cmp k v)
put_keeps h of k v s o a m = put_in h (shown h of) k v (shown_content h of s o) a m

without_in : (h : Heap) (o : Option Content) (k : Key) → IsContent h o → KeepsIn h o (without k)
without_in h None k c = tt
without_in h (Some c) k tab = without_table h c.kind k c.table tab

pub without_keeps : (h : Heap) (of : Rv) (k : Key) → IsSound h → Owned h of → KeepsTable h of (without k)
without_keeps h of k s o = without_in h (shown h of) k (shown_content h of s o)

sorted_kind : (h : Heap) (of : Kind) (t : List (Key × Rv)) → IsTable h of t → of ≢ kind.List → IsTrue (is_sorted key_cmp t)
sorted_kind h kind.List t tab other = absurd (other refl)
sorted_kind h kind.Obj t tab other = tab.ascends
sorted_kind h kind.Map t tab other = tab.ascends
sorted_kind h kind.Set t tab other = tab.ascends

sorted_in : (h : Heap) (o : Option Content) → IsContent h o → option_map (λ (d : Content). d.kind) o ≢ Some kind.List → IsTrue (is_sorted key_cmp (rows_of o))
sorted_in h None c other = refl
sorted_in h (Some c) tab other = sorted_kind h c.kind c.table tab (λ q. other (ap (λ (x : Kind). let y : Option Kind = Some x in y) q))

-- the keys of what isn't a list ascend
pub sorted_table : (h : Heap) (of : Rv) → IsSound h → Owned h of → kind_of h of ≢ Some kind.List → IsTrue (is_sorted key_cmp (table_of h of))
sorted_table h of s o other = sorted_in h (shown h of) (shown_content h of s o) other
