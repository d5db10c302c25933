-- The home places of a run that ends.
use Rattle.std.proofs.Common.{◌≡◌, List, [], refl, sym, ◌∙◌, Bool, true, false}
use Rattle.value_model.specs.declared.key.Key.{Key}
use Rattle.numbered.specs.Store.{tree_at}
use Rattle.numbered.specs.Tree.{Tree}
use Rattle.run_heap.specs.declared.value.Rv.{Rv}
use Rattle.run_heap.specs.Heap.{Heap}
use Rattle.result_trees.specs.Final.{Final, plain_of, returned}
use Rattle.result_trees.proofs.OrderLaws.{IsAccepted, accepted}
use Rattle.new_numbers.specs.Ending.{Ends}
use Rattle.new_numbers.specs.Numbering.{new_state}
use Rattle.new_numbers.proofs.EndLaws.{read, end_value}
use Rattle.home_places.specs.Homes.{changed_homes, homes}
use Rattle.home_places.specs.Paths.{among, AreAscending, AreHomes}
use Rattle.home_places.proofs.AscendingLaws.{homes_ascend}
use Rattle.home_places.proofs.CompleteLaws.{homes_complete}
use Rattle.home_places.proofs.HomeLaws.{are_homes}
use Rattle.home_places.proofs.ListedLaws.{homes_listed}

both_ways : (a b : Bool) → (a ≡ true → b ≡ true) → (b ≡ true → a ≡ true) → a ≡ b
both_ways true b f g = sym (f refl)
both_ways false true f g = g refl
both_ways false false f g = refl

module _ (ts : List Tree) (h : Heap) (v : Rv) (f : Final) (e : Ends ts h v f) where
  ok : IsAccepted (plain_of f)
  ok = accepted h e.sound f (returned h v) e.stored (read ts h v f e) e.depth e.weight

  pub listed : (path : List Key) → among (homes h [] f (new_state ts h f)) path ≡ changed_homes h f (new_state ts h f) path
  listed path =
      let value = end_value ts h v f e in
      both_ways (among (homes h [] f (new_state ts h f)) path) (changed_homes h f (new_state ts h f) path)
      (λ q. homes_listed f h [] (new_state ts h f) path value ok.well q) (λ q. homes_complete path f h [] (new_state ts h f) value q)

  pub ascending : AreAscending (homes h [] f (new_state ts h f))
  ascending = homes_ascend f h [] (new_state ts h f) ok.well

  pub of_one_kind : AreHomes (among (homes h [] f (new_state ts h f))) (tree_at h.states h.root) (new_state ts h f)
  of_one_kind path q = are_homes h e.sound f (returned h v) (new_state ts h f) (read ts h v f e) (end_value ts h v f e) path (sym (listed path) ∙ q)
