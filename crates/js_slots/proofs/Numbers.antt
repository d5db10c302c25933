-- One reducer more.
use Rattle.std.proofs.Common.{◌≡◌, ℕ, ◌+◌, ◌<◌, ◌≤◌, List, [], ◌∷◌, ◌++◌, length, drop, get_or, map, subst, sym, append_assoc}
use Rattle.std.proofs.lemmas.List.{at_drop_more, append-nil, drop_all}
use Rattle.script_names.specs.Slots.{place}
use Rattle.js_slots.specs.declared.slots.Slots.{Slots}
use Rattle.js_slots.specs.Numbers.{Numbers, HaveSlots}

-- the numbers among these declarations
abbrev pub numbered : List ℕ → List (ℕ × ℕ) → List (ℕ × ℕ)
numbered ds ns = map (λ (n : ℕ × ℕ). (n.0, place ds n.1)) ns

-- these slots and those of the reducers from a place on are all
abbrev pub Goes : List (List (ℕ × ℕ)) → ℕ → List Slots → Type 0
Goes all i so_far = (more : List Slots) → HaveSlots (drop i all) more → HaveSlots all (so_far ++ more)

pub goes_on : (all : List (List (ℕ × ℕ))) (i : ℕ) (f : List (ℕ × ℕ)) → i < length all → f ≡ get_or all i f → (so_far new : List Slots) (s : Slots) → Numbers f s → new ≡ so_far ++ s ∷ [] → Goes all i so_far → Goes all (i + 1) new
goes_on all i f h e so_far new s numbers push inv more rest =
    let first : HaveSlots (get_or all i f ∷ drop (i + 1) all) (s ∷ more) = (subst (λ f. Numbers f s) e numbers, rest) in
    let both : HaveSlots (drop i all) (s ∷ more) = subst (λ fs. HaveSlots fs (s ∷ more)) (sym (at_drop_more (λ fs. fs) all i f h)) first in
    subst (λ ss. HaveSlots all (ss ++ more)) (sym push) (subst (HaveSlots all) (sym (append_assoc so_far (s ∷ []) more)) (inv (s ∷ more) both))

pub all_gone : (all : List (List (ℕ × ℕ))) (i : ℕ) (so_far : List Slots) → length all ≤ i → Goes all i so_far → HaveSlots all so_far
all_gone all i so_far h inv =
    let none : HaveSlots (drop i all) [] = subst (λ fs. HaveSlots fs []) (sym (drop_all i all h)) tt in
    subst (HaveSlots all) (append-nil so_far) (inv [] none)
