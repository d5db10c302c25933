-- Places as lists of paths: which they are, their order, and that they lead to containers of one kind in two states.
use Rattle.std.specs.Prelude.{◌≡◌, List, [], ◌∷◌, Option, Some, Bool, true, false, ◌&&◌, ◌||◌, IsTrue, ⊤}
use Rattle.std.specs.declared.cmp.Ordering.TheVariants.{Less}
use Rattle.std.specs.Cmp.Lexicographic.{slice_cmp}
use Rattle.std.specs.Ordering.{eq_by_cmp}
use Rattle.value_model.specs.declared.key.Key.{Key}
use Rattle.value_model.specs.Order.{key_cmp}
use Rattle.numbered.specs.Tree.{Tree, node}
use Rattle.host_machine.specs.Paths.{subtree_at}

-- whether the place at a path is home
abbrev pub Homes : Type 0
Homes = List Key → Bool

-- the same path
abbrev pub same_path : List Key → List Key → Bool
same_path [] [] = true
same_path (j ∷ p) (k ∷ q) = eq_by_cmp key_cmp j k && same_path p q
same_path _ _ = false

-- the places of a list of paths
abbrev pub among : List (List Key) → Homes
among [] = λ path. false
among (p ∷ ps) = λ path. same_path p path || among ps path

-- ---- their order: step by step in the order of keys, a path before those that go on
abbrev pub IsBefore : List Key → List Key → Type 0
IsBefore p q = slice_cmp key_cmp p q ≡ Less

abbrev pub AllBehind : List Key → List (List Key) → Type 0
AllBehind p [] = ⊤
AllBehind p (q ∷ qs) = IsBefore p q × AllBehind p qs

-- each path comes before all those behind it
abbrev pub AreAscending : List (List Key) → Type 0
AreAscending [] = ⊤
AreAscending (p ∷ ps) = AllBehind p ps × AreAscending ps

-- ---- containers of one kind
abbrev pub OfOneKind : Option Tree → Option Tree → Type 0
OfOneKind (Some (node i a es)) (Some (node j b fs)) = a ≡ b
OfOneKind _ _ = ⊥

-- each of these places leads in both states to containers of one kind
abbrev pub AreHomes : Homes → Tree → Tree → Type 0
AreHomes home t u = (path : List Key) → IsTrue (home path) → OfOneKind (subtree_at path t) (subtree_at path u)
