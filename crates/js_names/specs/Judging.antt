-- What a step over names has to answer: the names so far and its own, with their declarations, or the first fault.
use Rattle.std.specs.Prelude.{◌≡◌, ℕ, Bool, true, false, List, [], ◌∷◌, ◌++◌, map, Option, Some, None, Result, Ok, Err}
use Rattle.script_names.specs.declared.Cause.{Cause}
use Rattle.script_names.specs.Environments.{Env}
use Rattle.script_names.specs.Names.{Judged, judged_item, after, reads, read, uses_prop, uses_suffix}
use Rattle.script_text.specs.declared.sign.Sign.{Sign}
use Rattle.script_grammar.specs.Trees.{Item, Const, Let, LetBe, Plain}
use Rattle.script_tree.specs.declared.Expr.{Expr}
use Rattle.script_tree.specs.declared.Stmt.{Stmt}
use Rattle.script_tree.specs.declared.Label.{Label}
use Rattle.script_tree.specs.declared.Access.{Access}
use Rattle.script_tree.specs.declared.Access.TheVariants as access
use Rattle.script_tree.specs.View.{view, item_view, prop_of, suffix_of, index_of}
use Rattle.js_names.specs.declared.fault.NameFault.{NameFault}
use Rattle.js_names.specs.declared.fault.NameFault.TheVariants as fault

abbrev pub Found : Type 0
Found = List (ℕ × ℕ)

-- these names and those that follow, or the first fault
abbrev pub so_far : Found → List Judged → Result Found (Cause × ℕ)
so_far found [] = Ok found
so_far found (Ok n ∷ js) = so_far (found ++ n ∷ []) js
so_far found (Err f ∷ js) = Err f

abbrev pub Judges : Found → List Judged → Result (Unit {0}) NameFault → Found → Type 0
Judges before js (Ok u) now = so_far before js ≡ Ok now
Judges before js (Err (fault.Wrong c at)) now = so_far before js ≡ Err (c, at)
Judges before js (Err fault.Memory) now = Unit {0}

-- the names of lists, one item after the other
abbrev pub all_reads : Env → List Expr → List Judged
all_reads env [] = []
all_reads env (e ∷ es) = reads env (view e) ++ all_reads env es

abbrev pub prop_reads : Env → Label × Expr → List Judged
prop_reads env p = map (read env) (uses_prop (prop_of (p.0, view p.1)))

abbrev pub all_props : Env → List (Label × Expr) → List Judged
all_props env [] = []
all_props env (p ∷ ps) = prop_reads env p ++ all_props env ps

abbrev pub access_reads : Env → Access × List Expr → List Judged
access_reads env a = map (read env) (uses_suffix (suffix_of (a.0, map view a.1)))

abbrev pub is_index : Access → Bool
is_index (access.Dot l) = false
is_index access.Index = true

abbrev pub index_reads : Env → List Expr → List Judged
index_reads env es = map (read env) (uses_suffix (index_of (map view es)))

abbrev pub all_accesses : Env → List (Access × List Expr) → List Judged
all_accesses env [] = []
all_accesses env (a ∷ more) = access_reads env a ++ all_accesses env more

abbrev pub link_reads : Env → Sign × Expr → List Judged
link_reads env l = reads env (view l.1)

abbrev pub all_links : Env → List (Sign × Expr) → List Judged
all_links env [] = []
all_links env (l ∷ ls) = link_reads env l ++ all_links env ls

abbrev pub value_reads : Env → Option Expr → List Judged
value_reads env None = []
value_reads env (Some e) = reads env (view e)

-- ---- statements
-- the name that an item declares
abbrev pub declared_name : Item → Option (List ℕ)
declared_name (Const at x e) = Some x
declared_name (Let at x) = Some x
declared_name (LetBe at x e) = Some x
declared_name (Plain s) = None

abbrev pub all_judged : Env → List Stmt → List Judged
all_judged env [] = []
all_judged env (s ∷ ss) = judged_item env (item_view s) ++ all_judged (after env (item_view s)) ss
