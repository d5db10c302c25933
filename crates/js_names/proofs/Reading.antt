-- Steps over names, one after the other.
use Rattle.std.proofs.lemmas.List.{at_drop_more, append-nil}
use Rattle.std.proofs.Common.{◌≡◌, ◌≢◌, ℕ, ◌+◌, ◌<◌, arith, length, drop, get_or, Bool, true, false, List, [], ◌∷◌, ◌++◌, map, Result, Ok, Err, IsTrue, ◌↔◌, append_assoc, refl, sym, ap, subst, ◌∙◌}
use Rattle.script_text.specs.declared.sign.Sign.{Sign}
use Rattle.script_grammar.specs.Trees.{Ex}
use Rattle.script_tree.specs.declared.Label.{Label}
use Rattle.script_tree.specs.declared.Access.{Access}
use Rattle.script_tree.specs.declared.Access.TheVariants as access
use Rattle.script_tree.specs.declared.Expr.{Expr}
use Rattle.script_tree.specs.declared.Expr.TheVariants as ex
use Rattle.script_tree.specs.View.{view, elems_of, props_of, prop_of, suffixes_of, suffix_of, links_of, member_of, chain_of, short_of}
use Rattle.script_tree.proofs.Views.{view_list, view_object, view_member, view_chain, view_choice}
use Rattle.script_names.specs.declared.Cause.{Cause}
use Rattle.script_names.specs.Environments.{Env}
use Rattle.script_names.specs.Names.{Name, Judged, onto, gathered, read, reads, uses, uses_elems, uses_prop, uses_props, uses_suffix, uses_suffixes, uses_links}
use Rattle.js_names.specs.declared.fault.NameFault.{NameFault}
use Rattle.js_names.specs.declared.fault.NameFault.TheVariants as fault
use Rattle.js_names.specs.Judging.{Found, so_far, Judges, all_reads, prop_reads, all_props, access_reads, all_accesses, all_links, is_index}

abbrev then : Result Found (Cause × ℕ) → List Judged → Result Found (Cause × ℕ)
then (Ok found) js = so_far found js
then (Err f) js = Err f

so_far_append : (found : Found) (xs ys : List Judged) → so_far found (xs ++ ys) ≡ then (so_far found xs) ys
so_far_append found [] ys = refl
so_far_append found (Ok n ∷ xs) ys = so_far_append (found ++ n ∷ []) xs ys
so_far_append found (Err f ∷ xs) ys = refl

-- the first part went well
pub judges_on : (a b c : Found) (xs ys : List Judged) (r : Result (Unit {0}) NameFault) → so_far a xs ≡ Ok b → Judges b ys r c → Judges a (xs ++ ys) r c
judges_on a b c xs ys (Ok u) e h = so_far_append a xs ys ∙ ap (λ r. then r ys) e ∙ h
judges_on a b c xs ys (Err (fault.Wrong k at)) e h = so_far_append a xs ys ∙ ap (λ r. then r ys) e ∙ h
judges_on a b c xs ys (Err fault.Memory) e h = tt

-- the first part did not
pub judges_stop : (a b c : Found) (xs ys : List Judged) (f : NameFault) → Judges a xs (Err f) b → Judges a (xs ++ ys) (Err f) c
judges_stop a b c xs ys (fault.Wrong k at) h = so_far_append a xs ys ∙ ap (λ r. then r ys) h
judges_stop a b c xs ys fault.Memory h = tt

-- ---- the names of expressions by their variants
map_reads : (env : Env) (xs ys : List Name) → map (read env) (xs ++ ys) ≡ map (read env) xs ++ map (read env) ys
map_reads env [] ys = refl
map_reads env (x ∷ xs) ys = ap (λ (js : List Judged). read env x ∷ js) (map_reads env xs ys)

no_more : (js : List Judged) → js ++ [] ≡ js
no_more [] = refl
no_more (j ∷ js) = ap (λ (ks : List Judged). j ∷ ks) (no_more js)

elems : (env : Env) (es : List Expr) (c : Bool) → map (read env) (uses_elems (elems_of (map view es) c)) ≡ all_reads env es
elems env [] c = refl
elems env (e ∷ []) true = map_reads env (uses (view e)) []
elems env (e ∷ []) false = sym (no_more (reads env (view e)))
elems env (e ∷ f ∷ es) c = map_reads env (uses (view e)) (uses_elems (elems_of (map view (f ∷ es)) c)) ∙ ap (λ (js : List Judged). reads env (view e) ++ js) (elems env (f ∷ es) c)

abbrev viewed : Label × Expr → Label × Ex
viewed p = (p.0, view p.1)

properties : (env : Env) (ps : List (Label × Expr)) (c : Bool) → map (read env) (uses_props (props_of (map viewed ps) c)) ≡ all_props env ps
properties env [] c = refl
properties env (p ∷ []) true = map_reads env (uses_prop (prop_of (viewed p))) []
properties env (p ∷ []) false = sym (no_more (prop_reads env p))
properties env (p ∷ q ∷ ps) c = map_reads env (uses_prop (prop_of (viewed p))) (uses_props (props_of (map viewed (q ∷ ps)) c)) ∙ ap (λ (js : List Judged). prop_reads env p ++ js) (properties env (q ∷ ps) c)

abbrev reached : Access × List Expr → Access × List Ex
reached a = (a.0, map view a.1)

accesses : (env : Env) (xs : List (Access × List Expr)) → map (read env) (uses_suffixes (suffixes_of (map reached xs))) ≡ all_accesses env xs
accesses env [] = refl
accesses env (x ∷ xs) = map_reads env (uses_suffix (suffix_of (reached x))) (uses_suffixes (suffixes_of (map reached xs))) ∙ ap (λ (js : List Judged). access_reads env x ++ js) (accesses env xs)

abbrev linked : Sign × Expr → Sign × Ex
linked l = (l.0, view l.1)

links : (env : Env) (ls : List (Sign × Expr)) → map (read env) (uses_links (links_of (map linked ls))) ≡ all_links env ls
links env [] = refl
links env (l ∷ ls) = map_reads env (uses (view l.1)) (uses_links (links_of (map linked ls))) ∙ ap (λ (js : List Judged). reads env (view l.1) ++ js) (links env ls)

pub reads_list : (env : Env) (es : List Expr) (c : Bool) → reads env (view (ex.List es c)) ≡ all_reads env es
reads_list env es c = ap (reads env) (view_list es c) ∙ elems env es c

pub reads_object : (env : Env) (ps : List (Label × Expr)) (c : Bool) → reads env (view (ex.Object ps c)) ≡ all_props env ps
reads_object env ps c = ap (reads env) (view_object ps c) ∙ properties env ps c

pub reads_member : (env : Env) (e : Expr) (xs : List (Access × List Expr)) → reads env (view (ex.Member e xs)) ≡ reads env (view e) ++ all_accesses env xs
reads_member env e [] = ap (reads env) (view_member e []) ∙ map_reads env (uses (view e)) []
reads_member env e (x ∷ xs) = ap (reads env) (view_member e (x ∷ xs)) ∙ map_reads env (uses (view e)) (uses_suffixes (suffixes_of (map reached (x ∷ xs)))) ∙ ap (λ (js : List Judged). reads env (view e) ++ js) (accesses env (x ∷ xs))

pub reads_chain : (env : Env) (k : ℕ) (e : Expr) (ls : List (Sign × Expr)) → ls ≢ [] → reads env (view (ex.Chain k e ls)) ≡ reads env (view e) ++ all_links env ls
reads_chain env k e [] h = absurd (h refl)
reads_chain env k e (l ∷ ls) h = ap (reads env) (view_chain k e (l ∷ ls)) ∙ map_reads env (uses (view e)) (uses_links (links_of (map linked (l ∷ ls)))) ∙ ap (λ (js : List Judged). reads env (view e) ++ js) (links env (l ∷ ls))

pub reads_choice : (env : Env) (c a b : Expr) → reads env (view (ex.Choice c a b)) ≡ reads env (view c) ++ (reads env (view a) ++ reads env (view b))
reads_choice env c a b = ap (reads env) (view_choice c a b) ∙ map_reads env (uses (view c)) (uses (view a) ++ uses (view b)) ∙ ap (λ (js : List Judged). reads env (view c) ++ js) (map_reads env (uses (view a)) (uses (view b)))

pub judges_as : (a b : Found) (xs ys : List Judged) (r : Result (Unit {0}) NameFault) → xs ≡ ys → Judges a ys r b → Judges a xs r b
judges_as a b xs ys r e h = subst (λ (js : List Judged). Judges a js r b) (sym e) h

pub judges_exit : (a b c : Found) (xs : List Judged) (f : NameFault) (r : Result (Unit {0}) NameFault) → r ≡ Err f → Judges a xs (Err f) b → Judges a xs r c
judges_exit a b c xs (fault.Wrong k at) r e h = rw e h
judges_exit a b c xs fault.Memory r e h = rw e tt

pub not_empty : {A : Type 0} (xs : List A) (b : Bool) → (IsTrue b ↔ (xs ≡ [])) → b ≡ false → xs ≢ []
not_empty xs b h e = λ n. cc (h.1 n)

pub empty : {A : Type 0} (xs : List A) (b : Bool) → (IsTrue b ↔ (xs ≡ [])) → b ≡ true → xs ≡ []
empty xs b h e = h.0 e

pub in_list : (env : Env) (e : Expr) (es fs : List Expr) (c : Bool) → e ≡ ex.List es c → fs ≡ es → reads env (view e) ≡ all_reads env fs
in_list env e es fs c h i = ap (λ (e : Expr). reads env (view e)) h ∙ reads_list env es c ∙ sym (ap (all_reads env) i)

pub in_object : (env : Env) (e : Expr) (ps qs : List (Label × Expr)) (c : Bool) → e ≡ ex.Object ps c → qs ≡ ps → reads env (view e) ≡ all_props env qs
in_object env e ps qs c h i = ap (λ (e : Expr). reads env (view e)) h ∙ reads_object env ps c ∙ sym (ap (all_props env) i)

pub in_member : (env : Env) (e b d : Expr) (xs : List (Access × List Expr)) → e ≡ ex.Member b xs → d ≡ b → reads env (view e) ≡ reads env (view d) ++ all_accesses env xs
in_member env e b d xs h i = ap (λ (e : Expr). reads env (view e)) h ∙ reads_member env b xs ∙ sym (ap (λ (e : Expr). reads env (view e) ++ all_accesses env xs) i)

pub in_chain : (env : Env) (k : ℕ) (e b d : Expr) (ls : List (Sign × Expr)) → e ≡ ex.Chain k b ls → ls ≢ [] → d ≡ b → reads env (view e) ≡ reads env (view d) ++ all_links env ls
in_chain env k e b d ls h n i = ap (λ (e : Expr). reads env (view e)) h ∙ reads_chain env k b ls n ∙ sym (ap (λ (e : Expr). reads env (view e) ++ all_links env ls) i)

-- the names behind the first operand: those of the operators' operands, and without an operator what no program has
abbrev pub behind_first : Env → List (Sign × Expr) → List Judged
behind_first env [] = read env (0, []) ∷ []
behind_first env (l ∷ ls) = all_links env (l ∷ ls)

pub in_some_chain : (env : Env) (k : ℕ) (e b d : Expr) (ls : List (Sign × Expr)) → e ≡ ex.Chain k b ls → d ≡ b → reads env (view e) ≡ reads env (view d) ++ behind_first env ls
in_some_chain env k e b d [] h i = rw (h, i) (ap (reads env) (view_chain k b []) ∙ map_reads env (uses (view b)) ((0, []) ∷ []))
in_some_chain env k e b d (l ∷ ls) h i = rw (h, i) (reads_chain env k b (l ∷ ls) (λ n. cc))

pub in_no_chain : (env : Env) (k : ℕ) (e b d : Expr) (ls : List (Sign × Expr)) → e ≡ ex.Chain k b ls → ls ≡ [] → d ≡ b → reads env (view e) ≡ reads env (view d) ++ read env (0, []) ∷ []
in_no_chain env k e b d ls h n i = in_some_chain env k e b d ls h i ∙ ap (λ ls. reads env (view d) ++ behind_first env ls) n

pub in_choice : (env : Env) (e c a b c' a' b' : Expr) → e ≡ ex.Choice c a b → c' ≡ c → a' ≡ a → b' ≡ b → reads env (view e) ≡ reads env (view c') ++ (reads env (view a') ++ reads env (view b'))
in_choice env e c a b c' a' b' h i j k = rw (h, i, j, k) (reads_choice env c a b)

-- ---- where a fault ends a function
pub exit_stop : (a b c : Found) (xs ys : List Judged) (f : NameFault) (r : Result (Unit {0}) NameFault) → (x : NameFault) × (r ≡ Err x) × (x ≡ f) → Judges a xs (Err f) b → Judges a (xs ++ ys) r c
exit_stop a b c xs ys f r p h = judges_exit a b c (xs ++ ys) f r (p.1 ∙ ap Err p.2) (judges_stop a b b xs ys f h)

-- ---- loops: all is one of each
abbrev pub Each : {X : Type 0} → (X → List Judged) → (List X → List Judged) → Type 0
Each {X} one all = (x : X) (xs : List X) → all (x ∷ xs) ≡ one x ++ all xs

next_of : {X : Type 0} (one : X → List Judged) (all : List X → List Judged) → Each one all → (xs : List X) (i : ℕ) (x : X) → i < length xs → x ≡ get_or xs i x → all (drop i xs) ≡ one x ++ all (drop (i + 1) xs)
next_of one all each xs i x h e = at_drop_more all xs i x h ∙ each (get_or xs i x) (drop (i + 1) xs) ∙ ap (λ y. one y ++ all (drop (i + 1) xs)) (sym e)

pub loop_on : {X : Type 0} (one : X → List Judged) (all : List X → List Judged) → Each one all → (xs : List X) (i : ℕ) (x : X) → i < length xs → x ≡ get_or xs i x → (a b : Found) (g : Result Found (Cause × ℕ)) → so_far a (one x) ≡ Ok b → so_far a (all (drop i xs)) ≡ g → so_far b (all (drop (i + 1) xs)) ≡ g
loop_on one all each xs i x h e a b g ok inv =
    let rest = all (drop (i + 1) xs) in
    sym (ap (λ r. then r rest) ok) ∙ sym (so_far_append a (one x) rest) ∙ sym (ap (so_far a) (next_of one all each xs i x h e)) ∙ inv

pub loop_exit : {X : Type 0} (one : X → List Judged) (all : List X → List Judged) → Each one all → (xs : List X) (i : ℕ) (x : X) → i < length xs → x ≡ get_or xs i x → (s a b c : Found) (f : NameFault) (r : Result (Unit {0}) NameFault) → (y : NameFault) × (r ≡ Err y) × (y ≡ f) → Judges a (one x) (Err f) b → so_far a (all (drop i xs)) ≡ so_far s (all xs) → Judges s (all xs) r c
loop_exit one all each xs i x h e s a b c f r p j inv =
    let rest = all (drop (i + 1) xs) in
    judges_exit s b c (all xs) f r (p.1 ∙ ap Err p.2) (by f (judges_as a b (all (drop i xs)) (one x ++ rest) (Err f) (next_of one all each xs i x h e) (judges_stop a b b (one x) rest f j)))
  where
    by : (f : NameFault) → Judges a (all (drop i xs)) (Err f) b → Judges s (all xs) (Err f) b
    by (fault.Wrong k at) j = sym inv ∙ j
    by fault.Memory j = tt

-- ---- members
pub no_index : (env : Env) (a : Access × List Expr) → is_index a.0 ≡ false → access_reads env a ≡ []
no_index env (access.Dot l, []) h = refl
no_index env (access.Dot l, e ∷ es) h = refl
no_index env (access.Index, es) h = absurd cc

pub no_single : (env : Env) (a : Access × List Expr) → length a.1 ≢ 1 → access_reads env a ≡ []
no_single env (access.Dot l, []) h = refl
no_single env (access.Dot l, e ∷ es) h = refl
no_single env (access.Index, []) h = refl
no_single env (access.Index, e ∷ []) h = absurd (h refl)
no_single env (access.Index, e ∷ f ∷ es) h = refl

pub one_index : (env : Env) (a : Access × List Expr) (es : List Expr) (x : Expr) → is_index a.0 ≡ true → es ≡ a.1 → length es ≡ 1 → x ≡ get_or es 0 x → access_reads env a ≡ reads env (view x)
one_index env (access.Dot l, fs) es x h s n e = absurd cc
one_index env (access.Index, []) es x h s n e = absurd (omega (arith, ap length s, n))
one_index env (access.Index, f ∷ []) es x h s n e = rw (e, s) refl
one_index env (access.Index, f ∷ g ∷ fs) es x h s n e = absurd (omega (arith, ap length s, n))

-- ---- what no program has: an expression other than a name alone in an object literal
abbrev shorts : Env → Ex → List Judged
shorts env e = map (read env) (uses_prop (short_of e))

short_members : (env : Env) (b : Ex) (xs : List (Access × List Ex)) → shorts env (member_of b xs) ≡ read env (0, []) ∷ []
short_members env b [] = refl
short_members env b (x ∷ xs) = refl

short_links : (env : Env) (k : ℕ) (b : Ex) (ls : List (Sign × Ex)) → shorts env (chain_of k b ls) ≡ read env (0, []) ∷ []
short_links env k b [] = refl
short_links env k b (l ∷ ls) = refl

pub short_member : (env : Env) (e b : Expr) (xs : List (Access × List Expr)) → e ≡ ex.Member b xs → map (read env) (uses_prop (short_of (view e))) ≡ read env (0, []) ∷ []
short_member env e b xs h = ap (λ (e : Expr). shorts env (view e)) h ∙ ap (shorts env) (view_member b xs) ∙ short_members env (view b) (map reached xs)

pub short_chain : (env : Env) (k : ℕ) (e b : Expr) (ls : List (Sign × Expr)) → e ≡ ex.Chain k b ls → map (read env) (uses_prop (short_of (view e))) ≡ read env (0, []) ∷ []
short_chain env k e b ls h = ap (λ (e : Expr). shorts env (view e)) h ∙ ap (shorts env) (view_chain k b ls) ∙ short_links env k (view b) (map linked ls)

-- ---- the names of a whole list
abbrev behind : Found → Result Found (Cause × ℕ) → Result Found (Cause × ℕ)
behind found (Ok ns) = Ok (found ++ ns)
behind found (Err f) = Err f

so_far_is : (found : Found) (js : List Judged) → so_far found js ≡ behind found (gathered js)
so_far_is found [] = ap Ok (sym (append-nil found))
so_far_is found (Ok n ∷ js) = so_far_is (found ++ n ∷ []) js ∙ by (gathered js)
  where
    by : (r : Result Found (Cause × ℕ)) → behind (found ++ n ∷ []) r ≡ behind found (onto (Ok n) r)
    by (Ok ns) = ap Ok (append_assoc found (n ∷ []) ns)
    by (Err f) = refl
so_far_is found (Err f ∷ js) = refl

pub from_nothing : (js : List Judged) → so_far [] js ≡ gathered js
from_nothing js = so_far_is [] js ∙ by (gathered js)
  where
    by : (r : Result Found (Cause × ℕ)) → behind [] r ≡ r
    by (Ok ns) = refl
    by (Err f) = refl

pub judged_first : (a b : Found) (xs ys : List Judged) → so_far a xs ≡ Ok b → so_far a (xs ++ ys) ≡ so_far b ys
judged_first a b xs ys e = so_far_append a xs ys ∙ ap (λ r. then r ys) e

pub judges_moved : (a s b : Found) (xs ys : List Judged) (f : NameFault) → so_far a xs ≡ so_far s ys → Judges a xs (Err f) b → Judges s ys (Err f) b
judges_moved a s b xs ys (fault.Wrong k at) e h = sym e ∙ h
judges_moved a s b xs ys fault.Memory e h = tt
