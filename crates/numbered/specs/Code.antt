-- How the logic stores a numbered state.
use Rattle.std.proofs.Common.{◌≡◌, ◌≢◌, ℕ, ap, arith, refl, List}
use Rattle.std.specs.Coded.{Coded, coded_ℕ, coded_list}
use base.Stored.{Gv, gnil, gnum, gcons}
use Rattle.value_model.specs.Code.{coded_key, coded_kind}
use Rattle.numbered.specs.Tree.{Tree, Branches, prim, node, none, branch}

abbrev head : Gv → Gv
head gnil = gnil
head (gnum n) = gnil
head (gcons a b) = a

abbrev tail : Gv → Gv
tail gnil = gnil
tail (gnum n) = gnil
tail (gcons a b) = b

abbrev mutual
  tree_code : Tree → Gv
  tree_code (prim k) = gcons (gnum 0) (coded_key.code k)
  tree_code (node id kind es) = gcons (gnum 1) (gcons (coded_ℕ.code id) (gcons (coded_kind.code kind) (branches_code es)))

  branches_code : Branches → Gv
  branches_code none = gnil
  branches_code (branch k v es) = gcons (coded_key.code k) (gcons (tree_code v) (branches_code es))

apart : (m n : ℕ) {a b : Gv} → gcons (gnum m) a ≡ gcons (gnum n) b → m ≢ n → ⊥
apart m n p other = other (cc)

mutual
  pub tree_inj : (x y : Tree) → tree_code x ≡ tree_code y → x ≡ y
  tree_inj (prim j) (prim k) p = ap prim (coded_key.inj j k (ap tail p))
  tree_inj (prim k) (node id kind es) p = absurd (apart 0 1 p (omega arith))
  tree_inj (node id kind es) (prim k) p = absurd (apart 1 0 p (omega arith))
  tree_inj (node m j ds) (node n k es) p =
      let n = coded_ℕ.inj m n (ap (λ g. head (tail g)) p) in
      let a = coded_kind.inj j k (ap (λ g. head (tail (tail g))) p) in
      let b = branches_inj ds es (ap (λ g. tail (tail (tail g))) p) in
      cc

  branches_inj : (x y : Branches) → branches_code x ≡ branches_code y → x ≡ y
  branches_inj none none p = refl
  branches_inj none (branch k v es) p = absurd (cc)
  branches_inj (branch k v es) none p = absurd (cc)
  branches_inj (branch j v ds) (branch k w es) p =
      let a = coded_key.inj j k (ap head p) in
      let b = tree_inj v w (ap (λ g. head (tail g)) p) in
      let c = branches_inj ds es (ap (λ g. tail (tail g)) p) in
      cc

abbrev pub coded_tree : Coded Tree
coded_tree = record { code = tree_code; inj = tree_inj }

abbrev pub coded_trees : Coded (List Tree)
coded_trees = coded_list coded_tree
