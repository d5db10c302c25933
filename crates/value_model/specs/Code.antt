-- How the logic stores a plain value.
use Rattle.std.proofs.Common.{◌≡◌, ◌≢◌, ℕ, zero, suc, ℤ, List, refl, ap, arith}
use Rattle.std.specs.Coded.{Coded, code_by, coded_ℕ, coded_ℤ, coded_list, coded×}
use base.Stored.{Gv, gnil, gnum, gcons}
use Rattle.value_model.specs.declared.key.Key.{Key}
use Rattle.value_model.specs.declared.kind.Kind.{Kind}
use Rattle.value_model.specs.declared.kind.Kind.TheVariants as kind
use Rattle.value_model.specs.Order.{rank, number, letters, key_from, key_from-parts}
use Rattle.value_model.specs.Plain.{Plain, Entries, prim, node, none, entry}

abbrev pub coded_key : Coded Key
coded_key = code_by (ℕ × (ℤ × List ℕ)) (coded× coded_ℕ (coded× coded_ℤ (coded_list coded_ℕ))) (λ k. (rank k, (number k, letters k))) (λ p. key_from p.0 p.1.0 p.1.1) key_from-parts

abbrev kind_number : Kind → ℕ
kind_number kind.Obj = 0
kind_number kind.List = 1
kind_number kind.Map = 2
kind_number kind.Set = 3

abbrev kind_at : ℕ → Kind
kind_at zero = kind.Obj
kind_at (suc zero) = kind.List
kind_at (suc (suc zero)) = kind.Map
kind_at (suc (suc (suc n))) = kind.Set

pub kind_at-number : (k : Kind) → kind_at (kind_number k) ≡ k
kind_at-number kind.Obj = refl
kind_at-number kind.List = refl
kind_at-number kind.Map = refl
kind_at-number kind.Set = refl

abbrev pub coded_kind : Coded Kind
coded_kind = code_by ℕ coded_ℕ kind_number kind_at kind_at-number

abbrev head : Gv → Gv
head gnil = gnil
head (gnum n) = gnil
head (gcons a b) = a

abbrev tail : Gv → Gv
tail gnil = gnil
tail (gnum n) = gnil
tail (gcons a b) = b

abbrev mutual
  plain_code : Plain → Gv
  plain_code (prim k) = gcons (gnum 0) (coded_key.code k)
  plain_code (node kind es) = gcons (gnum 1) (gcons (coded_kind.code kind) (entries_code es))

  entries_code : Entries → Gv
  entries_code none = gnil
  entries_code (entry k v es) = gcons (coded_key.code k) (gcons (plain_code v) (entries_code es))

apart : (m n : ℕ) {a b : Gv} → gcons (gnum m) a ≡ gcons (gnum n) b → m ≢ n → ⊥
apart m n p other = other (cc)

mutual
  pub plain_inj : (x y : Plain) → plain_code x ≡ plain_code y → x ≡ y
  plain_inj (prim j) (prim k) p = ap prim (coded_key.inj j k (ap tail p))
  plain_inj (prim k) (node kind es) p = absurd (apart 0 1 p (omega arith))
  plain_inj (node kind es) (prim k) p = absurd (apart 1 0 p (omega arith))
  plain_inj (node j ds) (node k es) p =
      let a = coded_kind.inj j k (ap (λ g. head (tail g)) p) in
      let b = entries_inj ds es (ap (λ g. tail (tail g)) p) in
      cc

  entries_inj : (x y : Entries) → entries_code x ≡ entries_code y → x ≡ y
  entries_inj none none p = refl
  entries_inj none (entry k v es) p = absurd (cc)
  entries_inj (entry k v es) none p = absurd (cc)
  entries_inj (entry j v ds) (entry k w es) p =
      let a = coded_key.inj j k (ap head p) in
      let b = plain_inj v w (ap (λ g. head (tail g)) p) in
      let c = entries_inj ds es (ap (λ g. tail (tail g)) p) in
      cc

abbrev pub coded_plain : Coded Plain
coded_plain = record { code = plain_code; inj = plain_inj }
