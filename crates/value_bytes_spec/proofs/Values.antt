-- A value that is read is spelled by the bytes that it was read from, and what a value spells is read again: laws.
use Rattle.std.proofs.Common.{◌≡◌, ℕ, zero, suc, ◌^◌, ◌<◌, ◌≤◌, Bool, true, false, cond, ltb, eqb, List, [], ◌∷◌, ◌++◌, length, Option, Some, None, refl, sym, ap, subst, ◌∙◌, append_assoc, arith, Less, Equal, Greater, ◌⊎◌, inl, inr}
use Rattle.std.specs.Prelude.{IsTrue, ◌&&◌}
use Rattle.std.specs.Int.{w32, to_be_bytes}
use Rattle.std.specs.Option.{is_none}
use Rattle.std.specs.declared.cmp.Ordering.{Ordering}
use Rattle.std.specs.Ordering.{is_eq}
use Rattle.std.proofs.lemmas.Bool.{ltb-false, eqb-true, and_from}
use Rattle.value_model.specs.declared.key.Key.{Key}
use Rattle.value_model.specs.declared.key.Key.TheVariants.{Null, Bool as BoolKey, Int, Text}
use Rattle.value_model.specs.declared.kind.Kind.{Kind}
use Rattle.value_model.specs.declared.kind.Kind.TheVariants as kind
use Rattle.value_model.specs.declared.limit.Limit.{Limit}
use Rattle.value_model.specs.Limits.{value_limit}
use Rattle.value_model.specs.Order.{key_exact}
use Rattle.value_model.specs.Places.{ascends_at}
use Rattle.value_model.specs.Plain.{Plain, Entries, prim, node, none, entry, entries, list_of, key_weight, weight, weights, depth, deepest}
use Rattle.value_model.proofs.Steps.{list_of_entries, entries-list_of}
use Rattle.value_model.proofs.Tables.{is_eq-same}
use Rattle.value_model.specs.Well.{fits, all_fit, well, all_well}
use Rattle.value_model.specs.Search.{left_true, right_true}
use Rattle.value_bytes_spec.specs.Numbers.{IsBytes}
use Rattle.value_bytes_spec.specs.Spelling.{is_word, all_words, all_words_in, text_bytes, key_bytes, kind_byte, place_bytes, value_bytes, entries_bytes, IsValue}
use Rattle.value_bytes_spec.specs.Reading.{◌>>=◌, number_at, text_at, key_at, kind_at, entry_at, follows, entries_at, node_at, prim_at, prim_or_node, value_within, nested_at, value_at}
use Rattle.value_bytes_spec.specs.Chains.{chain}
use Rattle.value_bytes_spec.proofs.Chains.{ascends_from_chain, chain_from_ascends}
use Rattle.value_bytes_spec.specs.Fields.{Takes}
use Rattle.value_bytes_spec.proofs.Fields.{IsBytes-rest, bind_some, passed, passed_then, some_is, Takes-then, Takes-nothing, Takes-byte, wide32, number_takes, number_again, text_takes, text_again, key_takes, key_again}
use Rattle.value_bytes_spec.specs.Values.{IsNested, IsExact, IsEntry, entry_bytes, Again, AreEntries}

entry_takes : (kind : Kind) (inner : List ℕ → Option (Plain × List ℕ)) (n : ℕ) → IsExact inner n → (bytes : List ℕ) (e : Key × Plain) (rest : List ℕ) → IsBytes bytes → entry_at kind inner bytes ≡ Some (e, rest) → Takes bytes (entry_bytes kind e) rest × IsEntry kind n e
unfolding entry_at
entry_takes kind.Obj inner n exact bytes e rest fits h =
    let a = bind_some (text_at bytes) (λ k. inner k.1 >>= λ v. Some ((Text k.0, v.0), v.1)) (e, rest) h in
    let b = bind_some (inner a.0.1) (λ v. Some ((Text a.0.0, v.0), v.1)) (e, rest) a.2 in
    let key = text_takes bytes a.0.0 a.0.1 fits a.1 in
    let value = exact.takes a.0.1 b.0.0 b.0.1 key.0.rest_fits b.1 in
    let made : (Key × Plain) × List ℕ = ((Text a.0.0, b.0.0), b.0.1) in
    subst (λ (q : (Key × Plain) × List ℕ). Takes bytes (entry_bytes kind.Obj q.0) q.1 × IsEntry kind.Obj n q.0) (some_is made (e, rest) b.2)
    (Takes-then bytes (text_bytes a.0.0) a.0.1 (value_bytes b.0.0) b.0.1 key.0 value.0, record { fit = refl; word = key.1; value = value.1 })
entry_takes kind.List inner n exact bytes e rest fits h =
    let b = bind_some (inner bytes) (λ v. Some ((Null, v.0), v.1)) (e, rest) h in
    let value = exact.takes bytes b.0.0 b.0.1 fits b.1 in
    let made : (Key × Plain) × List ℕ = ((Null, b.0.0), b.0.1) in
    subst (λ (q : (Key × Plain) × List ℕ). Takes bytes (entry_bytes kind.List q.0) q.1 × IsEntry kind.List n q.0) (some_is made (e, rest) b.2)
    (value.0, record { fit = refl; word = refl; value = value.1 })
entry_takes kind.Map inner n exact bytes e rest fits h =
    let a = bind_some (key_at bytes) (λ k. inner k.1 >>= λ v. Some ((k.0, v.0), v.1)) (e, rest) h in
    let b = bind_some (inner a.0.1) (λ v. Some ((a.0.0, v.0), v.1)) (e, rest) a.2 in
    let key = key_takes bytes a.0.0 a.0.1 fits a.1 in
    let value = exact.takes a.0.1 b.0.0 b.0.1 key.0.rest_fits b.1 in
    let made : (Key × Plain) × List ℕ = ((a.0.0, b.0.0), b.0.1) in
    subst (λ (q : (Key × Plain) × List ℕ). Takes bytes (entry_bytes kind.Map q.0) q.1 × IsEntry kind.Map n q.0) (some_is made (e, rest) b.2)
    (Takes-then bytes (key_bytes a.0.0) a.0.1 (value_bytes b.0.0) b.0.1 key.0 value.0, record { fit = refl; word = key.1; value = value.1 })
entry_takes kind.Set inner n exact bytes e rest fits h =
    let a = bind_some (key_at bytes) (λ k. Some ((k.0, prim k.0), k.1)) (e, rest) h in
    let key = key_takes bytes a.0.0 a.0.1 fits a.1 in
    let made : (Key × Plain) × List ℕ = ((a.0.0, prim a.0.0), a.0.1) in
    subst (λ (q : (Key × Plain) × List ℕ). Takes bytes (entry_bytes kind.Set q.0) q.1 × IsEntry kind.Set n q.0) (some_is made (e, rest) a.2)
    (key.0, record { fit = is_eq-same a.0.0; word = key.1; value = record { in_order = refl; words = key.1; levels = omega arith } })

equal_from_test : (o : Ordering) → is_eq o ≡ true → o ≡ Equal
equal_from_test Less h = absurd cc
equal_from_test Equal h = refl
equal_from_test Greater h = absurd cc

fits_object : (k : Key) (v : Plain) → IsTrue (fits kind.Obj k v) → (s : List ℕ) × (k ≡ Text s)
fits_object (Text s) v h = (s, refl)
fits_object Null v h = absurd cc
fits_object (BoolKey b) v h = absurd cc
fits_object (Int z) v h = absurd cc

fits_list : (k : Key) (v : Plain) → IsTrue (fits kind.List k v) → k ≡ Null
fits_list Null v h = refl
fits_list (Text s) v h = absurd cc
fits_list (BoolKey b) v h = absurd cc
fits_list (Int z) v h = absurd cc

fits_set : (k : Key) (v : Plain) → IsTrue (fits kind.Set k v) → v ≡ prim k
fits_set k (prim j) h = ap prim (sym (key_exact k j (equal_from_test _ h)))
fits_set k (node kind es) h = absurd cc

entry_again : (kind : Kind) (inner : List ℕ → Option (Plain × List ℕ)) (n : ℕ) → IsExact inner n → (e : Key × Plain) (rest : List ℕ) → IsEntry kind n e → weight e.1 < 2 ^ 32 → Again kind inner rest e
unfolding entry_at
entry_again kind.Obj inner n exact e rest ok w =
    let key = fits_object e.0 e.1 ok.fit in
    let s : List ℕ = key.0 in
    let word : IsTrue (is_word (Text s)) = subst (λ (k : Key). IsTrue (is_word k)) key.1 ok.word in
    let grouped : (text_bytes s ++ value_bytes e.1) ++ rest ≡ text_bytes s ++ (value_bytes e.1 ++ rest) = append_assoc (text_bytes s) (value_bytes e.1) rest in
    let front : text_at ((text_bytes s ++ value_bytes e.1) ++ rest) ≡ Some (s, value_bytes e.1 ++ rest) = ap text_at grouped ∙ text_again s (value_bytes e.1 ++ rest) word in
    let read : Again kind.Obj inner rest (Text s, e.1) = rw (front, exact.again e.1 rest ok.value w) refl in
    subst (λ (k : Key). Again kind.Obj inner rest (k, e.1)) (sym key.1) read
entry_again kind.List inner n exact e rest ok w =
    let read : Again kind.List inner rest (Null, e.1) = rw (exact.again e.1 rest ok.value w) refl in
    subst (λ (k : Key). Again kind.List inner rest (k, e.1)) (sym (fits_list e.0 e.1 ok.fit)) read
entry_again kind.Map inner n exact e rest ok w =
    let grouped : (key_bytes e.0 ++ value_bytes e.1) ++ rest ≡ key_bytes e.0 ++ (value_bytes e.1 ++ rest) = append_assoc (key_bytes e.0) (value_bytes e.1) rest in
    let front : key_at ((key_bytes e.0 ++ value_bytes e.1) ++ rest) ≡ Some (e.0, value_bytes e.1 ++ rest) = ap key_at grouped ∙ key_again e.0 (value_bytes e.1 ++ rest) ok.word in
    rw (front, exact.again e.1 rest ok.value w) refl
entry_again kind.Set inner n exact e rest ok w =
    let read : Again kind.Set inner rest (e.0, prim e.0) = rw (key_again e.0 rest ok.word) refl in
    subst (λ (v : Plain). Again kind.Set inner rest (e.0, v)) (sym (fits_set e.0 e.1 ok.fit)) read

-- one more in front
AreEntries-cons : (kind : Kind) (n : ℕ) (before : Option Key) (e : Key × Plain) (es : List (Key × Plain)) → follows kind before e.0 ≡ true → IsEntry kind n e → AreEntries kind n (Some e.0) es → AreEntries kind n before (e ∷ es)
AreEntries-cons kind n before e es f one more = record {
  chained = and_from _ _ f more.chained;
  fit = and_from _ _ one.fit more.fit;
  words = and_from _ _ (and_from _ _ one.word one.value.words) more.words;
  in_order = and_from _ _ one.value.in_order more.in_order;
  levels = omega (arith, one.value.levels, more.levels);
}

entries_take : (kind : Kind) (inner : List ℕ → Option (Plain × List ℕ)) (n : ℕ) → IsExact inner n → (m : ℕ) (before : Option Key) (bytes : List ℕ) (es : List (Key × Plain)) (rest : List ℕ) → IsBytes bytes → entries_at kind inner m before bytes ≡ Some (es, rest) → Takes bytes (entries_bytes kind (entries es)) rest × (length es ≡ m) × AreEntries kind n before es
unfolding entries_at
entries_take kind inner n exact zero before bytes es rest fits h =
    let made : List (Key × Plain) × List ℕ = ([], bytes) in
    subst (λ (q : List (Key × Plain) × List ℕ). Takes bytes (entries_bytes kind (entries q.0)) q.1 × (length q.0 ≡ zero) × AreEntries kind n before q.0) (some_is made (es, rest) h)
    (Takes-nothing bytes fits, refl, record { chained = refl; fit = refl; words = refl; in_order = refl; levels = omega arith })
entries_take kind inner n exact (suc m) before bytes es rest fits h =
    let a = bind_some (entry_at kind inner bytes) (λ e. cond (follows kind before (e.0).0) (entries_at kind inner m (Some (e.0).0) e.1 >>= λ es. Some (e.0 ∷ es.0, es.1)) None) (es, rest) h in
    let e = a.0.0 in
    let p = passed_then (follows kind before e.0) (entries_at kind inner m (Some e.0) a.0.1 >>= λ es. Some (e ∷ es.0, es.1)) (es, rest) a.2 in
    let b = bind_some (entries_at kind inner m (Some e.0) a.0.1) (λ es. Some (e ∷ es.0, es.1)) (es, rest) p.1 in
    let one = entry_takes kind inner n exact bytes e a.0.1 fits a.1 in
    let more = entries_take kind inner n exact m (Some e.0) a.0.1 b.0.0 b.0.1 one.0.rest_fits b.1 in
    let both = Takes-then bytes (entry_bytes kind e) a.0.1 (entries_bytes kind (entries b.0.0)) b.0.1 one.0 more.0 in
    let grouped : (place_bytes kind e.0 ++ value_bytes e.1) ++ entries_bytes kind (entries b.0.0) ≡ entries_bytes kind (entries (e ∷ b.0.0)) = append_assoc (place_bytes kind e.0) (value_bytes e.1) (entries_bytes kind (entries b.0.0)) in
    let made : List (Key × Plain) × List ℕ = (e ∷ b.0.0, b.0.1) in
    subst (λ (q : List (Key × Plain) × List ℕ). Takes bytes (entries_bytes kind (entries q.0)) q.1 × (length q.0 ≡ suc m) × AreEntries kind n before q.0) (some_is made (es, rest) b.2)
    (subst (λ (t : List ℕ). Takes bytes t b.0.1) grouped both, ap suc more.1, AreEntries-cons kind n before e b.0.0 p.0 one.1 more.2)

key_weight_pos : (k : Key) → 1 ≤ key_weight k
key_weight_pos Null = omega arith
key_weight_pos (BoolKey b) = omega arith
key_weight_pos (Int z) = omega arith
key_weight_pos (Text s) = omega arith

weight_pos : (v : Plain) → 1 ≤ weight v
weight_pos (prim k) = key_weight_pos k
weight_pos (node kind es) = omega arith

-- a container weighs at least as much as it has entries
pub count_le_weights : (kind : Kind) (es : Entries) → length (list_of es) ≤ weights kind es
count_le_weights kind none = omega arith
count_le_weights kind (entry k v es) = let w = weight_pos v in let more = count_le_weights kind es in omega arith

entries_again : (kind : Kind) (inner : List ℕ → Option (Plain × List ℕ)) (n : ℕ) → IsExact inner n → (before : Option Key) (es : Entries) (rest : List ℕ)
    → IsTrue (chain kind before (list_of es)) → IsTrue (all_fit kind es) → IsTrue (all_words_in es) → IsTrue (all_well es) → deepest es ≤ n → weights kind es < 2 ^ 32
    → entries_at kind inner (length (list_of es)) before (entries_bytes kind es ++ rest) ≡ Some (list_of es, rest)
unfolding entries_at
entries_again kind inner n exact before none rest c f w o d l = refl
entries_again kind inner n exact before (entry k v es) rest c f w o d l =
    let word = left_true (is_word k && all_words v) _ w in
    let one : IsEntry kind n (k, v) = record {
      fit = left_true (fits kind k v) _ f;
      word = left_true (is_word k) _ word;
      value = record { in_order = left_true (well v) _ o; words = right_true (is_word k) _ word; levels = omega arith };
    } in
    let light : weight v < 2 ^ 32 = omega arith in
    let tail = entries_bytes kind es ++ rest in
    let grouped : entries_bytes kind (entry k v es) ++ rest ≡ (place_bytes kind k ++ value_bytes v) ++ tail =
    append_assoc (place_bytes kind k) (value_bytes v ++ entries_bytes kind es) rest
    ∙ ap (λ (t : List ℕ). place_bytes kind k ++ t) (append_assoc (value_bytes v) (entries_bytes kind es) rest)
    ∙ sym (append_assoc (place_bytes kind k) (value_bytes v) tail) in
    let first : entry_at kind inner ((place_bytes kind k ++ value_bytes v) ++ tail) ≡ Some ((k, v), tail) = entry_again kind inner n exact (k, v) tail one light in
    let more = entries_again kind inner n exact (Some k) es rest (right_true (follows kind before k) _ c) (right_true (fits kind k v) _ f) (right_true (is_word k && all_words v) _ w) (right_true (well v) _ o) (omega arith) (omega arith) in
    ap (entries_at kind inner (suc (length (list_of es))) before) grouped ∙ rw (first, left_true (follows kind before k) _ c, more) refl

-- ---- containers

node_takes : (kind : Kind) (inner : List ℕ → Option (Plain × List ℕ)) (n : ℕ) → IsExact inner n → (bytes : List ℕ) (v : Plain) (rest : List ℕ) → IsBytes bytes → node_at kind inner bytes ≡ Some (v, rest) → Takes (kind_byte kind ∷ bytes) (value_bytes v) rest × IsNested (suc n) v
unfolding node_at
node_takes kind inner n exact bytes v rest fits h =
    let a = bind_some (number_at w32 bytes) (λ m. entries_at kind inner m.0 None m.1 >>= λ es. Some (node kind (entries es.0), es.1)) (v, rest) h in
    let b = bind_some (entries_at kind inner a.0.0 None a.0.1) (λ es. Some (node kind (entries es.0), es.1)) (v, rest) a.2 in
    let es = b.0.0 in
    let count = number_takes w32 (2 ^ 32) wide32 bytes a.0.0 a.0.1 fits a.1 in
    let more = entries_take kind inner n exact a.0.0 None a.0.1 es b.0.1 count.0.rest_fits b.1 in
    let both = Takes-then bytes (to_be_bytes w32 a.0.0) a.0.1 (entries_bytes kind (entries es)) b.0.1 count.0 more.0 in
    let listed : length (list_of (entries es)) ≡ a.0.0 = ap (λ (ds : List (Key × Plain)). length ds) (list_of_entries es) ∙ more.1 in
    let whole : Takes bytes (to_be_bytes w32 (length (list_of (entries es))) ++ entries_bytes kind (entries es)) b.0.1 = subst (λ (k : ℕ). Takes bytes (to_be_bytes w32 k ++ entries_bytes kind (entries es)) b.0.1) (sym listed) both in
    let made : Plain × List ℕ = (node kind (entries es), b.0.1) in
    let ascends : ascends_at kind (list_of (entries es)) ≡ true = rw (list_of_entries es) (ascends_from_chain kind es more.2.chained) in
    subst (λ (q : Plain × List ℕ). Takes (kind_byte kind ∷ bytes) (value_bytes q.0) q.1 × IsNested (suc n) q.0) (some_is made (v, rest) b.2) (
      Takes-byte (kind_byte kind) bytes _ b.0.1 whole,
      record {
        in_order = and_from _ _ (and_from _ _ ascends more.2.fit) more.2.in_order;
        words = more.2.words;
        levels = omega (arith, more.2.levels);
      },
    )

node_again : (kind : Kind) (inner : List ℕ → Option (Plain × List ℕ)) (n : ℕ) → IsExact inner n → (es : Entries) (rest : List ℕ) → IsNested (suc n) (node kind es) → weight (node kind es) < 2 ^ 32
    → node_at kind inner ((to_be_bytes w32 (length (list_of es)) ++ entries_bytes kind es) ++ rest) ≡ Some (node kind es, rest)
unfolding node_at
node_again kind inner n exact es rest ok w =
    let order = left_true (ascends_at kind (list_of es) && all_fit kind es) _ ok.in_order in
    let few = count_le_weights kind es in
    let levels = ok.levels in
    let grouped = append_assoc (to_be_bytes w32 (length (list_of es))) (entries_bytes kind es) rest in
    let count : number_at w32 ((to_be_bytes w32 (length (list_of es)) ++ entries_bytes kind es) ++ rest) ≡ Some (length (list_of es), entries_bytes kind es ++ rest) = ap (number_at w32) grouped ∙ number_again w32 (2 ^ 32) wide32 (length (list_of es)) (entries_bytes kind es ++ rest) (omega arith) in
    let more = entries_again kind inner n exact None es rest (chain_from_ascends kind (list_of es) (left_true _ _ order)) (right_true (ascends_at kind (list_of es)) _ order) ok.words (right_true (ascends_at kind (list_of es) && all_fit kind es) _ ok.in_order) (omega arith) (omega arith) in
    rw (count, more, entries-list_of es) refl

-- ---- values

prim_takes : (n : ℕ) (bytes : List ℕ) (v : Plain) (rest : List ℕ) → IsBytes bytes → prim_at bytes ≡ Some (v, rest) → Takes bytes (value_bytes v) rest × IsNested n v
unfolding prim_at
prim_takes n bytes v rest fits h =
    let a = bind_some (key_at bytes) (λ k. Some (prim k.0, k.1)) (v, rest) h in
    let t = key_takes bytes a.0.0 a.0.1 fits a.1 in
    let made : Plain × List ℕ = (prim a.0.0, a.0.1) in
    subst (λ (q : Plain × List ℕ). Takes bytes (value_bytes q.0) q.1 × IsNested n q.0) (some_is made (v, rest) a.2) (t.0, record { in_order = refl; words = t.1; levels = omega arith })

prim_again : (k : Key) (rest : List ℕ) → IsTrue (is_word k) → prim_at (key_bytes k ++ rest) ≡ Some (prim k, rest)
unfolding prim_at
prim_again k rest h = rw (key_again k rest h) refl

kind_chosen : (a b : Option Kind) (c : Bool) (k : Kind) → cond c a b ≡ Some k → ((c ≡ true) × (a ≡ Some k)) ⊎ (b ≡ Some k)
kind_chosen a b true k h = inl (refl, h)
kind_chosen a b false k h = inr h

kind_at_is : (b : ℕ) (k : Kind) → kind_at b ≡ Some k → b ≡ kind_byte k
unfolding kind_at
kind_at_is b k h =
    elim (kind_chosen (Some kind.Obj) _ (eqb b 5) k h) [
      | inl p ↦ eqb-true b 5 p.0 ∙ ap kind_byte (some_is kind.Obj k p.1)
      | inr q ↦ elim (kind_chosen (Some kind.List) _ (eqb b 6) k q) [
        | inl p ↦ eqb-true b 6 p.0 ∙ ap kind_byte (some_is kind.List k p.1)
        | inr r ↦ elim (kind_chosen (Some kind.Map) _ (eqb b 7) k r) [
          | inl p ↦ eqb-true b 7 p.0 ∙ ap kind_byte (some_is kind.Map k p.1)
          | inr s ↦ elim (kind_chosen (Some kind.Set) None (eqb b 8) k s) [
            | inl p ↦ eqb-true b 8 p.0 ∙ ap kind_byte (some_is kind.Set k p.1)
            | inr t ↦ absurd cc
          ]
        ]
      ]
    ]

by_kind_takes : (inner : List ℕ → Option (Plain × List ℕ)) (n : ℕ) → IsExact inner n → (b : ℕ) (bytes : List ℕ) (v : Plain) (rest : List ℕ) → IsBytes (b ∷ bytes) → (r : Option Kind) → kind_at b ≡ r → prim_or_node r inner (b ∷ bytes) bytes ≡ Some (v, rest) → Takes (b ∷ bytes) (value_bytes v) rest × IsNested (suc n) v
unfolding prim_or_node
by_kind_takes inner n exact b bytes v rest fits None is h = prim_takes (suc n) (b ∷ bytes) v rest fits h
by_kind_takes inner n exact b bytes v rest fits (Some kind) is h =
    subst (λ (c : ℕ). Takes (c ∷ bytes) (value_bytes v) rest × IsNested (suc n) v) (sym (kind_at_is b kind is)) (node_takes kind inner n exact bytes v rest (IsBytes-rest b bytes fits) h)

within_takes : (inner : List ℕ → Option (Plain × List ℕ)) (n : ℕ) → IsExact inner n → (bytes : List ℕ) (v : Plain) (rest : List ℕ) → IsBytes bytes → value_within inner bytes ≡ Some (v, rest) → Takes bytes (value_bytes v) rest × IsNested (suc n) v
unfolding value_within
within_takes inner n exact [] v rest fits h = absurd cc
within_takes inner n exact (b ∷ bytes) v rest fits h = by_kind_takes inner n exact b bytes v rest fits (kind_at b) refl h

prim_within : (inner : List ℕ → Option (Plain × List ℕ)) (k : Key) (rest : List ℕ) → value_within inner (key_bytes k ++ rest) ≡ prim_at (key_bytes k ++ rest)
unfolding value_within kind_at prim_or_node
prim_within inner Null rest = refl
prim_within inner (BoolKey false) rest = refl
prim_within inner (BoolKey true) rest = refl
prim_within inner (Int z) rest = refl
prim_within inner (Text s) rest = refl

node_within : (inner : List ℕ → Option (Plain × List ℕ)) (kind : Kind) (rest : List ℕ) → value_within inner (kind_byte kind ∷ rest) ≡ node_at kind inner rest
unfolding value_within kind_at prim_or_node
node_within inner kind.Obj rest = refl
node_within inner kind.List rest = refl
node_within inner kind.Map rest = refl
node_within inner kind.Set rest = refl

within_again : (inner : List ℕ → Option (Plain × List ℕ)) (n : ℕ) → IsExact inner n → (v : Plain) (rest : List ℕ) → IsNested (suc n) v → weight v < 2 ^ 32 → value_within inner (value_bytes v ++ rest) ≡ Some (v, rest)
within_again inner n exact (prim k) rest ok w = prim_within inner k rest ∙ prim_again k rest ok.words
within_again inner n exact (node kind es) rest ok w = node_within inner kind ((to_be_bytes w32 (length (list_of es)) ++ entries_bytes kind es) ++ rest) ∙ node_again kind inner n exact es rest ok w

flat_again : (v : Plain) (rest : List ℕ) → IsNested 0 v → prim_at (value_bytes v ++ rest) ≡ Some (v, rest)
flat_again (prim k) rest ok = prim_again k rest ok.words
flat_again (node kind es) rest ok = let l = ok.levels in absurd (omega arith)

pub nested_exact : (n : ℕ) → IsExact (nested_at n) n
unfolding nested_at
nested_exact zero = record { takes = prim_takes 0; again = λ v rest ok w. flat_again v rest ok }
nested_exact (suc n) = record { takes = within_takes (nested_at n) n (nested_exact n); again = within_again (nested_at n) n (nested_exact n) }

-- ---- values that are accepted

none_from_test : (o : Option Limit) → is_none o ≡ true → o ≡ None
none_from_test None h = refl
none_from_test (Some l) h = absurd cc

not_past : (b : Bool) (l : Limit) (r : Option Limit) → cond b (Some l) r ≡ None → (b ≡ false) × (r ≡ None)
not_past true l r h = absurd cc
not_past false l r h = (refl, h)

-- what is accepted is neither too deep nor too heavy
pub accepted_sizes : (v : Plain) → value_limit v ≡ None → (depth v ≤ 32) × (weight v ≤ 2 ^ 20)
accepted_sizes v h =
    let deep = not_past (ltb 32 (depth v)) _ _ h in
    let heavy = not_past (ltb (2 ^ 20) (weight v)) _ _ deep.1 in
    (ltb-false _ _ deep.0, ltb-false _ _ heavy.0)

pub value_takes : (bytes : List ℕ) (v : Plain) (rest : List ℕ) → IsBytes bytes → value_at bytes ≡ Some (v, rest) → Takes bytes (value_bytes v) rest × IsValue v
unfolding value_at
value_takes bytes v rest fits h =
    let a = bind_some (nested_at 32 bytes) (λ v. cond (is_none (value_limit v.0)) (Some v) None) (v, rest) h in
    let p = passed (is_none (value_limit a.0.0)) a.0 (v, rest) a.2 in
    let t = (nested_exact 32).takes bytes a.0.0 a.0.1 fits a.1 in
    subst (λ (q : Plain × List ℕ). Takes bytes (value_bytes q.0) q.1 × IsValue q.0) p.1 (t.0, record { in_order = t.1.in_order; words = t.1.words; accepted = none_from_test _ p.0 })

pub value_again : (v : Plain) (rest : List ℕ) → IsValue v → value_at (value_bytes v ++ rest) ≡ Some (v, rest)
unfolding value_at
value_again v rest ok =
    let sizes = accepted_sizes v ok.accepted in
    let read : nested_at 32 (value_bytes v ++ rest) ≡ Some (v, rest) = (nested_exact 32).again v rest (record { in_order = ok.in_order; words = ok.words; levels = sizes.0 }) (omega (arith, sizes.1)) in
    rw (read, ok.accepted) refl
