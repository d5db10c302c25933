-- Keys that ascend from each to the next ascend altogether, and back: laws.
use Rattle.std.proofs.Common.{◌≡◌, ℕ, zero, suc, true, cond, List, [], ◌∷◌, Option, Some, None, refl, sym, subst, ◌∙◌, Less, Equal, Greater}
use Rattle.std.specs.FinMap.Entries.{is_sorted, below_all}
use Rattle.std.specs.declared.cmp.Ordering.{Ordering}
use Rattle.std.specs.Ordering.{is_lt}
use Rattle.std.proofs.lemmas.Bool.{and_from}
use Rattle.value_model.specs.declared.key.Key.{Key}
use Rattle.value_model.specs.declared.kind.Kind.{Kind}
use Rattle.value_model.specs.declared.kind.Kind.TheVariants as kind
use Rattle.value_model.specs.Order.{key_cmp, key_total}
use Rattle.value_model.specs.Places.{ascends_at}
use Rattle.value_model.specs.Plain.{Plain}
use Rattle.value_model.specs.Search.{left_true, right_true}
use Rattle.value_bytes_spec.specs.Reading.{◌>>=◌, entry_at, follows, entries_at}
use Rattle.value_bytes_spec.proofs.Fields.{bind_some, passed_then, some_is}
use Rattle.value_bytes_spec.specs.Chains.{chain}

less_from_test : (o : Ordering) → is_lt o ≡ true → o ≡ Less
less_from_test Less h = refl
less_from_test Equal h = absurd cc
less_from_test Greater h = absurd cc

lower : (p q : Key) (es : List (Key × Plain)) → is_lt (key_cmp p q) ≡ true → below_all key_cmp q es ≡ true → below_all key_cmp p es ≡ true
lower p q [] h b = refl
lower p q (e ∷ es) h b =
    let first : key_cmp p e.0 ≡ Less = key_total.trans p q e.0 (less_from_test _ h) (less_from_test _ (left_true _ _ b)) in
    rw first (lower p q es h (right_true _ _ b))

-- what a chain of a keyed container says of the whole
keyed_chain : (kind : Kind) (p : Key) (es : List (Key × Plain)) → ((b k : Key) → follows kind (Some b) k ≡ is_lt (key_cmp b k)) → chain kind (Some p) es ≡ true → (below_all key_cmp p es ≡ true) × (is_sorted key_cmp es ≡ true)
keyed_chain kind p [] same h = (refl, refl)
keyed_chain kind p (e ∷ es) same h =
    let here : is_lt (key_cmp p e.0) ≡ true = sym (same p e.0) ∙ left_true _ _ h in
    let more = keyed_chain kind e.0 es same (right_true (follows kind (Some p) e.0) _ h) in
    let less = less_from_test _ here in
    (rw less (lower p e.0 es here more.0), and_from _ _ more.0 more.1)

ascends_keyed : (kind : Kind) (es : List (Key × Plain)) → ((b k : Key) → follows kind (Some b) k ≡ is_lt (key_cmp b k)) → chain kind None es ≡ true → is_sorted key_cmp es ≡ true
ascends_keyed kind [] same h = refl
ascends_keyed kind (e ∷ es) same h =
    let more = keyed_chain kind e.0 es same (right_true (follows kind None e.0) _ h) in
    and_from _ _ more.0 more.1

pub ascends_from_chain : (kind : Kind) (es : List (Key × Plain)) → chain kind None es ≡ true → ascends_at kind es ≡ true
ascends_from_chain kind.Obj es h = ascends_keyed kind.Obj es (λ b k. refl) h
ascends_from_chain kind.List es h = refl
ascends_from_chain kind.Map es h = ascends_keyed kind.Map es (λ b k. refl) h
ascends_from_chain kind.Set es h = ascends_keyed kind.Set es (λ b k. refl) h

-- and back: what is in order is a chain
chain_below : (kind : Kind) (p : Key) (es : List (Key × Plain)) → ((b k : Key) → follows kind (Some b) k ≡ is_lt (key_cmp b k)) → below_all key_cmp p es ≡ true → is_sorted key_cmp es ≡ true → chain kind (Some p) es ≡ true
chain_below kind p [] same b s = refl
chain_below kind p (e ∷ es) same b s = and_from _ _ (same p e.0 ∙ left_true _ _ b) (chain_below kind e.0 es same (left_true _ _ s) (right_true _ _ s))

chain_keyed : (kind : Kind) (es : List (Key × Plain)) → ((b k : Key) → follows kind (Some b) k ≡ is_lt (key_cmp b k)) → ((k : Key) → follows kind None k ≡ true) → is_sorted key_cmp es ≡ true → chain kind None es ≡ true
chain_keyed kind [] same first s = refl
chain_keyed kind (e ∷ es) same first s = and_from _ _ (first e.0) (chain_below kind e.0 es same (left_true _ _ s) (right_true _ _ s))

chain_list : (before : Option Key) (es : List (Key × Plain)) → chain kind.List before es ≡ true
chain_list before [] = refl
chain_list before (e ∷ es) = chain_list (Some e.0) es

pub chain_from_ascends : (kind : Kind) (es : List (Key × Plain)) → ascends_at kind es ≡ true → chain kind None es ≡ true
chain_from_ascends kind.Obj es h = chain_keyed kind.Obj es (λ b k. refl) (λ k. refl) h
chain_from_ascends kind.List es h = chain_list None es
chain_from_ascends kind.Map es h = chain_keyed kind.Map es (λ b k. refl) (λ k. refl) h
chain_from_ascends kind.Set es h = chain_keyed kind.Set es (λ b k. refl) (λ k. refl) h

-- entries that were read are in order, whatever reads their values
read_chain : (kind : Kind) (inner : List ℕ → Option (Plain × List ℕ)) (n : ℕ) (before : Option Key) (bytes : List ℕ) (es : List (Key × Plain)) (rest : List ℕ) → entries_at kind inner n before bytes ≡ Some (es, rest) → chain kind before es ≡ true
unfolding entries_at
read_chain kind inner zero before bytes es rest h =
    let made : List (Key × Plain) × List ℕ = ([], bytes) in
    subst (λ (q : List (Key × Plain) × List ℕ). chain kind before q.0 ≡ true) (some_is made (es, rest) h) refl
read_chain kind inner (suc n) before bytes es rest h =
    let a = bind_some (entry_at kind inner bytes) (λ e. cond (follows kind before (e.0).0) (entries_at kind inner n (Some (e.0).0) e.1 >>= λ es. Some (e.0 ∷ es.0, es.1)) None) (es, rest) h in
    let e = a.0.0 in
    let p = passed_then (follows kind before e.0) (entries_at kind inner n (Some e.0) a.0.1 >>= λ es. Some (e ∷ es.0, es.1)) (es, rest) a.2 in
    let b = bind_some (entries_at kind inner n (Some e.0) a.0.1) (λ es. Some (e ∷ es.0, es.1)) (es, rest) p.1 in
    let made : List (Key × Plain) × List ℕ = (e ∷ b.0.0, b.0.1) in
    subst (λ (q : List (Key × Plain) × List ℕ). chain kind before q.0 ≡ true) (some_is made (es, rest) b.2) (and_from _ _ p.0 (read_chain kind inner n (Some e.0) a.0.1 b.0.0 b.0.1 b.1))

pub read_ascends : (kind : Kind) (inner : List ℕ → Option (Plain × List ℕ)) (n : ℕ) (bytes : List ℕ) (es : List (Key × Plain)) (rest : List ℕ) → entries_at kind inner n None bytes ≡ Some (es, rest) → ascends_at kind es ≡ true
read_ascends kind inner n bytes es rest h = ascends_from_chain kind es (read_chain kind inner n None bytes es rest h)
