-- A history that a journal keeps stays sound under each change that is allowed.
use Rattle.std.proofs.Common.{◌≡◌, ℕ, zero, suc, ◌+◌, ◌<◌, ◌≤◌, ◌^◌, Bool, true, false, cond, List, [], ◌∷◌, length, take, Option, Some, None, Result, Ok, Err, refl, sym, ap, subst, ◌∙◌, arith}
use Rattle.std.specs.Prelude.{IsTrue, ◌&&◌, not, nat_lt, nat_le}
use Rattle.std.specs.Option.{is_none}
use Rattle.std.proofs.lemmas.Bool.{leb-true, le-leb, ltb-true}
use Rattle.std.proofs.lemmas.List.{length-take}
use Rattle.value_model.specs.declared.limit.Limit.{Limit}
use Rattle.value_model.specs.Limits.{state_limit}
use Rattle.value_model.specs.Plain.{Plain}
use Rattle.value_model.specs.Search.{left_true, right_true}
use Rattle.values.specs.declared.patch.Patch.{Patch}
use Rattle.values.specs.declared.patch.Pair.{Pair}
use Rattle.patch_meaning.specs.Applying.{Fault, applied}
use Rattle.value_bytes_spec.specs.Reading.{◌>>=◌}
use Rattle.value_bytes_spec.proofs.Fields.{bind_some, passed, passed_then, some_is}
use Rattle.value_measures.specs.Same.{is_same}
use Rattle.value_measures.proofs.Exact.{same_is, is_same-refl}
use Rattle.journal_bytes.specs.declared.change.Change.{Change}
use Rattle.journal_bytes.specs.declared.change.Change.TheVariants.{Made, Undone, Redone}
use Rattle.journal_bytes.specs.History.{History, Step, begun, is_name_or_none, is_light, accepted, led, is_value, leads_to, list_of, stepped, with_change, undone, redone, done, changed, holds_of, leads_out, is_sound}
use Rattle.journal_bytes.proofs.Fronts.{then}

both_true : (a b : Bool) → a ≡ true → b ≡ true → (a && b) ≡ true
both_true true b h k = k
both_true false b h k = absurd cc

-- no limit is passed
none_is : (o : Option Limit) → is_none o ≡ true → o ≡ None
none_is None e = refl
none_is (Some l) e = absurd cc

abbrev is_ok : {A : Type 0} → A → Result A Fault
is_ok x = Ok x

-- ---- where patches lead

by_accepted : (r : Result Plain Fault) (w : Plain) → accepted r ≡ Some w → (r ≡ Ok w) × (state_limit w ≡ None)
by_accepted (Err f) w e = absurd cc
by_accepted (Ok v) w e =
    let p = passed (is_none (state_limit v)) v w e in
    (ap is_ok p.1, subst (λ (x : Plain). state_limit x ≡ None) p.1 (none_is (state_limit v) p.0))

pub led_ok : (ps : List Patch) (v w : Plain) → led ps v ≡ Some w → (applied ps v ≡ Ok w) × (state_limit w ≡ None)
unfolding led
led_ok ps v w e = by_accepted (applied ps v) w e

pub led_again : (ps : List Patch) (v w : Plain) → applied ps v ≡ Ok w → state_limit w ≡ None → led ps v ≡ Some w
unfolding led
led_again ps v w e limit = ap accepted e ∙ ap (λ (o : Option Limit). cond (is_none o) (Some w) None) limit

by_value : (r : Result Plain Fault) (w : Plain) → is_value w r ≡ true → r ≡ Ok w
by_value (Err f) w e = absurd cc
by_value (Ok v) w e = ap is_ok (sym (same_is w v e))

pub leads_ok : (ps : List Patch) (v w : Plain) → leads_to ps v w ≡ true → applied ps v ≡ Ok w
unfolding leads_to
leads_ok ps v w e = by_value (applied ps v) w e

pub leads_again : (ps : List Patch) (v w : Plain) → applied ps v ≡ Ok w → leads_to ps v w ≡ true
unfolding leads_to
leads_again ps v w e = ap (is_value w) e ∙ is_same-refl w

-- ---- an entry

-- an entry leads from one state to another, and back
pub record IsStep (back : Bool) (e : Step) (v w : Plain) : Type 0 where
  pub there : applied (list_of back e) v ≡ Ok w
  pub limit : state_limit w ≡ None
  pub again : applied (list_of (not back) e) w ≡ Ok v
  pub light : is_light e.pair ≡ true
  pub named : is_name_or_none e.by ≡ true

pub step_of : (back : Bool) (e : Step) (v w : Plain) → stepped back e v ≡ Some w → IsStep back e v w
unfolding stepped
step_of back e v w h =
    let test : Plain → Bool = λ w. leads_to (list_of (not back) e) w v && is_light e.pair && is_name_or_none e.by in
    let a = bind_some (led (list_of back e) v) (λ w. cond (test w) (Some w) None) w h in
    let p = passed (test a.0) a.0 w a.2 in
    let l = led_ok (list_of back e) v a.0 a.1 in
    let front = left_true (leads_to (list_of (not back) e) a.0 v && is_light e.pair) (is_name_or_none e.by) p.0 in
    subst (IsStep back e v) p.1
    (record {
      there = l.0;
      limit = l.1;
      again = leads_ok (list_of (not back) e) a.0 v (left_true (leads_to (list_of (not back) e) a.0 v) (is_light e.pair) front);
      light = right_true (leads_to (list_of (not back) e) a.0 v) (is_light e.pair) front;
      named = right_true (leads_to (list_of (not back) e) a.0 v && is_light e.pair) (is_name_or_none e.by) p.0;
    })

pub of_step : (back : Bool) (e : Step) (v w : Plain) → IsStep back e v w → stepped back e v ≡ Some w
unfolding stepped
of_step back e v w s =
    let test : Plain → Bool = λ w. leads_to (list_of (not back) e) w v && is_light e.pair && is_name_or_none e.by in
    then (led (list_of back e) v) (λ w. cond (test w) (Some w) None) w (led_again (list_of back e) v w s.there s.limit)
    ∙ ap (λ (b : Bool). cond b (Some w) None)
    (both_true (leads_to (list_of (not back) e) w v && is_light e.pair) (is_name_or_none e.by) (both_true (leads_to (list_of (not back) e) w v) (is_light e.pair) (leads_again (list_of (not back) e) w v s.again) s.light) s.named)

-- the other way
turned : (back : Bool) (e : Step) (v w : Plain) → IsStep back e v w → state_limit v ≡ None → IsStep (not back) e w v
turned true e v w s limit = record { there = s.again; limit = limit; again = s.there; light = s.light; named = s.named }
turned false e v w s limit = record { there = s.again; limit = limit; again = s.there; light = s.light; named = s.named }

-- ---- entries that lead outward

by_first : (test : Plain → Bool) (o : Option Plain) → holds_of test o ≡ true → (w : Plain) × (o ≡ Some w) × (test w ≡ true)
by_first test None h = absurd cc
by_first test (Some w) h = (w, refl, h)

pub first_out : (back : Bool) (e : Step) (es : List Step) (v : Plain) → leads_out back (e ∷ es) v ≡ true → (w : Plain) × (stepped back e v ≡ Some w) × (leads_out back es w ≡ true)
unfolding leads_out
first_out back e es v h = by_first (leads_out back es) (stepped back e v) h

pub onto_out : (back : Bool) (e : Step) (es : List Step) (v w : Plain) → stepped back e v ≡ Some w → leads_out back es w ≡ true → leads_out back (e ∷ es) v ≡ true
unfolding leads_out
onto_out back e es v w is more = ap (holds_of (leads_out back es)) is ∙ more

none_out : (back : Bool) (v : Plain) → leads_out back [] v ≡ true
unfolding leads_out
none_out back v = refl

front_out : (back : Bool) (n : ℕ) (es : List Step) (v : Plain) → leads_out back es v ≡ true → leads_out back (take n es) v ≡ true
front_out back zero es v h = none_out back v
front_out back (suc n) [] v h = h
front_out back (suc n) (e ∷ es) v h =
    let f = first_out back e es v h in
    onto_out back e (take n es) v f.0 f.1 (front_out back n es f.0 f.2)

-- ---- histories

pub record IsSound (h : History) : Type 0 where
  pub limit : state_limit h.state ≡ None
  pub seq : h.seq ≤ 2 ^ 36
  pub few : length h.past + length h.future ≤ 100
  pub past : leads_out true h.past h.state ≡ true
  pub future : leads_out false h.future h.state ≡ true

pub sound_of : (h : History) → is_sound h ≡ true → IsSound h
unfolding is_sound
sound_of h e =
    let a = left_true _ _ e in
    let b = left_true _ _ a in
    let c = left_true _ _ b in
    record {
      limit = none_is (state_limit h.state) (left_true _ _ c);
      seq = leb-true _ _ (right_true (is_none (state_limit h.state)) (nat_le h.seq (2 ^ 36)) c);
      few = leb-true _ _ (right_true _ _ b);
      past = right_true _ _ a;
      future = right_true _ _ e;
    }

pub of_sound : (h : History) → IsSound h → is_sound h ≡ true
unfolding is_sound
of_sound h s =
    both_true _ _ (both_true _ _ (both_true _ _ (both_true (is_none (state_limit h.state)) (nat_le h.seq (2 ^ 36)) (ap is_none s.limit) (le-leb h.seq (2 ^ 36) s.seq)) (le-leb _ _ s.few)) s.past) s.future

pub sound_begun : (v : Plain) → state_limit v ≡ None → is_sound (begun v) ≡ true
sound_begun v limit = of_sound (begun v) (record { limit = limit; seq = omega arith; few = omega arith; past = none_out true v; future = none_out false v })

made_sound : (e : Step) (h k : History) → IsSound h → h.seq < 2 ^ 36 → (stepped false e h.state >>= λ v. Some (with_change e h v)) ≡ Some k → is_sound k ≡ true
made_sound e h k s lt is =
    let a = bind_some (stepped false e h.state) (λ v. Some (with_change e h v)) k is in
    let t = step_of false e h.state a.0 a.1 in
    let out = onto_out true e h.past a.0 h.state (of_step true e a.0 h.state (turned false e h.state a.0 t s.limit)) s.past in
    subst (λ (x : History). is_sound x ≡ true) (some_is (with_change e h a.0) k a.2)
    (of_sound (with_change e h a.0) (record {
      limit = t.limit;
      seq = omega (arith, lt);
      few = omega (arith, length-take 100 (e ∷ h.past));
      past = front_out true 100 (e ∷ h.past) a.0 out;
      future = none_out false a.0;
    }))

-- an entry that is moved leads back from the state behind it
moved : (back : Bool) (e : Step) (es : List Step) (v w : Plain) → state_limit v ≡ None → leads_out back (e ∷ es) v ≡ true → led (list_of back e) v ≡ Some w → (leads_out back es w ≡ true) × (stepped (not back) e w ≡ Some v) × (state_limit w ≡ None)
moved back e es v w limit out is =
    let f = first_out back e es v out in
    let t = step_of back e v f.0 f.1 in
    let l = led_ok (list_of back e) v w is in
    let same : f.0 ≡ w = let both : is_ok f.0 ≡ is_ok w = sym t.there ∙ l.0 in cc in
    subst (λ (x : Plain). (leads_out back es x ≡ true) × (stepped (not back) e x ≡ Some v) × (state_limit x ≡ None)) same (f.2, of_step (not back) e f.0 v (turned back e v f.0 t limit), t.limit)

undone_sound : (h k : History) (past : List Step) → IsSound h → h.seq < 2 ^ 36 → h.past ≡ past → undone past h ≡ Some k → is_sound k ≡ true
undone_sound h k [] s lt of_h is = absurd cc
undone_sound h k (e ∷ past) s lt of_h is =
    let there : Plain → History = λ v. record { state = v; past = past; future = e ∷ h.future; seq = h.seq + 1 } in
    let a = bind_some (led e.pair.inverse h.state) (λ v. Some (there v)) k is in
    let m = moved true e past h.state a.0 s.limit (subst (λ (es : List Step). leads_out true es h.state ≡ true) of_h s.past) a.1 in
    subst (λ (x : History). is_sound x ≡ true) (some_is (there a.0) k a.2)
    (of_sound (there a.0) (record { limit = m.2; seq = omega (arith, lt); few = omega (arith, s.few, ap length of_h); past = m.0; future = onto_out false e h.future a.0 h.state m.1 s.future }))

redone_sound : (h k : History) (future : List Step) → IsSound h → h.seq < 2 ^ 36 → h.future ≡ future → redone future h ≡ Some k → is_sound k ≡ true
redone_sound h k [] s lt of_h is = absurd cc
redone_sound h k (e ∷ future) s lt of_h is =
    let there : Plain → History = λ v. record { state = v; past = e ∷ h.past; future = future; seq = h.seq + 1 } in
    let a = bind_some (led e.pair.forward h.state) (λ v. Some (there v)) k is in
    let m = moved false e future h.state a.0 s.limit (subst (λ (es : List Step). leads_out false es h.state ≡ true) of_h s.future) a.1 in
    subst (λ (x : History). is_sound x ≡ true) (some_is (there a.0) k a.2)
    (of_sound (there a.0) (record { limit = m.2; seq = omega (arith, lt); few = omega (arith, s.few, ap length of_h); past = onto_out true e h.past a.0 h.state m.1 s.past; future = m.0 }))

by_change : (c : Change) (h k : History) → IsSound h → h.seq < 2 ^ 36 → done c h ≡ Some k → is_sound k ≡ true
by_change (Made pair by) h k s lt is = made_sound (record { pair = pair; by = by }) h k s lt is
by_change Undone h k s lt is = undone_sound h k h.past s lt refl is
by_change Redone h k s lt is = redone_sound h k h.future s lt refl is

pub sound_changed : (c : Change) (h k : History) → is_sound h ≡ true → changed c h ≡ Some k → is_sound k ≡ true
unfolding changed
sound_changed c h k sound is =
    let p = passed_then (nat_lt h.seq (2 ^ 36)) (done c h) k is in
    by_change c h k (sound_of h sound) (ltb-true h.seq (2 ^ 36) p.0) p.1

-- ---- the sequence number

by_seq : (c : Change) (h k : History) → done c h ≡ Some k → k.seq ≡ h.seq + 1
by_seq (Made pair by) h k is =
    let e : Step = record { pair = pair; by = by } in
    let a = bind_some (stepped false e h.state) (λ v. Some (with_change e h v)) k is in
    ap (λ (x : History). x.seq) (sym (some_is (with_change e h a.0) k a.2))
by_seq Undone h k is = by_undone h.past h k is
  where
    by_undone : (past : List Step) (h k : History) → undone past h ≡ Some k → k.seq ≡ h.seq + 1
    by_undone [] h k is = absurd cc
    by_undone (e ∷ past) h k is =
        let there : Plain → History = λ v. record { state = v; past = past; future = e ∷ h.future; seq = h.seq + 1 } in
        let a = bind_some (led e.pair.inverse h.state) (λ v. Some (there v)) k is in
        ap (λ (x : History). x.seq) (sym (some_is (there a.0) k a.2))
by_seq Redone h k is = by_redone h.future h k is
  where
    by_redone : (future : List Step) (h k : History) → redone future h ≡ Some k → k.seq ≡ h.seq + 1
    by_redone [] h k is = absurd cc
    by_redone (e ∷ future) h k is =
        let there : Plain → History = λ v. record { state = v; past = e ∷ h.past; future = future; seq = h.seq + 1 } in
        let a = bind_some (led e.pair.forward h.state) (λ v. Some (there v)) k is in
        ap (λ (x : History). x.seq) (sym (some_is (there a.0) k a.2))

-- each change adds 1
pub seq_changed : (c : Change) (h k : History) → changed c h ≡ Some k → (k.seq ≡ h.seq + 1) × (h.seq < 2 ^ 36)
unfolding changed
seq_changed c h k is =
    let p = passed_then (nat_lt h.seq (2 ^ 36)) (done c h) k is in
    (by_seq c h k p.1, ltb-true h.seq (2 ^ 36) p.0)
