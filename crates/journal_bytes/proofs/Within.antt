-- What a made file gives is a sound history, at a place within its bounds.
use Rattle.std.proofs.Common.{◌≡◌, ℕ, zero, suc, ◌+◌, ◌-◌, ◌*◌, ◌<◌, ◌≤◌, ◌^◌, ◌==◌, Bool, true, false, cond, List, [], ◌∷◌, ◌++◌, length, take, drop, Option, Some, None, refl, sym, ap, subst, ◌∙◌, arith, ◌⊎◌, inl, inr, ⊎_elim, get_or}
use Rattle.std.specs.Prelude.{IsTrue, ◌&&◌, nat_lt}
use Rattle.std.specs.Int.{w32, w64, to_be_bytes, from_be_bytes, byte_len}
use Rattle.std.specs.List.{AllByRecursion}
use Rattle.std.specs.Option.{is_none}
use Rattle.std.proofs.lemmas.Bool.{cases_lt, leb-true, eqb-true}
use Rattle.std.proofs.lemmas.List.{length-append, length-drop, length-take, get_or-drop, get_or-take, get_or_past}
use Rattle.value_model.specs.Limits.{state_limit, value_limit}
use Rattle.value_model.specs.Plain.{Plain}
use Rattle.value_model.specs.Search.{left_true, right_true}
use Rattle.values.specs.declared.patch.Pair.{Pair}
use Rattle.value_bytes_spec.specs.Numbers.{IsBytes}
use Rattle.value_bytes_spec.specs.Reading.{◌>>=◌, number_at, value_at, pair_at}
use Rattle.value_bytes_spec.specs.Spelling.{value_bytes, pair_bytes}
use Rattle.value_bytes_spec.proofs.Fields.{bind_some, passed, passed_then, not_refused, some_is, IsBytes-rest}
use Rattle.value_bytes_spec.proofs.Lists.{pair_takes}
use Rattle.value_bytes_spec.proofs.Values.{value_takes}
use Rattle.journal_bytes.specs.declared.change.Change.{Change}
use Rattle.journal_bytes.specs.declared.change.Change.TheVariants.{Made, Undone, Redone}
use Rattle.journal_bytes.specs.declared.change.Format.{Format}
use Rattle.journal_bytes.specs.declared.change.Format.TheVariants.{One, Two}
use Rattle.journal_bytes.specs.declared.slots.Slots.{Slots}
use Rattle.journal_bytes.specs.History.{History, Step, begun, is_name, is_light, stepped, with_change, changed, done, leads_out, is_sound}
use Rattle.journal_bytes.specs.Records.{front_at, sized_at, record_at, whole, name_or_none, name_at, step_at, made_of, bare, change_of}
use Rattle.journal_bytes.specs.Areas.{format_of, state_at, kept_at, entries_onto, counted_at, sound_if, history_at, area_at}
use Rattle.journal_bytes.specs.Slots.{Slot}
use Rattle.journal_bytes.specs.Files.{Place, Spot, Reading, made, placed, behind, header_spot, area_spot, CanStart, begins, IsWithin, IsReached, slots_of, next_place, is_slots, next, chain, records_at, state_if, first_place, header_at, reading}
use Rattle.journal_bytes.proofs.Fronts.{TakesFront, takes_number, takes_sized, takes_record, takes_area}
use Rattle.journal_bytes.proofs.Nexts.{Records, Jumps, Lands, next_cases, lands, far_area, whole_some}
use Rattle.journal_bytes.proofs.Chains.{walk, HasHeader, has_header}
use Rattle.journal_bytes.proofs.Sizes.{pair_size, name_short, state_size}
use Rattle.journal_bytes.proofs.Sound.{IsSound, sound_of, step_of, first_out, sound_begun, sound_changed, seq_changed}

-- ---- parts of bytes are bytes

pub bytes_drop : (n : ℕ) (bytes : List ℕ) → IsBytes bytes → IsBytes (drop n bytes)
bytes_drop n bytes h i = rw get_or-drop (h (n + i))

pub bytes_take : (n : ℕ) (bytes : List ℕ) → IsBytes bytes → IsBytes (take n bytes)
bytes_take n bytes h i =
    elim (cases_lt i n) [
      | inl lt ↦ rw (get_or-take n bytes i 0 lt) (h i)
      | inr le ↦ rw (get_or_past (take n bytes) i 0 (omega (arith, length-take n bytes))) (omega arith)
    ]

sized_bytes : (bytes body rest : List ℕ) → IsBytes bytes → sized_at bytes ≡ Some (body, rest) → IsBytes body × IsBytes rest
unfolding sized_at front_at
sized_bytes bytes body rest fits e =
    let a = bind_some (number_at w32 bytes) (λ n. front_at n.0 n.1) (body, rest) e in
    let g = not_refused (nat_lt (length bytes) 4) (Some (from_be_bytes w32 (take 4 bytes), drop 4 bytes)) a.0 a.1 in
    let left : drop 4 bytes ≡ a.0.1 = ap (λ (x : ℕ × List ℕ). x.1) (some_is (from_be_bytes w32 (take 4 bytes), drop 4 bytes) a.0 g.1) in
    let good : IsBytes a.0.1 = subst IsBytes left (bytes_drop 4 bytes fits) in
    let h = not_refused (nat_lt (length a.0.1) a.0.0) (Some (take a.0.0 a.0.1, drop a.0.0 a.0.1)) (body, rest) a.2 in
    let both = some_is (take a.0.0 a.0.1, drop a.0.0 a.0.1) (body, rest) h.1 in
    (subst IsBytes (ap (λ (x : List ℕ × List ℕ). x.0) both) (bytes_take a.0.0 a.0.1 good), subst IsBytes (ap (λ (x : List ℕ × List ℕ). x.1) both) (bytes_drop a.0.0 a.0.1 good))

-- ---- an entry

short_name : (text : List ℕ) (by : Option (List ℕ)) → name_or_none text ≡ Some by → length text ≤ 2 ^ 20
short_name [] by e = omega arith
short_name (b ∷ rest) by e = name_short (b ∷ rest) (passed (is_name (b ∷ rest)) (Some (b ∷ rest)) by e).0

name_part : (format : Format) (bytes : List ℕ) (by : Option (List ℕ)) (rest : List ℕ) → IsBytes bytes → name_at format bytes ≡ Some (by, rest) → IsBytes rest × (length bytes ≤ 4 + 2 ^ 20 + length rest)
unfolding name_at
name_part One bytes by rest fits e =
    let there : Option (List ℕ) × List ℕ = (None, bytes) in
    let rest_is : bytes ≡ rest = ap (λ (x : Option (List ℕ) × List ℕ). x.1) (some_is there (by, rest) e) in
    (subst IsBytes rest_is fits, omega (arith, ap length rest_is))
name_part Two bytes by rest fits e =
    let a = bind_some (sized_at bytes) (λ text. name_or_none text.0 >>= λ by. Some (by, text.1)) (by, rest) e in
    let b = bind_some (name_or_none a.0.0) (λ by. Some (by, a.0.1)) (by, rest) a.2 in
    let rest_is : a.0.1 ≡ rest = ap (λ (x : Option (List ℕ) × List ℕ). x.1) (some_is (b.0, a.0.1) (by, rest) b.2) in
    let size = (takes_sized bytes a.0.0 a.0.1 a.1).1 in
    (subst IsBytes rest_is (sized_bytes bytes a.0.0 a.0.1 fits a.1).1, omega (arith, ap length rest_is, size, short_name a.0.0 b.0 b.1))

-- the bytes of an entry that is within its limit are fewer than 38,999,990
pub short_step : (format : Format) (bytes : List ℕ) (e : Step) → IsBytes bytes → whole (step_at format bytes) ≡ Some e → IsTrue (is_light e.pair) → length bytes < 38999990
unfolding step_at
short_step format bytes e fits is light =
    let made : Option (List ℕ) × List ℕ → Pair × List ℕ → Option (Step × List ℕ) = λ by pair. Some (record { pair = pair.0; by = by.0 }, pair.1) in
    let w = whole_some (step_at format bytes) e is in
    let a = bind_some (name_at format bytes) (λ by. pair_at by.1 >>= made by) (e, []) w in
    let b = bind_some (pair_at a.0.1) (made a.0) (e, []) a.2 in
    let there : Step × List ℕ = (record { pair = b.0.0; by = a.0.0 }, b.0.1) in
    let both = some_is there (e, []) b.2 in
    let n = name_part format bytes a.0.0 a.0.1 fits a.1 in
    let p = pair_takes a.0.1 b.0.0 b.0.1 n.0 b.1 in
    let light_pair : IsTrue (is_light b.0.0) = subst (λ (x : Step × List ℕ). IsTrue (is_light x.0.pair)) (sym both) light in
    omega (arith, n.1, ap length p.0.parts, length-append (pair_bytes b.0.0) b.0.1, ap length (ap (λ (x : Step × List ℕ). x.1) both), pair_size b.0.0 light_pair)

-- ---- a record

light_made : (pair : Pair) (by : Option (List ℕ)) (h k : History) → changed (Made pair by) h ≡ Some k → IsTrue (is_light pair)
unfolding changed
light_made pair by h k e =
    let s : Step = record { pair = pair; by = by } in
    let p = passed_then (nat_lt h.seq (2 ^ 36)) (done (Made pair by) h) k e in
    let a = bind_some (stepped false s h.state) (λ v. Some (with_change s h v)) k p.1 in
    (step_of false s h.state a.0 a.1).light

no_bytes : (change : Change) (body : List ℕ) (c : Change) → bare change body ≡ Some c → length body ≡ 0
no_bytes change [] c e = refl
no_bytes change (b ∷ rest) c e = absurd cc

by_three : (b : Bool) (body : List ℕ) (c : Change) → cond b (bare Redone body) None ≡ Some c → length body < 38999990
by_three b body c e = omega (arith, no_bytes Redone body c (passed_then b (bare Redone body) c e).1)

by_two : (b three : Bool) (body : List ℕ) (c : Change) → cond b (bare Undone body) (cond three (bare Redone body) None) ≡ Some c → length body < 38999990
by_two true three body c e = omega (arith, no_bytes Undone body c e)
by_two false three body c e = by_three three body c e

by_one : (format : Format) (b two three : Bool) (body : List ℕ) (c : Change) (h k : History) → IsBytes body → cond b (made_of format body) (cond two (bare Undone body) (cond three (bare Redone body) None)) ≡ Some c → changed c h ≡ Some k → length body < 38999990
by_one format true two three body c h k fits e is =
    let change : Step → Option Change = λ e. Some (Made e.pair e.by) in
    let a = bind_some (whole (step_at format body)) change c e in
    let made_is : Made a.0.pair a.0.by ≡ c = some_is (Made a.0.pair a.0.by) c a.2 in
    short_step format body a.0 fits a.1 (light_made a.0.pair a.0.by h k (ap (λ (x : Change). changed x h) made_is ∙ is))
by_one format false two three body c h k fits e is = by_two two three body c e

-- the bytes of a record that is allowed are fewer than 38,999,990
pub short_record : (format : Format) (kind : ℕ) (body : List ℕ) (c : Change) (h k : History) → IsBytes body → change_of format kind body ≡ Some c → changed c h ≡ Some k → length body < 38999990
unfolding change_of
short_record format kind body c h k fits e is = by_one format (kind == 1) (kind == 2) (kind == 3) body c h k fits e is

-- ---- an area

abbrev pub Light : Step → Type 0
Light e = IsTrue (is_light e.pair)

light_out : (back : Bool) (es : List Step) (v : Plain) → leads_out back es v ≡ true → AllByRecursion Light es
light_out back [] v h = tt
light_out back (e ∷ es) v h = let f = first_out back e es v h in ((step_of back e v f.0 f.1).light, light_out back es f.0 f.2)

-- what holds of all entries held of those before
onto_all : (format : Format) (n : ℕ) (es : List Step) (bytes : List ℕ) (all : List Step) (rest : List ℕ) → entries_onto format n es bytes ≡ Some (all, rest) → AllByRecursion Light all → AllByRecursion Light es
unfolding entries_onto
onto_all format zero es bytes all rest e light =
    let there : List Step × List ℕ = (es, bytes) in
    subst (AllByRecursion Light) (ap (λ (x : List Step × List ℕ). x.0) (sym (some_is there (all, rest) e))) light
onto_all format (suc n) es bytes all rest e light =
    let a = bind_some (kept_at format bytes) (λ s. entries_onto format n (s.0 ∷ es) s.1) (all, rest) e in
    (onto_all format n (a.0.0 ∷ es) a.0.1 all rest a.2 light).1

kept_size : (format : Format) (bytes : List ℕ) (s : Step) (rest : List ℕ) → IsBytes bytes → kept_at format bytes ≡ Some (s, rest) → Light s → IsBytes rest × (length bytes ≤ 38999994 + length rest)
unfolding kept_at
kept_size format bytes s rest fits e light =
    let a = bind_some (sized_at bytes) (λ body. whole (step_at format body.0) >>= λ s. Some (s, body.1)) (s, rest) e in
    let b = bind_some (whole (step_at format a.0.0)) (λ s. Some (s, a.0.1)) (s, rest) a.2 in
    let both = some_is (b.0, a.0.1) (s, rest) b.2 in
    let good = sized_bytes bytes a.0.0 a.0.1 fits a.1 in
    let light_one : Light b.0 = subst Light (sym (ap (λ (x : Step × List ℕ). x.0) both)) light in
    let rest_is : a.0.1 ≡ rest = ap (λ (x : Step × List ℕ). x.1) both in
    (subst IsBytes rest_is good.1, omega (arith, (takes_sized bytes a.0.0 a.0.1 a.1).1, short_step format a.0.0 b.0 good.0 b.1 light_one, ap length rest_is))

onto_size : (format : Format) (n : ℕ) (es : List Step) (bytes : List ℕ) (all : List Step) (rest : List ℕ) → IsBytes bytes → entries_onto format n es bytes ≡ Some (all, rest) → AllByRecursion Light all
    → IsBytes rest × (length bytes ≤ 38999994 * n + length rest) × (length all ≡ n + length es)
unfolding entries_onto
onto_size format zero es bytes all rest fits e light =
    let there : List Step × List ℕ = (es, bytes) in
    let both = some_is there (all, rest) e in
    let rest_is : bytes ≡ rest = ap (λ (x : List Step × List ℕ). x.1) both in
    (subst IsBytes rest_is fits, omega (arith, ap length rest_is), omega (arith, ap length (ap (λ (x : List Step × List ℕ). x.0) both)))
onto_size format (suc n) es bytes all rest fits e light =
    let a = bind_some (kept_at format bytes) (λ s. entries_onto format n (s.0 ∷ es) s.1) (all, rest) e in
    let one = kept_size format bytes a.0.0 a.0.1 fits a.1 (onto_all format n (a.0.0 ∷ es) a.0.1 all rest a.2 light).0 in
    let more = onto_size format n (a.0.0 ∷ es) a.0.1 all rest one.0 a.2 light in
    (more.0, omega (arith, one.1, more.1), omega (arith, more.2))

number_bytes : (bytes : List ℕ) (n : ℕ) (rest : List ℕ) → IsBytes bytes → number_at w32 bytes ≡ Some (n, rest) → IsBytes rest
number_bytes bytes n rest fits e =
    let g = not_refused (nat_lt (length bytes) 4) (Some (from_be_bytes w32 (take 4 bytes), drop 4 bytes)) (n, rest) e in
    subst IsBytes (ap (λ (x : ℕ × List ℕ). x.1) (some_is (from_be_bytes w32 (take 4 bytes), drop 4 bytes) (n, rest) g.1)) (bytes_drop 4 bytes fits)

wide_bytes : (bytes : List ℕ) (n : ℕ) (rest : List ℕ) → IsBytes bytes → number_at w64 bytes ≡ Some (n, rest) → IsBytes rest
wide_bytes bytes n rest fits e =
    let g = not_refused (nat_lt (length bytes) 8) (Some (from_be_bytes w64 (take 8 bytes), drop 8 bytes)) (n, rest) e in
    subst IsBytes (ap (λ (x : ℕ × List ℕ). x.1) (some_is (from_be_bytes w64 (take 8 bytes), drop 8 bytes) (n, rest) g.1)) (bytes_drop 8 bytes fits)

counted_size : (format : Format) (bytes : List ℕ) (es : List Step) (rest : List ℕ) → IsBytes bytes → counted_at format bytes ≡ Some (es, rest) → AllByRecursion Light es → IsBytes rest × (length bytes ≤ 4 + 38999994 * length es + length rest)
unfolding counted_at
counted_size format bytes es rest fits e light =
    let a = bind_some (number_at w32 bytes) (λ n. entries_onto format n.0 [] n.1) (es, rest) e in
    let o = onto_size format a.0.0 [] a.0.1 es rest (number_bytes bytes a.0.0 a.0.1 fits a.1) a.2 light in
    let n_is : a.0.0 ≡ length es = omega (arith, o.2) in
    (o.0, omega (arith, (takes_number w32 bytes a.0.0 a.0.1 a.1).1, o.1, n_is))

-- a state behind its length
state_part : (bytes : List ℕ) (v : Plain) (rest : List ℕ) → IsBytes bytes → state_at bytes ≡ Some (v, rest) → IsBytes rest × (length bytes ≤ 9437188 + length rest)
unfolding state_at
state_part bytes v rest fits e =
    let a = bind_some (sized_at bytes) (λ body. whole (value_at body.0) >>= λ v. Some (v, body.1)) (v, rest) e in
    let b = bind_some (whole (value_at a.0.0)) (λ v. Some (v, a.0.1)) (v, rest) a.2 in
    let rest_is : a.0.1 ≡ rest = ap (λ (x : Plain × List ℕ). x.1) (some_is (b.0, a.0.1) (v, rest) b.2) in
    let good = sized_bytes bytes a.0.0 a.0.1 fits a.1 in
    let t = value_takes a.0.0 b.0 [] good.0 (whole_some (value_at a.0.0) b.0 b.1) in
    (subst IsBytes rest_is good.1, omega (arith, (takes_sized bytes a.0.0 a.0.1 a.1).1, ap length rest_is, ap length t.0.parts, length-append (value_bytes b.0) [], state_size b.0 t.1.accepted))

by_sound : (h k : History) → sound_if h ≡ Some k → (is_sound h ≡ true) × (h ≡ k)
by_sound h k e = passed (is_sound h) h k e

history_size : (format : Format) (bytes : List ℕ) (h : History) (rest : List ℕ) → IsBytes bytes → history_at format bytes ≡ Some (h, rest) → (is_sound h ≡ true) × (length bytes + 2 ≤ 2 ^ 32 + length rest)
unfolding history_at
history_size format bytes h rest fits e =
    let last : Plain → ℕ → List Step → List Step → Option History = λ v q p f. sound_if (record { state = v; past = p; future = f; seq = q }) in
    let three : Plain → ℕ → List Step → List ℕ → Option (History × List ℕ) = λ v q p bs. counted_at format bs >>= λ f. last v q p f.0 >>= λ h. Some (h, f.1) in
    let two : Plain → ℕ → List ℕ → Option (History × List ℕ) = λ v q bs. counted_at format bs >>= λ p. three v q p.0 p.1 in
    let one : Plain → List ℕ → Option (History × List ℕ) = λ v bs. number_at w64 bs >>= λ q. two v q.0 q.1 in
    let a = bind_some (state_at bytes) (λ v. one v.0 v.1) (h, rest) e in
    let b = bind_some (number_at w64 a.0.1) (λ q. two a.0.0 q.0 q.1) (h, rest) a.2 in
    let c = bind_some (counted_at format b.0.1) (λ p. three a.0.0 b.0.0 p.0 p.1) (h, rest) b.2 in
    let d = bind_some (counted_at format c.0.1) (λ f. last a.0.0 b.0.0 c.0.0 f.0 >>= λ h. Some (h, f.1)) (h, rest) c.2 in
    let l = bind_some (last a.0.0 b.0.0 c.0.0 d.0.0) (λ h. Some (h, d.0.1)) (h, rest) d.2 in
    let there : History × List ℕ = (l.0, d.0.1) in
    let both = some_is there (h, rest) l.2 in
    let kept : History = record { state = a.0.0; past = c.0.0; future = d.0.0; seq = b.0.0 } in
    let s = by_sound kept l.0 l.1 in
    let sound = sound_of kept s.0 in
    let first = state_part bytes a.0.0 a.0.1 fits a.1 in
    let past = counted_size format b.0.1 c.0.0 c.0.1 (wide_bytes a.0.1 b.0.0 b.0.1 first.0 b.1) c.1 (light_out true c.0.0 a.0.0 sound.past) in
    let future = counted_size format c.0.1 d.0.0 d.0.1 past.0 d.1 (light_out false d.0.0 a.0.0 sound.future) in (
      subst (λ (x : History). is_sound x ≡ true) (s.1 ∙ ap (λ (x : History × List ℕ). x.0) both) s.0,
      omega (arith, first.1, (takes_number w64 a.0.1 b.0.0 b.0.1 b.1).1, past.1, future.1, sound.few, ap length (ap (λ (x : History × List ℕ). x.1) both)),
    )

pub area_part : (bytes : List ℕ) (x : Format × History) (rest : List ℕ) → IsBytes bytes → area_at bytes ≡ Some (x, rest) → (is_sound x.1 ≡ true) × (length bytes + 1 ≤ 2 ^ 32 + length rest)
unfolding area_at
area_part [] x rest fits e = absurd cc
area_part (b ∷ bytes) x rest fits e =
    let named : Format → History × List ℕ → Option ((Format × History) × List ℕ) = λ f k. Some ((f, k.0), k.1) in
    let of_format : Format → Option ((Format × History) × List ℕ) = λ f. history_at f bytes >>= named f in
    let a = bind_some (format_of b) of_format (x, rest) e in
    let h = bind_some (history_at a.0 bytes) (named a.0) (x, rest) a.2 in
    let there : (Format × History) × List ℕ = ((a.0, h.0.0), h.0.1) in
    let both = some_is there (x, rest) h.2 in
    let k = history_size a.0 bytes h.0.0 h.0.1 (IsBytes-rest b bytes fits) h.1 in
    (subst (λ (y : (Format × History) × List ℕ). is_sound y.0.1 ≡ true) both k.0, omega (arith, k.1, ap length (ap (λ (y : (Format × History) × List ℕ). y.1) both)))

-- ---- a place

record_bytes_of : (bytes : List ℕ) (kind : ℕ) (body rest : List ℕ) → IsBytes bytes → record_at bytes ≡ Some ((kind, body), rest) → IsBytes body
unfolding record_at
record_bytes_of [] kind body rest fits e = absurd cc
record_bytes_of (k ∷ bytes) kind body rest fits e =
    let a = bind_some (sized_at bytes) (λ x. Some ((k, x.0), x.1)) ((kind, body), rest) e in
    let there : (ℕ × List ℕ) × List ℕ = ((k, a.0.0), a.0.1) in
    subst IsBytes (ap (λ (x : (ℕ × List ℕ) × List ℕ). x.0.1) (some_is there ((kind, body), rest) a.2)) (sized_bytes bytes a.0.0 a.0.1 (IsBytes-rest k bytes fits) a.1).0

-- a change that is allowed
pub reached_change : (p : Place) (kind : ℕ) (body : List ℕ) (c : Change) (k : History) → IsBytes body → IsReached p → change_of p.spot.format kind body ≡ Some c → changed c p.history ≡ Some k → IsReached (placed (behind p.spot (6 + length body)) k)
reached_change p kind body c k fits r of_body is =
    let s = seq_changed c p.history k is in
    let short = short_record p.spot.format kind body c p.history k fits of_body is in
    record {
      sound = sound_changed c p.history k r.sound is;
      counted = omega (arith, s.0, r.counted);
      within = record { few = omega (arith, s.0, s.1, r.counted); near = omega (arith, r.within.near); far = omega (arith, r.within.far, short); begins = r.within.begins };
    }

reached_record : (file : List ℕ) (may : Bool) (p q : Place) → IsBytes file → IsReached p → Records file may p q → IsReached q
reached_record file may p q fits r e =
    let made : History → Option Place = λ h. Some (placed (behind p.spot (6 + length e.body)) h) in
    let a = bind_some (change_of p.spot.format e.kind e.body) (λ change. changed change p.history >>= made) q e.leads in
    let b = bind_some (changed a.0 p.history) made q a.2 in
    let good = record_bytes_of (drop (p.spot.gate + 1) file) e.kind e.body e.rest (bytes_drop (p.spot.gate + 1) file fits) e.read in
    subst IsReached (some_is (placed (behind p.spot (6 + length e.body)) b.0) q b.2) (reached_change p e.kind e.body a.0 b.0 good r a.1 b.1)

by_none : {A : Type 0} (o : Option A) → is_none o ≡ true → o ≡ None
by_none None e = refl
by_none (Some x) e = absurd cc

reached_jump : (file : List ℕ) (may : Bool) (p q : Place) → IsBytes file → IsReached p → Jumps file may p q → IsReached q
reached_jump file may p q fits r j =
    let at = p.spot.gate + 6 in
    let m = lands file at j.one q j.leads in
    let start = j.one.1.start in
    let a = area_part (drop start file) m.area (m.gate ∷ m.rest) (bytes_drop start file fits) m.read in
    let t = takes_area (drop start file) m.area (m.gate ∷ m.rest) m.read in
    let none : p.spot.slots ≡ None = by_none p.spot.slots (right_true ((j.kind == 4) && may) (is_none p.spot.slots) j.slots) in
    let low : p.spot.first ≤ 2 ^ 33 = subst (λ (o : Option Slots). begins o p.spot.first) none r.within.begins in
    let n = length (drop start file) - length m.rest in
    let size = ap length t.parts in
    let split = length-append t.front (m.gate ∷ m.rest) in
    let starts : CanStart (slots_of at j.one n m.area.0) = record {
      number = leb-true _ _ m.low;
      at = omega (arith, r.within.far, r.within.few, low);
      behind_slots = leb-true _ _ m.behind_slots;
      start = leb-true _ _ m.below;
      some = omega (arith, size, split);
      bytes = omega (arith, a.1, size, split);
    } in
    subst IsReached (sym m.is)
    (record {
      sound = a.0;
      counted = omega arith;
      within = record { few = omega arith; near = omega arith; far = omega arith; begins = (starts, refl) };
    })

reached_next : (file : List ℕ) (may : Bool) (p q : Place) → IsBytes file → IsReached p → next file may p ≡ Some q → IsReached q
reached_next file may p q fits r e = ⊎_elim (λ (x : Records file may p q). reached_record file may p q fits r x) (λ (x : Jumps file may p q). reached_jump file may p q fits r x) (next_cases file may p q e)

pub reached_chain : (file : List ℕ) (may : Bool) (n : ℕ) (p q : Place) → IsBytes file → chain file may n p ≡ made q → IsReached p → IsReached q
reached_chain file may n p q fits e = walk file may q (λ (p : Place). IsReached p → IsReached q) (λ gate rest is closed r. r) (λ p r bytes opened is more here. more (reached_next file may p r fits here is)) n p e

state_only : (v w : Plain) → state_if v ≡ Some w → (state_limit w ≡ None) × (v ≡ w)
state_only v w e =
    let p = passed (is_none (state_limit v)) v w e in
    (by_none (state_limit w) (ap (λ (x : Plain). is_none (state_limit x)) (sym p.1) ∙ p.0), p.1)

reached_first : (format : Format) (bytes : List ℕ) (p : Place) → IsBytes bytes → first_place format bytes ≡ Some p → IsReached p
reached_first format bytes p fits e =
    let made : Plain → Option Place = λ first. Some (placed (header_spot format (length bytes)) (begun first)) in
    let a = bind_some (whole (value_at bytes)) (λ v. state_if v >>= made) p e in
    let b = bind_some (state_if a.0) made p a.2 in
    let s = state_only a.0 b.0 b.1 in
    let t = value_takes bytes a.0 [] fits (whole_some (value_at bytes) a.0 a.1) in
    let short : length bytes ≤ 9437184 = omega (arith, ap length t.0.parts, length-append (value_bytes a.0) [], state_size a.0 t.1.accepted) in
    subst IsReached (some_is (placed (header_spot format (length bytes)) (begun b.0)) p b.2)
    (record {
      sound = sound_begun b.0 s.0;
      counted = omega arith;
      within = record { few = omega arith; near = omega arith; far = omega arith; begins = omega (arith, short) };
    })

reached_header : (bytes : List ℕ) (p : Place) (rest : List ℕ) → IsBytes bytes → header_at bytes ≡ Some (p, rest) → IsReached p
unfolding header_at
reached_header [] p rest fits e = absurd cc
reached_header (b ∷ bytes) p rest fits e =
    let x = bind_some (format_of b) (λ format. sized_at bytes >>= λ state. first_place format state.0 >>= λ p. Some (p, state.1)) (p, rest) e in
    let y = bind_some (sized_at bytes) (λ state. first_place x.0 state.0 >>= λ p. Some (p, state.1)) (p, rest) x.2 in
    let z = bind_some (first_place x.0 y.0.0) (λ p. Some (p, y.0.1)) (p, rest) y.2 in
    let there : Place × List ℕ = (z.0, y.0.1) in
    subst (λ (k : Place × List ℕ). IsReached k.0) (some_is there (p, rest) z.2) (reached_first x.0 y.0.0 z.0 (sized_bytes bytes y.0.0 y.0.1 (IsBytes-rest b bytes fits) y.1).0 z.1)

-- what a made file gives
pub reached : (may : Bool) (file : List ℕ) (q : Place) → IsBytes file → reading may file ≡ made q → IsReached q
reached may file q fits e =
    let h = has_header may q file e in
    let good : IsBytes h.bytes = IsBytes-rest 1 h.bytes (subst IsBytes h.opened (bytes_drop 8 file fits)) in
    reached_chain file may (suc (length file)) h.first q fits h.chain (reached_header h.bytes h.first h.rest good h.header)
