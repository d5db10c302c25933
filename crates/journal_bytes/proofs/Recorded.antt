-- A header, a record or an area that was written is read again.
use Rattle.std.proofs.Common.{◌≡◌, ℕ, zero, suc, ◌+◌, ◌-◌, ◌<◌, ◌≤◌, ◌^◌, ◌==◌, Bool, true, false, cond, ltb, List, [], ◌∷◌, ◌++◌, length, take, drop, Option, Some, None, refl, sym, ap, subst, ◌∙◌, append_assoc, arith}
use Rattle.std.specs.Prelude.{IsTrue, ◌&&◌}
use Rattle.std.specs.Int.{w32, w64, to_be_bytes}
use Rattle.std.specs.List.{AllByRecursion}
use Rattle.std.specs.Option.{is_none}
use Rattle.std.proofs.lemmas.Bool.{ltb-false, le-ltb, leb-true}
use Rattle.std.proofs.lemmas.List.{take_at, drop_at, length-append, append-nil}
use Rattle.value_model.specs.Limits.{state_limit}
use Rattle.value_model.specs.Plain.{Plain}
use Rattle.value_model.specs.Search.{left_true, right_true}
use Rattle.values.specs.declared.patch.Pair.{Pair}
use Rattle.value_bytes_spec.specs.Reading.{◌>>=◌, number_at, value_at, pair_at}
use Rattle.value_bytes_spec.specs.Spelling.{text_bytes, value_bytes, pair_bytes, IsValue, IsPair}
use Rattle.value_bytes_spec.proofs.Fields.{wide32, wide64, number_again}
use Rattle.value_bytes_spec.proofs.Formats.{value_format, pair_format}
use Rattle.journal_bytes.specs.declared.change.Change.{Change}
use Rattle.journal_bytes.specs.declared.change.Change.TheVariants.{Made, Undone, Redone}
use Rattle.journal_bytes.specs.declared.change.Format.{Format}
use Rattle.journal_bytes.specs.declared.change.Format.TheVariants.{One, Two}
use Rattle.journal_bytes.specs.History.{History, Step, is_name, is_name_or_none, changed, is_sound}
use Rattle.journal_bytes.specs.Records.{format_byte, name_bytes, step_bytes, kind_byte, body_bytes, record_bytes, fits, CanHold, CanRecord, front_at, sized_at, record_at, whole, name_or_none, name_at, step_at, change_of}
use Rattle.journal_bytes.specs.Areas.{entries_bytes, counted_bytes, history_bytes, area_bytes, CanStore, format_of, state_at, kept_at, entries_onto, counted_at, sound_if, history_at, area_at}
use Rattle.journal_bytes.specs.Files.{Place, Spot, placed, behind_change, behind, next_place, is_slots, next}
use Rattle.journal_bytes.proofs.Fronts.{then}
use Rattle.journal_bytes.proofs.Nexts.{next_by_record}

-- ---- a length and that many bytes

front_again : (body more : List ℕ) → front_at (length body) (body ++ more) ≡ Some (body, more)
unfolding front_at
front_again body more =
    rw (le-ltb (length (body ++ more)) (length body) (omega (arith, length-append body more)), take_at body more (length body) refl, drop_at body more (length body) refl) refl

pub sized_again : (body more : List ℕ) → length body < 2 ^ 32 → sized_at (text_bytes body ++ more) ≡ Some (body, more)
unfolding sized_at
sized_again body more short =
    ap (λ (xs : List ℕ). number_at w32 xs >>= λ n. front_at n.0 n.1) (append_assoc (to_be_bytes w32 (length body)) body more)
    ∙ then (number_at w32 (to_be_bytes w32 (length body) ++ (body ++ more))) (λ n. front_at n.0 n.1) (length body, body ++ more) (number_again w32 (2 ^ 32) wide32 (length body) (body ++ more) short)
    ∙ front_again body more

-- ---- an entry

named_again : (name : List ℕ) → IsTrue (is_name name) → name_or_none name ≡ Some (Some name)
unfolding is_name
named_again [] h = absurd cc
named_again (b ∷ rest) h = rw h refl

name_again : (format : Format) (by : Option (List ℕ)) (more : List ℕ) → IsTrue (fits format by) → length (name_bytes format by) < 2 ^ 32 → name_at format (name_bytes format by ++ more) ≡ Some (by, more)
unfolding name_at
name_again One None more h short = refl
name_again One (Some name) more h short = absurd cc
name_again Two None more h short = then (sized_at (text_bytes [] ++ more)) (λ text. name_or_none text.0 >>= λ by. Some (by, text.1)) ([], more) (sized_again [] more (omega arith))
name_again Two (Some name) more h short =
    then (sized_at (text_bytes name ++ more)) (λ text. name_or_none text.0 >>= λ by. Some (by, text.1)) (name, more) (sized_again name more (omega (arith, short, length-append (to_be_bytes w32 (length name)) name)))
    ∙ then (name_or_none name) (λ by. Some (by, more)) (Some name) (named_again name h)

pub step_again : (format : Format) (e : Step) → CanHold format e → step_at format (step_bytes format e) ≡ Some (e, [])
unfolding step_at
step_again format e can =
    then (name_at format (name_bytes format e.by ++ pair_bytes e.pair)) (λ by. pair_at by.1 >>= λ pair. Some (record { pair = pair.0; by = by.0 }, pair.1)) (e.by, pair_bytes e.pair)
    (name_again format e.by (pair_bytes e.pair) can.name (omega (arith, can.short, length-append (name_bytes format e.by) (pair_bytes e.pair))))
    ∙ then (pair_at (pair_bytes e.pair)) (λ pair. Some (record { pair = pair.0; by = e.by }, pair.1)) (e.pair, []) (ap pair_at (sym (append-nil (pair_bytes e.pair))) ∙ pair_format.again e.pair [] can.lists)

-- ---- a record

change_again : (format : Format) (c : Change) → CanRecord format c → change_of format (kind_byte c) (body_bytes format c) ≡ Some c
unfolding change_of
change_again format (Made pair by) can = ap (λ (x : Option (Step × List ℕ)). whole x >>= λ e. Some (Made e.pair e.by)) (step_again format (record { pair = pair; by = by }) can)
change_again format Undone can = refl
change_again format Redone can = refl

pub body_short : (format : Format) (c : Change) → CanRecord format c → length (body_bytes format c) < 38999990
body_short format (Made pair by) can = can.short
body_short format Undone can = omega arith
body_short format Redone can = omega arith

pub record_again : (format : Format) (c : Change) (more : List ℕ) → CanRecord format c → record_at (record_bytes format c ++ more) ≡ Some ((kind_byte c, body_bytes format c), more)
unfolding record_at
record_again format c more can = ap (λ (x : Option (List ℕ × List ℕ)). x >>= λ body. Some ((kind_byte c, body.0), body.1)) (sized_again (body_bytes format c) more (omega (arith, body_short format c can)))

plain_kind : (may : Bool) (p : Place) (c : Change) → is_slots may p (kind_byte c) ≡ false
plain_kind may p (Made pair by) = refl
plain_kind may p Undone = refl
plain_kind may p Redone = refl

-- the record of a change that is allowed leads to the history after it
pub next_again : (file : List ℕ) (may : Bool) (s : Spot) (c : Change) (h k : History) (more : List ℕ) → drop (s.gate + 1) file ≡ record_bytes s.format c ++ more → CanRecord s.format c → changed c h ≡ Some k
    → next file may (placed s h) ≡ Some (placed (behind_change s c) k)
next_again file may s c h k more is can allowed =
    let body = body_bytes s.format c in
    let there : History → Option Place = λ k. Some (placed (behind_change s c) k) in
    next_by_record file may (placed s h) (placed (behind_change s c) k) (kind_byte c) body more (ap record_at is ∙ record_again s.format c more can) (plain_kind may (placed s h) c)
    (then (change_of s.format (kind_byte c) body) (λ change. changed change h >>= there) c (change_again s.format c can) ∙ then (changed c h) there k allowed)

-- ---- an area

short_value : (v : Plain) → IsValue v → value_at (value_bytes v) ≡ Some (v, [])
short_value v good = ap value_at (sym (append-nil (value_bytes v))) ∙ value_format.again v [] good

state_again : (v : Plain) (more : List ℕ) → IsValue v → length (value_bytes v) < 2 ^ 32 → state_at (text_bytes (value_bytes v) ++ more) ≡ Some (v, more)
unfolding state_at
state_again v more good short =
    then (sized_at (text_bytes (value_bytes v) ++ more)) (λ body. whole (value_at body.0) >>= λ v. Some (v, body.1)) (value_bytes v, more) (sized_again (value_bytes v) more short)
    ∙ ap (λ (x : Option (Plain × List ℕ)). whole x >>= λ v. Some (v, more)) (short_value v good)

entry_again : (format : Format) (e : Step) (more : List ℕ) → CanHold format e → kept_at format (text_bytes (step_bytes format e) ++ more) ≡ Some (e, more)
unfolding kept_at
entry_again format e more can =
    then (sized_at (text_bytes (step_bytes format e) ++ more)) (λ body. whole (step_at format body.0) >>= λ e. Some (e, body.1)) (step_bytes format e, more) (sized_again (step_bytes format e) more (omega (arith, can.short)))
    ∙ ap (λ (x : Option (Step × List ℕ)). whole x >>= λ e. Some (e, more)) (step_again format e can)

one_more : (format : Format) (n : ℕ) (e : Step) (acc : List Step) (more : List ℕ) → CanHold format e → entries_onto format (suc n) acc (text_bytes (step_bytes format e) ++ more) ≡ entries_onto format n (e ∷ acc) more
unfolding entries_onto
one_more format n e acc more can = then (kept_at format (text_bytes (step_bytes format e) ++ more)) (λ x. entries_onto format n (x.0 ∷ acc) x.1) (e, more) (entry_again format e more can)

entries_again : (format : Format) (es : List Step) (n : ℕ) (acc : List Step) (more : List ℕ) → AllByRecursion (CanHold format) es → entries_onto format (length es + n) acc (entries_bytes format es ++ more) ≡ entries_onto format n (es ++ acc) more
entries_again format [] n acc more can = ap (λ (k : ℕ). entries_onto format k acc more) (omega arith)
entries_again format (e ∷ es) n acc more can =
    let last = text_bytes (step_bytes format e) in
    let count : suc (length es) + n ≡ length es + suc n = omega arith in
    ap (λ (k : ℕ). entries_onto format k acc ((entries_bytes format es ++ last) ++ more)) count
    ∙ ap (λ (xs : List ℕ). entries_onto format (length es + suc n) acc xs) (append_assoc (entries_bytes format es) last more)
    ∙ entries_again format es (suc n) acc (last ++ more) can.1
    ∙ one_more format n e (es ++ acc) more can.0

none_left : (format : Format) (es : List Step) (more : List ℕ) → entries_onto format 0 es more ≡ Some (es, more)
unfolding entries_onto
none_left format es more = refl

counted_again : (format : Format) (es : List Step) (more : List ℕ) → length es < 2 ^ 32 → AllByRecursion (CanHold format) es → counted_at format (counted_bytes format es ++ more) ≡ Some (es, more)
unfolding counted_at
counted_again format es more few can =
    ap (λ (xs : List ℕ). number_at w32 xs >>= λ n. entries_onto format n.0 [] n.1) (append_assoc (to_be_bytes w32 (length es)) (entries_bytes format es) more)
    ∙ then (number_at w32 (to_be_bytes w32 (length es) ++ (entries_bytes format es ++ more))) (λ n. entries_onto format n.0 [] n.1) (length es, entries_bytes format es ++ more)
    (number_again w32 (2 ^ 32) wide32 (length es) (entries_bytes format es ++ more) few)
    ∙ ap (λ (k : ℕ). entries_onto format k [] (entries_bytes format es ++ more)) (omega arith)
    ∙ entries_again format es 0 [] more can
    ∙ none_left format (es ++ []) more
    ∙ ap (λ (xs : List Step). Some (xs, more)) (append-nil es)

sound_again : (h : History) → IsTrue (is_sound h) → sound_if h ≡ Some h
sound_again h sound = ap (λ (b : Bool). cond b (Some h) None) sound

pub few_entries : (h : History) → IsTrue (is_sound h) → (length h.past + length h.future ≤ 100) × (h.seq ≤ 2 ^ 36)
unfolding is_sound
few_entries h sound =
    let one = left_true _ _ sound in
    let two = left_true _ _ one in
    let three = right_true _ _ two in
    let four = right_true _ _ (left_true _ _ two) in
    (leb-true _ _ three, leb-true _ _ four)

history_again : (format : Format) (h : History) (more : List ℕ) → CanStore format h → length (value_bytes h.state) < 2 ^ 32 → history_at format (history_bytes format h ++ more) ≡ Some (h, more)
unfolding history_at
history_again format h more can short =
    let few = few_entries h can.sound in
    let state = text_bytes (value_bytes h.state) in
    let seq = to_be_bytes w64 h.seq in
    let past = counted_bytes format h.past in
    let future = counted_bytes format h.future in
    let last : Plain → ℕ → List Step → List Step → Option History = λ v q p f. sound_if (record { state = v; past = p; future = f; seq = q }) in
    let three : Plain → ℕ → List Step → List ℕ → Option (History × List ℕ) = λ v q p bs. counted_at format bs >>= λ f. last v q p f.0 >>= λ h. Some (h, f.1) in
    let two : Plain → ℕ → List ℕ → Option (History × List ℕ) = λ v q bs. counted_at format bs >>= λ p. three v q p.0 p.1 in
    let one : Plain → List ℕ → Option (History × List ℕ) = λ v bs. number_at w64 bs >>= λ q. two v q.0 q.1 in
    ap (λ (xs : List ℕ). state_at xs >>= λ v. one v.0 v.1) (append_assoc state (seq ++ (past ++ future)) more)
    ∙ then (state_at (state ++ ((seq ++ (past ++ future)) ++ more))) (λ v. one v.0 v.1) (h.state, (seq ++ (past ++ future)) ++ more) (state_again h.state ((seq ++ (past ++ future)) ++ more) can.state short)
    ∙ ap (one h.state) (append_assoc seq (past ++ future) more)
    ∙ then (number_at w64 (seq ++ ((past ++ future) ++ more))) (λ q. two h.state q.0 q.1) (h.seq, (past ++ future) ++ more) (number_again w64 (2 ^ 64) wide64 h.seq ((past ++ future) ++ more) (omega (arith, few.1)))
    ∙ ap (two h.state h.seq) (append_assoc past future more)
    ∙ then (counted_at format (past ++ (future ++ more))) (λ p. three h.state h.seq p.0 p.1) (h.past, future ++ more) (counted_again format h.past (future ++ more) (omega (arith, few.0)) can.past)
    ∙ then (counted_at format (future ++ more)) (λ f. last h.state h.seq h.past f.0 >>= λ h. Some (h, f.1)) (h.future, more) (counted_again format h.future more (omega (arith, few.0)) can.future)
    ∙ then (sound_if h) (λ h. Some (h, more)) h (sound_again h can.sound)

format_again : (format : Format) → format_of (format_byte format) ≡ Some format
format_again One = refl
format_again Two = refl

pub area_again : (format : Format) (h : History) (more : List ℕ) → CanStore format h → length (value_bytes h.state) < 2 ^ 32 → area_at (area_bytes format h ++ more) ≡ Some ((format, h), more)
unfolding area_at
area_again format h more can short =
    let named : Format → History × List ℕ → Option ((Format × History) × List ℕ) = λ f k. Some ((f, k.0), k.1) in
    let of_format : Format → Option ((Format × History) × List ℕ) = λ f. history_at f (history_bytes format h ++ more) >>= named f in
    then (format_of (format_byte format)) of_format format (format_again format) ∙ then (history_at format (history_bytes format h ++ more)) (named format) (h, more) (history_again format h more can short)
