-- One record of a chain: what it was read from, and that what stands behind the next gate is not looked at.
use Rattle.std.proofs.Common.{◌≡◌, ℕ, zero, suc, ◌+◌, ◌-◌, ◌<◌, ◌≤◌, ◌^◌, ◌==◌, Bool, true, false, cond, leb, List, [], ◌∷◌, ◌++◌, length, take, drop, Option, Some, None, refl, sym, ap, subst, ◌∙◌, append_assoc, arith, ◌⊎◌, inl, inr, ⊎_elim}
use Rattle.std.specs.Prelude.{◌&&◌, nat_le}
use Rattle.std.specs.Int.{w64}
use Rattle.std.proofs.lemmas.Bool.{leb-true}
use Rattle.std.proofs.lemmas.List.{drop-append-le, length-append, length-drop}
use Rattle.value_model.specs.Search.{left_true, right_true}
use Rattle.value_bytes_spec.specs.Reading.{◌>>=◌, number_at}
use Rattle.value_bytes_spec.proofs.Fields.{bind_some, passed_then, some_is}
use Rattle.journal_bytes.specs.declared.change.Change.{Change}
use Rattle.journal_bytes.specs.declared.change.Format.{Format}
use Rattle.journal_bytes.specs.declared.slots.Slots.{Slots}
use Rattle.journal_bytes.specs.History.{History, changed}
use Rattle.journal_bytes.specs.Records.{record_at, whole, change_of}
use Rattle.journal_bytes.specs.Areas.{area_at}
use Rattle.journal_bytes.specs.Slots.{Slot, slot_at, slots_at, present}
use Rattle.journal_bytes.specs.Files.{Place, Spot, placed, behind, area_spot, next_place, slots_of, at_area, behind_area, unread, jumped, is_slots, next}
use Rattle.journal_bytes.proofs.Fronts.{then, TakesFront, IsLocal, local, takes_number, takes_record, takes_area}

pub whole_some : {A : Type 0} (r : Option (A × List ℕ)) (x : A) → whole r ≡ Some x → r ≡ Some (x, [])
whole_some None x e = absurd cc
whole_some (Some (y, [])) x e = ap (λ (z : Option _). z >>= λ w. Some (w, [])) e
whole_some (Some (y, b ∷ rest)) x e = absurd cc

-- ---- the two kinds of record

-- a record of a change
pub record Records (file : List ℕ) (may : Bool) (p q : Place) : Type 0 where
  pub kind : ℕ
  pub body : List ℕ
  pub rest : List ℕ
  pub read : record_at (drop (p.spot.gate + 1) file) ≡ Some ((kind, body), rest)
  pub plain : is_slots may p kind ≡ false
  pub leads : next_place p (kind, body) ≡ Some q

-- the record of slots, of which this one is present
pub record Jumps (file : List ℕ) (may : Bool) (p q : Place) : Type 0 where
  pub kind : ℕ
  pub body : List ℕ
  pub rest : List ℕ
  pub read : record_at (drop (p.spot.gate + 1) file) ≡ Some ((kind, body), rest)
  pub slots : is_slots may p kind ≡ true
  pub both : Slot × Slot
  pub one : Bool × Slot
  pub of_body : whole (slots_at body) ≡ Some both
  pub is_present : present both ≡ Some one
  pub closed : unread rest ≡ true
  pub leads : behind_area file (p.spot.gate + 6) one ≡ Some q

by_slots : (file : List ℕ) (may : Bool) (p q : Place) (r : (ℕ × List ℕ) × List ℕ) (b : Bool) → record_at (drop (p.spot.gate + 1) file) ≡ Some r → is_slots may p r.0.0 ≡ b
    → cond b (jumped file p r.0.1 r.1) (next_place p r.0) ≡ Some q → Records file may p q ⊎ Jumps file may p q
by_slots file may p q r false read is e = inl (record { kind = r.0.0; body = r.0.1; rest = r.1; read = read; plain = is; leads = e })
by_slots file may p q r true read is e =
    let a = bind_some (whole (slots_at r.0.1)) (λ slots. present slots >>= λ s. cond (unread r.1) (behind_area file (p.spot.gate + 6) s) None) q e in
    let b = bind_some (present a.0) (λ s. cond (unread r.1) (behind_area file (p.spot.gate + 6) s) None) q a.2 in
    let c = passed_then (unread r.1) (behind_area file (p.spot.gate + 6) b.0) q b.2 in
    inr (record { kind = r.0.0; body = r.0.1; rest = r.1; read = read; slots = is; both = a.0; one = b.0; of_body = a.1; is_present = b.1; closed = c.0; leads = c.1 })

pub next_cases : (file : List ℕ) (may : Bool) (p q : Place) → next file may p ≡ Some q → Records file may p q ⊎ Jumps file may p q
unfolding next
next_cases file may p q e =
    let a = bind_some (record_at (drop (p.spot.gate + 1) file)) (λ r. cond (is_slots may p r.0.0) (jumped file p r.0.1 r.1) (next_place p r.0)) q e in
    by_slots file may p q a.0 (is_slots may p a.0.0.0) a.1 refl a.2

pub next_by_record : (file : List ℕ) (may : Bool) (p q : Place) (kind : ℕ) (body rest : List ℕ) → record_at (drop (p.spot.gate + 1) file) ≡ Some ((kind, body), rest) → is_slots may p kind ≡ false
    → next_place p (kind, body) ≡ Some q → next file may p ≡ Some q
unfolding next
next_by_record file may p q kind body rest read plain leads =
    then (record_at (drop (p.spot.gate + 1) file)) (λ r. cond (is_slots may p r.0.0) (jumped file p r.0.1 r.1) (next_place p r.0)) ((kind, body), rest) read
    ∙ ap (λ (b : Bool). cond b (jumped file p body rest) (next_place p (kind, body))) plain
    ∙ leads

pub next_by_jump : (file : List ℕ) (may : Bool) (p q : Place) (kind : ℕ) (body rest : List ℕ) (both : Slot × Slot) (one : Bool × Slot) → record_at (drop (p.spot.gate + 1) file) ≡ Some ((kind, body), rest)
    → is_slots may p kind ≡ true → whole (slots_at body) ≡ Some both → present both ≡ Some one → unread rest ≡ true → behind_area file (p.spot.gate + 6) one ≡ Some q → next file may p ≡ Some q
unfolding next
next_by_jump file may p q kind body rest both one read slots of_body is_present closed leads =
    then (record_at (drop (p.spot.gate + 1) file)) (λ r. cond (is_slots may p r.0.0) (jumped file p r.0.1 r.1) (next_place p r.0)) ((kind, body), rest) read
    ∙ ap (λ (b : Bool). cond b (jumped file p body rest) (next_place p (kind, body))) slots
    ∙ then (whole (slots_at body)) (λ slots. present slots >>= λ s. cond (unread rest) (behind_area file (p.spot.gate + 6) s) None) both of_body
    ∙ then (present both) (λ s. cond (unread rest) (behind_area file (p.spot.gate + 6) s) None) one is_present
    ∙ ap (λ (b : Bool). cond b (behind_area file (p.spot.gate + 6) one) None) closed
    ∙ leads

-- ---- an area

-- the area that a slot names, with its gate
pub record Lands (file : List ℕ) (at : ℕ) (s : Bool × Slot) (q : Place) : Type 0 where
  pub area : Format × History
  pub gate : ℕ
  pub rest : List ℕ
  pub low : nat_le s.1.number 3 ≡ true
  pub behind_slots : nat_le (at + 21) s.1.start ≡ true
  pub below : nat_le s.1.start (2 ^ 62 + 2 ^ 60) ≡ true
  pub read : area_at (drop s.1.start file) ≡ Some (area, gate ∷ rest)
  pub is : q ≡ placed (area_spot (slots_of at s (length (drop s.1.start file) - length rest) area.0)) area.1

by_rest : (file : List ℕ) (at : ℕ) (s : Bool × Slot) (q : Place) (area : Format × History) (rest : List ℕ) → nat_le s.1.number 3 ≡ true → nat_le (at + 21) s.1.start ≡ true → nat_le s.1.start (2 ^ 62 + 2 ^ 60) ≡ true
    → area_at (drop s.1.start file) ≡ Some (area, rest) → at_area at s (length (drop s.1.start file)) (area, rest) ≡ Some q → Lands file at s q
by_rest file at s q area [] low behind_slots below read e = absurd cc
by_rest file at s q area (gate ∷ rest) low behind_slots below read e =
    record { area = area; gate = gate; rest = rest; low = low; behind_slots = behind_slots; below = below; read = read; is = sym (some_is (placed (area_spot (slots_of at s (length (drop s.1.start file) - length rest) area.0)) area.1) q e) }

pub lands : (file : List ℕ) (at : ℕ) (s : Bool × Slot) (q : Place) → behind_area file at s ≡ Some q → Lands file at s q
unfolding behind_area
lands file at s q e =
    let low = nat_le s.1.number 3 in
    let behind_slots = nat_le (at + 21) s.1.start in
    let below = nat_le s.1.start (2 ^ 62 + 2 ^ 60) in
    let a = passed_then (low && behind_slots && below) (area_at (drop s.1.start file) >>= at_area at s (length (drop s.1.start file))) q e in
    let b = bind_some (area_at (drop s.1.start file)) (at_area at s (length (drop s.1.start file))) q a.1 in
    by_rest file at s q b.0.0 b.0.1 (left_true low behind_slots (left_true (low && behind_slots) below a.0)) (right_true low behind_slots (left_true (low && behind_slots) below a.0)) (right_true (low && behind_slots) below a.0) b.1 b.2

both_true : (a b : Bool) → a ≡ true → b ≡ true → (a && b) ≡ true
both_true true b h k = k
both_true false b h k = absurd cc

pub land_at : (file : List ℕ) (at : ℕ) (s : Bool × Slot) (area : Format × History) (gate : ℕ) (rest : List ℕ) → nat_le s.1.number 3 ≡ true → nat_le (at + 21) s.1.start ≡ true → nat_le s.1.start (2 ^ 62 + 2 ^ 60) ≡ true
    → area_at (drop s.1.start file) ≡ Some (area, gate ∷ rest) → behind_area file at s ≡ Some (placed (area_spot (slots_of at s (length (drop s.1.start file) - length rest) area.0)) area.1)
unfolding behind_area
land_at file at s area gate rest low behind_slots below read =
    let land = λ (b : Bool). cond b (area_at (drop s.1.start file) >>= at_area at s (length (drop s.1.start file))) None in
    ap land (both_true (nat_le s.1.number 3 && nat_le (at + 21) s.1.start) (nat_le s.1.start (2 ^ 62 + 2 ^ 60)) (both_true (nat_le s.1.number 3) (nat_le (at + 21) s.1.start) low behind_slots) below)
    ∙ then (area_at (drop s.1.start file)) (at_area at s (length (drop s.1.start file))) (area, gate ∷ rest) read

-- ---- how far they lead

slot_size : (bytes : List ℕ) (s : Slot) (rest : List ℕ) → slot_at bytes ≡ Some (s, rest) → length bytes ≡ 10 + length rest
unfolding slot_at
slot_size [] s rest e = absurd cc
slot_size (gate ∷ []) s rest e = absurd cc
slot_size (gate ∷ number ∷ bytes) s rest e =
    let made : ℕ → Slot = λ n. record { opened = gate == 1; number = number; start = n } in
    let a = bind_some (number_at w64 bytes) (λ start. Some (made start.0, start.1)) (s, rest) e in
    let there : Slot × List ℕ = (made a.0.0, a.0.1) in
    let rest_is : a.0.1 ≡ rest = ap (λ (x : Slot × List ℕ). x.1) (some_is there (s, rest) a.2) in
    omega (arith, (takes_number w64 bytes a.0.0 a.0.1 a.1).1, ap length rest_is)

slots_size : (bytes : List ℕ) (both : Slot × Slot) (rest : List ℕ) → slots_at bytes ≡ Some (both, rest) → length bytes ≡ 20 + length rest
unfolding slots_at
slots_size bytes both rest e =
    let a = bind_some (slot_at bytes) (λ one. slot_at one.1 >>= λ two. Some ((one.0, two.0), two.1)) (both, rest) e in
    let b = bind_some (slot_at a.0.1) (λ two. Some ((a.0.0, two.0), two.1)) (both, rest) a.2 in
    let there : (Slot × Slot) × List ℕ = ((a.0.0, b.0.0), b.0.1) in
    let rest_is : b.0.1 ≡ rest = ap (λ (x : (Slot × Slot) × List ℕ). x.1) (some_is there (both, rest) b.2) in
    omega (arith, slot_size bytes a.0.0 a.0.1 a.1, slot_size a.0.1 b.0.0 b.0.1 b.1, ap length rest_is)

pub body_size : (body : List ℕ) (both : Slot × Slot) → whole (slots_at body) ≡ Some both → length body ≡ 20
body_size body both e = omega (arith, slots_size body both [] (whole_some (slots_at body) both e))

-- a record of a change leads 6 bytes and its body further
pub far_record : (p q : Place) (r : ℕ × List ℕ) → next_place p r ≡ Some q → q.spot ≡ behind p.spot (6 + length r.1)
far_record p q r e =
    let made : History → Option Place = λ h. Some (placed (behind p.spot (6 + length r.1)) h) in
    let a = bind_some (change_of p.spot.format r.0 r.1) (λ change. changed change p.history >>= made) q e in
    let b = bind_some (changed a.0 p.history) made q a.2 in
    ap (λ (x : Place). x.spot) (sym (some_is (placed (behind p.spot (6 + length r.1)) b.0) q b.2))

-- and a record of slots behind the byte behind it
pub far_area : (file : List ℕ) (at : ℕ) (s : Bool × Slot) (q : Place) (l : Lands file at s q) → q.spot.gate + length l.rest + 1 ≡ s.1.start + length (drop s.1.start file)
far_area file at s q l =
    let t = takes_area (drop s.1.start file) l.area (l.gate ∷ l.rest) l.read in
    let n = length (drop s.1.start file) - length l.rest in
    let gate_is : q.spot.gate ≡ s.1.start + n - 1 = ap (λ (x : Place). x.spot.gate) l.is in
    omega (arith, gate_is, ap length t.parts, length-append t.front (l.gate ∷ l.rest))

pub far_jump : (file : List ℕ) (at : ℕ) (s : Bool × Slot) (q : Place) (l : Lands file at s q) → at + 21 ≤ q.spot.gate
far_jump file at s q l =
    let t = takes_area (drop s.1.start file) l.area (l.gate ∷ l.rest) l.read in
    omega (arith, far_area file at s q l, leb-true (at + 21) s.1.start l.behind_slots, ap length t.parts, length-append t.front (l.gate ∷ l.rest))

pub far_next : (file : List ℕ) (may : Bool) (p q : Place) → next file may p ≡ Some q → p.spot.gate + 6 ≤ q.spot.gate
far_next file may p q e =
    ⊎_elim (λ (r : Records file may p q). omega (arith, ap (λ (s : Spot). s.gate) (far_record p q (r.kind, r.body) r.leads)))
    (λ (j : Jumps file may p q). omega (arith, far_jump file (p.spot.gate + 6) j.one q (lands file (p.spot.gate + 6) j.one q j.leads))) (next_cases file may p q e)

-- ---- what stands from the next gate on is exchanged

module _ (front : List ℕ) (x : ℕ) (old : List ℕ) (y : ℕ) (new : List ℕ) where
  -- the bytes from a place of the front on
  back : (n : ℕ) (b : ℕ) (more : List ℕ) → n ≤ length front → drop n (front ++ b ∷ more) ≡ drop n front ++ b ∷ more
  back n b more le = drop-append-le n front (b ∷ more) le

  unread_same : (left : List ℕ) → 1 ≤ length left → unread (left ++ x ∷ old) ≡ true → unread (left ++ y ∷ new) ≡ true
  unread_same [] long e = absurd (omega (arith, long))
  unread_same (b ∷ left) long e = e

  local_record : (at : ℕ) (kind : ℕ) (body rest : List ℕ) → at + 5 + length body ≤ length front → record_at (drop at (front ++ x ∷ old)) ≡ Some ((kind, body), rest)
      → (left : List ℕ) × (rest ≡ left ++ x ∷ old) × (record_at (drop at (front ++ y ∷ new)) ≡ Some ((kind, body), left ++ y ∷ new)) × (length left + at + 5 + length body ≡ length front)
  local_record at kind body rest le read =
      let t = takes_record (drop at (front ++ x ∷ old)) kind body rest read in
      let is = back at x old (omega (arith, le)) in
      let short : length (x ∷ old) ≤ length rest = omega (arith, t.1, ap length is, length-append (drop at front) (x ∷ old), length-drop at front, le) in
      let l = local record_at (drop at (front ++ x ∷ old)) (kind, body) rest (drop at front) (x ∷ old) t.0 is short in (
        l.left,
        l.parts,
        ap record_at (back at y new (omega (arith, le))) ∙ l.again (y ∷ new),
        omega (arith, t.1, ap length is, length-append (drop at front) (x ∷ old), length-drop at front, le, ap length l.parts, length-append l.left (x ∷ old)),
      )

  local_area : (at : ℕ) (s : Bool × Slot) (q : Place) → behind_area (front ++ x ∷ old) at s ≡ Some q → q.spot.gate ≤ length front → behind_area (front ++ y ∷ new) at s ≡ Some q
  local_area at s q e le =
      let m = lands (front ++ x ∷ old) at s q e in
      let start = s.1.start in
      let t = takes_area (drop start (front ++ x ∷ old)) m.area (m.gate ∷ m.rest) m.read in
      let far = far_area (front ++ x ∷ old) at s q m in
      let within : start ≤ length front = omega (arith, far, le, ap length t.parts, length-append t.front (m.gate ∷ m.rest)) in
      let is = back start x old within in
      let size : length (drop start (front ++ x ∷ old)) ≡ length front - start + suc (length old) = omega (arith, ap length is, length-append (drop start front) (x ∷ old), length-drop start front, within) in
      let l = local area_at (drop start (front ++ x ∷ old)) m.area (m.gate ∷ m.rest) (drop start front) (x ∷ old) t is (omega (arith, far, le, size, within)) in
      let goes : area_at (drop start (front ++ y ∷ new)) ≡ Some (m.area, l.left ++ y ∷ new) = ap area_at (back start y new within) ∙ l.again (y ∷ new) in
      by_left m l.left l.parts goes within
    where
      by_left : (m : Lands (front ++ x ∷ old) at s q) (left : List ℕ) → m.gate ∷ m.rest ≡ left ++ x ∷ old → area_at (drop s.1.start (front ++ y ∷ new)) ≡ Some (m.area, left ++ y ∷ new) → s.1.start ≤ length front
          → behind_area (front ++ y ∷ new) at s ≡ Some q
      by_left m left parts goes within =
          let start = s.1.start in
          let size_old : length (drop start (front ++ x ∷ old)) ≡ length front - start + suc (length old) = omega (arith, ap length (back start x old within), length-append (drop start front) (x ∷ old), length-drop start front, within) in
          let size_new : length (drop start (front ++ y ∷ new)) ≡ length front - start + suc (length new) = omega (arith, ap length (back start y new within), length-append (drop start front) (y ∷ new), length-drop start front, within) in
          landed m left parts goes (omega (arith, size_old, size_new))
        where
          landed : (m : Lands (front ++ x ∷ old) at s q) (left : List ℕ) → m.gate ∷ m.rest ≡ left ++ x ∷ old → area_at (drop s.1.start (front ++ y ∷ new)) ≡ Some (m.area, left ++ y ∷ new)
              → length (drop s.1.start (front ++ x ∷ old)) + length new ≡ length (drop s.1.start (front ++ y ∷ new)) + length old → behind_area (front ++ y ∷ new) at s ≡ Some q
          landed m [] parts goes sizes =
              let n : length (drop s.1.start (front ++ y ∷ new)) - length new ≡ length (drop s.1.start (front ++ x ∷ old)) - length m.rest = omega (arith, ap length parts, sizes, ap length (takes_area (drop s.1.start (front ++ x ∷ old)) m.area (m.gate ∷ m.rest) m.read).parts, length-append (takes_area (drop s.1.start (front ++ x ∷ old)) m.area (m.gate ∷ m.rest) m.read).front (m.gate ∷ m.rest)) in
              land_at (front ++ y ∷ new) at s m.area y new m.low m.behind_slots m.below goes
              ∙ ap (λ (k : ℕ). Some (placed (area_spot (slots_of at s k m.area.0)) m.area.1)) n
              ∙ ap Some (sym m.is)
          landed m (b ∷ left) parts goes sizes =
              let n : length (drop s.1.start (front ++ y ∷ new)) - length (left ++ y ∷ new) ≡ length (drop s.1.start (front ++ x ∷ old)) - length m.rest = omega (arith, ap length parts, length-append left (x ∷ old), length-append left (y ∷ new), sizes, ap length (takes_area (drop s.1.start (front ++ x ∷ old)) m.area (m.gate ∷ m.rest) m.read).parts, length-append (takes_area (drop s.1.start (front ++ x ∷ old)) m.area (m.gate ∷ m.rest) m.read).front (m.gate ∷ m.rest)) in
              land_at (front ++ y ∷ new) at s m.area b (left ++ y ∷ new) m.low m.behind_slots m.below goes
              ∙ ap (λ (k : ℕ). Some (placed (area_spot (slots_of at s k m.area.0)) m.area.1)) n
              ∙ ap Some (sym m.is)

  pub next_local : (may : Bool) (p q : Place) → next (front ++ x ∷ old) may p ≡ Some q → q.spot.gate ≤ length front → next (front ++ y ∷ new) may p ≡ Some q
  next_local may p q e le =
      ⊎_elim
      (λ (r : Records (front ++ x ∷ old) may p q).
      let far = ap (λ (s : Spot). s.gate) (far_record p q (r.kind, r.body) r.leads) in
      let l = local_record (p.spot.gate + 1) r.kind r.body r.rest (omega (arith, far, le)) r.read in
      next_by_record (front ++ y ∷ new) may p q r.kind r.body (l.0 ++ y ∷ new) l.2 r.plain r.leads)
      (λ (j : Jumps (front ++ x ∷ old) may p q).
      let m = lands (front ++ x ∷ old) (p.spot.gate + 6) j.one q j.leads in
      let far = far_jump (front ++ x ∷ old) (p.spot.gate + 6) j.one q m in
      let l = local_record (p.spot.gate + 1) j.kind j.body j.rest (omega (arith, far, le, body_size j.body j.both j.of_body)) j.read in
      next_by_jump (front ++ y ∷ new) may p q j.kind j.body (l.0 ++ y ∷ new) j.both j.one l.2 j.slots j.of_body j.is_present
      (unread_same l.0 (omega (arith, far, le, body_size j.body j.both j.of_body, l.3)) (subst (λ (b : List ℕ). unread b ≡ true) l.1 j.closed))
      (local_area (p.spot.gate + 6) j.one q j.leads le))
      (next_cases (front ++ x ∷ old) may p q e)
