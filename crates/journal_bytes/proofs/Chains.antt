-- A file is read up to its closed gate, and what stands there and behind it is not looked at before.
use Rattle.std.proofs.Common.{◌≡◌, ℕ, zero, suc, ◌+◌, ◌<◌, ◌≤◌, ◌==◌, Bool, true, false, cond, leb, eqb, List, [], ◌∷◌, ◌++◌, length, take, drop, Option, Some, None, refl, sym, ap, subst, ◌∙◌, arith, ◌⊎◌, ⊎_elim}
use Rattle.std.specs.Prelude.{◌&&◌}
use Rattle.std.specs.Option.{is_none}
use Rattle.std.specs.Str.{bytes_eq}
use Rattle.std.proofs.lemmas.Bool.{eqb-true, lt-leb, leb-false}
use Rattle.std.proofs.lemmas.List.{take-append-drop, take-append-le, drop-append-le, drop_all, length-append, length-take, length-drop}
use Rattle.value_model.specs.Plain.{Plain}
use Rattle.value_bytes_spec.specs.Reading.{◌>>=◌, value_at}
use Rattle.value_bytes_spec.proofs.Fields.{bind_some, some_is}
use Rattle.journal_bytes.specs.declared.change.Change.{Change}
use Rattle.journal_bytes.specs.declared.change.Format.{Format}
use Rattle.journal_bytes.specs.History.{History, begun, changed}
use Rattle.journal_bytes.specs.Records.{sized_at, whole, change_of}
use Rattle.journal_bytes.specs.Areas.{format_of}
use Rattle.journal_bytes.specs.Files.{Place, Spot, Reading, unmade, foreign, made, placed, behind, header_spot, next_place, is_slots, next, going_on, by_gate, chain, records_at, state_if, first_place, header_at, behind_header, behind_name, name, reading, class, class_of}
use Rattle.journal_bytes.proofs.Fronts.{then, TakesFront, takes_as, local, takes_sized}
use Rattle.journal_bytes.proofs.Nexts.{Records, Jumps, next_cases, next_by_record, far_next, next_local}

pub made_is : (p q : Place) → made p ≡ made q → p ≡ q
made_is p q e = cc

-- ---- how many records are read at most doesn't matter, where it is enough

enough_behind : (file : List ℕ) (may : Bool) (n m : ℕ) (p : Place) (x : Option Place) → next file may p ≡ x → ((q : Place) → next file may p ≡ Some q → chain file may n q ≡ chain file may m q)
    → going_on p x (chain file may n) ≡ going_on p x (chain file may m)
enough_behind file may n m p None e more = refl
enough_behind file may n m p (Some q) e more = more q e

nothing_left : (file : List ℕ) (p : Place) (opened : Reading) → length file ≤ p.spot.gate → by_gate p (drop p.spot.gate file) opened ≡ foreign p.spot.gate
nothing_left file p opened le = ap (λ (xs : List ℕ). by_gate p xs opened) (drop_all p.spot.gate file le)

pub enough : (file : List ℕ) (may : Bool) (n m : ℕ) (p : Place) → length file < p.spot.gate + n → length file < p.spot.gate + m → chain file may n p ≡ chain file may m p
unfolding chain
enough file may zero zero p h k = refl
enough file may zero (suc m) p h k = sym (nothing_left file p (going_on p (next file may p) (chain file may m)) (omega (arith, h)))
enough file may (suc n) zero p h k = nothing_left file p (going_on p (next file may p) (chain file may n)) (omega (arith, k))
enough file may (suc n) (suc m) p h k =
    ap (λ (r : Reading). by_gate p (drop p.spot.gate file) r)
    (enough_behind file may n m p (next file may p) refl (λ q e. let far = far_next file may p q e in enough file may n m q (omega (arith, far, h)) (omega (arith, far, k))))

-- an open gate leads behind its record
pub goes_behind : (file : List ℕ) (may : Bool) (p : Place) (bytes : List ℕ) (q : Place) → drop p.spot.gate file ≡ 1 ∷ bytes → next file may p ≡ Some q → records_at file may p ≡ records_at file may q
unfolding chain
goes_behind file may p bytes q opened e =
    ap (λ (xs : List ℕ). by_gate p xs (going_on p (next file may p) (chain file may (length file)))) opened
    ∙ ap (λ (x : Option Place). going_on p x (chain file may (length file))) e
    ∙ enough file may (length file) (suc (length file)) q (omega (arith, far_next file may p q e)) (omega arith)

-- a closed gate ends the chain
pub ends_at : (file : List ℕ) (may : Bool) (p : Place) (gate : ℕ) (more : List ℕ) → drop p.spot.gate file ≡ gate ∷ more → (gate == 1) ≡ false → records_at file may p ≡ made p
unfolding chain
ends_at file may p gate more is closed =
    ap (λ (xs : List ℕ). by_gate p xs (going_on p (next file may p) (chain file may (length file)))) is
    ∙ ap (λ (b : Bool). cond b (going_on p (next file may p) (chain file may (length file))) (made p)) closed

-- ---- what holds at the last place, and goes back over each record, holds at the first

module _ (file : List ℕ) (may : Bool) (q : Place) (P : Place → Type 0) (here : (gate : ℕ) (rest : List ℕ) → drop q.spot.gate file ≡ gate ∷ rest → (gate == 1) ≡ false → P q)
    (step : (p r : Place) (bytes : List ℕ) → drop p.spot.gate file ≡ 1 ∷ bytes → next file may p ≡ Some r → P r → P p) where
  by_next : (p : Place) (bytes : List ℕ) (n : ℕ) (x : Option Place) → drop p.spot.gate file ≡ 1 ∷ bytes → next file may p ≡ x → going_on p x (chain file may n) ≡ made q → ((r : Place) → chain file may n r ≡ made q → P r) → P p
  by_next p bytes n None opened is e more = absurd cc
  by_next p bytes n (Some r) opened is e more = step p r bytes opened is (more r e)

  by_byte : (p : Place) (n : ℕ) (gate : ℕ) (bytes : List ℕ) (b : Bool) → drop p.spot.gate file ≡ gate ∷ bytes → (gate == 1) ≡ b → cond b (going_on p (next file may p) (chain file may n)) (made p) ≡ made q → ((r : Place) → chain file may n r ≡ made q → P r) → P p
  by_byte p n gate bytes true is h e more = by_next p bytes n (next file may p) (is ∙ ap (λ (g : ℕ). g ∷ bytes) (eqb-true gate 1 h)) refl e more
  by_byte p n gate bytes false is h e more =
      let same = made_is p q e in
      subst P (sym same) (here gate bytes (subst (λ (x : Place). drop x.spot.gate file ≡ gate ∷ bytes) same is) h)

  by_bytes : (p : Place) (n : ℕ) (xs : List ℕ) → drop p.spot.gate file ≡ xs → by_gate p xs (going_on p (next file may p) (chain file may n)) ≡ made q → ((r : Place) → chain file may n r ≡ made q → P r) → P p
  by_bytes p n [] is e more = absurd cc
  by_bytes p n (gate ∷ bytes) is e more = by_byte p n gate bytes (gate == 1) is refl e more

  pub walk : (n : ℕ) (p : Place) → chain file may n p ≡ made q → P p
  unfolding chain
  walk zero p e = absurd cc
  walk (suc n) p e = by_bytes p n (drop p.spot.gate file) refl e (λ r so. walk n r so)

-- the gate at which a chain ended
pub record Closes (file : List ℕ) (q : Place) : Type 0 where
  pub gate : ℕ
  pub rest : List ℕ
  pub is : drop q.spot.gate file ≡ gate ∷ rest
  pub closed : (gate == 1) ≡ false

pub closes : (file : List ℕ) (may : Bool) (n : ℕ) (p q : Place) → chain file may n p ≡ made q → Closes file q
closes file may n p q e = walk file may q (λ (p : Place). Closes file q) (λ gate rest is closed. record { gate = gate; rest = rest; is = is; closed = closed }) (λ p r bytes opened is more. more) n p e

pub far_chain : (file : List ℕ) (may : Bool) (n : ℕ) (p q : Place) → chain file may n p ≡ made q → p.spot.gate ≤ q.spot.gate
far_chain file may n p q e = walk file may q (λ (p : Place). p.spot.gate ≤ q.spot.gate) (λ gate rest is closed. omega arith) (λ p r bytes opened is more. omega (arith, far_next file may p r is, more)) n p e

-- ---- what stands from the closed gate on is exchanged

uncons : (x : ℕ) (old : List ℕ) (left bytes : List ℕ) (b : ℕ) → 1 ≤ length left → left ++ x ∷ old ≡ b ∷ bytes → (tail : List ℕ) × (left ≡ b ∷ tail) × (bytes ≡ tail ++ x ∷ old)
uncons x old [] bytes b long e = absurd (omega (arith, long))
uncons x old (c ∷ left) bytes b long e = (left, ap (λ (d : ℕ). d ∷ left) (cc), cc)

module _ (may : Bool) (q : Place) (front : List ℕ) (x : ℕ) (old : List ℕ) (size : length front ≡ q.spot.gate) (y : ℕ) (new : List ℕ) where
  -- an open gate in front of it stays
  still_open : (at : ℕ) (bytes : List ℕ) → at < length front → drop at (front ++ x ∷ old) ≡ 1 ∷ bytes → (tail : List ℕ) × (drop at (front ++ y ∷ new) ≡ 1 ∷ (tail ++ y ∷ new)) × (bytes ≡ tail ++ x ∷ old) × (drop at front ≡ 1 ∷ tail)
  still_open at bytes lt e =
      let u = uncons x old (drop at front) bytes 1 (omega (arith, lt, length-drop at front)) (sym (drop-append-le at front (x ∷ old) (omega (arith, lt))) ∙ e) in
      (u.0, drop-append-le at front (y ∷ new) (omega (arith, lt)) ∙ ap (λ (xs : List ℕ). xs ++ y ∷ new) u.1, u.2, u.1)

  pub chain_local : (n : ℕ) (p : Place) → chain (front ++ x ∷ old) may n p ≡ made q → records_at (front ++ y ∷ new) may p ≡ records_at (front ++ y ∷ new) may q
  chain_local n p e =
      (walk (front ++ x ∷ old) may q (λ (p : Place). (p.spot.gate ≤ q.spot.gate) × (records_at (front ++ y ∷ new) may p ≡ records_at (front ++ y ∷ new) may q))
      (λ gate rest is closed. (omega arith, refl))
      (λ p r bytes opened is more.
      let far = far_next (front ++ x ∷ old) may p r is in
      let o = still_open p.spot.gate bytes (omega (arith, far, more.0, size)) opened in
      (omega (arith, far, more.0), goes_behind (front ++ y ∷ new) may p (o.0 ++ y ∷ new) r o.1 (next_local front x old y new may p r is (omega (arith, more.0, size))) ∙ more.1)) n p e).1

-- ---- the header

far_first : (format : Format) (bytes : List ℕ) (p : Place) → first_place format bytes ≡ Some p → p.spot ≡ header_spot format (length bytes)
far_first format bytes p e =
    let made : Plain → Option Place = λ first. Some (placed (header_spot format (length bytes)) (begun first)) in
    let a = bind_some (whole (value_at bytes)) (λ v. state_if v >>= made) p e in
    let b = bind_some (state_if a.0) made p a.2 in
    ap (λ (x : Place). x.spot) (sym (some_is (placed (header_spot format (length bytes)) (begun b.0)) p b.2))

pub takes_header : (bytes : List ℕ) (p : Place) (rest : List ℕ) → header_at bytes ≡ Some (p, rest) → TakesFront header_at bytes p rest × (p.spot.gate + length rest ≡ 9 + length bytes) × (14 ≤ p.spot.gate)
unfolding header_at
takes_header [] p rest e = absurd cc
takes_header (b ∷ bytes) p rest e =
    let x = bind_some (format_of b) (λ format. sized_at bytes >>= λ state. first_place format state.0 >>= λ p. Some (p, state.1)) (p, rest) e in
    let y = bind_some (sized_at bytes) (λ state. first_place x.0 state.0 >>= λ p. Some (p, state.1)) (p, rest) x.2 in
    let z = bind_some (first_place x.0 y.0.0) (λ p. Some (p, y.0.1)) (p, rest) y.2 in
    let s = takes_sized bytes y.0.0 y.0.1 y.1 in
    let t = takes_as sized_at (first_place x.0) bytes y.0.0 y.0.1 z.0 s.0 z.1 in
    let far : z.0.spot.gate ≡ 14 + length y.0.0 = ap (λ (k : Spot). k.gate) (far_first x.0 y.0.0 z.0 z.1) in
    let found : TakesFront header_at (b ∷ bytes) z.0 y.0.1 = record {
      front = b ∷ t.front;
      parts = ap (λ (xs : List ℕ). b ∷ xs) t.parts;
      again = λ more. then (format_of b) (λ format. sized_at (t.front ++ more) >>= λ state. first_place format state.0 >>= λ p. Some (p, state.1)) x.0 x.1 ∙ t.again more;
    } in
    let size : z.0.spot.gate + length y.0.1 ≡ 9 + length (b ∷ bytes) = omega (arith, far, s.1) in
    let long : 14 ≤ z.0.spot.gate = omega (arith, far) in
    let there : Place × List ℕ = (z.0, y.0.1) in
    subst (λ (k : Place × List ℕ). TakesFront header_at (b ∷ bytes) k.0 k.1 × (k.0.spot.gate + length k.1 ≡ 9 + length (b ∷ bytes)) × (14 ≤ k.0.spot.gate)) (some_is there (p, rest) z.2) (found, size, long)

-- ---- the file

pub read_named : (may : Bool) (file : List ℕ) → 9 < length file → bytes_eq (take 8 file) name ≡ true → reading may file ≡ behind_name file may (drop 8 file)
unfolding reading
read_named may file long is = rw (lt-leb (length file) 9 long, is) refl

-- a made file has a name, an open file gate, a header and a chain of records
pub record HasHeader (may : Bool) (q : Place) (file : List ℕ) : Type 0 where
  pub long : 9 < length file
  pub named : bytes_eq (take 8 file) name ≡ true
  pub bytes : List ℕ
  pub opened : drop 8 file ≡ 1 ∷ bytes
  pub first : Place
  pub rest : List ℕ
  pub header : header_at bytes ≡ Some (first, rest)
  pub chain : records_at file may first ≡ made q

module _ (may : Bool) (q : Place) (file : List ℕ) where
  by_header : 9 < length file → bytes_eq (take 8 file) name ≡ true → (bytes : List ℕ) → drop 8 file ≡ 1 ∷ bytes → (x : Option (Place × List ℕ)) → header_at bytes ≡ x → behind_header file may x ≡ made q → HasHeader may q file
  by_header long named bytes opened None h e = absurd cc
  by_header long named bytes opened (Some x) h e = record { long = long; named = named; bytes = bytes; opened = opened; first = x.0; rest = x.1; header = h; chain = e }

  by_open : 9 < length file → bytes_eq (take 8 file) name ≡ true → (gate : ℕ) (bytes : List ℕ) (b : Bool) → drop 8 file ≡ gate ∷ bytes → (gate == 1) ≡ b → cond b (behind_header file may (header_at bytes)) unmade ≡ made q → HasHeader may q file
  by_open long named gate bytes true is h e = by_header long named bytes (is ∙ ap (λ (g : ℕ). g ∷ bytes) (eqb-true gate 1 h)) (header_at bytes) refl e
  by_open long named gate bytes false is h e = absurd cc

  by_front : 9 < length file → bytes_eq (take 8 file) name ≡ true → (xs : List ℕ) → drop 8 file ≡ xs → behind_name file may xs ≡ made q → HasHeader may q file
  by_front long named [] is e = absurd cc
  by_front long named (gate ∷ bytes) is e = by_open long named gate bytes (gate == 1) is refl e

  by_name : 9 < length file → (b : Bool) → bytes_eq (take 8 file) name ≡ b → cond b (behind_name file may (drop 8 file)) (foreign 0) ≡ made q → HasHeader may q file
  by_name long true h e = by_front long h (drop 8 file) refl e
  by_name long false h e = absurd cc

  by_size : (b : Bool) → leb (length file) 9 ≡ b → cond b unmade (cond (bytes_eq (take 8 file) name) (behind_name file may (drop 8 file)) (foreign 0)) ≡ made q → HasHeader may q file
  by_size true h e = absurd cc
  by_size false h e = by_name (leb-false (length file) 9 h) (bytes_eq (take 8 file) name) refl e

  pub has_header : reading may file ≡ made q → HasHeader may q file
  unfolding reading
  has_header e = by_size (leb (length file) 9) refl e

-- what a header and a chain make
pub read_header : (may : Bool) (file bytes rest : List ℕ) (first : Place) → 9 < length file → bytes_eq (take 8 file) name ≡ true → drop 8 file ≡ 1 ∷ bytes → header_at bytes ≡ Some (first, rest) → reading may file ≡ records_at file may first
read_header may file bytes rest first long named opened header = read_named may file long named ∙ ap (λ (xs : List ℕ). behind_name file may xs) opened ∙ ap (λ (x : Option (Place × List ℕ)). behind_header file may x) header

-- A made file is read up to its closed gate; whatever stands from there on instead, reading goes on from that place.
pub record IsMade (may : Bool) (q : Place) (file : List ℕ) : Type 0 where
  pub front : List ℕ
  pub gate : ℕ
  pub rest : List ℕ
  pub parts : file ≡ front ++ gate ∷ rest
  pub closed : (gate == 1) ≡ false
  pub far : q.spot.gate ≡ length front
  pub goes_on : (g : ℕ) (more : List ℕ) → reading may (front ++ g ∷ more) ≡ records_at (front ++ g ∷ more) may q

reads_on : (may : Bool) (q : Place) (front : List ℕ) (x : ℕ) (old : List ℕ) → length front ≡ q.spot.gate → HasHeader may q (front ++ x ∷ old) → (y : ℕ) (new : List ℕ) → reading may (front ++ y ∷ new) ≡ records_at (front ++ y ∷ new) may q
reads_on may q front x old size h y new =
    let file = front ++ x ∷ old in
    let t = takes_header h.bytes h.first h.rest h.header in
    let far = far_chain file may (suc (length file)) h.first q h.chain in
    let o = still_open may q front x old size y new 8 h.bytes (omega (arith, t.2, far, size)) h.opened in
    let left_size : length o.0 + 9 ≡ length front = omega (arith, ap length o.3, length-drop 8 front, t.2, far, size) in
    let short : length (x ∷ old) ≤ length h.rest = omega (arith, t.1, far, size, ap length o.2, length-append o.0 (x ∷ old), left_size) in
    let l = local header_at h.bytes h.first h.rest o.0 (x ∷ old) t.0 o.2 short in
    let front8 : take 8 (front ++ y ∷ new) ≡ take 8 file = take-append-le 8 front (y ∷ new) (omega (arith, left_size)) ∙ sym (take-append-le 8 front (x ∷ old) (omega (arith, left_size))) in
    let named : bytes_eq (take 8 (front ++ y ∷ new)) name ≡ true = ap (λ (xs : List ℕ). bytes_eq xs name) front8 ∙ h.named in
    let long : 9 < length (front ++ y ∷ new) = omega (arith, length-append front (y ∷ new), left_size) in
    read_header may (front ++ y ∷ new) (o.0 ++ y ∷ new) (l.left ++ y ∷ new) h.first long named o.1 (l.again (y ∷ new))
    ∙ chain_local may q front x old size y new (suc (length file)) h.first h.chain

pub is_made : (may : Bool) (file : List ℕ) (q : Place) → reading may file ≡ made q → IsMade may q file
is_made may file q e =
    let h = has_header may q file e in
    let c = closes file may (suc (length file)) h.first q h.chain in
    let front = take q.spot.gate file in
    let parts : file ≡ front ++ c.gate ∷ c.rest = sym (take-append-drop q.spot.gate file) ∙ ap (λ (xs : List ℕ). front ++ xs) c.is in
    let size : length front ≡ q.spot.gate = omega (arith, length-take q.spot.gate file, ap length c.is, length-drop q.spot.gate file) in
    record {
      front = front;
      gate = c.gate;
      rest = c.rest;
      parts = parts;
      closed = c.closed;
      far = sym size;
      goes_on = λ g more. reads_on may q front c.gate c.rest size (subst (HasHeader may q) parts h) g more;
    }

-- ---- a file without slots is read the same where they may be there

no_slots : (p : Place) (kind : ℕ) (body : List ℕ) (q : Place) (b : Bool) → (kind == 4) ≡ b → next_place p (kind, body) ≡ Some q → (b && true && is_none p.spot.slots) ≡ false
unfolding change_of
no_slots p kind body q false h e = refl
no_slots p kind body q true h e =
    let four : kind ≡ 4 = eqb-true kind 4 h in
    let other : next_place p (4, body) ≡ Some q = subst (λ (k : ℕ). next_place p (k, body) ≡ Some q) four e in
    absurd cc

next_latest : (file : List ℕ) (p q : Place) → next file false p ≡ Some q → next file true p ≡ Some q
next_latest file p q e =
    ⊎_elim
    (λ (r : Records file false p q). next_by_record file true p q r.kind r.body r.rest r.read (no_slots p r.kind r.body q (r.kind == 4) refl r.leads) r.leads)
    (λ (j : Jumps file false p q). absurd (never (j.kind == 4) (is_none p.spot.slots) j.slots)) (next_cases file false p q e)
  where
    never : (a b : Bool) → (a && false && b) ≡ true → ⊥
    never true b h = cc
    never false b h = cc

pub read_latest : (file : List ℕ) (q : Place) → reading false file ≡ made q → reading true file ≡ made q
read_latest file q e =
    let h = has_header false q file e in
    read_header true file h.bytes h.rest h.first h.long h.named h.opened h.header
    ∙ walk file false q (λ (p : Place). records_at file true p ≡ made q) (λ gate rest is closed. ends_at file true q gate rest is closed)
    (λ p r bytes opened is more. goes_behind file true p bytes r opened (next_latest file p r is) ∙ more) (suc (length file)) h.first h.chain
