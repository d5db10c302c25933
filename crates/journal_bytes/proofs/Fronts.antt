-- Readers that look at what they take and at nothing behind it.
use Rattle.std.proofs.Common.{◌≡◌, ℕ, zero, suc, ◌+◌, ◌<◌, ◌≤◌, Bool, true, false, cond, ltb, List, [], ◌∷◌, ◌++◌, length, take, drop, Option, Some, None, refl, sym, ap, subst, ◌∙◌, append_assoc, arith}
use Rattle.std.specs.Int.{Width, w32, w64, byte_len, from_be_bytes}
use Rattle.std.proofs.lemmas.Bool.{ltb-false, le-ltb}
use Rattle.std.proofs.lemmas.List.{take_at, drop_at, take-append-drop, take-append-le, drop-append-le, length-append, length-take, length-drop}
use Rattle.value_model.specs.Plain.{Plain}
use Rattle.value_bytes_spec.specs.Reading.{◌>>=◌, number_at, value_at}
use Rattle.value_bytes_spec.proofs.Fields.{bind_some, passed_then, not_refused, some_is}
use Rattle.journal_bytes.specs.History.{History, Step}
use Rattle.journal_bytes.specs.Records.{front_at, sized_at, record_at, whole, step_at}
use Rattle.journal_bytes.specs.Areas.{format_of, state_at, kept_at, entries_onto, counted_at, sound_if, history_at, area_at}
use Rattle.journal_bytes.specs.declared.change.Format.{Format}

-- the step behind one that gave something
pub then : {A B : Type 0} (r : Option A) (f : A → Option B) (x : A) → r ≡ Some x → (r >>= f) ≡ f x
then r f x e = ap (λ (s : Option _). s >>= f) e

-- a reader took x from the front, and takes it again, whatever stands behind it
pub record TakesFront {A : Type 0} (read : List ℕ → Option (A × List ℕ)) (bytes : List ℕ) (x : A) (rest : List ℕ) : Type 0 where
  pub front : List ℕ
  pub parts : bytes ≡ front ++ rest
  pub again : (more : List ℕ) → read (front ++ more) ≡ Some (x, more)

-- one reader behind another
pub takes_then : {A B : Type 0} (read : List ℕ → Option (A × List ℕ)) (more : A → List ℕ → Option (B × List ℕ)) (bytes : List ℕ) (x : A) (mid : List ℕ) (y : B) (rest : List ℕ)
    → TakesFront read bytes x mid → TakesFront (more x) mid y rest → TakesFront (λ (bs : List ℕ). read bs >>= λ a. more a.0 a.1) bytes y rest
takes_then read more bytes x mid y rest first second = record {
  front = first.front ++ second.front;
  parts = first.parts ∙ ap (λ (t : List ℕ). first.front ++ t) second.parts ∙ sym (append_assoc first.front second.front rest);
  again = λ tail. ap (λ (bs : List ℕ). read bs >>= λ a. more a.0 a.1) (append_assoc first.front second.front tail)
      ∙ then (read (first.front ++ (second.front ++ tail))) (λ a. more a.0 a.1) (x, second.front ++ tail) (first.again (second.front ++ tail))
      ∙ second.again tail;
}

-- what was taken, turned into something else
pub takes_as : {A B : Type 0} (read : List ℕ → Option (A × List ℕ)) (f : A → Option B) (bytes : List ℕ) (x : A) (rest : List ℕ) (y : B)
    → TakesFront read bytes x rest → f x ≡ Some y → TakesFront (λ (bs : List ℕ). read bs >>= λ a. f a.0 >>= λ b. Some (b, a.1)) bytes y rest
takes_as read f bytes x rest y t e = record {
  front = t.front;
  parts = t.parts;
  again = λ tail. then (read (t.front ++ tail)) (λ a. f a.0 >>= λ b. Some (b, a.1)) (x, tail) (t.again tail) ∙ then (f x) (λ b. Some (b, tail)) y e;
}

-- ---- what stands behind is exchanged

-- of a front with bytes behind it, a reader took less than the front
pub record IsLocal {A : Type 0} (read : List ℕ → Option (A × List ℕ)) (x : A) (rest front old : List ℕ) : Type 0 where
  pub left : List ℕ
  pub parts : rest ≡ left ++ old
  pub again : (new : List ℕ) → read (front ++ new) ≡ Some (x, left ++ new)

pub local : {A : Type 0} (read : List ℕ → Option (A × List ℕ)) (bytes : List ℕ) (x : A) (rest front old : List ℕ) → TakesFront read bytes x rest → bytes ≡ front ++ old → length old ≤ length rest → IsLocal read x rest front old
local read bytes x rest front old t e short =
    let n = length t.front in
    let both : t.front ++ rest ≡ front ++ old = sym t.parts ∙ e in
    let le : n ≤ length front = omega (arith, short, ap length both, length-append t.front rest, length-append front old) in
    let left = drop n front in
    let front_is : t.front ≡ take n front = sym (take_at t.front rest n refl) ∙ ap (take n) both ∙ take-append-le n front old le in
    let whole_is : front ≡ t.front ++ left = sym (take-append-drop n front) ∙ ap (λ (xs : List ℕ). xs ++ left) (sym front_is) in
    record {
      left = left;
      parts = sym (drop_at t.front rest n refl) ∙ ap (drop n) both ∙ drop-append-le n front old le;
      again = λ new. ap (λ (xs : List ℕ). read (xs ++ new)) whole_is ∙ ap read (append_assoc t.front left new) ∙ t.again (left ++ new);
    }

-- ---- the readers

takes_front : (n : ℕ) (bytes x rest : List ℕ) → front_at n bytes ≡ Some (x, rest) → TakesFront (front_at n) bytes x rest × (length x ≡ n) × (length bytes ≡ n + length rest)
unfolding front_at
takes_front n bytes x rest e =
    let g = not_refused (ltb (length bytes) n) (Some (take n bytes, drop n bytes)) (x, rest) e in
    let both = some_is (take n bytes, drop n bytes) (x, rest) g.1 in
    let x_is : take n bytes ≡ x = ap (λ (p : List ℕ × List ℕ). p.0) both in
    let rest_is : drop n bytes ≡ rest = ap (λ (p : List ℕ × List ℕ). p.1) both in
    let long : n ≤ length bytes = ltb-false _ _ g.0 in
    let size : length x ≡ n = omega (arith, sym (ap length x_is), length-take n bytes, long) in
    let parts : bytes ≡ x ++ rest = sym (take-append-drop n bytes) ∙ ap (λ (t : List ℕ). t ++ drop n bytes) x_is ∙ ap (λ (t : List ℕ). x ++ t) rest_is in (
      record {
        front = x;
        parts = parts;
        again = λ more. rw (le-ltb (length (x ++ more)) n (omega (arith, length-append x more, size)), take_at x more n size, drop_at x more n size) refl;
      },
      size,
      omega (arith, ap length parts, length-append x rest, size),
    )

pub takes_number : (w : Width) (bytes : List ℕ) (n : ℕ) (rest : List ℕ) → number_at w bytes ≡ Some (n, rest) → TakesFront (number_at w) bytes n rest × (length bytes ≡ byte_len w + length rest)
takes_number w bytes n rest e =
    let k = byte_len w in
    let g = not_refused (ltb (length bytes) k) (Some (from_be_bytes w (take k bytes), drop k bytes)) (n, rest) e in
    let both = some_is (from_be_bytes w (take k bytes), drop k bytes) (n, rest) g.1 in
    let n_is : from_be_bytes w (take k bytes) ≡ n = ap (λ (p : ℕ × List ℕ). p.0) both in
    let rest_is : drop k bytes ≡ rest = ap (λ (p : ℕ × List ℕ). p.1) both in
    let long : k ≤ length bytes = ltb-false _ _ g.0 in
    let size : length (take k bytes) ≡ k = omega (arith, length-take k bytes, long) in
    let parts : bytes ≡ take k bytes ++ rest = sym (take-append-drop k bytes) ∙ ap (λ (t : List ℕ). take k bytes ++ t) rest_is in (
      record {
        front = take k bytes;
        parts = parts;
        again = λ more. rw (le-ltb (length (take k bytes ++ more)) k (omega (arith, length-append (take k bytes) more, size)), take_at (take k bytes) more k size, drop_at (take k bytes) more k size) (ap (λ (m : ℕ). Some (m, more)) n_is);
      },
      omega (arith, ap length parts, length-append (take k bytes) rest, size),
    )

-- a length and that many bytes
pub takes_sized : (bytes body rest : List ℕ) → sized_at bytes ≡ Some (body, rest) → TakesFront sized_at bytes body rest × (length bytes ≡ 4 + length body + length rest)
unfolding sized_at
takes_sized bytes body rest e =
    let b = bind_some (number_at w32 bytes) (λ n. front_at n.0 n.1) (body, rest) e in
    let first = takes_number w32 bytes b.0.0 b.0.1 b.1 in
    let second = takes_front b.0.0 b.0.1 body rest b.2 in
    (takes_then (number_at w32) front_at bytes b.0.0 b.0.1 body rest first.0 second.0, omega (arith, first.1, second.1, second.2))

-- a kind, and a body behind its length
pub takes_record : (bytes : List ℕ) (kind : ℕ) (body rest : List ℕ) → record_at bytes ≡ Some ((kind, body), rest) → TakesFront record_at bytes (kind, body) rest × (length bytes ≡ 5 + length body + length rest)
unfolding record_at
takes_record [] kind body rest e = absurd cc
takes_record (k ∷ bytes) kind body rest e =
    let b = bind_some (sized_at bytes) (λ x. Some ((k, x.0), x.1)) ((kind, body), rest) e in
    let t = takes_sized bytes b.0.0 b.0.1 b.1 in
    let made : (ℕ × List ℕ) × List ℕ = ((k, b.0.0), b.0.1) in
    let found : TakesFront record_at (k ∷ bytes) (k, b.0.0) b.0.1 = record {
      front = k ∷ t.0.front;
      parts = ap (λ (xs : List ℕ). k ∷ xs) t.0.parts;
      again = λ more. then (sized_at (t.0.front ++ more)) (λ x. Some ((k, x.0), x.1)) (b.0.0, more) (t.0.again more);
    } in
    let size : length (k ∷ bytes) ≡ 5 + length b.0.0 + length b.0.1 = omega (arith, t.1) in
    subst (λ (q : (ℕ × List ℕ) × List ℕ). TakesFront record_at (k ∷ bytes) q.0 q.1 × (length (k ∷ bytes) ≡ 5 + length q.0.1 + length q.1)) (some_is made ((kind, body), rest) b.2) (found, size)

-- ---- areas

takes_state : (bytes : List ℕ) (v : Plain) (rest : List ℕ) → state_at bytes ≡ Some (v, rest) → TakesFront state_at bytes v rest
unfolding state_at
takes_state bytes v rest e =
    let f : List ℕ → Option Plain = λ body. whole (value_at body) in
    let a = bind_some (sized_at bytes) (λ body. f body.0 >>= λ v. Some (v, body.1)) (v, rest) e in
    let b = bind_some (f a.0.0) (λ v. Some (v, a.0.1)) (v, rest) a.2 in
    let t = takes_as sized_at f bytes a.0.0 a.0.1 b.0 (takes_sized bytes a.0.0 a.0.1 a.1).0 b.1 in
    let there : Plain × List ℕ = (b.0, a.0.1) in
    subst (λ (q : Plain × List ℕ). TakesFront state_at bytes q.0 q.1) (some_is there (v, rest) b.2) t

takes_entry : (format : Format) (bytes : List ℕ) (s : Step) (rest : List ℕ) → kept_at format bytes ≡ Some (s, rest) → TakesFront (kept_at format) bytes s rest
unfolding kept_at
takes_entry format bytes s rest e =
    let f : List ℕ → Option Step = λ body. whole (step_at format body) in
    let a = bind_some (sized_at bytes) (λ body. f body.0 >>= λ v. Some (v, body.1)) (s, rest) e in
    let b = bind_some (f a.0.0) (λ v. Some (v, a.0.1)) (s, rest) a.2 in
    let t = takes_as sized_at f bytes a.0.0 a.0.1 b.0 (takes_sized bytes a.0.0 a.0.1 a.1).0 b.1 in
    let there : Step × List ℕ = (b.0, a.0.1) in
    subst (λ (q : Step × List ℕ). TakesFront (kept_at format) bytes q.0 q.1) (some_is there (s, rest) b.2) t

takes_onto : (format : Format) (n : ℕ) (es : List Step) (bytes : List ℕ) (all : List Step) (rest : List ℕ) → entries_onto format n es bytes ≡ Some (all, rest) → TakesFront (entries_onto format n es) bytes all rest
unfolding entries_onto
takes_onto format zero es bytes all rest e =
    let there : List Step × List ℕ = (es, bytes) in
    subst (λ (q : List Step × List ℕ). TakesFront (entries_onto format zero es) bytes q.0 q.1) (some_is there (all, rest) e) (record { front = []; parts = refl; again = λ more. refl })
takes_onto format (suc n) es bytes all rest e =
    let more : Step → List ℕ → Option (List Step × List ℕ) = λ s bs. entries_onto format n (s ∷ es) bs in
    let a = bind_some (kept_at format bytes) (λ s. more s.0 s.1) (all, rest) e in
    takes_then (kept_at format) more bytes a.0.0 a.0.1 all rest (takes_entry format bytes a.0.0 a.0.1 a.1) (takes_onto format n (a.0.0 ∷ es) a.0.1 all rest a.2)

takes_counted : (format : Format) (bytes : List ℕ) (es : List Step) (rest : List ℕ) → counted_at format bytes ≡ Some (es, rest) → TakesFront (counted_at format) bytes es rest
unfolding counted_at
takes_counted format bytes es rest e =
    let more : ℕ → List ℕ → Option (List Step × List ℕ) = λ n bs. entries_onto format n [] bs in
    let a = bind_some (number_at w32 bytes) (λ n. more n.0 n.1) (es, rest) e in
    takes_then (number_at w32) more bytes a.0.0 a.0.1 es rest (takes_number w32 bytes a.0.0 a.0.1 a.1).0 (takes_onto format a.0.0 [] a.0.1 es rest a.2)

takes_history : (format : Format) (bytes : List ℕ) (h : History) (rest : List ℕ) → history_at format bytes ≡ Some (h, rest) → TakesFront (history_at format) bytes h rest
unfolding history_at
takes_history format bytes h rest e =
    let last : Plain → ℕ → List Step → List Step → Option History = λ v q p f. sound_if (record { state = v; past = p; future = f; seq = q }) in
    let three : Plain → ℕ → List Step → List ℕ → Option (History × List ℕ) = λ v q p bs. counted_at format bs >>= λ f. last v q p f.0 >>= λ h. Some (h, f.1) in
    let two : Plain → ℕ → List ℕ → Option (History × List ℕ) = λ v q bs. counted_at format bs >>= λ p. three v q p.0 p.1 in
    let one : Plain → List ℕ → Option (History × List ℕ) = λ v bs. number_at w64 bs >>= λ q. two v q.0 q.1 in
    let a = bind_some (state_at bytes) (λ v. one v.0 v.1) (h, rest) e in
    let b = bind_some (number_at w64 a.0.1) (λ q. two a.0.0 q.0 q.1) (h, rest) a.2 in
    let c = bind_some (counted_at format b.0.1) (λ p. three a.0.0 b.0.0 p.0 p.1) (h, rest) b.2 in
    let d = bind_some (counted_at format c.0.1) (λ f. last a.0.0 b.0.0 c.0.0 f.0 >>= λ h. Some (h, f.1)) (h, rest) c.2 in
    let l = bind_some (last a.0.0 b.0.0 c.0.0 d.0.0) (λ h. Some (h, d.0.1)) (h, rest) d.2 in
    let t4 = takes_as (counted_at format) (last a.0.0 b.0.0 c.0.0) c.0.1 d.0.0 d.0.1 l.0 (takes_counted format c.0.1 d.0.0 d.0.1 d.1) l.1 in
    let t3 = takes_then (counted_at format) (three a.0.0 b.0.0) b.0.1 c.0.0 c.0.1 l.0 d.0.1 (takes_counted format b.0.1 c.0.0 c.0.1 c.1) t4 in
    let t2 = takes_then (number_at w64) (two a.0.0) a.0.1 b.0.0 b.0.1 l.0 d.0.1 (takes_number w64 a.0.1 b.0.0 b.0.1 b.1).0 t3 in
    let t1 = takes_then state_at one bytes a.0.0 a.0.1 l.0 d.0.1 (takes_state bytes a.0.0 a.0.1 a.1) t2 in
    let there : History × List ℕ = (l.0, d.0.1) in
    subst (λ (q : History × List ℕ). TakesFront (history_at format) bytes q.0 q.1) (some_is there (h, rest) l.2) t1

pub takes_area : (bytes : List ℕ) (x : Format × History) (rest : List ℕ) → area_at bytes ≡ Some (x, rest) → TakesFront area_at bytes x rest
unfolding area_at
takes_area [] x rest e = absurd cc
takes_area (b ∷ bytes) x rest e =
    let a = bind_some (format_of b) (λ format. history_at format bytes >>= λ h. Some ((format, h.0), h.1)) (x, rest) e in
    let h = bind_some (history_at a.0 bytes) (λ h. Some ((a.0, h.0), h.1)) (x, rest) a.2 in
    let t = takes_history a.0 bytes h.0.0 h.0.1 h.1 in
    let there : (Format × History) × List ℕ = ((a.0, h.0.0), h.0.1) in
    let found : TakesFront area_at (b ∷ bytes) (a.0, h.0.0) h.0.1 = record {
      front = b ∷ t.front;
      parts = ap (λ (xs : List ℕ). b ∷ xs) t.parts;
      again = λ more. then (format_of b) (λ format. history_at format (t.front ++ more) >>= λ h. Some ((format, h.0), h.1)) a.0 a.1
          ∙ then (history_at a.0 (t.front ++ more)) (λ h. Some ((a.0, h.0), h.1)) (h.0.0, more) (t.again more);
    } in
    subst (λ (q : (Format × History) × List ℕ). TakesFront area_at (b ∷ bytes) q.0 q.1) (some_is there (x, rest) h.2) found
