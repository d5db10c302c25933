-- What each of the two writes of an append may leave, and what stands after both.
use Rattle.std.proofs.Common.{◌≡◌, ℕ, zero, suc, ◌+◌, ◌<◌, ◌≤◌, ◌==◌, Bool, true, false, eqb, List, [], ◌∷◌, ◌++◌, length, take, drop, Option, Some, None, refl, sym, ap, subst, ◌∙◌, append_assoc, append-nil, arith, ◌⊎◌, inl, inr}
use Rattle.std.specs.Prelude.{option_map}
use Rattle.std.proofs.lemmas.Bool.{eqb-true}
use Rattle.std.proofs.lemmas.List.{take_at, drop_at, take_all, drop_all, length-append}
use Rattle.disk_model.specs.Disk.{written, Torn, IsSettled, LeavesOnly}
use Rattle.disk_model.proofs.Moments.{weaker, together}
use Rattle.value_bytes_spec.specs.Spelling.{text_bytes}
use Rattle.journal_bytes.specs.declared.change.Change.{Change}
use Rattle.journal_bytes.specs.declared.change.Format.{Format}
use Rattle.journal_bytes.specs.History.{History, changed}
use Rattle.journal_bytes.specs.Records.{record_bytes, body_bytes, kind_byte, CanRecord}
use Rattle.journal_bytes.specs.Files.{Place, Reading, Spot, Class, Holds, made, class, class_of, reading, records_at, placed, behind, behind_change, next, StandsAt}
use Rattle.journal_bytes.proofs.Chains.{IsMade, is_made, goes_behind, ends_at}
use Rattle.journal_bytes.proofs.Recorded.{next_again}
use Rattle.journal_bytes.proofs.Sizes.{text_size}
use Rattle.patch_journal.specs.Journal.{Stands, IsOneOf, LeadsTo, ReadyState, IsReady}

pub class_made : (image : List ℕ) (p : Place) → reading true image ≡ made p → class image ≡ Holds p.history
class_made image p e = ap class_of e

-- a file whose closed gate is its last byte
pub record Ends (p : Place) (file : List ℕ) : Type 0 where
  pub front : List ℕ
  pub gate : ℕ
  pub parts : file ≡ front ++ gate ∷ []
  pub closed : (gate == 1) ≡ false
  pub far : p.spot.gate ≡ length front
  pub goes_on : (g : ℕ) (more : List ℕ) → reading true (front ++ g ∷ more) ≡ records_at (front ++ g ∷ more) true p

no_length : (xs : List ℕ) → length xs ≡ 0 → xs ≡ []
no_length [] e = refl
no_length (x ∷ xs) e = absurd (omega (arith, e))

pub ends : (p : Place) (file : List ℕ) → StandsAt p file → Ends p file
ends p file at =
    let m = is_made true file p at.is in
    let none : m.rest ≡ [] = no_length m.rest (omega (arith, at.last, ap length m.parts, length-append m.front (m.gate ∷ m.rest), m.far)) in
    record {
      front = m.front;
      gate = m.gate;
      parts = m.parts ∙ ap (λ (xs : List ℕ). m.front ++ m.gate ∷ xs) none;
      closed = m.closed;
      far = m.far;
      goes_on = m.goes_on;
    }

-- the record of a change leads to the history with it
pub leads_change : (s : Spot) (h k : History) (c : Change) → CanRecord s.format c → changed c h ≡ Some k → LeadsTo (placed s h) (record_bytes s.format c ++ 0 ∷ []) (placed (behind_change s c) k)
leads_change s h k c can allowed =
    let body = record_bytes s.format c in
    record {
      body = body;
      parts = refl;
      far = omega (arith, text_size (body_bytes s.format c));
      leads = λ front size.
          next_again (front ++ 1 ∷ (body ++ 0 ∷ [])) true s c h k (0 ∷ [])
          (ap (drop (s.gate + 1)) (sym (append_assoc front (1 ∷ []) (body ++ 0 ∷ []))) ∙ drop_at (front ++ 1 ∷ []) (body ++ 0 ∷ []) (s.gate + 1) (omega (arith, length-append front (1 ∷ []), size))) can allowed;
    }

module _ (p : Place) (file : List ℕ) (at : Ends p file) where
  size : length file ≡ p.spot.gate + 1
  size = omega (arith, ap length at.parts, length-append at.front (at.gate ∷ []), at.far)

  -- bytes behind the gate
  joined : (xs ys : List ℕ) → (take (p.spot.gate + 1) file ++ xs) ++ ys ≡ at.front ++ at.gate ∷ (xs ++ ys)
  joined xs ys =
      append_assoc (take (p.spot.gate + 1) file) xs ys
      ∙ ap (λ (zs : List ℕ). zs ++ (xs ++ ys)) (take_all (p.spot.gate + 1) file (omega (arith, size)) ∙ at.parts)
      ∙ append_assoc at.front (at.gate ∷ []) (xs ++ ys)

  -- behind a closed gate there may be anything
  pub still : (b : ℕ) (more : List ℕ) → (b == 1) ≡ false → reading true (at.front ++ b ∷ more) ≡ made p
  still b more closed = at.goes_on b more ∙ ends_at (at.front ++ b ∷ more) true p b more (drop_at at.front (b ∷ more) p.spot.gate (sym at.far)) closed

  -- the first write leaves the history as it was, whatever stands behind the gate
  pub torn_behind : (n : ℕ) (image : List ℕ) → Torn (p.spot.gate + 1) n file image → class image ≡ Holds p.history
  torn_behind n image torn =
      class_made image p (ap (reading true) (torn.is ∙ joined torn.middle (drop (p.spot.gate + 1 + n) file)) ∙ still at.gate (torn.middle ++ drop (p.spot.gate + 1 + n) file) at.closed)

  -- the file with bytes behind the closed gate
  pub staged : List ℕ → List ℕ
  staged piece = at.front ++ at.gate ∷ piece

  pub written_behind : (piece : List ℕ) → written (p.spot.gate + 1) piece file ≡ staged piece
  unfolding staged
  written_behind piece =
      joined piece (drop (p.spot.gate + 1 + length piece) file)
      ∙ ap (λ (xs : List ℕ). at.front ++ at.gate ∷ (piece ++ xs)) (drop_all (p.spot.gate + 1 + length piece) file (omega (arith, size)))
      ∙ ap (λ (xs : List ℕ). at.front ++ at.gate ∷ xs) (append-nil piece)

  front_staged : (piece : List ℕ) → take p.spot.gate (staged piece) ≡ at.front
  unfolding staged
  front_staged piece = take_at at.front (at.gate ∷ piece) p.spot.gate (sym at.far)

  back_staged : (piece : List ℕ) → drop (p.spot.gate + 1) (staged piece) ≡ piece
  unfolding staged
  back_staged piece =
      ap (drop (p.spot.gate + 1)) (sym (append_assoc at.front (at.gate ∷ []) piece))
      ∙ drop_at (at.front ++ at.gate ∷ []) piece (p.spot.gate + 1) (omega (arith, length-append at.front (at.gate ∷ []), at.far))

  length_staged : (piece : List ℕ) → length (staged piece) ≡ p.spot.gate + 1 + length piece
  unfolding staged
  length_staged piece = omega (arith, length-append at.front (at.gate ∷ piece), at.far)

  -- one byte in the place of the gate
  swapped : (b : ℕ) (piece : List ℕ) → (take p.spot.gate (staged piece) ++ b ∷ []) ++ drop (p.spot.gate + 1) (staged piece) ≡ at.front ++ b ∷ piece
  swapped b piece =
      append_assoc (take p.spot.gate (staged piece)) (b ∷ []) (drop (p.spot.gate + 1) (staged piece))
      ∙ ap (λ (xs : List ℕ). xs ++ b ∷ drop (p.spot.gate + 1) (staged piece)) (front_staged piece)
      ∙ ap (λ (xs : List ℕ). at.front ++ b ∷ xs) (back_staged piece)

  module _ (piece : List ℕ) (q : Place) (l : LeadsTo p piece q) where
    last_gate : drop q.spot.gate (at.front ++ 1 ∷ piece) ≡ 0 ∷ []
    last_gate =
        ap (λ (xs : List ℕ). drop q.spot.gate (at.front ++ 1 ∷ xs)) l.parts
        ∙ ap (drop q.spot.gate) (sym (append_assoc at.front (1 ∷ l.body) (0 ∷ [])))
        ∙ drop_at (at.front ++ 1 ∷ l.body) (0 ∷ []) q.spot.gate (omega (arith, length-append at.front (1 ∷ l.body), at.far, l.far))

    -- an open gate
    opened : reading true (at.front ++ 1 ∷ piece) ≡ made q
    opened =
        at.goes_on 1 piece
        ∙ goes_behind (at.front ++ 1 ∷ piece) true p piece q (drop_at at.front (1 ∷ piece) p.spot.gate (sym at.far)) (l.leads at.front (sym at.far))
        ∙ ends_at (at.front ++ 1 ∷ piece) true q 0 [] last_gate refl

    by_gate : (b : ℕ) (t : Bool) → (b == 1) ≡ t → IsOneOf p.history q.history (at.front ++ b ∷ piece)
    by_gate b true e = inr (class_made (at.front ++ b ∷ piece) q (ap (λ (x : ℕ). reading true (at.front ++ x ∷ piece)) (eqb-true b 1 e) ∙ opened))
    by_gate b false e = inl (class_made (at.front ++ b ∷ piece) p (still b piece e))

    by_middle : (middle image : List ℕ) → image ≡ (take p.spot.gate (staged piece) ++ middle) ++ drop (p.spot.gate + 1) (staged piece) → length middle ≡ 1 → IsOneOf p.history q.history image
    by_middle [] image e one = absurd (omega (arith, one))
    by_middle (b ∷ []) image e one = subst (IsOneOf p.history q.history) (sym (e ∙ swapped b piece)) (by_gate b (b == 1) refl)
    by_middle (b ∷ d ∷ more) image e one = absurd (omega (arith, one))

    -- the second write leaves one of the two histories
    pub torn_gate : (image : List ℕ) → Torn p.spot.gate 1 (staged piece) image → IsOneOf p.history q.history image
    torn_gate image torn =
        let front : length (take p.spot.gate (staged piece)) ≡ p.spot.gate = ap length (front_staged piece) ∙ sym at.far in
        let back : length (drop (p.spot.gate + 1) (staged piece)) ≡ length piece = ap length (back_staged piece) in
        let all = ap length torn.is in
        by_middle torn.middle image torn.is
        (omega (arith, torn.no_more, torn.no_shorter, length_staged piece, all, length-append (take p.spot.gate (staged piece) ++ torn.middle) (drop (p.spot.gate + 1) (staged piece)), length-append (take p.spot.gate (staged piece)) torn.middle, front, back))

    -- and then the file stands for the second
    pub written_gate : StandsAt q (written p.spot.gate (1 ∷ []) (staged piece))
    written_gate =
        let is : written p.spot.gate (1 ∷ []) (staged piece) ≡ at.front ++ 1 ∷ piece = swapped 1 piece in
        record {
          is = ap (reading true) is ∙ opened;
          last = omega (arith, ap length is, length-append at.front (1 ∷ piece), at.far, ap length l.parts, length-append l.body (0 ∷ []), l.far);
        }

-- ---- the two calls over a disk

told_then : (x y : Option (List ℕ)) (f : List ℕ → List ℕ) (file : List ℕ) → y ≡ option_map f x → x ≡ Some file → y ≡ Some (f file)
told_then x y f file e t = e ∙ ap (option_map f) t

module _ {D : Type 0} (told : D → Option (List ℕ)) (moment : D → ℕ) (left_since : D → ℕ → List ℕ → Type 0) (may_leave : D → List ℕ → Type 0) where
  -- a run of one write and sync, as `write_through` says it
  abbrev pub Wrote : D → D → ℕ → List ℕ → Type 0
  Wrote old new at piece = (bytes : List ℕ) → told old ≡ Some bytes → IsSettled told may_leave old → LeavesOnly moment left_since may_leave old new (Torn at (length piece) bytes)

  module _ (old mid new : D) (p q : Place) (piece : List ℕ) (st : Stands told may_leave old p) (l : LeadsTo p piece q) where
    at : Ends p st.file
    at = ends p st.file st.place

    -- the bytes are written behind the closed gate
    pub first_write : Wrote old mid (p.spot.gate + 1) piece → LeavesOnly moment left_since may_leave old mid (IsOneOf p.history q.history)
    first_write wrote =
        weaker moment left_since may_leave old mid (Torn (p.spot.gate + 1) (length piece) st.file) (IsOneOf p.history q.history) (λ image torn. inl (torn_behind p st.file at (length piece) image torn)) (wrote st.file st.tells st.settled)

    mid_told : told mid ≡ option_map (written (p.spot.gate + 1) piece) (told old) → told mid ≡ Some (staged p st.file at piece)
    mid_told done = told_then (told old) (told mid) (written (p.spot.gate + 1) piece) st.file done st.tells ∙ ap Some (written_behind p st.file at piece)

    -- and the gate is opened
    pub second_write : Wrote old mid (p.spot.gate + 1) piece → told mid ≡ option_map (written (p.spot.gate + 1) piece) (told old) → IsSettled told may_leave mid → Wrote mid new p.spot.gate (1 ∷ [])
        → LeavesOnly moment left_since may_leave old new (IsOneOf p.history q.history)
    second_write wrote done settled opened =
        together moment left_since may_leave old mid new (IsOneOf p.history q.history) (first_write wrote)
        (weaker moment left_since may_leave mid new (Torn p.spot.gate 1 (staged p st.file at piece)) (IsOneOf p.history q.history) (λ image torn. torn_gate p st.file at piece q l image torn)
        (opened (staged p st.file at piece) (mid_told done) settled))

    pub stands_then : told mid ≡ option_map (written (p.spot.gate + 1) piece) (told old) → told new ≡ option_map (written p.spot.gate (1 ∷ [])) (told mid) → IsSettled told may_leave new → Stands told may_leave new q
    stands_then done done-2 settled = record {
      file = written p.spot.gate (1 ∷ []) (staged p st.file at piece);
      tells = told_then (told mid) (told new) (written p.spot.gate (1 ∷ [])) (staged p st.file at piece) done-2 (mid_told done);
      settled = settled;
      place = written_gate p st.file at piece q l;
    }

    -- the same at the place that the code has of the gate
    module _ (gate : ℕ) (e : p.spot.gate ≡ gate) where
      there : (from to : D) (n : ℕ) (xs : List ℕ) → Wrote from to (gate + n) xs → Wrote from to (p.spot.gate + n) xs
      there from to n xs = subst (λ (x : ℕ). Wrote from to (x + n) xs) (sym e)

      there_done : (from to : D) (n : ℕ) (xs : List ℕ) → told to ≡ option_map (written (gate + n) xs) (told from) → told to ≡ option_map (written (p.spot.gate + n) xs) (told from)
      there_done from to n xs = subst (λ (x : ℕ). told to ≡ option_map (written (x + n) xs) (told from)) (sym e)

      here : (from to : D) (xs : List ℕ) → Wrote from to gate xs → Wrote from to p.spot.gate xs
      here from to xs = subst (λ (x : ℕ). Wrote from to x xs) (sym e)

      here_done : (from to : D) (xs : List ℕ) → told to ≡ option_map (written gate xs) (told from) → told to ≡ option_map (written p.spot.gate xs) (told from)
      here_done from to xs = subst (λ (x : ℕ). told to ≡ option_map (written x xs) (told from)) (sym e)

      pub first_at : Wrote old mid (gate + 1) piece → LeavesOnly moment left_since may_leave old mid (IsOneOf p.history q.history)
      first_at wrote = first_write (there old mid 1 piece wrote)

      pub second_at : Wrote old mid (gate + 1) piece → told mid ≡ option_map (written (gate + 1) piece) (told old) → IsSettled told may_leave mid → Wrote mid new gate (1 ∷ [])
          → LeavesOnly moment left_since may_leave old new (IsOneOf p.history q.history)
      second_at wrote done settled opened = second_write (there old mid 1 piece wrote) (there_done old mid 1 piece done) settled (here mid new (1 ∷ []) opened)

      pub stands_at : told mid ≡ option_map (written (gate + 1) piece) (told old) → told new ≡ option_map (written gate (1 ∷ [])) (told mid) → IsSettled told may_leave new → Stands told may_leave new q
      stands_at done done-2 settled = stands_then (there_done old mid 1 piece done) (here_done mid new (1 ∷ []) done-2) settled

-- ---- a record that is ready

pub ready_leads : (r : ReadyState) (c : Change) (h k : History) (bytes : List ℕ) → bytes ≡ r.bytes → IsReady r c → changed c h ≡ Some k → LeadsTo (placed r.spot h) bytes (placed (behind_change r.spot c) k)
ready_leads r c h k bytes same ready allowed =
    subst (λ (xs : List ℕ). LeadsTo (placed r.spot h) xs (placed (behind_change r.spot c) k)) (sym (same ∙ ready.is)) (leads_change r.spot h k c ready.can allowed)

pub ready_size : (r : ReadyState) (c : Change) → IsReady r c → behind r.spot (length r.bytes) ≡ behind_change r.spot c
ready_size r c ready =
    let size : length r.bytes ≡ 6 + length (body_bytes r.spot.format c) = omega (arith, ap length ready.is, length-append (record_bytes r.spot.format c) (0 ∷ []), text_size (body_bytes r.spot.format c)) in
    ap (behind r.spot) size
