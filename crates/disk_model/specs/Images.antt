-- A call that is done, and one that does nothing, are among those that a crash may make of it.
use Rattle.std.specs.Prelude.{◌≡◌, ℕ, ◌+◌, ◌≤◌, List, ◌++◌, length, take, drop}
use Rattle.std.proofs.Common.{sym, ◌∙◌, ap, arith, length-append, length-drop, length-take}
use Rattle.std.proofs.lemmas.List.{take-append-drop, take_min}
use Rattle.std.proofs.Math.Seq.{take-add, take-length}
use Rattle.std.proofs.Math.Nat.{le_refl, min-le_left}
use Rattle.disk_model.specs.Disk.{written, Torn, Cut}

-- the parts before, in and behind a range are the whole
pub parts : (at n : ℕ) (bytes : List ℕ) → bytes ≡ take at bytes ++ take n (drop at bytes) ++ drop (at + n) bytes
parts at n bytes = sym (take-append-drop (at + n) bytes) ∙ ap (λ (xs : List ℕ). xs ++ drop (at + n) bytes) (take-add at n bytes)

-- a write that did nothing
pub torn_same : (at n : ℕ) (bytes : List ℕ) → Torn at n bytes bytes
torn_same at n bytes = record {
  middle = take n (drop at bytes);
  is = parts at n bytes;
  no_more = omega (arith, length-take n (drop at bytes));
  no_shorter = le_refl (length bytes);
}

-- a write makes nothing shorter
pub longer_written : (at : ℕ) (piece bytes : List ℕ) → length bytes ≤ length (written at piece bytes)
longer_written at piece bytes = omega (arith, length-append (take at bytes ++ piece) (drop (at + length piece) bytes), length-append (take at bytes) piece, length-take at bytes, length-drop (at + length piece) bytes)

-- a write of n bytes that put others in their place
pub torn_middle : (at n : ℕ) (middle bytes : List ℕ) → length middle ≡ n → Torn at n bytes (written at middle bytes)
torn_middle at n middle bytes long = record {
  middle = middle;
  is = ap (λ (k : ℕ). take at bytes ++ middle ++ drop (at + k) bytes) long;
  no_more = omega (arith, long);
  no_shorter = longer_written at middle bytes;
}

-- a cut that did nothing
pub cut_same : (end : ℕ) (bytes : List ℕ) → Cut end bytes bytes
cut_same end bytes = record { front = sym (take-length bytes); no_shorter = min-le_left (length bytes) end }

-- a cut that was done
pub cut_done : (end : ℕ) (bytes : List ℕ) → Cut end bytes (take end bytes)
cut_done end bytes = record { front = sym (take_min end bytes) ∙ ap (λ (k : ℕ). take k bytes) (sym (length-take end bytes)); no_shorter = omega (arith, length-take end bytes) }
