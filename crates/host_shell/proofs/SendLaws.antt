-- A part of some bytes was taken.
use Rattle.std.proofs.Common.{ℕ, List, [], Option, Some, None, refl, ◌∙◌, append-nil, take, drop, take-append-drop}
use Rattle.std.specs.Io.KnownBytes.{Appends, Keeps}
use Rattle.std.proofs.KnownBytes.{Appends-nil}
use Rattle.host_shell.specs.Ends.{TakesPart}

appends_kept : (a b c : Option (List ℕ)) (xs : List ℕ) → Appends a b xs → Keeps b c → Appends a c xs
appends_kept None b c xs p k = tt
appends_kept (Some x) None c xs p k = absurd p
appends_kept (Some x) (Some y) None xs p k = absurd k
appends_kept (Some x) (Some y) (Some z) xs p k = k ∙ p

-- a front was taken, and then nothing
pub part_taken : (a b c : Option (List ℕ)) (at : ℕ) (bytes : List ℕ) → Appends a b (take at bytes) → Keeps b c → TakesPart a c bytes
part_taken a b c at bytes p k = record { part = take at bytes; taken = appends_kept a b c (take at bytes) p k; in_part = record { rest = drop at bytes; joined = take-append-drop at bytes } }

pub all_taken : (a b c : Option (List ℕ)) (bytes : List ℕ) → Appends a b bytes → Keeps b c → TakesPart a c bytes
all_taken a b c bytes p k = record { part = bytes; taken = appends_kept a b c bytes p k; in_part = record { rest = []; joined = append-nil bytes } }

pub nothing_taken : (a : Option (List ℕ)) (bytes : List ℕ) → TakesPart a a bytes
nothing_taken a bytes = record { part = []; taken = Appends-nil a; in_part = record { rest = bytes; joined = refl } }

pub whole_taken : (a b c : Option (List ℕ)) (bytes : List ℕ) → Appends a b bytes → Keeps b c → Appends a c bytes
whole_taken a b c bytes p k = appends_kept a b c bytes p k
