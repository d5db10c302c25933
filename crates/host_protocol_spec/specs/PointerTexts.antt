-- JSON Pointers (RFC 6901): a text of steps, each after `/`, where `~1` is `/` and `~0` is `~`.
use Rattle.std.specs.Prelude.{ℕ, ◌==◌, ◌&&◌, ◌||◌, List, [], ◌∷◌, ◌++◌, map, Bool, true, false, not, codes, if◌then◌else◌}
use Rattle.std.specs.List.{slice_split}
use Rattle.serde_json.specs.Find.{unescape}

-- `/`
abbrev pub is_slash : ℕ → Bool
is_slash c = c == 47

-- begins with `0` or `1`
abbrev pub is_escape : List ℕ → Bool
is_escape [] = false
is_escape (c ∷ cs) = c == 48 || c == 49

-- each `~` stands before `0` or `1`
abbrev pub is_escaped : List ℕ → Bool
is_escaped [] = true
is_escaped (c ∷ cs) = (not (c == 126) || is_escape cs) && is_escaped cs

-- empty, or `/` and what follows, escaped so
abbrev pub is_pointer : List ℕ → Bool
is_pointer [] = true
is_pointer (c ∷ cs) = is_slash c && is_escaped cs

-- the parts between `/`, with the escapes read
abbrev pub parts_of : List ℕ → List (List ℕ)
parts_of cs = map unescape (slice_split is_slash cs)

-- the steps of a pointer; another text has none
abbrev pub steps_of : List ℕ → List (List ℕ)
steps_of [] = []
steps_of (c ∷ cs) = if is_slash c then parts_of cs else []

-- the text with another in place of each byte c
abbrev pub replaced : ℕ → List ℕ → List ℕ → List ℕ
replaced c by [] = []
replaced c by (d ∷ ds) = (if d == c then by else d ∷ []) ++ replaced c by ds

-- a step as a pointer spells it
abbrev pub escaped : List ℕ → List ℕ
escaped s = replaced 47 (codes "~1") (replaced 126 (codes "~0") s)

-- the pointer of these steps
abbrev pub pointer_text : List (List ℕ) → List ℕ
pointer_text [] = []
pointer_text (s ∷ ss) = 47 ∷ escaped s ++ pointer_text ss
