-- Paths, patches, patch lists and pairs: what is read is spelled so, and what is spelled is read again: laws.
use Rattle.std.proofs.Common.{◌≡◌, ℕ, zero, suc, ◌^◌, List, [], ◌∷◌, ◌++◌, length, Option, Some, None, refl, sym, ap, subst, ◌∙◌, append_assoc, arith}
use Rattle.std.specs.Prelude.{IfSome}
use Rattle.std.specs.Int.{w32, to_be_bytes}
use Rattle.std.specs.List.{flat_map, AllByRecursion}
use Rattle.std.proofs.lemmas.List.Concat.{flat_map-cons}
use Rattle.std.proofs.lemmas.Option.{IfSome_then}
use Rattle.value_model.specs.declared.key.Key.{Key}
use Rattle.value_model.specs.declared.op.Op.{Op}
use Rattle.value_model.specs.declared.op.Op.TheVariants.{Add, Replace, Remove}
use Rattle.value_model.specs.Plain.{Plain}
use Rattle.values.specs.declared.patch.Patch.{Patch}
use Rattle.values.specs.declared.patch.Pair.{Pair}
use Rattle.value_bytes_spec.specs.Numbers.{IsBytes}
use Rattle.value_bytes_spec.specs.Spelling.{key_bytes, value_bytes, IsValue, op_byte, optional_bytes, path_bytes, patch_bytes, patches_bytes, pair_bytes, IsPath, IsPatch, IsPatches, IsPair, CanSpellPatch, CanSpell}
use Rattle.value_bytes_spec.specs.Reading.{◌>>=◌, number_at, key_at, value_at, keys_at, path_at, op_at, optional_at, patch_at, patch_list_at, patches_at, pair_at}
use Rattle.value_bytes_spec.specs.Fields.{Takes}
use Rattle.value_bytes_spec.proofs.Fields.{IsBytes-rest, bind_some, some_is, Takes-then, Takes-nothing, Takes-byte, wide32, number_takes, number_again, key_takes, key_again}
use Rattle.value_bytes_spec.proofs.Values.{value_takes, value_again}
use Rattle.value_bytes_spec.specs.Lists.{IsWord}

-- ---- paths

keys_take : (n : ℕ) (bytes : List ℕ) (ks : List Key) (rest : List ℕ) → IsBytes bytes → keys_at n bytes ≡ Some (ks, rest) → Takes bytes (flat_map key_bytes ks) rest × (length ks ≡ n) × AllByRecursion IsWord ks
unfolding keys_at
keys_take zero bytes ks rest fits h =
    let made : List Key × List ℕ = ([], bytes) in
    subst (λ (q : List Key × List ℕ). Takes bytes (flat_map key_bytes q.0) q.1 × (length q.0 ≡ zero) × AllByRecursion IsWord q.0) (some_is made (ks, rest) h) (Takes-nothing bytes fits, refl, tt)
keys_take (suc n) bytes ks rest fits h =
    let a = bind_some (key_at bytes) (λ k. keys_at n k.1 >>= λ ks. Some (k.0 ∷ ks.0, ks.1)) (ks, rest) h in
    let b = bind_some (keys_at n a.0.1) (λ ks. Some (a.0.0 ∷ ks.0, ks.1)) (ks, rest) a.2 in
    let one = key_takes bytes a.0.0 a.0.1 fits a.1 in
    let more = keys_take n a.0.1 b.0.0 b.0.1 one.0.rest_fits b.1 in
    let both = Takes-then bytes (key_bytes a.0.0) a.0.1 (flat_map key_bytes b.0.0) b.0.1 one.0 more.0 in
    let made : List Key × List ℕ = (a.0.0 ∷ b.0.0, b.0.1) in
    subst (λ (q : List Key × List ℕ). Takes bytes (flat_map key_bytes q.0) q.1 × (length q.0 ≡ suc n) × AllByRecursion IsWord q.0) (some_is made (ks, rest) b.2) (rw flat_map-cons both, ap suc more.1, (one.1, more.2))

keys_again : (ks : List Key) (rest : List ℕ) → AllByRecursion IsWord ks → keys_at (length ks) (flat_map key_bytes ks ++ rest) ≡ Some (ks, rest)
unfolding keys_at
keys_again [] rest ok = refl
keys_again (k ∷ ks) rest ok =
    let grouped : flat_map key_bytes (k ∷ ks) ++ rest ≡ key_bytes k ++ (flat_map key_bytes ks ++ rest) = ap (λ (t : List ℕ). t ++ rest) (flat_map-cons key_bytes k ks) ∙ append_assoc (key_bytes k) (flat_map key_bytes ks) rest in
    ap (keys_at (suc (length ks))) grouped ∙ rw (key_again k (flat_map key_bytes ks ++ rest) ok.0, keys_again ks rest ok.1) refl

path_takes : (bytes : List ℕ) (ks : List Key) (rest : List ℕ) → IsBytes bytes → path_at bytes ≡ Some (ks, rest) → Takes bytes (path_bytes ks) rest × IsPath ks
unfolding path_at
path_takes bytes ks rest fits h =
    let a = bind_some (number_at w32 bytes) (λ n. keys_at n.0 n.1) (ks, rest) h in
    let count = number_takes w32 (2 ^ 32) wide32 bytes a.0.0 a.0.1 fits a.1 in
    let more = keys_take a.0.0 a.0.1 ks rest count.0.rest_fits a.2 in
    let both = Takes-then bytes (to_be_bytes w32 a.0.0) a.0.1 (flat_map key_bytes ks) rest count.0 more.0 in
    (subst (λ (n : ℕ). Takes bytes (to_be_bytes w32 n ++ flat_map key_bytes ks) rest) (sym more.1) both, record { count = omega (arith, more.1, count.1); words = more.2 })

path_again : (ks : List Key) (rest : List ℕ) → IsPath ks → path_at (path_bytes ks ++ rest) ≡ Some (ks, rest)
unfolding path_at
path_again ks rest ok =
    let grouped = append_assoc (to_be_bytes w32 (length ks)) (flat_map key_bytes ks) rest in
    ap path_at grouped ∙ rw (number_again w32 (2 ^ 32) wide32 (length ks) (flat_map key_bytes ks ++ rest) ok.count, keys_again ks rest ok.words) refl

-- ---- patches

op_takes : (bytes : List ℕ) (op : Op) (rest : List ℕ) → IsBytes bytes → op_at bytes ≡ Some (op, rest) → Takes bytes (op_byte op ∷ []) rest
unfolding op_at
op_takes [] op rest fits h = absurd cc
op_takes (zero ∷ bytes) op rest fits h = absurd cc
op_takes (suc zero ∷ bytes) op rest fits h = subst (λ (q : Op × List ℕ). Takes (1 ∷ bytes) (op_byte q.0 ∷ []) q.1) (some_is (Add, bytes) (op, rest) h) (record { parts = refl; rest_fits = IsBytes-rest 1 bytes fits })
op_takes (suc (suc zero) ∷ bytes) op rest fits h = subst (λ (q : Op × List ℕ). Takes (2 ∷ bytes) (op_byte q.0 ∷ []) q.1) (some_is (Replace, bytes) (op, rest) h) (record { parts = refl; rest_fits = IsBytes-rest 2 bytes fits })
op_takes (suc (suc (suc zero)) ∷ bytes) op rest fits h = subst (λ (q : Op × List ℕ). Takes (3 ∷ bytes) (op_byte q.0 ∷ []) q.1) (some_is (Remove, bytes) (op, rest) h) (record { parts = refl; rest_fits = IsBytes-rest 3 bytes fits })
op_takes (suc (suc (suc (suc b))) ∷ bytes) op rest fits h = absurd cc

op_again : (op : Op) (rest : List ℕ) → op_at (op_byte op ∷ rest) ≡ Some (op, rest)
unfolding op_at
op_again Add rest = refl
op_again Replace rest = refl
op_again Remove rest = refl

optional_takes : (bytes : List ℕ) (o : Option Plain) (rest : List ℕ) → IsBytes bytes → optional_at bytes ≡ Some (o, rest) → Takes bytes (optional_bytes o) rest × IfSome o IsValue
unfolding optional_at
optional_takes [] o rest fits h = absurd cc
optional_takes (zero ∷ bytes) o rest fits h =
    let made : Option Plain × List ℕ = (None, bytes) in
    subst (λ (q : Option Plain × List ℕ). Takes (0 ∷ bytes) (optional_bytes q.0) q.1 × IfSome q.0 IsValue) (some_is made (o, rest) h) (record { parts = refl; rest_fits = IsBytes-rest 0 bytes fits }, tt)
optional_takes (suc zero ∷ bytes) o rest fits h =
    let a = bind_some (value_at bytes) (λ v. Some (Some v.0, v.1)) (o, rest) h in
    let t = value_takes bytes a.0.0 a.0.1 (IsBytes-rest 1 bytes fits) a.1 in
    let made : Option Plain × List ℕ = (Some a.0.0, a.0.1) in
    subst (λ (q : Option Plain × List ℕ). Takes (1 ∷ bytes) (optional_bytes q.0) q.1 × IfSome q.0 IsValue) (some_is made (o, rest) a.2) (Takes-byte 1 bytes (value_bytes a.0.0) a.0.1 t.0, t.1)
optional_takes (suc (suc b) ∷ bytes) o rest fits h = absurd cc

optional_again : (o : Option Plain) (rest : List ℕ) → IfSome o IsValue → optional_at (optional_bytes o ++ rest) ≡ Some (o, rest)
unfolding optional_at
optional_again None rest ok = refl
optional_again (Some v) rest ok = rw (value_again v rest ok) refl

patch_takes : (bytes : List ℕ) (p : Patch) (rest : List ℕ) → IsBytes bytes → patch_at bytes ≡ Some (p, rest) → Takes bytes (patch_bytes p) rest × IsPatch p
unfolding patch_at
patch_takes bytes p rest fits h =
    let a = bind_some (op_at bytes) (λ op. path_at op.1 >>= λ path. optional_at path.1 >>= λ value. Some (record { op = op.0; path = path.0; value = value.0 }, value.1)) (p, rest) h in
    let b = bind_some (path_at a.0.1) (λ path. optional_at path.1 >>= λ value. Some (record { op = a.0.0; path = path.0; value = value.0 }, value.1)) (p, rest) a.2 in
    let c = bind_some (optional_at b.0.1) (λ value. Some (record { op = a.0.0; path = b.0.0; value = value.0 }, value.1)) (p, rest) b.2 in
    let op = op_takes bytes a.0.0 a.0.1 fits a.1 in
    let path = path_takes a.0.1 b.0.0 b.0.1 op.rest_fits b.1 in
    let value = optional_takes b.0.1 c.0.0 c.0.1 path.0.rest_fits c.1 in
    let behind = Takes-then a.0.1 (path_bytes b.0.0) b.0.1 (optional_bytes c.0.0) c.0.1 path.0 value.0 in
    let whole = Takes-then bytes (op_byte a.0.0 ∷ []) a.0.1 (path_bytes b.0.0 ++ optional_bytes c.0.0) c.0.1 op behind in
    let made : Patch × List ℕ = (record { op = a.0.0; path = b.0.0; value = c.0.0 }, c.0.1) in
    subst (λ (q : Patch × List ℕ). Takes bytes (patch_bytes q.0) q.1 × IsPatch q.0) (some_is made (p, rest) c.2) (whole, record { path = path.1; value = value.1 })

patch_again : (p : Patch) (rest : List ℕ) → IsPatch p → patch_at (patch_bytes p ++ rest) ≡ Some (p, rest)
unfolding patch_at
patch_again p rest ok =
    let grouped : (path_bytes p.path ++ optional_bytes p.value) ++ rest ≡ path_bytes p.path ++ (optional_bytes p.value ++ rest) = append_assoc (path_bytes p.path) (optional_bytes p.value) rest in
    ap (λ (t : List ℕ). patch_at (op_byte p.op ∷ t)) grouped ∙ rw (op_again p.op (path_bytes p.path ++ (optional_bytes p.value ++ rest)), path_again p.path (optional_bytes p.value ++ rest) ok.path, optional_again p.value rest ok.value) refl

-- ---- patch lists

list_takes : (n : ℕ) (bytes : List ℕ) (ps : List Patch) (rest : List ℕ) → IsBytes bytes → patch_list_at n bytes ≡ Some (ps, rest) → Takes bytes (flat_map patch_bytes ps) rest × (length ps ≡ n) × AllByRecursion IsPatch ps
unfolding patch_list_at
list_takes zero bytes ps rest fits h =
    let made : List Patch × List ℕ = ([], bytes) in
    subst (λ (q : List Patch × List ℕ). Takes bytes (flat_map patch_bytes q.0) q.1 × (length q.0 ≡ zero) × AllByRecursion IsPatch q.0) (some_is made (ps, rest) h) (Takes-nothing bytes fits, refl, tt)
list_takes (suc n) bytes ps rest fits h =
    let a = bind_some (patch_at bytes) (λ p. patch_list_at n p.1 >>= λ ps. Some (p.0 ∷ ps.0, ps.1)) (ps, rest) h in
    let b = bind_some (patch_list_at n a.0.1) (λ ps. Some (a.0.0 ∷ ps.0, ps.1)) (ps, rest) a.2 in
    let one = patch_takes bytes a.0.0 a.0.1 fits a.1 in
    let more = list_takes n a.0.1 b.0.0 b.0.1 one.0.rest_fits b.1 in
    let both = Takes-then bytes (patch_bytes a.0.0) a.0.1 (flat_map patch_bytes b.0.0) b.0.1 one.0 more.0 in
    let made : List Patch × List ℕ = (a.0.0 ∷ b.0.0, b.0.1) in
    subst (λ (q : List Patch × List ℕ). Takes bytes (flat_map patch_bytes q.0) q.1 × (length q.0 ≡ suc n) × AllByRecursion IsPatch q.0) (some_is made (ps, rest) b.2) (rw flat_map-cons both, ap suc more.1, (one.1, more.2))

list_again : (ps : List Patch) (rest : List ℕ) → AllByRecursion IsPatch ps → patch_list_at (length ps) (flat_map patch_bytes ps ++ rest) ≡ Some (ps, rest)
unfolding patch_list_at
list_again [] rest ok = refl
list_again (p ∷ ps) rest ok =
    let grouped : flat_map patch_bytes (p ∷ ps) ++ rest ≡ patch_bytes p ++ (flat_map patch_bytes ps ++ rest) = ap (λ (t : List ℕ). t ++ rest) (flat_map-cons patch_bytes p ps) ∙ append_assoc (patch_bytes p) (flat_map patch_bytes ps) rest in
    ap (patch_list_at (suc (length ps))) grouped ∙ rw (patch_again p (flat_map patch_bytes ps ++ rest) ok.0, list_again ps rest ok.1) refl

pub patches_take : (bytes : List ℕ) (ps : List Patch) (rest : List ℕ) → IsBytes bytes → patches_at bytes ≡ Some (ps, rest) → Takes bytes (patches_bytes ps) rest × IsPatches ps
unfolding patches_at
patches_take bytes ps rest fits h =
    let a = bind_some (number_at w32 bytes) (λ n. patch_list_at n.0 n.1) (ps, rest) h in
    let count = number_takes w32 (2 ^ 32) wide32 bytes a.0.0 a.0.1 fits a.1 in
    let more = list_takes a.0.0 a.0.1 ps rest count.0.rest_fits a.2 in
    let both = Takes-then bytes (to_be_bytes w32 a.0.0) a.0.1 (flat_map patch_bytes ps) rest count.0 more.0 in
    (subst (λ (n : ℕ). Takes bytes (to_be_bytes w32 n ++ flat_map patch_bytes ps) rest) (sym more.1) both, record { count = omega (arith, more.1, count.1); each = more.2 })

pub patches_again : (ps : List Patch) (rest : List ℕ) → IsPatches ps → patches_at (patches_bytes ps ++ rest) ≡ Some (ps, rest)
unfolding patches_at
patches_again ps rest ok =
    let grouped = append_assoc (to_be_bytes w32 (length ps)) (flat_map patch_bytes ps) rest in
    ap patches_at grouped ∙ rw (number_again w32 (2 ^ 32) wide32 (length ps) (flat_map patch_bytes ps ++ rest) ok.count, list_again ps rest ok.each) refl

-- what has a spelling may be written
can_spell_each : (ps : List Patch) → AllByRecursion IsPatch ps → AllByRecursion CanSpellPatch ps
can_spell_each [] ok = tt
can_spell_each (p ∷ ps) ok = (record { path = ok.0.path.count; value = IfSome_then p.value ok.0.value (λ v is. is.accepted) }, can_spell_each ps ok.1)

pub can_spell : (ps : List Patch) → IsPatches ps → CanSpell ps
can_spell ps ok = record { count = ok.count; each = can_spell_each ps ok.each }

-- ---- pairs

pub pair_takes : (bytes : List ℕ) (p : Pair) (rest : List ℕ) → IsBytes bytes → pair_at bytes ≡ Some (p, rest) → Takes bytes (pair_bytes p) rest × IsPair p
unfolding pair_at
pair_takes bytes p rest fits h =
    let a = bind_some (patches_at bytes) (λ forward. patches_at forward.1 >>= λ inverse. Some (record { forward = forward.0; inverse = inverse.0 }, inverse.1)) (p, rest) h in
    let b = bind_some (patches_at a.0.1) (λ inverse. Some (record { forward = a.0.0; inverse = inverse.0 }, inverse.1)) (p, rest) a.2 in
    let forward = patches_take bytes a.0.0 a.0.1 fits a.1 in
    let inverse = patches_take a.0.1 b.0.0 b.0.1 forward.0.rest_fits b.1 in
    let both = Takes-then bytes (patches_bytes a.0.0) a.0.1 (patches_bytes b.0.0) b.0.1 forward.0 inverse.0 in
    let made : Pair × List ℕ = (record { forward = a.0.0; inverse = b.0.0 }, b.0.1) in
    subst (λ (q : Pair × List ℕ). Takes bytes (pair_bytes q.0) q.1 × IsPair q.0) (some_is made (p, rest) b.2) (both, record { forward = forward.1; inverse = inverse.1 })

pub pair_again : (p : Pair) (rest : List ℕ) → IsPair p → pair_at (pair_bytes p ++ rest) ≡ Some (p, rest)
unfolding pair_at
pair_again p rest ok =
    let grouped = append_assoc (patches_bytes p.forward) (patches_bytes p.inverse) rest in
    ap pair_at grouped ∙ rw (patches_again p.forward (patches_bytes p.inverse ++ rest) ok.forward, patches_again p.inverse rest ok.inverse) refl
