-- A table made from another one by edits, page by page: laws.
use Rattle.std.proofs.Common.{◌≡◌, ℕ, zero, suc, ◌+◌, ◌-◌, ◌*◌, ◌<◌, ◌≤◌, List, [], ◌∷◌, ◌++◌, length, get_or, take, drop, refl, ap, sym, ◌∙◌, subst, arith, length-append, true, false}
use Rattle.std.specs.Prelude.{Bool, nat_lt, nat_eq, if◌then◌else◌, ⊤}
use Rattle.std.proofs.lemmas.List.{append-nil, append_assoc, drop_more, drop-drop}
use Rattle.std.proofs.lemmas.Grind.{common_steps, elements}
use Rattle.value_model.specs.declared.key.Key.{Key}
use Rattle.page_tables.specs.declared.cell.Cell.{Cell}
use Rattle.page_tables.specs.declared.row.Edit.{Edit}
use Rattle.page_tables.specs.Pages as pages
use Rattle.page_tables.specs.Pages.{IsPage, page, AllBelow, in_pages, numbers_from, IsGrown, Pushed}
use Rattle.page_tables.specs.Edits.{front, back, added, edited, last_key, AllUpto}
use Rattle.page_tables.specs.Rebuilt.{olds, no_more, mine, others, kept, unedited, AllInOrder, IsRebuilt, IsDone}
use Rattle.page_tables.proofs.PageLaws.{grown_refl, grown_then, grown_append, joined_filled, filled_most, few_pages, table_append, table_grown, table_added, below_append, below_more, below_added}
use Rattle.page_tables.proofs.EditLaws.{edited_apart, not_edited, few_added, few_edited, front_back}

pub olds_append : (n : ℕ) (ms ns : List ℕ) → olds n (ms ++ ns) ≡ olds n ms ++ olds n ns
olds_append n [] ns = refl
olds_append n (m ∷ ms) ns = elim (nat_lt m n) as (λ b. (if b then m ∷ olds n (ms ++ ns) else olds n (ms ++ ns)) ≡ (if b then m ∷ olds n ms else olds n ms) ++ olds n ns) [
  | true ↦ ap (λ (ks : List ℕ). m ∷ ks) (olds_append n ms ns)
  | false ↦ olds_append n ms ns
]

pub olds_added : (b n : ℕ) (qs : List (List (Key × Cell))) → b ≤ n → olds b (numbers_from n qs) ≡ []
olds_added b n [] h = refl
olds_added b n (q ∷ qs) h = let e : nat_lt n b ≡ false = grind (arith, h) in rw e (olds_added b (n + 1) qs (omega (arith, h)))

-- on the way: the pages and names so far, with the names and edits that are left, give all
pub record IsOnWay (ps : List (List (Key × Cell))) (base : List ℕ) (all : List Edit) (qs : List (List (Key × Cell))) (ms ns : List ℕ) (es : List Edit) : Type 0 where
  pub grown : IsGrown ps qs
  pub table : pages.table qs ms ++ edited (pages.table ps ns) es ≡ edited (pages.table ps base) all
  pub again : olds (length ps) ms ++ unedited ps ns es ≡ unedited ps base all
  pub few : length qs + 2 * length es ≤ length ps + 2 * length all
  pub below : AllBelow (length qs) ms
  pub given : AllBelow (length ps) ns
  pub order : AllInOrder ps ns
  pub fit : length qs + length (edited (pages.table ps ns) es) ≤ length ps + length (edited (pages.table ps base) all)

-- ---- one page
below_one : (n b : ℕ) → n < b → olds b (n ∷ []) ≡ n ∷ []
below_one n b h = let e : nat_lt n b ≡ true = grind (arith, h) in rw e refl

pub done_again : (ps : List (List (Key × Cell))) (ms : List ℕ) (n : ℕ) → IsPage (page ps n) → n < length ps → AllBelow (length ps) ms → IsDone ps ms ps (ms ++ n ∷ []) n []
done_again ps ms n p l b = record {
  rows = p;
  grown = grown_refl ps;
  names = table_append ps ms (n ∷ []) ∙ ap (λ (rs : List (Key × Cell)). pages.table ps ms ++ rs) (append-nil (page ps n) ∙ sym (not_edited (page ps n)));
  below = below_append (length ps) ms (n ∷ []) b (l, tt);
  few = omega arith;
  again = λ b h i. olds_append b ms (n ∷ []) ∙ ap (λ (ks : List ℕ). olds b ms ++ ks) (below_one n b i);
  fit = omega arith;
}

pub done_pushed : (ps : List (List (Key × Cell))) (ms : List ℕ) (qs : List (List (Key × Cell))) (ns : List ℕ) (n : ℕ) (es : List Edit) → IsPage (page ps n) → AllBelow (length ps) ms → 1 ≤ length es → Pushed ps ms qs ns (edited (page ps n) es) → IsDone ps ms qs ns n es
done_pushed ps ms qs ns n [] p b some h = absurd (omega (arith, some))
done_pushed ps ms qs ns n (e ∷ es) p b some h =
    let rs = edited (page ps n) (e ∷ es) in
    let more = in_pages rs in
    let grown : IsGrown ps qs = subst (IsGrown ps) (sym h.pages) (grown_append ps more) in
    let count : length qs ≡ length ps + length more = ap length h.pages ∙ length-append ps more in
    let new : pages.table qs (numbers_from (length ps) more) ≡ rs = ap (λ (us : List (List (Key × Cell))). pages.table us (numbers_from (length ps) more)) h.pages ∙ table_added ps more ∙ joined_filled [] rs in
    record {
      rows = p;
      grown = grown;
      names = ap (pages.table qs) h.names ∙ table_append qs ms (numbers_from (length ps) more) ∙ (λ i. table_grown ps qs ms grown b i ++ new i);
      below = subst (AllBelow (length qs)) (sym h.names) (below_append (length qs) ms (numbers_from (length ps) more) (below_more (length ps) (length qs) ms (grown.longer) b) (subst (λ k. AllBelow k (numbers_from (length ps) more)) (sym count) (below_added (length ps) more)));
      few = let most = filled_most [] rs (omega arith) in let rows = few_edited (page ps n) (e ∷ es) in let page = p.1 in omega (arith, most, rows, page, count);
      again = λ b i j. ap (olds b) h.names ∙ olds_append b ms (numbers_from (length ps) more) ∙ ap (λ (ks : List ℕ). olds b ms ++ ks) (olds_added b (length ps) more i);
      fit = let new = few_pages rs in omega (arith, new, count);
    }

-- ---- all pages
parted : (ps : List (List (Key × Cell))) (n : ℕ) (ns : List ℕ) (es : List Edit) → IsPage (page ps n) → AllUpto (last_key (page ps n)) (page ps n) → edited (page ps n ++ pages.table ps ns) es ≡ edited (page ps n) (mine (no_more ns) (page ps n) es) ++ edited (pages.table ps ns) (others (no_more ns) (page ps n) es)
parted ps n [] es p o = ap (λ (rs : List (Key × Cell)). edited rs es) (append-nil (page ps n)) ∙ sym (append-nil (edited (page ps n) es))
parted ps n (m ∷ ns) es p o = edited_apart (page ps n) (pages.table ps (m ∷ ns)) (last_key (page ps n)) es p.0 refl o

shares : (b : Bool) (p : List (Key × Cell)) (es : List Edit) → length (mine b p es) + length (others b p es) ≡ length es
shares true p es = omega arith
shares false p es = front_back (last_key p) es

pub on_way_start : (ps : List (List (Key × Cell))) (base : List ℕ) (all : List Edit) → AllBelow (length ps) base → AllInOrder ps base → IsOnWay ps base all ps [] base all
on_way_start ps base all b o = record {
  grown = grown_refl ps;
  table = refl;
  again = refl;
  few = omega arith;
  below = tt;
  given = b;
  order = o;
  fit = omega arith;
}

pub on_way_step : (ps : List (List (Key × Cell))) (base : List ℕ) (all : List Edit) (qs : List (List (Key × Cell))) (ms : List ℕ) (n : ℕ) (ns : List ℕ) (es : List Edit) (us : List (List (Key × Cell))) (ks : List ℕ) → IsOnWay ps base all qs ms (n ∷ ns) es → IsDone qs ms us ks n (mine (no_more ns) (page qs n) es) → IsOnWay ps base all us ks ns (others (no_more ns) (page qs n) es)
on_way_step ps base all qs ms n ns es us ks w d =
    let same : page qs n ≡ page ps n = w.grown.same n w.given.0 in
    let p : IsPage (page ps n) = subst IsPage same d.rows in
    let first = mine (no_more ns) (page ps n) es in
    let later = others (no_more ns) (page ps n) es in
    let whole = parted ps n ns es p w.order.0 in
    let names : pages.table us ks ≡ pages.table qs ms ++ edited (page ps n) first = d.names ∙ ap (λ (q : List (Key × Cell)). pages.table qs ms ++ edited q (mine (no_more ns) q es)) same in
    let again : olds (length ps) ks ≡ olds (length ps) ms ++ kept n first = d.again (length ps) w.grown.longer w.given.0 ∙ ap (λ (q : List (Key × Cell)). olds (length ps) ms ++ kept n (mine (no_more ns) q es)) same in
    let rest : others (no_more ns) (page qs n) es ≡ later = ap (λ (q : List (Key × Cell)). others (no_more ns) q es) same in
    let count = shares (no_more ns) (page qs n) es in
    record {
      grown = grown_then ps qs us w.grown d.grown;
      table = (λ i. names i ++ edited (pages.table ps ns) (rest i)) ∙ append_assoc (pages.table qs ms) (edited (page ps n) first) (edited (pages.table ps ns) later) ∙ ap (λ (rs : List (Key × Cell)). pages.table qs ms ++ rs) (sym whole) ∙ w.table;
      again = (λ i. again i ++ unedited ps ns (rest i)) ∙ append_assoc (olds (length ps) ms) (kept n first) (unedited ps ns later) ∙ w.again;
      few = let a = w.few in let b = d.few in omega (arith, a, b, count);
      below = d.below;
      given = w.given.1;
      order = w.order.1;
      fit =
          let a = w.fit in
          let b = d.fit in
          let all_rows = ap length whole in
          let parts = length-append (edited (page ps n) first) (edited (pages.table ps ns) later) in
          let here = ap (λ (q : List (Key × Cell)). length (edited q (mine (no_more ns) q es))) same in
          let there = ap (λ (gs : List Edit). length (edited (pages.table ps ns) gs)) rest in
          omega (arith, a, b, all_rows, parts, here, there);
    }

pub on_way_end : (ps : List (List (Key × Cell))) (base : List ℕ) (all : List Edit) (qs : List (List (Key × Cell))) (ms : List ℕ) (es : List Edit) (us : List (List (Key × Cell))) (ks : List ℕ) → IsOnWay ps base all qs ms [] es → Pushed qs ms us ks (added es) → IsRebuilt ps base all us ks
on_way_end ps base all qs ms es us ks w h =
    let rs = added es in
    let more = in_pages rs in
    let grown : IsGrown qs us = subst (IsGrown qs) (sym h.pages) (grown_append qs more) in
    let count : length us ≡ length qs + length more = ap length h.pages ∙ length-append qs more in
    let new : pages.table us (numbers_from (length qs) more) ≡ rs = ap (λ (vs : List (List (Key × Cell))). pages.table vs (numbers_from (length qs) more)) h.pages ∙ table_added qs more ∙ joined_filled [] rs in
    record {
      grown = grown_then ps qs us w.grown grown;
      table = ap (pages.table us) h.names ∙ table_append us ms (numbers_from (length qs) more) ∙ (λ i. table_grown qs us ms grown w.below i ++ new i) ∙ w.table;
      again = ap (olds (length ps)) h.names ∙ olds_append (length ps) ms (numbers_from (length qs) more) ∙ ap (λ (js : List ℕ). olds (length ps) ms ++ js) (olds_added (length ps) (length qs) more w.grown.longer) ∙ w.again;
      few = let most = filled_most [] rs (omega arith) in let rows = few_added es in let a = w.few in omega (arith, most, rows, a, count);
      fit = let fewer = few_pages rs in let a = w.fit in omega (arith, fewer, a, count);
      below = subst (AllBelow (length us)) (sym h.names) (below_append (length us) ms (numbers_from (length qs) more) (below_more (length qs) (length us) ms (grown.longer) w.below) (subst (λ k. AllBelow k (numbers_from (length qs) more)) (sym count) (below_added (length qs) more)));
    }

-- ---- by index
more_at : (xs : List ℕ) (j : ℕ) → j ≤ length xs → nat_eq j (length xs) ≡ no_more (drop j xs)
more_at [] zero h = refl
more_at [] (suc j) h = absurd (omega (arith, h))
more_at (x ∷ xs) zero h = grind arith
more_at (x ∷ xs) (suc j) h = grind (arith, more_at xs j (omega (arith, h)))

pub drop_past : (i : ℕ) (xs : List ℕ) → length xs ≤ i → drop i xs ≡ []
drop_past zero [] h = refl
drop_past zero (x ∷ xs) h = absurd (omega (arith, h))
drop_past (suc i) [] h = refl
drop_past (suc i) (x ∷ xs) h = drop_past i xs (omega (arith, h))

pub step_at : (ps : List (List (Key × Cell))) (base : List ℕ) (all : List Edit) (qs : List (List (Key × Cell))) (ms : List ℕ) (i at count d : ℕ) (us : List (List (Key × Cell))) (ks : List ℕ) (es fs : List Edit) → es ≡ drop at all → fs ≡ take count (drop at all) → IsOnWay ps base all qs ms (drop i base) (drop at all) → i < length base → IsDone qs ms us ks (get_or base i d) fs → take count es ≡ mine (nat_eq (i + 1) (length base)) (page qs (get_or base i d)) es → drop count es ≡ others (nat_eq (i + 1) (length base)) (page qs (get_or base i d)) es → IsOnWay ps base all us ks (drop (i + 1) base) (drop (at + count) all)
step_at ps base all qs ms i at count d us ks es fs e f way l done first later =
    let n = get_or base i d in
    let ns = drop (i + 1) base in
    let more : nat_eq (i + 1) (length base) ≡ no_more ns = more_at base (i + 1) (omega (arith, l)) in
    let w : IsOnWay ps base all qs ms (n ∷ ns) es = subst (λ js. IsOnWay ps base all qs ms js es) (drop_more base i d l) (subst (λ gs. IsOnWay ps base all qs ms (drop i base) gs) (sym e) way) in
    let mine_is : fs ≡ mine (no_more ns) (page qs n) es = f ∙ ap (take count) (sym e) ∙ first ∙ ap (λ (b : Bool). mine b (page qs n) es) more in
    let rest : others (no_more ns) (page qs n) es ≡ drop (at + count) all = ap (λ (b : Bool). others b (page qs n) es) (sym more) ∙ sym later ∙ ap (drop count) e ∙ drop-drop count at all in
    subst (λ gs. IsOnWay ps base all us ks ns gs) rest (on_way_step ps base all qs ms n ns es us ks w (subst (λ gs. IsDone qs ms us ks n gs) mine_is done))

-- at the end all names were gone through
pub end_at : (ps : List (List (Key × Cell))) (base : List ℕ) (all : List Edit) (qs : List (List (Key × Cell))) (ms : List ℕ) (i at : ℕ) (rs : List (Key × Cell)) (us : List (List (Key × Cell))) (ks : List ℕ) → rs ≡ added (drop at all) → IsOnWay ps base all qs ms (drop i base) (drop at all) → length base ≤ i → Pushed qs ms us ks rs → IsRebuilt ps base all us ks
end_at ps base all qs ms i at rs us ks e w l h =
    let none : drop i base ≡ [] = drop_past i base l in
    on_way_end ps base all qs ms (drop at all) us ks (subst (λ js. IsOnWay ps base all qs ms js (drop at all)) none w) (subst (λ rows. Pushed qs ms us ks rows) e h)

-- what the next page and its edits add has room
pub room_at : (ps : List (List (Key × Cell))) (base : List ℕ) (all : List Edit) (qs : List (List (Key × Cell))) (ms : List ℕ) (i at count d : ℕ) (es fs : List Edit) → es ≡ drop at all → fs ≡ take count (drop at all) → IsOnWay ps base all qs ms (drop i base) (drop at all) → i < length base → IsPage (page qs (get_or base i d)) → take count es ≡ mine (nat_eq (i + 1) (length base)) (page qs (get_or base i d)) es → length qs + length (edited (page qs (get_or base i d)) fs) ≤ length ps + length (edited (pages.table ps base) all)
room_at ps base all qs ms i at count d es fs e f way l p first =
    let n = get_or base i d in
    let ns = drop (i + 1) base in
    let more : nat_eq (i + 1) (length base) ≡ no_more ns = more_at base (i + 1) (omega (arith, l)) in
    let w : IsOnWay ps base all qs ms (n ∷ ns) es = subst (λ js. IsOnWay ps base all qs ms js es) (drop_more base i d l) (subst (λ gs. IsOnWay ps base all qs ms (drop i base) gs) (sym e) way) in
    let same : page qs n ≡ page ps n = w.grown.same n w.given.0 in
    let mine_is : fs ≡ mine (no_more ns) (page ps n) es = f ∙ ap (take count) (sym e) ∙ first ∙ (λ j. mine (more j) (same j) es) in
    let here : edited (page qs n) fs ≡ edited (page ps n) (mine (no_more ns) (page ps n) es) = (λ j. edited (same j) (mine_is j)) in
    let whole = ap length (parted ps n ns es (subst IsPage same p) w.order.0) in
    let parts = length-append (edited (page ps n) (mine (no_more ns) (page ps n) es)) (edited (pages.table ps ns) (others (no_more ns) (page ps n) es)) in
    let fits = w.fit in
    let rows = ap length here in
    omega (arith, fits, whole, parts, rows)
