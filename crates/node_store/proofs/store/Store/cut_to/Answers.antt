use Rattle.std.proofs.Common.{◌≡◌, ◌≤◌, ℕ, List, length, take, ap, arith, sym, ◌∙◌}
use Rattle.std.proofs.lemmas.Grind.{common_steps}
use Rattle.value_model.specs.declared.key.Key.{Key}
use Rattle.page_tables.specs.declared.cell.Cell.{Cell}
use Rattle.numbered.specs.Store.{used}
use Rattle.node_store.specs.declared.held.Held.{Held}
use Rattle.node_store.specs.Paged.{Paged, states, first, pages_after}
use Rattle.node_store.proofs.Grown.{store_of, many_states, used_take, used_standing, used_states, cut_kept}
use Rattle.node_store.proofs.store.Store.cut_to.Goals as goal

fewer : (hs gs : List Held) (n : ℕ) → gs ≡ take n hs → length hs ≤ 2097151 → length gs ≤ 2097151
fewer hs gs n e l = rw e (grind (arith, common_steps, l))

module _ (ps : List (List (Key × Cell))) (hs : List Held) (now : Paged) (n mark : ℕ) (view : store_of ps hs ≡ now) where
  most : mark ≤ length (states now) → n ≡ mark → n ≤ length hs
  most r e = let v = ap (λ (s : Paged). length (states s)) view in let many = many_states ps hs in grind (arith, r, e, v, many)

pub invariant_of-self : goal.invariant_of-self
invariant_of-self c =
    let ps = c.self.inside.pages in
    let hs = c.self.inside.nodes.items in
    let n = c.mark.inside.len in
    let k = cut_kept ps hs n c.pages_through-pages.result c.cut_to.new.self c.truncate.new.self.items c.self.invariant.named c.self.invariant.sound (most ps hs c.args.self.now n c.args.mark c.self.view_is c.requires c.mark.view_is) (c.pages_through-pages.ensures.value ∙ ap (λ (s : Paged). pages_after 0 s.nodes n) (sym c.self.view_is)) c.cut_to.ensures c.truncate.ensures.items in
    let whole = used_states ps hs c.self.inside.used c.self.invariant.used in
    let total = c.used_through-used.ensures ∙ ap (λ (s : Paged). used (take n (states s))) (sym c.self.view_is) in
    let less = used_take n (states (store_of ps hs)) in
    let light = c.self.invariant.light in
    record {
      named = k.named;
      sound = k.sound;
      used = used_standing c.cut_to.new.self c.truncate.new.self.items c.used_through-used.result (total ∙ ap used (sym k.states_are));
      few = fewer hs c.truncate.new.self.items n c.truncate.ensures.items c.self.invariant.few;
      light = omega (arith, whole, total, less, light);
    }

pub returns-clause-states : goal.returns-clause-states
returns-clause-states c =
    let ps = c.self.inside.pages in
    let hs = c.self.inside.nodes.items in
    let n = c.mark.inside.len in
    (cut_kept ps hs n c.pages_through-pages.result c.cut_to.new.self c.truncate.new.self.items c.self.invariant.named c.self.invariant.sound (most ps hs c.args.self.now n c.args.mark c.self.view_is c.requires c.mark.view_is) (c.pages_through-pages.ensures.value ∙ ap (λ (s : Paged). pages_after 0 s.nodes n) (sym c.self.view_is)) c.cut_to.ensures c.truncate.ensures.items).states_are
    ∙ ap (λ (s : Paged). take c.mark.inside.len (states s)) c.self.view_is
    ∙ ap (λ (n : ℕ). take n (states c.args.self.now)) c.mark.view_is

pub returns-clause-whole : goal.returns-clause-whole
returns-clause-whole c =
    let ps = c.self.inside.pages in
    let hs = c.self.inside.nodes.items in
    let n = c.mark.inside.len in
    (cut_kept ps hs n c.pages_through-pages.result c.cut_to.new.self c.truncate.new.self.items c.self.invariant.named c.self.invariant.sound (most ps hs c.args.self.now n c.args.mark c.self.view_is c.requires c.mark.view_is) (c.pages_through-pages.ensures.value ∙ ap (λ (s : Paged). pages_after 0 s.nodes n) (sym c.self.view_is)) c.cut_to.ensures c.truncate.ensures.items).whole
    ∙ ap (first c.mark.inside.len) c.self.view_is
    ∙ ap (λ (n : ℕ). first n c.args.self.now) c.mark.view_is
