use Rattle.std.proofs.Common.{◌∷◌, ◌++◌, [], List, ℕ, sym, subst}
use Rattle.page_tables.specs.Pages.{IsPage}
use Rattle.page_tables.specs.Rebuilt.{IsDone}
use Rattle.page_tables.proofs.RebuildLaws.{done_again}
use Rattle.page_tables.proofs.pages.Pages.again.Goals as goal

pub returns : goal.returns
returns c =
    let ps = c.args.self.now in
    let page = subst IsPage (c.page-rows.ensures.value []) c.page-rows.ensures.page in
    subst (λ ns. IsDone ps c.args.names.now.items ps ns c.args.number []) (sym c.in_ok-push.ensures.items) (done_again ps c.args.names.now.items c.args.number page c.requires.number c.requires.names)
