-- Worked tables: a Map of three entries in two pages, after an edit at one key and another key taken away.
use Rattle.std.specs.Prelude.{◌≡◌, ℕ, pos, [], ◌∷◌, List, refl, None, Some}
use Rattle.value_model.specs.declared.key.Key.{Key}
use Rattle.value_model.specs.declared.key.Key.TheVariants.{Int}
use Rattle.page_tables.specs.declared.cell.Cell.{Cell}
use Rattle.page_tables.specs.declared.cell.Cell.TheVariants as cell
use Rattle.page_tables.specs.declared.row.Edit.{Edit}
use Rattle.page_tables.specs.Edits.{edited}
use Rattle.page_tables.specs.Pages.{table, starts, paged, in_pages}
use Rattle.page_tables.specs.Rebuilt.{olds, unedited}

k : ℕ → Key
k n = Int (pos n)

row : ℕ → ℕ → Key × Cell
row n m = (k n, cell.Prim (k m))

-- a page of two entries, one of one entry, and the first page after the edits
pages : List (List (Key × Cell))
pages = (row 1 10 ∷ row 2 20 ∷ []) ∷ (row 5 50 ∷ []) ∷ (row 2 21 ∷ []) ∷ []

edits : List Edit
edits = record { key = k 1; cell = None } ∷ record { key = k 2; cell = Some (cell.Prim (k 21)) } ∷ []

-- the second table names the second page again
after_edits : edited (table pages (0 ∷ 1 ∷ [])) edits ≡ table pages (2 ∷ 1 ∷ [])
unfolding pages row k edits
after_edits = refl

again : unedited pages (0 ∷ 1 ∷ []) edits ≡ 1 ∷ []
unfolding pages row k edits
again = refl

begin : starts 0 (paged pages (0 ∷ 1 ∷ [])) ≡ 0 ∷ 2 ∷ []
unfolding pages row k
begin = refl
