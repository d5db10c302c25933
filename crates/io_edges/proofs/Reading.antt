-- What a read takes from the front of the bytes left.
use Rattle.std.proofs.Common.{◌≡◌, ℕ, ◌+◌, ◌-◌, List, ◌++◌, length, take, drop, ap, sym, ◌∙◌, drop-drop}
use Rattle.std.proofs.lemmas.List.{take-append-drop, take_rest}

-- the bytes left are those given and those behind them
pub left_after : (bytes given : List ℕ) (from n : ℕ) → take n given ≡ take n (take (length bytes - from) (drop from bytes)) → drop from bytes ≡ take n given ++ drop (from + n) bytes
left_after bytes given from n copied =
    let front : take n given ≡ take n (drop from bytes) = copied ∙ ap (λ xs. take n xs) (take_rest bytes from) in
    sym (take-append-drop n (drop from bytes)) ∙ (λ i. sym front i ++ drop-drop n from bytes i)
