-- Bytes that are read piece by piece.
use Rattle.std.proofs.Common.{◌≡◌, ◌+◌, ◌∙◌, sym, ap, ℕ, List, take, drop, ◌++◌}
use Rattle.std.proofs.lemmas.List.{take-append-drop, drop-drop}

-- The remaining bytes are the next n, and then the bytes after them.
pub drop-take-drop : (place n : ℕ) (bytes piece : List ℕ) → piece ≡ take n (drop place bytes) → drop place bytes ≡ piece
    ++ drop (place + n) bytes
drop-take-drop place n bytes piece same =
    sym (take-append-drop n (drop place bytes)) ∙ ap (λ front. front ++ drop n (drop place bytes)) (sym same)
    ∙ ap (λ rest. piece ++ rest) (drop-drop n place bytes)
