-- A read that moved some bytes into a buffer, whatever comes after them.
use Rattle.std.proofs.Common.{◌≡◌, ◌<◌, ◌≤◌, refl, ℕ, List, [], ◌∷◌, ◌++◌, length, take, drop, Bool, true, arith}
use Rattle.std.proofs.Common.{append-nil, take_all}
use Rattle.std.proofs.Math.Seq.{take-append_seam, drop-append_seam}
use Rattle.std.proofs.lemmas.Bool.{ltb-true, ltb-false}
use Rattle.std.proofs.lemmas.Grind.{common_steps}
use Rattle.run_core.specs.Inputs.{MayCome}

-- A read that gives fewer bytes than asked for gives all there are.
pub takes_all : (count : ℕ) (moved rest : List ℕ) (ends : Bool) → length moved ≤ count → (length moved < count → ends ≡ true) →
    MayCome ends rest → take count (moved ++ rest) ≡ moved
takes_all count moved rest ends few end may = grind (arith, common_steps, ltb-true, append-nil, take_all, ltb-false, take-append_seam)

pub drops_moved : (moved rest : List ℕ) → drop (length moved) (moved ++ rest) ≡ rest
drops_moved moved rest = drop-append_seam moved rest

-- A list that overwrites all of another one.
pub written_over : (xs ys : List ℕ) (n : ℕ) → n ≡ length xs → take n (xs ++ ys) ≡ xs
written_over xs ys n e = rw e (take-append_seam xs ys)

-- Nothing is read after the end.
pub none_read : (moved : List ℕ) (n : ℕ) → length moved ≡ n → n ≡ 0 → moved ≡ []
none_read [] n size none = refl
none_read (b ∷ bs) n size none = absurd (omega arith)
