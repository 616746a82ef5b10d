-- Facts on known results.
use Rattle.std.proofs.Common.{◌≡◌, sym, subst, true}
use Rattle.std.specs.Prelude.{Result, Ok, Err, IsOkAnd, OnErr}
use Rattle.std.specs.Result.{is_err}

pub from_err : {T E : Type 0} (P : Type 0) (r : Result T E) → is_err r ≡ true → OnErr r P → P
from_err P (Ok x) is p = absurd (cc)
from_err P (Err e) is p = p

pub ok_when : {X E : Type 0} (P : X → Type 0) (r : Result X E) (x : X) → r ≡ Ok x → P x → IsOkAnd r P
ok_when {X} {E} P r x e p = subst (λ (r : Result X E). IsOkAnd r P) (sym e) p

pub same_ok : {X E : Type 0} {x y : X} → ◌≡◌ {A = Result X E} (Ok x) (Ok y) → x ≡ y
same_ok e = cc
