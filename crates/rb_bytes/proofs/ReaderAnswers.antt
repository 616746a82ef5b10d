-- A reader's result from its two tests.
use Rattle.std.proofs.Common.{◌≡◌, Bool, true, false, cond, Ok, Err, refl}

-- If the result is `Ok`, the first test failed.
pub ok_from_tests : {X E : Type 0} (short fits : Bool) (x y : X) (d e : E) →
    cond short (Err d) (cond fits (Ok x) (Err e)) ≡ Ok y → (short ≡ false) × (x ≡ y)
ok_from_tests true fits x y d e h = cc
ok_from_tests false true x y d e h = (refl, cc)
ok_from_tests false false x y d e h = cc
