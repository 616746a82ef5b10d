-- The place at which the code of a file exceeds the first of its limits.
use Rattle.std.proofs.Common.{◌≡◌, refl, ℕ, ◌<◌, ◌≤◌, List, arith, length}
use Rattle.rb_bytes.specs.Fault.{fault_at}
use Rattle.rb_bytes.specs.declared.fault.Fault.{Fault}
use Rattle.rb_bytes.specs.declared.fault.FaultKind.TheVariants.{TooLarge}
use Rattle.rv_code.specs.declared.placed.Func.{Func}
use Rattle.program.specs.Limits.{HasTooMuchCode, IsCodeTooLarge, IsLimitFault, function_limit, many_functions, much_code}

module _ (file : List ℕ) (funcs : List Func) where
  from_size : (place : ℕ) → IsCodeTooLarge file funcs place → 2 ≤ place
  from_size place (much_code e much) = omega (arith, e)
  from_size place (many_functions e many) = omega (arith, e)

  pub at_size : (fault : Fault) → HasTooMuchCode file → fault ≡ fault_at TooLarge 2 →
      IsLimitFault (IsCodeTooLarge file funcs) fault
  at_size fault much is = record { place = 2; first = record { present = much_code refl much; least = from_size }; fault_is = is }

  module _ (little : HasTooMuchCode file → ⊥) where
    from_functions : (place : ℕ) → IsCodeTooLarge file funcs place → 3 ≤ place
    from_functions place (much_code e much) = absurd (little much)
    from_functions place (many_functions e many) = omega (arith, e)

    pub at_functions : (fault : Fault) → function_limit < length funcs → fault ≡ fault_at TooLarge 3 →
        IsLimitFault (IsCodeTooLarge file funcs) fault
    at_functions fault many is =
        record { place = 3; first = record { present = many_functions refl many; least = from_functions }; fault_is = is }

    pub within : length funcs ≤ function_limit → (place : ℕ) → IsCodeTooLarge file funcs place → ⊥
    within few place (much_code e much) = little much
    within few place (many_functions e many) = absurd (omega (arith, few, many))
