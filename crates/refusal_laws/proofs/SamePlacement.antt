-- Why code can't be placed is the same over two lists of functions with the same addresses and instructions.
use Rattle.std.proofs.Common.{◌≡◌, ◌<◌, ◌∙◌, sym, ap, subst, ℕ, ◌+◌, List, Some, Bool, false, length, map}
use Rattle.std.specs.Prelude.{◌==◌, ◌&&◌, Any, IsTrue, nat_le, nat_lt, not, slice_get, slice_index}
use Rattle.std.specs.Option.{option_map_or}
use Rattle.rb_bytes.specs.declared.fault.FaultKind.{FaultKind}
use Rattle.rb_bytes.specs.declared.fault.FaultKind.TheVariants as fault
use Rattle.rv_code.specs.declared.placed.Block.{Block}
use Rattle.rv_code.specs.declared.placed.Func.{Func}
use Rattle.rv_code.specs.declared.placed.Placed.{Placed}
use Rattle.rv_code.specs.layout.Flow.{action_at, falls, is_short, target_of}
use Rattle.rv_code.specs.layout.FunctionMembers.{function_at}
use Rattle.elf_readings.proofs.Alike.{any_alike}
use Rattle.func_place.specs.Faults.{HasPlacementFault, IsKeptBranch, IsLongUnit, leaves}
use Rattle.func_place.specs.Units.{AreTied, AreUnits, LeadsInto, LeadsNear, unit_sum}
use Rattle.refusal_laws.proofs.SameBlocks.{same_worst}
use Rattle.refusal_laws.proofs.SameFunctions.{View, same_position, same_size, twin, view}

-- the instruction at an index
abbrev pub inst_of_view : View → ℕ → Placed → Type 0
inst_of_view v i p = slice_get v.3 i ≡ Some p

module _ (fs gs : List Func) (same : map view fs ≡ map view gs) where
  same_function : (a : ℕ) → function_at fs a ≡ function_at gs a
  same_function a = same_position view fs gs same (λ (v : View). nat_le v.0 a && nat_lt a v.1)

  -- Functions that are tied.

  leads : (f g : Func) → view f ≡ view g → (i : ℕ) (p : Placed) (a : ℕ) → LeadsNear f i p a → LeadsNear g i p a
  leads f g is i p a (LeadsNear.jumps to) = LeadsNear.jumps to
  leads f g is i p a (LeadsNear.falls_into does to) =
      LeadsNear.falls_into (subst (λ (v : View). IsTrue (falls (action_at p) (i + 1 == length v.3))) is does) to

  into : (f g : ℕ) → LeadsInto fs f g → LeadsInto gs f g
  into f g l =
      let (func, is_func, is) = twin view fs gs same f l.func l.is_func in
      record {
        func = func;
        is_func = is_func;
        at = l.at;
        inst = l.inst;
        is_inst = subst (λ (v : View). inst_of_view v l.at l.inst) is l.is_inst;
        to = l.to;
        leads = leads l.func func is l.at l.inst l.to l.leads;
        into = sym (same_function l.to) ∙ l.into;
      }

  tied : (f g : ℕ) → AreTied fs f g → AreTied gs f g
  tied f k AreTied.itself = AreTied.itself
  tied f k (AreTied.onward {g = h} before one) = AreTied.onward (tied f h before) (into h k one)
  tied f k (AreTied.backward {g = h} before one) = AreTied.backward (tied f h before) (into k h one)

pub same_units : (fs gs : List Func) → map view fs ≡ map view gs → (units : List ℕ) → AreUnits fs units → AreUnits gs units
same_units fs gs same units are =
    let size = same_size fs gs same in
    record {
      len = are.len ∙ size;
      tied = λ f less. tied fs gs same f (slice_index units f) (are.tied f (subst (λ (n : ℕ). f < n) (sym size) less));
      lowest = λ f g less is. are.lowest f g (subst (λ (n : ℕ). f < n) (sym size) less) (tied gs fs (sym same) f g is);
    }

-- Placement faults.

module _ (fs gs : List Func) (same : map view fs ≡ map view gs) (blocks : List Block) where
  long_unit : (place : ℕ) → IsLongUnit fs blocks place → IsLongUnit gs blocks place
  long_unit place l =
      let (func, is_func, is) = twin view fs gs same l.unit l.func l.first in
      record {
        units = l.units;
        are_units = same_units fs gs same l.units l.are_units;
        unit = l.unit;
        func = func;
        first = is_func;
        start = sym (ap (λ (v : View). v.0) is) ∙ l.start;
        long = subst (λ (n : ℕ). 1000000 < n) (λ i. unit_sum l.units (λ b. same_worst fs gs same b i) blocks l.unit) l.long;
      }

  abbrev goes_out : View → Placed → Bool
  goes_out v p = (v.2 && is_short p) && option_map_or (λ a. not (nat_le v.0 a && nat_lt a v.1)) (target_of p) false

  kept_branch : (place : ℕ) → IsKeptBranch fs place → IsKeptBranch gs place
  kept_branch place =
      any_alike view (λ func. Any (λ p. (p.addr ≡ place) × IsTrue (leaves func p)) func.insts.items)
      (λ f g is. subst (λ (v : View). Any (λ (p : Placed). (p.addr ≡ place) × IsTrue (goes_out v p)) v.3) is) fs gs same

  pub same_placement : (kind : FaultKind) (place : ℕ) → HasPlacementFault fs blocks kind place →
      HasPlacementFault gs blocks kind place
  same_placement fault.UnitTooLong place has = long_unit place has
  same_placement fault.KeptBranch place has = kept_branch place has
  same_placement fault.NotElf place has = has
  same_placement fault.Truncated place has = has
  same_placement fault.Flags place has = has
  same_placement fault.NotStatic place has = has
  same_placement fault.ExecSegments place has = has
  same_placement fault.WritableCode place has = has
  same_placement fault.HighAddress place has = has
  same_placement fault.CompressedSection place has = has
  same_placement fault.RelocType place has = has
  same_placement fault.RelocMismatch place has = has
  same_placement fault.LoMismatch place has = has
  same_placement fault.NarrowDiff place has = has
  same_placement fault.IfuncOrPlt place has = has
  same_placement fault.AlreadyMoved place has = has
  same_placement fault.BadEntry place has = has
  same_placement fault.BadInstruction place has = has
  same_placement fault.BareAuipc place has = has
  same_placement fault.BadTarget place has = has
  same_placement fault.RegisteredFrames place has = has
  same_placement fault.FrameFault place has = has
  same_placement fault.DwarfVersion place has = has
  same_placement fault.DwarfForm place has = has
  same_placement fault.HighPcForm place has = has
  same_placement fault.DwarfFault place has = has
  same_placement fault.LineFault place has = has
  same_placement fault.NoRoom place has = has
  same_placement fault.TooLarge place has = has
