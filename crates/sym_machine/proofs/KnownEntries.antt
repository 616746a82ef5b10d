-- The cache of instructions: its entries, and a step by one of them.
use Rattle.std.proofs.Common.{◌≡◌, ◌∙◌, ◌<◌, ℕ, List, Option, Some, None, sym, ap, refl, length, get_or, rules}
use Rattle.std.specs.Prelude.{replicate, option_map}
use Rattle.std.proofs.lemmas.List.{get_or-replicate, length-replicate}
use Rattle.std.proofs.lemmas.Option.{none-some, same_Some}
use Rattle.rv_code.specs.declared.inst.Inst.{Inst}
use Rattle.rv_code.specs.declared.placed.Func.{Func}
use Rattle.rv_code.specs.declared.placed.Placed.{Placed}
use Rattle.rv_code.specs.isa.Action.{action_of}
use Rattle.rv_code.specs.layout.Flow.{action_at}
use Rattle.rv_code.specs.machine.Machine.{plus}
use Rattle.sym_machine.specs.declared.known.Decoded.{Decoded}
use Rattle.sym_machine.specs.declared.known.KnownInst.{KnownInst}
use Rattle.sym_machine.specs.declared.outcome.Reason.TheVariants as reason
use Rattle.sym_machine.specs.SymStep.{SymState, SymOutcome, needs, effect, instruction, sym_step}
use Rattle.sym_machine.specs.internal.KnownInsts.{decoded_inst, IsKnown}

-- a cache whose entries are all equal, and correct
pub known_entries : (funcs : List Func) (entries : List KnownInst) (n : ℕ) (e : KnownInst) →
    entries ≡ replicate n e → IsKnown funcs e → (k : ℕ) (d : KnownInst) → k < length entries → IsKnown funcs (get_or entries k d)
known_entries funcs entries n e is known k d within = search (rules, length-replicate, get_or-replicate)

-- a cached action is the action of some instruction
pub decoded_action : (o : Option Placed) (d : Decoded) → option_map decoded_inst o ≡ Some d →
    (i : Inst) × (d.action ≡ action_of i)
decoded_action None d is = absurd (none-some d is)
decoded_action (Some p) d is = (p.inst, ap (λ (t : Decoded). t.action) (sym (same_Some (decoded_inst p) d is)))

-- A step by the instruction that was found.

abbrev does : List Func → SymState → Decoded → SymOutcome
does funcs s d = effect funcs d.role d.action (plus s.pc d.length) s

by_decoded : (funcs : List Func) (s : SymState) (o : Option Placed) →
    needs s reason.FellOff o (λ p. effect funcs p.role (action_at p) (plus s.pc p.len) s)
    ≡ needs s reason.FellOff (option_map decoded_inst o) (does funcs s)
by_decoded funcs s None = refl
by_decoded funcs s (Some p) = refl

pub step_by : (funcs : List Func) (s : SymState) (found : Option Decoded) →
    found ≡ option_map decoded_inst (instruction funcs s.pc) → sym_step funcs s ≡ needs s reason.FellOff found (does funcs s)
step_by funcs s found is =
    by_decoded funcs s (instruction funcs s.pc) ∙ ap (λ o. needs s reason.FellOff o (does funcs s)) (sym is)
