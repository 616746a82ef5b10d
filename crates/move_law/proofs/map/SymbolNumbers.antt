-- The numbers of the symbols that can occur in a run of the input.
use Rattle.std.proofs.Common.{◌≡◌, ℕ, ◌+◌, ◌/◌, ◌%◌, ◌^◌, ◌<◌, ◌≤◌, Option, Some, None, Bool, true, false, refl, sym}
use Rattle.std.proofs.Common.{ap, ◌∙◌, subst, arith, inl, inr, ◌⊎◌, ℤ, pos, negsuc, ◌+ℤ◌, ◌-ℤ◌, ◌*ℤ◌, ◌≤ℤ◌}
use Rattle.std.specs.Prelude.{IsSomeAnd, bit_xor}
use Rattle.std.specs.List.{Contains}
use Rattle.std.specs.Option.{option_map_or}
use Rattle.std.specs.Int.{int_shr, w8, w16, w32, cast_signed}
use Rattle.std.proofs.lemmas.Int.{ints}
use Rattle.std.specs.Int.Bits.{xor_self, xor_lt}
use Rattle.std.proofs.lemmas.Bool.{ltb-true, ltb-false, cases_lt}
use lib.Bits.{xor_assoc, xor_zero_r}
use Rattle.std.proofs.lemmas.List.Elements.{All-contains}
use Rattle.std.proofs.lemmas.Grind.{common_steps}
use Rattle.rv_code.specs.declared.action.Action.{Action}
use Rattle.rv_code.specs.declared.action.Action.TheVariants.{UpperPc}
use Rattle.rv_code.specs.declared.action.Extension.TheVariants.{Signed32}
use Rattle.rv_code.specs.declared.inst.Inst.{Inst}
use Rattle.rv_code.specs.declared.inst.Inst.TheVariants.{Auipc}
use Rattle.rv_code.specs.declared.op.Op.TheVariants as op
use Rattle.rv_code.specs.declared.placed.Placed.{Placed}
use Rattle.rv_code.specs.declared.placed.Role.{Role}
use Rattle.rv_code.specs.declared.placed.Role.TheVariants as role
use Rattle.rv_code.specs.isa.Action.{action_of}
use Rattle.rv_code.specs.layout.ProgramCode.{is_code_address, IsNamed}
use Rattle.rv_code.specs.isa.Extension.{extended}
use Rattle.rv_code.specs.layout.Flow.{insts_of, placed_at, action_at}
use Rattle.rv_code.specs.machine.Machine.{plus}
use Rattle.rv_code.specs.isa.Op.{apply}
use Rattle.rv_code.specs.isa.TwosComplement.{unsigned64}
use Rattle.rv_code.specs.layout.FunctionLists.{address_end}
use Rattle.sym_machine.specs.declared.value.Pointer.{Pointer}
use Rattle.sym_machine.specs.declared.value.Pointer.TheVariants as pointer
use Rattle.sym_machine.specs.declared.value.Comparing.{Comparing}
use Rattle.sym_machine.specs.declared.value.Comparing.TheVariants.{Sub, Xor}
use Rattle.sym_machine.specs.declared.value.Signedness.{Signedness}
use Rattle.sym_machine.specs.declared.value.Signedness.TheVariants.{Signed, Unsigned}
use Rattle.sym_machine.specs.declared.value.CodeSymbol.{CodeSymbol}
use Rattle.sym_machine.specs.declared.value.CodeSymbol.TheVariants.{Points, Hi, Abs, Diff, Apart}
use Rattle.sym_machine.specs.declared.value.Value.{Value}
use Rattle.sym_machine.specs.declared.value.Value.TheVariants.{Num, Sym, Piece}
use Rattle.sym_machine.specs.Values.{IsSymbol, op_of}
use Rattle.sym_machine.specs.Rules.{is_nonzero, is_unsigned}
use Rattle.move_law.specs.Rewrite.{Rewrite, width_at, out, Goes, stays}
use Rattle.move_law.specs.RelocatedValues.{distance, hi20_value, target_at, upper_target, number_of_pointer, number_of_symbol, extension_of}
use Rattle.move_law.specs.SimulationRelation.{IsGivenPointer, IsGiven, HasTarget, StandsFor}
use Rattle.move_law.specs.FaithfulRewrite.{made_anew, KeepsAction, KeepsInst, GoesOn}
use Rattle.move_law.specs.Laws.{KeepsCode}
use Rattle.move_law.proofs.values.Arithmetic.{Label, Symbols}
use Rattle.move_law.proofs.steps.Premises.{LowerFits, Fits}
use Rattle.move_law.proofs.steps.Instructions.{width_some}
use Rattle.move_law.proofs.steps.Matching.{RewriteFacts, HasFacts}
use Rattle.move_law.proofs.values.HiLoSums.{Within, upper_within, distance_within}
use Rattle.move_law.proofs.files.Rights.{spaces_same}
use Rattle.move_law.proofs.map.MappedPlaces.{place, code_once, ret_once, stays_put, code_place, named_span, in_span}
use Rattle.move_law.proofs.code.FittingRoles.{CodeFacts, RoleFits, Target, has_code_facts}
use Rattle.move_law.proofs.code.InstLists.{found_at}
use Rattle.rv_code.specs.isa.AddressParts.{IsAuipc}

-- Signed numbers of 32 bits.

pub record IsShort (n : ℕ) : Type 0 where
  pub fits : n < 2 ^ 64
  pub near : (n + 2 ^ 31) % 2 ^ 64 < 2 ^ 32

short_same : (n : ℕ) → IsShort n → extended Signed32 (n % 2 ^ 32) ≡ n
short_same n h = grind (arith, common_steps, ltb-true, ltb-false)

low_short : (n : ℕ) → n < 2 ^ 31 → IsShort n
low_short n h = record { fits = omega (arith, h); near = omega (arith, h) }

-- a number minus its upper part is from 0 to 4095
rest_within : (w : ℤ) → (pos 0 ≤ℤ (w -ℤ pos 4096 *ℤ int_shr w 12)) × ((w -ℤ pos 4096 *ℤ int_shr w 12) ≤ℤ pos 4095)
rest_within (pos a) = (omega (arith, ints), omega (arith, ints))
rest_within (negsuc a) = (omega (arith, ints), omega (arith, ints))

upper_of : (t o : ℕ) (z : ℤ) → t ≤ address_end → o ≤ address_end → Within (2 ^ 21) z →
    pos 0 ≤ℤ (distance t o +ℤ pos 0x800 -ℤ pos 4096 *ℤ z) → (distance t o +ℤ pos 0x800 -ℤ pos 4096 *ℤ z) ≤ℤ pos 4095 →
    IsShort (plus o (unsigned64 (pos 4096 *ℤ z)))
upper_of t o z h k w low high = grind (arith, common_steps, ints)

upper_short : (t o : ℕ) → t ≤ address_end → o ≤ address_end → IsShort (plus o (hi20_value (distance t o)))
upper_short t o h k = grind (arith, common_steps, rest_within, upper_of, upper_within, distance_within)

distance_short : (t o : ℕ) → t ≤ address_end → o ≤ address_end → IsShort (unsigned64 (distance t o))
distance_short t o h k = record { fits = omega (arith, ints, h, k); near = omega (arith, ints, h, k) }

absolute_low : (t : ℕ) → t ≤ address_end → hi20_value (pos t) < 2 ^ 31
absolute_low t h = omega (arith, h)

sub_short : (a b : ℕ) → a < 2 ^ 31 → b < 2 ^ 31 → IsShort (apply op.Sub a b)
sub_short a b h k = record { fits = omega arith; near = omega (arith, h, k) }

sub_above : (a b : ℕ) → a < 2 ^ 31 → b < 2 ^ 31 → (a ≡ b → ⊥) → 0 < apply op.Sub a b
sub_above a b h k n = omega (arith, h, k, n)

xor_above : (a b : ℕ) → (a ≡ b → ⊥) → 0 < apply op.Xor a b
xor_above a b n = elim (cases_lt 0 (bit_xor a b)) [
  | inl above ↦ above
  | inr none ↦ absurd (n (let z : bit_xor a b ≡ 0 = omega (arith, none) in
      let back : bit_xor (bit_xor a b) b ≡ a = xor_assoc a b b ∙ ap (bit_xor a) (xor_self b) ∙ xor_zero_r a in
      sym back ∙ ap (λ (x : ℕ). bit_xor x b) z))
]

abbrev IsUpperPc : Action → Type 0
IsUpperPc (UpperPc rd imm) = Unit {0}
IsUpperPc _ = ⊥

is_upper : (i : Inst) → IsAuipc i → IsUpperPc (action_of i)
is_upper (Auipc rd imm) h = tt
is_upper _ h = absurd h

signed8_fits : (x : ℕ) → x < 256 → unsigned64 (cast_signed w8 x) < 2 ^ 64
signed8_fits x h = grind (arith, common_steps)

signed16_fits : (x : ℕ) → x < 65536 → unsigned64 (cast_signed w16 x) < 2 ^ 64
signed16_fits x h = grind (arith, common_steps)

signed32_fits : (x : ℕ) → x < 4294967296 → unsigned64 (cast_signed w32 x) < 2 ^ 64
signed32_fits x h = grind (arith, common_steps)

-- Named addresses, in the output.

module _ (r : Rewrite) (keeps : KeepsCode r) (facts : CodeFacts r.code) where
  pub target_low : (t : ℕ) → Target r.code t → out r t ≤ address_end
  target_low t target = by (is_code_address r.code.funcs t) refl
    where
      by : (b : Bool) → is_code_address r.code.funcs t ≡ b → out r t ≤ address_end
      by true e =
          let low = (code_place r keeps t 1 (named_span r keeps t (target.named e)) (omega arith)).1 in omega (arith, low)
      by false e = let same = stays_put r keeps t e in let low = target.bounded e in omega (arith, same, low)

  pub label : (t : ℕ) → Target r.code t → Label r t
  label t target =
      let low = target_low t target in record { fits = omega (arith, low); named = target.named; stays = stays_put r keeps t }

  pub named_target : (t : ℕ) → IsNamed r.code t → Label r t
  named_target t named =
      let low = (code_place r keeps t 1 (named_span r keeps t named) (omega arith)).1 in
      record { fits = omega (arith, low); named = λ e. named; stays = stays_put r keeps t }

  -- an AUIPC of the input is in the output, at a low address
  auipc_low : (p : Placed) → Contains (insts_of r.code.funcs) p → IsAuipc p.inst → out r p.addr ≤ address_end
  auipc_low p contains is =
      by (action_at p) refl (is_upper p.inst is)
      (All-contains (KeepsInst r (Goes r.output)) (insts_of r.code.funcs) p keeps.faithful.insts contains)
    where
      by : (a : Action) → action_at p ≡ a → IsUpperPc (action_at p) → KeepsAction r (Goes r.output) p a →
          out r p.addr ≤ address_end
      by (UpperPc rd imm) e u k =
          let there = in_span r keeps p (made_anew (out r) p.addr p.role p.inst) k in
          let some = width_some r.output (out r p.addr) there.inst there.has in
          let low = (code_place r keeps p.addr (width_at r.output (out r p.addr)) there.span some).1 in
          omega (arith, low)
      by a e u k = absurd (subst IsUpperPc e u)

  -- an AUIPC with a target
  record Targeted (a : ℕ) : Type 0 where
    low : out r a ≤ address_end
    target : Target r.code (target_at r.code.funcs a)

  targeted : (a : ℕ) → IsGiven r (Hi a) → Targeted a
  targeted a given = by (placed_at r.code.funcs a) refl given
    where
      of : (p : Placed) → Contains (insts_of r.code.funcs) p → (role : Role) → p.role ≡ role → HasTarget role →
          RoleFits r.code role p.inst → IsAuipc p.inst × Target r.code (upper_target role)
      of p is_in (role.Hi t) e h f = f
      of p is_in (role.CallHi t) e h f = f
      of p is_in role.Plain e h f = absurd h
      of p is_in (role.Lo hi t) e h f = absurd h
      of p is_in (role.CallLo hi t) e h f = absurd h
      of p is_in (role.AbsHi t) e h f = absurd h
      of p is_in (role.AbsLo t) e h f = absurd h

      by : (o : Option Placed) → placed_at r.code.funcs a ≡ o → IsSomeAnd o (λ p. HasTarget p.role) → Targeted a
      by None e h = absurd h
      by (Some p) e h =
          let at = found_at r.code.funcs a p e in
          let f = of p at.contains p.role refl h (facts.roles p at.contains) in
          let target_is : target_at r.code.funcs a ≡ upper_target p.role =
          ap (λ (o : Option Placed). option_map_or (λ p. upper_target p.role) o 0) e in
          let low = auipc_low p at.contains f.0 in
          let same : out r p.addr ≡ out r a = ap (λ (n : ℕ). out r n) at.at in
          record { low = omega (arith, low, same); target = subst (Target r.code) (sym target_is) f.1 }

  -- each symbol's number fits in 32 bits
  short : (y : CodeSymbol) → IsGiven r y → IsShort (number_of_symbol r y)
  short (Points p) given = low_short (number_of_pointer r p) (place r keeps p given).low
  short (Hi a) given =
      let t = targeted a given in upper_short (out r (target_at r.code.funcs a)) (out r a)
      (target_low (target_at r.code.funcs a) t.target) t.low
  short (Abs t) given =
      low_short (hi20_value (pos (out r t)))
      (absolute_low (out r t)
      (let low = (code_place r keeps t 1 (named_span r keeps t (facts.abs t given)) (omega arith)).1 in omega (arith, low)))
  short (Diff to from) given =
      let f = facts.diffs to from given in distance_short (out r to) (out r from) (target_low to f.0) (target_low from f.1)
  short (Apart Sub p q) given =
      sub_short (number_of_pointer r p) (number_of_pointer r q) (place r keeps p given.0).low (place r keeps q given.1).low
  short (Apart Xor p q) given =
      low_short (bit_xor (number_of_pointer r p) (number_of_pointer r q))
      (xor_lt 31 (number_of_pointer r p) (number_of_pointer r q) (place r keeps p given.0).low (place r keeps q given.1).low)

  unsigned : (y : CodeSymbol) → IsGiven r y → is_unsigned y ≡ true → number_of_symbol r y < 2 ^ 32
  unsigned (Points p) given e = let low = (place r keeps p given).low in omega (arith, low)
  unsigned (Abs t) given e =
      let low =
      absolute_low (out r t)
      (let low = (code_place r keeps t 1 (named_span r keeps t (facts.abs t given)) (omega arith)).1 in
      omega (arith, low)) in omega (arith, low)
  unsigned (Hi a) given e = absurd (cc)
  unsigned (Diff to from) given e = absurd (cc)
  unsigned (Apart by p q) given e = absurd (cc)

  apart_above : (by : Comparing) (p q : Pointer) → IsGivenPointer r p → IsGivenPointer r q →
      (number_of_pointer r p ≡ number_of_pointer r q → ⊥) → 0 < apply (op_of by) (number_of_pointer r p) (number_of_pointer r q)
  apart_above Sub p q g h n =
      sub_above (number_of_pointer r p) (number_of_pointer r q) (place r keeps p g).low (place r keeps q h).low n
  apart_above Xor p q g h n = xor_above (number_of_pointer r p) (number_of_pointer r q) n

  nonzero : (y : CodeSymbol) → IsSymbol y → IsGiven r y → is_nonzero (Sym y) ≡ true → 0 < number_of_symbol r y
  nonzero (Points p) s given e = (place r keeps p given).above
  nonzero (Apart by (pointer.Code a) (pointer.Code b)) s given e =
      apart_above by (pointer.Code a) (pointer.Code b) given.0 given.1 (λ same. s (code_once r keeps a b given.0 given.1 same))
  nonzero (Apart by (pointer.Ret a) (pointer.Ret b)) s given e =
      apart_above by (pointer.Ret a) (pointer.Ret b) given.0 given.1 (λ same. s (ret_once r keeps a b given.0 given.1 same))
  nonzero (Apart by (pointer.Code a) (pointer.Ret b)) s given e = absurd s
  nonzero (Apart by (pointer.Ret a) (pointer.Code b)) s given e = absurd s
  nonzero (Hi a) s given e = absurd (cc)
  nonzero (Abs t) s given e = absurd (cc)
  nonzero (Diff to from) s given e = absurd (cc)

  piece_fits : (n m : ℕ) (e : Signedness) → (n ≡ 1) ⊎ ((n ≡ 2) ⊎ (n ≡ 4)) → extended (extension_of n e) (m % 256 ^ n) < 2 ^ 64
  piece_fits n m Unsigned (inl e) = rw e (omega arith)
  piece_fits n m Unsigned (inr (inl e)) = rw e (omega arith)
  piece_fits n m Unsigned (inr (inr e)) = rw e (omega arith)
  piece_fits n m Signed (inl e) = rw e (signed8_fits (m % 256 ^ 1) (omega arith))
  piece_fits n m Signed (inr (inl e)) = rw e (signed16_fits (m % 256 ^ 2) (omega arith))
  piece_fits n m Signed (inr (inr e)) = rw e (signed32_fits (m % 256 ^ 4) (omega arith))

  value_fits : (v : Value) (x : ℕ) → StandsFor r v x → ((n : ℕ) → v ≡ Num n → ⊥) → x < 2 ^ 64
  value_fits (Num n) x h apart = absurd (apart n refl)
  value_fits (Sym y) x h apart = rw h.number (short y h.given).fits
  value_fits (Piece y w i n e) x h apart = rw h.number (piece_fits n (number_of_symbol r y / 256 ^ i) e (h.value.1).1)

  pub symbols : Symbols r
  symbols = record {
    place = place r keeps;
    code_once = code_once r keeps;
    ret_once = ret_once r keeps;
    labels = λ to from given. let f = facts.diffs to from given in (label to f.0, label from f.1);
    fits = λ y s given. (short y given).fits;
    short = λ y s given. short_same (number_of_symbol r y) (short y given);
    unsigned = λ y s given. unsigned y given;
    nonzero = nonzero;
    value_fits = value_fits;
  }

  -- roles
  lower_fits : (hi target : ℕ) → Target r.code target →
      ((q : Placed) → placed_at r.code.funcs hi ≡ Some q → HasTarget q.role → upper_target q.role ≡ target) →
      LowerFits r hi target
  lower_fits hi target t same = record { label = label target t; same = by }
    where
      by : IsGiven r (Hi hi) → (target_at r.code.funcs hi ≡ target) × (out r hi < 2 ^ 31)
      by given = (at (placed_at r.code.funcs hi) refl given, (let low = (targeted hi given).low in omega (arith, low)))
        where
          at : (o : Option Placed) → placed_at r.code.funcs hi ≡ o → IsSomeAnd o (λ p. HasTarget p.role) →
              target_at r.code.funcs hi ≡ target
          at None e h = absurd h
          at (Some q) e h = ap (λ (o : Option Placed). option_map_or (λ p. upper_target p.role) o 0) e ∙ same q e h

  fits : (p : Placed) → Contains (insts_of r.code.funcs) p → (role : Role) → p.role ≡ role → RoleFits r.code role p.inst →
      Fits r p.addr role p.inst
  fits p is_in role.Plain e f = tt
  fits p is_in (role.Hi t) e f =
      (f.0, record { low = (let low = auipc_low p is_in f.0 in omega (arith, low)); label = label t f.1 })
  fits p is_in (role.CallHi t) e f =
      (f.0, record { low = (let low = auipc_low p is_in f.0 in omega (arith, low)); label = label t f.1 })
  fits p is_in (role.Lo hi t) e f = (f.0, lower_fits hi t f.1 f.2)
  fits p is_in (role.CallLo hi t) e f = (f.0, lower_fits hi t f.1 f.2)
  fits p is_in (role.AbsHi t) e f = (f.0, f.2, named_target t f.1)
  fits p is_in (role.AbsLo t) e f = (f.0, f.1, named_target t f.1)

  pub facts_of : RewriteFacts r
  facts_of = record {
    facts = record {
      symbols = symbols;
      spaces = spaces_same r keeps;
      here = λ p q e. stays e;
      insts = λ p is_in _. every p is_in;
      goes_on = λ p is_in. All-contains (GoesOn r (Goes r.output)) (insts_of r.code.funcs) p keeps.faithful.goes_on is_in;
      roles = λ p is_in. fits p is_in p.role refl (facts.roles p is_in);
    };
    every = every;
  }
    where
      every : (p : Placed) → Contains (insts_of r.code.funcs) p → KeepsInst r (Goes r.output) p
      every p is_in = All-contains (KeepsInst r (Goes r.output)) (insts_of r.code.funcs) p keeps.faithful.insts is_in

pub rewrite_facts : HasFacts
rewrite_facts r keeps = facts_of r keeps (has_code_facts r.input r.code keeps.accepted)
