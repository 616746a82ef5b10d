-- A file is a faithful rewrite of itself, and its runs on the symbol machine are its own.
use Rattle.std.proofs.Common.{◌≡◌, ◌≢◌, ℕ, zero, suc, ◌+◌, ◌-◌, ◌<◌, ◌≤◌, Option, Some, None, Bool, true, false, refl, sym, ap}
use Rattle.std.proofs.Common.{◌∙◌, subst, arith, inr, ℤ}
use Rattle.std.specs.Prelude.{AllPairs, Contains, IfSome, IsTrue, find, if◌then◌else◌, is_some, nat_le, nat_lt, option_map, unwrap_or}
use Rattle.std.proofs.lemmas.Bool.{and_parts, eqb-true, leb-true, ltb-true}
use Rattle.std.proofs.lemmas.List.Elements.{All-map}
use Rattle.std.proofs.lemmas.Grind.{common_steps}
use Rattle.rv_code.specs.declared.action.Action.{Action}
use Rattle.rv_code.specs.declared.action.Action.TheVariants.{Branch, Compute, Jump, JumpTo, Load, Store, SystemCall, Breakpoint}
use Rattle.rv_code.specs.declared.action.Action.TheVariants.{Upper, UpperPc}
use Rattle.rv_code.specs.declared.action.Action.TheVariants as action
use Rattle.rv_code.specs.declared.inst.Inst.{Inst}
use Rattle.rv_code.specs.declared.inst.Inst.TheVariants.{Jal}
use Rattle.rv_code.specs.declared.placed.Placed.{Placed}
use Rattle.rv_code.specs.isa.Action.{action_of}
use Rattle.rv_code.specs.isa.TwosComplement.{unsigned64}
use Rattle.rv_code.specs.layout.Flow.{action_at, insts_of, is_call, placed_at, next_of}
use Rattle.rv_code.specs.layout.ProgramCode.{ProgramCode, is_code_address}
use Rattle.rv_code.specs.machine.Machine.{plus}
use Rattle.elf_image.specs.declared.elf.Elf.{Elf}
use Rattle.elf_code.specs.Parts.{IsInstAt}
use Rattle.rv_memory.specs.Start.{start}
use Rattle.rb_bytes.proofs.Searches.{find-found}
use Rattle.addr_map.specs.Spans.{IsPlaced, ShareNoByte, is_of}
use Rattle.addr_map.specs.declared.span.Span.{Span}
use Rattle.sym_machine.specs.SymStart.{program_start}
use Rattle.sym_machine.specs.declared.value.Pointer.TheVariants as pointer
use Rattle.move_law.specs.FaithfulRewrite.{GetsToNext, GoesOn, HasInSpan, IsFaithful, IsMapOf, KeepsAction, KeepsCell, KeepsInst}
use Rattle.move_law.specs.FaithfulRewrite.{made_anew, same}
use Rattle.move_law.specs.Laws.{IdentityIsFaithful, IdentityLaw, IsAcceptedCode, KeepsCode, RunsAreReal, identity, own_spans}
use Rattle.move_law.specs.Rewrite.{Goes, HasAt, Rewrite, inst_end, jumps, out, program, stays, width_at}
use Rattle.elf_image.specs.memory.Executables.{AreCodeBytes, executable_read}
use Rattle.move_law.specs.SimulationRelation.{SimulationRelation}
use Rattle.move_law.proofs.code.NextInst.{next_of_is}
use Rattle.move_law.proofs.identity.MadeAnew.{anew}
use Rattle.move_law.proofs.identity.CellContents.{cell_holds}
use Rattle.move_law.proofs.code.InstLists.{code_at, inst_at, length_of, found_at}
use Rattle.move_law.proofs.code.InstPlaces.{inst_code, inst_even, ordered, some_length}
use Rattle.move_law.proofs.files.EntryField.{entry_field}
use Rattle.move_law.proofs.files.Executables.{accepted_executable}
use Rattle.move_law.proofs.steps.Premises.{may_be_left_out}
use Rattle.move_law.proofs.identity.LockStep.{JumpStays, Same, same_run}
use Rattle.move_law.proofs.map.MappedPlaces.{place}
use Rattle.move_law.proofs.steps.Matching.{code_is_low}
use Rattle.move_law.proofs.code.FittingRoles.{has_code_facts}
use Rattle.move_law.proofs.steps.Start.{entry_is, entry_named, starts_related}
use Rattle.move_law.proofs.map.SymbolNumbers.{facts_of}
use Rattle.rb_bytes.proofs.ListLemmas.{all_of, from_map, in_map, pairs_in, pairs_map}

abbrev own : Placed → Span
own p = record { out = p.addr; len = p.len; input = p.addr }

jal_of : (i : Inst) (rd : ℕ) (imm : ℤ) → action_of i ≡ Jump rd imm → i ≡ Jal rd imm
jal_of (Jal rd' imm') rd imm e = cc
jal_of _ rd imm e = absurd (cc)

module _ (elf : Elf) (code : ProgramCode) (tight : Bool) (accepted : IsAcceptedCode elf code) where
  out_same : (a : ℕ) → out (identity elf code tight) a ≡ a
  out_same a = by (find (is_of a) (own_spans code)) refl
    where
      by : (o : Option Span) → find (is_of a) (own_spans code) ≡ o → unwrap_or (option_map (λ s. s.out) o) a ≡ a
      by None e = refl
      by (Some s) e =
          let found = find-found (is_of a) (own_spans code) s e in
          let (p, p_in, own_is) = from_map own (insts_of code.funcs) s found.1 in
          let here : s.input ≡ a = eqb-true s.input a found.0 in
          ap (λ (s : Span). s.out) (sym own_is) ∙ ap (λ (s : Span). s.input) own_is ∙ here

  inst_of : (p : Placed) → Contains (insts_of code.funcs) p → IsInstAt elf p.addr p.inst p.len
  inst_of p is_in = (inst_at elf accepted.tabled code accepted.code_is p is_in).inst

  width_is : (p : Placed) → Contains (insts_of code.funcs) p → width_at (executable_read elf) p.addr ≡ p.len
  width_is p is_in = length_of elf p.addr p.inst p.len (inst_of p is_in)

  some_width : (p : Placed) → Contains (insts_of code.funcs) p → 0 < p.len
  some_width p is_in = some_length elf p.addr p (inst_of p is_in)

  code_bytes : (p : Placed) → Contains (insts_of code.funcs) p → AreCodeBytes (executable_read elf) p.addr p.len
  code_bytes p is_in i inside = (inst_code elf code accepted p is_in i inside).byte

  -- The map.

  placed_in : (a : ℕ) → is_code_address code.funcs a ≡ true → (p : Placed) × Contains (insts_of code.funcs) p × (p.addr ≡ a)
  placed_in a there = by (placed_at code.funcs a) refl there
    where
      by : (o : Option Placed) → placed_at code.funcs a ≡ o → is_some o ≡ true →
          (p : Placed) × Contains (insts_of code.funcs) p × (p.addr ≡ a)
      by None e h = absurd (cc)
      by (Some p) e h = let f = found_at code.funcs a p e in (p, f.contains, f.at)

  own_placed : (p : Placed) → Contains (insts_of code.funcs) p → IsPlaced (own p)
  own_placed p is_in =
      let some = some_width p is_in in
      let above = (inst_code elf code accepted p is_in 0 some).above in
      inr (inst_even elf code accepted p is_in, omega (arith, above))

  order : AllPairs (λ p q. p.addr + p.len ≤ q.addr) (insts_of code.funcs)
  order = ordered elf code accepted

  map_is : IsMapOf (identity elf code tight)
  map_is = record {
    each = λ a there.
        let (p, p_in, at) = placed_in a there in
        let (k, within, is) = in_map own (insts_of code.funcs) p p_in in
        (k, own p, within, is, at);
    only =
        All-map (λ s. IsTrue (is_code_address code.funcs s.input)) own (insts_of code.funcs)
        (all_of (λ p. IsTrue (is_code_address code.funcs p.addr)) (insts_of code.funcs)
        (λ p p_in. code_at elf accepted.tabled code accepted.code_is p p_in));
    once =
        pairs_map (λ s t. s.input ≢ t.input) own (insts_of code.funcs)
        (pairs_in (λ p q. p.addr + p.len ≤ q.addr) (λ p q. p.addr ≢ q.addr) (insts_of code.funcs)
        (λ p q p_in q_in before e. let some = some_width p p_in in absurd (omega (arith, some, before, e))) order);
    placed = All-map IsPlaced own (insts_of code.funcs) (all_of (λ p. IsPlaced (own p)) (insts_of code.funcs) own_placed);
    disjoint =
        pairs_map ShareNoByte own (insts_of code.funcs)
        (pairs_in (λ p q. p.addr + p.len ≤ q.addr) (λ p q. ShareNoByte (own p) (own q)) (insts_of code.funcs)
        (λ p q p_in q_in before x in_p in_q.
        let end : x < p.addr + p.len =
        ltb-true x (p.addr + p.len) (and_parts (nat_le p.addr x) (nat_lt x (p.addr + p.len)) in_p).1 in
        let from : q.addr ≤ x = leb-true q.addr x (and_parts (nat_le q.addr x) (nat_lt x (q.addr + q.len)) in_q).0 in
        absurd (omega (arith, before, end, from))) order);
    named = λ a named.
        let (p, p_in, at) = placed_in a named.code_address in
        let (k, within, is) = in_map own (insts_of code.funcs) p p_in in
        (k, own p, within, is, (at, some_width p p_in));
  }

  -- Instructions.

  has_at : (p : Placed) → Contains (insts_of code.funcs) p → HasAt (executable_read elf) p.addr p.inst
  has_at p is_in = record {
    is_inst = subst (λ (n : ℕ). IsInstAt elf p.addr p.inst n) (sym (width_is p is_in)) (inst_of p is_in);
    code = subst (λ (n : ℕ). AreCodeBytes (executable_read elf) p.addr n) (sym (width_is p is_in)) (code_bytes p is_in);
  }

  has_in_span : (p : Placed) → Contains (insts_of code.funcs) p → (inst : Inst) → p.inst ≡ inst →
      HasInSpan (identity elf code tight) p inst
  has_in_span p is_in inst e = record {
    has =
        subst (λ (a : ℕ). HasAt (executable_read elf) a inst) (sym (out_same p.addr))
        (subst (λ (i : Inst). HasAt (executable_read elf) p.addr i) e (has_at p is_in));
    inside =
        let (k, within, is) = in_map own (insts_of code.funcs) p is_in in
        let width : width_at (executable_read elf) (out (identity elf code tight) p.addr) ≡ p.len =
        ap (width_at (executable_read elf)) (out_same p.addr) ∙ width_is p is_in in
        (k, own p, within, is, (refl, omega (arith, width)));
  }

  end_is : (p : Placed) → Contains (insts_of code.funcs) p → inst_end (identity elf code tight) p.addr ≡ p.addr + p.len
  end_is p is_in =
      let some = some_width p is_in in
      let last = (inst_code elf code accepted p is_in (p.len - 1) (omega (arith, some))).low in
      ap (λ (a : ℕ). plus a (width_at (executable_read elf) a)) (out_same p.addr)
      ∙ ap (plus p.addr) (width_is p is_in) ∙ omega (arith, some, last)

  gets_to_next : (p : Placed) → Contains (insts_of code.funcs) p →
      GetsToNext (identity elf code tight) Same p (inst_end (identity elf code tight) p.addr)
  gets_to_next p is_in = by (is_call (action_at p))
    where
      there : (a : ℕ) → a ≡ p.addr + p.len → inst_end (identity elf code tight) p.addr ≡ out (identity elf code tight) a
      there a e = end_is p is_in ∙ sym e ∙ sym (out_same a)

      low : plus p.addr p.len ≡ p.addr + p.len
      low =
          let some = some_width p is_in in
          let last = (inst_code elf code accepted p is_in (p.len - 1) (omega (arith, some))).low in
          omega (arith, some, last)

      after_call : (o : Option ℕ) → next_of code.funcs p.addr ≡ o →
          IfSome o (λ a. inst_end (identity elf code tight) p.addr ≡ out (identity elf code tight) a)
      after_call None e = tt
      after_call (Some a) e =
          there a
          (next_of_is elf code.funcs (λ f f_in. (accepted.code_is.funcs.only f f_in).insts) p.addr a e
          ∙ ap (λ (n : ℕ). p.addr + n) (width_is p is_in))

      at_end : (o : Option Placed) → placed_at code.funcs (plus p.addr p.len) ≡ o →
          IfSome (option_map (λ q. q.addr) o) (λ a. inst_end (identity elf code tight) p.addr ≡ out (identity elf code tight) a)
      at_end None e = tt
      at_end (Some q) e = there q.addr ((found_at code.funcs (plus p.addr p.len) q e).at ∙ low)

      by : (b : Bool) →
          IfSome (if b then next_of code.funcs p.addr else option_map (λ q. q.addr) (placed_at code.funcs (plus p.addr p.len)))
          (λ a. inst_end (identity elf code tight) p.addr ≡ out (identity elf code tight) a)
      by true = after_call (next_of code.funcs p.addr) refl
      by false = at_end (placed_at code.funcs (plus p.addr p.len)) refl

  target_same : (a : ℕ) (imm : ℤ) →
      plus (out (identity elf code tight) a) (unsigned64 imm) ≡ out (identity elf code tight) (plus a (unsigned64 imm))
  target_same a imm = ap (λ (x : ℕ). plus x (unsigned64 imm)) (out_same a) ∙ sym (out_same (plus a (unsigned64 imm)))

  plain : (p : Placed) → Contains (insts_of code.funcs) p →
      HasInSpan (identity elf code tight) p (made_anew (out (identity elf code tight)) p.addr p.role p.inst)
  plain p is_in =
      has_in_span p is_in (made_anew (out (identity elf code tight)) p.addr p.role p.inst)
      (subst (λ (new : ℕ → ℕ). p.inst ≡ made_anew new p.addr p.role p.inst) (λ i a. sym (out_same a) i)
      (sym (anew elf accepted.tabled code accepted.code_is accepted.no_fault p is_in)))

  jump_stays : (p : Placed) → Contains (insts_of code.funcs) p → (imm : ℤ) → action_at p ≡ Jump 0 imm →
      JumpStays (identity elf code tight) p imm
  jump_stays p is_in imm e = record {
    has = (has_in_span p is_in (Jal 0 imm) (jal_of p.inst 0 imm e)).has;
    goes_to = target_same p.addr imm;
  }

  kept : (p : Placed) → Contains (insts_of code.funcs) p → (a : Action) → action_at p ≡ a → may_be_left_out a ≡ false →
      KeepsAction (identity elf code tight) Same p a
  kept p is_in (Jump zero imm) e needed = absurd (cc)
  kept p is_in (Jump (suc rd) imm) e needed = record {
    imm = imm;
    has = has_in_span p is_in (Jal (suc rd) imm) (jal_of p.inst (suc rd) imm e);
    goes_to = target_same p.addr imm;
  }
  kept p is_in (Branch test wanted rs1 rs2 imm) e needed =
      same p.inst imm (has_in_span p is_in p.inst refl) e (target_same p.addr imm) (gets_to_next p is_in)
  kept p is_in (Compute o rd left right) e needed = plain p is_in
  kept p is_in (JumpTo rd rs1 imm) e needed = plain p is_in
  kept p is_in (Upper rd imm) e needed = plain p is_in
  kept p is_in (UpperPc rd imm) e needed = plain p is_in
  kept p is_in (Load x rd rs1 imm) e needed = plain p is_in
  kept p is_in (Store n rs1 rs2 imm) e needed = plain p is_in
  kept p is_in action.Fence e needed = plain p is_in
  kept p is_in SystemCall e needed = plain p is_in
  kept p is_in Breakpoint e needed = plain p is_in

  -- control that is at an address gets there
  weaker_next : (p : Placed) (from : ℕ) → GetsToNext (identity elf code tight) Same p from →
      GetsToNext (identity elf code tight) (Goes (executable_read elf)) p from
  weaker_next p from h = grind (arith, common_steps)

  weaker : (p : Placed) → Contains (insts_of code.funcs) p → (a : Action) → action_at p ≡ a →
      KeepsAction (identity elf code tight) (Goes (executable_read elf)) p a
  weaker p is_in (Jump zero imm) e = let j = jump_stays p is_in imm e in jumps imm j.has j.goes_to
  weaker p is_in (Branch test wanted rs1 rs2 imm) e =
      same p.inst imm (has_in_span p is_in p.inst refl) e (stays (target_same p.addr imm))
      (weaker_next p (inst_end (identity elf code tight) p.addr) (gets_to_next p is_in))
  weaker p is_in (Jump (suc rd) imm) e = kept p is_in (Jump (suc rd) imm) e refl
  weaker p is_in (Compute o rd left right) e = plain p is_in
  weaker p is_in (JumpTo rd rs1 imm) e = plain p is_in
  weaker p is_in (Upper rd imm) e = plain p is_in
  weaker p is_in (UpperPc rd imm) e = plain p is_in
  weaker p is_in (Load x rd rs1 imm) e = plain p is_in
  weaker p is_in (Store n rs1 rs2 imm) e = plain p is_in
  weaker p is_in action.Fence e = plain p is_in
  weaker p is_in SystemCall e = plain p is_in
  weaker p is_in Breakpoint e = plain p is_in

  faithful : IsFaithful (identity elf code tight)
  faithful = record {
    map = map_is;
    span_bytes =
        All-map (λ s. AreCodeBytes (executable_read elf) s.out s.len) own (insts_of code.funcs)
        (all_of (λ p. AreCodeBytes (executable_read elf) p.addr p.len) (insts_of code.funcs) code_bytes);
    insts =
        all_of (KeepsInst (identity elf code tight) (Goes (executable_read elf))) (insts_of code.funcs)
        (λ p is_in. weaker p is_in (action_at p) refl);
    goes_on =
        all_of (GoesOn (identity elf code tight) (Goes (executable_read elf))) (insts_of code.funcs)
        (λ p is_in _. weaker_next p (inst_end (identity elf code tight) p.addr) (gets_to_next p is_in));
    entry = sym (out_same elf.entry);
    bytes = λ a byte e. record {
      is_loaded = ap is_some e;
      rights = record { reads = refl; writes = refl; executes = refl };
      same = λ _. e;
    };
    cells = record {
      each = all_of (KeepsCell (identity elf code tight)) code.cells (λ cell cell_in.
          cell_holds elf code accepted (identity elf code tight) out_same cell (accepted.code_is.cells.only cell cell_in));
      entry = entry_field elf code accepted;
    };
    layout = record { table = λ _. record { place = refl; count = refl }; break_start_is = refl; break_bound_is = refl };
  }

pub identity_is_faithful : IdentityIsFaithful
identity_is_faithful elf code tight accepted = faithful elf code tight accepted

pub runs_are_real : RunsAreReal
runs_are_real elf code tight accepted args input fit n trace status run =
    let r : Rewrite = identity elf code tight in
    let keeps : KeepsCode r = record {
      accepted = accepted;
      output = accepted_executable elf code accepted;
      faithful = faithful elf code tight accepted;
    } in
    let known = (facts_of r keeps (has_code_facts elf code accepted)).facts in
    let started = starts_related r keeps args input fit in
    let related : SimulationRelation r Same (program_start (program r) args input) (start elf.file.now args input) = record {
      pc = λ there. (
        (rw (entry_is r keeps args fit) (place r keeps (pointer.Code r.input.entry) (entry_named r keeps args fit)).even),
        entry_is r keeps args fit,
      );
      rest = started.rest;
    } in
    same_run r
    (record {
      low = code_is_low r keeps;
      facts = record {
        symbols = known.symbols;
        spaces = known.spaces;
        here = λ p q e. e;
        insts = λ p is_in needed. kept elf code tight accepted p is_in (action_at p) refl needed;
        goes_on = λ p is_in _. gets_to_next elf code tight accepted p is_in;
        roles = known.roles;
      };
      jumps = jump_stays elf code tight accepted;
    })
    (program_start (program r) args input) (start elf.file.now args input) related n trace status run

pub identity_law : IdentityLaw
identity_law = record { faithful = identity_is_faithful; runs = runs_are_real }
