-- The functions of a file and their faults, from lists.
use Rattle.std.proofs.Common.{◌≡◌, ◌∙◌, sym, subst, ap, refl, ℕ, ◌<◌, ◌≤◌, inl, inr, ⊎_elim, ◌↔◌, List, Option, Some, None}
use Rattle.std.proofs.Common.{Contains, AllPairs, All, slice_index_or, arith}
use Rattle.std.proofs.lemmas.Bool.{cases_lt}
use Rattle.std.proofs.lemmas.List.{get_or_default}
use Rattle.rb_bytes.specs.Fault.{fault_at, number_of}
use Rattle.rb_bytes.specs.declared.fault.Fault.{Fault}
use Rattle.rb_bytes.specs.declared.fault.Refusal.{Refusal}
use Rattle.rb_bytes.specs.declared.fault.Refusal.TheVariants as refusal
use Rattle.rb_bytes.specs.declared.fault.FaultKind.{FaultKind}
use Rattle.rb_bytes.specs.declared.fault.FaultKind.TheVariants.{BadEntry, BadInstruction, BareAuipc, BadTarget}
use Rattle.rv_code.specs.declared.inst.Inst.{Inst}
use Rattle.rv_code.specs.declared.placed.Placed.{Placed}
use Rattle.rv_code.specs.declared.placed.Func.{Func}
use Rattle.rv_code.specs.declared.placed.Role.{Role}
use Rattle.rv_code.specs.declared.placed.Role.TheVariants.{Plain, CallHi}
use Rattle.rv_code.specs.isa.Action.{action_of}
use Rattle.rv_code.specs.layout.Flow.{target, target_of}
use Rattle.elf_image.specs.declared.elf.Elf.{Elf}
use Rattle.elf_code.specs.FileCode.{AreStarts, AreRoles}
use Rattle.elf_code.specs.Parts.{IsCodePart, StartsIn, IsInstAt, IsWholePart}
use Rattle.elf_code.specs.Roles.{HasRole, RoleIs}
use Rattle.elf_code.specs.Functions.{AreInsts, IsFunctionPart, IsCodeAddress, IsFunction, AreFunctions}
use Rattle.rb_bytes.specs.FirstFault.{Lacks, LacksBelow, IsFree, IsAnswered, IsRefusalBy}
use Rattle.elf_code.specs.FunctionFaults.{IsBareAuipc, IsInsideInstruction, IsBadTarget, direct, pair, HasFunctionFault}
use Rattle.elf_image.specs.faults.LowestPlace.{IsLowest}
use Rattle.elf_image.proofs.LowestPlaces.{IsLowest-same}
use Rattle.code_starts.specs.declared.parts.Part.{Part}
use Rattle.code_starts.specs.Parts.{ArePartsApart}
use Rattle.code_starts.specs.WholeParts.{AreWholeParts}
use Rattle.code_starts.proofs.StartLists.{starts_inside}
use Rattle.code_starts.proofs.WholeLookup.{StartsIn-inside}
use Rattle.func_find.specs.FunctionParts.{AreFunctionParts}
use Rattle.func_find.specs.InstLists.{IsBareBefore, IsGoodBefore, IsFaultBefore, invalid, bare, IsFirstIn, IsFirstRefusal}
use Rattle.func_find.specs.InstLists.{IsPlacedAt, IsFunctionOf, AreFunctionsOf}
use Rattle.func_find.specs.Targets.{InSomePart, IsCodeIn, IsInsideIn, JumpsNowhere, CallsInside, IsMisled, HasMisled, IsBadStart}
use Rattle.func_find.proofs.Judged.{IsCodePart-function, HasValidInst-from, HasValidInst-before}

pub AreApart-functions : (elf : Elf) (tabled : List (ℕ × ℕ)) (parts : List Part) →
    AreFunctionParts elf tabled parts → ArePartsApart parts
AreApart-functions elf tabled parts are = record {
  has_bytes = λ k d within.
      let x = slice_index_or parts k d in
      (IsCodePart-function elf tabled x.start x.end (are.only x (k, within, get_or_default parts k x d within))).part.has_bytes;
  ordered = are.ordered;
}

pub code_parts_of : (elf : Elf) (tabled : List (ℕ × ℕ)) (parts : List Part) → AreFunctionParts elf tabled parts →
    All (λ p. IsCodePart elf p.start p.end) parts
code_parts_of elf tabled parts are = λ k d within.
    let x = slice_index_or parts k d in
    IsCodePart-function elf tabled x.start x.end (are.only x (k, within, get_or_default parts k x d within))

-- Code addresses.

pub IsCodeIn-address : (elf : Elf) (tabled : List (ℕ × ℕ)) (starts : List ℕ) (parts : List Part) → AreStarts elf starts →
    AreFunctionParts elf tabled parts → (a : ℕ) → IsCodeIn starts parts a ↔ IsCodeAddress elf tabled a
IsCodeIn-address elf tabled starts parts are functions a = (
  (λ is.
      let (p, holds) = is.held in
      let function = functions.only p holds.listed in
      record {
        start = p.start;
        end = p.end;
        function = function;
        starts = (StartsIn-inside elf starts p.start p.end are (IsCodePart-function elf tabled p.start p.end function) a).0
            (is.start, holds.above, holds.below);
      }),
  (λ is.
      let p : Part = record { start = is.start; end = is.end } in
      let (low, high) = starts_inside elf is.start is.end a is.starts in
      record {
        start = are.each a
            (record {
              start = is.start;
              end = is.end;
              is_start = record { part = IsCodePart-function elf tabled is.start is.end is.function; starts = is.starts };
            });
        held = (p, record { listed = functions.each p is.function; above = low; below = high });
      }),
)

IsInsideIn-instruction : (elf : Elf) (tabled : List (ℕ × ℕ)) (starts : List ℕ) (parts : List Part) → AreStarts elf starts →
    AreFunctionParts elf tabled parts → (a : ℕ) → IsInsideIn starts parts a ↔ IsInsideInstruction elf tabled a
IsInsideIn-instruction elf tabled starts parts are functions a =
    let (to, from) = IsCodeIn-address elf tabled starts parts are functions a in (
      (λ is.
          let (p, holds) = is.held in
          record {
            start = p.start;
            end = p.end;
            function = functions.only p holds.listed;
            above = holds.above;
            below = holds.below;
            no_code = λ code. is.no_start (from code).start;
          }),
      (λ is.
          let p : Part = record { start = is.start; end = is.end } in
          let held : InSomePart parts a =
          (p, record { listed = functions.each p is.function; above = is.above; below = is.below }) in
          record { held = held; no_start = λ start. is.no_code (to (record { start = start; held = held })) }),
    )

-- Roles.

role_of : (roles : List (ℕ × Role)) → AllPairs (λ r s. r.0 < s.0) roles → (a : ℕ) (r s : Role) → Contains roles (a, r) →
    Contains roles (a, s) → r ≡ s
role_of roles ordered a r s (j, within, at) (k, within', at') =
    let at_k : slice_index_or roles k (a, r) ≡ (a, s) = get_or_default roles k (a, r) (a, s) within' ∙ at' in
    ⊎_elim
    (λ (less : j < k).
    let up : (slice_index_or roles j (a, r)).0 < (slice_index_or roles k (a, r)).0 = ordered j k (a, r) less within' in
    let one = ap (λ (x : ℕ × Role). x.0) at in
    let other = ap (λ (x : ℕ × Role). x.0) at_k in
    absurd (omega arith))
    (λ (more : k ≤ j). ⊎_elim
    (λ (above : k < j).
    let up : (slice_index_or roles k (a, r)).0 < (slice_index_or roles j (a, r)).0 = ordered k j (a, r) above within in
    let one = ap (λ (x : ℕ × Role). x.0) at in
    let other = ap (λ (x : ℕ × Role). x.0) at_k in
    absurd (omega arith))
    (λ (not_above : j ≤ k).
    let e : j ≡ k = omega arith in
    ap (λ (x : ℕ × Role). x.1) (sym at ∙ ap (λ (i : ℕ). slice_index_or roles i (a, r)) e ∙ at_k))
    (cases_lt k j))
    (cases_lt j k)

role_is : (elf : Elf) (roles : List (ℕ × Role)) → AreRoles elf roles → (a : ℕ) (role is : Role) →
    HasRole elf a role → RoleIs elf a is → is ≡ role
role_is elf roles are a role is has (inl other) =
    role_of roles are.ordered a is role (are.each (a, is) other) (are.each (a, role) has)
role_is elf roles are a role is has (inr (none, plain)) = absurd (none has.relocation has.key role has.claims)

-- Bad targets.

misled_from : (elf : Elf) (tabled : List (ℕ × ℕ)) (starts : List ℕ) (roles : List (ℕ × Role)) (wholes parts : List Part)
    (funcs : List Func) → AreStarts elf starts → AreRoles elf roles → AreFunctionParts elf tabled parts →
    AreFunctionsOf elf wholes parts funcs → (place : ℕ) → IsBadTarget elf tabled place → HasMisled starts parts funcs place
misled_from elf tabled starts roles wholes parts funcs are are_roles functions made place bad = found bad
  where
    listed : (a : ℕ) → IsCodeAddress elf tabled a → (f : Func) × Contains funcs f
        × ((q : Placed) × Contains f.insts.items q × (q.addr ≡ a) × ((end : ℕ) × IsPlacedAt elf end q.addr q))
    listed a code =
        let p : Part = record { start = code.start; end = code.end } in
        let (f, in_funcs, is) = made.each p (functions.each p code.function) in
        let (q, in_insts, at) = is.insts.all a code.starts in
        (f, in_funcs, (q, in_insts, at, (code.end, (is.insts.each q in_insts).1)))

    misled : (f : Func) (q : Placed) → Contains funcs f → Contains f.insts.items q → q.addr ≡ place → IsMisled starts parts q →
        HasMisled starts parts funcs place
    misled f q (k, within, is) in_insts at wrong =
        (k, f, within, is, record { item = q; listed = in_insts; bad = wrong; place_is = at })

    found : IsBadTarget elf tabled place → HasMisled starts parts funcs place
    found (direct code inst bytes there to goes none) =
        let (f, in_funcs, (q, in_insts, at, (end, placed))) = listed place code in
        let same : inst ≡ q.inst = placed.only inst bytes (subst (λ (x : ℕ). IsInstAt elf x inst bytes) (sym at) there) in
        let aims : target_of q ≡ Some to =
        subst (λ (x : ℕ). target x (action_of q.inst) ≡ Some to) (sym at)
        (subst (λ (i : Inst). target place (action_of i) ≡ Some to) same goes) in
        misled f q in_funcs in_insts at
        (inl (record {
          to = to;
          target_is = aims;
          no_code = λ is. none ((IsCodeIn-address elf tabled starts parts are functions to).0 is);
        }))
    found (pair code to has inside) =
        let (f, in_funcs, (q, in_insts, at, (end, placed))) = listed place code in
        let is : q.role ≡ CallHi to =
        role_is elf roles are_roles q.addr (CallHi to) q.role
        (subst (λ (x : ℕ). HasRole elf x (CallHi to)) (sym at) has) placed.role in
        misled f q in_funcs in_insts at
        (inr
        (record { to = to; role_is = is; inside = (IsInsideIn-instruction elf tabled starts parts are functions to).1 inside }))

no_plain_call : (to : ℕ) → Plain ≡ CallHi to → ⊥
no_plain_call to is = cc

has_role : (elf : Elf) (a to : ℕ) (role : Role) → role ≡ CallHi to → RoleIs elf a role → HasRole elf a (CallHi to)
has_role elf a to role is (inl has) = subst (HasRole elf a) is has
has_role elf a to role is (inr (none, plain)) = absurd (no_plain_call to (sym plain ∙ is))

misled_to : (elf : Elf) (tabled : List (ℕ × ℕ)) (starts : List ℕ) (wholes parts : List Part) (funcs : List Func) →
    AreStarts elf starts →
    AreFunctionParts elf tabled parts → AreFunctionsOf elf wholes parts funcs → (place : ℕ) → HasMisled starts parts funcs place →
    IsBadTarget elf tabled place
misled_to elf tabled starts wholes parts funcs are functions made place (k, f, within, is, wrong) =
    let (p, in_parts, of) = made.only f (k, within, is) in
    let q = wrong.item in
    let (begins, placed) = of.insts.each q wrong.listed in
    let code : IsCodeAddress elf tabled q.addr =
    record { start = p.start; end = p.end; function = functions.only p in_parts; starts = begins } in
    subst (IsBadTarget elf tabled) wrong.place_is
    (⊎_elim
    (λ (jumps : JumpsNowhere starts parts q). direct code q.inst q.len placed.valid.before.is_inst jumps.to jumps.target_is
    (λ there. jumps.no_code ((IsCodeIn-address elf tabled starts parts are functions jumps.to).1 there)))
    (λ (calls : CallsInside starts parts q). pair code calls.to (has_role elf q.addr calls.to q.role calls.role_is placed.role)
    ((IsInsideIn-instruction elf tabled starts parts are functions calls.to).0 calls.inside))
    wrong.bad)

pub IsLowest-target : (elf : Elf) (tabled : List (ℕ × ℕ)) (starts : List ℕ) (roles : List (ℕ × Role)) (wholes parts : List Part)
    (funcs : List Func) (lowest : Option ℕ) → AreStarts elf starts → AreRoles elf roles → AreFunctionParts elf tabled parts →
    AreFunctionsOf elf wholes parts funcs → IsLowest (HasMisled starts parts funcs) lowest →
    IsLowest (HasFunctionFault elf tabled BadTarget) lowest
IsLowest-target elf tabled starts roles wholes parts funcs lowest are are_roles functions made =
    IsLowest-same lowest
    (misled_to elf tabled starts wholes parts funcs are functions made)
    (misled_from elf tabled starts roles wholes parts funcs are are_roles functions made)

pub IsLowest-entry : (elf : Elf) (tabled : List (ℕ × ℕ)) (starts : List ℕ) (parts : List Part) (lowest : Option ℕ) →
    AreStarts elf starts → AreFunctionParts elf tabled parts → IsLowest (IsBadStart starts parts elf.entry) lowest →
    IsLowest (HasFunctionFault elf tabled BadEntry) lowest
IsLowest-entry elf tabled starts parts lowest are functions =
    IsLowest-same lowest
    (λ place (none, is). record {
      is_entry = is;
      no_code = λ code. none
          ((IsCodeIn-address elf tabled starts parts are functions elf.entry).1 (subst (IsCodeAddress elf tabled) is code));
    })
    (λ place bad. (
      (λ code. bad.no_code
          (subst (IsCodeAddress elf tabled) (sym bad.is_entry)
          ((IsCodeIn-address elf tabled starts parts are functions elf.entry).0 code))),
      bad.is_entry,
    ))

-- Absent faults.

pub lacks_below_entry : (elf : Elf) (tabled : List (ℕ × ℕ)) → LacksBelow (HasFunctionFault elf tabled) 15
lacks_below_entry elf tabled BadEntry low = absurd (omega arith)
lacks_below_entry elf tabled BadInstruction low = absurd (omega arith)
lacks_below_entry elf tabled BareAuipc low = absurd (omega arith)
lacks_below_entry elf tabled BadTarget low = absurd (omega arith)
lacks_below_entry elf tabled _ low = λ place has. has

pub lacks_below_instruction : (elf : Elf) (tabled : List (ℕ × ℕ)) → Lacks (HasFunctionFault elf tabled) BadEntry →
    LacksBelow (HasFunctionFault elf tabled) 16
lacks_below_instruction elf tabled no_entry BadEntry low = no_entry
lacks_below_instruction elf tabled no_entry BadInstruction low = absurd (omega arith)
lacks_below_instruction elf tabled no_entry BareAuipc low = absurd (omega arith)
lacks_below_instruction elf tabled no_entry BadTarget low = absurd (omega arith)
lacks_below_instruction elf tabled no_entry _ low = λ place has. has

pub lacks_below_target : (elf : Elf) (tabled : List (ℕ × ℕ)) → Lacks (HasFunctionFault elf tabled) BadEntry →
    Lacks (HasFunctionFault elf tabled) BadInstruction → Lacks (HasFunctionFault elf tabled) BareAuipc →
    LacksBelow (HasFunctionFault elf tabled) 17
lacks_below_target elf tabled no_entry no_bad no_bare BadEntry low = no_entry
lacks_below_target elf tabled no_entry no_bad no_bare BadInstruction low = no_bad
lacks_below_target elf tabled no_entry no_bad no_bare BareAuipc low = no_bare
lacks_below_target elf tabled no_entry no_bad no_bare BadTarget low = absurd (omega arith)
lacks_below_target elf tabled no_entry no_bad no_bare _ low = λ place has. has

pub lacks_all : (elf : Elf) (tabled : List (ℕ × ℕ)) → Lacks (HasFunctionFault elf tabled) BadEntry →
    Lacks (HasFunctionFault elf tabled) BadInstruction → Lacks (HasFunctionFault elf tabled) BareAuipc →
    Lacks (HasFunctionFault elf tabled) BadTarget → IsFree (HasFunctionFault elf tabled)
lacks_all elf tabled no_entry no_bad no_bare no_target BadEntry = no_entry
lacks_all elf tabled no_entry no_bad no_bare no_target BadInstruction = no_bad
lacks_all elf tabled no_entry no_bad no_bare no_target BareAuipc = no_bare
lacks_all elf tabled no_entry no_bad no_bare no_target BadTarget = no_target
lacks_all elf tabled no_entry no_bad no_bare no_target _ = λ place has. has

pub lacks : (Has : ℕ → Type 0) (lowest : Option ℕ) → lowest ≡ None → IsLowest Has lowest → (place : ℕ) → Has place → ⊥
lacks Has None is none place has = none.least place has
lacks Has (Some l) is some place has = let no : Some l ≡ None = is in absurd (cc)

-- Bad instructions.

not_good : (elf : Elf) (tabled : List (ℕ × ℕ)) (parts : List Part) → AreFunctionParts elf tabled parts →
    ((p : Part) (a : ℕ) → Contains parts p → StartsIn elf p.start p.end a → IsGoodBefore elf p.end a) →
    Lacks (HasFunctionFault elf tabled) BadInstruction
not_good elf tabled parts functions all_good place bad =
    let p : Part = record { start = bad.start; end = bad.end } in
    let fine = all_good p place (functions.each p bad.function) bad.starts in
    bad.invalid fine.inst fine.bytes
    (HasValidInst-from elf bad.start bad.end place fine.inst fine.bytes
    (IsCodePart-function elf tabled bad.start bad.end bad.function) bad.starts fine.valid)

bare_before : (elf : Elf) (tabled : List (ℕ × ℕ)) (place : ℕ) → (bad : IsBareAuipc elf tabled place) →
    IsBareBefore elf bad.end place
bare_before elf tabled place bad =
    record {
      rd = bad.rd;
      imm = bad.imm;
      auipc = HasValidInst-before elf bad.start bad.end place _ 4 bad.auipc;
      no_role = bad.no_role;
    }

not_bare : (elf : Elf) (tabled : List (ℕ × ℕ)) (parts : List Part) → AreFunctionParts elf tabled parts →
    ((p : Part) (a : ℕ) → Contains parts p → StartsIn elf p.start p.end a → IsGoodBefore elf p.end a) →
    Lacks (HasFunctionFault elf tabled) BareAuipc
not_bare elf tabled parts functions all_good place bad =
    let p : Part = record { start = bad.start; end = bad.end } in
    let fine = all_good p place (functions.each p bad.function) bad.auipc.has.starts.starts in
    fine.not_bare (bare_before elf tabled place bad)

made_good : (elf : Elf) (wholes parts : List Part) (funcs : List Func) → AreFunctionsOf elf wholes parts funcs →
    (p : Part) (a : ℕ) →
    Contains parts p → StartsIn elf p.start p.end a → IsGoodBefore elf p.end a
made_good elf wholes parts funcs made p a listed starts =
    let (f, in_funcs, is) = made.each p listed in
    let (q, in_insts, at) = is.insts.all a starts in
    let placed = (is.insts.each q in_insts).1 in
    subst (IsGoodBefore elf p.end) at (record { inst = q.inst; bytes = q.len; valid = placed.valid; not_bare = placed.not_bare })

pub no_bad : (elf : Elf) (tabled : List (ℕ × ℕ)) (wholes parts : List Part) (funcs : List Func) →
    AreFunctionParts elf tabled parts →
    AreFunctionsOf elf wholes parts funcs →
    Lacks (HasFunctionFault elf tabled) BadInstruction × Lacks (HasFunctionFault elf tabled) BareAuipc
no_bad elf tabled wholes parts funcs functions made = (
  not_good elf tabled parts functions (made_good elf wholes parts funcs made),
  not_bare elf tabled parts functions
      (made_good elf wholes parts funcs made),
)

-- The first bad instruction is reported.
pub IsAnswered-first_bad : (elf : Elf) (tabled : List (ℕ × ℕ)) (parts : List Part) (fault : Fault) →
    AreFunctionParts elf tabled parts →
    Lacks (HasFunctionFault elf tabled) BadEntry → IsFirstIn elf parts fault → IsAnswered (HasFunctionFault elf tabled) fault
IsAnswered-first_bad elf tabled parts fault functions no_entry first = answered first.is
  where
    place : ℕ
    place = first.place

    function : IsFunctionPart elf tabled first.part.start first.part.end
    function = functions.only first.part first.listed

    code : IsCodePart elf first.part.start first.part.end
    code = IsCodePart-function elf tabled first.part.start first.part.end function

    least : (kind : FaultKind) (other : ℕ) → number_of kind ≡ 16 → HasFunctionFault elf tabled kind other → first.place ≤ other
    least BadEntry other number has = absurd (omega arith)
    least BadTarget other number has = absurd (omega arith)
    least BadInstruction other number has = ⊎_elim
        (λ (below : other < first.place).
        let p : Part = record { start = has.start; end = has.end } in
        let fine = first.earlier p other (functions.each p has.function) has.starts below in
        absurd (has.invalid fine.inst fine.bytes
        (HasValidInst-from elf has.start has.end other fine.inst fine.bytes
        (IsCodePart-function elf tabled has.start has.end has.function) has.starts fine.valid)))
        (λ (above : first.place ≤ other). above)
        (cases_lt other first.place)
    least BareAuipc other number has = ⊎_elim
        (λ (below : other < first.place).
        let p : Part = record { start = has.start; end = has.end } in
        let fine = first.earlier p other (functions.each p has.function) has.auipc.has.starts.starts below in
        absurd (fine.not_bare (bare_before elf tabled other has)))
        (λ (above : first.place ≤ other). above)
        (cases_lt other first.place)
    least _ other number has = absurd has

    answered : IsFaultBefore elf first.part.end first.place fault → IsAnswered (HasFunctionFault elf tabled) fault
    answered (invalid is none) = subst (IsAnswered (HasFunctionFault elf tabled)) (sym is) (record {
      present = record {
        start = first.part.start;
        end = first.part.end;
        function = function;
        starts = first.starts;
        invalid = λ inst bytes has. none inst bytes
            (HasValidInst-before elf first.part.start first.part.end first.place inst bytes has);
      };
      first = lacks_below_instruction elf tabled no_entry;
      lowest = least;
      alone = refl;
    })
    answered (bare is auipc) = subst (IsAnswered (HasFunctionFault elf tabled)) (sym is) (record {
      present = record {
        start = first.part.start;
        end = first.part.end;
        function = function;
        rd = auipc.rd;
        imm = auipc.imm;
        auipc = HasValidInst-from elf first.part.start first.part.end first.place _ 4 code first.starts auipc.auipc;
        no_role = auipc.no_role;
      };
      first = lacks_below_instruction elf tabled no_entry;
      lowest = least;
      alone = refl;
    })

-- A bad target is reported if there is no other fault.
least_target : (elf : Elf) (tabled : List (ℕ × ℕ)) (place : ℕ) → IsLowest (HasFunctionFault elf tabled BadTarget) (Some place) →
    (kind : FaultKind) (other : ℕ) → number_of kind ≡ 17 → HasFunctionFault elf tabled kind other → place ≤ other
least_target elf tabled place lowest BadEntry other number has = absurd (omega arith)
least_target elf tabled place lowest BadInstruction other number has = absurd (omega arith)
least_target elf tabled place lowest BareAuipc other number has = absurd (omega arith)
least_target elf tabled place lowest BadTarget other number has = lowest.least other has
least_target elf tabled place lowest _ other number has = absurd has

pub IsAnswered-target : (elf : Elf) (tabled : List (ℕ × ℕ)) (place : ℕ) → LacksBelow (HasFunctionFault elf tabled) 17 →
    IsLowest (HasFunctionFault elf tabled BadTarget) (Some place) →
    IsAnswered (HasFunctionFault elf tabled) (fault_at BadTarget place)
IsAnswered-target elf tabled place none lowest = record {
  present = lowest.present;
  first = none;
  lowest = least_target elf tabled place lowest;
  alone = refl;
}

-- The functions.

IsFunction-made : (elf : Elf) (tabled : List (ℕ × ℕ)) (wholes : List Part) (p : Part) (f : Func) →
    AreWholeParts elf tabled wholes → IsFunctionPart elf tabled p.start p.end → IsFunctionOf elf wholes p f →
    IsFunction elf tabled f
IsFunction-made elf tabled wholes p f are function made = record {
  part = subst (λ (s : ℕ). IsFunctionPart elf tabled s f.end) (sym made.start)
      (subst (IsFunctionPart elf tabled p.start) (sym made.end) function);
  whole = (
    (λ is. subst (λ (s : ℕ). IsWholePart elf tabled s f.end) (sym made.start)
        (subst (IsWholePart elf tabled p.start) (sym made.end) (are.only p (made.whole.0 is)))),
    (λ whole. made.whole.1
        (are.each p (subst (λ (s : ℕ). IsWholePart elf tabled s p.end) made.start
        (subst (IsWholePart elf tabled f.start) made.end whole)))),
  );
  insts = subst (λ (s : ℕ). AreInsts elf s f.insts.items f.end) (sym made.start)
      (subst (AreInsts elf p.start f.insts.items) (sym made.end) made.insts.follow);
}

pub AreFunctions-made : (elf : Elf) (tabled : List (ℕ × ℕ)) (wholes parts : List Part) (funcs : List Func) →
    AreWholeParts elf tabled wholes → AreFunctionParts elf tabled parts → AreFunctionsOf elf wholes parts funcs →
    AreFunctions elf tabled funcs
AreFunctions-made elf tabled wholes parts funcs are functions made = record {
  only = λ f listed. let (p, in_parts, is) = made.only f listed in
      IsFunction-made elf tabled wholes p f are (functions.only p in_parts) is;
  each = λ start end function.
      let (f, in_funcs, is) =
      made.each (record { start = start; end = end }) (functions.each (record { start = start; end = end }) function) in
      (f, in_funcs, is.start, is.end);
  ordered = λ i j d less within.
      let f = slice_index_or funcs i d in
      let (p, in_parts, is) = made.only f (i, omega arith, get_or_default funcs i f d (omega arith)) in
      let bytes = (IsCodePart-function elf tabled p.start p.end (functions.only p in_parts)).part.has_bytes in
      let start_is = is.start in
      let end_is = is.end in
      let order : f.end ≤ (slice_index_or funcs j d).start = made.ordered i j d less within in
      omega arith;
}

pub IsRefusalBy-first : (elf : Elf) (tabled : List (ℕ × ℕ)) (parts : List Part) (r : Refusal) →
    AreFunctionParts elf tabled parts →
    Lacks (HasFunctionFault elf tabled) BadEntry → IsFirstRefusal elf parts r → IsRefusalBy (HasFunctionFault elf tabled) r
IsRefusalBy-first elf tabled parts (refusal.Fault fault) functions no_entry first =
    IsAnswered-first_bad elf tabled parts fault functions no_entry first
IsRefusalBy-first elf tabled parts refusal.Memory functions no_entry first = tt
