-- Decides which parts are functions.
use Rattle.std.proofs.Common.{◌≡◌, ◌∙◌, sym, subst, ap, refl, ℕ, ◌+◌, ◌-◌, ◌<◌, ◌≤◌, ⊎_elim, ◌↔◌, true, List, Option, length}
use Rattle.std.proofs.Common.{slice_index_or, take, arith, ◌==◌, ◌%◌, Bool, false, if◌then◌else◌}
use Rattle.std.specs.Prelude.{unwrap_or}
use Rattle.std.specs.List.{Contains, Any, All, AllPairs}
use Rattle.std.proofs.lemmas.Bool.{cases_lt}
use Rattle.std.proofs.lemmas.List.{get_or_default, get_or-take, length-take}
use Rattle.std.proofs.lemmas.List.Elements.{All-contains}
use Rattle.rv_code.specs.declared.inst.Inst.{Inst}
use Rattle.elf_image.specs.declared.elf.Elf.{Elf}
use Rattle.elf_image.specs.memory.LoadedBytes.{byte_at}
use Rattle.elf_code.specs.Parts.{IsCovered, IsCodePart, IsZeroPart, StartsIn, at_start, HasValidInst, halfword_at, length_at}
use Rattle.elf_code.specs.Functions.{IsNopPart, IsFunctionPart, code, referred, fallen_into}
use Rattle.code_starts.specs.declared.parts.Part.{Part}
use Rattle.code_starts.specs.Parts.{AreCodeParts, Precedes}
use Rattle.code_starts.proofs.Chosen.{ChosenOf}
use Rattle.code_starts.proofs.StartLists.{starts_inside}
use Rattle.code_starts.proofs.WholeLookup.{StartsIn-inside}
use Rattle.elf_code.specs.FileCode.{AreStarts}
use Rattle.func_find.specs.ValidInsts.{IsValidBefore, IsNopBefore}
use Rattle.func_find.specs.FunctionParts.{AreFunctionParts, AreFunctionsBefore, FallsAt, FallsOut, IsEntered, HasReferred}
use Rattle.func_find.specs.Referents.{AreReferred}
use Rattle.func_find.proofs.StartsApart.{starts_apart, length_is}

-- A valid instruction of a code part.

pub HasValidInst-from : (elf : Elf) (start end a : ℕ) (inst : Inst) (bytes : ℕ) → IsCodePart elf start end →
    StartsIn elf start end a → IsValidBefore elf end a inst bytes → HasValidInst elf start end a inst bytes
HasValidInst-from elf start end a inst bytes part starts valid = record {
  has = record { starts = record { part = part; starts = starts }; is_inst = valid.before.is_inst; inside = valid.before.inside };
  even = valid.even;
  allowed = valid.allowed;
}

pub HasValidInst-before : (elf : Elf) (start end a : ℕ) (inst : Inst) (bytes : ℕ) → HasValidInst elf start end a inst bytes →
    IsValidBefore elf end a inst bytes
HasValidInst-before elf start end a inst bytes has = record {
  before = record { is_inst = has.has.is_inst; inside = has.has.inside };
  even = has.even;
  allowed = has.allowed;
}

-- A part of nops isn't a part of zeros, so each function is a part with code.

length_two : (is_full : Bool) → 2 ≤ (if is_full then 4 else 2)
length_two true = omega arith
length_two false = omega arith

nop_not_zero : (elf : Elf) (start end : ℕ) → IsNopPart elf start end → IsZeroPart elf start end → ⊥
nop_not_zero elf start end nop zeros =
    let bytes = nop.part.has_bytes in
    let (is, inside) = nop.nops start (at_start bytes) in
    let long : 2 ≤ length_at elf start = length_two (halfword_at elf start % 4 == 3) in
    let low : unwrap_or (byte_at elf start) 0 ≡ 0 =
    ap (λ (o : Option ℕ). unwrap_or o 0) (zeros.zeros start (omega arith) bytes) in
    let high : unwrap_or (byte_at elf (start + 1)) 0 ≡ 0 =
    ap (λ (o : Option ℕ). unwrap_or o 0) (zeros.zeros (start + 1) (omega arith) (omega arith)) in
    let half : halfword_at elf start ≡ 0 = rw (low, high) refl in
    ⊎_elim (λ (one : halfword_at elf start ≡ 0x0001). omega arith) (λ (two, rest). omega arith) is

pub IsCodePart-function : (elf : Elf) (tabled : List (ℕ × ℕ)) (start end : ℕ) → IsFunctionPart elf tabled start end →
    IsCodePart elf start end
IsCodePart-function elf tabled _ _ (code start end is other) = is
IsCodePart-function elf tabled _ _ (referred start end a nops starts refers) =
    record { part = nops.part; no_padding = nop_not_zero elf start end nops }
IsCodePart-function elf tabled _ _ (fallen_into start end before a inst bytes nops function has ends goes) =
    record { part = nops.part; no_padding = nop_not_zero elf start end nops }

-- If no part consists of nops, all parts are functions.
pub AreFunctionParts-code : (elf : Elf) (tabled : List (ℕ × ℕ)) (parts : List Part) → AreCodeParts elf parts →
    (Any (λ p. IsNopPart elf p.start p.end) parts → ⊥) → AreFunctionParts elf tabled parts
AreFunctionParts-code elf tabled parts are none = record {
  only = λ p listed. code p.start p.end (are.only p listed) (λ nops. none (listed.0, p, listed.1, listed.2, nops));
  each = λ p function. are.each p (IsCodePart-function elf tabled p.start p.end function);
  ordered = are.ordered;
}

-- The three tests, in order.

pub IsNopPart-tests : (elf : Elf) (start end : ℕ) (inside : List ℕ) → IsCodePart elf start end →
    ((a : ℕ) → Contains inside a ↔ StartsIn elf start end a) → (IsCovered elf start end → ⊥) → All (IsNopBefore elf end) inside →
    IsNopPart elf start end
IsNopPart-tests elf start end inside part are uncovered nops = record {
  part = part.part;
  uncovered = uncovered;
  nops = λ a starts. let nop = All-contains (IsNopBefore elf end) inside a nops ((are a).1 starts) in (nop.nop, nop.inside);
}

pub IsNopPart-all : (elf : Elf) (start end : ℕ) (inside : List ℕ) → ((a : ℕ) → Contains inside a ↔ StartsIn elf start end a) →
    IsNopPart elf start end → All (IsNopBefore elf end) inside
IsNopPart-all elf start end inside are nop = λ k d within.
    let a = slice_index_or inside k d in
    let (is, before) = nop.nops a ((are a).0 (k, within, get_or_default inside k a d within)) in
    record { nop = is; inside = before }

pub HasReferred-any : (elf : Elf) (tabled : List (ℕ × ℕ)) (start end : ℕ) (addresses inside : List ℕ) →
    AreReferred elf tabled addresses → ((a : ℕ) → Contains inside a ↔ StartsIn elf start end a) →
    Any (Contains addresses) inside ↔ HasReferred elf tabled start end
HasReferred-any elf tabled start end addresses inside names are = (
  (λ (k, a, within, is, listed). record { place = a; starts = (are a).0 (k, within, is); referred_there = (names a).0 listed }),
  (λ has.
      let (k, within, is) = (are has.place).1 has.starts in
      (k, has.place, within, is, (names has.place).1 has.referred_there)),
)

pub IsFunctionPart-referred : (elf : Elf) (tabled : List (ℕ × ℕ)) (start end : ℕ) → IsNopPart elf start end →
    HasReferred elf tabled start end → IsFunctionPart elf tabled start end
IsFunctionPart-referred elf tabled start end nops has = referred start end has.place nops has.starts has.referred_there

pub IsFunctionPart-entered : (elf : Elf) (tabled : List (ℕ × ℕ)) (start end : ℕ) → IsNopPart elf start end →
    (HasReferred elf tabled start end → ⊥) → IsEntered elf tabled start ↔ IsFunctionPart elf tabled start end
IsFunctionPart-entered elf tabled start end nops none = (enters, entered)
  where
    enters : IsEntered elf tabled start → IsFunctionPart elf tabled start end
    enters is =
        let falls = is.falls_in.falls_there in
        fallen_into start end is.before is.falls_in.last falls.inst falls.bytes nops is.function
        (HasValidInst-from elf is.before start is.falls_in.last falls.inst falls.bytes
        (IsCodePart-function elf tabled is.before start is.function) is.falls_in.starts falls.valid)
        falls.ends falls.falls_out

    entered : IsFunctionPart elf tabled start end → IsEntered elf tabled start
    entered (code _ _ part other) = absurd (other nops)
    entered (referred _ _ a _ starts refers) = absurd (none (record { place = a; starts = starts; referred_there = refers }))
    entered (fallen_into _ _ before a inst bytes _ function has ends goes) = record {
      before = before;
      function = function;
      falls_in = record {
        last = a;
        starts = has.has.starts.starts;
        falls_there =
            record {
              inst = inst;
              bytes = bytes;
              valid = HasValidInst-before elf before start a inst bytes has;
              ends = ends;
              falls_out = goes;
            };
      };
    }

-- The last instruction of a part.

pub FallsOut-last : (elf : Elf) (start end count : ℕ) (inside : List ℕ) (d : ℕ) → AllPairs (λ a b. a < b) inside →
    ((a : ℕ) → Contains inside a ↔ StartsIn elf start end a) → count ≡ length inside → 0 < count →
    FallsAt elf end (slice_index_or inside (count - 1) d) ↔ FallsOut elf start end
FallsOut-last elf start end count inside d ordered are all some = (
  (λ falls. record { last = x; starts = starts; falls_there = falls }),
  (λ out.
      let (k, within, there) = (are out.last).1 out.starts in
      let at : slice_index_or inside k d ≡ out.last = get_or_default inside k d out.last within ∙ there in
      ⊎_elim
      (λ (early : k < count - 1).
      let less : slice_index_or inside k d < x = ordered k (count - 1) d early (omega arith) in
      let far = starts_apart elf start end out.last x out.starts starts (omega arith) in
      let falls = out.falls_there in
      let bytes : falls.bytes ≡ length_at elf out.last =
      length_is elf out.last falls.inst falls.bytes falls.valid.before.is_inst in
      let ends = falls.ends in
      let high = (starts_inside elf start end x starts).1 in
      absurd (omega arith))
      (λ (late : count - 1 ≤ k).
      let e : k ≡ count - 1 = omega arith in
      subst (FallsAt elf end) (sym at ∙ ap (λ (j : ℕ). slice_index_or inside j d) e) out.falls_there)
      (cases_lt k (count - 1))),
)
  where
    x : ℕ
    x = slice_index_or inside (count - 1) d

    starts : StartsIn elf start end (slice_index_or inside (count - 1) d)
    starts = (are (slice_index_or inside (count - 1) d)).0
        (count - 1, omega arith, get_or_default inside (count - 1) (slice_index_or inside (count - 1) d) d (omega arith))

-- The function that ends at the start of a part is the last one before it.

pub IsEntered-from : (elf : Elf) (tabled : List (ℕ × ℕ)) (start count : ℕ) (before : List Part) (d : Part) →
    AreFunctionsBefore elf tabled start before → count ≡ length before → 0 < count →
    (slice_index_or before (count - 1) d).end ≡ start →
    FallsOut elf (slice_index_or before (count - 1) d).start (slice_index_or before (count - 1) d).end →
    IsEntered elf tabled start
IsEntered-from elf tabled start count before d are all some ends falls =
    let x = slice_index_or before (count - 1) d in
    let function = are.only x (count - 1, omega arith, get_or_default before (count - 1) x d (omega arith)) in
    record {
      before = x.start;
      function = subst (IsFunctionPart elf tabled x.start) ends function;
      falls_in = subst (FallsOut elf x.start) ends falls;
    }

pub IsEntered-last : (elf : Elf) (tabled : List (ℕ × ℕ)) (start count : ℕ) (before : List Part) (d : Part) →
    AreFunctionsBefore elf tabled start before → count ≡ length before → IsEntered elf tabled start → (0 < count)
    × ((slice_index_or before (count - 1) d).end ≡ start)
    × FallsOut elf (slice_index_or before (count - 1) d).start (slice_index_or before (count - 1) d).end
IsEntered-last elf tabled start count before d are all entered =
    let p : Part = record { start = entered.before; end = start } in
    let (k, within, there) = are.each p entered.function (omega arith) in
    let at : slice_index_or before k d ≡ p = get_or_default before k d p within ∙ there in
    let x = slice_index_or before (count - 1) d in
    ⊎_elim
    (λ (early : k < count - 1).
    let order : (slice_index_or before k d).end ≤ x.start = are.ordered k (count - 1) d early (omega arith) in
    let end_is : (slice_index_or before k d).end ≡ start = ap (λ (q : Part). q.end) at in
    let listed : Contains before x = (count - 1, omega arith, get_or_default before (count - 1) x d (omega arith)) in
    let bytes = (IsCodePart-function elf tabled x.start x.end (are.only x listed)).part.has_bytes in
    let high = are.below x listed in
    absurd (omega arith))
    (λ (late : count - 1 ≤ k).
    let e : k ≡ count - 1 = omega arith in
    let is : p ≡ x = sym at ∙ ap (λ (j : ℕ). slice_index_or before j d) e in
    (omega arith, sym (ap (λ (q : Part). q.end) is), subst (λ (q : Part). FallsOut elf q.start q.end) is entered.falls_in))
    (cases_lt k (count - 1))

-- The functions among the first parts are those before the next part.
pub AreFunctionsBefore-chosen : (elf : Elf) (tabled : List (ℕ × ℕ)) (parts kept : List Part) (i : ℕ) (d : Part) →
    AreCodeParts elf parts → i < length parts → ChosenOf (λ p. IsFunctionPart elf tabled p.start p.end) Precedes parts i kept →
    AreFunctionsBefore elf tabled (slice_index_or parts i d).start kept
AreFunctionsBefore-chosen elf tabled parts kept i d are within chosen = record {
  only = λ p listed. (chosen.only p listed).1;
  each = λ p function below. chosen.each p
      (early p (are.each p (IsCodePart-function elf tabled p.start p.end function)) below, function);
  ordered = chosen.ordered;
  below = λ p listed. before p (chosen.only p listed).0;
}
  where
    before : (p : Part) → Contains (take i parts) p → p.end ≤ (slice_index_or parts i d).start
    before p (k, low, there) =
        let short : k < i = let len = length-take i parts in omega arith in
        let at : slice_index_or parts k d ≡ p =
        get_or_default parts k d p (omega arith) ∙ sym (get_or-take i parts k p short) ∙ there in
        let order : (slice_index_or parts k d).end ≤ (slice_index_or parts i d).start = are.ordered k i d short within in
        let same : (slice_index_or parts k d).end ≡ p.end = ap (λ (q : Part). q.end) at in
        omega arith

    early : (p : Part) → Contains parts p → p.end ≤ (slice_index_or parts i d).start → Contains (take i parts) p
    early p (k, inside, there) below =
        ⊎_elim
        (λ (short : k < i). (k, (let len = length-take i parts in omega arith), get_or-take i parts k p short ∙ there))
        (λ (late : i ≤ k).
        let at : slice_index_or parts k d ≡ p = get_or_default parts k d p inside ∙ there in
        let x = slice_index_or parts i d in
        let here : Contains parts x = (i, within, get_or_default parts i x d within) in
        let bytes = (are.only x here).part.has_bytes in
        ⊎_elim
        (λ (after : i < k).
        let order : x.end ≤ (slice_index_or parts k d).start = are.ordered i k d after inside in
        let start_is : (slice_index_or parts k d).start ≡ p.start = ap (λ (q : Part). q.start) at in
        let bytes' = (are.only p (k, inside, there)).part.has_bytes in
        absurd (omega arith))
        (λ (not_after : k ≤ i).
        let e : i ≡ k = omega arith in
        let same : x ≡ p = ap (λ (j : ℕ). slice_index_or parts j d) e ∙ at in
        let end_is : x.end ≡ p.end = ap (λ (q : Part). q.end) same in
        absurd (omega arith))
        (cases_lt i k))
        (cases_lt k i)

-- The starts of the file inside a part.
pub inside_starts : (elf : Elf) (starts inside : List ℕ) (start end : ℕ) → AreStarts elf starts → IsCodePart elf start end →
    ((a : ℕ) → Contains inside a ↔ (Contains starts a × (start ≤ a) × (a < end))) → (a : ℕ) →
    Contains inside a ↔ StartsIn elf start end a
inside_starts elf starts inside start end are part members a =
    let (to, from) = StartsIn-inside elf starts start end are part a in
    let (out, back) = members a in
    ((λ listed. to (out listed)), λ there. back (from there))
