-- The instructions of a part, one by one.
use Rattle.std.proofs.Common.{◌≡◌, ◌∙◌, sym, subst, ap, refl, ℕ, ◌+◌, ◌<◌, ◌≤◌, ◌⊎◌, inl, inr, ⊎_elim, List, [], ◌∷◌, ◌++◌}
use Rattle.std.proofs.Common.{Contains, AllPairs, take, length, slice_index_or, arith}
use Rattle.std.proofs.lemmas.Bool.{cases_lt}
use Rattle.std.proofs.lemmas.List.{take_more, get_or_default, get_or-take, length-take}
use Rattle.std.proofs.lemmas.List.Elements.{Contains-append_left, Contains-push, Contains-push_cases}
use Rattle.std.proofs.lemmas.List.Quantifiers.{all_pairs_push}
use Rattle.rb_bytes.specs.declared.fault.Fault.{Fault}
use Rattle.rb_bytes.specs.declared.fault.Refusal.{Refusal}
use Rattle.rb_bytes.specs.declared.fault.Refusal.TheVariants as refusal
use Rattle.rv_code.specs.declared.placed.Placed.{Placed}
use Rattle.rv_code.specs.declared.placed.Func.{Func}
use Rattle.elf_image.specs.declared.elf.Elf.{Elf}
use Rattle.elf_code.specs.Parts.{StartsIn, at_start, after, IsInstAt, length_at}
use Rattle.elf_code.specs.Roles.{RoleIs}
use Rattle.elf_code.specs.Functions.{AreInsts}
use Rattle.rb_bytes.proofs.Members.{Contains-cons_cases}
use Rattle.code_starts.specs.declared.parts.Part.{Part}
use Rattle.code_starts.specs.Parts.{Precedes}
use Rattle.code_starts.proofs.StartLists.{starts_inside}
use Rattle.func_find.specs.InstLists.{IsPlacedAt, IsGoodBefore, IsFaultBefore, IsFirstIn, IsFirstRefusal}
use Rattle.func_find.specs.InstLists.{AreFunctionsOf, AreInstsOf, IsFunctionOf}
use Rattle.func_find.proofs.StartsApart.{starts_apart, length_is}

AreInsts-push : (elf : Elf) (a mid : ℕ) (ps : List Placed) (p : Placed) → AreInsts elf a ps mid → p.addr ≡ mid →
    IsInstAt elf mid p.inst p.len → RoleIs elf mid p.role → AreInsts elf a (ps ++ p ∷ []) (mid + p.len)
AreInsts-push elf a mid [] p at addr inst role =
    subst (λ (x : ℕ). (p.addr ≡ x) × IsInstAt elf x p.inst p.len × RoleIs elf x p.role × (x + p.len ≡ mid + p.len)) (sym at)
    (addr, inst, role, refl)
AreInsts-push elf a mid (q ∷ ps) p (addr_q, inst_q, role_q, rest) addr inst role =
    (addr_q, inst_q, role_q, AreInsts-push elf (a + q.len) mid ps p rest addr inst role)

-- The instructions below an address are listed.
pub record ArePlacedTo (elf : Elf) (start end address : ℕ) (insts : List Placed) : Type 0 where
  pub follow : AreInsts elf start insts address
  pub each : (p : Placed) → Contains insts p → StartsIn elf start end p.addr × IsPlacedAt elf end p.addr p
  pub all : (a : ℕ) → StartsIn elf start end a → a < address → (p : Placed) × Contains insts p × (p.addr ≡ a)
  pub next : address < end → StartsIn elf start end address
  pub bound : address ≤ end

pub placed_none : (elf : Elf) (start end : ℕ) → start < end → ArePlacedTo elf start end start []
placed_none elf start end some = record {
  follow = refl;
  each = λ p (k, within, is). absurd (omega arith);
  all = λ a starts less. absurd (let low = (starts_inside elf start end a starts).0 in omega arith);
  next = λ less. at_start less;
  bound = omega arith;
}

pub placed_next : (elf : Elf) (start end address next : ℕ) (was now : List Placed) (p : Placed) → address < end →
    IsPlacedAt elf end address p → now ≡ was ++ p ∷ [] → next ≡ address + p.len → ArePlacedTo elf start end address was →
    ArePlacedTo elf start end next now
placed_next elf start end address next was now p inside placed pushed is are =
    let starts : StartsIn elf start end address = are.next inside in
    let long : p.len ≡ length_at elf address = length_is elf address p.inst p.len placed.valid.before.is_inst in
    let within = placed.valid.before.inside in
    let addr = placed.addr in
    subst (λ (ps : List Placed). ArePlacedTo elf start end next ps) (sym pushed)
    (subst (λ (x : ℕ). ArePlacedTo elf start end x (was ++ p ∷ [])) (sym is) (record {
      follow = AreInsts-push elf start address was p are.follow placed.addr placed.valid.before.is_inst placed.role;
      each = λ q listed. ⊎_elim
          (λ early. are.each q early)
          (λ (same : p ≡ q). subst (λ (x : Placed). StartsIn elf start end x.addr × IsPlacedAt elf end x.addr x) same
          (subst (StartsIn elf start end) (sym addr) starts, subst (λ (x : ℕ). IsPlacedAt elf end x p) (sym addr) placed))
          (Contains-push_cases was p q listed);
      all = λ a there less. ⊎_elim
          (λ (early : a < address).
          let (q, listed, at) = are.all a there early in
          (q, Contains-append_left was (p ∷ []) q listed, at))
          (λ (late : address ≤ a). ⊎_elim
          (λ (above : address < a). let far = starts_apart elf start end address a starts there above in absurd (omega arith))
          (λ (not_above : a ≤ address). let e : address ≡ a = omega arith in (p, Contains-push was p, addr ∙ e))
          (cases_lt address a))
          (cases_lt a address);
      next = λ less. subst (λ (n : ℕ). StartsIn elf start end (address + n)) (sym long)
          (after address starts (subst (λ (n : ℕ). address + n < end) long less));
      bound = within;
    }))

pub placed_all : (elf : Elf) (start end address : ℕ) (insts : List Placed) → end ≤ address →
    ArePlacedTo elf start end address insts → AreInstsOf elf start end insts
placed_all elf start end address insts past are =
    let bound = are.bound in
    let e : address ≡ end = omega arith in
    record {
      follow = subst (AreInsts elf start insts) e are.follow;
      each = are.each;
      all = λ a starts. are.all a starts (let high = (starts_inside elf start end a starts).1 in omega arith);
    }

good : (elf : Elf) (end : ℕ) (p : Placed) (a : ℕ) → IsPlacedAt elf end p.addr p → p.addr ≡ a → IsGoodBefore elf end a
good elf end p a placed at =
    subst (IsGoodBefore elf end) at (record { inst = p.inst; bytes = p.len; valid = placed.valid; not_bare = placed.not_bare })

-- The first instruction that isn't valid.
pub first_bad : (elf : Elf) (part : Part) (address : ℕ) (insts : List Placed) (fault : Fault) → address < part.end →
    IsFaultBefore elf part.end address fault → ArePlacedTo elf part.start part.end address insts → IsFirstIn elf (part ∷ []) fault
first_bad elf part address insts fault inside bad are = record {
  part = part;
  listed = (0, omega arith, refl);
  place = address;
  starts = are.next inside;
  is = bad;
  earlier = λ p a listed starts less. ⊎_elim
      (λ (same : part ≡ p).
      let (q, there, at) = are.all a (subst (λ (x : Part). StartsIn elf x.start x.end a) (sym same) starts) less in
      let fine = good elf part.end q a (are.each q there).1 at in
      subst (λ (x : Part). IsGoodBefore elf x.end a) same fine)
      (λ (k, within, is). absurd (omega arith))
      (Contains-cons_cases part [] p listed);
}

-- Functions, part by part.

pub made_next : (elf : Elf) (wholes parts : List Part) (i : ℕ) (d : Part) (was now : List Func) (func : Func) →
    AllPairs Precedes parts → i < length parts → IsFunctionOf elf wholes (slice_index_or parts i d) func →
    now ≡ was ++ func ∷ [] →
    AreFunctionsOf elf wholes (take i parts) was → AreFunctionsOf elf wholes (take (i + 1) parts) now
made_next elf wholes parts i d was now func ordered within made pushed are =
    subst (λ (fs : List Func). AreFunctionsOf elf wholes (take (i + 1) parts) fs) (sym pushed)
    (subst (λ (ps : List Part). AreFunctionsOf elf wholes ps (was ++ func ∷ [])) (sym (take_more parts i d within)) (record {
      only = λ f listed. ⊎_elim
          (λ early. let (p, there, is) = are.only f early in (p, Contains-append_left (take i parts) (x ∷ []) p there, is))
          (λ (same : func ≡ f). (x, Contains-push (take i parts) x, subst (IsFunctionOf elf wholes x) same made))
          (Contains-push_cases was func f listed);
      each = λ p listed. ⊎_elim
          (λ early. let (f, there, is) = are.each p early in (f, Contains-append_left was (func ∷ []) f there, is))
          (λ (same : x ≡ p). (func, Contains-push was func, subst (λ (q : Part). IsFunctionOf elf wholes q func) same made))
          (Contains-push_cases (take i parts) x p listed);
      ordered = all_pairs_push (λ f g. f.end ≤ g.start) was func are.ordered (λ k e inside.
          let f = slice_index_or was k e in
          let (p, there, is) = are.only f (k, inside, get_or_default was k f e inside) in
          let order : p.end ≤ x.start = before p there in
          let f_end = is.end in
          let g_start = made.start in
          omega arith);
    }))
  where
    x : Part
    x = slice_index_or parts i d

    before : (p : Part) → Contains (take i parts) p → p.end ≤ (slice_index_or parts i d).start
    before p (k, low, there) =
        let short : k < i = let len = length-take i parts in omega arith in
        let at : slice_index_or parts k d ≡ p =
        get_or_default parts k d p (omega arith) ∙ sym (get_or-take i parts k p short) ∙ there in
        let order : (slice_index_or parts k d).end ≤ (slice_index_or parts i d).start = ordered k i d short within in
        let same : (slice_index_or parts k d).end ≡ p.end = ap (λ (q : Part). q.end) at in
        omega arith

-- The first fault of a part is the first of all, if the parts before it have none.
pub first_of_all : (elf : Elf) (wholes parts : List Part) (i : ℕ) (d : Part) (funcs : List Func) (fault : Fault) →
    AllPairs Precedes parts → i < length parts → AreFunctionsOf elf wholes (take i parts) funcs →
    IsFirstIn elf (slice_index_or parts i d ∷ []) fault → IsFirstIn elf parts fault
first_of_all elf wholes parts i d funcs fault ordered within are first = record {
  part = first.part;
  listed = ⊎_elim
      (λ (same : x ≡ first.part). (i, within, get_or_default parts i first.part d within ∙ same))
      (λ (k, none, is). absurd (omega arith))
      (Contains-cons_cases x [] first.part first.listed);
  place = first.place;
  starts = first.starts;
  is = first.is;
  earlier = λ p a (k, inside, there) starts less.
      let at : slice_index_or parts k d ≡ p = get_or_default parts k d p inside ∙ there in
      ⊎_elim
      (λ (early : k < i).
      let listed : Contains (take i parts) p =
      (k, (let len = length-take i parts in omega arith), get_or-take i parts k p early ∙ there) in
      let (f, in_funcs, made) = are.each p listed in
      let (q, in_insts, addr) = made.insts.all a starts in
      good elf p.end q a (made.insts.each q in_insts).1 addr)
      (λ (late : i ≤ k). ⊎_elim
      (λ (above : i < k).
      let order : x.end ≤ (slice_index_or parts k d).start = ordered i k d above inside in
      let start_is : (slice_index_or parts k d).start ≡ p.start = ap (λ (q : Part). q.start) at in
      let low = (starts_inside elf p.start p.end a starts).0 in
      let high : first.place < x.end = bounded (Contains-cons_cases x [] first.part first.listed) in
      absurd (omega arith))
      (λ (not_above : k ≤ i).
      let e : i ≡ k = omega arith in
      let same : x ≡ p = ap (λ (j : ℕ). slice_index_or parts j d) e ∙ at in
      first.earlier p a (0, omega arith, same) starts less)
      (cases_lt i k))
      (cases_lt k i);
}
  where
    x : Part
    x = slice_index_or parts i d

    bounded : (slice_index_or parts i d ≡ first.part) ⊎ Contains [] first.part → first.place < (slice_index_or parts i d).end
    bounded (inl same) =
        let high = (starts_inside elf first.part.start first.part.end first.place first.starts).1 in
        let end_is = ap (λ (q : Part). q.end) same in
        omega arith
    bounded (inr (k, none, is)) = absurd (omega arith)

pub first_refusal : (elf : Elf) (wholes parts : List Part) (i : ℕ) (d : Part) (funcs : List Func) (r : Refusal) →
    AllPairs Precedes parts → i < length parts → AreFunctionsOf elf wholes (take i parts) funcs →
    IsFirstRefusal elf (slice_index_or parts i d ∷ []) r → IsFirstRefusal elf parts r
first_refusal elf wholes parts i d funcs (refusal.Fault fault) ordered within are first =
    first_of_all elf wholes parts i d funcs fault ordered within are first
first_refusal elf wholes parts i d funcs refusal.Memory ordered within are first = tt
