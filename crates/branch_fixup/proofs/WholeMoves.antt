-- Functions that are whole move as one piece: each has one block, whose pieces are one after another.
use Rattle.std.proofs.Common.{◌≡◌, ℕ, zero, suc, ◌+◌, ◌-◌, ◌<◌, List, [], ◌∷◌, ◌++◌, length, map, Some, true}
use Rattle.std.proofs.Common.{refl, sym, ap, ◌∙◌, subst, arith, inl, inr, take, drop}
use Rattle.std.specs.Prelude.{slice_get, Contains}
use Rattle.std.proofs.lemmas.List.Elements.{Contains-append_left, Contains-append_right}
use Rattle.std.proofs.lemmas.Option.{slice_get_within, same_Some}
use Rattle.std.proofs.lemmas.List.{take_all}
use Rattle.rb_bytes.proofs.Members.{Contains-there}
use Rattle.rb_bytes.proofs.ListLemmas.{contains_at}
use Rattle.rv_code.specs.declared.layout.Form.{Form}
use Rattle.rv_code.specs.declared.placed.Placed.{Placed}
use Rattle.rv_code.specs.declared.placed.Func.{Func}
use Rattle.rv_code.specs.declared.placed.Block.{Block}
use Rattle.rv_code.specs.layout.ProgramCode.{ProgramCode}
use Rattle.rv_code.specs.layout.Blocks.{AreBlocks}
use Rattle.rv_code.specs.layout.BlockOrders.{HasAllBlocks}
use Rattle.addr_map.specs.declared.span.Span.{Span}
use Rattle.branch_fixup.specs.Forms.{EndByTable}
use Rattle.branch_fixup.specs.Pieces.{Piece, as_it_is, length_of, laid_from, end_from}
use Rattle.branch_fixup.specs.Strips.{Strip, insts_in, pieces_of, pieces_of_strip, spans_of, strips_of}
use Rattle.branch_fixup.proofs.Appended.{laid_append}
use Rattle.branch_fixup.proofs.Covered.{Covers, covers}
use Rattle.branch_fixup.proofs.Orders.{order_has}
use Rattle.branch_fixup.proofs.Planned.{Planned, insts_are, planned_at}
use Rattle.branch_fixup.specs.WholeMoves.{MoveAsOne, KeepWhole}
use Rattle.branch_fixup.proofs.Appended.{laid_append}
use Rattle.branch_fixup.proofs.Lands.{whole_first}

laid_move : (all : List Span) (a : ℕ) (ps : List Piece) → ((s : Span) → Contains (laid_from a ps) s → Contains all s) →
    MoveAsOne all a (map (λ (p : Piece). p.placed) ps)
laid_move all a [] sub = tt
laid_move all a (p ∷ ps) sub =
    let s : Span = record { out = a; len = length_of p; input = p.placed.addr } in (
      length_of p,
      sub s (0, omega arith, refl),
      laid_move all (a + length_of p) ps (λ t c. sub t (Contains-there s (laid_from (a + length_of p) ps) t c)),
    )

-- the spans of a block are among all spans
record LaidStrip (ss : List Strip) (fs : List Form) (a : ℕ) (s : Strip) : Type 0 where
  form : Form
  from : ℕ
  among : (t : Span) → Contains (laid_from from (pieces_of_strip s form)) t → Contains (laid_from a (pieces_of ss fs)) t

laid_strip : (ss : List Strip) (fs : List Form) (a k : ℕ) (s : Strip) → EndByTable ss fs → slice_get ss k ≡ Some s →
    LaidStrip ss fs a s
laid_strip [] fs a k s ends at = absurd (cc)
laid_strip (x ∷ ss) [] a k s ends at = absurd ends
laid_strip (x ∷ ss) (f ∷ fs) a zero s ends at =
    let same : x ≡ s = same_Some x s at in
    record {
      form = f;
      from = a;
      among = λ t c. subst (λ (l : List Span). Contains l t) (sym (laid_append a (pieces_of_strip x f) (pieces_of ss fs)))
          (Contains-append_left (laid_from a (pieces_of_strip x f)) (laid_from (end_from a (pieces_of_strip x f)) (pieces_of ss fs))
          t (subst (λ (y : Strip). Contains (laid_from a (pieces_of_strip y f)) t) (sym same) c));
    }
laid_strip (x ∷ ss) (f ∷ fs) a (suc k) s ends at =
    let r = laid_strip ss fs (end_from a (pieces_of_strip x f)) k s ends.2 at in
    record {
      form = r.form;
      from = r.from;
      among = λ t c. subst (λ (l : List Span). Contains l t) (sym (laid_append a (pieces_of_strip x f) (pieces_of ss fs)))
          (Contains-append_right (laid_from a (pieces_of_strip x f))
          (laid_from (end_from a (pieces_of_strip x f)) (pieces_of ss fs)) t (r.among t c));
    }

strip_insts : (inner : List Placed) (last : Placed) (f : Form) →
    map (λ (p : Piece). p.placed) (map as_it_is inner ++ record { placed = last; form = f } ∷ []) ≡ inner ++ last ∷ []
strip_insts [] last f = refl
strip_insts (p ∷ ps) last f = ap (λ (l : List Placed). p ∷ l) (strip_insts ps last f)

module _ (code : ProgramCode) (blocks : List Block) (are : AreBlocks code blocks) (order : List ℕ)
    (perm : HasAllBlocks blocks order) (fs : List Form) (ends : EndByTable (strips_of code.funcs blocks order) fs)
    (base : ℕ) (all : List Span)
    (sub : (s : Span) → Contains (spans_of (strips_of code.funcs blocks order) base fs) s → Contains all s) where
  block_insts : (f : ℕ) (func : Func) → func.whole ≡ true → (k : ℕ) (s : Strip) (x : Planned code blocks order k s) →
      x.of.func ≡ func → insts_in s ≡ func.insts.items
  block_insts f func whole k s x same =
      let is = x.of.is in
      let w : x.of.func.whole ≡ true = ap (λ (g : Func). g.whole) same ∙ whole in
      let first : x.b.first ≡ 0 = whole_first code x.of.func x.b.first w is.begins in
      let ends : x.b.last + 1 ≡ length x.of.func.insts.items = elim is.ends [
        | inl e ↦ e
        | inr next ↦ absurd (let e = whole_first code x.of.func (x.b.last + 1) w next in omega (arith, e))
      ] in
      insts_are code x.b s x.of
      ∙ ap (λ (n : ℕ). take (suc (x.b.last - n)) (drop n x.of.func.insts.items)) first
      ∙ take_all (suc (x.b.last - 0)) x.of.func.insts.items (omega (arith, ends))
      ∙ ap (λ (g : Func). g.insts.items) same

  move_func : (f : ℕ) (func : Func) → slice_get code.funcs f ≡ Some func → func.whole ≡ true → 0 < length func.insts.items →
      (a : ℕ) × MoveAsOne all a func.insts.items
  move_func f func at whole some =
      let c : Covers blocks f 0 = covers code blocks are f 0 func at some in
      let (k, place) = order_has blocks order perm c.m (slice_get_within blocks c.m c.b c.at) in
      let (s, strip, x) = planned_at code blocks are order perm k c.m place in
      let same_m : x.m ≡ c.m = same_Some x.m c.m (sym x.place ∙ place) in
      let same_b : x.b ≡ c.b = same_Some x.b c.b (sym x.block ∙ ap (slice_get blocks) same_m ∙ c.at) in
      let same : x.of.func ≡ func = same_Some x.of.func func
      (sym x.of.at ∙ ap (λ (b : Block). slice_get code.funcs b.func) same_b ∙ ap (slice_get code.funcs) c.func ∙ at) in
      let r = laid_strip (strips_of code.funcs blocks order) fs base k s ends strip in (
        r.from,
        subst (λ (l : List Placed). MoveAsOne all r.from l)
            (strip_insts s.inner s.last r.form ∙ block_insts f func whole k s x same)
            (laid_move all r.from (pieces_of_strip s r.form) (λ t c. sub t (r.among t c))),
      )

  pub keep_whole : KeepWhole code.funcs all
  keep_whole func has whole = by func.insts.items refl
    where
      at : (f : ℕ) × (slice_get code.funcs f ≡ Some func)
      at = contains_at code.funcs func has

      by : (ps : List Placed) → func.insts.items ≡ ps → (a : ℕ) × MoveAsOne all a func.insts.items
      by [] e = (0, subst (λ (l : List Placed). MoveAsOne all 0 l) (sym e) tt)
      by (p ∷ ps) e = move_func at.0 func at.1 whole (let l : length func.insts.items ≡ suc (length ps) = ap length e in omega (arith, l))
