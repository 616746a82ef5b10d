use Rattle.std.proofs.Common.{◌≡◌, ◌+◌, ◌-◌, ◌<◌, length, arith, sym, ap, ◌∙◌, slice_index, false}
use Rattle.std.proofs.lemmas.Grind.{common_steps}
use Rattle.branch_fixup.specs.Growth.{form_at, is_enough, longer, end_at}
use Rattle.branch_fixup.specs.Pieces.{piece_length}
use Rattle.branch_fixup.proofs.Rounds.{longer_length, same_ends}
use Rattle.branch_fixup.proofs.Ways.{grown_sound, longer_low, longer_over, not_enough_by, still_longer}
use Rattle.branch_fixup.proofs.settling.Settling.grow_block.Goals as goal

pub is_enough_by-requires-clause-low : goal.is_enough_by-requires-clause-low
is_enough_by-requires-clause-low c =
    let v = c.args.self.now in
    let q = c.requires in
    longer_low v.block_ends.now v.places.now c.args.forms.now c.args.k (slice_index c.args.more.now c.args.k)
    v.fit v.begin q.inside (q.settling.longer c.args.k q.inside)

pub is_enough_by-requires-2-clause-low : goal.is_enough_by-requires-2-clause-low
is_enough_by-requires-2-clause-low c =
    let v = c.args.self.now in
    let q = c.requires in
    longer_low v.block_ends.now v.places.now c.args.forms.now c.args.k (slice_index c.args.more.now c.args.k)
    v.fit v.begin q.inside (q.settling.longer c.args.k q.inside)

pub lengthen-requires-clause-longer : goal.lengthen-requires-clause-longer
lengthen-requires-clause-longer c =
    let v = c.args.self.now in
    let q = c.requires in
    let one = q.settling.sound.one_each in
    let inside = q.inside in
    let in_fs : c.args.k < length c.args.forms.now = omega (arith, one, inside) in
    rw c.longer-grown.ensures (λ j j_in.
    still_longer v.block_ends.now v.places.now c.args.forms.now c.args.k in_fs j (slice_index c.args.more.now j)
    (q.settling.longer j j_in))

pub lengthen-requires-clause-over : goal.lengthen-requires-clause-over
lengthen-requires-clause-over c =
    let v = c.args.self.now in
    let q = c.requires in
    let ts = v.block_ends.now in
    let fs = c.args.forms.now in
    let k = c.args.k in
    let one = q.settling.sound.one_each in
    let inside = q.inside in
    let in_fs : k < length fs = omega (arith, one, inside) in
    let len = (end_at ts k).len in
    let x = c.piece_length.ensures in
    let y = c.piece_length-2.ensures in
    let g = ap (piece_length len) c.longer-grown.ensures in
    let h = longer_length len (form_at fs k) in
    let bytes : c.piece_length.result - c.piece_length-2.result + piece_length len (form_at fs k)
    ≡ piece_length len (longer (form_at fs k)) =
    omega (arith, x, y, g, h) in
    rw c.longer-grown.ensures (λ j le j_in over.
    longer_over ts v.places.now fs k in_fs j (slice_index c.args.more.now j)
    (c.piece_length.result - c.piece_length-2.result) bytes over (q.settling.longer j j_in))

pub returns-clause-settling : goal.returns-clause-settling
returns-clause-settling c =
    let v = c.args.self.now in
    let q = c.requires in
    let ts = v.block_ends.now in
    let fs = c.args.forms.now in
    let k = c.args.k in
    let one = q.settling.sound.one_each in
    let inside = q.inside in
    let in_fs : k < length fs = omega (arith, one, inside) in
    let short : is_enough ts fs k (form_at fs k) ≡ false =
    not_enough_by ts v.places.now fs k (slice_index c.args.more.now k) (form_at fs k) v.fit v.begin q.inside
    (q.settling.longer k q.inside) (sym c.is_enough_by.ensures ∙ c.if-is_enough_by.false) in
    rw c.longer-grown.ensures (record {
      count = c.in_ok-lengthen.ensures.count;
      sound = grown_sound ts v.places.now fs k in_fs v.fit short q.settling.sound;
      longer = rw c.longer-grown.ensures at c.in_ok-lengthen.ensures.longer;
    })

pub returns-clause-same : goal.returns-clause-same
returns-clause-same c =
    let one = c.requires.settling.sound.one_each in
    let inside = c.requires.inside in
    rw c.longer-grown.ensures (same_ends c.args.forms.now c.args.k (omega (arith, one, inside)))

pub returns-clause-fewer : goal.returns-clause-fewer
returns-clause-fewer c = grind (arith, common_steps)
