use Rattle.std.proofs.Common.{refl, arith, ◌<◌, length, subst, Option, ℕ}
use Rattle.elf_image.specs.faults.LowestPlace.{IsLowest}
use Rattle.elf_image.specs.internal.Extents.{SharesAnother}
use Rattle.map_check.proofs.Extents.{sharing_within, sharing_some, sharing_none}
use Rattle.map_check.proofs.spans.lowest_sharing.Goals as goal

pub bounds-sorted-k : goal.bounds-sorted-k
bounds-sorted-k c =
    sharing_within c.args.sorted.now (length c.args.sorted.now) c.in_ok-extents.extents.items refl c.in_ok-extents.ensures c.requires
    c.in-Some.k
    (subst (λ (o : Option ℕ). IsLowest (SharesAnother c.in_ok-extents.extents.items) o) c.in-Some.is c.in_ok-k.ensures)

pub offset_bounds-sorted-k : goal.offset_bounds-sorted-k
offset_bounds-sorted-k c =
    let within : c.in-Some.k < length c.args.sorted.now =
    sharing_within c.args.sorted.now (length c.args.sorted.now) c.in_ok-extents.extents.items refl c.in_ok-extents.ensures c.requires
    c.in-Some.k
    (subst (λ (o : Option ℕ). IsLowest (SharesAnother c.in_ok-extents.extents.items) o) c.in-Some.is c.in_ok-k.ensures) in
    omega (arith, within)

pub returns-in-Some : goal.returns-in-Some
returns-in-Some c =
    sharing_some c.args.sorted.now (length c.args.sorted.now) c.in_ok-extents.extents.items refl c.in_ok-extents.ensures c.requires
    c.in-Some.k _
    (subst (λ (o : Option ℕ). IsLowest (SharesAnother c.in_ok-extents.extents.items) o) c.in-Some.is c.in_ok-k.ensures) refl

pub returns-in-None : goal.returns-in-None
returns-in-None c =
    sharing_none c.args.sorted.now (length c.args.sorted.now) c.in_ok-extents.extents.items refl c.in_ok-extents.ensures c.requires
    (subst (λ (o : Option ℕ). IsLowest (SharesAnother c.in_ok-extents.extents.items) o) c.in-None.is c.in_ok-k.ensures)
