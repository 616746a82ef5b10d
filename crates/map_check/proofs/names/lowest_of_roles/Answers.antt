use Rattle.std.proofs.Common.{◌≡◌, length, arith}
use Rattle.rv_code.specs.layout.ProgramCode.{RoleNames}
use Rattle.elf_image.proofs.LowestPlaces.{IsLowest-begin, IsLowest-next}
use Rattle.map_check.proofs.NamedSpans.{NamedAt, named_here, named_all}
use Rattle.map_check.proofs.names.lowest_of_roles.Goals as goal

pub loop-entry-init : goal.loop-entry-init
loop-entry-init c = IsLowest-begin (NamedAt (λ r a. RoleNames r.1 a) c.args.sorted.now c.args.roles.now)

pub loop-entry-preserved : goal.loop-entry-preserved
loop-entry-preserved c =
    IsLowest-next (NamedAt (λ r a. RoleNames r.1 a) c.args.sorted.now c.args.roles.now) c.loop-entry.entry-index _ _ _
    c.lower-lowest.ensures c.loop-entry.invariant
    (named_here (λ r a. RoleNames r.1 a) c.args.sorted.now c.args.roles.now c.loop-entry.entry-index _ _ c.loop-entry-test.true
    c.lowest_of_role.ensures)

pub returns : goal.returns
returns c =
    let all : c.loop-entry.entry-index ≡ length c.args.roles.now = omega arith in
    named_all (λ r a. RoleNames r.1 a) c.args.sorted.now c.args.roles.now c.loop-entry.entry-index c.loop-entry.lowest all
    c.loop-entry.invariant
