use Rattle.std.proofs.Common.{refl}
use Rattle.cli_check.proofs.RepairSteps.{blocks_of, fits, joined, laid, links_of, pairs_code, readable, stretches, whole}
use Rattle.cli_check.proofs.making.repaired_counts.Goals as goal

pub read-requires-clause-funcs : goal.read-requires-clause-funcs
read-requires-clause-funcs c =
    laid c.args.program.now c.requires.program c.as_slice-funcs.result.now c.as_slice-blocks.result.now
    c.as_slice-funcs.ensures.value c.as_slice-blocks.ensures.value

pub read-requires-clause-elf : goal.read-requires-clause-elf
read-requires-clause-elf c =
    c.requires.program.program.faultless.read

pub read-requires-clause-readable : goal.read-requires-clause-readable
read-requires-clause-readable c =
    readable c.args.program.now c.requires.program

pub repair-requires-clause-blocks : goal.repair-requires-clause-blocks
repair-requires-clause-blocks c =
    stretches c.args.program.now c.requires.program c.as_slice-funcs.result.now c.as_slice-blocks.result.now
    c.as_slice-funcs.ensures.value c.as_slice-blocks.ensures.value

pub repair-requires-clause-edges : goal.repair-requires-clause-edges
repair-requires-clause-edges c =
    joined c.args.program.now c.requires.program c.as_slice-funcs.result.now c.as_slice-blocks.result.now
    c.as_slice-funcs.ensures.value c.as_slice-blocks.ensures.value c.in_ok-found.found.items
    c.as_slice-edges.result.now c.as_slice-edges.ensures.value c.in_ok-found.ensures

pub repaired_profile-requires-clause-funcs : goal.repaired_profile-requires-clause-funcs
repaired_profile-requires-clause-funcs c =
    laid c.args.program.now c.requires.program c.as_slice-funcs.result.now c.as_slice-blocks.result.now
    c.as_slice-funcs.ensures.value c.as_slice-blocks.ensures.value

pub repaired_profile-requires-clause-blocks : goal.repaired_profile-requires-clause-blocks
repaired_profile-requires-clause-blocks c =
    blocks_of c.args.program.now c.requires.program c.as_slice-funcs.result.now c.as_slice-blocks.result.now
    c.as_slice-funcs.ensures.value c.as_slice-blocks.ensures.value

pub repaired_profile-requires-clause-links : goal.repaired_profile-requires-clause-links
repaired_profile-requires-clause-links c =
    links_of c.args.program.now c.requires.program c.as_slice-funcs.result.now c.as_slice-blocks.result.now
    c.as_slice-funcs.ensures.value c.as_slice-blocks.ensures.value c.in_ok-found.found.items
    c.as_slice-edges.result.now c.as_slice-edges.ensures.value c.in_ok-found.ensures c.args.profile.now
    c.in_ok-counts.counts c.pairs-pairs.result.now c.in_ok-counts.ensures.counts c.pairs-pairs.ensures.exact
    c.pairs-pairs.ensures.value c.pairs-pairs.ensures.few c.in_ok-flow.flow c.in_ok-flow.ensures
    c.deref.result.now c.deref.ensures.value

pub repaired_profile-requires-clause-pairs : goal.repaired_profile-requires-clause-pairs
repaired_profile-requires-clause-pairs c =
    pairs_code c.args.program.now c.requires.program c.as_slice-funcs.result.now c.as_slice-blocks.result.now
    c.as_slice-funcs.ensures.value c.as_slice-blocks.ensures.value c.in_ok-found.found.items
    c.as_slice-edges.result.now c.as_slice-edges.ensures.value c.in_ok-found.ensures c.args.profile.now
    c.in_ok-counts.counts c.pairs-pairs.result.now c.in_ok-counts.ensures.counts c.pairs-pairs.ensures.exact
    c.pairs-pairs.ensures.value c.pairs-pairs.ensures.few

pub report-requires-clause-blocks : goal.report-requires-clause-blocks
report-requires-clause-blocks c =
    stretches c.args.program.now c.requires.program c.as_slice-funcs.result.now c.as_slice-blocks.result.now
    c.as_slice-funcs.ensures.value c.as_slice-blocks.ensures.value

pub report-requires-clause-links : goal.report-requires-clause-links
report-requires-clause-links c =
    links_of c.args.program.now c.requires.program c.as_slice-funcs.result.now c.as_slice-blocks.result.now
    c.as_slice-funcs.ensures.value c.as_slice-blocks.ensures.value c.in_ok-found.found.items
    c.as_slice-edges.result.now c.as_slice-edges.ensures.value c.in_ok-found.ensures c.args.profile.now
    c.in_ok-counts.counts c.pairs-pairs.result.now c.in_ok-counts.ensures.counts c.pairs-pairs.ensures.exact
    c.pairs-pairs.ensures.value c.pairs-pairs.ensures.few c.in_ok-flow.flow c.in_ok-flow.ensures
    c.in_ok-flow.flow.links.items refl

pub report-requires-clause-priced : goal.report-requires-clause-priced
report-requires-clause-priced c =
    c.in_ok-flow.ensures.priced

pub report-requires-clause-few : goal.report-requires-clause-few
report-requires-clause-few c =
    fits c.args.program.now c.requires.program c.as_slice-funcs.result.now c.as_slice-blocks.result.now
    c.as_slice-funcs.ensures.value c.as_slice-blocks.ensures.value c.in_ok-found.found.items
    c.as_slice-edges.result.now c.as_slice-edges.ensures.value c.in_ok-found.ensures c.args.profile.now
    c.in_ok-counts.counts c.pairs-pairs.result.now c.in_ok-counts.ensures.counts c.pairs-pairs.ensures.exact
    c.pairs-pairs.ensures.value c.pairs-pairs.ensures.few c.in_ok-flow.flow c.in_ok-flow.ensures

pub returns : goal.returns
returns c =
    whole c.args.program.now c.requires.program c.as_slice-funcs.result.now c.as_slice-blocks.result.now
    c.as_slice-funcs.ensures.value c.as_slice-blocks.ensures.value c.in_ok-found.found.items
    c.as_slice-edges.result.now c.as_slice-edges.ensures.value c.in_ok-found.ensures c.args.profile.now
    c.in_ok-counts.counts c.pairs-pairs.result.now c.in_ok-counts.ensures.counts c.pairs-pairs.ensures.exact
    c.pairs-pairs.ensures.value c.pairs-pairs.ensures.few c.in_ok-flow.flow c.in_ok-flow.ensures
    c.requires.profile c.deref.result.now c.deref.ensures.value c.in_ok-profile.profile.items c.in_ok-lines.lines.items
    (c.in_ok-profile.ensures c.args.program.now.elf) c.in_ok-lines.ensures
