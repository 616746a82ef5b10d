use Rattle.std.proofs.Common.{◌∙◌, ◌++◌, refl, sym, ap}
use Rattle.line_rewrite.specs.Entries.{Strings, is_absolute, directory_path}
use Rattle.line_rewrite.specs.KeptEntries.{strings_held, told_name}
use Rattle.line_rewrite.proofs.LineLookups.{item_at}
use Rattle.line_rewrite.proofs.KeptPaths.{path_is}
use Rattle.line_rewrite.proofs.paths.path_of.Goals as goal

pub returns : goal.returns
returns c =
    let strings : Strings = strings_held c.args.str.now c.args.line_str.now in
    let ds = c.args.directories.now in
    let file = c.args.file.now in
    let root = c.in-Some.compiled_in.now in
    let d = c.in-Some-get.directory.now in
    path_is strings ds file root d c.in_ok-path-2.path.items c.extend_from_slice.new.self.items
    (ap is_absolute (sym c.bytes-name.ensures) ∙ sym c.is_absolute.ensures ∙ c.if-is_absolute.false)
    (item_at ds ds 0 root c.in-Some.ensures.lookup.0 c.in-Some.ensures.lookup.1 refl)
    (item_at ds ds file.directory d c.in-Some-get.ensures.lookup.0 c.in-Some-get.ensures.lookup.1 refl)
    (c.in_ok-path-2.ensures
    ∙ (λ i. directory_path (told_name strings root.text) file.directory (c.bytes-directory.ensures i)))
    (c.in_ok-extend_from_slice.ensures.items ∙ (λ i. c.in_ok-push.ensures.items i ++ c.bytes-name.ensures i))
