use Rattle.std.proofs.Common.{◌≡◌, ◌∙◌, sym, ap, subst, ℕ, ◌≤◌, ◌<◌, List, [], ◌++◌, Option, Some, append-nil, get_or, length}
use Rattle.std.proofs.Common.{arith, rules}
use Rattle.std.specs.Option.{option_map_or}
use Rattle.std.proofs.lemmas.Option.{get_or_from_slice_get, slice_get-get_or, slice_get_past, slice_get_within}
use Rattle.elf_image.specs.declared.section.Section.{Section}
use Rattle.elf_image.specs.declared.section.SectionHeader.{SectionHeader}
use Rattle.elf_image.specs.file.Sections.{section_header}
use Rattle.elf_plan.specs.NewNames.{old_ended}
use Rattle.elf_make.specs.SetHeaders.{IsNamed}
use Rattle.elf_make.proofs.headers.header_of.Goals as goal

pub returns-in_ok-header-in-Some-clause-renamed : goal.returns-in_ok-header-in-Some-clause-renamed
returns-in_ok-header-in-Some-clause-renamed c = λ s at_s.
    let sections = c.args.elf.now.sections.items in
    let i = c.args.index in
    let found : Section = c.in-Some.section.now in
    let read : SectionHeader = c.section_of-header.result in
    let is : read ≡ section_header c.args.elf.now.file.now i = c.section_of-header.ensures in
    let here : found ≡ get_or sections i found = search rules in
    let same : found ≡ s = here ∙ get_or_from_slice_get sections i s found at_s in
    let name : ℕ = c.in_ok-header-in-Some.field-0 in
    let table : List ℕ = c.name_of.new.names.bytes.items in
    record {
      name = subst (λ (h : SectionHeader). IsNamed table s h.name name) is
          (subst (λ (x : Section). IsNamed table x read.name name) same c.in_ok-header-in-Some.ensures.named);
      same = ap (λ (h : SectionHeader). record h { name = name }) is;
    }

pub returns-in-None-clause-renamed : goal.returns-in-None-clause-renamed
returns-in-None-clause-renamed c = λ s at_s.
    let sections = c.args.elf.now.sections.items in
    let low = slice_get_within sections c.args.index s at_s in
    let past : length sections ≤ c.args.index = search rules in
    absurd (omega (arith, low, past))

pub returns-in_ok-header-in-Some-clause-names : goal.returns-in_ok-header-in-Some-clause-names
returns-in_ok-header-in-Some-clause-names c =
    let sections = c.args.elf.now.sections.items in
    let i = c.args.index in
    let found : Section = c.in-Some.section.now in
    let here : found ≡ get_or sections i found = search rules in
    let inside : i < length sections = search rules in
    c.in_ok-header-in-Some.ensures.names
    ∙ ap (λ (o : Option Section). c.args.names.now.bytes.items ++ option_map_or old_ended o [])
    (sym (slice_get-get_or sections i found inside ∙ ap (λ (s : Section). Some s) (sym here)))

pub returns-in-None-clause-names : goal.returns-in-None-clause-names
returns-in-None-clause-names c =
    let sections = c.args.elf.now.sections.items in
    let past : length sections ≤ c.args.index = search rules in
    sym (append-nil c.args.names.now.bytes.items)
    ∙ ap (λ (o : Option Section). c.args.names.now.bytes.items ++ option_map_or old_ended o [])
    (sym (slice_get_past sections c.args.index past))
