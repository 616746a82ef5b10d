-- Stretches of spans.
use Rattle.std.specs.Prelude.{List}
use Rattle.addr_map.specs.declared.span.Span.{Span}
use Rattle.addr_map.specs.declared.stretches.Stretch.{Stretch}

abbrev pub spans_in : Stretch → List Span
spans_in s = s.spans.now
