pub mod SpanPairs
