-- What may stand in the first word of a record.
use Rattle.std.specs.Prelude.{Bool, true, false}
use Rattle.heap_words.specs.Decoded.{Decoded, HeaderWord, ForwardWord}

abbrev pub is_header : Decoded → Bool
is_header (HeaderWord kind len serial mutator) = true
is_header _ = false

abbrev pub is_forward : Decoded → Bool
is_forward (ForwardWord len address) = true
is_forward _ = false
