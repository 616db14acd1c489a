-- What words denote, by the words of the heap and what its workers keep.
use Rattle.std.specs.Prelude.{ℕ, List, Option, Some, None}
use Rattle.heap_words.specs.Decoded.{Decoded, NumberWord, PointerWord, HeaderWord, BusyWord, ForwardWord, Malformed, decode}
use Rattle.plain_state.specs.declared.value.Identity.{Identity}
use Rattle.plain_state.specs.declared.value.Value.{Value}
use Rattle.plain_state.specs.declared.value.Value.TheVariants.{Number, Reference}
use Rattle.heap_state.specs.Configuration.{Configuration, table}
use Rattle.heap_state.specs.Kept.{Kept, kept_of, kept_at}

-- a record's own header: the one in its place, or the one that the worker keeps which its place names
abbrev pub own_header_in : List Kept → Decoded → Decoded
own_header_in kept (HeaderWord kind len serial mutator) = HeaderWord kind len serial mutator
own_header_in kept (BusyWord len worker) = decode (kept_at kept worker).header
own_header_in kept _ = Malformed

-- the identity that a header names
abbrev pub named_by : Decoded → Option Identity
named_by (HeaderWord kind len serial mutator) = Some (record { mutator = mutator; serial = serial })
named_by _ = None

-- the identity of the record that begins with this word: its own header names it, or the header at the place that it was
-- forwarded to
abbrev pub named_in : (heap : ℕ → ℕ) → List Kept → Decoded → Option Identity
named_in heap kept (ForwardWord len address) = named_by (decode (heap address))
named_in heap kept word = named_by (own_header_in kept word)

abbrev pub reference_to : Option Identity → Option Value
reference_to (Some i) = Some (Reference i)
reference_to None = None

-- the value that a word denotes, if it denotes one: a number word its number, a pointer the identity of the record there
abbrev pub denoted_by : (heap : ℕ → ℕ) → List Kept → Decoded → Option Value
denoted_by heap kept (NumberWord n) = Some (Number n)
denoted_by heap kept (PointerWord address) = reference_to (named_in heap kept (decode (heap address)))
denoted_by heap kept _ = None

unfoldable pub denoted_in : (heap : ℕ → ℕ) → List Kept → ℕ → Option Value
denoted_in heap kept word = denoted_by heap kept (decode word)

-- the value that a word denotes in a configuration
abbrev pub denoted : Configuration → ℕ → Option Value
denoted c = denoted_in (table c).heap (kept_of c.workers)
