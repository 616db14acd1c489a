-- The first words of records: headers, and what stands in place of one.
use Rattle.std.specs.Prelude.{ℕ, ◌^◌, ◌<◌, ◌≤◌, Option, Some, None, IsNone}
use Rattle.std.proofs.Math.Decide.{dec_le, dec_lt}
use Rattle.heap_words.specs.declared.kind.Kind.{Kind}
use Rattle.heap_words.specs.Decoded.{Decoded, NumberWord, PointerWord, HeaderWord, ForwardWord, BusyWord, Malformed, number_in, pointer_in}
use Rattle.record_layout.specs.declared.header.Header.{Header}
use Rattle.record_layout.specs.declared.forward.Forward.{Forward}
use Rattle.record_layout.specs.declared.busy.Busy.{Busy}

-- ---- what their words say

abbrev pub header_says : Header → Decoded
header_says h = HeaderWord h.kind h.len h.serial h.mutator

abbrev pub forward_says : Forward → Decoded
forward_says f = ForwardWord f.len f.addr

abbrev pub busy_says : Busy → Decoded
busy_says b = BusyWord b.len b.worker

-- ---- what a word is

-- the header with these parts, if they are in range
abbrev pub header_with : (kind : Kind) (len serial mutator : ℕ) → Dec (len ≤ 4095) → Dec (serial < 2 ^ 40) → Option Header
header_with kind len serial mutator (yes is_short) (yes is_counted) =
    Some (record { kind = kind; len = len; serial = serial; mutator = mutator; short = is_short; counted = is_counted })
header_with kind len serial mutator (yes is_short) (no uncounted) = None
header_with kind len serial mutator (no long) counts = None

-- the header that the word is, if it is one
unfoldable pub header_in : Decoded → Option Header
header_in (HeaderWord kind len serial mutator) = header_with kind len serial mutator (dec_le len 4095) (dec_lt serial (2 ^ 40))
header_in (NumberWord n) = None
header_in (PointerWord address) = None
header_in (ForwardWord len address) = None
header_in (BusyWord len worker) = None
header_in Malformed = None

-- the forward with these parts, if they are in range
abbrev pub forward_with : (len address : ℕ) → Dec (len ≤ 4095) → Option Forward
forward_with len address (yes is_short) = Some (record { len = len; addr = address; short = is_short })
forward_with len address (no long) = None

-- the forward that the word is, if it is one
unfoldable pub forward_in : Decoded → Option Forward
forward_in (ForwardWord len address) = forward_with len address (dec_le len 4095)
forward_in (NumberWord n) = None
forward_in (PointerWord address) = None
forward_in (HeaderWord kind len serial mutator) = None
forward_in (BusyWord len worker) = None
forward_in Malformed = None

-- the busy word with these parts, if they are in range
abbrev pub busy_with : (len worker : ℕ) → Dec (len ≤ 4095) → Option Busy
busy_with len worker (yes is_short) = Some (record { len = len; worker = worker; short = is_short })
busy_with len worker (no long) = None

-- the busy word that the word is, if it is one
unfoldable pub busy_in : Decoded → Option Busy
busy_in (BusyWord len worker) = busy_with len worker (dec_le len 4095)
busy_in (NumberWord n) = None
busy_in (PointerWord address) = None
busy_in (HeaderWord kind len serial mutator) = None
busy_in (ForwardWord len address) = None
busy_in Malformed = None

-- the word is no number and no pointer
abbrev pub IsNoValue : Decoded → Type 0
IsNoValue d = IsNone (number_in d) × IsNone (pointer_in d)
