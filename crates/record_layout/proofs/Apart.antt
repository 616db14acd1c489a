-- What reads as a header, as a forward or as a busy word reads as nothing else.
use Rattle.std.proofs.Common.{IsSome, IsNone, refl}
use Rattle.heap_words.specs.Decoded.{Decoded, HeaderWord, ForwardWord, BusyWord}
use Rattle.record_layout.specs.Layout.{header_in, forward_in, busy_in, IsNoValue}

pub header_in-alone : (d : Decoded) → IsSome (header_in d) → IsNone (forward_in d) × IsNone (busy_in d) × IsNoValue d
unfolding header_in forward_in busy_in
header_in-alone (HeaderWord kind len serial mutator) is = (refl, refl, (refl, refl))
header_in-alone _ is = cc

pub forward_in-alone : (d : Decoded) → IsSome (forward_in d) → IsNone (header_in d) × IsNone (busy_in d) × IsNoValue d
unfolding header_in forward_in busy_in
forward_in-alone (ForwardWord len address) is = (refl, refl, (refl, refl))
forward_in-alone _ is = cc

pub busy_in-alone : (d : Decoded) → IsSome (busy_in d) → IsNone (header_in d) × IsNone (forward_in d) × IsNoValue d
unfolding header_in forward_in busy_in
busy_in-alone (BusyWord len worker) is = (refl, refl, (refl, refl))
busy_in-alone _ is = cc
