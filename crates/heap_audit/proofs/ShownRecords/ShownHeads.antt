-- What the header of a record says of the plain record that the record shows by its head.
use Rattle.std.proofs.Common.{◌≡◌, ◌∙◌, Some, sym, ap}
use Rattle.heap_words.specs.Decoded.{HeaderWord}
use Rattle.plain_state.specs.declared.value.Identity.{Identity}
use Rattle.plain_state.specs.State as plain
use Rattle.record_layout.specs.declared.header.Header.{Header}
use Rattle.heap_state.specs.Invariant.Ghost.{header_kind}
use Rattle.heap_state.specs.Meaning.Dump.{Dump}
use Rattle.heap_state.specs.Meaning.Represents.{own_header}
use Rattle.heap_state.specs.Memory.Walk.{Walked}
use Rattle.heap_audit.specs.Records.{IsShownByHead}

module _ (d : Dump) (p : plain.Plain) (w : Walked) (h : Header) (owned : own_header d w.at ≡ HeaderWord h.kind h.len h.serial h.mutator) (r : plain.Record) (s : IsShownByHead d p w r) where
  same : HeaderWord (header_kind r.kind) s.len s.serial s.mutator ≡ HeaderWord h.kind h.len h.serial h.mutator
  same = sym s.header ∙ owned

  pub shown_kind : header_kind r.kind ≡ h.kind
  shown_kind = let e = same in cc

  same_serial : s.serial ≡ h.serial
  same_serial = let e = same in cc

  same_mutator : s.mutator ≡ h.mutator
  same_mutator = let e = same in cc

  abbrev named : Identity
  named = record { mutator = h.mutator; serial = h.serial }

  abbrev said : Identity
  said = record { mutator = s.mutator; serial = s.serial }

  same_identity : named ≡ said
  same_identity = λ i. record { mutator = sym same_mutator i; serial = sym same_serial i }

  pub shown_record : plain.record_of p.heap named ≡ Some r
  shown_record = ap (λ (i : Identity). plain.record_of p.heap i) same_identity ∙ s.names
