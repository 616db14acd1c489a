-- A value that stands behind its record's header.
use Rattle.std.proofs.Common.{◌≡◌, ℕ, ◌<◌, Some, ◌∙◌, ap}
use Rattle.heap_words.specs.Decoded.{decode, encode}
use Rattle.heap_words.proofs.Decoding.{decode-header_word}
use Rattle.record_layout.specs.declared.header.Header.{Header}
use Rattle.record_layout.specs.Layout.{header_says}
use Rattle.record_access.specs.declared.field_access.Role.{Role}
use Rattle.record_access.specs.StoredValue.{HasStored, role_in}

pub has_stored : (word x : ℕ) (h : Header) (role : Role) → word ≡ encode (header_says h) → role_in h.kind ≡ Some role → x < h.len → HasStored word x role
has_stored word x h role spelled stands has = record {
  kind = h.kind;
  len = h.len;
  serial = h.serial;
  mutator = h.mutator;
  header = ap decode spelled ∙ decode-header_word h.kind h.len h.serial h.mutator h.short h.counted;
  stands = stands;
  has = has;
  short = h.short;
}
