-- The records that were copied in a dump's epoch.
use Rattle.std.specs.Prelude.{◌≡◌, ℕ, ◌^◌, ◌<◌, ◌≤◌, ◌&&◌, ◌↔◌, List, Contains, Option, Some, None, IsTrue, if◌then◌else◌, nat_eq, nat_le, nat_lt}
use Rattle.std.specs.HashSet.{contains}
use Rattle.heap_words.specs.Decoded.{decode}
use Rattle.plain_state.specs.declared.value.Identity.{Identity}
use Rattle.record_layout.specs.declared.header.Header.{Header}
use Rattle.record_layout.specs.Layout.{header_in}
use Rattle.heap_state.specs.Cycles.Copies.{copied_in}
use Rattle.heap_state.specs.Meaning.Denotes.{named_by}
use Rattle.heap_state.specs.Meaning.Dump.{Dump}
use Rattle.heap_state.specs.Meaning.Represents.{IsInHeap}
use Rattle.heap_state.specs.Memory.Walk.{Walked}
use Rattle.heap_audit.specs.Records.{key_of}
use Rattle.heap_audit.specs.Told.{MayHaveEmptied}
use Rattle.heap_audit.specs.declared.records.copied_records.CopiedRecords.{CopiedRecords}
use Rattle.heap_audit.specs.declared.told_heap.Extent.{Extent}

-- the header in its place of a record at an address, if it lies among the copies of this space
abbrev pub header_copied : Dump → Extent → ℕ → Option Header
header_copied d space a = if nat_le space.start a && nat_lt a space.front then header_in (decode (d.table.heap a)) else None

-- one of these records lies among the copies of this space, and the header in its place names the identity
pub record IsCopyAmong (d : Dump) (space : Extent) (ws : List Walked) (i : Identity) : Type 0 where
  pub copy : Walked
  pub among : Contains ws copy
  pub lies : (space.start ≤ copy.at) × (copy.at < space.front)
  pub named : named_by (decode (d.table.heap copy.at)) ≡ Some i

-- a record that was copied in this epoch has the identity
abbrev pub HasCopy : Dump → Identity → Type 0
HasCopy d i = (w : Walked) × Contains (copied_in d.table d.kept) w × (named_by (decode (d.table.heap w.at)) ≡ Some i)

-- Of the records in the heap those were copied that begin from `start` on, before `front`. If a cell may have been emptied, the numbers of
-- their identities are those that are named.
pub record AreCopied (d : Dump) (copied : CopiedRecords) : Type 0 where
  pub lie : (w : Walked) → IsInHeap d w → ((copied.start ≤ w.at) × (w.at < copied.front)) ↔ Contains (copied_in d.table d.kept) w
  pub named : MayHaveEmptied d.table → (i : Identity) → i.serial < 2 ^ 40 → IsTrue (contains nat_eq copied.named (key_of i)) ↔ HasCopy d i
