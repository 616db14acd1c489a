-- What stays of a plain state of which cells are emptied.
use Rattle.std.proofs.Common.{◌≡◌, ℕ, Bool, true, false, List, length, refl, ◌∙◌}
use Rattle.plain_state.specs.declared.value.Identity.{Identity}
use Rattle.plain_state.specs.declared.value.Value.TheVariants.{Number}
use Rattle.plain_state.specs.State as plain
use Rattle.plain_state.specs.State.{Plain, serial_of}
use Rattle.plain_state.proofs.Stored.{stored_makers, stored_serial}
use Rattle.plain_heap.specs.Calls.{KeepsCheckpoint}
use Rattle.plain_heap.specs.Emptied.{cells_to_empty, emptied}
use Rattle.plain_heap.specs.Records.{record_word, shape_of}
use Rattle.plain_heap.proofs.Calls.RecordsAfterCalls.{cell_word, stored_shape}
use Rattle.plain_heap.proofs.Reaching.Emptying.{all-keep}
use Rattle.gc_worker.specs.Laws.Between.{LeavesTheOthers}
use Rattle.gc_worker.specs.Laws.Represented.{HasKept}
use Rattle.gc_worker.specs.Plain.Answer.{with_emptied}

-- what the mark `Traced` does
pub emptied_is : (o p : Plain) → emptied o p ≡ with_emptied p (cells_to_empty o)
unfolding emptied
emptied_is o p = refl

-- ---- what stays

module _ (p : Plain) (cells : List Identity) where
  abbrev q : Plain
  q = with_emptied p cells

  pub same_board : q.heap.board ≡ p.heap.board
  same_board = all-keep (λ (h : plain.Heap). h.board ≡ p.heap.board) (λ heap i r found cell same. same) cells p.heap refl

  pub same_snaps : q.heap.snaps ≡ p.heap.snaps
  same_snaps = all-keep (λ (h : plain.Heap). h.snaps ≡ p.heap.snaps) (λ heap i r found cell same. same) cells p.heap refl

  pub same_snapped : q.heap.snapped ≡ p.heap.snapped
  same_snapped = all-keep (λ (h : plain.Heap). h.snapped ≡ p.heap.snapped) (λ heap i r found cell same. same) cells p.heap refl

  pub same_checkpoint : KeepsCheckpoint p.heap q.heap
  same_checkpoint = record { snaps = same_snaps; snapped = same_snapped }

  pub same_makers : length q.heap.records ≡ length p.heap.records
  same_makers = all-keep (λ (h : plain.Heap). length h.records ≡ length p.heap.records) (λ heap i r found cell same. stored_makers heap i r 0 (Number 0) found ∙ same) cells p.heap refl

  pub same_serial : (m : ℕ) → serial_of q.heap m ≡ serial_of p.heap m
  same_serial m = all-keep (λ (h : plain.Heap). serial_of h m ≡ serial_of p.heap m) (λ heap i r found cell same. stored_serial heap i r 0 (Number 0) found m ∙ same) cells p.heap refl

  -- no word that is loaded and stored
  pub same_word : (i : Identity) (x : ℕ) → record_word q.heap i x ≡ record_word p.heap i x
  same_word i x = all-keep (λ (h : plain.Heap). record_word h i x ≡ record_word p.heap i x) (λ heap j r found cell same. cell_word heap j r 0 (Number 0) found i cell x ∙ same) cells p.heap refl

  pub same_shape : (i : Identity) → shape_of q.heap i ≡ shape_of p.heap i
  same_shape i = all-keep (λ (h : plain.Heap). shape_of h i ≡ shape_of p.heap i) (λ heap j r found cell same. stored_shape heap j r 0 (Number 0) found i ∙ same) cells p.heap refl

  pub same_others : (k : ℕ) → LeavesTheOthers p q k
  same_others k = record { as_many = refl; mutator = λ j other. refl; serial = λ j other. same_serial j }

-- ---- what is kept of checkpoints

pub kept_if : (p : Plain) (cells : List Identity) (checkpoints : Bool) → HasKept checkpoints p (with_emptied p cells)
kept_if p cells true = same_checkpoint p cells
kept_if p cells false = tt
