-- A new record in a mutator's run: its header is stored last, and the words behind it are 0 before, but for a mixed record's count and a
-- cell's target.
use Rattle.heap_laws.specs.Steps.{Ready}
use Rattle.std.specs.Prelude.{◌≡◌, ℕ, ◌+◌, ◌-◌, ◌<◌, ◌≤◌, List, [], ◌∷◌}
use Rattle.plain_state.specs.declared.kind.Kind.{Kind}
use Rattle.plain_state.specs.declared.kind.Kind.TheVariants.{Mixed, Weak}
use Rattle.heap_words.specs.Decoded.{HeaderWord, decode}
use Rattle.heap_words.specs.Word.{number_word}
use Rattle.plain_state.specs.declared.value.Identity.{Identity}
use Rattle.plain_state.specs.Layout.{values_at, words_behind}
use Rattle.plain_state.specs.Writing.{zeros}
use Rattle.heap_state.specs.Memory.Era.{Era, Memory}
use Rattle.heap_state.specs.Functions.{put}
use Rattle.heap_state.specs.Invariant.Ghost.{Ghost, header_kind}
use Rattle.heap_state.specs.Meaning.Values.{Shows, value_of}
use Rattle.heap_state.specs.Memory.FieldSpan.{fields_end}
use Rattle.heap_state.specs.Known.{Team, Stock}
use Rattle.heap_laws.specs.Allocation.Stocks.{HasStock}
use Rattle.space_map.specs.declared.spaces.TheConstants.{PAGE_WORDS}

-- ---- what is placed

-- the identity of the next record of mutator k
abbrev pub next_identity : Team → ℕ → Identity
next_identity team k = record { mutator = k; serial = (team.worker k).account.serial + 1 }

-- a record of this size, kind and identity stands at a
abbrev pub allocated : Ghost → (a size : ℕ) → Kind → Identity → Ghost
allocated g a z c i = record g { size = put g.size a z; writer = put g.writer a 0; kind = put g.kind a c; identity = put g.identity a i }

-- what is stored behind a run's place ahead of the header of a record of this kind: the count of a mixed one; a cell's target, and 0 as its link
abbrev pub stored_ahead : Kind → (target : ℕ) → List ℕ
stored_ahead (Mixed count) target = number_word count ∷ []
stored_ahead Weak target = target ∷ 0 ∷ []
stored_ahead _ target = []

-- ---- the law

-- Worker k runs, and has a run with room for a record of this kind and size, whose header is v; the record holds its fields.
-- What is stored ahead of the header is what its kind asks for, with this target if it is a cell, and less than a page is left behind the
-- record.
pub record PlacesNext (team : Team) (k : ℕ) (q : Stock) (c : Kind) (z v target : ℕ) : Type 0 where
  pub own : HasStock team k q
  pub run : (q.zeroed ≡ q.end) × (q.opened ≡ q.end)
  pub some : values_at c + words_behind c ≤ z
  pub fields : fields_end c z ≤ z
  pub fits : q.at + z ≤ q.end
  pub rest : q.end < q.at + z + PAGE_WORDS
  pub ahead : q.ahead ≡ stored_ahead c target
  pub header : decode v ≡ HeaderWord (header_kind c) (z - 1) ((team.worker k).account.serial + 1) k

-- the words of a run, which are 0 but for those that are stored ahead, show a record whose values all are 0; they show no value of a cell
abbrev pub ZerosShow : Type 0
ZerosShow = (E : Era) (m : Memory) (team : Team) (g : Ghost) (k : ℕ) (q : Stock) (c : Kind) (z v target : ℕ) → Ready E m team g k
    → PlacesNext team k q c z v target → Shows (value_of g.identity) m.heap q.at c z (zeros c (z - (values_at c + words_behind c)))
