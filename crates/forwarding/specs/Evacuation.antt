-- The copy of one old record by one worker: its stages, and the step that each wants.
use Rattle.std.specs.Prelude.{ℕ, ◌+◌, ◌-◌, ◌==◌, ⊤, Bool, false, Option, Some, None, option_map}
use Rattle.atom_store.specs.declared.step.Step.{Step}
use Rattle.atom_store.specs.StepOn.{StepOn, Load, Store, Exchange, step_at}
use Rattle.heap_words.specs.declared.kind.Kind.{Kind}
use Rattle.heap_words.specs.declared.kind.Kind.TheVariants.{Weak}
use Rattle.heap_words.specs.Word.{forward_word, busy_word}
use Rattle.space_map.specs.declared.area_word.AreaWord.{AreaWord}
use Rattle.space_map.specs.AreaWord.{encode_area}
use Rattle.space_map.specs.Spaces.{Layout, to_space, space_start}
use Rattle.space_map.specs.Table.{Row, Area, WeakHead, Cross, HeapWord, Announce, place_of}
use Rattle.forwarding.specs.declared.kept_header.KeptHeader.{KeptHeader}
use Rattle.forwarding.specs.declared.evac_stage.EvacStage.{EvacStage}
use Rattle.forwarding.specs.declared.evac_stage.EvacStage.TheVariants.{LoadsHeader, TakesHeader, LoadsArea, Announces, Reserves, StoresHeader, LoadsWord, StoresWord, StoresCross, StoresForward, LoadsWeak, StoresLink, TakesWeak, Clears, Ended}

-- the spaces, the old record's address, the epoch whose to-space the copy is made in, the worker, and its stage
pub record Evacuation : Type 0 where
  pub layout : Layout
  pub addr : ℕ
  pub epoch : ℕ
  pub worker : ℕ
  pub stage : EvacStage

-- a machine that has done nothing yet
abbrev pub begun : Layout → (addr epoch worker : ℕ) → Evacuation
begun l addr epoch worker = record { layout = l; addr = addr; epoch = epoch; worker = worker; stage = LoadsHeader }

-- the machine has not given its result
abbrev pub IsGoing : EvacStage → Type 0
IsGoing (Ended to) = ⊥
IsGoing _ = ⊤

-- the number of words of a record with this header
abbrev pub size_of : KeptHeader → ℕ
size_of kept = kept.len + 1

-- a record of this kind and length is a cell: its words are a header, a target and a link
abbrev pub is_cell_of : Kind → ℕ → Bool
is_cell_of Weak len = len == 2
is_cell_of _ len = false

-- the header is a cell's
abbrev pub is_cell : KeptHeader → Bool
is_cell kept = is_cell_of kept.kind kept.len

-- the address of the link of the cell at this one
abbrev pub link_of : ℕ → ℕ
link_of to = to + 2

-- the address of FRONT
abbrev pub front_of : Layout → ℕ → AreaWord → ℕ
front_of l epoch area = space_start l.pages (to_space epoch) + area.front

-- the area once a copy of this size has its room
abbrev pub area_past : ℕ → AreaWord → AreaWord
area_past size area = record { front = area.front + size; low = area.low; owed = area.owed - size }

-- the next step at a stage, by the row that it is on
abbrev pub wants_at : Layout → (addr epoch worker : ℕ) → EvacStage → Option (StepOn Row)
wants_at l a e k LoadsHeader = Some (Load (HeapWord a))
wants_at l a e k (TakesHeader kept) = Some (Exchange (HeapWord a) kept.word (busy_word kept.len k))
wants_at l a e k (LoadsArea kept) = Some (Load (Area (to_space e)))
wants_at l a e k (Announces kept area) = Some (Store (Announce k) (front_of l e area + 1))
wants_at l a e k (Reserves kept area) = Some (Exchange (Area (to_space e)) (encode_area area) (encode_area (area_past (size_of kept) area)))
wants_at l a e k (StoresHeader r) = Some (Store (HeapWord r.to) r.kept.word)
wants_at l a e k (LoadsWord r i) = Some (Load (HeapWord (a + i)))
wants_at l a e k (StoresWord r w) = Some (Store (HeapWord (r.to + w.number)) w.word)
wants_at l a e k (StoresCross r page) = Some (Store (Cross page) r.to)
wants_at l a e k (StoresForward r) = Some (Store (HeapWord a) (forward_word r.kept.len r.to))
wants_at l a e k (LoadsWeak to) = Some (Load WeakHead)
wants_at l a e k (StoresLink to head) = Some (Store (HeapWord (link_of to)) head)
wants_at l a e k (TakesWeak to head) = Some (Exchange WeakHead head (to + 1))
wants_at l a e k (Clears to) = Some (Store (Announce k) 0)
wants_at l a e k (Ended to) = None

abbrev pub wanted_at : Layout → (addr epoch worker : ℕ) → EvacStage → Option Step
wanted_at l a e k stage = option_map (step_at (place_of l.pages)) (wants_at l a e k stage)

-- the next step, if there is one
abbrev pub wanted : Evacuation → Option Step
wanted v = wanted_at v.layout v.addr v.epoch v.worker v.stage
