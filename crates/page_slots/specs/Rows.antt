-- Worked rows of the claim and the opening, in a heap of 4 pages a space: each step with its reply, words as numbers.
use Rattle.std.specs.Prelude.{ℕ, ◌+◌, ◌++◌, List, [], ◌∷◌, true, false}
use Rattle.std.proofs.Common.{zero, suc}
use Rattle.atom_store.specs.declared.step.Step.{Step}
use Rattle.atom_store.specs.declared.step.Step.TheVariants.{Load, Store, Exchange}
use Rattle.atom_store.specs.declared.reply.Reply.{Reply}
use Rattle.atom_store.specs.declared.reply.Reply.TheVariants as reply
use Rattle.atom_store.specs.Machine.{RunsTo}
use Rattle.space_map.specs.declared.page_word.PageWord.TheVariants as page_word
use Rattle.space_map.specs.Worked.{four_pages}
use Rattle.page_slots.specs.declared.claimed.Claimed.TheVariants as claimed
use Rattle.page_slots.specs.Claim.{Claiming, begun, claim_machine}
use Rattle.page_slots.specs.Open as opening

-- page 4, the first of space 1, claimed by worker 3 in epoch 1 when nobody has opened it yet
abbrev pub claim_of_page_4 : Claiming
claim_of_page_4 = begun four_pages 4 1 3 page_word.Unset false

-- so many announced words in a row, from this place on, that are all 0
abbrev pub nothing_announced : (place count : ℕ) → List (Step × Reply)
nothing_announced place zero = []
nothing_announced place (suc count) = (Load place, reply.Value 0) ∷ nothing_announced (place + 1) count

-- a full page is claimed after 24 looks at announced places, and one at the gate
abbrev pub FullPageIsClaimed : Type 0
FullPageIsClaimed =
    RunsTo claim_machine claim_of_page_4
    (nothing_announced 609 24 ++ ((Load 0, reply.Value 0x0000_0001_0000_0001) ∷ (Exchange 20 0 65550, reply.Won) ∷ [])) claimed.Won

-- a copy that is announced at the page's last word hinders it, one at the next page's first word doesn't
abbrev pub AnnouncedPlaceHinders : Type 0
AnnouncedPlaceHinders =
    RunsTo claim_machine claim_of_page_4 ((Load 609, reply.Value 0) ∷ (Load 610, reply.Value 321) ∷ (Load 611, reply.Value 320) ∷ []) (claimed.Taken 320)

-- a gate of the next epoch hinders it
abbrev pub LaterGateHinders : Type 0
LaterGateHinders =
    RunsTo claim_machine claim_of_page_4 (nothing_announced 609 24 ++ ((Load 0, reply.Value 0x0001_0001_0000_0002) ∷ [])) (claimed.Taken 0x0001_0001_0000_0002)

-- another worker may win the page, here as the filling one, which needs no looks
abbrev pub LostClaimEnds : Type 0
LostClaimEnds = RunsTo claim_machine (begun four_pages 4 1 3 page_word.Unset true) ((Exchange 20 0 65550, reply.Lost 65542) ∷ []) (claimed.Taken 65542)

-- a page is opened by one store
abbrev pub PageIsOpened : Type 0
PageIsOpened =
    (RunsTo opening.open_machine (opening.begun four_pages 8 1) ((Store 24 65537, reply.Done) ∷ []) (record {}))
    × (RunsTo opening.open_machine (opening.begun four_pages 4 1) ((Store 20 65537, reply.Done) ∷ []) (record {}))

-- the board is claimed by worker 1 in epoch 1, from OPEN of epoch 0
abbrev pub BoardIsClaimed : Type 0
BoardIsClaimed =
    RunsTo claim_machine (begun four_pages 8 1 1 (page_word.Open 0) false) ((Load 0, reply.Value 0x0000_0001_0000_0001) ∷ (Exchange 24 1 65542, reply.Won) ∷ []) claimed.Won

-- and the filling page
abbrev pub FillingPageIsClaimed : Type 0
FillingPageIsClaimed = RunsTo claim_machine (begun four_pages 4 1 1 page_word.Unset true) ((Exchange 20 0 65542, reply.Won) ∷ []) claimed.Won

-- a page that was opened in a later epoch meanwhile isn't claimed
abbrev pub LaterEpochWins : Type 0
LaterEpochWins = RunsTo claim_machine (begun four_pages 4 1 3 page_word.Unset true) ((Exchange 20 0 65550, reply.Lost 131073) ∷ []) (claimed.Taken 131073)
