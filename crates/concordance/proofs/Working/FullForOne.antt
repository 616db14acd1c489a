-- The heap was full for one of some clerks.
use Rattle.std.proofs.Common.{◌≡◌, ℕ, suc, ◌+◌, List, ◌∷◌, Result, Ok, Err, sym, ◌∙◌, ap, subst, arith, slice_get}
use Rattle.std.specs.Prelude.{IfErr}
use Rattle.std.specs.Result.{result_and}
use Rattle.concordance_text.specs.declared.part.Part.{Part}
use Rattle.concordance_text.specs.Parts.{mentions_of_part}
use Rattle.concordance.specs.declared.clerk.Full.{Full}
use Rattle.concordance.specs.Full.{WasFullFor}
use Rattle.concordance.specs.Working.{WasFullForOne, SharedHeap}

-- what is told if the heap was full for the clerk with this number, or for one of those from this number on
abbrev pub TellsFull : SharedHeap → ℕ → Part → Result (Unit {0}) Full → Type 0
TellsFull w k part r = IfErr r (λ full. WasFullFor w.plan k (mentions_of_part part) full.asked full.room)

abbrev pub TellsFullForOne : SharedHeap → ℕ → List Part → Result (Unit {0}) Full → Type 0
TellsFullForOne w from parts r = IfErr r (λ full. WasFullForOne w from parts full.asked full.room)

module _ (w : SharedHeap) (from : ℕ) (part : Part) (others parts : List Part) (cut : parts ≡ part ∷ others) where
  -- for the first of them, or for another
  full_here : (full : Full) → WasFullFor w.plan from (mentions_of_part part) full.asked full.room → WasFullForOne w from parts full.asked full.room
  full_here full h = record {
    place = 0;
    part = part;
    is = ap (λ (ps : List Part). slice_get ps 0) cut;
    full = subst (λ (k : ℕ). WasFullFor w.plan k (mentions_of_part part) full.asked full.room) (omega arith) h;
  }

  full_there : (full : Full) → WasFullForOne w (from + 1) others full.asked full.room → WasFullForOne w from parts full.asked full.room
  full_there full h = record {
    place = suc h.place;
    part = h.part;
    is = ap (λ (ps : List Part). slice_get ps (suc h.place)) cut ∙ h.is;
    full = subst (λ (k : ℕ). WasFullFor w.plan k (mentions_of_part h.part) full.asked full.room) (omega arith) h.full;
  }

  pub first_full : (r : Result (Unit {0}) Full) → TellsFull w from part r → TellsFullForOne w from parts r
  first_full (Ok x) h = tt
  first_full (Err full) h = full_here full h

  other_full : (r : Result (Unit {0}) Full) → TellsFullForOne w (from + 1) others r → TellsFullForOne w from parts r
  other_full (Ok x) h = tt
  other_full (Err full) h = full_there full h

  -- as either of two answers tells
  pub either_full : (one more both : Result (Unit {0}) Full) → both ≡ result_and one more → TellsFull w from part one → TellsFullForOne w (from + 1) others more → TellsFullForOne w from parts both
  either_full (Ok x) more both is first other = subst (TellsFullForOne w from parts) (sym is) (other_full more other)
  either_full (Err full) more both is first other = subst (TellsFullForOne w from parts) (sym is) (full_here full first)
