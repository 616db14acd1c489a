-- What the code reads in a word of the board, or in a field, is what the scan makes of it.
use Rattle.std.proofs.Common.{◌≡◌, ℕ, Bool, Some, None, refl}
use Rattle.heap_words.specs.Decoded.{Decoded, PointerWord, pointer_in}
use Rattle.space_map.specs.Spaces.{Layout}
use Rattle.page_scan.specs.declared.spot.Spot.{Spot}
use Rattle.page_scan.specs.Taken.{by_word, passes_word}

pub pointer-is : (address : ℕ) (d : Decoded) → Some address ≡ pointer_in d → d ≡ PointerWord address
pointer-is address (PointerWord a) is = cc
pointer-is address _ is = absurd (cc)

pub by_word-none : (l : Layout) (page epoch : ℕ) (in_place : Bool) (spot : Spot) (d : Decoded) → None ≡ pointer_in d
    → by_word l page epoch in_place spot d ≡ passes_word page in_place spot
by_word-none l page epoch in_place spot (PointerWord a) none = absurd (cc)
by_word-none l page epoch in_place spot _ none = refl
