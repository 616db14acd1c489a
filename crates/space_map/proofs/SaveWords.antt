-- A save word says what it was made from, and nothing else is made as that word.
use Rattle.std.proofs.Common.{◌≡◌, ◌≢◌, ℕ, zero, suc, ◌+◌, ◌*◌, ◌^◌, ◌<◌, Option, Some, IfSome, IfNone, refl, arith}
use Rattle.space_map.specs.declared.save_word.SaveWord.{SaveWord}
use Rattle.space_map.specs.declared.save_word.SaveWord.TheVariants.{Unsaved, Saving, Saved, New}
use Rattle.space_map.specs.SaveWord.{SaveFits, save_said, decode_save, encode_save}
use Rattle.space_map.proofs.StateWords
use Rattle.space_map.proofs.StateWords.{Parts}

-- ---- what is made reads back

pub decode_save-encode_save : (save : SaveWord) → SaveFits save → decode_save (encode_save save) ≡ Some save
unfolding decode_save encode_save
decode_save-encode_save Unsaved fits = StateWords.read-parts save_said 0 0 0 0 refl (omega arith) (omega arith) (omega arith)
decode_save-encode_save (Saving number worker) fits =
    StateWords.read-parts save_said (1 + 4 * worker + 2 ^ 16 * number) 1 worker number refl (omega arith) fits.1 fits.0
decode_save-encode_save (Saved number) fits =
    StateWords.read-parts save_said (2 + 2 ^ 16 * number) 2 0 number (omega arith) (omega arith) (omega arith) fits
decode_save-encode_save (New number) fits =
    StateWords.read-parts save_said (3 + 2 ^ 16 * number) 3 0 number (omega arith) (omega arith) (omega arith) fits

pub encode_save-lt : (save : SaveWord) → SaveFits save → encode_save save < 2 ^ 48
unfolding encode_save
encode_save-lt Unsaved fits = omega arith
encode_save-lt _ fits = omega arith

-- ---- from the word decoded

parts_said : (state worker number : ℕ) (save : SaveWord) → save_said state worker number ≡ Some save → Parts encode_save SaveFits save state worker number
unfolding encode_save
parts_said zero zero zero Unsaved is = record { spelled = refl; fits = λ a b. tt }
parts_said (suc zero) worker number (Saving c k) is =
    let same : number ≡ c = cc in
    let same_worker : worker ≡ k = cc in
    record { spelled = omega arith; fits = λ a b. (omega arith, omega arith) }
parts_said (suc (suc zero)) zero number (Saved c) is =
    let same : number ≡ c = cc in record { spelled = omega arith; fits = λ a b. omega arith }
parts_said (suc (suc (suc zero))) zero number (New c) is =
    let same : number ≡ c = cc in record { spelled = omega arith; fits = λ a b. omega arith }
parts_said _ _ _ _ is = cc

pub encode_save-decode_save : (w : ℕ) (save : SaveWord) → decode_save w ≡ Some save → encode_save save ≡ w
unfolding decode_save
encode_save-decode_save = StateWords.encode-read save_said encode_save SaveFits parts_said

pub SaveFits-decode_save : (w : ℕ) (save : SaveWord) → decode_save w ≡ Some save → SaveFits save
unfolding decode_save
SaveFits-decode_save = StateWords.Fits-read save_said encode_save SaveFits parts_said

-- ---- from what was read

pub spelled : (w : ℕ) (said : Option SaveWord) → said ≡ decode_save w → IfSome said (λ save. encode_save save ≡ w)
spelled = StateWords.spelled decode_save encode_save encode_save-decode_save

pub no_save_word : (w : ℕ) (said : Option SaveWord) → said ≡ decode_save w
    → IfNone said ((save : SaveWord) → SaveFits save → encode_save save ≢ w)
no_save_word = StateWords.no_word decode_save encode_save SaveFits decode_save-encode_save
