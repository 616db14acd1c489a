-- A page word says what it was made from, and nothing else is made as that word.
use Rattle.std.proofs.Common.{◌≡◌, ◌≢◌, ℕ, zero, suc, ◌+◌, ◌*◌, ◌^◌, ◌<◌, Option, Some, IfSome, IfNone, refl, arith}
use Rattle.space_map.specs.declared.page_word.PageWord.{PageWord}
use Rattle.space_map.specs.declared.page_word.PageWord.TheVariants.{Unset, Open, Scanning}
use Rattle.space_map.specs.PageWord.{PageFits, page_said, decode_page, encode_page}
use Rattle.space_map.proofs.StateWords
use Rattle.space_map.proofs.StateWords.{Parts}

-- ---- what is made reads back

pub decode_page-encode_page : (page : PageWord) → PageFits page → decode_page (encode_page page) ≡ Some page
unfolding decode_page encode_page
decode_page-encode_page Unset fits = StateWords.read-parts page_said 0 0 0 0 refl (omega arith) (omega arith) (omega arith)
decode_page-encode_page (Open epoch) fits =
    StateWords.read-parts page_said (1 + 2 ^ 16 * epoch) 1 0 epoch (omega arith) (omega arith) (omega arith) fits
decode_page-encode_page (Scanning epoch worker) fits =
    StateWords.read-parts page_said (2 + 4 * worker + 2 ^ 16 * epoch) 2 worker epoch refl (omega arith) fits.1 fits.0

pub encode_page-lt : (page : PageWord) → PageFits page → encode_page page < 2 ^ 48
unfolding encode_page
encode_page-lt Unset fits = omega arith
encode_page-lt _ fits = omega arith

-- ---- from the word decoded

parts_said : (state worker epoch : ℕ) (page : PageWord) → page_said state worker epoch ≡ Some page → Parts encode_page PageFits page state worker epoch
unfolding encode_page
parts_said zero zero zero Unset is = record { spelled = refl; fits = λ a b. tt }
parts_said (suc zero) zero epoch (Open e) is =
    let same : epoch ≡ e = cc in record { spelled = omega arith; fits = λ a b. omega arith }
parts_said (suc (suc zero)) worker epoch (Scanning e k) is =
    let same : epoch ≡ e = cc in
    let same_worker : worker ≡ k = cc in
    record { spelled = omega arith; fits = λ a b. (omega arith, omega arith) }
parts_said _ _ _ _ is = cc

pub encode_page-decode_page : (w : ℕ) (page : PageWord) → decode_page w ≡ Some page → encode_page page ≡ w
unfolding decode_page
encode_page-decode_page = StateWords.encode-read page_said encode_page PageFits parts_said

pub PageFits-decode_page : (w : ℕ) (page : PageWord) → decode_page w ≡ Some page → PageFits page
unfolding decode_page
PageFits-decode_page = StateWords.Fits-read page_said encode_page PageFits parts_said

-- ---- from what was read

pub spelled : (w : ℕ) (said : Option PageWord) → said ≡ decode_page w → IfSome said (λ page. encode_page page ≡ w)
spelled = StateWords.spelled decode_page encode_page encode_page-decode_page

pub no_page_word : (w : ℕ) (said : Option PageWord) → said ≡ decode_page w
    → IfNone said ((page : PageWord) → PageFits page → encode_page page ≢ w)
no_page_word = StateWords.no_word decode_page encode_page PageFits decode_page-encode_page
