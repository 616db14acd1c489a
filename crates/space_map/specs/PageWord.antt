-- The format of a page word.
use Rattle.std.specs.Prelude.{ℕ, ◌+◌, ◌*◌, ◌/◌, ◌%◌, ◌^◌, ◌<◌, ◌≤◌, ⊤, Option, Some, None, ◌&&◌, nat_lt, if◌then◌else◌}
use Rattle.std.proofs.Common.{zero, suc}
use Rattle.space_map.specs.declared.page_word.PageWord.{PageWord}
use Rattle.space_map.specs.declared.page_word.PageWord.TheVariants.{Unset, Open, Scanning}

-- each part is in the range that its bits can say
abbrev pub PageFits : PageWord → Type 0
PageFits Unset = ⊤
PageFits (Open epoch) = epoch < 2 ^ 32
PageFits (Scanning epoch worker) = (epoch < 2 ^ 32) × (worker < 2 ^ 8)

-- the word that says this: 2 bits of state, 8 of worker, 6 bits 0, then 32 of epoch
unfoldable pub encode_page : PageWord → ℕ
encode_page Unset = 0
encode_page (Open epoch) = 1 + 2 ^ 16 * epoch
encode_page (Scanning epoch worker) = 2 + 4 * worker + 2 ^ 16 * epoch

-- what a state, a worker and an epoch say together: only a page that is scanned has a worker
abbrev pub page_said : (state worker epoch : ℕ) → Option PageWord
page_said zero zero zero = Some Unset
page_said (suc zero) zero epoch = Some (Open epoch)
page_said (suc (suc zero)) worker epoch = Some (Scanning epoch worker)
page_said _ _ _ = None

-- what a word says, if it is a page word
unfoldable pub decode_page : ℕ → Option PageWord
decode_page w =
    if nat_lt (w / 4 % 2 ^ 14) (2 ^ 8) && nat_lt w (2 ^ 48) then page_said (w % 4) (w / 4 % 2 ^ 14) (w / 2 ^ 16) else None

-- the age of a page word: its epoch and one more, or 0 where it has none
abbrev pub age_of : PageWord → ℕ
age_of Unset = 0
age_of (Open epoch) = epoch + 1
age_of (Scanning epoch worker) = epoch + 1

-- the page word has no epoch, or one before this
abbrev pub IsEarlier : PageWord → ℕ → Type 0
IsEarlier page epoch = age_of page ≤ epoch
