-- The access check: which page words let a mutator through.
use Rattle.std.specs.Prelude.{ℕ, Option, Some, None, ◌==◌, if◌then◌else◌}
use Rattle.space_map.specs.declared.page_word.PageWord.{PageWord}
use Rattle.space_map.specs.declared.page_word.PageWord.TheVariants.{Unset, Open, Scanning}
use Rattle.mmu_model.specs.declared.protection.Protection.{Protection}
use Rattle.mmu_model.specs.declared.protection.Protection.TheVariants.{Allowed, Fault}

-- the answer for a page whose word says this, in an epoch
abbrev pub protection_of : ℕ → Option PageWord → ℕ → Protection
protection_of page (Some Unset) epoch = Fault page
protection_of page (Some (Open opened)) epoch = if opened == epoch then Allowed else Fault page
protection_of page (Some (Scanning scanned worker)) epoch = Fault page
protection_of page None epoch = Fault page
