-- What the code reads in the first word at an address is what the scan makes of it.
use Rattle.std.proofs.Common.{◌≡◌, ℕ, ◌+◌, Bool, Some, None, refl, sym, ap, ◌∙◌}
use Rattle.atom_store.specs.declared.turn.Turn.TheVariants.{More}
use Rattle.heap_words.specs.Decoded.{Decoded, HeaderWord, decode, encode}
use Rattle.heap_words.proofs.Decoding.{decode-header_word}
use Rattle.record_layout.specs.declared.header.Header.{Header}
use Rattle.record_layout.specs.Layout.{header_in, header_says}
use Rattle.record_layout.proofs.Rereading.{header_in-said}
use Rattle.page_scan.specs.declared.scan_stage.ScanStage.{ScanStage}
use Rattle.page_scan.specs.declared.scan_stage.ScanStage.TheVariants.{Asks, Ended}
use Rattle.page_scan.specs.Scanning.{HasStep}
use Rattle.page_scan.specs.Taken.{by_header, by_kind, told}

pub by_header-header : (page : ℕ) (in_place : Bool) (at : ℕ) (stage : ScanStage) (w : ℕ) (h : Header) → w ≡ encode (header_says h)
    → by_header page in_place at stage (decode w) ≡ by_kind page in_place at h.kind (h.len + 1)
by_header-header page in_place at stage w h spelled =
    ap (by_header page in_place at stage) (ap decode spelled ∙ decode-header_word h.kind h.len h.serial h.mutator h.short h.counted)

no_header : (page : ℕ) (in_place : Bool) (at : ℕ) (stage : ScanStage) (w : ℕ) (d : Decoded) → decode w ≡ d → header_in (decode w) ≡ None
    → by_header page in_place at stage d ≡ stage
no_header page in_place at stage w (HeaderWord kind len serial mutator) e none =
    let h = header_in-said w kind len serial mutator e in absurd (let z : None ≡ Some h.0 = sym none ∙ h.1 in cc)
no_header page in_place at stage w _ e none = refl

pub by_header-none : (page : ℕ) (in_place : Bool) (at : ℕ) (stage : ScanStage) (w : ℕ) → None ≡ header_in (decode w)
    → by_header page in_place at stage (decode w) ≡ stage
by_header-none page in_place at stage w none = no_header page in_place at stage w (decode w) refl (sym none)

-- a scan that has a next step tells nothing
pub told-HasStep : (x : ScanStage) → HasStep x → told x ≡ More
told-HasStep (Asks asked) going = absurd going
told-HasStep (Ended ending) going = absurd going
told-HasStep _ going = refl
