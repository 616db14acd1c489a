-- The crossing of the page that is scanned is loaded.
use Rattle.std.proofs.Common.{◌≡◌, ℕ, ◌*◌, ◌/◌, ◌<◌, None, refl, ap, arith}
use Rattle.plain_state.specs.State.{Plain}
use Rattle.atom_store.specs.declared.step.Step.TheVariants.{Load}
use Rattle.atom_store.specs.declared.reply.Reply.TheVariants.{Value}
use Rattle.space_map.specs.Table.{Cross, place_of}
use Rattle.page_scan.specs.Scanning.{Scanning}
use Rattle.page_scan.specs.declared.scan_stage.ScanStage.TheVariants as scan_stage
use Rattle.heap_state.specs.Configuration.{Configuration, Stands, era, memory, team, table}
use Rattle.heap_state.specs.Memory.Table.{table_of, word_in}
use Rattle.heap_state.specs.Known.{Known}
use Rattle.heap_laws.specs.Answers.{ScanAnswers}
use Rattle.heap_laws.specs.Scanning.Words.{IsScanning}
use Rattle.heap_laws.proofs.Lifting.Configurations.{board_at}
use Rattle.heap_laws.proofs.Scanning.ScannedRecords.{reads_crossing}
use Rattle.heap_laws.proofs.Steps.Answers.{scans_are_answered}
use Rattle.gc_worker.specs.declared.stage.back.Back.{Back}
use Rattle.gc_worker.specs.declared.stage.Stage.TheVariants.{Scans}
use Rattle.gc_worker.specs.Steps.Goes.{Is, Goes, StepsSo}
use Rattle.gc_worker.specs.Workers.Held.{Held}
use Rattle.gc_worker.specs.Workers.Knows.{knows, scan_of}
use Rattle.gc_worker.specs.Steps.Turned.{turned}
use Rattle.gc_worker.proofs.Stages.Gate.GateWords.{wants}
use Rattle.gc_worker.proofs.Stages.Scan.ScanKnowledge.{going_fits}
use Rattle.gc_worker.proofs.Words.RowSteps.{Law, quiet, loads, prepared}

-- the crossing is the word that stands in its row
pub crossing_word : (c : Configuration) (page : ℕ) → (table c).cross page ≡ word_in c.pages c.words (Cross page)
unfolding table_of
crossing_word c page = refl

module _ (c : Configuration) (p : Plain) (s : Stands c p) (k : ℕ) (y : Held) (v : Scanning) (back : Back) where
  abbrev at_cross : Scanning
  at_cross = record v { stage = scan_stage.LoadsCross }

  abbrev x : Held
  x = record y { stage = Scans at_cross back }

  module _ (is : Is c k x) where
    abbrev word : ℕ
    word = word_in c.pages c.words (Cross v.page)

    in_space : v.page < 2 * c.pages
    in_space = let f = is.fits.stage.0.sound.fits in let l = is.fits.stage.0.layout in let n = is.fits.pages in rw (l, n) at f

    not_board : v.page ≡ (era c).board / 64 → ⊥
    not_board e = let b = board_at c in let i = in_space in omega (arith, b, i, e)

    scans : IsScanning (team c) k (scan_of at_cross scan_stage.LoadsCross)
    scans = record { scans = ap (λ (w : Known). w.scan) is.as_known; asks_nothing = ap (λ (w : Known). w.quest) is.as_known }

    answers : ScanAnswers (era c) (memory c) s.ghost (scan_of at_cross scan_stage.LoadsCross)
    answers = scans_are_answered (era c) (memory c) (team c) s.ghost k (scan_of at_cross scan_stage.LoadsCross) (prepared c p s k x is) scans

    law : Law c p s k x None (knows (turned x (Value word))) s.ghost
    law = rw (is.as_known, crossing_word c v.page) at (reads_crossing (era c) (memory c) (team c) s.ghost k (scan_of at_cross scan_stage.LoadsCross) (prepared c p s k x is) scans not_board)

    below : word < 128 * c.pages
    below = let a = answers.crossing not_board in let e = crossing_word c v.page in let i = in_space in omega (arith, a, e, i)

    goes : Goes c p s k None x (Value word)
    goes =
        let own = is.fits.stage in
        let first : (v.page < 2 * v.layout.pages) × (word < 128 * v.layout.pages) = (own.0.sound.fits, rw (own.0.layout, is.fits.pages) below) in
        quiet c p s k x None (Value word) s.ghost is.below law refl
        (record { pages = own.0.sound.pages; page = own.0.sound.page; fits = first })
        (going_fits x at_cross back c.pages c.mutators k is.fits is.fits.end own.0 own.2 is.fits.side is.fits.task (scan_stage.LoadsFirst word) tt first) tt

    pub crosses : StepsSo c p s k x
    crosses =
        wants c p s k x (Load (place_of c.pages (Cross v.page))) (rw (is.fits.stage.0.layout, is.fits.pages) refl)
        (loads c p s k x (Cross v.page) in_space goes)
