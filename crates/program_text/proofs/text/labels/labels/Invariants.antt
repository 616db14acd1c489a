use Rattle.std.proofs.Common.{◌≡◌, ◌≤◌, List, ℕ, drop}
use Rattle.std.specs.Option.{option_or}
use Rattle.program_text.specs.Labels.{get_place}
use Rattle.program_text.specs.Read.{lines_view}
use Rattle.program_text.proofs.Texts.Labels.{place_from}
use Rattle.program_text.proofs.text.labels.labels.Given as goal

abbrev pub invariant-loop-at : goal.invariant-loop-at
invariant-loop-at l = record {
  few : l.instrs ≤ l.at;
  rest : (name : List ℕ) → option_or (get_place l.labels name) (place_from l.at l.instrs (lines_view (drop l.at l.lines)) name) ≡ place_from 0 0 (lines_view l.lines) name;
}
