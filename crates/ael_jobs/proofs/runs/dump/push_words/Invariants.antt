use Rattle.std.proofs.Common.{◌≡◌, ◌++◌, drop, codes}
use Rattle.std.specs.List.{flat_map}
use Rattle.std.specs.String.{string_bytes}
use Rattle.dump_text.specs.Text.{word_text}
use Rattle.ael_jobs.proofs.runs.dump.push_words.Given as goal

abbrev pub invariant-loop-word : goal.invariant-loop-word
invariant-loop-word l =
    string_bytes l.out ++ flat_map (λ w. codes " " ++ word_text w) (drop l.word-index l.rest)
    ≡ string_bytes l.initial.out ++ flat_map (λ w. codes " " ++ word_text w) l.rest
